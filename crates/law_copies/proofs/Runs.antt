-- A scan run of a line: its turns are its pages and calls that show nothing, it lists what they show, and a whole one covers its prefix.
use Rattle.std.proofs.Common.{◌≡◌, ℕ, Bool, true, false, ◌&&◌, not, List, [], ◌∷◌, ◌++◌, refl, sym, ap, subst, ◌∙◌, ◌⊎◌, inl, inr, eqb, length}
use Rattle.std.specs.Prelude.{IsTrue, Option, Some, None, if◌then◌else◌, nat_lt, nat_eq}
use Rattle.std.specs.List.{last_or, starts_with}
use Rattle.std.specs.Option.{option_map}
use Rattle.std.specs.Str.{bytes_eq}
use Rattle.std.proofs.lemmas.Bool.{and_from, and_parts, cases_Bool, eqb-true, false≢true, or_left, or_right}
use Rattle.aft_keeper.specs.declared.keeper.KeeperAnswer.{KeeperAnswer}
use Rattle.aft_keeper.specs.declared.keeper.KeeperAnswer.TheVariants.{Page}
use Rattle.aft_keeper.specs.declared.keeper.KeeperCall.TheVariants.{Scan}
use Rattle.aft_keeper.specs.declared.keeper.Pair.{Pair}
use Rattle.aft_keeper.specs.Contents.{is_scanned, name_lt}
use Rattle.aft_model.specs.declared.door.DoorAct.TheVariants.{Call}
use Rattle.aft_model.specs.Evidence.{covers, is_up_to, pairs_by}
use Rattle.aft_model.specs.Membership.{Incarnation, incarnation, same_incarnation}
use Rattle.aft_model.specs.ScanRun.{next_after, page_limit}
use Rattle.aft_model.proofs.Histories.{In, in_append, in_back, in_front}
use Rattle.aft_model.proofs.OneCommit.{same_who}
use Rattle.aft_model.proofs.Sights.{same_bytes}
use Rattle.aft_lines.specs.ScanCourse.{ScanLimit, Scanned, behind_good_page, scanned_from, stopped_at, stops_at}
use Rattle.aft_lines.specs.Turns.{AtDoor, Turn}

last_of : (p : Pair) (ps : List Pair) → (q : Pair) × (last_or (Some p) ps ≡ Some q)
last_of p [] = (p, refl)
last_of p (r ∷ ps) = last_of r ps

module _ (most : ScanLimit) (who : Incarnation) (prefix : List ℕ) where
  -- a page of the run
  pub record OwnPage (turn : Turn) : Type 0 where
    pub place : ℕ
    pub node : ℕ
    pub inc : ℕ
    pub after : List ℕ
    pub pairs : List Pair
    pub is : turn ≡ AtDoor place (Call node inc (Scan prefix after page_limit) (Page pairs))
    pub by : who ≡ incarnation node inc

  -- a scan that shows nothing
  pub record Unshown (turn : Turn) : Type 0 where
    pub place : ℕ
    pub node : ℕ
    pub inc : ℕ
    pub scan : List ℕ
    pub after : List ℕ
    pub limit : ℕ
    pub answer : KeeperAnswer
    pub is : turn ≡ AtDoor place (Call node inc (Scan scan after limit) answer)
    pub nothing : pairs_by (Scan scan after limit) answer ≡ []

  -- a page among some turns that lists a pair
  pub record ListedOn (made : List Turn) (pair : Pair) : Type 0 where
    pub turn : Turn
    pub page : OwnPage turn
    pub among : In turn made
    pub lists : In pair page.pairs

  -- one that covers a name, and lists no more than these
  pub record CoveredOn (made : List Turn) (listed : List Pair) (name : List ℕ) : Type 0 where
    pub turn : Turn
    pub page : OwnPage turn
    pub among : In turn made
    pub covered : IsTrue (covers prefix page.after page_limit page.pairs name)
    pub within : (pair : Pair) → In pair page.pairs → In pair listed

  -- a run behind what was listed before
  pub record Went (after : List ℕ) (listed : List Pair) (line : List Turn) (run : Scanned) : Type 0 where
    pub made : List Turn
    pub splits : line ≡ made ++ run.behind
    pub each : (turn : Turn) → In turn made → OwnPage turn ⊎ Unshown turn
    pub keeps : (pair : Pair) → In pair listed → In pair run.listed
    pub lists : (pair : Pair) → In pair run.listed → In pair listed ⊎ ListedOn made pair
    pub covers_all : IsTrue run.is_whole → (name : List ℕ) → IsTrue (is_scanned prefix after name) → CoveredOn made run.listed name

  -- a run that stops before a turn
  stops_here : (after : List ℕ) (listed : List Pair) (line : List Turn) → Went after listed line (stopped_at listed line)
  stops_here after listed line = record {
    made = [];
    splits = refl;
    each = λ turn among. absurd among;
    keeps = λ pair among. among;
    lists = λ pair among. inl among;
    covers_all = λ is. absurd (false≢true is);
  }

  -- a page covers a name, or the run goes on below it
  onwards : (after : List ℕ) (pairs : List Pair) (name : List ℕ) → IsTrue (is_scanned prefix after name)
      → IsTrue (covers prefix after page_limit pairs name) ⊎ ((next : List ℕ) × (next_after (record { after = after; listed = pairs }) ≡ Some next) × IsTrue (is_scanned prefix next name))
  onwards after [] name here = inl (and_from (is_scanned prefix after name) true here refl)
  onwards after (p ∷ ps) name here = by_length (nat_lt (length (p ∷ ps)) page_limit) refl
    where
      last : (q : Pair) × (last_or (Some p) ps ≡ Some q)
      last = last_of p ps

      by_length : (short : Bool) → nat_lt (length (p ∷ ps)) page_limit ≡ short
          → IsTrue (covers prefix after page_limit (p ∷ ps) name) ⊎ ((next : List ℕ) × (next_after (record { after = after; listed = p ∷ ps }) ≡ Some next) × IsTrue (is_scanned prefix next name))
      by_length true short = inl (and_from (is_scanned prefix after name) _ here (or_left _ _ short))
      by_length false full = elim (cases_Bool (name_lt last.0.name name)) [
        | inl beyond ↦ inr (
          last.0.name,
          ap (λ t. if t then None else option_map (λ (q : Pair). q.name) (last_or (Some p) ps)) full ∙ ap (λ o. option_map (λ (q : Pair). q.name) o) last.1,
          and_from _ _ (and_parts (starts_with nat_eq name prefix) (name_lt after name) here).0 beyond,
        )
        | inr within ↦ inl (and_from (is_scanned prefix after name) _ here (or_right _ _ (subst (λ o. IsTrue (is_up_to o name)) (sym last.1) (ap not within))))
      ]

  module _ (after : List ℕ) (listed : List Pair) (place node inc : ℕ) (scan begins : List ℕ) (limit : ℕ) (line : List Turn) where
    -- whether a call is the run's next
    abbrev is_next : Bool
    is_next = ((same_incarnation who (incarnation node inc) && bytes_eq prefix scan) && bytes_eq after begins) && eqb limit page_limit

    module _ (pairs : List Pair) where
      abbrev here : Turn
      here = AtDoor place (Call node inc (Scan scan begins limit) (Page pairs))

      module _ (own : IsTrue is_next) where
        page : OwnPage here
        page =
            let a = and_parts ((same_incarnation who (incarnation node inc) && bytes_eq prefix scan) && bytes_eq after begins) (eqb limit page_limit) own in
            let b = and_parts (same_incarnation who (incarnation node inc) && bytes_eq prefix scan) (bytes_eq after begins) a.0 in
            let c = and_parts (same_incarnation who (incarnation node inc)) (bytes_eq prefix scan) b.0 in
            record {
              place = place;
              node = node;
              inc = inc;
              after = after;
              pairs = pairs;
              is = ap (λ (p : List ℕ). AtDoor place (Call node inc (Scan p begins limit) (Page pairs))) (sym (same_bytes prefix scan c.1))
                  ∙ (ap (λ (p : List ℕ). AtDoor place (Call node inc (Scan prefix p limit) (Page pairs))) (sym (same_bytes after begins b.1)) ∙ ap (λ (n : ℕ). AtDoor place (Call node inc (Scan prefix after n) (Page pairs))) (eqb-true limit page_limit a.1));
              by = same_who who (incarnation node inc) c.0;
            }

        its_begin : after ≡ begins
        its_begin =
            let a = and_parts ((same_incarnation who (incarnation node inc) && bytes_eq prefix scan) && bytes_eq after begins) (eqb limit page_limit) own in
            same_bytes after begins (and_parts (same_incarnation who (incarnation node inc) && bytes_eq prefix scan) (bytes_eq after begins) a.0).1

        each_one : (turn : Turn) → In turn (here ∷ []) → OwnPage turn ⊎ Unshown turn
        each_one turn (inl is) = inl (subst OwnPage (sym is) page)
        each_one turn (inr none) = absurd none

        lists_one : (made : List Turn) (pair : Pair) → In pair (listed ++ pairs) → In pair listed ⊎ ListedOn (here ∷ made) pair
        unfolding page
        lists_one made pair among = elim (in_append pair listed pairs among) [
          | inl before ↦ inl before
          | inr now ↦ inr (record { turn = here; page = page; among = inl refl; lists = now })
        ]

        -- the run's last page
        ends_here : (whole : Bool) → (IsTrue whole → next_after (record { after = begins; listed = pairs }) ≡ None) → Went after listed (here ∷ line) (record { listed = listed ++ pairs; is_whole = whole; behind = line })
        unfolding page
        ends_here whole ended = record {
          made = here ∷ [];
          splits = refl;
          each = each_one;
          keeps = λ pair among. in_front pair listed pairs among;
          lists = lists_one [];
          covers_all = λ is name scanned. elim (onwards after pairs name scanned) [
            | inl covered ↦ record { turn = here; page = page; among = inl refl; covered = covered; within = λ pair among. in_back pair listed pairs among }
            | inr more ↦ absurd (let e = ended is in let f = more.1 in cc)
          ];
        }

        -- a page, and the rest of the run
        goes_on : (next : List ℕ) → next_after (record { after = begins; listed = pairs }) ≡ Some next → (run : Scanned) → Went next (listed ++ pairs) line run → Went after listed (here ∷ line) run
        unfolding page
        goes_on next goes run rest = record {
          made = here ∷ rest.made;
          splits = ap (λ (l : List Turn). here ∷ l) rest.splits;
          each = λ turn among. elim among [ inl is ↦ inl (subst OwnPage (sym is) page) | inr later ↦ rest.each turn later ];
          keeps = λ pair among. rest.keeps pair (in_front pair listed pairs among);
          lists = λ pair among. elim (rest.lists pair among) [
            | inl before ↦ lists_one rest.made pair before
            | inr on ↦ inr (record { turn = on.turn; page = on.page; among = inr on.among; lists = on.lists })
          ];
          covers_all = λ is name scanned. elim (onwards after pairs name scanned) [
            | inl covered ↦ record { turn = here; page = page; among = inl refl; covered = covered; within = λ pair among. rest.keeps pair (in_back pair listed pairs among) }
            | inr more ↦ further (rest.covers_all is name (subst (λ (n : List ℕ). IsTrue (is_scanned prefix n name)) (let e = goes in let f = more.1 in let g : more.0 ≡ next = cc in g) more.2))
          ];
        }
          where
            further : {name : List ℕ} → CoveredOn rest.made run.listed name → CoveredOn (here ∷ rest.made) run.listed name
            further on = record { turn = on.turn; page = on.page; among = inr on.among; covered = on.covered; within = on.within }

      by_page : (go_on : List ℕ → Scanned) → ((next : List ℕ) → Went next (listed ++ pairs) line (go_on next))
          → (own : Bool) → is_next ≡ own → (stops : Bool) → (next : Option (List ℕ)) → next_after (record { after = begins; listed = pairs }) ≡ next
          → Went after listed (here ∷ line) (if own then (if stops then stopped_at (listed ++ pairs) line else behind_good_page (listed ++ pairs) next go_on line) else stopped_at listed (here ∷ line))
      by_page go_on rest false e stops next n = stops_here after listed (here ∷ line)
      by_page go_on rest true e true next n = ends_here e false (λ is. absurd (false≢true is))
      by_page go_on rest true e false None n = ends_here e true (λ is. n)
      by_page go_on rest true e false (Some next) n = goes_on e next n (go_on next) (rest next)

    -- a call that was answered no page
    by_call : (answer : KeeperAnswer) → pairs_by (Scan scan begins limit) answer ≡ [] → (own : Bool)
        → Went after listed (AtDoor place (Call node inc (Scan scan begins limit) answer) ∷ line) (if own then stopped_at listed line else stopped_at listed (AtDoor place (Call node inc (Scan scan begins limit) answer) ∷ line))
    by_call answer none false = stops_here after listed (AtDoor place (Call node inc (Scan scan begins limit) answer) ∷ line)
    by_call answer none true = record {
      made = AtDoor place (Call node inc (Scan scan begins limit) answer) ∷ [];
      splits = refl;
      each = λ turn among. elim among [
        | inl is ↦ inr (record { place = place; node = node; inc = inc; scan = scan; after = begins; limit = limit; answer = answer; is = is; nothing = none })
        | inr nowhere ↦ absurd nowhere
      ];
      keeps = λ pair among. among;
      lists = λ pair among. inl among;
      covers_all = λ is. absurd (false≢true is);
    }

  pub went : (after : List ℕ) (listed : List Pair) (line : List Turn) → Went after listed line (scanned_from most who prefix after listed line)
  went after listed (AtDoor place (Call node inc (Scan scan begins limit) (Page pairs)) ∷ line) =
      by_page after listed place node inc scan begins limit line pairs (λ next. scanned_from most who prefix next (listed ++ pairs) line) (λ next. went next (listed ++ pairs) line)
      (is_next after listed place node inc scan begins limit line) refl (stops_at most listed pairs) (next_after (record { after = after; listed = pairs })) refl
  went after listed (AtDoor place (Call node inc (Scan scan begins limit) answer) ∷ line) = by_call after listed place node inc scan begins limit line answer refl (is_next after listed place node inc scan begins limit line)
  went after listed line = stops_here after listed line
