-- What a scan run shows its line: where it came to its end, or a call of it failed, nothing that it was shown stops a run.
use Rattle.std.proofs.Common.{◌≡◌, ◌≤◌, ◌+◌, ◌++◌, ℕ, Bool, true, false, ◌&&◌, ◌||◌, not, eqb, leb, List, [], ◌∷◌, length, map, filter, refl, sym, ap, subst, ◌∙◌, arith, append-nil, length-append}
use Rattle.std.specs.Prelude.{IsTrue, Option, Some, None, if◌then◌else◌, nat_lt}
use Rattle.std.specs.List.{flat_map, list_all}
use Rattle.std.specs.Str.{bytes_eq}
use Rattle.std.proofs.lemmas.List.Concat.{flat_map-append}
use Rattle.std.proofs.lemmas.Bool.{and_from, and_parts, and_right, eq-eqb, false≢true, le-ltb, leb-true, or_from}
use Rattle.aft_keeper.specs.declared.keeper.KeeperAnswer.{KeeperAnswer}
use Rattle.aft_keeper.specs.declared.keeper.KeeperAnswer.TheVariants.{Page}
use Rattle.aft_keeper.specs.declared.keeper.KeeperCall.TheVariants.{Scan}
use Rattle.aft_keeper.specs.declared.keeper.Pair.{Pair}
use Rattle.aft_model.specs.declared.caller.By.{By}
use Rattle.aft_model.specs.declared.door.DoorAct.TheVariants.{Call}
use Rattle.aft_model.specs.declared.door.DoorEntry.{DoorEntry}
use Rattle.aft_model.specs.Membership.{Incarnation, incarnation, same_incarnation}
use Rattle.aft_model.specs.Opening.{has_failed}
use Rattle.aft_model.specs.Readings.{has_reading}
use Rattle.aft_model.specs.ScanRun.{ends, is_scan_run, next_after, page_limit, same_line, scan_pages}
use Rattle.aft_model.specs.Sound.{markers_prefix, records_prefix}
use Rattle.aft_model.proofs.Sights.{bytes_eq-refl, same_bytes}
use Rattle.aft_lines.specs.CausesRounds.{office_act_in}
use Rattle.aft_lines.specs.CausesScans.{damage_in, is_damage, is_page_act, listed_in, unfound_in}
use Rattle.aft_lines.specs.LineView.{door_entry_in, node_turn_in}
use Rattle.aft_lines.specs.ScanCourse.{ScanLimit, Scanned, behind_good_page, names_limit, scanned_from, stopped_at}
use Rattle.aft_lines.specs.Turns.{AtDoor, Turn}

-- what turns did at the door, whether a call of them failed, the names of the damage that they were shown, and what their pages list of a prefix
abbrev pub entries : By → List Turn → List DoorEntry
entries by line = flat_map (door_entry_in by) line

abbrev pub fails : By → List Turn → Bool
fails by line = has_failed (entries by line)

abbrev pub damaged : By → List Turn → List (List ℕ)
damaged by line = flat_map (damage_in None) (entries by line)

abbrev pub names : By → List ℕ → List Turn → List Pair
names by prefix line = flat_map (λ entry. listed_in prefix entry.act) (entries by line)

-- what the turns of a run by this limit show, where these pairs were listed before them
pub record Run (bound : ScanLimit) (by : By) (who : Incarnation) (prefix after : List ℕ) (listed : List Pair) (line : List Turn) (run : Scanned) : Type 0 where
  pub made : List Turn
  pub splits : line ≡ made ++ run.behind
  pub fair : IsTrue bound.judges → IsTrue (run.is_whole || fails by made) → damaged by made ≡ []
  pub few : IsTrue (run.is_whole || fails by made) → length listed + length (names by prefix made) ≤ bound.most
  pub unfailed : IsTrue run.is_whole → fails by made ≡ false
  pub others : (other : List ℕ) → bytes_eq other prefix ≡ false → names by other made ≡ []
  pub found : flat_map (λ (entry : DoorEntry). unfound_in entry.act) (entries by made) ≡ []
  pub paged : IsTrue (list_all (λ (entry : DoorEntry). is_page_act entry.act) (entries by made))
  pub at_office : flat_map office_act_in made ≡ []
  pub at_nodes : flat_map node_turn_in made ≡ []
  pub unended : IsTrue (fails by made) → ends (Some after) (scan_pages who by prefix (entries by made)) ≡ false

-- pairs that all have a reading show no damage
no_damage : (pairs : List Pair) → IsTrue (list_all has_reading pairs) → map (λ (pair : Pair). pair.name) (filter (is_damage None) pairs) ≡ []
no_damage [] all = refl
no_damage (pair ∷ pairs) all = (let parts = and_parts (has_reading pair) (list_all has_reading pairs) all in
    subst (λ (has : Bool). map (λ (p : Pair). p.name) (if not has || false then pair ∷ filter (is_damage None) pairs else filter (is_damage None) pairs) ≡ []) (sym parts.0) (no_damage pairs parts.1))

line_same : (by : By) → IsTrue (same_line by by)
line_same by = and_from _ _ (eq-eqb by.client by.client refl) (eq-eqb by.line by.line refl)

-- pairs that are judged and all pass have a reading
judged_all : (judges : Bool) (pairs : List Pair) → IsTrue judges → IsTrue (not judges || list_all has_reading pairs) → IsTrue (list_all has_reading pairs)
judged_all true pairs is all = all
judged_all false pairs is all = absurd (false≢true is)

module _ (bound : ScanLimit) (by : By) (who : Incarnation) (prefix : List ℕ) where
  -- a run that stops before a turn
  stops_here : (after : List ℕ) (listed : List Pair) (line : List Turn) → Run bound by who prefix after listed line (stopped_at listed line)
  stops_here after listed line = record {
    made = [];
    splits = refl;
    fair = λ judges is. refl;
    few = λ is. absurd (false≢true is);
    unfailed = λ is. absurd (false≢true is);
    others = λ other e. refl;
    found = refl;
    paged = refl;
    at_office = refl;
    at_nodes = refl;
    unended = λ is. absurd (false≢true is);
  }

  -- what no page lists of another prefix
  of_other : (other scanned : List ℕ) (pairs : List Pair) → prefix ≡ scanned → bytes_eq other prefix ≡ false → (if bytes_eq other scanned then pairs else []) ++ [] ≡ []
  of_other other scanned pairs same e = subst (λ (b : Bool). (if b then pairs else []) ++ [] ≡ []) (sym (ap (λ (p : List ℕ). bytes_eq other p) (sym same) ∙ e)) refl

  append_none : (pairs : List Pair) → length (pairs ++ []) ≡ length pairs
  append_none pairs = omega (arith, length-append {A = Pair})

  module _ (after : List ℕ) (listed : List Pair) (place node inc : ℕ) (scanned begins : List ℕ) (limit : ℕ) (line : List Turn) where
    -- whether a call is the run's next
    abbrev is_next : Bool
    is_next = ((same_incarnation who (incarnation node inc) && bytes_eq prefix scanned) && bytes_eq after begins) && eqb limit page_limit

    its_prefix : IsTrue is_next → prefix ≡ scanned
    its_prefix is =
        let a = and_parts ((same_incarnation who (incarnation node inc) && bytes_eq prefix scanned) && bytes_eq after begins) (eqb limit page_limit) is in
        let b = and_parts (same_incarnation who (incarnation node inc) && bytes_eq prefix scanned) (bytes_eq after begins) a.0 in
        same_bytes prefix scanned (and_parts (same_incarnation who (incarnation node inc)) (bytes_eq prefix scanned) b.0).1

    its_page : IsTrue is_next → IsTrue ((same_incarnation who (incarnation node inc) && bytes_eq prefix scanned) && eqb limit page_limit)
    its_page is =
        let a = and_parts ((same_incarnation who (incarnation node inc) && bytes_eq prefix scanned) && bytes_eq after begins) (eqb limit page_limit) is in
        and_from _ _ (and_parts (same_incarnation who (incarnation node inc) && bytes_eq prefix scanned) (bytes_eq after begins) a.0).0 a.1

    module _ (pairs : List Pair) where
      abbrev here : Turn
      here = AtDoor place (Call node inc (Scan scanned begins limit) (Page pairs))

      -- a page that stops the run
      stopped : IsTrue is_next → Run bound by who prefix after listed (here ∷ line) (stopped_at (listed ++ pairs) line)
      stopped own = record {
        made = here ∷ [];
        splits = refl;
        fair = λ judges is. absurd (false≢true is);
        few = λ is. absurd (false≢true is);
        unfailed = λ is. absurd (false≢true is);
        others = λ other e. of_other other scanned pairs (its_prefix own) e;
        found = refl;
        paged = refl;
        at_office = refl;
        at_nodes = refl;
        unended = λ is. absurd (false≢true is);
      }

      module _ (own : IsTrue is_next) (good : IsTrue (leb (length listed + length pairs) bound.most && (not bound.judges || list_all has_reading pairs))) where
        -- where pairs are judged, the page, before more damage, shows none
        page_fair : IsTrue bound.judges → (more : List (List ℕ)) → map (λ (pair : Pair). pair.name) (filter (is_damage None) pairs) ++ more ≡ more
        page_fair judges more = ap (λ (ns : List (List ℕ)). ns ++ more) (no_damage pairs (judged_all bound.judges pairs judges (and_parts (leb (length listed + length pairs) bound.most) (not bound.judges || list_all has_reading pairs) good).1))

        room : length listed + length pairs ≤ bound.most
        room = leb-true (length listed + length pairs) bound.most (and_parts (leb (length listed + length pairs) bound.most) (not bound.judges || list_all has_reading pairs) good).0

        -- what the page lists of the run's prefix, before more
        page_names : (more : List Pair) → (if bytes_eq prefix scanned then pairs else []) ++ more ≡ pairs ++ more
        page_names more = ap (λ (b : Bool). (if b then pairs else []) ++ more) (subst (λ (p : List ℕ). IsTrue (bytes_eq prefix p)) (its_prefix own) (bytes_same prefix))
          where
            bytes_same : (p : List ℕ) → IsTrue (bytes_eq p p)
            bytes_same p = bytes_eq-refl p

        -- the last page
        ended : Run bound by who prefix after listed (here ∷ line) (record { listed = listed ++ pairs; is_whole = true; behind = line })
        ended = record {
          made = here ∷ [];
          splits = refl;
          fair = λ judges is. page_fair judges [];
          few = λ is. (let e : length ((if bytes_eq prefix scanned then pairs else []) ++ []) ≡ length (pairs ++ []) = ap length (page_names []) in let n : length (pairs ++ []) ≡ length pairs = append_none pairs in let r : length listed + length pairs ≤ bound.most = room in omega arith);
          unfailed = λ is. refl;
          others = λ other e. of_other other scanned pairs (its_prefix own) e;
          found = refl;
          paged = refl;
          at_office = refl;
          at_nodes = refl;
          unended = λ is. absurd (false≢true is);
        }

        -- a page, and the rest of the run
        module _ (next : List ℕ) (goes : next_after (record { after = begins; listed = pairs }) ≡ Some next) (run : Scanned) (rest : Run bound by who prefix next (listed ++ pairs) line run) where
          more_pages : ends (Some next) (scan_pages who by prefix (entries by rest.made)) ≡ false → ends (Some after) (scan_pages who by prefix (entries by (here ∷ rest.made))) ≡ false
          more_pages not_ended =
              subst (λ (same : Bool). ends (Some after) ((if same then (if (same_incarnation who (incarnation node inc) && bytes_eq prefix scanned) && eqb limit page_limit then record { after = begins; listed = pairs } ∷ [] else []) else []) ++ scan_pages who by prefix (entries by rest.made)) ≡ false) (sym (line_same by))
              (subst (λ (its : Bool). ends (Some after) ((if its then record { after = begins; listed = pairs } ∷ [] else []) ++ scan_pages who by prefix (entries by rest.made)) ≡ false) (sym (its_page own))
              (subst (λ (o : Option (List ℕ)). (bytes_eq begins after && ends o (scan_pages who by prefix (entries by rest.made))) ≡ false) (sym goes)
              (and_right (bytes_eq begins after) _ not_ended)))

          goes_on : Run bound by who prefix after listed (here ∷ line) run
          goes_on = record {
            made = here ∷ rest.made;
            splits = ap (λ (l : List Turn). here ∷ l) rest.splits;
            fair = λ judges is. page_fair judges (damaged by rest.made) ∙ rest.fair judges is;
            few = λ is. (let e : length ((if bytes_eq prefix scanned then pairs else []) ++ names by prefix rest.made) ≡ length (pairs ++ names by prefix rest.made) = ap length (page_names (names by prefix rest.made)) in
                let r : length (listed ++ pairs) + length (names by prefix rest.made) ≤ bound.most = rest.few is in
                let n : length (pairs ++ names by prefix rest.made) ≡ length pairs + length (names by prefix rest.made) = length-append pairs (names by prefix rest.made) in
                let m : length (listed ++ pairs) ≡ length listed + length pairs = length-append listed pairs in omega arith);
            unfailed = rest.unfailed;
            others = λ other e. (other_more other e);
            found = rest.found;
            paged = rest.paged;
            at_office = rest.at_office;
            at_nodes = rest.at_nodes;
            unended = λ is. more_pages (rest.unended is);
          }
            where
              other_more : (other : List ℕ) → bytes_eq other prefix ≡ false → (if bytes_eq other scanned then pairs else []) ++ names by other rest.made ≡ []
              other_more other e =
                  subst (λ (b : Bool). (if b then pairs else []) ++ names by other rest.made ≡ []) (sym (ap (λ (p : List ℕ). bytes_eq other p) (sym (its_prefix own)) ∙ e)) (rest.others other e)

  page_run : (after : List ℕ) (listed : List Pair) (place node inc : ℕ) (scanned begins : List ℕ) (limit : ℕ) (pairs : List Pair) (line : List Turn) (go_on : List ℕ → Scanned)
      → ((next : List ℕ) → length (listed ++ pairs) ≤ bound.most → Run bound by who prefix next (listed ++ pairs) line (go_on next))
      → (own : Bool) → is_next after listed place node inc scanned begins limit line ≡ own → (good : Bool) → (leb (length listed + length pairs) bound.most && (not bound.judges || list_all has_reading pairs)) ≡ good → (next : Option (List ℕ)) → next_after (record { after = begins; listed = pairs }) ≡ next
      → Run bound by who prefix after listed (AtDoor place (Call node inc (Scan scanned begins limit) (Page pairs)) ∷ line)
      (if own then (if not good then stopped_at (listed ++ pairs) line else behind_good_page (listed ++ pairs) next go_on line) else stopped_at listed (AtDoor place (Call node inc (Scan scanned begins limit) (Page pairs)) ∷ line))
  page_run after listed place node inc scanned begins limit pairs line go_on rest false e good g next n = stops_here after listed _
  page_run after listed place node inc scanned begins limit pairs line go_on rest true e false g next n = stopped after listed place node inc scanned begins limit line pairs e
  page_run after listed place node inc scanned begins limit pairs line go_on rest true e true g None n = ended after listed place node inc scanned begins limit line pairs e g
  page_run after listed place node inc scanned begins limit pairs line go_on rest true e true g (Some next) n =
      goes_on after listed place node inc scanned begins limit line pairs e g next n (go_on next) (rest next (let r : length listed + length pairs ≤ bound.most = leb-true (length listed + length pairs) bound.most (and_parts (leb (length listed + length pairs) bound.most) (not bound.judges || list_all has_reading pairs) g).0 in omega (arith, length-append listed pairs)))

  -- a call without a page
  call_run : (after : List ℕ) (listed : List Pair) (place node inc : ℕ) (scanned begins : List ℕ) (limit : ℕ) (answer : KeeperAnswer) (line : List Turn) (own : Bool) → Run bound by who prefix after listed (AtDoor place (Call node inc (Scan scanned begins limit) answer) ∷ line) (stopped_at listed line) → Run bound by who prefix after listed (AtDoor place (Call node inc (Scan scanned begins limit) answer) ∷ line) (if own then stopped_at listed line else stopped_at listed (AtDoor place (Call node inc (Scan scanned begins limit) answer) ∷ line))
  call_run after listed place node inc scanned begins limit answer line true run = run
  call_run after listed place node inc scanned begins limit answer line false run = stops_here after listed _

  pub run_of : (after : List ℕ) (listed : List Pair) (line : List Turn) → length listed ≤ bound.most → Run bound by who prefix after listed line (scanned_from bound who prefix after listed line)
  run_of after listed (AtDoor place (Call node inc (Scan scanned begins limit) (Page pairs)) ∷ line) within =
      page_run after listed place node inc scanned begins limit pairs line (λ next. scanned_from bound who prefix next (listed ++ pairs) line) (λ next more. run_of next (listed ++ pairs) line more)
      (is_next after listed place node inc scanned begins limit line) refl (leb (length listed + length pairs) bound.most && (not bound.judges || list_all has_reading pairs)) refl (next_after (record { after = after; listed = pairs })) refl
  run_of after listed (AtDoor place (Call node inc (Scan scanned begins limit) answer) ∷ line) within =
      call_run after listed place node inc scanned begins limit answer line (is_next after listed place node inc scanned begins limit line) (record {
        made = AtDoor place (Call node inc (Scan scanned begins limit) answer) ∷ [];
        splits = refl;
        fair = λ judges is. refl;
        few = λ is. omega arith;
        unfailed = λ is. absurd (false≢true is);
        others = λ other e. refl;
        found = refl;
        paged = refl;
        at_office = refl;
        at_nodes = refl;
        unended = λ is. shown (same_line by by);
      })
    where
      shown : (same : Bool) → ends (Some after) ((if same then [] else []) ++ []) ≡ false
      shown true = refl
      shown false = refl
  run_of after listed line within = stops_here after listed line

-- ---- a line of one run

-- whether a line was shown too many names of records or of markers
abbrev pub many : By → List Turn → Bool
many by line = nat_lt 20000 (length (names by records_prefix line)) || nat_lt 20000 (length (names by markers_prefix line))

-- where all was shown, or a call failed, nothing that was shown tells of a fault; and not both
pub record Fair (failed whole many : Bool) (damage : List (List ℕ)) : Type 0 where
  pub unspoiled : IsTrue (whole || failed) → damage ≡ []
  pub few : IsTrue (whole || failed) → many ≡ false
  pub unfailed : IsTrue whole → failed ≡ false

-- a line that does nothing at the door behind some turns did there what these did
pub entries_same : (by : By) (line made behind : List Turn) → line ≡ made ++ behind → entries by behind ≡ [] → entries by line ≡ entries by made
entries_same by line made behind splits none =
    ap (λ (l : List Turn). entries by l) splits ∙ flat_map-append (door_entry_in by) made behind ∙ ap (λ (es : List DoorEntry). entries by made ++ es) none ∙ append-nil (entries by made)

many_false : (records markers : List Pair) → length records ≤ 20000 → markers ≡ [] → (nat_lt 20000 (length records) || nat_lt 20000 (length markers)) ≡ false
many_false records markers few none =
    or_from _ _ (le-ltb 20000 (length records) few) (ap (λ (ps : List Pair). nat_lt 20000 (length ps)) none)

module _ (by : By) (who : Incarnation) (line : List Turn) (run : Scanned) (its : Run names_limit by who records_prefix [] [] line run) (none : entries by run.behind ≡ []) where
  same : entries by line ≡ entries by its.made
  same = entries_same by line its.made run.behind its.splits none

  so_made : IsTrue (run.is_whole || fails by line) → IsTrue (run.is_whole || fails by its.made)
  so_made is = subst (λ (es : List DoorEntry). IsTrue (run.is_whole || has_failed es)) same is

  pub records_fair : Fair (fails by line) run.is_whole (many by line) (damaged by line)
  records_fair = record {
    unspoiled = λ is. ap (λ (es : List DoorEntry). flat_map (damage_in None) es) same ∙ its.fair refl (so_made is);
    few = λ is. many_false (names by records_prefix line) (names by markers_prefix line)
        (subst (λ (es : List DoorEntry). length (flat_map (λ (entry : DoorEntry). listed_in records_prefix entry.act) es) ≤ 20000) (sym same) (let few : 0 + length (names by records_prefix its.made) ≤ 20000 = its.few (so_made is) in omega arith))
        (ap (λ (es : List DoorEntry). flat_map (λ (entry : DoorEntry). listed_in markers_prefix entry.act) es) same ∙ its.others markers_prefix refl);
    unfailed = λ whole. ap has_failed same ∙ its.unfailed whole;
  }

  pub not_ended : IsTrue (fails by line) → is_scan_run (scan_pages who by records_prefix (entries by line)) ≡ false
  not_ended failed = ap (λ (es : List DoorEntry). is_scan_run (scan_pages who by records_prefix es)) same ∙ its.unended (subst (λ (es : List DoorEntry). IsTrue (has_failed es)) same failed)
