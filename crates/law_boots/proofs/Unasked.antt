-- By what a boot has seen, its incarnation has given nothing up at the door.
use Rattle.std.proofs.Common.{◌≡◌, ◌≤◌, ◌<◌, ℕ, zero, suc, Bool, ◌&&◌, not, List, [], ◌∷◌, ◌++◌, refl, sym, ap, subst, ◌∙◌, ◌⊎◌, inl, inr, append-nil, append_assoc, length, take, eqb, leb, eq-eqb, arith}
use Rattle.std.specs.Prelude.{IsTrue, IsFalse}
use Rattle.std.proofs.lemmas.Bool.{and_parts, eqb-true, false≢true, false_from_ne_true, leb-true, not-true, or_cases, true≢false}
use Rattle.std.proofs.lemmas.List.{length-append}
use Rattle.aft_id.specs.TxnId.{same_id}
use Rattle.aft_id.specs.declared.txn_id.TxnId.{TxnId}
use Rattle.aft_records.specs.declared.stored.Commit.{Commit}
use Rattle.aft_model.specs.declared.caller.By.{By}
use Rattle.aft_model.specs.declared.door.DoorAct.{DoorAct}
use Rattle.aft_model.specs.declared.door.DoorAct.TheVariants as door_acts
use Rattle.aft_model.specs.declared.door.DoorEntry.{DoorEntry}
use Rattle.aft_model.specs.declared.node.NodeAct.{NodeAct}
use Rattle.aft_model.specs.declared.node.NodeAct.TheVariants.{Boot, GiveUp}
use Rattle.aft_model.specs.declared.node.NodeEntry.{NodeEntry}
use Rattle.aft_model.specs.Claims.{given_up, gives_up}
use Rattle.aft_model.specs.History.{each_after}
use Rattle.aft_model.specs.LegalNode.{front}
use Rattle.aft_model.specs.Membership.{Incarnation, incarnation, same_incarnation}
use Rattle.aft_model.specs.NodeState.{IsServing, NodeState, Service, extended, node_state, serves, state_after}
use Rattle.aft_model.specs.ScanRun.{same_line}
use Rattle.aft_model.proofs.Histories.{In, any_found, each_after_split, in_back, in_front}
use Rattle.aft_model.proofs.Services.{kept_within, node_state-snoc, serving}
use Rattle.aft_lines.specs.CollectCourse.{is_give_up}
use Rattle.aft_lines.specs.LegalTrace.{backs_give_up, some_after}
use Rattle.law_whole.proofs.Lists.{split_at}
use Rattle.law_boots.specs.Beside.{Beside, backs_give_ups, is_backed_in}
use Rattle.law_boots.proofs.Nodes.{begins, before, front-snoc, up}
use Rattle.law_boots.proofs.Real.{taken}

-- ---- two places of one list

-- where two elements stand to one another: behind, at one place, or before
abbrev pub Order : {A : Type 0} → List A → A → List A → A → Type 0
Order {A} xs x zs z = ((m : List A) × (xs ≡ zs ++ z ∷ m)) ⊎ (((xs ≡ zs) × (x ≡ z)) ⊎ ((m : List A) × (zs ≡ xs ++ x ∷ m)))

head_same : {A : Type 0} (x z : A) (ys ws : List A) → x ∷ ys ≡ z ∷ ws → x ≡ z
head_same x z ys ws is = cc

tail_same : {A : Type 0} (x z : A) (ys ws : List A) → x ∷ ys ≡ z ∷ ws → ys ≡ ws
tail_same x z ys ws is = cc

pub order : {A : Type 0} (xs : List A) (x : A) (ys zs : List A) (z : A) (ws : List A) → xs ++ x ∷ ys ≡ zs ++ z ∷ ws → Order xs x zs z
order [] x ys [] z ws is = inr (inl (refl, head_same x z ys ws is))
order [] x ys (b ∷ zs) z ws is = inr (inr (zs, ap (λ y. y ∷ zs) (sym (head_same x b ys (zs ++ z ∷ ws) is))))
order (a ∷ xs) x ys [] z ws is = inl (xs, ap (λ y. y ∷ xs) (head_same a z (xs ++ x ∷ ys) ws is))
order {A} (a ∷ xs) x ys (b ∷ zs) z ws is =
    let first : a ≡ b = head_same a b (xs ++ x ∷ ys) (zs ++ z ∷ ws) is in
    elim (order xs x ys zs z ws (tail_same a b (xs ++ x ∷ ys) (zs ++ z ∷ ws) is)) [
      | inl later ↦ inl (later.0, ap (λ (l : List A). a ∷ l) later.1 ∙ ap (λ (c : A). c ∷ (zs ++ z ∷ later.0)) first)
      | inr rest ↦ elim rest [
        | inl same ↦ inr (inl (ap (λ (l : List A). a ∷ l) same.0 ∙ ap (λ (c : A). c ∷ zs) first, same.1))
        | inr earlier ↦ inr (inr (earlier.0, ap (λ (l : List A). b ∷ l) earlier.1 ∙ ap (λ (c : A). c ∷ (xs ++ x ∷ earlier.0)) (sym first)))
      ]
    ]

-- ---- the entry that backs a give-up

pub record Backed (test : List NodeEntry → NodeEntry → Bool) (first entries : List NodeEntry) : Type 0 where
  pub front_part : List NodeEntry
  pub one : NodeEntry
  pub back_part : List NodeEntry
  pub parts : entries ≡ front_part ++ one ∷ back_part
  pub passes : IsTrue (test (first ++ front_part) one)

pub backed : (test : List NodeEntry → NodeEntry → Bool) (first entries : List NodeEntry) → IsTrue (some_after test first entries) → Backed test first entries
backed test first [] is = absurd (false≢true is)
backed test first (e ∷ entries) is =
    elim (or_cases (test first e) (some_after test (first ++ e ∷ []) entries) is) [
      | inl here ↦ record { front_part = []; one = e; back_part = entries; parts = refl; passes = subst (λ (h : List NodeEntry). IsTrue (test h e)) (sym (append-nil first)) here }
      | inr later ↦ (let rest = backed test (first ++ e ∷ []) entries later in
          record {
            front_part = e ∷ rest.front_part;
            one = rest.one;
            back_part = rest.back_part;
            parts = ap (λ (l : List NodeEntry). e ∷ l) rest.parts;
            passes = subst (λ (h : List NodeEntry). IsTrue (test h rest.one)) (append_assoc first (e ∷ []) rest.front_part) rest.passes;
          })
    ]

pub gives_what : (id : TxnId) (act : NodeAct) → IsTrue (is_give_up id act) → (i : TxnId) × (act ≡ GiveUp i)
gives_what id (GiveUp i) is = (i, refl)
gives_what id act is = absurd (false≢true is)

-- a give-up at the door of an incarnation
pub record AtDoor (who : Incarnation) (act : DoorAct) : Type 0 where
  pub id : TxnId
  pub is : act ≡ door_acts.GiveUp who.node who.inc id

pub at_door : (who : Incarnation) (id : TxnId) (act : DoorAct) → IsTrue (gives_up who id act) → AtDoor who act
at_door who id (door_acts.GiveUp n i given) is =
    let same = and_parts (eqb who.node n) (eqb who.inc i) (and_parts (same_incarnation who (incarnation n i)) (same_id id given) is).0 in
    let one : ℕ → ℕ → DoorAct = λ a b. door_acts.GiveUp a b given in
    record { id = given; is = ap (λ a. one a i) (sym (eqb-true who.node n same.0)) ∙ ap (λ b. one who.node b) (sym (eqb-true who.inc i same.1)) }
at_door who id act is = absurd (false≢true is)

pub length_taken : {A : Type 0} (n : ℕ) (xs : List A) → length (take n xs) ≤ n
length_taken zero xs = omega arith
length_taken (suc n) [] = omega arith
length_taken (suc n) (x ∷ xs) = (let rest = length_taken n xs in omega arith)

module _ (node capacity : ℕ) (door : List DoorEntry) where
  pub front_rises : (history more : List NodeEntry) → Beside node capacity door (history ++ more) → front history ≤ front (history ++ more)
  front_rises history [] beside = subst (λ (h : List NodeEntry). front history ≤ front h) (sym (append-nil history)) (omega arith)
  front_rises history (x ∷ more) beside =
      let longer : Beside node capacity door ((history ++ x ∷ []) ++ more) = subst (Beside node capacity door) (sym (append_assoc history (x ∷ []) more)) beside in
      let first : front history ≤ x.front = up node capacity door history x (begins node capacity door (history ++ x ∷ []) more longer) in
      let now : front (history ++ x ∷ []) ≡ x.front = front-snoc history x in
      let rest : front (history ++ x ∷ []) ≤ front ((history ++ x ∷ []) ++ more) = front_rises (history ++ x ∷ []) more longer in
      subst (λ (h : List NodeEntry). front history ≤ front h) (append_assoc history (x ∷ []) more) (omega arith)

  module _ (inc : ℕ) (commits : List Commit) (history more : List NodeEntry) (entry : NodeEntry) (beside : Beside node capacity door ((history ++ entry ∷ []) ++ more)) (boots_so : entry.act ≡ Boot inc commits) where
    abbrev all_of_it : List NodeEntry
    all_of_it = (history ++ entry ∷ []) ++ more

    serves_now : node_state (history ++ entry ∷ []) ≡ IsServing (record { inc = inc; booted = commits; part = [] })
    serves_now = node_state-snoc history entry ∙ ap (state_after (node_state history) entry) boots_so

    same_part : (s t : Service) → IsServing s ≡ IsServing t → s.part ≡ t.part
    same_part s t is = (let same : s ≡ t = cc in ap (λ (v : Service). v.part) same)

    -- a service in which something was given up isn't booted again
    not_before : (i : TxnId) (earlier middle : List NodeEntry) (one : NodeEntry) → history ≡ earlier ++ one ∷ middle → one.act ≡ GiveUp i → IsTrue (serves inc (node_state earlier)) → ⊥
    not_before i earlier middle one is gives serve =
        let whole : history ++ entry ∷ [] ≡ (earlier ++ one ∷ []) ++ (middle ++ entry ∷ []) =
        ap (λ (l : List NodeEntry). l ++ entry ∷ []) is ∙ (append_assoc earlier (one ∷ middle) (entry ∷ []) ∙ sym (append_assoc earlier (one ∷ []) (middle ++ entry ∷ []))) in
        let its : Beside node capacity door ((earlier ++ one ∷ []) ++ (middle ++ entry ∷ [])) = subst (Beside node capacity door) whole (begins node capacity door (history ++ entry ∷ []) more beside) in
        let first : Beside node capacity door (earlier ++ one ∷ []) = begins node capacity door (earlier ++ one ∷ []) (middle ++ entry ∷ []) its in
        let at = serving inc (node_state earlier) serve in
        let goes : node_state (earlier ++ one ∷ []) ≡ IsServing (extended at.0 one) =
        node_state-snoc earlier one ∙ (ap (λ (st : NodeState). state_after st one one.act) at.1 ∙ ap (state_after (IsServing at.0) one) gives) in
        let now : node_state ((earlier ++ one ∷ []) ++ (middle ++ entry ∷ [])) ≡ IsServing (record { inc = inc; booted = commits; part = [] }) = subst (λ (h : List NodeEntry). node_state h ≡ IsServing (record { inc = inc; booted = commits; part = [] })) whole serves_now in
        let still : IsTrue (serves inc (node_state ((earlier ++ one ∷ []) ++ (middle ++ entry ∷ [])))) = subst (λ (st : NodeState). IsTrue (serves inc st)) (sym now) (eq-eqb inc inc refl) in
        let kept = kept_within node capacity inc (λ (s : Service). In one s.part) (λ h s e legal was may among. in_front one s.part (e ∷ []) among) (earlier ++ one ∷ []) (middle ++ entry ∷ []) (extended at.0 one) its.legal goes at.2 (in_back one at.0.part (one ∷ []) (inl refl)) still in
        subst (In one) (same_part kept.0 (record { inc = inc; booted = commits; part = [] }) (sym kept.1 ∙ now)) kept.2

    module _ (backs : IsTrue (backs_give_ups node all_of_it door)) where
      -- a give-up at the door that the boot had seen has none of its own at the node
      unbacked : (by : By) (i : TxnId) (place : ℕ) → place < entry.front → IsTrue (some_after (backs_give_up by inc i place) [] all_of_it) → ⊥
      unbacked by i place less is =
          let at = backed (backs_give_up by inc i place) [] all_of_it is in
          let test = and_parts (same_line by at.one.by && is_give_up i at.one.act && serves inc (node_state at.front_part)) (leb at.one.front place) at.passes in
          let both = and_parts (same_line by at.one.by && is_give_up i at.one.act) (serves inc (node_state at.front_part)) test.0 in
          let what = gives_what i at.one.act (and_parts (same_line by at.one.by) (is_give_up i at.one.act) both.0).1 in
          let low : at.one.front ≤ place = leb-true at.one.front place test.1 in
          elim (order at.front_part at.one at.back_part history entry more (sym at.parts ∙ append_assoc history (entry ∷ []) more)) [
            | inl later ↦ absurd (behind at.front_part at.one at.back_part later.0 later.1 at.parts low)
            | inr rest ↦ elim rest [
              | inl same ↦ absurd (let no : Boot inc commits ≡ GiveUp what.0 = sym boots_so ∙ (sym (ap (λ (e : NodeEntry). e.act) same.1) ∙ what.1) in cc)
              | inr earlier ↦ absurd (not_before what.0 at.front_part earlier.0 at.one earlier.1 what.1 both.1)
            ]
          ]
        where
          behind : (first : List NodeEntry) (one : NodeEntry) (rest m : List NodeEntry) → first ≡ history ++ entry ∷ m → all_of_it ≡ first ++ one ∷ rest → one.front ≤ place → ⊥
          behind first one rest m is parts low =
              let its : Beside node capacity door (first ++ one ∷ []) = begins node capacity door (first ++ one ∷ []) rest (subst (Beside node capacity door) (parts ∙ sym (append_assoc first (one ∷ []) rest)) beside) in
              let rises : front first ≤ one.front = up node capacity door first one its in
              let here : first ≡ (history ++ entry ∷ []) ++ m = is ∙ sym (append_assoc history (entry ∷ []) m) in
              let longer : Beside node capacity door ((history ++ entry ∷ []) ++ m) = subst (Beside node capacity door) here (before node capacity door first one its) in
              let from : front (history ++ entry ∷ []) ≤ front ((history ++ entry ∷ []) ++ m) = front_rises (history ++ entry ∷ []) m longer in
              let at_entry : front (history ++ entry ∷ []) ≡ entry.front = front-snoc history entry in
              let at_first : front first ≡ front ((history ++ entry ∷ []) ++ m) = ap front here in
              omega arith

      pub nothing_given_up : (id : TxnId) → IsFalse (given_up (incarnation node inc) id (take entry.front door))
      nothing_given_up id = false_from_ne_true (given_up (incarnation node inc) id (take entry.front door)) (λ given.
          let x = any_found (λ (e : DoorEntry). gives_up (incarnation node inc) id e.act) (take entry.front door) given in
          let at = split_at x.0 (take entry.front door) x.1 in
          let who = at_door (incarnation node inc) id x.0.act x.2 in
          let rest = taken entry.front door in
          let short : length (take entry.front door) ≤ entry.front = length_taken entry.front door in
          let sum : length (take entry.front door) ≡ length (at.0 ++ x.0 ∷ at.1) = ap length at.2 in
          let parted : door ≡ at.0 ++ (x.0 ∷ (at.1 ++ rest.0)) = rest.1 ∙ (ap (λ (l : List DoorEntry). l ++ rest.0) at.2 ∙ append_assoc at.0 (x.0 ∷ at.1) rest.0) in
          let ruled = (each_after_split (λ (b : List DoorEntry) (e : DoorEntry). is_backed_in node all_of_it e.by (length b) e.act) [] at.0 (x.0 ∷ (at.1 ++ rest.0)) (subst (λ (d : List DoorEntry). IsTrue (backs_give_ups node all_of_it d)) parted backs)).1 in
          let here = (and_parts (is_backed_in node all_of_it x.0.by (length at.0) x.0.act) (each_after (λ (b : List DoorEntry) (e : DoorEntry). is_backed_in node all_of_it e.by (length b) e.act) (at.0 ++ x.0 ∷ []) (at.1 ++ rest.0)) ruled).0 in
          let of_it = subst (λ act. IsTrue (is_backed_in node all_of_it x.0.by (length at.0) act)) who.is here in
          elim (or_cases (not (eqb node node)) (some_after (backs_give_up x.0.by inc who.id (length at.0)) [] all_of_it) of_it) [
            | inl differs ↦ true≢false (sym (eq-eqb node node refl) ∙ not-true (eqb node node) differs)
            | inr own ↦ unbacked x.0.by who.id (length at.0) (omega (arith, length-append at.0 (x.0 ∷ at.1))) own
          ])
