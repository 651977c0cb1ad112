-- A door at which nobody of a node or of one behind it has come up, and nobody was fenced.
use Rattle.std.proofs.Common.{◌≡◌, ◌≤◌, ℕ, false, ◌&&◌, ◌||◌, not, List, [], ◌∷◌, ◌++◌, eqb, refl, sym, ap, subst, ◌∙◌, inl, inr, arith}
use Rattle.std.specs.Prelude.{IsTrue, map, nat_le, nat_lt}
use Rattle.std.specs.List.{fold, list_all, list_any}
use Rattle.std.proofs.lemmas.Bool.{and_from, and_parts, eqb-true, false≢true, lt-ltb, ltb-true, or_cases, or_left, ne_eqb}
use Rattle.std.proofs.lemmas.List.Folds.{list_all-append}
use Rattle.std.proofs.lemmas.List.Sums.{fold-append}
use Rattle.aft_model.specs.declared.caller.By.{By}
use Rattle.aft_model.specs.declared.door.DoorAct.{DoorAct}
use Rattle.aft_model.specs.declared.door.DoorAct.TheVariants as doors
use Rattle.aft_model.specs.declared.door.DoorEntry.{DoorEntry}
use Rattle.aft_model.specs.Membership.{Incarnation, fenced, fenced_in, incarnation, is_up, same_incarnation, the_office, up_after, ups}
use Rattle.aft_model.specs.NodeSights.{comes_up}
use Rattle.aft_model.proofs.OneCommit.{same_itself}
use Rattle.aft_door.specs.Refusals.{is_past}
use Rattle.aft_boot.specs.Booted.{PageAt}
use Rattle.aft_boot.specs.FirstBoots.{comes_below}
use Rattle.aft_boot.proofs.Entries.{page_entry}

abbrev pub AllBelow : ℕ → List DoorEntry → Type 0
AllBelow node door = IsTrue (list_all (λ entry. comes_below node entry.act) door)

-- incarnations of lesser nodes
abbrev AreLesser : ℕ → List Incarnation → Type 0
AreLesser node whos = IsTrue (list_all (λ who. nat_lt who.node node) whos)

pub both_below : (node : ℕ) (xs ys : List DoorEntry) → AllBelow node xs → AllBelow node ys → AllBelow node (xs ++ ys)
both_below node xs ys one other = list_all-append (λ (e : DoorEntry). comes_below node e.act) xs ys ∙ and_from _ _ one other

pub below_parts : (node : ℕ) (xs ys : List DoorEntry) → AllBelow node (xs ++ ys) → AllBelow node xs × AllBelow node ys
below_parts node xs ys all = and_parts _ _ (sym (list_all-append (λ (e : DoorEntry). comes_below node e.act) xs ys) ∙ all)

-- pages bring nobody up
pub pages_below : (least : ℕ) (by : By) (node inc : ℕ) (pages : List PageAt) → AllBelow least (map (page_entry by node inc) pages)
pages_below least by node inc [] = refl
pages_below least by node inc (page ∷ pages) = and_from _ _ refl (pages_below least by node inc pages)

-- what is below a node is below those behind it
act_least : (node least : ℕ) (act : DoorAct) → node ≤ least → IsTrue (comes_below node act) → IsTrue (comes_below least act)
act_least node least (doors.Up other inc) le below = lt-ltb other least (let lt = ltb-true other node below in omega arith)
act_least node least (doors.Fence other inc) le below = absurd (false≢true below)
act_least node least act le below = refl

pub below_least : (node least : ℕ) (door : List DoorEntry) → node ≤ least → AllBelow node door → AllBelow least door
below_least node least [] le all = refl
below_least node least (entry ∷ door) le all =
    let parts = and_parts (comes_below node entry.act) (list_all (λ (e : DoorEntry). comes_below node e.act) door) all in
    and_from _ _ (act_least node least entry.act le parts.0) (below_least node least door le parts.1)

-- ---- nobody was fenced

act_fences : (node : ℕ) (act : DoorAct) → IsTrue (comes_below node act) → fenced_in act ≡ []
act_fences node (doors.Fence other inc) below = absurd (false≢true below)
act_fences node act below = refl

none_fenced : (node : ℕ) (door : List DoorEntry) → AllBelow node door → fenced door ≡ []
none_fenced node [] all = refl
none_fenced node (entry ∷ door) all =
    let parts = and_parts (comes_below node entry.act) (list_all (λ (e : DoorEntry). comes_below node e.act) door) all in
    ap (λ (whos : List Incarnation). whos ++ fenced door) (act_fences node entry.act parts.0) ∙ none_fenced node door parts.1

pub none_past : (node number inc : ℕ) (door : List DoorEntry) → AllBelow node door → is_past number inc door ≡ false
none_past node number inc door all = ap (λ (whos : List Incarnation). list_any (λ other. eqb other.node number && nat_le inc other.inc) whos) (none_fenced node door all)

-- ---- and who is up is of a lesser node

act_lesser : (node : ℕ) (act : DoorAct) (among : List Incarnation) → IsTrue (comes_below node act) → AreLesser node among → AreLesser node (up_after among act)
act_lesser node (doors.Up other inc) among below lesser = and_from _ _ below lesser
act_lesser node (doors.Fence other inc) among below lesser = absurd (false≢true below)
act_lesser node act among below lesser = lesser

all_lesser : (node : ℕ) (door : List DoorEntry) (among : List Incarnation) → AllBelow node door → AreLesser node among → AreLesser node (fold (λ before entry. up_after before entry.act) among door)
all_lesser node [] among all lesser = lesser
all_lesser node (entry ∷ door) among all lesser =
    let parts = and_parts (comes_below node entry.act) (list_all (λ (e : DoorEntry). comes_below node e.act) door) all in
    all_lesser node door (up_after among entry.act) parts.1 (act_lesser node entry.act among parts.0 lesser)

ups_lesser : (node : ℕ) (door : List DoorEntry) → 1 ≤ node → AllBelow node door → AreLesser node (ups door)
ups_lesser node door some all = all_lesser node door (the_office ∷ []) all (and_from _ _ (lt-ltb 0 node (omega arith)) refl)

none_same : (node inc : ℕ) (whos : List Incarnation) → AreLesser node whos → IsTrue (list_all (λ other. not (eqb other.node node) || same_incarnation (incarnation node inc) other) whos)
none_same node inc [] lesser = refl
none_same node inc (other ∷ whos) lesser =
    let parts = and_parts (nat_lt other.node node) (list_all (λ (who : Incarnation). nat_lt who.node node) whos) lesser in
    and_from _ _ (or_left _ _ (ap not (ne_eqb other.node node (λ same. let lt = ltb-true other.node node parts.0 in omega arith)))) (none_same node inc whos parts.1)

pub nobody_else : (node inc : ℕ) (door : List DoorEntry) → 1 ≤ node → AllBelow node door → IsTrue (list_all (λ other. not (eqb other.node node) || same_incarnation (incarnation node inc) other) (ups door))
nobody_else node inc door some all = none_same node inc (ups door) (ups_lesser node door some all)

not_among : (node inc : ℕ) (whos : List Incarnation) → AreLesser node whos → IsTrue (list_any (same_incarnation (incarnation node inc)) whos) → ⊥
not_among node inc [] lesser any = false≢true any
not_among node inc (other ∷ whos) lesser any =
    let parts = and_parts (nat_lt other.node node) (list_all (λ (who : Incarnation). nat_lt who.node node) whos) lesser in
    elim (or_cases (same_incarnation (incarnation node inc) other) (list_any (same_incarnation (incarnation node inc)) whos) any) [
      | inl here ↦ (let is = eqb-true node other.node (and_parts (eqb node other.node) (eqb inc other.inc) here).0 in let lt = ltb-true other.node node parts.0 in absurd (omega arith))
      | inr later ↦ not_among node inc whos parts.1 later
    ]

pub not_up : (node inc : ℕ) (door : List DoorEntry) → 1 ≤ node → AllBelow node door → IsTrue (is_up (incarnation node inc) door) → ⊥
not_up node inc door some all up = not_among node inc (ups door) (ups_lesser node door some all) up

-- nobody of it has come up
act_not_come : (node inc : ℕ) (act : DoorAct) → IsTrue (comes_below node act) → IsTrue (comes_up (incarnation node inc) act) → ⊥
act_not_come node inc (doors.Up other its) below comes = let is = eqb-true node other (and_parts (eqb node other) (eqb inc its) comes).0 in let lt = ltb-true other node below in omega arith
act_not_come node inc act below comes = false≢true comes

pub none_came : (node inc : ℕ) (door : List DoorEntry) → AllBelow node door → IsTrue (list_any (λ entry. comes_up (incarnation node inc) entry.act) door) → ⊥
none_came node inc [] all any = false≢true any
none_came node inc (entry ∷ door) all any =
    let parts = and_parts (comes_below node entry.act) (list_all (λ (e : DoorEntry). comes_below node e.act) door) all in
    elim (or_cases (comes_up (incarnation node inc) entry.act) (list_any (λ (e : DoorEntry). comes_up (incarnation node inc) e.act) door) any) [
      | inl here ↦ act_not_come node inc entry.act parts.0 here
      | inr later ↦ none_came node inc door parts.1 later
    ]

-- ---- who has come up is up behind its pages

after_pages : (by : By) (node inc : ℕ) (pages : List PageAt) (among : List Incarnation) → fold (λ (before : List Incarnation) (entry : DoorEntry). up_after before entry.act) among (map (page_entry by node inc) pages ++ []) ≡ among
after_pages by node inc [] among = refl
after_pages by node inc (page ∷ pages) among = after_pages by node inc pages among

pub up_behind : (by : By) (node inc : ℕ) (door : List DoorEntry) (pages : List PageAt) → IsTrue (is_up (incarnation node inc) (door ++ (record { by = by; act = doors.Up node inc } ∷ map (page_entry by node inc) pages ++ [])))
up_behind by node inc door pages =
    subst (λ (whos : List Incarnation). IsTrue (list_any (same_incarnation (incarnation node inc)) whos))
    (sym (fold-append (λ (before : List Incarnation) (entry : DoorEntry). up_after before entry.act) (the_office ∷ []) door (record { by = by; act = doors.Up node inc } ∷ map (page_entry by node inc) pages ++ [])
    ∙ after_pages by node inc pages (incarnation node inc ∷ ups door)))
    (or_left _ _ (same_itself (incarnation node inc)))
