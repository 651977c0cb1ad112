-- What is true of a history and stays true with entries added.
use Rattle.std.proofs.Common.{ℕ, zero, suc, Bool, true, ◌&&◌, List, [], ◌∷◌, ◌++◌, drop, refl, inl, inr}
use Rattle.std.specs.Prelude.{IsTrue}
use Rattle.std.specs.List.{list_any, list_all, flat_map}
use Rattle.std.proofs.lemmas.Bool.{and_parts, and_from, or_cases, or_left, or_right}
use Rattle.std.proofs.lemmas.List.Concat.{flat_map-append}
use Rattle.aft_id.specs.declared.txn_id.TxnId.{TxnId}
use Rattle.aft_records.specs.declared.stored.Commit.{Commit}
use Rattle.aft_model.specs.declared.door.DoorEntry.{DoorEntry}
use Rattle.aft_records.specs.Superseded.{is_superseded}
use Rattle.aft_model.specs.Committed.{committed, marked}
use Rattle.aft_records.specs.Commits.{is_among}
use Rattle.aft_model.specs.Claims.{forgotten}
use Rattle.aft_model.specs.DoorKnowledge.{knows_short, knows_short_of, knows_orphan, found_unused, has_stored, knows_unused, knows_stored, knows_superseded, knows_marked, marked_then, shows_gone, knows_record_gone, has_deleted, knows_versions_gone}
use Rattle.aft_model.specs.History.{followed}
use Rattle.aft_model.specs.Membership.{Incarnation}

-- a test of lists that stays true with elements added
abbrev pub Grows : {A : Type 0} → (List A → Bool) → Type 0
Grows {A} test = (xs ys : List A) → IsTrue (test xs) → IsTrue (test (xs ++ ys))

pub any_grows : {A : Type 0} (test : A → Bool) → Grows (list_any test)
any_grows test [] ys passed = cc
any_grows test (x ∷ xs) ys passed = elim (or_cases (test x) (list_any test xs) passed) [ inl here ↦ or_left _ _ here | inr later ↦ or_right _ _ (any_grows test xs ys later) ]

-- a test that passes more passes where the first did
pub any_implied : {A : Type 0} (p q : A → Bool) → ((x : A) → IsTrue (p x) → IsTrue (q x)) → (xs : List A) → IsTrue (list_any p xs) → IsTrue (list_any q xs)
any_implied p q more [] passed = cc
any_implied p q more (x ∷ xs) passed = elim (or_cases (p x) (list_any p xs) passed) [ inl here ↦ or_left _ _ (more x here) | inr later ↦ or_right _ _ (any_implied p q more xs later) ]

pub all_implied : {A : Type 0} (p q : A → Bool) → ((x : A) → IsTrue (p x) → IsTrue (q x)) → (xs : List A) → IsTrue (list_all p xs) → IsTrue (list_all q xs)
all_implied p q more [] passed = refl
all_implied p q more (x ∷ xs) passed =
    let parts = and_parts (p x) (list_all p xs) passed in
    and_from _ _ (more x parts.0) (all_implied p q more xs parts.1)

pub followed_grows : {A : Type 0} (first : A → Bool) (rest : List A → Bool) → Grows rest → Grows (followed first rest)
followed_grows first rest grows [] ys passed = cc
followed_grows first rest grows (x ∷ xs) ys passed =
    elim (or_cases (first x && rest xs) (followed first rest xs) passed) [
      | inl here ↦ (let parts = and_parts (first x) (rest xs) here in or_left _ _ (and_from _ _ parts.0 (grows xs ys parts.1)))
      | inr later ↦ or_right _ _ (followed_grows first rest grows xs ys later)
    ]

-- a test of an element among those that entries give
pub given_grows : {A B : Type 0} (f : A → List B) (test : B → Bool) → Grows (λ xs. list_any test (flat_map f xs))
given_grows f test xs ys passed = rw flat_map-append (any_grows test (flat_map f xs) (flat_map f ys) passed)

pub committed_grows : (c : Commit) → Grows (λ history. is_among c (committed history))
committed_grows c = given_grows _ _

pub marked_grows : (c : Commit) → Grows (λ history. is_among c (marked history))
marked_grows c = given_grows _ _

pub superseded_grows : (c : Commit) → Grows (λ history. is_superseded c (committed history))
superseded_grows c history more passed = all_implied _ _ (λ key. given_grows _ _ history more) c.keys passed

found_unused_grows : (who : Incarnation) (uuid : List ℕ) (then : List DoorEntry → Bool) → Grows then → Grows (found_unused who uuid then)
found_unused_grows who uuid then grows = followed_grows _ _ (followed_grows _ _ (followed_grows _ _ grows))

pub unused_grows : (who : Incarnation) (uuid : List ℕ) → Grows (knows_unused who uuid)
unused_grows who uuid = found_unused_grows who uuid (λ rest. true) (λ xs ys passed. refl)

has_stored_grows : (who : Incarnation) (c : Commit) → Grows (has_stored who c)
has_stored_grows who c history more passed = all_implied _ _ (λ key. any_grows _ history more) c.keys passed

pub stored_grows : (who : Incarnation) (c : Commit) → Grows (knows_stored who c)
stored_grows who c = found_unused_grows who c.id.uuid (has_stored who c) (has_stored_grows who c)

pub knows_superseded_grows : (c : Commit) → Grows (knows_superseded c)
knows_superseded_grows c history more passed =
    let parts = and_parts (is_among c (committed history)) (is_superseded c (committed history)) passed in
    and_from _ _ (committed_grows c history more parts.0) (superseded_grows c history more parts.1)

pub knows_marked_grows : (uuid : List ℕ) → Grows (knows_marked uuid)
knows_marked_grows uuid = given_grows _ _

marked_then_grows : (then : List DoorEntry → Bool) (c : Commit) → Grows then → Grows (marked_then then c)
marked_then_grows then c grows = followed_grows _ _ grows

-- some marked commit passes a test that stays true
marked_and_grows : (p : Commit → List DoorEntry → Bool) → ((c : Commit) → Grows (p c)) → Grows (λ history. list_any (λ c. p c history) (marked history))
marked_and_grows p grows history more passed =
    any_implied (λ c. p c history) (λ c. p c (history ++ more)) (λ c. grows c history more) (marked (history ++ more))
    (given_grows _ (λ c. p c history) history more passed)

and_grows : {A : Type 0} (fixed : Bool) (test : List A → Bool) → Grows test → Grows (λ xs. fixed && test xs)
and_grows fixed test grows xs ys passed =
    let parts = and_parts fixed (test xs) passed in
    and_from _ _ parts.0 (grows xs ys parts.1)

pub record_gone_grows : (id : TxnId) → Grows (knows_record_gone id)
record_gone_grows id = marked_and_grows _ (λ c. and_grows _ _ (marked_then_grows _ c (any_grows (shows_gone c))))

has_deleted_grows : (c : Commit) → Grows (has_deleted c)
has_deleted_grows c history more passed = all_implied _ _ (λ key. any_grows _ history more) c.keys passed

pub versions_gone_grows : (id : TxnId) → Grows (knows_versions_gone id)
versions_gone_grows id = marked_and_grows _ (λ c. and_grows _ _ (marked_then_grows _ c (has_deleted_grows c)))

-- ---- forgetting, and orphan versions

pub short_grows : (who : Incarnation) (uuid : List ℕ) → Grows (knows_short who uuid)
short_grows who uuid = followed_grows _ _ (any_grows _)

pub short_of_grows : (who : Incarnation) (id : TxnId) → Grows (knows_short_of who id)
short_of_grows who id = followed_grows _ _ (any_grows _)

-- what grows behind the first entries grows
dropped_grows : {A : Type 0} (test : List A → Bool) → Grows test → (n : ℕ) → Grows (λ xs. test (drop n xs))
dropped_grows test grows zero xs ys passed = grows xs ys passed
dropped_grows test grows (suc n) [] ys passed = grows [] (drop (suc n) ys) passed
dropped_grows test grows (suc n) (x ∷ xs) ys passed = dropped_grows test grows n xs ys passed

pub orphan_grows : (id : TxnId) (place : ℕ) → Grows (knows_orphan id place)
orphan_grows id place = dropped_grows _ (followed_grows _ _ (any_grows _)) (suc place)

pub forgotten_grows : (uuid : List ℕ) → Grows (forgotten uuid)
forgotten_grows uuid = any_grows _
