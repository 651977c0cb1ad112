-- What came behind a mark, with one entry more: it had come before, or the commit was marked before and this entry completes it.
use Rattle.std.proofs.Common.{◌≡◌, Bool, false, ◌&&◌, List, [], ◌∷◌, ◌++◌, sym, ap, subst, ◌⊎◌, inl, inr}
use Rattle.std.specs.Prelude.{IsTrue}
use Rattle.std.specs.List.{flat_map, list_any}
use Rattle.std.proofs.lemmas.Bool.{and_parts, and_from, or_cases, or_left, or_right, false≢true}
use Rattle.aft_id.specs.declared.txn_id.TxnId.{TxnId}
use Rattle.aft_id.specs.TxnId.{same_id}
use Rattle.aft_records.specs.declared.stored.Commit.{Commit}
use Rattle.aft_records.specs.declared.stored.Marker.{Marker}
use Rattle.aft_records.specs.declared.stored.Marker.TheVariants.{Done, Full}
use Rattle.aft_records.specs.Commits.{is_among, same_commit}
use Rattle.aft_model.specs.declared.door.DoorEntry.{DoorEntry}
use Rattle.aft_model.specs.Committed.{marked, marked_by, marks_in, proven_pairs, retired_by}
use Rattle.aft_model.specs.DoorKnowledge.{marked_then}
use Rattle.aft_model.specs.History.{followed}
use Rattle.aft_model.specs.Readings.{markers_in}
use Rattle.aft_model.proofs.Histories.{In, any_found, any_from, in_back, in_flat_map, in_front}
use Rattle.aft_model.proofs.Ids.{same_commits}
use Rattle.law_kept.specs.Outcomes.{proven_markers}
use Rattle.law_kept.proofs.Fates.{markers_by}

-- ---- lists

pub flat_map_in : {A B : Type 0} (f : A → List B) (y : B) (x : A) (xs : List A) → In x xs → In y (f x) → In y (flat_map f xs)
flat_map_in f y x [] among gives = absurd among
flat_map_in f y x (z ∷ xs) (inl here) gives = in_front y (f z) (flat_map f xs) (subst (λ a. In y (f a)) here gives)
flat_map_in f y x (z ∷ xs) (inr later) gives = in_back y (f z) (flat_map f xs) (flat_map_in f y x xs later gives)

pub any_snoc : {A : Type 0} (test : A → Bool) (xs : List A) (x : A) → IsTrue (list_any test (xs ++ x ∷ [])) → IsTrue (list_any test xs) ⊎ IsTrue (test x)
any_snoc test [] x passed = elim (or_cases (test x) false passed) [ inl here ↦ inr here | inr nothing ↦ absurd (false≢true nothing) ]
any_snoc test (y ∷ ys) x passed =
    elim (or_cases (test y) (list_any test (ys ++ x ∷ [])) passed) [
      | inl here ↦ inl (or_left _ _ here)
      | inr later ↦ elim (any_snoc test ys x later) [ inl before ↦ inl (or_right _ _ before) | inr last ↦ inr last ]
    ]

-- something that follows a first in a longer list follows it in the list, or it is the last one
followed_any_snoc : {A : Type 0} (first then : A → Bool) (xs : List A) (x : A) → IsTrue (followed first (list_any then) (xs ++ x ∷ []))
    → IsTrue (followed first (list_any then) xs) ⊎ (IsTrue (list_any first xs) × IsTrue (then x))
followed_any_snoc first then [] x passed =
    elim (or_cases (first x && false) false passed) [ inl here ↦ absurd (false≢true (and_parts (first x) false here).1) | inr nothing ↦ absurd (false≢true nothing) ]
followed_any_snoc first then (y ∷ ys) x passed =
    elim (or_cases (first y && list_any then (ys ++ x ∷ [])) (followed first (list_any then) (ys ++ x ∷ [])) passed) [
      | inl here ↦ (let parts = and_parts (first y) (list_any then (ys ++ x ∷ [])) here in
          elim (any_snoc then ys x parts.1) [
            | inl before ↦ inl (or_left _ _ (and_from _ _ parts.0 before))
            | inr last ↦ inr (or_left _ _ parts.0, last)
          ])
      | inr later ↦ elim (followed_any_snoc first then ys x later) [
        | inl before ↦ inl (or_right _ _ before)
        | inr last ↦ inr (or_right _ _ last.0, last.1)
      ]
    ]

followed_first : {A : Type 0} (first then : A → Bool) (xs : List A) → IsTrue (followed first (list_any then) xs) → IsTrue (list_any first xs)
followed_first first then [] passed = passed
followed_first first then (x ∷ xs) passed =
    elim (or_cases (first x && list_any then xs) (followed first (list_any then) xs) passed) [
      | inl here ↦ or_left _ _ (and_parts (first x) (list_any then xs) here).0
      | inr later ↦ or_right _ _ (followed_first first then xs later)
    ]

-- ---- marks

-- a commit that an entry marks is marked
marked_at : (c : Commit) (history : List DoorEntry) → IsTrue (list_any (λ (e : DoorEntry). is_among c (marked_by e)) history) → In c (marked history)
marked_at c history some =
    let entry = any_found (λ (e : DoorEntry). is_among c (marked_by e)) history some in
    let found = any_found (same_commit c) (marked_by entry.0) entry.2 in
    subst (λ d. In d (marked history)) (sym (same_commits c found.0 found.2)) (flat_map_in (λ (e : DoorEntry). marked_by e) found.0 entry.0 history entry.1 found.1)

-- a commit of an id is marked, and behind that comes an entry that passes a test
abbrev pub behind_mark : (Commit → DoorEntry → Bool) → TxnId → List DoorEntry → Bool
behind_mark then id history = list_any (λ c. same_id id c.id && marked_then (list_any (then c)) c history) (marked history)

-- a commit was marked whose mark this entry comes behind
pub record Completes (then : Commit → DoorEntry → Bool) (id : TxnId) (history : List DoorEntry) (entry : DoorEntry) : Type 0 where
  pub commit : Commit
  pub of : IsTrue (same_id id commit.id)
  pub was_marked : In commit (marked history)
  pub now : IsTrue (then commit entry)

pub behind_fate : (then : Commit → DoorEntry → Bool) (id : TxnId) (history : List DoorEntry) (entry : DoorEntry) → IsTrue (behind_mark then id (history ++ entry ∷ []))
    → IsTrue (behind_mark then id history) ⊎ Completes then id history entry
behind_fate then id history entry passed =
    let found = any_found (λ (c : Commit). same_id id c.id && marked_then (list_any (then c)) c (history ++ entry ∷ [])) (marked (history ++ entry ∷ [])) passed in
    let c = found.0 in
    let parts = and_parts (same_id id c.id) (marked_then (list_any (then c)) c (history ++ entry ∷ [])) found.2 in
    elim (followed_any_snoc (λ (e : DoorEntry). is_among c (marked_by e)) (then c) history entry parts.1) [
      | inl before ↦ (let was = marked_at c history (followed_first (λ (e : DoorEntry). is_among c (marked_by e)) (then c) history before) in
          inl (any_from (λ (d : Commit). same_id id d.id && marked_then (list_any (then d)) d history) c (marked history) was (and_from _ _ parts.0 before)))
      | inr last ↦ inr (record { commit = c; of = parts.0; was_marked = marked_at c history last.0; now = last.1 })
    ]

full_is : (m : Marker) (c : Commit) → In c (retired_by m) → m ≡ Full c
full_is (Full d) c (inl is) = ap (λ (e : Commit). Full e) (sym is)
full_is (Full d) c (inr nowhere) = absurd nowhere
full_is (Done id) c nowhere = absurd nowhere

-- a marked commit's full marker is proven
pub full_proven : (c : Commit) (history : List DoorEntry) → In c (marked history) → In (Full c) (proven_markers history)
full_proven c history is =
    let entry = in_flat_map (λ (e : DoorEntry). marked_by e) c history is in
    let pair = in_flat_map (λ pair. marks_in pair) c (proven_pairs entry.0) entry.2 in
    let marker = in_flat_map retired_by c (markers_in pair.0) pair.2 in
    flat_map_in (λ (e : DoorEntry). markers_by e) (Full c) entry.0 history entry.1
    (flat_map_in markers_in (Full c) pair.0 (proven_pairs entry.0) pair.1 (subst (λ m. In m (markers_in pair.0)) (full_is marker.0 c marker.2) marker.1))
