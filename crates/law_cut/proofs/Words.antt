-- Words on lists, on turns that are calls, and on calls that write.
use Rattle.std.proofs.Common.{◌≡◌, ◌<◌, ℕ, Bool, true, false, suc, zero, List, [], ◌∷◌, ◌++◌, refl, sym, ap, subst, ◌∙◌, ◌⊎◌, inl, inr, take, drop}
use Rattle.std.specs.Prelude.{IsTrue, None, Some, if◌then◌else◌, ◌&&◌, ◌||◌}
use Rattle.std.specs.List.{list_any}
use Rattle.std.specs.Str.{bytes_eq}
use Rattle.std.proofs.lemmas.Bool.{and_parts, false≢true, or_cases}
use Rattle.aft_id.specs.TxnId.{same_id}
use Rattle.aft_keeper.specs.declared.keeper.Pair.{Pair}
use Rattle.aft_records.specs.declared.stored.Commit.{Commit}
use Rattle.aft_records.specs.declared.stored.Version.{Version}
use Rattle.aft_records.specs.Commits.{same_commit}
use Rattle.aft_records.specs.Reading.{commit_of, version_of}
use Rattle.aft_model.specs.declared.office.OfficeEntry.{OfficeEntry}
use Rattle.aft_model.specs.Readings.{is_record_of, is_version_at, record_name, records_in, version_name, versions_in}
use Rattle.aft_model.proofs.Ids.{same_commits, same_ids}
use Rattle.aft_model.proofs.Sights.{read-name, same_bytes}
use Rattle.aft_keeper.specs.declared.keeper.KeeperAnswer.TheVariants as answers
use Rattle.aft_keeper.specs.declared.keeper.KeeperCall.TheVariants.{Delete, Put}
use Rattle.aft_model.specs.declared.door.DoorAct.{DoorAct}
use Rattle.aft_model.specs.declared.door.DoorAct.TheVariants.{Call, Fence}
use Rattle.aft_model.specs.Claims.{tries_delete}
use Rattle.aft_model.specs.Cut.{tries_put}
use Rattle.aft_model.specs.LegalDoor.{is_answered}
use Rattle.aft_model.specs.Membership.{Incarnation}
use Rattle.aft_model.proofs.Histories.{In, any_found, in_append, in_back, in_front}
use Rattle.aft_lines.specs.BackupCourse.{last_door_place}
use Rattle.aft_lines.specs.ScanCourse.{ScanLimit}
use Rattle.aft_lines.specs.Turns.{AtDoor, AtNode, AtOffice, Turn}
use Rattle.law_effects.specs.Effects.{Leaves, Tries, Writes}
use Rattle.law_kept.proofs.Fates.{NewAt}
use Rattle.law_copies.proofs.Runs.{OwnPage, Unshown}

pub tail_of : {A : Type 0} (x y : A) (xs ys : List A) → x ∷ xs ≡ y ∷ ys → xs ≡ ys
tail_of x y xs ys e = cc

pub in_take : {A : Type 0} (x : A) (n : ℕ) (xs : List A) → In x (take n xs) → In x xs
in_take x zero xs among = absurd among
in_take x (suc n) [] among = absurd among
in_take x (suc n) (y ∷ xs) (inl is) = inl is
in_take x (suc n) (y ∷ xs) (inr later) = inr (in_take x n xs later)

pub in_drop_take : {A : Type 0} (x : A) (n k : ℕ) (xs : List A) → In x (drop n (take k xs)) → In x (drop n xs)
in_drop_take x zero k xs among = in_take x k xs among
in_drop_take x (suc n) zero xs among = absurd among
in_drop_take x (suc n) (suc k) [] among = absurd among
in_drop_take x (suc n) (suc k) (y ∷ xs) among = in_drop_take x n k xs among

pub in_take_take : {A : Type 0} (x : A) (n m : ℕ) (xs : List A) → In x (take n (take m xs)) → In x (take n xs)
in_take_take x zero m xs among = absurd among
in_take_take x (suc n) zero xs among = absurd among
in_take_take x (suc n) (suc m) [] among = absurd among
in_take_take x (suc n) (suc m) (y ∷ xs) (inl is) = inl is
in_take_take x (suc n) (suc m) (y ∷ xs) (inr later) = inr (in_take_take x n m xs later)

pub in_drop_take_take : {A : Type 0} (x : A) (s n m : ℕ) (xs : List A) → In x (drop s (take n (take m xs))) → In x (drop s (take n xs))
in_drop_take_take x zero n m xs among = in_take_take x n m xs among
in_drop_take_take x (suc s) zero m xs among = absurd among
in_drop_take_take x (suc s) (suc n) zero xs among = absurd among
in_drop_take_take x (suc s) (suc n) (suc m) [] among = absurd among
in_drop_take_take x (suc s) (suc n) (suc m) (y ∷ xs) among = in_drop_take_take x s n m xs among

pub in_longer : {A : Type 0} (x : A) (xs : List A) (y : A) (ys : List A) → In x (xs ++ y ∷ []) → In x (xs ++ y ∷ ys)
in_longer x xs y ys among = elim (in_append x xs (y ∷ []) among) [
  | inl before ↦ in_front x xs (y ∷ ys) before
  | inr it ↦ elim it [ inl is ↦ in_back x xs (y ∷ ys) (inl is) | inr none ↦ absurd none ]
]

-- a put or a delete that was answered writes, or tries to
pub put_is_new : (name : List ℕ) (act : DoorAct) → IsTrue (is_answered act) → IsTrue (tries_put name act) → (b : List ℕ) × NewAt name act (Some b)
put_is_new name (Call node inc (Put put bytes) answers.Done) answered tries = (bytes, inl (ap (λ t. if t then Writes (Some bytes) else Leaves) tries))
put_is_new name (Call node inc (Put put bytes) answers.Failed) answered tries = (bytes, inr (ap (λ t. if t then Tries (Some bytes) else Leaves) tries))
put_is_new name (Call node inc (Put put bytes) answer) answered tries = absurd (false≢true answered)
put_is_new name act answered tries = absurd (false≢true tries)

pub delete_is_new : (name : List ℕ) (act : DoorAct) → IsTrue (is_answered act) → IsTrue (tries_delete name act) → NewAt name act None
delete_is_new name (Call node inc (Delete deleted) answers.Done) answered tries = inl (ap (λ t. if t then Writes None else Leaves) tries)
delete_is_new name (Call node inc (Delete deleted) answers.Failed) answered tries = inr (ap (λ t. if t then Tries None else Leaves) tries)
delete_is_new name (Call node inc (Delete deleted) answer) answered tries = absurd (false≢true answered)
delete_is_new name act answered tries = absurd (false≢true tries)

-- the last place of turns that stand before another
pub last_below : (before f : ℕ) (line : List Turn) → before < f → ((p : ℕ) (act : DoorAct) → In (AtDoor p act) line → p < f) → last_door_place before line < f
last_below before f [] less each = less
last_below before f (AtDoor p act ∷ line) less each = last_below p f line (each p act (inl refl)) (λ q a among. each q a (inr among))
last_below before f (AtNode node history entry ∷ line) less each = last_below before f line less (λ q a among. each q a (inr among))
last_below before f (AtOffice history entry ∷ line) less each = last_below before f line less (λ q a among. each q a (inr among))

-- whether an act is a call, and whether a turn is one
abbrev pub is_call : DoorAct → Bool
is_call (Call node inc call answer) = true
is_call act = false

abbrev pub turn_calls : Turn → Bool
turn_calls (AtDoor place act) = is_call act
turn_calls turn = false

pub run_calls : (most : ScanLimit) (who : Incarnation) (prefix : List ℕ) (turn : Turn) → OwnPage most who prefix turn ⊎ Unshown most who prefix turn → IsTrue (turn_calls turn)
run_calls most who prefix turn (inl page) = subst (λ (t : Turn). IsTrue (turn_calls t)) (sym page.is) refl
run_calls most who prefix turn (inr unshown) = subst (λ (t : Turn). IsTrue (turn_calls t)) (sym unshown.is) refl

-- a call before the fence and the answer
pub call_before_end : (turn : Turn) (front : List Turn) (place node inc : ℕ) (before : List OfficeEntry) (entry : OfficeEntry) → In turn (front ++ AtDoor place (Fence node inc) ∷ AtOffice before entry ∷ []) → IsTrue (turn_calls turn) → In turn front
call_before_end turn front place node inc before entry among calls = elim (in_append turn front (AtDoor place (Fence node inc) ∷ AtOffice before entry ∷ []) among) [
  | inl there ↦ there
  | inr ended ↦ elim ended [
    | inl fence ↦ absurd (false≢true (subst (λ (t : Turn). IsTrue (turn_calls t)) fence calls))
    | inr office ↦ elim office [ inl is ↦ absurd (false≢true (subst (λ (t : Turn). IsTrue (turn_calls t)) is calls)) | inr none ↦ absurd none ]
  ]
]

-- the record or a version of a commit stands under the name of that
pub named_as_part : (c : Commit) (pair : Pair) → IsTrue (is_record_of c pair || list_any (λ key. is_version_at key c.id pair) c.keys) → (pair.name ≡ record_name c.id.uuid) ⊎ ((key : List ℕ) × In key c.keys × (pair.name ≡ version_name key c.id))
named_as_part c pair part = elim (or_cases (is_record_of c pair) (list_any (λ key. is_version_at key c.id pair) c.keys) part) [
  | inl record_of ↦ (let d = any_found (same_commit c) (records_in pair) record_of in
      inl (read-name pair.name (λ (e : Commit). record_name e.id.uuid) (commit_of pair.bytes) d.0 d.1 ∙ ap (λ (e : Commit). record_name e.id.uuid) (sym (same_commits c d.0 d.2))))
  | inr version_of_it ↦
      (let key = any_found (λ k. is_version_at k c.id pair) c.keys version_of_it in
      let v = any_found (λ (w : Version). bytes_eq key.0 w.key && same_id c.id w.id) (versions_in pair) key.2 in
      let both = and_parts (bytes_eq key.0 v.0.key) (same_id c.id v.0.id) v.2 in
      inr (
        key.0,
        key.1,
        read-name pair.name (λ (w : Version). version_name w.key w.id) (version_of pair.bytes) v.0 v.1 ∙ (ap (λ k. version_name k v.0.id) (sym (same_bytes key.0 v.0.key both.0)) ∙ ap (version_name key.0) (sym (same_ids c.id v.0.id both.1))),
      ))
]
