-- A row stays sound with a write more, and in another state.
use Rattle.std.proofs.Common.{◌≡◌, ℕ, ◌+◌, ◌<◌, ◌≤◌, suc, Bool, true, false, not, ◌&&◌, ◌||◌, List, [], ◌∷◌, length, Option, Some, None, Result, Ok, Err, refl, sym, ap, subst, ◌∙◌, arith, cond}
use Rattle.std.specs.Prelude.{IsTrue, IsFalse, OnErr, OnOk, if◌then◌else◌, is_some, nat_le, nat_lt, option_map}
use Rattle.std.specs.Str.{bytes_eq}
use Rattle.std.specs.Cmp.Lexicographic.{bytes_decides}
use Rattle.std.proofs.lemmas.Bool.{and_from, and_parts, or_cases, true≢false}
use Rattle.std.proofs.lemmas.Bool.Decides.{nat_tests}
use Rattle.aft_fields.specs.Order.{ascend_after, follows}
use Rattle.aft_id.specs.declared.txn_id.TxnId.{TxnId}
use Rattle.aft_keeper.proofs.Names.{Greater-from_tests, Less-from_name_lt, Less-trans, bytes_eq-Less, name_lt-from_Less}
use Rattle.aft_keeper.specs.Contents.{name_lt}
use Rattle.aft_model.specs.Attempts.{AttemptState, IsCommitting, IsGone, IsInDoubt, IsLeaving, IsOpening, IsRunning, Row, Write, buffered, doubted, is_running, tried_again, with_write, written_keys}
use Rattle.aft_txn.specs.Refusals.{MayBeRefused, put_refusal, refused_row}
use Rattle.aft_txn.specs.Rows.{fixed_id, id_in, is_own, is_sound, state_in, with_noted, with_put, with_state}
use Rattle.aft_txn.specs.declared.state.State.{State}
use Rattle.aft_txn.specs.declared.state.State.TheVariants as states
use Rattle.aft_txn.specs.declared.state.TxnFault.{TxnFault}
use Rattle.aft_txn.specs.declared.state.TxnFault.TheVariants.{Committing, TooManyKeys}

-- ---- a write more

module _ (write : Write) where
  -- a buffer that ascends does so with a write more
  ascend-write : (before : Option (List ℕ)) (writes : List Write) → IsTrue (follows before write.key) → IsTrue (ascend_after before (written_keys writes)) → IsTrue (ascend_after before (written_keys (with_write write writes)))
  ascend-write before [] first up = and_from _ _ first refl
  ascend-write before (other ∷ writes) first up =
      let parts = and_parts (follows before other.key) (ascend_after (Some other.key) (written_keys writes)) up in
      cases (bytes_eq write.key other.key) (name_lt write.key other.key) refl refl parts.0 parts.1 (λ above. ascend-write (Some other.key) writes above parts.1)
    where
      cases : (same less : Bool) → bytes_eq write.key other.key ≡ same → name_lt write.key other.key ≡ less → IsTrue (follows before other.key) → IsTrue (ascend_after (Some other.key) (written_keys writes))
          → (IsTrue (name_lt other.key write.key) → IsTrue (ascend_after (Some other.key) (written_keys (with_write write writes))))
          → IsTrue (ascend_after before (written_keys (if same then write ∷ writes else if less then write ∷ other ∷ writes else other ∷ with_write write writes)))
      cases true less is low here rest later = and_from _ _ first (subst (λ (k : List ℕ). IsTrue (ascend_after (Some k) (written_keys writes))) (sym ((bytes_decides write.key other.key).0 is)) rest)
      cases false true is low here rest later = and_from _ _ first (and_from _ _ low rest)
      cases false false is low here rest later = and_from _ _ here (later (name_lt-from_Less other.key write.key (Greater-from_tests write.key other.key is low)))

  -- a key below all of a buffer isn't there
  unbuffered : (other : List ℕ) (writes : List Write) → IsTrue (name_lt write.key other) → IsTrue (ascend_after (Some other) (written_keys writes)) → buffered write.key writes ≡ None
  unbuffered other [] low up = refl
  unbuffered other (next ∷ writes) low up =
      let parts = and_parts (name_lt other next.key) (ascend_after (Some next.key) (written_keys writes)) up in
      let less = Less-trans write.key other next.key (Less-from_name_lt write.key other low) (Less-from_name_lt other next.key parts.0) in
      ap (λ b. if b then Some next.value else buffered write.key writes) (bytes_eq-Less write.key next.key less) ∙ unbuffered next.key writes (name_lt-from_Less write.key next.key less) parts.1

  -- a buffer has a write more, or as many as before where it has the key
  few-write : (before : Option (List ℕ)) (writes : List Write) → IsTrue (ascend_after before (written_keys writes)) → length (with_write write writes) ≡ (if is_some (buffered write.key writes) then length writes else length writes + 1)
  few-write before [] up = refl
  few-write before (other ∷ writes) up =
      let parts = and_parts (follows before other.key) (ascend_after (Some other.key) (written_keys writes)) up in
      cases (bytes_eq write.key other.key) (name_lt write.key other.key) refl parts.1 (few-write (Some other.key) writes parts.1)
    where
      longer : (b : Bool) → suc (if b then length writes else length writes + 1) ≡ (if b then suc (length writes) else suc (length writes) + 1)
      longer true = refl
      longer false = omega arith

      cases : (same less : Bool) → name_lt write.key other.key ≡ less → IsTrue (ascend_after (Some other.key) (written_keys writes))
          → length (with_write write writes) ≡ (if is_some (buffered write.key writes) then length writes else length writes + 1)
          → length (if same then write ∷ writes else if less then write ∷ other ∷ writes else other ∷ with_write write writes) ≡ (if is_some (if same then Some other.value else buffered write.key writes) then suc (length writes) else suc (length writes) + 1)
      cases true less low rest later = refl
      cases false true low rest later =
          let longer_by_two : suc (suc (length writes)) ≡ suc (length writes) + 1 = omega arith in
          longer_by_two ∙ sym (ap (λ o. if is_some o then suc (length writes) else suc (length writes) + 1) (unbuffered other.key writes low rest))
      cases false false low rest later = ap suc later ∙ longer (is_some (buffered write.key writes))

-- a put that isn't refused leaves a row sound
put-sound : (key value : List ℕ) (row : Row) → IsTrue (is_some (buffered key row.writes) || nat_lt (length row.writes) 32) → IsTrue (is_sound row) → IsTrue (is_sound (with_put key value row))
put-sound key value row room sound =
    let parts = and_parts (ascend_after None (written_keys row.writes) && nat_le (length row.writes) 32) (is_own row.uuid (fixed_id row.state)) sound in
    let writes = and_parts (ascend_after None (written_keys row.writes)) (nat_le (length row.writes) 32) parts.0 in
    and_from _ _ (and_from _ _ (ascend-write (record { key = key; value = value }) None row.writes refl writes.0)
    (ap (λ n. nat_le n 32) (few-write (record { key = key; value = value }) None row.writes writes.0) ∙ few (is_some (buffered key row.writes)) (length row.writes) room writes.1)) parts.1
  where
    few : (there : Bool) (n : ℕ) → IsTrue (there || nat_lt n 32) → IsTrue (nat_le n 32) → IsTrue (nat_le (if there then n else n + 1) 32)
    few true n room low = low
    few false n room low = grind (arith, nat_tests, room, low)

-- what a put leaves: a sound row, and as much where it is refused
pub put-keeps : {T : Type 0} (key value : List ℕ) (row new : Row) (result : Result T TxnFault) → MayBeRefused (refused_row (put_refusal key) row) result → OnOk result (new ≡ with_put key value row) → OnErr result (new ≡ row)
    → (new.uuid ≡ row.uuid) × (IsTrue (is_sound row) → IsTrue (is_sound new))
put-keeps key value row new (Err fault) refused ok err = (ap (λ (r : Row). r.uuid) err, λ sound. subst (λ (r : Row). IsTrue (is_sound r)) (sym err) sound)
put-keeps {T} key value row new (Ok done) refused ok err =
    (ap (λ (r : Row). r.uuid) ok, λ sound. subst (λ (r : Row). IsTrue (is_sound r)) (sym ok) (put-sound key value row (room (is_running row.state) (is_some (buffered key row.writes) || nat_lt (length row.writes) 32) refl refused) sound))
  where
    room : (runs left : Bool) → (is_some (buffered key row.writes) || nat_lt (length row.writes) 32) ≡ left → MayBeRefused {T = T} (if runs then (if left then None else Some TooManyKeys) else Some Committing) (Ok done) → IsTrue (is_some (buffered key row.writes) || nat_lt (length row.writes) 32)
    room true true is may = is
    room true false is may = absurd cc
    room false left is may = absurd cc

-- what a read leaves
pub read-keeps : {T : Type 0} (key : List ℕ) (id : TxnId) (fetch : Bool) (row new : Row) (result : Result T TxnFault) → OnOk result (new ≡ with_noted key id fetch row) → OnErr result (new ≡ row)
    → (new.uuid ≡ row.uuid) × (IsTrue (is_sound row) → IsTrue (is_sound new))
read-keeps key id fetch row new (Err fault) ok err = (ap (λ (r : Row). r.uuid) err, λ sound. subst (λ (r : Row). IsTrue (is_sound r)) (sym err) sound)
read-keeps key id fetch row new (Ok done) ok err = (ap (λ (r : Row). r.uuid) ok, λ sound. subst (λ (r : Row). IsTrue (is_sound r)) (sym ok) sound)

-- ---- another state

-- the id that a state has fixed
fixed-in : (state : State) (writes : List Write) → fixed_id (state_in state writes) ≡ id_in state
fixed-in states.Opening writes = refl
fixed-in states.Running writes = refl
fixed-in (states.Committing id) writes = refl
fixed-in (states.Doubt id) writes = refl
fixed-in states.Leaving writes = refl

fixed-again : (state : AttemptState) → fixed_id (tried_again state) ≡ fixed_id state
fixed-again IsGone = refl
fixed-again IsOpening = refl
fixed-again IsRunning = refl
fixed-again (IsCommitting c) = refl
fixed-again (IsInDoubt c) = refl
fixed-again IsLeaving = refl

fixed-doubted : (state : AttemptState) → fixed_id (doubted state) ≡ fixed_id state
fixed-doubted IsGone = refl
fixed-doubted IsOpening = refl
fixed-doubted IsRunning = refl
fixed-doubted (IsCommitting c) = refl
fixed-doubted (IsInDoubt c) = refl
fixed-doubted IsLeaving = refl

in_state : (row : Row) (state : AttemptState) → IsTrue (is_own row.uuid (fixed_id state)) → IsTrue (is_sound row) → IsTrue (is_sound (record row { state = state }))
in_state row state own sound = and_from _ _ (and_parts (ascend_after None (written_keys row.writes) && nat_le (length row.writes) 32) (is_own row.uuid (fixed_id row.state)) sound).0 own

pub state-sound : (state : State) (row : Row) → IsTrue (is_own row.uuid (id_in state)) → IsTrue (is_sound row) → IsTrue (is_sound (with_state state row))
state-sound state row own sound = in_state row (state_in state row.writes) (ap (is_own row.uuid) (fixed-in state row.writes) ∙ own) sound

own_of : (row : Row) → IsTrue (is_sound row) → IsTrue (is_own row.uuid (fixed_id row.state))
own_of row sound = (and_parts (ascend_after None (written_keys row.writes) && nat_le (length row.writes) 32) (is_own row.uuid (fixed_id row.state)) sound).1

pub settled-sound : (row : Row) → IsTrue (is_sound row) → IsTrue (is_sound (record row { state = tried_again row.state }))
settled-sound row sound = in_state row (tried_again row.state) (ap (is_own row.uuid) (fixed-again row.state) ∙ own_of row sound) sound

pub doubted-sound : (row : Row) → IsTrue (is_sound row) → IsTrue (is_sound (record row { state = doubted row.state }))
doubted-sound row sound = in_state row (doubted row.state) (ap (is_own row.uuid) (fixed-doubted row.state) ∙ own_of row sound) sound

-- ---- what a node reads off a sound row

pub sound_writes : (row : Row) → IsTrue (is_sound row) → IsTrue (ascend_after None (written_keys row.writes)) × (length row.writes ≤ 32)
sound_writes row sound =
    let writes = and_parts (ascend_after None (written_keys row.writes)) (nat_le (length row.writes) 32) (and_parts (ascend_after None (written_keys row.writes) && nat_le (length row.writes) 32) (is_own row.uuid (fixed_id row.state)) sound).0 in
    (writes.0, grind (arith, nat_tests, writes.1))
