-- Entries that tell of an attempt, one for each act.
use Rattle.std.proofs.Common.{◌≡◌, ℕ, ◌+◌, ◌-◌, ◌≤◌, Bool, true, false, ◌&&◌, ◌||◌, not, List, [], ◌∷◌, refl, sym, ap, subst, ◌∙◌, cond, eqb, length, eq-eqb, arith}
use Rattle.std.specs.Prelude.{IsTrue, IsFalse, None, Option, Some, if◌then◌else◌, is_none, is_some, nat_lt, option_and_then, suc}
use Rattle.std.specs.Option.{option_map_or}
use Rattle.std.specs.Cmp.Lexicographic.{pointwise}
use Rattle.std.specs.Str.{bytes_eq}
use Rattle.std.proofs.lemmas.Bool.{and_parts, and_from, eqb-true, false_from_ne_true, false≢true}
use Rattle.aft_id.specs.declared.txn_id.TxnId.{TxnId}
use Rattle.aft_records.specs.declared.stored.Commit.{Commit}
use Rattle.aft_records.specs.Limits.{is_time}
use Rattle.aft_model.specs.declared.caller.Attempt.{Attempt}
use Rattle.aft_model.specs.declared.caller.By.{By}
use Rattle.aft_model.specs.declared.node.NodeAct.TheVariants as acts
use Rattle.aft_model.specs.declared.node.NodeEntry.{NodeEntry}
use Rattle.aft_model.specs.declared.reply.Reply.{Reply}
use Rattle.aft_model.specs.declared.reply.Reply.TheVariants as replies
use Rattle.aft_model.specs.Attempts.{AttemptState, IsCommitting, IsGone, IsInDoubt, IsLeaving, IsOpening, IsRunning, Row, attempt_state, attempts, buffer, buffered, is_committing, is_gone, is_in_doubt, is_of, is_opening, is_running, open_reads, present_of, reads, row_of, rows, uuid_of, written_keys}
use Rattle.aft_model.specs.Known.{known}
use Rattle.aft_model.specs.LegalNode.{may_serve}
use Rattle.aft_model.specs.NodeRules.{commit_time, is_begin_refusal, is_doubt, is_end, is_own_end, is_storing, most_keys}
use Rattle.aft_model.specs.NodeState.{node_state, part, serves}
use Rattle.aft_model.proofs.Incarnations.{known-at}
use Rattle.aft_model.proofs.Pins.{opening_there, running_there}
use Rattle.aft_model.proofs.Sights.{bytes_eq-refl}
use Rattle.law_attempts.specs.Rows as laws
use Rattle.law_attempts.proofs.Attempts.{has_name, there_admitted}
use Rattle.law_attempts.proofs.Tables.{none_of_uuid, row_of_number}
use Rattle.aft_ledger.specs.Ledger.{Held, IsLedger}
use Rattle.aft_ledger.specs.Turns.{commit_of, is_doing, may_put}
use Rattle.aft_ledger.proofs.Entries.{goes, in_now, with_entry}
use Rattle.aft_txn.specs.Rows.{Table, changed, holds_at, row_at, row_of_uuid, state_at, told, without_row}

-- ---- rows, in the words of the table and of the laws

row_at-same : (n : ℕ) (those : List Row) → laws.row_at n those ≡ row_at n those
row_at-same n [] = refl
row_at-same n (row ∷ those) = ap (cond (eqb n row.number) (Some row)) (row_at-same n those)

pub changed-same : (n : ℕ) (change : Row → Row) (those : List Row) → changed n change those ≡ laws.changed n change those
changed-same n change [] = refl
changed-same n change (row ∷ those) = ap (λ (rest : List Row). if eqb n row.number then change row ∷ those else row ∷ rest) (changed-same n change those)

pub without-same : (n : ℕ) (those : List Row) → without_row n those ≡ laws.without_row n those
without-same n [] = refl
without-same n (row ∷ those) = ap (λ (rest : List Row). if eqb n row.number then those else row ∷ rest) (without-same n those)

gone_told : (state : AttemptState) → IsTrue (is_gone state) → None ≡ told state
gone_told IsGone is = refl
gone_told state is = absurd (false≢true is)

told_row : (row : Row) (t : Bool) → is_gone row.state ≡ t → option_and_then (λ (r : Row). told r.state) (if t then None else Some row) ≡ told row.state
told_row row true is = gone_told row.state is
told_row row false is = refl

module _ (h : Held) (l : IsLedger h) (b : Attempt) (at_node : b.node ≡ h.number) (serve : IsTrue (serves b.inc (node_state h.history))) where
  -- the row of an attempt of the service
  pub row_is : row_at b.number h.table.rows ≡ (if is_gone (attempt_state b (part h.history)) then None else Some (row_of (part h.history) b))
  row_is =
      sym (row_at-same b.number h.table.rows) ∙ (ap (λ (t : List Row). laws.row_at b.number t) (ap (λ (t : Table). t.rows) l.tabled)
      ∙ row_of_number h.number h.capacity b.inc h.history l.legal serve b at_node refl)

  -- the table tells what it is doing
  pub state_is : state_at b.number h.table.rows ≡ told (attempt_state b (part h.history))
  state_is = ap (option_and_then (λ (r : Row). told r.state)) row_is ∙ told_row (row_of (part h.history) b) (is_gone (attempt_state b (part h.history))) refl

  module _ (here : IsFalse (is_gone (attempt_state b (part h.history)))) where
    pub row_here : row_at b.number h.table.rows ≡ Some (row_of (part h.history) b)
    row_here = row_is ∙ ap (λ t. if t then None else Some (row_of (part h.history) b)) here

    -- its row passes a test
    pub row_passes : (test : Row → Bool) → IsTrue (test (row_of (part h.history) b)) → IsTrue (holds_at test b.number h.table.rows)
    row_passes test passes = subst (λ (o : Option Row). IsTrue (option_map_or test o false)) (sym row_here) passes

-- ---- entries

pub end_there : (state : AttemptState) (reply : Reply) → IsTrue (is_end state (Some reply)) → IsFalse (is_gone state)
end_there IsGone replies.Ended is = absurd (false≢true is)
end_there IsGone replies.Aborted is = absurd (false≢true is)
end_there IsGone reply is = absurd (false≢true is)
end_there IsOpening reply is = refl
end_there IsRunning reply is = refl
end_there (IsCommitting c) reply is = refl
end_there (IsInDoubt c) reply is = refl
end_there IsLeaving reply is = refl

pub storing_commits : (c : Commit) (state : AttemptState) → IsTrue (is_storing c state) → IsTrue (is_committing state)
storing_commits c (IsCommitting fixed) is = refl
storing_commits c state is = absurd (false≢true is)

pub keys-refl : (keys : List (List ℕ)) → IsTrue (pointwise bytes_eq keys keys)
keys-refl [] = refl
keys-refl (k ∷ keys) = and_from _ _ (bytes_eq-refl k) (keys-refl keys)

-- an attempt of the service is doing something
pub doing : (test : AttemptState → Bool) (b : Attempt) (history : List NodeEntry) → IsTrue (is_doing test b history) → IsTrue (serves b.inc (node_state history)) × IsTrue (test (attempt_state b (part history)))
doing test b history does = and_parts (serves b.inc (node_state history)) (test (attempt_state b (part history))) does

-- its row passes a test of what it is doing
pub row_doing : (h : Held) (l : IsLedger h) (b : Attempt) → b.node ≡ h.number → (test : AttemptState → Bool) → ((state : AttemptState) → IsTrue (test state) → IsFalse (is_gone state)) → IsTrue (is_doing test b h.history)
    → IsTrue (holds_at (λ (row : Row). test row.state) b.number h.table.rows)
row_doing h l b at_node test there does =
    let d = doing test b h.history does in row_passes h l b at_node d.0 (there (attempt_state b (part h.history)) d.1) (λ (row : Row). test row.state) d.1

module _ (h : Held) (l : IsLedger h) (handed : ℕ) (by : By) (b : Attempt) (space : ℕ) where
  -- the attempt is of its UUID
  own_uuid : IsTrue (serves b.inc (node_state h.history)) → IsFalse (is_gone (attempt_state b (part h.history))) → IsTrue (is_of (uuid_of b (part h.history)) (part h.history) b)
  own_uuid serve here = has_name h.number h.capacity b.inc h.history l.legal serve b (there_admitted h.number h.capacity b.inc h.history l.legal serve b here)

  -- an attempt opens no more, and runs
  pub runs : (uuid : List ℕ) → IsTrue (is_doing is_opening b h.history) → uuid ≡ uuid_of b (part h.history) → length h.history + 1 + (h.room - 1) ≤ space
      → IsLedger (with_entry h handed by (acts.Begin b) (Some (replies.Begun uuid)) space)
  runs uuid does named fits =
      let d = doing is_opening b h.history does in
      let own = subst (λ u. IsTrue (is_of u (part h.history) b)) (sym named) (own_uuid d.0 (opening_there (attempt_state b (part h.history)) d.1)) in
      goes h l handed by (acts.Begin b) (Some (replies.Begun uuid))
      (in_now (may_serve h.number h.capacity (acts.Begin b) (Some (replies.Begun uuid))) h.history b.inc d.0 (λ s is of at. subst (λ (p : List NodeEntry). IsTrue (is_opening (attempt_state b p) && is_of uuid p b)) at (and_from _ _ d.1 own)))
      refl b.inc d.0 (λ s e. refl) (λ n. refl) space fits

  -- an opening attempt is taken away
  pub unadmits : (reply : Reply) → IsTrue (is_doing is_opening b h.history) → IsTrue (is_begin_refusal (Some reply)) → length h.history + 1 + (h.room - 1) ≤ space
      → IsLedger (with_entry h handed by (acts.Unadmit b) (Some reply) space)
  unadmits reply does may fits =
      let d = doing is_opening b h.history does in
      goes h l handed by (acts.Unadmit b) (Some reply)
      (in_now (may_serve h.number h.capacity (acts.Unadmit b) (Some reply)) h.history b.inc d.0 (λ s is of at. subst (λ (p : List NodeEntry). IsTrue (is_opening (attempt_state b p) && is_begin_refusal (Some reply))) at (and_from _ _ d.1 may)))
      refl b.inc d.0 (λ s e. refl) (λ n. refl) space fits

  -- a running attempt puts a value
  pub puts : (key value : List ℕ) → IsTrue (is_doing is_running b h.history) → IsTrue (may_put b key h.history) → length h.history + 1 + (h.room - 1) ≤ space
      → IsLedger (with_entry h handed by (acts.Put b key value) (Some replies.Stored) space)
  puts key value does may fits =
      let d = doing is_running b h.history does in
      goes h l handed by (acts.Put b key value) (Some replies.Stored)
      (in_now (may_serve h.number h.capacity (acts.Put b key value) (Some replies.Stored)) h.history b.inc d.0
      (λ s is of at. subst (λ (p : List NodeEntry). IsTrue (is_running (attempt_state b p) && (is_some (buffered key (buffer b p)) || nat_lt (length (buffer b p)) most_keys) && true)) at (and_from _ _ (and_from _ _ d.1 may) refl)))
      refl b.inc d.0 (λ s e. refl) (λ n. refl) space fits

  -- it isn't known whether a commit is stored
  pub doubts : (reply : Reply) → IsTrue (is_doing is_committing b h.history) → IsTrue (is_doubt (Some reply)) → length h.history + 1 + (h.room - 1) ≤ space
      → IsLedger (with_entry h handed by (acts.Doubt b) (Some reply) space)
  doubts reply does may fits =
      let d = doing is_committing b h.history does in
      goes h l handed by (acts.Doubt b) (Some reply)
      (in_now (may_serve h.number h.capacity (acts.Doubt b) (Some reply)) h.history b.inc d.0 (λ s is of at. subst (λ (p : List NodeEntry). IsTrue (is_committing (attempt_state b p) && is_doubt (Some reply))) at (and_from _ _ d.1 may)))
      refl b.inc d.0 (λ s e. refl) (λ n. refl) space fits

  -- a commit in doubt is tried again
  pub settles : IsTrue (is_doing is_in_doubt b h.history) → length h.history + 1 + h.room ≤ space → IsLedger (with_entry h handed by (acts.Settle b) None space)
  settles does fits =
      let d = doing is_in_doubt b h.history does in
      goes h l handed by (acts.Settle b) None
      (in_now (may_serve h.number h.capacity (acts.Settle b) None) h.history b.inc d.0 (λ s is of at. subst (λ (p : List NodeEntry). IsTrue (is_in_doubt (attempt_state b p) && true)) at (and_from _ _ d.1 refl)))
      refl b.inc d.0 (λ s e. refl) (λ n. refl) space fits

  -- a running attempt leaves
  pub leaves : IsTrue (is_doing is_running b h.history) → open_reads b (part h.history) ≡ 0 → length h.history + 1 + h.room ≤ space → IsLedger (with_entry h handed by (acts.Leave b) None space)
  leaves does closed fits =
      let d = doing is_running b h.history does in
      goes h l handed by (acts.Leave b) None
      (in_now (may_serve h.number h.capacity (acts.Leave b) None) h.history b.inc d.0
      (λ s is of at. subst (λ (p : List NodeEntry). IsTrue (is_running (attempt_state b p) && eqb (open_reads b p) 0 && true)) at (and_from _ _ (and_from _ _ d.1 (eq-eqb (open_reads b (part h.history)) 0 closed)) refl)))
      refl b.inc d.0 (λ s e. refl) (λ n. refl) space fits

  -- an attempt ends
  pub ends : (reply : Reply) → IsTrue (is_doing (λ state. is_end state (Some reply)) b h.history) → IsTrue (is_own_end (part h.history) by (acts.End b) (Some reply)) → length h.history + 1 + (h.room - 1) ≤ space
      → IsLedger (with_entry h handed by (acts.End b) (Some reply) space)
  ends reply does own fits =
      let d = doing (λ state. is_end state (Some reply)) b h.history does in
      goes h l handed by (acts.End b) (Some reply)
      (in_now (may_serve h.number h.capacity (acts.End b) (Some reply)) h.history b.inc d.0 (λ s is of at. subst (λ (p : List NodeEntry). IsTrue (is_end (attempt_state b p) (Some reply))) at d.1))
      own b.inc d.0 (λ s e. refl) (λ n. refl) space fits

  -- a commit is stored
  pub stores : (c : Commit) → IsTrue (is_doing (is_storing c) b h.history) → length h.history + 1 + h.room ≤ space → IsLedger (with_entry h handed by (acts.Stored b c) None space)
  stores c does fits =
      let d = doing (is_storing c) b h.history does in
      goes h l handed by (acts.Stored b c) None
      (in_now (may_serve h.number h.capacity (acts.Stored b c) None) h.history b.inc d.0 (λ s is of at. subst (λ (p : List NodeEntry). IsTrue (is_storing c (attempt_state b p) && true)) at (and_from _ _ d.1 refl)))
      refl b.inc d.0 (λ s e. refl) (λ n. refl) space fits

  -- a running attempt commits
  pub commits : (now : ℕ) (id : TxnId) (keys : List (List ℕ)) → IsTrue (is_doing is_running b h.history) → open_reads b (part h.history) ≡ 0 → 1 ≤ length keys → keys ≡ written_keys (buffer b (part h.history))
      → id ≡ (commit_of now b h.history).id → IsTrue (is_time (commit_of now b h.history).id.time) → length h.history + 1 + h.room ≤ space
      → IsLedger (with_entry h handed by (acts.Start b now (record { id = id; keys = keys })) None space)
  commits now id keys does closed some keys_are id_is in_time fits =
      let d = doing is_running b h.history does in
      let its_time : id.time ≡ commit_time now (reads b (part h.history)) keys (known h.history) =
      ap (λ (t : TxnId). t.time) id_is ∙ ap (λ (k : List (List ℕ)). commit_time now (reads b (part h.history)) k (known h.history)) (sym keys_are) in
      let nonempty : IsTrue (not (eqb (length keys) 0)) = ap not (false_from_ne_true (eqb (length keys) 0) (λ zero. let e = eqb-true (length keys) 0 zero in absurd (omega arith))) in
      let own = subst (λ u. IsTrue (is_of u (part h.history) b)) (sym (ap (λ (t : TxnId). t.uuid) id_is)) (own_uuid d.0 (running_there (attempt_state b (part h.history)) d.1)) in
      let timely : IsTrue (is_time id.time) = subst (λ (t : TxnId). IsTrue (is_time t.time)) (sym id_is) in_time in
      goes h l handed by (acts.Start b now (record { id = id; keys = keys })) None
      (in_now (may_serve h.number h.capacity (acts.Start b now (record { id = id; keys = keys })) None) h.history b.inc d.0
      (λ s is of at.
      subst (λ (k : List Commit). IsTrue (is_running (attempt_state b s.part) && not (eqb (length keys) 0) && eqb (open_reads b s.part) 0 && pointwise bytes_eq keys (written_keys (buffer b s.part)) && is_of id.uuid s.part b && eqb id.time (commit_time now (reads b s.part) keys k) && is_time id.time && true)) (known-at h.history s is)
      (subst (λ (p : List NodeEntry). IsTrue (is_running (attempt_state b p) && not (eqb (length keys) 0) && eqb (open_reads b p) 0 && pointwise bytes_eq keys (written_keys (buffer b p)) && is_of id.uuid p b && eqb id.time (commit_time now (reads b p) keys (known h.history)) && is_time id.time && true)) at
      (and_from _ _ (and_from _ _ (and_from _ _ (and_from _ _ (and_from _ _ (and_from _ _ (and_from _ _ d.1 nonempty) (eq-eqb (open_reads b (part h.history)) 0 closed)) (subst (λ (k : List (List ℕ)). IsTrue (pointwise bytes_eq keys k)) keys_are (keys-refl keys))) own) (eq-eqb id.time _ its_time)) timely) refl))))
      refl b.inc d.0 (λ s e. refl) (λ n. refl) space fits

-- an attempt more opens
pub opens : (h : Held) (l : IsLedger h) (handed : ℕ) (by : By) (inc : ℕ) (uuid : List ℕ) (b : Attempt) (space : ℕ) → IsTrue (serves inc (node_state h.history)) → row_of_uuid uuid (rows (part h.history)) ≡ None
    → b ≡ record { node = h.number; inc = inc; number = length (attempts (part h.history)) + 1 } → length h.history + 1 + h.room ≤ space → IsLedger (with_entry h handed by (acts.Admit b uuid) None space)
opens h l handed by inc uuid b space serve free b_is fits =
    let none : IsTrue (eqb (length (present_of uuid (part h.history))) 0) = none_of_uuid h.number h.capacity inc h.history l.legal serve uuid ∙ ap is_none free in
    goes h l handed by (acts.Admit b uuid) None
    (in_now (may_serve h.number h.capacity (acts.Admit b uuid) None) h.history inc serve (λ s is of at.
    subst (λ (p : List NodeEntry). IsTrue (eqb b.node h.number && eqb b.inc s.inc && eqb b.number (suc (length (attempts p))) && eqb (length (present_of uuid p)) 0 && true)) at
    (and_from _ _ (and_from _ _ (and_from _ _ (and_from _ _ (eq-eqb b.node h.number (ap (λ (a : Attempt). a.node) b_is)) (eq-eqb b.inc s.inc (ap (λ (a : Attempt). a.inc) b_is ∙ sym of)))
    (eq-eqb b.number (suc (length (attempts (part h.history)))) (let e : b.number ≡ length (attempts (part h.history)) + 1 = ap (λ (a : Attempt). a.number) b_is in omega arith))) none) refl)))
    refl inc serve (λ s e. refl) (λ n. refl) space fits
