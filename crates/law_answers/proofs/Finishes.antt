-- What a commit is answered: by the attempt that its client holds, and where it fixes or settles a commit, by what its calls showed of it.
use Rattle.std.proofs.Common.{◌≡◌, ◌++◌, ℕ, zero, suc, Bool, true, false, eqb, ◌&&◌, ◌||◌, not, List, [], ◌∷◌, length, refl, sym, ap, subst, ◌∙◌, inl, inr, ◌⊎◌}
use Rattle.std.specs.Prelude.{IsTrue, Option, Some, None, is_none, nat_lt}
use Rattle.std.specs.List.{flat_map}
use Rattle.std.proofs.lemmas.Bool.{and_parts, eqb-true, false≢true, or_cases, or_left}
use Rattle.aft_id.specs.declared.txn_id.TxnId.{TxnId}
use Rattle.aft_id.specs.TxnId.{same_id}
use Rattle.aft_keeper.specs.declared.keeper.Pair.{Pair}
use Rattle.aft_records.specs.declared.stored.Commit.{Commit}
use Rattle.aft_model.specs.declared.caller.Attempt.{Attempt}
use Rattle.aft_model.specs.declared.door.DoorEntry.{DoorEntry}
use Rattle.aft_model.specs.declared.node.NodeEntry.{NodeEntry}
use Rattle.aft_model.specs.declared.reply.Reply.{Reply}
use Rattle.aft_model.specs.declared.reply.Reply.TheVariants as replies
use Rattle.aft_model.specs.declared.script.Command.TheVariants as commands
use Rattle.aft_model.specs.Attempts.{AttemptState, IsGone, IsInDoubt, IsRunning, buffer, is_committing, is_gone, is_leaving, is_opening, is_running, open_reads}
use Rattle.aft_model.specs.History.{first_of}
use Rattle.aft_model.specs.NodeSights.{is_stored_by}
use Rattle.aft_model.specs.NodeState.{Service, part, service}
use Rattle.aft_model.specs.Opening.{has_failed}
use Rattle.aft_model.specs.Sound.{markers_prefix, records_prefix}
use Rattle.aft_model.proofs.Ids.{same_ids}
use Rattle.aft_model.proofs.Sights.{same_bytes}
use Rattle.aft_lines.specs.Causes.{ExactlyCaused, cause, comes_exactly, same_but_holders, yields_to}
use Rattle.aft_lines.specs.CausesAttempts.{is_ready, passes_end, reading, state_in}
use Rattle.aft_lines.specs.CausesCommits.{fails_both}
use Rattle.aft_lines.specs.CausesScans.{damage_in, is_written_name, listed_in, written_name}
use Rattle.aft_lines.specs.LineView.{LineView, fixed_by, is_fixed, is_served}
use Rattle.aft_lines.specs.Turns.{AtNode, Turn}
use Rattle.law_answers.proofs.Same.{reply_same}
use Rattle.law_answers.proofs.Scans.{entries}
use Rattle.law_answers.proofs.Served.{served_so}
use Rattle.law_answers.proofs.Settled.{Settles, told, with_turns}
use Rattle.law_answers.proofs.Storings.{Storedly, Unstored, names_of}

-- ---- what entries tell a commit

abbrev pub lists_too_many : List DoorEntry → Bool
lists_too_many done = nat_lt 20000 (length (flat_map (λ (entry : DoorEntry). listed_in records_prefix entry.act) done)) || nat_lt 20000 (length (flat_map (λ (entry : DoorEntry). listed_in markers_prefix entry.act) done))

-- what a commit whose attempt has fixed this commit, if it has, is told by what it did at the door
pub record Tells (fixed : Option Commit) (done : List DoorEntry) (answer : Option Reply) : Type 0 where
  pub damage : (written : List ℕ) → IsTrue (is_written_name written (first_of (flat_map (damage_in fixed) done))) → Some (replies.Damaged written) ≡ answer
  pub committed : (id : TxnId) → IsTrue (is_fixed (λ c. same_id id c.id && is_stored_by c done) fixed) → Some (replies.Committed id) ≡ answer
  pub doubt : IsTrue (is_fixed (λ c. fails_both c done) fixed) → Some replies.InDoubt ≡ answer
  pub few : lists_too_many done ≡ false

-- whether a failed call is told as such
abbrev pub faults : Option Commit → List DoorEntry → Bool
faults fixed done = has_failed done && not (is_fixed (λ c. fails_both c done) fixed || (not (eqb (length (flat_map (damage_in fixed) done)) 0) && not (lists_too_many done)))

-- ---- what its attempt tells

-- what it is told by the attempt that its client holds, and by what it read of the clock
pub record Finds (held : Option Attempt) (found : Option Service) (read : Option ℕ) (answer : Option Reply) : Type 0 where
  pub lost : IsTrue (is_none held || is_served (λ a serving. is_gone (state_in a serving)) held found) → Some replies.NoTransaction ≡ answer
  pub refused : IsTrue (is_served (λ a serving. (is_opening (state_in a serving) || is_committing (state_in a serving)) || is_leaving (state_in a serving)) held found) → Some replies.Committing ≡ answer
  pub reading : (count : ℕ) → IsTrue (not (eqb count 0)) → IsTrue (is_served (λ a serving. is_running (state_in a serving) && eqb (open_reads a serving.part) count) held found) → Some (replies.OpenReads count) ≡ answer
  pub ended : IsTrue (is_served (is_ready (λ count. eqb count 0)) held found) → Some replies.Ended ≡ answer
  pub clock : IsTrue (is_served (λ a serving. is_ready (λ count. not (eqb count 0)) a serving && passes_end read a serving) held found) → Some replies.ClockEnd ≡ answer

abbrev by_state : AttemptState → ℕ → ℕ → Option Reply
by_state IsGone count keys = Some replies.NoTransaction
by_state IsRunning zero zero = Some replies.Ended
by_state IsRunning zero (suc keys) = Some replies.ClockEnd
by_state IsRunning (suc count) keys = Some (replies.OpenReads (suc count))
by_state (IsInDoubt c) count keys = None
by_state state count keys = Some replies.Committing

abbrev pub told_to_commit : Option Attempt → Option Service → Option Reply
told_to_commit None found = Some replies.NoTransaction
told_to_commit (Some a) None = None
told_to_commit (Some a) (Some serving) = by_state (state_in a serving) (open_reads a serving.part) (length (buffer a serving.part))

gone_so : (state : AttemptState) (count keys : ℕ) → IsTrue (is_gone state) → Some replies.NoTransaction ≡ by_state state count keys
gone_so IsGone count keys is = refl
gone_so state count keys is = absurd (false≢true is)

refused_so : (state : AttemptState) (count keys : ℕ) → IsTrue ((is_opening state || is_committing state) || is_leaving state) → Some replies.Committing ≡ by_state state count keys
refused_so IsGone count keys is = absurd (false≢true is)
refused_so IsRunning count keys is = absurd (false≢true is)
refused_so (IsInDoubt c) count keys is = absurd (false≢true is)
refused_so state count keys is = refl

reading_so : (state : AttemptState) (its keys count : ℕ) → IsTrue (not (eqb count 0)) → IsTrue (is_running state && eqb its count) → Some (replies.OpenReads count) ≡ by_state state its keys
reading_so IsRunning zero keys count some is = (let e : zero ≡ count = eqb-true zero count is in absurd (false≢true (subst (λ (n : ℕ). IsTrue (not (eqb n 0))) (sym e) some)))
reading_so IsRunning (suc its) keys count some is = ap (λ (n : ℕ). Some (replies.OpenReads n)) (sym (eqb-true (suc its) count is))
reading_so state its keys count some is = absurd (false≢true is)

ended_so : (state : AttemptState) (its keys : ℕ) → IsTrue ((is_running state && eqb its 0) && eqb keys 0) → Some replies.Ended ≡ by_state state its keys
ended_so IsRunning zero zero is = refl
ended_so IsRunning zero (suc keys) is = absurd (cc (eqb-true (suc keys) 0 is))
ended_so IsRunning (suc its) keys is = absurd (cc (eqb-true (suc its) 0 (and_parts (eqb (suc its) 0) (eqb keys 0) is).0))
ended_so state its keys is = absurd (false≢true is)

clock_so : (state : AttemptState) (its keys : ℕ) → IsTrue ((is_running state && eqb its 0) && not (eqb keys 0)) → Some replies.ClockEnd ≡ by_state state its keys
clock_so IsRunning zero zero is = absurd (false≢true is)
clock_so IsRunning zero (suc keys) is = refl
clock_so IsRunning (suc its) keys is = absurd (cc (eqb-true (suc its) 0 (and_parts (eqb (suc its) 0) (not (eqb keys 0)) is).0))
clock_so state its keys is = absurd (false≢true is)

none_so : (held : Option Attempt) (found : Option Service) → IsTrue (is_none held) → Some replies.NoTransaction ≡ told_to_commit held found
none_so None found is = refl
none_so (Some a) found is = absurd (false≢true is)

pub finds_told : (held : Option Attempt) (found : Option Service) (read : Option ℕ) → Finds held found read (told_to_commit held found)
finds_told held found read = record {
  lost = λ is. elim (or_cases (is_none held) (is_served (λ a serving. is_gone (state_in a serving)) held found) is) [
    | inl none ↦ none_so held found none
    | inr gone ↦ served_so (λ its service. Some replies.NoTransaction ≡ told_to_commit its service) (λ a serving. is_gone (state_in a serving)) (λ a serving so. gone_so (state_in a serving) (open_reads a serving.part) (length (buffer a serving.part)) so) held found gone
  ];
  refused = λ is. served_so (λ its service. Some replies.Committing ≡ told_to_commit its service) (λ a serving. (is_opening (state_in a serving) || is_committing (state_in a serving)) || is_leaving (state_in a serving)) (λ a serving so. refused_so (state_in a serving) (open_reads a serving.part) (length (buffer a serving.part)) so) held found is;
  reading = λ count some is. served_so (λ its service. Some (replies.OpenReads count) ≡ told_to_commit its service) (λ a serving. is_running (state_in a serving) && eqb (open_reads a serving.part) count) (λ a serving so. reading_so (state_in a serving) (open_reads a serving.part) (length (buffer a serving.part)) count some so) held found is;
  ended = λ is. served_so (λ its service. Some replies.Ended ≡ told_to_commit its service) (is_ready (λ count. eqb count 0)) (λ a serving so. ended_so (state_in a serving) (open_reads a serving.part) (length (buffer a serving.part)) so) held found is;
  clock = λ is. served_so (λ its service. Some replies.ClockEnd ≡ told_to_commit its service) (λ a serving. is_ready (λ count. not (eqb count 0)) a serving && passes_end read a serving) (λ a serving so. clock_so (state_in a serving) (open_reads a serving.part) (length (buffer a serving.part)) (and_parts (is_ready (λ count. not (eqb count 0)) a serving) (passes_end read a serving) so).0) held found is;
}

-- ---- both together

module _ (view : LineView) (node : ℕ) (before : List NodeEntry) (entry : NodeEntry) (rest : List Turn) where
  abbrev pub here : LineView
  here = with_turns view commands.Commit (AtNode node before entry ∷ rest)

  abbrev pub its_fixed : Option Commit
  its_fixed = fixed_by view.hold.attempt (part (before ++ entry ∷ []))

  module _ (answer : Option Reply) (tells : Tells its_fixed (entries view.by rest) answer) (finds : Finds view.hold.attempt (service before) (reading here) answer) where
    -- each reply that is caused, but a store fault, is this answer
    pub commit_told : (reply : Reply) → IsTrue (cause here reply) → (IsTrue (yields_to reply) ⊎ (told reply ≡ answer)) ⊎ (reply ≡ replies.StoreFault)
    commit_told replies.NoTransaction caused = inl (inr (finds.lost caused))
    commit_told replies.Committing caused = inl (inr (finds.refused caused))
    commit_told (replies.OpenReads count) caused = (let parts = and_parts (not (eqb count 0)) _ caused in inl (inr (finds.reading count parts.0 parts.1)))
    commit_told replies.Ended caused = inl (inr (finds.ended caused))
    commit_told replies.ClockEnd caused = inl (inr (finds.clock caused))
    commit_told (replies.Committed id) caused = inl (inr (tells.committed id caused))
    commit_told replies.InDoubt caused = inl (inr (tells.doubt caused))
    commit_told (replies.Damaged written) caused = inl (inr (tells.damage written (and_parts (is_written_name written (first_of (flat_map (damage_in its_fixed) (entries view.by rest)))) _ caused).0))
    commit_told replies.StoreFault caused = inr refl
    commit_told replies.TooManyRecords caused = absurd (false≢true (sym tells.few ∙ caused))
    commit_told (replies.NodeDown which inc) caused = inl (inl refl)
    commit_told replies.NoMemory caused = inl (inl refl)
    commit_told reply caused = absurd (false≢true caused)

    -- where a fault tells of none
    pub commit_settles : (IsTrue (faults its_fixed (entries view.by rest)) → None ≡ answer) → Settles here answer
    commit_settles failed reply caused = elim (commit_told reply caused) [
      | inl so ↦ so
      | inr fault ↦ inr (ap told fault ∙ failed (subst (λ (r : Reply). IsTrue (cause here r)) fault caused))
    ]

-- ---- entries that show of a commit that it is stored, or why it isn't

too_few : (done : List DoorEntry) → ((prefix : List ℕ) → flat_map (λ (entry : DoorEntry). listed_in prefix entry.act) done ≡ []) → lists_too_many done ≡ false
too_few done few =
    ap (λ (ps : List Pair). nat_lt 20000 (length ps) || nat_lt 20000 (length (flat_map (λ (entry : DoorEntry). listed_in markers_prefix entry.act) done))) (few records_prefix)
    ∙ ap (λ (ps : List Pair). nat_lt 20000 0 || nat_lt 20000 (length ps)) (few markers_prefix)

none_named : (names : List (List ℕ)) (written : List ℕ) → names ≡ [] → IsTrue (is_written_name written (first_of names)) → ⊥
none_named names written e is = false≢true (subst (λ (ns : List (List ℕ)). IsTrue (is_written_name written (first_of ns))) e is)

pub stored_tells : (c : Commit) (done : List DoorEntry) → Storedly c done → Tells (Some c) done (Some (replies.Committed c.id))
stored_tells c done stored = record {
  damage = λ written is. absurd (none_named (names_of c done) written stored.undamaged is);
  committed = λ id is. ap (λ (i : TxnId). Some (replies.Committed i)) (same_ids id c.id (and_parts (same_id id c.id) (is_stored_by c done) is).0);
  doubt = λ is. absurd (false≢true (sym stored.undoubted ∙ is));
  few = too_few done stored.few;
}

-- what a commit that isn't stored is told: that it is in doubt, or else the first damage
abbrev pub told_unstored : Bool → List (List ℕ) → Option Reply
told_unstored true names = Some replies.InDoubt
told_unstored false [] = None
told_unstored false (name ∷ names) = Some (replies.Damaged (written_name name))

doubt_told : (both : Bool) (names : List (List ℕ)) → IsTrue both → Some replies.InDoubt ≡ told_unstored both names
doubt_told true names is = refl
doubt_told false names is = absurd (false≢true is)

damage_told : (both : Bool) (names : List (List ℕ)) → (IsTrue both → names ≡ []) → (written : List ℕ) → IsTrue (is_written_name written (first_of names)) → Some (replies.Damaged written) ≡ told_unstored both names
damage_told true names clean written is = absurd (none_named names written (clean refl) is)
damage_told false [] clean written is = absurd (false≢true is)
damage_told false (name ∷ names) clean written is = ap (λ (n : List ℕ). Some (replies.Damaged n)) (same_bytes written (written_name name) is)

pub unstored_tells : (c : Commit) (done : List DoorEntry) → Unstored c done → Tells (Some c) done (told_unstored (fails_both c done) (names_of c done))
unstored_tells c done un = record {
  damage = λ written is. damage_told (fails_both c done) (names_of c done) un.clean written is;
  committed = λ id is. absurd (false≢true (sym un.unstored ∙ (and_parts (same_id id c.id) (is_stored_by c done) is).1));
  doubt = λ is. doubt_told (fails_both c done) (names_of c done) is;
  few = too_few done un.few;
}

fault_told : (failed both many : Bool) (names : List (List ℕ)) → many ≡ false → IsTrue (failed && not (both || (not (eqb (length names) 0) && not many))) → None ≡ told_unstored both names
fault_told true true many names few is = absurd (false≢true is)
fault_told true false many [] few is = refl
fault_told true false true (name ∷ names) few is = absurd (false≢true (sym few))
fault_told true false false (name ∷ names) few is = cases (eqb (length (name ∷ names)) 0) refl is
  where
    cases : (none : Bool) → eqb (length (name ∷ names)) 0 ≡ none → IsTrue (not (not none && true)) → None ≡ told_unstored false (name ∷ names)
    cases true e so = absurd (cc (eqb-true (length (name ∷ names)) 0 e))
    cases false e so = absurd (false≢true so)
fault_told false both many names few is = absurd (false≢true is)

pub unstored_faults : (c : Commit) (done : List DoorEntry) → Unstored c done → IsTrue (faults (Some c) done) → None ≡ told_unstored (fails_both c done) (names_of c done)
unstored_faults c done un is = fault_told (has_failed done) (fails_both c done) (lists_too_many done) (names_of c done) (too_few done un.few) is

-- ---- exactness where the commit is stored

left_out : (view : LineView) (reply other : Reply) (exact caused : Bool) → comes_exactly other ≡ exact → cause view other ≡ caused → (IsTrue (comes_exactly other) → IsTrue (cause view other) → other ≡ reply) → IsTrue ((not (exact && caused) || same_but_holders reply other) || yields_to reply)
left_out view reply other true true e f same = or_left (same_but_holders reply other) (yields_to reply) (subst (λ (r : Reply). IsTrue (same_but_holders reply r)) (sym (same e f)) (reply_same reply))
left_out view reply other true false e f same = refl
left_out view reply other false caused e f same = refl

pub only_exactly : (view : LineView) (reply : Reply) → ((other : Reply) → IsTrue (comes_exactly other) → IsTrue (cause view other) → other ≡ reply) → ExactlyCaused view reply
only_exactly view reply only other = left_out view reply other (comes_exactly other) (cause view other) refl refl (only other)
