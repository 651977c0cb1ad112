-- What a turn at the door leaves alone: the records put by other incarnations and under other UUIDs, and the stages of others.
use Rattle.std.proofs.Common.{◌≡◌, ℕ, Bool, true, false, ◌&&◌, not, List, [], ◌∷◌, ◌++◌, refl, sym, ap, subst, ◌∙◌, ◌⊎◌, inl, inr, append-nil, eqb}
use Rattle.std.specs.Prelude.{IsTrue, IsFalse, if◌then◌else◌}
use Rattle.std.specs.Str.{bytes_eq}
use Rattle.std.proofs.lemmas.Bool.{and_left, and_parts, and_right, eq-eqb, eqb-true, false≢true, false_from_ne_true, not-true, true≢false}
use Rattle.aft_keeper.specs.declared.keeper.KeeperAnswer.{KeeperAnswer}
use Rattle.aft_keeper.specs.declared.keeper.KeeperCall.{KeeperCall}
use Rattle.aft_keeper.specs.declared.keeper.KeeperCall.TheVariants as calls
use Rattle.aft_keeper.specs.declared.keeper.Pair.{Pair}
use Rattle.aft_records.specs.declared.stored.Commit.{Commit}
use Rattle.aft_records.specs.declared.stored.Record.{Record}
use Rattle.aft_records.specs.Commits.{has_uuid, same_commit}
use Rattle.aft_records.specs.Reading.{commit_of}
use Rattle.aft_model.specs.declared.door.DoorAct.{DoorAct}
use Rattle.aft_model.specs.declared.door.DoorAct.TheVariants as doors
use Rattle.aft_model.specs.declared.door.DoorEntry.{DoorEntry}
use Rattle.aft_model.specs.declared.script.Command.{Command}
use Rattle.aft_model.specs.declared.script.Command.TheVariants as commands
use Rattle.aft_model.specs.Bytes.{HasBytes, acts_bytes, is_uuid}
use Rattle.aft_model.specs.DoorKnowledge.{claims}
use Rattle.aft_model.specs.Membership.{Incarnation, incarnation, same_incarnation, the_office}
use Rattle.aft_model.specs.Readings.{record_name, records_in, same_record, written_in}
use Rattle.aft_model.specs.Stages.{Stage, commits_of, is_own, put_after, put_by_call, stage, stage_after}
use Rattle.aft_model.proofs.Formats.{written_is}
use Rattle.aft_model.proofs.Histories.{In, any_found}
use Rattle.aft_model.proofs.Ids.{same_commits}
use Rattle.aft_model.proofs.Lists.{in_filter}
use Rattle.aft_model.proofs.Sights.{read-one, same_bytes}
use Rattle.aft_lines.specs.BackupCourse.{copier}
use Rattle.aft_lines.specs.CommitCourse.{is_written_as}
use Rattle.aft_lines.specs.Makes.{collects_by_office, copies_by_copier, makes_at_door, tidies_by_office}
use Rattle.aft_lines.specs.Progress.{IsStoring, Progress}
use Rattle.law_holders.specs.Rows.{caller_at, is_next_put, is_of_attempt, is_of_node, is_own_act, is_own_call, uuid_at}
use Rattle.law_holders.proofs.Own.{other_caller, others_keep, uuids_keep}
use Rattle.law_holders.proofs.Puts.{version_commits}
use Rattle.law_claims.proofs.Idle.{Busy, busy_uuid, idle_stays, stage_idle}

-- ---- records under another UUID

no_elements : {A : Type 0} (xs : List A) → ((x : A) → In x xs → ⊥) → xs ≡ []
no_elements [] none = refl
no_elements (x ∷ xs) none = absurd (none x (inl refl))

-- a pair that spells a record is of no other UUID
other_commits : (r : Record) (pair : Pair) → IsTrue (is_written_as r pair) → (uuid : List ℕ) → bytes_eq uuid r.commit.id.uuid ≡ false → commits_of uuid pair ≡ []
other_commits r pair is uuid other =
    let found = any_found (same_record r) (written_in pair) is in
    let read = written_is pair found.0 found.1 in
    no_elements (commits_of uuid pair) (λ d among.
    let its = in_filter (has_uuid uuid) d (records_in pair) among in
    let one : d ≡ found.0.commit = read-one pair.name (λ (c : Commit). record_name c.id.uuid) (commit_of pair.bytes) d found.0.commit its.0 read in
    let same : r.commit ≡ found.0.commit = same_commits r.commit found.0.commit (first (same_commit r.commit found.0.commit) _ _ _ found.2) in
    true≢false (sym (subst (λ (c : Commit). IsTrue (bytes_eq uuid c.id.uuid)) (one ∙ sym same) its.1) ∙ other))
  where
    first : (a b c d : Bool) → IsTrue (a && b && c && d) → IsTrue a
    first true b c d so = refl
    first false b c d so = absurd (false≢true so)

put_none : (at position : Progress) (uuid : List ℕ) (pair : Pair) → uuid_at at ≡ uuid_at position → bytes_eq uuid (uuid_at position) ≡ false → IsTrue (is_next_put at pair) → commits_of uuid pair ≡ []
put_none (IsStoring storing []) position uuid pair same other so = other_commits storing.written pair so uuid (ap (λ (u : List ℕ). bytes_eq uuid u) same ∙ other)
put_none (IsStoring storing (write ∷ left)) position uuid pair same other so = version_commits storing.written.commit write pair so uuid
put_none at position uuid pair same other so = absurd (false≢true so)

call_none : (position : Progress) (uuid : List ℕ) (asked : KeeperCall) → bytes_eq uuid (uuid_at position) ≡ false → IsTrue (is_own_call position asked) → put_by_call uuid asked ≡ []
call_none position uuid (calls.Put name bytes) other so = put_none position position uuid (record { name = name; bytes = bytes }) refl other so
call_none position uuid asked other so = refl

-- ---- an act of a line's attempt

-- it is of another incarnation, or of another UUID
abbrev pub Apart : Progress → Incarnation → List ℕ → Type 0
Apart position who uuid = (same_incarnation who (caller_at position) ≡ false) ⊎ (bytes_eq uuid (uuid_at position) ≡ false)

own_apart : (position : Progress) (who : Incarnation) (uuid claimed : List ℕ) (node inc : ℕ) → Apart position who uuid → IsTrue (same_incarnation (caller_at position) (incarnation node inc)) → IsTrue (bytes_eq (uuid_at position) claimed) → is_own who uuid node inc claimed ≡ false
own_apart position who uuid claimed node inc (inl other) by same = and_left (same_incarnation who (incarnation node inc)) (bytes_eq uuid claimed) (other_caller who (caller_at position) (incarnation node inc) other by)
own_apart position who uuid claimed node inc (inr other) by same = and_right (same_incarnation who (incarnation node inc)) (bytes_eq uuid claimed) (ap (λ (u : List ℕ). bytes_eq uuid u) (sym (same_bytes (uuid_at position) claimed same)) ∙ other)

pub puts_stay : (position : Progress) (act : DoorAct) → IsTrue (is_own_act position act) → (who : Incarnation) (uuid : List ℕ) (puts : List Commit) → Apart position who uuid → put_after who uuid puts act ≡ puts
puts_stay position (doors.Claim claimed node inc) own who uuid puts apart =
    let parts = and_parts (same_incarnation (caller_at position) (incarnation node inc)) (bytes_eq (uuid_at position) claimed) own in
    ap (λ (b : Bool). if b then [] else puts) (own_apart position who uuid claimed node inc apart parts.0 parts.1)
puts_stay position (doors.Release released node inc) own who uuid puts apart =
    let parts = and_parts (same_incarnation (caller_at position) (incarnation node inc)) (bytes_eq (uuid_at position) released) own in
    ap (λ (b : Bool). if b then [] else puts) (own_apart position who uuid released node inc apart parts.0 parts.1)
puts_stay position (doors.Call node inc asked answer) own who uuid puts (inl other) =
    let parts = and_parts (same_incarnation (caller_at position) (incarnation node inc)) (is_own_call position asked) own in
    ap (λ (b : Bool). if b then puts ++ put_by_call uuid asked else puts) (other_caller who (caller_at position) (incarnation node inc) other parts.0)
puts_stay position (doors.Call node inc asked answer) own who uuid puts (inr other) =
    let parts = and_parts (same_incarnation (caller_at position) (incarnation node inc)) (is_own_call position asked) own in
    cases (same_incarnation who (incarnation node inc)) (ap (λ (cs : List Commit). puts ++ cs) (call_none position uuid asked other parts.1) ∙ append-nil puts)
  where
    cases : (b : Bool) → puts ++ put_by_call uuid asked ≡ puts → (if b then puts ++ put_by_call uuid asked else puts) ≡ puts
    cases true e = e
    cases false e = refl
puts_stay position act own who uuid puts apart = absurd (false≢true own)

-- a claim by it is of its own UUID
claims_apart : (position : Progress) (act : DoorAct) → IsTrue (is_own_act position act) → (who : Incarnation) (uuid : List ℕ) → Apart position who uuid → IsFalse (claims who uuid act)
claims_apart position (doors.Claim claimed node inc) own who uuid apart =
    let parts = and_parts (same_incarnation (caller_at position) (incarnation node inc)) (bytes_eq (uuid_at position) claimed) own in
    own_apart position who uuid claimed node inc apart parts.0 parts.1
claims_apart position act own who uuid apart = refl

-- the UUID that an act names, or that was claimed before it, is sixteen bytes
its_uuid : (position : Progress) (act : DoorAct) → IsTrue (is_own_act position act) → IsTrue (acts_bytes act) → ((node inc : ℕ) (asked : KeeperCall) (answer : KeeperAnswer) → act ≡ doors.Call node inc asked answer → IsTrue (is_uuid (uuid_at position))) → IsTrue (is_uuid (uuid_at position))
its_uuid position (doors.Claim claimed node inc) own bytes by_call = subst (λ (u : List ℕ). IsTrue (is_uuid u)) (sym (same_bytes (uuid_at position) claimed (and_parts (same_incarnation (caller_at position) (incarnation node inc)) (bytes_eq (uuid_at position) claimed) own).1)) bytes
its_uuid position (doors.Release released node inc) own bytes by_call = subst (λ (u : List ℕ). IsTrue (is_uuid u)) (sym (same_bytes (uuid_at position) released (and_parts (same_incarnation (caller_at position) (incarnation node inc)) (bytes_eq (uuid_at position) released) own).1)) bytes
its_uuid position (doors.Call node inc asked answer) own bytes by_call = by_call node inc asked answer refl
its_uuid position act own bytes by_call = absurd (false≢true own)

pub stage_stays : (position : Progress) (act : DoorAct) → IsTrue (is_own_act position act) → IsTrue (acts_bytes act) → (history : List DoorEntry) → HasBytes history
    → ((node inc : ℕ) (asked : KeeperCall) (answer : KeeperAnswer) → act ≡ doors.Call node inc asked answer → Busy (stage (caller_at position) (uuid_at position) history)) → (who : Incarnation) (uuid : List ℕ) → Apart position who uuid
    → stage_after who uuid (stage who uuid history) act ≡ stage who uuid history
stage_stays position act own bytes history all by_call who uuid (inl other) = others_keep position act own who uuid (stage who uuid history) other
stage_stays position act own bytes history all by_call who uuid (inr other) = elim (stage_idle who uuid (stage who uuid history)) [
  | inl busy ↦ uuids_keep position uuid (busy_uuid who uuid history all busy) (its_uuid position act own bytes (λ node inc asked answer is. busy_uuid (caller_at position) (uuid_at position) history all (by_call node inc asked answer is))) other act own who (stage who uuid history)
  | inr idle ↦ ap (λ (s : Stage). stage_after who uuid s act) idle ∙ (idle_stays who uuid act (claims_apart position act own who uuid (inr other)) ∙ sym idle)
]

-- ---- an act of another line

module _ (who : Incarnation) (uuid : List ℕ) (puts : List Commit) (of_node : IsTrue (is_of_node who)) where
  -- whoever is of a node is neither the office nor a copier
  not_office : (node inc : ℕ) → IsTrue (same_incarnation the_office (incarnation node inc)) → same_incarnation who (incarnation node inc) ≡ false
  not_office node inc own =
      other_caller who the_office (incarnation node inc) (and_left (eqb who.node 0) (eqb who.inc 1) (not-true (eqb who.node 0) (and_parts (not (eqb who.node 0)) (not (eqb who.node copier)) of_node).0)) own

  not_copier : (node inc : ℕ) → IsTrue (eqb node copier) → same_incarnation who (incarnation node inc) ≡ false
  not_copier node inc own = and_left (eqb who.node node) (eqb who.inc inc) (false_from_ne_true (eqb who.node node) (λ same.
      true≢false (sym (eq-eqb who.node copier (eqb-true who.node node same ∙ eqb-true node copier own)) ∙ not-true (eqb who.node copier) (and_parts (not (eqb who.node 0)) (not (eqb who.node copier)) of_node).1)))

  silent : (node inc : ℕ) (asked : KeeperCall) (answer : KeeperAnswer) → put_by_call uuid asked ≡ [] → put_after who uuid puts (doors.Call node inc asked answer) ≡ puts
  silent node inc asked answer none = cases (same_incarnation who (incarnation node inc)) (ap (λ (cs : List Commit). puts ++ cs) none ∙ append-nil puts)
    where
      cases : (b : Bool) → puts ++ put_by_call uuid asked ≡ puts → (if b then puts ++ put_by_call uuid asked else puts) ≡ puts
      cases true e = e
      cases false e = refl

  another : (node inc : ℕ) (asked : KeeperCall) (answer : KeeperAnswer) → same_incarnation who (incarnation node inc) ≡ false → put_after who uuid puts (doors.Call node inc asked answer) ≡ puts
  another node inc asked answer other = ap (λ (b : Bool). if b then puts ++ put_by_call uuid asked else puts) other

  pub bystander_puts : (command : Command) (act : DoorAct) → is_of_attempt command ≡ false → IsTrue (makes_at_door command act) → put_after who uuid puts act ≡ puts
  bystander_puts (commands.Begin u node) act other made = absurd (true≢false other)
  bystander_puts (commands.Forget u node) act other made = absurd (true≢false other)
  bystander_puts commands.Commit act other made = absurd (true≢false other)
  bystander_puts commands.Abort act other made = absurd (true≢false other)
  bystander_puts (commands.Get key) (doors.Call node inc (calls.Get name) answer) other made = silent node inc (calls.Get name) answer refl
  bystander_puts (commands.Get key) act other made = absurd (false≢true made)
  bystander_puts (commands.Crash home) (doors.Fence node inc) other made = refl
  bystander_puts (commands.Crash home) act other made = absurd (false≢true made)
  bystander_puts (commands.Start home) (doors.Up node inc) other made = refl
  bystander_puts (commands.Start home) (doors.Call node inc (calls.Scan prefix after limit) answer) other made = silent node inc (calls.Scan prefix after limit) answer refl
  bystander_puts (commands.Start home) act other made = absurd (false≢true made)
  bystander_puts commands.Manager (doors.Call node inc (calls.Scan prefix after limit) answer) other made = silent node inc (calls.Scan prefix after limit) answer refl
  bystander_puts commands.Manager act other made = absurd (false≢true made)
  bystander_puts commands.Collect (doors.Call node inc asked answer) other made = another node inc asked answer (not_office node inc (and_parts (same_incarnation the_office (incarnation node inc)) (collects_by_office asked) made).0)
  bystander_puts commands.Collect (doors.GiveUp node inc id) other made = refl
  bystander_puts commands.Collect act other made = absurd (false≢true made)
  bystander_puts (commands.Orphans key) (doors.Claim claimed node inc) other made = ap (λ (b : Bool). if b && bytes_eq uuid claimed then [] else puts) (not_office node inc made)
  bystander_puts (commands.Orphans key) (doors.Release released node inc) other made = ap (λ (b : Bool). if b && bytes_eq uuid released then [] else puts) (not_office node inc made)
  bystander_puts (commands.Orphans key) (doors.Call node inc asked answer) other made = another node inc asked answer (not_office node inc (and_parts (same_incarnation the_office (incarnation node inc)) (tidies_by_office asked) made).0)
  bystander_puts (commands.Orphans key) act other made = absurd (false≢true made)
  bystander_puts commands.Backup (doors.Up node inc) other made = refl
  bystander_puts commands.Backup (doors.Fence node inc) other made = refl
  bystander_puts commands.Backup (doors.Call node inc asked answer) other made = another node inc asked answer (not_copier node inc (and_parts (eqb node copier) (copies_by_copier asked) made).0)
  bystander_puts commands.Backup act other made = absurd (false≢true made)
  bystander_puts command act other made = absurd (false≢true made)
