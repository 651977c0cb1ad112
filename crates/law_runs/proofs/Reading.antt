-- What the opening makes: its turns read and boot, and leave all stages and attempts as they are.
use Rattle.std.proofs.Common.{Bool, List, ap, append-nil, eqb, false, not, refl, subst, true, ℕ, ◌&&◌, ◌∙◌, ◌≡◌}
use Rattle.aft_keeper.specs.declared.keeper.KeeperAnswer.{KeeperAnswer}
use Rattle.aft_keeper.specs.declared.keeper.KeeperCall.{KeeperCall}
use Rattle.aft_lines.specs.BackupCourse.{copier}
use Rattle.aft_lines.specs.Turns.{AtDoor, AtNode, AtOffice, Turn}
use Rattle.aft_model.proofs.OneCommit.{same_who}
use Rattle.aft_model.specs.Attempts.{AttemptState, attempt_after, uuid_after}
use Rattle.aft_model.specs.Membership.{Incarnation, incarnation, same_incarnation, the_office}
use Rattle.aft_model.specs.Opening.{has_failed, is_next_read, may_read}
use Rattle.aft_model.specs.Stages.{Stage, is_in_stage, put_after, stage_after, stage_after_call}
use Rattle.aft_model.specs.declared.caller.Attempt.{Attempt}
use Rattle.aft_model.specs.declared.door.DoorAct.{DoorAct}
use Rattle.aft_model.specs.declared.door.DoorEntry.{DoorEntry}
use Rattle.aft_model.specs.declared.node.NodeAct.{NodeAct}
use Rattle.aft_records.specs.declared.stored.Commit.{Commit}
use Rattle.law_claims.specs.Moments.{IsQuiet}
use Rattle.law_holders.specs.Rows.{is_of_node}
use Rattle.std.proofs.lemmas.Bool.{and_parts, false≢true, not-true}
use Rattle.std.specs.Prelude.{IsTrue, if◌then◌else◌}
use Rattle.aft_model.specs.declared.door.DoorAct.TheVariants as doors
use Rattle.aft_model.specs.declared.node.NodeAct.TheVariants as acts
use Rattle.aft_keeper.specs.declared.keeper.KeeperCall.TheVariants as calls

-- whether an act of a node is of a boot
abbrev pub is_of_boot : NodeAct → Bool
is_of_boot (acts.Booting inc) = true
is_of_boot (acts.Boot inc commits) = true
is_of_boot act = false

-- whether a turn only reads, or comes up or boots
abbrev pub reads_alone : Turn → Bool
reads_alone (AtDoor place (doors.Up node inc)) = true
reads_alone (AtDoor place doors.Opened) = true
reads_alone (AtDoor place (doors.Call node inc (calls.Scan prefix after limit) answer)) = true
reads_alone (AtDoor place (doors.Call node inc (calls.Get name) answer)) = same_incarnation the_office (incarnation node inc)
reads_alone (AtDoor place act) = false
reads_alone (AtNode node before entry) = is_of_boot entry.act
reads_alone (AtOffice before entry) = false

-- ---- it is quiet

same_either : {A : Type 0} (b : Bool) (x : A) → (if b then x else x) ≡ x
same_either true x = refl
same_either false x = refl

-- the office is no incarnation of a node
not_office : (who : Incarnation) → IsTrue (is_of_node who) → (other : Incarnation) → IsTrue (same_incarnation the_office other) → same_incarnation who other ≡ false
not_office who of other office =
    let zero : eqb who.node 0 ≡ false = not-true (eqb who.node 0) (and_parts (not (eqb who.node 0)) (not (eqb who.node copier)) of).0 in
    subst (λ (o : Incarnation). same_incarnation who o ≡ false) (same_who the_office other office) (ap (λ (b : Bool). b && eqb who.inc 1) zero)

call_stage : (who : Incarnation) (uuid : List ℕ) (s : Stage) (node inc place : ℕ) (asked : KeeperCall) (answer : KeeperAnswer) → IsTrue (is_of_node who) → IsTrue (reads_alone (AtDoor place (doors.Call node inc asked answer))) → stage_after who uuid s (doors.Call node inc asked answer) ≡ s
call_stage who uuid s node inc place (calls.Scan prefix after limit) answer of reads = same_either (same_incarnation who (incarnation node inc)) s
call_stage who uuid s node inc place (calls.Get name) answer of reads = ap (λ (b : Bool). if b then stage_after_call uuid s (calls.Get name) answer else s) (not_office who of (incarnation node inc) reads)
call_stage who uuid s node inc place (calls.Put name bytes) answer of reads = absurd (false≢true reads)
call_stage who uuid s node inc place (calls.Delete name) answer of reads = absurd (false≢true reads)

call_puts : (who : Incarnation) (uuid : List ℕ) (puts : List Commit) (node inc place : ℕ) (asked : KeeperCall) (answer : KeeperAnswer) → IsTrue (is_of_node who) → IsTrue (reads_alone (AtDoor place (doors.Call node inc asked answer))) → put_after who uuid puts (doors.Call node inc asked answer) ≡ puts
call_puts who uuid puts node inc place (calls.Scan prefix after limit) answer of reads = ap (λ (l : List Commit). if same_incarnation who (incarnation node inc) then l else puts) (append-nil puts) ∙ same_either (same_incarnation who (incarnation node inc)) puts
call_puts who uuid puts node inc place (calls.Get name) answer of reads = ap (λ (l : List Commit). if same_incarnation who (incarnation node inc) then l else puts) (append-nil puts) ∙ same_either (same_incarnation who (incarnation node inc)) puts
call_puts who uuid puts node inc place (calls.Put name bytes) answer of reads = absurd (false≢true reads)
call_puts who uuid puts node inc place (calls.Delete name) answer of reads = absurd (false≢true reads)

stage_same : (who : Incarnation) (uuid : List ℕ) (s : Stage) (place : ℕ) (act : DoorAct) → IsTrue (is_of_node who) → IsTrue (reads_alone (AtDoor place act)) → stage_after who uuid s act ≡ s
stage_same who uuid s place (doors.Up node inc) of reads = refl
stage_same who uuid s place doors.Opened of reads = refl
stage_same who uuid s place (doors.Call node inc asked answer) of reads = call_stage who uuid s node inc place asked answer of reads
stage_same who uuid s place act of reads = absurd (false≢true reads)

puts_same : (who : Incarnation) (uuid : List ℕ) (puts : List Commit) (place : ℕ) (act : DoorAct) → IsTrue (is_of_node who) → IsTrue (reads_alone (AtDoor place act)) → put_after who uuid puts act ≡ puts
puts_same who uuid puts place (doors.Up node inc) of reads = refl
puts_same who uuid puts place doors.Opened of reads = refl
puts_same who uuid puts place (doors.Call node inc asked answer) of reads = call_puts who uuid puts node inc place asked answer of reads
puts_same who uuid puts place act of reads = absurd (false≢true reads)

boot_same : (a : Attempt) (state : AttemptState) (act : NodeAct) → IsTrue (is_of_boot act) → attempt_after a state act ≡ state
boot_same a state (acts.Booting inc) is = refl
boot_same a state (acts.Boot inc commits) is = refl
boot_same a state act is = absurd (false≢true is)

boot_named : (a : Attempt) (uuid : List ℕ) (act : NodeAct) → IsTrue (is_of_boot act) → uuid_after a uuid act ≡ uuid
boot_named a uuid (acts.Booting inc) is = refl
boot_named a uuid (acts.Boot inc commits) is = refl
boot_named a uuid act is = absurd (false≢true is)

pub reads_quiet : (turn : Turn) → IsTrue (reads_alone turn) → IsQuiet turn
reads_quiet (AtDoor place act) reads = (λ who uuid s of. stage_same who uuid s place act of reads, λ who uuid puts of. puts_same who uuid puts place act of reads)
reads_quiet (AtNode node before entry) is = (λ a state. boot_same a state entry.act is, λ a uuid. boot_named a uuid entry.act is)
reads_quiet (AtOffice before entry) reads = absurd (false≢true reads)

-- and in its stage
pub reads_in_stage : (history : List DoorEntry) (place : ℕ) (act : DoorAct) → IsTrue (reads_alone (AtDoor place act)) → IsTrue (is_in_stage history act)
reads_in_stage history place (doors.Call node inc (calls.Scan prefix after limit) answer) reads = refl
reads_in_stage history place (doors.Call node inc (calls.Get name) answer) reads = refl
reads_in_stage history place (doors.Call node inc (calls.Put name bytes) answer) reads = absurd (false≢true reads)
reads_in_stage history place (doors.Call node inc (calls.Delete name) answer) reads = absurd (false≢true reads)
reads_in_stage history place act reads = refl

-- ---- what may come before the door is open

call_reads : (history : List DoorEntry) (place node inc : ℕ) (asked : KeeperCall) (answer : KeeperAnswer) → IsTrue (same_incarnation the_office (incarnation node inc)) → IsTrue (is_next_read history asked) → IsTrue (reads_alone (AtDoor place (doors.Call node inc asked answer)))
call_reads history place node inc (calls.Scan prefix after limit) answer office next = refl
call_reads history place node inc (calls.Get name) answer office next = office
call_reads history place node inc (calls.Put name bytes) answer office next = absurd (false≢true next)
call_reads history place node inc (calls.Delete name) answer office next = absurd (false≢true next)

pub may_read_alone : (history : List DoorEntry) (place : ℕ) (act : DoorAct) → IsTrue (may_read history act) → IsTrue (reads_alone (AtDoor place act))
may_read_alone history place (doors.Call node inc asked answer) may =
    let parts = and_parts (same_incarnation the_office (incarnation node inc) && not (has_failed history)) (is_next_read history asked) may in
    call_reads history place node inc asked answer (and_parts (same_incarnation the_office (incarnation node inc)) (not (has_failed history)) parts.0).0 parts.1
may_read_alone history place doors.Opened may = refl
may_read_alone history place act may = absurd (false≢true may)
