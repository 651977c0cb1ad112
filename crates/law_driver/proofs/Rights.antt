-- Turns of a line whose machine keeps to one node and the door: they stand there, and give nothing up.
use Rattle.std.proofs.Common.{◌≡◌, ℕ, ◌&&◌, ◌||◌, not, List, [], refl, sym, subst}
use Rattle.std.specs.Prelude.{IsFalse, IsTrue, Option, Some}
use Rattle.std.proofs.lemmas.Bool.{and_parts, eqb-true, eq-eqb, false≢true}
use Rattle.aft_id.specs.declared.txn_id.TxnId.{TxnId}
use Rattle.aft_model.specs.declared.caller.By.{By}
use Rattle.aft_model.specs.declared.caller.Hold.{Hold}
use Rattle.aft_model.specs.declared.door.DoorAct.{DoorAct}
use Rattle.aft_model.specs.declared.door.DoorAct.TheVariants as doors
use Rattle.aft_model.specs.declared.node.NodeEntry.{NodeEntry}
use Rattle.aft_model.specs.declared.mail.MailEntry.{MailEntry}
use Rattle.aft_model.specs.declared.office.OfficeAct.{OfficeAct}
use Rattle.aft_model.specs.declared.script.Command.{Command}
use Rattle.aft_model.specs.declared.script.Command.TheVariants as commands
use Rattle.aft_lines.specs.CausesAttempts.{speaks_of_attempt}
use Rattle.aft_lines.specs.CausesRounds.{is_collect}
use Rattle.aft_lines.specs.LegalTrace.{is_backed_at, is_named, named_node, stands_at, turn_of, turn_words}
use Rattle.aft_lines.specs.LinePosts.{AtBox, does_nothing, from_office, keeps_mail, posts_of}
use Rattle.aft_lines.specs.Makes.{makes, makes_at_door, makes_at_office}
use Rattle.aft_lines.specs.Turns.{AtDoor, AtNode, AtOffice, Turn}
use Rattle.aft_turns.specs.Stands.{is_right}
use Rattle.law_accounts.specs.Turned.{is_at_node_or_door}
use Rattle.law_driver.specs.Driven.{is_at_one_node, node_of}

-- what a right turn is
pub right_parts : (command : Command) (hold : Hold) (turn : Turn) → IsTrue (is_right command hold turn)
    → IsTrue (makes command turn) × IsTrue (turn_words command turn) × IsTrue (stands_at (named_node command hold) turn) × IsTrue (not (speaks_of_attempt command) || turn_of hold.attempt turn)
right_parts command hold turn right =
    let three = and_parts (makes command turn && turn_words command turn && stands_at (named_node command hold) turn) (not (speaks_of_attempt command) || turn_of hold.attempt turn) right in
    let two = and_parts (makes command turn && turn_words command turn) (stands_at (named_node command hold) turn) three.0 in
    let one = and_parts (makes command turn) (turn_words command turn) two.0 in
    (one.0, one.1, two.1, three.1)

-- ---- by the command

named_is : (command : Command) (hold : Hold) → IsTrue (is_at_one_node command) → named_node command hold ≡ Some (node_of command hold)
named_is (commands.Begin uuid node) hold kind = refl
named_is (commands.Put key value) hold kind = refl
named_is (commands.Get key) hold kind = refl
named_is commands.Commit hold kind = refl
named_is commands.Abort hold kind = refl
named_is (commands.Crash node) hold kind = refl
named_is (commands.Start node) hold kind = refl
named_is (commands.Forget uuid node) hold kind = refl
named_is command hold kind = absurd (false≢true kind)

no_office : (command : Command) (act : OfficeAct) → IsTrue (is_at_one_node command) → IsTrue (makes_at_office command act) → ⊥
no_office (commands.Begin uuid node) act kind made = false≢true made
no_office (commands.Put key value) act kind made = false≢true made
no_office (commands.Get key) act kind made = false≢true made
no_office commands.Commit act kind made = false≢true made
no_office commands.Abort act kind made = false≢true made
no_office (commands.Crash node) act kind made = false≢true made
no_office (commands.Start node) act kind made = false≢true made
no_office (commands.Forget uuid node) act kind made = false≢true made
no_office command act kind made = false≢true kind

no_door_give_up : (command : Command) (node inc : ℕ) (id : TxnId) → IsTrue (is_at_one_node command) → IsTrue (makes_at_door command (doors.GiveUp node inc id)) → ⊥
no_door_give_up (commands.Begin uuid node) at inc id kind made = false≢true made
no_door_give_up (commands.Put key value) at inc id kind made = false≢true made
no_door_give_up (commands.Get key) at inc id kind made = false≢true made
no_door_give_up commands.Commit at inc id kind made = false≢true made
no_door_give_up commands.Abort at inc id kind made = false≢true made
no_door_give_up (commands.Crash node) at inc id kind made = false≢true made
no_door_give_up (commands.Start node) at inc id kind made = false≢true made
no_door_give_up (commands.Forget uuid node) at inc id kind made = false≢true made
no_door_give_up command at inc id kind made = false≢true kind

pub no_collection : (command : Command) → IsTrue (is_at_one_node command) → IsFalse (is_collect command)
no_collection (commands.Begin uuid node) kind = refl
no_collection (commands.Put key value) kind = refl
no_collection (commands.Get key) kind = refl
no_collection commands.Commit kind = refl
no_collection commands.Abort kind = refl
no_collection (commands.Crash node) kind = refl
no_collection (commands.Start node) kind = refl
no_collection (commands.Forget uuid node) kind = refl
no_collection command kind = absurd (false≢true kind)

-- it stands at the line's node, or at the door
pub right_place : (command : Command) (hold : Hold) (turn : Turn) → IsTrue (is_at_one_node command) → IsTrue (is_right command hold turn) → IsTrue (is_at_node_or_door (node_of command hold) turn)
right_place command hold (AtDoor place act) kind right = refl
right_place command hold (AtNode node before entry) kind right =
    let at = subst (λ (o : Option ℕ). IsTrue (is_named o node)) (named_is command hold kind) (right_parts command hold (AtNode node before entry) right).2 in
    eq-eqb node (node_of command hold) (sym (eqb-true (node_of command hold) node at))
right_place command hold (AtOffice before entry) kind right = absurd (no_office command entry.act kind (right_parts command hold (AtOffice before entry) right).0)

-- what it does at the door gives nothing up
pub right_backed : (command : Command) (by : By) (place : ℕ) (nodes : List (List NodeEntry)) (act : DoorAct) → IsTrue (is_at_one_node command) → IsTrue (makes_at_door command act) → IsTrue (is_backed_at nodes by place act)
right_backed command by place nodes (doors.GiveUp node inc id) kind made = absurd (no_door_give_up command node inc id kind made)
right_backed command by place nodes act kind made = refl

-- who did nothing at the boxes did what such a command is to do there
pub quiet_mail : (command : Command) (by : By) (nodes : List ℕ) (line : List Turn) (mail : List (List MailEntry)) → IsTrue (is_at_one_node command) → from_office by mail ≡ [] → IsTrue (keeps_mail command nodes line (posts_of by command mail))
quiet_mail (commands.Begin uuid node) by nodes line mail kind none = subst (λ (done : List AtBox). IsTrue (does_nothing done)) (sym none) refl
quiet_mail (commands.Put key value) by nodes line mail kind none = subst (λ (done : List AtBox). IsTrue (does_nothing done)) (sym none) refl
quiet_mail (commands.Get key) by nodes line mail kind none = subst (λ (done : List AtBox). IsTrue (does_nothing done)) (sym none) refl
quiet_mail commands.Commit by nodes line mail kind none = subst (λ (done : List AtBox). IsTrue (does_nothing done)) (sym none) refl
quiet_mail commands.Abort by nodes line mail kind none = subst (λ (done : List AtBox). IsTrue (does_nothing done)) (sym none) refl
quiet_mail (commands.Crash node) by nodes line mail kind none = subst (λ (done : List AtBox). IsTrue (does_nothing done)) (sym none) refl
quiet_mail (commands.Start node) by nodes line mail kind none = subst (λ (done : List AtBox). IsTrue (does_nothing done)) (sym none) refl
quiet_mail (commands.Forget uuid node) by nodes line mail kind none = subst (λ (done : List AtBox). IsTrue (does_nothing done)) (sym none) refl
quiet_mail command by nodes line mail kind none = absurd (false≢true kind)
