-- The course of a get: its turns, in order.
use Rattle.std.specs.Prelude.{Bool, List, Option, false, ℕ, ◌&&◌, ◌==◌, ◌∷◌}
use Rattle.std.specs.Str.{bytes_eq}
use Rattle.aft_id.specs.declared.txn_id.TxnId.{TxnId}
use Rattle.aft_id.specs.TxnId.{same_id}
use Rattle.aft_keeper.specs.declared.keeper.KeeperCall.TheVariants.{Get}
use Rattle.aft_model.specs.declared.caller.Attempt.{Attempt}
use Rattle.aft_model.specs.declared.door.DoorAct.TheVariants.{Call}
use Rattle.aft_model.specs.declared.node.NodeAct.{NodeAct}
use Rattle.aft_model.specs.declared.node.NodeAct.TheVariants.{Lost, Nothing, Select, Value}
use Rattle.aft_model.specs.declared.reply.Reply.{Reply}
use Rattle.aft_model.specs.Attempts.{same_attempt}
use Rattle.aft_model.specs.Membership.{incarnation, same_incarnation}
use Rattle.aft_model.specs.Readings.{version_name}
use Rattle.aft_lines.specs.CourseWords.{Ends, caller_of, closes, ends_at_node, is_over, tells_refused}
use Rattle.aft_lines.specs.Turns.{AtDoor, AtNode, Turn}
use Rattle.aft_model.specs.declared.choice.Picked.TheVariants as picked

-- a fetched version comes, from this place, or is lost
abbrev pub ends_get : Attempt → List ℕ → TxnId → ℕ → NodeAct → Option Reply → Bool
ends_get a key id place (Value b got at found kept) answer = same_attempt a b && bytes_eq key got && same_id id at && place == found
ends_get a key id place (Lost b got at) answer = same_attempt a b && bytes_eq key got && same_id id at
ends_get a key id place act answer = false

-- a fetched version is lost, since its get was refused
abbrev pub loses : Attempt → List ℕ → TxnId → NodeAct → Option Reply → Bool
loses a key id (Lost b got at) answer = same_attempt a b && bytes_eq key got && same_id id at && tells_refused answer
loses a key id act answer = false

-- the get of a version; where it makes no entry it was refused
abbrev pub fetch_course : Ends → Attempt → List ℕ → TxnId → List Turn → Bool
fetch_course ends a key id (AtDoor place (Call node inc (Get name) answer) ∷ line) =
    same_incarnation (caller_of a) (incarnation node inc) && bytes_eq (version_name key id) name && ends_at_node a.node (closes ends a.inc (ends_get a key id place)) line
fetch_course ends a key id line = ends_at_node a.node (closes ends a.inc (loses a key id)) line

-- after the pick of a get: a version is fetched, and else it is over
abbrev pub get_after : Ends → NodeAct → List Turn → Bool
get_after ends Nothing line = is_over line
get_after ends (Select a key (picked.Fetch id)) line = fetch_course ends a key id line
get_after ends (Select a key pick) line = is_over line
get_after ends act line = false

-- the course of a get
abbrev pub get_course : Ends → List Turn → Bool
get_course ends (AtNode node before entry ∷ line) = get_after ends entry.act line
get_course ends line = false
