-- The course of a begin: its turns, in order.
use Rattle.std.specs.Prelude.{Bool, List, Option, false, if◌then◌else◌, ℕ, ◌&&◌, ◌||◌, ◌∷◌}
use Rattle.std.specs.Str.{bytes_eq}
use Rattle.aft_keeper.specs.declared.keeper.KeeperAnswer.{KeeperAnswer}
use Rattle.aft_keeper.specs.declared.keeper.KeeperCall.TheVariants.{Get}
use Rattle.aft_model.specs.declared.caller.Attempt.{Attempt}
use Rattle.aft_model.specs.declared.door.DoorAct.TheVariants.{Call, Claim, Release}
use Rattle.aft_model.specs.declared.node.NodeAct.{NodeAct}
use Rattle.aft_model.specs.declared.node.NodeAct.TheVariants.{Admit, Begin, Nothing, Unadmit}
use Rattle.aft_model.specs.declared.reply.Reply.{Reply}
use Rattle.aft_model.specs.Attempts.{same_attempt}
use Rattle.aft_model.specs.Membership.{incarnation, same_incarnation}
use Rattle.aft_model.specs.Readings.{marker_name, record_name}
use Rattle.aft_lines.specs.CourseWords.{Ends, any_answer, caller_of, closes, ends_at_node, ends_shut_out, finds_nothing, is_over, tells_down, tells_no_memory, tells_refused, tells_unclaimed}
use Rattle.aft_lines.specs.Turns.{AtDoor, AtNode, Turn}

-- who begins what: an attempt, and its UUID. A forget has an attempt too, which never runs
pub record Beginning : Type 0 where
  pub attempt : Attempt
  pub uuid : List ℕ

-- an attempt is taken away with an answer that passes a test
abbrev pub gives_back : Attempt → (Option Reply → Bool) → NodeAct → Option Reply → Bool
gives_back a test (Unadmit b) answer = same_attempt a b && test answer
gives_back a test act answer = false

-- whether a line ends with that, at the attempt's node
abbrev pub ends_given_back : Ends → Beginning → (Option Reply → Bool) → List Turn → Bool
ends_given_back ends begun test line = ends_at_node begun.attempt.node (closes ends begun.attempt.inc (gives_back begun.attempt test)) line

-- an attempt runs
abbrev pub begins_running : Attempt → NodeAct → Option Reply → Bool
begins_running a (Begin b) answer = same_attempt a b
begins_running a act answer = false

-- the claim is released and the attempt taken away; the release makes no entry only where the incarnation was shut out
abbrev pub release_begun : Ends → Beginning → (Option Reply → Bool) → List Turn → Bool
release_begun ends begun test (AtDoor place (Release uuid node inc) ∷ line) =
    same_incarnation (caller_of begun.attempt) (incarnation node inc) && bytes_eq begun.uuid uuid && ends_given_back ends begun test line
release_begun ends begun test line = ends_given_back ends begun tells_down line && ends_shut_out ends (caller_of begun.attempt) line

-- after a get: the next turns where it found nothing, or the release where it showed something or failed, or memory was wanting behind it
abbrev pub after_get : Ends → Beginning → KeeperAnswer → Bool → List Turn → Bool
after_get ends begun answer found_nothing line =
    if finds_nothing answer then found_nothing || release_begun ends begun tells_no_memory line else release_begun ends begun any_answer line

-- whether a call is the attempt's get of a name
abbrev pub gets_own : Beginning → List ℕ → ℕ → ℕ → List ℕ → Bool
gets_own begun name node inc got = same_incarnation (caller_of begun.attempt) (incarnation node inc) && bytes_eq name got

-- the get of the marker; where it makes no entry it was refused
abbrev pub marker_course : Ends → Beginning → List Turn → Bool
marker_course ends begun (AtDoor place (Call node inc (Get name) answer) ∷ line) =
    gets_own begun (marker_name begun.uuid) node inc name
    && after_get ends begun answer (ends_at_node begun.attempt.node (closes ends begun.attempt.inc (begins_running begun.attempt)) line) line
marker_course ends begun line = release_begun ends begun tells_refused line

-- the get of the record, and what follows where it found nothing
abbrev pub record_course : (List Turn → Bool) → Ends → Beginning → List Turn → Bool
record_course go_on ends begun (AtDoor place (Call node inc (Get name) answer) ∷ line) =
    gets_own begun (record_name begun.uuid) node inc name && after_get ends begun answer (go_on line) line
record_course go_on ends begun line = release_begun ends begun tells_refused line

-- the claim, and what follows it; where it makes no entry it was refused
abbrev pub claim_course : (List Turn → Bool) → Ends → Beginning → List Turn → Bool
claim_course go_on ends begun (AtDoor place (Claim uuid node inc) ∷ line) =
    same_incarnation (caller_of begun.attempt) (incarnation node inc) && bytes_eq begun.uuid uuid && record_course go_on ends begun line
claim_course go_on ends begun line = ends_given_back ends begun tells_unclaimed line

-- after the first turn of a begin or a forget: it answered, or admitted an attempt, and the claim and the get of the record follow, and then more
abbrev pub admitted_course : (Beginning → List Turn → Bool) → Ends → NodeAct → List Turn → Bool
admitted_course go_on ends Nothing line = is_over line
admitted_course go_on ends (Admit a uuid) line = claim_course (go_on (record { attempt = a; uuid = uuid })) ends (record { attempt = a; uuid = uuid }) line
admitted_course go_on ends act line = false

-- the course of a begin
abbrev pub begin_course : Ends → List Turn → Bool
begin_course ends (AtNode node before entry ∷ line) = admitted_course (marker_course ends) ends entry.act line
begin_course ends line = false
