-- What a put is answered: by the attempt that its client holds, and the service of its node.
use Rattle.std.proofs.Common.{◌≡◌, ℕ, Bool, true, false, ◌&&◌, ◌||◌, not, List, [], ◌∷◌, refl, inl, inr}
use Rattle.std.specs.Prelude.{IsTrue, Option, Some, None, is_none}
use Rattle.std.proofs.lemmas.Bool.{false≢true, or_cases}
use Rattle.aft_model.specs.declared.caller.Attempt.{Attempt}
use Rattle.aft_model.specs.declared.node.NodeEntry.{NodeEntry}
use Rattle.aft_model.specs.declared.reply.Reply.{Reply}
use Rattle.aft_model.specs.declared.reply.Reply.TheVariants.{Committing, NoMemory, NoTransaction, NodeDown, Stored, TooManyKeys}
use Rattle.aft_model.specs.declared.script.Command.TheVariants.{Put}
use Rattle.aft_model.specs.Attempts.{AttemptState, IsGone, IsRunning, is_gone, is_running}
use Rattle.aft_model.specs.NodeRules.{may_put_key}
use Rattle.aft_model.specs.NodeState.{Service, service}
use Rattle.aft_lines.specs.Causes.{ExactlyCaused, cause}
use Rattle.aft_lines.specs.CausesAttempts.{holds_value, state_in}
use Rattle.aft_lines.specs.LineCourse.{puts_or_answers, single_course}
use Rattle.aft_lines.specs.LineView.{LineView, is_served}
use Rattle.aft_lines.specs.Turns.{AtDoor, AtNode, AtOffice, Turn}
use Rattle.law_answers.specs.Courses.{keeps_its_course}
use Rattle.law_answers.proofs.Served.{served_so}
use Rattle.law_answers.proofs.Settled.{Settles, by_turns, with_turns}

-- by the attempt's state, and whether there is room for the key
abbrev by_state : AttemptState → Bool → Reply
by_state IsGone room = NoTransaction
by_state IsRunning true = Stored
by_state IsRunning false = TooManyKeys
by_state state room = Committing

abbrev told_to_put : List ℕ → Option Attempt → Option Service → Option Reply
told_to_put key None found = Some NoTransaction
told_to_put key (Some a) None = None
told_to_put key (Some a) (Some serving) = Some (by_state (state_in a serving) (may_put_key serving a key))

stored_so : (state : AttemptState) (room held : Bool) → IsTrue ((is_running state && room) && held) → Some Stored ≡ Some (by_state state room)
stored_so IsRunning true held is = refl
stored_so IsRunning false held is = absurd (false≢true is)
stored_so state room held is = absurd (false≢true is)

full_so : (state : AttemptState) (room : Bool) → IsTrue (is_running state && not room) → Some TooManyKeys ≡ Some (by_state state room)
full_so IsRunning true is = absurd (false≢true is)
full_so IsRunning false is = refl
full_so state room is = absurd (false≢true is)

gone_so : (state : AttemptState) (room : Bool) → IsTrue (is_gone state) → Some NoTransaction ≡ Some (by_state state room)
gone_so IsGone room is = refl
gone_so state room is = absurd (false≢true is)

refused_so : (state : AttemptState) (room : Bool) → IsTrue (not (is_gone state || is_running state)) → Some Committing ≡ Some (by_state state room)
refused_so IsGone room is = absurd (false≢true is)
refused_so IsRunning room is = absurd (false≢true is)
refused_so state room is = refl

none_so : (key : List ℕ) (held : Option Attempt) (found : Option Service) → IsTrue (is_none held) → Some NoTransaction ≡ told_to_put key held found
none_so key None found is = refl
none_so key (Some a) found is = absurd (false≢true is)

module _ (view : LineView) (key value : List ℕ) (node : ℕ) (before : List NodeEntry) (entry : NodeEntry) where
  abbrev here : LineView
  here = with_turns view (Put key value) (AtNode node before entry ∷ [])

  put_settles : Settles here (told_to_put key view.hold.attempt (service before))
  put_settles Stored caused =
      inr (served_so (λ held found. Some Stored ≡ told_to_put key held found) (λ a serving. (is_running (state_in a serving) && may_put_key serving a key) && holds_value key value a here) (λ a serving is. stored_so (state_in a serving) (may_put_key serving a key) (holds_value key value a here) is) view.hold.attempt (service before) caused)
  put_settles TooManyKeys caused =
      inr (served_so (λ held found. Some TooManyKeys ≡ told_to_put key held found) (λ a serving. is_running (state_in a serving) && not (may_put_key serving a key)) (λ a serving is. full_so (state_in a serving) (may_put_key serving a key) is) view.hold.attempt (service before) caused)
  put_settles NoTransaction caused = inr (elim (or_cases (is_none view.hold.attempt) (is_served (λ a serving. is_gone (state_in a serving)) view.hold.attempt (service before)) caused) [
    | inl none ↦ none_so key view.hold.attempt (service before) none
    | inr gone ↦ served_so (λ held found. Some NoTransaction ≡ told_to_put key held found) (λ a serving. is_gone (state_in a serving)) (λ a serving is. gone_so (state_in a serving) (may_put_key serving a key) is) view.hold.attempt (service before) gone
  ])
  put_settles Committing caused =
      inr (served_so (λ held found. Some Committing ≡ told_to_put key held found) (λ a serving. not (is_gone (state_in a serving) || is_running (state_in a serving))) (λ a serving is. refused_so (state_in a serving) (may_put_key serving a key) is) view.hold.attempt (service before) caused)
  put_settles (NodeDown down inc) caused = inl refl
  put_settles NoMemory caused = inl refl
  put_settles reply caused = absurd (false≢true caused)

puts_settle : (view : LineView) (key value : List ℕ) (turns : List Turn) → IsTrue (single_course puts_or_answers turns) → (answer : Option Reply) × Settles (with_turns view (Put key value) turns) answer
puts_settle view key value (AtNode node before entry ∷ []) follows = (told_to_put key view.hold.attempt (service before), put_settles view key value node before entry)
puts_settle view key value (AtNode node before entry ∷ turn ∷ line) follows = absurd (false≢true follows)
puts_settle view key value (AtDoor place act ∷ line) follows = absurd (false≢true follows)
puts_settle view key value (AtOffice before entry ∷ line) follows = absurd (false≢true follows)
puts_settle view key value [] follows = absurd (false≢true follows)

pub puts_exact : (key value : List ℕ) (view : LineView) (reply : Reply) → view.command ≡ Put key value → IsTrue (keeps_its_course view) → IsTrue (cause view reply) → ExactlyCaused view reply
puts_exact key value view reply e keeps caused = by_turns view (Put key value) reply e keeps caused (puts_settle view key value)
