-- A line whose causes settle what is answered: what comes exactly of the replies that are caused is one reply, or none.
use Rattle.std.proofs.Common.{◌≡◌, Bool, true, false, ◌&&◌, ◌||◌, not, List, refl, sym, ◌∙◌, subst, inl, inr, ◌⊎◌}
use Rattle.std.specs.Prelude.{IsTrue, Option, Some, None, if◌then◌else◌}
use Rattle.std.proofs.lemmas.Bool.{and_parts, false≢true, or_left, or_right}
use Rattle.aft_model.specs.declared.reply.Reply.{Reply}
use Rattle.aft_model.specs.declared.reply.Reply.TheVariants.{NoMemory, NodeDown}
use Rattle.aft_model.specs.declared.script.Command.{Command}
use Rattle.aft_lines.specs.Causes.{ExactlyCaused, cause, comes_exactly, same_but_holders, yields_to}
use Rattle.aft_lines.specs.LineCourse.{answers_last, follows_course}
use Rattle.aft_lines.specs.LineView.{LineView, ends_of}
use Rattle.aft_lines.specs.Lines.{node_numbers}
use Rattle.aft_lines.specs.Turns.{Turn}
use Rattle.law_answers.specs.Courses.{keeps_its_course}
use Rattle.law_answers.proofs.Same.{reply_same}

-- a reply, where it comes exactly
abbrev pub told : Reply → Option Reply
told reply = if comes_exactly reply then Some reply else None

-- each reply that is caused, but for those to which all others yield, is this one; where this is none, it doesn't come exactly
abbrev pub Settles : LineView → Option Reply → Type 0
Settles view answer = (reply : Reply) → IsTrue (cause view reply) → IsTrue (yields_to reply) ⊎ (told reply ≡ answer)

-- what comes exactly yields no other
pub exact_yields_not : (reply : Reply) → IsTrue (comes_exactly reply) → yields_to reply ≡ false
exact_yields_not (NodeDown node inc) is = absurd (false≢true is)
exact_yields_not NoMemory is = absurd (false≢true is)
exact_yields_not reply is = refl

told_is : (exact : Bool) (reply other : Reply) → (if exact then Some reply else None) ≡ Some other → reply ≡ other
told_is true reply other e = cc
told_is false reply other e = absurd (cc)

exact_told : (exact : Bool) (reply : Reply) → IsTrue exact → (if exact then Some reply else None) ≡ Some reply
exact_told true reply is = refl
exact_told false reply is = absurd (false≢true is)

module _ (view : LineView) (answer : Option Reply) (settles : Settles view answer) where
  -- one that comes exactly and is caused is the reply
  same_as : (reply other : Reply) → told reply ≡ answer → IsTrue (comes_exactly other) → IsTrue (cause view other) → IsTrue (same_but_holders reply other)
  same_as reply other tells exact caused = elim (settles other caused) [
    | inl yields ↦ absurd (false≢true (sym (exact_yields_not other exact) ∙ yields))
    | inr so ↦ subst (λ (r : Reply). IsTrue (same_but_holders reply r)) (told_is (comes_exactly reply) reply other (tells ∙ sym so ∙ exact_told (comes_exactly other) other exact)) (reply_same reply)
  ]

  leaves_out : (reply other : Reply) → told reply ≡ answer → (both : Bool) → (comes_exactly other && cause view other) ≡ both → IsTrue ((not both || same_but_holders reply other) || yields_to reply)
  leaves_out reply other tells false e = refl
  leaves_out reply other tells true e =
      let parts = and_parts (comes_exactly other) (cause view other) e in
      or_left _ _ (same_as reply other tells parts.0 parts.1)

  pub settled_exactly : (reply : Reply) → IsTrue (cause view reply) → ExactlyCaused view reply
  settled_exactly reply caused other = elim (settles reply caused) [
    | inl yields ↦ or_right _ _ yields
    | inr tells ↦ leaves_out reply other tells (comes_exactly other && cause view other) refl
  ]

-- a line of this command with these turns
abbrev pub with_turns : LineView → Command → List Turn → LineView
with_turns view command turns = record view { command = command; turns = turns }

-- what holds of each reply of a line with any turns that follow the course of its command, and pass a further test, holds of a line that keeps it
pub by_turns_and : (needs : LineView → Bool) (view : LineView) (command : Command) (reply : Reply) → view.command ≡ command → IsTrue (keeps_its_course view) → IsTrue (needs view) → IsTrue (cause view reply)
    → ((turns : List Turn) → IsTrue (follows_course command (node_numbers view.settings) (ends_of (with_turns view command turns)) turns) → IsTrue (needs (with_turns view command turns)) → (answer : Option Reply) × Settles (with_turns view command turns) answer) → ExactlyCaused view reply
by_turns_and needs view command reply e keeps so caused law =
    subst (λ (c : Command). ((turns : List Turn) → IsTrue (follows_course c (node_numbers view.settings) (ends_of (with_turns view c turns)) turns) → IsTrue (needs (with_turns view c turns)) → (answer : Option Reply) × Settles (with_turns view c turns) answer) → ExactlyCaused view reply) e
    (λ its. let found = its view.turns (and_parts (answers_last view.turns) (follows_course view.command (node_numbers view.settings) (ends_of view) view.turns) keeps).1 so in settled_exactly view found.0 found.1 reply caused) law

-- the same where more than one reply that comes exactly may have its cause
pub by_turns_so : (needs : LineView → Bool) (view : LineView) (command : Command) (reply : Reply) → view.command ≡ command → IsTrue (keeps_its_course view) → IsTrue (needs view) → IsTrue (cause view reply)
    → ((turns : List Turn) → IsTrue (follows_course command (node_numbers view.settings) (ends_of (with_turns view command turns)) turns) → IsTrue (needs (with_turns view command turns)) → IsTrue (cause (with_turns view command turns) reply) → ExactlyCaused (with_turns view command turns) reply) → ExactlyCaused view reply
by_turns_so needs view command reply e keeps so caused law =
    subst (λ (c : Command). ((turns : List Turn) → IsTrue (follows_course c (node_numbers view.settings) (ends_of (with_turns view c turns)) turns) → IsTrue (needs (with_turns view c turns)) → IsTrue (cause (with_turns view c turns) reply) → ExactlyCaused (with_turns view c turns) reply) → ExactlyCaused view reply) e
    (λ its. its view.turns (and_parts (answers_last view.turns) (follows_course view.command (node_numbers view.settings) (ends_of view) view.turns) keeps).1 so caused) law

-- the same where no further test is needed
pub by_turns : (view : LineView) (command : Command) (reply : Reply) → view.command ≡ command → IsTrue (keeps_its_course view) → IsTrue (cause view reply)
    → ((turns : List Turn) → IsTrue (follows_course command (node_numbers view.settings) (ends_of (with_turns view command turns)) turns) → (answer : Option Reply) × Settles (with_turns view command turns) answer) → ExactlyCaused view reply
by_turns view command reply e keeps caused law = by_turns_and (λ its. true) view command reply e keeps refl caused (λ turns follows so. law turns follows)
