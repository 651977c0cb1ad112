-- What an announcement is answered: the counts of the commits that its first turn took, and of the ids that boxes refused.
use Rattle.std.proofs.Common.{◌≡◌, ℕ, false, eqb, ◌||◌, List, [], ◌∷◌, refl, sym, ◌∙◌, inl, inr}
use Rattle.std.specs.Prelude.{IsTrue, Option, Some, None, length}
use Rattle.std.proofs.lemmas.Bool.{and_parts, eqb-true, false≢true, or_cases}
use Rattle.aft_model.specs.declared.node.NodeAct.{NodeAct}
use Rattle.aft_model.specs.declared.node.NodeAct.TheVariants.{Announce, Nothing}
use Rattle.aft_model.specs.declared.node.NodeEntry.{NodeEntry}
use Rattle.aft_model.specs.declared.reply.Reply.{Reply}
use Rattle.aft_model.specs.declared.reply.Reply.TheVariants.{Announced, Committing, NoMemory, NodeDown}
use Rattle.aft_model.specs.declared.script.Command.TheVariants as commands
use Rattle.aft_model.specs.NodeState.{service}
use Rattle.aft_lines.specs.Causes.{ExactlyCaused, cause}
use Rattle.aft_lines.specs.CausesRounds.{announces}
use Rattle.aft_lines.specs.CourseWords.{only_answers}
use Rattle.aft_lines.specs.LineCourse.{announce_after, announce_course}
use Rattle.aft_lines.specs.LinePosts.{refused_ids}
use Rattle.aft_lines.specs.LineView.{LineView}
use Rattle.aft_lines.specs.Turns.{AtDoor, AtNode, AtOffice, Turn}
use Rattle.law_answers.specs.Courses.{keeps_its_course}
use Rattle.law_answers.proofs.Served.{never_served}
use Rattle.law_answers.proofs.Settled.{Settles, by_turns, with_turns}

abbrev told_of : ℕ → NodeAct → Option Reply
told_of dropped (Announce kept pruned) = Some (Announced (length kept) (length pruned) dropped)
told_of dropped act = None

announced_so : (kept pruned dropped refused : ℕ) (act : NodeAct) → IsTrue (announces kept pruned act) → IsTrue (eqb dropped refused) → Some (Announced kept pruned dropped) ≡ told_of refused act
announced_so kept pruned dropped refused (Announce told left) is counts =
    let parts = and_parts (eqb kept (length told)) (eqb pruned (length left)) is in
    let k : kept ≡ length told = eqb-true kept (length told) parts.0 in
    let p : pruned ≡ length left = eqb-true pruned (length left) parts.1 in
    let d : dropped ≡ refused = eqb-true dropped refused counts in
    cc
announced_so kept pruned dropped refused act is counts = absurd (false≢true is)

-- what answers alone announces nothing
alone_announces : (kept pruned : ℕ) (act : NodeAct) (answer : Option Reply) → IsTrue (only_answers act answer) → announces kept pruned act ≡ false
alone_announces kept pruned Nothing answer is = refl
alone_announces kept pruned act answer is = absurd (false≢true is)

-- behind the first turn stands nothing, or an answer alone at the node
second_alone : (node : ℕ) (act : NodeAct) (at : ℕ) (later : List NodeEntry) (last : NodeEntry) → IsTrue (announce_after node act (AtNode at later last ∷ [])) → IsTrue (only_answers last.act last.answer)
second_alone node (Announce kept pruned) at later last follows = (and_parts (eqb node at) (only_answers last.act last.answer) follows).1
second_alone node act at later last follows = absurd (false≢true follows)

no_third : (node : ℕ) (act : NodeAct) (second third : Turn) (line : List Turn) → announce_after node act (second ∷ third ∷ line) ≡ false
no_third node (Announce kept pruned) (AtNode at later last) third line = refl
no_third node (Announce kept pruned) (AtDoor place done) third line = refl
no_third node (Announce kept pruned) (AtOffice before done) third line = refl
no_third node act second third line = refl

module _ (view : LineView) (asked node : ℕ) (before : List NodeEntry) (entry : NodeEntry) where
  abbrev refused : ℕ
  refused = length (refused_ids view.posts)

  one_settles : Settles (with_turns view (commands.Announce asked) (AtNode node before entry ∷ [])) (told_of refused entry.act)
  one_settles (Announced kept pruned dropped) caused =
      let parts = and_parts (announces kept pruned entry.act || false) (eqb dropped refused) caused in
      inr (elim (or_cases (announces kept pruned entry.act) false parts.0) [
        | inl first ↦ announced_so kept pruned dropped refused entry.act first parts.1
        | inr none ↦ absurd (false≢true none)
      ])
  one_settles (NodeDown down inc) caused = inl refl
  one_settles Committing caused = absurd (never_served view.hold.attempt (service before) caused)
  one_settles NoMemory caused = inl refl
  one_settles reply caused = absurd (false≢true caused)

  module _ (at : ℕ) (later : List NodeEntry) (last : NodeEntry) (alone : IsTrue (only_answers last.act last.answer)) where
    two_settle : Settles (with_turns view (commands.Announce asked) (AtNode node before entry ∷ AtNode at later last ∷ [])) (told_of refused entry.act)
    two_settle (Announced kept pruned dropped) caused =
        let parts = and_parts (announces kept pruned entry.act || (announces kept pruned last.act || false)) (eqb dropped refused) caused in
        inr (elim (or_cases (announces kept pruned entry.act) (announces kept pruned last.act || false) parts.0) [
          | inl first ↦ announced_so kept pruned dropped refused entry.act first parts.1
          | inr second ↦ elim (or_cases (announces kept pruned last.act) false second) [
            | inl told ↦ absurd (false≢true (sym (alone_announces kept pruned last.act last.answer alone) ∙ told))
            | inr none ↦ absurd (false≢true none)
          ]
        ])
    two_settle (NodeDown down inc) caused = inl refl
    two_settle Committing caused = absurd (never_served view.hold.attempt (service before) caused)
    two_settle NoMemory caused = inl refl
    two_settle reply caused = absurd (false≢true caused)

announcements_settle : (view : LineView) (asked : ℕ) (turns : List Turn) → IsTrue (announce_course turns) → (answer : Option Reply) × Settles (with_turns view (commands.Announce asked) turns) answer
announcements_settle view asked (AtNode node before entry ∷ []) follows = (told_of (length (refused_ids view.posts)) entry.act, one_settles view asked node before entry)
announcements_settle view asked (AtNode node before entry ∷ AtNode at later last ∷ []) follows =
    (told_of (length (refused_ids view.posts)) entry.act, two_settle view asked node before entry at later last (second_alone node entry.act at later last follows))
announcements_settle view asked (AtNode node before entry ∷ AtDoor place act ∷ []) follows = absurd (false≢true (sym (at_door entry.act) ∙ follows))
  where
    at_door : (first : NodeAct) → announce_after node first (AtDoor place act ∷ []) ≡ false
    at_door (Announce kept pruned) = refl
    at_door first = refl
announcements_settle view asked (AtNode node before entry ∷ AtOffice earlier done ∷ []) follows = absurd (false≢true (sym (at_office entry.act) ∙ follows))
  where
    at_office : (first : NodeAct) → announce_after node first (AtOffice earlier done ∷ []) ≡ false
    at_office (Announce kept pruned) = refl
    at_office first = refl
announcements_settle view asked (AtNode node before entry ∷ second ∷ third ∷ line) follows = absurd (false≢true (sym (no_third node entry.act second third line) ∙ follows))
announcements_settle view asked (AtDoor place act ∷ line) follows = absurd (false≢true follows)
announcements_settle view asked (AtOffice before entry ∷ line) follows = absurd (false≢true follows)
announcements_settle view asked [] follows = absurd (false≢true follows)

pub announcements_exact : (asked : ℕ) (view : LineView) (reply : Reply) → view.command ≡ commands.Announce asked → IsTrue (keeps_its_course view) → IsTrue (cause view reply) → ExactlyCaused view reply
announcements_exact asked view reply e keeps caused = by_turns view (commands.Announce asked) reply e keeps caused (announcements_settle view asked)
