-- What a delivery is answered: the counts of the commits that it learned, in the service of its node.
use Rattle.std.proofs.Common.{◌≡◌, ℕ, eqb, ◌&&◌, List, [], ◌∷◌, refl, inl, inr}
use Rattle.std.specs.Prelude.{IsTrue, Option, Some, None}
use Rattle.std.proofs.lemmas.Bool.{and_parts, eqb-true, false≢true, or_cases}
use Rattle.aft_model.specs.declared.node.NodeAct.{NodeAct}
use Rattle.aft_model.specs.declared.node.NodeAct.TheVariants.{Learn}
use Rattle.aft_model.specs.declared.node.NodeEntry.{NodeEntry}
use Rattle.aft_model.specs.declared.reply.Reply.{Reply}
use Rattle.aft_model.specs.declared.reply.Reply.TheVariants.{Committing, Learned, NoMemory, NodeDown}
use Rattle.aft_model.specs.declared.script.Command.TheVariants.{Deliver}
use Rattle.aft_model.specs.NodeRules.{Counts, counts}
use Rattle.aft_model.specs.NodeState.{Service, in_service, service}
use Rattle.aft_lines.specs.Causes.{ExactlyCaused, cause}
use Rattle.aft_lines.specs.CausesRounds.{counts_as, learns}
use Rattle.aft_lines.specs.LineCourse.{learns_or_answers, single_course}
use Rattle.aft_lines.specs.LineView.{LineView}
use Rattle.aft_lines.specs.Turns.{AtDoor, AtNode, AtOffice, Turn}
use Rattle.law_answers.specs.Courses.{keeps_its_course}
use Rattle.law_answers.proofs.Served.{never_served}
use Rattle.law_answers.proofs.Settled.{Settles, by_turns, with_turns}

abbrev told_counts : Counts → Reply
told_counts those = Learned those.taken those.superseded those.already

abbrev told_to_delivery : NodeAct → Option Service → Option Reply
told_to_delivery (Learn commits) (Some serving) = Some (told_counts (counts serving commits))
told_to_delivery act found = None

counted_so : (taken superseded already : ℕ) (those : Counts) → IsTrue (counts_as taken superseded already those) → Some (Learned taken superseded already) ≡ Some (told_counts those)
counted_so taken superseded already those is =
    let parts = and_parts (eqb taken those.taken && eqb superseded those.superseded) (eqb already those.already) is in
    let rest = and_parts (eqb taken those.taken) (eqb superseded those.superseded) parts.0 in
    let t : taken ≡ those.taken = eqb-true taken those.taken rest.0 in
    let s : superseded ≡ those.superseded = eqb-true superseded those.superseded rest.1 in
    let a : already ≡ those.already = eqb-true already those.already parts.1 in
    cc

learned_so : (taken superseded already : ℕ) (act : NodeAct) (found : Option Service) → IsTrue (in_service (learns taken superseded already act) found) → Some (Learned taken superseded already) ≡ told_to_delivery act found
learned_so taken superseded already act None is = absurd (false≢true is)
learned_so taken superseded already (Learn commits) (Some serving) is = counted_so taken superseded already (counts serving commits) is
learned_so taken superseded already act (Some serving) is = absurd (false≢true is)

module _ (view : LineView) (at node : ℕ) (before : List NodeEntry) (entry : NodeEntry) where
  delivery_settles : Settles (with_turns view (Deliver at) (AtNode node before entry ∷ [])) (told_to_delivery entry.act (service before))
  delivery_settles (Learned taken superseded already) caused = inr (elim (or_cases (in_service (learns taken superseded already entry.act) (service before)) _ caused) [
    | inl learned ↦ learned_so taken superseded already entry.act (service before) learned
    | inr none ↦ absurd (false≢true none)
  ])
  delivery_settles (NodeDown down inc) caused = inl refl
  delivery_settles Committing caused = absurd (never_served view.hold.attempt (service before) caused)
  delivery_settles NoMemory caused = inl refl
  delivery_settles reply caused = absurd (false≢true caused)

deliveries_settle : (view : LineView) (at : ℕ) (turns : List Turn) → IsTrue (single_course learns_or_answers turns) → (answer : Option Reply) × Settles (with_turns view (Deliver at) turns) answer
deliveries_settle view at (AtNode node before entry ∷ []) follows = (told_to_delivery entry.act (service before), delivery_settles view at node before entry)
deliveries_settle view at (AtNode node before entry ∷ turn ∷ line) follows = absurd (false≢true follows)
deliveries_settle view at (AtDoor place act ∷ line) follows = absurd (false≢true follows)
deliveries_settle view at (AtOffice before entry ∷ line) follows = absurd (false≢true follows)
deliveries_settle view at [] follows = absurd (false≢true follows)

pub deliveries_exact : (at : ℕ) (view : LineView) (reply : Reply) → view.command ≡ Deliver at → IsTrue (keeps_its_course view) → IsTrue (cause view reply) → ExactlyCaused view reply
deliveries_exact at view reply e keeps caused = by_turns view (Deliver at) reply e keeps caused (deliveries_settle view at)
