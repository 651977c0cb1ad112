-- A begin or a forget that a driver runs has what its machine asks of its next turn.
use Rattle.std.proofs.Common.{◌≡◌, ℕ, Bool, ◌||◌, ◌&&◌, not, List, refl, sym, ap, subst, ◌∙◌, inl, inr}
use Rattle.std.specs.Prelude.{IsTrue, None, Option}
use Rattle.std.specs.Str.{bytes_eq}
use Rattle.std.proofs.lemmas.Bool.{and_from, or_left, or_right}
use Rattle.aft_keeper.specs.declared.keeper.KeeperAnswer.{KeeperAnswer}
use Rattle.aft_keeper.specs.declared.keeper.KeeperAnswer.TheVariants.{Absent, Found}
use Rattle.aft_model.specs.declared.caller.Attempt.{Attempt}
use Rattle.aft_model.specs.declared.caller.Hold.{Hold}
use Rattle.aft_model.specs.declared.door.DoorEntry.{DoorEntry}
use Rattle.aft_model.specs.declared.script.Line.{Line}
use Rattle.aft_model.specs.Attempts.{is_opening, uuid_of}
use Rattle.aft_model.specs.Claims.{holds}
use Rattle.aft_model.specs.Membership.{is_up}
use Rattle.aft_model.specs.NodeSights.{is_fenced}
use Rattle.aft_model.specs.NodeState.{node_state, part}
use Rattle.aft_ledger.specs.Turns.{is_doing}
use Rattle.aft_ledger.specs.View.{NodeView}
use Rattle.aft_lines.specs.Asked.{Asked, Ran}
use Rattle.aft_lines.specs.CourseWords.{caller_of}
use Rattle.aft_lines.specs.LineView.{has_left}
use Rattle.aft_turns.specs.Stands.{SeesOwn}
use Rattle.aft_turns.specs.Trail.{Trail}
use Rattle.aft_turns.specs.declared.turn.Where.TheVariants as places
use Rattle.aft_begin.specs.declared.aim.Aim.{Aim}
use Rattle.aft_begin.specs.declared.sought.Sought.TheVariants.{Marker, Record}
use Rattle.aft_begin.specs.declared.stage.Stage.{Stage}
use Rattle.aft_begin.specs.declared.stage.Stage.TheVariants.{Begins, Claims, Ended, Forgets, GivesUp, LetsGo, Runs, Seeks}
use Rattle.aft_begin.specs.Made.{HasCome, Made, knows_at, made_at, may_call_at, may_close_at, may_end_at}
use Rattle.aft_begin.specs.View.{ClaimView, next_at}
use Rattle.aft_begin.specs.Way.{Claimed, LookedForMarker, LookedForRecord, MustLetGo, Unclaimed, Way}
use Rattle.aft_begin.proofs.Stands.{knows_so}
use Rattle.law_accounts.specs.Account.{Stand}
use Rattle.law_driver.specs.Driven.{Driven, IsNode}
use Rattle.law_driven_claims.specs.Claims.{IsClaimOf, MayGoAtDoor, MayGoAtNode}
use Rattle.law_driven_claims.proofs.Standing.{closes_so, ends_so, free_so, holds_so, up_so}

number_is : (one other : ℕ) → places.Node one ≡ places.Node other → one ≡ other
number_is one other is = cc

looked_claimed : (p q r : ℕ) (answer : KeeperAnswer) → LookedForMarker p q r answer ≡ Unclaimed → ⊥
looked_claimed p q r answer is = cc

module _ (aim : Aim) (asked : Asked) (ran : Ran) (stand : Line → Stand) (line : Line) (hold : Hold) (trail : Trail) (claim : ClaimView) (driven : Driven asked ran stand line hold trail) (its : IsClaimOf aim line claim) where
  abbrev Comes : Attempt → ℕ → Way → Option ℕ → Type 0
  Comes a front way release = HasCome aim claim.by claim.node claim.uuid a front way release trail

  abbrev MadeAt : Stage → Type 0
  MadeAt stage = made_at aim claim.by claim.node claim.uuid stage trail

  its_made : Made claim trail → MadeAt claim.stage
  its_made made = subst (λ (which : Aim). made_at which claim.by claim.node claim.uuid claim.stage trail) its.claims made

  -- ---- at the door

  abbrev door : List DoorEntry
  door = ran.trace.door

  abbrev Unless : Attempt → Bool → Type 0
  Unless a so = IsTrue (is_fenced (caller_of a) door || so)

  is_there : (a : Attempt) (front : ℕ) (way : Way) → Comes a front way None → Unless a (is_up (caller_of a) door)
  is_there a front way come = elim (up_so aim asked ran stand line hold trail claim driven its a front way None come) [
    | inl fenced ↦ or_left _ _ fenced
    | inr up ↦ or_right (is_fenced (caller_of a) door) (is_up (caller_of a) door) up.0
  ]

  is_free : (a : Attempt) (front : ℕ) → Comes a front Unclaimed None → Unless a (is_up (caller_of a) door && not (holds (caller_of a) claim.uuid door))
  is_free a front come = elim (up_so aim asked ran stand line hold trail claim driven its a front Unclaimed None come) [
    | inl fenced ↦ or_left _ _ fenced
    | inr up ↦
        or_right (is_fenced (caller_of a) door) (is_up (caller_of a) door && not (holds (caller_of a) claim.uuid door))
        (and_from _ _ up.0 (ap not (up.1 ∙ free_so aim asked ran stand line hold trail claim driven its a front Unclaimed None come refl refl)))
  ]

  has_claim : (a : Attempt) (front : ℕ) (way : Way) → (way ≡ Unclaimed → ⊥) → Comes a front way None → Unless a (is_up (caller_of a) door && holds (caller_of a) claim.uuid door)
  has_claim a front way claimed come = elim (up_so aim asked ran stand line hold trail claim driven its a front way None come) [
    | inl fenced ↦ or_left _ _ fenced
    | inr up ↦
        or_right (is_fenced (caller_of a) door) (is_up (caller_of a) door && holds (caller_of a) claim.uuid door)
        (and_from _ _ up.0 (up.1 ∙ holds_so aim asked ran stand line hold trail claim driven its a front way None come claimed refl))
  ]

  calls : (stage : Stage) → MadeAt stage → may_call_at claim.uuid stage door
  calls Begins made = tt
  calls (Claims a) (front, come) = is_free a front come
  calls (Seeks a Record) (front, p, come) = is_there a front (Claimed p) come
  calls (Seeks a Marker) (front, p, q, come) = is_there a front (LookedForRecord p q Absent) come
  calls (Runs a) made = tt
  calls (Forgets a id) (front, p, q, r, bytes, come, words, shown) = has_claim a front (LookedForMarker p q r (Found bytes)) (looked_claimed p q r (Found bytes)) come
  calls (LetsGo a reply) (front, way, come, must) = has_claim a front way (λ is. subst (λ (w : Way). MustLetGo aim a claim.uuid trail.look w reply) is must) come
  calls (GivesUp a reply) made = tt
  calls (Ended given) made = tt

  knows : (stage : Stage) → MadeAt stage → knows_at stage door
  knows stage made = knows_so aim claim.by claim.node claim.uuid stage trail door made (subst (λ by. SeesOwn by trail.turns door) (sym its.by) driven.sees)

  pub at_door : Made claim trail → MayGoAtDoor claim door
  at_door made next = (calls claim.stage (its_made made), knows claim.stage (its_made made), driven.account.opened)

  -- ---- at its node

  module _ (node : NodeView) (is : IsNode asked ran node) where
    module _ (a : Attempt) (front : ℕ) (way : Way) (release : Option ℕ) (come : Comes a front way release) (here : claim.node ≡ node.number) where
      closes : may_close_at claim.by (Runs a) node.history
      closes = closes_so aim asked ran stand line hold trail claim driven its a front way release come node is here

      opens : IsTrue (has_left a.inc (node_state node.history) || is_doing is_opening a node.history)
      opens = elim (ends_so aim asked ran stand line hold trail claim driven its a front way release come node is here) [
        | inl left ↦ or_left _ _ left
        | inr so ↦ or_right (has_left a.inc (node_state node.history)) (is_doing is_opening a node.history) so.0
      ]

      opens_own : IsTrue (has_left a.inc (node_state node.history) || is_doing is_opening a node.history && bytes_eq (uuid_of a (part node.history)) claim.uuid)
      opens_own = elim (ends_so aim asked ran stand line hold trail claim driven its a front way release come node is here) [
        | inl left ↦ or_left _ _ left
        | inr so ↦ or_right (has_left a.inc (node_state node.history)) (is_doing is_opening a node.history && bytes_eq (uuid_of a (part node.history)) claim.uuid) (and_from _ _ so.0 so.1)
      ]

    by_node : (stage : Stage) → MadeAt stage → next_at claim.node stage ≡ places.Node node.number → may_close_at claim.by stage node.history × may_end_at claim.uuid stage node.history
    by_node Begins made next = (tt, tt)
    by_node (Claims a) made next = (tt, tt)
    by_node (Seeks a sought) made next = (tt, tt)
    by_node (Runs a) (front, p, q, r, come, begins) next =
        let here = number_is claim.node node.number next in
        (closes a front (LookedForMarker p q r Absent) None come here, opens_own a front (LookedForMarker p q r Absent) None come here)
    by_node (Forgets a id) made next = (tt, tt)
    by_node (LetsGo a reply) made next = (tt, tt)
    by_node (GivesUp a reply) (front, way, release, come, tells) next =
        let here = number_is claim.node node.number next in
        (closes a front way release come here, opens a front way release come here)
    by_node (Ended given) made next = (tt, tt)

    pub at_node : Made claim trail → MayGoAtNode claim node
    at_node made next = by_node claim.stage (its_made made) next
