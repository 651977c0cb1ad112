-- A line that runs has what its machine asks of its next turn.
use Rattle.std.proofs.Common.{◌≡◌, ℕ, Bool, false, true, subst, sym}
use Rattle.std.specs.Prelude.{IsTrue}
use Rattle.aft_begin.specs.declared.aim.Aim.TheVariants as aims
use Rattle.aft_commit.specs.View.{reads_clock_at}
use Rattle.aft_commit.specs.declared.stage.Stage.{Stage}
use Rattle.aft_commit.specs.declared.stage.Stage.TheVariants as commits
use Rattle.aft_commit.specs.Made as finishes
use Rattle.aft_ledger.specs.View.{NodeView}
use Rattle.aft_lines.specs.Asked.{Asked, Ran}
use Rattle.aft_machine.specs.Asks.{IsStorable, Knows, MayCall, MayEnd, may_close}
use Rattle.aft_machine.specs.OneNode.{AimsSo, next_of}
use Rattle.aft_machine.specs.declared.machine.Machine.{Machine}
use Rattle.aft_machine.specs.declared.machine.Machine.TheVariants.{Begin, Crash, Finish, Forget, Put, Read, Start, Starve}
use Rattle.aft_machine.specs.PutView as puts
use Rattle.aft_machine.specs.Starved as starved
use Rattle.aft_machine.specs.declared.buffering.Stage.{Stage as PutStage}
use Rattle.aft_machine.specs.declared.buffering.Stage.TheVariants as putting
use Rattle.aft_model.specs.declared.caller.Hold.{Hold}
use Rattle.aft_model.specs.declared.script.Command.{Command}
use Rattle.aft_model.specs.declared.script.Line.{Line}
use Rattle.aft_model.specs.DoorKnowledge.{is_open}
use Rattle.aft_step.specs.Going.{Goes, HasRead}
use Rattle.aft_turns.specs.Trail.{Trail}
use Rattle.aft_turns.specs.declared.turn.Where.TheVariants as places
use Rattle.law_accounts.specs.Account.{Stand}
use Rattle.law_driven_claims.proofs.Goes as claims
use Rattle.law_driven_commits.proofs.Calls.{may_call}
use Rattle.law_driven_commits.proofs.Closes.{closes}
use Rattle.law_driven_commits.proofs.Ends.{ends}
use Rattle.law_driven_commits.proofs.Puts.{may_put_so, stores_within}
use Rattle.law_driven_commits.specs.Finishes.{PutsAreShort}
use Rattle.law_driven_gets.proofs.Goes as gets
use Rattle.law_driven_starts.proofs.Goes as starts
use Rattle.law_driver.specs.Driven.{Driven, IsNode}

-- a commit's first turn is handed the time that it has read
reads_so : (stage : Stage) (now time : ℕ) → now ≡ time → reads_clock_at stage now time
reads_so commits.Begins now time is = is
reads_so (commits.Settles a r values) now time is = tt
reads_so (commits.Stores a r values count) now time is = tt
reads_so (commits.Failed a r) now time is = tt
reads_so (commits.Recorded a r) now time is = tt
reads_so (commits.Releases a uuid outcome) now time is = tt
reads_so (commits.Doubts a reply) now time is = tt
reads_so (commits.Ends a uuid outcome) now time is = tt
reads_so (commits.ShutOut a) now time is = tt
reads_so commits.Ended now time is = tt

-- a commit and an abort have read it
has_read : (aborts : Bool) (now time : ℕ) → HasRead (finishes.command_of aborts) now time → now ≡ time
has_read false now time is = is
has_read true now time is = is

-- a put has no turn at the door, and neither has a line that starves
put_not_there : (node : ℕ) (stage : PutStage) → puts.next_at node stage ≡ places.Door → ⊥
put_not_there node (putting.Begins key value) is = cc
put_not_there node putting.Ended is = cc

starved_not_there : (node : ℕ) (over : Bool) → starved.next_at node over ≡ places.Door → ⊥
starved_not_there node false is = cc
starved_not_there node true is = cc

module _ (asked : Asked) (ran : Ran) (stand : Line → Stand) (line : Line) (hold : Hold) (now : ℕ) (trail : Trail) (driven : Driven asked ran stand line hold trail) where
  pub at_node : (machine : Machine) → AimsSo machine → (goes : Goes asked line hold machine now trail) → (node : NodeView) → IsNode asked ran node → next_of machine ≡ places.Node node.number → may_close machine node.history × MayEnd now goes.time machine node.history
  at_node (Begin m) aim goes node is next = claims.at_node aims.Begin asked ran stand line hold trail m driven (record { by = goes.by; claims = aim; order = sym goes.command }) node is goes.made next
  at_node (Forget m held) aim goes node is next = claims.at_node aims.Forget asked ran stand line hold trail m driven (record { by = goes.by; claims = aim; order = sym goes.command }) node is goes.made next
  at_node (Read m) aim goes node is next = gets.at_node asked ran stand line hold trail m driven (record { by = goes.by; held = goes.held; asks = sym goes.command }) node is goes.made next
  at_node (Finish m) aim goes node is next = (
    closes asked ran stand line hold trail m driven (record { by = goes.by; held = goes.held; asks = sym goes.command }) node is goes.time goes.made next,
    (reads_so m.stage now goes.time (has_read m.aborts now goes.time (subst (λ (c : Command). HasRead c now goes.time) (sym goes.command) goes.read)), ends asked ran stand line hold trail m driven (record { by = goes.by; held = goes.held; asks = sym goes.command }) node is goes.time goes.made next),
  )
  at_node (Put m) aim goes node is next = (tt, tt)
  at_node (Starve m) aim goes node is next = (tt, tt)
  at_node (Crash m held) aim goes node is next = (tt, tt)
  at_node (Start m held) aim goes node is next = (
    starts.at_node asked ran stand line hold trail m driven (record { by = goes.by; asks = sym goes.command }) node is goes.made next,
    starts.at_end asked ran stand line hold trail m driven (record { by = goes.by; asks = sym goes.command }) node is goes.made next,
  )

  pub at_door : (machine : Machine) → AimsSo machine → Goes asked line hold machine now trail → PutsAreShort asked → next_of machine ≡ places.Door → IsStorable machine × Knows machine ran.trace.door × MayCall machine ran.trace.door × IsTrue (is_open ran.trace.door)
  at_door (Begin m) aim goes short next =
      let may = claims.at_door aims.Begin asked ran stand line hold trail m driven (record { by = goes.by; claims = aim; order = sym goes.command }) goes.made next in
      (tt, tt, may.0, may.2)
  at_door (Forget m held) aim goes short next =
      let may = claims.at_door aims.Forget asked ran stand line hold trail m driven (record { by = goes.by; claims = aim; order = sym goes.command }) goes.made next in
      (tt, may.1, may.0, may.2)
  at_door (Read m) aim goes short next =
      let may = gets.at_door asked ran stand line hold trail m driven (record { by = goes.by; held = goes.held; asks = sym goes.command }) goes.made next in
      (tt, tt, may.0, may.1)
  at_door (Finish m) aim goes short next =
      let may = may_call asked ran stand line hold trail m driven (record { by = goes.by; held = goes.held; asks = sym goes.command }) goes.time goes.made next in
      (stores_within asked ran stand line hold trail m driven (record { by = goes.by; held = goes.held; asks = sym goes.command }) goes.time short goes.made, may_put_so asked ran stand line hold trail m driven (record { by = goes.by; held = goes.held; asks = sym goes.command }) goes.time goes.made next, may.0, may.1)
  at_door (Put m) aim goes short next = absurd (put_not_there m.hold.node m.stage next)
  at_door (Starve m) aim goes short next = absurd (starved_not_there m.hold.node m.over next)
  at_door (Crash m held) aim goes short next = (tt, tt, tt, driven.account.opened)
  at_door (Start m held) aim goes short next =
      let may = starts.at_door asked ran stand line hold trail m driven (record { by = goes.by; asks = sym goes.command }) goes.made next in
      (tt, tt, may.0, may.1)
