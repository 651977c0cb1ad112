use Rattle.std.proofs.Common.{◌≡◌, subst, sym}
use Rattle.aft_boot.proofs.Crashing.{door_begins, fences}
use Rattle.aft_boot.specs.CrashView.{CrashView, next_of}
use Rattle.aft_boot.specs.Crashed.{Made, made_at}
use Rattle.aft_boot.specs.declared.fencing.Fencing.{Fencing}
use Rattle.aft_boot.specs.declared.fencing.Fencing.TheVariants.{Tells}
use Rattle.aft_turns.specs.Steps.{StepsAtDoor}
use Rattle.aft_turns.specs.declared.turn.Where.TheVariants as places
use Rattle.aft_boot.proofs.crash.Crash.at_door.Goals as goal

pub returns-clause-steps : goal.returns-clause-steps
returns-clause-steps g c =
    subst (λ (v : CrashView). next_of v ≡ places.Door → StepsAtDoor v.by (Made v) (made_at c.self.inside.by c.self.inside.node (Tells c.fence-fenced.result)) c.args.door.now.history c.fence-fenced.new.self.history) c.self.view_is (λ next.
    subst (λ (s : Fencing). StepsAtDoor c.self.inside.by (made_at c.self.inside.by c.self.inside.node s) (made_at c.self.inside.by c.self.inside.node (Tells c.fence-fenced.result)) c.args.door.now.history c.fence-fenced.new.self.history) (sym (door_begins c.self.inside.node c.self.inside.stage next))
    (fences c.self.inside.by c.self.inside.node c.args.door.now c.fence-fenced.new.self c.requires.open c.fence-fenced.result c.fence-fenced.ensures.value c.fence-fenced.ensures.some c.fence-fenced.ensures.none)) c.requires.next
