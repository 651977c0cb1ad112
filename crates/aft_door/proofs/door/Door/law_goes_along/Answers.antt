use Rattle.std.proofs.Common.{rules}
use Rattle.std.specs.Prelude.{IfSome}
use Rattle.aft_keeper.specs.Contents.{IsContents}
use Rattle.aft_door.proofs.Along.{honest_if}
use Rattle.aft_door.proofs.door.Door.law_goes_along.Goals as goal

pub returns-clause-honest : goal.returns-clause-honest
returns-clause-honest g c =
    rw (← c.door.view_is) (honest_if (g.K.Keeper.contents c.door.inside.first.value) (g.K.Keeper.contents c.door.inside.keeper) c.door.inside.ledger.history (let within : IfSome (g.K.Keeper.contents c.door.inside.first.value) IsContents = search rules in within) c.door.invariant.contents)
