use Rattle.std.proofs.Common.{ap, ◌∙◌}
use Rattle.aft_model.specs.Cut.{tries_put}
use Rattle.aft_model.specs.Readings.{record_name}
use Rattle.aft_model.specs.declared.door.DoorEntry.{DoorEntry}
use Rattle.aft_door.proofs.Found.{is_behind, behind_is}
use Rattle.aft_door.proofs.ledger.Ledger.put_since.Goals as goal

pub returns-in-Some : goal.returns-in-Some
returns-in-Some c =
    rw (← c.self.view_is) (ap (is_behind c.args.place) (c.in-Some.ensures.value ∙ c.self.invariant.puts_agree c.args.uuid.now c.uuid_bytes.ensures.bytes)
    ∙ behind_is (λ (e : DoorEntry). tries_put (record_name c.args.uuid.now) e.act) c.args.place c.self.inside.history.items)

pub returns-in-None : goal.returns-in-None
returns-in-None c =
    rw (← c.self.view_is) (ap (is_behind c.args.place) (c.in-None.ensures.value ∙ c.self.invariant.puts_agree c.args.uuid.now c.uuid_bytes.ensures.bytes)
    ∙ behind_is (λ (e : DoorEntry). tries_put (record_name c.args.uuid.now) e.act) c.args.place c.self.inside.history.items)
