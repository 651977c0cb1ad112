use Rattle.std.proofs.Common.{subst, sym, ◌∙◌}
use Rattle.std.specs.Prelude.{IsTrue}
use Rattle.aft_keeper.specs.declared.keeper.Pair.{Pair}
use Rattle.std.proofs.Common.{List, ap}
use Rattle.aft_model.specs.declared.caller.Caller.{Caller}
use Rattle.aft_model.specs.Opening.{may_open}
use Rattle.aft_model.specs.Sound.{first_offender}
use Rattle.aft_door.specs.Entries.{door_opened}
use Rattle.aft_audit.proofs.Opens.{may_be_opened}
use Rattle.aft_audit.proofs.opening.open.Goals as goal

pub opened-requires-clause-sound : goal.opened-requires-clause-sound
opened-requires-clause-sound g c =
    subst (λ (who : Caller). IsTrue (may_open c.args.door.now.history (door_opened who.by))) (sym c.opener.ensures)
    (may_be_opened c.args.pairs.items c.args.door.now.history c.requires.shown c.requires.read (ap (λ (pairs : List Pair). first_offender pairs) (sym c.from_vec.ensures) ∙ (sym c.in_ok-name.ensures.first ∙ c.in-None.is)))
