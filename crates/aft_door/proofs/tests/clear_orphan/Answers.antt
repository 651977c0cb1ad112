use Rattle.aft_model.specs.DoorKnowledge.{knows_orphan}
use Rattle.aft_model.proofs.Growth.{orphan_grows}
use Rattle.aft_door.proofs.Seen.{grown}
use Rattle.aft_door.proofs.tests.clear_orphan.Goals as goal

pub delete_orphan-other-requires-clause-orphan : goal.delete_orphan-other-requires-clause-orphan
delete_orphan-other-requires-clause-orphan g c =
    let known = knows_orphan c.args.id.now c.args.place in
    let grows = orphan_grows c.args.id.now c.args.place in
    rw c.copied.ensures (grown known grows _ _ _ c.let_go.ensures.history (grown known grows _ _ _ c.delete_orphan.ensures.history c.requires.orphan))
