use Rattle.std.proofs.Common.{refl}
use Rattle.aft_door.proofs.tests.retired.written_twice.Goals as goal

pub returns : goal.returns
returns g c =
    rw (c.commit-2.ensures.history, c.let_go.ensures.history, c.commit.ensures.history, c.come_up-2.ensures.history, c.come_up.ensures.history, c.open_door-door.ensures.history, c.id_of.ensures, c.id_of-older.ensures, c.caller.ensures, c.requires) refl
