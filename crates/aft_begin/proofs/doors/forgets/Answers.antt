use Rattle.std.proofs.Common.{List, ◌&&◌, ◌||◌, subst, sym, ℕ}
use Rattle.std.specs.Prelude.{IsTrue}
use Rattle.aft_lines.specs.CourseWords.{caller_of}
use Rattle.aft_model.specs.Claims.{holds}
use Rattle.aft_model.specs.Membership.{is_up}
use Rattle.aft_model.specs.NodeSights.{is_fenced}
use Rattle.aft_begin.proofs.DoorSteps.{delete_step}
use Rattle.aft_begin.proofs.doors.forgets.Goals as goal

pub returns-clause-steps : goal.returns-clause-steps
returns-clause-steps g c node may =
    delete_step c.args.aim c.args.by node c.args.uuid c.args.attempt c.args.door.now.history c.forget-reply.new.door.history c.args.id c.forget-reply.result c.requires.own
    (c.forget-reply.ensures.forgets (subst (λ (u : List ℕ). IsTrue (is_fenced (caller_of c.args.attempt) c.args.door.now.history || is_up (caller_of c.args.attempt) c.args.door.now.history && holds (caller_of c.args.attempt) u c.args.door.now.history)) (sym c.requires.own) may))
