use Rattle.std.proofs.Common.{ℕ, List, refl, subst}
use Rattle.std.specs.Prelude.{Some}
use Rattle.aft_keeper.specs.Calls.{ChangesBy, done_answer}
use Rattle.aft_keeper.specs.Contents.{without}
use Rattle.aft_keeper.specs.declared.keeper.KeeperCall.TheVariants.{Delete}
use Rattle.aft_door.proofs.Along.{asked_on}
use Rattle.aft_door.proofs.Went.{asked_so, asks_told, delete_goes}
use Rattle.aft_door.proofs.door.Door.delete_under.Goals as goal

pub invariant_of-self-2 : goal.invariant_of-self-2
invariant_of-self-2 g c =
    asked_on _ _ c.args.who (Delete c.args.name) (Some c.in_ok-answer.answer)
    (asked_so _ _ c.args.who (Delete c.args.name) (done_answer c.delete.result) (Some c.in_ok-answer.answer) c.in_ok-answer.ensures.answer (rw (c.add_forget.ensures, c.make_room.ensures.history) refl) (cc (c.delete.ensures.log, c.as_str.ensures))
    (delete_goes (g.K.Keeper.contents c.self.inside.keeper) (g.K.Keeper.contents c.delete.new.self) c.args.who c.args.name c.delete.result
    (subst (λ (n : List ℕ). ChangesBy {T = Unit} (without n) (g.K.Keeper.contents c.self.inside.keeper) c.delete.result (g.K.Keeper.contents c.delete.new.self)) c.as_str.ensures c.delete.ensures.contents))
    refl refl)
    c.self.invariant

pub returns-clause-asks : goal.returns-clause-asks
returns-clause-asks g c =
    rw (← c.self.view_is) (asks_told _ _ c.args.who (Delete c.args.name) _ (Some c.in_ok-answer.answer) c.in_ok-answer.ensures.told
    (asked_so _ _ c.args.who (Delete c.args.name) (done_answer c.delete.result) (Some c.in_ok-answer.answer) c.in_ok-answer.ensures.answer (rw (c.add_forget.ensures, c.make_room.ensures.history) refl) (cc (c.delete.ensures.log, c.as_str.ensures))
    (delete_goes (g.K.Keeper.contents c.self.inside.keeper) (g.K.Keeper.contents c.delete.new.self) c.args.who c.args.name c.delete.result
    (subst (λ (n : List ℕ). ChangesBy {T = Unit} (without n) (g.K.Keeper.contents c.self.inside.keeper) c.delete.result (g.K.Keeper.contents c.delete.new.self)) c.as_str.ensures c.delete.ensures.contents))
    refl refl))
