use Rattle.std.proofs.Common.{ℕ, List, refl, subst}
use Rattle.std.specs.Prelude.{Some}
use Rattle.aft_keeper.specs.Calls.{ChangesBy, done_answer}
use Rattle.aft_keeper.specs.Contents.{with_pair}
use Rattle.aft_keeper.specs.declared.keeper.KeeperCall.TheVariants.{Put}
use Rattle.aft_door.proofs.Along.{asked_on}
use Rattle.aft_door.proofs.Went.{asked_so, asks_told, put_goes}
use Rattle.aft_door.proofs.door.Door.put.Goals as goal

pub invariant_of-self-2 : goal.invariant_of-self-2
invariant_of-self-2 g c =
    asked_on _ _ c.args.who (Put c.args.name c.args.bytes) (Some c.in_ok-answer.answer)
    (asked_so _ _ c.args.who (Put c.args.name c.args.bytes) (done_answer c.put.result) (Some c.in_ok-answer.answer) c.in_ok-answer.ensures.answer (rw (c.add_put.ensures, c.make_room.ensures.history) refl) (cc (c.put.ensures.log, c.as_str.ensures, c.as_slice.ensures))
    (put_goes (g.K.Keeper.contents c.self.inside.keeper) (g.K.Keeper.contents c.put.new.self) c.args.who c.args.name c.args.bytes c.put.result
    (subst (λ (n : List ℕ). ChangesBy {T = Unit} (with_pair n c.args.bytes) (g.K.Keeper.contents c.self.inside.keeper) c.put.result (g.K.Keeper.contents c.put.new.self)) c.as_str.ensures (subst (λ (b : List ℕ). ChangesBy {T = Unit} (with_pair c.as_str.result.now b) (g.K.Keeper.contents c.self.inside.keeper) c.put.result (g.K.Keeper.contents c.put.new.self)) c.as_slice.ensures c.put.ensures.contents)))
    refl refl)
    c.self.invariant

pub returns-clause-asks : goal.returns-clause-asks
returns-clause-asks g c =
    rw (← c.self.view_is) (asks_told _ _ c.args.who (Put c.args.name c.args.bytes) _ (Some c.in_ok-answer.answer) c.in_ok-answer.ensures.told
    (asked_so _ _ c.args.who (Put c.args.name c.args.bytes) (done_answer c.put.result) (Some c.in_ok-answer.answer) c.in_ok-answer.ensures.answer (rw (c.add_put.ensures, c.make_room.ensures.history) refl) (cc (c.put.ensures.log, c.as_str.ensures, c.as_slice.ensures))
    (put_goes (g.K.Keeper.contents c.self.inside.keeper) (g.K.Keeper.contents c.put.new.self) c.args.who c.args.name c.args.bytes c.put.result
    (subst (λ (n : List ℕ). ChangesBy {T = Unit} (with_pair n c.args.bytes) (g.K.Keeper.contents c.self.inside.keeper) c.put.result (g.K.Keeper.contents c.put.new.self)) c.as_str.ensures (subst (λ (b : List ℕ). ChangesBy {T = Unit} (with_pair c.as_str.result.now b) (g.K.Keeper.contents c.self.inside.keeper) c.put.result (g.K.Keeper.contents c.put.new.self)) c.as_slice.ensures c.put.ensures.contents)))
    refl refl))
