use Rattle.std.proofs.Common.{◌≡◌, ℕ, List, refl, subst, ◌∙◌}
use Rattle.std.specs.Prelude.{IfOk, IfSome, Some}
use Rattle.aft_keeper.specs.Calls.{get_answer}
use Rattle.aft_keeper.specs.Contents.{bytes_at}
use Rattle.aft_keeper.specs.declared.keeper.KeeperCall.TheVariants.{Get}
use Rattle.aft_door.specs.Calls.{told_found}
use Rattle.aft_records.specs.Names.{name_text}
use Rattle.aft_door.proofs.Along.{asked_on}
use Rattle.aft_door.proofs.Went.{asked_so, get_goes, shows_told}
use Rattle.aft_door.proofs.door.Door.get.Goals as goal

pub invariant_of-self-2 : goal.invariant_of-self-2
invariant_of-self-2 g c =
    asked_on _ _ c.args.who (Get (name_text c.args.name.now)) (Some c.in_ok-answer.answer)
    (asked_so _ _ c.args.who (Get (name_text c.args.name.now)) (get_answer c.get.result) (Some c.in_ok-answer.answer) c.in_ok-answer.ensures.answer (rw (c.add_get.ensures, c.make_room.ensures.history, c.in_ok-name.ensures) refl) (cc (c.get.ensures.log, c.as_str.ensures, c.in_ok-name.ensures))
    (get_goes (g.K.Keeper.contents c.self.inside.keeper) (g.K.Keeper.contents c.get.new.self) c.args.who (name_text c.args.name.now) c.get.result c.get.ensures.same
    (subst (λ (n : List ℕ). IfOk c.get.result (λ f. IfSome (g.K.Keeper.contents c.self.inside.keeper) (λ pairs. f ≡ bytes_at n pairs))) (c.as_str.ensures ∙ c.in_ok-name.ensures) c.get.ensures.found))
    refl refl)
    c.self.invariant

pub returns-clause-shows : goal.returns-clause-shows
returns-clause-shows g c =
    rw (← c.self.view_is) (shows_told told_found _ c.args.who (Get (name_text c.args.name.now)) _ c.in_ok-answer.told c.in_ok-answer.answer c.in_ok-answer.ensures.told
    (asked_so _ _ c.args.who (Get (name_text c.args.name.now)) (get_answer c.get.result) (Some c.in_ok-answer.answer) c.in_ok-answer.ensures.answer (rw (c.add_get.ensures, c.make_room.ensures.history, c.in_ok-name.ensures) refl) (cc (c.get.ensures.log, c.as_str.ensures, c.in_ok-name.ensures))
    (get_goes (g.K.Keeper.contents c.self.inside.keeper) (g.K.Keeper.contents c.get.new.self) c.args.who (name_text c.args.name.now) c.get.result c.get.ensures.same
    (subst (λ (n : List ℕ). IfOk c.get.result (λ f. IfSome (g.K.Keeper.contents c.self.inside.keeper) (λ pairs. f ≡ bytes_at n pairs))) (c.as_str.ensures ∙ c.in_ok-name.ensures) c.get.ensures.found))
    refl refl))
