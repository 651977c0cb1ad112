use Rattle.std.proofs.Common.{refl}
use Rattle.std.specs.Prelude.{Some}
use Rattle.aft_keeper.specs.Calls.{page_answer}
use Rattle.aft_keeper.specs.declared.keeper.KeeperCall.TheVariants.{Scan}
use Rattle.aft_door.specs.Calls.{told_page}
use Rattle.aft_door.proofs.Along.{asked_on}
use Rattle.aft_door.proofs.Went.{asked_so, page_answers, scan_goes, shows_told}
use Rattle.aft_door.proofs.door.Door.scan.Goals as goal

pub add_scan-requires-clause-answered : goal.add_scan-requires-clause-answered
add_scan-requires-clause-answered g c =
    rw (c.in_ok-scanned.ensures.ok, c.in_ok-from.ensures.ok) (page_answers c.args.prefix.now c.args.after.now c.args.limit c.scan-page.result c.in_ok-answer.answer c.in_ok-answer.ensures.answer c.scan-page.ensures.shape)

pub invariant_of-self-2 : goal.invariant_of-self-2
invariant_of-self-2 g c =
    asked_on _ _ c.args.who (Scan c.args.prefix.now c.args.after.now c.args.limit) (Some c.in_ok-answer.answer)
    (asked_so _ _ c.args.who (Scan c.args.prefix.now c.args.after.now c.args.limit) (page_answer c.scan-page.result) (Some c.in_ok-answer.answer) c.in_ok-answer.ensures.answer
    (rw (c.add_scan.ensures, c.make_room.ensures.history, c.in_ok-scanned.ensures.ok, c.in_ok-from.ensures.ok) refl) c.scan-page.ensures.log
    (scan_goes (g.K.Keeper.contents c.self.inside.keeper) (g.K.Keeper.contents c.scan-page.new.self) c.args.who c.args.prefix.now c.args.after.now c.args.limit c.scan-page.result c.scan-page.ensures.same c.scan-page.ensures.page)
    refl refl)
    c.self.invariant

pub returns-clause-shows : goal.returns-clause-shows
returns-clause-shows g c =
    rw (← c.self.view_is) (shows_told told_page _ c.args.who (Scan c.args.prefix.now c.args.after.now c.args.limit) _ c.in_ok-answer.told c.in_ok-answer.answer c.in_ok-answer.ensures.told
    (asked_so _ _ c.args.who (Scan c.args.prefix.now c.args.after.now c.args.limit) (page_answer c.scan-page.result) (Some c.in_ok-answer.answer) c.in_ok-answer.ensures.answer
    (rw (c.add_scan.ensures, c.make_room.ensures.history, c.in_ok-scanned.ensures.ok, c.in_ok-from.ensures.ok) refl) c.scan-page.ensures.log
    (scan_goes (g.K.Keeper.contents c.self.inside.keeper) (g.K.Keeper.contents c.scan-page.new.self) c.args.who c.args.prefix.now c.args.after.now c.args.limit c.scan-page.result c.scan-page.ensures.same c.scan-page.ensures.page)
    refl refl))
