use Rattle.std.proofs.Common.{Some, sym, ap, ◌∙◌}
use Rattle.std.proofs.lemmas.Result.{on_ok_weaker}
use Rattle.aft_txn.proofs.Pinned.{with_read-new, with_read-same}
use Rattle.aft_txn.proofs.pins.note.Goals as goal

pub returns-in-Some-clause-ok : goal.returns-in-Some-clause-ok
returns-in-Some-clause-ok c =
    let same = rw (sym c.in-Some.ensures.value) at c.requires.same in
    sym (with_read-same c.args.key c.args.id.now c.args.reads.now (sym c.in-Some.ensures.value ∙ ap Some same))

pub returns-in-None-clause-ok : goal.returns-in-None-clause-ok
returns-in-None-clause-ok c = on_ok_weaker c.add_pinned.result (λ is. is ∙ sym (with_read-new c.args.key c.args.id.now c.args.reads.now (sym c.in-None.ensures.value))) c.add_pinned.ensures.ok
