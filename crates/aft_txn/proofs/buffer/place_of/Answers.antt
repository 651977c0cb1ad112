use Rattle.std.proofs.Common.{◌≡◌, ◌∙◌, sym, ap, refl, arith, length, map, take, drop, ◌++◌}
use Rattle.aft_model.specs.Attempts.{with_write}
use Rattle.aft_txn.specs.Buffer.{as_write, write_of}
use Rattle.std.proofs.lemmas.List.{get_or_default}
use Rattle.std.specs.declared.cmp.Ordering.TheVariants.{Less, Equal, Greater}
use Rattle.std.specs.Cmp.Lexicographic.{bytes_decides}
use Rattle.aft_txn.specs.declared.buffer.Write.{Write}
use Rattle.aft_txn.proofs.Buffers.{compared, goes_by, inserts_here, inserts_last, replaces_here}
use Rattle.aft_txn.proofs.buffer.place_of.Goals as goal

pub returns-in-Equal : goal.returns-in-Equal
returns-in-Equal c =
    let write = c.index-writes-at.result in
    let same = compared c.args.key.now write.key Equal (sym c.in-Equal.ensures) in
    record {
      within = c.loop-at-test.true;
      named = λ other. ap (λ (w : Write). w.key) (get_or_default c.args.writes.now c.loop-at.at other write c.loop-at-test.true ∙ sym c.index-writes-at.is) ∙ sym ((bytes_decides c.args.key.now write.key).0 same.0);
      put = λ value. c.loop-at.invariant value ∙ replaces_here c.args.key.now value c.args.writes.now c.loop-at.at write c.loop-at-test.true c.index-writes-at.is same.0;
    }

pub returns-in-Less : goal.returns-in-Less
returns-in-Less c =
    let write = c.index-writes-at.result in
    let below = compared c.args.key.now write.key Less (sym c.in-Less.ensures) in
    record {
      within = c.loop-at.auto.at-end;
      put = λ value. c.loop-at.invariant value ∙ inserts_here c.args.key.now value c.args.writes.now c.loop-at.at write c.loop-at-test.true c.index-writes-at.is below.0 below.1;
    }

pub loop-at-preserved : goal.loop-at-preserved
loop-at-preserved c value =
    let write = c.index-writes-at.result in
    let above = compared c.args.key.now write.key Greater (sym c.in-Greater.ensures) in
    c.loop-at.invariant value ∙ goes_by c.args.key.now value c.args.writes.now c.loop-at.at write c.loop-at-test.true c.index-writes-at.is above.0 above.1

pub returns : goal.returns
returns c =
    let ended : c.loop-at.at ≡ length c.args.writes.now = omega arith in
    record { within = omega arith; put = λ value. c.loop-at.invariant value ∙ ap (λ n. map as_write (take n c.args.writes.now) ++ with_write (as_write (write_of c.args.key.now value)) (map as_write (drop n c.args.writes.now))) ended ∙ inserts_last c.args.key.now value c.args.writes.now (length c.args.writes.now) refl }
