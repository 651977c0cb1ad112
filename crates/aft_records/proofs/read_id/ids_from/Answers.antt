use Rattle.std.proofs.Common.{◌≡◌, ◌∙◌, ◌++◌, ◌∷◌, [], ap, sym, Some}
use Rattle.std.proofs.lemmas.Result.{err_from_is_err_and}
use Rattle.aft_records.specs.Reading.{found_id, found_ids}
use Rattle.aft_records.specs.ReadIds.{read_id_of}
use Rattle.aft_records.proofs.ReadIds.{goes_on, ends, is_done, front_none, id_is}
use Rattle.aft_records.proofs.read_id.ids_from.Goals as goal

pub loop-text-init : goal.loop-text-init
loop-text-init c = rw c.new-ids.ensures.items (front_none c.args.texts.now)

pub returns-in_err-read_id : goal.returns-in_err-read_id
returns-in_err-read_id c =
    let p = err_from_is_err_and c.from_residual.result c.from_residual.ensures.1 in
    rw (p.1, p.2) (ends c.loop-text.ids.items c.args.texts.now c.loop-text.text-index c.text-item.result _ c.in_err-read_id.field-0.0 c.loop-text-test.true c.text-item.is (rw c.as_slice.ensures at c.in_err-read_id.ensures) c.loop-text.invariant)

pub loop-text-preserved : goal.loop-text-preserved
loop-text-preserved c =
    let id = c.in_ok-read_id.field-0 in
    let read : read_id_of c.text-item.result ≡ Some c.in_ok-read_id.field-0 = id_is (read_id_of c.text-item.result) c.in_ok-read_id.field-0 (ap (λ text. found_id (read_id_of text)) (sym c.as_slice.ensures) ∙ c.in_ok-read_id.ensures) in
    let pushed : c.push.new.self.items ≡ c.loop-text.ids.items ++ c.in_ok-read_id.field-0 ∷ [] = c.in_ok-push.ensures.items in
    rw pushed (goes_on c.loop-text.ids.items c.args.texts.now c.loop-text.text-index c.text-item.result _ c.in_ok-read_id.field-0 c.loop-text-test.true c.text-item.is read c.loop-text.invariant)

pub returns : goal.returns
returns c = ap found_ids (is_done c.loop-text.ids.items c.args.texts.now c.loop-text.text-index _ c.loop-text-test.false c.loop-text.invariant)
