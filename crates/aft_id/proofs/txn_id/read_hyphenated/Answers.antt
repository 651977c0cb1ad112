use Rattle.std.proofs.Common.{◌≡◌, sym, ap, ◌∙◌, true≢false, Some, nat_eq}
use Rattle.std.specs.Cmp.Lexicographic.{pointwise, nat_list_eq_equiv}
use Rattle.uuid.specs.Text.{hyphenated_text, lower}
use Rattle.aft_id.proofs.IdTexts.{read_lower}
use Rattle.aft_id.proofs.txn_id.read_hyphenated.Goals as goal

pub returns-in_err-uuid-clause-reads : goal.returns-in_err-uuid-clause-reads
returns-in_err-uuid-clause-reads c u is text =
    c.from_residual.ensures ∙ sym c.in_err-uuid.was
    ∙ read_lower u c.args.text.now c.try_parse.result c.ok.result is text c.try_parse.ensures.ok c.try_parse.ensures.bytes c.ok.ensures.value

pub returns-then-eq-clause-reads : goal.returns-then-eq-clause-reads
returns-then-eq-clause-reads c u is text =
    sym c.in_ok-uuid.was
    ∙ read_lower u c.args.text.now c.try_parse.result c.ok.result is text c.try_parse.ensures.ok c.try_parse.ensures.bytes c.ok.ensures.value

pub returns-else-eq-clause-reads : goal.returns-else-eq-clause-reads
returns-else-eq-clause-reads c u is text =
    let read : Some c.in_ok-uuid.uuid ≡ Some u = sym c.in_ok-uuid.was
    ∙ read_lower u c.args.text.now c.try_parse.result c.ok.result is text c.try_parse.ensures.ok c.try_parse.ensures.bytes c.ok.ensures.value in
    let same : c.in_ok-uuid.uuid ≡ u = cc in
    let again : c.encode_lower-written.result.now ≡ c.args.text.now =
    c.encode_lower-written.ensures.text ∙ ap (hyphenated_text lower) (c.hyphenated.ensures ∙ same) ∙ sym text in
    absurd (true≢false (sym (c.if-eq.ensures ∙ ap (λ t. pointwise nat_eq t c.args.text.now) again ∙ nat_list_eq_equiv.refl c.args.text.now)))
