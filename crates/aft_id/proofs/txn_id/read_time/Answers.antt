use Rattle.std.proofs.Common.{◌≡◌, arith, sym, ◌∙◌, true≢false, Some}
use Rattle.aft_id.proofs.IdTexts.{decimal_plain, read_decimal, read_plain}
use Rattle.aft_id.proofs.txn_id.read_time.Goals as goal

pub returns-then-not-is_plain-clause-reads : goal.returns-then-not-is_plain-clause-reads
returns-then-not-is_plain-clause-reads c time fits text =
    let plain = decimal_plain time (omega arith) in
    let digits = c.as_bytes.ensures.value ∙ text in
    absurd (true≢false (sym (c.is_plain.ensures.1 (rw digits plain)) ∙ c.if-not-is_plain.true))

pub returns-in_err-time-clause-reads : goal.returns-in_err-time-clause-reads
returns-in_err-time-clause-reads c time fits text =
    c.from_residual.ensures ∙ sym c.in_err-time.was
    ∙ read_decimal time c.args.text.now c.parse.result c.ok.result (omega arith) text c.parse.ensures.value.0 c.ok.ensures.value

pub returns-then-time-clause-text : goal.returns-then-time-clause-text
returns-then-time-clause-text c =
    let plain = rw c.as_bytes.ensures.value at (c.is_plain.ensures.0 c.if-not-is_plain.false) in
    read_plain c.in_ok-time.time c.args.text.now c.parse.result c.parse.ensures.value.0 plain.0 plain.1
    (sym c.in_ok-time.was ∙ c.ok.ensures.value)

pub returns-then-time-clause-reads : goal.returns-then-time-clause-reads
returns-then-time-clause-reads c time fits text =
    sym c.in_ok-time.was
    ∙ read_decimal time c.args.text.now c.parse.result c.ok.result (omega arith) text c.parse.ensures.value.0 c.ok.ensures.value

pub returns-else-time-clause-reads : goal.returns-else-time-clause-reads
returns-else-time-clause-reads c time fits text =
    let read : Some c.in_ok-time.time ≡ Some time = sym c.in_ok-time.was
    ∙ read_decimal time c.args.text.now c.parse.result c.ok.result (omega arith) text c.parse.ensures.value.0 c.ok.ensures.value in
    let same : c.in_ok-time.time ≡ time = cc in
    absurd (omega arith)
