use Rattle.std.proofs.Common.{◌≡◌, ◌∙◌, false, sym, ap}
use Rattle.aft_records.specs.Limits.{is_key}
use Rattle.aft_records.proofs.KeyChecks.{checked_keys-at, checked_keys-end}
use Rattle.aft_records.proofs.keys.check_keys.Goals as goal

pub returns-then-not-is_key : goal.returns-then-not-is_key
returns-then-not-is_key c =
    let key = c.index-texts-index.result in
    let no : is_key key ≡ false = ap is_key (sym c.as_slice.ensures) ∙ sym c.is_key.ensures ∙ c.if-not-is_key.true in
    c.loop-index.invariant ∙ checked_keys-at c.args.texts.now c.loop-index.index key c.loop-index-test.true c.index-texts-index.is ∙ rw no

pub loop-index-preserved : goal.loop-index-preserved
loop-index-preserved c =
    let key = c.index-texts-index.result in
    let yes = ap is_key (sym c.as_slice.ensures) ∙ sym c.is_key.ensures ∙ c.if-not-is_key.false in
    c.loop-index.invariant ∙ checked_keys-at c.args.texts.now c.loop-index.index key c.loop-index-test.true c.index-texts-index.is ∙ rw yes

pub returns : goal.returns
returns c = c.loop-index.invariant ∙ checked_keys-end c.args.texts.now c.loop-index.index c.loop-index-test.false
