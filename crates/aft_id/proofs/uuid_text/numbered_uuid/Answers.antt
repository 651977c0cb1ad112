use Rattle.std.proofs.Common.{lit<, option_map, ap, sym, ◌∙◌, Some}
use Rattle.std.specs.Int.{w128, to_be_bytes}
use Rattle.std.proofs.lemmas.Bool.Decides.{not_from_Decides}
use Rattle.std.proofs.lemmas.Str.Pattern.{starts_char}
use Rattle.aft_id.proofs.UuidTexts.{parsed_number}
use Rattle.aft_id.proofs.uuid_text.numbered_uuid.Goals as goal

pub returns-in_err-number : goal.returns-in_err-number
returns-in_err-number c =
    let unsigned = not_from_Decides c.starts_with.result
    (starts_char 43 c.args.digits.now c.starts_with.result c.starts_with.ensures.cases (lit< tt) (lit< tt)) c.if-starts_with.false in
    c.from_residual.ensures
    ∙ sym (ap (option_map (to_be_bytes w128)) (sym c.ok.ensures.value ∙ c.in_err-number.was))
    ∙ parsed_number c.args.digits.now c.parse.result c.parse.ensures.value.0 unsigned c.if-digits-gt-MAX_DIGITS.false

pub returns : goal.returns
returns c =
    let unsigned = not_from_Decides c.starts_with.result
    (starts_char 43 c.args.digits.now c.starts_with.result c.starts_with.ensures.cases (lit< tt) (lit< tt)) c.if-starts_with.false in
    ap Some c.from_u128.ensures
    ∙ sym (ap (option_map (to_be_bytes w128)) (sym c.ok.ensures.value ∙ c.in_ok-number.was))
    ∙ parsed_number c.args.digits.now c.parse.result c.parse.ensures.value.0 unsigned c.if-digits-gt-MAX_DIGITS.false
