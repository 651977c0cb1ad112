use Rattle.std.proofs.Common.{Err, arith, get_or, length, ◌<◌, ◌≤◌}
use Rattle.std.proofs.lemmas.Grind.{common_steps}
use Rattle.aft_script.proofs.Numbers.{number_to-no_text, number_to-parsed, number_to-refused, parsed, parsed_some}
use Rattle.aft_script.proofs.values.number_to.Goals as goal

pub returns-in_default-clause-value : goal.returns-in_default-clause-value
returns-in_default-clause-value c = number_to-no_text c.args.most c.args.word.now c.in_default.ensures.cases.0

pub returns-in_default-parse-clause-value : goal.returns-in_default-parse-clause-value
returns-in_default-parse-clause-value c =
    let first : 49 ≤ get_or c.args.word.now 0 0 = omega arith in
    let some : 0 < length c.args.word.now = grind (arith, common_steps) in
    let other = parsed _ c.args.word.now c.in-Ok.text.now (Err c.in_default-parse.field-0) c.in-Ok.ensures.cases.0 first c.in_default-parse.ensures.value.0 in
    number_to-refused c.args.most c.args.word.now (omega arith) (λ digits small. other (digits, some, small))

pub returns-then-number-most-clause-value : goal.returns-then-number-most-clause-value
returns-then-number-most-clause-value c =
    let first : 49 ≤ get_or c.args.word.now 0 0 = omega arith in
    number_to-parsed _ c.args.most c.in-Ok-parse.number c.args.word.now c.in-Ok.text.now c.parse.result c.in-Ok-parse.is c.in-Ok.ensures.cases.0 first c.parse.ensures.value.0 c.if-number-most.true

pub returns-then-number-most-clause-within : goal.returns-then-number-most-clause-within
returns-then-number-most-clause-within c =
    let first : 49 ≤ get_or c.args.word.now 0 0 = omega arith in
    (parsed_some _ c.in-Ok-parse.number c.args.word.now c.in-Ok.text.now c.parse.result c.in-Ok-parse.is c.in-Ok.ensures.cases.0 first c.parse.ensures.value.0, c.if-number-most.true)
