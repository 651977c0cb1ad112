use Rattle.std.proofs.Common.{◌∙◌, ap, refl}
use Rattle.std.proofs.lemmas.Str.Pattern.{split_parts}
use Rattle.aft_records.specs.NameReading.{split_once}
use Rattle.aft_records.proofs.Splits.{split_once-at, split_once-none}
use Rattle.aft_records.proofs.name.split.Goals as goal

pub returns-in-Some : goal.returns-in-Some
returns-in-Some c =
    let parts = split_parts c.args.separator c.args.text.now c.split_once.result c.split_once.ensures.cases c.requires in
    let here = rw c.in-Some.is at parts in
    record { found = ap (split_once c.args.separator) here.0 ∙ split_once-at c.args.separator c.in-Some.before.now c.in-Some.after.now here.1; refused = tt }

pub returns-in-None : goal.returns-in-None
returns-in-None c =
    let parts = split_parts c.args.separator c.args.text.now c.split_once.result c.split_once.ensures.cases c.requires in
    let none = rw c.in-None.is at parts in
    record { found = split_once-none c.args.separator c.args.text.now none; refused = refl }
