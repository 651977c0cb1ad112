use Rattle.std.proofs.Common.{rules}
use Rattle.toml.specs.Errors.{IsMemory}
use Rattle.aft_conf.proofs.Documents.{conf_of_document, conf_of_other}
use Rattle.aft_conf.proofs.reading.read_conf.Goals as goal

pub returns-in-Ok-clause-value : goal.returns-in-Ok-clause-value
returns-in-Ok-clause-value c =
    rw (conf_of_document c.args.bytes.now _ c.in-Ok.ensures.ok.0 c.in-Ok.ensures.ok.1) c.settings_of.ensures.value

pub returns-in-Err-2-clause-value : goal.returns-in-Err-2-clause-value
returns-in-Err-2-clause-value c =
    let other : IsMemory c.in-Err.e → ⊥ = search rules in
    conf_of_other c.args.bytes.now (c.in-Err.ensures.refused other)
