use Rattle.std.proofs.Common.{◌∙◌, ◌&&◌, ap, sym}
use Rattle.std.specs.Prelude.{option_copied}
use Rattle.aft_model.specs.ScanRun.{same_line}
use Rattle.aft_node.specs.Closing.{opens_fetch}
use Rattle.aft_node.proofs.Last.{closes}
use Rattle.aft_node.proofs.tests.play.opened_fetch.Goals as goal

pub returns-in-Some : goal.returns-in-Some
returns-in-Some c = λ is. closes (opens_fetch c.args.attempt.now c.args.key.now c.args.id.now) c.args.by c.args.node.now.history c.in-Some.entry.now (sym c.last.ensures ∙ ap option_copied c.in-Some.is)
    (sym (c.both.ensures ∙ (ap (λ t. t && c.fetches.result) c.is_of.ensures ∙ ap (λ t. same_line c.args.by c.in-Some.entry.now.by && t) c.fetches.ensures)) ∙ is)
