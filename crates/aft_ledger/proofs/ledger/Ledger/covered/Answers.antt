use Rattle.std.proofs.Common.{◌≡◌, List, ap, ◌∙◌}
use Rattle.aft_model.specs.declared.node.NodeEntry.{NodeEntry}
use Rattle.aft_model.specs.Known.{known}
use Rattle.aft_ledger.proofs.Asked.{shows}
use Rattle.aft_records.specs.Superseded.{is_superseded}
use Rattle.aft_ledger.proofs.ledger.Ledger.covered.Goals as goal

pub returns : goal.returns
returns c = shows c.self.inside c.args.self.now c.self.view_is (λ (h : List NodeEntry). c.covered.result ≡ is_superseded c.args.commit.now (known h)) (c.covered.ensures ∙ ap (is_superseded c.args.commit.now) c.self.invariant.knows)
