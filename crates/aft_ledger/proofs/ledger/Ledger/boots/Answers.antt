use Rattle.std.proofs.Common.{◌≡◌, List, ap, ◌∙◌}
use Rattle.aft_model.specs.declared.node.NodeEntry.{NodeEntry}
use Rattle.aft_model.specs.NodeState.{boots, node_state}
use Rattle.aft_ledger.proofs.Asked.{shows}
use Rattle.aft_ledger.specs.Stages.{boots_of}
use Rattle.aft_ledger.proofs.Told_stage.{boots-stage}
use Rattle.aft_ledger.proofs.ledger.Ledger.boots.Goals as goal

pub returns : goal.returns
returns c = shows c.self.inside c.args.self.now c.self.view_is (λ (h : List NodeEntry). c.boots.result ≡ boots c.args.inc (node_state h)) (c.boots.ensures ∙ (ap (boots_of c.args.inc) c.self.invariant.staged ∙ boots-stage c.args.inc (node_state c.self.inside.history.items)))
