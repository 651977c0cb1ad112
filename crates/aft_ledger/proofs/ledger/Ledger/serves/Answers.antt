use Rattle.std.proofs.Common.{◌≡◌, List, ap, ◌∙◌}
use Rattle.aft_model.specs.declared.node.NodeEntry.{NodeEntry}
use Rattle.aft_model.specs.NodeState.{node_state, serves}
use Rattle.aft_ledger.proofs.Asked.{shows}
use Rattle.aft_ledger.specs.Stages.{serves_of}
use Rattle.aft_ledger.proofs.Told_stage.{serves-stage}
use Rattle.aft_ledger.proofs.ledger.Ledger.serves.Goals as goal

pub returns : goal.returns
returns c = shows c.self.inside c.args.self.now c.self.view_is (λ (h : List NodeEntry). c.serves.result ≡ serves c.args.inc (node_state h)) (c.serves.ensures ∙ (ap (serves_of c.args.inc) c.self.invariant.staged ∙ serves-stage c.args.inc (node_state c.self.inside.history.items)))
