use Rattle.std.proofs.Common.{◌≡◌, List, ap, ◌∙◌}
use Rattle.std.specs.Prelude.{option_map}
use Rattle.aft_model.specs.declared.node.NodeEntry.{NodeEntry}
use Rattle.aft_model.specs.NodeState.{Service, node_state, service}
use Rattle.aft_ledger.proofs.Asked.{shows}
use Rattle.aft_ledger.specs.Stages.{serving_of}
use Rattle.aft_ledger.proofs.Told_stage.{serving-stage}
use Rattle.aft_ledger.proofs.ledger.Ledger.serving.Goals as goal

pub returns : goal.returns
returns c = shows c.self.inside c.args.self.now c.self.view_is (λ (h : List NodeEntry). c.serving.result ≡ option_map (λ (s : Service). s.inc) (service h)) (c.serving.ensures ∙ (ap serving_of c.self.invariant.staged ∙ serving-stage (node_state c.self.inside.history.items)))
