use Rattle.std.proofs.Common.{◌≡◌, List, ap, ◌∙◌}
use Rattle.aft_model.specs.declared.node.NodeEntry.{NodeEntry}
use Rattle.aft_model.specs.Known.{holds_id}
use Rattle.aft_model.specs.NodeState.{in_service, service}
use Rattle.aft_ledger.proofs.Asked.{held_is, shows}
use Rattle.aft_ledger.proofs.Fields.{held}
use Rattle.std.proofs.Common.{◌||◌}
use Rattle.aft_records.specs.Commits.{has_id}
use Rattle.aft_ledger.proofs.ledger.Ledger.holds.Goals as goal

pub returns : goal.returns
returns c = shows c.self.inside c.args.self.now c.self.view_is (λ (h : List NodeEntry). c.either.result ≡ in_service (holds_id c.args.id) (service h)) (c.either.ensures ∙ (ap (λ t. t || c.is_fixed.result) c.is_known.ensures ∙ (ap (λ t. has_id c.args.id c.self.inside.known || t) c.is_fixed.ensures ∙ held_is (held c.self.inside) c.self.invariant c.args.id)))
