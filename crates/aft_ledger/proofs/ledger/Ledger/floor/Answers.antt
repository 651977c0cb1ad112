use Rattle.std.proofs.Common.{◌≡◌, List, ap, ◌∙◌}
use Rattle.aft_model.specs.declared.node.NodeEntry.{NodeEntry}
use Rattle.aft_model.specs.Known.{known}
use Rattle.aft_ledger.proofs.Asked.{shows}
use Rattle.aft_ledger.specs.Turns.{floor_of}
use Rattle.aft_ledger.proofs.ledger.Ledger.floor.Goals as goal

pub returns : goal.returns
returns c = shows c.self.inside c.args.self.now c.self.view_is (λ (h : List NodeEntry). c.floor_of.result ≡ floor_of c.args.keys.now (known h)) (c.floor_of.ensures ∙ ap (floor_of c.args.keys.now) c.self.invariant.knows)
