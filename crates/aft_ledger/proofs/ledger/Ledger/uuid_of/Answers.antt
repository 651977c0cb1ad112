use Rattle.std.proofs.Common.{◌≡◌, List, ◌∙◌}
use Rattle.std.specs.Prelude.{IsFalse, IsTrue, Some}
use Rattle.aft_model.specs.declared.node.NodeEntry.{NodeEntry}
use Rattle.aft_model.specs.Attempts.{attempt_state, is_gone, uuid_of}
use Rattle.aft_model.specs.NodeState.{node_state, part, serves}
use Rattle.aft_ledger.proofs.Asked.{shows, uuid_is}
use Rattle.aft_ledger.proofs.Fields.{at_node, held, of_history}
use Rattle.aft_ledger.proofs.ledger.Ledger.uuid_of.Goals as goal

pub returns : goal.returns
returns c = shows c.self.inside c.args.self.now c.self.view_is (λ (h : List NodeEntry). c.uuid_of.result ≡ Some (uuid_of c.args.attempt.now (part h))) (c.uuid_of.ensures ∙ uuid_is (held c.self.inside) c.self.invariant c.args.attempt.now (at_node c.self.inside c.args.self.now c.self.view_is c.args.attempt.now.node c.requires.node) (of_history c.self.inside c.args.self.now c.self.view_is (λ (h : List NodeEntry). IsTrue (serves c.args.attempt.now.inc (node_state h))) c.requires.serves) (of_history c.self.inside c.args.self.now c.self.view_is (λ (h : List NodeEntry). IsFalse (is_gone (attempt_state c.args.attempt.now (part h)))) c.requires.there))
