use Rattle.std.proofs.Common.{◌≡◌, List, ap, sym, ◌∙◌}
use Rattle.std.specs.Prelude.{IfOk, IsFalse, IsTrue, option_copied}
use Rattle.aft_model.specs.declared.choice.Choice.{Choice}
use Rattle.aft_model.specs.declared.node.NodeEntry.{NodeEntry}
use Rattle.aft_model.specs.declared.read_set.ReadPair.{ReadPair}
use Rattle.aft_model.specs.Attempts.{attempt_state, is_gone, reads}
use Rattle.aft_model.specs.Choice.{choice}
use Rattle.aft_model.specs.Known.{known}
use Rattle.aft_model.specs.NodeState.{node_state, part, serves}
use Rattle.aft_ledger.proofs.Asked.{if_ok, reads_are, shows}
use Rattle.aft_ledger.proofs.Fields.{at_node, held, of_history}
use Rattle.aft_ledger.proofs.ledger.Ledger.choice.Goals as goal

pub returns-in-Some : goal.returns-in-Some
returns-in-Some c =
    let its : c.in-Some.reads.now ≡ reads c.args.attempt.now (part c.self.inside.history.items) = reads_are (held c.self.inside) c.self.invariant c.args.attempt.now (at_node c.self.inside c.args.self.now c.self.view_is c.args.attempt.now.node c.requires.node) (of_history c.self.inside c.args.self.now c.self.view_is (λ (h : List NodeEntry). IsTrue (serves c.args.attempt.now.inc (node_state h))) c.requires.serves) (of_history c.self.inside c.args.self.now c.self.view_is (λ (h : List NodeEntry). IsFalse (is_gone (attempt_state c.args.attempt.now (part h)))) c.requires.there) c.in-Some.reads.now (sym c.reads.ensures ∙ ap option_copied c.in-Some.is) in
    shows c.self.inside c.args.self.now c.self.view_is (λ (h : List NodeEntry). IfOk c.select.result (λ (ch : Choice). ch ≡ choice c.args.key.now (reads c.args.attempt.now (part h)) (known h))) (if_ok c.select.result (λ (ch : Choice). ch ≡ choice c.args.key.now c.in-Some.reads.now c.self.inside.known) (λ (ch : Choice). ch ≡ choice c.args.key.now (reads c.args.attempt.now (part c.self.inside.history.items)) (known c.self.inside.history.items)) (λ ch is. is ∙ (ap (λ (pairs : List ReadPair). choice c.args.key.now pairs c.self.inside.known) its ∙ ap (choice c.args.key.now (reads c.args.attempt.now (part c.self.inside.history.items))) c.self.invariant.knows)) c.select.ensures)
