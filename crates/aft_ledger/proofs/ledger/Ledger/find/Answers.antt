use Rattle.std.proofs.Common.{◌≡◌, List, ap, sym, ◌∙◌}
use Rattle.std.specs.Prelude.{None}
use Rattle.aft_model.specs.declared.node.NodeEntry.{NodeEntry}
use Rattle.aft_model.specs.Attempts.{rows}
use Rattle.aft_model.specs.NodeState.{part}
use Rattle.aft_txn.specs.Rows.{Table, row_of_uuid}
use Rattle.aft_ledger.proofs.Asked.{free_is, shows, told_of}
use Rattle.aft_ledger.proofs.ledger.Ledger.find.Goals as goal

pub returns-clause-free : goal.returns-clause-free
returns-clause-free c = λ none. shows c.self.inside c.args.self.now c.self.view_is (λ (h : List NodeEntry). row_of_uuid c.args.uuid (rows (part h)) ≡ None) (free_is c.args.uuid (part c.self.inside.history.items) (sym (c.find.ensures.found ∙ ap (λ (t : Table). told_of c.args.uuid t.rows) c.self.invariant.tabled) ∙ none))

pub returns-clause-found : goal.returns-clause-found
returns-clause-found c = shows c.self.inside c.args.self.now c.self.view_is (λ (h : List NodeEntry). c.find.result ≡ told_of c.args.uuid (rows (part h))) (c.find.ensures.found ∙ ap (λ (t : Table). told_of c.args.uuid t.rows) c.self.invariant.tabled)
