use Rattle.std.proofs.Common.{◌≡◌, List, vec_capacity}
use Rattle.aft_model.specs.declared.node.NodeEntry.{NodeEntry}
use Rattle.std.proofs.Common.{◌+◌, ◌<◌, ◌^◌, ap, arith, length}
use Rattle.std.specs.Prelude.{IsTrue, None}
use Rattle.aft_model.specs.declared.caller.Attempt.{Attempt}
use Rattle.aft_model.specs.NodeState.{node_state, part, serves}
use Rattle.aft_ledger.proofs.Acts.{opens}
use Rattle.aft_model.specs.Attempts.{rows}
use Rattle.aft_txn.specs.Rows.{Table, row_of_uuid}
use Rattle.aft_ledger.proofs.Short.{few_of}
use Rattle.aft_ledger.proofs.Fields.{entry_space, held, of_history}
use Rattle.aft_ledger.proofs.ledger.Ledger.add_admit.Goals as goal

pub begin-requires-clause-left : goal.begin-requires-clause-left
begin-requires-clause-left c =
    let short = of_history c.self.inside c.args.self.now c.self.view_is (λ (h : List NodeEntry). length h < 2 ^ 63) c.requires.short in
    let most = few_of c.self.inside.history.items in
    let begun = ap (λ (t : Table). t.begun) c.self.invariant.tabled in
    omega (arith, short, most, begun)

pub invariant_of-self-2 : goal.invariant_of-self-2
invariant_of-self-2 c =
    let b : Attempt = record { node = c.self.inside.number; inc = c.args.inc; number = c.self.inside.table.begun + 1 } in
    let begun = ap (λ (t : Table). t.begun) c.self.invariant.tabled in
    rw (c.add.ensures.entry, c.add.ensures.front, c.add.ensures.room, c.in_ok-number.ensures.ok, c.in_ok-number.ensures.number)
    (opens (held c.self.inside) c.self.invariant c.args.front c.args.by c.args.inc c.args.uuid b (vec_capacity c.self.inside.history) (of_history c.self.inside c.args.self.now c.self.view_is (λ (h : List NodeEntry). IsTrue (serves c.args.inc (node_state h))) c.requires.serves)
    (of_history c.self.inside c.args.self.now c.self.view_is (λ (h : List NodeEntry). row_of_uuid c.args.uuid (rows (part h)) ≡ None) c.requires.free)
    (ap (λ n. let a : Attempt = record { node = c.self.inside.number; inc = c.args.inc; number = n + 1 } in a) begun) (entry_space c.self.inside c.args.self.now c.self.view_is c.requires.room))
