use Rattle.std.proofs.Common.{List, vec_capacity}
use Rattle.aft_model.specs.declared.node.NodeEntry.{NodeEntry}
use Rattle.std.specs.Prelude.{IsTrue, nat_lt}
use Rattle.aft_model.specs.Attempts.{Row}
use Rattle.aft_ledger.specs.Turns.{is_fetching}
use Rattle.aft_ledger.proofs.Acts.{changed-same, row_passes}
use Rattle.aft_ledger.proofs.Gets.{fetching, lost}
use Rattle.aft_ledger.proofs.Fields.{answer_space, at_node, held, of_history}
use Rattle.aft_ledger.proofs.ledger.Ledger.add_lost.Goals as goal

pub end_read-requires : goal.end_read-requires
end_read-requires c =
    let f = fetching (held c.self.inside) c.self.invariant c.args.front c.args.by c.args.attempt (vec_capacity c.self.inside.history) (of_history c.self.inside c.args.self.now c.self.view_is (λ (h : List NodeEntry). IsTrue (is_fetching c.args.attempt h)) c.requires.fetching) in
    row_passes (held c.self.inside) c.self.invariant c.args.attempt (at_node c.self.inside c.args.self.now c.self.view_is c.args.attempt.node c.requires.node) f.0 f.1 (λ (row : Row). nat_lt 0 row.fetching) f.2

pub invariant_of-self : goal.invariant_of-self
invariant_of-self c =
    rw (c.add.ensures.entry, c.add.ensures.front, c.add.ensures.room, c.end_read.ensures, changed-same)
    (lost (held c.self.inside) c.self.invariant c.args.front c.args.by c.args.attempt (vec_capacity c.self.inside.history) c.args.key c.args.id c.args.reply (of_history c.self.inside c.args.self.now c.self.view_is (λ (h : List NodeEntry). IsTrue (is_fetching c.args.attempt h)) c.requires.fetching) c.requires.may (answer_space c.self.inside c.args.self.now c.self.view_is c.self.invariant c.requires.room))
