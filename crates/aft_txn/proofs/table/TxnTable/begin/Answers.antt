use Rattle.std.proofs.Common.{◌+◌, ◌∙◌, ◌++◌, [], ◌∷◌, List, ap, sym}
use Rattle.std.proofs.lemmas.List.{map-append}
use Rattle.aft_model.specs.Attempts.{Row}
use Rattle.aft_txn.specs.Fields.{as_row, as_rows}
use Rattle.aft_txn.specs.Rows.{Table, opened, row_of_uuid}
use Rattle.aft_txn.proofs.Tables.{absent, begun_with, kept-numbers, unused-number}
use Rattle.aft_txn.proofs.table.TxnTable.begin.Goals as goal

pub add-requires-clause-new : goal.add-requires-clause-new
add-requires-clause-new c = absent c.self.inside.begun c.self.inside.attempts.entries c.self.invariant.legal.begun

pub add-requires-clause-unused : goal.add-requires-clause-unused
add-requires-clause-unused c =
    let t = c.self.inside in
    unused-number c.self.invariant c.new-txn.result.uuid (ap (λ u. row_of_uuid u (as_rows t.attempts.entries)) (ap (λ (r : Row). r.uuid) (c.new-txn.ensures.row t.begun)) ∙ ap (λ (s : Table). row_of_uuid c.args.uuid s.rows) c.self.view_is ∙ c.requires.new)

pub invariant_of-self : goal.invariant_of-self
invariant_of-self c = rw c.in_err-add.ensures.same_attempts (kept-numbers c.self.invariant c.add.new.numbers.entries c.in_err-add.ensures.same_numbers)

pub invariant_of-self-2 : goal.invariant_of-self-2
invariant_of-self-2 c =
    let t = c.self.inside in
    rw c.in_ok-add.ensures.attempts
    (begun_with c.self.invariant c.new-txn.result c.add.new.numbers.entries c.args.uuid (ap (λ (s : Table). row_of_uuid c.args.uuid s.rows) c.self.view_is ∙ c.requires.new) (c.new-txn.ensures.row (t.begun + 1)) c.in_ok-add.ensures.numbers c.new-txn.ensures.reads)

pub returns-clause-ok : goal.returns-clause-ok
returns-clause-ok c =
    let t = c.self.inside in
    let table : List Row → Table = λ rows. record { begun = t.begun + 1; rows = rows } in
    rw (c.in_ok-add.ensures.attempts, ← c.self.view_is)
    (ap table (map-append (λ e. as_row e.0 e.1) t.attempts.entries ((t.begun + 1, c.new-txn.result) ∷ []) ∙ ap (λ row. as_rows t.attempts.entries ++ row ∷ []) (c.new-txn.ensures.row (t.begun + 1))))

pub returns-clause-legal : goal.returns-clause-legal
returns-clause-legal c = (invariant_of-self-2 c).legal
