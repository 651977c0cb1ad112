use Rattle.std.proofs.Common.{not, ap, ◌∙◌}
use Rattle.std.specs.Prelude.{filter}
use Rattle.std.proofs.lemmas.Result.{IfOk-weaker}
use Rattle.aft_id.specs.declared.txn_id.TxnId.{TxnId}
use Rattle.aft_records.specs.Commits.{ids_of}
use Rattle.aft_meta.specs.KnownCommits.{supersedes_id}
use Rattle.aft_txn.specs.Rows.{is_pinned_in}
use Rattle.aft_ledger.proofs.Dropped.{filter-twice}
use Rattle.aft_ledger.proofs.ledger.known.droppable.Goals as goal

pub returns : goal.returns
returns c =
    let supersedes = λ (id : TxnId). supersedes_id id c.args.known.now in
    let free = λ (id : TxnId). not (is_pinned_in id c.args.table.now.rows) in
    IfOk-weaker c.loose.result _ _ (λ dropped is. is ∙ ap (filter free) (c.as_slice.ensures ∙ c.in_ok-ids.ensures.ids) ∙ filter-twice supersedes free (ids_of c.args.known.now)) c.loose.ensures
