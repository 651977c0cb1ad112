use Rattle.std.proofs.Common.{◌≡◌, ℕ, List, sym, ap, ◌∙◌, Some, None}
use Rattle.aft_id.specs.declared.txn_id.TxnId.{TxnId}
use Rattle.aft_id.proofs.IdTexts.{cut_id}
use Rattle.aft_id.proofs.txn_id.read_id.Goals as goal

pub returns-in_err-time-clause-reads : goal.returns-in_err-time-clause-reads
returns-in_err-time-clause-reads c id is fits text =
    absurd (rw c.in_err-time.was at (cut_id id c.args.text.now c.split_once.result fits text c.split_once.ensures.cases))

pub returns-in_err-time-2-clause-reads : goal.returns-in_err-time-2-clause-reads
returns-in_err-time-2-clause-reads c id is fits text =
    let parts = rw c.in_ok-time.was at (cut_id id c.args.text.now c.split_once.result fits text c.split_once.ensures.cases) in
    let read : None ≡ Some id.time = sym c.in_err-time-2.was ∙ c.read_time.ensures.reads id.time fits parts.0 in
    cc

pub returns-in_err-uuid-clause-reads : goal.returns-in_err-uuid-clause-reads
returns-in_err-uuid-clause-reads c id is fits text =
    let parts = rw c.in_ok-time.was at (cut_id id c.args.text.now c.split_once.result fits text c.split_once.ensures.cases) in
    let read : None ≡ Some id.uuid = sym c.in_err-uuid.was ∙ c.read_hyphenated.ensures.reads id.uuid is parts.1 in
    cc

pub returns-clause-reads : goal.returns-clause-reads
returns-clause-reads c id is fits text =
    let parts = rw c.in_ok-time.was at (cut_id id c.args.text.now c.split_once.result fits text c.split_once.ensures.cases) in
    let times : Some c.in_ok-time-2.time ≡ Some id.time = sym c.in_ok-time-2.was ∙ c.read_time.ensures.reads id.time fits parts.0 in
    let uuids : Some c.in_ok-uuid.uuid ≡ Some id.uuid = sym c.in_ok-uuid.was ∙ c.read_hyphenated.ensures.reads id.uuid is parts.1 in
    let time : c.in_ok-time-2.time ≡ id.time = cc in
    let uuid : c.in_ok-uuid.uuid ≡ id.uuid = cc in
    let make : ℕ → List ℕ → TxnId = λ t u. record { time = t; uuid = u } in
    ap Some (ap (λ t. make t c.in_ok-uuid.uuid) time ∙ ap (λ u. make id.time u) uuid)
