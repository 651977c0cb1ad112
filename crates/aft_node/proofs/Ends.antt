-- An end that answers an id as committed comes behind the storing of that commit in this service.
use Rattle.std.proofs.Common.{◌≡◌, ℕ, Bool, List, [], ◌∷◌, ap, refl, subst}
use Rattle.std.specs.Prelude.{IsTrue, Some, map, ◌&&◌}
use Rattle.std.proofs.lemmas.Bool.{and_parts, false≢true}
use Rattle.aft_id.specs.declared.txn_id.TxnId.{TxnId}
use Rattle.aft_model.specs.declared.caller.Attempt.{Attempt}
use Rattle.aft_model.specs.declared.caller.By.{By}
use Rattle.aft_model.specs.declared.node.NodeAct.{NodeAct}
use Rattle.aft_model.specs.declared.node.NodeAct.TheVariants as acts
use Rattle.aft_model.specs.declared.node.NodeEntry.{NodeEntry}
use Rattle.aft_model.specs.declared.reply.Reply.{Reply}
use Rattle.aft_model.specs.declared.reply.Reply.TheVariants as replies
use Rattle.aft_model.specs.LegalNode.{LegalNode}
use Rattle.aft_model.specs.NodeRules.{is_end, is_own_end, stores}
use Rattle.aft_model.specs.NodeState.{node_state, part, serves}
use Rattle.aft_model.specs.ScanRun.{same_line}
use Rattle.aft_model.proofs.Histories.{In, any_found, any_from}
use Rattle.aft_model.proofs.Lists.{filter_in, in_filter}
use Rattle.law_attempts.specs.Acts.{acts_on}
use Rattle.law_attempts.proofs.Newest.{acts_in_part}
use Rattle.aft_ledger.specs.Turns.{is_doing}
use Rattle.aft_txn.specs.Buffer.{as_write}
use Rattle.aft_txn.specs.declared.buffer.Write.{Write}
use Rattle.aft_model.specs.Attempts.{AttemptState, Write as Said, attempt_state, same_attempt}
use Rattle.aft_id.specs.TxnId.{same_id}

-- what stores a commit of an attempt acts on it
stores_acts : (a : Attempt) (id : TxnId) (act : NodeAct) → IsTrue (stores a id act) → IsTrue (acts_on a act)
stores_acts a id (acts.Stored b c) is = (and_parts (same_attempt a b) (same_id id c.id) is).0
stores_acts a id act is = absurd (false≢true is)

pub own_end : (number capacity : ℕ) (a : Attempt) (by : By) (reply : Reply) (history : List NodeEntry) → LegalNode number capacity history → IsTrue (serves a.inc (node_state history)) → IsTrue (is_own_end history by (acts.End a) (Some reply)) → IsTrue (is_own_end (part history) by (acts.End a) (Some reply))
own_end number capacity a by (replies.Committed id) history legal serving own =
    let found = any_found (λ entry. same_line by entry.by && stores a id entry.act) history own in
    let acts_so = stores_acts a id found.0.act (and_parts (same_line by found.0.by) (stores a id found.0.act) found.2).1 in
    let among = subst (λ (xs : List NodeEntry). In found.0 xs) (acts_in_part number capacity a.inc a history legal serving refl) (filter_in (λ (entry : NodeEntry). acts_on a entry.act) found.0 history found.1 acts_so) in
    any_from (λ entry. same_line by entry.by && stores a id entry.act) found.0 (part history) (in_filter (λ (entry : NodeEntry). acts_on a entry.act) found.0 (part history) among).0 found.2
own_end number capacity a by reply history legal serving own = own

-- where an attempt is doing something, the node serves its incarnation
pub served : (test : AttemptState → Bool) (a : Attempt) (history : List NodeEntry) → IsTrue (is_doing test a history) → IsTrue (serves a.inc (node_state history))
served test a history is = (and_parts (serves a.inc (node_state history)) (test (attempt_state a (part history))) is).0

-- so what an attempt ends with is its own
pub own_doing : (number capacity : ℕ) (a : Attempt) (by : By) (reply : Reply) (history : List NodeEntry) → LegalNode number capacity history → IsTrue (is_doing (λ state. is_end state (Some reply)) a history) → IsTrue (is_own_end history by (acts.End a) (Some reply)) → IsTrue (is_own_end (part history) by (acts.End a) (Some reply))
own_doing number capacity a by reply history legal is own = own_end number capacity a by reply history legal (served (λ state. is_end state (Some reply)) a history is) own

-- the values of writes, as the table has them and as a history says them
pub values_as : (writes : List Write) → map (λ (write : Write). write.value) writes ≡ map (λ (write : Said). write.value) (map as_write writes)
values_as [] = refl
values_as (write ∷ writes) = ap (λ (values : List (List ℕ)). write.value ∷ values) (values_as writes)
