-- What a node has given up is never known again while its incarnation serves.
use Rattle.std.proofs.Common.{◌≡◌, ℕ, ◌&&◌, List, [], ◌∷◌, ◌++◌, sym, ap, subst, ◌∙◌, take}
use Rattle.std.specs.Prelude.{IsTrue, IsFalse}
use Rattle.std.proofs.lemmas.Bool.{and_parts, false_from_ne_true}
use Rattle.aft_id.specs.TxnId.{same_id}
use Rattle.aft_id.specs.declared.txn_id.TxnId.{TxnId}
use Rattle.aft_records.specs.Commits.{has_id, same_commit}
use Rattle.aft_records.specs.Superseded.{is_superseded}
use Rattle.aft_records.specs.declared.stored.Commit.{Commit}
use Rattle.aft_model.specs.declared.door.DoorEntry.{DoorEntry}
use Rattle.aft_model.specs.declared.node.NodeAct.{NodeAct}
use Rattle.aft_model.specs.declared.node.NodeAct.TheVariants.{GiveUp}
use Rattle.aft_model.specs.declared.node.NodeEntry.{NodeEntry}
use Rattle.aft_model.specs.Committed.{committed}
use Rattle.aft_model.specs.Known.{known}
use Rattle.aft_model.specs.NodeSights.{has_seen}
use Rattle.aft_model.specs.NodeState.{node_state, serves}
use Rattle.aft_model.proofs.Histories.{any_found}
use Rattle.aft_model.proofs.Ids.{same_ids}
use Rattle.aft_model.proofs.Lists.{none_at}
use Rattle.law_kept.specs.Kept.{Lawful}
use Rattle.law_kept.proofs.PutMarker.{same_commit_itself}
use Rattle.law_reads.proofs.Boots.{given_up_for_good}
use Rattle.law_whole.proofs.Throughout.{one_each}
use Rattle.law_boots.specs.Beside.{Beside}
use Rattle.law_boots.proofs.Nodes.{begins, looked}
use Rattle.law_boots.proofs.Real.{in_whole, known_committed}

module _ (node capacity : ℕ) (door : List DoorEntry) (lawful : Lawful door) where
  pub never_again : (inc : ℕ) (id : TxnId) (history more : List NodeEntry) (entry : NodeEntry) → Beside node capacity door ((history ++ entry ∷ []) ++ more) → entry.act ≡ GiveUp id
      → IsTrue (serves inc (node_state history)) → IsTrue (serves inc (node_state ((history ++ entry ∷ []) ++ more))) → IsFalse (has_id id (known ((history ++ entry ∷ []) ++ more)))
  never_again inc id history more entry beside is serve still =
      let later : List NodeEntry = (history ++ entry ∷ []) ++ more in
      let first = begins node capacity door (history ++ entry ∷ []) more beside in
      let sight = subst (λ (act : NodeAct). IsTrue (has_seen node (take entry.front door) entry.by history act entry.answer)) is (looked node capacity door history entry first) in
      let c = any_found (λ (d : Commit). same_id id d.id && is_superseded d (known history)) (committed (take entry.front door)) sight in
      let parts = and_parts (same_id id c.0.id) (is_superseded c.0 (known history)) c.2 in
      let its_id : id ≡ c.0.id = same_ids id c.0.id parts.0 in
      let missed = given_up_for_good node capacity inc c.0 history more entry beside.legal serve still (is ∙ ap GiveUp its_id) parts.1 in
      false_from_ne_true (has_id id (known later)) (λ has.
      let d = any_found (λ (x : Commit). same_id id x.id) (known later) has in
      let same : c.0 ≡ d.0 = one_each door lawful c.0 d.0 (in_whole c.0 entry.front door c.1) (known_committed node capacity door later beside d.0 d.1) (ap (λ (i : TxnId). i.uuid) (sym its_id ∙ same_ids id d.0.id d.2)) in
      none_at (same_commit c.0) d.0 (known later) d.1 missed (subst (λ (x : Commit). IsTrue (same_commit c.0 x)) same (same_commit_itself c.0)))
