-- The commit of a version that a get picks to fetch: it was known, and committed in what the pick has seen.
use Rattle.std.proofs.Common.{◌≡◌, ℕ, ◌&&◌, List, [], ◌∷◌, ◌++◌, sym, subst, take}
use Rattle.std.specs.Prelude.{IsTrue, Option}
use Rattle.std.specs.Str.{bytes_eq}
use Rattle.std.proofs.lemmas.Bool.{and_parts, false≢true}
use Rattle.aft_id.specs.TxnId.{same_id}
use Rattle.aft_id.specs.declared.txn_id.TxnId.{TxnId}
use Rattle.aft_records.specs.Superseded.{wrote}
use Rattle.aft_records.specs.declared.stored.Commit.{Commit}
use Rattle.aft_model.specs.declared.caller.Attempt.{Attempt}
use Rattle.aft_model.specs.declared.choice.Picked.TheVariants as picked
use Rattle.aft_model.specs.declared.door.DoorEntry.{DoorEntry}
use Rattle.aft_model.specs.declared.node.NodeAct.{NodeAct}
use Rattle.aft_model.specs.declared.node.NodeAct.TheVariants.{Select}
use Rattle.aft_model.specs.declared.node.NodeEntry.{NodeEntry}
use Rattle.aft_model.specs.declared.reply.Reply.{Reply}
use Rattle.aft_model.specs.Attempts.{buffer, buffered, reads, same_attempt}
use Rattle.aft_model.specs.Cache.{cache}
use Rattle.aft_model.specs.Choice.{choice}
use Rattle.aft_model.specs.Committed.{committed}
use Rattle.aft_model.specs.Known.{known, known_in, known_of}
use Rattle.aft_model.specs.LegalNode.{may_be_done}
use Rattle.aft_model.specs.NodeRules.{pick}
use Rattle.aft_model.specs.NodeState.{IsServing, NodeState, Service, node_state, service_in}
use Rattle.aft_model.proofs.Histories.{In, any_found}
use Rattle.aft_model.proofs.Ids.{same_ids}
use Rattle.aft_model.proofs.Pins.{same_read}
use Rattle.aft_model.proofs.Sights.{same_bytes}
use Rattle.aft_lines.specs.Holding.{picks_fetch}
use Rattle.law_reads.proofs.Gets.{chosen_written}
use Rattle.law_boots.specs.Beside.{Beside}
use Rattle.law_boots.proofs.Known.{known_at}
use Rattle.law_boots.proofs.Nodes.{done}
use Rattle.law_boots.proofs.Picks.{picking}
use Rattle.law_boots.proofs.Told.{from_read, not_absent}

pub record PickedCommit (door : List DoorEntry) (history : List NodeEntry) (entry : NodeEntry) (key : List ℕ) (id : TxnId) : Type 0 where
  pub commit : Commit
  pub knows : In commit (known history)
  pub its_id : commit.id ≡ id
  pub wrote_it : In key commit.keys
  pub seen : In commit (committed (take entry.front door))

module _ (node capacity : ℕ) (door : List DoorEntry) (history : List NodeEntry) (entry : NodeEntry) (beside : Beside node capacity door (history ++ entry ∷ [])) where
  -- the known commit of what a choice chose
  known_commit : (s : Service) → node_state history ≡ IsServing s → (key : List ℕ) (id : TxnId) → (c : Commit) → In c (known_in s) → IsTrue (same_id id c.id && wrote key c) → PickedCommit door history entry key id
  known_commit s is key id c among of =
      let parts = and_parts (same_id id c.id) (wrote key c) of in
      let wrote_key = any_found (bytes_eq key) c.keys parts.1 in
      let knows : In c (known history) = subst (λ (state : NodeState). In c (known_of (service_in state))) (sym is) among in
      record {
        commit = c;
        knows = knows;
        its_id = sym (same_ids id c.id parts.0);
        wrote_it = subst (λ (k : List ℕ). In k c.keys) (sym (same_bytes key wrote_key.0 wrote_key.2)) wrote_key.1;
        seen = known_at node capacity door history entry beside c knows;
      }

  by_act : (a : Attempt) (key : List ℕ) (id : TxnId) (act : NodeAct) (answer : Option Reply) → IsTrue (picks_fetch a key id act) → IsTrue (may_be_done node capacity history act answer) → PickedCommit door history entry key id
  by_act a key id (Select b got (picked.Fetch i)) answer is may =
      let parts = and_parts (same_attempt a b && bytes_eq key got) (same_id id i) is in
      let its_key : got ≡ key = sym (same_bytes key got (and_parts (same_attempt a b) (bytes_eq key got) parts.0).1) in
      let its_id : i ≡ id = sym (same_ids id i parts.1) in
      let at = picking node capacity history b got (picked.Fetch i) answer may in
      let ch = choice got (reads b at.s.part) (known_in at.s) in
      let chosen = from_read (buffered got (buffer b at.s.part)) got (cache capacity at.s.part) ch i (same_read (pick capacity at.s b got) (picked.Fetch i) at.picks)
      (not_absent (pick capacity at.s b got) (picked.Fetch i) at.picks (λ no. let other : picked.Fetch i ≡ picked.Absent = no in cc)) in
      let by = any_found (λ (c : Commit). same_id i c.id && wrote got c) (known_in at.s) (chosen_written got (reads b at.s.part) (known_in at.s) i chosen) in
      subst (λ (k : List ℕ). PickedCommit door history entry k id) its_key (subst (λ (x : TxnId). PickedCommit door history entry got x) its_id (known_commit at.s at.is got i by.0 by.1 by.2))
  by_act a key id act answer is may = absurd (false≢true is)

  pub picked_commit : (a : Attempt) (key : List ℕ) (id : TxnId) → IsTrue (picks_fetch a key id entry.act) → PickedCommit door history entry key id
  picked_commit a key id picks = by_act a key id entry.act entry.answer picks (done node capacity door history entry beside)
