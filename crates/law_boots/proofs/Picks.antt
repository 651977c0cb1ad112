-- What a get picks at a service of a node, and that it reads at an id of a commit that was recorded before.
use Rattle.std.proofs.Common.{◌≡◌, ℕ, Bool, ◌&&◌, List, [], ◌∷◌, ◌++◌, refl, sym, subst, take}
use Rattle.std.specs.Prelude.{IsTrue, Option, Some, None}
use Rattle.std.specs.List.{list_all}
use Rattle.std.proofs.lemmas.Bool.{and_from, and_parts, false≢true, or_left, or_right}
use Rattle.aft_id.specs.TxnId.{same_id, zero_id}
use Rattle.aft_id.specs.declared.txn_id.TxnId.{TxnId}
use Rattle.aft_records.specs.Commits.{has_id}
use Rattle.aft_records.specs.Superseded.{wrote}
use Rattle.aft_records.specs.Kept.{Kept, kept_value}
use Rattle.aft_records.specs.declared.stored.Commit.{Commit}
use Rattle.aft_model.specs.declared.caller.Attempt.{Attempt}
use Rattle.aft_model.specs.declared.choice.Choice.{Choice}
use Rattle.aft_model.specs.declared.choice.Choice.TheVariants as choices
use Rattle.aft_model.specs.declared.choice.Picked.{Picked}
use Rattle.aft_model.specs.declared.door.DoorEntry.{DoorEntry}
use Rattle.aft_model.specs.declared.node.NodeAct.{NodeAct}
use Rattle.aft_model.specs.declared.node.NodeAct.TheVariants.{Select}
use Rattle.aft_model.specs.declared.node.NodeEntry.{NodeEntry}
use Rattle.aft_model.specs.declared.reply.Reply.{Reply}
use Rattle.aft_model.specs.Attempts.{attempt_state, buffer, buffered, is_running, read_by, reads}
use Rattle.aft_model.specs.Cache.{cache}
use Rattle.aft_model.specs.Choice.{choice}
use Rattle.aft_model.specs.Committed.{committed}
use Rattle.aft_model.specs.Known.{known_in, known_of}
use Rattle.aft_model.specs.LegalNode.{may_be_done, may_serve}
use Rattle.aft_model.specs.NodeRules.{answers_pick, kept_or_fetched, own_or, pick, picked_by, same_picked}
use Rattle.aft_model.specs.NodeState.{IsBooting, IsDown, IsServing, NodeState, Service, in_service, node_state, service_in}
use Rattle.aft_model.proofs.Histories.{In, any_found, any_from}
use Rattle.aft_model.proofs.Ids.{same_id-refl}
use Rattle.aft_model.proofs.Pins.{same_read}
use Rattle.aft_lines.specs.Headline.{is_recorded_id}
use Rattle.law_reads.proofs.Gets.{chosen_written}
use Rattle.law_boots.specs.Beside.{Beside}
use Rattle.law_boots.specs.Gets.{reads_recorded_ids_in}
use Rattle.law_boots.proofs.Known.{known_at}
use Rattle.law_boots.proofs.Nodes.{done}

-- what holds in the service that a node is in, holds of one that it serves
pub in_one : (test : Service → Bool) (state : NodeState) → IsTrue (in_service test (service_in state)) → (s : Service) × (state ≡ IsServing s) × IsTrue (test s)
in_one test IsDown may = absurd (false≢true may)
in_one test (IsBooting inc running) may = absurd (false≢true may)
in_one test (IsServing s) may = (s, refl, may)

-- a get picks in a service, for an attempt that runs
pub record Picking (capacity : ℕ) (history : List NodeEntry) (a : Attempt) (key : List ℕ) (p : Picked) (answer : Option Reply) : Type 0 where
  pub s : Service
  pub is : node_state history ≡ IsServing s
  pub runs : IsTrue (is_running (attempt_state a s.part))
  pub picks : IsTrue (same_picked (pick capacity s a key) p)
  pub answers : IsTrue (answers_pick p answer)

pub picking : (node capacity : ℕ) (history : List NodeEntry) (a : Attempt) (key : List ℕ) (p : Picked) (answer : Option Reply) → IsTrue (may_be_done node capacity history (Select a key p) answer) → Picking capacity history a key p answer
picking node capacity history a key p answer may =
    let at = in_one (may_serve node capacity (Select a key p) answer) (node_state history) may in
    let parts = and_parts (is_running (attempt_state a at.0.part) && same_picked (pick capacity at.0 a key) p) (answers_pick p answer) at.2 in
    let both = and_parts (is_running (attempt_state a at.0.part)) (same_picked (pick capacity at.0 a key) p) parts.0 in
    record { s = at.0; is = at.1; runs = both.0; picks = both.1; answers = parts.1 }

-- ---- ids that were recorded before

module _ (seen : List DoorEntry) where
  pick_recorded : (own : Option (List ℕ)) (key : List ℕ) (kept : List Kept) (ch : Choice) → ((id : TxnId) → ch ≡ choices.Version id → IsTrue (is_recorded_id seen id))
      → IsTrue (list_all (is_recorded_id seen) (read_by (own_or own (picked_by key kept ch))))
  pick_recorded (Some value) key kept ch each = refl
  pick_recorded None key kept (choices.Version id) each = by_kept (kept_value key id kept)
    where
      by_kept : (o : Option (List ℕ)) → IsTrue (list_all (is_recorded_id seen) (read_by (kept_or_fetched id o)))
      by_kept (Some value) = and_from _ _ (each id refl) refl
      by_kept None = and_from _ _ (each id refl) refl
  pick_recorded None key kept choices.Absent each = and_from _ _ (or_left (same_id zero_id zero_id) (has_id zero_id (committed seen)) (same_id-refl zero_id)) refl
  pick_recorded None key kept (choices.NoneFits blocked) each = refl

module _ (node capacity : ℕ) (door : List DoorEntry) (history : List NodeEntry) (entry : NodeEntry) (beside : Beside node capacity door (history ++ entry ∷ [])) where
  abbrev seen_then : List DoorEntry
  seen_then = take entry.front door

  version_recorded : (s : Service) → node_state history ≡ IsServing s → (key : List ℕ) (a : Attempt) (id : TxnId) → choice key (reads a s.part) (known_in s) ≡ choices.Version id → IsTrue (is_recorded_id seen_then id)
  version_recorded s is key a id chosen =
      let by = any_found (λ (c : Commit). same_id id c.id && wrote key c) (known_in s) (chosen_written key (reads a s.part) (known_in s) id chosen) in
      or_right (same_id zero_id id) (has_id id (committed seen_then))
      (any_from (λ (c : Commit). same_id id c.id) by.0 (committed seen_then)
      (known_at node capacity door history entry beside by.0 (subst (λ (state : NodeState). In by.0 (known_of (service_in state))) (sym is) by.1))
      (and_parts (same_id id by.0.id) (wrote key by.0) by.2).0)

  recorded_by : (act : NodeAct) (answer : Option Reply) → IsTrue (may_be_done node capacity history act answer) → IsTrue (reads_recorded_ids_in seen_then act)
  recorded_by (Select a key p) answer may =
      let at = picking node capacity history a key p answer may in
      subst (λ (ids : List TxnId). IsTrue (list_all (is_recorded_id seen_then) ids)) (same_read (pick capacity at.s a key) p at.picks)
      (pick_recorded seen_then (buffered key (buffer a at.s.part)) key (cache capacity at.s.part) (choice key (reads a at.s.part) (known_in at.s)) (λ id is. version_recorded at.s at.is key a id is))
  recorded_by act answer may = refl

  pub recorded : IsTrue (reads_recorded_ids_in seen_then entry.act)
  recorded = recorded_by entry.act entry.answer (done node capacity door history entry beside)
