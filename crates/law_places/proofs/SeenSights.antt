-- What an act of a node had seen at the door stays seen when more of the history is, but for the pages that a boot was shown.
use Rattle.std.proofs.Common.{◌≡◌, ℕ, zero, suc, Bool, ◌&&◌, List, [], ◌∷◌, ◌++◌, refl, sym, subst}
use Rattle.std.specs.Prelude.{IsTrue, Option, Some, None}
use Rattle.std.specs.List.{list_any}
use Rattle.std.proofs.lemmas.Bool.{false≢true}
use Rattle.std.proofs.lemmas.List.Elements.{filter-append}
use Rattle.aft_id.specs.TxnId.{same_id}
use Rattle.aft_id.specs.declared.txn_id.TxnId.{TxnId}
use Rattle.aft_records.specs.Commits.{is_among}
use Rattle.aft_records.specs.Superseded.{is_superseded}
use Rattle.aft_records.specs.declared.stored.Commit.{Commit}
use Rattle.aft_model.specs.declared.caller.By.{By}
use Rattle.aft_model.specs.declared.door.DoorEntry.{DoorEntry}
use Rattle.aft_model.specs.declared.node.NodeAct.{NodeAct}
use Rattle.aft_model.specs.declared.node.NodeAct.TheVariants.{Begin, Boot, Down, End, GiveUp, Learn, Stored, Value}
use Rattle.aft_model.specs.declared.node.NodeEntry.{NodeEntry}
use Rattle.aft_model.specs.declared.reply.Reply.{Reply}
use Rattle.aft_model.specs.declared.reply.Reply.TheVariants as replies
use Rattle.aft_model.specs.Attempts.{AttemptState, IsCommitting, attempt_state, uuid_of}
use Rattle.aft_model.specs.Committed.{committed, committed_by}
use Rattle.aft_model.specs.DoorKnowledge.{knows_unused}
use Rattle.aft_model.specs.Evidence.{shows_absent}
use Rattle.aft_model.specs.History.{at_place}
use Rattle.aft_model.specs.Known.{known}
use Rattle.aft_model.specs.Membership.{Incarnation, fenced_in, incarnation, same_incarnation}
use Rattle.aft_model.specs.NodeSights.{has_seen, is_fetched, is_own_find, is_stored_by, may_abort, own_entries}
use Rattle.aft_model.specs.NodeState.{part}
use Rattle.aft_model.specs.Readings.{record_name}
use Rattle.aft_model.specs.ScanRun.{same_line}
use Rattle.aft_model.proofs.Growth.{all_implied, any_grows, committed_grows, given_grows, unused_grows}

-- an element at a place stays there
still_at : (place : ℕ) (xs ys : List DoorEntry) (x : DoorEntry) → at_place place xs ≡ Some x → at_place place (xs ++ ys) ≡ Some x
still_at zero [] ys x is = absurd (let no : None ≡ Some x = is in cc)
still_at (suc place) [] ys x is = absurd (let no : None ≡ Some x = is in cc)
still_at zero (y ∷ xs) ys x is = is
still_at (suc place) (y ∷ xs) ys x is = still_at place xs ys x is

module _ (seen more : List DoorEntry) (by : By) where
  -- what a line's own entries pass, they pass with more of them
  own_grows : (test : List DoorEntry → Bool) → ((xs ys : List DoorEntry) → IsTrue (test xs) → IsTrue (test (xs ++ ys))) → IsTrue (test (own_entries by seen)) → IsTrue (test (own_entries by (seen ++ more)))
  own_grows test grows passed = subst (λ (l : List DoorEntry). IsTrue (test l)) (sym (filter-append (λ (entry : DoorEntry). same_line by entry.by) seen more)) (grows (own_entries by seen) (own_entries by more) passed)

  found_grows : (who : Incarnation) (key : List ℕ) (id : TxnId) (value : List ℕ) (place : ℕ) → IsTrue (is_own_find who by key id value (at_place place seen)) → IsTrue (is_own_find who by key id value (at_place place (seen ++ more)))
  found_grows who key id value place found = cases (at_place place seen) refl found
    where
      cases : (o : Option DoorEntry) → at_place place seen ≡ o → IsTrue (is_own_find who by key id value o) → IsTrue (is_own_find who by key id value (at_place place (seen ++ more)))
      cases None is none = absurd (false≢true none)
      cases (Some entry) is passed = subst (λ (o : Option DoorEntry). IsTrue (is_own_find who by key id value o)) (sym (still_at place seen more entry is)) passed

  fetched_grows : (who : Incarnation) (key : List ℕ) (id : TxnId) (place : ℕ) (answer : Option Reply) → IsTrue (is_fetched who by key id place seen answer) → IsTrue (is_fetched who by key id place (seen ++ more) answer)
  fetched_grows who key id place (Some (replies.Value answered value)) found = found_grows who key id value place found
  fetched_grows who key id place answer none = absurd (false≢true none)

  abort_grows : (state : AttemptState) (answer : Option Reply) → IsTrue (may_abort (own_entries by seen) state answer) → IsTrue (may_abort (own_entries by (seen ++ more)) state answer)
  abort_grows (IsCommitting c) (Some replies.Aborted) absent = own_grows (list_any (shows_absent (record_name c.id.uuid))) (any_grows (shows_absent (record_name c.id.uuid))) absent
  abort_grows state answer may = refl

  pub sight_grows : (node : ℕ) (before : List NodeEntry) (act : NodeAct) (answer : Option Reply) → ((inc : ℕ) (commits : List Commit) → act ≡ Boot inc commits → ⊥)
      → IsTrue (has_seen node seen by before act answer) → IsTrue (has_seen node (seen ++ more) by before act answer)
  sight_grows node before (Boot inc commits) answer out saw = absurd (out inc commits refl)
  sight_grows node before (Down inc) answer out saw = given_grows (λ (entry : DoorEntry). fenced_in entry.act) (same_incarnation (incarnation node inc)) seen more saw
  sight_grows node before (Begin a) answer out saw = own_grows (knows_unused (incarnation node a.inc) (uuid_of a (part before))) (unused_grows (incarnation node a.inc) (uuid_of a (part before))) saw
  sight_grows node before (Value a key id place kept) answer out saw = fetched_grows (incarnation node a.inc) key id place answer saw
  sight_grows node before (Stored a c) answer out saw = own_grows (is_stored_by c) (any_grows (λ (entry : DoorEntry). is_among c (committed_by entry))) saw
  sight_grows node before (End a) answer out saw = abort_grows (attempt_state a (part before)) answer saw
  sight_grows node before (Learn commits) answer out saw = all_implied (λ c. is_among c (committed seen)) (λ c. is_among c (committed (seen ++ more))) (λ c. committed_grows c seen more) commits saw
  sight_grows node before (GiveUp id) answer out saw = given_grows committed_by (λ (c : Commit). same_id id c.id && is_superseded c (known before)) seen more saw
  sight_grows node before act answer out saw = refl
