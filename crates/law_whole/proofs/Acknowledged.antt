-- An end that answers an id as committed has seen its record at the door: its line has stored it in this service, and had seen it then.
use Rattle.std.proofs.Common.{◌≡◌, ◌≤◌, ℕ, Bool, ◌&&◌, List, [], ◌∷◌, ◌++◌, refl, sym, ap, subst, ◌∙◌, ◌⊎◌, inl, inr, length, take, leb}
use Rattle.std.specs.Prelude.{IsTrue, Option, Some}
use Rattle.std.proofs.lemmas.Bool.{and_parts, and_from, false≢true, leb-true}
use Rattle.std.proofs.lemmas.List.Sums.{fold-append}
use Rattle.aft_id.specs.declared.txn_id.TxnId.{TxnId}
use Rattle.aft_id.specs.TxnId.{same_id}
use Rattle.aft_records.specs.declared.stored.Commit.{Commit}
use Rattle.aft_records.specs.Commits.{has_id, is_among, same_commit}
use Rattle.aft_model.specs.declared.caller.Attempt.{Attempt}
use Rattle.aft_model.specs.declared.door.DoorEntry.{DoorEntry}
use Rattle.aft_model.specs.declared.node.NodeAct.{NodeAct}
use Rattle.aft_model.specs.declared.node.NodeAct.TheVariants.{Boot, BootStopped, Booting, Down, End, Stored}
use Rattle.aft_model.specs.declared.node.NodeEntry.{NodeEntry}
use Rattle.aft_model.specs.declared.reply.Reply.{Reply}
use Rattle.aft_model.specs.Attempts.{same_attempt}
use Rattle.aft_model.specs.Committed.{committed, committed_by}
use Rattle.aft_model.specs.History.{each_after}
use Rattle.aft_model.specs.LegalNode.{front, may_be_done, may_follow_at}
use Rattle.aft_model.specs.NodeRules.{is_own_end, stores}
use Rattle.aft_model.specs.NodeSights.{has_seen, is_stored_by, may_come_at, own_entries}
use Rattle.aft_model.specs.NodeState.{IsBooting, IsDown, IsServing, NodeState, goes_on, node_state, part, part_in, service_in, state_after, stopped}
use Rattle.aft_model.specs.ScanRun.{same_line}
use Rattle.aft_model.specs.declared.reply.Reply.TheVariants as replies
use Rattle.aft_model.proofs.Growth.{given_grows}
use Rattle.aft_model.proofs.Histories.{In, any_found, any_from}
use Rattle.aft_model.proofs.Ids.{same_commits}
use Rattle.aft_model.proofs.Lists.{in_filter, in_snoc}
use Rattle.aft_model.proofs.Services.{node_state-snoc}
use Rattle.aft_lines.specs.Headline.{is_acknowledged_in}
use Rattle.law_kept.proofs.Gone.{flat_map_in}
use Rattle.law_kept.proofs.PutMarker.{same_commit_itself}
use Rattle.law_places.proofs.Seen.{grows}

front-snoc : (history : List NodeEntry) (entry : NodeEntry) → front (history ++ entry ∷ []) ≡ entry.front
front-snoc history entry = fold-append (λ (before : ℕ) (e : NodeEntry). e.front) 0 history (entry ∷ [])

abbrev part_of : NodeState → List NodeEntry
part_of state = part_in (service_in state)

-- what is in the part of a node behind an entry was so before it, or is the entry
went_on : (state : NodeState) (entry e : NodeEntry) → In e (part_of (goes_on state entry)) → In e (part_of state) ⊎ (e ≡ entry)
went_on IsDown entry e among = absurd among
went_on (IsBooting inc running) entry e among = absurd among
went_on (IsServing service) entry e among = in_snoc e service.part entry among

was_stopped : (state : NodeState) (entry e : NodeEntry) → In e (part_of (stopped state entry)) → In e (part_of state) ⊎ (e ≡ entry)
was_stopped IsDown entry e among = absurd among
was_stopped (IsBooting inc running) entry e among = absurd among
was_stopped (IsServing service) entry e among = in_snoc e service.part entry among

part_fate : (state : NodeState) (entry e : NodeEntry) (act : NodeAct) → In e (part_of (state_after state entry act)) → In e (part_of state) ⊎ (e ≡ entry)
part_fate state entry e (Booting inc) among = absurd among
part_fate state entry e (Boot inc commits) among = absurd among
part_fate state entry e (BootStopped inc) among = was_stopped state entry e among
part_fate state entry e (Down inc) among = absurd among
part_fate state entry e act among = went_on state entry e among

-- a commit that an own entry stored or showed is committed in what was seen
stored_committed : (c : Commit) (seen own : List DoorEntry) → ((e : DoorEntry) → In e own → In e seen) → IsTrue (is_stored_by c own) → In c (committed seen)
stored_committed c seen own within is =
    let entry = any_found (λ (e : DoorEntry). is_among c (committed_by e)) own is in
    let found = any_found (same_commit c) (committed_by entry.0) entry.2 in
    subst (λ (d : Commit). In d (committed seen)) (sym (same_commits c found.0 found.2)) (flat_map_in (λ (e : DoorEntry). committed_by e) found.0 entry.0 seen (within entry.0 entry.1) found.1)

module _ (node capacity : ℕ) (door : List DoorEntry) where
  abbrev rule : List NodeEntry → NodeEntry → Bool
  rule before entry = may_follow_at node capacity before entry && may_come_at node door before entry

  abbrev acknowledged : List NodeEntry → NodeEntry → Bool
  acknowledged before entry = is_acknowledged_in (take entry.front door) entry.act entry.answer

  -- what the part of a node stored, it has seen committed
  abbrev Seen : List NodeEntry → Type 0
  Seen history = (e : NodeEntry) → In e (part history) → (a : Attempt) (c : Commit) → e.act ≡ Stored a c → In c (committed (take (front history) door))

  seen_later : (c : Commit) (n m : ℕ) → n ≤ m → In c (committed (take n door)) → In c (committed (take m door))
  seen_later c n m le among =
      let more = grows n m door le in
      let found = any_from (same_commit c) c (committed (take n door)) among (same_commit_itself c) in
      let later : IsTrue (is_among c (committed (take n door ++ more.0))) = given_grows (λ (e : DoorEntry). committed_by e) (same_commit c) (take n door) more.0 found in
      let there = any_found (same_commit c) (committed (take m door)) (subst (λ (h : List DoorEntry). IsTrue (is_among c (committed h))) (sym more.1) later) in
      subst (λ (d : Commit). In d (committed (take m door))) (sym (same_commits c there.0 there.2)) there.1

  module _ (history : List NodeEntry) (entry : NodeEntry) (may : IsTrue (rule history entry)) (seen : Seen history) where
    abbrev longer : List NodeEntry
    longer = history ++ entry ∷ []

    legal : IsTrue (leb (front history) entry.front && may_be_done node capacity history entry.act entry.answer && is_own_end (part history) entry.by entry.act entry.answer)
    legal = (and_parts (may_follow_at node capacity history entry) (may_come_at node door history entry) may).0

    up : front history ≤ entry.front
    up = leb-true (front history) entry.front
        (and_parts (leb (front history) entry.front) (may_be_done node capacity history entry.act entry.answer) (and_parts (leb (front history) entry.front && may_be_done node capacity history entry.act entry.answer) (is_own_end (part history) entry.by entry.act entry.answer) legal).0).0

    own : IsTrue (is_own_end (part history) entry.by entry.act entry.answer)
    own = (and_parts (leb (front history) entry.front && may_be_done node capacity history entry.act entry.answer) (is_own_end (part history) entry.by entry.act entry.answer) legal).1

    looked : IsTrue (has_seen node (take entry.front door) entry.by history entry.act entry.answer)
    looked = (and_parts (leb entry.front (length door)) (has_seen node (take entry.front door) entry.by history entry.act entry.answer) (and_parts (may_follow_at node capacity history entry) (may_come_at node door history entry) may).1).1

    now : (a : Attempt) (c : Commit) → entry.act ≡ Stored a c → In c (committed (take entry.front door))
    now a c is =
        let own_ones : List DoorEntry = own_entries entry.by (take entry.front door) in
        stored_committed c (take entry.front door) own_ones
        (λ e among. (in_filter (λ (x : DoorEntry). same_line entry.by x.by) e (take entry.front door) among).0)
        (subst (λ act. IsTrue (has_seen node (take entry.front door) entry.by history act entry.answer)) is looked)

    pub seen_next : Seen longer
    seen_next e among a c is =
        subst (λ (n : ℕ). In c (committed (take n door))) (sym (front-snoc history entry))
        (elim (part_fate (node_state history) entry e entry.act (subst (λ (s : NodeState). In e (part_of s)) (node_state-snoc history entry) among)) [
          | inl before ↦ seen_later c (front history) entry.front up (seen e before a c is)
          | inr here ↦ now a c (sym (ap (λ (x : NodeEntry). x.act) here) ∙ is)
        ])

    stored_id : (a : Attempt) (id : TxnId) (act : NodeAct) → IsTrue (stores a id act) → (b : Attempt) × (c : Commit) × (act ≡ Stored b c) × IsTrue (same_id id c.id)
    stored_id a id (Stored b c) is = (b, c, refl, (and_parts (same_attempt a b) (same_id id c.id) is).1)
    stored_id a id act is = absurd (false≢true is)

    of_end : (a : Attempt) (id : TxnId) → IsTrue (is_own_end (part history) entry.by (End a) (Some (replies.Committed id))) → IsTrue (has_id id (committed (take entry.front door)))
    of_end a id is =
        let found = any_found (λ (e : NodeEntry). same_line entry.by e.by && stores a id e.act) (part history) is in
        let stored = stored_id a id found.0.act (and_parts (same_line entry.by found.0.by) (stores a id found.0.act) found.2).1 in
        any_from (λ (c : Commit). same_id id c.id) stored.1 (committed (take entry.front door)) (seen_later stored.1 (front history) entry.front up (seen found.0 found.1 stored.0 stored.1 stored.2)) stored.3

    pub acknowledged_now : IsTrue (acknowledged history entry)
    acknowledged_now = go entry.act entry.answer own
      where
        go : (act : NodeAct) (answer : Option Reply) → IsTrue (is_own_end (part history) entry.by act answer) → IsTrue (is_acknowledged_in (take entry.front door) act answer)
        go (End a) (Some (replies.Committed id)) is = of_end a id is
        go act answer is = refl

  pub acknowledged_from : (before history : List NodeEntry) → IsTrue (each_after rule before history) → Seen before → IsTrue (each_after acknowledged before history)
  acknowledged_from before [] may seen = refl
  acknowledged_from before (entry ∷ history) may seen =
      let parts = and_parts (rule before entry) (each_after rule (before ++ entry ∷ []) history) may in
      and_from _ _ (acknowledged_now before entry parts.0 seen) (acknowledged_from (before ++ entry ∷ []) history parts.1 (seen_next before entry parts.0 seen))

  pub seen_at_first : Seen []
  seen_at_first e among a c is = absurd among
