-- An id commits once: what holds of each UUID after the whole of a history.
use Rattle.std.proofs.Common.{◌≡◌, ℕ, ◌||◌, not, eqb, Bool, List, [], ◌∷◌, ◌++◌, sym, ap, subst, ◌∙◌, ◌⊎◌, inl, inr, append_assoc, append-nil}
use Rattle.std.specs.Prelude.{IsTrue, IsFalse, Some}
use Rattle.std.specs.List.{list_any}
use Rattle.std.proofs.lemmas.Bool.{and_parts, or_cases, not-true, true≢false, false≢true, false_from_ne_true}
use Rattle.aft_keeper.specs.declared.keeper.KeeperAnswer.{KeeperAnswer}
use Rattle.aft_keeper.specs.declared.keeper.KeeperCall.TheVariants.{Put}
use Rattle.aft_keeper.specs.declared.keeper.Pair.{Pair}
use Rattle.aft_records.specs.declared.stored.Commit.{Commit}
use Rattle.aft_records.specs.declared.stored.Record.{Record}
use Rattle.aft_records.specs.Reading.{commit_of, version_of, marker_of}
use Rattle.aft_model.specs.declared.door.DoorAct.{DoorAct}
use Rattle.aft_model.specs.declared.door.DoorAct.TheVariants.{Call}
use Rattle.aft_model.specs.declared.door.DoorEntry.{DoorEntry}
use Rattle.aft_model.specs.Claims.{is_held_by, claimant, holder, holds}
use Rattle.aft_records.specs.Commits.{has_uuid, same_commit}
use Rattle.aft_model.specs.Committed.{Committed, committed}
use Rattle.aft_model.specs.Course.{none_is, is_due, puts_record, puts_when_due, KeepsCourse, DeletesNothing}
use Rattle.aft_model.specs.DoorKnowledge.{is_delete, is_untouched, shows_first_format}
use Rattle.aft_model.specs.DoorRules.{may_put_version, may_put_record, may_upgrade, may_put_marker, may_put}
use Rattle.aft_model.specs.Evidence.{shown}
use Rattle.aft_model.specs.History.{each_after}
use Rattle.aft_model.specs.Honest.{Honest, agrees}
use Rattle.aft_model.specs.LegalDoor.{Legal, may_come, may_follow}
use Rattle.aft_model.specs.MayHold.{may_hold}
use Rattle.aft_model.specs.Membership.{Incarnation, incarnation, same_incarnation, the_office, is_up}
use Rattle.aft_model.specs.Opening.{may_read}
use Rattle.aft_model.specs.Readings.{record_name, records_in, written_in, versions_in, markers_in}
use Rattle.aft_model.proofs.Formats.{written_is, shown_is_committed}
use Rattle.aft_model.proofs.Histories.{In, any_found, all_at, each_after_snoc}
use Rattle.aft_model.proofs.Honesty.{honest_about}
use Rattle.aft_model.proofs.Ids.{same_commits}
use Rattle.aft_model.proofs.OneCommit.{Once, once_at_first, once_after, same_who, PutsWhenClear}
use Rattle.aft_model.proofs.Sights.{same_bytes, read-name, read-one, no_version, no_marker, commits_at}
use Rattle.aft_model.proofs.Turns.{by_rule, held_up, Turn, turn_at_first, turn_after}

-- ---- the rule of puts

-- bytes under the name of a record
abbrev under : List ℕ → List ℕ → Pair
under uuid bytes = record { name = record_name uuid; bytes = bytes }

-- a put under that name is of a record of the second format that its rule allows
put_record : (history : List DoorEntry) (who : Incarnation) (uuid bytes : List ℕ) → IsTrue (may_put history who (under uuid bytes))
    → IsTrue (list_any (λ r. may_put_record history who r || may_upgrade history who r) (written_in (under uuid bytes)))
put_record history who uuid bytes legal =
    elim (or_cases (list_any (may_put_version history who) (versions_in (under uuid bytes)) || list_any (λ r. may_put_record history who r || may_upgrade history who r) (written_in (under uuid bytes))) (list_any (may_put_marker history who) (markers_in (under uuid bytes))) legal) [
      | inl first ↦ elim (or_cases (list_any (may_put_version history who) (versions_in (under uuid bytes))) (list_any (λ r. may_put_record history who r || may_upgrade history who r) (written_in (under uuid bytes))) first) [
        | inl version ↦ absurd (false≢true (subst (λ vs. IsTrue (list_any (may_put_version history who) vs)) (no_version uuid (version_of bytes)) version))
        | inr record_put ↦ record_put
      ]
      | inr marker ↦ absurd (false≢true (subst (λ ms. IsTrue (list_any (may_put_marker history who) ms)) (no_marker uuid (marker_of bytes)) marker))
    ]

-- who puts a record by a node's rule is a node, and holds its UUID
node_puts : (history : List DoorEntry) (who : Incarnation) (r : Record) → IsTrue (may_put_record history who r) → IsFalse (eqb who.node 0) × IsTrue (holds who r.commit.id.uuid history)
node_puts history who r legal =
    let stored = and_parts _ _ legal in
    let held = and_parts _ _ stored.0 in
    (not-true (eqb who.node 0) (and_parts _ _ held.0).0, held.1)

-- who upgrades a record is the office, and its commit was shown in the first format
office_puts : (history : List DoorEntry) (who : Incarnation) (r : Record) → IsTrue (may_upgrade history who r) → IsTrue (same_incarnation the_office who) × IsTrue (shows_first_format r.commit history)
office_puts history who r legal =
    let untouched = and_parts _ (is_untouched history) legal in
    let shown = and_parts _ (shows_first_format r.commit history) untouched.0 in
    ((and_parts _ _ shown.0).0, shown.1)

-- where the first of two tests fails, the second passes
second_of : (a b : Bool) → IsFalse a → IsTrue (a || b) → IsTrue b
second_of a b fails either = elim (or_cases a b either) [ inl first ↦ absurd (true≢false (sym first ∙ fails)) | inr second ↦ second ]

module _ (uuid : List ℕ) where
  record State (history : List DoorEntry) : Type 0 where
    once : Once uuid history
    turn : (who : Incarnation) → Turn who uuid history

  -- a put of a record of the UUID is by its holder, who found none and put none since
  puts_when_clear : (history : List DoorEntry) → State history → (act : DoorAct) → IsTrue (may_come history act) ⊎ IsTrue (may_read history act)
      → IsTrue (puts_when_due history act) → PutsWhenClear uuid history act
  puts_when_clear history before act rule due node inc bytes answer is d among of =
      elim (subst (λ a. IsTrue (may_come history a) ⊎ IsTrue (may_read history a)) is rule) [
        | inl come ↦ (let who : Incarnation = incarnation node inc in
            let calls = and_parts (is_up who history) (may_put history who (under uuid bytes)) come in
            let found = any_found (λ (r : Record). may_put_record history who r || may_upgrade history who r) (written_in (under uuid bytes)) (put_record history who uuid bytes calls.1) in
            let same : found.0.commit ≡ d = read-one (record_name uuid) (λ (e : Commit). record_name e.id.uuid) (commit_of bytes) found.0.commit d (written_is (under uuid bytes) found.0 found.1) among in
            elim (or_cases (may_put_record history who found.0) (may_upgrade history who found.0) found.2) [
              | inl puts ↦ (let rule = node_puts history who found.0 puts in
                  let holds_it = subst (λ (c : Commit). IsTrue (holds who c.id.uuid history)) same rule.1 in
                  let held = held_up who history (claimant uuid history) (subst (λ u. IsTrue (is_held_by who (holder u history))) of holds_it) in
                  let turns = all_at (λ (c : Commit). is_due who c.id.uuid history) d (commits_at uuid (Some bytes)) among
                  (second_of (eqb node 0) _ rule.0 (subst (λ a. IsTrue (puts_when_due history a)) is due)) in
                  let mine : IsTrue (is_due who uuid history) = subst (λ u. IsTrue (is_due who u history)) of turns in
                  inl ((before.turn who).clear mine held.1, held.0))
              | inr upgrades ↦ (let rule = office_puts history who found.0 upgrades in
                  inr (rule.0, subst (λ c. In c (committed history)) same (shown_is_committed found.0.commit history rule.1)))
            ])
        | inr read ↦ absurd (false≢true (and_parts _ _ read).1)
      ]

  state_after : (history : List DoorEntry) (entry : DoorEntry) → State history → IsTrue (may_follow history entry)
      → IsTrue (agrees (may_hold (record_name uuid) history) (shown (record_name uuid) entry)) → IsTrue (puts_when_due history entry.act) → IsTrue (not (is_delete entry.act))
      → State (history ++ entry ∷ [])
  state_after history entry before legal honest due kept =
      let rule = by_rule history entry legal in
      record {
        once = once_after uuid history entry before.once honest (puts_when_clear history before entry.act rule.1 due) rule.0 kept;
        turn = λ who. turn_after who uuid history (before.turn who) entry rule.1;
      }

  states : (before entries : List DoorEntry) → State before → IsTrue (each_after may_follow before entries)
      → IsTrue (each_after (λ history entry. agrees (may_hold (record_name uuid) history) (shown (record_name uuid) entry)) before entries)
      → IsTrue (each_after (λ history entry. puts_when_due history entry.act) before entries) → IsTrue (none_is is_delete entries)
      → State (before ++ entries)
  states before [] state legal honest due kept = subst State (sym (append-nil before)) state
  states before (entry ∷ entries) state legal honest due kept =
      let l = and_parts (may_follow before entry) _ legal in
      let h = and_parts (agrees (may_hold (record_name uuid) before) (shown (record_name uuid) entry)) _ honest in
      let d = and_parts (puts_when_due before entry.act) _ due in
      let k = and_parts (not (is_delete entry.act)) _ kept in
      subst State (append_assoc before (entry ∷ []) entries)
      (states (before ++ entry ∷ []) entries (state_after before entry state l.0 h.0 d.0 k.0) l.1 h.1 d.1 k.1)

  -- a put of a record of the UUID is under its name
  put_under : (who : Incarnation) (act : DoorAct) → IsTrue (puts_record who uuid act)
      → (node : ℕ) × (inc : ℕ) × (bytes : List ℕ) × (answer : KeeperAnswer) × (d : Commit) × (act ≡ Call node inc (Put (record_name uuid) bytes) answer)
      × In d (commits_at uuid (Some bytes)) × (d.id.uuid ≡ uuid) × (who ≡ incarnation node inc)
  put_under who (Call node inc (Put name bytes) answer) put =
      let found = any_found (has_uuid uuid) (records_in (record { name = name; bytes = bytes })) (and_parts _ _ put).1 in
      let of : found.0.id.uuid ≡ uuid = sym (same_bytes uuid found.0.id.uuid found.2) in
      let named : name ≡ record_name uuid = read-name name (λ (c : Commit). record_name c.id.uuid) (commit_of bytes) found.0 found.1 ∙ ap record_name of in (
        node,
        inc,
        bytes,
        answer,
        found.0,
        ap (λ n. Call node inc (Put n bytes) answer) named,
        subst (λ n. In found.0 (records_in (record { name = n; bytes = bytes }))) named found.1,
        of,
        same_who who (incarnation node inc) (and_parts _ _ put).0,
      )
  put_under who act put = absurd (false≢true put)

-- an id is committed with at most one commit
pub commits_once : (c d : Commit) (history : List DoorEntry) → Legal history → Honest history → KeepsCourse history → DeletesNothing history
    → Committed c history → Committed d history → c.id.uuid ≡ d.id.uuid → c ≡ d
commits_once c d history legal honest due kept of_c of_d same =
    let first : State c.id.uuid [] = record { once = once_at_first c.id.uuid; turn = λ who. turn_at_first who c.id.uuid } in
    let state = states c.id.uuid [] history first legal (honest_about (record_name c.id.uuid) history honest) due kept in
    let found_c = any_found (same_commit c) (committed history) of_c in
    let found_d = any_found (same_commit d) (committed history) of_d in
    let is_c : c ≡ found_c.0 = same_commits c found_c.0 found_c.2 in
    let is_d : d ≡ found_d.0 = same_commits d found_d.0 found_d.2 in
    is_c ∙ state.once.one found_c.0 found_d.0 found_c.1 found_d.1 (ap (λ (x : Commit). x.id.uuid) (sym is_c)) (ap (λ (x : Commit). x.id.uuid) (sym is_d) ∙ sym same) ∙ sym is_d

-- no node puts a record of a UUID once the UUID is committed
pub no_more_puts : (c : Commit) (who : Incarnation) (history : List DoorEntry) (entry : DoorEntry) → IsFalse (eqb who.node 0) → Legal (history ++ entry ∷ []) → Honest (history ++ entry ∷ [])
    → KeepsCourse (history ++ entry ∷ []) → DeletesNothing history → Committed c history → IsFalse (puts_record who c.id.uuid entry.act)
no_more_puts c who history entry at_node legal honest due kept of =
    false_from_ne_true (puts_record who c.id.uuid entry.act) (λ put.
    let uuid = c.id.uuid in
    let l = each_after_snoc may_follow [] history entry legal in
    let h = each_after_snoc (λ before e. agrees (may_hold (record_name uuid) before) (shown (record_name uuid) e)) [] history entry (honest_about (record_name uuid) (history ++ entry ∷ []) honest) in
    let d = each_after_snoc (λ before (e : DoorEntry). puts_when_due before e.act) [] history entry due in
    let first : State uuid [] = record { once = once_at_first uuid; turn = λ w. turn_at_first w uuid } in
    let state = states uuid [] history first l.0 h.0 d.0 kept in
    let it = put_under uuid who entry.act put in
    let turn = puts_when_clear uuid history state entry.act (by_rule history entry l.1).1 d.1 it.0 it.1 it.2 it.3 it.5 it.4 it.6 it.7 in
    let found = any_found (same_commit c) (committed history) of in
    let is : c ≡ found.0 = same_commits c found.0 found.2 in
    elim turn [
      | inl may ↦ (state.once.free (incarnation it.0 it.1) may.0 may.1).0 found.0 found.1 (ap (λ (x : Commit). x.id.uuid) (sym is))
      | inr again ↦ true≢false (sym (ap (λ (i : Incarnation). eqb i.node 0) (it.8 ∙ sym (same_who the_office (incarnation it.0 it.1) again.0))) ∙ at_node)
    ])
