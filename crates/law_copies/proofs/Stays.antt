-- A committed commit whose marker is surely absent stays so, and isn't forgotten, while no full marker of its UUID is put.
use Rattle.std.proofs.Common.{◌≡◌, ℕ, List, [], ◌∷◌, ◌++◌, refl, sym, ap, subst, ◌∙◌, inl, inr, append_assoc, append-nil}
use Rattle.std.specs.Prelude.{IsFalse, IsTrue, None}
use Rattle.std.specs.List.{flat_map}
use Rattle.std.proofs.lemmas.Bool.{false≢true, false_from_ne_true, true≢false}
use Rattle.std.proofs.lemmas.List.Concat.{flat_map-append}
use Rattle.aft_id.specs.TxnId.{IsUuid}
use Rattle.aft_keeper.specs.declared.keeper.KeeperCall.TheVariants.{Delete}
use Rattle.aft_records.specs.declared.stored.Commit.{Commit}
use Rattle.aft_records.specs.Commits.{has_uuid}
use Rattle.aft_model.specs.declared.door.DoorAct.{DoorAct}
use Rattle.aft_model.specs.declared.door.DoorAct.TheVariants.{Call}
use Rattle.aft_model.specs.declared.door.DoorEntry.{DoorEntry}
use Rattle.aft_model.specs.Claims.{forgotten, tries_delete}
use Rattle.aft_model.specs.Committed.{committed, committed_by, marked, marked_by, marks_in}
use Rattle.aft_model.specs.DoorKnowledge.{is_open, knows_marked, opens}
use Rattle.aft_model.specs.Evidence.{pairs_in, shows_absent, stored_in}
use Rattle.aft_model.specs.MayHold.{may_hold}
use Rattle.aft_model.specs.Readings.{marker_name, record_name}
use Rattle.aft_model.proofs.Growth.{any_grows}
use Rattle.aft_model.proofs.Histories.{In, any_found, any_from, in_flat_map_snoc, in_front}
use Rattle.law_kept.specs.Kept.{Comes, Kept, Lawful}
use Rattle.law_kept.specs.Outcomes.{OnlyAbsent, outcomes}
use Rattle.law_kept.proofs.Always.{kept_behind_each, lawful_begins}
use Rattle.law_kept.proofs.Fates.{only_one}
use Rattle.law_kept.proofs.Quiet.{forgotten_fate, may_be_absent, unmarked_where_absent}
use Rattle.law_kept.proofs.Steps.{absent_effect}
use Rattle.law_whole.proofs.Throughout.{kept_open}
use Rattle.law_whole.proofs.Unmarked.{Unretired, gone_next}
use Rattle.law_whole.proofs.Values.{comes_next}

-- a delete marks nothing
deletes_mark_none : (name : List ℕ) (entry : DoorEntry) (act : DoorAct) → entry.act ≡ act → IsTrue (tries_delete name act) → marked_by entry ≡ []
deletes_mark_none name entry (Call node inc (Delete deleted) answer) is tries = ap (λ (a : DoorAct). flat_map (λ pair. marks_in pair) (stored_in a ++ pairs_in a)) is
deletes_mark_none name entry act is tries = absurd (false≢true tries)

-- what is committed stays so
pub committed_more : (c : Commit) (history more : List DoorEntry) → In c (committed history) → In c (committed (history ++ more))
committed_more c history more among = subst (λ (cs : List Commit). In c cs) (sym (flat_map-append (λ (e : DoorEntry). committed_by e) history more)) (in_front c (committed history) (committed more) among)

module _ (c : Commit) (its : IsUuid c.id.uuid) where
  abbrev uuid : List ℕ
  uuid = c.id.uuid

  module _ (history : List DoorEntry) (entry : DoorEntry) (comes : Comes history entry) (kept : Kept uuid history) (among : In c (committed history)) (gone : OnlyAbsent (marker_name uuid) history) (un : IsFalse (forgotten uuid history)) where
    abbrev longer : List DoorEntry
    longer = history ++ entry ∷ []

    unmarked : IsTrue (knows_marked uuid history) → ⊥
    unmarked marks = unmarked_where_absent uuid history kept un (may_be_absent (marker_name uuid) history kept.markers_known.some gone) marks

    -- its marker would be deleted only behind the record, which is there
    unmarked_still : IsTrue (tries_delete (marker_name uuid) entry.act) → IsFalse (knows_marked uuid longer)
    unmarked_still tries = false_from_ne_true (knows_marked uuid longer) (λ marks.
        let found = any_found (has_uuid uuid) (marked longer) marks in
        elim (in_flat_map_snoc (λ (e : DoorEntry). marked_by e) found.0 history entry found.1) [
          | inl was ↦ unmarked (any_from (has_uuid uuid) found.0 (marked history) was found.2)
          | inr now ↦ subst (λ (cs : List Commit). In found.0 cs) (deletes_mark_none (marker_name uuid) entry entry.act refl tries) now
        ])

    unforgotten_next : IsFalse (forgotten uuid longer)
    unforgotten_next = false_from_ne_true (forgotten uuid longer) (λ forgets.
        elim (forgotten_fate uuid history entry forgets) [
          | inl was ↦ true≢false (sym was ∙ un)
          | inr now ↦ (let then : Kept uuid longer = kept_behind_each uuid its history entry comes kept in
              let some = then.records_known.some in
              then.there c (committed_more c history (entry ∷ []) among, refl) (unmarked_still now) (subst (λ o. In o (outcomes (may_hold (record_name uuid) longer))) (then.forgotten_gone forgets some.0 some.1) some.1))
        ])

  -- behind more entries
  pub stays : (history more : List DoorEntry) → IsTrue (is_open history) → Lawful (history ++ more) → In c (committed history) → OnlyAbsent (marker_name uuid) history → IsFalse (forgotten uuid history) → Unretired uuid its more
      → IsFalse (forgotten uuid (history ++ more)) × OnlyAbsent (marker_name uuid) (history ++ more)
  stays history [] opened whole among gone un unretired = subst (λ (h : List DoorEntry). IsFalse (forgotten uuid h) × OnlyAbsent (marker_name uuid) h) (sym (append-nil history)) (un, gone)
  stays history (entry ∷ more) opened whole among gone un unretired =
      let joined : history ++ entry ∷ more ≡ (history ++ entry ∷ []) ++ more = sym (append_assoc history (entry ∷ []) more) in
      let rest : Lawful ((history ++ entry ∷ []) ++ more) = subst Lawful joined whole in
      let comes : Comes history entry = comes_next history more entry opened rest in
      let kept : Kept uuid history = kept_open uuid its history opened (lawful_begins history (entry ∷ more) whole) in
      subst (λ (h : List DoorEntry). IsFalse (forgotten uuid h) × OnlyAbsent (marker_name uuid) h) (sym joined)
      (stays (history ++ entry ∷ []) more (any_grows (λ (e : DoorEntry). opens e.act) history (entry ∷ []) opened) rest (committed_more c history (entry ∷ []) among)
      (gone_next uuid its history entry comes kept gone un (λ e here d put of. unretired e (in_front e (entry ∷ []) more here) d put of))
      (unforgotten_next history entry comes kept among gone un) (λ e later d put of. unretired e (inr later) d put of))

  -- behind an entry that shows its marker absent it isn't marked
  pub absent_stays : (history : List DoorEntry) (entry : DoorEntry) (more : List DoorEntry) → IsTrue (is_open history) → Lawful (history ++ entry ∷ more) → In c (committed history) → IsTrue (shows_absent (marker_name uuid) entry)
      → IsFalse (forgotten uuid (history ++ entry ∷ [])) → Unretired uuid its more → IsFalse (forgotten uuid (history ++ entry ∷ more)) × IsFalse (knows_marked uuid (history ++ entry ∷ more))
  absent_stays history entry more opened whole among absent un unretired =
      let joined : history ++ entry ∷ more ≡ (history ++ entry ∷ []) ++ more = sym (append_assoc history (entry ∷ []) more) in
      let rest : Lawful ((history ++ entry ∷ []) ++ more) = subst Lawful joined whole in
      let still : IsTrue (is_open (history ++ entry ∷ [])) = any_grows (λ (e : DoorEntry). opens e.act) history (entry ∷ []) opened in
      let so = stays (history ++ entry ∷ []) more still rest (committed_more c history (entry ∷ []) among) (λ o may. only_one history entry (marker_name uuid) None (inl (absent_effect (marker_name uuid) entry.act absent)) o may) un unretired in
      let end : List DoorEntry = (history ++ entry ∷ []) ++ more in
      let kept : Kept uuid end = kept_open uuid its end (any_grows (λ (e : DoorEntry). opens e.act) (history ++ entry ∷ []) more still) rest in
      subst (λ (h : List DoorEntry). IsFalse (forgotten uuid h) × IsFalse (knows_marked uuid h)) (sym joined)
      (so.0, false_from_ne_true (knows_marked uuid end) (λ marks. unmarked_where_absent uuid end kept so.0 (may_be_absent (marker_name uuid) end kept.markers_known.some so.1) marks))
