-- What the rule on orphan versions deletes is an orphan.
use Rattle.std.proofs.Common.{◌≡◌, ℕ, Bool, true, false, ◌&&◌, ◌||◌, not, List, [], ◌∷◌, ◌++◌, refl, sym, ap, subst, ◌∙◌, append_assoc}
use Rattle.std.specs.Prelude.{IsFalse, IsTrue, Option, Some, if◌then◌else◌}
use Rattle.std.proofs.lemmas.Bool.{and_from, and_parts, false_from_ne_true, false≢true, not-true, or_left, or_right, true≢false}
use Rattle.aft_id.specs.declared.txn_id.TxnId.{TxnId}
use Rattle.aft_id.specs.TxnId.{IsUuid, same_id}
use Rattle.aft_keeper.specs.declared.keeper.KeeperAnswer.{KeeperAnswer}
use Rattle.aft_keeper.specs.declared.keeper.KeeperCall.TheVariants.{Delete}
use Rattle.aft_records.specs.declared.name.Name.{Name}
use Rattle.aft_records.specs.declared.name.Name.TheVariants.{VersionOf}
use Rattle.aft_records.specs.declared.stored.Commit.{Commit}
use Rattle.aft_records.specs.Commits.{has_id}
use Rattle.aft_records.specs.NameReading.{name_of}
use Rattle.aft_model.specs.declared.door.DoorAct.{DoorAct}
use Rattle.aft_model.specs.declared.door.DoorAct.TheVariants.{Call}
use Rattle.aft_model.specs.declared.door.DoorEntry.{DoorEntry}
use Rattle.aft_model.specs.Claims.{claim_place, claimant, holds}
use Rattle.aft_model.specs.Committed.{committed}
use Rattle.aft_model.specs.DoorKnowledge.{is_open}
use Rattle.aft_model.specs.DoorRules.{is_looked_at, may_delete_orphan}
use Rattle.aft_model.specs.LegalDoor.{is_answered, may_come, may_follow}
use Rattle.aft_model.specs.Membership.{Incarnation, incarnation, same_incarnation, the_office, ups}
use Rattle.aft_model.specs.Opening.{has_failed, may_open, may_read, opening}
use Rattle.aft_model.specs.Orphans.{DeletesOrphans, deletes_orphan_in, deletes_rightly, is_held_at_node, is_orphan}
use Rattle.aft_model.specs.ScanRun.{same_line}
use Rattle.aft_model.proofs.Histories.{any_found, each_after_snoc}
use Rattle.aft_model.proofs.Ids.{same_ids}
use Rattle.aft_model.proofs.OneCommit.{held_same, same_itself}
use Rattle.aft_model.proofs.Turns.{held_up}
use Rattle.law_kept.specs.Kept.{Lawful}
use Rattle.law_kept.proofs.Always.{lawful_begins}
use Rattle.law_kept.proofs.Gives.{orphan_of_none}
use Rattle.law_names.proofs.Differ.{spelled}
use Rattle.law_whole.proofs.Lists.{each_from}
use Rattle.law_whole.proofs.Throughout.{kept_open}

module _ (history : List DoorEntry) (entry : DoorEntry) (lawful : Lawful (history ++ entry ∷ [])) where
  -- a delete comes at the open door
  opened : (node inc : ℕ) (name : List ℕ) (answer : KeeperAnswer) → entry.act ≡ Call node inc (Delete name) answer → IsTrue (is_open history)
  opened node inc name answer is = by_test (is_open history) refl (and_parts (is_answered entry.act) (if is_open history then may_come history entry.act else may_open history entry) (each_after_snoc may_follow [] history entry lawful.legal).1).1
    where
      by_test : (t : Bool) → is_open history ≡ t → IsTrue (if t then may_come history entry.act else may_open history entry) → IsTrue (is_open history)
      by_test true e rule = e
      by_test false e rule =
          let reads = subst (λ (a : DoorAct). IsTrue (may_read history a)) is (and_parts (same_line opening entry.by) (may_read history entry.act) rule).1 in
          absurd (false≢true (and_parts (same_incarnation the_office (incarnation node inc) && not (has_failed history)) false reads).1)

  module _ (open_now : IsTrue (is_open history)) (key : List ℕ) (id : TxnId) (its : IsUuid id.uuid) (may : IsTrue (may_delete_orphan history id)) where
    held : IsTrue (holds the_office id.uuid history)
    held = (and_parts (holds the_office id.uuid history) (is_looked_at id history (claim_place id.uuid history)) may).0

    of_none : IsFalse (has_id id (committed history))
    of_none = false_from_ne_true (has_id id (committed history)) (λ has.
        let found = any_found (λ (c : Commit). same_id id c.id) (committed history) has in
        orphan_of_none id history (kept_open id.uuid its history open_now (lawful_begins history (entry ∷ []) lawful)) may (found.0, found.1, sym (same_ids id found.0.id found.2)))

    held_by_none : IsFalse (is_held_at_node id.uuid history)
    held_by_none = false_from_ne_true (is_held_at_node id.uuid history) (λ has.
        let found = any_found (λ (who : Incarnation). not (same_incarnation the_office who) && holds who id.uuid history) (ups history) has in
        let parts = and_parts (not (same_incarnation the_office found.0)) (holds found.0 id.uuid history) found.2 in
        let same : found.0 ≡ the_office = held_same found.0 the_office (claimant id.uuid history) (held_up found.0 history (claimant id.uuid history) parts.1).0 (held_up the_office history (claimant id.uuid history) held).0 in
        true≢false (sym (subst (λ (w : Incarnation). IsTrue (same_incarnation the_office w)) (sym same) (same_itself the_office)) ∙ not-true (same_incarnation the_office found.0) parts.0))

    orphan : IsTrue (is_orphan key id history)
    orphan = and_from (not (has_id id (committed history))) (not (is_held_at_node id.uuid history)) (ap not of_none) (ap not held_by_none)

  deleted : (node inc : ℕ) (name : List ℕ) (answer : KeeperAnswer) → entry.act ≡ Call node inc (Delete name) answer → (read : Option Name) → name_of name ≡ read → IsTrue (deletes_orphan_in history read)
  deleted node inc name answer is (Some (VersionOf key id)) e = by_rule (may_delete_orphan history id) refl
    where
      by_rule : (t : Bool) → may_delete_orphan history id ≡ t → IsTrue (not (may_delete_orphan history id) || is_orphan key id history)
      by_rule true may = or_right (not (may_delete_orphan history id)) (is_orphan key id history) (orphan (opened node inc name answer is) key id (spelled name (VersionOf key id) e).0.0.1.uuid may)
      by_rule false may = or_left (not (may_delete_orphan history id)) (is_orphan key id history) (ap not may)
  deleted node inc name answer is read e = refl

  rightly : (act : DoorAct) → entry.act ≡ act → IsTrue (deletes_rightly history act)
  rightly (Call node inc (Delete name) answer) is = deleted node inc name answer is (name_of name) refl
  rightly act is = refl

pub all_orphans : (history : List DoorEntry) → Lawful history → DeletesOrphans history
all_orphans history lawful = each_from (λ before entry. deletes_rightly before entry.act) [] history (λ front entry back is.
    rightly front entry (lawful_begins (front ++ entry ∷ []) back (subst Lawful (is ∙ sym (append_assoc front (entry ∷ []) back)) lawful)) entry.act refl)
