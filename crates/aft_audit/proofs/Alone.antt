-- Till the door is open the office reads alone, so behind the opening nobody is up and nothing was deleted.
use Rattle.std.proofs.Common.{Bool, true, false, not, ◌&&◌, ◌||◌, List, [], ◌∷◌, ◌++◌, refl, sym, ap, subst, ◌∙◌, append_assoc}
use Rattle.std.specs.Prelude.{IsFalse, IsTrue, if◌then◌else◌}
use Rattle.std.specs.List.{list_any}
use Rattle.std.proofs.lemmas.Bool.{and_parts, false≢true, or_parts}
use Rattle.std.proofs.lemmas.List.Folds.{list_any-append}
use Rattle.aft_keeper.specs.declared.keeper.KeeperCall.TheVariants.{Get, Scan}
use Rattle.aft_model.specs.declared.door.DoorAct.{DoorAct}
use Rattle.aft_model.specs.declared.door.DoorAct.TheVariants.{Call, Opened}
use Rattle.aft_model.specs.declared.door.DoorEntry.{DoorEntry}
use Rattle.aft_model.specs.DoorKnowledge.{is_delete, is_open, is_untouched, is_up_act, opens}
use Rattle.aft_model.specs.History.{each_after}
use Rattle.aft_model.specs.LegalDoor.{Legal, may_come, may_follow}
use Rattle.aft_model.specs.Opening.{may_open, may_read, opening}
use Rattle.aft_door.specs.Entries.{door_opened}
use Rattle.aft_door.proofs.Snocs.{any_act}

abbrev touches : DoorAct → Bool
touches act = is_up_act act || is_delete act

read_only : (history : List DoorEntry) (act : DoorAct) → IsTrue (may_read history act) → IsFalse (touches act)
read_only history (Call node inc (Get name) answer) may = refl
read_only history (Call node inc (Scan prefix after limit) answer) may = refl
read_only history (Call node inc asked answer) may = absurd (false≢true (and_parts _ _ may).1)
read_only history Opened may = refl
read_only history act may = absurd (false≢true may)

reads_only : (before entries : List DoorEntry) → IsTrue (each_after may_follow before entries) → IsFalse (is_open (before ++ entries)) → IsFalse (list_any (λ e. touches e.act) entries)
reads_only before [] legal shut = refl
reads_only before (entry ∷ entries) legal shut =
    let parts = and_parts (may_follow before entry) (each_after may_follow (before ++ entry ∷ []) entries) legal in
    let split = or_parts (is_open before) (is_open (entry ∷ entries)) (sym (list_any-append (λ (x : DoorEntry). opens x.act) before (entry ∷ entries)) ∙ shut) in
    let rule = subst (λ t. IsTrue (if t then may_come before entry.act else may_open before entry)) split.0 (and_parts _ _ parts.0).1 in
    ap (λ (t : Bool). t || list_any (λ (e : DoorEntry). touches e.act) entries) (read_only before entry.act (and_parts _ _ rule).1)
    ∙ reads_only (before ++ entry ∷ []) entries parts.1 (ap is_open (append_assoc before (entry ∷ []) entries) ∙ shut)

-- the opened door is as upgrades want it
pub opened_untouched : (history : List DoorEntry) → Legal history → IsFalse (is_open history) → IsTrue (is_untouched (history ++ door_opened opening ∷ []))
opened_untouched history legal shut =
    ap (λ (a : Bool). a && not (list_any (λ (e : DoorEntry). touches e.act) (history ++ door_opened opening ∷ []))) (any_act opens history (door_opened opening) ∙ ap (λ (a : Bool). a || true) shut)
    ∙ ap not (any_act touches history (door_opened opening) ∙ ap (λ (t : Bool). t || false) (reads_only [] history legal shut))
