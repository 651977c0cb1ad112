-- Each put, and each delete of a marker, is made in its stage.
use Rattle.std.proofs.Common.{◌≡◌, ℕ, Bool, true, false, ◌&&◌, ◌||◌, not, List, [], ◌∷◌, refl, sym, ap, subst, ◌∙◌, inl, inr, eqb}
use Rattle.std.specs.Prelude.{IsTrue, IsFalse, nat_eq}
use Rattle.std.specs.List.{starts_with}
use Rattle.std.specs.Str.{bytes_eq}
use Rattle.std.proofs.lemmas.Bool.{and_from, and_parts, eq-eqb, eqb-true, false≢true, false_from_ne_true, or_cases, or_left, or_right, true≢false}
use Rattle.aft_keeper.specs.declared.keeper.KeeperCall.{KeeperCall}
use Rattle.aft_keeper.specs.declared.keeper.KeeperCall.TheVariants as calls
use Rattle.aft_keeper.specs.declared.keeper.Pair.{Pair}
use Rattle.aft_id.specs.declared.txn_id.TxnId.{TxnId}
use Rattle.aft_id.specs.TxnId.{same_id}
use Rattle.aft_records.specs.declared.stored.Commit.{Commit}
use Rattle.aft_records.specs.declared.stored.Record.{Record}
use Rattle.aft_records.specs.declared.stored.Version.{Version}
use Rattle.aft_records.specs.Commits.{has_uuid, same_commit}
use Rattle.aft_records.specs.Reading.{commit_of, version_of}
use Rattle.aft_model.specs.Attempts.{Write}
use Rattle.aft_model.specs.declared.door.DoorAct.{DoorAct}
use Rattle.aft_model.specs.declared.door.DoorAct.TheVariants as doors
use Rattle.aft_model.specs.declared.door.DoorEntry.{DoorEntry}
use Rattle.aft_model.specs.declared.script.Command.{Command}
use Rattle.aft_model.specs.declared.script.Command.TheVariants as commands
use Rattle.aft_model.specs.Membership.{Incarnation, incarnation, same_incarnation, the_office}
use Rattle.aft_model.specs.Readings.{record_name, records_in, same_record, version_name, versions_in, written_in}
use Rattle.aft_model.specs.Sound.{markers_prefix, records_prefix}
use Rattle.aft_model.specs.Stages.{IsClear, Stage, has_versions, is_call_in_stage, is_clear, is_clear_to_record, is_clear_to_store, is_in_stage, is_upgraded_alone, stage}
use Rattle.aft_model.proofs.Formats.{written_is}
use Rattle.aft_model.proofs.Histories.{In, any_found}
use Rattle.aft_model.proofs.Ids.{same_commits, same_ids}
use Rattle.aft_model.proofs.Lists.{all_from, filter_in}
use Rattle.aft_model.proofs.OneCommit.{same_who}
use Rattle.aft_model.proofs.Sights.{bytes_eq-refl, read-name, read-one}
use Rattle.aft_lines.specs.BackupCourse.{copier}
use Rattle.aft_lines.specs.CommitCourse.{is_version_of, is_written_as}
use Rattle.aft_lines.specs.Makes.{all_versions, collects_by_office, copies_by_copier, is_under, makes_at_door, tidies_by_office}
use Rattle.aft_lines.specs.Progress.{IsStoring, Progress}
use Rattle.law_names.proofs.Differ.{first_differs}
use Rattle.law_holders.specs.Rows.{are_put_but, caller_at, is_next_put, is_of_attempt, is_of_node, is_own_act, is_own_call, is_row, uuid_at}
use Rattle.law_holders.proofs.Puts.{version_commits}

clear_any : (test : List (List ℕ) → Bool) (s : Stage) → IsTrue (is_clear test s) → IsTrue (is_clear (λ names. true) s)
clear_any test (IsClear names) so = refl
clear_any test s so = absurd (false≢true so)

all_clear : (c : Commit) (s : Stage) → IsTrue (is_clear (are_put_but [] c) s) → IsTrue (is_clear (has_versions c) s)
all_clear c (IsClear names) so = so
all_clear c s so = absurd (false≢true so)

-- ---- a put of a line's attempt

module _ (history : List DoorEntry) (who : Incarnation) (of : IsTrue (is_of_node who)) where
  at_node : IsTrue (not (eqb who.node 0))
  at_node = (and_parts (not (eqb who.node 0)) (not (eqb who.node copier)) of).0

  module _ (c : Commit) (write : Write) (pair : Pair) (is : IsTrue (is_version_of c write pair)) (clear : IsTrue (is_clear (λ names. true) (stage who c.id.uuid history))) where
    version_in_stage : IsTrue (is_call_in_stage history who (calls.Put pair.name pair.bytes))
    version_in_stage =
        and_from _ _ (all_from (is_clear_to_store history who) (versions_in pair) (λ v among. and_from _ _ at_node (subst (λ (id : TxnId). IsTrue (is_clear (λ names. true) (stage who id.uuid history))) (its_id v among) clear)))
        (all_from (λ d. is_clear_to_record history who d || is_upgraded_alone history who) (records_in pair) (λ d among. absurd (none d among)))
      where
        its_id : (v : Version) → In v (versions_in pair) → c.id ≡ v.id
        its_id v among =
            let found = any_found (λ (w : Version). bytes_eq write.key w.key && same_id c.id w.id && bytes_eq write.value w.value) (versions_in pair) is in
            let one : found.0 ≡ v = read-one pair.name (λ (w : Version). version_name w.key w.id) (version_of pair.bytes) found.0 v found.1 among in
            same_ids c.id found.0.id (and_parts (bytes_eq write.key found.0.key) (same_id c.id found.0.id) (and_parts (bytes_eq write.key found.0.key && same_id c.id found.0.id) (bytes_eq write.value found.0.value) found.2).0).1 ∙ ap (λ (w : Version). w.id) one

        none : (d : Commit) → In d (records_in pair) → ⊥
        none d among = subst (In d) (version_commits c write pair is d.id.uuid) (filter_in (has_uuid d.id.uuid) d (records_in pair) among (bytes_eq-refl d.id.uuid))

  module _ (r : Record) (pair : Pair) (is : IsTrue (is_written_as r pair)) (clear : IsTrue (is_clear (are_put_but [] r.commit) (stage who r.commit.id.uuid history))) where
    record_in_stage : IsTrue (is_call_in_stage history who (calls.Put pair.name pair.bytes))
    record_in_stage =
        and_from _ _ (all_from (is_clear_to_store history who) (versions_in pair) (λ v among. absurd (none v among)))
        (all_from (λ d. is_clear_to_record history who d || is_upgraded_alone history who) (records_in pair) (λ d among. or_left _ _ (subst (λ (e : Commit). IsTrue (is_clear_to_record history who e)) (its_commit d among) (and_from _ _ at_node (all_clear r.commit (stage who r.commit.id.uuid history) clear)))))
      where
        first : (a b d e : Bool) → IsTrue (a && b && d && e) → IsTrue a
        first true b d e so = refl
        first false b d e so = absurd (false≢true so)

        its_commit : (d : Commit) → In d (records_in pair) → r.commit ≡ d
        its_commit d among =
            let found = any_found (same_record r) (written_in pair) is in
            same_commits r.commit found.0.commit (first (same_commit r.commit found.0.commit) _ _ _ found.2)
            ∙ read-one pair.name (λ (e : Commit). record_name e.id.uuid) (commit_of pair.bytes) found.0.commit d (written_is pair found.0 found.1) among

        none : (v : Version) → In v (versions_in pair) → ⊥
        none v among =
            let found = any_found (same_record r) (written_in pair) is in
            let as_record = read-name pair.name (λ (e : Commit). record_name e.id.uuid) (commit_of pair.bytes) found.0.commit (written_is pair found.0 found.1) in
            let as_version = read-name pair.name (λ (w : Version). version_name w.key w.id) (version_of pair.bytes) v among in
            first_differs 99 118 _ _ refl (sym as_record ∙ as_version)

put_in_stage : (position : Progress) (history : List DoorEntry) (pair : Pair) → IsTrue (is_of_node (caller_at position)) → IsTrue (is_row position (stage (caller_at position) (uuid_at position) history)) → IsTrue (is_next_put position pair) → IsTrue (is_call_in_stage history (caller_at position) (calls.Put pair.name pair.bytes))
put_in_stage (IsStoring storing []) history pair of row so = record_in_stage history (caller_at (IsStoring storing [])) of storing.written pair so row
put_in_stage (IsStoring storing (write ∷ left)) history pair of row so =
    version_in_stage history (caller_at (IsStoring storing (write ∷ left))) of storing.written.commit write pair so
    (clear_any (are_put_but (write ∷ left) storing.written.commit) (stage (caller_at (IsStoring storing (write ∷ left))) storing.written.commit.id.uuid history) row)
put_in_stage position history pair of row so = absurd (false≢true so)

call_in_stage : (position : Progress) (history : List DoorEntry) (asked : KeeperCall) → IsTrue (is_of_node (caller_at position)) → IsTrue (is_row position (stage (caller_at position) (uuid_at position) history)) → IsTrue (is_own_call position asked) → IsTrue (is_call_in_stage history (caller_at position) asked)
call_in_stage position history (calls.Put name bytes) of row so = put_in_stage position history (record { name = name; bytes = bytes }) of row so
call_in_stage position history (calls.Delete name) of row so = or_right (not (starts_with nat_eq name markers_prefix)) _ (at_node history (caller_at position) of)
call_in_stage position history asked of row so = refl

pub own_in_stage : (position : Progress) (history : List DoorEntry) (act : DoorAct) → IsTrue (is_of_node (caller_at position)) → IsTrue (is_row position (stage (caller_at position) (uuid_at position) history)) → IsTrue (is_own_act position act) → IsTrue (is_in_stage history act)
own_in_stage position history (doors.Call node inc asked answer) of row own =
    let parts = and_parts (same_incarnation (caller_at position) (incarnation node inc)) (is_own_call position asked) own in
    subst (λ (who : Incarnation). IsTrue (is_call_in_stage history who asked)) (same_who (caller_at position) (incarnation node inc) parts.0) (call_in_stage position history asked of row parts.1)
own_in_stage position history act of row own = refl

-- ---- an act of another line

-- a name under one prefix is none under another
two_prefixes : (name : List ℕ) (x y : ℕ) (xs ys : List ℕ) → eqb x y ≡ false → IsTrue (starts_with nat_eq name (x ∷ xs)) → IsFalse (starts_with nat_eq name (y ∷ ys))
two_prefixes [] x y xs ys differs so = absurd (false≢true so)
two_prefixes (z ∷ name) x y xs ys differs so = false_from_ne_true _ (λ also.
    let a = eqb-true x z (and_parts (eqb x z) _ so).0 in
    let b = eqb-true y z (and_parts (eqb y z) _ also).0 in
    true≢false (sym (eq-eqb x y (a ∙ sym b)) ∙ differs))

marker_put : (history : List DoorEntry) (who : Incarnation) (name bytes : List ℕ) → IsTrue (is_under markers_prefix name) → IsTrue (is_call_in_stage history who (calls.Put name bytes))
marker_put history who name bytes under =
    and_from _ _ (all_from (is_clear_to_store history who) (versions_in (record { name = name; bytes = bytes })) (λ v among. absurd (no_version v among)))
    (all_from (λ d. is_clear_to_record history who d || is_upgraded_alone history who) (records_in (record { name = name; bytes = bytes })) (λ d among. absurd (no_record d among)))
  where
    no_version : (v : Version) → In v (versions_in (record { name = name; bytes = bytes })) → ⊥
    no_version v among = false≢true (subst (λ (n : List ℕ). IsTrue (is_under markers_prefix n)) (read-name name (λ (w : Version). version_name w.key w.id) (version_of bytes) v among) under)

    no_record : (d : Commit) → In d (records_in (record { name = name; bytes = bytes })) → ⊥
    no_record d among = false≢true (subst (λ (n : List ℕ). IsTrue (is_under markers_prefix n)) (read-name name (λ (e : Commit). record_name e.id.uuid) (commit_of bytes) d among) under)

no_marker : (name : List ℕ) → IsTrue (is_under records_prefix name || is_under all_versions name) → IsTrue (not (starts_with nat_eq name markers_prefix))
no_marker name under = elim (or_cases (is_under records_prefix name) (is_under all_versions name) under) [
  | inl one ↦ ap not (two_prefixes name 99 114 (47 ∷ []) (47 ∷ []) refl one)
  | inr other ↦ ap not (two_prefixes name 118 114 (47 ∷ []) (47 ∷ []) refl other)
]

collect_in_stage : (history : List DoorEntry) (who : Incarnation) (asked : KeeperCall) → IsTrue (collects_by_office asked) → IsTrue (is_call_in_stage history who asked)
collect_in_stage history who (calls.Put name bytes) made = marker_put history who name bytes made
collect_in_stage history who (calls.Delete name) made = or_left _ _ (no_marker name made)
collect_in_stage history who asked made = refl

tidy_in_stage : (history : List DoorEntry) (who : Incarnation) (asked : KeeperCall) → IsTrue (tidies_by_office asked) → IsTrue (is_call_in_stage history who asked)
tidy_in_stage history who (calls.Put name bytes) made = absurd (false≢true made)
tidy_in_stage history who (calls.Delete name) made = or_left _ _ (no_marker name (or_right (is_under records_prefix name) _ made))
tidy_in_stage history who asked made = refl

copy_in_stage : (history : List DoorEntry) (who : Incarnation) (asked : KeeperCall) → IsTrue (copies_by_copier asked) → IsTrue (is_call_in_stage history who asked)
copy_in_stage history who (calls.Put name bytes) made = absurd (false≢true made)
copy_in_stage history who (calls.Delete name) made = absurd (false≢true made)
copy_in_stage history who asked made = refl

pub bystander_in_stage : (command : Command) (history : List DoorEntry) (act : DoorAct) → is_of_attempt command ≡ false → IsTrue (makes_at_door command act) → IsTrue (is_in_stage history act)
bystander_in_stage (commands.Begin u node) history act other made = absurd (true≢false other)
bystander_in_stage (commands.Forget u node) history act other made = absurd (true≢false other)
bystander_in_stage commands.Commit history act other made = absurd (true≢false other)
bystander_in_stage commands.Abort history act other made = absurd (true≢false other)
bystander_in_stage commands.Collect history (doors.Call node inc asked answer) other made = collect_in_stage history (incarnation node inc) asked (and_parts (same_incarnation the_office (incarnation node inc)) (collects_by_office asked) made).1
bystander_in_stage (commands.Orphans key) history (doors.Call node inc asked answer) other made = tidy_in_stage history (incarnation node inc) asked (and_parts (same_incarnation the_office (incarnation node inc)) (tidies_by_office asked) made).1
bystander_in_stage commands.Backup history (doors.Call node inc asked answer) other made = copy_in_stage history (incarnation node inc) asked (and_parts (eqb node copier) (copies_by_copier asked) made).1
bystander_in_stage command history (doors.Call node inc (calls.Put name bytes) answer) other made = absurd (false≢true made)
bystander_in_stage command history (doors.Call node inc (calls.Delete name) answer) other made = absurd (false≢true made)
bystander_in_stage command history act other made = refl
