-- The parts of the promise on gets that need no values, as tests of a trace.
use Rattle.std.specs.Prelude.{Bool, List, Option, false, true, ℕ}
use Rattle.std.specs.List.{list_all}
use Rattle.aft_id.specs.TxnId.{same_id}
use Rattle.aft_model.specs.declared.caller.Attempt.{Attempt}
use Rattle.aft_model.specs.declared.door.DoorEntry.{DoorEntry}
use Rattle.aft_model.specs.declared.node.NodeAct.{NodeAct}
use Rattle.aft_model.specs.declared.node.NodeAct.TheVariants.{Select, Value}
use Rattle.aft_model.specs.declared.node.NodeEntry.{NodeEntry}
use Rattle.aft_model.specs.declared.reply.Reply.{Reply}
use Rattle.aft_model.specs.declared.reply.Reply.TheVariants as replies
use Rattle.aft_model.specs.declared.trace.Trace.{Trace}
use Rattle.aft_model.specs.Attempts.{read_by}
use Rattle.aft_lines.specs.Headline.{each_entry, is_own_put, is_recorded_id, last_put, seen_at, told, told_by}

-- whether an act reads at ids of commits that were recorded before, or at that of absent keys
abbrev pub reads_recorded_ids_in : List DoorEntry → NodeAct → Bool
reads_recorded_ids_in seen (Select a key picked) = list_all (is_recorded_id seen) (read_by picked)
reads_recorded_ids_in seen act = true

-- whether each get does
abbrev pub reads_recorded_ids : Trace → Bool
reads_recorded_ids trace = each_entry (λ before entry. reads_recorded_ids_in (seen_at trace entry) entry.act) trace

-- whether a get answers the attempt's own last put of the key, if it has one
abbrev pub answers_own_in : List NodeEntry → NodeAct → Option Reply → Bool
answers_own_in before (Select a key picked) answer = is_own_put (last_put a key before) answer
answers_own_in before act answer = true

-- whether each get that follows an own put answers it
abbrev pub answers_own : Trace → Bool
answers_own trace = each_entry (λ before entry. answers_own_in before entry.act entry.answer) trace

-- whether two replies are of one version, or both that the key is absent
abbrev pub same_version : Reply → Reply → Bool
same_version (replies.Value id value) (replies.Value other value') = same_id id other
same_version replies.Absent replies.Absent = true
same_version a b = false

-- whether what an entry tells an attempt of a key is of the version that it was told before
abbrev pub repeats_version : Attempt → List ℕ → List NodeEntry → NodeEntry → Bool
repeats_version a key before entry = list_all (λ reply. list_all (same_version reply) (told a key before)) (told_by a key entry.act entry.answer)

-- whether an entry, if it is of a get, is
abbrev pub repeats_version_in : List NodeEntry → NodeEntry → NodeAct → Bool
repeats_version_in before entry (Select a key picked) = repeats_version a key before entry
repeats_version_in before entry (Value a key id place kept) = repeats_version a key before entry
repeats_version_in before entry act = true

-- whether gets of one key with no own put between are answered of one version
abbrev pub repeats_versions : Trace → Bool
repeats_versions trace = each_entry (λ before entry. repeats_version_in before entry entry.act) trace
