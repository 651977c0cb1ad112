-- What a commit or an abort is shown by a get of its record: nothing but the commit that it stores.
use Rattle.std.proofs.Common.{◌≡◌, ℕ, Bool, List, [], ◌∷◌, ◌++◌, refl, sym, ap, subst, ◌∙◌, inl, inr, append_assoc}
use Rattle.std.specs.Prelude.{IsFalse, IsTrue, Some, if◌then◌else◌}
use Rattle.std.specs.Str.{bytes_eq}
use Rattle.std.proofs.lemmas.Bool.{and_parts, cases_Bool, false≢true, true≢false}
use Rattle.aft_keeper.specs.declared.keeper.KeeperAnswer.TheVariants.{Found}
use Rattle.aft_keeper.specs.declared.keeper.KeeperCall.TheVariants.{Get}
use Rattle.aft_records.specs.declared.stored.Commit.{Commit}
use Rattle.aft_model.specs.declared.caller.Attempt.{Attempt}
use Rattle.aft_model.specs.declared.door.DoorAct.TheVariants.{Call}
use Rattle.aft_model.specs.declared.door.DoorEntry.{DoorEntry}
use Rattle.aft_model.specs.declared.script.Line.{Line}
use Rattle.aft_model.specs.Bytes.{is_uuid}
use Rattle.aft_model.specs.Claims.{holds}
use Rattle.aft_model.specs.DoorKnowledge.{is_open}
use Rattle.aft_model.specs.DoorRules.{may_call}
use Rattle.aft_model.specs.Honest.{Honest}
use Rattle.aft_model.specs.LegalDoor.{is_answered, may_come, may_follow}
use Rattle.aft_model.specs.Membership.{Incarnation, incarnation, is_up, same_incarnation}
use Rattle.aft_model.specs.Opening.{may_open}
use Rattle.aft_model.specs.Readings.{record_name, records_in}
use Rattle.aft_model.specs.ScanRun.{same_line}
use Rattle.aft_model.specs.Stages.{HasPut, IsClear, IsIdle, Stage, stage}
use Rattle.aft_model.proofs.Histories.{In, each_after_snoc}
use Rattle.aft_model.proofs.Ids.{same_commits}
use Rattle.aft_model.proofs.OneCommit.{same_who}
use Rattle.aft_model.proofs.Sights.{same_bytes}
use Rattle.aft_lines.specs.Asked.{Asked, Ran}
use Rattle.aft_lines.specs.CommitCourse.{Storing, gets_record}
use Rattle.aft_lines.specs.CourseWords.{caller_of}
use Rattle.aft_lines.specs.FinishedText.{line_of}
use Rattle.aft_lines.specs.LegalTrace.{LegalTrace}
use Rattle.aft_lines.specs.Lines.{lines}
use Rattle.aft_lines.specs.Progress.{HasFailed, Progress, Settling}
use Rattle.aft_lines.specs.Steps.{Made, door_steps}
use Rattle.aft_lines.specs.Turns.{AtDoor}
use Rattle.law_names.proofs.Tests.{uuid_is}
use Rattle.law_kept.specs.Kept.{Lawful}
use Rattle.law_kept.proofs.Always.{lawful_begins}
use Rattle.law_holders.specs.Rows.{are_row_puts, has_put, has_writes, is_idle, is_row, may_have_put}
use Rattle.law_claims.specs.Doing.{attempt_at, names_uuid}
use Rattle.law_claims.specs.Moments.{scene_of}
use Rattle.law_claims.specs.Scenes.{IsAtRest, IsMoved, IsShut, Keeps, Scene, Stands, doing, named, puts_of, stage_of}
use Rattle.law_claims.proofs.Fenced.{fenced_down}
use Rattle.law_claims.proofs.Idle.{busy_holds, busy_uuid}
use Rattle.law_claims.proofs.Scenes.{by_itself, is_itself, moves_it, same_by}
use Rattle.law_runs.specs.Runs.{Goes, asking_of, run_steps}
use Rattle.law_runs.proofs.Come.{door_parts}
use Rattle.law_runs.proofs.InStages.{kept_behind}
use Rattle.law_runs.proofs.LegalRuns.{legal_goes}
use Rattle.law_whole.proofs.There.{clear_finds_none, put_finds_own}
use Rattle.law_promise.proofs.Doors.{lawful_door}
use Rattle.law_damage.specs.Settling.{settling_at}
use Rattle.law_damage.proofs.Undamaged.{comes_at_open}

-- ---- the position

-- what such a position tells: whose it is, its UUID, and the row of its stage
record Tells (position : Progress) (storing : Storing) : Type 0 where
  attempt : attempt_at position ≡ Some storing.attempt
  uuid : (its : List ℕ) → IsTrue (names_uuid position its) → its ≡ storing.written.commit.id.uuid
  row : (s : Stage) → IsTrue (is_row position s) → IsTrue (may_have_put storing.written.commit s)

put_may : (c : Commit) (s : Stage) → IsTrue (has_put c s) → IsTrue (may_have_put c s)
put_may c (IsClear names) is = refl
put_may c s is = is

one_storing : (a b : Storing) → Some a ≡ Some b → a ≡ b
one_storing a b e = cc

tells : (position : Progress) (storing : Storing) → settling_at position ≡ Some storing → Tells position storing
tells (Settling aborts s) storing e = subst (Tells (Settling aborts s)) (one_storing s storing e) (record {
  attempt = refl;
  uuid = λ its is. sym (same_bytes s.written.commit.id.uuid its is);
  row = λ at is. (and_parts (may_have_put s.written.commit at) (has_writes s) is).0;
})
tells (HasFailed s) storing e = subst (Tells (HasFailed s)) (one_storing s storing e) (record {
  attempt = refl;
  uuid = λ its is. sym (same_bytes s.written.commit.id.uuid its is);
  row = put_may s.written.commit;
})
tells position storing e = absurd (cc)

not_idle : (c : Commit) (s : Stage) → IsTrue (may_have_put c s) → IsFalse (is_idle s)
not_idle c IsIdle is = absurd (false≢true is)
not_idle c s is = refl

-- ---- its get

module _ (asked : Asked) (ran : Ran) (legal : LegalTrace asked ran) (honest : Honest ran.trace.door) (line : Line) (listed : In line (lines asked)) where
  module _ (before rest : List Made) (place node inc : ℕ) (name bytes : List ℕ) (is : run_steps ran ≡ before ++ record { by = line_of line; turn = AtDoor place (Call node inc (Get name) (Found bytes)) } ∷ rest) where
    abbrev goes : Goes asked ran
    goes = legal_goes asked ran legal

    abbrev scene : Scene
    scene = scene_of (asking_of asked ran) before

    abbrev history : List DoorEntry
    history = door_steps before

    abbrev one : Made
    one = record { by = line_of line; turn = AtDoor place (Call node inc (Get name) (Found bytes)) }

    abbrev entry : DoorEntry
    entry = record { by = line_of line; act = Call node inc (Get name) (Found bytes) }

    now : Lawful (history ++ entry ∷ [])
    now = lawful_begins (history ++ entry ∷ []) (door_steps rest) (subst Lawful (door_parts asked ran goes before rest one is ∙ sym (append_assoc history (entry ∷ []) (door_steps rest))) (lawful_door asked ran goes honest))

    was : Lawful history
    was = lawful_begins history (entry ∷ []) now

    follows : IsTrue (may_follow history entry)
    follows = (each_after_snoc may_follow [] history entry now.legal).1

    opened : IsTrue (is_open history)
    opened = comes_at_open asked ran legal honest line listed history entry follows (by_itself (line_of line))

    kept : Keeps scene
    kept = (kept_behind asked ran goes before (one ∷ rest) is).0

    module _ (storing : Storing) (settles : settling_at (scene.at (line_of line)) ≡ Some storing) (gets : IsTrue (gets_record storing node inc name)) where
      abbrev a : Attempt
      a = storing.attempt

      abbrev c : Commit
      c = storing.written.commit

      abbrev who : Incarnation
      who = incarnation node inc

      its_who : caller_of a ≡ who
      its_who = same_who (caller_of a) who (and_parts (same_incarnation (caller_of a) who) (bytes_eq (record_name c.id.uuid) name) gets).0

      its_name : record_name c.id.uuid ≡ name
      its_name = same_bytes (record_name c.id.uuid) name (and_parts (same_incarnation (caller_of a) who) (bytes_eq (record_name c.id.uuid) name) gets).1

      position : Tells (scene.at (line_of line)) storing
      position = tells (scene.at (line_of line)) storing settles

      up : IsTrue (is_up who history)
      up =
          let rule = subst (λ (t : Bool). IsTrue (if t then may_come history entry.act else may_open history entry)) opened (and_parts (is_answered entry.act) (if is_open history then may_come history entry.act else may_open history entry) follows).1 in
          (and_parts (is_up who history) (may_call history who (Get name)) rule).0

      -- the stage of its UUID is that of its position
      stands_so : Stands scene a → IsTrue (may_have_put c (stage (caller_of a) c.id.uuid history))
      stands_so (IsShut fenced) = absurd (true≢false (sym (subst (λ (w : Incarnation). IsTrue (is_up w history)) (sym its_who) up) ∙ fenced_down (caller_of a) history was.legal fenced))
      stands_so (IsAtRest none rests) = absurd (true≢false (sym (is_itself a (attempt_at (scene.at (line_of line))) position.attempt) ∙ none (line_of line)))
      stands_so (IsMoved by moved row alone) = elim (cases_Bool (same_line by (line_of line))) [
        | inl same ↦ (
            let own : by ≡ line_of line = same_by by (line_of line) same in
            let names = position.uuid (named scene a) (subst (λ b. IsTrue (names_uuid (scene.at b) (named scene a))) own (moves_it (scene.at by) a (doing scene a) (named scene a) moved).2) in
            let its_row = subst (λ b. IsTrue (is_row (scene.at b) (stage_of scene a))) own (and_parts (is_row (scene.at by) (stage_of scene a)) (are_row_puts (scene.at by) (puts_of scene a)) row).0 in
            subst (λ (uuid : List ℕ). IsTrue (may_have_put c (stage (caller_of a) uuid history))) names (position.row (stage_of scene a) its_row))
        | inr other ↦ absurd (true≢false (sym (is_itself a (attempt_at (scene.at (line_of line))) position.attempt) ∙ alone (line_of line) other))
      ]

      may : IsTrue (may_have_put c (stage who c.id.uuid history))
      may = subst (λ (w : Incarnation). IsTrue (may_have_put c (stage w c.id.uuid history))) its_who (stands_so (kept.attempts a (kept.movers (line_of line) a position.attempt)))

      busy : IsFalse (is_idle (stage who c.id.uuid history))
      busy = not_idle c (stage who c.id.uuid history) may

      -- each record that the get shows is of the commit that the line stores
      pub shows_own : (d : Commit) → In d (records_in (record { name = name; bytes = bytes })) → d ≡ c
      shows_own d among = by_stage (stage who c.id.uuid history) refl may
        where
          its_uuid : IsTrue (is_uuid c.id.uuid)
          its_uuid = busy_uuid who c.id.uuid history was.made busy

          held : IsTrue (holds who c.id.uuid history)
          held = busy_holds who c.id.uuid history was.legal up busy

          got : entry.act ≡ Call node inc (Get (record_name c.id.uuid)) (Found bytes)
          got = ap (λ (n : List ℕ). Call node inc (Get n) (Found bytes)) (sym its_name)

          there : In d (records_in (record { name = record_name c.id.uuid; bytes = bytes }))
          there = subst (λ (n : List ℕ). In d (records_in (record { name = n; bytes = bytes }))) (sym its_name) among

          by_stage : (s : Stage) → stage who c.id.uuid history ≡ s → IsTrue (may_have_put c s) → d ≡ c
          by_stage (IsClear names) e so = absurd (clear_finds_none c.id.uuid (uuid_is c.id.uuid its_uuid) history entry opened now node inc bytes held got names e)
          by_stage (HasPut put) e so = (put_finds_own c.id.uuid (uuid_is c.id.uuid its_uuid) history entry opened now node inc bytes held got put e).1 d there ∙ sym (same_commits c put so)
          by_stage s e so = absurd (false≢true so)
