-- What the turns of a commit or an abort at the door make of it.
use Rattle.std.proofs.Common.{◌≡◌, ◌≤◌, ℕ, suc, ◌+◌, Bool, true, false, ◌&&◌, not, List, [], ◌∷◌, ◌++◌, drop, length, refl, sym, ap, subst, ◌∙◌, inl, inr, arith}
use Rattle.std.specs.Prelude.{Err, IsFalse, IsTrue, None, Ok, Result, Some, if◌then◌else◌, map}
use Rattle.std.specs.List.{slice_get}
use Rattle.std.specs.Str.{bytes_eq}
use Rattle.std.proofs.lemmas.Bool.{and_from, false≢true, true≢false}
use Rattle.aft_keeper.specs.declared.keeper.KeeperAnswer.{KeeperAnswer}
use Rattle.aft_keeper.specs.declared.keeper.KeeperAnswer.TheVariants as answers
use Rattle.aft_keeper.specs.declared.keeper.Pair.{Pair}
use Rattle.aft_records.specs.declared.stored.Commit.{Commit}
use Rattle.aft_records.specs.declared.stored.Record.{Record}
use Rattle.aft_records.specs.declared.stored.Version.{Version}
use Rattle.aft_records.specs.Rows.{record_row, version_row}
use Rattle.aft_records.specs.Stored.{IsRecord}
use Rattle.aft_model.specs.declared.caller.Attempt.{Attempt}
use Rattle.aft_model.specs.declared.caller.By.{By}
use Rattle.aft_model.specs.declared.caller.Hold.{Hold}
use Rattle.aft_id.specs.TxnId.{IsUuid}
use Rattle.aft_model.specs.declared.door.DoorAct.{DoorAct}
use Rattle.aft_model.specs.declared.door.DoorEntry.{DoorEntry}
use Rattle.aft_model.specs.declared.reply.Reply.{Reply}
use Rattle.aft_model.specs.declared.reply.Reply.TheVariants as replies
use Rattle.aft_model.specs.Attempts.{Write, written_keys}
use Rattle.aft_model.specs.Membership.{incarnation, same_incarnation}
use Rattle.aft_model.specs.Readings.{record_name, version_name}
use Rattle.aft_model.specs.Stages.{is_acknowledged}
use Rattle.aft_model.proofs.OneCommit.{same_itself as caller_itself}
use Rattle.aft_model.proofs.Sights.{bytes_eq-refl}
use Rattle.aft_lines.specs.Advance.{behind_failure, behind_settling, looked_by}
use Rattle.aft_lines.specs.CommitCourse.{Storing, is_release_of, is_version_of, is_written_as, puts_own}
use Rattle.aft_lines.specs.CourseWords.{Ends, caller_of, finds_nothing, finds_record, tells_refused}
use Rattle.aft_lines.specs.Progress.{FoundAborted, HasFailed, IsNodeStored, IsRecorded, IsStoring, MustDoubt, MustEnd, MustLeave, Progress, Settling}
use Rattle.aft_lines.specs.Progress.{Outcome as Ending}
use Rattle.aft_lines.specs.Turns.{AtDoor, Turn}
use Rattle.aft_door.specs.declared.fault.DoorFault.{DoorFault}
use Rattle.aft_door.specs.declared.fault.DoorFault.TheVariants as faults
use Rattle.aft_commit.specs.declared.outcome.Outcome.{Outcome}
use Rattle.aft_commit.specs.declared.outcome.Outcome.TheVariants.{Absent, Left, Stored}
use Rattle.aft_commit.specs.declared.sight.Sight.{Sight}
use Rattle.aft_commit.specs.declared.sight.Sight.TheVariants as sights
use Rattle.aft_commit.specs.declared.stage.Stage.{Stage}
use Rattle.aft_commit.specs.declared.stage.Stage.TheVariants.{Doubts, Failed, Releases, Settles, Stores}
use Rattle.aft_commit.specs.Calls.{IsRefused, LooksSo, PutSo, PutsSo, RecordPutsSo, ReleasesSo, look_act, record_act, release_act, version_act}
use Rattle.aft_commit.specs.Made.{HasCome, IsToRelease, MayDoubt, ending_of, is_own_silent, led_at, made_at, storing_with}
use Rattle.aft_commit.specs.Told.{ArePut, IsToStore, ToldDoubt, Undamaged, told_at}
use Rattle.aft_commit.specs.View.{looked_stage, record_stage, released_stage, settled_stage, version_stage}
use Rattle.aft_commit.proofs.Coming.{Leads, come_on, come_still, door_sees}
use Rattle.aft_commit.proofs.Stored.{next_write, none_left, put_record, put_version}
use Rattle.aft_commit.proofs.Telling.{both_failed, end_on, fault_behind, fault_first, first_damaged, put_fails, put_on, put_stored, quiet_on, shown_absent, shown_stored, stores_on}
use Rattle.aft_turns.specs.Refusals.{refusal_of}
use Rattle.aft_turns.specs.Steps.{StepsAtDoor}
use Rattle.aft_turns.specs.Trail.{Trail, behind}

-- why a call was refused is told as a refusal
refused_told : (a : Attempt) (look : List DoorEntry) (reply : Reply) → IsRefused a look reply → IsTrue (tells_refused (Some reply))
refused_told a look reply (inl (is, fenced)) = subst (λ (r : Reply). IsTrue (tells_refused (Some r))) (sym is) refl
refused_told a look reply (inr is) = subst (λ (r : Reply). IsTrue (tells_refused (Some r))) (sym is) refl

-- and the look is why
refused_so : (a : Attempt) (look : List DoorEntry) (aborts : Bool) (c : Commit) (made : List Turn) (reply : Reply) → IsRefused a look reply → ToldDoubt a look aborts c made reply
refused_so a look aborts c made reply (inl (is, fenced)) = subst (ToldDoubt a look aborts c made) (sym is) (refl, refl, fenced)
refused_so a look aborts c made reply (inr is) = subst (ToldDoubt a look aborts c made) (sym is) tt

-- where a put leads by its answer, of a version behind which these are left, and of the record
abbrev put_stands : Storing → List Write → KeeperAnswer → Progress
put_stands s more answer = if is_acknowledged answer then IsStoring s more else MustDoubt s

abbrev record_stands : Storing → KeeperAnswer → Progress
record_stands s answer = if is_acknowledged answer then IsRecorded s else HasFailed s

-- ---- the turns

module _ (clock : ℕ) (hold : Hold) (a : Attempt) where
  own_look : (aborts : Bool) (place : ℕ) (c : Commit) (answer : KeeperAnswer) → IsTrue (is_own_silent clock hold aborts (AtDoor place (look_act a c answer)))
  own_look true place c answer = refl
  own_look false place c answer = refl

  own_release : (aborts : Bool) (place : ℕ) (uuid : List ℕ) → IsTrue (is_own_silent clock hold aborts (AtDoor place (release_act a uuid)))
  own_release true place uuid = refl
  own_release false place uuid = refl

  looked : (ends : Ends) (r : Record) (writes : List Write) (then_at : KeeperAnswer → Progress) (place : ℕ) (answer : KeeperAnswer) → looked_by ends (storing_with a r writes) then_at (AtDoor place (look_act a r.commit answer)) ≡ Some (then_at answer)
  looked ends r writes then_at place answer =
      ap (λ (t : Bool). if t then Some (then_at answer) else None) (and_from (same_incarnation (caller_of a) (incarnation a.node a.inc)) (bytes_eq (record_name r.commit.id.uuid) (record_name r.commit.id.uuid)) (caller_itself (caller_of a)) (bytes_eq-refl (record_name r.commit.id.uuid)))

  was_put : (name bytes : List ℕ) (test : Pair → Bool) → IsTrue (test (record { name = name; bytes = bytes })) → IsTrue (same_incarnation (caller_of a) (incarnation a.node a.inc) && test (record { name = name; bytes = bytes }))
  was_put name bytes test is = and_from _ _ (caller_itself (caller_of a)) is

  released : (uuid : List ℕ) → IsTrue (is_release_of a uuid uuid a.node a.inc)
  released uuid = and_from _ _ (caller_itself (caller_of a)) (bytes_eq-refl uuid)

module _ (clock : ℕ) (by : By) (hold : Hold) (a : Attempt) (old new : List DoorEntry) where
  abbrev pub DoorStep : Bool → Stage → Stage → Type 0
  DoorStep aborts stage further = StepsAtDoor by (made_at clock by hold aborts stage) (made_at clock by hold aborts further) old new

  abbrev Come : Bool → Progress → Trail → Type 0
  Come aborts position trail = HasCome clock by hold aborts a position trail

  -- what it was told by then stays
  stores_behind : (aborts : Bool) (c : Commit) (trail : Trail) (act : DoorAct) → IsToStore by hold aborts c trail.turns → IsToStore by hold aborts c (trail.turns ++ AtDoor (length old) act ∷ [])
  stores_behind aborts c trail act is = stores_on by hold aborts c trail.turns (AtDoor (length old) act) is

  -- behind any answer memory may be wanting
  lacking_behind : (aborts : Bool) (c : Commit) (trail : Trail) (act : DoorAct) (reply : Reply) → reply ≡ replies.NoMemory → IsToStore by hold aborts c trail.turns → told_at clock by hold aborts (Doubts a reply) (behind trail (AtDoor (length old) act))
  lacking_behind aborts c trail act reply lacks stores =
      subst (λ (q : Reply). told_at clock by hold aborts (Doubts a q) (behind trail (AtDoor (length old) act))) (sym lacks) (c, stores_behind aborts c trail act stores, tt)

  -- and damage is told by its name
  damaged_behind : (aborts : Bool) (c : Commit) (trail : Trail) (bytes : List ℕ) (reply : Reply) → IsUuid c.id.uuid → IsFalse (finds_record c (answers.Found bytes)) → reply ≡ replies.Damaged (record_name c.id.uuid) → IsToStore by hold aborts c trail.turns → Undamaged c trail.turns → told_at clock by hold aborts (Doubts a reply) (behind trail (AtDoor (length old) (look_act a c (answers.Found bytes))))
  damaged_behind aborts c trail bytes reply is_uuid other damaged stores undamaged =
      subst (λ (q : Reply). told_at clock by hold aborts (Doubts a q) (behind trail (AtDoor (length old) (look_act a c (answers.Found bytes))))) (sym damaged)
      (c, stores_behind aborts c trail (look_act a c (answers.Found bytes)) stores, first_damaged a trail.turns (length old) c bytes is_uuid other undamaged)

  -- a look of a line that settles, and of one whose put failed
  settled_on : (aborts : Bool) (r : Record) (writes : List Write) (answer : KeeperAnswer) (position : Progress) → behind_settling aborts (storing_with a r writes) answer ≡ position → (trail : Trail) → Come aborts (Settling aborts (storing_with a r writes)) trail → Come aborts position (behind trail (AtDoor (length old) (look_act a r.commit answer)))
  settled_on aborts r writes answer position at trail come =
      come_on clock by hold a aborts (Settling aborts (storing_with a r writes)) position trail (AtDoor (length old) (look_act a r.commit answer)) come (own_look clock hold a aborts (length old) r.commit answer) (door_sees by trail.turns (length old) (look_act a r.commit answer))
      (λ nodes ends. let its = looked clock hold a ends r writes (behind_settling aborts (storing_with a r writes)) (length old) answer ∙ ap (λ (p : Progress). Some p) at in (its, its))

  looked_on : (aborts : Bool) (r : Record) (writes : List Write) (answer : KeeperAnswer) (position : Progress) → behind_failure (storing_with a r writes) answer ≡ position → (trail : Trail) → Come aborts (HasFailed (storing_with a r writes)) trail → Come aborts position (behind trail (AtDoor (length old) (look_act a r.commit answer)))
  looked_on aborts r writes answer position at trail come =
      come_on clock by hold a aborts (HasFailed (storing_with a r writes)) position trail (AtDoor (length old) (look_act a r.commit answer)) come (own_look clock hold a aborts (length old) r.commit answer) (door_sees by trail.turns (length old) (look_act a r.commit answer))
      (λ nodes ends. let its = looked clock hold a ends r writes (behind_failure (storing_with a r writes)) (length old) answer ∙ ap (λ (p : Progress). Some p) at in (its, its))

  -- want of memory may leave it in doubt behind any answer
  settled_lacking : (aborts : Bool) (s : Storing) (look : List DoorEntry) (finds nothing : Bool) → s.attempt ≡ a → MayDoubt a look replies.NoMemory (if finds then IsRecorded s else if not nothing then MustDoubt s else if aborts then FoundAborted s else IsStoring s s.writes)
  settled_lacking aborts s look true nothing its = (its, refl)
  settled_lacking aborts s look false false its = its
  settled_lacking true s look false true its = (its, inr refl)
  settled_lacking false s look false true its = (its, refl)

  looked_lacking : (s : Storing) (look : List DoorEntry) (finds : Bool) → s.attempt ≡ a → MayDoubt a look replies.NoMemory (if finds then IsRecorded s else MustDoubt s)
  looked_lacking s look true its = (its, refl)
  looked_lacking s look false its = its

  pub settle_step : (aborts : Bool) (r : Record) (values : List (List ℕ)) (sight : Sight) → LooksSo by a r.commit old new sight → DoorStep aborts (Settles a r values) (settled_stage sight aborts a r values)
  settle_step aborts r values sights.Recorded (bytes, made, finds) =
      inl (
        look_act a r.commit (answers.Found bytes),
        made,
        λ trail stood. (
          (stood.0.0, settled_on aborts r stood.0.0 (answers.Found bytes) (IsRecorded (storing_with a r stood.0.0)) (by_finds stood.0.0) trail stood.0.3),
          (stores_behind aborts r.commit trail (look_act a r.commit (answers.Found bytes)) stood.1.0, shown_stored a trail.turns (length old) r.commit bytes finds),
        ),
      )
    where
      by_finds : (writes : List Write) → behind_settling aborts (storing_with a r writes) (answers.Found bytes) ≡ IsRecorded (storing_with a r writes)
      by_finds writes = ap (λ (t : Bool). if t then IsRecorded (storing_with a r writes) else MustDoubt (storing_with a r writes)) finds
  settle_step true r values sights.Absent made =
      inl (
        look_act a r.commit answers.Absent,
        made,
        λ trail stood. (
          (FoundAborted (storing_with a r stood.0.0), (r, stood.0.0, refl, refl), settled_on true r stood.0.0 answers.Absent (FoundAborted (storing_with a r stood.0.0)) refl trail stood.0.3),
          (r.commit, refl, refl, stores_behind true r.commit trail (look_act a r.commit answers.Absent) stood.1.0, shown_absent a trail.turns (length old) r.commit),
        ),
      )
  settle_step false r values sights.Absent made =
      inl (
        look_act a r.commit answers.Absent,
        made,
        λ trail stood. (
          (stood.0.0, stood.0.1, stood.0.2 refl, refl, settled_on false r stood.0.0 answers.Absent (IsStoring (storing_with a r stood.0.0) stood.0.0) refl trail stood.0.3),
          (stores_behind false r.commit trail (look_act a r.commit answers.Absent) stood.1.0, quiet_on trail.turns (length old) (look_act a r.commit answers.Absent) r.commit refl refl stood.1.1, λ who. refl),
        ),
      )
  settle_step aborts r values sights.Failed made =
      inl (
        look_act a r.commit answers.Failed,
        made,
        λ trail stood. (
          (MustDoubt (storing_with a r stood.0.0), refl, settled_on aborts r stood.0.0 answers.Failed (MustDoubt (storing_with a r stood.0.0)) refl trail stood.0.3),
          (r.commit, stores_behind aborts r.commit trail (look_act a r.commit answers.Failed) stood.1.0, fault_first trail.turns (length old) (look_act a r.commit answers.Failed) r.commit refl refl stood.1.1),
        ),
      )
  settle_step aborts r values (sights.Refused reply) (inl (same, refused)) =
      inr (
        same,
        λ trail stood. (
          (Settling aborts (storing_with a r stood.0.0), (refl, refused_told a old reply refused), come_still clock by hold a aborts (Settling aborts (storing_with a r stood.0.0)) trail old stood.0.3),
          (r.commit, stood.1.0, refused_so a old aborts r.commit trail.turns reply refused),
        ),
      )
  settle_step aborts r values (sights.Refused reply) (inr (inl (answer, made, lacks))) =
      inl (
        look_act a r.commit answer,
        made,
        λ trail stood. (
          (
            behind_settling aborts (storing_with a r stood.0.0) answer,
            subst (λ (q : Reply). MayDoubt a trail.look q (behind_settling aborts (storing_with a r stood.0.0) answer)) (sym lacks) (settled_lacking aborts (storing_with a r stood.0.0) trail.look (finds_record r.commit answer) (finds_nothing answer) refl),
            settled_on aborts r stood.0.0 answer (behind_settling aborts (storing_with a r stood.0.0) answer) refl trail stood.0.3,
          ),
          lacking_behind aborts r.commit trail (look_act a r.commit answer) reply lacks stood.1.0,
        ),
      )
  settle_step aborts r values (sights.Refused reply) (inr (inr (bytes, made, is_uuid, other, damaged))) =
      inl (
        look_act a r.commit (answers.Found bytes),
        made,
        λ trail stood. (
          (MustDoubt (storing_with a r stood.0.0), refl, settled_on aborts r stood.0.0 (answers.Found bytes) (MustDoubt (storing_with a r stood.0.0)) (by_finds stood.0.0) trail stood.0.3),
          damaged_behind aborts r.commit trail bytes reply is_uuid other damaged stood.1.0 stood.1.1.undamaged,
        ),
      )
    where
      by_finds : (writes : List Write) → behind_settling aborts (storing_with a r writes) (answers.Found bytes) ≡ MustDoubt (storing_with a r writes)
      by_finds writes = ap (λ (t : Bool). if t then IsRecorded (storing_with a r writes) else MustDoubt (storing_with a r writes)) other

  pub look_step : (aborts : Bool) (r : Record) (sight : Sight) → LooksSo by a r.commit old new sight → DoorStep aborts (Failed a r) (looked_stage sight a r)
  look_step aborts r sights.Recorded (bytes, made, finds) =
      inl (
        look_act a r.commit (answers.Found bytes),
        made,
        λ trail stood. (
          (stood.0.0, looked_on aborts r stood.0.0 (answers.Found bytes) (IsRecorded (storing_with a r stood.0.0)) (by_finds stood.0.0) trail stood.0.1),
          (stores_behind aborts r.commit trail (look_act a r.commit (answers.Found bytes)) stood.1.1, shown_stored a trail.turns (length old) r.commit bytes finds),
        ),
      )
    where
      by_finds : (writes : List Write) → behind_failure (storing_with a r writes) (answers.Found bytes) ≡ IsRecorded (storing_with a r writes)
      by_finds writes = ap (λ (t : Bool). if t then IsRecorded (storing_with a r writes) else MustDoubt (storing_with a r writes)) finds
  look_step aborts r sights.Absent made =
      inl (
        look_act a r.commit answers.Absent,
        made,
        λ trail stood. (
          (MustDoubt (storing_with a r stood.0.0), refl, looked_on aborts r stood.0.0 answers.Absent (MustDoubt (storing_with a r stood.0.0)) refl trail stood.0.1),
          (r.commit, stores_behind aborts r.commit trail (look_act a r.commit answers.Absent) stood.1.1, fault_behind trail.turns (length old) (look_act a r.commit answers.Absent) r.commit refl refl stood.1.2),
        ),
      )
  look_step aborts r sights.Failed made =
      inl (
        look_act a r.commit answers.Failed,
        made,
        λ trail stood. (
          (MustDoubt (storing_with a r stood.0.0), refl, looked_on aborts r stood.0.0 answers.Failed (MustDoubt (storing_with a r stood.0.0)) refl trail stood.0.1),
          (r.commit, stores_behind aborts r.commit trail (look_act a r.commit answers.Failed) stood.1.1, (stood.1.0, both_failed trail.turns (length old) (look_act a r.commit answers.Failed) r.commit (bytes_eq-refl (record_name r.commit.id.uuid)) stood.1.2)),
        ),
      )
  look_step aborts r (sights.Refused reply) (inl (same, refused)) =
      inr (
        same,
        λ trail stood. (
          (HasFailed (storing_with a r stood.0.0), (refl, refused_told a old reply refused), come_still clock by hold a aborts (HasFailed (storing_with a r stood.0.0)) trail old stood.0.1),
          (r.commit, stood.1.1, refused_so a old aborts r.commit trail.turns reply refused),
        ),
      )
  look_step aborts r (sights.Refused reply) (inr (inl (answer, made, lacks))) =
      inl (
        look_act a r.commit answer,
        made,
        λ trail stood. (
          (
            behind_failure (storing_with a r stood.0.0) answer,
            subst (λ (q : Reply). MayDoubt a trail.look q (behind_failure (storing_with a r stood.0.0) answer)) (sym lacks) (looked_lacking (storing_with a r stood.0.0) trail.look (finds_record r.commit answer) refl),
            looked_on aborts r stood.0.0 answer (behind_failure (storing_with a r stood.0.0) answer) refl trail stood.0.1,
          ),
          lacking_behind aborts r.commit trail (look_act a r.commit answer) reply lacks stood.1.1,
        ),
      )
  look_step aborts r (sights.Refused reply) (inr (inr (bytes, made, is_uuid, other, damaged))) =
      inl (
        look_act a r.commit (answers.Found bytes),
        made,
        λ trail stood. (
          (MustDoubt (storing_with a r stood.0.0), refl, looked_on aborts r stood.0.0 (answers.Found bytes) (MustDoubt (storing_with a r stood.0.0)) (by_finds stood.0.0) trail stood.0.1),
          damaged_behind aborts r.commit trail bytes reply is_uuid other damaged stood.1.1 stood.1.2.undamaged,
        ),
      )
    where
      by_finds : (writes : List Write) → behind_failure (storing_with a r writes) (answers.Found bytes) ≡ MustDoubt (storing_with a r writes)
      by_finds writes = ap (λ (t : Bool). if t then IsRecorded (storing_with a r writes) else MustDoubt (storing_with a r writes)) other

  -- ---- the release

  let_go : (aborts : Bool) (uuid : List ℕ) (position : Progress) (outcome : Ending) → ((ends : Ends) → (place : ℕ) → Leads clock by hold a position (AtDoor place (release_act a uuid)) (MustEnd a outcome)) → (trail : Trail) → Come aborts position trail → Come aborts (MustEnd a outcome) (behind trail (AtDoor (length old) (release_act a uuid)))
  let_go aborts uuid position outcome leads trail come =
      come_on clock by hold a aborts position (MustEnd a outcome) trail (AtDoor (length old) (release_act a uuid)) come (own_release clock hold a aborts (length old) uuid) (door_sees by trail.turns (length old) (release_act a uuid)) (λ nodes ends. leads ends (length old) nodes ends)

  freed : (uuid : List ℕ) (outcome : Ending) → (if is_release_of a uuid uuid a.node a.inc then Some (MustEnd a outcome) else None) ≡ Some (MustEnd a outcome)
  freed uuid outcome = ap (λ (t : Bool). if t then Some (MustEnd a outcome) else None) (released clock hold a uuid)

  go_on : (aborts : Bool) (uuid : List ℕ) (outcome : Outcome) (position : Progress) → IsToRelease a uuid outcome position → (trail : Trail) → Come aborts position trail → Come aborts (MustEnd a (ending_of outcome)) (behind trail (AtDoor (length old) (release_act a uuid)))
  go_on aborts uuid (Stored id) position (r, writes, at, its, named) trail come =
      subst (λ (u : List ℕ). Come aborts (MustEnd a (ending_of (Stored id))) (behind trail (AtDoor (length old) (release_act a u)))) (sym its)
      (let_go aborts r.commit.id.uuid (IsNodeStored (storing_with a r writes)) (ending_of (Stored id)) (λ more place nodes ends. (freed r.commit.id.uuid (ending_of (Stored id)), freed r.commit.id.uuid (ending_of (Stored id)))) trail
      (subst (λ (p : Progress). Come aborts p trail) at come))
  go_on aborts uuid Absent position (r, writes, at, its) trail come =
      subst (λ (u : List ℕ). Come aborts (MustEnd a (ending_of Absent)) (behind trail (AtDoor (length old) (release_act a u)))) (sym its)
      (let_go aborts r.commit.id.uuid (FoundAborted (storing_with a r writes)) (ending_of Absent) (λ more place nodes ends. (freed r.commit.id.uuid (ending_of Absent), freed r.commit.id.uuid (ending_of Absent))) trail
      (subst (λ (p : Progress). Come aborts p trail) at come))
  go_on aborts uuid (Left leaves) position at trail come =
      let_go aborts uuid (MustLeave leaves a uuid) (ending_of (Left leaves)) (λ more place nodes ends. (freed uuid (ending_of (Left leaves)), freed uuid (ending_of (Left leaves)))) trail (subst (λ (p : Progress). Come aborts p trail) at come)

  pub release_step : (aborts : Bool) (uuid : List ℕ) (outcome : Outcome) (goes : Bool) → ReleasesSo by a uuid old new goes → DoorStep aborts (Releases a uuid outcome) (released_stage goes a uuid outcome)
  release_step aborts uuid outcome true made =
      inl (release_act a uuid, made, λ trail stood. (go_on aborts uuid outcome stood.0.0 stood.0.1 trail stood.0.2, end_on by hold aborts uuid outcome trail.turns (length old) (release_act a uuid) stood.1))
  release_step aborts uuid (Stored id) false (same, fenced) =
      inr (
        same,
        λ trail stood. (
          (stood.0.0, subst (λ (p : Progress). MayDoubt a old (replies.NodeDown a.node a.inc) p) (sym stood.0.1.2) (refl, refl, fenced), come_still clock by hold a aborts stood.0.0 trail old stood.0.2),
          (stood.1.0, stood.1.2, (refl, refl, fenced)),
        ),
      )
  release_step aborts uuid Absent false (same, fenced) =
      inr (
        same,
        λ trail stood. (
          (stood.0.0, subst (λ (p : Progress). MayDoubt a old (replies.NodeDown a.node a.inc) p) (sym stood.0.1.2) (refl, inl (refl, fenced)), come_still clock by hold a aborts stood.0.0 trail old stood.0.2),
          (stood.1.0, stood.1.3, (refl, refl, fenced)),
        ),
      )
  release_step aborts uuid (Left leaves) false (same, fenced) =
      inr (
        same,
        λ trail stood. (
          (leaves, uuid, come_still clock by hold a aborts (MustLeave leaves a uuid) trail old (subst (λ (p : Progress). Come aborts p trail) stood.0.1 stood.0.2), fenced),
          stood.1.1.begun,
        ),
      )

  -- ---- the puts

  -- a version
  version_on : (r : Record) (writes more : List Write) (w : Write) (v : Version) (answer : KeeperAnswer) (further : Progress) → IsTrue (is_version_of r.commit w (record { name = version_name v.key v.id; bytes = version_row v }))
      → ((t : Bool) → IsTrue t → (if t then Some (put_stands (storing_with a r writes) more answer) else None) ≡ Some further)
      → (aborts : Bool) → aborts ≡ false → (trail : Trail) → Come aborts (IsStoring (storing_with a r writes) (w ∷ more)) trail → Come aborts further (behind trail (AtDoor (length old) (version_act a v answer)))
  version_on r writes more w v answer further is leads true commits trail come = absurd (true≢false commits)
  version_on r writes more w v answer further is leads false commits trail come =
      come_on clock by hold a false (IsStoring (storing_with a r writes) (w ∷ more)) further trail (AtDoor (length old) (version_act a v answer)) come refl (door_sees by trail.turns (length old) (version_act a v answer))
      (λ nodes ends. let its = leads (puts_own (storing_with a r writes) (is_version_of r.commit w) a.node a.inc (version_name v.key v.id) (version_row v)) (was_put clock hold a (version_name v.key v.id) (version_row v) (is_version_of r.commit w) is) in (its, its))

  pub version_step : (r : Record) (values : List (List ℕ)) (count : ℕ) (result : Result Unit DoorFault) → (aborts : Bool) → PutsSo by a r values count old new result → DoorStep aborts (Stores a r values count) (version_stage a r values count result)
  version_step r values count result aborts (inr (same, is)) =
      subst (λ (t : Result Unit DoorFault). DoorStep aborts (Stores a r values count) (version_stage a r values count t)) (sym is)
      (inr (
        same,
        λ trail stood. (
          (IsStoring (storing_with a r stood.0.0) (drop count stood.0.0), (refl, refl), come_still clock by hold a aborts (IsStoring (storing_with a r stood.0.0) (drop count stood.0.0)) trail old stood.0.4),
          (r.commit, stood.1.0, tt),
        ),
      ))
  version_step r values count result aborts (inl (v, at, is, put)) = by_result result put
    where
      -- the write of it
      the : (writes : List Write) → r.commit.keys ≡ written_keys writes → values ≡ map (λ write. write.value) writes → (w : Write) × (drop count writes ≡ w ∷ drop (suc count) writes) × (v.key ≡ w.key) × (v.value ≡ w.value)
      the writes keys its =
          next_write writes count v.key v.value (subst (λ (ks : List (List ℕ)). slice_get ks count ≡ Some v.key) keys at.1) (subst (λ (vs : List (List ℕ)). slice_get vs count ≡ Some v.value) its at.2)

      gone_on : (answer : KeeperAnswer) (further : List Write → Progress) → ((writes : List Write) (t : Bool) → IsTrue t → (if t then Some (put_stands (storing_with a r writes) (drop (suc count) writes) answer) else None) ≡ Some (further writes)) → (trail : Trail) → (stood : led_at clock by hold aborts (Stores a r values count) trail) → Come aborts (further stood.0) (behind trail (AtDoor (length old) (version_act a v answer)))
      gone_on answer further leads trail (writes, keys, its, commits, come) =
          let w = the writes keys its in
          version_on r writes (drop (suc count) writes) w.0 v answer (further writes) (put_version r.commit w.0 v is at.0 w.2 w.3) (leads writes) aborts commits trail (subst (λ (more : List Write). Come aborts (IsStoring (storing_with a r writes) more) trail) w.1 come)

      acknowledged : (writes : List Write) (t : Bool) → IsTrue t → (if t then Some (IsStoring (storing_with a r writes) (drop (suc count) writes)) else None) ≡ Some (IsStoring (storing_with a r writes) (drop (suc count) writes))
      acknowledged writes true is = refl
      acknowledged writes false is = absurd (false≢true is)

      failed : (writes : List Write) (t : Bool) → IsTrue t → (if t then Some (MustDoubt (storing_with a r writes)) else None) ≡ Some (MustDoubt (storing_with a r writes))
      failed writes true is = refl
      failed writes false is = absurd (false≢true is)

      next : count + 1 ≡ suc count
      next = omega arith

      refused : (fault : DoorFault) → (new ≡ old) × IsRefused a old (refusal_of a fault) → DoorStep aborts (Stores a r values count) (Doubts a (refusal_of a fault))
      refused fault (same, why) =
          inr (
            same,
            λ trail stood. (
              (IsStoring (storing_with a r stood.0.0) (drop count stood.0.0), (refl, refused_told a old (refusal_of a fault) why), come_still clock by hold a aborts (IsStoring (storing_with a r stood.0.0) (drop count stood.0.0)) trail old stood.0.4),
              (r.commit, stood.1.0, refused_so a old aborts r.commit trail.turns (refusal_of a fault) why),
            ),
          )

      by_result : (t : Result Unit DoorFault) → PutSo by a (version_act a v) old new t → DoorStep aborts (Stores a r values count) (version_stage a r values count t)
      by_result (Ok x) made =
          inl (
            version_act a v answers.Done,
            made,
            λ trail stood. (
              (stood.0.0, stood.0.1, stood.0.2, stood.0.3, subst (λ (n : ℕ). Come aborts (IsStoring (storing_with a r stood.0.0) (drop n stood.0.0)) (behind trail (AtDoor (length old) (version_act a v answers.Done)))) (sym next) (gone_on answers.Done (λ writes. IsStoring (storing_with a r writes) (drop (suc count) writes)) acknowledged trail stood.0)),
              (stores_behind aborts r.commit trail (version_act a v answers.Done) stood.1.0, quiet_on trail.turns (length old) (version_act a v answers.Done) r.commit refl refl stood.1.1, subst (λ (n : ℕ). ArePut a r.commit n (trail.turns ++ AtDoor (length old) (version_act a v answers.Done) ∷ [])) (sym next) (put_on a r.commit count trail.turns (length old) v is at.0 at.1 stood.1.2)),
            ),
          )
      by_result (Err faults.Failed) made =
          inl (
            version_act a v answers.Failed,
            made,
            λ trail stood. (
              (MustDoubt (storing_with a r stood.0.0), refl, gone_on answers.Failed (λ writes. MustDoubt (storing_with a r writes)) failed trail stood.0),
              (r.commit, stores_behind aborts r.commit trail (version_act a v answers.Failed) stood.1.0, fault_first trail.turns (length old) (version_act a v answers.Failed) r.commit refl refl stood.1.1),
            ),
          )
      by_result (Err faults.Memory) made = refused faults.Memory made
      by_result (Err (faults.Fenced node inc)) made = refused (faults.Fenced node inc) made
      by_result (Err (faults.Busy node inc)) made = refused (faults.Busy node inc) made
      by_result (Err faults.Forgotten) made = refused faults.Forgotten made
      by_result (Err faults.NotHolder) made = refused faults.NotHolder made
      by_result (Err (faults.Holdout node inc)) made = refused (faults.Holdout node inc) made

  -- the record
  record_on : (r : Record) (writes : List Write) (answer : KeeperAnswer) (further : Progress) → IsRecord r
      → ((t : Bool) → IsTrue t → (if t then Some (record_stands (storing_with a r writes) answer) else None) ≡ Some further)
      → (aborts : Bool) → aborts ≡ false → (trail : Trail) → Come aborts (IsStoring (storing_with a r writes) []) trail → Come aborts further (behind trail (AtDoor (length old) (record_act a r answer)))
  record_on r writes answer further is leads true commits trail come = absurd (true≢false commits)
  record_on r writes answer further is leads false commits trail come =
      come_on clock by hold a false (IsStoring (storing_with a r writes) []) further trail (AtDoor (length old) (record_act a r answer)) come refl (door_sees by trail.turns (length old) (record_act a r answer))
      (λ nodes ends. let its = leads (puts_own (storing_with a r writes) (is_written_as r) a.node a.inc (record_name r.commit.id.uuid) (record_row r)) (was_put clock hold a (record_name r.commit.id.uuid) (record_row r) (is_written_as r) (put_record r is)) in (its, its))

  pub record_step : (r : Record) (values : List (List ℕ)) (count : ℕ) (result : Result Unit DoorFault) → (aborts : Bool) → length r.commit.keys ≤ count → RecordPutsSo by a r old new result → DoorStep aborts (Stores a r values count) (record_stage a r result)
  record_step r values count result aborts few (is, put) = by_result result put
    where
      all_put : (trail : Trail) (stood : led_at clock by hold aborts (Stores a r values count) trail) → Come aborts (IsStoring (storing_with a r stood.0) []) trail
      all_put trail (writes, keys, its, commits, come) =
          subst (λ (more : List Write). Come aborts (IsStoring (storing_with a r writes) more) trail) (none_left writes count (subst (λ (ks : List (List ℕ)). length ks ≤ count) keys few)) come

      led : (position : Progress) (t : Bool) → IsTrue t → (if t then Some position else None) ≡ Some position
      led position true is = refl
      led position false is = absurd (false≢true is)

      refused : (fault : DoorFault) → (new ≡ old) × IsRefused a old (refusal_of a fault) → DoorStep aborts (Stores a r values count) (Doubts a (refusal_of a fault))
      refused fault (same, why) =
          inr (
            same,
            λ trail stood. (
              (IsStoring (storing_with a r stood.0.0) (drop count stood.0.0), (refl, refused_told a old (refusal_of a fault) why), come_still clock by hold a aborts (IsStoring (storing_with a r stood.0.0) (drop count stood.0.0)) trail old stood.0.4),
              (r.commit, stood.1.0, refused_so a old aborts r.commit trail.turns (refusal_of a fault) why),
            ),
          )

      by_result : (t : Result Unit DoorFault) → PutSo by a (record_act a r) old new t → DoorStep aborts (Stores a r values count) (record_stage a r t)
      by_result (Ok x) made =
          inl (
            record_act a r answers.Done,
            made,
            λ trail stood. (
              (stood.0.0, record_on r stood.0.0 answers.Done (IsRecorded (storing_with a r stood.0.0)) is (led (IsRecorded (storing_with a r stood.0.0))) aborts stood.0.3 trail (all_put trail stood.0)),
              (stores_behind aborts r.commit trail (record_act a r answers.Done) stood.1.0, put_stored a trail.turns (length old) r is),
            ),
          )
      by_result (Err faults.Failed) made =
          inl (
            record_act a r answers.Failed,
            made,
            λ trail stood. (
              (stood.0.0, record_on r stood.0.0 answers.Failed (HasFailed (storing_with a r stood.0.0)) is (led (HasFailed (storing_with a r stood.0.0))) aborts stood.0.3 trail (all_put trail stood.0)),
              (stood.0.3, stores_behind aborts r.commit trail (record_act a r answers.Failed) stood.1.0, put_fails trail.turns (length old) (record_act a r answers.Failed) r.commit (bytes_eq-refl (record_name r.commit.id.uuid)) refl refl stood.1.1),
            ),
          )
      by_result (Err faults.Memory) made = refused faults.Memory made
      by_result (Err (faults.Fenced node inc)) made = refused (faults.Fenced node inc) made
      by_result (Err (faults.Busy node inc)) made = refused (faults.Busy node inc) made
      by_result (Err faults.Forgotten) made = refused faults.Forgotten made
      by_result (Err faults.NotHolder) made = refused faults.NotHolder made
      by_result (Err (faults.Holdout node inc)) made = refused (faults.Holdout node inc) made
