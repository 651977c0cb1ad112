-- One entry more at the door keeps what each moment keeps.
use Rattle.std.proofs.Common.{◌≡◌, ℕ, true, false, List, [], ◌∷◌, ◌++◌, sym, ap, subst, ◌∙◌, ◌⊎◌, inl, inr}
use Rattle.std.specs.Prelude.{IsTrue, IsFalse, Some, None}
use Rattle.std.specs.Str.{bytes_eq}
use Rattle.std.proofs.lemmas.Bool.{and_from, and_parts, cases_Bool, false≢true, false_from_ne_true, true≢false}
use Rattle.std.proofs.lemmas.List.Sums.{fold-append}
use Rattle.aft_records.specs.declared.stored.Commit.{Commit}
use Rattle.aft_model.specs.declared.caller.Attempt.{Attempt}
use Rattle.aft_model.specs.declared.caller.By.{By}
use Rattle.aft_model.specs.declared.door.DoorAct.{DoorAct}
use Rattle.aft_model.specs.declared.door.DoorAct.TheVariants as doors
use Rattle.aft_model.specs.declared.door.DoorEntry.{DoorEntry}
use Rattle.aft_model.specs.declared.node.NodeEntry.{NodeEntry}
use Rattle.aft_model.specs.declared.script.Command.{Command}
use Rattle.aft_model.specs.Attempts.{AttemptState, IsGone, is_gone, same_attempt}
use Rattle.aft_model.specs.Bytes.{HasBytes, acts_bytes}
use Rattle.aft_model.specs.LegalDoor.{Legal, may_come, may_follow}
use Rattle.aft_model.specs.Membership.{Incarnation, incarnation, is_up, same_incarnation, the_office}
use Rattle.aft_model.specs.NodeSights.{is_fenced}
use Rattle.aft_model.specs.NodeState.{node_state}
use Rattle.aft_model.specs.Opening.{may_read}
use Rattle.aft_model.specs.ScanRun.{same_line}
use Rattle.aft_model.specs.Stages.{Stage, is_in_stage, put_after, put_under_claim, stage, stage_after}
use Rattle.aft_model.proofs.Histories.{all_append, each_after_snoc}
use Rattle.aft_model.proofs.OneCommit.{same_who}
use Rattle.aft_model.proofs.Pins.{same_attempts}
use Rattle.aft_model.proofs.Sights.{same_bytes}
use Rattle.aft_model.proofs.Turns.{by_rule}
use Rattle.aft_lines.specs.Advance.{advance}
use Rattle.aft_lines.specs.CourseWords.{Ends, caller_of}
use Rattle.aft_lines.specs.Makes.{makes_at_door}
use Rattle.aft_lines.specs.Progress.{Progress}
use Rattle.aft_lines.specs.Turns.{AtDoor}
use Rattle.law_attempts.proofs.Standing.{same_itself}
use Rattle.law_holders.specs.Rows.{are_row_puts, caller_at, is_of_attempt, is_of_node, is_own_act, is_own_call, is_row, uuid_at}
use Rattle.law_holders.proofs.Bystanders.{bystander}
use Rattle.law_holders.proofs.Kept.{puts_move}
use Rattle.law_holders.proofs.Moves.{rows_move}
use Rattle.law_holders.proofs.Own.{acts_own}
use Rattle.law_claims.specs.Doing.{attempt_at, is_doing, is_the, keeps_row, moves, names_uuid, rests}
use Rattle.law_claims.specs.Scenes.{AreLegal, DoorStep, HasOne, IsAtRest, IsFenced, IsFree, IsMoved, IsShut, Keeps, Lies, Scene, Stands, doing, doing_in, named, named_in, puts_of, stage_of}
use Rattle.law_claims.proofs.Apart.{Apart, bystander_puts, puts_stay, stage_stays}
use Rattle.law_claims.proofs.Doors.{attempts_stay}
use Rattle.law_claims.proofs.Fenced.{fenced_down, fenced_more}
use Rattle.law_claims.proofs.Idle.{Busy, stage-snoc}
use Rattle.law_claims.proofs.InStage.{own_in_stage}
use Rattle.law_claims.proofs.Movers.{Mover, call_busy, door_mover}
use Rattle.law_claims.proofs.Scenes.{alone, doing_there, is_itself, moves_it, same_by, the_is}

pub puts-snoc : (who : Incarnation) (uuid : List ℕ) (history : List DoorEntry) (entry : DoorEntry) → put_under_claim who uuid (history ++ entry ∷ []) ≡ put_after who uuid (put_under_claim who uuid history) entry.act
puts-snoc who uuid history entry = fold-append (λ (puts : List Commit) (e : DoorEntry). put_after who uuid puts e.act) [] history (entry ∷ [])

module _ (entry : DoorEntry) (before after : Scene) (step : DoorStep entry before after) where
  same_doing : (a : Attempt) → doing after a ≡ doing before a
  same_doing a = ap (λ (h : List NodeEntry). doing_in a (node_state h)) (step.node a.node)

  same_named : (a : Attempt) → named after a ≡ named before a
  same_named a = ap (λ (h : List NodeEntry). named_in a (node_state h)) (step.node a.node)

  stage_now : (who : Incarnation) (uuid : List ℕ) → stage who uuid after.door ≡ stage_after who uuid (stage who uuid before.door) entry.act
  stage_now who uuid = ap (stage who uuid) step.door ∙ stage-snoc who uuid before.door entry

  puts_now : (who : Incarnation) (uuid : List ℕ) → put_under_claim who uuid after.door ≡ put_after who uuid (put_under_claim who uuid before.door) entry.act
  puts_now who uuid = ap (put_under_claim who uuid) step.door ∙ puts-snoc who uuid before.door entry

  still_fenced : (who : Incarnation) → IsTrue (is_fenced who before.door) → IsTrue (is_fenced who after.door)
  still_fenced who is = subst (λ (h : List DoorEntry). IsTrue (is_fenced who h)) (sym step.door) (fenced_more who before.door (entry ∷ []) is)

  -- an act leaves the stage of a UUID and what was put under its claim
  abbrev Unchanged : Incarnation → List ℕ → Type 0
  Unchanged who uuid = (stage_after who uuid (stage who uuid before.door) entry.act ≡ stage who uuid before.door) × (put_after who uuid (put_under_claim who uuid before.door) entry.act ≡ put_under_claim who uuid before.door)

  stage_same : (a : Attempt) → Unchanged (caller_of a) (named before a) → stage_of after a ≡ stage_of before a
  stage_same a same = ap (λ (u : List ℕ). stage (caller_of a) u after.door) (same_named a) ∙ (stage_now (caller_of a) (named before a) ∙ same.0)

  puts_same : (a : Attempt) → Unchanged (caller_of a) (named before a) → puts_of after a ≡ puts_of before a
  puts_same a same = ap (λ (u : List ℕ). put_under_claim (caller_of a) u after.door) (same_named a) ∙ (puts_now (caller_of a) (named before a) ∙ same.1)

  moved_still : (position : Progress) (a : Attempt) → IsTrue (moves position a (doing before a) (named before a)) → IsTrue (moves position a (doing after a) (named after a))
  moved_still position a so = subst (λ (s : AttemptState). IsTrue (moves position a s (named after a))) (sym (same_doing a)) (subst (λ (u : List ℕ). IsTrue (moves position a (doing before a) u)) (sym (same_named a)) so)

  row_still : (position : Progress) (a : Attempt) → Unchanged (caller_of a) (named before a) → IsTrue (keeps_row position (stage_of before a) (puts_of before a)) → IsTrue (keeps_row position (stage_of after a) (puts_of after a))
  row_still position a same so = subst (λ (s : Stage). IsTrue (keeps_row position s (puts_of after a))) (sym (stage_same a same)) (subst (λ (p : List Commit). IsTrue (keeps_row position (stage_of before a) p)) (sym (puts_same a same)) so)

  rests_still : (a : Attempt) → Unchanged (caller_of a) (named before a) → IsTrue (rests (doing before a) (stage_of before a) (puts_of before a)) → IsTrue (rests (doing after a) (stage_of after a) (puts_of after a))
  rests_still a same so =
      subst (λ (d : AttemptState). IsTrue (rests d (stage_of after a) (puts_of after a))) (sym (same_doing a))
      (subst (λ (s : Stage). IsTrue (rests (doing before a) s (puts_of after a))) (sym (stage_same a same)) (subst (λ (p : List Commit). IsTrue (rests (doing before a) (stage_of before a) p)) (sym (puts_same a same)) so))

  there_before : (a : Attempt) → IsFalse (is_gone (doing after a)) → IsFalse (is_gone (doing before a))
  there_before a there = subst (λ (s : AttemptState). IsFalse (is_gone s)) (same_doing a) there

  there_still : (a : Attempt) → IsFalse (is_gone (doing before a)) → IsFalse (is_gone (doing after a))
  there_still a there = subst (λ (s : AttemptState). IsFalse (is_gone s)) (sym (same_doing a)) there

  -- no line moves an attempt but those that did, if the entry's line doesn't
  none_moves : (a : Attempt) → IsFalse (is_the a (attempt_at (after.at entry.by))) → (other : By) → (IsFalse (same_line entry.by other) → IsFalse (is_the a (attempt_at (before.at other)))) → IsFalse (is_the a (attempt_at (after.at other)))
  none_moves a unmoved other was = elim (cases_Bool (same_line entry.by other)) [
    | inl is ↦ subst (λ (b : By). IsFalse (is_the a (attempt_at (after.at b)))) (same_by entry.by other is) unmoved
    | inr differs ↦ subst (λ (p : Progress). IsFalse (is_the a (attempt_at p))) (sym (step.others other differs)) (was differs)
  ]

  -- an attempt that the entry's line doesn't move stands as before
  other_stands : (a : Attempt) → Stands before a → IsFalse (is_the a (attempt_at (after.at entry.by))) → IsFalse (is_the a (attempt_at (before.at entry.by))) → (IsFalse (is_gone (doing before a)) → Unchanged (caller_of a) (named before a)) → Stands after a
  other_stands a (IsShut gone) unmoved was same = IsShut (still_fenced (caller_of a) gone)
  other_stands a (IsAtRest none rest) unmoved was same = IsAtRest (λ other. none_moves a unmoved other (λ differs. none other)) (λ there. let was_there = there_before a there in rests_still a (same was_there) (rest was_there))
  other_stands a (IsMoved by moved row only) unmoved was same =
      let its = moves_it (before.at by) a (doing before a) (named before a) moved in
      let differs : IsFalse (same_line entry.by by) = false_from_ne_true (same_line entry.by by) (λ is. true≢false (sym its.0 ∙ subst (λ (b : By). IsFalse (is_the a (attempt_at (before.at b)))) (same_by entry.by by is) was)) in
      let at = step.others by differs in
      let was_there = doing_there (before.at by) (doing before a) its.1 in
      IsMoved by
      (subst (λ (p : Progress). IsTrue (moves p a (doing after a) (named after a))) (sym at) (moved_still (before.at by) a moved))
      (subst (λ (p : Progress). IsTrue (keeps_row p (stage_of after a) (puts_of after a))) (sym at) (row_still (before.at by) a (same was_there) row))
      (λ other apart. none_moves a unmoved other (λ d. only other apart))

  -- a UUID that the entry leaves alone lies as before
  other_lies : (who : Incarnation) (uuid : List ℕ) → Unchanged who uuid → Lies before who uuid → Lies after who uuid
  other_lies who uuid same (IsFenced gone) = IsFenced (still_fenced who gone)
  other_lies who uuid same (HasOne a its there is) = HasOne a its (there_still a there) (same_named a ∙ is)
  other_lies who uuid same (IsFree free) =
      IsFree (subst (λ (s : Stage). IsTrue (rests IsGone s (put_under_claim who uuid after.door))) (sym (stage_now who uuid ∙ same.0)) (subst (λ (p : List Commit). IsTrue (rests IsGone (stage who uuid before.door) p)) (sym (puts_now who uuid ∙ same.1)) free))

  -- ---- a line that moves no attempt

  pub nobody_keeps : Keeps before → attempt_at (before.at entry.by) ≡ None → attempt_at (after.at entry.by) ≡ None → ((who : Incarnation) (uuid : List ℕ) → IsTrue (is_of_node who) → Unchanged who uuid) → Keeps after
  nobody_keeps keeps was now same = record {
    movers = λ by a is. elim (cases_Bool (same_line entry.by by)) [
      | inl its ↦ absurd (let none : None ≡ Some a = sym now ∙ (ap (λ (b : By). attempt_at (after.at b)) (same_by entry.by by its) ∙ is) in cc)
      | inr differs ↦ keeps.movers by a (ap attempt_at (sym (step.others by differs)) ∙ is)
    ];
    attempts = λ a of. other_stands a (keeps.attempts a of) (ap (is_the a) now) (ap (is_the a) was) (λ there. same (caller_of a) (named before a) of);
    uuids = λ who uuid of. other_lies who uuid (same who uuid of) (keeps.uuids who uuid of);
  }

  -- ---- a line that moves an attempt

  module _ (capacity : ℕ) (legal : Legal (before.door ++ entry ∷ [])) (bytes : HasBytes (before.door ++ entry ∷ [])) (nodes : AreLegal capacity before) (keeps : Keeps before)
      (command : Command) (numbers : List ℕ) (ends : Ends) (place : ℕ) (of : IsTrue (is_of_attempt command)) (goes : advance command numbers ends (before.at entry.by) (AtDoor place entry.act) ≡ Some (after.at entry.by)) where
    abbrev from : Progress
    from = before.at entry.by

    abbrev to : Progress
    to = after.at entry.by

    mover : Mover from
    mover = door_mover command numbers ends from to place entry.act of goes

    abbrev b : Attempt
    b = mover.0

    own : IsTrue (is_own_act from entry.act)
    own = acts_own command numbers ends from to place entry.act of goes

    b_of_node : IsTrue (is_of_node (caller_of b))
    b_of_node = keeps.movers entry.by b mover.1

    before_legal : Legal before.door × IsTrue (may_follow before.door entry)
    before_legal = each_after_snoc may_follow [] before.door entry legal

    of_bytes : HasBytes before.door × HasBytes (entry ∷ [])
    of_bytes = all_append (λ (e : DoorEntry). acts_bytes e.act) before.door (entry ∷ []) bytes

    -- its incarnation is up, so it wasn't fenced
    up_by : (act : DoorAct) → IsTrue (is_own_act from act) → IsTrue (may_come before.door act) ⊎ IsTrue (may_read before.door act) → IsTrue (is_up (caller_at from) before.door)
    up_by (doors.Claim uuid node inc) its (inl come) =
        subst (λ (who : Incarnation). IsTrue (is_up who before.door)) (sym (same_who (caller_at from) (incarnation node inc) (and_parts (same_incarnation (caller_at from) (incarnation node inc)) (bytes_eq (uuid_at from) uuid) its).0)) (and_parts (is_up (incarnation node inc) before.door) _ come).0
    up_by (doors.Claim uuid node inc) its (inr read) = absurd (false≢true read)
    up_by (doors.Release uuid node inc) its (inl come) =
        subst (λ (who : Incarnation). IsTrue (is_up who before.door)) (sym (same_who (caller_at from) (incarnation node inc) (and_parts (same_incarnation (caller_at from) (incarnation node inc)) (bytes_eq (uuid_at from) uuid) its).0)) (and_parts (is_up (incarnation node inc) before.door) _ come).0
    up_by (doors.Release uuid node inc) its (inr read) = absurd (false≢true read)
    up_by (doors.Call node inc asked answer) its (inl come) =
        subst (λ (who : Incarnation). IsTrue (is_up who before.door)) (sym (same_who (caller_at from) (incarnation node inc) (and_parts (same_incarnation (caller_at from) (incarnation node inc)) (is_own_call from asked) its).0)) (and_parts (is_up (incarnation node inc) before.door) _ come).0
    up_by (doors.Call node inc asked answer) its (inr read) =
        let mine = same_who (caller_at from) (incarnation node inc) (and_parts (same_incarnation (caller_at from) (incarnation node inc)) (is_own_call from asked) its).0 in
        let office = same_who the_office (incarnation node inc) (and_parts _ _ (and_parts _ _ read).0).0 in
        absurd (false≢true (subst (λ (who : Incarnation). IsTrue (is_of_node who)) (sym mover.2 ∙ (mine ∙ sym office)) b_of_node))
    up_by act its rule = absurd (false≢true its)

    not_shut : IsTrue (is_fenced (caller_of b) before.door) → ⊥
    not_shut gone =
        let up : IsTrue (is_up (caller_of b) before.door) = subst (λ (who : Incarnation). IsTrue (is_up who before.door)) mover.2 (up_by entry.act own (by_rule before.door entry before_legal.1).1) in
        true≢false (sym up ∙ fenced_down (caller_of b) before.door before_legal.0 gone)

    -- so its attempt stands as it should
    abbrev Its : Type 0
    Its = IsTrue (moves from b (doing before b) (named before b)) × IsTrue (keeps_row from (stage_of before b) (puts_of before b)) × ((other : By) → IsFalse (same_line entry.by other) → IsFalse (is_the b (attempt_at (before.at other))))

    its_is : IsTrue (is_the b (attempt_at from))
    its_is = is_itself b (attempt_at from) mover.1

    its_of : Stands before b → Its
    its_of (IsShut gone) = absurd (not_shut gone)
    its_of (IsAtRest none rest) = absurd (true≢false (sym its_is ∙ none entry.by))
    its_of (IsMoved by moved row only) = elim (cases_Bool (same_line by entry.by)) [
      | inl is ↦ (let e = same_by by entry.by is in
          (subst (λ (x : By). IsTrue (moves (before.at x) b (doing before b) (named before b))) e moved, subst (λ (x : By). IsTrue (keeps_row (before.at x) (stage_of before b) (puts_of before b))) e row, subst (λ (x : By). (other : By) → IsFalse (same_line x other) → IsFalse (is_the b (attempt_at (before.at other)))) e only))
      | inr differs ↦ absurd (true≢false (sym its_is ∙ only entry.by differs))
    ]

    its : Its
    its = its_of (keeps.attempts b b_of_node)

    b_parts : IsTrue (is_the b (attempt_at from)) × IsTrue (is_doing from (doing before b)) × IsTrue (names_uuid from (named before b))
    b_parts = moves_it from b (doing before b) (named before b) its.0

    b_there : IsFalse (is_gone (doing before b))
    b_there = doing_there from (doing before b) b_parts.1

    b_uuid : uuid_at from ≡ named before b
    b_uuid = same_bytes (uuid_at from) (named before b) (mover.3 (named before b) b_parts.2)

    b_row : IsTrue (is_row from (stage_of before b)) × IsTrue (are_row_puts from (puts_of before b))
    b_row = and_parts (is_row from (stage_of before b)) (are_row_puts from (puts_of before b)) its.1

    at_its : (P : Incarnation → List ℕ → Type 0) → P (caller_of b) (named before b) → P (caller_at from) (uuid_at from)
    at_its P so = subst (λ (who : Incarnation). P who (uuid_at from)) (sym mover.2) (subst (λ (u : List ℕ). P (caller_of b) u) (sym b_uuid) so)

    from_its : (P : Incarnation → List ℕ → Type 0) → P (caller_at from) (uuid_at from) → P (caller_of b) (named before b)
    from_its P so = subst (λ (who : Incarnation). P who (named before b)) mover.2 (subst (λ (u : List ℕ). P (caller_at from) u) b_uuid so)

    unchanged : (who : Incarnation) (uuid : List ℕ) → Apart from who uuid → Unchanged who uuid
    unchanged who uuid apart = (
      stage_stays from entry.act own (and_parts (acts_bytes entry.act) true of_bytes.1).0 before.door of_bytes.0
          (λ node inc asked answer is. at_its (λ (w : Incarnation) (u : List ℕ). Busy (stage w u before.door))
          (call_busy command numbers ends from to place node inc asked answer (stage_of before b) of b_row.0 (ap (λ (act : DoorAct). advance command numbers ends from (AtDoor place act)) (sym is) ∙ goes))) who uuid apart,
      puts_stay from entry.act own who uuid (put_under_claim who uuid before.door) apart,
    )

    -- where the line stands before the entry
    pub at_position : IsTrue (is_of_node (caller_at from)) × IsTrue (is_row from (stage (caller_at from) (uuid_at from) before.door)) × IsTrue (is_own_act from entry.act)
    at_position = (subst (λ (who : Incarnation). IsTrue (is_of_node who)) (sym mover.2) b_of_node, at_its (λ (w : Incarnation) (u : List ℕ). IsTrue (is_row from (stage w u before.door))) b_row.0, own)

    -- the attempt goes along
    b_moved : IsTrue (moves to b (doing after b) (named after b))
    b_moved = moved_still to b (attempts_stay command numbers (named before b) ends from to place entry.act b (doing before b) of its.0 goes)

    b_row_now : IsTrue (keeps_row to (stage_of after b) (puts_of after b))
    b_row_now =
        let row = rows_move command numbers ends from to place entry.act (stage_of before b) of b_row.0 goes in
        let puts = puts_move command numbers ends from to place entry.act (puts_of before b) of b_row.1 goes in
        let row_its = from_its (λ (w : Incarnation) (u : List ℕ). IsTrue (is_row to (stage_after w u (stage_of before b) entry.act))) row in
        let puts_its = from_its (λ (w : Incarnation) (u : List ℕ). IsTrue (are_row_puts to (put_after w u (puts_of before b) entry.act))) puts in
        let stage_is : stage_of after b ≡ stage_after (caller_of b) (named before b) (stage_of before b) entry.act = ap (λ (u : List ℕ). stage (caller_of b) u after.door) (same_named b) ∙ stage_now (caller_of b) (named before b) in
        let puts_is : puts_of after b ≡ put_after (caller_of b) (named before b) (puts_of before b) entry.act = ap (λ (u : List ℕ). put_under_claim (caller_of b) u after.door) (same_named b) ∙ puts_now (caller_of b) (named before b) in
        and_from _ _ (subst (λ (s : Stage). IsTrue (is_row to s)) (sym stage_is) row_its) (subst (λ (p : List Commit). IsTrue (are_row_puts to p)) (sym puts_is) puts_its)

    to_is : attempt_at to ≡ Some b
    to_is = the_is b (attempt_at to) (moves_it to b (doing after b) (named after b) b_moved).0

    -- an attempt that is there, and another, is of another incarnation or another UUID
    apart : (a : Attempt) → same_attempt a b ≡ false → IsFalse (is_gone (doing before a)) → Apart from (caller_of a) (named before a)
    apart a differs there = elim (cases_Bool (same_incarnation (caller_of a) (caller_at from))) [
      | inr other ↦ inl other
      | inl same ↦ inr (false_from_ne_true (bytes_eq (named before a) (uuid_at from)) (λ equal.
          let who = same_who (caller_of a) (caller_at from) same ∙ mover.2 in
          let one = alone capacity before nodes a b (ap (λ (w : Incarnation). w.node) who) (ap (λ (w : Incarnation). w.inc) who) there b_there (same_bytes (named before a) (uuid_at from) equal ∙ b_uuid) in
          true≢false (sym (subst (λ (x : Attempt). IsTrue (same_attempt a x)) one (same_itself a)) ∙ differs)))
    ]

    pub mover_keeps : Keeps after
    mover_keeps = record {
      movers = λ by a is. elim (cases_Bool (same_line entry.by by)) [
        | inl same ↦
            let both : Some b ≡ Some a = sym to_is ∙ (ap (λ (x : By). attempt_at (after.at x)) (same_by entry.by by same) ∙ is) in
            let one : b ≡ a = cc in
            subst (λ (x : Attempt). IsTrue (is_of_node (caller_of x))) one b_of_node
        | inr differs ↦ keeps.movers by a (ap attempt_at (sym (step.others by differs)) ∙ is)
      ];
      attempts = λ a of_a. elim (cases_Bool (same_attempt a b)) [
        | inl same ↦ subst (λ (x : Attempt). Stands after x) (sym (same_attempts a b same)) (IsMoved entry.by b_moved b_row_now (λ other differs. subst (λ (p : Progress). IsFalse (is_the b (attempt_at p))) (sym (step.others other differs)) (its.2 other differs)))
        | inr differs ↦ other_stands a (keeps.attempts a of_a) (ap (is_the a) to_is ∙ differs) (ap (is_the a) mover.1 ∙ differs) (λ there. unchanged (caller_of a) (named before a) (apart a differs there))
      ];
      uuids = λ who uuid of_who. elim (cases_Bool (same_incarnation who (caller_at from))) [
        | inr other ↦ other_lies who uuid (unchanged who uuid (inl other)) (keeps.uuids who uuid of_who)
        | inl same ↦ elim (cases_Bool (bytes_eq uuid (uuid_at from))) [
          | inr other ↦ other_lies who uuid (unchanged who uuid (inr other)) (keeps.uuids who uuid of_who)
          | inl equal ↦ HasOne b (sym (same_who who (caller_at from) same ∙ mover.2)) (there_still b b_there) (same_named b ∙ (sym b_uuid ∙ sym (same_bytes uuid (uuid_at from) equal)))
        ]
      ];
    }

pub mover_steps_keep : (capacity : ℕ) (command : Command) (numbers : List ℕ) (ends : Ends) (place : ℕ) (entry : DoorEntry) (before after : Scene) → Legal (before.door ++ entry ∷ []) → HasBytes (before.door ++ entry ∷ []) → AreLegal capacity before → DoorStep entry before after → IsTrue (is_of_attempt command)
    → advance command numbers ends (before.at entry.by) (AtDoor place entry.act) ≡ Some (after.at entry.by) → Keeps before → Keeps after
mover_steps_keep capacity command numbers ends place entry before after legal bytes nodes step of goes keeps = mover_keeps entry before after step capacity legal bytes nodes keeps command numbers ends place of goes

pub bystander_steps_keep : (command : Command) (entry : DoorEntry) (before after : Scene) → DoorStep entry before after → is_of_attempt command ≡ false → IsTrue (makes_at_door command entry.act) → attempt_at (before.at entry.by) ≡ None → attempt_at (after.at entry.by) ≡ None → Keeps before → Keeps after
bystander_steps_keep command entry before after step other made was now keeps =
    nobody_keeps entry before after step keeps was now (λ who uuid of_node. (bystander who uuid (stage who uuid before.door) of_node command entry.act other made, bystander_puts who uuid (put_under_claim who uuid before.door) of_node command entry.act other made))

pub mover_in_stage : (capacity : ℕ) (command : Command) (numbers : List ℕ) (ends : Ends) (place : ℕ) (entry : DoorEntry) (before after : Scene) → Legal (before.door ++ entry ∷ []) → HasBytes (before.door ++ entry ∷ []) → AreLegal capacity before → DoorStep entry before after → IsTrue (is_of_attempt command)
    → advance command numbers ends (before.at entry.by) (AtDoor place entry.act) ≡ Some (after.at entry.by) → Keeps before → IsTrue (is_in_stage before.door entry.act)
mover_in_stage capacity command numbers ends place entry before after legal bytes nodes step of goes keeps =
    let at = at_position entry before after step capacity legal bytes nodes keeps command numbers ends place of goes in
    own_in_stage (before.at entry.by) before.door entry.act at.0 at.1 at.2

pub quiet_steps_keep : (entry : DoorEntry) (before after : Scene) → DoorStep entry before after → attempt_at (before.at entry.by) ≡ None → attempt_at (after.at entry.by) ≡ None → ((who : Incarnation) (uuid : List ℕ) (s : Stage) → IsTrue (is_of_node who) → stage_after who uuid s entry.act ≡ s)
    → ((who : Incarnation) (uuid : List ℕ) (puts : List Commit) → IsTrue (is_of_node who) → put_after who uuid puts entry.act ≡ puts) → Keeps before → Keeps after
quiet_steps_keep entry before after step was now stages puts keeps = nobody_keeps entry before after step keeps was now (λ who uuid of_node. (stages who uuid (stage who uuid before.door) of_node, puts who uuid (put_under_claim who uuid before.door) of_node))
