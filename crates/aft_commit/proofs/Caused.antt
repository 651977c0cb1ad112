-- The cause of what the last of several turns of a commit or an abort answers.
use Rattle.std.proofs.Common.{◌≡◌, ℕ, Bool, true, false, ◌&&◌, ◌||◌, not, List, [], ◌∷◌, ◌++◌, length, refl, sym, ap, subst, ◌∙◌, inl, inr, append-nil}
use Rattle.std.specs.Prelude.{IsTrue, None, Option, Some, take, nat_lt, ◌==◌}
use Rattle.std.specs.List.{flat_map, last_or, list_all, list_any}
use Rattle.std.proofs.lemmas.Bool.{and_from, and_parts, eq-eqb, false≢true, or_left, or_right}
use Rattle.std.proofs.lemmas.List.Concat.{flat_map-append}
use Rattle.std.proofs.lemmas.List.Folds.{list_any-append}
use Rattle.aft_id.specs.declared.txn_id.TxnId.{TxnId}
use Rattle.aft_id.specs.TxnId.{same_id}
use Rattle.aft_keeper.specs.declared.keeper.KeeperCall.TheVariants.{Get, Put}
use Rattle.aft_keeper.specs.declared.keeper.Pair.{Pair}
use Rattle.aft_records.specs.declared.stored.Commit.{Commit}
use Rattle.aft_model.specs.declared.caller.Attempt.{Attempt}
use Rattle.aft_model.specs.declared.caller.By.{By}
use Rattle.aft_model.specs.declared.caller.Hold.{Hold}
use Rattle.aft_model.specs.declared.door.DoorAct.{DoorAct}
use Rattle.aft_model.specs.declared.door.DoorAct.TheVariants as doors
use Rattle.aft_model.specs.declared.door.DoorEntry.{DoorEntry}
use Rattle.aft_model.specs.declared.node.NodeAct.{NodeAct}
use Rattle.aft_model.specs.declared.node.NodeEntry.{NodeEntry}
use Rattle.aft_model.specs.declared.reply.Reply.{Reply}
use Rattle.aft_model.specs.declared.reply.Reply.TheVariants as replies
use Rattle.aft_model.specs.declared.script.Command.{Command}
use Rattle.aft_model.specs.Attempts.{is_in_doubt}
use Rattle.aft_model.specs.Evidence.{shows_absent}
use Rattle.aft_model.specs.History.{first_of}
use Rattle.aft_model.specs.NodeSights.{is_fenced, is_stored_by}
use Rattle.aft_model.specs.NodeState.{Service, boots, node_state, part, serves, service}
use Rattle.aft_model.specs.Opening.{has_failed}
use Rattle.aft_model.specs.Readings.{record_name}
use Rattle.aft_model.specs.Sound.{markers_prefix, records_prefix}
use Rattle.aft_model.proofs.Growth.{given_grows}
use Rattle.aft_model.proofs.Ids.{same_id-refl}
use Rattle.aft_lines.specs.Causes.{Caused}
use Rattle.aft_lines.specs.CausesAttempts.{is_ready, state_in}
use Rattle.aft_lines.specs.CausesBegins.{of_begin, shows_id}
use Rattle.aft_lines.specs.CausesCommits.{fails_both, is_found_absent, is_in_doubt_caused}
use Rattle.aft_lines.specs.CausesNodes.{is_of_held, is_unserved}
use Rattle.aft_lines.specs.CausesScans.{damage_for, damage_in, damaged_names, is_damaged_at_all, is_too_many_records_caused, is_written_name, listed_in, records_limit, tells_fault}
use Rattle.aft_lines.specs.CourseWords.{caller_of}
use Rattle.aft_lines.specs.LineView.{LineView, NodeTurn, before_turn, behind_first, behind_turn, door_entries, door_entry_in, fixed_by, fixed_for, found_service, front_of, has_left, is_abort, is_commit, is_fixed, is_for_fixed, is_served, is_silent_turn, last_front, node_turn_in, node_turns, went_on}
use Rattle.aft_lines.specs.Makes.{makes, makes_at_door}
use Rattle.aft_lines.specs.Turns.{AtDoor, AtNode, AtOffice, Turn}
use Rattle.aft_turns.proofs.Views.{with_words}
use Rattle.aft_commit.specs.Made.{command_of}
use Rattle.aft_commit.specs.Told.{Closes, Closing, HasBegun, HasFault, IsDoubted, IsDown, IsEnded, IsToLeave, IsToStore, ToldDoubt, ToldEnd, closing_act, closing_reply, entries_by, may_leave_with, turn_at}
use Rattle.aft_commit.specs.View.{told_of}
use Rattle.aft_commit.specs.declared.outcome.Outcome.{Outcome}
use Rattle.aft_commit.specs.declared.outcome.Outcome.TheVariants.{Absent, Left, Stored}
use Rattle.aft_commit.proofs.Once.{down_alike}

-- ---- commits and aborts alike

fixed_alike : (aborts : Bool) (view : LineView) → fixed_for (command_of aborts) view ≡ fixed_by view.hold.attempt (part (behind_first view))
fixed_alike true view = refl
fixed_alike false view = refl

damage_alike : (aborts : Bool) (fixed : Option Commit) (entries : List DoorEntry) → flat_map (damage_for (command_of aborts) fixed) entries ≡ flat_map (damage_in fixed) entries
damage_alike aborts fixed [] = refl
damage_alike true fixed (e ∷ entries) = ap (λ (names : List (List ℕ)). damage_in fixed e ++ names) (damage_alike true fixed entries)
damage_alike false fixed (e ∷ entries) = ap (λ (names : List (List ℕ)). damage_in fixed e ++ names) (damage_alike false fixed entries)

fault_alike : (aborts : Bool) (view : LineView) → IsTrue (has_failed (door_entries view)) → IsTrue (not (is_in_doubt_caused view || is_damaged_at_all view)) → IsTrue (tells_fault (command_of aborts) view)
fault_alike true view failed alone = failed
fault_alike false view failed alone = and_from _ _ failed alone

limit_alike : (aborts : Bool) (count : ℕ) → nat_lt (records_limit (command_of aborts)).most count ≡ nat_lt 20000 count
limit_alike true count = refl
limit_alike false count = refl

-- they read no pages
act_unlisted : (aborts : Bool) (prefix : List ℕ) (act : DoorAct) → IsTrue (makes_at_door (command_of aborts) act) → listed_in prefix act ≡ []
act_unlisted true prefix (doors.Release uuid node inc) may = refl
act_unlisted false prefix (doors.Release uuid node inc) may = refl
act_unlisted true prefix (doors.Call node inc (Get name) answer) may = refl
act_unlisted false prefix (doors.Call node inc (Get name) answer) may = refl
act_unlisted false prefix (doors.Call node inc (Put name bytes) answer) may = refl
act_unlisted true prefix act may = absurd (false≢true may)
act_unlisted false prefix act may = absurd (false≢true may)

unlisted : (aborts : Bool) (prefix : List ℕ) (by : By) (made : List Turn) → IsTrue (list_all (makes (command_of aborts)) made) → flat_map (λ entry. listed_in prefix entry.act) (entries_by by made) ≡ []
unlisted aborts prefix by [] may = refl
unlisted aborts prefix by (AtDoor place act ∷ made) may =
    let parts = and_parts (makes_at_door (command_of aborts) act) (list_all (makes (command_of aborts)) made) may in
    ap (λ (pairs : List Pair). pairs ++ flat_map (λ (entry : DoorEntry). listed_in prefix entry.act) (entries_by by made)) (act_unlisted aborts prefix act parts.0) ∙ unlisted aborts prefix by made parts.1
unlisted aborts prefix by (AtNode node before entry ∷ made) may = unlisted aborts prefix by made (and_parts (makes (command_of aborts) (AtNode node before entry)) (list_all (makes (command_of aborts)) made) may).1
unlisted aborts prefix by (AtOffice before entry ∷ made) may = unlisted aborts prefix by made (and_parts (makes (command_of aborts) (AtOffice before entry)) (list_all (makes (command_of aborts)) made) may).1

-- the last of a list
last_of : {A : Type 0} (before : Option A) (xs : List A) (x : A) → last_or before (xs ++ x ∷ []) ≡ Some x
last_of before [] x = refl
last_of before (y ∷ xs) x = last_of (Some y) xs x

-- the front of the last turn
pub front_at_last : (command : Command) (hold : Hold) (view : LineView) (by : By) (since : List Turn) (node : ℕ) (before : List NodeEntry) (front : ℕ) (act : NodeAct) (answer : Option Reply) → last_front (with_words command hold (since ++ turn_at by node before front act answer ∷ []) view) ≡ front
front_at_last command hold view by since node before front act answer =
    ap (λ (turns : List NodeTurn). front_of (last_or None turns)) (flat_map-append node_turn_in since (turn_at by node before front act answer ∷ []))
    ∙ ap front_of (last_of None (flat_map node_turn_in since) (record { before = before; entry = record { front = front; by = by; act = act; answer = answer } }))

not_served : (serving booting : Bool) → IsTrue (not (serving || booting)) → IsTrue (not serving)
not_served false booting is = refl
not_served true booting is = absurd (false≢true is)

never_both : (a b : Bool) → b ≡ false → (a && b) ≡ false
never_both true b other = other
never_both false b other = refl

neither_one : (a b : Bool) → a ≡ false → b ≡ false → IsTrue (not (a || b))
neither_one a b other none = rw (other, none) refl

module _ (by : By) (hold : Hold) (aborts : Bool) (view : LineView) (a : Attempt) (held : hold.attempt ≡ Some a) (since : List Turn) (node : ℕ) (before : List NodeEntry) (front : ℕ) where
  module _ (act : NodeAct) (reply : Reply) where
    -- the line whose last turn did this and answered so
    abbrev pub last : Turn
    last = turn_at by node before front act (Some reply)

    abbrev pub ran : LineView
    ran = with_words (command_of aborts) hold (since ++ last ∷ []) view

    -- ---- what its causes look at

    entries_are : door_entries ran ≡ entries_by view.by since
    entries_are = flat_map-append (door_entry_in view.by) since (last ∷ []) ∙ append-nil (entries_by view.by since)

    in_entries : (test : List DoorEntry → Bool) → IsTrue (test (entries_by view.by since)) → IsTrue (test (door_entries ran))
    in_entries test is = subst (λ (es : List DoorEntry). IsTrue (test es)) (sym entries_are) is

    found_is : (begun : HasBegun by since) → found_service ran ≡ service begun.before
    found_is begun = ap (λ (ts : List Turn). service (before_turn (first_of (flat_map node_turn_in (ts ++ last ∷ []))))) begun.turns

    found_in : (begun : HasBegun by since) (test : Attempt → Service → Bool) → IsTrue (is_served test hold.attempt (service begun.before)) → IsTrue (is_served test hold.attempt (found_service ran))
    found_in begun test is = subst (λ (o : Option Service). IsTrue (is_served test hold.attempt o)) (sym (found_is begun)) is

    fixed_is : (c : Commit) → IsToStore by hold aborts c since → fixed_for (command_of aborts) ran ≡ Some c
    fixed_is c stores =
        fixed_alike aborts ran
        ∙ ap (λ (ts : List Turn). fixed_by hold.attempt (part (behind_turn (first_of (flat_map node_turn_in (ts ++ last ∷ [])))))) stores.begun.turns
        ∙ stores.fixed

    of_fixed : (c : Commit) → IsToStore by hold aborts c since → (test : Commit → Bool) → is_for_fixed test ran ≡ test c
    of_fixed c stores test = ap (is_fixed test) (fixed_is c stores)

    in_fixed : (c : Commit) → IsToStore by hold aborts c since → (test : Commit → Bool) → IsTrue (test c) → IsTrue (is_for_fixed test ran)
    in_fixed c stores test is = of_fixed c stores test ∙ is

    went_so : HasBegun by since → IsTrue (went_on ran)
    went_so begun = subst (λ (ts : List Turn). IsTrue (is_silent_turn (first_of (flat_map node_turn_in (ts ++ last ∷ []))))) (sym begun.turns) refl

    names_are : (c : Commit) → IsToStore by hold aborts c since → damaged_names ran ≡ flat_map (damage_in (Some c)) (entries_by view.by since)
    names_are c stores =
        damage_alike aborts (fixed_for (command_of aborts) ran) (door_entries ran)
        ∙ ap (λ (o : Option Commit). flat_map (damage_in o) (door_entries ran)) (fixed_is c stores)
        ∙ ap (λ (es : List DoorEntry). flat_map (damage_in (Some c)) es) entries_are

    few_names : IsTrue (list_all (makes (command_of aborts)) since) → IsTrue (not (is_too_many_records_caused ran))
    few_names may =
        neither_one _ _
        (limit_alike aborts _ ∙ ap (λ (pairs : List Pair). nat_lt 20000 (length pairs)) (none_listed records_prefix))
        (ap (λ (pairs : List Pair). nat_lt 20000 (length pairs)) (none_listed markers_prefix))
      where
        none_listed : (prefix : List ℕ) → flat_map (λ entry. listed_in prefix entry.act) (door_entries ran) ≡ []
        none_listed prefix = ap (λ (es : List DoorEntry). flat_map (λ (entry : DoorEntry). listed_in prefix entry.act) es) entries_are ∙ unlisted aborts prefix view.by since may

  -- ---- its node is down

  of_held : IsTrue (is_of_held (caller_of a) hold.attempt)
  of_held = subst (λ (o : Option Attempt). IsTrue (is_of_held (caller_of a) o)) (sym held) (and_from _ _ (eq-eqb a.node a.node refl) (eq-eqb a.inc a.inc refl))

  abbrev IsCaused : NodeAct → Reply → Type 0
  IsCaused act reply = Caused (ran act reply) reply

  shut_out : (look more : List DoorEntry) (act : NodeAct) → take front view.seen ≡ look ++ more → HasBegun by since → IsTrue (is_fenced (caller_of a) look) → IsCaused act (replies.NodeDown a.node a.inc)
  shut_out look more act begins begun fenced =
      down_alike aborts (caller_of a) (ran act (replies.NodeDown a.node a.inc)) of_held
      (or_right (is_unserved a.inc (node_turns (ran act (replies.NodeDown a.node a.inc)))) _
      (and_from _ _ (went_so act (replies.NodeDown a.node a.inc) begun)
      (subst (λ (n : ℕ). IsTrue (is_fenced (caller_of a) (take n view.seen))) (sym (front_at_last (command_of aborts) hold view by since node before front act (Some (replies.NodeDown a.node a.inc))))
      (subst (λ (seen : List DoorEntry). IsTrue (is_fenced (caller_of a) seen)) (sym begins) (given_grows _ _ look more fenced)))))

  unserved : (act : NodeAct) → IsTrue (has_left a.inc (node_state before)) → IsCaused act (replies.NodeDown a.node a.inc)
  unserved act left =
      down_alike aborts (caller_of a) (ran act (replies.NodeDown a.node a.inc)) of_held
      (or_left _ _
      (subst (λ (turns : List NodeTurn). IsTrue (is_unserved a.inc turns)) (sym (flat_map-append node_turn_in since (last act (replies.NodeDown a.node a.inc) ∷ [])))
      (list_any-append (λ (turn : NodeTurn). not (serves a.inc (node_state turn.before))) (flat_map node_turn_in since) _
      ∙ or_right (is_unserved a.inc (flat_map node_turn_in since)) _ (or_left _ _ (not_served (serves a.inc (node_state before)) (boots a.inc (node_state before)) left)))))

  -- ---- it is left in doubt

  fault : (c : Commit) (act : NodeAct) → IsToStore by hold aborts c since → HasFault c since → IsCaused act replies.StoreFault
  fault c act stores has =
      fault_alike aborts (ran act replies.StoreFault) (in_entries act replies.StoreFault has_failed (has.failed view.by))
      (neither_one (is_in_doubt_caused (ran act replies.StoreFault)) (is_damaged_at_all (ran act replies.StoreFault))
      (never_both (is_commit (command_of aborts)) _
      (of_fixed act replies.StoreFault c stores (λ d. fails_both d (door_entries (ran act replies.StoreFault))) ∙ ap (fails_both c) (entries_are act replies.StoreFault) ∙ has.settled view.by))
      (ap (λ (names : List (List ℕ)). not (length names == 0) && not (is_too_many_records_caused (ran act replies.StoreFault))) (names_are act replies.StoreFault c stores ∙ has.undamaged view.by)))

  doubted : (look more : List DoorEntry) (c : Commit) (act : NodeAct) (reply : Reply) → take front view.seen ≡ look ++ more → IsTrue (list_all (makes (command_of aborts)) since) → IsToStore by hold aborts c since → ToldDoubt a look aborts c since reply → IsCaused act reply
  doubted look more c act replies.StoreFault begins may stores has = fault c act stores has
  doubted look more c act replies.InDoubt begins may stores (commits, both) =
      and_from _ _ (subst (λ (t : Bool). IsTrue (is_commit (command_of t))) (sym commits) refl)
      (in_fixed act replies.InDoubt c stores (λ d. fails_both d (door_entries (ran act replies.InDoubt))) (in_entries act replies.InDoubt (fails_both c) (both view.by)))
  doubted look more c act (replies.Damaged name) begins may stores first =
      and_from _ _ (subst (λ (names : List (List ℕ)). IsTrue (is_written_name name (first_of names))) (sym (names_are act (replies.Damaged name) c stores)) (first view.by)) (few_names act (replies.Damaged name) may)
  doubted look more c act (replies.NodeDown n i) begins may stores (here, its, fenced) =
      subst (λ (m : ℕ). IsCaused act (replies.NodeDown m i)) (sym here)
      (subst (λ (j : ℕ). IsCaused act (replies.NodeDown a.node j)) (sym its) (shut_out look more act begins stores.begun fenced))
  doubted look more c act replies.NoMemory begins may stores told = refl
  doubted look more c act reply begins may stores told = absurd told

  -- ---- it ends

  committed : (c : Commit) (act : NodeAct) (id : TxnId) → id ≡ c.id → IsToStore by hold aborts c since → IsTrue (is_stored_by c (entries_by view.by since)) → IsCaused act (replies.Committed id)
  committed c act id its stores stored =
      or_right (of_begin (λ uuid n. shows_id id (ran act (replies.Committed id))) (command_of aborts)) _
      (in_fixed act (replies.Committed id) c stores (λ d. same_id id d.id && is_stored_by d (door_entries (ran act (replies.Committed id))))
      (and_from _ _ (subst (λ (i : TxnId). IsTrue (same_id i c.id)) (sym its) (same_id-refl c.id)) (in_entries act (replies.Committed id) (is_stored_by c) stored)))

  aborted : (c : Commit) (act : NodeAct) → aborts ≡ true → IsToStore by hold aborts c since → IsTrue (list_any (shows_absent (record_name c.id.uuid)) (entries_by view.by since)) → IsCaused act replies.Aborted
  aborted c act abort stores absent =
      and_from _ _ (subst (λ (t : Bool). IsTrue (is_abort (command_of t))) (sym abort) refl)
      (or_right (is_served (is_ready (λ count. true)) hold.attempt (found_service (ran act replies.Aborted))) (is_found_absent (ran act replies.Aborted))
      (and_from _ _ (found_in act replies.Aborted stores.begun (λ b s. is_in_doubt (state_in b s)) (stores.doubted abort))
      (in_fixed act replies.Aborted c stores (λ d. list_any (shows_absent (record_name d.id.uuid)) (door_entries (ran act replies.Aborted))) (in_entries act replies.Aborted (λ es. list_any (shows_absent (record_name c.id.uuid)) es) absent))))

  left_so : (leaves : Bool) (act : NodeAct) → leaves ≡ aborts → IsToLeave by hold aborts since → IsCaused act (told_of (Left leaves))
  left_so true act same leaving =
      and_from _ _ (subst (λ (t : Bool). IsTrue (is_abort (command_of t))) same refl)
      (or_left _ _ (found_in act replies.Aborted leaving.begun (is_ready (λ count. true)) (subst (λ (t : Bool). IsTrue (is_served (is_ready (may_leave_with t)) hold.attempt (service leaving.begun.before))) (sym same) leaving.ready)))
  left_so false act same leaving =
      and_from _ _ (subst (λ (t : Bool). IsTrue (is_commit (command_of t))) same refl)
      (found_in act replies.Ended leaving.begun (is_ready (λ count. count == 0)) (subst (λ (t : Bool). IsTrue (is_served (is_ready (may_leave_with t)) hold.attempt (service leaving.begun.before))) (sym same) leaving.ready))

  ended : (uuid : List ℕ) (outcome : Outcome) (act : NodeAct) → ToldEnd by hold aborts uuid outcome since → IsCaused act (told_of outcome)
  ended uuid (Stored id) act (c, its, stores, stored) = committed c act id its stores (stored view.by)
  ended uuid Absent act (c, its, abort, stores, absent) = aborted c act abort stores (subst (λ (u : List ℕ). IsTrue (list_any (shows_absent (record_name u)) (entries_by view.by since))) its (absent view.by))
  ended uuid (Left leaves) act (same, leaving) = left_so leaves act same leaving

  -- ---- all of it

  pub caused_later : (look more : List DoorEntry) (closing : Closing) → take front view.seen ≡ look ++ more → IsTrue (list_all (makes (command_of aborts)) since) → Closes by hold aborts a look since before closing → IsCaused (closing_act a closing) (closing_reply a closing)
  caused_later look more (IsDoubted reply) begins may (c, stores, told) = doubted look more c (closing_act a (IsDoubted reply)) reply begins may stores told
  caused_later look more (IsEnded uuid outcome) begins may (told, does) = ended uuid outcome (closing_act a (IsEnded uuid outcome)) told
  caused_later look more IsDown begins may (begun, inl left) = unserved (closing_act a IsDown) left
  caused_later look more IsDown begins may (begun, inr fenced) = shut_out look more (closing_act a IsDown) begins begun fenced
