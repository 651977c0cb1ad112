-- The cause of what a get answers that has fetched.
use Rattle.std.proofs.Common.{◌≡◌, ℕ, Bool, true, false, ◌&&◌, ◌||◌, not, List, [], ◌∷◌, ◌++◌, refl, sym, subst, ◌∙◌, inl, inr}
use Rattle.std.specs.Prelude.{Err, IsTrue, None, Ok, Option, Result, Some, if◌then◌else◌, map, take}
use Rattle.std.specs.List.{list_any}
use Rattle.std.specs.Str.{bytes_eq}
use Rattle.std.proofs.lemmas.Bool.{and_from, false≢true, or_left, or_right, eq-eqb}
use Rattle.aft_id.specs.declared.txn_id.TxnId.{TxnId}
use Rattle.aft_id.specs.TxnId.{same_id}
use Rattle.aft_keeper.specs.declared.keeper.KeeperAnswer.{KeeperAnswer}
use Rattle.aft_keeper.specs.declared.keeper.KeeperAnswer.TheVariants as answers
use Rattle.aft_keeper.specs.declared.keeper.Pair.{Pair}
use Rattle.aft_records.specs.declared.fault.RecordFault.{RecordFault}
use Rattle.aft_records.specs.declared.stored.Version.{Version}
use Rattle.aft_records.specs.Reading.{version_of}
use Rattle.aft_model.specs.declared.caller.Attempt.{Attempt}
use Rattle.aft_model.specs.declared.caller.By.{By}
use Rattle.aft_model.specs.declared.caller.Hold.{Hold}
use Rattle.aft_model.specs.declared.choice.Picked.TheVariants as picked
use Rattle.aft_model.specs.declared.door.DoorEntry.{DoorEntry}
use Rattle.aft_model.specs.declared.node.NodeAct.{NodeAct}
use Rattle.aft_model.specs.declared.node.NodeAct.TheVariants as acts
use Rattle.aft_model.specs.declared.node.NodeEntry.{NodeEntry}
use Rattle.aft_model.specs.declared.reply.Reply.{Reply}
use Rattle.aft_model.specs.declared.reply.Reply.TheVariants as replies
use Rattle.aft_model.specs.declared.script.Command.TheVariants as commands
use Rattle.aft_model.specs.Attempts.{attempt_state, is_running}
use Rattle.aft_model.specs.DoorKnowledge.{finds_absent}
use Rattle.aft_model.specs.History.{first_of}
use Rattle.aft_model.specs.Membership.{incarnation}
use Rattle.aft_model.specs.NodeRules.{pick, same_picked}
use Rattle.aft_model.specs.NodeSights.{finds_version, is_fenced}
use Rattle.aft_model.specs.NodeState.{boots, node_state, serves, service}
use Rattle.aft_model.specs.Readings.{version_name, versions_in}
use Rattle.aft_model.proofs.Growth.{given_grows}
use Rattle.aft_model.proofs.OneCommit.{same_itself as caller_itself}
use Rattle.aft_model.proofs.Sights.{bytes_eq-refl}
use Rattle.aft_lines.specs.Causes.{Caused}
use Rattle.aft_lines.specs.CausesNodes.{is_lost, is_of_held}
use Rattle.aft_lines.specs.CausesReads.{found_nothing, found_value, of_get, picks}
use Rattle.aft_lines.specs.CausesScans.{damaged_names, is_too_many_records_caused, is_written_name}
use Rattle.aft_lines.specs.CourseWords.{caller_of}
use Rattle.aft_lines.specs.LineView.{LineView, door_entries, has_left, is_served, last_front}
use Rattle.aft_lines.specs.Turns.{AtDoor, Turn}
use Rattle.aft_node.specs.declared.goes.Got.{Got}
use Rattle.aft_node.specs.declared.goes.Got.TheVariants.{Refused, Version as Came}
use Rattle.aft_turns.proofs.Views.{with_words}
use Rattle.aft_turns.proofs.Written.{version_written}
use Rattle.aft_read.specs.Fetched.{Answers, AreWords, fetch_act, no_memory, read_as}
use Rattle.aft_read.specs.Made.{Closes, Fetched, IsRefused, Picks, TellsOf, turn_at}
use Rattle.aft_read.proofs.Picked.{picked_so}
use Rattle.aft_read.proofs.Reading.{finds_it, read_no_other, read_none, unread}

module _ (capacity : ℕ) (by : By) (hold : Hold) (key : List ℕ) (a : Attempt) (id : TxnId) (before_first : List NodeEntry) (front_first : ℕ) (picks_it : Picks capacity hold key a (picked.Fetch id) before_first) (view : LineView) (cache : view.settings.cache ≡ capacity) (before : List NodeEntry) (front : ℕ) (act : NodeAct) (told : Option Reply) where
  -- the line that did these turns between its pick and its last one
  abbrev ran : List Turn → LineView
  ran more = with_words (commands.Get key) hold (turn_at by hold before_first front_first (acts.Select a key (picked.Fetch id)) None ∷ more ++ turn_at by hold before front act told ∷ []) view

  one_reply : (r q : Reply) → Some r ≡ Some q → r ≡ q
  one_reply r q e = cc

  -- what it has picked
  picks_fetch : (more : List Turn) → IsTrue (picks (picked.Fetch id) (ran more))
  picks_fetch more = subst (λ (kept : ℕ). IsTrue (is_served (λ b serving. is_running (attempt_state b serving.part) && same_picked (pick kept serving b key) (picked.Fetch id)) hold.attempt (service before_first))) (sym cache) (picked_so capacity hold key a (picked.Fetch id) before_first picks_it)

  of_held : IsTrue (is_of_held (incarnation a.node a.inc) hold.attempt)
  of_held = subst (λ (o : Option Attempt). IsTrue (is_of_held (incarnation a.node a.inc) o)) (sym picks_it.held) (and_from _ _ (eq-eqb a.node a.node refl) (eq-eqb a.inc a.inc refl))

  -- ---- the node has left the incarnation

  not_served : (serving booting : Bool) → IsTrue (not (serving || booting)) → IsTrue (not serving)
  not_served false booting is = refl
  not_served true booting is = absurd (false≢true is)

  left_none : IsTrue (has_left a.inc (node_state before)) → IsTrue (is_lost (incarnation a.node a.inc) (ran []))
  left_none left = or_left _ _ (or_right _ _ (or_left _ _ (not_served (serves a.inc (node_state before)) (boots a.inc (node_state before)) left)))

  left_one : (turn : Turn) (place : ℕ) (answer : KeeperAnswer) → turn ≡ AtDoor place (fetch_act a key id answer) → IsTrue (has_left a.inc (node_state before)) → IsTrue (is_lost (incarnation a.node a.inc) (ran (turn ∷ [])))
  left_one turn place answer is left = subst (λ (t : Turn). IsTrue (is_lost (incarnation a.node a.inc) (ran (t ∷ [])))) (sym is) (or_left _ _ (or_right _ _ (or_left _ _ (not_served (serves a.inc (node_state before)) (boots a.inc (node_state before)) left))))

  -- ---- it was refused

  shut_out : (look rest : List DoorEntry) → IsTrue (is_fenced (incarnation a.node a.inc) look) → take (last_front (ran [])) view.seen ≡ look ++ rest → IsTrue (is_lost (incarnation a.node a.inc) (ran []))
  shut_out look rest fenced begins = or_right _ _ (subst (λ (seen : List DoorEntry). IsTrue (is_fenced (incarnation a.node a.inc) seen)) (sym begins) (given_grows _ _ look rest fenced))

  refused_caused : (look rest : List DoorEntry) (got : Got) (place : ℕ) (reply : Reply) → take (last_front (ran [])) view.seen ≡ look ++ rest → IsRefused a look got → TellsOf a key id place got act told → told ≡ Some reply → Caused (ran []) reply
  refused_caused look rest got place reply begins (inl (is, fenced)) tells answered =
      let lost = subst (λ (g : Got). TellsOf a key id place g act told) is tells in
      subst (Caused (ran [])) (one_reply (replies.NodeDown a.node a.inc) reply (sym lost.1 ∙ answered)) (and_from _ _ of_held (shut_out look rest fenced begins))
  refused_caused look rest got place reply begins (inr is) tells answered =
      let lost = subst (λ (g : Got). TellsOf a key id place g act told) is tells in
      subst (Caused (ran [])) (one_reply replies.NoMemory reply (sym lost.1 ∙ answered)) refl

  -- ---- the store was asked

  -- what it told
  told_lost : (got : Got) (place : ℕ) (its reply : Reply) → got ≡ Refused its → TellsOf a key id place got act told → told ≡ Some reply → its ≡ reply
  told_lost got place its reply is tells answered = one_reply its reply (sym (subst (λ (g : Got). TellsOf a key id place g act told) is tells).1 ∙ answered)

  told_value : (got : Got) (place : ℕ) (value : List ℕ) (reply : Reply) → got ≡ Came value → TellsOf a key id place got act told → told ≡ Some reply → replies.Value id value ≡ reply
  told_value got place value reply is tells answered =
      let came = subst (λ (g : Got). TellsOf a key id place g act told) is tells in
      one_reply (replies.Value id value) reply (sym came.2 ∙ answered)

  -- the line that asked, and was answered so
  abbrev asked : ℕ → KeeperAnswer → LineView
  asked place answer = ran (AtDoor place (fetch_act a key id answer) ∷ [])

  missing_caused : (place : ℕ) → Caused (asked place answers.Absent) (replies.Missing id)
  missing_caused place =
      and_from (picks (picked.Fetch id) (asked place answers.Absent)) (found_nothing id (asked place answers.Absent)) (picks_fetch (AtDoor place (fetch_act a key id answers.Absent) ∷ []))
      (subst (λ (o : Option Attempt). IsTrue (of_get (λ b k. list_any (λ entry. finds_absent (caller_of b) (version_name k id) entry.act) (door_entries (asked place answers.Absent))) (commands.Get key) o)) (sym picks_it.held)
      (or_left _ _ (and_from _ _ (caller_itself (caller_of a)) (bytes_eq-refl (version_name key id)))))

  module _ (place : ℕ) (bytes : List ℕ) (words : AreWords key id (answers.Found bytes)) where
    abbrev pair : Pair
    pair = record { name = version_name key id; bytes = bytes }

    value_caused : (v : Version) → version_of bytes ≡ Ok v → IsTrue (bytes_eq key v.key && same_id id v.id) → Caused (asked place (answers.Found bytes)) (replies.Value id v.value)
    value_caused v of same =
        or_right _ _ (and_from (picks (picked.Fetch id) (asked place (answers.Found bytes))) (found_value id v.value (asked place (answers.Found bytes))) (picks_fetch (AtDoor place (fetch_act a key id (answers.Found bytes)) ∷ []))
        (subst (λ (o : Option Attempt). IsTrue (of_get (λ b k. list_any (λ entry. finds_version (caller_of b) k id v.value entry.act) (door_entries (asked place (answers.Found bytes)))) (commands.Get key) o)) (sym picks_it.held)
        (or_left _ _ (finds_it a key id bytes v of same))))

    damaged_caused : versions_in pair ≡ [] → Caused (asked place (answers.Found bytes)) (replies.Damaged (version_name key id))
    damaged_caused none =
        and_from (is_written_name (version_name key id) (first_of (damaged_names (asked place (answers.Found bytes))))) (not (is_too_many_records_caused (asked place (answers.Found bytes))))
        (subst (λ (reads : Bool). IsTrue (is_written_name (version_name key id) (first_of (map (λ (p : Pair). p.name) (if not reads || false then pair ∷ [] else []) ++ [])))) (sym (unread key id bytes none))
        (subst (λ (name : List ℕ). IsTrue (bytes_eq (version_name key id) name)) (sym (version_written key id words.0 words.1)) (bytes_eq-refl (version_name key id))))
        refl

    read_caused : (got : Got) (reply : Reply) (read : Result Version RecordFault) → version_of bytes ≡ read → got ≡ read_as key id read → TellsOf a key id place got act told → told ≡ Some reply → Caused (asked place (answers.Found bytes)) reply
    read_caused got reply (Err fault) of is tells answered = subst (Caused (asked place (answers.Found bytes))) (told_lost got place (replies.Damaged (version_name key id)) reply is tells answered) (damaged_caused (read_none key id bytes fault of))
    read_caused got reply (Ok v) of is tells answered = by_words (bytes_eq key v.key && same_id id v.id) refl is
      where
        by_words : (same : Bool) → (bytes_eq key v.key && same_id id v.id) ≡ same → got ≡ (if same then Came v.value else Refused (replies.Damaged (version_name key id))) → Caused (asked place (answers.Found bytes)) reply
        by_words true same is = subst (Caused (asked place (answers.Found bytes))) (told_value got place v.value reply is tells answered) (value_caused v of same)
        by_words false differs is = subst (Caused (asked place (answers.Found bytes))) (told_lost got place (replies.Damaged (version_name key id)) reply is tells answered) (damaged_caused (read_no_other key id bytes v words.0 words.1 words.2 of differs))

  answered_caused : (place : ℕ) (answer : KeeperAnswer) (got : Got) (reply : Reply) → AreWords key id answer → Answers key id answer got → TellsOf a key id place got act told → told ≡ Some reply → Caused (asked place answer) reply
  answered_caused place (answers.Found bytes) got reply words is tells answered = read_caused place bytes words got reply (version_of bytes) refl is tells answered
  answered_caused place answers.Absent got reply words is tells answered = subst (Caused (asked place answers.Absent)) (told_lost got place (replies.Missing id) reply is tells answered) (missing_caused place)
  answered_caused place answers.Failed got reply words is tells answered = subst (Caused (asked place answers.Failed)) (told_lost got place replies.StoreFault reply is tells answered) refl
  answered_caused place answers.Done got reply words is tells answered = absurd is
  answered_caused place (answers.Page pairs) got reply words is tells answered = absurd is

  unremembered : (more : List Turn) (got : Got) (place : ℕ) (reply : Reply) → got ≡ no_memory → TellsOf a key id place got act told → told ≡ Some reply → Caused (ran more) reply
  unremembered more got place reply is tells answered = subst (Caused (ran more)) (told_lost got place replies.NoMemory reply is tells answered) refl

  -- ---- the cause

  left_caused : (more : List Turn) (reply : Reply) → IsTrue (is_lost (incarnation a.node a.inc) (ran more)) → told ≡ Some (replies.NodeDown a.node a.inc) → told ≡ Some reply → Caused (ran more) reply
  left_caused more reply lost is answered = subst (Caused (ran more)) (one_reply (replies.NodeDown a.node a.inc) reply (sym is ∙ answered)) (and_from _ _ of_held lost)

  pub caused_so : (look rest : List DoorEntry) (more : List Turn) (got : Got) (place : ℕ) (reply : Reply) → take (last_front (ran more)) view.seen ≡ look ++ rest → Fetched a key id got place look more → Closes a key id place got before act told → told ≡ Some reply → Caused (ran more) reply
  caused_so look rest more got place reply begins (inl (none, was)) (inl tells) answered =
      subst (λ (ts : List Turn). Caused (ran ts) reply) (sym none) (refused_caused look rest got place reply (subst (λ (ts : List Turn). take (last_front (ran ts)) view.seen ≡ look ++ rest) none begins) was tells answered)
  caused_so look rest more got place reply begins (inl (none, was)) (inr (left, did, is)) answered =
      subst (λ (ts : List Turn). Caused (ran ts) reply) (sym none) (left_caused [] reply (left_none left) is answered)
  caused_so look rest more got place reply begins (inr (answer, words, one, inl came)) (inl tells) answered =
      subst (λ (ts : List Turn). Caused (ran ts) reply) (sym one) (answered_caused place answer got reply words came tells answered)
  caused_so look rest more got place reply begins (inr (answer, words, one, inr unknown)) (inl tells) answered = unremembered more got place reply unknown tells answered
  caused_so look rest more got place reply begins (inr (answer, words, one, came)) (inr (left, did, is)) answered =
      subst (λ (ts : List Turn). Caused (ran ts) reply) (sym one) (left_caused (AtDoor place (fetch_act a key id answer) ∷ []) reply (left_one (AtDoor place (fetch_act a key id answer)) place answer refl left) is answered)
