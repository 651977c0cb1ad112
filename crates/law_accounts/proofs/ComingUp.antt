-- An attempt that a get has picked for has come up: it is up at the end of a run so far, or was fenced.
use Rattle.std.proofs.Common.{◌≡◌, ℕ, false, ◌&&◌, ◌||◌, not, List, [], ◌∷◌, ◌++◌, refl, sym, ap, subst, ◌∙◌, ◌⊎◌, inl, inr, append-nil, append_assoc}
use Rattle.std.specs.Prelude.{IsTrue, None, Option, Some, filter}
use Rattle.std.specs.List.{list_any}
use Rattle.std.specs.Str.{bytes_eq}
use Rattle.std.proofs.lemmas.Bool.{and_parts, cases_Bool, false≢true, false_from_ne_true, or_cases, or_left, or_right, true≢false}
use Rattle.std.proofs.lemmas.List.Concat.{flat_map-append}
use Rattle.aft_id.specs.declared.txn_id.TxnId.{TxnId}
use Rattle.aft_model.specs.declared.caller.Attempt.{Attempt}
use Rattle.aft_model.specs.declared.choice.Picked.TheVariants as picked
use Rattle.aft_model.specs.declared.door.DoorAct.{DoorAct}
use Rattle.aft_model.specs.declared.door.DoorAct.TheVariants as doors
use Rattle.aft_model.specs.declared.door.DoorEntry.{DoorEntry}
use Rattle.aft_model.specs.declared.node.NodeAct.{NodeAct}
use Rattle.aft_model.specs.declared.node.NodeAct.TheVariants as acts
use Rattle.aft_model.specs.declared.node.NodeEntry.{NodeEntry}
use Rattle.aft_model.specs.declared.script.Command.{Command}
use Rattle.aft_model.specs.declared.script.Command.TheVariants as commands
use Rattle.aft_model.specs.declared.script.Line.{Line}
use Rattle.aft_model.specs.Attempts.{same_attempt}
use Rattle.aft_model.specs.Membership.{Incarnation, fenced, fenced_in, incarnation, is_up, same_incarnation, up_after, ups}
use Rattle.aft_model.specs.NodeSights.{is_fenced}
use Rattle.aft_model.specs.NodeState.{node_state, serves}
use Rattle.aft_model.proofs.Histories.{In, any_found, any_from, in_back}
use Rattle.aft_model.proofs.Lists.{filter_in}
use Rattle.aft_model.proofs.OneCommit.{same_who}
use Rattle.aft_lines.specs.Advance.{leads_to}
use Rattle.aft_lines.specs.Asked.{Asked, Ran}
use Rattle.aft_lines.specs.CourseWords.{Ends, caller_of}
use Rattle.aft_lines.specs.FinishedText.{line_of}
use Rattle.aft_lines.specs.Holding.{picks_fetch}
use Rattle.aft_lines.specs.LineView.{door_entry_in, ends_of}
use Rattle.aft_lines.specs.Lines.{lines, node_numbers}
use Rattle.aft_lines.specs.Progress.{Progress}
use Rattle.aft_lines.specs.RunsSoFar.{position_of}
use Rattle.aft_lines.specs.Steps.{Made, door_steps, own_steps}
use Rattle.aft_lines.specs.Turns.{AtNode, turns}
use Rattle.aft_lines.specs.Views.{view_of}
use Rattle.law_attempts.specs.Acts.{acts_on}
use Rattle.law_attempts.proofs.Newest.{acts_of_own}
use Rattle.law_holders.specs.Rows.{is_of_node}
use Rattle.law_claims.specs.Moments.{node_steps, or_not_begun}
use Rattle.law_claims.proofs.Fenced.{fenced_more}
use Rattle.law_runs.specs.Runs.{Goes, asking_of, command_in, ends_in, run_steps, without_office}
use Rattle.law_runs.proofs.Come.{it_comes}
use Rattle.law_runs.proofs.InStages.{kept_behind}
use Rattle.law_runs.proofs.LegalRuns.{so_far_goes}
use Rattle.law_runs.proofs.Retires.{split_at}
use Rattle.law_steps.proofs.Histories.{door_is}
use Rattle.law_steps.specs.Histories.{history_in}
use Rattle.law_held.specs.Desk.{LinesDiffer}
use Rattle.law_held.specs.Fetching.{Fetch, fetch_at, fetch_behind, fetch_of}
use Rattle.law_held.specs.Standing.{fetch_in, is_get}
use Rattle.law_held.proofs.DeskHeld.{among_itself}
use Rattle.law_held.proofs.GetLines.{gets_own}
use Rattle.law_held.proofs.Held.{stands_at}
use Rattle.law_held.proofs.OpenFetches.{fetches_behind}
use Rattle.law_held.proofs.Serving.{serves_up, ups-snoc}
use Rattle.law_held.proofs.Stand.{node_all}
use Rattle.law_accounts.specs.Account.{Account, Stand}
use Rattle.law_accounts.proofs.Runs.{account_runs}

-- ---- who was up is up, or was fenced

module _ (who : Incarnation) where
  abbrev pub UpOrFenced : List DoorEntry → Type 0
  UpOrFenced history = IsTrue (is_up who history || is_fenced who history)

  still_up : (history : List DoorEntry) (entry : DoorEntry) → IsTrue (list_any (same_incarnation who) (up_after (ups history) entry.act)) → UpOrFenced (history ++ entry ∷ [])
  still_up history entry is = or_left (is_up who (history ++ entry ∷ [])) (is_fenced who (history ++ entry ∷ [])) (subst (λ (l : List Incarnation). IsTrue (list_any (same_incarnation who) l)) (sym (ups-snoc who history entry)) is)

  now_fenced : (history : List DoorEntry) (entry : DoorEntry) → IsTrue (list_any (same_incarnation who) (fenced_in entry.act)) → UpOrFenced (history ++ entry ∷ [])
  now_fenced history entry is =
      let found = any_found (same_incarnation who) (fenced_in entry.act) is in
      or_right (is_up who (history ++ entry ∷ [])) (is_fenced who (history ++ entry ∷ []))
      (any_from (same_incarnation who) found.0 (fenced (history ++ entry ∷ []))
      (subst (λ (l : List Incarnation). In found.0 l) (sym (flat_map-append (λ (e : DoorEntry). fenced_in e.act) history (entry ∷ [])))
      (in_back found.0 (fenced history) (fenced_in entry.act ++ []) (subst (λ (l : List Incarnation). In found.0 l) (sym (append-nil (fenced_in entry.act))) found.1))) found.2)

  -- behind an act
  by_act : (history : List DoorEntry) (act : DoorAct) → IsTrue (is_up who history) → IsTrue (list_any (same_incarnation who) (up_after (ups history) act)) ⊎ IsTrue (list_any (same_incarnation who) (fenced_in act))
  by_act history (doors.Up node inc) up = inl (or_right (same_incarnation who (incarnation node inc)) (is_up who history) up)
  by_act history (doors.Fence node inc) up = elim (cases_Bool (same_incarnation who (incarnation node inc))) [
    | inl same ↦ inr (or_left (same_incarnation who (incarnation node inc)) false same)
    | inr other ↦
        (let found = any_found (same_incarnation who) (ups history) up in
        inl (any_from (same_incarnation who) found.0 (filter (λ (i : Incarnation). not (same_incarnation (incarnation node inc) i)) (ups history))
        (filter_in (λ (i : Incarnation). not (same_incarnation (incarnation node inc) i)) found.0 (ups history) found.1
        (ap not (false_from_ne_true (same_incarnation (incarnation node inc) found.0) (λ it. true≢false (sym (subst (λ (i : Incarnation). IsTrue (same_incarnation who i)) (sym (same_who (incarnation node inc) found.0 it)) found.2) ∙ other))))) found.2))
  ]
  by_act history act up = inl up

  stays : (more history : List DoorEntry) → UpOrFenced history → UpOrFenced (history ++ more)
  stays [] history so = subst UpOrFenced (sym (append-nil history)) so
  stays (entry ∷ more) history so = subst UpOrFenced (append_assoc history (entry ∷ []) more) (stays more (history ++ entry ∷ []) next)
    where
      next : UpOrFenced (history ++ entry ∷ [])
      next = elim (or_cases (is_up who history) (is_fenced who history) so) [
        | inl up ↦ elim (by_act history entry.act up) [ inl now ↦ still_up history entry now | inr gone ↦ now_fenced history entry gone ]
        | inr gone ↦ or_right (is_up who (history ++ entry ∷ [])) (is_fenced who (history ++ entry ∷ [])) (fenced_more who history (entry ∷ []) gone)
      ]

-- ---- a run

pub picks_acts : (a : Attempt) (key : List ℕ) (id : TxnId) (act : NodeAct) → IsTrue (picks_fetch a key id act) → IsTrue (acts_on a act)
picks_acts a key id (acts.Select b got (picked.Fetch at)) is = (and_parts (same_attempt a b) (bytes_eq key got) (and_parts (same_attempt a b && bytes_eq key got) _ is).0).0
picks_acts a key id act is = absurd (false≢true is)

module _ (asked : Asked) (ran : Ran) (so : Goes asked ran) where
  up_still : (who : Incarnation) (before rest : List Made) → run_steps ran ≡ before ++ rest → UpOrFenced who (door_steps before) → UpOrFenced who ran.trace.door
  up_still who before rest is up = subst (UpOrFenced who) (sym whole) (stays who (door_steps rest) (door_steps before) up)
    where
      whole : ran.trace.door ≡ door_steps before ++ door_steps rest
      whole = sym (door_is (without_office ran.trace)) ∙ (ap door_steps is ∙ flat_map-append (λ (m : Made). door_entry_in m.by m.turn) before rest)

  -- an attempt for which a version was picked is one of its node, and came up
  picked_up : (f : Fetch) → IsTrue (list_any (λ (e : NodeEntry). picks_fetch f.attempt f.key f.id e.act) (history_in f.attempt.node 1 ran.trace.nodes)) → IsTrue (is_of_node (caller_of f.attempt)) × UpOrFenced (caller_of f.attempt) ran.trace.door
  picked_up f picks =
      let a : Attempt = f.attempt in
      let found = any_found (λ (e : NodeEntry). picks_fetch a f.key f.id e.act) (history_in a.node 1 ran.trace.nodes) picks in
      let cut = split_at found.0 (history_in a.node 1 ran.trace.nodes) found.1 in
      let at = stands_at asked ran so a.node cut.0 found.0 cut.1 cut.2 in
      let step : Made = record { by = found.0.by; turn = AtNode a.node cut.0 found.0 } in
      let comes = it_comes asked ran so at.0 at.1 step at.2 (kept_behind asked ran so at.0 (step ∷ at.1) at.2).0 in
      let own = acts_of_own a.node asked.settings.cache a cut.0 found.0 comes.3 (picks_acts a f.key f.id found.0.act found.2) in
      let serve : IsTrue (serves a.inc (node_state (node_steps a.node at.0))) = subst (λ (h : List NodeEntry). IsTrue (serves a.inc (node_state h))) comes.1 own.1 in
      (comes.2 a.inc, up_still (caller_of a) at.0 (step ∷ at.1) at.2 (serves_up asked ran so at.0 (step ∷ at.1) at.2 a.node a.inc serve))

  module _ (differ : LinesDiffer asked) (line : Line) (listed : In line (lines asked)) where
    abbrev nodes : List ℕ
    nodes = node_numbers asked.settings

    abbrev its_ends : Ends
    its_ends = ends_of (view_of asked ran line)

    pub fetch_there : (key : List ℕ) → line.order ≡ commands.Get key → (p : Progress) → position_of (view_of asked ran line) ≡ Some p → fetch_of (asking_of asked ran) (run_steps ran) (line_of line) ≡ fetch_at p
    fetch_there key gets p is =
        ap (λ (o : Option Line). fetch_behind nodes (ends_in asked ran o) (own_steps (line_of line) (run_steps ran)) (command_in o)) (among_itself [] (lines asked) differ line listed)
        ∙ (ap (λ (c : Command). fetch_behind nodes its_ends (own_steps (line_of line) (run_steps ran)) (Some c)) gets
        ∙ ap (λ (o : Option Progress). fetch_at (or_not_begun o)) (ap (leads_to (commands.Get key) nodes its_ends) (gets_own asked ran so line listed key gets) ∙ (ap (λ (c : Command). leads_to c nodes its_ends (turns (line_of line) ran.trace)) (sym gets) ∙ is)))

    -- the attempt of a get that is at a fetch
    pub comes_up : (key : List ℕ) → line.order ≡ commands.Get key → (p : Progress) → position_of (view_of asked ran line) ≡ Some p → (f : Fetch) → fetch_at p ≡ Some f → IsTrue (is_of_node (caller_of f.attempt)) × UpOrFenced (caller_of f.attempt) ran.trace.door
    comes_up key gets p is f at =
        let keeps = fetches_behind asked ran so (run_steps ran) [] (sym (append-nil (run_steps ran))) in
        picked_up f (subst (λ (h : List NodeEntry). IsTrue (list_any (λ (e : NodeEntry). picks_fetch f.attempt f.key f.id e.act) h)) (node_all asked ran so differ f.attempt.node) (keeps.picked (line_of line) f (fetch_there key gets p is ∙ at)))

-- ---- an account

pub fetcher_up : (asked : Asked) (ran : Ran) (stand : Line → Stand) (line : Line) (f : Fetch) → Account asked ran stand → In line (lines asked) → IsTrue (is_get line.order) → fetch_in (position_of (view_of asked ran line)) ≡ Some f → UpOrFenced (caller_of f.attempt) ran.trace.door
fetcher_up asked ran stand line f account listed get at = by_command line.order refl get
  where
    by_position : (key : List ℕ) → line.order ≡ commands.Get key → (o : Option Progress) → position_of (view_of asked ran line) ≡ o → fetch_in o ≡ Some f → UpOrFenced (caller_of f.attempt) ran.trace.door
    by_position key gets None is fetch = absurd (cc)
    by_position key gets (Some p) is fetch = (comes_up asked ran (so_far_goes asked ran (account_runs asked ran stand account)) account.differ line listed key gets p is f fetch).1

    by_command : (command : Command) → line.order ≡ command → IsTrue (is_get command) → UpOrFenced (caller_of f.attempt) ran.trace.door
    by_command (commands.Get key) gets it = by_position key gets (position_of (view_of asked ran line)) refl at
    by_command command gets it = absurd (false≢true it)
