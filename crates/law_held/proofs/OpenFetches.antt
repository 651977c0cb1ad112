-- In a run so far each fetch that ends stood open since its line's pick.
use Rattle.std.proofs.Common.{◌≡◌, ℕ, suc, Bool, false, ◌&&◌, List, [], ◌∷◌, ◌++◌, ◌≤◌, refl, sym, ap, subst, ◌∙◌, ◌⊎◌, inl, inr, append-nil, append_assoc, eqb, arith}
use Rattle.std.specs.Prelude.{IsTrue, IsFalse, None, Option, Some, if◌then◌else◌}
use Rattle.std.specs.List.{list_all}
use Rattle.std.specs.Str.{bytes_eq}
use Rattle.std.proofs.lemmas.Bool.{and_from, cases_Bool, eq-eqb, false≢true, false_from_ne_true, ne_eqb, true≢false}
use Rattle.aft_id.specs.declared.txn_id.TxnId.{TxnId}
use Rattle.aft_id.specs.TxnId.{same_id}
use Rattle.aft_model.specs.declared.caller.Attempt.{Attempt}
use Rattle.aft_model.specs.declared.caller.By.{By}
use Rattle.aft_model.specs.declared.door.DoorAct.{DoorAct}
use Rattle.aft_model.specs.declared.node.NodeAct.{NodeAct}
use Rattle.aft_model.specs.declared.node.NodeAct.TheVariants as acts
use Rattle.aft_model.specs.declared.node.NodeEntry.{NodeEntry}
use Rattle.aft_model.specs.declared.script.Command.{Command}
use Rattle.aft_model.specs.declared.script.Command.TheVariants as commands
use Rattle.aft_model.specs.declared.script.Line.{Line}
use Rattle.aft_model.specs.Attempts.{ends_fetch, same_attempt}
use Rattle.aft_model.specs.History.{each_after}
use Rattle.aft_model.specs.LegalNode.{LegalNode}
use Rattle.aft_model.specs.NodeState.{node_state, part}
use Rattle.aft_model.specs.ScanRun.{same_line}
use Rattle.aft_model.proofs.Histories.{In, in_back}
use Rattle.aft_model.proofs.Incarnations.{part-at}
use Rattle.aft_model.proofs.Pins.{same_attempts}
use Rattle.aft_model.proofs.Services.{serving}
use Rattle.aft_lines.specs.Advance.{advance, leads_to}
use Rattle.aft_lines.specs.Asked.{Asked, Ran}
use Rattle.aft_lines.specs.CourseWords.{Ends}
use Rattle.aft_lines.specs.FinishedText.{line_of}
use Rattle.aft_lines.specs.Holding.{FetchesStayOpen, ends_open_fetch, is_open_since, picks_fetch}
use Rattle.aft_lines.specs.LineView.{ends_of}
use Rattle.aft_lines.specs.Lines.{lines, node_numbers}
use Rattle.aft_lines.specs.Makes.{makes, makes_at_node}
use Rattle.aft_lines.specs.Progress.{Progress}
use Rattle.aft_lines.specs.Steps.{Made, own_steps}
use Rattle.aft_lines.specs.Turns.{AtDoor, AtNode, AtOffice, Turn, turns}
use Rattle.aft_lines.specs.Views.{view_of}
use Rattle.law_attempts.proofs.Newest.{acts_of_own}
use Rattle.law_attempts.proofs.Standing.{same_itself}
use Rattle.law_claims.specs.Moments.{Asking, Comes, node_entry_in, node_steps, or_not_begun}
use Rattle.law_claims.proofs.Moments.{node-snoc, own_other}
use Rattle.law_claims.proofs.Scenes.{by_itself, same_by}
use Rattle.law_runs.specs.Runs.{Goes, asking_of, command_in, ends_in, line_among, run_steps}
use Rattle.law_runs.proofs.Come.{Named, it_comes, named_line, turn_made, unasked_reads}
use Rattle.law_runs.proofs.InStages.{kept_behind}
use Rattle.law_runs.proofs.Members.{no_office_step}
use Rattle.law_runs.proofs.Own.{has_come}
use Rattle.law_runs.proofs.Reading.{is_of_boot, reads_alone}
use Rattle.law_runs.proofs.Retires.{each_from}
use Rattle.law_steps.specs.Histories.{history_in}
use Rattle.law_turns.specs.Order.{is_at_office}
use Rattle.law_held.specs.Fetching.{Fetch, KeepsFetches, ends_this, fetch_at, fetch_behind, fetch_of}
use Rattle.law_held.proofs.Fetches.{ends_acts, ends_same, node_fetches, picked_parts, quiet_fetches}
use Rattle.law_held.proofs.GetLines.{gets_own}
use Rattle.law_held.proofs.GetTurns.{DoorIf, NodeIf, door_gets, node_gets}
use Rattle.law_held.proofs.Held.{stands_at}
use Rattle.law_held.proofs.Lines.{leads}

-- ---- commands

-- a get, or another command
abbrev pub GetOrNot : Command → Type 0
GetOrNot command = ((key : List ℕ) × (command ≡ commands.Get key)) ⊎ ((nodes : List ℕ) (ends : Ends) (line : List Turn) → fetch_behind nodes ends line (Some command) ≡ None) × ((a : Attempt) (act : NodeAct) → IsTrue (makes_at_node command act) → IsTrue (ends_fetch a act) → ⊥)

-- only gets end fetches
other_ends : (command : Command) → ((b : Attempt) (key : List ℕ) (id : TxnId) (place : ℕ) (kept : Bool) → IsFalse (makes_at_node command (acts.Value b key id place kept)) × IsFalse (makes_at_node command (acts.Lost b key id))) → (a : Attempt) (act : NodeAct) → IsTrue (makes_at_node command act) → IsTrue (ends_fetch a act) → ⊥
other_ends command none a (acts.Value b key id place kept) made is = true≢false (sym made ∙ (none b key id place kept).0)
other_ends command none a (acts.Lost b key id) made is = true≢false (sym made ∙ (none b key id 0 false).1)
other_ends command none a act made is = false≢true is

pub get_or_not : (command : Command) → GetOrNot command
get_or_not (commands.Get key) = inl (key, refl)
get_or_not command = inr (λ nodes ends line. refl, other_ends command (λ b key id place kept. (refl, refl)))

pub boots_none : (a : Attempt) (act : NodeAct) → IsTrue (is_of_boot act) → IsTrue (ends_fetch a act) → ⊥
boots_none a (acts.Value b key id place kept) boot is = false≢true boot
boots_none a (acts.Lost b key id) boot is = false≢true boot
boots_none a act boot is = false≢true is

-- ---- a run

module _ (asked : Asked) (ran : Ran) (so : Goes asked ran) where
  abbrev asking : Asking
  asking = asking_of asked ran

  abbrev nodes : List ℕ
  nodes = node_numbers asked.settings

  abbrev Fetches : List Made → Type 0
  Fetches made = KeepsFetches (λ node. node_steps node made) (fetch_of asking made)

  -- the steps of other lines leave where a line has come
  others_same : (made : List Made) (one : Made) (other : By) → IsFalse (same_line one.by other) → fetch_of asking (made ++ one ∷ []) other ≡ fetch_of asking made other
  others_same made one other differs = ap (λ (line : List Turn). fetch_behind nodes (asking.ends other) line (asking.command other)) (own_other other made one (turned other differs))
    where
      turned : (o : By) → same_line one.by o ≡ false → same_line o one.by ≡ false
      turned o d = false_from_ne_true (same_line o one.by) (λ is. true≢false (sym (by_itself one.by) ∙ subst (λ (x : By). same_line one.by x ≡ false) (same_by o one.by is) d))

  module _ (before rest : List Made) (one : Made) (is : run_steps ran ≡ before ++ one ∷ rest) where
    abbrev after : List Made
    after = before ++ one ∷ []

    abbrev was : Option Fetch
    was = fetch_of asking before one.by

    abbrev now : Option Fetch
    now = fetch_of asking after one.by

    -- what the line of a step tells of fetches: a get is led on; another is at no fetch, and ends none
    abbrev ByGet : Type 0
    ByGet = (key : List ℕ) × (ends : Ends) × (from : Progress) × (to : Progress) × (advance (commands.Get key) nodes ends from one.turn ≡ Some to) × (was ≡ fetch_at from) × (now ≡ fetch_at to)

    abbrev NoGet : Type 0
    NoGet = (was ≡ None) × (now ≡ None) × ((a : Attempt) (node : ℕ) (history : List NodeEntry) (entry : NodeEntry) → one.turn ≡ AtNode node history entry → IsTrue (ends_fetch a entry.act) → ⊥)

    module _ (line : Line) (listed : In line (lines asked)) (its : line_of line ≡ one.by) (found : line_among one.by (lines asked) ≡ Some line) where
      abbrev its_ends : Ends
      its_ends = ends_of (view_of asked ran line)

      -- where it has come
      fetched : (made : List Made) → fetch_of asking made one.by ≡ fetch_behind nodes its_ends (own_steps one.by made) (Some line.order)
      fetched made = ap (λ (o : Option Line). fetch_behind nodes (ends_in asked ran o) (own_steps one.by made) (command_in o)) found

      by_get : (key : List ℕ) → line.order ≡ commands.Get key → ByGet
      by_get key gets =
          let come = has_come asked ran so line listed in
          let steps : own_steps one.by (before ++ one ∷ rest) ≡ turns (line_of line) ran.trace = ap (own_steps one.by) (sym is) ∙ (ap (λ (b : By). own_steps b (run_steps ran)) (sym its) ∙ gets_own asked ran so line listed key gets) in
          let led = leads (commands.Get key) nodes its_ends before rest one come.0
          (ap (leads_to (commands.Get key) nodes its_ends) steps ∙ subst (λ (c : Command). leads_to c nodes its_ends (turns (line_of line) ran.trace) ≡ Some come.0) gets come.1) in
          let at : (made : List Made) → fetch_of asking made one.by ≡ fetch_at (or_not_begun (leads_to (commands.Get key) nodes its_ends (own_steps one.by made))) = λ made. fetched made ∙ ap (λ (c : Command). fetch_behind nodes its_ends (own_steps one.by made) (Some c)) gets in
          (key, its_ends, led.from, led.to, led.goes, at before ∙ ap (λ (o : Option Progress). fetch_at (or_not_begun o)) led.was, at after ∙ ap (λ (o : Option Progress). fetch_at (or_not_begun o)) led.now)

      by_other : ((numbers : List ℕ) (ends : Ends) (l : List Turn) → fetch_behind numbers ends l (Some line.order) ≡ None) × ((a : Attempt) (act : NodeAct) → IsTrue (makes_at_node line.order act) → IsTrue (ends_fetch a act) → ⊥) → NoGet
      by_other none = (
        fetched before ∙ none.0 nodes its_ends (own_steps one.by before),
        fetched after ∙ none.0 nodes its_ends (own_steps one.by after),
        λ a node history entry turned. none.1 a entry.act (subst (λ (t : Turn). IsTrue (makes line.order t)) turned (turn_made asked ran so before rest one is line listed its)),
      )

      by_line : ByGet ⊎ NoGet
      by_line = elim (get_or_not line.order) [ inl get ↦ inl (by_get get.0 get.1) | inr other ↦ inr (by_other other) ]

    by_nobody : line_among one.by (lines asked) ≡ None → NoGet
    by_nobody none = (
      ap (λ (o : Option Line). fetch_behind nodes (ends_in asked ran o) (own_steps one.by before) (command_in o)) none,
      ap (λ (o : Option Line). fetch_behind nodes (ends_in asked ran o) (own_steps one.by after) (command_in o)) none,
      λ a node history entry turned ends. boots_none a entry.act (subst (λ (t : Turn). IsTrue (reads_alone t)) turned (unasked_reads asked ran so before rest one is (ap command_in none))) ends,
    )

    who_fetches : ByGet ⊎ NoGet
    who_fetches = cases (named_line one.by (lines asked))
      where
        cases : Named one.by (lines asked) → ByGet ⊎ NoGet
        cases (inl n) = by_line n.0 n.1 n.2 n.3
        cases (inr n) = inr (by_nobody n.0)

    -- ---- its turn at the door

    door_less : (place : ℕ) (act : DoorAct) → one.turn ≡ AtDoor place act → (f : Fetch) → now ≡ Some f → was ≡ Some f
    door_less place act turned f at = cases who_fetches
      where
        cases : ByGet ⊎ NoGet → was ≡ Some f
        cases (inl get) =
            let goes : advance (commands.Get get.0) nodes get.1 get.2 (AtDoor place act) ≡ Some get.3 = ap (advance (commands.Get get.0) nodes get.1 get.2) (sym turned) ∙ get.4 in
            get.5 ∙ subst (DoorIf (fetch_at get.2)) goes (door_gets get.0 nodes get.1 get.2 place act) f (sym get.6 ∙ at)
        cases (inr other) = absurd (let e : None ≡ Some f = sym other.1 ∙ at in cc)

    fetches_at_door : (place : ℕ) (act : DoorAct) → one.turn ≡ AtDoor place act → Fetches before → Fetches after
    fetches_at_door place act turned kept =
        quiet_fetches (λ node. node_steps node before) (λ node. node_steps node after) (fetch_of asking before) (fetch_of asking after)
        (λ node. node-snoc node before one ∙ (ap (λ (t : Turn). node_steps node before ++ node_entry_in node t) turned ∙ append-nil (node_steps node before)))
        (λ by f at. elim (cases_Bool (same_line one.by by)) [
          | inl same ↦ (let e = same_by one.by by same in subst (λ (b : By). fetch_of asking before b ≡ Some f) e (door_less place act turned f (subst (λ (b : By). fetch_of asking after b ≡ Some f) (sym e) at)))
          | inr differs ↦ sym (others_same before one by differs) ∙ at
        ]) kept

    -- ---- and at a node

    pub ends_one : (node : ℕ) (history : List NodeEntry) (entry : NodeEntry) → one.turn ≡ AtNode node history entry → (a : Attempt) → IsTrue (ends_fetch a entry.act) → (f : Fetch) × (was ≡ Some f) × IsTrue (ends_this f entry.act)
    ends_one node history entry turned a ends = cases who_fetches
      where
        cases : ByGet ⊎ NoGet → (f : Fetch) × (was ≡ Some f) × IsTrue (ends_this f entry.act)
        cases (inl get) =
            let goes : advance (commands.Get get.0) nodes get.1 get.2 (AtNode node history entry) ≡ Some get.3 = ap (advance (commands.Get get.0) nodes get.1 get.2) (sym turned) ∙ get.4 in
            let its = (subst (NodeIf (fetch_at get.2) entry.act) goes (node_gets get.0 nodes get.1 get.2 node history entry)).1 a ends in
            (its.0, get.5 ∙ its.1, its.2)
        cases (inr other) = absurd (other.2 a node history entry turned ends)

    begins_one : (node : ℕ) (history : List NodeEntry) (entry : NodeEntry) → one.turn ≡ AtNode node history entry → (f : Fetch) → now ≡ Some f → IsTrue (picks_fetch f.attempt f.key f.id entry.act)
    begins_one node history entry turned f at = cases who_fetches
      where
        cases : ByGet ⊎ NoGet → IsTrue (picks_fetch f.attempt f.key f.id entry.act)
        cases (inl get) =
            let goes : advance (commands.Get get.0) nodes get.1 get.2 (AtNode node history entry) ≡ Some get.3 = ap (advance (commands.Get get.0) nodes get.1 get.2) (sym turned) ∙ get.4 in
            (subst (NodeIf (fetch_at get.2) entry.act) goes (node_gets get.0 nodes get.1 get.2 node history entry)).0 f (sym get.6 ∙ at)
        cases (inr other) = absurd (let e : None ≡ Some f = sym other.1 ∙ at in cc)

  -- the history of a node, with a step more at it
  here_now : (node : ℕ) (history : List NodeEntry) (entry : NodeEntry) (made : List Made) (by : By) → node_steps node (made ++ record { by = by; turn = AtNode node history entry } ∷ []) ≡ node_steps node made ++ entry ∷ []
  here_now node history entry made by = node-snoc node made (record { by = by; turn = AtNode node history entry }) ∙ ap (λ (b : Bool). node_steps node made ++ (if b then entry ∷ [] else [])) (eq-eqb node node refl)

  elsewhere_same : (node : ℕ) (history : List NodeEntry) (entry : NodeEntry) (made : List Made) (by : By) (other : ℕ) → IsFalse (eqb node other) → node_steps other (made ++ record { by = by; turn = AtNode node history entry } ∷ []) ≡ node_steps other made
  elsewhere_same node history entry made by other differs =
      node-snoc other made (record { by = by; turn = AtNode node history entry }) ∙ (ap (λ (b : Bool). node_steps other made ++ (if b then entry ∷ [] else [])) differs ∙ append-nil (node_steps other made))

  fetches_at_node : (before rest : List Made) (node : ℕ) (history : List NodeEntry) (entry : NodeEntry) → run_steps ran ≡ before ++ record { by = entry.by; turn = AtNode node history entry } ∷ rest → Fetches before → Fetches (before ++ record { by = entry.by; turn = AtNode node history entry } ∷ [])
  fetches_at_node before rest node history entry is kept =
      let one : Made = record { by = entry.by; turn = AtNode node history entry } in
      let comes = it_comes asked ran so before rest one is (kept_behind asked ran so before (one ∷ rest) is).0 in
      node_fetches node asked.settings.cache entry (λ n. node_steps n before) (λ n. node_steps n (before ++ one ∷ []))
      (here_now node history entry before entry.by) (elsewhere_same node history entry before entry.by)
      (subst (λ (h : List NodeEntry). LegalNode node asked.settings.cache (h ++ entry ∷ [])) comes.1 comes.3)
      (fetch_of asking before) (fetch_of asking (before ++ one ∷ [])) (others_same before one) (begins_one before rest one is node history entry refl) (ends_one before rest one is node history entry refl) kept

  fetches_step : (before rest : List Made) (one : Made) → run_steps ran ≡ before ++ one ∷ rest → Fetches before → Fetches (before ++ one ∷ [])
  fetches_step before rest one is kept = by_turn one.turn refl
    where
      by_turn : (turn : Turn) → one.turn ≡ turn → Fetches (before ++ one ∷ [])
      by_turn (AtDoor place act) turned = fetches_at_door before rest one is place act turned kept
      by_turn (AtNode node history entry) turned =
          let comes = subst (Comes asking asked.settings.cache before one.by) turned (it_comes asked ran so before rest one is (kept_behind asked ran so before (one ∷ rest) is).0) in
          let same : one ≡ record { by = entry.by; turn = AtNode node history entry } = ap (λ (t : Turn). record { by = one.by; turn = t }) turned ∙ ap (λ (b : By). record { by = b; turn = AtNode node history entry }) (sym comes.0) in
          subst (λ (m : Made). Fetches (before ++ m ∷ [])) (sym same) (fetches_at_node before rest node history entry (is ∙ ap (λ (m : Made). before ++ m ∷ rest) same) kept)
      by_turn (AtOffice history entry) turned =
          absurd (true≢false (sym (ap is_at_office turned) ∙ no_office_step ran.trace one (subst (λ (l : List Made). In one l) (sym is) (in_back one before (one ∷ rest) (inl refl)))))

  fetches_from : (more before rest : List Made) → run_steps ran ≡ before ++ (more ++ rest) → Fetches before → Fetches (before ++ more)
  fetches_from [] before rest is kept = subst Fetches (sym (append-nil before)) kept
  fetches_from (one ∷ more) before rest is kept =
      subst Fetches (append_assoc before (one ∷ []) more)
      (fetches_from more (before ++ one ∷ []) rest (is ∙ sym (append_assoc before (one ∷ []) (more ++ rest))) (fetches_step before (more ++ rest) one is kept))

  -- ---- at first

  none_at_first : (by : By) (f : Fetch) → fetch_of asking [] by ≡ Some f → ⊥
  none_at_first by f is = by_command (asking.command by) is
    where
      by_command : (command : Option Command) → fetch_behind nodes (asking.ends by) [] command ≡ Some f → ⊥
      by_command None at = absurd (let e : None ≡ Some f = at in cc)
      by_command (Some (commands.Get key)) at = absurd (let e : None ≡ Some f = at in cc)
      by_command (Some command) at = absurd (let e : None ≡ Some f = at in cc)

  fetches_at_first : Fetches []
  fetches_at_first = record {
    counted = λ number s a is. absurd (cc);
    picked = λ by f is. absurd (none_at_first by f is);
    stands = λ by f s is state inc. absurd (none_at_first by f is);
  }

  pub fetches_behind : (before rest : List Made) → run_steps ran ≡ before ++ rest → Fetches before
  fetches_behind before rest is = fetches_from before [] rest is fetches_at_first

  -- ---- each fetch that ends

  module _ (number : ℕ) (before : List NodeEntry) (entry : NodeEntry) (pre rest : List Made) (is : run_steps ran ≡ pre ++ record { by = entry.by; turn = AtNode number before entry } ∷ rest) where
    abbrev this : Made
    this = record { by = entry.by; turn = AtNode number before entry }

    stood_open : (a : Attempt) → IsTrue (ends_fetch a entry.act) → (f : Fetch) × IsTrue (ends_this f entry.act) × IsTrue (is_open_since entry.by f.attempt f.key f.id [] (part before))
    stood_open a ends =
        let its = ends_one pre rest this is number before entry refl a ends in
        let same = ends_same its.0 a entry.act its.2 ends in
        let comes = it_comes asked ran so pre rest this is (kept_behind asked ran so pre (this ∷ rest) is).0 in
        let own = acts_of_own number asked.settings.cache a before entry comes.3 (ends_acts a entry.act ends) in
        let at = serving a.inc (node_state before) own.1 in
        let stands = (fetches_behind pre (this ∷ rest) is).stands entry.by its.0 at.0 its.1
        (ap (λ (x : Attempt). node_state (node_steps x.node pre)) same ∙ (ap (λ (n : ℕ). node_state (node_steps n pre)) own.0 ∙ (ap node_state (sym comes.1) ∙ at.1))) (ap (λ (x : Attempt). x.inc) same ∙ sym at.2) in
        (its.0, its.2, subst (λ (p : List NodeEntry). IsTrue (is_open_since entry.by its.0.attempt its.0.key its.0.id [] p)) (sym (part-at before at.0 at.1)) stands.1)

    as_named : (a b : Attempt) (key got : List ℕ) (id at : TxnId) → IsTrue (same_attempt a b && bytes_eq key got && same_id id at) → IsTrue (is_open_since entry.by a key id [] (part before)) → IsTrue (is_open_since entry.by b got at [] (part before))
    as_named a b key got id at ends stood =
        let parts = picked_parts a b key got id at ends in
        subst (λ (x : Attempt). IsTrue (is_open_since entry.by x got at [] (part before))) (same_attempts a b parts.0)
        (subst (λ (k : List ℕ). IsTrue (is_open_since entry.by a k at [] (part before))) parts.1
        (subst (λ (i : TxnId). IsTrue (is_open_since entry.by a key i [] (part before))) parts.2 stood))

    open_there : (act : NodeAct) → entry.act ≡ act → IsTrue (ends_open_fetch (part before) entry.by act)
    open_there (acts.Value b key id place kept) e =
        let stood = stood_open b (subst (λ (x : NodeAct). IsTrue (ends_fetch b x)) (sym e) (same_itself b)) in
        as_named stood.0.attempt b stood.0.key key stood.0.id id (subst (λ (x : NodeAct). IsTrue (ends_this stood.0 x)) e stood.1) stood.2
    open_there (acts.Lost b key id) e =
        let stood = stood_open b (subst (λ (x : NodeAct). IsTrue (ends_fetch b x)) (sym e) (same_itself b)) in
        as_named stood.0.attempt b stood.0.key key stood.0.id id (subst (λ (x : NodeAct). IsTrue (ends_this stood.0 x)) e stood.1) stood.2
    open_there act e = refl

  all_open : (first : ℕ) (histories : List (List NodeEntry)) → ((number : ℕ) → first ≤ number → (before : List NodeEntry) (entry : NodeEntry) (more : List NodeEntry) → history_in number first histories ≡ before ++ entry ∷ more → IsTrue (ends_open_fetch (part before) entry.by entry.act))
      → IsTrue (list_all (each_after (λ before entry. ends_open_fetch (part before) entry.by entry.act) []) histories)
  all_open first [] each = refl
  all_open first (history ∷ histories) each =
      and_from (each_after (λ before entry. ends_open_fetch (part before) entry.by entry.act) [] history) (list_all (each_after (λ before entry. ends_open_fetch (part before) entry.by entry.act) []) histories)
      (each_from (λ before entry. ends_open_fetch (part before) entry.by entry.act) history [] history refl (λ b e m is. each first (omega arith) b e m (ap (λ (t : Bool). if t then history else history_in first (suc first) histories) (eq-eqb first first refl) ∙ is)))
      (all_open (suc first) histories (λ number later b e m is. each number (let l : suc first ≤ number = later in omega arith) b e m (ap (λ (t : Bool). if t then history else history_in number (suc first) histories) (ne_eqb number first (λ same. (let l : suc first ≤ number = later in let s : number ≡ first = same in omega arith))) ∙ is)))

  pub fetches_are_open : FetchesStayOpen ran.trace
  fetches_are_open = all_open 1 ran.trace.nodes (λ number le before entry more is. (let at = stands_at asked ran so number before entry more is in open_there number before entry at.0 at.1 at.2 entry.act refl))
