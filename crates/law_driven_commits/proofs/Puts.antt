-- A commit that a driver runs knows of its next put what it must, since its attempt's incarnation knew before the line that the UUID was unused; and what it is to store keeps the limits.
use Rattle.std.proofs.Common.{◌≡◌, ◌<◌, ◌≤◌, ◌+◌, ℕ, Bool, true, false, List, [], ◌∷◌, ◌++◌, refl, sym, ap, subst, ◌∙◌, inl, take, append_assoc, arith, length}
use Rattle.std.specs.Prelude.{◌≢◌, IsFalse, IsTrue, None, Option, Some, filter, if◌then◌else◌, is_some, map, nat_le}
use Rattle.std.specs.List.{list_all}
use Rattle.std.proofs.lemmas.List.Elements.{filter-append}
use Rattle.std.proofs.lemmas.List.Sums.{fold-append}
use Rattle.aft_records.specs.declared.stored.Commit.{Commit}
use Rattle.aft_records.specs.declared.stored.Record.{Record}
use Rattle.aft_records.specs.Limits.{is_time}
use Rattle.aft_model.specs.declared.caller.Attempt.{Attempt}
use Rattle.aft_model.specs.declared.caller.By.{By}
use Rattle.aft_model.specs.declared.caller.Hold.{Hold}
use Rattle.aft_model.specs.declared.door.DoorEntry.{DoorEntry}
use Rattle.aft_model.specs.declared.node.NodeAct.{NodeAct}
use Rattle.aft_model.specs.declared.node.NodeAct.TheVariants as acts
use Rattle.aft_model.specs.declared.node.NodeEntry.{NodeEntry}
use Rattle.aft_model.specs.declared.script.Line.{Line}
use Rattle.aft_model.specs.Attempts.{AttemptState, IsCommitting, IsInDoubt, attempt_state, fixed_commit, is_gone, is_opening, reads, uuid_of, Write, buffer}
use Rattle.aft_model.specs.DoorKnowledge.{knows_unused}
use Rattle.aft_model.specs.History.{first_of}
use Rattle.aft_model.specs.LegalNode.{LegalNode, front, is_legal_node, may_follow_at}
use Rattle.aft_model.specs.Membership.{incarnation}
use Rattle.aft_model.specs.NodeSights.{is_seen_node, may_come_at, own_entries}
use Rattle.aft_model.specs.NodeState.{node_state, part, serves}
use Rattle.aft_model.specs.Origins.{record_by}
use Rattle.aft_model.specs.ScanRun.{same_line}
use Rattle.aft_model.proofs.Histories.{In, each_after_split}
use Rattle.aft_lines.specs.Advance.{leads_to}
use Rattle.aft_lines.specs.Asked.{Asked, Ran}
use Rattle.aft_lines.specs.CommitCourse.{Storing}
use Rattle.aft_lines.specs.CourseWords.{caller_of}
use Rattle.aft_lines.specs.FinishedText.{line_of}
use Rattle.aft_lines.specs.LineView.{door_entry_in, ends_of, fixed_by}
use Rattle.aft_lines.specs.Lines.{node_numbers}
use Rattle.aft_lines.specs.Views.{view_of}
use Rattle.aft_lines.specs.Progress.{Progress}
use Rattle.aft_lines.specs.Steps.{Made as Step, door_steps, own_steps}
use Rattle.aft_lines.specs.Turns.{AtDoor, AtNode, AtOffice, Turn, front_in, turns}
use Rattle.aft_commit.specs.Asks.{may_put_at}
use Rattle.aft_commit.specs.Made.{HasCome, Made, command_of, is_own_silent, made_at}
use Rattle.aft_commit.specs.Told.{IsToStore, entries_by}
use Rattle.aft_commit.specs.View.{FinishView, IsNodeOrigin, IsStorable, is_storable_at}
use Rattle.aft_commit.specs.declared.stage.Stage.{Stage}
use Rattle.aft_commit.specs.declared.stage.Stage.TheVariants as stages
use Rattle.aft_commit.proofs.Knowing.{knows_so}
use Rattle.aft_turns.specs.Trail.{Trail}
use Rattle.law_attempts.specs.Acts.{times_begun}
use Rattle.law_attempts.proofs.Attempts.{fixed_uuid, has_begun}
use Rattle.law_runs.specs.Runs.{run_steps}
use Rattle.law_runs.proofs.Come.{door_parts, most_nodes, seen_is}
use Rattle.law_runs.proofs.Nodes.{nodes_rules, within}
use Rattle.law_runs.proofs.Own.{own_are}
use Rattle.law_steps.specs.Histories.{history_in}
use Rattle.law_accounts.specs.Account.{Stand}
use Rattle.law_accounts.proofs.StopsSeen.{there_serves}
use Rattle.law_driver.specs.Driven.{Driven, last_act}
use Rattle.law_driven_commits.specs.Finishes.{IsFinishOf, MayPutAtDoor, PutsAreShort}
use Rattle.law_driven_commits.proofs.Calls.{goes, its_kind}
use Rattle.law_driven_commits.proofs.Ends.{home_turn}
use Rattle.law_driven_commits.proofs.Knew.{all_knew}
use Rattle.law_driven_commits.proofs.LastActs.{FixesAt, LastAt, line_last}
use Rattle.law_driven_commits.proofs.Origins.{from_one, read_limits}
use Rattle.law_driven_commits.proofs.ReadIds.{are_reads, are_uuids}
use Rattle.law_driven_commits.proofs.Stays.{fixed_there, turn_stands}
use Rattle.law_driven_commits.proofs.Times.{timely}
use Rattle.law_driven_commits.proofs.Values.{shorts}

-- ---- before a line's first turn it has made nothing at the door

-- the steps of a run, around the first of a line
record First (by : By) (steps : List Step) (t : Turn) : Type 0 where
  pre : List Step
  one : Step
  rest : List Step
  whole : steps ≡ pre ++ one ∷ rest
  turn : one.turn ≡ t
  none : own_entries by (door_steps pre) ≡ []

none_own : (by maker : By) → same_line by maker ≡ false → (t : Turn) → own_entries by (door_entry_in maker t) ≡ []
none_own by maker other (AtDoor place act) = ap (λ (b : Bool). if b then record { by = maker; act = act } ∷ [] else []) other
none_own by maker other (AtNode node before entry) = refl
none_own by maker other (AtOffice before entry) = refl

first_of_line : (by : By) (steps : List Step) (t : Turn) (ys : List Turn) → own_steps by steps ≡ t ∷ ys → First by steps t
first_of_line by [] t ys is = absurd (let e : [] ≡ t ∷ ys = is in cc)
first_of_line by (m ∷ steps) t ys is = cases (same_line by m.by) refl (first_of_line by steps t ys) is
  where
    cases : (own : Bool) → same_line by m.by ≡ own → (own_steps by steps ≡ t ∷ ys → First by steps t) → map (λ (o : Step). o.turn) (if own then m ∷ filter (λ (o : Step). same_line by o.by) steps else filter (λ (o : Step). same_line by o.by) steps) ≡ t ∷ ys → First by (m ∷ steps) t
    cases true own later so = record { pre = []; one = m; rest = steps; whole = refl; turn = cc; none = refl }
    cases false own later so =
        let s = later so in
        record {
          pre = m ∷ s.pre;
          one = s.one;
          rest = s.rest;
          whole = ap (λ (l : List Step). m ∷ l) s.whole;
          turn = s.turn;
          none = filter-append (λ (e : DoorEntry). same_line by e.by) (door_entry_in m.by m.turn) (door_steps s.pre) ∙ (ap (λ (l : List DoorEntry). l ++ own_entries by (door_steps s.pre)) (none_own by m.by own m.turn) ∙ s.none);
        }

-- what has fixed a commit opens no more
fixed_past : (state : AttemptState) (c : Commit) → fixed_commit state ≡ Some c → IsFalse (is_opening state)
fixed_past (IsCommitting d) c is = refl
fixed_past (IsInDoubt d) c is = refl
fixed_past state c is = absurd (let e : None ≡ Some c = is in cc)

-- what is stored is the attempt's record of its commit, and what it has buffered, behind what the first turn found
abbrev Written : List NodeEntry → Storing → Type 0
Written found storing = (storing.written ≡ record_by storing.attempt (part found) storing.written.commit) × (storing.writes ≡ buffer storing.attempt (part found))

written_fixes : (found : List NodeEntry) (act : NodeAct) → FixesAt (Written found) found act
written_fixes found (acts.Start a now c) = (refl, refl)
written_fixes found (acts.Settle a) = λ c is. (refl, refl)
written_fixes found act = tt

module _ (asked : Asked) (ran : Ran) (stand : Line → Stand) (line : Line) (hold : Hold) (trail : Trail) (finish : FinishView) (driven : Driven asked ran stand line hold trail) (of : IsFinishOf line hold finish) (clock : ℕ) where
  abbrev by : By
  by = line_of line

  module _ (a : Attempt) (position : Progress) (c : Commit) (come : HasCome clock finish.by finish.hold finish.aborts a position trail) (store : IsToStore finish.by finish.hold finish.aborts c trail.turns) where
    abbrev node : ℕ
    node = store.begun.node

    abbrev found : List NodeEntry
    found = store.begun.before

    abbrev entry : NodeEntry
    entry = record { front = store.begun.front; by = finish.by; act = store.begun.act; answer = None }

    abbrev behind : List NodeEntry
    behind = found ++ entry ∷ []

    home : node ≡ a.node
    home = sym (come.place ∙ home_turn clock finish.hold finish.aborts node found entry store.begun.rest (subst (λ (ts : List Turn). IsTrue (list_all (is_own_silent clock finish.hold finish.aborts) ts)) store.begun.turns come.own))

    -- ---- its first turn among the steps

    first : First by (run_steps ran) (AtNode node found entry)
    first =
        first_of_line by (run_steps ran) (AtNode node found entry) store.begun.rest
        (own_are asked ran (goes asked ran stand line hold trail finish driven of) line driven.may.among (its_kind asked ran stand line hold trail finish driven of) ∙ (driven.own ∙ store.begun.turns))

    abbrev since : List DoorEntry
    since = door_entry_in first.one.by first.one.turn ++ door_steps first.rest

    door_is : ran.trace.door ≡ door_steps first.pre ++ since
    door_is = door_parts asked ran (goes asked ran stand line hold trail finish driven of) first.pre first.rest first.one first.whole

    seen_then : take entry.front ran.trace.door ≡ door_steps first.pre
    seen_then =
        ap (λ (t : Turn). take (front_in t) ran.trace.door) (sym first.turn)
        ∙ seen_is asked ran (goes asked ran stand line hold trail finish driven of) first.pre first.rest first.one first.whole (ap (λ (t : Turn). is_some (first_of (door_entry_in first.one.by t))) first.turn)

    own_since : own_entries finish.by since ≡ entries_by finish.by trail.turns
    own_since =
        ap (λ (b : By). own_entries b since) of.by
        ∙ (ap (λ (l : List DoorEntry). l ++ own_entries by since) (sym first.none)
        ∙ (sym (filter-append (λ (e : DoorEntry). same_line by e.by) (door_steps first.pre) since)
        ∙ (ap (own_entries by) (sym door_is) ∙ (driven.sees.own ∙ ap (λ (b : By). entries_by b trail.turns) (sym of.by)))))

    -- ---- what was known then

    among : In (AtNode node found entry) (turns by ran.trace)
    among = subst (λ (ts : List Turn). In (AtNode node found entry) ts) (sym (driven.own ∙ store.begun.turns)) (inl refl)

    on : (more : List NodeEntry) × (history_in node 1 ran.trace.nodes ≡ found ++ entry ∷ more)
    on = turn_stands by node found entry ran.trace among

    whole : history_in node 1 ran.trace.nodes ≡ behind ++ on.0
    whole = on.1 ∙ sym (append_assoc found (entry ∷ []) on.0)

    rules : IsTrue (is_legal_node node asked.settings.cache (history_in node 1 ran.trace.nodes)) × IsTrue (is_seen_node node ran.trace.door (history_in node 1 ran.trace.nodes))
    rules = nodes_rules node 1 asked.settings.cache ran.trace.door ran.trace.nodes driven.account.nodes

    legal : LegalNode node asked.settings.cache behind
    legal = (each_after_split (may_follow_at node asked.settings.cache) [] behind on.0 (subst (λ (h : List NodeEntry). LegalNode node asked.settings.cache h) whole rules.0)).0

    seen : IsTrue (is_seen_node node ran.trace.door behind)
    seen = (each_after_split (may_come_at node ran.trace.door) [] behind on.0 (subst (λ (h : List NodeEntry). IsTrue (is_seen_node node ran.trace.door h)) whole rules.1)).0

    fixed : fixed_commit (attempt_state a (part behind)) ≡ Some c
    fixed = subst (λ (o : Option Attempt). fixed_by o (part behind) ≡ Some c) come.held store.fixed

    there : IsFalse (is_gone (attempt_state a (part behind)))
    there = fixed_there (attempt_state a (part behind)) c fixed

    serve : IsTrue (serves a.inc (node_state behind))
    serve = there_serves node asked.settings.cache behind a legal there

    has_begun_then : times_begun a (part behind) ≡ 0 → ⊥
    has_begun_then none = (let once : times_begun a (part behind) ≡ 1 = has_begun node asked.settings.cache a.inc behind legal serve a there (fixed_past (attempt_state a (part behind)) c fixed) in omega arith)

    known : IsTrue (knows_unused (caller_of a) c.id.uuid (door_steps first.pre))
    known =
        subst (λ (d : List DoorEntry). IsTrue (knows_unused (caller_of a) c.id.uuid d)) (ap (λ (n : ℕ). take n ran.trace.door) (fold-append (λ (before : ℕ) (x : NodeEntry). x.front) 0 found (entry ∷ [])) ∙ seen_then)
        (subst (λ (u : List ℕ). IsTrue (knows_unused (caller_of a) u (take (front behind) ran.trace.door))) (sym (fixed_uuid node asked.settings.cache a.inc behind legal serve a c fixed))
        (subst (λ (n : ℕ). IsTrue (knows_unused (incarnation n a.inc) (uuid_of a (part behind)) (take (front behind) ran.trace.door))) home (all_knew node asked.settings.cache ran.trace.door behind legal seen a has_begun_then)))

    -- ---- what is stored

    bounds : (1 ≤ node) × (node < 1 + length ran.trace.nodes)
    bounds = within node 1 ran.trace.nodes found entry on.0 on.1

    home_node : a.node ≢ 0
    home_node none =
        let least : 1 ≤ node = bounds.0 in
        let zero : node ≡ 0 = home ∙ none in
        omega arith

    few_nodes : a.node ≤ 8
    few_nodes =
        let less : node < 1 + length ran.trace.nodes = bounds.1 in
        let most : length ran.trace.nodes ≤ 8 = most_nodes asked ran (goes asked ran stand line hold trail finish driven of) in
        let same : node ≡ a.node = home in
        omega arith

    its_origin : IsNodeOrigin (record_by a (part found) c).origin
    its_origin =
        let limits = read_limits node asked.settings.cache ran.trace.door found entry (record { legal = legal; seen = seen }) a c fixed driven.account.bytes in
        record {
          most = few_nodes;
          least = from_one node asked.settings.cache a.inc behind legal serve;
          reads = are_reads (reads a (part found)) limits;
          uuids = are_uuids (reads a (part found)) limits;
        }

    in_time : IsTrue (is_time c.id.time)
    in_time = timely node asked.settings.cache behind legal a c fixed

    kept : LastAt (Written found) (last_act trail.turns) position
    kept =
        subst (λ (ts : List Turn). LastAt (Written found) (last_act ts) position) (sym store.begun.turns)
        (line_last (Written found) finish.aborts (node_numbers asked.settings) (ends_of (view_of asked ran line)) node found entry store.begun.rest position (written_fixes found store.begun.act)
        (ap (leads_to (command_of finish.aborts) (node_numbers asked.settings) (ends_of (view_of asked ran line))) (sym store.begun.turns) ∙ come.leads (node_numbers asked.settings) (ends_of (view_of asked ran line))))

    are_short : PutsAreShort asked → (values : List (List ℕ)) → values ≡ map (λ write. write.value) (buffer a (part found)) → IsTrue (list_all (λ value. nat_le (length value) 4096) values)
    are_short puts values are =
        shorts asked ran stand driven.account (goes asked ran stand line hold trail finish driven of) puts node asked.settings.cache found (entry ∷ on.0) on.1
        (each_after_split (may_follow_at node asked.settings.cache) [] found (entry ∷ []) legal).0 a values are

  by_stage : (stage : Stage) → made_at clock finish.by finish.hold finish.aborts stage trail → may_put_at stage ran.trace.door
  by_stage (stages.Stores a r values count) made =
      let come = made.0.4 in
      let store = made.1.0 in
      subst (λ (d : List DoorEntry). may_put_at (stages.Stores a r values count) d) (sym (door_is a _ r.commit come store))
      (knows_so clock finish.by finish.hold finish.aborts (stages.Stores a r values count) trail (door_steps (first a _ r.commit come store).pre) (since a _ r.commit come store) made (known a _ r.commit come store) (own_since a _ r.commit come store))
  by_stage stages.Begins made = tt
  by_stage (stages.Settles a r values) made = tt
  by_stage (stages.Failed a r) made = tt
  by_stage (stages.Recorded a r) made = tt
  by_stage (stages.Releases a uuid outcome) made = tt
  by_stage (stages.Doubts a reply) made = tt
  by_stage (stages.Ends a uuid outcome) made = tt
  by_stage (stages.ShutOut a) made = tt
  by_stage stages.Ended made = tt

  pub may_put_so : Made clock finish trail → MayPutAtDoor finish ran.trace.door
  may_put_so made next = by_stage finish.stage made

  storable : PutsAreShort asked → (stage : Stage) → made_at clock finish.by finish.hold finish.aborts stage trail → is_storable_at stage
  storable puts (stages.Stores a r values count) made =
      let come = made.0.4 in
      let store = made.1.0 in
      let written = kept a _ r.commit come store in
      record {
        written_fits = record {
          node = home_node a _ r.commit come store;
          own = ap (λ (x : Record). incarnation x.origin.node x.origin.inc) written.1.0;
          timely = in_time a _ r.commit come store;
          origin = subst (λ (x : Record). IsNodeOrigin x.origin) (sym written.1.0) (its_origin a _ r.commit come store);
        };
        short = are_short a _ r.commit come store puts values (made.0.2 ∙ ap (map (λ (write : Write). write.value)) written.1.1);
      }
  storable puts stages.Begins made = tt
  storable puts (stages.Settles a r values) made = tt
  storable puts (stages.Failed a r) made = tt
  storable puts (stages.Recorded a r) made = tt
  storable puts (stages.Releases a uuid outcome) made = tt
  storable puts (stages.Doubts a reply) made = tt
  storable puts (stages.Ends a uuid outcome) made = tt
  storable puts (stages.ShutOut a) made = tt
  storable puts stages.Ended made = tt

  pub stores_within : PutsAreShort asked → Made clock finish trail → IsStorable finish
  stores_within puts made = storable puts finish.stage made
