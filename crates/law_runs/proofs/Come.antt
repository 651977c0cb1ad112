-- Each step of a run so far is made, and comes, by its rule behind those before it.
use Rattle.std.proofs.Common.{Bool, List, [], ap, append_assoc, arith, eqb, false, inl, inr, leb, length, not, refl, subst, suc, sym, take, true, ℕ, ◌&&◌, ◌++◌, ◌||◌, ◌∙◌, ◌∷◌, ◌≡◌, ◌≤◌, ◌⊎◌}
use Rattle.aft_lines.specs.Advance.{advance, advanced, leads_to}
use Rattle.aft_lines.specs.Asked.{Asked, Ran, are_settings}
use Rattle.aft_lines.specs.CourseWords.{Ends, caller_of}
use Rattle.aft_lines.specs.FinishedText.{line_of}
use Rattle.aft_lines.specs.LegalTrace.{is_of_lines, makers}
use Rattle.aft_lines.specs.LineView.{door_entry_in, ends_of, has_left}
use Rattle.aft_lines.specs.Lines.{lines, node_numbers}
use Rattle.aft_lines.specs.Makes.{makes}
use Rattle.aft_lines.specs.OpeningCourse.{opening_begins}
use Rattle.aft_lines.specs.Progress.{NotBegun, Progress, Stopped}
use Rattle.aft_lines.specs.Steps.{Made, door_steps, is_at_front, is_door_step, own_steps}
use Rattle.aft_lines.specs.Turns.{AtDoor, AtNode, AtOffice, Turn, end_front, front_in, turns}
use Rattle.aft_lines.specs.Views.{view_of}
use Rattle.aft_model.proofs.Histories.{In, all_append, all_at, each_after_split, in_back, in_front}
use Rattle.aft_model.proofs.Lists.{all_from}
use Rattle.aft_model.specs.Attempts.{is_gone}
use Rattle.aft_model.specs.Bytes.{HasBytes, acts_bytes}
use Rattle.aft_model.specs.History.{each_after}
use Rattle.aft_model.specs.LegalDoor.{may_follow}
use Rattle.aft_model.specs.LegalNode.{LegalNode, is_legal_node, may_follow_at}
use Rattle.aft_model.specs.Membership.{Incarnation, incarnation}
use Rattle.aft_model.specs.NodeSights.{has_seen, is_fenced, is_seen_node, may_come_at}
use Rattle.aft_model.specs.NodeState.{IsServing, NodeState, boots, node_state, serves}
use Rattle.aft_model.specs.Opening.{opening}
use Rattle.aft_model.specs.ScanRun.{same_line}
use Rattle.aft_model.specs.declared.caller.Attempt.{Attempt}
use Rattle.aft_model.specs.declared.caller.By.{By}
use Rattle.aft_model.specs.declared.door.DoorAct.{DoorAct}
use Rattle.aft_model.specs.declared.door.DoorEntry.{DoorEntry}
use Rattle.aft_model.specs.declared.mail.MailEntry.{MailEntry}
use Rattle.aft_model.specs.declared.node.NodeEntry.{NodeEntry}
use Rattle.aft_model.specs.declared.script.Command.{Command}
use Rattle.aft_model.specs.declared.script.Line.{Line}
use Rattle.aft_model.specs.declared.trace.Trace.{Trace}
use Rattle.law_claims.proofs.Fenced.{fenced_more}
use Rattle.law_claims.proofs.Moments.{moments_keep, step_keeps}
use Rattle.law_claims.proofs.Scenes.{by_itself, doing_there, is_itself, moves_it, same_by, served}
use Rattle.law_claims.specs.Doing.{attempt_at}
use Rattle.law_claims.specs.Moments.{Asking, ByCommand, ByCourse, ByNobody, Comes, IsMade, MayCome, come_to, node_steps, or_not_begun, scene_of}
use Rattle.law_claims.specs.Scenes.{AreLegal, IsAtRest, IsMoved, IsShut, Keeps, Stands, doing, named}
use Rattle.law_holders.specs.Rows.{is_of_attempt, is_of_node}
use Rattle.law_places.proofs.Seen.{grows}
use Rattle.law_runs.proofs.Members.{in_turns, no_office_step, step_by, step_in}
use Rattle.law_runs.proofs.Nodes.{Stood, nodes_rules, of_node, rises_without, stood, within}
use Rattle.law_runs.proofs.Opening.{opening_reads}
use Rattle.law_runs.proofs.Own.{has_come, makes_all, own_are}
use Rattle.law_runs.proofs.Reading.{reads_alone, reads_quiet}
use Rattle.law_runs.proofs.Walks.{Why, from_nowhere, stops_why}
use Rattle.law_runs.specs.Runs.{Goes, asking_of, command_in, ends_in, line_among, run_steps, without_office}
use Rattle.law_steps.proofs.Exact.{exact}
use Rattle.law_steps.proofs.Histories.{door_is}
use Rattle.law_steps.proofs.Parts.{own-append}
use Rattle.law_steps.specs.Histories.{history_in}
use Rattle.law_steps.specs.OneList.{fronts_rise}
use Rattle.law_turns.specs.Order.{is_at_node, is_at_office}
use Rattle.std.proofs.lemmas.Bool.{and_parts, cases_Bool, eq-eqb, eqb-true, false≢true, leb-true, or_cases, or_left, true≢false}
use Rattle.std.proofs.lemmas.List.{length-take, take-take, take_all, take_at}
use Rattle.std.proofs.lemmas.List.Concat.{flat_map-append}
use Rattle.std.proofs.lemmas.List.Sums.{fold-append}
use Rattle.std.specs.List.{fold, list_all, list_any}
use Rattle.std.specs.Prelude.{IsFalse, IsTrue, None, Option, Some, filter, if◌then◌else◌, map}

-- ---- the line that a step is of

abbrev pub Named : By → List Line → Type 0
Named by some = ((line : Line) × In line some × (line_of line ≡ by) × (line_among by some ≡ Some line)) ⊎ ((line_among by some ≡ None) × IsFalse (list_any (λ (l : Line). same_line (line_of l) by) some))

pub named_line : (by : By) (some : List Line) → Named by some
named_line by [] = inr (refl, refl)
named_line by (line ∷ some) = cases (same_line (line_of line) by) refl (named_line by some)
  where
    cases : (b : Bool) → same_line (line_of line) by ≡ b → Named by some → Named by (line ∷ some)
    cases true is rest = inl (line, inl refl, same_by (line_of line) by is, ap (λ (t : Bool). if t then Some line else line_among by some) is)
    cases false is (inl rest) = inl (rest.0, inr rest.1, rest.2, ap (λ (t : Bool). if t then Some line else line_among by some) is ∙ rest.3)
    cases false is (inr rest) = inr (ap (λ (t : Bool). if t then Some line else line_among by some) is ∙ rest.0, ap (λ (t : Bool). t || list_any (λ (l : Line). same_line (line_of l) by) some) is ∙ rest.1)

-- ---- what a beginning of a line leads to

pub leads_before : (command : Command) (nodes : List ℕ) (ends : Ends) (xs ys : List Turn) (p : Progress) → leads_to command nodes ends (xs ++ ys) ≡ Some p
    → (q : Progress) × (leads_to command nodes ends xs ≡ Some q) × (fold (advanced (advance command nodes ends)) (Some q) ys ≡ Some p)
leads_before command nodes ends xs ys p is = cases (leads_to command nodes ends xs) refl
  where
    cases : (o : Option Progress) → leads_to command nodes ends xs ≡ o → (q : Progress) × (leads_to command nodes ends xs ≡ Some q) × (fold (advanced (advance command nodes ends)) (Some q) ys ≡ Some p)
    cases None e = absurd (from_nowhere (advance command nodes ends) ys p (ap (λ (o : Option Progress). fold (advanced (advance command nodes ends)) o ys) (sym e) ∙ (sym (fold-append (advanced (advance command nodes ends)) (Some NotBegun) xs ys) ∙ is)))
    cases (Some q) e = (q, e, ap (λ (o : Option Progress). fold (advanced (advance command nodes ends)) o ys) (sym e) ∙ (sym (fold-append (advanced (advance command nodes ends)) (Some NotBegun) xs ys) ∙ is))

-- ---- who was fenced

fenced_less : (who : Incarnation) (f g : ℕ) (door : List DoorEntry) → IsTrue (is_fenced who (take f (take g door))) → IsTrue (is_fenced who (take f door))
fenced_less who f g door is = elim (cases_Bool (leb f g)) [
  | inl le ↦ subst (λ (d : List DoorEntry). IsTrue (is_fenced who d)) (take-take f g door (leb-true f g le)) is
  | inr gt ↦ further (let n = not_le f g gt in n)
]
  where
    not_le : (a b : ℕ) → leb a b ≡ false → b ≤ a
    not_le a b n = grind arith

    further : g ≤ f → IsTrue (is_fenced who (take f door))
    further le =
        let more = grows g f door le in
        subst (λ (d : List DoorEntry). IsTrue (is_fenced who d)) (sym more.1)
        (fenced_more who (take g door) more.0 (subst (λ (d : List DoorEntry). IsTrue (is_fenced who d)) (take_all f (take g door) (short g door f le)) is))
      where
        short : (n : ℕ) (d : List DoorEntry) (m : ℕ) → n ≤ m → length (take n d) ≤ m
        short n d m le' = (let k = length-take n d in grind arith)

pub fenced_later : (who : Incarnation) (f g : ℕ) (door : List DoorEntry) → f ≤ g → IsTrue (is_fenced who (take f door)) → IsTrue (is_fenced who (take g door))
fenced_later who f g door le is = (let more = grows f g door le in subst (λ (d : List DoorEntry). IsTrue (is_fenced who d)) (sym more.1) (fenced_more who (take f door) more.0 is))

-- ---- a run

module _ (asked : Asked) (ran : Ran) (so : Goes asked ran) where
  abbrev asking : Asking
  asking = asking_of asked ran

  abbrev capacity : ℕ
  capacity = asked.settings.cache

  abbrev plain : Trace
  plain = without_office ran.trace

  pub rise : IsTrue (fronts_rise plain)
  rise = rises_without capacity ran.trace so.nodes

  pub opens_parts : IsTrue (list_all (list_all (is_of_lines (lines asked))) (makers ran)) × IsTrue (opening_begins (node_numbers asked.settings) (turns opening ran.trace))
  opens_parts = and_parts (list_all (list_all (is_of_lines (lines asked))) (makers ran)) (opening_begins (node_numbers asked.settings) (turns opening ran.trace)) so.opening

  pub door_makers : IsTrue (list_all (is_of_lines (lines asked)) (map (λ (e : DoorEntry). e.by) ran.trace.door))
  door_makers = all_at (list_all (is_of_lines (lines asked))) (map (λ (e : DoorEntry). e.by) ran.trace.door) (makers ran) (inl refl) opens_parts.0

  pub node_makers : IsTrue (list_all (list_all (is_of_lines (lines asked))) (map (map (λ (e : NodeEntry). e.by)) ran.trace.nodes))
  node_makers = all_from (list_all (is_of_lines (lines asked))) (map (map (λ (e : NodeEntry). e.by)) ran.trace.nodes) (λ bys there.
      all_at (list_all (is_of_lines (lines asked))) bys (makers ran) (inr (inr (in_front bys (map (map (λ (e : NodeEntry). e.by)) ran.trace.nodes) (map (map (λ (e : MailEntry). e.by)) ran.mail) there))) opens_parts.0)

  pub opening_alone : IsTrue (list_all reads_alone (turns opening ran.trace))
  opening_alone = opening_reads (node_numbers asked.settings) ran.trace so.door opens_parts.1

  pub most_nodes : length ran.trace.nodes ≤ 8
  most_nodes =
      let fits = and_parts (are_settings asked.settings && eqb (length ran.trace.nodes) asked.settings.nodes) (eqb (length ran.mail) (suc asked.settings.nodes)) so.settings in
      let these = and_parts (are_settings asked.settings) (eqb (length ran.trace.nodes) asked.settings.nodes) fits.0 in
      let same = eqb-true (length ran.trace.nodes) asked.settings.nodes these.1 in
      let limit = at_most (leb 1 asked.settings.nodes) (leb asked.settings.nodes 8) (leb 1 asked.settings.cache) (leb asked.settings.cache 4096) (leb 1 asked.settings.mailbox) (leb asked.settings.mailbox 4096) (leb asked.settings.rounds 20) these.0 in
      let most = leb-true asked.settings.nodes 8 limit in
      omega arith
    where
      at_most : (a b c d e f g : Bool) → IsTrue (a && b && c && d && e && f && g) → IsTrue b
      at_most a true c d e f g is = refl
      at_most true false c d e f g is = is
      at_most false false c d e f g is = is

  module _ (before rest : List Made) (one : Made) (is : run_steps ran ≡ before ++ one ∷ rest) where
    among : In one (run_steps ran)
    among = subst (λ (l : List Made). In one l) (sym is) (in_back one before (one ∷ rest) (inl refl))

    pub door_parts : ran.trace.door ≡ door_steps before ++ (door_entry_in one.by one.turn ++ door_steps rest)
    door_parts = sym (door_is plain) ∙ (ap door_steps is ∙ flat_map-append (λ (m : Made). door_entry_in m.by m.turn) before (one ∷ rest))

    pub front_is : is_door_step one ≡ false → length (door_steps before) ≡ front_in one.turn
    front_is other =
        let split = each_after_split is_at_front [] before (one ∷ rest) (subst (λ (l : List Made). IsTrue (each_after is_at_front [] l)) is (exact plain)) in
        let here = (and_parts (is_at_front before one) (each_after is_at_front (before ++ one ∷ []) rest) split.1).0 in
        elim (or_cases (is_door_step one) (eqb (length (door_steps before)) (front_in one.turn)) here) [
          | inl door ↦ absurd (true≢false (sym door ∙ other))
          | inr same ↦ eqb-true (length (door_steps before)) (front_in one.turn) same
        ]

    pub seen_is : is_door_step one ≡ false → take (front_in one.turn) ran.trace.door ≡ door_steps before
    seen_is other = ap (take (front_in one.turn)) door_parts ∙ take_at (door_steps before) (door_entry_in one.by one.turn ++ door_steps rest) (front_in one.turn) (front_is other)

    -- ---- its line

    module _ (line : Line) (listed : In line (lines asked)) (its : line_of line ≡ one.by) where
      pub turn_made : IsTrue (makes line.order one.turn)
      turn_made = all_at (makes line.order) one.turn (turns (line_of line) ran.trace) (subst (λ (b : By). In one.turn (turns b ran.trace)) (sym its) (in_turns one.by ran.trace one.turn (step_in ran.trace one among))) (makes_all asked ran so line listed)

      module _ (of : IsTrue (is_of_attempt line.order)) where
        -- its turns: those so far, this one, and more
        whole_line : turns (line_of line) ran.trace ≡ (own_steps one.by before ++ one.turn ∷ []) ++ own_steps one.by rest
        whole_line =
            sym (own_are asked ran so line listed of)
            ∙ (ap (λ (b : By). own_steps b (run_steps ran)) its ∙ (ap (own_steps one.by) is ∙ (own-append one.by before (one ∷ rest)
            ∙ (ap (λ (b : Bool). own_steps one.by before ++ map (λ (m : Made). m.turn) (if b then one ∷ filter (λ (m : Made). same_line one.by m.by) rest else filter (λ (m : Made). same_line one.by m.by) rest)) (by_itself one.by)
            ∙ sym (append_assoc (own_steps one.by before) (one.turn ∷ []) (own_steps one.by rest))))))

        abbrev its_ends : Ends
        its_ends = ends_of (view_of asked ran line)

        led : (q : Progress) × (leads_to line.order (node_numbers asked.settings) its_ends (own_steps one.by before ++ one.turn ∷ []) ≡ Some q) × (fold (advanced (advance line.order (node_numbers asked.settings) its_ends)) (Some q) (own_steps one.by rest) ≡ Some (has_come asked ran so line listed).0)
        led = leads_before line.order (node_numbers asked.settings) its_ends (own_steps one.by before ++ one.turn ∷ []) (own_steps one.by rest) (has_come asked ran so line listed).0
            (ap (leads_to line.order (node_numbers asked.settings) its_ends) (sym whole_line) ∙ (has_come asked ran so line listed).1)

        -- where it stops, its incarnation was fenced, if the moment before keeps what it should
        stops_rightly : Keeps (scene_of asking before) → (line_among one.by (lines asked) ≡ Some line) → (at : ℕ) (entry : NodeEntry) → one.turn ≡ AtNode at (node_steps at before) entry → take entry.front ran.trace.door ≡ door_steps before → (a : Attempt) → led.0 ≡ Stopped a
            → IsTrue (is_fenced (caller_of a) (door_steps before))
        stops_rightly keeps found at entry turned seen a stop =
            let was = leads_before line.order (node_numbers asked.settings) its_ends (own_steps one.by before) (one.turn ∷ []) led.0 led.1 in
            let step : advance line.order (node_numbers asked.settings) its_ends was.0 (AtNode at (node_steps at before) entry) ≡ Some (Stopped a) = ap (advance line.order (node_numbers asked.settings) its_ends was.0) (sym turned) ∙ (was.2 ∙ ap (λ (p : Progress). Some p) stop) in
            let why = stops_why line.order (node_numbers asked.settings) its_ends of was.0 at (node_steps at before) entry a step in
            let here : (scene_of asking before).at one.by ≡ was.0 =
            ap (λ (o : Option Line). come_to (node_numbers asked.settings) (ends_in asked ran o) (own_steps one.by before) (command_in o)) found
            ∙ (ap (λ (b : Bool). if b then or_not_begun (leads_to line.order (node_numbers asked.settings) its_ends (own_steps one.by before)) else NotBegun) of ∙ ap or_not_begun was.1) in
            let moves_it' : attempt_at ((scene_of asking before).at one.by) ≡ Some a = ap attempt_at here ∙ why.0 in
            by_why why.1 why.2 (keeps.attempts a (keeps.movers one.by a moves_it')) moves_it'
          where
            by_state : a.node ≡ at → IsTrue (has_left a.inc (node_state (node_steps at before))) → IsFalse (is_gone (doing (scene_of asking before) a)) → ⊥
            by_state its left there =
                let s = served a (node_state (node_steps a.node before)) there in
                let now : node_state (node_steps at before) ≡ IsServing s.0 = ap (λ (n : ℕ). node_state (node_steps n before)) (sym its) ∙ s.1 in
                let serve : IsTrue (serves a.inc (node_state (node_steps at before))) = subst (λ (state : NodeState). IsTrue (serves a.inc state)) (sym now) (eq-eqb a.inc s.0.inc s.2) in
                true≢false (sym left ∙ ap not (or_left (serves a.inc (node_state (node_steps at before))) (boots a.inc (node_state (node_steps at before))) serve))

            by_why : a.node ≡ at → Why its_ends (node_steps at before) entry a → Stands (scene_of asking before) a → attempt_at ((scene_of asking before).at one.by) ≡ Some a → IsTrue (is_fenced (caller_of a) (door_steps before))
            by_why its (inr shut) stands mine = subst (λ (d : List DoorEntry). IsTrue (is_fenced (caller_of a) d)) seen (fenced_less (caller_of a) entry.front (end_front (turns (line_of line) ran.trace)) ran.trace.door shut)
            by_why its (inl left) (IsShut gone) mine = gone
            by_why its (inl left) (IsAtRest none rest') mine = absurd (true≢false (sym (is_itself a (attempt_at ((scene_of asking before).at one.by)) mine) ∙ none one.by))
            by_why its (inl left) (IsMoved by moved row only) mine =
                absurd (by_state its left (doing_there ((scene_of asking before).at by) (doing (scene_of asking before) a) (moves_it ((scene_of asking before).at by) a (doing (scene_of asking before) a) (named (scene_of asking before) a) moved).1))

    -- ---- it is made

    -- where it is of no line, it is of the opening
    nobody_reads : IsFalse (list_any (λ (l : Line). same_line (line_of l) one.by) (lines asked)) → IsTrue (reads_alone one.turn)
    nobody_reads none =
        let own : opening ≡ one.by = elim (or_cases (same_line opening one.by) (list_any (λ (l : Line). same_line (line_of l) one.by) (lines asked)) (step_by (is_of_lines (lines asked)) ran.trace one door_makers node_makers among)) [
          | inl it ↦ same_by opening one.by it
          | inr other ↦ absurd (true≢false (sym other ∙ none))
        ] in
        all_at reads_alone one.turn (turns opening ran.trace) (subst (λ (b : By). In one.turn (turns b ran.trace)) (sym own) (in_turns one.by ran.trace one.turn (step_in ran.trace one among))) opening_alone

    pub unasked_reads : asking.command one.by ≡ None → IsTrue (reads_alone one.turn)
    unasked_reads is' = cases (named_line one.by (lines asked))
      where
        cases : Named one.by (lines asked) → IsTrue (reads_alone one.turn)
        cases (inl n) = absurd (let e : Some n.0.order ≡ None = sym (ap command_in n.3) ∙ is' in cc)
        cases (inr n) = nobody_reads n.1

    pub is_made : IsMade asking before one.by one.turn
    is_made = cases (named_line one.by (lines asked))
      where
        by_kind : (line : Line) → In line (lines asked) → line_of line ≡ one.by → line_among one.by (lines asked) ≡ Some line → (b : Bool) → is_of_attempt line.order ≡ b → IsMade asking before one.by one.turn
        by_kind line listed its found true of =
            ByCourse line.order (led line listed its of).0 (ap command_in found) of
            (ap (λ (o : Option Line). leads_to line.order (node_numbers asked.settings) (ends_in asked ran o) (own_steps one.by before ++ one.turn ∷ [])) found ∙ (led line listed its of).1)
        by_kind line listed its found false other = ByCommand line.order (ap command_in found) other (turn_made line listed its)

        cases : Named one.by (lines asked) → IsMade asking before one.by one.turn
        cases (inl n) = by_kind n.0 n.1 n.2 n.3 (is_of_attempt n.0.order) refl
        cases (inr n) = ByNobody (ap command_in n.0) (reads_quiet one.turn (nobody_reads n.1))

    -- ---- it comes

    comes_door : (place : ℕ) (act : DoorAct) → one.turn ≡ AtDoor place act → Comes asking capacity before one.by (AtDoor place act)
    comes_door place act e =
        let entry : DoorEntry = record { by = one.by; act = act } in
        let whole : ran.trace.door ≡ (door_steps before ++ entry ∷ []) ++ door_steps rest =
        door_parts ∙ (ap (λ (t : Turn). door_steps before ++ (door_entry_in one.by t ++ door_steps rest)) e ∙ sym (append_assoc (door_steps before) (entry ∷ []) (door_steps rest))) in (
          (each_after_split may_follow [] (door_steps before ++ entry ∷ []) (door_steps rest) (subst (λ (d : List DoorEntry). IsTrue (each_after may_follow [] d)) whole so.door)).0,
          (all_append (λ (d : DoorEntry). acts_bytes d.act) (door_steps before ++ entry ∷ []) (door_steps rest) (subst (λ (d : List DoorEntry). HasBytes d) whole so.bytes)).0,
        )

    comes_node : Keeps (scene_of asking before) → (node : ℕ) → Stood node before one (history_in node 1 ran.trace.nodes) → Comes asking capacity before one.by one.turn
    comes_node keeps node st = subst (λ (m : Made). Comes asking capacity before m.by m.turn) (sym st.is) (refl, refl, of_nodes, legal_here, sight, shut, stopped)
      where
        no_door : is_door_step one ≡ false
        no_door = ap is_door_step st.is

        front_here : front_in one.turn ≡ st.entry.front
        front_here = ap (λ (m : Made). front_in m.turn) st.is

        by_here : one.by ≡ st.entry.by
        by_here = ap (λ (m : Made). m.by) st.is

        seen_here : take st.entry.front ran.trace.door ≡ door_steps before
        seen_here = ap (λ (f : ℕ). take f ran.trace.door) (sym front_here) ∙ seen_is no_door

        rules : IsTrue (is_legal_node node capacity (history_in node 1 ran.trace.nodes)) × IsTrue (is_seen_node node ran.trace.door (history_in node 1 ran.trace.nodes))
        rules = nodes_rules node 1 capacity ran.trace.door ran.trace.nodes so.nodes

        of_nodes : (inc : ℕ) → IsTrue (is_of_node (incarnation node inc))
        of_nodes inc =
            let bounds = within node 1 ran.trace.nodes (node_steps node before) st.entry st.more st.whole in
            let low = bounds.0 in
            let high = bounds.1 in
            let most = most_nodes in
            of_node node inc low (omega arith)

        legal_here : LegalNode node capacity (node_steps node before ++ st.entry ∷ [])
        legal_here = (each_after_split (may_follow_at node capacity) [] (node_steps node before ++ st.entry ∷ []) st.more
            (subst (λ (h : List NodeEntry). IsTrue (each_after (may_follow_at node capacity) [] h)) (st.whole ∙ sym (append_assoc (node_steps node before) (st.entry ∷ []) st.more)) rules.0)).0

        sight : IsTrue (has_seen node (door_steps before) st.entry.by (node_steps node before) st.entry.act st.entry.answer)
        sight =
            let split = each_after_split (may_come_at node ran.trace.door) [] (node_steps node before) (st.entry ∷ st.more) (subst (λ (h : List NodeEntry). IsTrue (each_after (may_come_at node ran.trace.door) [] h)) st.whole rules.1) in
            let rule = (and_parts (may_come_at node ran.trace.door (node_steps node before) st.entry) (each_after (may_come_at node ran.trace.door) (node_steps node before ++ st.entry ∷ []) st.more) split.1).0 in
            subst (λ (d : List DoorEntry). IsTrue (has_seen node d st.entry.by (node_steps node before) st.entry.act st.entry.answer)) seen_here
            (and_parts (leb st.entry.front (length ran.trace.door)) (has_seen node (take st.entry.front ran.trace.door) st.entry.by (node_steps node before) st.entry.act st.entry.answer) rule).1

        shut_by : (o : Option Line) (who : Incarnation) → IsTrue ((ends_in asked ran o).is_shut_out who st.entry.front) → IsTrue (is_fenced who (door_steps before))
        shut_by None who gone = absurd (false≢true gone)
        shut_by (Some line) who gone = subst (λ (d : List DoorEntry). IsTrue (is_fenced who d)) seen_here (fenced_less who st.entry.front (end_front (turns (line_of line) ran.trace)) ran.trace.door gone)

        shut : (who : Incarnation) → IsTrue ((asking.ends st.entry.by).is_shut_out who st.entry.front) → IsTrue (is_fenced who (door_steps before))
        shut who gone = shut_by (line_among st.entry.by (lines asked)) who gone

        own_here : own_steps one.by (before ++ one ∷ []) ≡ own_steps one.by before ++ one.turn ∷ []
        own_here = own-append one.by before (one ∷ []) ∙ ap (λ (b : Bool). own_steps one.by before ++ map (λ (m : Made). m.turn) (if b then one ∷ [] else [])) (by_itself one.by)

        at_kind : (a : Attempt) (line : Line) → In line (lines asked) → line_of line ≡ one.by → line_among one.by (lines asked) ≡ Some line → (b : Bool) → is_of_attempt line.order ≡ b
            → come_to (node_numbers asked.settings) (ends_of (view_of asked ran line)) (own_steps one.by before ++ one.turn ∷ []) (Some line.order) ≡ Stopped a → IsTrue (is_fenced (caller_of a) (door_steps before))
        at_kind a line listed its found true of stop =
            stops_rightly line listed its of keeps found node st.entry (ap (λ (m : Made). m.turn) st.is) seen_here a
            (sym (ap or_not_begun (led line listed its of).1)
            ∙ (sym (ap (λ (b : Bool). if b then or_not_begun (leads_to line.order (node_numbers asked.settings) (ends_of (view_of asked ran line)) (own_steps one.by before ++ one.turn ∷ [])) else NotBegun) of) ∙ stop))
        at_kind a line listed its found false other stop =
            absurd (not_first (sym (ap (λ (b : Bool). if b then or_not_begun (leads_to line.order (node_numbers asked.settings) (ends_of (view_of asked ran line)) (own_steps one.by before ++ one.turn ∷ [])) else NotBegun) other) ∙ stop))
          where
            is_first : Progress → Bool
            is_first NotBegun = true
            is_first p = false

            not_first : NotBegun ≡ Stopped a → ⊥
            not_first e = true≢false (ap is_first e)

        at_named : (a : Attempt) → Named one.by (lines asked) → come_to (node_numbers asked.settings) (ends_in asked ran (line_among one.by (lines asked))) (own_steps one.by before ++ one.turn ∷ []) (command_in (line_among one.by (lines asked))) ≡ Stopped a → IsTrue (is_fenced (caller_of a) (door_steps before))
        at_named a (inl n) stop =
            at_kind a n.0 n.1 n.2 n.3 (is_of_attempt n.0.order) refl
            (subst (λ (o : Option Line). come_to (node_numbers asked.settings) (ends_in asked ran o) (own_steps one.by before ++ one.turn ∷ []) (command_in o) ≡ Stopped a) n.3 stop)
        at_named a (inr n) stop = absurd (not_first (subst (λ (o : Option Line). come_to (node_numbers asked.settings) (ends_in asked ran o) (own_steps one.by before ++ one.turn ∷ []) (command_in o) ≡ Stopped a) n.0 stop))
          where
            is_first : Progress → Bool
            is_first NotBegun = true
            is_first p = false

            not_first : NotBegun ≡ Stopped a → ⊥
            not_first e = true≢false (ap is_first e)

        stopped : (a : Attempt) → (scene_of asking (before ++ record { by = st.entry.by; turn = AtNode node (node_steps node before) st.entry } ∷ [])).at st.entry.by ≡ Stopped a → IsTrue (is_fenced (caller_of a) (door_steps before))
        stopped a stop =
            let here : (scene_of asking (before ++ one ∷ [])).at one.by ≡ Stopped a = subst (λ (m : Made). (scene_of asking (before ++ m ∷ [])).at m.by ≡ Stopped a) (sym st.is) stop in
            at_named a (named_line one.by (lines asked)) (ap (λ (l : List Turn). come_to (node_numbers asked.settings) (ends_in asked ran (line_among one.by (lines asked))) l (command_in (line_among one.by (lines asked)))) (sym own_here) ∙ here)

    pub it_comes : Keeps (scene_of asking before) → Comes asking capacity before one.by one.turn
    it_comes keeps = by_turn one.turn refl
      where
        by_turn : (turn : Turn) → one.turn ≡ turn → Comes asking capacity before one.by one.turn
        by_turn (AtDoor place act) e = subst (λ (t : Turn). Comes asking capacity before one.by t) (sym e) (comes_door place act e)
        by_turn (AtNode node history entry) e = comes_node keeps node (stood plain rise before rest one is node (ap (is_at_node node) e ∙ eq-eqb node node refl))
        by_turn (AtOffice history entry) e = absurd (true≢false (sym (ap is_at_office e) ∙ no_office_step ran.trace one among))

  come_from : (made before : List Made) → run_steps ran ≡ before ++ made → Keeps (scene_of asking before) × AreLegal capacity (scene_of asking before) → MayCome asking capacity before made
  come_from [] before is both = tt
  come_from (one ∷ made) before is both =
      let how = is_made before made one is in
      let comes = it_comes before made one is both.0 in
      (how, comes, come_from made (before ++ one ∷ []) (is ∙ sym (append_assoc before (one ∷ []) made)) (step_keeps asking capacity before both one.by one.turn how comes))

  pub come : MayCome asking capacity [] (run_steps ran)
  come = come_from (run_steps ran) [] refl (moments_keep asking capacity [] [] tt)
