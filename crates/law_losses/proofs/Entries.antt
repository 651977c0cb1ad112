-- Each entry of a node or the office tells of no loss: it is of the opening, which boots, or of a line.
use Rattle.std.proofs.Common.{◌≡◌, ℕ, Bool, suc, ◌&&◌, ◌||◌, not, List, [], ◌∷◌, ◌++◌, refl, sym, ap, subst, ◌∙◌, inl, inr, map}
use Rattle.std.specs.Prelude.{IsTrue, None, Option, Some, if◌then◌else◌, nat_le, ◌⊎◌}
use Rattle.std.specs.List.{cons_option, filter_map, flat_map, list_all, list_any}
use Rattle.std.proofs.lemmas.Bool.{and_from, and_parts, false≢true, or_cases, not-true, true≢false}
use Rattle.aft_model.specs.declared.caller.By.{By}
use Rattle.aft_model.specs.declared.door.DoorEntry.{DoorEntry}
use Rattle.aft_model.specs.declared.node.NodeAct.{NodeAct}
use Rattle.aft_model.specs.declared.node.NodeAct.TheVariants as acts
use Rattle.aft_model.specs.declared.node.NodeEntry.{NodeEntry}
use Rattle.aft_model.specs.declared.office.OfficeEntry.{OfficeEntry}
use Rattle.aft_model.specs.declared.reply.Reply.{Reply}
use Rattle.aft_model.specs.declared.reply.Reply.TheVariants as replies
use Rattle.aft_model.specs.declared.script.Line.{Line}
use Rattle.aft_model.specs.History.{each_after}
use Rattle.aft_model.specs.Honest.{Honest}
use Rattle.aft_model.specs.LegalNode.{front, is_legal_node, may_be_done, may_follow_at}
use Rattle.aft_model.specs.NodeRules.{is_own_end}
use Rattle.aft_model.specs.NodeSights.{is_seen_node}
use Rattle.aft_model.specs.NodeState.{boots, node_state, part}
use Rattle.aft_model.specs.Opening.{opening}
use Rattle.aft_model.specs.Replies.{is_answer, is_silent}
use Rattle.aft_model.specs.ScanRun.{same_line}
use Rattle.aft_model.proofs.Histories.{In, all_at, in_back, in_front}
use Rattle.aft_model.proofs.Lists.{map_in}
use Rattle.aft_lines.specs.Asked.{Asked, Ran}
use Rattle.aft_lines.specs.FinishedText.{answer_to, answers_of, line_of}
use Rattle.aft_lines.specs.Headline.{loses_nothing, tells_loss}
use Rattle.aft_lines.specs.LegalTrace.{LegalTrace, are_legal_nodes, is_of_lines, makers}
use Rattle.aft_lines.specs.Lines.{lines, node_numbers}
use Rattle.aft_lines.specs.OpeningCourse.{opening_begins}
use Rattle.aft_lines.specs.Turns.{AtNode, AtOffice, Turn, door_turns, node_turns, nodes_turns, office_turns, turns}
use Rattle.law_kept.proofs.Gone.{flat_map_in}
use Rattle.law_claims.proofs.Scenes.{by_itself}
use Rattle.law_runs.specs.Runs.{Goes, line_among}
use Rattle.law_runs.proofs.Come.{named_line}
use Rattle.law_runs.proofs.LegalRuns.{legal_goes}
use Rattle.law_runs.proofs.Members.{in_turns}
use Rattle.law_runs.proofs.Opening.{opening_reads}
use Rattle.law_runs.proofs.Reading.{is_of_boot, reads_alone}
use Rattle.law_steps.specs.OneList.{entries_of}
use Rattle.law_damage.specs.Paging.{is_get}
use Rattle.law_damage.proofs.Told.{missed_by_gets}
use Rattle.law_copies.proofs.Told.{told_by_gets}
use Rattle.law_losses.specs.Gets.{GetsLoseNothing}

filter_map_in : {A B : Type 0} (f : A → Option B) (y : B) (x : A) (xs : List A) → In x xs → f x ≡ Some y → In y (filter_map f xs)
filter_map_in f y x [] among is = absurd among
filter_map_in {A} {B} f y x (z ∷ xs) (inl here) is = subst (λ (o : Option B). In y (cons_option o (filter_map f xs))) (sym (ap f (sym here) ∙ is)) (inl refl)
filter_map_in {A} {B} f y x (z ∷ xs) (inr later) is = behind (f z) (filter_map_in f y x xs later is)
  where
    behind : (o : Option B) → In y (filter_map f xs) → In y (cons_option o (filter_map f xs))
    behind None there = there
    behind (Some b) there = inr there

-- the boots of the opening answer that the node started, or nothing
boots_lose_none : (node capacity : ℕ) (before : List NodeEntry) (act : NodeAct) (answer : Option Reply) → IsTrue (is_of_boot act) → IsTrue (may_be_done node capacity before act answer) → IsTrue (not (tells_loss answer))
boots_lose_none node capacity before (acts.Booting inc) None boot done = refl
boots_lose_none node capacity before (acts.Booting inc) (Some reply) boot done = absurd (false≢true (and_parts _ (is_silent (Some reply)) done).1)
boots_lose_none node capacity before (acts.Boot inc commits) None boot done = refl
boots_lose_none node capacity before (acts.Boot inc commits) (Some reply) boot done = by_reply reply (and_parts (boots inc (node_state before)) (is_answer (replies.Started node inc) (Some reply)) done).1
  where
    by_reply : (r : Reply) → IsTrue (is_answer (replies.Started node inc) (Some r)) → IsTrue (not (tells_loss (Some r)))
    by_reply (replies.Missing id) is = absurd (false≢true is)
    by_reply (replies.Damaged name) is = absurd (false≢true is)
    by_reply r is = refl
boots_lose_none node capacity before act answer boot done = absurd (false≢true boot)

module _ (asked : Asked) (ran : Ran) (legal : LegalTrace asked ran) (honest : Honest ran.trace.door) (gets : GetsLoseNothing asked ran) where
  abbrev goes : Goes asked ran
  goes = legal_goes asked ran legal

  abbrev door : List DoorEntry
  door = ran.trace.door

  -- ---- a line

  by_get : (line : Line) → In line (lines asked) → IsTrue (is_get line.order) → (reply : Reply) → In reply (answers_of (line_of line) ran) → IsTrue (not (tells_loss (Some reply)))
  by_get line listed is reply among = elim (or_cases (not (is_get line.order)) (list_all (λ (r : Reply). not (tells_loss (Some r))) (answers_of (line_of line) ran))
      (all_at (λ (l : Line). not (is_get l.order) || list_all (λ (r : Reply). not (tells_loss (Some r))) (answers_of (line_of l) ran)) line (lines asked) listed gets)) [
        | inl other ↦ absurd (true≢false (sym is ∙ not-true (is_get line.order) other))
        | inr all ↦ all_at (λ (r : Reply). not (tells_loss (Some r))) reply (answers_of (line_of line) ran) among all
      ]

  line_loses_none : (line : Line) → In line (lines asked) → line_among (line_of line) (lines asked) ≡ Some line → (reply : Reply) → In reply (answers_of (line_of line) ran) → IsTrue (not (tells_loss (Some reply)))
  line_loses_none line listed first (replies.Missing id) among = by_get line listed (missed_by_gets asked ran line id legal listed among) (replies.Missing id) among
  line_loses_none line listed first (replies.Damaged name) among = by_get line listed (told_by_gets asked ran line name legal honest listed first among) (replies.Damaged name) among
  line_loses_none line listed first reply among = refl

  pub of_line : (by : By) → IsTrue (list_any (λ (l : Line). same_line (line_of l) by) (lines asked)) → (answer : Option Reply) → ((reply : Reply) → answer ≡ Some reply → In reply (answers_of by ran)) → IsTrue (not (tells_loss answer))
  of_line by some None among = refl
  of_line by some (Some reply) among = elim (named_line by (lines asked)) [
    | inl named ↦ line_loses_none named.0 named.1 (ap (λ (b : By). line_among b (lines asked)) named.2 ∙ named.3) reply (subst (λ (b : By). In reply (answers_of b ran)) (sym named.2) (among reply refl))
    | inr none ↦ absurd (true≢false (sym some ∙ none.1))
  ]

  -- ---- an entry

  reads : (turn : Turn) → In turn (entries_of opening ran.trace) → IsTrue (reads_alone turn)
  reads turn among =
      all_at reads_alone turn (turns opening ran.trace) (in_turns opening ran.trace turn among)
      (opening_reads (node_numbers asked.settings) ran.trace goes.door (and_parts (list_all (list_all (is_of_lines (lines asked))) (makers ran)) (opening_begins (node_numbers asked.settings) (turns opening ran.trace)) goes.opening).1)

  known : (bys : List By) → In bys (makers ran) → IsTrue (list_all (is_of_lines (lines asked)) bys)
  known bys among = all_at (list_all (is_of_lines (lines asked))) bys (makers ran) among (and_parts (list_all (list_all (is_of_lines (lines asked))) (makers ran)) (opening_begins (node_numbers asked.settings) (turns opening ran.trace)) goes.opening).0

  answers_at : (h : List NodeEntry) → In h ran.trace.nodes → (entry : NodeEntry) → In entry h → (reply : Reply) → entry.answer ≡ Some reply → In reply (answers_of entry.by ran)
  answers_at h there entry among reply is =
      in_front reply (flat_map (λ (entries : List NodeEntry). filter_map (λ (e : NodeEntry). answer_to entry.by e.by e.answer) entries) ran.trace.nodes) (filter_map (λ (e : OfficeEntry). answer_to entry.by e.by e.answer) ran.trace.office)
      (flat_map_in (λ (entries : List NodeEntry). filter_map (λ (e : NodeEntry). answer_to entry.by e.by e.answer) entries) reply h ran.trace.nodes there
      (filter_map_in (λ (e : NodeEntry). answer_to entry.by e.by e.answer) reply entry h among (ap (λ (b : Bool). if b then entry.answer else None) (by_itself entry.by) ∙ is)))

  office_answers_at : (entry : OfficeEntry) → In entry ran.trace.office → (reply : Reply) → entry.answer ≡ Some reply → In reply (answers_of entry.by ran)
  office_answers_at entry among reply is =
      in_back reply (flat_map (λ (entries : List NodeEntry). filter_map (λ (e : NodeEntry). answer_to entry.by e.by e.answer) entries) ran.trace.nodes) (filter_map (λ (e : OfficeEntry). answer_to entry.by e.by e.answer) ran.trace.office)
      (filter_map_in (λ (e : OfficeEntry). answer_to entry.by e.by e.answer) reply entry ran.trace.office among (ap (λ (b : Bool). if b then entry.answer else None) (by_itself entry.by) ∙ is))

  -- ---- the histories

  module _ (node : ℕ) (h : List NodeEntry) (there : In h ran.trace.nodes) where
    history_loses_none : (before rest : List NodeEntry) → IsTrue (each_after (may_follow_at node asked.settings.cache) before rest) → ((entry : NodeEntry) → In entry rest → In entry h)
        → ((turn : Turn) → In turn (node_turns opening node before rest) → IsTrue (reads_alone turn)) → IsTrue (each_after (λ before' entry. not (tells_loss entry.answer)) before rest)
    history_loses_none before [] follows within boot = refl
    history_loses_none before (entry ∷ rest) follows within boot =
        and_from (not (tells_loss entry.answer)) _ (by_maker (or_cases (same_line opening entry.by) (list_any (λ (l : Line). same_line (line_of l) entry.by) (lines asked)) maker))
        (history_loses_none (before ++ entry ∷ []) rest parts.1 (λ e among. within e (inr among))
        (λ turn among. boot turn (in_back turn (if same_line opening entry.by then AtNode node before entry ∷ [] else []) (node_turns opening node (before ++ entry ∷ []) rest) among)))
      where
        parts : IsTrue (may_follow_at node asked.settings.cache before entry) × IsTrue (each_after (may_follow_at node asked.settings.cache) (before ++ entry ∷ []) rest)
        parts = and_parts (may_follow_at node asked.settings.cache before entry) (each_after (may_follow_at node asked.settings.cache) (before ++ entry ∷ []) rest) follows

        maker : IsTrue (is_of_lines (lines asked) entry.by)
        maker = all_at (is_of_lines (lines asked)) entry.by (map (λ (e : NodeEntry). e.by) h) (map_in (λ (e : NodeEntry). e.by) entry h (within entry (inl refl)))
            (known (map (λ (e : NodeEntry). e.by) h) (inr (inr (in_front (map (λ (e : NodeEntry). e.by) h) (map (map (λ (e : NodeEntry). e.by)) ran.trace.nodes) (map (map (λ e. e.by)) ran.mail) (map_in (map (λ (e : NodeEntry). e.by)) h ran.trace.nodes there)))))

        by_maker : IsTrue (same_line opening entry.by) ⊎ IsTrue (list_any (λ (l : Line). same_line (line_of l) entry.by) (lines asked)) → IsTrue (not (tells_loss entry.answer))
        by_maker (inl opens) =
            boots_lose_none node asked.settings.cache before entry.act entry.answer
            (boot (AtNode node before entry) (in_front (AtNode node before entry) (if same_line opening entry.by then AtNode node before entry ∷ [] else []) (node_turns opening node (before ++ entry ∷ []) rest) (subst (λ (b : Bool). In (AtNode node before entry) (if b then AtNode node before entry ∷ [] else [])) (sym opens) (inl refl))))
            (done parts.0)
          where
            done : IsTrue (may_follow_at node asked.settings.cache before entry) → IsTrue (may_be_done node asked.settings.cache before entry.act entry.answer)
            done is = (and_parts (nat_le (front before) entry.front) (may_be_done node asked.settings.cache before entry.act entry.answer) (and_parts (nat_le (front before) entry.front && may_be_done node asked.settings.cache before entry.act entry.answer) (is_own_end (part before) entry.by entry.act entry.answer) is).0).1
        by_maker (inr line) = of_line entry.by line entry.answer (answers_at h there entry (within entry (inl refl)))

  nodes_lose_none : (node : ℕ) (histories : List (List NodeEntry)) → IsTrue (are_legal_nodes node asked.settings.cache door histories) → ((h : List NodeEntry) → In h histories → In h ran.trace.nodes)
      → ((turn : Turn) → In turn (nodes_turns opening node histories) → IsTrue (reads_alone turn)) → IsTrue (list_all (each_after (λ before entry. not (tells_loss entry.answer)) []) histories)
  nodes_lose_none node [] legal' within boot = refl
  nodes_lose_none node (h ∷ histories) legal' within boot =
      let parts = and_parts (is_legal_node node asked.settings.cache h && is_seen_node node door h) (are_legal_nodes (suc node) asked.settings.cache door histories) legal' in
      and_from (each_after (λ before entry. not (tells_loss entry.answer)) [] h) _
      (history_loses_none node h (within h (inl refl)) [] h (and_parts (is_legal_node node asked.settings.cache h) (is_seen_node node door h) parts.0).0 (λ e among. among) (λ turn among. boot turn (in_front turn (node_turns opening node [] h) (nodes_turns opening (suc node) histories) among)))
      (nodes_lose_none (suc node) histories parts.1 (λ h' among. within h' (inr among)) (λ turn among. boot turn (in_back turn (node_turns opening node [] h) (nodes_turns opening (suc node) histories) among)))

  office_loses_none : (before rest : List OfficeEntry) → ((entry : OfficeEntry) → In entry rest → In entry ran.trace.office) → ((turn : Turn) → In turn (office_turns opening before rest) → IsTrue (reads_alone turn)) → IsTrue (list_all (λ entry. not (tells_loss entry.answer)) rest)
  office_loses_none before [] within boot = refl
  office_loses_none before (entry ∷ rest) within boot =
      and_from (not (tells_loss entry.answer)) _ (by_maker (or_cases (same_line opening entry.by) (list_any (λ (l : Line). same_line (line_of l) entry.by) (lines asked)) maker))
      (office_loses_none (before ++ entry ∷ []) rest (λ e among. within e (inr among))
      (λ turn among. boot turn (in_back turn (if same_line opening entry.by then AtOffice before entry ∷ [] else []) (office_turns opening (before ++ entry ∷ []) rest) among)))
    where
      maker : IsTrue (is_of_lines (lines asked) entry.by)
      maker = all_at (is_of_lines (lines asked)) entry.by (map (λ (e : OfficeEntry). e.by) ran.trace.office) (map_in (λ (e : OfficeEntry). e.by) entry ran.trace.office (within entry (inl refl))) (known (map (λ (e : OfficeEntry). e.by) ran.trace.office) (inr (inl refl)))

      by_maker : IsTrue (same_line opening entry.by) ⊎ IsTrue (list_any (λ (l : Line). same_line (line_of l) entry.by) (lines asked)) → IsTrue (not (tells_loss entry.answer))
      by_maker (inl opens) = absurd (false≢true (boot (AtOffice before entry) (in_front (AtOffice before entry) (if same_line opening entry.by then AtOffice before entry ∷ [] else []) (office_turns opening (before ++ entry ∷ []) rest) (subst (λ (b : Bool). In (AtOffice before entry) (if b then AtOffice before entry ∷ [] else [])) (sym opens) (inl refl)))))
      by_maker (inr line) = of_line entry.by line entry.answer (office_answers_at entry (within entry (inl refl)))

  pub nothing_lost : IsTrue (loses_nothing ran.trace)
  nothing_lost =
      and_from (list_all (each_after (λ before entry. not (tells_loss entry.answer)) []) ran.trace.nodes) (list_all (λ entry. not (tells_loss entry.answer)) ran.trace.office)
      (nodes_lose_none 1 ran.trace.nodes goes.nodes (λ h among. among) (λ turn among. reads turn (in_front turn (nodes_turns opening 1 ran.trace.nodes ++ door_turns opening 0 door) (office_turns opening [] ran.trace.office) (in_front turn (nodes_turns opening 1 ran.trace.nodes) (door_turns opening 0 door) among))))
      (office_loses_none [] ran.trace.office (λ e among. among) (λ turn among. reads turn (in_back turn (nodes_turns opening 1 ran.trace.nodes ++ door_turns opening 0 door) (office_turns opening [] ran.trace.office) among)))
