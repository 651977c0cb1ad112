-- Each boot of a node of a run is ended by the line that began it.
use Rattle.std.proofs.Common.{◌≡◌, ℕ, suc, Bool, true, false, ◌&&◌, List, [], ◌∷◌, ◌++◌, refl, sym, ap, subst, ◌∙◌, ◌⊎◌, inl, inr, eqb}
use Rattle.std.specs.Prelude.{IsFalse, IsTrue, None, Option, Some, if◌then◌else◌, is_none, map}
use Rattle.std.specs.List.{list_all, list_any}
use Rattle.std.proofs.lemmas.Bool.{and_from, and_parts, cases_Bool, eq-eqb, false≢true, or_cases, true≢false}
use Rattle.aft_records.specs.declared.stored.Commit.{Commit}
use Rattle.aft_model.specs.declared.caller.By.{By}
use Rattle.aft_model.specs.declared.node.NodeAct.{NodeAct}
use Rattle.aft_model.specs.declared.node.NodeAct.TheVariants as acts
use Rattle.aft_model.specs.declared.node.NodeEntry.{NodeEntry}
use Rattle.aft_model.specs.declared.script.Command.{Command}
use Rattle.aft_model.specs.declared.script.Command.TheVariants as commands
use Rattle.aft_model.specs.declared.script.Line.{Line}
use Rattle.aft_model.specs.History.{each_after}
use Rattle.aft_model.specs.LegalNode.{LegalNode}
use Rattle.aft_model.specs.Opening.{opening}
use Rattle.aft_model.specs.ScanRun.{same_line}
use Rattle.aft_model.proofs.Histories.{In, all_at, any_found}
use Rattle.aft_model.proofs.Lists.{all_from, in_filter}
use Rattle.aft_lines.specs.Advance.{leads_to}
use Rattle.aft_lines.specs.Asked.{Asked, Ran}
use Rattle.aft_lines.specs.FinishedText.{line_of}
use Rattle.aft_lines.specs.LegalTrace.{is_of_lines}
use Rattle.aft_lines.specs.LineView.{ends_of}
use Rattle.aft_lines.specs.Lines.{lines, node_numbers}
use Rattle.aft_lines.specs.Makes.{makes, makes_at_node}
use Rattle.aft_lines.specs.Turns.{AtDoor, AtNode, AtOffice, Turn, given_by, given_in, node_turns, turns}
use Rattle.aft_lines.specs.Views.{view_of}
use Rattle.aft_node.specs.Closing.{last_own}
use Rattle.law_claims.proofs.Scenes.{by_itself, same_by}
use Rattle.law_places.specs.Fronts.{never_fall, node_fronts}
use Rattle.law_places.proofs.Fronts.{node_fronts_rise}
use Rattle.law_turns.specs.Order.{is_at_node}
use Rattle.law_steps.specs.OneList.{entries_of}
use Rattle.law_runs.specs.Runs.{Goes}
use Rattle.law_runs.proofs.Come.{node_makers, opening_alone, opens_parts}
use Rattle.law_runs.proofs.LegalRuns.{so_far_goes}
use Rattle.law_runs.proofs.Members.{in_turns}
use Rattle.law_runs.proofs.Nodes.{nodes_rules}
use Rattle.law_runs.proofs.Own.{has_come, makes_all}
use Rattle.law_runs.proofs.Reading.{is_of_boot, reads_alone}
use Rattle.law_held.specs.Starting.{is_start}
use Rattle.law_held.proofs.StartsEnd.{start_so}
use Rattle.law_accounts.specs.Account.{Account, Stand}
use Rattle.law_accounts.specs.Adding.{numbered_in}
use Rattle.law_accounts.proofs.Runs.{account_runs}
use Rattle.law_accounts.proofs.StopsSeen.{same_history}
use Rattle.law_driver.proofs.Closing.{last_with_other, last_with_own}
use Rattle.law_driven_starts.specs.Starts.{EndsOwnBoots, ends_own_at, ends_own_boot}
use Rattle.law_driven_starts.proofs.OneNode.{entries_there, turns_there}
use Rattle.law_driven_starts.proofs.OwnTurns.{end_own-filter, end_own_from, opening_own, start_own}

-- ---- lines that end no boot

-- whether a turn ends no boot
abbrev ends_none : Turn → Bool
ends_none (AtNode number before entry) = ends_own_at None entry.act
ends_none turn = true

any_last : (last : Option NodeAct) (act : NodeAct) → IsTrue (ends_own_at None act) → IsTrue (ends_own_at last act)
any_last last (acts.Boot inc commits) is = absurd (false≢true is)
any_last last (acts.BootStopped inc) is = absurd (false≢true is)
any_last last act is = refl

-- some turns that end none
none_end : (node : ℕ) (last : Option NodeAct) (line : List Turn) → ((x : Turn) → In x line → IsTrue (ends_none x)) → IsTrue (end_own_from node last line)
none_end node last [] each = refl
none_end node last (AtDoor place act ∷ line) each = none_end node last line (λ x among. each x (inr among))
none_end node last (AtOffice before entry ∷ line) each = none_end node last line (λ x among. each x (inr among))
none_end node last (AtNode at before entry ∷ line) each = cases (eqb at node) (none_end node (Some entry.act) line (λ x among. each x (inr among))) (none_end node last line (λ x among. each x (inr among)))
  where
    cases : (b : Bool) → IsTrue (end_own_from node (Some entry.act) line) → IsTrue (end_own_from node last line) → IsTrue (if b then ends_own_at last entry.act && end_own_from node (Some entry.act) line else end_own_from node last line)
    cases true here elsewhere = and_from (ends_own_at last entry.act) (end_own_from node (Some entry.act) line) (any_last last entry.act (each (AtNode at before entry) (inl refl))) here
    cases false here elsewhere = elsewhere

-- starts alone end boots
others_end_none : (command : Command) → is_start command ≡ false → (turn : Turn) → IsTrue (makes command turn) → IsTrue (ends_none turn)
others_end_none command other (AtDoor place act) made = refl
others_end_none command other (AtOffice before entry) made = refl
others_end_none command other (AtNode at before entry) made = by_act entry.act made
  where
    boots : (c : Command) → is_start c ≡ false → (inc : ℕ) (commits : List Commit) → IsTrue (makes_at_node c (acts.Boot inc commits)) → ⊥
    boots (commands.Start home) is inc commits it = true≢false is
    boots c is inc commits it = false≢true it

    stops : (c : Command) → is_start c ≡ false → (inc : ℕ) → IsTrue (makes_at_node c (acts.BootStopped inc)) → ⊥
    stops (commands.Start home) is inc it = true≢false is
    stops c is inc it = false≢true it

    by_act : (act : NodeAct) → IsTrue (makes_at_node command act) → IsTrue (ends_own_at None act)
    by_act (acts.Boot inc commits) it = absurd (boots command other inc commits it)
    by_act (acts.BootStopped inc) it = absurd (stops command other inc it)
    by_act act it = refl

-- ---- lines that give nothing up

starts_give_none : (home : ℕ) (turn : Turn) → IsTrue (makes (commands.Start home) turn) → IsTrue (is_none (given_in turn))
starts_give_none home (AtDoor place act) made = refl
starts_give_none home (AtOffice before entry) made = refl
starts_give_none home (AtNode at before entry) made = by_act entry.act made
  where
    by_act : (act : NodeAct) → IsTrue (makes_at_node (commands.Start home) act) → IsTrue (is_none (given_by act))
    by_act (acts.GiveUp id) is = absurd (false≢true is)
    by_act act is = refl

reads_give_none : (turn : Turn) → IsTrue (reads_alone turn) → IsTrue (is_none (given_in turn))
reads_give_none (AtDoor place act) reads = refl
reads_give_none (AtOffice before entry) reads = refl
reads_give_none (AtNode at before entry) reads = by_act entry.act reads
  where
    by_act : (act : NodeAct) → IsTrue (is_of_boot act) → IsTrue (is_none (given_by act))
    by_act (acts.GiveUp id) is = absurd (false≢true is)
    by_act act is = refl

-- ---- a history

module _ (number : ℕ) where
  -- a line's entries at a node, behind what it did last there
  abbrev EndsOwn : By → List NodeEntry → List NodeEntry → Type 0
  EndsOwn by before rest = IsTrue (end_own_from number (last_own by before) (node_turns by number before rest))

  module _ (by : By) (before rest : List NodeEntry) (entry : NodeEntry) where
    abbrev later : List Turn
    later = node_turns by number (before ++ entry ∷ []) rest

    abbrev IsOwn : Type 0
    IsOwn = IsTrue (same_line by entry.by) → IsTrue (ends_own_at (last_own by before) entry.act)

    -- one entry further: if it is the line's, it ends only a boot that the line began by its last there
    further : EndsOwn by before (entry ∷ rest) → IsOwn × EndsOwn by (before ++ entry ∷ []) rest
    further ends = cases (same_line by entry.by) refl ends
      where
        cases : (b : Bool) → same_line by entry.by ≡ b → IsTrue (end_own_from number (last_own by before) ((if b then AtNode number before entry ∷ [] else []) ++ later)) → IsOwn × EndsOwn by (before ++ entry ∷ []) rest
        cases true own is =
            let parts = and_parts (ends_own_at (last_own by before) entry.act) (end_own_from number (Some entry.act) later)
            (subst (λ (b : Bool). IsTrue (if b then ends_own_at (last_own by before) entry.act && end_own_from number (Some entry.act) later else end_own_from number (last_own by before) later)) (eq-eqb number number refl) is) in
            (λ its. parts.0, subst (λ (o : Option NodeAct). IsTrue (end_own_from number o later)) (sym (last_with_own by before entry own)) parts.1)
        cases false other is = (λ own. absurd (true≢false (sym own ∙ other)), subst (λ (o : Option NodeAct). IsTrue (end_own_from number o later)) (sym (last_with_other by before entry other)) is)

  -- where all lines of some end their own alone, each entry does
  all_own : (test : By → Bool) (before rest : List NodeEntry) → IsTrue (list_all test (map (λ (e : NodeEntry). e.by) rest)) → ((by : By) → IsTrue (test by) → EndsOwn by before rest) → IsTrue (each_after ends_own_boot before rest)
  all_own test before [] makers each = refl
  all_own test before (entry ∷ rest) makers each =
      let parts = and_parts (test entry.by) (list_all test (map (λ (e : NodeEntry). e.by) rest)) makers in
      and_from (ends_own_boot before entry) (each_after ends_own_boot (before ++ entry ∷ []) rest)
      ((further entry.by before rest entry (each entry.by parts.0)).0 (by_itself entry.by))
      (all_own test (before ++ entry ∷ []) rest parts.1 (λ by known. (further by before rest entry (each by known)).1))

  numbered_all : (test : By → Bool) (first : ℕ) (nodes : List (List NodeEntry)) → IsTrue (list_all (list_all test) (map (map (λ (e : NodeEntry). e.by)) nodes)) → IsTrue (list_all test (map (λ (e : NodeEntry). e.by) (numbered_in number first nodes)))
  numbered_all test first [] all = refl
  numbered_all test first (history ∷ nodes) all =
      let parts = and_parts (list_all test (map (λ (e : NodeEntry). e.by) history)) (list_all (list_all test) (map (map (λ (e : NodeEntry). e.by)) nodes)) all in
      cases (eqb first number) parts.0 (numbered_all test (suc first) nodes parts.1)
    where
      cases : (b : Bool) → IsTrue (list_all test (map (λ (e : NodeEntry). e.by) history)) → IsTrue (list_all test (map (λ (e : NodeEntry). e.by) (numbered_in number (suc first) nodes))) → IsTrue (list_all test (map (λ (e : NodeEntry). e.by) (if b then history else numbered_in number (suc first) nodes)))
      cases true here others = here
      cases false here others = others

  -- ---- a run

  module _ (asked : Asked) (ran : Ran) (so : Goes asked ran) where
    abbrev history : List NodeEntry
    history = numbered_in number 1 ran.trace.nodes

    rises : IsTrue (never_fall (node_fronts history))
    rises =
        node_fronts_rise number asked.settings.cache history
        (subst (λ (h : List NodeEntry). LegalNode number asked.settings.cache h) (sym (same_history number 1 ran.trace.nodes)) (nodes_rules number 1 asked.settings.cache ran.trace.door ran.trace.nodes so.nodes).0)

    -- of a line that gives nothing up by its turns
    by_turns : (by : By) → ((x : Turn) → In x (turns by ran.trace) → IsTrue (is_none (given_in x))) → IsTrue (end_own_from number None (turns by ran.trace)) → EndsOwn by [] history
    by_turns by quiet own =
        subst (λ (l : List Turn). IsTrue (end_own_from number None l))
        (turns_there by number ran.trace (all_from (λ (t : Turn). is_none (given_in t)) (entries_of by ran.trace) (λ t there. quiet t (in_turns by ran.trace t there))) rises)
        (subst (λ (b : Bool). IsTrue b) (sym (end_own-filter number None (turns by ran.trace))) own)

    opening_so : EndsOwn opening [] history
    opening_so =
        by_turns opening (λ x there. reads_give_none x (all_at reads_alone x (turns opening ran.trace) there (opening_alone asked ran so)))
        (opening_own number (node_numbers asked.settings) (turns opening ran.trace) (opens_parts asked ran so).1)

    line_so : (line : Line) → In line (lines asked) → EndsOwn (line_of line) [] history
    line_so line listed = cases (cases_Bool (is_start line.order))
      where
        made : (x : Turn) → In x (turns (line_of line) ran.trace) → IsTrue (makes line.order x)
        made x there = all_at (makes line.order) x (turns (line_of line) ran.trace) there (makes_all asked ran so line listed)

        entry_made : (x : Turn) → In x (node_turns (line_of line) number [] history) → IsTrue (makes line.order x)
        entry_made x there =
            made x (in_turns (line_of line) ran.trace x (in_filter (is_at_node number) x (entries_of (line_of line) ran.trace) (subst (λ (l : List Turn). In x l) (sym (entries_there (line_of line) number ran.trace)) there)).0)

        cases : (IsTrue (is_start line.order)) ⊎ (IsFalse (is_start line.order)) → EndsOwn (line_of line) [] history
        cases (inl start) =
            let come = has_come asked ran so line listed in
            let home = start_so line.order start in
            by_turns (line_of line) (λ x there. starts_give_none home.0 x (subst (λ (c : Command). IsTrue (makes c x)) home.1 (made x there)))
            (start_own number (ends_of (view_of asked ran line)) home.0 (node_numbers asked.settings) (turns (line_of line) ran.trace) come.0
            (ap (λ (c : Command). leads_to c (node_numbers asked.settings) (ends_of (view_of asked ran line)) (turns (line_of line) ran.trace)) (sym home.1) ∙ come.1))
        cases (inr other) = none_end number None (node_turns (line_of line) number [] history) (λ x there. others_end_none line.order other x (entry_made x there))

    known_so : (by : By) → IsTrue (is_of_lines (lines asked) by) → EndsOwn by [] history
    known_so by known = elim (or_cases (same_line opening by) (list_any (λ (l : Line). same_line (line_of l) by) (lines asked)) known) [
      | inl is ↦ subst (λ (b : By). EndsOwn b [] history) (same_by opening by is) opening_so
      | inr some ↦ (let found = any_found (λ (l : Line). same_line (line_of l) by) (lines asked) some in subst (λ (b : By). EndsOwn b [] history) (same_by (line_of found.0) by found.2) (line_so found.0 found.1))
    ]

    all_known : EndsOwnBoots history
    all_known = all_own (is_of_lines (lines asked)) [] history (numbered_all (is_of_lines (lines asked)) 1 ran.trace.nodes (node_makers asked ran so)) known_so

  pub boots_own : (asked : Asked) (ran : Ran) (stand : Line → Stand) → Account asked ran stand → EndsOwnBoots (numbered_in number 1 ran.trace.nodes)
  boots_own asked ran stand account = all_known asked ran (so_far_goes asked ran (account_runs asked ran stand account))
