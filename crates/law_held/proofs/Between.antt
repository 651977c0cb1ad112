-- A line's get of a version at the door stands behind its pick, and before the end of its fetch.
use Rattle.std.proofs.Common.{◌≡◌, ◌≤◌, ◌<◌, ◌+◌, ℕ, Bool, ◌&&◌, List, [], ◌∷◌, ◌++◌, refl, sym, ap, subst, ◌∙◌, inl, inr, append_assoc, leb, eqb, arith}
use Rattle.std.specs.Prelude.{IsTrue, Some}
use Rattle.std.specs.Str.{bytes_eq}
use Rattle.std.proofs.lemmas.Bool.{and_parts, eqb-true, false≢true, leb-true}
use Rattle.aft_id.specs.TxnId.{same_id}
use Rattle.aft_id.specs.declared.txn_id.TxnId.{TxnId}
use Rattle.aft_model.specs.declared.caller.Attempt.{Attempt}
use Rattle.aft_model.specs.declared.caller.By.{By}
use Rattle.aft_model.specs.declared.door.DoorAct.{DoorAct}
use Rattle.aft_model.specs.declared.node.NodeAct.{NodeAct}
use Rattle.aft_model.specs.declared.node.NodeAct.TheVariants as acts
use Rattle.aft_model.specs.declared.node.NodeEntry.{NodeEntry}
use Rattle.aft_model.specs.declared.script.Command.{Command}
use Rattle.aft_model.specs.declared.script.Command.TheVariants as commands
use Rattle.aft_model.specs.declared.script.Line.{Line}
use Rattle.aft_model.specs.Attempts.{ends_fetch, same_attempt}
use Rattle.aft_model.specs.ScanRun.{same_line}
use Rattle.aft_model.proofs.Histories.{In, in_back}
use Rattle.aft_lines.specs.Advance.{leads_to}
use Rattle.aft_lines.specs.Asked.{Asked, Ran}
use Rattle.aft_lines.specs.FinishedText.{line_of}
use Rattle.aft_lines.specs.GetCourse.{ends_get, loses}
use Rattle.aft_lines.specs.Holding.{picks_fetch}
use Rattle.aft_lines.specs.LineView.{ends_of}
use Rattle.aft_lines.specs.Lines.{lines, node_numbers}
use Rattle.aft_lines.specs.Steps.{Made}
use Rattle.aft_lines.specs.Turns.{AtDoor, AtNode, Turn, moment, turns}
use Rattle.aft_lines.specs.Views.{view_of}
use Rattle.law_claims.proofs.Scenes.{same_by}
use Rattle.law_runs.specs.Runs.{Goes, command_in, run_steps}
use Rattle.law_runs.proofs.Come.{Named, named_line, turn_made, unasked_reads}
use Rattle.law_runs.proofs.Members.{in_turns, step_in}
use Rattle.law_runs.proofs.Own.{has_come}
use Rattle.law_steps.specs.Histories.{history_in}
use Rattle.law_steps.specs.OneList.{entries_of}
use Rattle.law_turns.proofs.Sorting.{sorted_ascends}
use Rattle.law_turns.specs.Order.{moments_ascend}
use Rattle.law_held.proofs.GetOrder.{Ordered, asks_version, ordered}
use Rattle.law_held.proofs.Held.{stands_at}
use Rattle.law_held.proofs.OpenFetches.{GetOrNot, boots_none, get_or_not}
use Rattle.law_runs.proofs.Retires.{split_at}

-- the moments of three turns that follow each other ascend
in_three : (first second third : Turn) → IsTrue (moments_ascend (first ∷ second ∷ third ∷ [])) → (moment first ≤ moment second) × (moment second ≤ moment third)
in_three first second third is =
    let one = and_parts (leb (moment first) (moment second)) (moments_ascend (second ∷ third ∷ [])) is in
    let two = and_parts (leb (moment second) (moment third)) (moments_ascend (third ∷ [])) one.1 in
    (leb-true (moment first) (moment second) one.0, leb-true (moment second) (moment third) two.0)

module _ (asked : Asked) (ran : Ran) (so : Goes asked ran) where
  -- a line's turn at a node is one of its turns
  its_turn : (number : ℕ) (before : List NodeEntry) (entry : NodeEntry) (more : List NodeEntry) → history_in number 1 ran.trace.nodes ≡ before ++ entry ∷ more → In (AtNode number before entry) (turns entry.by ran.trace)
  its_turn number before entry more is =
      let at = stands_at asked ran so number before entry more is in
      let step : Made = record { by = entry.by; turn = AtNode number before entry } in
      in_turns entry.by ran.trace (AtNode number before entry) (step_in ran.trace step (subst (λ (l : List Made). In step l) (sym at.2) (in_back step at.0 (step ∷ at.1) (inl refl))))

  module _ (number : ℕ) (before : List NodeEntry) (entry : NodeEntry) (more : List NodeEntry) (is : history_in number 1 ran.trace.nodes ≡ before ++ entry ∷ more) (a : Attempt) (ends_it : IsTrue (ends_fetch a entry.act)) where
    abbrev end : Turn
    end = AtNode number before entry

    abbrev its : List Turn
    its = turns entry.by ran.trace

    abbrev step : Made
    step = record { by = entry.by; turn = end }

    -- its line is a get, whose turns stand in order
    pub in_order : Ordered end entry its
    in_order = cases (named_line entry.by (lines asked))
      where
        at : (pre : List Made) × (rest : List Made) × (run_steps ran ≡ pre ++ step ∷ rest)
        at = stands_at asked ran so number before entry more is

        by_get : (line : Line) → In line (lines asked) → line_of line ≡ entry.by → (key : List ℕ) → line.order ≡ commands.Get key → Ordered end entry its
        by_get line listed of key gets =
            let come = has_come asked ran so line listed in
            ordered key (node_numbers asked.settings) (ends_of (view_of asked ran line)) number before entry a ends_it its come.0
            (subst (λ (by : By). leads_to (commands.Get key) (node_numbers asked.settings) (ends_of (view_of asked ran line)) (turns by ran.trace) ≡ Some come.0) of
            (subst (λ (c : Command). leads_to c (node_numbers asked.settings) (ends_of (view_of asked ran line)) (turns (line_of line) ran.trace) ≡ Some come.0) gets come.1))
            (its_turn number before entry more is)

        by_order : (line : Line) → In line (lines asked) → line_of line ≡ entry.by → GetOrNot line.order → Ordered end entry its
        by_order line listed of (inl get) = by_get line listed of get.0 get.1
        by_order line listed of (inr other) = absurd (other.1 a entry.act (turn_made asked ran so at.0 at.1 step at.2 line listed of) ends_it)

        cases : Named entry.by (lines asked) → Ordered end entry its
        cases (inl named) = by_order named.0 named.1 named.2 (get_or_not named.0.order)
        cases (inr none) = absurd (boots_none a entry.act (unasked_reads asked ran so at.0 at.1 step at.2 (ap command_in none.0)) ends_it)

    ascends : IsTrue (moments_ascend its)
    ascends = sorted_ascends [] (entries_of entry.by ran.trace) refl

    -- a turn of it at the door is its get of the version, between the pick and the end
    pub record Between (place : ℕ) (act : DoorAct) : Type 0 where
      pub asks : IsTrue (asks_version in_order.attempt in_order.key in_order.id act)
      pub ends_so : IsTrue (ends_get in_order.attempt in_order.key in_order.id place entry.act entry.answer)
      pub behind : in_order.pick.front ≤ place
      pub ahead : place < entry.front

    no_turn : (place : ℕ) (act : DoorAct) (node : ℕ) (history : List NodeEntry) (e : NodeEntry) → AtDoor place act ≡ AtNode node history e → ⊥
    no_turn place act node history e same = cc

    same_door : (p q : ℕ) (x y : DoorAct) → AtDoor p x ≡ AtDoor q y → (p ≡ q) × (x ≡ y)
    same_door p q x y same = (let places : p ≡ q = cc in places, let both : x ≡ y = cc in both)

    pub between : (place : ℕ) (act : DoorAct) → In (AtDoor place act) its → Between place act
    between place act among = elim in_order.turns [
      | inl refused ↦ absurd (nowhere (subst (In (AtDoor place act)) refused.0 among))
      | inr got ↦ (let moments = in_three (AtNode in_order.node in_order.before in_order.pick) (AtDoor got.0 got.1) end (subst (λ (l : List Turn). IsTrue (moments_ascend l)) got.2 ascends) in
          its_place got.0 got.1 (the_one got.0 got.1 (subst (In (AtDoor place act)) got.2 among)) (record { asks = got.3; ends_so = got.4; behind = low in_order.pick.front got.0 moments.0; ahead = high got.0 entry.front moments.1 }))
    ]
      where
        nowhere : In (AtDoor place act) (AtNode in_order.node in_order.before in_order.pick ∷ end ∷ []) → ⊥
        nowhere (inl first) = no_turn place act in_order.node in_order.before in_order.pick first
        nowhere (inr (inl second)) = no_turn place act number before entry second
        nowhere (inr (inr none)) = none

        the_one : (q : ℕ) (x : DoorAct) → In (AtDoor place act) (AtNode in_order.node in_order.before in_order.pick ∷ AtDoor q x ∷ end ∷ []) → AtDoor place act ≡ AtDoor q x
        the_one q x (inl first) = absurd (no_turn place act in_order.node in_order.before in_order.pick first)
        the_one q x (inr (inl second)) = second
        the_one q x (inr (inr (inl third))) = absurd (no_turn place act number before entry third)
        the_one q x (inr (inr (inr none))) = absurd none

        its_place : (q : ℕ) (x : DoorAct) → AtDoor place act ≡ AtDoor q x → Between q x → Between place act
        its_place q x same is_between = (let both = same_door place q act x same in subst (λ (p : ℕ). Between p act) (sym both.0) (subst (λ (y : DoorAct). Between q y) (sym both.1) is_between))

        low : (front place' : ℕ) → front + front ≤ place' + place' + 1 → front ≤ place'
        low front place' le = omega arith

        high : (place' front : ℕ) → place' + place' + 1 ≤ front + front → place' < front
        high place' front le = omega arith

    -- each pick of it stands where its first turn does
    not_second : (e : NodeEntry) (key : List ℕ) (id : TxnId) → entry ≡ e → IsTrue (picks_fetch a key id e.act) → ⊥
    not_second e key id same picks = no_end entry.act ends_it (subst (λ (x : NodeEntry). IsTrue (picks_fetch a key id x.act)) (sym same) picks)
      where
        no_end : (act : NodeAct) → IsTrue (ends_fetch a act) → IsTrue (picks_fetch a key id act) → ⊥
        no_end (acts.Select b got p) ending picking = false≢true ending
        no_end act ending picking = false≢true picking

    same_at : (m n : ℕ) (g h : List NodeEntry) (x y : NodeEntry) → AtNode m g x ≡ AtNode n h y → x ≡ y
    same_at m n g h x y same = cc

    pub picked_first : (e : NodeEntry) → In e before → IsTrue (same_line entry.by e.by) → (key : List ℕ) (id : TxnId) → IsTrue (picks_fetch a key id e.act) → e ≡ in_order.pick
    picked_first e among mine key id picks =
        let cut = split_at e before among in
        let there : history_in number 1 ran.trace.nodes ≡ cut.0 ++ e ∷ (cut.1 ++ entry ∷ more) = is ∙ (ap (λ (l : List NodeEntry). l ++ entry ∷ more) cut.2 ∙ append_assoc cut.0 (e ∷ cut.1) (entry ∷ more)) in
        let turn = subst (λ (by : By). In (AtNode number cut.0 e) (turns by ran.trace)) (sym (same_by entry.by e.by mine)) (its_turn number cut.0 e (cut.1 ++ entry ∷ more) there) in
        elim in_order.turns [
          | inl refused ↦ first_of_two cut.0 (subst (In (AtNode number cut.0 e)) refused.0 turn)
          | inr got ↦ first_of_three cut.0 got.0 got.1 (subst (In (AtNode number cut.0 e)) got.2 turn)
        ]
      where
        first_of_two : (h : List NodeEntry) → In (AtNode number h e) (AtNode in_order.node in_order.before in_order.pick ∷ end ∷ []) → e ≡ in_order.pick
        first_of_two h (inl first) = same_at number in_order.node h in_order.before e in_order.pick first
        first_of_two h (inr (inl second)) = absurd (not_second e key id (sym (same_at number number h before e entry second)) picks)
        first_of_two h (inr (inr none)) = absurd none

        first_of_three : (h : List NodeEntry) (q : ℕ) (x : DoorAct) → In (AtNode number h e) (AtNode in_order.node in_order.before in_order.pick ∷ AtDoor q x ∷ end ∷ []) → e ≡ in_order.pick
        first_of_three h q x (inl first) = same_at number in_order.node h in_order.before e in_order.pick first
        first_of_three h q x (inr (inl second)) = absurd (no_turn q x number h e (sym second))
        first_of_three h q x (inr (inr (inl third))) = absurd (not_second e key id (sym (same_at number number h before e entry third)) picks)
        first_of_three h q x (inr (inr (inr none))) = absurd none

    -- a line's get at the door stands behind its pick, and before the end
    pub stands_between : (e : NodeEntry) → In e before → IsTrue (same_line entry.by e.by) → (key : List ℕ) (id : TxnId) → IsTrue (picks_fetch a key id e.act) → (place : ℕ) (act : DoorAct) → In (AtDoor place act) its → (e.front ≤ place) × (place < entry.front)
    stands_between e among mine key id picks place act there =
        (subst (λ (x : NodeEntry). x.front ≤ place) (sym (picked_first e among mine key id picks)) (between place act there).behind, (between place act there).ahead)

    -- and a value comes from its place
    pub comes_from : (key : List ℕ) (id : TxnId) (place : ℕ) (kept : Bool) → entry.act ≡ acts.Value a key id place kept → (act : DoorAct) × In (AtDoor place act) its
    comes_from key id place kept value = elim in_order.turns [
      | inl refused ↦ absurd (false≢true (subst (λ (x : NodeAct). IsTrue (loses in_order.attempt in_order.key in_order.id x entry.answer)) value refused.1))
      | inr got ↦ (let same = named got.0 (subst (λ (x : NodeAct). IsTrue (ends_get in_order.attempt in_order.key in_order.id got.0 x entry.answer)) value got.4) in
          (got.1, subst (λ (p : ℕ). In (AtDoor p got.1) its) same (subst (In (AtDoor got.0 got.1)) (sym got.2) (inr (inl refl)))))
    ]
      where
        named : (q : ℕ) → IsTrue (same_attempt in_order.attempt a && bytes_eq in_order.key key && same_id in_order.id id && eqb q place) → q ≡ place
        named q is_it = eqb-true q place (and_parts (same_attempt in_order.attempt a && bytes_eq in_order.key key && same_id in_order.id id) (eqb q place) is_it).1
