-- The values that gets answer, of runs so far and of legal traces.
use Rattle.std.proofs.Common.{◌≡◌, ◌≤◌, ℕ, suc, Bool, ◌&&◌, not, List, [], ◌∷◌, ◌++◌, refl, sym, ap, subst, ◌∙◌, inl, inr, length, take, eqb, leb, arith}
use Rattle.std.specs.Prelude.{IsTrue, IsFalse, if◌then◌else◌}
use Rattle.std.specs.List.{list_all}
use Rattle.std.proofs.lemmas.Bool.{and_from, and_parts, cases_Bool, eq-eqb, eqb-true, le-leb, ne_eqb, or_left, or_right}
use Rattle.aft_model.specs.declared.caller.By.{By}
use Rattle.aft_model.specs.declared.door.DoorAct.{DoorAct}
use Rattle.aft_model.specs.declared.door.DoorAct.TheVariants as doors
use Rattle.aft_model.specs.declared.door.DoorEntry.{DoorEntry}
use Rattle.aft_model.specs.declared.node.NodeAct.{NodeAct}
use Rattle.aft_model.specs.declared.node.NodeAct.TheVariants.{Value}
use Rattle.aft_model.specs.declared.node.NodeEntry.{NodeEntry}
use Rattle.aft_model.specs.Attempts.{ends_fetch}
use Rattle.aft_model.specs.History.{each_after}
use Rattle.aft_model.specs.Honest.{Honest}
use Rattle.aft_model.specs.LegalNode.{is_legal_node}
use Rattle.aft_model.specs.NodeSights.{is_seen_node}
use Rattle.aft_model.specs.ScanRun.{same_line}
use Rattle.aft_model.proofs.Histories.{any_found, each_after_split}
use Rattle.aft_model.proofs.Lists.{all_from}
use Rattle.aft_lines.specs.Asked.{Asked, Ran}
use Rattle.aft_lines.specs.Headline.{reads_own_and_repeats, reads_own_in, reads_recorded, reads_recorded_in}
use Rattle.aft_lines.specs.Holding.{picks_fetch}
use Rattle.aft_lines.specs.LegalTrace.{are_legal_nodes, backs_give_up, is_backed_at, some_after}
use Rattle.aft_lines.specs.LineView.{history_at}
use Rattle.law_attempts.proofs.Standing.{same_itself}
use Rattle.law_boots.specs.Beside.{Beside, backs_give_ups, is_backed_in}
use Rattle.law_boots.proofs.Again.{Opens, open_rule}
use Rattle.law_fetches.specs.Ends.{come_behind_picks, is_behind_picks, is_picked_by}
use Rattle.law_fetches.proofs.AllGets.{all_recorded, all_repeat}
use Rattle.law_held.proofs.Between.{comes_from, stands_between}
use Rattle.law_held.proofs.OpenFetches.{fetches_are_open}
use Rattle.law_kept.specs.Kept.{Lawful}
use Rattle.law_promise.proofs.Doors.{lawful_door}
use Rattle.law_runs.specs.Runs.{Goes}
use Rattle.law_runs.proofs.Retires.{history_same}
use Rattle.law_steps.specs.Histories.{history_in}
use Rattle.law_whole.proofs.Lists.{each_from}

module _ (asked : Asked) (ran : Ran) (goes : Goes asked ran) where
  abbrev capacity : ℕ
  capacity = asked.settings.cache

  abbrev door : List DoorEntry
  door = ran.trace.door

  module _ (number : ℕ) (h : List NodeEntry) (its : history_in number 1 ran.trace.nodes ≡ h) where
    -- each give-up of the node at the door has one of its own in its history
    backed_act : (by : By) (place : ℕ) (act : DoorAct) → IsTrue (is_backed_at ran.trace.nodes by place act) → IsTrue (is_backed_in number h by place act)
    backed_act by place (doors.GiveUp at inc id) is = elim (cases_Bool (eqb at number)) [
      | inl same ↦ (let some = any_found (some_after (backs_give_up by inc id place) []) (history_at at ran.trace.nodes) is in
          let there : some.0 ≡ h = history_same some.0 at ran.trace.nodes some.1 ∙ (ap (λ (n : ℕ). history_in n 1 ran.trace.nodes) (eqb-true at number same) ∙ its) in
          or_right (not (eqb at number)) (some_after (backs_give_up by inc id place) [] h) (subst (λ (l : List NodeEntry). IsTrue (some_after (backs_give_up by inc id place) [] l)) there some.2))
      | inr other ↦ or_left (not (eqb at number)) (some_after (backs_give_up by inc id place) [] h) (ap not other)
    ]
    backed_act by place act is = refl

    pub backs_here : IsTrue (backs_give_ups number h door)
    backs_here =
        each_from (λ (b : List DoorEntry) (e : DoorEntry). is_backed_in number h e.by (length b) e.act) [] door (λ first e back parts.
        backed_act e.by (length first) e.act
        (and_parts (is_backed_at ran.trace.nodes e.by (length first) e.act) (each_after (λ (b : List DoorEntry) (x : DoorEntry). is_backed_at ran.trace.nodes x.by (length b) x.act) (first ++ e ∷ []) back)
        (each_after_split (λ (b : List DoorEntry) (x : DoorEntry). is_backed_at ran.trace.nodes x.by (length b) x.act) [] first (e ∷ back)
        (subst (λ (d : List DoorEntry). IsTrue (each_after (λ (b : List DoorEntry) (x : DoorEntry). is_backed_at ran.trace.nodes x.by (length b) x.act) [] d)) parts goes.give_ups)).1).0)

    -- each value came from a place behind its line's picks
    behind_act : (first back : List NodeEntry) (e : NodeEntry) → h ≡ first ++ e ∷ back → (act : NodeAct) → e.act ≡ act → IsTrue (is_behind_picks first e.by act)
    behind_act first back e parts (Value a key id place kept) is =
        let ends : IsTrue (ends_fetch a e.act) = subst (λ (x : NodeAct). IsTrue (ends_fetch a x)) (sym is) (same_itself a) in
        let from = comes_from asked ran goes number first e back (its ∙ parts) a ends key id place kept is in
        all_from (is_picked_by e.by a key id place) first (λ p among. elim (cases_Bool (same_line e.by p.by && picks_fetch a key id p.act)) [
          | inl both ↦ (let two = and_parts (same_line e.by p.by) (picks_fetch a key id p.act) both in
              or_right (not (same_line e.by p.by && picks_fetch a key id p.act)) (leb p.front place)
              (le-leb p.front place (stands_between asked ran goes number first e back (its ∙ parts) a ends p among two.0 key id two.1 place from.0 from.1).0))
          | inr other ↦ or_left (not (same_line e.by p.by && picks_fetch a key id p.act)) (leb p.front place) (ap not other)
        ])
    behind_act first back e parts act is = refl

    pub behind_here : IsTrue (come_behind_picks h)
    behind_here = each_from (λ (before : List NodeEntry) (e : NodeEntry). is_behind_picks before e.by e.act) [] h (λ first e back parts. behind_act first back e parts e.act refl)

  -- ---- each node

  -- a test that each node's history passes
  each_history : (test : List NodeEntry → Bool) → ((number : ℕ) (h : List NodeEntry) → IsFalse (eqb number 0) → history_in number 1 ran.trace.nodes ≡ h → Beside number capacity door h → Opens h → IsTrue (test h))
      → (first : ℕ) (histories : List (List NodeEntry)) → 1 ≤ first → IsTrue (are_legal_nodes first capacity door histories) → IsTrue (list_all (each_after open_rule []) histories) → ((number : ℕ) → first ≤ number → history_in number first histories ≡ history_in number 1 ran.trace.nodes) → IsTrue (list_all test histories)
  each_history test passes first [] some legal opens same = refl
  each_history test passes first (h ∷ histories) some legal opens same =
      let parts = and_parts (is_legal_node first capacity h && is_seen_node first door h) (are_legal_nodes (suc first) capacity door histories) legal in
      let beside = and_parts (is_legal_node first capacity h) (is_seen_node first door h) parts.0 in
      let fetches = and_parts (each_after open_rule [] h) (list_all (each_after open_rule []) histories) opens in
      let here : history_in first 1 ran.trace.nodes ≡ h = sym (same first (omega arith)) ∙ ap (λ (t : Bool). if t then h else history_in first (suc first) histories) (eq-eqb first first refl) in
      and_from (test h) (list_all test histories) (passes first h (ne_eqb first 0 (λ zero. (let z : first ≡ 0 = zero in let s : 1 ≤ first = some in omega arith))) here (record { legal = beside.0; seen = beside.1 }) fetches.0)
      (each_history test passes (suc first) histories (omega arith) parts.1 fetches.1 (λ number later.
      sym (ap (λ (t : Bool). if t then h else history_in number (suc first) histories) (ne_eqb number first (λ is. (let l : suc first ≤ number = later in let s : number ≡ first = is in omega arith)))) ∙ same number (let l : suc first ≤ number = later in omega arith)))

  module _ (honest : Honest door) where
    lawful : Lawful door
    lawful = lawful_door asked ran goes honest

    pub values_recorded : IsTrue (reads_recorded ran.trace)
    values_recorded =
        each_history (each_after (λ before entry. reads_recorded_in (take entry.front door) entry.act entry.answer) []) (λ number h of_node its beside opens.
        all_recorded number capacity of_node door lawful h beside (backs_here number h its) opens (behind_here number h its)) 1 ran.trace.nodes (omega arith) goes.nodes (fetches_are_open asked ran goes) (λ number later. refl)

    pub values_repeat : IsTrue (reads_own_and_repeats ran.trace)
    values_repeat =
        each_history (each_after (λ before entry. reads_own_in before entry entry.act) []) (λ number h of_node its beside opens.
        all_repeat number capacity of_node door lawful h beside (backs_here number h its) opens (behind_here number h its)) 1 ran.trace.nodes (omega arith) goes.nodes (fetches_are_open asked ran goes) (λ number later. refl)
