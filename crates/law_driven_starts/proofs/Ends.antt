-- A line whose last entry at a node began a boot, where each boot is ended by the line that began it.
use Rattle.std.proofs.Common.{◌≡◌, ℕ, ◌≤◌, Bool, true, false, ◌&&◌, ◌||◌, not, List, [], ◌∷◌, ◌++◌, refl, sym, ap, subst, ◌∙◌, ◌⊎◌, inl, inr, eqb, arith, append-nil, append_assoc}
use Rattle.std.specs.Prelude.{IsFalse, IsTrue, Option, nat_le}
use Rattle.std.proofs.lemmas.Bool.{and_parts, cases_Bool, eq-eqb, eqb-true, false_from_ne_true, false≢true, not-true, or_left, or_parts, or_right, true≢false}
use Rattle.aft_records.specs.declared.stored.Commit.{Commit}
use Rattle.aft_model.specs.declared.caller.By.{By}
use Rattle.aft_model.specs.declared.node.NodeAct.{NodeAct}
use Rattle.aft_model.specs.declared.node.NodeAct.TheVariants as acts
use Rattle.aft_model.specs.declared.node.NodeEntry.{NodeEntry}
use Rattle.aft_model.specs.LegalNode.{LegalNode, front, may_be_done, may_follow_at}
use Rattle.aft_model.specs.NodeRules.{may_begin_boot}
use Rattle.aft_model.specs.NodeState.{IsBooting, IsDown, IsServing, NodeState, boots, goes_on, newest, newest_after, node_state, serves, state_after, stopped}
use Rattle.aft_model.specs.ScanRun.{same_line}
use Rattle.aft_model.proofs.Histories.{each_after_split}
use Rattle.aft_model.proofs.Services.{newest-snoc, node_state-snoc}
use Rattle.aft_lines.specs.LineView.{has_left}
use Rattle.aft_node.specs.Closing.{act_passes, last_own, opens_boot}
use Rattle.law_claims.proofs.Scenes.{same_by}
use Rattle.law_held.proofs.BootsOnce.{begins_other, newer}
use Rattle.law_driver.proofs.Closing.{last_with_other, last_with_own}
use Rattle.law_driven_starts.specs.Starts.{EndsOwnBoots, ends_own_at, ends_own_boot}

-- a line's last entry began the boot of an incarnation
abbrev Opens : ℕ → Option NodeAct → Type 0
Opens inc last = IsTrue (act_passes (opens_boot inc) last)

-- the boot of an incarnation runs, or the node has left it
abbrev RunsOrLeft : ℕ → NodeState → Type 0
RunsOrLeft inc state = (state ≡ IsBooting inc true) ⊎ IsTrue (has_left inc state)

-- such a line's incarnation isn't newer than the newest; its boot runs, or the node has left it; and no two lines began one
record Held (history : List NodeEntry) : Type 0 where
  pub begun : (by : By) (inc : ℕ) → Opens inc (last_own by history) → inc ≤ newest history
  pub stands : (by : By) (inc : ℕ) → Opens inc (last_own by history) → RunsOrLeft inc (node_state history)
  pub one : (by other : By) (inc : ℕ) → Opens inc (last_own by history) → Opens inc (last_own other history) → IsTrue (same_line by other)

-- ---- states

left_serving : (inc j : ℕ) (commits : List Commit) → IsFalse (eqb inc j) → IsTrue (has_left inc (IsServing (record { inc = j; booted = commits; part = [] })))
left_serving inc j commits differs = ap (λ (b : Bool). not (b || false)) differs

left_booting : (inc j : ℕ) (running : Bool) → IsFalse (eqb inc j) → IsTrue (has_left inc (IsBooting j running))
left_booting inc j running differs = ap not differs

-- a boot begins of no incarnation that runs or was left
not_again : (inc j n : ℕ) (state : NodeState) → inc ≤ n → RunsOrLeft inc state → IsTrue (may_begin_boot j n state) → IsFalse (eqb inc j)
not_again inc j n state low (inl runs) begins = absurd (false≢true (and_parts (eqb j inc) false (subst (λ (s : NodeState). IsTrue (may_begin_boot j n s)) runs begins)).1)
not_again inc j n state low (inr left) begins = begins_other inc n j state low (or_parts (serves inc state) (boots inc state) (not-true (serves inc state || boots inc state) left)).1 begins

goes_stands : (inc : ℕ) (entry : NodeEntry) (state : NodeState) → RunsOrLeft inc state → RunsOrLeft inc (goes_on state entry)
goes_stands inc entry (IsServing s) (inl runs) = absurd (let e : IsServing s ≡ IsBooting inc true = runs in cc)
goes_stands inc entry (IsServing s) (inr left) = inr left
goes_stands inc entry IsDown stands = stands
goes_stands inc entry (IsBooting b running) stands = stands

stopped_left : (inc j : ℕ) (entry : NodeEntry) (state : NodeState) → IsTrue (boots j state) → IsFalse (eqb inc j) → RunsOrLeft inc (stopped state entry)
stopped_left inc j entry (IsBooting b running) boot differs = inr (left_booting inc b false (subst (λ (n : ℕ). IsFalse (eqb inc n)) (eqb-true j b boot) differs))
stopped_left inc j entry IsDown boot differs = absurd (false≢true boot)
stopped_left inc j entry (IsServing s) boot differs = absurd (false≢true boot)

-- ---- behind an entry

module _ (node capacity : ℕ) where
  module _ (history : List NodeEntry) (entry : NodeEntry) (held : Held history) where
    -- of a line that made another entry last nothing is new
    module _ (by : By) (inc : ℕ) (opens : Opens inc (last_own by history)) (differs : IsFalse (same_line by entry.by)) where
      not_its : (j : ℕ) → Opens j (last_own entry.by history) → IsFalse (eqb inc j)
      not_its j its = false_from_ne_true (eqb inc j) (λ same. true≢false (sym (held.one by entry.by inc opens (subst (λ (n : ℕ). Opens n (last_own entry.by history)) (sym (eqb-true inc j same)) its)) ∙ differs))

      other_stands : (act : NodeAct) → IsTrue (may_be_done node capacity history act entry.answer) → IsTrue (ends_own_at (last_own entry.by history) act) → RunsOrLeft inc (state_after (node_state history) entry act)
      other_stands (acts.Booting j) rule own =
          inr (left_booting inc j true (not_again inc j (newest history) (node_state history) (held.begun by inc opens) (held.stands by inc opens) (and_parts (may_begin_boot j (newest history) (node_state history)) _ rule).0))
      other_stands (acts.Boot j commits) rule own = inr (left_serving inc j commits (not_its j own))
      other_stands (acts.BootStopped j) rule own = stopped_left inc j entry (node_state history) (and_parts (boots j (node_state history)) _ rule).0 (not_its j own)
      other_stands (acts.Down j) rule own = inr refl
      other_stands act rule own = goes_stands inc entry (node_state history) (held.stands by inc opens)

    own_stands : (inc : ℕ) (act : NodeAct) → IsTrue (opens_boot inc act) → RunsOrLeft inc (state_after (node_state history) entry act)
    own_stands inc (acts.Booting j) is = inl (ap (λ (i : ℕ). IsBooting i true) (sym (eqb-true inc j is)))
    own_stands inc act is = absurd (false≢true is)

    own_begun : (inc n : ℕ) (act : NodeAct) → IsTrue (opens_boot inc act) → inc ≤ newest_after n act
    own_begun inc n (acts.Booting j) is = (let same : inc ≡ j = eqb-true inc j is in omega arith)
    own_begun inc n act is = absurd (false≢true is)

    -- who began a boot now, where another line has begun it before
    none_twice : (by : By) (inc : ℕ) (act : NodeAct) → IsTrue (may_be_done node capacity history act entry.answer) → IsTrue (opens_boot inc act) → Opens inc (last_own by history) → ⊥
    none_twice by inc (acts.Booting j) rule is opens =
        true≢false (sym is ∙ not_again inc j (newest history) (node_state history) (held.begun by inc opens) (held.stands by inc opens) (and_parts (may_begin_boot j (newest history) (node_state history)) _ rule).0)
    none_twice by inc act rule is opens = false≢true is

    module _ (rule : IsTrue (may_be_done node capacity history entry.act entry.answer)) (own : IsTrue (ends_own_boot history entry)) where
      abbrev after : List NodeEntry
      after = history ++ entry ∷ []

      -- a line that began a boot did so now, or before
      by_whom : (by : By) (inc : ℕ) → Opens inc (last_own by after) → (IsTrue (same_line by entry.by) × IsTrue (opens_boot inc entry.act)) ⊎ (IsFalse (same_line by entry.by) × Opens inc (last_own by history))
      by_whom by inc opens = elim (cases_Bool (same_line by entry.by)) [
        | inl same ↦ inl (same, subst (Opens inc) (last_with_own by history entry same) opens)
        | inr differs ↦ inr (differs, subst (Opens inc) (last_with_other by history entry differs) opens)
      ]

      begun_next : (by : By) (inc : ℕ) → Opens inc (last_own by after) → inc ≤ newest after
      begun_next by inc opens = subst (λ (n : ℕ). inc ≤ n) (sym (newest-snoc history entry)) (cases (by_whom by inc opens))
        where
          cases : (IsTrue (same_line by entry.by) × IsTrue (opens_boot inc entry.act)) ⊎ (IsFalse (same_line by entry.by) × Opens inc (last_own by history)) → inc ≤ newest_after (newest history) entry.act
          cases (inl (same, is)) = own_begun inc (newest history) entry.act is
          cases (inr (differs, was)) = (let low = held.begun by inc was in let grown = newer (newest history) entry.act in omega arith)

      stands_next : (by : By) (inc : ℕ) → Opens inc (last_own by after) → RunsOrLeft inc (node_state after)
      stands_next by inc opens = subst (RunsOrLeft inc) (sym (node_state-snoc history entry)) (cases (by_whom by inc opens))
        where
          cases : (IsTrue (same_line by entry.by) × IsTrue (opens_boot inc entry.act)) ⊎ (IsFalse (same_line by entry.by) × Opens inc (last_own by history)) → RunsOrLeft inc (state_after (node_state history) entry entry.act)
          cases (inl (same, is)) = own_stands inc entry.act is
          cases (inr (differs, was)) = other_stands by inc was differs entry.act rule own

      one_next : (by other : By) (inc : ℕ) → Opens inc (last_own by after) → Opens inc (last_own other after) → IsTrue (same_line by other)
      one_next by other inc opens also = cases (by_whom by inc opens) (by_whom other inc also)
        where
          cases : (IsTrue (same_line by entry.by) × IsTrue (opens_boot inc entry.act)) ⊎ (IsFalse (same_line by entry.by) × Opens inc (last_own by history))
              → (IsTrue (same_line other entry.by) × IsTrue (opens_boot inc entry.act)) ⊎ (IsFalse (same_line other entry.by) × Opens inc (last_own other history)) → IsTrue (same_line by other)
          cases (inl (same, is)) (inl (too, it)) = subst (λ (b : By). IsTrue (same_line by b)) (sym (same_by other entry.by too)) same
          cases (inl (same, is)) (inr (differs, was)) = absurd (none_twice other inc entry.act rule is was)
          cases (inr (differs, was)) (inl (too, it)) = absurd (none_twice by inc entry.act rule it was)
          cases (inr (differs, was)) (inr (differ, were)) = held.one by other inc was were

      held_next : Held after
      held_next = record { begun = begun_next; stands = stands_next; one = one_next }

  held_from : (more history : List NodeEntry) → LegalNode node capacity (history ++ more) → EndsOwnBoots (history ++ more) → Held history → Held (history ++ more)
  held_from [] history legal ends held = subst Held (sym (append-nil history)) held
  held_from (entry ∷ more) history legal ends held =
      let follows = (and_parts (may_follow_at node capacity history entry) _ (each_after_split (may_follow_at node capacity) [] history (entry ∷ more) legal).1).0 in
      let rule = (and_parts (nat_le (front history) entry.front) _ (and_parts (nat_le (front history) entry.front && may_be_done node capacity history entry.act entry.answer) _ follows).0).1 in
      let own = (and_parts (ends_own_boot history entry) _ (each_after_split ends_own_boot [] history (entry ∷ more) ends).1).0 in
      subst Held (append_assoc history (entry ∷ []) more)
      (held_from more (history ++ entry ∷ []) (subst (LegalNode node capacity) (sym (append_assoc history (entry ∷ []) more)) legal) (subst EndsOwnBoots (sym (append_assoc history (entry ∷ []) more)) ends) (held_next history entry held rule own))

  pub own_boots : (by : By) (inc : ℕ) (history : List NodeEntry) → LegalNode node capacity history → EndsOwnBoots history → IsTrue (act_passes (opens_boot inc) (last_own by history)) → IsTrue (has_left inc (node_state history) || boots inc (node_state history))
  own_boots by inc history legal ends opens = cases ((held_from history [] legal ends none).stands by inc opens)
    where
      none : Held []
      none = record { begun = λ b i is. absurd (false≢true is); stands = λ b i is. absurd (false≢true is); one = λ b o i is it. absurd (false≢true is) }

      cases : RunsOrLeft inc (node_state history) → IsTrue (has_left inc (node_state history) || boots inc (node_state history))
      cases (inl runs) = or_right (has_left inc (node_state history)) (boots inc (node_state history)) (subst (λ (s : NodeState). IsTrue (boots inc s)) (sym runs) (eq-eqb inc inc refl))
      cases (inr left) = or_left (has_left inc (node_state history)) (boots inc (node_state history)) left
