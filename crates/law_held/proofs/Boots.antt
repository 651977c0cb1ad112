-- A node that began to boot an incarnation boots or serves it, or it was fenced.
use Rattle.std.proofs.Common.{◌≡◌, ℕ, Bool, true, false, ◌&&◌, ◌||◌, not, List, [], ◌∷◌, ◌++◌, refl, sym, ap, subst, ◌∙◌, ◌⊎◌, inl, inr, append-nil, append_assoc, eqb}
use Rattle.std.specs.Prelude.{IsTrue, Option, if◌then◌else◌, nat_le}
use Rattle.std.specs.List.{list_any}
use Rattle.std.proofs.lemmas.Bool.{and_parts, cases_Bool, eq-eqb, eqb-true, false≢true, or_cases, true≢false}
use Rattle.aft_records.specs.declared.stored.Commit.{Commit}
use Rattle.aft_model.specs.declared.caller.By.{By}
use Rattle.aft_model.specs.declared.door.DoorEntry.{DoorEntry}
use Rattle.aft_model.specs.declared.node.NodeAct.{NodeAct}
use Rattle.aft_model.specs.declared.node.NodeAct.TheVariants as acts
use Rattle.aft_model.specs.declared.node.NodeEntry.{NodeEntry}
use Rattle.aft_model.specs.declared.reply.Reply.{Reply}
use Rattle.aft_model.specs.LegalNode.{front, may_be_done, may_follow_at}
use Rattle.aft_model.specs.Membership.{incarnation}
use Rattle.aft_model.specs.NodeRules.{may_begin_boot}
use Rattle.aft_model.specs.NodeSights.{has_seen, is_fenced}
use Rattle.aft_model.specs.NodeState.{IsBooting, IsDown, IsServing, NodeState, boots, goes_on, newest, node_state, serves, state_after, stopped}
use Rattle.aft_model.proofs.Histories.{In, any_found, any_from, each_after_snoc, in_append, in_back}
use Rattle.aft_model.proofs.Services.{node_state-snoc}
use Rattle.aft_lines.specs.Asked.{Asked, Ran}
use Rattle.aft_lines.specs.LineView.{door_entry_in}
use Rattle.aft_lines.specs.Steps.{Made, door_steps}
use Rattle.aft_lines.specs.Turns.{AtDoor, AtNode, AtOffice, Turn}
use Rattle.law_claims.specs.Moments.{Comes, node_entry_in, node_steps}
use Rattle.law_claims.proofs.Fenced.{fenced_more}
use Rattle.law_claims.proofs.Moments.{door-snoc, node-snoc}
use Rattle.law_runs.specs.Runs.{Goes, asking_of, run_steps}
use Rattle.law_runs.proofs.Come.{it_comes}
use Rattle.law_runs.proofs.InStages.{kept_behind}
use Rattle.law_runs.proofs.Members.{no_office_step}
use Rattle.law_turns.specs.Order.{is_at_office}

-- whether an act begins to boot this incarnation
abbrev pub begins_boot : ℕ → NodeAct → Bool
begins_boot inc (acts.Booting other) = eqb inc other
begins_boot inc act = false

-- how an incarnation stands that its node began to boot
abbrev pub Stood : ℕ → NodeState → ℕ → List DoorEntry → Type 0
Stood node state inc seen = IsTrue (boots inc state) ⊎ IsTrue (serves inc state) ⊎ IsTrue (is_fenced (incarnation node inc) seen)

module _ (node inc : ℕ) (seen : List DoorEntry) where
  booting_stood : (j n : ℕ) (state : NodeState) → IsTrue (may_begin_boot j n state) → Stood node state inc seen → Stood node (IsBooting j true) inc seen
  booting_stood j n IsDown rule (inl none) = absurd (false≢true none)
  booting_stood j n IsDown rule (inr (inl none)) = absurd (false≢true none)
  booting_stood j n IsDown rule (inr (inr gone)) = inr (inr gone)
  booting_stood j n (IsBooting b running) rule (inl it) = inl (eq-eqb inc j (eqb-true inc b it ∙ sym (eqb-true j b (and_parts (eqb j b) (not running) rule).0)))
  booting_stood j n (IsBooting b running) rule (inr (inl none)) = absurd (false≢true none)
  booting_stood j n (IsBooting b running) rule (inr (inr gone)) = inr (inr gone)
  booting_stood j n (IsServing s) rule stood = absurd (false≢true rule)

  booted_stood : (j : ℕ) (commits : List Commit) (state : NodeState) → IsTrue (boots j state) → Stood node state inc seen → Stood node (IsServing (record { inc = j; booted = commits; part = [] })) inc seen
  booted_stood j commits (IsBooting b running) rule (inl it) = inr (inl (eq-eqb inc j (eqb-true inc b it ∙ sym (eqb-true j b rule))))
  booted_stood j commits (IsBooting b running) rule (inr (inl none)) = absurd (false≢true none)
  booted_stood j commits (IsBooting b running) rule (inr (inr gone)) = inr (inr gone)
  booted_stood j commits IsDown rule stood = absurd (false≢true rule)
  booted_stood j commits (IsServing s) rule stood = absurd (false≢true rule)

  goes_stood : (entry : NodeEntry) (state : NodeState) → Stood node state inc seen → Stood node (goes_on state entry) inc seen
  goes_stood entry (IsServing s) (inl none) = absurd (false≢true none)
  goes_stood entry (IsServing s) (inr more) = inr more
  goes_stood entry IsDown stood = stood
  goes_stood entry (IsBooting b running) stood = stood

  stopped_stood : (entry : NodeEntry) (state : NodeState) → Stood node state inc seen → Stood node (stopped state entry) inc seen
  stopped_stood entry (IsBooting b running) stood = stood
  stopped_stood entry IsDown stood = stood
  stopped_stood entry (IsServing s) stood = goes_stood entry (IsServing s) stood

  down_stood : (j : ℕ) (state : NodeState) → IsTrue (boots j state || serves j state) → IsTrue (is_fenced (incarnation node j) seen) → Stood node state inc seen → IsTrue (is_fenced (incarnation node inc) seen)
  down_stood j state rule fenced (inr (inr gone)) = gone
  down_stood j (IsBooting b running) rule fenced (inl it) = elim (or_cases (eqb j b) false rule) [
    | inl other ↦ subst (λ (i : ℕ). IsTrue (is_fenced (incarnation node i) seen)) (eqb-true j b other ∙ sym (eqb-true inc b it)) fenced
    | inr none ↦ absurd (false≢true none)
  ]
  down_stood j (IsServing s) rule fenced (inr (inl it)) = subst (λ (i : ℕ). IsTrue (is_fenced (incarnation node i) seen)) (eqb-true j s.inc rule ∙ sym (eqb-true inc s.inc it)) fenced
  down_stood j (IsServing s) rule fenced (inl none) = absurd (false≢true none)
  down_stood j (IsBooting b running) rule fenced (inr (inl none)) = absurd (false≢true none)
  down_stood j IsDown rule fenced (inl none) = absurd (false≢true none)
  down_stood j IsDown rule fenced (inr (inl none)) = absurd (false≢true none)

  -- behind an entry, by its rule and what it has seen
  stood_next : (capacity : ℕ) (history : List NodeEntry) (entry : NodeEntry) (by : By) (act : NodeAct) (answer : Option Reply) → IsTrue (may_be_done node capacity history act answer) → IsTrue (has_seen node seen by history act answer) → Stood node (node_state history) inc seen → Stood node (state_after (node_state history) entry act) inc seen
  stood_next capacity history entry by (acts.Booting j) answer rule sight stood = booting_stood j (newest history) (node_state history) (and_parts (may_begin_boot j (newest history) (node_state history)) _ rule).0 stood
  stood_next capacity history entry by (acts.Boot j commits) answer rule sight stood = booted_stood j commits (node_state history) (and_parts (boots j (node_state history)) _ rule).0 stood
  stood_next capacity history entry by (acts.BootStopped j) answer rule sight stood = stopped_stood entry (node_state history) stood
  stood_next capacity history entry by (acts.Down j) answer rule sight stood = inr (inr (down_stood j (node_state history) (and_parts (boots j (node_state history) || serves j (node_state history)) _ rule).0 sight stood))
  stood_next capacity history entry by act answer rule sight stood = goes_stood entry (node_state history) stood

-- ---- a run

module _ (asked : Asked) (ran : Ran) (so : Goes asked ran) where
  abbrev pub AllStood : List Made → Type 0
  AllStood made = (node inc : ℕ) → IsTrue (list_any (λ (e : NodeEntry). begins_boot inc e.act) (node_steps node made)) → Stood node (node_state (node_steps node made)) inc (door_steps made)

  module _ (before rest : List Made) (one : Made) (is : run_steps ran ≡ before ++ one ∷ rest) (stood : AllStood before) where
    abbrev after : List Made
    after = before ++ one ∷ []

    more_fenced : (node inc : ℕ) (state : NodeState) → Stood node state inc (door_steps before) → Stood node state inc (door_steps after)
    more_fenced node inc state (inl boot) = inl boot
    more_fenced node inc state (inr (inl serve)) = inr (inl serve)
    more_fenced node inc state (inr (inr gone)) = inr (inr (subst (λ (d : List DoorEntry). IsTrue (is_fenced (incarnation node inc) d)) (sym (door-snoc before one)) (fenced_more (incarnation node inc) (door_steps before) (door_entry_in one.by one.turn) gone)))

    still_stood : (node inc : ℕ) → node_steps node after ≡ node_steps node before → IsTrue (list_any (λ (e : NodeEntry). begins_boot inc e.act) (node_steps node after)) → Stood node (node_state (node_steps node after)) inc (door_steps after)
    still_stood node inc same begun =
        subst (λ (h : List NodeEntry). Stood node (node_state h) inc (door_steps after)) (sym same)
        (more_fenced node inc (node_state (node_steps node before)) (stood node inc (subst (λ (h : List NodeEntry). IsTrue (list_any (λ (e : NodeEntry). begins_boot inc e.act) h)) same begun)))

    module _ (node : ℕ) (history : List NodeEntry) (entry : NodeEntry) (turned : one.turn ≡ AtNode node history entry) where
      comes : Comes (asking_of asked ran) asked.settings.cache before one.by (AtNode node history entry)
      comes = subst (Comes (asking_of asked ran) asked.settings.cache before one.by) turned (it_comes asked ran so before rest one is (kept_behind asked ran so before (one ∷ rest) is).0)

      here : node_steps node after ≡ history ++ entry ∷ []
      here = node-snoc node before one ∙ (ap (λ (t : Turn). node_steps node before ++ node_entry_in node t) turned ∙ (ap (λ (b : Bool). node_steps node before ++ (if b then entry ∷ [] else [])) (eq-eqb node node refl) ∙ ap (λ (h : List NodeEntry). h ++ entry ∷ []) (sym comes.1)))

      rule : IsTrue (may_be_done node asked.settings.cache history entry.act entry.answer)
      rule =
          let follows = (each_after_snoc (may_follow_at node asked.settings.cache) [] history entry comes.3).1 in
          (and_parts (nat_le (front history) entry.front) _ (and_parts (nat_le (front history) entry.front && may_be_done node asked.settings.cache history entry.act entry.answer) _ follows).0).1

      here_stood : (inc : ℕ) → IsTrue (list_any (λ (e : NodeEntry). begins_boot inc e.act) (history ++ entry ∷ [])) → Stood node (state_after (node_state history) entry entry.act) inc (door_steps before)
      here_stood inc begun =
          let found = any_found (λ (e : NodeEntry). begins_boot inc e.act) (history ++ entry ∷ []) begun in
          elim (in_append found.0 history (entry ∷ []) found.1) [
            | inl old ↦
                stood_next node inc (door_steps before) asked.settings.cache history entry one.by entry.act entry.answer rule comes.4
                (subst (λ (h : List NodeEntry). Stood node (node_state h) inc (door_steps before)) (sym comes.1)
                (stood node inc (subst (λ (h : List NodeEntry). IsTrue (list_any (λ (e : NodeEntry). begins_boot inc e.act) h)) comes.1 (any_from (λ (e : NodeEntry). begins_boot inc e.act) found.0 history old found.2))))
            | inr new ↦ elim new [
              | inl it ↦ now_boots entry.act (subst (λ (e : NodeEntry). IsTrue (begins_boot inc e.act)) it found.2)
              | inr none ↦ absurd none
            ]
          ]
        where
          now_boots : (act : NodeAct) → IsTrue (begins_boot inc act) → Stood node (state_after (node_state history) entry act) inc (door_steps before)
          now_boots (acts.Booting j) its = inl its
          now_boots act its = absurd (false≢true its)

      node_stood : (inc : ℕ) → IsTrue (list_any (λ (e : NodeEntry). begins_boot inc e.act) (node_steps node after)) → Stood node (node_state (node_steps node after)) inc (door_steps after)
      node_stood inc begun =
          subst (λ (h : List NodeEntry). Stood node (node_state h) inc (door_steps after)) (sym here)
          (more_fenced node inc (node_state (history ++ entry ∷ []))
          (subst (λ (s : NodeState). Stood node s inc (door_steps before)) (sym (node_state-snoc history entry)) (here_stood inc (subst (λ (h : List NodeEntry). IsTrue (list_any (λ (e : NodeEntry). begins_boot inc e.act) h)) here begun))))

      at_node : AllStood after
      at_node other inc begun = elim (cases_Bool (eqb node other)) [
        | inl same ↦ (let e = eqb-true node other same in subst (λ (n : ℕ). Stood n (node_state (node_steps n after)) inc (door_steps after)) e (node_stood inc (subst (λ (n : ℕ). IsTrue (list_any (λ (x : NodeEntry). begins_boot inc x.act) (node_steps n after))) (sym e) begun)))
        | inr differs ↦ still_stood other inc (node-snoc other before one ∙ (ap (λ (t : Turn). node_steps other before ++ node_entry_in other t) turned ∙ (ap (λ (b : Bool). node_steps other before ++ (if b then entry ∷ [] else [])) differs ∙ append-nil (node_steps other before)))) begun
      ]

    stood_step : AllStood after
    stood_step = by_turn one.turn refl
      where
        by_turn : (turn : Turn) → one.turn ≡ turn → AllStood after
        by_turn (AtDoor place act) turned = λ node inc begun. still_stood node inc (node-snoc node before one ∙ (ap (λ (t : Turn). node_steps node before ++ node_entry_in node t) turned ∙ append-nil (node_steps node before))) begun
        by_turn (AtNode node history entry) turned = at_node node history entry turned
        by_turn (AtOffice history entry) turned = absurd (true≢false (sym (ap is_at_office turned) ∙ no_office_step ran.trace one (subst (λ (l : List Made). In one l) (sym is) (in_back one before (one ∷ rest) (inl refl)))))

  stood_from : (more before rest : List Made) → run_steps ran ≡ before ++ (more ++ rest) → AllStood before → AllStood (before ++ more)
  stood_from [] before rest is stood = subst AllStood (sym (append-nil before)) stood
  stood_from (one ∷ more) before rest is stood =
      subst AllStood (append_assoc before (one ∷ []) more)
      (stood_from more (before ++ one ∷ []) rest (is ∙ sym (append_assoc before (one ∷ []) (more ++ rest))) (stood_step before (more ++ rest) one is stood))

  pub stood_behind : (before rest : List Made) → run_steps ran ≡ before ++ rest → AllStood before
  stood_behind before rest is = stood_from before [] rest is (λ node inc none. absurd (false≢true none))
