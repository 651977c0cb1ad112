-- Whoever a node serves came up at the door, and so is up or was fenced.
use Rattle.std.proofs.Common.{◌≡◌, ℕ, Bool, false, ◌&&◌, ◌||◌, not, List, [], ◌∷◌, ◌++◌, refl, sym, ap, subst, ◌∙◌, ◌⊎◌, inl, inr, append-nil, append_assoc, eqb}
use Rattle.std.specs.Prelude.{IsTrue, filter, if◌then◌else◌}
use Rattle.std.specs.List.{list_any}
use Rattle.std.proofs.lemmas.Bool.{and_parts, cases_Bool, eq-eqb, eqb-true, false≢true, false_from_ne_true, or_cases, or_left, or_right, true≢false}
use Rattle.std.proofs.lemmas.List.Concat.{flat_map-append}
use Rattle.std.proofs.lemmas.List.Sums.{fold-append}
use Rattle.aft_records.specs.declared.stored.Commit.{Commit}
use Rattle.aft_model.specs.declared.door.DoorAct.{DoorAct}
use Rattle.aft_model.specs.declared.door.DoorAct.TheVariants as doors
use Rattle.aft_model.specs.declared.door.DoorEntry.{DoorEntry}
use Rattle.aft_model.specs.declared.node.NodeAct.{NodeAct}
use Rattle.aft_model.specs.declared.node.NodeAct.TheVariants as acts
use Rattle.aft_model.specs.declared.node.NodeEntry.{NodeEntry}
use Rattle.aft_model.specs.History.{followed}
use Rattle.aft_model.specs.LegalDoor.{Legal, may_follow}
use Rattle.aft_model.specs.Membership.{Incarnation, fenced, fenced_in, incarnation, is_up, same_incarnation, the_office, up_after, ups}
use Rattle.aft_model.specs.NodeSights.{comes_up, has_seen, is_fenced}
use Rattle.aft_model.specs.NodeState.{IsBooting, IsServing, NodeState, Service, extended, goes_on, node_state, serves, state_after, stopped}
use Rattle.aft_model.proofs.Histories.{In, any_found, any_from, each_after_kept, each_after_split, in_append, in_back}
use Rattle.aft_model.proofs.Lists.{filter_in}
use Rattle.aft_model.proofs.OneCommit.{same_who}
use Rattle.aft_model.proofs.Services.{node_state-snoc, serving}
use Rattle.aft_lines.specs.Asked.{Asked, Ran}
use Rattle.aft_lines.specs.LineView.{door_entry_in}
use Rattle.aft_lines.specs.Steps.{Made, door_steps}
use Rattle.aft_lines.specs.Turns.{AtDoor, AtNode, AtOffice, Turn}
use Rattle.law_claims.specs.Moments.{Comes, node_entry_in, node_steps}
use Rattle.law_claims.proofs.Fenced.{fenced_more}
use Rattle.law_claims.proofs.Moments.{door-snoc, node-snoc}
use Rattle.law_runs.specs.Runs.{Goes, asking_of, run_steps, without_office}
use Rattle.law_runs.proofs.Come.{it_comes}
use Rattle.law_runs.proofs.InStages.{kept_behind}
use Rattle.law_runs.proofs.Members.{no_office_step}
use Rattle.law_steps.proofs.Histories.{door_is}
use Rattle.law_turns.specs.Order.{is_at_office}
use Rattle.law_held.proofs.Fetches.{any_more}

-- ---- who came up is up, or was fenced

module _ (who : Incarnation) where
  abbrev pub Came : List DoorEntry → Type 0
  Came history = IsTrue (list_any (λ (e : DoorEntry). comes_up who e.act) history)

  abbrev UpOrFenced : List DoorEntry → Type 0
  UpOrFenced history = IsTrue (is_up who history) ⊎ IsTrue (is_fenced who history)

  pub ups-snoc : (history : List DoorEntry) (entry : DoorEntry) → ups (history ++ entry ∷ []) ≡ up_after (ups history) entry.act
  ups-snoc history entry = fold-append (λ (b : List Incarnation) (e : DoorEntry). up_after b e.act) (the_office ∷ []) history (entry ∷ [])

  -- who was up is so behind an act, or is fenced by it
  still : (history : List DoorEntry) (act : DoorAct) → IsTrue (is_up who history) → IsTrue (list_any (same_incarnation who) (up_after (ups history) act)) ⊎ IsTrue (list_any (same_incarnation who) (fenced_in act))
  still history (doors.Up node inc) up = inl (or_right (same_incarnation who (incarnation node inc)) (is_up who history) up)
  still history (doors.Fence node inc) up = elim (cases_Bool (same_incarnation who (incarnation node inc))) [
    | inl same ↦ inr (or_left (same_incarnation who (incarnation node inc)) false same)
    | inr other ↦
        (let found = any_found (same_incarnation who) (ups history) up in
        inl (any_from (same_incarnation who) found.0 (filter (λ (i : Incarnation). not (same_incarnation (incarnation node inc) i)) (ups history))
        (filter_in (λ (i : Incarnation). not (same_incarnation (incarnation node inc) i)) found.0 (ups history) found.1
        (ap not (false_from_ne_true (same_incarnation (incarnation node inc) found.0) (λ it. true≢false (sym (subst (λ (i : Incarnation). IsTrue (same_incarnation who i)) (sym (same_who (incarnation node inc) found.0 it)) found.2) ∙ other))))) found.2))
  ]
  still history act up = inl up

  fenced_now : (history : List DoorEntry) (entry : DoorEntry) → IsTrue (list_any (same_incarnation who) (fenced_in entry.act)) → IsTrue (is_fenced who (history ++ entry ∷ []))
  fenced_now history entry is =
      let found = any_found (same_incarnation who) (fenced_in entry.act) is in
      any_from (same_incarnation who) found.0 (fenced (history ++ entry ∷ []))
      (subst (λ (l : List Incarnation). In found.0 l) (sym (flat_map-append (λ (e : DoorEntry). fenced_in e.act) history (entry ∷ []))) (in_back found.0 (fenced history) (fenced_in entry.act ++ []) (subst (λ (l : List Incarnation). In found.0 l) (sym (append-nil (fenced_in entry.act))) found.1))) found.2

  up_now : (history : List DoorEntry) (entry : DoorEntry) → IsTrue (list_any (same_incarnation who) (up_after (ups history) entry.act)) → IsTrue (is_up who (history ++ entry ∷ []))
  up_now history entry is = subst (λ (l : List Incarnation). IsTrue (list_any (same_incarnation who) l)) (sym (ups-snoc history entry)) is

  comes_now : (history : List DoorEntry) (act : DoorAct) → IsTrue (comes_up who act) → IsTrue (list_any (same_incarnation who) (up_after (ups history) act))
  comes_now history (doors.Up node inc) is = or_left (same_incarnation who (incarnation node inc)) (is_up who history) is
  comes_now history act is = absurd (false≢true is)

  came_next : (history : List DoorEntry) (entry : DoorEntry) → (Came history → UpOrFenced history) → Came (history ++ entry ∷ []) → UpOrFenced (history ++ entry ∷ [])
  came_next history entry before came =
      let found = any_found (λ (e : DoorEntry). comes_up who e.act) (history ++ entry ∷ []) came in
      elim (in_append found.0 history (entry ∷ []) found.1) [
        | inl old ↦ elim (before (any_from (λ (e : DoorEntry). comes_up who e.act) found.0 history old found.2)) [
          | inl up ↦ elim (still history entry.act up) [ inl now ↦ inl (up_now history entry now) | inr gone ↦ inr (fenced_now history entry gone) ]
          | inr gone ↦ inr (fenced_more who history (entry ∷ []) gone)
        ]
        | inr new ↦ elim new [
          | inl it ↦ inl (up_now history entry (comes_now history entry.act (subst (λ (e : DoorEntry). IsTrue (comes_up who e.act)) it found.2)))
          | inr none ↦ absurd none
        ]
      ]

  pub came_up : (history : List DoorEntry) → Legal history → Came history → UpOrFenced history
  came_up history legal = each_after_kept may_follow (λ (h : List DoorEntry). Came h → UpOrFenced h) (λ h entry sofar rule before. came_next h entry before) [] history legal (λ none. absurd (false≢true none))

followed_some : (first : DoorEntry → Bool) (rest : List DoorEntry → Bool) (xs : List DoorEntry) → IsTrue (followed first rest xs) → IsTrue (list_any first xs)
followed_some first rest [] is = absurd (false≢true is)
followed_some first rest (x ∷ xs) is = elim (or_cases (first x && rest xs) (followed first rest xs) is) [
  | inl here ↦ or_left (first x) (list_any first xs) (and_parts (first x) (rest xs) here).0
  | inr later ↦ or_right (first x) (list_any first xs) (followed_some first rest xs later)
]

-- ---- a service behind an entry

-- the entry boots it, or it was served before
abbrev Booted : NodeState → NodeAct → Service → Type 0
Booted state act s' = ((commits : List Commit) × (act ≡ acts.Boot s'.inc commits)) ⊎ ((s : Service) × (state ≡ IsServing s) × (s.inc ≡ s'.inc))

goes_booted : (state : NodeState) (entry : NodeEntry) (act : NodeAct) (s' : Service) → goes_on state entry ≡ IsServing s' → Booted state act s'
goes_booted (IsServing s) entry act s' is = inr (s, refl, ap (λ (t : Service). t.inc) (let e : extended s entry ≡ s' = cc in e))
goes_booted state entry act s' is = absurd (cc)

stops_booted : (state : NodeState) (entry : NodeEntry) (act : NodeAct) (s' : Service) → stopped state entry ≡ IsServing s' → Booted state act s'
stops_booted (IsBooting inc running) entry act s' is = absurd (cc)
stops_booted state entry act s' is = goes_booted state entry act s' is

booted_so : (state : NodeState) (entry : NodeEntry) (act : NodeAct) (s' : Service) → state_after state entry act ≡ IsServing s' → Booted state act s'
booted_so state entry (acts.Booting inc) s' is = absurd (cc)
booted_so state entry (acts.Boot inc commits) s' is = inl (commits, ap (λ (i : ℕ). acts.Boot i commits) (ap (λ (t : Service). t.inc) (let e : record { inc = inc; booted = commits; part = [] } ≡ s' = cc in e)))
booted_so state entry (acts.BootStopped inc) s' is = stops_booted state entry (acts.BootStopped inc) s' is
booted_so state entry (acts.Down inc) s' is = absurd (cc)
booted_so state entry act s' is = goes_booted state entry act s' is

-- ---- a run

module _ (asked : Asked) (ran : Ran) (so : Goes asked ran) where
  -- whoever is served came up
  abbrev Served : List Made → Type 0
  Served made = (node : ℕ) (s : Service) → node_state (node_steps node made) ≡ IsServing s → Came (incarnation node s.inc) (door_steps made)

  module _ (before rest : List Made) (one : Made) (is : run_steps ran ≡ before ++ one ∷ rest) (served : Served before) where
    abbrev after : List Made
    after = before ++ one ∷ []

    -- where the node's history is as before, and the door's no shorter
    stays_served : (node : ℕ) (s : Service) → node_steps node after ≡ node_steps node before → node_state (node_steps node after) ≡ IsServing s → Came (incarnation node s.inc) (door_steps after)
    stays_served node s same state =
        subst (λ (d : List DoorEntry). Came (incarnation node s.inc) d) (sym (door-snoc before one))
        (any_more (λ (e : DoorEntry). comes_up (incarnation node s.inc) e.act) (door_steps before) (door_entry_in one.by one.turn) (served node s (ap node_state (sym same) ∙ state)))

    at_door : (place : ℕ) (act : DoorAct) → one.turn ≡ AtDoor place act → Served after
    at_door place act turned node s state = stays_served node s (node-snoc node before one ∙ (ap (λ (t : Turn). node_steps node before ++ node_entry_in node t) turned ∙ append-nil (node_steps node before))) state

    at_its_node : (node : ℕ) (history : List NodeEntry) (entry : NodeEntry) → one.turn ≡ AtNode node history entry → (s : Service) → node_state (node_steps node after) ≡ IsServing s → Came (incarnation node s.inc) (door_steps after)
    at_its_node node history entry turned s state =
        let comes = subst (Comes (asking_of asked ran) asked.settings.cache before one.by) turned (it_comes asked ran so before rest one is (kept_behind asked ran so before (one ∷ rest) is).0) in
        let here : node_steps node after ≡ history ++ entry ∷ [] = node-snoc node before one ∙ (ap (λ (t : Turn). node_steps node before ++ node_entry_in node t) turned ∙ (ap (λ (b : Bool). node_steps node before ++ (if b then entry ∷ [] else [])) (eq-eqb node node refl) ∙ ap (λ (h : List NodeEntry). h ++ entry ∷ []) (sym comes.1))) in
        subst (λ (d : List DoorEntry). Came (incarnation node s.inc) d) (sym (door-snoc before one ∙ (ap (λ (t : Turn). door_steps before ++ door_entry_in one.by t) turned ∙ append-nil (door_steps before))))
        (by_state comes.4 (booted_so (node_state history) entry entry.act s (sym (ap node_state here ∙ node_state-snoc history entry) ∙ state)) (λ t st. served node t (ap node_state (sym comes.1) ∙ st)))
      where
        by_state : IsTrue (has_seen node (door_steps before) one.by history entry.act entry.answer) → Booted (node_state history) entry.act s → ((t : Service) → node_state history ≡ IsServing t → Came (incarnation node t.inc) (door_steps before)) → Came (incarnation node s.inc) (door_steps before)
        by_state sight (inl boot) old = followed_some (λ (e : DoorEntry). comes_up (incarnation node s.inc) e.act) _ (door_steps before) (subst (λ (a : NodeAct). IsTrue (has_seen node (door_steps before) one.by history a entry.answer)) boot.1 sight)
        by_state sight (inr was) old = subst (λ (i : ℕ). Came (incarnation node i) (door_steps before)) was.2 (old was.0 was.1)

    at_node : (node : ℕ) (history : List NodeEntry) (entry : NodeEntry) → one.turn ≡ AtNode node history entry → Served after
    at_node node history entry turned other s state = elim (cases_Bool (eqb node other)) [
      | inl same ↦ (let e = eqb-true node other same in subst (λ (n : ℕ). Came (incarnation n s.inc) (door_steps after)) e (at_its_node node history entry turned s (ap (λ (n : ℕ). node_state (node_steps n after)) e ∙ state)))
      | inr differs ↦ stays_served other s (node-snoc other before one ∙ (ap (λ (t : Turn). node_steps other before ++ node_entry_in other t) turned ∙ (ap (λ (b : Bool). node_steps other before ++ (if b then entry ∷ [] else [])) differs ∙ append-nil (node_steps other before)))) state
    ]

    served_next : Served after
    served_next = by_turn one.turn refl
      where
        by_turn : (turn : Turn) → one.turn ≡ turn → Served after
        by_turn (AtDoor place act) turned = at_door place act turned
        by_turn (AtNode node history entry) turned = at_node node history entry turned
        by_turn (AtOffice history entry) turned = absurd (true≢false (sym (ap is_at_office turned) ∙ no_office_step ran.trace one (subst (λ (l : List Made). In one l) (sym is) (in_back one before (one ∷ rest) (inl refl)))))

  served_from : (more before rest : List Made) → run_steps ran ≡ before ++ (more ++ rest) → Served before → Served (before ++ more)
  served_from [] before rest is served = subst Served (sym (append-nil before)) served
  served_from (one ∷ more) before rest is served =
      subst Served (append_assoc before (one ∷ []) more)
      (served_from more (before ++ one ∷ []) rest (is ∙ sym (append_assoc before (one ∷ []) (more ++ rest))) (served_next before (more ++ rest) one is served))

  -- so at each moment whoever is served is up, or was fenced
  pub serves_up : (before rest : List Made) → run_steps ran ≡ before ++ rest → (node inc : ℕ) → IsTrue (serves inc (node_state (node_steps node before))) → IsTrue (is_up (incarnation node inc) (door_steps before) || is_fenced (incarnation node inc) (door_steps before))
  serves_up before rest is node inc serve =
      let at = serving inc (node_state (node_steps node before)) serve in
      let came = served_from before [] rest is (λ n s none. absurd (cc)) node at.0 at.1 in
      let who : incarnation node at.0.inc ≡ incarnation node inc = ap (incarnation node) at.2 in
      elim (came_up (incarnation node inc) (door_steps before) legal (subst (λ (w : Incarnation). Came w (door_steps before)) who came)) [
        | inl up ↦ or_left (is_up (incarnation node inc) (door_steps before)) (is_fenced (incarnation node inc) (door_steps before)) up
        | inr gone ↦ or_right (is_up (incarnation node inc) (door_steps before)) (is_fenced (incarnation node inc) (door_steps before)) gone
      ]
    where
      door_whole : ran.trace.door ≡ door_steps before ++ door_steps rest
      door_whole = sym (door_is (without_office ran.trace)) ∙ (ap door_steps is ∙ flat_map-append (λ (m : Made). door_entry_in m.by m.turn) before rest)

      legal : Legal (door_steps before)
      legal = (each_after_split may_follow [] (door_steps before) (door_steps rest) (subst Legal door_whole so.door)).0
