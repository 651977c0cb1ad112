-- What each moment keeps, behind steps that each come by their rule.
use Rattle.std.proofs.Common.{◌≡◌, ℕ, Bool, true, false, List, [], ◌∷◌, ◌++◌, refl, sym, ap, subst, ◌∙◌, inl, inr, eqb, append_assoc, append-nil}
use Rattle.std.specs.Prelude.{IsTrue, IsFalse, None, Option, Some, filter, if◌then◌else◌, map}
use Rattle.std.proofs.lemmas.Bool.{cases_Bool, eq-eqb, eqb-true, false_from_ne_true, true≢false}
use Rattle.std.proofs.lemmas.List.{map-append}
use Rattle.std.proofs.lemmas.List.Concat.{flat_map-append}
use Rattle.std.proofs.lemmas.List.Elements.{filter-append}
use Rattle.std.proofs.lemmas.List.Sums.{fold-append}
use Rattle.aft_model.specs.declared.caller.By.{By}
use Rattle.aft_model.specs.declared.door.DoorAct.{DoorAct}
use Rattle.aft_model.specs.declared.door.DoorEntry.{DoorEntry}
use Rattle.aft_model.specs.declared.node.NodeEntry.{NodeEntry}
use Rattle.aft_model.specs.declared.script.Command.{Command}
use Rattle.aft_model.specs.LegalNode.{LegalNode}
use Rattle.aft_model.specs.NodeSights.{has_seen}
use Rattle.aft_model.specs.ScanRun.{same_line}
use Rattle.aft_lines.specs.Advance.{advance, advanced, leads_to}
use Rattle.aft_lines.specs.CourseWords.{Ends}
use Rattle.aft_lines.specs.LineView.{door_entry_in}
use Rattle.aft_lines.specs.Progress.{NotBegun, Progress}
use Rattle.aft_lines.specs.Steps.{Made, door_steps, own_steps}
use Rattle.aft_lines.specs.Turns.{AtDoor, AtNode, AtOffice, Turn}
use Rattle.law_holders.specs.Rows.{is_of_attempt}
use Rattle.law_claims.specs.Doing.{attempt_at}
use Rattle.law_claims.specs.Moments.{Asking, ByCommand, ByCourse, ByNobody, Comes, IsMade, MayCome, come_to, node_entry_in, node_steps, or_not_begun, scene_of}
use Rattle.law_claims.specs.Scenes.{AreLegal, DoorStep, Keeps, NodeStep, Scene}
use Rattle.law_claims.proofs.Beginning.{begins}
use Rattle.law_claims.proofs.DoorSteps.{bystander_steps_keep, mover_steps_keep, quiet_steps_keep}
use Rattle.law_claims.proofs.NodeSteps.{bystander_turns_keep, mover_turns_keep, quiet_turns_keep}
use Rattle.law_claims.proofs.Scenes.{by_itself, same_by}

-- ---- one step more

pub door-snoc : (made : List Made) (one : Made) → door_steps (made ++ one ∷ []) ≡ door_steps made ++ door_entry_in one.by one.turn
door-snoc made one = flat_map-append (λ (m : Made). door_entry_in m.by m.turn) made (one ∷ []) ∙ ap (λ (l : List DoorEntry). door_steps made ++ l) (append-nil (door_entry_in one.by one.turn))

pub node-snoc : (node : ℕ) (made : List Made) (one : Made) → node_steps node (made ++ one ∷ []) ≡ node_steps node made ++ node_entry_in node one.turn
node-snoc node made one = flat_map-append (λ (m : Made). node_entry_in node m.turn) made (one ∷ []) ∙ ap (λ (l : List NodeEntry). node_steps node made ++ l) (append-nil (node_entry_in node one.turn))

pub own-snoc : (by : By) (made : List Made) (one : Made) → own_steps by (made ++ one ∷ []) ≡ own_steps by made ++ own_steps by (one ∷ [])
own-snoc by made one =
    ap (map (λ (m : Made). m.turn)) (filter-append (λ (m : Made). same_line by m.by) made (one ∷ []))
    ∙ map-append (λ (m : Made). m.turn) (filter (λ (m : Made). same_line by m.by) made) (filter (λ (m : Made). same_line by m.by) (one ∷ []))

pub own_other : (by : By) (made : List Made) (one : Made) → same_line by one.by ≡ false → own_steps by (made ++ one ∷ []) ≡ own_steps by made
own_other by made one other =
    own-snoc by made one
    ∙ (ap (λ (b : Bool). own_steps by made ++ map (λ (m : Made). m.turn) (if b then one ∷ [] else [])) other ∙ append-nil (own_steps by made))

pub own_same : (made : List Made) (one : Made) → own_steps one.by (made ++ one ∷ []) ≡ own_steps one.by made ++ one.turn ∷ []
own_same made one = own-snoc one.by made one ∙ ap (λ (b : Bool). own_steps one.by made ++ map (λ (m : Made). m.turn) (if b then one ∷ [] else [])) (by_itself one.by)

-- ---- where its line comes to

-- the positions before and behind a turn that leads a line somewhere
moved_on : (command : Command) (nodes : List ℕ) (ends : Ends) (line : List Turn) (turn : Turn) (next : Progress) → leads_to command nodes ends (line ++ turn ∷ []) ≡ Some next → advance command nodes ends (or_not_begun (leads_to command nodes ends line)) turn ≡ Some next
moved_on command nodes ends line turn next leads = cases (leads_to command nodes ends line) (sym (fold-append (advanced (advance command nodes ends)) (Some NotBegun) line (turn ∷ [])) ∙ leads)
  where
    cases : (was : Option Progress) → advanced (advance command nodes ends) was turn ≡ Some next → advance command nodes ends (or_not_begun was) turn ≡ Some next
    cases None is = absurd (let nothing : None ≡ Some next = is in cc)
    cases (Some position) is = is

pub at_mover : (asking : Asking) (by : By) (line : List Turn) (command : Command) → asking.command by ≡ Some command → IsTrue (is_of_attempt command) → come_to asking.nodes (asking.ends by) line (asking.command by) ≡ or_not_begun (leads_to command asking.nodes (asking.ends by) line)
at_mover asking by line command is of =
    ap (come_to asking.nodes (asking.ends by) line) is ∙ ap (λ (b : Bool). if b then or_not_begun (leads_to command asking.nodes (asking.ends by) line) else NotBegun) of

pub at_bystander : (asking : Asking) (by : By) (line : List Turn) (command : Command) → asking.command by ≡ Some command → is_of_attempt command ≡ false → attempt_at (come_to asking.nodes (asking.ends by) line (asking.command by)) ≡ None
at_bystander asking by line command is other = ap attempt_at (ap (come_to asking.nodes (asking.ends by) line) is ∙ ap (λ (b : Bool). if b then or_not_begun (leads_to command asking.nodes (asking.ends by) line) else NotBegun) other)

pub at_nobody : (asking : Asking) (by : By) (line : List Turn) → asking.command by ≡ None → attempt_at (come_to asking.nodes (asking.ends by) line (asking.command by)) ≡ None
at_nobody asking by line is = ap attempt_at (ap (come_to asking.nodes (asking.ends by) line) is)

module _ (asking : Asking) (capacity : ℕ) (made : List Made) (one : Made) where
  abbrev before : Scene
  before = scene_of asking made

  abbrev after : Scene
  after = scene_of asking (made ++ one ∷ [])

  others_stay : (other : By) → IsFalse (same_line one.by other) → after.at other ≡ before.at other
  others_stay other differs =
      ap (λ (line : List Turn). come_to asking.nodes (asking.ends other) line (asking.command other)) (own_other other made one (turned other differs))
    where
      turned : (o : By) → same_line one.by o ≡ false → same_line o one.by ≡ false
      turned o d = false_from_ne_true (same_line o one.by) (λ is. true≢false (sym (by_itself one.by) ∙ subst (λ (x : By). same_line one.by x ≡ false) (same_by o one.by is) d))

  pub goes_along : (command : Command) (next : Progress) → asking.command one.by ≡ Some command → IsTrue (is_of_attempt command) → leads_to command asking.nodes (asking.ends one.by) (own_steps one.by made ++ one.turn ∷ []) ≡ Some next
      → advance command asking.nodes (asking.ends one.by) (before.at one.by) one.turn ≡ Some (after.at one.by)
  goes_along command next is of leads =
      ap (λ (p : Progress). advance command asking.nodes (asking.ends one.by) p one.turn) (at_mover asking one.by (own_steps one.by made) command is of)
      ∙ (moved_on command asking.nodes (asking.ends one.by) (own_steps one.by made) one.turn next leads ∙ sym (ap (λ (p : Progress). Some p) there))
    where
      there : after.at one.by ≡ next
      there =
          at_mover asking one.by (own_steps one.by (made ++ one ∷ [])) command is of
          ∙ (ap (λ (line : List Turn). or_not_begun (leads_to command asking.nodes (asking.ends one.by) line)) (own_same made one) ∙ ap or_not_begun leads)

-- ---- what it keeps

abbrev Both : Asking → ℕ → List Made → Type 0
Both asking capacity made = Keeps (scene_of asking made) × AreLegal capacity (scene_of asking made)

module _ (asking : Asking) (capacity : ℕ) (made : List Made) (both : Both asking capacity made) where
  abbrev was : Scene
  was = scene_of asking made

  module _ (by : By) (place : ℕ) (act : DoorAct) where
    abbrev at_door : Made
    at_door = record { by = by; turn = AtDoor place act }

    abbrev behind_door : Scene
    behind_door = scene_of asking (made ++ at_door ∷ [])

    nodes_same : (node : ℕ) → node_steps node (made ++ at_door ∷ []) ≡ node_steps node made
    nodes_same node = node-snoc node made at_door ∙ append-nil (node_steps node made)

    pub door_step : DoorStep (record { by = by; act = act }) was behind_door
    door_step = record { door = door-snoc made at_door; node = nodes_same; others = others_stay asking capacity made at_door }

    door_kept : IsMade asking made by (AtDoor place act) → Comes asking capacity made by (AtDoor place act) → Keeps behind_door
    door_kept (ByCourse command next is of leads) comes =
        mover_steps_keep capacity command asking.nodes (asking.ends by) place (record { by = by; act = act }) was behind_door comes.0 comes.1 both.1 door_step of (goes_along asking capacity made at_door command next is of leads) both.0
    door_kept (ByCommand command is other makes_it) comes =
        bystander_steps_keep command (record { by = by; act = act }) was behind_door door_step other makes_it (at_bystander asking by (own_steps by made) command is other) (at_bystander asking by (own_steps by (made ++ at_door ∷ [])) command is other) both.0
    door_kept (ByNobody is quiet) comes =
        quiet_steps_keep (record { by = by; act = act }) was behind_door door_step (at_nobody asking by (own_steps by made) is) (at_nobody asking by (own_steps by (made ++ at_door ∷ [])) is) quiet.0 quiet.1 both.0

    door_keeps : IsMade asking made by (AtDoor place act) → Comes asking capacity made by (AtDoor place act) → Both asking capacity (made ++ at_door ∷ [])
    door_keeps how comes = (door_kept how comes, λ node. subst (LegalNode node capacity) (sym (nodes_same node)) (both.1 node))

  module _ (node : ℕ) (history : List NodeEntry) (entry : NodeEntry) where
    abbrev at_node : Made
    at_node = record { by = entry.by; turn = AtNode node history entry }

    abbrev behind_node : Scene
    behind_node = scene_of asking (made ++ at_node ∷ [])

    here_now : node_steps node (made ++ at_node ∷ []) ≡ node_steps node made ++ entry ∷ []
    here_now = node-snoc node made at_node ∙ ap (λ (b : Bool). node_steps node made ++ (if b then entry ∷ [] else [])) (eq-eqb node node refl)

    elsewhere_same : (other : ℕ) → IsFalse (eqb node other) → node_steps other (made ++ at_node ∷ []) ≡ node_steps other made
    elsewhere_same other differs = node-snoc other made at_node ∙ (ap (λ (b : Bool). node_steps other made ++ (if b then entry ∷ [] else [])) differs ∙ append-nil (node_steps other made))

    pub node_step : NodeStep node entry was behind_node
    node_step = record { door = door-snoc made at_node ∙ append-nil (door_steps made); here = here_now; elsewhere = elsewhere_same; others = others_stay asking capacity made at_node }

    module _ (comes : Comes asking capacity made entry.by (AtNode node history entry)) where
      legal_now : LegalNode node capacity (node_steps node made ++ entry ∷ [])
      legal_now = subst (λ (h : List NodeEntry). LegalNode node capacity (h ++ entry ∷ [])) comes.1 comes.3

      sight : IsTrue (has_seen node (door_steps made) entry.by (node_steps node made) entry.act entry.answer)
      sight = subst (λ (h : List NodeEntry). IsTrue (has_seen node (door_steps made) entry.by h entry.act entry.answer)) comes.1 comes.4

      legal_behind : AreLegal capacity behind_node
      legal_behind number = elim (cases_Bool (eqb node number)) [
        | inl same ↦ subst (λ (n : ℕ). LegalNode n capacity (node_steps n (made ++ at_node ∷ []))) (eqb-true node number same) (subst (LegalNode node capacity) (sym here_now) legal_now)
        | inr differs ↦ subst (LegalNode number capacity) (sym (elsewhere_same number differs)) (both.1 number)
      ]

      node_kept : IsMade asking made entry.by (AtNode node history entry) → Keeps behind_node
      node_kept (ByCourse command next is of leads) =
          mover_turns_keep node capacity command asking.nodes (asking.ends entry.by) entry was behind_node comes.2 legal_now sight node_step of
          (subst (λ (h : List NodeEntry). advance command asking.nodes (asking.ends entry.by) (was.at entry.by) (AtNode node h entry) ≡ Some (behind_node.at entry.by)) comes.1 (goes_along asking capacity made at_node command next is of leads)) comes.5 comes.6 both.0
      node_kept (ByCommand command is other makes_it) =
          bystander_turns_keep node capacity command entry was behind_node legal_now sight node_step other makes_it (at_bystander asking entry.by (own_steps entry.by made) command is other) (at_bystander asking entry.by (own_steps entry.by (made ++ at_node ∷ [])) command is other) both.0
      node_kept (ByNobody is quiet) =
          quiet_turns_keep node capacity entry was behind_node legal_now sight node_step (at_nobody asking entry.by (own_steps entry.by made) is) (at_nobody asking entry.by (own_steps entry.by (made ++ at_node ∷ [])) is) quiet.0 quiet.1 both.0

  -- any step
  pub step_keeps : (by : By) (turn : Turn) → IsMade asking made by turn → Comes asking capacity made by turn → Both asking capacity (made ++ record { by = by; turn = turn } ∷ [])
  step_keeps by (AtDoor place act) how comes = door_keeps by place act how comes
  step_keeps by (AtNode node history entry) how comes =
      subst (λ (b : By). IsMade asking made b (AtNode node history entry) → Comes asking capacity made b (AtNode node history entry) → Both asking capacity (made ++ record { by = b; turn = AtNode node history entry } ∷ [])) comes.0
      (λ h c. (node_kept node history entry c h, legal_behind node history entry c)) how comes
  step_keeps by (AtOffice history entry) how comes = absurd comes

steps_keep : (asking : Asking) (capacity : ℕ) (made more rest : List Made) → MayCome asking capacity made (more ++ rest) → Both asking capacity made → Both asking capacity (made ++ more)
steps_keep asking capacity made [] rest may both = subst (Both asking capacity) (sym (append-nil made)) both
steps_keep asking capacity made (one ∷ more) rest may both =
    subst (Both asking capacity) (append_assoc made (one ∷ []) more) (steps_keep asking capacity (made ++ one ∷ []) more rest may.2 (step_keeps asking capacity made both one.by one.turn may.0 may.1))

pub at_first : (asking : Asking) (by : By) (command : Option Command) → attempt_at (come_to asking.nodes (asking.ends by) [] command) ≡ None
at_first asking by None = refl
at_first asking by (Some command) = cases (is_of_attempt command)
  where
    cases : (b : Bool) → attempt_at (if b then or_not_begun (Some NotBegun) else NotBegun) ≡ None
    cases true = refl
    cases false = refl

pub moments_keep : (asking : Asking) (capacity : ℕ) (made rest : List Made) → MayCome asking capacity [] (made ++ rest) → Keeps (scene_of asking made) × AreLegal capacity (scene_of asking made)
moments_keep asking capacity made rest may = steps_keep asking capacity [] made rest may (begins (scene_of asking []) refl (λ node. refl) (λ by. at_first asking by (asking.command by)), λ node. refl)
