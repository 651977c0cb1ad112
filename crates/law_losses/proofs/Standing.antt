-- Where the turns of lines at nodes stand in the nodes' histories: behind the opening's boot, and in the order of their client.
use Rattle.std.proofs.Common.{◌≡◌, ℕ, zero, suc, ◌+◌, ◌<◌, ◌≤◌, Bool, true, false, ◌&&◌, ◌||◌, not, List, [], ◌∷◌, ◌++◌, length, map, refl, sym, ap, subst, ◌∙◌, ◌⊎◌, inl, inr, eqb, arith, append_assoc}
use Rattle.std.specs.Prelude.{IsFalse, IsTrue, if◌then◌else◌, nat_le}
use Rattle.std.specs.List.{list_all, range_with_len}
use Rattle.std.proofs.lemmas.Bool.{and_parts, cases_Bool, eq-eqb, eqb-false, eqb-true, false≢true, leb-true, or_cases, true≢false}
use Rattle.aft_model.specs.declared.caller.By.{By}
use Rattle.aft_model.specs.declared.node.NodeAct.{NodeAct}
use Rattle.aft_model.specs.declared.node.NodeAct.TheVariants.{Boot}
use Rattle.aft_model.specs.declared.node.NodeEntry.{NodeEntry}
use Rattle.aft_model.specs.declared.script.Line.{Line}
use Rattle.aft_model.specs.History.{each_after}
use Rattle.aft_model.specs.LegalNode.{LegalNode, is_legal_node, may_follow_at}
use Rattle.aft_model.specs.NodeSights.{is_seen_node, may_come_at}
use Rattle.aft_model.specs.NodeState.{node_state, serves, state_after}
use Rattle.aft_model.specs.Opening.{opening}
use Rattle.aft_model.specs.ScanRun.{same_line}
use Rattle.aft_model.proofs.Histories.{In, all_at, each_after_split, in_append, in_front}
use Rattle.aft_model.proofs.Lists.{map_in}
use Rattle.aft_model.proofs.Services.{node_state-snoc}
use Rattle.aft_lines.specs.Asked.{Asked, Ran, are_settings}
use Rattle.aft_lines.specs.FinishedText.{line_of}
use Rattle.aft_lines.specs.LegalTrace.{LegalTrace, begin_behind_opening, is_after_own, is_of_lines, makers, opens_first}
use Rattle.aft_lines.specs.Lines.{lines, node_numbers}
use Rattle.aft_lines.specs.Makes.{makes}
use Rattle.aft_lines.specs.OpeningCourse.{is_boot, opening_course}
use Rattle.aft_lines.specs.Turns.{AtNode, Turn, door_turns, node_turns, nodes_turns, office_turns, turns}
use Rattle.aft_lines.specs.Views.{view_of}
use Rattle.law_steps.specs.Histories.{history_in}
use Rattle.law_claims.proofs.Scenes.{same_by}
use Rattle.law_runs.specs.Runs.{Goes}
use Rattle.law_runs.proofs.LegalRuns.{legal_goes}
use Rattle.law_runs.proofs.Members.{turns_in}
use Rattle.law_runs.proofs.Nodes.{nodes_rules, within}
use Rattle.law_held.proofs.ComesUp.{door_none, office_none}
use Rattle.law_held.proofs.Starts.{nodes_split}
use Rattle.law_damage.proofs.AtDoor.{never_opens}
use Rattle.law_losses.proofs.Downs.{serves_on, went_down}
use Rattle.law_losses.proofs.Openings.{BootIn, opening_boots}

-- ---- lists

-- an element that isn't before another and isn't that one comes behind it
behind : {A : Type 0} (pre before : List A) (m one : A) (post rest : List A) → pre ++ m ∷ post ≡ before ++ one ∷ rest → (In m before → ⊥) → ((m ≡ one) → ⊥) → (zs : List A) × (pre ≡ before ++ one ∷ zs)
behind [] [] m one post rest is earlier same = absurd (same (cc))
behind [] (b ∷ before) m one post rest is earlier same = absurd (earlier (inl (cc)))
behind (p ∷ pre) [] m one post rest is earlier same = (pre, ap (λ x. x ∷ pre) (let e : p ≡ one = cc in e))
behind (p ∷ pre) (b ∷ before) m one post rest is earlier same = (let more = behind pre before m one post rest (cc) (λ there. earlier (inr there)) same in (more.0, (let e : p ≡ b = cc in ap (λ x. x ∷ pre) e ∙ ap (λ l. b ∷ l) more.1)))

in_range : (from count n : ℕ) → from ≤ n → n < from + count → In n (range_with_len from count)
in_range from zero n least less = absurd (omega arith)
in_range from (suc count) n least less = elim (cases_Bool (eqb n from)) [
  | inl same ↦ inl (eqb-true n from same)
  | inr other ↦ inr (in_range (from + 1) count n (let ne : (n ≡ from) → ⊥ = eqb-false n from other in beyond ne) (omega arith))
]
  where
    beyond : ((n ≡ from) → ⊥) → from + 1 ≤ n
    beyond ne = omega (arith, ne)

-- the rule that the makers of a history pass, at one of them
ruled : (rule : List By → By → Bool) (before h more : List NodeEntry) (e : NodeEntry) → IsTrue (each_after rule (map (λ (x : NodeEntry). x.by) before) (map (λ (x : NodeEntry). x.by) (h ++ e ∷ more))) → IsTrue (rule (map (λ (x : NodeEntry). x.by) (before ++ h)) e.by)
ruled rule before [] more e passed = subst (λ (l : List By). IsTrue (rule l e.by)) (ap (map (λ (x : NodeEntry). x.by)) (sym (nil before))) (and_parts (rule (map (λ (x : NodeEntry). x.by) before) e.by) _ passed).0
  where
    nil : (l : List NodeEntry) → l ++ [] ≡ l
    nil [] = refl
    nil (x ∷ l) = ap (λ k. x ∷ k) (nil l)
ruled rule before (y ∷ h) more e passed =
    subst (λ (l : List NodeEntry). IsTrue (rule (map (λ (x : NodeEntry). x.by) l) e.by)) (append_assoc before (y ∷ []) h)
    (ruled rule (before ++ y ∷ []) h more e
    (subst (λ (l : List By). IsTrue (each_after rule l (map (λ (x : NodeEntry). x.by) (h ++ e ∷ more)))) (sym (mapped before)) (and_parts (rule (map (λ (x : NodeEntry). x.by) before) y.by) (each_after rule (map (λ (x : NodeEntry). x.by) before ++ y.by ∷ []) (map (λ (x : NodeEntry). x.by) (h ++ e ∷ more))) passed).1))
  where
    mapped : (l : List NodeEntry) → map (λ (x : NodeEntry). x.by) (l ++ y ∷ []) ≡ map (λ (x : NodeEntry). x.by) l ++ y.by ∷ []
    mapped [] = refl
    mapped (x ∷ l) = ap (λ k. x.by ∷ k) (mapped l)

-- ---- a turn at a node is an entry of its line

abbrev its_entry : NodeEntry → Turn → NodeEntry
its_entry other (AtNode node before entry) = entry
its_entry other turn = other

own_there : (by : By) (node : ℕ) (before h : List NodeEntry) (at : ℕ) (history : List NodeEntry) (entry : NodeEntry) → In (AtNode at history entry) (node_turns by node before h) → IsTrue (same_line by entry.by)
own_there by node before [] at history entry none = absurd none
own_there by node before (e ∷ h) at history entry among = elim (in_append (AtNode at history entry) (if same_line by e.by then AtNode node before e ∷ [] else []) (node_turns by node (before ++ e ∷ []) h) among) [
  | inl here ↦ at_here (same_line by e.by) refl here
  | inr later ↦ own_there by node (before ++ e ∷ []) h at history entry later
]
  where
    at_here : (b : Bool) → same_line by e.by ≡ b → In (AtNode at history entry) (if b then AtNode node before e ∷ [] else []) → IsTrue (same_line by entry.by)
    at_here true own (inl is) = subst (λ (x : NodeEntry). IsTrue (same_line by x.by)) (sym (ap (its_entry e) is)) own
    at_here true own (inr none) = absurd none
    at_here false own none = absurd none

owns_there : (by : By) (node : ℕ) (histories : List (List NodeEntry)) (at : ℕ) (history : List NodeEntry) (entry : NodeEntry) → In (AtNode at history entry) (nodes_turns by node histories) → IsTrue (same_line by entry.by)
owns_there by node [] at history entry none = absurd none
owns_there by node (h ∷ histories) at history entry among = elim (in_append (AtNode at history entry) (node_turns by node [] h) (nodes_turns by (suc node) histories) among) [
  | inl here ↦ own_there by node [] h at history entry here
  | inr later ↦ owns_there by (suc node) histories at history entry later
]

-- the history of a node is one of them
listed_there : (number node : ℕ) (histories : List (List NodeEntry)) (xs : List NodeEntry) (e : NodeEntry) (more : List NodeEntry) → history_in number node histories ≡ xs ++ e ∷ more → In (history_in number node histories) histories
listed_there number node [] xs e more is = absurd (nothing xs is)
  where
    nothing : (l : List NodeEntry) → [] ≡ l ++ e ∷ more → ⊥
    nothing [] none = cc
    nothing (x ∷ l) none = cc
listed_there number node (history ∷ histories) xs e more is = cases (λ there. listed_there number (suc node) histories xs e more there) (eqb number node) is
  where
    cases : (history_in number (suc node) histories ≡ xs ++ e ∷ more → In (history_in number (suc node) histories) histories) → (b : Bool) → (if b then history else history_in number (suc node) histories) ≡ xs ++ e ∷ more → In (if b then history else history_in number (suc node) histories) (history ∷ histories)
    cases rest true it = inl refl
    cases rest false it = inr (rest it)

-- ---- a legal trace

opening_parts : (a b c d e : Bool) → IsTrue (a && b && c && d && e) → IsTrue b × IsTrue c
opening_parts true true true d e is = (refl, refl)
opening_parts true true false d e is = absurd (false≢true is)
opening_parts true false c d e is = absurd (false≢true is)
opening_parts false b c d e is = absurd (false≢true is)

module _ (asked : Asked) (ran : Ran) (legal : LegalTrace asked ran) where
  abbrev capacity : ℕ
  capacity = asked.settings.cache

  abbrev goes : Goes asked ran
  goes = legal_goes asked ran legal

  opens_so : IsTrue (opening_course (node_numbers asked.settings) (turns opening ran.trace)) × IsTrue (list_all opens_first (makers ran))
  opens_so = opening_parts (list_all (list_all (is_of_lines (lines asked))) (makers ran)) (opening_course (node_numbers asked.settings) (turns opening ran.trace)) (list_all opens_first (makers ran)) (begin_behind_opening ran.trace) (list_all (list_all (λ entry. not (same_line opening entry.by))) ran.mail) legal.opening

  -- no line is the opening
  pub not_the_opening : (line : Line) → In line (lines asked) → IsTrue (same_line opening (line_of line)) → ⊥
  not_the_opening line listed is =
      never_opens (node_numbers asked.settings) line.order (turns opening ran.trace) opens_so.0
      (subst (λ (by : By). IsTrue (list_all (makes line.order) (turns by ran.trace))) (sym (same_by opening (line_of line) is)) (all_at (λ (l : Line). list_all (makes (view_of asked ran l).command) (view_of asked ran l).turns) line (lines asked) listed goes.makes))

  -- how a turn stands at its node
  pub record Stands (by : By) (at : ℕ) (history : List NodeEntry) (entry : NodeEntry) : Type 0 where
    pub own : IsTrue (same_line by entry.by)
    pub more : List NodeEntry
    pub is : history_in at 1 ran.trace.nodes ≡ history ++ entry ∷ more
    pub numbered : In at (node_numbers asked.settings)
    pub lawful : LegalNode at capacity history
    pub rule : IsTrue (may_follow_at at capacity history entry)
    pub seen : IsTrue (is_seen_node at ran.trace.door history)

  pub stands : (by : By) (at : ℕ) (history : List NodeEntry) (entry : NodeEntry) → In (AtNode at history entry) (turns by ran.trace) → Stands by at history entry
  stands by at history entry among = elim (in_append (AtNode at history entry) (nodes_turns by 1 ran.trace.nodes ++ door_turns by 0 ran.trace.door) (office_turns by [] ran.trace.office) (turns_in by ran.trace (AtNode at history entry) among)) [
    | inl first ↦ elim (in_append (AtNode at history entry) (nodes_turns by 1 ran.trace.nodes) (door_turns by 0 ran.trace.door) first) [
      | inl node ↦ there node
      | inr door ↦ absurd (door_none by 0 ran.trace.door at history entry door)
    ]
    | inr office ↦ absurd (office_none by [] ran.trace.office at history entry office)
  ]
    where
      there : In (AtNode at history entry) (nodes_turns by 1 ran.trace.nodes) → Stands by at history entry
      there node =
          let its = nodes_split by 1 ran.trace.nodes at history entry node in
          let rules = nodes_rules at 1 capacity ran.trace.door ran.trace.nodes goes.nodes in
          let bound = within at 1 ran.trace.nodes history entry its.1.0 its.1.1 in
          let follows = each_after_split (may_follow_at at capacity) [] history (entry ∷ its.1.0) (subst (λ (h : List NodeEntry). IsTrue (is_legal_node at capacity h)) its.1.1 rules.0) in
          let count = fits (are_settings asked.settings) (eqb (length ran.trace.nodes) asked.settings.nodes) _ legal.settings in
          record {
            own = owns_there by 1 ran.trace.nodes at history entry node;
            more = its.1.0;
            is = its.1.1;
            numbered = in_range 1 asked.settings.nodes at bound.0 (let same : length ran.trace.nodes ≡ asked.settings.nodes = eqb-true (length ran.trace.nodes) asked.settings.nodes count in let less : at < 1 + length ran.trace.nodes = bound.1 in omega arith);
            lawful = follows.0;
            rule = (and_parts (may_follow_at at capacity history entry) _ follows.1).0;
            seen = (each_after_split (may_come_at at ran.trace.door) [] history (entry ∷ its.1.0) (subst (λ (h : List NodeEntry). IsTrue (is_seen_node at ran.trace.door h)) its.1.1 rules.1)).0;
          }
        where
          fits : (a b c : Bool) → IsTrue (a && b && c) → IsTrue b
          fits true true c is = refl
          fits true false c is = absurd (false≢true is)
          fits false b c is = absurd (false≢true is)

  pub lawful_behind : (by : By) (at : ℕ) (history : List NodeEntry) (entry : NodeEntry) → Stands by at history entry → LegalNode at capacity (history ++ entry ∷ [])
  lawful_behind by at history entry its =
      (each_after_split (may_follow_at at capacity) [] (history ++ entry ∷ []) its.more
      (subst (λ (h : List NodeEntry). IsTrue (is_legal_node at capacity h)) (its.is ∙ sym (append_assoc history (entry ∷ []) its.more)) (nodes_rules at 1 capacity ran.trace.door ran.trace.nodes goes.nodes).0)).0

  -- the makers of a node's history keep an order that all do
  makers_keep : (rule : List By → By → Bool) → IsTrue (list_all (each_after rule []) (makers ran)) → (by : By) (at : ℕ) (history : List NodeEntry) (entry : NodeEntry) → Stands by at history entry → IsTrue (rule (map (λ (x : NodeEntry). x.by) history) entry.by)
  makers_keep rule all by at history entry its =
      ruled rule [] history its.more entry
      (subst (λ (h : List NodeEntry). IsTrue (each_after rule [] (map (λ (x : NodeEntry). x.by) h))) its.is
      (all_at (each_after rule []) (map (λ (x : NodeEntry). x.by) (history_in at 1 ran.trace.nodes)) (makers ran)
      (inr (inr (in_front (map (λ (x : NodeEntry). x.by) (history_in at 1 ran.trace.nodes)) (map (map (λ (x : NodeEntry). x.by)) ran.trace.nodes) (map (map (λ e. e.by)) ran.mail)
      (map_in (map (λ (x : NodeEntry). x.by)) (history_in at 1 ran.trace.nodes) ran.trace.nodes (listed_there at 1 ran.trace.nodes history entry its.more its.is))))) all))

  -- a turn of a line stands behind the opening's at its node
  behind_opening : (line : Line) → In line (lines asked) → (at : ℕ) (history before : List NodeEntry) (entry boot : NodeEntry) → Stands (line_of line) at history entry → Stands opening at before boot → (zs : List NodeEntry) × (history ≡ before ++ boot ∷ zs)
  behind_opening line listed at history before entry boot its booted =
      behind history before entry boot its.more booted.more (sym its.is ∙ booted.is)
      (λ earlier. no_opening (all_at (same_line opening) entry.by (map (λ (x : NodeEntry). x.by) before) (map_in (λ (x : NodeEntry). x.by) entry before earlier) first))
      (λ same. no_opening (subst (λ (x : NodeEntry). IsTrue (same_line opening x.by)) (sym same) booted.own))
    where
      no_opening : IsTrue (same_line opening entry.by) → ⊥
      no_opening is = not_the_opening line listed (subst (λ (by : By). IsTrue (same_line opening by)) (sym (same_by (line_of line) entry.by its.own)) is)

      first : IsTrue (list_all (same_line opening) (map (λ (x : NodeEntry). x.by) before))
      first = elim (or_cases (not (same_line opening boot.by)) (list_all (same_line opening) (map (λ (x : NodeEntry). x.by) before)) (makers_keep (λ earlier by. not (same_line opening by) || list_all (same_line opening) earlier) opens_so.1 opening at before boot booted)) [
        | inl none ↦ absurd (false≢true (subst (λ (b : Bool). IsTrue (not b)) booted.own none))
        | inr all ↦ all
      ]

  -- a turn of a client's line stands behind those of its earlier lines at the same node
  pub behind_earlier : (one other : Line) → one.client ≡ other.client → other.number < one.number → IsFalse (eqb one.client 0) → (at : ℕ) (history before : List NodeEntry) (entry earlier : NodeEntry) → Stands (line_of one) at history entry → Stands (line_of other) at before earlier
      → (zs : List NodeEntry) × (history ≡ before ++ earlier ∷ zs)
  behind_earlier one other client less real at history before entry earlier its theirs =
      behind history before entry earlier its.more theirs.more (sym its.is ∙ theirs.is)
      (λ there. elim (or_cases (eqb earlier.by.client 0) _ after) [
        | inl none ↦ absurd (true≢false (sym (subst (λ (n : ℕ). IsTrue (eqb n 0)) (sym (client ∙ ap (λ (b : By). b.client) its_other)) none) ∙ real))
        | inr all ↦ elim (or_cases (not (eqb entry.by.client earlier.by.client)) (nat_le entry.by.line earlier.by.line) (all_at (λ (o : By). not (eqb o.client earlier.by.client) || nat_le o.line earlier.by.line) entry.by (map (λ (x : NodeEntry). x.by) before) (map_in (λ (x : NodeEntry). x.by) entry before there) all)) [
          | inl differs ↦ absurd (false≢true (subst (λ (b : Bool). IsTrue (not b)) same_client differs))
          | inr least ↦ (let low : entry.by.line ≤ earlier.by.line = leb-true entry.by.line earlier.by.line least in let a : one.number ≡ entry.by.line = ap (λ (b : By). b.line) its_one in let b : other.number ≡ earlier.by.line = ap (λ (x : By). x.line) its_other in omega arith)
        ]
      ])
      (λ same. (let a : one.number ≡ entry.by.line = ap (λ (b : By). b.line) its_one in let b : other.number ≡ earlier.by.line = ap (λ (x : By). x.line) its_other in let c : entry.by.line ≡ earlier.by.line = ap (λ (x : NodeEntry). x.by.line) same in omega arith))
    where
      its_one : line_of one ≡ entry.by
      its_one = same_by (line_of one) entry.by its.own

      its_other : line_of other ≡ earlier.by
      its_other = same_by (line_of other) earlier.by theirs.own

      same_client : eqb entry.by.client earlier.by.client ≡ true
      same_client = eq-eqb entry.by.client earlier.by.client (sym (ap (λ (b : By). b.client) its_one) ∙ (client ∙ ap (λ (b : By). b.client) its_other))

      after : IsTrue (is_after_own (map (λ (x : NodeEntry). x.by) before) earlier.by)
      after = makers_keep is_after_own legal.clients (line_of other) at before earlier theirs

  -- the incarnation that the opening booted; a line's turn finds it served, or its node had gone down
  module _ (at : ℕ) (numbered : In at (node_numbers asked.settings)) where
    boot : BootIn at (turns opening ran.trace)
    boot = opening_boots at (node_numbers asked.settings) (turns opening ran.trace) opens_so.0 numbered

    pub booted : ℕ
    booted = boot.inc

    pub served : (line : Line) → In line (lines asked) → (history : List NodeEntry) (entry : NodeEntry) → Stands (line_of line) at history entry → IsTrue (went_down history) ⊎ IsTrue (serves booted (node_state history))
    unfolding booted
    served line listed history entry its =
        let behind_it = behind_opening line listed at history boot.before entry boot.entry its (stands opening at boot.before boot.entry boot.among) in
        let parts : history ≡ (boot.before ++ boot.entry ∷ []) ++ behind_it.0 = behind_it.1 ∙ sym (append_assoc boot.before (boot.entry ∷ []) behind_it.0) in
        subst (λ (h : List NodeEntry). IsTrue (went_down h) ⊎ IsTrue (serves boot.inc (node_state h))) (sym parts)
        (serves_on at capacity boot.inc (boot.before ++ boot.entry ∷ []) behind_it.0 (subst (LegalNode at capacity) parts its.lawful)
        (subst (λ state. IsTrue (serves boot.inc state)) (sym (node_state-snoc boot.before boot.entry)) (by_act boot.entry.act boot.serves)))
      where
        by_act : (act : NodeAct) → IsTrue (is_boot boot.inc act) → IsTrue (serves boot.inc (state_after (node_state boot.before) boot.entry act))
        by_act (Boot inc commits) is = is
        by_act act is = absurd (false≢true is)
