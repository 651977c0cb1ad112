-- Where a step of a run at a node stands: behind what the node has done before it, by the rules of its history.
use Rattle.std.proofs.Common.{Bool, List, [], ap, append-nil, append_assoc, arith, eqb, false, leb, length, not, refl, subst, suc, sym, take, true, ℕ, ◌&&◌, ◌++◌, ◌+◌, ◌<◌, ◌∙◌, ◌∷◌, ◌≡◌, ◌≤◌}
use Rattle.aft_lines.specs.LegalTrace.{are_legal_nodes}
use Rattle.aft_lines.specs.Steps.{Made, made_at_node, steps}
use Rattle.aft_lines.specs.Turns.{AtDoor, AtNode, AtOffice, Turn}
use Rattle.aft_model.specs.History.{each_after}
use Rattle.aft_model.specs.LegalNode.{is_legal_node}
use Rattle.aft_model.specs.Membership.{incarnation}
use Rattle.aft_model.specs.NodeSights.{has_seen, is_seen_node, may_come_at}
use Rattle.aft_model.specs.declared.door.DoorEntry.{DoorEntry}
use Rattle.aft_model.specs.declared.node.NodeEntry.{NodeEntry}
use Rattle.aft_model.specs.declared.trace.Trace.{Trace}
use Rattle.law_claims.specs.Moments.{node_entry_in, node_steps}
use Rattle.law_holders.specs.Rows.{is_of_node}
use Rattle.law_places.proofs.Fronts.{node_fronts_rise}
use Rattle.law_places.specs.Fronts.{never_fall, node_fronts}
use Rattle.law_runs.specs.Runs.{without_office}
use Rattle.law_steps.proofs.Histories.{node_is}
use Rattle.law_steps.specs.Histories.{history_in}
use Rattle.law_steps.specs.OneList.{fronts_rise, rise_to}
use Rattle.law_turns.specs.Order.{is_at_node}
use Rattle.std.proofs.lemmas.Bool.{and_from, and_parts, eq-eqb, eqb-true, ne_eqb}
use Rattle.std.proofs.lemmas.List.Elements.{filter-append}
use Rattle.std.specs.List.{list_all}
use Rattle.std.specs.Prelude.{IsTrue, filter, if◌then◌else◌}

-- ---- the history of a node among the steps

parted : (number : ℕ) (pre h : List NodeEntry) (xs : List Made) (one : Made) (ys : List Made) → xs ++ one ∷ ys ≡ made_at_node number pre h
    → (e : NodeEntry) × (more : List NodeEntry) × (one ≡ record { by = e.by; turn = AtNode number (pre ++ node_steps number xs) e }) × (h ≡ node_steps number xs ++ e ∷ more)
parted number pre [] [] one ys is = absurd (cc)
parted number pre [] (x ∷ xs) one ys is = absurd (cc)
parted number pre (entry ∷ h) [] one ys is =
    let first : one ≡ record { by = entry.by; turn = AtNode number pre entry } = cc in
    (entry, h, first ∙ ap (λ (p : List NodeEntry). record { by = entry.by; turn = AtNode number p entry }) (sym (append-nil pre)), refl)
parted number pre (entry ∷ h) (x ∷ xs) one ys is =
    let first : x ≡ record { by = entry.by; turn = AtNode number pre entry } = cc in
    let behind : xs ++ one ∷ ys ≡ made_at_node number (pre ++ entry ∷ []) h = cc in
    let here : node_entry_in number x.turn ≡ entry ∷ [] = ap (λ (m : Made). node_entry_in number m.turn) first ∙ ap (λ (b : Bool). if b then entry ∷ [] else []) (eq-eqb number number refl) in
    let rest = parted number (pre ++ entry ∷ []) h xs one ys behind in (
      rest.0,
      rest.1,
      rest.2 ∙ ap (λ (p : List NodeEntry). record { by = rest.0.by; turn = AtNode number p rest.0 }) (append_assoc pre (entry ∷ []) (node_steps number xs) ∙ ap (λ (l : List NodeEntry). pre ++ (l ++ node_steps number xs)) (sym here)),
      ap (λ (l : List NodeEntry). entry ∷ l) rest.3 ∙ ap (λ (l : List NodeEntry). (l ++ node_steps number xs) ++ rest.0 ∷ rest.1) (sym here),
    )

none_there : (number : ℕ) (turn : Turn) → is_at_node number turn ≡ false → node_entry_in number turn ≡ []
none_there number (AtDoor place act) is = refl
none_there number (AtNode node before entry) is = ap (λ (b : Bool). if b then entry ∷ [] else []) is
none_there number (AtOffice before entry) is = refl

pub filtered_steps : (number : ℕ) (xs : List Made) → node_steps number (filter (λ (m : Made). is_at_node number m.turn) xs) ≡ node_steps number xs
filtered_steps number [] = refl
filtered_steps number (x ∷ xs) = cases (filtered_steps number xs) (is_at_node number x.turn) refl
  where
    cases : node_steps number (filter (λ (m : Made). is_at_node number m.turn) xs) ≡ node_steps number xs → (b : Bool) → is_at_node number x.turn ≡ b
        → node_steps number (if b then x ∷ filter (λ (m : Made). is_at_node number m.turn) xs else filter (λ (m : Made). is_at_node number m.turn) xs) ≡ node_entry_in number x.turn ++ node_steps number xs
    cases rest true is = ap (λ (l : List NodeEntry). node_entry_in number x.turn ++ l) rest
    cases rest false is = rest ∙ ap (λ (l : List NodeEntry). l ++ node_steps number xs) (sym (none_there number x.turn is))

pub record Stood (number : ℕ) (before : List Made) (one : Made) (h : List NodeEntry) : Type 0 where
  pub entry : NodeEntry
  pub more : List NodeEntry
  pub is : one ≡ record { by = entry.by; turn = AtNode number (node_steps number before) entry }
  pub whole : h ≡ node_steps number before ++ entry ∷ more

pub stood : (trace : Trace) → IsTrue (fronts_rise trace) → (before rest : List Made) (one : Made) → steps trace ≡ before ++ one ∷ rest → (number : ℕ) → is_at_node number one.turn ≡ true → Stood number before one (history_in number 1 trace.nodes)
stood trace rise before rest one is number here =
    let all : filter (λ (m : Made). is_at_node number m.turn) before ++ one ∷ filter (λ (m : Made). is_at_node number m.turn) rest ≡ made_at_node number [] (history_in number 1 trace.nodes) =
    ap (λ (l : List Made). filter (λ (m : Made). is_at_node number m.turn) before ++ l) (sym (ap (λ (b : Bool). if b then one ∷ filter (λ (m : Made). is_at_node number m.turn) rest else filter (λ (m : Made). is_at_node number m.turn) rest) here))
    ∙ (sym (filter-append (λ (m : Made). is_at_node number m.turn) before (one ∷ rest)) ∙ (ap (filter (λ (m : Made). is_at_node number m.turn)) (sym is) ∙ node_is number trace rise)) in
    let found = parted number [] (history_in number 1 trace.nodes) (filter (λ (m : Made). is_at_node number m.turn) before) one (filter (λ (m : Made). is_at_node number m.turn) rest) all in
    record {
      entry = found.0;
      more = found.1;
      is = found.2 ∙ ap (λ (l : List NodeEntry). record { by = found.0.by; turn = AtNode number l found.0 }) (filtered_steps number before);
      whole = found.3 ∙ ap (λ (l : List NodeEntry). l ++ found.0 ∷ found.1) (filtered_steps number before);
    }

-- ---- its rules

pub nodes_rules : (number node capacity : ℕ) (door : List DoorEntry) (histories : List (List NodeEntry)) → IsTrue (are_legal_nodes node capacity door histories)
    → IsTrue (is_legal_node number capacity (history_in number node histories)) × IsTrue (is_seen_node number door (history_in number node histories))
nodes_rules number node capacity door [] is = (refl, refl)
nodes_rules number node capacity door (history ∷ histories) is =
    let parts = and_parts (is_legal_node node capacity history && is_seen_node node door history) (are_legal_nodes (suc node) capacity door histories) is in
    let both = and_parts (is_legal_node node capacity history) (is_seen_node node door history) parts.0 in
    cases both.0 both.1 (nodes_rules number (suc node) capacity door histories parts.1) (eqb number node) refl
  where
    cases : IsTrue (is_legal_node node capacity history) → IsTrue (is_seen_node node door history)
        → IsTrue (is_legal_node number capacity (history_in number (suc node) histories)) × IsTrue (is_seen_node number door (history_in number (suc node) histories)) → (b : Bool) → eqb number node ≡ b
        → IsTrue (is_legal_node number capacity (if b then history else history_in number (suc node) histories)) × IsTrue (is_seen_node number door (if b then history else history_in number (suc node) histories))
    cases legal seen rest true same = (let e = eqb-true number node same in
        (subst (λ (n : ℕ). IsTrue (is_legal_node n capacity history)) (sym e) legal, subst (λ (n : ℕ). IsTrue (is_seen_node n door history)) (sym e) seen))
    cases legal seen rest false other = rest

pub within : (number node : ℕ) (histories : List (List NodeEntry)) (xs : List NodeEntry) (e : NodeEntry) (more : List NodeEntry) → history_in number node histories ≡ xs ++ e ∷ more → (node ≤ number) × (number < node + length histories)
within number node [] xs e more is = absurd (nothing xs is)
  where
    nothing : (l : List NodeEntry) → [] ≡ l ++ e ∷ more → ⊥
    nothing [] none = cc
    nothing (x ∷ l) none = cc
within number node (history ∷ histories) xs e more is = cases (λ there. within number (suc node) histories xs e more there) (eqb number node) refl is
  where
    cases : (history_in number (suc node) histories ≡ xs ++ e ∷ more → (suc node ≤ number) × (number < suc node + length histories)) → (b : Bool) → eqb number node ≡ b → (if b then history else history_in number (suc node) histories) ≡ xs ++ e ∷ more
        → (node ≤ number) × (number < node + suc (length histories))
    cases rest true same it = (let k = eqb-true number node same in (omega arith, omega arith))
    cases rest false other it = (let more' = rest it in let a = more'.0 in let b = more'.1 in (omega arith, omega arith))

pub of_node : (number inc : ℕ) → 1 ≤ number → number ≤ 8 → IsTrue (is_of_node (incarnation number inc))
of_node number inc least most =
    and_from (not (eqb number 0)) (not (eqb number 9)) (ap not (ne_eqb number 0 (λ is. (let z = is in omega arith)))) (ap not (ne_eqb number 9 (λ is. (let z = is in omega arith))))

-- ---- its fronts

seen_to : (node : ℕ) (door : List DoorEntry) (before history : List NodeEntry) → IsTrue (each_after (may_come_at node door) before history) → IsTrue (list_all (λ n. leb n (length door)) (node_fronts history))
seen_to node door before [] is = refl
seen_to node door before (entry ∷ history) is =
    let parts = and_parts (may_come_at node door before entry) (each_after (may_come_at node door) (before ++ entry ∷ []) history) is in
    and_from (leb entry.front (length door)) (list_all (λ n. leb n (length door)) (node_fronts history))
    (and_parts (leb entry.front (length door)) (has_seen node (take entry.front door) entry.by before entry.act entry.answer) parts.0).0 (seen_to node door (before ++ entry ∷ []) history parts.1)

rise_from : (node capacity : ℕ) (door : List DoorEntry) (histories : List (List NodeEntry)) → IsTrue (are_legal_nodes node capacity door histories) → IsTrue (list_all (λ (history : List NodeEntry). rise_to (length door) (node_fronts history)) histories)
rise_from node capacity door [] is = refl
rise_from node capacity door (history ∷ histories) is =
    let parts = and_parts (is_legal_node node capacity history && is_seen_node node door history) (are_legal_nodes (suc node) capacity door histories) is in
    let both = and_parts (is_legal_node node capacity history) (is_seen_node node door history) parts.0 in
    and_from (rise_to (length door) (node_fronts history)) (list_all (λ (h : List NodeEntry). rise_to (length door) (node_fronts h)) histories)
    (and_from (never_fall (node_fronts history)) (list_all (λ n. leb n (length door)) (node_fronts history)) (node_fronts_rise node capacity history both.0) (seen_to node door [] history both.1))
    (rise_from (suc node) capacity door histories parts.1)

pub rises_without : (capacity : ℕ) (trace : Trace) → IsTrue (are_legal_nodes 1 capacity trace.door trace.nodes) → IsTrue (fronts_rise (without_office trace))
rises_without capacity trace is =
    and_from (list_all (λ (history : List NodeEntry). rise_to (length trace.door) (node_fronts history)) trace.nodes) (rise_to (length trace.door) []) (rise_from 1 capacity trace.door trace.nodes is) refl
