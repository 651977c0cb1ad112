-- What holds of each legal history of a node that has seen what it asks.
use Rattle.std.proofs.Common.{◌≡◌, ◌≤◌, ℕ, Bool, ◌&&◌, List, [], ◌∷◌, ◌++◌, suc, refl, sym, subst, ◌∙◌, append_assoc, append-nil, length, take, leb}
use Rattle.std.specs.Prelude.{IsTrue}
use Rattle.std.specs.List.{list_all}
use Rattle.std.proofs.lemmas.Bool.{and_from, and_parts, leb-true}
use Rattle.std.proofs.lemmas.List.Sums.{fold-append}
use Rattle.aft_model.specs.declared.door.DoorEntry.{DoorEntry}
use Rattle.aft_model.specs.declared.node.NodeEntry.{NodeEntry}
use Rattle.aft_model.specs.History.{each_after}
use Rattle.aft_model.specs.LegalNode.{front, is_legal_node, may_be_done, may_follow_at}
use Rattle.aft_model.specs.NodeRules.{is_own_end}
use Rattle.aft_model.specs.NodeSights.{has_seen, is_seen_node, may_come_at}
use Rattle.aft_model.specs.NodeState.{part}
use Rattle.aft_model.proofs.Histories.{each_after_snoc, each_after_split}
use Rattle.aft_lines.specs.LegalTrace.{are_legal_nodes}
use Rattle.law_whole.proofs.Lists.{each_from}
use Rattle.law_boots.specs.Beside.{Beside}

pub front-snoc : (history : List NodeEntry) (entry : NodeEntry) → front (history ++ entry ∷ []) ≡ entry.front
front-snoc history entry = fold-append (λ (before : ℕ) (e : NodeEntry). e.front) 0 history (entry ∷ [])

module _ (node capacity : ℕ) (door : List DoorEntry) where
  pub begins : (history more : List NodeEntry) → Beside node capacity door (history ++ more) → Beside node capacity door history
  begins history more beside = record {
    legal = (each_after_split (may_follow_at node capacity) [] history more beside.legal).0;
    seen = (each_after_split (may_come_at node door) [] history more beside.seen).0;
  }

  -- what each entry keeps holds of each history
  pub kept : (P : List NodeEntry → Type 0) → P [] → ((history : List NodeEntry) (entry : NodeEntry) → Beside node capacity door (history ++ entry ∷ []) → P history → P (history ++ entry ∷ []))
      → (history : List NodeEntry) → Beside node capacity door history → P history
  kept P first step history beside = go [] history beside first
    where
      go : (before xs : List NodeEntry) → Beside node capacity door (before ++ xs) → P before → P (before ++ xs)
      go before [] its holds = subst P (sym (append-nil before)) holds
      go before (x ∷ xs) its holds =
          let longer : Beside node capacity door ((before ++ x ∷ []) ++ xs) = subst (Beside node capacity door) (sym (append_assoc before (x ∷ []) xs)) its in
          subst P (append_assoc before (x ∷ []) xs) (go (before ++ x ∷ []) xs longer (step before x (begins (before ++ x ∷ []) xs longer) holds))

  -- a test that each entry passes behind those before it
  pub each : (test : List NodeEntry → NodeEntry → Bool) → ((history : List NodeEntry) (entry : NodeEntry) → Beside node capacity door (history ++ entry ∷ []) → IsTrue (test history entry))
      → (history : List NodeEntry) → Beside node capacity door history → IsTrue (each_after test [] history)
  each test passes history beside =
      each_from test [] history (λ before x back is.
      passes before x (begins (before ++ x ∷ []) back (subst (Beside node capacity door) (is ∙ sym (append_assoc before (x ∷ []) back)) beside)))

  -- what the last entry keeps
  module _ (history : List NodeEntry) (entry : NodeEntry) (beside : Beside node capacity door (history ++ entry ∷ [])) where
    pub before : Beside node capacity door history
    before = begins history (entry ∷ []) beside

    pub rule : IsTrue (may_follow_at node capacity history entry)
    rule = (each_after_snoc (may_follow_at node capacity) [] history entry beside.legal).1

    pub up : front history ≤ entry.front
    up = leb-true (front history) entry.front
        (and_parts (leb (front history) entry.front) (may_be_done node capacity history entry.act entry.answer)
        (and_parts (leb (front history) entry.front && may_be_done node capacity history entry.act entry.answer) (is_own_end (part history) entry.by entry.act entry.answer) rule).0).0

    pub done : IsTrue (may_be_done node capacity history entry.act entry.answer)
    done =
        (and_parts (leb (front history) entry.front) (may_be_done node capacity history entry.act entry.answer)
        (and_parts (leb (front history) entry.front && may_be_done node capacity history entry.act entry.answer) (is_own_end (part history) entry.by entry.act entry.answer) rule).0).1

    may_come : IsTrue (may_come_at node door history entry)
    may_come = (each_after_snoc (may_come_at node door) [] history entry beside.seen).1

    pub within : entry.front ≤ length door
    within = leb-true entry.front (length door) (and_parts (leb entry.front (length door)) (has_seen node (take entry.front door) entry.by history entry.act entry.answer) may_come).0

    pub looked : IsTrue (has_seen node (take entry.front door) entry.by history entry.act entry.answer)
    looked = (and_parts (leb entry.front (length door)) (has_seen node (take entry.front door) entry.by history entry.act entry.answer) may_come).1

-- a test that each entry of each node's history passes
pub each_node : (capacity : ℕ) (door : List DoorEntry) (test : List NodeEntry → NodeEntry → Bool)
    → ((node : ℕ) (history : List NodeEntry) (entry : NodeEntry) → Beside node capacity door (history ++ entry ∷ []) → IsTrue (test history entry))
    → (node : ℕ) (histories : List (List NodeEntry)) → IsTrue (are_legal_nodes node capacity door histories) → IsTrue (list_all (each_after test []) histories)
each_node capacity door test passes node [] legal = refl
each_node capacity door test passes node (history ∷ histories) legal =
    let parts = and_parts (is_legal_node node capacity history && is_seen_node node door history) (are_legal_nodes (suc node) capacity door histories) legal in
    let its = and_parts (is_legal_node node capacity history) (is_seen_node node door history) parts.0 in
    and_from _ _ (each node capacity door test (passes node) history (record { legal = its.0; seen = its.1 })) (each_node capacity door test passes (suc node) histories parts.1)
