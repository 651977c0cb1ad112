-- A node never boots an incarnation again that it has served.
use Rattle.std.proofs.Common.{◌≡◌, ◌≤◌, ℕ, suc, not, List, [], ◌∷◌, ◌++◌, refl, sym, subst, eqb, arith, append-nil, append_assoc}
use Rattle.std.specs.Prelude.{IsFalse, IsTrue}
use Rattle.std.proofs.lemmas.Bool.{and_parts, eqb-true, false_from_ne_true, false≢true}
use Rattle.aft_model.specs.declared.node.NodeAct.{NodeAct}
use Rattle.aft_model.specs.declared.node.NodeAct.TheVariants.{Booting}
use Rattle.aft_model.specs.declared.node.NodeEntry.{NodeEntry}
use Rattle.aft_model.specs.LegalNode.{LegalNode, may_follow_at}
use Rattle.aft_model.specs.NodeRules.{may_begin_boot}
use Rattle.aft_model.specs.NodeState.{IsBooting, IsDown, IsServing, NodeState, boots, newest, newest_after, node_state, serves}
use Rattle.aft_model.proofs.Histories.{each_after_kept, each_after_split}
use Rattle.aft_model.proofs.Services.{Boots, Begins, GoesDown, Moved, Serves, Waits, moved_by, newest-snoc, serving}
use Rattle.law_attempts.proofs.Newest.{serving_newest}

-- ---- the newest incarnation of a longer history isn't older

pub newer : (n : ℕ) (act : NodeAct) → n ≤ newest_after n act
newer n (Booting inc) = omega arith
newer n act = omega arith

pub newest_grows : (more history : List NodeEntry) → newest history ≤ newest (history ++ more)
newest_grows [] history = subst (λ (h : List NodeEntry). newest history ≤ newest h) (sym (append-nil history)) (omega arith)
newest_grows (entry ∷ more) history =
    let one : newest history ≤ newest (history ++ entry ∷ []) = subst (λ (n : ℕ). newest history ≤ n) (sym (newest-snoc history entry)) (newer (newest history) entry.act) in
    let rest : newest (history ++ entry ∷ []) ≤ newest (history ++ entry ∷ more) = subst (λ (h : List NodeEntry). newest (history ++ entry ∷ []) ≤ newest h) (append_assoc history (entry ∷ []) more) (newest_grows more (history ++ entry ∷ [])) in
    omega arith

-- ---- a boot that begins

-- it is of another incarnation than one that was begun and isn't booting
pub begins_other : (inc n other : ℕ) (state : NodeState) → inc ≤ n → IsFalse (boots inc state) → IsTrue (may_begin_boot other n state) → IsFalse (eqb inc other)
begins_other inc n other IsDown below over begins = false_from_ne_true (eqb inc other) (λ same. absurd (past (eqb-true inc other same) (eqb-true other (suc n) begins)))
  where
    past : inc ≡ other → other ≡ suc n → ⊥
    past one two = omega arith
begins_other inc n other (IsBooting booting running) below over begins =
    subst (λ (i : ℕ). IsFalse (eqb inc i)) (sym (eqb-true other booting (and_parts (eqb other booting) (not running) begins).0)) over
begins_other inc n other (IsServing s) below over begins = absurd (false≢true begins)

-- ---- behind a service

module _ (node capacity inc : ℕ) where
  -- an incarnation that was begun, and isn't booting
  record IsBooted (history : List NodeEntry) : Type 0 where
    pub begun : inc ≤ newest history
    pub over : IsFalse (boots inc (node_state history))

  booted_more : (history : List NodeEntry) (entry : NodeEntry) → IsTrue (may_follow_at node capacity history entry) → IsBooted history → IsBooted (history ++ entry ∷ [])
  booted_more history entry rule before = record {
    begun = (let was = before.begun in let more = newest_grows (entry ∷ []) history in omega arith);
    over = by_move (node_state (history ++ entry ∷ [])) (moved_by node capacity history entry rule);
  }
    where
      by_move : (after : NodeState) → Moved node capacity (newest history) (node_state history) entry entry.act entry.answer after → IsFalse (boots inc after)
      by_move after (Serves s was may is) = subst (λ (state : NodeState). IsFalse (boots inc state)) (sym is) refl
      by_move after (GoesDown is) = subst (λ (state : NodeState). IsFalse (boots inc state)) (sym is) refl
      by_move after (Begins other does may is) = subst (λ (state : NodeState). IsFalse (boots inc state)) (sym is) (begins_other inc (newest history) other (node_state history) before.begun before.over may)
      by_move after (Waits other running still was is) = subst (λ (state : NodeState). IsFalse (boots inc state)) (sym is) (subst (λ (state : NodeState). IsFalse (boots inc state)) was before.over)
      by_move after (Boots other commits may is) = subst (λ (state : NodeState). IsFalse (boots inc state)) (sym is) refl

  pub boots_once : (history more : List NodeEntry) → LegalNode node capacity (history ++ more) → IsTrue (serves inc (node_state history)) → IsFalse (boots inc (node_state (history ++ more)))
  boots_once history more legal serve =
      (each_after_kept (may_follow_at node capacity) IsBooted (λ h entry sofar rule before. booted_more h entry rule before) history more legal first).over
    where
      first : IsBooted history
      first =
          let at = serving inc (node_state history) serve in
          let newest_is : newest history ≡ inc = serving_newest node capacity inc history (each_after_split (may_follow_at node capacity) [] history more legal).0 serve in
          record { begun = omega arith; over = subst (λ (state : NodeState). IsFalse (boots inc state)) (sym at.1) refl }
