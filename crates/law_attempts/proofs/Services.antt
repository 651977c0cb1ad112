-- What the service of a legal history keeps.
use Rattle.std.proofs.Common.{◌≡◌, ℕ, List, [], ◌∷◌, ◌++◌, sym, subst}
use Rattle.std.specs.Prelude.{IsTrue}
use Rattle.aft_records.specs.declared.stored.Commit.{Commit}
use Rattle.aft_model.specs.declared.node.NodeEntry.{NodeEntry}
use Rattle.aft_model.specs.LegalNode.{LegalNode, may_follow_at, may_serve}
use Rattle.aft_model.specs.NodeState.{IsServing, NodeState, Service, extended, newest, node_state}
use Rattle.aft_model.proofs.Histories.{each_after_kept}
use Rattle.aft_model.proofs.Services.{Begins, Boots, GoesDown, Moved, Serves, Waits, moved_by}

module _ (node capacity : ℕ) (P : Service → Type 0)
    (first : (inc : ℕ) (booted : List Commit) → P (record { inc = inc; booted = booted; part = [] }))
    (step : (s : Service) (entry : NodeEntry) → IsTrue (may_serve node capacity entry.act entry.answer s) → P s → P (extended s entry)) where
  abbrev Keeps : NodeState → Type 0
  Keeps (IsServing s) = P s
  Keeps state = Unit {0}

  moves : (n : ℕ) (before : NodeState) (entry : NodeEntry) (after : NodeState) → Moved node capacity n before entry entry.act entry.answer after → Keeps before → Keeps after
  moves n before entry after (Serves s was rule is) holds = subst Keeps (sym is) (step s entry rule (subst Keeps was holds))
  moves n before entry after (GoesDown is) holds = subst Keeps (sym is) tt
  moves n before entry after (Begins inc by rule is) holds = subst Keeps (sym is) tt
  moves n before entry after (Waits inc running still was is) holds = subst Keeps (sym is) tt
  moves n before entry after (Boots inc commits boot is) holds = subst Keeps (sym is) (first inc commits)

  keeps : (history : List NodeEntry) → LegalNode node capacity history → Keeps (node_state history)
  keeps history legal =
      each_after_kept (may_follow_at node capacity) (λ (h : List NodeEntry). Keeps (node_state h))
      (λ h entry sofar rule holds. moves (newest h) (node_state h) entry (node_state (h ++ entry ∷ [])) (moved_by node capacity h entry rule) holds) [] history legal tt

  -- what a boot begins with and each entry keeps holds of each service
  pub kept_in : (history : List NodeEntry) (s : Service) → LegalNode node capacity history → node_state history ≡ IsServing s → P s
  kept_in history s legal serve = subst Keeps serve (keeps history legal)
