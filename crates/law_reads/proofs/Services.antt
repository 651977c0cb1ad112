-- What the service of a legal history keeps, whose entries pass a test.
use Rattle.std.proofs.Common.{◌≡◌, ℕ, Bool, true, List, [], ◌∷◌, ◌++◌, sym, ap, subst, ◌∙◌}
use Rattle.std.specs.Prelude.{IsTrue}
use Rattle.std.specs.List.{list_all}
use Rattle.std.proofs.lemmas.Bool.{and_parts, false≢true}
use Rattle.aft_records.specs.declared.stored.Commit.{Commit}
use Rattle.aft_model.specs.declared.node.NodeAct.{NodeAct}
use Rattle.aft_model.specs.declared.node.NodeAct.TheVariants.{Boot, BootStopped, Booting, Down}
use Rattle.aft_model.specs.declared.node.NodeEntry.{NodeEntry}
use Rattle.aft_model.specs.LegalNode.{LegalNode, may_follow_at, may_serve}
use Rattle.aft_model.specs.NodeState.{IsBooting, IsDown, IsServing, NodeState, Service, boots, extended, goes_on, newest, node_state, state_after}
use Rattle.aft_model.proofs.Histories.{all_append, each_after_kept}
use Rattle.aft_model.proofs.Services.{Begins, Boots, GoesDown, Moved, Serves, Waits, moved_by, node_state-snoc}

-- a service that a boot begins
abbrev pub booted_as : ℕ → List Commit → Service
booted_as inc commits = record { inc = inc; booted = commits; part = [] }

-- a node that boots goes on booting, but for a boot
boots_on : (inc : ℕ) (before : NodeState) (entry : NodeEntry) (s : Service) → IsTrue (boots inc before) → goes_on before entry ≡ IsServing s → ⊥
boots_on inc IsDown entry s boot is = false≢true boot
boots_on inc (IsBooting booting running) entry s boot is = cc
boots_on inc (IsServing t) entry s boot is = false≢true boot

stops_on : (inc : ℕ) (before : NodeState) (entry : NodeEntry) (stop : ℕ) (s : Service) → IsTrue (boots inc before) → state_after before entry (BootStopped stop) ≡ IsServing s → ⊥
stops_on inc IsDown entry stop s boot is = false≢true boot
stops_on inc (IsBooting booting running) entry stop s boot is = cc
stops_on inc (IsServing t) entry stop s boot is = false≢true boot

-- whoever serves where it has booted was shown the commits
pub booted_by : (inc : ℕ) (commits : List Commit) (before : NodeState) (entry : NodeEntry) (act : NodeAct) → IsTrue (boots inc before) → state_after before entry act ≡ IsServing (booted_as inc commits) → act ≡ Boot inc commits
booted_by inc commits before entry (Booting i) boot is = absurd cc
booted_by inc commits before entry (Boot i cs) boot is =
    let same : booted_as i cs ≡ booted_as inc commits = cc in
    ap (λ (s : Service). Boot s.inc s.booted) same
booted_by inc commits before entry (BootStopped i) boot is = absurd (stops_on inc before entry i (booted_as inc commits) boot is)
booted_by inc commits before entry (Down i) boot is = absurd cc
booted_by inc commits before entry act boot is = absurd (boots_on inc before entry (booted_as inc commits) boot is)

module _ (node capacity : ℕ) (test : NodeEntry → Bool) (P : Service → Type 0)
    (first : (inc : ℕ) (commits : List Commit) (entry : NodeEntry) → entry.act ≡ Boot inc commits → IsTrue (test entry) → P (booted_as inc commits))
    (step : (s : Service) (entry : NodeEntry) → IsTrue (test entry) → IsTrue (may_serve node capacity entry.act entry.answer s) → P s → P (extended s entry)) where
  abbrev Keeps : NodeState → Type 0
  Keeps (IsServing s) = P s
  Keeps state = Unit {0}

  moves : (n : ℕ) (before : NodeState) (entry : NodeEntry) (after : NodeState) → IsTrue (test entry) → after ≡ state_after before entry entry.act → Moved node capacity n before entry entry.act entry.answer after → Keeps before → Keeps after
  moves n before entry after passed made (Serves s was rule is) holds = subst Keeps (sym is) (step s entry passed rule (subst Keeps was holds))
  moves n before entry after passed made (GoesDown is) holds = subst Keeps (sym is) tt
  moves n before entry after passed made (Begins inc by rule is) holds = subst Keeps (sym is) tt
  moves n before entry after passed made (Waits inc running still was is) holds = subst Keeps (sym is) tt
  moves n before entry after passed made (Boots inc commits boot is) holds = subst Keeps (sym is) (first inc commits entry (booted_by inc commits before entry entry.act boot (sym made ∙ is)) passed)

  abbrev KeepsWhile : List NodeEntry → Type 0
  KeepsWhile h = IsTrue (list_all test h) → Keeps (node_state h)

  more : (h : List NodeEntry) (entry : NodeEntry) → IsTrue (may_follow_at node capacity h entry) → KeepsWhile h → KeepsWhile (h ++ entry ∷ [])
  more h entry rule holds passed =
      let parts = all_append test h (entry ∷ []) passed in
      moves (newest h) (node_state h) entry (node_state (h ++ entry ∷ [])) (and_parts (test entry) true parts.1).0 (node_state-snoc h entry) (moved_by node capacity h entry rule) (holds parts.0)

  -- what a boot begins with and each entry keeps holds of each service
  pub kept_while : (history : List NodeEntry) (s : Service) → LegalNode node capacity history → IsTrue (list_all test history) → node_state history ≡ IsServing s → P s
  kept_while history s legal passed serve =
      subst Keeps serve (each_after_kept (may_follow_at node capacity) KeepsWhile (λ h entry sofar rule holds. more h entry rule holds) [] history legal (λ none. tt) passed)
