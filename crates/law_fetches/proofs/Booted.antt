-- The boot with which a service began.
use Rattle.std.proofs.Common.{◌≡◌, ℕ, Bool, true, List, [], ◌∷◌, ◌++◌, sym, ap, subst, ◌∙◌, append-nil, append_assoc}
use Rattle.aft_model.specs.declared.door.DoorEntry.{DoorEntry}
use Rattle.aft_model.specs.declared.node.NodeAct.TheVariants.{Boot}
use Rattle.aft_model.specs.declared.node.NodeEntry.{NodeEntry}
use Rattle.aft_model.specs.NodeState.{IsBooting, IsDown, IsServing, Service, extended, newest, node_state}
use Rattle.aft_model.proofs.Services.{Begins, Boots, GoesDown, Moved, Serves, Waits, moved_by, node_state-snoc}
use Rattle.law_reads.proofs.Services.{booted_as, booted_by}
use Rattle.law_boots.specs.Beside.{Beside}
use Rattle.law_boots.proofs.Nodes.{kept, rule}

-- a history whose service began with a boot
pub record Booted (history : List NodeEntry) (s : Service) : Type 0 where
  pub first : List NodeEntry
  pub boot : NodeEntry
  pub parts : history ≡ (first ++ boot ∷ []) ++ s.part
  pub boots_so : boot.act ≡ Boot s.inc s.booted

one_service : (s t : Service) → IsServing s ≡ IsServing t → s ≡ t
one_service s t is = cc

not_down : (s : Service) → IsDown ≡ IsServing s → ⊥
not_down s is = cc

not_booting : (inc : ℕ) (running : Bool) (s : Service) → IsBooting inc running ≡ IsServing s → ⊥
not_booting inc running s is = cc

module _ (node capacity : ℕ) (door : List DoorEntry) where
  next : (history : List NodeEntry) (entry : NodeEntry) → Beside node capacity door (history ++ entry ∷ []) → ((s : Service) → node_state history ≡ IsServing s → Booted history s) → (s : Service) → node_state (history ++ entry ∷ []) ≡ IsServing s → Booted (history ++ entry ∷ []) s
  next history entry beside holds s is = go (moved_by node capacity history entry (rule node capacity door history entry beside))
    where
      go : Moved node capacity (newest history) (node_state history) entry entry.act entry.answer (node_state (history ++ entry ∷ [])) → Booted (history ++ entry ∷ []) s
      go (Serves t was may now) =
          let rec = holds t was in
          subst (Booted (history ++ entry ∷ [])) (one_service (extended t entry) s (sym now ∙ is))
          (record { first = rec.first; boot = rec.boot; parts = ap (λ (l : List NodeEntry). l ++ entry ∷ []) rec.parts ∙ append_assoc (rec.first ++ rec.boot ∷ []) t.part (entry ∷ []); boots_so = rec.boots_so })
      go (GoesDown now) = absurd (not_down s (sym now ∙ is))
      go (Begins inc by begun now) = absurd (not_booting inc true s (sym now ∙ is))
      go (Waits inc running still was now) = absurd (not_booting inc still s (sym now ∙ is))
      go (Boots inc commits boot now) =
          subst (Booted (history ++ entry ∷ [])) (one_service (booted_as inc commits) s (sym now ∙ is))
          (record { first = history; boot = entry; parts = sym (append-nil (history ++ entry ∷ [])); boots_so = booted_by inc commits (node_state history) entry entry.act boot (sym (node_state-snoc history entry) ∙ now) })

  pub booted_of : (history : List NodeEntry) → Beside node capacity door history → (s : Service) → node_state history ≡ IsServing s → Booted history s
  booted_of history beside = kept node capacity door (λ (h : List NodeEntry). (s : Service) → node_state h ≡ IsServing s → Booted h s) (λ s is. absurd (not_down s is)) next history beside
