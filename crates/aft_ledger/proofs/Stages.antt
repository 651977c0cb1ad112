-- Entries that tell of boots and crashes.
use Rattle.std.proofs.Common.{◌≡◌, ℕ, ◌+◌, ◌-◌, ◌^◌, ◌≤◌, Bool, true, false, ◌||◌, not, List, [], ◌∷◌, ◌++◌, refl, sym, ap, subst, ◌∙◌, eqb, eq-eqb, length, max, arith}
use Rattle.std.specs.Prelude.{IsTrue, None, Some, suc}
use Rattle.std.proofs.lemmas.Bool.{and_parts, and_from, eqb-true, false≢true}
use Rattle.aft_records.specs.declared.stored.Commit.{Commit}
use Rattle.aft_records.specs.Commits.{first_known}
use Rattle.aft_records.specs.Kept.{Kept}
use Rattle.aft_model.specs.declared.caller.By.{By}
use Rattle.aft_model.specs.declared.node.NodeAct.TheVariants as acts
use Rattle.aft_model.specs.declared.node.NodeEntry.{NodeEntry}
use Rattle.aft_model.specs.declared.reply.Reply.{Reply}
use Rattle.aft_model.specs.declared.reply.Reply.TheVariants as replies
use Rattle.aft_model.specs.Attempts.{attempts, rows}
use Rattle.aft_model.specs.Cache.{cache}
use Rattle.aft_model.specs.Known.{unannounced}
use Rattle.aft_model.specs.NodeRules.{is_boot_refusal, may_begin_boot}
use Rattle.aft_model.specs.NodeState.{IsBooting, IsDown, IsServing, NodeState, boots, newest, node_state, part, part_in, serves, service, service_in, state_after}
use Rattle.aft_model.proofs.Services.{newest-snoc, node_state-snoc}
use Rattle.law_attempts.proofs.Newest.{booting_newest}
use Rattle.aft_ledger.specs.declared.stage.Stage.{Stage}
use Rattle.aft_ledger.specs.declared.stage.Stage.TheVariants as stages
use Rattle.aft_ledger.specs.Ledger.{Held, IsLedger, ended_by, stage_of}
use Rattle.aft_ledger.proofs.Entries.{afresh, next_entry, rests}
use Rattle.aft_txn.specs.Rows.{Table}

-- ---- what a boot finds

-- where a node boots, it does so as an incarnation
pub booting : (inc : ℕ) (state : NodeState) → IsTrue (boots inc state) → (running : Bool) × (state ≡ IsBooting inc running)
booting inc IsDown is = absurd (false≢true is)
booting inc (IsServing s) is = absurd (false≢true is)
booting inc (IsBooting other running) is = (running, ap (λ n. IsBooting n running) (sym (eqb-true inc other is)))

one_ended : (state : NodeState) → ended_by (stage_of state) ≤ 1
one_ended IsDown = omega arith
one_ended (IsBooting inc running) = omega arith
one_ended (IsServing s) = omega arith

module _ (h : Held) (l : IsLedger h) (handed : ℕ) (by : By) (space : ℕ) where
  -- where no incarnation serves, no attempts are there, and nothing is kept or to be announced
  pub unserved : service h.history ≡ None → (h.table ≡ record { begun = 0; rows = [] }) × (h.kept ≡ []) × (h.fresh ≡ [])
  unserved none =
      let of : part h.history ≡ [] = ap part_in none in
      (l.tabled ∙ ap (λ (p : List NodeEntry). let t : Table = record { begun = length (attempts p); rows = rows p } in t) of, l.keeps ∙ ap (cache h.capacity) of, l.told ∙ ap unannounced of)

  -- an incarnation begins to boot
  pub begins : (inc : ℕ) → IsTrue (may_begin_boot inc (newest h.history) (node_state h.history)) → length h.history + 1 + h.room ≤ space
      → IsLedger (record { number = h.number; capacity = h.capacity; history = h.history ++ record { front = max h.front handed; by = by; act = acts.Booting inc; answer = None } ∷ []; front = max h.front handed; room = h.room; stage = stages.Booting inc true; newest = inc; commits = h.commits; table = h.table; kept = h.kept; fresh = h.fresh; space = space })
  begins inc may fits = cases (node_state h.history) refl may
    where
      with : (state : NodeState) → node_state h.history ≡ state → service_in state ≡ None → max (newest h.history) inc ≡ inc → inc + h.room ≤ 2 ^ 31 + 1
          → IsLedger (record { number = h.number; capacity = h.capacity; history = h.history ++ next_entry h handed by (acts.Booting inc) None ∷ []; front = max h.front handed; room = h.room; stage = stages.Booting inc true; newest = inc; commits = h.commits; table = h.table; kept = h.kept; fresh = h.fresh; space = space })
      with state is none newer few =
          let e = next_entry h handed by (acts.Booting inc) None in
          let to : node_state (h.history ++ e ∷ []) ≡ IsBooting inc true = node_state-snoc h.history e in
          rests h l handed by (acts.Booting inc) None (and_from _ _ may refl) refl h.room (stages.Booting inc true) inc space
          (ap service_in to ∙ sym (ap service_in is ∙ none)) (sym (ap stage_of to)) (sym (newest-snoc h.history e ∙ newer)) fits few

      cases : (state : NodeState) → node_state h.history ≡ state → IsTrue (may_begin_boot inc (newest h.history) state)
          → IsLedger (record { number = h.number; capacity = h.capacity; history = h.history ++ next_entry h handed by (acts.Booting inc) None ∷ []; front = max h.front handed; room = h.room; stage = stages.Booting inc true; newest = inc; commits = h.commits; table = h.table; kept = h.kept; fresh = h.fresh; space = space })
      cases IsDown is rule =
          let next : inc ≡ suc (newest h.history) = eqb-true inc (suc (newest h.history)) rule in
          let before : h.newest + h.room ≤ 2 ^ 31 + 0 = subst (λ (st : Stage). h.newest + h.room ≤ 2 ^ 31 + ended_by st) (l.staged ∙ ap stage_of is) l.few in
          with IsDown is refl (omega arith) (omega (arith, next, before, l.incs))
      cases (IsBooting other running) is rule =
          let parts = and_parts (eqb inc other) (not running) rule in
          let now = booting_newest h.number h.capacity other h.history l.legal (subst (λ (st : NodeState). IsTrue (boots other st)) (sym is) (eq-eqb other other refl)) in
          let same : inc ≡ newest h.history = eqb-true inc other parts.0 ∙ sym now in
          let before : h.newest + h.room ≤ 2 ^ 31 + 1 = subst (λ (st : Stage). h.newest + h.room ≤ 2 ^ 31 + ended_by st) (l.staged ∙ ap stage_of is) l.few in
          with (IsBooting other running) is refl (omega arith) (omega (arith, same, before, l.incs))
      cases (IsServing s) is rule = absurd (false≢true rule)

  -- a boot is stopped
  pub stops : (inc : ℕ) (reply : Reply) → IsTrue (boots inc (node_state h.history)) → IsTrue (is_boot_refusal (Some reply)) → length h.history + 1 + (h.room - 1) ≤ space
      → IsLedger (record { number = h.number; capacity = h.capacity; history = h.history ++ record { front = max h.front handed; by = by; act = acts.BootStopped inc; answer = Some reply } ∷ []; front = max h.front handed; room = h.room - 1; stage = stages.Booting inc false; newest = h.newest; commits = h.commits; table = h.table; kept = h.kept; fresh = h.fresh; space = space })
  stops inc reply boot may fits =
      let e : NodeEntry = record { front = max h.front handed; by = by; act = acts.BootStopped inc; answer = Some reply } in
      let at = booting inc (node_state h.history) boot in
      let to : node_state (h.history ++ e ∷ []) ≡ IsBooting inc false = node_state-snoc h.history e ∙ ap (λ (state : NodeState). state_after state e (acts.BootStopped inc)) at.1 in
      let before : h.newest + h.room ≤ 2 ^ 31 + 1 = subst (λ (st : Stage). h.newest + h.room ≤ 2 ^ 31 + ended_by st) (l.staged ∙ ap stage_of at.1) l.few in
      rests h l handed by (acts.BootStopped inc) (Some reply) (and_from _ _ boot may) refl (h.room - 1) (stages.Booting inc false) h.newest space
      (ap service_in to ∙ sym (ap service_in at.1)) (sym (ap stage_of to)) (l.incs ∙ sym (newest-snoc h.history e)) fits (omega (arith, before))

  -- the incarnation that boots serves
  pub boots_up : (inc : ℕ) (commits : List Commit) → IsTrue (boots inc (node_state h.history)) → length h.history + 1 + (h.room - 1) ≤ space
      → IsLedger (record { number = h.number; capacity = h.capacity; history = h.history ++ record { front = max h.front handed; by = by; act = acts.Boot inc commits; answer = Some (replies.Started h.number inc) } ∷ []; front = max h.front handed; room = h.room - 1; stage = stages.Serving inc; newest = h.newest; commits = first_known commits; table = h.table; kept = h.kept; fresh = h.fresh; space = space })
  boots_up inc commits boot fits =
      let e : NodeEntry = record { front = max h.front handed; by = by; act = acts.Boot inc commits; answer = Some (replies.Started h.number inc) } in
      let at = booting inc (node_state h.history) boot in
      let none = unserved (ap service_in at.1) in
      let before : h.newest + h.room ≤ 2 ^ 31 + 1 = subst (λ (st : Stage). h.newest + h.room ≤ 2 ^ 31 + ended_by st) (l.staged ∙ ap stage_of at.1) l.few in
      let to = afresh h l handed by (acts.Boot inc commits) (Some (replies.Started h.number inc)) (and_from _ _ boot (and_from _ _ (eq-eqb h.number h.number refl) (eq-eqb inc inc refl))) refl (h.room - 1) (stages.Serving inc) h.newest space
      (IsServing (record { inc = inc; booted = commits; part = [] })) refl refl refl (l.incs ∙ sym (newest-snoc h.history e)) fits (omega (arith, before)) in
      let its : Table → List Kept → List Commit → Held = λ t k f. record { number = h.number; capacity = h.capacity; history = h.history ++ e ∷ []; front = max h.front handed; room = h.room - 1; stage = stages.Serving inc; newest = h.newest; commits = first_known commits; table = t; kept = k; fresh = f; space = space } in
      subst (λ (t : Table). IsLedger (its t h.kept h.fresh)) (sym none.0) (subst (λ (k : List Kept). IsLedger (its (record { begun = 0; rows = [] }) k h.fresh)) (sym none.1) (subst (λ (f : List Commit). IsLedger (its (record { begun = 0; rows = [] }) [] f)) (sym none.2) to))

  -- the incarnation that boots or serves is down
  pub goes_down : (inc : ℕ) → IsTrue (boots inc (node_state h.history) || serves inc (node_state h.history)) → 1 ≤ h.room → length h.history + 1 + (h.room - 1) ≤ space
      → IsLedger (record { number = h.number; capacity = h.capacity; history = h.history ++ record { front = max h.front handed; by = by; act = acts.Down inc; answer = Some (replies.Crashed h.number inc) } ∷ []; front = max h.front handed; room = h.room - 1; stage = stages.Down; newest = h.newest; commits = []; table = record { begun = 0; rows = [] }; kept = []; fresh = []; space = space })
  goes_down inc up some fits =
      let e : NodeEntry = record { front = max h.front handed; by = by; act = acts.Down inc; answer = Some (replies.Crashed h.number inc) } in
      let before : h.newest + h.room ≤ 2 ^ 31 + ended_by (stage_of (node_state h.history)) = subst (λ (st : Stage). h.newest + h.room ≤ 2 ^ 31 + ended_by st) l.staged l.few in
      afresh h l handed by (acts.Down inc) (Some (replies.Crashed h.number inc)) (and_from _ _ up (and_from _ _ (eq-eqb h.number h.number refl) (eq-eqb inc inc refl))) refl (h.room - 1) stages.Down h.newest space
      IsDown refl refl refl (l.incs ∙ sym (newest-snoc h.history e)) fits (omega (arith, before, one_ended (node_state h.history)))
