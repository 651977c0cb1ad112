-- A start ends no boot but the one that its first turn began.
use Rattle.std.proofs.Common.{◌≡◌, ℕ, Bool, true, false, ◌&&◌, List, [], ◌∷◌, ◌++◌, refl, subst, ◌⊎◌, inl, inr, eqb}
use Rattle.std.specs.Prelude.{IsTrue, None, Some}
use Rattle.std.proofs.lemmas.Bool.{and_from, and_parts, false≢true, or_cases}
use Rattle.aft_model.specs.declared.node.NodeAct.{NodeAct}
use Rattle.aft_model.specs.declared.node.NodeAct.TheVariants as acts
use Rattle.aft_model.specs.declared.node.NodeEntry.{NodeEntry}
use Rattle.aft_model.specs.declared.script.Command.TheVariants as commands
use Rattle.aft_model.specs.Membership.{Incarnation, incarnation}
use Rattle.aft_model.specs.NodeState.{node_state}
use Rattle.aft_lines.specs.Advance.{advance, if_so, leads_to}
use Rattle.aft_lines.specs.CourseWords.{Ends, closes}
use Rattle.aft_lines.specs.LineCourse.{ends_boot}
use Rattle.aft_lines.specs.Progress.{BootScan, BootScanned, IsOver, MustComeUp, Progress, Stopped, has_ended}
use Rattle.aft_lines.specs.Turns.{AtNode, Turn}
use Rattle.law_runs.proofs.Come.{leads_before}
use Rattle.law_held.proofs.Low.{start_first, starts_at}
use Rattle.law_driven_starts.specs.Starts.{ends_boot_of}

module _ (ends : Ends) (home : ℕ) (nodes : List ℕ) where
  -- ---- one turn

  its_end : (who : Incarnation) (whole : Bool) (at : ℕ) (entry : NodeEntry) (act : NodeAct) → IsTrue (eqb who.node at) → IsTrue (ends_boot who.inc whole act entry.answer) → IsTrue (ends_boot_of who at act)
  its_end who whole at entry (acts.Boot inc commits) same is = and_from (eqb who.node at) (eqb who.inc inc) same (and_parts whole (eqb who.inc inc) is).1
  its_end who whole at entry (acts.BootStopped inc) same is = and_from (eqb who.node at) (eqb who.inc inc) same is
  its_end who whole at entry act same is = absurd (false≢true is)

  closing : (who : Incarnation) (whole : Bool) (at : ℕ) (before : List NodeEntry) (entry : NodeEntry) (act : NodeAct) → entry.act ≡ act → IsTrue (eqb who.node at) → IsTrue (closes ends who.inc (ends_boot who.inc whole) (node_state before) entry) → IsTrue (ends_boot_of who at act)
  closing who whole at before entry act is same closed = by_act act is (or_cases (ends_boot who.inc whole entry.act entry.answer) _ closed)
    where
      by_act : (act : NodeAct) → entry.act ≡ act → (IsTrue (ends_boot who.inc whole entry.act entry.answer)) ⊎ (IsTrue (closes ends who.inc (λ a r. false) (node_state before) entry)) → IsTrue (ends_boot_of who at act)
      by_act (acts.Boot inc commits) is (inl ended) = its_end who whole at entry (acts.Boot inc commits) same (subst (λ (a : NodeAct). IsTrue (ends_boot who.inc whole a entry.answer)) is ended)
      by_act (acts.Boot inc commits) is (inr down) = absurd (false≢true (subst (λ (a : NodeAct). IsTrue (closes ends who.inc (λ b r. false) (node_state before) (record entry { act = a }))) is down))
      by_act (acts.BootStopped inc) is (inl ended) = its_end who whole at entry (acts.BootStopped inc) same (subst (λ (a : NodeAct). IsTrue (ends_boot who.inc whole a entry.answer)) is ended)
      by_act (acts.BootStopped inc) is (inr down) = absurd (false≢true (subst (λ (a : NodeAct). IsTrue (closes ends who.inc (λ b r. false) (node_state before) (record entry { act = a }))) is down))
      by_act other is how = refl

  passed : (b : Bool) (q : Progress) → if_so b IsOver ≡ Some q → IsTrue b
  passed true q is = refl
  passed false q is = absurd (let e : None ≡ Some q = is in cc)

  over : (b : Bool) (q : Progress) → if_so b IsOver ≡ Some q → IsTrue (has_ended q)
  over true q is = (let same : IsOver ≡ q = (let both : Some IsOver ≡ Some q = is in cc) in subst (λ (r : Progress). IsTrue (has_ended r)) same refl)
  over false q is = absurd (let e : None ≡ Some q = is in cc)

  -- a turn at a node, where the boot of an incarnation is to end: if it ends one it is that, and it is the last
  abbrev EndsBoot : Incarnation → ℕ → NodeEntry → Progress → Type 0
  EndsBoot who at entry q = IsTrue (ends_boot_of who at entry.act) × IsTrue (has_ended q)

  booted : (who : Incarnation) (whole : Bool) (at : ℕ) (before : List NodeEntry) (entry : NodeEntry) (q : Progress) → if_so (eqb who.node at && closes ends who.inc (ends_boot who.inc whole) (node_state before) entry) IsOver ≡ Some q → EndsBoot who at entry q
  booted who whole at before entry q is =
      let test : Bool = eqb who.node at && closes ends who.inc (ends_boot who.inc whole) (node_state before) entry in
      let tests = and_parts (eqb who.node at) (closes ends who.inc (ends_boot who.inc whole) (node_state before) entry) (passed test q is) in
      (closing who whole at before entry entry.act refl tests.0 tests.1, over test q is)

  same_who_at : (x y : Incarnation) → Some x ≡ Some y → x ≡ y
  same_who_at x y is = cc

  pub one_ends : (who : Incarnation) (p q : Progress) (at : ℕ) (before : List NodeEntry) (entry : NodeEntry) → starts_at p ≡ Some who → advance (commands.Start home) nodes ends p (AtNode at before entry) ≡ Some q → EndsBoot who at entry q
  one_ends who (MustComeUp one) q at before entry is leads = subst (λ (w : Incarnation). EndsBoot w at entry q) (same_who_at one who is) (booted one false at before entry q leads)
  one_ends who (BootScan scan) q at before entry is leads = subst (λ (w : Incarnation). EndsBoot w at entry q) (same_who_at scan.who who is) (booted scan.who false at before entry q leads)
  one_ends who (BootScanned one whole) q at before entry is leads = subst (λ (w : Incarnation). EndsBoot w at entry q) (same_who_at one who is) (booted one whole at before entry q leads)
  one_ends who p q at before entry is leads = absurd (let e : None ≡ Some who = is in cc)

  pub none_behind : (p q : Progress) (turn : Turn) → IsTrue (has_ended p) → advance (commands.Start home) nodes ends p turn ≡ Some q → ⊥
  none_behind IsOver q turn over leads = (let e : None ≡ Some q = leads in cc)
  none_behind (Stopped a) q turn over leads = (let e : None ≡ Some q = leads in cc)
  none_behind p q turn over leads = false≢true over

  -- ---- all its turns

  pub start_ends : (line : List Turn) (first : NodeEntry) (number at : ℕ) (start before : List NodeEntry) (entry : NodeEntry) (p : Progress) → leads_to (commands.Start home) nodes ends ((AtNode number start first ∷ line) ++ AtNode at before entry ∷ []) ≡ Some p
      → (inc : ℕ) × (first.act ≡ acts.Booting inc) × IsTrue (ends_boot_of (incarnation number inc) at entry.act)
  start_ends line first number at start before entry p leads =
      let was = leads_before (commands.Start home) nodes ends (AtNode number start first ∷ line) (AtNode at before entry ∷ []) p leads in
      elim (start_first ends home nodes number start first line was.0 was.1) [
        | inr over ↦ absurd (none_behind was.0 p (AtNode at before entry) over.1 was.2)
        | inl boot ↦ elim boot.3 [
          | inr over ↦ absurd (none_behind was.0 p (AtNode at before entry) over was.2)
          | inl starts ↦ (boot.0, boot.1, (one_ends (incarnation number boot.0) was.0 p at before entry starts was.2).0)
        ]
      ]
