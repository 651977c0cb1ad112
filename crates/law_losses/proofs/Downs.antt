-- A node that serves goes on serving the same incarnation until it goes down, and where it went down it had seen the fence.
use Rattle.std.proofs.Common.{◌≡◌, ℕ, ◌≤◌, Bool, true, false, ◌&&◌, List, [], ◌∷◌, ◌++◌, refl, sym, subst, ◌∙◌, ◌⊎◌, inl, inr, arith}
use Rattle.std.specs.Prelude.{IsTrue, Option, nat_le, take}
use Rattle.std.specs.List.{list_any}
use Rattle.std.proofs.lemmas.Bool.{and_parts, eq-eqb, false≢true, leb-true}
use Rattle.std.proofs.lemmas.List.Sums.{fold-append}
use Rattle.aft_model.specs.declared.door.DoorEntry.{DoorEntry}
use Rattle.aft_model.specs.declared.node.NodeAct.{NodeAct}
use Rattle.aft_model.specs.declared.node.NodeAct.TheVariants as acts
use Rattle.aft_model.specs.declared.node.NodeEntry.{NodeEntry}
use Rattle.aft_model.specs.declared.reply.Reply.{Reply}
use Rattle.aft_model.specs.History.{each_after}
use Rattle.aft_model.specs.LegalNode.{LegalNode, front, may_be_done, may_follow_at}
use Rattle.aft_model.specs.Membership.{incarnation}
use Rattle.aft_model.specs.NodeRules.{may_begin_boot}
use Rattle.aft_model.specs.NodeSights.{has_seen, is_fenced, is_seen_node, may_come_at}
use Rattle.aft_model.specs.NodeState.{IsServing, NodeState, Service, boots, newest, newest_after, node_state, part, serves, state_after}
use Rattle.aft_model.specs.NodeRules.{is_own_end}
use Rattle.aft_model.proofs.Histories.{In, any_found, any_from, each_after_kept, in_back}
use Rattle.aft_model.proofs.Lists.{in_snoc}
use Rattle.aft_model.proofs.Services.{newest-snoc, node_state-snoc, serving}
use Rattle.law_attempts.proofs.Newest.{serving_newest}
use Rattle.law_held.proofs.Fetches.{any_more}

-- whether an act is the end of a service, and whether a history has one
abbrev pub is_down : NodeAct → Bool
is_down (acts.Down inc) = true
is_down act = false

abbrev pub went_down : List NodeEntry → Bool
went_down history = list_any (λ e. is_down e.act) history

-- a rule that each entry passes is passed by one of them, behind some history
each_at : {A : Type 0} (rule : List A → A → Bool) (before xs : List A) (x : A) → In x xs → IsTrue (each_after rule before xs) → (pre : List A) × IsTrue (rule pre x)
each_at rule before [] x none passed = absurd none
each_at rule before (y ∷ xs) x among passed =
    let parts = and_parts (rule before y) (each_after rule (before ++ y ∷ []) xs) passed in
    elim among [
      | inl is ↦ (before, subst (λ z. IsTrue (rule before z)) (sym is) parts.0)
      | inr later ↦ each_at rule (before ++ y ∷ []) xs x later parts.1
    ]

module _ (node capacity : ℕ) where
  pub done_of : (history : List NodeEntry) (entry : NodeEntry) → IsTrue (may_follow_at node capacity history entry) → IsTrue (nat_le (front history) entry.front) × IsTrue (may_be_done node capacity history entry.act entry.answer)
  done_of history entry rule = and_parts (nat_le (front history) entry.front) (may_be_done node capacity history entry.act entry.answer) (and_parts (nat_le (front history) entry.front && may_be_done node capacity history entry.act entry.answer) (is_own_end (part history) entry.by entry.act entry.answer) rule).0

  next : (h : List NodeEntry) (entry : NodeEntry) (act : NodeAct) (answer : Option Reply) (s : Service) → node_state h ≡ IsServing s → IsTrue (may_be_done node capacity h act answer) → IsTrue (is_down act) ⊎ (IsTrue (serves s.inc (state_after (IsServing s) entry act)) × (newest_after (newest h) act ≡ newest h))
  next h entry (acts.Booting inc) answer s is rule = absurd (false≢true (subst (λ (state : NodeState). IsTrue (may_begin_boot inc (newest h) state)) is (and_parts (may_begin_boot inc (newest h) (node_state h)) _ rule).0))
  next h entry (acts.Boot inc commits) answer s is rule = absurd (false≢true (subst (λ (state : NodeState). IsTrue (boots inc state)) is (and_parts (boots inc (node_state h)) _ rule).0))
  next h entry (acts.BootStopped inc) answer s is rule = absurd (false≢true (subst (λ (state : NodeState). IsTrue (boots inc state)) is (and_parts (boots inc (node_state h)) _ rule).0))
  next h entry (acts.Down inc) answer s is rule = inl refl
  next h entry act answer s is rule = inr (eq-eqb s.inc s.inc refl, refl)

  module _ (inc : ℕ) where
    pub serves_on : (h more : List NodeEntry) → LegalNode node capacity (h ++ more) → IsTrue (serves inc (node_state h)) → IsTrue (went_down (h ++ more)) ⊎ IsTrue (serves inc (node_state (h ++ more)))
    serves_on h more legal serve = each_after_kept (may_follow_at node capacity) (λ (g : List NodeEntry). IsTrue (went_down g) ⊎ IsTrue (serves inc (node_state g))) step h more legal (inr serve)
      where
        step : (g : List NodeEntry) (x : NodeEntry) → IsTrue (each_after (may_follow_at node capacity) [] g) → IsTrue (may_follow_at node capacity g x) → IsTrue (went_down g) ⊎ IsTrue (serves inc (node_state g)) → IsTrue (went_down (g ++ x ∷ [])) ⊎ IsTrue (serves inc (node_state (g ++ x ∷ [])))
        step g x sofar rule (inl down) = inl (any_more (λ (e : NodeEntry). is_down e.act) g (x ∷ []) down)
        step g x sofar rule (inr serve') =
            let at = serving inc (node_state g) serve' in
            elim (next g x x.act x.answer at.0 at.1 (done_of g x rule).1) [
              | inl down ↦ inl (any_from (λ (e : NodeEntry). is_down e.act) x (g ++ x ∷ []) (in_back x g (x ∷ []) (inl refl)) down)
              | inr on ↦
                  inr (subst (λ (state : NodeState). IsTrue (serves inc state)) (sym (node_state-snoc g x))
                  (subst (λ (state : NodeState). IsTrue (serves inc (state_after state x x.act))) (sym at.1) (subst (λ (i : ℕ). IsTrue (serves i (state_after (IsServing at.0) x x.act))) at.2 on.0)))
            ]

    -- an entry of a node that serves leaves the newest incarnation the one that it serves
    pub newest_behind : (h : List NodeEntry) (x : NodeEntry) → LegalNode node capacity h → IsTrue (may_follow_at node capacity h x) → IsTrue (serves inc (node_state h)) → newest (h ++ x ∷ []) ≡ inc
    newest_behind h x legal rule serve =
        newest-snoc h x ∙ (same x.act (done_of h x rule).1 ∙ serving_newest node capacity inc h legal serve)
      where
        same : (act : NodeAct) → IsTrue (may_be_done node capacity h act x.answer) → newest_after (newest h) act ≡ newest h
        same (acts.Booting i) its =
            let at = serving inc (node_state h) serve in
            absurd (false≢true (subst (λ (state : NodeState). IsTrue (may_begin_boot i (newest h) state)) at.1 (and_parts (may_begin_boot i (newest h) (node_state h)) _ its).0))
        same act its = refl

    -- and begins no boot
    pub never_boots : (h : List NodeEntry) (x : NodeEntry) (i : ℕ) → IsTrue (may_follow_at node capacity h x) → IsTrue (serves inc (node_state h)) → x.act ≡ acts.Booting i → ⊥
    never_boots h x i rule serve is =
        let at = serving inc (node_state h) serve in
        let its = subst (λ (act : NodeAct). IsTrue (may_be_done node capacity h act x.answer)) is (done_of h x rule).1 in
        false≢true (subst (λ (state : NodeState). IsTrue (may_begin_boot i (newest h) state)) at.1 (and_parts (may_begin_boot i (newest h) (node_state h)) _ its).0)

  -- no entry has seen more of the door than its history
  front_above : (h : List NodeEntry) → LegalNode node capacity h → (e : NodeEntry) → In e h → e.front ≤ front h
  front_above h legal = each_after_kept (may_follow_at node capacity) (λ (g : List NodeEntry). (e : NodeEntry) → In e g → e.front ≤ front g) step [] h legal (λ e none. absurd none)
    where
      step : (g : List NodeEntry) (x : NodeEntry) → IsTrue (each_after (may_follow_at node capacity) [] g) → IsTrue (may_follow_at node capacity g x) → ((e : NodeEntry) → In e g → e.front ≤ front g) → (e : NodeEntry) → In e (g ++ x ∷ []) → e.front ≤ front (g ++ x ∷ [])
      step g x sofar rule before e among =
          let last : front (g ++ x ∷ []) ≡ x.front = fold-append (λ (b : ℕ) (y : NodeEntry). y.front) 0 g (x ∷ []) in
          elim (in_snoc e g x among) [
            | inl old ↦ (let low : e.front ≤ front g = before e old in let up : front g ≤ x.front = leb-true (front g) x.front (done_of g x rule).0 in omega arith)
            | inr is ↦ (let same : e.front ≡ x.front = subst (λ (y : NodeEntry). e.front ≡ y.front) is refl in omega arith)
          ]

  pub record Fallen (door : List DoorEntry) (most : ℕ) : Type 0 where
    pub inc : ℕ
    pub front : ℕ
    pub low : front ≤ most
    pub fenced : IsTrue (is_fenced (incarnation node inc) (take front door))

  -- where it went down it had seen the fence
  pub fence_seen : (door : List DoorEntry) (h : List NodeEntry) → LegalNode node capacity h → IsTrue (is_seen_node node door h) → IsTrue (went_down h) → Fallen door (front h)
  fence_seen door h legal seen down =
      let found = any_found (λ (e : NodeEntry). is_down e.act) h down in
      let its = each_at (may_come_at node door) [] h found.0 found.1 seen in
      by_act found.0 its.0 found.0.act (front_above h legal found.0 found.1) found.2 (and_parts (nat_le found.0.front _) (has_seen node (take found.0.front door) found.0.by its.0 found.0.act found.0.answer) its.1).1
    where
      by_act : (e : NodeEntry) (pre : List NodeEntry) (act : NodeAct) → e.front ≤ front h → IsTrue (is_down act) → IsTrue (has_seen node (take e.front door) e.by pre act e.answer) → Fallen door (front h)
      by_act e pre (acts.Down inc) low is sight = record { inc = inc; front = e.front; low = low; fenced = sight }
      by_act e pre act low is sight = absurd (false≢true is)
