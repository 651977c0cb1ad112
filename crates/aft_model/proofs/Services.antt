-- How a node's state goes on from entry to entry: an incarnation whose service has ended never serves again.
use Rattle.std.proofs.Common.{◌≡◌, ℕ, ◌<◌, ◌≤◌, Bool, true, false, ◌&&◌, not, List, [], ◌∷◌, ◌++◌, refl, sym, ap, subst, ◌∙◌, ◌⊎◌, inl, inr, eqb, arith}
use Rattle.std.specs.Prelude.{IsTrue, Option, nat_le, suc}
use Rattle.std.proofs.lemmas.Bool.{and_parts, eqb-true, false≢true}
use Rattle.std.proofs.lemmas.List.Sums.{fold-append}
use Rattle.aft_records.specs.declared.stored.Commit.{Commit}
use Rattle.aft_model.specs.declared.node.NodeAct.{NodeAct}
use Rattle.aft_model.specs.declared.node.NodeAct.TheVariants.{Nothing, Booting, Boot, BootStopped, Down}
use Rattle.aft_model.specs.declared.node.NodeEntry.{NodeEntry}
use Rattle.aft_model.specs.declared.reply.Reply.{Reply}
use Rattle.aft_model.specs.LegalNode.{may_serve, may_be_done, may_follow_at, front, LegalNode}
use Rattle.aft_model.specs.NodeRules.{may_answer_alone, may_begin_boot}
use Rattle.aft_model.specs.NodeState.{Service, NodeState, IsDown, IsBooting, IsServing, extended, goes_on, stopped, state_after, node_state, newest_after, newest, service_in, in_service, boots, serves}
use Rattle.aft_model.proofs.Histories.{each_after_split, each_after_kept}

-- ---- one entry

-- how an act that may come moves a node from one state to the next: it serves on, it is down, a boot begins or goes on, or it serves from here on
pub data Moved (node capacity newest : ℕ) (before : NodeState) (entry : NodeEntry) (act : NodeAct) (answer : Option Reply) (after : NodeState) : Type 0 where
  Serves : (s : Service) → before ≡ IsServing s → IsTrue (may_serve node capacity act answer s) → after ≡ IsServing (extended s entry) → Moved node capacity newest before entry act answer after
  GoesDown : after ≡ IsDown → Moved node capacity newest before entry act answer after
  Begins : (inc : ℕ) → act ≡ Booting inc → IsTrue (may_begin_boot inc newest before) → after ≡ IsBooting inc true → Moved node capacity newest before entry act answer after
  Waits : (inc : ℕ) (running still : Bool) → before ≡ IsBooting inc running → after ≡ IsBooting inc still → Moved node capacity newest before entry act answer after
  Boots : (inc : ℕ) (commits : List Commit) → IsTrue (boots inc before) → after ≡ IsServing (record { inc = inc; booted = commits; part = [] })
      → Moved node capacity newest before entry act answer after

same_service : (s t : Service) → IsServing s ≡ IsServing t → s ≡ t
same_service s t is = cc

two_states : (s : Service) (inc : ℕ) (running : Bool) → IsServing s ≡ IsBooting inc running → ⊥
two_states s inc running is = cc

not_down : (s : Service) → IsServing s ≡ IsDown → ⊥
not_down s is = cc

serves_on : (node capacity newest : ℕ) (before : NodeState) (entry : NodeEntry) (act : NodeAct) (answer : Option Reply) → IsTrue (in_service (may_serve node capacity act answer) (service_in before))
    → Moved node capacity newest before entry act answer (goes_on before entry)
serves_on node capacity newest IsDown entry act answer rule = absurd (false≢true rule)
serves_on node capacity newest (IsBooting inc running) entry act answer rule = absurd (false≢true rule)
serves_on node capacity newest (IsServing s) entry act answer rule = Serves s refl rule refl

rests : (node capacity newest : ℕ) (before : NodeState) (entry : NodeEntry) (answer : Option Reply) → IsTrue (may_answer_alone answer) → Moved node capacity newest before entry Nothing answer (goes_on before entry)
rests node capacity newest IsDown entry answer rule = GoesDown refl
rests node capacity newest (IsBooting inc running) entry answer rule = Waits inc running running refl refl
rests node capacity newest (IsServing s) entry answer rule = Serves s refl rule refl

stops : (node capacity newest inc : ℕ) (before : NodeState) (entry : NodeEntry) (answer : Option Reply) → IsTrue (boots inc before) → Moved node capacity newest before entry (BootStopped inc) answer (stopped before entry)
stops node capacity newest inc IsDown entry answer rule = absurd (false≢true rule)
stops node capacity newest inc (IsBooting booting running) entry answer rule = Waits booting running false refl refl
stops node capacity newest inc (IsServing s) entry answer rule = absurd (false≢true rule)

moved : (node capacity : ℕ) (history : List NodeEntry) (entry : NodeEntry) (act : NodeAct) (answer : Option Reply) → IsTrue (may_be_done node capacity history act answer)
    → Moved node capacity (newest history) (node_state history) entry act answer (state_after (node_state history) entry act)
moved node capacity history entry Nothing answer rule = rests node capacity (newest history) (node_state history) entry answer rule
moved node capacity history entry (Booting inc) answer rule = Begins inc refl (and_parts _ _ rule).0 refl
moved node capacity history entry (Boot inc commits) answer rule = Boots inc commits (and_parts (boots inc (node_state history)) _ rule).0 refl
moved node capacity history entry (BootStopped inc) answer rule = stops node capacity (newest history) inc (node_state history) entry answer (and_parts _ _ rule).0
moved node capacity history entry (Down inc) answer rule = GoesDown refl
moved node capacity history entry act answer rule = serves_on node capacity (newest history) (node_state history) entry act answer rule

pub node_state-snoc : (history : List NodeEntry) (entry : NodeEntry) → node_state (history ++ entry ∷ []) ≡ state_after (node_state history) entry entry.act
node_state-snoc history entry = fold-append (λ (before : NodeState) (e : NodeEntry). state_after before e e.act) IsDown history (entry ∷ [])

pub newest-snoc : (history : List NodeEntry) (entry : NodeEntry) → newest (history ++ entry ∷ []) ≡ newest_after (newest history) entry.act
newest-snoc history entry = fold-append (λ (before : ℕ) (e : NodeEntry). newest_after before e.act) 0 history (entry ∷ [])

-- how an entry that may follow a history moves the node
pub moved_by : (node capacity : ℕ) (history : List NodeEntry) (entry : NodeEntry) → IsTrue (may_follow_at node capacity history entry)
    → Moved node capacity (newest history) (node_state history) entry entry.act entry.answer (node_state (history ++ entry ∷ []))
moved_by node capacity history entry rule =
    subst (λ (after : NodeState). Moved node capacity (newest history) (node_state history) entry entry.act entry.answer after) (sym (node_state-snoc history entry))
    (moved node capacity history entry entry.act entry.answer
    (and_parts (nat_le (front history) entry.front) _ (and_parts (nat_le (front history) entry.front && may_be_done node capacity history entry.act entry.answer) _ rule).0).1)

-- ---- incarnations

newest_grows : (n : ℕ) (act : NodeAct) → n ≤ newest_after n act
newest_grows n (Booting inc) = omega arith
newest_grows n act = omega arith

-- what a node serves or boots is at most the newest incarnation
abbrev Bounded : ℕ → NodeState → Type 0
Bounded newest IsDown = Unit {0}
Bounded newest (IsBooting inc running) = inc ≤ newest
Bounded newest (IsServing s) = s.inc ≤ newest

bounded_more : (n m : ℕ) (state : NodeState) → n ≤ m → Bounded n state → Bounded m state
bounded_more n m IsDown more bounded = tt
bounded_more n m (IsBooting inc running) more bounded = omega arith
bounded_more n m (IsServing s) more bounded = omega arith

boots_bounded : (n inc : ℕ) (state : NodeState) → IsTrue (boots inc state) → Bounded n state → inc ≤ n
boots_bounded n inc IsDown boot bounded = absurd (false≢true boot)
boots_bounded n inc (IsBooting booting running) boot bounded = let is = eqb-true inc booting boot in omega arith
boots_bounded n inc (IsServing s) boot bounded = absurd (false≢true boot)

bounded_after : (node capacity n : ℕ) (before : NodeState) (entry : NodeEntry) (act : NodeAct) (answer : Option Reply) (after : NodeState) → Moved node capacity n before entry act answer after
    → Bounded n before → Bounded (newest_after n act) after
bounded_after node capacity n before entry act answer after (Serves s was rule is) bounded =
    subst (Bounded (newest_after n act)) (sym is) (bounded_more n (newest_after n act) (IsServing s) (newest_grows n act) (subst (Bounded n) was bounded))
bounded_after node capacity n before entry act answer after (GoesDown is) bounded = subst (Bounded (newest_after n act)) (sym is) tt
bounded_after node capacity n before entry act answer after (Begins inc by rule is) bounded =
    let most : inc ≤ newest_after n (Booting inc) = omega arith in
    subst (Bounded (newest_after n act)) (sym is) (subst (λ (a : NodeAct). inc ≤ newest_after n a) (sym by) most)
bounded_after node capacity n before entry act answer after (Waits inc running still was is) bounded =
    subst (Bounded (newest_after n act)) (sym is) (bounded_more n (newest_after n act) (IsBooting inc running) (newest_grows n act) (subst (Bounded n) was bounded))
bounded_after node capacity n before entry act answer after (Boots inc commits boot is) bounded =
    let most : inc ≤ n = boots_bounded n inc before boot bounded in
    let more : n ≤ newest_after n act = newest_grows n act in
    let bound : inc ≤ newest_after n act = omega arith in
    subst (Bounded (newest_after n act)) (sym is) bound

-- what a node serves or boots is later than an incarnation
abbrev Later : ℕ → NodeState → Type 0
Later inc IsDown = Unit {0}
Later inc (IsBooting booting running) = inc < booting
Later inc (IsServing s) = inc < s.inc

-- an incarnation's service is over for good
abbrev Past : ℕ → ℕ → NodeState → Type 0
Past inc newest state = (inc ≤ newest) × Later inc state

begins_later : (n inc booting : ℕ) (state : NodeState) → IsTrue (may_begin_boot booting n state) → Past inc n state → inc < booting
begins_later n inc booting IsDown begin past = let is = eqb-true booting (suc n) begin in omega arith
begins_later n inc booting (IsBooting other running) begin past = let is = eqb-true booting other (and_parts (eqb booting other) (not running) begin).0 in omega arith
begins_later n inc booting (IsServing s) begin past = absurd (false≢true begin)

boots_later : (inc booting : ℕ) (state : NodeState) → IsTrue (boots booting state) → Later inc state → inc < booting
boots_later inc booting IsDown boot later = absurd (false≢true boot)
boots_later inc booting (IsBooting other running) boot later = let is = eqb-true booting other boot in omega arith
boots_later inc booting (IsServing s) boot later = absurd (false≢true boot)

past_after : (node capacity n inc : ℕ) (before : NodeState) (entry : NodeEntry) (act : NodeAct) (answer : Option Reply) (after : NodeState) → Moved node capacity n before entry act answer after
    → Past inc n before → Past inc (newest_after n act) after
past_after node capacity n inc before entry act answer after how past =
    let more : n ≤ newest_after n act = newest_grows n act in
    let least : inc ≤ n = past.0 in
    (omega arith, later how)
  where
    later : Moved node capacity n before entry act answer after → Later inc after
    later (Serves s was rule is) = subst (Later inc) (sym is) (subst (Later inc) was past.1)
    later (GoesDown is) = subst (Later inc) (sym is) tt
    later (Begins booting by rule is) = subst (Later inc) (sym is) (begins_later n inc booting before rule past)
    later (Waits booting running still was is) = subst (Later inc) (sym is) (subst (Later inc) was past.1)
    later (Boots booting commits boot is) = subst (Later inc) (sym is) (boots_later inc booting before boot past.1)

past_over : (inc n : ℕ) (state : NodeState) → Past inc n state → IsTrue (serves inc state) → ⊥
past_over inc n IsDown past serve = false≢true serve
past_over inc n (IsBooting booting running) past serve = false≢true serve
past_over inc n (IsServing s) past serve = let is = eqb-true inc s.inc serve in omega arith

-- a node that serves before an entry and after it serves on
pub served_on : (node capacity n : ℕ) (before : NodeState) (entry : NodeEntry) (act : NodeAct) (answer : Option Reply) (after : NodeState) (s t : Service) → Moved node capacity n before entry act answer after
    → before ≡ IsServing s → after ≡ IsServing t → IsTrue (may_serve node capacity act answer s) × (after ≡ IsServing (extended s entry))
served_on node capacity n before entry act answer after s t (Serves u was rule is) serve still =
    let same : u ≡ s = same_service u s (sym was ∙ serve) in
    (subst (λ (v : Service). IsTrue (may_serve node capacity act answer v)) same rule, is ∙ ap (λ (v : Service). IsServing (extended v entry)) same)
served_on node capacity n before entry act answer after s t (GoesDown is) serve still = absurd (not_down t (sym still ∙ is))
served_on node capacity n before entry act answer after s t (Begins inc by rule is) serve still = absurd (two_states t inc true (sym still ∙ is))
served_on node capacity n before entry act answer after s t (Waits inc running wait was is) serve still = absurd (two_states s inc running (sym serve ∙ was))
served_on node capacity n before entry act answer after s t (Boots inc commits boot is) serve still =
    absurd (false≢true (subst (λ (state : NodeState). IsTrue (boots inc state)) serve boot))

-- the service of a node that serves as an incarnation
pub serving : (inc : ℕ) (state : NodeState) → IsTrue (serves inc state) → (s : Service) × (state ≡ IsServing s) × (s.inc ≡ inc)
serving inc IsDown serve = absurd (false≢true serve)
serving inc (IsBooting booting running) serve = absurd (false≢true serve)
serving inc (IsServing s) serve = (s, refl, sym (eqb-true inc s.inc serve))

-- ---- one service

still_bounded : {node capacity : ℕ} (history : List NodeEntry) (entry : NodeEntry) → Moved node capacity (newest history) (node_state history) entry entry.act entry.answer (node_state (history ++ entry ∷ []))
    → Bounded (newest history) (node_state history) → Bounded (newest (history ++ entry ∷ [])) (node_state (history ++ entry ∷ []))
still_bounded {node} {capacity} history entry how bounded =
    subst (λ n. Bounded n (node_state (history ++ entry ∷ []))) (sym (newest-snoc history entry))
    (bounded_after node capacity (newest history) (node_state history) entry entry.act entry.answer (node_state (history ++ entry ∷ [])) how bounded)

bounded_all : (node capacity : ℕ) (history : List NodeEntry) → LegalNode node capacity history → Bounded (newest history) (node_state history)
bounded_all node capacity history legal =
    each_after_kept (may_follow_at node capacity) (λ (h : List NodeEntry). Bounded (newest h) (node_state h))
    (λ h entry sofar rule bounded. still_bounded h entry (moved_by node capacity h entry rule) bounded) [] history legal tt

module _ (node capacity inc : ℕ) (P : Service → Type 0)
    (step : (history : List NodeEntry) (s : Service) (entry : NodeEntry) → LegalNode node capacity history → node_state history ≡ IsServing s → IsTrue (may_serve node capacity entry.act entry.answer s) → P s → P (extended s entry)) where
  abbrev ServesWith : NodeState → Type 0
  ServesWith state = (s : Service) × (state ≡ IsServing s) × (s.inc ≡ inc) × P s

  -- the incarnation serves, with what is kept, or its service is over
  abbrev Kept : List NodeEntry → Type 0
  Kept history = Bounded (newest history) (node_state history) × (ServesWith (node_state history) ⊎ Past inc (newest history) (node_state history))

  on_with : (history : List NodeEntry) (entry : NodeEntry) (n : ℕ) (after : NodeState) → LegalNode node capacity history → Bounded (newest history) (node_state history)
      → Moved node capacity (newest history) (node_state history) entry entry.act entry.answer after → newest_after (newest history) entry.act ≡ n
      → ServesWith (node_state history) → ServesWith after ⊎ Past inc n after
  on_with history entry n after legal bounded (Serves s was rule is) new (t, serve, of, holds) =
      let same = same_service t s (sym serve ∙ was) in
      inl (extended s entry, is, ap (λ (u : Service). u.inc) (sym same) ∙ of, step history s entry legal was rule (subst P same holds))
  on_with history entry n after legal bounded (GoesDown is) new (t, serve, of, holds) =
      let most : t.inc ≤ newest history = subst (Bounded (newest history)) serve bounded in
      let more : newest history ≤ newest_after (newest history) entry.act = newest_grows (newest history) entry.act in
      inr (omega arith, subst (Later inc) (sym is) tt)
  on_with history entry n after legal bounded (Begins booting by rule is) new (t, serve, of, holds) =
      absurd (false≢true (subst (λ (state : NodeState). IsTrue (may_begin_boot booting (newest history) state)) serve rule))
  on_with history entry n after legal bounded (Waits booting running still was is) new (t, serve, of, holds) = absurd (two_states t booting running (sym serve ∙ was))
  on_with history entry n after legal bounded (Boots booting commits boot is) new (t, serve, of, holds) =
      absurd (false≢true (subst (λ (state : NodeState). IsTrue (boots booting state)) serve boot))

  kept_after : (history : List NodeEntry) (entry : NodeEntry) → LegalNode node capacity history → IsTrue (may_follow_at node capacity history entry) → Kept history → Kept (history ++ entry ∷ [])
  kept_after history entry legal rule (bounded, inl with) =
      let how = moved_by node capacity history entry rule in
      (still_bounded history entry how bounded, on_with history entry (newest (history ++ entry ∷ [])) (node_state (history ++ entry ∷ [])) legal bounded how (sym (newest-snoc history entry)) with)
  kept_after history entry legal rule (bounded, inr past) =
      let how = moved_by node capacity history entry rule in
      let gone = past_after node capacity (newest history) inc (node_state history) entry entry.act entry.answer (node_state (history ++ entry ∷ [])) how past in
      (still_bounded history entry how bounded, inr (subst (λ n. Past inc n (node_state (history ++ entry ∷ []))) (sym (newest-snoc history entry)) gone))

  -- what each entry of a service keeps stays, as long as the incarnation serves
  pub kept_within : (history more : List NodeEntry) (s : Service) → LegalNode node capacity (history ++ more) → node_state history ≡ IsServing s → s.inc ≡ inc → P s
      → IsTrue (serves inc (node_state (history ++ more))) → (t : Service) × (node_state (history ++ more) ≡ IsServing t) × P t
  kept_within history more s legal serve of holds still =
      let kept = each_after_kept (may_follow_at node capacity) Kept kept_after history more legal (bounded_all node capacity history (each_after_split (may_follow_at node capacity) [] history more legal).0, inl (s, serve, of, holds)) in
      elim kept.1 [
        | inl with ↦ (with.0, with.1, with.3)
        | inr past ↦ absurd (past_over inc (newest (history ++ more)) (node_state (history ++ more)) past still)
      ]
