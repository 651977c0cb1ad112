-- One entry more at a node keeps what each moment keeps.
use Rattle.std.proofs.Common.{◌≡◌, ℕ, Bool, false, ◌&&◌, not, List, [], ◌∷◌, ◌++◌, length, ◌<◌, refl, sym, ap, subst, ◌∙◌, ◌⊎◌, inl, inr, eqb, arith}
use Rattle.std.specs.Prelude.{IsTrue, IsFalse, Some, None, if◌then◌else◌, nat_le}
use Rattle.std.proofs.lemmas.Bool.{and_parts, cases_Bool, eqb-true, eq-eqb, false≢true, false_from_ne_true, or_cases, true≢false}
use Rattle.aft_records.specs.declared.stored.Commit.{Commit}
use Rattle.aft_model.specs.declared.caller.Attempt.{Attempt}
use Rattle.aft_model.specs.declared.caller.By.{By}
use Rattle.aft_model.specs.declared.door.DoorEntry.{DoorEntry}
use Rattle.aft_model.specs.declared.node.NodeAct.{NodeAct}
use Rattle.aft_model.specs.declared.node.NodeAct.TheVariants as acts
use Rattle.aft_model.specs.declared.node.NodeEntry.{NodeEntry}
use Rattle.aft_model.specs.declared.script.Command.{Command}
use Rattle.aft_model.specs.Attempts.{AttemptState, IsGone, IsInDoubt, IsRunning, admitted_by, attempt_after, attempt_state, attempts, is_gone, is_of, present, present_of, same_attempt, uuid_after, uuid_of}
use Rattle.aft_model.specs.LegalNode.{LegalNode, front, may_be_done, may_follow_at, may_serve}
use Rattle.aft_model.specs.Membership.{Incarnation, incarnation}
use Rattle.aft_model.specs.NodeRules.{may_admit}
use Rattle.aft_model.specs.NodeSights.{has_seen, is_fenced}
use Rattle.aft_model.specs.NodeState.{IsServing, NodeState, Service, extended, node_state, part, serves, state_after}
use Rattle.aft_model.specs.ScanRun.{same_line}
use Rattle.aft_model.specs.Stages.{Stage, put_under_claim, stage}
use Rattle.aft_model.proofs.Histories.{In, each_after_snoc}
use Rattle.aft_model.proofs.Incarnations.{part-at}
use Rattle.aft_model.proofs.Lists.{filter_in}
use Rattle.aft_model.proofs.Pins.{attempt_state-snoc, has_some, same_attempts}
use Rattle.aft_model.proofs.Services.{node_state-snoc}
use Rattle.aft_lines.specs.Advance.{advance}
use Rattle.aft_lines.specs.CourseWords.{Ends, caller_of}
use Rattle.aft_lines.specs.Makes.{makes_at_node}
use Rattle.aft_lines.specs.Progress.{IsOver, NotBegun, Progress, Stopped}
use Rattle.aft_lines.specs.Turns.{AtNode}
use Rattle.law_attempts.specs.Acts.{acts_on}
use Rattle.law_attempts.proofs.Acts.{state_left, uuid-snoc, uuid_left}
use Rattle.law_attempts.proofs.Lives.{Lives, lives}
use Rattle.law_attempts.proofs.Newest.{acts_of_own}
use Rattle.law_attempts.proofs.Standing.{not_again, same_itself, uuid_kept}
use Rattle.law_holders.specs.Rows.{is_of_attempt, is_of_node}
use Rattle.law_claims.specs.Doing.{attempt_at, is_doing, is_left_so, is_the, keeps_row, moves, rests}
use Rattle.law_claims.specs.Scenes.{HasOne, IsAtRest, IsFenced, IsFree, IsMoved, IsShut, Keeps, Lies, NodeStep, Scene, Stands, doing, doing_in, named, named_in, puts_of, stage_of}
use Rattle.law_claims.proofs.Movers.{begun_before}
use Rattle.law_claims.proofs.NodeActs.{AsksOld, First, Leaves, TakesNew, TakesNone, TakesOld, bystander_leaves, first_takes, in_its_service, is_old, later_else, off_leaves, stays_at}
use Rattle.law_claims.proofs.Parting.{attempts_part}
use Rattle.law_claims.proofs.Scenes.{doing_there, in_service_of, is_itself, moves_it, none_doubts, none_runs, same_by}
use Rattle.law_claims.proofs.Taking.{attempts_go_along, gone_is}

-- whoever is moved doesn't rest
moved_new : (position : Progress) (state : AttemptState) → IsTrue (is_doing position state) → IsTrue (is_old state) → ⊥
moved_new position IsRunning so old = true≢false (sym so ∙ none_runs position)
moved_new position (IsInDoubt c) so old = true≢false (sym so ∙ none_doubts position c)
moved_new position state so old = false≢true old

old_there : (state : AttemptState) → IsTrue (is_old state) → IsFalse (is_gone state)
old_there IsRunning old = refl
old_there (IsInDoubt c) old = refl
old_there state old = absurd (false≢true old)

gone_so : (state : AttemptState) → IsTrue (is_gone state) → state ≡ IsGone
gone_so IsGone so = refl
gone_so state so = absurd (false≢true so)

module _ (node capacity : ℕ) (entry : NodeEntry) (before after : Scene) (step : NodeStep node entry before after) (legal : LegalNode node capacity (before.node node ++ entry ∷ []))
    (sight : IsTrue (has_seen node before.door entry.by (before.node node) entry.act entry.answer)) (keeps : Keeps before) where
  abbrev history : List NodeEntry
  history = before.node node

  split : LegalNode node capacity history × IsTrue (may_follow_at node capacity history entry)
  split = each_after_snoc (may_follow_at node capacity) [] history entry legal

  rule : IsTrue (may_be_done node capacity history entry.act entry.answer)
  rule = (and_parts (nat_le (front history) entry.front) _ (and_parts (nat_le (front history) entry.front && may_be_done node capacity history entry.act entry.answer) _ split.1).0).1

  state_now : node_state (after.node node) ≡ state_after (node_state history) entry entry.act
  state_now = ap node_state step.here ∙ node_state-snoc history entry

  still_fenced : (who : Incarnation) → IsTrue (is_fenced who before.door) → IsTrue (is_fenced who after.door)
  still_fenced who is = subst (λ (h : List DoorEntry). IsTrue (is_fenced who h)) (sym step.door) is

  -- ---- attempts that the entry leaves

  -- it does as before, and has its UUID as before if it is there; or its incarnation was fenced
  abbrev Stays : Attempt → Type 0
  Stays a = IsTrue (is_fenced (caller_of a) before.door) ⊎ ((doing after a ≡ doing before a) × (IsFalse (is_gone (doing before a)) → named after a ≡ named before a))

  stays : (a : Attempt) → Leaves a entry.act → Stays a
  stays a leaves_it = elim (cases_Bool (eqb node a.node)) [
    | inr other ↦ inr (ap (λ (h : List NodeEntry). doing_in a (node_state h)) (step.elsewhere a.node other), λ there. ap (λ (h : List NodeEntry). named_in a (node_state h)) (step.elsewhere a.node other))
    | inl same ↦
        let at : a.node ≡ node = sym (eqb-true node a.node same) in
        let was : node_state (before.node a.node) ≡ node_state history = ap (λ (n : ℕ). node_state (before.node n)) at in
        let now : node_state (after.node a.node) ≡ state_after (node_state history) entry entry.act = ap (λ (n : ℕ). node_state (after.node n)) at ∙ state_now in
        subst (λ (s : NodeState). IsTrue (is_fenced (caller_of a) before.door) ⊎ ((doing_in a s ≡ doing before a) × (IsFalse (is_gone (doing before a)) → named_in a s ≡ named before a))) (sym now)
        (subst (λ (s : NodeState). IsTrue (is_fenced (caller_of a) before.door) ⊎ ((doing_in a (state_after (node_state history) entry entry.act) ≡ doing_in a s) × (IsFalse (is_gone (doing_in a s)) → named_in a (state_after (node_state history) entry entry.act) ≡ named_in a s))) (sym was)
        (stays_at node capacity history entry before.door a at entry.act entry.answer refl leaves_it rule sight))
  ]

  stage_same : (a : Attempt) → named after a ≡ named before a → stage_of after a ≡ stage_of before a
  stage_same a same = ap (λ (u : List ℕ). stage (caller_of a) u after.door) same ∙ ap (stage (caller_of a) (named before a)) step.door

  puts_same : (a : Attempt) → named after a ≡ named before a → puts_of after a ≡ puts_of before a
  puts_same a same = ap (λ (u : List ℕ). put_under_claim (caller_of a) u after.door) same ∙ ap (put_under_claim (caller_of a) (named before a)) step.door

  row_still : (position : Progress) (a : Attempt) → named after a ≡ named before a → IsTrue (keeps_row position (stage_of before a) (puts_of before a)) → IsTrue (keeps_row position (stage_of after a) (puts_of after a))
  row_still position a same so = subst (λ (s : Stage). IsTrue (keeps_row position s (puts_of after a))) (sym (stage_same a same)) (subst (λ (p : List Commit). IsTrue (keeps_row position (stage_of before a) p)) (sym (puts_same a same)) so)

  rests_still : (a : Attempt) (state : AttemptState) → named after a ≡ named before a → IsTrue (rests state (stage_of before a) (puts_of before a)) → IsTrue (rests state (stage_of after a) (puts_of after a))
  rests_still a state same so = subst (λ (s : Stage). IsTrue (rests state s (puts_of after a))) (sym (stage_same a same)) (subst (λ (p : List Commit). IsTrue (rests state (stage_of before a) p)) (sym (puts_same a same)) so)

  none_moves : (a : Attempt) → IsFalse (is_the a (attempt_at (after.at entry.by))) → (other : By) → (IsFalse (same_line entry.by other) → IsFalse (is_the a (attempt_at (before.at other)))) → IsFalse (is_the a (attempt_at (after.at other)))
  none_moves a unmoved other was = elim (cases_Bool (same_line entry.by other)) [
    | inl is ↦ subst (λ (b : By). IsFalse (is_the a (attempt_at (after.at b)))) (same_by entry.by other is) unmoved
    | inr differs ↦ subst (λ (p : Progress). IsFalse (is_the a (attempt_at p))) (sym (step.others other differs)) (was differs)
  ]

  kept_stands : (a : Attempt) → Stands before a → IsFalse (is_the a (attempt_at (after.at entry.by))) → IsFalse (is_the a (attempt_at (before.at entry.by))) → doing after a ≡ doing before a → (IsFalse (is_gone (doing before a)) → named after a ≡ named before a) → Stands after a
  kept_stands a (IsShut gone) unmoved was same_doing same_named = IsShut (still_fenced (caller_of a) gone)
  kept_stands a (IsAtRest none rest) unmoved was same_doing same_named =
      IsAtRest (λ other. none_moves a unmoved other (λ differs. none other))
      (λ there. let was_there = subst (λ (s : AttemptState). IsFalse (is_gone s)) same_doing there in
      subst (λ (s : AttemptState). IsTrue (rests s (stage_of after a) (puts_of after a))) (sym same_doing) (rests_still a (doing before a) (same_named was_there) (rest was_there)))
  kept_stands a (IsMoved by moved row only) unmoved was same_doing same_named =
      let its = moves_it (before.at by) a (doing before a) (named before a) moved in
      let differs : IsFalse (same_line entry.by by) = false_from_ne_true (same_line entry.by by) (λ is. true≢false (sym its.0 ∙ subst (λ (b : By). IsFalse (is_the a (attempt_at (before.at b)))) (same_by entry.by by is) was)) in
      let at = step.others by differs in
      let same = same_named (doing_there (before.at by) (doing before a) its.1) in
      IsMoved by
      (subst (λ (p : Progress). IsTrue (moves p a (doing after a) (named after a))) (sym at)
      (subst (λ (s : AttemptState). IsTrue (moves (before.at by) a s (named after a))) (sym same_doing) (subst (λ (u : List ℕ). IsTrue (moves (before.at by) a (doing before a) u)) (sym same) moved)))
      (subst (λ (p : Progress). IsTrue (keeps_row p (stage_of after a) (puts_of after a))) (sym at) (row_still (before.at by) a same row))
      (λ other apart. none_moves a unmoved other (λ d. only other apart))

  other_stands : (a : Attempt) → Stands before a → IsFalse (is_the a (attempt_at (after.at entry.by))) → IsFalse (is_the a (attempt_at (before.at entry.by))) → Stays a → Stands after a
  other_stands a was unmoved before_it (inl gone) = IsShut (still_fenced (caller_of a) gone)
  other_stands a was unmoved before_it (inr same) = kept_stands a was unmoved before_it same.0 same.1

  one_lies : (a : Attempt) → IsFalse (is_gone (doing before a)) → Stays a → Lies after (caller_of a) (named before a)
  one_lies a there (inl gone) = IsFenced (still_fenced (caller_of a) gone)
  one_lies a there (inr same) = HasOne a refl (subst (λ (s : AttemptState). IsFalse (is_gone s)) (sym same.0) there) (same.1 there)

  other_lies : (who : Incarnation) (uuid : List ℕ) → Lies before who uuid → ((a : Attempt) → IsFalse (is_gone (doing before a)) → caller_of a ≡ who → named before a ≡ uuid → Lies after (caller_of a) (named before a)) → Lies after who uuid
  other_lies who uuid (IsFenced gone) one = IsFenced (still_fenced who gone)
  other_lies who uuid (HasOne a its there is) one = subst (λ (w : Incarnation). Lies after w uuid) its (subst (Lies after (caller_of a)) is (one a there its is))
  other_lies who uuid (IsFree free) one = IsFree (subst (λ (h : List DoorEntry). IsTrue (rests IsGone (stage who uuid h) (put_under_claim who uuid h))) (sym step.door) free)

  -- ---- a turn of no attempt

  pub nobody_keeps : attempt_at (before.at entry.by) ≡ None → attempt_at (after.at entry.by) ≡ None → ((a : Attempt) → Leaves a entry.act) → Keeps after
  nobody_keeps was now leaves_all = record {
    movers = λ by a is. elim (cases_Bool (same_line entry.by by)) [
      | inl its ↦ absurd (let none : None ≡ Some a = sym now ∙ (ap (λ (b : By). attempt_at (after.at b)) (same_by entry.by by its) ∙ is) in cc)
      | inr differs ↦ keeps.movers by a (ap attempt_at (sym (step.others by differs)) ∙ is)
    ];
    attempts = λ a of. other_stands a (keeps.attempts a of) (ap (is_the a) now) (ap (is_the a) was) (stays a (leaves_all a));
    uuids = λ who uuid of. other_lies who uuid (keeps.uuids who uuid of) (λ a there its is. one_lies a there (stays a (leaves_all a)));
  }

  -- ---- a turn of one attempt

  -- the others stand and lie as before
  module _ (b : Attempt) (was : (a : Attempt) → same_attempt a b ≡ false → IsFalse (is_the a (attempt_at (before.at entry.by)))) (apart : (a : Attempt) → same_attempt a b ≡ false → IsFalse (acts_on a entry.act) × IsFalse (is_the a (attempt_at (after.at entry.by))))
      (b_of_node : IsTrue (is_of_node (caller_of b))) (b_stands : Stands after b) (b_lies : IsFalse (is_gone (doing before b)) → Lies after (caller_of b) (named before b)) where
    one_keeps : Keeps after
    one_keeps = record {
      movers = λ by a is. elim (cases_Bool (same_line entry.by by)) [
        | inl its ↦
            let now : attempt_at (after.at entry.by) ≡ Some a = ap (λ (x : By). attempt_at (after.at x)) (same_by entry.by by its) ∙ is in
            elim (cases_Bool (same_attempt a b)) [
              | inl same ↦ subst (λ (x : Attempt). IsTrue (is_of_node (caller_of x))) (sym (same_attempts a b same)) b_of_node
              | inr differs ↦ absurd (true≢false (sym (is_itself a (attempt_at (after.at entry.by)) now) ∙ (apart a differs).1))
            ]
        | inr differs ↦ keeps.movers by a (ap attempt_at (sym (step.others by differs)) ∙ is)
      ];
      attempts = λ a of. elim (cases_Bool (same_attempt a b)) [
        | inl same ↦ subst (Stands after) (sym (same_attempts a b same)) b_stands
        | inr differs ↦ other_stands a (keeps.attempts a of) (apart a differs).1 (was a differs) (stays a (off_leaves a entry.act (apart a differs).0))
      ];
      uuids = λ who uuid of. other_lies who uuid (keeps.uuids who uuid of) (λ a there its is. elim (cases_Bool (same_attempt a b)) [
        | inl same ↦ (let e = same_attempts a b same in subst (λ (x : Attempt). Lies after (caller_of x) (named before x)) (sym e) (b_lies (subst (λ (x : Attempt). IsFalse (is_gone (doing before x))) e there)))
        | inr differs ↦ one_lies a there (stays a (off_leaves a entry.act (apart a differs).0))
      ]);
    }

  -- an act of an attempt comes in its service
  record Serving (b : Attempt) : Type 0 where
    pub s : Service
    pub at : b.node ≡ node
    pub inc : b.inc ≡ s.inc
    pub state : node_state history ≡ IsServing s
    pub rule_there : IsTrue (may_serve node capacity entry.act entry.answer s)
    pub state_behind : node_state (after.node node) ≡ IsServing (extended s entry)
    pub did : doing before b ≡ attempt_state b s.part
    pub was_named : named before b ≡ uuid_of b s.part
    pub does : doing after b ≡ attempt_after b (attempt_state b s.part) entry.act
    pub is_named : named after b ≡ uuid_after b (uuid_of b s.part) entry.act

  serving_of : (b : Attempt) → IsTrue (acts_on b entry.act) → Serving b
  serving_of b on =
      let own = acts_of_own node capacity b history entry legal on in
      let in_it = in_its_service node capacity history entry b entry.act entry.answer on rule in
      let inc : b.inc ≡ in_it.0.inc = eqb-true b.inc in_it.0.inc (subst (λ (t : NodeState). IsTrue (serves b.inc t)) in_it.1 own.1) in
      let behind : node_state (after.node node) ≡ IsServing (extended in_it.0 entry) = state_now ∙ (ap (λ (t : NodeState). state_after t entry entry.act) in_it.1 ∙ in_it.3 in_it.0) in
      let was = in_service_of b in_it.0 inc in
      let now = in_service_of b (extended in_it.0 entry) inc in
      let before_state : node_state (before.node b.node) ≡ IsServing in_it.0 = ap (λ (n : ℕ). node_state (before.node n)) own.0 ∙ in_it.1 in
      let after_state : node_state (after.node b.node) ≡ IsServing (extended in_it.0 entry) = ap (λ (n : ℕ). node_state (after.node n)) own.0 ∙ behind in record {
        s = in_it.0;
        at = own.0;
        inc = inc;
        state = in_it.1;
        rule_there = in_it.2;
        state_behind = behind;
        did = ap (doing_in b) before_state ∙ was.0;
        was_named = ap (named_in b) before_state ∙ was.1;
        does = ap (doing_in b) after_state ∙ (now.0 ∙ attempt_state-snoc b in_it.0.part entry);
        is_named = ap (named_in b) after_state ∙ (now.1 ∙ uuid-snoc b in_it.0.part entry);
      }

  lives_of : (b : Attempt) (v : Serving b) → Lives node v.s
  lives_of b v = lives node capacity history v.s split.0 v.state

  module _ (command : Command) (numbers : List ℕ) (ends : Ends) (of : IsTrue (is_of_attempt command)) (goes : advance command numbers ends (before.at entry.by) (AtNode node history entry) ≡ Some (after.at entry.by))
      (shut_out : (who : Incarnation) → IsTrue (ends.is_shut_out who entry.front) → IsTrue (is_fenced who before.door)) (stops : (a : Attempt) → after.at entry.by ≡ Stopped a → IsTrue (is_fenced (caller_of a) before.door)) where
    abbrev from : Progress
    from = before.at entry.by

    abbrev to : Progress
    to = after.at entry.by

    -- ---- a later turn

    module _ (b : Attempt) (is : attempt_at from ≡ Some b) where
      -- what the turn makes of the attempt
      abbrev GoesSo : Type 0
      GoesSo = IsTrue (is_fenced (caller_of b) before.door) ⊎ ((doing after b ≡ attempt_after b (doing before b) entry.act) × (named after b ≡ named before b) × (uuid_after b (named before b) entry.act ≡ named before b))

      goes_so : IsFalse (is_gone (doing before b)) → GoesSo
      goes_so there = elim (cases_Bool (acts_on b entry.act)) [
        | inl on ↦
            let v = serving_of b on in
            let there_then : IsFalse (is_gone (attempt_state b v.s.part)) = subst (λ (t : AttemptState). IsFalse (is_gone t)) v.did there in
            let kept = uuid_kept b (uuid_of b v.s.part) entry.act (not_again node capacity v.s entry v.rule_there (lives_of b v).stands b ((lives_of b v).stands.listed b there_then)) in
            inr (v.does ∙ ap (λ (t : AttemptState). attempt_after b t entry.act) (sym v.did), v.is_named ∙ (kept ∙ sym v.was_named), ap (λ (u : List ℕ). uuid_after b u entry.act) v.was_named ∙ (kept ∙ sym v.was_named))
        | inr off ↦ off_so off (stays b (off_leaves b entry.act off))
      ]
        where
          off_so : IsFalse (acts_on b entry.act) → Stays b → GoesSo
          off_so off (inl gone) = inl gone
          off_so off (inr same) = inr (same.0 ∙ sym (state_left b (doing before b) entry.act off), same.1 there, uuid_left b (named before b) entry.act off)

      abbrev Behind : Type 0
      Behind = Stands after b × Lies after (caller_of b) (named before b)

      shut_behind : IsTrue (is_fenced (caller_of b) before.door) → Behind
      shut_behind gone = (IsShut (still_fenced (caller_of b) gone), IsFenced (still_fenced (caller_of b) gone))

      left_behind : (next : Progress) → to ≡ next → named after b ≡ named before b → ((other : By) → IsFalse (same_line entry.by other) → IsFalse (is_the b (attempt_at (before.at other)))) → IsTrue (is_left_so next b (doing after b) (named after b) (stage_of after b) (puts_of after b)) → Behind
      left_behind IsOver at same only left = (
        IsAtRest (λ other. none_moves b (ap (λ (p : Progress). is_the b (attempt_at p)) at) other (only other)) (λ there. left),
        elim (cases_Bool (is_gone (doing after b))) [
          | inl gone ↦ subst (Lies after (caller_of b)) same (IsFree (subst (λ (t : AttemptState). IsTrue (rests t (stage_of after b) (puts_of after b))) (gone_so (doing after b) gone) left))
          | inr there ↦ HasOne b refl there same
        ],
      )
      left_behind (Stopped c) at same only left = shut_behind (subst (λ (x : Attempt). IsTrue (is_fenced (caller_of x) before.door)) (sym (same_attempts b c left)) (stops c at))
      left_behind next at same only left = goes_behind next at same only left
        where
          goes_behind : (position : Progress) → to ≡ position → named after b ≡ named before b → ((other : By) → IsFalse (same_line entry.by other) → IsFalse (is_the b (attempt_at (before.at other)))) → IsTrue (moves position b (doing after b) (named after b) && keeps_row position (stage_of after b) (puts_of after b)) → Behind
          goes_behind position its same_name others both =
              let parts = and_parts (moves position b (doing after b) (named after b)) (keeps_row position (stage_of after b) (puts_of after b)) both in
              let does = moves_it position b (doing after b) (named after b) parts.0 in (
                IsMoved entry.by (subst (λ (p : Progress). IsTrue (moves p b (doing after b) (named after b))) (sym its) parts.0) (subst (λ (p : Progress). IsTrue (keeps_row p (stage_of after b) (puts_of after b))) (sym its) parts.1)
                    (λ other differs. subst (λ (p : Progress). IsFalse (is_the b (attempt_at p))) (sym (step.others other differs)) (others other differs)),
                HasOne b refl (doing_there position (doing after b) does.1) same_name,
              )

      its_behind : IsTrue (moves from b (doing before b) (named before b)) → IsTrue (keeps_row from (stage_of before b) (puts_of before b)) → ((other : By) → IsFalse (same_line entry.by other) → IsFalse (is_the b (attempt_at (before.at other)))) → Behind
      its_behind moved row only =
          elim (goes_so (doing_there from (doing before b) (moves_it from b (doing before b) (named before b) moved).1)) [
            | inl gone ↦ shut_behind gone
            | inr so ↦ elim (or_cases (ends.is_shut_out (caller_of b) entry.front) _ (attempts_part command numbers (named before b) ends node history entry from to b (doing before b) (stage_of before b) (puts_of before b) of moved row goes)) [
              | inl shut ↦ shut_behind (shut_out (caller_of b) shut)
              | inr left ↦ left_behind to refl so.1 only (now so left)
            ]
          ]
        where
          now : (doing after b ≡ attempt_after b (doing before b) entry.act) × (named after b ≡ named before b) × (uuid_after b (named before b) entry.act ≡ named before b) → IsTrue (is_left_so to b (attempt_after b (doing before b) entry.act) (uuid_after b (named before b) entry.act) (stage_of before b) (puts_of before b))
              → IsTrue (is_left_so to b (doing after b) (named after b) (stage_of after b) (puts_of after b))
          now so left =
              subst (λ (t : AttemptState). IsTrue (is_left_so to b t (named after b) (stage_of after b) (puts_of after b))) (sym so.0)
              (subst (λ (u : List ℕ). IsTrue (is_left_so to b (attempt_after b (doing before b) entry.act) u (stage_of after b) (puts_of after b))) (so.2 ∙ sym so.1)
              (subst (λ (t : Stage). IsTrue (is_left_so to b (attempt_after b (doing before b) entry.act) (uuid_after b (named before b) entry.act) t (puts_of after b))) (sym (stage_same b so.1))
              (subst (λ (p : List Commit). IsTrue (is_left_so to b (attempt_after b (doing before b) entry.act) (uuid_after b (named before b) entry.act) (stage_of before b) p)) (sym (puts_same b so.1)) left)))

      behind : Stands before b → Behind
      behind (IsShut gone) = shut_behind gone
      behind (IsAtRest none rest) = absurd (true≢false (sym (is_itself b (attempt_at from) is) ∙ none entry.by))
      behind (IsMoved by moved row only) = elim (cases_Bool (same_line by entry.by)) [
        | inl same ↦ (let e = same_by by entry.by same in
            its_behind (subst (λ (x : By). IsTrue (moves (before.at x) b (doing before b) (named before b))) e moved) (subst (λ (x : By). IsTrue (keeps_row (before.at x) (stage_of before b) (puts_of before b))) e row)
            (subst (λ (x : By). (other : By) → IsFalse (same_line x other) → IsFalse (is_the b (attempt_at (before.at other)))) e only))
        | inr differs ↦ absurd (true≢false (sym (is_itself b (attempt_at from) is) ∙ only entry.by differs))
      ]

      later_keeps : Keeps after
      later_keeps =
          let b_of_node = keeps.movers entry.by b is in
          let its = behind (keeps.attempts b b_of_node) in
          one_keeps b (λ a differs. ap (is_the a) is ∙ differs) (later_else ends node history entry b command numbers from to of is goes) b_of_node its.0 (λ there. its.1)

    -- ---- a first turn

    module _ (first : from ≡ NotBegun) (of_node : (inc : ℕ) → IsTrue (is_of_node (incarnation node inc))) where
      goes_first : advance command numbers ends NotBegun (AtNode node history entry) ≡ Some to
      goes_first = ap (λ (p : Progress). advance command numbers ends p (AtNode node history entry)) (sym first) ∙ goes

      from_none : attempt_at from ≡ None
      from_none = ap attempt_at first

      module _ (b : Attempt) (takes : attempt_at to ≡ Some b) (on : IsTrue (acts_on b entry.act)) (off : (a : Attempt) → same_attempt a b ≡ false → IsFalse (acts_on a entry.act)) where
        abbrev v : Serving b
        v = serving_of b on

        b_of_node : IsTrue (is_of_node (caller_of b))
        b_of_node = subst (λ (n : ℕ). IsTrue (is_of_node (incarnation n b.inc))) (sym v.at) (of_node b.inc)

        serves_still : IsTrue (serves b.inc (node_state (history ++ entry ∷ [])))
        serves_still = subst (λ (t : NodeState). IsTrue (serves b.inc t)) (sym (ap node_state (sym step.here) ∙ v.state_behind)) (eq-eqb b.inc v.s.inc v.inc)

        taken : IsTrue (rests (attempt_state b v.s.part) (stage_of after b) (puts_of after b)) → IsTrue (moves to b (doing after b) (named after b)) × IsTrue (keeps_row to (stage_of after b) (puts_of after b))
        taken rest =
            let its = attempts_go_along command numbers ends node capacity b.inc history entry to b (stage_of after b) (puts_of after b) of legal (acts_of_own node capacity b history entry legal on).1 serves_still goes_first takes
            (subst (λ (p : List NodeEntry). IsTrue (rests (attempt_state b p) (stage_of after b) (puts_of after b))) (sym (part-at history v.s v.state)) rest) in
            let parts : part (history ++ entry ∷ []) ≡ v.s.part ++ entry ∷ [] = part-at (history ++ entry ∷ []) (extended v.s entry) (ap node_state (sym step.here) ∙ v.state_behind) in (
              subst (λ (u : List ℕ). IsTrue (moves to b (doing after b) u)) (ap (uuid_of b) parts ∙ (uuid-snoc b v.s.part entry ∙ sym v.is_named))
                  (subst (λ (t : AttemptState). IsTrue (moves to b t (uuid_of b (part (history ++ entry ∷ []))))) (ap (attempt_state b) parts ∙ (attempt_state-snoc b v.s.part entry ∙ sym v.does)) its.0),
              its.1,
            )

        moved_now : ((other : By) → IsFalse (is_the b (attempt_at (before.at other)))) → IsTrue (rests (attempt_state b v.s.part) (stage_of after b) (puts_of after b)) → Stands after b
        moved_now none rest = (let its = taken rest in IsMoved entry.by its.0 its.1 (λ other differs. subst (λ (p : Progress). IsFalse (is_the b (attempt_at p))) (sym (step.others other differs)) (none other)))

        takes_else : (a : Attempt) → same_attempt a b ≡ false → IsFalse (acts_on a entry.act) × IsFalse (is_the a (attempt_at to))
        takes_else a differs = (off a differs, ap (is_the a) takes ∙ differs)

      -- an attempt that is admitted
      module _ (b : Attempt) (uuid : List ℕ) (act_is : entry.act ≡ acts.Admit b uuid) (takes : attempt_at to ≡ Some b) where
        on_new : IsTrue (acts_on b entry.act)
        on_new = subst (λ (act : NodeAct). IsTrue (acts_on b act)) (sym act_is) (same_itself b)

        off_new : (a : Attempt) → same_attempt a b ≡ false → IsFalse (acts_on a entry.act)
        off_new a differs = subst (λ (act : NodeAct). IsFalse (acts_on a act)) (sym act_is) differs

        abbrev at_new : Serving b
        at_new = serving_of b on_new

        new_gone : attempt_state b at_new.s.part ≡ IsGone
        new_gone =
            gone_is (attempt_state b at_new.s.part) (λ there. not_again node capacity at_new.s entry at_new.rule_there (lives_of b at_new).stands b ((lives_of b at_new).stands.listed b there)
            (subst (λ (act : NodeAct). In b (admitted_by act)) (sym act_is) (inl refl)))

        new_named : named after b ≡ uuid
        new_named = at_new.is_named ∙ (ap (uuid_after b (uuid_of b at_new.s.part)) act_is ∙ ap (λ (t : Bool). if t then uuid else uuid_of b at_new.s.part) (same_itself b))

        -- no attempt of its UUID was there
        none_there : (a : Attempt) → caller_of a ≡ caller_of b → IsFalse (is_gone (doing before a)) → named before a ≡ uuid → ⊥
        none_there a who there is =
            let may : IsTrue (may_admit node at_new.s b uuid) = (and_parts (may_admit node at_new.s b uuid) _ (subst (λ (act : NodeAct). IsTrue (may_serve node capacity act entry.answer at_new.s)) act_is at_new.rule_there)).0 in
            let none : length (present_of uuid at_new.s.part) ≡ 0 = eqb-true (length (present_of uuid at_new.s.part)) 0 (and_parts _ (eqb (length (present_of uuid at_new.s.part)) 0) may).1 in
            let at : a.node ≡ node = ap (λ (w : Incarnation). w.node) who ∙ at_new.at in
            let inc : a.inc ≡ at_new.s.inc = ap (λ (w : Incarnation). w.inc) who ∙ at_new.inc in
            let state : node_state (before.node a.node) ≡ IsServing at_new.s = ap (λ (n : ℕ). node_state (before.node n)) at ∙ at_new.state in
            let ins = in_service_of a at_new.s inc in
            let there_then : IsFalse (is_gone (attempt_state a at_new.s.part)) = subst (λ (t : AttemptState). IsFalse (is_gone t)) (ap (doing_in a) state ∙ ins.0) there in
            let its : uuid_of a at_new.s.part ≡ uuid = sym (ap (named_in a) state ∙ ins.1) ∙ is in
            let stands = (lives_of b at_new).stands in
            let listed = stands.listed a there_then in
            let here : In a (present at_new.s.part) = filter_in (λ (x : Attempt). not (is_gone (attempt_state x at_new.s.part))) a (attempts at_new.s.part) listed (ap not there_then) in
            let one : In a (present_of uuid at_new.s.part) = filter_in (is_of uuid at_new.s.part) a (present at_new.s.part) here (subst (λ (u : List ℕ). IsTrue (is_of u at_new.s.part a)) its (stands.has_name a listed)) in
            let some : 0 < length (present_of uuid at_new.s.part) = has_some a (present_of uuid at_new.s.part) one in
            omega arith

        new_stands : Stands before b → Lies before (caller_of b) uuid → Stands after b
        new_stands (IsShut gone) lies = IsShut (still_fenced (caller_of b) gone)
        new_stands (IsMoved by moved row only) lies =
            absurd (true≢false (sym (ap is_gone (at_new.did ∙ new_gone)) ∙ doing_there (before.at by) (doing before b) (moves_it (before.at by) b (doing before b) (named before b) moved).1))
        new_stands (IsAtRest none rest) (IsFenced gone) = IsShut (still_fenced (caller_of b) gone)
        new_stands (IsAtRest none rest) (HasOne a its there is) = absurd (none_there a its there is)
        new_stands (IsAtRest none rest) (IsFree free) =
            moved_now b takes on_new off_new none
            (subst (λ (t : AttemptState). IsTrue (rests t (stage_of after b) (puts_of after b))) (sym new_gone)
            (subst (λ (h : List DoorEntry). IsTrue (rests IsGone (stage (caller_of b) (named after b) h) (put_under_claim (caller_of b) (named after b) h))) (sym step.door)
            (subst (λ (u : List ℕ). IsTrue (rests IsGone (stage (caller_of b) u before.door) (put_under_claim (caller_of b) u before.door))) (sym new_named) free)))

        new_keeps : Keeps after
        new_keeps =
            let in_node = b_of_node b takes on_new off_new in
            one_keeps b (λ a differs. ap (is_the a) from_none) (takes_else b takes on_new off_new) in_node (new_stands (keeps.attempts b in_node) (keeps.uuids (caller_of b) uuid in_node))
            (λ there. absurd (true≢false (sym (ap is_gone (at_new.did ∙ new_gone)) ∙ there)))

      -- an attempt that was there
      module _ (b : Attempt) (takes : attempt_at to ≡ Some b) (on : IsTrue (acts_on b entry.act)) (off : (a : Attempt) → same_attempt a b ≡ false → IsFalse (acts_on a entry.act)) (same_uuid : (uuid : List ℕ) → uuid_after b uuid entry.act ≡ uuid) (asks : AsksOld b entry.act) where
        abbrev at_old : Serving b
        at_old = serving_of b on

        old : IsTrue (is_old (attempt_state b at_old.s.part))
        old = asks node capacity entry.answer at_old.s at_old.rule_there

        old_named : named after b ≡ named before b
        old_named = at_old.is_named ∙ (same_uuid (uuid_of b at_old.s.part) ∙ sym at_old.was_named)

        old_doing : IsTrue (is_old (doing before b))
        old_doing = subst (λ (t : AttemptState). IsTrue (is_old t)) (sym at_old.did) old

        there_old : IsFalse (is_gone (doing before b))
        there_old = old_there (doing before b) old_doing

        old_stands : Stands before b → Stands after b
        old_stands (IsShut gone) = IsShut (still_fenced (caller_of b) gone)
        old_stands (IsMoved by moved row only) = absurd (moved_new (before.at by) (doing before b) (moves_it (before.at by) b (doing before b) (named before b) moved).1 old_doing)
        old_stands (IsAtRest none rest) = moved_now b takes on off none (subst (λ (t : AttemptState). IsTrue (rests t (stage_of after b) (puts_of after b))) at_old.did (rests_still b (doing before b) old_named (rest there_old)))

        old_lies : Stands after b → Lies after (caller_of b) (named before b)
        old_lies (IsShut gone) = IsFenced gone
        old_lies (IsAtRest none rest) = absurd (true≢false (sym (is_itself b (attempt_at to) takes) ∙ none entry.by))
        old_lies (IsMoved by moved row only) = HasOne b refl (doing_there (after.at by) (doing after b) (moves_it (after.at by) b (doing after b) (named after b) moved).1) old_named

        old_keeps : Keeps after
        old_keeps =
            let in_node = b_of_node b takes on off in
            let stands = old_stands (keeps.attempts b in_node) in
            one_keeps b (λ a differs. ap (is_the a) from_none) (takes_else b takes on off) in_node stands (λ there. old_lies stands)

      first_keeps : First entry.act to → Keeps after
      first_keeps (TakesNone none off) = nobody_keeps from_none none (λ a. off_leaves a entry.act (off a))
      first_keeps (TakesNew b uuid act_is takes) = new_keeps b uuid act_is takes
      first_keeps (TakesOld b takes on off same_uuid asks) = old_keeps b takes on off same_uuid asks

    pub mover_keeps : ((inc : ℕ) → IsTrue (is_of_node (incarnation node inc))) → Keeps after
    mover_keeps of_node = elim (begun_before command numbers ends from to (AtNode node history entry) of goes) [
      | inl first ↦ first_keeps first of_node (first_takes command numbers ends node history entry to of (goes_first first of_node))
      | inr later ↦ later_keeps later.0 later.1
    ]

pub mover_turns_keep : (node capacity : ℕ) (command : Command) (numbers : List ℕ) (ends : Ends) (entry : NodeEntry) (before after : Scene) → ((inc : ℕ) → IsTrue (is_of_node (incarnation node inc))) → LegalNode node capacity (before.node node ++ entry ∷ []) → IsTrue (has_seen node before.door entry.by (before.node node) entry.act entry.answer)
    → NodeStep node entry before after → IsTrue (is_of_attempt command) → advance command numbers ends (before.at entry.by) (AtNode node (before.node node) entry) ≡ Some (after.at entry.by) → ((who : Incarnation) → IsTrue (ends.is_shut_out who entry.front) → IsTrue (is_fenced who before.door))
    → ((a : Attempt) → after.at entry.by ≡ Stopped a → IsTrue (is_fenced (caller_of a) before.door)) → Keeps before → Keeps after
mover_turns_keep node capacity command numbers ends entry before after of_node legal sight step of goes shut_out stops keeps = mover_keeps node capacity entry before after step legal sight keeps command numbers ends of goes shut_out stops of_node

pub bystander_turns_keep : (node capacity : ℕ) (command : Command) (entry : NodeEntry) (before after : Scene) → LegalNode node capacity (before.node node ++ entry ∷ []) → IsTrue (has_seen node before.door entry.by (before.node node) entry.act entry.answer) → NodeStep node entry before after
    → is_of_attempt command ≡ false → IsTrue (makes_at_node command entry.act) → attempt_at (before.at entry.by) ≡ None → attempt_at (after.at entry.by) ≡ None → Keeps before → Keeps after
bystander_turns_keep node capacity command entry before after legal sight step other made was now keeps = nobody_keeps node capacity entry before after step legal sight keeps was now (λ a. bystander_leaves command entry.act a other made)

pub quiet_turns_keep : (node capacity : ℕ) (entry : NodeEntry) (before after : Scene) → LegalNode node capacity (before.node node ++ entry ∷ []) → IsTrue (has_seen node before.door entry.by (before.node node) entry.act entry.answer) → NodeStep node entry before after → attempt_at (before.at entry.by) ≡ None → attempt_at (after.at entry.by) ≡ None
    → ((a : Attempt) (state : AttemptState) → attempt_after a state entry.act ≡ state) → ((a : Attempt) (uuid : List ℕ) → uuid_after a uuid entry.act ≡ uuid) → Keeps before → Keeps after
quiet_turns_keep node capacity entry before after legal sight step was now states uuids keeps = nobody_keeps node capacity entry before after step legal sight keeps was now (λ a. (states a, uuids a))
