-- What the turns at its node of a line that claims a UUID make of it.
use Rattle.std.proofs.Common.{◌≡◌, ◌<◌, ◌⊎◌, arith, ℕ, Bool, true, false, ◌&&◌, ◌||◌, not, List, [], ◌∷◌, ◌++◌, refl, sym, ap, subst, ◌∙◌, inl, inr}
use Rattle.std.specs.Prelude.{IfSome, IsTrue, None, Option, Some, if◌then◌else◌, max}
use Rattle.std.specs.Option.{ForSome}
use Rattle.std.specs.Str.{bytes_eq}
use Rattle.std.proofs.lemmas.Bool.{and_parts, eq-eqb, false≢true, or_cases}
use Rattle.aft_keeper.specs.declared.keeper.KeeperAnswer.TheVariants.{Absent}
use Rattle.aft_model.specs.declared.caller.Attempt.{Attempt}
use Rattle.aft_model.specs.declared.caller.By.{By}
use Rattle.aft_model.specs.declared.node.NodeAct.TheVariants as acts
use Rattle.aft_model.specs.declared.reply.Reply.{Reply}
use Rattle.aft_model.specs.declared.reply.Reply.TheVariants as replies
use Rattle.aft_model.specs.Attempts.{Row, attempt_state, is_opening, uuid_of}
use Rattle.aft_model.specs.LegalNode.{LegalNode}
use Rattle.aft_model.specs.NodeRules.{is_begin_refusal}
use Rattle.aft_model.specs.NodeState.{IsBooting, IsDown, IsServing, NodeState, Service, boots, node_state, part, serves, service, service_in}
use Rattle.aft_model.proofs.Sights.{same_bytes}
use Rattle.aft_ledger.specs.Turns.{is_doing}
use Rattle.aft_ledger.specs.View.{NodeView, after_entry, answered}
use Rattle.aft_lines.specs.LineView.{has_left}
use Rattle.aft_lines.specs.Turns.{Turn}
use Rattle.aft_node.specs.Beginning.{admit_refusal, admitted_done, admitted_go, attempt_of, begin_refusal_by, begun, forget_refusal_by, found_row, joined_go, next_attempt, refused_go, serving_inc}
use Rattle.aft_node.specs.Outcomes.{Leads, down_reply}
use Rattle.aft_node.specs.declared.goes.AdmitGo.{AdmitGo}
use Rattle.aft_node.specs.declared.goes.AdmitGo.TheVariants as goes
use Rattle.aft_begin.specs.declared.aim.Aim.{Aim}
use Rattle.aft_begin.specs.declared.aim.Aim.TheVariants.{Begin, Forget}
use Rattle.aft_begin.specs.declared.stage.Stage.{Stage}
use Rattle.aft_begin.specs.declared.stage.Stage.TheVariants.{Begins, Claims, Ended, GivesUp, Runs}
use Rattle.aft_begin.specs.Made.{AnswersAtOnce, Closes, Closing, HasCome, IsBegun, IsDown as LeftIt, IsGivenBack, closing_act, closing_gives, closing_reply, given_by, made_at, may_end_at, turn_at}
use Rattle.aft_begin.specs.View.{FitsAt, behind_admission, left_at}
use Rattle.aft_begin.specs.Way.{LookedForMarker, Way}
use Rattle.aft_turns.specs.Steps.{StepsAtNode}
use Rattle.aft_turns.specs.Trail.{Trail, behind, no_trail}

-- ---- the first turn

-- a begin that is refused is over
refused_over : (uuid : List ℕ) (node : NodeView) (s : Option Service) → behind_admission (refused_go uuid node s) ≡ Ended (given_by (refused_go uuid node s))
refused_over uuid node None = refl
refused_over uuid node (Some serving) = by_row (found_row uuid node)
  where
    by_row : (row : Option Row) → behind_admission (joined_go node row) ≡ Ended (given_by (joined_go node row))
    by_row None = refl
    by_row (Some row) = by_state (is_opening row.state)
      where
        by_state : (opens : Bool) → behind_admission (if opens then goes.Answered else goes.Joined (record { node = node.number; inc = serving_inc (service node.history); number = row.number })) ≡ Ended (given_by (if opens then goes.Answered else goes.Joined (record { node = node.number; inc = serving_inc (service node.history); number = row.number })))
        by_state true = refl
        by_state false = refl

-- a node that refuses nothing serves
serves_so : (why : ℕ → ℕ → List ℕ → Option Row → Option Reply) (uuid : List ℕ) (node : NodeView) (state : NodeState) → admit_refusal why uuid node (service_in state) ≡ None → IsTrue (serves (serving_inc (service_in state)) state)
serves_so why uuid node (IsServing s) free = eq-eqb s.inc s.inc refl
serves_so why uuid node IsDown free = absurd (some_is free)
  where
    some_is : {r : Reply} → Some r ≡ None → ⊥
    some_is e = cc
serves_so why uuid node (IsBooting inc running) free = absurd (some_is free)
  where
    some_is : {r : Reply} → Some r ≡ None → ⊥
    some_is e = cc

-- it leaves fewer turns
pub admission_left : (aim : Aim) (go : AdmitGo) → left_at aim (behind_admission go) < left_at aim Begins
admission_left Begin (goes.Go who a) = omega arith
admission_left Forget (goes.Go who a) = omega arith
admission_left Begin (goes.Joined a) = omega arith
admission_left Forget (goes.Joined a) = omega arith
admission_left Begin goes.Answered = omega arith
admission_left Forget goes.Answered = omega arith

gives_none : (node : ℕ) → ForSome None (λ (a : Attempt). a.node ≡ node)
gives_none node a is = absurd cc

-- an attempt that a begin joins is of its node
joined_own : (uuid : List ℕ) (old : NodeView) (serving : Option Service) → ForSome (given_by (refused_go uuid old serving)) (λ a. a.node ≡ old.number)
joined_own uuid old None = gives_none old.number
joined_own uuid old (Some serving) = by_row (found_row uuid old)
  where
    by_row : (row : Option Row) → ForSome (given_by (joined_go old row)) (λ a. a.node ≡ old.number)
    by_row None = gives_none old.number
    by_row (Some row) = by_opening (is_opening row.state)
      where
        by_opening : (opens : Bool) → ForSome (given_by (if opens then goes.Answered else goes.Joined (attempt_of old row))) (λ a. a.node ≡ old.number)
        by_opening true = gives_none old.number
        by_opening false = λ a is. ap (λ (x : Attempt). x.node) (sym (one (attempt_of old row) a is))
          where
            one : (x y : Attempt) → Some x ≡ Some y → x ≡ y
            one x y e = cc

module _ (handed : ℕ) (by : By) (uuid : List ℕ) (old new : NodeView) (legal : LegalNode old.number old.capacity old.history) where
  abbrev pub AdmitStep : Aim → Stage → Type 0
  AdmitStep aim stage = StepsAtNode by handed (made_at aim by old.number uuid Begins) (made_at aim by old.number uuid stage) old new × FitsAt aim old.number uuid stage

  first_of_all : (trail : Trail) (turn : Turn) → trail ≡ no_trail → (behind trail turn).turns ≡ turn ∷ []
  first_of_all trail turn none = ap (λ (t : Trail). t.turns ++ turn ∷ []) none

  -- it answers at once
  answered_step : (aim : Aim) (reply : Reply) (given : Option Attempt) → new ≡ answered handed by reply old → AnswersAtOnce aim old.number uuid old.history reply given → ForSome given (λ a. a.node ≡ old.number) → AdmitStep aim (Ended given)
  answered_step aim reply given made answers own = (
    (
      acts.Nothing,
      Some reply,
      made,
      λ trail none. inl (record {
        capacity = old.capacity;
        before = old.history;
        front = max old.front handed;
        reply = reply;
        legal = legal;
        turns = first_of_all trail (turn_at by old.number old.history (max old.front handed) acts.Nothing (Some reply)) none;
        answers = answers;
      }),
    ),
    own,
  )

  -- or its attempt is admitted
  admitted_step : (aim : Aim) → new ≡ admitted_done handed by uuid old → IsTrue (serves (serving_inc (service old.history)) (node_state old.history)) → AdmitStep aim (Claims (next_attempt old))
  admitted_step aim made serving = (
    (
      acts.Admit (next_attempt old) uuid,
      None,
      made,
      λ trail none. (
        max old.front handed,
        record {
          before = old.history;
          admits = record { capacity = old.capacity; legal = legal; place = refl; serving = serving };
          fits = tt;
          turns = first_of_all trail (turn_at by old.number old.history (max old.front handed) (acts.Admit (next_attempt old) uuid) None) none;
        },
      ),
    ),
    refl,
  )

  -- where nothing refuses it
  free_step : (aim : Aim) (why : ℕ → ℕ → List ℕ → Option Row → Option Reply) (go : AdmitGo) → AnswersAtOnce aim old.number uuid old.history replies.NoMemory None → admit_refusal why uuid old (service old.history) ≡ None → Leads handed by goes.Answered None (admitted_done handed by uuid old) (admitted_go by old) old new go → AdmitStep aim (behind_admission go)
  free_step aim why go lacks is (inl (made, went)) = subst (AdmitStep aim) (sym (ap behind_admission went)) (admitted_step aim made (serves_so why uuid old (node_state old.history) is))
  free_step aim why go lacks is (inr (made, went)) = subst (AdmitStep aim) (sym (ap behind_admission went)) (answered_step aim replies.NoMemory None made lacks (gives_none old.number))

  pub admit_step : (go : AdmitGo)
      → IfSome (admit_refusal begin_refusal_by uuid old (service old.history)) (λ reply. (new ≡ answered handed by reply old) × (go ≡ refused_go uuid old (service old.history)))
      → (admit_refusal begin_refusal_by uuid old (service old.history) ≡ None → Leads handed by goes.Answered None (admitted_done handed by uuid old) (admitted_go by old) old new go)
      → AdmitStep Begin (behind_admission go)
  admit_step go refused free = by_refusal (admit_refusal begin_refusal_by uuid old (service old.history)) refl refused free
    where
      by_refusal : (why : Option Reply) → admit_refusal begin_refusal_by uuid old (service old.history) ≡ why → IfSome why (λ reply. (new ≡ answered handed by reply old) × (go ≡ refused_go uuid old (service old.history))) → (why ≡ None → Leads handed by goes.Answered None (admitted_done handed by uuid old) (admitted_go by old) old new go) → AdmitStep Begin (behind_admission go)
      by_refusal (Some reply) is (made, went) free = subst (AdmitStep Begin) (sym (ap behind_admission went ∙ refused_over uuid old (service old.history))) (answered_step Begin reply (given_by (refused_go uuid old (service old.history))) made (inr (is, refl)) (joined_own uuid old (service old.history)))
      by_refusal None is refused leads = free_step Begin begin_refusal_by go (inl (refl, refl)) is (leads refl)

  pub forget_step : (go : AdmitGo) → Leads handed by goes.Answered (admit_refusal forget_refusal_by uuid old (service old.history)) (admitted_done handed by uuid old) (admitted_go by old) old new go → AdmitStep Forget (behind_admission go)
  forget_step go leads = by_refusal (admit_refusal forget_refusal_by uuid old (service old.history)) refl leads
    where
      by_refusal : (why : Option Reply) → admit_refusal forget_refusal_by uuid old (service old.history) ≡ why → Leads handed by goes.Answered why (admitted_done handed by uuid old) (admitted_go by old) old new go → AdmitStep Forget (behind_admission go)
      by_refusal (Some reply) is (made, went) = subst (AdmitStep Forget) (sym (ap behind_admission went)) (answered_step Forget reply None made (inr is, refl) (gives_none old.number))
      by_refusal None is leads = free_step Forget forget_refusal_by go (inl refl, refl) is leads

-- ---- the last turn

-- the node has left an incarnation that it doesn't serve
left_not : (does : Bool) (inc : ℕ) (state : NodeState) → IsTrue (has_left inc state) → IsTrue (serves inc state && does) → ⊥
left_not does inc state left is = by_tests (serves inc state) (boots inc state) left is
  where
    by_tests : (serving booting : Bool) → IsTrue (not (serving || booting)) → IsTrue (serving && does) → ⊥
    by_tests true booting left is = false≢true left
    by_tests false booting left is = false≢true is

module _ (aim : Aim) (handed : ℕ) (by : By) (uuid : List ℕ) (a : Attempt) (old new : NodeView) (place : a.node ≡ old.number) where
  -- it ends so
  closed : (closing : Closing) (front : ℕ) (way : Way) (release : Option ℕ) (trail : Trail) → HasCome aim by old.number uuid a front way release trail → Closes aim front a uuid trail.look way release old.history closing
      → made_at aim by old.number uuid (Ended (closing_gives a closing)) (behind trail (turn_at by old.number old.history (max old.front handed) (closing_act a closing) (Some (closing_reply a uuid closing))))
  closed closing front way release trail come closes = inr (record {
    attempt = a;
    front = front;
    way = way;
    release = release;
    since = trail;
    come = come;
    last_before = old.history;
    last_front = max old.front handed;
    closing = closing;
    turns = refl;
    look = refl;
    closes = closes;
    gives = refl;
  })

  -- it was left
  left_it : new ≡ answered handed by (down_reply old a.inc) old → new ≡ after_entry handed by acts.Nothing (Some (replies.NodeDown a.node a.inc)) old
  left_it made = made ∙ ap (λ (n : ℕ). answered handed by (replies.NodeDown n a.inc) old) (sym place)

  abbrev RunStep : Bool → Type 0
  RunStep runs = StepsAtNode by handed (made_at aim by old.number uuid (Runs a)) (made_at aim by old.number uuid (Ended (if runs then Some a else None))) old new

  pub run_step : (runs : Bool) → runs ≡ is_doing is_opening a old.history → new ≡ (if is_doing is_opening a old.history then begun handed by a old else answered handed by (down_reply old a.inc) old)
      → may_end_at uuid (Runs a) old.history → RunStep runs
  run_step runs is made may = subst RunStep (sym is) (by_test (is_doing is_opening a old.history) refl made (or_cases (has_left a.inc (node_state old.history)) (is_doing is_opening a old.history && bytes_eq (uuid_of a (part old.history)) uuid) may))
    where
      by_test : (does : Bool) → is_doing is_opening a old.history ≡ does → new ≡ (if does then begun handed by a old else answered handed by (down_reply old a.inc) old) → IsTrue (has_left a.inc (node_state old.history)) ⊎ IsTrue (is_doing is_opening a old.history && bytes_eq (uuid_of a (part old.history)) uuid) → RunStep does
      by_test true does made (inl left) = absurd (left_not (is_opening (attempt_state a (part old.history))) a.inc (node_state old.history) left does)
      by_test true does made (inr both) =
          let same : uuid_of a (part old.history) ≡ uuid = same_bytes (uuid_of a (part old.history)) uuid (and_parts (is_doing is_opening a old.history) (bytes_eq (uuid_of a (part old.history)) uuid) both).1 in
          (acts.Begin a, Some (replies.Begun uuid), made ∙ ap (λ (u : List ℕ). after_entry handed by (acts.Begin a) (Some (replies.Begun u)) old) same, λ trail stood. closed IsBegun stood.0 (LookedForMarker stood.1 stood.2 stood.3 Absent) None trail stood.4 (stood.5, same))
      by_test false does made (inl left) = (acts.Nothing, Some (replies.NodeDown a.node a.inc), left_it made, λ trail stood. closed LeftIt stood.0 (LookedForMarker stood.1 stood.2 stood.3 Absent) None trail stood.4 (left, None, stood.5))
      by_test false does made (inr both) = absurd (false≢true (sym does ∙ (and_parts (is_doing is_opening a old.history) (bytes_eq (uuid_of a (part old.history)) uuid) both).0))

  abbrev GiveUpStep : Reply → Type 0
  GiveUpStep reply = StepsAtNode by handed (made_at aim by old.number uuid (GivesUp a reply)) (made_at aim by old.number uuid (Ended None)) old new

  pub give_up_step : (reply : Reply) → IsTrue (is_begin_refusal (Some reply)) → new ≡ (if is_doing is_opening a old.history then after_entry handed by (acts.Unadmit a) (Some reply) old else answered handed by (down_reply old a.inc) old)
      → may_end_at uuid (GivesUp a reply) old.history → GiveUpStep reply
  give_up_step reply allowed made may = by_test (is_doing is_opening a old.history) refl made (or_cases (has_left a.inc (node_state old.history)) (is_doing is_opening a old.history) may)
    where
      by_test : (does : Bool) → is_doing is_opening a old.history ≡ does → new ≡ (if does then after_entry handed by (acts.Unadmit a) (Some reply) old else answered handed by (down_reply old a.inc) old) → IsTrue (has_left a.inc (node_state old.history)) ⊎ IsTrue (is_doing is_opening a old.history) → GiveUpStep reply
      by_test true does made may = (acts.Unadmit a, Some reply, made, λ trail stood. closed (IsGivenBack reply) stood.0 stood.1 stood.2 trail stood.3 (allowed, stood.4))
      by_test false does made (inl left) = (acts.Nothing, Some (replies.NodeDown a.node a.inc), left_it made, λ trail stood. closed LeftIt stood.0 stood.1 stood.2 trail stood.3 (left, Some reply, stood.4))
      by_test false does made (inr opens) = absurd (false≢true (sym does ∙ opens))
