-- What stands of a begin or a forget whose first turn answered.
use Rattle.std.proofs.Common.{◌≡◌, ℕ, suc, Bool, true, false, ◌&&◌, not, List, [], ◌∷◌, ◌++◌, refl, sym, ap, subst, ◌∙◌, inl, inr}
use Rattle.std.specs.Prelude.{IsFalse, IsTrue, None, Option, Some, filter, if◌then◌else◌, length, ◌==◌, ◌⊎◌}
use Rattle.std.proofs.lemmas.Bool.{and_from, eq-eqb, eqb-true, false_from_ne_true, false≢true, or_left, true≢false}
use Rattle.aft_model.specs.declared.caller.Attempt.{Attempt}
use Rattle.aft_model.specs.declared.caller.By.{By}
use Rattle.aft_model.specs.declared.caller.Hold.{Hold}
use Rattle.aft_model.specs.declared.node.NodeAct.{NodeAct}
use Rattle.aft_model.specs.declared.node.NodeAct.TheVariants as acts
use Rattle.aft_model.specs.declared.node.NodeEntry.{NodeEntry}
use Rattle.aft_model.specs.declared.reply.Reply.{Reply}
use Rattle.aft_model.specs.declared.reply.Reply.TheVariants as replies
use Rattle.aft_model.specs.Attempts.{Row, attempt_state, attempts, is_gone, is_of, is_opening, present, present_of, row_of, uuid_of}
use Rattle.aft_model.specs.History.{first_of}
use Rattle.aft_model.specs.LegalNode.{LegalNode}
use Rattle.aft_model.specs.NodeState.{IsBooting, IsDown, IsServing, NodeState, Service, in_service, newest, node_state, part, part_in, serves, service, service_in}
use Rattle.aft_model.proofs.Histories.{In, any_from}
use Rattle.aft_model.proofs.Lists.{filter_in, in_filter}
use Rattle.aft_model.proofs.Services.{newest-snoc}
use Rattle.aft_model.proofs.Sights.{bytes_eq-refl}
use Rattle.aft_lines.specs.Causes.{Caused}
use Rattle.aft_lines.specs.CausesAttempts.{state_in}
use Rattle.aft_lines.specs.CausesBegins.{has_attempt, has_opened, has_opening}
use Rattle.aft_lines.specs.LegalTrace.{node_words}
use Rattle.aft_lines.specs.LineView.{LineView}
use Rattle.aft_lines.specs.Advance.{is_led_to_end}
use Rattle.aft_lines.specs.Lines.{attempt_of}
use Rattle.aft_lines.specs.Makes.{makes_at_node}
use Rattle.aft_lines.specs.RunsSoFar.{position_of}
use Rattle.law_attempts.proofs.Lives.{lives}
use Rattle.law_attempts.proofs.Standing.{Standing}
use Rattle.law_attempts.proofs.Tables.{row_of_uuid}
use Rattle.aft_node.specs.Beginning.{admit_refusal, begin_refusal_by, forget_refusal_by, found_row, joined_go, refused_go, serving_inc}
use Rattle.aft_node.specs.declared.goes.AdmitGo.TheVariants as goes
use Rattle.aft_turns.specs.Stands.{EndsRightly, GoesRightly, is_right}
use Rattle.aft_turns.proofs.Views.{with_words}
use Rattle.aft_begin.specs.declared.aim.Aim.{Aim}
use Rattle.aft_begin.specs.declared.aim.Aim.TheVariants as aims
use Rattle.aft_begin.specs.View.{asks}
use Rattle.aft_begin.specs.Made.{AnswersAtOnce, given_by, node_of, turn_at}

-- the first that passes a test is the one that does
first_passing : {A : Type 0} (test : A → Bool) (x : A) (xs : List A) → In x xs → IsTrue (test x) → ((y : A) → In y xs → IsTrue (test y) → y ≡ x) → first_of (filter test xs) ≡ Some x
first_passing test x [] among passed only = absurd among
first_passing {A} test x (y ∷ ys) among passed only = cases (test y) refl (λ later. first_passing test x ys later passed (λ z there. only z (inr there)))
  where
    cases : (t : Bool) → test y ≡ t → (In x ys → first_of (filter test ys) ≡ Some x) → first_of (if t then y ∷ filter test ys else filter test ys) ≡ Some x
    cases true is rest = ap (λ (z : A). Some z) (only y (inl refl) is)
    cases false is rest = rest (elim among [ inl here ↦ absurd (true≢false (sym passed ∙ (ap test here ∙ is))) | inr later ↦ later ])

-- a service that a node is in
service_of : (state : NodeState) (s : Service) → service_in state ≡ Some s → state ≡ IsServing s
service_of (IsServing t) s is = let same : t ≡ s = some_is t s is in ap (λ (u : Service). IsServing u) same
  where
    some_is : (a b : Service) → Some a ≡ Some b → a ≡ b
    some_is a b e = cc
service_of IsDown s is = absurd (none_is is)
  where
    none_is : None ≡ Some s → ⊥
    none_is e = cc
service_of (IsBooting inc running) s is = absurd (none_is is)
  where
    none_is : None ≡ Some s → ⊥
    none_is e = cc

no_service : (inc : ℕ) (state : NodeState) → service_in state ≡ None → serves inc state ≡ false
no_service inc (IsServing s) is = absurd (some_is is)
  where
    some_is : Some s ≡ None → ⊥
    some_is e = cc
no_service inc IsDown is = refl
no_service inc (IsBooting other running) is = refl

-- ---- the attempt of a UUID that is there

record IsThere (uuid : List ℕ) (s : Service) (row : Row) (a : Attempt) : Type 0 where
  among : In a (present_of uuid s.part)
  state : row.state ≡ attempt_state a s.part
  only : first_of (present_of uuid s.part) ≡ Some a

module _ (node capacity : ℕ) (uuid : List ℕ) (before : List NodeEntry) (legal : LegalNode node capacity before) (s : Service) (in_it : service before ≡ Some s) where
  is_it : node_state before ≡ IsServing s
  is_it = service_of (node_state before) s in_it

  its_part : part before ≡ s.part
  its_part = ap part_in in_it

  serving : IsTrue (serves s.inc (node_state before))
  serving = subst (λ (state : NodeState). IsTrue (serves s.inc state)) (sym is_it) (eq-eqb s.inc s.inc refl)

  -- the attempt of a row
  abbrev one_of : Row → Attempt
  one_of row = record { node = node; inc = s.inc; number = row.number }

  there : (row : Row) → found_row uuid (node_of node before) ≡ Some row → IsThere uuid s row (one_of row)
  there row found = record {
    among = its_place;
    state = its_state;
    only = first_passing (is_of uuid s.part) (one_of row) (present s.part) its_presence of_uuid (λ b present_there of. stands.alone b (one_of row) (not_gone b present_there) (gone_not) (stands.named b uuid of ∙ sym its_uuid));
  }
    where
      of_row : (row ≡ row_of (part before) (one_of row)) × IsFalse (is_gone row.state) × (row.uuid ≡ uuid)
      of_row = row_of_uuid node capacity s.inc before legal serving uuid row found

      stands : Standing node s
      stands = (lives node capacity before s legal is_it).stands

      its_state : row.state ≡ attempt_state (one_of row) s.part
      its_state = ap (λ (r : Row). r.state) of_row.0 ∙ ap (attempt_state (one_of row)) its_part

      gone_not : IsFalse (is_gone (attempt_state (one_of row) s.part))
      gone_not = ap is_gone (sym its_state) ∙ of_row.1

      its_uuid : uuid_of (one_of row) s.part ≡ uuid
      its_uuid = ap (uuid_of (one_of row)) (sym its_part) ∙ (ap (λ (r : Row). r.uuid) (sym of_row.0) ∙ of_row.2)

      of_uuid : IsTrue (is_of uuid s.part (one_of row))
      of_uuid = subst (λ (u : List ℕ). IsTrue (is_of u s.part (one_of row))) its_uuid (stands.has_name (one_of row) (stands.listed (one_of row) gone_not))

      its_presence : In (one_of row) (present s.part)
      its_presence = filter_in (λ (b : Attempt). not (is_gone (attempt_state b s.part))) (one_of row) (attempts s.part) (stands.listed (one_of row) gone_not) (ap not gone_not)

      its_place : In (one_of row) (present_of uuid s.part)
      its_place = filter_in (is_of uuid s.part) (one_of row) (present s.part) its_presence of_uuid

      not_gone : (b : Attempt) → In b (present s.part) → IsFalse (is_gone (attempt_state b s.part))
      not_gone b among = not_true (is_gone (attempt_state b s.part)) (in_filter (λ (c : Attempt). not (is_gone (attempt_state c s.part))) b (attempts s.part) among).1
        where
          not_true : (t : Bool) → IsTrue (not t) → IsFalse t
          not_true false is = refl
          not_true true is = absurd (false≢true is)

-- ---- how a begin is answered at once

one_reply : (r q : Reply) → Some r ≡ Some q → r ≡ q
one_reply r q e = cc

module _ (node capacity : ℕ) (uuid : List ℕ) (before : List NodeEntry) (legal : LegalNode node capacity before) (Holds : Reply → Option Attempt → Type 0)
    (memory : Holds replies.NoMemory None)
    (down : service before ≡ None → Holds (replies.NodeDown node (newest before)) None)
    (busy : (s : Service) (row : Row) → service before ≡ Some s → IsThere uuid s row (record { node = node; inc = s.inc; number = row.number }) → is_opening row.state ≡ true → Holds (replies.Busy node s.inc) None)
    (joined : (s : Service) (row : Row) → service before ≡ Some s → IsThere uuid s row (record { node = node; inc = s.inc; number = row.number }) → is_opening row.state ≡ false → Holds (replies.Joined uuid) (Some (record { node = node; inc = s.inc; number = row.number })))
    (reply : Reply) where
  same_end : (told : Reply) (given other : Option Attempt) → Some told ≡ Some reply → other ≡ given → Holds told given → Holds reply other
  same_end told given other is same holds = subst (λ (r : Reply). Holds r other) (one_reply told reply is) (subst (Holds told) (sym same) holds)

  refused : (given : Option Attempt) (found : Option Service) → service before ≡ found → admit_refusal begin_refusal_by uuid (node_of node before) found ≡ Some reply → given ≡ given_by (refused_go uuid (node_of node before) found) → Holds reply given
  refused given None in_it is gives = same_end (replies.NodeDown node (newest before)) None given is gives (down in_it)
  refused given (Some s) in_it is gives = by_row (found_row uuid (node_of node before)) refl is gives
    where
      by_row : (found : Option Row) → found_row uuid (node_of node before) ≡ found → begin_refusal_by node s.inc uuid found ≡ Some reply → given ≡ given_by (joined_go (node_of node before) found) → Holds reply given
      by_row None at is gives = absurd (none_is is)
        where
          none_is : None ≡ Some reply → ⊥
          none_is e = cc
      by_row (Some row) at is gives = by_state (is_opening row.state) refl is gives
        where
          by_state : (opens : Bool) → is_opening row.state ≡ opens → Some (if opens then replies.Busy node s.inc else replies.Joined uuid) ≡ Some reply → given ≡ given_by (if opens then goes.Answered else goes.Joined (record { node = node; inc = serving_inc (service before); number = row.number })) → Holds reply given
          by_state true opens is gives = same_end (replies.Busy node s.inc) None given is gives (busy s row in_it (there node capacity uuid before legal s in_it row at) opens)
          by_state false opens is gives =
              same_end (replies.Joined uuid) (Some (record { node = node; inc = s.inc; number = row.number })) given is (gives ∙ ap (λ (i : ℕ). Some (record { node = node; inc = i; number = row.number })) (ap serving_inc in_it)) (joined s row in_it (there node capacity uuid before legal s in_it row at) opens)

  by_answer : (given : Option Attempt) → AnswersAtOnce aims.Begin node uuid before reply given → Holds reply given
  by_answer given (inl (is, none)) = subst (λ (r : Reply). Holds r given) (sym is) (subst (Holds replies.NoMemory) (sym none) memory)
  by_answer given (inr (is, gives)) = refused given (service before) refl is gives

-- the same of a forget, which joins none
module _ (node capacity : ℕ) (uuid : List ℕ) (before : List NodeEntry) (legal : LegalNode node capacity before) (Holds : Reply → Type 0)
    (memory : Holds replies.NoMemory)
    (down : service before ≡ None → Holds (replies.NodeDown node (newest before)))
    (busy : (s : Service) (row : Row) → service before ≡ Some s → IsThere uuid s row (record { node = node; inc = s.inc; number = row.number }) → Holds (replies.Busy node s.inc))
    (reply : Reply) where
  forget_refused : (found : Option Service) → service before ≡ found → admit_refusal forget_refusal_by uuid (node_of node before) found ≡ Some reply → Holds reply
  forget_refused None in_it is = subst Holds (one_reply (replies.NodeDown node (newest before)) reply is) (down in_it)
  forget_refused (Some s) in_it is = by_row (found_row uuid (node_of node before)) refl is
    where
      by_row : (found : Option Row) → found_row uuid (node_of node before) ≡ found → forget_refusal_by node s.inc uuid found ≡ Some reply → Holds reply
      by_row None at is = absurd (none_is is)
        where
          none_is : None ≡ Some reply → ⊥
          none_is e = cc
      by_row (Some row) at is = subst Holds (one_reply (replies.Busy node s.inc) reply is) (busy s row in_it (there node capacity uuid before legal s in_it row at))

  by_forget : (reply ≡ replies.NoMemory) ⊎ (admit_refusal forget_refusal_by uuid (node_of node before) (service before) ≡ Some reply) → Holds reply
  by_forget (inl is) = subst Holds (sym is) memory
  by_forget (inr is) = forget_refused (service before) refl is

-- what it gives
given_begin : (by : By) (node : ℕ) (uuid : List ℕ) (capacity : ℕ) (before : List NodeEntry) (front : ℕ) → LegalNode node capacity before → (reply : Reply) (given : Option Attempt) → AnswersAtOnce aims.Begin node uuid before reply given → attempt_of (turn_at by node before front acts.Nothing (Some reply) ∷ []) ≡ given
given_begin by node uuid capacity before front legal reply given at_once =
    by_answer node capacity uuid before legal (λ told its. attempt_of (turn_at by node before front acts.Nothing (Some told) ∷ []) ≡ its) refl (λ none. refl) (λ s row in_it is opens. refl)
    (λ s row in_it is opens. ap (λ (those : List NodeEntry). first_of (present_of uuid those)) (ap part_in in_it) ∙ is.only) reply given at_once

-- a forget gives none, and no answer of a first turn that gives one is a forget's
pub given_once : (aim : Aim) (by : By) (node : ℕ) (uuid : List ℕ) (capacity : ℕ) (before : List NodeEntry) (front : ℕ) → LegalNode node capacity before → (reply : Reply) (given : Option Attempt) → AnswersAtOnce aim node uuid before reply given → attempt_of (turn_at by node before front acts.Nothing (Some reply) ∷ []) ≡ given
given_once aims.Begin by node uuid capacity before front legal reply given at_once = given_begin by node uuid capacity before front legal reply given at_once
given_once aims.Forget by node uuid capacity before front legal reply given at_once = by_forget node capacity uuid before legal (λ told. attempt_of (turn_at by node before front acts.Nothing (Some told) ∷ []) ≡ None) refl (λ none. refl) (λ s row in_it is. refl) reply at_once.0 ∙ sym at_once.1

-- ---- its turn

-- a turn at the node that such a line names, of its words
pub right_at : (aim : Aim) (by : By) (node : ℕ) (uuid : List ℕ) (hold : Hold) (before : List NodeEntry) (front : ℕ) (act : NodeAct) (answer : Option Reply) → IsTrue (makes_at_node (asks aim uuid node) act) → IsTrue (node_words (asks aim uuid node) act)
    → IsTrue (is_right (asks aim uuid node) hold (turn_at by node before front act answer))
right_at aims.Begin by node uuid hold before front act answer made carries = and_from _ _ (and_from _ _ (and_from _ _ made carries) (eq-eqb node node refl)) refl
right_at aims.Forget by node uuid hold before front act answer made carries = and_from _ _ (and_from _ _ (and_from _ _ made carries) (eq-eqb node node refl)) refl

-- ---- its cause

module _ (by : By) (node : ℕ) (uuid : List ℕ) (hold : Hold) (view : LineView) (capacity : ℕ) (before : List NodeEntry) (front : ℕ) (legal : LegalNode node capacity before) where
  -- the line whose one turn answered so
  abbrev ran : Aim → Reply → LineView
  ran aim told = with_words (asks aim uuid node) hold (turn_at by node before front acts.Nothing (Some told) ∷ []) view

  down : (aim : Aim) → service before ≡ None → Caused (ran aim (replies.NodeDown node (newest before))) (replies.NodeDown node (newest before))
  down aims.Begin none =
      and_from _ _ (and_from _ _ (eq-eqb node node refl) (eq-eqb (newest before) (newest (before ++ record { front = front; by = by; act = acts.Nothing; answer = Some (replies.NodeDown node (newest before)) } ∷ [])) (sym (newest-snoc before (record { front = front; by = by; act = acts.Nothing; answer = Some (replies.NodeDown node (newest before)) })))))
      (or_left _ _ (or_left _ _ (ap not (no_service (newest before) (node_state before) none))))
  down aims.Forget none =
      and_from _ _ (and_from _ _ (eq-eqb node node refl) (eq-eqb (newest before) (newest (before ++ record { front = front; by = by; act = acts.Nothing; answer = Some (replies.NodeDown node (newest before)) } ∷ [])) (sym (newest-snoc before (record { front = front; by = by; act = acts.Nothing; answer = Some (replies.NodeDown node (newest before)) })))))
      (or_left _ _ (or_left _ _ (ap not (no_service (newest before) (node_state before) none))))

  busy : (s : Service) (row : Row) (a : Attempt) → service before ≡ Some s → IsThere uuid s row a → is_opening row.state ≡ true → Caused (ran aims.Begin (replies.Busy node s.inc)) (replies.Busy node s.inc)
  busy s row a in_it is opens =
      or_left _ _ (or_left _ _ (and_from _ _ (eq-eqb node node refl)
      (subst (λ (o : Option Service). IsTrue (in_service (λ t. (s.inc == t.inc) && has_opening uuid t) o)) (sym in_it)
      (and_from _ _ (eq-eqb s.inc s.inc refl) (any_from (λ (b : Attempt). is_opening (state_in b s)) a (present_of uuid s.part) is.among (ap is_opening (sym is.state) ∙ opens))))))

  -- a forget is told so of any attempt
  busy_forget : (s : Service) (row : Row) (a : Attempt) → service before ≡ Some s → IsThere uuid s row a → Caused (ran aims.Forget (replies.Busy node s.inc)) (replies.Busy node s.inc)
  busy_forget s row a in_it is =
      or_left _ _ (and_from _ _ (eq-eqb node node refl)
      (subst (λ (o : Option Service). IsTrue (in_service (λ t. (s.inc == t.inc) && has_attempt uuid t) o)) (sym in_it)
      (and_from _ _ (eq-eqb s.inc s.inc refl) (some_there (present_of uuid s.part) is.among))))
    where
      not_zero : (n : ℕ) → suc n ≡ 0 → ⊥
      not_zero n e = cc

      some_there : (xs : List Attempt) → In a xs → IsTrue (not (length xs == 0))
      some_there [] among = absurd among
      some_there (x ∷ xs) among = ap not (false_from_ne_true (suc (length xs) == 0) (λ e. not_zero (length xs) (eqb-true (suc (length xs)) 0 e)))

  joined : (s : Service) (row : Row) (a : Attempt) → service before ≡ Some s → IsThere uuid s row a → is_opening row.state ≡ false → Caused (ran aims.Begin (replies.Joined uuid)) (replies.Joined uuid)
  joined s row a in_it is opens =
      and_from _ _ (bytes_eq-refl uuid)
      (subst (λ (o : Option Service). IsTrue (in_service (has_opened uuid) o)) (sym in_it)
      (any_from (λ (b : Attempt). not (is_opening (state_in b s))) a (present_of uuid s.part) is.among (ap not (ap is_opening (sym is.state) ∙ opens))))

  pub goes_once : (aim : Aim) (reply : Reply) → GoesRightly (ran aim reply)
  goes_once aims.Begin reply = record { leads = refl; right = and_from _ _ (right_at aims.Begin by node uuid hold before front acts.Nothing (Some reply) refl refl) refl }
  goes_once aims.Forget reply = record { leads = refl; right = and_from _ _ (right_at aims.Forget by node uuid hold before front acts.Nothing (Some reply) refl refl) refl }

  caused_once : (aim : Aim) (reply : Reply) (given : Option Attempt) → AnswersAtOnce aim node uuid before reply given → Caused (ran aim reply) reply
  caused_once aims.Begin reply given at_once = by_answer node capacity uuid before legal (λ r its. Caused (ran aims.Begin r) r) refl (down aims.Begin) (λ s row in_it is_there opens. busy s row (record { node = node; inc = s.inc; number = row.number }) in_it is_there opens) (λ s row in_it is_there opens. joined s row (record { node = node; inc = s.inc; number = row.number }) in_it is_there opens) reply given at_once
  caused_once aims.Forget reply given at_once = by_forget node capacity uuid before legal (λ r. Caused (ran aims.Forget r) r) refl (down aims.Forget) (λ s row in_it is_there. busy_forget s row (record { node = node; inc = s.inc; number = row.number }) in_it is_there) reply at_once.0

  leads_once : (aim : Aim) (reply : Reply) → IsTrue (is_led_to_end (position_of (ran aim reply)))
  leads_once aims.Begin reply = refl
  leads_once aims.Forget reply = refl

  pub ends_once : (aim : Aim) (reply : Reply) (given : Option Attempt) → AnswersAtOnce aim node uuid before reply given → EndsRightly (ran aim reply)
  ends_once aim reply given at_once = record {
    leads = leads_once aim reply;
    answers = refl;
    caused = λ told is. subst (Caused (ran aim reply)) (one_reply reply told is) (caused_once aim reply given at_once);
  }
