-- What a node boots or serves is its newest incarnation, and an attempt's acts are those of its service.
use Rattle.std.proofs.Common.{◌≡◌, ℕ, ◌<◌, ◌≤◌, Bool, true, false, ◌&&◌, List, [], ◌∷◌, ◌++◌, length, refl, sym, ap, subst, ◌∙◌, inl, inr, eqb, append-nil, arith}
use Rattle.std.specs.Prelude.{IsFalse, IsTrue, None, Option, Some, filter, if◌then◌else◌, max, suc}
use Rattle.std.specs.List.{fold}
use Rattle.std.specs.Str.{bytes_eq}
use Rattle.std.proofs.lemmas.Bool.{and_parts, eq-eqb, eqb-true, false_from_ne_true, false≢true}
use Rattle.aft_records.specs.declared.stored.Commit.{Commit}
use Rattle.aft_model.specs.declared.caller.Attempt.{Attempt}
use Rattle.aft_model.specs.declared.node.NodeAct.{NodeAct}
use Rattle.aft_model.specs.declared.node.NodeAct.TheVariants.{Boot, BootStopped, Booting, Down, Nothing, Put}
use Rattle.aft_model.specs.declared.node.NodeEntry.{NodeEntry}
use Rattle.aft_model.specs.declared.reply.Reply.{Reply}
use Rattle.aft_model.specs.Attempts.{attempts, is_gone}
use Rattle.aft_model.specs.LegalNode.{LegalNode, may_be_done, may_follow_at, may_serve}
use Rattle.aft_model.specs.NodeRules.{may_begin_boot}
use Rattle.aft_model.specs.NodeState.{IsBooting, IsDown, IsServing, NodeState, Service, boots, goes_on, in_service, newest, newest_after, node_state, part, serves, service, service_in, state_after, stopped}
use Rattle.aft_model.proofs.Histories.{In, each_after_kept, each_after_snoc}
use Rattle.aft_model.proofs.Incarnations.{part-at}
use Rattle.aft_model.proofs.Services.{newest-snoc, node_state-snoc, serving}
use Rattle.law_attempts.specs.Acts.{acts_on, last_value, value_after}
use Rattle.law_attempts.proofs.Acts.{acting}
use Rattle.law_attempts.proofs.Lives.{lives}
use Rattle.law_attempts.proofs.Standing.{admitted_next, first_within}

-- ---- whom an act is of

served_by : (test : Service → Bool) (state : NodeState) → IsTrue (in_service test (service_in state)) → (s : Service) × (state ≡ IsServing s) × IsTrue (test s)
served_by test IsDown passed = absurd (false≢true passed)
served_by test (IsBooting inc running) passed = absurd (false≢true passed)
served_by test (IsServing s) passed = (s, refl, passed)

-- an act of an attempt is by the rules of a service
acts_in_service : (node capacity : ℕ) (a : Attempt) (history : List NodeEntry) (act : NodeAct) (answer : Option Reply) → IsTrue (acts_on a act) → IsTrue (may_be_done node capacity history act answer)
    → IsTrue (in_service (may_serve node capacity act answer) (service history))
acts_in_service node capacity a history Nothing answer acts rule = absurd (false≢true acts)
acts_in_service node capacity a history (Booting inc) answer acts rule = absurd (false≢true acts)
acts_in_service node capacity a history (Boot inc commits) answer acts rule = absurd (false≢true acts)
acts_in_service node capacity a history (BootStopped inc) answer acts rule = absurd (false≢true acts)
acts_in_service node capacity a history (Down inc) answer acts rule = absurd (false≢true acts)
acts_in_service node capacity a history act answer acts rule = rule

-- the service that an act of an attempt stands in is that of its incarnation
pub of_service : (node capacity : ℕ) (a : Attempt) (history : List NodeEntry) (act : NodeAct) (answer : Option Reply) → LegalNode node capacity history → IsTrue (acts_on a act) → IsTrue (may_be_done node capacity history act answer)
    → (s : Service) × (node_state history ≡ IsServing s) × (a.node ≡ node) × (a.inc ≡ s.inc)
of_service node capacity a history act answer legal acts rule =
    let at = served_by (may_serve node capacity act answer) (node_state history) (acts_in_service node capacity a history act answer acts rule) in
    let of = lives node capacity history at.0 legal at.1 in
    let listed : In a (attempts at.0.part) → (a.node ≡ node) × (a.inc ≡ at.0.inc) = λ among.
    (let within = first_within node at.0.inc (length (attempts at.0.part)) a (subst (In a) of.stands.numbered among) in (within.0, within.1)) in
    let is : (a.node ≡ node) × (a.inc ≡ at.0.inc) = elim (acting node capacity at.0 a act answer at.2 acts) [
      | inl there ↦ listed (of.stands.listed a there)
      | inr rest ↦ elim rest [
        | inl new ↦ (let next = (admitted_next node capacity at.0 act answer a at.2 new).0 in (ap (λ (x : Attempt). x.node) next, ap (λ (x : Attempt). x.inc) next))
        | inr some ↦ listed (of.stands.listed a (ap is_gone (of.runs a some)))
      ]
    ] in
    (at.0, at.1, is.0, is.1)

-- ---- the newest incarnation

-- the entries of an attempt
abbrev pub acts_of : Attempt → List NodeEntry → List NodeEntry
acts_of a entries = filter (λ entry. acts_on a entry.act) entries

-- what a node that boots or serves has to do with incarnations: it is the newest, and no attempt of one that boots has acted, and those of one that serves have in its part alone
abbrev Ages : ℕ → List NodeEntry → NodeState → Type 0
Ages n history IsDown = Unit {0}
Ages n history (IsBooting inc running) = (inc ≡ n) × ((a : Attempt) → n ≤ a.inc → acts_of a history ≡ [])
Ages n history (IsServing s) = (s.inc ≡ n) × ((a : Attempt) → a.inc ≡ s.inc → acts_of a history ≡ acts_of a s.part)

-- and no attempt of an incarnation to come has acted
record Aged (history : List NodeEntry) : Type 0 where
  pub none : (a : Attempt) → newest history < a.inc → acts_of a history ≡ []
  pub ages : Ages (newest history) history (node_state history)

of-snoc : (a : Attempt) (entries : List NodeEntry) (entry : NodeEntry) → acts_of a (entries ++ entry ∷ []) ≡ acts_of a entries ++ (if acts_on a entry.act then entry ∷ [] else [])
of-snoc a [] entry = refl
of-snoc a (e ∷ entries) entry = cases (acts_on a e.act) (of-snoc a entries entry)
  where
    cases : (t : Bool) → acts_of a (entries ++ entry ∷ []) ≡ acts_of a entries ++ (if acts_on a entry.act then entry ∷ [] else [])
        → (if t then e ∷ acts_of a (entries ++ entry ∷ []) else acts_of a (entries ++ entry ∷ [])) ≡ (if t then e ∷ acts_of a entries else acts_of a entries) ++ (if acts_on a entry.act then entry ∷ [] else [])
    cases true rest = ap (λ (l : List NodeEntry). e ∷ l) rest
    cases false rest = rest

silent-snoc : (a : Attempt) (entries : List NodeEntry) (entry : NodeEntry) → IsFalse (acts_on a entry.act) → acts_of a (entries ++ entry ∷ []) ≡ acts_of a entries
silent-snoc a entries entry silent = of-snoc a entries entry ∙ (ap (λ t. acts_of a entries ++ (if t then entry ∷ [] else [])) silent ∙ append-nil (acts_of a entries))

module _ (node capacity : ℕ) (history : List NodeEntry) (entry : NodeEntry) (legal : LegalNode node capacity history) (before : Aged history) where
  abbrev after : List NodeEntry
  after = history ++ entry ∷ []

  module _ (rule : IsTrue (may_be_done node capacity history entry.act entry.answer)) where
    -- an act of an attempt comes in a service of its incarnation, which is the newest
    acts_now : (a : Attempt) → IsTrue (acts_on a entry.act) → (s : Service) × (node_state history ≡ IsServing s) × (a.inc ≡ s.inc) × (s.inc ≡ newest history)
    acts_now a acts =
        let of = of_service node capacity a history entry.act entry.answer legal acts rule in
        (of.0, of.1, of.3, (subst (Ages (newest history) history) of.1 before.ages).0)

    silent_later : (a : Attempt) → newest history < a.inc → IsFalse (acts_on a entry.act)
    silent_later a later = false_from_ne_true (acts_on a entry.act) (λ acts. let now = acts_now a acts in let one = now.2 in let two = now.3 in absurd (omega arith))

    newest_more : newest history ≤ newest after
    newest_more = subst (λ (n : ℕ). newest history ≤ n) (sym (newest-snoc history entry)) (more (newest history) entry.act)
      where
        more : (n : ℕ) (act : NodeAct) → n ≤ newest_after n act
        more n (Booting inc) = omega arith
        more n act = omega arith

    none_after : (a : Attempt) → newest after < a.inc → acts_of a after ≡ []
    none_after a later =
        let grown = newest_more in
        let past : newest history < a.inc = omega arith in
        silent-snoc a history entry (silent_later a past) ∙ before.none a past

    -- an entry that leaves the newest incarnation, and a node that doesn't serve as it is
    ages_on : (state : NodeState) → node_state history ≡ state → Ages (newest history) after (goes_on state entry)
    ages_on IsDown is = tt
    ages_on (IsBooting inc running) is =
        let ages = subst (Ages (newest history) history) is before.ages in
        (ages.0, λ a least. silent-snoc a history entry (false_from_ne_true (acts_on a entry.act) (λ acts. two_states (acts_now a acts).0 inc running (sym (acts_now a acts).1 ∙ is))) ∙ ages.1 a least)
      where
        two_states : (s : Service) (i : ℕ) (r : Bool) → IsServing s ≡ IsBooting i r → ⊥
        two_states s i r same = cc
    ages_on (IsServing s) is =
        let ages = subst (Ages (newest history) history) is before.ages in
        (ages.0, λ a one. of-snoc a history entry ∙ (ap (λ (l : List NodeEntry). l ++ (if acts_on a entry.act then entry ∷ [] else [])) (ages.1 a one) ∙ sym (of-snoc a s.part entry)))

  ages_stopped : (state : NodeState) → node_state history ≡ state → ((a : Attempt) → IsFalse (acts_on a entry.act)) → Ages (newest history) after (stopped state entry)
  ages_stopped IsDown is silent = tt
  ages_stopped (IsBooting inc running) is silent =
      let ages = subst (Ages (newest history) history) is before.ages in
      (ages.0, λ a least. silent-snoc a history entry (silent a) ∙ ages.1 a least)
  ages_stopped (IsServing s) is silent =
      let ages = subst (Ages (newest history) history) is before.ages in
      (ages.0, λ a one. silent-snoc a history entry (silent a) ∙ (ages.1 a one ∙ sym (silent-snoc a s.part entry (silent a))))

  ages_booting : (inc : ℕ) (state : NodeState) → node_state history ≡ state → ((a : Attempt) → IsFalse (acts_on a entry.act)) → IsTrue (may_begin_boot inc (newest history) state) → Ages (max (newest history) inc) after (IsBooting inc true)
  ages_booting inc IsDown is silent begin =
      let next : inc ≡ suc (newest history) = eqb-true inc (suc (newest history)) begin in
      (omega arith, λ a least. silent-snoc a history entry (silent a) ∙ before.none a (omega arith))
  ages_booting inc (IsBooting booting running) is silent begin =
      let ages = subst (Ages (newest history) history) is before.ages in
      let same : inc ≡ booting = eqb-true inc booting (and_parts (eqb inc booting) _ begin).0 in
      let one : booting ≡ newest history = ages.0 in
      (omega arith, λ a least. silent-snoc a history entry (silent a) ∙ ages.1 a (omega arith))
  ages_booting inc (IsServing s) is silent begin = absurd (false≢true begin)

  ages_booted : (inc : ℕ) (commits : List Commit) (state : NodeState) → node_state history ≡ state → ((a : Attempt) → IsFalse (acts_on a entry.act)) → IsTrue (boots inc state) → Ages (newest history) after (IsServing (record { inc = inc; booted = commits; part = [] }))
  ages_booted inc commits IsDown is silent boot = absurd (false≢true boot)
  ages_booted inc commits (IsBooting booting running) is silent boot =
      let ages = subst (Ages (newest history) history) is before.ages in
      let same : inc ≡ booting = eqb-true inc booting boot in
      let one : booting ≡ newest history = ages.0 in
      (omega arith, λ a of. silent-snoc a history entry (silent a) ∙ ages.1 a (omega arith))
  ages_booted inc commits (IsServing s) is silent boot = absurd (false≢true boot)

  ages_after : (act : NodeAct) → entry.act ≡ act → IsTrue (may_be_done node capacity history act entry.answer) → Ages (newest_after (newest history) act) after (state_after (node_state history) entry act)
  ages_after (Booting inc) is rule = ages_booting inc (node_state history) refl (λ a. ap (acts_on a) is) (and_parts (may_begin_boot inc (newest history) (node_state history)) _ rule).0
  ages_after (Boot inc commits) is rule = ages_booted inc commits (node_state history) refl (λ a. ap (acts_on a) is) (and_parts (boots inc (node_state history)) _ rule).0
  ages_after (BootStopped inc) is rule = ages_stopped (node_state history) refl (λ a. ap (acts_on a) is)
  ages_after (Down inc) is rule = tt
  ages_after act is rule = ages_on (subst (λ (y : NodeAct). IsTrue (may_be_done node capacity history y entry.answer)) (sym is) rule) (node_state history) refl

  aged_more : IsTrue (may_follow_at node capacity history entry) → Aged after
  aged_more rule =
      let done = (and_parts _ (may_be_done node capacity history entry.act entry.answer) (and_parts _ _ rule).0).1 in record {
        none = none_after done;
        ages = subst (λ (n : ℕ). Ages n after (node_state after)) (sym (newest-snoc history entry))
            (subst (Ages (newest_after (newest history) entry.act) after) (sym (node_state-snoc history entry)) (ages_after entry.act refl done));
      }

aged : (node capacity : ℕ) (history : List NodeEntry) → LegalNode node capacity history → Aged history
aged node capacity history legal =
    each_after_kept (may_follow_at node capacity) Aged (λ h entry sofar rule before. aged_more node capacity h entry sofar before rule) [] history legal (record { none = λ a later. refl; ages = tt })

-- ---- the laws

pub serving_newest : (node capacity inc : ℕ) (history : List NodeEntry) → LegalNode node capacity history → IsTrue (serves inc (node_state history)) → newest history ≡ inc
serving_newest node capacity inc history legal serve =
    let at = serving inc (node_state history) serve in
    sym (subst (Ages (newest history) history) at.1 (aged node capacity history legal).ages).0 ∙ at.2

pub booting_newest : (node capacity inc : ℕ) (history : List NodeEntry) → LegalNode node capacity history → IsTrue (boots inc (node_state history)) → newest history ≡ inc
booting_newest node capacity inc history legal boot = cases (node_state history) (aged node capacity history legal).ages boot
  where
    cases : (state : NodeState) → Ages (newest history) history state → IsTrue (boots inc state) → newest history ≡ inc
    cases IsDown ages boot = absurd (false≢true boot)
    cases (IsBooting booting running) ages boot = sym (eqb-true inc booting boot ∙ ages.0)
    cases (IsServing s) ages boot = absurd (false≢true boot)

pub acts_in_part : (node capacity inc : ℕ) (a : Attempt) (history : List NodeEntry) → LegalNode node capacity history → IsTrue (serves inc (node_state history)) → a.inc ≡ inc → acts_of a history ≡ acts_of a (part history)
acts_in_part node capacity inc a history legal serve of =
    let at = serving inc (node_state history) serve in
    (subst (Ages (newest history) history) at.1 (aged node capacity history legal).ages).1 a (of ∙ sym at.2) ∙ ap (acts_of a) (sym (part-at history at.0 at.1))

pub acts_of_own : (node capacity : ℕ) (a : Attempt) (history : List NodeEntry) (entry : NodeEntry) → LegalNode node capacity (history ++ entry ∷ []) → IsTrue (acts_on a entry.act) → (a.node ≡ node) × IsTrue (serves a.inc (node_state history))
acts_of_own node capacity a history entry legal acts =
    let split = each_after_snoc (may_follow_at node capacity) [] history entry legal in
    let done = (and_parts _ (may_be_done node capacity history entry.act entry.answer) (and_parts _ _ split.1).0).1 in
    let of = of_service node capacity a history entry.act entry.answer split.0 acts done in
    (of.2, subst (λ (state : NodeState). IsTrue (serves a.inc state)) (sym of.1) (eq-eqb a.inc of.0.inc of.3))

-- ---- what runs over the acts of an attempt

-- a fold that other acts leave as it is is that over the attempt's acts
pub fold_of_acts : {B : Type 0} (f : B → NodeEntry → B) (a : Attempt) → ((b : B) (entry : NodeEntry) → IsFalse (acts_on a entry.act) → f b entry ≡ b) → (b : B) (entries : List NodeEntry) → fold f b entries ≡ fold f b (acts_of a entries)
fold_of_acts f a leaves b [] = refl
fold_of_acts {B} f a leaves b (entry ∷ entries) = cases (acts_on a entry.act) refl (fold_of_acts f a leaves (f b entry) entries)
  where
    cases : (t : Bool) → acts_on a entry.act ≡ t → fold f (f b entry) entries ≡ fold f (f b entry) (acts_of a entries) → fold f (f b entry) entries ≡ fold f b (if t then entry ∷ acts_of a entries else acts_of a entries)
    cases true acts rest = rest
    cases false other rest = rest ∙ ap (λ (c : B). fold f c (acts_of a entries)) (leaves b entry other)

value_left : (a : Attempt) (key : List ℕ) (before : Option (List ℕ)) (act : NodeAct) → IsFalse (acts_on a act) → value_after a key before act ≡ before
value_left a key before (Put b put value) other = ap (λ t. if t && bytes_eq key put then Some value else before) other
value_left a key before act other = refl

pub last_in_part : (node capacity inc : ℕ) (a : Attempt) (key : List ℕ) (history : List NodeEntry) → LegalNode node capacity history → IsTrue (serves inc (node_state history)) → a.inc ≡ inc → last_value a key history ≡ last_value a key (part history)
last_in_part node capacity inc a key history legal serve of =
    let step : Option (List ℕ) → NodeEntry → Option (List ℕ) = λ before entry. value_after a key before entry.act in
    let own : (entries : List NodeEntry) → last_value a key entries ≡ fold step None (acts_of a entries) = fold_of_acts step a (λ before entry other. value_left a key before entry.act other) None in
    own history ∙ (ap (fold step None) (acts_in_part node capacity inc a history legal serve of) ∙ sym (own (part history)))
