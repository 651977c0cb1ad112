-- Whatever an attempt that is there has read is known, but for keys that were absent.
use Rattle.std.proofs.Common.{◌≡◌, ℕ, ◌<◌, ◌≤◌, Bool, true, false, ◌&&◌, not, List, [], ◌∷◌, ◌++◌, length, refl, sym, ap, subst, ◌∙◌, ◌⊎◌, inl, inr, eqb, append-nil, arith, length-append}
use Rattle.std.specs.Prelude.{IsTrue, IsFalse, Option, Some, None, filter, suc, if◌then◌else◌}
use Rattle.std.specs.List.{list_any, fold}
use Rattle.std.specs.Str.{bytes_eq}
use Rattle.std.proofs.lemmas.Bool.{and_parts, eqb-true, not-true, true≢false, false≢true}
use Rattle.std.proofs.lemmas.List.Concat.{flat_map-append}
use Rattle.std.proofs.lemmas.List.Sums.{fold-append}
use Rattle.aft_id.specs.TxnId.{zero_id, same_id}
use Rattle.aft_id.specs.declared.txn_id.TxnId.{TxnId}
use Rattle.aft_records.specs.Superseded.{wrote}
use Rattle.aft_records.specs.declared.stored.Commit.{Commit}
use Rattle.aft_model.specs.declared.caller.Attempt.{Attempt}
use Rattle.aft_model.specs.declared.choice.Choice.{Choice}
use Rattle.aft_model.specs.declared.choice.Choice.TheVariants as choices
use Rattle.aft_model.specs.declared.choice.Picked.{Picked}
use Rattle.aft_model.specs.declared.choice.Picked.TheVariants as picked
use Rattle.aft_model.specs.declared.node.NodeAct.{NodeAct}
use Rattle.aft_model.specs.declared.node.NodeAct.TheVariants.{Admit, Begin, Unadmit, Select, Start, Settle, Leave, Doubt, End}
use Rattle.aft_model.specs.declared.node.NodeEntry.{NodeEntry}
use Rattle.aft_model.specs.declared.read_set.ReadPair.{ReadPair}
use Rattle.aft_model.specs.declared.reply.Reply.{Reply}
use Rattle.aft_model.specs.Attempts.{AttemptState, IsGone, IsOpening, IsRunning, IsCommitting, IsInDoubt, IsLeaving, same_attempt, attempt_after, attempt_state, is_opening, is_running, is_committing, is_in_doubt, is_gone, tried_again, doubted, admitted_by, attempts, present, present_of, buffer, buffered, is_read, with_read, read_by, reads_after, reads, is_pinned}
use Rattle.aft_records.specs.Kept.{Kept, kept_value}
use Rattle.aft_model.specs.Cache.{cache}
use Rattle.aft_model.specs.Choice.{fits, fitting, blockers, none_chosen, chosen, choice}
use Rattle.aft_records.specs.Commits.{has_id, greatest, versions}
use Rattle.aft_model.specs.Known.{known_after, known_in}
use Rattle.aft_model.specs.LegalNode.{may_serve}
use Rattle.aft_model.specs.NodeRules.{may_admit, may_start, may_leave, kept_or_fetched, picked_by, own_or, pick, same_picked, answers_pick}
use Rattle.aft_model.specs.NodeState.{Service, extended}
use Rattle.aft_model.proofs.Greatest.{greatest_among}
use Rattle.aft_model.proofs.Histories.{In, in_append, any_found, any_from}
use Rattle.aft_model.proofs.Ids.{same_ids, same_id-refl}
use Rattle.aft_model.proofs.Knowledge.{has_there, known_in-extended, pinned_extended}
use Rattle.aft_model.proofs.Lists.{in_snoc, in_filter, filter_in, in_map}

-- ---- what a get reads

-- a version that is chosen is known
version_known : (key : List ℕ) (pairs : List ReadPair) (known : List Commit) (id : TxnId) → choice key pairs known ≡ choices.Version id → IsTrue (has_id id known)
version_known key pairs known id is =
    let among = greatest_among (fitting key pairs known) id (cases (is_read (record { key = key; id = zero_id }) pairs) (greatest (fitting key pairs known)) (versions key known) is) in
    let version = in_filter (λ (i : TxnId). fits key i pairs known) id (versions key known) among in
    let found = in_map (λ (c : Commit). c.id) id (filter (wrote key) known) version.0 in
    has_there id found.0 known (in_filter (wrote key) found.0 known found.1).0 found.2
  where
    cases : (t : Bool) (o : Option TxnId) (ids : List TxnId) → (if t then choices.Absent else chosen o (none_chosen ids (blockers key pairs known))) ≡ choices.Version id → o ≡ Some id
    cases true o ids is = cc
    cases false None [] is = cc
    cases false None (i ∷ is') is = cc
    cases false (Some g) ids is = cc

-- what a pick reads is the zero id, or the version that was chosen
picked_read : (key : List ℕ) (own : Option (List ℕ)) (kept : List Kept) (ch : Choice) (id : TxnId) → In id (read_by (own_or own (picked_by key kept ch))) → (id ≡ zero_id) ⊎ (ch ≡ choices.Version id)
picked_read key (Some value) kept ch id among = absurd among
picked_read key None kept (choices.Version i) id among = inr (ap choices.Version (sym (cases (kept_value key i kept) among)))
  where
    cases : (o : Option (List ℕ)) → In id (read_by (kept_or_fetched i o)) → id ≡ i
    cases (Some value) (inl is) = is
    cases (Some value) (inr nowhere) = absurd nowhere
    cases None (inl is) = is
    cases None (inr nowhere) = absurd nowhere
picked_read key None kept choices.Absent id (inl is) = inl is
picked_read key None kept choices.Absent id (inr nowhere) = absurd nowhere
picked_read key None kept (choices.NoneFits blocked) id among = absurd among

-- picks that are the same read the same
pub same_read : (p q : Picked) → IsTrue (same_picked p q) → read_by p ≡ read_by q
same_read (picked.Own value) (picked.Own value') same = refl
same_read (picked.Cached id value) (picked.Cached id' value') same = ap (λ i. i ∷ []) (same_ids id id' (and_parts (same_id id id') (bytes_eq value value') same).0)
same_read (picked.Fetch id) (picked.Fetch id') same = ap (λ i. i ∷ []) (same_ids id id' same)
same_read picked.Absent picked.Absent same = refl
same_read (picked.NoneFits blocked) (picked.NoneFits blocked') same = refl
same_read p q same = absurd (false≢true same)

with_read_in : (p : ReadPair) (before : List ReadPair) (pair : ReadPair) → In pair (with_read p before) → In pair before ⊎ (pair ≡ p)
with_read_in p before pair among = cases (is_read p before) among
  where
    cases : (t : Bool) → In pair (if t then before else before ++ p ∷ []) → In pair before ⊎ (pair ≡ p)
    cases true among = inl among
    cases false among = in_snoc pair before p among

-- what reads have after a pick they had, or the pick read it
read_cases : (key : List ℕ) (before : List ReadPair) (ids : List TxnId) (pair : ReadPair) → In pair (fold (λ (pairs : List ReadPair) (id : TxnId). with_read (record { key = key; id = id }) pairs) before ids)
    → In pair before ⊎ In pair.id ids
read_cases key before [] pair among = inl among
read_cases key before (id ∷ ids) pair among =
    elim (read_cases key (with_read (record { key = key; id = id }) before) ids pair among) [
      | inl sooner ↦ elim (with_read_in (record { key = key; id = id }) before pair sooner) [ inl was ↦ inl was | inr here ↦ inr (inl (ap (λ (p : ReadPair). p.id) here)) ]
      | inr later ↦ inr (inr later)
    ]

-- ---- attempts

pub same_attempts : (a b : Attempt) → IsTrue (same_attempt a b) → a ≡ b
same_attempts a b same =
    let parts = and_parts (eqb a.node b.node && eqb a.inc b.inc) (eqb a.number b.number) same in
    let first = and_parts (eqb a.node b.node) (eqb a.inc b.inc) parts.0 in
    let attempt : ℕ → ℕ → ℕ → Attempt = λ n i k. record { node = n; inc = i; number = k } in
    ap (λ n. attempt n a.inc a.number) (eqb-true a.node b.node first.0) ∙ ap (λ i. attempt b.node i a.number) (eqb-true a.inc b.inc first.1) ∙ ap (λ k. attempt b.node b.inc k) (eqb-true a.number b.number parts.1)

-- an attempt in some state is there
abbrev pub There : AttemptState → Type 0
There state = IsFalse (is_gone state)

pub opening_there : (state : AttemptState) → IsTrue (is_opening state) → There state
opening_there IsOpening is = refl
opening_there state is = absurd (false≢true is)

pub running_there : (state : AttemptState) → IsTrue (is_running state) → There state
running_there IsRunning is = refl
running_there state is = absurd (false≢true is)

pub committing_there : (state : AttemptState) → IsTrue (is_committing state) → There state
committing_there (IsCommitting c) is = refl
committing_there state is = absurd (false≢true is)

pub doubt_there : (state : AttemptState) → IsTrue (is_in_doubt state) → There state
doubt_there (IsInDoubt c) is = refl
doubt_there state is = absurd (false≢true is)

-- an attempt that is there after an act of one that was there was there before
was_there : (part : List NodeEntry) (a b : Attempt) (after : AttemptState) → There (attempt_state b part) → There (if same_attempt a b then after else attempt_state a part) → There (attempt_state a part)
was_there part a b after of_b there = cases (same_attempt a b) refl there
  where
    cases : (t : Bool) → same_attempt a b ≡ t → There (if t then after else attempt_state a part) → There (attempt_state a part)
    cases true same there = subst (λ (x : Attempt). There (attempt_state x part)) (sym (same_attempts a b same)) of_b
    cases false other there = there

-- nor is one that an act takes away
still_there : (part : List NodeEntry) (a b : Attempt) → There (if same_attempt a b then IsGone else attempt_state a part) → There (attempt_state a part)
still_there part a b there = cases (same_attempt a b) there
  where
    cases : (t : Bool) → There (if t then IsGone else attempt_state a part) → There (attempt_state a part)
    cases true there = absurd (true≢false there)
    cases false there = there

first_part : (x y : Bool) → IsTrue (x && y) → IsTrue x
first_part x y both = (and_parts x y both).0

pub start_runs : (s : Service) (a : Attempt) (now : ℕ) (c : Commit) → IsTrue (may_start s a now c) → IsTrue (is_running (attempt_state a s.part))
start_runs s a now c rule = first_part _ _ (first_part _ _ (first_part _ _ (first_part _ _ (first_part _ _ (first_part _ _ rule)))))

admit_number : (node : ℕ) (s : Service) (a : Attempt) (uuid : List ℕ) → IsTrue (may_admit node s a uuid) → a.number ≡ suc (length (attempts s.part))
admit_number node s a uuid rule =
    eqb-true a.number (suc (length (attempts s.part)))
    (and_parts (eqb a.node node && eqb a.inc s.inc) (eqb a.number (suc (length (attempts s.part)))) (first_part _ (eqb (length (present_of uuid s.part)) 0) rule)).1

module _ (node capacity : ℕ) (s : Service) where
  -- an attempt that is there after an act was there, or the act admits it
  pub there_before : (act : NodeAct) (answer : Option Reply) (a : Attempt) → IsTrue (may_serve node capacity act answer s) → There (attempt_after a (attempt_state a s.part) act) → There (attempt_state a s.part) ⊎ In a (admitted_by act)
  there_before (Admit b uuid) answer a rule there = cases (same_attempt a b) refl there
    where
      cases : (t : Bool) → same_attempt a b ≡ t → There (if t then IsOpening else attempt_state a s.part) → There (attempt_state a s.part) ⊎ In a (b ∷ [])
      cases true same there = inr (inl (same_attempts a b same))
      cases false other there = inl there
  there_before (Begin b) answer a rule there = inl (was_there s.part a b IsRunning (opening_there (attempt_state b s.part) (and_parts (is_opening (attempt_state b s.part)) _ rule).0) there)
  there_before (Unadmit b) answer a rule there = inl (still_there s.part a b there)
  there_before (Start b now c) answer a rule there = inl (was_there s.part a b (IsCommitting c) (running_there (attempt_state b s.part) (start_runs s b now c (and_parts (may_start s b now c) _ rule).0)) there)
  there_before (Settle b) answer a rule there = inl (was_there s.part a b (tried_again (attempt_state a s.part)) (doubt_there (attempt_state b s.part) (and_parts (is_in_doubt (attempt_state b s.part)) _ rule).0) there)
  there_before (Leave b) answer a rule there = inl (was_there s.part a b IsLeaving (running_there (attempt_state b s.part) (first_part _ _ (and_parts (may_leave s b) _ rule).0)) there)
  there_before (Doubt b) answer a rule there = inl (was_there s.part a b (doubted (attempt_state a s.part)) (committing_there (attempt_state b s.part) (and_parts (is_committing (attempt_state b s.part)) _ rule).0) there)
  there_before (End b) answer a rule there = inl (still_there s.part a b there)
  there_before act answer a rule there = inl there

  -- an attempt that is admitted has the next number
  admitted_number : (act : NodeAct) (answer : Option Reply) (a : Attempt) → IsTrue (may_serve node capacity act answer s) → In a (admitted_by act) → a.number ≡ suc (length (attempts s.part))
  admitted_number (Admit b uuid) answer a rule (inr nowhere) = absurd nowhere
  admitted_number (Admit b uuid) answer a rule (inl is) = ap (λ (x : Attempt). x.number) is ∙ admit_number node s b uuid (and_parts (may_admit node s b uuid) _ rule).0
  admitted_number act answer a rule among = absurd among

  -- what an attempt has read after an act it had read, or it is there, and what it read is known or absent
  read_before : (act : NodeAct) (answer : Option Reply) (a : Attempt) (pair : ReadPair) → IsTrue (may_serve node capacity act answer s) → In pair (reads_after a (reads a s.part) act)
      → In pair (reads a s.part) ⊎ (There (attempt_state a s.part) × ((pair.id ≡ zero_id) ⊎ IsTrue (has_id pair.id (known_after (known_in s) act))))
  read_before (Select b key p) answer a pair rule among = cases (same_attempt a b) refl among
    where
      cases : (t : Bool) → same_attempt a b ≡ t → In pair (if t then fold (λ (pairs : List ReadPair) (id : TxnId). with_read (record { key = key; id = id }) pairs) (reads a s.part) (read_by p) else reads a s.part)
          → In pair (reads a s.part) ⊎ (There (attempt_state a s.part) × ((pair.id ≡ zero_id) ⊎ IsTrue (has_id pair.id (known_in s))))
      cases false other among = inl among
      cases true same among =
          let parts = and_parts (is_running (attempt_state b s.part) && same_picked (pick capacity s b key) p) (answers_pick p answer) rule in
          let both = and_parts (is_running (attempt_state b s.part)) (same_picked (pick capacity s b key) p) parts.0 in
          elim (read_cases key (reads a s.part) (read_by p) pair among) [
            | inl was ↦ inl was
            | inr new ↦ inr (
              subst (λ (x : Attempt). There (attempt_state x s.part)) (sym (same_attempts a b same)) (running_there (attempt_state b s.part) both.0),
              elim (picked_read key (buffered key (buffer b s.part)) (cache capacity s.part) (choice key (reads b s.part) (known_in s)) pair.id (subst (In pair.id) (sym (same_read (pick capacity s b key) p both.1)) new)) [
                | inl zero ↦ inl zero
                | inr is ↦ inr (version_known key (reads b s.part) (known_in s) pair.id is)
              ],
            )
          ]
  read_before act answer a pair rule among = inl among

-- ---- from entry to entry

pub attempt_state-snoc : (a : Attempt) (part : List NodeEntry) (entry : NodeEntry) → attempt_state a (part ++ entry ∷ []) ≡ attempt_after a (attempt_state a part) entry.act
attempt_state-snoc a part entry = fold-append (λ (before : AttemptState) (e : NodeEntry). attempt_after a before e.act) IsGone part (entry ∷ [])

pub reads-snoc : (a : Attempt) (part : List NodeEntry) (entry : NodeEntry) → reads a (part ++ entry ∷ []) ≡ reads_after a (reads a part) entry.act
reads-snoc a part entry = fold-append (λ (before : List ReadPair) (e : NodeEntry). reads_after a before e.act) [] part (entry ∷ [])

pub attempts-snoc : (part : List NodeEntry) (entry : NodeEntry) → attempts (part ++ entry ∷ []) ≡ attempts part ++ admitted_by entry.act
attempts-snoc part entry = flat_map-append (λ (e : NodeEntry). admitted_by e.act) part (entry ∷ []) ∙ ap (λ more. attempts part ++ more) (append-nil (admitted_by entry.act))

pub has_some : {A : Type 0} (x : A) (xs : List A) → In x xs → 0 < length xs
has_some x [] among = absurd among
has_some x (y ∷ ys) among = omega arith

-- attempts that are there, or have read, were admitted; and what those have read that are there is known, or absent
pub record Tracked (s : Service) : Type 0 where
  pub admitted : (a : Attempt) → There (attempt_state a s.part) → a.number ≤ length (attempts s.part)
  pub reading : (a : Attempt) (pair : ReadPair) → In pair (reads a s.part) → a.number ≤ length (attempts s.part)
  pub known : (a : Attempt) (pair : ReadPair) → In a (present s.part) → In pair (reads a s.part) → (pair.id ≡ zero_id) ⊎ IsTrue (has_id pair.id (known_in s))

pub tracked_at_first : (inc : ℕ) (booted : List Commit) → Tracked (record { inc = inc; booted = booted; part = [] })
tracked_at_first inc booted = record { admitted = λ a there. absurd (true≢false there); reading = λ a pair among. absurd among; known = λ a pair there among. absurd there }

module _ (node capacity : ℕ) (s : Service) (entry : NodeEntry) (rule : IsTrue (may_serve node capacity entry.act entry.answer s)) (before : Tracked s) where
  longer : length (attempts s.part) ≤ length (attempts (s.part ++ entry ∷ []))
  longer = rw (attempts-snoc s.part entry, length-append) (omega arith)

  admitted_snoc : (a : Attempt) → There (attempt_state a (s.part ++ entry ∷ [])) → a.number ≤ length (attempts (s.part ++ entry ∷ []))
  admitted_snoc a there =
      elim (there_before node capacity s entry.act entry.answer a rule (subst There (attempt_state-snoc a s.part entry) there)) [
        | inl was ↦ (let least = before.admitted a was in let more = longer in omega arith)
        | inr new ↦ (let number = admitted_number node capacity s entry.act entry.answer a rule new in
            let one = has_some a (admitted_by entry.act) new in
            rw (attempts-snoc s.part entry, length-append) (omega arith))
      ]

  reading_snoc : (a : Attempt) (pair : ReadPair) → In pair (reads a (s.part ++ entry ∷ [])) → a.number ≤ length (attempts (s.part ++ entry ∷ []))
  reading_snoc a pair among =
      let more = longer in
      elim (read_before node capacity s entry.act entry.answer a pair rule (subst (In pair) (reads-snoc a s.part entry) among)) [
        | inl was ↦ (let least = before.reading a pair was in omega arith)
        | inr new ↦ (let least = before.admitted a new.0 in omega arith)
      ]

  -- an attempt that had read wasn't admitted now
  not_new : (a : Attempt) → a.number ≤ length (attempts s.part) → In a (admitted_by entry.act) → ⊥
  not_new a least new = let number = admitted_number node capacity s entry.act entry.answer a rule new in omega arith

  known_snoc : (a : Attempt) (pair : ReadPair) → In a (present (s.part ++ entry ∷ [])) → In pair (reads a (s.part ++ entry ∷ [])) → (pair.id ≡ zero_id) ⊎ IsTrue (has_id pair.id (known_in (extended s entry)))
  known_snoc a pair there among =
      elim (read_before node capacity s entry.act entry.answer a pair rule (subst (In pair) (reads-snoc a s.part entry) among)) [
        | inl was ↦ (let among = present_before (before.reading a pair was) in
            elim (before.known a pair among was) [
              | inl zero ↦ inl zero
              | inr has ↦ inr (pinned_extended node capacity s entry pair.id rule (pinned_by among was) has)
            ])
        | inr new ↦ elim new.1 [ inl zero ↦ inl zero | inr has ↦ inr (subst (λ commits. IsTrue (has_id pair.id commits)) (sym (known_in-extended s entry)) has) ]
      ]
    where
      present_before : a.number ≤ length (attempts s.part) → In a (present s.part)
      present_before least =
          let found = in_filter (λ (x : Attempt). not (is_gone (attempt_state x (s.part ++ entry ∷ [])))) a (attempts (s.part ++ entry ∷ [])) there in
          let one_of : In a (attempts s.part) =
          elim (in_append a (attempts s.part) (admitted_by entry.act) (subst (In a) (attempts-snoc s.part entry) found.0)) [ inl was ↦ was | inr new ↦ absurd (not_new a least new) ] in
          let stands : There (attempt_state a s.part) =
          elim (there_before node capacity s entry.act entry.answer a rule (subst There (attempt_state-snoc a s.part entry) (not-true (is_gone (attempt_state a (s.part ++ entry ∷ []))) found.1))) [ inl was ↦ was | inr new ↦ absurd (not_new a least new) ] in
          filter_in (λ (x : Attempt). not (is_gone (attempt_state x s.part))) a (attempts s.part) one_of (ap not stands)

      pinned_by : In a (present s.part) → In pair (reads a s.part) → IsTrue (is_pinned pair.id s.part)
      pinned_by present_there was =
          any_from (λ (x : Attempt). list_any (λ (p : ReadPair). same_id pair.id p.id) (reads x s.part)) a (present s.part) present_there
          (any_from (λ (p : ReadPair). same_id pair.id p.id) pair (reads a s.part) was (same_id-refl pair.id))

  pub tracked_extended : Tracked (extended s entry)
  tracked_extended = record { admitted = admitted_snoc; reading = reading_snoc; known = known_snoc }

-- a pinned id is known, or the zero id
pub pinned_known : (s : Service) (id : TxnId) → Tracked s → IsTrue (is_pinned id s.part) → (id ≡ zero_id) ⊎ IsTrue (has_id id (known_in s))
pinned_known s id tracked pinned =
    let by = any_found (λ (a : Attempt). list_any (λ (p : ReadPair). same_id id p.id) (reads a s.part)) (present s.part) pinned in
    let at = any_found (λ (p : ReadPair). same_id id p.id) (reads by.0 s.part) by.2 in
    subst (λ (i : TxnId). (i ≡ zero_id) ⊎ IsTrue (has_id i (known_in s))) (sym (same_ids id at.0.id at.2)) (tracked.known by.0 at.0 by.1 at.1)
