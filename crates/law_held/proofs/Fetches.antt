-- One entry more at a node keeps what each moment keeps of fetches.
use Rattle.std.proofs.Common.{◌≡◌, ℕ, suc, Bool, true, false, ◌&&◌, ◌||◌, List, [], ◌∷◌, ◌++◌, ◌-◌, length, refl, sym, ap, subst, ◌∙◌, ◌⊎◌, inl, inr, append-nil, append_assoc, eqb, arith}
use Rattle.std.specs.Prelude.{IsTrue, IsFalse, Option, Some, if◌then◌else◌, nat_lt}
use Rattle.std.specs.List.{fold, list_any}
use Rattle.std.specs.Str.{bytes_eq}
use Rattle.std.proofs.lemmas.Bool.{and_from, and_parts, cases_Bool, eq-eqb, eqb-true, false≢true, lt-ltb, or_cases, or_left, or_right, true≢false}
use Rattle.std.proofs.lemmas.List.Sums.{fold-append}
use Rattle.aft_id.specs.declared.txn_id.TxnId.{TxnId}
use Rattle.aft_id.specs.TxnId.{same_id}
use Rattle.aft_model.specs.declared.caller.Attempt.{Attempt}
use Rattle.aft_model.specs.declared.caller.By.{By}
use Rattle.aft_model.specs.declared.choice.Picked.TheVariants as picked
use Rattle.aft_model.specs.declared.node.NodeAct.{NodeAct}
use Rattle.aft_model.specs.declared.node.NodeAct.TheVariants as acts
use Rattle.aft_model.specs.declared.node.NodeEntry.{NodeEntry}
use Rattle.aft_model.specs.declared.read_set.ReadPair.{ReadPair}
use Rattle.aft_model.specs.Attempts.{AttemptState, attempt_state, ends_fetch, fetches, is_read, is_running, open_after, open_reads, read_by, reads, reads_after, same_attempt, with_read}
use Rattle.aft_model.specs.History.{each_prefix}
use Rattle.aft_model.specs.LegalNode.{LegalNode}
use Rattle.aft_model.specs.NodeState.{IsBooting, IsServing, NodeState, Service, extended, goes_on, node_state, part, part_in, serves, service_in, state_after, stopped}
use Rattle.aft_model.specs.ScanRun.{same_line}
use Rattle.aft_model.proofs.Histories.{In, any_found, any_from, in_back, in_front}
use Rattle.aft_model.proofs.Ids.{same_id-refl, same_ids}
use Rattle.aft_model.proofs.Lists.{filter_in, fold_kept}
use Rattle.aft_model.proofs.Pins.{reads-snoc, same_attempts}
use Rattle.aft_model.proofs.Services.{node_state-snoc}
use Rattle.aft_model.proofs.Sights.{bytes_eq-refl, same_bytes}
use Rattle.aft_lines.specs.Holding.{has_it_open, is_open_since, picks_fetch}
use Rattle.law_attempts.specs.Acts.{acts_on}
use Rattle.law_attempts.proofs.Acts.{open-snoc}
use Rattle.law_attempts.proofs.Lives.{lives}
use Rattle.law_attempts.proofs.Newest.{acts_in_part, acts_of, acts_of_own}
use Rattle.law_claims.proofs.Scenes.{by_itself, same_by}
use Rattle.law_held.specs.Fetching.{Fetch, KeepsFetches, ends_this, fetching, fetching_after, without_line}

-- ---- the lines that fetch

fetching-snoc : (a : Attempt) (part : List NodeEntry) (entry : NodeEntry) → fetching a (part ++ entry ∷ []) ≡ fetching_after a entry.by (fetching a part) entry.act
fetching-snoc a part entry = fold-append (λ (before : List By) (e : NodeEntry). fetching_after a e.by before e.act) [] part (entry ∷ [])

without_one : (by : By) (lines : List By) → IsTrue (list_any (same_line by) lines) → suc (length (without_line by lines)) ≡ length lines
without_one by [] is = absurd (false≢true is)
without_one by (other ∷ lines) is = cases (same_line by other) is (without_one by lines)
  where
    cases : (b : Bool) → IsTrue (b || list_any (same_line by) lines) → (IsTrue (list_any (same_line by) lines) → suc (length (without_line by lines)) ≡ length lines) → suc (length (if b then lines else other ∷ without_line by lines)) ≡ suc (length lines)
    cases true there rest = refl
    cases false there rest = ap (λ (n : ℕ). suc n) (rest there)

counted_after : (a : Attempt) (by : By) (lines : List By) (act : NodeAct) → (IsTrue (ends_fetch a act) → IsTrue (list_any (same_line by) lines)) → length (fetching_after a by lines act) ≡ open_after a (length lines) act
counted_after a by lines act there = cases (fetches a act) (ends_fetch a act) there
  where
    cases : (begins ends : Bool) → (IsTrue ends → IsTrue (list_any (same_line by) lines)) → length (if begins then by ∷ lines else if ends then without_line by lines else lines) ≡ (if begins then suc (length lines) else if ends then length lines - 1 else length lines)
    cases true ends each = refl
    cases false true each = (let k = without_one by lines (each refl) in omega arith)
    cases false false each = refl

kept_without : (by other : By) (lines : List By) → IsFalse (same_line by other) → IsTrue (list_any (same_line other) lines) → IsTrue (list_any (same_line other) (without_line by lines))
kept_without by other [] differs is = is
kept_without by other (x ∷ lines) differs is = cases (same_line by x) refl (kept_without by other lines differs)
  where
    cases : (b : Bool) → same_line by x ≡ b → (IsTrue (list_any (same_line other) lines) → IsTrue (list_any (same_line other) (without_line by lines))) → IsTrue (list_any (same_line other) (if b then lines else x ∷ without_line by lines))
    cases true same rest = elim (or_cases (same_line other x) (list_any (same_line other) lines) is) [
      | inl also ↦ absurd (true≢false (sym (subst (λ (y : By). same_line by y ≡ true) (sym (same_by other x also)) same) ∙ differs))
      | inr later ↦ later
    ]
    cases false apart rest = elim (or_cases (same_line other x) (list_any (same_line other) lines) is) [
      | inl also ↦ or_left (same_line other x) (list_any (same_line other) (without_line by lines)) also
      | inr later ↦ or_right (same_line other x) (list_any (same_line other) (without_line by lines)) (rest later)
    ]

kept_after : (a : Attempt) (by other : By) (lines : List By) (act : NodeAct) → IsFalse (same_line by other) → IsTrue (list_any (same_line other) lines) → IsTrue (list_any (same_line other) (fetching_after a by lines act))
kept_after a by other lines act differs is = cases (fetches a act) (ends_fetch a act)
  where
    cases : (begins ends : Bool) → IsTrue (list_any (same_line other) (if begins then by ∷ lines else if ends then without_line by lines else lines))
    cases true ends = or_right (same_line other by) (list_any (same_line other) lines) is
    cases false true = kept_without by other lines differs is
    cases false false = is

some_in : (test : By → Bool) (lines : List By) → IsTrue (list_any test lines) → IsTrue (nat_lt 0 (length lines))
some_in test [] is = absurd (false≢true is)
some_in test (x ∷ lines) is = lt-ltb 0 (suc (length lines)) (omega arith)

-- ---- what is read

pub any_more : {A : Type 0} (test : A → Bool) (xs ys : List A) → IsTrue (list_any test xs) → IsTrue (list_any test (xs ++ ys))
any_more test xs ys is = (let found = any_found test xs is in any_from test found.0 (xs ++ ys) (in_front found.0 xs ys found.1) found.2)

with_kept : (p q : ReadPair) (before : List ReadPair) → IsTrue (is_read p before) → IsTrue (is_read p (with_read q before))
with_kept p q before is = cases (is_read q before)
  where
    cases : (b : Bool) → IsTrue (is_read p (if b then before else before ++ q ∷ []))
    cases true = is
    cases false = any_more (λ (other : ReadPair). bytes_eq p.key other.key && same_id p.id other.id) before (q ∷ []) is

with_itself : (p : ReadPair) (before : List ReadPair) → IsTrue (is_read p (with_read p before))
with_itself p before = cases (is_read p before) refl
  where
    cases : (b : Bool) → is_read p before ≡ b → IsTrue (is_read p (if b then before else before ++ p ∷ []))
    cases true is = is
    cases false is = any_from (λ (other : ReadPair). bytes_eq p.key other.key && same_id p.id other.id) p (before ++ p ∷ []) (in_back p before (p ∷ []) (inl refl)) (and_from (bytes_eq p.key p.key) (same_id p.id p.id) (bytes_eq-refl p.key) (same_id-refl p.id))

reads_kept : (a : Attempt) (p : ReadPair) (before : List ReadPair) (act : NodeAct) → IsTrue (is_read p before) → IsTrue (is_read p (reads_after a before act))
reads_kept a p before (acts.Select b key pick) is = cases (same_attempt a b)
  where
    cases : (t : Bool) → IsTrue (is_read p (if t then fold (λ (l : List ReadPair) (id : TxnId). with_read (record { key = key; id = id }) l) before (read_by pick) else before))
    cases true = fold_kept (λ (l : List ReadPair) (id : TxnId). with_read (record { key = key; id = id }) l) (λ (l : List ReadPair). IsTrue (is_read p l)) (λ l id so. with_kept p (record { key = key; id = id }) l so) before (read_by pick) is
    cases false = is
reads_kept a p before act is = is

pub picked_parts : (a b : Attempt) (key got : List ℕ) (id at : TxnId) → IsTrue (same_attempt a b && bytes_eq key got && same_id id at) → IsTrue (same_attempt a b) × (key ≡ got) × (id ≡ at)
picked_parts a b key got id at is =
    let parts = and_parts (same_attempt a b && bytes_eq key got) (same_id id at) is in
    let first = and_parts (same_attempt a b) (bytes_eq key got) parts.0 in
    (first.0, same_bytes key got first.1, same_ids id at parts.1)

picked_read : (a : Attempt) (key : List ℕ) (id : TxnId) (before : List ReadPair) (act : NodeAct) → IsTrue (picks_fetch a key id act) → IsTrue (is_read (record { key = key; id = id }) (reads_after a before act))
picked_read a key id before (acts.Select b got (picked.Fetch at)) is =
    let parts = picked_parts a b key got id at is in
    subst (λ (t : Bool). IsTrue (is_read (record { key = key; id = id }) (if t then with_read (record { key = got; id = at }) before else before))) (sym parts.0)
    (subst (λ (k : List ℕ). IsTrue (is_read (record { key = key; id = id }) (with_read (record { key = k; id = at }) before))) parts.1
    (subst (λ (i : TxnId). IsTrue (is_read (record { key = key; id = id }) (with_read (record { key = key; id = i }) before))) parts.2 (with_itself (record { key = key; id = id }) before)))
picked_read a key id before act is = absurd (false≢true is)

picks_fetches : (a : Attempt) (key : List ℕ) (id : TxnId) (act : NodeAct) → IsTrue (picks_fetch a key id act) → IsTrue (fetches a act)
picks_fetches a key id (acts.Select b got (picked.Fetch at)) is = (picked_parts a b key got id at is).0
picks_fetches a key id act is = absurd (false≢true is)

-- ---- whom an act is of

picks_acts : (a : Attempt) (key : List ℕ) (id : TxnId) (act : NodeAct) → IsTrue (picks_fetch a key id act) → IsTrue (acts_on a act)
picks_acts a key id (acts.Select b got (picked.Fetch at)) is = (picked_parts a b key got id at is).0
picks_acts a key id act is = absurd (false≢true is)

pub ends_acts : (a : Attempt) (act : NodeAct) → IsTrue (ends_fetch a act) → IsTrue (acts_on a act)
ends_acts a (acts.Value b key id place kept) is = is
ends_acts a (acts.Lost b key id) is = is
ends_acts a act is = absurd (false≢true is)

pub ends_same : (f : Fetch) (a : Attempt) (act : NodeAct) → IsTrue (ends_this f act) → IsTrue (ends_fetch a act) → f.attempt ≡ a
ends_same f a (acts.Value b key id place kept) this is = same_attempts f.attempt b (picked_parts f.attempt b f.key key f.id id this).0 ∙ sym (same_attempts a b is)
ends_same f a (acts.Lost b key id) this is = same_attempts f.attempt b (picked_parts f.attempt b f.key key f.id id this).0 ∙ sym (same_attempts a b is)
ends_same f a act this is = absurd (false≢true is)

-- ---- open since its pick

prefix_last : {A : Type 0} (test : List A → Bool) (before xs : List A) → IsTrue (each_prefix test before xs) → IsTrue (test (before ++ xs))
prefix_last test before [] is = subst (λ l. IsTrue (test l)) (sym (append-nil before)) is
prefix_last test before (x ∷ xs) is = subst (λ l. IsTrue (test l)) (append_assoc before (x ∷ []) xs) (prefix_last test (before ++ x ∷ []) xs (and_parts (test before) (each_prefix test (before ++ x ∷ []) xs) is).1)

prefix_more : {A : Type 0} (test : List A → Bool) (before xs : List A) (x : A) → IsTrue (each_prefix test before xs) → IsTrue (test (before ++ (xs ++ x ∷ []))) → IsTrue (each_prefix test before (xs ++ x ∷ []))
prefix_more test before [] x is last = and_from (test before) (test (before ++ x ∷ [])) is last
prefix_more test before (y ∷ ys) x is last =
    let parts = and_parts (test before) (each_prefix test (before ++ y ∷ []) ys) is in
    and_from (test before) (each_prefix test (before ++ y ∷ []) (ys ++ x ∷ [])) parts.0
    (prefix_more test (before ++ y ∷ []) ys x parts.1 (subst (λ l. IsTrue (test l)) (sym (append_assoc before (y ∷ []) (ys ++ x ∷ []))) last))

module _ (by : By) (a : Attempt) (key : List ℕ) (id : TxnId) where
  abbrev its_pick : NodeEntry → Bool
  its_pick entry = same_line by entry.by && picks_fetch a key id entry.act

  pub open_now : (before entries : List NodeEntry) → IsTrue (is_open_since by a key id before entries) → IsTrue (has_it_open a key id (before ++ entries))
  open_now before [] is = absurd (false≢true is)
  open_now before (entry ∷ entries) is =
      elim (or_cases (its_pick entry && each_prefix (has_it_open a key id) (before ++ entry ∷ []) entries) (is_open_since by a key id (before ++ entry ∷ []) entries) is) [
        | inl here ↦ subst (λ l. IsTrue (has_it_open a key id l)) (append_assoc before (entry ∷ []) entries) (prefix_last (has_it_open a key id) (before ++ entry ∷ []) entries (and_parts (its_pick entry) (each_prefix (has_it_open a key id) (before ++ entry ∷ []) entries) here).1)
        | inr later ↦ subst (λ l. IsTrue (has_it_open a key id l)) (append_assoc before (entry ∷ []) entries) (open_now (before ++ entry ∷ []) entries later)
      ]

  open_more : (before entries : List NodeEntry) (last : NodeEntry) → IsTrue (is_open_since by a key id before entries) → IsTrue (has_it_open a key id (before ++ (entries ++ last ∷ []))) → IsTrue (is_open_since by a key id before (entries ++ last ∷ []))
  open_more before [] last is has = absurd (false≢true is)
  open_more before (entry ∷ entries) last is has =
      let there : IsTrue (has_it_open a key id ((before ++ entry ∷ []) ++ (entries ++ last ∷ []))) = subst (λ l. IsTrue (has_it_open a key id l)) (sym (append_assoc before (entry ∷ []) (entries ++ last ∷ []))) has in
      elim (or_cases (its_pick entry && each_prefix (has_it_open a key id) (before ++ entry ∷ []) entries) (is_open_since by a key id (before ++ entry ∷ []) entries) is) [
        | inl here ↦
            let parts = and_parts (its_pick entry) (each_prefix (has_it_open a key id) (before ++ entry ∷ []) entries) here in
            or_left (its_pick entry && each_prefix (has_it_open a key id) (before ++ entry ∷ []) (entries ++ last ∷ [])) (is_open_since by a key id (before ++ entry ∷ []) (entries ++ last ∷ []))
            (and_from (its_pick entry) (each_prefix (has_it_open a key id) (before ++ entry ∷ []) (entries ++ last ∷ [])) parts.0 (prefix_more (has_it_open a key id) (before ++ entry ∷ []) entries last parts.1 there))
        | inr later ↦
            or_right (its_pick entry && each_prefix (has_it_open a key id) (before ++ entry ∷ []) (entries ++ last ∷ [])) (is_open_since by a key id (before ++ entry ∷ []) (entries ++ last ∷ []))
            (open_more (before ++ entry ∷ []) entries last later there)
      ]

  open_here : (before entries : List NodeEntry) (last : NodeEntry) → IsTrue (its_pick last) → IsTrue (has_it_open a key id (before ++ (entries ++ last ∷ []))) → IsTrue (is_open_since by a key id before (entries ++ last ∷ []))
  open_here before [] last is has = or_left (its_pick last && has_it_open a key id (before ++ last ∷ [])) false (and_from (its_pick last) (has_it_open a key id (before ++ last ∷ [])) is has)
  open_here before (entry ∷ entries) last is has =
      or_right (its_pick entry && each_prefix (has_it_open a key id) (before ++ entry ∷ []) (entries ++ last ∷ [])) (is_open_since by a key id (before ++ entry ∷ []) (entries ++ last ∷ []))
      (open_here (before ++ entry ∷ []) entries last is (subst (λ l. IsTrue (has_it_open a key id l)) (sym (append_assoc before (entry ∷ []) (entries ++ last ∷ []))) has))

-- ---- a service behind an entry

-- it has just been booted, or the entry joined it
abbrev Behind : NodeState → NodeEntry → Service → Type 0
Behind state entry s' = (s'.part ≡ []) ⊎ ((s : Service) × (state ≡ IsServing s) × (s' ≡ extended s entry))

goes_behind : (state : NodeState) (entry : NodeEntry) (s' : Service) → goes_on state entry ≡ IsServing s' → Behind state entry s'
goes_behind (IsServing s) entry s' is = inr (s, refl, (let e : IsServing (extended s entry) ≡ IsServing s' = is in cc))
goes_behind state entry s' is = absurd (cc)

stops_behind : (state : NodeState) (entry : NodeEntry) (s' : Service) → stopped state entry ≡ IsServing s' → Behind state entry s'
stops_behind (IsBooting inc running) entry s' is = absurd (cc)
stops_behind state entry s' is = goes_behind state entry s' is

behind : (state : NodeState) (entry : NodeEntry) (act : NodeAct) (s' : Service) → state_after state entry act ≡ IsServing s' → Behind state entry s'
behind state entry (acts.Booting inc) s' is = absurd (cc)
behind state entry (acts.Boot inc commits) s' is = inl (sym (ap (λ (t : NodeState). part_in (service_in t)) is))
behind state entry (acts.BootStopped inc) s' is = stops_behind state entry s' is
behind state entry (acts.Down inc) s' is = absurd (cc)
behind state entry act s' is = goes_behind state entry s' is

-- ---- one entry more

module _ (number capacity : ℕ) (entry : NodeEntry) (before after : ℕ → List NodeEntry) (here : after number ≡ before number ++ entry ∷ []) (elsewhere : (other : ℕ) → IsFalse (eqb number other) → after other ≡ before other)
    (legal : LegalNode number capacity (before number ++ entry ∷ [])) (fetch now : By → Option Fetch) (others : (other : By) → IsFalse (same_line entry.by other) → now other ≡ fetch other)
    (begins : (f : Fetch) → now entry.by ≡ Some f → IsTrue (picks_fetch f.attempt f.key f.id entry.act))
    (ends : (a : Attempt) → IsTrue (ends_fetch a entry.act) → (f : Fetch) × (fetch entry.by ≡ Some f) × IsTrue (ends_this f entry.act))
    (was : KeepsFetches before fetch) where
  behind_here : (s' : Service) → node_state (after number) ≡ IsServing s' → Behind (node_state (before number)) entry s'
  behind_here s' is = behind (node_state (before number)) entry entry.act s' (sym (ap node_state here ∙ node_state-snoc (before number) entry) ∙ is)

  -- an act that is of an attempt is in its service
  its_service : (a : Attempt) → IsTrue (acts_on a entry.act) → (s : Service) → node_state (before number) ≡ IsServing s → (a.node ≡ number) × (a.inc ≡ s.inc)
  its_service a on s state =
      let own = acts_of_own number capacity a (before number) entry legal on in
      (own.0, eqb-true a.inc s.inc (subst (λ (t : NodeState). IsTrue (serves a.inc t)) state own.1))

  -- who ends a fetch is among those that fetch
  ends_one : (a : Attempt) (s : Service) → node_state (before number) ≡ IsServing s → IsTrue (ends_fetch a entry.act) → IsTrue (list_any (same_line entry.by) (fetching a s.part))
  ends_one a s state is =
      let its = ends a is in
      let same : its.0.attempt ≡ a = ends_same its.0 a entry.act its.2 is in
      let at = its_service a (ends_acts a entry.act is) s state in
      let stood = was.stands entry.by its.0 s its.1 (ap (λ (x : Attempt). node_state (before x.node)) same ∙ (ap (λ (n : ℕ). node_state (before n)) at.0 ∙ state)) (ap (λ (x : Attempt). x.inc) same ∙ at.1) in
      subst (λ (x : Attempt). IsTrue (list_any (same_line entry.by) (fetching x s.part))) same stood.0

  counted_joined : (s : Service) (a : Attempt) → node_state (before number) ≡ IsServing s → length (fetching a (s.part ++ entry ∷ [])) ≡ open_reads a (s.part ++ entry ∷ [])
  counted_joined s a state =
      ap (λ (l : List By). length l) (fetching-snoc a s.part entry)
      ∙ (counted_after a entry.by (fetching a s.part) entry.act (ends_one a s state)
      ∙ (ap (λ (n : ℕ). open_after a n entry.act) (was.counted number s a state) ∙ sym (open-snoc a s.part entry)))

  counted_here : (s' : Service) (a : Attempt) → node_state (after number) ≡ IsServing s' → length (fetching a s'.part) ≡ open_reads a s'.part
  counted_here s' a is = elim (behind_here s' is) [
    | inl none ↦ subst (λ (p : List NodeEntry). length (fetching a p) ≡ open_reads a p) (sym none) refl
    | inr joined ↦ subst (λ (t : Service). length (fetching a t.part) ≡ open_reads a t.part) (sym joined.2) (counted_joined joined.0 a joined.1)
  ]

  counted_now : (n : ℕ) (s' : Service) (a : Attempt) → node_state (after n) ≡ IsServing s' → length (fetching a s'.part) ≡ open_reads a s'.part
  counted_now n s' a is = elim (cases_Bool (eqb number n)) [
    | inl same ↦ counted_here s' a (ap (λ (m : ℕ). node_state (after m)) (eqb-true number n same) ∙ is)
    | inr other ↦ was.counted n s' a (sym (ap node_state (elsewhere n other)) ∙ is)
  ]

  -- an entry that was among a node's stays
  any_still : (test : NodeEntry → Bool) (n : ℕ) → IsTrue (list_any test (before n)) → IsTrue (list_any test (after n))
  any_still test n is = elim (cases_Bool (eqb number n)) [
    | inl same ↦ (let e = eqb-true number n same in subst (λ (m : ℕ). IsTrue (list_any test (after m))) e (subst (λ (h : List NodeEntry). IsTrue (list_any test h)) (sym here) (any_more test (before number) (entry ∷ []) (subst (λ (m : ℕ). IsTrue (list_any test (before m))) (sym e) is))))
    | inr other ↦ subst (λ (h : List NodeEntry). IsTrue (list_any test h)) (sym (elsewhere n other)) is
  ]

  abbrev PickedBy : Fetch → Type 0
  PickedBy f = IsTrue (list_any (λ (e : NodeEntry). picks_fetch f.attempt f.key f.id e.act) (after f.attempt.node))

  -- a pick is of an attempt of this node
  of_here : (f : Fetch) → IsTrue (picks_fetch f.attempt f.key f.id entry.act) → f.attempt.node ≡ number
  of_here f is = (acts_of_own number capacity f.attempt (before number) entry legal (picks_acts f.attempt f.key f.id entry.act is)).0

  picked_here : (f : Fetch) → IsTrue (picks_fetch f.attempt f.key f.id entry.act) → PickedBy f
  picked_here f is =
      subst (λ (n : ℕ). IsTrue (list_any (λ (e : NodeEntry). picks_fetch f.attempt f.key f.id e.act) (after n))) (sym (of_here f is))
      (subst (λ (h : List NodeEntry). IsTrue (list_any (λ (e : NodeEntry). picks_fetch f.attempt f.key f.id e.act) h)) (sym here)
      (any_from (λ (e : NodeEntry). picks_fetch f.attempt f.key f.id e.act) entry (before number ++ entry ∷ []) (in_back entry (before number) (entry ∷ []) (inl refl)) is))

  begins_at : (by : By) (f : Fetch) → IsTrue (same_line entry.by by) → now by ≡ Some f → IsTrue (picks_fetch f.attempt f.key f.id entry.act)
  begins_at by f same is = begins f (ap now (same_by entry.by by same) ∙ is)

  picked_now : (by : By) (f : Fetch) → now by ≡ Some f → PickedBy f
  picked_now by f is = elim (cases_Bool (same_line entry.by by)) [
    | inl same ↦ picked_here f (begins_at by f same is)
    | inr differs ↦ any_still (λ (e : NodeEntry). picks_fetch f.attempt f.key f.id e.act) f.attempt.node (was.picked by f (sym (others by differs) ∙ is))
  ]

  abbrev Stood : By → Fetch → List NodeEntry → Type 0
  Stood by f part = IsTrue (list_any (same_line by) (fetching f.attempt part)) × IsTrue (is_open_since by f.attempt f.key f.id [] part)

  -- a service that was booted after the pick isn't that of the attempt
  not_booted : (by : By) (f : Fetch) (s' : Service) → now by ≡ Some f → node_state (after number) ≡ IsServing s' → f.attempt.node ≡ number → f.attempt.inc ≡ s'.inc → s'.part ≡ [] → ⊥
  not_booted by f s' is state at inc none =
      let picked : IsTrue (list_any (λ (e : NodeEntry). picks_fetch f.attempt f.key f.id e.act) (after number)) = subst (λ (n : ℕ). IsTrue (list_any (λ (e : NodeEntry). picks_fetch f.attempt f.key f.id e.act) (after n))) at (picked_now by f is) in
      let found = any_found (λ (e : NodeEntry). picks_fetch f.attempt f.key f.id e.act) (after number) picked in
      let among : In found.0 (acts_of f.attempt (after number)) = filter_in (λ (e : NodeEntry). acts_on f.attempt e.act) found.0 (after number) found.1 (picks_acts f.attempt f.key f.id found.0.act found.2) in
      let same = acts_in_part number capacity s'.inc f.attempt (after number) (subst (LegalNode number capacity) (sym here) legal) (subst (λ (t : NodeState). IsTrue (serves s'.inc t)) (sym state) (eq-eqb s'.inc s'.inc refl)) inc in
      let empty : acts_of f.attempt (part (after number)) ≡ [] = ap (λ (t : NodeState). acts_of f.attempt (part_in (service_in t))) state ∙ ap (acts_of f.attempt) none in
      subst (λ (l : List NodeEntry). In found.0 l) (same ∙ empty) among

  -- behind an entry that joined the service
  module _ (by : By) (f : Fetch) (s : Service) (state : node_state (before number) ≡ IsServing s) (joined : node_state (after number) ≡ IsServing (extended s entry)) where
    abbrev both : List NodeEntry
    both = s.part ++ entry ∷ []

    runs_still : IsTrue (list_any (same_line by) (fetching f.attempt both)) → IsTrue (is_running (attempt_state f.attempt both))
    runs_still there =
        let some : IsTrue (nat_lt 0 (open_reads f.attempt both)) = subst (λ (n : ℕ). IsTrue (nat_lt 0 n)) (counted_joined s f.attempt state) (some_in (same_line by) (fetching f.attempt both) there) in
        subst (λ (t : AttemptState). IsTrue (is_running t)) (sym ((lives number capacity (after number) (extended s entry) (subst (LegalNode number capacity) (sym here) legal) joined).runs f.attempt some)) refl

    has_open : IsTrue (list_any (same_line by) (fetching f.attempt both)) → IsTrue (is_read (record { key = f.key; id = f.id }) (reads_after f.attempt (reads f.attempt s.part) entry.act)) → IsTrue (has_it_open f.attempt f.key f.id both)
    has_open there read =
        and_from (is_running (attempt_state f.attempt both)) (is_read (record { key = f.key; id = f.id }) (reads f.attempt both)) (runs_still there)
        (subst (λ (l : List ReadPair). IsTrue (is_read (record { key = f.key; id = f.id }) l)) (sym (reads-snoc f.attempt s.part entry)) read)

    old : IsFalse (same_line entry.by by) → Stood by f s.part → Stood by f both
    old differs stood =
        let there : IsTrue (list_any (same_line by) (fetching f.attempt both)) = subst (λ (l : List By). IsTrue (list_any (same_line by) l)) (sym (fetching-snoc f.attempt s.part entry)) (kept_after f.attempt entry.by by (fetching f.attempt s.part) entry.act differs stood.0) in
        let read = (and_parts (is_running (attempt_state f.attempt s.part)) (is_read (record { key = f.key; id = f.id }) (reads f.attempt s.part)) (open_now by f.attempt f.key f.id [] s.part stood.1)).1 in
        (there, open_more by f.attempt f.key f.id [] s.part entry stood.1 (has_open there (reads_kept f.attempt (record { key = f.key; id = f.id }) (reads f.attempt s.part) entry.act read)))

    first : IsTrue (same_line entry.by by) → IsTrue (picks_fetch f.attempt f.key f.id entry.act) → Stood by f both
    first same picks =
        let mine : IsTrue (same_line by entry.by) = subst (λ (x : By). IsTrue (same_line x entry.by)) (same_by entry.by by same) (by_itself entry.by) in
        let there : IsTrue (list_any (same_line by) (fetching f.attempt both)) = subst (λ (l : List By). IsTrue (list_any (same_line by) l)) (sym (fetching-snoc f.attempt s.part entry))
        (subst (λ (t : Bool). IsTrue (list_any (same_line by) (if t then entry.by ∷ fetching f.attempt s.part else if ends_fetch f.attempt entry.act then without_line entry.by (fetching f.attempt s.part) else fetching f.attempt s.part))) (sym (picks_fetches f.attempt f.key f.id entry.act picks))
        (or_left (same_line by entry.by) (list_any (same_line by) (fetching f.attempt s.part)) mine)) in
        (there, open_here by f.attempt f.key f.id [] s.part entry (and_from (same_line by entry.by) (picks_fetch f.attempt f.key f.id entry.act) mine picks) (has_open there (picked_read f.attempt f.key f.id (reads f.attempt s.part) entry.act picks)))

  stands_here : (by : By) (f : Fetch) (s' : Service) → now by ≡ Some f → node_state (after number) ≡ IsServing s' → f.attempt.node ≡ number → f.attempt.inc ≡ s'.inc → Stood by f s'.part
  stands_here by f s' is state at inc = elim (behind_here s' state) [
    | inl none ↦ absurd (not_booted by f s' is state at inc none)
    | inr joined ↦ subst (λ (t : Service). Stood by f t.part) (sym joined.2) (by_line joined.0 joined.1 (state ∙ ap (λ (t : Service). IsServing t) joined.2) (inc ∙ ap (λ (t : Service). t.inc) joined.2))
  ]
    where
      by_line : (s : Service) → node_state (before number) ≡ IsServing s → node_state (after number) ≡ IsServing (extended s entry) → f.attempt.inc ≡ s.inc → Stood by f (s.part ++ entry ∷ [])
      by_line s st joined inc' = elim (cases_Bool (same_line entry.by by)) [
        | inl same ↦ first by f s st joined same (begins_at by f same is)
        | inr differs ↦ old by f s st joined differs (was.stands by f s (sym (others by differs) ∙ is) (ap (λ (n : ℕ). node_state (before n)) at ∙ st) inc')
      ]

  stands_now : (by : By) (f : Fetch) (s' : Service) → now by ≡ Some f → node_state (after f.attempt.node) ≡ IsServing s' → f.attempt.inc ≡ s'.inc → Stood by f s'.part
  stands_now by f s' is state inc = elim (cases_Bool (eqb number f.attempt.node)) [
    | inl same ↦ (let e = eqb-true number f.attempt.node same in stands_here by f s' is (ap (λ (n : ℕ). node_state (after n)) e ∙ state) (sym e) inc)
    | inr other ↦ elim (cases_Bool (same_line entry.by by)) [
      | inl mine ↦ absurd (true≢false (sym (eq-eqb number f.attempt.node (sym (of_here f (begins_at by f mine is)))) ∙ other))
      | inr differs ↦ was.stands by f s' (sym (others by differs) ∙ is) (sym (ap node_state (elsewhere f.attempt.node other)) ∙ state) inc
    ]
  ]

  pub node_fetches : KeepsFetches after now
  node_fetches = record { counted = counted_now; picked = picked_now; stands = stands_now }

-- where no node does anything, and no line comes to a fetch
pub quiet_fetches : (before after : ℕ → List NodeEntry) (fetch now : By → Option Fetch) → ((n : ℕ) → after n ≡ before n) → ((by : By) (f : Fetch) → now by ≡ Some f → fetch by ≡ Some f) → KeepsFetches before fetch → KeepsFetches after now
quiet_fetches before after fetch now same less was = record {
  counted = λ n s a is. was.counted n s a (sym (ap node_state (same n)) ∙ is);
  picked = λ by f is. subst (λ (h : List NodeEntry). IsTrue (list_any (λ (e : NodeEntry). picks_fetch f.attempt f.key f.id e.act) h)) (sym (same f.attempt.node)) (was.picked by f (less by f is));
  stands = λ by f s is state inc. was.stands by f s (less by f is) (sym (ap node_state (same f.attempt.node)) ∙ state) inc;
}
