-- What the table, the cache and the index tell of the history.
use Rattle.std.proofs.Common.{◌≡◌, ℕ, Bor, ◌^◌, ◌≤◌, arith, Bool, true, false, ◌||◌, not, List, [], ◌∷◌, refl, sym, ap, subst, ◌∙◌, eq-eqb, inl, inr}
use Rattle.std.specs.Prelude.{IfOk, IsFalse, IsTrue, Err, None, Ok, Option, Result, Some, find, if◌then◌else◌, is_some, option_and_then, option_copied, option_map, unwrap_or}
use Rattle.std.specs.List.{list_any}
use Rattle.std.specs.Str.{bytes_eq}
use Rattle.std.proofs.lemmas.Bool.{false≢true, not-true, true≢false}
use Rattle.aft_id.specs.TxnId.{same_id}
use Rattle.aft_id.specs.declared.txn_id.TxnId.{TxnId}
use Rattle.aft_records.specs.declared.stored.Commit.{Commit}
use Rattle.aft_records.specs.Commits.{has_id, same_commit}
use Rattle.aft_meta.specs.KnownCommits.{keys_at}
use Rattle.aft_model.specs.declared.caller.Attempt.{Attempt}
use Rattle.aft_model.specs.declared.node.NodeEntry.{NodeEntry}
use Rattle.aft_model.specs.declared.read_set.ReadPair.{ReadPair}
use Rattle.aft_model.specs.Attempts.{AttemptState, IsCommitting, IsGone, IsInDoubt, IsLeaving, IsOpening, IsRunning, Row, Write, attempt_state, attempts, buffer, buffered, fixed_commit, is_gone, open_reads, present, reads, row_of, rows, uuid_of, written_keys}
use Rattle.aft_model.specs.Known.{holds_id, is_fixed_at, known, known_in, known_of}
use Rattle.aft_model.specs.Cache.{cache}
use Rattle.aft_model.specs.Choice.{choice}
use Rattle.aft_model.specs.NodeRules.{is_storing, own_or, pick, picked_by}
use Rattle.aft_model.specs.NodeState.{IsBooting, IsDown, IsServing, NodeState, Service, in_service, node_state, part, part_in, serves, service, service_in}
use Rattle.aft_model.proofs.Histories.{In, any_found, any_from}
use Rattle.aft_model.proofs.Ids.{same_ids}
use Rattle.aft_model.proofs.Incarnations.{known-at, part-at}
use Rattle.aft_model.proofs.Lists.{in_filter, in_map, map_in}
use Rattle.aft_model.proofs.Sights.{bytes_eq-refl, same_bytes}
use Rattle.aft_model.proofs.Services.{serving}
use Rattle.law_attempts.proofs.Attempts.{alone, fixed_keys, fixed_uuid}
use Rattle.aft_ledger.specs.declared.ledger.Ledger.TheInside.{Inside}
use Rattle.aft_ledger.specs.declared.stage.Stage.TheVariants as stages_of
use Rattle.aft_ledger.specs.Holding.{fixed_in, has_fixed, stores_in}
use Rattle.aft_ledger.specs.Ledger.{Held, IsLedger, LedgerView}
use Rattle.aft_ledger.proofs.Acts.{row_here, row_is}
use Rattle.aft_ledger.proofs.Fields.{view_of}
use Rattle.aft_txn.specs.Rows.{Table, row_at, row_of_uuid, told}
use Rattle.aft_txn.specs.declared.state.State.{State}

-- what is true of the fields' history is true of the view's
pub shows : (i : Inside) (v : LedgerView) → view_of i ≡ v → (P : List NodeEntry → Type 0) → P i.history.items → P v.history
shows i v is P holds = subst (λ (w : LedgerView). P w.history) is holds

pub some_same : {A : Type 0} (a b : A) → Some a ≡ Some b → a ≡ b
some_same a b is = cc

none_some : {A : Type 0} (a : A) → Some a ≡ None → ⊥
none_some a is = cc

-- ---- rows that are found

abbrev pub told_of : List ℕ → List Row → Option (ℕ × State)
told_of uuid those = option_and_then (λ row. option_map (λ state. (row.number, state)) (told row.state)) (row_of_uuid uuid those)

find_in : (test : Row → Bool) (those : List Row) (row : Row) → find test those ≡ Some row → In row those × IsTrue (test row)
find_in test [] row is = absurd (none_some row (sym is))
find_in test (r ∷ those) row is = cases (find_in test those row) (test r) refl is
  where
    cases : (find test those ≡ Some row → In row those × IsTrue (test row)) → (t : Bool) → test r ≡ t → (if t then Some r else find test those) ≡ Some row → In row (r ∷ those) × IsTrue (test row)
    cases later true passed found = let same = some_same r row found in (inl (sym same), subst (λ (x : Row). IsTrue (test x)) same passed)
    cases later false failed found = let rest = later found in (inr rest.0, rest.1)

find_some : (test : Row → Bool) (those : List Row) (row : Row) → In row those → IsTrue (test row) → (r : Row) × (find test those ≡ Some r)
find_some test [] row among passes = absurd among
find_some test (r ∷ those) row among passes = cases (λ rest. find_some test those row rest passes) (test r) refl
  where
    later : (In row those → (x : Row) × (find test those ≡ Some x)) → (In row (r ∷ those)) → IsFalse (test r) → (x : Row) × (find test those ≡ Some x)
    later behind (inl here) failed = absurd (true≢false (sym (subst (λ (x : Row). IsTrue (test x)) here passes) ∙ failed))
    later behind (inr rest) failed = behind rest

    cases : (In row those → (x : Row) × (find test those ≡ Some x)) → (t : Bool) → test r ≡ t → (x : Row) × ((if t then Some r else find test those) ≡ Some x)
    cases behind true passed = (r, refl)
    cases behind false failed = later behind among failed

not_told : (state : AttemptState) → IsFalse (is_gone state) → told state ≡ None → ⊥
not_told IsGone here none = true≢false here
not_told IsOpening here none = none_some _ none
not_told IsRunning here none = none_some _ none
not_told (IsCommitting c) here none = none_some _ none
not_told (IsInDoubt c) here none = none_some _ none
not_told IsLeaving here none = none_some _ none

-- a row that is found is that of an attempt that is there
its_attempt : (uuid : List ℕ) (those : List NodeEntry) (row : Row) → row_of_uuid uuid (rows those) ≡ Some row → (a : Attempt) × In a (present those) × (row ≡ row_of those a) × IsFalse (is_gone (attempt_state a those)) × (uuid ≡ uuid_of a those)
its_attempt uuid those row is =
    let found = find_in (λ (r : Row). bytes_eq uuid r.uuid) (rows those) row is in
    let of = in_map (row_of those) row (present those) found.0 in
    let there = in_filter (λ (y : Attempt). not (is_gone (attempt_state y those))) of.0 (attempts those) of.1 in
    (of.0, of.1, of.2, not-true (is_gone (attempt_state of.0 those)) there.1, same_bytes uuid row.uuid found.1 ∙ ap (λ (r : Row). r.uuid) of.2)

-- where no state is told, no row is there
pub free_is : (uuid : List ℕ) (those : List NodeEntry) → told_of uuid (rows those) ≡ None → row_of_uuid uuid (rows those) ≡ None
free_is uuid those none = cases (row_of_uuid uuid (rows those)) refl none
  where
    untold : (row : Row) (s : Option State) → told row.state ≡ s → option_map {U = ℕ × State} (λ state. (row.number, state)) s ≡ None → told row.state ≡ None
    untold row None is empty = is
    untold row (Some s) is empty = absurd (none_some _ empty)

    cases : (o : Option Row) → row_of_uuid uuid (rows those) ≡ o → option_and_then {U = ℕ × State} (λ row. option_map {U = ℕ × State} (λ state. (row.number, state)) (told row.state)) o ≡ None → o ≡ None
    cases None is empty = refl
    cases (Some row) is empty =
        let a = its_attempt uuid those row is in
        absurd (not_told (attempt_state a.0 those) a.3 (sym (ap (λ (r : Row). told r.state) a.2) ∙ untold row (told row.state) refl empty))

-- ---- of one attempt

module _ (h : Held) (l : IsLedger h) (b : Attempt) (at_node : b.node ≡ h.number) (serve : IsTrue (serves b.inc (node_state h.history))) where
  pub open_is : unwrap_or (option_map (λ (row : Row). row.fetching) (row_at b.number h.table.rows)) 0 ≡ (if is_gone (attempt_state b (part h.history)) then 0 else open_reads b (part h.history))
  open_is = ap (λ (o : Option Row). unwrap_or (option_map (λ (row : Row). row.fetching) o) 0) (row_is h l b at_node serve) ∙ cases (is_gone (attempt_state b (part h.history)))
    where
      cases : (t : Bool) → unwrap_or (option_map (λ (row : Row). row.fetching) (if t then None else Some (row_of (part h.history) b))) 0 ≡ (if t then 0 else open_reads b (part h.history))
      cases true = refl
      cases false = refl

  module _ (here : IsFalse (is_gone (attempt_state b (part h.history)))) where
    pub uuid_is : option_map (λ (row : Row). row.uuid) (row_at b.number h.table.rows) ≡ Some (uuid_of b (part h.history))
    uuid_is = ap (option_map (λ (row : Row). row.uuid)) (row_here h l b at_node serve here)

    pub writes_are : (writes : List Write) → option_map (λ (row : Row). row.writes) (row_at b.number h.table.rows) ≡ Some writes → writes ≡ buffer b (part h.history)
    writes_are writes is = some_same writes (buffer b (part h.history)) (sym is ∙ ap (option_map (λ (row : Row). row.writes)) (row_here h l b at_node serve here))

    pub reads_are : (pairs : List ReadPair) → option_map (λ (row : Row). row.pairs) (row_at b.number h.table.rows) ≡ Some pairs → pairs ≡ reads b (part h.history)
    reads_are pairs is = some_same pairs (reads b (part h.history)) (sym is ∙ ap (option_map (λ (row : Row). row.pairs)) (row_here h l b at_node serve here))

    pub own_is : (key : List ℕ) (o : Option (List ℕ)) (buffered : List ℕ → List Write → Option (List ℕ)) → o ≡ option_and_then (λ (row : Row). buffered key row.writes) (row_at b.number h.table.rows) → o ≡ buffered key (buffer b (part h.history))
    own_is key o buffered is = is ∙ ap (option_and_then (λ (row : Row). buffered key row.writes)) (row_here h l b at_node serve here)

  -- whether it is storing a commit
  pub stores_is : (c : Commit) → stores_in (told (attempt_state b (part h.history))) c (written_keys (buffer b (part h.history))) ≡ is_storing c (attempt_state b (part h.history))
  stores_is c = cases (attempt_state b (part h.history)) refl
    where
      cases : (state : AttemptState) → attempt_state b (part h.history) ≡ state → stores_in (told state) c (written_keys (buffer b (part h.history))) ≡ is_storing c state
      cases IsGone at = refl
      cases IsOpening at = refl
      cases IsRunning at = refl
      cases (IsCommitting d) at = ap (λ (keys : List (List ℕ)). same_commit c (record { id = d.id; keys = keys })) (sym (fixed_keys h.number h.capacity b.inc h.history l.legal serve b d (ap fixed_commit at)))
      cases (IsInDoubt d) at = refl
      cases IsLeaving at = refl

-- ---- ids that are held

pub known_has : (id : TxnId) (commits : List Commit) → is_some (keys_at id commits) ≡ has_id id commits
known_has id [] = refl
known_has id (c ∷ commits) = cases (same_id id c.id) (known_has id commits)
  where
    cases : (t : Bool) → is_some (keys_at id commits) ≡ has_id id commits → is_some (if t then Some c.keys else keys_at id commits) ≡ (t || has_id id commits)
    cases true rest = refl
    cases false rest = rest

pub some-copied : {A : Type 0} (o : Option (Bor A)) → is_some (option_copied o) ≡ is_some o
some-copied None = refl
some-copied (Some b) = refl

-- what is told of a row says whether it fixes an id
pub told_fixes : (id : TxnId) (uuid : List ℕ) (those : List Row) → fixed_in id (told_of uuid those) ≡ has_fixed id (row_of_uuid uuid those)
told_fixes id uuid those = cases (row_of_uuid uuid those)
  where
    by_state : (row : Row) (state : AttemptState) → fixed_in id (option_map (λ s. (row.number, s)) (told state)) ≡ is_fixed_at id (fixed_commit state)
    by_state row IsGone = refl
    by_state row IsOpening = refl
    by_state row IsRunning = refl
    by_state row (IsCommitting c) = refl
    by_state row (IsInDoubt c) = refl
    by_state row IsLeaving = refl

    cases : (o : Option Row) → fixed_in id (option_and_then (λ row. option_map (λ s. (row.number, s)) (told row.state)) o) ≡ has_fixed id o
    cases None = refl
    cases (Some row) = by_state row row.state

both : (a b : Bool) → (IsTrue a → IsTrue b) → (IsTrue b → IsTrue a) → a ≡ b
both true b there back = sym (there refl)
both false true there back = back refl
both false false there back = refl

fixed_at : (id : TxnId) (o : Option Commit) → IsTrue (is_fixed_at id o) → (c : Commit) × (o ≡ Some c) × (id ≡ c.id)
fixed_at id None is = absurd (false≢true is)
fixed_at id (Some c) is = (c, refl, same_ids id c.id is)

module _ (h : Held) (l : IsLedger h) (id : TxnId) where
  abbrev p : List NodeEntry
  p = part h.history

  abbrev some_fixed : Bool
  some_fixed = list_any (λ (a : Attempt). is_fixed_at id (fixed_commit (attempt_state a p))) (present p)

  there : IsTrue (has_fixed id (row_of_uuid id.uuid (rows p))) → IsTrue some_fixed
  there = cases (row_of_uuid id.uuid (rows p)) refl
    where
      cases : (o : Option Row) → row_of_uuid id.uuid (rows p) ≡ o → IsTrue (has_fixed id o) → IsTrue some_fixed
      cases None is fixed = absurd (false≢true fixed)
      cases (Some row) is fixed =
          let a = its_attempt id.uuid p row is in
          any_from (λ (x : Attempt). is_fixed_at id (fixed_commit (attempt_state x p))) a.0 (present p) a.1 (subst (λ (r : Row). IsTrue (is_fixed_at id (fixed_commit r.state))) a.2 fixed)

  back : (inc : ℕ) → IsTrue (serves inc (node_state h.history)) → IsTrue some_fixed → IsTrue (has_fixed id (row_of_uuid id.uuid (rows p)))
  back inc serve some =
      let a = any_found (λ (x : Attempt). is_fixed_at id (fixed_commit (attempt_state x p))) (present p) some in
      let here = not-true (is_gone (attempt_state a.0 p)) (in_filter (λ (y : Attempt). not (is_gone (attempt_state y p))) a.0 (attempts p) a.1).1 in
      let c = fixed_at id (fixed_commit (attempt_state a.0 p)) a.2 in
      let named : id.uuid ≡ uuid_of a.0 p = ap (λ (i : TxnId). i.uuid) c.2 ∙ fixed_uuid h.number h.capacity inc h.history l.legal serve a.0 c.0 c.1 in
      let found = find_some (λ (r : Row). bytes_eq id.uuid r.uuid) (rows p) (row_of p a.0) (map_in (row_of p) a.0 (present p) a.1) (subst (λ (u : List ℕ). IsTrue (bytes_eq id.uuid u)) named (bytes_eq-refl id.uuid)) in
      let b = its_attempt id.uuid p found.0 found.1 in
      let same : b.0 ≡ a.0 = alone h.number h.capacity inc h.history l.legal serve b.0 a.0 b.3 here (sym b.4 ∙ named) in
      let row_same : found.0 ≡ row_of p a.0 = b.2 ∙ ap (row_of p) same in
      subst (λ (o : Option Row). IsTrue (has_fixed id o)) (sym found.1) (subst (λ (r : Row). IsTrue (is_fixed_at id (fixed_commit r.state))) (sym row_same) a.2)

  -- what the index and the table say of an id is whether it is held
  pub held_is : (has_id id h.commits || has_fixed id (row_of_uuid id.uuid h.table.rows)) ≡ in_service (holds_id id) (service h.history)
  held_is = ap (λ (k : List Commit). has_id id k || has_fixed id (row_of_uuid id.uuid h.table.rows)) l.knows ∙ (ap (λ (t : Table). has_id id (known h.history) || has_fixed id (row_of_uuid id.uuid t.rows)) l.tabled ∙ cases (node_state h.history) refl)
    where
      idle : (state : NodeState) → node_state h.history ≡ state → service_in state ≡ None → (has_id id (known h.history) || has_fixed id (row_of_uuid id.uuid (rows p))) ≡ in_service (holds_id id) (service h.history)
      idle state is none =
          let unserved : service h.history ≡ None = ap service_in is ∙ none in
          subst (λ (o : Option Service). (has_id id (known_of o) || has_fixed id (row_of_uuid id.uuid (rows (part_in o)))) ≡ in_service (holds_id id) o) (sym unserved) refl

      cases : (state : NodeState) → node_state h.history ≡ state → (has_id id (known h.history) || has_fixed id (row_of_uuid id.uuid (rows p))) ≡ in_service (holds_id id) (service h.history)
      cases IsDown is = idle IsDown is refl
      cases (IsBooting inc running) is = idle (IsBooting inc running) is refl
      cases (IsServing s) is =
          let serve : IsTrue (serves s.inc (node_state h.history)) = subst (λ (st : NodeState). IsTrue (serves s.inc st)) (sym is) (eq-eqb s.inc s.inc refl) in
          (ap (λ t. has_id id (known h.history) || t) (both (has_fixed id (row_of_uuid id.uuid (rows p))) some_fixed there (back s.inc serve))
          ∙ (ap (λ (k : List Commit). has_id id k || some_fixed) (known-at h.history s is)
          ∙ (ap (λ (q : List NodeEntry). has_id id (known_in s) || list_any (λ (a : Attempt). is_fixed_at id (fixed_commit (attempt_state a q))) (present q)) (part-at h.history s is)
          ∙ sym (ap (λ (state : NodeState). in_service (holds_id id) (service_in state)) is))))

pub if_ok : {A E : Type 0} (r : Result A E) (P Q : A → Type 0) → ((x : A) → P x → Q x) → IfOk r P → IfOk r Q
if_ok (Ok x) P Q follows holds = follows x holds
if_ok (Err e) P Q follows holds = holds

-- ---- a node that is down, with no history

pub at_first : (number capacity room space : ℕ) → room ≤ space → room ≤ 2 ^ 31
    → IsLedger (record { number = number; capacity = capacity; history = []; front = 0; room = room; stage = stages_of.Down; newest = 0; commits = []; table = record { begun = 0; rows = [] }; kept = []; fresh = []; space = space })
at_first number capacity room space fits few = record {
  legal = refl;
  fronts = refl;
  staged = refl;
  incs = refl;
  knows = refl;
  tabled = refl;
  keeps = refl;
  told = refl;
  fits = omega (arith, fits);
  few = omega (arith, few);
}

-- ---- picks

pub pick_is : (h : Held) (l : IsLedger h) (b : Attempt) → IsTrue (serves b.inc (node_state h.history)) → (key : List ℕ)
    → option_map (λ (s : Service). pick h.capacity s b key) (service h.history)
    ≡ Some (own_or (buffered key (buffer b (part h.history))) (picked_by key (cache h.capacity (part h.history)) (choice key (reads b (part h.history)) (known h.history))))
pick_is h l b serve key =
    let at = serving b.inc (node_state h.history) serve in
    let s = at.0 in
    ap (λ (state : NodeState). option_map (λ (t : Service). pick h.capacity t b key) (service_in state)) at.1
    ∙ (ap (λ (p : List NodeEntry). Some (own_or (buffered key (buffer b p)) (picked_by key (cache h.capacity p) (choice key (reads b p) (known_in s))))) (sym (part-at h.history s at.1))
    ∙ ap (λ (k : List Commit). Some (own_or (buffered key (buffer b (part h.history))) (picked_by key (cache h.capacity (part h.history)) (choice key (reads b (part h.history)) k)))) (sym (known-at h.history s at.1)))
