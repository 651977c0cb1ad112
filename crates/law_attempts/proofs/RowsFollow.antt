-- The rows of attempts behind each act.
use Rattle.std.proofs.Common.{◌≡◌, ℕ, Bool, true, false, ◌&&◌, not, List, [], ◌∷◌, ◌++◌, length, refl, sym, ap, subst, ◌∙◌, inl, append-nil, eqb}
use Rattle.std.specs.Prelude.{IsTrue, IsFalse, if◌then◌else◌, filter, map, suc, ◌-◌, nat_lt}
use Rattle.std.specs.Cmp.Lexicographic.{pointwise}
use Rattle.std.specs.Str.{bytes_eq}
use Rattle.std.proofs.lemmas.Bool.{and_parts, and_from, eq-eqb, eqb-true, false_from_ne_true, false≢true}
use Rattle.aft_id.specs.TxnId.{zero_id}
use Rattle.aft_records.specs.declared.stored.Commit.{Commit}
use Rattle.aft_model.specs.declared.caller.Attempt.{Attempt}
use Rattle.aft_model.specs.declared.choice.Picked.{Picked}
use Rattle.aft_model.specs.declared.choice.Picked.TheVariants as picked
use Rattle.aft_model.specs.declared.node.NodeAct.{NodeAct}
use Rattle.aft_model.specs.declared.node.NodeAct.TheVariants.{Admit, Begin, Doubt, End, Leave, Lost, Put, Select, Settle, Start, Stored, Unadmit, Value}
use Rattle.aft_model.specs.declared.node.NodeEntry.{NodeEntry}
use Rattle.aft_model.specs.declared.read_set.ReadPair.{ReadPair}
use Rattle.aft_model.specs.Attempts.{AttemptState, IsCommitting, IsGone, IsInDoubt, IsLeaving, IsOpening, IsRunning, Row, Write, admitted_by, attempt_after, attempt_state, attempts, buffer, doubted, is_committing, is_gone, is_in_doubt, is_opening, is_running, open_reads, reads, row_of, rows, same_attempt, tried_again, uuid_of, with_read, with_write, written_keys}
use Rattle.aft_model.specs.LegalNode.{may_serve}
use Rattle.aft_model.specs.NodeRules.{is_storing, may_leave, may_put_key, may_start, pick, same_picked}
use Rattle.aft_model.specs.NodeState.{Service}
use Rattle.aft_model.proofs.Histories.{In}
use Rattle.aft_model.proofs.Ids.{same_commits, same_id-refl}
use Rattle.aft_model.proofs.Pins.{There, attempt_state-snoc, attempts-snoc, committing_there, doubt_there, opening_there, running_there, same_attempts, start_runs}
use Rattle.law_attempts.specs.Acts.{acts_on}
use Rattle.law_attempts.specs.Rows.{changed, ended_fetch, fetched, noted, rows_after, rows_picked, without_row}
use Rattle.law_attempts.proofs.Acts.{end_there, storing_there}
use Rattle.law_attempts.proofs.Fetches.{Fetching}
use Rattle.law_attempts.proofs.Rows.{Distinct, Same, all_same, first_distinct, one_row, row-snoc, row_after, same_row}
use Rattle.law_attempts.proofs.Standing.{Standing, not_again, same_itself}

-- ---- changes of one row

other_number : (x b : Attempt) → (x.number ≡ b.number → ⊥) → IsFalse (same_attempt x b)
other_number x b apart = false_from_ne_true (same_attempt x b) (λ same. apart (ap (λ (y : Attempt). y.number) (same_attempts x b same)))

own_changed : (n : ℕ) (change : Row → Row) (row : Row) (rest : List Row) → n ≡ row.number → changed n change (row ∷ rest) ≡ change row ∷ rest
own_changed n change row rest is = ap (λ t. if t then change row ∷ rest else row ∷ changed n change rest) (eq-eqb n row.number is)

other_changed : (n : ℕ) (change : Row → Row) (row : Row) (rest : List Row) → (row.number ≡ n → ⊥) → changed n change (row ∷ rest) ≡ row ∷ changed n change rest
other_changed n change row rest apart =
    ap (λ t. if t then change row ∷ rest else row ∷ changed n change rest) (false_from_ne_true (eqb n row.number) (λ same. apart (sym (eqb-true n row.number same))))

own_gone : (n : ℕ) (row : Row) (rest : List Row) → n ≡ row.number → without_row n (row ∷ rest) ≡ rest
own_gone n row rest is = ap (λ t. if t then rest else row ∷ without_row n rest) (eq-eqb n row.number is)

other_gone : (n : ℕ) (row : Row) (rest : List Row) → (row.number ≡ n → ⊥) → without_row n (row ∷ rest) ≡ row ∷ without_row n rest
other_gone n row rest apart = ap (λ t. if t then rest else row ∷ without_row n rest) (false_from_ne_true (eqb n row.number) (λ same. apart (sym (eqb-true n row.number same))))

-- what a start fixes has the keys of the buffer
pub start_keys : (s : Service) (a : Attempt) (now : ℕ) (c : Commit) → IsTrue (may_start s a now c) → c ≡ record { id = c.id; keys = written_keys (buffer a s.part) }
start_keys s a now c rule =
    let keys = (and_parts _ (pointwise bytes_eq c.keys (written_keys (buffer a s.part))) (and_parts _ _ (and_parts _ _ (and_parts _ _ rule).0).0).0).1 in
    same_commits c (record { id = c.id; keys = written_keys (buffer a s.part) }) (and_from _ _ (same_id-refl c.id) keys)

settle_there : (state : AttemptState) → IsTrue (is_in_doubt state) → There (tried_again state)
settle_there (IsInDoubt c) is = refl
settle_there state is = absurd (false≢true is)

doubted_there : (state : AttemptState) → IsTrue (is_committing state) → There (doubted state)
doubted_there (IsCommitting c) is = refl
doubted_there state is = absurd (false≢true is)

module _ (node capacity : ℕ) (s : Service) (entry : NodeEntry) (rule : IsTrue (may_serve node capacity entry.act entry.answer s)) (stands : Standing node s)
    (runs : (a : Attempt) → Fetching a s.part → attempt_state a s.part ≡ IsRunning) where
  abbrev after : List NodeEntry
  after = s.part ++ entry ∷ []

  distinct : Distinct (attempts s.part)
  distinct = subst Distinct (sym stands.numbered) (first_distinct node s.inc (length (attempts s.part)))

  -- the rows of attempts of a list that are there
  abbrev rows_of : List NodeEntry → List Attempt → List Row
  rows_of part xs = map (row_of part) (filter (λ a. not (is_gone (attempt_state a part))) xs)

  none_admitted : admitted_by entry.act ≡ [] → attempts after ≡ attempts s.part
  none_admitted none = attempts-snoc s.part entry ∙ (ap (λ (l : List Attempt). attempts s.part ++ l) none ∙ append-nil (attempts s.part))

  -- an act that is one of no attempt
  quiet : admitted_by entry.act ≡ [] → ((x : Attempt) → IsFalse (acts_on x entry.act)) → rows after ≡ rows s.part
  quiet none of_none = ap (rows_of after) (none_admitted none) ∙ all_same s.part after (attempts s.part) (λ x among. same_row x s.part entry (of_none x))

  module _ (b : Attempt) (act : NodeAct) (is : entry.act ≡ act) (none : admitted_by act ≡ []) (of : (x : Attempt) → acts_on x act ≡ same_attempt x b) (there : There (attempt_state b s.part)) where
    others : (x : Attempt) → In x (attempts s.part) → (x.number ≡ b.number → ⊥) → Same s.part after x
    others x among apart = same_row x s.part entry (subst (λ (y : NodeAct). IsFalse (acts_on x y)) (sym is) (of x ∙ other_number x b apart))

    later : attempt_state b after ≡ attempt_after b (attempt_state b s.part) act
    later = attempt_state-snoc b s.part entry ∙ ap (attempt_after b (attempt_state b s.part)) is

    its_row : row_of after b ≡ row_after b act (row_of s.part b)
    its_row = row-snoc b s.part entry ∙ ap (λ (y : NodeAct). row_after b y (row_of s.part b)) is

    whole : rows after ≡ rows_of after (attempts s.part)
    whole = ap (rows_of after) (none_admitted (ap admitted_by is ∙ none))

    -- it changes its row
    change_to : (change : Row → Row) → row_after b act (row_of s.part b) ≡ change (row_of s.part b) → There (attempt_after b (attempt_state b s.part) act) → rows after ≡ changed b.number change (rows s.part)
    change_to change is_changed stays =
        whole
        ∙ one_row s.part after b there (changed b.number change)
        (λ rest. own_changed b.number change (row_of s.part b) rest refl
        ∙ (ap (λ (row : Row). row ∷ rest) (sym (its_row ∙ is_changed)) ∙ sym (ap (λ t. if not t then row_of after b ∷ rest else rest) (ap is_gone later ∙ stays))))
        (λ x rest apart. other_changed b.number change (row_of s.part x) rest apart)
        (attempts s.part) distinct others (stands.listed b there)

    -- it leaves its row
    same_to : row_after b act (row_of s.part b) ≡ row_of s.part b → There (attempt_after b (attempt_state b s.part) act) → rows after ≡ rows s.part
    same_to unchanged stays =
        whole
        ∙ one_row s.part after b there (λ rest. rest)
        (λ rest. ap (λ (row : Row). row ∷ rest) (sym (its_row ∙ unchanged)) ∙ sym (ap (λ t. if not t then row_of after b ∷ rest else rest) (ap is_gone later ∙ stays)))
        (λ x rest apart. refl)
        (attempts s.part) distinct others (stands.listed b there)

    -- it takes its row away
    gone_to : attempt_after b (attempt_state b s.part) act ≡ IsGone → rows after ≡ without_row b.number (rows s.part)
    gone_to gone =
        whole
        ∙ one_row s.part after b there (without_row b.number)
        (λ rest. own_gone b.number (row_of s.part b) rest refl ∙ sym (ap (λ t. if not t then row_of after b ∷ rest else rest) (ap is_gone (later ∙ gone))))
        (λ x rest apart. other_gone b.number (row_of s.part x) rest apart)
        (attempts s.part) distinct others (stands.listed b there)

  -- ---- each act

  at : (act : NodeAct) → entry.act ≡ act → IsTrue (may_serve node capacity act entry.answer s)
  at act is = subst (λ (y : NodeAct). IsTrue (may_serve node capacity y entry.answer s)) is rule

  rows_more : (p : List NodeEntry) (xs : List Attempt) (b : Attempt) → There (attempt_state b p) → rows_of p (xs ++ b ∷ []) ≡ rows_of p xs ++ row_of p b ∷ []
  rows_more p [] b there = ap (λ t. map (row_of p) (if not t then b ∷ [] else [])) there
  rows_more p (x ∷ xs) b there = cases (not (is_gone (attempt_state x p))) (rows_more p xs b there)
    where
      cases : (t : Bool) → rows_of p (xs ++ b ∷ []) ≡ rows_of p xs ++ row_of p b ∷ []
          → map (row_of p) (if t then x ∷ filter (λ a. not (is_gone (attempt_state a p))) (xs ++ b ∷ []) else filter (λ a. not (is_gone (attempt_state a p))) (xs ++ b ∷ []))
          ≡ map (row_of p) (if t then x ∷ filter (λ a. not (is_gone (attempt_state a p))) xs else filter (λ a. not (is_gone (attempt_state a p))) xs) ++ row_of p b ∷ []
      cases true rest = ap (λ (l : List Row). row_of p x ∷ l) rest
      cases false rest = rest

  admitted : (b : Attempt) (uuid : List ℕ) → entry.act ≡ Admit b uuid → rows after ≡ rows_after (Admit b uuid) (rows s.part)
  admitted b uuid is =
      let new : In b (admitted_by entry.act) = subst (λ (y : NodeAct). In b (admitted_by y)) (sym is) (inl refl) in
      let fresh = stands.fresh b (λ was. not_again node capacity s entry rule stands b was new) in
      let same = same_itself b in
      let opens : attempt_state b after ≡ IsOpening = attempt_state-snoc b s.part entry ∙ (ap (attempt_after b (attempt_state b s.part)) is ∙ ap (λ t. if t then IsOpening else attempt_state b s.part) same) in
      let its : row_of after b ≡ record { number = b.number; uuid = uuid; state = IsOpening; writes = []; pairs = []; fetching = 0 } =
      row-snoc b s.part entry ∙ (ap (λ (y : NodeAct). row_after b y (row_of s.part b)) is
      ∙ (ap (λ t. row_with b (if t then uuid else uuid_of b s.part) (if t then IsOpening else attempt_state b s.part) (buffer b s.part) (reads b s.part) (open_reads b s.part)) same
      ∙ (ap (λ (w : List Write). row_with b uuid IsOpening w (reads b s.part) (open_reads b s.part)) fresh.buffers
      ∙ (ap (λ (p : List ReadPair). row_with b uuid IsOpening [] p (open_reads b s.part)) fresh.reads_none
      ∙ ap (λ (n : ℕ). row_with b uuid IsOpening [] [] n) fresh.fetches_none)))) in
      ap (rows_of after) (attempts-snoc s.part entry ∙ ap (λ (y : NodeAct). attempts s.part ++ admitted_by y) is)
      ∙ (rows_more after (attempts s.part) b (ap is_gone opens)
      ∙ (ap (λ (l : List Row). l ++ row_of after b ∷ []) (all_same s.part after (attempts s.part) (λ x among.
      same_row x s.part entry (subst (λ (y : NodeAct). IsFalse (acts_on x y)) (sym is)
      (false_from_ne_true (same_attempt x b) (λ one. not_again node capacity s entry rule stands x among (subst (λ (z : Attempt). In z (admitted_by entry.act)) (sym (same_attempts x b one)) new))))))
      ∙ ap (λ (row : Row). rows s.part ++ row ∷ []) its))
    where
      row_with : Attempt → List ℕ → AttemptState → List Write → List ReadPair → ℕ → Row
      row_with a u st w p f = record { number = a.number; uuid = u; state = st; writes = w; pairs = p; fetching = f }

  -- the row of an attempt that a get is of, where it reads at an id
  picked_row : (b : Attempt) (key : List ℕ) (pick' : Picked) → entry.act ≡ Select b key pick' → rows after ≡ rows_picked b.number key pick' (rows s.part)
  picked_row b key pick' is = cases pick' is
    where
      there : (p : Picked) → entry.act ≡ Select b key p → There (attempt_state b s.part)
      there p is =
          let parts = and_parts (is_running (attempt_state b s.part) && same_picked (pick capacity s b key) p) _ (at (Select b key p) is) in
          running_there (attempt_state b s.part) (and_parts (is_running (attempt_state b s.part)) (same_picked (pick capacity s b key) p) parts.0).0

      same : IsTrue (same_attempt b b)
      same = same_itself b

      row : Row
      row = row_of s.part b

      cases : (p : Picked) → entry.act ≡ Select b key p → rows after ≡ rows_picked b.number key p (rows s.part)
      cases (picked.Own value) is = same_to b (Select b key (picked.Own value)) is refl (λ x. refl) (there (picked.Own value) is) (ap (λ t. record row { pairs = if t then row.pairs else row.pairs }) same) (there (picked.Own value) is)
      cases (picked.Cached id value) is =
          change_to b (Select b key (picked.Cached id value)) is refl (λ x. refl) (there (picked.Cached id value) is) (noted key id)
          (ap (λ t. record row { pairs = if t then with_read (record { key = key; id = id }) row.pairs else row.pairs }) same) (there (picked.Cached id value) is)
      cases (picked.Fetch id) is =
          change_to b (Select b key (picked.Fetch id)) is refl (λ x. refl) (there (picked.Fetch id) is) (fetched key id)
          (ap (λ t. record row { pairs = if t then with_read (record { key = key; id = id }) row.pairs else row.pairs; fetching = if t then suc row.fetching else row.fetching }) same) (there (picked.Fetch id) is)
      cases picked.Absent is =
          change_to b (Select b key picked.Absent) is refl (λ x. refl) (there picked.Absent is) (noted key zero_id)
          (ap (λ t. record row { pairs = if t then with_read (record { key = key; id = zero_id }) row.pairs else row.pairs }) same) (there picked.Absent is)
      cases (picked.NoneFits blocked) is =
          same_to b (Select b key (picked.NoneFits blocked)) is refl (λ x. refl) (there (picked.NoneFits blocked) is) (ap (λ t. record row { pairs = if t then row.pairs else row.pairs }) same) (there (picked.NoneFits blocked) is)

  -- an act that moves an attempt that is there to another state
  moved_to : (b : Attempt) (act : NodeAct) (is : entry.act ≡ act) (none : admitted_by act ≡ []) (of : (x : Attempt) → acts_on x act ≡ same_attempt x b) (next : AttemptState → AttemptState)
      → row_after b act (row_of s.part b) ≡ record (row_of s.part b) { state = if same_attempt b b then next (attempt_state b s.part) else attempt_state b s.part }
      → There (attempt_state b s.part) → There (next (attempt_state b s.part)) → rows after ≡ changed b.number (λ row. record row { state = next row.state }) (rows s.part)
  moved_to b act is none of next rows_as there stays =
      change_to b act is none of there (λ row. record row { state = next row.state })
      (rows_as ∙ ap (λ (t : Bool). record (row_of s.part b) { state = if t then next (attempt_state b s.part) else attempt_state b s.part }) (same_itself b))
      (subst There (sym (ap (λ (r : Row). r.state) rows_as ∙ ap (λ (t : Bool). if t then next (attempt_state b s.part) else attempt_state b s.part) (same_itself b))) stays)

  -- one whose fetch is over
  fetch_over : (b : Attempt) (act : NodeAct) (is : entry.act ≡ act) (none : admitted_by act ≡ []) (of : (x : Attempt) → acts_on x act ≡ same_attempt x b)
      → row_after b act (row_of s.part b) ≡ record (row_of s.part b) { fetching = if same_attempt b b then open_reads b s.part - 1 else open_reads b s.part }
      → Fetching b s.part → rows after ≡ changed b.number ended_fetch (rows s.part)
  fetch_over b act is none of rows_as some =
      let runs_now = runs b some in
      change_to b act is none of (ap is_gone runs_now) ended_fetch
      (rows_as ∙ ap (λ (t : Bool). record (row_of s.part b) { fetching = if t then open_reads b s.part - 1 else open_reads b s.part }) (same_itself b))
      (subst There (sym (ap (λ (r : Row). r.state) rows_as)) (ap is_gone runs_now))

  follows : (act : NodeAct) → entry.act ≡ act → rows after ≡ rows_after act (rows s.part)
  follows (Admit b uuid) is = admitted b uuid is
  follows (Begin b) is =
      let opens = (and_parts (is_opening (attempt_state b s.part)) _ (at (Begin b) is)).0 in
      moved_to b (Begin b) is refl (λ x. refl) (λ state. IsRunning) refl (opening_there (attempt_state b s.part) opens) refl
  follows (Unadmit b) is =
      let opens = (and_parts (is_opening (attempt_state b s.part)) _ (at (Unadmit b) is)).0 in
      gone_to b (Unadmit b) is refl (λ x. refl) (opening_there (attempt_state b s.part) opens) (ap (λ t. if t then IsGone else attempt_state b s.part) (same_itself b))
  follows (Put b key value) is =
      let parts = and_parts (is_running (attempt_state b s.part) && may_put_key s b key) _ (at (Put b key value) is) in
      let there = running_there (attempt_state b s.part) (and_parts (is_running (attempt_state b s.part)) (may_put_key s b key) parts.0).0 in
      change_to b (Put b key value) is refl (λ x. refl) there (λ row. record row { writes = with_write (record { key = key; value = value }) row.writes })
      (ap (λ (t : Bool). record (row_of s.part b) { writes = if t then with_write (record { key = key; value = value }) (buffer b s.part) else buffer b s.part }) (same_itself b)) there
  follows (Select b key p) is = picked_row b key p is
  follows (Value b key id place kept) is = fetch_over b (Value b key id place kept) is refl (λ x. refl) refl (and_parts (nat_lt 0 (open_reads b s.part)) _ (at (Value b key id place kept) is)).0
  follows (Lost b key id) is = fetch_over b (Lost b key id) is refl (λ x. refl) refl (and_parts (nat_lt 0 (open_reads b s.part)) _ (at (Lost b key id) is)).0
  follows (Start b now c) is =
      let may = (and_parts (may_start s b now c) _ (at (Start b now c) is)).0 in
      change_to b (Start b now c) is refl (λ x. refl) (running_there (attempt_state b s.part) (start_runs s b now c may)) (λ row. record row { state = IsCommitting (record { id = c.id; keys = written_keys row.writes }) })
      (ap (λ (t : Bool). record (row_of s.part b) { state = if t then IsCommitting c else attempt_state b s.part }) (same_itself b)
      ∙ ap (λ (d : Commit). record (row_of s.part b) { state = IsCommitting d }) (start_keys s b now c may))
      (ap (λ (t : Bool). is_gone (if t then IsCommitting c else attempt_state b s.part)) (same_itself b))
  follows (Settle b) is =
      let doubt = (and_parts (is_in_doubt (attempt_state b s.part)) _ (at (Settle b) is)).0 in
      moved_to b (Settle b) is refl (λ x. refl) tried_again refl (doubt_there (attempt_state b s.part) doubt) (settle_there (attempt_state b s.part) doubt)
  follows (Leave b) is =
      let may = (and_parts (may_leave s b) _ (at (Leave b) is)).0 in
      moved_to b (Leave b) is refl (λ x. refl) (λ state. IsLeaving) refl (running_there (attempt_state b s.part) (and_parts (is_running (attempt_state b s.part)) _ may).0) refl
  follows (Stored b c) is =
      let there = storing_there c (attempt_state b s.part) (and_parts (is_storing c (attempt_state b s.part)) _ (at (Stored b c) is)).0 in
      same_to b (Stored b c) is refl (λ x. refl) there refl there
  follows (Doubt b) is =
      let storing = (and_parts (is_committing (attempt_state b s.part)) _ (at (Doubt b) is)).0 in
      moved_to b (Doubt b) is refl (λ x. refl) doubted refl (committing_there (attempt_state b s.part) storing) (doubted_there (attempt_state b s.part) storing)
  follows (End b) is =
      gone_to b (End b) is refl (λ x. refl) (end_there (attempt_state b s.part) entry.answer (at (End b) is)) (ap (λ t. if t then IsGone else attempt_state b s.part) (same_itself b))
  follows act is = quiet (ap admitted_by is) (λ x. ap (acts_on x) is)

  pub rows_follow : rows after ≡ rows_after entry.act (rows s.part)
  rows_follow = follows entry.act refl
