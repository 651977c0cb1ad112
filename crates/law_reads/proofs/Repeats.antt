-- A get of a key that was read picks the same id again.
use Rattle.std.proofs.Common.{◌≡◌, ℕ, Bool, true, false, ◌&&◌, ◌||◌, not, List, [], ◌∷◌, refl, sym, ap, subst, ◌∙◌, inl, inr}
use Rattle.std.specs.Prelude.{IsTrue, IsFalse, Some, None, if◌then◌else◌, map}
use Rattle.std.specs.List.{list_all}
use Rattle.std.specs.Str.{bytes_eq}
use Rattle.std.proofs.lemmas.Bool.{and_from, and_parts, false_from_ne_true, not-true, or_cases, true≢false}
use Rattle.aft_id.specs.TxnId.{id_lt, same_id, zero_id}
use Rattle.aft_id.specs.declared.txn_id.TxnId.{TxnId}
use Rattle.aft_records.specs.Commits.{greatest, versions}
use Rattle.aft_records.specs.Superseded.{wrote}
use Rattle.aft_records.specs.declared.stored.Commit.{Commit}
use Rattle.aft_model.specs.declared.choice.Choice.TheVariants.{Absent, Version}
use Rattle.aft_model.specs.declared.read_set.ReadPair.{ReadPair}
use Rattle.aft_model.specs.Attempts.{is_read}
use Rattle.aft_model.specs.AtomicReads.{Atomic, is_read_whole}
use Rattle.aft_model.specs.Choice.{blockers, choice, chosen, fits, fitting, is_late_enough, is_not_blocked, is_read_below, none_chosen, wrote_at}
use Rattle.aft_model.specs.ReadSet.{HasEachKeyOnce, read_at}
use Rattle.aft_model.proofs.Choices.{fitting_there, greatest_fits, reads_written, whole_at}
use Rattle.aft_model.proofs.Greatest.{greatest_of_some}
use Rattle.aft_model.proofs.Histories.{In, all_at, any_found, any_from}
use Rattle.aft_model.proofs.Ids.{id_lt-or, same_id-refl, same_ids}
use Rattle.aft_model.proofs.Lists.{in_filter, in_map}
use Rattle.aft_model.proofs.Sights.{bytes_eq-refl, same_bytes}

-- ---- each key once

-- a pair of reads with each key once is what its key was read at
pub read_at_in : (pair : ReadPair) (reads : List ReadPair) → HasEachKeyOnce reads → In pair reads → read_at pair.key reads ≡ Some pair.id
read_at_in pair [] once among = absurd among
read_at_in pair (p ∷ reads) once (inl is) =
    ap (λ t. if t then Some p.id else read_at pair.key reads) (subst (λ (q : ReadPair). IsTrue (bytes_eq pair.key q.key)) is (bytes_eq-refl pair.key)) ∙ ap (λ (q : ReadPair). Some q.id) (sym is)
read_at_in pair (p ∷ reads) once (inr later) =
    let rest = read_at_in pair reads once.1 later in
    ap (λ t. if t then Some p.id else read_at pair.key reads) (false_from_ne_true (bytes_eq pair.key p.key) (λ same.
    let none : read_at pair.key reads ≡ None = subst (λ (k : List ℕ). read_at k reads ≡ None) (sym (same_bytes pair.key p.key same)) once.0 in
    let no : Some pair.id ≡ None = sym rest ∙ none in cc))
    ∙ rest

-- a pair that was read
pub pair_read : (key : List ℕ) (id : TxnId) (reads : List ReadPair) → IsTrue (is_read (record { key = key; id = id }) reads) → In (record { key = key; id = id }) reads
pair_read key id reads read =
    let found = any_found (λ (p : ReadPair). bytes_eq key p.key && same_id id p.id) reads read in
    let parts = and_parts (bytes_eq key found.0.key) (same_id id found.0.id) found.2 in
    let pair : List ℕ → TxnId → ReadPair = λ k i. record { key = k; id = i } in
    subst (λ (p : ReadPair). In p reads) (sym (ap (λ k. pair k id) (same_bytes key found.0.key parts.0) ∙ ap (λ i. pair found.0.key i) (same_ids id found.0.id parts.1))) found.1

pub read_pair : (pair : ReadPair) (reads : List ReadPair) → In pair reads → IsTrue (is_read pair reads)
read_pair pair reads among = any_from (λ (p : ReadPair). bytes_eq pair.key p.key && same_id pair.id p.id) pair reads among (and_from _ _ (bytes_eq-refl pair.key) (same_id-refl pair.id))

-- what a key was read at is one of the pairs
pub in_read_at : (key : List ℕ) (id : TxnId) (reads : List ReadPair) → read_at key reads ≡ Some id → In (record { key = key; id = id }) reads
in_read_at key id [] is = absurd (let no : None ≡ Some id = is in cc)
in_read_at key id (p ∷ reads) is = cases (bytes_eq key p.key) refl is (in_read_at key id reads)
  where
    pair : List ℕ → TxnId → ReadPair
    pair k i = record { key = k; id = i }

    cases : (t : Bool) → bytes_eq key p.key ≡ t → (if t then Some p.id else read_at key reads) ≡ Some id → (read_at key reads ≡ Some id → In (record { key = key; id = id }) reads) → In (record { key = key; id = id }) (p ∷ reads)
    cases true same is rest = (let one : p.id ≡ id = cc in inl (ap (λ k. pair k id) (same_bytes key p.key same) ∙ ap (λ i. pair p.key i) (sym one)))
    cases false other is rest = inr (rest is)

-- ---- the choice repeats

module _ (key : List ℕ) (id : TxnId) (reads : List ReadPair) (known : List Commit) (atomic : Atomic reads known) (read : In (record { key = key; id = id }) reads) where
  -- no commit above the id that wrote the key was read whole
  not_whole : (c : Commit) → IsTrue (wrote key c) → IsTrue (id_lt id c.id) → IsTrue (is_read_whole reads c) → ⊥
  not_whole c writes less whole =
      let own = any_found (bytes_eq key) c.keys writes in
      let below : IsTrue (is_read_below key c.id reads) = any_from (λ (p : ReadPair). bytes_eq key p.key && id_lt p.id c.id) (record { key = key; id = id }) reads read (and_from _ _ (bytes_eq-refl key) less) in
      true≢false (sym (subst (λ (k : List ℕ). IsTrue (is_read_below k c.id reads)) (same_bytes key own.0 own.2) below)
      ∙ not-true (is_read_below own.0 c.id reads) (all_at (λ k. not (is_read_below k c.id reads)) own.0 c.keys own.1 whole))

  -- it is the greatest of the read ids whose commits wrote the key
  top_read : (other : TxnId) → In other (map (λ (p : ReadPair). p.id) (reads_written reads known atomic key)) → IsFalse (id_lt id other)
  top_read other among =
      let found = in_map (λ (p : ReadPair). p.id) other (reads_written reads known atomic key) among in
      let there = in_filter (λ (p : ReadPair). wrote_at key p.id known) found.0 reads found.1 in
      let by = any_found (λ (c : Commit). same_id found.0.id c.id && wrote key c) known there.1 in
      let parts = and_parts (same_id found.0.id by.0.id) (wrote key by.0) by.2 in
      let is : found.0.id ≡ by.0.id = same_ids found.0.id by.0.id parts.0 in
      subst (λ (i : TxnId). IsFalse (id_lt id i)) (sym found.2) (false_from_ne_true (id_lt id found.0.id) (λ less.
      not_whole by.0 parts.1 (subst (λ (i : TxnId). IsTrue (id_lt id i)) is less) (whole_at reads known atomic found.0 by.0 there.0 by.1 is)))

  again_fits : IsTrue (wrote_at key id known) → IsTrue (fits key id reads known)
  again_fits written = greatest_fits reads known atomic key (record { key = key; id = id }) read written top_read

  -- nothing above it fits
  none_above : (other : TxnId) → IsTrue (fits key other reads known) → IsTrue (id_lt id other) → ⊥
  none_above other fit less =
      let parts = and_parts (wrote_at key other known && is_late_enough key other reads known) (is_not_blocked other reads known) fit in
      let by = any_found (λ (c : Commit). same_id other c.id && wrote key c) known (and_parts (wrote_at key other known) (is_late_enough key other reads known) parts.0).0 in
      let both = and_parts (same_id other by.0.id) (wrote key by.0) by.2 in
      let is : other ≡ by.0.id = same_ids other by.0.id both.0 in
      elim (or_cases (not (same_id other by.0.id)) (list_all (λ k. not (is_read_below k other reads)) by.0.keys)
      (all_at (λ (c : Commit). not (same_id other c.id) || list_all (λ k. not (is_read_below k other reads)) c.keys) by.0 known by.1 parts.1)) [
        | inl differs ↦ true≢false (sym both.0 ∙ not-true (same_id other by.0.id) differs)
        | inr whole ↦ not_whole by.0 both.1 (subst (λ (i : TxnId). IsTrue (id_lt id i)) is less) (subst (λ (i : TxnId). IsTrue (list_all (λ k. not (is_read_below k i reads)) by.0.keys)) is whole)
      ]

  greatest_again : IsTrue (wrote_at key id known) → greatest (fitting key reads known) ≡ Some id
  greatest_again written =
      let among = fitting_there reads known atomic key id (again_fits written) in
      let top = greatest_of_some (fitting key reads known) id among in
      let fit = (in_filter (λ i. fits key i reads known) top.0 (versions key known) top.2).1 in
      elim (id_lt-or id top.0 (top.3 id among)) [
        | inl less ↦ absurd (none_above top.0 fit less)
        | inr same ↦ top.1 ∙ ap (λ (i : TxnId). Some i) (sym same)
      ]

  pub repeats : IsTrue (wrote_at key id known) → IsFalse (is_read (record { key = key; id = zero_id }) reads) → choice key reads known ≡ Version id
  repeats written present =
      ap (λ t. if t then Absent else chosen (greatest (fitting key reads known)) (none_chosen (versions key known) (blockers key reads known))) present
      ∙ ap (λ o. chosen o (none_chosen (versions key known) (blockers key reads known))) (greatest_again written)
