-- Atomic read sets stay so, and never block what a read commit wrote.
use Rattle.std.proofs.Common.{◌≡◌, ℕ, Bool, true, false, ◌||◌, ◌&&◌, not, List, [], ◌∷◌, ◌++◌, sym, ap, subst, ◌∙◌, ◌⊎◌, inl, inr}
use Rattle.std.specs.Prelude.{IsTrue, IsFalse, Option, Some, None, map, filter, if◌then◌else◌}
use Rattle.std.specs.List.{list_any, list_all}
use Rattle.std.specs.Str.{bytes_eq}
use Rattle.std.proofs.lemmas.Bool.{and_parts, and_from, or_cases, or_left, or_right, not-true, true≢false, false_from_ne_true, cases_Bool}
use Rattle.aft_id.specs.TxnId.{zero_id, id_lt, same_id}
use Rattle.aft_id.specs.declared.txn_id.TxnId.{TxnId}
use Rattle.aft_records.specs.Superseded.{wrote}
use Rattle.aft_records.specs.declared.stored.Commit.{Commit}
use Rattle.aft_model.specs.declared.choice.Blocked.{Blocked}
use Rattle.aft_model.specs.declared.choice.Choice.{Choice}
use Rattle.aft_model.specs.declared.choice.Choice.TheVariants.{Absent, NoneFits}
use Rattle.aft_model.specs.declared.read_set.ReadPair.{ReadPair}
use Rattle.aft_model.specs.Attempts.{is_read}
use Rattle.aft_model.specs.AtomicReads.{Atomic, is_read_whole}
use Rattle.aft_model.specs.Choice.{id_le, wrote_at, is_read_below, is_late_enough, is_not_blocked, fits, fitting, blockers, none_chosen, chosen, choice}
use Rattle.aft_records.specs.Commits.{greatest, has_id, versions}
use Rattle.aft_model.proofs.Greatest.{greatest_of_some}
use Rattle.aft_model.proofs.Histories.{In, any_found, any_from, all_at}
use Rattle.aft_model.proofs.Ids.{same_ids, same_id-refl, id_lt-irrefl}
use Rattle.aft_model.proofs.Lists.{all_from, none_at, none_snoc, in_snoc, in_filter, filter_in, in_map, map_in}
use Rattle.aft_model.proofs.Sights.{same_bytes, bytes_eq-refl}

-- a commit that has a key wrote it
wrote_key : (k key : List ℕ) (c : Commit) → In k c.keys → k ≡ key → IsTrue (wrote key c)
wrote_key k key c among is = any_from (bytes_eq key) k c.keys among (subst (λ z. IsTrue (bytes_eq z k)) is (bytes_eq-refl k))

-- a known commit that wrote a key did so at its id
pub wrote_here : (key : List ℕ) (id : TxnId) (c : Commit) (known : List Commit) → In c known → id ≡ c.id → IsTrue (wrote key c) → IsTrue (wrote_at key id known)
wrote_here key id c known among is wrote_it =
    any_from (λ (d : Commit). same_id id d.id && wrote key d) c known among (and_from _ _ (subst (λ (i : TxnId). IsTrue (same_id id i)) is (same_id-refl id)) wrote_it)

-- what was written at an id is a version of the key
pub version_there : (key : List ℕ) (id : TxnId) (known : List Commit) → IsTrue (wrote_at key id known) → In id (versions key known)
version_there key id known written =
    let found = any_found (λ (c : Commit). same_id id c.id && wrote key c) known written in
    let parts = and_parts (same_id id found.0.id) (wrote key found.0) found.2 in
    subst (λ (i : TxnId). In i (versions key known)) (sym (same_ids id found.0.id parts.0))
    (map_in (λ (c : Commit). c.id) found.0 (filter (wrote key) known) (filter_in (wrote key) found.0 known found.1 parts.1))

module _ (reads : List ReadPair) (known : List Commit) (atomic : Atomic reads known) where
  -- of a known commit that was read, no key was read below it
  pub whole_at : (pair : ReadPair) (c : Commit) → In pair reads → In c known → pair.id ≡ c.id → IsTrue (is_read_whole reads c)
  whole_at pair c read there is =
      elim (or_cases (not (same_id pair.id c.id)) (is_read_whole reads c)
      (all_at (λ (d : Commit). not (same_id pair.id d.id) || is_read_whole reads d) c known there
      (all_at (λ (p : ReadPair). list_all (λ (d : Commit). not (same_id p.id d.id) || is_read_whole reads d) known) pair reads read atomic))) [
        | inl differs ↦ absurd (true≢false (sym (subst (λ (i : TxnId). IsTrue (same_id pair.id i)) is (same_id-refl pair.id)) ∙ not-true (same_id pair.id c.id) differs))
        | inr whole ↦ whole
      ]

  module _ (key : List ℕ) (id : TxnId) where
    abbrev last : ReadPair
    last = record { key = key; id = id }

    -- a commit stays read whole with one pair more, if that is not below it
    whole_snoc : (c : Commit) → IsTrue (is_read_whole reads c) → (IsTrue (wrote key c) → IsFalse (id_lt id c.id)) → IsTrue (is_read_whole (reads ++ last ∷ []) c)
    whole_snoc c whole above =
        all_from (λ k. not (is_read_below k c.id (reads ++ last ∷ []))) c.keys (λ k among.
        ap not (none_snoc (λ (p : ReadPair). bytes_eq k p.key && id_lt p.id c.id) reads last
        (not-true (is_read_below k c.id reads) (all_at (λ k. not (is_read_below k c.id reads)) k c.keys among whole))
        (false_from_ne_true (bytes_eq k key && id_lt id c.id) (λ both.
        let parts = and_parts (bytes_eq k key) (id_lt id c.id) both in
        true≢false (sym parts.1 ∙ above (wrote_key k key c among (same_bytes k key parts.0)))))))

    -- reads stay atomic with one pair more, if it isn't below a read commit that wrote its key, and its own commit was read whole
    atomic_snoc : ((pair : ReadPair) (c : Commit) → In pair reads → In c known → pair.id ≡ c.id → IsTrue (wrote key c) → IsFalse (id_lt id c.id))
        → ((c : Commit) → In c known → id ≡ c.id → IsTrue (is_read_whole reads c))
        → Atomic (reads ++ last ∷ []) known
    atomic_snoc late own =
        all_from (λ (p : ReadPair). list_all (λ (c : Commit). not (same_id p.id c.id) || is_read_whole (reads ++ last ∷ []) c) known) (reads ++ last ∷ []) (λ p read.
        all_from (λ (c : Commit). not (same_id p.id c.id) || is_read_whole (reads ++ last ∷ []) c) known (λ c there.
        elim (cases_Bool (same_id p.id c.id)) [
          | inl same ↦ or_right _ _ (whole p c (in_snoc p reads last read) there (same_ids p.id c.id same))
          | inr differs ↦ or_left _ _ (ap not differs)
        ]))
      where
        whole : (p : ReadPair) (c : Commit) → In p reads ⊎ (p ≡ last) → In c known → p.id ≡ c.id → IsTrue (is_read_whole (reads ++ last ∷ []) c)
        whole p c (inl before) there is = whole_snoc c (whole_at p c before there is) (late p c before there is)
        whole p c (inr new) there is =
            let here : id ≡ c.id = ap (λ (q : ReadPair). q.id) (sym new) ∙ is in
            whole_snoc c (own c there here) (λ wrote_it. subst (λ (i : TxnId). IsFalse (id_lt id i)) here (id_lt-irrefl id))

  -- a version that fits leaves reads atomic
  pub fitting_stays : (key : List ℕ) (id : TxnId) → IsTrue (fits key id reads known) → Atomic (reads ++ record { key = key; id = id } ∷ []) known
  fitting_stays key id fit =
      let parts = and_parts (wrote_at key id known && is_late_enough key id reads known) (is_not_blocked id reads known) fit in
      let late = and_parts (wrote_at key id known) (is_late_enough key id reads known) parts.0 in
      atomic_snoc key id
      (λ pair c read there is wrote_it.
      elim (or_cases (not (wrote_at key pair.id known)) (id_le pair.id id) (all_at (λ (p : ReadPair). not (wrote_at key p.id known) || id_le p.id id) pair reads read late.1)) [
        | inl never ↦ absurd (true≢false (sym (wrote_here key pair.id c known there is wrote_it) ∙ not-true (wrote_at key pair.id known) never))
        | inr at_least ↦ subst (λ (i : TxnId). IsFalse (id_lt id i)) is (not-true (id_lt id pair.id) at_least)
      ])
      (λ c there is.
      elim (or_cases (not (same_id id c.id)) (list_all (λ k. not (is_read_below k id reads)) c.keys) (all_at (λ (d : Commit). not (same_id id d.id) || list_all (λ k. not (is_read_below k id reads)) d.keys) c known there parts.1)) [
        | inl differs ↦ absurd (true≢false (sym (subst (λ (i : TxnId). IsTrue (same_id id i)) is (same_id-refl id)) ∙ not-true (same_id id c.id) differs))
        | inr whole ↦ subst (λ (i : TxnId). IsTrue (list_all (λ k. not (is_read_below k i reads)) c.keys)) is whole
      ])

  -- a key that no known commit wrote leaves reads atomic, at the zero id, which is no known commit's
  pub absent_stays : (key : List ℕ) → IsFalse (has_id zero_id known) → IsFalse (list_any (wrote key) known) → Atomic (reads ++ record { key = key; id = zero_id } ∷ []) known
  absent_stays key unused none =
      atomic_snoc key zero_id
      (λ pair c read there is wrote_it. absurd (none_at (wrote key) c known there none wrote_it))
      (λ c there is. absurd (none_at (λ (d : Commit). same_id zero_id d.id) c known there unused (subst (λ (i : TxnId). IsTrue (same_id zero_id i)) is (same_id-refl zero_id))))

  -- ---- a read commit's keys

  module _ (key : List ℕ) where
    abbrev pub reads_written : List ReadPair
    reads_written = filter (λ (p : ReadPair). wrote_at key p.id known) reads

    -- the greatest read id whose commit wrote the key fits
    pub greatest_fits : (pair : ReadPair) → In pair reads → IsTrue (wrote_at key pair.id known) → ((other : TxnId) → In other (map (λ (p : ReadPair). p.id) reads_written) → IsFalse (id_lt pair.id other)) → IsTrue (fits key pair.id reads known)
    greatest_fits pair read written top =
        and_from _ _ (and_from _ _ written late) unblocked
      where
        late : IsTrue (is_late_enough key pair.id reads known)
        late = all_from (λ (p : ReadPair). not (wrote_at key p.id known) || id_le p.id pair.id) reads (λ p there.
            elim (cases_Bool (wrote_at key p.id known)) [
              | inl wrote_it ↦ or_right _ _ (ap not (top p.id (map_in (λ (q : ReadPair). q.id) p reads_written (filter_in (λ (q : ReadPair). wrote_at key q.id known) p reads there wrote_it))))
              | inr never ↦ or_left _ _ (ap not never)
            ])

        unblocked : IsTrue (is_not_blocked pair.id reads known)
        unblocked = all_from (λ (c : Commit). not (same_id pair.id c.id) || list_all (λ k. not (is_read_below k pair.id reads)) c.keys) known (λ c there.
            elim (cases_Bool (same_id pair.id c.id)) [
              | inl same ↦ (let is = same_ids pair.id c.id same in
                  or_right _ _ (subst (λ (i : TxnId). IsTrue (list_all (λ k. not (is_read_below k i reads)) c.keys)) (sym is) (whole_at pair c read there is)))
              | inr differs ↦ or_left _ _ (ap not differs)
            ])

    pub fitting_there : (id : TxnId) → IsTrue (fits key id reads known) → In id (fitting key reads known)
    fitting_there id fit =
        let parts = and_parts (wrote_at key id known && is_late_enough key id reads known) (is_not_blocked id reads known) fit in
        let written = and_parts (wrote_at key id known) (is_late_enough key id reads known) parts.0 in
        filter_in (λ (i : TxnId). fits key i reads known) id (versions key known) (version_there key id known written.0) fit

    -- some version fits, where a read commit wrote the key
    some_fits : (pair : ReadPair) → In pair reads → IsTrue (wrote_at key pair.id known) → (id : TxnId) × In id (fitting key reads known)
    some_fits pair read written =
        let top = greatest_of_some (map (λ (p : ReadPair). p.id) reads_written) pair.id (map_in (λ (p : ReadPair). p.id) pair reads_written (filter_in (λ (p : ReadPair). wrote_at key p.id known) pair reads read written)) in
        let found = in_map (λ (p : ReadPair). p.id) top.0 reads_written top.2 in
        let there = in_filter (λ (p : ReadPair). wrote_at key p.id known) found.0 reads found.1 in
        (found.0.id, fitting_there found.0.id (greatest_fits found.0 there.0 there.1 (λ other among. subst (λ (i : TxnId). IsFalse (id_lt i other)) found.2 (top.3 other among))))

version_chosen : (t : Bool) (o : Option TxnId) (g : TxnId) (otherwise : Choice) (blocked : List Blocked) → o ≡ Some g → (if t then Absent else chosen o otherwise) ≡ NoneFits blocked → ⊥
version_chosen true o g otherwise blocked is none = cc
version_chosen false None g otherwise blocked is none = cc
version_chosen false (Some h) g otherwise blocked is none = cc

pub never_blocked : (key : List ℕ) (pair : ReadPair) (reads : List ReadPair) (known : List Commit) (blocked : List Blocked)
    → Atomic reads known → IsTrue (is_read pair reads) → IsTrue (wrote_at key pair.id known) → choice key reads known ≡ NoneFits blocked → ⊥
never_blocked key pair reads known blocked atomic read written none =
    let found = any_found (λ (p : ReadPair). bytes_eq pair.key p.key && same_id pair.id p.id) reads read in
    let same = and_parts (bytes_eq pair.key found.0.key) (same_id pair.id found.0.id) found.2 in
    let some = some_fits reads known atomic key found.0 found.1 (subst (λ (i : TxnId). IsTrue (wrote_at key i known)) (same_ids pair.id found.0.id same.1) written) in
    let top = greatest_of_some (fitting key reads known) some.0 some.1 in
    version_chosen (is_read (record { key = key; id = zero_id }) reads) (greatest (fitting key reads known)) top.0 (none_chosen (versions key known) (blockers key reads known)) blocked top.1 none
