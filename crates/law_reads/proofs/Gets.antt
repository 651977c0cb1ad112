-- What an attempt has read: each key at one id, whose commit is known and wrote it, and all of it whole.
use Rattle.std.proofs.Common.{◌≡◌, ℕ, Bool, true, false, ◌&&◌, not, List, [], ◌∷◌, ◌++◌, refl, sym, subst, ◌∙◌, ◌⊎◌, inl, inr}
use Rattle.std.specs.Prelude.{IsTrue, IsFalse, Option, Some, None, filter, if◌then◌else◌}
use Rattle.std.specs.List.{fold, list_all, list_any}
use Rattle.std.proofs.lemmas.Bool.{and_from, and_parts, false_from_ne_true, not-true, true≢false}
use Rattle.aft_id.specs.TxnId.{id_lt, same_id, zero_id}
use Rattle.aft_id.specs.declared.txn_id.TxnId.{TxnId}
use Rattle.aft_records.specs.Commits.{first_known, greatest, has_id, versions, with_commit, with_id_order}
use Rattle.aft_records.specs.Superseded.{is_superseded, wrote}
use Rattle.aft_records.specs.declared.stored.Commit.{Commit}
use Rattle.aft_model.specs.declared.choice.Blocked.{Blocked}
use Rattle.aft_model.specs.declared.choice.Choice.TheVariants as choices
use Rattle.aft_model.specs.declared.read_set.ReadPair.{ReadPair}
use Rattle.aft_model.specs.Attempts.{is_read, reads}
use Rattle.aft_model.specs.AtomicReads.{Atomic}
use Rattle.aft_model.specs.Choice.{blockers, choice, chosen, fits, fitting, is_late_enough, is_not_blocked, none_chosen, wrote_at}
use Rattle.aft_model.specs.ReadSet.{HasEachKeyOnce, read_at}
use Rattle.aft_model.proofs.Choices.{absent_stays, fitting_stays, version_there}
use Rattle.aft_model.proofs.Greatest.{greatest_among}
use Rattle.aft_model.proofs.Histories.{In, all_at, any_found}
use Rattle.aft_model.proofs.Knowledge.{with_cases}
use Rattle.aft_model.proofs.Lists.{all_from, filter_in, in_filter, in_snoc, map_in}
use Rattle.aft_model.proofs.ReadSets.{HasEachKeyOnce-push}
use Rattle.law_reads.specs.Brings.{is_real}
use Rattle.law_reads.proofs.Repeats.{in_read_at, pair_read, read_at_in, read_pair, repeats}

-- ---- known commits are real

abbrev pub AreReal : List Commit → Type 0
AreReal commits = IsTrue (list_all is_real commits)

placed_real : (known : List Commit) (c : Commit) → AreReal known → IsTrue (is_real c) → AreReal (with_id_order known c)
placed_real [] c real its = and_from _ _ its refl
placed_real (d ∷ known) c real its =
    let parts = and_parts (is_real d) (list_all is_real known) real in
    cases (id_lt c.id d.id) parts.0 parts.1 (placed_real known c parts.1 its)
  where
    cases : (t : Bool) → IsTrue (is_real d) → AreReal known → AreReal (with_id_order known c) → AreReal (if t then c ∷ d ∷ known else d ∷ with_id_order known c)
    cases true first rest placed = and_from _ _ its (and_from _ _ first rest)
    cases false first rest placed = and_from _ _ first placed

pub with_real : (known : List Commit) (c : Commit) → AreReal known → IsTrue (is_real c) → AreReal (with_commit known c)
with_real known c real its = with_cases AreReal known c real (λ new kept. placed_real known c real its)

pub learned_real : (known commits : List Commit) → AreReal known → AreReal commits → AreReal (fold with_commit known commits)
learned_real known [] real more = real
learned_real known (c ∷ commits) real more =
    let parts = and_parts (is_real c) (list_all is_real commits) more in
    learned_real (with_commit known c) commits (with_real known c real parts.0) parts.1

pub filtered_real : (test : Commit → Bool) (commits : List Commit) → AreReal commits → AreReal (filter test commits)
filtered_real test commits real = all_from is_real (filter test commits) (λ c among. all_at is_real c commits (in_filter test c commits among).0 real)

pub first_real : (commits : List Commit) → AreReal commits → AreReal (first_known commits)
first_real commits real = learned_real [] (filter (λ c. not (is_superseded c commits)) commits) refl (filtered_real (λ c. not (is_superseded c commits)) commits real)

-- no known commit has the id of absent keys
pub none_zero : (known : List Commit) → AreReal known → IsFalse (has_id zero_id known)
none_zero known real = false_from_ne_true (has_id zero_id known) (λ has.
    let found = any_found (λ (c : Commit). same_id zero_id c.id) known has in
    true≢false (sym found.2 ∙ not-true (same_id zero_id found.0.id) (all_at is_real found.0 known found.1 real)))

-- ---- reads beside what is known

-- each read is of an absent key, or of a known commit that wrote it
abbrev pub Written : List ReadPair → List Commit → Type 0
Written reads known = (pair : ReadPair) → In pair reads → (pair.id ≡ zero_id) ⊎ IsTrue (wrote_at pair.key pair.id known)

-- what a get may add to reads: nothing, or one pair as the choice has it
pub data Adds (key : List ℕ) (before : List ReadPair) (known : List Commit) (after : List ReadPair) : Type 0 where
  Same : after ≡ before → Adds key before known after
  One : (id : TxnId) → after ≡ before ++ record { key = key; id = id } ∷ [] → IsFalse (is_read (record { key = key; id = id }) before)
      → (choice key before known ≡ choices.Version id) ⊎ ((choice key before known ≡ choices.Absent) × (id ≡ zero_id)) → Adds key before known after

-- ---- what is chosen

version_of : (t : Bool) (o : Option TxnId) (ids : List TxnId) (blocked : List Blocked) (id : TxnId) → (if t then choices.Absent else chosen o (none_chosen ids blocked)) ≡ choices.Version id → (t ≡ false) × (o ≡ Some id)
version_of true o ids blocked id is = absurd cc
version_of false None [] blocked id is = absurd cc
version_of false None (x ∷ ids) blocked id is = absurd cc
version_of false (Some g) ids blocked id is = (refl, cc)

absent_of : (t : Bool) (o : Option TxnId) (ids : List TxnId) (blocked : List Blocked) → (if t then choices.Absent else chosen o (none_chosen ids blocked)) ≡ choices.Absent → (t ≡ true) ⊎ (ids ≡ [])
absent_of true o ids blocked is = inl refl
absent_of false None [] blocked is = inr refl
absent_of false None (x ∷ ids) blocked is = absurd cc
absent_of false (Some g) ids blocked is = absurd cc

module _ (key : List ℕ) (reads : List ReadPair) (known : List Commit) where
  abbrev absent_pair : ReadPair
  absent_pair = record { key = key; id = zero_id }

  -- a version that is chosen fits, and the key wasn't read as absent
  chosen_fits : (id : TxnId) → choice key reads known ≡ choices.Version id → IsFalse (is_read absent_pair reads) × IsTrue (fits key id reads known)
  chosen_fits id is =
      let of = version_of (is_read absent_pair reads) (greatest (fitting key reads known)) (versions key known) (blockers key reads known) id is in
      (of.0, (in_filter (λ i. fits key i reads known) id (versions key known) (greatest_among (fitting key reads known) id of.1)).1)

  pub chosen_written : (id : TxnId) → choice key reads known ≡ choices.Version id → IsTrue (wrote_at key id known)
  chosen_written id is =
      (and_parts (wrote_at key id known) (is_late_enough key id reads known) (and_parts (wrote_at key id known && is_late_enough key id reads known) (is_not_blocked id reads known) (chosen_fits id is).1).0).0

  -- a key that is chosen as absent was read so, or no known commit wrote it
  chosen_absent : choice key reads known ≡ choices.Absent → IsTrue (is_read absent_pair reads) ⊎ (versions key known ≡ [])
  chosen_absent = absent_of (is_read absent_pair reads) (greatest (fitting key reads known)) (versions key known) (blockers key reads known)

  unwritten : versions key known ≡ [] → IsFalse (list_any (wrote key) known)
  unwritten none = false_from_ne_true (list_any (wrote key) known) (λ some.
      let found = any_found (wrote key) known some in
      subst (λ ids. In found.0.id ids) none (map_in (λ (c : Commit). c.id) found.0 (filter (wrote key) known) (filter_in (wrote key) found.0 known found.1 found.2)))

  module _ (atomic : Atomic reads known) (written : Written reads known) (once : HasEachKeyOnce reads) where
    -- a key that was read at an id is chosen at that id again
    pub keeps_version : (id other : TxnId) → choice key reads known ≡ choices.Version id → read_at key reads ≡ Some other → other ≡ id
    keeps_version id other is at =
        let among = in_read_at key other reads at in
        let absent = (chosen_fits id is).0 in
        elim (written (record { key = key; id = other }) among) [
          | inl zero ↦ absurd (true≢false (sym (subst (λ (i : TxnId). IsTrue (is_read (record { key = key; id = i }) reads)) zero (read_pair (record { key = key; id = other }) reads among)) ∙ absent))
          | inr wrote_it ↦ (let again = repeats key other reads known atomic among wrote_it absent in let same : choices.Version other ≡ choices.Version id = sym again ∙ is in cc)
        ]

    pub keeps_absent : (other : TxnId) → choice key reads known ≡ choices.Absent → read_at key reads ≡ Some other → other ≡ zero_id
    keeps_absent other is at =
        let among = in_read_at key other reads at in
        elim (written (record { key = key; id = other }) among) [
          | inl zero ↦ zero
          | inr wrote_it ↦ elim (chosen_absent is) [
            | inl read ↦ (let one = read_once zero_id other (pair_read key zero_id reads read) at in sym one)
            | inr none ↦ absurd (subst (λ ids. In other ids) none (version_there key other known wrote_it))
          ]
        ]
      where
        read_once : (i j : TxnId) → In (record { key = key; id = i }) reads → read_at key reads ≡ Some j → i ≡ j
        read_once i j among at = (let first = read_at_in (record { key = key; id = i }) reads once among in let same : Some i ≡ Some j = sym first ∙ at in cc)

    module _ (real : AreReal known) (after : List ReadPair) where
      fresh_key : (id : TxnId) → IsFalse (is_read (record { key = key; id = id }) reads) → (choice key reads known ≡ choices.Version id) ⊎ ((choice key reads known ≡ choices.Absent) × (id ≡ zero_id)) → read_at key reads ≡ None
      fresh_key id new by = cases (read_at key reads) refl
        where
          kept : (other : TxnId) → read_at key reads ≡ Some other → other ≡ id
          kept other at = elim by [ inl version ↦ keeps_version id other version at | inr absent ↦ keeps_absent other absent.0 at ∙ sym absent.1 ]

          cases : (o : Option TxnId) → read_at key reads ≡ o → read_at key reads ≡ None
          cases None at = at
          cases (Some other) at =
              absurd (true≢false (sym (read_pair (record { key = key; id = id }) reads (subst (λ (i : TxnId). In (record { key = key; id = i }) reads) (kept other at) (in_read_at key other reads at))) ∙ new))

      pub once_more : Adds key reads known after → HasEachKeyOnce after
      once_more (Same is) = subst HasEachKeyOnce (sym is) once
      once_more (One id is new by) = subst HasEachKeyOnce (sym is) (HasEachKeyOnce-push reads (record { key = key; id = id }) once (fresh_key id new by))

      pub written_more : Adds key reads known after → Written after known
      written_more (Same is) = subst (λ (r : List ReadPair). Written r known) (sym is) written
      written_more (One id is new by) = subst (λ (r : List ReadPair). Written r known) (sym is) (λ pair among.
          elim (in_snoc pair reads (record { key = key; id = id }) among) [
            | inl was ↦ written pair was
            | inr last ↦ subst (λ (p : ReadPair). (p.id ≡ zero_id) ⊎ IsTrue (wrote_at p.key p.id known)) (sym last) (elim by [ inl version ↦ inr (chosen_written id version) | inr absent ↦ inl absent.1 ])
          ])

      pub atomic_more : Adds key reads known after → Atomic after known
      atomic_more (Same is) = subst (λ (r : List ReadPair). Atomic r known) (sym is) atomic
      atomic_more (One id is new by) = subst (λ (r : List ReadPair). Atomic r known) (sym is)
          (elim by [
            | inl version ↦ fitting_stays reads known atomic key id (chosen_fits id version).1
            | inr absent ↦ elim (chosen_absent absent.0) [
              | inl read ↦ absurd (true≢false (sym (subst (λ (i : TxnId). IsTrue (is_read (record { key = key; id = i }) reads)) (sym absent.1) read) ∙ new))
              | inr none ↦ subst (λ (i : TxnId). Atomic (reads ++ record { key = key; id = i } ∷ []) known) (sym absent.1) (absent_stays reads known atomic key (none_zero known real) (unwritten none))
            ]
          ])
