-- What the choice is where it is a version or absent, and that it repeats.
use Rattle.std.proofs.Common.{◌≡◌, ℕ, Bool, true, false, ◌&&◌, ◌||◌, not, List, [], ◌∷◌, ◌++◌, refl, sym, ap, subst, ◌∙◌, inl, inr}
use Rattle.std.specs.Prelude.{IsTrue, IsFalse, Option, Some, None, filter, if◌then◌else◌}
use Rattle.std.specs.List.{list_all, list_any}
use Rattle.std.specs.Str.{bytes_eq}
use Rattle.std.proofs.lemmas.Bool.{and_from, and_parts, or_cases, or_right, or_left, not-true, true≢false, false≢true, false_from_ne_true, cases_Bool}
use Rattle.aft_id.specs.TxnId.{id_lt, same_id, zero_id}
use Rattle.aft_id.specs.declared.txn_id.TxnId.{TxnId}
use Rattle.aft_records.specs.Commits.{greatest, has_id, versions}
use Rattle.aft_records.specs.Superseded.{wrote}
use Rattle.aft_records.specs.declared.stored.Commit.{Commit}
use Rattle.aft_model.proofs.Choices.{absent_stays, version_there}
use Rattle.aft_model.proofs.Greatest.{greatest_of_some, greatest_among}
use Rattle.aft_model.proofs.Histories.{In, any_found, any_from, all_at}
use Rattle.aft_model.proofs.Ids.{id_lt-or, same_id-refl, same_ids}
use Rattle.aft_model.proofs.Lists.{all_from, filter_in, in_filter, map_in}
use Rattle.aft_model.proofs.Sights.{same_bytes}
use Rattle.aft_model.specs.AtomicReads.{Atomic, is_read_whole}
use Rattle.aft_model.specs.Attempts.{is_read}
use Rattle.aft_model.specs.Choice.{blockers, choice, chosen, fits, fitting, id_le, is_late_enough, is_not_blocked, is_read_below, none_chosen, wrote_at}
use Rattle.aft_model.specs.ReadSet.{HasEachKeyOnce, read_at}
use Rattle.aft_model.specs.declared.choice.Blocked.{Blocked}
use Rattle.aft_model.specs.declared.choice.Choice.TheVariants.{Absent, Version}
use Rattle.aft_model.specs.declared.read_set.ReadPair.{ReadPair}
use Rattle.aft_select.proofs.Keys.{is_read-at}
use Rattle.aft_select.specs.Choosing.{is_at}

-- ---- what is chosen

version_of : (t : Bool) (o : Option TxnId) (ids : List TxnId) (blocked : List Blocked) (id : TxnId) → (if t then Absent else chosen o (none_chosen ids blocked)) ≡ Version id → o ≡ Some id
version_of true o ids blocked id is = cc
version_of false None [] blocked id is = cc
version_of false None (x ∷ ids) blocked id is = cc
version_of false (Some g) ids blocked id is = cc

-- a version that is chosen fits
pub chosen_fits : (key : List ℕ) (id : TxnId) (reads : List ReadPair) (known : List Commit) → choice key reads known ≡ Version id → IsTrue (fits key id reads known)
chosen_fits key id reads known is =
    let top = version_of (is_read (record { key = key; id = zero_id }) reads) (greatest (fitting key reads known)) (versions key known) (blockers key reads known) id is in
    (in_filter (λ i. fits key i reads known) id (versions key known) (greatest_among (fitting key reads known) id top)).1

pub fits_written : (key : List ℕ) (id : TxnId) (reads : List ReadPair) (known : List Commit) → IsTrue (fits key id reads known) → IsTrue (wrote_at key id known)
fits_written key id reads known fit =
    (and_parts (wrote_at key id known) (is_late_enough key id reads known) (and_parts (wrote_at key id known && is_late_enough key id reads known) (is_not_blocked id reads known) fit).0).0

absent_of : (t : Bool) (o : Option TxnId) (ids : List TxnId) (blocked : List Blocked) → (if t then Absent else chosen o (none_chosen ids blocked)) ≡ Absent → IsFalse t → ids ≡ []
absent_of true o ids blocked is unread = absurd (true≢false unread)
absent_of false None [] blocked is unread = refl
absent_of false None (x ∷ ids) blocked is unread = cc
absent_of false (Some g) ids blocked is unread = cc

-- a key without versions was written by no known commit
unwritten : (key : List ℕ) (known : List Commit) → versions key known ≡ [] → IsFalse (list_any (wrote key) known)
unwritten key known none = false_from_ne_true (list_any (wrote key) known) (λ some.
    let found = any_found (wrote key) known some in
    subst (λ ids. In found.0.id ids) none (map_in (λ (c : Commit). c.id) found.0 (filter (wrote key) known) (filter_in (wrote key) found.0 known found.1 found.2)))

pub absent_atomic : (key : List ℕ) (reads : List ReadPair) (known : List Commit) → Atomic reads known → IsFalse (has_id zero_id known) → choice key reads known ≡ Absent → IsFalse (is_read (record { key = key; id = zero_id }) reads)
    → Atomic (reads ++ record { key = key; id = zero_id } ∷ []) known
absent_atomic key reads known atomic unused is unread =
    absent_stays reads known atomic key unused
    (unwritten key known (absent_of (is_read (record { key = key; id = zero_id }) reads) (greatest (fitting key reads known)) (versions key known) (blockers key reads known) is unread))

-- ---- a repeated get

same_at : (a b : TxnId) (o : Option TxnId) → IsTrue (is_at a o) → IsTrue (is_at b o) → a ≡ b
same_at a b None first second = absurd (false≢true first)
same_at a b (Some read) first second = same_ids a read first ∙ sym (same_ids b read second)

-- a key that stands once in a read set has one id
one_id : (key : List ℕ) (a b : TxnId) (reads : List ReadPair) → HasEachKeyOnce reads → IsTrue (is_read (record { key = key; id = a }) reads) → IsTrue (is_read (record { key = key; id = b }) reads) → a ≡ b
one_id key a b reads once first second = same_at a b (read_at key reads) (sym (is_read-at key a reads once) ∙ first) (sym (is_read-at key b reads once) ∙ second)

module _ (key : List ℕ) (id : TxnId) (reads : List ReadPair) (known : List Commit) (atomic : Atomic reads known) (read : IsTrue (is_read (record { key = key; id = id }) reads)) where
  -- where the key is read at the id, it is read below each greater id
  read_under : (other : TxnId) → IsTrue (id_lt id other) → IsTrue (is_read_below key other reads)
  read_under other less =
      let found = any_found (λ (p : ReadPair). bytes_eq key p.key && same_id id p.id) reads read in
      let parts = and_parts (bytes_eq key found.0.key) (same_id id found.0.id) found.2 in
      any_from (λ (p : ReadPair). bytes_eq key p.key && id_lt p.id other) found.0 reads found.1
      (and_from _ _ parts.0 (subst (λ (i : TxnId). IsTrue (id_lt i other)) (same_ids id found.0.id parts.1) less))

  -- of a known commit that was read, no key was read below it
  whole_at : (pair : ReadPair) (c : Commit) → In pair reads → In c known → IsTrue (same_id pair.id c.id) → IsTrue (is_read_whole reads c)
  whole_at pair c there among same =
      elim (or_cases (not (same_id pair.id c.id)) (is_read_whole reads c)
      (all_at (λ (d : Commit). not (same_id pair.id d.id) || is_read_whole reads d) c known among
      (all_at (λ (p : ReadPair). list_all (λ (d : Commit). not (same_id p.id d.id) || is_read_whole reads d) known) pair reads there atomic))) [
        | inl differs ↦ absurd (true≢false (sym same ∙ not-true (same_id pair.id c.id) differs))
        | inr whole ↦ whole
      ]

  -- a commit that wrote the key and isn't read whole is above the id
  pub blocked_above : (c : Commit) → IsTrue (wrote key c) → IsTrue (id_lt id c.id) → IsFalse (is_read_whole reads c)
  blocked_above c writes less = false_from_ne_true (is_read_whole reads c) (λ whole.
      let own = any_found (bytes_eq key) c.keys writes in
      let same : key ≡ own.0 = same_bytes key own.0 own.2 in
      true≢false (sym (subst (λ (k : List ℕ). IsTrue (is_read_below k c.id reads)) same (read_under c.id less)) ∙ not-true (is_read_below own.0 c.id reads) (all_at (λ k. not (is_read_below k c.id reads)) own.0 c.keys own.1 whole)))

  late : IsTrue (is_late_enough key id reads known)
  late = all_from (λ (p : ReadPair). not (wrote_at key p.id known) || id_le p.id id) reads (λ p there.
      elim (cases_Bool (wrote_at key p.id known)) [
        | inl written ↦ or_right _ _ (ap not (false_from_ne_true (id_lt id p.id) (λ less. above p there written less)))
        | inr never ↦ or_left _ _ (ap not never)
      ])
    where
      above : (p : ReadPair) → In p reads → IsTrue (wrote_at key p.id known) → IsTrue (id_lt id p.id) → ⊥
      above p there written less =
          let found = any_found (λ (c : Commit). same_id p.id c.id && wrote key c) known written in
          let parts = and_parts (same_id p.id found.0.id) (wrote key found.0) found.2 in
          true≢false (sym (whole_at p found.0 there found.1 parts.0) ∙ blocked_above found.0 parts.1 (subst (λ (i : TxnId). IsTrue (id_lt id i)) (same_ids p.id found.0.id parts.0) less))

  free : IsTrue (is_not_blocked id reads known)
  free = all_from (λ (c : Commit). not (same_id id c.id) || list_all (λ k. not (is_read_below k id reads)) c.keys) known (λ c among.
      elim (cases_Bool (same_id id c.id)) [
        | inl same ↦ or_right _ _ (here c among same)
        | inr differs ↦ or_left _ _ (ap not differs)
      ])
    where
      here : (c : Commit) → In c known → IsTrue (same_id id c.id) → IsTrue (list_all (λ k. not (is_read_below k id reads)) c.keys)
      here c among same =
          let found = any_found (λ (p : ReadPair). bytes_eq key p.key && same_id id p.id) reads read in
          let is : id ≡ found.0.id = same_ids id found.0.id (and_parts (bytes_eq key found.0.key) (same_id id found.0.id) found.2).1 in
          let whole = whole_at found.0 c found.1 among (subst (λ (i : TxnId). IsTrue (same_id i c.id)) is same) in
          subst (λ (i : TxnId). IsTrue (list_all (λ k. not (is_read_below k i reads)) c.keys)) (sym (same_ids id c.id same)) whole

  -- the id fits, if its commit wrote the key
  again_fits : IsTrue (wrote_at key id known) → IsTrue (fits key id reads known)
  again_fits written = and_from _ _ (and_from _ _ written late) free

  -- nothing above it fits
  none_above : (other : TxnId) → IsTrue (fits key other reads known) → IsTrue (id_lt id other) → ⊥
  none_above other fit less =
      let parts = and_parts (wrote_at key other known && is_late_enough key other reads known) (is_not_blocked other reads known) fit in
      let found = any_found (λ (c : Commit). same_id other c.id && wrote key c) known (fits_written key other reads known fit) in
      let both = and_parts (same_id other found.0.id) (wrote key found.0) found.2 in
      let is : other ≡ found.0.id = same_ids other found.0.id both.0 in
      elim (or_cases (not (same_id other found.0.id)) (list_all (λ k. not (is_read_below k other reads)) found.0.keys)
      (all_at (λ (c : Commit). not (same_id other c.id) || list_all (λ k. not (is_read_below k other reads)) c.keys) found.0 known found.1 parts.1)) [
        | inl differs ↦ true≢false (sym both.0 ∙ not-true (same_id other found.0.id) differs)
        | inr whole ↦ true≢false (sym (subst (λ (i : TxnId). IsTrue (list_all (λ k. not (is_read_below k i reads)) found.0.keys)) is whole) ∙ blocked_above found.0 both.1 (subst (λ (i : TxnId). IsTrue (id_lt id i)) is less))
      ]

  again_greatest : IsTrue (wrote_at key id known) → greatest (fitting key reads known) ≡ Some id
  again_greatest written =
      let among = filter_in (λ i. fits key i reads known) id (versions key known) (version_there key id known written) (again_fits written) in
      let top = greatest_of_some (fitting key reads known) id among in
      let fit = (in_filter (λ i. fits key i reads known) top.0 (versions key known) top.2).1 in
      elim (id_lt-or id top.0 (top.3 id among)) [
        | inl less ↦ absurd (none_above top.0 fit less)
        | inr same ↦ top.1 ∙ ap (λ (i : TxnId). Some i) (sym same)
      ]

  pub repeats : HasEachKeyOnce reads → IsFalse (same_id id zero_id) → IsTrue (wrote_at key id known) → choice key reads known ≡ Version id
  repeats once real written =
      let present : IsFalse (is_read (record { key = key; id = zero_id }) reads) = false_from_ne_true (is_read (record { key = key; id = zero_id }) reads) (λ absent.
      true≢false (sym (subst (λ (i : TxnId). IsTrue (same_id id i)) (one_id key id zero_id reads once read absent) (same_id-refl id)) ∙ real)) in
      ap (λ t. if t then Absent else chosen (greatest (fitting key reads known)) (none_chosen (versions key known) (blockers key reads known))) present
      ∙ ap (λ o. chosen o (none_chosen (versions key known) (blockers key reads known))) (again_greatest written)
