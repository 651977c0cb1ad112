-- A get that picks nothing names one blocker of each known version.
use Rattle.std.proofs.Common.{◌≡◌, ℕ, Bool, true, false, ◌&&◌, ◌||◌, not, List, [], ◌∷◌, ◌++◌, refl, sym, ap, subst, ◌∙◌, ◌⊎◌, inl, inr}
use Rattle.std.specs.Prelude.{IsTrue, IsFalse, Option, Some, None, filter, if◌then◌else◌, map}
use Rattle.std.specs.List.{flat_map, list_all}
use Rattle.std.specs.Str.{bytes_eq}
use Rattle.std.proofs.lemmas.Bool.{and_from, and_parts, cases_Bool, false_from_ne_true, or_left, or_parts, true≢false}
use Rattle.aft_id.specs.TxnId.{id_lt, same_id, zero_id}
use Rattle.aft_id.specs.declared.txn_id.TxnId.{TxnId}
use Rattle.aft_records.specs.Commits.{greatest, ids_of, versions}
use Rattle.aft_records.specs.Superseded.{wrote}
use Rattle.aft_records.specs.declared.stored.Commit.{Commit}
use Rattle.aft_model.specs.declared.caller.Attempt.{Attempt}
use Rattle.aft_model.specs.declared.choice.Blocked.{Blocked}
use Rattle.aft_model.specs.declared.choice.Choice.TheVariants.{Absent, NoneFits}
use Rattle.aft_model.specs.declared.node.NodeEntry.{NodeEntry}
use Rattle.aft_model.specs.declared.read_set.ReadPair.{ReadPair}
use Rattle.aft_model.specs.Attempts.{attempt_state, is_read, reads}
use Rattle.aft_model.specs.AtomicReads.{Atomic}
use Rattle.aft_model.specs.Choice.{below_of, blockers, choice, chosen, first_below, fits, fitting, id_le, is_late_enough, is_not_blocked, is_read_below, none_chosen, wrote_at}
use Rattle.aft_model.specs.Known.{known}
use Rattle.aft_model.specs.LegalNode.{LegalNode}
use Rattle.aft_model.specs.NodeState.{node_state, part, serves}
use Rattle.aft_model.proofs.Choices.{never_blocked, wrote_here}
use Rattle.aft_model.proofs.Greatest.{greatest_of_some}
use Rattle.aft_model.proofs.Histories.{In, any_from, in_flat_map}
use Rattle.aft_model.proofs.Ids.{same_ids}
use Rattle.aft_model.proofs.Incarnations.{known-at}
use Rattle.aft_model.proofs.Knowledge.{OneEach, one_each_in}
use Rattle.aft_model.proofs.Lists.{all_from, filter_in, in_filter, map_in}
use Rattle.aft_model.proofs.Pins.{There}
use Rattle.aft_model.proofs.Services.{serving}
use Rattle.aft_model.proofs.Sights.{bytes_eq-refl, same_bytes}
use Rattle.law_reads.specs.Brings.{are_real}
use Rattle.law_reads.proofs.Repeats.{read_pair}
use Rattle.law_reads.proofs.Served.{atomic}

-- ---- lists

-- where not all pass, one doesn't
not_all : {A : Type 0} (test : A → Bool) (xs : List A) → IsFalse (list_all test xs) → (x : A) × In x xs × IsFalse (test x)
not_all test [] none = absurd (true≢false none)
not_all test (x ∷ xs) none = elim (cases_Bool (test x)) [
  | inl passed ↦ (let rest = not_all test xs (sym (ap (λ t. t && list_all test xs) passed) ∙ none) in (rest.0, inr rest.1, rest.2))
  | inr failed ↦ (x, inl refl, failed)
]

-- ---- the first key that was read below an id

-- a blocker of a version of an id, of one of these keys
record Blocks (id : TxnId) (reads : List ReadPair) (keys : List (List ℕ)) (b : Blocked) : Type 0 where
  pub its_id : b.id ≡ id
  pub key : In b.key keys
  pub read : In (record { key = b.key; id = b.read }) reads
  pub less : IsTrue (id_lt b.read id)

-- what a list of blockers of keys is: none, where none was read below, or one
abbrev Names : TxnId → List ReadPair → List (List ℕ) → List Blocked → Type 0
Names id reads keys blocked = (((key : List ℕ) → In key keys → IsFalse (is_read_below key id reads)) × (blocked ≡ [])) ⊎ ((b : Blocked) × (blocked ≡ b ∷ []) × Blocks id reads keys b)

below_cases : (id : TxnId) (key : List ℕ) (reads : List ReadPair) (otherwise : List Blocked)
    → (IsFalse (is_read_below key id reads) × (below_of id key reads otherwise ≡ otherwise)) ⊎ ((b : Blocked) × (below_of id key reads otherwise ≡ b ∷ []) × Blocks id reads (key ∷ []) b)
below_cases id key [] otherwise = inl (refl, refl)
below_cases id key (p ∷ reads) otherwise = cases (bytes_eq key p.key && id_lt p.id id) refl (below_cases id key reads otherwise)
  where
    pair : List ℕ → TxnId → ReadPair
    pair k i = record { key = k; id = i }

    cases : (t : Bool) → (bytes_eq key p.key && id_lt p.id id) ≡ t
        → (IsFalse (is_read_below key id reads) × (below_of id key reads otherwise ≡ otherwise)) ⊎ ((b : Blocked) × (below_of id key reads otherwise ≡ b ∷ []) × Blocks id reads (key ∷ []) b)
        → (IsFalse (t || is_read_below key id reads) × ((if t then record { id = id; key = key; read = p.id } ∷ [] else below_of id key reads otherwise) ≡ otherwise))
        ⊎ ((b : Blocked) × ((if t then record { id = id; key = key; read = p.id } ∷ [] else below_of id key reads otherwise) ≡ b ∷ []) × Blocks id (p ∷ reads) (key ∷ []) b)
    cases true below rest =
        let parts = and_parts (bytes_eq key p.key) (id_lt p.id id) below in
        inr (record { id = id; key = key; read = p.id }, refl, record { its_id = refl; key = inl refl; read = inl (ap (λ k. pair k p.id) (same_bytes key p.key parts.0)); less = parts.1 })
    cases false other (inl none) = inl none
    cases false other (inr (b, is, by)) = inr (b, is, record { its_id = by.its_id; key = by.key; read = inr by.read; less = by.less })

names_first : (id : TxnId) (reads : List ReadPair) (keys : List (List ℕ)) → Names id reads keys (first_below id reads keys)
names_first id reads [] = inl (λ key among. absurd among, refl)
names_first id reads (key ∷ keys) = cases (names_first id reads keys) (below_cases id key reads (first_below id reads keys))
  where
    cases : Names id reads keys (first_below id reads keys)
        → (IsFalse (is_read_below key id reads) × (below_of id key reads (first_below id reads keys) ≡ first_below id reads keys)) ⊎ ((b : Blocked) × (below_of id key reads (first_below id reads keys) ≡ b ∷ []) × Blocks id reads (key ∷ []) b)
        → Names id reads (key ∷ keys) (below_of id key reads (first_below id reads keys))
    cases rest (inr (b, is, by)) =
        inr (b, is, record { its_id = by.its_id; key = elim by.key [ inl here ↦ inl here | inr nowhere ↦ absurd nowhere ]; read = by.read; less = by.less })
    cases (inl (none, nil)) (inl (unread, same)) =
        inl (λ k among. elim among [ inl here ↦ subst (λ (x : List ℕ). IsFalse (is_read_below x id reads)) (sym here) unread | inr later ↦ none k later ], same ∙ nil)
    cases (inr (b, is, by)) (inl (unread, same)) = inr (b, same ∙ is, record { its_id = by.its_id; key = inr by.key; read = by.read; less = by.less })

-- ---- the choice of none

none_of : (t : Bool) (o : Option TxnId) (ids : List TxnId) (named blocked : List Blocked) → (if t then Absent else chosen o (none_chosen ids named)) ≡ NoneFits blocked → (o ≡ None) × (named ≡ blocked)
none_of true o ids named blocked is = absurd cc
none_of false None [] named blocked is = absurd cc
none_of false None (x ∷ ids) named blocked is = (refl, cc)
none_of false (Some g) ids named blocked is = absurd cc

module _ (key : List ℕ) (reads : List ReadPair) (known : List Commit) (blocked : List Blocked) (atomic : Atomic reads known) (one_each : OneEach known) (none : choice key reads known ≡ NoneFits blocked) where
  nothing : (greatest (fitting key reads known) ≡ None) × (blockers key reads known ≡ blocked)
  nothing = none_of (is_read (record { key = key; id = zero_id }) reads) (greatest (fitting key reads known)) (versions key known) (blockers key reads known) blocked none

  never_fits : (c : Commit) → In c known → IsTrue (wrote key c) → IsFalse (fits key c.id reads known)
  never_fits c among writes = false_from_ne_true (fits key c.id reads known) (λ fit.
      let there = filter_in (λ i. fits key i reads known) c.id (versions key known) (map_in (λ (d : Commit). d.id) c (filter (wrote key) known) (filter_in (wrote key) c known among writes)) fit in
      let top = greatest_of_some (fitting key reads known) c.id there in
      let no : Some top.0 ≡ None = sym top.1 ∙ nothing.0 in cc)

  late : (id : TxnId) → IsTrue (is_late_enough key id reads known)
  late id = all_from (λ (p : ReadPair). not (wrote_at key p.id known) || id_le p.id id) reads (λ p read.
      or_left _ _ (ap not (false_from_ne_true (wrote_at key p.id known) (λ written.
      never_blocked key p reads known blocked atomic (read_pair p reads read) written none))))

  -- each known version has a blocker
  one_blocker : (c : Commit) → In c known → IsTrue (wrote key c) → (b : Blocked) × (first_below c.id reads c.keys ≡ b ∷ []) × Blocks c.id reads c.keys b
  one_blocker c among writes = cases (names_first c.id reads c.keys)
    where
      found : (k : List ℕ) × In k c.keys × IsTrue (is_read_below k c.id reads)
      found =
          let written = wrote_here key c.id c known among refl writes in
          let open_ : IsFalse (is_not_blocked c.id reads known) = false_from_ne_true (is_not_blocked c.id reads known) (λ free.
          true≢false (sym (and_from _ _ (and_from _ _ written (late c.id)) free) ∙ never_fits c among writes)) in
          let other = not_all (λ (d : Commit). not (same_id c.id d.id) || list_all (λ k. not (is_read_below k c.id reads)) d.keys) known open_ in
          let parts = or_parts (not (same_id c.id other.0.id)) (list_all (λ k. not (is_read_below k c.id reads)) other.0.keys) other.2 in
          let same : IsTrue (same_id c.id other.0.id) = elim (cases_Bool (same_id c.id other.0.id)) [ inl is ↦ is | inr differs ↦ absurd (true≢false (sym (ap not differs) ∙ parts.0)) ] in
          let one : other.0 ≡ c = one_each other.0 c other.1 among (sym (same_ids c.id other.0.id same)) in
          let at = not_all (λ k. not (is_read_below k c.id reads)) other.0.keys parts.1 in
          (at.0, subst (λ (d : Commit). In at.0 d.keys) one at.1, elim (cases_Bool (is_read_below at.0 c.id reads)) [ inl below ↦ below | inr unread ↦ absurd (true≢false (sym (ap not unread) ∙ at.2)) ])

      cases : Names c.id reads c.keys (first_below c.id reads c.keys) → (b : Blocked) × (first_below c.id reads c.keys ≡ b ∷ []) × Blocks c.id reads c.keys b
      cases (inl (unread, nil)) = absurd (true≢false (sym found.2 ∙ unread found.0 found.1))
      cases (inr one) = one

  ids_named : (xs : List Commit) → ((c : Commit) → In c xs → In c known × IsTrue (wrote key c)) → map (λ (b : Blocked). b.id) (flat_map (λ (c : Commit). first_below c.id reads c.keys) xs) ≡ ids_of xs
  ids_named [] each = refl
  ids_named (c ∷ xs) each =
      let here = each c (inl refl) in
      let one = one_blocker c here.0 here.1 in
      ap (λ (l : List Blocked). map (λ (b : Blocked). b.id) (l ++ flat_map (λ (d : Commit). first_below d.id reads d.keys) xs)) one.1
      ∙ (ap (λ (i : TxnId). i ∷ map (λ (b : Blocked). b.id) (flat_map (λ (d : Commit). first_below d.id reads d.keys) xs)) one.2.its_id
      ∙ ap (λ (l : List TxnId). c.id ∷ l) (ids_named xs (λ d later. each d (inr later))))

  pub names_versions : map (λ (b : Blocked). b.id) blocked ≡ versions key known
  names_versions = ap (map (λ (b : Blocked). b.id)) (sym nothing.1) ∙ ids_named (filter (wrote key) known) (λ c among. in_filter (wrote key) c known among)

  pub each_blocks : IsTrue (list_all (λ b. wrote_at b.key b.id known && id_lt b.read b.id && is_read (record { key = b.key; id = b.read }) reads) blocked)
  each_blocks =
      subst (λ (l : List Blocked). IsTrue (list_all (λ (b : Blocked). wrote_at b.key b.id known && id_lt b.read b.id && is_read (record { key = b.key; id = b.read }) reads) l)) nothing.1
      (all_from (λ (b : Blocked). wrote_at b.key b.id known && id_lt b.read b.id && is_read (record { key = b.key; id = b.read }) reads) (blockers key reads known) (λ b among.
      let by = in_flat_map (λ (c : Commit). first_below c.id reads c.keys) b (filter (wrote key) known) among in
      let of = in_filter (wrote key) by.0 known by.1 in
      let one = one_blocker by.0 of.0 of.1 in
      let is : b ≡ one.0 = elim (subst (In b) one.1 by.2) [ inl here ↦ here | inr nowhere ↦ absurd nowhere ] in
      subst (λ (d : Blocked). IsTrue (wrote_at d.key d.id known && id_lt d.read d.id && is_read (record { key = d.key; id = d.read }) reads)) (sym is)
      (and_from _ _ (and_from _ _
      (wrote_here one.0.key one.0.id by.0 known of.0 one.2.its_id (any_from (bytes_eq one.0.key) one.0.key by.0.keys one.2.key (bytes_eq-refl one.0.key)))
      (subst (λ (i : TxnId). IsTrue (id_lt one.0.read i)) (sym one.2.its_id) one.2.less))
      (read_pair (record { key = one.0.key; id = one.0.read }) reads one.2.read))))

-- ---- in a service

module _ (node capacity inc : ℕ) (history : List NodeEntry) (legal : LegalNode node capacity history) (real : IsTrue (are_real history)) (serve : IsTrue (serves inc (node_state history)))
    (a : Attempt) (there : There (attempt_state a (part history))) (key : List ℕ) (blocked : List Blocked) (none : choice key (reads a (part history)) (known history) ≡ NoneFits blocked) where
  one_known : OneEach (known history)
  one_known = (let at = serving inc (node_state history) serve in subst OneEach (sym (known-at history at.0 at.1)) (one_each_in at.0))

  pub blocked_versions : map (λ (b : Blocked). b.id) blocked ≡ versions key (known history)
  blocked_versions = names_versions key (reads a (part history)) (known history) blocked (atomic node capacity inc history legal real serve a there) one_known none

  pub blocked_rightly : IsTrue (list_all (λ b. wrote_at b.key b.id (known history) && id_lt b.read b.id && is_read (record { key = b.key; id = b.read }) (reads a (part history))) blocked)
  blocked_rightly = each_blocks key (reads a (part history)) (known history) blocked (atomic node capacity inc history legal real serve a there) one_known none
