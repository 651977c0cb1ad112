-- Where no version fits: what blocks each, and that each is blocked where the reads are atomic.
use Rattle.std.proofs.Common.{◌≡◌, ℕ, Bool, true, false, ◌&&◌, ◌||◌, not, List, [], ◌∷◌, ◌++◌, refl, sym, ap, subst, ◌∙◌, inl, inr}
use Rattle.std.specs.Prelude.{IsTrue, IsFalse, Option, Some, None, filter, map, if◌then◌else◌}
use Rattle.std.specs.List.{flat_map, list_all}
use Rattle.std.specs.Str.{bytes_eq}
use Rattle.std.proofs.lemmas.Bool.{and_from, and_parts, or_left, true≢false, false_from_ne_true, cases_Bool}
use Rattle.std.proofs.lemmas.List.{map-append}
use Rattle.aft_id.specs.TxnId.{id_lt, same_id, zero_id}
use Rattle.aft_id.specs.declared.txn_id.TxnId.{TxnId}
use Rattle.aft_records.specs.Commits.{greatest, ids_ascend, ids_of, versions}
use Rattle.aft_records.specs.Superseded.{wrote}
use Rattle.aft_records.specs.declared.stored.Commit.{Commit}
use Rattle.aft_model.proofs.Choices.{never_blocked}
use Rattle.aft_model.proofs.Greatest.{greatest_of_some}
use Rattle.aft_model.proofs.Histories.{In, any_from, in_flat_map}
use Rattle.aft_model.proofs.Ids.{same_id-refl}
use Rattle.aft_model.proofs.Lists.{all_from, filter_in, in_filter, map_in}
use Rattle.aft_model.proofs.Sights.{bytes_eq-refl}
use Rattle.aft_model.specs.AtomicReads.{Atomic}
use Rattle.aft_model.specs.Attempts.{is_read}
use Rattle.aft_model.specs.Choice.{below_of, blockers, choice, chosen, first_below, fits, fitting, id_le, is_late_enough, is_not_blocked, is_read_below, none_chosen, wrote_at}
use Rattle.aft_model.specs.declared.choice.Blocked.{Blocked}
use Rattle.aft_model.specs.declared.choice.Choice.TheVariants.{Absent, NoneFits}
use Rattle.aft_model.specs.declared.read_set.ReadPair.{ReadPair}
use Rattle.aft_select.proofs.Keys.{is_not_blocked-keys, keys_at_known, none_below_in}
use Rattle.aft_select.proofs.Late.{version_wrote}

-- ---- what is named

blocked_is : (t : Bool) (o : Option TxnId) (ids : List TxnId) (those blocked : List Blocked) → (if t then Absent else chosen o (none_chosen ids those)) ≡ NoneFits blocked → (o ≡ None) × (those ≡ blocked)
blocked_is true o ids those blocked is = absurd cc
blocked_is false None [] those blocked is = absurd cc
blocked_is false None (x ∷ ids) those blocked is = (refl, cc)
blocked_is false (Some g) ids those blocked is = absurd cc

-- where no version fits, these block the versions
named : (key : List ℕ) (reads : List ReadPair) (known : List Commit) (blocked : List Blocked) → choice key reads known ≡ NoneFits blocked → (greatest (fitting key reads known) ≡ None) × (blockers key reads known ≡ blocked)
named key reads known blocked is =
    blocked_is (is_read (record { key = key; id = zero_id }) reads) (greatest (fitting key reads known)) (versions key known) (blockers key reads known) blocked is

-- ---- conflicts

module _ (reads : List ReadPair) (known : List Commit) where
  -- whether a blocker names a key that the commit of its version wrote, and a lower id at which it was read
  abbrev is_conflict : Blocked → Bool
  is_conflict b = wrote_at b.key b.id known && id_lt b.read b.id && is_read (record { key = b.key; id = b.read }) reads

  module _ (c : Commit) (there : In c known) where
    wrote_here : (key : List ℕ) → In key c.keys → IsTrue (wrote_at key c.id known)
    wrote_here key among = any_from (λ (d : Commit). same_id c.id d.id && wrote key d) c known there (and_from _ _ (same_id-refl c.id) (any_from (bytes_eq key) key c.keys among (bytes_eq-refl key)))

    of_pairs : (key : List ℕ) → In key c.keys → (pairs : List ReadPair) → ((p : ReadPair) → In p pairs → In p reads) → (otherwise : List Blocked) → ((b : Blocked) → In b otherwise → IsTrue (is_conflict b))
        → (b : Blocked) → In b (below_of c.id key pairs otherwise) → IsTrue (is_conflict b)
    of_pairs key own [] part otherwise rest b among = rest b among
    of_pairs key own (p ∷ pairs) part otherwise rest b among =
        cases (bytes_eq key p.key && id_lt p.id c.id) refl (of_pairs key own pairs (λ q later. part q (inr later)) otherwise rest b) among
      where
        read : IsTrue (bytes_eq key p.key) → IsTrue (is_read (record { key = key; id = p.id }) reads)
        read same = any_from (λ (q : ReadPair). bytes_eq key q.key && same_id p.id q.id) p reads (part p (inl refl)) (and_from _ _ same (same_id-refl p.id))

        cases : (t : Bool) → bytes_eq key p.key && id_lt p.id c.id ≡ t → (In b (below_of c.id key pairs otherwise) → IsTrue (is_conflict b))
            → In b (if t then record { id = c.id; key = key; read = p.id } ∷ [] else below_of c.id key pairs otherwise) → IsTrue (is_conflict b)
        cases true here later (inl is) =
            let both = and_parts (bytes_eq key p.key) (id_lt p.id c.id) here in
            subst (λ (z : Blocked). IsTrue (is_conflict z)) (sym is) (and_from _ _ (and_from _ _ (wrote_here key own) both.1) (read both.0))
        cases true here later (inr nowhere) = absurd nowhere
        cases false other later among = later among

    of_keys : (keys : List (List ℕ)) → ((key : List ℕ) → In key keys → In key c.keys) → (b : Blocked) → In b (first_below c.id reads keys) → IsTrue (is_conflict b)
    of_keys [] part b among = absurd among
    of_keys (key ∷ keys) part b among =
        of_pairs key (part key (inl refl)) reads (λ p there. there) (first_below c.id reads keys) (of_keys keys (λ k later. part k (inr later))) b among

  pub conflicts : (key : List ℕ) (blocked : List Blocked) → choice key reads known ≡ NoneFits blocked → IsTrue (list_all is_conflict blocked)
  conflicts key blocked is =
      subst (λ (those : List Blocked). IsTrue (list_all is_conflict those)) (named key reads known blocked is).1
      (all_from is_conflict (blockers key reads known) (λ b among.
      let found = in_flat_map (λ (c : Commit). first_below c.id reads c.keys) b (filter (wrote key) known) among in
      of_keys found.0 (in_filter (wrote key) found.0 known found.1).0 found.0.keys (λ k own. own) b found.2))

-- ---- one for each

-- what blocks a version with a key that was read below it is one, and names it
one_named : (id : TxnId) (reads : List ReadPair) (keys : List (List ℕ)) → IsFalse (list_all (λ key. not (is_read_below key id reads)) keys) → map (λ (b : Blocked). b.id) (first_below id reads keys) ≡ id ∷ []
one_named id reads [] blocked = absurd (true≢false blocked)
one_named id reads (key ∷ keys) blocked = first reads (one_named id reads keys) blocked
  where
    first : (pairs : List ReadPair) → (IsFalse (list_all (λ k. not (is_read_below k id reads)) keys) → map (λ (b : Blocked). b.id) (first_below id reads keys) ≡ id ∷ [])
        → IsFalse (not (is_read_below key id pairs) && list_all (λ k. not (is_read_below k id reads)) keys) → map (λ (b : Blocked). b.id) (below_of id key pairs (first_below id reads keys)) ≡ id ∷ []
    first [] rest stopped = rest stopped
    first (p ∷ pairs) rest stopped = cases (bytes_eq key p.key && id_lt p.id id) (first pairs rest) stopped
      where
        cases : (t : Bool) → (IsFalse (not (is_read_below key id pairs) && list_all (λ k. not (is_read_below k id reads)) keys) → map (λ (b : Blocked). b.id) (below_of id key pairs (first_below id reads keys)) ≡ id ∷ [])
            → IsFalse (not (t || is_read_below key id pairs) && list_all (λ k. not (is_read_below k id reads)) keys)
            → map (λ (b : Blocked). b.id) (if t then record { id = id; key = key; read = p.id } ∷ [] else below_of id key pairs (first_below id reads keys)) ≡ id ∷ []
        cases true later stopped = refl
        cases false later stopped = later stopped

each_named : (reads : List ReadPair) (commits : List Commit) → ((c : Commit) → In c commits → IsFalse (list_all (λ key. not (is_read_below key c.id reads)) c.keys))
    → map (λ (b : Blocked). b.id) (flat_map (λ (c : Commit). first_below c.id reads c.keys) commits) ≡ ids_of commits
each_named reads [] blocked = refl
each_named reads (c ∷ commits) blocked =
    map-append (λ (b : Blocked). b.id) (first_below c.id reads c.keys) (flat_map (λ (d : Commit). first_below d.id reads d.keys) commits)
    ∙ ap (λ front. front ++ map (λ (b : Blocked). b.id) (flat_map (λ (d : Commit). first_below d.id reads d.keys) commits)) (one_named c.id reads c.keys (blocked c (inl refl)))
    ∙ ap (λ rest. c.id ∷ rest) (each_named reads commits (λ d among. blocked d (inr among)))

pub each_has_one : (key : List ℕ) (reads : List ReadPair) (known : List Commit) (blocked : List Blocked) → IsTrue (ids_ascend known) → Atomic reads known → choice key reads known ≡ NoneFits blocked
    → map (λ (b : Blocked). b.id) blocked ≡ versions key known
each_has_one key reads known blocked up atomic is =
    sym (ap (map (λ (b : Blocked). b.id)) (named key reads known blocked is).1) ∙ each_named reads (filter (wrote key) known) stopped
  where
    -- no read commit wrote the key, so each version is late enough
    late : (id : TxnId) → IsTrue (is_late_enough key id reads known)
    late id = all_from (λ (p : ReadPair). not (wrote_at key p.id known) || id_le p.id id) reads (λ p there.
        elim (cases_Bool (wrote_at key p.id known)) [
          | inl written ↦ absurd (never_blocked key p reads known blocked atomic (any_from (λ (q : ReadPair). bytes_eq p.key q.key && same_id p.id q.id) p reads there (and_from _ _ (bytes_eq-refl p.key) (same_id-refl p.id))) written is)
          | inr never ↦ or_left _ _ (ap not never)
        ])

    stopped : (c : Commit) → In c (filter (wrote key) known) → IsFalse (list_all (λ k. not (is_read_below k c.id reads)) c.keys)
    stopped c among = false_from_ne_true _ (λ free.
        let there = in_filter (wrote key) c known among in
        let version : In c.id (versions key known) = map_in (λ (d : Commit). d.id) c (filter (wrote key) known) among in
        let unblocked : IsTrue (is_not_blocked c.id reads known) = is_not_blocked-keys c.id reads known up ∙ ap (none_below_in c.id reads) (keys_at_known c known up there.0) ∙ free in
        let fit : IsTrue (fits key c.id reads known) = and_from _ _ (and_from _ _ (version_wrote key c.id known version) (late c.id)) unblocked in
        let top = greatest_of_some (fitting key reads known) c.id (filter_in (λ i. fits key i reads known) c.id (versions key known) version fit) in
        none_is top.0 (sym top.1 ∙ (named key reads known blocked is).0))
      where
        none_is : (g : TxnId) → Some g ≡ None → ⊥
        none_is g is = cc
