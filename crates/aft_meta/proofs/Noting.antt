-- The ids of what is superseded, as they are noted and taken back.
use Rattle.std.proofs.Common.{◌≡◌, ℕ, Bool, true, false, ◌&&◌, ◌||◌, not, List, [], ◌∷◌, refl, sym, ap, ◌∙◌}
use Rattle.std.specs.Prelude.{IsTrue, IsFalse, None, Option, Some, filter, if◌then◌else◌}
use Rattle.std.specs.List.{list_all, list_any}
use Rattle.std.specs.Option.{option_map}
use Rattle.std.proofs.lemmas.Bool.{and_from, and_parts}
use Rattle.aft_id.specs.TxnId.{id_lt, same_id}
use Rattle.aft_id.specs.declared.txn_id.TxnId.{TxnId}
use Rattle.aft_records.specs.Commits.{greatest, has_id, ids_ascend, ids_of, is_ascending, is_listed, latest, with_id_order}
use Rattle.aft_records.specs.Superseded.{is_superseded, wrote}
use Rattle.aft_records.specs.declared.stored.Commit.{Commit}
use Rattle.aft_meta.specs.Index.{IsIndex, IsNoted, commits_of, exceeds, ids_under, is_newest_of, is_some_id, known_at}
use Rattle.aft_meta.specs.KnownCommits.{supersedes_id}
use Rattle.aft_meta.specs.declared.known.KnownCommit.{KnownCommit}
use Rattle.aft_meta.proofs.Asked.{latest_under, same_list}
use Rattle.aft_meta.proofs.Entries.{keys_at-known}
use Rattle.aft_meta.proofs.KeysOf.{all_same, or_no, tested}
use Rattle.aft_meta.proofs.Order.{listed_filter, same_ids}
use Rattle.aft_meta.proofs.Superseding.{over, superseded_with}

-- the newest under a key is the newest version of it
pub newest_is : (entries : List (TxnId × KnownCommit)) (writers : List (List ℕ × List TxnId)) → IsIndex entries writers → (v : TxnId) (keys : List (List ℕ))
    → is_newest_of keys v writers ≡ list_any (λ key. is_some_id v (latest key (commits_of entries))) keys
newest_is entries writers index v [] = refl
newest_is entries writers index v (k ∷ keys) =
    ap (λ o. is_some_id v o || is_newest_of keys v writers) (latest_under entries writers index k)
    ∙ ap (λ b. is_some_id v (latest k (commits_of entries)) || b) (newest_is entries writers index v keys)

-- what was noted in part is as before once it is taken back
pub as_before : (old mid new : Bool) → (mid || new) ≡ (old || new) → (IsTrue new → IsFalse old) → mid && not new ≡ old
as_before old mid true same apart = none mid ∙ sym (apart refl)
  where
    none : (b : Bool) → b && false ≡ false
    none true = refl
    none false = refl
as_before old mid false same apart = yes mid ∙ sym (no mid) ∙ same ∙ no old
  where
    yes : (b : Bool) → b && true ≡ b
    yes true = refl
    yes false = refl

    no : (b : Bool) → b || false ≡ b
    no true = refl
    no false = refl

-- what was noted of some keys may be of all
pub noted_part : (old mid part over all : Bool) → mid ≡ (old || (part && over)) → (IsTrue part → IsTrue all) → (mid || all) ≡ (old || all)
noted_part old mid part over all is within = ap (λ b. b || all) is ∙ cases old part within
  where
    swallowed : (o : Bool) → o || true ≡ true
    swallowed true = refl
    swallowed false = refl

    cases : (o p : Bool) → (IsTrue p → IsTrue all) → (o || (p && over)) || all ≡ o || all
    cases true p within = refl
    cases false false within = refl
    cases false true within = ap (λ b. over || b) (within refl) ∙ swallowed over ∙ sym (within refl)

-- an id that is noted as the newest under a key, if a test says so
module _ (v : TxnId) (newest : Option TxnId) (over : TxnId → Bool) where
  pub noted_one : (id : TxnId) → Some id ≡ newest → over id ≡ true → same_id v id ≡ is_some_id v newest && over v
  noted_one id is passed = cases (same_id v id) refl ∙ ap (λ o. is_some_id v o && over v) is
    where
      cases : (t : Bool) → same_id v id ≡ t → t ≡ same_id v id && over v
      cases true same = sym (ap (λ b. b && over v) same ∙ ap over (same_ids v id same) ∙ passed)
      cases false other = sym (ap (λ b. b && over v) other)

  pub noted_not : (id : TxnId) → Some id ≡ newest → over id ≡ false → (b : Bool) → b ≡ b || (is_some_id v newest && over v)
  noted_not id is failed b = sym (ap (λ o. b || (is_some_id v o && over v)) (sym is) ∙ cases (same_id v id) refl)
    where
      nothing : b || false ≡ b
      nothing = or_no b

      cases : (t : Bool) → same_id v id ≡ t → b || (t && over v) ≡ b
      cases true same = ap (λ (i : TxnId). b || over i) (same_ids v id same) ∙ ap (λ x. b || x) failed ∙ nothing
      cases false other = nothing

  pub noted_none : None ≡ newest → (b : Bool) → b ≡ b || (is_some_id v newest && over v)
  noted_none is b = sym (ap (λ o. b || (is_some_id v o && over v)) (sym is) ∙ or_no b)

-- ---- the list of what is noted

above-filtered : (test : TxnId → Bool) (x : TxnId) (ys : List TxnId) → IsTrue (list_all (id_lt x) ys) → IsTrue (list_all (id_lt x) (filter test ys))
above-filtered test x [] all = refl
above-filtered test x (y ∷ ys) all = let parts = and_parts (id_lt x y) (list_all (id_lt x) ys) all in cases (test y) parts.0 (above-filtered test x ys parts.1)
  where
    cases : (t : Bool) → IsTrue (id_lt x y) → IsTrue (list_all (id_lt x) (filter test ys)) → IsTrue (list_all (id_lt x) (if t then y ∷ filter test ys else filter test ys))
    cases true first rest = and_from _ _ first rest
    cases false first rest = rest

filtered_up : (test : TxnId → Bool) (ids : List TxnId) → IsTrue (is_ascending ids) → IsTrue (is_ascending (filter test ids))
filtered_up test [] up = refl
filtered_up test (x ∷ ids) up = let parts = and_parts (list_all (id_lt x) ids) (is_ascending ids) up in cases (test x) (above-filtered test x ids parts.0) (filtered_up test ids parts.1)
  where
    cases : (t : Bool) → IsTrue (list_all (id_lt x) (filter test ids)) → IsTrue (is_ascending (filter test ids)) → IsTrue (is_ascending (if t then x ∷ filter test ids else filter test ids))
    cases true first rest = and_from _ _ first rest
    cases false first rest = rest

-- ids that are those of what is superseded, and ascend, are the known ids that are
pub noted_list : (ids : List TxnId) (known : List Commit) → IsTrue (is_ascending ids) → IsTrue (ids_ascend known) → IsNoted ids known → ids ≡ filter (λ id. supersedes_id id known) (ids_of known)
noted_list ids known up known_up noted =
    same_list ids (filter (λ id. supersedes_id id known) (ids_of known)) up (filtered_up (λ id. supersedes_id id known) (ids_of known) known_up)
    (λ v. noted v ∙ among v ∙ sym (listed_filter (λ id. supersedes_id id known) v (ids_of known)))
  where
    within : (v : TxnId) (test : Commit → Bool) (cs : List Commit) → list_any (λ (c : Commit). same_id v c.id && test c) cs ≡ is_listed v (ids_of cs) && list_any (λ (c : Commit). same_id v c.id && test c) cs
    within v test [] = refl
    within v test (c ∷ cs) = cases (same_id v c.id) (test c) (is_listed v (ids_of cs)) (list_any (λ (d : Commit). same_id v d.id && test d) cs) (within v test cs)
      where
        cases : (s t l a : Bool) → a ≡ l && a → (s && t) || a ≡ (s || l) && ((s && t) || a)
        cases true t l a rest = refl
        cases false t l a rest = rest

    among : (v : TxnId) → supersedes_id v known ≡ is_listed v (ids_of known) && supersedes_id v known
    among v = within v (λ c. is_superseded c known) known

-- ---- what one more commit would supersede

module _ (entries : List (TxnId × KnownCommit)) (writers : List (List ℕ × List TxnId)) (index : IsIndex entries writers) (c : Commit)
    (new : has_id c.id (commits_of entries) ≡ false) (stands : is_superseded c (commits_of entries) ≡ false) where
  -- of a known commit it is told by its keys
  pub would_known : (id : TxnId) (k : KnownCommit) → known_at id entries ≡ Some k
      → list_all (λ key. exceeds id (greatest (ids_under key writers)) || (wrote key c && id_lt id c.id)) k.keys ≡ supersedes_id id (with_id_order (commits_of entries) c)
  would_known id k is =
      all_same (λ key. exceeds id (greatest (ids_under key writers)) || (wrote key c && id_lt id c.id)) (over (commits_of entries) c index.in_order new stands id) (λ key. ap (λ o. exceeds id o || (wrote key c && id_lt id c.id)) (latest_under entries writers index key)) k.keys
      ∙ sym (superseded_with (commits_of entries) c index.in_order new stands id ∙ ap (tested id (λ d. list_all (over (commits_of entries) c index.in_order new stands d.id) d.keys)) (keys_at-known id entries ∙ ap (option_map (λ (n : KnownCommit). n.keys)) is))

  -- and of no other
  pub would_unknown : (id : TxnId) → known_at id entries ≡ None → false ≡ supersedes_id id (with_id_order (commits_of entries) c)
  would_unknown id is =
      sym (superseded_with (commits_of entries) c index.in_order new stands id ∙ ap (tested id (λ d. list_all (over (commits_of entries) c index.in_order new stands d.id) d.keys)) (keys_at-known id entries ∙ ap (option_map (λ (n : KnownCommit). n.keys)) is))
