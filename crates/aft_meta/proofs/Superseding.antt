-- What is superseded where a commit more is known, or a superseded one less.
use Rattle.std.proofs.Common.{◌≡◌, ℕ, Bool, true, false, ◌&&◌, ◌||◌, not, List, [], ◌∷◌, refl, sym, ap, subst, ◌∙◌, ◌⊎◌, inl, inr}
use Rattle.std.specs.Prelude.{IsTrue, IsFalse, Option, Some, None, filter}
use Rattle.std.specs.List.{list_all, list_any}
use Rattle.std.specs.Str.{bytes_eq}
use Rattle.std.specs.Cmp.Lexicographic.{bytes_decides, same_text}
use Rattle.std.proofs.lemmas.Bool.{and_from, and_parts, or_cases, or_left, or_right, true≢false, false≢true, false_from_ne_true}
use Rattle.aft_id.specs.TxnId.{id_lt, same_id}
use Rattle.aft_id.specs.declared.txn_id.TxnId.{TxnId}
use Rattle.aft_records.proofs.CommitOrder.{id_lt-irrefl, same_id-refl}
use Rattle.aft_records.specs.Commits.{has_id, ids_ascend, is_listed, latest, versions, with_id_order}
use Rattle.aft_records.specs.Superseded.{is_superseded, wrote}
use Rattle.aft_records.specs.declared.stored.Commit.{Commit}
use Rattle.aft_meta.specs.Index.{exceeds, is_some_id, is_version}
use Rattle.aft_meta.specs.KnownCommits.{keys_at, supersedes_id}
use Rattle.aft_meta.proofs.KeysOf.{all_same, any_at, any_gone, any_placed, any_stays, listed_version, or_no, over-latest, some_greatest, standing, superseded-latest, tested, version_less}
use Rattle.aft_meta.proofs.Order.{greatest_is, greatest_listed, listed_within, none_listed, same_ids}

-- what holds of all keys holds of one of them
pub all_among : (f : List ℕ → Bool) (key : List ℕ) (keys : List (List ℕ)) → IsTrue (list_all f keys) → IsTrue (list_any (bytes_eq key) keys) → IsTrue (f key)
all_among f key [] all among = absurd (false≢true among)
all_among f key (x ∷ keys) all among =
    let parts = and_parts (f x) (list_all f keys) all in
    elim (or_cases (bytes_eq key x) (list_any (bytes_eq key) keys) among) [
      | inl here ↦ subst (λ (k : List ℕ). IsTrue (f k)) (sym (same_text key x (sym here))) parts.0
      | inr later ↦ all_among f key keys parts.1 later
    ]

-- what holds of one of some keys holds of any
pub any_among : (f : List ℕ → Bool) (key : List ℕ) (keys : List (List ℕ)) → IsTrue (list_any (bytes_eq key) keys) → IsTrue (f key) → IsTrue (list_any f keys)
any_among f key [] among holds = absurd (false≢true among)
any_among f key (x ∷ keys) among holds = elim (or_cases (bytes_eq key x) (list_any (bytes_eq key) keys) among) [
  | inl here ↦ or_left _ _ (subst (λ (k : List ℕ). IsTrue (f k)) (same_text key x (sym here)) holds)
  | inr later ↦ or_right _ _ (any_among f key keys later holds)
]

any_same : (f g : Commit → Bool) → ((c : Commit) → f c ≡ g c) → (cs : List Commit) → list_any f cs ≡ list_any g cs
any_same f g same [] = refl
any_same f g same (c ∷ cs) = ap (λ b. b || list_any f cs) (same c) ∙ ap (λ b. g c || b) (any_same f g same cs)

none_of : (b : Bool) → b && false ≡ false
none_of true = refl
none_of false = refl

-- ---- what is superseded

module _ (known : List Commit) (id : TxnId) (up : IsTrue (ids_ascend known)) (superseded : IsTrue (supersedes_id id known)) where
  abbrev fewer : List Commit
  fewer = filter (λ (c : Commit). not (same_id c.id id)) known

  -- what is superseded is the newest of no key
  pub never_newest : (k : List ℕ) → IsFalse (is_some_id id (latest k known))
  never_newest k = false_from_ne_true (is_some_id id (latest k known)) (λ top. clash (latest k known) refl top)
    where
      over : (o : Option (List (List ℕ))) → IsTrue (tested id (wrote k) o) → IsTrue (tested id (λ c. is_superseded c known) o) → IsTrue (exceeds id (latest k known))
      over None writes all = absurd (false≢true writes)
      over (Some keys) writes all = all_among (λ key. exceeds id (latest key known)) k keys (sym (superseded-latest (record { id = id; keys = keys }) known) ∙ all) writes

      clash : (o : Option TxnId) → latest k known ≡ o → IsTrue (is_some_id id o) → ⊥
      clash None is top = false≢true top
      clash (Some g) is top =
          let newest : latest k known ≡ Some id = is ∙ ap (λ (i : TxnId). Some i) (sym (same_ids id g top)) in
          let version : IsTrue (is_version k id known) = sym (listed_version k id known) ∙ greatest_listed (versions k known) id newest in
          true≢false (sym (over (keys_at id known) (sym (any_at id (wrote k) known up) ∙ version) (sym (any_at id (λ c. is_superseded c known) known up) ∙ superseded)) ∙ ap (exceeds id) newest ∙ id_lt-irrefl id)

  listed_fewer : (k : List ℕ) (v : TxnId) → is_listed v (versions k fewer) ≡ is_listed v (versions k known) && not (same_id v id)
  listed_fewer k v = listed_version k v fewer ∙ version_less k id v known ∙ ap (λ b. b && not (same_id v id)) (sym (listed_version k v known))

  -- without it each key has the newest version that it had
  pub latest_stays : (k : List ℕ) → latest k known ≡ latest k fewer
  latest_stays k = cases (latest k known) refl
    where
      cases : (o : Option TxnId) → latest k known ≡ o → o ≡ latest k fewer
      cases None is = sym (none_listed (versions k fewer) (λ v. listed_fewer k v ∙ ap (λ b. b && not (same_id v id)) (never v)))
        where
          never : (v : TxnId) → IsFalse (is_listed v (versions k known))
          never v = false_from_ne_true (is_listed v (versions k known)) (λ among. some_greatest (versions k known) v among is)
      cases (Some g) is =
          let apart : IsFalse (same_id g id) = false_from_ne_true (same_id g id) (λ same. true≢false (sym (ap (is_some_id id) is ∙ subst (λ (i : TxnId). IsTrue (same_id i g)) (same_ids g id same) (same_id-refl g)) ∙ never_newest k)) in
          sym (greatest_is (versions k fewer) g (listed_fewer k g ∙ and_from _ _ (greatest_listed (versions k known) g is) (ap not apart))
          (λ v among. listed_within (versions k known) v g (and_parts (is_listed v (versions k known)) (not (same_id v id)) (sym (listed_fewer k v) ∙ among)).0 is))

  over_fewer : (c : Commit) → is_superseded c fewer ≡ is_superseded c known
  over_fewer c = superseded-latest c fewer ∙ all_same (λ key. exceeds c.id (latest key fewer)) (λ key. exceeds c.id (latest key known)) (λ key. ap (exceeds c.id) (sym (latest_stays key))) c.keys ∙ sym (superseded-latest c known)

  -- and what else is superseded is so still
  pub superseded_less : (v : TxnId) → supersedes_id v fewer ≡ supersedes_id v known && not (same_id v id)
  superseded_less v = cases (same_id v id) refl
    where
      cases : (t : Bool) → same_id v id ≡ t → supersedes_id v fewer ≡ supersedes_id v known && not t
      cases true same = subst (λ (i : TxnId). supersedes_id i fewer ≡ false) (sym (same_ids v id same)) (any_gone id (λ c. is_superseded c fewer) known) ∙ sym (none_of (supersedes_id v known))
      cases false other =
          any_stays id v (λ c. is_superseded c fewer) known other
          ∙ any_same (λ c. same_id v c.id && is_superseded c fewer) (λ c. same_id v c.id && is_superseded c known) (λ c. ap (λ b. same_id v c.id && b) (over_fewer c)) known
          ∙ sym (yes (supersedes_id v known))
        where
          yes : (b : Bool) → b && true ≡ b
          yes true = refl
          yes false = refl

-- ---- one commit more

module _ (known : List Commit) (c : Commit) (up : IsTrue (ids_ascend known)) (unknown : has_id c.id known ≡ false) (stands : is_superseded c known ≡ false) where
  abbrev more : List Commit
  more = with_id_order known c

  -- whether a key is written above an id with it
  abbrev pub over : TxnId → List ℕ → Bool
  over id key = exceeds id (latest key known) || (wrote key c && id_lt id c.id)

  over_more : (d : Commit) → is_superseded d more ≡ list_all (over d.id) d.keys
  over_more d = all_same (λ key. list_any (λ (e : Commit). wrote key e && id_lt d.id e.id) more) (over d.id) (λ key. any_placed (λ (e : Commit). wrote key e && id_lt d.id e.id) known c ∙ ap (λ b. b || (wrote key c && id_lt d.id c.id)) (over-latest key d.id known)) d.keys

  -- it doesn't supersede itself
  own_stands : is_superseded c more ≡ false
  own_stands = over_more c ∙ all_same (over c.id) (λ key. exceeds c.id (latest key known)) (λ key. ap (λ b. exceeds c.id (latest key known) || (wrote key c && b)) (id_lt-irrefl c.id) ∙ ap (λ b. exceeds c.id (latest key known) || b) (none_of (wrote key c)) ∙ or_no (exceeds c.id (latest key known))) c.keys
      ∙ sym (superseded-latest c known) ∙ stands

  -- what it supersedes with the others is told by the keys of a known commit
  pub superseded_with : (v : TxnId) → supersedes_id v more ≡ tested v (λ d. list_all (over d.id) d.keys) (keys_at v known)
  superseded_with v =
      any_placed (λ (d : Commit). same_id v d.id && is_superseded d more) known c
      ∙ ap (λ b. list_any (λ (d : Commit). same_id v d.id && is_superseded d more) known || (same_id v c.id && b)) own_stands
      ∙ ap (λ b. list_any (λ (d : Commit). same_id v d.id && is_superseded d more) known || b) (none_of (same_id v c.id))
      ∙ or_no (list_any (λ (d : Commit). same_id v d.id && is_superseded d more) known)
      ∙ any_at v (λ d. is_superseded d more) known up
      ∙ told (keys_at v known)
    where
      told : (o : Option (List (List ℕ))) → tested v (λ d. is_superseded d more) o ≡ tested v (λ d. list_all (over d.id) d.keys) o
      told None = refl
      told (Some keys) = over_more (record { id = v; keys = keys })

  abbrev pub newest_of : TxnId → Bool
  newest_of v = list_any (λ key. is_some_id v (latest key known)) c.keys

  -- of some keys of a known commit each is written above it, or it is the newest of one that the new commit writes
  split : (v : TxnId) (keys : List (List ℕ)) → ((k : List ℕ) → IsTrue (list_any (bytes_eq k) keys) → IsTrue (is_version k v known)) → IsTrue (list_all (over v) keys)
      → IsTrue (list_all (λ key. exceeds v (latest key known)) keys) ⊎ IsTrue (newest_of v)
  split v [] versions all = inl refl
  split v (k ∷ keys) version all = first (exceeds v (latest k known)) refl (split v keys (λ q among. version q (or_right _ _ among)) parts.1)
    where
      parts : IsTrue (over v k) × IsTrue (list_all (over v) keys)
      parts = and_parts (over v k) (list_all (over v) keys) all

      first : (t : Bool) → exceeds v (latest k known) ≡ t → IsTrue (list_all (λ key. exceeds v (latest key known)) keys) ⊎ IsTrue (newest_of v)
          → IsTrue (list_all (λ key. exceeds v (latest key known)) (k ∷ keys)) ⊎ IsTrue (newest_of v)
      first true above (inl rest) = inl (and_from _ _ above rest)
      first true above (inr newest) = inr newest
      first false below rest =
          let writes = and_parts (wrote k c) (id_lt v c.id) (sym (ap (λ b. b || (wrote k c && id_lt v c.id)) below) ∙ parts.0) in
          let newest : IsTrue (is_some_id v (latest k known)) = is_not (is_some_id v (latest k known)) (standing k v known (version k (or_left _ _ ((bytes_decides k k).1 refl))) ∙ below) in
          inr (any_among (λ key. is_some_id v (latest key known)) k c.keys writes.0 newest)
        where
          is_not : (b : Bool) → not b ≡ false → IsTrue b
          is_not true e = refl
          is_not false e = absurd (true≢false e)

  -- what was superseded is so still
  kept : (v : TxnId) (keys : List (List ℕ)) → IsTrue (list_all (λ key. exceeds v (latest key known)) keys) → IsTrue (list_all (over v) keys)
  kept v [] all = refl
  kept v (k ∷ keys) all =
      let parts = and_parts (exceeds v (latest k known)) (list_all (λ key. exceeds v (latest key known)) keys) all in
      and_from _ _ (or_left _ _ parts.0) (kept v keys parts.1)

  -- with it what was superseded is so still, and of the others those that were the newest of one of its keys
  pub superseded_more : (v : TxnId) → supersedes_id v known || (newest_of v && supersedes_id v more) ≡ supersedes_id v more
  superseded_more v =
      ap (λ b. b || (newest_of v && supersedes_id v more)) (any_at v (λ d. is_superseded d known) known up)
      ∙ ap (λ b. tested v (λ d. is_superseded d known) (keys_at v known) || (newest_of v && b)) (superseded_with v)
      ∙ cases (keys_at v known) refl ∙ sym (superseded_with v)
    where
      cases : (o : Option (List (List ℕ))) → keys_at v known ≡ o
          → tested v (λ d. is_superseded d known) o || (newest_of v && tested v (λ d. list_all (over d.id) d.keys) o) ≡ tested v (λ d. list_all (over d.id) d.keys) o
      cases None is = none_of (newest_of v)
      cases (Some keys) is =
          ap (λ b. b || (newest_of v && list_all (over v) keys)) (superseded-latest (record { id = v; keys = keys }) known)
          ∙ decide (list_all (over v) keys) refl (list_all (λ key. exceeds v (latest key known)) keys) refl
        where
          version : (k : List ℕ) → IsTrue (list_any (bytes_eq k) keys) → IsTrue (is_version k v known)
          version k among = any_at v (wrote k) known up ∙ ap (tested v (wrote k)) is ∙ among

          decide : (b : Bool) → list_all (over v) keys ≡ b → (a : Bool) → list_all (λ key. exceeds v (latest key known)) keys ≡ a → a || (newest_of v && b) ≡ b
          decide true all true was = refl
          decide true all false was = elim (split v keys version all) [
            | inl always ↦ absurd (true≢false (sym always ∙ was))
            | inr newest ↦ ap (λ b. b && true) newest
          ]
          decide false some true was = absurd (true≢false (sym (kept v keys was) ∙ some))
          decide false some false was = none_of (newest_of v)

  -- the newest of a key isn't superseded
  pub newest_stands : (v : TxnId) → IsTrue (newest_of v) → IsFalse (supersedes_id v known)
  newest_stands v newest = false_from_ne_true (supersedes_id v known) (λ over. never c.keys (λ k. never_newest known v up over k) newest)
    where
      never : (keys : List (List ℕ)) → ((k : List ℕ) → IsFalse (is_some_id v (latest k known))) → IsTrue (list_any (λ key. is_some_id v (latest key known)) keys) → ⊥
      never [] none some = false≢true some
      never (k ∷ keys) none some = elim (or_cases (is_some_id v (latest k known)) (list_any (λ key. is_some_id v (latest key known)) keys) some) [
        | inl here ↦ true≢false (sym here ∙ none k)
        | inr later ↦ never keys none later
      ]

  -- what is taken back of it leaves what was superseded
  pub superseded_back : (v : TxnId) → supersedes_id v more && not (newest_of v) ≡ supersedes_id v known
  superseded_back v = cases (newest_of v) refl (superseded_more v)
    where
      cases : (n : Bool) → newest_of v ≡ n → supersedes_id v known || (n && supersedes_id v more) ≡ supersedes_id v more → supersedes_id v more && not n ≡ supersedes_id v known
      cases true newest more_is = none_of (supersedes_id v more) ∙ sym (newest_stands v newest)
      cases false old more_is = yes (supersedes_id v more) ∙ sym more_is ∙ or_no (supersedes_id v known)
        where
          yes : (b : Bool) → b && true ≡ b
          yes true = refl
          yes false = refl
