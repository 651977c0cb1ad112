-- A pair at the end of a read set, and its index.
use Rattle.std.proofs.Common.{◌≡◌, ℕ, Bool, true, false, cond, ◌||◌, List, [], ◌∷◌, ◌++◌, Option, None, Some, refl, sym, ap, subst, ◌∙◌}
use Rattle.std.specs.Prelude.{IsTrue, IsFalse}
use Rattle.std.specs.Ordering.{is_eq, nat_cmp}
use Rattle.std.specs.declared.cmp.Ordering.{Ordering}
use Rattle.std.specs.declared.cmp.Ordering.TheVariants.{Less, Equal, Greater}
use Rattle.std.specs.Cmp.Lexicographic.{nat_list_eq_equiv, slice_cmp, texts_ties}
use Rattle.std.specs.Str.{bytes_eq}
use Rattle.std.proofs.lemmas.Bool.{true≢false}
use Rattle.std.proofs.lemmas.Cmp.{tied_itself}
use Rattle.std.proofs.lemmas.List.Folds.{list_any-append}
use Rattle.aft_id.proofs.IdOrder.{id_cmp-total, tied_ids}
use Rattle.aft_id.specs.TxnId.{id_cmp, same_id}
use Rattle.aft_id.specs.declared.txn_id.TxnId.{TxnId}
use Rattle.aft_model.specs.declared.read_set.ReadPair.{ReadPair}
use Rattle.aft_model.specs.ReadSet.{HasEachKeyOnce, IsIndexed, has_read, id_of, is_seen, read_at}
use Rattle.aft_model.proofs.Ids.{same_id-refl, same_ids}
use Rattle.aft_model.proofs.Sights.{same_bytes}

-- ---- the pairs

none_of : (b : Bool) (id : TxnId) (rest : Option TxnId) → cond b (Some id) rest ≡ None → (b ≡ false) × (rest ≡ None)
none_of true id rest e = absurd cc
none_of false id rest e = (refl, e)

-- what the pairs have of a key once a new key stands behind them
read_at-push : (key : List ℕ) (pairs : List ReadPair) (last : ReadPair) → read_at last.key pairs ≡ None → read_at key (pairs ++ last ∷ []) ≡ cond (bytes_eq key last.key) (Some last.id) (read_at key pairs)
read_at-push key [] last new = refl
read_at-push key (pair ∷ pairs) last new =
    let split = none_of (bytes_eq last.key pair.key) pair.id (read_at last.key pairs) new in
    ap (cond (bytes_eq key pair.key) (Some pair.id)) (read_at-push key pairs last split.1) ∙ cases (bytes_eq key pair.key) (bytes_eq key last.key) refl refl split.0
  where
    cases : (here there : Bool) → bytes_eq key pair.key ≡ here → bytes_eq key last.key ≡ there → bytes_eq last.key pair.key ≡ false
        → cond here (Some pair.id) (cond there (Some last.id) (read_at key pairs)) ≡ cond there (Some last.id) (cond here (Some pair.id) (read_at key pairs))
    cases true true first second apart = absurd (true≢false (sym (subst (λ k. bytes_eq k pair.key ≡ true) (same_bytes key last.key second) first) ∙ apart))
    cases true false first second apart = refl
    cases false there first second apart = refl

-- a new key at the end leaves each key once
pub HasEachKeyOnce-push : (pairs : List ReadPair) (last : ReadPair) → HasEachKeyOnce pairs → read_at last.key pairs ≡ None → HasEachKeyOnce (pairs ++ last ∷ [])
HasEachKeyOnce-push [] last once e = (refl, tt)
HasEachKeyOnce-push (pair ∷ pairs) last once e =
    let split = none_of (bytes_eq last.key pair.key) pair.id (read_at last.key pairs) e in
    let other : bytes_eq pair.key last.key ≡ false = nat_list_eq_equiv.symm pair.key last.key ∙ split.0 in
    (read_at-push pair.key pairs last split.1 ∙ ap (λ b. cond b (Some last.id) (read_at pair.key pairs)) other ∙ once.0, HasEachKeyOnce-push pairs last once.1 split.1)

-- ---- the index

-- keys are the same where their order says so
tied_keys : (key k : List ℕ) → is_eq (slice_cmp nat_cmp key k) ≡ bytes_eq k key
tied_keys key k = sym (texts_ties key k) ∙ nat_list_eq_equiv.symm key k

-- ids are the same where their order says so
same_id-tied : (a b : TxnId) → is_eq (id_cmp a b) ≡ same_id b a
same_id-tied a b = cases (same_id b a) refl
  where
    tied : (o : Ordering) → id_cmp a b ≡ o → IsFalse (same_id b a) → is_eq o ≡ false
    tied Less is other = refl
    tied Equal is other = absurd (true≢false (sym (subst (λ (i : TxnId). IsTrue (same_id i a)) (tied_ids a b is) (same_id-refl a)) ∙ other))
    tied Greater is other = refl

    cases : (t : Bool) → same_id b a ≡ t → is_eq (id_cmp a b) ≡ t
    cases true same = subst (λ (i : TxnId). is_eq (id_cmp a i) ≡ true) (sym (same_ids b a same)) (ap is_eq (tied_itself id_cmp-total a))
    cases false other = tied (id_cmp a b) refl other

-- a key's id in an index that has one more
pub key_more : (key k : List ℕ) (id : TxnId) (ids after : List (List ℕ × TxnId)) → id_of k after ≡ cond (is_eq (slice_cmp nat_cmp key k)) (Some id) (id_of k ids) → id_of k after ≡ cond (bytes_eq k key) (Some id) (id_of k ids)
key_more key k id ids after is = is ∙ ap (λ b. cond b (Some id) (id_of k ids)) (tied_keys key k)

-- and in one in which it was put and taken out again
pub key_back : (key k : List ℕ) (id : TxnId) (ids between after : List (List ℕ × TxnId)) → id_of key ids ≡ None
    → id_of k between ≡ cond (is_eq (slice_cmp nat_cmp key k)) (Some id) (id_of k ids) → id_of k after ≡ cond (is_eq (slice_cmp nat_cmp key k)) None (id_of k between)
    → id_of k after ≡ id_of k ids
key_back key k id ids between after new put out =
    out ∙ ap (cond (is_eq (slice_cmp nat_cmp key k)) None) put ∙ ap (λ b. cond b None (cond b (Some id) (id_of k ids))) (tied_keys key k) ∙ cases (bytes_eq k key) refl
  where
    cases : (b : Bool) → bytes_eq k key ≡ b → cond b None (cond b (Some id) (id_of k ids)) ≡ id_of k ids
    cases true here = sym new ∙ ap (λ z. id_of z ids) (sym (same_bytes k key here))
    cases false other = refl

-- an id in an index that has one more
pub id_more : (id v : TxnId) (seen after : List TxnId) → is_seen v after ≡ cond (is_eq (id_cmp id v)) true (is_seen v seen) → is_seen v after ≡ is_seen v seen || same_id v id
id_more id v seen after is = is ∙ ap (λ b. cond b true (is_seen v seen)) (same_id-tied id v) ∙ turned (same_id v id) (is_seen v seen)
  where
    turned : (a b : Bool) → cond a true b ≡ b || a
    turned true true = refl
    turned true false = refl
    turned false true = refl
    turned false false = refl

-- an index of pairs with a new key behind them
pub IsIndexed-push : (pairs : List ReadPair) (last : ReadPair) (ids after : List (List ℕ × TxnId)) (seen noted : List TxnId) → IsIndexed pairs ids seen → read_at last.key pairs ≡ None
    → ((key : List ℕ) → id_of key after ≡ cond (bytes_eq key last.key) (Some last.id) (id_of key ids)) → ((id : TxnId) → is_seen id noted ≡ is_seen id seen || same_id id last.id)
    → IsIndexed (pairs ++ last ∷ []) after noted
IsIndexed-push pairs last ids after seen noted was new keys added = record {
  once = HasEachKeyOnce-push pairs last was.once new;
  at_keys = λ key. keys key ∙ ap (cond (bytes_eq key last.key) (Some last.id)) (was.at_keys key) ∙ sym (read_at-push key pairs last new);
  at_ids = λ id. added id ∙ ap (λ b. b || same_id id last.id) (was.at_ids id) ∙ ap (λ b. has_read id pairs || b) (or_none (same_id id last.id)) ∙ sym (list_any-append (λ (pair : ReadPair). same_id id pair.id) pairs (last ∷ []));
}
  where
    or_none : (b : Bool) → b ≡ b || false
    or_none true = refl
    or_none false = refl

-- an index that has what it had
pub IsIndexed-same : (pairs : List ReadPair) (ids after : List (List ℕ × TxnId)) (seen noted : List TxnId) → IsIndexed pairs ids seen
    → ((key : List ℕ) → id_of key after ≡ id_of key ids) → ((id : TxnId) → is_seen id noted ≡ is_seen id seen) → IsIndexed pairs after noted
IsIndexed-same pairs ids after seen noted was keys same = record { once = was.once; at_keys = λ key. keys key ∙ was.at_keys key; at_ids = λ id. same id ∙ was.at_ids id }
