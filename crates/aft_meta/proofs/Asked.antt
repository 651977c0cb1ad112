-- What the index answers is what the list of commits answers.
use Rattle.std.proofs.Common.{◌≡◌, ℕ, Bool, true, false, cond, eqb, ◌&&◌, ◌||◌, not, List, [], ◌∷◌, refl, sym, ap, subst, ◌∙◌, inl, inr}
use Rattle.std.specs.Prelude.{IsTrue, IsFalse, Option, Some, None, count_by, filter, if◌then◌else◌}
use Rattle.std.specs.List.{list_all, list_any}
use Rattle.std.specs.Option.{option_map}
use Rattle.std.specs.Ordering.{is_eq}
use Rattle.std.specs.Str.{bytes_eq}
use Rattle.std.specs.Cmp.Lexicographic.{bytes_decides}
use Rattle.std.proofs.lemmas.Bool.{and_parts, or_cases, or_left, or_right, true≢false, false≢true, false_from_ne_true}
use Rattle.std.proofs.lemmas.List.Folds.{sum_by-zero}
use Rattle.aft_id.specs.TxnId.{id_cmp, id_lt, same_id}
use Rattle.aft_id.specs.declared.txn_id.TxnId.{TxnId}
use Rattle.aft_records.proofs.CommitOrder.{filtered_ascends, id_lt-irrefl, id_lt-trans, same_id-refl}
use Rattle.aft_records.specs.Commits.{greatest, has_id, is_ascending, is_listed, latest, versions, with_commit}
use Rattle.aft_records.specs.Superseded.{is_superseded, wrote}
use Rattle.aft_records.specs.declared.stored.Commit.{Commit}
use Rattle.aft_meta.specs.Index.{IsCounted, IsIndex, commits_of, exceeds, ids_under, is_some_id, is_version, known_at, lowered_by, one_less, stands_under}
use Rattle.aft_meta.specs.KnownCommits.{latest_below, learnt, supersedes_id}
use Rattle.aft_meta.specs.declared.commit_set.Learnt.TheVariants.{Known, Superseded, Taken}
use Rattle.aft_meta.specs.declared.known.KnownCommit.{KnownCommit}
use Rattle.aft_meta.proofs.Entries.{keys_at-known}
use Rattle.aft_meta.proofs.KeysOf.{all_same, any_at, listed_version, newest_under, standing, superseded-latest, tested}
use Rattle.aft_meta.proofs.Order.{greatest_same, listed_filter, same_ids, same_id-tied}

-- ---- lists of the same ids in order

listed_above : (x v : TxnId) (ids : List TxnId) → IsTrue (list_all (id_lt x) ids) → IsTrue (is_listed v ids) → IsTrue (id_lt x v)
listed_above x v [] above among = absurd (false≢true among)
listed_above x v (y ∷ ids) above among =
    let parts = and_parts (id_lt x y) (list_all (id_lt x) ids) above in
    elim (or_cases (same_id v y) (is_listed v ids) among) [
      | inl here ↦ subst (λ (i : TxnId). IsTrue (id_lt x i)) (sym (same_ids v y here)) parts.0
      | inr later ↦ listed_above x v ids parts.1 later
    ]

unlisted : (x : TxnId) (ids : List TxnId) → IsTrue (list_all (id_lt x) ids) → IsFalse (is_listed x ids)
unlisted x ids above = false_from_ne_true (is_listed x ids) (λ among. true≢false (sym (listed_above x x ids above among) ∙ id_lt-irrefl x))

pub same_list : (xs ys : List TxnId) → IsTrue (is_ascending xs) → IsTrue (is_ascending ys) → ((v : TxnId) → is_listed v xs ≡ is_listed v ys) → xs ≡ ys
same_list [] [] xs_up ys_up same = refl
same_list [] (y ∷ ys) xs_up ys_up same = absurd (true≢false (sym (or_left _ (is_listed y ys) (same_id-refl y)) ∙ sym (same y)))
same_list (x ∷ xs) [] xs_up ys_up same = absurd (true≢false (sym (or_left _ (is_listed x xs) (same_id-refl x)) ∙ same x))
same_list (x ∷ xs) (y ∷ ys) xs_up ys_up same =
    let xs_parts = and_parts (list_all (id_lt x) xs) (is_ascending xs) xs_up in
    let ys_parts = and_parts (list_all (id_lt y) ys) (is_ascending ys) ys_up in
    ap (λ z. z ∷ xs) (first xs_parts.0 ys_parts.0) ∙ ap (λ zs. y ∷ zs) (same_list xs ys xs_parts.1 ys_parts.1 (rest xs_parts.0 ys_parts.0))
  where
    first : IsTrue (list_all (id_lt x) xs) → IsTrue (list_all (id_lt y) ys) → x ≡ y
    first x_low y_low = elim (or_cases (same_id x y) (is_listed x ys) (sym (same x) ∙ or_left _ (is_listed x xs) (same_id-refl x))) [
      | inl here ↦ same_ids x y here
      | inr later ↦ elim (or_cases (same_id y x) (is_listed y xs) (same y ∙ or_left _ (is_listed y ys) (same_id-refl y))) [
        | inl here ↦ sym (same_ids y x here)
        | inr other ↦ absurd (true≢false (sym (id_lt-trans x y x (listed_above x y xs x_low other) (listed_above y x ys y_low later)) ∙ id_lt-irrefl x))
      ]
    ]

    rest : IsTrue (list_all (id_lt x) xs) → IsTrue (list_all (id_lt y) ys) → (v : TxnId) → is_listed v xs ≡ is_listed v ys
    rest x_low y_low v = cases (same_id v x) refl
      where
        one : x ≡ y
        one = first x_low y_low

        cases : (t : Bool) → same_id v x ≡ t → is_listed v xs ≡ is_listed v ys
        cases true here = subst (λ (i : TxnId). IsFalse (is_listed i xs)) (sym (same_ids v x here)) (unlisted x xs x_low) ∙ sym (subst (λ (i : TxnId). IsFalse (is_listed i ys)) (sym (same_ids v x here ∙ one)) (unlisted y ys y_low))
        cases false other =
            ap (λ b. b || is_listed v xs) (sym other) ∙ same v ∙ ap (λ (i : TxnId). same_id v i || is_listed v ys) (sym one) ∙ ap (λ b. b || is_listed v ys) other

-- ---- the index

module _ (entries : List (TxnId × KnownCommit)) (writers : List (List ℕ × List TxnId)) (index : IsIndex entries writers) where
  abbrev commits : List Commit
  commits = commits_of entries

  pub latest_under : (key : List ℕ) → greatest (ids_under key writers) ≡ latest key commits
  latest_under key = newest_under commits writers index.written key

  pub below_under : (key : List ℕ) (id : TxnId) → greatest (filter (λ v. id_lt v id) (ids_under key writers)) ≡ latest_below key id commits
  below_under key id = greatest_same (filter (λ v. id_lt v id) (ids_under key writers)) (filter (λ v. id_lt v id) (versions key commits)) (λ v.
      listed_filter (λ v. id_lt v id) v (ids_under key writers) ∙ ap (λ b. b && id_lt v id) (index.written key v ∙ sym (listed_version key v commits)) ∙ sym (listed_filter (λ v. id_lt v id) v (versions key commits)))

  pub versions_under : (key : List ℕ) → IsTrue (is_ascending (ids_under key writers)) → ids_under key writers ≡ versions key commits
  versions_under key up = same_list (ids_under key writers) (versions key commits) up (filtered_ascends (wrote key) commits index.in_order) (λ v. index.written key v ∙ sym (listed_version key v commits))

  pub covered_under : (c : Commit) → list_all (λ key. exceeds c.id (greatest (ids_under key writers))) c.keys ≡ is_superseded c commits
  covered_under c = all_same (λ key. exceeds c.id (greatest (ids_under key writers))) (λ key. exceeds c.id (latest key commits)) (λ key. ap (exceeds c.id) (latest_under key)) c.keys ∙ sym (superseded-latest c commits)

  all_within : (f g : List ℕ → Bool) (keys : List (List ℕ)) → ((k : List ℕ) → IsTrue (list_any (bytes_eq k) keys) → f k ≡ g k) → list_all f keys ≡ list_all g keys
  all_within f g [] same = refl
  all_within f g (x ∷ keys) same =
      ap (λ b. b && list_all f keys) (same x (or_left _ _ ((bytes_decides x x).1 refl))) ∙ ap (λ b. g x && b) (all_within f g keys (λ k among. same k (or_right _ _ among)))

  none_counted : (f : List ℕ → Bool) (keys : List (List ℕ)) → eqb (count_by f keys) 0 ≡ list_all (λ k. not (f k)) keys
  none_counted f keys = sum_by-zero (λ k. cond (f k) 1 0) keys ∙ all_same (λ k. eqb (cond (f k) 1 0) 0) (λ k. not (f k)) (λ k. zero_is (f k)) keys
    where
      zero_is : (b : Bool) → eqb (cond b 1 0) 0 ≡ not b
      zero_is true = refl
      zero_is false = refl

  supersedes_known : (id : TxnId) (o : Option KnownCommit) → known_at id entries ≡ o → supersedes_id id commits ≡ tested id (λ c. is_superseded c commits) (option_map (λ (k : KnownCommit). k.keys) o)
  supersedes_known id o is = any_at id (λ c. is_superseded c commits) commits index.in_order ∙ ap (tested id (λ c. is_superseded c commits)) (keys_at-known id entries ∙ ap (option_map (λ (k : KnownCommit). k.keys)) is)

  pub superseded_unknown : (id : TxnId) → known_at id entries ≡ None → supersedes_id id commits ≡ false
  superseded_unknown id is = supersedes_known id None is

  pub superseded_counted : (id : TxnId) (k : KnownCommit) → known_at id entries ≡ Some k → eqb k.newest 0 ≡ supersedes_id id commits
  superseded_counted id k is =
      ap (λ n. eqb n 0) counted.0 ∙ none_counted (λ key. is_some_id id (latest key commits)) k.keys
      ∙ all_within (λ key. not (is_some_id id (latest key commits))) (λ key. exceeds id (latest key commits)) k.keys (λ key among. standing key id commits (version key among))
      ∙ sym (superseded-latest (record { id = id; keys = k.keys }) commits) ∙ sym (supersedes_known id (Some k) is)
    where
      counted : IsCounted commits id (Some k)
      counted = subst (λ (o : Option KnownCommit). IsCounted commits id o) is (index.counted id)

      version : (key : List ℕ) → IsTrue (list_any (bytes_eq key) k.keys) → IsTrue (is_version key id commits)
      version key among = any_at id (wrote key) commits index.in_order ∙ ap (tested id (wrote key)) (keys_at-known id entries ∙ ap (option_map (λ (k : KnownCommit). k.keys)) is) ∙ among

-- ---- what learning answers

pub learnt_known : (c : Commit) (known : List Commit) → has_id c.id known ≡ true → (Known ≡ learnt c known) × (known ≡ with_commit known c)
learnt_known c known there = (rw there refl, rw there refl)

pub learnt_superseded : (c : Commit) (known : List Commit) → has_id c.id known ≡ false → is_superseded c known ≡ true → (Superseded ≡ learnt c known) × (known ≡ with_commit known c)
learnt_superseded c known new over = (rw (new, over) refl, rw (new, over) refl)

pub learnt_taken : (c : Commit) (known : List Commit) → has_id c.id known ≡ false → is_superseded c known ≡ false → Taken ≡ learnt c known
learnt_taken c known new stands = rw (new, stands) refl

-- ---- changes that change nothing, or one count

pub same_index : (entries after : List (TxnId × KnownCommit)) (writers left : List (List ℕ × List TxnId)) → IsIndex entries writers → after ≡ entries → ((k : List ℕ) (v : TxnId) → stands_under k v left ≡ stands_under k v writers) → IsIndex after left
same_index entries after writers left index same stands = record {
  in_order = rw same index.in_order;
  written = λ k v. rw same (stands k v ∙ index.written k v);
  counted = λ id. rw same (index.counted id);
}

pub taken_back : (old all same : Bool) → (IsTrue same → IsFalse old) → (old || (all && same)) && not (all && same) ≡ old
taken_back true true true fresh = sym (fresh refl)
taken_back true true false fresh = refl
taken_back true false same fresh = refl
taken_back false true true fresh = refl
taken_back false true false fresh = refl
taken_back false false same fresh = refl

pub lowered_at : (id q : TxnId) (old new : KnownCommit) (entries after : List (TxnId × KnownCommit)) → known_at id entries ≡ Some old → new ≡ one_less old → known_at q after ≡ cond (is_eq (id_cmp id q)) (Some new) (known_at q entries)
    → known_at q after ≡ lowered_by (Some id) q (known_at q entries)
lowered_at id q old new entries after found is put = put ∙ cases (is_eq (id_cmp id q)) refl
  where
    cases : (t : Bool) → is_eq (id_cmp id q) ≡ t → cond t (Some new) (known_at q entries) ≡ (if t then option_map one_less (known_at q entries) else known_at q entries)
    cases true tied = ap (λ (k : KnownCommit). Some k) is ∙ ap (option_map one_less) (sym found) ∙ ap (λ (i : TxnId). option_map one_less (known_at i entries)) (same_ids id q (sym (same_id-tied id q) ∙ tied))
    cases false apart = refl

pub lowered_nowhere : (id q : TxnId) (entries after : List (TxnId × KnownCommit)) → known_at id entries ≡ None → after ≡ entries → known_at q after ≡ lowered_by (Some id) q (known_at q entries)
lowered_nowhere id q entries after none same = ap (known_at q) same ∙ cases (is_eq (id_cmp id q)) refl
  where
    cases : (t : Bool) → is_eq (id_cmp id q) ≡ t → known_at q entries ≡ (if t then option_map one_less (known_at q entries) else known_at q entries)
    cases true tied =
        let gone : known_at q entries ≡ None = ap (λ (i : TxnId). known_at i entries) (sym (same_ids id q (sym (same_id-tied id q) ∙ tied))) ∙ none in
        gone ∙ sym (ap (option_map one_less) gone)
    cases false apart = refl
