-- An index with one commit more.
use Rattle.std.proofs.Common.{◌≡◌, ℕ, Bool, true, false, cond, ◌&&◌, ◌||◌, List, [], ◌∷◌, refl, sym, ap, subst, ◌∙◌, ◌⊎◌, inl, inr}
use Rattle.std.specs.Prelude.{IsTrue, IsFalse, Option, Some, None, count_by, filter, if◌then◌else◌}
use Rattle.std.specs.List.{list_any}
use Rattle.std.specs.Option.{option_map}
use Rattle.std.specs.Ordering.{is_eq, is_lt}
use Rattle.std.specs.Str.{bytes_eq}
use Rattle.std.specs.declared.cmp.Ordering.TheVariants.{Less}
use Rattle.std.proofs.lemmas.Bool.{or_cases, or_left, or_right, or_parts, and_parts, true≢false, false≢true, false_from_ne_true}
use Rattle.aft_fields.specs.Order.{ascend}
use Rattle.aft_id.specs.TxnId.{id_cmp, id_lt, same_id}
use Rattle.aft_id.specs.declared.txn_id.TxnId.{TxnId}
use Rattle.aft_records.proofs.CommitOrder.{id_lt-irrefl, id_lt-trans, placed_ascends, same_id-refl}
use Rattle.aft_records.specs.Commits.{greatest, has_id, ids_ascend, is_listed, latest, with_id_order}
use Rattle.aft_records.specs.Superseded.{wrote}
use Rattle.aft_records.specs.declared.stored.Commit.{Commit}
use Rattle.aft_meta.specs.Index.{IsCounted, IsIndex, commits_of, ids_under, is_some_id, is_version, known_at, lowered, overtaken_by, stands_under}
use Rattle.aft_meta.specs.declared.known.KnownCommit.{KnownCommit}
use Rattle.aft_meta.proofs.Counts.{count_same, lowered_apart, lowered_counts, lowered_none, still}
use Rattle.aft_meta.proofs.Entries.{keys_at-known}
use Rattle.aft_meta.proofs.KeysOf.{any_at, any_placed, newest_under, or_no, some_greatest, tested}
use Rattle.aft_meta.proofs.Order.{greatest_below, greatest_is, greatest_listed, greatest_same, listed_filter, listed_within, none_below, same_id-sym, same_id-tied, same_ids}

-- ---- one id more under a key

module _ (ids after : List TxnId) (new : TxnId) (is : (v : TxnId) → is_listed v after ≡ (is_listed v ids || same_id v new)) (fresh : IsFalse (is_listed new ids)) where
  new_there : IsTrue (is_listed new after)
  new_there = is new ∙ or_right (is_listed new ids) _ (same_id-refl new)

  old_there : (v : TxnId) → IsTrue (is_listed v ids) → IsTrue (is_listed v after)
  old_there v among = is v ∙ or_left _ (same_id v new) among

  was_there : (v : TxnId) → IsTrue (is_listed v after) → IsTrue (is_listed v ids) ⊎ (v ≡ new)
  was_there v among = elim (or_cases (is_listed v ids) (same_id v new) (sym (is v) ∙ among)) [ inl before ↦ inl before | inr same ↦ inr (same_ids v new same) ]

  less_lt : (v : TxnId) → id_cmp v new ≡ Less → v ≡ new → ⊥
  less_lt v less same = true≢false (sym (ap (λ o. is_lt o) less) ∙ subst (λ (i : TxnId). IsFalse (id_lt i new)) (sym same) (id_lt-irrefl new))

  -- who was the newest is so still, or is overtaken
  pub overtaken_was : (id : TxnId) → IsFalse (same_id id new) → is_some_id id (greatest ids) ≡ (is_some_id id (greatest after) || is_some_id id (overtaken_by new after))
  overtaken_was id other = cases (greatest ids) refl
    where
      picked : (t : Bool) (g : Option TxnId) → is_some_id new (greatest after) ≡ t → overtaken_by new after ≡ (if t then greatest (filter (λ v. id_lt v new) after) else None)
      picked t g e = ap (λ b. if b then greatest (filter (λ v. id_lt v new) after) else None) e

      cases : (o : Option TxnId) → greatest ids ≡ o → is_some_id id o ≡ (is_some_id id (greatest after) || is_some_id id (overtaken_by new after))
      cases None none =
          let empty : (v : TxnId) → IsFalse (is_listed v ids) = λ v. never v in
          let top : greatest after ≡ Some new = greatest_is after new new_there (λ v among. elim (was_there v among) [
            | inl before ↦ absurd (true≢false (sym before ∙ empty v))
            | inr same ↦ subst (λ (i : TxnId). IsFalse (id_lt new i)) (sym same) (id_lt-irrefl new)
          ]) in
          let under : greatest (filter (λ v. id_lt v new) after) ≡ None = none_below after new (λ v less. false_from_ne_true (is_listed v after) (λ among. elim (was_there v among) [
            | inl before ↦ true≢false (sym before ∙ empty v)
            | inr same ↦ less_lt v less same
          ])) in
          let over : overtaken_by new after ≡ None = picked true None (ap (is_some_id new) top ∙ same_id-refl new) ∙ under in
          sym (ap (λ o. is_some_id id o || is_some_id id (overtaken_by new after)) top ∙ ap (λ b. b || is_some_id id (overtaken_by new after)) other ∙ ap (is_some_id id) over)
        where
          never : (v : TxnId) → IsFalse (is_listed v ids)
          never v = false_from_ne_true (is_listed v ids) (λ among. some_greatest ids v among none)
      cases (Some o) some = elim_lt (id_lt o new) refl
        where
          among : IsTrue (is_listed o ids)
          among = greatest_listed ids o some

          apart : IsFalse (same_id new o)
          apart = false_from_ne_true (same_id new o) (λ same. true≢false (sym (subst (λ (i : TxnId). IsTrue (is_listed i ids)) (sym (same_ids new o same)) among) ∙ fresh))

          elim_lt : (t : Bool) → id_lt o new ≡ t → is_some_id id (Some o) ≡ (is_some_id id (greatest after) || is_some_id id (overtaken_by new after))
          elim_lt true less =
              let top : greatest after ≡ Some new = greatest_is after new new_there (λ v there. elim (was_there v there) [
                | inl before ↦ false_from_ne_true (id_lt new v) (λ above. true≢false (sym (id_lt-trans o new v less above) ∙ listed_within ids v o before some))
                | inr same ↦ subst (λ (i : TxnId). IsFalse (id_lt new i)) (sym same) (id_lt-irrefl new)
              ]) in
              let under : greatest (filter (λ v. id_lt v new) after) ≡ Some o = greatest_below after new o (old_there o among) less (λ v low there. elim (was_there v there) [
                | inl before ↦ listed_within ids v o before some
                | inr same ↦ absurd (less_lt v low same)
              ]) in
              let over : overtaken_by new after ≡ Some o = picked true None (ap (is_some_id new) top ∙ same_id-refl new) ∙ under in
              sym (ap (λ g. is_some_id id g || is_some_id id (overtaken_by new after)) top ∙ ap (λ b. b || is_some_id id (overtaken_by new after)) other ∙ ap (is_some_id id) over)
          elim_lt false least =
              let top : greatest after ≡ Some o = greatest_is after o (old_there o among) (λ v there. elim (was_there v there) [
                | inl before ↦ listed_within ids v o before some
                | inr same ↦ subst (λ (i : TxnId). IsFalse (id_lt o i)) (sym same) least
              ]) in
              let over : overtaken_by new after ≡ None = picked false None (ap (is_some_id new) top ∙ apart) in
              sym (ap (λ g. is_some_id id g || is_some_id id (overtaken_by new after)) top ∙ ap (λ g. same_id id o || is_some_id id g) over ∙ or_no (same_id id o))

  -- the new one overtakes others, that stand under the key
  pub overtaken_there : (id : TxnId) → IsTrue (is_some_id id (overtaken_by new after)) → IsTrue (is_listed id after) × IsTrue (id_lt id new) × IsTrue (is_some_id new (greatest after))
  overtaken_there id some = pick (is_some_id new (greatest after)) refl some
    where
      named : (o : Option TxnId) → IsTrue (is_some_id id o) → o ≡ Some id
      named None e = absurd (false≢true e)
      named (Some g) e = ap (λ (i : TxnId). Some i) (sym (same_ids id g e))

      pick : (t : Bool) → is_some_id new (greatest after) ≡ t → IsTrue (is_some_id id (if t then greatest (filter (λ v. id_lt v new) after) else None)) → IsTrue (is_listed id after) × IsTrue (id_lt id new) × IsTrue (is_some_id new (greatest after))
      pick false none some = absurd (false≢true some)
      pick true top some =
          let there = greatest_listed (filter (λ v. id_lt v new) after) id (named (greatest (filter (λ v. id_lt v new) after)) some) in
          let parts = and_parts (is_listed id after) (id_lt id new) (sym (listed_filter (λ v. id_lt v new) id after) ∙ there) in
          (parts.0, parts.1, top)

  -- and what it overtakes is the newest no more
  pub overtaken_gone : (id : TxnId) → IsTrue (is_some_id id (overtaken_by new after)) → IsFalse (is_some_id id (greatest after))
  overtaken_gone id some = false_from_ne_true (is_some_id id (greatest after)) (λ still_top. clash (greatest after) refl still_top)
    where
      clash : (o : Option TxnId) → greatest after ≡ o → IsTrue (is_some_id id o) → ⊥
      clash None e top = false≢true top
      clash (Some g) e top =
          let there = overtaken_there id some in
          let newest : new ≡ g = same_ids new g (sym (ap (is_some_id new) e) ∙ there.2) in
          true≢false (sym there.1 ∙ subst (λ (i : TxnId). IsFalse (id_lt i new)) (sym (same_ids id g top)) (subst (λ (i : TxnId). IsFalse (id_lt i new)) newest (id_lt-irrefl new)))

-- ---- the index

-- an id that isn't known stands under no key
pub nowhere_yet : (entries : List (TxnId × KnownCommit)) (writers : List (List ℕ × List TxnId)) (c : Commit) → IsIndex entries writers → IsFalse (has_id c.id (commits_of entries))
    → (k : List ℕ) (v : TxnId) → IsTrue (same_id v c.id) → IsFalse (stands_under k v writers)
nowhere_yet entries writers c index unknown k v same = index.written k v ∙ subst (λ (i : TxnId). IsFalse (is_version k i (commits_of entries))) (sym (same_ids v c.id same)) (none (commits_of entries) unknown)
  where
    none : (ds : List Commit) → IsFalse (has_id c.id ds) → IsFalse (is_version k c.id ds)
    none [] new = refl
    none (d ∷ ds) new =
        let parts = or_parts (same_id c.id d.id) (has_id c.id ds) new in
        ap (λ b. (b && wrote k d) || is_version k c.id ds) parts.0 ∙ none ds parts.1

module _ (entries placed after : List (TxnId × KnownCommit)) (writers noted : List (List ℕ × List TxnId)) (c : Commit)
    (index : IsIndex entries writers) (unknown : IsFalse (has_id c.id (commits_of entries))) (own_up : IsTrue (ascend c.keys))
    (stands : (k : List ℕ) (v : TxnId) → stands_under k v noted ≡ (stands_under k v writers || (list_any (bytes_eq k) c.keys && same_id v c.id))) where
  abbrev known : List Commit
  known = commits_of entries

  abbrev more : List Commit
  more = with_id_order known c

  more_up : IsTrue (ids_ascend more)
  more_up = placed_ascends known c index.in_order unknown

  and_turned : (a b : Bool) → a && b ≡ b && a
  and_turned true true = refl
  and_turned true false = refl
  and_turned false true = refl
  and_turned false false = refl

  more_written : (k : List ℕ) (v : TxnId) → stands_under k v noted ≡ is_version k v more
  more_written k v =
      stands k v ∙ ap (λ b. b || (wrote k c && same_id v c.id)) (index.written k v) ∙ ap (λ b. is_version k v known || b) (and_turned (wrote k c) (same_id v c.id))
      ∙ sym (any_placed (λ (d : Commit). same_id v d.id && wrote k d) known c)

  more_newest : (k : List ℕ) → greatest (ids_under k noted) ≡ latest k more
  more_newest = newest_under more noted more_written

  nowhere : (k : List ℕ) (v : TxnId) → IsTrue (same_id v c.id) → IsFalse (stands_under k v writers)
  nowhere = nowhere_yet entries writers c index unknown

  module _ (k : List ℕ) (writes : IsTrue (wrote k c)) where
    one_more : (v : TxnId) → is_listed v (ids_under k noted) ≡ (is_listed v (ids_under k writers) || same_id v c.id)
    one_more v = stands k v ∙ ap (λ b. stands_under k v writers || (b && same_id v c.id)) writes

  -- which keys count for another commit while all are still to be lowered
  still_all : (id : TxnId) → IsFalse (same_id id c.id) → (k : List ℕ) → is_some_id id (latest k known) ≡ still c.id noted id (λ key. is_some_id id (latest key more)) c.keys k
  still_all id other k = cases (wrote k c) refl
    where
      before : greatest (ids_under k writers) ≡ latest k known
      before = newest_under known writers index.written k

      cases : (t : Bool) → wrote k c ≡ t → is_some_id id (latest k known) ≡ (is_some_id id (latest k more) || (t && is_some_id id (overtaken_by c.id (ids_under k noted))))
      cases true writes =
          ap (is_some_id id) (sym before) ∙ overtaken_was (ids_under k writers) (ids_under k noted) c.id (one_more k writes) (nowhere k c.id (same_id-refl c.id)) id other
          ∙ ap (λ o. is_some_id id o || is_some_id id (overtaken_by c.id (ids_under k noted))) (more_newest k)
      cases false unwritten =
          ap (is_some_id id) (sym before ∙ greatest_same (ids_under k writers) (ids_under k noted) (λ v. sym (stands k v ∙ ap (λ b. stands_under k v writers || (b && same_id v c.id)) unwritten ∙ or_no (stands_under k v writers))) ∙ more_newest k)
          ∙ sym (or_no (is_some_id id (latest k more)))

  -- an id is overtaken only under keys that the new commit wrote
  over_written : (id : TxnId) (k : List ℕ) → IsTrue (is_some_id id (overtaken_by c.id (ids_under k noted))) → IsTrue (wrote k c)
  over_written id k over = pick (is_some_id c.id (greatest (ids_under k noted))) refl over
    where
      named : (o : Option TxnId) → IsTrue (is_some_id c.id o) → o ≡ Some c.id
      named None e = absurd (false≢true e)
      named (Some g) e = ap (λ (i : TxnId). Some i) (sym (same_ids c.id g e))

      pick : (t : Bool) → is_some_id c.id (greatest (ids_under k noted)) ≡ t → IsTrue (is_some_id id (if t then greatest (filter (λ v. id_lt v c.id) (ids_under k noted)) else None)) → IsTrue (wrote k c)
      pick false none over = absurd (false≢true over)
      pick true top over =
          let there = greatest_listed (ids_under k noted) c.id (named (greatest (ids_under k noted)) top) in
          elim (or_cases (stands_under k c.id writers) (wrote k c && same_id c.id c.id) (sym (stands k c.id) ∙ there)) [
            | inl before ↦ absurd (true≢false (sym before ∙ nowhere k c.id (same_id-refl c.id)))
            | inr own ↦ (and_parts (wrote k c) (same_id c.id c.id) own).0
          ]

  over_there : (id : TxnId) (k : List ℕ) → IsTrue (is_some_id id (overtaken_by c.id (ids_under k noted))) → IsTrue (is_listed id (ids_under k noted)) × IsTrue (id_lt id c.id) × IsTrue (is_some_id c.id (greatest (ids_under k noted)))
  over_there id k over = overtaken_there (ids_under k writers) (ids_under k noted) c.id (one_more k (over_written id k over)) (nowhere k c.id (same_id-refl c.id)) id over

  over_gone : (id : TxnId) (k : List ℕ) → IsTrue (is_some_id id (overtaken_by c.id (ids_under k noted))) → IsFalse (is_some_id id (latest k more))
  over_gone id k over = ap (is_some_id id) (sym (more_newest k)) ∙ overtaken_gone (ids_under k writers) (ids_under k noted) c.id (one_more k (over_written id k over)) (nowhere k c.id (same_id-refl c.id)) id over

  -- what is counted of another commit
  other_counted : (id : TxnId) (known_there : Option KnownCommit) → known_at id entries ≡ known_there → IsFalse (same_id id c.id) → IsCounted known id known_there → IsCounted more id (lowered c.keys c.id noted id known_there)
  other_counted id None is other counted = subst (λ (o : Option KnownCommit). IsCounted more id o) (sym (lowered_none c.keys c.id noted id)) tt
  other_counted id (Some k) is other counted =
      subst (λ (o : Option KnownCommit). IsCounted more id o)
      (sym (lowered_counts c.id noted id (λ key. is_some_id id (latest key more)) c.keys k.keys k.newest own_up counted.1 mine (λ key over. over_gone id key over) right))
      (refl, counted.1)
    where
      right : k.newest ≡ count_by (still c.id noted id (λ key. is_some_id id (latest key more)) c.keys) k.keys
      right = counted.0 ∙ count_same (λ key. is_some_id id (latest key known)) (still c.id noted id (λ key. is_some_id id (latest key more)) c.keys) k.keys (λ key among. still_all id other key)

      mine : (key : List ℕ) → IsTrue (is_some_id id (overtaken_by c.id (ids_under key noted))) → IsTrue (list_any (bytes_eq key) k.keys)
      mine key over = elim (or_cases (stands_under key id writers) (wrote key c && same_id id c.id) (sym (stands key id) ∙ (over_there id key over).0)) [
        | inl before ↦ (let version : IsTrue (is_version key id known) = sym (index.written key id) ∙ before in
            sym (any_at id (wrote key) known index.in_order ∙ ap (λ o. tested id (wrote key) o) (keys_at-known id entries ∙ ap (option_map (λ (n : KnownCommit). n.keys)) is)) ∙ version)
        | inr own ↦ absurd (true≢false (sym (and_parts (wrote key c) (same_id id c.id) own).1 ∙ other))
      ]

  -- the index with the new commit
  pub learned_index : commits_of after ≡ more → ((q : TxnId) → known_at q placed ≡ cond (is_eq (id_cmp c.id q)) (Some (record { keys = c.keys; newest = count_by (λ k. is_some_id c.id (greatest (ids_under k noted))) c.keys })) (known_at q entries))
      → ((q : TxnId) → known_at q after ≡ lowered c.keys c.id noted q (known_at q placed)) → IsIndex after noted
  learned_index same put low = record {
    in_order = subst (λ (cs : List Commit). IsTrue (ids_ascend cs)) (sym same) more_up;
    written = λ k v. more_written k v ∙ ap (is_version k v) (sym same);
    counted = λ id. subst (λ (cs : List Commit). IsCounted cs id (known_at id after)) (sym same) (subst (λ (o : Option KnownCommit). IsCounted more id o) (sym (low id)) (counted_at id (is_eq (id_cmp c.id id)) refl));
  }
    where
      counted_at : (id : TxnId) (t : Bool) → is_eq (id_cmp c.id id) ≡ t → IsCounted more id (lowered c.keys c.id noted id (known_at id placed))
      counted_at id true tied =
          let same_one : c.id ≡ id = same_ids c.id id (sym (same_id-tied c.id id) ∙ tied) in
          let here : known_at id placed ≡ Some (record { keys = c.keys; newest = count_by (λ k. is_some_id c.id (greatest (ids_under k noted))) c.keys }) = put id ∙ ap (λ t. cond t (Some (record { keys = c.keys; newest = count_by (λ k. is_some_id c.id (greatest (ids_under k noted))) c.keys })) (known_at id entries)) tied in
          let stays = lowered_apart c.keys c.id noted id (known_at id placed) (λ k. false_from_ne_true (is_some_id id (overtaken_by c.id (ids_under k noted))) (λ over. true≢false (sym (over_there id k over).1 ∙ subst (λ (i : TxnId). IsFalse (id_lt i c.id)) same_one (id_lt-irrefl c.id)))) in
          subst (λ (o : Option KnownCommit). IsCounted more id o) (sym (stays ∙ here))
          (count_same (λ k. is_some_id c.id (greatest (ids_under k noted))) (λ k. is_some_id id (latest k more)) c.keys (λ k among. ap (λ (i : TxnId). is_some_id i (greatest (ids_under k noted))) same_one ∙ ap (is_some_id id) (more_newest k)), own_up)
      counted_at id false apart =
          let there : known_at id placed ≡ known_at id entries = put id ∙ ap (λ t. cond t (Some (record { keys = c.keys; newest = count_by (λ k. is_some_id c.id (greatest (ids_under k noted))) c.keys })) (known_at id entries)) apart in
          let other : IsFalse (same_id id c.id) = same_id-sym id c.id ∙ sym (same_id-tied c.id id) ∙ apart in
          subst (λ (o : Option KnownCommit). IsCounted more id (lowered c.keys c.id noted id o)) (sym there) (other_counted id (known_at id entries) refl other (index.counted id))
