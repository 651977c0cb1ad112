-- What pairs in the order of their names show: each record has a commit of its own.
use Rattle.std.proofs.Common.{◌≡◌, ◌+◌, ◌≤◌, ℕ, Bool, true, false, true≢false, ◌&&◌, ◌||◌, not, List, [], ◌∷◌, ◌++◌, eqb, length, length-append, refl, sym, ap, subst, ◌∙◌, inl, inr, arith}
use Rattle.std.specs.Prelude.{Err, IsFalse, IsTrue, None, Ok, Option, Result, Some, if◌then◌else◌, nat_eq, nat_le, nat_lt}
use Rattle.std.specs.List.{last_or, list_all, starts_with}
use Rattle.std.specs.Option.{option_map}
use Rattle.std.specs.Str.{bytes_eq}
use Rattle.std.proofs.lemmas.Bool.{and_from, and_parts, eqb-true, false_from_ne_true, false≢true, ltb-false, or_cases}
use Rattle.std.proofs.lemmas.List.Concat.{flat_map-append}
use Rattle.std.proofs.lemmas.List.Folds.{list_any-append}
use Rattle.aft_keeper.specs.declared.keeper.Pair.{Pair}
use Rattle.aft_keeper.specs.Contents.{is_scanned, name_lt}
use Rattle.aft_keeper.proofs.Names.{bytes_eq-Less, Less-from_name_lt, name_lt-from_Less, Less-trans}
use Rattle.aft_records.specs.Commits.{has_id}
use Rattle.aft_records.specs.declared.fault.RecordFault.{RecordFault}
use Rattle.aft_records.specs.declared.stored.Commit.{Commit}
use Rattle.aft_records.specs.Reading.{commit_of}
use Rattle.aft_id.specs.TxnId.{same_id}
use Rattle.aft_id.specs.declared.txn_id.TxnId.{TxnId}
use Rattle.aft_model.specs.LegalDoor.{ascends, is_page}
use Rattle.aft_model.specs.Readings.{has_reading, markers_in, read_under, record_name, records_in, versions_in}
use Rattle.aft_model.specs.ScanRun.{next_after}
use Rattle.aft_model.specs.Sound.{recorded, records_prefix}
use Rattle.aft_model.proofs.Growth.{all_implied}
use Rattle.aft_model.proofs.Histories.{In, all_at}
use Rattle.aft_model.proofs.Ids.{same_ids}
use Rattle.aft_model.proofs.Sights.{bytes_eq-refl, same_bytes}
use Rattle.aft_ledger.specs.Turns.{ids_differ}
use Rattle.aft_boot.specs.BootView.{HasListed}
use Rattle.aft_boot.specs.Pages.{Reads, are_records, is_record}

-- ---- a pair with a record

not_none : (n m : ℕ) → IsTrue (not (eqb (1 + n + m) 0))
not_none n m = ap not (false_from_ne_true (eqb (1 + n + m) 0) (λ is. let e : 1 + n + m ≡ 0 = eqb-true (1 + n + m) 0 is in omega arith))

-- it has a reading
pub read : (pair : Pair) (c : Commit) → records_in pair ≡ c ∷ [] → IsTrue (has_reading pair)
read pair c one = subst (λ (cs : List Commit). IsTrue (not (eqb (length cs + length (markers_in pair) + length (versions_in pair)) 0))) (sym one) (not_none (length (markers_in pair)) (length (versions_in pair)))

-- ---- names in order

name_lt-trans : (a b c : List ℕ) → IsTrue (name_lt a b) → IsTrue (name_lt b c) → IsTrue (name_lt a c)
name_lt-trans a b c ab bc = name_lt-from_Less a c (Less-trans a b c (Less-from_name_lt a b ab) (Less-from_name_lt b c bc))

-- each of these pairs stands behind a name
abbrev pub Behind : List ℕ → List Pair → Type 0
Behind after pairs = (p : Pair) → In p pairs → IsTrue (name_lt after p.name)

-- pairs that ascend, with others that ascend behind the last of them
ascends_append : (xs ys : List Pair) → IsTrue (ascends xs) → IsTrue (ascends ys) → ((last : Pair) → last_or None xs ≡ Some last → Behind last.name ys) → IsTrue (ascends (xs ++ ys))
ascends_append [] ys up up' over = up'
ascends_append (p ∷ []) [] up up' over = refl
ascends_append (p ∷ []) (q ∷ ys) up up' over = and_from _ _ (over p refl q (inl refl)) up'
ascends_append (p ∷ q ∷ xs) ys up up' over =
    let parts = and_parts (name_lt p.name q.name) (ascends (q ∷ xs)) up in
    and_from _ _ parts.0 (ascends_append (q ∷ xs) ys parts.1 up' over)

-- each that follows one stands behind it
follow : (p : Pair) (pairs : List Pair) → IsTrue (ascends (p ∷ pairs)) → Behind p.name pairs
follow p [] up q among = absurd among
follow p (r ∷ pairs) up q (inl here) = subst (λ (x : Pair). IsTrue (name_lt p.name x.name)) (sym here) (and_parts (name_lt p.name r.name) (ascends (r ∷ pairs)) up).0
follow p (r ∷ pairs) up q (inr later) =
    let parts = and_parts (name_lt p.name r.name) (ascends (r ∷ pairs)) up in
    name_lt-trans p.name r.name q.name parts.0 (follow r pairs parts.1 q later)

tail_up : (p : Pair) (pairs : List Pair) → IsTrue (ascends (p ∷ pairs)) → IsTrue (ascends pairs)
tail_up p [] up = refl
tail_up p (q ∷ pairs) up = (and_parts (name_lt p.name q.name) (ascends (q ∷ pairs)) up).1

-- ---- so no two records are of one id

not_below_itself : (a : List ℕ) → IsTrue (name_lt a a) → ⊥
not_below_itself a below = true≢false (sym (bytes_eq-refl a) ∙ bytes_eq-Less a a (Less-from_name_lt a a below))

read_has : (id : TxnId) (name : List ℕ) (r : Result Commit RecordFault) → (name ≡ record_name id.uuid → ⊥) → IsFalse (has_id id (read_under name (λ c. record_name c.id.uuid) r))
read_has id name (Err e) other = refl
read_has id name (Ok c) other = by_name (bytes_eq name (record_name c.id.uuid)) refl
  where
    by_name : (t : Bool) → bytes_eq name (record_name c.id.uuid) ≡ t → IsFalse (has_id id (if t then c ∷ [] else []))
    by_name false is = refl
    by_name true is = false_from_ne_true (has_id id (c ∷ [])) (λ has. other (same_bytes name (record_name c.id.uuid) is ∙ ap (λ (i : TxnId). record_name i.uuid) (sym (its has))))
      where
        its : IsTrue (has_id id (c ∷ [])) → id ≡ c.id
        its has = elim (or_cases (same_id id c.id) false has) [ inl same ↦ same_ids id c.id same | inr never ↦ absurd (false≢true never) ]

none_behind : (id : TxnId) (pairs : List Pair) → ((p : Pair) → In p pairs → p.name ≡ record_name id.uuid → ⊥) → IsFalse (has_id id (recorded pairs))
none_behind id [] other = refl
none_behind id (p ∷ pairs) other =
    list_any-append (λ (c : Commit). same_id id c.id) (records_in p) (recorded pairs)
    ∙ ap (λ (t : Bool). t || has_id id (recorded pairs)) (read_has id p.name (commit_of p.bytes) (other p (inl refl)))
    ∙ none_behind id pairs (λ q among. other q (inr among))

pub commits_differ : (pairs : List Pair) → IsTrue (ascends pairs) → IsTrue (ids_differ (recorded pairs))
commits_differ [] up = refl
commits_differ (p ∷ pairs) up = by_read (commit_of p.bytes) (commits_differ pairs (tail_up p pairs up))
  where
    by_read : (r : Result Commit RecordFault) → IsTrue (ids_differ (recorded pairs)) → IsTrue (ids_differ (read_under p.name (λ (c : Commit). record_name c.id.uuid) r ++ recorded pairs))
    by_read (Err e) rest = rest
    by_read (Ok c) rest = by_name (bytes_eq p.name (record_name c.id.uuid)) refl
      where
        by_name : (t : Bool) → bytes_eq p.name (record_name c.id.uuid) ≡ t → IsTrue (ids_differ ((if t then c ∷ [] else []) ++ recorded pairs))
        by_name false is = rest
        by_name true is = and_from _ _ (ap not (none_behind c.id pairs other)) rest
          where
            other : (q : Pair) → In q pairs → q.name ≡ record_name c.id.uuid → ⊥
            other q among same = not_below_itself p.name (subst (λ (n : List ℕ). IsTrue (name_lt p.name n)) (same ∙ sym (same_bytes p.name (record_name c.id.uuid) is)) (follow p pairs up q among))

-- ---- a page more

last_append : {A : Type 0} (o : Option A) (xs ys : List A) → last_or o (xs ++ ys) ≡ last_or (last_or o xs) ys
last_append o [] ys = refl
last_append o (x ∷ xs) ys = last_append (Some x) xs ys

-- the name behind which a run goes on is that of the page's last pair
last_name : (page : List Pair) (next : List ℕ) → next_after (record { after = next; listed = page }) ≡ Some next → (o : Option Pair) (x : Pair) → last_or o page ≡ Some x → x.name ≡ next
last_name [] next goes o x last = absurd (none_is goes)
  where
    none_is : None ≡ Some next → ⊥
    none_is e = cc
last_name (p ∷ page) next goes o x last = by_short (nat_lt (length (p ∷ page)) 64) goes
  where
    none_is : None ≡ Some next → ⊥
    none_is e = cc

    by_short : (short : Bool) → (if short then None else option_map (λ (q : Pair). q.name) (last_or (Some p) page)) ≡ Some next → x.name ≡ next
    by_short true is = absurd (none_is is)
    by_short false is = one (last_or (Some p) page) last is
      where
        one : (l : Option Pair) → l ≡ Some x → option_map (λ (q : Pair). q.name) l ≡ Some next → x.name ≡ next
        one None e is = absurd (none_is is)
        one (Some q) e is = let its : q.name ≡ next = cc in let same : q ≡ x = cc in ap (λ (y : Pair). y.name) (sym same) ∙ its

module _ (after : List ℕ) (listed : ℕ) (commits : List Commit) (lists : HasListed after listed commits) (page : List Pair) (is : IsTrue (is_page records_prefix after 64 page)) (all : List Commit) (reads : Reads page listed commits all) where
  both : IsTrue (list_all (λ (p : Pair). is_scanned records_prefix after p.name) page) × IsTrue (ascends page)
  both = and_parts (list_all (λ (p : Pair). is_scanned records_prefix after p.name) page) (ascends page) (and_parts (list_all (λ (p : Pair). is_scanned records_prefix after p.name) page && ascends page) (nat_le (length page) 64) is).0

  behind : Behind after page
  behind p among = (and_parts (starts_with nat_eq p.name records_prefix) (name_lt after p.name) (all_at (λ (q : Pair). is_scanned records_prefix after q.name) p page among both.0)).1

  up_so : IsTrue (ascends (lists.pairs ++ page))
  up_so = ascends_append lists.pairs page lists.up both.1 (λ last is_last. subst (λ (n : List ℕ). Behind n page) (sym (lists.last last is_last)) behind)

  shown_so : all ≡ recorded (lists.pairs ++ page)
  shown_so = reads.shown ∙ ap (λ (cs : List Commit). cs ++ recorded page) lists.shown ∙ sym (flat_map-append records_in lists.pairs page)

  pub lists_on : (count : ℕ) (next : List ℕ) → count ≡ listed + length page → ((from : List ℕ) → next_after (record { after = from; listed = page }) ≡ Some next) → HasListed next count all
  lists_on count next counts goes = record {
    pairs = lists.pairs ++ page;
    count = counts ∙ (ap (λ (n : ℕ). n + length page) lists.count ∙ sym (length-append lists.pairs page));
    few = let f = reads.few in omega arith;
    shown = shown_so;
    up = up_so;
    last = λ x is_last. last_name page next (goes next) (last_or None lists.pairs) x (sym (last_append None lists.pairs page) ∙ is_last);
  }

  pub all_differ : IsTrue (ids_differ all)
  all_differ = subst (λ (cs : List Commit). IsTrue (ids_differ cs)) (sym shown_so) (commits_differ (lists.pairs ++ page) up_so)

-- each pair of a page of records stands under a name of records
pub page_under : (after : List ℕ) (page : List Pair) → IsTrue (is_page records_prefix after 64 page) → IsTrue (are_records page)
page_under after page is =
    all_implied (λ (p : Pair). is_scanned records_prefix after p.name) is_record (λ p both. (and_parts (starts_with nat_eq p.name records_prefix) (name_lt after p.name) both).0) page
    (and_parts (list_all (λ (p : Pair). is_scanned records_prefix after p.name) page) (ascends page) (and_parts (list_all (λ (p : Pair). is_scanned records_prefix after p.name) page && ascends page) (nat_le (length page) 64) is).0).0

-- a page behind which a run goes on is full
pub full_page : (page : List Pair) (next : List ℕ) → ((from : List ℕ) → next_after (record { after = from; listed = page }) ≡ Some next) → 64 ≤ length page
full_page page next goes = by_short (nat_lt (length page) 64) refl (goes next)
  where
    none_is : None ≡ Some next → ⊥
    none_is e = cc

    by_short : (short : Bool) → nat_lt (length page) 64 ≡ short → (if short then None else option_map (λ (q : Pair). q.name) (last_or None page)) ≡ Some next → 64 ≤ length page
    by_short true is goes = absurd (none_is goes)
    by_short false is goes = ltb-false (length page) 64 is
