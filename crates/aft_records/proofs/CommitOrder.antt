-- The order of ids, and lists of commits that stand in it.
use Rattle.std.proofs.Common.{◌≡◌, Bool, true, false, ◌||◌, not, List, [], ◌∷◌, ◌++◌, refl, sym, ap, subst, ◌∙◌, ◌⊎◌, inl, inr}
use Rattle.std.specs.Prelude.{IsTrue, IsFalse, Some, filter, if◌then◌else◌}
use Rattle.std.specs.List.{list_all, fold}
use Rattle.std.specs.Cmp.Lexicographic.{bytes_decides}
use Rattle.std.specs.Ordering.{is_lt, ordering_reverse}
use Rattle.std.specs.declared.cmp.Ordering.{Ordering}
use Rattle.std.specs.declared.cmp.Ordering.TheVariants.{Less, Equal, Greater}
use Rattle.std.proofs.lemmas.Bool.{and_parts, and_from, or_parts, eq-eqb, true≢false, false≢true, false_from_ne_true}
use Rattle.std.proofs.lemmas.Cmp.{tied_itself}
use Rattle.aft_id.specs.TxnId.{id_cmp, id_lt, same_id}
use Rattle.aft_id.specs.declared.txn_id.TxnId.{TxnId}
use Rattle.aft_id.proofs.IdOrder.{id_cmp-total, tied_ids}
use Rattle.aft_records.specs.declared.stored.Commit.{Commit}
use Rattle.aft_records.specs.Commits.{has_id, is_listed, ids_of, with_id_order, with_commit, without_ids, first_known, is_ascending, ids_ascend, later, greatest}
use Rattle.aft_records.specs.Superseded.{is_superseded}

-- ---- ids

pub same_id-refl : (a : TxnId) → IsTrue (same_id a a)
same_id-refl a = and_from _ _ (eq-eqb a.time a.time refl) ((bytes_decides a.uuid a.uuid).1 refl)

below_is : (o : Ordering) → IsTrue (is_lt o) → o ≡ Less
below_is Less below = refl
below_is Equal below = absurd (false≢true below)
below_is Greater below = absurd (false≢true below)

pub id_lt-irrefl : (a : TxnId) → IsFalse (id_lt a a)
id_lt-irrefl a = ap is_lt (tied_itself id_cmp-total a)

pub id_lt-trans : (a b c : TxnId) → IsTrue (id_lt a b) → IsTrue (id_lt b c) → IsTrue (id_lt a c)
id_lt-trans a b c first second = ap is_lt (id_cmp-total.trans a b c (below_is (id_cmp a b) first) (below_is (id_cmp b c) second))

-- an id that isn't above another is below it, or the same
pub id_lt-or : (a b : TxnId) → IsFalse (id_lt b a) → IsTrue (id_lt a b) ⊎ (a ≡ b)
id_lt-or a b least = cases (id_cmp b a) refl least
  where
    cases : (o : Ordering) → id_cmp b a ≡ o → IsFalse (is_lt o) → IsTrue (id_lt a b) ⊎ (a ≡ b)
    cases Less is least = absurd (true≢false least)
    cases Equal is least = inr (sym (tied_ids b a is))
    cases Greater is least = inl (ap is_lt (id_cmp-total.antisymm a b ∙ ap ordering_reverse is))

-- below an id, and so below one that isn't below that
pub id_lt-le : (a b c : TxnId) → IsTrue (id_lt a b) → IsFalse (id_lt c b) → IsTrue (id_lt a c)
id_lt-le a b c first second =
    elim (id_lt-or b c second) [ inl more ↦ id_lt-trans a b c first more | inr same ↦ subst (λ (i : TxnId). IsTrue (id_lt a i)) same first ]

-- what isn't below an id isn't below what that isn't below
pub id_le-trans : (a b c : TxnId) → IsFalse (id_lt b a) → IsFalse (id_lt c b) → IsFalse (id_lt c a)
id_le-trans a b c first second = false_from_ne_true (id_lt c a) (λ less. true≢false (sym (id_lt-le c a b less first) ∙ second))

-- ---- commits that ascend

-- whether an id is below those of commits
abbrev is_below : TxnId → List Commit → Bool
is_below id commits = list_all (id_lt id) (ids_of commits)

below_more : (a b : TxnId) (commits : List Commit) → IsTrue (id_lt a b) → IsTrue (is_below b commits) → IsTrue (is_below a commits)
below_more a b [] less below = refl
below_more a b (d ∷ commits) less below =
    let parts = and_parts (id_lt b d.id) (is_below b commits) below in
    and_from _ _ (id_lt-trans a b d.id less parts.0) (below_more a b commits less parts.1)

below_placed : (id : TxnId) (commits : List Commit) (c : Commit) → IsTrue (is_below id commits) → IsTrue (id_lt id c.id) → IsTrue (is_below id (with_id_order commits c))
below_placed id [] c below less = and_from _ _ less refl
below_placed id (d ∷ commits) c below less = cases (below_placed id commits c) (id_lt c.id d.id)
  where
    parts : IsTrue (id_lt id d.id) × IsTrue (is_below id commits)
    parts = and_parts (id_lt id d.id) (is_below id commits) below

    cases : (IsTrue (is_below id commits) → IsTrue (id_lt id c.id) → IsTrue (is_below id (with_id_order commits c))) → (t : Bool)
        → IsTrue (is_below id (if t then c ∷ d ∷ commits else d ∷ with_id_order commits c))
    cases rest true = and_from _ _ less below
    cases rest false = and_from _ _ parts.0 (rest parts.1 less)

-- a commit whose id isn't there leaves ids ascending
pub placed_ascends : (commits : List Commit) (c : Commit) → IsTrue (ids_ascend commits) → IsFalse (has_id c.id commits) → IsTrue (ids_ascend (with_id_order commits c))
placed_ascends [] c up new = refl
placed_ascends (d ∷ commits) c up new = cases (placed_ascends commits c) (id_lt c.id d.id) refl
  where
    parts : IsTrue (is_below d.id commits) × IsTrue (ids_ascend commits)
    parts = and_parts (is_below d.id commits) (ids_ascend commits) up

    apart : IsFalse (same_id c.id d.id) × IsFalse (has_id c.id commits)
    apart = or_parts (same_id c.id d.id) (has_id c.id commits) new

    cases : (IsTrue (ids_ascend commits) → IsFalse (has_id c.id commits) → IsTrue (ids_ascend (with_id_order commits c))) → (t : Bool) → id_lt c.id d.id ≡ t
        → IsTrue (ids_ascend (if t then c ∷ d ∷ commits else d ∷ with_id_order commits c))
    cases rest true less = and_from _ _ (and_from _ _ less (below_more c.id d.id commits less parts.0)) up
    cases rest false least =
        elim (id_lt-or d.id c.id least) [
          | inl less ↦ and_from _ _ (below_placed d.id commits c parts.0 less) (rest parts.1 apart.1)
          | inr same ↦ absurd (true≢false (sym (subst (λ (i : TxnId). IsTrue (same_id c.id i)) (sym same) (same_id-refl c.id)) ∙ apart.0))
        ]

pub with_ascends : (known : List Commit) (c : Commit) → IsTrue (ids_ascend known) → IsTrue (ids_ascend (with_commit known c))
with_ascends known c up = cases (has_id c.id known || is_superseded c known) refl
  where
    cases : (t : Bool) → (has_id c.id known || is_superseded c known) ≡ t → IsTrue (ids_ascend (if t then known else with_id_order known c))
    cases true out = up
    cases false new = placed_ascends known c up (or_parts (has_id c.id known) (is_superseded c known) new).0

-- what commits add to known ones leaves ids ascending
pub learned_ascends : (known commits : List Commit) → IsTrue (ids_ascend known) → IsTrue (ids_ascend (fold with_commit known commits))
learned_ascends known [] up = up
learned_ascends known (c ∷ commits) up = learned_ascends (with_commit known c) commits (with_ascends known c up)

pub first_ascends : (commits : List Commit) → IsTrue (ids_ascend (first_known commits))
first_ascends commits = learned_ascends [] (filter (λ c. not (is_superseded c commits)) commits) refl

-- ---- some of the commits

below_filtered : (test : Commit → Bool) (id : TxnId) (commits : List Commit) → IsTrue (is_below id commits) → IsTrue (is_below id (filter test commits))
below_filtered test id [] below = refl
below_filtered test id (d ∷ commits) below = cases (below_filtered test id commits parts.1) (test d)
  where
    parts : IsTrue (id_lt id d.id) × IsTrue (is_below id commits)
    parts = and_parts (id_lt id d.id) (is_below id commits) below

    cases : IsTrue (is_below id (filter test commits)) → (t : Bool) → IsTrue (is_below id (if t then d ∷ filter test commits else filter test commits))
    cases rest true = and_from _ _ parts.0 rest
    cases rest false = rest

pub filtered_ascends : (test : Commit → Bool) (commits : List Commit) → IsTrue (ids_ascend commits) → IsTrue (ids_ascend (filter test commits))
filtered_ascends test [] up = refl
filtered_ascends test (d ∷ commits) up = cases (filtered_ascends test commits parts.1) (test d)
  where
    parts : IsTrue (is_below d.id commits) × IsTrue (ids_ascend commits)
    parts = and_parts (is_below d.id commits) (ids_ascend commits) up

    cases : IsTrue (ids_ascend (filter test commits)) → (t : Bool) → IsTrue (ids_ascend (if t then d ∷ filter test commits else filter test commits))
    cases rest true = and_from _ _ (below_filtered test d.id commits parts.0) rest
    cases rest false = rest

pub without_ascends : (ids : List TxnId) (known : List Commit) → IsTrue (ids_ascend known) → IsTrue (ids_ascend (without_ids ids known))
without_ascends ids known up = filtered_ascends (λ c. not (is_listed c.id ids)) known up

-- ---- the greatest

last_after : (g : TxnId) (ids : List TxnId) (last : TxnId) → IsTrue (list_all (id_lt g) (ids ++ last ∷ [])) → IsTrue (is_ascending (ids ++ last ∷ [])) → fold later (Some g) (ids ++ last ∷ []) ≡ Some last
last_after g [] last above up = ap (λ t. if t then Some last else Some g) (and_parts (id_lt g last) true above).0
last_after g (id ∷ ids) last above up =
    let next = and_parts (id_lt g id) (list_all (id_lt g) (ids ++ last ∷ [])) above in
    let rest = and_parts (list_all (id_lt id) (ids ++ last ∷ [])) (is_ascending (ids ++ last ∷ [])) up in
    ap (λ t. fold later (if t then Some id else Some g) (ids ++ last ∷ [])) next.0 ∙ last_after id ids last rest.0 rest.1

pub greatest_last : (ids : List TxnId) (last : TxnId) → IsTrue (is_ascending (ids ++ last ∷ [])) → greatest (ids ++ last ∷ []) ≡ Some last
greatest_last [] last up = refl
greatest_last (id ∷ ids) last up =
    let rest = and_parts (list_all (id_lt id) (ids ++ last ∷ [])) (is_ascending (ids ++ last ∷ [])) up in
    last_after id ids last rest.0 rest.1
