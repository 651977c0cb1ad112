-- The floor of a commit's time.
use Rattle.std.proofs.Common.{◌≡◌, ℕ, ◌+◌, ◌≤◌, Bool, true, false, ◌||◌, List, [], ◌∷◌, ◌++◌, refl, sym, ap, ◌∙◌, ◌<◌, inl, inr, get_or, length, take, max, suc, arith}
use Rattle.std.specs.Prelude.{IsFalse, IsTrue, None, Option, Some, filter, if◌then◌else◌, map}
use Rattle.std.specs.List.{fold, list_any}
use Rattle.std.specs.Option.{option_map_or}
use Rattle.aft_id.specs.TxnId.{id_lt}
use Rattle.aft_id.specs.declared.txn_id.TxnId.{TxnId}
use Rattle.aft_records.specs.Commits.{ids_of, later, latest, versions}
use Rattle.aft_records.specs.Superseded.{wrote}
use Rattle.aft_records.specs.declared.stored.Commit.{Commit}
use Rattle.aft_model.specs.NodeRules.{greatest_of, times_written}
use Rattle.std.specs.Ordering.{is_lt, nat_cmp, ordering_then}
use Rattle.std.specs.Cmp.Lexicographic.{slice_cmp}
use Rattle.std.specs.declared.cmp.Ordering.TheVariants.{Greater, Less}
use Rattle.std.proofs.lemmas.Bool.{cases_lt, true≢false}
use Rattle.std.proofs.lemmas.Bool.Decides.{nat_tests}
use Rattle.std.proofs.lemmas.List.{take_more}

-- ---- the greatest of a list

max_out : (n : ℕ) (xs : List ℕ) → fold max n xs ≡ max n (fold max 0 xs)
max_out n [] = omega arith
max_out n (x ∷ xs) = let a = max_out (max n x) xs in let b = max_out (max 0 x) xs in omega arith

greatest-cons : (x : ℕ) (xs : List ℕ) → greatest_of (x ∷ xs) ≡ max x (greatest_of xs)
greatest-cons x xs = let a = max_out (max 0 x) xs in omega arith

-- ---- of two kinds of commits

abbrev times : List Commit → List ℕ
times commits = map (λ (d : Commit). suc d.id.time) commits

abbrev with_it : Commit → Bool → List Commit → List ℕ
with_it c t those = map (λ (d : Commit). suc d.id.time) (if t then c ∷ those else those)

either_kind : (c : Commit) (all some others : List Commit) (t u : Bool) → greatest_of (times all) ≡ max (greatest_of (times some)) (greatest_of (times others))
    → greatest_of (with_it c (t || u) all) ≡ max (greatest_of (with_it c t some)) (greatest_of (with_it c u others))
either_kind c all some others true true rest =
    let a = greatest-cons (suc c.id.time) (times all) in let b = greatest-cons (suc c.id.time) (times some) in let d = greatest-cons (suc c.id.time) (times others) in omega arith
either_kind c all some others true false rest = let a = greatest-cons (suc c.id.time) (times all) in let b = greatest-cons (suc c.id.time) (times some) in omega arith
either_kind c all some others false true rest = let a = greatest-cons (suc c.id.time) (times all) in let d = greatest-cons (suc c.id.time) (times others) in omega arith
either_kind c all some others false false rest = rest

two_kinds : (f g : Commit → Bool) (known : List Commit)
    → greatest_of (map (λ (c : Commit). suc c.id.time) (filter (λ c. f c || g c) known)) ≡ max (greatest_of (map (λ (c : Commit). suc c.id.time) (filter f known))) (greatest_of (map (λ (c : Commit). suc c.id.time) (filter g known)))
two_kinds f g [] = omega arith
two_kinds f g (c ∷ known) = either_kind c (filter (λ d. f d || g d) known) (filter f known) (filter g known) (f c) (g c) (two_kinds f g known)

-- ---- the newest of a key

-- an id that is below another has no later time, and one that isn't no earlier
lesser : (a b : TxnId) → a.time < b.time → IsTrue (id_lt a b)
lesser a b less = ap (λ o. is_lt (ordering_then o (slice_cmp nat_cmp a.uuid b.uuid))) (below a.time b.time less)
  where
    below : (x y : ℕ) → x < y → nat_cmp x y ≡ Less
    below x y h = grind (arith, nat_tests)

greater : (a b : TxnId) → b.time < a.time → IsFalse (id_lt a b)
greater a b less = ap (λ o. is_lt (ordering_then o (slice_cmp nat_cmp a.uuid b.uuid))) (above a.time b.time less)
  where
    above : (x y : ℕ) → y < x → nat_cmp x y ≡ Greater
    above x y h = grind (arith, nat_tests)

no_later : (a b : TxnId) → IsTrue (id_lt a b) → a.time ≤ b.time
no_later a b is = elim (cases_lt b.time a.time) [ inl less ↦ absurd (true≢false (sym is ∙ greater a b less)) | inr most ↦ most ]

no_earlier : (a b : TxnId) → IsFalse (id_lt a b) → b.time ≤ a.time
no_earlier a b not = elim (cases_lt a.time b.time) [ inl less ↦ absurd (true≢false (sym (lesser a b less) ∙ not)) | inr most ↦ most ]

abbrev pub behind : Option TxnId → ℕ
behind o = option_map_or (λ (id : TxnId). suc id.time) o 0

later_behind : (before : Option TxnId) (id : TxnId) → behind (later before id) ≡ max (behind before) (suc id.time)
later_behind None id = omega arith
later_behind (Some other) id = cases (id_lt other id) refl
  where
    cases : (t : Bool) → id_lt other id ≡ t → behind (if t then Some id else Some other) ≡ max (suc other.time) (suc id.time)
    cases true is = let h = no_later other id is in omega arith
    cases false not = let h = no_earlier other id not in omega arith

greatest_behind : (before : Option TxnId) (ids : List TxnId) → behind (fold later before ids) ≡ max (behind before) (greatest_of (map (λ (id : TxnId). suc id.time) ids))
greatest_behind before [] = omega arith
greatest_behind before (id ∷ ids) =
    let a = greatest_behind (later before id) ids in let b = later_behind before id in let d = greatest-cons (suc id.time) (map (λ (i : TxnId). suc i.time) ids) in omega arith

times-ids : (commits : List Commit) → map (λ (id : TxnId). suc id.time) (ids_of commits) ≡ map (λ (c : Commit). suc c.id.time) commits
times-ids [] = refl
times-ids (c ∷ commits) = ap (λ (rest : List ℕ). suc c.id.time ∷ rest) (times-ids commits)

pub latest_behind : (key : List ℕ) (known : List Commit) → behind (latest key known) ≡ greatest_of (map (λ (c : Commit). suc c.id.time) (filter (wrote key) known))
latest_behind key known = let a = greatest_behind None (versions key known) in let b = ap greatest_of (times-ids (filter (wrote key) known)) in omega arith

-- ---- one key more

any-more : (test : List ℕ → Bool) (keys : List (List ℕ)) (key : List ℕ) → list_any test (keys ++ key ∷ []) ≡ (list_any test keys || test key)
any-more test [] key = right (test key)
  where
    right : (t : Bool) → (t || false) ≡ t
    right true = refl
    right false = refl
any-more test (k ∷ keys) key = ap (λ t. test k || t) (any-more test keys key) ∙ either (test k) (list_any test keys) (test key)
  where
    either : (a b c : Bool) → (a || (b || c)) ≡ (a || b || c)
    either true b c = refl
    either false b c = refl

filter-same : (f g : Commit → Bool) (xs : List Commit) → ((x : Commit) → f x ≡ g x) → filter f xs ≡ filter g xs
filter-same f g [] same = refl
filter-same f g (x ∷ xs) same = ap (λ t. if t then x ∷ filter f xs else filter f xs) (same x) ∙ ap (λ (rest : List Commit). if g x then x ∷ rest else rest) (filter-same f g xs same)

pub floor_more : (keys : List (List ℕ)) (key : List ℕ) (known : List Commit) → greatest_of (times_written (keys ++ key ∷ []) known) ≡ max (greatest_of (times_written keys known)) (behind (latest key known))
floor_more keys key known =
    ap (λ (those : List Commit). greatest_of (map (λ (c : Commit). suc c.id.time) those)) (filter-same (λ c. list_any (λ k. wrote k c) (keys ++ key ∷ [])) (λ c. list_any (λ k. wrote k c) keys || wrote key c) known (λ c. any-more (λ k. wrote k c) keys key))
    ∙ (two_kinds (λ c. list_any (λ k. wrote k c) keys) (wrote key) known ∙ ap (λ n. max (greatest_of (times_written keys known)) n) (sym (latest_behind key known)))

pub floor_at : (keys : List (List ℕ)) (i : ℕ) (key : List ℕ) (known : List Commit) → i < length keys → key ≡ get_or keys i key
    → greatest_of (times_written (take (i + 1) keys) known) ≡ max (greatest_of (times_written (take i keys) known)) (behind (latest key known))
floor_at keys i key known within at =
    ap (λ (front : List (List ℕ)). greatest_of (times_written front known)) (take_more keys i key within ∙ ap (λ k. take i keys ++ k ∷ []) (sym at)) ∙ floor_more (take i keys) key known

pub floor_none : (known : List Commit) → greatest_of (times_written [] known) ≡ 0
floor_none [] = refl
floor_none (c ∷ known) = floor_none known
