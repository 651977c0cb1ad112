-- Places in lists of known commits.
use Rattle.std.proofs.Common.{◌≡◌, ℕ, ◌<◌, ◌≤◌, ◌+◌, suc, Bool, true, false, cond, not, ◌||◌, ltb, inl, inr, List, [], ◌∷◌, ◌++◌, length, take, drop, drop-cons, get_or, add-one, arith, refl, ap, ◌∙◌}
use Rattle.std.specs.Prelude.{Some, None, filter, if◌then◌else◌}
use Rattle.std.specs.List.{position_or_len, prefix_len}
use Rattle.std.proofs.lemmas.Bool.{cases_lt, lt-ltb}
use Rattle.aft_id.specs.TxnId.{id_lt, same_id}
use Rattle.aft_id.specs.declared.txn_id.TxnId.{TxnId}
use Rattle.aft_records.specs.Commits.{has_id, with_commit, with_id_order, without_ids}
use Rattle.aft_records.specs.Superseded.{is_superseded}
use Rattle.aft_records.specs.declared.stored.Commit.{Commit}
use Rattle.aft_meta.specs.KnownCommits.{keys_at}

-- no prefix is longer than its list
pub prefix_len-le : {X : Type 0} (p : X → Bool) (xs : List X) → prefix_len p xs ≤ length xs
prefix_len-le p [] = omega arith
prefix_len-le {X} p (x ∷ xs) = cases (p x) (prefix_len-le p xs)
  where
    cases : (t : Bool) → prefix_len p xs ≤ length xs → cond t (1 + prefix_len p xs) 0 ≤ length (x ∷ xs)
    cases true h = omega arith
    cases false h = omega arith

-- a place that is found is the first
pub found_at : (t : Bool) (n i : ℕ) → cond t (Some n) None ≡ Some i → i ≡ n
found_at true n i e = cc
found_at false n i e = cc

-- where none is found the first is behind all
pub found_nowhere : (n len : ℕ) → n ≤ len → cond (ltb n len) (Some n) None ≡ None → len ≡ n
found_nowhere n len le e = elim (cases_lt n len) [ inl lt ↦ absurd (some_none (rw (lt-ltb n len lt) at e)) | inr ge ↦ omega arith ]
  where
    some_none : Some n ≡ None → ⊥
    some_none e = cc

-- a commit put at its place is in id order
pub placed : (commits : List Commit) (c : Commit)
    → take (position_or_len (λ (other : Commit). id_lt c.id other.id) commits) commits ++ c ∷ drop (position_or_len (λ (other : Commit). id_lt c.id other.id) commits) commits ≡ with_id_order commits c
placed [] c = refl
placed (d ∷ commits) c = cases (prefix_len (λ (other : Commit). not (id_lt c.id other.id)) commits) (id_lt c.id d.id) (placed commits c)
  where
    cases : (n : ℕ) (t : Bool) → take n commits ++ c ∷ drop n commits ≡ with_id_order commits c
        → take (cond (not t) (1 + n) 0) (d ∷ commits) ++ c ∷ drop (cond (not t) (1 + n) 0) (d ∷ commits) ≡ cond t (c ∷ d ∷ commits) (d ∷ with_id_order commits c)
    cases n true rest = refl
    cases n false rest =
        let one : 1 + n ≡ suc n = omega arith in
        ap (λ k. take k (d ∷ commits) ++ c ∷ drop k (d ∷ commits)) one ∙ ap (λ z. d ∷ z) rest

-- what the commits from a place on have is what the commit there has, or else those behind it
pub keys_at-drop : (id : TxnId) (commits : List Commit) (i : ℕ) (c : Commit) → i < length commits → c ≡ get_or commits i c → keys_at id (drop i commits) ≡ (if same_id id c.id then Some c.keys else keys_at id (drop (i + 1) commits))
keys_at-drop id commits i c h e = rw (drop-cons commits i c h, ← e, add-one) refl

-- a commit whose id isn't known, and that isn't superseded, is taken
pub taken : (known : List Commit) (c : Commit) → has_id c.id known ≡ false → is_superseded c known ≡ false → with_commit known c ≡ with_id_order known c
taken known c new stands = rw (new, stands) refl

-- the commits whose id isn't this one
pub without_one : (id : TxnId) (commits : List Commit) → filter (λ (c : Commit). not (same_id c.id id)) commits ≡ without_ids (id ∷ []) commits
without_one id [] = refl
without_one id (c ∷ commits) = cases (same_id c.id id) (without_one id commits)
  where
    cases : (t : Bool) → filter (λ (d : Commit). not (same_id d.id id)) commits ≡ without_ids (id ∷ []) commits
        → (if not t then c ∷ filter (λ (d : Commit). not (same_id d.id id)) commits else filter (λ (d : Commit). not (same_id d.id id)) commits) ≡ (if not (t || false) then c ∷ without_ids (id ∷ []) commits else without_ids (id ∷ []) commits)
    cases true rest = rest
    cases false rest = ap (λ z. c ∷ z) rest
