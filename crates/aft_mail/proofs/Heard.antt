-- Steps of the loops over ids and over commits.
use Rattle.std.proofs.Common.{◌≡◌, ℕ, ◌+◌, ◌<◌, Bool, true, false, ◌&&◌, ◌||◌, cond, not, eqb, append-nil, List, [], ◌∷◌, ◌++◌, length, get_or, take, refl, sym, ap, ◌∙◌}
use Rattle.std.specs.Prelude.{if◌then◌else◌}
use Rattle.std.specs.Str.{bytes_eq}
use Rattle.std.specs.Cmp.Lexicographic.{nat_list_eq_equiv}
use Rattle.std.specs.Cmp.{nat_eq_equiv}
use Rattle.std.proofs.lemmas.List.Elements.{filter_more}
use Rattle.std.proofs.lemmas.List.Folds.{list_any_more}
use Rattle.aft_id.specs.TxnId.{same_id}
use Rattle.aft_id.specs.declared.txn_id.TxnId.{TxnId}
use Rattle.aft_records.specs.declared.stored.Commit.{Commit}
use Rattle.aft_records.specs.Commits.{is_listed}
use Rattle.aft_model.specs.Office.{unheard}

same_id-symm : (a b : TxnId) → same_id a b ≡ same_id b a
same_id-symm a b =
    ap (λ t. t && bytes_eq a.uuid b.uuid) (nat_eq_equiv.symm a.time b.time)
    ∙ ap (λ t. eqb b.time a.time && t) (nat_list_eq_equiv.symm a.uuid b.uuid)

-- one more id in a set of those before it
pub listed-more : (ids : List TxnId) (i : ℕ) (id q : TxnId) (had : Bool) → i < length ids → id ≡ get_or ids i id → had ≡ is_listed q (take i ids) → cond (same_id id q) true had ≡ is_listed q (take (i + 1) ids)
listed-more ids i id q had within at is =
    cases (same_id id q) had
    ∙ ap (λ t. had || t) (same_id-symm id q)
    ∙ ap (λ t. t || same_id q id) is
    ∙ ap (λ x. is_listed q (take i ids) || same_id q x) at
    ∙ sym (list_any_more (same_id q) ids i id within)
  where
    cases : (t u : Bool) → cond t true u ≡ (u || t)
    cases true true = refl
    cases true false = refl
    cases false true = refl
    cases false false = refl

-- one more commit, which was heard of or not
pub unheard-more : (known : List TxnId) (commits : List Commit) (i : ℕ) (c : Commit) (before : List Commit) (listed : Bool) → i < length commits → c ≡ get_or commits i c → listed ≡ is_listed c.id known
    → before ≡ unheard known (take i commits) → (if listed then before else before ++ c ∷ []) ≡ unheard known (take (i + 1) commits)
unheard-more known commits i c before listed within at is sofar =
    cases listed
    ∙ ap (λ t. before ++ cond (not t) (c ∷ []) []) is
    ∙ ap (λ (front : List Commit). front ++ cond (not (is_listed c.id known)) (c ∷ []) []) sofar
    ∙ ap (λ (d : Commit). unheard known (take i commits) ++ cond (not (is_listed d.id known)) (d ∷ []) []) at
    ∙ sym (filter_more (λ (d : Commit). not (is_listed d.id known)) commits i c within)
  where
    cases : (t : Bool) → (if t then before else before ++ c ∷ []) ≡ before ++ cond (not t) (c ∷ []) []
    cases true = sym (append-nil before)
    cases false = refl
