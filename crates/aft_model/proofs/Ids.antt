-- Ids and commits that are the same, and the order of ids.
use Rattle.std.proofs.Common.{◌≡◌, ℕ, List, [], ◌∷◌, refl, ap, ◌∙◌, eqb}
use Rattle.std.specs.Prelude.{IsTrue}
use Rattle.std.specs.Cmp.Lexicographic.{pointwise}
use Rattle.std.specs.Str.{bytes_eq}
use Rattle.std.proofs.lemmas.Bool.{and_parts, eqb-true, false≢true}
use Rattle.aft_id.specs.TxnId.{same_id}
use Rattle.aft_id.specs.declared.txn_id.TxnId.{TxnId}
use Rattle.aft_records.specs.declared.stored.Commit.{Commit}
use Rattle.aft_records.specs.Commits.{same_commit}
use Rattle.aft_model.proofs.Sights.{same_bytes}
pub use Rattle.aft_records.proofs.CommitOrder.{same_id-refl, id_lt-irrefl, id_lt-trans, id_lt-or, id_lt-le, id_le-trans}

same_keys : (a b : List (List ℕ)) → IsTrue (pointwise bytes_eq a b) → a ≡ b
same_keys [] [] same = refl
same_keys [] (y ∷ ys) same = absurd (false≢true same)
same_keys (x ∷ xs) [] same = absurd (false≢true same)
same_keys (x ∷ xs) (y ∷ ys) same =
    let parts = and_parts (bytes_eq x y) (pointwise bytes_eq xs ys) same in
    ap (λ z. z ∷ xs) (same_bytes x y parts.0) ∙ ap (λ zs. y ∷ zs) (same_keys xs ys parts.1)

pub same_ids : (a b : TxnId) → IsTrue (same_id a b) → a ≡ b
same_ids a b same =
    let parts = and_parts (eqb a.time b.time) (bytes_eq a.uuid b.uuid) same in
    let id : ℕ → List ℕ → TxnId = λ t u. record { time = t; uuid = u } in
    ap (λ t. id t a.uuid) (eqb-true a.time b.time parts.0) ∙ ap (λ u. id b.time u) (same_bytes a.uuid b.uuid parts.1)

pub same_commits : (a b : Commit) → IsTrue (same_commit a b) → a ≡ b
same_commits a b same =
    let parts = and_parts (same_id a.id b.id) (pointwise bytes_eq a.keys b.keys) same in
    let commit : TxnId → List (List ℕ) → Commit = λ i k. record { id = i; keys = k } in
    ap (λ i. commit i a.keys) (same_ids a.id b.id parts.0) ∙ ap (λ k. commit b.id k) (same_keys a.keys b.keys parts.1)
