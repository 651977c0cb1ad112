-- Picks and attempts that are the same are equal.
use Rattle.std.proofs.Common.{◌≡◌, ℕ, eqb, ◌&&◌, List, [], ◌∷◌, refl, ap, ◌∙◌}
use Rattle.std.specs.Prelude.{IsTrue}
use Rattle.std.specs.Cmp.Lexicographic.{pointwise}
use Rattle.std.specs.Str.{bytes_eq}
use Rattle.std.proofs.lemmas.Bool.{and_parts, eqb-true, false≢true}
use Rattle.aft_id.specs.declared.txn_id.TxnId.{TxnId}
use Rattle.aft_id.specs.TxnId.{same_id}
use Rattle.aft_model.specs.declared.caller.Attempt.{Attempt}
use Rattle.aft_model.specs.declared.choice.Blocked.{Blocked}
use Rattle.aft_model.specs.declared.choice.Picked.{Picked}
use Rattle.aft_model.specs.declared.choice.Picked.TheVariants.{Absent, Cached, Fetch, NoneFits, Own}
use Rattle.aft_model.specs.Attempts.{same_attempt}
use Rattle.aft_model.specs.NodeRules.{same_picked}
use Rattle.aft_model.specs.Replies.{same_blocked}
use Rattle.aft_model.proofs.Ids.{same_ids}
use Rattle.aft_model.proofs.Sights.{same_bytes}

blocked_is : (a b : Blocked) → IsTrue (same_blocked a b) → a ≡ b
blocked_is a b is =
    let parts = and_parts (same_id a.id b.id && bytes_eq a.key b.key) (same_id a.read b.read) is in
    let rest = and_parts (same_id a.id b.id) (bytes_eq a.key b.key) parts.0 in
    let blocked : TxnId → List ℕ → TxnId → Blocked = λ id key read. record { id = id; key = key; read = read } in
    ap (λ (i : TxnId). blocked i a.key a.read) (same_ids a.id b.id rest.0) ∙ ap (λ (k : List ℕ). blocked b.id k a.read) (same_bytes a.key b.key rest.1) ∙ ap (λ (r : TxnId). blocked b.id b.key r) (same_ids a.read b.read parts.1)

blockers_are : (a b : List Blocked) → IsTrue (pointwise same_blocked a b) → a ≡ b
blockers_are [] [] is = refl
blockers_are [] (y ∷ b) is = absurd (false≢true is)
blockers_are (x ∷ a) [] is = absurd (false≢true is)
blockers_are (x ∷ a) (y ∷ b) is =
    let parts = and_parts (same_blocked x y) (pointwise same_blocked a b) is in
    ap (λ (z : Blocked). z ∷ a) (blocked_is x y parts.0) ∙ ap (λ (zs : List Blocked). y ∷ zs) (blockers_are a b parts.1)

pub picked_is : (a b : Picked) → IsTrue (same_picked a b) → a ≡ b
picked_is (Own value) (Own value') is = ap Own (same_bytes value value' is)
picked_is (Cached id value) (Cached id' value') is =
    let parts = and_parts (same_id id id') (bytes_eq value value') is in
    ap (λ (i : TxnId). Cached i value) (same_ids id id' parts.0) ∙ ap (λ (v : List ℕ). Cached id' v) (same_bytes value value' parts.1)
picked_is (Fetch id) (Fetch id') is = ap Fetch (same_ids id id' is)
picked_is Absent Absent is = refl
picked_is (NoneFits blocked) (NoneFits blocked') is = ap NoneFits (blockers_are blocked blocked' is)
picked_is a b is = absurd (false≢true is)

pub attempt_is : (a b : Attempt) → IsTrue (same_attempt a b) → a ≡ b
attempt_is a b is =
    let parts = and_parts (eqb a.node b.node && eqb a.inc b.inc) (eqb a.number b.number) is in
    let rest = and_parts (eqb a.node b.node) (eqb a.inc b.inc) parts.0 in
    let attempt : ℕ → ℕ → ℕ → Attempt = λ node inc number. record { node = node; inc = inc; number = number } in
    ap (λ (n : ℕ). attempt n a.inc a.number) (eqb-true a.node b.node rest.0) ∙ ap (λ (i : ℕ). attempt b.node i a.number) (eqb-true a.inc b.inc rest.1) ∙ ap (λ (m : ℕ). attempt b.node b.inc m) (eqb-true a.number b.number parts.1)
