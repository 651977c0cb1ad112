-- A page with one pair more.
use Rattle.std.proofs.Common.{ℕ, suc, ◌-◌, ◌++◌, ◌≡◌, ◌<◌, subst, List, [], ◌∷◌, length, IsTrue, arith}
use Rattle.std.specs.Prelude.{slice_get, nat_eq}
use Rattle.std.specs.List.{starts_with}
use Rattle.std.proofs.lemmas.Bool.{and_from}
use Rattle.std.proofs.lemmas.List.{length-append}
use Rattle.std.proofs.lemmas.List.Elements.{All-push}
use Rattle.aft_keeper.specs.Contents.{name_lt, is_scanned, Ascends, IsPage}
use Rattle.aft_keeper.specs.declared.keeper.Pair.{Pair}
use Rattle.aft_sqlite.specs.Past.{is_past}

-- a name above the last one ascends behind it
Ascends-push : (page : List Pair) (p : Pair) → Ascends page → IsTrue (is_past p.name (slice_get page (length page - 1))) → Ascends (page ++ p ∷ [])
Ascends-push [] p up past = tt
Ascends-push (q ∷ []) p up past = (past, tt)
Ascends-push (q ∷ r ∷ page) p up past =
    let at : length (q ∷ r ∷ page) - 1 ≡ suc (length (r ∷ page) - 1) = omega arith in
    let P : ℕ → Type 0 = λ i. IsTrue (is_past p.name (slice_get (q ∷ r ∷ page) i)) in
    (up.0, Ascends-push (r ∷ page) p up.1 (subst P at past))

-- a page with a pair that a scan may show behind it
pub page_grows : (prefix after : List ℕ) (limit : ℕ) (page : List Pair) (p : Pair) → IsPage prefix after limit page → IsTrue (starts_with nat_eq p.name prefix) → IsTrue (name_lt after p.name) → IsTrue (is_past p.name (slice_get page (length page - 1))) → length page < limit → IsPage prefix after limit (page ++ p ∷ [])
page_grows prefix after limit page p is begins above past room = record {
  scanned = All-push (λ (q : Pair). IsTrue (is_scanned prefix after q.name)) page p is.scanned (and_from _ _ begins above);
  ascends = Ascends-push page p is.ascends past;
  few = let n = length-append page (p ∷ []) in omega arith;
}
