use Rattle.std.proofs.Common.{ℕ, ◌≡◌, ◌-◌, ◌<◌, refl, sym, subst, length, List, IsTrue, arith}
use Rattle.std.specs.Prelude.{slice_get, nat_eq}
use Rattle.std.specs.List.{starts_with}
use Rattle.aft_keeper.specs.Contents.{IsPage, name_lt}
use Rattle.aft_keeper.specs.declared.keeper.Pair.{Pair}
use Rattle.aft_sqlite.specs.Past.{is_past}
use Rattle.aft_sqlite.proofs.Pages.{page_grows}
use Rattle.aft_sqlite.proofs.page.page_of.Goals as goal

-- the name of the new pair is the one that was tested
pub loop-row-preserved : goal.loop-row-preserved
loop-row-preserved c =
    let page = c.loop-row.page.items in
    let same : c.as_str-shown.result.now ≡ c.from_string.result = grind (arith, c.from_string.ensures, c.as_str-shown.ensures.value) in
    let may = c.if-not-may_follow.ensures in
    let Begins : List ℕ → Type 0 = λ name. IsTrue (starts_with nat_eq name c.args.prefix.now) in
    let Above : List ℕ → Type 0 = λ name. IsTrue (name_lt c.args.after.now name) in
    let Past : List ℕ → Type 0 = λ name. IsTrue (is_past name (slice_get page (length page - 1))) in
    let held : c.deref.result.now ≡ page = c.deref.ensures.value in
    let Shown : List Pair → Type 0 = λ pairs. IsTrue (is_past c.as_str-shown.result.now (slice_get pairs (length pairs - 1))) in
    let Room : List Pair → Type 0 = λ pairs. length pairs < c.args.limit in
    let P : List Pair → Type 0 = IsPage c.args.prefix.now c.args.after.now c.args.limit in
    subst P (sym c.in_ok-push.ensures.items)
    (page_grows c.args.prefix.now c.args.after.now c.args.limit page _ c.loop-row.invariant
    (subst Begins same (grind (arith, c.if-not-begins.false, c.if-not-begins.ensures))) (subst Above same (may.above refl))
    (subst Past same (subst Shown held (may.past refl))) (subst Room held (may.room refl)))
