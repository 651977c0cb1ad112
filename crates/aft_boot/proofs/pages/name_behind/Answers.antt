use Rattle.std.proofs.Common.{List, ℕ, ap, ◌∙◌}
use Rattle.std.specs.Prelude.{Some}
use Rattle.aft_audit.proofs.Runs.{next_full}
use Rattle.aft_boot.proofs.pages.name_behind.Goals as goal

pub returns-in_ok-clone-in-Some : goal.returns-in_ok-clone-in-Some
returns-in_ok-clone-in-Some c after =
    ap (λ (n : List ℕ). Some n) c.in_ok-clone-in-Some.ensures.cases ∙ next_full after c.args.page.now c.in-Some.pair.now c.if-page-lt64.false c.in-Some.ensures.value
