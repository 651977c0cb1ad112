use Rattle.std.proofs.Common.{List, ℕ, subst, sym, ◌∙◌, ◌≡◌}
use Rattle.std.specs.Prelude.{Ok}
use Rattle.aft_records.specs.Reading.{commit_of}
use Rattle.aft_commit.proofs.Asking.{finds_it}
use Rattle.aft_commit.proofs.calls.shown.Goals as goal

pub returns-in-Ok-clause-shown : goal.returns-in-Ok-clause-shown
returns-in-Ok-clause-shown c = finds_it c.args.commit.now c.in-Ok.found c.args.bytes.now (subst (λ (bs : List ℕ). commit_of bs ≡ Ok c.in-Ok.found) c.as_slice.ensures c.in-Ok.ensures.exact) (sym c.is_same.ensures ∙ c.if-is_same.true)
