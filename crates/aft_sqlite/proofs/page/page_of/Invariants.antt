use Rattle.aft_keeper.specs.Contents.{IsPage}
use Rattle.aft_sqlite.proofs.page.page_of.Given as goal

-- what is taken so far is a page
abbrev pub invariant-loop-row : goal.invariant-loop-row
invariant-loop-row l = IsPage l.prefix l.after l.limit l.page.items
