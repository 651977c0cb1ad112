use Rattle.std.proofs.Common.{◌≡◌, drop}
use Rattle.aft_meta.specs.KnownCommits.{keys_at}
use Rattle.aft_meta.proofs.plain_meta.keys_at.Given as goal

-- what is left has the id where all commits do
abbrev pub invariant-loop-c : goal.invariant-loop-c
invariant-loop-c l = keys_at l.id (drop l.c-index l.commits) ≡ keys_at l.id l.commits
