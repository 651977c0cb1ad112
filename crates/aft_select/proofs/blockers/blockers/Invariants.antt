use Rattle.std.proofs.Common.{◌≡◌, ◌++◌, drop}
use Rattle.std.specs.List.{flat_map}
use Rattle.aft_select.specs.Choosing.{blocked_at}
use Rattle.aft_select.proofs.blockers.blockers.Given as goal

-- what was found, and what blocks the others
abbrev pub invariant-loop-id : goal.invariant-loop-id
invariant-loop-id g l = l.found.items ++ flat_map (λ id. blocked_at id l.reads (g.M.CommitSet.known l.meta)) (drop l.id-index l.versions) ≡ flat_map (λ id. blocked_at id l.reads (g.M.CommitSet.known l.meta)) l.versions
