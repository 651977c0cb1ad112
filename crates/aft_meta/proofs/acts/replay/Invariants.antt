use Rattle.std.proofs.Common.{◌≡◌, ◌++◌, take, drop}
use Rattle.aft_meta.specs.Acts.{answers, replayed}
use Rattle.aft_meta.proofs.acts.replay.Given as goal

-- what the acts so far left and answered, and what the others will answer
abbrev pub invariant-loop-act : goal.invariant-loop-act
invariant-loop-act g l =
    (l.told.items ++ answers (g.M.CommitSet.known l.set) (drop l.act-index l.acts) ≡ answers (g.M.CommitSet.known l.fn.set) l.acts)
    × (g.M.CommitSet.known l.set ≡ replayed (g.M.CommitSet.known l.fn.set) (take l.act-index l.acts))
