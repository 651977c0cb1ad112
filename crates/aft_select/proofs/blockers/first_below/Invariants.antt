use Rattle.std.proofs.Common.{◌≡◌, drop}
use Rattle.aft_model.specs.Choice.{first_below}
use Rattle.aft_select.proofs.blockers.first_below.Given as goal

-- what is left is blocked as all keys are
abbrev pub invariant-loop-key : goal.invariant-loop-key
invariant-loop-key l = first_below l.id l.reads (drop l.key-index l.keys) ≡ first_below l.id l.reads l.keys
