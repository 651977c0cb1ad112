use Rattle.std.proofs.Common.{take}
use Rattle.std.specs.Prelude.{IsTrue}
use Rattle.std.specs.List.{list_all}
use Rattle.aft_audit.specs.Newest.{is_newer}
use Rattle.aft_audit.proofs.newest.supersedes.Given as goal

abbrev pub invariant-loop-key : goal.invariant-loop-key
invariant-loop-key l = IsTrue (list_all (λ key. is_newer key l.commit.id l.newest.entries) (take l.key-index l.keys))
