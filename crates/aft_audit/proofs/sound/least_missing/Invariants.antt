use Rattle.std.proofs.Common.{◌≡◌, ℕ, List, take, not}
use Rattle.std.specs.Prelude.{filter, map}
use Rattle.std.specs.List.{fold, list_any}
use Rattle.aft_model.specs.Readings.{is_version_at, version_name}
use Rattle.aft_model.specs.Sound.{lesser}
use Rattle.aft_audit.proofs.sound.least_missing.Given as goal

abbrev pub invariant-loop-key : goal.invariant-loop-key
invariant-loop-key l =
    l.least ≡ fold lesser l.initial.least (map (λ (key : List ℕ). version_name key l.commit.id) (filter (λ (key : List ℕ). not (list_any (is_version_at key l.commit.id) l.pairs)) (take l.key-index l.keys)))
