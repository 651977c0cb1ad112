-- What each moment of a run keeps of owners and releases.
use Rattle.std.proofs.Common.{◌≡◌, List, [], ◌++◌, subst}
use Rattle.aft_lines.specs.Asked.{Asked, Ran}
use Rattle.aft_lines.specs.Steps.{Made}
use Rattle.law_claims.specs.Moments.{MayCome, scene_of}
use Rattle.law_claims.proofs.Moments.{moments_keep}
use Rattle.law_runs.specs.Runs.{Goes, asking_of, run_steps}
use Rattle.law_runs.proofs.Come.{come}
use Rattle.law_held.specs.Owning.{Owns}
use Rattle.law_held.proofs.Claims.{owns_at_first, steps_own}

pub owned_behind : (asked : Asked) (ran : Ran) → Goes asked ran → (before rest : List Made) → run_steps ran ≡ before ++ rest → Owns (scene_of (asking_of asked ran) before)
owned_behind asked ran so before rest is =
    steps_own (asking_of asked ran) asked.settings.cache [] before rest (subst (MayCome (asking_of asked ran) asked.settings.cache []) is (come asked ran so))
    (moments_keep (asking_of asked ran) asked.settings.cache [] [] tt) (owns_at_first (asking_of asked ran))
