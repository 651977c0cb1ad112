-- Runs over a store that earlier runs have left: two commits of one key, of which the second supersedes the first.
use Rattle.std.specs.Prelude.{[], ◌∷◌, ◌++◌, map}
use Rattle.aft_keeper.specs.declared.keeper.Pair.{Pair}
use Rattle.aft_histories.specs.Entries.{record_pair}
use Rattle.aft_runs.specs.Lines.{opens_on}
use Rattle.aft_runs.specs.Pinned.{older, newer}
use Rattle.aft_runs.specs.Words.{commit_of, version_pairs}
use Rattle.aft_runs.specs.Works.{Work}

-- the check of a store that has the second alone, and this marker of the first
abbrev pub opens_marked : Pair → Work
opens_marked marker = opens_on (record_pair (commit_of newer) ∷ []) (marker ∷ []) (version_pairs newer)

-- that of a store that has both
abbrev pub opens_both : Work
opens_both = opens_on (map record_pair (commit_of older ∷ commit_of newer ∷ [])) [] (version_pairs older ++ version_pairs newer)
