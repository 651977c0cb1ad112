-- What a pick makes of the cache.
use Rattle.std.specs.Prelude.{List, ℕ}
use Rattle.aft_cache.specs.Values.{with_used}
use Rattle.aft_records.specs.Kept.{Kept}
use Rattle.aft_model.specs.declared.choice.Picked.{Picked}
use Rattle.aft_model.specs.declared.choice.Picked.TheVariants as picked

-- kept values after a get: one that is used again comes to the front
abbrev pub used : ℕ → List ℕ → Picked → List Kept → List Kept
used capacity key (picked.Cached id value) kept = with_used capacity key id kept
used capacity key pick kept = kept
