use Rattle.std.proofs.Common.{◌≡◌, ℕ, ◌||◌, List, map, take}
use Rattle.std.specs.List.{list_any}
use Rattle.std.specs.Str.{bytes_eq}
use Rattle.aft_model.specs.Readings.{version_name}
use Rattle.aft_audit.specs.Versions.{AreNamed, is_among_names}
use Rattle.aft_audit.proofs.versions.add_names.Given as goal

abbrev pub invariant-loop-key : goal.invariant-loop-key
invariant-loop-key l = record {
  named : AreNamed l.names.entries;
  all : (name : List ℕ) → is_among_names name l.names.entries ≡ (is_among_names name l.initial.names.entries || list_any (bytes_eq name) (map (λ key. version_name key l.commit.id) (take l.key-index l.keys)));
}
