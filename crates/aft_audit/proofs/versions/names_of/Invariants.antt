use Rattle.std.proofs.Common.{◌≡◌, ℕ, List, take}
use Rattle.std.specs.List.{flat_map, list_any}
use Rattle.std.specs.Str.{bytes_eq}
use Rattle.aft_audit.specs.Versions.{AreNamed, is_among_names, names_of}
use Rattle.aft_audit.proofs.versions.names_of.Given as goal

abbrev pub invariant-loop-commit : goal.invariant-loop-commit
invariant-loop-commit l = record {
  named : AreNamed l.names.entries;
  all : (name : List ℕ) → is_among_names name l.names.entries ≡ list_any (bytes_eq name) (flat_map names_of (take l.commit-index l.commits));
}
