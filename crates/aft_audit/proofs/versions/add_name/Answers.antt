use Rattle.std.proofs.Common.{List, ℕ, ap, ◌∙◌, ◌||◌}
use Rattle.std.specs.Str.{bytes_eq}
use Rattle.aft_audit.specs.Versions.{is_among_names}
use Rattle.aft_audit.proofs.Gets.{name_added, named_added}
use Rattle.aft_audit.proofs.versions.add_name.Goals as goal

pub returns-clause-named : goal.returns-clause-named
returns-clause-named c =
    rw c.in_ok-insert.ensures.entries (named_added c.args.names.now.entries c.into_string.result c.args.name (c.into_string.ensures ∙ c.in_ok-text.ensures) c.requires)

pub returns-clause-all : goal.returns-clause-all
returns-clause-all c other =
    rw c.in_ok-insert.ensures.entries (name_added c.args.names.now.entries c.into_string.result c.args.name other
    ∙ ap (λ (n : List ℕ). is_among_names other c.args.names.now.entries || bytes_eq other n) (c.into_string.ensures ∙ c.in_ok-text.ensures))
