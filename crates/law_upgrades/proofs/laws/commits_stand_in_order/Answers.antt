use Rattle.std.proofs.Common.{[], ap, append-nil, sym, ◌∙◌}
use Rattle.aft_lines.specs.UpgradeCourse.{shown_commits}
use Rattle.law_upgrades.proofs.Shown.{shown_commits_are}
use Rattle.law_upgrades.proofs.laws.commits_stand_in_order.Goals as goal

pub returns-clause-opened : goal.returns-clause-opened
returns-clause-opened c commits opened audit legal has_bytes = ap shown_commits (sym (append-nil opened)) ∙ shown_commits_are commits opened audit [] legal has_bytes

pub returns-clause-behind : goal.returns-clause-behind
returns-clause-behind c commits opened more audit legal has_bytes = shown_commits_are commits opened audit more legal has_bytes
