-- A run of an upgrade keeps its promise.
use Rattle.std.proofs.Common.{List, eqb, false, length, subst, ◌&&◌, ◌≡◌}
use Rattle.std.specs.Prelude.{IsTrue}
use Rattle.std.proofs.lemmas.Bool.{and_parts}
use Rattle.aft_model.specs.Honest.{Honest}
use Rattle.aft_model.specs.Opening.{opening}
use Rattle.aft_lines.specs.Asked.{Ran}
use Rattle.aft_lines.specs.Headline.{KeepsPromise}
use Rattle.aft_lines.specs.RefusedTrace.{are_empty}
use Rattle.aft_lines.specs.Turns.{Turn, door_turns, turns}
use Rattle.aft_lines.specs.UpgradeCourse.{shown_commits, upgrade_course}
use Rattle.aft_lines.specs.UpgradeTrace.{UpgradeTrace}
use Rattle.law_kept.specs.Kept.{Lawful}
use Rattle.law_whole.proofs.Promised.{once, whole}
use Rattle.law_refused.specs.Looks.{only_boots}
use Rattle.law_refused.specs.Upgrades.{only_upgrades}
use Rattle.law_refused.proofs.Entries.{OwnDoor, door_own}
use Rattle.law_refused.proofs.Nodes.{atomic, blockers, empty_boots, empty_legal, none_lost, own, recorded}
use Rattle.law_refused.proofs.Turns.{door_alone}
use Rattle.law_refused.proofs.UpgradeTurns.{upgrades_only}
use Rattle.law_refused.proofs.Upgrading.{lawful_upgrades}

module _ (ran : Ran) (trace : UpgradeTrace ran) where
  idle : IsTrue (are_empty ran.trace.nodes) × IsTrue (eqb (length ran.trace.office) 0)
  idle = (let parts = and_parts (are_empty ran.trace.nodes && eqb (length ran.trace.office) 0) (eqb (length ran.mail) 0) trace.others in and_parts (are_empty ran.trace.nodes) (eqb (length ran.trace.office) 0) parts.0)

  pub its_door : OwnDoor ran.trace.door
  its_door = door_own ran trace.no_line

  pub its_turns : turns opening ran.trace ≡ door_turns opening 0 ran.trace.door
  its_turns = door_alone opening ran.trace idle.0 idle.1

  pub its_upgrades : IsTrue (only_upgrades ran.trace.door)
  its_upgrades = upgrades_only false (shown_commits ran.trace.door) ran.trace.door trace.door its_door (subst (λ (l : List Turn). IsTrue (upgrade_course false (shown_commits ran.trace.door) l)) its_turns trace.course)

  its_boots : IsTrue (only_boots ran.trace.nodes)
  its_boots = empty_boots ran.trace.nodes idle.0

  pub lawful : Honest ran.trace.door → Lawful ran.trace.door
  lawful honest = lawful_upgrades ran.trace.door trace.door trace.bytes honest its_upgrades

  pub keeps : KeepsPromise ran.trace
  keeps honest = record {
    atomic_read_sets = atomic ran.trace its_boots;
    recorded_before = recorded ran.trace its_boots;
    own_writes_and_repeats = own ran.trace its_boots;
    one_commit_an_id = once ran.trace (lawful honest);
    whole_commits = whole 1 0 ran.trace (lawful honest) (empty_legal 1 0 ran.trace.door ran.trace.nodes idle.0);
    nothing_found_deleted = none_lost ran.trace its_boots idle.1;
    blockers_named = blockers ran.trace its_boots;
  }
