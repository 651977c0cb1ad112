-- What a finished upgrade leaves, and what contents that go along with refused runs and upgrades are.
use Rattle.std.proofs.Common.{List, [], ◌++◌, ◌≡◌, refl, subst, sym, true}
use Rattle.std.specs.Prelude.{IsTrue}
use Rattle.std.proofs.lemmas.Bool.{and_from}
use Rattle.aft_keeper.specs.declared.keeper.Pair.{Pair}
use Rattle.aft_keeper.specs.Contents.{IsContents}
use Rattle.aft_records.specs.declared.stored.Commit.{Commit}
use Rattle.aft_model.specs.declared.door.DoorEntry.{DoorEntry}
use Rattle.aft_model.specs.Contents.{GoesAlong}
use Rattle.aft_model.specs.DoorKnowledge.{is_open}
use Rattle.aft_model.specs.Honest.{Honest}
use Rattle.aft_model.specs.MayHold.{MayHold, may_hold}
use Rattle.aft_model.specs.Readings.{record_name}
use Rattle.aft_model.specs.Sound.{Sound}
use Rattle.aft_model.specs.Whole.{Whole, is_whole, surely_one}
use Rattle.aft_model.proofs.Histories.{In}
use Rattle.aft_model.proofs.Lists.{all_from}
use Rattle.aft_model.proofs.Told.{told_honest}
use Rattle.aft_lines.specs.Asked.{Asked, Ran}
use Rattle.aft_lines.specs.KeepsIds.{KeepsIds}
use Rattle.aft_lines.specs.RefusedTrace.{RefusedTrace}
use Rattle.aft_lines.specs.Turns.{Turn}
use Rattle.aft_lines.specs.UpgradeCourse.{shown_commits, upgrade_course}
use Rattle.aft_lines.specs.UpgradeTrace.{IsFinishedUpgrade, LeavesUpgraded, UpgradeTrace, is_second_format_of, is_upgraded}
use Rattle.law_contents.proofs.Sound.{keeps_ids_along, sound_now}
use Rattle.law_kept.specs.Kept.{Lawful}
use Rattle.law_kept.proofs.Always.{lawful_begins}
use Rattle.law_kept.proofs.Gives.{committed_among}
use Rattle.law_whole.proofs.There.{there_whole}
use Rattle.law_whole.proofs.Throughout.{its_uuid, kept_open}
use Rattle.law_refused.proofs.Looking.{lawful_looks}
use Rattle.law_refused.proofs.Refused.{looked}
use Rattle.law_refused.proofs.Upgrade.{its_door, its_turns, its_upgrades, lawful}
use Rattle.law_refused.proofs.Upgraded.{Sure}
use Rattle.law_refused.proofs.Upgrading.{upgrades_delete_none}
use Rattle.law_refused.proofs.Walk.{open_walk}

module _ (ran : Ran) (trace : UpgradeTrace ran) (ended : IsFinishedUpgrade ran) (honest : Honest ran.trace.door) where
  walked : IsTrue (is_open ran.trace.door) × ((c : Commit) → In c (shown_commits ran.trace.door) → Sure c ran.trace.door)
  walked = open_walk (shown_commits ran.trace.door) 0 [] ran.trace.door honest (its_door ran trace) (subst (λ (l : List Turn). IsTrue (upgrade_course true (shown_commits ran.trace.door) l)) (its_turns ran trace) ended)

  sure_whole : (c : Commit) → Sure c ran.trace.door → Whole c ran.trace.door
  sure_whole c sure =
      let among = committed_among c ran.trace.door sure.committed in
      let kept = kept_open c.id.uuid (its_uuid ran.trace.door (lawful ran trace honest) c among) ran.trace.door walked.0 (lawful ran trace honest) in
      there_whole c ran.trace.door kept (among, refl) (kept.undeleted c (among, refl) (upgrades_delete_none ran.trace.door (its_upgrades ran trace)))

  pub leaves : LeavesUpgraded ran
  leaves = all_from (is_upgraded ran.trace.door) (shown_commits ran.trace.door) (λ c among.
      let sure = walked.1 c among in
      and_from (is_whole c ran.trace.door) (surely_one (is_second_format_of c) (may_hold (record_name c.id.uuid) ran.trace.door)) (sure_whole c sure)
      (subst (λ (m : MayHold). IsTrue (surely_one (is_second_format_of c) m)) (sym sure.only) (and_from _ _ sure.second refl)))

-- contents that go along with a lawful history are sound once its door is open
sound_along : (door front back : List DoorEntry) (at_first now : List Pair) → Lawful door → IsContents at_first → door ≡ front ++ back → IsTrue (is_open front) → GoesAlong at_first front now → Sound now
sound_along door front back at_first now its contents is opened along = sound_now at_first now front contents along (lawful_begins front back (subst Lawful is its)) opened

pub refused_sound : (asked : Asked) (ran : Ran) (at_first now held : List Pair) (front back : List DoorEntry) → RefusedTrace asked ran → IsContents at_first → GoesAlong at_first ran.trace.door held → ran.trace.door ≡ front ++ back → IsTrue (is_open front) → GoesAlong at_first front now → Sound now
refused_sound asked ran at_first now held front back trace contents along is opened along_front =
    sound_along ran.trace.door front back at_first now (lawful_looks ran.trace.door trace.door trace.bytes (told_honest at_first ran.trace.door held contents along) (looked asked ran trace).door) contents is opened along_front

pub upgrade_sound : (ran : Ran) (at_first now held : List Pair) (front back : List DoorEntry) → UpgradeTrace ran → IsContents at_first → GoesAlong at_first ran.trace.door held → ran.trace.door ≡ front ++ back → IsTrue (is_open front) → GoesAlong at_first front now → Sound now
upgrade_sound ran at_first now held front back trace contents along is opened along_front =
    sound_along ran.trace.door front back at_first now (lawful ran trace (told_honest at_first ran.trace.door held contents along)) contents is opened along_front

-- and behind each entry they keep each used UUID that isn't forgotten
pub refused_closed : (asked : Asked) (ran : Ran) (at_first : List Pair) → RefusedTrace asked ran → Honest ran.trace.door → IsContents at_first → KeepsIds at_first ran.trace.door
refused_closed asked ran at_first trace honest contents = keeps_ids_along at_first ran.trace.door contents (lawful_looks ran.trace.door trace.door trace.bytes honest (looked asked ran trace).door)

pub upgrade_closed : (ran : Ran) (at_first : List Pair) → UpgradeTrace ran → Honest ran.trace.door → IsContents at_first → KeepsIds at_first ran.trace.door
upgrade_closed ran at_first trace honest contents = keeps_ids_along at_first ran.trace.door contents (lawful ran trace honest)
