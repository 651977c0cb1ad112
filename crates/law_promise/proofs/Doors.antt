-- The door's history of a run, where the store keeps what it acknowledged.
use Rattle.std.proofs.Common.{◌≡◌, List, ◌++◌, subst}
use Rattle.std.specs.Prelude.{IsTrue}
use Rattle.aft_keeper.specs.declared.keeper.Pair.{Pair}
use Rattle.aft_keeper.specs.Contents.{IsContents}
use Rattle.aft_model.specs.declared.door.DoorEntry.{DoorEntry}
use Rattle.aft_model.specs.Contents.{GoesAlong}
use Rattle.aft_model.specs.DoorKnowledge.{is_open}
use Rattle.aft_model.specs.Honest.{Honest}
use Rattle.aft_model.specs.Sound.{Sound}
use Rattle.aft_model.proofs.Told.{told_honest}
use Rattle.aft_lines.specs.Asked.{Asked, Ran}
use Rattle.aft_lines.specs.Headline.{commits_once, whole_until_superseded}
use Rattle.aft_lines.specs.KeepsIds.{KeepsIds}
use Rattle.law_kept.specs.Kept.{Lawful}
use Rattle.law_kept.proofs.Always.{lawful_begins}
use Rattle.law_runs.specs.Runs.{Goes}
use Rattle.law_runs.proofs.InStages.{stages_kept}
use Rattle.law_runs.proofs.Retires.{retired_unheld}
use Rattle.law_whole.proofs.Promised as promised
use Rattle.law_contents.proofs.Sound.{keeps_ids_along, sound_now}

module _ (asked : Asked) (ran : Ran) (goes : Goes asked ran) (honest : Honest ran.trace.door) where
  pub lawful_door : Lawful ran.trace.door
  lawful_door = record { legal = goes.door; honest = honest; made = goes.bytes; stages = stages_kept asked ran goes; retires = retired_unheld asked ran goes }

  pub once : IsTrue (commits_once ran.trace)
  once = promised.once ran.trace lawful_door

  pub whole : IsTrue (whole_until_superseded ran.trace)
  whole = promised.whole 1 asked.settings.cache ran.trace lawful_door goes.nodes

-- where the store tells its contents
module _ (asked : Asked) (ran : Ran) (goes : Goes asked ran) (at_first : List Pair) (contents : IsContents at_first) where
  pub sound : (now held : List Pair) (front back : List DoorEntry) → GoesAlong at_first ran.trace.door held → ran.trace.door ≡ front ++ back → IsTrue (is_open front) → GoesAlong at_first front now → Sound now
  sound now held front back along is opened along_front =
      let honest : Honest ran.trace.door = told_honest at_first ran.trace.door held contents along in
      sound_now at_first now front contents along_front (lawful_begins front back (subst Lawful is (lawful_door asked ran goes honest))) opened

  pub closed : Honest ran.trace.door → KeepsIds at_first ran.trace.door
  closed honest = keeps_ids_along at_first ran.trace.door contents (lawful_door asked ran goes honest)
