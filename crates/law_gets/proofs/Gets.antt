-- The parts of the promise on gets, of runs so far and of legal traces.
use Rattle.std.specs.Prelude.{IsTrue}
use Rattle.aft_model.specs.Honest.{Honest}
use Rattle.aft_lines.specs.Asked.{Asked, Ran}
use Rattle.aft_lines.specs.Headline.{names_blockers, reads_atomic_sets}
use Rattle.law_boots.specs.Gets.{answers_own, reads_recorded_ids, repeats_versions}
use Rattle.law_boots.proofs.Promised as nodes
use Rattle.law_held.proofs.OpenFetches.{fetches_are_open}
use Rattle.law_promise.proofs.Doors.{lawful_door}
use Rattle.law_runs.specs.Runs.{Goes}

module _ (asked : Asked) (ran : Ran) (goes : Goes asked ran) where
  pub atomic : Honest ran.trace.door → IsTrue (reads_atomic_sets ran.trace)
  atomic honest = nodes.atomic_sets 1 asked.settings.cache ran.trace goes.nodes (lawful_door asked ran goes honest)

  pub recorded : IsTrue (reads_recorded_ids ran.trace)
  recorded = nodes.recorded_ids 1 asked.settings.cache ran.trace goes.nodes

  pub own : IsTrue (answers_own ran.trace)
  own = nodes.own_puts 1 asked.settings.cache ran.trace goes.nodes

  pub repeated : IsTrue (repeats_versions ran.trace)
  repeated = nodes.repeated 1 asked.settings.cache ran.trace goes.nodes goes.bytes (fetches_are_open asked ran goes)

  pub blockers : IsTrue (names_blockers ran.trace)
  blockers = nodes.blockers 1 asked.settings.cache ran.trace goes.nodes goes.bytes
