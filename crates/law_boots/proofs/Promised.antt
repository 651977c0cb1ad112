-- The parts of the promise that legal nodes keep beside the door, of a trace.
use Rattle.std.proofs.Common.{ℕ, [], ◌∷◌, ◌++◌, take}
use Rattle.std.specs.Prelude.{IsTrue}
use Rattle.aft_model.specs.declared.trace.Trace.{Trace}
use Rattle.aft_model.specs.Bytes.{HasBytes}
use Rattle.aft_model.specs.Committed.{committed}
use Rattle.aft_lines.specs.Headline.{all_read_whole, names_blockers, names_blockers_in, reads_atomic_sets}
use Rattle.aft_lines.specs.Holding.{FetchesStayOpen}
use Rattle.aft_lines.specs.LegalTrace.{are_legal_nodes}
use Rattle.law_kept.specs.Kept.{Lawful}
use Rattle.law_boots.specs.Gets.{answers_own, answers_own_in, reads_recorded_ids, reads_recorded_ids_in, repeats_versions}
use Rattle.law_boots.proofs.Again.{again_each}
use Rattle.law_boots.proofs.Atomic.{read_whole}
use Rattle.law_boots.proofs.Blocks.{names}
use Rattle.law_boots.proofs.Nodes.{each_node}
use Rattle.law_boots.proofs.Own.{own}
use Rattle.law_boots.proofs.Picks.{recorded}

module _ (first capacity : ℕ) (trace : Trace) (legal : IsTrue (are_legal_nodes first capacity trace.door trace.nodes)) where
  pub atomic_sets : Lawful trace.door → IsTrue (reads_atomic_sets trace)
  atomic_sets lawful =
      each_node capacity trace.door (λ before entry. all_read_whole (committed trace.door) (before ++ entry ∷ [])) (λ node history entry beside. read_whole node capacity trace.door lawful history entry beside) first trace.nodes legal

  pub recorded_ids : IsTrue (reads_recorded_ids trace)
  recorded_ids =
      each_node capacity trace.door (λ before entry. reads_recorded_ids_in (take entry.front trace.door) entry.act) (λ node history entry beside. recorded node capacity trace.door history entry beside) first trace.nodes legal

  pub own_puts : IsTrue (answers_own trace)
  own_puts =
      each_node capacity trace.door (λ before entry. answers_own_in before entry.act entry.answer) (λ node history entry beside. own node capacity trace.door history entry beside) first trace.nodes legal

  pub blockers : HasBytes trace.door → IsTrue (names_blockers trace)
  blockers made =
      each_node capacity trace.door (λ before entry. names_blockers_in before entry.act entry.answer) (λ node history entry beside. names node capacity trace.door made history entry beside) first trace.nodes legal

  pub repeated : HasBytes trace.door → FetchesStayOpen trace → IsTrue (repeats_versions trace)
  repeated made opens = again_each capacity trace.door made first trace.nodes legal opens
