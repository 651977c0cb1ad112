-- A run in which no line runs keeps its promise.
use Rattle.std.proofs.Common.{List, [], eqb, inl, inr, length, refl, subst, sym, ◌&&◌}
use Rattle.std.specs.Prelude.{IsTrue, is_none}
use Rattle.std.proofs.lemmas.Bool.{and_parts, or_cases}
use Rattle.aft_model.specs.Opening.{opening}
use Rattle.aft_lines.specs.Asked.{Asked, Ran}
use Rattle.aft_lines.specs.Headline.{KeepsPromise}
use Rattle.aft_lines.specs.LegalTrace.{are_legal_nodes, fits_settings}
use Rattle.aft_lines.specs.Lines.{node_numbers}
use Rattle.aft_lines.specs.OpeningCourse.{opening_course, opens_so_far}
use Rattle.aft_lines.specs.RefusedTrace.{RefusedTrace, are_empty, opened_only, was_refused}
use Rattle.aft_lines.specs.Turns.{Turn, turns}
use Rattle.law_kept.specs.Kept.{Lawful}
use Rattle.law_rounds.proofs.Openings.{whole_opening}
use Rattle.law_runs.proofs.Opening.{opening_reads}
use Rattle.law_whole.proofs.Promised.{once, whole}
use Rattle.law_refused.specs.Looks.{only_boots, only_looks}
use Rattle.law_refused.proofs.Entries.{door_own, entries_boot, entries_look, so_far_read}
use Rattle.law_refused.proofs.Looking.{lawful_looks}
use Rattle.law_refused.proofs.Nodes.{atomic, blockers, empty_boots, empty_legal, legal_boots, none_lost, own, recorded}
use Rattle.law_refused.proofs.Scans.{AllRead}
use Rattle.law_refused.proofs.Turns.{door_alone}

-- what is known of such a run, whether its opening was refused or came to its end
pub record Looked (asked : Asked) (ran : Ran) : Type 0 where
  pub door : IsTrue (only_looks ran.trace.door)
  pub nodes : IsTrue (only_boots ran.trace.nodes)
  pub legal : IsTrue (are_legal_nodes 1 asked.settings.cache ran.trace.door ran.trace.nodes)
  pub office : IsTrue (eqb (length ran.trace.office) 0)

module _ (asked : Asked) (ran : Ran) (trace : RefusedTrace asked ran) where
  refused : IsTrue (was_refused asked ran) → Looked asked ran
  refused is =
      let course = and_parts (are_empty ran.trace.nodes && eqb (length ran.trace.nodes) asked.settings.nodes && eqb (length ran.trace.office) 0 && eqb (length ran.mail) 0) (opens_so_far (node_numbers asked.settings) (turns opening ran.trace)) is in
      let mail = and_parts (are_empty ran.trace.nodes && eqb (length ran.trace.nodes) asked.settings.nodes && eqb (length ran.trace.office) 0) (eqb (length ran.mail) 0) course.0 in
      let office = and_parts (are_empty ran.trace.nodes && eqb (length ran.trace.nodes) asked.settings.nodes) (eqb (length ran.trace.office) 0) mail.0 in
      let nodes = and_parts (are_empty ran.trace.nodes) (eqb (length ran.trace.nodes) asked.settings.nodes) office.0 in
      let alone = door_alone opening ran.trace nodes.0 office.1 in
      let read : AllRead (turns opening ran.trace) = subst AllRead (sym alone)
      (so_far_read (node_numbers asked.settings) 0 [] ran.trace.door trace.door (door_own ran trace.no_line) refl (subst (λ (l : List Turn). IsTrue (opens_so_far (node_numbers asked.settings) l)) alone course.1)) in
      record {
        door = entries_look ran trace.no_line read;
        nodes = empty_boots ran.trace.nodes nodes.0;
        legal = empty_legal 1 asked.settings.cache ran.trace.door ran.trace.nodes nodes.0;
        office = office.1;
      }

  opened : IsTrue (opened_only asked ran) → Looked asked ran
  opened is =
      let mail = and_parts (is_none asked.order && fits_settings asked.settings ran && are_legal_nodes 1 asked.settings.cache ran.trace.door ran.trace.nodes && opening_course (node_numbers asked.settings) (turns opening ran.trace) && eqb (length ran.trace.office) 0) (are_empty ran.mail) is in
      let office = and_parts (is_none asked.order && fits_settings asked.settings ran && are_legal_nodes 1 asked.settings.cache ran.trace.door ran.trace.nodes && opening_course (node_numbers asked.settings) (turns opening ran.trace)) (eqb (length ran.trace.office) 0) mail.0 in
      let course = and_parts (is_none asked.order && fits_settings asked.settings ran && are_legal_nodes 1 asked.settings.cache ran.trace.door ran.trace.nodes) (opening_course (node_numbers asked.settings) (turns opening ran.trace)) office.0 in
      let legal = and_parts (is_none asked.order && fits_settings asked.settings ran) (are_legal_nodes 1 asked.settings.cache ran.trace.door ran.trace.nodes) course.0 in
      let read : AllRead (turns opening ran.trace) = opening_reads (node_numbers asked.settings) ran.trace trace.door (whole_opening (node_numbers asked.settings) (turns opening ran.trace) course.1) in
      record {
        door = entries_look ran trace.no_line read;
        nodes = legal_boots 1 asked.settings.cache ran.trace.door ran.trace.nodes legal.1 (entries_boot ran trace.no_line read);
        legal = legal.1;
        office = office.1;
      }

  pub looked : Looked asked ran
  looked = elim (or_cases (was_refused asked ran) (opened_only asked ran) trace.others) [ inl is ↦ refused is | inr is ↦ opened is ]

  pub keeps : KeepsPromise ran.trace
  keeps honest =
      let lawful : Lawful ran.trace.door = lawful_looks ran.trace.door trace.door trace.bytes honest looked.door in
      record {
        atomic_read_sets = atomic ran.trace looked.nodes;
        recorded_before = recorded ran.trace looked.nodes;
        own_writes_and_repeats = own ran.trace looked.nodes;
        one_commit_an_id = once ran.trace lawful;
        whole_commits = whole 1 asked.settings.cache ran.trace lawful looked.legal;
        nothing_found_deleted = none_lost ran.trace looked.nodes looked.office;
        blockers_named = blockers ran.trace looked.nodes;
      }
