-- The parts of a legal trace, by name, so that a run that isn't legal shows which of them it breaks.
use Rattle.std.specs.Prelude.{◌≡◌, Bool, not, List, [], ◌∷◌, filter}
use Rattle.std.specs.List.{list_all}
use Rattle.aft_lines.specs.Asked.{Asked, Ran}
use Rattle.aft_model.specs.Bytes.{has_bytes}
use Rattle.aft_model.specs.Boxes.{is_legal_box}
use Rattle.aft_model.specs.LegalDoor.{is_legal}
use Rattle.aft_lines.specs.LegalTrace.{fits_settings, are_legal_nodes, opens_as_asked, keep_courses, keep_mail, answered_once, carry_words, stand_at_nodes, speak_of_held, read_clock, clients_in_order, ran_as_ordered, give_ups_backed, asked_last}
use Rattle.aft_lines.specs.Lines.{whole_order}
use Rattle.aft_model.specs.Office.{is_legal_office}
use Rattle.aft_lines.specs.Views.{have_causes}
use Rattle.aft_runs.specs.Works.{Run}

-- the parts, named as a legal trace names them
pub data Part : Type 0 where
  Settings : Part
  Bytes : Part
  Door : Part
  Nodes : Part
  Office : Part
  Boxes : Part
  Opening : Part
  Courses : Part
  Posts : Part
  Answers : Part
  Words : Part
  Places : Part
  Attempts : Part
  Clock : Part
  Clients : Part
  WholeLines : Part
  AsksLast : Part
  GiveUps : Part
  Causes : Part

-- whether a part holds of what a run was asked, and of what came of it
abbrev pub holds : Part → Asked → Ran → Bool
holds Settings asked ran = fits_settings asked.settings ran
holds Bytes asked ran = has_bytes ran.trace.door
holds Door asked ran = is_legal ran.trace.door
holds Nodes asked ran = are_legal_nodes 1 asked.settings.cache ran.trace.door ran.trace.nodes
holds Office asked ran = is_legal_office ran.trace.door ran.trace.office
holds Boxes asked ran = list_all (is_legal_box asked.settings.mailbox) ran.mail
holds Opening asked ran = opens_as_asked asked ran
holds Courses asked ran = keep_courses asked ran
holds Posts asked ran = keep_mail asked ran
holds Answers asked ran = answered_once asked ran
holds Words asked ran = carry_words asked ran
holds Places asked ran = stand_at_nodes asked ran
holds Attempts asked ran = speak_of_held asked ran
holds Clock asked ran = read_clock asked ran
holds Clients asked ran = clients_in_order ran
holds WholeLines asked ran = ran_as_ordered ran (whole_order asked)
holds AsksLast asked ran = asked_last asked ran
holds GiveUps asked ran = give_ups_backed ran.trace
holds Causes asked ran = have_causes asked ran

-- all of them
abbrev pub parts : List Part
parts =
    Settings ∷ Bytes ∷ Door ∷ Nodes ∷ Office ∷ Boxes ∷ Opening ∷ Courses ∷ Posts ∷ Answers ∷ Words ∷ Places ∷ Attempts ∷ Clock ∷ Clients ∷ WholeLines
    ∷ AsksLast ∷ GiveUps ∷ Causes ∷ []

-- those that a run breaks, in this order
abbrev pub broken : Run → List Part
broken run = filter (λ part. not (holds part run.asked run.ran)) parts

-- a run that these parts refuse, and no others
abbrev pub RefusedBy : List Part → Run → Type 0
RefusedBy refusing run = broken run ≡ refusing
