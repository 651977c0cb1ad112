-- What a round of the manager is answered: its counts, or why its scan run wasn't whole.
use Rattle.std.proofs.Common.{◌≡◌, ◌++◌, ℕ, Bool, false, eqb, ◌&&◌, List, [], ◌∷◌, length, refl, ap, subst, ◌∙◌, inl, inr, arith}
use Rattle.std.specs.Prelude.{IsTrue, Option, Some, None}
use Rattle.std.specs.List.{flat_map, list_any}
use Rattle.std.proofs.lemmas.Bool.{and_parts, eqb-true, false≢true, or_cases, or_left}
use Rattle.std.proofs.lemmas.List.Concat.{flat_map-append}
use Rattle.aft_model.specs.declared.caller.By.{By}
use Rattle.aft_model.specs.declared.office.OfficeAct.{OfficeAct}
use Rattle.aft_model.specs.declared.office.OfficeAct.TheVariants.{Nothing, Posted, Round}
use Rattle.aft_model.specs.declared.reply.Reply.{Reply}
use Rattle.aft_model.specs.declared.reply.Reply.TheVariants.{Committing, Damaged, Managed, NoMemory, StoreFault, TooManyRecords}
use Rattle.aft_model.specs.declared.script.Command.TheVariants.{Manager}
use Rattle.aft_model.specs.History.{first_of}
use Rattle.aft_model.specs.Membership.{the_office}
use Rattle.aft_model.specs.Office.{ManagerRound, round_in}
use Rattle.aft_model.specs.Sound.{records_prefix}
use Rattle.aft_lines.specs.Causes.{ExactlyCaused, cause}
use Rattle.aft_lines.specs.CausesRounds.{is_posted, office_act_in, rounds_up}
use Rattle.aft_lines.specs.CollectCourse.{records_scan}
use Rattle.aft_lines.specs.CourseWords.{ends_at_office, is_over, office_answers}
use Rattle.aft_lines.specs.LineCourse.{ends_round, manager_course, round_after, round_course}
use Rattle.aft_lines.specs.LineView.{LineView, found_service}
use Rattle.aft_lines.specs.ScanCourse.{Scanned, names_limit}
use Rattle.aft_lines.specs.Turns.{AtDoor, AtNode, AtOffice, Turn}
use Rattle.law_answers.specs.Courses.{keeps_its_course}
use Rattle.law_answers.proofs.Faults.{damage_told, failed_so, many_told, otherwise_told, told_faults}
use Rattle.law_answers.proofs.Scans.{Fair, Run, damaged, entries, fails, many, records_fair, run_of}
use Rattle.law_answers.proofs.Served.{never_served}
use Rattle.law_answers.proofs.Settled.{Settles, by_turns, with_turns}

-- what turns did at the office
abbrev acts : List Turn → List OfficeAct
acts line = flat_map office_act_in line

-- what the first turn behind the scan run counts
abbrev told_of : OfficeAct → Option Reply
told_of (Round heard missed) = Some (Managed (length heard) (length missed))
told_of act = None

abbrev told_behind : List Turn → Option Reply
told_behind (AtOffice before entry ∷ line) = told_of entry.act
told_behind line = None

-- behind the scan run nothing is done at the door
quiet : (by : By) (whole : Bool) (behind : List Turn) → IsTrue (round_course whole behind) → entries by behind ≡ []
quiet by whole [] follows = absurd (false≢true follows)
quiet by whole (AtDoor place act ∷ line) follows = absurd (false≢true follows)
quiet by whole (AtNode node before entry ∷ line) follows = absurd (false≢true follows)
quiet by whole (AtOffice before entry ∷ line) follows = rest entry.act line follows
  where
    last : (line : List Turn) → IsTrue (whole && ends_at_office ends_round line) → entries by line ≡ []
    last [] follows = refl
    last (AtOffice earlier done ∷ []) follows = refl
    last (AtOffice earlier done ∷ turn ∷ line) follows = absurd (false≢true (and_parts whole false follows).1)
    last (AtDoor place act ∷ line) follows = absurd (false≢true (and_parts whole false follows).1)
    last (AtNode node earlier done ∷ line) follows = absurd (false≢true (and_parts whole false follows).1)

    over : (act : OfficeAct) (line : List Turn) → IsTrue (is_over line && office_answers act None) → entries by line ≡ []
    over act [] follows = refl
    over act (turn ∷ line) follows = absurd (false≢true follows)

    rest : (act : OfficeAct) (line : List Turn) → IsTrue (round_after whole act line) → entries by line ≡ []
    rest (Round heard missed) line follows = last line follows
    rest act line follows = over act line follows

-- the last turn of a round makes no other
last_rounds_not : (act : OfficeAct) (answer : Option Reply) → IsTrue (ends_round act answer) → round_in act ≡ []
last_rounds_not (Posted ids) answer is = refl
last_rounds_not Nothing answer is = refl
last_rounds_not act answer is = absurd (false≢true is)

counted_so : (heard missed : ℕ) (round : ManagerRound) → IsTrue (rounds_up heard missed round) → Some (Managed heard missed) ≡ Some (Managed (length round.heard) (length round.missed))
counted_so heard missed round is =
    let parts = and_parts (eqb heard (length round.heard)) (eqb missed (length round.missed)) is in
    let h : heard ≡ length round.heard = eqb-true heard (length round.heard) parts.0 in
    let m : missed ≡ length round.missed = eqb-true missed (length round.missed) parts.1 in
    cc

-- what a round is answered tells of its counts, and its scan run was whole
managed_so : (heard missed : ℕ) (whole : Bool) (act : OfficeAct) (line : List Turn) → IsTrue (round_after whole act line) → IsTrue (list_any is_posted (act ∷ acts line)) → IsTrue (list_any (rounds_up heard missed) (flat_map round_in (act ∷ acts line)))
    → IsTrue whole × (Some (Managed heard missed) ≡ told_of act)
managed_so heard missed whole (Round told left) (AtOffice before entry ∷ []) follows posted rounds =
    let parts = and_parts whole (ends_round entry.act entry.answer) follows in (
      parts.0,
      elim (or_cases (rounds_up heard missed (record { heard = told; missed = left })) (list_any (rounds_up heard missed) (round_in entry.act ++ [])) rounds) [
        | inl first ↦ counted_so heard missed (record { heard = told; missed = left }) first
        | inr second ↦ absurd (false≢true (subst (λ (rs : List ManagerRound). IsTrue (list_any (rounds_up heard missed) (rs ++ []))) (last_rounds_not entry.act entry.answer parts.1) second))
      ],
    )
managed_so heard missed whole (Round told left) (AtOffice before entry ∷ turn ∷ line) follows posted rounds = absurd (false≢true (and_parts whole false follows).1)
managed_so heard missed whole (Round told left) (AtDoor place act ∷ line) follows posted rounds = absurd (false≢true (and_parts whole false follows).1)
managed_so heard missed whole (Round told left) (AtNode node before entry ∷ line) follows posted rounds = absurd (false≢true (and_parts whole false follows).1)
managed_so heard missed whole (Round told left) [] follows posted rounds = absurd (false≢true (and_parts whole false follows).1)
managed_so heard missed whole act (turn ∷ line) follows posted rounds = absurd (false≢true follows)
managed_so heard missed whole Nothing [] follows posted rounds = absurd (false≢true posted)
managed_so heard missed whole act [] follows posted rounds = absurd (false≢true follows)

managed_behind : (heard missed : ℕ) (whole : Bool) (behind : List Turn) → IsTrue (round_course whole behind) → IsTrue (list_any is_posted (acts behind)) → IsTrue (list_any (rounds_up heard missed) (flat_map round_in (acts behind)))
    → IsTrue whole × (Some (Managed heard missed) ≡ told_behind behind)
managed_behind heard missed whole (AtOffice before entry ∷ line) follows posted rounds = managed_so heard missed whole entry.act line follows posted rounds
managed_behind heard missed whole (AtDoor place act ∷ line) follows posted rounds = absurd (false≢true follows)
managed_behind heard missed whole (AtNode node before entry ∷ line) follows posted rounds = absurd (false≢true follows)
managed_behind heard missed whole [] follows posted rounds = absurd (false≢true follows)

module _ (view : LineView) (turns : List Turn) (follows : IsTrue (manager_course turns)) where
  abbrev scan : Scanned
  scan = records_scan turns

  run : Run names_limit view.by the_office records_prefix [] [] turns scan
  run = run_of names_limit view.by the_office records_prefix [] [] turns (omega arith)

  fair : Fair (fails view.by turns) scan.is_whole (many view.by turns) (damaged view.by turns)
  fair = records_fair view.by the_office turns scan run (quiet view.by scan.is_whole scan.behind follows)

  -- what the line did at the office it did behind its scan run
  acts_behind : acts turns ≡ acts scan.behind
  acts_behind = ap (λ (l : List Turn). acts l) run.splits ∙ flat_map-append office_act_in run.made scan.behind ∙ ap (λ (done : List OfficeAct). done ++ acts scan.behind) run.at_office

  abbrev counts_told : Option Reply
  counts_told = told_behind scan.behind

  manager_settles : Settles (with_turns view Manager turns) (told_faults (fails view.by turns) (many view.by turns) (first_of (damaged view.by turns)) counts_told)
  manager_settles (Managed heard missed) caused =
      let parts = and_parts (list_any is_posted (acts turns)) (list_any (rounds_up heard missed) (flat_map round_in (acts turns))) caused in
      let found = managed_behind heard missed scan.is_whole scan.behind follows (subst (λ (done : List OfficeAct). IsTrue (list_any is_posted done)) acts_behind parts.0) (subst (λ (done : List OfficeAct). IsTrue (list_any (rounds_up heard missed) (flat_map round_in done))) acts_behind parts.1) in
      inr (found.1 ∙ otherwise_told (fails view.by turns) (many view.by turns) (damaged view.by turns) counts_told (fair.unfailed found.0) (fair.few (or_left _ _ found.0)) (ap first_of (fair.unspoiled (or_left _ _ found.0))))
  manager_settles StoreFault caused = inr (failed_so (fails view.by turns) (many view.by turns) (first_of (damaged view.by turns)) counts_told caused)
  manager_settles TooManyRecords caused = inr (many_told (fails view.by turns) scan.is_whole (many view.by turns) (damaged view.by turns) fair counts_told caused)
  manager_settles (Damaged name) caused = inr (damage_told (fails view.by turns) scan.is_whole (many view.by turns) (damaged view.by turns) fair counts_told name caused)
  manager_settles Committing caused = absurd (never_served view.hold.attempt (found_service (with_turns view Manager turns)) caused)
  manager_settles NoMemory caused = inl refl
  manager_settles reply caused = absurd (false≢true caused)

pub managers_exact : (view : LineView) (reply : Reply) → view.command ≡ Manager → IsTrue (keeps_its_course view) → IsTrue (cause view reply) → ExactlyCaused view reply
managers_exact view reply e keeps caused = by_turns view Manager reply e keeps caused (λ turns follows. (told_faults (fails view.by turns) (many view.by turns) (first_of (damaged view.by turns)) (counts_told view turns follows), manager_settles view turns follows))
