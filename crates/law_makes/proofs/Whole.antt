-- All turns of a line that has come somewhere.
use Rattle.std.proofs.Common.{◌≡◌, ℕ, Bool, true, false, not, List, [], ◌∷◌, refl, sym, ◌∙◌}
use Rattle.std.specs.Prelude.{IsTrue, Option, Some, None}
use Rattle.std.specs.List.{fold, list_all}
use Rattle.std.proofs.lemmas.Bool.{and_from, and_parts}
use Rattle.aft_model.specs.declared.script.Command.{Command}
use Rattle.aft_model.specs.declared.script.Command.TheVariants as commands
use Rattle.aft_model.specs.Membership.{the_office}
use Rattle.aft_lines.specs.Advance.{advance, advanced, is_led_to_end, leads_to}
use Rattle.aft_lines.specs.BackupCourse.{backup_course}
use Rattle.aft_lines.specs.BeginCourse.{begin_course}
use Rattle.aft_lines.specs.CommitCourse.{finish_course}
use Rattle.aft_lines.specs.CourseWords.{Ends}
use Rattle.aft_lines.specs.ForgetCourse.{forget_course}
use Rattle.aft_lines.specs.GetCourse.{get_course}
use Rattle.aft_lines.specs.LineCourse.{drops_or_answers, follows_course, learns_or_answers, puts_or_answers, start_course}
use Rattle.aft_lines.specs.OrphanCourse.{orphan_course}
use Rattle.aft_lines.specs.Progress.{NotBegun, Progress}
use Rattle.aft_lines.specs.Turns.{Turn}
use Rattle.law_courses.proofs.Begins.{begin_led, forget_led}
use Rattle.law_courses.proofs.Gets.{get_led}
use Rattle.law_finish.proofs.Finish.{finish_led}
use Rattle.law_rounds.proofs.Copies.{backup_led}
use Rattle.law_rounds.proofs.Orphans.{orphans_led}
use Rattle.law_rounds.proofs.Starts.{start_led}
use Rattle.law_rounds.specs.Along.{is_along}
use Rattle.aft_lines.specs.Makes.{makes}
use Rattle.law_makes.proofs.Reached.{comes_to}
use Rattle.law_makes.proofs.Well.{is_well}
use Rattle.law_makes.proofs.Claims.{begin_first, begin_step, forget_first, forget_step, get_first, get_step}
use Rattle.law_makes.proofs.Collected.{announce_all, collect_all, crash_all, drop_act, learn_act, manager_all, put_act, single_made}
use Rattle.law_makes.proofs.Finish.{abort_step, commit_step, finish_first}
use Rattle.law_makes.proofs.Others.{copy_step, round_step, start_first, start_step}

-- one step
step_well : (command : Command) (nodes : List ℕ) (ends : Ends) → IsTrue (not (is_along command)) → (position : Progress) (turn : Turn) → IsTrue (comes_to command position) → IsTrue (is_well (makes command) (comes_to command) turn (advance command nodes ends position turn))
step_well (commands.Begin uuid node) nodes ends is NotBegun turn so = begin_first uuid node turn
step_well (commands.Begin uuid node) nodes ends is position turn so = begin_step uuid node ends position turn so
step_well (commands.Forget uuid node) nodes ends is NotBegun turn so = forget_first uuid node turn
step_well (commands.Forget uuid node) nodes ends is position turn so = forget_step uuid node ends position turn so
step_well (commands.Get key) nodes ends is NotBegun turn so = get_first key turn
step_well (commands.Get key) nodes ends is position turn so = get_step key ends position turn so
step_well commands.Commit nodes ends is NotBegun turn so = finish_first false turn
step_well commands.Commit nodes ends is position turn so = commit_step ends position turn so
step_well commands.Abort nodes ends is NotBegun turn so = finish_first true turn
step_well commands.Abort nodes ends is position turn so = abort_step ends position turn so
step_well (commands.Start node) nodes ends is NotBegun turn so = start_first node turn
step_well (commands.Start node) nodes ends is position turn so = start_step node ends position turn so
step_well (commands.Orphans key) nodes ends is NotBegun turn so = round_step key NotBegun turn so
step_well (commands.Orphans key) nodes ends is position turn so = round_step key position turn so
step_well commands.Backup nodes ends is NotBegun turn so = copy_step ends NotBegun turn so
step_well commands.Backup nodes ends is position turn so = copy_step ends position turn so
step_well (commands.Put key value) nodes ends is position turn so = absurd (cc)
step_well (commands.Crash node) nodes ends is position turn so = absurd (cc)
step_well (commands.Announce node) nodes ends is position turn so = absurd (cc)
step_well (commands.Deliver node) nodes ends is position turn so = absurd (cc)
step_well (commands.Local node) nodes ends is position turn so = absurd (cc)
step_well commands.Manager nodes ends is position turn so = absurd (cc)
step_well commands.Collect nodes ends is position turn so = absurd (cc)

-- from nowhere a line comes nowhere
from_nowhere : (step : Progress → Turn → Option Progress) (line : List Turn) (position : Progress) → fold (advanced step) None line ≡ Some position → ⊥
from_nowhere step [] position e = (cc)
from_nowhere step (turn ∷ line) position e = from_nowhere step line position e

all_well : (step : Progress → Turn → Option Progress) (made : Turn → Bool) (comes : Progress → Bool) → ((position : Progress) (turn : Turn) → IsTrue (comes position) → IsTrue (is_well made comes turn (step position turn)))
    → (line : List Turn) (start position : Progress) → IsTrue (comes start) → fold (advanced step) (Some start) line ≡ Some position → IsTrue (list_all made line)
all_well step made comes each [] start position so e = refl
all_well step made comes each (turn ∷ line) start position so e = next (step start turn) (each start turn so) e (λ q comes_so rest. all_well step made comes each line q position comes_so rest)
  where
    next : (behind : Option Progress) → IsTrue (is_well made comes turn behind) → fold (advanced step) behind line ≡ Some position
        → ((q : Progress) → IsTrue (comes q) → fold (advanced step) (Some q) line ≡ Some position → IsTrue (list_all made line)) → IsTrue (list_all made (turn ∷ line))
    next None well rest go_on = absurd (from_nowhere step line position rest)
    next (Some q) well rest go_on = (let parts = and_parts (made turn) (comes q) well in and_from _ _ parts.0 (go_on q parts.1 rest))

start_so : (command : Command) → IsTrue (comes_to command NotBegun)
start_so (commands.Begin uuid node) = refl
start_so commands.Abort = refl
start_so (commands.Orphans key) = refl
start_so commands.Backup = refl
start_so command = refl

pub lines_make : (command : Command) (nodes : List ℕ) (ends : Ends) (line : List Turn) (position : Progress) → IsTrue (not (is_along command)) → leads_to command nodes ends line ≡ Some position → IsTrue (list_all (makes command) line)
lines_make command nodes ends line position is e = all_well (advance command nodes ends) (makes command) (comes_to command) (step_well command nodes ends is) line NotBegun position (start_so command) e

-- ---- whole lines

-- a line that is led to its end has come somewhere
come_to : (end : Option Progress) → IsTrue (is_led_to_end end) → (position : Progress) × (end ≡ Some position)
come_to None is = absurd (cc)
come_to (Some position) is = (position, refl)

led_makes : (command : Command) (nodes : List ℕ) (ends : Ends) (line : List Turn) → IsTrue (not (is_along command)) → (course : Bool) → course ≡ is_led_to_end (leads_to command nodes ends line) → IsTrue course → IsTrue (list_all (makes command) line)
led_makes command nodes ends line is course same so = (let found = come_to (leads_to command nodes ends line) (sym same ∙ so) in lines_make command nodes ends line found.0 is found.1)

pub courses_make : (command : Command) (nodes : List ℕ) (ends : Ends) (line : List Turn) → ends.is_shut_out the_office 0 ≡ false → IsTrue (follows_course command nodes ends line) → IsTrue (list_all (makes command) line)
courses_make (commands.Begin uuid node) nodes ends line up is = led_makes (commands.Begin uuid node) nodes ends line refl (begin_course ends line) (begin_led uuid node nodes ends line) is
courses_make (commands.Forget uuid node) nodes ends line up is = led_makes (commands.Forget uuid node) nodes ends line refl (forget_course ends line) (forget_led uuid node nodes ends line) is
courses_make (commands.Get key) nodes ends line up is = led_makes (commands.Get key) nodes ends line refl (get_course ends line) (get_led key nodes ends line) is
courses_make commands.Commit nodes ends line up is = led_makes commands.Commit nodes ends line refl (finish_course false ends line) (finish_led nodes ends false line) is
courses_make commands.Abort nodes ends line up is = led_makes commands.Abort nodes ends line refl (finish_course true ends line) (finish_led nodes ends true line) is
courses_make (commands.Start node) nodes ends line up is = led_makes (commands.Start node) nodes ends line refl (start_course ends line) (start_led node nodes ends line) is
courses_make (commands.Orphans key) nodes ends line up is = led_makes (commands.Orphans key) nodes ends line refl (orphan_course key ends line) (orphans_led key nodes ends up line) is
courses_make commands.Backup nodes ends line up is = led_makes commands.Backup nodes ends line refl (backup_course ends line) (backup_led nodes ends line) is
courses_make (commands.Put key value) nodes ends line up is = single_made (makes (commands.Put key value)) puts_or_answers (λ at before entry so. put_act entry.act entry.answer so) line is
courses_make (commands.Deliver node) nodes ends line up is = single_made (makes (commands.Deliver node)) learns_or_answers (λ at before entry so. learn_act entry.act entry.answer so) line is
courses_make (commands.Local node) nodes ends line up is = single_made (makes (commands.Local node)) drops_or_answers (λ at before entry so. drop_act entry.act entry.answer so) line is
courses_make (commands.Announce node) nodes ends line up is = announce_all node line is
courses_make (commands.Crash node) nodes ends line up is = crash_all node node line is
courses_make commands.Manager nodes ends line up is = manager_all line is
courses_make commands.Collect nodes ends line up is = collect_all nodes ends line is
