use Rattle.std.proofs.Common.{sym, ◌≡◌, ◌≢◌, ◌≤◌, subst, ℕ}
use Rattle.std.specs.Prelude.{IsTrue, Option}
use Rattle.std.proofs.lemmas.Bool.{false≢true}
use Rattle.aft_lines.specs.LegalTrace.{is_clock_time}
use Rattle.aft_lines.specs.LineCourse.{answers_last}
use Rattle.aft_model.specs.declared.caller.Hold.{Hold}
use Rattle.aft_machine.specs.OneNode.{Holds, by_of, command_of, is_over, left_of, made_of, next_of}
use Rattle.aft_machine.specs.declared.machine.Machine.{Machine}
use Rattle.aft_machine.specs.declared.machine.Machine.TheVariants.{Begin, Finish, Forget, Put, Read, Starve, Crash, Start}
use Rattle.aft_turns.specs.Stands.{IsUnanswered, RanSo}
use Rattle.aft_machine.proofs.Promised.{promised}
use Rattle.aft_machine.proofs.StarvedStands.{reads_so}
use Rattle.aft_machine.proofs.Clocks.{claim_reads, finish_reads, goes_reads}
use Rattle.aft_turns.specs.declared.turn.Where.TheVariants as places
use Rattle.law_driver.specs.Driven.{Promises}
use Rattle.aft_machine.proofs.machine.Machine.promises.Goals as goal

pub returns-in-Begin-clause-promises : goal.returns-in-Begin-clause-promises
returns-in-Begin-clause-promises c hold capacity time clock trail holds told =
    subst (λ (m : Machine). made_of capacity time m trail → Promises (by_of m) (command_of m) hold capacity clock (is_over m) trail) (sym c.in-Begin.is) (λ made.
    promised c.in-Begin.line.by (command_of (Begin c.in-Begin.line)) hold capacity clock trail (next_of (Begin c.in-Begin.line))
    (λ view ran looked. c.so_far.ensures.goes hold capacity trail view made ran looked)
    (λ view ran is done looked late. c.so_far.ensures.ends hold capacity trail view made ran done looked)
    (λ seen rest sees begins. c.so_far.ensures.sees trail seen made sees)
    (claim_reads clock c.in-Begin.line.aim c.in-Begin.line.by c.in-Begin.line.node c.in-Begin.line.uuid c.in-Begin.line.stage trail made))

pub returns-in-Forget-clause-promises : goal.returns-in-Forget-clause-promises
returns-in-Forget-clause-promises c hold capacity time clock trail holds told =
    subst (λ (m : Machine). made_of capacity time m trail → Promises (by_of m) (command_of m) hold capacity clock (is_over m) trail) (sym c.in-Forget.is) (λ made.
    promised c.in-Forget.line.by (command_of (Forget c.in-Forget.line hold)) hold capacity clock trail (next_of (Forget c.in-Forget.line hold))
    (λ view ran looked. c.so_far-in-Forget.ensures.goes hold capacity trail view made ran looked)
    (λ view ran is done looked late. c.so_far-in-Forget.ensures.ends hold capacity trail view made ran done looked)
    (λ seen rest sees begins. c.so_far-in-Forget.ensures.sees trail seen made sees)
    (claim_reads clock c.in-Forget.line.aim c.in-Forget.line.by c.in-Forget.line.node c.in-Forget.line.uuid c.in-Forget.line.stage trail made))

pub returns-in-Read-clause-promises : goal.returns-in-Read-clause-promises
returns-in-Read-clause-promises c hold capacity time clock trail holds told =
    subst (λ (m : Machine). Holds m hold → made_of capacity time m trail → Promises (by_of m) (command_of m) hold capacity clock (is_over m) trail) (sym c.in-Read.is) (λ same made.
    subst (λ (h : Hold). Promises c.in-Read.line.by (command_of (Read c.in-Read.line)) h capacity clock (is_over (Read c.in-Read.line)) trail) same
    (promised c.in-Read.line.by (command_of (Read c.in-Read.line)) c.in-Read.line.hold capacity clock trail (next_of (Read c.in-Read.line))
    (λ view ran looked. c.so_far-in-Read.ensures.goes capacity trail view made ran)
    (λ view ran is done looked late. c.so_far-in-Read.ensures.ends capacity trail view made ran done looked)
    (λ seen rest sees begins. c.so_far-in-Read.ensures.sees capacity trail seen made sees)
    (goes_reads clock (command_of (Read c.in-Read.line)) (λ a now commit makes. false≢true makes) c.in-Read.line.by c.in-Read.line.hold capacity trail (λ view ran. c.so_far-in-Read.ensures.goes capacity trail view made ran)))) holds

pub returns-in-Finish-clause-promises : goal.returns-in-Finish-clause-promises
returns-in-Finish-clause-promises c hold capacity time clock trail holds told =
    subst (λ (m : Machine). Holds m hold → made_of capacity time m trail → Promises (by_of m) (command_of m) hold capacity clock (is_over m) trail) (sym c.in-Finish.is) (λ same made.
    subst (λ (h : Hold). Promises c.in-Finish.line.by (command_of (Finish c.in-Finish.line)) h capacity clock (is_over (Finish c.in-Finish.line)) trail) same
    (promised c.in-Finish.line.by (command_of (Finish c.in-Finish.line)) c.in-Finish.line.hold capacity clock trail (next_of (Finish c.in-Finish.line))
    (λ view ran looked. c.so_far-in-Finish.ensures.goes time capacity trail view made ran looked)
    (λ view ran is done looked late. c.so_far-in-Finish.ensures.ends time capacity trail view made ran (subst (λ (k : Option ℕ). IsTrue (is_clock_time k time)) (sym is) told) done looked)
    (λ seen rest sees begins. c.so_far-in-Finish.ensures.sees time trail seen made sees)
    (finish_reads clock time told trail.turns (c.so_far-in-Finish.ensures.reads time trail made)))) holds

pub returns-in-Put-clause-promises : goal.returns-in-Put-clause-promises
returns-in-Put-clause-promises c hold capacity time clock trail holds told =
    subst (λ (m : Machine). Holds m hold → made_of capacity time m trail → Promises (by_of m) (command_of m) hold capacity clock (is_over m) trail) (sym c.in-Put.is) (λ same made.
    subst (λ (h : Hold). Promises c.in-Put.line.by (command_of (Put c.in-Put.line)) h capacity clock (is_over (Put c.in-Put.line)) trail) same
    (promised c.in-Put.line.by (command_of (Put c.in-Put.line)) c.in-Put.line.hold capacity clock trail (next_of (Put c.in-Put.line))
    (λ view ran looked. c.so_far-in-Put.ensures.goes capacity trail view made ran)
    (λ view ran is done looked late. c.so_far-in-Put.ensures.ends capacity trail view made ran done)
    (λ seen rest sees begins. c.so_far-in-Put.ensures.sees trail seen made)
    (goes_reads clock (command_of (Put c.in-Put.line)) (λ a now commit makes. false≢true makes) c.in-Put.line.by c.in-Put.line.hold capacity trail (λ view ran. c.so_far-in-Put.ensures.goes capacity trail view made ran)))) holds

pub returns-in-Crash-clause-promises : goal.returns-in-Crash-clause-promises
returns-in-Crash-clause-promises c hold capacity time clock trail holds told =
    subst (λ (m : Machine). made_of capacity time m trail → Promises (by_of m) (command_of m) hold capacity clock (is_over m) trail) (sym c.in-Crash.is) (λ made.
    promised c.in-Crash.line.by (command_of (Crash c.in-Crash.line hold)) hold capacity clock trail (next_of (Crash c.in-Crash.line hold))
    (λ view ran looked. c.so_far-in-Crash.ensures.goes hold capacity trail view made ran)
    (λ view ran is done looked late. c.so_far-in-Crash.ensures.ends hold capacity trail view made ran done looked late)
    (λ seen rest sees begins. c.so_far-in-Crash.ensures.sees trail seen made sees)
    (goes_reads clock (command_of (Crash c.in-Crash.line hold)) (λ a now commit makes. false≢true makes) c.in-Crash.line.by hold capacity trail (λ view ran. c.so_far-in-Crash.ensures.goes hold capacity trail view made ran)))

pub returns-in-Start-clause-promises : goal.returns-in-Start-clause-promises
returns-in-Start-clause-promises c hold capacity time clock trail holds told =
    subst (λ (m : Machine). made_of capacity time m trail → Promises (by_of m) (command_of m) hold capacity clock (is_over m) trail) (sym c.in-Start.is) (λ made.
    promised c.in-Start.line.by (command_of (Start c.in-Start.line hold)) hold capacity clock trail (next_of (Start c.in-Start.line hold))
    (λ view ran looked. c.so_far-in-Start.ensures.goes hold capacity trail view made ran)
    (λ view ran is done looked late. c.so_far-in-Start.ensures.ends hold capacity trail view made ran done looked)
    (λ seen rest sees begins. c.so_far-in-Start.ensures.sees trail seen made sees (rest, begins))
    (goes_reads clock (command_of (Start c.in-Start.line hold)) (λ a now commit makes. false≢true makes) c.in-Start.line.by hold capacity trail (λ view ran. c.so_far-in-Start.ensures.goes hold capacity trail view made ran)))

pub returns-in-Starve-clause-promises : goal.returns-in-Starve-clause-promises
returns-in-Starve-clause-promises c hold capacity time clock trail holds told =
    subst (λ (m : Machine). Holds m hold → made_of capacity time m trail → Promises (by_of m) (command_of m) hold capacity clock (is_over m) trail) (sym c.in-Starve.is) (λ same made.
    subst (λ (h : Hold). Promises c.in-Starve.line.by (command_of (Starve c.in-Starve.line)) h capacity clock (is_over (Starve c.in-Starve.line)) trail) same
    (promised c.in-Starve.line.by (command_of (Starve c.in-Starve.line)) c.in-Starve.line.hold capacity clock trail (next_of (Starve c.in-Starve.line))
    (λ view ran looked. c.so_far-in-Starve.ensures.goes capacity trail view made ran)
    (λ view ran is done looked late. c.so_far-in-Starve.ensures.ends capacity trail view made ran done looked)
    (λ seen rest sees begins. c.so_far-in-Starve.ensures.sees trail seen made sees)
    (reads_so c.in-Starve.line.by c.in-Starve.line.hold clock c.in-Starve.line.over trail made))) holds

pub returns-in-Begin-clause-unanswered : goal.returns-in-Begin-clause-unanswered
returns-in-Begin-clause-unanswered c hold capacity time trail view holds =
    subst (λ (m : Machine). made_of capacity time m trail → RanSo (command_of m) hold capacity trail view → 1 ≤ left_of m → IsUnanswered view) (sym c.in-Begin.is) (λ made ran left. c.so_far.ensures.unanswered hold capacity trail view made ran left)

pub returns-in-Forget-clause-unanswered : goal.returns-in-Forget-clause-unanswered
returns-in-Forget-clause-unanswered c hold capacity time trail view holds =
    subst (λ (m : Machine). made_of capacity time m trail → RanSo (command_of m) hold capacity trail view → 1 ≤ left_of m → IsUnanswered view) (sym c.in-Forget.is) (λ made ran left. c.so_far-in-Forget.ensures.unanswered hold capacity trail view made ran left)

pub returns-in-Read-clause-unanswered : goal.returns-in-Read-clause-unanswered
returns-in-Read-clause-unanswered c hold capacity time trail view holds =
    subst (λ (m : Machine). Holds m hold → made_of capacity time m trail → RanSo (command_of m) hold capacity trail view → 1 ≤ left_of m → IsUnanswered view) (sym c.in-Read.is) (λ same made.
    subst (λ (h : Hold). RanSo (command_of (Read c.in-Read.line)) h capacity trail view → 1 ≤ left_of (Read c.in-Read.line) → IsUnanswered view) same
    (λ ran left. c.so_far-in-Read.ensures.unanswered capacity trail view made ran left)) holds

pub returns-in-Finish-clause-unanswered : goal.returns-in-Finish-clause-unanswered
returns-in-Finish-clause-unanswered c hold capacity time trail view holds =
    subst (λ (m : Machine). Holds m hold → made_of capacity time m trail → RanSo (command_of m) hold capacity trail view → 1 ≤ left_of m → IsUnanswered view) (sym c.in-Finish.is) (λ same made.
    subst (λ (h : Hold). RanSo (command_of (Finish c.in-Finish.line)) h capacity trail view → 1 ≤ left_of (Finish c.in-Finish.line) → IsUnanswered view) same
    (λ ran left. c.so_far-in-Finish.ensures.unanswered time capacity trail view made ran left)) holds

pub returns-in-Put-clause-unanswered : goal.returns-in-Put-clause-unanswered
returns-in-Put-clause-unanswered c hold capacity time trail view holds =
    subst (λ (m : Machine). Holds m hold → made_of capacity time m trail → RanSo (command_of m) hold capacity trail view → 1 ≤ left_of m → IsUnanswered view) (sym c.in-Put.is) (λ same made.
    subst (λ (h : Hold). RanSo (command_of (Put c.in-Put.line)) h capacity trail view → 1 ≤ left_of (Put c.in-Put.line) → IsUnanswered view) same
    (λ ran left. c.so_far-in-Put.ensures.unanswered capacity trail view made ran left)) holds

pub returns-in-Starve-clause-unanswered : goal.returns-in-Starve-clause-unanswered
returns-in-Starve-clause-unanswered c hold capacity time trail view holds =
    subst (λ (m : Machine). Holds m hold → made_of capacity time m trail → RanSo (command_of m) hold capacity trail view → 1 ≤ left_of m → IsUnanswered view) (sym c.in-Starve.is) (λ same made.
    subst (λ (h : Hold). RanSo (command_of (Starve c.in-Starve.line)) h capacity trail view → 1 ≤ left_of (Starve c.in-Starve.line) → IsUnanswered view) same
    (λ ran left. c.so_far-in-Starve.ensures.unanswered capacity trail view made ran left)) holds

pub returns-in-Begin-clause-answers : goal.returns-in-Begin-clause-answers
returns-in-Begin-clause-answers c capacity time trail = subst (λ (m : Machine). made_of capacity time m trail → next_of m ≡ places.Done → IsTrue (answers_last trail.turns)) (sym c.in-Begin.is) (λ made done. c.so_far.ensures.answers trail made done)

pub returns-in-Begin-clause-going : goal.returns-in-Begin-clause-going
returns-in-Begin-clause-going c = subst (λ (m : Machine). next_of m ≢ places.Done → 1 ≤ left_of m) (sym c.in-Begin.is) c.so_far.ensures.going

pub returns-in-Forget-clause-answers : goal.returns-in-Forget-clause-answers
returns-in-Forget-clause-answers c capacity time trail = subst (λ (m : Machine). made_of capacity time m trail → next_of m ≡ places.Done → IsTrue (answers_last trail.turns)) (sym c.in-Forget.is) (λ made done. c.so_far-in-Forget.ensures.answers trail made done)

pub returns-in-Forget-clause-going : goal.returns-in-Forget-clause-going
returns-in-Forget-clause-going c = subst (λ (m : Machine). next_of m ≢ places.Done → 1 ≤ left_of m) (sym c.in-Forget.is) c.so_far-in-Forget.ensures.going

pub returns-in-Read-clause-answers : goal.returns-in-Read-clause-answers
returns-in-Read-clause-answers c capacity time trail = subst (λ (m : Machine). made_of capacity time m trail → next_of m ≡ places.Done → IsTrue (answers_last trail.turns)) (sym c.in-Read.is) (λ made done. c.so_far-in-Read.ensures.answers capacity trail made done)

pub returns-in-Read-clause-going : goal.returns-in-Read-clause-going
returns-in-Read-clause-going c = subst (λ (m : Machine). next_of m ≢ places.Done → 1 ≤ left_of m) (sym c.in-Read.is) c.so_far-in-Read.ensures.going

pub returns-in-Finish-clause-answers : goal.returns-in-Finish-clause-answers
returns-in-Finish-clause-answers c capacity time trail = subst (λ (m : Machine). made_of capacity time m trail → next_of m ≡ places.Done → IsTrue (answers_last trail.turns)) (sym c.in-Finish.is) (λ made done. c.so_far-in-Finish.ensures.answers time trail made done)

pub returns-in-Finish-clause-going : goal.returns-in-Finish-clause-going
returns-in-Finish-clause-going c = subst (λ (m : Machine). next_of m ≢ places.Done → 1 ≤ left_of m) (sym c.in-Finish.is) c.so_far-in-Finish.ensures.going

pub returns-in-Put-clause-answers : goal.returns-in-Put-clause-answers
returns-in-Put-clause-answers c capacity time trail = subst (λ (m : Machine). made_of capacity time m trail → next_of m ≡ places.Done → IsTrue (answers_last trail.turns)) (sym c.in-Put.is) (λ made done. c.so_far-in-Put.ensures.answers trail made done)

pub returns-in-Put-clause-going : goal.returns-in-Put-clause-going
returns-in-Put-clause-going c = subst (λ (m : Machine). next_of m ≢ places.Done → 1 ≤ left_of m) (sym c.in-Put.is) c.so_far-in-Put.ensures.going

pub returns-in-Starve-clause-answers : goal.returns-in-Starve-clause-answers
returns-in-Starve-clause-answers c capacity time trail = subst (λ (m : Machine). made_of capacity time m trail → next_of m ≡ places.Done → IsTrue (answers_last trail.turns)) (sym c.in-Starve.is) (λ made done. c.so_far-in-Starve.ensures.answers trail made done)

pub returns-in-Starve-clause-going : goal.returns-in-Starve-clause-going
returns-in-Starve-clause-going c = subst (λ (m : Machine). next_of m ≢ places.Done → 1 ≤ left_of m) (sym c.in-Starve.is) c.so_far-in-Starve.ensures.going

pub returns-in-Crash-clause-unanswered : goal.returns-in-Crash-clause-unanswered
returns-in-Crash-clause-unanswered c hold capacity time trail view holds =
    subst (λ (m : Machine). made_of capacity time m trail → RanSo (command_of m) hold capacity trail view → 1 ≤ left_of m → IsUnanswered view) (sym c.in-Crash.is) (λ made ran left. c.so_far-in-Crash.ensures.unanswered hold capacity trail view made ran left)

pub returns-in-Start-clause-unanswered : goal.returns-in-Start-clause-unanswered
returns-in-Start-clause-unanswered c hold capacity time trail view holds =
    subst (λ (m : Machine). made_of capacity time m trail → RanSo (command_of m) hold capacity trail view → 1 ≤ left_of m → IsUnanswered view) (sym c.in-Start.is) (λ made ran left. c.so_far-in-Start.ensures.unanswered hold capacity trail view made ran left)

pub returns-in-Crash-clause-answers : goal.returns-in-Crash-clause-answers
returns-in-Crash-clause-answers c capacity time trail = subst (λ (m : Machine). made_of capacity time m trail → next_of m ≡ places.Done → IsTrue (answers_last trail.turns)) (sym c.in-Crash.is) (λ made done. c.so_far-in-Crash.ensures.answers trail made done)

pub returns-in-Crash-clause-going : goal.returns-in-Crash-clause-going
returns-in-Crash-clause-going c = subst (λ (m : Machine). next_of m ≢ places.Done → 1 ≤ left_of m) (sym c.in-Crash.is) c.so_far-in-Crash.ensures.going

pub returns-in-Start-clause-answers : goal.returns-in-Start-clause-answers
returns-in-Start-clause-answers c capacity time trail = subst (λ (m : Machine). made_of capacity time m trail → next_of m ≡ places.Done → IsTrue (answers_last trail.turns)) (sym c.in-Start.is) (λ made done. c.so_far-in-Start.ensures.answers trail made done)

pub returns-in-Start-clause-going : goal.returns-in-Start-clause-going
returns-in-Start-clause-going c = subst (λ (m : Machine). next_of m ≢ places.Done → 1 ≤ left_of m) (sym c.in-Start.is) c.so_far-in-Start.ensures.going
