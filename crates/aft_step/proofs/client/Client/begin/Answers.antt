use Rattle.std.proofs.Common.{arith, ◌≡◌, ◌≤◌, ℕ, Option, List, length, Some, slice_get, refl, sym, subst}
use Rattle.std.proofs.lemmas.Option.{slice_get_read, slice_get_within}
use Rattle.aft_model.specs.declared.script.Line.{Line}
use Rattle.aft_step.proofs.Courses.{reaches_end, reaches_first}
use Rattle.aft_step.proofs.Starts.{begins, may_begin, none_begins}
use Rattle.aft_step.proofs.client.Client.begin.Goals as goal
use Rattle.aft_step.specs.declared.client.Course.{Course}
use Rattle.aft_step.specs.Moving.{Begun, ReachesFirst, reach}

there : (lines : List Line) (at : ℕ) (line : Line) → slice_get lines at ≡ Some line → (asked : List Line) → asked ≡ lines → slice_get asked at ≡ Some line
there lines at line is asked same = subst (λ (l : List Line). slice_get l at ≡ Some line) (sym same) is

pub new-requires-clause-kind : goal.new-requires-clause-kind
new-requires-clause-kind g c =
    let it = c.requires.stands in
    let is = slice_get_read c.args.lines.now (length c.args.lines.now) c.next_line-at.result c.in-Some.line.now refl c.in-Some.ensures.lookup.3.0 c.in-Some.ensures.lookup.1 in
    may_begin it.0 it.6.asks c.next_line-at.result c.in-Some.line.now (there c.args.lines.now c.next_line-at.result c.in-Some.line.now is it.0.script.lines it.4)

pub returns-in-Some-clause-past : goal.returns-in-Some-clause-past
returns-in-Some-clause-past g c =
    let is = slice_get_read c.args.lines.now (length c.args.lines.now) c.next_line-at.result c.in-Some.line.now refl c.in-Some.ensures.lookup.3.0 c.in-Some.ensures.lookup.1 in
    reaches_first c.args.lines.now c.args.self.now.number c.args.self.now.at c.next_line-at.result c.in-Some.line.now is (c.next_line-at.ensures.its c.in-Some.line.now is) c.next_line-at.ensures.from

pub returns-in-Some-clause-goes : goal.returns-in-Some-clause-goes
returns-in-Some-clause-goes g c asked stand seats world same clock driven next =
    let is = slice_get_read c.args.lines.now (length c.args.lines.now) c.next_line-at.result c.in-Some.line.now refl c.in-Some.ensures.lookup.3.0 c.in-Some.ensures.lookup.1 in
    begins asked stand seats world c.args.self.now driven c.requires.idle c.next_line-at.result
    (λ i one at low up. c.next_line-at.ensures.before i one (subst (λ (l : List Line). slice_get l i ≡ Some one) same at) low up)
    next c.in-Some.line.now (there c.args.lines.now c.next_line-at.result c.in-Some.line.now is asked.script.lines same) (c.next_line-at.ensures.its c.in-Some.line.now is) c.next_line-at.ensures.from c.new.result (c.new.ensures.goes asked clock) c.new.ensures.on

pub returns-in_default-clause-past : goal.returns-in_default-clause-past
returns-in_default-clause-past g c =
    let none = sym c.in_default.ensures.lookup.0 in
    let all : length c.args.lines.now ≤ c.next_line-at.result = grind (arith, none) in
    subst (λ (running : Option Course). ReachesFirst c.args.lines.now c.args.self.now.number c.args.self.now.at (reach running c.next_line-at.result)) (sym c.requires.idle)
    (reaches_end c.args.lines.now c.args.self.now.number c.args.self.now.at c.next_line-at.result all)

pub returns-in_default-clause-goes : goal.returns-in_default-clause-goes
returns-in_default-clause-goes g c asked stand seats world same clock driven next =
    let none = sym c.in_default.ensures.lookup.0 in
    let all : length c.args.lines.now ≤ c.next_line-at.result = grind (arith, none) in
    subst (λ (running : Option Course). Begun asked stand seats c.args.self.now world (record { number = c.args.self.now.number; hold = c.args.self.now.hold; at = c.next_line-at.result; running = running })) (sym c.requires.idle)
    (none_begins asked stand seats world c.args.self.now driven c.requires.idle c.next_line-at.result
    (λ i one at low up. c.next_line-at.ensures.before i one (subst (λ (l : List Line). slice_get l i ≡ Some one) same at) low up)
    c.next_line-at.ensures.from (λ i one at. let low = slice_get_within c.args.lines.now i one (subst (λ (l : List Line). slice_get l i ≡ Some one) same at) in omega arith))
