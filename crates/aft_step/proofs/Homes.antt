-- Where a line's machine has its turns at a node: at the node that the line names, or at that of what its client holds.
use Rattle.std.proofs.Common.{◌≡◌, ℕ, Bool, true, false, sym, ◌++◌, ap, subst, ◌∙◌, inl, inr}
use Rattle.std.specs.Prelude.{IsTrue, Option, nat_le, ◌&&◌}
use Rattle.aft_begin.specs.View as claims
use Rattle.aft_begin.specs.declared.stage.Stage.{Stage as ClaimStage}
use Rattle.aft_begin.specs.declared.stage.Stage.TheVariants as claiming
use Rattle.aft_boot.specs.BootView as boots
use Rattle.aft_boot.specs.CrashView as crashes
use Rattle.aft_boot.specs.declared.fencing.Fencing.{Fencing}
use Rattle.aft_boot.specs.declared.fencing.Fencing.TheVariants as crashing
use Rattle.aft_boot.specs.declared.stage.Stage.{Stage as BootStage}
use Rattle.aft_boot.specs.declared.stage.Stage.TheVariants as booting
use Rattle.aft_commit.specs.View as finishes
use Rattle.aft_commit.specs.declared.stage.Stage.{Stage as FinishStage}
use Rattle.aft_commit.specs.declared.stage.Stage.TheVariants as finishing
use Rattle.aft_lines.specs.Asked.{Asked}
use Rattle.aft_lines.specs.Lines.{background_lines, lines}
use Rattle.aft_machine.specs.OneNode.{Holds, command_of, hold_behind, next_of}
use Rattle.aft_machine.specs.PutView as puts
use Rattle.aft_machine.specs.Starved as starved
use Rattle.aft_machine.specs.declared.buffering.Stage.{Stage as PutStage}
use Rattle.aft_machine.specs.declared.buffering.Stage.TheVariants as putting
use Rattle.aft_machine.specs.declared.machine.Machine.{Machine}
use Rattle.aft_machine.specs.declared.machine.Machine.TheVariants.{Begin, Crash, Finish, Forget, Put, Read, Start, Starve}
use Rattle.aft_model.proofs.Histories.{In, in_append}
use Rattle.aft_model.specs.declared.caller.Hold.{Hold}
use Rattle.aft_model.specs.declared.script.Command.{Command}
use Rattle.aft_model.specs.declared.script.Line.{Line}
use Rattle.aft_model.specs.declared.script.Order.{Order}
use Rattle.aft_read.specs.View as reads
use Rattle.aft_read.specs.declared.stage.Stage.{Stage as ReadStage}
use Rattle.aft_read.specs.declared.stage.Stage.TheVariants as reading
use Rattle.aft_step.specs.Going.{Goes, IsAsked, is_placed, names_node}
use Rattle.aft_turns.specs.Trail.{Trail}
use Rattle.aft_turns.specs.declared.turn.Where.TheVariants as places

claim_home : (node n : ℕ) (stage : ClaimStage) → claims.next_at node stage ≡ places.Node n → node ≡ n
claim_home node n claiming.Begins is = cc
claim_home node n (claiming.Claims a) is = absurd cc
claim_home node n (claiming.Seeks a sought) is = absurd cc
claim_home node n (claiming.Runs a) is = cc
claim_home node n (claiming.Forgets a id) is = absurd cc
claim_home node n (claiming.LetsGo a reply) is = absurd cc
claim_home node n (claiming.GivesUp a reply) is = cc
claim_home node n (claiming.Ended given) is = absurd cc

read_home : (node n : ℕ) (stage : ReadStage) → reads.next_at node stage ≡ places.Node n → node ≡ n
read_home node n (reading.Begins key) is = cc
read_home node n (reading.Fetches a key id) is = absurd cc
read_home node n (reading.Comes a key id got place) is = cc
read_home node n reading.Ended is = absurd cc

finish_home : (node n : ℕ) (stage : FinishStage) → finishes.next_at node stage ≡ places.Node n → node ≡ n
finish_home node n finishing.Begins is = cc
finish_home node n (finishing.Settles a r values) is = absurd cc
finish_home node n (finishing.Stores a r values count) is = absurd cc
finish_home node n (finishing.Failed a r) is = absurd cc
finish_home node n (finishing.Recorded a r) is = cc
finish_home node n (finishing.Releases a uuid outcome) is = absurd cc
finish_home node n (finishing.Doubts a reply) is = cc
finish_home node n (finishing.Ends a uuid outcome) is = cc
finish_home node n (finishing.ShutOut a) is = cc
finish_home node n finishing.Ended is = absurd cc

put_home : (node n : ℕ) (stage : PutStage) → puts.next_at node stage ≡ places.Node n → node ≡ n
put_home node n (putting.Begins key value) is = cc
put_home node n putting.Ended is = absurd cc

starved_home : (node n : ℕ) (over : Bool) → starved.next_at node over ≡ places.Node n → node ≡ n
starved_home node n false is = cc
starved_home node n true is = absurd cc

boot_home : (node n : ℕ) (stage : BootStage) → boots.next_at node stage ≡ places.Node n → node ≡ n
boot_home node n booting.Begins is = cc
boot_home node n (booting.ComesUp inc) is = absurd cc
boot_home node n (booting.Scans inc after listed commits) is = absurd cc
boot_home node n (booting.Ends inc end) is = cc
boot_home node n booting.Ended is = absurd cc

crash_home : (node n : ℕ) (stage : Fencing) → crashes.next_at node stage ≡ places.Node n → node ≡ n
crash_home node n crashing.Begins is = absurd cc
crash_home node n (crashing.Tells fenced) is = cc
crash_home node n crashing.Ended is = absurd cc

-- each line of such a run is the script's
pub in_script : (asked : Asked) → IsAsked asked → (line : Line) → In line (lines asked) → In line asked.script.lines
in_script asked asks line among = elim (in_append line (asked.script.lines ++ asked.asks) (background_lines asked.order asked.settings) among) [
  | inl own ↦ elim (in_append line asked.script.lines asked.asks own) [ inl it ↦ it | inr later ↦ absurd (subst (In line) asks.asks later) ]
  | inr behind ↦ absurd (subst (λ (o : Option Order). In line (background_lines o asked.settings)) asks.ordered behind)
]

module _ (asked : Asked) (line : Line) (hold : Hold) (now : ℕ) (trail : Trail) (named : IsTrue (names_node asked.settings line.order)) (placed : IsTrue (is_placed asked.settings hold)) where
  abbrev there : ℕ → Type 0
  there n = IsTrue (nat_le 1 n && nat_le n asked.settings.nodes)

  -- the node of a machine's next turn is there
  pub home : (machine : Machine) (n : ℕ) → Goes asked line hold machine now trail → next_of machine ≡ places.Node n → there n
  home (Begin m) n goes is = subst there (claim_home m.node n m.stage is) (subst (λ (c : Command). IsTrue (names_node asked.settings c)) (sym goes.command) named)
  home (Forget m held) n goes is = subst there (claim_home m.node n m.stage is) (subst (λ (c : Command). IsTrue (names_node asked.settings c)) (sym goes.command) named)
  home (Read m) n goes is = subst there (ap (λ (h : Hold). h.node) (sym goes.held) ∙ read_home m.hold.node n m.stage is) placed
  home (Finish m) n goes is = subst there (ap (λ (h : Hold). h.node) (sym goes.held) ∙ finish_home m.hold.node n m.stage is) placed
  home (Put m) n goes is = subst there (ap (λ (h : Hold). h.node) (sym goes.held) ∙ put_home m.hold.node n m.stage is) placed
  home (Starve m) n goes is = subst there (ap (λ (h : Hold). h.node) (sym goes.held) ∙ starved_home m.hold.node n m.over is) placed
  home (Crash m held) n goes is = subst there (crash_home m.node n m.stage is) (subst (λ (c : Command). IsTrue (names_node asked.settings c)) (sym goes.command) named)
  home (Start m held) n goes is = subst there (boot_home m.node n m.stage is) (subst (λ (c : Command). IsTrue (names_node asked.settings c)) (sym goes.command) named)

-- what a line's client holds behind it is of a node that is there
pub placed_behind : (asked : Asked) (order : Command) (hold : Hold) → IsTrue (names_node asked.settings order) → IsTrue (is_placed asked.settings hold) → (machine : Machine) → command_of machine ≡ order → Holds machine hold → IsTrue (is_placed asked.settings (hold_behind machine))
placed_behind asked order hold named placed (Begin m) command held = subst (λ (c : Command). IsTrue (names_node asked.settings c)) (sym command) named
placed_behind asked order hold named placed (Forget m it) command held = subst (λ (h : Hold). IsTrue (is_placed asked.settings h)) (sym held) placed
placed_behind asked order hold named placed (Read m) command held = subst (λ (h : Hold). IsTrue (is_placed asked.settings h)) (sym held) placed
placed_behind asked order hold named placed (Finish m) command held = subst (λ (h : Hold). IsTrue (is_placed asked.settings h)) (sym held) placed
placed_behind asked order hold named placed (Put m) command held = subst (λ (h : Hold). IsTrue (is_placed asked.settings h)) (sym held) placed
placed_behind asked order hold named placed (Starve m) command held = subst (λ (h : Hold). IsTrue (is_placed asked.settings h)) (sym held) placed
placed_behind asked order hold named placed (Crash m it) command held = subst (λ (h : Hold). IsTrue (is_placed asked.settings h)) (sym held) placed
placed_behind asked order hold named placed (Start m it) command held = subst (λ (h : Hold). IsTrue (is_placed asked.settings h)) (sym held) placed
