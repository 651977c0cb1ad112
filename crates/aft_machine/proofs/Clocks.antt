-- The turns of a machine read the run's clock, where they read one.
use Rattle.std.proofs.Common.{◌≡◌, ℕ, List, [], ◌∷◌, ◌++◌, refl, sym, ap, subst, ◌∙◌, inl, inr}
use Rattle.std.specs.Prelude.{IsTrue, None, Option, Some}
use Rattle.std.specs.List.{list_all}
use Rattle.std.proofs.lemmas.Bool.{and_from, and_parts, eqb-true}
use Rattle.std.proofs.lemmas.List.Folds.{list_all-append}
use Rattle.aft_records.specs.declared.stored.Commit.{Commit}
use Rattle.aft_model.specs.declared.caller.Attempt.{Attempt}
use Rattle.aft_model.specs.declared.caller.By.{By}
use Rattle.aft_model.specs.declared.caller.Hold.{Hold}
use Rattle.aft_model.specs.declared.node.NodeAct.{NodeAct}
use Rattle.aft_model.specs.declared.node.NodeAct.TheVariants as acts
use Rattle.aft_model.specs.declared.node.NodeEntry.{NodeEntry}
use Rattle.aft_model.specs.declared.reply.Reply.{Reply}
use Rattle.aft_model.specs.declared.script.Command.{Command}
use Rattle.aft_lines.specs.LegalTrace.{act_at, is_clock_time}
use Rattle.aft_lines.specs.LineView.{LineView}
use Rattle.aft_lines.specs.Makes.{makes_at_node}
use Rattle.aft_lines.specs.Turns.{AtDoor, AtNode, AtOffice, Turn}
use Rattle.aft_begin.specs.Made as begins
use Rattle.aft_begin.specs.Way.{Claimed, Deleted, LookedForMarker, LookedForRecord, Unclaimed, Way, release_turns, way_turns}
use Rattle.aft_begin.specs.declared.aim.Aim.{Aim}
use Rattle.aft_begin.specs.declared.sought.Sought.TheVariants.{Marker, Record}
use Rattle.aft_begin.specs.declared.stage.Stage.{Stage as ClaimStage}
use Rattle.aft_begin.specs.declared.stage.Stage.TheVariants as claims
use Rattle.aft_commit.specs.Made.{act_reads, turn_reads}
use Rattle.aft_turns.specs.Stands.{GoesRightly, RanSo, is_right}
use Rattle.aft_turns.specs.Trail.{Trail}
use Rattle.law_accounts.proofs.Lists.{all_so}
use Rattle.law_driver.specs.Driven.{reads_clock}
use Rattle.law_driver.proofs.Rights.{right_parts}

module _ (clock : Option ℕ) where
  abbrev AllRead : List Turn → Type 0
  AllRead turns = IsTrue (list_all (reads_clock clock) turns)

  -- a turn at a node that reads no clock
  at_node : (node : ℕ) (by : By) (before : List NodeEntry) (front : ℕ) (act did : NodeAct) (answer : Option Reply) → act ≡ did → IsTrue (act_at clock did) → AllRead (AtNode node before (record { front = front; by = by; act = act; answer = answer }) ∷ [])
  at_node node by before front act did answer is reads = and_from _ _ (subst (λ (x : NodeAct). IsTrue (act_at clock x)) (sym is) reads) refl

  both_read : (turns more : List Turn) → AllRead turns → AllRead more → AllRead (turns ++ more)
  both_read turns more one other = list_all-append (reads_clock clock) turns more ∙ and_from _ _ one other

  -- ---- a begin and a forget

  at_door : (a : Attempt) (uuid : List ℕ) (way : Way) (release : Option ℕ) → AllRead (way_turns a uuid way ++ release_turns a uuid release)
  at_door a uuid Unclaimed None = refl
  at_door a uuid Unclaimed (Some place) = refl
  at_door a uuid (Claimed p) None = refl
  at_door a uuid (Claimed p) (Some place) = refl
  at_door a uuid (LookedForRecord p q answer) None = refl
  at_door a uuid (LookedForRecord p q answer) (Some place) = refl
  at_door a uuid (LookedForMarker p q r answer) None = refl
  at_door a uuid (LookedForMarker p q r answer) (Some place) = refl
  at_door a uuid (Deleted p q r bytes id s answer) None = refl
  at_door a uuid (Deleted p q r bytes id s answer) (Some place) = refl

  module _ (aim : Aim) (by : By) (node : ℕ) (uuid : List ℕ) where
    come_reads : (a : Attempt) (front : ℕ) (way : Way) (release : Option ℕ) (trail : Trail) → begins.HasCome aim by node uuid a front way release trail → AllRead trail.turns
    come_reads a front way release trail come = subst AllRead (sym come.turns) (at_door a uuid way release)

    closing_reads : (a : Attempt) (closing : begins.Closing) → IsTrue (act_at clock (begins.closing_act a closing))
    closing_reads a begins.IsBegun = refl
    closing_reads a (begins.IsGivenBack reply) = refl
    closing_reads a begins.IsDown = refl

    later_reads : (given : Option Attempt) (trail : Trail) → begins.EndedLater aim by node uuid given trail → AllRead trail.turns
    later_reads given trail later =
        subst AllRead (sym later.turns)
        (both_read later.since.turns _ (come_reads later.attempt later.front later.way later.release later.since later.come)
        (and_from _ _ (closing_reads later.attempt later.closing) refl))

    pub claim_reads : (stage : ClaimStage) (trail : Trail) → begins.made_at aim by node uuid stage trail → AllRead trail.turns
    claim_reads claims.Begins trail made = subst AllRead (sym (ap (λ (t : Trail). t.turns) made)) refl
    claim_reads (claims.Claims a) trail made = come_reads a made.0 Unclaimed None trail made.1
    claim_reads (claims.Seeks a Record) trail (front, p, come) = come_reads a front (Claimed p) None trail come
    claim_reads (claims.Seeks a Marker) trail (front, p, q, come) = come_reads a front _ None trail come
    claim_reads (claims.Runs a) trail (front, p, q, r, come, aims) = come_reads a front _ None trail come
    claim_reads (claims.Forgets a id) trail (front, p, q, r, bytes, come, words, short) = come_reads a front _ None trail come
    claim_reads (claims.LetsGo a reply) trail (front, way, come, must) = come_reads a front way None trail come
    claim_reads (claims.GivesUp a reply) trail (front, way, release, come, tells) = come_reads a front way release trail come
    claim_reads (claims.Ended given) trail (inl once) = subst AllRead (sym once.turns) refl
    claim_reads (claims.Ended given) trail (inr later) = later_reads given trail later

  -- ---- a line whose command makes no start of a commit at its node

  module _ (command : Command) (no_start : (a : Attempt) (now : ℕ) (c : Commit) → IsTrue (makes_at_node command (acts.Start a now c)) → ⊥) where
    made_reads : (act : NodeAct) → IsTrue (makes_at_node command act) → IsTrue (act_at clock act)
    made_reads (acts.Start a now c) made = absurd (no_start a now c made)
    made_reads act made = refl

    right_reads : (hold : Hold) (turn : Turn) → IsTrue (is_right command hold turn) → IsTrue (reads_clock clock turn)
    right_reads hold (AtNode node before entry) right = made_reads entry.act (right_parts command hold (AtNode node before entry) right).0
    right_reads hold (AtDoor place act) right = refl
    right_reads hold (AtOffice before entry) right = refl

    -- the line as it ran, for what reads no more of it than its words and its turns
    abbrev ran : By → Hold → ℕ → Trail → LineView
    ran by hold capacity trail = record {
      by = by;
      command = command;
      hold = hold;
      settings = record { nodes = 1; cache = capacity; mailbox = 1; rounds = 0 };
      clock = clock;
      turns = trail.turns;
      posts = [];
      since = 0;
      seen = trail.look;
      nodes = [];
      before = None;
    }

    pub goes_reads : (by : By) (hold : Hold) (capacity : ℕ) (trail : Trail) → ((view : LineView) → RanSo command hold capacity trail view → GoesRightly view) → AllRead trail.turns
    goes_reads by hold capacity trail goes =
        all_so (is_right command hold) (reads_clock clock) (right_reads hold) trail.turns
        (goes (ran by hold capacity trail) (record { asked = refl; held = refl; cache = refl; turns = refl })).right

  -- ---- a commit and an abort, whose start reads the clock that it was handed

  module _ (time : ℕ) (told : IsTrue (is_clock_time clock time)) where
    act_so : (act : NodeAct) → IsTrue (act_reads time act) → IsTrue (act_at clock act)
    act_so (acts.Start a now c) is = subst (λ (n : ℕ). IsTrue (is_clock_time clock n)) (sym (eqb-true now time is)) told
    act_so act is = refl

    turn_so : (turn : Turn) → IsTrue (turn_reads time turn) → IsTrue (reads_clock clock turn)
    turn_so (AtNode node before entry) is = act_so entry.act is
    turn_so (AtDoor place act) is = refl
    turn_so (AtOffice before entry) is = refl

    pub finish_reads : (turns : List Turn) → IsTrue (list_all (turn_reads time) turns) → AllRead turns
    finish_reads [] all = refl
    finish_reads (turn ∷ turns) all =
        let parts = and_parts (turn_reads time turn) (list_all (turn_reads time) turns) all in
        and_from _ _ (turn_so turn parts.0) (finish_reads turns parts.1)
