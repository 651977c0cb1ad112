-- A turn behind which its line is over.
use Rattle.std.proofs.Common.{arith, ◌≡◌, ◌≢◌, ℕ, ◌<◌, ◌≤◌, Bool, true, List, [], ◌∷◌, ◌++◌, length, not, refl, sym, ap, subst, ◌∙◌, ◌⊎◌, eqb, ltb, inl, inr}
use Rattle.std.specs.Prelude.{IsFalse, IsTrue, Option, Some, if◌then◌else◌, ◌==◌}
use Rattle.std.specs.List.{list_all}
use Rattle.std.proofs.lemmas.Bool.{and_from, and_parts, cases_Bool, eq-eqb, eqb-true, false_from_ne_true, ltb-false, ltb-true, not-true}
use Rattle.aft_model.proofs.Histories.{In, all_at, in_append}
use Rattle.aft_model.specs.declared.caller.Hold.{Hold}
use Rattle.aft_model.specs.declared.node.NodeAct.{NodeAct}
use Rattle.aft_model.specs.declared.reply.Reply.{Reply}
use Rattle.aft_model.specs.declared.script.Line.{Line}
use Rattle.aft_model.specs.declared.script.Order.{Order}
use Rattle.aft_model.specs.History.{each_after}
use Rattle.aft_model.specs.LegalNode.{LegalNode}
use Rattle.aft_model.specs.ScanRun.{same_line}
use Rattle.aft_ledger.specs.View.{NodeView}
use Rattle.aft_lines.specs.Asked.{Asked, Ran}
use Rattle.aft_lines.specs.FinishedText.{line_of}
use Rattle.aft_lines.specs.LegalTrace.{are_asks, is_numbered_behind, ran_whole}
use Rattle.aft_lines.specs.Lines.{attempt_of, background_lines, begins, begun_at, hold_after, hold_before, lines}
use Rattle.aft_lines.specs.Turns.{Turn, turns}
use Rattle.aft_turns.specs.Steps.{entry_of}
use Rattle.aft_turns.specs.Trail.{Trail}
use Rattle.law_accounts.proofs.Holds.{held_next}
use Rattle.law_accounts.specs.Account.{Account, IsDone, Runs, Stand, Waits}
use Rattle.law_accounts.specs.Adding.{AddsAtNode, Added}
use Rattle.law_accounts.specs.Next.{ComesNext}
use Rattle.law_claims.proofs.Scenes.{by_itself}
use Rattle.law_clients.proofs.Seats.{all_seated, runs_not_done, runs_not_waits, still_alone, waits_not_done}
use Rattle.law_clients.specs.Clients.{Busy, Crowd, Idle, IsNext, Seat, Seated, held_behind, with_seat}
use Rattle.law_driver.proofs.Along.{own_hold_same}
use Rattle.law_driver.proofs.Node.{node_keeps}
use Rattle.law_driver.specs.Driven.{AllAtOneNode, Driven, IsNode, Promises}
use Rattle.law_driver.specs.Kept.{behind_node, with_node, with_stand}
use Rattle.law_held.specs.Desk.{is_script}

pub apart_or_same : (a b : ℕ) → (a < b) ⊎ (a ≡ b) ⊎ (b < a)
apart_or_same a b = elim (cases_Bool (ltb a b)) [
  | inl lt ↦ inl (ltb-true a b lt)
  | inr ge ↦ elim (cases_Bool (ltb b a)) [
    | inl gt ↦ inr (inr (ltb-true b a gt))
    | inr le ↦ inr (inl (let p = ltb-false a b ge in let q = ltb-false b a le in omega arith))
  ]
]

less : (a b : ℕ) → a < b → a ≡ b → ⊥
less a b lt e = omega arith

more : (a b : ℕ) → b < a → a ≡ b → ⊥
more a b lt e = omega arith

module _ (asked : Asked) (ran : Ran) (stand : Line → Stand) (seats : ℕ → Seat) (line : Line) (hold : Hold) (trail : Trail) (node : NodeView) (act : NodeAct) (answer : Option Reply) (script : IsTrue (is_script asked.script.lines)) (given : Order) (ordered : asked.order ≡ Some given) (none : asked.asks ≡ [])
    (all : AllAtOneNode asked) (crowd : Crowd asked ran stand seats) (busy : seats line.client ≡ Busy hold line trail) (is_node : IsNode asked ran node) (legal : LegalNode node.number node.capacity (node.history ++ entry_of (line_of line) (length ran.trace.door) node act answer ∷ []))
    (promises : Promises (line_of line) line.order hold asked.settings.cache asked.clock true (behind_node ran line node act answer trail)) where
  abbrev new : Ran
  new = with_node ran line node act answer

  abbrev next : Trail
  next = behind_node ran line node act answer trail

  abbrev later : Line → Stand
  later = with_stand line IsDone stand

  abbrev added : Added
  added = AddsAtNode node.number (entry_of (line_of line) (length ran.trace.door) node act answer)

  its_driven : Driven asked ran stand line hold trail
  its_driven = (subst (Seated asked ran stand line.client) busy (crowd.seated line.client)).1

  ended : Account asked new later × (turns (line_of line) new.trace ≡ next.turns)
  ended = node_keeps asked ran stand line hold trail node act answer true all its_driven is_node legal promises

  others : (other : Line) → In other (lines asked) → IsFalse (same_line (line_of other) (line_of line)) → later other ≡ stand other
  others other listed differs = ap (λ (b : Bool). if b then IsDone else stand other) differs

  done : later line ≡ IsDone
  done = ap (λ (b : Bool). if b then IsDone else stand line) (by_itself (line_of line))

  -- with no asks and no background each line of the run is the script's
  in_script : (one : Line) → In one (lines asked) → In one asked.script.lines
  in_script one among = elim (in_append one (asked.script.lines ++ asked.asks) (background_lines asked.order asked.settings) among) [
    | inl own ↦ elim (in_append one asked.script.lines asked.asks own) [ inl it ↦ it | inr later ↦ absurd (subst (In one) none later) ]
    | inr behind ↦ absurd (subst (λ (o : Option Order). In one (background_lines o asked.settings)) ordered behind)
  ]

  -- another line of the client is one of another number
  other_number : (other : Line) → other.client ≡ line.client → other.number ≢ line.number → IsFalse (same_line (line_of other) (line_of line))
  other_number other client apart = false_from_ne_true _ (λ same. apart (eqb-true other.number line.number (and_parts (eqb other.client line.client) (eqb other.number line.number) same).1))

  same_number : (other : Line) → other.client ≡ line.client → other.number ≡ line.number → IsTrue (same_line (line_of other) (line_of line))
  same_number other client number = and_from _ _ (eq-eqb other.client line.client client) (eq-eqb other.number line.number number)

  -- a later line of the client waits
  later_waits : (other : Line) → In other (lines asked) → other.client ≡ line.client → line.number < other.number → stand other ≡ Waits
  later_waits other listed client above = elim (crowd.account.in_turn line other its_driven.may.among listed client above) [
    | inl waits ↦ waits
    | inr over ↦ absurd (runs_not_done (stand line) its_driven.runs over)
  ]

  -- none of the client's lines runs now
  idle : (one : Line) → In one (lines asked) → one.client ≡ line.client → later one ≢ Runs
  idle one listed client runs = elim (apart_or_same one.number line.number) [
    | inl below ↦ runs_not_done (later one) runs (others one listed (other_number one client (less one.number line.number below)) ∙ its_driven.may.earlier one listed client below)
    | inr (inl same) ↦ runs_not_done (later one) runs (ap (λ (b : Bool). if b then IsDone else stand one) (same_number one client same))
    | inr (inr above) ↦ runs_not_waits (later one) runs (others one listed (other_number one client (more one.number line.number above)) ∙ later_waits one listed client above)
  ]

  -- the client's next line comes next behind this one
  comes_next : (one : Line) → one.client ≡ line.client → IsNext asked later one → ComesNext asked line one
  comes_next one client is = record {
    among = its_driven.may.among;
    same_client = client;
    no_background = no_background;
    behind = behind_it;
    none_between = none_between;
  }
    where
      no_background : IsFalse (line.client == 0)
      no_background =
          not-true (eqb line.client 0) (all_at (λ (l : Line). not (eqb l.client 0)) line asked.script.lines (in_script line its_driven.may.among)
          (and_parts (each_after is_numbered_behind [] asked.script.lines) (list_all (λ (l : Line). not (eqb l.client 0)) asked.script.lines) script).1)

      behind_it : line.number < one.number
      behind_it = elim (apart_or_same one.number line.number) [
        | inl below ↦ absurd (waits_not_done (later one) is.waits (others one is.among (other_number one client (less one.number line.number below)) ∙ its_driven.may.earlier one is.among client below))
        | inr (inl same) ↦ absurd (waits_not_done (later one) is.waits (ap (λ (b : Bool). if b then IsDone else stand one) (same_number one client same)))
        | inr (inr above) ↦ above
      ]

      none_between : (other : Line) → In other (lines asked) → other.client ≡ line.client → line.number < other.number → one.number ≤ other.number
      none_between other listed same above = elim (apart_or_same other.number one.number) [
        | inl below ↦ absurd (waits_not_done (later other) (others other listed (other_number other same (more other.number line.number above)) ∙ later_waits other listed same above) (is.earlier other listed (same ∙ sym client) below))
        | inr (inl equal) ↦ (let e = equal in omega arith)
        | inr (inr past) ↦ (let p = past in omega arith)
      ]

  -- the line holds what it held before its turn
  held_still : hold_before (lines asked) new.trace line ≡ hold
  held_still = own_hold_same asked ran line added refl (crowd.account.strangers line its_driven.may.among) ∙ its_driven.held

  holds : (one : Line) → one.client ≡ line.client → IsNext asked later one → hold_before (lines asked) new.trace one ≡ held_behind hold line next.turns
  holds one client is =
      held_next asked script (and_parts (are_asks asked) (ran_whole ran asked.asks) crowd.account.asks_last).0 line one (comes_next one client is) new.trace
      ∙ ap (λ (h : Hold). if begins line.order then hold_after new.trace (Some line) else h) held_still
      ∙ ap (λ (l : List Turn). if begins line.order then record { node = begun_at line.order; attempt = attempt_of l } else hold) ended.1

  pub crowd_over : Crowd asked new later (with_seat line.client (Idle (held_behind hold line next.turns)) seats)
  crowd_over = record {
    account = ended.0;
    seated = all_seated asked ran stand later seats line hold trail added none crowd busy refl others ended.0 (Idle (held_behind hold line next.turns)) (idle, holds);
    alone = still_alone asked ran stand later seats line hold trail added none crowd busy refl others ended.0;
  }
