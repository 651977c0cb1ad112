-- A line begins.
use Rattle.std.proofs.Common.{◌≡◌, ◌<◌, Bool, refl, sym, subst, ap, ◌∙◌, ◌⊎◌, inl, inr, arith}
use Rattle.std.specs.Prelude.{IsFalse, IsTrue, if◌then◌else◌}
use Rattle.std.proofs.lemmas.Bool.{cases_Bool}
use Rattle.aft_model.specs.declared.caller.Hold.{Hold}
use Rattle.aft_model.specs.declared.script.Line.{Line}
use Rattle.aft_model.proofs.Histories.{In}
use Rattle.aft_model.specs.ScanRun.{same_line}
use Rattle.aft_lines.specs.Asked.{Asked, Ran}
use Rattle.aft_lines.specs.FinishedText.{line_of}
use Rattle.aft_lines.specs.Lines.{hold_before, lines}
use Rattle.aft_lines.specs.Views.{view_of}
use Rattle.aft_turns.specs.Trail.{no_trail}
use Rattle.law_accounts.proofs.GoesOn.{same_is}
use Rattle.law_accounts.proofs.Idle.{entries_none, mail_none, nodes_strange, turns_none}
use Rattle.law_accounts.specs.Account.{Account, ComesToEnd, IsDone, MayGoOn, Runs, Stand, Waits, has_made_nothing}
use Rattle.law_claims.proofs.Scenes.{by_itself}
use Rattle.law_driver.specs.Driven.{Driven, RanksLast, is_at_one_node, node_of}
use Rattle.law_driver.specs.Kept.{with_stand}
use Rattle.law_driver.proofs.Along.{lesser_differs}
use Rattle.law_driver.proofs.Closing.{none_at_number}

module _ (asked : Asked) (ran : Ran) (stand : Line → Stand) (line : Line) (account : Account asked ran stand) (may : MayGoOn asked stand line) (waits : stand line ≡ Waits) where
  abbrev later : Line → Stand
  later = with_stand line Runs stand

  its_own : (other : Line) → IsTrue (same_line (line_of other) (line_of line)) → later other ≡ Runs
  its_own other same = ap (λ (b : Bool). if b then Runs else stand other) same

  as_before : (other : Line) → IsFalse (same_line (line_of other) (line_of line)) → later other ≡ stand other
  as_before other differs = ap (λ (b : Bool). if b then Runs else stand other) differs

  waiting : (other : Line) → In other (lines asked) → later other ≡ Waits → IsTrue (has_made_nothing other ran)
  waiting other listed is = elim (cases_Bool (same_line (line_of other) (line_of line))) [
    | inl same ↦ absurd (never (sym (its_own other same) ∙ is))
    | inr differs ↦ account.waiting other listed (sym (as_before other differs) ∙ is)
  ]
    where
      never : Runs ≡ Waits → ⊥
      never e = cc

  over : (other : Line) → In other (lines asked) → later other ≡ IsDone → ComesToEnd (view_of asked ran other)
  over other listed is = elim (cases_Bool (same_line (line_of other) (line_of line))) [
    | inl same ↦ absurd (never (sym (its_own other same) ∙ is))
    | inr differs ↦ account.over other listed (sym (as_before other differs) ∙ is)
  ]
    where
      never : Runs ≡ IsDone → ⊥
      never e = cc

  earlier : (other : Line) → In other (lines asked) → other.client ≡ line.client → other.number < line.number → later other ≡ IsDone
  earlier other listed client below = as_before other (lesser_differs other line below) ∙ may.earlier other listed client below

  in_turn : (one other : Line) → In one (lines asked) → In other (lines asked) → other.client ≡ one.client → one.number < other.number → (later other ≡ Waits) ⊎ (later one ≡ IsDone)
  in_turn one other listed listed' client above = elim (cases_Bool (same_line (line_of other) (line_of line))) [
    | inl same ↦
        let it = same_is asked account.differ other line listed' may.among same in
        inr (earlier one listed (sym client ∙ ap (λ (l : Line). l.client) it) (subst (λ (l : Line). one.number < l.number) it above))
    | inr differs ↦ elim (account.in_turn one other listed listed' client above) [
      | inl idle ↦ inl (as_before other differs ∙ idle)
      | inr done ↦ elim (cases_Bool (same_line (line_of one) (line_of line))) [
        | inl same ↦ absurd (never (sym waits ∙ ap stand (sym (same_is asked account.differ one line listed may.among same)) ∙ done))
        | inr apart ↦ inr (as_before one apart ∙ done)
      ]
    ]
  ]
    where
      never : Waits ≡ IsDone → ⊥
      never e = cc

  account_now : Account asked ran later
  account_now = record {
    settings = account.settings;
    bytes = account.bytes;
    door = account.door;
    opened = account.opened;
    nodes = account.nodes;
    office = account.office;
    boxes = account.boxes;
    opens = account.opens;
    clock = account.clock;
    clients = account.clients;
    whole_lines = account.whole_lines;
    asks_last = account.asks_last;
    give_ups = account.give_ups;
    differ = account.differ;
    strangers = account.strangers;
    waiting = waiting;
    going = account.going;
    over = over;
    in_turn = in_turn;
  }

  pub begins : (hold : Hold) → IsTrue (is_at_one_node line.order) → hold_before (lines asked) ran.trace line ≡ hold → RanksLast asked ran (line_of line) → Driven asked ran later line hold no_trail
  begins hold kind held ranked =
      let nothing = account.waiting line may.among waits in
      record {
        account = account_now;
        may = record { among = may.among; unless_over = inr (its_own line (by_itself (line_of line))); earlier = earlier };
        runs = its_own line (by_itself (line_of line));
        kind = kind;
        own = turns_none (line_of line) ran nothing;
        closing = none_at_number (line_of line) (node_of line.order hold) 1 ran.trace.nodes (nodes_strange (line_of line) ran nothing);
        sees = record { own = entries_none (line_of line) ran nothing; places = tt };
        looked = (ran.trace.door, refl);
        late = λ made. absurd (omega arith);
        held = held;
        quiet = mail_none (line_of line) ran nothing;
        ranked = ranked;
      }
