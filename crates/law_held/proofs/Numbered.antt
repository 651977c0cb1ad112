-- Lines that are numbered as those of a script are differ.
use Rattle.std.proofs.Common.{◌≡◌, ℕ, suc, ◌<◌, Bool, true, false, ◌&&◌, ◌||◌, not, List, [], ◌∷◌, ◌++◌, refl, sym, ap, subst, ◌∙◌, ◌⊎◌, inl, inr, eqb, ltb, arith, length}
use Rattle.std.specs.Prelude.{IsTrue, IsFalse, None, Option, Some, is_some}
use Rattle.std.specs.List.{list_all, list_any}
use Rattle.std.proofs.lemmas.Bool.{and_from, and_parts, eqb-true, false≢true, false_from_ne_true, ltb-true, not-true, true≢false}
use Rattle.aft_model.specs.declared.script.Command.{Command}
use Rattle.aft_model.specs.declared.script.Line.{Line}
use Rattle.aft_model.specs.declared.script.Order.{Order}
use Rattle.aft_model.specs.History.{each_after}
use Rattle.aft_model.specs.ScanRun.{same_line}
use Rattle.aft_model.proofs.Histories.{In, all_at, any_found, in_append}
use Rattle.aft_model.proofs.Lists.{in_snoc}
use Rattle.aft_lines.specs.Asked.{Asked}
use Rattle.aft_lines.specs.FinishedText.{line_of}
use Rattle.aft_lines.specs.LegalTrace.{are_asks, is_numbered_behind, may_be_asked, session_client}
use Rattle.aft_lines.specs.Lines.{background, background_lines, numbered}
use Rattle.law_held.specs.Desk.{LinesDiffer, is_another, is_script}
use Rattle.law_held.proofs.Placed.{each_joined}

-- a line that none of some others is
is_other : (before : List Line) (line : Line) → ((other : Line) → In other before → IsTrue (same_line (line_of other) (line_of line)) → ⊥) → IsTrue (is_another before line)
is_other before line none = ap not (false_from_ne_true (list_any (λ (o : Line). same_line (line_of o) (line_of line)) before) (λ some. let found = any_found (λ (o : Line). same_line (line_of o) (line_of line)) before some in none found.0 found.1 found.2))

-- one that is numbered behind them is another
behind_other : (before : List Line) (line : Line) → IsTrue (is_numbered_behind before line) → IsTrue (is_another before line)
behind_other before line behind = is_other before line (λ other there same.
    let less = ltb-true other.number line.number (all_at (λ (o : Line). ltb o.number line.number) other before there behind) in
    let equal = eqb-true other.number line.number (and_parts (eqb other.client line.client) (eqb other.number line.number) same).1 in
    omega arith)

all_behind : (before ls : List Line) → IsTrue (each_after is_numbered_behind before ls) → IsTrue (each_after is_another before ls)
all_behind before [] so = refl
all_behind before (line ∷ ls) so =
    let parts = and_parts (is_numbered_behind before line) (each_after is_numbered_behind (before ++ line ∷ []) ls) so in
    and_from (is_another before line) (each_after is_another (before ++ line ∷ []) ls) (behind_other before line parts.0) (all_behind (before ++ line ∷ []) ls parts.1)

-- lines of client 0 that are numbered from here on, behind lines of other clients and those of lesser numbers
abbrev Before : ℕ → Line → Type 0
Before number line = IsFalse (eqb line.client 0) ⊎ (line.number < number)

numbered_other : (number : ℕ) (before : List Line) (commands : List Command) → ((other : Line) → In other before → Before number other) → IsTrue (each_after is_another before (numbered number commands))
numbered_other number before [] each = refl
numbered_other number before (command ∷ commands) each =
    let line : Line = record { number = number; client = 0; order = command } in
    and_from (is_another before line) (each_after is_another (before ++ line ∷ []) (numbered (suc number) commands))
    (is_other before line (λ other there same. differs other (each other there) same))
    (numbered_other (suc number) (before ++ line ∷ []) commands (λ other there. elim (in_snoc other before line there) [ inl old ↦ later other (each other old) | inr is ↦ inr (let n : other.number ≡ number = ap (λ (l : Line). l.number) is in omega arith) ]))
  where
    differs : (other : Line) → Before number other → IsTrue (eqb other.client 0 && eqb other.number number) → ⊥
    differs other (inl client) same = true≢false (sym (and_parts (eqb other.client 0) (eqb other.number number) same).0 ∙ client)
    differs other (inr less) same = (let equal = eqb-true other.number number (and_parts (eqb other.client 0) (eqb other.number number) same).1 in let l : other.number < number = less in omega arith)

    later : (other : Line) → Before number other → Before (suc number) other
    later other (inl client) = inl client
    later other (inr less) = inr (let l : other.number < number = less in omega arith)

pub numbered_differ : (asked : Asked) → IsTrue (is_script asked.script.lines) → IsTrue (are_asks asked) → LinesDiffer asked
numbered_differ asked script asks =
    each_joined is_another [] (asked.script.lines ++ asked.asks) (background_lines asked.order asked.settings)
    (all_behind [] (asked.script.lines ++ asked.asks) (each_joined is_numbered_behind [] asked.script.lines asked.asks ordered.0 asks_behind))
    (behind_all asked.order)
  where
    ordered : IsTrue (each_after is_numbered_behind [] asked.script.lines) × IsTrue (list_all (λ (line : Line). not (eqb line.client 0)) asked.script.lines)
    ordered = and_parts (each_after is_numbered_behind [] asked.script.lines) (list_all (λ (line : Line). not (eqb line.client 0)) asked.script.lines) script

    ask_parts : IsTrue (list_all may_be_asked asked.asks) × IsTrue (each_after is_numbered_behind asked.script.lines asked.asks && (is_some asked.order || eqb (length asked.asks) 0))
    ask_parts = first_two (list_all may_be_asked asked.asks) (each_after is_numbered_behind asked.script.lines asked.asks) (is_some asked.order || eqb (length asked.asks) 0) asks
      where
        first_two : (a b c : Bool) → IsTrue (a && b && c) → IsTrue a × IsTrue (b && c)
        first_two true b c is = (refl, is)
        first_two false b c is = absurd (false≢true is)

    asks_behind : IsTrue (each_after is_numbered_behind asked.script.lines asked.asks)
    asks_behind = (and_parts (each_after is_numbered_behind asked.script.lines asked.asks) (is_some asked.order || eqb (length asked.asks) 0) ask_parts.1).0

    client_of : (other : Line) → In other (asked.script.lines ++ asked.asks) → IsFalse (eqb other.client 0)
    client_of other there = elim (in_append other asked.script.lines asked.asks there) [
      | inl of_script ↦ not-true (eqb other.client 0) (all_at (λ (line : Line). not (eqb line.client 0)) other asked.script.lines of_script ordered.1)
      | inr of_asks ↦ of_session other (and_parts (eqb other.client session_client) _ (all_at may_be_asked other asked.asks of_asks ask_parts.0)).0
    ]
      where
        of_session : (line : Line) → IsTrue (eqb line.client session_client) → IsFalse (eqb line.client 0)
        of_session line is = subst (λ (n : ℕ). IsFalse (eqb n 0)) (sym (eqb-true line.client session_client is)) refl

    behind_all : (order : Option Order) → IsTrue (each_after is_another (asked.script.lines ++ asked.asks) (background_lines order asked.settings))
    behind_all None = numbered_other 1 (asked.script.lines ++ asked.asks) (background asked.settings) (λ other there. inl (client_of other there))
    behind_all (Some order) = refl
