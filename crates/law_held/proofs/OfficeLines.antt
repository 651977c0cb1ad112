-- Lines that make their turns at the door, and their last at the office: their own steps are their turns but for those at the office.
use Rattle.std.proofs.Common.{◌≡◌, ℕ, Bool, true, false, ◌||◌, not, List, [], ◌∷◌, ◌++◌, ◌+◌, refl, sym, ap, subst, ◌∙◌, inl, inr, eqb, arith, append-nil}
use Rattle.std.specs.Prelude.{IsTrue, IsFalse, None, Option, Some, filter, if◌then◌else◌, is_none}
use Rattle.std.specs.List.{fold, list_all}
use Rattle.std.proofs.lemmas.Bool.{ne_eqb, or_left, or_right, true≢false}
use Rattle.std.proofs.lemmas.List.Sums.{fold-append}
use Rattle.aft_model.specs.declared.caller.By.{By}
use Rattle.aft_model.specs.declared.node.NodeEntry.{NodeEntry}
use Rattle.aft_model.specs.declared.office.OfficeEntry.{OfficeEntry}
use Rattle.aft_model.specs.declared.script.Command.{Command}
use Rattle.aft_model.specs.declared.script.Line.{Line}
use Rattle.aft_model.specs.declared.trace.Trace.{Trace}
use Rattle.aft_model.specs.ScanRun.{same_line}
use Rattle.aft_model.proofs.Histories.{In, all_at, in_append, in_front}
use Rattle.aft_model.proofs.Lists.{all_from, in_filter, in_map}
use Rattle.aft_lines.specs.Advance.{advanced}
use Rattle.aft_lines.specs.Asked.{Asked, Ran}
use Rattle.aft_lines.specs.Lines.{lines}
use Rattle.aft_lines.specs.Makes.{makes}
use Rattle.aft_lines.specs.Progress.{IsOver, Progress}
use Rattle.aft_lines.specs.Steps.{Made, own_steps}
use Rattle.aft_lines.specs.Turns.{AtDoor, AtNode, AtOffice, Turn, door_turns, given_in, moment, nodes_turns, office_turns, precedes, turns, with_turn}
use Rattle.law_runs.specs.Runs.{Goes, run_steps, without_office}
use Rattle.law_runs.proofs.Members.{in_turns, no_office_step}
use Rattle.law_runs.proofs.Nodes.{rises_without}
use Rattle.law_runs.proofs.Own.{by_line, makes_all}
use Rattle.law_runs.proofs.Walks.{from_nowhere}
use Rattle.law_steps.proofs.Own.{own_turns}
use Rattle.law_steps.specs.OneList.{IsOrdinary, entries_of}
use Rattle.law_turns.specs.Order.{is_at_office, same_list}
use Rattle.law_turns.proofs.Lists.{filter_all}

-- ---- what its turns but for those at the office lead to

same_inside : (p q : Progress) → Some p ≡ Some q → p ≡ q
same_inside p q is = cc

-- of positions that are of a kind which each turn keeps: a turn at the office is the last, and leaves what is looked at
module _ {X : Type 0} (go : Progress → Turn → Option Progress) (view : Progress → X) (Kind : Progress → Type 0) (kept : (position q : Progress) (turn : Turn) → Kind position → go position turn ≡ Some q → Kind q)
    (last : (history : List OfficeEntry) (entry : OfficeEntry) (position q : Progress) → go position (AtOffice history entry) ≡ Some q → q ≡ IsOver)
    (leaves : (history : List OfficeEntry) (entry : OfficeEntry) (position q : Progress) → Kind position → go position (AtOffice history entry) ≡ Some q → view q ≡ view position) (over : (turn : Turn) → go IsOver turn ≡ None) where
  pub kinds : (line : List Turn) (position p : Progress) → Kind position → fold (advanced go) (Some position) line ≡ Some p → Kind p
  kinds [] position p kind is = subst Kind (same_inside position p is) kind
  kinds (turn ∷ line) position p kind is = next (go position turn) refl (λ q so e. kinds line q p so e) is
    where
      next : (o : Option Progress) → go position turn ≡ o → ((q : Progress) → Kind q → fold (advanced go) (Some q) line ≡ Some p → Kind p) → fold (advanced go) o line ≡ Some p → Kind p
      next None at rest e = absurd (from_nowhere go line p e)
      next (Some q) at rest e = rest q (kept position q turn kind at) e

  abbrev pub Same : Progress → List Turn → Progress → Type 0
  Same position line p = (q : Progress) × (fold (advanced go) (Some position) (filter (λ (t : Turn). not (is_at_office t)) line) ≡ Some q) × (view q ≡ view p)

  nothing_behind : (line : List Turn) (p : Progress) → fold (advanced go) (Some IsOver) line ≡ Some p → (line ≡ []) × (IsOver ≡ p)
  nothing_behind [] p is = (refl, same_inside IsOver p is)
  nothing_behind (turn ∷ line) p is = absurd (from_nowhere go line p (subst (λ (o : Option Progress). fold (advanced go) o line ≡ Some p) (over turn) is))

  pub but_office : (line : List Turn) (position p : Progress) → Kind position → fold (advanced go) (Some position) line ≡ Some p → Same position line p
  but_office [] position p kind is = (position, refl, ap view (same_inside position p is))
  but_office (AtOffice history entry ∷ line) position p kind is = next (go position (AtOffice history entry)) refl is
    where
      next : (o : Option Progress) → go position (AtOffice history entry) ≡ o → fold (advanced go) o line ≡ Some p → Same position (AtOffice history entry ∷ line) p
      next None at e = absurd (from_nowhere go line p e)
      next (Some q) at e =
          let is_over = last history entry position q at in
          let behind = nothing_behind line p (subst (λ (x : Progress). fold (advanced go) (Some x) line ≡ Some p) is_over e) in
          subst (λ (l : List Turn). Same position (AtOffice history entry ∷ l) p) (sym behind.0) (position, refl, sym (leaves history entry position q kind at) ∙ ap view (is_over ∙ behind.1))
  but_office (AtDoor place act ∷ line) position p kind is = next (go position (AtDoor place act)) refl (λ q so e. but_office line q p so e) is
    where
      next : (o : Option Progress) → go position (AtDoor place act) ≡ o → ((q : Progress) → Kind q → fold (advanced go) (Some q) line ≡ Some p → Same q line p) → fold (advanced go) o line ≡ Some p → Same position (AtDoor place act ∷ line) p
      next None at more e = absurd (from_nowhere go line p e)
      next (Some q) at more e =
          let rest = more q (kept position q (AtDoor place act) kind at) e in
          (rest.0, ap (λ (o : Option Progress). fold (advanced go) o (filter (λ (t : Turn). not (is_at_office t)) line)) at ∙ rest.1, rest.2)
  but_office (AtNode node history entry ∷ line) position p kind is = next (go position (AtNode node history entry)) refl (λ q so e. but_office line q p so e) is
    where
      next : (o : Option Progress) → go position (AtNode node history entry) ≡ o → ((q : Progress) → Kind q → fold (advanced go) (Some q) line ≡ Some p → Same q line p) → fold (advanced go) o line ≡ Some p → Same position (AtNode node history entry ∷ line) p
      next None at more e = absurd (from_nowhere go line p e)
      next (Some q) at more e =
          let rest = more q (kept position q (AtNode node history entry) kind at) e in
          (rest.0, ap (λ (o : Option Progress). fold (advanced go) o (filter (λ (t : Turn). not (is_at_office t)) line)) at ∙ rest.1, rest.2)

-- ---- turns that are put in order, but for those at the office

skips : (line : List Turn) (turn : Turn) → is_at_office turn ≡ true → filter (λ (t : Turn). not (is_at_office t)) (with_turn line turn) ≡ filter (λ (t : Turn). not (is_at_office t)) line
skips [] turn is = ap (λ (b : Bool). if not b then turn ∷ [] else []) is
skips (other ∷ line) turn is = cases (precedes turn other) (skips line turn is)
  where
    rest : List Turn
    rest = filter (λ (t : Turn). not (is_at_office t)) line

    cases : (b : Bool) → filter (λ (t : Turn). not (is_at_office t)) (with_turn line turn) ≡ filter (λ (t : Turn). not (is_at_office t)) line
        → filter (λ (t : Turn). not (is_at_office t)) (if b then turn ∷ other ∷ line else other ∷ with_turn line turn) ≡ filter (λ (t : Turn). not (is_at_office t)) (other ∷ line)
    cases true more = ap (λ (b : Bool). if not b then turn ∷ filter (λ (t : Turn). not (is_at_office t)) (other ∷ line) else filter (λ (t : Turn). not (is_at_office t)) (other ∷ line)) is
    cases false more = ap (λ (l : List Turn). if not (is_at_office other) then other ∷ l else l) more

skips_all : (acc line : List Turn) → ((x : Turn) → In x line → is_at_office x ≡ true) → filter (λ (t : Turn). not (is_at_office t)) (fold with_turn acc line) ≡ filter (λ (t : Turn). not (is_at_office t)) acc
skips_all acc [] each = refl
skips_all acc (turn ∷ line) each = skips_all (with_turn acc turn) line (λ x there. each x (inr there)) ∙ skips acc turn (each turn (inl refl))

office_alone : (by : By) (before office : List OfficeEntry) (x : Turn) → In x (office_turns by before office) → is_at_office x ≡ true
office_alone by before [] x among = absurd among
office_alone by before (entry ∷ office) x among = elim (in_append x (if same_line by entry.by then AtOffice before entry ∷ [] else []) (office_turns by (before ++ entry ∷ []) office) among) [
  | inl here ↦ at_here (same_line by entry.by) here
  | inr later ↦ office_alone by (before ++ entry ∷ []) office x later
]
  where
    at_here : (b : Bool) → In x (if b then AtOffice before entry ∷ [] else []) → is_at_office x ≡ true
    at_here true (inl is) = ap is_at_office is
    at_here true (inr none) = absurd none
    at_here false none = absurd none

-- ---- a line

-- turns of such a line of one moment stand in one list, and give nothing up
tied_so : (command : Command) (none : (node : ℕ) (history : List NodeEntry) (entry : NodeEntry) → IsFalse (makes command (AtNode node history entry))) (turn other : Turn) → IsTrue (makes command turn) → IsTrue (makes command other) → IsTrue (not (eqb (moment turn) (moment other)) || same_list turn other)
tied_so command none (AtDoor place act) (AtDoor q act') made also = or_right (not (eqb (place + place + 1) (q + q + 1))) true refl
tied_so command none (AtDoor place act) (AtOffice history entry) made also = or_left (not (eqb (place + place + 1) (entry.front + entry.front))) false (ap not (ne_eqb (place + place + 1) (entry.front + entry.front) (λ e. odd place entry.front e)))
  where
    odd : (p f : ℕ) → p + p + 1 ≡ f + f → ⊥
    odd p f e = omega arith
tied_so command none (AtOffice history entry) (AtDoor place act) made also = or_left (not (eqb (entry.front + entry.front) (place + place + 1))) false (ap not (ne_eqb (entry.front + entry.front) (place + place + 1) (λ e. odd place entry.front (sym e))))
  where
    odd : (p f : ℕ) → p + p + 1 ≡ f + f → ⊥
    odd p f e = omega arith
tied_so command none (AtOffice history entry) (AtOffice history' entry') made also = or_right (not (eqb (entry.front + entry.front) (entry'.front + entry'.front))) true refl
tied_so command none (AtNode node history entry) other made also = absurd (true≢false (sym made ∙ none node history entry))
tied_so command none turn (AtNode node history entry) made also = absurd (true≢false (sym also ∙ none node history entry))

none_given : (command : Command) (none : (node : ℕ) (history : List NodeEntry) (entry : NodeEntry) → IsFalse (makes command (AtNode node history entry))) (turn : Turn) → IsTrue (makes command turn) → IsTrue (is_none (given_in turn))
none_given command none (AtDoor place act) made = refl
none_given command none (AtOffice history entry) made = refl
none_given command none (AtNode node history entry) made = absurd (true≢false (sym made ∙ none node history entry))

module _ (asked : Asked) (ran : Ran) (so : Goes asked ran) (line : Line) (among : In line (lines asked)) (command : Command) (order : line.order ≡ command) (none : (node : ℕ) (history : List NodeEntry) (entry : NodeEntry) → IsFalse (makes command (AtNode node history entry))) where
  abbrev its : By
  its = by_line asked ran so line among

  abbrev plain : Trace
  plain = without_office ran.trace

  abbrev fronts : List Turn
  fronts = nodes_turns its 1 ran.trace.nodes ++ door_turns its 0 ran.trace.door

  makes_it : (x : Turn) → In x (entries_of its plain) → IsTrue (makes command x)
  makes_it x there =
      subst (λ (c : Command). IsTrue (makes c x)) order (all_at (makes line.order) x (turns its ran.trace) (in_turns its ran.trace x (in_front x fronts (office_turns its [] ran.trace.office) (subst (λ (l : List Turn). In x l) (append-nil fronts) there))) (makes_all asked ran so line among))

  ordinary : IsOrdinary its plain
  ordinary = record {
    quiet = all_from (λ (t : Turn). is_none (given_in t)) (entries_of its plain) (λ t there. none_given command none t (makes_it t there));
    ties = all_from (λ (t : Turn). list_all (λ (o : Turn). not (eqb (moment t) (moment o)) || same_list t o) (entries_of its plain)) (entries_of its plain)
        (λ t there. all_from (λ (o : Turn). not (eqb (moment t) (moment o)) || same_list t o) (entries_of its plain) (λ o also. tied_so command none t o (makes_it t there) (makes_it o also)));
  }

  own : own_steps its (run_steps ran) ≡ turns its plain
  own = own_turns its plain (rises_without asked.settings.cache ran.trace so.nodes) ordinary

  none_at_office : (x : Turn) → In x (own_steps its (run_steps ran)) → is_at_office x ≡ false
  none_at_office x there =
      let made = in_map (λ (m : Made). m.turn) x (filter (λ (m : Made). same_line its m.by) (run_steps ran)) there in
      ap is_at_office made.2 ∙ no_office_step ran.trace made.0 (in_filter (λ (m : Made). same_line its m.by) made.0 (run_steps ran) made.1).0

  pub own_but_office : own_steps its (run_steps ran) ≡ filter (λ (t : Turn). not (is_at_office t)) (turns its ran.trace)
  own_but_office =
      sym (filter_all (λ (t : Turn). not (is_at_office t)) (own_steps its (run_steps ran)) (λ x there. ap not (none_at_office x there)))
      ∙ (ap (filter (λ (t : Turn). not (is_at_office t))) (own ∙ ap (λ (l : List Turn). fold with_turn [] l) (append-nil fronts))
      ∙ (sym (skips_all (fold with_turn [] fronts) (office_turns its [] ran.trace.office) (office_alone its [] ran.trace.office))
      ∙ ap (filter (λ (t : Turn). not (is_at_office t))) (sym (fold-append with_turn [] fronts (office_turns its [] ran.trace.office)))))
