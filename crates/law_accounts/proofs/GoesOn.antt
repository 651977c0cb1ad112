-- An account is kept with each entry more.
use Rattle.std.proofs.Common.{◌≡◌, ◌≤◌, ◌<◌, ℕ, false, ◌||◌, not, List, [], refl, sym, subst, ap, ◌∙◌, ◌⊎◌, inl, inr, eqb, arith}
use Rattle.std.specs.Prelude.{IsFalse, IsTrue, Option, Some, is_some, length}
use Rattle.std.specs.List.{list_all}
use Rattle.std.proofs.lemmas.Bool.{and_from, and_parts, cases_Bool, eq-eqb, eqb-false, eqb-true, or_right, true≢false}
use Rattle.aft_model.specs.declared.caller.By.{By}
use Rattle.aft_model.specs.declared.node.NodeEntry.{NodeEntry}
use Rattle.aft_model.specs.declared.script.Line.{Line}
use Rattle.aft_model.proofs.Histories.{In}
use Rattle.aft_model.specs.Opening.{opening}
use Rattle.aft_model.specs.ScanRun.{same_line}
use Rattle.aft_lines.specs.Advance.{is_led_to_end, leads_to}
use Rattle.aft_lines.specs.Asked.{Asked, Ran}
use Rattle.aft_lines.specs.FinishedText.{line_of}
use Rattle.aft_lines.specs.CausesAttempts.{speaks_of_attempt}
use Rattle.aft_lines.specs.LegalTrace.{named_node, stands_at, turn_of, turn_words}
use Rattle.aft_lines.specs.Makes.{makes}
use Rattle.aft_lines.specs.LineView.{LineView, ends_of}
use Rattle.aft_lines.specs.Lines.{lines, node_numbers, whole_order}
use Rattle.aft_lines.specs.Progress.{Progress}
use Rattle.aft_lines.specs.RunsSoFar.{is_stopped_rightly, position_of}
use Rattle.aft_lines.specs.Turns.{Turn, turns}
use Rattle.aft_lines.specs.Views.{view_of}
use Rattle.law_grows.proofs.Positions.{end_within, positions_over}
use Rattle.law_grows.specs.Reach.{is_within}
use Rattle.law_held.proofs.DeskHeld.{among_itself}
use Rattle.law_held.specs.Desk.{LinesDiffer}
use Rattle.law_runs.specs.Runs.{line_among}
use Rattle.law_accounts.proofs.Idle.{turns_none}
use Rattle.law_accounts.proofs.Lists.{all_more}
use Rattle.law_accounts.proofs.Orders.{as_ordered, opening_parts, asks_so, clients_so, makers_so, opens_so}
use Rattle.law_accounts.proofs.Values.{boxes_stay, bytes_stay, clock_stays, door_stays, give_ups_stay, nodes_stay, office_stays_legal, settings_stay, stays_open}
use Rattle.law_accounts.proofs.Views.{view_same}
use Rattle.law_accounts.proofs.Within.{turns_within}
use Rattle.law_accounts.specs.Account.{Account, ComesToEnd, GoesAlong, IsDone, MayBeside, MayGoOn, NoneCollects, Runs, Stand, StandsBehind, Waits, beside, has_made_nothing}
use Rattle.law_accounts.specs.Adding.{AddsAtBox, AddsAtDoor, AddsAtNode, AddsAtOffice, Added, ComesAsOrdered, Follows, maker_of, with_added}

-- ---- a line that has made nothing

-- it goes along
pub goes_idle : (view : LineView) → view.turns ≡ [] → GoesAlong view
goes_idle view none = record {
  leads = subst (λ (l : List Turn). IsTrue (is_some (leads_to view.command (node_numbers view.settings) (ends_of view) l))) (sym none) refl;
  stopped = subst (λ (l : List Turn). IsTrue (is_stopped_rightly view.seen l (leads_to view.command (node_numbers view.settings) (ends_of view) l))) (sym none) refl;
  makes = subst (λ (l : List Turn). IsTrue (list_all (makes view.command) l)) (sym none) refl;
  words = subst (λ (l : List Turn). IsTrue (list_all (turn_words view.command) l)) (sym none) refl;
  places = subst (λ (l : List Turn). IsTrue (list_all (stands_at (named_node view.command view.hold)) l)) (sym none) refl;
  speaks = subst (λ (l : List Turn). IsTrue (not (speaks_of_attempt view.command) || list_all (turn_of view.hold.attempt) l)) (sym none) (or_right _ _ refl);
}

-- ---- lines of a run

-- who is the same line is this one
pub same_is : (asked : Asked) → LinesDiffer asked → (other line : Line) → In other (lines asked) → In line (lines asked) → IsTrue (same_line (line_of other) (line_of line)) → other ≡ line
same_is asked differ other line listed among same = some_is other line (sym (among_itself [] (lines asked) differ other listed) ∙ ap (λ (b : By). line_among b (lines asked)) own ∙ among_itself [] (lines asked) differ line among)
  where
    own : line_of other ≡ line_of line
    own =
        let parts = and_parts (eqb other.client line.client) (eqb other.number line.number) same in
        ap (λ c. record { client = c; line = other.number }) (eqb-true other.client line.client parts.0) ∙ ap (λ n. record { client = line.client; line = n }) (eqb-true other.number line.number parts.1)

    some_is : (a b : Line) → Some a ≡ Some b → a ≡ b
    some_is a b e = cc

-- ---- a line beside other nodes

module _ (view : LineView) (nodes : List (List NodeEntry)) (reach : ℕ) (within : IsTrue (list_all (is_within reach) view.turns)) (may : MayBeside view nodes) where
  position_beside : position_of (beside nodes view) ≡ position_of view
  position_beside =
      positions_over view.command (node_numbers view.settings) reach (ends_of (beside nodes view)) (ends_of view) view.turns
      (record { seen = λ place low. refl; shut_out = λ who front low. refl; left = refl }) (λ collects. ap (λ (n : List (List NodeEntry)). (ends_of (beside n view)).is_kept) (may collects)) refl within

  pub goes_beside : GoesAlong view → GoesAlong (beside nodes view)
  goes_beside goes = record {
    leads = subst (λ (p : Option Progress). IsTrue (is_some p)) (sym position_beside) goes.leads;
    stopped = subst (λ (p : Option Progress). IsTrue (is_stopped_rightly view.seen view.turns p)) (sym position_beside) goes.stopped;
    makes = goes.makes;
    words = goes.words;
    places = goes.places;
    speaks = goes.speaks;
  }

  pub ends_beside : ComesToEnd view → ComesToEnd (beside nodes view)
  ends_beside ends = record {
    leads = subst (λ (p : Option Progress). IsTrue (is_led_to_end p)) (sym position_beside) ends.leads;
    answers = ends.answers;
    posts = ends.posts;
    caused = λ others reply so last. ends.caused others reply (λ collects. so collects ∙ may collects) last;
  }

-- ---- one entry more

module _ (asked : Asked) (ran : Ran) (stand later : Line → Stand) (line : Line) (added : Added) (account : Account asked ran stand) (may : MayGoOn asked stand line) (by : maker_of added ≡ line_of line) (follows : Follows asked ran added)
    (ordered : ComesAsOrdered asked ran added) (none : NoneCollects asked stand added) (behind : StandsBehind asked stand later line (view_of asked (with_added added ran) line)) where
  abbrev new : Ran
  new = with_added added ran

  unless_over : stand line ≡ IsDone → ⊥
  unless_over done = cases may.unless_over
    where
      cases : (stand line ≡ Waits) ⊎ (stand line ≡ Runs) → ⊥
      cases (inl waits) = cc
      cases (inr runs) = cc

  has_begun : later line ≡ Waits → ⊥
  has_begun waits = cases behind.now
    where
      cases : (later line ≡ Runs) ⊎ (later line ≡ IsDone) × ComesToEnd (view_of asked new line) → ⊥
      cases (inl runs) = cc
      cases (inr over) = (let done = over.0 in cc)

  stranger : IsFalse (same_line opening (maker_of added))
  stranger = subst (λ (b : By). IsFalse (same_line opening b)) (sym by) (account.strangers line may.among)

  -- who is the same line is this one
  is_it : (other : Line) → In other (lines asked) → IsTrue (same_line (line_of other) (line_of line)) → other ≡ line
  is_it other listed same = same_is asked account.differ other line listed may.among same

  its_maker : (other : Line) → IsFalse (same_line (line_of other) (line_of line)) → IsFalse (same_line (line_of other) (maker_of added))
  its_maker other differs = subst (λ (b : By). IsFalse (same_line (line_of other) b)) (sym by) differs

  -- ---- another line that has begun

  module _ (other : Line) (listed : In other (lines asked)) (differs : IsFalse (same_line (line_of other) (line_of line))) (begun : stand other ≡ Waits → ⊥) where
    abbrev old_view : LineView
    old_view = view_of asked ran other

    within : IsTrue (list_all (is_within (length ran.trace.door)) (turns (line_of other) ran.trace))
    within = turns_within (line_of other) asked.settings.cache ran.trace account.nodes account.office

    -- no earlier line of its client is this one, which isn't over
    none_earlier : (one : Line) → one.client ≡ other.client → one.number ≤ other.number → IsFalse (same_line (line_of one) (maker_of added))
    none_earlier one client low = elim (cases_Bool (same_line (line_of one) (line_of line))) [
      | inl same ↦
          let parts = and_parts (eqb one.client line.client) (eqb one.number line.number) same in
          let its = eqb-true one.number line.number parts.1 in
          absurd (apart (sym client ∙ eqb-true one.client line.client parts.0) (subst (λ n. n ≤ other.number) its low))
      | inr not_it ↦ its_maker one not_it
    ]
      where
        apart : other.client ≡ line.client → line.number ≤ other.number → ⊥
        apart client low = elim (cases_Bool (eqb other.number line.number)) [
          | inl number ↦ true≢false (sym (and_from _ _ (eq-eqb other.client line.client client) number) ∙ differs)
          | inr more ↦ elim (account.in_turn line other may.among listed client (above line.number other.number low more)) [ inl waits ↦ begun waits | inr done ↦ unless_over done ]
        ]
          where
            above : (a b : ℕ) → a ≤ b → eqb b a ≡ false → a < b
            above a b le differ = (let apart = eqb-false b a differ in lt_of a b le (λ e. apart (sym e)))
              where
                lt_of : (a b : ℕ) → a ≤ b → (a ≡ b → ⊥) → a < b
                lt_of a b le apart = grind arith

    view_is : view_of asked new other ≡ beside new.trace.nodes old_view
    view_is = view_same asked ran added other (λ one client low. none_earlier one client (omega arith)) stranger (none_earlier other refl (omega arith)) (end_within (length ran.trace.door) (turns (line_of other) ran.trace) within)

    may_beside : MayBeside old_view new.trace.nodes
    may_beside collects = cases added none
      where
        cases : (one : Added) → NoneCollects asked stand one → (with_added one ran).trace.nodes ≡ ran.trace.nodes
        cases (AddsAtDoor entry) idle = refl
        cases (AddsAtNode node entry) idle = absurd (begun (idle other listed collects))
        cases (AddsAtOffice entry) idle = refl
        cases (AddsAtBox box entry) idle = refl

    other_goes : GoesAlong (view_of asked new other)
    other_goes = subst GoesAlong (sym view_is) (goes_beside old_view new.trace.nodes (length ran.trace.door) within may_beside (account.going other listed))

    other_ends : ComesToEnd old_view → ComesToEnd (view_of asked new other)
    other_ends ends = subst ComesToEnd (sym view_is) (ends_beside old_view new.trace.nodes (length ran.trace.door) within may_beside ends)

  -- ---- all lines

  waits_still : (other : Line) → IsFalse (same_line (line_of other) (line_of line)) → IsTrue (has_made_nothing other ran) → IsTrue (has_made_nothing other new)
  waits_still other differs nothing =
      makers_so (list_all (λ (b : By). not (same_line (line_of other) b))) ran added nothing (λ xs inside is. all_more (λ (b : By). not (same_line (line_of other) b)) xs (maker_of added) is (ap not (its_maker other differs)))

  waiting : (other : Line) → In other (lines asked) → later other ≡ Waits → IsTrue (has_made_nothing other new)
  waiting other listed waits = elim (cases_Bool (same_line (line_of other) (line_of line))) [
    | inl same ↦ absurd (has_begun (ap later (sym (is_it other listed same)) ∙ waits))
    | inr differs ↦ waits_still other differs (account.waiting other listed (sym (behind.others other listed differs) ∙ waits))
  ]

  going : (other : Line) → In other (lines asked) → GoesAlong (view_of asked new other)
  going other listed = elim (cases_Bool (same_line (line_of other) (line_of line))) [
    | inl same ↦ subst (λ (l : Line). GoesAlong (view_of asked new l)) (sym (is_it other listed same)) behind.goes
    | inr differs ↦ by_stand differs (stand other) refl
  ]
    where
      by_stand : IsFalse (same_line (line_of other) (line_of line)) → (s : Stand) → stand other ≡ s → GoesAlong (view_of asked new other)
      by_stand differs Waits is = goes_idle (view_of asked new other) (turns_none (line_of other) new (waits_still other differs (account.waiting other listed is)))
      by_stand differs Runs is = other_goes other listed differs (λ waits. no (sym is ∙ waits))
        where
          no : Runs ≡ Waits → ⊥
          no e = cc
      by_stand differs IsDone is = other_goes other listed differs (λ waits. no (sym is ∙ waits))
        where
          no : IsDone ≡ Waits → ⊥
          no e = cc

  over : (other : Line) → In other (lines asked) → later other ≡ IsDone → ComesToEnd (view_of asked new other)
  over other listed done = elim (cases_Bool (same_line (line_of other) (line_of line))) [
    | inl same ↦ subst (λ (l : Line). ComesToEnd (view_of asked new l)) (sym (is_it other listed same)) (own behind.now (ap later (sym (is_it other listed same)) ∙ done))
    | inr differs ↦
        let was = sym (behind.others other listed differs) ∙ done in
        other_ends other listed differs (λ waits. no (sym waits ∙ was)) (account.over other listed was)
  ]
    where
      no : Waits ≡ IsDone → ⊥
      no e = cc

      own : (later line ≡ Runs) ⊎ (later line ≡ IsDone) × ComesToEnd (view_of asked new line) → later line ≡ IsDone → ComesToEnd (view_of asked new line)
      own (inl runs) done = absurd (not_both (sym runs ∙ done))
        where
          not_both : Runs ≡ IsDone → ⊥
          not_both e = cc
      own (inr ended) done = ended.1

  in_turn : (one other : Line) → In one (lines asked) → In other (lines asked) → other.client ≡ one.client → one.number < other.number → (later other ≡ Waits) ⊎ (later one ≡ IsDone)
  in_turn one other listed listed' client above = elim (cases_Bool (same_line (line_of other) (line_of line))) [
    | inl same ↦
        let it = is_it other listed' same in
        let differs = differ one (subst (λ (l : Line). one.number < l.number) it above) in
        inr (behind.others one listed differs ∙ may.earlier one listed (sym client ∙ ap (λ (l : Line). l.client) it) (subst (λ (l : Line). one.number < l.number) it above))
    | inr differs' ↦ elim (cases_Bool (same_line (line_of one) (line_of line))) [
      | inl same ↦
          let it = is_it one listed same in
          elim (account.in_turn line other may.among listed' (client ∙ ap (λ (l : Line). l.client) it) (subst (λ (l : Line). l.number < other.number) it above)) [
            | inl waits ↦ inl (behind.others other listed' differs' ∙ waits)
            | inr done ↦ absurd (unless_over done)
          ]
      | inr differs ↦ elim (account.in_turn one other listed listed' client above) [
        | inl waits ↦ inl (behind.others other listed' differs' ∙ waits)
        | inr done ↦ inr (behind.others one listed differs ∙ done)
      ]
    ]
  ]
    where
      differ : (one : Line) → one.number < line.number → IsFalse (same_line (line_of one) (line_of line))
      differ one low = elim (cases_Bool (same_line (line_of one) (line_of line))) [
        | inl same ↦ (let its = eqb-true one.number line.number (and_parts (eqb one.client line.client) (eqb one.number line.number) same).1 in absurd (below one.number line.number low its))
        | inr apart ↦ apart
      ]
        where
          below : (a b : ℕ) → a < b → a ≡ b → ⊥
          below a b lt e = omega arith

  pub goes_on : Account asked new later
  goes_on = record {
    settings = settings_stay asked ran added account.settings;
    bytes = bytes_stay asked ran added account.bytes follows;
    door = door_stays asked ran added account.door follows;
    opened = stays_open ran added account.opened;
    nodes = nodes_stay asked ran added account.nodes follows;
    office = office_stays_legal asked ran added account.opened account.office follows;
    boxes = boxes_stay asked ran added account.boxes follows;
    opens = opens_so asked ran added line may.among by stranger follows account.opens;
    clock = clock_stays asked ran added account.clock follows;
    clients = clients_so asked ran stand line added account may by (opening_parts asked ran account.opens).0;
    whole_lines = as_ordered ran added (whole_order asked) account.whole_lines ordered.0;
    asks_last = asks_so asked ran added account.asks_last ordered.1;
    give_ups = give_ups_stay asked ran added account.give_ups follows;
    differ = account.differ;
    strangers = account.strangers;
    waiting = waiting;
    going = going;
    over = over;
    in_turn = in_turn;
  }
