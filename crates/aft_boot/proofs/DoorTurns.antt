-- The turns of a start at the door, by what the door tells.
use Rattle.std.proofs.Common.{◌≡◌, ◌≢◌, ◌+◌, ℕ, Bool, true, false, not, List, [], ◌∷◌, ◌++◌, eqb, length, refl, sym, ap, subst, ◌∙◌, inl, inr, append-nil, arith}
use Rattle.std.specs.Prelude.{Err, IfSome, IsTrue, None, Ok, OnErr, OnOk, Option, Result, Some, if◌then◌else◌}
use Rattle.std.proofs.lemmas.Bool.{and_parts, false≢true, not-true, or_cases, true≢false, eq-eqb}
use Rattle.aft_keeper.specs.declared.keeper.KeeperAnswer.{KeeperAnswer}
use Rattle.aft_keeper.specs.declared.keeper.KeeperAnswer.TheVariants as answers
use Rattle.aft_keeper.specs.declared.keeper.KeeperCall.TheVariants.{Scan}
use Rattle.aft_keeper.specs.declared.keeper.Pair.{Pair}
use Rattle.aft_records.specs.declared.stored.Commit.{Commit}
use Rattle.aft_model.specs.declared.caller.By.{By}
use Rattle.aft_model.specs.declared.caller.Caller.{Caller}
use Rattle.aft_model.specs.declared.door.DoorAct.TheVariants.{Up}
use Rattle.aft_model.specs.declared.door.DoorEntry.{DoorEntry}
use Rattle.aft_model.specs.declared.reply.Reply.{Reply}
use Rattle.aft_model.specs.declared.reply.Reply.TheVariants as replies
use Rattle.aft_model.specs.Membership.{incarnation, is_up, up_now}
use Rattle.aft_model.specs.NodeSights.{is_fenced}
use Rattle.aft_model.specs.Sound.{records_prefix}
use Rattle.aft_door.specs.Calls.{DoorView, Shows, may_be_untold, told_page, with_entry}
use Rattle.aft_door.specs.Entries.{called, came_up}
use Rattle.aft_door.specs.Refusals.{RefusedBy, RefusedOrFailed, if_fenced, if_past, is_past}
use Rattle.aft_door.specs.declared.fault.DoorFault.{DoorFault}
use Rattle.aft_door.specs.declared.fault.DoorFault.TheVariants as faults
use Rattle.aft_lines.specs.Turns.{AtDoor, Turn}
use Rattle.aft_node.specs.declared.goes.BootEnd.TheVariants.{Refused, Shown}
use Rattle.aft_boot.specs.Booted.{HasBegun, IsShutOut, PageAt, begun_turns, made_at, may_call_at, page_act}
use Rattle.aft_boot.specs.BootView.{is_other, refusal_of, up_stage}
use Rattle.aft_boot.specs.Pages.{LeadsTo, ReadsTo, StopsCall}
use Rattle.aft_boot.specs.declared.stage.Stage.{Stage}
use Rattle.aft_boot.specs.declared.stage.Stage.TheVariants.{Begins, ComesUp, Ended, Ends, Scans}
use Rattle.aft_boot.proofs.PageRuns.{count_more, goes_behind, read_more, shown_more, turns_more, whole_behind}
use Rattle.aft_boot.proofs.Ups.{has_come_up, no_other_up, now_is_up}
use Rattle.aft_turns.specs.Steps.{SameStore, StepsAtDoor}
use Rattle.aft_turns.specs.Trail.{Trail}

-- what it is to answer, by how far it has come
abbrev stopped : ℕ → ℕ → DoorFault → Stage
stopped node inc fault = Ends inc (Refused (refusal_of node inc fault))

-- a refusal of a call for a page
abbrev page_fault : DoorFault → Result (List Pair) DoorFault
page_fault fault = Err fault

-- ---- the coming up

module _ (by : By) (node inc : ℕ) (old : List DoorEntry) where
  abbrev stood : Trail → Type 0
  stood trail = made_at by node (ComesUp inc) trail

  -- what the door told stops it
  look_stops : (reply : Reply) → IsShutOut node inc old reply → (trail : Trail) → stood trail → made_at by node (Ends inc (Refused reply)) (record { turns = trail.turns; look = old })
  look_stops reply shut trail begun = record {
    up = None;
    pages = [];
    more = [];
    after = [];
    begun = record { before = begun.before; front = begun.front; newest = begun.newest; turns = begun.turns };
    read = record { few = omega arith; readable = refl };
    goes = refl;
    stops = inl (refl, shut);
  }

  pub stops_there : (new : List DoorEntry) (reply : Reply) → new ≡ old → IsShutOut node inc old reply → StepsAtDoor by stood (made_at by node (Ends inc (Refused reply))) old new
  stops_there new reply same shut = inr (same, look_stops reply shut)

  -- another incarnation is up
  pub other_up : may_call_at by node (ComesUp inc) old → is_other inc (up_now node old) ≡ true → IsShutOut node inc old (replies.NodeDown node inc)
  other_up may other = by_now (up_now node old) refl other
    where
      by_now : (now : Option ℕ) → up_now node old ≡ now → is_other inc now ≡ true → IsShutOut node inc old (replies.NodeDown node inc)
      by_now None is other = absurd (false≢true other)
      by_now (Some o) is other = elim (or_cases (is_fenced (incarnation node inc) old) _ may.0) [
        | inl fenced ↦ inl (refl, fenced)
        | inr alone ↦ absurd (true≢false (sym (eq-eqb o inc (sym (no_other_up node inc o old is (and_parts (not (is_past node inc old)) _ alone).1))) ∙ not-true (eqb o inc) other))
      ]

  -- it was fenced, or a newer one was
  past : may_call_at by node (ComesUp inc) old → is_past node inc old ≡ true → IsTrue (is_fenced (incarnation node inc) old)
  past may is = elim (or_cases (is_fenced (incarnation node inc) old) _ may.0) [
    | inl fenced ↦ fenced
    | inr alone ↦ absurd (true≢false (sym is ∙ not-true (is_past node inc old) (and_parts (not (is_past node inc old)) _ alone).0))
  ]

  module _ (not_office : node ≢ 0) (before after : DoorView) (here : before.history ≡ old) (may : may_call_at by node (ComesUp inc) old) where
    -- it had come up before
    was_up : up_now node old ≡ Some inc → after ≡ before → StepsAtDoor by stood (made_at by node (Scans inc [] 0 [])) old after.history
    was_up is same = inr (
      ap (λ (d : DoorView). d.history) same ∙ here,
      λ trail its. record {
        up = None;
        pages = [];
        begun = record { before = its.before; front = its.front; newest = its.newest; turns = its.turns };
        come = (has_come_up node inc old not_office is, may.1 (now_is_up node inc old is));
        read = record { few = omega arith; readable = refl };
        goes = refl;
        count = refl;
        shown = refl;
      },
    )

    -- it comes up now
    comes_up_now : after ≡ with_entry before (came_up by node inc) → StepsAtDoor by stood (made_at by node (Scans inc [] 0 [])) old after.history
    comes_up_now is = inl (
      Up node inc,
      ap (λ (d : DoorView). d.history) is ∙ ap (λ (h : List DoorEntry). h ++ came_up by node inc ∷ []) here,
      λ trail its. record {
        up = Some (length old);
        pages = [];
        begun = record { before = its.before; front = its.front; newest = its.newest; turns = ap (λ (ts : List Turn). ts ++ AtDoor (length old) (Up node inc) ∷ []) its.turns };
        come = tt;
        read = record { few = omega arith; readable = refl };
        goes = refl;
        count = refl;
        shown = refl;
      },
    )

    refused : (fault : DoorFault) → RefusedBy {T = Unit {0}} (if_past node inc old) (Err fault) → after ≡ before → StepsAtDoor by stood (made_at by node (stopped node inc fault)) old after.history
    refused fault why same = by_past (is_past node inc old) refl fault why
      where
        same_history : after.history ≡ old
        same_history = ap (λ (d : DoorView). d.history) same ∙ here

        by_past : (t : Bool) → is_past node inc old ≡ t → (f : DoorFault) → RefusedBy {T = Unit {0}} (if t then Some (faults.Fenced node inc) else None) (Err f) → StepsAtDoor by stood (made_at by node (stopped node inc f)) old after.history
        by_past true is f why = stops_there after.history (refusal_of node inc f) same_history (subst (λ (g : DoorFault). IsShutOut node inc old (refusal_of node inc g)) (sym fault_is) (inl (refl, past may is)))
          where
            fault_is : f ≡ faults.Fenced node inc
            fault_is = cc
        by_past false is faults.Memory why = stops_there after.history replies.NoMemory same_history (inr refl)
        by_past false is (faults.Fenced n i) why = absurd why
        by_past false is (faults.Busy n i) why = absurd why
        by_past false is faults.Forgotten why = absurd why
        by_past false is faults.NotHolder why = absurd why
        by_past false is (faults.Holdout n i) why = absurd why
        by_past false is faults.Failed why = absurd why

    pub ups_so : (told : Result (Unit {0}) DoorFault) → IfSome (up_now node old) (λ other. other ≡ inc) → RefusedBy (if_past node inc old) told → (up_now node old ≡ Some inc → (told ≡ Ok tt) × (after ≡ before)) → OnOk told (up_now node old ≡ None → after ≡ with_entry before (came_up by node inc)) → OnErr told (after ≡ before) → StepsAtDoor by stood (made_at by node (up_stage node inc told)) old after.history
    ups_so (Err fault) alone why again ok err = refused fault why err
    ups_so (Ok done) alone why again ok err = by_now (up_now node old) refl alone
      where
        by_now : (now : Option ℕ) → up_now node old ≡ now → IfSome now (λ other. other ≡ inc) → StepsAtDoor by stood (made_at by node (Scans inc [] 0 [])) old after.history
        by_now None is alone = comes_up_now (ok is)
        by_now (Some o) is alone = let now : up_now node old ≡ Some inc = is ∙ ap (λ (n : ℕ). Some n) alone in was_up now (again now).1

-- what was told at first stays
pub same_store : (before after : DoorView) (now : Option ℕ) (inc : ℕ) (entry : DoorEntry) (told : Result (Unit {0}) DoorFault) → IfSome now (λ other. other ≡ inc) → (now ≡ Some inc → (told ≡ Ok tt) × (after ≡ before)) → OnOk told (now ≡ None → after ≡ with_entry before entry) → OnErr told (after ≡ before) → SameStore before after × (after.faults ≡ before.faults)
same_store before after now inc entry (Err fault) alone again ok err = (record { contents = ap (λ (d : DoorView). d.first_contents) err; log = ap (λ (d : DoorView). d.first_log) err }, ap (λ (d : DoorView). d.faults) err)
same_store before after None inc entry (Ok done) alone again ok err = let it = ok refl in (record { contents = ap (λ (d : DoorView). d.first_contents) it; log = ap (λ (d : DoorView). d.first_log) it }, ap (λ (d : DoorView). d.faults) it)
same_store before after (Some o) inc entry (Ok done) alone again ok err = let it = (again (ap (λ (n : ℕ). Some n) alone)).1 in (record { contents = ap (λ (d : DoorView). d.first_contents) it; log = ap (λ (d : DoorView). d.first_log) it }, ap (λ (d : DoorView). d.faults) it)

-- ---- a page

module _ (by : By) (node inc : ℕ) (after : List ℕ) (listed : ℕ) (commits : List Commit) (old new : DoorView) where
  abbrev scans : Trail → Type 0
  scans trail = made_at by node (Scans inc after listed commits) trail

  abbrev who : Caller
  who = record { node = node; inc = inc; by = by }

  -- the call for the page was answered
  module _ (answer : KeeperAnswer) (grown : new.history ≡ old.history ++ called who (Scan records_prefix after 64) answer ∷ []) where
    stops_behind : (reply : Reply) → StopsCall answer listed reply → StepsAtDoor by scans (made_at by node (Ends inc (Refused reply))) old.history new.history
    stops_behind reply stops = inl (
      page_act node inc after answer,
      grown,
      λ trail its. record {
        up = its.up;
        pages = its.pages;
        more = AtDoor (length old.history) (page_act node inc after answer) ∷ [];
        after = after;
        begun = record {
          before = its.begun.before;
          front = its.begun.front;
          newest = its.begun.newest;
          turns = ap (λ (ts : List Turn). ts ++ AtDoor (length old.history) (page_act node inc after answer) ∷ []) (its.begun.turns ∙ append-nil (begun_turns by node inc its.begun.before its.begun.front its.up its.pages));
        };
        read = its.read;
        goes = its.goes;
        stops = inr (length old.history, answer, refl, subst (λ (n : ℕ). StopsCall answer n reply) its.count stops);
      },
    )

  -- it wasn't asked
  stops_here : (reply : Reply) → new.history ≡ old.history → IsShutOut node inc old.history reply → StepsAtDoor by scans (made_at by node (Ends inc (Refused reply))) old.history new.history
  stops_here reply same shut = inr (
    same,
    λ trail its. record {
      up = its.up;
      pages = its.pages;
      more = [];
      after = after;
      begun = record { before = its.begun.before; front = its.begun.front; newest = its.begun.newest; turns = its.begun.turns };
      read = its.read;
      goes = its.goes;
      stops = inl (refl, shut);
    },
  )

  module _ (page : List Pair) (grown : new.history ≡ old.history ++ called who (Scan records_prefix after 64) (answers.Page page) ∷ []) where
    abbrev it : PageAt
    it = record { place = length old.history; after = after; listed = page }

    begun_more : (trail : Trail) (its : scans trail) → HasBegun by node inc its.up (its.pages ++ it ∷ []) [] (record { turns = trail.turns ++ AtDoor (length old.history) (page_act node inc after (answers.Page page)) ∷ []; look = trail.look })
    begun_more trail its = record {
      before = its.begun.before;
      front = its.begun.front;
      newest = its.begun.newest;
      turns =
          ap (λ (ts : List Turn). ts ++ AtDoor (length old.history) (page_act node inc after (answers.Page page)) ∷ []) (its.begun.turns ∙ append-nil (begun_turns by node inc its.begun.before its.begun.front its.up its.pages))
          ∙ sym (turns_more its.pages it by node inc its.begun.before its.begun.front its.up)
          ∙ sym (append-nil (begun_turns by node inc its.begun.before its.begun.front its.up (its.pages ++ it ∷ [])));
    }

    page_leads : (stage : Stage) → ReadsTo page inc listed commits stage → StepsAtDoor by scans (made_at by node stage) old.history new.history
    page_leads (Scans other next count all) (same, reads, counts, goes) =
        subst (λ (i : ℕ). StepsAtDoor by scans (made_at by node (Scans i next count all)) old.history new.history) (sym same) (inl (
          page_act node inc after (answers.Page page),
          grown,
          λ trail its. record {
            up = its.up;
            pages = its.pages ++ it ∷ [];
            begun = begun_more trail its;
            come = its.come;
            read = read_more its.pages it listed commits all its.count its.read reads;
            goes = goes_behind its.pages it its.goes ∙ goes after;
            count = counts ∙ ap (λ (n : ℕ). n + length page) its.count ∙ sym (count_more its.pages it);
            shown = shown_more its.pages it listed commits all its.shown reads;
          },
        ))
    page_leads (Ends other (Shown all)) (same, reads, over) =
        subst (λ (i : ℕ). StepsAtDoor by scans (made_at by node (Ends i (Shown all))) old.history new.history) (sym same) (inl (
          page_act node inc after (answers.Page page),
          grown,
          λ trail its. record {
            up = its.up;
            pages = its.pages ++ it ∷ [];
            begun = begun_more trail its;
            come = its.come;
            read = read_more its.pages it listed commits all its.count its.read reads;
            whole = whole_behind its.pages it its.goes (over after);
            shown = shown_more its.pages it listed commits all its.shown reads;
          },
        ))
    page_leads (Ends other (Refused reply)) (same, stops) =
        subst (λ (i : ℕ). StepsAtDoor by scans (made_at by node (Ends i (Refused reply))) old.history new.history) (sym same) (stops_behind (answers.Page page) grown reply stops)
    page_leads Begins leads = absurd leads
    page_leads (ComesUp other) leads = absurd leads
    page_leads Ended leads = absurd leads

  -- want of memory may hide what was to be copied
  memory_stops : (answer : KeeperAnswer) → IsTrue (may_be_untold (Some answer)) → StopsCall answer listed replies.NoMemory
  memory_stops (answers.Page page) untold = tt
  memory_stops (answers.Found bytes) untold = tt
  memory_stops answers.Absent untold = tt
  memory_stops answers.Done untold = tt
  memory_stops answers.Failed untold = absurd (false≢true untold)

  module _ (may : may_call_at by node (Scans inc after listed commits) old.history) where
    fenced_so : is_up (incarnation node inc) old.history ≡ false → IsTrue (is_fenced (incarnation node inc) old.history)
    fenced_so down = elim (or_cases (is_fenced (incarnation node inc) old.history) (is_up (incarnation node inc) old.history) may) [ inl fenced ↦ fenced | inr up ↦ absurd (true≢false (sym up ∙ down)) ]

    -- a call for a page is refused by a fence alone, and else fails or lacks memory
    never : (fault : DoorFault) → (RefusedOrFailed {T = List Pair} None (Err fault) → ⊥) → (page_fault fault ≡ page_fault (faults.Fenced node inc) → ⊥) → RefusedOrFailed {T = List Pair} (if_fenced who old.history) (Err fault) → ⊥
    never fault no_reason no_fence why = by_up (is_up (incarnation node inc) old.history) why
      where
        by_up : (up : Bool) → RefusedOrFailed {T = List Pair} (if up then None else Some (faults.Fenced node inc)) (Err fault) → ⊥
        by_up true why = no_reason why
        by_up false why = no_fence why

    faulted : (fault : DoorFault) → RefusedOrFailed {T = List Pair} (if_fenced who old.history) (Err fault) → Shows told_page old who (Scan records_prefix after 64) (Err fault) new → StepsAtDoor by scans (made_at by node (stopped node inc fault)) old.history new.history
    faulted faults.Failed why shows = stops_behind answers.Failed shows.history replies.StoreFault refl
    faulted faults.Memory why (None, untold, asks) = stops_here replies.NoMemory asks.history (inr refl)
    faulted faults.Memory why (Some answer, untold, asks) = stops_behind answer asks.history replies.NoMemory (memory_stops answer untold)
    faulted (faults.Fenced n i) why shows = stops_here (replies.NodeDown node inc) shows.history (inl (refl, fenced_so (by_up (is_up (incarnation node inc) old.history) refl why)))
      where
        by_up : (up : Bool) → is_up (incarnation node inc) old.history ≡ up → RefusedOrFailed {T = List Pair} (if up then None else Some (faults.Fenced node inc)) (Err (faults.Fenced n i)) → is_up (incarnation node inc) old.history ≡ false
        by_up false is why = is
        by_up true is why = absurd why
    faulted (faults.Busy n i) why shows = absurd (never (faults.Busy n i) (λ x. x) (λ e. cc) why)
    faulted faults.Forgotten why shows = absurd (never faults.Forgotten (λ x. x) (λ e. cc) why)
    faulted faults.NotHolder why shows = absurd (never faults.NotHolder (λ x. x) (λ e. cc) why)
    faulted (faults.Holdout n i) why shows = absurd (never (faults.Holdout n i) (λ x. x) (λ e. cc) why)

    pub pages_so : (told : Result (List Pair) DoorFault) (stage : Stage) → RefusedOrFailed (if_fenced who old.history) told → Shows told_page old who (Scan records_prefix after 64) told new → LeadsTo node inc listed commits told stage → StepsAtDoor by scans (made_at by node stage) old.history new.history
    pages_so (Ok page) stage why shows leads = page_leads page shows.history stage leads
    pages_so (Err fault) stage why shows leads = subst (λ (s : Stage). StepsAtDoor by scans (made_at by node s) old.history new.history) (sym leads) (faulted fault why shows)
