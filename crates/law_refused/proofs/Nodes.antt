-- Nodes that only boot keep their parts of the promise.
use Rattle.std.proofs.Common.{Bool, List, [], eqb, length, refl, subst, suc, sym, ℕ, ◌&&◌, ◌++◌, ◌∷◌, ◌≡◌}
use Rattle.std.specs.Prelude.{IsTrue, None, Option, Some, nat_le, not}
use Rattle.std.specs.List.{flat_map, list_all}
use Rattle.std.proofs.lemmas.Bool.{and_from, and_parts, false≢true}
use Rattle.std.proofs.lemmas.List.Sums.{fold-append}
use Rattle.aft_model.specs.declared.door.DoorEntry.{DoorEntry}
use Rattle.aft_model.specs.declared.node.NodeAct.{NodeAct}
use Rattle.aft_model.specs.declared.node.NodeEntry.{NodeEntry}
use Rattle.aft_model.specs.declared.reply.Reply.{Reply}
use Rattle.aft_model.specs.declared.trace.Trace.{Trace}
use Rattle.aft_model.specs.declared.office.OfficeEntry.{OfficeEntry}
use Rattle.aft_model.specs.AtomicReads.{is_atomic}
use Rattle.aft_model.specs.Attempts.{reads}
use Rattle.aft_model.specs.Committed.{committed}
use Rattle.aft_model.specs.History.{each_after}
use Rattle.aft_model.specs.LegalNode.{front, is_legal_node, may_be_done, may_follow_at}
use Rattle.aft_model.specs.NodeRules.{is_own_end, may_begin_boot}
use Rattle.aft_model.specs.NodeSights.{is_seen_node}
use Rattle.aft_model.specs.NodeState.{IsDown, NodeState, boots, newest, node_state, part, part_in, service_in, state_after}
use Rattle.aft_model.specs.Replies.{is_answer, is_silent}
use Rattle.aft_lines.specs.Headline.{all_read_whole, loses_nothing, names_blockers, names_blockers_in, reader_in, reads_atomic_sets, reads_own_and_repeats, reads_own_in, reads_recorded, reads_recorded_in, seen_at, tells_loss}
use Rattle.aft_lines.specs.LegalTrace.{are_legal_nodes}
use Rattle.aft_lines.specs.RefusedTrace.{are_empty}
use Rattle.law_refused.specs.Looks.{is_of_boot, only_boots, only_starts}
use Rattle.law_refused.proofs.Each.{each_adds, each_of, none_empty, not_empty}
use Rattle.aft_model.specs.declared.node.NodeAct.TheVariants as acts
use Rattle.aft_model.specs.declared.reply.Reply.TheVariants as replies

-- ---- what a legal boot answers

abbrev boots_alone : NodeEntry → Bool
boots_alone entry = is_of_boot entry.act && only_starts entry.answer

silent_starts : (answer : Option Reply) → IsTrue (is_silent answer) → IsTrue (only_starts answer)
silent_starts None is = refl
silent_starts (Some reply) is = absurd (false≢true is)

started_starts : (node inc : ℕ) (answer : Option Reply) → IsTrue (is_answer (replies.Started node inc) answer) → IsTrue (only_starts answer)
started_starts node inc None is = refl
started_starts node inc (Some (replies.Started at other)) is = refl
started_starts node inc (Some reply) is = absurd (false≢true is)

done_starts : (node capacity : ℕ) (history : List NodeEntry) (act : NodeAct) (answer : Option Reply) → IsTrue (may_be_done node capacity history act answer) → IsTrue (is_of_boot act) → IsTrue (only_starts answer)
done_starts node capacity history (acts.Booting inc) answer may is = silent_starts answer (and_parts (may_begin_boot inc (newest history) (node_state history)) (is_silent answer) may).1
done_starts node capacity history (acts.Boot inc commits) answer may is = started_starts node inc answer (and_parts (boots inc (node_state history)) (is_answer (replies.Started node inc) answer) may).1
done_starts node capacity history act answer may is = absurd (false≢true is)

follows_alone : (node capacity : ℕ) (history : List NodeEntry) (entry : NodeEntry) → IsTrue (may_follow_at node capacity history entry) → IsTrue (is_of_boot entry.act) → IsTrue (boots_alone entry)
follows_alone node capacity history entry may is =
    let parts = and_parts (nat_le (front history) entry.front && may_be_done node capacity history entry.act entry.answer) (is_own_end (part history) entry.by entry.act entry.answer) may in
    let done = (and_parts (nat_le (front history) entry.front) (may_be_done node capacity history entry.act entry.answer) parts.0).1 in
    and_from _ _ is (done_starts node capacity history entry.act entry.answer done is)

pub legal_boots : (first capacity : ℕ) (door : List DoorEntry) (histories : List (List NodeEntry)) → IsTrue (are_legal_nodes first capacity door histories) → IsTrue (list_all (list_all (λ (entry : NodeEntry). is_of_boot entry.act)) histories) → IsTrue (only_boots histories)
legal_boots first capacity door [] legal boot = refl
legal_boots first capacity door (history ∷ histories) legal boot =
    let parts = and_parts (is_legal_node first capacity history && is_seen_node first door history) (are_legal_nodes (suc first) capacity door histories) legal in
    let its = and_parts (is_legal_node first capacity history) (is_seen_node first door history) parts.0 in
    let all = and_parts (list_all (λ (entry : NodeEntry). is_of_boot entry.act) history) (list_all (list_all (λ (entry : NodeEntry). is_of_boot entry.act)) histories) boot in
    and_from _ _ (each_adds (λ (entry : NodeEntry). is_of_boot entry.act) boots_alone (may_follow_at first capacity) (λ before entry may is. follows_alone first capacity before entry may is) [] history its.0 all.0)
    (legal_boots (suc first) capacity door histories parts.1 all.1)

pub empty_legal : (first capacity : ℕ) (door : List DoorEntry) (histories : List (List NodeEntry)) → IsTrue (are_empty histories) → IsTrue (are_legal_nodes first capacity door histories)
empty_legal first capacity door [] empty = refl
empty_legal first capacity door ([] ∷ histories) empty = empty_legal (suc first) capacity door histories empty
empty_legal first capacity door ((entry ∷ history) ∷ histories) empty = absurd (none_empty entry history histories empty)

pub empty_boots : (histories : List (List NodeEntry)) → IsTrue (are_empty histories) → IsTrue (only_boots histories)
empty_boots [] empty = refl
empty_boots ([] ∷ histories) empty = empty_boots histories empty
empty_boots ((entry ∷ history) ∷ histories) empty = absurd (none_empty entry history histories empty)

-- ---- the parts of the promise that speak of nodes

node_state-snoc : (history : List NodeEntry) (entry : NodeEntry) → node_state (history ++ entry ∷ []) ≡ state_after (node_state history) entry entry.act
node_state-snoc history entry = fold-append (λ (before : NodeState) (e : NodeEntry). state_after before e e.act) IsDown history (entry ∷ [])

no_part : (before : NodeState) (entry : NodeEntry) (act : NodeAct) → IsTrue (is_of_boot act) → part_in (service_in (state_after before entry act)) ≡ []
no_part before entry (acts.Booting inc) is = refl
no_part before entry (acts.Boot inc commits) is = refl
no_part before entry act is = absurd (false≢true is)

module _ (histories : List (List NodeEntry)) (boot : IsTrue (only_boots histories)) where
  each_boot : (rule : List NodeEntry → NodeEntry → Bool) → ((before : List NodeEntry) (entry : NodeEntry) → IsTrue (is_of_boot entry.act) → IsTrue (only_starts entry.answer) → IsTrue (rule before entry)) → IsTrue (list_all (each_after rule []) histories)
  each_boot rule so = along histories boot
    where
      along : (rest : List (List NodeEntry)) → IsTrue (only_boots rest) → IsTrue (list_all (each_after rule []) rest)
      along [] all = refl
      along (history ∷ rest) all =
          let parts = and_parts (list_all boots_alone history) (only_boots rest) all in
          and_from _ _ (each_of boots_alone rule (λ before entry is. let its = and_parts (is_of_boot entry.act) (only_starts entry.answer) is in so before entry its.0 its.1) [] history parts.0) (along rest parts.1)

recorded_boot : (seen : List DoorEntry) (act : NodeAct) (answer : Option Reply) → IsTrue (is_of_boot act) → IsTrue (reads_recorded_in seen act answer)
recorded_boot seen (acts.Booting inc) answer is = refl
recorded_boot seen (acts.Boot inc commits) answer is = refl
recorded_boot seen act answer is = absurd (false≢true is)

own_boot : (before : List NodeEntry) (entry : NodeEntry) (act : NodeAct) → IsTrue (is_of_boot act) → IsTrue (reads_own_in before entry act)
own_boot before entry (acts.Booting inc) is = refl
own_boot before entry (acts.Boot inc commits) is = refl
own_boot before entry act is = absurd (false≢true is)

lost_by_none : (answer : Option Reply) → IsTrue (only_starts answer) → IsTrue (not (tells_loss answer))
lost_by_none None is = refl
lost_by_none (Some (replies.Started node inc)) is = refl
lost_by_none (Some reply) is = absurd (false≢true is)

blocked_by_none : (before : List NodeEntry) (act : NodeAct) (answer : Option Reply) → IsTrue (only_starts answer) → IsTrue (is_of_boot act) → IsTrue (names_blockers_in before act answer)
blocked_by_none before (acts.Booting inc) None is boot = refl
blocked_by_none before (acts.Booting inc) (Some (replies.Started node other)) is boot = refl
blocked_by_none before (acts.Booting inc) (Some reply) is boot = absurd (false≢true is)
blocked_by_none before (acts.Boot inc commits) None is boot = refl
blocked_by_none before (acts.Boot inc commits) (Some (replies.Started node other)) is boot = refl
blocked_by_none before (acts.Boot inc commits) (Some reply) is boot = absurd (false≢true is)
blocked_by_none before act answer is boot = absurd (false≢true boot)

module _ (trace : Trace) (boot : IsTrue (only_boots trace.nodes)) where
  pub atomic : IsTrue (reads_atomic_sets trace)
  atomic = each_boot trace.nodes boot (λ before entry. all_read_whole (committed trace.door) (before ++ entry ∷ [])) (λ before entry is answers.
      let none : part (before ++ entry ∷ []) ≡ [] = subst (λ (s : NodeState). part_in (service_in s) ≡ []) (sym (node_state-snoc before entry)) (no_part (node_state before) entry entry.act is) in
      none_reads before entry none)
    where
      none_reads : (before : List NodeEntry) (entry : NodeEntry) → part (before ++ entry ∷ []) ≡ [] → IsTrue (all_read_whole (committed trace.door) (before ++ entry ∷ []))
      none_reads before entry none = no_reader (part (before ++ entry ∷ [])) none
        where
          no_reader : (p : List NodeEntry) → p ≡ [] → IsTrue (list_all (λ a. is_atomic (reads a p) (committed trace.door)) (flat_map (λ e. reader_in e.act) p))
          no_reader [] is = refl
          no_reader (e ∷ p) is = absurd (cc)

  pub recorded : IsTrue (reads_recorded trace)
  recorded = each_boot trace.nodes boot (λ before entry. reads_recorded_in (seen_at trace entry) entry.act entry.answer) (λ before entry is answers. recorded_boot (seen_at trace entry) entry.act entry.answer is)

  pub own : IsTrue (reads_own_and_repeats trace)
  own = each_boot trace.nodes boot (λ before entry. reads_own_in before entry entry.act) (λ before entry is answers. own_boot before entry entry.act is)

  pub blockers : IsTrue (names_blockers trace)
  blockers = each_boot trace.nodes boot (λ before entry. names_blockers_in before entry.act entry.answer) (λ before entry is answers. blocked_by_none before entry.act entry.answer answers is)

  pub none_lost : IsTrue (eqb (length trace.office) 0) → IsTrue (loses_nothing trace)
  none_lost office = and_from _ _ (each_boot trace.nodes boot (λ before entry. not (tells_loss entry.answer)) (λ before entry is answers. lost_by_none entry.answer answers)) (idle trace.office office)
    where
      idle : (office : List OfficeEntry) → IsTrue (eqb (length office) 0) → IsTrue (list_all (λ entry. not (tells_loss entry.answer)) office)
      idle [] empty = refl
      idle (entry ∷ office) empty = absurd (not_empty entry office empty)
