-- Each value that an attempt has buffered is one that the script puts, and so is as short as those are.
use Rattle.std.proofs.Common.{◌≡◌, ℕ, Bool, true, false, List, [], ◌∷◌, ◌++◌, length, refl, sym, ap, subst, ◌∙◌, inl, inr, append-nil, append_assoc}
use Rattle.std.specs.Prelude.{IsTrue, if◌then◌else◌, map, nat_le}
use Rattle.std.specs.List.{list_all}
use Rattle.std.specs.Str.{bytes_eq}
use Rattle.std.proofs.lemmas.Bool.{and_from, and_parts, false≢true}
use Rattle.aft_keeper.specs.Contents.{name_lt}
use Rattle.aft_model.specs.declared.caller.Attempt.{Attempt}
use Rattle.aft_model.specs.declared.node.NodeAct.{NodeAct}
use Rattle.aft_model.specs.declared.node.NodeAct.TheVariants as acts
use Rattle.aft_model.specs.declared.node.NodeEntry.{NodeEntry}
use Rattle.aft_model.specs.declared.script.Command.{Command}
use Rattle.aft_model.specs.declared.script.Command.TheVariants as commands
use Rattle.aft_model.specs.declared.script.Line.{Line}
use Rattle.aft_model.specs.Attempts.{Write, buffer, buffer_after, same_attempt, with_write}
use Rattle.aft_model.specs.LegalNode.{LegalNode, may_follow_at}
use Rattle.aft_model.specs.NodeState.{IsBooting, IsDown, IsServing, NodeState, extended, newest, node_state, part, part_in, service_in}
use Rattle.aft_model.proofs.Histories.{In, all_at, each_after_split, each_after_snoc}
use Rattle.aft_model.proofs.Incarnations.{part-at}
use Rattle.aft_model.proofs.Services.{Begins, Boots, GoesDown, Moved, Serves, Waits, moved_by}
use Rattle.aft_model.proofs.Sights.{same_bytes}
use Rattle.aft_lines.specs.Asked.{Asked, Ran}
use Rattle.aft_lines.specs.FinishedText.{line_of}
use Rattle.aft_lines.specs.LegalTrace.{node_words, turn_words}
use Rattle.aft_lines.specs.Lines.{lines}
use Rattle.aft_lines.specs.Makes.{makes, makes_at_node}
use Rattle.aft_lines.specs.Steps.{Made as Step}
use Rattle.aft_lines.specs.Turns.{AtNode, turns}
use Rattle.law_attempts.proofs.Acts.{buffer-snoc}
use Rattle.law_runs.specs.Runs.{Goes, command_in, run_steps}
use Rattle.law_runs.proofs.Come.{Named, named_line, unasked_reads}
use Rattle.law_runs.proofs.Members.{in_turns, step_in}
use Rattle.law_steps.specs.Histories.{history_in}
use Rattle.law_held.proofs.Held.{stands_at}
use Rattle.law_accounts.specs.Account.{Account, Stand}
use Rattle.law_driven_commits.specs.Finishes.{PutsAreShort, puts_short}
use Rattle.aft_model.proofs.Histories.{in_back}
use Rattle.law_runs.proofs.Reading.{is_of_boot}

abbrev is_short_put : NodeAct → Bool
is_short_put (acts.Put a key value) = nat_le (length value) 4096
is_short_put act = true

put_line : (command : Command) (a : Attempt) (key value : List ℕ) → IsTrue (puts_short command) → IsTrue (makes_at_node command (acts.Put a key value)) → IsTrue (node_words command (acts.Put a key value)) → IsTrue (nat_le (length value) 4096)
put_line (commands.Put asked put) a key value short makes_it words = subst (λ (v : List ℕ). IsTrue (nat_le (length v) 4096)) (same_bytes put value (and_parts (bytes_eq asked key) (bytes_eq put value) words).1) short
put_line command a key value short makes_it words = absurd (false≢true makes_it)

line_short : (command : Command) (act : NodeAct) → IsTrue (puts_short command) → IsTrue (makes_at_node command act) → IsTrue (node_words command act) → IsTrue (is_short_put act)
line_short command (acts.Put a key value) short makes_it words = put_line command a key value short makes_it words
line_short command act short makes_it words = refl

boot_short : (act : NodeAct) → IsTrue (is_of_boot act) → IsTrue (is_short_put act)
boot_short (acts.Put a key value) is = absurd (false≢true is)
boot_short act is = refl

abbrev Short : List Write → Type 0
Short writes = IsTrue (list_all (λ w. nat_le (length w.value) 4096) writes)

short_with : (w : Write) → IsTrue (nat_le (length w.value) 4096) → (writes : List Write) → Short writes → Short (with_write w writes)
short_with w one [] all = and_from _ _ one refl
short_with w one (other ∷ writes) all = cases (bytes_eq w.key other.key) (name_lt w.key other.key) (short_with w one writes (and_parts _ _ all).1)
  where
    cases : (same less : Bool) → Short (with_write w writes) → Short (if same then w ∷ writes else if less then w ∷ other ∷ writes else other ∷ with_write w writes)
    cases true less rest = and_from (nat_le (length w.value) 4096) (list_all (λ x. nat_le (length x.value) 4096) writes) one (and_parts (nat_le (length other.value) 4096) (list_all (λ x. nat_le (length x.value) 4096) writes) all).1
    cases false true rest = and_from (nat_le (length w.value) 4096) (list_all (λ x. nat_le (length x.value) 4096) (other ∷ writes)) one all
    cases false false rest = and_from (nat_le (length other.value) 4096) (list_all (λ x. nat_le (length x.value) 4096) (with_write w writes)) (and_parts (nat_le (length other.value) 4096) (list_all (λ x. nat_le (length x.value) 4096) writes) all).0 rest

short_after : (a : Attempt) (writes : List Write) (act : NodeAct) → IsTrue (is_short_put act) → Short writes → Short (buffer_after a writes act)
short_after a writes (acts.Put b key value) one all = cases (same_attempt a b)
  where
    cases : (own : Bool) → Short (if own then with_write (record { key = key; value = value }) writes else writes)
    cases true = short_with (record { key = key; value = value }) one writes all
    cases false = all
short_after a writes act one all = all

short_values : (writes : List Write) → Short writes → IsTrue (list_all (λ value. nat_le (length value) 4096) (map (λ write. write.value) writes))
short_values [] all = refl
short_values (w ∷ writes) all = (let parts = and_parts (nat_le (length w.value) 4096) (list_all (λ x. nat_le (length x.value) 4096) writes) all in and_from (nat_le (length w.value) 4096) (list_all (λ value. nat_le (length value) 4096) (map (λ write. write.value) writes)) parts.0 (short_values writes parts.1))

module _ (asked : Asked) (ran : Ran) (stand : Line → Stand) (account : Account asked ran stand) (so : Goes asked ran) (puts : PutsAreShort asked) (number : ℕ) where
  entry_short : (before : List NodeEntry) (entry : NodeEntry) (more : List NodeEntry) → history_in number 1 ran.trace.nodes ≡ before ++ entry ∷ more → IsTrue (is_short_put entry.act)
  entry_short before entry more is = cases (named_line entry.by (lines asked))
    where
      step : Step
      step = record { by = entry.by; turn = AtNode number before entry }

      at : (pre : List Step) × (rest : List Step) × (run_steps ran ≡ pre ++ step ∷ rest)
      at = stands_at asked ran so number before entry more is

      among : In (AtNode number before entry) (turns entry.by ran.trace)
      among = in_turns entry.by ran.trace (AtNode number before entry) (step_in ran.trace step (subst (λ (l : List Step). In step l) (sym at.2) (in_back step at.0 (step ∷ at.1) (inl refl))))

      cases : Named entry.by (lines asked) → IsTrue (is_short_put entry.act)
      cases (inl n) =
          let there = subst (λ b. In (AtNode number before entry) (turns b ran.trace)) (sym n.2) among in
          line_short n.0.order entry.act (all_at (λ (l : Line). puts_short l.order) n.0 (lines asked) n.1 puts)
          (all_at (makes n.0.order) (AtNode number before entry) (turns (line_of n.0) ran.trace) there (account.going n.0 n.1).makes)
          (all_at (turn_words n.0.order) (AtNode number before entry) (turns (line_of n.0) ran.trace) there (account.going n.0 n.1).words)
      cases (inr n) = boot_short entry.act (unasked_reads asked ran so at.0 at.1 step at.2 (ap command_in n.0))

  abbrev Shorts : List NodeEntry → Type 0
  Shorts h = (a : Attempt) → Short (buffer a (part h))

  shorts_more : (capacity : ℕ) (h : List NodeEntry) (e : NodeEntry) → IsTrue (may_follow_at number capacity h e) → IsTrue (is_short_put e.act) → Shorts h → Shorts (h ++ e ∷ [])
  shorts_more capacity h e rule one all a = by_how (moved_by number capacity h e rule)
    where
      empty : (state : NodeState) → part_in (service_in state) ≡ [] → node_state (h ++ e ∷ []) ≡ state → Short (buffer a (part (h ++ e ∷ [])))
      empty state none is = subst (λ (p : List NodeEntry). Short (buffer a p)) (sym (ap (λ (t : NodeState). part_in (service_in t)) is ∙ none)) refl

      by_how : Moved number capacity (newest h) (node_state h) e e.act e.answer (node_state (h ++ e ∷ [])) → Short (buffer a (part (h ++ e ∷ [])))
      by_how (Serves s was may is) =
          subst (λ (p : List NodeEntry). Short (buffer a p)) (sym (part-at (h ++ e ∷ []) (extended s e) is))
          (subst Short (sym (buffer-snoc a s.part e)) (short_after a (buffer a s.part) e.act one (subst (λ (p : List NodeEntry). Short (buffer a p)) (part-at h s was) (all a))))
      by_how (GoesDown is) = empty IsDown refl is
      by_how (Begins i by may is) = empty (IsBooting i true) refl is
      by_how (Waits i running still was is) = empty (IsBooting i still) refl is
      by_how (Boots i commits boot is) = empty (IsServing (record { inc = i; booted = commits; part = [] })) refl is

  shorts_from : (capacity : ℕ) (h more rest : List NodeEntry) → history_in number 1 ran.trace.nodes ≡ (h ++ more) ++ rest → LegalNode number capacity (h ++ more) → Shorts h → Shorts (h ++ more)
  shorts_from capacity h [] rest is legal all = subst Shorts (sym (append-nil h)) all
  shorts_from capacity h (e ∷ more) rest is legal all =
      let whole = subst (λ (x : List NodeEntry). LegalNode number capacity x) (sym (append_assoc h (e ∷ []) more)) legal in
      let first = (each_after_split (may_follow_at number capacity) [] (h ++ e ∷ []) more whole).0 in
      let one = entry_short h e (more ++ rest) (is ∙ append_assoc h (e ∷ more) rest) in
      subst Shorts (append_assoc h (e ∷ []) more)
      (shorts_from capacity (h ++ e ∷ []) more rest (is ∙ ap (λ (l : List NodeEntry). l ++ rest) (sym (append_assoc h (e ∷ []) more))) whole (shorts_more capacity h e (each_after_snoc (may_follow_at number capacity) [] h e first).1 one all))

  pub shorts : (capacity : ℕ) (h rest : List NodeEntry) → history_in number 1 ran.trace.nodes ≡ h ++ rest → LegalNode number capacity h → (a : Attempt) (values : List (List ℕ)) → values ≡ map (λ write. write.value) (buffer a (part h)) → IsTrue (list_all (λ value. nat_le (length value) 4096) values)
  shorts capacity h rest is legal a values are =
      subst (λ (vs : List (List ℕ)). IsTrue (list_all (λ value. nat_le (length value) 4096) vs)) (sym are) (short_values (buffer a (part h)) (shorts_from capacity [] h rest is legal (λ b. refl) a))
