-- An answer that no version fits names a blocker of each known version.
use Rattle.std.proofs.Common.{◌≡◌, ℕ, Bool, false, ◌&&◌, List, [], ◌∷◌, ◌++◌, refl, sym, ap, subst, ◌∙◌, eq-eqb, length}
use Rattle.std.specs.Prelude.{IsTrue, Option, Some, None, filter}
use Rattle.std.specs.Cmp.Lexicographic.{pointwise}
use Rattle.std.specs.Str.{bytes_eq}
use Rattle.std.proofs.lemmas.Bool.{and_from, and_parts, false≢true}
use Rattle.std.proofs.lemmas.List.{length-map}
use Rattle.aft_id.specs.TxnId.{same_id}
use Rattle.aft_id.specs.declared.txn_id.TxnId.{TxnId}
use Rattle.aft_records.specs.Commits.{has_id, ids_of, is_listed}
use Rattle.aft_records.specs.Kept.{Kept, kept_value}
use Rattle.aft_records.specs.Superseded.{wrote}
use Rattle.aft_records.specs.declared.stored.Commit.{Commit}
use Rattle.aft_model.specs.declared.caller.Attempt.{Attempt}
use Rattle.aft_model.specs.declared.choice.Blocked.{Blocked}
use Rattle.aft_model.specs.declared.choice.Choice.{Choice}
use Rattle.aft_model.specs.declared.choice.Choice.TheVariants as choices
use Rattle.aft_model.specs.declared.choice.Picked.{Picked}
use Rattle.aft_model.specs.declared.choice.Picked.TheVariants as picked
use Rattle.aft_model.specs.declared.door.DoorEntry.{DoorEntry}
use Rattle.aft_model.specs.declared.node.NodeAct.{NodeAct}
use Rattle.aft_model.specs.declared.node.NodeAct.TheVariants as acts
use Rattle.aft_model.specs.declared.node.NodeEntry.{NodeEntry}
use Rattle.aft_model.specs.declared.reply.Reply.{Reply}
use Rattle.aft_model.specs.declared.reply.Reply.TheVariants as replies
use Rattle.aft_model.specs.Attempts.{AttemptState, IsCommitting, IsGone, IsInDoubt, IsLeaving, IsOpening, IsRunning, attempt_state, buffer, buffered, reads}
use Rattle.aft_model.specs.Bytes.{HasBytes}
use Rattle.aft_model.specs.Cache.{cache}
use Rattle.aft_model.specs.Choice.{choice}
use Rattle.aft_model.specs.Known.{known, known_in}
use Rattle.aft_model.specs.LegalNode.{may_be_done, may_serve}
use Rattle.aft_model.specs.NodeRules.{answers_pick, are_ids_of, is_end, kept_or_fetched, own_or, pick, picked_by, same_picked}
use Rattle.aft_model.specs.NodeState.{NodeState, Service, node_state, part, serves}
use Rattle.aft_model.specs.Replies.{same_blocked, same_blockers}
use Rattle.aft_model.proofs.Histories.{any_from}
use Rattle.aft_model.proofs.Ids.{same_id-refl, same_ids}
use Rattle.aft_model.proofs.Incarnations.{known-at, part-at}
use Rattle.aft_model.proofs.Lists.{all_from, in_map, map_in}
use Rattle.aft_model.proofs.Pins.{There, running_there}
use Rattle.aft_model.proofs.Sights.{same_bytes}
use Rattle.aft_lines.specs.Headline.{are_blockers, names_blockers_in}
use Rattle.law_reads.proofs.Blockers.{blocked_rightly, blocked_versions}
use Rattle.law_boots.specs.Beside.{Beside}
use Rattle.law_boots.proofs.Nodes.{before, done}
use Rattle.law_boots.proofs.Picks.{Picking, in_one, picking}
use Rattle.law_boots.proofs.Real.{each_real}

-- blockers that are the same
same_blocked_is : (a b : Blocked) → IsTrue (same_blocked a b) → a ≡ b
same_blocked_is a b same =
    let parts = and_parts (same_id a.id b.id && bytes_eq a.key b.key) (same_id a.read b.read) same in
    let both = and_parts (same_id a.id b.id) (bytes_eq a.key b.key) parts.0 in
    let one : TxnId → List ℕ → TxnId → Blocked = λ i k r. record { id = i; key = k; read = r } in
    ap (λ i. one i a.key a.read) (same_ids a.id b.id both.0) ∙ (ap (λ k. one b.id k a.read) (same_bytes a.key b.key both.1) ∙ ap (λ r. one b.id b.key r) (same_ids a.read b.read parts.1))

same_blockers_are : (xs ys : List Blocked) → IsTrue (same_blockers xs ys) → xs ≡ ys
same_blockers_are [] [] same = refl
same_blockers_are [] (y ∷ ys) same = absurd (false≢true same)
same_blockers_are (x ∷ xs) [] same = absurd (false≢true same)
same_blockers_are (x ∷ xs) (y ∷ ys) same =
    let parts = and_parts (same_blocked x y) (pointwise same_blocked xs ys) same in
    ap (λ (b : Blocked). b ∷ xs) (same_blocked_is x y parts.0) ∙ ap (λ (l : List Blocked). y ∷ l) (same_blockers_are xs ys parts.1)

-- commits have just their own ids
own_ids : (commits : List Commit) → IsTrue (are_ids_of commits (ids_of commits))
own_ids commits =
    and_from _ _ (and_from _ _ (eq-eqb (length (ids_of commits)) (length commits) (length-map commits (λ (c : Commit). c.id)))
    (all_from (λ (id : TxnId). has_id id commits) (ids_of commits) (λ id among.
    let of = in_map (λ (c : Commit). c.id) id commits among in
    any_from (λ (c : Commit). same_id id c.id) of.0 commits of.1 (subst (λ (i : TxnId). IsTrue (same_id id i)) of.2 (same_id-refl id)))))
    (all_from (λ (c : Commit). is_listed c.id (ids_of commits)) commits (λ c among. any_from (same_id c.id) c.id (ids_of commits) (map_in (λ (d : Commit). d.id) c commits among) (same_id-refl c.id)))

-- ---- what a pick of no version says

module _ (blocked : List Blocked) where
  abbrev none_fits : Option Reply
  none_fits = Some (replies.NoValidVersion blocked)

  answered : (p : Picked) → IsTrue (answers_pick p none_fits) → p ≡ picked.NoneFits blocked
  answered (picked.Own value) is = absurd (false≢true is)
  answered (picked.Cached id value) is = absurd (false≢true is)
  answered (picked.Fetch id) is = absurd (false≢true is)
  answered picked.Absent is = absurd (false≢true is)
  answered (picked.NoneFits other) is = ap picked.NoneFits (same_blockers_are other blocked is)

  picked_none : (p : Picked) → IsTrue (same_picked p (picked.NoneFits blocked)) → p ≡ picked.NoneFits blocked
  picked_none (picked.Own value) is = absurd (false≢true is)
  picked_none (picked.Cached id value) is = absurd (false≢true is)
  picked_none (picked.Fetch id) is = absurd (false≢true is)
  picked_none picked.Absent is = absurd (false≢true is)
  picked_none (picked.NoneFits other) is = ap picked.NoneFits (same_blockers_are other blocked is)

  same_none : (xs : List Blocked) → picked.NoneFits xs ≡ picked.NoneFits blocked → xs ≡ blocked
  same_none xs is = cc

  chosen_none : (own : Option (List ℕ)) (key : List ℕ) (kept : List Kept) (ch : Choice) → own_or own (picked_by key kept ch) ≡ picked.NoneFits blocked → ch ≡ choices.NoneFits blocked
  chosen_none (Some value) key kept ch is = absurd (let no : picked.Own value ≡ picked.NoneFits blocked = is in cc)
  chosen_none None key kept (choices.Version id) is = absurd (by_kept (kept_value key id kept) is)
    where
      by_kept : (o : Option (List ℕ)) → kept_or_fetched id o ≡ picked.NoneFits blocked → ⊥
      by_kept (Some value) is = (let no : picked.Cached id value ≡ picked.NoneFits blocked = is in cc)
      by_kept None is = (let no : picked.Fetch id ≡ picked.NoneFits blocked = is in cc)
  chosen_none None key kept choices.Absent is = absurd (let no : picked.Absent ≡ picked.NoneFits blocked = is in cc)
  chosen_none None key kept (choices.NoneFits xs) is = ap choices.NoneFits (same_none xs is)

  -- ---- no other act answers so

  not_this : (b : Bool) → IsTrue (b && false) → ⊥
  not_this b is = false≢true (and_parts b false is).1

  no_end : (state : AttemptState) → IsTrue (is_end state none_fits) → ⊥
  no_end IsGone is = false≢true is
  no_end IsOpening is = false≢true is
  no_end IsRunning is = false≢true is
  no_end (IsCommitting c) is = false≢true is
  no_end (IsInDoubt c) is = false≢true is
  no_end IsLeaving is = false≢true is

  module _ (node capacity : ℕ) (s : Service) where
    silent : (act : NodeAct) → ((a : Attempt) (key : List ℕ) (p : Picked) → act ≡ acts.Select a key p → ⊥) → IsTrue (may_serve node capacity act none_fits s) → ⊥
    silent (acts.Select a key p) other may = other a key p refl
    silent (acts.Admit a uuid) other may = not_this _ may
    silent (acts.Begin a) other may = not_this _ may
    silent (acts.Unadmit a) other may = not_this _ may
    silent (acts.Put a key value) other may = not_this _ may
    silent (acts.Value a key id place kept) other may = not_this _ may
    silent (acts.Lost a key id) other may = not_this _ may
    silent (acts.Start a now c) other may = not_this _ may
    silent (acts.Settle a) other may = not_this _ may
    silent (acts.Leave a) other may = not_this _ may
    silent (acts.Stored a c) other may = not_this _ may
    silent (acts.Doubt a) other may = not_this _ may
    silent (acts.End a) other may = no_end (attempt_state a s.part) may
    silent (acts.Drop ids) other may = not_this _ may
    silent (acts.GiveUp id) other may = not_this _ may
    silent (acts.Announce kept pruned) other may = not_this _ may
    silent act other may = false≢true may

-- ---- in a history

module _ (node capacity : ℕ) (door : List DoorEntry) (made : HasBytes door) (history : List NodeEntry) (entry : NodeEntry) (beside : Beside node capacity door (history ++ entry ∷ [])) where
  abbrev its : Beside node capacity door history
  its = before node capacity door history entry beside

  module _ (a : Attempt) (key : List ℕ) (p : Picked) (blocked : List Blocked) (at : Picking capacity history a key p (none_fits blocked)) where
    of_part : part history ≡ at.s.part
    of_part = part-at history at.s at.is

    none : choice key (reads a (part history)) (known history) ≡ choices.NoneFits blocked
    none =
        let is : p ≡ picked.NoneFits blocked = answered blocked p at.answers in
        let picks = picked_none blocked (pick capacity at.s a key) (subst (λ (q : Picked). IsTrue (same_picked (pick capacity at.s a key) q)) is at.picks) in
        ap (λ (l : List NodeEntry). choice key (reads a l) (known history)) of_part
        ∙ (ap (λ (l : List Commit). choice key (reads a at.s.part) l) (known-at history at.s at.is)
        ∙ chosen_none blocked (buffered key (buffer a at.s.part)) key (cache capacity at.s.part) (choice key (reads a at.s.part) (known_in at.s)) picks)

    there : There (attempt_state a (part history))
    there = subst (λ (l : List NodeEntry). There (attempt_state a l)) (sym of_part) (running_there (attempt_state a at.s.part) at.runs)

    serve : IsTrue (serves at.s.inc (node_state history))
    serve = subst (λ (state : NodeState). IsTrue (serves at.s.inc state)) (sym at.is) (eq-eqb at.s.inc at.s.inc refl)

    named : IsTrue (are_blockers key a history blocked)
    named =
        let real = each_real node capacity door made history its in
        and_from _ _
        (subst (λ (ids : List TxnId). IsTrue (are_ids_of (filter (wrote key) (known history)) ids))
        (sym (blocked_versions node capacity at.s.inc history its.legal real serve a there key blocked none)) (own_ids (filter (wrote key) (known history))))
        (blocked_rightly node capacity at.s.inc history its.legal real serve a there key blocked none)

  -- where no version fits, blockers are named
  fits_none : (blocked : List Blocked) (act : NodeAct) → IsTrue (may_be_done node capacity history act (none_fits blocked)) → IsTrue (names_blockers_in history act (none_fits blocked))
  fits_none blocked (acts.Select a key p) may = named a key p blocked (picking node capacity history a key p (none_fits blocked) may)
  fits_none blocked acts.Nothing may = absurd (false≢true may)
  fits_none blocked (acts.Booting inc) may = absurd (not_this blocked _ may)
  fits_none blocked (acts.Boot inc commits) may = absurd (not_this blocked _ may)
  fits_none blocked (acts.BootStopped inc) may = absurd (not_this blocked _ may)
  fits_none blocked (acts.Down inc) may = absurd (not_this blocked _ may)
  fits_none blocked act may =
      absurd (let at = in_one (may_serve node capacity act (none_fits blocked)) (node_state history) may in silent blocked node capacity at.0 act (λ a key p is. let no : act ≡ acts.Select a key p = is in cc) at.2)

  by_answer : (act : NodeAct) (answer : Option Reply) → IsTrue (may_be_done node capacity history act answer) → IsTrue (names_blockers_in history act answer)
  by_answer act (Some (replies.NoValidVersion blocked)) may = fits_none blocked act may
  by_answer (acts.Select a key p) answer may = refl
  by_answer act answer may = refl

  pub names : IsTrue (names_blockers_in history entry.act entry.answer)
  names = by_answer entry.act entry.answer (done node capacity door history entry beside)
