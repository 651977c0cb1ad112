-- What a line fetches isn't given up while the fetch stands open.
use Rattle.std.proofs.Common.{◌≡◌, ◌≤◌, ◌<◌, ℕ, ◌&&◌, not, List, [], ◌∷◌, ◌++◌, refl, sym, ap, subst, ◌∙◌, inl, inr, append_assoc, arith}
use Rattle.std.specs.Prelude.{IsTrue, IsFalse, Option, nat_lt}
use Rattle.std.specs.List.{list_any}
use Rattle.std.specs.Str.{bytes_eq}
use Rattle.std.proofs.lemmas.Bool.{and_parts, false≢true, false_from_ne_true, or_cases, true≢false}
use Rattle.aft_id.specs.TxnId.{same_id, zero_id}
use Rattle.aft_id.specs.declared.txn_id.TxnId.{TxnId}
use Rattle.aft_records.specs.Commits.{has_id}
use Rattle.aft_records.specs.declared.stored.Commit.{Commit}
use Rattle.aft_model.specs.declared.caller.Attempt.{Attempt}
use Rattle.aft_model.specs.declared.caller.By.{By}
use Rattle.aft_model.specs.declared.choice.Picked.TheVariants as picked
use Rattle.aft_model.specs.declared.door.DoorEntry.{DoorEntry}
use Rattle.aft_model.specs.declared.node.NodeAct.{NodeAct}
use Rattle.aft_model.specs.declared.node.NodeAct.TheVariants.{Boot, GiveUp, Lost, Select, Value}
use Rattle.aft_model.specs.declared.node.NodeEntry.{NodeEntry}
use Rattle.aft_model.specs.declared.read_set.ReadPair.{ReadPair}
use Rattle.aft_model.specs.declared.reply.Reply.{Reply}
use Rattle.aft_model.specs.Attempts.{attempt_state, attempts, is_gone, is_pinned, is_running, open_reads, present, reads, same_attempt}
use Rattle.aft_model.specs.Known.{known}
use Rattle.aft_model.specs.LegalNode.{LegalNode, front, may_be_done, may_serve}
use Rattle.aft_model.specs.NodeRules.{is_fetch_refusal, is_value_of}
use Rattle.aft_model.specs.NodeState.{IsServing, NodeState, Service, extended, node_state, part, serves, state_after}
use Rattle.aft_model.specs.ScanRun.{same_line}
use Rattle.aft_model.proofs.Histories.{In, any_from, each_after_snoc, each_after_split, in_back, in_front}
use Rattle.aft_model.proofs.Ids.{same_id-refl, same_ids}
use Rattle.aft_model.proofs.Incarnations.{part-at, pinned_is_known}
use Rattle.aft_model.proofs.Lists.{filter_in}
use Rattle.aft_model.proofs.Pins.{There, running_there, same_attempts}
use Rattle.aft_model.proofs.Services.{kept_within, node_state-snoc, serving}
use Rattle.aft_lines.specs.Holding.{ends_open_fetch, has_it_open, is_open_since, picks_fetch}
use Rattle.aft_model.specs.History.{each_prefix}
use Rattle.law_attempts.specs.Acts.{acts_on}
use Rattle.law_attempts.proofs.Attempts.{IsAdmitted, admitted_in, fetching_runs, gone_for_good, still_admitted, there_admitted}
use Rattle.law_attempts.proofs.Newest.{acts_of_own}
use Rattle.law_attempts.proofs.Standing.{same_itself}
use Rattle.law_kept.specs.Kept.{Lawful}
use Rattle.law_reads.proofs.Boots.{given_up_unknown}
use Rattle.law_boots.specs.Beside.{Beside}
use Rattle.law_boots.proofs.Again.{Opens, TellsIn, open_rule, tells}
use Rattle.law_boots.proofs.GivenUp.{never_again}
use Rattle.law_boots.proofs.Nodes.{before, begins, done, front-snoc, up}
use Rattle.law_boots.proofs.Picks.{in_one, picking}
use Rattle.law_boots.proofs.Unasked.{front_rises, order}
use Rattle.law_fetches.specs.Ends.{EndsFetch}
use Rattle.law_fetches.proofs.Booted.{booted_of}
use Rattle.law_fetches.proofs.Picked.{PickedCommit, picked_commit}

picks_what : (a : Attempt) (key : List ℕ) (id : TxnId) (act : NodeAct) → IsTrue (picks_fetch a key id act) → IsTrue (acts_on a act)
picks_what a key id (Select b got (picked.Fetch i)) is = (and_parts (same_attempt a b) (bytes_eq key got) (and_parts (same_attempt a b && bytes_eq key got) (same_id id i) is).0).0
picks_what a key id act is = absurd (false≢true is)

-- ---- while the fetch is open

-- at a place where the service goes on, and the attempt that has read the version is there, its commit is known
module _ (node capacity : ℕ) (door : List DoorEntry) (lawful : Lawful door) (a : Attempt) (key : List ℕ) (id : TxnId) (first middle rest : List NodeEntry) (pick : NodeEntry)
    (beside : Beside node capacity door ((first ++ pick ∷ middle) ++ rest)) (opens : Opens ((first ++ pick ∷ middle) ++ rest)) (picks : IsTrue (picks_fetch a key id pick.act)) where
  abbrev here : List NodeEntry
  here = first ++ pick ∷ middle

  now : Beside node capacity door here
  now = begins node capacity door here rest beside

  long : here ≡ (first ++ pick ∷ []) ++ middle
  long = sym (append_assoc first (pick ∷ []) middle)

  at_pick : Beside node capacity door (first ++ pick ∷ [])
  at_pick = begins node capacity door (first ++ pick ∷ []) middle (subst (Beside node capacity door) long now)

  runs_there : (act : NodeAct) (answer : Option Reply) → IsTrue (picks_fetch a key id act) → IsTrue (may_be_done node capacity first act answer) → There (attempt_state a (part first))
  runs_there (Select b got (picked.Fetch i)) answer is may =
      let at = picking node capacity first b got (picked.Fetch i) answer may in
      let same = (and_parts (same_attempt a b) (bytes_eq key got) (and_parts (same_attempt a b && bytes_eq key got) (same_id id i) is).0).0 in
      subst (λ (l : List NodeEntry). There (attempt_state a l)) (sym (part-at first at.s at.is)) (subst (λ (x : Attempt). There (attempt_state x at.s.part)) (sym (same_attempts a b same)) (running_there (attempt_state b at.s.part) at.runs))
  runs_there act answer is may = absurd (false≢true is)

  goes_at : (s : Service) (act : NodeAct) → IsTrue (picks_fetch a key id act) → state_after (IsServing s) pick act ≡ IsServing (extended s pick)
  goes_at s (Select b got (picked.Fetch i)) is = refl
  goes_at s act is = absurd (false≢true is)

  serve_first : IsTrue (serves a.inc (node_state first))
  serve_first = (acts_of_own node capacity a first pick at_pick.legal (picks_what a key id pick.act picks)).1

  module _ (serve : IsTrue (serves a.inc (node_state here))) (still : IsTrue (serves a.inc (node_state (here ++ rest)))) (runs : IsTrue (is_running (attempt_state a (part (here ++ rest))))) where
    admitted_here : IsAdmitted a (part here)
    admitted_here =
        still_admitted node capacity a.inc a first (pick ∷ middle) now.legal serve_first serve
        (there_admitted node capacity a.inc first (before node capacity door first pick at_pick).legal serve_first a (runs_there pick.act pick.answer picks (done node capacity door first pick at_pick)))

    there_here : There (attempt_state a (part here))
    there_here = false_from_ne_true (is_gone (attempt_state a (part here))) (λ gone.
        true≢false (sym (gone_for_good node capacity a.inc a here rest beside.legal serve still admitted_here gone) ∙ running_there (attempt_state a (part (here ++ rest))) runs))

    -- the pick stands in the service
    in_service_here : (t : Service) × (node_state here ≡ IsServing t) × In pick t.part
    in_service_here =
        let at = serving a.inc (node_state first) serve_first in
        let goes : node_state (first ++ pick ∷ []) ≡ IsServing (extended at.0 pick) =
        node_state-snoc first pick ∙ (ap (λ (st : NodeState). state_after st pick pick.act) at.1 ∙ goes_at at.0 pick.act picks) in
        let kept = kept_within node capacity a.inc (λ (s : Service). In pick s.part) (λ h s e legal was may among. in_front pick s.part (e ∷ []) among) (first ++ pick ∷ []) middle (extended at.0 pick)
        (subst (LegalNode node capacity) long now.legal) goes at.2 (in_back pick at.0.part (pick ∷ []) (inl refl)) (subst (λ (h : List NodeEntry). IsTrue (serves a.inc (node_state h))) long serve) in
        (kept.0, subst (λ (h : List NodeEntry). node_state h ≡ IsServing kept.0) (sym long) kept.1, kept.2)

    read_here : In (record { key = key; id = id }) (reads a (part here)) × IsFalse (same_id zero_id id)
    read_here =
        let at = in_service_here in
        let told = subst TellsIn at.1 (tells node capacity door lawful.made here now (each_after_split open_rule [] here rest opens).0) in
        let read = told.fetched pick at.2 a key id picks in
        (subst (λ (l : List NodeEntry). In (record { key = key; id = id }) (reads a l)) (sym (part-at here at.0 at.1)) read.0, read.1)

    known_here : IsTrue (has_id id (known here))
    known_here =
        let there = filter_in (λ (x : Attempt). not (is_gone (attempt_state x (part here)))) a (attempts (part here)) (admitted_in a (part here) admitted_here) (ap not there_here) in
        let pinned : IsTrue (is_pinned id (part here)) =
        any_from (λ (x : Attempt). list_any (λ (p : ReadPair). same_id id p.id) (reads x (part here))) a (present (part here)) there
        (any_from (λ (p : ReadPair). same_id id p.id) (record { key = key; id = id }) (reads a (part here)) read_here.0 (same_id-refl id)) in
        pinned_is_known node capacity id here now.legal pinned (false_from_ne_true (same_id id zero_id) (λ same.
        true≢false (sym (same_id-refl zero_id) ∙ subst (λ (i : TxnId). IsFalse (same_id zero_id i)) (same_ids id zero_id same) read_here.1)))

    -- so it isn't given up there
    pub not_given_up : (entry : NodeEntry) → Beside node capacity door (here ++ entry ∷ []) → entry.act ≡ GiveUp id → ⊥
    not_given_up entry with_it gives = true≢false (sym known_here ∙ given_up_unknown node capacity id here entry with_it.legal gives)

-- ---- the pick of a line whose fetch stood open

pub record Since (by : By) (a : Attempt) (key : List ℕ) (id : TxnId) (entries : List NodeEntry) : Type 0 where
  pub first : List NodeEntry
  pub one : NodeEntry
  pub rest : List NodeEntry
  pub parts : entries ≡ first ++ one ∷ rest
  pub mine : IsTrue (same_line by one.by)
  pub picks : IsTrue (picks_fetch a key id one.act)

since : (by : By) (a : Attempt) (key : List ℕ) (id : TxnId) (earlier entries : List NodeEntry) → IsTrue (is_open_since by a key id earlier entries) → Since by a key id entries
since by a key id earlier [] is = absurd (false≢true is)
since by a key id earlier (entry ∷ entries) is =
    elim (or_cases (same_line by entry.by && picks_fetch a key id entry.act && each_prefix (has_it_open a key id) (earlier ++ entry ∷ []) entries) (is_open_since by a key id (earlier ++ entry ∷ []) entries) is) [
      | inl here ↦ (let both = and_parts (same_line by entry.by) (picks_fetch a key id entry.act) (and_parts (same_line by entry.by && picks_fetch a key id entry.act) (each_prefix (has_it_open a key id) (earlier ++ entry ∷ []) entries) here).0 in
          record { first = []; one = entry; rest = entries; parts = refl; mine = both.0; picks = both.1 })
      | inr later ↦ (let found = since by a key id (earlier ++ entry ∷ []) entries later in
          record { first = entry ∷ found.first; one = found.one; rest = found.rest; parts = ap (λ (l : List NodeEntry). entry ∷ l) found.parts; mine = found.mine; picks = found.picks })
    ]

-- ---- of a fetch that ends

module _ (node capacity : ℕ) (door : List DoorEntry) (lawful : Lawful door) (history more : List NodeEntry) (entry : NodeEntry) (beside : Beside node capacity door ((history ++ entry ∷ []) ++ more))
    (opens : Opens (history ++ entry ∷ [])) (a : Attempt) (key : List ℕ) (id : TxnId) (ends : EndsFetch a key id entry.act) where
  abbrev whole : List NodeEntry
  whole = (history ++ entry ∷ []) ++ more

  to_end : Beside node capacity door (history ++ entry ∷ [])
  to_end = begins node capacity door (history ++ entry ∷ []) more beside

  its : Beside node capacity door history
  its = before node capacity door history entry to_end

  split : Opens history × IsTrue (open_rule history entry)
  split = each_after_snoc open_rule [] history entry opens

  acts_so : IsTrue (acts_on a entry.act)
  acts_so = elim ends [
    | inl value ↦ subst (λ (act : NodeAct). IsTrue (acts_on a act)) (sym value.2) (same_itself a)
    | inr lost ↦ subst (λ (act : NodeAct). IsTrue (acts_on a act)) (sym lost) (same_itself a)
  ]

  serve_end : IsTrue (serves a.inc (node_state history))
  serve_end = (acts_of_own node capacity a history entry to_end.legal acts_so).1

  its_service : (s : Service) × (node_state history ≡ IsServing s) × (s.inc ≡ a.inc)
  its_service = serving a.inc (node_state history) serve_end

  open_now : IsTrue (is_open_since entry.by a key id [] (part history))
  open_now = elim ends [
    | inl value ↦ subst (λ (act : NodeAct). IsTrue (ends_open_fetch (part history) entry.by act)) value.2 split.1
    | inr lost ↦ subst (λ (act : NodeAct). IsTrue (ends_open_fetch (part history) entry.by act)) lost split.1
  ]

  fetches_on : (s : Service) × (node_state history ≡ IsServing s) × IsTrue (nat_lt 0 (open_reads a s.part))
  fetches_on = elim ends [
    | inl value ↦ (let at = in_one (may_serve node capacity (Value a key id value.0 value.1) entry.answer) (node_state history) (subst (λ (act : NodeAct). IsTrue (may_be_done node capacity history act entry.answer)) value.2 (done node capacity door history entry to_end)) in
        (at.0, at.1, (and_parts (nat_lt 0 (open_reads a at.0.part)) (is_value_of id entry.answer) at.2).0))
    | inr lost ↦ (let at = in_one (may_serve node capacity (Lost a key id) entry.answer) (node_state history) (subst (λ (act : NodeAct). IsTrue (may_be_done node capacity history act entry.answer)) lost (done node capacity door history entry to_end)) in
        (at.0, at.1, (and_parts (nat_lt 0 (open_reads a at.0.part)) (is_fetch_refusal id entry.answer) at.2).0))
  ]

  runs_end : IsTrue (is_running (attempt_state a (part history)))
  runs_end = fetching_runs node capacity a.inc history its.legal serve_end a (subst (λ (l : List NodeEntry). IsTrue (nat_lt 0 (open_reads a l))) (sym (part-at history fetches_on.0 fetches_on.1)) fetches_on.2)

  -- where the line picked it, behind the boot of the service
  pub record Pick : Type 0 where
    pub commits : List Commit
    pub before_boot : List NodeEntry
    pub boot : NodeEntry
    pub between : List NodeEntry
    pub one : NodeEntry
    pub rest : List NodeEntry
    pub parts : history ≡ ((before_boot ++ boot ∷ []) ++ between) ++ one ∷ rest
    pub boots_so : boot.act ≡ Boot a.inc commits
    pub mine : IsTrue (same_line entry.by one.by)
    pub picks : IsTrue (picks_fetch a key id one.act)

  pub pick_of : Pick
  pick_of =
      let found = since entry.by a key id [] (part history) open_now in
      let booted = booted_of node capacity door history its its_service.0 its_service.1 in
      let start : List NodeEntry = booted.first ++ booted.boot ∷ [] in
      record {
        commits = its_service.0.booted;
        before_boot = booted.first;
        boot = booted.boot;
        between = found.first;
        one = found.one;
        rest = found.rest;
        parts = booted.parts ∙ (ap (λ (l : List NodeEntry). start ++ l) (sym (part-at history its_service.0 its_service.1) ∙ found.parts) ∙ sym (append_assoc start found.first (found.one ∷ found.rest)));
        boots_so = booted.boots_so ∙ ap (λ (i : ℕ). Boot i its_service.0.booted) its_service.2;
        mine = found.mine;
        picks = found.picks;
      }

  abbrev first_part : List NodeEntry
  first_part = (pick_of.before_boot ++ pick_of.boot ∷ []) ++ pick_of.between

  -- the history up to the pick, and what was known there
  pub to_pick : Beside node capacity door (first_part ++ pick_of.one ∷ [])
  to_pick = begins node capacity door (first_part ++ pick_of.one ∷ []) pick_of.rest (subst (Beside node capacity door) (pick_of.parts ∙ sym (append_assoc first_part (pick_of.one ∷ []) pick_of.rest)) its)

  pub serves_there : IsTrue (serves a.inc (node_state first_part))
  serves_there = (acts_of_own node capacity a first_part pick_of.one to_pick.legal (picks_what a key id pick_of.one.act pick_of.picks)).1

  pub picked_of : PickedCommit door first_part pick_of.one key id
  picked_of = picked_commit node capacity door first_part pick_of.one to_pick a key id pick_of.picks

  -- a give-up of it stands neither before the end, nor behind it at a front below that
  pub no_give_up : (earlier later : List NodeEntry) (one : NodeEntry) → whole ≡ earlier ++ one ∷ later → one.act ≡ GiveUp id → IsTrue (serves a.inc (node_state earlier)) → one.front < entry.front → ⊥
  no_give_up earlier later one parts gives serve less =
      elim (order earlier one later history entry more (sym parts ∙ append_assoc history (entry ∷ []) more)) [
        | inl behind ↦ after_end behind.0 behind.1
        | inr others ↦ elim others [
          | inl same ↦ false≢true (subst (λ (act : NodeAct). IsTrue (acts_on a act)) (sym (ap (λ (e : NodeEntry). e.act) same.1) ∙ gives) acts_so)
          | inr inside ↦ in_history inside.0 inside.1
        ]
      ]
    where
      with_one : Beside node capacity door (earlier ++ one ∷ [])
      with_one = begins node capacity door (earlier ++ one ∷ []) later (subst (Beside node capacity door) (parts ∙ sym (append_assoc earlier (one ∷ []) later)) beside)

      after_end : (m : List NodeEntry) → earlier ≡ history ++ entry ∷ m → ⊥
      after_end m is =
          let here : earlier ≡ (history ++ entry ∷ []) ++ m = is ∙ sym (append_assoc history (entry ∷ []) m) in
          let rises : front earlier ≤ one.front = up node capacity door earlier one with_one in
          let from : front (history ++ entry ∷ []) ≤ front ((history ++ entry ∷ []) ++ m) = front_rises node capacity door (history ++ entry ∷ []) m (subst (Beside node capacity door) here (before node capacity door earlier one with_one)) in
          let at_entry : front (history ++ entry ∷ []) ≡ entry.front = front-snoc history entry in
          let same : front earlier ≡ front ((history ++ entry ∷ []) ++ m) = ap front here in
          omega arith

      in_history : (m : List NodeEntry) → history ≡ earlier ++ one ∷ m → ⊥
      in_history m is =
          elim (order earlier one m first_part pick_of.one pick_of.rest (sym is ∙ pick_of.parts)) [
            | inl between ↦ (let here : history ≡ (first_part ++ pick_of.one ∷ between.0) ++ (one ∷ m) = is ∙ ap (λ (l : List NodeEntry). l ++ one ∷ m) between.1 in
                not_given_up node capacity door lawful a key id first_part between.0 (one ∷ m) pick_of.one (subst (Beside node capacity door) here its) (subst Opens here split.0) pick_of.picks
                (subst (λ (h : List NodeEntry). IsTrue (serves a.inc (node_state h))) between.1 serve) (subst (λ (h : List NodeEntry). IsTrue (serves a.inc (node_state h))) here serve_end)
                (subst (λ (h : List NodeEntry). IsTrue (is_running (attempt_state a (part h)))) here runs_end) one (subst (λ (h : List NodeEntry). Beside node capacity door (h ++ one ∷ [])) between.1 with_one) gives)
            | inr others ↦ elim others [
              | inl same ↦ false≢true (subst (λ (act : NodeAct). IsTrue (picks_fetch a key id act)) (sym (ap (λ (e : NodeEntry). e.act) same.1) ∙ gives) pick_of.picks)
              | inr sooner ↦ before_pick sooner.0 sooner.1
            ]
          ]
        where
          before_pick : (m : List NodeEntry) → first_part ≡ earlier ++ one ∷ m → ⊥
          before_pick m first_is =
              let moved : first_part ≡ (earlier ++ one ∷ []) ++ m = first_is ∙ sym (append_assoc earlier (one ∷ []) m) in
              let there : IsTrue (has_id id (known first_part)) = any_from (λ (c : Commit). same_id id c.id) picked_of.commit (known first_part) picked_of.knows (subst (λ (i : TxnId). IsTrue (same_id i picked_of.commit.id)) picked_of.its_id (same_id-refl picked_of.commit.id)) in
              true≢false (sym (subst (λ (h : List NodeEntry). IsTrue (has_id id (known h))) moved there)
              ∙ never_again node capacity door lawful a.inc id earlier m one (subst (Beside node capacity door) moved (before node capacity door first_part pick_of.one to_pick)) gives serve (subst (λ (h : List NodeEntry). IsTrue (serves a.inc (node_state h))) moved serves_there))
