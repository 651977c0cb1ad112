-- The commit of a version that is fetched wasn't tried to be marked where the door showed the version, between the pick and the end.
use Rattle.std.proofs.Common.{◌≡◌, ◌≤◌, ◌<◌, ◌+◌, ℕ, ◌&&◌, ◌||◌, not, List, [], ◌∷◌, ◌++◌, refl, sym, ap, subst, ◌∙◌, inl, inr, append_assoc, length, take, eqb, leb, eq-eqb, arith}
use Rattle.std.specs.Prelude.{IsTrue, IsFalse}
use Rattle.std.specs.List.{flat_map}
use Rattle.std.proofs.lemmas.Bool.{and_parts, false≢true, leb-true, not-true, or_cases, true≢false}
use Rattle.std.proofs.lemmas.List.{length-append}
use Rattle.aft_id.specs.TxnId.{IsUuid, same_id}
use Rattle.aft_id.specs.declared.txn_id.TxnId.{TxnId}
use Rattle.aft_records.specs.declared.stored.Commit.{Commit}
use Rattle.aft_records.specs.declared.stored.Marker.TheVariants.{Full}
use Rattle.aft_records.specs.Commits.{is_among, same_commit}
use Rattle.aft_records.specs.Superseded.{Superseded}
use Rattle.aft_model.specs.declared.caller.Attempt.{Attempt}
use Rattle.aft_model.specs.declared.caller.By.{By}
use Rattle.aft_model.specs.declared.door.DoorAct.{DoorAct}
use Rattle.aft_model.specs.declared.door.DoorAct.TheVariants as door_acts
use Rattle.aft_model.specs.declared.door.DoorEntry.{DoorEntry}
use Rattle.aft_model.specs.declared.node.NodeAct.{NodeAct}
use Rattle.aft_model.specs.declared.node.NodeAct.TheVariants.{GiveUp}
use Rattle.aft_model.specs.declared.node.NodeEntry.{NodeEntry}
use Rattle.aft_model.specs.Claims.{given_up, gives_up}
use Rattle.aft_model.specs.Committed.{committed}
use Rattle.aft_model.specs.DoorKnowledge.{is_open, opens}
use Rattle.aft_model.specs.Evidence.{shown_pairs}
use Rattle.aft_model.specs.History.{each_after}
use Rattle.aft_model.specs.Known.{known}
use Rattle.aft_model.specs.LegalDoor.{Legal}
use Rattle.aft_model.specs.LegalNode.{front}
use Rattle.aft_model.specs.Membership.{Incarnation, incarnation, is_up, same_incarnation, ups}
use Rattle.aft_model.specs.NodeSights.{comes_up}
use Rattle.aft_model.specs.NodeState.{node_state, serves}
use Rattle.aft_model.specs.Readings.{markers_in}
use Rattle.aft_model.specs.ScanRun.{same_line}
use Rattle.aft_model.proofs.Growth.{any_grows}
use Rattle.aft_model.proofs.Histories.{In, all_at, any_found, any_from, each_after_split, in_back}
use Rattle.aft_model.proofs.Ids.{same_ids}
use Rattle.aft_model.proofs.OneCommit.{same_who}
use Rattle.aft_lines.specs.CollectCourse.{is_give_up}
use Rattle.aft_lines.specs.Holding.{picks_fetch}
use Rattle.aft_lines.specs.LegalTrace.{backs_give_up, some_after}
use Rattle.law_kept.specs.Kept.{Lawful}
use Rattle.law_kept.specs.Tried.{Tried, markers_put}
use Rattle.law_kept.proofs.Always.{lawful_begins}
use Rattle.law_kept.proofs.Gone.{flat_map_in}
use Rattle.law_kept.proofs.PutMarker.{same_commit_itself}
use Rattle.law_kept.proofs.Steps.{open_stays}
use Rattle.law_places.proofs.Seen.{grows}
use Rattle.law_whole.specs.Marks.{MarkedAt}
use Rattle.law_whole.proofs.Lists.{split_at}
use Rattle.law_whole.proofs.Marks.{tried_how, tried_superseded}
use Rattle.law_whole.proofs.Throughout.{its_uuid}
use Rattle.law_boots.specs.Beside.{Beside, backs_give_ups, is_backed_in}
use Rattle.law_boots.specs.Boots.{SeesGreatest}
use Rattle.law_boots.proofs.Again.{Opens}
use Rattle.law_boots.proofs.Boot.{never_known, sees_greatest}
use Rattle.law_boots.proofs.Came.{Came, came, up_between}
use Rattle.law_boots.proofs.Greatest.{opened}
use Rattle.law_boots.proofs.Nodes.{before, front-snoc, up}
use Rattle.law_boots.proofs.Real.{in_whole, taken}
use Rattle.law_boots.proofs.Unasked.{at_door, backed, front_rises, gives_what, nothing_given_up, order}
use Rattle.law_fetches.specs.Ends.{EndsFetch}
use Rattle.law_fetches.proofs.Picked.{PickedCommit}
use Rattle.law_fetches.proofs.Fetched.{Pick, no_give_up, pick_of, picked_of, serves_there, to_pick}

-- a history is what so long a beginning of it takes
all_of : {A : Type 0} (xs ys : List A) → take (length xs) (xs ++ ys) ≡ xs
all_of [] ys = refl
all_of {A} (x ∷ xs) ys = ap (λ (l : List A). x ∷ l) (all_of xs ys)

module _ (node capacity : ℕ) (of_node : IsFalse (eqb node 0)) (door : List DoorEntry) (lawful : Lawful door) (history more : List NodeEntry) (entry : NodeEntry) (beside : Beside node capacity door ((history ++ entry ∷ []) ++ more))
    (backs : IsTrue (backs_give_ups node ((history ++ entry ∷ []) ++ more) door)) (opens_then : Opens (history ++ entry ∷ [])) (a : Attempt) (key : List ℕ) (id : TxnId) (ends : EndsFetch a key id entry.act) where
  abbrev whole : List NodeEntry
  whole = (history ++ entry ∷ []) ++ more

  abbrev who : Incarnation
  who = incarnation node a.inc

  -- the pick, the boot before it, and its commit
  abbrev pick : Pick node capacity door lawful history more entry beside opens_then a key id ends
  pick = pick_of node capacity door lawful history more entry beside opens_then a key id ends

  abbrev booted : List NodeEntry
  booted = pick.before_boot ++ pick.boot ∷ []

  abbrev of_pick : PickedCommit door (booted ++ pick.between) pick.one key id
  of_pick = picked_of node capacity door lawful history more entry beside opens_then a key id ends

  abbrev c : Commit
  c = of_pick.commit

  to_it : Beside node capacity door ((booted ++ pick.between) ++ pick.one ∷ [])
  to_it = to_pick node capacity door lawful history more entry beside opens_then a key id ends

  before_it : Beside node capacity door (booted ++ pick.between)
  before_it = before node capacity door (booted ++ pick.between) pick.one to_it

  -- the whole history, from the boot on
  abbrev behind_boot : List NodeEntry
  behind_boot = pick.between ++ pick.one ∷ (pick.rest ++ entry ∷ more)

  from_boot : whole ≡ booted ++ behind_boot
  from_boot =
      append_assoc history (entry ∷ []) more
      ∙ (ap (λ (l : List NodeEntry). l ++ entry ∷ more) pick.parts
      ∙ (append_assoc (booted ++ pick.between) (pick.one ∷ pick.rest) (entry ∷ more) ∙ append_assoc booted pick.between (pick.one ∷ (pick.rest ++ entry ∷ more))))

  -- the boot has seen no more than the pick
  boot_first : pick.boot.front ≤ pick.one.front
  boot_first =
      let at_boot : front booted ≡ pick.boot.front = front-snoc pick.before_boot pick.boot in
      let rises : front booted ≤ front (booted ++ pick.between) = front_rises node capacity door booted pick.between before_it in
      let last : front (booted ++ pick.between) ≤ pick.one.front = up node capacity door (booted ++ pick.between) pick.one to_it in
      omega arith

  lawful_boot : Lawful (take pick.boot.front door)
  lawful_boot = (let r = taken pick.boot.front door in lawful_begins (take pick.boot.front door) r.0 (subst Lawful r.1 lawful))

  sees : SeesGreatest who pick.commits (take pick.boot.front door)
  sees = sees_greatest node capacity a.inc pick.commits door lawful pick.before_boot behind_boot pick.boot (subst (Beside node capacity door) from_boot beside) pick.boots_so (subst (λ (h : List NodeEntry). IsTrue (backs_give_ups node h door)) from_boot backs) of_node

  lawful_sees : Lawful (sees.before ++ sees.entry ∷ sees.after)
  lawful_sees = subst Lawful sees.parts lawful_boot

  lawful_first : Lawful sees.before
  lawful_first = lawful_begins sees.before (sees.entry ∷ sees.after) lawful_sees

  open_first : IsTrue (is_open sees.before)
  open_first =
      opened who of_node sees.before sees.after sees.entry lawful_sees sees.comes (λ i. subst (λ (h : List DoorEntry). IsFalse (given_up who i h)) sees.parts
      (nothing_given_up node capacity door a.inc pick.commits pick.before_boot behind_boot pick.boot (subst (Beside node capacity door) from_boot beside) pick.boots_so (subst (λ (h : List NodeEntry). IsTrue (backs_give_ups node h door)) from_boot backs) i))

  at_whole : In c (committed door)
  at_whole = in_whole c pick.one.front door of_pick.seen

  its : IsUuid c.id.uuid
  its = its_uuid door lawful c at_whole

  -- it wasn't tried before the incarnation came up
  not_before : Tried sees.before (Full c) → ⊥
  not_before tried =
      let superseded : Superseded c (committed sees.before) = tried_superseded c sees.before lawful_first its open_first tried in
      let knows : IsTrue (is_among c (known (booted ++ pick.between))) = any_from (same_commit c) c (known (booted ++ pick.between)) of_pick.knows (same_commit_itself c) in
      true≢false (sym knows ∙ never_known node capacity a.inc pick.commits door lawful pick.before_boot pick.between pick.boot before_it pick.boots_so sees c superseded (serves_there node capacity door lawful history more entry beside opens_then a key id ends))

  -- ---- at a place between the pick and the end

  module _ (seen after : List DoorEntry) (parts : door ≡ seen ++ after) (late : (e : NodeEntry) → In e history → IsTrue (same_line entry.by e.by) → IsTrue (picks_fetch a key id e.act) → e.front ≤ length seen) where
    pub picked_before : pick.one.front ≤ length seen
    picked_before =
        let p = pick in
        late p.one (subst (In p.one) (sym p.parts) (in_back p.one (booted ++ pick.between) (p.one ∷ p.rest) (inl refl))) p.mine p.picks

    pub lawful_seen : Lawful seen
    lawful_seen = lawful_begins seen after (subst Lawful parts lawful)

    pub taken_seen : take (length seen) door ≡ seen
    taken_seen = ap (take (length seen)) parts ∙ all_of seen after

    from_up : (later : List DoorEntry) × (seen ≡ sees.before ++ sees.entry ∷ later)
    from_up =
        let m = grows pick.boot.front (length seen) door (let first = boot_first in let behind_it : pick.one.front ≤ length seen = picked_before in omega arith) in
        (sees.after ++ m.0, sym taken_seen ∙ (m.1 ∙ (ap (λ (l : List DoorEntry). l ++ m.0) sees.parts ∙ append_assoc sees.before (sees.entry ∷ sees.after) m.0)))

    pub open_there : IsTrue (is_open seen)
    open_there = subst (λ (h : List DoorEntry). IsTrue (is_open h)) (sym from_up.1) (any_grows (λ (e : DoorEntry). opens e.act) sees.before (sees.entry ∷ from_up.0) open_first)

    module _ (short : length seen < entry.front) (is_up_there : IsTrue (is_up who seen)) where
      no_up_puts : (act : DoorAct) → IsTrue (comes_up who act) → In (Full c) (markers_put act) → ⊥
      no_up_puts (door_acts.Up n i) is put = put
      no_up_puts act is put = false≢true is

      -- a give-up of its id at the door before that place has none of its own at the node
      unbacked : (by : By) (place : ℕ) → place < length seen → IsTrue (some_after (backs_give_up by a.inc id place) [] whole) → ⊥
      unbacked by place less is =
          let at = backed (backs_give_up by a.inc id place) [] whole is in
          let test = and_parts (same_line by at.one.by && is_give_up id at.one.act && serves a.inc (node_state at.front_part)) (leb at.one.front place) at.passes in
          let both = and_parts (same_line by at.one.by && is_give_up id at.one.act) (serves a.inc (node_state at.front_part)) test.0 in
          let named = (and_parts (same_line by at.one.by) (is_give_up id at.one.act) both.0).1 in
          let what = gives_what id at.one.act named in
          let its_id : id ≡ what.0 = same_ids id what.0 (subst (λ (act : NodeAct). IsTrue (is_give_up id act)) what.1 named) in
          let low : at.one.front ≤ place = leb-true at.one.front place test.1 in
          let bound : length seen < entry.front = short in
          no_give_up node capacity door lawful history more entry beside opens_then a key id ends at.front_part at.back_part at.one at.parts (what.1 ∙ ap GiveUp (sym its_id)) both.1 (omega arith)

      not_given : (first m : List DoorEntry) → seen ≡ first ++ m → IsTrue (given_up who c.id first) → ⊥
      not_given first m is given =
          let x = any_found (λ (e : DoorEntry). gives_up who c.id e.act) first given in
          let at = split_at x.0 first x.1 in
          let gave = at_door who c.id x.0.act x.2 in
          let same : c.id ≡ gave.id = same_ids c.id gave.id (and_parts (same_incarnation who (incarnation who.node who.inc)) (same_id c.id gave.id) (subst (λ (act : DoorAct). IsTrue (gives_up who c.id act)) gave.is x.2)).1 in
          let named : gave.id ≡ id = sym same ∙ of_pick.its_id in
          let sum : length seen ≡ length ((at.0 ++ x.0 ∷ at.1) ++ m) = ap length (is ∙ ap (λ (l : List DoorEntry). l ++ m) at.2) in
          let long : length ((at.0 ++ x.0 ∷ at.1) ++ m) ≡ length at.0 + length (x.0 ∷ (at.1 ++ m)) = ap length (append_assoc at.0 (x.0 ∷ at.1) m) ∙ length-append at.0 (x.0 ∷ (at.1 ++ m)) in
          let parted : door ≡ at.0 ++ (x.0 ∷ ((at.1 ++ m) ++ after)) = parts ∙ (ap (λ (l : List DoorEntry). l ++ after) (is ∙ (ap (λ (l : List DoorEntry). l ++ m) at.2 ∙ append_assoc at.0 (x.0 ∷ at.1) m)) ∙ append_assoc at.0 (x.0 ∷ (at.1 ++ m)) after) in
          let ruled = (each_after_split (λ (b : List DoorEntry) (e : DoorEntry). is_backed_in node whole e.by (length b) e.act) [] at.0 (x.0 ∷ ((at.1 ++ m) ++ after)) (subst (λ (d : List DoorEntry). IsTrue (backs_give_ups node whole d)) parted backs)).1 in
          let here = (and_parts (is_backed_in node whole x.0.by (length at.0) x.0.act) (each_after (λ (b : List DoorEntry) (e : DoorEntry). is_backed_in node whole e.by (length b) e.act) (at.0 ++ x.0 ∷ []) ((at.1 ++ m) ++ after)) ruled).0 in
          let of_it = subst (λ (i : TxnId). IsTrue (is_backed_in node whole x.0.by (length at.0) (door_acts.GiveUp node a.inc i))) named (subst (λ (act : DoorAct). IsTrue (is_backed_in node whole x.0.by (length at.0) act)) gave.is here) in
          elim (or_cases (not (eqb node node)) (some_after (backs_give_up x.0.by a.inc id (length at.0)) [] whole) of_it) [
            | inl differs ↦ true≢false (sym (eq-eqb node node refl) ∙ not-true (eqb node node) differs)
            | inr own ↦ unbacked x.0.by (length at.0) (omega arith) own
          ]

      abbrev so_far : List DoorEntry
      so_far = sees.before ++ sees.entry ∷ from_up.0

      lawful_so_far : Lawful so_far
      lawful_so_far = subst Lawful from_up.1 lawful_seen

      -- a mark behind the coming up asks the incarnation
      not_behind : (at : MarkedAt c so_far) (m : List DoorEntry) → at.before ≡ sees.before ++ sees.entry ∷ m → ⊥
      not_behind at m later =
          let up_there : IsTrue (is_up who at.before) =
          up_between who at.before (at.entry ∷ at.after) (subst Legal at.parts lawful_so_far.legal) (subst (Came who) (sym later) (came who sees.before m sees.entry sees.comes)) (subst (λ (h : List DoorEntry). IsTrue (is_up who h)) (from_up.1 ∙ at.parts) is_up_there) in
          let i = any_found (same_incarnation who) (ups at.before) up_there in
          let gave = all_at (λ (w : Incarnation). eqb w.node 0 || given_up w c.id at.before) i.0 (ups at.before) i.1 at.given_up in
          let by_who = subst (λ (w : Incarnation). IsTrue (eqb w.node 0 || given_up w c.id at.before)) (sym (same_who who i.0 i.2)) gave in
          elim (or_cases (eqb who.node 0) (given_up who c.id at.before) by_who) [
            | inl zero ↦ true≢false (sym zero ∙ of_node)
            | inr given ↦ not_given at.before (at.entry ∷ at.after) (from_up.1 ∙ at.parts) given
          ]

      by_place : MarkedAt c so_far → ⊥
      by_place at = elim (order at.before at.entry at.after sees.before sees.entry from_up.0 (sym at.parts)) [
        | inl later ↦ not_behind at later.0 later.1
        | inr others ↦ elim others [
          | inl same ↦ no_up_puts sees.entry.act sees.comes (subst (λ (e : DoorEntry). In (Full c) (markers_put e.act)) same.1 at.puts)
          | inr earlier ↦ not_before (inl (subst (λ (h : List DoorEntry). In (Full c) (flat_map (λ (e : DoorEntry). markers_put e.act) h)) (sym earlier.1)
              (flat_map_in (λ (e : DoorEntry). markers_put e.act) (Full c) at.entry (at.before ++ at.entry ∷ earlier.0) (in_back at.entry at.before (at.entry ∷ earlier.0) (inl refl)) at.puts)))
        ]
      ]

      pub untried : Tried seen (Full c) → ⊥
      untried tried = elim (tried_how c so_far lawful_so_far (subst (λ (h : List DoorEntry). Tried h (Full c)) from_up.1 tried)) [
        | inl shown ↦ not_before (inr (subst (λ (l : List DoorEntry). In (Full c) (flat_map markers_in (flat_map (λ (e : DoorEntry). shown_pairs e) l))) (open_stays sees.before (sees.entry ∷ from_up.0) open_first) shown))
        | inr at ↦ by_place at
      ]
