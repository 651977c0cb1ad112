-- In a run so far no commit is retired under who is about to record it.
use Rattle.std.proofs.Common.{Bool, List, [], ap, append_assoc, arith, drop, zero, eqb, false, inl, inr, length, length-append, not, refl, subst, suc, sym, take, true, ℕ, ◌&&◌, ◌++◌, ◌+◌, ◌<◌, ◌||◌, ◌∙◌, ◌∷◌, ◌≡◌, ◌≤◌, ◌⊎◌}
use Rattle.aft_id.specs.TxnId.{same_id}
use Rattle.aft_id.specs.declared.txn_id.TxnId.{TxnId}
use Rattle.aft_keeper.specs.declared.keeper.Pair.{Pair}
use Rattle.aft_lines.specs.Asked.{Asked, Ran}
use Rattle.aft_lines.specs.CollectCourse.{is_give_up}
use Rattle.aft_lines.specs.LegalTrace.{backs_give_up, is_backed_at, some_after}
use Rattle.aft_lines.specs.LineView.{history_at}
use Rattle.aft_lines.specs.Makes.{is_under}
use Rattle.aft_lines.specs.Steps.{Made, door_steps, made_at_node}
use Rattle.aft_lines.specs.Turns.{AtNode}
use Rattle.aft_model.proofs.Histories.{In, all_at, any_found, any_from, each_after_snoc, each_after_split, in_flat_map}
use Rattle.aft_model.proofs.Ids.{same_ids}
use Rattle.aft_model.proofs.Lists.{all_from, in_filter}
use Rattle.aft_model.proofs.OneCommit.{same_who}
use Rattle.aft_model.proofs.Services.{serving}
use Rattle.aft_model.proofs.Sights.{read-name, read-one}
use Rattle.aft_model.proofs.Turns.{by_rule}
use Rattle.aft_model.specs.Claims.{given_up, gives_up, holds}
use Rattle.aft_model.specs.Committed.{committed, marks_in, retired_by}
use Rattle.aft_model.specs.DoorKnowledge.{knows_superseded}
use Rattle.aft_model.specs.DoorRules.{all_gave_up, may_put, may_put_marker, may_put_record, may_put_version, may_upgrade}
use Rattle.aft_model.specs.History.{each_after}
use Rattle.aft_model.specs.Known.{holds_id, known}
use Rattle.aft_model.specs.LegalDoor.{Legal, may_come, may_follow}
use Rattle.aft_model.specs.LegalNode.{front, may_be_done, may_follow_at, may_serve}
use Rattle.aft_model.specs.Membership.{Incarnation, incarnation, is_up, same_incarnation, the_office, ups}
use Rattle.aft_model.specs.NodeRules.{is_own_end}
use Rattle.aft_model.specs.NodeSights.{has_seen, is_fenced}
use Rattle.aft_model.specs.NodeState.{IsServing, Service, in_service, node_state, part, serves, service_in}
use Rattle.aft_model.specs.Opening.{has_failed, may_read}
use Rattle.aft_model.specs.Readings.{id_of_marker, marker_name, markers_in, record_name, version_name, versions_in, written_in}
use Rattle.aft_model.specs.Replies.{is_silent}
use Rattle.aft_model.specs.ScanRun.{same_line}
use Rattle.aft_model.specs.Sound.{markers_prefix}
use Rattle.aft_model.specs.Stages.{RetiresUnheld, put_under_claim, retires_unheld_in, was_unheld}
use Rattle.aft_model.specs.declared.caller.By.{By}
use Rattle.aft_model.specs.declared.door.DoorAct.{DoorAct}
use Rattle.aft_model.specs.declared.door.DoorEntry.{DoorEntry}
use Rattle.aft_model.specs.declared.node.NodeAct.{NodeAct}
use Rattle.aft_model.specs.declared.node.NodeEntry.{NodeEntry}
use Rattle.aft_model.specs.declared.reply.Reply.{Reply}
use Rattle.aft_records.specs.Commits.{has_id}
use Rattle.aft_records.specs.Reading.{marker_of, record_of, version_of}
use Rattle.aft_records.specs.Superseded.{is_superseded}
use Rattle.aft_records.specs.declared.stored.Commit.{Commit}
use Rattle.aft_records.specs.declared.stored.Marker.{Marker}
use Rattle.aft_records.specs.declared.stored.Record.{Record}
use Rattle.aft_records.specs.declared.stored.Version.{Version}
use Rattle.law_claims.proofs.Fenced.{fenced_down}
use Rattle.law_claims.proofs.Unheld.{gives_up_unheld}
use Rattle.law_claims.specs.Moments.{scene_of}
use Rattle.law_runs.proofs.Come.{fenced_later, it_comes, rise, seen_is}
use Rattle.law_runs.proofs.InStages.{kept_behind}
use Rattle.law_runs.specs.Runs.{Goes, asking_of, run_steps, without_office}
use Rattle.law_steps.proofs.Histories.{node_is}
use Rattle.law_steps.specs.Histories.{history_in}
use Rattle.law_turns.specs.Order.{is_at_node}
use Rattle.std.proofs.lemmas.Bool.{and_from, and_parts, cases_Bool, eq-eqb, eqb-false, eqb-true, false_from_ne_true, false≢true, leb-true, ne_eqb, not-true, or_cases, or_left, or_right, true≢false}
use Rattle.std.proofs.lemmas.List.{take-take, take_all, take_at}
use Rattle.std.specs.List.{list_all, list_any, range_with_len}
use Rattle.std.specs.Prelude.{IsFalse, IsTrue, Option, if◌then◌else◌, nat_le, ◌-◌}
use Rattle.aft_model.specs.declared.door.DoorAct.TheVariants as doors
use Rattle.aft_model.specs.declared.node.NodeAct.TheVariants as acts
use Rattle.aft_keeper.specs.declared.keeper.KeeperCall.TheVariants as calls
use Rattle.aft_records.specs.declared.stored.Marker.TheVariants as markers

-- ---- lists

pub split_at : {A : Type 0} (x : A) (xs : List A) → In x xs → (before : List A) × (rest : List A) × (xs ≡ before ++ x ∷ rest)
split_at x [] none = absurd none
split_at {A} x (y ∷ xs) (inl is) = ([], xs, ap (λ (z : A). z ∷ xs) (sym is))
split_at {A} x (y ∷ xs) (inr later) = (let r = split_at x xs later in (y ∷ r.0, r.1, ap (λ (l : List A). y ∷ l) r.2))

in_range : (n least count : ℕ) → least ≤ n → n < least + count → In n (range_with_len least count)
in_range n least zero low high = absurd (omega arith)
in_range n least (suc count) low high = elim (cases_Bool (eqb n least)) [
  | inl same ↦ inl (eqb-true n least same)
  | inr other ↦ inr (in_range n (least + 1) count (past n least low (eqb-false n least other)) (let h = high in omega arith))
]
  where
    past : (a b : ℕ) → b ≤ a → (a ≡ b → ⊥) → b + 1 ≤ a
    past a b le differ = grind arith

take_whole : {A : Type 0} (f : ℕ) (h more : List A) → f ≤ length h → take f h ≡ take f (h ++ more)
take_whole f h more le = ap (take f) (sym (take_at h more (length h) refl)) ∙ take-take f (length h) (h ++ more) le

-- a rule that each entry of a history passes behind those before it
pub each_from : {A : Type 0} (rule : List A → A → Bool) (all before xs : List A) → all ≡ before ++ xs → ((h : List A) (x : A) (more : List A) → all ≡ h ++ x ∷ more → IsTrue (rule h x)) → IsTrue (each_after rule before xs)
each_from rule all before [] is each = refl
each_from rule all before (x ∷ xs) is each = and_from (rule before x) (each_after rule (before ++ x ∷ []) xs) (each before x xs is) (each_from rule all (before ++ x ∷ []) xs (is ∙ sym (append_assoc before (x ∷ []) xs)) each)

-- ---- entries of a node

pub made_in : (number : ℕ) (test : List NodeEntry → NodeEntry → Bool) (pre h : List NodeEntry) → IsTrue (some_after test pre h) → (p : List NodeEntry) × (e : NodeEntry) × In (record { by = e.by; turn = AtNode number p e }) (made_at_node number pre h) × IsTrue (test p e)
made_in number test pre [] is = absurd (false≢true is)
made_in number test pre (entry ∷ h) is = elim (or_cases (test pre entry) (some_after test (pre ++ entry ∷ []) h) is) [
  | inl here ↦ (pre, entry, inl refl, here)
  | inr later ↦ (let r = made_in number test (pre ++ entry ∷ []) h later in (r.0, r.1, inr r.2, r.3))
]

same_at : (h : List NodeEntry) (k node : ℕ) (hs : List (List NodeEntry)) → In h (take 1 (drop k hs)) → h ≡ history_in (node + k) node hs
same_at h zero node [] none = absurd none
same_at h zero node (x ∷ hs) (inl is) = is ∙ sym (ap (λ (b : Bool). if b then x else history_in (node + 0) (suc node) hs) (eq-eqb (node + 0) node (omega arith)))
same_at h zero node (x ∷ hs) (inr none) = absurd none
same_at h (suc k) node [] none = absurd none
same_at h (suc k) node (x ∷ hs) among =
    same_at h k (suc node) hs among
    ∙ (ap (λ n. history_in n (suc node) hs) (let e : suc node + k ≡ node + suc k = omega arith in e)
    ∙ sym (ap (λ (b : Bool). if b then x else history_in (node + suc k) (suc node) hs) (ne_eqb (node + suc k) node (λ is. (let z = is in omega arith)))))

pub history_same : (h : List NodeEntry) (number : ℕ) (nodes : List (List NodeEntry)) → In h (history_at number nodes) → h ≡ history_in number 1 nodes
history_same h number nodes among = cases (eqb number 0) refl among
  where
    cases : (b : Bool) → eqb number 0 ≡ b → In h (if b then [] else take 1 (drop (number - 1) nodes)) → h ≡ history_in number 1 nodes
    cases true is none = absurd none
    cases false is there = same_at h (number - 1) 1 nodes there ∙ ap (λ n. history_in n 1 nodes) (back number (eqb-false number 0 is))
      where
        back : (n : ℕ) → (n ≡ 0 → ⊥) → 1 + (n - 1) ≡ n
        back zero not = absurd (not refl)
        back (suc n) not = omega arith

-- ---- what a give-up says

-- a node that gives an id up holds on to no commit of it
given_free : (node capacity : ℕ) (act : NodeAct) (answer : Option Reply) (id : TxnId) (p : List NodeEntry) (s : Service) → IsTrue (is_give_up id act) → node_state p ≡ IsServing s → IsTrue (may_be_done node capacity p act answer) → IsFalse (holds_id id s)
given_free node capacity (acts.GiveUp given) answer id p s is state may =
    let served : IsTrue (may_serve node capacity (acts.GiveUp given) answer s) = subst (λ (o : Option Service). IsTrue (in_service (may_serve node capacity (acts.GiveUp given) answer) o)) (ap service_in state) may in
    subst (λ (i : TxnId). IsFalse (holds_id i s)) (sym (same_ids id given is)) (not-true (holds_id given s) (and_parts (not (holds_id given s)) (is_silent answer) served).0)
given_free node capacity act answer id p s is state may = absurd (false≢true is)

-- and has seen that one is committed
given_seen : (node : ℕ) (seen : List DoorEntry) (by : By) (p : List NodeEntry) (act : NodeAct) (answer : Option Reply) (id : TxnId) → IsTrue (is_give_up id act) → IsTrue (has_seen node seen by p act answer) → IsTrue (has_id id (committed seen))
given_seen node seen by p (acts.GiveUp given) answer id is sight =
    let found = any_found (λ (c : Commit). same_id given c.id && is_superseded c (known p)) (committed seen) sight in
    any_from (λ (c : Commit). same_id id c.id) found.0 (committed seen) found.1
    (subst (λ (i : TxnId). IsTrue (same_id i found.0.id)) (sym (same_ids id given is)) (and_parts (same_id given found.0.id) (is_superseded found.0 (known p)) found.2).0)
given_seen node seen by p act answer id is sight = absurd (false≢true is)

-- a give-up at the door is backed by one of its node
pub backed : (nodes : List (List NodeEntry)) (by : By) (place : ℕ) (who : Incarnation) (id : TxnId) (act : DoorAct) → IsTrue (gives_up who id act) → IsTrue (is_backed_at nodes by place act) → IsTrue (list_any (some_after (backs_give_up by who.inc id place) []) (history_at who.node nodes))
backed nodes by place who id (doors.GiveUp node inc given) is back =
    let parts = and_parts (same_incarnation who (incarnation node inc)) (same_id id given) is in
    subst (λ (w : Incarnation). IsTrue (list_any (some_after (backs_give_up by w.inc id place) []) (history_at w.node nodes))) (sym (same_who who (incarnation node inc) parts.0))
    (subst (λ (i : TxnId). IsTrue (list_any (some_after (backs_give_up by inc i place) []) (history_at node nodes))) (sym (same_ids id given parts.1)) back)
backed nodes by place who id act is back = absurd (false≢true is)

-- ---- in a run

module _ (asked : Asked) (ran : Ran) (so : Goes asked ran) where
  abbrev capacity : ℕ
  capacity = asked.settings.cache

  module _ (h : List DoorEntry) (entry : DoorEntry) (more : List DoorEntry) (whole : ran.trace.door ≡ h ++ entry ∷ more) (who : Incarnation) (id : TxnId) (up : IsTrue (is_up who h)) where
    legal_here : Legal h
    legal_here = (each_after_split may_follow [] h (entry ∷ more) (subst (λ (d : List DoorEntry). IsTrue (each_after may_follow [] d)) whole so.door)).0

    abbrev Unheld : ℕ → Type 0
    Unheld f = (f ≤ length h) × IsTrue (has_id id (committed (take f h))) × IsFalse (has_id id (put_under_claim who id.uuid (take f h)))

    by_step : (p : List NodeEntry) (e : NodeEntry) → In (record { by = e.by; turn = AtNode who.node p e }) (run_steps ran) → IsTrue (is_give_up id e.act) → IsTrue (serves who.inc (node_state p)) → e.front ≤ length h → Unheld e.front
    by_step p e among gives serve le =
        let step : Made = record { by = e.by; turn = AtNode who.node p e } in
        let split = split_at step (run_steps ran) among in
        let before = split.0 in
        let kept = kept_behind asked ran so before (step ∷ split.1) split.2 in
        let comes = it_comes asked ran so before split.1 step split.2 kept.0 in
        let seen : take e.front ran.trace.door ≡ door_steps before = seen_is asked ran so before split.1 step split.2 refl in
        let early : take e.front h ≡ door_steps before = take_whole e.front h (entry ∷ more) le ∙ (ap (take e.front) (sym whole) ∙ seen) in
        let at = serving who.inc (node_state p) serve in
        let rule = each_after_snoc (may_follow_at who.node capacity) [] p e comes.3 in
        let done = (and_parts (nat_le (front p) e.front) (may_be_done who.node capacity p e.act e.answer) (and_parts (nat_le (front p) e.front && may_be_done who.node capacity p e.act e.answer) (is_own_end (part p) e.by e.act e.answer) rule.1).0).1 in
        let free = given_free who.node capacity e.act e.answer id p at.0 gives at.1 done in
        let its : incarnation who.node at.0.inc ≡ who = ap (incarnation who.node) at.2 in
        let none = gives_up_unheld who.node capacity (scene_of (asking_of asked ran) before) at.0 (kept.1 who.node) (ap node_state (sym comes.1) ∙ at.1) id free kept.0 (comes.2 at.0.inc)
        (subst (λ (w : Incarnation). IsFalse (is_fenced w (door_steps before))) (sym its) (subst (λ (d : List DoorEntry). IsFalse (is_fenced who d)) early (unfenced e.front le))) in (
          le,
          subst (λ (d : List DoorEntry). IsTrue (has_id id (committed d))) (sym early) (given_seen who.node (door_steps before) e.by p e.act e.answer id gives comes.4),
          subst (λ (d : List DoorEntry). IsFalse (has_id id (put_under_claim who id.uuid d))) (sym early) (subst (λ (w : Incarnation). IsFalse (has_id id (put_under_claim w id.uuid (door_steps before)))) its none),
        )
      where
        unfenced : (f : ℕ) → f ≤ length h → IsFalse (is_fenced who (take f h))
        unfenced f le' = false_from_ne_true (is_fenced who (take f h)) (λ gone.
            let past = fenced_later who f (length h) h le' gone in
            let now : IsTrue (is_fenced who h) = subst (λ (d : List DoorEntry). IsTrue (is_fenced who d)) (take_all (length h) h (omega arith)) past in
            true≢false (sym up ∙ fenced_down who h legal_here now))

    unheld : IsTrue (given_up who id h) → (f : ℕ) × Unheld f
    unheld given =
        let found = any_found (λ (x : DoorEntry). gives_up who id x.act) h given in
        let cut = split_at found.0 h found.1 in
        let all : ran.trace.door ≡ cut.0 ++ found.0 ∷ (cut.1 ++ entry ∷ more) = whole ∙ (ap (λ (l : List DoorEntry). l ++ entry ∷ more) cut.2 ∙ append_assoc cut.0 (found.0 ∷ cut.1) (entry ∷ more)) in
        let rules = each_after_split (λ (b : List DoorEntry) (x : DoorEntry). is_backed_at ran.trace.nodes x.by (length b) x.act) [] cut.0 (found.0 ∷ (cut.1 ++ entry ∷ more))
        (subst (λ (d : List DoorEntry). IsTrue (each_after (λ (b : List DoorEntry) (x : DoorEntry). is_backed_at ran.trace.nodes x.by (length b) x.act) [] d)) all so.give_ups) in
        let back = (and_parts (is_backed_at ran.trace.nodes found.0.by (length cut.0) found.0.act) (each_after (λ (b : List DoorEntry) (x : DoorEntry). is_backed_at ran.trace.nodes x.by (length b) x.act) (cut.0 ++ found.0 ∷ []) (cut.1 ++ entry ∷ more)) rules.1).0 in
        let some = any_found (some_after (backs_give_up found.0.by who.inc id (length cut.0)) []) (history_at who.node ran.trace.nodes) (backed ran.trace.nodes found.0.by (length cut.0) who id found.0.act found.2 back) in
        let one = made_in who.node (backs_give_up found.0.by who.inc id (length cut.0)) [] some.0 some.2 in
        let there : In (record { by = one.1.by; turn = AtNode who.node one.0 one.1 }) (made_at_node who.node [] (history_in who.node 1 ran.trace.nodes)) =
        subst (λ (l : List NodeEntry). In (record { by = one.1.by; turn = AtNode who.node one.0 one.1 }) (made_at_node who.node [] l)) (history_same some.0 who.node ran.trace.nodes some.1) one.2 in
        let step = (in_filter (λ (m : Made). is_at_node who.node m.turn) (record { by = one.1.by; turn = AtNode who.node one.0 one.1 }) (run_steps ran)
        (subst (λ (l : List Made). In (record { by = one.1.by; turn = AtNode who.node one.0 one.1 }) l) (sym (node_is who.node (without_office ran.trace) (rise asked ran so))) there)).0 in
        let test = parts_of (same_line found.0.by one.1.by) (is_give_up id one.1.act) (serves who.inc (node_state one.0)) (nat_le one.1.front (length cut.0)) one.3 in
        let low : one.1.front ≤ length cut.0 = leb-true one.1.front (length cut.0) test.2 in
        let long : length h ≡ length cut.0 + suc (length cut.1) = ap length cut.2 ∙ length-append cut.0 (found.0 ∷ cut.1) in
        (one.1.front, by_step one.0 one.1 step test.0 test.1 (omega arith))
      where
        parts_of : (a b c d : Bool) → IsTrue (a && b && c && d) → IsTrue b × IsTrue c × IsTrue d
        parts_of true true true d is = (refl, refl, is)
        parts_of true true false d is = absurd (false≢true is)
        parts_of true false c d is = absurd (false≢true is)
        parts_of false b c d is = absurd (false≢true is)

  was : (h : List DoorEntry) (entry : DoorEntry) (more : List DoorEntry) → ran.trace.door ≡ h ++ entry ∷ more → (c : Commit) (who : Incarnation) → IsTrue (is_up who h) → IsTrue (given_up who c.id h) → IsTrue (was_unheld c h who)
  was h entry more whole c who up given =
      let f = unheld h entry more whole who c.id up given in
      any_from (λ (seen : ℕ). has_id c.id (committed (take seen h)) && not (has_id c.id (put_under_claim who c.id.uuid (take seen h)))) f.0 (range_with_len 0 (suc (length h)))
      (in_range f.0 0 (suc (length h)) (omega arith) (let le = f.1.0 in omega arith))
      (and_from (has_id c.id (committed (take f.0 h))) (not (has_id c.id (put_under_claim who c.id.uuid (take f.0 h)))) f.1.1 (ap not f.1.2))

  -- ---- the put of a full marker

  module _ (h : List DoorEntry) (name bytes : List ℕ) (caller : Incarnation) (may : IsTrue (may_put h caller (record { name = name; bytes = bytes }))) (c : Commit) where
    abbrev pair : Pair
    pair = record { name = name; bytes = bytes }

    by_marker : (m : Marker) → In m (markers_in pair) → In c (retired_by m) → IsTrue (all_gave_up h c.id)
    by_marker m among retired = by_either (or_cases (list_any (may_put_version h caller) (versions_in pair) || list_any (λ r. may_put_record h caller r || may_upgrade h caller r) (written_in pair)) (list_any (may_put_marker h caller) (markers_in pair)) may)
      where
        under : IsTrue (is_under markers_prefix name)
        under = subst (λ (n : List ℕ). IsTrue (is_under markers_prefix n)) (sym (read-name name (λ (k : Marker). marker_name (id_of_marker k).uuid) (marker_of bytes) m among)) refl

        by_kind : (k : Marker) → In c (retired_by k) → IsTrue (may_put_marker h caller k) → IsTrue (all_gave_up h c.id)
        by_kind (markers.Full d) (inl is) rule = subst (λ (x : Commit). IsTrue (all_gave_up h x.id)) (sym is) (and_parts (same_incarnation the_office caller && knows_superseded d h) (all_gave_up h d.id) rule).1
        by_kind (markers.Full d) (inr none) rule = absurd none
        by_kind (markers.Done i) none rule = absurd none

        by_either : IsTrue (list_any (may_put_version h caller) (versions_in pair) || list_any (λ r. may_put_record h caller r || may_upgrade h caller r) (written_in pair)) ⊎ IsTrue (list_any (may_put_marker h caller) (markers_in pair)) → IsTrue (all_gave_up h c.id)
        by_either (inr marked) =
            let found = any_found (may_put_marker h caller) (markers_in pair) marked in
            by_kind m retired (subst (λ (k : Marker). IsTrue (may_put_marker h caller k)) (read-one name (λ (k : Marker). marker_name (id_of_marker k).uuid) (marker_of bytes) found.0 m found.1 among) found.2)
        by_either (inl stored) = elim (or_cases (list_any (may_put_version h caller) (versions_in pair)) (list_any (λ r. may_put_record h caller r || may_upgrade h caller r) (written_in pair)) stored) [
          | inl version ↦ (let found = any_found (may_put_version h caller) (versions_in pair) version in
              absurd (false≢true (subst (λ (n : List ℕ). IsTrue (is_under markers_prefix n)) (read-name name (λ (w : Version). version_name w.key w.id) (version_of bytes) found.0 found.1) under)))
          | inr written ↦ (let found = any_found (λ r. may_put_record h caller r || may_upgrade h caller r) (written_in pair) written in
              absurd (false≢true (subst (λ (n : List ℕ). IsTrue (is_under markers_prefix n)) (read-name name (λ (w : Record). record_name w.commit.id.uuid) (record_of bytes) found.0 found.1) under)))
        ]

    pub gave_up : In c (marks_in pair) → IsTrue (all_gave_up h c.id)
    gave_up among = (let found = in_flat_map retired_by c (markers_in pair) among in by_marker found.0 found.1 found.2)

  retires_at : (h : List DoorEntry) (entry : DoorEntry) (more : List DoorEntry) → ran.trace.door ≡ h ++ entry ∷ more → (act : DoorAct) → IsTrue (may_come h act) ⊎ IsTrue (may_read h act) → IsTrue (retires_unheld_in h act)
  retires_at h entry more whole (doors.Call node inc (calls.Put name bytes) answer) (inr read) = absurd (false≢true (and_parts (same_incarnation the_office (incarnation node inc) && not (has_failed h)) false read).1)
  retires_at h entry more whole (doors.Call node inc (calls.Put name bytes) answer) (inl come') =
      let may = (and_parts (is_up (incarnation node inc) h) (may_put h (incarnation node inc) (record { name = name; bytes = bytes })) come').1 in
      all_from (λ (c : Commit). list_all (λ (who : Incarnation). eqb who.node 0 || not (holds who c.id.uuid h) || was_unheld c h who) (ups h)) (marks_in (record { name = name; bytes = bytes })) (λ c marked.
      all_from (λ (who : Incarnation). eqb who.node 0 || not (holds who c.id.uuid h) || was_unheld c h who) (ups h) (λ who there.
      elim (or_cases (eqb who.node 0) (given_up who c.id h) (all_at (λ (w : Incarnation). eqb w.node 0 || given_up w c.id h) who (ups h) there (gave_up h name bytes (incarnation node inc) may c marked))) [
        | inl office ↦ or_left (eqb who.node 0 || not (holds who c.id.uuid h)) (was_unheld c h who) (or_left (eqb who.node 0) (not (holds who c.id.uuid h)) office)
        | inr given ↦ or_right (eqb who.node 0 || not (holds who c.id.uuid h)) (was_unheld c h who) (was h entry more whole c who (any_from (same_incarnation who) who (ups h) there (itself who)) given)
      ]))
    where
      itself : (w : Incarnation) → IsTrue (same_incarnation w w)
      itself w = and_from (eqb w.node w.node) (eqb w.inc w.inc) (eq-eqb w.node w.node refl) (eq-eqb w.inc w.inc refl)
  retires_at h entry more whole act rule = refl

  pub retired_unheld : RetiresUnheld ran.trace.door
  retired_unheld = each_from (λ (h : List DoorEntry) (x : DoorEntry). retires_unheld_in h x.act) ran.trace.door [] ran.trace.door refl (λ h x more whole.
      retires_at h x more whole x.act (by_rule h x (and_parts (may_follow h x) (each_after may_follow (h ++ x ∷ []) more) (each_after_split may_follow [] h (x ∷ more) (subst (λ (d : List DoorEntry). IsTrue (each_after may_follow [] d)) whole so.door)).1).0).1)
