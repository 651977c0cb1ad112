-- A line's get of the version that it fetches finds it.
use Rattle.std.proofs.Common.{◌≡◌, ◌≤◌, ◌<◌, ℕ, Bool, ◌&&◌, not, List, [], ◌∷◌, ◌++◌, refl, sym, ap, subst, ◌∙◌, inl, inr, append_assoc, length, take, eqb, leb, arith}
use Rattle.std.specs.Prelude.{IsTrue, IsFalse, None, Option, Some, if◌then◌else◌}
use Rattle.std.proofs.lemmas.Bool.{and_from, and_parts, false≢true, leb-true, not-true, or_cases, true≢false}
use Rattle.std.proofs.lemmas.List.{length-append}
use Rattle.aft_id.specs.declared.txn_id.TxnId.{TxnId}
use Rattle.aft_keeper.specs.declared.keeper.KeeperAnswer.{KeeperAnswer}
use Rattle.aft_keeper.specs.declared.keeper.KeeperAnswer.TheVariants.{Found}
use Rattle.aft_keeper.specs.declared.keeper.KeeperCall.TheVariants.{Get}
use Rattle.aft_records.specs.declared.stored.Commit.{Commit}
use Rattle.aft_records.specs.declared.stored.Marker.TheVariants.{Full}
use Rattle.aft_model.specs.declared.caller.Attempt.{Attempt}
use Rattle.aft_model.specs.declared.door.DoorAct.{DoorAct}
use Rattle.aft_model.specs.declared.door.DoorAct.TheVariants.{Call}
use Rattle.aft_model.specs.declared.door.DoorEntry.{DoorEntry}
use Rattle.aft_model.specs.declared.node.NodeAct.{NodeAct}
use Rattle.aft_model.specs.declared.node.NodeAct.TheVariants.{Value}
use Rattle.aft_model.specs.declared.node.NodeEntry.{NodeEntry}
use Rattle.aft_model.specs.declared.reply.Reply.{Reply}
use Rattle.aft_model.specs.declared.reply.Reply.TheVariants as replies
use Rattle.aft_model.specs.Committed.{committed}
use Rattle.aft_model.specs.DoorKnowledge.{is_open}
use Rattle.aft_model.specs.DoorRules.{may_call}
use Rattle.aft_model.specs.History.{at_place}
use Rattle.aft_model.specs.Honest.{Honest}
use Rattle.aft_model.specs.LegalDoor.{is_answered, may_come, may_follow}
use Rattle.aft_model.specs.Membership.{Incarnation, incarnation, is_up}
use Rattle.aft_model.specs.NodeSights.{finds_version, has_seen, is_own_find}
use Rattle.aft_model.specs.Opening.{may_open}
use Rattle.aft_model.specs.Readings.{version_name}
use Rattle.aft_model.specs.ScanRun.{same_line}
use Rattle.aft_model.proofs.Histories.{In, all_at, each_after_split}
use Rattle.aft_lines.specs.Holding.{picks_fetch}
use Rattle.law_effects.specs.Effects.{Shows, effect_of}
use Rattle.law_kept.specs.Kept.{Lawful}
use Rattle.law_kept.specs.Tried.{Tried}
use Rattle.law_kept.proofs.Always.{lawful_begins}
use Rattle.law_whole.specs.Values.{VersionIs}
use Rattle.law_whole.proofs.Values.{shows_version, untried_unmarked}
use Rattle.law_boots.specs.Beside.{Beside, backs_give_ups}
use Rattle.law_boots.proofs.Again.{Opens}
use Rattle.law_boots.proofs.Known.{seen_later}
use Rattle.law_boots.proofs.Nodes.{begins, looked}
use Rattle.law_boots.proofs.Real.{is_committed, taken}
use Rattle.law_boots.proofs.Unasked.{length_taken}
use Rattle.law_fetches.specs.Ends.{EndsFetch, is_behind_picks, is_picked_by}
use Rattle.law_fetches.specs.Values.{TrueValue}
use Rattle.law_fetches.proofs.Fetched.{Pick, pick_of, picked_of}
use Rattle.law_fetches.proofs.Picked.{PickedCommit}
use Rattle.law_fetches.proofs.Shown.{at_split, finds, get_shows, one_version, stays_true}
use Rattle.law_fetches.proofs.Untried.{lawful_seen, open_there, picked_before, taken_seen, untried}

module _ (node capacity : ℕ) (of_node : IsFalse (eqb node 0)) (door : List DoorEntry) (lawful : Lawful door) (history more : List NodeEntry) (entry : NodeEntry) (beside : Beside node capacity door ((history ++ entry ∷ []) ++ more))
    (backs : IsTrue (backs_give_ups node ((history ++ entry ∷ []) ++ more) door)) (opens_then : Opens (history ++ entry ∷ [])) (a : Attempt) (key : List ℕ) (id : TxnId) where
  -- ---- at the place of the get

  module _ (ends : EndsFetch a key id entry.act) (seen after : List DoorEntry) (got : DoorEntry) (parts : door ≡ seen ++ got ∷ after)
      (late : (e : NodeEntry) → In e history → IsTrue (same_line entry.by e.by) → IsTrue (picks_fetch a key id e.act) → e.front ≤ length seen) (short : length seen < entry.front)
      (answer : KeeperAnswer) (gets : got.act ≡ Call node a.inc (Get (version_name key id)) answer) where
    abbrev pick : Pick node capacity door lawful history more entry beside opens_then a key id ends
    pick = pick_of node capacity door lawful history more entry beside opens_then a key id ends

    abbrev its_commit : PickedCommit door ((pick.before_boot ++ pick.boot ∷ []) ++ pick.between) pick.one key id
    its_commit = picked_of node capacity door lawful history more entry beside opens_then a key id ends

    abbrev c : Commit
    c = its_commit.commit

    lawful_there : Lawful seen
    lawful_there = lawful_seen node capacity of_node door lawful history more entry beside backs opens_then a key id ends seen (got ∷ after) parts late

    opened : IsTrue (is_open seen)
    opened = open_there node capacity of_node door lawful history more entry beside backs opens_then a key id ends seen (got ∷ after) parts late

    up_there : IsTrue (is_up (incarnation node a.inc) seen)
    up_there =
        let ruled = (and_parts (may_follow seen got) _ (each_after_split may_follow [] seen (got ∷ after) (subst (λ (d : List DoorEntry). Lawful d) parts lawful).legal).1).0 in
        let come = subst (λ t. IsTrue (if t then may_come seen got.act else may_open seen got)) opened (and_parts (is_answered got.act) _ ruled).1 in
        (and_parts (is_up (incarnation node a.inc) seen) (may_call seen (incarnation node a.inc) (Get (version_name key id))) (subst (λ (act : DoorAct). IsTrue (may_come seen act)) gets come)).0

    committed_there : In c (committed seen)
    committed_there =
        subst (λ (h : List DoorEntry). In c (committed h)) (taken_seen node capacity of_node door lawful history more entry beside backs opens_then a key id ends seen (got ∷ after) parts late)
        (seen_later c door pick.one.front (length seen)
        (picked_before node capacity of_node door lawful history more entry beside backs opens_then a key id ends seen (got ∷ after) parts late) its_commit.seen)

    honest_there : Honest (seen ++ got ∷ [])
    honest_there = (lawful_begins (seen ++ got ∷ []) after (subst Lawful (parts ∙ sym (append_assoc seen (got ∷ []) after)) lawful)).honest

    -- what is shown of the version's name is the version
    pub shown_there : (outcome : Option (List ℕ)) → effect_of (version_name key id) got.act ≡ Shows outcome → (value : List ℕ) × (is : VersionIs key id value seen) × (outcome ≡ Some is.bytes)
    shown_there outcome shows =
        subst (λ (i : TxnId). (value : List ℕ) × (is : VersionIs key i value seen) × (outcome ≡ Some is.bytes)) its_commit.its_id
        (shows_version c seen lawful_there opened (is_committed c seen committed_there) got honest_there outcome
        (untried_unmarked c seen lawful_there opened (is_committed c seen committed_there) (λ (tried : Tried seen (Full c)). untried node capacity of_node door lawful history more entry beside backs opens_then a key id ends seen (got ∷ after) parts late short up_there tried))
        key its_commit.wrote_it (subst (λ (i : TxnId). effect_of (version_name key i) got.act ≡ Shows outcome) (sym its_commit.its_id) shows))

    -- and its value is true from there on
    pub true_there : (value : List ℕ) → VersionIs key id value seen → TrueValue key id value (take entry.front door)
    true_there value is =
        stays_true door lawful key id value (length seen) entry.front (let less = short in omega arith)
        (subst (TrueValue key id value) (sym (taken_seen node capacity of_node door lawful history more entry beside backs opens_then a key id ends seen (got ∷ after) parts late))
        (record { commit = c; is_committed = committed_there; its_id = its_commit.its_id; wrote_it = its_commit.wrote_it; opened = opened; told = is.told }))

  -- ---- a value that came

  module _ (behind : IsTrue (is_behind_picks history entry.by entry.act)) (place : ℕ) (kept : Bool) (is : entry.act ≡ Value a key id place kept) (answered : TxnId) (value : List ℕ) (answers : entry.answer ≡ Some (replies.Value answered value)) where
    abbrev who : Incarnation
    who = incarnation node a.inc

    abbrev seen_then : List DoorEntry
    seen_then = take entry.front door

    -- its line's get at the place that it names
    record Got : Type 0 where
      got : DoorEntry
      at : at_place place seen_then ≡ Some got
      found : IsTrue (finds_version who key id value got.act)

    own_get : (o : Option DoorEntry) → at_place place seen_then ≡ o → IsTrue (is_own_find who entry.by key id value o) → Got
    own_get None at own = absurd (false≢true own)
    own_get (Some d) at own = record { got = d; at = at; found = (and_parts (same_line entry.by d.by) (finds_version who key id value d.act) own).1 }

    its_get : Got
    its_get =
        own_get (at_place place seen_then) refl
        (subst (λ (answer : Option Reply). IsTrue (has_seen node seen_then entry.by history (Value a key id place kept) answer)) answers
        (subst (λ (act : NodeAct). IsTrue (has_seen node seen_then entry.by history act entry.answer)) is (looked node capacity door history entry (begins node capacity door (history ++ entry ∷ []) more beside))))

    picked_first : (e : NodeEntry) → In e history → IsTrue (same_line entry.by e.by) → IsTrue (picks_fetch a key id e.act) → e.front ≤ place
    picked_first e among mine picks =
        elim (or_cases (not (same_line entry.by e.by && picks_fetch a key id e.act)) (leb e.front place) (all_at (is_picked_by entry.by a key id place) e history among (subst (λ (act : NodeAct). IsTrue (is_behind_picks history entry.by act)) is behind))) [
          | inl other ↦ absurd (true≢false (sym (and_from (same_line entry.by e.by) (picks_fetch a key id e.act) mine picks) ∙ not-true (same_line entry.by e.by && picks_fetch a key id e.act) other))
          | inr le ↦ leb-true e.front place le
        ]

    pub came_true : TrueValue key id value seen_then
    came_true =
        let cut = at_split place seen_then its_get.got its_get.at in
        let r = taken entry.front door in
        let parts : door ≡ cut.0 ++ its_get.got ∷ (cut.1 ++ r.0) = r.1 ∙ (ap (λ (l : List DoorEntry). l ++ r.0) cut.2 ∙ append_assoc cut.0 (its_get.got ∷ cut.1) r.0) in
        let sum : length seen_then ≡ length (cut.0 ++ its_get.got ∷ cut.1) = ap length cut.2 in
        let most : length seen_then ≤ entry.front = length_taken entry.front door in
        let found = finds who key id value its_get.got.act its_get.found in
        let late : (e : NodeEntry) → In e history → IsTrue (same_line entry.by e.by) → IsTrue (picks_fetch a key id e.act) → e.front ≤ length cut.0 = λ e among mine picks. subst (λ (n : ℕ). e.front ≤ n) (sym cut.3) (picked_first e among mine picks) in
        let short : length cut.0 < entry.front = omega (arith, length-append cut.0 (its_get.got ∷ cut.1)) in
        let shown = shown_there (inl (place, kept, is)) cut.0 (cut.1 ++ r.0) its_get.got parts late short (Found found.bytes) found.is (Some found.bytes) (ap (effect_of (version_name key id)) found.is ∙ get_shows (version_name key id) node a.inc found.bytes) in
        subst (λ (v : List ℕ). TrueValue key id v seen_then) (sym (one_version key id shown.0 cut.0 shown.1 found.bytes found.version shown.2 found.reads) ∙ sym found.its_value)
        (true_there (inl (place, kept, is)) cut.0 (cut.1 ++ r.0) its_get.got parts late short (Found found.bytes) found.is shown.0 shown.1)
