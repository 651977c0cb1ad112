-- A boot is shown the greatest of each key that was committed before its incarnation came up, so what was tried before is never known.
use Rattle.std.proofs.Common.{◌≡◌, ℕ, ◌&&◌, List, [], ◌∷◌, ◌++◌, sym, ap, subst, take, eqb}
use Rattle.std.specs.Prelude.{IsTrue, IsFalse}
use Rattle.std.specs.List.{list_any}
use Rattle.std.proofs.lemmas.Bool.{and_from, and_parts}
use Rattle.aft_id.specs.TxnId.{id_lt}
use Rattle.aft_id.specs.declared.txn_id.TxnId.{TxnId}
use Rattle.aft_records.specs.Commits.{is_among, same_commit}
use Rattle.aft_records.specs.Superseded.{Superseded, is_superseded, wrote}
use Rattle.aft_records.specs.declared.stored.Commit.{Commit}
use Rattle.aft_records.specs.declared.stored.Marker.TheVariants.{Full}
use Rattle.aft_model.specs.declared.door.DoorEntry.{DoorEntry}
use Rattle.aft_model.specs.declared.node.NodeAct.{NodeAct}
use Rattle.aft_model.specs.declared.node.NodeAct.TheVariants.{Boot}
use Rattle.aft_model.specs.declared.node.NodeEntry.{NodeEntry}
use Rattle.aft_model.specs.Bytes.{is_uuid}
use Rattle.aft_model.specs.Claims.{given_up}
use Rattle.aft_model.specs.Committed.{committed}
use Rattle.aft_model.specs.Known.{known}
use Rattle.aft_model.specs.Membership.{Incarnation, incarnation}
use Rattle.aft_model.specs.NodeSights.{comes_up, has_seen, shows_commits}
use Rattle.aft_model.specs.NodeState.{node_state, serves}
use Rattle.aft_model.specs.ScanRun.{scan_pages}
use Rattle.aft_model.specs.Sound.{records_prefix}
use Rattle.aft_model.proofs.Growth.{all_implied}
use Rattle.aft_model.proofs.Histories.{In, any_found, any_from}
use Rattle.aft_model.proofs.Ids.{id_lt-irrefl, id_lt-le}
use Rattle.aft_model.proofs.Knowledge.{greatest_one}
use Rattle.law_kept.specs.Kept.{Lawful}
use Rattle.law_kept.specs.Tried.{Tried}
use Rattle.law_kept.proofs.Always.{lawful_begins}
use Rattle.law_kept.proofs.Gives.{committed_among}
use Rattle.law_kept.proofs.PutMarker.{same_commit_itself}
use Rattle.law_names.proofs.Tests.{uuid_is}
use Rattle.law_reads.specs.Brings.{brings}
use Rattle.law_reads.proofs.Boots.{missed_from_boot}
use Rattle.law_whole.proofs.Marks.{tried_superseded}
use Rattle.law_whole.proofs.Throughout.{one_each}
use Rattle.law_boots.specs.Beside.{Beside, backs_give_ups}
use Rattle.law_boots.specs.Boots.{SeesGreatest}
use Rattle.law_boots.proofs.Greatest.{among_shown, opened}
use Rattle.law_boots.proofs.Known.{behind, brought}
use Rattle.law_boots.proofs.Nodes.{begins, looked}
use Rattle.law_boots.proofs.Real.{found, in_whole, is_committed, taken}
use Rattle.law_boots.proofs.Unasked.{nothing_given_up}

-- what is superseded by some commits is so by those of them that aren't superseded
by_greatest : (t : Commit) (all some_of : List Commit) → ((d : Commit) → In d all → IsFalse (is_superseded d all) → In d some_of) → IsTrue (is_superseded t all) → IsTrue (is_superseded t some_of)
by_greatest t all some_of has superseded =
    all_implied (λ key. list_any (λ (d : Commit). wrote key d && id_lt t.id d.id) all) (λ key. list_any (λ (d : Commit). wrote key d && id_lt t.id d.id) some_of)
    (λ key above.
    let d = any_found (λ (d : Commit). wrote key d && id_lt t.id d.id) all above in
    let parts = and_parts (wrote key d.0) (id_lt t.id d.0.id) d.2 in
    let top = greatest_one key d.0.id all (d.0, d.1, parts.0, id_lt-irrefl d.0.id) in
    any_from (λ (c : Commit). wrote key c && id_lt t.id c.id) top.0 some_of (has top.0 top.1 top.4) (and_from _ _ top.2 (id_lt-le t.id d.0.id top.0.id parts.1 top.3)))
    t.keys superseded

module _ (node capacity inc : ℕ) (commits : List Commit) (door : List DoorEntry) (lawful : Lawful door) (history more : List NodeEntry) (entry : NodeEntry)
    (beside : Beside node capacity door ((history ++ entry ∷ []) ++ more)) (boots_so : entry.act ≡ Boot inc commits) where
  abbrev who : Incarnation
  who = incarnation node inc

  abbrev seen : List DoorEntry
  seen = take entry.front door

  first : Beside node capacity door (history ++ entry ∷ [])
  first = begins node capacity door (history ++ entry ∷ []) more beside

  lawful_seen : Lawful seen
  lawful_seen = (let rest = taken entry.front door in lawful_begins seen rest.0 (subst Lawful rest.1 lawful))

  module _ (backs : IsTrue (backs_give_ups node ((history ++ entry ∷ []) ++ more) door)) (of_node : IsFalse (eqb node 0)) where
    pub sees_greatest : SeesGreatest who commits seen
    sees_greatest =
        let sight = subst (λ (act : NodeAct). IsTrue (has_seen node seen entry.by history act entry.answer)) boots_so (looked node capacity door history entry first) in
        let at = behind (λ (e : DoorEntry). comes_up who e.act) (λ since. shows_commits commits (scan_pages who entry.by records_prefix since)) seen sight in
        let its : Lawful (at.before ++ at.one ∷ at.since) = subst Lawful at.parts lawful_seen in
        let kept_all : (id : TxnId) → IsFalse (given_up who id (at.before ++ at.one ∷ at.since)) = λ id. subst (λ (h : List DoorEntry). IsFalse (given_up who id h)) at.parts (nothing_given_up node capacity door inc commits history more entry beside boots_so backs id) in
        record {
          before = at.before;
          entry = at.one;
          after = at.since;
          parts = at.parts;
          comes = at.is_first;
          sees = λ d is top. is_in d commits (among_shown who of_node at.before at.since at.one its at.is_first kept_all d (committed_among d at.before is) top entry.by commits at.is_rest);
        }
      where
        is_in : (d : Commit) (l : List Commit) → In d l → IsTrue (is_among d l)
        is_in d l among = any_from (same_commit d) d l among (same_commit_itself d)

  -- what was superseded before it came up is superseded by what the boot was shown
  superseded_still : (sees : SeesGreatest who commits seen) (t : Commit) → Superseded t (committed sees.before) → Superseded t commits
  superseded_still sees t superseded = by_greatest t (committed sees.before) commits (λ d among top. found node capacity door d commits (sees.sees d (is_committed d sees.before among) top)) superseded

  pub never_known : (sees : SeesGreatest who commits seen) (t : Commit) → Superseded t (committed sees.before) → IsTrue (serves inc (node_state ((history ++ entry ∷ []) ++ more))) → IsFalse (is_among t (known ((history ++ entry ∷ []) ++ more)))
  never_known sees t superseded still =
      missed_from_boot node capacity inc t commits history more entry beside.legal boots_so one (superseded_still sees t superseded) still
    where
      at_door : (c : Commit) → IsTrue (is_among c commits) → In c (committed door)
      at_door c among = in_whole c entry.front door (brought node capacity door history entry first c (subst (λ (act : NodeAct). In c (brings act)) (sym boots_so) (found node capacity door c commits among)))

      one : (c d : Commit) → IsTrue (is_among c commits) → IsTrue (is_among d commits) → c.id ≡ d.id → c ≡ d
      one c d of_c of_d same = one_each door lawful c d (at_door c of_c) (at_door d of_d) (ap (λ (i : TxnId). i.uuid) same)

  -- so what was tried before is never known
  pub tried_never_known : IsTrue (backs_give_ups node ((history ++ entry ∷ []) ++ more) door) → IsFalse (eqb node 0) → (sees : SeesGreatest who commits seen) (t : Commit) → IsTrue (is_uuid t.id.uuid) → Tried sees.before (Full t)
      → IsTrue (serves inc (node_state ((history ++ entry ∷ []) ++ more))) → IsFalse (is_among t (known ((history ++ entry ∷ []) ++ more)))
  tried_never_known backs of_node sees t its tried still =
      let all : Lawful (sees.before ++ sees.entry ∷ sees.after) = subst Lawful sees.parts lawful_seen in
      let kept_all : (id : TxnId) → IsFalse (given_up who id (sees.before ++ sees.entry ∷ sees.after)) = λ id. subst (λ (h : List DoorEntry). IsFalse (given_up who id h)) sees.parts (nothing_given_up node capacity door inc commits history more entry beside boots_so backs id) in
      never_known sees t (tried_superseded t sees.before (lawful_begins sees.before (sees.entry ∷ sees.after) all) (uuid_is t.id.uuid its) (opened who of_node sees.before sees.after sees.entry all sees.comes kept_all) tried) still
