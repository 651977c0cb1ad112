-- A UUID is kept behind a get and a scan.
use Rattle.std.proofs.Common.{◌≡◌, ℕ, Bool, true, false, not, ◌&&◌, List, [], ◌∷◌, ◌++◌, map, refl, sym, ap, subst, ◌∙◌, ◌⊎◌, inl, inr, eqb, append-nil}
use Rattle.std.specs.Prelude.{IsTrue, IsFalse, Option, Some, None, if◌then◌else◌, is_some}
use Rattle.std.specs.Str.{bytes_eq}
use Rattle.std.proofs.lemmas.Bool.{and_parts, cases_Bool, or_cases, not-true, false≢true, true≢false, false_from_ne_true}
use Rattle.aft_id.specs.declared.txn_id.TxnId.{TxnId}
use Rattle.aft_id.specs.TxnId.{same_id}
use Rattle.aft_keeper.specs.declared.keeper.KeeperAnswer.{KeeperAnswer}
use Rattle.aft_keeper.specs.declared.keeper.KeeperAnswer.TheVariants.{Absent, Found}
use Rattle.aft_keeper.specs.declared.keeper.KeeperCall.{KeeperCall}
use Rattle.aft_keeper.specs.declared.keeper.KeeperCall.TheVariants.{Get, Scan}
use Rattle.aft_keeper.specs.declared.keeper.Pair.{Pair}
use Rattle.aft_records.specs.declared.stored.Commit.{Commit}
use Rattle.aft_records.specs.declared.stored.Marker.{Marker}
use Rattle.aft_records.specs.declared.stored.Marker.TheVariants.{Done, Full}
use Rattle.aft_records.specs.Commits.{has_id, is_listed}
use Rattle.aft_model.specs.declared.door.DoorAct.{DoorAct}
use Rattle.aft_model.specs.declared.door.DoorAct.TheVariants.{Call}
use Rattle.aft_model.specs.declared.door.DoorEntry.{DoorEntry}
use Rattle.aft_model.specs.Claims.{claimant, claimant_after, forgotten, is_held_by}
use Rattle.aft_model.specs.DoorKnowledge.{finds, finds_absent, finds_other, ids_in, is_of_other, knows_marked}
use Rattle.aft_model.specs.LegalDoor.{may_come}
use Rattle.aft_model.specs.Looks.{FoundOther, IsClaimed, IsCleared, IsUnclaimed, Look, look, look_after, look_after_call, saw_no_marker, saw_no_record}
use Rattle.aft_model.specs.Membership.{Incarnation, incarnation, is_up, same_incarnation, the_office}
use Rattle.aft_model.specs.Readings.{id_of_marker, marker_name, markers_in, record_name, records_in}
use Rattle.aft_model.specs.Stages.{HasClaimed, HasPut, IsClear, IsClosed, IsIdle, IsUnrecorded, Stage, found_no_marker, found_no_record, put_after, put_by_call, put_under_claim, stage, stage_after, stage_after_call}
use Rattle.aft_model.proofs.Histories.{In, any_from, in_back, in_front}
use Rattle.aft_model.proofs.Ids.{same_id-refl}
use Rattle.aft_model.proofs.Lists.{map_in}
use Rattle.aft_model.proofs.OneCommit.{claimant-snoc, same_who}
use Rattle.aft_model.proofs.Sights.{bytes_eq-refl, same_bytes}
use Rattle.law_effects.specs.Effects.{Shows, effect_of, sight_effect}
use Rattle.law_kept.specs.Kept.{CommittedId, Comes, Holding, Kept, Looking, Unused, is_sight, is_write}
use Rattle.law_kept.specs.Outcomes.{CommittedOf, MayRecord, Uncommitted, records_at}
use Rattle.law_kept.specs.Tried.{Tried}
use Rattle.law_kept.proofs.After.{News, absent_stays, kept_after, one_after, records_after, some_none, there_after}
use Rattle.law_kept.proofs.Calm.{committed_before, free_stays, holding_stays, looking_stays, uncommitted_stays, unseen_stays, unused_stays}
use Rattle.law_kept.proofs.Fates.{NewAt, committed_fate, left_there, marker_of_uuid, marker_read, only_one, record_read, shown_before, under}
use Rattle.law_kept.proofs.Members.{Fenced, known_after, look-snoc, put-snoc, stage-snoc, was_up}
use Rattle.law_kept.proofs.Quiet.{may_be_absent, nothing_new, quiet_news, quiet_unforgotten, unmarked_where_absent}
use Rattle.law_kept.proofs.Steps.{answered, come}

sight_writes_nothing : (act : DoorAct) → IsTrue (is_sight act) → IsFalse (is_write act)
sight_writes_nothing (Call node inc (Get name) answer) sight = refl
sight_writes_nothing (Call node inc (Scan prefix after limit) answer) sight = refl
sight_writes_nothing act sight = absurd (false≢true sight)

-- a holder whose stage isn't closed has a UUID that isn't forgotten; the office's never is
pub office_unforgotten : (uuid : List ℕ) (who : Incarnation) (history : List DoorEntry) → eqb who.node 0 ≡ true → (s : Stage) → Holding uuid who history s → IsFalse (forgotten uuid history)
office_unforgotten uuid who history office IsIdle holding = absurd holding
office_unforgotten uuid who history office HasClaimed holding = holding
office_unforgotten uuid who history office IsUnrecorded holding = holding.0.unforgotten
office_unforgotten uuid who history office (IsClear names) holding = holding.free.unforgotten
office_unforgotten uuid who history office (HasPut d) holding = holding.unforgotten
office_unforgotten uuid who history office IsClosed holding = absurd (true≢false (sym office ∙ holding))

-- what a get found of an id: nothing, or bytes that show another
pub data Other (id : TxnId) (name : List ℕ) (act : DoorAct) : Type 0 where
  Nothing_there : effect_of name act ≡ Shows None → Other id name act
  Another_there : (bytes : List ℕ) → effect_of name act ≡ Shows (Some bytes) → IsTrue (is_of_other id (under name bytes)) → Other id name act

get_absent : (name got : List ℕ) (node inc : ℕ) → IsTrue (bytes_eq name got) → effect_of name (Call node inc (Get got) Absent) ≡ Shows None
get_absent name got node inc is = ap (λ t. sight_effect (if t then Some None else None)) is

get_found : (name got bytes : List ℕ) (node inc : ℕ) → IsTrue (bytes_eq name got) → effect_of name (Call node inc (Get got) (Found bytes)) ≡ Shows (Some bytes)
get_found name got bytes node inc is = ap (λ t. sight_effect (if t then Some (Some bytes) else None)) is

other_absent : (id : TxnId) (name : List ℕ) (act : DoorAct) → IsTrue (finds_absent the_office name act) → Other id name act
other_absent id name (Call node inc (Get got) Absent) finds = Nothing_there (get_absent name got node inc (and_parts (same_incarnation the_office (incarnation node inc)) (bytes_eq name got) finds).1)
other_absent id name act finds = absurd (false≢true finds)

other_found : (id : TxnId) (name : List ℕ) (act : DoorAct) → IsTrue (finds the_office name (is_of_other id) act) → Other id name act
other_found id name (Call node inc (Get got) (Found bytes)) finds =
    let parts = and_parts (same_incarnation the_office (incarnation node inc) && bytes_eq name got) (is_of_other id (under got bytes)) finds in
    let same = (and_parts (same_incarnation the_office (incarnation node inc)) (bytes_eq name got) parts.0).1 in
    Another_there bytes (get_found name got bytes node inc same) (subst (λ n. IsTrue (is_of_other id (under n bytes))) (sym (same_bytes name got same)) parts.1)
other_found id name act finds = absurd (false≢true finds)

pub other_of : (id : TxnId) (name : List ℕ) (act : DoorAct) → IsTrue (finds_other id name act) → Other id name act
other_of id name act is = elim (or_cases (finds_absent the_office name act) (finds the_office name (is_of_other id) act) is) [
  | inl absent ↦ other_absent id name act absent
  | inr found ↦ other_found id name act found
]

-- what is found is the office's, which is up
office_finds : (id : TxnId) (name : List ℕ) (history : List DoorEntry) (act : DoorAct) → IsTrue (may_come history act) → IsTrue (finds_other id name act) → IsTrue (is_up the_office history)
office_finds id name history (Call node inc (Get got) Absent) may is =
    elim (or_cases (same_incarnation the_office (incarnation node inc) && bytes_eq name got) false is) [
      | inl finds ↦ subst (λ (i : Incarnation). IsTrue (is_up i history)) (sym (same_who the_office (incarnation node inc) (and_parts _ (bytes_eq name got) finds).0)) (and_parts _ _ may).0
      | inr nothing ↦ absurd (false≢true nothing)
    ]
office_finds id name history (Call node inc (Get got) (Found bytes)) may is =
    let mine = and_parts (same_incarnation the_office (incarnation node inc) && bytes_eq name got) (is_of_other id (under got bytes)) is in
    subst (λ (i : Incarnation). IsTrue (is_up i history)) (sym (same_who the_office (incarnation node inc) (and_parts _ (bytes_eq name got) mine.0).0)) (and_parts _ _ may).0
office_finds id name history act may is = absurd (false≢true is)

unlisted : (id : TxnId) (pair : Pair) → IsTrue (is_of_other id pair) → In id (ids_in pair) → ⊥
unlisted id pair other among =
    let off = not-true (is_listed id (ids_in pair)) (and_parts (is_some _) (not (is_listed id (ids_in pair))) other).1 in
    true≢false (sym (any_from (same_id id) id (ids_in pair) among (same_id-refl id)) ∙ off)

record_unlisted : (id : TxnId) (pair : Pair) (c : Commit) → IsTrue (is_of_other id pair) → In c (records_in pair) → c.id ≡ id → ⊥
record_unlisted id pair c other among is =
    unlisted id pair other (in_front id (map (λ (d : Commit). d.id) (records_in pair)) _ (subst (λ i. In i (map (λ (d : Commit). d.id) (records_in pair))) is (map_in (λ (d : Commit). d.id) c (records_in pair) among)))

marker_unlisted : (id : TxnId) (pair : Pair) (m : Marker) → IsTrue (is_of_other id pair) → In m (markers_in pair) → id_of_marker m ≡ id → ⊥
marker_unlisted id pair m other among is =
    unlisted id pair other (in_back id (map (λ (d : Commit). d.id) (records_in pair)) _ (subst (λ i. In i (map id_of_marker (markers_in pair))) is (map_in id_of_marker m (markers_in pair) among)))

module _ (uuid : List ℕ) (history : List DoorEntry) (entry : DoorEntry) (comes : Comes history entry) (before : Kept uuid history) (quiet : IsFalse (is_write entry.act)) where
  abbrev longer : List DoorEntry
  longer = history ++ entry ∷ []

  news : News uuid history entry
  news = quiet_news uuid history entry quiet

  no_new : (name : List ℕ) (outcome : Option (List ℕ)) → NewAt name entry.act outcome → ⊥
  no_new name outcome new = nothing_new uuid history entry quiet name outcome new

  no_record : (bytes : List ℕ) → NewAt (record_name uuid) entry.act (Some bytes) → ⊥
  no_record bytes new = no_new (record_name uuid) (Some bytes) new

  -- where the record was found absent, and no marker of it stands, nothing of the UUID is committed
  uncommitted_by_look : effect_of (record_name uuid) entry.act ≡ Shows None → IsFalse (knows_marked uuid longer) → Uncommitted uuid longer
  uncommitted_by_look shows un c is = there_after uuid history entry comes before news c is un (left_there history entry (record_name uuid) None (inl shows))

  uncommitted_none : effect_of (record_name uuid) entry.act ≡ Shows None → IsFalse (knows_marked uuid history) → Uncommitted uuid longer
  uncommitted_none shows un c is = elim (committed_fate uuid history entry (answered history entry comes) c is) [
    | inl was ↦ before.there c was un (shown_before history entry (record_name uuid) comes.honest before.records_known.some None shows)
    | inr proven ↦ some_none proven.bytes (only_one history entry (record_name uuid) (Some proven.bytes) proven.leaves None (left_there history entry (record_name uuid) None (inl shows)))
  ]

  -- ---- stages

  module _ (who : Incarnation) where
    abbrev Held : Stage → Type 0
    Held s = Holding uuid who history s

    unforgotten : IsFalse (forgotten uuid history) → IsFalse (forgotten uuid longer)
    unforgotten un = quiet_unforgotten uuid history entry quiet un

    nameless : (names : List (List ℕ)) → Unused uuid who names history → Unused uuid who [] longer
    nameless names unused =
        unused_stays uuid history entry comes before news no_record who unforgotten (λ bytes new. no_new (marker_name uuid) (Some bytes) new) [] (λ name among. absurd among)
        (record { free = unused.free; marker_gone = unused.marker_gone; uncommitted = unused.uncommitted; stored = λ name among. absurd among; of_node = λ name among. absurd among })

    module _ (put_stays : put_under_claim who uuid longer ≡ put_under_claim who uuid history) where
      pub same_stage : (s : Stage) → Held s → Holding uuid who longer s
      same_stage s holding =
          holding_stays uuid history entry comes before news no_record who unforgotten (λ bytes new. no_new (marker_name uuid) (Some bytes) new)
          (λ id was. subst (λ cs. IsTrue (has_id id cs)) (sym put_stays) was) (λ names unused name among outcome new. no_new name outcome new) s holding

      no_record_found : effect_of (record_name uuid) entry.act ≡ Shows None → (s : Stage) → Held s → Holding uuid who longer (found_no_record s)
      no_record_found shows IsIdle holding = holding
      no_record_found shows HasClaimed holding = (
        record { unforgotten = unforgotten holding; record_gone = only_one history entry (record_name uuid) None (inl shows) },
        elim (cases_Bool (knows_marked uuid longer)) [ inl marks ↦ inr marks | inr un ↦ inl (uncommitted_by_look shows un) ],
      )
      no_record_found shows IsUnrecorded holding = same_stage IsUnrecorded holding
      no_record_found shows (IsClear names) holding = nameless names holding
      no_record_found shows (HasPut d) holding =
          let gone = only_one history entry (record_name uuid) None (inl shows) in
          let un = false_from_ne_true (knows_marked uuid history)
          (unmarked_where_absent uuid history before holding.unforgotten (may_be_absent (marker_name uuid) history before.markers_known.some holding.marker_gone)) in
          record {
            free = record { unforgotten = unforgotten holding.unforgotten; record_gone = gone };
            marker_gone = absent_stays uuid history entry comes before (marker_name uuid) before.markers_known.some holding.marker_gone (λ bytes new. no_new (marker_name uuid) (Some bytes) new);
            uncommitted = uncommitted_none shows un;
            stored = λ name among. absurd among;
            of_node = λ name among. absurd among;
          }
      no_record_found shows IsClosed holding = holding

      no_marker_found : effect_of (marker_name uuid) entry.act ≡ Shows None → (s : Stage) → Held s → Holding uuid who longer (found_no_marker s)
      no_marker_found shows IsUnrecorded holding =
          let none_before = shown_before history entry (marker_name uuid) comes.honest before.markers_known.some None shows in
          let un : Uncommitted uuid history = elim holding.1 [ inl un ↦ un | inr marks ↦ absurd (unmarked_where_absent uuid history before holding.0.unforgotten none_before marks) ] in
          record {
            free = free_stays uuid history entry comes before news no_record (unforgotten holding.0.unforgotten) holding.0;
            marker_gone = only_one history entry (marker_name uuid) None (inl shows);
            uncommitted = uncommitted_stays uuid history entry comes before news no_record holding.0.record_gone un;
            stored = λ name among. absurd among;
            of_node = λ name among. absurd among;
          }
      no_marker_found shows IsIdle holding = holding
      no_marker_found shows HasClaimed holding = same_stage HasClaimed holding
      no_marker_found shows (IsClear names) holding = same_stage (IsClear names) holding
      no_marker_found shows (HasPut d) holding = same_stage (HasPut d) holding
      no_marker_found shows IsClosed holding = holding

      -- a get that found a name absent, of the holder
      module _ (node inc : ℕ) where
        absent_stage : (name : List ℕ) → entry.act ≡ Call node inc (Get name) Absent → (s : Stage) → Held s → Holding uuid who longer (stage_after_call uuid s (Get name) Absent)
        absent_stage name is s holding = cases (bytes_eq name (record_name uuid)) refl
          where
            shows_it : (its : List ℕ) → bytes_eq name its ≡ true → effect_of its entry.act ≡ Shows None
            shows_it its same =
                subst (λ act. effect_of its act ≡ Shows None) (sym is) (get_absent its name node inc (subst (λ n. IsTrue (bytes_eq its n)) (sym (same_bytes name its same)) (bytes_eq-refl its)))

            marker_case : (t : Bool) → bytes_eq name (marker_name uuid) ≡ t → Holding uuid who longer (if t then found_no_marker s else s)
            marker_case true same = no_marker_found (shows_it (marker_name uuid) same) s holding
            marker_case false other = same_stage s holding

            cases : (t : Bool) → bytes_eq name (record_name uuid) ≡ t → Holding uuid who longer (if t then found_no_record s else if bytes_eq name (marker_name uuid) then found_no_marker s else s)
            cases true same = no_record_found (shows_it (record_name uuid) same) s holding
            cases false other = marker_case (bytes_eq name (marker_name uuid)) refl

        sight_stage : (asked : KeeperCall) (answer : KeeperAnswer) → IsTrue (is_sight (Call node inc asked answer)) → entry.act ≡ Call node inc asked answer
            → (s : Stage) → Held s → Holding uuid who longer (stage_after_call uuid s asked answer)
        sight_stage (Get name) Absent sight is s holding = absent_stage name is s holding
        sight_stage (Get name) answer sight is s holding = same_stage s holding
        sight_stage (Scan prefix after limit) answer sight is s holding = same_stage s holding
        sight_stage asked answer sight is s holding = absurd (false≢true sight)

  -- ---- what the office finds out

  module _ (id : TxnId) (of : id.uuid ≡ uuid) where
    unseen : Type 0
    unseen = (c : Commit) → MayRecord id.uuid longer c → c.id ≡ id → ⊥

    stays : (l : Look) → Looking id history l → Looking id longer l
    stays l looking = looking_stays uuid history entry comes before news no_record id of l looking

    found_other : Other id (record_name uuid) entry.act → Looking id longer FoundOther
    found_other (Nothing_there shows) = (
      λ c possible is. (let here = subst (λ u. MayRecord u longer c) of possible in
          subst (λ o. In c (records_at uuid o)) (only_one history entry (record_name uuid) None (inl shows) here.outcome here.may) here.among),
      λ is. elim (cases_Bool (knows_marked id.uuid longer)) [
        | inl marks ↦ marks
        | inr un ↦ absurd (uncommitted_by_look shows (subst (λ u. IsFalse (knows_marked u longer)) of un) is.0 (is.1, ap (λ (i : TxnId). i.uuid) is.2 ∙ of))
      ],
    )
    found_other (Another_there bytes shows other) = (
      λ c possible is. (let here = subst (λ u. MayRecord u longer c) of possible in
          let among = subst (λ o. In c (records_at uuid o)) (only_one history entry (record_name uuid) (Some bytes) (inl shows) here.outcome here.may) here.among in
          record_unlisted id (under (record_name uuid) bytes) c other (record_read uuid bytes c among) is),
      λ is. (let there = left_there history entry (record_name uuid) (Some bytes) (inl shows) in
          let read = (records_after uuid history entry comes before news).each bytes there in
          let same : is.0 ≡ read.1 = one_after uuid history entry comes before news is.0 read.1 (inl (is.1, ap (λ (i : TxnId). i.uuid) is.2 ∙ of)) (inr (record { outcome = Some bytes; may = there; among = read.2 })) in
          absurd (record_unlisted id (under (record_name uuid) bytes) read.1 other (record_read uuid bytes read.1 read.2) (ap (λ (c : Commit). c.id) (sym same) ∙ is.2))),
    )

    no_record_seen : Other id (record_name uuid) entry.act → (l : Look) → Looking id history l → Looking id longer (saw_no_record l)
    no_record_seen other IsUnclaimed looking = tt
    no_record_seen other IsClaimed looking = found_other other
    no_record_seen other FoundOther looking = stays FoundOther looking
    no_record_seen other IsCleared looking = stays IsCleared looking

    cleared : Other id (marker_name uuid) entry.act → IsFalse (forgotten uuid history) → Looking id history FoundOther → CommittedId id longer → ⊥
    cleared other un looking is = by_case other
      where
        was : CommittedId id history
        was = committed_before uuid history entry comes before news no_record id of looking.0 is

        of_uuid : CommittedOf uuid history was.0
        of_uuid = (was.1, ap (λ (i : TxnId). i.uuid) was.2 ∙ of)

        of_marker : (m : Marker) → (id_of_marker m).uuid ≡ uuid → Tried history m → id_of_marker m ≡ id
        of_marker (Full d) its tried = elim (before.full d tried its).1 [
          | inl committed_d ↦ ap (λ (c : Commit). c.id) (before.one d was.0 (inl (committed_d, its)) (inl of_uuid)) ∙ was.2
          | inr retired ↦ absurd (retired.uncommitted was.0 of_uuid)
        ]
        of_marker (Done j) its tried = elim (before.short j tried its).1 [
          | inl e ↦ sym e.2 ∙ (ap (λ (c : Commit). c.id) (before.one e.0 was.0 (inl (e.1, ap (λ (i : TxnId). i.uuid) e.2 ∙ its)) (inl of_uuid)) ∙ was.2)
          | inr retired ↦ absurd (retired.uncommitted was.0 of_uuid)
        ]

        by_case : Other id (marker_name uuid) entry.act → ⊥
        by_case (Nothing_there shows) =
            unmarked_where_absent uuid history before un (shown_before history entry (marker_name uuid) comes.honest before.markers_known.some None shows) (subst (λ u. IsTrue (knows_marked u history)) of (looking.1 was))
        by_case (Another_there bytes shows other) =
            let may = shown_before history entry (marker_name uuid) comes.honest before.markers_known.some (Some bytes) shows in
            let read = before.markers_known.each bytes may in
            marker_unlisted id (under (marker_name uuid) bytes) read.1 other (marker_read uuid bytes read.1 read.2)
            (of_marker read.1 (marker_of_uuid uuid (Some bytes) read.1 read.2) (before.marked_tried read.1 (inl (record { outcome = Some bytes; may = may; among = read.2 }))))

    no_marker_seen : Other id (marker_name uuid) entry.act → IsFalse (forgotten uuid history) → (l : Look) → Looking id history l → Looking id longer (saw_no_marker l)
    no_marker_seen other un IsUnclaimed looking = tt
    no_marker_seen other un IsClaimed looking = tt
    no_marker_seen other un FoundOther looking = (unseen_stays uuid history entry comes before news no_record id of looking.0, cleared other un looking)
    no_marker_seen other un IsCleared looking = stays IsCleared looking

    -- what is found out by a call
    seen_by : IsTrue (is_held_by the_office (claimant uuid history)) → (l : Look) → Looking id history l → Looking id longer (look_after_call id l entry.act)
    seen_by held l looking = first (finds_other id (record_name id.uuid) entry.act) refl
      where
        un : IsTrue (finds_other id (marker_name id.uuid) entry.act) → IsFalse (forgotten uuid history)
        un finds = office_unforgotten uuid the_office history refl (stage the_office uuid history) (before.holding the_office held (office_finds id (marker_name id.uuid) history entry.act (come history entry comes) finds))

        second : (t : Bool) → finds_other id (marker_name id.uuid) entry.act ≡ t → Looking id longer (if t then saw_no_marker l else l)
        second true finds = no_marker_seen (subst (λ u. Other id (marker_name u) entry.act) of (other_of id (marker_name id.uuid) entry.act finds)) (un finds) l looking
        second false other = stays l looking

        first : (t : Bool) → finds_other id (record_name id.uuid) entry.act ≡ t → Looking id longer (if t then saw_no_record l else if finds_other id (marker_name id.uuid) entry.act then saw_no_marker l else l)
        first true finds = no_record_seen (subst (λ u. Other id (record_name u) entry.act) of (other_of id (record_name id.uuid) entry.act finds)) l looking
        first false other = second (finds_other id (marker_name id.uuid) entry.act) refl

-- ---- the whole

pub record Called (act : DoorAct) : Type 0 where
  pub node : ℕ
  pub inc : ℕ
  pub asked : KeeperCall
  pub answer : KeeperAnswer
  pub is : act ≡ Call node inc asked answer

called : (act : DoorAct) → IsTrue (is_sight act) → Called act
called (Call node inc asked answer) sight = record { node = node; inc = inc; asked = asked; answer = answer; is = refl }
called act sight = absurd (false≢true sight)

puts_none : (who : Incarnation) (uuid : List ℕ) (puts : List Commit) (node inc : ℕ) (asked : KeeperCall) (answer : KeeperAnswer) → IsTrue (is_sight (Call node inc asked answer))
    → put_after who uuid puts (Call node inc asked answer) ≡ puts
puts_none who uuid puts node inc asked answer sight = cases (same_incarnation who (incarnation node inc)) asked sight
  where
    cases : (t : Bool) (asked : KeeperCall) → IsTrue (is_sight (Call node inc asked answer)) → (if t then puts ++ put_by_call uuid asked else puts) ≡ puts
    cases true (Get name) sight = append-nil puts
    cases true (Scan prefix after limit) sight = append-nil puts
    cases true asked sight = absurd (false≢true sight)
    cases false asked sight = refl

pub kept_behind_sight : (uuid : List ℕ) (history : List DoorEntry) (entry : DoorEntry) → Comes history entry → Kept uuid history → IsTrue (is_sight entry.act) → Kept uuid (history ++ entry ∷ [])
kept_behind_sight uuid history entry comes before sight = kept_after uuid history entry comes before (quiet_news uuid history entry quiet) claimed_of holding_of looking_of
  where
    quiet : IsFalse (is_write entry.act)
    quiet = sight_writes_nothing entry.act sight

    call : Called entry.act
    call = called entry.act sight

    its_sight : IsTrue (is_sight (Call call.node call.inc call.asked call.answer))
    its_sight = subst (λ act. IsTrue (is_sight act)) call.is sight

    held_before : (who : Incarnation) → IsTrue (is_held_by who (claimant uuid (history ++ entry ∷ []))) → IsTrue (is_held_by who (claimant uuid history))
    held_before who held =
        subst (λ act. IsTrue (is_held_by who (claimant_after uuid (claimant uuid history) act))) call.is
        (subst (λ h. IsTrue (is_held_by who h)) (claimant-snoc uuid history entry) held)

    claimed_of : (who : Incarnation) → IsTrue (is_held_by who (claimant uuid (history ++ entry ∷ []))) → IsTrue (is_up who (history ++ entry ∷ [])) ⊎ Fenced who (history ++ entry ∷ [])
    claimed_of who held = known_after who history (before.claimed who (held_before who held)) entry (come history entry comes)

    put_same : (who : Incarnation) → put_under_claim who uuid (history ++ entry ∷ []) ≡ put_under_claim who uuid history
    put_same who =
        put-snoc who uuid history entry
        ∙ (ap (λ act. put_after who uuid (put_under_claim who uuid history) act) call.is ∙ puts_none who uuid (put_under_claim who uuid history) call.node call.inc call.asked call.answer its_sight)

    holding_of : (who : Incarnation) → IsTrue (is_held_by who (claimant uuid (history ++ entry ∷ []))) → IsTrue (is_up who (history ++ entry ∷ []))
        → Holding uuid who (history ++ entry ∷ []) (stage who uuid (history ++ entry ∷ []))
    holding_of who held up =
        let was = before.holding who (held_before who held) (was_up who history (before.claimed who (held_before who held)) entry (come history entry comes) up) in
        subst (Holding uuid who (history ++ entry ∷ [])) (sym (stage-snoc who uuid history entry ∙ ap (λ act. stage_after who uuid (stage who uuid history) act) call.is))
        (cases was (same_incarnation who (incarnation call.node call.inc)))
      where
        cases : Holding uuid who history (stage who uuid history) → (t : Bool)
            → Holding uuid who (history ++ entry ∷ []) (if t then stage_after_call uuid (stage who uuid history) call.asked call.answer else stage who uuid history)
        cases was true = sight_stage uuid history entry comes before quiet who (put_same who) call.node call.inc call.asked call.answer its_sight call.is (stage who uuid history) was
        cases was false = same_stage uuid history entry comes before quiet who (put_same who) (stage who uuid history) was

    looking_of : (id : TxnId) → id.uuid ≡ uuid → IsTrue (is_held_by the_office (claimant uuid (history ++ entry ∷ []))) → Looking id (history ++ entry ∷ []) (look id (history ++ entry ∷ []))
    looking_of id of held =
        let after = look-snoc id history entry in
        let is : look id (history ++ entry ∷ []) ≡ look_after_call id (look id history) entry.act =
        after.1 ∙ (ap (λ act. look_after id after.0 (look id history) act) call.is ∙ sym (ap (λ act. look_after_call id (look id history) act) call.is)) in
        subst (Looking id (history ++ entry ∷ [])) (sym is)
        (seen_by uuid history entry comes before quiet id of (held_before the_office held) (look id history) (before.looking id of (held_before the_office held)))
