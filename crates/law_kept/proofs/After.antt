-- What a UUID keeps behind an entry, by what is new in it: one lemma a clause, for every kind of entry.
use Rattle.std.proofs.Common.{◌≡◌, ℕ, List, [], ◌∷◌, ◌++◌, refl, sym, ap, subst, ◌∙◌, ◌⊎◌, inl, inr}
use Rattle.std.specs.Prelude.{IsTrue, IsFalse, Option, Some, None}
use Rattle.std.specs.List.{list_any}
use Rattle.std.proofs.lemmas.Bool.{cases_Bool, false_from_ne_true, true≢false}
use Rattle.std.proofs.lemmas.List.Concat.{flat_map-append}
use Rattle.aft_id.specs.declared.txn_id.TxnId.{TxnId}
use Rattle.aft_records.specs.declared.stored.Commit.{Commit}
use Rattle.aft_records.specs.declared.stored.Marker.{Marker}
use Rattle.aft_records.specs.declared.stored.Marker.TheVariants.{Done, Full}
use Rattle.aft_records.specs.Superseded.{Superseded}
use Rattle.aft_model.specs.declared.door.DoorEntry.{DoorEntry}
use Rattle.aft_model.specs.Bytes.{are_bytes}
use Rattle.aft_model.specs.Claims.{claimant, forgotten, is_held_by}
use Rattle.aft_model.specs.Committed.{committed, committed_by}
use Rattle.aft_model.specs.Course.{DeletesNothing}
use Rattle.aft_model.specs.DoorKnowledge.{is_delete, knows_marked, knows_record_gone, shows_gone}
use Rattle.aft_model.specs.Looks.{look}
use Rattle.aft_model.specs.MayHold.{OneOf, may_hold}
use Rattle.aft_model.specs.Membership.{Incarnation, fenced, is_up, same_incarnation, the_office}
use Rattle.aft_model.specs.Readings.{id_of_marker, marker_name, record_name, version_name}
use Rattle.aft_model.specs.Stages.{stage}
use Rattle.aft_model.proofs.Growth.{forgotten_grows, knows_marked_grows, superseded_grows}
use Rattle.aft_model.proofs.Histories.{In, in_front}
use Rattle.aft_model.proofs.Ids.{same_ids}
use Rattle.law_effects.specs.Effects.{Effect, Leaves, Shows, Tries, Writes, after_effect, effect_of}
use Rattle.law_effects.proofs.Follows.{follows}
use Rattle.law_names.proofs.Differ.{first_differs}
use Rattle.law_kept.specs.Kept.{CommittedId, Comes, Holding, Kept, Looking, Readable}
use Rattle.law_kept.specs.Outcomes.{Appears, CommittedOf, MayBe, MayMark, MayRecord, NeverAbsent, OnlyAbsent, ProvenOf, Stored, markers_at, outcomes, records_at}
use Rattle.law_kept.specs.Tried.{RetiredBefore, Tried, began_to_delete, deletes_of, markers_put}
use Rattle.law_kept.proofs.Fates.{Leaving, NewAt, committed_fate, fate, known_after, leaves_one, marker_read, one_record, only_one, proven_fate, shown_before}
use Rattle.law_kept.proofs.Gone.{Completes, behind_fate}
use Rattle.law_kept.proofs.Steps.{answered, gone_effect, new_delete, new_name, new_put, new_same, no_delete, tried_fate, tried_grows, tried_now}

-- a commit whose record is put: nothing of its UUID appears but it, nothing stands against it, and its versions are there
pub record Recorded (uuid : List ℕ) (history : List DoorEntry) (c : Commit) : Type 0 where
  pub alone : (d : Commit) → Appears uuid history d → d ≡ c
  pub unforgotten : IsTrue (forgotten uuid history) → ⊥
  pub unshort : (id : TxnId) → Tried history (Done id) → id.uuid ≡ uuid → ⊥
  pub unretired : RetiredBefore uuid history → ⊥
  pub ungone : (id : TxnId) → IsTrue (knows_record_gone id history) ⊎ IsTrue (began_to_delete id history) → id.uuid ≡ uuid → ⊥
  pub stored : (key : List ℕ) → In key c.keys → Stored uuid (version_name key c.id) history

-- a marker that is put, and its record
abbrev pub Marking : List ℕ → List DoorEntry → DoorEntry → Marker → Type 0
Marking uuid history entry (Full c) = Superseded c (committed history) × In c (committed history)
Marking uuid history entry (Done id) = OnlyAbsent (record_name uuid) (history ++ entry ∷ []) × (CommittedId id history ⊎ RetiredBefore uuid history)

-- what is new of a UUID in an entry
pub record News (uuid : List ℕ) (history : List DoorEntry) (entry : DoorEntry) : Type 0 where
  pub record_reads : (bytes : List ℕ) → NewAt (record_name uuid) entry.act (Some bytes) → IsTrue (are_bytes bytes) × (c : Commit) × In c (records_at uuid (Some bytes))
  pub recorded : (bytes : List ℕ) → NewAt (record_name uuid) entry.act (Some bytes) → (c : Commit) → In c (records_at uuid (Some bytes)) → Recorded uuid history c
  pub unrecorded : NewAt (record_name uuid) entry.act None → IsTrue (knows_marked uuid history)
  pub marker_reads : (bytes : List ℕ) → NewAt (marker_name uuid) entry.act (Some bytes) → IsTrue (are_bytes bytes) × (m : Marker) × In m (markers_at uuid (Some bytes))
  pub unmarked : NewAt (marker_name uuid) entry.act None → IsTrue (forgotten uuid (history ++ entry ∷ []))
  pub marking : (m : Marker) → In m (markers_put entry.act) → (id_of_marker m).uuid ≡ uuid → Marking uuid history entry m
  pub forgetting : IsTrue (forgotten uuid (history ++ entry ∷ [])) → IsTrue (forgotten uuid history) ⊎ OnlyAbsent (record_name uuid) (history ++ entry ∷ [])
  pub began : (id : TxnId) → Completes deletes_of id history entry → id.uuid ≡ uuid → OnlyAbsent (record_name uuid) (history ++ entry ∷ [])
  pub stays : (c : Commit) → MayRecord uuid history c → (key : List ℕ) → In key c.keys → (outcome : Option (List ℕ)) → NewAt (version_name key c.id) entry.act outcome → ⊥

pub some_none : (bytes : List ℕ) → None ≡ Some bytes → ⊥
some_none bytes e = cc

pub none_some : (bytes : List ℕ) → Some bytes ≡ None → ⊥
none_some bytes e = cc

pub some_is : (a b : List ℕ) → Some a ≡ Some b → a ≡ b
some_is a b e = cc

-- the effect of an act by what it does
pub data Doing (effect : Effect) : Type 0 where
  ItLeaves : effect ≡ Leaves → Doing effect
  ItShows : (o : Option (List ℕ)) → effect ≡ Shows o → Doing effect
  ItWrites : (o : Option (List ℕ)) → effect ≡ Writes o → Doing effect
  ItTries : (o : Option (List ℕ)) → effect ≡ Tries o → Doing effect

pub doing : (effect : Effect) → Doing effect
doing Leaves = ItLeaves refl
doing (Shows o) = ItShows o refl
doing (Writes o) = ItWrites o refl
doing (Tries o) = ItTries o refl

module _ (uuid : List ℕ) (history : List DoorEntry) (entry : DoorEntry) (comes : Comes history entry) (before : Kept uuid history) where
  abbrev pub longer : List DoorEntry
  longer = history ++ entry ∷ []

  pub record_fate : (outcome : Option (List ℕ)) → MayBe (record_name uuid) longer outcome → MayBe (record_name uuid) history outcome ⊎ NewAt (record_name uuid) entry.act outcome
  record_fate outcome may = fate history entry (record_name uuid) comes.honest before.records_known.some outcome may

  pub marker_fate : (outcome : Option (List ℕ)) → MayBe (marker_name uuid) longer outcome → MayBe (marker_name uuid) history outcome ⊎ NewAt (marker_name uuid) entry.act outcome
  marker_fate outcome may = fate history entry (marker_name uuid) comes.honest before.markers_known.some outcome may

  -- a name that is surely absent stays so where nothing is put there
  pub absent_stays : (name : List ℕ) → (outcome : Option (List ℕ)) × MayBe name history outcome → OnlyAbsent name history → ((bytes : List ℕ) → NewAt name entry.act (Some bytes) → ⊥) → OnlyAbsent name longer
  absent_stays name known none no_new outcome may = elim (fate history entry name comes.honest known outcome may) [ inl was ↦ none outcome was | inr new ↦ cases outcome new ]
    where
      cases : (o : Option (List ℕ)) → NewAt name entry.act o → o ≡ None
      cases None new = refl
      cases (Some bytes) new = absurd (no_new bytes new)

  -- a version that is there stays so where nothing is written under its name
  pub stored_stays : (name : List ℕ) → Stored uuid name history → ((outcome : Option (List ℕ)) → NewAt name entry.act outcome → ⊥) → Stored uuid name longer
  stored_stays name was none = record { bytes = was.bytes; version = was.version; only = same (doing (effect_of name entry.act)); made = was.made; reads = was.reads; of = was.of }
    where
      same : Doing (effect_of name entry.act) → may_hold name longer ≡ OneOf (Some was.bytes ∷ [])
      same (ItLeaves is) = follows name history entry ∙ ap (λ e. after_effect e (may_hold name history)) is ∙ was.only
      same (ItShows o is) =
          let there : MayBe name history (Some was.bytes) = subst (λ may. In (Some was.bytes) (outcomes may)) (sym was.only) (inl refl) in
          let shown : MayBe name history o = shown_before history entry name comes.honest (Some was.bytes, there) o is in
          let one : o ≡ Some was.bytes = elim (subst (λ may. In o (outcomes may)) was.only shown) [ inl here ↦ here | inr nowhere ↦ absurd nowhere ] in
          leaves_one history entry name o (inl is) ∙ ap (λ p. OneOf (p ∷ [])) one
      same (ItWrites o is) = absurd (none o (inl is))
      same (ItTries o is) = absurd (none o (inr is))

  -- an outcome that an entry leaves was possible, or is new
  pub left_fate : (name : List ℕ) → (outcome : Option (List ℕ)) × MayBe name history outcome → (outcome : Option (List ℕ)) → Leaving (effect_of name entry.act) outcome → MayBe name history outcome ⊎ NewAt name entry.act outcome
  left_fate name known outcome (inl shows) = inl (shown_before history entry name comes.honest known outcome shows)
  left_fate name known outcome (inr writes) = inr (inl writes)

  pub committed_grows : (c : Commit) → In c (committed history) → In c (committed longer)
  committed_grows c among = subst (In c) (sym (flat_map-append (λ (e : DoorEntry). committed_by e) history (entry ∷ []))) (in_front c (committed history) _ among)

  pub unmarked_before : IsFalse (knows_marked uuid longer) → IsFalse (knows_marked uuid history)
  unmarked_before un = false_from_ne_true (knows_marked uuid history) (λ was. true≢false (sym (knows_marked_grows uuid history (entry ∷ []) was) ∙ un))

  pub unforgotten_before : IsFalse (forgotten uuid longer) → IsFalse (forgotten uuid history)
  unforgotten_before un = false_from_ne_true (forgotten uuid history) (λ was. true≢false (sym (forgotten_grows uuid history (entry ∷ []) was) ∙ un))

  module _ (news : News uuid history entry) where
    -- a record that is put, and its commit
    abbrev NewRecord : Commit → Type 0
    NewRecord c = (bytes : List ℕ) × (NewAt (record_name uuid) entry.act (Some bytes)) × In c (records_at uuid (Some bytes))

    -- what appears behind the entry appeared before it, or is put
    pub appears_fate : (c : Commit) → Appears uuid longer c → Appears uuid history c ⊎ NewRecord c
    appears_fate c (inl is) =
        elim (committed_fate uuid history entry (answered history entry comes) c is) [
          | inl was ↦ inl (inl was)
          | inr proven ↦ elim (left_fate (record_name uuid) before.records_known.some (Some proven.bytes) proven.leaves) [
            | inl was ↦ inl (inr (record { outcome = Some proven.bytes; may = was; among = proven.among }))
            | inr new ↦ inr (proven.bytes, new, proven.among)
          ]
        ]
    appears_fate c (inr possible) = elim (record_fate possible.outcome possible.may) [
      | inl was ↦ inl (inr (record { outcome = possible.outcome; may = was; among = possible.among }))
      | inr new ↦ cases possible.outcome new possible.among
    ]
      where
        cases : (o : Option (List ℕ)) → NewAt (record_name uuid) entry.act o → In c (records_at uuid o) → Appears uuid history c ⊎ NewRecord c
        cases None new among = absurd among
        cases (Some bytes) new among = inr (bytes, new, among)

    recorded_by : (c : Commit) → NewRecord c → Recorded uuid history c
    recorded_by c new = news.recorded new.0 new.1 c new.2

    -- what stands against a record that is put leaves the record's name surely absent
    none_stays : OnlyAbsent (record_name uuid) history → ((c : Commit) → Recorded uuid history c → ⊥) → OnlyAbsent (record_name uuid) longer
    none_stays none against = absent_stays (record_name uuid) before.records_known.some none (λ bytes new. let read = news.record_reads bytes new in against read.1 (news.recorded bytes new read.1 read.2))

    pub records_after : Readable (record_name uuid) (records_at uuid) longer
    records_after = record {
      some = known_after history entry (record_name uuid) before.records_known.some;
      each = λ bytes may. elim (record_fate (Some bytes) may) [ inl was ↦ before.records_known.each bytes was | inr new ↦ news.record_reads bytes new ];
    }

    markers_after : Readable (marker_name uuid) (markers_at uuid) longer
    markers_after = record {
      some = known_after history entry (marker_name uuid) before.markers_known.some;
      each = λ bytes may. elim (marker_fate (Some bytes) may) [ inl was ↦ before.markers_known.each bytes was | inr new ↦ news.marker_reads bytes new ];
    }

    pub one_after : (c d : Commit) → Appears uuid longer c → Appears uuid longer d → c ≡ d
    one_after c d of_c of_d =
        elim (appears_fate c of_c) [
          | inl old_c ↦ elim (appears_fate d of_d) [
            | inl old_d ↦ before.one c d old_c old_d
            | inr new_d ↦ (recorded_by d new_d).alone c old_c
          ]
          | inr new_c ↦ elim (appears_fate d of_d) [
            | inl old_d ↦ sym ((recorded_by c new_c).alone d old_d)
            | inr new_d ↦ (let same = new_same (record_name uuid) (effect_of (record_name uuid) entry.act) (Some new_c.0) (Some new_d.0) new_c.1 new_d.1 in
                one_record uuid (Some new_d.0) c d (subst (λ o. In c (records_at uuid o)) same new_c.2) new_d.2)
          ]
        ]

    pub there_after : (c : Commit) → CommittedOf uuid longer c → IsFalse (knows_marked uuid longer) → NeverAbsent (record_name uuid) longer
    there_after c is un may =
        elim (committed_fate uuid history entry (answered history entry comes) c is) [
          | inl was ↦ elim (record_fate None may) [
            | inl still ↦ before.there c was (unmarked_before un) still
            | inr new ↦ true≢false (sym (news.unrecorded new) ∙ unmarked_before un)
          ]
          | inr proven ↦ some_none proven.bytes (only_one history entry (record_name uuid) (Some proven.bytes) proven.leaves None may)
        ]

    put_tried : (bytes : List ℕ) → NewAt (marker_name uuid) entry.act (Some bytes) → (m : Marker) → In m (markers_at uuid (Some bytes)) → Tried longer m
    put_tried bytes new m among =
        let put = new_put (marker_name uuid) entry.act bytes new in
        tried_now history entry m (subst (λ act. In m (markers_put act)) (sym put.3) (marker_read uuid bytes m among))

    new_mark_tried : (m : Marker) (o : Option (List ℕ)) → NewAt (marker_name uuid) entry.act o → In m (markers_at uuid o) → Tried longer m
    new_mark_tried m None new among = absurd among
    new_mark_tried m (Some bytes) new among = put_tried bytes new m among

    still_tried : (m : Marker) → Tried history m → Tried longer m
    still_tried m was = tried_grows history entry comes.opened m was

    tried_after : (m : Marker) → MayMark uuid longer m ⊎ ProvenOf uuid longer m → Tried longer m
    tried_after m (inl possible) = elim (marker_fate possible.outcome possible.may) [
      | inl was ↦ still_tried m (before.marked_tried m (inl (record { outcome = possible.outcome; may = was; among = possible.among })))
      | inr new ↦ new_mark_tried m possible.outcome new possible.among
    ]
    tried_after m (inr is) = elim (proven_fate uuid history entry (answered history entry comes) m is) [
      | inl was ↦ still_tried m (before.marked_tried m (inr was))
      | inr proven ↦ elim (left_fate (marker_name uuid) before.markers_known.some (Some proven.bytes) proven.leaves) [
        | inl was ↦ still_tried m (before.marked_tried m (inl (record { outcome = Some proven.bytes; may = was; among = proven.among })))
        | inr new ↦ new_mark_tried m (Some proven.bytes) new proven.among
      ]
    ]

    never_after : NeverAbsent (marker_name uuid) history → IsFalse (forgotten uuid longer) → NeverAbsent (marker_name uuid) longer
    never_after never un may = elim (marker_fate None may) [ inl was ↦ never was | inr new ↦ true≢false (sym (news.unmarked new) ∙ un) ]

    pub retired_after : RetiredBefore uuid history → RetiredBefore uuid longer
    retired_after was = record {
      uncommitted = λ c is. elim (appears_fate c (inl is)) [
        | inl old ↦ elim old [
          | inl committed_of ↦ was.uncommitted c committed_of
          | inr possible ↦ subst (λ o. In c (records_at uuid o)) (was.record_gone possible.outcome possible.may) possible.among
        ]
        | inr new ↦ (recorded_by c new).unretired was
      ];
      record_gone = none_stays was.record_gone (λ c recorded. recorded.unretired was);
      marked_or_forgotten = elim was.marked_or_forgotten [
        | inl never ↦ elim (cases_Bool (forgotten uuid longer)) [ inl gone ↦ inr gone | inr un ↦ inl (never_after never un) ]
        | inr gone ↦ inr (forgotten_grows uuid history (entry ∷ []) gone)
      ];
    }

    full_after : (c : Commit) → Tried longer (Full c) → c.id.uuid ≡ uuid → Superseded c (committed longer) × (In c (committed longer) ⊎ RetiredBefore uuid longer)
    full_after c tried of = elim (tried_fate history entry comes.opened (Full c) tried) [
      | inl was ↦ (let full = before.full c was of in
          (superseded_grows c history (entry ∷ []) full.0, elim full.1 [ inl is ↦ inl (committed_grows c is) | inr retired ↦ inr (retired_after retired) ]))
      | inr put ↦ (let marking = news.marking (Full c) put of in (superseded_grows c history (entry ∷ []) marking.0, inl (committed_grows c marking.1)))
    ]

    id_after : (id : TxnId) → CommittedId id history ⊎ RetiredBefore uuid history → CommittedId id longer ⊎ RetiredBefore uuid longer
    id_after id (inl is) = inl (is.0, committed_grows is.0 is.1, is.2)
    id_after id (inr retired) = inr (retired_after retired)

    short_after : (id : TxnId) → Tried longer (Done id) → id.uuid ≡ uuid → OnlyAbsent (record_name uuid) longer × (CommittedId id longer ⊎ RetiredBefore uuid longer)
    short_after id tried of = elim (tried_fate history entry comes.opened (Done id) tried) [
      | inl was ↦ (let short = before.short id was of in (none_stays short.0 (λ c recorded. recorded.unshort id was of), id_after id short.1))
      | inr put ↦ (let marking = news.marking (Done id) put of in (marking.0, id_after id marking.1))
    ]

    sure_after : (m : Marker) → ProvenOf uuid longer m → IsFalse (forgotten uuid longer) → NeverAbsent (marker_name uuid) longer
    sure_after m is un =
        elim (proven_fate uuid history entry (answered history entry comes) m is) [
          | inl was ↦ never_after (before.sure m was (unforgotten_before un)) un
          | inr proven ↦ (λ may. some_none proven.bytes (only_one history entry (marker_name uuid) (Some proven.bytes) proven.leaves None may))
        ]

    gone_after : (id : TxnId) → IsTrue (knows_record_gone id longer) ⊎ IsTrue (began_to_delete id longer) → id.uuid ≡ uuid → OnlyAbsent (record_name uuid) longer
    gone_after id (inl knows) of = elim (behind_fate shows_gone id history entry knows) [
      | inl was ↦ none_stays (before.gone id (inl was) of) (λ c recorded. recorded.ungone id (inl was) of)
      | inr completes ↦ shown_gone completes
    ]
      where
        shown_gone : Completes shows_gone id history entry → OnlyAbsent (record_name uuid) longer
        shown_gone completes =
            let is : completes.commit.id.uuid ≡ uuid = ap (λ (i : TxnId). i.uuid) (sym (same_ids id completes.commit.id completes.of)) ∙ of in
            only_one history entry (record_name uuid) None (subst (λ u. Leaving (effect_of (record_name u) entry.act) None) is (gone_effect (record_name completes.commit.id.uuid) entry completes.now))
    gone_after id (inr began) of = elim (behind_fate deletes_of id history entry began) [
      | inl was ↦ none_stays (before.gone id (inr was) of) (λ c recorded. recorded.ungone id (inr was) of)
      | inr completes ↦ news.began id completes of
    ]

    not_new_record : (c : Commit) → NewRecord c → (key : List ℕ) → (o : Option (List ℕ)) → NewAt (version_name key c.id) entry.act o → ⊥
    not_new_record c new key o at = first_differs 99 118 _ _ refl (new_name (record_name uuid) (version_name key c.id) entry.act (Some new.0) o new.1 at)

    whole_after : (c : Commit) → MayRecord uuid longer c → (key : List ℕ) → In key c.keys → Stored uuid (version_name key c.id) longer
    whole_after c possible key among = elim (record_fate possible.outcome possible.may) [
      | inl was ↦ (let may : MayRecord uuid history c = record { outcome = possible.outcome; may = was; among = possible.among } in
          stored_stays (version_name key c.id) (before.whole c may key among) (news.stays c may key among))
      | inr new ↦ cases possible.outcome new possible.among
    ]
      where
        cases : (o : Option (List ℕ)) → NewAt (record_name uuid) entry.act o → In c (records_at uuid o) → Stored uuid (version_name key c.id) longer
        cases None new within = absurd within
        cases (Some bytes) new within = stored_stays (version_name key c.id) ((news.recorded bytes new c within).stored key among) (not_new_record c (bytes, new, within) key)

    forgotten_after : IsTrue (forgotten uuid longer) → OnlyAbsent (record_name uuid) longer
    forgotten_after is = elim (news.forgetting is) [
      | inl was ↦ none_stays (before.forgotten_gone was) (λ c recorded. recorded.unforgotten was)
      | inr none ↦ none
    ]

    undeleted_after : (c : Commit) → CommittedOf uuid longer c → DeletesNothing longer → NeverAbsent (record_name uuid) longer
    undeleted_after c is none may =
        let kept = no_delete history entry none in
        elim (committed_fate uuid history entry (answered history entry comes) c is) [
          | inl was ↦ elim (record_fate None may) [
            | inl still ↦ before.undeleted c was kept.0 still
            | inr new ↦ (let deletes_it = new_delete (record_name uuid) entry.act new in
                true≢false (sym (ap is_delete deletes_it.3) ∙ kept.1))
          ]
          | inr proven ↦ some_none proven.bytes (only_one history entry (record_name uuid) (Some proven.bytes) proven.leaves None may)
        ]

    -- the invariant behind the entry, where what the stages say is known
    pub kept_after : ((who : Incarnation) → IsTrue (is_held_by who (claimant uuid longer)) → IsTrue (is_up who longer) ⊎ IsTrue (list_any (same_incarnation who) (fenced longer)))
        → ((who : Incarnation) → IsTrue (is_held_by who (claimant uuid longer)) → IsTrue (is_up who longer) → Holding uuid who longer (stage who uuid longer))
        → ((id : TxnId) → id.uuid ≡ uuid → IsTrue (is_held_by the_office (claimant uuid longer)) → Looking id longer (look id longer))
        → Kept uuid longer
    kept_after claimed_of holding_of looking_of = record {
      records_known = records_after;
      markers_known = markers_after;
      one = one_after;
      there = there_after;
      marked_tried = tried_after;
      full = full_after;
      short = short_after;
      sure = sure_after;
      gone = gone_after;
      whole = whole_after;
      claimed = claimed_of;
      holding = holding_of;
      forgotten_gone = forgotten_after;
      looking = looking_of;
      undeleted = undeleted_after;
    }
