-- What one entry more does to what is possible of a name, and what it commits and marks.
use Rattle.std.proofs.Common.{◌≡◌, ℕ, Bool, List, [], ◌∷◌, ◌++◌, refl, sym, ap, subst, ◌∙◌, ◌⊎◌, inl, inr}
use Rattle.std.specs.Prelude.{IsTrue, Option, Some, None}
use Rattle.std.specs.List.{flat_map}
use Rattle.std.specs.Option.{option_eq}
use Rattle.std.specs.Str.{bytes_eq}
use Rattle.std.proofs.lemmas.Bool.{false≢true}
use Rattle.aft_keeper.specs.declared.keeper.Pair.{Pair}
use Rattle.aft_records.specs.declared.stored.Commit.{Commit}
use Rattle.aft_records.specs.declared.stored.Marker.{Marker}
use Rattle.aft_records.specs.Commits.{has_uuid}
use Rattle.aft_records.specs.Reading.{commit_of, marker_of}
use Rattle.aft_model.specs.declared.door.DoorAct.{DoorAct}
use Rattle.aft_model.specs.declared.door.DoorEntry.{DoorEntry}
use Rattle.aft_model.specs.Committed.{committed_by, proven_pairs}
use Rattle.aft_model.specs.Honest.{Honest, may_be}
use Rattle.aft_model.specs.LegalDoor.{is_answered}
use Rattle.aft_model.specs.MayHold.{MayHold, OneOf, Unknown, may_hold}
use Rattle.aft_model.specs.Readings.{id_of_marker, marker_name, markers_in, record_name, records_in}
use Rattle.aft_model.proofs.Histories.{In, any_found, in_append, in_flat_map, in_flat_map_snoc, in_front}
use Rattle.aft_model.proofs.Lists.{filter_in, in_filter}
use Rattle.aft_model.proofs.Sights.{bytes_eq-refl, read-name, read-one, same_bytes}
use Rattle.law_effects.specs.Effects.{Effect, Leaves, Shows, Tries, Writes, after_effect, effect_of, proven_by}
use Rattle.law_effects.proofs.Follows.{follows, honest_sight}
use Rattle.law_effects.proofs.Pairs.{pair_proves}
use Rattle.law_kept.specs.Outcomes.{CommittedOf, MayBe, ProvenOf, markers_at, outcomes, records_at}

-- ---- effects on a name

-- an entry may have put an outcome there
abbrev pub NewBy : Effect → Option (List ℕ) → Type 0
NewBy effect outcome = (effect ≡ Writes outcome) ⊎ (effect ≡ Tries outcome)

abbrev pub NewAt : List ℕ → DoorAct → Option (List ℕ) → Type 0
NewAt name act outcome = NewBy (effect_of name act) outcome

-- a name of which something is known
abbrev pub Known : List ℕ → List DoorEntry → Type 0
Known name history = (outcome : Option (List ℕ)) × MayBe name history outcome

same_outcome : (a b : Option (List ℕ)) → IsTrue (option_eq bytes_eq a b) → a ≡ b
same_outcome None None same = refl
same_outcome None (Some y) same = absurd (false≢true same)
same_outcome (Some x) None same = absurd (false≢true same)
same_outcome (Some x) (Some y) same = ap (λ z. Some z) (same_bytes x y same)

-- what a name of which something is known may be is possible
pub possible : (may : MayHold) (known : (outcome : Option (List ℕ)) × In outcome (outcomes may)) (outcome : Option (List ℕ)) → IsTrue (may_be may outcome) → In outcome (outcomes may)
possible Unknown known outcome may = absurd known.1
possible (OneOf os) known outcome may = let found = any_found (option_eq bytes_eq outcome) os may in subst (λ o. In o os) (sym (same_outcome outcome found.0 found.2)) found.1

-- what is possible after an effect was possible before, or the effect may have put it there
after_fate : (effect : Effect) (may : MayHold) (known : (outcome : Option (List ℕ)) × In outcome (outcomes may)) → ((o : Option (List ℕ)) → effect ≡ Shows o → IsTrue (may_be may o))
    → (outcome : Option (List ℕ)) → In outcome (outcomes (after_effect effect may)) → In outcome (outcomes may) ⊎ NewBy effect outcome
after_fate Leaves may known honest outcome among = inl among
after_fate (Shows o) may known honest outcome (inl here) = inl (subst (λ p. In p (outcomes may)) (sym here) (possible may known o (honest o refl)))
after_fate (Shows o) may known honest outcome (inr nowhere) = absurd nowhere
after_fate (Writes o) may known honest outcome (inl here) = inr (inl (ap (λ p. Writes p) (sym here)))
after_fate (Writes o) may known honest outcome (inr nowhere) = absurd nowhere
after_fate (Tries o) Unknown known honest outcome among = absurd among
after_fate (Tries o) (OneOf os) known honest outcome among =
    elim (in_append outcome os (o ∷ []) among) [
      | inl before ↦ inl before
      | inr last ↦ elim last [ inl here ↦ inr (inr (ap (λ p. Tries p) (sym here))) | inr nowhere ↦ absurd nowhere ]
    ]

-- something is known after an effect, where it was before
after_known : (effect : Effect) (may : MayHold) → (outcome : Option (List ℕ)) × In outcome (outcomes may) → (outcome : Option (List ℕ)) × In outcome (outcomes (after_effect effect may))
after_known Leaves may known = known
after_known (Shows o) may known = (o, inl refl)
after_known (Writes o) may known = (o, inl refl)
after_known (Tries o) Unknown known = absurd known.1
after_known (Tries o) (OneOf os) known = (known.0, in_front known.0 os (o ∷ []) known.1)

-- an effect that leaves one outcome
abbrev pub Leaving : Effect → Option (List ℕ) → Type 0
Leaving effect outcome = (effect ≡ Shows outcome) ⊎ (effect ≡ Writes outcome)

after_leaving : (effect : Effect) (may : MayHold) (outcome : Option (List ℕ)) → Leaving effect outcome → after_effect effect may ≡ OneOf (outcome ∷ [])
after_leaving effect may outcome (inl is) = subst (λ e. after_effect e may ≡ OneOf (outcome ∷ [])) (sym is) refl
after_leaving effect may outcome (inr is) = subst (λ e. after_effect e may ≡ OneOf (outcome ∷ [])) (sym is) refl

proven_leaves : (effect : Effect) (bytes : List ℕ) → proven_by effect ≡ Some bytes → Leaving effect (Some bytes)
proven_leaves Leaves bytes is = absurd (cc)
proven_leaves (Shows o) bytes is = inl (ap (λ p. Shows p) is)
proven_leaves (Writes o) bytes is = inr (ap (λ p. Writes p) is)
proven_leaves (Tries o) bytes is = absurd (cc)

module _ (history : List DoorEntry) (entry : DoorEntry) where
  abbrev longer : List DoorEntry
  longer = history ++ entry ∷ []

  module _ (name : List ℕ) where
    pub known_after : Known name history → Known name longer
    known_after known = subst (λ may. (outcome : Option (List ℕ)) × In outcome (outcomes may)) (sym (follows name history entry)) (after_known (effect_of name entry.act) (may_hold name history) known)

    pub leaves_one : (outcome : Option (List ℕ)) → Leaving (effect_of name entry.act) outcome → may_hold name longer ≡ OneOf (outcome ∷ [])
    leaves_one outcome leaving = follows name history entry ∙ after_leaving (effect_of name entry.act) (may_hold name history) outcome leaving

    pub only_one : (outcome : Option (List ℕ)) → Leaving (effect_of name entry.act) outcome → (other : Option (List ℕ)) → MayBe name longer other → other ≡ outcome
    only_one outcome leaving other may =
        elim (subst (λ m. In other (outcomes m)) (leaves_one outcome leaving) may) [ inl here ↦ here | inr nowhere ↦ absurd nowhere ]

    pub left_there : (outcome : Option (List ℕ)) → Leaving (effect_of name entry.act) outcome → MayBe name longer outcome
    left_there outcome leaving = subst (λ m. In outcome (outcomes m)) (sym (leaves_one outcome leaving)) (inl refl)

    pub untouched : effect_of name entry.act ≡ Leaves → may_hold name longer ≡ may_hold name history
    untouched is = follows name history entry ∙ ap (λ e. after_effect e (may_hold name history)) is

    pub fate : Honest longer → Known name history → (outcome : Option (List ℕ)) → MayBe name longer outcome → MayBe name history outcome ⊎ NewAt name entry.act outcome
    fate honest known outcome may =
        after_fate (effect_of name entry.act) (may_hold name history) known (λ o is. honest_sight name o history [] entry honest is) outcome
        (subst (λ m. In outcome (outcomes m)) (follows name history entry) may)

    pub shown_before : Honest longer → Known name history → (outcome : Option (List ℕ)) → effect_of name entry.act ≡ Shows outcome → MayBe name history outcome
    shown_before honest known outcome is = possible (may_hold name history) known outcome (honest_sight name outcome history [] entry honest is)

-- ---- commits and markers

abbrev pub under : List ℕ → List ℕ → Pair
under name bytes = record { name = name; bytes = bytes }

-- what is read of a UUID is of it, and one
pub record_of_uuid : (uuid : List ℕ) (o : Option (List ℕ)) (c : Commit) → In c (records_at uuid o) → c.id.uuid ≡ uuid
record_of_uuid uuid None c among = absurd among
record_of_uuid uuid (Some bytes) c among = sym (same_bytes uuid c.id.uuid (in_filter (has_uuid uuid) c (records_in (under (record_name uuid) bytes)) among).1)

pub record_read : (uuid : List ℕ) (bytes : List ℕ) (c : Commit) → In c (records_at uuid (Some bytes)) → In c (records_in (under (record_name uuid) bytes))
record_read uuid bytes c among = (in_filter (has_uuid uuid) c (records_in (under (record_name uuid) bytes)) among).0

pub one_record : (uuid : List ℕ) (o : Option (List ℕ)) (c d : Commit) → In c (records_at uuid o) → In d (records_at uuid o) → c ≡ d
one_record uuid None c d a b = absurd a
one_record uuid (Some bytes) c d a b = read-one (record_name uuid) (λ (e : Commit). record_name e.id.uuid) (commit_of bytes) c d (record_read uuid bytes c a) (record_read uuid bytes d b)

abbrev pub is_marker_of : List ℕ → Marker → Bool
is_marker_of uuid m = bytes_eq uuid (id_of_marker m).uuid

pub marker_of_uuid : (uuid : List ℕ) (o : Option (List ℕ)) (m : Marker) → In m (markers_at uuid o) → (id_of_marker m).uuid ≡ uuid
marker_of_uuid uuid None m among = absurd among
marker_of_uuid uuid (Some bytes) m among = sym (same_bytes uuid (id_of_marker m).uuid (in_filter (is_marker_of uuid) m (markers_in (under (marker_name uuid) bytes)) among).1)

pub marker_read : (uuid : List ℕ) (bytes : List ℕ) (m : Marker) → In m (markers_at uuid (Some bytes)) → In m (markers_in (under (marker_name uuid) bytes))
marker_read uuid bytes m among = (in_filter (is_marker_of uuid) m (markers_in (under (marker_name uuid) bytes)) among).0

pub one_marker : (uuid : List ℕ) (o : Option (List ℕ)) (m n : Marker) → In m (markers_at uuid o) → In n (markers_at uuid o) → m ≡ n
one_marker uuid None m n a b = absurd a
one_marker uuid (Some bytes) m n a b =
    read-one (marker_name uuid) (λ (k : Marker). marker_name (id_of_marker k).uuid) (marker_of bytes) m n (marker_read uuid bytes m a) (marker_read uuid bytes n b)

-- a pair of a UUID's record, or marker, stands under its name
pub records_under : (uuid : List ℕ) (pair : Pair) (c : Commit) → In c (records_in pair) → c.id.uuid ≡ uuid → (pair.name ≡ record_name uuid) × In c (records_at uuid (Some pair.bytes))
records_under uuid pair c among of =
    let name : pair.name ≡ record_name uuid = read-name pair.name (λ (d : Commit). record_name d.id.uuid) (commit_of pair.bytes) c among ∙ ap record_name of in
    (name, filter_in (has_uuid uuid) c (records_in (under (record_name uuid) pair.bytes)) (subst (λ n. In c (records_in (under n pair.bytes))) name among) (subst (λ u. IsTrue (bytes_eq uuid u)) (sym of) (bytes_eq-refl uuid)))

pub markers_under : (uuid : List ℕ) (pair : Pair) (m : Marker) → In m (markers_in pair) → (id_of_marker m).uuid ≡ uuid → (pair.name ≡ marker_name uuid) × In m (markers_at uuid (Some pair.bytes))
markers_under uuid pair m among of =
    let name : pair.name ≡ marker_name uuid = read-name pair.name (λ (k : Marker). marker_name (id_of_marker k).uuid) (marker_of pair.bytes) m among ∙ ap marker_name of in
    (name, filter_in (is_marker_of uuid) m (markers_in (under (marker_name uuid) pair.bytes)) (subst (λ n. In m (markers_in (under n pair.bytes))) name among) (subst (λ u. IsTrue (bytes_eq uuid u)) (sym of) (bytes_eq-refl uuid)))

-- an entry proves something of a UUID by what it leaves under a name
pub record ProvenBy {A : Type 0} (name : List ℕ) (read : Option (List ℕ) → List A) (entry : DoorEntry) (x : A) : Type 0 where
  pub bytes : List ℕ
  pub leaves : Leaving (effect_of name entry.act) (Some bytes)
  pub among : In x (read (Some bytes))

pub committed_by_it : (uuid : List ℕ) (entry : DoorEntry) → IsTrue (is_answered entry.act) → (c : Commit) → In c (committed_by entry) → c.id.uuid ≡ uuid → ProvenBy (record_name uuid) (records_at uuid) entry c
committed_by_it uuid entry answered c among of =
    let pair = in_flat_map records_in c (proven_pairs entry) among in
    let at = records_under uuid pair.0 c pair.2 of in
    record {
      bytes = pair.0.bytes;
      leaves = proven_leaves (effect_of (record_name uuid) entry.act) pair.0.bytes (subst (λ n. proven_by (effect_of n entry.act) ≡ Some pair.0.bytes) at.0 (pair_proves entry.act answered pair.0 pair.1));
      among = at.1;
    }

abbrev pub markers_by : DoorEntry → List Marker
markers_by entry = flat_map markers_in (proven_pairs entry)

pub marked_by_it : (uuid : List ℕ) (entry : DoorEntry) → IsTrue (is_answered entry.act) → (m : Marker) → In m (markers_by entry) → (id_of_marker m).uuid ≡ uuid → ProvenBy (marker_name uuid) (markers_at uuid) entry m
marked_by_it uuid entry answered m among of =
    let pair = in_flat_map markers_in m (proven_pairs entry) among in
    let at = markers_under uuid pair.0 m pair.2 of in
    record {
      bytes = pair.0.bytes;
      leaves = proven_leaves (effect_of (marker_name uuid) entry.act) pair.0.bytes (subst (λ n. proven_by (effect_of n entry.act) ≡ Some pair.0.bytes) at.0 (pair_proves entry.act answered pair.0 pair.1));
      among = at.1;
    }

-- what is committed behind an entry was so before it, or the entry leaves its record
pub committed_fate : (uuid : List ℕ) (history : List DoorEntry) (entry : DoorEntry) → IsTrue (is_answered entry.act) → (c : Commit) → CommittedOf uuid (history ++ entry ∷ []) c
    → CommittedOf uuid history c ⊎ ProvenBy (record_name uuid) (records_at uuid) entry c
committed_fate uuid history entry answered c is =
    elim (in_flat_map_snoc (λ (e : DoorEntry). committed_by e) c history entry is.0) [
      | inl before ↦ inl (before, is.1)
      | inr new ↦ inr (committed_by_it uuid entry answered c new is.1)
    ]

pub proven_fate : (uuid : List ℕ) (history : List DoorEntry) (entry : DoorEntry) → IsTrue (is_answered entry.act) → (m : Marker) → ProvenOf uuid (history ++ entry ∷ []) m
    → ProvenOf uuid history m ⊎ ProvenBy (marker_name uuid) (markers_at uuid) entry m
proven_fate uuid history entry answered m is =
    elim (in_flat_map_snoc (λ (e : DoorEntry). markers_by e) m history entry is.0) [
      | inl before ↦ inl (before, is.1)
      | inr new ↦ inr (marked_by_it uuid entry answered m new is.1)
    ]
