-- What an entry changes, and the map with it.
use Rattle.std.proofs.Common.{◌≡◌, ℕ, suc, zero, ◌<◌, length, Bool, true, false, cond, not, ◌&&◌, List, [], ◌∷◌, ◌++◌, refl, sym, ap, subst, ◌∙◌, ◌⊎◌, inl, inr, eqb, arith, append-nil}
use Rattle.std.specs.Prelude.{IsTrue, IsFalse, Option, Some, None, ◌==◌, All, filter, is_some, if◌then◌else◌}
use Rattle.std.specs.Cmp.Lexicographic.{bytes_decides, nat_list_eq_equiv}
use Rattle.std.specs.List.{list_all, list_any, flat_map}
use Rattle.std.specs.Map.{lookup}
use Rattle.std.specs.Str.{bytes_eq}
use Rattle.std.proofs.lemmas.Bool.{and_from, and_parts, eq-eqb, eqb-true, false_from_ne_true, false≢true, lt-ltb, ltb-true, not-true, or_cases, or_left, or_right, true≢false}
use Rattle.std.proofs.lemmas.List.Concat.{flat_map-append}
use Rattle.std.proofs.lemmas.List.Sums.{fold-append}
use Rattle.aft_id.specs.TxnId.{IsUuid, same_id}
use Rattle.aft_id.specs.declared.txn_id.TxnId.{TxnId}
use Rattle.aft_records.specs.declared.name.Name.TheVariants.{CommitOf, RetiredOf}
use Rattle.aft_records.proofs.NameWritten.{names_apart}
use Rattle.aft_model.specs.declared.door.DoorEntry.{DoorEntry}
use Rattle.aft_model.specs.Bytes.{is_byte, is_uuid}
use Rattle.aft_model.specs.Claims.{claimant, holds, if_up, is_held_by}
use Rattle.aft_model.specs.DoorKnowledge.{is_open}
use Rattle.aft_model.specs.History.{first_of}
use Rattle.aft_model.specs.LegalDoor.{is_answered, may_come, may_follow}
use Rattle.aft_model.specs.Membership.{Incarnation, inc_at, incarnation, is_up, same_incarnation}
use Rattle.aft_model.specs.Opening.{may_open}
use Rattle.aft_model.specs.Readings.{marker_name, record_name}
use Rattle.aft_model.proofs.OneCommit.{same_who, same_itself}
use Rattle.aft_door.specs.declared.index.Claimed.{Claimed}
use Rattle.aft_door.specs.declared.index.GivenUp.{GivenUp}
use Rattle.aft_door.specs.Index.{claimant_in, greater, greatest, same_given, up_in}
use Rattle.aft_door.proofs.Kept.{OneIn, UpsIn}

-- ---- tests

pub same_truth : (a b : Bool) → (IsTrue a → IsTrue b) → (IsTrue b → IsTrue a) → a ≡ b
same_truth true true f g = refl
same_truth true false f g = absurd (false≢true (f refl))
same_truth false true f g = absurd (false≢true (g refl))
same_truth false false f g = refl

pub eqb-symm : (a b : ℕ) → eqb a b ≡ eqb b a
eqb-symm a b = same_truth _ _ (λ h. eq-eqb b a (sym (eqb-true a b h))) (λ h. eq-eqb a b (sym (eqb-true b a h)))

pub bytes_symm : (a b : List ℕ) → bytes_eq a b ≡ bytes_eq b a
bytes_symm a b = nat_list_eq_equiv.symm a b

-- ---- names

-- names of one UUID alone are the same
pub records_apart : (u v : List ℕ) → IsUuid u → IsUuid v → bytes_eq (record_name u) (record_name v) ≡ bytes_eq v u
records_apart u v iu iv = same_truth _ _
    (λ h. (bytes_decides v u).1 (let same = names_apart (CommitOf u) (CommitOf v) [] [] iu iv (append-nil (record_name u) ∙ (bytes_decides (record_name u) (record_name v)).0 h ∙ sym (append-nil (record_name v))) in cc))
    (λ h. (bytes_decides (record_name u) (record_name v)).1 (ap record_name (sym ((bytes_decides v u).0 h))))

pub markers_apart : (u v : List ℕ) → IsUuid u → IsUuid v → bytes_eq (marker_name u) (marker_name v) ≡ bytes_eq v u
markers_apart u v iu iv = same_truth _ _
    (λ h. (bytes_decides v u).1 (let same = names_apart (RetiredOf u) (RetiredOf v) [] [] iu iv (append-nil (marker_name u) ∙ (bytes_decides (marker_name u) (marker_name v)).0 h ∙ sym (append-nil (marker_name v))) in cc))
    (λ h. (bytes_decides (marker_name u) (marker_name v)).1 (ap marker_name (sym ((bytes_decides v u).0 h))))

-- bytes are so by the test
pub bytes_pass : (bytes : List ℕ) → All (λ b. b < 256) bytes → IsTrue (list_all is_byte bytes)
bytes_pass [] each = refl
bytes_pass (b ∷ bytes) each = and_from _ _ (lt-ltb b 256 (each 0 0 (omega arith))) (bytes_pass bytes (λ k d lt. each (suc k) d (omega arith)))

-- the bytes of a UUID are so by the test
pub uuid_passes : (uuid : List ℕ) → IsUuid uuid → IsTrue (is_uuid uuid)
uuid_passes uuid is = and_from _ _ (eq-eqb (length uuid) 16 is.0) (bytes_pass uuid is.1)

bytes_from : (bytes : List ℕ) → IsTrue (list_all is_byte bytes) → All (λ b. b < 256) bytes
bytes_from [] each k d lt = absurd (omega arith)
bytes_from (b ∷ bytes) each zero d lt = ltb-true b 256 (and_parts (is_byte b) (list_all is_byte bytes) each).0
bytes_from (b ∷ bytes) each (suc k) d lt = bytes_from bytes (and_parts (is_byte b) (list_all is_byte bytes) each).1 k d (omega arith)

uuid_from : (uuid : List ℕ) → IsTrue (is_uuid uuid) → IsUuid uuid
uuid_from uuid is = let parts = and_parts (length uuid == 16) (list_all is_byte uuid) is in (eqb-true (length uuid) 16 parts.0, bytes_from uuid parts.1)

pub all_uuids : (ids : List TxnId) → IsTrue (list_all (λ id. is_uuid id.uuid) ids) → All (λ (id : TxnId). IsUuid id.uuid) ids
all_uuids [] each k d lt = absurd (omega arith)
all_uuids (id ∷ ids) each zero d lt = uuid_from id.uuid (and_parts (is_uuid id.uuid) (list_all (λ (i : TxnId). is_uuid i.uuid) ids) each).0
all_uuids (id ∷ ids) each (suc k) d lt = all_uuids ids (and_parts (is_uuid id.uuid) (list_all (λ (i : TxnId). is_uuid i.uuid) ids) each).1 k d (omega arith)

-- ---- rules

-- what may not come at the opening comes by its rule at the open door
pub open_rule : (history : List DoorEntry) (e : DoorEntry) → IsFalse (may_open history e) → IsTrue (may_follow history e) → IsTrue (may_come history e.act)
open_rule history e closed legal = cases (is_open history) ((and_parts (is_answered e.act) _ legal).1)
  where
    cases : (t : Bool) → IsTrue (if t then may_come history e.act else may_open history e) → IsTrue (may_come history e.act)
    cases true comes = comes
    cases false opens = absurd (true≢false (sym opens ∙ closed))

pub and_false : (t : Bool) → IsFalse (t && false)
and_false true = refl
and_false false = refl

-- ---- who is up

-- an element that is one of a list's
none_of : (node : ℕ) (xs : List Incarnation) → IsTrue (list_all (λ (other : Incarnation). not (other.node == node)) xs) → (who : Incarnation) → IsTrue (list_any (same_incarnation who) xs) → who.node ≡ node → ⊥
none_of node [] none who among is = absurd (false≢true among)
none_of node (x ∷ xs) none who among is =
    let parts = and_parts (not (x.node == node)) (list_all (λ (other : Incarnation). not (other.node == node)) xs) none in
    elim (or_cases (same_incarnation who x) (list_any (same_incarnation who) xs) among) [
      | inl here ↦ true≢false (sym (eq-eqb x.node node (sym (ap (λ (w : Incarnation). w.node) (same_who who x here)) ∙ is)) ∙ not-true (x.node == node) parts.0)
      | inr later ↦ none_of node xs parts.1 who later is
    ]

pub one_with : (node inc : ℕ) (xs : List Incarnation) → IsTrue (list_all (λ (other : Incarnation). not (other.node == node)) xs) → OneIn xs → OneIn (incarnation node inc ∷ xs)
one_with node inc xs none one who among = cases (eqb node who.node) refl (or_cases (same_incarnation who (incarnation node inc)) (list_any (same_incarnation who) xs) among)
  where
    cases : (t : Bool) → eqb node who.node ≡ t → IsTrue (same_incarnation who (incarnation node inc)) ⊎ IsTrue (list_any (same_incarnation who) xs)
        → first_of ((if t then inc ∷ [] else []) ++ flat_map (inc_at who.node) xs) ≡ Some who.inc
    cases true at (inl here) = ap (λ (w : Incarnation). Some w.inc) (sym (same_who who (incarnation node inc) here))
    cases true at (inr later) = absurd (none_of node xs none who later (sym (eqb-true node who.node at)))
    cases false at (inl here) = absurd (true≢false (sym (eq-eqb node who.node (sym (ap (λ (w : Incarnation). w.node) (same_who who (incarnation node inc) here)))) ∙ at))
    cases false at (inr later) = one who later

pub ups_with : (node inc : ℕ) (xs : List Incarnation) (nodes more : List (ℕ × ℕ)) → ((q : ℕ) → lookup (λ key. q == key) more ≡ cond (eqb node q) (Some inc) (lookup (λ key. q == key) nodes))
    → UpsIn nodes xs → UpsIn more (incarnation node inc ∷ xs)
ups_with node inc xs nodes more updates agree q = ap (up_in q) (updates q) ∙ cases (eqb node q)
  where
    cases : (t : Bool) → up_in q (cond t (Some inc) (lookup (λ key. q == key) nodes)) ≡ first_of ((if t then inc ∷ [] else []) ++ flat_map (inc_at q) xs)
    cases true = refl
    cases false = agree q

-- the incarnations of a list less one
abbrev pub less : Incarnation → List Incarnation → List Incarnation
less who xs = filter (λ other. not (same_incarnation who other)) xs

less_others : (who : Incarnation) (node : ℕ) (xs : List Incarnation) → eqb who.node node ≡ false → flat_map (inc_at node) (less who xs) ≡ flat_map (inc_at node) xs
less_others who node [] other = refl
less_others who node (x ∷ xs) other = cases (same_incarnation who x) refl (less_others who node xs other)
  where
    cases : (t : Bool) → same_incarnation who x ≡ t → flat_map (inc_at node) (less who xs) ≡ flat_map (inc_at node) xs
        → flat_map (inc_at node) (if not t then x ∷ less who xs else less who xs) ≡ inc_at node x ++ flat_map (inc_at node) xs
    cases true same rest =
        rest ∙ sym (ap (λ t. (if t then x.inc ∷ [] else []) ++ flat_map (inc_at node) xs) (sym (ap (λ (w : Incarnation). eqb w.node node) (same_who who x same)) ∙ other))
    cases false apart rest = ap (λ ys. inc_at node x ++ ys) rest

-- where no other one of its node is there, none is left of it
less_own : (who : Incarnation) (xs : List Incarnation) → ((other : Incarnation) → IsTrue (list_any (same_incarnation other) xs) → other.node ≡ who.node → other.inc ≡ who.inc)
    → flat_map (inc_at who.node) (less who xs) ≡ []
less_own who [] alone = refl
less_own who (x ∷ xs) alone = cases (same_incarnation who x) refl (eqb x.node who.node) refl (less_own who xs (λ other among. alone other (or_right _ _ among)))
  where
    cases : (t : Bool) → same_incarnation who x ≡ t → (u : Bool) → eqb x.node who.node ≡ u → flat_map (inc_at who.node) (less who xs) ≡ []
        → flat_map (inc_at who.node) (if not t then x ∷ less who xs else less who xs) ≡ []
    cases true same u at rest = rest
    cases false apart true at rest =
        let node = eqb-true x.node who.node at in
        absurd (true≢false (sym (and_from _ _ (eq-eqb who.node x.node (sym node)) (eq-eqb who.inc x.inc (sym (alone x (or_left _ _ (same_itself x)) node)))) ∙ apart))
    cases false apart false at rest = ap (λ t. (if t then x.inc ∷ [] else []) ++ flat_map (inc_at who.node) (less who xs)) at ∙ rest

-- who is left was there, and is another
pub left_of : (who other : Incarnation) (xs : List Incarnation) → IsTrue (list_any (same_incarnation other) (less who xs)) → IsTrue (list_any (same_incarnation other) xs) × (other ≡ who → ⊥)
left_of who other [] among = absurd (false≢true among)
left_of who other (x ∷ xs) among = cases (same_incarnation who x) refl (left_of who other xs) among
  where
    Left : Type 0
    Left = IsTrue (list_any (same_incarnation other) (x ∷ xs)) × (other ≡ who → ⊥)

    cases : (t : Bool) → same_incarnation who x ≡ t → (IsTrue (list_any (same_incarnation other) (less who xs)) → IsTrue (list_any (same_incarnation other) xs) × (other ≡ who → ⊥))
        → IsTrue (list_any (same_incarnation other) (if not t then x ∷ less who xs else less who xs)) → Left
    cases true same rest among = let found = rest among in (or_right _ _ found.0, found.1)
    cases false apart rest among = elim (or_cases (same_incarnation other x) (list_any (same_incarnation other) (less who xs)) among) [
      | inl here ↦ (or_left _ _ here, λ is. true≢false (sym (subst (λ (w : Incarnation). IsTrue (same_incarnation w x)) is here) ∙ apart))
      | inr later ↦ (let found = rest later in (or_right _ _ found.0, found.1))
    ]

module _ (who : Incarnation) (xs : List Incarnation) (one : OneIn xs) (up : IsTrue (list_any (same_incarnation who) xs)) where
  pub alone : (other : Incarnation) → IsTrue (list_any (same_incarnation other) xs) → other.node ≡ who.node → other.inc ≡ who.inc
  alone other among at = let e : Some other.inc ≡ Some who.inc = sym (one other among) ∙ ap (λ n. first_of (flat_map (inc_at n) xs)) at ∙ one who up in cc

  pub one_without : OneIn (less who xs)
  one_without other among =
      let found = left_of who other xs among in
      let apart : eqb who.node other.node ≡ false = false_from_ne_true _ (λ h.
      let node : other.node ≡ who.node = sym (eqb-true who.node other.node h) in
      let inc = alone other found.0 node in
      found.1 (ap (λ n. incarnation n other.inc) node ∙ ap (λ i. incarnation who.node i) inc)) in
      ap first_of (less_others who other.node xs apart) ∙ one other found.0

  pub ups_without : (nodes less_nodes : List (ℕ × ℕ)) → IsFalse (who.node == 0) → ((q : ℕ) → lookup (λ key. q == key) less_nodes ≡ cond (eqb who.node q) None (lookup (λ key. q == key) nodes))
      → UpsIn nodes xs → UpsIn less_nodes (less who xs)
  ups_without nodes less_nodes node updates agree q = ap (up_in q) (updates q) ∙ cases (eqb who.node q) refl
    where
      cases : (t : Bool) → eqb who.node q ≡ t → up_in q (cond t None (lookup (λ key. q == key) nodes)) ≡ first_of (flat_map (inc_at q) (less who xs))
      cases true at =
          let is = eqb-true who.node q at in
          ap (λ t. if t then Some 1 else None) (ap (λ n. n == 0) (sym is) ∙ node) ∙ sym (ap (λ n. first_of (flat_map (inc_at n) (less who xs))) (sym is) ∙ ap first_of (less_own who xs alone))
      cases false at = agree q ∙ ap first_of (sym (less_others who q xs at))

  -- who is up is in the map
  pub up_found : (nodes : List (ℕ × ℕ)) → IsFalse (who.node == 0) → UpsIn nodes xs → IsTrue (is_some (lookup (λ key. who.node == key) nodes))
  up_found nodes node agree = cases (lookup (λ key. who.node == key) nodes) (agree who.node ∙ one who up)
    where
      cases : (o : Option ℕ) → up_in who.node o ≡ Some who.inc → IsTrue (is_some o)
      cases None e = let no_inc : None ≡ Some who.inc = sym (ap (λ t. if t then Some 1 else None) node) ∙ e in absurd (cc)
      cases (Some inc) e = refl

-- ---- who was fenced

fenced_incs : (node q : ℕ) (inc : ℕ) (xs : List Incarnation) → flat_map (inc_at q) (xs ++ incarnation node inc ∷ []) ≡ flat_map (inc_at q) xs ++ (if eqb node q then inc ∷ [] else [])
fenced_incs node q inc xs =
    flat_map-append (inc_at q) xs (incarnation node inc ∷ []) ∙ ap (λ ys. flat_map (inc_at q) xs ++ ys) (append-nil (if eqb node q then inc ∷ [] else []))

pub fenced_with : (node inc : ℕ) (xs : List Incarnation) (nodes more : List (ℕ × ℕ)) (most : ℕ) → greater (lookup (λ key. node == key) nodes) inc ≡ Some most
    → ((q : ℕ) → lookup (λ key. q == key) more ≡ cond (eqb node q) (Some most) (lookup (λ key. q == key) nodes))
    → ((q : ℕ) → lookup (λ key. q == key) nodes ≡ greatest (flat_map (inc_at q) xs)) → (q : ℕ) → lookup (λ key. q == key) more ≡ greatest (flat_map (inc_at q) (xs ++ incarnation node inc ∷ []))
fenced_with node inc xs nodes more most is updates agree q = updates q ∙ cases (eqb node q) refl ∙ sym (ap greatest (fenced_incs node q inc xs))
  where
    cases : (t : Bool) → eqb node q ≡ t → cond t (Some most) (lookup (λ key. q == key) nodes) ≡ greatest (flat_map (inc_at q) xs ++ (if t then inc ∷ [] else []))
    cases true at =
        sym is ∙ ap (λ n. greater (lookup (λ key. n == key) nodes) inc) (eqb-true node q at) ∙ ap (λ o. greater o inc) (agree q)
        ∙ sym (fold-append greater None (flat_map (inc_at q) xs) (inc ∷ []))
    cases false at = agree q ∙ sym (ap greatest (append-nil (flat_map (inc_at q) xs)))

-- ---- claims

-- whoever holds has the claim that stands
pub holds_claim : (who : Incarnation) (uuid : List ℕ) (history : List DoorEntry) → IsTrue (holds who uuid history) → IsTrue (is_held_by who (claimant uuid history))
holds_claim who uuid history held = by (claimant uuid history) held
  where
    by : (o : Option Incarnation) → IsTrue (is_held_by who (if_up history o)) → IsTrue (is_held_by who o)
    by None held = absurd (false≢true held)
    by (Some other) held = cases (is_up other history) held
      where
        cases : (t : Bool) → IsTrue (is_held_by who (if t then Some other else None)) → IsTrue (same_incarnation who other)
        cases true held = held
        cases false held = absurd (false≢true held)

pub claim_found : (o : Option Claimed) (who : Incarnation) (claimed : Option Incarnation) → claimant_in o ≡ claimed → IsTrue (is_held_by who claimed) → IsTrue (is_some o)
claim_found None who claimed e held = absurd (false≢true (subst (λ c. IsTrue (is_held_by who c)) (sym e) held))
claim_found (Some c) who claimed e held = refl

-- ---- give-ups

pub given_symm : (a b : GivenUp) → same_given a b ≡ same_given b a
given_symm a b =
    ap (λ t. t && (a.inc == b.inc && same_id a.id b.id)) (eqb-symm a.node b.node) ∙ ap (λ t. b.node == a.node && (t && same_id a.id b.id)) (eqb-symm a.inc b.inc)
    ∙ ap (λ t. b.node == a.node && (b.inc == a.inc && (t && bytes_eq a.id.uuid b.id.uuid))) (eqb-symm a.id.time b.id.time)
    ∙ ap (λ t. b.node == a.node && (b.inc == a.inc && (b.id.time == a.id.time && t))) (bytes_symm a.id.uuid b.id.uuid)

pub and_nested : (a b c : Bool) → (a && (b && c)) ≡ (a && b && c)
and_nested true b c = refl
and_nested false b c = refl
