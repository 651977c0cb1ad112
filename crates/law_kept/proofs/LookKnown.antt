-- What the rule on orphan versions asks the office to know, its look says: it has found no record of the id, and then no marker.
use Rattle.std.proofs.Common.{◌≡◌, ℕ, Bool, true, false, ◌&&◌, List, [], ◌∷◌, refl, sym, ap, subst, ◌∙◌, ◌⊎◌, inl, inr, drop, suc, arith, ◌+◌}
use Rattle.std.specs.Prelude.{IsTrue, IsFalse, Option, Some, None, if◌then◌else◌, is_some}
use Rattle.std.specs.List.{fold, list_any}
use Rattle.std.specs.Str.{bytes_eq}
use Rattle.std.proofs.lemmas.Bool.{and_parts, cases_Bool, or_cases, or_from, or_parts, false≢true, true≢false, false_from_ne_true}
use Rattle.aft_id.specs.declared.txn_id.TxnId.{TxnId}
use Rattle.aft_keeper.specs.declared.keeper.KeeperAnswer.TheVariants.{Absent, Found}
use Rattle.aft_keeper.specs.declared.keeper.KeeperCall.TheVariants.{Get}
use Rattle.aft_model.specs.declared.door.DoorAct.{DoorAct}
use Rattle.aft_model.specs.declared.door.DoorAct.TheVariants.{Call, Claim, Release}
use Rattle.aft_model.specs.declared.door.DoorEntry.{DoorEntry}
use Rattle.aft_model.specs.Claims.{claim_place, claimant, claimant_after, holder, holds, is_claim_of, is_held_by}
use Rattle.aft_model.specs.DoorKnowledge.{finds, finds_absent, finds_other, is_of_other, knows_orphan}
use Rattle.aft_model.specs.DoorRules.{is_looked_at, may_delete_orphan}
use Rattle.aft_model.specs.History.{followed, last_place, last_place_from}
use Rattle.aft_model.specs.Looks.{Found as Finding, FoundOther, IsClaimed, IsCleared, IsUnclaimed, Look, found_after, look, look_after, look_after_call, saw_no_marker, saw_no_record}
use Rattle.aft_model.specs.Membership.{Incarnation, incarnation, same_incarnation, the_office}
use Rattle.aft_model.specs.Readings.{marker_name, record_name}
use Rattle.aft_model.proofs.Sights.{same_bytes}
use Rattle.aft_model.proofs.Turns.{held_up}
use Rattle.law_names.proofs.Differ.{first_differs}

-- the name that an act gets
abbrev got_by : DoorAct → List (List ℕ)
got_by (Call node inc (Get got) answer) = got ∷ []
got_by act = []

got_absent : (name : List ℕ) (act : DoorAct) → IsTrue (finds_absent the_office name act) → got_by act ≡ name ∷ []
got_absent name (Call node inc (Get got) Absent) is = ap (λ n. n ∷ []) (sym (same_bytes name got (and_parts (same_incarnation the_office (incarnation node inc)) (bytes_eq name got) is).1))
got_absent name act is = absurd (false≢true is)

got_found : (id : TxnId) (name : List ℕ) (act : DoorAct) → IsTrue (finds the_office name (is_of_other id) act) → got_by act ≡ name ∷ []
got_found id name (Call node inc (Get got) (Found bytes)) is =
    let mine = (and_parts (same_incarnation the_office (incarnation node inc) && bytes_eq name got) (is_of_other id (record { name = got; bytes = bytes })) is).0 in
    ap (λ n. n ∷ []) (sym (same_bytes name got (and_parts (same_incarnation the_office (incarnation node inc)) (bytes_eq name got) mine).1))
got_found id name act is = absurd (false≢true is)

got_other : (id : TxnId) (name : List ℕ) (act : DoorAct) → IsTrue (finds_other id name act) → got_by act ≡ name ∷ []
got_other id name act is = elim (or_cases (finds_absent the_office name act) (finds the_office name (is_of_other id) act) is) [ inl absent ↦ got_absent name act absent | inr found ↦ got_found id name act found ]

module _ (id : TxnId) where
  abbrev of_record : DoorAct → Bool
  of_record act = finds_other id (record_name id.uuid) act

  abbrev of_marker : DoorAct → Bool
  of_marker act = finds_other id (marker_name id.uuid) act

  -- no act looks at both
  not_both : (act : DoorAct) → IsTrue (of_marker act) → of_record act ≡ false
  not_both act marker = false_from_ne_true (of_record act) (λ is. clash (sym (got_other id (record_name id.uuid) act is) ∙ got_other id (marker_name id.uuid) act marker))
    where
      clash : record_name id.uuid ∷ [] ≡ marker_name id.uuid ∷ [] → ⊥
      clash e = first_differs 99 114 _ _ refl (let same : record_name id.uuid ≡ marker_name id.uuid = cc in same)

  abbrev claims_it : DoorEntry → Bool
  claims_it entry = is_claim_of id.uuid entry.act

  -- an act that is no claim of the UUID goes by what it finds, or ends the claim
  moved : (held : Option Incarnation) (l : Look) (act : DoorAct) → IsFalse (is_claim_of id.uuid act) → (look_after id held l act ≡ look_after_call id l act) ⊎ (claimant_after id.uuid held act ≡ None)
  moved held l (Claim claimed node inc) other = inl (ap (λ t. if t then IsClaimed else l) other)
  moved held l (Release released node inc) other = elim (cases_Bool (bytes_eq id.uuid released && is_held_by (incarnation node inc) held)) [
    | inl it ↦ inr (ap (λ t. if t then None else held) it)
    | inr not_it ↦ inl (ap (λ t. if t then IsUnclaimed else l) not_it)
  ]
  moved held l (Call node inc asked answer) other = inl refl
  moved held l act other = inl refl

  abbrev nobody : Option Incarnation
  nobody = None

  claim_none : (act : DoorAct) → IsFalse (is_claim_of id.uuid act) → is_some (claimant_after id.uuid None act) ≡ false
  claim_none (Claim claimed node inc) other = ap (λ t. is_some (if t then Some (incarnation node inc) else None)) other
  claim_none (Release released node inc) other = cases (bytes_eq id.uuid released && is_held_by (incarnation node inc) None)
    where
      cases : (t : Bool) → is_some (if t then nobody else nobody) ≡ false
      cases true = refl
      cases false = refl
  claim_none act other = refl

  abbrev goes : Finding → List DoorEntry → Finding
  goes f entries = fold (λ (before : Finding) (e : DoorEntry). found_after id before e.act) f entries

  none_is : (held : Option Incarnation) → is_some held ≡ false → held ≡ None
  none_is None no_one = refl
  none_is (Some who) no_one = absurd (true≢false no_one)

  -- where nobody has the claim and nobody claims, nobody has it
  none_claimed : (f : Finding) (entries : List DoorEntry) → f.claimant ≡ None → IsFalse (list_any claims_it entries) → is_some (goes f entries).claimant ≡ false
  none_claimed f [] none no_claim = ap is_some none
  none_claimed f (entry ∷ entries) none no_claim =
      let parts = or_parts (claims_it entry) (list_any claims_it entries) no_claim in
      none_claimed (found_after id f entry.act) entries (none_is (claimant_after id.uuid f.claimant entry.act) (ap (λ h. is_some (claimant_after id.uuid h entry.act)) none ∙ claim_none entry.act parts.0)) parts.1

  abbrev Held : Finding → List DoorEntry → Type 0
  Held f entries = is_some (goes f entries).claimant ≡ true

  -- one entry of those behind the claim
  next : (f : Finding) (entry : DoorEntry) (entries : List DoorEntry) → IsFalse (list_any claims_it (entry ∷ entries)) → Held f (entry ∷ entries) → (found_after id f entry.act).look ≡ look_after_call id f.look entry.act
  next f entry entries no_claim held =
      let parts = or_parts (claims_it entry) (list_any claims_it entries) no_claim in
      elim (moved f.claimant f.look entry.act parts.0) [
        | inl is ↦ is
        | inr none ↦ absurd (true≢false (sym held ∙ none_claimed (found_after id f entry.act) entries none parts.1))
      ]

  later_claims : (entry : DoorEntry) (entries : List DoorEntry) → IsFalse (list_any claims_it (entry ∷ entries)) → IsFalse (list_any claims_it entries)
  later_claims entry entries no_claim = (or_parts (claims_it entry) (list_any claims_it entries) no_claim).1

  still_cleared : (act : DoorAct) → look_after_call id IsCleared act ≡ IsCleared
  still_cleared act = cases (of_record act) (of_marker act)
    where
      cases : (s t : Bool) → (if s then saw_no_record IsCleared else if t then saw_no_marker IsCleared else IsCleared) ≡ IsCleared
      cases true t = refl
      cases false true = refl
      cases false false = refl

  cleared_stays : (f : Finding) (entries : List DoorEntry) → f.look ≡ IsCleared → IsFalse (list_any claims_it entries) → Held f entries → (goes f entries).look ≡ IsCleared
  cleared_stays f [] is no_claim held = is
  cleared_stays f (entry ∷ entries) is no_claim held =
      cleared_stays (found_after id f entry.act) entries (next f entry entries no_claim held ∙ (ap (λ l. look_after_call id l entry.act) is ∙ still_cleared entry.act)) (later_claims entry entries no_claim) held

  -- what is found where the other id's record was found
  from_other : (act : DoorAct) → (look_after_call id FoundOther act ≡ FoundOther) ⊎ (look_after_call id FoundOther act ≡ IsCleared)
  from_other act = cases (of_record act) (of_marker act)
    where
      cases : (s t : Bool) → ((if s then saw_no_record FoundOther else if t then saw_no_marker FoundOther else FoundOther) ≡ FoundOther) ⊎ ((if s then saw_no_record FoundOther else if t then saw_no_marker FoundOther else FoundOther) ≡ IsCleared)
      cases true t = inl refl
      cases false true = inr refl
      cases false false = inl refl

  marker_cleared : (act : DoorAct) → IsTrue (of_marker act) → look_after_call id FoundOther act ≡ IsCleared
  marker_cleared act marker =
      ap (λ s. if s then saw_no_record FoundOther else if of_marker act then saw_no_marker FoundOther else FoundOther) (not_both act marker)
      ∙ ap (λ t. if t then saw_no_marker FoundOther else FoundOther) marker

  marker_found : (f : Finding) (entries : List DoorEntry) → f.look ≡ FoundOther → IsFalse (list_any claims_it entries) → Held f entries → IsTrue (list_any (λ (e : DoorEntry). of_marker e.act) entries) → (goes f entries).look ≡ IsCleared
  marker_found f [] is no_claim held found = absurd (false≢true found)
  marker_found f (entry ∷ entries) is no_claim held found =
      let after = next f entry entries no_claim held ∙ ap (λ l. look_after_call id l entry.act) is in
      let rest = later_claims entry entries no_claim in
      elim (or_cases (of_marker entry.act) (list_any (λ (e : DoorEntry). of_marker e.act) entries) found) [
        | inl here ↦ cleared_stays (found_after id f entry.act) entries (after ∙ marker_cleared entry.act here) rest held
        | inr later ↦ elim (from_other entry.act) [
          | inl same ↦ marker_found (found_after id f entry.act) entries (after ∙ same) rest held later
          | inr cleared ↦ cleared_stays (found_after id f entry.act) entries (after ∙ cleared) rest held
        ]
      ]

  -- what is found where the UUID was claimed
  data Stands (l : Look) : Type 0 where
    At_claim : l ≡ IsClaimed → Stands l
    At_other : l ≡ FoundOther → Stands l
    At_end : l ≡ IsCleared → Stands l

  from_claim : (act : DoorAct) → (look_after_call id IsClaimed act ≡ IsClaimed) ⊎ (look_after_call id IsClaimed act ≡ FoundOther)
  from_claim act = cases (of_record act) (of_marker act)
    where
      cases : (s t : Bool) → ((if s then saw_no_record IsClaimed else if t then saw_no_marker IsClaimed else IsClaimed) ≡ IsClaimed) ⊎ ((if s then saw_no_record IsClaimed else if t then saw_no_marker IsClaimed else IsClaimed) ≡ FoundOther)
      cases true t = inr refl
      cases false true = inl refl
      cases false false = inl refl

  stands_after : (l m : Look) (act : DoorAct) → m ≡ look_after_call id l act → Stands l → Stands m
  stands_after l m act is (At_claim at) = elim (from_claim act) [ inl same ↦ At_claim (is ∙ (ap (λ k. look_after_call id k act) at ∙ same)) | inr other ↦ At_other (is ∙ (ap (λ k. look_after_call id k act) at ∙ other)) ]
  stands_after l m act is (At_other at) = elim (from_other act) [ inl same ↦ At_other (is ∙ (ap (λ k. look_after_call id k act) at ∙ same)) | inr cleared ↦ At_end (is ∙ (ap (λ k. look_after_call id k act) at ∙ cleared)) ]
  stands_after l m act is (At_end at) = At_end (is ∙ (ap (λ k. look_after_call id k act) at ∙ still_cleared act))

  -- behind a get of the record
  record_seen : (l m : Look) (act : DoorAct) → m ≡ look_after_call id l act → IsTrue (of_record act) → Stands l → (m ≡ FoundOther) ⊎ (m ≡ IsCleared)
  record_seen l m act is found (At_claim at) = inl (is ∙ (ap (λ k. look_after_call id k act) at ∙ ap (λ s. if s then saw_no_record IsClaimed else if of_marker act then saw_no_marker IsClaimed else IsClaimed) found))
  record_seen l m act is found (At_other at) = inl (is ∙ (ap (λ k. look_after_call id k act) at ∙ ap (λ s. if s then saw_no_record FoundOther else if of_marker act then saw_no_marker FoundOther else FoundOther) found))
  record_seen l m act is found (At_end at) = inr (is ∙ (ap (λ k. look_after_call id k act) at ∙ still_cleared act))

  both_found : (f : Finding) (entries : List DoorEntry) → Stands f.look → IsFalse (list_any claims_it entries) → Held f entries
      → IsTrue (followed (λ (e : DoorEntry). of_record e.act) (list_any (λ (e : DoorEntry). of_marker e.act)) entries) → (goes f entries).look ≡ IsCleared
  both_found f [] stands no_claim held found = absurd (false≢true found)
  both_found f (entry ∷ entries) stands no_claim held found =
      let after = next f entry entries no_claim held in
      let rest = later_claims entry entries no_claim in
      elim (or_cases (of_record entry.act && list_any (λ (e : DoorEntry). of_marker e.act) entries) (followed (λ (e : DoorEntry). of_record e.act) (list_any (λ (e : DoorEntry). of_marker e.act)) entries) found) [
        | inl here ↦ (let parts = and_parts (of_record entry.act) (list_any (λ (e : DoorEntry). of_marker e.act) entries) here in
            elim (record_seen f.look (found_after id f entry.act).look entry.act after parts.0 stands) [
              | inl other ↦ marker_found (found_after id f entry.act) entries other rest held parts.1
              | inr cleared ↦ cleared_stays (found_after id f entry.act) entries cleared rest held
            ])
        | inr later ↦ both_found (found_after id f entry.act) entries (stands_after f.look (found_after id f entry.act).look entry.act after stands) rest held later
      ]

  -- a claim of the UUID begins anew
  claim_begins : (f : Finding) (act : DoorAct) → IsTrue (is_claim_of id.uuid act) → (found_after id f act).look ≡ IsClaimed
  claim_begins f (Claim claimed node inc) it = ap (λ t. if t then IsClaimed else f.look) it
  claim_begins f act it = absurd (false≢true it)

  abbrev Behind : Finding → List DoorEntry → ℕ → Type 0
  Behind f entries k = IsTrue (followed (λ (e : DoorEntry). of_record e.act) (list_any (λ (e : DoorEntry). of_marker e.act)) (drop (suc k) entries)) → Held f entries → (goes f entries).look ≡ IsCleared

  some_is : (a b : ℕ) → Some a ≡ Some b → a ≡ b
  some_is a b e = cc

  from_place : (n : ℕ) (known : Option ℕ) (entries : List DoorEntry) (f : Finding) (p : ℕ) → last_place_from claims_it n known entries ≡ Some p
      → ((known ≡ Some p) × IsFalse (list_any claims_it entries)) ⊎ ((k : ℕ) × (p ≡ n + k) × Behind f entries k)
  from_place n known [] f p e = inl (e, refl)
  from_place n known (entry ∷ entries) f p e = cases (claims_it entry) refl (λ other. from_place (suc n) other entries (found_after id f entry.act) p) e
    where
      Rest : Option ℕ → Type 0
      Rest other = last_place_from claims_it (suc n) other entries ≡ Some p → ((other ≡ Some p) × IsFalse (list_any claims_it entries)) ⊎ ((k : ℕ) × (p ≡ suc n + k) × Behind (found_after id f entry.act) entries k)

      cases : (t : Bool) → claims_it entry ≡ t → ((other : Option ℕ) → Rest other) → last_place_from claims_it (suc n) (if t then Some n else known) entries ≡ Some p
          → ((known ≡ Some p) × IsFalse (list_any claims_it (entry ∷ entries))) ⊎ ((k : ℕ) × (p ≡ n + k) × Behind f (entry ∷ entries) k)
      cases true it rest e = elim (rest (Some n) e) [
        | inl here ↦ (let same : n ≡ p = some_is n p here.0 in
            inr (0, omega (arith, same), λ found held. both_found (found_after id f entry.act) entries (At_claim (claim_begins f entry.act it)) here.1 held found))
        | inr later ↦ (let k = later.0 in let at = later.1 in inr (suc k, omega (arith, at), later.2))
      ]
      cases false other rest e = elim (rest known e) [
        | inl before ↦ inl (before.0, or_from (claims_it entry) (list_any claims_it entries) other before.1)
        | inr later ↦ (let k = later.0 in let at = later.1 in inr (suc k, omega (arith, at), later.2))
      ]

  same_claimant : (f : Finding) (entries : List DoorEntry) → (goes f entries).claimant ≡ fold (λ (h : Option Incarnation) (e : DoorEntry). claimant_after id.uuid h e.act) f.claimant entries
  same_claimant f [] = refl
  same_claimant f (entry ∷ entries) = same_claimant (found_after id f entry.act) entries

  held_some : (held : Option Incarnation) → IsTrue (is_held_by the_office held) → is_some held ≡ true
  held_some None held = absurd (false≢true held)
  held_some (Some who) held = refl

  if_held : (t : Bool) (o : Option ℕ) (p : ℕ) → (if t then o else None) ≡ Some p → o ≡ Some p
  if_held true o p e = e
  if_held false o p e = absurd (cc)

  pub look_is_knowledge : (history : List DoorEntry) → IsTrue (may_delete_orphan history id) → look id history ≡ IsCleared
  look_is_knowledge history may =
      let parts = and_parts (holds the_office id.uuid history) (is_looked_at id history (claim_place id.uuid history)) may in
      at_place_of (claim_place id.uuid history) refl parts.1 (held_some (claimant id.uuid history) (held_up the_office history (claimant id.uuid history) parts.0).0)
    where
      at_place_of : (o : Option ℕ) → claim_place id.uuid history ≡ o → IsTrue (is_looked_at id history o) → is_some (claimant id.uuid history) ≡ true → look id history ≡ IsCleared
      at_place_of None is looked held = absurd (false≢true looked)
      at_place_of (Some p) is looked held =
          elim (from_place 0 None history (record { look = IsUnclaimed; claimant = None }) p (if_held (is_some (holder id.uuid history)) (last_place claims_it history) p is)) [
            | inl before ↦ (let no = before.0 in absurd (cc))
            | inr found ↦ (let k = found.0 in let at = found.1 in let same : p ≡ k = omega (arith, at) in
                found.2 (subst (λ n. IsTrue (knows_orphan id n history)) same looked) (ap is_some (same_claimant (record { look = IsUnclaimed; claimant = None }) history) ∙ held))
          ]
