-- What single acts of the opening write, put and show.
use Rattle.std.proofs.Common.{◌≡◌, ℕ, Bool, true, false, ◌&&◌, ◌==◌, List, [], ◌∷◌, ◌++◌, refl, sym, ap, subst, ◌∙◌, ◌⊎◌, inl, inr, length, suc, arith}
use Rattle.std.specs.Prelude.{IsTrue, IsFalse, Option, Some, None, if◌then◌else◌}
use Rattle.std.specs.List.{fold, list_all}
use Rattle.std.specs.Str.{bytes_eq}
use Rattle.std.proofs.lemmas.Bool.{and_parts, eqb-true, false≢true, true≢false}
use Rattle.aft_keeper.specs.declared.keeper.Pair.{Pair}
use Rattle.aft_keeper.specs.declared.keeper.KeeperAnswer.TheVariants.{Done, Found, Page}
use Rattle.aft_keeper.specs.declared.keeper.KeeperCall.TheVariants.{Delete, Get, Put, Scan}
use Rattle.aft_keeper.specs.Contents.{bytes_at}
use Rattle.aft_records.specs.declared.stored.Marker.{Marker}
use Rattle.aft_model.specs.declared.door.DoorAct.{DoorAct}
use Rattle.aft_model.specs.declared.door.DoorAct.TheVariants.{Call, Claim, Release}
use Rattle.aft_model.specs.declared.door.DoorEntry.{DoorEntry}
use Rattle.aft_model.specs.Bytes.{acts_bytes, are_bytes, is_byte_pair}
use Rattle.aft_model.specs.Claims.{claimant_after, tries_delete}
use Rattle.aft_model.specs.DoorKnowledge.{deletes}
use Rattle.aft_model.specs.Evidence.{covers, pairs_in, shown_on_page, stored_in}
use Rattle.aft_model.specs.History.{each_after}
use Rattle.aft_model.specs.LegalDoor.{is_answered, may_follow}
use Rattle.aft_model.specs.Membership.{Incarnation, incarnation, same_incarnation}
use Rattle.aft_model.specs.ScanRun.{ScanPage, page_in, page_limit}
use Rattle.aft_model.proofs.Histories.{In, all_at}
use Rattle.aft_model.proofs.Sights.{same_bytes}
use Rattle.law_effects.specs.Effects.{Effect, Leaves, Shows, Tries, Writes, effect_of, proven_by, sight_effect}
use Rattle.law_kept.specs.Kept.{is_sight, is_write}
use Rattle.law_kept.specs.Tried.{markers_put}

-- ---- lists

pub none_of_none : {A : Type 0} (xs : List A) → IsTrue (length xs == 0) → (x : A) → In x xs → ⊥
none_of_none [] none x among = among
none_of_none (y ∷ ys) none x among = let e : suc (length ys) ≡ 0 = eqb-true (suc (length ys)) 0 none in absurd (omega arith)

pub some_of_some : {A : Type 0} (xs : List A) → IsFalse (length xs == 0) → (x : A) × In x xs
some_of_some [] some = absurd (true≢false some)
some_of_some (x ∷ xs) some = (x, inl refl)

-- ---- acts that write nothing

pub sight_quiet : (act : DoorAct) → IsTrue (is_sight act) → IsFalse (is_write act)
sight_quiet (Call node inc (Put name bytes) answer) is = absurd (false≢true is)
sight_quiet (Call node inc (Delete name) answer) is = absurd (false≢true is)
sight_quiet act is = refl

pub quiet_stored : (act : DoorAct) → IsFalse (is_write act) → (pair : Pair) → In pair (stored_in act) → ⊥
quiet_stored (Call node inc (Put name bytes) Done) quiet pair among = true≢false quiet
quiet_stored act quiet pair among = among

pub quiet_markers : (act : DoorAct) → IsFalse (is_write act) → (m : Marker) → In m (markers_put act) → ⊥
quiet_markers (Call node inc (Put name bytes) answer) quiet m among = true≢false quiet
quiet_markers act quiet m among = among

pub quiet_tries : (name : List ℕ) (act : DoorAct) → IsFalse (is_write act) → IsFalse (tries_delete name act)
quiet_tries name (Call node inc (Delete deleted) answer) quiet = absurd (true≢false quiet)
quiet_tries name act quiet = refl

pub quiet_deletes : (name : List ℕ) (act : DoorAct) → IsFalse (is_write act) → IsFalse (deletes name act)
quiet_deletes name (Call node inc (Delete deleted) Done) quiet = absurd (true≢false quiet)
quiet_deletes name act quiet = refl

pub sight_claims : (uuid : List ℕ) (held : Option Incarnation) (act : DoorAct) → IsTrue (is_sight act) → claimant_after uuid held act ≡ held
sight_claims uuid held (Claim claimed node inc) is = absurd (false≢true is)
sight_claims uuid held (Release released node inc) is = absurd (false≢true is)
sight_claims uuid held act is = refl

pub claimed_by_none : (uuid : List ℕ) (held : Option Incarnation) (history : List DoorEntry) → ((e : DoorEntry) → In e history → claimant_after uuid held e.act ≡ held)
    → fold (λ (h : Option Incarnation) (e : DoorEntry). claimant_after uuid h e.act) held history ≡ held
claimed_by_none uuid held [] same = refl
claimed_by_none uuid held (entry ∷ history) same =
    ap (λ h. fold (λ (b : Option Incarnation) (e : DoorEntry). claimant_after uuid b e.act) h history) (same entry (inl refl)) ∙ claimed_by_none uuid held history (λ e among. same e (inr among))

-- ---- what is shown

-- each entry of a legal history is answered as a store may
pub answered_each : (before entries : List DoorEntry) → IsTrue (each_after may_follow before entries) → (e : DoorEntry) → In e entries → IsTrue (is_answered e.act)
answered_each before [] legal e among = absurd among
answered_each before (entry ∷ entries) legal e among =
    let parts = and_parts (may_follow before entry) (each_after may_follow (before ++ entry ∷ []) entries) legal in
    elim among [
      | inl here ↦ subst (λ (x : DoorEntry). IsTrue (is_answered x.act)) (sym here) (and_parts (is_answered entry.act) _ parts.0).0
      | inr later ↦ answered_each (before ++ entry ∷ []) entries parts.1 e later
    ]

pub proven_effect : (effect : Effect) (bytes : List ℕ) → proven_by effect ≡ Some bytes → (effect ≡ Shows (Some bytes)) ⊎ (effect ≡ Writes (Some bytes))
proven_effect Leaves bytes is = absurd (cc)
proven_effect (Shows o) bytes is = inl (ap (λ p. Shows p) is)
proven_effect (Writes o) bytes is = inr (ap (λ p. Writes p) is)
proven_effect (Tries o) bytes is = absurd (cc)

-- the pairs that an act of bytes shows are made of bytes
pub shown_bytes : (act : DoorAct) → IsTrue (acts_bytes act) → (pair : Pair) → In pair (pairs_in act) → IsTrue (is_byte_pair pair) ⊎ IsTrue (are_bytes pair.bytes)
shown_bytes (Call node inc (Get name) (Found bytes)) made pair (inl is) = inr (subst (λ (p : Pair). IsTrue (are_bytes p.bytes)) (sym is) (and_parts (are_bytes name) (are_bytes bytes) made).1)
shown_bytes (Call node inc (Get name) (Found bytes)) made pair (inr nowhere) = absurd nowhere
shown_bytes (Call node inc (Scan prefix after limit) (Page pairs)) made pair among =
    inl (all_at is_byte_pair pair pairs among (and_parts (are_bytes prefix && are_bytes after) (list_all is_byte_pair pairs) made).1)
shown_bytes act made pair among = absurd among

-- a page shows something of each name that it covers
on_page : (listed : Option (List ℕ)) (covered : Bool) → IsTrue covered → (o : Option (List ℕ)) × (sight_effect (shown_on_page listed covered) ≡ Shows o)
on_page (Some bytes) covered is = (Some bytes, refl)
on_page None true is = (None, refl)
on_page None false is = absurd (false≢true is)

pub page_shows : (name prefix : List ℕ) (who : Incarnation) (act : DoorAct) (page : ScanPage) → In page (page_in who prefix act) → IsTrue (covers prefix page.after page_limit page.listed name)
    → (o : Option (List ℕ)) × (effect_of name act ≡ Shows o)
page_shows name prefix who (Call node inc (Scan scanned after limit) (Page pairs)) page among covered =
    cases (same_incarnation who (incarnation node inc) && bytes_eq prefix scanned && limit == page_limit) refl among
  where
    cases : (t : Bool) → (same_incarnation who (incarnation node inc) && bytes_eq prefix scanned && limit == page_limit) ≡ t → In page (if t then record { after = after; listed = pairs } ∷ [] else [])
        → (o : Option (List ℕ)) × (effect_of name (Call node inc (Scan scanned after limit) (Page pairs)) ≡ Shows o)
    cases true is (inl here) =
        let parts = and_parts (same_incarnation who (incarnation node inc) && bytes_eq prefix scanned) (limit == page_limit) is in
        let same : prefix ≡ scanned = same_bytes prefix scanned (and_parts (same_incarnation who (incarnation node inc)) (bytes_eq prefix scanned) parts.0).1 in
        let at : IsTrue (covers prefix after page_limit pairs name) = subst (λ (p : ScanPage). IsTrue (covers prefix p.after page_limit p.listed name)) here covered in
        let there : IsTrue (covers scanned after limit pairs name) =
        subst (λ l. IsTrue (covers scanned after l pairs name)) (sym (eqb-true limit page_limit parts.1)) (subst (λ p. IsTrue (covers p after page_limit pairs name)) same at) in
        on_page (bytes_at name pairs) (covers scanned after limit pairs name) there
    cases true is (inr nowhere) = absurd nowhere
    cases false is nowhere = absurd nowhere
page_shows name prefix who act page among covered = absurd among
