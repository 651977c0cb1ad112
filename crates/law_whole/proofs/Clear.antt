-- Where a name that a clear stage has comes from: it was there before, or the entry puts it, acknowledged; and who holds a UUID did so before, unless the stage is that of a claim.
use Rattle.std.proofs.Common.{◌≡◌, ℕ, Bool, true, false, ◌&&◌, not, List, [], ◌∷◌, refl, sym, ap, subst, ◌⊎◌, inl, inr}
use Rattle.std.specs.Prelude.{IsTrue, Option, Some, None, filter, if◌then◌else◌}
use Rattle.std.specs.List.{fold}
use Rattle.std.specs.Str.{bytes_eq}
use Rattle.std.proofs.lemmas.Bool.{and_from, false≢true}
use Rattle.aft_keeper.specs.declared.keeper.KeeperAnswer.{KeeperAnswer}
use Rattle.aft_keeper.specs.declared.keeper.KeeperAnswer.TheVariants.{Absent}
use Rattle.aft_keeper.specs.declared.keeper.KeeperCall.{KeeperCall}
use Rattle.aft_keeper.specs.declared.keeper.KeeperCall.TheVariants.{Delete, Get, Put}
use Rattle.aft_records.specs.declared.stored.Commit.{Commit}
use Rattle.aft_records.specs.declared.stored.Version.{Version}
use Rattle.aft_model.specs.declared.door.DoorAct.{DoorAct}
use Rattle.aft_model.specs.declared.door.DoorAct.TheVariants.{Call, Claim, Release}
use Rattle.aft_model.specs.Claims.{claimant_after, is_held_by}
use Rattle.aft_model.specs.Membership.{Incarnation, incarnation, same_incarnation}
use Rattle.aft_model.specs.Readings.{marker_name, record_name}
use Rattle.aft_model.specs.Stages.{HasClaimed, HasPut, IsClear, IsClosed, IsIdle, IsUnrecorded, Stage, commits_of, found_no_marker, found_no_record, has_deleted_marker, has_put_record, has_stored_version, is_acknowledged, is_own, stage_after, stage_after_call, versions_of}
use Rattle.aft_model.proofs.Histories.{In}
use Rattle.aft_model.proofs.Lists.{in_filter}
use Rattle.law_kept.proofs.Fates.{under}

-- it was clear before, and had the name; or the act puts a version under the name, acknowledged
pub data ClearBy (before : Stage) (act : DoorAct) (name : List ℕ) : Type 0 where
  Was : (names : List (List ℕ)) → before ≡ IsClear names → In name names → ClearBy before act name
  Now : (node inc : ℕ) (bytes : List ℕ) (answer : KeeperAnswer) → act ≡ Call node inc (Put name bytes) answer → IsTrue (is_acknowledged answer) → ClearBy before act name

clear_is : (xs ys : List (List ℕ)) → IsClear xs ≡ IsClear ys → xs ≡ ys
clear_is xs ys e = cc

-- ---- puts

clear_put : (c : Commit) (s : Stage) (names : List (List ℕ)) → has_put_record c s ≡ IsClear names → ⊥
clear_put c IsIdle names is = absurd (cc)
clear_put c IsClosed names is = absurd (cc)
clear_put c HasClaimed names is = absurd (cc)
clear_put c IsUnrecorded names is = absurd (cc)
clear_put c (IsClear others) names is = absurd (cc)
clear_put c (HasPut d) names is = absurd (cc)

clear_commits : (cs : List Commit) (s : Stage) (names : List (List ℕ)) → fold (λ (t : Stage) (c : Commit). has_put_record c t) s cs ≡ IsClear names → s ≡ IsClear names
clear_commits [] s names is = is
clear_commits (c ∷ cs) s names is = absurd (clear_put c s names (clear_commits cs (has_put_record c s) names is))

-- what a stage has that it came to by versions of one name
abbrev Stored : List ℕ → KeeperAnswer → Stage → List ℕ → Type 0
Stored put answer s name = ((names : List (List ℕ)) × (s ≡ IsClear names) × In name names) ⊎ ((name ≡ put) × IsTrue (is_acknowledged answer))

joined : (put name : List ℕ) (t : Bool) (names : List (List ℕ)) → In name (if t then put ∷ names else filter (λ other. not (bytes_eq put other)) names) → In name names ⊎ ((name ≡ put) × IsTrue t)
joined put name true names (inl here) = inr (here, refl)
joined put name true names (inr later) = inl later
joined put name false names among = inl (in_filter (λ other. not (bytes_eq put other)) name names among).0

clear_version : (put : List ℕ) (answer : KeeperAnswer) (s : Stage) (names : List (List ℕ)) (name : List ℕ) → has_stored_version put answer s ≡ IsClear names → In name names → Stored put answer s name
clear_version put answer (IsClear others) names name is among =
    elim (joined put name (is_acknowledged answer) others (subst (λ l. In name l) (sym (clear_is _ names is)) among)) [ inl was ↦ inl (others, refl, was) | inr now ↦ inr now ]
clear_version put answer IsIdle names name is among = inl (names, is, among)
clear_version put answer HasClaimed names name is among = inl (names, is, among)
clear_version put answer IsUnrecorded names name is among = inl (names, is, among)
clear_version put answer (HasPut c) names name is among = inl (names, is, among)
clear_version put answer IsClosed names name is among = inl (names, is, among)

clear_versions : (put : List ℕ) (answer : KeeperAnswer) (vs : List Version) (s : Stage) (names : List (List ℕ)) (name : List ℕ) → fold (λ (t : Stage) (v : Version). has_stored_version put answer t) s vs ≡ IsClear names → In name names → Stored put answer s name
clear_versions put answer [] s names name is among = inl (names, is, among)
clear_versions put answer (v ∷ vs) s names name is among = elim (clear_versions put answer vs (has_stored_version put answer s) names name is among) [
  | inl was ↦ clear_version put answer s was.0 name was.1 was.2
  | inr now ↦ inr now
]

-- ---- calls

no_record_clear : (s : Stage) (names : List (List ℕ)) (name : List ℕ) → found_no_record s ≡ IsClear names → In name names → (others : List (List ℕ)) × (s ≡ IsClear others) × In name others
no_record_clear (IsClear others) names name is among = absurd (subst (λ l. In name l) (sym (clear_is [] names is)) among)
no_record_clear (HasPut c) names name is among = absurd (subst (λ l. In name l) (sym (clear_is [] names is)) among)
no_record_clear HasClaimed names name is among = absurd (cc)
no_record_clear IsIdle names name is among = absurd (cc)
no_record_clear IsUnrecorded names name is among = absurd (cc)
no_record_clear IsClosed names name is among = absurd (cc)

no_marker_clear : (s : Stage) (names : List (List ℕ)) (name : List ℕ) → found_no_marker s ≡ IsClear names → In name names → (others : List (List ℕ)) × (s ≡ IsClear others) × In name others
no_marker_clear IsUnrecorded names name is among = absurd (subst (λ l. In name l) (sym (clear_is [] names is)) among)
no_marker_clear (IsClear others) names name is among = (names, is, among)
no_marker_clear (HasPut c) names name is among = absurd (cc)
no_marker_clear HasClaimed names name is among = absurd (cc)
no_marker_clear IsIdle names name is among = absurd (cc)
no_marker_clear IsClosed names name is among = absurd (cc)

deleted_clear : (s : Stage) (names : List (List ℕ)) → has_deleted_marker s ≡ IsClear names → ⊥
deleted_clear IsIdle names is = absurd (cc)
deleted_clear HasClaimed names is = absurd (cc)
deleted_clear IsUnrecorded names is = absurd (cc)
deleted_clear (IsClear others) names is = absurd (cc)
deleted_clear (HasPut c) names is = absurd (cc)
deleted_clear IsClosed names is = absurd (cc)

module _ (uuid : List ℕ) (s : Stage) (names : List (List ℕ)) (name : List ℕ) (among : In name names) where
  abbrev Had : Type 0
  Had = (others : List (List ℕ)) × (s ≡ IsClear others) × In name others

  got_absent : (t r : Bool) → (if t then found_no_record s else if r then found_no_marker s else s) ≡ IsClear names → Had
  got_absent true r is = no_record_clear s names name is among
  got_absent false true is = no_marker_clear s names name is among
  got_absent false false is = (names, is, among)

  deleted : (t : Bool) → (if t then has_deleted_marker s else s) ≡ IsClear names → Had
  deleted true is = absurd (deleted_clear s names is)
  deleted false is = (names, is, among)

  clear_call : (node inc : ℕ) (asked : KeeperCall) (answer : KeeperAnswer) → stage_after_call uuid s asked answer ≡ IsClear names → ClearBy s (Call node inc asked answer) name
  clear_call node inc (Get got) Absent is = (let had = got_absent (bytes_eq got (record_name uuid)) (bytes_eq got (marker_name uuid)) is in Was had.0 had.1 had.2)
  clear_call node inc (Put put bytes) answer is =
      let stored = clear_commits (commits_of uuid (under put bytes)) (fold (λ (t : Stage) (v : Version). has_stored_version put answer t) s (versions_of uuid (under put bytes))) names is in
      elim (clear_versions put answer (versions_of uuid (under put bytes)) s names name stored among) [
        | inl was ↦ Was was.0 was.1 was.2
        | inr now ↦ Now node inc bytes answer (ap (λ (n : List ℕ). Call node inc (Put n bytes) answer) (sym now.0)) now.1
      ]
  clear_call node inc (Delete gone) answer is = (let had = deleted (bytes_eq gone (marker_name uuid)) is in Was had.0 had.1 had.2)
  clear_call node inc asked answer is = Was names is among

  claimed_is : (t : Bool) → (if t then HasClaimed else s) ≡ IsClear names → Had
  claimed_is true is = absurd (cc)
  claimed_is false is = (names, is, among)

  released_is : (t : Bool) → (if t then IsIdle else s) ≡ IsClear names → Had
  released_is true is = absurd (cc)
  released_is false is = (names, is, among)

  called_is : (node inc : ℕ) (asked : KeeperCall) (answer : KeeperAnswer) (t : Bool) → (if t then stage_after_call uuid s asked answer else s) ≡ IsClear names → ClearBy s (Call node inc asked answer) name
  called_is node inc asked answer true is = clear_call node inc asked answer is
  called_is node inc asked answer false is = Was names is among

  pub clear_by : (who : Incarnation) (act : DoorAct) → stage_after who uuid s act ≡ IsClear names → ClearBy s act name
  clear_by who (Claim claimed node inc) is = (let had = claimed_is (is_own who uuid node inc claimed) is in Was had.0 had.1 had.2)
  clear_by who (Release released node inc) is = (let had = released_is (is_own who uuid node inc released) is in Was had.0 had.1 had.2)
  clear_by who (Call node inc asked answer) is = called_is node inc asked answer (same_incarnation who (incarnation node inc)) is
  clear_by who act is = Was names is among

-- ---- who held it before

module _ (uuid : List ℕ) (who : Incarnation) (held : Option Incarnation) (s : Stage) where
  claimed_before : (claimed : List ℕ) (node inc : ℕ) (t : Bool) → bytes_eq uuid claimed ≡ t → IsTrue (is_held_by who (if t then Some (incarnation node inc) else held))
      → IsTrue (is_held_by who held) ⊎ ((if same_incarnation who (incarnation node inc) && t then HasClaimed else s) ≡ HasClaimed)
  claimed_before claimed node inc true is it = inr (ap (λ b. if b then HasClaimed else s) (and_from (same_incarnation who (incarnation node inc)) true it refl))
  claimed_before claimed node inc false is it = inl it

  released_before : (t : Bool) → IsTrue (is_held_by who (if t then None else held)) → IsTrue (is_held_by who held)
  released_before true it = absurd (false≢true it)
  released_before false it = it

  pub held_before : (act : DoorAct) → IsTrue (is_held_by who (claimant_after uuid held act)) → IsTrue (is_held_by who held) ⊎ (stage_after who uuid s act ≡ HasClaimed)
  held_before (Claim claimed node inc) it = claimed_before claimed node inc (bytes_eq uuid claimed) refl it
  held_before (Release released node inc) it = inl (released_before (bytes_eq uuid released && is_held_by (incarnation node inc) held) it)
  held_before act it = inl it
