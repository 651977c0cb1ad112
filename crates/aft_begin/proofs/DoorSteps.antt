-- What the turns at the door of a line that claims a UUID make of it.
use Rattle.std.proofs.Common.{◌≡◌, ◌⊎◌, ◌≤◌, ℕ, Bool, true, false, List, [], ◌∷◌, ◌++◌, length, refl, sym, ap, subst, ◌∙◌, inl, inr}
use Rattle.std.specs.Prelude.{IsTrue, None, Option, Some, nat_le}
use Rattle.std.specs.List.{list_all}
use Rattle.std.proofs.lemmas.Bool.{and_parts, leb-true}
use Rattle.aft_id.specs.declared.txn_id.TxnId.{TxnId}
use Rattle.aft_keeper.specs.declared.keeper.KeeperAnswer.{KeeperAnswer}
use Rattle.aft_keeper.specs.declared.keeper.KeeperAnswer.TheVariants as answers
use Rattle.aft_model.specs.declared.caller.Attempt.{Attempt}
use Rattle.aft_model.specs.declared.caller.By.{By}
use Rattle.aft_model.specs.declared.door.DoorAct.{DoorAct}
use Rattle.aft_model.specs.declared.door.DoorEntry.{DoorEntry}
use Rattle.aft_model.specs.declared.node.NodeEntry.{NodeEntry}
use Rattle.aft_model.specs.declared.reply.Reply.{Reply}
use Rattle.aft_model.specs.declared.reply.Reply.TheVariants as replies
use Rattle.aft_lines.specs.Turns.{AtDoor, Turn}
use Rattle.aft_begin.specs.declared.aim.Aim.{Aim}
use Rattle.aft_begin.specs.declared.aim.Aim.TheVariants.{Begin, Forget}
use Rattle.aft_begin.specs.declared.looked.Looked.{Looked}
use Rattle.aft_begin.specs.declared.looked.Looked.TheVariants.{Nothing, Shows, Stops}
use Rattle.aft_begin.specs.declared.sought.Sought.{Sought}
use Rattle.aft_begin.specs.declared.sought.Sought.TheVariants.{Marker, Record}
use Rattle.aft_begin.specs.declared.stage.Stage.{Stage}
use Rattle.aft_begin.specs.declared.stage.Stage.TheVariants.{Claims, Forgets, LetsGo, Runs, Seeks}
use Rattle.aft_begin.specs.Calls.{ClaimsSo, ForgetsSo, LooksSo, ReleasesSo, with_act}
use Rattle.aft_begin.specs.Made.{HasCome, begun_turns, made_at, stood_at}
use Rattle.aft_begin.specs.Seen.{ShownBy, Tells, ToldSo, told}
use Rattle.aft_begin.specs.View.{behind_claim, behind_found, behind_look, behind_release}
use Rattle.aft_begin.specs.Way.{Claimed, Deleted, FitsWay, IsRefused, IsTaken, IsUnclaimed, IsUnknown, LookedForMarker, LookedForRecord, MayTell, MustLetGo, Unclaimed, Way, claim_act, delete_act, look_act, release_act, release_turns, way_turns}
use Rattle.aft_turns.specs.Steps.{FrontsWithin, StepsAtDoor, is_front_within}
use Rattle.aft_turns.specs.Trail.{Trail, behind, looking}

module _ (aim : Aim) (by : By) (node : ℕ) (uuid : List ℕ) (a : Attempt) (old new : List DoorEntry) where
  abbrev pub DoorStep : Stage → Stage → Type 0
  DoorStep before after = StepsAtDoor by (stood_at aim by node uuid before old) (made_at aim by node uuid after) old new

  -- what it came to stays so behind a look, and goes on with an entry
  looked : (front : ℕ) (way : Way) (release : Option ℕ) (trail : Trail) → HasCome aim by node uuid a front way release trail → HasCome aim by node uuid a front way release (looking trail old)
  looked front way release trail come = record { before = come.before; admits = come.admits; fits = come.fits; turns = come.turns }

  gone_on : (front : ℕ) (way further : Way) (release let_go : Option ℕ) (act : DoorAct) (trail : Trail) → ((before : List NodeEntry) → begun_turns by node uuid a before front way release ++ AtDoor (length old) act ∷ [] ≡ begun_turns by node uuid a before front further let_go)
      → FitsWay aim uuid further → HasCome aim by node uuid a front way release trail → HasCome aim by node uuid a front further let_go (behind trail (AtDoor (length old) act))
  gone_on front way further release let_go act trail extends fits come = record {
    before = come.before;
    admits = come.admits;
    fits = fits;
    turns = ap (λ (ts : List Turn). ts ++ AtDoor (length old) act ∷ []) come.turns ∙ extends come.before;
  }

  -- its first turn has seen no more of the door than there is
  front_within : (front : ℕ) (way : Way) (release : Option ℕ) (trail : Trail) → HasCome aim by node uuid a front way release trail → FrontsWithin old trail.turns → front ≤ length old
  front_within front way release trail come within =
      leb-true front (length old)
      (and_parts (nat_le front (length old)) (list_all (is_front_within old) (way_turns a uuid way ++ release_turns a uuid release)) (subst (λ (ts : List Turn). IsTrue (list_all (is_front_within old) ts)) come.turns within)).0

  -- ---- the claim

  pub claim_step : (reply : Option Reply) → ClaimsSo by a uuid old new reply → DoorStep (Claims a) (behind_claim a reply)
  claim_step None made = inl (claim_act a uuid, made, λ trail stood. (stood.0.0, length old, gone_on stood.0.0 Unclaimed (Claimed (length old)) None None (claim_act a uuid) trail (λ before. refl) tt stood.0.1))
  claim_step (Some reply) (same, why) =
      inr (same, λ trail stood. (stood.0.0, Unclaimed, None, looked stood.0.0 Unclaimed None trail stood.0.1, by_why stood.0.0 (front_within stood.0.0 Unclaimed None trail stood.0.1 stood.1) why))
    where
      by_why : (front : ℕ) → front ≤ length old → IsRefused a old reply ⊎ IsTaken a uuid old reply → IsUnclaimed front a uuid old reply
      by_why front within (inl refused) = inl refused
      by_why front within (inr taken) = inr (taken, within)

  -- ---- the looks

  -- what is to be answered, by what a look showed that found something or failed
  shown_tells : (sought : Sought) (absent refused : Type 0) (answer : KeeperAnswer) (looked : Looked) (reply : Reply) → ShownBy sought uuid answer looked → ToldSo aim sought refused looked reply → Tells aim sought uuid absent refused answer reply
  shown_tells sought absent refused answers.Absent looked reply shown told = absurd shown
  shown_tells sought absent refused (answers.Found bytes) looked reply (inl (words, is)) told = inl (words, subst (λ (l : Looked). ToldSo aim sought refused l reply) is told)
  shown_tells sought absent refused (answers.Found bytes) looked reply (inr is) told = inr (subst (λ (l : Looked). ToldSo aim sought refused l reply) is told)
  shown_tells sought absent refused answers.Failed looked reply is told = subst (λ (l : Looked). ToldSo aim sought refused l reply) is told
  shown_tells sought absent refused answers.Done looked reply is told = subst (λ (l : Looked). ToldSo aim sought refused l reply) is told
  shown_tells sought absent refused (answers.Page pairs) looked reply is told = subst (λ (l : Looked). ToldSo aim sought refused l reply) is told

  -- a look that is answered lets the claim go
  record_shown : (answer : KeeperAnswer) (looked : Looked) (reply : Reply) → new ≡ with_act by (look_act a uuid Record answer) old → ShownBy Record uuid answer looked → ((look : List DoorEntry) → ToldSo aim Record ⊥ looked reply) → DoorStep (Seeks a Record) (LetsGo a reply)
  record_shown answer looked reply made shown told =
      inl (look_act a uuid Record answer, made, λ trail stood. (stood.0.0, LookedForRecord stood.0.1 (length old) answer, gone_on stood.0.0 (Claimed stood.0.1) (LookedForRecord stood.0.1 (length old) answer) None None (look_act a uuid Record answer) trail (λ before. refl) tt stood.0.2, shown_tells Record (IsRefused a trail.look reply) ⊥ answer looked reply shown (told trail.look)))

  marker_shown : (answer : KeeperAnswer) (looked : Looked) (reply : Reply) → new ≡ with_act by (look_act a uuid Marker answer) old → ShownBy Marker uuid answer looked → ((look : List DoorEntry) → ToldSo aim Marker (IsRefused a look reply) looked reply) → DoorStep (Seeks a Marker) (LetsGo a reply)
  marker_shown answer looked reply made shown told =
      inl (look_act a uuid Marker answer, made, λ trail stood. (stood.0.0, LookedForMarker stood.0.1 stood.0.2 (length old) answer, gone_on stood.0.0 (LookedForRecord stood.0.1 stood.0.2 answers.Absent) (LookedForMarker stood.0.1 stood.0.2 (length old) answer) None None (look_act a uuid Marker answer) trail (λ before. refl) tt stood.0.3, shown_tells Marker (IsUnknown aim uuid reply) (IsRefused a trail.look reply) answer looked reply shown (told trail.look)))

  -- a short marker was found, for a forget
  short_shown : aim ≡ Forget → (id : TxnId) (answer : KeeperAnswer) → new ≡ with_act by (look_act a uuid Marker answer) old → ShownBy Marker uuid answer (Shows id true) → DoorStep (Seeks a Marker) (Forgets a id)
  short_shown aims id (answers.Found bytes) made (inl (words, is)) =
      inl (look_act a uuid Marker (answers.Found bytes), made, λ trail stood. (stood.0.0, stood.0.1, stood.0.2, length old, bytes, gone_on stood.0.0 (LookedForRecord stood.0.1 stood.0.2 answers.Absent) (LookedForMarker stood.0.1 stood.0.2 (length old) (answers.Found bytes)) None None (look_act a uuid Marker (answers.Found bytes)) trail (λ before. refl) tt stood.0.3, words, (aims, sym is)))
  short_shown aims id (answers.Found bytes) made (inr is) = absurd (differ is)
    where
      differ : Shows id true ≡ Stops replies.NoMemory → ⊥
      differ e = cc
  short_shown aims id answers.Absent made shown = absurd shown
  short_shown aims id answers.Failed made is = absurd (differ is)
    where
      differ : Shows id true ≡ Stops replies.StoreFault → ⊥
      differ e = cc
  short_shown aims id answers.Done made is = absurd (differ is)
    where
      differ : Shows id true ≡ Stops replies.NoMemory → ⊥
      differ e = cc
  short_shown aims id (answers.Page pairs) made is = absurd (differ is)
    where
      differ : Shows id true ≡ Stops replies.NoMemory → ⊥
      differ e = cc

  -- nothing was found
  unfound : aim ≡ Begin → new ≡ with_act by (look_act a uuid Marker answers.Absent) old → DoorStep (Seeks a Marker) (Runs a)
  unfound aims made =
      inl (look_act a uuid Marker answers.Absent, made, λ trail stood. (stood.0.0, stood.0.1, stood.0.2, length old, gone_on stood.0.0 (LookedForRecord stood.0.1 stood.0.2 answers.Absent) (LookedForMarker stood.0.1 stood.0.2 (length old) answers.Absent) None None (look_act a uuid Marker answers.Absent) trail (λ before. refl) tt stood.0.3, aims))

  unknown : aim ≡ Forget → new ≡ with_act by (look_act a uuid Marker answers.Absent) old → DoorStep (Seeks a Marker) (LetsGo a (replies.Unknown uuid))
  unknown aims made =
      inl (look_act a uuid Marker answers.Absent, made, λ trail stood. (stood.0.0, LookedForMarker stood.0.1 stood.0.2 (length old) answers.Absent, gone_on stood.0.0 (LookedForRecord stood.0.1 stood.0.2 answers.Absent) (LookedForMarker stood.0.1 stood.0.2 (length old) answers.Absent) None None (look_act a uuid Marker answers.Absent) trail (λ before. refl) tt stood.0.3, (aims, refl)))

  -- what a look leads to, by what it showed
  pub record_step : (looked : Looked) → LooksSo by a uuid Record old new looked → ((id : TxnId) (short : Bool) → looked ≡ Shows id short → (reply : Reply) × (behind_found aim a Record id short ≡ LetsGo a reply) × ToldSo aim Record ⊥ (Shows id short) reply) → DoorStep (Seeks a Record) (behind_look aim a uuid Record looked)
  record_step Nothing made found =
      inl (look_act a uuid Record answers.Absent, made, λ trail stood. (stood.0.0, stood.0.1, length old, gone_on stood.0.0 (Claimed stood.0.1) (LookedForRecord stood.0.1 (length old) answers.Absent) None None (look_act a uuid Record answers.Absent) trail (λ before. refl) tt stood.0.2))
  record_step (Stops reply) (inl (same, refused)) found = inr (same, λ trail stood. (stood.0.0, Claimed stood.0.1, looked stood.0.0 (Claimed stood.0.1) None trail stood.0.2, refused))
  record_step (Stops reply) (inr (answer, made, shown)) found = record_shown answer (Stops reply) reply made shown (λ look. refl)
  record_step (Shows id short) (answer, made, shown) found =
      let its = found id short refl in
      subst (DoorStep (Seeks a Record)) (sym its.1) (record_shown answer (Shows id short) its.0 made shown (λ look. its.2))

  pub refused_marker : (reply : Reply) → LooksSo by a uuid Marker old new (Stops reply) → DoorStep (Seeks a Marker) (LetsGo a reply)
  refused_marker reply (inl (same, refused)) =
      inr (same, λ trail stood. (stood.0.0, LookedForRecord stood.0.1 stood.0.2 answers.Absent, looked stood.0.0 (LookedForRecord stood.0.1 stood.0.2 answers.Absent) None trail stood.0.3, refused))
  refused_marker reply (inr (answer, made, shown)) = marker_shown answer (Stops reply) reply made shown (λ look. refl)

  -- ---- the delete

  pub delete_step : (id : TxnId) (reply : Reply) → id.uuid ≡ uuid → ForgetsSo by a id old new reply → DoorStep (Forgets a id) (LetsGo a reply)
  delete_step id reply own (inl (same, refused)) =
      inr (same, λ trail stood. (stood.0.0, LookedForMarker stood.0.1 stood.0.2 stood.0.3 (answers.Found stood.0.4), looked stood.0.0 (LookedForMarker stood.0.1 stood.0.2 stood.0.3 (answers.Found stood.0.4)) None trail stood.0.5, inl (stood.0.6, short_refused trail.look (told Marker uuid stood.0.4) stood.0.7.0 stood.0.7.1)))
    where
      short_refused : (look : List DoorEntry) (shown : Looked) → aim ≡ Forget → shown ≡ Shows id true → ToldSo aim Marker (IsRefused a old reply) shown reply
      short_refused look shown aims is =
          subst (λ (l : Looked). ToldSo aim Marker (IsRefused a old reply) l reply) (sym is)
          (subst (λ (m : Aim). ToldSo m Marker (IsRefused a old reply) (Shows id true) reply) (sym aims) refused)
  delete_step id reply own (inr (answer, made, deleted)) =
      inl (delete_act a uuid answer, made ∙ ap (λ (u : List ℕ). with_act by (delete_act a u answer) old) own, λ trail stood. (stood.0.0, Deleted stood.0.1 stood.0.2 stood.0.3 stood.0.4 id (length old) answer, gone_on stood.0.0 (LookedForMarker stood.0.1 stood.0.2 stood.0.3 (answers.Found stood.0.4)) (Deleted stood.0.1 stood.0.2 stood.0.3 stood.0.4 id (length old) answer) None None (delete_act a uuid answer) trail (λ before. refl) stood.0.7 stood.0.5, deleted))

  -- ---- the release

  pub release_step : (reply : Reply) (let_go : Bool) → ReleasesSo by a uuid old new let_go → DoorStep (LetsGo a reply) (behind_release a reply let_go)
  release_step reply true made =
      inl (release_act a uuid, made, λ trail stood. (stood.0.0, stood.0.1, Some (length old), gone_on stood.0.0 stood.0.1 stood.0.1 None (Some (length old)) (release_act a uuid) trail (λ before. extends stood.0.0 stood.0.1 before) stood.0.2.fits stood.0.2, stood.0.3))
    where
      extends : (front : ℕ) (way : Way) (before : List NodeEntry) → begun_turns by node uuid a before front way None ++ AtDoor (length old) (release_act a uuid) ∷ [] ≡ begun_turns by node uuid a before front way (Some (length old))
      extends front Unclaimed before = refl
      extends front (Claimed p) before = refl
      extends front (LookedForRecord p q answer) before = refl
      extends front (LookedForMarker p q r answer) before = refl
      extends front (Deleted p q r bytes id at answer) before = refl
  release_step reply false (same, fenced) =
      inr (same, λ trail stood. (stood.0.0, stood.0.1, None, looked stood.0.0 stood.0.1 None trail stood.0.2, shut_out stood.0.0 stood.0.1 trail.look stood.0.3))
    where
      shut_out : (front : ℕ) (way : Way) (look : List DoorEntry) → MustLetGo aim a uuid look way reply → MayTell aim front a uuid old way None (replies.NodeDown a.node a.inc)
      shut_out front Unclaimed look must = absurd must
      shut_out front (Claimed p) look must = (refl, fenced)
      shut_out front (LookedForRecord p q answer) look must = (refl, fenced)
      shut_out front (LookedForMarker p q r answers.Absent) look must = (must.0, (refl, fenced))
      shut_out front (LookedForMarker p q r (answers.Found bytes)) look must = (refl, fenced)
      shut_out front (LookedForMarker p q r answers.Failed) look must = (refl, fenced)
      shut_out front (LookedForMarker p q r answers.Done) look must = (refl, fenced)
      shut_out front (LookedForMarker p q r (answers.Page pairs)) look must = (refl, fenced)
      shut_out front (Deleted p q r bytes id at answer) look must = (refl, fenced)

-- ---- a look, by what the line claims for

module _ (by : By) (node : ℕ) (uuid : List ℕ) (a : Attempt) (old new : List DoorEntry) where
  pub look_step : (aim : Aim) (sought : Sought) (looked : Looked) → LooksSo by a uuid sought old new looked → DoorStep aim by node uuid a old new (Seeks a sought) (behind_look aim a uuid sought looked)
  look_step Begin Record looked so = record_step Begin by node uuid a old new looked so (λ id short is. (replies.Committed id, refl, refl))
  look_step Forget Record looked so = record_step Forget by node uuid a old new looked so (λ id short is. (replies.Kept id, refl, refl))
  look_step Begin Marker Nothing so = unfound Begin by node uuid a old new refl so
  look_step Forget Marker Nothing so = unknown Forget by node uuid a old new refl so
  look_step Begin Marker (Stops reply) so = refused_marker Begin by node uuid a old new reply so
  look_step Forget Marker (Stops reply) so = refused_marker Forget by node uuid a old new reply so
  look_step Begin Marker (Shows id short) (answer, made, shown) = marker_shown Begin by node uuid a old new answer (Shows id short) (replies.Committed id) made shown (λ look. refl)
  look_step Forget Marker (Shows id false) (answer, made, shown) = marker_shown Forget by node uuid a old new answer (Shows id false) (replies.Kept id) made shown (λ look. refl)
  look_step Forget Marker (Shows id true) (answer, made, shown) = short_shown Forget by node uuid a old new refl id answer made shown
