-- Where the turns of a line that claims a UUID lead.
use Rattle.std.proofs.Common.{◌≡◌, ◌⊎◌, ℕ, Bool, true, false, ◌&&◌, ◌||◌, List, [], ◌∷◌, ◌++◌, refl, sym, ap, subst, ◌∙◌, inl, inr}
use Rattle.std.specs.Prelude.{Err, IsTrue, None, Ok, Option, Result, Some, is_some, if◌then◌else◌}
use Rattle.std.specs.List.{flat_map, list_any}
use Rattle.std.specs.Str.{bytes_eq}
use Rattle.std.proofs.lemmas.Bool.{and_from, false≢true, or_left}
use Rattle.std.proofs.lemmas.List.Sums.{fold-append}
use Rattle.aft_id.specs.declared.txn_id.TxnId.{TxnId}
use Rattle.aft_keeper.specs.declared.keeper.KeeperAnswer.{KeeperAnswer}
use Rattle.aft_keeper.specs.declared.keeper.KeeperAnswer.TheVariants as answers
use Rattle.aft_records.specs.declared.fault.RecordFault.{RecordFault}
use Rattle.aft_records.specs.declared.stored.Commit.{Commit}
use Rattle.aft_records.specs.declared.stored.Marker.{Marker as Mark}
use Rattle.aft_records.specs.declared.stored.Marker.TheVariants.{Done, Full}
use Rattle.aft_records.specs.Reading.{marker_of}
use Rattle.aft_model.specs.declared.caller.Attempt.{Attempt}
use Rattle.aft_model.specs.declared.caller.By.{By}
use Rattle.aft_model.specs.declared.door.DoorEntry.{DoorEntry}
use Rattle.aft_model.specs.declared.node.NodeAct.{NodeAct}
use Rattle.aft_model.specs.declared.node.NodeAct.TheVariants as acts
use Rattle.aft_model.specs.declared.node.NodeEntry.{NodeEntry}
use Rattle.aft_model.specs.declared.reply.Reply.{Reply}
use Rattle.aft_model.specs.declared.reply.Reply.TheVariants as replies
use Rattle.aft_model.specs.Committed.{done_by}
use Rattle.aft_model.specs.DoorKnowledge.{is_short_of}
use Rattle.aft_model.specs.Membership.{incarnation, same_incarnation}
use Rattle.aft_model.specs.NodeSights.{is_fenced}
use Rattle.aft_model.specs.NodeState.{node_state}
use Rattle.aft_model.specs.Readings.{id_of_marker, marker_name, read_under}
use Rattle.aft_model.proofs.OneCommit.{same_itself as caller_itself}
use Rattle.aft_model.proofs.Sights.{bytes_eq-refl, same_bytes}
use Rattle.aft_lines.specs.Advance.{advance, advanced, allows, behind_marker, closed_by, if_nothing, if_so, is_led_to_end, leads_to, or_at, shut_out_by}
use Rattle.aft_lines.specs.BeginCourse.{Beginning, begins_running, gives_back}
use Rattle.aft_lines.specs.CourseWords.{Ends, answers_down, caller_of, finds_nothing, tells_down, tells_refused, tells_unclaimed}
use Rattle.aft_lines.specs.ForgetCourse.{finds_short}
use Rattle.aft_lines.specs.LineView.{has_left}
use Rattle.aft_lines.specs.Progress.{Admitted, AnyReason, FoundNoRecord, FoundShort, FoundUnused, HasClaim, HasForgotten, HasReleased, MustRelease, NotBegun, Progress, Reason, Refusal}
use Rattle.aft_lines.specs.Turns.{AtDoor, Turn}
use Rattle.law_attempts.proofs.Standing.{same_itself}
use Rattle.aft_turns.proofs.Closed.{closes_line}
use Rattle.aft_begin.specs.declared.aim.Aim.{Aim}
use Rattle.aft_begin.specs.declared.aim.Aim.TheVariants.{Begin, Forget}
use Rattle.aft_begin.specs.declared.looked.Looked.{Looked}
use Rattle.aft_begin.specs.declared.looked.Looked.TheVariants.{Nothing, Shows, Stops}
use Rattle.aft_begin.specs.declared.sought.Sought.{Sought}
use Rattle.aft_begin.specs.declared.sought.Sought.TheVariants.{Marker, Record}
use Rattle.aft_begin.specs.Made.{Closes, Closing, IsBegun, IsDown, IsGivenBack, begun_turns, closing_act, closing_reply, turn_at}
use Rattle.aft_begin.specs.Seen.{ToldSo, id_read, name_of, short_read, told, told_of}
use Rattle.aft_begin.specs.View.{asks}
use Rattle.aft_begin.specs.Way.{Claimed, Deleted, FitsWay, IsRefused, IsShutOut, IsTaken, IsUnclaimed, IsUnused, LookedForMarker, LookedForRecord, MayTell, MustLetGo, ShowsShort, Unclaimed, Way, claim_act, delete_act, look_act, release_act, way_turns}
use Rattle.aft_begin.proofs.Aims.{aims_apart}

-- ---- what may be told

refused_told : (a : Attempt) (look : List DoorEntry) (reply : Reply) → IsRefused a look reply → IsTrue (tells_refused (Some reply))
refused_told a look reply (inl (is, fenced)) = subst (λ (r : Reply). IsTrue (tells_refused (Some r))) (sym is) refl
refused_told a look reply (inr is) = subst (λ (r : Reply). IsTrue (tells_refused (Some r))) (sym is) refl

unclaimed_of_refused : (a : Attempt) (look : List DoorEntry) (reply : Reply) → IsRefused a look reply → IsTrue (tells_unclaimed (Some reply))
unclaimed_of_refused a look reply (inl (is, fenced)) = subst (λ (r : Reply). IsTrue (tells_unclaimed (Some r))) (sym is) refl
unclaimed_of_refused a look reply (inr is) = subst (λ (r : Reply). IsTrue (tells_unclaimed (Some r))) (sym is) refl

unclaimed_told : (front : ℕ) (a : Attempt) (uuid : List ℕ) (look : List DoorEntry) (reply : Reply) → IsUnclaimed front a uuid look reply → IsTrue (tells_unclaimed (Some reply))
unclaimed_told front a uuid look reply (inl refused) = unclaimed_of_refused a look reply refused
unclaimed_told front a uuid look reply (inr (taken, within)) = by_taken taken
  where
    by_taken : IsTaken a uuid look reply → IsTrue (tells_unclaimed (Some reply))
    by_taken (inl (node, inc, is, holds, other)) = subst (λ (r : Reply). IsTrue (tells_unclaimed (Some r))) (sym is) refl
    by_taken (inr (is, closed)) = subst (λ (r : Reply). IsTrue (tells_unclaimed (Some r))) (sym is) refl

-- ---- a short marker

-- whether a look showed one
abbrev shows_short : Looked → Bool
shows_short (Shows id short) = short
shows_short looked = false

names_differ : (uuid : List ℕ) (id : TxnId) → bytes_eq uuid id.uuid ≡ false → (named : Bool) → list_any (λ (i : TxnId). bytes_eq uuid i.uuid) (flat_map done_by (if named then Done id ∷ [] else [])) ≡ false
names_differ uuid id differs true = rw differs refl
names_differ uuid id differs false = refl

full_not : (uuid : List ℕ) (c : Commit) (named : Bool) → list_any (λ (i : TxnId). bytes_eq uuid i.uuid) (flat_map done_by (if named then Full c ∷ [] else [])) ≡ false
full_not uuid c true = refl
full_not uuid c false = refl

-- the course finds one just where the look shows it
short_read_so : (uuid : List ℕ) (r : Result Mark RecordFault) → list_any (λ (i : TxnId). bytes_eq uuid i.uuid) (flat_map done_by (read_under (marker_name uuid) (λ (m : Mark). marker_name (id_of_marker m).uuid) r)) ≡ shows_short (told_of (marker_name uuid) uuid (short_read r) (id_read id_of_marker r))
short_read_so uuid (Err fault) = refl
short_read_so uuid (Ok (Full c)) = full_not uuid c (bytes_eq (marker_name uuid) (marker_name c.id.uuid)) ∙ by_test (bytes_eq uuid c.id.uuid)
  where
    by_test : (same : Bool) → false ≡ shows_short (if same then Shows c.id false else Stops (replies.Damaged (marker_name uuid)))
    by_test true = refl
    by_test false = refl
short_read_so uuid (Ok (Done id)) = by_test (bytes_eq uuid id.uuid) refl
  where
    by_test : (same : Bool) → bytes_eq uuid id.uuid ≡ same → list_any (λ (i : TxnId). bytes_eq uuid i.uuid) (flat_map done_by (if bytes_eq (marker_name uuid) (marker_name id.uuid) then Done id ∷ [] else [])) ≡ shows_short (if same then Shows id true else Stops (replies.Damaged (marker_name uuid)))
    by_test true same =
        ap (λ (t : Bool). list_any (λ (i : TxnId). bytes_eq uuid i.uuid) (flat_map done_by (if t then Done id ∷ [] else []))) (subst (λ (u : List ℕ). bytes_eq (marker_name uuid) (marker_name u) ≡ true) (same_bytes uuid id.uuid same) (bytes_eq-refl (marker_name uuid)))
        ∙ ap (λ (t : Bool). t || false) same
    by_test false differs = names_differ uuid id differs (bytes_eq (marker_name uuid) (marker_name id.uuid))

pub finds_short_so : (uuid bytes : List ℕ) → finds_short uuid (answers.Found bytes) ≡ shows_short (told Marker uuid bytes)
finds_short_so uuid bytes = or_false (is_short_of uuid (record { name = marker_name uuid; bytes = bytes })) ∙ short_read_so uuid (marker_of bytes)
  where
    or_false : (t : Bool) → (t || false) ≡ t
    or_false true = refl
    or_false false = refl

-- ---- positions

-- a position, or another that is an end
or_led : (x y : Option Progress) → IsTrue (is_led_to_end x) → IsTrue (is_led_to_end (or_at x y))
or_led (Some p) y led = led
or_led None y led = absurd (false≢true led)

module _ (aim : Aim) (node : ℕ) (uuid nodes : List ℕ) (ends : Ends) (by : By) (a : Attempt) (here : a.node ≡ node) (before : List NodeEntry) (front : ℕ) where
  abbrev step_of : Aim → Progress → Turn → Option Progress
  step_of which = advance (asks which uuid node) nodes ends

  abbrev step : Progress → Turn → Option Progress
  step = step_of aim

  abbrev begun : Beginning
  begun = record { attempt = a; uuid = uuid }

  own : IsTrue (same_incarnation (caller_of a) (incarnation a.node a.inc) && bytes_eq uuid uuid)
  own = and_from _ _ (caller_itself (caller_of a)) (bytes_eq-refl uuid)

  named : (sought : Sought) → IsTrue (same_incarnation (caller_of a) (incarnation a.node a.inc) && bytes_eq (name_of sought uuid) (name_of sought uuid))
  named sought = and_from _ _ (caller_itself (caller_of a)) (bytes_eq-refl (name_of sought uuid))

  -- where it stands, by how far it came
  abbrev stood_of : Aim → Way → Progress
  stood_of which Unclaimed = Admitted begun
  stood_of which (Claimed p) = HasClaim begun
  stood_of which (LookedForRecord p q answer) = if_nothing (FoundNoRecord begun) begun answer
  stood_of Begin (LookedForMarker p q r answer) = behind_marker false begun answer
  stood_of Forget (LookedForMarker p q r answer) = behind_marker true begun answer
  stood_of which (Deleted p q r bytes id at answer) = HasForgotten begun

  abbrev stood : Way → Progress
  stood = stood_of aim

  abbrev first : Turn
  first = turn_at by node before front (acts.Admit a uuid) None

  abbrev led_of : Aim → List Turn → Option Progress
  led_of which = leads_to (asks which uuid node) nodes ends

  -- one turn more
  one_more : (which : Aim) (turns : List Turn) (turn : Turn) (at : Progress) → led_of which turns ≡ Some at → led_of which (turns ++ turn ∷ []) ≡ step_of which at turn
  one_more which turns turn at led = fold-append (advanced (step_of which)) (Some NotBegun) turns (turn ∷ []) ∙ ap (λ (o : Option Progress). advanced (step_of which) o turn) led

  claims_so : (which : Aim) (p : ℕ) → led_of which (first ∷ AtDoor p (claim_act a uuid) ∷ []) ≡ Some (HasClaim begun)
  claims_so Begin p = ap (λ (t : Bool). if_so t (HasClaim begun)) own
  claims_so Forget p = ap (λ (t : Bool). if_so t (HasClaim begun)) own

  looks_so : (which : Aim) (p q : ℕ) (answer : KeeperAnswer) → led_of which (first ∷ AtDoor p (claim_act a uuid) ∷ AtDoor q (look_act a uuid Record answer) ∷ []) ≡ Some (if_nothing (FoundNoRecord begun) begun answer)
  looks_so Begin p q answer = one_more Begin (first ∷ AtDoor p (claim_act a uuid) ∷ []) (AtDoor q (look_act a uuid Record answer)) (HasClaim begun) (claims_so Begin p) ∙ ap (λ (t : Bool). if_so t (if_nothing (FoundNoRecord begun) begun answer)) (named Record)
  looks_so Forget p q answer = one_more Forget (first ∷ AtDoor p (claim_act a uuid) ∷ []) (AtDoor q (look_act a uuid Record answer)) (HasClaim begun) (claims_so Forget p) ∙ ap (λ (t : Bool). if_so t (if_nothing (FoundNoRecord begun) begun answer)) (named Record)

  abbrev both_looks : ℕ → ℕ → ℕ → KeeperAnswer → List Turn
  both_looks p q r answer = first ∷ way_turns a uuid (LookedForMarker p q r answer)

  seeks_so : (which : Aim) (p q r : ℕ) (answer : KeeperAnswer) → led_of which (both_looks p q r answer) ≡ Some (stood_of which (LookedForMarker p q r answer))
  seeks_so Begin p q r answer =
      one_more Begin (first ∷ AtDoor p (claim_act a uuid) ∷ AtDoor q (look_act a uuid Record answers.Absent) ∷ []) (AtDoor r (look_act a uuid Marker answer)) (FoundNoRecord begun) (looks_so Begin p q answers.Absent)
      ∙ ap (λ (t : Bool). if_so t (behind_marker false begun answer)) (named Marker)
  seeks_so Forget p q r answer =
      one_more Forget (first ∷ AtDoor p (claim_act a uuid) ∷ AtDoor q (look_act a uuid Record answers.Absent) ∷ []) (AtDoor r (look_act a uuid Marker answer)) (FoundNoRecord begun) (looks_so Forget p q answers.Absent)
      ∙ ap (λ (t : Bool). if_so t (behind_marker true begun answer)) (named Marker)

  -- a forget that found the short marker
  found_short : (p q r : ℕ) (bytes : List ℕ) (id : TxnId) → told Marker uuid bytes ≡ Shows id true → stood_of Forget (LookedForMarker p q r (answers.Found bytes)) ≡ FoundShort begun
  found_short p q r bytes id is = ap (λ (t : Bool). if t then FoundShort begun else MustRelease begun) (finds_short_so uuid bytes ∙ ap shows_short is)

  deletes_so : (which : Aim) (p q r : ℕ) (bytes : List ℕ) (id : TxnId) (at : ℕ) (answer : KeeperAnswer) → ShowsShort which uuid bytes id → led_of which (first ∷ way_turns a uuid (Deleted p q r bytes id at answer)) ≡ Some (HasForgotten begun)
  deletes_so Forget p q r bytes id at answer (is, shown) =
      one_more Forget (both_looks p q r (answers.Found bytes)) (AtDoor at (delete_act a uuid answer)) (FoundShort begun) (seeks_so Forget p q r (answers.Found bytes) ∙ ap (λ (s : Progress). Some s) (found_short p q r bytes id shown))
      ∙ ap (λ (t : Bool). if_so t (HasForgotten begun)) (named Marker)
  deletes_so Begin p q r bytes id at answer (is, shown) = absurd (aims_apart is)

  way_leads : (way : Way) → FitsWay aim uuid way → led_of aim (first ∷ way_turns a uuid way) ≡ Some (stood way)
  way_leads Unclaimed fits = by_aim aim
    where
      by_aim : (which : Aim) → led_of which (first ∷ []) ≡ Some (Admitted begun)
      by_aim Begin = refl
      by_aim Forget = refl
  way_leads (Claimed p) fits = claims_so aim p
  way_leads (LookedForRecord p q answer) fits = looks_so aim p q answer
  way_leads (LookedForMarker p q r answer) fits = seeks_so aim p q r answer
  way_leads (Deleted p q r bytes id at answer) fits = deletes_so aim p q r bytes id at answer fits

  -- ---- the release

  -- it leads on, for a reason that allows the answer
  record Released (which : Aim) (way : Way) (place : ℕ) (reply : Reply) : Type 0 where
    reason : Reason
    leads : step_of which (stood_of which way) (AtDoor place (release_act a uuid)) ≡ Some (HasReleased begun reason)
    allowed : IsTrue (allows reason (Some reply))

  released : (reason : Reason) → if_so (same_incarnation (caller_of a) (incarnation a.node a.inc) && bytes_eq uuid uuid) (HasReleased begun reason) ≡ Some (HasReleased begun reason)
  released reason = ap (λ (t : Bool). if_so t (HasReleased begun reason)) own

  -- where the release leads, behind a marker that a forget found
  abbrev behind_it : ℕ → Bool → Option Progress
  behind_it place short = step_of Forget (if short then FoundShort begun else MustRelease begun) (AtDoor place (release_act a uuid))

  found_released : (p q r place : ℕ) (bytes : List ℕ) (look : List DoorEntry) (reply : Reply) (shown : Looked) → told Marker uuid bytes ≡ shown → ToldSo Forget Marker (IsRefused a look reply) shown reply ⊎ (reply ≡ replies.NoMemory) → Released Forget (LookedForMarker p q r (answers.Found bytes)) place reply
  found_released p q r place bytes look reply shown is tells = by_short (shows_short shown) refl tells
    where
      position : stood_of Forget (LookedForMarker p q r (answers.Found bytes)) ≡ (if shows_short shown then FoundShort begun else MustRelease begun)
      position = ap (λ (t : Bool). if t then FoundShort begun else MustRelease begun) (finds_short_so uuid bytes ∙ ap shows_short is)

      refused_so : (l : Looked) → shows_short l ≡ true → ToldSo Forget Marker (IsRefused a look reply) l reply → IsTrue (tells_refused (Some reply))
      refused_so (Shows id true) short refused = refused_told a look reply refused
      refused_so (Shows id false) short told = absurd (false≢true short)
      refused_so Nothing short told = absurd told
      refused_so (Stops other) short told = absurd (false≢true short)

      by_short : (short : Bool) → shows_short shown ≡ short → ToldSo Forget Marker (IsRefused a look reply) shown reply ⊎ (reply ≡ replies.NoMemory) → Released Forget (LookedForMarker p q r (answers.Found bytes)) place reply
      by_short true short tells = record {
        reason = Refusal;
        leads = ap (λ (s : Progress). step_of Forget s (AtDoor place (release_act a uuid))) position ∙ ap (behind_it place) short ∙ released Refusal;
        allowed = elim tells [ inl told ↦ refused_so shown short told | inr lacks ↦ subst (λ (r : Reply). IsTrue (tells_refused (Some r))) (sym lacks) refl ];
      }
      by_short false short tells = record {
        reason = AnyReason;
        leads = ap (λ (s : Progress). step_of Forget s (AtDoor place (release_act a uuid))) position ∙ ap (behind_it place) short ∙ released AnyReason;
        allowed = refl;
      }

  any_released : (which : Aim) (way : Way) (place : ℕ) (reply : Reply) → step_of which (stood_of which way) (AtDoor place (release_act a uuid)) ≡ if_so (same_incarnation (caller_of a) (incarnation a.node a.inc) && bytes_eq uuid uuid) (HasReleased begun AnyReason) → Released which way place reply
  any_released which way place reply is = record { reason = AnyReason; leads = is ∙ released AnyReason; allowed = refl }

  refusal_released : (which : Aim) (way : Way) (place : ℕ) (look : List DoorEntry) (reply : Reply) → step_of which (stood_of which way) (AtDoor place (release_act a uuid)) ≡ if_so (same_incarnation (caller_of a) (incarnation a.node a.inc) && bytes_eq uuid uuid) (HasReleased begun Refusal) → IsRefused a look reply → Released which way place reply
  refusal_released which way place look reply is refused = record { reason = Refusal; leads = is ∙ released Refusal; allowed = refused_told a look reply refused }

  release_leads : (which : Aim) (place : ℕ) (look : List DoorEntry) (way : Way) (reply : Reply) → FitsWay which uuid way → MustLetGo which a uuid look way reply → Released which way place reply
  release_leads which place look Unclaimed reply fits must = absurd must
  release_leads Begin place look (Claimed p) reply fits must = refusal_released Begin (Claimed p) place look reply refl must
  release_leads Forget place look (Claimed p) reply fits must = refusal_released Forget (Claimed p) place look reply refl must
  release_leads Begin place look (LookedForRecord p q answers.Absent) reply fits must = refusal_released Begin (LookedForRecord p q answers.Absent) place look reply refl must
  release_leads Forget place look (LookedForRecord p q answers.Absent) reply fits must = refusal_released Forget (LookedForRecord p q answers.Absent) place look reply refl must
  release_leads Begin place look (LookedForRecord p q answer) reply fits must = any_released Begin (LookedForRecord p q answer) place reply refl
  release_leads Forget place look (LookedForRecord p q answer) reply fits must = any_released Forget (LookedForRecord p q answer) place reply refl
  release_leads Begin place look (LookedForMarker p q r answers.Absent) reply fits (is, tells) = absurd (aims_apart is)
  release_leads Forget place look (LookedForMarker p q r answers.Absent) reply fits must = any_released Forget (LookedForMarker p q r answers.Absent) place reply refl
  release_leads Forget place look (LookedForMarker p q r (answers.Found bytes)) reply fits (inl (words, tells)) = found_released p q r place bytes look reply (told Marker uuid bytes) refl (inl tells)
  release_leads Forget place look (LookedForMarker p q r (answers.Found bytes)) reply fits (inr lacks) = found_released p q r place bytes look reply (told Marker uuid bytes) refl (inr lacks)
  release_leads Begin place look (LookedForMarker p q r answer) reply fits must = any_released Begin (LookedForMarker p q r answer) place reply refl
  release_leads Forget place look (LookedForMarker p q r answer) reply fits must = any_released Forget (LookedForMarker p q r answer) place reply refl
  release_leads Begin place look (Deleted p q r bytes id at answer) reply fits must = any_released Begin (Deleted p q r bytes id at answer) place reply refl
  release_leads Forget place look (Deleted p q r bytes id at answer) reply fits must = any_released Forget (Deleted p q r bytes id at answer) place reply refl

  -- where it stands behind its turns: not yet let go, or let go with an answer that may come
  come_none : (way : Way) → FitsWay aim uuid way → led_of aim (begun_turns by node uuid a before front way None) ≡ Some (stood way)
  come_none way fits = fold-append (advanced step) (Some NotBegun) (first ∷ way_turns a uuid way) [] ∙ way_leads way fits

  come_some : (way : Way) (place : ℕ) (reply : Reply) → FitsWay aim uuid way → (it : Released aim way place reply) → led_of aim (begun_turns by node uuid a before front way (Some place)) ≡ Some (HasReleased begun it.reason)
  come_some way place reply fits it = one_more aim (first ∷ way_turns a uuid way) (AtDoor place (release_act a uuid)) (stood way) (way_leads way fits) ∙ it.leads

  -- ---- the last turn

  module _ (left_so : (inc : ℕ) (h : List NodeEntry) → IsTrue (has_left inc (node_state h)) → IsTrue (ends.is_left inc (node_state h))) (look : List DoorEntry) (last_before : List NodeEntry) (last_front : ℕ) (shut_so : IsTrue (is_fenced (caller_of a) look) → IsTrue (ends.is_shut_out (caller_of a) last_front)) where
    abbrev last : NodeAct → Reply → Turn
    last act reply = turn_at by node last_before last_front act (Some reply)

    -- such a turn passes a test, or tells that the node has left the incarnation
    abbrev Passes : (NodeAct → Option Reply → Bool) → NodeAct → Reply → Type 0
    Passes test act reply = IsTrue (test act (Some reply) || answers_down act (Some reply) && ends.is_left a.inc (node_state last_before))

    closed : (test : NodeAct → Option Reply → Bool) (act : NodeAct) (reply : Reply) → Passes test act reply → IsTrue (is_led_to_end (closed_by ends a test (last act reply)))
    closed test act reply passed = closes_line ends a test node last_before (record { front = last_front; by = by; act = act; answer = Some reply }) here passed

    shut_closed : (act : NodeAct) (reply : Reply) → IsTrue (is_fenced (caller_of a) look) → Passes (gives_back a tells_down) act reply → IsTrue (is_led_to_end (shut_out_by ends a (gives_back a tells_down) (last act reply)))
    shut_closed act reply fenced passed =
        subst (λ (t : Bool). IsTrue (is_led_to_end (if t then closed_by ends a (gives_back a tells_down) (last act reply) else None))) (sym (shut_so fenced)) (closed (gives_back a tells_down) act reply passed)

    -- behind a marker that was found or not, of a forget
    marker_shut : (short nothing : Bool) (act : NodeAct) (reply : Reply) → IsTrue (is_led_to_end (shut_out_by ends a (gives_back a tells_down) (last act reply))) → IsTrue (is_led_to_end (step_of Forget (if short then FoundShort begun else if nothing then FoundUnused begun else MustRelease begun) (last act reply)))
    marker_shut true nothing act reply shut = shut
    marker_shut false true act reply shut = shut
    marker_shut false false act reply shut = shut

    -- where the incarnation was fenced before the claim was let go
    shut_led : (which : Aim) (way : Way) (act : NodeAct) (reply : Reply) → (way ≡ Unclaimed → ⊥) → ((p q r : ℕ) → way ≡ LookedForMarker p q r answers.Absent → which ≡ Forget) → IsTrue (is_led_to_end (shut_out_by ends a (gives_back a tells_down) (last act reply))) → IsTrue (is_led_to_end (step_of which (stood_of which way) (last act reply)))
    shut_led which Unclaimed act reply not may shut = absurd (not refl)
    shut_led Begin (Claimed p) act reply not may shut = shut
    shut_led Forget (Claimed p) act reply not may shut = shut
    shut_led Begin (LookedForRecord p q answers.Absent) act reply not may shut = shut
    shut_led Forget (LookedForRecord p q answers.Absent) act reply not may shut = shut
    shut_led Begin (LookedForRecord p q answer) act reply not may shut = shut
    shut_led Forget (LookedForRecord p q answer) act reply not may shut = shut
    shut_led Begin (LookedForMarker p q r answers.Absent) act reply not may shut = absurd (aims_apart (may p q r refl))
    shut_led Begin (LookedForMarker p q r answer) act reply not may shut = shut
    shut_led Forget (LookedForMarker p q r answer) act reply not may shut = marker_shut (finds_short uuid answer) (finds_nothing answer) act reply shut
    shut_led Begin (Deleted p q r bytes id at answer) act reply not may shut = shut
    shut_led Forget (Deleted p q r bytes id at answer) act reply not may shut = shut

    -- the claim wasn't made
    unclaimed_led : (which : Aim) (act : NodeAct) (reply : Reply) → Passes (gives_back a tells_unclaimed) act reply → IsTrue (is_led_to_end (step_of which (Admitted begun) (last act reply)))
    unclaimed_led Begin act reply passed = closed (gives_back a tells_unclaimed) act reply passed
    unclaimed_led Forget act reply passed = closed (gives_back a tells_unclaimed) act reply passed

    -- behind the release
    let_go_led : (which : Aim) (reason : Reason) (act : NodeAct) (reply : Reply) → Passes (gives_back a (allows reason)) act reply → IsTrue (is_led_to_end (step_of which (HasReleased begun reason) (last act reply)))
    let_go_led Begin reason act reply passed = closed (gives_back a (allows reason)) act reply passed
    let_go_led Forget reason act reply passed = closed (gives_back a (allows reason)) act reply passed

    abbrev every : Way → Option ℕ → NodeAct → Reply → List Turn
    every way release act reply = begun_turns by node uuid a before front way release ++ last act reply ∷ []

    ended : (way : Way) (release : Option ℕ) (at : Progress) (act : NodeAct) (reply : Reply) → led_of aim (begun_turns by node uuid a before front way release) ≡ Some at → IsTrue (is_led_to_end (step at (last act reply))) → IsTrue (is_led_to_end (led_of aim (every way release act reply)))
    ended way release at act reply led over = subst (λ (o : Option Progress). IsTrue (is_led_to_end o)) (sym (one_more aim (begun_turns by node uuid a before front way release) (last act reply) at led)) over

    down_told : (its : Reply) → its ≡ replies.NodeDown a.node a.inc → IsTrue (tells_down (Some its))
    down_told its is = subst (λ (r : Reply). IsTrue (tells_down (Some r))) (sym is) refl

    -- one that takes the attempt away
    abbrev Given : Reply → NodeAct → Reply → Type 0
    Given its act reply = (test : Option Reply → Bool) → IsTrue (test (Some its)) → Passes (gives_back a test) act reply

    shut_ended : (way : Way) (its : Reply) → FitsWay aim uuid way → (way ≡ Unclaimed → ⊥) → ((p q r : ℕ) → way ≡ LookedForMarker p q r answers.Absent → aim ≡ Forget) → IsShutOut a look its → (act : NodeAct) (reply : Reply) → Given its act reply → IsTrue (is_led_to_end (led_of aim (every way None act reply)))
    shut_ended way its fits not may (is, fenced) act reply passes =
        ended way None (stood way) act reply (come_none way fits) (shut_led aim way act reply not may (shut_closed act reply fenced (passes tells_down (down_told its is))))

    taken_away : (way : Way) (release : Option ℕ) (its : Reply) → FitsWay aim uuid way → MayTell aim front a uuid look way release its → (act : NodeAct) (reply : Reply) → Given its act reply → IsTrue (is_led_to_end (led_of aim (every way release act reply)))
    taken_away way (Some place) its fits tells act reply passes =
        let it = release_leads aim place look way its fits tells in
        ended way (Some place) (HasReleased begun it.reason) act reply (come_some way place its fits it) (let_go_led aim it.reason act reply (passes (allows it.reason) it.allowed))
    taken_away Unclaimed None its fits tells act reply passes = ended Unclaimed None (Admitted begun) act reply (come_none Unclaimed fits) (unclaimed_led aim act reply (passes tells_unclaimed (unclaimed_told front a uuid look its tells)))
    taken_away (Claimed p) None its fits tells act reply passes = shut_ended (Claimed p) its fits (λ e. cc) (λ p q r e. cc) tells act reply passes
    taken_away (LookedForRecord p q answer) None its fits tells act reply passes = shut_ended (LookedForRecord p q answer) its fits (λ e. cc) (λ p q r e. cc) tells act reply passes
    taken_away (LookedForMarker p q r answers.Absent) None its fits tells act reply passes = shut_ended (LookedForMarker p q r answers.Absent) its fits (λ e. cc) (λ p q r e. tells.0) tells.1 act reply passes
    taken_away (LookedForMarker p q r (answers.Found bytes)) None its fits tells act reply passes = shut_ended (LookedForMarker p q r (answers.Found bytes)) its fits (λ e. cc) (λ p q r e. cc) tells act reply passes
    taken_away (LookedForMarker p q r answers.Failed) None its fits tells act reply passes = shut_ended (LookedForMarker p q r answers.Failed) its fits (λ e. cc) (λ p q r e. cc) tells act reply passes
    taken_away (LookedForMarker p q r answers.Done) None its fits tells act reply passes = shut_ended (LookedForMarker p q r answers.Done) its fits (λ e. cc) (λ p q r e. cc) tells act reply passes
    taken_away (LookedForMarker p q r (answers.Page pairs)) None its fits tells act reply passes = shut_ended (LookedForMarker p q r (answers.Page pairs)) its fits (λ e. cc) (λ p q r e. cc) tells act reply passes
    taken_away (Deleted p q r bytes id at answer) None its fits tells act reply passes = shut_ended (Deleted p q r bytes id at answer) its fits (λ e. cc) (λ p q r e. cc) tells act reply passes

    -- one where nothing was found, of a begin
    unused_led : (which : Aim) → which ≡ Begin → (act : NodeAct) (reply : Reply) → Passes (begins_running a) act reply → IsTrue (is_led_to_end (step_of which (stood_of which (LookedForMarker 0 0 0 answers.Absent)) (last act reply)))
    unused_led Begin is act reply passed = or_led _ _ (closed (begins_running a) act reply passed)
    unused_led Forget is act reply passed = absurd (aims_apart (sym is))

    run_led : (way : Way) (release : Option ℕ) → FitsWay aim uuid way → IsUnused aim way release → (act : NodeAct) (reply : Reply) → Passes (begins_running a) act reply → IsTrue (is_led_to_end (led_of aim (every way release act reply)))
    run_led (LookedForMarker p q r answers.Absent) None fits unused act reply passed =
        ended (LookedForMarker p q r answers.Absent) None (stood (LookedForMarker 0 0 0 answers.Absent)) act reply (come_none (LookedForMarker p q r answers.Absent) fits ∙ ap (λ (s : Progress). Some s) (same_stand aim)) (unused_led aim unused act reply passed)
      where
        same_stand : (which : Aim) → stood_of which (LookedForMarker p q r answers.Absent) ≡ stood_of which (LookedForMarker 0 0 0 answers.Absent)
        same_stand Begin = refl
        same_stand Forget = refl
    run_led (LookedForMarker p q r answers.Absent) (Some place) fits unused act reply passed = absurd unused
    run_led (LookedForMarker p q r (answers.Found bytes)) release fits unused act reply passed = absurd unused
    run_led (LookedForMarker p q r answers.Failed) release fits unused act reply passed = absurd unused
    run_led (LookedForMarker p q r answers.Done) release fits unused act reply passed = absurd unused
    run_led (LookedForMarker p q r (answers.Page pairs)) release fits unused act reply passed = absurd unused
    run_led Unclaimed release fits unused act reply passed = absurd unused
    run_led (Claimed p) release fits unused act reply passed = absurd unused
    run_led (LookedForRecord p q answer) release fits unused act reply passed = absurd unused
    run_led (Deleted p q r bytes id at answer) release fits unused act reply passed = absurd unused

    -- all of it leads to the end
    pub led_to_end : (way : Way) (release : Option ℕ) (closing : Closing) → FitsWay aim uuid way → Closes aim front a uuid look way release last_before closing → IsTrue (is_led_to_end (leads_to (asks aim uuid node) nodes ends (begun_turns by node uuid a before front way release ++ last (closing_act a closing) (closing_reply a uuid closing) ∷ [])))
    led_to_end way release IsBegun fits (unused, same) = run_led way release fits unused (acts.Begin a) (replies.Begun uuid) (or_left _ _ (same_itself a))
    led_to_end way release (IsGivenBack reply) fits (may, tells) = taken_away way release reply fits tells (acts.Unadmit a) reply (λ test passed. or_left _ _ (and_from _ _ (same_itself a) passed))
    led_to_end way release IsDown fits (left, None, unused) = run_led way release fits unused acts.Nothing (replies.NodeDown a.node a.inc) (left_so a.inc last_before left)
    led_to_end way release IsDown fits (left, Some reply, tells) = taken_away way release reply fits tells acts.Nothing (replies.NodeDown a.node a.inc) (λ test passed. left_so a.inc last_before left)

  -- ---- one that goes on

  pub goes_on : (look : List DoorEntry) (way : Way) (release : Option ℕ) → FitsWay aim uuid way → ((place : ℕ) → release ≡ Some place → (reply : Reply) × MustLetGo aim a uuid look way reply) → IsTrue (is_some (leads_to (asks aim uuid node) nodes ends (begun_turns by node uuid a before front way release)))
  goes_on look way None fits must = subst (λ (o : Option Progress). IsTrue (is_some o)) (sym (come_none way fits)) refl
  goes_on look way (Some place) fits must =
      let m = must place refl in
      subst (λ (o : Option Progress). IsTrue (is_some o)) (sym (come_some way place m.0 fits (release_leads aim place look way m.0 fits m.1))) refl
