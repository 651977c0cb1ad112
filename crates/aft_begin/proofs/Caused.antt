-- The cause of what a begin or a forget answers behind its first turn.
use Rattle.std.proofs.Common.{◌≡◌, ◌≤◌, ℕ, Bool, true, false, ◌||◌, not, List, [], ◌∷◌, ◌++◌, length, refl, sym, ap, subst, ◌∙◌, inl, inr}
use Rattle.std.specs.Prelude.{IsFalse, IsTrue, None, Option, Some, if◌then◌else◌, map, take}
use Rattle.std.specs.List.{flat_map}
use Rattle.std.specs.Str.{bytes_eq}
use Rattle.std.proofs.lemmas.Bool.{and_from, eq-eqb, false≢true, or_left, or_right}
use Rattle.aft_id.specs.TxnId.{IsUuid}
use Rattle.aft_id.specs.declared.txn_id.TxnId.{TxnId}
use Rattle.aft_keeper.specs.declared.keeper.KeeperAnswer.{KeeperAnswer}
use Rattle.aft_keeper.specs.declared.keeper.KeeperAnswer.TheVariants as answers
use Rattle.aft_keeper.specs.declared.keeper.Pair.{Pair}
use Rattle.aft_records.specs.Commits.{is_listed}
use Rattle.aft_model.specs.declared.caller.Attempt.{Attempt}
use Rattle.aft_model.specs.declared.caller.By.{By}
use Rattle.aft_model.specs.declared.caller.Hold.{Hold}
use Rattle.aft_model.specs.declared.door.DoorEntry.{DoorEntry}
use Rattle.aft_model.specs.declared.node.NodeAct.{NodeAct}
use Rattle.aft_model.specs.declared.node.NodeAct.TheVariants as acts
use Rattle.aft_model.specs.declared.node.NodeEntry.{NodeEntry}
use Rattle.aft_model.specs.declared.reply.Reply.{Reply}
use Rattle.aft_model.specs.declared.reply.Reply.TheVariants as replies
use Rattle.aft_model.specs.Bytes.{are_bytes}
use Rattle.aft_model.specs.Claims.{holds}
use Rattle.aft_model.specs.DoorKnowledge.{ids_in, knows_unused}
use Rattle.aft_model.specs.History.{first_of}
use Rattle.aft_model.specs.Membership.{Incarnation, incarnation, same_incarnation}
use Rattle.aft_model.specs.NodeSights.{is_fenced}
use Rattle.aft_model.specs.NodeState.{boots, newest, node_state, serves}
use Rattle.aft_model.specs.Readings.{marker_name}
use Rattle.aft_model.proofs.Growth.{given_grows}
use Rattle.aft_model.proofs.Ids.{same_id-refl}
use Rattle.aft_model.proofs.OneCommit.{same_itself as caller_itself}
use Rattle.aft_model.proofs.Services.{newest-snoc}
use Rattle.aft_model.proofs.Sights.{bytes_eq-refl}
use Rattle.aft_lines.specs.Causes.{Caused}
use Rattle.aft_lines.specs.CausesBegins.{is_closed, is_held_elsewhere, kept_ids}
use Rattle.aft_lines.specs.CausesNodes.{is_newest_at, is_unserved}
use Rattle.aft_lines.specs.CausesScans.{is_written_name, written_name}
use Rattle.aft_lines.specs.CourseWords.{caller_of}
use Rattle.aft_lines.specs.LineView.{LineView, has_left, last_front, node_turn_in}
use Rattle.aft_lines.specs.Turns.{Turn}
use Rattle.law_attempts.proofs.Newest.{serving_newest}
use Rattle.aft_turns.proofs.Looked.{looked_at}
use Rattle.aft_turns.proofs.Views.{with_words}
use Rattle.aft_turns.proofs.Written.{marker_written, record_written}
use Rattle.aft_begin.specs.declared.aim.Aim.{Aim}
use Rattle.aft_begin.specs.declared.aim.Aim.TheVariants.{Begin, Forget}
use Rattle.aft_begin.specs.declared.looked.Looked.TheVariants.{Shows, Stops}
use Rattle.aft_begin.specs.declared.sought.Sought.{Sought}
use Rattle.aft_begin.specs.declared.sought.Sought.TheVariants.{Marker, Record}
use Rattle.aft_begin.specs.Made.{Admits, Closes, Closing, IsBegun, IsDown, IsGivenBack, begun_turns, closing_act, closing_reply, turn_at}
use Rattle.aft_begin.specs.Seen.{AreWords, Tells, ToldSo, is_short, name_of, read_id, told, told_of}
use Rattle.aft_begin.specs.View.{asks}
use Rattle.aft_begin.specs.Way.{Claimed, Deleted, DeletedSo, FitsWay, IsRefused, IsShutOut, IsTaken, IsUnclaimed, IsUnknown, IsUnused, LookedForMarker, LookedForRecord, MayTell, MustLetGo, ShowsShort, Unclaimed, Way, claim_act, look_act, release_act, release_turns, way_turns}
use Rattle.aft_begin.proofs.Aims.{aims_apart}
use Rattle.aft_begin.proofs.Shown.{found, keeps_marker, keeps_record, short_shown, shows_it, unread}

-- what was found unused is known, whatever follows
abbrev pub entries_of : By → Attempt → List ℕ → List DoorEntry → List DoorEntry
entries_of by a uuid rest =
    record { by = by; act = claim_act a uuid } ∷ record { by = by; act = look_act a uuid Record answers.Absent } ∷ record { by = by; act = look_act a uuid Marker answers.Absent } ∷ rest

pub unused_known : (by : By) (a : Attempt) (uuid : List ℕ) (rest : List DoorEntry) → IsTrue (knows_unused (caller_of a) uuid (entries_of by a uuid rest))
unused_known by a uuid rest =
    or_left _ _ (and_from _ _ (and_from _ _ (caller_itself (caller_of a)) (bytes_eq-refl uuid))
    (or_left _ _ (and_from _ _ (and_from _ _ (caller_itself (caller_of a)) (bytes_eq-refl (name_of Record uuid)))
    (or_left _ _ (and_from _ _ (and_from _ _ (caller_itself (caller_of a)) (bytes_eq-refl (name_of Marker uuid))) refl)))))

written : (sought : Sought) (uuid : List ℕ) → IsUuid uuid → written_name (name_of sought uuid) ≡ name_of sought uuid
written Record uuid is = record_written uuid is
written Marker uuid is = marker_written uuid is

not_served : (serving booting : Bool) → IsTrue (not (serving || booting)) → IsTrue (not serving)
not_served false booting is = refl
not_served true booting is = absurd (false≢true is)

module _ (by : By) (node : ℕ) (uuid : List ℕ) (hold : Hold) (view : LineView) (a : Attempt) (before : List NodeEntry) (front : ℕ) (admits : Admits node a before) (last_before : List NodeEntry) (last_at : ℕ) where
  -- the line that did these turns
  abbrev ran : Aim → List Turn → LineView
  ran aim turns = with_words (asks aim uuid node) hold turns view

  abbrev first : Turn
  first = turn_at by node before front (acts.Admit a uuid) None

  abbrev last : NodeAct → Reply → Turn
  last act reply = turn_at by node last_before last_at act (Some reply)

  -- all its turns
  abbrev turns_of : Way → Option ℕ → NodeAct → Reply → List Turn
  turns_of way release act reply = begun_turns by node uuid a before front way release ++ last act reply ∷ []

  newest_is : newest (before ++ record { front = front; by = by; act = acts.Admit a uuid; answer = None } ∷ []) ≡ a.inc
  newest_is = newest-snoc before (record { front = front; by = by; act = acts.Admit a uuid; answer = None }) ∙ serving_newest node admits.capacity a.inc before admits.legal admits.serving

  its_node : (aim : Aim) (rest : List Turn) → IsTrue (is_newest_at (caller_of a) node (ran aim (first ∷ rest)))
  its_node aim rest = and_from _ _ (eq-eqb a.node node admits.place) (eq-eqb a.inc (newest (before ++ record { front = front; by = by; act = acts.Admit a uuid; answer = None } ∷ [])) (sym newest_is))

  -- ---- the node is down

  shut_out : (aim : Aim) (rest : List Turn) (look more : List DoorEntry) → IsTrue (is_fenced (caller_of a) look) → take (last_front (ran aim (first ∷ rest))) view.seen ≡ look ++ more → Caused (ran aim (first ∷ rest)) (replies.NodeDown a.node a.inc)
  shut_out Begin rest look more fenced begins =
      and_from _ _ (its_node Begin rest) (or_right _ _ (subst (λ (seen : List DoorEntry). IsTrue (is_fenced (caller_of a) seen)) (sym begins) (given_grows _ _ look more fenced)))
  shut_out Forget rest look more fenced begins =
      and_from _ _ (its_node Forget rest) (or_right _ _ (subst (λ (seen : List DoorEntry). IsTrue (is_fenced (caller_of a) seen)) (sym begins) (given_grows _ _ look more fenced)))

  unserved : (way : Way) (release : Option ℕ) (act : NodeAct) (reply : Reply) → IsTrue (not (serves a.inc (node_state last_before))) → IsTrue (is_unserved a.inc (flat_map node_turn_in (way_turns a uuid way ++ release_turns a uuid release ++ last act reply ∷ [])))
  unserved Unclaimed None act reply is = or_left _ _ is
  unserved Unclaimed (Some place) act reply is = or_left _ _ is
  unserved (Claimed p) None act reply is = or_left _ _ is
  unserved (Claimed p) (Some place) act reply is = or_left _ _ is
  unserved (LookedForRecord p q answer) None act reply is = or_left _ _ is
  unserved (LookedForRecord p q answer) (Some place) act reply is = or_left _ _ is
  unserved (LookedForMarker p q r answer) None act reply is = or_left _ _ is
  unserved (LookedForMarker p q r answer) (Some place) act reply is = or_left _ _ is
  unserved (Deleted p q r bytes id at answer) None act reply is = or_left _ _ is
  unserved (Deleted p q r bytes id at answer) (Some place) act reply is = or_left _ _ is

  -- the turns of one that was left, behind its first
  abbrev left_turns : Way → Option ℕ → List Turn
  left_turns way release = way_turns a uuid way ++ release_turns a uuid release ++ last acts.Nothing (replies.NodeDown a.node a.inc) ∷ []

  left : (aim : Aim) (way : Way) (release : Option ℕ) → IsTrue (has_left a.inc (node_state last_before)) → Caused (ran aim (first ∷ left_turns way release)) (replies.NodeDown a.node a.inc)
  left aim way release is = by_aim aim
    where
      gone : IsTrue (is_unserved a.inc (flat_map node_turn_in (left_turns way release)))
      gone = unserved way release acts.Nothing (replies.NodeDown a.node a.inc) (not_served (serves a.inc (node_state last_before)) (boots a.inc (node_state last_before)) is)

      by_aim : (which : Aim) → Caused (ran which (first ∷ left_turns way release)) (replies.NodeDown a.node a.inc)
      by_aim Begin = and_from _ _ (its_node Begin (left_turns way release)) (or_left _ _ (or_right (not (serves a.inc (node_state before))) _ gone))
      by_aim Forget = and_from _ _ (its_node Forget (left_turns way release)) (or_left _ _ (or_right (not (serves a.inc (node_state before))) _ gone))

  -- ---- the claim was refused

  abbrev untold : Reply → List Turn
  untold reply = first ∷ last (acts.Unadmit a) reply ∷ []

  elsewhere : (aim : Aim) (look more : List DoorEntry) (n i : ℕ) → front ≤ length look → take last_at view.seen ≡ look ++ more → IsTrue (holds (incarnation n i) uuid look) → IsFalse (same_incarnation (incarnation n i) (caller_of a)) → IsTrue (is_held_elsewhere (incarnation n i) uuid node (ran aim (untold (replies.Busy n i))))
  elsewhere aim look more n i low begins holds_it other =
      and_from _ _ (ap not (subst (λ (who : Incarnation). IsFalse (same_incarnation (incarnation n i) who)) (ap (λ (m : ℕ). incarnation m a.inc) admits.place ∙ ap (incarnation node) (sym newest_is)) other))
      (looked_at (holds (incarnation n i) uuid) look more view.seen front last_at low begins holds_it)

  held : (aim : Aim) (look more : List DoorEntry) (n i : ℕ) → front ≤ length look → take last_at view.seen ≡ look ++ more → IsTrue (holds (incarnation n i) uuid look) → IsFalse (same_incarnation (incarnation n i) (caller_of a)) → Caused (ran aim (untold (replies.Busy n i))) (replies.Busy n i)
  held Begin look more n i low begins holds_it other = or_right _ _ (or_left (is_held_elsewhere (incarnation n i) uuid node (ran Begin (untold (replies.Busy n i)))) false (elsewhere Begin look more n i low begins holds_it other))
  held Forget look more n i low begins holds_it other = or_right _ _ (elsewhere Forget look more n i low begins holds_it other)

  forgotten : (aim : Aim) (look more : List DoorEntry) → front ≤ length look → take last_at view.seen ≡ look ++ more → IsTrue (is_closed uuid look) → Caused (ran aim (untold (replies.Forgotten uuid))) (replies.Forgotten uuid)
  forgotten Begin look more low begins closed =
      or_left _ _ (and_from _ _ (and_from _ _ (bytes_eq-refl uuid) refl) (looked_at (is_closed uuid) look more view.seen front last_at low begins closed))
  forgotten Forget look more low begins closed =
      and_from _ _ (and_from _ _ (bytes_eq-refl uuid) refl) (looked_at (is_closed uuid) look more view.seen front last_at low begins closed)

  -- ---- what a look showed

  -- the turns that a look which showed something leads through
  abbrev shown_way : Sought → ℕ → ℕ → ℕ → KeeperAnswer → Way
  shown_way Record p q r answer = LookedForRecord p q answer
  shown_way Marker p q r answer = LookedForMarker p q r answer

  abbrev shown_turns : Sought → ℕ → ℕ → ℕ → ℕ → KeeperAnswer → Reply → List Turn
  shown_turns sought p q r place answer reply = turns_of (shown_way sought p q r answer) (Some place) (acts.Unadmit a) reply

  committed : (sought : Sought) (p q r place : ℕ) (bytes : List ℕ) (id : TxnId) → ids_in (found sought uuid bytes) ≡ id ∷ [] → Caused (ran Begin (shown_turns sought p q r place (answers.Found bytes) (replies.Committed id))) (replies.Committed id)
  committed Record p q r place bytes id ids = or_left _ _ (or_left _ false (subst (λ (its : List TxnId). IsTrue (is_listed id its)) (sym ids) (or_left _ _ (same_id-refl id))))
  committed Marker p q r place bytes id ids = or_left _ _ (or_left _ false (subst (λ (its : List TxnId). IsTrue (is_listed id its)) (sym ids) (or_left _ _ (same_id-refl id))))

  -- a forget is told of a record or a full marker
  kept : (sought : Sought) (p q r place : ℕ) (bytes : List ℕ) (id : TxnId) → IsTrue (is_listed id (kept_ids (found sought uuid bytes))) → Caused (ran Forget (shown_turns sought p q r place (answers.Found bytes) (replies.Kept id))) (replies.Kept id)
  kept Record p q r place bytes id listed = or_left _ _ listed
  kept Marker p q r place bytes id listed = or_left _ _ listed

  -- the first damage that was shown is this pair
  first_damage : (is_uuid : IsUuid uuid) (sought : Sought) (reads : Bool) → reads ≡ false → (bytes : List ℕ) → IsTrue (is_written_name (name_of sought uuid) (first_of (map (λ (pair : Pair). pair.name) (if not reads || false then found sought uuid bytes ∷ [] else []) ++ [])))
  first_damage is_uuid sought reads none bytes =
      subst (λ (t : Bool). IsTrue (is_written_name (name_of sought uuid) (first_of (map (λ (pair : Pair). pair.name) (if not t || false then found sought uuid bytes ∷ [] else []) ++ [])))) (sym none)
      (subst (λ (name : List ℕ). IsTrue (bytes_eq (name_of sought uuid) name)) (sym (written sought uuid is_uuid)) (bytes_eq-refl (name_of sought uuid)))

  damaged : (aim : Aim) (is_uuid : IsUuid uuid) (sought : Sought) (p q r place : ℕ) (bytes : List ℕ) → IsTrue (are_bytes bytes) → ((id : TxnId) → read_id sought bytes ≡ Some id → bytes_eq uuid id.uuid ≡ false) → Caused (ran aim (shown_turns sought p q r place (answers.Found bytes) (replies.Damaged (name_of sought uuid)))) (replies.Damaged (name_of sought uuid))
  damaged Begin is_uuid Record p q r place bytes made other = and_from _ _ (first_damage is_uuid Record _ (unread Record uuid bytes is_uuid made other) bytes) refl
  damaged Begin is_uuid Marker p q r place bytes made other = and_from _ _ (first_damage is_uuid Marker _ (unread Marker uuid bytes is_uuid made other) bytes) refl
  damaged Forget is_uuid Record p q r place bytes made other = and_from _ _ (first_damage is_uuid Record _ (unread Record uuid bytes is_uuid made other) bytes) refl
  damaged Forget is_uuid Marker p q r place bytes made other = and_from _ _ (first_damage is_uuid Marker _ (unread Marker uuid bytes is_uuid made other) bytes) refl

  -- an id of the UUID was read
  shown_so : (aim : Aim) (sought : Sought) (p q r place : ℕ) (bytes : List ℕ) (id : TxnId) → read_id sought bytes ≡ Some id → IsTrue (bytes_eq uuid id.uuid) → (refused : Type 0) (reply : Reply) → ToldSo aim sought refused (Shows id (is_short sought bytes)) reply → (refused → Caused (ran aim (shown_turns sought p q r place (answers.Found bytes) reply)) reply) → Caused (ran aim (shown_turns sought p q r place (answers.Found bytes) reply)) reply
  shown_so Begin sought p q r place bytes id is same refused reply tells otherwise = subst (λ (its : Reply). Caused (ran Begin (shown_turns sought p q r place (answers.Found bytes) its)) its) (sym tells) (committed sought p q r place bytes id (shows_it sought uuid bytes id is same))
  shown_so Forget Record p q r place bytes id is same refused reply tells otherwise = subst (λ (its : Reply). Caused (ran Forget (shown_turns Record p q r place (answers.Found bytes) its)) its) (sym tells) (kept Record p q r place bytes id (keeps_record uuid bytes id is same))
  shown_so Forget Marker p q r place bytes id is same refused reply tells otherwise = by_short (is_short Marker bytes) refl tells
    where
      by_short : (short : Bool) → is_short Marker bytes ≡ short → ToldSo Forget Marker refused (Shows id short) reply → Caused (ran Forget (shown_turns Marker p q r place (answers.Found bytes) reply)) reply
      by_short true short tells = otherwise tells
      by_short false full tells = subst (λ (its : Reply). Caused (ran Forget (shown_turns Marker p q r place (answers.Found bytes) its)) its) (sym tells) (kept Marker p q r place bytes id (keeps_marker uuid bytes id is same full))

  -- it is answered so, behind what a look showed
  abbrev ToldHere : Aim → Sought → ℕ → ℕ → ℕ → ℕ → List ℕ → Reply → Type 0
  ToldHere aim sought p q r place bytes reply = Caused (ran aim (shown_turns sought p q r place (answers.Found bytes) reply)) reply

  told_so : (aim : Aim) (sought : Sought) (p q r place : ℕ) (bytes : List ℕ) (refused : Type 0) (reply : Reply) → AreWords uuid bytes → ToldSo aim sought refused (told sought uuid bytes) reply → (refused → Caused (ran aim (shown_turns sought p q r place (answers.Found bytes) reply)) reply) → Caused (ran aim (shown_turns sought p q r place (answers.Found bytes) reply)) reply
  told_so aim sought p q r place bytes refused reply words tells otherwise = by_id (read_id sought bytes) refl tells
    where
      some_id : (x y : TxnId) → Some x ≡ Some y → x ≡ y
      some_id x y e = cc

      damage_told : ((id : TxnId) → read_id sought bytes ≡ Some id → bytes_eq uuid id.uuid ≡ false) → reply ≡ replies.Damaged (name_of sought uuid) → ToldHere aim sought p q r place bytes reply
      damage_told other is = subst (ToldHere aim sought p q r place bytes) (sym is) (damaged aim words.0 sought p q r place bytes words.1 other)

      by_id : (read : Option TxnId) → read_id sought bytes ≡ read → ToldSo aim sought refused (told_of (name_of sought uuid) uuid (is_short sought bytes) read) reply → ToldHere aim sought p q r place bytes reply
      by_id None is tells = damage_told (λ id its. absurd (none_is id (sym is ∙ its))) tells
        where
          none_is : (id : TxnId) → None ≡ Some id → ⊥
          none_is id e = cc
      by_id (Some id) is tells = by_test (bytes_eq uuid id.uuid) refl tells
        where
          by_test : (same : Bool) → bytes_eq uuid id.uuid ≡ same → ToldSo aim sought refused (if same then Shows id (is_short sought bytes) else Stops (replies.Damaged (name_of sought uuid))) reply → ToldHere aim sought p q r place bytes reply
          by_test true same tells = shown_so aim sought p q r place bytes id is same refused reply tells otherwise
          by_test false differs tells = damage_told (λ other its. subst (λ (i : TxnId). bytes_eq uuid i.uuid ≡ false) (some_id id other (sym is ∙ its)) differs) tells

  failed : (aim : Aim) (sought : Sought) (p q r place : ℕ) → Caused (ran aim (shown_turns sought p q r place answers.Failed replies.StoreFault)) replies.StoreFault
  failed Begin Record p q r place = refl
  failed Begin Marker p q r place = refl
  failed Forget Record p q r place = refl
  failed Forget Marker p q r place = refl

  -- ---- the cause

  -- where it lets go or gives up, with this answer, the line has its cause
  abbrev Given : Aim → Way → Option ℕ → Reply → Type 0
  Given aim way release reply = Caused (ran aim (turns_of way release (acts.Unadmit a) reply)) reply

  -- what the door was at the last look, the line has seen
  abbrev Seen : List DoorEntry → List DoorEntry → Type 0
  Seen look more = take last_at view.seen ≡ look ++ more

  last_seen : (aim : Aim) (way : Way) (release : Option ℕ) (act : NodeAct) (reply : Reply) → last_front (ran aim (turns_of way release act reply)) ≡ last_at
  last_seen aim Unclaimed None act reply = refl
  last_seen aim Unclaimed (Some place) act reply = refl
  last_seen aim (Claimed p) None act reply = refl
  last_seen aim (Claimed p) (Some place) act reply = refl
  last_seen aim (LookedForRecord p q answer) None act reply = refl
  last_seen aim (LookedForRecord p q answer) (Some place) act reply = refl
  last_seen aim (LookedForMarker p q r answer) None act reply = refl
  last_seen aim (LookedForMarker p q r answer) (Some place) act reply = refl
  last_seen aim (Deleted p q r bytes id at answer) None act reply = refl
  last_seen aim (Deleted p q r bytes id at answer) (Some place) act reply = refl

  down_given : (aim : Aim) (look more : List DoorEntry) (way : Way) (release : Option ℕ) → Seen look more → IsTrue (is_fenced (caller_of a) look) → Given aim way release (replies.NodeDown a.node a.inc)
  down_given aim look more way release begins fenced =
      shut_out aim ((way_turns a uuid way ++ release_turns a uuid release) ++ last (acts.Unadmit a) (replies.NodeDown a.node a.inc) ∷ []) look more fenced
      (ap (λ (n : ℕ). take n view.seen) (last_seen aim way release (acts.Unadmit a) (replies.NodeDown a.node a.inc)) ∙ begins)

  refused_given : (aim : Aim) (look more : List DoorEntry) (way : Way) (release : Option ℕ) (reply : Reply) → Seen look more → IsRefused a look reply → Given aim way release reply
  refused_given aim look more way release reply begins (inl (is, fenced)) = subst (Given aim way release) (sym is) (down_given aim look more way release begins fenced)
  refused_given aim look more way release reply begins (inr is) = subst (Given aim way release) (sym is) refl

  shown_given : (aim : Aim) (sought : Sought) (p q r place : ℕ) (absent refused : Type 0) (answer : KeeperAnswer) (reply : Reply) → Tells aim sought uuid absent refused answer reply → (absent → answer ≡ answers.Absent → Given aim (shown_way sought p q r answer) (Some place) reply) → (refused → Given aim (shown_way sought p q r answer) (Some place) reply) → Given aim (shown_way sought p q r answer) (Some place) reply
  shown_given aim sought p q r place absent refused answers.Absent reply tells if_absent if_refused = if_absent tells refl
  shown_given aim sought p q r place absent refused (answers.Found bytes) reply (inl (words, tells)) if_absent if_refused = told_so aim sought p q r place bytes refused reply words tells if_refused
  shown_given aim sought p q r place absent refused (answers.Found bytes) reply (inr is) if_absent if_refused = subst (Given aim (shown_way sought p q r (answers.Found bytes)) (Some place)) (sym is) refl
  shown_given aim sought p q r place absent refused answers.Failed reply is if_absent if_refused = subst (Given aim (shown_way sought p q r answers.Failed) (Some place)) (sym is) (failed aim sought p q r place)
  shown_given aim sought p q r place absent refused answers.Done reply is if_absent if_refused = subst (Given aim (shown_way sought p q r answers.Done) (Some place)) (sym is) refl
  shown_given aim sought p q r place absent refused (answers.Page pairs) reply is if_absent if_refused = subst (Given aim (shown_way sought p q r (answers.Page pairs)) (Some place)) (sym is) refl

  whose : caller_of a ≡ incarnation node (newest (before ++ record { front = front; by = by; act = acts.Admit a uuid; answer = None } ∷ []))
  whose = ap (λ (n : ℕ). incarnation n a.inc) admits.place ∙ ap (incarnation node) (sym newest_is)

  -- a forget that found neither
  unknown_given : (aim : Aim) (p q r place : ℕ) (reply : Reply) → IsUnknown aim uuid reply → Given aim (LookedForMarker p q r answers.Absent) (Some place) reply
  unknown_given Forget p q r place reply (aim, is) =
      subst (Given Forget (LookedForMarker p q r answers.Absent) (Some place)) (sym is)
      (and_from _ _ (bytes_eq-refl uuid)
      (subst (λ (who : Incarnation). IsTrue (knows_unused who uuid (entries_of view.by a uuid (record { by = view.by; act = release_act a uuid } ∷ [])))) whose (unused_known view.by a uuid (record { by = view.by; act = release_act a uuid } ∷ []))))
  unknown_given Begin p q r place reply (aim, is) = absurd (aims_apart aim)

  -- a forget that deleted
  deleted_given : (aim : Aim) (p q r : ℕ) (bytes : List ℕ) (id : TxnId) (at place : ℕ) (answer : KeeperAnswer) (reply : Reply) → ShowsShort aim uuid bytes id → DeletedSo id answer reply → Given aim (Deleted p q r bytes id at answer) (Some place) reply
  deleted_given Begin p q r bytes id at place answer reply (aim, shown) deleted = absurd (aims_apart aim)
  deleted_given Forget p q r bytes id at place answers.Done reply (aim, shown) is =
      let short = short_shown uuid bytes id shown in
      subst (Given Forget (Deleted p q r bytes id at answers.Done) (Some place)) (sym is)
      (or_left _ _ (and_from _ _ (or_left _ _ short.1) (or_left _ _ (subst (λ (u : List ℕ). IsTrue (bytes_eq (marker_name u) (marker_name uuid))) short.0 (bytes_eq-refl (marker_name uuid))))))
  deleted_given Forget p q r bytes id at place answers.Failed reply (aim, shown) is = subst (Given Forget (Deleted p q r bytes id at answers.Failed) (Some place)) (sym is) refl
  deleted_given Forget p q r bytes id at place answers.Absent reply fits deleted = absurd deleted
  deleted_given Forget p q r bytes id at place (answers.Found other) reply fits deleted = absurd deleted
  deleted_given Forget p q r bytes id at place (answers.Page pairs) reply fits deleted = absurd deleted

  let_go_given : (aim : Aim) (look more : List DoorEntry) (way : Way) (place : ℕ) (reply : Reply) → Seen look more → FitsWay aim uuid way → MustLetGo aim a uuid look way reply → Given aim way (Some place) reply
  let_go_given aim look more Unclaimed place reply begins fits must = absurd must
  let_go_given aim look more (Claimed p) place reply begins fits must = refused_given aim look more (Claimed p) (Some place) reply begins must
  let_go_given aim look more (LookedForRecord p q answer) place reply begins fits must =
      shown_given aim Record p q 0 place (IsRefused a look reply) ⊥ answer reply must (λ refused is. refused_given aim look more (LookedForRecord p q answer) (Some place) reply begins refused) (λ never. absurd never)
  let_go_given aim look more (LookedForMarker p q r answer) place reply begins fits must =
      shown_given aim Marker p q r place (IsUnknown aim uuid reply) (IsRefused a look reply) answer reply must
      (λ unknown is. subst (λ (an : KeeperAnswer). Given aim (LookedForMarker p q r an) (Some place) reply) (sym is) (unknown_given aim p q r place reply unknown))
      (λ refused. refused_given aim look more (LookedForMarker p q r answer) (Some place) reply begins refused)
  let_go_given aim look more (Deleted p q r bytes id at answer) place reply begins fits must = deleted_given aim p q r bytes id at place answer reply fits must

  unclaimed_given : (aim : Aim) (look more : List DoorEntry) (reply : Reply) → Seen look more → IsUnclaimed front a uuid look reply → Given aim Unclaimed None reply
  unclaimed_given aim look more reply begins (inl refused) = refused_given aim look more Unclaimed None reply begins refused
  unclaimed_given aim look more reply begins (inr (taken, low)) = by_taken taken
    where
      by_taken : IsTaken a uuid look reply → Given aim Unclaimed None reply
      by_taken (inl (n, i, is, holds_it, other)) = subst (Given aim Unclaimed None) (sym is) (held aim look more n i low begins holds_it other)
      by_taken (inr (is, closed)) = subst (Given aim Unclaimed None) (sym is) (forgotten aim look more low begins closed)

  shut_given : (aim : Aim) (look more : List DoorEntry) (way : Way) (reply : Reply) → Seen look more → IsShutOut a look reply → Given aim way None reply
  shut_given aim look more way reply begins (is, fenced) = subst (Given aim way None) (sym is) (down_given aim look more way None begins fenced)

  given : (aim : Aim) (look more : List DoorEntry) (way : Way) (release : Option ℕ) (reply : Reply) → Seen look more → FitsWay aim uuid way → MayTell aim front a uuid look way release reply → Given aim way release reply
  given aim look more way (Some place) reply begins fits tells = let_go_given aim look more way place reply begins fits tells
  given aim look more Unclaimed None reply begins fits tells = unclaimed_given aim look more reply begins tells
  given aim look more (Claimed p) None reply begins fits tells = shut_given aim look more (Claimed p) reply begins tells
  given aim look more (LookedForRecord p q answer) None reply begins fits tells = shut_given aim look more (LookedForRecord p q answer) reply begins tells
  given aim look more (LookedForMarker p q r answers.Absent) None reply begins fits (is, tells) = shut_given aim look more (LookedForMarker p q r answers.Absent) reply begins tells
  given aim look more (LookedForMarker p q r answer) None reply begins fits tells = shut_given aim look more (LookedForMarker p q r answer) reply begins tells
  given aim look more (Deleted p q r bytes id at answer) None reply begins fits tells = shut_given aim look more (Deleted p q r bytes id at answer) reply begins tells

  -- it runs
  begun : (aim : Aim) (way : Way) (release : Option ℕ) → IsUnused aim way release → Caused (ran aim (turns_of way release (acts.Begin a) (replies.Begun uuid))) (replies.Begun uuid)
  begun Begin (LookedForMarker p q r answers.Absent) None unused =
      and_from _ _ (bytes_eq-refl uuid)
      (subst (λ (who : Incarnation). IsTrue (knows_unused who uuid (entries_of view.by a uuid []))) whose (unused_known view.by a uuid []))
  begun Forget (LookedForMarker p q r answers.Absent) None unused = absurd (aims_apart (sym unused))
  begun aim (LookedForMarker p q r answers.Absent) (Some place) unused = absurd unused
  begun aim (LookedForMarker p q r (answers.Found bytes)) release unused = absurd unused
  begun aim (LookedForMarker p q r answers.Failed) release unused = absurd unused
  begun aim (LookedForMarker p q r answers.Done) release unused = absurd unused
  begun aim (LookedForMarker p q r (answers.Page pairs)) release unused = absurd unused
  begun aim Unclaimed release unused = absurd unused
  begun aim (Claimed p) release unused = absurd unused
  begun aim (LookedForRecord p q answer) release unused = absurd unused
  begun aim (Deleted p q r bytes id at answer) release unused = absurd unused

  -- the turns, put together in another way
  again : (way : Way) (release : Option ℕ) (act : NodeAct) (reply : Reply) → first ∷ way_turns a uuid way ++ release_turns a uuid release ++ last act reply ∷ [] ≡ turns_of way release act reply
  again Unclaimed None act reply = refl
  again Unclaimed (Some place) act reply = refl
  again (Claimed p) None act reply = refl
  again (Claimed p) (Some place) act reply = refl
  again (LookedForRecord p q answer) None act reply = refl
  again (LookedForRecord p q answer) (Some place) act reply = refl
  again (LookedForMarker p q r answer) None act reply = refl
  again (LookedForMarker p q r answer) (Some place) act reply = refl
  again (Deleted p q r bytes id at answer) None act reply = refl
  again (Deleted p q r bytes id at answer) (Some place) act reply = refl

  pub closing_caused : (aim : Aim) (look more : List DoorEntry) (way : Way) (release : Option ℕ) (closing : Closing) → Seen look more → FitsWay aim uuid way → Closes aim front a uuid look way release last_before closing → Caused (ran aim (turns_of way release (closing_act a closing) (closing_reply a uuid closing))) (closing_reply a uuid closing)
  closing_caused aim look more way release IsBegun begins fits (unused, same) = begun aim way release unused
  closing_caused aim look more way release (IsGivenBack reply) begins fits (may, tells) = given aim look more way release reply begins fits tells
  closing_caused aim look more way release IsDown begins fits (left_it, pending, ends) =
      subst (λ (turns : List Turn). Caused (ran aim turns) (replies.NodeDown a.node a.inc)) (again way release acts.Nothing (replies.NodeDown a.node a.inc)) (left aim way release left_it)

  pub seen_at_last : (aim : Aim) (way : Way) (release : Option ℕ) (act : NodeAct) (reply : Reply) → last_front (ran aim (turns_of way release act reply)) ≡ last_at
  seen_at_last = last_seen
