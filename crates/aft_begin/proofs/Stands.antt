-- What stands of a line that claims a UUID by the turns that it has made.
use Rattle.std.proofs.Common.{◌≡◌, ◌≤◌, ◌⊎◌, ℕ, Bool, true, false, ◌&&◌, List, [], ◌∷◌, ◌++◌, refl, sym, ap, subst, ◌∙◌, inl, inr, arith}
use Rattle.std.specs.Prelude.{IsTrue, None, Option, Some, if◌then◌else◌, take}
use Rattle.std.specs.List.{flat_map, list_all, list_any}
use Rattle.std.proofs.lemmas.Bool.{and_from, and_parts, false≢true, or_cases, or_left, or_right}
use Rattle.std.proofs.lemmas.List.Folds.{list_all-append}
use Rattle.std.proofs.lemmas.List.Sums.{fold-append}
use Rattle.aft_id.specs.declared.txn_id.TxnId.{TxnId}
use Rattle.aft_keeper.specs.declared.keeper.KeeperAnswer.TheVariants as answers
use Rattle.aft_records.specs.Commits.{is_listed}
use Rattle.aft_model.specs.declared.caller.Attempt.{Attempt}
use Rattle.aft_model.specs.declared.caller.By.{By}
use Rattle.aft_model.specs.declared.caller.Hold.{Hold}
use Rattle.aft_model.specs.declared.door.DoorEntry.{DoorEntry}
use Rattle.aft_model.specs.declared.node.NodeAct.{NodeAct}
use Rattle.aft_model.specs.declared.node.NodeAct.TheVariants as acts
use Rattle.aft_model.specs.declared.node.NodeEntry.{NodeEntry}
use Rattle.aft_model.specs.declared.reply.Reply.{Reply}
use Rattle.aft_model.specs.declared.reply.Reply.TheVariants as replies
use Rattle.aft_model.specs.declared.script.Command.{Command}
use Rattle.aft_model.specs.Attempts.{uuid_of}
use Rattle.aft_model.specs.Committed.{shorts_in}
use Rattle.aft_model.specs.DoorKnowledge.{claims, finds, knows_short_of, knows_unused}
use Rattle.aft_model.specs.History.{followed}
use Rattle.aft_model.specs.Membership.{incarnation}
use Rattle.aft_model.specs.NodeRules.{is_begin_refusal}
use Rattle.aft_model.specs.NodeSights.{has_seen, is_fenced, own_entries}
use Rattle.aft_model.specs.NodeState.{part}
use Rattle.aft_model.specs.Readings.{marker_name}
use Rattle.aft_model.specs.Replies.{is_silent}
use Rattle.aft_model.specs.ScanRun.{same_line}
use Rattle.aft_model.proofs.OneCommit.{same_itself as caller_itself}
use Rattle.aft_model.proofs.Sights.{bytes_eq-refl}
use Rattle.aft_model.proofs.Growth.{given_grows}
use Rattle.aft_lines.specs.Advance.{is_led_to_end}
use Rattle.aft_lines.specs.Causes.{Caused}
use Rattle.aft_lines.specs.CourseWords.{caller_of}
use Rattle.aft_lines.specs.LineCourse.{answers_last}
use Rattle.aft_lines.specs.LineView.{LineView, door_entry_in, ends_of, last_front}
use Rattle.aft_lines.specs.Lines.{attempt_of, node_numbers}
use Rattle.aft_lines.specs.RunsSoFar.{position_of}
use Rattle.aft_lines.specs.Turns.{AtDoor, Turn, answer_in}
use Rattle.aft_turns.specs.Stands.{EndsRightly, GoesRightly, HasLooked, IsUnanswered, RanSo, SeesOwn, end_answer, is_right, last_sees, sees}
use Rattle.aft_turns.specs.Trail.{Trail}
use Rattle.aft_turns.specs.declared.turn.Where.TheVariants as places
use Rattle.aft_turns.proofs.Closed.{led_is_some}
use Rattle.aft_turns.proofs.Views.{by_words, with_words}
use Rattle.aft_begin.specs.declared.aim.Aim.{Aim}
use Rattle.aft_begin.specs.declared.aim.Aim.TheVariants.{Begin, Forget}
use Rattle.aft_begin.specs.declared.looked.Looked.TheVariants.{Shows}
use Rattle.aft_begin.specs.declared.sought.Sought.TheVariants.{Marker, Record}
use Rattle.aft_begin.specs.declared.stage.Stage.{Stage}
use Rattle.aft_begin.specs.declared.stage.Stage.TheVariants.{Begins, Claims, Ended, Forgets, GivesUp, LetsGo, Runs, Seeks}
use Rattle.aft_begin.specs.Made.{Admits, Closes, Closing, EndedAtOnce, EndedLater, HasCome, IsBegun, IsDown, IsGivenBack, begun_turns, closing_act, closing_gives, closing_reply, knows_at, made_at, turn_at}
use Rattle.aft_begin.specs.Seen.{told}
use Rattle.aft_begin.specs.View.{asks, given_at, left_at, next_at}
use Rattle.aft_begin.specs.Way.{Claimed, Deleted, FitsWay, IsUnused, LookedForMarker, LookedForRecord, MustLetGo, Unclaimed, Way, claim_act, look_act, release_turns, way_turns}
use Rattle.aft_begin.proofs.Aims.{aims_apart}
use Rattle.aft_begin.proofs.Caused.{closing_caused, entries_of, seen_at_last, unused_known}
use Rattle.aft_begin.proofs.Leads.{goes_on, led_to_end}
use Rattle.aft_begin.proofs.Shown.{short_shown}
use Rattle.aft_begin.proofs.Once.{ends_once, given_once, goes_once, right_at}

pub done_is : (node : ℕ) (stage : Stage) → next_at node stage ≡ places.Done → (P : Stage → Type 0) → ((given : Option Attempt) → P (Ended given)) → P stage
done_is node (Ended given) done P ended = ended given
done_is node Begins done P ended = absurd (differ done)
  where
    differ : places.Node node ≡ places.Done → ⊥
    differ e = cc
done_is node (Claims a) done P ended = absurd (differ done)
  where
    differ : places.Door ≡ places.Done → ⊥
    differ e = cc
done_is node (Seeks a sought) done P ended = absurd (differ done)
  where
    differ : places.Door ≡ places.Done → ⊥
    differ e = cc
done_is node (Runs a) done P ended = absurd (differ done)
  where
    differ : places.Node node ≡ places.Done → ⊥
    differ e = cc
done_is node (Forgets a id) done P ended = absurd (differ done)
  where
    differ : places.Door ≡ places.Done → ⊥
    differ e = cc
done_is node (LetsGo a reply) done P ended = absurd (differ done)
  where
    differ : places.Door ≡ places.Done → ⊥
    differ e = cc
done_is node (GivesUp a reply) done P ended = absurd (differ done)
  where
    differ : places.Node node ≡ places.Done → ⊥
    differ e = cc

-- one that isn't over has a turn left
pub going_so : (aim : Aim) (node : ℕ) (stage : Stage) → (next_at node stage ≡ places.Done → ⊥) → 1 ≤ left_at aim stage
going_so aim node (Ended given) going = absurd (going refl)
going_so aim node Begins going = omega arith
going_so aim node (Claims a) going = omega arith
going_so aim node (Seeks a Record) going = omega arith
going_so aim node (Seeks a Marker) going = omega arith
going_so aim node (Runs a) going = omega arith
going_so aim node (Forgets a id) going = omega arith
going_so aim node (LetsGo a reply) going = omega arith
going_so aim node (GivesUp a reply) going = omega arith

-- only a begin runs
unused_begins : (aim : Aim) (way : Way) (release : Option ℕ) → IsUnused aim way release → aim ≡ Begin
unused_begins aim (LookedForMarker p q r answers.Absent) None unused = unused
unused_begins aim (LookedForMarker p q r answers.Absent) (Some place) unused = absurd unused
unused_begins aim (LookedForMarker p q r (answers.Found bytes)) release unused = absurd unused
unused_begins aim (LookedForMarker p q r answers.Failed) release unused = absurd unused
unused_begins aim (LookedForMarker p q r answers.Done) release unused = absurd unused
unused_begins aim (LookedForMarker p q r (answers.Page pairs)) release unused = absurd unused
unused_begins aim Unclaimed release unused = absurd unused
unused_begins aim (Claimed p) release unused = absurd unused
unused_begins aim (LookedForRecord p q answer) release unused = absurd unused
unused_begins aim (Deleted p q r bytes id at answer) release unused = absurd unused

module _ (aim : Aim) (by : By) (node : ℕ) (uuid : List ℕ) (a : Attempt) where
  -- the turns that it has made
  abbrev come_turns : List NodeEntry → ℕ → Way → Option ℕ → List Turn
  come_turns before front way release = begun_turns by node uuid a before front way release

  -- those of one that ended so
  abbrev all_turns : List NodeEntry → ℕ → Way → Option ℕ → List NodeEntry → ℕ → Closing → List Turn
  all_turns before front way release last_before last_at closing = come_turns before front way release ++ turn_at by node last_before last_at (closing_act a closing) (Some (closing_reply a uuid closing)) ∷ []

  abbrev asked : Command
  asked = asks aim uuid node

  -- ---- each turn

  module _ (hold : Hold) where
    -- each of some turns is one of such a line
    abbrev AreRight : Aim → List Turn → Type 0
    AreRight which turns = IsTrue (list_all (is_right (asks which uuid node) hold) turns)

    admit_right : (which : Aim) (before : List NodeEntry) (front : ℕ) → IsTrue (is_right (asks which uuid node) hold (turn_at by node before front (acts.Admit a uuid) None))
    admit_right Begin before front = right_at Begin by node uuid hold before front (acts.Admit a uuid) None refl (bytes_eq-refl uuid)
    admit_right Forget before front = right_at Forget by node uuid hold before front (acts.Admit a uuid) None refl (bytes_eq-refl uuid)

    claim_right : (which : Aim) (p : ℕ) → IsTrue (is_right (asks which uuid node) hold (AtDoor p (claim_act a uuid)))
    claim_right Begin p = and_from _ _ (and_from _ _ (bytes_eq-refl uuid) refl) refl
    claim_right Forget p = and_from _ _ (and_from _ _ (bytes_eq-refl uuid) refl) refl

    way_right : (which : Aim) (way : Way) → FitsWay which uuid way → AreRight which (way_turns a uuid way)
    way_right which Unclaimed fits = refl
    way_right which (Claimed p) fits = and_from _ _ (claim_right which p) refl
    way_right Begin (LookedForRecord p q answer) fits = and_from _ _ (claim_right Begin p) refl
    way_right Forget (LookedForRecord p q answer) fits = and_from _ _ (claim_right Forget p) refl
    way_right Begin (LookedForMarker p q r answer) fits = and_from _ _ (claim_right Begin p) refl
    way_right Forget (LookedForMarker p q r answer) fits = and_from _ _ (claim_right Forget p) refl
    way_right Begin (Deleted p q r bytes id at answer) (is, shown) = absurd (aims_apart is)
    way_right Forget (Deleted p q r bytes id at answer) fits = and_from _ _ (claim_right Forget p) refl

    release_right : (which : Aim) (release : Option ℕ) → AreRight which (release_turns a uuid release)
    release_right which None = refl
    release_right Begin (Some place) = refl
    release_right Forget (Some place) = refl

    come_right : (before : List NodeEntry) (front : ℕ) (way : Way) (release : Option ℕ) → FitsWay aim uuid way → AreRight aim (come_turns before front way release)
    come_right before front way release fits =
        and_from _ _ (admit_right aim before front)
        (list_all-append (is_right asked hold) (way_turns a uuid way) (release_turns a uuid release) ∙ and_from _ _ (way_right aim way fits) (release_right aim release))

    last_right : (last_before : List NodeEntry) (last_at : ℕ) (front : ℕ) (look : List DoorEntry) (way : Way) (release : Option ℕ) (closing : Closing) → Closes aim front a uuid look way release last_before closing → IsTrue (is_right asked hold (turn_at by node last_before last_at (closing_act a closing) (Some (closing_reply a uuid closing))))
    last_right last_before last_at front look way release closing closes = by_aim aim closing closes
      where
        run_so : (which : Aim) → which ≡ Begin → IsTrue (is_right (asks which uuid node) hold (turn_at by node last_before last_at (acts.Begin a) (Some (replies.Begun uuid))))
        run_so Begin is = right_at Begin by node uuid hold last_before last_at (acts.Begin a) (Some (replies.Begun uuid)) refl refl
        run_so Forget is = absurd (aims_apart (sym is))

        by_aim : (which : Aim) (end : Closing) → Closes which front a uuid look way release last_before end → IsTrue (is_right (asks which uuid node) hold (turn_at by node last_before last_at (closing_act a end) (Some (closing_reply a uuid end))))
        by_aim which IsBegun (unused, same) = run_so which (unused_begins which way release unused)
        by_aim Begin (IsGivenBack reply) closes = right_at Begin by node uuid hold last_before last_at (acts.Unadmit a) (Some reply) refl refl
        by_aim Forget (IsGivenBack reply) closes = right_at Forget by node uuid hold last_before last_at (acts.Unadmit a) (Some reply) refl refl
        by_aim Begin IsDown closes = right_at Begin by node uuid hold last_before last_at acts.Nothing (Some (replies.NodeDown a.node a.inc)) refl refl
        by_aim Forget IsDown closes = right_at Forget by node uuid hold last_before last_at acts.Nothing (Some (replies.NodeDown a.node a.inc)) refl refl

  silent_so : (before : List NodeEntry) (front : ℕ) (way : Way) (release : Option ℕ) → IsTrue (list_all (λ turn. is_silent (answer_in turn)) (come_turns before front way release))
  silent_so before front Unclaimed None = refl
  silent_so before front Unclaimed (Some place) = refl
  silent_so before front (Claimed p) None = refl
  silent_so before front (Claimed p) (Some place) = refl
  silent_so before front (LookedForRecord p q answer) None = refl
  silent_so before front (LookedForRecord p q answer) (Some place) = refl
  silent_so before front (LookedForMarker p q r answer) None = refl
  silent_so before front (LookedForMarker p q r answer) (Some place) = refl
  silent_so before front (Deleted p q r bytes id at answer) None = refl
  silent_so before front (Deleted p q r bytes id at answer) (Some place) = refl

  answered_so : (before : List NodeEntry) (front : ℕ) (way : Way) (release : Option ℕ) (last_before : List NodeEntry) (last_at : ℕ) (closing : Closing) → IsTrue (answers_last (all_turns before front way release last_before last_at closing))
  answered_so before front Unclaimed None last_before last_at closing = refl
  answered_so before front Unclaimed (Some place) last_before last_at closing = refl
  answered_so before front (Claimed p) None last_before last_at closing = refl
  answered_so before front (Claimed p) (Some place) last_before last_at closing = refl
  answered_so before front (LookedForRecord p q answer) None last_before last_at closing = refl
  answered_so before front (LookedForRecord p q answer) (Some place) last_before last_at closing = refl
  answered_so before front (LookedForMarker p q r answer) None last_before last_at closing = refl
  answered_so before front (LookedForMarker p q r answer) (Some place) last_before last_at closing = refl
  answered_so before front (Deleted p q r bytes id at answer) None last_before last_at closing = refl
  answered_so before front (Deleted p q r bytes id at answer) (Some place) last_before last_at closing = refl

  gives_last : (last_before : List NodeEntry) (last_at : ℕ) (front : ℕ) (way : Way) (release : Option ℕ) (look : List DoorEntry) (closing : Closing) → Closes aim front a uuid look way release last_before closing → attempt_of (turn_at by node last_before last_at (closing_act a closing) (Some (closing_reply a uuid closing)) ∷ []) ≡ closing_gives a closing
  gives_last last_before last_at front way release look IsBegun closes = refl
  gives_last last_before last_at front way release look (IsGivenBack reply) (may, tells) = by_reply reply may
    where
      by_reply : (r : Reply) → IsTrue (is_begin_refusal (Some r)) → attempt_of (turn_at by node last_before last_at (acts.Unadmit a) (Some r) ∷ []) ≡ None
      by_reply (replies.Joined u) is = absurd (false≢true is)
      by_reply r is = refl
  gives_last last_before last_at front way release look IsDown closes = refl

  -- what it gives is what its last turn says
  last_given : (before : List NodeEntry) (front : ℕ) (way : Way) (release : Option ℕ) (turn : NodeAct) (reply : Reply) (last_before : List NodeEntry) (last_at : ℕ) → attempt_of (come_turns before front way release ++ turn_at by node last_before last_at turn (Some reply) ∷ []) ≡ attempt_of (turn_at by node last_before last_at turn (Some reply) ∷ [])
  last_given before front Unclaimed None turn reply last_before last_at = refl
  last_given before front Unclaimed (Some place) turn reply last_before last_at = refl
  last_given before front (Claimed p) None turn reply last_before last_at = refl
  last_given before front (Claimed p) (Some place) turn reply last_before last_at = refl
  last_given before front (LookedForRecord p q answer) None turn reply last_before last_at = refl
  last_given before front (LookedForRecord p q answer) (Some place) turn reply last_before last_at = refl
  last_given before front (LookedForMarker p q r answer) None turn reply last_before last_at = refl
  last_given before front (LookedForMarker p q r answer) (Some place) turn reply last_before last_at = refl
  last_given before front (Deleted p q r bytes id at answer) None turn reply last_before last_at = refl
  last_given before front (Deleted p q r bytes id at answer) (Some place) turn reply last_before last_at = refl

  -- ---- all of them

  module _ (hold : Hold) (view : LineView) (before : List NodeEntry) (front : ℕ) (admits : Admits node a before) where
    abbrev ran : List Turn → LineView
    ran turns = with_words asked hold turns view

    -- one that goes on, and has let go only where it was to
    on_so : (look : List DoorEntry) (way : Way) (release : Option ℕ) → FitsWay aim uuid way → ((place : ℕ) → release ≡ Some place → (reply : Reply) × MustLetGo aim a uuid look way reply) → GoesRightly (ran (come_turns before front way release))
    on_so look way release fits must = record {
      leads = goes_on aim node uuid (node_numbers view.settings) (ends_of (ran (come_turns before front way release))) by a admits.place before front look way release fits must;
      right = come_right hold before front way release fits;
    }

    module _ (look more : List DoorEntry) (way : Way) (release : Option ℕ) (last_before : List NodeEntry) (last_at : ℕ) (closing : Closing) (fits : FitsWay aim uuid way) (closes : Closes aim front a uuid look way release last_before closing) where
      abbrev every : List Turn
      every = all_turns before front way release last_before last_at closing

      module _ (begins : take last_at view.seen ≡ look ++ more) where
        leads_so : IsTrue (is_led_to_end (position_of (ran every)))
        leads_so =
            led_to_end aim node uuid (node_numbers view.settings) (ends_of (ran every)) by a admits.place before front (λ inc h left. left) look last_before last_at
            (λ fenced. subst (λ (seen : List DoorEntry). IsTrue (is_fenced (caller_of a) seen)) (sym begins) (given_grows _ _ look more fenced)) way release closing fits closes

        ends_here : EndsRightly (ran every)
        ends_here = record {
          leads = leads_so;
          answers = answered_so before front way release last_before last_at closing;
          caused = λ reply is. subst (Caused (ran every)) (one_reply (closing_reply a uuid closing) reply (sym (last_answer) ∙ is)) (closing_caused by node uuid hold view a before front admits last_before last_at aim look more way release closing begins fits closes);
        }
          where
            one_reply : (r q : Reply) → Some r ≡ Some q → r ≡ q
            one_reply r q e = cc

            last_answer : end_answer every ≡ Some (closing_reply a uuid closing)
            last_answer = fold-append (λ (x : Option Reply) (turn : Turn). answer_in turn) None (come_turns before front way release) (turn_at by node last_before last_at (closing_act a closing) (Some (closing_reply a uuid closing)) ∷ [])

      -- what stands of one that is over needs not its look, but for the cause
      goes_here : IsTrue (is_led_to_end (position_of (ran every))) → GoesRightly (ran every)
      goes_here led = record {
        leads = led_is_some (position_of (ran every)) led;
        right = list_all-append (is_right asked hold) (come_turns before front way release) (turn_at by node last_before last_at (closing_act a closing) (Some (closing_reply a uuid closing)) ∷ []) ∙ and_from _ _ (come_right hold before front way release fits) (and_from _ _ (last_right hold last_before last_at front look way release closing closes) refl);
      }

  -- ---- what its last turn has seen at the door

  come_sees : (before : List NodeEntry) (front : ℕ) (way : Way) (release : Option ℕ) (seen : List DoorEntry) → IsTrue (last_sees seen (come_turns before front way release))
  come_sees before front Unclaimed None seen = refl
  come_sees before front Unclaimed (Some place) seen = refl
  come_sees before front (Claimed p) None seen = refl
  come_sees before front (Claimed p) (Some place) seen = refl
  come_sees before front (LookedForRecord p q answer) None seen = refl
  come_sees before front (LookedForRecord p q answer) (Some place) seen = refl
  come_sees before front (LookedForMarker p q r answer) None seen = refl
  come_sees before front (LookedForMarker p q r answer) (Some place) seen = refl
  come_sees before front (Deleted p q r bytes id at answer) None seen = refl
  come_sees before front (Deleted p q r bytes id at answer) (Some place) seen = refl

  end_sees : (before : List NodeEntry) (front : ℕ) (way : Way) (release : Option ℕ) (look : List DoorEntry) (last_before : List NodeEntry) (last_at : ℕ) (closing : Closing) (seen : List DoorEntry) → a.node ≡ node → Closes aim front a uuid look way release last_before closing → own_entries by seen ≡ flat_map (door_entry_in by) (all_turns before front way release last_before last_at closing) → IsTrue (has_seen node seen by last_before (closing_act a closing) (Some (closing_reply a uuid closing)))
  end_sees before front way release look last_before last_at (IsGivenBack reply) seen here closes own = refl
  end_sees before front way release look last_before last_at IsDown seen here closes own = refl
  end_sees before front way release look last_before last_at IsBegun seen here (unused, same) own = by_way way release unused own
    where
      by_way : (w : Way) (l : Option ℕ) → IsUnused aim w l → own_entries by seen ≡ flat_map (door_entry_in by) (all_turns before front w l last_before last_at IsBegun) → IsTrue (knows_unused (incarnation node a.inc) (uuid_of a (part last_before)) (own_entries by seen))
      by_way (LookedForMarker p q r answers.Absent) None unused own =
          subst (λ (es : List DoorEntry). IsTrue (knows_unused (incarnation node a.inc) (uuid_of a (part last_before)) es)) (sym own)
          (subst (λ (u : List ℕ). IsTrue (knows_unused (incarnation node a.inc) u (entries_of by a uuid []))) (sym same)
          (subst (λ (n : ℕ). IsTrue (knows_unused (incarnation n a.inc) uuid (entries_of by a uuid []))) here (unused_known by a uuid [])))
      by_way (Deleted p q r bytes id at answer) l unused own = absurd unused
      by_way (LookedForMarker p q r answers.Absent) (Some place) unused own = absurd unused
      by_way (LookedForMarker p q r (answers.Found bytes)) l unused own = absurd unused
      by_way (LookedForMarker p q r answers.Failed) l unused own = absurd unused
      by_way (LookedForMarker p q r answers.Done) l unused own = absurd unused
      by_way (LookedForMarker p q r (answers.Page pairs)) l unused own = absurd unused
      by_way Unclaimed l unused own = absurd unused
      by_way (Claimed p) l unused own = absurd unused
      by_way (LookedForRecord p q answer) l unused own = absurd unused

-- ---- by the stage

-- a begin that goes on has come so far
record ComesOn (aim : Aim) (by : By) (node : ℕ) (uuid : List ℕ) (trail : Trail) : Type 0 where
  attempt : Attempt
  front : ℕ
  way : Way
  release : Option ℕ
  come : HasCome aim by node uuid attempt front way release trail
  must : (place : ℕ) → release ≡ Some place → (reply : Reply) × MustLetGo aim attempt uuid trail.look way reply

none_released : (aim : Aim) (a : Attempt) (uuid : List ℕ) (look : List DoorEntry) (way : Way) (place : ℕ) → None ≡ Some place → (reply : Reply) × MustLetGo aim a uuid look way reply
none_released aim a uuid look way place is = absurd (none_is is)
  where
    none_is : None ≡ Some place → ⊥
    none_is e = cc

-- it has done nothing yet, goes on, or is over
data Comes (aim : Aim) (by : By) (node : ℕ) (uuid : List ℕ) (trail : Trail) : Type 0 where
  Nothing : trail.turns ≡ [] → Comes aim by node uuid trail
  GoesOn : ComesOn aim by node uuid trail → Comes aim by node uuid trail

comes_so : (aim : Aim) (by : By) (node : ℕ) (uuid : List ℕ) (stage : Stage) (trail : Trail) → made_at aim by node uuid stage trail → Comes aim by node uuid trail ⊎ ((given : Option Attempt) × (stage ≡ Ended given) × (EndedAtOnce aim by node uuid given trail ⊎ EndedLater aim by node uuid given trail))
comes_so aim by node uuid Begins trail none = inl (Nothing (ap (λ (t : Trail). t.turns) none))
comes_so aim by node uuid (Claims a) trail (front, come) = inl (GoesOn (record { attempt = a; front = front; way = Unclaimed; release = None; come = come; must = none_released aim a uuid trail.look Unclaimed }))
comes_so aim by node uuid (Seeks a Record) trail (front, p, come) = inl (GoesOn (record { attempt = a; front = front; way = Claimed p; release = None; come = come; must = none_released aim a uuid trail.look (Claimed p) }))
comes_so aim by node uuid (Seeks a Marker) trail (front, p, q, come) = inl (GoesOn (record { attempt = a; front = front; way = LookedForRecord p q answers.Absent; release = None; come = come; must = none_released aim a uuid trail.look (LookedForRecord p q answers.Absent) }))
comes_so aim by node uuid (Forgets a id) trail (front, p, q, r, bytes, come, words, shown) = inl (GoesOn (record { attempt = a; front = front; way = LookedForMarker p q r (answers.Found bytes); release = None; come = come; must = none_released aim a uuid trail.look (LookedForMarker p q r (answers.Found bytes)) }))
comes_so aim by node uuid (Runs a) trail (front, p, q, r, come, runs) = inl (GoesOn (record { attempt = a; front = front; way = LookedForMarker p q r answers.Absent; release = None; come = come; must = none_released aim a uuid trail.look (LookedForMarker p q r answers.Absent) }))
comes_so aim by node uuid (LetsGo a reply) trail (front, way, come, must) = inl (GoesOn (record { attempt = a; front = front; way = way; release = None; come = come; must = none_released aim a uuid trail.look way }))
comes_so aim by node uuid (GivesUp a reply) trail (front, way, None, come, tells) = inl (GoesOn (record { attempt = a; front = front; way = way; release = None; come = come; must = none_released aim a uuid trail.look way }))
comes_so aim by node uuid (GivesUp a reply) trail (front, way, Some place, come, tells) = inl (GoesOn (record { attempt = a; front = front; way = way; release = Some place; come = come; must = λ at is. (reply, tells) }))
comes_so aim by node uuid (Ended given) trail made = inr (given, refl, made)

module _ (aim : Aim) (by : By) (node : ℕ) (uuid : List ℕ) where
  by_turns : (P : LineView → Type 0) (hold : Hold) (capacity : ℕ) (trail : Trail) (view : LineView) (turns : List Turn) → RanSo (asks aim uuid node) hold capacity trail view → trail.turns ≡ turns → P (with_words (asks aim uuid node) hold turns view) → P view
  by_turns P hold capacity trail view turns ran are holds = by_words P (asks aim uuid node) hold capacity trail view turns ran are holds

  ended_turns : (given : Option Attempt) (trail : Trail) (later : EndedLater aim by node uuid given trail) → trail.turns ≡ all_turns aim by node uuid later.attempt later.come.before later.front later.way later.release later.last_before later.last_front later.closing
  ended_turns given trail later = later.turns ∙ ap (λ (ts : List Turn). ts ++ turn_at by node later.last_before later.last_front (closing_act later.attempt later.closing) (Some (closing_reply later.attempt uuid later.closing)) ∷ []) later.come.turns

  module _ (hold : Hold) (capacity : ℕ) (trail : Trail) (view : LineView) (ran : RanSo (asks aim uuid node) hold capacity trail view) where
    -- what its last turn has seen begins with what it looked at
    looked_so : (given : Option Attempt) (later : EndedLater aim by node uuid given trail) (looked : HasLooked trail view) → take later.last_front view.seen ≡ later.since.look ++ looked.0
    looked_so given later looked =
        ap (λ (n : ℕ). take n view.seen) (sym (seen_at_last by node uuid hold view later.attempt later.come.before later.front later.come.admits later.last_before later.last_front aim later.way later.release (closing_act later.attempt later.closing) (closing_reply later.attempt uuid later.closing)))
        ∙ subst (λ (ts : List Turn). take (last_front (with_words (asks aim uuid node) hold ts view)) view.seen ≡ later.since.look ++ looked.0) (ran.turns ∙ ended_turns given trail later)
        (looked.1 ∙ ap (λ (l : List DoorEntry). l ++ looked.0) later.look)

    ends_later : (given : Option Attempt) → EndedLater aim by node uuid given trail → HasLooked trail view → EndsRightly view
    ends_later given later looked =
        by_turns EndsRightly hold capacity trail view _ ran (ended_turns given trail later)
        (ends_here aim by node uuid later.attempt hold view later.come.before later.front later.come.admits later.since.look looked.0 later.way later.release later.last_before later.last_front later.closing later.come.fits later.closes (looked_so given later looked))

    goes_later : (given : Option Attempt) → EndedLater aim by node uuid given trail → HasLooked trail view → GoesRightly view
    goes_later given later looked =
        by_turns GoesRightly hold capacity trail view _ ran (ended_turns given trail later)
        (goes_here aim by node uuid later.attempt hold view later.come.before later.front later.come.admits later.since.look looked.0 later.way later.release later.last_before later.last_front later.closing later.come.fits later.closes
        (leads_so aim by node uuid later.attempt hold view later.come.before later.front later.come.admits later.since.look looked.0 later.way later.release later.last_before later.last_front later.closing later.come.fits later.closes (looked_so given later looked)))

    ends_at_once : (given : Option Attempt) → EndedAtOnce aim by node uuid given trail → EndsRightly view
    ends_at_once given at_once = by_turns EndsRightly hold capacity trail view _ ran at_once.turns (ends_once by node uuid hold view at_once.capacity at_once.before at_once.front at_once.legal aim at_once.reply given at_once.answers)

    goes_at_once : (given : Option Attempt) → EndedAtOnce aim by node uuid given trail → GoesRightly view
    goes_at_once given at_once = by_turns GoesRightly hold capacity trail view _ ran at_once.turns (goes_once by node uuid hold view at_once.capacity at_once.before at_once.front at_once.legal aim at_once.reply)

    nothing_done : (which : Aim) → GoesRightly (with_words (asks which uuid node) hold [] view)
    nothing_done Begin = record { leads = refl; right = refl }
    nothing_done Forget = record { leads = refl; right = refl }

    goes_on_so : Comes aim by node uuid trail → GoesRightly view
    goes_on_so (Nothing none) = by_turns GoesRightly hold capacity trail view [] ran none (nothing_done aim)
    goes_on_so (GoesOn on) = by_turns GoesRightly hold capacity trail view _ ran on.come.turns (on_so aim by node uuid on.attempt hold view on.come.before on.front on.come.admits trail.look on.way on.release on.come.fits on.must)

    pub goes_so : (stage : Stage) → made_at aim by node uuid stage trail → (next_at node stage ≡ places.Done → HasLooked trail view) → GoesRightly view
    goes_so stage made looked = by_come (comes_so aim by node uuid stage trail made)
      where
        by_come : Comes aim by node uuid trail ⊎ ((given : Option Attempt) × (stage ≡ Ended given) × (EndedAtOnce aim by node uuid given trail ⊎ EndedLater aim by node uuid given trail)) → GoesRightly view
        by_come (inl comes) = goes_on_so comes
        by_come (inr (given, is, inl at_once)) = goes_at_once given at_once
        by_come (inr (given, is, inr later)) = goes_later given later (looked (ap (next_at node) is))

    pub unanswered_so : (stage : Stage) → made_at aim by node uuid stage trail → 1 ≤ left_at aim stage → IsUnanswered view
    unanswered_so stage made left = by_come (comes_so aim by node uuid stage trail made)
      where
        none_left : (given : Option Attempt) → stage ≡ Ended given → ⊥
        none_left given is = let zero : left_at aim stage ≡ 0 = ap (left_at aim) is in omega arith

        by_come : Comes aim by node uuid trail ⊎ ((given : Option Attempt) × (stage ≡ Ended given) × (EndedAtOnce aim by node uuid given trail ⊎ EndedLater aim by node uuid given trail)) → IsUnanswered view
        by_come (inl (Nothing none)) = by_turns IsUnanswered hold capacity trail view [] ran none refl
        by_come (inl (GoesOn on)) = by_turns IsUnanswered hold capacity trail view _ ran on.come.turns (silent_so aim by node uuid on.attempt on.come.before on.front on.way on.release)
        by_come (inr (given, is, ended)) = absurd (none_left given is)

    pub ends_so : (stage : Stage) → made_at aim by node uuid stage trail → next_at node stage ≡ places.Done → HasLooked trail view → EndsRightly view
    ends_so stage made done looked = done_is node stage done (λ (s : Stage). made_at aim by node uuid s trail → EndsRightly view) ended made
      where
        ended : (given : Option Attempt) → made_at aim by node uuid (Ended given) trail → EndsRightly view
        ended given (inl at_once) = ends_at_once given at_once
        ended given (inr later) = ends_later given later looked

  -- of one that is over the last turn alone answers, whatever it has seen
  pub answers_so : (stage : Stage) (trail : Trail) → made_at aim by node uuid stage trail → next_at node stage ≡ places.Done → IsTrue (answers_last trail.turns)
  answers_so stage trail made done = done_is node stage done (λ (s : Stage). made_at aim by node uuid s trail → IsTrue (answers_last trail.turns)) ended made
    where
      ended : (given : Option Attempt) → made_at aim by node uuid (Ended given) trail → IsTrue (answers_last trail.turns)
      ended given (inl at_once) = subst (λ (ts : List Turn). IsTrue (answers_last ts)) (sym at_once.turns) refl
      ended given (inr later) =
          subst (λ (ts : List Turn). IsTrue (answers_last ts)) (sym (ended_turns given trail later))
          (answered_so aim by node uuid later.attempt later.come.before later.front later.way later.release later.last_before later.last_front later.closing)

  pub gives_so : (stage : Stage) (trail : Trail) → made_at aim by node uuid stage trail → next_at node stage ≡ places.Done → attempt_of trail.turns ≡ given_at stage
  gives_so stage trail made done = done_is node stage done (λ (s : Stage). made_at aim by node uuid s trail → attempt_of trail.turns ≡ given_at s) ended made
    where
      ended : (given : Option Attempt) → made_at aim by node uuid (Ended given) trail → attempt_of trail.turns ≡ given
      ended given (inl at_once) = ap attempt_of at_once.turns ∙ given_once aim by node uuid at_once.capacity at_once.before at_once.front at_once.legal at_once.reply given at_once.answers
      ended given (inr later) =
          ap attempt_of (ended_turns given trail later)
          ∙ last_given aim by node uuid later.attempt later.come.before later.front later.way later.release (closing_act later.attempt later.closing) (closing_reply later.attempt uuid later.closing) later.last_before later.last_front
          ∙ gives_last aim by node uuid later.attempt later.last_before later.last_front later.front later.way later.release later.since.look later.closing later.closes
          ∙ sym later.gives

  pub sees_so : (stage : Stage) (trail : Trail) (seen : List DoorEntry) → made_at aim by node uuid stage trail → SeesOwn by trail.turns seen → IsTrue (last_sees seen trail.turns)
  sees_so stage trail seen made own = by_come (comes_so aim by node uuid stage trail made)
    where
      by_come : Comes aim by node uuid trail ⊎ ((given : Option Attempt) × (stage ≡ Ended given) × (EndedAtOnce aim by node uuid given trail ⊎ EndedLater aim by node uuid given trail)) → IsTrue (last_sees seen trail.turns)
      by_come (inl (Nothing none)) = subst (λ (ts : List Turn). IsTrue (last_sees seen ts)) (sym none) refl
      by_come (inl (GoesOn on)) = subst (λ (ts : List Turn). IsTrue (last_sees seen ts)) (sym on.come.turns) (come_sees aim by node uuid on.attempt on.come.before on.front on.way on.release seen)
      by_come (inr (given, is, inl at_once)) = subst (λ (ts : List Turn). IsTrue (last_sees seen ts)) (sym at_once.turns) refl
      by_come (inr (given, is, inr later)) =
          subst (λ (ts : List Turn). IsTrue (last_sees seen ts)) (sym (ended_turns given trail later))
          (subst (λ (t : Bool). IsTrue t) (sym (fold-append (λ (x : Bool) (turn : Turn). sees seen turn) true (begun_turns by node uuid later.attempt later.come.before later.front later.way later.release) (turn_at by node later.last_before later.last_front (closing_act later.attempt later.closing) (Some (closing_reply later.attempt uuid later.closing)) ∷ [])))
          (end_sees aim by node uuid later.attempt later.come.before later.front later.way later.release later.since.look later.last_before later.last_front later.closing seen later.come.admits.place later.closes
          (subst (λ (ts : List Turn). own_entries by seen ≡ flat_map (door_entry_in by) ts) (ended_turns given trail later) own.own)))

  -- ---- what it knows before it deletes

  -- what a line has seen has its own entries
  grown_by : (seen : List DoorEntry) (first : DoorEntry → Bool) (rest : List DoorEntry → Bool) → ((xs : List DoorEntry) → IsTrue (rest (own_entries by xs)) → IsTrue (rest xs)) → IsTrue (followed first rest (own_entries by seen)) → IsTrue (followed first rest seen)
  grown_by [] first rest grows is = is
  grown_by (e ∷ seen) first rest grows is = by_test (same_line by e.by) is (grown_by seen first rest grows)
    where
      by_test : (own : Bool) → IsTrue (followed first rest (if own then e ∷ own_entries by seen else own_entries by seen)) → (IsTrue (followed first rest (own_entries by seen)) → IsTrue (followed first rest seen)) → IsTrue (followed first rest (e ∷ seen))
      by_test false is later = or_right (first e && rest seen) (followed first rest seen) (later is)
      by_test true is later = elim (or_cases (first e && rest (own_entries by seen)) (followed first rest (own_entries by seen)) is) [
        | inl here ↦ let both = and_parts (first e) (rest (own_entries by seen)) here in or_left _ _ (and_from _ _ both.0 (grows seen both.1))
        | inr behind ↦ or_right (first e && rest seen) (followed first rest seen) (later behind)
      ]

  any_by : (test : DoorEntry → Bool) (seen : List DoorEntry) → IsTrue (list_any test (own_entries by seen)) → IsTrue (list_any test seen)
  any_by test [] is = is
  any_by test (e ∷ seen) is = by_test (same_line by e.by) is (any_by test seen)
    where
      by_test : (own : Bool) → IsTrue (list_any test (if own then e ∷ own_entries by seen else own_entries by seen)) → (IsTrue (list_any test (own_entries by seen)) → IsTrue (list_any test seen)) → IsTrue (list_any test (e ∷ seen))
      by_test false is later = or_right (test e) (list_any test seen) (later is)
      by_test true is later = elim (or_cases (test e) (list_any test (own_entries by seen)) is) [
        | inl here ↦ or_left _ _ here
        | inr behind ↦ or_right (test e) (list_any test seen) (later behind)
      ]

  -- the entries of a forget that found the short marker
  short_known : (a : Attempt) (bytes : List ℕ) (id : TxnId) → told Marker uuid bytes ≡ Shows id true → IsTrue (knows_short_of (caller_of a) id (record { by = by; act = claim_act a uuid } ∷ record { by = by; act = look_act a uuid Record answers.Absent } ∷ record { by = by; act = look_act a uuid Marker (answers.Found bytes) } ∷ []))
  short_known a bytes id shown =
      let short = short_shown uuid bytes id shown in
      subst (λ (u : List ℕ). IsTrue (followed (λ (entry : DoorEntry). claims (caller_of a) u entry.act) (list_any (λ (entry : DoorEntry). finds (caller_of a) (marker_name u) (λ pair. is_listed id (shorts_in pair)) entry.act)) (record { by = by; act = claim_act a uuid } ∷ record { by = by; act = look_act a uuid Record answers.Absent } ∷ record { by = by; act = look_act a uuid Marker (answers.Found bytes) } ∷ []))) short.0
      (or_left _ _ (and_from _ _ (and_from _ _ (caller_itself (caller_of a)) (bytes_eq-refl uuid))
      (or_left _ _ (and_from _ _ (and_from _ _ (caller_itself (caller_of a)) (bytes_eq-refl (marker_name uuid))) short.1))))

  pub knows_so : (stage : Stage) (trail : Trail) (seen : List DoorEntry) → made_at aim by node uuid stage trail → SeesOwn by trail.turns seen → knows_at stage seen
  knows_so (Forgets a id) trail seen (front, p, q, r, bytes, come, words, shown) own =
      grown_by seen (λ (entry : DoorEntry). claims (caller_of a) id.uuid entry.act) (list_any (λ (entry : DoorEntry). finds (caller_of a) (marker_name id.uuid) (λ pair. is_listed id (shorts_in pair)) entry.act)) (any_by (λ (entry : DoorEntry). finds (caller_of a) (marker_name id.uuid) (λ pair. is_listed id (shorts_in pair)) entry.act))
      (subst (λ (es : List DoorEntry). IsTrue (knows_short_of (caller_of a) id es)) (sym (own.own ∙ ap (λ (ts : List Turn). flat_map (door_entry_in by) ts) come.turns)) (short_known a bytes id shown.1))
  knows_so Begins trail seen made own = tt
  knows_so (Claims a) trail seen made own = tt
  knows_so (Seeks a sought) trail seen made own = tt
  knows_so (Runs a) trail seen made own = tt
  knows_so (LetsGo a reply) trail seen made own = tt
  knows_so (GivesUp a reply) trail seen made own = tt
  knows_so (Ended given) trail seen made own = tt
