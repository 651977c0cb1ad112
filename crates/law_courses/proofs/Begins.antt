-- What is left of a begin and of a forget.
use Rattle.std.proofs.Common.{◌≡◌, ℕ, Bool, true, false, ◌&&◌, ◌||◌, List, [], ◌∷◌, refl, sym, ap, ◌∙◌}
use Rattle.std.specs.Prelude.{IsTrue, Option, Some, None, if◌then◌else◌}
use Rattle.std.specs.Str.{bytes_eq}
use Rattle.std.proofs.lemmas.Bool.{and_parts, and_from}
use Rattle.aft_keeper.specs.declared.keeper.KeeperAnswer.{KeeperAnswer}
use Rattle.aft_keeper.specs.declared.keeper.KeeperCall.TheVariants as calls
use Rattle.aft_model.specs.declared.caller.Attempt.{Attempt}
use Rattle.aft_model.specs.declared.door.DoorAct.TheVariants as doors
use Rattle.aft_model.specs.declared.node.NodeAct.{NodeAct}
use Rattle.aft_model.specs.declared.node.NodeAct.TheVariants as acts
use Rattle.aft_model.specs.declared.reply.Reply.{Reply}
use Rattle.aft_model.specs.declared.script.Command.TheVariants.{Begin, Forget}
use Rattle.aft_model.specs.Membership.{incarnation, same_incarnation}
use Rattle.aft_model.specs.Readings.{marker_name, record_name}
use Rattle.aft_lines.specs.Advance.{advance, allows, begun_with, behind_marker, behind_unused, claimed_by, closed_by, forgotten_by, got_by, if_nothing, is_led_to_end, leads_to, released_by}
use Rattle.aft_lines.specs.BeginCourse.{Beginning, admitted_course, after_get, begin_course, begins_running, claim_course, ends_given_back, gets_own, gives_back, marker_course, record_course, release_begun}
use Rattle.aft_lines.specs.CourseWords.{Ends, any_answer, caller_of, closes, ends_at_node, finds_nothing, tells_down, tells_no_memory, tells_refused, tells_unclaimed}
use Rattle.aft_lines.specs.ForgetCourse.{after_marker, delete_course, finds_short, forget_course, short_course}
use Rattle.aft_lines.specs.Progress.{Admitted, FoundNoRecord, FoundShort, FoundUnused, HasClaim, HasForgotten, HasReleased, MustRelease, AnyReason, NoRoom, Refusal, IsOver, Progress, Reason, Stopped}
use Rattle.aft_lines.specs.Turns.{AtDoor, AtNode, AtOffice, Turn}
use Rattle.law_courses.proofs.Ends.{led, led-closed, led-from, led-if, led-none, led-or_last, led-or_more, led-over, led-shut_out}
use Rattle.law_courses.proofs.Tests.{ends_within, no_memory_refused, or_absorbed, or_false}

-- ---- tests

gives_within : (a : Attempt) (few many : Option Reply → Bool) → ((answer : Option Reply) → IsTrue (few answer) → IsTrue (many answer)) → (act : NodeAct) (answer : Option Reply) → IsTrue (gives_back a few act answer) → IsTrue (gives_back a many act answer)
gives_within a few many within (acts.Unadmit b) answer is = (let parts = and_parts _ (few answer) is in and_from _ _ parts.0 (within answer parts.1))
gives_within a few many within act answer is = absurd (cc)

module _ (ends : Ends) (begun : Beginning) where
  -- a release for want of memory is one that was refused
  release_within : (line : List Turn) → IsTrue (release_begun ends begun tells_no_memory line) → IsTrue (release_begun ends begun tells_refused line)
  release_within (AtDoor place (doors.Release uuid node inc) ∷ line) is =
      let parts = and_parts (same_incarnation (caller_of begun.attempt) (incarnation node inc) && bytes_eq begun.uuid uuid) (ends_given_back ends begun tells_no_memory line) is in
      and_from _ _ parts.0 (ends_within ends begun.attempt.node begun.attempt.inc (gives_back begun.attempt tells_no_memory) (gives_back begun.attempt tells_refused) (gives_within begun.attempt tells_no_memory tells_refused no_memory_refused) line parts.1)
  release_within line is = is

  -- where memory was wanting behind a get, nothing but the release follows
  marker_or_release : (line : List Turn) → (marker_course ends begun line || release_begun ends begun tells_no_memory line) ≡ marker_course ends begun line
  marker_or_release (AtDoor place (doors.Call node inc (calls.Get name) answer) ∷ line) = or_false _
  marker_or_release line = or_absorbed (release_begun ends begun tells_refused line) (release_begun ends begun tells_no_memory line) (release_within line)

  short_or_release : (line : List Turn) → (short_course ends begun line || release_begun ends begun tells_no_memory line) ≡ short_course ends begun line
  short_or_release (AtDoor place (doors.Call node inc (calls.Get name) answer) ∷ line) = or_false _
  short_or_release line = or_absorbed (release_begun ends begun tells_refused line) (release_begun ends begun tells_no_memory line) (release_within line)

  delete_or_release : (line : List Turn) → (delete_course ends begun line || release_begun ends begun tells_no_memory line) ≡ delete_course ends begun line
  delete_or_release (AtDoor place (doors.Call node inc (calls.Delete name) answer) ∷ line) = or_false _
  delete_or_release line = or_absorbed (release_begun ends begun tells_refused line) (release_begun ends begun tells_no_memory line) (release_within line)

-- a step that is a begin's or a forget's
pub record IsClaimStep (ends : Ends) (forgets : Bool) (step : Progress → Turn → Option Progress) : Type 0 where
  pub admitted : (begun : Beginning) (turn : Turn) → step (Admitted begun) turn ≡ claimed_by ends begun turn
  pub has_claim : (begun : Beginning) (turn : Turn) → step (HasClaim begun) turn ≡ got_by ends begun (record_name begun.uuid) (if_nothing (FoundNoRecord begun) begun) turn
  pub no_record : (begun : Beginning) (turn : Turn) → step (FoundNoRecord begun) turn ≡ got_by ends begun (marker_name begun.uuid) (behind_marker forgets begun) turn
  pub unused : (begun : Beginning) (turn : Turn) → step (FoundUnused begun) turn ≡ behind_unused ends forgets begun turn
  pub short : (begun : Beginning) (turn : Turn) → step (FoundShort begun) turn ≡ forgotten_by ends begun turn
  pub forgotten : (begun : Beginning) (turn : Turn) → step (HasForgotten begun) turn ≡ released_by ends begun AnyReason turn
  pub must : (begun : Beginning) (turn : Turn) → step (MustRelease begun) turn ≡ released_by ends begun AnyReason turn
  pub has_released : (begun : Beginning) (reason : Reason) (turn : Turn) → step (HasReleased begun reason) turn ≡ closed_by ends begun.attempt (gives_back begun.attempt (allows reason)) turn

module _ (ends : Ends) (forgets : Bool) (step : Progress → Turn → Option Progress) (over : (turn : Turn) → step IsOver turn ≡ None) (stopped : (a : Attempt) (turn : Turn) → step (Stopped a) turn ≡ None) (is : IsClaimStep ends forgets step) (begun : Beginning) where
  abbrev at : Option Progress → List Turn → Bool
  at position line = led step over stopped position line

  -- one turn from a position
  from : (position : Progress) (next : Option Progress) (turn : Turn) (line : List Turn) → step position turn ≡ next → at (Some position) (turn ∷ line) ≡ at next line
  from = led-from step over stopped

  -- ---- the release

  given_back : (reason : Reason) (line : List Turn) → at (Some (HasReleased begun reason)) line ≡ ends_given_back ends begun (allows reason) line
  given_back reason [] = refl
  given_back reason (turn ∷ line) =
      from (HasReleased begun reason) (closed_by ends begun.attempt (gives_back begun.attempt (allows reason)) turn) turn line (is.has_released begun reason turn)
      ∙ led-closed step over stopped ends begun.attempt (gives_back begun.attempt (allows reason)) turn line

  release_on : (reason : Reason) (turn : Turn) (line : List Turn) → at (released_by ends begun reason turn) line ≡ release_begun ends begun (allows reason) (turn ∷ line)
  release_on reason (AtDoor place (doors.Release uuid node inc)) line =
      led-if step over stopped (same_incarnation (caller_of begun.attempt) (incarnation node inc) && bytes_eq begun.uuid uuid) (HasReleased begun reason) line
      ∙ ap (λ (b : Bool). same_incarnation (caller_of begun.attempt) (incarnation node inc) && bytes_eq begun.uuid uuid && b) (given_back reason line)
  release_on reason turn line = led-shut_out step over stopped ends begun.attempt (gives_back begun.attempt tells_down) turn line

  must_release : (line : List Turn) → at (Some (MustRelease begun)) line ≡ release_begun ends begun any_answer line
  must_release [] = refl
  must_release (turn ∷ line) = from (MustRelease begun) (released_by ends begun AnyReason turn) turn line (is.must begun turn) ∙ release_on AnyReason turn line

  has_forgotten : (line : List Turn) → at (Some (HasForgotten begun)) line ≡ release_begun ends begun any_answer line
  has_forgotten [] = refl
  has_forgotten (turn ∷ line) = from (HasForgotten begun) (released_by ends begun AnyReason turn) turn line (is.forgotten begun turn) ∙ release_on AnyReason turn line

  -- ---- behind a get

  -- a position behind a get that found nothing, or the release
  behind : (next : Progress) (go_on : List Turn → Bool) → ((line : List Turn) → at (Some next) line ≡ (go_on line || release_begun ends begun tells_no_memory line)) → (answer : KeeperAnswer) (line : List Turn)
      → at (Some (if_nothing next begun answer)) line ≡ after_get ends begun answer (go_on line) line
  behind next go_on leads answer line = cases (finds_nothing answer)
    where
      cases : (t : Bool) → at (Some (if t then next else MustRelease begun)) line ≡ (if t then go_on line || release_begun ends begun tells_no_memory line else release_begun ends begun any_answer line)
      cases true = leads line
      cases false = must_release line

  -- ---- the get of the record, and the claim

  record_on : (go_on : List Turn → Bool) → ((line : List Turn) → at (Some (FoundNoRecord begun)) line ≡ (go_on line || release_begun ends begun tells_no_memory line)) → (turn : Turn) (line : List Turn)
      → at (got_by ends begun (record_name begun.uuid) (if_nothing (FoundNoRecord begun) begun) turn) line ≡ record_course go_on ends begun (turn ∷ line)
  record_on go_on leads (AtDoor place (doors.Call node inc (calls.Get got) answer)) line =
      led-if step over stopped (gets_own begun (record_name begun.uuid) node inc got) (if_nothing (FoundNoRecord begun) begun answer) line
      ∙ ap (λ (b : Bool). gets_own begun (record_name begun.uuid) node inc got && b) (behind (FoundNoRecord begun) go_on leads answer line)
  record_on go_on leads turn line = release_on Refusal turn line

  with_claim : (go_on : List Turn → Bool) → ((line : List Turn) → at (Some (FoundNoRecord begun)) line ≡ (go_on line || release_begun ends begun tells_no_memory line)) → (line : List Turn)
      → at (Some (HasClaim begun)) line ≡ record_course go_on ends begun line
  with_claim go_on leads [] = refl
  with_claim go_on leads (turn ∷ line) = from (HasClaim begun) (got_by ends begun (record_name begun.uuid) (if_nothing (FoundNoRecord begun) begun) turn) turn line (is.has_claim begun turn) ∙ record_on go_on leads turn line

  claim_on : (go_on : List Turn → Bool) → ((line : List Turn) → at (Some (FoundNoRecord begun)) line ≡ (go_on line || release_begun ends begun tells_no_memory line)) → (turn : Turn) (line : List Turn)
      → at (claimed_by ends begun turn) line ≡ claim_course go_on ends begun (turn ∷ line)
  claim_on go_on leads (AtDoor place (doors.Claim uuid node inc)) line =
      led-if step over stopped (same_incarnation (caller_of begun.attempt) (incarnation node inc) && bytes_eq begun.uuid uuid) (HasClaim begun) line
      ∙ ap (λ (b : Bool). same_incarnation (caller_of begun.attempt) (incarnation node inc) && bytes_eq begun.uuid uuid && b) (with_claim go_on leads line)
  claim_on go_on leads turn line = led-closed step over stopped ends begun.attempt (gives_back begun.attempt tells_unclaimed) turn line

  pub admitted_leads : (go_on : List Turn → Bool) → ((line : List Turn) → at (Some (FoundNoRecord begun)) line ≡ (go_on line || release_begun ends begun tells_no_memory line)) → (line : List Turn)
      → at (Some (Admitted begun)) line ≡ claim_course go_on ends begun line
  admitted_leads go_on leads [] = refl
  admitted_leads go_on leads (turn ∷ line) = from (Admitted begun) (claimed_by ends begun turn) turn line (is.admitted begun turn) ∙ claim_on go_on leads turn line

-- ---- a begin

module _ (uuid : List ℕ) (node : ℕ) (nodes : List ℕ) (ends : Ends) where
  abbrev begin_step : Progress → Turn → Option Progress
  begin_step = advance (Begin uuid node) nodes ends

  begin_is : IsClaimStep ends false begin_step
  begin_is = record {
    admitted = λ begun turn. refl;
    has_claim = λ begun turn. refl;
    no_record = λ begun turn. refl;
    unused = λ begun turn. refl;
    short = λ begun turn. refl;
    forgotten = λ begun turn. refl;
    must = λ begun turn. refl;
    has_released = λ begun reason turn. refl;
  }

  abbrev begin_at : Option Progress → List Turn → Bool
  begin_at position line = led begin_step (λ turn. refl) (λ a turn. refl) position line

  module _ (begun : Beginning) where
    abbrev runs : List Turn → Bool
    runs line = ends_at_node begun.attempt.node (closes ends begun.attempt.inc (begins_running begun.attempt)) line

    releases : (reason : Reason) (turn : Turn) (line : List Turn) → begin_at (released_by ends begun reason turn) line ≡ release_begun ends begun (allows reason) (turn ∷ line)
    releases = release_on ends false begin_step (λ turn. refl) (λ a turn. refl) begin_is begun

    unused_on : (turn : Turn) (line : List Turn) → begin_at (behind_unused ends false begun turn) line ≡ (runs (turn ∷ line) || release_begun ends begun tells_no_memory (turn ∷ line))
    unused_on (AtDoor place act) line = releases NoRoom (AtDoor place act) line
    unused_on (AtOffice before entry) line = releases NoRoom (AtOffice before entry) line
    unused_on (AtNode at before entry) [] =
        led-or_last begin_step (λ turn. refl) (λ a turn. refl) ends begun.attempt (begins_running begun.attempt) (AtNode at before entry) (released_by ends begun NoRoom (AtNode at before entry))
        ∙ ap (λ (b : Bool). runs (AtNode at before entry ∷ []) || b) (releases NoRoom (AtNode at before entry) [])
    unused_on (AtNode at before entry) (next ∷ line) =
        led-or_more begin_step (λ turn. refl) (λ a turn. refl) ends begun.attempt (begins_running begun.attempt) (AtNode at before entry) next line (released_by ends begun NoRoom (AtNode at before entry))
        (releases NoRoom (AtNode at before entry) (next ∷ line))

    unused_leads : (line : List Turn) → begin_at (Some (FoundUnused begun)) line ≡ (runs line || release_begun ends begun tells_no_memory line)
    unused_leads [] = refl
    unused_leads (turn ∷ line) = unused_on turn line

    marker_on : (turn : Turn) (line : List Turn) → begin_at (got_by ends begun (marker_name begun.uuid) (behind_marker false begun) turn) line ≡ marker_course ends begun (turn ∷ line)
    marker_on (AtDoor place (doors.Call at inc (calls.Get got) answer)) line =
        led-if begin_step (λ turn. refl) (λ a turn. refl) (gets_own begun (marker_name begun.uuid) at inc got) (behind_marker false begun answer) line
        ∙ ap (λ (b : Bool). gets_own begun (marker_name begun.uuid) at inc got && b) (behind ends false begin_step (λ turn. refl) (λ a turn. refl) begin_is begun (FoundUnused begun) runs unused_leads answer line)
    marker_on turn line = releases Refusal turn line

    -- what is left of a begin that found no record
    pub no_record_leads : (line : List Turn) → begin_at (Some (FoundNoRecord begun)) line ≡ marker_course ends begun line
    no_record_leads [] = refl
    no_record_leads (turn ∷ line) = marker_on turn line

    -- and of one whose attempt opens
    pub begun_leads : (line : List Turn) → begin_at (Some (Admitted begun)) line ≡ claim_course (marker_course ends begun) ends begun line
    begun_leads line = admitted_leads ends false begin_step (λ turn. refl) (λ a turn. refl) begin_is begun (marker_course ends begun) (λ l. no_record_leads l ∙ sym (marker_or_release ends begun l)) line

  begin_by_act : (act : NodeAct) (line : List Turn) → begin_at (begun_with act) line ≡ admitted_course (marker_course ends) ends act line
  begin_by_act acts.Nothing line = led-over begin_step (λ turn. refl) (λ a turn. refl) line
  begin_by_act (acts.Admit a its) line = begun_leads (record { attempt = a; uuid = its }) line
  begin_by_act act line = led-none begin_step (λ turn. refl) (λ a turn. refl) line

  pub begin_led : (line : List Turn) → begin_course ends line ≡ is_led_to_end (leads_to (Begin uuid node) nodes ends line)
  begin_led [] = refl
  begin_led (AtNode at before entry ∷ line) = sym (begin_by_act entry.act line)
  begin_led (AtDoor place act ∷ line) = sym (led-none begin_step (λ turn. refl) (λ a turn. refl) line)
  begin_led (AtOffice before entry ∷ line) = sym (led-none begin_step (λ turn. refl) (λ a turn. refl) line)

-- ---- a forget

module _ (uuid : List ℕ) (node : ℕ) (nodes : List ℕ) (ends : Ends) where
  abbrev forget_step : Progress → Turn → Option Progress
  forget_step = advance (Forget uuid node) nodes ends

  forget_is : IsClaimStep ends true forget_step
  forget_is = record {
    admitted = λ begun turn. refl;
    has_claim = λ begun turn. refl;
    no_record = λ begun turn. refl;
    unused = λ begun turn. refl;
    short = λ begun turn. refl;
    forgotten = λ begun turn. refl;
    must = λ begun turn. refl;
    has_released = λ begun reason turn. refl;
  }

  abbrev forget_at : Option Progress → List Turn → Bool
  forget_at position line = led forget_step (λ turn. refl) (λ a turn. refl) position line

  module _ (begun : Beginning) where
    lets_go : (reason : Reason) (turn : Turn) (line : List Turn) → forget_at (released_by ends begun reason turn) line ≡ release_begun ends begun (allows reason) (turn ∷ line)
    lets_go = release_on ends true forget_step (λ turn. refl) (λ a turn. refl) forget_is begun

    -- where both gets found nothing, the claim goes
    nothing_leads : (line : List Turn) → forget_at (Some (FoundUnused begun)) line ≡ release_begun ends begun any_answer line
    nothing_leads [] = refl
    nothing_leads (turn ∷ line) = lets_go AnyReason turn line

    delete_on : (turn : Turn) (line : List Turn) → forget_at (forgotten_by ends begun turn) line ≡ delete_course ends begun (turn ∷ line)
    delete_on (AtDoor place (doors.Call at inc (calls.Delete name) answer)) line =
        led-if forget_step (λ turn. refl) (λ a turn. refl) (gets_own begun (marker_name begun.uuid) at inc name) (HasForgotten begun) line
        ∙ ap (λ (b : Bool). gets_own begun (marker_name begun.uuid) at inc name && b) (has_forgotten ends true forget_step (λ turn. refl) (λ a turn. refl) forget_is begun line)
    delete_on turn line = lets_go Refusal turn line

    short_leads : (line : List Turn) → forget_at (Some (FoundShort begun)) line ≡ (delete_course ends begun line || release_begun ends begun tells_no_memory line)
    short_leads [] = refl
    short_leads (turn ∷ line) = delete_on turn line ∙ sym (delete_or_release ends begun (turn ∷ line))

    behind_short : (answer : KeeperAnswer) (line : List Turn) → forget_at (Some (behind_marker true begun answer)) line ≡ after_marker ends begun answer line
    behind_short answer line = cases (finds_short begun.uuid answer) (finds_nothing answer)
      where
        cases : (found nothing : Bool) → forget_at (Some (if found then FoundShort begun else if nothing then FoundUnused begun else MustRelease begun)) line
            ≡ (if found then delete_course ends begun line || release_begun ends begun tells_no_memory line else release_begun ends begun any_answer line)
        cases true nothing = short_leads line
        cases false true = nothing_leads line
        cases false false = must_release ends true forget_step (λ turn. refl) (λ a turn. refl) forget_is begun line

    look_on : (turn : Turn) (line : List Turn) → forget_at (got_by ends begun (marker_name begun.uuid) (behind_marker true begun) turn) line ≡ short_course ends begun (turn ∷ line)
    look_on (AtDoor place (doors.Call at inc (calls.Get got) answer)) line =
        led-if forget_step (λ turn. refl) (λ a turn. refl) (gets_own begun (marker_name begun.uuid) at inc got) (behind_marker true begun answer) line
        ∙ ap (λ (b : Bool). gets_own begun (marker_name begun.uuid) at inc got && b) (behind_short answer line)
    look_on turn line = lets_go Refusal turn line

    -- what is left of a forget that found no record
    pub look_leads : (line : List Turn) → forget_at (Some (FoundNoRecord begun)) line ≡ short_course ends begun line
    look_leads [] = refl
    look_leads (turn ∷ line) = look_on turn line

    -- and of one whose attempt opens
    pub forget_leads : (line : List Turn) → forget_at (Some (Admitted begun)) line ≡ claim_course (short_course ends begun) ends begun line
    forget_leads line = admitted_leads ends true forget_step (λ turn. refl) (λ a turn. refl) forget_is begun (short_course ends begun) (λ l. look_leads l ∙ sym (short_or_release ends begun l)) line

  forget_by_act : (act : NodeAct) (line : List Turn) → forget_at (begun_with act) line ≡ admitted_course (short_course ends) ends act line
  forget_by_act acts.Nothing line = led-over forget_step (λ turn. refl) (λ a turn. refl) line
  forget_by_act (acts.Admit a its) line = forget_leads (record { attempt = a; uuid = its }) line
  forget_by_act act line = led-none forget_step (λ turn. refl) (λ a turn. refl) line

  pub forget_led : (line : List Turn) → forget_course ends line ≡ is_led_to_end (leads_to (Forget uuid node) nodes ends line)
  forget_led [] = refl
  forget_led (AtNode at before entry ∷ line) = sym (forget_by_act entry.act line)
  forget_led (AtDoor place act ∷ line) = sym (led-none forget_step (λ turn. refl) (λ a turn. refl) line)
  forget_led (AtOffice before entry ∷ line) = sym (led-none forget_step (λ turn. refl) (λ a turn. refl) line)
