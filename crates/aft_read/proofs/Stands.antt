-- What stands of a get by the turns that it has made.
use Rattle.std.proofs.Common.{◌≡◌, ℕ, Bool, List, [], ◌∷◌, ◌++◌, refl, sym, ap, subst, ◌∙◌, inl, inr, append-nil, arith, ◌≤◌}
use Rattle.std.specs.Prelude.{IsTrue, None, Option, Some, is_some, take}
use Rattle.std.specs.List.{list_all}
use Rattle.std.proofs.lemmas.Bool.{and_from, eq-eqb}
use Rattle.aft_id.specs.declared.txn_id.TxnId.{TxnId}
use Rattle.aft_model.specs.declared.caller.Attempt.{Attempt}
use Rattle.aft_model.specs.declared.caller.By.{By}
use Rattle.aft_model.specs.declared.caller.Hold.{Hold}
use Rattle.aft_model.specs.declared.choice.Picked.TheVariants as picked
use Rattle.aft_model.specs.declared.door.DoorEntry.{DoorEntry}
use Rattle.aft_model.specs.declared.node.NodeAct.{NodeAct}
use Rattle.aft_model.specs.declared.node.NodeAct.TheVariants as acts
use Rattle.aft_model.specs.declared.node.NodeEntry.{NodeEntry}
use Rattle.aft_model.specs.declared.reply.Reply.{Reply}
use Rattle.aft_model.specs.declared.reply.Reply.TheVariants as replies
use Rattle.aft_model.specs.declared.script.Command.TheVariants as commands
use Rattle.aft_model.proofs.Sights.{bytes_eq-refl}
use Rattle.aft_model.specs.History.{at_place}
use Rattle.aft_model.specs.Membership.{incarnation}
use Rattle.aft_model.specs.NodeSights.{finds_version, has_seen, is_fetched, is_own_find}
use Rattle.aft_model.specs.Replies.{is_silent}
use Rattle.aft_lines.specs.Advance.{is_led_to_end}
use Rattle.aft_lines.specs.LegalTrace.{is_held_attempt}
use Rattle.aft_lines.specs.LineCourse.{answers_last}
use Rattle.aft_lines.specs.LineView.{LineView, ends_of, last_front}
use Rattle.aft_lines.specs.Lines.{node_numbers}
use Rattle.aft_lines.specs.RunsSoFar.{position_of}
use Rattle.aft_lines.specs.Turns.{AtDoor, Turn, answer_in}
use Rattle.law_attempts.proofs.Standing.{same_itself}
use Rattle.aft_node.specs.declared.goes.Got.{Got}
use Rattle.aft_node.specs.declared.goes.Got.TheVariants.{Refused, Version as Came}
use Rattle.aft_turns.specs.Stands.{EndsRightly, GoesRightly, HasLooked, IsUnanswered, RanSo, SeesOwn, StandIn, end_answer, is_right, last_sees}
use Rattle.aft_turns.specs.Trail.{Trail}
use Rattle.aft_turns.specs.declared.turn.Where.TheVariants as places
use Rattle.aft_turns.proofs.Closed.{led_is_some}
use Rattle.aft_turns.proofs.Views.{by_words, with_words}
use Rattle.aft_read.specs.Fetched.{fetch_act, no_memory}
use Rattle.aft_read.specs.Made.{CameBack, Closes, EndedFetch, Fetched, HasBegun, Picks, TellsOf, made_at, turn_at}
use Rattle.aft_read.specs.View.{left_at, next_at}
use Rattle.aft_read.specs.declared.stage.Stage.{Stage}
use Rattle.aft_read.specs.declared.stage.Stage.TheVariants.{Begins, Comes, Ended, Fetches}
use Rattle.aft_read.proofs.Ended.{caused_so}
use Rattle.aft_read.proofs.Led.{goes_on, led_to_end}
use Rattle.aft_read.proofs.Once as once
use Rattle.aft_read.proofs.Once.{right_at}
use Rattle.aft_read.proofs.Reading.{finds_came}

-- each of some turns is one of such a get
abbrev AreRight : List ℕ → Hold → List Turn → Type 0
AreRight key hold turns = IsTrue (list_all (is_right (commands.Get key) hold) turns)

right_and : (key : List ℕ) (hold : Hold) (turn : Turn) (turns : List Turn) → IsTrue (is_right (commands.Get key) hold turn) → AreRight key hold turns → AreRight key hold (turn ∷ turns)
right_and key hold turn turns one others = and_from _ _ one others

-- a get whose next turn is nowhere has no turn left
pub nothing_left : (node : ℕ) (stage : Stage) → next_at node stage ≡ places.Done → left_at stage ≡ 0
nothing_left node (Begins key) e = absurd cc
nothing_left node (Fetches a key id) e = absurd cc
nothing_left node (Comes a key id got place) e = absurd cc
nothing_left node Ended e = refl

-- and any other has one
pub going_so : (node : ℕ) (stage : Stage) → (next_at node stage ≡ places.Done → ⊥) → 1 ≤ left_at stage
going_so node (Begins key) going = omega arith
going_so node (Fetches a key id) going = omega arith
going_so node (Comes a key id got place) going = omega arith
going_so node Ended going = absurd (going refl)

module _ (capacity : ℕ) (by : By) (hold : Hold) (key : List ℕ) where
  of_held : (a : Attempt) → hold.attempt ≡ Some a → IsTrue (is_held_attempt hold.attempt a)
  of_held a held = subst (λ (o : Option Attempt). IsTrue (is_held_attempt o a)) (sym held) (same_itself a)

  -- the turns between the pick and the end
  between : (a : Attempt) (id : TxnId) (got : Got) (place : ℕ) (look : List DoorEntry) (more : List Turn) (rest : List Turn) → Fetched a key id got place look more → AreRight key hold rest → AreRight key hold (more ++ rest)
  between a id got place look more rest (inl (none, was)) right = subst (λ (ts : List Turn). AreRight key hold (ts ++ rest)) (sym none) right
  between a id got place look more rest (inr (answer, words, one, came)) right = subst (λ (ts : List Turn). AreRight key hold (ts ++ rest)) (sym one) (right_and key hold (AtDoor place (fetch_act a key id answer)) rest refl right)

  -- the last turn
  closing : (a : Attempt) (id : TxnId) (got : Got) (place : ℕ) (before : List NodeEntry) (front : ℕ) (act : NodeAct) (answer : Option Reply) → hold.attempt ≡ Some a → Closes a key id place got before act answer → IsTrue (is_right (commands.Get key) hold (turn_at by hold before front act answer))
  closing a id (Came value) place before front act answer held (inl (kept, did, told)) = subst (λ (x : NodeAct). IsTrue (is_right (commands.Get key) hold (turn_at by hold before front x answer))) (sym did) (right_at by hold key before front (acts.Value a key id place kept) answer refl refl (of_held a held))
  closing a id (Refused reply) place before front act answer held (inl (did, told)) = subst (λ (x : NodeAct). IsTrue (is_right (commands.Get key) hold (turn_at by hold before front x answer))) (sym did) (right_at by hold key before front (acts.Lost a key id) answer refl refl (of_held a held))
  closing a id got place before front act answer held (inr (left, did, told)) = subst (λ (x : NodeAct). IsTrue (is_right (commands.Get key) hold (turn_at by hold before front x answer))) (sym did) (right_at by hold key before front acts.Nothing answer refl refl refl)

  told_some : (a : Attempt) (id : TxnId) (got : Got) (place : ℕ) (before : List NodeEntry) (act : NodeAct) (answer : Option Reply) → Closes a key id place got before act answer → IsTrue (is_some answer)
  told_some a id (Came value) place before act answer (inl (kept, did, told)) = subst (λ (o : Option Reply). IsTrue (is_some o)) (sym told) refl
  told_some a id (Refused reply) place before act answer (inl (did, told)) = subst (λ (o : Option Reply). IsTrue (is_some o)) (sym told) refl
  told_some a id got place before act answer (inr (left, did, told)) = subst (λ (o : Option Reply). IsTrue (is_some o)) (sym told) refl

  -- which alone answers
  last_answers : (a : Attempt) (id : TxnId) (first_before : List NodeEntry) (first_front : ℕ) (got : Got) (place : ℕ) (look : List DoorEntry) (more : List Turn) (before : List NodeEntry) (front : ℕ) (act : NodeAct) (answer : Option Reply) → Fetched a key id got place look more → IsTrue (is_some answer)
      → IsTrue (answers_last (turn_at by hold first_before first_front (acts.Select a key (picked.Fetch id)) None ∷ more ++ turn_at by hold before front act answer ∷ []))
  last_answers a id first_before first_front got place look more before front act answer (inl (none, was)) some = subst (λ (ts : List Turn). IsTrue (answers_last (turn_at by hold first_before first_front (acts.Select a key (picked.Fetch id)) None ∷ ts ++ turn_at by hold before front act answer ∷ []))) (sym none) some
  last_answers a id first_before first_front got place look more before front act answer (inr (shown, words, one, came)) some = subst (λ (ts : List Turn). IsTrue (answers_last (turn_at by hold first_before first_front (acts.Select a key (picked.Fetch id)) None ∷ ts ++ turn_at by hold before front act answer ∷ []))) (sym one) some

  -- ---- a get that goes on

  nothing_yet : (view : LineView) → GoesRightly (with_words (commands.Get key) hold [] view)
  nothing_yet view = record { leads = refl; right = refl }

  module _ (view : LineView) (a : Attempt) (id : TxnId) (before : List NodeEntry) (front : ℕ) (picks : Picks capacity hold key a (picked.Fetch id) before) where
    abbrev pick_turn : Turn
    pick_turn = turn_at by hold before front (acts.Select a key (picked.Fetch id)) None

    pick_right : IsTrue (is_right (commands.Get key) hold pick_turn)
    pick_right = right_at by hold key before front (acts.Select a key (picked.Fetch id)) None refl (bytes_eq-refl key) (of_held a picks.held)

    fetches : (got : Got) (place : ℕ) (look : List DoorEntry) (more : List Turn) → Fetched a key id got place look more → GoesRightly (with_words (commands.Get key) hold (pick_turn ∷ more) view)
    fetches got place look more fetched =
        let right = right_and key hold pick_turn (more ++ []) pick_right (between a id got place look more [] fetched refl) in
        let same : pick_turn ∷ more ++ [] ≡ pick_turn ∷ more = ap (λ (ts : List Turn). pick_turn ∷ ts) (append-nil more) in
        record {
          leads = goes_on (node_numbers view.settings) key (ends_of (with_words (commands.Get key) hold (pick_turn ∷ more) view)) (λ inc q left. left) by hold a picks.place id before front more got place look fetched;
          right = subst (AreRight key hold) same right;
        }

    silent : (got : Got) (place : ℕ) (look : List DoorEntry) (more : List Turn) → Fetched a key id got place look more → IsTrue (list_all (λ turn. is_silent (answer_in turn)) (pick_turn ∷ more))
    silent got place look more (inl (none, was)) = subst (λ (ts : List Turn). IsTrue (list_all (λ turn. is_silent (answer_in turn)) (pick_turn ∷ ts))) (sym none) refl
    silent got place look more (inr (answer, words, one, came)) = subst (λ (ts : List Turn). IsTrue (list_all (λ turn. is_silent (answer_in turn)) (pick_turn ∷ ts))) (sym one) refl

  -- ---- a get that has fetched

  module _ (view : LineView) (cache : view.settings.cache ≡ capacity) (a : Attempt) (id : TxnId) (first_before : List NodeEntry) (first_front : ℕ) (picks : Picks capacity hold key a (picked.Fetch id) first_before) (got : Got) (place : ℕ) (look : List DoorEntry) (more : List Turn) (before : List NodeEntry) (front : ℕ) (act : NodeAct) (answer : Option Reply) where
    -- all its turns
    abbrev all_turns : List Turn
    all_turns = turn_at by hold first_before first_front (acts.Select a key (picked.Fetch id)) None ∷ more ++ turn_at by hold before front act answer ∷ []

    abbrev ran : LineView
    ran = with_words (commands.Get key) hold all_turns view

    led_so : Fetched a key id got place look more → Closes a key id place got before act answer → IsTrue (is_led_to_end (position_of ran))
    led_so fetched closes = led_to_end (node_numbers view.settings) key (ends_of ran) (λ inc q left. left) by hold a picks.place id first_before first_front more got place look before front act answer fetched closes

    fetch_right : Fetched a key id got place look more → Closes a key id place got before act answer → GoesRightly ran
    fetch_right fetched closes =
        let last = right_and key hold (turn_at by hold before front act answer) [] (closing a id got place before front act answer picks.held closes) refl in
        let right = right_and key hold (turn_at by hold first_before first_front (acts.Select a key (picked.Fetch id)) None) (more ++ turn_at by hold before front act answer ∷ []) (right_at by hold key first_before first_front (acts.Select a key (picked.Fetch id)) None refl (bytes_eq-refl key) (of_held a picks.held)) (between a id got place look more (turn_at by hold before front act answer ∷ []) fetched last) in
        record { leads = led_is_some (position_of ran) (led_so fetched closes); right = right }

    last_answer : Fetched a key id got place look more → end_answer all_turns ≡ answer
    last_answer (inl (none, was)) = ap (λ (ts : List Turn). end_answer (turn_at by hold first_before first_front (acts.Select a key (picked.Fetch id)) None ∷ ts ++ turn_at by hold before front act answer ∷ [])) none
    last_answer (inr (shown, words, one, came)) = ap (λ (ts : List Turn). end_answer (turn_at by hold first_before first_front (acts.Select a key (picked.Fetch id)) None ∷ ts ++ turn_at by hold before front act answer ∷ [])) one

    fetch_ends : (rest : List DoorEntry) → take (last_front ran) view.seen ≡ look ++ rest → Fetched a key id got place look more → Closes a key id place got before act answer → EndsRightly ran
    fetch_ends rest begins fetched closes = record {
      leads = led_so fetched closes;
      answers = last_answers a id first_before first_front got place look more before front act answer fetched (told_some a id got place before act answer closes);
      caused = λ reply is. caused_so capacity by hold key a id first_before first_front picks view cache before front act answer look rest more got place reply begins fetched closes (sym (last_answer fetched) ∙ is);
    }

  -- ---- what its last turn has seen at the door

  module _ (a : Attempt) (id : TxnId) (first_before : List NodeEntry) (first_front : ℕ) (place_of : a.node ≡ hold.node) (got : Got) (place : ℕ) (look : List DoorEntry) (more : List Turn) (before : List NodeEntry) (front : ℕ) (act : NodeAct) (answer : Option Reply) where
    abbrev its_turns : List Turn
    its_turns = turn_at by hold first_before first_front (acts.Select a key (picked.Fetch id)) None ∷ more ++ turn_at by hold before front act answer ∷ []

    seen_value : (seen : List DoorEntry) (value : List ℕ) (kept : Bool) → got ≡ Came value → Fetched a key id got place look more → SeesOwn by its_turns seen → IsTrue (is_own_find (incarnation hold.node a.inc) by key id value (at_place place seen))
    seen_value seen value kept is (inl (none, inl (refused, fenced))) sees = absurd (differ (sym refused ∙ is))
      where
        differ : Refused (replies.NodeDown a.node a.inc) ≡ Came value → ⊥
        differ e = cc
    seen_value seen value kept is (inl (none, inr unknown)) sees = absurd (differ (sym unknown ∙ is))
      where
        differ : no_memory ≡ Came value → ⊥
        differ e = cc
    seen_value seen value kept is (inr (shown, words, one, inr unknown)) sees = absurd (differ (sym unknown ∙ is))
      where
        differ : no_memory ≡ Came value → ⊥
        differ e = cc
    seen_value seen value kept is (inr (shown, words, one, inl came)) sees =
        let stand = subst (λ (ts : List Turn). StandIn by (turn_at by hold first_before first_front (acts.Select a key (picked.Fetch id)) None ∷ ts ++ turn_at by hold before front act answer ∷ []) seen) one sees.places in
        subst (λ (o : Option DoorEntry). IsTrue (is_own_find (incarnation hold.node a.inc) by key id value o)) (sym stand.0)
        (and_from _ _ (and_from _ _ (eq-eqb by.client by.client refl) (eq-eqb by.line by.line refl)) (subst (λ (n : ℕ). IsTrue (finds_version (incarnation n a.inc) key id value (fetch_act a key id shown))) place_of (finds_came a key id shown got value came is)))

    sees_turn : (seen : List DoorEntry) → Fetched a key id got place look more → Closes a key id place got before act answer → SeesOwn by its_turns seen → IsTrue (has_seen hold.node seen by before act answer)
    sees_turn seen fetched (inl tells) sees = by_got got refl tells
      where
        by_got : (g : Got) → got ≡ g → TellsOf a key id place g act answer → IsTrue (has_seen hold.node seen by before act answer)
        by_got (Came value) is (kept, did, told) =
            subst (λ (x : NodeAct). IsTrue (has_seen hold.node seen by before x answer)) (sym did)
            (subst (λ (o : Option Reply). IsTrue (is_fetched (incarnation hold.node a.inc) by key id place seen o)) (sym told) (seen_value seen value kept is fetched sees))
        by_got (Refused reply) is (did, told) = subst (λ (x : NodeAct). IsTrue (has_seen hold.node seen by before x answer)) (sym did) refl
    sees_turn seen fetched (inr (left, did, told)) sees = subst (λ (x : NodeAct). IsTrue (has_seen hold.node seen by before x answer)) (sym did) refl

    sees_last : (seen : List DoorEntry) → Fetched a key id got place look more → Closes a key id place got before act answer → SeesOwn by its_turns seen → IsTrue (last_sees seen its_turns)
    sees_last seen fetched closes sees = by_more fetched (sees_turn seen fetched closes sees)
      where
        by_more : Fetched a key id got place look more → IsTrue (has_seen hold.node seen by before act answer) → IsTrue (last_sees seen its_turns)
        by_more (inl (none, was)) is = subst (λ (ts : List Turn). IsTrue (last_sees seen (turn_at by hold first_before first_front (acts.Select a key (picked.Fetch id)) None ∷ ts ++ turn_at by hold before front act answer ∷ []))) (sym none) is
        by_more (inr (shown, words, one, came)) is = subst (λ (ts : List Turn). IsTrue (last_sees seen (turn_at by hold first_before first_front (acts.Select a key (picked.Fetch id)) None ∷ ts ++ turn_at by hold before front act answer ∷ []))) (sym one) is

  -- ---- by the stage

  -- a line of these turns
  by_turns : (P : LineView → Type 0) (trail : Trail) (view : LineView) (turns : List Turn) → RanSo (commands.Get key) hold capacity trail view → trail.turns ≡ turns → P (with_words (commands.Get key) hold turns view) → P view
  by_turns P trail view turns ran are holds = by_words P (commands.Get key) hold capacity trail view turns ran are holds

  -- the turns of a fetch that has come back, or of one that is over
  begun_turns : (a : Attempt) (id : TxnId) (trail : Trail) (begun : HasBegun capacity by hold key a id trail) → trail.turns ≡ turn_at by hold begun.picked.before begun.picked.front (acts.Select a key (picked.Fetch id)) None ∷ []
  begun_turns a id trail begun = begun.turns ∙ ap (λ (t : Turn). t ∷ []) begun.picked.turn

  came_turns : (a : Attempt) (id : TxnId) (got : Got) (place : ℕ) (trail : Trail) (came : CameBack capacity by hold key a id got place trail) → trail.turns ≡ turn_at by hold came.picked.before came.picked.front (acts.Select a key (picked.Fetch id)) None ∷ came.more
  came_turns a id got place trail came = came.turns ∙ ap (λ (t : Turn). t ∷ came.more) came.picked.turn

  ended_turns : (trail : Trail) (ended : EndedFetch capacity by hold key trail) → trail.turns ≡ turn_at by hold ended.came.picked.before ended.came.picked.front (acts.Select ended.attempt key (picked.Fetch ended.id)) None ∷ ended.came.more ++ turn_at by hold ended.before ended.front ended.act ended.answer ∷ []
  ended_turns trail ended = ended.turns ∙ ap (λ (ts : List Turn). ts ++ turn_at by hold ended.before ended.front ended.act ended.answer ∷ []) (came_turns ended.attempt ended.id ended.got ended.place ended.since ended.came)

  pub goes_so : (stage : Stage) (trail : Trail) (view : LineView) → made_at capacity by hold key stage trail → RanSo (commands.Get key) hold capacity trail view → GoesRightly view
  goes_so (Begins its) trail view (same, none) ran = by_turns GoesRightly trail view [] ran (ap (λ (t : Trail). t.turns) none) (nothing_yet view)
  goes_so (Fetches a its id) trail view (same, begun) ran =
      by_turns GoesRightly trail view _ ran (begun_turns a id trail begun)
      (fetches view a id begun.picked.before begun.picked.front begun.picked.picks no_memory 0 [] [] (inl (refl, inr refl)))
  goes_so (Comes a its id got place) trail view (same, came) ran =
      by_turns GoesRightly trail view _ ran (came_turns a id got place trail came)
      (fetches view a id came.picked.before came.picked.front came.picked.picks got place trail.look came.more came.fetched)
  goes_so Ended trail view (inl it) ran = by_turns GoesRightly trail view _ ran it.turns (once.goes capacity by hold key it.before it.front view ran.cache it.act it.answer it.answers)
  goes_so Ended trail view (inr ended) ran =
      by_turns GoesRightly trail view _ ran (ended_turns trail ended)
      (fetch_right view ran.cache ended.attempt ended.id ended.came.picked.before ended.came.picked.front ended.came.picked.picks ended.got ended.place ended.since.look ended.came.more ended.before ended.front ended.act ended.answer ended.came.fetched ended.closes)

  pub unanswered_so : (stage : Stage) (trail : Trail) (view : LineView) → made_at capacity by hold key stage trail → RanSo (commands.Get key) hold capacity trail view → 1 ≤ left_at stage → IsUnanswered view
  unanswered_so (Begins its) trail view (same, none) ran left = by_turns IsUnanswered trail view [] ran (ap (λ (t : Trail). t.turns) none) refl
  unanswered_so (Fetches a its id) trail view (same, begun) ran left =
      by_turns IsUnanswered trail view _ ran (begun_turns a id trail begun) refl
  unanswered_so (Comes a its id got place) trail view (same, came) ran left =
      by_turns IsUnanswered trail view _ ran (came_turns a id got place trail came)
      (silent view a id came.picked.before came.picked.front came.picked.picks got place trail.look came.more came.fetched)
  unanswered_so Ended trail view made ran left = absurd (omega arith)

  pub ends_so : (stage : Stage) (trail : Trail) (view : LineView) → made_at capacity by hold key stage trail → RanSo (commands.Get key) hold capacity trail view → left_at stage ≡ 0 → HasLooked trail view → EndsRightly view
  ends_so (Begins its) trail view made ran none looked = absurd (omega arith)
  ends_so (Fetches a its id) trail view made ran none looked = absurd (omega arith)
  ends_so (Comes a its id got place) trail view made ran none looked = absurd (omega arith)
  ends_so Ended trail view (inl it) ran none looked = by_turns EndsRightly trail view _ ran it.turns (once.ends capacity by hold key it.before it.front view ran.cache it.act it.answer it.answers)
  ends_so Ended trail view (inr ended) ran none looked =
      by_turns EndsRightly trail view _ ran (ended_turns trail ended)
      (fetch_ends view ran.cache ended.attempt ended.id ended.came.picked.before ended.came.picked.front ended.came.picked.picks ended.got ended.place ended.since.look ended.came.more ended.before ended.front ended.act ended.answer looked.0 begins ended.came.fetched ended.closes)
    where
      begins : take (last_front (with_words (commands.Get key) hold (turn_at by hold ended.came.picked.before ended.came.picked.front (acts.Select ended.attempt key (picked.Fetch ended.id)) None ∷ ended.came.more ++ turn_at by hold ended.before ended.front ended.act ended.answer ∷ []) view)) view.seen ≡ ended.since.look ++ looked.0
      begins =
          subst (λ (ts : List Turn). take (last_front (with_words (commands.Get key) hold ts view)) view.seen ≡ ended.since.look ++ looked.0) (ran.turns ∙ ended_turns trail ended)
          (looked.1 ∙ ap (λ (l : List DoorEntry). l ++ looked.0) ended.look)

  -- of one that is over the last turn alone answers, whatever it has seen
  pub answers_so : (stage : Stage) (trail : Trail) → made_at capacity by hold key stage trail → left_at stage ≡ 0 → IsTrue (answers_last trail.turns)
  answers_so (Begins its) trail made none = absurd (omega arith)
  answers_so (Fetches a its id) trail made none = absurd (omega arith)
  answers_so (Comes a its id got place) trail made none = absurd (omega arith)
  answers_so Ended trail (inl it) none = subst (λ (ts : List Turn). IsTrue (answers_last ts)) (sym it.turns) (once.some_answer capacity hold key it.before it.act it.answer it.answers)
  answers_so Ended trail (inr ended) none =
      subst (λ (ts : List Turn). IsTrue (answers_last ts)) (sym (ended_turns trail ended))
      (last_answers ended.attempt ended.id ended.came.picked.before ended.came.picked.front ended.got ended.place ended.since.look ended.came.more ended.before ended.front ended.act ended.answer ended.came.fetched (told_some ended.attempt ended.id ended.got ended.place ended.before ended.act ended.answer ended.closes))

  pub sees_so : (stage : Stage) (trail : Trail) (seen : List DoorEntry) → made_at capacity by hold key stage trail → SeesOwn by trail.turns seen → IsTrue (last_sees seen trail.turns)
  sees_so (Begins its) trail seen (same, none) sees = subst (λ (ts : List Turn). IsTrue (last_sees seen ts)) (sym (ap (λ (t : Trail). t.turns) none)) refl
  sees_so (Fetches a its id) trail seen (same, begun) sees = subst (λ (ts : List Turn). IsTrue (last_sees seen ts)) (sym (begun_turns a id trail begun)) refl
  sees_so (Comes a its id got place) trail seen (same, came) sees = subst (λ (ts : List Turn). IsTrue (last_sees seen ts)) (sym (came_turns a id got place trail came)) (by_more came.more came.fetched)
    where
      by_more : (more : List Turn) → Fetched a key id got place trail.look more → IsTrue (last_sees seen (turn_at by hold came.picked.before came.picked.front (acts.Select a key (picked.Fetch id)) None ∷ more))
      by_more more (inl (none, was)) = subst (λ (ts : List Turn). IsTrue (last_sees seen (turn_at by hold came.picked.before came.picked.front (acts.Select a key (picked.Fetch id)) None ∷ ts))) (sym none) refl
      by_more more (inr (answer, words, one, came_so)) = subst (λ (ts : List Turn). IsTrue (last_sees seen (turn_at by hold came.picked.before came.picked.front (acts.Select a key (picked.Fetch id)) None ∷ ts))) (sym one) refl
  sees_so Ended trail seen (inl it) sees = subst (λ (ts : List Turn). IsTrue (last_sees seen ts)) (sym it.turns) (once.sees capacity by hold key it.before it.front seen it.act it.answer it.answers)
  sees_so Ended trail seen (inr ended) sees =
      subst (λ (ts : List Turn). IsTrue (last_sees seen ts)) (sym (ended_turns trail ended))
      (sees_last ended.attempt ended.id ended.came.picked.before ended.came.picked.front ended.came.picked.picks.place ended.got ended.place ended.since.look ended.came.more ended.before ended.front ended.act ended.answer seen ended.came.fetched ended.closes (subst (λ (ts : List Turn). SeesOwn by ts seen) (ended_turns trail ended) sees))
