-- What stands of a commit or an abort by the turns that it has made.
use Rattle.std.proofs.Common.{◌≡◌, ◌≤◌, ℕ, Bool, ◌&&◌, List, [], ◌∷◌, ◌++◌, refl, sym, ap, subst, ◌∙◌, ◌⊎◌, inl, inr, arith}
use Rattle.std.specs.Prelude.{IsTrue, None, Option, Some, is_some, take}
use Rattle.std.specs.List.{list_all}
use Rattle.std.proofs.lemmas.Bool.{and_from, and_parts}
use Rattle.std.proofs.lemmas.List.Folds.{list_all-append}
use Rattle.std.proofs.lemmas.List.Sums.{fold-append}
use Rattle.aft_model.specs.declared.caller.Attempt.{Attempt}
use Rattle.aft_model.specs.declared.caller.By.{By}
use Rattle.aft_model.specs.declared.caller.Hold.{Hold}
use Rattle.aft_model.specs.declared.door.DoorEntry.{DoorEntry}
use Rattle.aft_model.specs.declared.node.NodeAct.{NodeAct}
use Rattle.aft_model.specs.declared.node.NodeEntry.{NodeEntry}
use Rattle.aft_model.specs.declared.reply.Reply.{Reply}
use Rattle.aft_model.specs.declared.script.Command.{Command}
use Rattle.aft_model.specs.NodeSights.{is_fenced}
use Rattle.aft_model.specs.Replies.{is_silent}
use Rattle.aft_model.proofs.Growth.{all_implied, given_grows}
use Rattle.aft_lines.specs.Advance.{is_led_to_end}
use Rattle.aft_lines.specs.Causes.{Caused}
use Rattle.aft_lines.specs.LegalTrace.{is_clock_time, named_node, stands_at, turn_words}
use Rattle.aft_lines.specs.LineCourse.{answers_last}
use Rattle.aft_lines.specs.LineView.{LineView, ends_of, last_front}
use Rattle.aft_lines.specs.Lines.{node_numbers}
use Rattle.aft_lines.specs.Makes.{makes}
use Rattle.aft_lines.specs.Progress.{Progress}
use Rattle.aft_lines.specs.RunsSoFar.{position_of}
use Rattle.aft_lines.specs.Turns.{Turn, answer_in, end_front, front_in}
use Rattle.aft_turns.specs.Stands.{EndsRightly, GoesRightly, HasLooked, IsUnanswered, RanSo, SeesOwn, end_answer, is_right, last_sees}
use Rattle.aft_turns.specs.Trail.{Trail}
use Rattle.aft_turns.specs.declared.turn.Where.TheVariants as places
use Rattle.aft_turns.proofs.Closed.{led_is_some}
use Rattle.aft_turns.proofs.Views.{by_words, with_words}
use Rattle.aft_commit.specs.Made.{FitEnds, HasCome, HasEnded, command_of, is_own, is_own_silent, made_at, turn_reads}
use Rattle.aft_commit.specs.Told.{EndedAtOnce, EndedLater, closing_act, closing_reply, turn_at}
use Rattle.aft_commit.specs.View.{left_at, next_at}
use Rattle.aft_commit.specs.declared.stage.Stage.{Stage}
use Rattle.aft_commit.specs.declared.stage.Stage.TheVariants.{Begins, Doubts, Ended, Ends, Failed, Recorded, Releases, Settles, ShutOut, Stores}
use Rattle.aft_commit.proofs.Caused.{caused_later, front_at_last}
use Rattle.aft_commit.proofs.Once.{caused_once}

-- only one that is over goes nowhere
done_is : (node : ℕ) (stage : Stage) → next_at node stage ≡ places.Done → (P : Stage → Type 0) → P stage → P Ended
done_is node Ended done P is = is
done_is node Begins done P is = absurd cc
done_is node (Settles a r values) done P is = absurd cc
done_is node (Stores a r values count) done P is = absurd cc
done_is node (Failed a r) done P is = absurd cc
done_is node (Recorded a r) done P is = absurd cc
done_is node (Releases a uuid outcome) done P is = absurd cc
done_is node (Doubts a reply) done P is = absurd cc
done_is node (Ends a uuid outcome) done P is = absurd cc
done_is node (ShutOut a) done P is = absurd cc

-- and any other has a turn left
pub going_so : (node : ℕ) (stage : Stage) → (next_at node stage ≡ places.Done → ⊥) → 1 ≤ left_at stage
going_so node Ended going = absurd (going refl)
going_so node Begins going = omega arith
going_so node (Settles a r values) going = omega arith
going_so node (Stores a r values count) going = omega arith
going_so node (Failed a r) going = omega arith
going_so node (Recorded a r) going = omega arith
going_so node (Releases a uuid outcome) going = omega arith
going_so node (Doubts a reply) going = omega arith
going_so node (Ends a uuid outcome) going = omega arith
going_so node (ShutOut a) going = omega arith

-- ---- each turn

module _ (clock : ℕ) (hold : Hold) (aborts : Bool) where
  silent_own : (turn : Turn) → IsTrue (is_own_silent clock hold aborts turn) → IsTrue (is_own clock hold aborts turn)
  silent_own turn is = (and_parts (is_own clock hold aborts turn) (is_silent (answer_in turn)) is).0

  own_silent : (turn : Turn) → IsTrue (is_own_silent clock hold aborts turn) → IsTrue (is_silent (answer_in turn))
  own_silent turn is = (and_parts (is_own clock hold aborts turn) (is_silent (answer_in turn)) is).1

  own_reads : (turn : Turn) → IsTrue (is_own clock hold aborts turn) → IsTrue (turn_reads clock turn)
  own_reads turn is = (and_parts (is_right (command_of aborts) hold turn) (turn_reads clock turn) is).1

  own_right : (turn : Turn) → IsTrue (is_own clock hold aborts turn) → IsTrue (is_right (command_of aborts) hold turn)
  own_right turn is = (and_parts (is_right (command_of aborts) hold turn) (turn_reads clock turn) is).0

  own_makes : (turn : Turn) → IsTrue (is_own clock hold aborts turn) → IsTrue (makes (command_of aborts) turn)
  own_makes turn is =
      let placed = (and_parts (makes (command_of aborts) turn && turn_words (command_of aborts) turn && stands_at (named_node (command_of aborts) hold) turn) _ (own_right turn is)).0 in
      let carries = (and_parts (makes (command_of aborts) turn && turn_words (command_of aborts) turn) _ placed).0 in
      (and_parts (makes (command_of aborts) turn) _ carries).0

  -- each of its turns is its own
  abbrev AreOwn : List Turn → Type 0
  AreOwn turns = IsTrue (list_all (is_own clock hold aborts) turns)

  all_own : (turns : List Turn) → IsTrue (list_all (is_own_silent clock hold aborts) turns) → AreOwn turns
  all_own turns own = all_implied (is_own_silent clock hold aborts) (is_own clock hold aborts) silent_own turns own

  ended_own : {by : By} (trail : Trail) → HasEnded clock by hold aborts trail → AreOwn trail.turns
  ended_own trail ended =
      subst AreOwn (sym ended.turns)
      (list_all-append (is_own clock hold aborts) ended.since (ended.last ∷ []) ∙ and_from _ _ (all_own ended.since ended.own) (and_from _ _ ended.last_own refl))

  makes_so : (turns : List Turn) → AreOwn turns → IsTrue (list_all (makes (command_of aborts)) turns)
  makes_so turns own = all_implied (is_own clock hold aborts) (makes (command_of aborts)) own_makes turns own

  -- ---- a line of these turns

  module _ (capacity : ℕ) (trail : Trail) (view : LineView) (ran : RanSo (command_of aborts) hold capacity trail view) where
    abbrev line : List Turn → LineView
    line turns = with_words (command_of aborts) hold turns view

    by_turns : (P : LineView → Type 0) (turns : List Turn) → trail.turns ≡ turns → P (line turns) → P view
    by_turns P turns are holds = by_words P (command_of aborts) hold capacity trail view turns ran are holds

    -- and back
    of_turns : (P : LineView → Type 0) (turns : List Turn) → trail.turns ≡ turns → P view → P (line turns)
    of_turns P turns are holds =
        subst (λ (ts : List Turn). P (line ts)) are
        (subst (λ (ts : List Turn). P (line ts)) ran.turns
        (subst (λ (h : Hold). P (with_words (command_of aborts) h view.turns view)) ran.held
        (subst (λ (c : Command). P (with_words c view.hold view.turns view)) ran.asked holds)))

    goes_here : IsTrue (is_some (position_of (line trail.turns))) → AreOwn trail.turns → GoesRightly view
    goes_here leads own =
        by_turns GoesRightly trail.turns refl (record {
          leads = leads;
          right = all_implied (is_own clock hold aborts) (is_right (command_of aborts) hold) own_right trail.turns own;
        })

    module _ (by : By) where
      goes_come : (a : Attempt) (position : Progress) → HasCome clock by hold aborts a position trail → GoesRightly view
      goes_come a position come =
          goes_here (subst (λ (o : Option Progress). IsTrue (is_some o)) (sym (come.leads (node_numbers view.settings) (ends_of (line trail.turns)))) refl) (all_own trail.turns come.own)

      -- ---- one that is over

      -- what its last turn has seen begins with what it looked at
      module _ (since : List Turn) (node : ℕ) (before : List NodeEntry) (front : ℕ) (act : NodeAct) (answer : Option Reply) (are : trail.turns ≡ since ++ turn_at by node before front act answer ∷ []) (looked : HasLooked trail view) where
        abbrev last : Turn
        last = turn_at by node before front act answer

        looked_so : take front view.seen ≡ trail.look ++ looked.0
        looked_so =
            ap (λ (n : ℕ). take n view.seen) (sym (front_at_last (command_of aborts) hold view by since node before front act answer))
            ∙ of_turns (λ v. take (last_front v) v.seen ≡ trail.look ++ looked.0) (since ++ last ∷ []) are looked.1

        end_front_is : end_front trail.turns ≡ front
        end_front_is = ap end_front are ∙ fold-append (λ (x : ℕ) (turn : Turn). front_in turn) 0 since (last ∷ [])

        fits : FitEnds trail.look trail.turns (ends_of (line trail.turns))
        fits = record {
          left = λ inc history left. left;
          shut_out = λ who fenced.
              subst (λ (n : ℕ). IsTrue (is_fenced who (take n view.seen))) (sym end_front_is)
              (subst (λ (seen : List DoorEntry). IsTrue (is_fenced who seen)) (sym looked_so) (given_grows _ _ trail.look looked.0 fenced));
        }

        led_so : HasEnded clock by hold aborts trail → IsTrue (is_led_to_end (position_of (line trail.turns)))
        led_so ended = ended.leads (node_numbers view.settings) (ends_of (line trail.turns)) fits

        goes_ended : HasEnded clock by hold aborts trail → GoesRightly view
        goes_ended ended = goes_here (led_is_some (position_of (line trail.turns)) (led_so ended)) (ended_own trail ended)

        last_answer : end_answer trail.turns ≡ answer
        last_answer = ap end_answer are ∙ fold-append (λ (x : Option Reply) (turn : Turn). answer_in turn) None since (last ∷ [])

        ends_with : (reply : Reply) → answer ≡ Some reply → HasEnded clock by hold aborts trail → Caused (line (since ++ last ∷ [])) reply → EndsRightly view
        ends_with reply told ended caused =
            by_turns EndsRightly trail.turns refl (record {
              leads = led_so ended;
              answers = ended.answers;
              caused = λ other is. subst (λ (r : Reply). Caused (line trail.turns) r) (one_reply reply other (sym told ∙ sym last_answer ∙ is)) (subst (λ (ts : List Turn). Caused (line ts) reply) (sym are) caused);
            })
          where
            one_reply : (r q : Reply) → Some r ≡ Some q → r ≡ q
            one_reply r q e = cc

      goes_over : HasLooked trail view → HasEnded clock by hold aborts trail → EndedAtOnce clock by hold aborts trail ⊎ EndedLater by hold aborts trail → GoesRightly view
      goes_over looked ended (inl once) = goes_ended [] once.node.number once.node.history once.front _ (Some once.reply) once.turns looked ended
      goes_over looked ended (inr later) = goes_ended later.since later.node later.before later.front (closing_act later.attempt later.closing) (Some (closing_reply later.attempt later.closing)) later.turns looked ended

      ends_over : IsTrue (is_clock_time view.clock clock) → HasLooked trail view → HasEnded clock by hold aborts trail → EndedAtOnce clock by hold aborts trail ⊎ EndedLater by hold aborts trail → EndsRightly view
      ends_over timely looked ended (inl once) =
          ends_with [] once.node.number once.node.history once.front _ (Some once.reply) once.turns looked once.reply refl ended
          (caused_once clock by hold aborts once.node once.front view once.reply timely once.answers)
      ends_over timely looked ended (inr later) =
          ends_with later.since later.node later.before later.front (closing_act later.attempt later.closing) (Some (closing_reply later.attempt later.closing)) later.turns looked (closing_reply later.attempt later.closing) refl ended
          (caused_later by hold aborts view later.attempt later.held later.since later.node later.before later.front trail.look looked.0 later.closing
          (looked_so later.since later.node later.before later.front (closing_act later.attempt later.closing) (Some (closing_reply later.attempt later.closing)) later.turns looked)
          may later.closes)
        where
          may : IsTrue (list_all (makes (command_of aborts)) later.since)
          may =
              (and_parts (list_all (makes (command_of aborts)) later.since) _
              (sym (list_all-append (makes (command_of aborts)) later.since _) ∙ subst (λ (ts : List Turn). IsTrue (list_all (makes (command_of aborts)) ts)) later.turns (makes_so trail.turns (ended_own trail ended)))).0

-- ---- by the stage

module _ (clock : ℕ) (by : By) (hold : Hold) (aborts : Bool) where
  -- it has done nothing yet, has come to a position, or is over
  data Comes (trail : Trail) : Type 0 where
    Nothing : trail.turns ≡ [] → Comes trail
    GoesOn : (a : Attempt) (position : Progress) → HasCome clock by hold aborts a position trail → Comes trail

  comes_so : (stage : Stage) (trail : Trail) → made_at clock by hold aborts stage trail → Comes trail ⊎ ((stage ≡ Ended) × HasEnded clock by hold aborts trail × (EndedAtOnce clock by hold aborts trail ⊎ EndedLater by hold aborts trail))
  comes_so Begins trail made = inl (Nothing (ap (λ (t : Trail). t.turns) made.0))
  comes_so (Settles a r values) trail made = inl (GoesOn a _ made.0.3)
  comes_so (Stores a r values count) trail made = inl (GoesOn a _ made.0.4)
  comes_so (Failed a r) trail made = inl (GoesOn a _ made.0.1)
  comes_so (Recorded a r) trail made = inl (GoesOn a _ made.0.1)
  comes_so (Releases a uuid outcome) trail made = inl (GoesOn a _ made.0.2)
  comes_so (Doubts a reply) trail made = inl (GoesOn a _ made.0.2)
  comes_so (Ends a uuid outcome) trail made = inl (GoesOn a _ made.0)
  comes_so (ShutOut a) trail made = inl (GoesOn a _ made.0.2)
  comes_so Ended trail made = inr (refl, made.0, made.1)

  module _ (capacity : ℕ) (trail : Trail) (view : LineView) (ran : RanSo (command_of aborts) hold capacity trail view) where
    pub goes_so : (stage : Stage) → made_at clock by hold aborts stage trail → (next_at hold.node stage ≡ places.Done → HasLooked trail view) → GoesRightly view
    goes_so stage made looked = by_come (comes_so stage trail made)
      where
        by_come : Comes trail ⊎ ((stage ≡ Ended) × HasEnded clock by hold aborts trail × (EndedAtOnce clock by hold aborts trail ⊎ EndedLater by hold aborts trail)) → GoesRightly view
        by_come (inl (Nothing none)) = by_turns clock hold aborts capacity trail view ran GoesRightly [] none (record { leads = refl; right = refl })
        by_come (inl (GoesOn a position come)) = goes_come clock hold aborts capacity trail view ran by a position come
        by_come (inr (is, ended, told)) = goes_over clock hold aborts capacity trail view ran by (looked (ap (next_at hold.node) is)) ended told

    pub unanswered_so : (stage : Stage) → made_at clock by hold aborts stage trail → 1 ≤ left_at stage → IsUnanswered view
    unanswered_so stage made left = by_come (comes_so stage trail made)
      where
        none_left : stage ≡ Ended → ⊥
        none_left is = let zero : left_at stage ≡ 0 = ap left_at is in omega arith

        by_come : Comes trail ⊎ ((stage ≡ Ended) × HasEnded clock by hold aborts trail × (EndedAtOnce clock by hold aborts trail ⊎ EndedLater by hold aborts trail)) → IsUnanswered view
        by_come (inl (Nothing none)) = by_turns clock hold aborts capacity trail view ran IsUnanswered [] none refl
        by_come (inl (GoesOn a position come)) =
            by_turns clock hold aborts capacity trail view ran IsUnanswered trail.turns refl (all_implied (is_own_silent clock hold aborts) (λ turn. is_silent (answer_in turn)) (own_silent clock hold aborts) trail.turns come.own)
        by_come (inr (is, ended, told)) = absurd (none_left is)

    pub ends_so : (stage : Stage) → made_at clock by hold aborts stage trail → IsTrue (is_clock_time view.clock clock) → next_at hold.node stage ≡ places.Done → HasLooked trail view → EndsRightly view
    ends_so stage made timely done looked =
        let over = done_is hold.node stage done (λ s. made_at clock by hold aborts s trail) made in
        ends_over clock hold aborts capacity trail view ran by timely looked over.0 over.1

  -- of one that is over the last turn alone answers, whatever it has seen
  pub answers_so : (stage : Stage) (trail : Trail) → made_at clock by hold aborts stage trail → next_at hold.node stage ≡ places.Done → IsTrue (answers_last trail.turns)
  answers_so stage trail made done = (done_is hold.node stage done (λ s. made_at clock by hold aborts s trail) made).0.answers

  pub sees_so : (stage : Stage) (trail : Trail) (seen : List DoorEntry) → made_at clock by hold aborts stage trail → SeesOwn by trail.turns seen → IsTrue (last_sees seen trail.turns)
  sees_so stage trail seen made own = by_come (comes_so stage trail made)
    where
      by_come : Comes trail ⊎ ((stage ≡ Ended) × HasEnded clock by hold aborts trail × (EndedAtOnce clock by hold aborts trail ⊎ EndedLater by hold aborts trail)) → IsTrue (last_sees seen trail.turns)
      by_come (inl (Nothing none)) = subst (λ (ts : List Turn). IsTrue (last_sees seen ts)) (sym none) refl
      by_come (inl (GoesOn a position come)) = come.sees seen own.own
      by_come (inr (is, ended, told)) = ended.sees seen own.own

  pub reads_so : (stage : Stage) (trail : Trail) → made_at clock by hold aborts stage trail → IsTrue (list_all (turn_reads clock) trail.turns)
  reads_so stage trail made = by_come (comes_so stage trail made)
    where
      by_come : Comes trail ⊎ ((stage ≡ Ended) × HasEnded clock by hold aborts trail × (EndedAtOnce clock by hold aborts trail ⊎ EndedLater by hold aborts trail)) → IsTrue (list_all (turn_reads clock) trail.turns)
      by_come (inl (Nothing none)) = subst (λ (ts : List Turn). IsTrue (list_all (turn_reads clock) ts)) (sym none) refl
      by_come (inl (GoesOn a position come)) = all_implied (is_own clock hold aborts) (turn_reads clock) (own_reads clock hold aborts) trail.turns (all_own clock hold aborts trail.turns come.own)
      by_come (inr (is, ended, told)) = all_implied (is_own clock hold aborts) (turn_reads clock) (own_reads clock hold aborts) trail.turns (ended_own clock hold aborts trail ended)
