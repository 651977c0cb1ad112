-- The last turn of a line, as its course says it and as its position does.
use Rattle.std.proofs.Common.{◌≡◌, Bool, true, false, ◌&&◌, ◌||◌, not, List, [], ◌∷◌, refl, ap, ◌∙◌, eqb}
use Rattle.std.specs.Prelude.{Option, Some, None, if◌then◌else◌}
use Rattle.std.specs.List.{fold}
use Rattle.aft_model.specs.declared.caller.Attempt.{Attempt}
use Rattle.aft_model.specs.declared.node.NodeAct.{NodeAct}
use Rattle.aft_model.specs.declared.reply.Reply.{Reply}
use Rattle.aft_model.specs.NodeState.{node_state}
use Rattle.aft_lines.specs.Advance.{advanced, closed_by, is_led_to_end, or_at, shut_out_by}
use Rattle.aft_lines.specs.CourseWords.{Ends, answers_down, caller_of, closes, ends_at_node, ends_shut_out, is_over}
use Rattle.aft_lines.specs.Progress.{IsOver, Progress, Stopped}
use Rattle.aft_lines.specs.Turns.{AtDoor, AtNode, AtOffice, Turn}
use Rattle.law_courses.proofs.Tests.{and_comm, and_false}

-- steps of positions that go nowhere from an end
module _ (step : Progress → Turn → Option Progress) (over : (turn : Turn) → step IsOver turn ≡ None) (stopped : (a : Attempt) (turn : Turn) → step (Stopped a) turn ≡ None) where
  abbrev pub led : Option Progress → List Turn → Bool
  led position line = is_led_to_end (fold (advanced step) position line)

  -- from nowhere nothing leads to an end
  pub led-none : (line : List Turn) → led None line ≡ false
  led-none [] = refl
  led-none (turn ∷ line) = led-none line

  -- and behind an end no turn follows
  pub led-over : (line : List Turn) → led (Some IsOver) line ≡ is_over line
  led-over [] = refl
  led-over (turn ∷ line) = ap (λ (position : Option Progress). led position line) (over turn) ∙ led-none line

  pub led-stopped : (a : Attempt) (line : List Turn) → led (Some (Stopped a)) line ≡ is_over line
  led-stopped a [] = refl
  led-stopped a (turn ∷ line) = ap (λ (position : Option Progress). led position line) (stopped a turn) ∙ led-none line

  module _ (ends : Ends) (a : Attempt) (test : NodeAct → Option Reply → Bool) where
    -- where a closing turn leads, by its three tests
    abbrev closing : Bool → Bool → Bool → Option Progress
    closing here passed down = if not here then None else if passed then Some IsOver else if down then Some (Stopped a) else None

    closing_alone : (here passed down : Bool) → led (closing here passed down) [] ≡ (here && (passed || down))
    closing_alone true true down = refl
    closing_alone true false true = refl
    closing_alone true false false = refl
    closing_alone false passed down = refl

    closing_more : (turn : Turn) (line : List Turn) (here passed down : Bool) → led (closing here passed down) (turn ∷ line) ≡ false
    closing_more turn line true true down = led-over (turn ∷ line)
    closing_more turn line true false true = led-stopped a (turn ∷ line)
    closing_more turn line true false false = led-none (turn ∷ line)
    closing_more turn line false passed down = led-none (turn ∷ line)

    -- a closing turn leads to the end exactly where it is the last, at the attempt's node, and closes
    pub led-closed : (turn : Turn) (line : List Turn) → led (closed_by ends a test turn) line ≡ ends_at_node a.node (closes ends a.inc test) (turn ∷ line)
    led-closed (AtDoor place act) line = led-none line
    led-closed (AtOffice before entry) line = led-none line
    led-closed (AtNode at before entry) [] =
        closing_alone (eqb a.node at) (test entry.act entry.answer) (answers_down entry.act entry.answer && ends.is_left a.inc (node_state before))
    led-closed (AtNode at before entry) (turn ∷ line) =
        closing_more turn line (eqb a.node at) (test entry.act entry.answer) (answers_down entry.act entry.answer && ends.is_left a.inc (node_state before))

    -- a closing turn, or else another position
    abbrev closing_or : Bool → Bool → Bool → Option Progress → Option Progress
    closing_or here passed down other = or_at (closing here passed down) other

    last_or : (here passed down : Bool) (other : Option Progress) → led (closing_or here passed down other) [] ≡ ((here && (passed || down)) || led other [])
    last_or true true down other = refl
    last_or true false true other = refl
    last_or true false false other = refl
    last_or false passed down other = refl

    more_or : (here passed down : Bool) (other : Option Progress) (next : Turn) (line : List Turn) → led other (next ∷ line) ≡ false → led (closing_or here passed down other) (next ∷ line) ≡ false
    more_or true true down other next line none = led-over (next ∷ line)
    more_or true false true other next line none = led-stopped a (next ∷ line)
    more_or true false false other next line none = none
    more_or false passed down other next line none = none

    -- the last turn closes, or leads to the end otherwise
    pub led-or_last : (turn : Turn) (other : Option Progress) → led (or_at (closed_by ends a test turn) other) [] ≡ (ends_at_node a.node (closes ends a.inc test) (turn ∷ []) || led other [])
    led-or_last (AtDoor place act) other = refl
    led-or_last (AtOffice before entry) other = refl
    led-or_last (AtNode at before entry) other = last_or (eqb a.node at) (test entry.act entry.answer) (answers_down entry.act entry.answer && ends.is_left a.inc (node_state before)) other

    -- and one that isn't the last leads nowhere by closing
    pub led-or_more : (turn next : Turn) (line : List Turn) (other : Option Progress) → led other (next ∷ line) ≡ false → led (or_at (closed_by ends a test turn) other) (next ∷ line) ≡ false
    led-or_more (AtDoor place act) next line other none = none
    led-or_more (AtOffice before entry) next line other none = none
    led-or_more (AtNode at before entry) next line other none =
        more_or (eqb a.node at) (test entry.act entry.answer) (answers_down entry.act entry.answer && ends.is_left a.inc (node_state before)) other next line none

    -- a closing turn that counts only where the attempt's incarnation was shut out
    pub led-shut_out : (turn : Turn) (line : List Turn) → led (shut_out_by ends a test turn) line ≡ (ends_at_node a.node (closes ends a.inc test) (turn ∷ line) && ends_shut_out ends (caller_of a) (turn ∷ line))
    led-shut_out turn line =
        guarded (ends_shut_out ends (caller_of a) (turn ∷ [])) (closed_by ends a test turn) ∙ ap (λ (b : Bool). ends_shut_out ends (caller_of a) (turn ∷ []) && b) (led-closed turn line) ∙ last turn line
      where
        guarded : (b : Bool) (position : Option Progress) → led (if b then position else None) line ≡ (b && led position line)
        guarded true position = refl
        guarded false position = led-none line

        last : (turn : Turn) (line : List Turn) → (ends_shut_out ends (caller_of a) (turn ∷ []) && ends_at_node a.node (closes ends a.inc test) (turn ∷ line))
            ≡ (ends_at_node a.node (closes ends a.inc test) (turn ∷ line) && ends_shut_out ends (caller_of a) (turn ∷ line))
        last (AtDoor place act) line = refl
        last (AtOffice before entry) line = refl
        last (AtNode node before entry) [] = and_comm (ends_shut_out ends (caller_of a) (AtNode node before entry ∷ [])) (ends_at_node a.node (closes ends a.inc test) (AtNode node before entry ∷ []))
        last (AtNode node before entry) (next ∷ line) = and_false (ends_shut_out ends (caller_of a) (AtNode node before entry ∷ []))

  -- a position that is reached if a test is passed
  pub led-if : (passed : Bool) (position : Progress) (line : List Turn) → led (if passed then Some position else None) line ≡ (passed && led (Some position) line)
  led-if true position line = refl
  led-if false position line = led-none line

  -- one of two positions, by a test
  pub led-either : (first : Bool) (one other : Progress) (line : List Turn) (b c : Bool) → led (Some one) line ≡ b → led (Some other) line ≡ c → led (Some (if first then one else other)) line ≡ (if first then b else c)
  led-either true one other line b c e f = e
  led-either false one other line b c e f = f

  -- one turn from a position
  pub led-from : (position : Progress) (next : Option Progress) (turn : Turn) (line : List Turn) → step position turn ≡ next → led (Some position) (turn ∷ line) ≡ led next line
  led-from position next turn line e = ap (λ (p : Option Progress). led p line) e
