-- The script and the order that the generator makes.
use Rattle.std.specs.Prelude.{List, [], codes, false, filter, if◌then◌else◌, length, suc, true, zero, ℕ, ◌%◌, ◌*◌, ◌+◌, ◌++◌, ◌-◌, ◌/◌, ◌==◌, ◌^◌, ◌∷◌}
use Rattle.std.specs.Fmt.{decimal}
use Rattle.std.specs.Int.{to_be_bytes, w128}
use Rattle.aft_model.specs.declared.script.Command.{Command}
use Rattle.aft_model.specs.declared.script.Command.TheVariants.{Announce, Begin, Collect, Commit, Deliver, Get, Local, Manager, Put}
use Rattle.aft_model.specs.declared.script.Line.{Line}
use Rattle.aft_model.specs.declared.script.Step.{Step}
use Rattle.aft_script.specs.Orders.{has_client}

-- what was made so far: the state of the draws, and the lines
pub record Made : Type 0 where
  pub state : ℕ
  pub lines : List Line

-- the state of the draws after another
abbrev pub next_state : ℕ → ℕ
next_state state = (state * 6364136223846793005 + 1442695040888963407) % 2 ^ 64

-- what was made so far, when a number is drawn
abbrev pub after_draw : Made → Made
after_draw made = record { state = next_state made.state; lines = made.lines }

-- the number below a bound that was drawn last
abbrev pub drawn : Made → ℕ → ℕ
drawn made bound = made.state / 2 ^ 33 % bound

-- one more line
abbrev pub and_line : ℕ → Command → Made → Made
and_line client order made = record { state = made.state; lines = made.lines ++ record { number = length made.lines + 1; client = client; order = order } ∷ [] }

-- the client of transaction i: four transactions each, in turn
abbrev pub client_of_transaction : ℕ → ℕ
client_of_transaction i = 1 + (i - 1) / 4 % 4

-- the UUID of transaction i, which `@i` names
unfoldable pub uuid_of_number : ℕ → List ℕ
uuid_of_number i = to_be_bytes w128 i

-- a begin of transaction i at a node that is drawn
abbrev pub and_begin : ℕ → Made → Made
and_begin i made = let next = after_draw made in and_line (client_of_transaction i) (Begin (uuid_of_number i) (1 + drawn next 2)) next

-- a key of fifty
abbrev pub key_of_number : ℕ → List ℕ
key_of_number number = codes "k" ++ decimal number

-- a put of a key that is drawn
abbrev pub and_put : ℕ → Made → Made
and_put i made = let next = after_draw made in and_line (client_of_transaction i) (Put (key_of_number (drawn next 50)) (codes "v" ++ decimal i)) next

-- a get of a key that is drawn
abbrev pub and_get : ℕ → Made → Made
and_get i made = let next = after_draw made in and_line (client_of_transaction i) (Get (key_of_number (drawn next 50))) next

-- the puts or the gets of transaction i, by its place among four
abbrev pub and_calls : ℕ → Made → Made
and_calls i made =
    if i % 4 == 1 then and_put i (and_put i made) else
    (if i % 4 == 2 then and_get i (and_get i made) else
    (if i % 4 == 3 then and_put i made else and_get i made))

-- transaction i
abbrev pub and_transaction : ℕ → Made → Made
and_transaction i made = and_line (client_of_transaction i) Commit (and_calls i (and_begin i made))

-- the housekeeping of client 5 behind transaction i: after each hundred announcements, deliveries and local rounds of both nodes, and after
-- each five hundred the rounds of the manager and the collection besides
abbrev pub and_nodes_kept : ℕ → Made → Made
and_nodes_kept i made =
    if i % 100 == 0
    then and_line 5 (Local 2) (and_line 5 (Local 1) (and_line 5 (Deliver 2) (and_line 5 (Deliver 1) (and_line 5 (Announce 2) (and_line 5 (Announce 1) made)))))
    else made

abbrev pub and_store_kept : ℕ → Made → Made
and_store_kept i made = if i % 500 == 0 then and_line 5 Collect (and_line 5 Manager made) else made

-- what was made after so many transactions
unfoldable pub made_after : ℕ → ℕ → Made
made_after first zero = record { state = first; lines = [] }
made_after first (suc i) = and_store_kept (suc i) (and_nodes_kept (suc i) (and_transaction (suc i) (made_after first i)))

-- the lines of a script of so many transactions
abbrev pub generated_lines : ℕ → ℕ → List Line
generated_lines count first = (made_after first count).lines

-- steps, so many times
unfoldable pub times : ℕ → List Step → List Step
times zero steps = []
times (suc n) steps = times n steps ++ steps

-- those steps whose clients have lines
abbrev pub kept : List Line → List Step → List Step
kept lines steps = filter (λ step. has_client lines step.client) steps

-- one turn of each of the first four clients, and a whole line of the fifth
abbrev pub four_turns : List Step
four_turns = record { client = 1; whole = false } ∷ record { client = 2; whole = false } ∷ record { client = 3; whole = false } ∷ record { client = 4; whole = false } ∷ []

abbrev pub one_line : List Step
one_line = record { client = 5; whole = true } ∷ []

-- the order for generated lines: four hundred times fifty turns of four clients, and a line of the fifth; words of clients without lines are left out
abbrev pub generated_steps : List Line → List Step
generated_steps lines = times 400 (times 50 (kept lines four_turns) ++ kept lines one_line)
