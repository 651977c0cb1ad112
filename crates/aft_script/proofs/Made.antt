-- What the generator makes can be run, and how long it is.
use Rattle.std.proofs.Common.{Bool, arith, cond, false, length, length-append, lit<, refl, suc, true, zero, ℕ, ◌%◌, ◌*◌, ◌+◌, ◌/◌, ◌<◌, ◌==◌, ◌≡◌, ◌≤◌, ◌∷◌, [], ◌++◌, ◌^◌}
use Rattle.std.specs.Fmt.{decimal}
use Rattle.std.specs.Prelude.{codes}
use Rattle.std.proofs.lemmas.Bool.Decides.{nat_tests}
use Rattle.std.proofs.lemmas.Fmt.{length-decimal-le}
use Rattle.aft_model.specs.declared.script.Command.{Command}
use Rattle.aft_model.specs.declared.script.Command.TheVariants.{Announce, Begin, Collect, Commit, Deliver, Get, Local, Manager, Put}
use Rattle.aft_model.specs.declared.script.Line.{Line}
use Rattle.aft_script.specs.Generator.{Made, after_draw, and_begin, and_calls, and_get, and_line, and_nodes_kept, and_put, and_store_kept, and_transaction, client_of_transaction, drawn, generated_lines, key_of_number, made_after, uuid_of_number}
use Rattle.aft_script.specs.Runnable.{AreReadTo, AreRunnable, IsCommandFor, IsNode}
use Rattle.aft_script.proofs.Runnables.{read_more, read_nothing}

-- lines that can be run, with none at the next number
abbrev IsMade : Made → Type 0
IsMade made = AreReadTo 2 (length made.lines + 1) made.lines

-- one more line
made_line : (client : ℕ) (order : Command) (made : Made) → 1 ≤ client → client ≤ 64 → IsCommandFor 2 order → IsMade made → IsMade (and_line client order made)
made_line client order made some few fits is =
    let line : Line = record { number = length made.lines + 1; client = client; order = order } in
    let long : length (made.lines ++ line ∷ []) ≡ length made.lines + 1 = omega (arith, length-append made.lines (line ∷ [])) in
    rw long (read_more 2 (length made.lines + 1) made.lines line (omega arith) refl (record { some = some; few = few; order = fits }) is)

client_some : (i : ℕ) → (1 ≤ client_of_transaction i) × (client_of_transaction i ≤ 64)
client_some i = (omega arith, omega arith)

made_begin : (i : ℕ) (made : Made) → IsMade made → IsMade (and_begin i made)
made_begin i made is =
    let node : IsNode 2 (1 + drawn (after_draw made) 2) = (omega arith, omega arith) in
    let client = client_some i in
    made_line (client_of_transaction i) (Begin (uuid_of_number i) (1 + drawn (after_draw made) 2)) (after_draw made) client.0 client.1 node is

made_put : (i : ℕ) (made : Made) → i < 2 ^ 32 → IsMade made → IsMade (and_put i made)
made_put i made small is =
    let digits : length (decimal i) ≤ 20 = length-decimal-le 20 i (lit< tt) (omega arith) (omega arith) in
    let short : length (codes "v" ++ decimal i) ≤ 4096 = omega (arith, digits, length-append (codes "v") (decimal i)) in
    let client = client_some i in
    made_line (client_of_transaction i) (Put (key_of_number (drawn (after_draw made) 50)) (codes "v" ++ decimal i)) (after_draw made) client.0 client.1 short is

made_get : (i : ℕ) (made : Made) → IsMade made → IsMade (and_get i made)
made_get i made is =
    let client = client_some i in
    made_line (client_of_transaction i) (Get (key_of_number (drawn (after_draw made) 50))) (after_draw made) client.0 client.1 tt is

made_calls : (i : ℕ) (made : Made) → i < 2 ^ 32 → IsMade made → IsMade (and_calls i made)
made_calls i made small is = by_place (i % 4 == 1) (i % 4 == 2) (i % 4 == 3)
  where
    by_place : (one two three : Bool) → IsMade (cond one (and_put i (and_put i made)) (cond two (and_get i (and_get i made)) (cond three (and_put i made) (and_get i made))))
    by_place true two three = made_put i (and_put i made) small (made_put i made small is)
    by_place false true three = made_get i (and_get i made) (made_get i made is)
    by_place false false true = made_put i made small is
    by_place false false false = made_get i made is

made_transaction : (i : ℕ) (made : Made) → i < 2 ^ 32 → IsMade made → IsMade (and_transaction i made)
made_transaction i made small is =
    let client = client_some i in
    made_line (client_of_transaction i) Commit (and_calls i (and_begin i made)) client.0 client.1 tt (made_calls i (and_begin i made) small (made_begin i made is))

kept_line : (order : Command) (made : Made) → IsCommandFor 2 order → IsMade made → IsMade (and_line 5 order made)
kept_line order made fits is = made_line 5 order made (omega arith) (omega arith) fits is

one_of_two : IsNode 2 1
one_of_two = (omega arith, omega arith)

two_of_two : IsNode 2 2
two_of_two = (omega arith, omega arith)

made_nodes_kept : (i : ℕ) (made : Made) → IsMade made → IsMade (and_nodes_kept i made)
made_nodes_kept i made is = by_turn (i % 100 == 0)
  where
    one : Made
    one = and_line 5 (Announce 1) made

    two : Made
    two = and_line 5 (Announce 2) one

    three : Made
    three = and_line 5 (Deliver 1) two

    four : Made
    four = and_line 5 (Deliver 2) three

    five : Made
    five = and_line 5 (Local 1) four

    by_turn : (turn : Bool) → IsMade (cond turn (and_line 5 (Local 2) five) made)
    by_turn true =
        kept_line (Local 2) five two_of_two
        (kept_line (Local 1) four one_of_two
        (kept_line (Deliver 2) three two_of_two
        (kept_line (Deliver 1) two one_of_two
        (kept_line (Announce 2) one two_of_two (kept_line (Announce 1) made one_of_two is)))))
    by_turn false = is

made_store_kept : (i : ℕ) (made : Made) → IsMade made → IsMade (and_store_kept i made)
made_store_kept i made is = by_turn (i % 500 == 0)
  where
    by_turn : (turn : Bool) → IsMade (cond turn (and_line 5 Collect (and_line 5 Manager made)) made)
    by_turn true = kept_line Collect (and_line 5 Manager made) tt (kept_line Manager made tt is)
    by_turn false = is

made_all : (first n : ℕ) → n < 2 ^ 32 → IsMade (made_after first n)
unfolding made_after
made_all first zero small = read_nothing 2 1
made_all first (suc i) small =
    let before : i < 2 ^ 32 = omega arith in
    made_store_kept (suc i) (and_nodes_kept (suc i) (and_transaction (suc i) (made_after first i)))
    (made_nodes_kept (suc i) (and_transaction (suc i) (made_after first i)) (made_transaction (suc i) (made_after first i) small (made_all first i before)))

-- generated lines can be run by two nodes
pub generated_runnable : (count first : ℕ) → count ≤ 5000 → AreRunnable 2 (generated_lines count first)
generated_runnable count first few = let made = made_all first count (omega arith) in made.runnable

-- ---- how many

longer : (client : ℕ) (order : Command) (made : Made) → length (and_line client order made).lines ≡ length made.lines + 1
longer client order made = length-append made.lines (record { number = length made.lines + 1; client = client; order = order } ∷ [])

-- what a transaction's puts or gets, by its place among four, are more than one
abbrev more_calls : Bool → Bool → ℕ
more_calls one two = cond one 1 (cond two 1 0)

put_longer : (i : ℕ) (made : Made) → length (and_put i made).lines ≡ length made.lines + 1
put_longer i made = longer (client_of_transaction i) (Put (key_of_number (drawn (after_draw made) 50)) (codes "v" ++ decimal i)) (after_draw made)

get_longer : (i : ℕ) (made : Made) → length (and_get i made).lines ≡ length made.lines + 1
get_longer i made = longer (client_of_transaction i) (Get (key_of_number (drawn (after_draw made) 50))) (after_draw made)

calls_longer : (i : ℕ) (made : Made) → length (and_calls i made).lines ≡ length made.lines + 1 + more_calls (i % 4 == 1) (i % 4 == 2)
calls_longer i made = by_place (i % 4 == 1) (i % 4 == 2) (i % 4 == 3)
  where
    by_place : (one two three : Bool) → length (cond one (and_put i (and_put i made)) (cond two (and_get i (and_get i made)) (cond three (and_put i made) (and_get i made)))).lines ≡ length made.lines + 1 + more_calls one two
    by_place true two three = omega (arith, put_longer i (and_put i made), put_longer i made)
    by_place false true three = omega (arith, get_longer i (and_get i made), get_longer i made)
    by_place false false true = omega (arith, put_longer i made)
    by_place false false false = omega (arith, get_longer i made)

transaction_longer : (i : ℕ) (made : Made) → length (and_transaction i made).lines ≡ length made.lines + 3 + more_calls (i % 4 == 1) (i % 4 == 2)
transaction_longer i made =
    omega (arith, longer (client_of_transaction i) Commit (and_calls i (and_begin i made)), calls_longer i (and_begin i made), length-append made.lines (record { number = length made.lines + 1; client = client_of_transaction i; order = Begin (uuid_of_number i) (1 + drawn (after_draw made) 2) } ∷ []))

nodes_longer : (i : ℕ) (made : Made) → length (and_nodes_kept i made).lines ≡ length made.lines + cond (i % 100 == 0) 6 0
nodes_longer i made = by_turn (i % 100 == 0)
  where
    one : Made
    one = and_line 5 (Announce 1) made

    two : Made
    two = and_line 5 (Announce 2) one

    three : Made
    three = and_line 5 (Deliver 1) two

    four : Made
    four = and_line 5 (Deliver 2) three

    five : Made
    five = and_line 5 (Local 1) four

    by_turn : (turn : Bool) → length (cond turn (and_line 5 (Local 2) five) made).lines ≡ length made.lines + cond turn 6 0
    by_turn true =
        omega (arith, longer 5 (Local 2) five, longer 5 (Local 1) four, longer 5 (Deliver 2) three, longer 5 (Deliver 1) two, longer 5 (Announce 2) one, longer 5 (Announce 1) made)
    by_turn false = omega arith

store_longer : (i : ℕ) (made : Made) → length (and_store_kept i made).lines ≡ length made.lines + cond (i % 500 == 0) 2 0
store_longer i made = by_turn (i % 500 == 0)
  where
    by_turn : (turn : Bool) → length (cond turn (and_line 5 Collect (and_line 5 Manager made)) made).lines ≡ length made.lines + cond turn 2 0
    by_turn true = omega (arith, longer 5 Collect (and_line 5 Manager made), longer 5 Manager made)
    by_turn false = omega arith

-- what twice the lines of the last up to three transactions are more than seven each
abbrev extra : ℕ → ℕ
extra i = cond (i % 4 == 2) 2 (cond (i % 4 == 0) 0 1)

extra_more : (i : ℕ) → 6 + 2 * more_calls (suc i % 4 == 1) (suc i % 4 == 2) + extra i ≤ 7 + extra (suc i)
extra_more i = by_tests (suc i % 4 == 1) (suc i % 4 == 2) (i % 4 == 2) (i % 4 == 0) (suc i % 4 == 0) refl refl refl refl refl
  where
    by_tests : (m1 m2 i2 i0 m0 : Bool) → (suc i % 4 == 1) ≡ m1 → (suc i % 4 == 2) ≡ m2 → (i % 4 == 2) ≡ i2 → (i % 4 == 0) ≡ i0 → (suc i % 4 == 0) ≡ m0
        → 6 + 2 * more_calls m1 m2 + cond i2 2 (cond i0 0 1) ≤ 7 + cond m2 2 (cond m0 0 1)
    by_tests true m2 true i0 m0 e1 e2 e3 e4 e5 = grind (arith, nat_tests)
    by_tests true m2 false true m0 e1 e2 e3 e4 e5 = grind (arith, nat_tests)
    by_tests true m2 false false m0 e1 e2 e3 e4 e5 = grind (arith, nat_tests)
    by_tests false true true i0 m0 e1 e2 e3 e4 e5 = grind (arith, nat_tests)
    by_tests false true false true m0 e1 e2 e3 e4 e5 = grind (arith, nat_tests)
    by_tests false true false false m0 e1 e2 e3 e4 e5 = grind (arith, nat_tests)
    by_tests false false true i0 true e1 e2 e3 e4 e5 = grind (arith, nat_tests)
    by_tests false false true i0 false e1 e2 e3 e4 e5 = grind (arith, nat_tests)
    by_tests false false false true m0 e1 e2 e3 e4 e5 = grind (arith, nat_tests)
    by_tests false false false false true e1 e2 e3 e4 e5 = grind (arith, nat_tests)
    by_tests false false false false false e1 e2 e3 e4 e5 = grind (arith, nat_tests)

turn_more : (i : ℕ) (turn : Bool) → (suc i % 100 == 0) ≡ turn → cond turn 6 0 + 6 * (i / 100) ≤ 6 * (suc i / 100)
turn_more i true test = let at : suc i % 100 ≡ 0 = grind (arith, nat_tests) in omega (arith, at)
turn_more i false test = omega arith

round_more : (i : ℕ) (turn : Bool) → (suc i % 500 == 0) ≡ turn → cond turn 2 0 + 2 * (i / 500) ≤ 2 * (suc i / 500)
round_more i true test = let at : suc i % 500 ≡ 0 = grind (arith, nat_tests) in omega (arith, at)
round_more i false test = omega arith

count_after : (first n : ℕ) → 2 * length (made_after first n).lines ≤ 7 * n + extra n + 12 * (n / 100) + 4 * (n / 500)
unfolding made_after
count_after first zero = omega arith
count_after first (suc i) =
    let made = made_after first i in
    let begun = and_transaction (suc i) made in
    let noded = and_nodes_kept (suc i) begun in
    omega (arith, count_after first i, transaction_longer (suc i) made, nodes_longer (suc i) begun, store_longer (suc i) noded, extra_more i, turn_more i (suc i % 100 == 0) refl, round_more i (suc i % 500 == 0) refl)

extra_few : (i : ℕ) → extra i ≤ 2
extra_few i = by_tests (i % 4 == 2) (i % 4 == 0)
  where
    by_tests : (two none : Bool) → cond two 2 (cond none 0 1) ≤ 2
    by_tests true none = omega arith
    by_tests false true = omega arith
    by_tests false false = omega arith

-- generated lines are no more than a script may have
pub generated_few : (count first : ℕ) → count ≤ 5000 → length (generated_lines count first) ≤ 20000
generated_few count first few = omega (arith, count_after first count, extra_few count)
