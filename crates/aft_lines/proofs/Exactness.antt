-- Replies of a run that leaves out none.
use Rattle.std.proofs.Common.{Bool, List}
use Rattle.std.specs.Prelude.{IsTrue}
use Rattle.std.specs.List.{Contains, list_all}
use Rattle.std.proofs.lemmas.List.Elements.{All-contains}
use Rattle.std.proofs.lemmas.List.Sums.{AllPass-from_list_all}
use Rattle.aft_model.specs.declared.reply.Reply.{Reply}
use Rattle.aft_model.specs.declared.script.Line.{Line}
use Rattle.aft_lines.specs.Asked.{Asked, Ran}
use Rattle.aft_lines.specs.Causes.{may_leave_out, ExactlyCaused}
use Rattle.aft_lines.specs.FinishedText.{answers_of, line_of}
use Rattle.aft_lines.specs.Lines.{lines}
use Rattle.aft_lines.specs.Views.{LeavesOutNothing, view_of}

-- an element of a list whose elements all pass a test passes it
passes : {A : Type 0} (test : A → Bool) (xs : List A) (x : A) → IsTrue (list_all test xs) → Contains xs x → IsTrue (test x)
passes test xs x all among = All-contains (λ y. IsTrue (test y)) xs x (AllPass-from_list_all test xs all) among

-- each reply of each line leaves out no other
pub exact_replies : (asked : Asked) (ran : Ran) (line : Line) (reply : Reply) → LeavesOutNothing asked ran → Contains (lines asked) line → Contains (answers_of (line_of line) ran) reply → ExactlyCaused (view_of asked ran line) reply
exact_replies asked ran line reply nothing asks answers other =
    passes (λ (given : Reply). may_leave_out (view_of asked ran line) given other) (answers_of (line_of line) ran) reply
    (passes (λ (l : Line). list_all (λ (given : Reply). may_leave_out (view_of asked ran l) given other) (answers_of (line_of l) ran)) (lines asked) line (nothing other) asks) answers
