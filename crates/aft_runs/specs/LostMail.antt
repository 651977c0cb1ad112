-- A run in which a node that is down loses its mail, and learns of it at its next boot; and that run where what becomes of the mail is left open.
use Rattle.std.specs.Prelude.{List, [], ◌∷◌}
use Rattle.aft_model.specs.declared.mail.MailEntry.{MailEntry}
use Rattle.aft_model.specs.declared.reply.Reply.TheVariants as replies
use Rattle.aft_model.specs.declared.script.Command.TheVariants as commands
use Rattle.aft_histories.specs.Entries.{x}
use Rattle.aft_runs.specs.Deliveries.{commits_then, the_commit}
use Rattle.aft_runs.specs.Lines.{attempt, begins, fetches, crashes, starts, only_answers}
use Rattle.aft_runs.specs.Reads.{x_hi}
use Rattle.aft_runs.specs.Rounds.{announces, learns, takes}
use Rattle.aft_runs.specs.Words.{write, hi}
use Rattle.aft_runs.specs.Works.{Work, Run, by, at}

-- a commit is announced to a node that crashes; a delivery there does this at its box, and finds the node down; then this is done
abbrev pub delivers_down : List MailEntry → List Work → Run
delivers_down taken later = commits_then (
    announces 13 (by 1 4) 1 the_commit []
    ∷ crashes 13 (by 2 5) 2 1
    ∷ record (only_answers 14 (by 1 6) 2 (commands.Deliver 2) (replies.NodeDown 2 1)) { boxes = at 2 taken }
    ∷ later)

-- it takes the box
abbrev pub takes_it : List MailEntry
takes_it = takes (by 1 6) the_commit ∷ []

-- the node starts again and is shown the commit, its box is empty, and a transaction reads there what was written
abbrev pub lost_mail : Run
lost_mail = delivers_down takes_it (
    starts 14 (by 2 7) 2 2 the_commit
    ∷ learns 16 (by 1 8) 2 []
    ∷ begins 16 (by 2 9) (attempt 2 2 1) 2
    ∷ fetches 19 (by 2 10) (attempt 2 2 1) x_hi.id (write x hi) ∷ [])
