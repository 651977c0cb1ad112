-- A run in which a mailbox is full, so that the manager finds what it refused; and that run where what the box takes is left open.
use Rattle.std.specs.Prelude.{ℕ, List, [], ◌∷◌, ◌++◌, codes, map, length}
use Rattle.std.specs.List.{flat_map}
use Rattle.aft_records.specs.declared.stored.Commit.{Commit}
use Rattle.aft_lines.specs.Asked.{Settings}
use Rattle.aft_model.specs.Known.{known}
use Rattle.aft_model.specs.Membership.{the_office}
use Rattle.aft_model.specs.declared.mail.MailAct.TheVariants as letters
use Rattle.aft_model.specs.declared.mail.MailEntry.{MailEntry}
use Rattle.aft_model.specs.declared.node.NodeAct.TheVariants as turns
use Rattle.aft_model.specs.declared.office.OfficeAct.TheVariants as desk
use Rattle.aft_model.specs.declared.reply.Reply.TheVariants as replies
use Rattle.aft_model.specs.declared.script.Command.TheVariants as commands
use Rattle.aft_histories.specs.Entries.{x, y, record_pair}
use Rattle.aft_records.specs.Commits.{ids_of}
use Rattle.aft_runs.specs.Entries.{lists, turn, answering, says, closes}
use Rattle.aft_runs.specs.Lines.{opening, opens, boots, attempt, begins, puts, fetches, commits}
use Rattle.aft_runs.specs.Rounds.{announces, posts, takes, learns}
use Rattle.aft_runs.specs.Words.{Writes, write, writes, a, b, commit_of}
use Rattle.aft_runs.specs.Works.{Work, Run, run, by, nodes, at, asks}

-- two nodes, whose boxes have room for one message
abbrev pub small_boxes : Settings
small_boxes = record (nodes 2) { mailbox = 1 }

-- a value of x, and one of y, by two transactions
abbrev pub of_x : Writes
of_x = writes 1000 1 (write x a ∷ [])

abbrev pub of_y : Writes
of_y = writes 1000 2 (write y b ∷ [])

abbrev pub c_x : Commit
c_x = commit_of of_x

abbrev pub c_y : Commit
c_y = commit_of of_y

-- a post of both, of which the box takes so many
abbrev pub posts_both : ℕ → MailEntry
posts_both taken = record { by = by 1 7; act = letters.Post (ids_of (c_x ∷ c_y ∷ [])) taken }

-- the first node announces both: the second node's box takes so many of them, these are posted to the office, and so many are said to be dropped
abbrev pub announces_both : ℕ → List Commit → ℕ → Work
announces_both taken told dropped = record (asks (by 1 7) (commands.Announce 1)) {
  nodes = at 1 (turn 19 (by 1 7) (turns.Announce (c_x ∷ c_y ∷ []) []) ∷ answering 19 (by 1 7) turns.Nothing (replies.Announced 2 0 dropped) ∷ []);
  boxes = λ box. at 2 (posts_both taken ∷ []) box ++ at 0 (posts (by 1 7) told ∷ []) box;
}

-- a round of the manager hears of these, is shown both, and posts these missed ones to each node
abbrev pub rounds_up : ℕ → ℕ → List Commit → List Commit → Work
rounds_up front line heard missed = record (asks (by 1 line) commands.Manager) {
  door = lists (by 1 line) the_office (codes "c/") (map record_pair (c_x ∷ c_y ∷ [])) ∷ [];
  office = says front (by 1 line) (desk.Round heard missed) ∷ closes front (by 1 line) (desk.Posted (ids_of missed)) (replies.Managed (length heard) (length missed)) ∷ [];
  boxes = λ box. at 0 (takes (by 1 line) heard ∷ []) box ++ at 1 (posts (by 1 line) missed ∷ []) box ++ at 2 (posts (by 1 line) missed ∷ []) box;
}

-- both values are committed at the first node, and announced so; then this is done
abbrev pub commits_both : Work → List Work → Run
commits_both announcement later = run small_boxes (
    opens
    ∷ boots 3 opening 1 1 []
    ∷ boots 5 opening 2 1 []
    ∷ begins 7 (by 1 1) (attempt 1 1 1) 1
    ∷ puts 10 (by 1 2) (attempt 1 1 1) (write x a)
    ∷ commits 10 (by 1 3) (attempt 1 1 1) of_x
    ∷ begins 13 (by 1 4) (attempt 1 1 2) 2
    ∷ puts 16 (by 1 5) (attempt 1 1 2) (write y b)
    ∷ commits 16 (by 1 6) (attempt 1 1 2) of_y
    ∷ announcement
    ∷ later)

-- the second node's box takes one commit and refuses the other, of which the office isn't told; so its round finds it missed, and the next one nothing
abbrev pub full_box : Run
full_box = commits_both (announces_both 1 (c_x ∷ []) 1) (
    learns 19 (by 1 8) 2 (c_x ∷ [])
    ∷ rounds_up 20 9 (c_x ∷ []) (c_y ∷ [])
    ∷ learns 20 (by 1 10) 2 (c_y ∷ [])
    ∷ rounds_up 21 11 [] []
    ∷ begins 21 (by 2 12) (attempt 2 1 1) 3
    ∷ fetches 24 (by 2 13) (attempt 2 1 1) of_y.id (write y b) ∷ [])

-- the same up to the announcement
abbrev pub announced_both : ℕ → List Commit → ℕ → Run
announced_both taken told dropped = commits_both (announces_both taken told dropped) []

-- ---- the manager's post is refused

-- a round of the manager, whose post of the missed one the second node's box refuses, and which notes these as posted
abbrev pub refused_round : List Commit → Work
refused_round noted = record (rounds_up 20 8 (c_x ∷ []) (c_y ∷ [])) {
  office = says 20 (by 1 8) (desk.Round (c_x ∷ []) (c_y ∷ [])) ∷ closes 20 (by 1 8) (desk.Posted (ids_of noted)) (replies.Managed 1 1) ∷ [];
  boxes = λ box. at 0 (takes (by 1 8) (c_x ∷ []) ∷ []) box ++ at 1 (posts (by 1 8) (c_y ∷ []) ∷ []) box ++ at 2 (record { by = by 1 8; act = letters.Post (ids_of (c_y ∷ [])) 0 } ∷ []) box;
}

-- the manager finds the commit missed while the second node's box is full, and notes these as posted; then this is done
abbrev pub rounds_at_full : List Commit → List Work → Run
rounds_at_full noted later = commits_both (announces_both 1 (c_x ∷ []) 1) (refused_round noted ∷ later)

-- a node learns a commit that it knows
abbrev pub learns_known : Work
learns_known = record (learns 20 (by 1 10) 1 (c_y ∷ [])) { nodes = at 1 (answering 20 (by 1 10) (turns.Learn (c_y ∷ [])) (replies.Learned 0 0 1) ∷ []) }

-- what the box refused isn't noted, so the next round finds it missed again
abbrev pub full_again : Run
full_again = rounds_at_full [] (
    learns 20 (by 1 9) 2 (c_x ∷ [])
    ∷ learns_known
    ∷ rounds_up 21 11 [] (c_y ∷ [])
    ∷ learns 21 (by 1 12) 2 (c_y ∷ []) ∷ [])

-- ---- in which order commits are announced

-- the value of y is committed before that of x, and then both are announced in this order
abbrev pub announces_in : List Commit → Run
announces_in told = run (nodes 1) (
    opens
    ∷ boots 3 opening 1 1 []
    ∷ begins 5 (by 1 1) (attempt 1 1 1) 2
    ∷ puts 8 (by 1 2) (attempt 1 1 1) (write y b)
    ∷ commits 8 (by 1 3) (attempt 1 1 1) of_y
    ∷ begins 11 (by 1 4) (attempt 1 1 2) 1
    ∷ puts 14 (by 1 5) (attempt 1 1 2) (write x a)
    ∷ commits 14 (by 1 6) (attempt 1 1 2) of_x
    ∷ announces 17 (by 1 7) 1 told [] ∷ [])

-- what the nodes of a run know in the end
abbrev pub known_at_last : Run → List Commit
known_at_last told = flat_map known told.ran.trace.nodes
