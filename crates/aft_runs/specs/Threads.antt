-- A run with threads: its background lines stand between those of a client; and that run where what a background line does is left open.
use Rattle.std.specs.Prelude.{ℕ, List, [], ◌∷◌, ◌++◌, codes}
use Rattle.aft_records.specs.declared.stored.Commit.{Commit}
use Rattle.aft_lines.specs.Asked.{Settings}
use Rattle.aft_model.specs.Membership.{the_office}
use Rattle.aft_model.specs.declared.node.NodeAct.TheVariants as turns
use Rattle.aft_model.specs.declared.node.NodeEntry.{NodeEntry}
use Rattle.aft_model.specs.declared.office.OfficeAct.TheVariants as desk
use Rattle.aft_model.specs.declared.reply.Reply.TheVariants as replies
use Rattle.aft_histories.specs.Entries.{x, record_pair}
use Rattle.aft_runs.specs.Entries.{lists, turn, answering, says, closes}
use Rattle.aft_runs.specs.Lines.{opening, opens, boots, attempt, begins, puts, fetches, commits}
use Rattle.aft_runs.specs.Reads.{x_hi}
use Rattle.aft_runs.specs.Rounds.{announces, learns, drops, collects, collected, posts, takes}
use Rattle.aft_runs.specs.Words.{write, hi, commit_of}
use Rattle.aft_runs.specs.Works.{Work, Run, run, threaded, by, nodes, at, nothing}

-- one node, and one round of each kind in the background
abbrev pub one_round : Settings
one_round = record (nodes 1) { rounds = 1 }

-- work for a line that isn't of the script
abbrev pub unasked : Work → Work
unasked work = record work { lines = [] }

-- the commit of the value of x
abbrev pub c : Commit
c = commit_of x_hi

-- ---- the background lines, which are numbered from 1

-- the node announces the commit, with these entries behind the posts
abbrev pub announces_it : List NodeEntry → Work
announces_it ending = record (unasked (announces 13 (by 0 1) 1 (c ∷ []) [])) { nodes = at 1 (turn 13 (by 0 1) (turns.Announce (c ∷ []) []) ∷ ending) }

-- this is answered
abbrev pub says_announced : List NodeEntry
says_announced = answering 13 (by 0 1) turns.Nothing (replies.Announced 1 0 0) ∷ []

-- it takes its box, in which nothing is
abbrev pub takes_nothing : Work
takes_nothing = unasked (learns 8 (by 0 2) 1 [])

-- it drops nothing, having seen so much of the door's history, for a line of this number
abbrev pub drops_nothing : ℕ → ℕ → Work
drops_nothing front line = unasked (drops front (by 0 line) 1 [])

-- the manager hears of the commit, and misses none
abbrev pub hears_of_it : Work
hears_of_it = record nothing {
  door = lists (by 0 4) the_office (codes "c/") (record_pair c ∷ []) ∷ [];
  office = says 17 (by 0 4) (desk.Round (c ∷ []) []) ∷ closes 17 (by 0 4) (desk.Posted []) (replies.Managed 1 0) ∷ [];
  boxes = λ box. at 0 (takes (by 0 4) (c ∷ []) ∷ []) box ++ at 1 (posts (by 0 4) [] ∷ []) box;
}

-- a collection finds nothing stored
abbrev pub collects_nothing : List Work
collects_nothing = unasked (collects 8 (by 0 5) []) ∷ collected 10 (by 0 5) [] ∷ []

-- ---- the run

-- a transaction writes x, and another reads it; the background's announcement ends so, its local round has seen so much of the door's history, and this is done besides
abbrev pub runs_beside : List NodeEntry → ℕ → List Work → Run
runs_beside ending front besides = threaded (run one_round (
    opens
    ∷ boots 3 opening 1 1 []
    ∷ begins 5 (by 1 1) (attempt 1 1 1) 1
    ∷ takes_nothing
    ∷ collects_nothing ++ puts 8 (by 1 2) (attempt 1 1 1) (write x hi)
    ∷ commits 10 (by 1 3) (attempt 1 1 1) x_hi
    ∷ announces_it ending
    ∷ begins 13 (by 1 4) (attempt 1 1 2) 2
    ∷ hears_of_it
    ∷ drops_nothing front 3
    ∷ besides ++ fetches 17 (by 1 5) (attempt 1 1 2) x_hi.id (write x hi) ∷ []))

-- the put of x and the local round have seen less of the door's history than there was
abbrev pub with_threads : Run
with_threads = runs_beside says_announced 16 []
