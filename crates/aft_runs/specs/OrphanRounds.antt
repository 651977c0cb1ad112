-- Runs with rounds that delete the versions that no commit and no running transaction has.
use Rattle.std.specs.Prelude.{ℕ, ◌+◌, List, [], ◌∷◌, length, codes}
use Rattle.aft_keeper.specs.declared.keeper.KeeperAnswer.TheVariants as answers
use Rattle.aft_keeper.specs.declared.keeper.KeeperCall.TheVariants as calls
use Rattle.aft_model.specs.Membership.{the_office}
use Rattle.aft_model.specs.declared.caller.By.{By}
use Rattle.aft_model.specs.declared.door.DoorAct.TheVariants as acts
use Rattle.aft_model.specs.declared.door.DoorEntry.{DoorEntry}
use Rattle.aft_model.specs.declared.node.NodeAct.TheVariants as turns
use Rattle.aft_model.specs.declared.office.OfficeAct.TheVariants as desk
use Rattle.aft_model.specs.declared.reply.Reply.{Reply}
use Rattle.aft_model.specs.declared.reply.Reply.TheVariants as replies
use Rattle.aft_model.specs.declared.script.Command.TheVariants as commands
use Rattle.aft_histories.specs.Entries.{u, x, record_of, marker_of, record_pair, version_of}
use Rattle.aft_runs.specs.Entries.{does, calls_for, deletes, fails, finds, lists, misses, turn, answering, closes}
use Rattle.aft_runs.specs.Lines.{opening, opens, boots, attempt, begins, puts, doubts, settles, crashes}
use Rattle.aft_runs.specs.Reads.{x_hi}
use Rattle.aft_runs.specs.Words.{write, hi, commit_of, version_pairs}
use Rattle.aft_runs.specs.Works.{Work, Run, run, ordered, step, by, at, nodes, nothing, asks}

-- a round lists the versions of x, does this, and answers
abbrev pub round : ℕ → By → List DoorEntry → Reply → Work
round front who done reply = record (asks who (commands.Orphans x)) {
  door = lists who the_office (codes "v/78/") (version_pairs x_hi) ∷ done;
  office = closes (front + 1 + length done) who desk.Nothing reply ∷ [];
}

-- so many versions were deleted, were kept, were held, and met a failed call
abbrev pub counts : ℕ → ℕ → ℕ → ℕ → Reply
counts deleted kept held fault = replies.Orphans deleted kept held fault

-- a transaction has stored its version, and is in doubt whether its record is stored; then this is done
abbrev pub doubts_then : List Work → Run
doubts_then works = run (nodes 1) (
    opens
    ∷ boots 3 opening 1 1 []
    ∷ begins 5 (by 1 1) (attempt 1 1 1) 1
    ∷ puts 8 (by 1 2) (attempt 1 1 1) (write x hi)
    ∷ doubts 8 (by 1 3) (attempt 1 1 1) x_hi
    ∷ works)

-- what a round does of the version: it claims its UUID, looks at its record and at its marker, deletes it, and lets the claim go
abbrev pub claim : By → DoorEntry
claim who = does who (acts.Claim (u 1) 0 1)

abbrev pub no_record : By → DoorEntry
no_record who = misses who the_office (record_of 1)

abbrev pub its_record : By → DoorEntry
its_record who = finds who the_office (record_pair (commit_of x_hi))

abbrev pub no_marker : By → DoorEntry
no_marker who = misses who the_office (marker_of 1)

abbrev pub delete : By → DoorEntry
delete who = deletes who (version_of x x_hi.id)

abbrev pub release : By → DoorEntry
release who = does who (acts.Release (u 1) 0 1)

-- a round passes the version over while the transaction is there; and when that is committed, one does this
abbrev pub settles_and : List DoorEntry → Reply → Run
settles_and done reply = doubts_then (
    round 11 (by 2 4) [] (counts 0 0 1 0)
    ∷ settles 12 (by 1 5) (attempt 1 1 1) x_hi
    ∷ round 14 (by 2 6) done reply ∷ [])

-- its node crashes, and a round does this
abbrev pub crashes_and : List DoorEntry → Reply → Run
crashes_and done reply = doubts_then (crashes 11 (by 2 4) 1 1 ∷ round 12 (by 2 5) done reply ∷ [])

-- the version is kept once the record is found
abbrev pub kept_once_recorded : Run
kept_once_recorded = settles_and (claim (by 2 6) ∷ its_record (by 2 6) ∷ release (by 2 6) ∷ []) (counts 0 1 0 0)

-- it is deleted where neither record nor marker is found
abbrev pub looks_then : List DoorEntry → List DoorEntry
looks_then more = no_record (by 2 5) ∷ no_marker (by 2 5) ∷ more

abbrev pub deletes_orphan : List DoorEntry
deletes_orphan = claim (by 2 5) ∷ looks_then (delete (by 2 5) ∷ release (by 2 5) ∷ [])

abbrev pub deleted_orphan : Run
deleted_orphan = crashes_and deletes_orphan (counts 1 0 0 0)

-- ---- rounds that do it otherwise

-- nobody claims
abbrev pub without_claim : List DoorEntry
without_claim = looks_then (delete (by 2 5) ∷ [])

-- the looks are those of an older claim
abbrev pub by_older_claim : List DoorEntry
by_older_claim = claim (by 2 5) ∷ looks_then (release (by 2 5) ∷ claim (by 2 5) ∷ delete (by 2 5) ∷ release (by 2 5) ∷ [])

-- the marker is looked at first
abbrev pub marker_first : List DoorEntry
marker_first = claim (by 2 5) ∷ no_marker (by 2 5) ∷ no_record (by 2 5) ∷ delete (by 2 5) ∷ release (by 2 5) ∷ []

-- the record of the version is found
abbrev pub though_recorded : List DoorEntry
though_recorded = claim (by 2 6) ∷ its_record (by 2 6) ∷ no_marker (by 2 6) ∷ delete (by 2 6) ∷ release (by 2 6) ∷ []

-- the store hides the record of the version
abbrev pub though_hidden : List DoorEntry
though_hidden = claim (by 2 6) ∷ no_record (by 2 6) ∷ no_marker (by 2 6) ∷ delete (by 2 6) ∷ release (by 2 6) ∷ []

-- ---- rounds that meet a fault

-- the look at the record fails, or shows what is no record, and then the claim is let go
abbrev pub fails_look : DoorEntry
fails_look = fails (by 2 5) the_office (calls.Get (record_of 1))

abbrev pub shows_damage : DoorEntry
shows_damage = calls_for (by 2 5) the_office (calls.Get (record_of 1)) (answers.Found (codes "?"))

abbrev pub looks_and : DoorEntry → List DoorEntry
looks_and look = claim (by 2 5) ∷ look ∷ release (by 2 5) ∷ []

-- it isn't let go
abbrev pub keeps_claim : List DoorEntry
keeps_claim = claim (by 2 5) ∷ fails_look ∷ []

-- the round can't list the versions, and answers this
abbrev pub page_fails_and : Reply → Run
page_fails_and reply = doubts_then (crashes 11 (by 2 4) 1 1 ∷ record (asks (by 2 5) (commands.Orphans x)) {
  door = fails (by 2 5) the_office (calls.Scan (codes "v/78/") [] 64) ∷ [];
  office = closes 13 (by 2 5) desk.Nothing reply ∷ [];
} ∷ [])

-- ---- names and bytes without a reading

-- a round lists the version's name with bytes that are none, and a name of no version, and does this
abbrev pub lists_unread : List DoorEntry → Reply → Run
lists_unread done reply = doubts_then (crashes 11 (by 2 4) 1 1 ∷ record (round 12 (by 2 5) done reply) {
  door = lists (by 2 5) the_office (codes "v/78/") (record { name = version_of x x_hi.id; bytes = codes "?" } ∷ record { name = codes "v/78/?"; bytes = codes "?" } ∷ []) ∷ done;
} ∷ [])

-- ---- beside others

-- a round has claimed the UUID; a begin of it is answered so, and another round passes the version over, or claims the UUID too; and the first goes on
abbrev pub meets_round : Reply → List DoorEntry → Run
meets_round reply claimed = ordered (step 2 ∷ []) (run (nodes 1) (
    opens
    ∷ boots 3 opening 1 1 []
    ∷ record (asks (by 2 1) (commands.Orphans x)) { door = lists (by 2 1) the_office (codes "v/78/") (version_pairs x_hi) ∷ claim (by 2 1) ∷ [] }
    ∷ record (asks (by 1 2) (commands.Begin (u 1) 1)) { nodes = at 1 (turn 7 (by 1 2) (turns.Admit (attempt 1 1 1) (u 1)) ∷ answering 7 (by 1 2) (turns.Unadmit (attempt 1 1 1)) reply ∷ []) }
    ∷ round 7 (by 3 3) claimed (counts 0 0 1 0)
    ∷ record nothing {
      door = no_record (by 2 1) ∷ no_marker (by 2 1) ∷ delete (by 2 1) ∷ release (by 2 1) ∷ [];
      office = closes (12 + length claimed) (by 2 1) desk.Nothing (counts 1 0 0 0) ∷ [];
    } ∷ []))
