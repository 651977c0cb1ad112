-- Which histories the office may have: the rounds of the fault manager, and the collections.
use Rattle.std.specs.Prelude.{Bool, IsTrue, List, None, Option, Some, [], false, filter, if◌then◌else◌, is_none, length, nat_le, not, take, true, ◌&&◌, ◌++◌, ◌∷◌}
use Rattle.std.specs.Cmp.Lexicographic.{pointwise}
use Rattle.std.specs.List.{before_first, flat_map, fold, last_or, list_all, list_any}
use Rattle.aft_id.specs.declared.txn_id.TxnId.{TxnId}
use Rattle.aft_id.specs.TxnId.{same_id}
use Rattle.aft_records.specs.declared.stored.Commit.{Commit}
use Rattle.aft_records.specs.Commits.{ids_of, is_among, same_commit}
use Rattle.aft_model.specs.declared.caller.By.{By}
use Rattle.aft_model.specs.declared.door.DoorEntry.{DoorEntry}
use Rattle.aft_model.specs.declared.office.OfficeAct.{OfficeAct}
use Rattle.aft_model.specs.declared.office.OfficeAct.TheVariants.{Collected, Collecting, Nothing, Posted, Round}
use Rattle.aft_model.specs.declared.office.OfficeEntry.{OfficeEntry}
use Rattle.aft_model.specs.declared.reply.Reply.{Reply}
use Rattle.aft_model.specs.Committed.{committed}
use Rattle.aft_model.specs.DoorKnowledge.{opens}
use Rattle.aft_model.specs.History.{each_after}
use Rattle.aft_model.specs.Membership.{the_office}
use Rattle.aft_model.specs.Replies.{is_answer, is_silent}
use Rattle.aft_model.specs.ScanRun.{ScanPage, commits_on, is_scan_run, same_line, scan_pages}
use Rattle.aft_model.specs.Sound.{records_prefix}
use Rattle.aft_model.specs.declared.reply.Reply.TheVariants as replies

-- ---- of which commits the office has heard

-- the door's history up to where the door was opened
abbrev pub before_open : List DoorEntry → List DoorEntry
before_open door = before_first (λ entry. opens entry.act) door

-- the ids heard of after an act: a round adds those of the commits that it heard of, and what was posted is heard of too
abbrev pub heard_after : List TxnId → OfficeAct → List TxnId
heard_after before (Round heard missed) = before ++ ids_of heard
heard_after before (Posted ids) = before ++ ids
heard_after before act = before

-- the ids heard of after a history, where these were heard of before it
abbrev pub heard_from : List TxnId → List OfficeEntry → List TxnId
heard_from before office = fold (λ known entry. heard_after known entry.act) before office

-- the ids of the commits that the office has heard of: at first of those that were committed when the door was opened
abbrev pub heard : List DoorEntry → List OfficeEntry → List TxnId
heard door office = heard_from (ids_of (committed (before_open door))) office

-- ---- what the office's list alone must keep

-- a round of the manager: the commits that it heard of, and those that it found missed
pub record ManagerRound : Type 0 where
  pub heard : List Commit
  pub missed : List Commit

-- the round that an act is, if it is one
abbrev pub round_in : OfficeAct → List ManagerRound
round_in (Round heard missed) = record { heard = heard; missed = missed } ∷ []
round_in act = []

-- the last round of a line
abbrev pub last_round : By → List OfficeEntry → Option ManagerRound
last_round by office = last_or None (flat_map (λ entry. if same_line by entry.by then round_in entry.act else []) office)

-- whether ids are some of these others, in the order of those
abbrev pub are_among : List TxnId → List TxnId → Bool
are_among [] others = true
are_among (id ∷ ids) [] = false
are_among (id ∷ ids) (other ∷ others) = are_among (if same_id id other then ids else id ∷ ids) others

-- whether ids may be posted after a round: they are some of the missed, and the answer counts what the round heard of and what it missed
abbrev pub may_post : Option ManagerRound → List TxnId → Option Reply → Bool
may_post None ids answer = false
may_post (Some round) ids answer = are_among ids (ids_of round.missed) && is_answer (replies.Managed (length round.heard) (length round.missed)) answer

-- whose collection runs after an act
abbrev pub runs_after : Option By → By → OfficeAct → Option By
runs_after before by Collecting = Some by
runs_after before by Collected = None
runs_after before by act = before

-- whose collection runs, if one does
abbrev pub runs : List OfficeEntry → Option By
runs office = fold (λ before entry. runs_after before entry.by entry.act) None office

-- whether the collection that runs is this line's
abbrev pub is_run_by : By → Option By → Bool
is_run_by by None = false
is_run_by by (Some other) = same_line by other

-- whether a collection may end with this answer: what became of each commit, or why it was given up
abbrev pub may_end_with : Option Reply → Bool
may_end_with (Some (replies.Collected judged)) = true
may_end_with (Some replies.StoreFault) = true
may_end_with (Some (replies.Damaged name)) = true
may_end_with (Some replies.TooManyRecords) = true
may_end_with (Some replies.NoMemory) = true
may_end_with answer = false

-- what an entry that does nothing may answer: why a round or a collection isn't made, and what came of a round of orphans and of a copy
abbrev pub may_answer_alone : Option Reply → Bool
may_answer_alone (Some replies.Collecting) = true
may_answer_alone (Some replies.StoreFault) = true
may_answer_alone (Some (replies.Damaged name)) = true
may_answer_alone (Some replies.TooManyRecords) = true
may_answer_alone (Some (replies.Orphans deleted kept held fault)) = true
may_answer_alone (Some replies.TooManyVersions) = true
may_answer_alone (Some (replies.Copied taken marked)) = true
may_answer_alone (Some replies.Copying) = true
may_answer_alone (Some replies.NoMemory) = true
may_answer_alone answer = false

-- whether a line's act with its answer may come after a history: an act that does nothing answers why, a round and the beginning of a collection don't, and one collection runs at a time
abbrev pub may_act : List OfficeEntry → By → OfficeAct → Option Reply → Bool
may_act office by Nothing answer = may_answer_alone answer
may_act office by (Round heard missed) answer = is_silent answer
may_act office by (Posted ids) answer = may_post (last_round by office) ids answer
may_act office by Collecting answer = is_none (runs office) && is_silent answer
may_act office by Collected answer = is_run_by by (runs office) && may_end_with answer

-- whether an entry may come after a history: fronts never fall
abbrev pub may_be_next : List OfficeEntry → OfficeEntry → Bool
may_be_next office entry = list_all (λ earlier. nat_le earlier.front entry.front) office && may_act office entry.by entry.act entry.answer

-- whether the office's list keeps all that is asked of it alone
abbrev pub is_legal_alone : List OfficeEntry → Bool
is_legal_alone office = each_after may_be_next [] office

-- ---- what it must keep beside the door's history

-- the pages of records that the office was shown for a line
abbrev pub records_run : By → List DoorEntry → List ScanPage
records_run by door = scan_pages the_office by records_prefix door

-- those commits of which nobody has heard
abbrev pub unheard : List TxnId → List Commit → List Commit
unheard known commits = filter (λ c. not (list_any (same_id c.id) known)) commits

-- whether an act is backed by what was seen of the door, and by what was heard of before: a round heard of committed commits, its line's run is whole, and it missed just the commits of the run that are still unheard of
abbrev pub is_backed : List DoorEntry → List TxnId → By → OfficeAct → Bool
is_backed seen known by (Round heard missed) =
    list_all (λ c. is_among c (committed seen)) heard
    && is_scan_run (records_run by seen)
    && pointwise same_commit missed (unheard (known ++ ids_of heard) (commits_on (records_run by seen)))
is_backed seen known by act = true

-- whether an entry may come after a history beside the door's, of which its turn had seen as much as its front says
abbrev pub may_come_beside : List DoorEntry → List OfficeEntry → OfficeEntry → Bool
may_come_beside door office entry = nat_le entry.front (length door) && is_backed (take entry.front door) (heard door office) entry.by entry.act

-- whether the office's list keeps all that is asked of it beside the door's history
abbrev pub is_legal_beside : List DoorEntry → List OfficeEntry → Bool
is_legal_beside door office = each_after (may_come_beside door) [] office

-- ---- both

-- whether the office's list keeps both
abbrev pub is_legal_office : List DoorEntry → List OfficeEntry → Bool
is_legal_office door office = is_legal_alone office && is_legal_beside door office

-- a history that the office may have beside the door's
abbrev pub LegalOffice : List DoorEntry → List OfficeEntry → Type 0
LegalOffice door office = IsTrue (is_legal_office door office)
