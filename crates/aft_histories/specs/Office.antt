-- Histories of the office, each beside a history of the door.
use Rattle.std.specs.Prelude.{ℕ, Bool, List, [], ◌∷◌, ◌++◌, length, codes, Option, Some, None, IsFalse}
use Rattle.aft_keeper.specs.declared.keeper.Pair.{Pair}
use Rattle.aft_keeper.specs.declared.keeper.KeeperCall.TheVariants.{Scan}
use Rattle.aft_keeper.specs.declared.keeper.KeeperAnswer.TheVariants.{Absent, Done, Page}
use Rattle.aft_records.specs.declared.stored.Commit.{Commit}
use Rattle.aft_model.specs.declared.caller.By.{By}
use Rattle.aft_model.specs.declared.door.DoorAct.TheVariants as acts
use Rattle.aft_model.specs.declared.door.DoorEntry.{DoorEntry}
use Rattle.aft_model.specs.declared.office.OfficeAct.{OfficeAct}
use Rattle.aft_model.specs.declared.office.OfficeAct.TheVariants.{Nothing, Round, Posted, Collecting, Collected}
use Rattle.aft_model.specs.declared.office.OfficeEntry.{OfficeEntry}
use Rattle.aft_model.specs.declared.reply.Reply.{Reply}
use Rattle.aft_model.specs.declared.reply.Reply.TheVariants as reply
use Rattle.aft_model.specs.declared.reply.Verdict.TheVariants.{Retired}
use Rattle.aft_model.specs.Office.{LegalOffice, is_legal_office, is_backed, heard}
use Rattle.aft_histories.specs.Entries.{x, y, id_of, first, second, record_of, marker_of, record_pair, old_record, version_pair, puts, gets, comes_up, claims, releases}
use Rattle.aft_histories.specs.Facts.{full_page}
use Rattle.aft_histories.specs.Legal.{full_opening}
use Rattle.aft_histories.specs.Replies.{line_by, judged}

-- what the transaction 4 wrote at time 1002
abbrev pub third : Commit
third = record { id = id_of 1002 4; keys = x ∷ [] }

-- ---- the door

-- the first commit was there when the door was opened, and then two others were committed
abbrev pub three_committed : List DoorEntry
three_committed = full_opening ++ comes_up 1 1
    ∷ claims 3 1 1 ∷ gets 1 1 (record_of 3) Absent ∷ gets 1 1 (marker_of 3) Absent
    ∷ puts 1 1 (version_pair x second.id) Done ∷ puts 1 1 (version_pair y second.id) Done ∷ puts 1 1 (record_pair second) Done ∷ releases 3 1 1
    ∷ claims 4 1 1 ∷ gets 1 1 (record_of 4) Absent ∷ gets 1 1 (marker_of 4) Absent
    ∷ puts 1 1 (version_pair x third.id) Done ∷ puts 1 1 (record_pair third) Done ∷ releases 4 1 1 ∷ []

-- the line of the manager, and another
abbrev pub manager : By
manager = line_by 2 5

abbrev pub another : By
another = line_by 3 6

-- a page of records, that the office reads for a line
abbrev pub page_for : By → List ℕ → List Pair → DoorEntry
page_for by after pairs = record { by = by; act = acts.Call 0 1 (Scan (codes "c/") after 64) (Page pairs) }

-- the manager was shown all records
abbrev pub scanned : List DoorEntry
scanned = three_committed ++ page_for manager [] (old_record first ∷ record_pair second ∷ record_pair third ∷ []) ∷ []

-- the manager was shown a full page, and no other
abbrev pub half_scanned : List DoorEntry
half_scanned = three_committed ++ page_for manager [] full_page.listed ∷ []

-- and the page behind it was shown to another line
abbrev pub scanned_by_two : List DoorEntry
scanned_by_two = half_scanned ++ page_for another (record_of 64) [] ∷ []

-- a node was shown all records for the manager's line
abbrev pub scanned_by_node : List DoorEntry
scanned_by_node = three_committed ++ record { by = manager; act = acts.Call 1 1 (Scan (codes "c/") [] 64) (Page (old_record first ∷ record_pair second ∷ record_pair third ∷ [])) } ∷ []

-- ---- the office

-- an entry of a line that has seen so much of the door's history, and answers or doesn't
abbrev pub sees : ℕ → By → OfficeAct → Option Reply → OfficeEntry
sees front by act answer = record { front = front; by = by; act = act; answer = answer }

-- the same where it has seen all that the manager was shown
abbrev pub does : By → OfficeAct → Option Reply → OfficeEntry
does by act answer = sees (length scanned) by act answer

-- the manager heard of the second commit, and missed the third
abbrev pub rounded : List OfficeEntry
rounded = does manager (Round (second ∷ []) (third ∷ [])) None ∷ []

-- each box had room for it
abbrev pub managed : List OfficeEntry
managed = rounded ++ does manager (Posted (third.id ∷ [])) (Some (reply.Managed 1 1)) ∷ []

-- a box had no room for it
abbrev pub not_posted : List OfficeEntry
not_posted = rounded ++ does manager (Posted []) (Some (reply.Managed 1 1)) ∷ []

-- nobody had heard of the two
abbrev pub missed_both : List OfficeEntry
missed_both = does manager (Round [] (second ∷ third ∷ [])) None ∷ []

-- a collection runs, and another line asks for one
abbrev pub collects : List OfficeEntry
collects = does manager Collecting None ∷ does another Nothing (Some reply.Collecting) ∷ []

-- it ends, and the other line begins one, which a fault of the store ends
abbrev pub collected : List OfficeEntry
collected = collects ++ does manager Collected (Some (reply.Collected (judged first.id Retired ∷ [])))
    ∷ does another Collecting None ∷ does another Collected (Some reply.StoreFault) ∷ []

-- a round of orphan versions is over, and so is a copy
abbrev pub answered_alone : List OfficeEntry
answered_alone = does another Nothing (Some (reply.Orphans 1 0 0 0)) ∷ does manager Nothing (Some (reply.Copied 1 0)) ∷ []

-- the history is legal, a rule refuses what should follow it, and with it the history isn't legal
abbrev pub OfficeRefuses : Bool → List DoorEntry → List OfficeEntry → OfficeEntry → Type 0
OfficeRefuses rule door before next = LegalOffice door before × IsFalse rule × IsFalse (is_legal_office door (before ++ next ∷ []))

-- the same of a manager's round, which heard of the first commits and missed the others: what it has seen of the door doesn't back it
abbrev pub RoundRefused : List DoorEntry → List OfficeEntry → List Commit → List Commit → Type 0
RoundRefused door before heard_of missed =
    OfficeRefuses (is_backed door (heard door before) manager (Round heard_of missed)) door before (sees (length door) manager (Round heard_of missed) None)
