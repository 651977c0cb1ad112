-- What a line posted to the mailboxes and took from them.
use Rattle.std.specs.Prelude.{Bool, List, [], false, filter, length, map, min, not, suc, take, true, ℕ, ◌&&◌, ◌++◌, ◌==◌, ◌∷◌}
use Rattle.std.specs.Cmp.Lexicographic.{pointwise}
use Rattle.std.specs.List.{flat_map, fold, list_all, list_any}
use Rattle.aft_id.specs.declared.txn_id.TxnId.{TxnId}
use Rattle.aft_id.specs.TxnId.{same_id}
use Rattle.aft_records.specs.declared.stored.Commit.{Commit}
use Rattle.aft_records.specs.Commits.{ids_of, in_id_order}
use Rattle.aft_model.specs.declared.caller.By.{By}
use Rattle.aft_model.specs.declared.mail.MailAct.{MailAct}
use Rattle.aft_model.specs.declared.mail.MailAct.TheVariants.{Post, Take}
use Rattle.aft_model.specs.declared.mail.MailEntry.{MailEntry}
use Rattle.aft_model.specs.declared.node.NodeAct.{NodeAct}
use Rattle.aft_model.specs.declared.office.OfficeAct.{OfficeAct}
use Rattle.aft_model.specs.declared.script.Command.{Command}
use Rattle.aft_model.specs.Boxes.{refused_of}
use Rattle.aft_model.specs.Office.{ManagerRound, round_in}
use Rattle.aft_model.specs.ScanRun.{same_line}
use Rattle.aft_lines.specs.CourseWords.{tells_no_memory}
use Rattle.aft_lines.specs.Turns.{AtNode, AtOffice, Turn, answer_in}
use Rattle.aft_model.specs.declared.script.Command.TheVariants as commands
use Rattle.aft_model.specs.declared.node.NodeAct.TheVariants as node_acts
use Rattle.aft_model.specs.declared.office.OfficeAct.TheVariants as office_acts

-- what was done at the box of a number
pub record AtBox : Type 0 where
  pub box : ℕ
  pub act : MailAct

-- what a line did at the boxes from this number on
abbrev pub at_boxes : By → ℕ → List (List MailEntry) → List AtBox
at_boxes by number [] = []
at_boxes by number (history ∷ histories) =
    map (λ entry. record { box = number; act = entry.act }) (filter (λ entry. same_line by entry.by) history) ++ at_boxes by (suc number) histories

-- what a line did at the box of the office, and then at those of the nodes, in order
abbrev pub from_office : By → List (List MailEntry) → List AtBox
from_office by mail = at_boxes by 0 mail

-- whether something was done at the box of the office
abbrev pub is_at_office : AtBox → Bool
is_at_office done = done.box == 0

-- what a line did at the boxes of the nodes, in order, and then at that of the office
abbrev pub from_nodes : By → List (List MailEntry) → List AtBox
from_nodes by mail = filter (λ done. not (is_at_office done)) (from_office by mail) ++ filter is_at_office (from_office by mail)

-- what a line is to do at a box: post these ids, or take what is there
pub data Due : Type 0 where
  DuePost : ℕ → List TxnId → Due
  DueTake : ℕ → Due

-- whether what is due was done
abbrev pub does : Due → ℕ → MailAct → Bool
does (DuePost box ids) at (Post posted taken) = box == at && pointwise same_id ids posted
does (DueTake box) at (Take taken) = box == at
does due at act = false

abbrev pub is_done : Due → AtBox → Bool
is_done due done = does due done.box done.act

-- whether all that is due was done, in order, and nothing else; where memory was wanting, the first of it
abbrev pub are_done : Bool → List Due → List AtBox → Bool
are_done wanting [] [] = true
are_done wanting (due ∷ dues) [] = wanting
are_done wanting [] (done ∷ dones) = false
are_done wanting (due ∷ dues) (done ∷ dones) = is_done due done && are_done wanting dues dones

-- whether a line's turns answered that memory was wanting
abbrev pub lacked_memory : List Turn → Bool
lacked_memory line = list_any (λ turn. tells_no_memory (answer_in turn)) line

-- ---- announcements

-- an announcement: the commits that are kept, and those that are left out
pub record Announcement : Type 0 where
  pub kept : List Commit
  pub pruned : List Commit

-- the announcement that an act is, and that of a turn
abbrev pub announced_by : NodeAct → List Announcement
announced_by (node_acts.Announce kept pruned) = record { kept = kept; pruned = pruned } ∷ []
announced_by act = []

abbrev pub announcement_in : Turn → List Announcement
announcement_in (AtNode node before entry) = announced_by entry.act
announcement_in turn = []

-- the ids that boxes refused to a line
abbrev pub refused_ids : List AtBox → List TxnId
refused_ids done = flat_map (λ one. refused_of one.act) done

-- how many of the ids that a line posted each box took, of so many that were posted: the first of them
abbrev pub taken_in : ℕ → MailAct → ℕ
taken_in before (Post ids taken) = min before taken
taken_in before (Take ids) = before

abbrev pub taken_by_all : ℕ → List AtBox → ℕ
taken_by_all posted done = fold (λ before one. taken_in before one.act) posted done

-- what was done at the boxes of the nodes
abbrev pub at_nodes : List AtBox → List AtBox
at_nodes done = filter (λ one. not (is_at_office one)) done

-- what an announcement is to post: the kept ids to each other node, and to the office those that were left out and those first kept ones that every node's box took, in id order
abbrev pub announcement_dues : ℕ → List ℕ → List AtBox → Announcement → List Due
announcement_dues node nodes done told =
    map (λ other. DuePost other (ids_of told.kept)) (filter (λ other. not (other == node)) nodes)
    ++ DuePost 0 (ids_of (in_id_order (told.pruned ++ take (taken_by_all (length told.kept) (at_nodes done)) told.kept))) ∷ []

-- whether the announcement of a node posted all that it is to post
abbrev pub posts_announcement : ℕ → List ℕ → List Turn → List AtBox → Bool
posts_announcement node nodes line done = are_done (lacked_memory line) (flat_map (announcement_dues node nodes done) (flat_map announcement_in line)) done

-- ---- deliveries

-- the commits that an act learned
abbrev pub learned_by : NodeAct → List (List Commit)
learned_by (node_acts.Learn commits) = commits ∷ []
learned_by act = []

abbrev pub learned_in : Turn → List (List Commit)
learned_in (AtNode node before entry) = learned_by entry.act
learned_in turn = []

-- whether some ids are the first of others, and all of them unless memory was wanting
abbrev pub begins_with : Bool → List TxnId → List TxnId → Bool
begins_with wanting [] [] = true
begins_with wanting (id ∷ ids) [] = wanting
begins_with wanting [] (other ∷ others) = false
begins_with wanting (id ∷ ids) (other ∷ others) = same_id id other && begins_with wanting ids others

-- the ids that were taken at a box
abbrev pub taken_by : MailAct → List (List TxnId)
taken_by (Take ids) = ids ∷ []
taken_by act = []

abbrev pub taken_at : AtBox → List (List TxnId)
taken_at done = taken_by done.act

-- whether what was learned are the commits of what was taken, in order
abbrev pub learns_taken : Bool → List AtBox → List Commit → Bool
learns_taken wanting done commits = list_any (λ ids. begins_with wanting ids (ids_of commits)) (flat_map taken_at done)

-- whether a delivery took its node's box, and learned what it took
abbrev pub takes_delivery : ℕ → List Turn → List AtBox → Bool
takes_delivery node line done =
    are_done (lacked_memory line) (DueTake node ∷ []) done
    && list_all (learns_taken (lacked_memory line) done) (flat_map learned_in line)

-- ---- the manager

-- the rounds of a line, and the ids that it noted as posted
abbrev pub rounds_in : Turn → List ManagerRound
rounds_in (AtOffice before entry) = round_in entry.act
rounds_in turn = []

abbrev pub noted_by : OfficeAct → List (List TxnId)
noted_by (office_acts.Posted ids) = ids ∷ []
noted_by act = []

abbrev pub noted_in : Turn → List (List TxnId)
noted_in (AtOffice before entry) = noted_by entry.act
noted_in turn = []

-- what a round is to post: the missed ids to each node
abbrev pub round_dues : List ℕ → ManagerRound → List Due
round_dues nodes round = map (λ node. DuePost node (ids_of round.missed)) nodes

-- whether a round heard of what was taken
abbrev pub hears_taken : List AtBox → ManagerRound → Bool
hears_taken done round = list_any (λ ids. pointwise same_id ids (ids_of round.heard)) (flat_map taken_at done)

-- whether the ids that were noted as posted are those first missed ones that every box took
abbrev pub notes_posted : List AtBox → ManagerRound → List TxnId → Bool
notes_posted done round ids = pointwise same_id ids (take (taken_by_all (length round.missed) done) (ids_of round.missed))

-- whether a manager's round took the office's box, heard of that, and posted the missed
abbrev pub takes_round : List ℕ → List Turn → List AtBox → Bool
takes_round nodes line done =
    are_done (lacked_memory line) (DueTake 0 ∷ flat_map (round_dues nodes) (flat_map rounds_in line)) done
    && list_all (λ round. hears_taken done round && list_all (notes_posted done round) (flat_map noted_in line)) (flat_map rounds_in line)

-- ---- any line

-- whether nothing was done
abbrev pub does_nothing : List AtBox → Bool
does_nothing [] = true
does_nothing done = false

-- what a line did at the boxes, in the order in which its command does
abbrev pub posts_of : By → Command → List (List MailEntry) → List AtBox
posts_of by (commands.Announce node) mail = from_nodes by mail
posts_of by command mail = from_office by mail

-- whether a line did at the boxes what its command is to do there, and nothing else
abbrev pub keeps_mail : Command → List ℕ → List Turn → List AtBox → Bool
keeps_mail (commands.Announce node) nodes line done = posts_announcement node nodes line done
keeps_mail (commands.Deliver node) nodes line done = takes_delivery node line done
keeps_mail commands.Manager nodes line done = takes_round nodes line done
keeps_mail command nodes line done = does_nothing done
