-- What the background lines add to the histories: announcements, deliveries, and the rounds of nodes and office.
use Rattle.std.specs.Prelude.{ℕ, ◌+◌, ◌==◌, List, [], ◌∷◌, ◌++◌, map, length, codes, if◌then◌else◌}
use Rattle.aft_id.specs.declared.txn_id.TxnId.{TxnId}
use Rattle.aft_records.specs.declared.stored.Commit.{Commit}
use Rattle.aft_keeper.specs.declared.keeper.Pair.{Pair}
use Rattle.aft_model.specs.Membership.{the_office}
use Rattle.aft_model.specs.declared.caller.By.{By}
use Rattle.aft_model.specs.declared.door.DoorAct.TheVariants as acts
use Rattle.aft_model.specs.declared.node.NodeAct.TheVariants as turns
use Rattle.aft_model.specs.declared.mail.MailAct.TheVariants as letters
use Rattle.aft_model.specs.declared.mail.MailEntry.{MailEntry}
use Rattle.aft_model.specs.declared.office.OfficeAct.TheVariants as desk
use Rattle.aft_model.specs.declared.reply.Judged.{Judged}
use Rattle.aft_model.specs.declared.reply.Reply.TheVariants as replies
use Rattle.aft_model.specs.declared.reply.Verdict.TheVariants as verdicts
use Rattle.aft_model.specs.declared.script.Command.TheVariants as commands
use Rattle.aft_histories.specs.Entries.{version_of, record_pair, full_pair, done_pair}
use Rattle.aft_runs.specs.Works.{Work, at, nothing, asks}
use Rattle.aft_records.specs.Commits.{ids_of}
use Rattle.aft_runs.specs.Entries.{does, stores, deletes, lists, turn, answering, says, closes}

-- ---- announcements

-- a post of commits, of which the box takes all, and the take of a box that has them
abbrev pub posts : By → List Commit → MailEntry
posts who told = record { by = who; act = letters.Post (ids_of told) (length told) }

abbrev pub takes : By → List Commit → MailEntry
takes who told = record { by = who; act = letters.Take (ids_of told) }

-- a node announces the first commits to the others, and to the office besides the second ones, which are older and superseded
abbrev pub announces : ℕ → By → ℕ → List Commit → List Commit → Work
announces front who node kept pruned = record (asks who (commands.Announce node)) {
  nodes = at node (turn front who (turns.Announce kept pruned) ∷ answering front who turns.Nothing (replies.Announced (length kept) (length pruned) 0) ∷ []);
  boxes = λ box. if box == node then [] else if box == 0 then posts who (pruned ++ kept) ∷ [] else posts who kept ∷ [];
}

-- a node takes its box, and learns each commit that is told there
abbrev pub learns : ℕ → By → ℕ → List Commit → Work
learns front who node told = record (asks who (commands.Deliver node)) {
  nodes = at node (answering front who (turns.Learn told) (replies.Learned (length told) 0 0) ∷ []);
  boxes = at node (takes who told ∷ []);
}

-- the office takes its box, in which nothing is, is shown all commits, and tells the nodes of those that it hadn't heard of
abbrev pub tells : ℕ → By → List Commit → List Commit → Work
tells front who shown missed = record (asks who commands.Manager) {
  door = lists who the_office (codes "c/") (map record_pair shown) ∷ [];
  office = says (front + 1) who (desk.Round [] missed) ∷ closes (front + 1) who (desk.Posted (ids_of missed)) (replies.Managed 0 (length missed)) ∷ [];
  boxes = λ box. if box == 0 then takes who [] ∷ [] else posts who missed ∷ [];
}

-- ---- collections

-- a node drops these commits
abbrev pub drops : ℕ → By → ℕ → List Commit → Work
drops front who node dropped = record (asks who (commands.Local node)) {
  nodes = at node (answering front who (turns.Drop (ids_of dropped)) (replies.Dropped (length dropped)) ∷ []);
}

-- a collection begins, and is shown these records and markers
abbrev pub collects_on : ℕ → By → List Pair → List Pair → Work
collects_on front who records markers = record (asks who commands.Collect) {
  door = lists who the_office (codes "c/") records ∷ lists who the_office (codes "r/") markers ∷ [];
  office = says front who desk.Collecting ∷ [];
}

-- the same where it is shown the records of these commits, which the first incarnation of node 1 wrote, and no marker
abbrev pub collects : ℕ → By → List Commit → Work
collects front who shown = collects_on front who (map record_pair shown) []

-- in it a node gives a commit up
abbrev pub gives_up : ℕ → By → ℕ → ℕ → TxnId → Work
gives_up front who node inc id = record nothing {
  door = does who (acts.GiveUp node inc id) ∷ [];
  nodes = at node (turn front who (turns.GiveUp id) ∷ []);
}

-- in it a commit is marked, and then all that is stored of it is deleted
abbrev pub retires : By → Commit → Work
retires who c = record nothing {
  door = stores who the_office (full_pair c) ∷ deletes who (record_pair c).name ∷ map (λ key. deletes who (version_of key c.id)) c.keys ++ stores who the_office (done_pair c.id) ∷ [];
}

-- it ends
abbrev pub collected : ℕ → By → List Judged → Work
collected front who judged = record nothing { office = closes front who desk.Collected (replies.Collected judged) ∷ [] }

-- a commit that an incarnation holds, and one that is retired
abbrev pub held : TxnId → ℕ → ℕ → Judged
held id node inc = record { id = id; verdict = verdicts.Held node inc }

abbrev pub retired : TxnId → Judged
retired id = record { id = id; verdict = verdicts.Retired }
