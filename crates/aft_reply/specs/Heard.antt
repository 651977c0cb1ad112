-- What was heard of the answers to each line: none, one, or more.
use Rattle.std.specs.Prelude.{Bool, List, None, Option, Some, [], if◌then◌else◌, ◌&&◌, ◌++◌, ◌==◌, ◌≡◌, ◌∷◌}
use Rattle.std.specs.List.{filter_map}
use Rattle.aft_lines.specs.FinishedText.{answer_to}
use Rattle.aft_model.specs.declared.caller.By.{By}
use Rattle.aft_model.specs.declared.node.NodeEntry.{NodeEntry}
use Rattle.aft_model.specs.declared.office.OfficeEntry.{OfficeEntry}
use Rattle.aft_model.specs.declared.reply.Reply.{Reply}
use Rattle.aft_reply.specs.declared.finished.Asker.{Asker}
use Rattle.aft_reply.specs.declared.finished.Seen.{Seen}
use Rattle.aft_reply.specs.declared.finished.Seen.TheVariants.{Often, Once}

-- the answers to each line
abbrev pub Answers : Type 0
Answers = By → List Reply

-- whose line it is
abbrev pub asker_of : By → Asker
asker_of by = record { client = by.client; line = by.line }

-- whether it is one line
abbrev pub same_asker : Asker → Asker → Bool
same_asker a b = a.client == b.client && a.line == b.line

-- what the entries of a node, and those of the office, answer a line
abbrev pub node_answers : By → List NodeEntry → List Reply
node_answers by entries = filter_map (λ entry. answer_to by entry.by entry.answer) entries

abbrev pub office_answers : By → List OfficeEntry → List Reply
office_answers by entries = filter_map (λ entry. answer_to by entry.by entry.answer) entries

-- the one reply that was heard; none in place of more
abbrev pub shown : Option Seen → Option (Option Reply)
shown None = None
shown (Some (Once reply)) = Some (Some reply.now)
shown (Some Often) = Some None

-- the reply that was heard, if it is one
abbrev pub only : Option Seen → Option Reply
only None = None
only (Some (Once reply)) = Some reply.now
only (Some Often) = None

-- what is shown of the answers themselves
abbrev pub tally : List Reply → Option (Option Reply)
tally [] = None
tally (reply ∷ []) = Some (Some reply)
tally (reply ∷ next ∷ rest) = Some None

-- what was seen of each line is what its answers are
abbrev pub Heard : (Asker → Option Seen) → Answers → Type 0
Heard seen answers = (line : By) → shown (seen (asker_of line)) ≡ tally (answers line)

-- the answers with one more to a line
abbrev pub with_reply : Answers → Asker → Reply → By → List Reply
with_reply before asker reply line = if same_asker asker (asker_of line) then before line ++ reply ∷ [] else before line
