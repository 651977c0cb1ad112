-- Mailboxes: a box holds messages, the ids of commits, and has room for so many.
use Rattle.std.specs.Prelude.{Bool, IsTrue, List, [], drop, length, take, ℕ, ◌++◌, ◌-◌, ◌==◌}
use Rattle.std.specs.Cmp.Lexicographic.{pointwise}
use Rattle.std.specs.List.{fold}
use Rattle.aft_id.specs.declared.txn_id.TxnId.{TxnId}
use Rattle.aft_id.specs.TxnId.{same_id}
use Rattle.aft_model.specs.declared.mail.MailAct.{MailAct}
use Rattle.aft_model.specs.declared.mail.MailAct.TheVariants.{Post, Take}
use Rattle.aft_model.specs.declared.mail.MailEntry.{MailEntry}
use Rattle.aft_model.specs.History.{each_after}

-- the messages of a post that a box of a size has room for: the first of them
abbrev pub fitting : ℕ → List TxnId → List TxnId → List TxnId
fitting size before ids = take (size - length before) ids

-- what a box holds after an act: a post adds what fits, and a take empties it
abbrev pub box_after : ℕ → List TxnId → MailAct → List TxnId
box_after size before (Post ids taken) = before ++ fitting size before ids
box_after size before (Take ids) = []

-- what a box holds after a history, the oldest message first; it is empty at first
abbrev pub box : ℕ → List MailEntry → List TxnId
box size history = fold (λ before entry. box_after size before entry.act) [] history

-- the messages that an act left out of a box: those of a post past the first so many that it took
abbrev pub refused_of : MailAct → List TxnId
refused_of (Post ids taken) = drop taken ids
refused_of (Take ids) = []

-- whether an act may come at a box that holds these: a post takes as many as fit, and a take has the whole box, in order
abbrev pub may_enter : ℕ → List TxnId → MailAct → Bool
may_enter size before (Post ids taken) = taken == length (fitting size before ids)
may_enter size before (Take ids) = pointwise same_id ids before

-- whether each act may come after those before it
abbrev pub is_legal_box : ℕ → List MailEntry → Bool
is_legal_box size history = each_after (λ before entry. may_enter size (box size before) entry.act) [] history

-- a history that a box of a size may have
abbrev pub LegalBox : ℕ → List MailEntry → Type 0
LegalBox size history = IsTrue (is_legal_box size history)
