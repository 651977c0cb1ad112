-- Histories of a mailbox.
use Rattle.std.specs.Prelude.{ℕ, List, [], ◌∷◌, ◌++◌, IsFalse}
use Rattle.aft_id.specs.declared.txn_id.TxnId.{TxnId}
use Rattle.aft_model.specs.declared.mail.MailAct.{MailAct}
use Rattle.aft_model.specs.declared.mail.MailAct.TheVariants.{Post, Take}
use Rattle.aft_model.specs.declared.mail.MailEntry.{MailEntry}
use Rattle.aft_model.specs.Boxes.{LegalBox, box, may_enter, is_legal_box}
use Rattle.aft_histories.specs.Entries.{first, second}

-- an act of a client's line
abbrev pub in_box : MailAct → MailEntry
in_box act = record { by = record { client = 1; line = 1 }; act = act }

-- a post of ids, of which the box took so many, and a take
abbrev pub posts : List TxnId → ℕ → MailEntry
posts ids taken = in_box (Post ids taken)

abbrev pub takes : List TxnId → MailEntry
takes ids = in_box (Take ids)

-- both commits
abbrev pub both : List TxnId
both = first.id ∷ second.id ∷ []

-- a box of one has room for one of two
abbrev pub one_of_two : List MailEntry
one_of_two = posts both 1 ∷ []

-- it is full, and takes nothing more
abbrev pub full : List MailEntry
full = one_of_two ++ posts (second.id ∷ []) 0 ∷ []

-- it is emptied, and has room again
abbrev pub emptied : List MailEntry
emptied = full ++ takes (first.id ∷ []) ∷ []

abbrev pub used_again : List MailEntry
used_again = emptied ++ takes [] ∷ posts (second.id ∷ []) 1 ∷ []

-- a box of two has both, from two posts
abbrev pub has_both : List MailEntry
has_both = posts (first.id ∷ []) 1 ∷ posts [] 0 ∷ posts (second.id ∷ []) 1 ∷ []

-- the history is legal, its box refuses the entry, and with it the history isn't legal
abbrev pub BoxRefuses : ℕ → List MailEntry → MailEntry → Type 0
BoxRefuses size before next = LegalBox size before × IsFalse (may_enter size (box size before) next.act) × IsFalse (is_legal_box size (before ++ next ∷ []))
