-- What a mailbox shows, and what each call makes of it.
use Rattle.std.specs.Prelude.{List, [], length, max, take, ℕ, ◌++◌, ◌-◌, ◌≡◌, ◌≤◌, ◌∷◌}
use Rattle.aft_records.specs.declared.stored.Commit.{Commit}
use Rattle.aft_records.specs.Commits.{ids_of}
use Rattle.aft_model.specs.declared.caller.By.{By}
use Rattle.aft_model.specs.declared.mail.MailAct.TheVariants.{Post, Take}
use Rattle.aft_model.specs.declared.mail.MailEntry.{MailEntry}
use Rattle.aft_model.specs.Boxes.{LegalBox, box}

-- how many messages a box has room for, those that it holds, the oldest first, the greatest front of a post so far, and its history
pub record BoxState : Type 0 where
  pub capacity : ℕ
  pub messages : List Commit
  pub front : ℕ
  pub history : List MailEntry

-- the messages of a post that a box has room for: the first of them
abbrev pub fitting_in : BoxState → List Commit → List Commit
fitting_in state commits = take (state.capacity - length state.messages) commits

-- a box after a post
abbrev pub after_post : By → List Commit → ℕ → BoxState → BoxState
after_post by commits front state = record {
  capacity = state.capacity;
  messages = state.messages ++ fitting_in state commits;
  front = max state.front front;
  history = state.history ++ record { by = by; act = Post (ids_of commits) (length (fitting_in state commits)) } ∷ [];
}

-- a box after a take
abbrev pub after_take : By → BoxState → BoxState
after_take by state = record {
  capacity = state.capacity;
  messages = [];
  front = state.front;
  history = state.history ++ record { by = by; act = Take (ids_of state.messages) } ∷ [];
}

-- a box holds what its history says, no more than it has room for, and its history is a legal one
pub record IsLegal (state : BoxState) : Type 0 where
  pub within : length state.messages ≤ state.capacity
  pub holds : ids_of state.messages ≡ box state.capacity state.history
  pub legal : LegalBox state.capacity state.history
