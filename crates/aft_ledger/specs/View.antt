-- What a node shows, and what a turn makes of it.
use Rattle.std.specs.Prelude.{List, Option, Some, if◌then◌else◌, max, ℕ, ◌++◌, ◌-◌, ◌∷◌, []}
use Rattle.aft_model.specs.declared.caller.By.{By}
use Rattle.aft_model.specs.declared.node.NodeAct.{NodeAct}
use Rattle.aft_model.specs.declared.node.NodeAct.TheVariants.{Nothing}
use Rattle.aft_model.specs.declared.node.NodeEntry.{NodeEntry}
use Rattle.aft_model.specs.declared.reply.Reply.{Reply}
use Rattle.aft_model.specs.Replies.{is_silent}

-- a node's number, how many values it keeps at most, its history, the greatest front so far, and for how many answers it has room
pub record NodeView : Type 0 where
  pub number : ℕ
  pub capacity : ℕ
  pub history : List NodeEntry
  pub front : ℕ
  pub room : ℕ

-- a node that a front was handed to: its own is the greater of the two
abbrev pub raised : ℕ → NodeView → NodeView
raised handed node = record node { front = max node.front handed }

-- a node after a turn: one entry more, with the greater front, and room for one answer less where the turn answers
abbrev pub after_entry : ℕ → By → NodeAct → Option Reply → NodeView → NodeView
after_entry handed by act answer node = record {
  number = node.number;
  capacity = node.capacity;
  history = node.history ++ record { front = max node.front handed; by = by; act = act; answer = answer } ∷ [];
  front = max node.front handed;
  room = if is_silent answer then node.room else node.room - 1;
}

-- a node after a turn that does nothing but answer
abbrev pub answered : ℕ → By → Reply → NodeView → NodeView
answered handed by reply node = after_entry handed by Nothing (Some reply) node
