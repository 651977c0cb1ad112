-- What comes of a turn: it is refused with an answer, or it does what it does, or memory was wanting.
use Rattle.std.specs.Prelude.{None, Option, Some, ℕ, ◌⊎◌, ◌≡◌}
use Rattle.aft_model.specs.declared.caller.By.{By}
use Rattle.aft_model.specs.declared.caller.Caller.{Caller}
use Rattle.aft_model.specs.declared.reply.Reply.{Reply}
use Rattle.aft_model.specs.declared.reply.Reply.TheVariants as replies
use Rattle.aft_ledger.specs.View.{NodeView, answered}

-- a turn that is refused with this answer; or else it does this, or memory was wanting, which it answers
abbrev pub Does : ℕ → By → Option Reply → NodeView → NodeView → NodeView → Type 0
Does handed by (Some reply) done old new = new ≡ answered handed by reply old
Does handed by None done old new = (new ≡ done) ⊎ (new ≡ answered handed by replies.NoMemory old)

-- the same of a turn that leads on, or where it answers its line leads here
abbrev pub Leads : {T : Type 0} → ℕ → By → T → Option Reply → NodeView → T → NodeView → NodeView → T → Type 0
Leads handed by over (Some reply) done go old new result = (new ≡ answered handed by reply old) × (result ≡ over)
Leads handed by over None done go old new result = ((new ≡ done) × (result ≡ go)) ⊎ ((new ≡ answered handed by replies.NoMemory old) × (result ≡ over))

-- the caller of the door for a line
abbrev pub caller : ℕ → ℕ → By → Caller
caller node inc by = record { node = node; inc = inc; by = by }

-- that a node doesn't serve an incarnation
abbrev pub down_reply : NodeView → ℕ → Reply
down_reply node inc = replies.NodeDown node.number inc
