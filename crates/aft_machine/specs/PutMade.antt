-- Which turns a put has made, by how far it has come.
use Rattle.std.specs.Prelude.{IsFalse, IsTrue, List, Option, Some, [], is_some, ℕ, ◌≡◌, ◌⊎◌, ◌∷◌}
use Rattle.std.specs.Option.{ForSome}
use Rattle.aft_model.specs.declared.caller.Attempt.{Attempt}
use Rattle.aft_model.specs.declared.caller.By.{By}
use Rattle.aft_model.specs.declared.caller.Hold.{Hold}
use Rattle.aft_model.specs.declared.node.NodeAct.{NodeAct}
use Rattle.aft_model.specs.declared.node.NodeAct.TheVariants as acts
use Rattle.aft_model.specs.declared.node.NodeEntry.{NodeEntry}
use Rattle.aft_model.specs.declared.reply.Reply.{Reply}
use Rattle.aft_model.specs.declared.reply.Reply.TheVariants as replies
use Rattle.aft_model.specs.Attempts.{is_running}
use Rattle.aft_ledger.specs.Turns.{is_doing, may_put}
use Rattle.aft_machine.specs.PutView.{PutView}
use Rattle.aft_machine.specs.declared.buffering.Stage.{Stage}
use Rattle.aft_machine.specs.declared.buffering.Stage.TheVariants.{Begins, Ended}
use Rattle.aft_read.specs.Made.{refusal_at, turn_at}
use Rattle.aft_turns.specs.Trail.{Trail, no_trail}

-- the attempt that is held runs
pub record Runs (hold : Hold) (a : Attempt) (before : List NodeEntry) : Type 0 where
  pub held : hold.attempt ≡ Some a
  pub running : IsTrue (is_doing is_running a before)

-- what the turn of a put does and answers: memory was wanting; it was refused; the attempt buffers the value; or its buffer is full
abbrev pub Puts : Hold → List ℕ → List ℕ → List NodeEntry → NodeAct → Option Reply → Type 0
Puts hold key value before act answer =
    ((act ≡ acts.Nothing) × (answer ≡ Some replies.NoMemory))
    ⊎ ((act ≡ acts.Nothing) × IsTrue (is_some answer) × (answer ≡ refusal_at hold before) × ForSome hold.attempt (λ a. a.node ≡ hold.node))
    ⊎ ((a : Attempt) × Runs hold a before × IsTrue (may_put a key before) × (act ≡ acts.Put a key value) × (answer ≡ Some replies.Stored))
    ⊎ ((a : Attempt) × Runs hold a before × IsFalse (may_put a key before) × (act ≡ acts.Nothing) × (answer ≡ Some replies.TooManyKeys))

-- a put that has made its turn
pub record HasPut (by : By) (hold : Hold) (key value : List ℕ) (trail : Trail) : Type 0 where
  pub before : List NodeEntry
  pub front : ℕ
  pub act : NodeAct
  pub answer : Option Reply
  pub turns : trail.turns ≡ turn_at by hold before front act answer ∷ []
  pub puts : Puts hold key value before act answer

-- what a put has made by a stage
abbrev pub made_at : By → Hold → List ℕ → List ℕ → Stage → Trail → Type 0
made_at by hold key value (Begins asked given) trail = (asked ≡ key) × (given ≡ value) × (trail ≡ no_trail)
made_at by hold key value Ended trail = HasPut by hold key value trail

-- a put has made these turns
abbrev pub Made : PutView → Trail → Type 0
Made put trail = made_at put.by put.hold put.key put.value put.stage trail
