-- A get that a driver runs has what its machine asks of its next turn.
use Rattle.std.proofs.Common.{◌≡◌, ℕ, ◌||◌, List, [], ◌∷◌, refl, sym, ap, subst, ◌∙◌, inl}
use Rattle.std.specs.Prelude.{IsTrue, Option, Some}
use Rattle.aft_id.specs.declared.txn_id.TxnId.{TxnId}
use Rattle.aft_model.specs.declared.caller.Attempt.{Attempt}
use Rattle.aft_model.specs.declared.caller.By.{By}
use Rattle.aft_model.specs.declared.caller.Hold.{Hold}
use Rattle.aft_model.specs.declared.node.NodeAct.{NodeAct}
use Rattle.aft_model.specs.declared.node.NodeEntry.{NodeEntry}
use Rattle.aft_model.specs.declared.script.Command.{Command}
use Rattle.aft_model.specs.declared.script.Command.TheVariants as commands
use Rattle.aft_model.specs.declared.script.Line.{Line}
use Rattle.aft_model.specs.NodeState.{node_state}
use Rattle.aft_ledger.specs.Turns.{is_fetching}
use Rattle.aft_ledger.specs.View.{NodeView}
use Rattle.aft_lines.specs.Advance.{leads_to}
use Rattle.aft_lines.specs.Asked.{Asked, Ran}
use Rattle.aft_lines.specs.FinishedText.{line_of}
use Rattle.aft_lines.specs.LineView.{ends_of, has_left}
use Rattle.aft_lines.specs.Lines.{node_numbers}
use Rattle.aft_lines.specs.RunsSoFar.{position_of}
use Rattle.aft_lines.specs.Turns.{Turn, turns}
use Rattle.aft_lines.specs.Views.{view_of}
use Rattle.aft_node.specs.Closing.{act_passes, last_own, opens_fetch}
use Rattle.aft_read.specs.Made.{CameBack, HasPicked, Made, has_come_up_at, made_at, may_close_at, may_end_at}
use Rattle.aft_read.specs.View.{ReadView, next_at}
use Rattle.aft_read.specs.declared.stage.Stage.{Stage}
use Rattle.aft_read.specs.declared.stage.Stage.TheVariants.{Begins, Comes, Ended, Fetches}
use Rattle.aft_node.specs.declared.goes.Got.{Got}
use Rattle.aft_turns.specs.Trail.{Trail}
use Rattle.aft_turns.specs.declared.turn.Where.TheVariants as places
use Rattle.law_steps.specs.Histories.{history_in}
use Rattle.law_held.specs.Standing.{fetch_in, is_get}
use Rattle.law_accounts.specs.Account.{Stand}
use Rattle.law_accounts.specs.Adding.{numbered_in}
use Rattle.law_accounts.proofs.ComingUp.{fetcher_up}
use Rattle.law_accounts.proofs.StopsSeen.{same_history}
use Rattle.law_driver.specs.Driven.{Driven, IsNode, last_act, node_of}
use Rattle.law_driven_gets.specs.Gets.{IsGetOf, MayGoAtDoor, MayGoAtNode}
use Rattle.law_driven_gets.proofs.Open.{may_end}
use Rattle.law_driven_gets.proofs.Picked.{AsksThen, asks_then, is_at_fetch, its_fetch, last_picked, pick_act, pick_opens}

module _ (asked : Asked) (ran : Ran) (stand : Line → Stand) (line : Line) (hold : Hold) (trail : Trail) (read : ReadView) (driven : Driven asked ran stand line hold trail) (of : IsGetOf line hold read) where
  module _ (a : Attempt) (id : TxnId) (first : Turn) (more : List Turn) (picked : HasPicked asked.settings.cache read.by read.hold read.key a id first) (are : trail.turns ≡ first ∷ more) (asks : AsksThen a read.key id more) where
    at_fetch : fetch_in (position_of (view_of asked ran line)) ≡ Some (its_fetch asked.settings.cache read.by read.hold read.key a id first more picked)
    at_fetch =
        ap (λ (c : Command). fetch_in (leads_to c (node_numbers asked.settings) (ends_of (view_of asked ran line)) (turns (line_of line) ran.trace))) of.asks
        ∙ (ap (λ (ts : List Turn). fetch_in (leads_to (commands.Get read.key) (node_numbers asked.settings) (ends_of (view_of asked ran line)) ts)) (driven.own ∙ are)
        ∙ is_at_fetch asked.settings.cache read.by read.hold read.key a id first more picked (node_numbers asked.settings) (ends_of (view_of asked ran line)) asks)

    last_here : (number : ℕ) → read.hold.node ≡ number → last_own read.by (numbered_in number 1 ran.trace.nodes) ≡ Some (pick_act asked.settings.cache read.by read.hold read.key a id first more picked)
    last_here number here =
        ap (λ (by : By). last_own by (numbered_in number 1 ran.trace.nodes)) of.by
        ∙ (ap (λ (n : ℕ). last_own (line_of line) (numbered_in n 1 ran.trace.nodes)) (sym here ∙ (ap (λ (h : Hold). h.node) of.held ∙ sym (ap (λ (c : Command). node_of c hold) of.asks)))
        ∙ (driven.closing ∙ (ap last_act are ∙ last_picked asked.settings.cache read.by read.hold read.key a id first more picked asks)))

  -- ---- at the door

  by_door : (stage : Stage) → made_at asked.settings.cache read.by read.hold read.key stage trail → has_come_up_at stage ran.trace.door
  by_door (Fetches a key id) (same, begun) =
      fetcher_up asked ran stand line (its_fetch asked.settings.cache read.by read.hold read.key a id begun.first [] begun.picked) driven.account driven.may.among (subst (λ (c : Command). IsTrue (is_get c)) (sym of.asks) refl)
      (at_fetch a id begun.first [] begun.picked begun.turns (inl refl))
  by_door (Begins key) made = tt
  by_door (Comes a key id got place) made = tt
  by_door Ended made = tt

  pub at_door : Made asked.settings.cache read trail → MayGoAtDoor read ran.trace.door
  at_door made next = (by_door read.stage made, driven.account.opened)

  -- ---- at a node

  module _ (node : NodeView) (is : IsNode asked ran node) where
    module _ (a : Attempt) (key : List ℕ) (id : TxnId) (got : Got) (place : ℕ) (same : key ≡ read.key) (came : CameBack asked.settings.cache read.by read.hold read.key a id got place trail) (here : read.hold.node ≡ node.number) where
      asks : AsksThen a read.key id came.more
      asks = asks_then a read.key id got place trail.look came.more came.fetched

      closes : IsTrue (act_passes (opens_fetch a key id) (last_own read.by node.history))
      closes =
          subst (λ (k : List ℕ). IsTrue (act_passes (opens_fetch a k id) (last_own read.by node.history))) (sym same)
          (subst (λ (o : Option NodeAct). IsTrue (act_passes (opens_fetch a read.key id) o)) (sym (ap (last_own read.by) is.history ∙ last_here a id came.first came.more came.picked came.turns asks node.number here))
          (pick_opens asked.settings.cache read.by read.hold read.key a id came.first came.more came.picked))

      its_history : node.history ≡ history_in a.node 1 ran.trace.nodes
      its_history = is.history ∙ (same_history node.number 1 ran.trace.nodes ∙ ap (λ (n : ℕ). history_in n 1 ran.trace.nodes) (sym (came.picked.picks.place ∙ here)))

      ends : IsTrue (has_left a.inc (node_state node.history) || is_fetching a node.history)
      ends =
          subst (λ (h : List NodeEntry). IsTrue (has_left a.inc (node_state h) || is_fetching a h)) (sym its_history)
          (may_end asked ran stand driven.account line driven.may.among read.key of.asks (its_fetch asked.settings.cache read.by read.hold read.key a id came.first came.more came.picked)
          (at_fetch a id came.first came.more came.picked came.turns asks))

    by_node : (stage : Stage) → made_at asked.settings.cache read.by read.hold read.key stage trail → next_at read.hold.node stage ≡ places.Node node.number → may_close_at read.by stage node.history × may_end_at stage node.history
    by_node (Comes a key id got place) (same, came) next =
        let here : read.hold.node ≡ node.number = cc in
        (closes a key id got place same came here, ends a key id got place same came here)
    by_node (Begins key) made next = (tt, tt)
    by_node (Fetches a key id) made next = (tt, tt)
    by_node Ended made next = (tt, tt)

    pub at_node : Made asked.settings.cache read trail → MayGoAtNode read node
    at_node made next = by_node read.stage made next
