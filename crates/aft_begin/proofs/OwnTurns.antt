-- A turn of a line that claims a UUID, put to the line that makes it.
use Rattle.std.proofs.Common.{◌≡◌, ℕ, List, refl, sym, subst, ◌∙◌}
use Rattle.aft_id.specs.declared.txn_id.TxnId.{TxnId}
use Rattle.aft_model.specs.declared.caller.Attempt.{Attempt}
use Rattle.aft_model.specs.declared.door.DoorEntry.{DoorEntry}
use Rattle.aft_model.specs.declared.reply.Reply.{Reply}
use Rattle.aft_model.specs.declared.script.Command.{Command}
use Rattle.aft_door.specs.Calls.{DoorView}
use Rattle.aft_ledger.specs.View.{NodeView}
use Rattle.aft_begin.specs.declared.aim.Aim.{Aim}
use Rattle.aft_begin.specs.declared.aim.Aim.TheVariants.{Begin}
use Rattle.aft_begin.specs.declared.sought.Sought.{Sought}
use Rattle.aft_begin.specs.declared.stage.Stage.{Stage}
use Rattle.aft_begin.specs.declared.stage.Stage.TheVariants.{Begins, Claims, Ended, Forgets, GivesUp, LetsGo, Runs, Seeks}
use Rattle.aft_begin.specs.Made.{Made, MayCall, MayEnd, knows_at, made_at, may_call_at, may_end_at, stood_at}
use Rattle.aft_begin.specs.View.{ClaimView, FitsAt, asks, next_at, next_of}
use Rattle.aft_turns.specs.Steps.{FrontsWithin, StepsAtDoor, StepsAtNode}
use Rattle.aft_turns.specs.declared.turn.Where.TheVariants as places
use Rattle.aft_begin.proofs.Aims.{aims_apart}

one_node : (n m : ℕ) → places.Node n ≡ places.Node m → n ≡ m
one_node n m e = cc

door_not : (n : ℕ) → places.Node n ≡ places.Door → ⊥
door_not n e = cc

node_not : (n : ℕ) → places.Door ≡ places.Node n → ⊥
node_not n e = cc

door_not_done : places.Done ≡ places.Door → ⊥
door_not_done e = cc

node_not_done : (n : ℕ) → places.Done ≡ places.Node n → ⊥
node_not_done n e = cc

-- whose next turn is at a node is at its own
own_node : (n m : ℕ) (stage : Stage) → next_at n stage ≡ places.Node m → n ≡ m
own_node n m Begins next = one_node n m next
own_node n m (Runs a) next = one_node n m next
own_node n m (GivesUp a reply) next = one_node n m next
own_node n m (Claims a) next = absurd (node_not m next)
own_node n m (Seeks a sought) next = absurd (node_not m next)
own_node n m (Forgets a id) next = absurd (node_not m next)
own_node n m (LetsGo a reply) next = absurd (node_not m next)
own_node n m (Ended given) next = absurd (node_not_done m next)

pub node_never : (u v : ClaimView) (m : ℕ) (stage : Stage) → u ≡ v → u.stage ≡ stage → next_of v ≡ places.Node m → (stage ≡ Begins → ⊥) → ((a : Attempt) → stage ≡ Runs a → ⊥) → ((a : Attempt) (reply : Reply) → stage ≡ GivesUp a reply → ⊥) → ⊥
node_never u v m stage same is next not_first not_runs not_given = by_stage stage refl (subst (λ (s : Stage). next_at u.node s ≡ places.Node m) is (subst (λ (w : ClaimView). next_of w ≡ places.Node m) (sym same) next))
  where
    by_stage : (s : Stage) → stage ≡ s → next_at u.node s ≡ places.Node m → ⊥
    by_stage Begins e next = not_first e
    by_stage (Runs a) e next = not_runs a e
    by_stage (GivesUp a reply) e next = not_given a reply e
    by_stage (Claims a) e next = node_not m next
    by_stage (Seeks a sought) e next = node_not m next
    by_stage (Forgets a id) e next = node_not m next
    by_stage (LetsGo a reply) e next = node_not m next
    by_stage (Ended given) e next = node_not_done m next

pub door_never : (u v : ClaimView) (stage : Stage) → u ≡ v → u.stage ≡ stage → next_of v ≡ places.Door → ((a : Attempt) → stage ≡ Claims a → ⊥) → ((a : Attempt) (sought : Sought) → stage ≡ Seeks a sought → ⊥) → ((a : Attempt) (id : TxnId) → stage ≡ Forgets a id → ⊥) → ((a : Attempt) (reply : Reply) → stage ≡ LetsGo a reply → ⊥) → ⊥
door_never u v stage same is next not_claims not_seeks not_forgets not_lets_go = by_stage stage refl (subst (λ (s : Stage). next_at u.node s ≡ places.Door) is (subst (λ (w : ClaimView). next_of w ≡ places.Door) (sym same) next))
  where
    by_stage : (s : Stage) → stage ≡ s → next_at u.node s ≡ places.Door → ⊥
    by_stage (Claims a) e next = not_claims a e
    by_stage (Seeks a sought) e next = not_seeks a sought e
    by_stage (Forgets a id) e next = not_forgets a id e
    by_stage (LetsGo a reply) e next = not_lets_go a reply e
    by_stage Begins e next = door_not u.node next
    by_stage (Runs a) e next = door_not u.node next
    by_stage (GivesUp a reply) e next = door_not u.node next
    by_stage (Ended given) e next = door_not_done next

pub at_node_so : (u v : ClaimView) (front : ℕ) (old new other : NodeView) (stage result now : Stage) → u ≡ v → u.stage ≡ stage → other ≡ new → now ≡ result → next_of v ≡ places.Node old.number
    → (may_end_at u.uuid stage old.history → StepsAtNode u.by front (made_at u.aim u.by old.number u.uuid stage) (made_at u.aim u.by old.number u.uuid result) old new)
    → MayEnd v old.history → StepsAtNode v.by front (Made v) (made_at u.aim u.by u.node u.uuid now) old other
at_node_so u v front old new other stage result now same is node_is now_is next steps =
    subst (λ (w : ClaimView). next_of w ≡ places.Node old.number → MayEnd w old.history → StepsAtNode w.by front (Made w) (made_at u.aim u.by u.node u.uuid now) old other) same (λ at may.
    subst (λ (s : Stage). StepsAtNode u.by front (made_at u.aim u.by u.node u.uuid s) (made_at u.aim u.by u.node u.uuid now) old other) (sym is)
    (subst (λ (n : ℕ). StepsAtNode u.by front (made_at u.aim u.by n u.uuid stage) (made_at u.aim u.by n u.uuid now) old other) (sym (own_node u.node old.number u.stage at))
    (subst (λ (s : Stage). StepsAtNode u.by front (made_at u.aim u.by old.number u.uuid stage) (made_at u.aim u.by old.number u.uuid s) old other) (sym now_is)
    (subst (λ (n : NodeView). StepsAtNode u.by front (made_at u.aim u.by old.number u.uuid stage) (made_at u.aim u.by old.number u.uuid result) old n) (sym node_is)
    (steps (subst (λ (s : Stage). may_end_at u.uuid s old.history) is may)))))) next

pub at_door_so : (u v : ClaimView) (old : List DoorEntry) (new other : DoorView) (stage result now : Stage) → u ≡ v → u.stage ≡ stage → other ≡ new → now ≡ result
    → ((node : ℕ) → may_call_at u.uuid stage old → StepsAtDoor u.by (stood_at u.aim u.by node u.uuid stage old) (made_at u.aim u.by node u.uuid result) old new.history)
    → MayCall v old → StepsAtDoor v.by (λ trail. Made v trail × FrontsWithin old trail.turns) (made_at u.aim u.by u.node u.uuid now) old other.history
at_door_so u v old new other stage result now same is door_is now_is steps =
    subst (λ (w : ClaimView). MayCall w old → StepsAtDoor w.by (λ trail. Made w trail × FrontsWithin old trail.turns) (made_at u.aim u.by u.node u.uuid now) old other.history) same (λ may.
    subst (λ (s : Stage). StepsAtDoor u.by (stood_at u.aim u.by u.node u.uuid s old) (made_at u.aim u.by u.node u.uuid now) old other.history) (sym is)
    (subst (λ (s : Stage). StepsAtDoor u.by (stood_at u.aim u.by u.node u.uuid stage old) (made_at u.aim u.by u.node u.uuid s) old other.history) (sym now_is)
    (subst (λ (d : DoorView). StepsAtDoor u.by (stood_at u.aim u.by u.node u.uuid stage old) (made_at u.aim u.by u.node u.uuid result) old d.history) (sym door_is)
    (steps u.node (subst (λ (s : Stage). may_call_at u.uuid s old) is may)))))

-- a begin deletes nothing
pub begins_know : (aim : Aim) (node : ℕ) (uuid : List ℕ) (stage : Stage) (history : List DoorEntry) → FitsAt aim node uuid stage → aim ≡ Begin → knows_at stage history
begins_know aim node uuid (Forgets a id) history (here, own, forgets) begins = absurd (aims_apart (sym begins ∙ forgets))
begins_know aim node uuid Begins history fits begins = tt
begins_know aim node uuid (Claims a) history fits begins = tt
begins_know aim node uuid (Seeks a sought) history fits begins = tt
begins_know aim node uuid (Runs a) history fits begins = tt
begins_know aim node uuid (LetsGo a reply) history fits begins = tt
begins_know aim node uuid (GivesUp a reply) history fits begins = tt
begins_know aim node uuid (Ended given) history fits begins = tt

-- what stands of a line by what it asks stands of the begin or the forget that it is
pub asked_so : (u v : ClaimView) (aim : Aim) → u ≡ v → u.aim ≡ aim → (P : ClaimView → Command → Type 0) → P u (asks u.aim u.uuid u.node) → P v (asks aim v.uuid v.node)
asked_so u v aim same is P holds =
    subst (λ (w : ClaimView). P w (asks aim w.uuid w.node)) same
    (subst (λ (which : Aim). P u (asks which u.uuid u.node)) is holds)
