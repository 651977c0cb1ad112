-- What a turn of a get tells: which fetch it begins, goes on with, or ends.
use Rattle.std.proofs.Common.{◌≡◌, ℕ, Bool, true, false, ◌&&◌, not, List, [], ◌∷◌, refl, sym, ap, subst, ◌⊎◌, inl, inr, eqb}
use Rattle.std.specs.Prelude.{IsTrue, None, Option, Some, if◌then◌else◌}
use Rattle.std.specs.List.{fold, list_all}
use Rattle.std.specs.Str.{bytes_eq}
use Rattle.std.proofs.lemmas.Bool.{and_from, and_parts, eq-eqb, eqb-true, false≢true}
use Rattle.aft_id.specs.declared.txn_id.TxnId.{TxnId}
use Rattle.aft_id.specs.TxnId.{same_id}
use Rattle.aft_keeper.specs.declared.keeper.KeeperCall.TheVariants as calls
use Rattle.aft_model.specs.declared.caller.Attempt.{Attempt}
use Rattle.aft_model.specs.declared.choice.Picked.TheVariants as picked
use Rattle.aft_model.specs.declared.door.DoorAct.{DoorAct}
use Rattle.aft_model.specs.declared.door.DoorAct.TheVariants as doors
use Rattle.aft_model.specs.declared.node.NodeAct.{NodeAct}
use Rattle.aft_model.specs.declared.node.NodeAct.TheVariants as acts
use Rattle.aft_model.specs.declared.node.NodeEntry.{NodeEntry}
use Rattle.aft_model.specs.declared.reply.Reply.{Reply}
use Rattle.aft_model.specs.declared.script.Command.TheVariants.{Get}
use Rattle.aft_model.specs.Attempts.{ends_fetch, same_attempt}
use Rattle.aft_model.specs.Membership.{incarnation, same_incarnation}
use Rattle.aft_model.specs.NodeState.{node_state}
use Rattle.aft_model.specs.Readings.{version_name}
use Rattle.aft_model.proofs.Histories.{In}
use Rattle.aft_model.proofs.Ids.{same_id-refl}
use Rattle.aft_model.proofs.Sights.{bytes_eq-refl}
use Rattle.aft_lines.specs.Advance.{advance, advanced, closed_by, fetched_by, got_with, if_so, leads_to}
use Rattle.aft_lines.specs.CourseWords.{Ends, answers_down, caller_of}
use Rattle.aft_lines.specs.GetCourse.{ends_get, loses}
use Rattle.aft_lines.specs.Holding.{picks_fetch}
use Rattle.aft_lines.specs.Progress.{Fetching, HasFetched, IsOver, NotBegun, Progress, Stopped, has_ended}
use Rattle.aft_lines.specs.Turns.{AtDoor, AtNode, AtOffice, Turn}
use Rattle.law_attempts.specs.Acts.{acts_on}
use Rattle.law_attempts.proofs.Newest.{acts_of_own}
use Rattle.law_attempts.proofs.Standing.{same_itself}
use Rattle.law_runs.proofs.Walks.{IsLegalTurn, from_nowhere, stands_in}
use Rattle.law_held.specs.Fetching.{Fetch, ends_this, fetch_at}

-- ---- a turn at a node

-- a fetch that stands behind the turn was picked by it; and a fetch that it ends is the one that stood before it
abbrev pub NodeIf : Option Fetch → NodeAct → Option Progress → Type 0
NodeIf was act None = Unit {0}
NodeIf was act (Some next) =
    ((f : Fetch) → fetch_at next ≡ Some f → IsTrue (picks_fetch f.attempt f.key f.id act)) × ((a : Attempt) → IsTrue (ends_fetch a act) → (f : Fetch) × (was ≡ Some f) × IsTrue (ends_this f act))

pick_itself : (a : Attempt) (key : List ℕ) (id : TxnId) → IsTrue (same_attempt a a && bytes_eq key key && same_id id id)
pick_itself a key id = and_from (same_attempt a a && bytes_eq key key) (same_id id id) (and_from (same_attempt a a) (bytes_eq key key) (same_itself a) (bytes_eq-refl key)) (same_id-refl id)

no_fetch : (f : Fetch) (act : NodeAct) → None ≡ Some f → IsTrue (picks_fetch f.attempt f.key f.id act)
no_fetch f act is = absurd (cc)

first_gets : (act : NodeAct) → NodeIf None act (got_with act)
first_gets acts.Nothing = (λ f is. no_fetch f acts.Nothing is, λ a is. absurd (false≢true is))
first_gets (acts.Select a key (picked.Fetch id)) = (
  λ f is. (let same : record { attempt = a; key = key; id = id } ≡ f = cc in subst (λ (g : Fetch). IsTrue (picks_fetch g.attempt g.key g.id (acts.Select a key (picked.Fetch id)))) same (pick_itself a key id)),
  λ b is. absurd (false≢true is),
)
first_gets (acts.Select a key pick) = (λ f is. no_fetch f (acts.Select a key pick) is, λ b is. absurd (false≢true is))
first_gets act = tt

pub down_ends : (act : NodeAct) (answer : Option Reply) (a : Attempt) → IsTrue (answers_down act answer) → IsTrue (ends_fetch a act) → ⊥
down_ends acts.Nothing answer a down ends = false≢true ends
down_ends act answer a down ends = false≢true down

module _ (ends : Ends) (at : ℕ) (history : List NodeEntry) (entry : NodeEntry) where
  closed_gets : (f : Fetch) (test : NodeAct → Option Reply → Bool) → (IsTrue (test entry.act entry.answer) → IsTrue (ends_this f entry.act)) → NodeIf (Some f) entry.act (closed_by ends f.attempt test (AtNode at history entry))
  closed_gets f test each = cases (not (eqb f.attempt.node at)) (test entry.act entry.answer) refl (answers_down entry.act entry.answer && ends.is_left f.attempt.inc (node_state history)) refl
    where
      cases : (away passed : Bool) → test entry.act entry.answer ≡ passed → (left : Bool) → (answers_down entry.act entry.answer && ends.is_left f.attempt.inc (node_state history)) ≡ left
          → NodeIf (Some f) entry.act (if away then None else if passed then Some IsOver else if left then Some (Stopped f.attempt) else None)
      cases true passed is left so = tt
      cases false true is left so = (λ g none. no_fetch g entry.act none, λ a its. (f, refl, each is))
      cases false false is true so = (λ g none. no_fetch g entry.act none, λ a its. absurd (down_ends entry.act entry.answer a (and_parts (answers_down entry.act entry.answer) (ends.is_left f.attempt.inc (node_state history)) so).0 its))
      cases false false is false so = tt

loses_this : (a : Attempt) (key : List ℕ) (id : TxnId) (act : NodeAct) (answer : Option Reply) → IsTrue (loses a key id act answer) → IsTrue (ends_this (record { attempt = a; key = key; id = id }) act)
loses_this a key id (acts.Lost b got at) answer is = (and_parts (same_attempt a b && bytes_eq key got && same_id id at) _ is).0
loses_this a key id act answer is = absurd (false≢true is)

gets_this : (a : Attempt) (key : List ℕ) (id : TxnId) (place : ℕ) (act : NodeAct) (answer : Option Reply) → IsTrue (ends_get a key id place act answer) → IsTrue (ends_this (record { attempt = a; key = key; id = id }) act)
gets_this a key id place (acts.Value b got at found kept) answer is = (and_parts (same_attempt a b && bytes_eq key got && same_id id at) _ is).0
gets_this a key id place (acts.Lost b got at) answer is = is
gets_this a key id place act answer is = absurd (false≢true is)

pub node_gets : (key nodes : List ℕ) (ends : Ends) (position : Progress) (at : ℕ) (history : List NodeEntry) (entry : NodeEntry) → NodeIf (fetch_at position) entry.act (advance (Get key) nodes ends position (AtNode at history entry))
node_gets key nodes ends NotBegun at history entry = first_gets entry.act
node_gets key nodes ends (Fetching a its id) at history entry = closed_gets ends at history entry (record { attempt = a; key = its; id = id }) (loses a its id) (loses_this a its id entry.act entry.answer)
node_gets key nodes ends (HasFetched a its id place) at history entry = closed_gets ends at history entry (record { attempt = a; key = its; id = id }) (ends_get a its id place) (gets_this a its id place entry.act entry.answer)
node_gets key nodes ends position at history entry = tt

-- ---- a turn at the door

-- a fetch that stands behind the turn stood before it
abbrev pub DoorIf : Option Fetch → Option Progress → Type 0
DoorIf was None = Unit {0}
DoorIf was (Some next) = (f : Fetch) → fetch_at next ≡ Some f → was ≡ Some f

fetched_gets : (ends : Ends) (a : Attempt) (key : List ℕ) (id : TxnId) (place : ℕ) (act : DoorAct) → DoorIf (fetch_at (Fetching a key id)) (fetched_by ends a key id (AtDoor place act))
fetched_gets ends a key id place (doors.Call node inc (calls.Get name) answer) = cases (same_incarnation (caller_of a) (incarnation node inc) && bytes_eq (version_name key id) name)
  where
    cases : (b : Bool) → DoorIf (fetch_at (Fetching a key id)) (if_so b (HasFetched a key id place))
    cases true = λ f is. is
    cases false = tt
fetched_gets ends a key id place act = tt

pub door_gets : (key nodes : List ℕ) (ends : Ends) (position : Progress) (place : ℕ) (act : DoorAct) → DoorIf (fetch_at position) (advance (Get key) nodes ends position (AtDoor place act))
door_gets key nodes ends NotBegun place act = tt
door_gets key nodes ends (Fetching a its id) place act = fetched_gets ends a its id place act
door_gets key nodes ends (HasFetched a its id from) place act = tt
door_gets key nodes ends position place act = tt

-- ---- where its turns stand

-- a line goes on at the door and at the node of its attempt, or is over
abbrev Goes : Attempt → Progress → Type 0
Goes a next = ((f : Fetch) × (fetch_at next ≡ Some f) × (f.attempt ≡ a)) ⊎ IsTrue (has_ended next)

abbrev GoesIf : Attempt → Turn → Option Progress → Type 0
GoesIf a turn None = Unit {0}
GoesIf a turn (Some next) = IsTrue (stands_in a.node turn) × Goes a next

module _ (ends : Ends) where
  closed_goes : (a : Attempt) (test : NodeAct → Option Reply → Bool) (turn : Turn) → GoesIf a turn (closed_by ends a test turn)
  closed_goes a test (AtNode at history entry) = cases (eqb a.node at) refl (test entry.act entry.answer) (answers_down entry.act entry.answer && ends.is_left a.inc (node_state history))
    where
      cases : (here : Bool) → eqb a.node at ≡ here → (passed left : Bool) → GoesIf a (AtNode at history entry) (if not here then None else if passed then Some IsOver else if left then Some (Stopped a) else None)
      cases false is passed left = tt
      cases true is true left = (eq-eqb at a.node (sym (eqb-true a.node at is)), inr refl)
      cases true is false true = (eq-eqb at a.node (sym (eqb-true a.node at is)), inr refl)
      cases true is false false = tt
  closed_goes a test turn = tt

  fetched_goes : (a : Attempt) (key : List ℕ) (id : TxnId) (turn : Turn) → GoesIf a turn (fetched_by ends a key id turn)
  fetched_goes a key id (AtDoor place (doors.Call node inc (calls.Get name) answer)) = cases (same_incarnation (caller_of a) (incarnation node inc) && bytes_eq (version_name key id) name)
    where
      cases : (b : Bool) → GoesIf a (AtDoor place (doors.Call node inc (calls.Get name) answer)) (if_so b (HasFetched a key id place))
      cases true = (refl, inl (record { attempt = a; key = key; id = id }, refl, refl))
      cases false = tt
  fetched_goes a key id turn = closed_goes a (loses a key id) turn

  line_goes : (key nodes : List ℕ) (position : Progress) (turn : Turn) (f : Fetch) → fetch_at position ≡ Some f → GoesIf f.attempt turn (advance (Get key) nodes ends position turn)
  line_goes key nodes (Fetching a its id) turn f is = (let same : a ≡ f.attempt = (let e : record { attempt = a; key = its; id = id } ≡ f = cc in ap (λ (g : Fetch). g.attempt) e) in subst (λ (x : Attempt). GoesIf x turn (fetched_by ends a its id turn)) same (fetched_goes a its id turn))
  line_goes key nodes (HasFetched a its id place) turn f is = (let same : a ≡ f.attempt = (let e : record { attempt = a; key = its; id = id } ≡ f = cc in ap (λ (g : Fetch). g.attempt) e) in subst (λ (x : Attempt). GoesIf x turn (closed_by ends a (ends_get a its id place) turn)) same (closed_goes a (ends_get a its id place) turn))
  line_goes key nodes position turn f is = absurd (let e : None ≡ Some f = is in cc)

  pub ended_none : (key nodes : List ℕ) (position : Progress) (turn : Turn) → IsTrue (has_ended position) → advance (Get key) nodes ends position turn ≡ None
  ended_none key nodes IsOver turn is = refl
  ended_none key nodes (Stopped a) turn is = refl
  ended_none key nodes position turn is = absurd (false≢true is)

  module _ (key nodes : List ℕ) where
    abbrev go : Progress → Turn → Option Progress
    go = advance (Get key) nodes ends

    walk : (a : Attempt) (line : List Turn) (position p : Progress) → Goes a position → fold (advanced go) (Some position) line ≡ Some p → IsTrue (list_all (stands_in a.node) line)
    walk a [] position p goes e = refl
    walk a (turn ∷ line) position p (inr over) e = absurd (from_nowhere go line p (subst (λ (o : Option Progress). fold (advanced go) o line ≡ Some p) (ended_none key nodes position turn over) e))
    walk a (turn ∷ line) position p (inl at) e = next (go position turn) (subst (λ (x : Attempt). GoesIf x turn (go position turn)) at.2 (line_goes key nodes position turn at.0 at.1)) (λ q so e'. walk a line q p so e') e
      where
        next : (o : Option Progress) → GoesIf a turn o → ((q : Progress) → Goes a q → fold (advanced go) (Some q) line ≡ Some p → IsTrue (list_all (stands_in a.node) line)) → fold (advanced go) o line ≡ Some p → IsTrue (list_all (stands_in a.node) (turn ∷ line))
        next None so rest e' = absurd (from_nowhere go line p e')
        next (Some q) so rest e' = and_from (stands_in a.node turn) (list_all (stands_in a.node) line) so.0 (rest q so.1 e')

    -- the first turn
    abbrev FirstIf : NodeAct → Option Progress → Type 0
    FirstIf act None = Unit {0}
    FirstIf act (Some q) = IsTrue (has_ended q) ⊎ ((f : Fetch) × (fetch_at q ≡ Some f) × IsTrue (acts_on f.attempt act))

    first_goes : (act : NodeAct) → FirstIf act (got_with act)
    first_goes acts.Nothing = inl refl
    first_goes (acts.Select a its (picked.Fetch id)) = inr (record { attempt = a; key = its; id = id }, refl, same_itself a)
    first_goes (acts.Select a its pick) = inl refl
    first_goes act = tt

    pub gets_place : (capacity : ℕ) (line : List Turn) (p : Progress) → leads_to (Get key) nodes ends line ≡ Some p → ((x : Turn) → In x line → IsLegalTurn capacity x) → (node : ℕ) × IsTrue (list_all (stands_in node) line)
    gets_place capacity [] p e legal = (0, refl)
    gets_place capacity (AtDoor place act ∷ line) p e legal = absurd (from_nowhere go line p e)
    gets_place capacity (AtOffice history entry ∷ line) p e legal = absurd (from_nowhere go line p e)
    gets_place capacity (AtNode at history entry ∷ line) p e legal =
        (at, and_from (eqb at at) (list_all (stands_in at) line) (eq-eqb at at refl) (next (got_with entry.act) (first_goes entry.act) e))
      where
        next : (o : Option Progress) → FirstIf entry.act o → fold (advanced go) o line ≡ Some p → IsTrue (list_all (stands_in at) line)
        next None first e' = absurd (from_nowhere go line p e')
        next (Some q) (inl over) e' = walk (record { node = at; inc = 0; number = 0 }) line q p (inr over) e'
        next (Some q) (inr first) e' =
            let its : first.0.attempt.node ≡ at = (acts_of_own at capacity first.0.attempt history entry (legal (AtNode at history entry) (inl refl)) first.2).0 in
            subst (λ (n : ℕ). IsTrue (list_all (stands_in n) line)) its (walk first.0.attempt line q p (inl (first.0, first.1, refl)) e')
