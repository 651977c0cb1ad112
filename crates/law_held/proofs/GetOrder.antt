-- The turns of a get stand in one order: its pick, its get at the door, unless that was refused, and the end of its fetch.
use Rattle.std.proofs.Common.{◌≡◌, ℕ, Bool, true, false, ◌&&◌, not, List, [], ◌∷◌, refl, sym, ap, subst, ◌∙◌, ◌⊎◌, inl, inr, eqb}
use Rattle.std.specs.Prelude.{IsTrue, None, Option, Some, if◌then◌else◌}
use Rattle.std.specs.List.{fold}
use Rattle.std.specs.Str.{bytes_eq}
use Rattle.std.proofs.lemmas.Bool.{and_parts, false≢true}
use Rattle.aft_id.specs.declared.txn_id.TxnId.{TxnId}
use Rattle.aft_keeper.specs.declared.keeper.KeeperCall.TheVariants as calls
use Rattle.aft_model.specs.declared.caller.Attempt.{Attempt}
use Rattle.aft_model.specs.declared.choice.Picked.TheVariants as picked
use Rattle.aft_model.specs.declared.door.DoorAct.{DoorAct}
use Rattle.aft_model.specs.declared.door.DoorAct.TheVariants as doors
use Rattle.aft_model.specs.declared.node.NodeAct.{NodeAct}
use Rattle.aft_model.specs.declared.node.NodeAct.TheVariants as acts
use Rattle.aft_model.specs.declared.node.NodeEntry.{NodeEntry}
use Rattle.aft_model.specs.declared.reply.Reply.{Reply}
use Rattle.aft_model.specs.declared.script.Command.TheVariants.{Get}
use Rattle.aft_model.specs.Attempts.{ends_fetch}
use Rattle.aft_model.specs.Membership.{incarnation, same_incarnation}
use Rattle.aft_model.specs.NodeState.{node_state}
use Rattle.aft_model.specs.Readings.{version_name}
use Rattle.aft_model.proofs.Histories.{In}
use Rattle.aft_lines.specs.Advance.{advance, advanced, closed_by, fetched_by, got_with, leads_to}
use Rattle.aft_lines.specs.CourseWords.{Ends, answers_down, caller_of}
use Rattle.aft_lines.specs.GetCourse.{ends_get, loses}
use Rattle.aft_lines.specs.Progress.{Fetching, HasFetched, IsOver, Progress, Stopped, has_ended}
use Rattle.aft_lines.specs.Turns.{AtDoor, AtNode, AtOffice, Turn}
use Rattle.law_runs.proofs.Walks.{from_nowhere}
use Rattle.law_held.proofs.GetTurns.{down_ends, ended_none}

-- whether an act is a get of this version by the attempt's incarnation
abbrev pub asks_version : Attempt → List ℕ → TxnId → DoorAct → Bool
asks_version a key id (doors.Call node inc (calls.Get name) answer) = same_incarnation (caller_of a) (incarnation node inc) && bytes_eq (version_name key id) name
asks_version a key id act = false

-- the turns of a get whose fetch has ended: the pick, and the end, with the get at the door between them unless it was refused
pub record Ordered (end : Turn) (entry : NodeEntry) (line : List Turn) : Type 0 where
  pub node : ℕ
  pub before : List NodeEntry
  pub pick : NodeEntry
  pub attempt : Attempt
  pub key : List ℕ
  pub id : TxnId
  pub picks : pick.act ≡ acts.Select attempt key (picked.Fetch id)
  pub turns : ((line ≡ AtNode node before pick ∷ end ∷ []) × IsTrue (loses attempt key id entry.act entry.answer))
      ⊎ ((place : ℕ) × (act : DoorAct) × (line ≡ AtNode node before pick ∷ AtDoor place act ∷ end ∷ []) × IsTrue (asks_version attempt key id act) × IsTrue (ends_get attempt key id place entry.act entry.answer))

module _ (key nodes : List ℕ) (ends : Ends) where
  abbrev go : Progress → Turn → Option Progress
  go = advance (Get key) nodes ends

  -- one step of a line that leads somewhere
  stepped : (o : Option Progress) (line : List Turn) (p : Progress) → fold (advanced go) o line ≡ Some p → (q : Progress) × (o ≡ Some q) × (fold (advanced go) (Some q) line ≡ Some p)
  stepped None line p e = absurd (from_nowhere go line p e)
  stepped (Some q) line p e = (q, refl, e)

  -- behind the last turn none comes
  nothing_more : (q p : Progress) (line : List Turn) → IsTrue (has_ended q) → fold (advanced go) (Some q) line ≡ Some p → line ≡ []
  nothing_more q p [] over e = refl
  nothing_more q p (turn ∷ line) over e = absurd (from_nowhere go line p (subst (λ (o : Option Progress). fold (advanced go) o line ≡ Some p) (ended_none ends key nodes q turn over) e))

  -- a turn that closes a line
  closed_over : (a : Attempt) (test : NodeAct → Option Reply → Bool) (at : ℕ) (history : List NodeEntry) (e : NodeEntry) (q : Progress) → closed_by ends a test (AtNode at history e) ≡ Some q → IsTrue (has_ended q) × (IsTrue (test e.act e.answer) ⊎ IsTrue (answers_down e.act e.answer))
  closed_over a test at history e q is = cases (not (eqb a.node at)) (test e.act e.answer) refl (answers_down e.act e.answer && ends.is_left a.inc (node_state history)) refl is
    where
      cases : (away passed : Bool) → test e.act e.answer ≡ passed → (left : Bool) → (answers_down e.act e.answer && ends.is_left a.inc (node_state history)) ≡ left
          → (if away then None else if passed then Some IsOver else if left then Some (Stopped a) else None) ≡ Some q → IsTrue (has_ended q) × (IsTrue (test e.act e.answer) ⊎ IsTrue (answers_down e.act e.answer))
      cases true passed at_test left so comes = absurd (let no : None ≡ Some q = comes in cc)
      cases false true at_test left so comes = (let same : IsOver ≡ q = (let both : Some IsOver ≡ Some q = comes in cc) in (subst (λ (r : Progress). IsTrue (has_ended r)) same refl, inl at_test))
      cases false false at_test true so comes = (let same : Stopped a ≡ q = (let both : Some (Stopped a) ≡ Some q = comes in cc) in (subst (λ (r : Progress). IsTrue (has_ended r)) same refl, inr (and_parts (answers_down e.act e.answer) (ends.is_left a.inc (node_state history)) so).0))
      cases false false at_test false so comes = absurd (let no : None ≡ Some q = comes in cc)

  module _ (number : ℕ) (before : List NodeEntry) (entry : NodeEntry) (b : Attempt) (ends_it : IsTrue (ends_fetch b entry.act)) where
    abbrev end : Turn
    end = AtNode number before entry

    same_entry : (at : ℕ) (history : List NodeEntry) (e : NodeEntry) → end ≡ AtNode at history e → entry ≡ e
    same_entry at history e is = cc

    not_door : (place : ℕ) (act : DoorAct) → end ≡ AtDoor place act → ⊥
    not_door place act is = cc

    -- the turn that closes the line is the end
    closes_it : (a : Attempt) (test : NodeAct → Option Reply → Bool) (turn : Turn) (line : List Turn) (p : Progress) → fold (advanced go) (closed_by ends a test turn) line ≡ Some p → In end (turn ∷ line) → (turn ∷ line ≡ end ∷ []) × IsTrue (test entry.act entry.answer)
    closes_it a test (AtDoor place act) line p e among = absurd (from_nowhere go line p e)
    closes_it a test (AtOffice history one) line p e among = absurd (from_nowhere go line p e)
    closes_it a test (AtNode at history one) line p e among =
        let step = stepped (closed_by ends a test (AtNode at history one)) line p e in
        let closed = closed_over a test at history one step.0 step.1 in
        let none : line ≡ [] = nothing_more step.0 p line closed.0 step.2 in
        elim among [
          | inl here ↦ (ap (λ (l : List Turn). AtNode at history one ∷ l) none ∙ ap (λ (t : Turn). t ∷ []) (sym here), passed at history one here closed.1)
          | inr later ↦ absurd (subst (In end) none later)
        ]
      where
        passed : (at : ℕ) (history : List NodeEntry) (e : NodeEntry) → end ≡ AtNode at history e → IsTrue (test e.act e.answer) ⊎ IsTrue (answers_down e.act e.answer) → IsTrue (test entry.act entry.answer)
        passed at history e here (inl is) = subst (λ (x : NodeEntry). IsTrue (test x.act x.answer)) (sym (same_entry at history e here)) is
        passed at history e here (inr down) = absurd (down_ends entry.act entry.answer b (subst (λ (x : NodeEntry). IsTrue (answers_down x.act x.answer)) (sym (same_entry at history e here)) down) ends_it)

    -- behind the pick
    abbrev Behind : Attempt → List ℕ → TxnId → List Turn → Type 0
    Behind a its id line = ((line ≡ end ∷ []) × IsTrue (loses a its id entry.act entry.answer))
        ⊎ ((place : ℕ) × (act : DoorAct) × (line ≡ AtDoor place act ∷ end ∷ []) × IsTrue (asks_version a its id act) × IsTrue (ends_get a its id place entry.act entry.answer))

    behind_get : (a : Attempt) (its : List ℕ) (id : TxnId) (place : ℕ) (line : List Turn) (p : Progress) → fold (advanced go) (Some (HasFetched a its id place)) line ≡ Some p → In end line → (line ≡ end ∷ []) × IsTrue (ends_get a its id place entry.act entry.answer)
    behind_get a its id place [] p e among = absurd among
    behind_get a its id place (turn ∷ line) p e among = closes_it a (ends_get a its id place) turn line p e among

    by_door : (a : Attempt) (its : List ℕ) (id : TxnId) (place : ℕ) (act : DoorAct) (line : List Turn) (p : Progress) → fold (advanced go) (fetched_by ends a its id (AtDoor place act)) line ≡ Some p → In end line → Behind a its id (AtDoor place act ∷ line)
    by_door a its id place (doors.Call node inc (calls.Get name) answer) line p e among = cases (same_incarnation (caller_of a) (incarnation node inc) && bytes_eq (version_name its id) name) refl e
      where
        cases : (t : Bool) → (same_incarnation (caller_of a) (incarnation node inc) && bytes_eq (version_name its id) name) ≡ t → fold (advanced go) (if t then Some (HasFetched a its id place) else None) line ≡ Some p
            → Behind a its id (AtDoor place (doors.Call node inc (calls.Get name) answer) ∷ line)
        cases false is goes = absurd (from_nowhere go line p goes)
        cases true is goes = (let rest = behind_get a its id place line p goes among in inr (place, doors.Call node inc (calls.Get name) answer, ap (λ (l : List Turn). AtDoor place (doors.Call node inc (calls.Get name) answer) ∷ l) rest.0, is, rest.1))
    by_door a its id place act line p e among = absurd (from_nowhere go line p e)

    behind_pick : (a : Attempt) (its : List ℕ) (id : TxnId) (line : List Turn) (p : Progress) → fold (advanced go) (Some (Fetching a its id)) line ≡ Some p → In end line → Behind a its id line
    behind_pick a its id [] p e among = absurd among
    behind_pick a its id (AtDoor place act ∷ line) p e among = elim among [
      | inl here ↦ absurd (not_door place act here)
      | inr later ↦ by_door a its id place act line p e later
    ]
    behind_pick a its id (AtNode at history one ∷ line) p e among = inl (closes_it a (loses a its id) (AtNode at history one) line p e among)
    behind_pick a its id (AtOffice history one ∷ line) p e among = absurd (from_nowhere go line p e)

    -- the first turn doesn't end a fetch, so the end is behind it
    ends_none : (act : NodeAct) (q : Progress) → got_with act ≡ Some q → IsTrue (ends_fetch b act) → ⊥
    ends_none (acts.Value c its id place kept) q is so = absurd (let no : None ≡ Some q = is in cc)
    ends_none (acts.Lost c its id) q is so = absurd (let no : None ≡ Some q = is in cc)
    ends_none act q is so = false≢true so

    later_only : (at : ℕ) (history : List NodeEntry) (one : NodeEntry) (q : Progress) (line : List Turn) → got_with one.act ≡ Some q → In end (AtNode at history one ∷ line) → In end line
    later_only at history one q line is (inl here) = absurd (ends_none one.act q is (subst (λ (x : NodeEntry). IsTrue (ends_fetch b x.act)) (same_entry at history one here) ends_it))
    later_only at history one q line is (inr later) = later

    by_first : (at : ℕ) (history : List NodeEntry) (one : NodeEntry) (act : NodeAct) → one.act ≡ act → (line : List Turn) (p : Progress) → fold (advanced go) (got_with act) line ≡ Some p → In end (AtNode at history one ∷ line) → Ordered end entry (AtNode at history one ∷ line)
    by_first at history one (acts.Select a its (picked.Fetch id)) is line p e among =
        record {
          node = at;
          before = history;
          pick = one;
          attempt = a;
          key = its;
          id = id;
          picks = is;
          turns = elim (behind_pick a its id line p e (later_only at history one (Fetching a its id) line (ap got_with is) among)) [
            | inl refused ↦ inl (ap (λ (l : List Turn). AtNode at history one ∷ l) refused.0, refused.1)
            | inr got ↦ inr (got.0, got.1, ap (λ (l : List Turn). AtNode at history one ∷ l) got.2, got.3, got.4)
          ];
        }
    by_first at history one acts.Nothing is line p e among = absurd (subst (In end) (nothing_more IsOver p line refl e) (later_only at history one IsOver line (ap got_with is) among))
    by_first at history one (acts.Select a its pick) is line p e among = absurd (subst (In end) (nothing_more IsOver p line refl e) (later_only at history one IsOver line (ap got_with is) among))
    by_first at history one act is line p e among = absurd (from_nowhere go line p e)

    pub ordered : (line : List Turn) (p : Progress) → leads_to (Get key) nodes ends line ≡ Some p → In end line → Ordered end entry line
    ordered [] p e among = absurd among
    ordered (AtDoor place act ∷ line) p e among = absurd (from_nowhere go line p e)
    ordered (AtOffice history one ∷ line) p e among = absurd (from_nowhere go line p e)
    ordered (AtNode at history one ∷ line) p e among = by_first at history one one.act refl line p e among
