-- In a run no full marker is put while a copier is up.
use Rattle.std.proofs.Common.{◌≡◌, ℕ, suc, Bool, false, ◌&&◌, ◌||◌, not, List, [], ◌∷◌, ◌++◌, ◌+◌, ◌≤◌, length, refl, ap, subst, ◌∙◌, ◌⊎◌, inl, inr, eqb, arith, append_assoc}
use Rattle.std.specs.Prelude.{IsTrue, if◌then◌else◌}
use Rattle.std.proofs.lemmas.Bool.{and_parts, cases_Bool, eqb-true, false≢true, ne_eqb, or_cases, or_left, or_right}
use Rattle.aft_id.specs.declared.txn_id.TxnId.{TxnId}
use Rattle.aft_keeper.specs.declared.keeper.KeeperCall.TheVariants as calls
use Rattle.aft_keeper.specs.declared.keeper.Pair.{Pair}
use Rattle.aft_records.specs.declared.stored.Commit.{Commit}
use Rattle.aft_model.specs.declared.door.DoorAct.{DoorAct}
use Rattle.aft_model.specs.declared.door.DoorAct.TheVariants as doors
use Rattle.aft_model.specs.declared.door.DoorEntry.{DoorEntry}
use Rattle.aft_model.specs.declared.node.NodeEntry.{NodeEntry}
use Rattle.aft_model.specs.Claims.{given_up, gives_up}
use Rattle.aft_model.specs.Committed.{marks_in}
use Rattle.aft_model.specs.DoorRules.{may_put}
use Rattle.aft_model.specs.History.{each_after}
use Rattle.aft_model.specs.LegalDoor.{may_come, may_follow}
use Rattle.aft_model.specs.Membership.{Incarnation, incarnation, is_up, same_incarnation, the_office, ups}
use Rattle.aft_model.specs.Opening.{has_failed, may_read}
use Rattle.aft_model.proofs.Histories.{In, all_at, any_found, each_after_split}
use Rattle.aft_model.proofs.Turns.{by_rule}
use Rattle.aft_lines.specs.Asked.{Asked, Ran}
use Rattle.aft_lines.specs.BackupCourse.{copier}
use Rattle.aft_lines.specs.LegalTrace.{backs_give_up, is_backed_at, some_after}
use Rattle.aft_lines.specs.LineView.{history_at}
use Rattle.law_runs.specs.Runs.{Goes}
use Rattle.law_runs.proofs.Come.{most_nodes}
use Rattle.law_runs.proofs.Retires.{backed, each_from, gave_up, history_same, split_at}
use Rattle.law_steps.specs.Histories.{history_in}
use Rattle.law_held.specs.Copies.{MarksBesideNone, has_copier, marks_beside_none}

-- a node past the last one has done nothing
none_past : (number first : ℕ) (histories : List (List NodeEntry)) → first + length histories ≤ number → history_in number first histories ≡ []
none_past number first [] past = refl
none_past number first (history ∷ histories) past =
    ap (λ (b : Bool). if b then history else history_in number (suc first) histories) (ne_eqb number first (λ same. (let p : first + suc (length histories) ≤ number = past in let s : number ≡ first = same in omega arith)))
    ∙ none_past number (suc first) histories (let p : first + suc (length histories) ≤ number = past in omega arith)

some_or_none : {A : Type 0} (xs : List A) → ((x : A) × In x xs) ⊎ IsTrue (eqb (length xs) 0)
some_or_none [] = inr refl
some_or_none (x ∷ xs) = inl (x, inl refl)

module _ (asked : Asked) (ran : Ran) (so : Goes asked ran) where
  -- no copier gives an id up at the door, since it is no node
  gives_none : (h more : List DoorEntry) → ran.trace.door ≡ h ++ more → (who : Incarnation) (id : TxnId) → who.node ≡ copier → IsTrue (given_up who id h) → ⊥
  gives_none h more whole who id of given =
      let found = any_found (λ (x : DoorEntry). gives_up who id x.act) h given in
      let cut = split_at found.0 h found.1 in
      let all : ran.trace.door ≡ cut.0 ++ found.0 ∷ (cut.1 ++ more) = whole ∙ (ap (λ (l : List DoorEntry). l ++ more) cut.2 ∙ append_assoc cut.0 (found.0 ∷ cut.1) more) in
      let rules = each_after_split (λ (b : List DoorEntry) (x : DoorEntry). is_backed_at ran.trace.nodes x.by (length b) x.act) [] cut.0 (found.0 ∷ (cut.1 ++ more))
      (subst (λ (d : List DoorEntry). IsTrue (each_after (λ (b : List DoorEntry) (x : DoorEntry). is_backed_at ran.trace.nodes x.by (length b) x.act) [] d)) all so.give_ups) in
      let back = (and_parts (is_backed_at ran.trace.nodes found.0.by (length cut.0) found.0.act) (each_after (λ (b : List DoorEntry) (x : DoorEntry). is_backed_at ran.trace.nodes x.by (length b) x.act) (cut.0 ++ found.0 ∷ []) (cut.1 ++ more)) rules.1).0 in
      let some = any_found (some_after (backs_give_up found.0.by who.inc id (length cut.0)) []) (history_at who.node ran.trace.nodes) (backed ran.trace.nodes found.0.by (length cut.0) who id found.0.act found.2 back) in
      let empty : some.0 ≡ [] = history_same some.0 who.node ran.trace.nodes some.1 ∙ (ap (λ (n : ℕ). history_in n 1 ran.trace.nodes) of ∙ none_past copier 1 ran.trace.nodes (let most = most_nodes asked ran so in omega arith)) in
      false≢true (subst (λ (l : List NodeEntry). IsTrue (some_after (backs_give_up found.0.by who.inc id (length cut.0)) [] l)) empty some.2)

  module _ (h : List DoorEntry) (entry : DoorEntry) (more : List DoorEntry) (whole : ran.trace.door ≡ h ++ entry ∷ more) (name bytes : List ℕ) (caller : Incarnation) (may : IsTrue (may_put h caller (record { name = name; bytes = bytes }))) where
    abbrev pair : Pair
    pair = record { name = name; bytes = bytes }

    -- where a copier is up the put is of no full marker, which it would have given up
    none_marked : IsTrue (has_copier h) → (c : Commit) → In c (marks_in pair) → ⊥
    none_marked up c among =
        let found = any_found (λ (w : Incarnation). eqb w.node copier) (ups h) up in
        let of : found.0.node ≡ copier = eqb-true found.0.node copier found.2 in
        elim (or_cases (eqb found.0.node 0) (given_up found.0 c.id h) (all_at (λ (w : Incarnation). eqb w.node 0 || given_up w c.id h) found.0 (ups h) found.1 (gave_up asked ran so h name bytes caller may c among))) [
          | inl office ↦ (let zero = eqb-true found.0.node 0 office in let nine : found.0.node ≡ 9 = of in absurd (omega arith))
          | inr given ↦ gives_none h (entry ∷ more) whole found.0 c.id of given
        ]

    put_beside_none : IsTrue (not (has_copier h) || eqb (length (marks_in pair)) 0)
    put_beside_none = elim (cases_Bool (has_copier h)) [
      | inr none ↦ or_left (not (has_copier h)) (eqb (length (marks_in pair)) 0) (ap not none)
      | inl up ↦ elim (some_or_none (marks_in pair)) [
        | inl one ↦ absurd (none_marked up one.0 one.1)
        | inr none ↦ or_right (not (has_copier h)) (eqb (length (marks_in pair)) 0) none
      ]
    ]

  beside_none : (h : List DoorEntry) (entry : DoorEntry) (more : List DoorEntry) → ran.trace.door ≡ h ++ entry ∷ more → (act : DoorAct) → IsTrue (may_come h act) ⊎ IsTrue (may_read h act) → IsTrue (marks_beside_none h act)
  beside_none h entry more whole (doors.Call node inc (calls.Put name bytes) answer) (inr read) = absurd (false≢true (and_parts (same_incarnation the_office (incarnation node inc) && not (has_failed h)) false read).1)
  beside_none h entry more whole (doors.Call node inc (calls.Put name bytes) answer) (inl come') =
      put_beside_none h entry more whole name bytes (incarnation node inc) (and_parts (is_up (incarnation node inc) h) (may_put h (incarnation node inc) (record { name = name; bytes = bytes })) come').1
  beside_none h entry more whole act rule = refl

  pub marks_stand_alone : MarksBesideNone ran.trace.door
  marks_stand_alone = each_from (λ (h : List DoorEntry) (x : DoorEntry). marks_beside_none h x.act) ran.trace.door [] ran.trace.door refl (λ h x more whole.
      beside_none h x more whole x.act (by_rule h x (and_parts (may_follow h x) (each_after may_follow (h ++ x ∷ []) more) (each_after_split may_follow [] h (x ∷ more) (subst (λ (d : List DoorEntry). IsTrue (each_after may_follow [] d)) whole so.door)).1).0).1)
