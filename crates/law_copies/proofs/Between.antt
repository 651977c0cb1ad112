-- Places of a history; and that no full marker is put between a copier's coming up and what it does later.
use Rattle.std.proofs.Common.{◌≡◌, ◌<◌, ◌≤◌, ◌+◌, ◌-◌, ℕ, suc, not, List, [], ◌∷◌, ◌++◌, refl, sym, ap, subst, ◌∙◌, inl, inr, arith, append_assoc, length, take, eqb}
use Rattle.std.specs.Prelude.{IsTrue}
use Rattle.std.proofs.lemmas.Bool.{and_parts, eq-eqb, or_cases, not-true, true≢false}
use Rattle.std.proofs.Math.Seq.{take-append-add}
use Rattle.aft_records.specs.declared.stored.Marker.TheVariants.{Full}
use Rattle.aft_id.specs.TxnId.{IsUuid}
use Rattle.aft_model.specs.declared.door.DoorEntry.{DoorEntry}
use Rattle.aft_model.specs.Committed.{marks_in, retired_by}
use Rattle.aft_model.specs.History.{each_after}
use Rattle.aft_model.specs.Honest.{Honest}
use Rattle.aft_model.specs.Membership.{Incarnation, is_up, same_incarnation, ups}
use Rattle.aft_model.specs.NodeSights.{comes_up, is_fenced}
use Rattle.aft_model.specs.Readings.{markers_in}
use Rattle.aft_model.proofs.Growth.{any_grows}
use Rattle.aft_model.proofs.Histories.{any_found, any_from, each_after_split}
use Rattle.aft_model.proofs.OneCommit.{same_who}
use Rattle.aft_lines.specs.Asked.{Asked, Ran}
use Rattle.aft_lines.specs.BackupCourse.{copier}
use Rattle.law_kept.specs.Kept.{Lawful}
use Rattle.law_kept.proofs.Always.{lawful_begins}
use Rattle.law_kept.proofs.Fates.{under}
use Rattle.law_kept.proofs.Gone.{flat_map_in}
use Rattle.law_opened.proofs.Acts.{none_of_none}
use Rattle.law_whole.proofs.Lists.{split_at}
use Rattle.law_whole.proofs.Marks.{puts_marker}
use Rattle.law_whole.proofs.Unmarked.{Unretired}
use Rattle.law_claims.proofs.Fenced.{fenced_down, fenced_more}
use Rattle.law_runs.specs.Runs.{Goes}
use Rattle.law_held.specs.Copies.{has_copier, marks_beside_none}
use Rattle.law_held.proofs.Copies.{marks_stand_alone}
use Rattle.law_held.proofs.Serving.{Came, came_up}
use Rattle.law_promise.proofs.Doors.{lawful_door}

-- ---- lists

-- a list parted at two of its places
pub parted : {A : Type 0} (before : List A) (x : A) (after before' : List A) (x' : A) (after' : List A) → before ++ x ∷ after ≡ before' ++ x' ∷ after' → length before < length before' → (more : List A) × (before' ≡ before ++ x ∷ more)
parted before x after [] x' after' same less = absurd (omega arith)
parted {A} [] x after (y ∷ before') x' after' same less = (before', ap (λ (z : A). z ∷ before') (let h : y ≡ x = cc in h))
parted {A} (y ∷ before) x after (y' ∷ before') x' after' same less =
    let rest = parted before x after before' x' after' (let t : before ++ x ∷ after ≡ before' ++ x' ∷ after' = cc in t) (let l : suc (length before) < suc (length before') = less in omega arith) in
    (rest.0, ap (λ (z : A). z ∷ before') (let h : y' ≡ y = cc in h) ∙ ap (λ (l : List A). y ∷ l) rest.1)

-- what a part that is long enough begins with
pub begins_with : {A : Type 0} (front back : List A) (n : ℕ) → length front ≤ n → (more : List A) × (take n (front ++ back) ≡ front ++ more)
begins_with {A} front back n le =
    (take (n - length front) back, ap (λ (m : ℕ). take m (front ++ back)) (let s : n ≡ length front + (n - length front) = omega arith in s) ∙ take-append-add front back (n - length front))

-- ---- no full marker beside a copier

module _ (asked : Asked) (ran : Ran) (goes : Goes asked ran) (honest : Honest ran.trace.door) (who : Incarnation) (of : who.node ≡ copier) where
  abbrev door : List DoorEntry
  door = ran.trace.door

  module _ (start more rest : List DoorEntry) (whole : door ≡ (start ++ more) ++ rest) (came : Came who start) (up : IsTrue (is_up who (start ++ more))) where
    lawful : Lawful (start ++ more)
    lawful = lawful_begins (start ++ more) rest (subst Lawful whole (lawful_door asked ran goes honest))

    -- the copier is up at each moment between
    up_between : (front back : List DoorEntry) → more ≡ front ++ back → IsTrue (is_up who (start ++ front))
    up_between front back is =
        let all : start ++ more ≡ (start ++ front) ++ back = ap (λ (l : List DoorEntry). start ++ l) is ∙ sym (append_assoc start front back) in
        let at : Lawful (start ++ front) = lawful_begins (start ++ front) back (subst Lawful all lawful) in
        elim (came_up who (start ++ front) at.legal (any_grows (λ (e : DoorEntry). comes_up who e.act) start front came)) [
          | inl still ↦ still
          | inr fenced ↦ absurd (true≢false (sym up ∙ fenced_down who (start ++ more) lawful.legal (subst (λ (h : List DoorEntry). IsTrue (is_fenced who h)) (sym all) (fenced_more who (start ++ front) back fenced))))
        ]

    has : (history : List DoorEntry) → IsTrue (is_up who history) → IsTrue (has_copier history)
    has history is =
        let found = any_found (same_incarnation who) (ups history) is in
        any_from (λ (w : Incarnation). eqb w.node copier) found.0 (ups history) found.1 (eq-eqb found.0.node copier (ap (λ (w : Incarnation). w.node) (sym (same_who who found.0 found.2)) ∙ of))

    pub unretired : (uuid : List ℕ) (its : IsUuid uuid) → Unretired uuid its more
    unretired uuid its e among d put is_of =
        let cut = split_at e more among in
        let puts = puts_marker (Full d) e.act put in
        let h : List DoorEntry = start ++ cut.0 in
        let all : door ≡ h ++ e ∷ (cut.1 ++ rest) = whole ∙ (ap (λ (l : List DoorEntry). (start ++ l) ++ rest) cut.2 ∙ (ap (λ (l : List DoorEntry). l ++ rest) (sym (append_assoc start cut.0 (e ∷ cut.1))) ∙ append_assoc h (e ∷ cut.1) rest)) in
        let rules = each_after_split (λ (b : List DoorEntry) (x : DoorEntry). marks_beside_none b x.act) [] h (e ∷ (cut.1 ++ rest)) (subst (λ (l : List DoorEntry). IsTrue (each_after (λ (b : List DoorEntry) (x : DoorEntry). marks_beside_none b x.act) [] l)) all (marks_stand_alone asked ran goes)) in
        let rule = subst (λ act. IsTrue (marks_beside_none h act)) puts.is (and_parts (marks_beside_none h e.act) (each_after (λ (b : List DoorEntry) (x : DoorEntry). marks_beside_none b x.act) (h ++ e ∷ []) (cut.1 ++ rest)) rules.1).0 in
        elim (or_cases (not (has_copier h)) (eqb (length (marks_in (under puts.name puts.bytes))) 0) rule) [
          | inl none ↦ true≢false (sym (has h (up_between cut.0 (e ∷ cut.1) cut.2)) ∙ not-true (has_copier h) none)
          | inr empty ↦ none_of_none (marks_in (under puts.name puts.bytes)) empty d (flat_map_in retired_by d (Full d) (markers_in (under puts.name puts.bytes)) puts.reads (inl refl))
        ]
