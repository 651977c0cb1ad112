-- Where an upgrade came to its end, the record of each commit is surely there, in one text of the second format.
use Rattle.std.proofs.Common.{Bool, List, [], ap, eqb, false, inl, inr, length, refl, subst, sym, true, ℕ, ◌&&◌, ◌++◌, ◌∙◌, ◌∷◌, ◌≡◌}
use Rattle.std.specs.Prelude.{IsTrue, None, Option, Some, if◌then◌else◌}
use Rattle.std.specs.List.{list_any}
use Rattle.std.specs.Str.{bytes_eq}
use Rattle.std.proofs.lemmas.Bool.{false_from_ne_true, false≢true}
use Rattle.aft_keeper.specs.declared.keeper.KeeperAnswer.TheVariants as answers
use Rattle.aft_keeper.specs.declared.keeper.KeeperCall.TheVariants.{Get, Put}
use Rattle.aft_keeper.specs.declared.keeper.Pair.{Pair}
use Rattle.aft_records.specs.declared.stored.Commit.{Commit}
use Rattle.aft_records.specs.declared.stored.Record.{Record}
use Rattle.aft_records.specs.Commits.{is_among, same_commit}
use Rattle.aft_model.specs.declared.door.DoorAct.{DoorAct}
use Rattle.aft_model.specs.declared.door.DoorAct.TheVariants.{Call}
use Rattle.aft_model.specs.declared.door.DoorEntry.{DoorEntry}
use Rattle.aft_model.specs.Committed.{Committed, committed, committed_by}
use Rattle.aft_model.specs.Honest.{Honest}
use Rattle.aft_model.specs.MayHold.{MayHold, OneOf, may_hold}
use Rattle.aft_model.specs.Readings.{first_format_in, is_record_of, record_name, records_in, same_record, written_in}
use Rattle.aft_model.proofs.Formats.{written_is}
use Rattle.aft_model.proofs.Histories.{In, any_found, any_from, in_append, in_back, in_front}
use Rattle.aft_model.proofs.Sights.{bytes_eq-refl, read-one, same_bytes}
use Rattle.aft_lines.specs.CommitCourse.{is_written_as}
use Rattle.aft_lines.specs.UpgradeCourse.{upgraded}
use Rattle.aft_lines.specs.UpgradeTrace.{is_second_format_of}
use Rattle.law_effects.specs.Effects.{Effect, Leaves, Shows, Writes, after_effect, effect_of, sight_effect}
use Rattle.law_effects.proofs.Follows.{follows}
use Rattle.law_kept.specs.Outcomes.{MayBe, outcomes}
use Rattle.law_kept.proofs.Fates.{shown_before}
use Rattle.law_kept.proofs.Gone.{flat_map_in}
use Rattle.law_refused.proofs.Each.{not_empty}
use Rattle.aft_records.specs.Reading.{commit_of}

abbrev pub pair_of : List ℕ → List ℕ → Pair
pair_of name bytes = record { name = name; bytes = bytes }

-- the name of a commit's record surely holds one text, which is its record in the second format; and the commit is acknowledged or shown
pub record Sure (c : Commit) (history : List DoorEntry) : Type 0 where
  pub bytes : List ℕ
  pub only : may_hold (record_name c.id.uuid) history ≡ OneOf (Some bytes ∷ [])
  pub second : IsTrue (is_second_format_of c bytes)
  pub committed : Committed c history

-- ---- one entry more

committed_on : (c : Commit) (history more : List DoorEntry) → Committed c history → Committed c (history ++ more)
committed_on c history more is =
    let found = any_found (same_commit c) (committed history) is in
    any_from (same_commit c) found.0 (committed (history ++ more)) (flat_map_on history more found.0 found.1) found.2
  where
    flat_map_on : (xs ys : List DoorEntry) (d : Commit) → In d (committed xs) → In d (committed (xs ++ ys))
    flat_map_on [] ys d among = absurd among
    flat_map_on (x ∷ xs) ys d among = elim (in_append d (committed_by x) (committed xs) among) [
      | inl here ↦ in_front d (committed_by x) (committed (xs ++ ys)) here
      | inr later ↦ in_back d (committed_by x) (committed (xs ++ ys)) (flat_map_on xs ys d later)
    ]

-- what an entry leaves alone is as it was
sure_left : (d : Commit) (history : List DoorEntry) (entry : DoorEntry) → effect_of (record_name d.id.uuid) entry.act ≡ Leaves → Sure d history → Sure d (history ++ entry ∷ [])
sure_left d history entry leaves was = record {
  bytes = was.bytes;
  only = follows (record_name d.id.uuid) history entry ∙ ap (λ (e : Effect). after_effect e (may_hold (record_name d.id.uuid) history)) leaves ∙ was.only;
  second = was.second;
  committed = committed_on d history (entry ∷ []) was.committed;
}

-- what is shown of it is its text
sure_text : (d : Commit) (history : List DoorEntry) (entry : DoorEntry) (bytes : List ℕ) → Honest (history ++ entry ∷ []) → (was : Sure d history) → effect_of (record_name d.id.uuid) entry.act ≡ Shows (Some bytes) → bytes ≡ was.bytes
sure_text d history entry bytes honest was shows =
    elim (subst (λ (m : MayHold). In (Some bytes) (outcomes m)) was.only (shown_before history entry (record_name d.id.uuid) honest known (Some bytes) shows)) [
      | inl is ↦ same is
      | inr none ↦ absurd none
    ]
  where
    known : (outcome : Option (List ℕ)) × MayBe (record_name d.id.uuid) history outcome
    known = (Some was.bytes, subst (λ (m : MayHold). In (Some was.bytes) (outcomes m)) (sym was.only) (inl refl))

    same : Some bytes ≡ Some was.bytes → bytes ≡ was.bytes
    same e = cc

module _ (history : List DoorEntry) (entry : DoorEntry) (node inc : ℕ) (name bytes : List ℕ) (is : entry.act ≡ Call node inc (Get name) (answers.Found bytes)) (honest : Honest (history ++ entry ∷ [])) where
  got_effect : (other : List ℕ) → effect_of other entry.act ≡ sight_effect (if bytes_eq other name then Some (Some bytes) else None)
  got_effect other = ap (effect_of other) is

  pub sure_got : (d : Commit) → Sure d history → Sure d (history ++ entry ∷ [])
  sure_got d was = cases (bytes_eq (record_name d.id.uuid) name) refl
    where
      cases : (t : Bool) → bytes_eq (record_name d.id.uuid) name ≡ t → Sure d (history ++ entry ∷ [])
      cases false other = sure_left d history entry (got_effect (record_name d.id.uuid) ∙ ap (λ (t : Bool). sight_effect (if t then Some (Some bytes) else None)) other) was
      cases true same =
          let shows : effect_of (record_name d.id.uuid) entry.act ≡ Shows (Some bytes) = got_effect (record_name d.id.uuid) ∙ ap (λ (t : Bool). sight_effect (if t then Some (Some bytes) else None)) same in
          let text = sure_text d history entry bytes honest was shows in
          record {
            bytes = bytes;
            only = follows (record_name d.id.uuid) history entry ∙ ap (λ (e : Effect). after_effect e (may_hold (record_name d.id.uuid) history)) shows;
            second = subst (λ (b : List ℕ). IsTrue (is_second_format_of d b)) (sym text) was.second;
            committed = committed_on d history (entry ∷ []) was.committed;
          }

  -- a record that was shown is committed
  pub got_committed : (c : Commit) → record_name c.id.uuid ≡ name → IsTrue (is_record_of c (pair_of (record_name c.id.uuid) bytes)) → Committed c (history ++ entry ∷ [])
  got_committed c named its =
      let found = any_found (same_commit c) (records_in (pair_of (record_name c.id.uuid) bytes)) its in
      any_from (same_commit c) found.0 (committed (history ++ entry ∷ []))
      (flat_map_in (λ (e : DoorEntry). committed_by e) found.0 entry (history ++ entry ∷ []) (in_back entry history (entry ∷ []) (inl refl)) (by_it found.0 found.1)) found.2
    where
      by_it : (d : Commit) → In d (records_in (pair_of (record_name c.id.uuid) bytes)) → In d (committed_by entry)
      by_it d among = subst (λ (act : DoorAct). In d (committed_by (record { by = entry.by; act = act }))) (sym is) (in_front d (records_in (pair_of name bytes)) [] (subst (λ (n : List ℕ). In d (records_in (pair_of n bytes))) named among))

  -- a record of the second format that was shown is surely there
  pub got_sure : (c : Commit) → record_name c.id.uuid ≡ name → IsTrue (is_second_format_of c bytes) → IsTrue (is_record_of c (pair_of (record_name c.id.uuid) bytes)) → Sure c (history ++ entry ∷ [])
  got_sure c named second its = record {
    bytes = bytes;
    only = follows (record_name c.id.uuid) history entry ∙ ap (λ (e : Effect). after_effect e (may_hold (record_name c.id.uuid) history)) (got_effect (record_name c.id.uuid) ∙ ap (λ (t : Bool). sight_effect (if t then Some (Some bytes) else None)) (subst (λ (n : List ℕ). bytes_eq (record_name c.id.uuid) n ≡ true) named (bytes_eq-refl (record_name c.id.uuid))));
    second = second;
    committed = got_committed c named its;
  }

  -- a record that is there in the second format isn't shown in the first
  pub not_first : (d : Commit) → Sure d history → (c : Commit) → record_name c.id.uuid ≡ name → IsTrue (is_among c (first_format_in (pair_of (record_name c.id.uuid) bytes))) → bytes_eq (record_name d.id.uuid) name ≡ false
  not_first d was c named first = false_from_ne_true (bytes_eq (record_name d.id.uuid) name) (λ same.
      let shows : effect_of (record_name d.id.uuid) entry.act ≡ Shows (Some bytes) = got_effect (record_name d.id.uuid) ∙ ap (λ (t : Bool). sight_effect (if t then Some (Some bytes) else None)) same in
      let text = sure_text d history entry bytes honest was shows in
      let one : record_name c.id.uuid ≡ record_name d.id.uuid = named ∙ sym (same_bytes (record_name d.id.uuid) name same) in
      let written = any_found (λ (r : Record). same_commit d r.commit) (written_in (pair_of (record_name d.id.uuid) was.bytes)) was.second in
      let there : In written.0 (written_in (pair_of (record_name c.id.uuid) bytes)) = subst (λ (n : List ℕ). In written.0 (written_in (pair_of n bytes))) (sym one) (subst (λ (b : List ℕ). In written.0 (written_in (pair_of (record_name d.id.uuid) b))) (sym text) written.1) in
      no_first (written_in (pair_of (record_name c.id.uuid) bytes)) written.0 there (records_in (pair_of (record_name c.id.uuid) bytes)) c first)
    where
      no_first : (ws : List Record) (r : Record) → In r ws → (cs : List Commit) (c : Commit) → IsTrue (is_among c (if eqb (length ws) 0 then cs else [])) → ⊥
      no_first [] r none cs c' first' = none
      no_first (w ∷ ws) r among cs c' first' = false≢true (subst (λ (t : Bool). IsTrue (is_among c' (if t then cs else []))) (false_from_ne_true (eqb (length (w ∷ ws)) 0) (λ e. not_empty w ws e)) first')

-- a commit's record that is shown, and not in the first format, is shown in the second
pub second_shown : (c : Commit) (name bytes : List ℕ) → IsTrue (is_record_of c (pair_of name bytes)) → is_among c (first_format_in (pair_of name bytes)) ≡ false → IsTrue (list_any (λ (r : Record). same_commit c r.commit) (written_in (pair_of name bytes)))
second_shown c name bytes its first = cases (written_in (pair_of name bytes)) refl
  where
    cases : (ws : List Record) → written_in (pair_of name bytes) ≡ ws → IsTrue (list_any (λ (r : Record). same_commit c r.commit) (written_in (pair_of name bytes)))
    cases [] none = absurd (false≢true (sym first ∙ ap (λ (ws : List Record). is_among c (if eqb (length ws) 0 then records_in (pair_of name bytes) else [])) none ∙ its))
    cases (w ∷ ws) some =
        let among : In w (written_in (pair_of name bytes)) = subst (λ (l : List Record). In w l) (sym some) (inl refl) in
        let found = any_found (same_commit c) (records_in (pair_of name bytes)) its in
        let same : found.0 ≡ w.commit = read-one name (λ (d : Commit). record_name d.id.uuid) (commit_of bytes) found.0 w.commit found.1 (written_is (pair_of name bytes) w among) in
        any_from (λ (r : Record). same_commit c r.commit) w (written_in (pair_of name bytes)) among (subst (λ (d : Commit). IsTrue (same_commit c d)) same found.2)

-- an acknowledged put of the record in the second format
module _ (history : List DoorEntry) (entry : DoorEntry) (node inc : ℕ) (name bytes : List ℕ) (is : entry.act ≡ Call node inc (Put name bytes) answers.Done) where
  pub put_sure : (c : Commit) → record_name c.id.uuid ≡ name → IsTrue (is_written_as (upgraded c) (pair_of name bytes)) → Committed c history → Sure c (history ++ entry ∷ [])
  put_sure c named written was = record {
    bytes = bytes;
    only = follows (record_name c.id.uuid) history entry
        ∙ ap (λ (e : Effect). after_effect e (may_hold (record_name c.id.uuid) history)) (ap (effect_of (record_name c.id.uuid)) is ∙ ap (λ (t : Bool). if t then Writes (Some bytes) else Leaves) (subst (λ (n : List ℕ). bytes_eq (record_name c.id.uuid) n ≡ true) named (bytes_eq-refl (record_name c.id.uuid))));
    second = (let found = any_found (same_record (upgraded c)) (written_in (pair_of name bytes)) written in any_from (λ (r : Record). same_commit c r.commit) found.0 (written_in (pair_of (record_name c.id.uuid) bytes)) (subst (λ (n : List ℕ). In found.0 (written_in (pair_of n bytes))) (sym named) found.1) (its_commit found.0 found.2));
    committed = committed_on c history (entry ∷ []) was;
  }
    where
      its_commit : (r : Record) → IsTrue (same_record (upgraded c) r) → IsTrue (same_commit c r.commit)
      its_commit r same = four (same_commit c r.commit) _ _ _ same
        where
          four : (a b d e : Bool) → IsTrue (a && b && d && e) → IsTrue a
          four true b d e so = refl
          four false b d e so = so

  pub put_leaves : (d : Commit) → bytes_eq (record_name d.id.uuid) name ≡ false → Sure d history → Sure d (history ++ entry ∷ [])
  put_leaves d other was = sure_left d history entry (ap (effect_of (record_name d.id.uuid)) is ∙ ap (λ (t : Bool). if t then Writes (Some bytes) else Leaves) other) was
