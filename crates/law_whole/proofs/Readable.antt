-- What the names of the records and the markers may hold has a reading, at the open door; so what is shown of them has one.
use Rattle.std.proofs.Common.{◌≡◌, ℕ, Bool, true, false, ◌||◌, ◌==◌, not, List, [], ◌∷◌, ◌++◌, refl, sym, ap, subst, ◌∙◌, inl, inr, append_assoc, append-nil, length, ◌&&◌, ◌+◌, ◌≤◌, eqb, arith}
use Rattle.std.specs.Prelude.{IsTrue, IsFalse, Option, Some, if◌then◌else◌, nat_eq, codes}
use Rattle.std.specs.List.{list_any, starts_with}
use Rattle.std.proofs.lemmas.Bool.{and_from, and_parts, cases_Bool, false≢true, ne_eqb, or_cases, or_left, or_parts, or_right, true≢false}
use Rattle.aft_keeper.specs.declared.keeper.Pair.{Pair}
use Rattle.aft_keeper.specs.Contents.{name_lt}
use Rattle.aft_model.specs.declared.door.DoorAct.TheVariants.{Opened}
use Rattle.aft_model.specs.declared.door.DoorEntry.{DoorEntry}
use Rattle.aft_model.specs.Bytes.{acts_bytes, are_bytes}
use Rattle.aft_model.specs.DoorKnowledge.{is_open, opens}
use Rattle.aft_model.specs.DoorRules.{may_put, may_put_marker, may_put_record, may_put_version, may_upgrade}
use Rattle.aft_model.specs.Evidence.{shown_pairs, stored_in}
use Rattle.aft_model.specs.LegalDoor.{may_come}
use Rattle.aft_model.specs.Membership.{Incarnation, incarnation, is_up}
use Rattle.aft_model.specs.Opening as opening
use Rattle.aft_model.specs.Opening.{all_shown}
use Rattle.aft_model.specs.Readings.{has_reading, markers_in, records_in, versions_in, written_in}
use Rattle.aft_model.specs.ScanRun.{is_scan_run, scan_pages}
use Rattle.aft_model.specs.Membership as membership
use Rattle.aft_model.specs.Sound.{marker_offends, markers_prefix, pair_offends, recorded, records_prefix}
use Rattle.aft_model.proofs.Formats.{written_is}
use Rattle.aft_model.proofs.Growth.{any_grows}
use Rattle.aft_model.proofs.Histories.{In, any_found, in_back}
use Rattle.aft_model.proofs.Lists.{all_from}
use Rattle.law_effects.specs.Effects.{effect_of}
use Rattle.law_effects.proofs.Pairs.{pair_proves}
use Rattle.law_kept.specs.Kept.{Comes, Lawful}
use Rattle.law_kept.specs.Outcomes.{MayBe}
use Rattle.law_kept.proofs.Always.{lawful_begins}
use Rattle.law_kept.proofs.Fates.{Known, fate, known_after, left_there, under}
use Rattle.law_kept.proofs.Steps.{Deletes, Puts, Writing, answered, come, made_act, writing}
use Rattle.law_opened.proofs.Acts.{proven_effect}
use Rattle.law_opened.proofs.Opened.{at_opening, clean, held_may, pair_made, pair_of_shown, run_shows, was_shown}
use Rattle.law_whole.specs.Readable.{is_of_ids, is_readable, shows_readable}
use Rattle.law_whole.proofs.Lists.{each_from}
use Rattle.law_whole.proofs.Throughout.{lawful_to, opening_of, opens_still}

-- ---- a reading

-- what is read as something of one of three kinds has a reading
some_counts : {A : Type 0} (x : A) (xs : List A) → In x xs → 1 ≤ length xs
some_counts x [] among = absurd among
some_counts x (y ∷ ys) among = omega arith

not_none : (n : ℕ) → 1 ≤ n → IsTrue (not (eqb n 0))
not_none n some = ap not (ne_eqb n 0 (λ none. absurd (omega arith)))

reads_record : (pair : Pair) → 1 ≤ length (records_in pair) → IsTrue (has_reading pair)
reads_record pair some = not_none (length (records_in pair) + length (markers_in pair) + length (versions_in pair)) (omega arith)

reads_marker : (pair : Pair) → 1 ≤ length (markers_in pair) → IsTrue (has_reading pair)
reads_marker pair some = not_none (length (records_in pair) + length (markers_in pair) + length (versions_in pair)) (omega arith)

reads_version : (pair : Pair) → 1 ≤ length (versions_in pair) → IsTrue (has_reading pair)
reads_version pair some = not_none (length (records_in pair) + length (markers_in pair) + length (versions_in pair)) (omega arith)

some_length : {A : Type 0} (xs : List A) → IsFalse (eqb (length xs) 0) → 1 ≤ length xs
some_length [] some = absurd (true≢false some)
some_length (x ∷ xs) some = omega arith

-- a name that begins with a prefix isn't empty
begins_some : (name prefix : List ℕ) (first : ℕ) → IsTrue (starts_with nat_eq name (first ∷ prefix)) → IsTrue (name_lt [] name)
begins_some [] prefix first begins = absurd (false≢true begins)
begins_some (x ∷ name) prefix first begins = refl

-- ---- what the names may hold

-- what a name may hold is known, and each text of it is made of bytes and has a reading
abbrev pub Legible : List ℕ → List DoorEntry → Type 0
Legible name history = Known name history × ((bytes : List ℕ) → MayBe name history (Some bytes) → IsTrue (are_bytes bytes) × IsTrue (has_reading (under name bytes)))

-- a put that comes by its rule has a reading
put_reads : (history : List DoorEntry) (who : Incarnation) (pair : Pair) → IsTrue (may_put history who pair) → IsTrue (has_reading pair)
put_reads history who pair may =
    elim (or_cases (list_any (may_put_version history who) (versions_in pair) || list_any (λ r. may_put_record history who r || may_upgrade history who r) (written_in pair)) (list_any (may_put_marker history who) (markers_in pair)) may) [
      | inl stored ↦ elim (or_cases (list_any (may_put_version history who) (versions_in pair)) (list_any (λ r. may_put_record history who r || may_upgrade history who r) (written_in pair)) stored) [
        | inl version ↦ (let v = any_found (may_put_version history who) (versions_in pair) version in reads_version pair (some_counts v.0 (versions_in pair) v.1))
        | inr record_put ↦ (let r = any_found (λ r. may_put_record history who r || may_upgrade history who r) (written_in pair) record_put in reads_record pair (some_counts r.0.commit (records_in pair) (written_is pair r.0 r.1)))
      ]
      | inr marker ↦ (let m = any_found (may_put_marker history who) (markers_in pair) marker in reads_marker pair (some_counts m.0 (markers_in pair) m.1))
    ]

module _ (name : List ℕ) where
  legible_next : (history : List DoorEntry) (entry : DoorEntry) → Comes history entry → Legible name history → Legible name (history ++ entry ∷ [])
  legible_next history entry comes before = (known_after history entry name before.0, reads)
    where
      written : (o : Option (List ℕ)) → Writing name entry.act o → (bytes : List ℕ) → Some bytes ≡ o → IsTrue (are_bytes bytes) × IsTrue (has_reading (under name bytes))
      written o (Puts node inc put answer is) bytes same =
          let it : put ≡ bytes = cc in
          let ruled = subst (λ act. IsTrue (may_come history act)) is (come history entry comes) in
          let made = (and_parts (are_bytes name) (are_bytes put) (and_parts (are_bytes name && are_bytes put) _ (subst (λ act. IsTrue (acts_bytes act)) is (made_act history entry comes))).0).1 in (
            subst (λ b. IsTrue (are_bytes b)) it made,
            subst (λ b. IsTrue (has_reading (under name b))) it (put_reads history (incarnation node inc) (under name put) (and_parts (is_up (incarnation node inc) history) (may_put history (incarnation node inc) (under name put)) ruled).1),
          )
      written o (Deletes node inc answer is) bytes same = absurd (cc)

      reads : (bytes : List ℕ) → MayBe name (history ++ entry ∷ []) (Some bytes) → IsTrue (are_bytes bytes) × IsTrue (has_reading (under name bytes))
      reads bytes may = elim (fate history entry name comes.honest before.0 (Some bytes) may) [
        | inl was ↦ before.1 bytes was
        | inr new ↦ written (Some bytes) (writing name entry.act (Some bytes) new) bytes refl
      ]

  legible_from : (history more : List DoorEntry) → IsTrue (is_open history) → Lawful (history ++ more) → Legible name history → Legible name (history ++ more)
  legible_from history [] opened whole legible = subst (Legible name) (sym (append-nil history)) legible
  legible_from history (entry ∷ more) opened whole legible =
      let joined : history ++ entry ∷ more ≡ (history ++ entry ∷ []) ++ more = sym (append_assoc history (entry ∷ []) more) in
      let rest : Lawful ((history ++ entry ∷ []) ++ more) = subst Lawful joined whole in
      let now = lawful_begins (history ++ entry ∷ []) more rest in
      let comes : Comes history entry = record { opened = opened; legal = now.legal; honest = now.honest; made = now.made; stages = now.stages; retires = now.retires } in
      subst (Legible name) (sym joined) (legible_from (history ++ entry ∷ []) more (any_grows (λ (e : DoorEntry). opens e.act) history (entry ∷ []) opened) rest (legible_next history entry comes legible))

  -- where the door has just been opened
  module _ (history : List DoorEntry) (entry : DoorEntry) (lawful : Lawful (history ++ entry ∷ [])) (opened : entry.act ≡ Opened) (named : IsTrue (is_of_ids name)) where
    seen : (o : Option (List ℕ)) × MayBe name (history ++ entry ∷ []) o
    seen = by_prefix (starts_with nat_eq name records_prefix) refl
      where
        by_run : (prefix : List ℕ) → IsTrue (starts_with nat_eq name prefix) → IsTrue (name_lt [] name) → IsTrue (is_scan_run (scan_pages membership.the_office opening.opening prefix history)) → (o : Option (List ℕ)) × MayBe name (history ++ entry ∷ []) o
        by_run prefix begins some whole =
            let shown = run_shows history entry lawful opened prefix name whole (and_from _ _ begins some) in
            (shown.0, held_may history entry lawful opened name shown.0 shown.1)

        by_prefix : (t : Bool) → starts_with nat_eq name records_prefix ≡ t → (o : Option (List ℕ)) × MayBe name (history ++ entry ∷ []) o
        by_prefix true is = by_run records_prefix is (begins_some name (codes "/") 99 is) (at_opening history entry lawful opened).records_run
        by_prefix false is =
            let marks : IsTrue (starts_with nat_eq name markers_prefix) = elim (or_cases (starts_with nat_eq name records_prefix) (starts_with nat_eq name markers_prefix) named) [ inl records ↦ absurd (true≢false (sym records ∙ is)) | inr it ↦ it ] in
            by_run markers_prefix marks (begins_some name (codes "/") 114 marks) (at_opening history entry lawful opened).markers_run

    -- whether a marker offends, or has no reading
    abbrev marker_fault : List ℕ → Bool
    marker_fault bytes = length (markers_in (under name bytes)) == 0 || list_any (marker_offends (recorded (all_shown history))) (markers_in (under name bytes))

    -- a pair of them that was shown doesn't offend
    unoffending : (bytes : List ℕ) → IsFalse (pair_offends (recorded (all_shown history)) (under name bytes)) → IsTrue (has_reading (under name bytes))
    unoffending bytes fine = by_prefix (starts_with nat_eq name records_prefix) refl fine
      where
        by_marks : IsTrue (starts_with nat_eq name markers_prefix) → IsFalse (if starts_with nat_eq name markers_prefix then marker_fault bytes else false) → IsTrue (has_reading (under name bytes))
        by_marks marks whole =
            let fault : IsFalse (marker_fault bytes) = subst (λ t. IsFalse (if t then marker_fault bytes else false)) marks whole in
            reads_marker (under name bytes) (some_length (markers_in (under name bytes)) (or_parts (length (markers_in (under name bytes)) == 0) (list_any (marker_offends (recorded (all_shown history))) (markers_in (under name bytes))) fault).0)

        by_prefix : (t : Bool) → starts_with nat_eq name records_prefix ≡ t → IsFalse (if t then length (records_in (under name bytes)) == 0 else if starts_with nat_eq name markers_prefix then marker_fault bytes else false) → IsTrue (has_reading (under name bytes))
        by_prefix true is whole = reads_record (under name bytes) (some_length (records_in (under name bytes)) whole)
        by_prefix false is whole = by_marks (elim (or_cases (starts_with nat_eq name records_prefix) (starts_with nat_eq name markers_prefix) named) [ inl records ↦ absurd (true≢false (sym records ∙ is)) | inr it ↦ it ]) whole

    legible_first : Legible name (history ++ entry ∷ [])
    legible_first = (
      seen,
      λ bytes may. (
          let there = pair_of_shown history entry lawful opened name bytes (was_shown history entry lawful opened name (Some bytes) may) in
          (pair_made history entry lawful opened (under name bytes) there, unoffending bytes (clean history entry lawful opened (under name bytes) there))),
    )

pub legible : (name : List ℕ) → IsTrue (is_of_ids name) → (history : List DoorEntry) → IsTrue (is_open history) → Lawful history → Legible name history
legible name named history opened lawful =
    let at = opening_of [] history opened in
    let start : List DoorEntry = at.before ++ at.entry ∷ [] in
    let whole : Lawful (start ++ at.after) = subst Lawful at.parts lawful in
    subst (Legible name) (sym at.parts)
    (legible_from name start at.after (opens_still at.before at.entry at.opened) whole (legible_first name at.before at.entry (lawful_begins start at.after whole) at.opened named))

-- ---- what is shown

module _ (before : List DoorEntry) (entry : DoorEntry) (lawful : Lawful (before ++ entry ∷ [])) (opened : IsTrue (is_open before)) where
  comes_so : Comes before entry
  comes_so = record { opened = opened; legal = lawful.legal; honest = lawful.honest; made = lawful.made; stages = lawful.stages; retires = lawful.retires }

  pub shown_reads : (pair : Pair) → In pair (shown_pairs entry) → IsTrue (is_of_ids pair.name) → IsTrue (has_reading pair)
  shown_reads pair among named =
      let proves = pair_proves entry.act (answered before entry comes_so) pair (in_back pair (stored_in entry.act) (shown_pairs entry) among) in
      let there = left_there before entry pair.name (Some pair.bytes) (proven_effect (effect_of pair.name entry.act) pair.bytes proves) in
      ((legible pair.name named (before ++ entry ∷ []) (any_grows (λ (e : DoorEntry). opens e.act) before (entry ∷ []) opened) lawful).1 pair.bytes there).1

  pub entry_reads : IsTrue (shows_readable entry)
  entry_reads = all_from (λ pair. not (is_of_ids pair.name) || has_reading pair) (shown_pairs entry) (λ pair among. elim (cases_Bool (is_of_ids pair.name)) [
    | inl named ↦ or_right _ _ (shown_reads pair among named)
    | inr other ↦ or_left _ _ (ap not other)
  ])

pub all_readable : (history : List DoorEntry) → Lawful history → IsTrue (is_readable history)
all_readable history lawful = each_from (λ before entry. not (is_open before) || shows_readable entry) [] history (λ before entry after is. elim (cases_Bool (is_open before)) [
  | inl opened ↦ or_right _ _ (entry_reads before entry (lawful_to history lawful before entry after is) opened)
  | inr shut ↦ or_left _ _ (ap not shut)
])
