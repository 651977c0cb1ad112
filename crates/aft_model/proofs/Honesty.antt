-- An honest history is so about each name: one that no entry calls or lists is only shown absent.
use Rattle.std.proofs.Common.{◌≡◌, ℕ, Bool, true, false, List, [], ◌∷◌, ◌++◌, refl, sym, ap, subst, ◌∙◌, ◌⊎◌, inl, inr}
use Rattle.std.specs.Prelude.{IsTrue, IsFalse, map, Option, Some, None, if◌then◌else◌}
use Rattle.std.specs.List.{list_any}
use Rattle.std.specs.Str.{bytes_eq}
use Rattle.std.proofs.lemmas.Bool.{and_from, or_parts, cases_Bool}
use Rattle.std.proofs.lemmas.List.Folds.{list_any-append}
use Rattle.aft_keeper.specs.Contents.{bytes_at}
use Rattle.aft_keeper.specs.declared.keeper.Pair.{Pair}
use Rattle.aft_keeper.specs.declared.keeper.KeeperCall.TheVariants.{Get, Put, Delete, Scan}
use Rattle.aft_keeper.specs.declared.keeper.KeeperAnswer.TheVariants.{Failed, Absent, Found, Done, Page}
use Rattle.aft_model.specs.declared.door.DoorAct.{DoorAct}
use Rattle.aft_model.specs.declared.door.DoorAct.TheVariants.{Call}
use Rattle.aft_model.specs.declared.door.DoorEntry.{DoorEntry}
use Rattle.aft_model.specs.Evidence.{covers, shown_on_page, shown_in, pairs_in, shown}
use Rattle.aft_model.specs.History.{each_after}
use Rattle.aft_model.specs.Honest.{Honest, agrees, is_honest_about, name_in, names_of, names}
use Rattle.aft_model.specs.MayHold.{MayHold, Unknown, OneOf, or_else, seen, after_act, may_hold}
use Rattle.aft_model.proofs.Histories.{any_found, all_at}
use Rattle.aft_model.proofs.OneCommit.{may_hold-snoc}
use Rattle.aft_model.proofs.Sights.{same_bytes}

-- nothing is known of a name, or that it is absent
abbrev Empty : MayHold → Type 0
Empty may = (may ≡ Unknown) ⊎ (may ≡ OneOf (None ∷ []))

-- nothing is shown of a name, or that it is absent
abbrev Blank : Option (Option (List ℕ)) → Type 0
Blank sight = (sight ≡ None) ⊎ (sight ≡ Some None)

blank_agrees : (may : MayHold) (sight : Option (Option (List ℕ))) → Empty may → Blank sight → IsTrue (agrees may sight)
blank_agrees may sight empty (inl none) = subst (λ s. IsTrue (agrees may s)) (sym none) refl
blank_agrees may sight (inl unknown) (inr absent) = subst (λ s. IsTrue (agrees may s)) (sym absent) (subst (λ m. IsTrue (agrees m (Some None))) (sym unknown) refl)
blank_agrees may sight (inr one) (inr absent) = subst (λ s. IsTrue (agrees may s)) (sym absent) (subst (λ m. IsTrue (agrees m (Some None))) (sym one) refl)

seen_empty : (may : MayHold) (sight : Option (Option (List ℕ))) → Empty may → Blank sight → Empty (seen sight may)
seen_empty may sight empty (inl none) = subst (λ s. Empty (seen s may)) (sym none) empty
seen_empty may sight empty (inr absent) = subst (λ s. Empty (seen s may)) (sym absent) (inr refl)

unlisted : (name : List ℕ) (pairs : List Pair) → list_any (bytes_eq name) (map (λ (p : Pair). p.name) pairs) ≡ false → bytes_at name pairs ≡ None
unlisted name [] other = refl
unlisted name (p ∷ pairs) other =
    let parts = or_parts (bytes_eq name p.name) (list_any (bytes_eq name) (map (λ (q : Pair). q.name) pairs)) other in
    ap (λ t. if t then Some p.bytes else bytes_at name pairs) parts.0 ∙ unlisted name pairs parts.1

page_blank : (o : Option (List ℕ)) (t : Bool) → o ≡ None → Blank (shown_on_page o t)
page_blank o true none = inr (ap (λ p. shown_on_page p true) none)
page_blank o false none = inl (ap (λ p. shown_on_page p false) none)

module _ (name : List ℕ) where
  -- whether an act calls or lists the name
  abbrev is_named : DoorAct → Bool
  is_named act = list_any (bytes_eq name) (name_in act ++ map (λ (p : Pair). p.name) (pairs_in act))

  -- what an act shows of a name that it neither calls nor lists
  unnamed_blank : (act : DoorAct) → IsFalse (is_named act) → Blank (shown_in name act)
  unnamed_blank (Call node inc (Get got) (Found bytes)) other = inl (ap (λ t. if t then Some (Some bytes) else None) (or_parts (bytes_eq name got) _ other).0)
  unnamed_blank (Call node inc (Get got) Absent) other = inl (ap (λ t. if t then Some None else None) (or_parts (bytes_eq name got) _ other).0)
  unnamed_blank (Call node inc (Scan prefix after limit) (Page pairs)) other = page_blank (bytes_at name pairs) (covers prefix after limit pairs name) (unlisted name pairs other)
  unnamed_blank act other = inl refl

  -- and what the name may hold after it
  unnamed_empty : (may : MayHold) (act : DoorAct) → IsFalse (is_named act) → Empty may → Empty (after_act name may act)
  unnamed_empty may (Call node inc (Put put bytes) Done) other empty =
      subst (λ t. Empty (if t then OneOf (Some bytes ∷ []) else may)) (sym (or_parts (bytes_eq name put) _ other).0) empty
  unnamed_empty may (Call node inc (Put put bytes) Failed) other empty =
      subst (λ t. Empty (if t then or_else may (Some bytes) else may)) (sym (or_parts (bytes_eq name put) _ other).0) empty
  unnamed_empty may (Call node inc (Delete deleted) Done) other empty =
      subst (λ t. Empty (if t then OneOf (None ∷ []) else may)) (sym (or_parts (bytes_eq name deleted) _ other).0) empty
  unnamed_empty may (Call node inc (Delete deleted) Failed) other empty =
      subst (λ t. Empty (if t then or_else may None else may)) (sym (or_parts (bytes_eq name deleted) _ other).0) empty
  unnamed_empty may (Call node inc asked answer) other empty = seen_empty may _ empty (unnamed_blank (Call node inc asked answer) other)
  unnamed_empty may act other empty = empty

  unnamed_honest : (before entries : List DoorEntry) → Empty (may_hold name before) → IsFalse (list_any (bytes_eq name) (names entries))
      → IsTrue (each_after (λ history entry. agrees (may_hold name history) (shown name entry)) before entries)
  unnamed_honest before [] empty other = refl
  unnamed_honest before (entry ∷ entries) empty other =
      let parts = or_parts (is_named entry.act) (list_any (bytes_eq name) (names entries)) (sym (list_any-append (bytes_eq name) (names_of entry) (names entries)) ∙ other) in
      and_from _ _ (blank_agrees _ _ empty (unnamed_blank entry.act parts.0))
      (unnamed_honest (before ++ entry ∷ []) entries (subst Empty (sym (may_hold-snoc name before entry)) (unnamed_empty (may_hold name before) entry.act parts.0 empty)) parts.1)

  -- an honest history is so about the name
  pub honest_about : (history : List DoorEntry) → Honest history → IsTrue (is_honest_about name history)
  honest_about history honest =
      elim (cases_Bool (list_any (bytes_eq name) (names history))) [
        | inl named ↦ (let found = any_found (bytes_eq name) (names history) named in
            subst (λ n. IsTrue (is_honest_about n history)) (sym (same_bytes name found.0 found.2)) (all_at (λ n. is_honest_about n history) found.0 (names history) found.1 honest))
        | inr other ↦ unnamed_honest [] history (inl refl) other
      ]
