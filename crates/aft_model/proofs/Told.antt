-- A store that tells what it holds along a history: under each name it holds what the history lets it hold, so the history
-- is honest.
use Rattle.std.proofs.Common.{◌≡◌, ℕ, zero, suc, Bool, true, false, cond, not, ◌||◌, List, [], ◌∷◌, ◌++◌, length, take, arith, refl, sym, ap, subst, ◌∙◌, ◌⊎◌, inl, inr, Option, Some, None}
use Rattle.std.specs.Prelude.{IsTrue, filter, if◌then◌else◌, is_none, nat_lt}
use Rattle.std.specs.Cmp.Lexicographic.{nat_list_eq_equiv, pointwise}
use Rattle.std.specs.List.{last_or}
use Rattle.std.specs.Option.{option_eq}
use Rattle.std.specs.Str.{bytes_eq}
use Rattle.std.proofs.lemmas.Bool.{and_from, and_parts, not-true, false_from_ne_true, or_cases, or_left, or_right, false≢true, true≢false, ltb-true}
use Rattle.std.proofs.lemmas.Slice.Eq.{bytes_eq-Decides}
use Rattle.std.proofs.lemmas.List.{length-take, take_all}
use Rattle.std.proofs.lemmas.List.Folds.{list_any-append}
use Rattle.aft_keeper.proofs.Contents.{AllAbove, IsRising, IsRising-filter, IsRising-from_Ascends, IsRising-with_pair, bytes_at-with_pair, bytes_at-without}
use Rattle.aft_keeper.proofs.Names.{name_lt-from_Less}
use Rattle.aft_keeper.specs.Contents.{IsContents, bytes_at, is_scanned, name_lt, page_of, with_pair, without}
use Rattle.aft_keeper.specs.declared.keeper.Pair.{Pair}
use Rattle.aft_keeper.specs.declared.keeper.KeeperAnswer.TheVariants.{Absent, Done, Failed, Found, Page}
use Rattle.aft_keeper.specs.declared.keeper.KeeperCall.TheVariants.{Delete, Get, Put, Scan}
use Rattle.aft_model.specs.declared.door.DoorAct.{DoorAct}
use Rattle.aft_model.specs.declared.door.DoorAct.TheVariants.{Call}
use Rattle.aft_model.specs.declared.door.DoorEntry.{DoorEntry}
use Rattle.aft_model.specs.Contents.{GoesAlong, held_after, if_shown, may_be_held, same_pair}
use Rattle.aft_model.specs.Evidence.{covers, is_up_to, shown, shown_in, shown_on_page}
use Rattle.aft_model.specs.History.{each_after}
use Rattle.aft_model.specs.Honest.{Honest, agrees, is_honest_about, may_be, names}
use Rattle.aft_model.specs.MayHold.{MayHold, OneOf, Unknown, after_act, may_hold, or_else, seen}
use Rattle.aft_model.proofs.Followed.{from_one, in_from_Contains}
use Rattle.aft_model.proofs.Histories.{In, in_append}
use Rattle.aft_model.proofs.Lists.{all_from}
use Rattle.aft_model.proofs.OneCommit.{may_hold-snoc}
use Rattle.aft_model.proofs.Sights.{bytes_eq-refl, same_bytes}

-- ---- pages

same_pairs : (a b : List Pair) → IsTrue (pointwise same_pair a b) → a ≡ b
same_pairs [] [] same = refl
same_pairs [] (q ∷ b) same = absurd (false≢true same)
same_pairs (p ∷ a) [] same = absurd (false≢true same)
same_pairs (p ∷ a) (q ∷ b) same =
    let parts = and_parts (same_pair p q) (pointwise same_pair a b) same in
    let both = and_parts (bytes_eq p.name q.name) (bytes_eq p.bytes q.bytes) parts.0 in
    let pair : List ℕ → List ℕ → Pair = λ n z. record { name = n; bytes = z } in
    ap (λ n. pair n p.bytes ∷ a) (same_bytes p.name q.name both.0) ∙ ap (λ z. pair q.name z ∷ a) (same_bytes p.bytes q.bytes both.1) ∙ ap (λ rest. q ∷ rest) (same_pairs a b parts.1)

same_outcome : (a b : Option (List ℕ)) → IsTrue (option_eq bytes_eq a b) → a ≡ b
same_outcome None None same = refl
same_outcome None (Some y) same = absurd (false≢true same)
same_outcome (Some x) None same = absurd (false≢true same)
same_outcome (Some x) (Some y) same = ap (λ z. Some z) (same_bytes x y same)

outcome-refl : (o : Option (List ℕ)) → IsTrue (option_eq bytes_eq o o)
outcome-refl None = refl
outcome-refl (Some bytes) = bytes_eq-refl bytes

module _ (name : List ℕ) where
  -- what a page lists under the name, the store holds
  listed : (n : ℕ) (pairs : List Pair) (bytes : List ℕ) → bytes_at name (take n pairs) ≡ Some bytes → bytes_at name pairs ≡ Some bytes
  listed zero pairs bytes is = absurd cc
  listed (suc n) [] bytes is = is
  listed (suc n) (p ∷ pairs) bytes is = cases (bytes_eq name p.name) (listed n pairs bytes) is
    where
      cases : (b : Bool) → (bytes_at name (take n pairs) ≡ Some bytes → bytes_at name pairs ≡ Some bytes) → cond b (Some p.bytes) (bytes_at name (take n pairs)) ≡ Some bytes → cond b (Some p.bytes) (bytes_at name pairs) ≡ Some bytes
      cases true rest here = here
      cases false rest later = rest later

  -- a choice by names keeps what stands under each that it keeps
  chosen : (test : List ℕ → Bool) (pairs : List Pair) → bytes_at name (filter (λ (p : Pair). test p.name) pairs) ≡ cond (test name) (bytes_at name pairs) None
  chosen test [] = grind arith
  chosen test (p ∷ pairs) = grind (arith, chosen test pairs, bytes_eq-Decides name p.name)

  -- nothing stands under the name among pairs above one that the name isn't above
  above_none : (low : List ℕ) (pairs : List Pair) → AllAbove low pairs → IsTrue (not (name_lt low name)) → bytes_at name pairs ≡ None
  above_none low [] above upto = refl
  above_none low (p ∷ pairs) above upto =
      let apart : bytes_eq name p.name ≡ false = false_from_ne_true (bytes_eq name p.name) (λ same.
      let below : IsTrue (name_lt low name) = subst (λ n. IsTrue (name_lt low n)) (sym (same_bytes name p.name same)) (name_lt-from_Less low p.name above.0) in
      true≢false (sym below ∙ not-true (name_lt low name) upto)) in
      ap (λ b. cond b (Some p.bytes) (bytes_at name pairs)) apart ∙ above_none low pairs above.1 upto

  -- nor behind a page, where it doesn't list the name, and the name isn't beyond its last pair
  behind : (p : Pair) (n : ℕ) (pairs : List Pair) → IsRising (p ∷ pairs) → bytes_at name (take n pairs) ≡ None → IsTrue (is_up_to (last_or (Some p) (take n pairs)) name) → bytes_at name pairs ≡ None
  behind p zero pairs up unlisted upto = above_none p.name pairs up.0 upto
  behind p (suc n) [] up unlisted upto = refl
  behind p (suc n) (q ∷ pairs) up unlisted upto = cases (bytes_eq name q.name) (λ later. behind q n pairs up.1 later upto) unlisted
    where
      cases : (b : Bool) → (bytes_at name (take n pairs) ≡ None → bytes_at name pairs ≡ None) → cond b (Some q.bytes) (bytes_at name (take n pairs)) ≡ None → cond b (Some q.bytes) (bytes_at name pairs) ≡ None
      cases true rest here = absurd cc
      cases false rest later = rest later

  -- what a page covers and doesn't list isn't there
  unlisted_none : (n : ℕ) (pairs : List Pair) → IsRising pairs → bytes_at name (take n pairs) ≡ None → IsTrue (nat_lt (length (take n pairs)) n || is_up_to (last_or None (take n pairs)) name) → bytes_at name pairs ≡ None
  unlisted_none n pairs up unlisted covered =
      elim (or_cases (nat_lt (length (take n pairs)) n) (is_up_to (last_or None (take n pairs)) name) covered) [
        | inl short ↦ (let all : take n pairs ≡ pairs = take_all n pairs (omega (arith, length-take n pairs, ltb-true _ _ short)) in subst (λ ps. bytes_at name ps ≡ None) all unlisted)
        | inr upto ↦ front n pairs up unlisted upto
      ]
    where
      front : (m : ℕ) (ps : List Pair) → IsRising ps → bytes_at name (take m ps) ≡ None → IsTrue (is_up_to (last_or None (take m ps)) name) → bytes_at name ps ≡ None
      front zero ps up unlisted upto = absurd (false≢true upto)
      front (suc m) [] up unlisted upto = refl
      front (suc m) (p ∷ ps) up unlisted upto = cases (bytes_eq name p.name) unlisted
        where
          cases : (b : Bool) → cond b (Some p.bytes) (bytes_at name (take m ps)) ≡ None → cond b (Some p.bytes) (bytes_at name ps) ≡ None
          cases true here = absurd cc
          cases false later = behind p m ps up later upto

  -- what is shown, if something is, is what is held
  abbrev IsRight : List Pair → Option (Option (List ℕ)) → Type 0
  IsRight held sight = (sight ≡ None) ⊎ (sight ≡ Some (bytes_at name held))

  page_right : (prefix from : List ℕ) (limit : ℕ) (held : List Pair) → IsRising held
      → IsRight held (shown_on_page (bytes_at name (page_of prefix from limit held)) (covers prefix from limit (page_of prefix from limit held) name))
  page_right prefix from limit held up =
      cases (bytes_at name (page_of prefix from limit held)) (covers prefix from limit (page_of prefix from limit held) name) refl refl
    where
      cases : (o : Option (List ℕ)) (b : Bool) → bytes_at name (page_of prefix from limit held) ≡ o → covers prefix from limit (page_of prefix from limit held) name ≡ b → IsRight held (shown_on_page o b)
      cases (Some bytes) b is covered = inr (ap (λ o. Some o) (sym (kept (is_scanned prefix from name) (sym (chosen (is_scanned prefix from) held) ∙ listed limit (filter (λ (p : Pair). is_scanned prefix from p.name) held) bytes is))))
        where
          kept : (t : Bool) → cond t (bytes_at name held) None ≡ Some bytes → bytes_at name held ≡ Some bytes
          kept true there = there
          kept false nowhere = absurd cc
      cases None true is covered =
          let parts = and_parts (is_scanned prefix from name) _ covered in
          let none = unlisted_none limit (filter (λ (p : Pair). is_scanned prefix from p.name) held) (IsRising-filter _ held up) is parts.1 in
          inr (ap (λ o. Some o) (sym (ap (λ t. cond t (bytes_at name held) None) (sym parts.0) ∙ sym (chosen (is_scanned prefix from) held) ∙ none)))
      cases None false is covered = inl refl

  -- ---- one entry

  -- what is held under the name is what it may hold
  abbrev Holds : MayHold → List Pair → Type 0
  Holds may held = IsTrue (may_be may (bytes_at name held))

  -- what an entry shows agrees, and so does what is held after it
  abbrev Goes : MayHold → DoorAct → List Pair → Type 0
  Goes may act now = IsTrue (agrees may (shown_in name act)) × IsRising now × Holds (after_act name may act) now

  one_of : (o : Option (List ℕ)) → IsTrue (may_be (OneOf (o ∷ [])) o)
  one_of o = or_left _ _ (outcome-refl o)

  else_old : (may : MayHold) (o more : Option (List ℕ)) → IsTrue (may_be may o) → IsTrue (may_be (or_else may more) o)
  else_old Unknown o more old = refl
  else_old (OneOf outcomes) o more old = list_any-append (option_eq bytes_eq o) outcomes (more ∷ []) ∙ or_left _ _ old

  else_new : (may : MayHold) (o : Option (List ℕ)) → IsTrue (may_be (or_else may o) o)
  else_new Unknown o = refl
  else_new (OneOf outcomes) o = list_any-append (option_eq bytes_eq o) outcomes (o ∷ []) ∙ or_right _ _ (one_of o)

  -- after a write under a name: the outcome there, and what was elsewhere
  done : (may : MayHold) (o held now : Option (List ℕ)) (b : Bool) → IsTrue (may_be may held) → now ≡ cond b o held → IsTrue (may_be (if b then OneOf (o ∷ []) else may) now)
  done may o held now true holds is = subst (λ z. IsTrue (may_be (OneOf (o ∷ [])) z)) (sym is) (one_of o)
  done may o held now false holds is = subst (λ z. IsTrue (may_be may z)) (sym is) holds

  -- and after one that failed
  failed_new : (may : MayHold) (o held now : Option (List ℕ)) (b : Bool) → IsTrue (may_be may held) → now ≡ cond b o held → IsTrue (may_be (if b then or_else may o else may) now)
  failed_new may o held now true holds is = subst (λ z. IsTrue (may_be (or_else may o) z)) (sym is) (else_new may o)
  failed_new may o held now false holds is = subst (λ z. IsTrue (may_be may z)) (sym is) holds

  failed_old : (may : MayHold) (o held : Option (List ℕ)) (b : Bool) → IsTrue (may_be may held) → IsTrue (may_be (if b then or_else may o else may) held)
  failed_old may o held true holds = else_old may held o holds
  failed_old may o held false holds = holds

  agrees_right : (may : MayHold) (held : List Pair) (sight : Option (Option (List ℕ))) → Holds may held → IsRight held sight → IsTrue (agrees may sight) × IsTrue (may_be (seen sight may) (bytes_at name held))
  agrees_right may held sight holds (inl none) = (subst (λ s. IsTrue (agrees may s)) (sym none) refl, subst (λ s. IsTrue (may_be (seen s may) (bytes_at name held))) (sym none) holds)
  agrees_right may held sight holds (inr is) = (subst (λ s. IsTrue (agrees may s)) (sym is) holds, subst (λ s. IsTrue (may_be (seen s may) (bytes_at name held))) (sym is) (one_of (bytes_at name held)))

  module _ (may : MayHold) (held now : List Pair) (up : IsRising held) (holds : Holds may held) where
    -- after an entry that shows something of what is held, and leaves it
    saw : (sight : Option (Option (List ℕ))) → IsRight held sight → now ≡ held → IsTrue (agrees may sight) × IsRising now × Holds (seen sight may) now
    saw sight right same =
        let both = agrees_right may held sight holds right in
        (both.0, subst IsRising (sym same) up, subst (Holds (seen sight may)) (sym same) both.1)

    -- what is left of a test on what is held
    tested : (b : Bool) → In now (if_shown b held) → IsTrue b × (now ≡ held)
    tested true (inl is) = (refl, is)
    tested true (inr nowhere) = absurd nowhere
    tested false nowhere = absurd nowhere

    got : (other : List ℕ) (o : Option (List ℕ)) → bytes_at other held ≡ o → IsRight held (if bytes_eq name other then Some o else None)
    got other o is = cases (bytes_eq name other) refl
      where
        cases : (b : Bool) → bytes_eq name other ≡ b → IsRight held (if b then Some o else None)
        cases true here = inr (ap (λ z. Some z) (sym is ∙ ap (λ n. bytes_at n held) (sym (same_bytes name other here))))
        cases false other_name = inl refl

    absent : (o : Option (List ℕ)) → IsTrue (is_none o) → o ≡ None
    absent None none = refl
    absent (Some bytes) none = absurd (false≢true none)

    put_at : (other bytes : List ℕ) → now ≡ with_pair other bytes held → bytes_at name now ≡ cond (bytes_eq name other) (Some bytes) (bytes_at name held)
    put_at other bytes is = ap (bytes_at name) is ∙ bytes_at-with_pair name other bytes held

    out_at : (other : List ℕ) → now ≡ without other held → bytes_at name now ≡ cond (bytes_eq name other) None (bytes_at name held)
    out_at other is = ap (bytes_at name) is ∙ bytes_at-without name other held ∙ ap (λ b. cond b None (bytes_at name held)) (nat_list_eq_equiv.symm other name)

    goes : (act : DoorAct) → In now (held_after act held) → Goes may act now
    goes (Call node inc (Put other bytes) Done) (inl is) = (refl, subst IsRising (sym is) (IsRising-with_pair other bytes held up), done may (Some bytes) _ _ (bytes_eq name other) holds (put_at other bytes is))
    goes (Call node inc (Put other bytes) Failed) (inl is) = (refl, subst IsRising (sym is) (IsRising-with_pair other bytes held up), failed_new may (Some bytes) _ _ (bytes_eq name other) holds (put_at other bytes is))
    goes (Call node inc (Put other bytes) Failed) (inr (inl is)) = (refl, subst IsRising (sym is) up, subst (Holds (if bytes_eq name other then or_else may (Some bytes) else may)) (sym is) (failed_old may (Some bytes) _ (bytes_eq name other) holds))
    goes (Call node inc (Delete other) Done) (inl is) = (refl, subst IsRising (sym is) (IsRising-filter _ held up), done may None _ _ (bytes_eq name other) holds (out_at other is))
    goes (Call node inc (Delete other) Failed) (inl is) = (refl, subst IsRising (sym is) (IsRising-filter _ held up), failed_new may None _ _ (bytes_eq name other) holds (out_at other is))
    goes (Call node inc (Delete other) Failed) (inr (inl is)) = (refl, subst IsRising (sym is) up, subst (Holds (if bytes_eq name other then or_else may None else may)) (sym is) (failed_old may None _ (bytes_eq name other) holds))
    goes (Call node inc (Get other) Absent) among = (let found = tested (is_none (bytes_at other held)) among in saw _ (got other None (absent _ found.0)) found.1)
    goes (Call node inc (Get other) (Found bytes)) among = (let found = tested (option_eq bytes_eq (bytes_at other held) (Some bytes)) among in saw _ (got other (Some bytes) (same_outcome _ _ found.0)) found.1)
    goes (Call node inc (Scan prefix from limit) (Page page)) among =
        let found = tested (pointwise same_pair (page_of prefix from limit held) page) among in
        saw _ (subst (λ ps. IsRight held (shown_on_page (bytes_at name ps) (covers prefix from limit ps name))) (same_pairs _ page found.0) (page_right prefix from limit held up)) found.1
    goes (Call node inc (Get other) Failed) (inl is) = saw None (inl refl) is
    goes (Call node inc (Scan prefix from limit) Failed) (inl is) = saw None (inl refl) is
    goes (Call node inc (Put other bytes) Done) (inr nowhere) = absurd nowhere
    goes (Call node inc (Put other bytes) Failed) (inr (inr nowhere)) = absurd nowhere
    goes (Call node inc (Delete other) Done) (inr nowhere) = absurd nowhere
    goes (Call node inc (Delete other) Failed) (inr (inr nowhere)) = absurd nowhere
    goes (Call node inc (Get other) Failed) (inr nowhere) = absurd nowhere
    goes (Call node inc (Scan prefix from limit) Failed) (inr nowhere) = absurd nowhere
    goes (Call node inc asked answer) nowhere = absurd nowhere
    goes act (inl is) = saw None (inl refl) is
    goes act (inr nowhere) = absurd nowhere

  -- ---- a whole history

  goes_on : (before entries : List DoorEntry) (held now : List Pair) → IsRising held → Holds (may_hold name before) held → In now (may_be_held held entries)
      → IsTrue (each_after (λ history entry. agrees (may_hold name history) (shown name entry)) before entries)
  goes_on before [] held now up holds among = refl
  goes_on before (entry ∷ entries) held now up holds among =
      let rest = from_one entries now (held_after entry.act held ++ []) among in
      let first = elim (in_append rest.0 (held_after entry.act held) [] rest.1) as (λ _. In rest.0 (held_after entry.act held)) [ inl here ↦ here | inr nowhere ↦ absurd nowhere ] in
      let here = goes (may_hold name before) held rest.0 up holds entry.act first in
      and_from _ _ here.0
      (goes_on (before ++ entry ∷ []) entries rest.0 now here.1 (subst (λ may. Holds may rest.0) (sym (may_hold-snoc name before entry)) here.2) rest.2)

-- a history that the contents of a store go along with is honest
pub told_honest : (contents : List Pair) (history : List DoorEntry) (now : List Pair) → IsContents contents → GoesAlong contents history now → Honest history
told_honest contents history now is along =
    all_from (λ name. is_honest_about name history) (names history) (λ name among. goes_on name [] history contents now (IsRising-from_Ascends contents is.0) refl (in_from_Contains now _ along))
