-- What an entry that comes at the open door keeps, and what an act that writes a name is.
use Rattle.std.proofs.Common.{◌≡◌, ℕ, Bool, true, false, ◌||◌, not, List, [], ◌∷◌, ◌++◌, refl, sym, ap, subst, ◌∙◌, ◌⊎◌, inl, inr, take, cond, suc, ◌+◌, arith}
use Rattle.std.specs.Prelude.{IsTrue, IsFalse, Option, Some, None, if◌then◌else◌}
use Rattle.std.specs.List.{before_first, flat_map, list_any, position_or_len}
use Rattle.std.specs.Str.{bytes_eq}
use Rattle.std.proofs.lemmas.Bool.{and_parts, or_cases, not-true, false≢true}
use Rattle.std.proofs.lemmas.List.Concat.{flat_map-append}
use Rattle.aft_keeper.specs.declared.keeper.KeeperAnswer.{KeeperAnswer}
use Rattle.aft_keeper.specs.declared.keeper.KeeperAnswer.TheVariants.{Done, Failed}
use Rattle.aft_keeper.specs.declared.keeper.KeeperCall.{KeeperCall}
use Rattle.aft_keeper.specs.declared.keeper.KeeperCall.TheVariants.{Delete, Put}
use Rattle.aft_records.specs.declared.stored.Marker.{Marker}
use Rattle.aft_model.specs.declared.door.DoorAct.{DoorAct}
use Rattle.aft_model.specs.declared.door.DoorAct.TheVariants.{Call}
use Rattle.aft_model.specs.declared.door.DoorEntry.{DoorEntry}
use Rattle.aft_model.specs.Bytes.{HasBytes, acts_bytes}
use Rattle.aft_model.specs.Course.{DeletesNothing}
use Rattle.aft_model.specs.DoorKnowledge.{deletes, is_delete, is_open, opens}
use Rattle.aft_model.specs.Evidence.{is_absence, shown_by, shown_in, shown_pairs, shows_absent}
use Rattle.aft_model.specs.LegalDoor.{is_answered, may_come, may_follow}
use Rattle.aft_model.specs.Office.{before_open}
use Rattle.aft_model.specs.Opening as opening
use Rattle.aft_model.specs.Readings.{markers_in}
use Rattle.aft_model.specs.Stages.{is_in_stage, retires_unheld_in}
use Rattle.aft_model.proofs.Histories.{In, all_append, each_after_snoc, in_append, in_back, in_front}
use Rattle.aft_model.proofs.Sights.{same_bytes}
use Rattle.law_effects.specs.Effects.{Effect, Leaves, Shows, Tries, Writes, call_effect, effect_of, sight_effect}
use Rattle.law_kept.specs.Kept.{Comes}
use Rattle.law_kept.specs.Tried.{Tried, markers_put}
use Rattle.law_kept.proofs.Fates.{Leaving, NewAt, NewBy}

-- ---- the rules

module _ (history : List DoorEntry) (entry : DoorEntry) (comes : Comes history entry) where
  follows_rule : IsTrue (may_follow history entry)
  follows_rule = (each_after_snoc may_follow [] history entry comes.legal).1

  pub answered : IsTrue (is_answered entry.act)
  answered = (and_parts _ _ follows_rule).0

  pub come : IsTrue (may_come history entry.act)
  come = subst (λ t. IsTrue (if t then may_come history entry.act else opening.may_open history entry)) comes.opened (and_parts _ _ follows_rule).1

  pub in_stage : IsTrue (is_in_stage history entry.act)
  in_stage = (each_after_snoc (λ (before : List DoorEntry) (e : DoorEntry). is_in_stage before e.act) [] history entry comes.stages).1

  pub unheld : IsTrue (retires_unheld_in history entry.act)
  unheld = (each_after_snoc (λ (before : List DoorEntry) (e : DoorEntry). retires_unheld_in before e.act) [] history entry comes.retires).1

  pub made_before : HasBytes history
  made_before = (all_append (λ (e : DoorEntry). acts_bytes e.act) history (entry ∷ []) comes.made).0

  pub made_act : IsTrue (acts_bytes entry.act)
  made_act = (and_parts (acts_bytes entry.act) true (all_append (λ (e : DoorEntry). acts_bytes e.act) history (entry ∷ []) comes.made).1).0

-- ---- what was shown before the door was opened

pub before_first-cons : {A : Type 0} (p : A → Bool) (x : A) (xs : List A) → before_first p (x ∷ xs) ≡ (if p x then [] else x ∷ before_first p xs)
before_first-cons {A} p x xs = by_test (p x)
  where
    one_more : (n : ℕ) → take (1 + n) (x ∷ xs) ≡ x ∷ take n xs
    one_more n = ap (λ k. take k (x ∷ xs)) (let e : 1 + n ≡ suc n = omega arith in e)

    by_test : (t : Bool) → take (cond (not t) (1 + position_or_len p xs) 0) (x ∷ xs) ≡ (if t then [] else x ∷ before_first p xs)
    by_test true = refl
    by_test false = one_more (position_or_len p xs)

first_stays : {A : Type 0} (test : A → Bool) (xs ys : List A) → IsTrue (list_any test xs) → before_first test (xs ++ ys) ≡ before_first test xs
first_stays test [] ys passed = absurd (false≢true passed)
first_stays {A} test (x ∷ xs) ys passed = before_first-cons test x (xs ++ ys) ∙ cases (first_stays test xs ys) (test x) refl ∙ sym (before_first-cons test x xs)
  where
    cases : (IsTrue (list_any test xs) → before_first test (xs ++ ys) ≡ before_first test xs) → (t : Bool) → test x ≡ t
        → (if test x then [] else x ∷ before_first test (xs ++ ys)) ≡ (if test x then [] else x ∷ before_first test xs)
    cases rest true is = ap (λ t. if t then [] else x ∷ before_first test (xs ++ ys)) is ∙ sym (ap (λ t. if t then [] else x ∷ before_first test xs) is)
    cases rest false is =
        let later : IsTrue (list_any test xs) = elim (or_cases (test x) (list_any test xs) passed) [ inl here ↦ absurd (false≢true (sym is ∙ here)) | inr later ↦ later ] in
        ap (λ zs. if test x then [] else x ∷ zs) (rest later)

pub open_stays : (history more : List DoorEntry) → IsTrue (is_open history) → before_open (history ++ more) ≡ before_open history
open_stays history more opened = first_stays (λ (e : DoorEntry). opens e.act) history more opened

pub tried_grows : (history : List DoorEntry) (entry : DoorEntry) → IsTrue (is_open history) → (m : Marker) → Tried history m → Tried (history ++ entry ∷ []) m
tried_grows history entry opened m (inl put) = inl (subst (In m) (sym (flat_map-append (λ (e : DoorEntry). markers_put e.act) history (entry ∷ []))) (in_front m _ _ put))
tried_grows history entry opened m (inr shown) =
    inr (subst (λ (h : List DoorEntry). In m (flat_map markers_in (flat_map (λ (e : DoorEntry). shown_pairs e) h))) (sym (open_stays history (entry ∷ []) opened)) shown)

-- what was tried behind an entry was so before it, or the entry puts it
pub tried_fate : (history : List DoorEntry) (entry : DoorEntry) → IsTrue (is_open history) → (m : Marker) → Tried (history ++ entry ∷ []) m → Tried history m ⊎ In m (markers_put entry.act)
tried_fate history entry opened m (inl put) =
    elim (in_append m (flat_map (λ (e : DoorEntry). markers_put e.act) history) (flat_map (λ (e : DoorEntry). markers_put e.act) (entry ∷ []))
    (subst (In m) (flat_map-append (λ (e : DoorEntry). markers_put e.act) history (entry ∷ [])) put)) [
      | inl before ↦ inl (inl before)
      | inr new ↦ elim (in_append m (markers_put entry.act) [] new) [ inl here ↦ inr here | inr nowhere ↦ absurd nowhere ]
    ]
tried_fate history entry opened m (inr shown) =
    inl (inr (subst (λ (h : List DoorEntry). In m (flat_map markers_in (flat_map (λ (e : DoorEntry). shown_pairs e) h))) (open_stays history (entry ∷ []) opened) shown))

pub tried_now : (history : List DoorEntry) (entry : DoorEntry) (m : Marker) → In m (markers_put entry.act) → Tried (history ++ entry ∷ []) m
tried_now history entry m put =
    inl (subst (In m) (sym (flat_map-append (λ (e : DoorEntry). markers_put e.act) history (entry ∷ []))) (in_back m (flat_map (λ (e : DoorEntry). markers_put e.act) history) _ (in_front m (markers_put entry.act) [] put)))

-- ---- acts that write a name

no_new_sight : (sight : Option (Option (List ℕ))) (o : Option (List ℕ)) → NewBy (sight_effect sight) o → ⊥
no_new_sight (Some shown) o (inl is) = cc
no_new_sight (Some shown) o (inr is) = cc
no_new_sight None o (inl is) = cc
no_new_sight None o (inr is) = cc

-- an act that may have put an outcome under a name is a put of it, or a delete
pub data Writing (name : List ℕ) (act : DoorAct) : Option (List ℕ) → Type 0 where
  Puts : (node inc : ℕ) (bytes : List ℕ) (answer : KeeperAnswer) → act ≡ Call node inc (Put name bytes) answer → Writing name act (Some bytes)
  Deletes : (node inc : ℕ) (answer : KeeperAnswer) → act ≡ Call node inc (Delete name) answer → Writing name act None

writes_is : (a b : Option (List ℕ)) → Writes a ≡ Writes b → a ≡ b
writes_is a b e = cc

tries_is : (a b : Option (List ℕ)) → Tries a ≡ Tries b → a ≡ b
tries_is a b e = cc

new_if_writes : (t : Bool) (written o : Option (List ℕ)) → NewBy (if t then Writes written else Leaves) o → (t ≡ true) × (written ≡ o)
new_if_writes true written o (inl is) = (refl, writes_is written o is)
new_if_writes true written o (inr is) = absurd (cc)
new_if_writes false written o (inl is) = absurd (cc)
new_if_writes false written o (inr is) = absurd (cc)

new_if_tries : (t : Bool) (tried o : Option (List ℕ)) → NewBy (if t then Tries tried else Leaves) o → (t ≡ true) × (tried ≡ o)
new_if_tries true tried o (inl is) = absurd (cc)
new_if_tries true tried o (inr is) = (refl, tries_is tried o is)
new_if_tries false tried o (inl is) = absurd (cc)
new_if_tries false tried o (inr is) = absurd (cc)

module _ (name : List ℕ) where
  puts_it : (node inc : ℕ) (put bytes : List ℕ) (answer : KeeperAnswer) (o : Option (List ℕ)) → IsTrue (bytes_eq name put) → Some bytes ≡ o → Writing name (Call node inc (Put put bytes) answer) o
  puts_it node inc put bytes answer o same is =
      subst (Writing name (Call node inc (Put put bytes) answer)) is (Puts node inc bytes answer (ap (λ n. Call node inc (Put n bytes) answer) (sym (same_bytes name put same))))

  deletes_it : (node inc : ℕ) (deleted : List ℕ) (answer : KeeperAnswer) (o : Option (List ℕ)) → IsTrue (bytes_eq name deleted) → None ≡ o → Writing name (Call node inc (Delete deleted) answer) o
  deletes_it node inc deleted answer o same is =
      subst (Writing name (Call node inc (Delete deleted) answer)) is (Deletes node inc answer (ap (λ n. Call node inc (Delete n) answer) (sym (same_bytes name deleted same))))

  call_writing : (node inc : ℕ) (call : KeeperCall) (answer : KeeperAnswer) (o : Option (List ℕ)) → NewBy (call_effect name call answer) o → Writing name (Call node inc call answer) o
  call_writing node inc (Put put bytes) Done o new = (let is = new_if_writes (bytes_eq name put) (Some bytes) o new in puts_it node inc put bytes Done o is.0 is.1)
  call_writing node inc (Put put bytes) Failed o new = (let is = new_if_tries (bytes_eq name put) (Some bytes) o new in puts_it node inc put bytes Failed o is.0 is.1)
  call_writing node inc (Delete deleted) Done o new = (let is = new_if_writes (bytes_eq name deleted) None o new in deletes_it node inc deleted Done o is.0 is.1)
  call_writing node inc (Delete deleted) Failed o new = (let is = new_if_tries (bytes_eq name deleted) None o new in deletes_it node inc deleted Failed o is.0 is.1)
  call_writing node inc call answer o new = absurd (no_new_sight (shown_by name call answer) o new)

  pub writing : (act : DoorAct) (o : Option (List ℕ)) → NewAt name act o → Writing name act o
  writing (Call node inc call answer) o new = call_writing node inc call answer o new
  writing act o (inl is) = absurd (cc)
  writing act o (inr is) = absurd (cc)

  -- one outcome may be new
  pub new_same : (effect : Effect) (o p : Option (List ℕ)) → NewBy effect o → NewBy effect p → o ≡ p
  new_same effect o p (inl a) (inl b) = writes_is o p (sym a ∙ b)
  new_same effect o p (inl a) (inr b) = (let no : Writes o ≡ Tries p = sym a ∙ b in absurd (cc))
  new_same effect o p (inr a) (inl b) = (let no : Tries o ≡ Writes p = sym a ∙ b in absurd (cc))
  new_same effect o p (inr a) (inr b) = tries_is o p (sym a ∙ b)

  pub new_put : (act : DoorAct) (bytes : List ℕ) → NewAt name act (Some bytes) → (node : ℕ) × (inc : ℕ) × (answer : KeeperAnswer) × (act ≡ Call node inc (Put name bytes) answer)
  new_put act bytes new = from (Some bytes) bytes refl (writing act (Some bytes) new)
    where
      from : (o : Option (List ℕ)) (b : List ℕ) → o ≡ Some b → Writing name act o → (node : ℕ) × (inc : ℕ) × (answer : KeeperAnswer) × (act ≡ Call node inc (Put name b) answer)
      from o b is (Puts node inc c answer it) = (node, inc, answer, it ∙ ap (λ d. Call node inc (Put name d) answer) (let same : c ≡ b = cc in same))
      from o b is (Deletes node inc answer it) = absurd (cc)

  pub new_delete : (act : DoorAct) → NewAt name act None → (node : ℕ) × (inc : ℕ) × (answer : KeeperAnswer) × (act ≡ Call node inc (Delete name) answer)
  new_delete act new = from None refl (writing act None new)
    where
      from : (o : Option (List ℕ)) → o ≡ None → Writing name act o → (node : ℕ) × (inc : ℕ) × (answer : KeeperAnswer) × (act ≡ Call node inc (Delete name) answer)
      from o is (Deletes node inc answer it) = (node, inc, answer, it)
      from o is (Puts node inc c answer it) = absurd (cc)

-- where nothing is deleted, no entry is a delete
pub no_delete : (history : List DoorEntry) (entry : DoorEntry) → DeletesNothing (history ++ entry ∷ []) → DeletesNothing history × IsFalse (is_delete entry.act)
no_delete history entry none =
    let both = all_append (λ (e : DoorEntry). not (is_delete e.act)) history (entry ∷ []) none in
    (both.0, not-true (is_delete entry.act) (and_parts (not (is_delete entry.act)) true both.1).0)

-- a name is written by an act, if it is one
pub new_name : (name other : List ℕ) (act : DoorAct) (o p : Option (List ℕ)) → NewAt name act o → NewAt other act p → name ≡ other
new_name name other act o p a b = from o p (writing name act o a) (writing other act p b)
  where
    put_name : (m n k l : ℕ) (x y : List ℕ) (c d : List ℕ) (r s : KeeperAnswer) → Call m n (Put x c) r ≡ Call k l (Put y d) s → x ≡ y
    put_name m n k l x y c d r s e = cc

    delete_name : (m n k l : ℕ) (x y : List ℕ) (r s : KeeperAnswer) → Call m n (Delete x) r ≡ Call k l (Delete y) s → x ≡ y
    delete_name m n k l x y r s e = cc

    not_both : (m n k l : ℕ) (x y : List ℕ) (c : List ℕ) (r s : KeeperAnswer) → Call m n (Put x c) r ≡ Call k l (Delete y) s → ⊥
    not_both m n k l x y c r s e = cc

    from : (o p : Option (List ℕ)) → Writing name act o → Writing other act p → name ≡ other
    from o p (Puts m n b r is) (Puts k l c s it) = put_name m n k l name other b c r s (sym is ∙ it)
    from o p (Puts m n b r is) (Deletes k l s it) = absurd (not_both m n k l name other b r s (sym is ∙ it))
    from o p (Deletes m n r is) (Puts k l c s it) = absurd (not_both k l m n other name c s r (sym it ∙ is))
    from o p (Deletes m n r is) (Deletes k l s it) = delete_name m n k l name other r s (sym is ∙ it)

-- ---- acts that show a name absent

sight_absent : (sight : Option (Option (List ℕ))) → IsTrue (is_absence sight) → sight_effect sight ≡ Shows None
sight_absent (Some None) absent = refl
sight_absent (Some (Some bytes)) absent = absurd (false≢true absent)
sight_absent None absent = absurd (false≢true absent)

module _ (name : List ℕ) where
  call_absent : (call : KeeperCall) (answer : KeeperAnswer) → IsTrue (is_absence (shown_by name call answer)) → call_effect name call answer ≡ Shows None
  call_absent (Put put bytes) Done absent = absurd (false≢true absent)
  call_absent (Put put bytes) Failed absent = absurd (false≢true absent)
  call_absent (Delete deleted) Done absent = absurd (false≢true absent)
  call_absent (Delete deleted) Failed absent = absurd (false≢true absent)
  call_absent call answer absent = sight_absent (shown_by name call answer) absent

  pub absent_effect : (act : DoorAct) → IsTrue (is_absence (shown_in name act)) → effect_of name act ≡ Shows None
  absent_effect (Call node inc call answer) absent = call_absent call answer absent
  absent_effect act absent = absurd (false≢true absent)

  pub deleted_effect : (act : DoorAct) → IsTrue (deletes name act) → effect_of name act ≡ Writes None
  deleted_effect (Call node inc (Delete deleted) Done) is = ap (λ t. if t then Writes None else Leaves) is
  deleted_effect act other = absurd (false≢true other)

-- an entry that deletes a name, or shows it absent, leaves it so
pub gone_effect : (name : List ℕ) (entry : DoorEntry) → IsTrue (deletes name entry.act || shows_absent name entry) → Leaving (effect_of name entry.act) None
gone_effect name entry gone = elim (or_cases (deletes name entry.act) (shows_absent name entry) gone) [
  | inl deleted ↦ inr (deleted_effect name entry.act deleted)
  | inr absent ↦ inl (absent_effect name entry.act absent)
]
