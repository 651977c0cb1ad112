-- Contents go along with an answered call.
use Rattle.std.proofs.Common.{◌≡◌, ℕ, suc, Bool, true, false, List, [], ◌∷◌, ◌++◌, length, refl, sym, ap, subst, ◌∙◌, inl, inr, arith}
use Rattle.std.specs.Prelude.{All, Contains, Err, IfErr, IfOk, IfSome, IsTrue, None, Ok, Option, Result, Some, is_none}
use Rattle.std.specs.Cmp.Lexicographic.{pointwise}
use Rattle.std.specs.Option.{option_eq}
use Rattle.std.specs.Str.{bytes_eq}
use Rattle.std.proofs.lemmas.Bool.{and_from, le-leb}
use Rattle.std.specs.List.{list_all}
use Rattle.aft_keeper.specs.Calls.{ChangesBy, done_answer, get_answer, logged, page_answer}
use Rattle.aft_keeper.specs.Contents.{Ascends, IsPage, bytes_at, is_scanned, page_of, with_pair, without}
use Rattle.aft_keeper.specs.declared.keeper.KeeperAnswer.{KeeperAnswer}
use Rattle.aft_keeper.specs.declared.keeper.KeeperAnswer.TheVariants as answers
use Rattle.aft_keeper.specs.declared.keeper.KeeperCall.{KeeperCall}
use Rattle.aft_keeper.specs.declared.keeper.KeeperCall.TheVariants.{Delete, Get, Put, Scan}
use Rattle.aft_keeper.specs.declared.keeper.KeeperFault.{KeeperFault}
use Rattle.aft_keeper.specs.declared.keeper.KeeperFault.TheVariants.{Failed, Memory as Lacked}
use Rattle.aft_keeper.specs.declared.keeper.Pair.{Pair}
use Rattle.aft_model.specs.declared.caller.Caller.{Caller}
use Rattle.aft_model.specs.Contents.{if_shown, same_pair}
use Rattle.aft_model.proofs.Sights.{bytes_eq-refl}
use Rattle.aft_door.specs.declared.fault.DoorFault.{DoorFault}
use Rattle.aft_door.specs.declared.fault.DoorFault.TheVariants.{Failed as DoorFailed, Memory}
use Rattle.aft_door.specs.Calls.{Asks, ContentsGo, DoorView, Shows, Tells, may_be_untold, with_call}
use Rattle.aft_door.specs.Refusals.{RefusedOrFailed}
use Rattle.aft_model.specs.LegalDoor.{ascends, is_page, may_answer}

first_of_two : (a b x : List Pair) → x ≡ a → Contains (a ∷ b ∷ []) x
first_of_two a b x is = (0, omega arith, sym is)

second_of_two : (a b x : List Pair) → x ≡ b → Contains (a ∷ b ∷ []) x
second_of_two a b x is = (1, omega arith, sym is)

shown_stays : (t : Bool) (contents : List Pair) → t ≡ true → Contains (if_shown t contents ++ []) contents
shown_stays true contents is = (0, omega arith, refl)
shown_stays false contents is = absurd (cc)

-- a write that failed
pub put_failed : (before after : Option (List Pair)) (who : Caller) (name bytes : List ℕ) → ChangesBy {T = Unit} (with_pair name bytes) before (Err Failed) after → ContentsGo before who (Put name bytes) (Some answers.Failed) after
put_failed None after who name bytes changes = changes
put_failed (Some b) None who name bytes changes = changes
put_failed (Some b) (Some a) who name bytes (inl done) = first_of_two (with_pair name bytes b) b a done
put_failed (Some b) (Some a) who name bytes (inr not_done) = second_of_two (with_pair name bytes b) b a not_done

pub delete_failed : (before after : Option (List Pair)) (who : Caller) (name : List ℕ) → ChangesBy {T = Unit} (without name) before (Err Failed) after → ContentsGo before who (Delete name) (Some answers.Failed) after
delete_failed None after who name changes = changes
delete_failed (Some b) None who name changes = changes
delete_failed (Some b) (Some a) who name (inl done) = first_of_two (without name b) b a done
delete_failed (Some b) (Some a) who name (inr not_done) = second_of_two (without name b) b a not_done

-- a get
pub get_failed : (before after : Option (List Pair)) (who : Caller) (name : List ℕ) → after ≡ before → ContentsGo before who (Get name) (Some answers.Failed) after
get_failed before after who name same = subst (ContentsGo before who (Get name) (Some answers.Failed)) (sym same) (stays before)
  where
    stays : (o : Option (List Pair)) → ContentsGo o who (Get name) (Some answers.Failed) o
    stays None = refl
    stays (Some b) = (0, omega arith, refl)

pub get_absent : (before after : Option (List Pair)) (who : Caller) (name : List ℕ) → after ≡ before → IfSome before (λ pairs. None ≡ bytes_at name pairs) → ContentsGo before who (Get name) (Some answers.Absent) after
get_absent before after who name same found = subst (ContentsGo before who (Get name) (Some answers.Absent)) (sym same) (stays before found)
  where
    stays : (o : Option (List Pair)) → IfSome o (λ pairs. None ≡ bytes_at name pairs) → ContentsGo o who (Get name) (Some answers.Absent) o
    stays None found = refl
    stays (Some b) found = shown_stays (is_none (bytes_at name b)) b (sym (ap is_none found))

pub get_found : (before after : Option (List Pair)) (who : Caller) (name bytes : List ℕ) → after ≡ before → IfSome before (λ pairs. Some bytes ≡ bytes_at name pairs)
    → ContentsGo before who (Get name) (Some (answers.Found bytes)) after
get_found before after who name bytes same found = subst (ContentsGo before who (Get name) (Some (answers.Found bytes))) (sym same) (stays before found)
  where
    stays : (o : Option (List Pair)) → IfSome o (λ pairs. Some bytes ≡ bytes_at name pairs) → ContentsGo o who (Get name) (Some (answers.Found bytes)) o
    stays None found = refl
    stays (Some b) found = shown_stays (option_eq bytes_eq (bytes_at name b) (Some bytes)) b (ap (λ o. option_eq bytes_eq o (Some bytes)) (sym found) ∙ bytes_eq-refl bytes)

-- a scan
pub scan_failed : (before after : Option (List Pair)) (who : Caller) (prefix from : List ℕ) (limit : ℕ) → after ≡ before → ContentsGo before who (Scan prefix from limit) (Some answers.Failed) after
scan_failed before after who prefix from limit same = subst (ContentsGo before who (Scan prefix from limit) (Some answers.Failed)) (sym same) (stays before)
  where
    stays : (o : Option (List Pair)) → ContentsGo o who (Scan prefix from limit) (Some answers.Failed) o
    stays None = refl
    stays (Some b) = (0, omega arith, refl)

same_pairs : (pairs : List Pair) → pointwise same_pair pairs pairs ≡ true
same_pairs [] = refl
same_pairs (p ∷ pairs) = and_from _ _ (and_from _ _ (bytes_eq-refl p.name) (bytes_eq-refl p.bytes)) (same_pairs pairs)

pub scan_page : (before after : Option (List Pair)) (who : Caller) (prefix from : List ℕ) (limit : ℕ) (page : List Pair) → after ≡ before → IfSome before (λ pairs. page ≡ page_of prefix from limit pairs)
    → ContentsGo before who (Scan prefix from limit) (Some (answers.Page page)) after
scan_page before after who prefix from limit page same shown = subst (ContentsGo before who (Scan prefix from limit) (Some (answers.Page page))) (sym same) (stays before shown)
  where
    stays : (o : Option (List Pair)) → IfSome o (λ pairs. page ≡ page_of prefix from limit pairs) → ContentsGo o who (Scan prefix from limit) (Some (answers.Page page)) o
    stays None shown = refl
    stays (Some b) shown = shown_stays (pointwise same_pair (page_of prefix from limit b) page) b (ap (λ p. pointwise same_pair (page_of prefix from limit b) p) shown ∙ same_pairs (page_of prefix from limit b))

-- ---- each call, by what the store answered

pub get_goes : (before after : Option (List Pair)) (who : Caller) (name : List ℕ) (found : Result (Option (List ℕ)) KeeperFault) → after ≡ before → IfOk found (λ f. IfSome before (λ pairs. f ≡ bytes_at name pairs))
    → ContentsGo before who (Get name) (get_answer found) after
get_goes before after who name (Ok None) same shown = get_absent before after who name same shown
get_goes before after who name (Ok (Some bytes)) same shown = get_found before after who name bytes same shown
get_goes before after who name (Err Failed) same shown = get_failed before after who name same
get_goes before after who name (Err Lacked) same shown = same

pub scan_goes : (before after : Option (List Pair)) (who : Caller) (prefix from : List ℕ) (limit : ℕ) (page : Result (List Pair) KeeperFault) → after ≡ before → IfOk page (λ p. IfSome before (λ pairs. p ≡ page_of prefix from limit pairs))
    → ContentsGo before who (Scan prefix from limit) (page_answer page) after
scan_goes before after who prefix from limit (Ok page) same shown = scan_page before after who prefix from limit page same shown
scan_goes before after who prefix from limit (Err Failed) same shown = scan_failed before after who prefix from limit same
scan_goes before after who prefix from limit (Err Lacked) same shown = same

only_one : (a x : List Pair) → x ≡ a → Contains (a ∷ []) x
only_one a x is = (0, omega arith, sym is)

-- what lacked memory stays
unchanged : (effect : List Pair → List Pair) (before after : Option (List Pair)) → ChangesBy {T = Unit} effect before (Err Lacked) after → after ≡ before
unchanged effect None after changes = changes
unchanged effect (Some b) None changes = absurd changes
unchanged effect (Some b) (Some a) changes = ap (λ x. Some x) changes

pub put_goes : (before after : Option (List Pair)) (who : Caller) (name bytes : List ℕ) (done : Result Unit KeeperFault) → ChangesBy (with_pair name bytes) before done after → ContentsGo before who (Put name bytes) (done_answer done) after
put_goes None after who name bytes (Ok u) changes = changes
put_goes (Some b) None who name bytes (Ok u) changes = changes
put_goes (Some b) (Some a) who name bytes (Ok u) changes = only_one (with_pair name bytes b) a changes
put_goes before after who name bytes (Err Failed) changes = put_failed before after who name bytes changes
put_goes before after who name bytes (Err Lacked) changes = unchanged (with_pair name bytes) before after changes

pub delete_goes : (before after : Option (List Pair)) (who : Caller) (name : List ℕ) (done : Result Unit KeeperFault) → ChangesBy (without name) before done after → ContentsGo before who (Delete name) (done_answer done) after
delete_goes None after who name (Ok u) changes = changes
delete_goes (Some b) None who name (Ok u) changes = changes
delete_goes (Some b) (Some a) who name (Ok u) changes = only_one (without name b) a changes
delete_goes before after who name (Err Failed) changes = delete_failed before after who name changes
delete_goes before after who name (Err Lacked) changes = unchanged (without name) before after changes

-- a call was asked, and its answer is known
pub asked_so : (old new : DoorView) (who : Caller) (asked : KeeperCall) (answer known : Option KeeperAnswer) → answer ≡ known → new.history ≡ with_call old.history who asked known → new.log ≡ logged old.log asked answer
    → ContentsGo old.contents who asked answer new.contents → new.first_contents ≡ old.first_contents → new.first_log ≡ old.first_log → Asks old who asked known new
asked_so old new who asked answer known is history log contents first_contents first_log = record {
  history = history;
  log = log ∙ ap (logged old.log asked) is;
  contents = subst (λ a. ContentsGo old.contents who asked a new.contents) is contents;
  first_contents = first_contents;
  first_log = first_log;
}

-- the same of what the caller is told
pub asks_told : (old new : DoorView) (who : Caller) (asked : KeeperCall) (told known : Option KeeperAnswer) → told ≡ known → Asks old who asked known new → Asks old who asked told new
asks_told old new who asked told known is asks = subst (λ a. Asks old who asked a new) (sym is) asks

-- ---- what is told of an answer

-- of a copy of what was shown, or want of memory
module _ {T : Type 0} (r : Result T DoorFault) (x : T) (missing : IfErr r (λ e. e ≡ Memory)) where
  pub tells_copied : (told : Result T DoorFault → Option KeeperAnswer) (answer : KeeperAnswer) → told (Ok x) ≡ Some answer → IsTrue (may_be_untold (Some answer)) → IfOk r (λ y. y ≡ x) → Tells told answer r
  tells_copied told answer is untold copied = cases r missing copied
    where
      cases : (r : Result T DoorFault) → IfErr r (λ e. e ≡ Memory) → IfOk r (λ y. y ≡ x) → Tells told answer r
      cases (Ok y) missing copied = ap (λ z. told (Ok z)) copied ∙ is
      cases (Err e) missing copied = subst (λ f. Tells told answer (Err f)) (sym missing) untold

  pub refused_copied : RefusedOrFailed None r
  refused_copied = cases r missing
    where
      cases : (r : Result T DoorFault) → IfErr r (λ e. e ≡ Memory) → RefusedOrFailed None r
      cases (Ok y) missing = tt
      cases (Err e) missing = subst (λ f. RefusedOrFailed {T = T} None (Err f)) (sym missing) tt

  pub never_failed : r ≡ Err DoorFailed → ⊥
  never_failed is = let e : DoorFailed ≡ Memory = subst (λ q. IfErr q (λ e. e ≡ Memory)) is missing in cc

-- what the caller is told, of a call that was asked
pub shows_told : {T : Type 0} (told : Result T DoorFault → Option KeeperAnswer) (old : DoorView) (who : Caller) (asked : KeeperCall) (new : DoorView) (r : Result T DoorFault) (answer : KeeperAnswer)
    → Tells told answer r → Asks old who asked (Some answer) new → Shows told old who asked r new
shows_told told old who asked new (Ok x) answer tells asks = subst (λ o. Asks old who asked o new) (sym tells) asks
shows_told told old who asked new (Err Memory) answer tells asks = (Some answer, tells, asks)
shows_told told old who asked new (Err fault) answer tells asks = subst (λ o. Asks old who asked o new) (sym tells) asks

-- the shape of a page, by its test
pub page_is : (prefix from : List ℕ) (limit : ℕ) (page : List Pair) → IsPage prefix from limit page → IsTrue (is_page prefix from limit page)
page_is prefix from limit page shape = and_from _ _ (and_from _ _ (scanned page shape.scanned) (in_order page shape.ascends)) (le-leb (length page) limit shape.few)
  where
    scanned : (pairs : List Pair) → All (λ (p : Pair). IsTrue (is_scanned prefix from p.name)) pairs → IsTrue (list_all (λ (p : Pair). is_scanned prefix from p.name) pairs)
    scanned [] each = refl
    scanned (p ∷ pairs) each = and_from _ _ (each 0 p (omega arith)) (scanned pairs (λ k d lt. each (suc k) d (omega arith)))

    in_order : (pairs : List Pair) → Ascends pairs → IsTrue (ascends pairs)
    in_order [] up = refl
    in_order (p ∷ []) up = refl
    in_order (p ∷ q ∷ pairs) up = and_from _ _ up.0 (in_order (q ∷ pairs) up.1)

-- what a scan answered is an answer to it
pub page_answers : (prefix from : List ℕ) (limit : ℕ) (page : Result (List Pair) KeeperFault) (answer : KeeperAnswer) → page_answer page ≡ Some answer → IfOk page (IsPage prefix from limit) → IsTrue (may_answer (Scan prefix from limit) answer)
page_answers prefix from limit (Ok pairs) answer is shape = let e : answers.Page pairs ≡ answer = cc in subst (λ a. IsTrue (may_answer (Scan prefix from limit) a)) e (page_is prefix from limit pairs shape)
page_answers prefix from limit (Err Failed) answer is shape = let e : answers.Failed ≡ answer = cc in subst (λ a. IsTrue (may_answer (Scan prefix from limit) a)) e refl
page_answers prefix from limit (Err Lacked) answer is shape = absurd (cc)
