-- The door's history with one more entry.
use Rattle.std.proofs.Common.{◌≡◌, ℕ, suc, ◌+◌, Bool, true, false, ◌||◌, List, [], ◌∷◌, ◌++◌, length, refl, sym, ap, subst, ◌∙◌, append_assoc, append-nil, arith}
use Rattle.std.specs.Prelude.{IsTrue, Option, Some, None, if◌then◌else◌}
use Rattle.std.specs.List.{list_any, list_all}
use Rattle.std.proofs.lemmas.Bool.{and_parts, and_from}
use Rattle.std.proofs.lemmas.List.Concat.{flat_map-append}
use Rattle.std.proofs.lemmas.List.Sums.{fold-append}
use Rattle.aft_model.specs.declared.door.DoorAct.{DoorAct}
use Rattle.aft_model.specs.declared.door.DoorEntry.{DoorEntry}
use Rattle.aft_model.specs.Bytes.{HasBytes, acts_bytes}
use Rattle.aft_model.specs.History.{each_after, last_place, last_place_from}
use Rattle.aft_model.specs.LegalDoor.{Legal, may_follow}
use Rattle.aft_model.specs.Membership.{Incarnation, fenced, fenced_in, the_office, up_after, ups}

each_after_more : {A : Type 0} (rule : List A → A → Bool) (before xs : List A) (x : A) → IsTrue (each_after rule before xs) → IsTrue (rule (before ++ xs) x)
    → IsTrue (each_after rule before (xs ++ x ∷ []))
each_after_more rule before [] x passed last = and_from _ _ (subst (λ h. IsTrue (rule h x)) (append-nil before) last) refl
each_after_more rule before (y ∷ ys) x passed last =
    let parts = and_parts (rule before y) (each_after rule (before ++ y ∷ []) ys) passed in
    and_from _ _ parts.0 (each_after_more rule (before ++ y ∷ []) ys x parts.1 (subst (λ h. IsTrue (rule h x)) (sym (append_assoc before (y ∷ []) ys)) last))

all_more : {A : Type 0} (test : A → Bool) (xs : List A) (x : A) → IsTrue (list_all test xs) → IsTrue (test x) → IsTrue (list_all test (xs ++ x ∷ []))
all_more test [] x passed last = and_from _ _ last refl
all_more test (y ∷ ys) x passed last = let parts = and_parts (test y) (list_all test ys) passed in and_from _ _ parts.0 (all_more test ys x parts.1 last)

any_more : {A : Type 0} (test : A → Bool) (xs : List A) (x : A) → list_any test (xs ++ x ∷ []) ≡ (list_any test xs || test x)
any_more test [] x = right (test x)
  where
    right : (t : Bool) → (t || false) ≡ t
    right true = refl
    right false = refl
any_more test (y ∷ ys) x = ap (λ t. test y || t) (any_more test ys x) ∙ either (test y) (list_any test ys) (test x)
  where
    either : (a b c : Bool) → (a || (b || c)) ≡ (a || b || c)
    either true b c = refl
    either false b c = refl

last_from : {A : Type 0} (test : A → Bool) (n : ℕ) (before : Option ℕ) (xs : List A) (x : A)
    → last_place_from test n before (xs ++ x ∷ []) ≡ (if test x then Some (n + length xs) else last_place_from test n before xs)
last_from test n before [] x = ap (λ k. if test x then Some k else before) (let e : n ≡ n + 0 = omega arith in e)
last_from test n before (y ∷ ys) x =
    last_from test (suc n) (if test y then Some n else before) ys x
    ∙ ap (λ k. if test x then Some k else last_place_from test (suc n) (if test y then Some n else before) ys) (let e : suc n + length ys ≡ n + length (y ∷ ys) = omega arith in e)

-- the last place, with one more element
pub last_more : {A : Type 0} (test : A → Bool) (xs : List A) (x : A) → last_place test (xs ++ x ∷ []) ≡ (if test x then Some (length xs) else last_place test xs)
last_more test xs x = last_from test 0 None xs x ∙ ap (λ k. if test x then Some k else last_place test xs) (let e : 0 + length xs ≡ length xs = omega arith in e)

pub legal_more : (history : List DoorEntry) (e : DoorEntry) → Legal history → IsTrue (may_follow history e) → Legal (history ++ e ∷ [])
legal_more history e legal last = each_after_more may_follow [] history e legal last

pub bytes_more : (history : List DoorEntry) (e : DoorEntry) → HasBytes history → IsTrue (acts_bytes e.act) → HasBytes (history ++ e ∷ [])
bytes_more history e bytes last = all_more (λ (x : DoorEntry). acts_bytes x.act) history e bytes last

-- some entry passes a test, with one more
pub any_act : (test : DoorAct → Bool) (history : List DoorEntry) (e : DoorEntry) → list_any (λ x. test x.act) (history ++ e ∷ []) ≡ (list_any (λ x. test x.act) history || test e.act)
any_act test history e = any_more (λ (x : DoorEntry). test x.act) history e

pub ups_more : (history : List DoorEntry) (e : DoorEntry) → ups (history ++ e ∷ []) ≡ up_after (ups history) e.act
ups_more history e = fold-append (λ (before : List Incarnation) (x : DoorEntry). up_after before x.act) (the_office ∷ []) history (e ∷ [])

pub fenced_more : (history : List DoorEntry) (e : DoorEntry) → fenced (history ++ e ∷ []) ≡ fenced history ++ fenced_in e.act
fenced_more history e =
    flat_map-append (λ (x : DoorEntry). fenced_in x.act) history (e ∷ []) ∙ ap (λ xs. fenced history ++ xs) (append-nil (fenced_in e.act))
