-- What stands one behind the other is read one behind the other.
use Rattle.std.proofs.Common.{All, Bor, Err, List, None, Ok, Option, Result, Some, [], ap, append_assoc, arith, length, length-append, refl, suc, sym, true, true≢false, zero, ℕ, ◌++◌, ◌<◌, ◌≡◌, ◌≤◌, ◌∙◌, ◌∷◌}
use Rattle.std.specs.List.{flat_map}
use Rattle.std.specs.Option.{is_some}
use Rattle.std.proofs.lemmas.List.Splits.{length-slice_split}
use Rattle.std.proofs.lemmas.List.{append-nil}
use Rattle.std.proofs.lemmas.List.Elements.{All-head, All-tail}
use Rattle.aft_reply.specs.Gives.{◌>>=◌, Fails}
use Rattle.aft_reply.specs.Reading.{is_space, many, words_left}
use Rattle.aft_reply.specs.declared.fault.ReplyFault.{ReplyFault}
use Rattle.aft_reply.specs.declared.fault.ReplyFault.TheVariants.{BadReply, Memory}

-- one more of a kind, where words are left
pub many-step : {A : Type 0} (take : List (List ℕ) → Result (A × List (List ℕ)) ReplyFault) (n : ℕ) (before : List A) (words : List (List ℕ)) → 0 < length words
    → many take (suc n) before words ≡ (take words >>= λ it. many take n (before ++ it.0 ∷ []) it.1)
many-step take n before [] some = absurd (omega arith)
many-step take n before (word ∷ words) some = refl

many-behind : {A : Type 0} (take : List (List ℕ) → Result (A × List (List ℕ)) ReplyFault) (spell : A → List (List ℕ)) (P : A → Type 0) (n : ℕ) (before xs : List A)
    → ((x : A) → 0 < length (spell x)) → ((x : A) (rest : List (List ℕ)) → P x → take (spell x ++ rest) ≡ Ok (x, rest)) → length xs ≤ n → All P xs
    → many take n before (flat_map spell xs) ≡ Ok (before ++ xs)
many-behind take spell P n before [] some takes few all = ap Ok (sym (append-nil before))
many-behind take spell P zero before (x ∷ xs) some takes few all = absurd (omega arith)
many-behind take spell P (suc n) before (x ∷ xs) some takes few all =
    let words : 0 < length (spell x ++ flat_map spell xs) = omega (arith, some x, length-append (spell x) (flat_map spell xs)) in
    let here : take (spell x ++ flat_map spell xs) ≡ Ok (x, flat_map spell xs) = takes x (flat_map spell xs) (All-head P x xs all) in
    many-step take n before (spell x ++ flat_map spell xs) words
    ∙ rw here (many-behind take spell P n (before ++ x ∷ []) xs some takes (omega arith) (All-tail P x xs all) ∙ ap Ok (append_assoc before (x ∷ []) xs))

as_many : {A : Type 0} (spell : A → List (List ℕ)) (xs : List A) → ((x : A) → 0 < length (spell x)) → length xs ≤ length (flat_map spell xs)
as_many spell [] some = omega arith
as_many spell (x ∷ xs) some = omega (arith, some x, as_many spell xs some, length-append (spell x) (flat_map spell xs))

-- all of them, by as many steps as they have words
pub many-all : {A : Type 0} (take : List (List ℕ) → Result (A × List (List ℕ)) ReplyFault) (spell : A → List (List ℕ)) (P : A → Type 0) (xs : List A)
    → ((x : A) → 0 < length (spell x)) → ((x : A) (rest : List (List ℕ)) → P x → take (spell x ++ rest) ≡ Ok (x, rest)) → All P xs
    → many take (length (flat_map spell xs)) [] (flat_map spell xs) ≡ Ok xs
many-all take spell P xs some takes all = many-behind take spell P (length (flat_map spell xs)) [] xs some takes (as_many spell xs some) all

-- what was taken so far, and the words that are left, make the same as all words do of none
abbrev pub Left : {A : Type 0} → (List (List ℕ) → Result (A × List (List ℕ)) ReplyFault) → List (List ℕ) → List A → List (List ℕ) → Type 0
Left take all before words = (n : ℕ) × (length words ≤ n) × (many take n before words ≡ many take (length all) [] all)

-- one more was taken
pub left-next : {A : Type 0} (take : List (List ℕ) → Result (A × List (List ℕ)) ReplyFault) (all : List (List ℕ)) (before : List A) (words rest : List (List ℕ)) (x : A)
    → Left take all before words → take words ≡ Ok (x, rest) → length rest < length words → Left take all (before ++ x ∷ []) rest
left-next take all before words rest x (zero, few, same) taken shorter = absurd (omega arith)
left-next take all before words rest x (suc n, few, same) taken shorter =
    (n, omega arith, sym (many-step take n before words (omega arith) ∙ rw taken refl) ∙ same)

-- no more could be taken
pub left-fails : {A : Type 0} (take : List (List ℕ) → Result (A × List (List ℕ)) ReplyFault) (all : List (List ℕ)) (before : List A) (words : List (List ℕ)) (e : ReplyFault)
    → Left take all before words → 0 < length words → Fails e (take words) → Fails e (many take (length all) [] all)
left-fails take all before words Memory left some fails = tt
left-fails take all before words BadReply (zero, few, same) some fails = absurd (omega arith)
left-fails take all before words BadReply (suc n, few, same) some fails = sym same ∙ many-step take n before words some ∙ rw fails refl

-- something is left of the words
pub some_left : (left : Option (Bor (List ℕ))) → is_some left ≡ true → 0 < length (words_left left)
some_left None is = absurd (true≢false (sym is))
some_left (Some text) is = omega (arith, length-slice_split is_space text.now)

pub fails_with : {X : Type 0} (e : ReplyFault) (read : Result X ReplyFault) → read ≡ Err e → Fails e read
fails_with BadReply read is = is
fails_with Memory read is = tt
