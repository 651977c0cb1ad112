-- Words behind a first one.
use Rattle.std.proofs.Common.{List, [], ap, length, sym, take, ℕ, ◌++◌, ◌≡◌, ◌≤◌, ◌∙◌, ◌∷◌}
use Rattle.std.specs.List.{flat_map}
use Rattle.std.proofs.lemmas.List.{append-nil, take_all}
use Rattle.aft_model.specs.ReplyText.{spaced}
use Rattle.aft_reply.specs.Behind.{behind}

-- a first word, and what stands behind it
pub spaced-first : (word : List ℕ) (words : List (List ℕ)) → spaced (word ∷ words) ≡ word ++ behind words
spaced-first word [] = sym (append-nil word)
spaced-first word (next ∷ words) = ap (λ text. word ++ 32 ∷ text) (spaced-first next words)

-- a first word and all pieces, of which as many were taken as there are
pub all_pieces : {A : Type 0} (word text : List ℕ) (pieces : A → List (List ℕ)) (xs : List A) (i : ℕ) → length xs ≤ i → text ≡ word ++ behind (flat_map pieces (take i xs))
    → text ≡ spaced (word ∷ flat_map pieces xs)
all_pieces word text pieces xs i all so_far =
    so_far ∙ ap (λ ys. word ++ behind (flat_map pieces ys)) (take_all i xs all) ∙ sym (spaced-first word (flat_map pieces xs))
