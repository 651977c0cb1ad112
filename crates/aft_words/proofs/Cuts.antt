-- How the parts of words begin.
use Rattle.std.proofs.Common.{Bool, List, None, Some, [], codes, drop, false, if◌then◌else◌, not, refl, true, ℕ, ◌&&◌, ◌≡◌, ◌∷◌}
use Rattle.std.specs.Str.{bytes_eq}
use Rattle.aft_words.specs.Parts.{alone, is_hyphened, option, parts_of, takes_next, value_behind}

chosen_value : (word next value : List ℕ) (words : List (List ℕ)) (takes : Bool) → (if takes then Some next else None) ≡ Some value
    → (if takes then option word next ∷ parts_of words else alone word ∷ parts_of (next ∷ words)) ≡ option word value ∷ parts_of words
chosen_value word next value words true e = let same : next ≡ value = cc in rw same refl
chosen_value word next value words false e = absurd (cc)

chosen_none : (word next : List ℕ) (words : List (List ℕ)) (takes : Bool) → (if takes then Some next else None) ≡ None
    → (if takes then option word next ∷ parts_of words else alone word ∷ parts_of (next ∷ words)) ≡ alone word ∷ parts_of (next ∷ words)
chosen_none word next words true e = absurd (cc)
chosen_none word next words false e = refl

-- an option with the word behind it
pub parts_of-value : (word value : List ℕ) (words : List (List ℕ)) → bytes_eq word (codes "--") ≡ false → value_behind word words ≡ Some value
    → parts_of (word ∷ words) ≡ option word value ∷ parts_of (drop 1 words)
parts_of-value word value [] other takes = absurd (cc)
parts_of-value word value (next ∷ words) other takes = rw other (chosen_value word next value words (takes_next word && not (is_hyphened next)) takes)

-- a word by itself
pub parts_of-alone : (word : List ℕ) (words : List (List ℕ)) → bytes_eq word (codes "--") ≡ false → value_behind word words ≡ None
    → parts_of (word ∷ words) ≡ alone word ∷ parts_of words
parts_of-alone word [] other takes = rw other refl
parts_of-alone word (next ∷ words) other takes = rw other (chosen_none word next words (takes_next word && not (is_hyphened next)) takes)
