-- What the first line and the first word of a text are.
use Rattle.std.proofs.Common.{Bool, List, None, Some, [], add-one, ap, arith, cond, drop, drop-cons, false, get_or, inl, inr, length, length-drop, length-take, lit<, nat_lt, not, position, refl, suc, sym, take, true, true≢false, zero, ℕ, ◌+◌, ◌<◌, ◌==◌, ◌≡◌, ◌≤◌, ◌∙◌, ◌∷◌, ◌⊎◌}
use Rattle.std.specs.List.{after_first, before_first, filter, position_or_len, slice_split}
use Rattle.std.specs.Str.{IsAscii}
use Rattle.std.specs.Str.Lines.{lines, lines_of_parts, strip_carriage_return}
use Rattle.std.proofs.lemmas.Bool.{cases_lt}
use Rattle.std.proofs.lemmas.Bool.Decides.{nat_tests}
use Rattle.std.proofs.lemmas.List.{drop_all, get_or-drop, get_or-take, get_or_past}
use Rattle.std.proofs.lemmas.List.Elements.{All-from_get_or}
use Rattle.std.proofs.lemmas.List.Splits.{length-slice_split, slice_split-cons_yes, slice_split_first, slice_split_none}
use Rattle.std.proofs.lemmas.List.Sums.{fails_before_first, passes_at_first}
use Rattle.aft_script.specs.Words.{is_gap, words_of}

-- by whether the place is within the list
found : (b : Bool) (n m i : ℕ) → nat_lt n m ≡ b → cond b (Some n) None ≡ Some i → (n ≡ i) × (i < m)
found true n m i test is = let e : n ≡ i = cc in (e, grind (arith, nat_tests))
found false n m i test is = absurd (cc)

not_found : (b : Bool) (n m : ℕ) → nat_lt n m ≡ b → cond b (Some n) None ≡ None → m ≤ n
not_found true n m test is = absurd (cc)
not_found false n m test is = grind (arith, nat_tests)

-- where the first element that passes stands
pub position_some : {X : Type 0} (p : X → Bool) (xs : List X) (i : ℕ) → position p xs ≡ Some i → (position_or_len p xs ≡ i) × (i < length xs)
position_some p xs i is = found (nat_lt (position_or_len p xs) (length xs)) (position_or_len p xs) (length xs) i refl is

pub position_none : {X : Type 0} (p : X → Bool) (xs : List X) → position p xs ≡ None → length xs ≤ position_or_len p xs
position_none p xs is = not_found (nat_lt (position_or_len p xs) (length xs)) (position_or_len p xs) (length xs) refl is

-- what a list is cut into at its first element that passes
cut_first : (p : ℕ → Bool) (xs : List ℕ) (i : ℕ) → position p xs ≡ Some i → slice_split p xs ≡ take i xs ∷ slice_split p (drop (i + 1) xs)
cut_first p xs i is =
    let at = position_some p xs i is in
    let within : position_or_len p xs < length xs = omega (arith, at.0, at.1) in
    let first : slice_split p xs ≡ before_first p xs ∷ slice_split p (after_first p xs) = slice_split_first p xs 0 within in
    rw at.0 at first

-- where none passes, the list is the one part
cut_none : (p : ℕ → Bool) (xs : List ℕ) → position p xs ≡ None → slice_split p xs ≡ xs ∷ []
cut_none p xs is =
    let far : length xs ≤ position_or_len p xs = position_none p xs is in
    slice_split_none p xs (All-from_get_or (λ x. p x ≡ false) xs 0 (λ k h. fails_before_first p xs k 0 (omega arith)))

-- a line in front of others
lines_more : (line : List ℕ) (parts : List (List ℕ)) → 0 < length parts → lines_of_parts (line ∷ parts) ≡ strip_carriage_return line ∷ lines_of_parts parts
lines_more line [] some = absurd (omega arith)
lines_more line (next ∷ parts) some = refl

-- a text with an LF
pub lines_cut : (text : List ℕ) (i : ℕ) → position (λ b. b == 10) text ≡ Some i → lines text ≡ strip_carriage_return (take i text) ∷ lines (drop (i + 1) text)
lines_cut text i is =
    let some : 0 < length (slice_split (λ b. b == 10) (drop (i + 1) text)) = omega (arith, length-slice_split (λ b. b == 10) (drop (i + 1) text)) in
    ap lines_of_parts (cut_first (λ b. b == 10) text i is) ∙ lines_more (take i text) (slice_split (λ b. b == 10) (drop (i + 1) text)) some

-- a text without an LF
pub lines_last : (text : List ℕ) → 0 < length text → position (λ b. b == 10) text ≡ None → lines text ≡ text ∷ []
lines_last text some is =
    let other : (length text == 0) ≡ false = grind (arith, nat_tests) in
    ap lines_of_parts (cut_none (λ b. b == 10) text is) ∙ rw other refl

-- a gap in front of a text cuts off no word
words_of-gap : (b : ℕ) (text : List ℕ) → is_gap b ≡ true → words_of (b ∷ text) ≡ words_of text
words_of-gap b text gap = ap (filter (λ word. not (length word == 0))) (slice_split-cons_yes is_gap b text gap)

words_of-gaps_either_way : (b : ℕ) (text : List ℕ) (gap : Bool) → is_gap b ≡ gap
    → words_of (drop (position_or_len (λ x. not (is_gap x)) text) text) ≡ words_of text
    → words_of (drop (position_or_len (λ x. not (is_gap x)) (b ∷ text)) (b ∷ text)) ≡ words_of (b ∷ text)
words_of-gaps_either_way b text true is rest =
    let at : position_or_len (λ x. not (is_gap x)) (b ∷ text) ≡ suc (position_or_len (λ x. not (is_gap x)) text) = rw is (omega arith) in
    ap (λ n. words_of (drop n (b ∷ text))) at ∙ rest ∙ sym (words_of-gap b text is)
words_of-gaps_either_way b text false is rest =
    let at : position_or_len (λ x. not (is_gap x)) (b ∷ text) ≡ 0 = rw is refl in
    ap (λ n. words_of (drop n (b ∷ text))) at

-- nor do all gaps in front of it
words_of-gaps : (text : List ℕ) → words_of (drop (position_or_len (λ b. not (is_gap b)) text) text) ≡ words_of text
words_of-gaps [] = refl
words_of-gaps (b ∷ text) = words_of-gaps_either_way b text (is_gap b) refl (words_of-gaps text)

-- a word in front of a gap
pub words_of-cut : (text : List ℕ) (i : ℕ) → 0 < i → position is_gap text ≡ Some i → words_of text ≡ take i text ∷ words_of (drop i text)
words_of-cut text i some is =
    let at = position_some is_gap text i is in
    let long : length (take i text) ≡ i = simp length-take (omega (arith, at.1)) in
    let kept : (length (take i text) == 0) ≡ false = grind (arith, nat_tests) in
    let within : position_or_len is_gap text < length text = omega (arith, at.0, at.1) in
    let first : is_gap (get_or text (position_or_len is_gap text) 0) ≡ true = passes_at_first is_gap text 0 within in
    let gap : is_gap (get_or text i 0) ≡ true = rw at.0 at first in
    let behind : drop i text ≡ get_or text i 0 ∷ drop (i + 1) text = rw add-one (drop-cons text i 0 at.1) in
    ap (filter (λ word. not (length word == 0))) (cut_first is_gap text i is)
    ∙ rw kept (ap (λ rest. take i text ∷ rest) (sym (words_of-gap (get_or text i 0) (drop (i + 1) text) gap) ∙ ap words_of (sym behind)))

-- a word at the end
pub words_of-last : (text : List ℕ) → 0 < length text → position is_gap text ≡ None → words_of text ≡ text ∷ []
words_of-last text some is =
    let kept : (length text == 0) ≡ false = grind (arith, nat_tests) in
    ap (filter (λ word. not (length word == 0))) (cut_none is_gap text is) ∙ rw kept refl

-- where the first word begins
pub words_of-start : (text : List ℕ) (i : ℕ) → position (λ b. not (is_gap b)) text ≡ Some i → words_of text ≡ words_of (drop i text)
words_of-start text i is =
    let at = position_some (λ b. not (is_gap b)) text i is in
    sym (words_of-gaps text) ∙ ap (λ n. words_of (drop n text)) at.0

pub words_of-none : (text : List ℕ) → position (λ b. not (is_gap b)) text ≡ None → words_of text ≡ []
words_of-none text is =
    let far : length text ≤ position_or_len (λ b. not (is_gap b)) text = position_none (λ b. not (is_gap b)) text is in
    sym (words_of-gaps text) ∙ ap words_of (drop_all (position_or_len (λ b. not (is_gap b)) text) text far)

word_some_by : (text : List ℕ) (i j : ℕ) → not (is_gap (get_or text i 0)) ≡ true → is_gap (get_or (drop i text) j 0) ≡ true → 0 < j
word_some_by text i zero letter gap =
    let same : get_or (drop i text) 0 0 ≡ get_or text i 0 = rw get_or-drop (ap (λ n. get_or text n 0) (omega arith)) in
    let both : not (is_gap (get_or text i 0)) ≡ false = ap (λ b. not (is_gap b)) (sym same) ∙ ap not gap in
    absurd (true≢false (sym letter ∙ both))
word_some_by text i (suc j) letter gap = omega arith

-- no gap stands where the first word begins, so that the next one stands behind that
pub word_is_some : (text : List ℕ) (i j : ℕ) → position (λ b. not (is_gap b)) text ≡ Some i → position is_gap (drop i text) ≡ Some j → 0 < j
word_is_some text i j start end =
    let at = position_some (λ b. not (is_gap b)) text i start in
    let within : position_or_len (λ b. not (is_gap b)) text < length text = omega (arith, at.0, at.1) in
    let first : not (is_gap (get_or text (position_or_len (λ b. not (is_gap b)) text) 0)) ≡ true = passes_at_first (λ b. not (is_gap b)) text 0 within in
    let letter : not (is_gap (get_or text i 0)) ≡ true = rw at.0 at first in
    let gaps = position_some is_gap (drop i text) j end in
    let inside : position_or_len is_gap (drop i text) < length (drop i text) = omega (arith, gaps.0, gaps.1) in
    let next : is_gap (get_or (drop i text) (position_or_len is_gap (drop i text)) 0) ≡ true = passes_at_first is_gap (drop i text) 0 inside in
    let gap : is_gap (get_or (drop i text) j 0) ≡ true = rw gaps.0 at next in
    word_some_by text i j letter gap

-- what a text is cut into, as the calls find it
pub line_and_rest : (text line rest : List ℕ) (i : ℕ) → position (λ b. b == 10) text ≡ Some i → i < length text → line ≡ strip_carriage_return (take i text) → rest ≡ drop (i + 1) text
    → (lines text ≡ line ∷ lines rest) × (length rest < length text)
line_and_rest text line rest i is within first behind =
    (lines_cut text i is ∙ rw (first, behind) refl, rw behind (simp length-drop (omega arith)))

pub last_line : (text rest : List ℕ) → 0 < length text → position (λ b. b == 10) text ≡ None → rest ≡ drop (length text) text
    → (lines text ≡ text ∷ lines rest) × (length rest < length text)
last_line text rest some is behind =
    let empty : rest ≡ [] = behind ∙ drop_all (length text) text (omega arith) in
    (lines_last text some is ∙ rw empty refl, rw empty some)

pub word_and_rest : (text from word rest : List ℕ) (i j : ℕ) → position (λ b. not (is_gap b)) text ≡ Some i → from ≡ drop i text → position is_gap from ≡ Some j → word ≡ take j from → rest ≡ drop j from
    → (words_of text ≡ word ∷ words_of rest) × (length rest < length text)
word_and_rest text from word rest i j start begun end first behind =
    let ends : position is_gap (drop i text) ≡ Some j = rw begun at end in
    let some : 0 < j = word_is_some text i j start ends in
    let cut : words_of (drop i text) ≡ take j (drop i text) ∷ words_of (drop j (drop i text)) = words_of-cut (drop i text) j some ends in
    let within = position_some (λ b. not (is_gap b)) text i start in
    (words_of-start text i start ∙ cut ∙ rw (first, behind, begun) refl, rw (behind, begun) (simp (length-drop, length-drop) (omega (arith, within.1, some))))

pub last_word : (text word rest : List ℕ) (i : ℕ) → position (λ b. not (is_gap b)) text ≡ Some i → word ≡ drop i text → position is_gap word ≡ None → rest ≡ drop (length word) word
    → (words_of text ≡ word ∷ words_of rest) × (length rest < length text)
last_word text word rest i start begun end behind =
    let within = position_some (λ b. not (is_gap b)) text i start in
    let some : 0 < length word = rw begun (simp length-drop (omega (arith, within.1))) in
    let empty : rest ≡ [] = behind ∙ drop_all (length word) word (omega arith) in
    (words_of-start text i start ∙ ap words_of (sym begun) ∙ words_of-last word some end ∙ rw empty refl, rw empty (omega (arith, within.1)))

ascii_drop : (text : List ℕ) (i : ℕ) → IsAscii text → IsAscii (drop i text)
ascii_drop text i ascii k = rw get_or-drop (ascii (i + k))

ascii_take_by : (text : List ℕ) (i k : ℕ) → IsAscii text → (k < i) ⊎ (i ≤ k) → get_or (take i text) k 0 < 128
ascii_take_by text i k ascii (inl within) = rw get_or-take (ascii k)
ascii_take_by text i k ascii (inr past) =
    let none : get_or (take i text) k 0 ≡ 0 = get_or_past (take i text) k 0 (simp length-take (omega arith)) in
    rw none (lit< tt)

ascii_take : (text : List ℕ) (i : ℕ) → IsAscii text → IsAscii (take i text)
ascii_take text i ascii k = ascii_take_by text i k ascii (cases_lt k i)

-- a text's parts are ASCII where it is
pub parts_are_ascii : (text from word rest : List ℕ) (i j : ℕ) → from ≡ drop i text → word ≡ take j from → rest ≡ drop j from → IsAscii text → IsAscii word × IsAscii rest
parts_are_ascii text from word rest i j begun first behind ascii =
    (λ k. rw (first, begun) (ascii_take (drop i text) j (ascii_drop text i ascii) k), λ k. rw (behind, begun) (ascii_drop (drop i text) j (ascii_drop text i ascii) k))
