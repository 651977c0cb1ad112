-- What was written is read again, whatever follows it.
use Rattle.std.proofs.Common.{◌≡◌, ℕ, suc, ◌+◌, ◌^◌, ◌<◌, true, false, ◌&&◌, ltb, List, [], ◌∷◌, ◌++◌, length, Option, Some, None, Result, Ok, refl, append_assoc, arith}
use Rattle.std.specs.List.{flat_map, list_all}
use Rattle.std.specs.Int.{Width, w32, w64, w128, byte_len, to_be_bytes}
use Rattle.std.specs.Str.{is_utf8}
use Rattle.std.specs.Cmp.Lexicographic.{bytes_decides}
use Rattle.std.proofs.lemmas.Bool.{le-ltb, ltb-true, and_parts, false≢true}
use Rattle.std.proofs.lemmas.List.{take_at, drop_at, length-append}
use Rattle.aft_fields.specs.declared.fault.FieldFault.{FieldFault}
use Rattle.aft_fields.specs.declared.table.Cell.{Cell}
use Rattle.aft_fields.specs.declared.table.Cell.TheVariants.{U64, U128, Text, Bytes, Texts}
use Rattle.aft_fields.specs.declared.table.Kind.{Kind}
use Rattle.aft_fields.specs.declared.table.Kind.TheVariants as kinds
use Rattle.aft_fields.specs.Kinds.{is_count, is_text, are_texts, has_spelling, is_kind, are_of}
use Rattle.aft_fields.specs.Order.{follows, ascend_after, ascend}
use Rattle.aft_fields.specs.Place.{Place, start}
use Rattle.aft_fields.specs.Reading.{part_at, number_at, bytes_at, text_at, texts_after, texts_at, cell_at, cells_at, tag_at}
use Rattle.aft_fields.specs.Spelling.{counted, cell_bytes}
use Rattle.aft_fields.proofs.Wide.{IsWide, wide32, wide64, wide128}

abbrev pub place : ℕ → List ℕ → Place
place at bytes = record { at = at; bytes = bytes }

-- a text is read as this value, and what follows it is left
abbrev pub ReadsAs : {A : Type 0} → (Place → Result (A × Place) FieldFault) → List ℕ → A → Type 0
ReadsAs read text value = (at : ℕ) (rest : List ℕ) → (end : ℕ) × (read (place at (text ++ rest)) ≡ Ok (value, place end rest))

part_again : (n : ℕ) (text : List ℕ) → length text ≡ n → ReadsAs (part_at n) text text
part_again n text len at rest =
    let long : ltb (length (text ++ rest)) n ≡ false = le-ltb _ _ (omega (arith, length-append text rest)) in
    (at + n, rw (long, take_at text rest n len, drop_at text rest n len) refl)

number_again : (w : Width) (limit : ℕ) (wide : IsWide w limit) (n : ℕ) → n < limit → ReadsAs (number_at w) (to_be_bytes w n) n
unfolding number_at
number_again w limit wide n lt at rest =
    let p = part_again (byte_len w) (to_be_bytes w n) (wide.len n) at rest in
    (p.0, rw (p.1, wide.again n lt) refl)

count_again : (n : ℕ) → is_count n ≡ true → ReadsAs (number_at w32) (to_be_bytes w32 n) n
count_again n h = number_again w32 (2 ^ 32) wide32 n (ltb-true n (2 ^ 32) h)

bytes_again : (bytes : List ℕ) → is_count (length bytes) ≡ true → ReadsAs bytes_at (counted bytes) bytes
unfolding bytes_at
bytes_again bytes h at rest =
    let p = count_again (length bytes) h at (bytes ++ rest) in
    let q = part_again (length bytes) bytes refl p.0 rest in
    (q.0, rw (append_assoc (to_be_bytes w32 (length bytes)) bytes rest, p.1, q.1) refl)

utf8_again : (field : ℕ) (text : List ℕ) → is_count (length text) ≡ true → is_utf8 text ≡ true → ReadsAs (text_at field) (counted text) text
unfolding text_at
utf8_again field text short utf8 at rest =
    let p = bytes_again text short at rest in
    (p.0, rw (p.1, utf8) refl)

text_again : (field : ℕ) (text : List ℕ) → is_text text ≡ true → ReadsAs (text_at field) (counted text) text
text_again field text h =
    let t = and_parts (is_utf8 text) (is_count (length text)) h in
    utf8_again field text t.1 t.0

one_more : (field n : ℕ) (before : Option (List ℕ)) (text : List ℕ) (texts : List (List ℕ)) (more rest : List ℕ) (at middle end : ℕ)
    → text_at field (place at (counted text ++ (more ++ rest))) ≡ Ok (text, place middle (more ++ rest)) → follows before text ≡ true
    → texts_after field n (Some text) (place middle (more ++ rest)) ≡ Ok (texts, place end rest)
    → texts_after field (suc n) before (place at ((counted text ++ more) ++ rest)) ≡ Ok (text ∷ texts, place end rest)
unfolding texts_after
one_more field n before text texts more rest at middle end first greater others = rw (append_assoc (counted text) more rest, first, greater, others) refl

texts_again : (field : ℕ) (before : Option (List ℕ)) (texts : List (List ℕ)) → list_all is_text texts ≡ true → ascend_after before texts ≡ true → ReadsAs (texts_after field (length texts) before) (flat_map counted texts) texts
unfolding texts_after
texts_again field before [] each ascending at rest = (at, refl)
texts_again field before (text ∷ texts) each ascending at rest =
    let e = and_parts (is_text text) (list_all is_text texts) each in
    let a = and_parts (follows before text) (ascend_after (Some text) texts) ascending in
    let p = text_again field text e.0 at (flat_map counted texts ++ rest) in
    let q = texts_again field (Some text) texts e.1 a.1 p.0 rest in
    (q.0, one_more field (length texts) before text texts (flat_map counted texts) rest at p.0 q.0 p.1 a.0 q.1)

texts_at_again : (field : ℕ) (texts : List (List ℕ)) → are_texts texts ≡ true → ReadsAs (texts_at field) (cell_bytes (Texts texts)) texts
unfolding texts_at
texts_at_again field texts h at rest =
    let t = and_parts (is_count (length texts) && list_all is_text texts) (ascend texts) h in
    let u = and_parts (is_count (length texts)) (list_all is_text texts) t.0 in
    let p = count_again (length texts) u.0 at (flat_map counted texts ++ rest) in
    let q = texts_again field None texts u.1 t.1 p.0 rest in
    (q.0, rw (append_assoc (to_be_bytes w32 (length texts)) (flat_map counted texts) rest, p.1, q.1) refl)

-- ---- cells

cell_again : (kind : Kind) (field : ℕ) (cell : Cell) → is_kind kind cell ≡ true → has_spelling cell ≡ true → ReadsAs (cell_at kind field) (cell_bytes cell) cell
unfolding cell_at
cell_again kinds.U64 field (U64 n) k h at rest = let p = number_again w64 (2 ^ 64) wide64 n (ltb-true n (2 ^ 64) h) at rest in (p.0, rw p.1 refl)
cell_again kinds.U128 field (U128 n) k h at rest = let p = number_again w128 (2 ^ 128) wide128 n (ltb-true n (2 ^ 128) h) at rest in (p.0, rw p.1 refl)
cell_again kinds.Text field (Text text) k h at rest = let p = text_again field text h at rest in (p.0, rw p.1 refl)
cell_again kinds.Bytes field (Bytes bytes) k h at rest = let p = bytes_again bytes h at rest in (p.0, rw p.1 refl)
cell_again kinds.Texts field (Texts texts) k h at rest = let p = texts_at_again field texts h at rest in (p.0, rw p.1 refl)
cell_again kind field cell k h at rest = absurd (false≢true k)

-- cells that are of their kinds
pub cells_again : (field : ℕ) (kinds : List Kind) (cells : List Cell) → are_of kinds cells ≡ true → ReadsAs (cells_at field kinds) (flat_map cell_bytes cells) cells
unfolding cells_at
cells_again field [] [] h at rest = (at, refl)
cells_again field (kind ∷ kinds) (cell ∷ cells) h at rest =
    let a = and_parts (is_kind kind cell && has_spelling cell) (are_of kinds cells) h in
    let b = and_parts (is_kind kind cell) (has_spelling cell) a.0 in
    let p = cell_again kind field cell b.0 b.1 at (flat_map cell_bytes cells ++ rest) in
    let q = cells_again (field + 1) kinds cells a.1 p.0 rest in
    (q.0, rw (append_assoc (cell_bytes cell) (flat_map cell_bytes cells) rest, p.1, q.1) refl)
cells_again field kinds cells h at rest = absurd (false≢true h)

pub tag_again : (tag : List ℕ) → length tag ≡ 3 → (text : List ℕ) → (end : ℕ) × (tag_at tag (start (tag ++ text)) ≡ Ok (place end text))
unfolding tag_at
tag_again tag len text =
    let p = part_again 3 tag len 0 text in
    (p.0, rw (p.1, (bytes_decides tag tag).1 refl) refl)
