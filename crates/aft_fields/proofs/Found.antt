-- What is read is spelled so, and of its kind.
use Rattle.std.proofs.Common.{◌≡◌, ℕ, zero, suc, ◌+◌, ◌<◌, ◌≤◌, ◌^◌, Bool, true, cond, ◌&&◌, eqb, ltb, nat_eq, List, [], ◌∷◌, ◌++◌, length, take, drop, Option, Some, None, Result, Ok, Err, refl, sym, ap, subst, ◌∙◌, append_assoc, arith}
use Rattle.std.specs.Prelude.{IfOk, IsTrue}
use Rattle.std.specs.List.{flat_map, list_all}
use Rattle.std.specs.Int.{Width, w32, w64, w128, byte_len, from_be_bytes, to_be_bytes}
use Rattle.std.specs.Str.{is_utf8}
use Rattle.std.specs.Cmp.Lexicographic.{pointwise, same_text}
use Rattle.std.proofs.lemmas.Bool.{ltb-false, lt-ltb, eqb-true}
use Rattle.std.proofs.lemmas.List.{take-append-drop, length-take, append-nil, nil_from_length}
use Rattle.aft_fields.specs.declared.fault.FieldFault.{FieldFault}
use Rattle.aft_fields.specs.declared.fault.FieldFault.TheVariants.{Short, Tag, NotUtf8, Unsorted, Spare}
use Rattle.aft_fields.specs.declared.table.Cell.{Cell}
use Rattle.aft_fields.specs.declared.table.Cell.TheVariants.{U64, U128, Text, Bytes, Texts}
use Rattle.aft_fields.specs.declared.table.Kind.{Kind}
use Rattle.aft_fields.specs.declared.table.Kind.TheVariants as kinds
use Rattle.aft_fields.specs.Gives.{◌>>=◌, Gives}
use Rattle.aft_fields.specs.Kinds.{is_count, is_text, are_texts, has_spelling, is_kind, are_of}
use Rattle.aft_fields.specs.Order.{follows, ascend_after, ascend}
use Rattle.aft_fields.specs.Place.{Place, start}
use Rattle.aft_fields.specs.Reading.{part_at, number_at, bytes_at, text_at, texts_after, texts_at, as_cell, cell_at, cells_at, tag_at, end_at, row_of}
use Rattle.aft_fields.specs.Spelling.{counted, cell_bytes, row_bytes}
use Rattle.aft_fields.proofs.Bytes.{IsBytes, IsBytes-drop, IsBytes-take}
use Rattle.aft_fields.proofs.Steps.{bind_ok, test_ok, test_no, ok_is}
use Rattle.aft_fields.proofs.Wide.{IsWide, wide32, wide64, wide128}

-- what a reader took from the front
pub record Takes (before : Place) (text : List ℕ) (after : Place) : Type 0 where
  pub parts : before.bytes ≡ text ++ after.bytes
  pub rest_fits : IsBytes after.bytes

Takes-then : (a : Place) (x : List ℕ) (b : Place) (y : List ℕ) (c : Place) → Takes a x b → Takes b y c → Takes a (x ++ y) c
Takes-then a x b y c p q = record { parts = p.parts ∙ ap (λ (t : List ℕ). x ++ t) q.parts ∙ sym (append_assoc x y c.bytes); rest_fits = q.rest_fits }

-- a part that was read
record TakesPart (n : ℕ) (before : Place) (part : List ℕ) (after : Place) : Type 0 where
  takes : Takes before part after
  sized : length part ≡ n
  fits : IsBytes part

part_takes : (n : ℕ) (place : Place) (x : List ℕ × Place) → IsBytes place.bytes → part_at n place ≡ Ok x → TakesPart n place x.0 x.1
part_takes n place x fits e =
    let made : List ℕ × Place = (take n place.bytes, record { at = place.at + n; bytes = drop n place.bytes }) in
    let g = test_no (ltb (length place.bytes) n) (Short place.at) made x e in
    let long : n ≤ length place.bytes = ltb-false _ _ g.0 in
    subst (λ (y : List ℕ × Place). TakesPart n place y.0 y.1) g.1 (record {
      takes = record { parts = sym (take-append-drop n place.bytes); rest_fits = IsBytes-drop n place.bytes fits };
      sized = omega (arith, length-take n place.bytes);
      fits = IsBytes-take n place.bytes fits;
    })

-- ---- numbers and bytes

number_takes : (w : Width) (limit : ℕ) (wide : IsWide w limit) (place : Place) (x : ℕ × Place) → IsBytes place.bytes → number_at w place ≡ Ok x → Takes place (to_be_bytes w x.0) x.1 × (x.0 < limit)
unfolding number_at
number_takes w limit wide place x fits e =
    let a = bind_ok (part_at (byte_len w) place) (λ bytes. Ok (from_be_bytes w bytes.0, bytes.1)) x e in
    let t = part_takes (byte_len w) place a.0 fits a.1 in
    let made : ℕ × Place = (from_be_bytes w a.0.0, a.0.1) in
    subst (λ (y : ℕ × Place). Takes place (to_be_bytes w y.0) y.1 × (y.0 < limit)) (ok_is made x a.2)
    (rw (wide.back a.0.0 t.sized t.fits) t.takes, wide.below a.0.0 t.sized t.fits)

bytes_takes : (place : Place) (x : List ℕ × Place) → IsBytes place.bytes → bytes_at place ≡ Ok x → Takes place (counted x.0) x.1 × (is_count (length x.0) ≡ true)
unfolding bytes_at
bytes_takes place x fits e =
    let a = bind_ok (number_at w32 place) (λ n. part_at n.0 n.1) x e in
    let t = number_takes w32 (2 ^ 32) wide32 place a.0 fits a.1 in
    let u = part_takes a.0.0 a.0.1 x t.0.rest_fits a.2 in
    subst (λ (n : ℕ). Takes place (to_be_bytes w32 n ++ x.0) x.1 × (is_count n ≡ true)) (sym u.sized)
    (Takes-then place (to_be_bytes w32 a.0.0) a.0.1 x.0 x.1 t.0 u.takes, lt-ltb a.0.0 (2 ^ 32) t.1)

-- ---- texts

both : (a b : Bool) → a ≡ true → b ≡ true → (a && b) ≡ true
both a b p q = rw (p, q) refl

text_takes : (field : ℕ) (place : Place) (x : List ℕ × Place) → IsBytes place.bytes → text_at field place ≡ Ok x → Takes place (counted x.0) x.1 × (is_text x.0 ≡ true)
unfolding text_at
text_takes field place x fits e =
    let a = bind_ok (bytes_at place) (λ text. cond (is_utf8 text.0) (Ok text) (Err (NotUtf8 field))) x e in
    let g = test_ok (is_utf8 a.0.0) (NotUtf8 field) (Ok a.0) x a.2 in
    let t = bytes_takes place a.0 fits a.1 in
    subst (λ (y : List ℕ × Place). Takes place (counted y.0) y.1 × (is_text y.0 ≡ true)) (ok_is a.0 x g.1)
    (t.0, both (is_utf8 a.0.0) (is_count (length a.0.0)) g.0 t.1)

-- texts that were read
record TakesTexts (n : ℕ) (before : Option (List ℕ)) (from : Place) (texts : List (List ℕ)) (after : Place) : Type 0 where
  takes : Takes from (flat_map counted texts) after
  sized : length texts ≡ n
  each : list_all is_text texts ≡ true
  ascending : ascend_after before texts ≡ true

texts_take : (field n : ℕ) (before : Option (List ℕ)) (place : Place) (x : List (List ℕ) × Place) → IsBytes place.bytes → texts_after field n before place ≡ Ok x → TakesTexts n before place x.0 x.1
unfolding texts_after
texts_take field zero before place x fits e =
    subst (λ (y : List (List ℕ) × Place). TakesTexts 0 before place y.0 y.1) (ok_is ([], place) x e) (record { takes = record { parts = refl; rest_fits = fits }; sized = refl; each = refl; ascending = refl })
texts_take field (suc n) before place x fits e =
    let a = bind_ok (text_at field place) (λ text. (cond (follows before text.0) (texts_after field n (Some text.0) text.1) (Err (Unsorted field))) >>= λ texts. Ok (text.0 ∷ texts.0, texts.1)) x e in
    let b = bind_ok (cond (follows before a.0.0) (texts_after field n (Some a.0.0) a.0.1) (Err (Unsorted field))) (λ texts. Ok (a.0.0 ∷ texts.0, texts.1)) x a.2 in
    let g = test_ok (follows before a.0.0) (Unsorted field) (texts_after field n (Some a.0.0) a.0.1) b.0 b.1 in
    let first = text_takes field place a.0 fits a.1 in
    let others = texts_take field n (Some a.0.0) a.0.1 b.0 first.0.rest_fits g.1 in
    let made : List (List ℕ) × Place = (a.0.0 ∷ b.0.0, b.0.1) in
    subst (λ (y : List (List ℕ) × Place). TakesTexts (suc n) before place y.0 y.1) (ok_is made x b.2) (record {
      takes = Takes-then place (counted a.0.0) a.0.1 (flat_map counted b.0.0) b.0.1 first.0 others.takes;
      sized = ap suc others.sized;
      each = both (is_text a.0.0) (list_all is_text b.0.0) first.1 others.each;
      ascending = both (follows before a.0.0) (ascend_after (Some a.0.0) b.0.0) g.0 others.ascending;
    })

texts_at_takes : (field : ℕ) (place : Place) (x : List (List ℕ) × Place) → IsBytes place.bytes → texts_at field place ≡ Ok x → Takes place (cell_bytes (Texts x.0)) x.1 × (are_texts x.0 ≡ true)
unfolding texts_at
texts_at_takes field place x fits e =
    let a = bind_ok (number_at w32 place) (λ n. texts_after field n.0 None n.1) x e in
    let t = number_takes w32 (2 ^ 32) wide32 place a.0 fits a.1 in
    let u = texts_take field a.0.0 None a.0.1 x t.0.rest_fits a.2 in
    subst (λ (n : ℕ). Takes place (to_be_bytes w32 n ++ flat_map counted x.0) x.1 × ((is_count n && list_all is_text x.0 && ascend x.0) ≡ true)) (sym u.sized)
    (Takes-then place (to_be_bytes w32 a.0.0) a.0.1 (flat_map counted x.0) x.1 t.0 u.takes, both (is_count a.0.0 && list_all is_text x.0) (ascend x.0) (both (is_count a.0.0) (list_all is_text x.0) (lt-ltb a.0.0 (2 ^ 32) t.1) u.each) u.ascending)

-- ---- cells

-- a cell that was read
record TakesCell (kind : Kind) (before : Place) (cell : Cell) (after : Place) : Type 0 where
  takes : Takes before (cell_bytes cell) after
  of_kind : is_kind kind cell ≡ true
  spelled : has_spelling cell ≡ true

made_takes : {A : Type 0} (kind : Kind) (make : A → Cell) (read : Result (A × Place) FieldFault) (place : Place) (x : Cell × Place) → as_cell make read ≡ Ok x
    → ((y : A × Place) → read ≡ Ok y → TakesCell kind place (make y.0) y.1) → TakesCell kind place x.0 x.1
made_takes {A} kind make read place x e takes =
    let a = bind_ok read (λ (y : A × Place). Ok (make y.0, y.1)) x e in
    subst (λ (y : Cell × Place). TakesCell kind place y.0 y.1) (ok_is (make a.0.0, a.0.1) x a.2) (takes a.0 a.1)

cell_takes : (kind : Kind) (field : ℕ) (place : Place) (x : Cell × Place) → IsBytes place.bytes → cell_at kind field place ≡ Ok x → TakesCell kind place x.0 x.1
unfolding cell_at
cell_takes kinds.U64 field place x fits e = made_takes kinds.U64 U64 (number_at w64 place) place x e (λ y read. let t = number_takes w64 (2 ^ 64) wide64 place y fits read in record { takes = t.0; of_kind = refl; spelled = lt-ltb y.0 (2 ^ 64) t.1 })
cell_takes kinds.U128 field place x fits e = made_takes kinds.U128 U128 (number_at w128 place) place x e (λ y read. let t = number_takes w128 (2 ^ 128) wide128 place y fits read in record { takes = t.0; of_kind = refl; spelled = lt-ltb y.0 (2 ^ 128) t.1 })
cell_takes kinds.Text field place x fits e = made_takes kinds.Text Text (text_at field place) place x e (λ y read. let t = text_takes field place y fits read in record { takes = t.0; of_kind = refl; spelled = t.1 })
cell_takes kinds.Bytes field place x fits e = made_takes kinds.Bytes Bytes (bytes_at place) place x e (λ y read. let t = bytes_takes place y fits read in record { takes = t.0; of_kind = refl; spelled = t.1 })
cell_takes kinds.Texts field place x fits e = made_takes kinds.Texts Texts (texts_at field place) place x e (λ y read. let t = texts_at_takes field place y fits read in record { takes = t.0; of_kind = refl; spelled = t.1 })

cells_take : (field : ℕ) (kinds : List Kind) (place : Place) (x : List Cell × Place) → IsBytes place.bytes → cells_at field kinds place ≡ Ok x → Takes place (flat_map cell_bytes x.0) x.1 × (are_of kinds x.0 ≡ true)
unfolding cells_at
cells_take field [] place x fits e =
    subst (λ (y : List Cell × Place). Takes place (flat_map cell_bytes y.0) y.1 × (are_of [] y.0 ≡ true)) (ok_is ([], place) x e) (record { parts = refl; rest_fits = fits }, refl)
cells_take field (kind ∷ kinds) place x fits e =
    let a = bind_ok (cell_at kind field place) (λ cell. cells_at (field + 1) kinds cell.1 >>= λ cells. Ok (cell.0 ∷ cells.0, cells.1)) x e in
    let b = bind_ok (cells_at (field + 1) kinds a.0.1) (λ cells. Ok (a.0.0 ∷ cells.0, cells.1)) x a.2 in
    let first = cell_takes kind field place a.0 fits a.1 in
    let others = cells_take (field + 1) kinds a.0.1 b.0 first.takes.rest_fits b.1 in
    let made : List Cell × Place = (a.0.0 ∷ b.0.0, b.0.1) in
    subst (λ (y : List Cell × Place). Takes place (flat_map cell_bytes y.0) y.1 × (are_of (kind ∷ kinds) y.0 ≡ true)) (ok_is made x b.2) (
      Takes-then place (cell_bytes a.0.0) a.0.1 (flat_map cell_bytes b.0.0) b.0.1 first.takes others.0,
      both (is_kind kind a.0.0 && has_spelling a.0.0) (are_of kinds b.0.0) (both (is_kind kind a.0.0) (has_spelling a.0.0) first.of_kind first.spelled) others.1,
    )

-- as many cells are read as there are kinds
pub cells_number : (field : ℕ) (kinds : List Kind) (place : Place) (x : List Cell × Place) → cells_at field kinds place ≡ Ok x → length x.0 ≡ length kinds
unfolding cells_at
cells_number field [] place x e = subst (λ (y : List Cell × Place). length y.0 ≡ 0) (ok_is ([], place) x e) refl
cells_number field (kind ∷ kinds) place x e =
    let a = bind_ok (cell_at kind field place) (λ cell. cells_at (field + 1) kinds cell.1 >>= λ cells. Ok (cell.0 ∷ cells.0, cells.1)) x e in
    let b = bind_ok (cells_at (field + 1) kinds a.0.1) (λ cells. Ok (a.0.0 ∷ cells.0, cells.1)) x a.2 in
    subst (λ (y : List Cell × Place). length y.0 ≡ suc (length kinds)) (ok_is (a.0.0 ∷ b.0.0, b.0.1) x b.2) (ap suc (cells_number (field + 1) kinds a.0.1 b.0 b.1))

-- ---- a row

tag_takes : (tag : List ℕ) (place x : Place) → IsBytes place.bytes → tag_at tag place ≡ Ok x → Takes place tag x
unfolding tag_at
tag_takes tag place x fits e =
    let a = bind_ok (part_at 3 place) (λ found. cond (pointwise nat_eq found.0 tag) (Ok found.1) (Err Tag)) x e in
    let g = test_ok (pointwise nat_eq a.0.0 tag) Tag (Ok a.0.1) x a.2 in
    let t = part_takes 3 place a.0 fits a.1 in
    let found : a.0.0 ≡ tag = same_text a.0.0 tag (sym g.0) in
    subst (λ (y : Place). Takes place tag y) (ok_is a.0.1 x g.1) (subst (λ (y : List ℕ). Takes place y a.0.1) found t.takes)

end_is : (place : Place) → end_at place ≡ Ok tt → place.bytes ≡ []
end_is place e = nil_from_length place.bytes (eqb-true _ _ (test_ok (eqb (length place.bytes) 0) (Spare place.at) (Ok tt) tt e).0)

-- a row that was read is of its table, and the bytes are its spelling
pub row_found : (tag : List ℕ) (kinds : List Kind) (bytes : List ℕ) (cells : List Cell) → IsBytes bytes → row_of tag kinds bytes ≡ Ok cells → IsTrue (are_of kinds cells) × (bytes ≡ row_bytes tag cells)
unfolding row_of
row_found tag kinds bytes cells fits e =
    let a = bind_ok (tag_at tag (start bytes)) (λ place. cells_at 0 kinds place >>= λ cells. end_at cells.1 >>= λ _. Ok cells.0) cells e in
    let b = bind_ok (cells_at 0 kinds a.0) (λ cells. end_at cells.1 >>= λ _. Ok cells.0) cells a.2 in
    let d = bind_ok (end_at b.0.1) (λ _. Ok b.0.0) cells b.2 in
    let t = tag_takes tag (start bytes) a.0 fits a.1 in
    let u = cells_take 0 kinds a.0 b.0 t.rest_fits b.1 in
    let nothing : b.0.1.bytes ≡ [] = end_is b.0.1 d.1 in
    let spelled : bytes ≡ row_bytes tag b.0.0 = t.parts ∙ ap (λ (y : List ℕ). tag ++ y) (u.0.parts ∙ ap (λ (y : List ℕ). flat_map cell_bytes b.0.0 ++ y) nothing ∙ append-nil (flat_map cell_bytes b.0.0)) in
    subst (λ (y : List Cell). IsTrue (are_of kinds y) × (bytes ≡ row_bytes tag y)) (ok_is b.0.0 cells d.2) (u.1, spelled)

-- what a call gave is what the reading found
pub found_by : {X Y : Type 0} (view : X → Y) (Good : Y → Type 0) (read : Result Y FieldFault) (r : Result X FieldFault) → ((y : Y) → read ≡ Ok y → Good y) → Gives view r read → IfOk r (λ x. Good (view x))
found_by view Good read (Ok x) sound given = sound (view x) given
found_by view Good read (Err e) sound given = tt
