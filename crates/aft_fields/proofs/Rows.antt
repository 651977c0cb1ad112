-- The laws of rows: what was written is read again, and no spelling begins another of its table.
use Rattle.std.proofs.Common.{◌≡◌, ℕ, true, ◌&&◌, List, [], ◌∷◌, ◌++◌, length, Result, Ok, refl, sym, ap, ◌∙◌, append_assoc}
use Rattle.std.specs.Prelude.{IsTrue}
use Rattle.std.specs.List.{flat_map, list_all}
use Rattle.std.proofs.lemmas.Bool.{and_parts, false≢true}
use Rattle.std.proofs.lemmas.List.{append-nil}
use Rattle.aft_fields.specs.declared.fault.FieldFault.{FieldFault}
use Rattle.aft_fields.specs.declared.table.Cell.{Cell}
use Rattle.aft_fields.specs.declared.table.Kind.{Kind}
use Rattle.aft_fields.specs.Gives.{◌>>=◌}
use Rattle.aft_fields.specs.Kinds.{has_spelling, is_kind, are_of}
use Rattle.aft_fields.specs.Place.{Place, start}
use Rattle.aft_fields.specs.Reading.{cells_at, tag_at, row_of}
use Rattle.aft_fields.specs.Spelling.{cell_bytes, row_bytes}
use Rattle.aft_fields.proofs.Again.{place, cells_again, tag_again}
use Rattle.aft_fields.proofs.Steps.{ok_is}

-- a row's spelling is read as that row
pub row_written : (tag : List ℕ) (kinds : List Kind) (cells : List Cell) → length tag ≡ 3 → IsTrue (are_of kinds cells) → row_of tag kinds (row_bytes tag cells) ≡ Ok cells
unfolding row_of
row_written tag kinds cells len h =
    let t = tag_again tag len (flat_map cell_bytes cells) in
    let p = cells_again 0 kinds cells h t.0 [] in
    let same : cells_at 0 kinds (place t.0 (flat_map cell_bytes cells)) ≡ Ok (cells, place p.0 []) = ap (λ (bytes : List ℕ). cells_at 0 kinds (place t.0 bytes)) (sym (append-nil (flat_map cell_bytes cells))) ∙ p.1 in
    rw (t.1, same) refl

-- reading the cells behind a tag, whatever follows
begun : List ℕ → List Kind → List ℕ → Result (List Cell × Place) FieldFault
begun tag kinds bytes = tag_at tag (start bytes) >>= λ at. cells_at 0 kinds at

begun_again : (tag : List ℕ) (kinds : List Kind) (cells : List Cell) (rest : List ℕ) → length tag ≡ 3 → are_of kinds cells ≡ true → (end : ℕ) × (begun tag kinds (row_bytes tag cells ++ rest) ≡ Ok (cells, place end rest))
unfolding begun
begun_again tag kinds cells rest len h =
    let t = tag_again tag len (flat_map cell_bytes cells ++ rest) in
    let p = cells_again 0 kinds cells h t.0 rest in
    (p.0, ap (begun tag kinds) (append_assoc tag (flat_map cell_bytes cells) rest) ∙ rw (t.1, p.1) refl)

-- two rows of a table whose spellings begin alike are one, and what follows is the same
pub rows_apart : (tag : List ℕ) (kinds : List Kind) (a b : List Cell) (x y : List ℕ) → length tag ≡ 3 → IsTrue (are_of kinds a) → IsTrue (are_of kinds b) → row_bytes tag a ++ x ≡ row_bytes tag b ++ y → (a ≡ b) × (x ≡ y)
rows_apart tag kinds a b x y len of_a of_b e =
    let p = begun_again tag kinds a x len of_a in
    let q = begun_again tag kinds b y len of_b in
    let same = ok_is (a, place p.0 x) (b, place q.0 y) (sym p.1 ∙ ap (begun tag kinds) e ∙ q.1) in
    (ap (λ (z : List Cell × Place). z.0) same, ap (λ (z : List Cell × Place). z.1.bytes) same)

-- each cell of a table's row has a spelling
pub each_spelled : (kinds : List Kind) (cells : List Cell) → are_of kinds cells ≡ true → list_all has_spelling cells ≡ true
each_spelled [] [] h = refl
each_spelled (kind ∷ kinds) (cell ∷ cells) h =
    let a = and_parts (is_kind kind cell && has_spelling cell) (are_of kinds cells) h in
    let b = and_parts (is_kind kind cell) (has_spelling cell) a.0 in
    rw (b.1, each_spelled kinds cells a.1) refl
each_spelled kinds cells h = absurd (false≢true h)
