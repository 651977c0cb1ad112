-- What the cells of a row tell, one after the other.
use Rattle.std.proofs.Common.{◌≡◌, ℕ, ◌^◌, ◌<◌, true, ◌&&◌, List, [], ◌∷◌, Result, Ok, Err, refl, sym, ap, subst, ◌∙◌}
use Rattle.std.specs.Int.{w128, to_be_bytes}
use Rattle.std.proofs.lemmas.Bool.{and_parts, false≢true, ltb-true}
use Rattle.std.proofs.lemmas.List.Elements.{All-from_get_or}
use Rattle.aft_fields.specs.declared.fault.FieldFault.{FieldFault}
use Rattle.aft_fields.specs.declared.table.Cell.{Cell}
use Rattle.aft_fields.specs.declared.table.Cell.TheVariants.{U64, U128, Text, Bytes, Texts}
use Rattle.aft_fields.specs.declared.table.Kind.{Kind}
use Rattle.aft_fields.specs.declared.table.Kind.TheVariants as kinds
use Rattle.aft_fields.specs.Kinds.{has_spelling, is_kind, are_of}
use Rattle.aft_fields.specs.Order.{ascend}
use Rattle.aft_fields.specs.Reading.{row_of}
use Rattle.aft_fields.specs.Spelling.{row_bytes}
use Rattle.aft_fields.proofs.Bytes.{IsBytes}
use Rattle.aft_fields.proofs.Found.{row_found}
use Rattle.aft_fields.proofs.Wide.{wide128, high_bytes}
use Rattle.aft_id.specs.declared.txn_id.TxnId.{TxnId}
use Rattle.aft_id.specs.TxnId.{IsUuid}
use Rattle.aft_records.specs.Gives.{◌>>=◌}
use Rattle.aft_records.specs.Reading.{laid_out, cells_of, number_in, wide_in, text_in, bytes_in, texts_in, id_in}
use Rattle.aft_records.specs.Rows.{id_cells}
use Rattle.aft_records.specs.Stored.{IsWritableId}
use Rattle.aft_records.proofs.Steps.{bind_ok, ok_is}

laid_is : (r : Result (List Cell) FieldFault) (cells : List Cell) → laid_out r ≡ Ok cells → r ≡ Ok cells
laid_is (Ok x) cells e = ap (λ (y : List Cell). Ok y) (ok_is x cells e)
laid_is (Err f) cells e = absurd cc

-- a row that was read is of its table, and the bytes are its spelling
pub row_is : (tag : List ℕ) (kinds : List Kind) (bytes : List ℕ) (cells : List Cell) → IsBytes bytes → cells_of tag kinds bytes ≡ Ok cells → (are_of kinds cells ≡ true) × (bytes ≡ row_bytes tag cells)
row_is tag kinds bytes cells fits e = row_found tag kinds bytes cells fits (laid_is (row_of tag kinds bytes) cells e)

-- ---- one cell

pub number_is : (cells : List Cell) (x : ℕ × List Cell) → number_in cells ≡ Ok x → cells ≡ U64 x.0 ∷ x.1
number_is (U64 n ∷ cells) x e = ap (λ (y : ℕ × List Cell). U64 y.0 ∷ y.1) (ok_is (n, cells) x e)
number_is cells x e = absurd cc

wide_is : (cells : List Cell) (x : ℕ × List Cell) → wide_in cells ≡ Ok x → cells ≡ U128 x.0 ∷ x.1
wide_is (U128 n ∷ cells) x e = ap (λ (y : ℕ × List Cell). U128 y.0 ∷ y.1) (ok_is (n, cells) x e)
wide_is cells x e = absurd cc

pub text_is : (cells : List Cell) (x : List ℕ × List Cell) → text_in cells ≡ Ok x → cells ≡ Text x.0 ∷ x.1
text_is (Text text ∷ cells) x e = ap (λ (y : List ℕ × List Cell). Text y.0 ∷ y.1) (ok_is (text, cells) x e)
text_is cells x e = absurd cc

pub bytes_is : (cells : List Cell) (x : List ℕ × List Cell) → bytes_in cells ≡ Ok x → cells ≡ Bytes x.0 ∷ x.1
bytes_is (Bytes bytes ∷ cells) x e = ap (λ (y : List ℕ × List Cell). Bytes y.0 ∷ y.1) (ok_is (bytes, cells) x e)
bytes_is cells x e = absurd cc

pub texts_is : (cells : List Cell) (x : List (List ℕ) × List Cell) → texts_in cells ≡ Ok x → cells ≡ Texts x.0 ∷ x.1
texts_is (Texts texts ∷ cells) x e = ap (λ (y : List (List ℕ) × List Cell). Texts y.0 ∷ y.1) (ok_is (texts, cells) x e)
texts_is cells x e = absurd cc

-- the first cell of a table's row, and the others
pub next_found : (kind : Kind) (kinds : List Kind) (cells : List Cell) (cell : Cell) (rest : List Cell) → cells ≡ cell ∷ rest → are_of (kind ∷ kinds) cells ≡ true
    → (has_spelling cell ≡ true) × (are_of kinds rest ≡ true)
next_found kind kinds cells cell rest e h =
    let p = and_parts (is_kind kind cell && has_spelling cell) (are_of kinds rest) (subst (λ (x : List Cell). are_of (kind ∷ kinds) x ≡ true) e h) in
    ((and_parts (is_kind kind cell) (has_spelling cell) p.0).1, p.1)

-- no cell is left
pub none_left : (cells : List Cell) → are_of [] cells ≡ true → cells ≡ []
none_left [] h = refl
none_left (cell ∷ cells) h = absurd (false≢true h)

-- texts that have a spelling ascend
pub texts_ascend : (texts : List (List ℕ)) → has_spelling (Texts texts) ≡ true → ascend texts ≡ true
texts_ascend texts h = (and_parts _ (ascend texts) h).1

-- ---- an id

-- an id that was read, and the cells after it
pub record TakesId (more : List Kind) (cells : List Cell) (id : TxnId) (rest : List Cell) : Type 0 where
  pub parts : cells ≡ id_cells id rest
  pub writable : IsWritableId id
  pub others : are_of more rest ≡ true

pub id_takes : (more : List Kind) (cells : List Cell) (x : TxnId × List Cell) → are_of (kinds.U64 ∷ kinds.U128 ∷ more) cells ≡ true → id_in cells ≡ Ok x → TakesId more cells x.0 x.1
unfolding id_in
id_takes more cells x h e =
    let a = bind_ok (number_in cells) (λ time. wide_in time.1 >>= λ uuid. Ok (record { time = time.0; uuid = to_be_bytes w128 uuid.0 }, uuid.1)) x e in
    let b = bind_ok (wide_in a.0.1) (λ uuid. Ok (record { time = a.0.0; uuid = to_be_bytes w128 uuid.0 }, uuid.1)) x a.2 in
    let first = number_is cells a.0 a.1 in
    let second = wide_is a.0.1 b.0 b.1 in
    let t = next_found kinds.U64 (kinds.U128 ∷ more) cells (U64 a.0.0) a.0.1 first h in
    let u = next_found kinds.U128 more a.0.1 (U128 b.0.0) b.0.1 second t.1 in
    let number = wide128.again b.0.0 (ltb-true b.0.0 (2 ^ 128) u.0) in
    let id : TxnId = record { time = a.0.0; uuid = to_be_bytes w128 b.0.0 } in
    let uuid : IsUuid (to_be_bytes w128 b.0.0) = (refl, All-from_get_or (λ b. b < 256) (to_be_bytes w128 b.0.0) 0 (λ i lt. high_bytes 16 b.0.0 i)) in
    subst (λ (y : TxnId × List Cell). TakesId more cells y.0 y.1) (ok_is (id, b.0.1) x b.2) (record {
      parts = first ∙ ap (λ (y : List Cell). U64 a.0.0 ∷ y) (second ∙ ap (λ (n : ℕ). U128 n ∷ b.0.1) (sym number));
      writable = record { time = ltb-true a.0.0 (2 ^ 64) t.0; uuid = uuid };
      others = u.1;
    })
