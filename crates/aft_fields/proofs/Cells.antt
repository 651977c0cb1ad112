-- Reading cells one after the other, as a loop does.
use Rattle.std.proofs.Common.{◌≡◌, ℕ, ◌+◌, ◌≤◌, ◌<◌, List, [], ◌∷◌, ◌++◌, length, get_or, drop, Result, Ok, Err, refl, sym, ap, ◌∙◌, drop-cons, add-one}
use Rattle.std.proofs.lemmas.List.{append-nil, drop_all}
use Rattle.aft_fields.specs.declared.fault.FieldFault.{FieldFault}
use Rattle.aft_fields.specs.declared.table.Cell.{Cell}
use Rattle.aft_fields.specs.declared.table.Kind.{Kind}
use Rattle.aft_fields.specs.Gives.{◌>>=◌, Fails}
use Rattle.aft_fields.specs.Place.{Place}
use Rattle.aft_fields.specs.Reading.{cell_at, cells_at}
use Rattle.aft_fields.proofs.Steps.{fails_as}
use Rattle.aft_fields.proofs.Texts.{with_front, regroup}

module _ (front : List Cell) (kinds : List Kind) (i : ℕ) (d : Kind) (place : Place) (total : Result (List Cell × Place) FieldFault) where
  -- the reading at one kind
  at_kind : i < length kinds
      → cells_at i (drop i kinds) place ≡ (cell_at (get_or kinds i d) i place >>= λ cell. cells_at (i + 1) (drop (i + 1) kinds) cell.1 >>= λ cells. Ok (cell.0 ∷ cells.0, cells.1))
  unfolding cells_at
  at_kind lt = rw (drop-cons kinds i d lt, add-one) refl

  pub goes_on : (cell : Cell) (after : Place) → i < length kinds → cell_at (get_or kinds i d) i place ≡ Ok (cell, after)
      → with_front front (cells_at i (drop i kinds) place) ≡ total
      → with_front (front ++ cell ∷ []) (cells_at (i + 1) (drop (i + 1) kinds) after) ≡ total
  goes_on cell after lt h so_far =
      let one : with_front front (cells_at i (drop i kinds) place) ≡ with_front (front ++ cell ∷ []) (cells_at (i + 1) (drop (i + 1) kinds) after) = rw (at_kind lt, h) (regroup front cell (cells_at (i + 1) (drop (i + 1) kinds) after)) in
      sym one ∙ so_far

  fails : i < length kinds → with_front front (cells_at i (drop i kinds) place) ≡ total → (e : FieldFault) → cell_at (get_or kinds i d) i place ≡ Err e → total ≡ Err e
  fails lt so_far e h =
      let one : with_front front (cells_at i (drop i kinds) place) ≡ Err e = rw (at_kind lt, h) refl in
      sym so_far ∙ one

  pub ends : (e : FieldFault) → i < length kinds → Fails e (cell_at (get_or kinds i d) i place) → with_front front (cells_at i (drop i kinds) place) ≡ total → Fails e total
  ends e lt h so_far = fails_as e (cell_at (get_or kinds i d) i place) total (fails lt so_far) h

pub is_done : (front : List Cell) (kinds : List Kind) (i : ℕ) (place : Place) (total : Result (List Cell × Place) FieldFault) → length kinds ≤ i
    → with_front front (cells_at i (drop i kinds) place) ≡ total → total ≡ Ok (front, place)
unfolding cells_at
is_done front kinds i place total le so_far =
    let one : with_front front (cells_at i (drop i kinds) place) ≡ Ok (front, place) = rw (drop_all i kinds le) (ap (λ (cells : List Cell). Ok (cells, place)) (append-nil front)) in
    sym so_far ∙ one
