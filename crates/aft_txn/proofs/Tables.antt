-- Attempts as rows, and what a table keeps.
use Rattle.std.proofs.Common.{◌≡◌, ℕ, ◌+◌, ◌-◌, ◌<◌, ◌≤◌, Bool, true, false, ◌||◌, cond, List, [], ◌∷◌, ◌++◌, Option, Some, None, refl, sym, ap, subst, ◌∙◌, arith, suc, nat_eq, is_some, zero, ◌⊎◌, inl, inr, drop, add-one}
use Rattle.std.specs.Borrow.{Bor}
use Rattle.std.specs.Prelude.{Err, IfOk, IsSome, IsTrue, Ok, Result, length, map, if◌then◌else◌, nat_le, option_copied, option_map, slice_get, unwrap_or}
use Rattle.std.specs.List.{list_all, list_any}
use Rattle.std.specs.Option.{ForSome}
use Rattle.aft_fields.specs.Order.{ascend}
use Rattle.std.specs.Cmp.Lexicographic.{same_text}
use Rattle.std.specs.Str.{bytes_eq}
use Rattle.std.specs.Map.{lookup, remove_entry, set_value}
use Rattle.std.proofs.lemmas.Bool.{and_from, and_parts, eqb-true, or_left, or_right}
use Rattle.std.proofs.lemmas.Bool.Decides.{nat_tests}
use Rattle.std.proofs.lemmas.List.{map-append}
use Rattle.std.proofs.lemmas.List.Sums.{sum_by-append, sum_by-cons}
use Rattle.aft_id.specs.TxnId.{same_id}
use Rattle.aft_id.specs.declared.txn_id.TxnId.{TxnId}
use Rattle.aft_model.specs.declared.read_set.ReadPair.{ReadPair}
use Rattle.aft_model.specs.Attempts.{Row, Write, written_keys}
use Rattle.aft_txn.specs.Buffer.{as_write}
use Rattle.aft_txn.specs.declared.buffer.Write.{Write as Buffered}
use Rattle.aft_txn.specs.declared.state.TxnFault.{TxnFault}
use Rattle.aft_txn.specs.declared.txn.Txn.{Txn}
use Rattle.aft_txn.specs.declared.state.State.{State}
use Rattle.aft_txn.specs.declared.state.State.TheVariants as states
use Rattle.aft_txn.specs.Fields.{AreNeeded, IsTable, as_row, as_rows, pairs_at, pin_count, reads_at}
use Rattle.aft_txn.specs.Rows.{IsLegal, changed, is_own, is_pinned_in, is_sound, opened, row_at, row_of_uuid, state_in, told, without_row}
use Rattle.aft_txn.proofs.Sound.{sound_writes}
use Rattle.aft_txn.proofs.Legal.{AreLike, legal_like, legal_more, legal_without, number_like, number_more, number_of, number_without, row_found}

zero_or : (n : ℕ) → (n ≡ 0) ⊎ (0 < n)
zero_or zero = inl refl
zero_or (suc n) = inr (omega arith)

abbrev Attempts : Type 0
Attempts = List (ℕ × Txn)

-- ---- rows

row_at-lookup : (number : ℕ) (es : Attempts) → row_at number (as_rows es) ≡ option_map (as_row number) (lookup (nat_eq number) es)
row_at-lookup number [] = refl
row_at-lookup number (e ∷ es) = cases (row_at-lookup number es) (nat_eq number e.0) refl
  where
    cases : row_at number (as_rows es) ≡ option_map (as_row number) (lookup (nat_eq number) es) → (t : Bool) → nat_eq number e.0 ≡ t
        → (if t then Some (as_row e.0 e.1) else row_at number (as_rows es)) ≡ option_map (as_row number) (cond t (Some e.1) (lookup (nat_eq number) es))
    cases rest true is = ap (λ n. Some (as_row n e.1)) (sym (eqb-true number e.0 is))
    cases rest false is = rest

pub row-some : (number : ℕ) (es : Attempts) (txn : Txn) → lookup (nat_eq number) es ≡ Some txn → row_at number (as_rows es) ≡ Some (as_row number txn)
row-some number es txn is = row_at-lookup number es ∙ ap (option_map (as_row number)) is

pub row-none : (number : ℕ) (es : Attempts) → lookup (nat_eq number) es ≡ None → row_at number (as_rows es) ≡ None
row-none number es is = row_at-lookup number es ∙ ap (option_map (as_row number)) is

pub changed-set : (number : ℕ) (es : Attempts) (old new : Txn) (change : Row → Row) → lookup (nat_eq number) es ≡ Some old → as_row number new ≡ change (as_row number old)
    → as_rows (set_value (nat_eq number) es new) ≡ changed number change (as_rows es)
changed-set number [] old new change is same = refl
changed-set number (e ∷ es) old new change is same = cases (λ there. changed-set number es old new change there same) (nat_eq number e.0) refl is
  where
    cases : (lookup (nat_eq number) es ≡ Some old → as_rows (set_value (nat_eq number) es new) ≡ changed number change (as_rows es)) → (t : Bool) → nat_eq number e.0 ≡ t → cond t (Some e.1) (lookup (nat_eq number) es) ≡ Some old
        → as_rows (cond t ((e.0, new) ∷ es) (e ∷ set_value (nat_eq number) es new)) ≡ (if t then change (as_row e.0 e.1) ∷ as_rows es else as_row e.0 e.1 ∷ changed number change (as_rows es))
    cases rest true at there =
        let number_is : number ≡ e.0 = eqb-true number e.0 at in
        let txn_is : e.1 ≡ old = ap (λ o. unwrap_or o old) there in
        ap (λ row. row ∷ as_rows es) (ap (λ n. as_row n new) (sym number_is) ∙ same ∙ ap (λ (t : Txn). change (as_row number t)) (sym txn_is) ∙ ap (λ n. change (as_row n e.1)) number_is)
    cases rest false at there = ap (λ rows. as_row e.0 e.1 ∷ rows) (rest there)

pub changed-none : (number : ℕ) (es : Attempts) (change : Row → Row) → lookup (nat_eq number) es ≡ None → changed number change (as_rows es) ≡ as_rows es
changed-none number [] change none = refl
changed-none number (e ∷ es) change none = cases (changed-none number es change) (nat_eq number e.0) none
  where
    cases : (lookup (nat_eq number) es ≡ None → changed number change (as_rows es) ≡ as_rows es) → (t : Bool) → cond t (Some e.1) (lookup (nat_eq number) es) ≡ None
        → (if t then change (as_row e.0 e.1) ∷ as_rows es else as_row e.0 e.1 ∷ changed number change (as_rows es)) ≡ as_row e.0 e.1 ∷ as_rows es
    cases rest true none = absurd cc
    cases rest false none = ap (λ rows. as_row e.0 e.1 ∷ rows) (rest none)

pub removed : (number : ℕ) (es : Attempts) → as_rows (remove_entry (nat_eq number) es) ≡ without_row number (as_rows es)
removed number [] = refl
removed number (e ∷ es) = cases (removed number es) (nat_eq number e.0)
  where
    cases : as_rows (remove_entry (nat_eq number) es) ≡ without_row number (as_rows es) → (t : Bool)
        → as_rows (cond t es (e ∷ remove_entry (nat_eq number) es)) ≡ (if t then as_rows es else as_row e.0 e.1 ∷ without_row number (as_rows es))
    cases rest true = refl
    cases rest false = ap (λ rows. as_row e.0 e.1 ∷ rows) rest

-- ---- counts of reads

reads_at-cons : (q : TxnId) (e : ℕ × Txn) (es : Attempts) → reads_at q (e ∷ es) ≡ pairs_at q e.1.reads + reads_at q es
reads_at-cons q e es = sum_by-cons (λ (entry : ℕ × Txn). pairs_at q entry.1.reads) e es

reads_at-set : (q : TxnId) (number : ℕ) (es : Attempts) (old new : Txn) → lookup (nat_eq number) es ≡ Some old → reads_at q (set_value (nat_eq number) es new) + pairs_at q old.reads ≡ reads_at q es + pairs_at q new.reads
reads_at-set q number [] old new is = absurd cc
reads_at-set q number (e ∷ es) old new is = cases (reads_at-set q number es old new) (nat_eq number e.0) is
  where
    cases : (lookup (nat_eq number) es ≡ Some old → reads_at q (set_value (nat_eq number) es new) + pairs_at q old.reads ≡ reads_at q es + pairs_at q new.reads) → (t : Bool) → cond t (Some e.1) (lookup (nat_eq number) es) ≡ Some old
        → reads_at q (cond t ((e.0, new) ∷ es) (e ∷ set_value (nat_eq number) es new)) + pairs_at q old.reads ≡ reads_at q (e ∷ es) + pairs_at q new.reads
    cases rest true is =
        let txn_is : pairs_at q e.1.reads ≡ pairs_at q old.reads = ap (λ o. pairs_at q (unwrap_or o old).reads) is in
        omega (arith, reads_at-cons q (e.0, new) es, reads_at-cons q e es, txn_is)
    cases rest false is = omega (arith, reads_at-cons q e (set_value (nat_eq number) es new), reads_at-cons q e es, rest is)

reads_at-removed : (q : TxnId) (number : ℕ) (es : Attempts) (old : Txn) → lookup (nat_eq number) es ≡ Some old → reads_at q (remove_entry (nat_eq number) es) + pairs_at q old.reads ≡ reads_at q es
reads_at-removed q number [] old is = absurd cc
reads_at-removed q number (e ∷ es) old is = cases (reads_at-removed q number es old) (nat_eq number e.0) is
  where
    cases : (lookup (nat_eq number) es ≡ Some old → reads_at q (remove_entry (nat_eq number) es) + pairs_at q old.reads ≡ reads_at q es) → (t : Bool) → cond t (Some e.1) (lookup (nat_eq number) es) ≡ Some old
        → reads_at q (cond t es (e ∷ remove_entry (nat_eq number) es)) + pairs_at q old.reads ≡ reads_at q (e ∷ es)
    cases rest true is =
        let txn_is : pairs_at q e.1.reads ≡ pairs_at q old.reads = ap (λ o. pairs_at q (unwrap_or o old).reads) is in
        omega (arith, reads_at-cons q e es, txn_is)
    cases rest false is = omega (arith, reads_at-cons q e (remove_entry (nat_eq number) es), reads_at-cons q e es, rest is)

-- ---- numbers

pub absent : (begun : ℕ) (es : Attempts) → IsTrue (list_all (λ (r : Row). nat_le r.number begun) (as_rows es)) → lookup (nat_eq (begun + 1)) es ≡ None
absent begun [] within = refl
absent begun (e ∷ es) within =
    let parts = and_parts (nat_le e.0 begun) (list_all (λ (r : Row). nat_le r.number begun) (as_rows es)) within in
    ap (λ t. cond t (Some e.1) (lookup (nat_eq (begun + 1)) es)) (other e.0 parts.0) ∙ absent begun es parts.1
  where
    other : (n : ℕ) → IsTrue (nat_le n begun) → nat_eq (begun + 1) n ≡ false
    other n below = grind (arith, nat_tests, below)

-- ---- what a table keeps

-- an attempt keeps its UUID, and is sound where it was
abbrev pub Kept : ℕ → Txn → Txn → Type 0
Kept number old new = (new.uuid ≡ old.uuid) × (IsTrue (is_sound (as_row number old)) → IsTrue (is_sound (as_row number new)))

-- what a change of the row keeps
pub kept_by : (number : ℕ) (old new : Txn) (change : Row → Row) → as_row number new ≡ change (as_row number old) → (change (as_row number old)).uuid ≡ old.uuid
    → (IsTrue (is_sound (as_row number old)) → IsTrue (is_sound (change (as_row number old)))) → Kept number old new
kept_by number old new change is uuid sound = (ap (λ (r : Row). r.uuid) is ∙ uuid, λ was. subst (λ (r : Row). IsTrue (is_sound r)) (sym is) (sound was))

like-same : (rows : List Row) → AreLike rows rows
like-same [] = tt
like-same (row ∷ rows) = (record { number = refl; uuid = refl; sound = λ sound. sound }, like-same rows)

like-set : (number : ℕ) (es : Attempts) (old new : Txn) → lookup (nat_eq number) es ≡ Some old → Kept number old new → AreLike (as_rows es) (as_rows (set_value (nat_eq number) es new))
like-set number [] old new is kept = tt
like-set number (e ∷ es) old new is kept = cases (λ there. like-set number es old new there kept) (nat_eq number e.0) refl is
  where
    cases : (lookup (nat_eq number) es ≡ Some old → AreLike (as_rows es) (as_rows (set_value (nat_eq number) es new))) → (t : Bool) → nat_eq number e.0 ≡ t → cond t (Some e.1) (lookup (nat_eq number) es) ≡ Some old
        → AreLike (as_rows (e ∷ es)) (as_rows (cond t ((e.0, new) ∷ es) (e ∷ set_value (nat_eq number) es new)))
    cases rest true at there =
        let txn_is : old ≡ e.1 = sym (ap (λ o. unwrap_or o old) there) in
        let here : Kept e.0 e.1 new = subst (λ (t : Txn). Kept e.0 t new) txn_is (subst (λ n. Kept n old new) (eqb-true number e.0 at) kept) in
        (record { number = refl; uuid = here.0; sound = here.1 }, like-same (as_rows es))
    cases rest false at there = (record { number = refl; uuid = refl; sound = λ sound. sound }, rest there)

module _ {begun : ℕ} {es : Attempts} {numbers : List (List ℕ × ℕ)} {pins : List (TxnId × ℕ)} (table : IsTable begun es numbers pins) where
  pub kept-set : (number : ℕ) (old new : Txn) (pins' : List (TxnId × ℕ)) → lookup (nat_eq number) es ≡ Some old → Kept number old new → AreNeeded pins'
      → ((q : TxnId) → pin_count q pins' + pairs_at q old.reads ≡ pin_count q pins + pairs_at q new.reads) → IsTable begun (set_value (nat_eq number) es new) numbers pins'
  kept-set number old new pins' is kept needed counted =
      let like = like-set number es old new is kept in
      record {
        legal = legal_like begun (as_rows es) (as_rows (set_value (nat_eq number) es new)) like table.legal;
        numbered = λ uuid. table.numbered uuid ∙ sym (number_like uuid (as_rows es) (as_rows (set_value (nat_eq number) es new)) like);
        counted = λ q. omega (arith, counted q, table.counted q, reads_at-set q number es old new is);
        needed = needed;
      }

  pub kept-same : (number : ℕ) (old new : Txn) → lookup (nat_eq number) es ≡ Some old → Kept number old new → new.reads ≡ old.reads → IsTable begun (set_value (nat_eq number) es new) numbers pins
  kept-same number old new is kept same = kept-set number old new pins is kept table.needed (λ q. ap (λ (reads : List ReadPair). pin_count q pins + pairs_at q reads) (sym same))

  -- what an attempt has read is counted
  pub counted_in : (number : ℕ) (old : Txn) → lookup (nat_eq number) es ≡ Some old → (q : TxnId) → pairs_at q old.reads ≤ pin_count q pins
  counted_in number old is q = omega (arith, reads_at-removed q number es old is, table.counted q)

  pub kept-removed : (number : ℕ) (old : Txn) (numbers' : List (List ℕ × ℕ)) (pins' : List (TxnId × ℕ)) → lookup (nat_eq number) es ≡ Some old
      → ((uuid : List ℕ) → lookup (bytes_eq uuid) numbers' ≡ cond (bytes_eq old.uuid uuid) None (lookup (bytes_eq uuid) numbers))
      → AreNeeded pins' → ((q : TxnId) → pin_count q pins' ≡ pin_count q pins - pairs_at q old.reads)
      → IsTable begun (remove_entry (nat_eq number) es) numbers' pins'
  kept-removed number old numbers' pins' is out needed less =
      record {
        legal = subst (λ (rows : List Row). IsLegal (record { begun = begun; rows = rows })) (sym (removed number es)) (legal_without begun number (as_rows es) table.legal);
        numbered = λ uuid. out uuid ∙ ap (cond (bytes_eq old.uuid uuid) None) (table.numbered uuid)
            ∙ sym (number_without uuid number (as_row number old) (as_rows es) table.legal.apart (row-some number es old is)) ∙ ap (number_of uuid) (sym (removed number es));
        counted = λ q. omega (arith, less q, table.counted q, reads_at-removed q number es old is);
        needed = needed;
      }

  pub kept-more : (new : Txn) (numbers' : List (List ℕ × ℕ)) → row_of_uuid new.uuid (as_rows es) ≡ None → as_row (begun + 1) new ≡ opened (begun + 1) new.uuid
      → ((uuid : List ℕ) → lookup (bytes_eq uuid) numbers' ≡ cond (bytes_eq new.uuid uuid) (Some (begun + 1)) (lookup (bytes_eq uuid) numbers)) → new.reads ≡ []
      → IsTable (begun + 1) (es ++ (begun + 1, new) ∷ []) numbers' pins
  kept-more new numbers' unused row put none =
      record {
        legal = subst (λ (rows : List Row). IsLegal (record { begun = begun + 1; rows = rows })) (sym rows) (legal_more begun (as_rows es) new.uuid unused table.legal);
        numbered = λ uuid. put uuid ∙ ap (cond (bytes_eq new.uuid uuid) (Some (begun + 1))) (table.numbered uuid) ∙ sym (number_more uuid (as_rows es) (opened (begun + 1) new.uuid) unused) ∙ ap (number_of uuid) (sym rows);
        counted = λ q. table.counted q ∙ sym (same q);
        needed = table.needed;
      }
    where
      rows : as_rows (es ++ (begun + 1, new) ∷ []) ≡ as_rows es ++ opened (begun + 1) new.uuid ∷ []
      rows = map-append (λ (e : ℕ × Txn). as_row e.0 e.1) es ((begun + 1, new) ∷ []) ∙ ap (λ (r : Row). as_rows es ++ r ∷ []) row

      same : (q : TxnId) → reads_at q (es ++ (begun + 1, new) ∷ []) ≡ reads_at q es
      same q =
          let last : pairs_at q new.reads ≡ 0 = ap (pairs_at q) none in
          let split = sum_by-append (λ (entry : ℕ × Txn). pairs_at q entry.1.reads) es ((begun + 1, new) ∷ []) in
          omega (arith, last, split, reads_at-cons q (begun + 1, new) [])

  -- the same of an attempt of a UUID that is new
  pub begun_with : (new : Txn) (numbers' : List (List ℕ × ℕ)) (uuid : List ℕ) → row_of_uuid uuid (as_rows es) ≡ None → as_row (begun + 1) new ≡ opened (begun + 1) uuid
      → ((u : List ℕ) → lookup (bytes_eq u) numbers' ≡ cond (bytes_eq new.uuid u) (Some (begun + 1)) (lookup (bytes_eq u) numbers)) → new.reads ≡ []
      → IsTable (begun + 1) (es ++ (begun + 1, new) ∷ []) numbers' pins
  begun_with new numbers' uuid unused row put none =
      let is : new.uuid ≡ uuid = ap (λ (r : Row). r.uuid) row in
      kept-more new numbers' (ap (λ u. row_of_uuid u (as_rows es)) is ∙ unused) (row ∙ ap (opened (begun + 1)) (sym is)) put none

  -- the same with other numbers that say the same
  pub kept-numbers : (numbers' : List (List ℕ × ℕ)) → ((uuid : List ℕ) → lookup (bytes_eq uuid) numbers' ≡ lookup (bytes_eq uuid) numbers) → IsTable begun es numbers' pins
  kept-numbers numbers' same = record { legal = table.legal; numbered = λ uuid. same uuid ∙ table.numbered uuid; counted = table.counted; needed = table.needed }

  -- a UUID without a row has no number
  pub unused-number : (uuid : List ℕ) → row_of_uuid uuid (as_rows es) ≡ None → lookup (bytes_eq uuid) numbers ≡ None
  unused-number uuid none = table.numbered uuid ∙ ap (option_map (λ (r : Row). r.number)) none

  -- a UUID without a number has no row
  pub unnumbered : (uuid : List ℕ) → lookup (bytes_eq uuid) numbers ≡ None → row_of_uuid uuid (as_rows es) ≡ None
  unnumbered uuid none = cases (row_of_uuid uuid (as_rows es)) (sym (table.numbered uuid) ∙ none)
    where
      cases : (o : Option Row) → option_map (λ (r : Row). r.number) o ≡ None → o ≡ None
      cases None is = refl
      cases (Some row) is = absurd cc

  -- a UUID that has a number is that of the row of the number
  pub numbered-row : (uuid : List ℕ) (number : ℕ) → lookup (bytes_eq uuid) numbers ≡ Some number → row_of_uuid uuid (as_rows es) ≡ row_at number (as_rows es)
  numbered-row uuid number is = cases (row_of_uuid uuid (as_rows es)) refl (sym (table.numbered uuid) ∙ is)
    where
      cases : (o : Option Row) → row_of_uuid uuid (as_rows es) ≡ o → option_map (λ (r : Row). r.number) o ≡ Some number → row_of_uuid uuid (as_rows es) ≡ row_at number (as_rows es)
      cases None there has = absurd cc
      cases (Some row) there has =
          there ∙ sym (row_found uuid row (as_rows es) table.legal.in_order there) ∙ ap (λ n. row_at n (as_rows es)) (ap (λ o. unwrap_or o number) has)

-- an id that is its attempt's is that of its row
pub own-at : (there : Option Row) (row : Row) (result : Result TxnId TxnFault) → there ≡ Some row → IfOk result (λ id. IsTrue (is_own row.uuid (Some id))) → IfOk result (λ id. ForSome there (λ r. IsTrue (is_own r.uuid (Some id))))
own-at there row (Ok id) is own = λ r at. subst (λ (s : Row). IsTrue (is_own s.uuid (Some id))) (ap (λ o. unwrap_or o row) (sym is ∙ at)) own
own-at there row (Err fault) is own = own

sound-at : (number : ℕ) (rows : List Row) (row : Row) → IsTrue (list_all is_sound rows) → row_at number rows ≡ Some row → IsTrue (is_sound row)
sound-at number [] row sound is = absurd cc
sound-at number (other ∷ rows) row sound is =
    let parts = and_parts (is_sound other) (list_all is_sound rows) sound in
    cases (nat_eq number other.number) is parts.0 (sound-at number rows row parts.1)
  where
    cases : (b : Bool) → (if b then Some other else row_at number rows) ≡ Some row → IsTrue (is_sound other) → (row_at number rows ≡ Some row → IsTrue (is_sound row)) → IsTrue (is_sound row)
    cases true here sound rest = subst (λ (r : Row). IsTrue (is_sound r)) (ap (λ o. unwrap_or o other) here) sound
    cases false there sound rest = rest there

keys-same : (writes : List Buffered) → written_keys (map as_write writes) ≡ map (λ (w : Buffered). w.key) writes
keys-same [] = refl
keys-same (write ∷ writes) = ap (λ keys. write.key ∷ keys) (keys-same writes)

few-same : (writes : List Buffered) → length (map as_write writes) ≡ length writes
few-same [] = refl
few-same (write ∷ writes) = ap suc (few-same writes)

-- what is told of a row's buffer ascends by key, and is at most 32 writes
pub told_writes : (number : ℕ) (rows : List Row) (writes : List Buffered) → IsTrue (list_all is_sound rows) → option_map (λ (r : Row). r.writes) (row_at number rows) ≡ Some (map as_write writes)
    → IsTrue (ascend (map (λ (w : Buffered). w.key) writes)) × (length writes ≤ 32)
told_writes number rows writes sound is = cases (row_at number rows) refl is
  where
    cases : (o : Option Row) → row_at number rows ≡ o → option_map (λ (r : Row). r.writes) o ≡ Some (map as_write writes) → IsTrue (ascend (map (λ (w : Buffered). w.key) writes)) × (length writes ≤ 32)
    cases None at has = absurd cc
    cases (Some row) at has =
        let same : row.writes ≡ map as_write writes = ap (λ o. unwrap_or o row.writes) has in
        let told = sound_writes row (sound-at number rows row sound at) in
        (subst (λ keys. IsTrue (ascend keys)) (ap written_keys same ∙ keys-same writes) told.0, subst (λ n. n ≤ 32) (ap (λ (ws : List Write). length ws) same ∙ few-same writes) told.1)

-- a number that was put under a UUID without one, and taken out again
pub put_back : (uuid u : List ℕ) (number : ℕ) (old between after : List (List ℕ × ℕ)) → lookup (bytes_eq uuid) old ≡ None
    → lookup (bytes_eq u) between ≡ cond (bytes_eq uuid u) (Some number) (lookup (bytes_eq u) old) → lookup (bytes_eq u) after ≡ cond (bytes_eq uuid u) None (lookup (bytes_eq u) between)
    → lookup (bytes_eq u) after ≡ lookup (bytes_eq u) old
put_back uuid u number old between after new put out = out ∙ ap (cond (bytes_eq uuid u) None) put ∙ cases (bytes_eq uuid u) refl
  where
    cases : (b : Bool) → bytes_eq uuid u ≡ b → cond b None (cond b (Some number) (lookup (bytes_eq u) old)) ≡ lookup (bytes_eq u) old
    cases true here = sym new ∙ ap (λ z. lookup (bytes_eq z) old) (same_text uuid u (sym here))
    cases false other = refl

-- the state that is told of an attempt is its state
pub told-in : (state : State) (writes : List Write) → told (state_in state writes) ≡ Some state
told-in states.Opening writes = refl
told-in states.Running writes = refl
told-in (states.Committing id) writes = refl
told-in (states.Doubt id) writes = refl
told-in states.Leaving writes = refl

-- ---- pins

any_counted : (q : TxnId) (pairs : List ReadPair) → (0 < pairs_at q pairs → IsTrue (list_any (λ pair. same_id q pair.id) pairs)) × (pairs_at q pairs ≡ 0 → list_any (λ pair. same_id q pair.id) pairs ≡ false)
any_counted q [] = (λ above. absurd (omega (arith, above)), λ none. refl)
any_counted q (pair ∷ pairs) = cases (any_counted q pairs) (same_id q pair.id) (sum_by-cons (λ (p : ReadPair). cond (same_id q p.id) 1 0) pair pairs)
  where
    cases : (0 < pairs_at q pairs → IsTrue (list_any (λ p. same_id q p.id) pairs)) × (pairs_at q pairs ≡ 0 → list_any (λ p. same_id q p.id) pairs ≡ false) → (t : Bool) → pairs_at q (pair ∷ pairs) ≡ cond t 1 0 + pairs_at q pairs
        → (0 < pairs_at q (pair ∷ pairs) → IsTrue (t || list_any (λ p. same_id q p.id) pairs)) × (pairs_at q (pair ∷ pairs) ≡ 0 → (t || list_any (λ p. same_id q p.id) pairs) ≡ false)
    cases rest true split = (λ above. refl, λ none. absurd (omega (arith, split, none)))
    cases rest false split = (λ above. rest.0 (omega (arith, split, above)), λ none. rest.1 (omega (arith, split, none)))

any_read : (q : TxnId) (es : Attempts) → (0 < reads_at q es → IsTrue (is_pinned_in q (as_rows es))) × (reads_at q es ≡ 0 → is_pinned_in q (as_rows es) ≡ false)
any_read q [] = (λ above. absurd (omega (arith, above)), λ none. refl)
any_read q (e ∷ es) = cases (any_counted q e.1.reads) (any_read q es) (reads_at-cons q e es)
  where
    here : Bool
    here = list_any (λ p. same_id q p.id) e.1.reads

    cases : (0 < pairs_at q e.1.reads → IsTrue here) × (pairs_at q e.1.reads ≡ 0 → here ≡ false) → (0 < reads_at q es → IsTrue (is_pinned_in q (as_rows es))) × (reads_at q es ≡ 0 → is_pinned_in q (as_rows es) ≡ false)
        → reads_at q (e ∷ es) ≡ pairs_at q e.1.reads + reads_at q es
        → (0 < reads_at q (e ∷ es) → IsTrue (here || is_pinned_in q (as_rows es))) × (reads_at q (e ∷ es) ≡ 0 → (here || is_pinned_in q (as_rows es)) ≡ false)
    cases first rest split = (
      λ above. elim (zero_or (pairs_at q e.1.reads)) [
        | inl none ↦ or_right _ _ (rest.0 (omega (arith, split, above, none)))
        | inr some ↦ or_left _ _ (first.0 some)
      ],
      λ none. ap (λ t. t || is_pinned_in q (as_rows es)) (first.1 (omega (arith, split, none))) ∙ rest.1 (omega (arith, split, none)),
    )

pub pinned-is : {begun : ℕ} {es : Attempts} {numbers : List (List ℕ × ℕ)} {pins : List (TxnId × ℕ)} → IsTable begun es numbers pins → (q : TxnId) → is_some (lookup (same_id q) pins) ≡ is_pinned_in q (as_rows es)
pinned-is {begun} {es} {numbers} {pins} table q = cases (lookup (same_id q) pins) refl
  where
    cases : (o : Option ℕ) → lookup (same_id q) pins ≡ o → is_some o ≡ is_pinned_in q (as_rows es)
    cases None none = sym ((any_read q es).1 (sym (table.counted q) ∙ ap (λ o. unwrap_or o 0) none))
    cases (Some n) some =
        elim (zero_or n) [
          | inl none ↦ absurd (table.needed.none q (some ∙ ap Some none))
          | inr above ↦ sym ((any_read q es).0 (omega (arith, table.counted q, ap (λ o. unwrap_or o 0) some, above)))
        ]

-- a row that is there is an attempt
pub found : (number : ℕ) (es : Attempts) → IsSome (row_at number (as_rows es)) → IsSome (lookup (nat_eq number) es)
found number es is = cases (lookup (nat_eq number) es) (subst IsSome (row_at-lookup number es) is)
  where
    cases : (o : Option Txn) → IsSome (option_map (as_row number) o) → IsSome o
    cases None is = is
    cases (Some txn) is = is

-- what is lent is there where what is behind it is
pub some-by : {A : Type 0} (lent : Option (Bor A)) (there : Option A) → option_copied lent ≡ there → IsSome there → IsSome lent
some-by None there e is = subst IsSome (sym e) is
some-by (Some x) there e is = refl

-- rows of which none changes
pub changed-id : (number : ℕ) (rows : List Row) → changed number (λ row. row) rows ≡ rows
changed-id number [] = refl
changed-id number (row ∷ rows) = cases (changed-id number rows) (nat_eq number row.number)
  where
    cases : changed number (λ r. r) rows ≡ rows → (t : Bool) → (if t then row ∷ rows else row ∷ changed number (λ r. r) rows) ≡ row ∷ rows
    cases rest true = refl
    cases rest false = ap (λ others. row ∷ others) rest
