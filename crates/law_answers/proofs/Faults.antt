-- What a line with scan runs is answered of faults: of a failed call no reply that comes exactly, else of too many names, else of the first damage.
use Rattle.std.proofs.Common.{◌≡◌, ℕ, Bool, true, false, ◌&&◌, not, List, refl, sym, ap, ◌∙◌}
use Rattle.std.specs.Prelude.{IsTrue, Option, Some, None}
use Rattle.std.specs.Str.{bytes_eq}
use Rattle.std.proofs.lemmas.Bool.{and_parts, false≢true, or_right}
use Rattle.aft_model.specs.declared.reply.Reply.{Reply}
use Rattle.aft_model.specs.declared.reply.Reply.TheVariants.{Damaged, TooManyRecords}
use Rattle.aft_model.specs.History.{first_of}
use Rattle.aft_model.proofs.Sights.{same_bytes}
use Rattle.aft_lines.specs.CausesScans.{is_written_name, written_name}
use Rattle.law_answers.proofs.Scans.{Fair}

abbrev pub told_faults : Bool → Bool → Option (List ℕ) → Option Reply → Option Reply
told_faults true many name otherwise = None
told_faults false true name otherwise = Some TooManyRecords
told_faults false false (Some name) otherwise = Some (Damaged (written_name name))
told_faults false false None otherwise = otherwise

-- a call failed
pub failed_so : (failed many : Bool) (name : Option (List ℕ)) (otherwise : Option Reply) → IsTrue failed → None ≡ told_faults failed many name otherwise
failed_so true many name otherwise is = refl
failed_so false many name otherwise is = absurd (false≢true is)

-- too many names, where no call failed
too_many_so : (failed many : Bool) (name : Option (List ℕ)) (otherwise : Option Reply) → (IsTrue failed → many ≡ false) → IsTrue many → Some TooManyRecords ≡ told_faults failed many name otherwise
too_many_so true many name otherwise not_both is = absurd (false≢true (sym (not_both refl) ∙ is))
too_many_so false true name otherwise not_both is = refl
too_many_so false false name otherwise not_both is = absurd (false≢true is)

-- damage, where no call failed
damage_so : (failed many : Bool) (name : Option (List ℕ)) (otherwise : Option Reply) (written : List ℕ) → (IsTrue failed → name ≡ None) → IsTrue (is_written_name written name && not many) → Some (Damaged written) ≡ told_faults failed many name otherwise
damage_so failed many None otherwise written not_both is = absurd (false≢true is)
damage_so true many (Some name) otherwise written not_both is = absurd (cc (not_both refl))
damage_so false true (Some name) otherwise written not_both is = absurd (false≢true (and_parts (bytes_eq written (written_name name)) false is).1)
damage_so false false (Some name) otherwise written not_both is = ap (λ (n : List ℕ). Some (Damaged n)) (same_bytes written (written_name name) (and_parts (bytes_eq written (written_name name)) true is).0)

module _ (failed whole many : Bool) (damage : List (List ℕ)) (fair : Fair failed whole many damage) (otherwise : Option Reply) where
  pub many_told : IsTrue many → Some TooManyRecords ≡ told_faults failed many (first_of damage) otherwise
  many_told is = too_many_so failed many (first_of damage) otherwise (λ f. fair.few (or_right _ _ f)) is

  pub damage_told : (written : List ℕ) → IsTrue (is_written_name written (first_of damage) && not many) → Some (Damaged written) ≡ told_faults failed many (first_of damage) otherwise
  damage_told written is = damage_so failed many (first_of damage) otherwise written (λ f. ap first_of (fair.unspoiled (or_right _ _ f))) is

-- none of it
pub otherwise_told : (failed many : Bool) (damage : List (List ℕ)) (otherwise : Option Reply) → failed ≡ false → many ≡ false → first_of damage ≡ None → otherwise ≡ told_faults failed many (first_of damage) otherwise
otherwise_told failed many damage otherwise f m d = sym (ap (λ (b : Bool). told_faults b many (first_of damage) otherwise) f ∙ ap (λ (b : Bool). told_faults false b (first_of damage) otherwise) m ∙ ap (λ (name : Option (List ℕ)). told_faults false false name otherwise) d)
