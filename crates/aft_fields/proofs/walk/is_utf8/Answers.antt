use Rattle.std.proofs.Common.{◌≡◌, ◌∙◌, Bool, true, false, List, ℕ, Result, Ok, Err, refl, sym}
use Rattle.std.specs.Prelude.{MatchResult, is_ok}
use Rattle.std.specs.Str.{is_utf8, IsUtf8}
use Rattle.std.proofs.lemmas.Str.{IsUtf8-from_is_utf8, is_utf8-from_IsUtf8}
use Rattle.aft_fields.proofs.walk.is_utf8.Goals as goal

refuted : (b : Bool) → (b ≡ true → ⊥) → false ≡ b
refuted true h = absurd (h refl)
refuted false h = refl

tested : {A E : Type 0} (P : A → Type 0) (Q : E → Type 0) (r : Result A E) (bytes : List ℕ)
    → MatchResult r (λ s. P s × IsUtf8 bytes) (λ e. ¬ (IsUtf8 bytes) × Q e) → is_ok r ≡ is_utf8 bytes
tested P Q (Ok s) bytes h = sym (is_utf8-from_IsUtf8 bytes h.1)
tested P Q (Err e) bytes h = refuted (is_utf8 bytes) (λ yes. h.0 (IsUtf8-from_is_utf8 bytes yes))

pub returns : goal.returns
returns c = c.is_ok.ensures.value ∙ tested _ _ c.from_utf8.result c.args.bytes.now c.from_utf8.ensures.cases
