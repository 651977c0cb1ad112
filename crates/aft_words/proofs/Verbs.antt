-- Words that are no command.
use Rattle.std.proofs.Common.{List, None, codes, false, refl, ℕ, ◌≡◌}
use Rattle.std.specs.Str.{bytes_eq}
use Rattle.std.proofs.lemmas.Bool.{false_from_ne_true}
use Rattle.std.proofs.lemmas.Slice.Eq.{bytes_eq-Decides}
use Rattle.aft_words.specs.Reading.{Gathered, asked_of}

-- texts that differ are told apart
told_apart : (word other : List ℕ) → (word ≡ other → ⊥) → bytes_eq word other ≡ false
told_apart word other differ = false_from_ne_true _ (λ same. differ ((bytes_eq-Decides word other).0 same))

-- what is no command asks for nothing
pub asked_of-none : (word : List ℕ) (given : Gathered)
    → (word ≡ codes "run" → ⊥) → (word ≡ codes "step" → ⊥) → (word ≡ codes "make" → ⊥) → (word ≡ codes "upgrade" → ⊥)
    → (word ≡ codes "session" → ⊥) → (word ≡ codes "backup" → ⊥) → (word ≡ codes "restore" → ⊥) → (word ≡ codes "check" → ⊥)
    → None ≡ asked_of word given
asked_of-none word given run step make upgrade session backup restore check =
    rw (
      told_apart word _ run,
      told_apart word _ step,
      told_apart word _ make,
      told_apart word _ upgrade,
      told_apart word _ session,
      told_apart word _ backup,
      told_apart word _ restore,
      told_apart word _ check,
    ) refl
