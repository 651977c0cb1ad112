-- Bytes of 33 to 126 are a text.
use Rattle.std.proofs.Common.{List, [], arith, get_or, lit<, suc, true, zero, ℕ, ◌<◌, ◌≡◌, ◌∷◌}
use Rattle.std.specs.List.{list_all}
use Rattle.std.specs.Str.{IsUtf8}
use Rattle.std.proofs.lemmas.Bool.{and_parts}
use Rattle.std.proofs.lemmas.Bool.Decides.{nat_tests}
use Rattle.std.proofs.lemmas.Str.{IsUtf8-from_ascii}
use Rattle.aft_records.specs.Limits.{is_key_byte}

small : (bytes : List ℕ) (i : ℕ) → list_all is_key_byte bytes ≡ true → get_or bytes i 0 < 128
small [] i all = lit< tt
small (b ∷ bytes) zero all = let parts = and_parts (is_key_byte b) (list_all is_key_byte bytes) all in grind (arith, nat_tests, parts.0)
small (b ∷ bytes) (suc i) all = small bytes i ((and_parts (is_key_byte b) (list_all is_key_byte bytes) all).1)

pub graphic_is_utf8 : (bytes : List ℕ) → list_all is_key_byte bytes ≡ true → IsUtf8 bytes
graphic_is_utf8 bytes all = IsUtf8-from_ascii bytes (λ i. small bytes i all)
