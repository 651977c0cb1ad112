-- What bytes that are a document are read as, and bytes that are none.
use Rattle.std.proofs.Common.{Bool, Err, List, None, Some, false, if◌then◌else◌, refl, true, ℕ, ◌≡◌}
use Rattle.std.specs.Str.{IsUtf8, is_utf8}
use Rattle.std.proofs.lemmas.Str.{IsUtf8-from_is_utf8, is_utf8-from_IsUtf8}
use Rattle.toml.specs.Data.{Members}
use Rattle.toml.specs.Parse.{parse_document}
use Rattle.aft_conf.specs.Settings.{conf_of, default_settings, of_document, with_members}
use Rattle.aft_conf.specs.declared.fault.ConfFault.TheVariants.{NotToml}

pub conf_of_document : (bytes : List ℕ) (table : Members) → IsUtf8 bytes → parse_document bytes ≡ Some table
    → conf_of bytes ≡ with_members table default_settings
conf_of_document bytes table text parsed = rw (is_utf8-from_IsUtf8 bytes text, parsed)

-- by whether the bytes are UTF-8
refused_either_way : (bytes : List ℕ) (b : Bool) → (b ≡ true → parse_document bytes ≡ None)
    → (if b then of_document (parse_document bytes) else Err NotToml) ≡ Err NotToml
refused_either_way bytes true none = rw (none refl)
refused_either_way bytes false none = refl

pub conf_of_other : (bytes : List ℕ) → (IsUtf8 bytes → parse_document bytes ≡ None) → conf_of bytes ≡ Err NotToml
conf_of_other bytes none = refused_either_way bytes (is_utf8 bytes) (λ e. none (IsUtf8-from_is_utf8 bytes e))
