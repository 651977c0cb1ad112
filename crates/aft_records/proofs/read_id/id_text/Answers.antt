use Rattle.std.proofs.Common.{◌≡◌, ◌∙◌, ◌++◌, ap, List, ℕ}
use Rattle.std.specs.Prelude.{string_bytes, length}
use Rattle.aft_records.specs.Names.{id_digits}
use Rattle.aft_records.proofs.ReadIds.{id_digits_length}
use Rattle.aft_records.proofs.read_id.id_text.Goals as goal

pub returns-clause-long : goal.returns-clause-long
returns-clause-long c =
    let pushed : string_bytes c.push_id.new.text ≡ id_digits c.args.id.now = c.in_ok-push_id.ensures ∙ ap (λ (front : List ℕ). front ++ id_digits c.args.id.now) c.new-text.ensures.bytes in
    ap length pushed ∙ id_digits_length c.args.id.now c.uuid_bytes.ensures.bytes
