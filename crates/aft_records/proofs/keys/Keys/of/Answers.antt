use Rattle.std.proofs.Common.{◌≡◌, ◌∙◌, ap, sym, rules}
use Rattle.aft_records.specs.Reading.{checked_keys}
use Rattle.aft_records.proofs.KeyChecks.{all_keys}
use Rattle.aft_records.proofs.keys.Keys.of.Goals as goal

pub keys_from-requires : goal.keys_from-requires
keys_from-requires c = all_keys 0 c.args.texts.items (ap (checked_keys 0) (sym c.as_slice.ensures.value) ∙ c.in_ok-check_keys.ensures)

pub invariant_of-result : goal.invariant_of-result
invariant_of-result c =
    let e : c.from_vec-keys.result ≡ c.args.texts.items = c.from_vec-keys.ensures ∙ c.in_ok-keys_from.ensures in
    rw e (record {
      some = search rules;
      few = search rules;
      each = all_keys 0 c.args.texts.items (ap (checked_keys 0) (sym c.as_slice.ensures.value) ∙ c.in_ok-check_keys.ensures);
      ascending = c.requires;
    })
