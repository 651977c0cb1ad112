use Rattle.std.proofs.Common.{sym, ◌∙◌}
use Rattle.std.proofs.lemmas.Str.Pattern.{starts_text}
use Rattle.uuid.specs.Text.{parsed, urn_prefix}
use Rattle.aft_id.proofs.UuidTexts.{other_prefix, parsed_ok, parsed_spelled}
use Rattle.aft_id.proofs.uuid_text.spelled_uuid.Goals as goal
use Rattle.aft_id.proofs.uuid_text.spelled_uuid.Goals.{else-text-eq45-via-then-text-eq45+else-not-starts_with, else-text-eq45-via-else-text-eq45}

pub returns-then-not-starts_with : goal.returns-then-not-starts_with
returns-then-not-starts_with c =
    sym (other_prefix c.args.text.now c.if-text-eq45.true
    (sym (starts_text c.starts_with.result urn_prefix c.args.text.now c.starts_with.ensures.cases) ∙ c.if-not-starts_with.true))

pub returns : goal.returns
returns c =
    c.ok.ensures.value
    ∙ parsed_ok c.try_parse.result (parsed c.args.text.now) c.try_parse.ensures.ok c.try_parse.ensures.bytes
    ∙ parsed_spelled c.args.text.now (λ long.
    elim c.else-text-eq45.branch [
      | else-text-eq45-via-then-text-eq45+else-not-starts_with w ↦
          sym (starts_text w.starts_with.result urn_prefix c.args.text.now w.starts_with.ensures.cases) ∙ w.if-not-starts_with.false
      | else-text-eq45-via-else-text-eq45 w ↦ absurd (w.if-text-eq45.false long)
    ])
