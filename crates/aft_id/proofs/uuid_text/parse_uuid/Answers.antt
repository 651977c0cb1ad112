use Rattle.std.proofs.Common.{◌≡◌, lit<, ap, sym, ◌∙◌, ok_or, Some, None}
use Rattle.std.proofs.lemmas.Str.Pattern.{strip_prefix_char}
use Rattle.aft_id.specs.UuidText.{uuid_of_text}
use Rattle.aft_id.specs.declared.fault.IdFault.TheVariants.{BadUuid}
use Rattle.aft_id.proofs.UuidTexts.{at_sign, no_at_sign, ok_or_read, ok_or_refused, ok_or_IsUuid}
use Rattle.aft_id.proofs.uuid_text.parse_uuid.Goals as goal
use Rattle.aft_id.proofs.uuid_text.parse_uuid.Goals.{in-Some, in-None}

-- what was found is what the text names
found : (c : goal.After-ok_or) → c.match-strip_prefix.uuid ≡ uuid_of_text c.args.text.now
found c =
    elim c.match-strip_prefix.branch [
      | in-Some w ↦
          let cut = strip_prefix_char 64 c.args.text.now (Some w.in-Some.digits) w.in-Some.ensures.cases (lit< tt) in
          w.uuid-is ∙ w.numbered_uuid-uuid.ensures ∙ sym (at_sign w.in-Some.digits.now) ∙ ap uuid_of_text (sym cut)
      | in-None w ↦
          let whole = strip_prefix_char 64 c.args.text.now None w.in-None.ensures.cases (lit< tt) in
          w.uuid-is ∙ w.spelled_uuid-uuid.ensures ∙ sym (no_at_sign c.args.text.now whole)
    ]

pub returns-clause-value : goal.returns-clause-value
returns-clause-value c = c.ok_or.ensures.value ∙ ap (λ o. ok_or o BadUuid) (found c)

pub returns-clause-read : goal.returns-clause-read
returns-clause-read c = ok_or_read (uuid_of_text c.args.text.now) BadUuid c.ok_or.result (returns-clause-value c)

pub returns-clause-bad : goal.returns-clause-bad
returns-clause-bad c = rw (returns-clause-value c) (ok_or_refused (uuid_of_text c.args.text.now) BadUuid)

pub returns-clause-bytes : goal.returns-clause-bytes
returns-clause-bytes c = ok_or_IsUuid c.args.text.now c.ok_or.result (returns-clause-read c)
