use Rattle.std.proofs.Common.{◌≢◌, get_or, sym, ◌∙◌}
use Rattle.aft_run.proofs.Times.{is_ok-time}
use Rattle.aft_run.proofs.words.time_of.Goals as goal

pub returns : goal.returns
returns c =
    let unsigned : get_or c.args.word.now 0 0 ≢ 43 = rw (← c.as_bytes.ensures.value) c.if-as_bytes-eq43.false in
    let same = c.ok.ensures.variant ∙ is_ok-time c.args.word.now c.parse.result c.parse.ensures.value.0 unsigned in
    (λ h. sym same ∙ h, λ h. same ∙ h)
