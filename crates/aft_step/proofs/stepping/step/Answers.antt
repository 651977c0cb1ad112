use Rattle.std.proofs.Common.{ap, sym, ◌∙◌}
use Rattle.aft_model.specs.declared.script.Script.{Script}
use Rattle.aft_step.proofs.Opening.{begins_so, ends_so, words_whole}
use Rattle.aft_step.proofs.stepping.step.Goals as goal

pub follow_all-requires : goal.follow_all-requires
follow_all-requires g c =
    let it = c.requires.asked in
    record {
      stands = (
        it.0,
        ap (λ (s : Script). s.lines) it.1.script ∙ sym c.as_slice-lines.ensures,
        it.1.clock,
        words_whole it.0 c.args.order.now it.1.order c.as_slice.result.now (sym c.as_slice.ensures),
        begins_so it.0 c.args.order.now c.as_slice.result.now _ c.first_clients-clients.result it.1.may it.1.order (sym c.as_slice.ensures) it.2 it.3 c.first_clients-clients.ensures,
      );
    }

pub finish_all-requires : goal.finish_all-requires
finish_all-requires g c =
    let it = c.requires.asked in
    let is = ap (λ (s : Script). s.lines) it.1.script ∙ sym c.as_slice-lines.ensures in
    record {
      stands = (
        it.0,
        is,
        it.1.clock,
        c.follow_all.ensures.goes it.0 is it.1.clock (words_whole it.0 c.args.order.now it.1.order c.as_slice.result.now (sym c.as_slice.ensures))
            (begins_so it.0 c.args.order.now c.as_slice.result.now _ c.first_clients-clients.result it.1.may it.1.order (sym c.as_slice.ensures) it.2 it.3 c.first_clients-clients.ensures),
      );
    }

pub returns-clause-legal : goal.returns-clause-legal
returns-clause-legal g c asked is opened room =
    let same = ap (λ (s : Script). s.lines) is.script ∙ sym c.as_slice-lines.ensures in
    ends_so asked c.args.order.now c.as_slice-lines.result.now _ c.finish_all.new.clients is.order same
    (c.finish_all.ensures.goes asked same is.clock
    (c.follow_all.ensures.goes asked same is.clock (words_whole asked c.args.order.now is.order c.as_slice.result.now (sym c.as_slice.ensures))
    (begins_so asked c.args.order.now c.as_slice.result.now _ c.first_clients-clients.result is.may is.order (sym c.as_slice.ensures) opened room c.first_clients-clients.ensures)))
