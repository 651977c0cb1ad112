use Rattle.std.proofs.Common.{sym, ◌∙◌}
use Rattle.std.proofs.lemmas.List.Elements.{All-push}
use Rattle.aft_reply.specs.Limits.{IsJudged}
use Rattle.aft_reply.specs.Reading.{take_judged, words_left}
use Rattle.aft_reply.proofs.Many.{fails_with, left-fails, left-next, some_left}
use Rattle.aft_reply.proofs.lists.all_judged.Goals as goal

pub returns-in-Err-clause-value : goal.returns-in-Err-clause-value
returns-in-Err-clause-value c =
    left-fails take_judged (words_left c.args.left) _ (words_left c.loop-rest.rest) c.in-Err.fault c.loop-rest.invariant.left (some_left c.loop-rest.rest (sym c.is_some.ensures ∙ c.loop-rest-test.true)) (fails_with c.in-Err.fault (take_judged (words_left c.loop-rest.rest)) c.in-Err.ensures.value)

pub loop-rest-preserved : goal.loop-rest-preserved
loop-rest-preserved c = record {
  left = rw c.in_ok-push-in-Ok.ensures.items
      (left-next take_judged (words_left c.args.left) _ (words_left c.loop-rest.rest) (words_left c.in-Ok.behind) c.in-Ok.one c.loop-rest.invariant.left c.in-Ok.ensures.value c.in-Ok.ensures.shorter);
  fits = rw c.in_ok-push-in-Ok.ensures.items (All-push IsJudged _ c.in-Ok.one c.loop-rest.invariant.fits c.in-Ok.ensures.fits);
}
