use Rattle.std.proofs.Common.{All, length}
use Rattle.aft_reply.specs.Limits.{IsJudged}
use Rattle.aft_reply.specs.Reading.{take_judged, words_left}
use Rattle.aft_reply.proofs.Many.{Left}
use Rattle.aft_reply.proofs.lists.all_judged.Given as goal

-- what was read so far, and what is left of the words
abbrev pub invariant-loop-rest : goal.invariant-loop-rest
invariant-loop-rest l = record {
  left : Left take_judged (words_left l.fn.left) l.judged.items (words_left l.rest);
  fits : All IsJudged l.judged.items;
}

abbrev pub decreases-loop-rest : goal.decreases-loop-rest
decreases-loop-rest l = length (words_left l.rest)
