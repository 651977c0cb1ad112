use Rattle.std.proofs.Common.{take, ◌++◌, ◌≡◌}
use Rattle.std.specs.List.{flat_map}
use Rattle.std.specs.Prelude.{codes}
use Rattle.std.specs.String.{string_bytes}
use Rattle.aft_model.specs.ReplyText.{judged_words}
use Rattle.aft_reply.specs.Behind.{behind}
use Rattle.aft_reply.proofs.writing.collected.Given as goal

-- the first word, and the verdicts so far
abbrev pub invariant-loop-one : goal.invariant-loop-one
invariant-loop-one l = string_bytes l.text ≡ codes "collected" ++ behind (flat_map judged_words (take l.one-index l.judged))
