use Rattle.std.proofs.Common.{take, ◌++◌, ◌≡◌}
use Rattle.std.specs.List.{flat_map}
use Rattle.std.specs.Prelude.{codes}
use Rattle.std.specs.String.{string_bytes}
use Rattle.aft_model.specs.ReplyText.{blocker_words}
use Rattle.aft_reply.specs.Behind.{behind}
use Rattle.aft_reply.proofs.writing.no_valid_version.Given as goal

-- the first word, and the blockers so far
abbrev pub invariant-loop-one : goal.invariant-loop-one
invariant-loop-one l = string_bytes l.text ≡ codes "no-valid-version" ++ behind (flat_map blocker_words (take l.one-index l.blocked))
