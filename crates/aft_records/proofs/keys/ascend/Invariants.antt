use Rattle.std.proofs.Common.{◌≡◌, take, drop, IsTrue}
use Rattle.std.specs.List.{list_all}
use Rattle.std.specs.Option.{option_copied}
use Rattle.aft_fields.specs.Order.{ascend_after, ascend}
use Rattle.aft_records.specs.Limits.{is_key}
use Rattle.aft_records.proofs.keys.ascend.Given as goal

abbrev pub invariant-loop-key : goal.invariant-loop-key
invariant-loop-key l = (ascend l.keys ≡ ascend_after (option_copied l.before) (drop l.key-index l.keys)) × IsTrue (list_all is_key (take l.key-index l.keys))
