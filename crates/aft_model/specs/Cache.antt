-- The values that a node keeps, the last used in front.
use Rattle.std.specs.Prelude.{List, Option, Some, [], true, ℕ}
use Rattle.std.specs.List.{fold}
use Rattle.aft_records.specs.Kept.{Kept, with_front}
use Rattle.aft_model.specs.declared.node.NodeAct.{NodeAct}
use Rattle.aft_model.specs.declared.node.NodeAct.TheVariants.{Select, Value}
use Rattle.aft_model.specs.declared.node.NodeEntry.{NodeEntry}
use Rattle.aft_model.specs.declared.reply.Reply.{Reply}
use Rattle.aft_model.specs.declared.choice.Picked.TheVariants as picked
use Rattle.aft_model.specs.declared.reply.Reply.TheVariants as replies

-- what is kept after an act and its answer: a fetched value, unless memory was wanting, and one that was used again, come to the front
abbrev pub cache_after : ℕ → List Kept → NodeAct → Option Reply → List Kept
cache_after capacity before (Value a key id place true) (Some (replies.Value answered value)) = with_front capacity (record { key = key; id = id; value = value }) before
cache_after capacity before (Select a key (picked.Cached id value)) answer = with_front capacity (record { key = key; id = id; value = value }) before
cache_after capacity before act answer = before

-- what a node of this capacity keeps after the part of its service
abbrev pub cache : ℕ → List NodeEntry → List Kept
cache capacity part = fold (λ before entry. cache_after capacity before entry.act entry.answer) [] part
