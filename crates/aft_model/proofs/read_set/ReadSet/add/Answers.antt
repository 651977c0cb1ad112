use Rattle.std.proofs.Common.{List, ap, subst, sym, ◌∙◌, ◌++◌, ◌∷◌, []}
use Rattle.aft_model.specs.declared.read_set.ReadPair.{ReadPair}
use Rattle.aft_model.specs.ReadSet.{IsIndexed, read_at}
use Rattle.aft_model.proofs.ReadSets.{IsIndexed-push}
use Rattle.aft_model.proofs.read_set.ReadSet.add.Goals as goal

pub invariant_of-self-2 : goal.invariant_of-self-2
invariant_of-self-2 c =
    let new = ap (read_at c.args.key) c.self.view_is ∙ c.requires in
    let is = c.push_reserved.ensures.items ∙ ap (λ (pairs : List ReadPair). pairs ++ record { key = c.args.key; id = c.args.id } ∷ []) c.reserve.ensures.items in
    subst (λ (pairs : List ReadPair). IsIndexed pairs c.note.new.ids.entries c.note.new.seen.keys) (sym is)
    (IsIndexed-push c.self.inside.pairs.items (record { key = c.args.key; id = c.args.id }) c.self.inside.ids.entries c.note.new.ids.entries c.self.inside.seen.keys c.note.new.seen.keys c.self.invariant new c.in_ok-note.ensures.keys c.in_ok-note.ensures.ids)
