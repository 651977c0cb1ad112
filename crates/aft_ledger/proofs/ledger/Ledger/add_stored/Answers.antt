use Rattle.std.proofs.Common.{vec_capacity}
use Rattle.std.proofs.Common.{[], ◌∷◌}
use Rattle.std.proofs.lemmas.List.Sums.{fold-append}
use Rattle.aft_records.specs.Commits.{with_id_once}
use Rattle.aft_model.specs.NodeRules.{is_storing}
use Rattle.aft_ledger.proofs.Acts.{stores}
use Rattle.aft_ledger.proofs.Fields.{does, entry_space, held}
use Rattle.aft_ledger.proofs.ledger.Ledger.add_stored.Goals as goal

pub invariant_of-self-2 : goal.invariant_of-self-2
invariant_of-self-2 c =
    let more = fold-append with_id_once [] c.self.inside.fresh.items (c.args.commit ∷ []) in
    rw (c.add.ensures.entry, c.add.ensures.front, c.add.ensures.room, c.in_ok-learn.ensures.ok, c.push_reserved.ensures.items, c.in_ok-reserve.ensures.items, c.in_ok-own.ensures.cases, more)
    (stores (held c.self.inside) c.self.invariant c.args.front c.args.by c.args.attempt (vec_capacity c.self.inside.history) c.args.commit (does c.self.inside c.args.self.now c.self.view_is (is_storing c.args.commit) c.args.attempt c.requires.storing) (entry_space c.self.inside c.args.self.now c.self.view_is c.requires.has_room))
