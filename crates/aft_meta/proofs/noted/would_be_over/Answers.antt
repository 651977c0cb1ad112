use Rattle.std.proofs.Common.{◌&&◌, ◌||◌, ℕ, List, ap, sym, ◌∙◌}
use Rattle.std.specs.List.{list_all}
use Rattle.aft_id.specs.TxnId.{id_lt}
use Rattle.aft_records.specs.Commits.{greatest}
use Rattle.aft_records.specs.Superseded.{wrote}
use Rattle.aft_meta.specs.Index.{exceeds, ids_under}
use Rattle.aft_meta.proofs.Noting.{would_known, would_unknown}
use Rattle.aft_meta.proofs.noted.would_be_over.Goals as goal

pub returns-in-Some : goal.returns-in-Some
returns-in-Some c =
    c.are_over.ensures
    ∙ ap (λ (keys : List (List ℕ)). list_all (λ key. exceeds c.args.id.now (greatest (ids_under key c.args.writers.now.entries)) || (wrote key c.args.commit.now && id_lt c.args.id.now c.args.commit.now.id)) keys) c.list.ensures.value
    ∙ would_known c.args.commits.now.entries c.args.writers.now.entries c.requires.index c.args.commit.now c.requires.new c.requires.stands c.args.id.now c.in-Some.known.now (sym c.in-Some.ensures.value)

pub returns-in-None : goal.returns-in-None
returns-in-None c = would_unknown c.args.commits.now.entries c.args.writers.now.entries c.requires.index c.args.commit.now c.requires.new c.requires.stands c.args.id.now (sym c.in-None.ensures.value)
