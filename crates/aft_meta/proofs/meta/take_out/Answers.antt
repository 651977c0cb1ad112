use Rattle.std.proofs.Common.{ℕ, List, ◌&&◌, not, ap, sym, ◌∙◌}
use Rattle.std.specs.List.{list_any}
use Rattle.std.specs.Str.{bytes_eq}
use Rattle.std.proofs.lemmas.Bool.{true≢false}
use Rattle.aft_id.specs.TxnId.{same_id}
use Rattle.aft_meta.specs.Index.{commits_of, stands_under}
use Rattle.aft_meta.proofs.Asked.{superseded_unknown}
use Rattle.aft_meta.proofs.Dropping.{dropped_index}
use Rattle.aft_meta.proofs.Entries.{entry_removed}
use Rattle.aft_meta.proofs.Places.{without_one}
use Rattle.aft_meta.proofs.meta.take_out.Goals as goal

pub returns-in-Some-clause-without : goal.returns-in-Some-clause-without
returns-in-Some-clause-without c =
    ap commits_of c.in-Some.ensures.entries ∙ entry_removed c.args.id.now c.args.commits.now.entries c.requires.index.in_order ∙ without_one c.args.id.now (commits_of c.args.commits.now.entries)

pub returns-in-Some-clause-index : goal.returns-in-Some-clause-index
returns-in-Some-clause-index c =
    dropped_index c.args.commits.now.entries c.remove.new.self.entries c.args.writers.now.entries c.take_under.new.writers.entries c.args.id.now c.in-Some.known c.requires.index (sym c.in-Some.ensures.value) c.requires.superseded
    (λ k v. c.take_under.ensures k v ∙ ap (λ (keys : List (List ℕ)). stands_under k v c.args.writers.now.entries && not (list_any (bytes_eq k) keys && same_id v c.args.id.now)) c.list.ensures.value)
    (ap commits_of c.in-Some.ensures.entries ∙ entry_removed c.args.id.now c.args.commits.now.entries c.requires.index.in_order)
    c.in-Some.ensures.updates.0

pub returns-in_default-clause-without : goal.returns-in_default-clause-without
returns-in_default-clause-without c =
    absurd (true≢false (sym c.requires.superseded ∙ superseded_unknown c.args.commits.now.entries c.args.writers.now.entries c.requires.index c.args.id.now (sym c.in_default.ensures.value)))
