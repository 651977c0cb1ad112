use Rattle.std.proofs.Common.{ℕ, List, ap, subst, take, ◌∙◌}
use Rattle.std.specs.Prelude.{IsTrue}
use Rattle.aft_records.specs.Commits.{greatest, is_listed, with_id_order}
use Rattle.aft_meta.specs.Index.{commits_of, ids_under, is_newest_of, is_some_id}
use Rattle.aft_meta.specs.KnownCommits.{supersedes_id}
use Rattle.aft_meta.proofs.Noting.{noted_part}
use Rattle.aft_meta.proofs.Under.{any_front}
use Rattle.aft_meta.proofs.noted.note_each.Goals as goal

pub returns-in-Err-clause-err : goal.returns-in-Err-clause-err
returns-in-Err-clause-err c v =
    let writers = c.args.writers.now.entries in
    noted_part (is_listed v c.args.superseded.now) (is_listed v c.note_newest.new.superseded) (is_newest_of (take c.loop-key.key-index c.list-own.result.now) v writers) (supersedes_id v (with_id_order (commits_of c.args.commits.now.entries) c.args.commit.now)) (is_newest_of c.args.commit.now.keys v writers)
    (ap (is_listed v) c.in-Err.ensures.err ∙ c.loop-key.invariant v)
    (λ part. subst (λ (keys : List (List ℕ)). IsTrue (is_newest_of keys v writers)) c.list-own.ensures.value (any_front (λ key. is_some_id v (greatest (ids_under key writers))) c.list-own.result.now c.loop-key.key-index part))
