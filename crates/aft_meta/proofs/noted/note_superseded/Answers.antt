use Rattle.std.proofs.Common.{◌&&◌, ◌||◌, not, ℕ, List, ap, sym, ◌∙◌}
use Rattle.aft_records.specs.Commits.{is_listed, with_id_order}
use Rattle.aft_meta.specs.Index.{commits_of, is_newest_of}
use Rattle.aft_meta.specs.KnownCommits.{supersedes_id}
use Rattle.aft_meta.proofs.Noting.{as_before, newest_is}
use Rattle.aft_meta.proofs.Superseding.{newest_stands, superseded_more}
use Rattle.aft_meta.proofs.noted.note_superseded.Goals as goal

pub returns-in-Ok-clause-ok : goal.returns-in-Ok-clause-ok
returns-in-Ok-clause-ok c v =
    let known = commits_of c.args.commits.now.entries in
    let more = with_id_order known c.args.commit.now in
    c.in-Ok.ensures.ok v
    ∙ ap (λ b. b || (is_newest_of c.args.commit.now.keys v c.args.writers.now.entries && supersedes_id v more)) (c.requires.noted v)
    ∙ ap (λ b. supersedes_id v known || (b && supersedes_id v more)) (newest_is c.args.commits.now.entries c.args.writers.now.entries c.requires.index v c.args.commit.now.keys)
    ∙ superseded_more known c.args.commit.now c.requires.index.in_order c.requires.new c.requires.stands v

pub returns-in-Err-clause-err : goal.returns-in-Err-clause-err
returns-in-Err-clause-err c v =
    let known = commits_of c.args.commits.now.entries in
    let newest = newest_is c.args.commits.now.entries c.args.writers.now.entries c.requires.index v c.args.commit.now.keys in
    c.forget_newest.ensures v
    ∙ ap (λ (keys : List (List ℕ)). is_listed v c.note_each.new.superseded && not (is_newest_of keys v c.args.writers.now.entries)) c.list.ensures.value
    ∙ as_before (is_listed v c.args.superseded.now) (is_listed v c.note_each.new.superseded) (is_newest_of c.args.commit.now.keys v c.args.writers.now.entries) (c.in-Err.ensures.err v)
    (λ top. c.requires.noted v ∙ newest_stands known c.args.commit.now c.requires.index.in_order c.requires.new c.requires.stands v (sym newest ∙ top))
    ∙ c.requires.noted v
