use Rattle.std.proofs.Common.{false, ◌≡◌}
use Rattle.aft_records.proofs.CommitOrder.{placed_ascends}
use Rattle.aft_records.specs.Commits.{has_id}
use Rattle.aft_records.specs.Superseded.{is_superseded}
use Rattle.aft_meta.proofs.Places.{taken}
use Rattle.aft_meta.proofs.plain_meta.PlainMetaCommitSet.learn.Goals as goal

pub invariant_of-self-2 : goal.invariant_of-self-2
invariant_of-self-2 c =
    let new : has_id c.args.commit.now.id c.self.inside.commits.items ≡ false = cc in
    rw (c.in_ok-put_in.ensures.ok, c.in_ok-clone.ensures.cases) (placed_ascends c.self.inside.commits.items c.args.commit.now c.self.invariant new)

pub returns-clause-ok : goal.returns-clause-ok
returns-clause-ok c =
    let new : has_id c.args.commit.now.id c.args.self.now ≡ false = cc in
    let stands : is_superseded c.args.commit.now c.args.self.now ≡ false = cc in
    let is = taken c.args.self.now c.args.commit.now new stands in
    rw is (rw (c.in_ok-put_in.ensures.ok, c.in_ok-clone.ensures.cases) (cc))
