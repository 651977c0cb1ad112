use Rattle.std.proofs.Common.{ap, sym, not, ◌∙◌}
use Rattle.aft_records.specs.declared.stored.Commit.{Commit}
use Rattle.aft_records.specs.Commits.{same_commit}
use Rattle.aft_model.specs.Sound.{recorded}
use Rattle.aft_audit.specs.Pairs.{passes}
use Rattle.aft_audit.proofs.Among.{differs_is}
use Rattle.aft_audit.proofs.sound.differs.Goals as goal

pub returns-in-Some : goal.returns-in-Some
returns-in-Some c =
    ap not c.is_same.ensures ∙ ap (passes (λ (d : Commit). not (same_commit c.args.commit.now d))) (sym c.in-Some.is)
    ∙ differs_is c.uuid_of.result c.args.commit.now (recorded c.args.pairs.now) c.in_ok-other.field-0 c.uuid_of.ensures c.in_ok-other.ensures

pub returns-in-None : goal.returns-in-None
returns-in-None c =
    ap (passes (λ (d : Commit). not (same_commit c.args.commit.now d))) (sym c.in-None.is)
    ∙ differs_is c.uuid_of.result c.args.commit.now (recorded c.args.pairs.now) c.in_ok-other.field-0 c.uuid_of.ensures c.in_ok-other.ensures
