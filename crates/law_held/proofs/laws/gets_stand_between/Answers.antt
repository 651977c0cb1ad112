use Rattle.std.proofs.Common.{sym, subst}
use Rattle.std.specs.Prelude.{IsTrue}
use Rattle.aft_model.specs.declared.node.NodeAct.{NodeAct}
use Rattle.aft_model.specs.Attempts.{ends_fetch}
use Rattle.law_attempts.proofs.Standing.{same_itself}
use Rattle.law_runs.proofs.LegalRuns.{legal_goes, so_far_goes}
use Rattle.law_held.proofs.Between.{comes_from, stands_between}
use Rattle.law_held.proofs.laws.gets_stand_between.Goals as goal

pub returns-clause-so_far : goal.returns-clause-so_far
returns-clause-so_far c asked ran number place act before more entry pick f so is ends among mine picks there = stands_between asked ran (so_far_goes asked ran so) number before entry more is f.attempt ends pick among mine f.key f.id picks place act there

pub returns-clause-legal : goal.returns-clause-legal
returns-clause-legal c asked ran number place act before more entry pick f legal is ends among mine picks there = stands_between asked ran (legal_goes asked ran legal) number before entry more is f.attempt ends pick among mine f.key f.id picks place act there

pub returns-clause-value_so_far : goal.returns-clause-value_so_far
returns-clause-value_so_far c asked ran number place kept before more entry f so is value =
    comes_from asked ran (so_far_goes asked ran so) number before entry more is f.attempt (subst (λ (act : NodeAct). IsTrue (ends_fetch f.attempt act)) (sym value) (same_itself f.attempt)) f.key f.id place kept value

pub returns-clause-value_legal : goal.returns-clause-value_legal
returns-clause-value_legal c asked ran number place kept before more entry f legal is value =
    comes_from asked ran (legal_goes asked ran legal) number before entry more is f.attempt (subst (λ (act : NodeAct). IsTrue (ends_fetch f.attempt act)) (sym value) (same_itself f.attempt)) f.key f.id place kept value
