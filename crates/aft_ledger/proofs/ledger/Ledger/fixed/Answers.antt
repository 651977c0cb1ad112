use Rattle.std.proofs.Common.{ap, sym, ◌∙◌}
use Rattle.std.specs.Prelude.{Some}
use Rattle.aft_ledger.proofs.Fixing.{fixes, told_id}
use Rattle.aft_txn.specs.declared.state.State.{State}
use Rattle.aft_ledger.proofs.ledger.Ledger.fixed.Goals as goal

pub returns-in-Some-Committing : goal.returns-in-Some-Committing
returns-in-Some-Committing c = fixes c.self.inside c.args.self.now c.self.view_is c.self.invariant c.args.attempt.now c.requires.serves c.in-Some-Committing.id (ap told_id (sym c.state.ensures ∙ c.in-Some-Committing.is) ∙ ap (λ (s : State). told_id (Some s)) c.in-Some-Committing.field-0-is) c.commit_of.result c.commit_of.ensures

pub returns-in-Some-Doubt : goal.returns-in-Some-Doubt
returns-in-Some-Doubt c = fixes c.self.inside c.args.self.now c.self.view_is c.self.invariant c.args.attempt.now c.requires.serves c.in-Some-Doubt.id (ap told_id (sym c.state.ensures ∙ c.in-Some-Doubt.is) ∙ ap (λ (s : State). told_id (Some s)) c.in-Some-Doubt.field-0-is) c.commit_of-in-Some-Doubt.result c.commit_of-in-Some-Doubt.ensures
