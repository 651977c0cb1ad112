use Rattle.std.proofs.Common.{◌≡◌, ap, sym, subst, ◌∙◌}
use Rattle.std.specs.Prelude.{IfErr, IfOk, IsTrue, MatchResult, None, Some}
use Rattle.aft_model.specs.declared.reply.Reply.{Reply}
use Rattle.aft_model.specs.NodeState.{newest, node_state}
use Rattle.aft_ledger.specs.Ledger.{LedgerView}
use Rattle.aft_ledger.proofs.Fields.{held}
use Rattle.aft_ledger.specs.Stages.{next_of}
use Rattle.aft_ledger.specs.Turns.{boot_refusal, next_boot}
use Rattle.aft_model.specs.NodeRules.{may_answer_alone, may_begin_boot}
use Rattle.aft_ledger.proofs.Told_stage.{few_incs, may_boot, may_tell, which_next}
use Rattle.aft_ledger.proofs.ledger.Ledger.next_boot.Goals as goal

pub next_boot-requires : goal.next_boot-requires
next_boot-requires c = record { few = few_incs (held c.self.inside) c.self.invariant }

pub returns-clause-which : goal.returns-clause-which
returns-clause-which c = subst (λ (v : LedgerView). MatchResult c.next_boot.result (λ inc. (boot_refusal v.number (node_state v.history) ≡ None) × (inc ≡ next_boot v.history (node_state v.history))) (λ (reply : Reply). boot_refusal v.number (node_state v.history) ≡ Some reply)) c.self.view_is (subst (λ r. MatchResult r (λ inc. (boot_refusal c.self.inside.number (node_state c.self.inside.history.items) ≡ None) × (inc ≡ next_boot c.self.inside.history.items (node_state c.self.inside.history.items))) (λ (reply : Reply). boot_refusal c.self.inside.number (node_state c.self.inside.history.items) ≡ Some reply)) (sym (c.next_boot.ensures ∙ (ap (λ n. next_of c.self.inside.number n c.self.inside.stage) c.self.invariant.incs ∙ ap (next_of c.self.inside.number (newest c.self.inside.history.items)) c.self.invariant.staged))) (which_next c.self.inside.number c.self.inside.history.items (node_state c.self.inside.history.items)))

pub returns-clause-next : goal.returns-clause-next
returns-clause-next c = subst (λ (v : LedgerView). IfOk c.next_boot.result (λ inc. IsTrue (may_begin_boot inc (newest v.history) (node_state v.history)))) c.self.view_is (subst (λ r. IfOk r (λ inc. IsTrue (may_begin_boot inc (newest c.self.inside.history.items) (node_state c.self.inside.history.items)))) (sym (c.next_boot.ensures ∙ (ap (λ n. next_of c.self.inside.number n c.self.inside.stage) c.self.invariant.incs ∙ ap (next_of c.self.inside.number (newest c.self.inside.history.items)) c.self.invariant.staged))) (may_boot c.self.inside.number c.self.inside.history.items (node_state c.self.inside.history.items)))

pub returns-clause-may : goal.returns-clause-may
returns-clause-may c = subst (λ r. IfErr r (λ (reply : Reply). IsTrue (may_answer_alone (Some reply)))) (sym (c.next_boot.ensures ∙ (ap (λ n. next_of c.self.inside.number n c.self.inside.stage) c.self.invariant.incs ∙ ap (next_of c.self.inside.number (newest c.self.inside.history.items)) c.self.invariant.staged))) (may_tell c.self.inside.number c.self.inside.history.items (node_state c.self.inside.history.items))
