-- The turns of a start at its node, by what the node does.
use Rattle.std.proofs.Common.{◌≡◌, ℕ, Bool, true, false, List, [], ◌∷◌, ◌++◌, max, refl, sym, ap, subst, ◌∙◌, ◌⊎◌, inl, inr, arith}
use Rattle.std.specs.Prelude.{IsFalse, IsTrue, None, Option, Some}
use Rattle.std.proofs.lemmas.Bool.{eq-eqb, false≢true, or_cases}
use Rattle.aft_model.specs.declared.caller.By.{By}
use Rattle.aft_model.specs.declared.node.NodeAct.{NodeAct}
use Rattle.aft_model.specs.declared.node.NodeAct.TheVariants as acts
use Rattle.aft_model.specs.declared.node.NodeEntry.{NodeEntry}
use Rattle.aft_model.specs.declared.reply.Reply.{Reply}
use Rattle.aft_model.specs.declared.reply.Reply.TheVariants as replies
use Rattle.aft_model.specs.LegalNode.{LegalNode}
use Rattle.aft_model.specs.NodeState.{IsBooting, IsDown, IsServing, NodeState, boots, newest, node_state}
use Rattle.aft_ledger.specs.Turns.{boot_refusal, next_boot}
use Rattle.aft_ledger.specs.View.{NodeView, after_entry, answered}
use Rattle.aft_lines.specs.LineView.{has_left}
use Rattle.aft_lines.specs.Turns.{AtNode}
use Rattle.law_attempts.proofs.Newest.{booting_newest}
use Rattle.aft_node.specs.Booting.{BootEnds, next_of}
use Rattle.aft_node.specs.Outcomes.{Leads, caller, down_reply}
use Rattle.aft_node.specs.declared.goes.BootEnd.{BootEnd}
use Rattle.aft_node.specs.declared.goes.BootEnd.TheVariants.{Refused, Shown}
use Rattle.aft_node.specs.declared.goes.BootGo.{BootGo}
use Rattle.aft_node.specs.declared.goes.BootGo.TheVariants as goes
use Rattle.aft_boot.specs.Booted.{BootsSo, Closes, may_end_at, made_at}
use Rattle.aft_boot.specs.BootView.{begun_stage}
use Rattle.aft_boot.specs.declared.stage.Stage.TheVariants.{Begins, ComesUp, Ended, Ends}
use Rattle.aft_turns.specs.Steps.{StepsAtNode, entry_of}
use Rattle.aft_turns.specs.Trail.{Trail}

-- the incarnation that boots next is the newest then
newest_boot : (node capacity : ℕ) (history : List NodeEntry) → LegalNode node capacity history → max (newest history) (next_boot history (node_state history)) ≡ next_boot history (node_state history)
newest_boot node capacity history legal = by_state (node_state history) refl
  where
    by_state : (state : NodeState) → node_state history ≡ state → max (newest history) (next_boot history state) ≡ next_boot history state
    by_state (IsBooting inc running) is = let it : newest history ≡ inc = booting_newest node capacity inc history legal (subst (λ (s : NodeState). IsTrue (boots inc s)) (sym is) (eq-eqb inc inc refl)) in omega arith
    by_state IsDown is = omega arith
    by_state (IsServing s) is = omega arith

module _ (by : By) (handed : ℕ) (old new : NodeView) where
  -- the first turn answered
  answers : (reply : Reply) → (reply ≡ replies.NoMemory) ⊎ (boot_refusal old.number (node_state old.history) ≡ Some reply) → new ≡ answered handed by reply old → StepsAtNode by handed (made_at by old.number Begins) (made_at by old.number Ended) old new
  answers reply why is = (
    acts.Nothing,
    Some reply,
    is,
    λ trail made. inl (record {
      before = old.history;
      front = max old.front handed;
      reply = reply;
      turns = ap (λ (t : Trail). t.turns ++ AtNode old.number old.history (entry_of by handed old acts.Nothing (Some reply)) ∷ []) made;
      answers = why;
    }),
  )

  -- a boot begins
  begins : LegalNode old.number old.capacity old.history → new ≡ after_entry handed by (acts.Booting (next_of old)) None old → StepsAtNode by handed (made_at by old.number Begins) (made_at by old.number (ComesUp (next_of old))) old new
  begins legal is = (
    acts.Booting (next_of old),
    None,
    is,
    λ trail made. record {
      before = old.history;
      front = max old.front handed;
      newest = newest_boot old.number old.capacity old.history legal;
      turns = ap (λ (t : Trail). t.turns ++ AtNode old.number old.history (entry_of by handed old (acts.Booting (next_of old)) None) ∷ []) made;
    },
  )

  pub first_turn : LegalNode old.number old.capacity old.history → (go : BootGo) → Leads handed by goes.Answered (boot_refusal old.number (node_state old.history)) (after_entry handed by (acts.Booting (next_of old)) None old) (goes.Go (caller old.number (next_of old) by)) old new go → StepsAtNode by handed (made_at by old.number Begins) (made_at by old.number (begun_stage go)) old new
  first_turn legal go leads = by_refusal (boot_refusal old.number (node_state old.history)) refl leads
    where
      to_stage : (other : BootGo) → go ≡ other → StepsAtNode by handed (made_at by old.number Begins) (made_at by old.number (begun_stage other)) old new → StepsAtNode by handed (made_at by old.number Begins) (made_at by old.number (begun_stage go)) old new
      to_stage other same steps = subst (λ (g : BootGo). StepsAtNode by handed (made_at by old.number Begins) (made_at by old.number (begun_stage g)) old new) (sym same) steps

      by_refusal : (why : Option Reply) → boot_refusal old.number (node_state old.history) ≡ why → Leads handed by goes.Answered why (after_entry handed by (acts.Booting (next_of old)) None old) (goes.Go (caller old.number (next_of old) by)) old new go → StepsAtNode by handed (made_at by old.number Begins) (made_at by old.number (begun_stage go)) old new
      by_refusal (Some reply) is (told, over) = to_stage goes.Answered over (answers reply (inr is) told)
      by_refusal None is (inl (done, on)) = to_stage (goes.Go (caller old.number (next_of old) by)) on (begins legal done)
      by_refusal None is (inr (told, over)) = to_stage goes.Answered over (answers replies.NoMemory (inl refl) told)

  -- ---- the last turn

  module _ (inc : ℕ) (end : BootEnd) where
    over : (act : NodeAct) (reply : Reply) → Closes old.number inc end old.history act reply → new ≡ after_entry handed by act (Some reply) old → StepsAtNode by handed (made_at by old.number (Ends inc end)) (made_at by old.number Ended) old new
    over act reply closes is = (
      act,
      Some reply,
      is,
      λ trail made. inr (record {
        inc = inc;
        end = end;
        since = trail;
        before = old.history;
        front = max old.front handed;
        act = act;
        reply = reply;
        is_to = made;
        turns = refl;
        look = refl;
        closes = closes;
      }),
    )

    pub last_turn : (result : Bool) → may_end_at (Ends inc end) old.history → (IsTrue (boots inc (node_state old.history)) → BootEnds handed by inc end old new result) → (IsFalse (boots inc (node_state old.history)) → (new ≡ answered handed by (down_reply old inc) old) × (result ≡ false)) → StepsAtNode by handed (made_at by old.number (Ends inc end)) (made_at by old.number Ended) old new
    last_turn result may runs gone = by_boot (boots inc (node_state old.history)) refl
      where
        by_end : (e : BootEnd) → end ≡ e → BootEnds handed by inc e old new result → StepsAtNode by handed (made_at by old.number (Ends inc end)) (made_at by old.number Ended) old new
        by_end (Shown commits) same (inl (is, true_is)) = over (acts.Boot inc commits) (replies.Started old.number inc) (inl (subst (λ (e : BootEnd). BootsSo old.number inc e (acts.Boot inc commits) (replies.Started old.number inc)) (sym same) (inl (refl, refl)))) is
        by_end (Shown commits) same (inr (is, false_is)) = over (acts.BootStopped inc) replies.NoMemory (inl (subst (λ (e : BootEnd). BootsSo old.number inc e (acts.BootStopped inc) replies.NoMemory) (sym same) (inr (refl, refl)))) is
        by_end (Refused reply) same (is, false_is) = over (acts.BootStopped inc) reply (inl (subst (λ (e : BootEnd). BootsSo old.number inc e (acts.BootStopped inc) reply) (sym same) (refl, refl))) is

        left_it : IsFalse (boots inc (node_state old.history)) → IsTrue (has_left inc (node_state old.history))
        left_it not_booting = elim (or_cases (has_left inc (node_state old.history)) (boots inc (node_state old.history)) may) [ inl left ↦ left | inr booting ↦ absurd (false≢true (sym not_booting ∙ booting)) ]

        by_boot : (here : Bool) → boots inc (node_state old.history) ≡ here → StepsAtNode by handed (made_at by old.number (Ends inc end)) (made_at by old.number Ended) old new
        by_boot true is = by_end end refl (runs is)
        by_boot false is = over acts.Nothing (replies.NodeDown old.number inc) (inr (left_it is, refl, refl)) (gone is).0
