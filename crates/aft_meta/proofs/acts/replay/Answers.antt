use Rattle.std.proofs.Common.{◌≡◌, ℕ, ◌+◌, ◌<◌, ◌≤◌, List, length, take, get_or, arith, ap, sym, ◌∙◌}
use Rattle.std.proofs.lemmas.List.Sums.{fold_more}
use Rattle.aft_records.specs.declared.stored.Commit.{Commit}
use Rattle.aft_meta.specs.declared.acts.MetaAct.{MetaAct}
use Rattle.aft_meta.specs.Acts.{after_act, replayed}
use Rattle.aft_meta.proofs.acts.replay.Goals as goal

-- with one more act, what was done is what a beginning of the acts leaves
done_more : (old known after : List Commit) (xs acts : List MetaAct) (i : ℕ) (act : MetaAct) → xs ≡ acts → i < length xs → act ≡ get_or xs i act
    → known ≡ replayed old (take i xs) → after ≡ after_act known act → (done : ℕ) × (done ≤ length acts) × (after ≡ replayed old (take done acts))
done_more old known after xs acts i act same within is before step =
    (i + 1, rw (← same) (omega arith), rw (← same) (step ∙ ap (λ k. after_act k act) before ∙ ap (after_act (replayed old (take i xs))) is ∙ sym (fold_more after_act old xs i act within)))

pub returns-in-loop-act-clause-err : goal.returns-in-loop-act-clause-err
returns-in-loop-act-clause-err g c =
    done_more _ _ _ _ _ c.loop-act.act-index c.act-item.result c.as_slice-acts.ensures c.loop-act-test.true c.act-item.is c.loop-act.invariant.1 c.in_ok-answer.ensures.ok
