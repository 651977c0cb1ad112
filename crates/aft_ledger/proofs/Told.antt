-- What is told of commits that were learned.
use Rattle.std.proofs.Common.{◌≡◌, ℕ, ◌<◌, ◌≤◌, Bool, true, false, List, refl, sym, ap, subst, ◌∙◌, inl, inr, eqb, eq-eqb, length, take, arith}
use Rattle.std.specs.Prelude.{IsTrue, Some, if◌then◌else◌}
use Rattle.std.proofs.lemmas.Bool.{and_from, eqb-true, true≢false}
use Rattle.std.proofs.lemmas.List.{take_all}
use Rattle.aft_records.specs.declared.stored.Commit.{Commit}
use Rattle.aft_model.specs.declared.caller.By.{By}
use Rattle.aft_model.specs.declared.node.NodeAct.TheVariants as acts
use Rattle.aft_model.specs.declared.reply.Reply.TheVariants as replies
use Rattle.aft_model.specs.Known.{known}
use Rattle.aft_model.specs.NodeRules.{is_learned}
use Rattle.aft_ledger.specs.Knowing.{Learns, Tallied, answer_told, learned_or, learned_reply, tally}
use Rattle.aft_ledger.specs.View.{NodeView, after_entry}
use Rattle.aft_ledger.specs.declared.ledger.known.Told.{Told}

-- what is told may be answered
pub told_may : (before commits : List Commit) (told : Told) (all : Bool) → Tallied before commits told → IsTrue (is_learned (tally before commits) (Some (answer_told all told)))
told_may before commits told false so = refl
told_may before commits told true so =
    and_from _ _ (and_from _ _ (eq-eqb (tally before commits).taken told.taken (sym so.taken)) (eq-eqb (tally before commits).superseded told.superseded (sym so.superseded))) (eq-eqb (tally before commits).already told.known (sym so.already))

told_reply : (before commits : List Commit) (told : Told) → Tallied before commits told → answer_told true told ≡ learned_reply (tally before commits)
told_reply before commits told so =
    ap (λ n. replies.Learned n told.superseded told.known) so.taken ∙ (ap (λ n. replies.Learned (tally before commits).taken n told.known) so.superseded ∙ ap (λ n. replies.Learned (tally before commits).taken (tally before commits).superseded n) so.already)

-- what is told is what is answered where so many were learned
pub told_or : (before commits : List Commit) (n : ℕ) (told : Told) → n ≤ length commits → Tallied before (take n commits) told → answer_told (eqb n (length commits)) told ≡ learned_or before commits n
told_or before commits n told few so = cases (eqb n (length commits)) refl
  where
    cases : (t : Bool) → eqb n (length commits) ≡ t → answer_told t told ≡ (if t then learned_reply (tally before commits) else replies.NoMemory)
    cases false is = refl
    cases true is =
        let whole : take n commits ≡ commits = take_all n commits (let e = eqb-true n (length commits) is in omega arith) in
        told_reply before (take n commits) told so ∙ ap (λ (cs : List Commit). learned_reply (tally before cs)) whole

-- it may be answered
pub learned_may : (before commits : List Commit) (n : ℕ) → IsTrue (is_learned (tally before (take n commits)) (Some (learned_or before commits n)))
learned_may before commits n = cases (eqb n (length commits)) refl
  where
    cases : (t : Bool) → eqb n (length commits) ≡ t → IsTrue (is_learned (tally before (take n commits)) (Some (if t then learned_reply (tally before commits) else replies.NoMemory)))
    cases false is = refl
    cases true is =
        let whole : take n commits ≡ commits = take_all n commits (let e = eqb-true n (length commits) is in omega arith) in
        subst (λ (cs : List Commit). IsTrue (is_learned (tally before cs) (Some (learned_reply (tally before commits))))) (sym whole)
        (and_from _ _ (and_from _ _ (eq-eqb (tally before commits).taken (tally before commits).taken refl) (eq-eqb (tally before commits).superseded (tally before commits).superseded refl)) (eq-eqb (tally before commits).already (tally before commits).already refl))

-- all or the first of some commits are learned
pub told_learns : (handed : ℕ) (by : By) (commits : List Commit) (old new : NodeView) (n : ℕ) → n ≤ length commits
    → new ≡ after_entry handed by (acts.Learn (take n commits)) (Some (learned_or (known old.history) commits n)) old → Learns handed by commits old new
told_learns handed by commits old new n few new_is = cases (eqb n (length commits)) refl new_is
  where
    below : (n ≡ length commits → ⊥) → n < length commits
    below apart = omega (arith, few, apart)

    cases : (t : Bool) → eqb n (length commits) ≡ t → new ≡ after_entry handed by (acts.Learn (take n commits)) (Some (if t then learned_reply (tally (known old.history) commits) else replies.NoMemory)) old → Learns handed by commits old new
    cases false is new_is = inr (n, below (λ same. true≢false (sym (eq-eqb n (length commits) same) ∙ is)), new_is)
    cases true is new_is =
        let whole : take n commits ≡ commits = take_all n commits (let e = eqb-true n (length commits) is in omega arith) in
        inl (new_is ∙ ap (λ (cs : List Commit). after_entry handed by (acts.Learn cs) (Some (learned_reply (tally (known old.history) commits))) old) whole)
