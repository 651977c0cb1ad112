-- A box stays legal with each post and each take.
use Rattle.std.proofs.Common.{◌≡◌, ℕ, ◌-◌, List, [], ◌∷◌, ◌++◌, length, take, refl, sym, ap, ◌∙◌, subst, arith, length-append, suc, zero}
use Rattle.std.specs.Prelude.{IsTrue}
use Rattle.std.specs.Cmp.Lexicographic.{pointwise}
use Rattle.std.proofs.lemmas.Bool.{and_from, eq-eqb}
use Rattle.std.proofs.lemmas.List.{length-take}
use Rattle.std.proofs.lemmas.List.Sums.{fold-append}
use Rattle.aft_id.specs.TxnId.{same_id}
use Rattle.aft_id.specs.declared.txn_id.TxnId.{TxnId}
use Rattle.aft_records.specs.declared.stored.Commit.{Commit}
use Rattle.aft_records.specs.Commits.{ids_of}
use Rattle.aft_records.proofs.CommitOrder.{same_id-refl}
use Rattle.aft_model.specs.declared.caller.By.{By}
use Rattle.aft_model.specs.declared.mail.MailAct.TheVariants.{Post, Take}
use Rattle.aft_model.specs.declared.mail.MailEntry.{MailEntry}
use Rattle.aft_model.specs.Boxes.{box, box_after, fitting, may_enter}
use Rattle.aft_mail.specs.BoxState.{BoxState, IsLegal, after_post, after_take, fitting_in}
use Rattle.aft_mail.proofs.Histories.{each_after-more}

length-ids_of : (commits : List Commit) → length (ids_of commits) ≡ length commits
length-ids_of [] = refl
length-ids_of (c ∷ commits) = ap suc (length-ids_of commits)

ids_of-append : (xs ys : List Commit) → ids_of (xs ++ ys) ≡ ids_of xs ++ ids_of ys
ids_of-append [] ys = refl
ids_of-append (x ∷ xs) ys = ap (λ ids. x.id ∷ ids) (ids_of-append xs ys)

ids_of-take : (n : ℕ) (commits : List Commit) → ids_of (take n commits) ≡ take n (ids_of commits)
ids_of-take zero commits = refl
ids_of-take (suc n) [] = refl
ids_of-take (suc n) (c ∷ commits) = ap (λ ids. c.id ∷ ids) (ids_of-take n commits)

same_ids-refl : (ids : List TxnId) → IsTrue (pointwise same_id ids ids)
same_ids-refl [] = refl
same_ids-refl (id ∷ ids) = and_from _ _ (same_id-refl id) (same_ids-refl ids)

-- what a box holds after one more entry
box-more : (size : ℕ) (history : List MailEntry) (entry : MailEntry) → box size (history ++ entry ∷ []) ≡ box_after size (box size history) entry.act
box-more size history entry = fold-append (λ (before : List TxnId) (e : MailEntry). box_after size before e.act) [] history (entry ∷ [])

module _ (state : BoxState) (legal : IsLegal state) where
  -- the ids that fit are those of the commits that fit
  fits : (commits : List Commit) → fitting state.capacity (box state.capacity state.history) (ids_of commits) ≡ ids_of (fitting_in state commits)
  fits commits =
      ap (λ held. take (state.capacity - length held) (ids_of commits)) (sym legal.holds)
      ∙ ap (λ n. take (state.capacity - n) (ids_of commits)) (length-ids_of state.messages)
      ∙ sym (ids_of-take (state.capacity - length state.messages) commits)

  pub post_legal : (by : By) (commits : List Commit) (front : ℕ) → IsLegal (after_post by commits front state)
  post_legal by commits front =
      let room : ℕ = state.capacity - length state.messages in
      record {
        within = omega (arith, length-append state.messages (take room commits), length-take room commits, legal.within);
        holds =
            ids_of-append state.messages (fitting_in state commits)
            ∙ ap (λ ids. ids ++ ids_of (fitting_in state commits)) legal.holds
            ∙ ap (λ ids. box state.capacity state.history ++ ids) (sym (fits commits))
            ∙ sym (box-more state.capacity state.history (record { by = by; act = Post (ids_of commits) (length (fitting_in state commits)) }));
        legal =
            each_after-more (λ before entry. may_enter state.capacity (box state.capacity before) entry.act) state.history (record { by = by; act = Post (ids_of commits) (length (fitting_in state commits)) }) legal.legal
            (eq-eqb _ _ (sym (ap length (fits commits) ∙ length-ids_of (fitting_in state commits))));
      }

  pub take_legal : (by : By) → IsLegal (after_take by state)
  take_legal by =
      record {
        within = omega arith;
        holds = sym (box-more state.capacity state.history (record { by = by; act = Take (ids_of state.messages) }));
        legal =
            each_after-more (λ before entry. may_enter state.capacity (box state.capacity before) entry.act) state.history (record { by = by; act = Take (ids_of state.messages) }) legal.legal
            (subst (λ held. IsTrue (pointwise same_id (ids_of state.messages) held)) legal.holds (same_ids-refl (ids_of state.messages)));
      }
