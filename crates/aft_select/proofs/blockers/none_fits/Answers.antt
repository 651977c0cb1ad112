use Rattle.std.proofs.Common.{◌≡◌, List, [], ◌∷◌, length, eqb, refl, sym, ap, ◌∙◌}
use Rattle.std.specs.List.{flat_map}
use Rattle.std.proofs.lemmas.Bool.{true≢false}
use Rattle.aft_id.specs.declared.txn_id.TxnId.{TxnId}
use Rattle.aft_model.specs.Choice.{none_chosen, blockers}
use Rattle.aft_model.specs.declared.choice.Blocked.{Blocked}
use Rattle.aft_model.specs.declared.choice.Choice.TheVariants.{NoneFits}
use Rattle.aft_select.specs.Choosing.{blocked_at}
use Rattle.aft_select.proofs.Keys.{blockers-versions}
use Rattle.aft_select.proofs.blockers.none_fits.Goals as goal

-- where there are versions, each is blocked
some_blocked : (ids : List TxnId) (blocked : List Blocked) → (length ids ≡ 0 → ⊥) → NoneFits blocked ≡ none_chosen ids blocked
some_blocked [] blocked some = absurd (some refl)
some_blocked (id ∷ ids) blocked some = refl

pub returns : goal.returns
returns g c =
    let known = g.M.CommitSet.known c.args.meta.now in
    let h = blockers-versions c.args.key.now c.args.reads.now known c.versions.ensures.in_order in
    let is = c.as_slice-versions.ensures ∙ c.in_ok-versions.ensures.ids in
    let all = ap (flat_map (λ id. blocked_at id c.args.reads.now known)) is ∙ h in
    ap NoneFits (c.from_vec.ensures ∙ c.in_ok-blocked.ensures ∙ all) ∙ some_blocked c.as_slice-versions.result.now _ (λ e. true≢false (sym (ap (λ n. eqb n 0) e) ∙ sym c.is_empty.ensures ∙ c.if-is_empty.false))
    ∙ ap (λ ids. none_chosen ids (blockers c.args.key.now c.args.reads.now known)) is
