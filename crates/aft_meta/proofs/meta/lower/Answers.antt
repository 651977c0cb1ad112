use Rattle.std.proofs.Common.{ap, refl, subst, sym, ◌∙◌}
use Rattle.std.specs.Prelude.{IsSome}
use Rattle.std.specs.Ordering.{is_eq}
use Rattle.aft_id.specs.TxnId.{id_cmp}
use Rattle.aft_meta.specs.Index.{commits_of}
use Rattle.aft_meta.specs.declared.known.KnownCommit.{KnownCommit}
use Rattle.aft_meta.proofs.Asked.{lowered_at, lowered_nowhere}
use Rattle.aft_meta.proofs.Entries.{entry_recounted}
use Rattle.aft_meta.proofs.meta.lower.Goals as goal

pub returns-in-Some-clause-same : goal.returns-in-Some-clause-same
returns-in-Some-clause-same c =
    let known : KnownCommit = record { keys = c.in-Some.known.now.keys; newest = c.saturating_sub-known.result } in
    ap commits_of (c.get_mut.follows.holds known).0 ∙ entry_recounted (λ k. is_eq (id_cmp c.args.id.now k)) c.args.commits.now.entries c.in-Some.known.now known (sym c.in-Some.ensures.value) refl

pub returns-in-Some-clause-lowered : goal.returns-in-Some-clause-lowered
returns-in-Some-clause-lowered c q =
    let known : KnownCommit = record { keys = c.in-Some.known.now.keys; newest = c.saturating_sub-known.result } in
    lowered_at c.args.id.now q c.in-Some.known.now known c.args.commits.now.entries (c.get_mut.follows.lender known).entries (sym c.in-Some.ensures.value)
    (ap (λ n. record { keys = c.in-Some.known.now.keys; newest = n }) c.saturating_sub-known.ensures)
    (((c.get_mut.follows.holds known).3 (subst (λ o. IsSome o) c.in-Some.ensures.value refl)).0 q)

pub returns-in_default-clause-lowered : goal.returns-in_default-clause-lowered
returns-in_default-clause-lowered c q = lowered_nowhere c.args.id.now q c.args.commits.now.entries c.get_mut.follows.lender-at-none.entries (sym c.in_default.ensures.value) (ap (λ m. m.entries) c.get_mut.follows.holds-at-none)
