-- What the last entry of a history says of its line.
use Rattle.std.proofs.Common.{◌≡◌, ℕ, Bool, true, false, List, [], ◌∷◌, ◌++◌, ◌-◌, arith, inl, inr, length, ap, refl, subst, sym, ◌∙◌}
use Rattle.std.specs.Prelude.{IsFalse, IsTrue, None, Option, Some, if◌then◌else◌, slice_get, slice_range, ◌&&◌}
use Rattle.std.proofs.lemmas.Bool.{and_parts}
use Rattle.std.proofs.lemmas.List.Sums.{fold-append}
use Rattle.std.proofs.lemmas.Option.{slice_get_within}
use Rattle.indexmap.proofs.MapLemmas.{split_last}
use Rattle.aft_id.specs.declared.txn_id.TxnId.{TxnId}
use Rattle.aft_model.specs.declared.caller.Attempt.{Attempt}
use Rattle.aft_model.specs.declared.caller.By.{By}
use Rattle.aft_model.specs.declared.node.NodeAct.{NodeAct}
use Rattle.aft_model.specs.declared.node.NodeAct.TheVariants as acts
use Rattle.aft_model.specs.declared.node.NodeEntry.{NodeEntry}
use Rattle.aft_model.specs.declared.reply.Reply.TheVariants as replies
use Rattle.aft_model.specs.NodeRules.{is_own_end, stores}
use Rattle.aft_model.specs.ScanRun.{same_line}
use Rattle.aft_model.proofs.Histories.{In, any_from}
use Rattle.aft_ledger.specs.View.{NodeView, after_entry, answered}
use Rattle.aft_node.specs.Booting.{down_done, is_of_node}
use Rattle.aft_node.specs.Closing.{MayClose, act_passes, last_own}

-- a history whose last entry this is, is what stood before it, and it
snoc_of : (history : List NodeEntry) (entry : NodeEntry) → slice_get history (length history - 1) ≡ Some entry → (front : List NodeEntry) × (history ≡ front ++ entry ∷ [])
snoc_of history entry at = (slice_range history 0 (length history - 1), split_last history entry at (omega (arith, slice_get_within history (length history - 1) entry at)))

in_snoc : {A : Type 0} (xs : List A) (x : A) → In x (xs ++ x ∷ [])
in_snoc [] x = inl refl
in_snoc (y ∷ ys) x = inr (in_snoc ys x)

-- what a line's last entry is, with one entry more
own-snoc : (by : By) (history : List NodeEntry) (entry : NodeEntry) → last_own by (history ++ entry ∷ []) ≡ (if same_line by entry.by then Some entry.act else last_own by history)
own-snoc by history entry = fold-append (λ before (e : NodeEntry). if same_line by e.by then Some e.act else before) None history (entry ∷ [])

closing : (opens : NodeAct → Bool) (by : By) (history : List NodeEntry) (entry : NodeEntry) → IsTrue (same_line by entry.by && opens entry.act) → MayClose opens by (history ++ entry ∷ [])
closing opens by history entry is =
    let both = and_parts (same_line by entry.by) (opens entry.act) is in
    subst (λ (act : Option NodeAct). IsTrue (act_passes opens act)) (sym (own-snoc by history entry ∙ ap (λ t. if t then Some entry.act else last_own by history) both.0)) both.1

-- a line whose entry is the last one may close what that opened
pub closes : (opens : NodeAct → Bool) (by : By) (history : List NodeEntry) (entry : NodeEntry) → slice_get history (length history - 1) ≡ Some entry → IsTrue (same_line by entry.by && opens entry.act) → MayClose opens by history
closes opens by history entry at is =
    let parts = snoc_of history entry at in
    subst (λ (h : List NodeEntry). MayClose opens by h) (sym parts.1) (closing opens by parts.0 entry is)

-- a line whose entry is the last one, and stored a commit, may end so
pub ends : (by : By) (a : Attempt) (id : TxnId) (history : List NodeEntry) (entry : NodeEntry) → slice_get history (length history - 1) ≡ Some entry → IsTrue (same_line by entry.by && stores a id entry.act) → IsTrue (is_own_end history by (acts.End a) (Some (replies.Committed id)))
ends by a id history entry at is =
    let parts = snoc_of history entry at in
    any_from (λ e. same_line by e.by && stores a id e.act) entry history (subst (λ (h : List NodeEntry). In entry h) (sym parts.1) (in_snoc parts.0 entry)) is

-- what a line may close stays so behind an entry of another line
beside : (opens : NodeAct → Bool) (by : By) (history : List NodeEntry) (entry : NodeEntry) → IsFalse (same_line by entry.by) → MayClose opens by history → MayClose opens by (history ++ entry ∷ [])
beside opens by history entry other may =
    subst (λ (act : Option NodeAct). IsTrue (act_passes opens act)) (sym (own-snoc by history entry ∙ ap (λ t. if t then Some entry.act else last_own by history) other)) may

-- so it does behind a crash by another line
pub down_stays : (opens : NodeAct → Bool) (by other : By) (handed inc : ℕ) (node : NodeView) → IsFalse (same_line by other) → MayClose opens by node.history → MayClose opens by (down_done handed other (Some inc) node).history
down_stays opens by other handed inc node differs may = cases (is_of_node inc node)
  where
    cases : (t : Bool) → MayClose opens by (if t then after_entry handed other (acts.Down inc) (Some (replies.Crashed node.number inc)) node else answered handed other (replies.Crashed node.number inc) node).history
    cases true = beside opens by node.history _ differs may
    cases false = beside opens by node.history _ differs may
