-- The turns of the search for the greatest version that fits.
use Rattle.std.proofs.Common.{◌≡◌, ℕ, ◌<◌, List, sym, subst}
use Rattle.std.specs.Prelude.{IsTrue, IsFalse, Option, Some, None}
use Rattle.aft_id.specs.declared.txn_id.TxnId.{TxnId}
use Rattle.aft_records.specs.Commits.{greatest, latest, versions}
use Rattle.aft_records.specs.declared.stored.Commit.{Commit}
use Rattle.aft_model.specs.Choice.{fits, fitting, is_not_blocked}
use Rattle.aft_model.specs.ReadSet.{has_read}
use Rattle.aft_model.specs.declared.read_set.ReadPair.{ReadPair}
use Rattle.aft_meta.specs.KnownCommits.{latest_below}
use Rattle.aft_select.proofs.Late.{blocked_fails, read_stops, version_fits}
use Rattle.aft_select.proofs.Walks.{Walked, left, walk_from, walk_on, none_passes, next_passes, left_falls}

module _ (key : List ℕ) (reads : List ReadPair) (known : List Commit) where
  -- each version that fits, and each that was read, is at most the next one
  pub record IsLeft (next : Option TxnId) : Type 0 where
    pub fit : Walked (λ id. fits key id reads known) (versions key known) next
    pub read : Walked (λ id. has_read id reads) (versions key known) next

  is_left : (next other : Option TxnId) → next ≡ other → IsLeft next → IsLeft other
  is_left next other same walked = subst (λ (o : Option TxnId). IsLeft o) same walked

  pub all_left : (next : Option TxnId) → next ≡ latest key known → IsLeft next
  all_left next is = is_left (latest key known) next (sym is) (record {
    fit = walk_from (λ id. fits key id reads known) (versions key known);
    read = walk_from (λ id. has_read id reads) (versions key known);
  })

  -- where none is left, none fits
  pub none_left : (next : Option TxnId) → next ≡ None → IsLeft next → None ≡ greatest (fitting key reads known)
  none_left next is walked =
      let end : IsLeft None = is_left next None is walked in
      sym (none_passes (λ id. fits key id reads known) (versions key known) (λ id among fit. end.fit.within id among fit))

  module _ (next : Option TxnId) (id : TxnId) (is : next ≡ Some id) (walked : IsLeft next) where
    here : IsLeft (Some id)
    here = is_left next (Some id) is walked

    -- where the next one is blocked and was read, none fits
    pub read_ends : IsTrue (has_read id reads) → IsFalse (is_not_blocked id reads known) → None ≡ greatest (fitting key reads known)
    read_ends read blocked = sym (none_passes (λ i. fits key i reads known) (versions key known) (λ other among fit. read_stops key reads known id here.fit read blocked other among fit))

    pub found_fits : IsTrue (is_not_blocked id reads known) → Some id ≡ greatest (fitting key reads known)
    found_fits free = sym (next_passes (λ i. fits key i reads known) (versions key known) id here.fit (version_fits key reads known id here.read free))

    pub next_left : (after : Option TxnId) → after ≡ latest_below key id known → IsFalse (is_not_blocked id reads known) → IsFalse (has_read id reads) → IsLeft after
    next_left after then blocked unread = is_left (latest_below key id known) after (sym then) (record {
      fit = walk_on (λ i. fits key i reads known) (versions key known) id here.fit (blocked_fails key reads known id blocked);
      read = walk_on (λ i. has_read i reads) (versions key known) id here.read unread;
    })

    pub fewer_left : (after : Option TxnId) → after ≡ latest_below key id known → left after (versions key known) < left next (versions key known)
    fewer_left after then = rw (then, is) (left_falls id (versions key known))
