use Rattle.std.proofs.Common.{◌≡◌, List, [], ◌∷◌, ap, refl, ◌∙◌, ℕ, map}
use Rattle.aft_model.specs.Attempts.{buffer, written_keys}
use Rattle.aft_model.specs.NodeState.{part}
use Rattle.aft_ledger.proofs.Asked.{if_ok}
use Rattle.aft_txn.specs.Buffer.{as_write}
use Rattle.aft_txn.specs.declared.buffer.Write.{Write}
use Rattle.aft_ledger.proofs.ledger.Ledger.written_keys.Goals as goal

keys-as_write : (writes : List Write) → map (λ (write : Write). write.key) writes ≡ written_keys (map as_write writes)
keys-as_write [] = refl
keys-as_write (write ∷ writes) = ap (λ (keys : List (List ℕ)). write.key ∷ keys) (keys-as_write writes)

pub returns : goal.returns
returns c =
    if_ok c.keys_of.result (λ keys. keys ≡ map (λ (write : Write). write.key) c.as_slice.result.now) (λ keys. keys ≡ written_keys (buffer c.args.attempt.now (part c.args.self.now.history)))
    (λ keys is. is ∙ (ap (map (λ (write : Write). write.key)) c.as_slice.ensures ∙ (keys-as_write c.in_ok-writes.writes ∙ ap written_keys c.in_ok-writes.ensures))) c.keys_of.ensures
