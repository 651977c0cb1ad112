-- What was made after one transaction more.
use Rattle.std.proofs.Common.{ap, arith, suc, sym, ℕ, ◌+◌, ◌≡◌, ◌∙◌}
use Rattle.aft_script.specs.Generator.{Made, and_nodes_kept, and_store_kept, and_transaction, made_after}

abbrev next : ℕ → Made → Made
next n made = and_store_kept n (and_nodes_kept n (and_transaction n made))

pub made_after-next : (first i : ℕ) (before begun noded stored : Made) → before ≡ made_after first i → begun ≡ and_transaction (i + 1) before → noded ≡ and_nodes_kept (i + 1) begun → stored ≡ and_store_kept (i + 1) noded
    → stored ≡ made_after first (i + 1)
unfolding made_after
made_after-next first i before begun noded stored e0 e1 e2 e3 =
    let one : i + 1 ≡ suc i = omega arith in
    e3 ∙ ap (and_store_kept (i + 1)) (e2 ∙ ap (and_nodes_kept (i + 1)) (e1 ∙ ap (and_transaction (i + 1)) e0))
    ∙ ap (λ n. next n (made_after first i)) one ∙ sym (ap (made_after first) one)
