use Rattle.std.proofs.Common.{None, ◌≡◌, ◌+◌, ◌<◌, ℕ, get_or, sym, subst, ◌∙◌, of_calls}
use Rattle.std.proofs.lemmas.Option.{get_or_from_slice_get, slice_get_within}
use Rattle.aft_step.proofs.stepping.first_clients.Goals as goal

pub returns : goal.returns
returns c = (
  c.from_fn.ensures.items.long,
  λ i client at.
      let low = subst (λ (n : ℕ). i < n) c.from_fn.ensures.items.long (slice_get_within c.from_fn.result i client at) in
      let called = c.from_fn.ensures.items.at i client low in
      let is : get_or c.from_fn.result i client ≡ record { number = i + 1; hold = record { node = 1; attempt = None }; at = 0; running = None } = search (of_calls) in
      sym (get_or_from_slice_get c.from_fn.result i client client at) ∙ is,
)
