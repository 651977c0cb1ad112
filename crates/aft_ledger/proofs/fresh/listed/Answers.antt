use Rattle.std.proofs.Common.{[], ◌∷◌, ◌++◌, ap, sym, ◌∙◌, append_assoc, append-nil}
use Rattle.std.specs.Map.Iter.{deref_pair}
use Rattle.std.proofs.lemmas.Map.Iter.{rest_all, rest_more}
use Rattle.aft_records.specs.declared.stored.Commit.{Commit}
use Rattle.aft_ledger.specs.Fresh.{in_map}
use Rattle.aft_ledger.proofs.fresh.listed.Goals as goal

pub loop-id-preserved : goal.loop-id-preserved
loop-id-preserved c =
    let rest = rest_more deref_pair c.loop-id.id-iterator c.next.new.self c.next.result (c.in-Some.id, c.in-Some.keys) c.in-Some.is c.next.ensures.steps in
    let one : Commit = record { id = c.in-Some.id.now; keys = c.in-Some.keys.now } in
    rw (c.in_ok-push.ensures.items, c.in_ok-keys.ensures.cases)
    (append_assoc c.loop-id.commits.items (one ∷ []) (in_map c.next.new.self) ∙ (ap (λ entries. c.loop-id.commits.items ++ in_map entries) (sym rest) ∙ c.loop-id.invariant))

pub returns : goal.returns
returns c =
    let none = rest_all deref_pair c.loop-id.id-iterator c.next.new.self c.next.result c.in-None.is c.next.ensures.steps in
    sym (append-nil c.loop-id.commits.items) ∙ (ap (λ entries. c.loop-id.commits.items ++ in_map entries) (sym none) ∙ c.loop-id.invariant)
