use Rattle.std.proofs.Common.{arith, not, ap, ◌∙◌, ◌≡◌}
use Rattle.std.specs.List.{insert, position_or_len}
use Rattle.aft_id.specs.TxnId.{id_lt}
use Rattle.aft_records.specs.declared.stored.Commit.{Commit}
use Rattle.aft_meta.proofs.Places.{prefix_len-le, placed}
use Rattle.aft_meta.proofs.plain_meta.put_in.Goals as goal

pub insert-requires : goal.insert-requires
insert-requires c = rw c.place_of-place.ensures (omega (arith, prefix_len-le (λ (other : Commit). not (id_lt c.args.commit.id other.id)) c.as_slice.result.now))

pub returns-clause-ok : goal.returns-clause-ok
returns-clause-ok c =
    let place : c.place_of-place.result ≡ position_or_len (λ (other : Commit). id_lt c.args.commit.id other.id) c.args.commits.now.items = rw (← c.as_slice.ensures.value) c.place_of-place.ensures in
    c.in_ok-insert.ensures.items ∙ ap (λ n. insert c.args.commits.now.items n c.args.commit) place ∙ placed c.args.commits.now.items c.args.commit
