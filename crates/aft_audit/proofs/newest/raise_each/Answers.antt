use Rattle.std.proofs.Common.{ap, sym, ◌∙◌, ◌&&◌, ◌||◌, take}
use Rattle.std.specs.List.{list_any}
use Rattle.std.specs.Str.{bytes_eq}
use Rattle.aft_id.specs.TxnId.{id_lt}
use Rattle.aft_audit.specs.Newest.{is_newer}
use Rattle.aft_audit.proofs.Newer.{any_taken, one_more}
use Rattle.aft_audit.proofs.newest.raise_each.Goals as goal

pub loop-key-preserved : goal.loop-key-preserved
loop-key-preserved c k v =
    let before = is_newer k v c.args.newest.now.entries in
    let above = id_lt v c.args.commit.now.id in
    let keys = c.list-keys.result.now in
    let i = c.loop-key.key-index in
    c.in_ok-raise.ensures k v
    ∙ ap (λ t. t || (bytes_eq k c.key-item.result && above)) (c.loop-key.invariant k v)
    ∙ one_more before (list_any (bytes_eq k) (take i keys)) (bytes_eq k c.key-item.result) above
    ∙ ap (λ t. before || (t && above)) (sym (any_taken (bytes_eq k) keys i c.key-item.result c.loop-key-test.true ∙ ap (λ key. list_any (bytes_eq k) (take i keys) || bytes_eq k key) (sym c.key-item.is)))
