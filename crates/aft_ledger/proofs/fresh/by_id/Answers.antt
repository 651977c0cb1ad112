use Rattle.std.proofs.Common.{◌≡◌, ℕ, ◌+◌, ◌<◌, List, [], ◌∷◌, ◌++◌, ap, sym, ◌∙◌, get_or, length, take}
use Rattle.std.specs.BTreeMap.{insert_entry}
use Rattle.std.proofs.lemmas.List.{take_more}
use Rattle.std.proofs.lemmas.List.Sums.{fold-append}
use Rattle.aft_id.specs.TxnId.{id_cmp}
use Rattle.aft_records.specs.declared.stored.Commit.{Commit}
use Rattle.aft_records.specs.Commits.{with_id_once}
use Rattle.aft_ledger.specs.Fresh.{once_each}
use Rattle.aft_ledger.proofs.Ordered.{once_new, once_there}
use Rattle.aft_ledger.proofs.fresh.by_id.Goals.{then-not-contains_key+in_ok-clone+in_ok-insert+in-None-1, then-not-contains_key+in_ok-clone+in_ok-insert+in-Some-1, else-not-contains_key}
use Rattle.aft_ledger.proofs.fresh.by_id.Goals as goal

once_more : (commits : List Commit) (i : ℕ) (c : Commit) (before : List Commit) → i < length commits → c ≡ get_or commits i c → before ≡ once_each (take i commits) → with_id_once before c ≡ once_each (take (i + 1) commits)
once_more commits i c before within at is =
    ap (λ (b : List Commit). with_id_once b c) is
    ∙ sym (ap once_each (take_more commits i c within ∙ ap (λ (d : Commit). take i commits ++ d ∷ []) (sym at)) ∙ fold-append with_id_once [] (take i commits) (c ∷ []))

pub loop-commit-preserved : goal.loop-commit-preserved
loop-commit-preserved c =
    let item = c.commit-item.result in
    let step = once_more c.args.commits.now c.loop-commit.commit-index item _ c.loop-commit-test.true c.commit-item.is c.loop-commit.invariant in
    elim c.if-not-contains_key.branch [
      | then-not-contains_key+in_ok-clone+in_ok-insert+in-None-1 w ↦ rw w.map-is (once_new c.loop-commit.map.entries _ item (sym c.contains_key.ensures ∙ w.if-not-contains_key.true) (w.in_ok-insert.ensures.entries ∙ ap (λ keys. insert_entry id_cmp c.loop-commit.map.entries item.id keys) w.in_ok-clone.ensures.cases) ∙ step)
      | then-not-contains_key+in_ok-clone+in_ok-insert+in-Some-1 w ↦ rw w.map-is (once_new c.loop-commit.map.entries _ item (sym c.contains_key.ensures ∙ w.if-not-contains_key.true) (w.in_ok-insert.ensures.entries ∙ ap (λ keys. insert_entry id_cmp c.loop-commit.map.entries item.id keys) w.in_ok-clone.ensures.cases) ∙ step)
      | else-not-contains_key w ↦ rw w.map-is (once_there c.loop-commit.map.entries item (sym c.contains_key.ensures ∙ w.if-not-contains_key.false) ∙ step)
    ]
