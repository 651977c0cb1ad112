use Rattle.std.proofs.Common.{◌≡◌, ℕ, List, ◌&&◌, ◌||◌, not, cond, ap, subst, Some, ◌∙◌}
use Rattle.std.specs.Prelude.{IsTrue, count_by}
use Rattle.std.specs.List.{list_any}
use Rattle.std.specs.Ordering.{is_eq}
use Rattle.std.specs.Str.{bytes_eq}
use Rattle.aft_fields.specs.Order.{ascend}
use Rattle.aft_id.specs.TxnId.{id_cmp, same_id}
use Rattle.aft_records.specs.Commits.{greatest, with_id_order}
use Rattle.aft_meta.specs.Index.{commits_of, ids_under, is_some_id, known_at, lowered, stands_under}
use Rattle.aft_meta.specs.declared.known.KnownCommit.{KnownCommit}
use Rattle.aft_meta.proofs.Asked.{same_index, taken_back}
use Rattle.aft_meta.proofs.Entries.{entry_placed}
use Rattle.aft_meta.proofs.Learning.{learned_index, nowhere_yet}
use Rattle.aft_meta.proofs.meta.take_in.Goals as goal

pub add_under-requires : goal.add_under-requires
add_under-requires c = nowhere_yet c.args.commits.now.entries c.args.writers.now.entries c.args.commit.now c.requires.index c.requires.new

pub returns-in-Ok-clause-ok : goal.returns-in-Ok-clause-ok
returns-in-Ok-clause-ok c =
    c.lower_overtaken.ensures.same ∙ ap commits_of c.in-Ok.ensures.entries
    ∙ entry_placed c.args.commits.now.entries c.args.commit.now.id (record { keys = c.in_ok-keys.keys; newest = c.count_newest-newest.result }) c.requires.new
    ∙ ap (λ (k : List (List ℕ)). with_id_order (commits_of c.args.commits.now.entries) (record { id = c.args.commit.now.id; keys = k })) c.in_ok-keys.ensures.cases

pub returns-in-Ok-clause-index : goal.returns-in-Ok-clause-index
returns-in-Ok-clause-index c =
    let entries = c.args.commits.now.entries in
    let writers = c.args.writers.now.entries in
    let noted = c.add_under.new.writers.entries in
    let id = c.args.commit.now.id in
    let keys = c.args.commit.now.keys in
    let same =
    c.lower_overtaken.ensures.same ∙ ap commits_of c.in-Ok.ensures.entries
    ∙ entry_placed entries id (record { keys = c.in_ok-keys.keys; newest = c.count_newest-newest.result }) c.requires.new
    ∙ ap (λ (k : List (List ℕ)). with_id_order (commits_of entries) (record { id = id; keys = k })) c.in_ok-keys.ensures.cases in
    let count = c.count_newest-newest.ensures ∙ ap (λ (k : List (List ℕ)). count_by (λ key. is_some_id id (greatest (ids_under key noted))) k) c.list-own.ensures.value in
    let counted : record { keys = c.in_ok-keys.keys; newest = c.count_newest-newest.result } ≡ record { keys = keys; newest = count_by (λ key. is_some_id id (greatest (ids_under key noted))) keys } =
    ap (λ (k : List (List ℕ)). record { keys = k; newest = c.count_newest-newest.result }) c.in_ok-keys.ensures.cases ∙ ap (λ (n : ℕ). record { keys = keys; newest = n }) count in
    learned_index entries c.insert.new.self.entries c.lower_overtaken.new.commits.entries writers noted c.args.commit.now c.requires.index c.requires.new
    (subst (λ (k : List (List ℕ)). IsTrue (ascend k)) c.list-own.ensures.value c.list-own.ensures.limits.ascending)
    (λ k v. c.in_ok-add_under.ensures.ok k v ∙ ap (λ (own : List (List ℕ)). stands_under k v writers || (list_any (bytes_eq k) own && same_id v id)) c.list-own.ensures.value)
    same
    (λ q. c.in-Ok.ensures.updates.0 q ∙ ap (λ (k : KnownCommit). cond (is_eq (id_cmp id q)) (Some k) (known_at q entries)) counted)
    (λ q. c.lower_overtaken.ensures.lowered q ∙ ap (λ (own : List (List ℕ)). lowered own id noted q (known_at q c.insert.new.self.entries)) c.list-own.ensures.value)

pub returns-clause-index : goal.returns-clause-index
returns-clause-index c =
    same_index c.args.commits.now.entries c.insert.new.self.entries c.args.writers.now.entries c.take_under.new.writers.entries c.requires.index c.in-Err.ensures.err
    (λ k v. c.take_under.ensures k v ∙ ap (λ b. b && not (list_any (bytes_eq k) c.list-own.result.now && same_id v c.args.commit.now.id)) (c.in_ok-add_under.ensures.ok k v)
    ∙ taken_back (stands_under k v c.args.writers.now.entries) (list_any (bytes_eq k) c.list-own.result.now) (same_id v c.args.commit.now.id) (nowhere_yet c.args.commits.now.entries c.args.writers.now.entries c.args.commit.now c.requires.index c.requires.new k v))
