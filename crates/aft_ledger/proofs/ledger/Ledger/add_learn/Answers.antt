use Rattle.std.proofs.Common.{◌≡◌, ◌-◌, ◌≤◌, List, ap, refl, subst, ◌∙◌, length, take, vec_capacity}
use Rattle.std.specs.Prelude.{IsTrue, Some, is_some}
use Rattle.std.specs.List.{fold}
use Rattle.aft_records.specs.declared.stored.Commit.{Commit}
use Rattle.aft_model.specs.declared.node.NodeAct.TheVariants as acts
use Rattle.aft_model.specs.declared.node.NodeEntry.{NodeEntry}
use Rattle.aft_model.specs.Known.{known}
use Rattle.aft_model.specs.NodeState.{service}
use Rattle.aft_ledger.specs.Ledger.{LedgerView, shown}
use Rattle.aft_ledger.proofs.Fields.{answer_space, held, of_history, view_of}
use Rattle.aft_ledger.proofs.Views.{view, view_after}
use Rattle.aft_records.specs.Commits.{with_commit}
use Rattle.aft_ledger.specs.Knowing.{Learns, learned_or}
use Rattle.aft_ledger.proofs.Rounds.{learns}
use Rattle.aft_ledger.proofs.Told.{learned_may, told_learns}
use Rattle.aft_ledger.proofs.ledger.Ledger.add_learn.Goals as goal

pub invariant_of-self : goal.invariant_of-self
invariant_of-self c =
    let n = c.learn_told-learned.result.0 in
    let commits = c.args.commits in
    let whole : c.as_slice.result.now ≡ commits = c.as_slice.ensures.value ∙ c.into_vec-commits.ensures in
    let some : c.from_vec.result ≡ take n commits = c.from_vec.ensures ∙ (c.truncate.ensures.items ∙ ap (take n) c.into_vec-commits.ensures) in
    let now : c.learn_told-learned.new.known ≡ fold with_commit c.self.inside.known (take n commits) = c.learn_told-learned.ensures.known ∙ ap (λ (cs : List Commit). fold with_commit c.self.inside.known (take n cs)) whole in
    let reply : c.learn_told-learned.result.1 ≡ learned_or (known c.self.inside.history.items) commits n =
    c.learn_told-learned.ensures.told ∙ (ap (λ (cs : List Commit). learned_or c.self.inside.known cs n) whole ∙ ap (λ (k : List Commit). learned_or k commits n) c.self.invariant.knows) in
    rw (c.add.ensures.entry, c.add.ensures.front, c.add.ensures.room, now, some, reply)
    (learns (held c.self.inside) c.self.invariant c.args.front c.args.by (vec_capacity c.self.inside.history) (of_history c.self.inside c.args.self.now c.self.view_is (λ (h : List NodeEntry). IsTrue (is_some (service h))) c.requires.serves) (take n commits) (learned_or (known c.self.inside.history.items) commits n) (learned_may (known c.self.inside.history.items) commits n) (answer_space c.self.inside c.args.self.now c.self.view_is c.self.invariant c.requires.room))

pub returns : goal.returns
returns c =
    let n = c.learn_told-learned.result.0 in
    let commits = c.args.commits in
    let whole : c.as_slice.result.now ≡ commits = c.as_slice.ensures.value ∙ c.into_vec-commits.ensures in
    let some : c.from_vec.result ≡ take n commits = c.from_vec.ensures ∙ (c.truncate.ensures.items ∙ ap (take n) c.into_vec-commits.ensures) in
    let reply : c.learn_told-learned.result.1 ≡ learned_or (known c.self.inside.history.items) commits n =
    c.learn_told-learned.ensures.told ∙ (ap (λ (cs : List Commit). learned_or c.self.inside.known cs n) whole ∙ ap (λ (k : List Commit). learned_or k commits n) c.self.invariant.knows) in
    subst (λ (v : LedgerView). Learns c.args.front c.args.by commits (shown v) (view c.self.inside.number c.self.inside.cache.capacity c.add.new.history.items c.add.new.latest (c.self.inside.room - 1))) c.self.view_is
    (told_learns c.args.front c.args.by commits (shown (view_of c.self.inside)) (view c.self.inside.number c.self.inside.cache.capacity c.add.new.history.items c.add.new.latest (c.self.inside.room - 1)) n (subst (λ (cs : List Commit). n ≤ length cs) whole c.learn_told-learned.ensures.some)
    (view_after (shown (view_of c.self.inside)) c.args.front c.args.by c.add.new.history.items c.add.new.latest (c.self.inside.room - 1) (acts.Learn c.from_vec.result) (acts.Learn (take n commits)) (Some c.learn_told-learned.result.1) (Some (learned_or (known c.self.inside.history.items) commits n))
    c.add.ensures.front c.add.ensures.entry (ap acts.Learn some) (ap Some reply) refl))
