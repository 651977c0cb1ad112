use Rattle.std.proofs.Common.{◌≡◌, ◌&&◌, not, ℕ, List, true, false, ap, sym, ◌∙◌}
use Rattle.std.specs.List.{list_any}
use Rattle.aft_records.specs.Commits.{has_id, latest, with_commit, with_id_order}
use Rattle.aft_records.specs.declared.stored.Commit.{Commit}
use Rattle.aft_records.specs.Superseded.{is_superseded}
use Rattle.aft_meta.specs.Index.{commits_of, is_newest_of, is_some_id}
use Rattle.aft_meta.specs.KnownCommits.{supersedes_id}
use Rattle.aft_meta.proofs.Asked.{covered_under, learnt_known, learnt_superseded, learnt_taken}
use Rattle.aft_meta.proofs.Entries.{has_id-known}
use Rattle.aft_meta.proofs.Noting.{newest_is}
use Rattle.aft_meta.proofs.Places.{taken}
use Rattle.aft_meta.proofs.Superseding.{superseded_back}
use Rattle.aft_meta.proofs.meta.MetaCommitSet.learn.Goals as goal

pub returns-then-contains_key-clause-answer : goal.returns-then-contains_key-clause-answer
returns-then-contains_key-clause-answer c =
    let there : has_id c.args.commit.now.id c.args.self.now ≡ true = ap (has_id c.args.commit.now.id) (sym c.self.view_is) ∙ has_id-known c.args.commit.now.id c.self.inside.commits.entries ∙ sym c.contains_key.ensures ∙ c.if-contains_key.true in
    (learnt_known c.args.commit.now c.args.self.now there).0

pub returns-then-contains_key-clause-ok : goal.returns-then-contains_key-clause-ok
returns-then-contains_key-clause-ok c =
    let there : has_id c.args.commit.now.id c.args.self.now ≡ true = ap (has_id c.args.commit.now.id) (sym c.self.view_is) ∙ has_id-known c.args.commit.now.id c.self.inside.commits.entries ∙ sym c.contains_key.ensures ∙ c.if-contains_key.true in
    (learnt_known c.args.commit.now c.args.self.now there).1

pub returns-then-is_covered-clause-answer : goal.returns-then-is_covered-clause-answer
returns-then-is_covered-clause-answer c =
    let new : has_id c.args.commit.now.id c.args.self.now ≡ false = ap (has_id c.args.commit.now.id) (sym c.self.view_is) ∙ has_id-known c.args.commit.now.id c.self.inside.commits.entries ∙ sym c.contains_key.ensures ∙ c.if-contains_key.false in
    let over : is_superseded c.args.commit.now c.args.self.now ≡ true = ap (is_superseded c.args.commit.now) (sym c.self.view_is) ∙ sym (covered_under c.self.inside.commits.entries c.self.inside.writers.entries c.self.invariant.index c.args.commit.now) ∙ sym c.is_covered.ensures ∙ c.if-is_covered.true in
    (learnt_superseded c.args.commit.now c.args.self.now new over).0

pub returns-then-is_covered-clause-ok : goal.returns-then-is_covered-clause-ok
returns-then-is_covered-clause-ok c =
    let new : has_id c.args.commit.now.id c.args.self.now ≡ false = ap (has_id c.args.commit.now.id) (sym c.self.view_is) ∙ has_id-known c.args.commit.now.id c.self.inside.commits.entries ∙ sym c.contains_key.ensures ∙ c.if-contains_key.false in
    let over : is_superseded c.args.commit.now c.args.self.now ≡ true = ap (is_superseded c.args.commit.now) (sym c.self.view_is) ∙ sym (covered_under c.self.inside.commits.entries c.self.inside.writers.entries c.self.invariant.index c.args.commit.now) ∙ sym c.is_covered.ensures ∙ c.if-is_covered.true in
    (learnt_superseded c.args.commit.now c.args.self.now new over).1

pub take_in-requires-clause-new : goal.take_in-requires-clause-new
take_in-requires-clause-new c = has_id-known c.args.commit.now.id c.self.inside.commits.entries ∙ sym c.contains_key.ensures ∙ c.if-contains_key.false

pub note_superseded-requires-clause-new : goal.note_superseded-requires-clause-new
note_superseded-requires-clause-new c = has_id-known c.args.commit.now.id c.self.inside.commits.entries ∙ sym c.contains_key.ensures ∙ c.if-contains_key.false

pub note_superseded-requires-clause-stands : goal.note_superseded-requires-clause-stands
note_superseded-requires-clause-stands c = sym (covered_under c.self.inside.commits.entries c.self.inside.writers.entries c.self.invariant.index c.args.commit.now) ∙ sym c.is_covered.ensures ∙ c.if-is_covered.false

pub returns-in-Ok-clause-answer : goal.returns-in-Ok-clause-answer
returns-in-Ok-clause-answer c =
    let new : has_id c.args.commit.now.id c.args.self.now ≡ false = ap (has_id c.args.commit.now.id) (sym c.self.view_is) ∙ has_id-known c.args.commit.now.id c.self.inside.commits.entries ∙ sym c.contains_key.ensures ∙ c.if-contains_key.false in
    let stands : is_superseded c.args.commit.now c.args.self.now ≡ false = ap (is_superseded c.args.commit.now) (sym c.self.view_is) ∙ sym (covered_under c.self.inside.commits.entries c.self.inside.writers.entries c.self.invariant.index c.args.commit.now) ∙ sym c.is_covered.ensures ∙ c.if-is_covered.false in
    learnt_taken c.args.commit.now c.args.self.now new stands

pub returns-in-Ok-clause-ok : goal.returns-in-Ok-clause-ok
returns-in-Ok-clause-ok c =
    let new = has_id-known c.args.commit.now.id c.self.inside.commits.entries ∙ sym c.contains_key.ensures ∙ c.if-contains_key.false in
    let stands = sym (covered_under c.self.inside.commits.entries c.self.inside.writers.entries c.self.invariant.index c.args.commit.now) ∙ sym c.is_covered.ensures ∙ c.if-is_covered.false in
    c.in-Ok.ensures.ok ∙ sym (taken (commits_of c.self.inside.commits.entries) c.args.commit.now new stands) ∙ ap (λ known. with_commit known c.args.commit.now) c.self.view_is

pub invariant_of-self-in-Err : goal.invariant_of-self-in-Err
invariant_of-self-in-Err c =
    let known = commits_of c.self.inside.commits.entries in
    let new = has_id-known c.args.commit.now.id c.self.inside.commits.entries ∙ sym c.contains_key.ensures ∙ c.if-contains_key.false in
    let stands = sym (covered_under c.self.inside.commits.entries c.self.inside.writers.entries c.self.invariant.index c.args.commit.now) ∙ sym c.is_covered.ensures ∙ c.if-is_covered.false in
    record {
      index = c.in-Err.ensures.index;
      noted = λ v.
          c.forget_newest.ensures v
          ∙ ap (λ b. b && not (is_newest_of c.list.result.now v c.take_in.new.writers.entries)) (c.in_ok-note_superseded.ensures.ok v)
          ∙ ap (λ (keys : List (List ℕ)). supersedes_id v (with_id_order known c.args.commit.now) && not (is_newest_of keys v c.take_in.new.writers.entries)) c.list.ensures.value
          ∙ ap (λ b. supersedes_id v (with_id_order known c.args.commit.now) && not b)
          (newest_is c.take_in.new.commits.entries c.take_in.new.writers.entries c.in-Err.ensures.index v c.args.commit.now.keys ∙ ap (λ (cs : List Commit). list_any (λ key. is_some_id v (latest key cs)) c.args.commit.now.keys) c.in-Err.ensures.err)
          ∙ superseded_back known c.args.commit.now c.self.invariant.index.in_order new stands v
          ∙ ap (supersedes_id v) (sym c.in-Err.ensures.err);
    }
