use Rattle.std.proofs.Common.{arith, ℕ, List, drop, drop-cons, get_or, length, refl, ap, subst, ◌∙◌, ◌∷◌, ◌≡◌, ◌+◌, ◌<◌, suc, false}
use Rattle.std.proofs.lemmas.List.{drop_all}
use Rattle.std.proofs.lemmas.Option.{slice_get-get_or}
use Rattle.aft_model.specs.declared.script.Step.{Step}
use Rattle.aft_step.specs.Crowding.{ComesTo}
use Rattle.aft_step.specs.Worlds.{shown}
use Rattle.aft_step.proofs.stepping.follow_all.Goals as goal

next_word : (words : List Step) (i : ℕ) (d : Step) → i < length words → drop i words ≡ get_or words i d ∷ drop (i + 1) words
next_word words i d low = drop-cons words i d low ∙ ap (λ (n : ℕ). get_or words i d ∷ drop n words) (more i)
  where
    more : (n : ℕ) → suc n ≡ n + 1
    more n = omega arith

pub loop-word-init : goal.loop-word-init
loop-word-init g c = ((λ asked is clock its come. come), record { contents = refl; log = refl })

pub follow-requires : goal.follow-requires
follow-requires g c =
    let it = c.requires.stands in
    let i : ℕ = c.loop-word.word-index in
    let d : Step = record { client = 0; whole = false } in
    record {
      stands = (
        it.0,
        drop (i + 1) c.args.words.now,
        it.1,
        it.2,
        it.3 i (get_or c.args.words.now i d) (slice_get-get_or c.args.words.now i d c.loop-word-test.true),
        subst (λ (left : List Step). ComesTo it.0 left 0 (shown c.loop-word.world.door c.loop-word.world.nodes c.loop-word.world.boxes c.loop-word.world.office) c.loop-word.clients) (next_word c.args.words.now i d c.loop-word-test.true) (c.loop-word.invariant.0 it.0 it.1 it.2 it.3 it.4),
      );
    }

pub loop-word-preserved : goal.loop-word-preserved
loop-word-preserved g c =
    let i : ℕ = c.loop-word.word-index in
    let d : Step = record { client = 0; whole = false } in (
      λ asked is clock its come.
          c.follow.ensures.goes asked (drop (i + 1) c.args.words.now) is clock
          (its i (get_or c.args.words.now i d) (slice_get-get_or c.args.words.now i d c.loop-word-test.true))
          (subst (λ (left : List Step). ComesTo asked left 0 (shown c.loop-word.world.door c.loop-word.world.nodes c.loop-word.world.boxes c.loop-word.world.office) c.loop-word.clients) (next_word c.args.words.now i d c.loop-word-test.true) (c.loop-word.invariant.0 asked is clock its come)),
      record { contents = c.follow.ensures.store.contents ∙ c.loop-word.invariant.1.contents; log = c.follow.ensures.store.log ∙ c.loop-word.invariant.1.log },
    )

pub returns-clause-goes : goal.returns-clause-goes
returns-clause-goes g c asked is clock its come =
    subst (λ (left : List Step). ComesTo asked left 0 (shown c.loop-word.world.door c.loop-word.world.nodes c.loop-word.world.boxes c.loop-word.world.office) c.loop-word.clients)
    (drop_all c.loop-word.word-index c.args.words.now c.loop-word-test.false) (c.loop-word.invariant.0 asked is clock its come)

pub returns-clause-store : goal.returns-clause-store
returns-clause-store g c = c.loop-word.invariant.1
