-- Acts on known commits, one after the other.
use Rattle.std.specs.Prelude.{List, [], ◌∷◌, Option, Some, None, if◌then◌else◌}
use Rattle.std.specs.List.{fold}
use Rattle.aft_records.specs.Commits.{with_commit, without_ids}
use Rattle.aft_records.specs.declared.stored.Commit.{Commit}
use Rattle.aft_meta.specs.KnownCommits.{learnt, supersedes_id}
use Rattle.aft_meta.specs.declared.commit_set.Learnt.{Learnt}
use Rattle.aft_meta.specs.declared.acts.MetaAct.{MetaAct}
use Rattle.aft_meta.specs.declared.acts.MetaAct.TheVariants.{Learn, Drop}

-- what is known after an act: one more commit, unless its id is known or it is superseded; or one that is superseded less
abbrev pub after_act : List Commit → MetaAct → List Commit
after_act known (Learn c) = with_commit known c
after_act known (Drop id) = if supersedes_id id known then without_ids (id ∷ []) known else known

-- what an act answers
abbrev pub answer_of : List Commit → MetaAct → Option Learnt
answer_of known (Learn c) = Some (learnt c known)
answer_of known (Drop id) = None

-- an answer, if there is one, before others
abbrev pub before_others : Option Learnt → List Learnt → List Learnt
before_others None others = others
before_others (Some answer) others = answer ∷ others

-- what acts answer, one after the other
abbrev pub answers : List Commit → List MetaAct → List Learnt
answers known [] = []
answers known (act ∷ acts) = before_others (answer_of known act) (answers (after_act known act) acts)

-- what is known after acts, one after the other
abbrev pub replayed : List Commit → List MetaAct → List Commit
replayed known acts = fold after_act known acts
