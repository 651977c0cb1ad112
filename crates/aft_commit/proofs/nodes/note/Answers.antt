use Rattle.std.proofs.Common.{Bool, subst}
use Rattle.aft_commit.specs.declared.stage.Stage.TheVariants.{Recorded}
use Rattle.aft_commit.proofs.NodeSteps.{NodeStep, note_step, noted_stage}
use Rattle.aft_commit.proofs.nodes.note.Goals as goal

pub returns-then-stored-clause-steps : goal.returns-then-stored-clause-steps
returns-then-stored-clause-steps c clock hold aborts may =
    subst (λ (t : Bool). NodeStep clock c.args.front c.args.by hold c.args.attempt c.args.node.now c.stored.new.self c.requires.place aborts (Recorded c.args.attempt c.args.written) (noted_stage clock c.args.front c.args.by hold c.args.attempt c.args.node.now c.stored.new.self c.requires.place c.args.written t)) c.if-stored.true
    (note_step clock c.args.front c.args.by hold c.args.attempt c.args.node.now c.stored.new.self c.requires.place aborts c.args.written c.stored.result c.stored.ensures.commits c.stored.ensures.over may)

pub returns-clause-steps : goal.returns-clause-steps
returns-clause-steps c clock hold aborts may =
    subst (λ (t : Bool). NodeStep clock c.args.front c.args.by hold c.args.attempt c.args.node.now c.stored.new.self c.requires.place aborts (Recorded c.args.attempt c.args.written) (noted_stage clock c.args.front c.args.by hold c.args.attempt c.args.node.now c.stored.new.self c.requires.place c.args.written t)) c.if-stored.false
    (note_step clock c.args.front c.args.by hold c.args.attempt c.args.node.now c.stored.new.self c.requires.place aborts c.args.written c.stored.result c.stored.ensures.commits c.stored.ensures.over may)
