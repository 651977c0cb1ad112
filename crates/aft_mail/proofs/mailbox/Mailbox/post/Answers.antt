use Rattle.std.proofs.Common.{◌≡◌, subst, sym, arith}
use Rattle.std.proofs.lemmas.Grind.{common_steps}
use Rattle.aft_mail.specs.BoxState.{BoxState, IsLegal, after_post}
use Rattle.aft_mail.proofs.Boxes.{post_legal}
use Rattle.aft_mail.proofs.mailbox.Mailbox.post.Goals as goal

pub invariant_of-self-2 : goal.invariant_of-self-2
invariant_of-self-2 c =
    let m = c.self.inside in
    let state : BoxState = record { capacity = m.capacity; messages = m.messages.items; front = m.front; history = m.history.items } in
    let after : BoxState = record { capacity = m.capacity; messages = c.append.new.self.items; front = c.max-self-inside.result; history = c.push_reserved.new.self.items } in
    let is : after ≡ after_post c.args.by c.args.commits.now c.args.front state = grind (arith, common_steps) in
    subst IsLegal (sym is) (post_legal state c.self.invariant c.args.by c.args.commits.now c.args.front)

pub returns-clause-legal : goal.returns-clause-legal
returns-clause-legal c = invariant_of-self-2 c
