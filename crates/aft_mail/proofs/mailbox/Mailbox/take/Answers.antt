use Rattle.aft_mail.specs.BoxState.{BoxState}
use Rattle.aft_mail.proofs.Boxes.{take_legal}
use Rattle.aft_mail.proofs.mailbox.Mailbox.take.Goals as goal

pub invariant_of-self-2 : goal.invariant_of-self-2
invariant_of-self-2 c =
    let m = c.self.inside in
    let state : BoxState = record { capacity = m.capacity; messages = m.messages.items; front = m.front; history = m.history.items } in
    rw (c.in_ok-push.ensures.items, c.replace-taken.ensures.after, c.new.ensures.items, c.from_vec-ids.ensures, c.in_ok-ids_of.ensures, c.as_slice.ensures.value) (take_legal state c.self.invariant c.args.by)

pub returns-clause-legal : goal.returns-clause-legal
returns-clause-legal c = invariant_of-self-2 c
