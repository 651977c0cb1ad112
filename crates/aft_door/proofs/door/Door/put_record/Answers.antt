use Rattle.std.proofs.Common.{List, ap, ◌∙◌, ◌≡◌, not, subst, sym, true}
use Rattle.std.specs.Prelude.{IsTrue, ◌==◌}
use Rattle.std.proofs.lemmas.Bool.{and_from, eqb-true, false_from_ne_true, or_left}
use Rattle.aft_model.specs.Membership.{Incarnation, same_incarnation}
use Rattle.aft_model.specs.Readings.{record_name}
use Rattle.aft_model.proofs.OneCommit.{same_itself}
use Rattle.aft_records.specs.Rows.{record_row}
use Rattle.aft_model.specs.declared.door.DoorEntry.{DoorEntry}
use Rattle.aft_door.specs.Calls.{DoorView, told_done}
use Rattle.aft_door.specs.Entries.{who_calls}
use Rattle.aft_door.specs.Refusals.{as_result, if_fenced, if_not_holder, or_then}
use Rattle.aft_door.proofs.Puts.{asks_put, behind, both_none, holds_if, passed, record_may, up_if}
use Rattle.aft_door.proofs.door.Door.put_record.Goals as goal

pub put_under-requires-clause-up : goal.put_under-requires-clause-up
put_under-requires-clause-up g c =
    let h = ap (λ (v : DoorView). v.history) c.self.view_is in
    let up = passed c.in_ok-test_up.field-0 (if_fenced c.args.who c.args.self.now.history) (c.in_ok-test_up.ensures ∙ ap (λ (x : List DoorEntry). as_result (if_fenced c.args.who x)) h) in
    let held = passed c.in_ok-test_holder.field-0 (if_not_holder c.args.who c.args.written.now.commit.id.uuid c.args.self.now.history) (c.in_ok-test_holder.ensures ∙ ap (λ (x : List DoorEntry). as_result (if_not_holder c.args.who c.args.written.now.commit.id.uuid x)) h) in
    up_if c.args.who c.args.self.now.history up

pub put_under-requires-clause-may : goal.put_under-requires-clause-may
put_under-requires-clause-may g c =
    let h = ap (λ (v : DoorView). v.history) c.self.view_is in
    let up = passed c.in_ok-test_up.field-0 (if_fenced c.args.who c.args.self.now.history) (c.in_ok-test_up.ensures ∙ ap (λ (x : List DoorEntry). as_result (if_fenced c.args.who x)) h) in
    let held = passed c.in_ok-test_holder.field-0 (if_not_holder c.args.who c.args.written.now.commit.id.uuid c.args.self.now.history) (c.in_ok-test_holder.ensures ∙ ap (λ (x : List DoorEntry). as_result (if_not_holder c.args.who c.args.written.now.commit.id.uuid x)) h) in
    let real : not (c.args.who.node == 0) ≡ true = ap not (false_from_ne_true _ (λ z. c.requires.node (eqb-true c.args.who.node 0 z))) in
    let own = subst (λ (w : Incarnation). IsTrue (same_incarnation (who_calls c.args.who) w)) (sym c.requires.own) (same_itself (who_calls c.args.who)) in
    record_may c.args.self.now.history (who_calls c.args.who) c.in_ok-name.name c.in_ok-bytes.bytes c.args.written.now c.in_ok-name.ensures.ok c.in_ok-bytes.ensures (c.record_fits.ensures, c.requires.timely)
    (or_left _ _ (and_from _ _ (and_from _ _ (and_from _ _ real own) (holds_if c.args.who c.args.written.now.commit.id.uuid c.args.self.now.history held)) c.requires.stored))

pub returns-clause-refused : goal.returns-clause-refused
returns-clause-refused g c =
    let h = ap (λ (v : DoorView). v.history) c.self.view_is in
    let up = passed c.in_ok-test_up.field-0 (if_fenced c.args.who c.args.self.now.history) (c.in_ok-test_up.ensures ∙ ap (λ (x : List DoorEntry). as_result (if_fenced c.args.who x)) h) in
    let held = passed c.in_ok-test_holder.field-0 (if_not_holder c.args.who c.args.written.now.commit.id.uuid c.args.self.now.history) (c.in_ok-test_holder.ensures ∙ ap (λ (x : List DoorEntry). as_result (if_not_holder c.args.who c.args.written.now.commit.id.uuid x)) h) in
    behind (or_then (if_fenced c.args.who c.args.self.now.history) (if_not_holder c.args.who c.args.written.now.commit.id.uuid c.args.self.now.history)) c.put_under.result (both_none (if_fenced c.args.who c.args.self.now.history) (if_not_holder c.args.who c.args.written.now.commit.id.uuid c.args.self.now.history) up held) c.put_under.ensures.refused

pub returns-clause-asks : goal.returns-clause-asks
returns-clause-asks g c = asks_put c.args.self.now _ c.args.who c.in_ok-name.name (record_name c.args.written.now.commit.id.uuid) c.in_ok-bytes.bytes (record_row c.args.written.now) (told_done c.put_under.result) c.in_ok-name.ensures.ok c.in_ok-bytes.ensures c.put_under.ensures.asks
