use Rattle.std.proofs.Common.{append_assoc}
use Rattle.aft_door.proofs.tests.commit.Goals as goal

pub put_record-requires-clause-stored : goal.put_record-requires-clause-stored
put_record-requires-clause-stored g c = rw (c.record_of-record.ensures, c.commit_of.ensures.value) c.store.ensures.stored

pub returns-clause-history : goal.returns-clause-history
returns-clause-history g c = rw (c.put_record.ensures.history, c.store.ensures.history, c.record_of-record.ensures, c.commit_of.ensures.value, c.caller-who.ensures) (simp append_assoc)
