use Rattle.aft_script.proofs.Uuids.{uuid_of-read, uuid_of-refused}
use Rattle.aft_script.proofs.values.uuid_of.Goals as goal

pub returns-in-Ok : goal.returns-in-Ok
returns-in-Ok c = uuid_of-read c.args.word.now c.ascii_text.result.now c.in-Ok.uuid c.ascii_text.ensures c.in-Ok.ensures.read

pub returns-in-Err : goal.returns-in-Err
returns-in-Err c = uuid_of-refused c.args.word.now c.ascii_text.result.now c.parse_uuid.result c.in-Err.field-0 c.ascii_text.ensures c.parse_uuid.ensures.value c.in-Err.is
