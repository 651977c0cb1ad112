use Rattle.aft_door.proofs.Changed.{all_uuids}
use Rattle.aft_door.proofs.door.puts.record_fits.Goals as goal

pub returns : goal.returns
returns c = record {
  commit = c.commit_fits.ensures;
  origin = record {
    limits = c.requires.origin;
    reads = c.requires.reads;
    uuids = all_uuids c.args.written.now.origin.reads (rw c.as_slice.ensures at c.reads_fit.ensures);
  };
}
