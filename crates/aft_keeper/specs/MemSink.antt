-- What a sink in memory has taken, and which of its calls fail.
use Rattle.std.specs.Prelude.{ℕ, List, ◌++◌, Result, Ok, Err}
use Rattle.aft_keeper.specs.Failures.{after_success, after_failure}
use Rattle.aft_keeper.specs.declared.failures.Failures.{Failures}
use Rattle.aft_keeper.specs.declared.mem_sink.MemSink.{MemSink}
use Rattle.aft_keeper.specs.declared.sink.SinkFault.{SinkFault}
use Rattle.aft_keeper.specs.declared.sink.SinkFault.TheVariants.{Failed, Memory}

-- the bytes that it has taken
abbrev pub taken_of : MemSink → List ℕ
taken_of sink = sink.taken.items

-- how often it has failed
abbrev pub faults_of : MemSink → ℕ
faults_of sink = sink.failures.faults

-- which of its calls fail, and how many it answered
abbrev pub failures_of : MemSink → Failures
failures_of sink = sink.failures

-- the bytes after a write: the whole piece was taken, or nothing of it
abbrev pub taken_after : {T : Type 0} → List ℕ → Result T SinkFault → List ℕ → List ℕ
taken_after piece (Ok x) taken = taken ++ piece
taken_after piece (Err e) taken = taken

-- the counts after a write; one that lacked memory isn't counted
abbrev pub counted_after : {T : Type 0} → Result T SinkFault → Failures → Failures
counted_after (Ok x) f = after_success f
counted_after (Err Failed) f = after_failure f
counted_after (Err Memory) f = f
