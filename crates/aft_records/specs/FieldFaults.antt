-- A fault of the layout as a fault of a stored value: want of memory is one thing.
use Rattle.aft_fields.specs.declared.fault.FieldFault.{FieldFault}
use Rattle.aft_fields.specs.declared.fault.FieldFault.TheVariants as fields
use Rattle.aft_records.specs.declared.fault.RecordFault.{RecordFault}
use Rattle.aft_records.specs.declared.fault.RecordFault.TheVariants.{Field, Memory}

-- the fault of a stored value
abbrev pub fault_of : FieldFault → RecordFault
fault_of fields.Memory = Memory
fault_of fault = Field fault
