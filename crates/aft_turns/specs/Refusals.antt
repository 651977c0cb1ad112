-- What a refusal of the door is answered as.
use Rattle.aft_door.specs.declared.fault.DoorFault.{DoorFault}
use Rattle.aft_door.specs.declared.fault.DoorFault.TheVariants.{Failed, Memory}
use Rattle.aft_model.specs.declared.caller.Attempt.{Attempt}
use Rattle.aft_model.specs.declared.reply.Reply.{Reply}
use Rattle.aft_model.specs.declared.reply.Reply.TheVariants.{NoMemory, NodeDown, StoreFault}

-- a store that failed, memory that ran out, or an incarnation that is shut out
abbrev pub refusal_of : Attempt → DoorFault → Reply
refusal_of a Failed = StoreFault
refusal_of a Memory = NoMemory
refusal_of a fault = NodeDown a.node a.inc
