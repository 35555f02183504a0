-- A seat goes to another thread as the box of its machine does.
use mir.Raw.{raw}
use denote.Memory.{lone}
use denote.Struct.Struct.{exits_of}
use denote.Struct.Owning.{shape, fields, to}
use denote.Param.Send.{IsSend, AllSend, owning_send, struct_send, sendable}
use denote.RawPtr.{Ptr}
use base.Shift.{Keyless}
use Rattle.std.specs.Prelude.{Option, Some, None}
use Rattle.std.specs.Global.{Global}
use Rattle.motion_c.specs.Owned.{machine_owned}
use Rattle.std.proofs.Crossing as heap
use Rattle.std_alloc.proofs.SendSync.{quiet, lies}
use Rattle.std_heap.proofs.Global.TheSendSync as handle
use Rattle.motion_c.specs.contracts.machine.Machine as Machine
use Rattle.motion_c.proofs.machine.Machine.TheSendSync.{the_send as machine}
use Rattle.motion_c.specs.contracts.machine_pointer.MachinePointer.{the_row, the_type}

keyless : (a : Global) (p : Ptr) (h : Option Machine.the_row.Denot) → Keyless (machine_owned a p h)
keyless a p None = tt
keyless a p (Some m) = (lies Machine.the_row machine p m, heap.frees.frees a (raw (lone Machine.the_row.mir)) p)

pub send : IsSend the_row
send =
    let all : AllSend (fields the_type) = (search sendable, (handle.the_field_send, tt)) in
    owning_send the_type all (λ d. keyless d.alloc d.at d.held)
    (λ k. quiet (to the_type) (exits_of k (fields the_type)) ((struct_send (shape the_type) all).leaving k))
