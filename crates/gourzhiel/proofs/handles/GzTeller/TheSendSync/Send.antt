-- The handle of a teller may go to another thread.
use denote.Struct.Struct.{exits_of}
use denote.Struct.Owning.{shape, fields, to}
use denote.Param.Send.{IsSend, AllSend, owning_send, struct_send, sendable}
use Rattle.std_alloc.proofs.SendSync.{quiet}
use Rattle.std_heap.proofs.Global.TheSendSync as handle
use Rattle.managed_table.specs.contracts.teller.Teller as Held
use Rattle.managed_table.proofs.teller.Teller.TheSendSync.{the_send as held}
use Rattle.gourzhiel.proofs.Held.Sends.{owned}
use Rattle.gourzhiel.specs.contracts.handles.GzTeller.{the_row, the_type}

pub send : IsSend the_row
send =
    let all : AllSend (fields the_type) = (search sendable, (handle.the_field_send, tt)) in
    owning_send the_type all (λ d. owned Held.the_row held d.full d.alloc d.at d.held)
    (λ k. quiet (to the_type) (exits_of k (fields the_type)) ((struct_send (shape the_type) all).leaving k))
