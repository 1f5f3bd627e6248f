-- A handle may go to another thread with what it holds.
use denote.Struct.Struct.{exits_of}
use denote.Struct.Owning.{shape, fields, to}
use denote.Param.Send.{IsSend, AllSend, owning_send, struct_send, sendable}
use Rattle.std_alloc.proofs.SendSync.{quiet}
use Rattle.teurlaks_c.proofs.AsBox.{keyless}
use Rattle.teurlaks_c.specs.contracts.held.Held as Content
use Rattle.teurlaks_c.proofs.held.Held.TheSendSync.{the_send as content}
use Rattle.teurlaks_c.specs.contracts.handle.Handle.{the_row, the_type}

pub send : IsSend the_row
send =
    let all : AllSend (fields the_type) = (search sendable, tt) in
    owning_send the_type all (λ d. keyless Content.the_row content d.at d.held)
    (λ k. quiet (to the_type) (exits_of k (fields the_type)) ((struct_send (shape the_type) all).leaving k))
