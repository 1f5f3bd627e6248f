-- A handle may go to another thread with what it holds.
use denote.Struct.Struct.{exits_of}
use denote.Struct.Owning.{shape, fields, to}
use denote.Struct.Declared.{shape as struct_shape, fields as struct_fields}
use denote.Enum.Declared.{shape as enum_shape}
use denote.Param.Send.{IsSend, AllSend, EachSend, enum_send, owning_send, recorded_send, struct_send, sendable}
use Rattle.std_alloc.proofs.SendSync.{quiet}
use Rattle.std.proofs.Crossing.{Arc-send, crosses}
use Rattle.std_alloc.specs.contracts.arc.Arc
use Rattle.std_heap.specs.contracts.Global as Heap
use Rattle.std_heap.specs.contracts.GlobalAllocator.TheImpl.{ghosts}
use Rattle.span.proofs.log.Counted.TheSendSync.{the_send as counted}
use Rattle.span.proofs.log.Kept.TheSendSync.{the_send as kept}
use Rattle.span.specs.contracts.log.Counted
use Rattle.span.specs.contracts.log.CountedLog.TheImpl
use Rattle.span.specs.contracts.log.Kept
use Rattle.span.specs.contracts.log.KeptLog.TheImpl as KeptImpl
use Rattle.arena.proofs.Crossing.{Arena-send, Session-send}
use Rattle.arena.proofs.gate.NoGate.TheSendSync.{the_send as gate, the_sync as gate_sync}
use Rattle.arena.specs.contracts.arena.Arena
use Rattle.arena.specs.contracts.gate.NoGate
use Rattle.arena.proofs.arena.Arena.TheSendSync.{the_sync as arena_sync}
use Rattle.arena.proofs.seat.Seat.TheSendSync.{the_send as seat_send}
use Rattle.arena.proofs.steward.Steward.TheSendSync.{the_send as steward_send}
use Rattle.span.proofs.receipt_list.ReceiptList.TheSendSync.{the_send as list_send}
use Rattle.span.proofs.span_log.SpanLog.TheSendSync.{the_send as log_send}
use Rattle.teurlaks_c.proofs.recorded.KeptSeat.TheSendSync.{the_send as kept_seat_send}
use Rattle.teurlaks_c.proofs.AsBox.{keyless}
use Rattle.teurlaks_c.proofs.held.Witness.TheSendSync.{the_send as witness_send}
use Rattle.teurlaks_c.specs.contracts.share.Share as Content
use Rattle.teurlaks_c.specs.contracts.share.SharedSeat as SeatContent
use Rattle.teurlaks_c.specs.contracts.share.SharedSession as SessionContent
use Rattle.teurlaks_c.specs.contracts.share.SharedSteward as StewardContent
use Rattle.teurlaks_c.specs.contracts.share.StewardAndMark as StewardAndMarkContent
use Rattle.teurlaks_c.specs.contracts.recorded.KeptSeat as KeptSeatContent
use Rattle.teurlaks_c.specs.contracts.recorded.RecordedRun as RunContent
use Rattle.teurlaks_c.specs.contracts.recorded.RecordedSeat as RecordedSeatContent
use Rattle.teurlaks_c.specs.contracts.recorded.RecordedSteward as RecordedStewardContent
use Rattle.teurlaks_c.specs.contracts.share_handle.ShareHandle.{the_row, the_type}

-- a share of the arena
share : IsSend (Arc.the_row (Arena.the_row NoGate.the_row Counted.the_row TheImpl.ghosts) Heap.the_row ghosts)
share = Arc-send _ (Arena-send NoGate.the_row Counted.the_row TheImpl.ghosts gate counted)
    (arena_sync NoGate.the_row Counted.the_row TheImpl.ghosts counted gate_sync)

-- a seat with it
seat_fields : AllSend (struct_fields SeatContent.the_type)
seat_fields = (share, (seat_send, tt))

-- a plan and the last certificate
inner_fields : AllSend (struct_fields StewardAndMarkContent.the_type)
inner_fields = (steward_send, (search (sendable, crosses, witness_send) depth 60, tt))

inner_send : IsSend (StewardAndMarkContent.the_field).row
inner_send = struct_send (struct_shape StewardAndMarkContent.the_type) inner_fields

-- a steward with it, its plan and the last certificate, and the seats that no thread has
steward_fields : AllSend (struct_fields StewardContent.the_type)
steward_fields = (share, (inner_send, (search (sendable, crosses, seat_send) depth 60, tt)))

-- a share of a recorded arena
recorded_share : IsSend (Arc.the_row (Arena.the_row NoGate.the_row Kept.the_row KeptImpl.ghosts) Heap.the_row ghosts)
recorded_share = Arc-send _ (Arena-send NoGate.the_row Kept.the_row KeptImpl.ghosts gate kept)
    (arena_sync NoGate.the_row Kept.the_row KeptImpl.ghosts kept gate_sync)

-- a seat with its receipts
kept_fields : AllSend (struct_fields KeptSeatContent.the_type)
kept_fields = (seat_send, (search (sendable, crosses) depth 60 fits 10000, tt))

kept_send : IsSend (KeptSeatContent.the_field).row
kept_send = struct_send (struct_shape KeptSeatContent.the_type) kept_fields

recorded_seat_fields : AllSend (struct_fields RecordedSeatContent.the_type)
recorded_seat_fields = (recorded_share, (kept_send, tt))

recorded_steward_fields : AllSend (struct_fields RecordedStewardContent.the_type)
recorded_steward_fields = (recorded_share, (inner_send, (search (sendable, crosses, kept_seat_send) depth 60, tt)))

-- logs and receipts
run_fields : AllSend (struct_fields RunContent.the_type)
run_fields = (search (sendable, crosses, log_send) depth 60, (search (sendable, crosses, list_send) depth 60, tt))

run_send : IsSend (RunContent.the_field).row
run_send = struct_send (struct_shape RunContent.the_type) run_fields

-- a seat that keeps its shard
session_fields : AllSend (struct_fields SessionContent.the_type)
session_fields = (Session-send NoGate.the_row Counted.the_row TheImpl.ghosts gate gate_sync counted, tt)

content : IsSend Content.the_row
content =
    let variants : EachSend (enum_shape Content.the_type).variants = (
      (struct_send (struct_shape SeatContent.the_type) seat_fields, tt),
      (
        (struct_send (struct_shape StewardContent.the_type) steward_fields, tt),
        (
          (struct_send (struct_shape SessionContent.the_type) session_fields, tt),
          (
            (struct_send (struct_shape RecordedSeatContent.the_type) recorded_seat_fields, tt),
            ((struct_send (struct_shape RecordedStewardContent.the_type) recorded_steward_fields, tt), ((run_send, tt), (tt, tt))),
          ),
        ),
      ),
    ) in
    recorded_send (Content.the_field).row _ _ (Content.the_type).to_one (enum_send (enum_shape Content.the_type) variants)

pub send : IsSend the_row
send =
    let all : AllSend (fields the_type) = (search sendable, tt) in
    owning_send the_type all (λ d. keyless Content.the_row content d.at d.share)
    (λ k. quiet (to the_type) (exits_of k (fields the_type)) ((struct_send (shape the_type) all).leaving k))
