-- An arena may go to another thread with what is behind its locks, and a session with its shard.
use denote.RattleType.{RattleType}
use denote.Param.Send.{IsSend, IsSync, AllSend, recorded_send, struct_send, sendable}
use denote.Struct.Declared.{fields, shape}
use Rattle.std.proofs.Crossing.{Arc-send, crosses}
use Rattle.std.proofs.alloc.Global.TheSendSync as heap
use Rattle.std.proofs.vec.Vec.TheSendSync as vec
use Rattle.std.below.std_heap.proofs.GlobalAllocator.TheSendSync as heap_memory
use Rattle.std.specs.contracts.alloc.Global
use Rattle.std.specs.contracts.impls.GlobalAllocator.TheImpl
use Rattle.span.specs.declared.log.Log.{Ghosts}
use Rattle.shard.proofs.shard.Shard.TheSendSync as shard
use Rattle.shard.specs.contracts.shard.Shard
use Rattle.pool.proofs.pool.Pool.TheSendSync as pool
use Rattle.pool.specs.contracts.pool.Pool
use Rattle.marks.proofs.limits.Limits.TheSendSync as limits
use Rattle.latch.proofs.latch.Latch.TheSendSync as latch
use Rattle.latch.specs.contracts.latch.Latch
use Rattle.arena.proofs.ring_table.RingTable.TheSendSync as table
use Rattle.arena.proofs.arena.Arena.TheSendSync.{the_sync as arena_sync}
use Rattle.arena.proofs.seat.Seat.TheSendSync.{the_send as seat_send}
use Rattle.latch.proofs.hold.Hold.TheSendSync as hold
use Rattle.arena.specs.contracts.hints.Hints
use Rattle.arena.specs.contracts.session.Session
use Rattle.arena.specs.contracts.arena.Arena

-- the counts and the words are atomic, and own nothing
hints_send : IsSend (Hints.the_field).row
hints_send =
    let all : AllSend (fields Hints.the_type) = (search (sendable, crosses) depth 40, (search (sendable, crosses) depth 60, (search (sendable, crosses) depth 40, tt))) in
    struct_send (shape Hints.the_type) all

pub Arena-send : (G L : RattleType) (g : Ghosts L.Denot) → IsSend G → IsSend L → IsSend (Arena.the_row G L g)
Arena-send G L g gate log =
    let locked : IsSend (Latch.the_row (Shard.the_row L g)) = latch.the_send (Shard.the_row L g) (shard.the_send L g log) in
    let locks = vec.the_send (Latch.the_row (Shard.the_row L g)) Global.the_row TheImpl.ghosts locked heap.the_send heap_memory.the_frees in
    let all : AllSend (fields (Arena.the_type G L g)) = (
      heap.the_field_send,
      (
        limits.the_send,
        (table.the_send, (latch.the_send (Pool.the_row L g) (pool.the_send L g log), (locks, (hints_send, (gate, tt))))),
      ),
    ) in
    recorded_send (Arena.the_field G L g).row _ _ (Arena.the_type G L g).to_one (struct_send (shape (Arena.the_type G L g)) all)

-- a session may go to another thread with its arena and its shard
pub Session-send : (G L : RattleType) (g : Ghosts L.Denot) → IsSend G → IsSync G → IsSend L → IsSend (Session.the_field G L g).row
Session-send G L g gate gate_sync log =
    let share = Arc-send (Arena.the_row G L g) (Arena-send G L g gate log) (arena_sync G L g log gate_sync) in
    let all : AllSend (fields (Session.the_type G L g)) = (share, (seat_send, (hold.the_field_send (Shard.the_row L g) (shard.the_send L g log), tt))) in
    struct_send (shape (Session.the_type G L g)) all
