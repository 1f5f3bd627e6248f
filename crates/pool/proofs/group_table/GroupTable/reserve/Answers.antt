use Rattle.std.proofs.Common.{List, ap, arith, length, refl, ℕ, vec_capacity}
use Rattle.std.specs.FinMap as table
use Rattle.std.specs.Ordering.{nat_cmp}
use Rattle.pool.specs.State.{PooledState}
use Rattle.pool.proofs.KeptTable.{AreKept-same}
use Rattle.pool.proofs.group_table.GroupTable.reserve.Goals as goal

pub invariant_of-self : goal.invariant_of-self
invariant_of-self g c =
    let kept = c.self.invariant.kept in
    record {
      kept = AreKept-same c.self.inside.row.items (vec_capacity c.self.inside.row) (table.get c.self.inside.places.entries) (c.self.inside.places.room) c.self.inside.paged c.self.inside.room kept
          c.self.inside.row.items refl (table.get c.self.inside.places.entries) (λ number. refl) c.make_room.new.paged c.make_room.ensures.same
          (vec_capacity c.self.inside.row) (c.self.inside.places.room) c.self.inside.room kept.in_row kept.in_table
          (omega (arith, kept.in_heap, c.make_room.ensures.capacity)) (omega (arith, kept.all_in_heap, c.make_room.ensures.capacity));
      few = omega (arith, ap (λ (ns : List ℕ). length ns) c.make_room.ensures.same, c.self.invariant.few);
      known = c.self.invariant.known;
      bytes = c.self.invariant.bytes;
      in_bytes = c.self.invariant.in_bytes;
    }

pub invariant_of-self-in_err-reserve : goal.invariant_of-self-in_err-reserve
invariant_of-self-in_err-reserve g c =
    let kept = c.self.invariant.kept in
    record {
      kept = AreKept-same c.self.inside.row.items (vec_capacity c.self.inside.row) (table.get c.self.inside.places.entries) (c.self.inside.places.room) c.self.inside.paged c.self.inside.room kept
          c.reserve.new.self.items c.reserve.ensures.items (table.get c.self.inside.places.entries) (λ number. refl) c.make_room.new.paged c.make_room.ensures.same
          (vec_capacity c.reserve.new.self) (c.self.inside.places.room) c.self.inside.room
          (omega (arith, kept.in_row, c.reserve.ensures.capacity)) kept.in_table
          (omega (arith, kept.in_heap, c.make_room.ensures.capacity)) (omega (arith, kept.all_in_heap, c.make_room.ensures.capacity));
      few = omega (arith, ap (λ (ns : List ℕ). length ns) c.make_room.ensures.same, c.reserve.ensures.len, c.reserve.new.self.ok.0, c.self.inside.row.ok.0, c.self.invariant.few);
      known = rw c.reserve.ensures.items c.self.invariant.known;
      bytes = omega (arith, c.self.invariant.bytes, ap (λ (gs : List PooledState). length gs) c.reserve.ensures.items);
      in_bytes = omega (arith, c.self.invariant.in_bytes, ap (λ (gs : List PooledState). length gs) c.reserve.ensures.items);
    }

pub invariant_of-self-in_err-reserve-2 : goal.invariant_of-self-in_err-reserve-2
invariant_of-self-in_err-reserve-2 g c =
    let kept = c.self.invariant.kept in
    record {
      kept = AreKept-same c.self.inside.row.items (vec_capacity c.self.inside.row) (table.get c.self.inside.places.entries) (c.self.inside.places.room) c.self.inside.paged c.self.inside.room kept
          c.reserve.new.self.items c.reserve.ensures.items (table.get c.self.inside.places.entries) (λ number. refl) c.make_room.new.paged c.make_room.ensures.same
          (vec_capacity c.reserve.new.self) (c.self.inside.places.room) c.self.inside.room
          (omega (arith, kept.in_row, c.reserve.ensures.capacity)) kept.in_table
          (omega (arith, kept.in_heap, c.make_room.ensures.capacity)) (omega (arith, kept.all_in_heap, c.make_room.ensures.capacity));
      few = omega (arith, ap (λ (ns : List ℕ). length ns) c.make_room.ensures.same, c.reserve.ensures.len, c.reserve.new.self.ok.0, c.self.inside.row.ok.0, c.self.invariant.few);
      known = rw (c.reserve.ensures.items, c.reserve-2.ensures.items) c.self.invariant.known;
      bytes = omega (arith, c.self.invariant.bytes, ap (λ (gs : List PooledState). length gs) c.reserve.ensures.items, ap (λ (ns : List ℕ). length ns) c.reserve-2.ensures.items);
      in_bytes = omega (arith, c.self.invariant.in_bytes, ap (λ (gs : List PooledState). length gs) c.reserve.ensures.items, c.reserve-2.ensures.capacity);
    }

pub invariant_of-self-in_err-reserve-3 : goal.invariant_of-self-in_err-reserve-3
invariant_of-self-in_err-reserve-3 g c =
    let kept = c.self.invariant.kept in
    record {
      kept = AreKept-same c.self.inside.row.items (vec_capacity c.self.inside.row) (table.get c.self.inside.places.entries) (c.self.inside.places.room) c.self.inside.paged c.self.inside.room kept
          c.reserve.new.self.items c.reserve.ensures.items (table.get c.reserve-3.new.self.entries) (λ number. ap (λ (es : table.FinMap nat_cmp ℕ). table.get es number) c.reserve-3.ensures.entries) c.make_room.new.paged c.make_room.ensures.same
          (vec_capacity c.reserve.new.self) (c.reserve-3.new.self.room) c.self.inside.room
          (omega (arith, kept.in_row, c.reserve.ensures.capacity)) (omega (arith, kept.in_table, c.reserve-3.ensures.room))
          (omega (arith, kept.in_heap, c.make_room.ensures.capacity)) (omega (arith, kept.all_in_heap, c.make_room.ensures.capacity));
      few = omega (arith, ap (λ (ns : List ℕ). length ns) c.make_room.ensures.same, c.reserve.ensures.len, c.reserve.new.self.ok.0, c.self.inside.row.ok.0, c.self.invariant.few);
      known = rw (c.reserve.ensures.items, c.reserve-2.ensures.items) c.self.invariant.known;
      bytes = omega (arith, c.self.invariant.bytes, ap (λ (gs : List PooledState). length gs) c.reserve.ensures.items, ap (λ (ns : List ℕ). length ns) c.reserve-2.ensures.items);
      in_bytes = omega (arith, c.self.invariant.in_bytes, ap (λ (gs : List PooledState). length gs) c.reserve.ensures.items, c.reserve-2.ensures.capacity);
    }

pub invariant_of-self-2 : goal.invariant_of-self-2
invariant_of-self-2 g c =
    let kept = c.self.invariant.kept in
    let many = ap (λ (ns : List ℕ). length ns) c.make_room.ensures.same in
    record {
      kept = AreKept-same c.self.inside.row.items (vec_capacity c.self.inside.row) (table.get c.self.inside.places.entries) (c.self.inside.places.room) c.self.inside.paged c.self.inside.room kept
          c.reserve.new.self.items c.reserve.ensures.items (table.get c.reserve-3.new.self.entries) (λ number. ap (λ (es : table.FinMap nat_cmp ℕ). table.get es number) c.reserve-3.ensures.entries) c.make_room.new.paged c.make_room.ensures.same
          (vec_capacity c.reserve.new.self) (c.reserve-3.new.self.room) c.max-self-inside.result
          (omega (arith, kept.in_row, c.in_ok-reserve.ensures.ok, c.reserve.ensures.capacity, c.reserve.ensures.len, c.reserve.new.self.ok.0, c.self.inside.row.ok.0, c.max-self-inside.ensures))
          (omega (arith, kept.in_table, c.reserve-3.ensures.room, c.in_ok-reserve-3.ensures.ok, c.max-self-inside.ensures))
          (omega (arith, many, kept.in_heap, c.in_ok-make_room.ensures.ranks, c.make_room.ensures.capacity, c.max-self-inside.ensures))
          (omega (arith, kept.all_in_heap, c.in_ok-make_room.ensures.groups, c.len.ensures, c.self.inside.row.ok.0, c.make_room.ensures.capacity, c.max-self-inside.ensures));
      few = omega (arith, many, c.reserve.ensures.len, c.reserve.new.self.ok.0, c.self.inside.row.ok.0, c.self.invariant.few);
      known = rw (c.reserve.ensures.items, c.reserve-2.ensures.items) c.self.invariant.known;
      bytes = omega (arith, c.self.invariant.bytes, ap (λ (gs : List PooledState). length gs) c.reserve.ensures.items, ap (λ (ns : List ℕ). length ns) c.reserve-2.ensures.items);
      in_bytes = omega (
        arith,
        c.self.invariant.in_bytes,
        c.self.invariant.bytes,
        ap (λ (gs : List PooledState). length gs) c.reserve.ensures.items,
        c.in_ok-reserve-2.ensures.ok,
        c.reserve-2.ensures.capacity,
        c.reserve-2.ensures.len,
        c.reserve-2.new.self.ok.0,
        c.self.inside.least.ok.0,
        ap (λ (ns : List ℕ). length ns) c.reserve-2.ensures.items,
        c.max-self-inside.ensures,
      );
    }
