use Rattle.std.proofs.Common.{◌≡◌, ◌∙◌, ◌*◌, arith, length, subst, take}
use Rattle.lane_kernels.specs.Rows.{AreBitRows, padded, width_of}
use Rattle.lane_kernels.proofs.Rows.{bit_rows-all, bit_rows-next}
use Rattle.lane_kernels.proofs.by_slots.fill_slots.Goals as goal

pub loop-k-preserved : goal.loop-k-preserved
loop-k-preserved c =
    let a = c.args in (
      c.fill_slot_at.ensures.len ∙ c.loop-k.invariant.0,
      bit_rows-next a.p.now a.q.now a.r.now a.s.now a.first c.loop-k.k c.loop-k.rows c.fill_slot_at.new.rows c.loop-k.invariant.1
          c.fill_slot_at.ensures.earlier c.fill_slot_at.ensures.wide c.fill_slot_at.ensures.bits,
    )

pub returns-clause-rows : goal.returns-clause-rows
returns-clause-rows c =
    let a = c.args in
    let W = padded (width_of (length a.p.now)) in
    let end : c.loop-k.k ≡ a.count = omega (arith, c.loop-k-test.false, c.loop-k.auto.k-end) in
    bit_rows-all a.p.now a.q.now a.r.now a.s.now a.first a.count c.loop-k.rows
    (subst (λ n. AreBitRows a.p.now a.q.now a.r.now a.s.now a.first n (take (W * n) c.loop-k.rows)) end c.loop-k.invariant.1) (c.loop-k.invariant.0 ∙ c.requires.rows)
