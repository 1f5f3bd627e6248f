use Rattle.std.proofs.Common.{◌∙◌, arith, get_or, refl}
use Rattle.lane_kernels.proofs.Rows.{column_bit}
use Rattle.lane_kernels.proofs.by_slots.fill_slot.Goals as goal

pub returns-then-slot-lt64-clause-bits : goal.returns-then-slot-lt64-clause-bits
returns-then-slot-lt64-clause-bits c = λ j low.
    let a = c.args in
    c.fill_bits.ensures.bits j low ∙ column_bit a.p.now a.q.now a.r.now a.s.now j a.slot 0 (get_or a.p.now j 0) (omega arith) refl

pub returns-then-slot-lt128-clause-bits : goal.returns-then-slot-lt128-clause-bits
returns-then-slot-lt128-clause-bits c = λ j low.
    let a = c.args in
    c.fill_bits-then-slot-lt128.ensures.bits j (omega (arith, low)) ∙ column_bit a.p.now a.q.now a.r.now a.s.now j a.slot 1 (get_or a.q.now j 0) (omega arith) refl

pub returns-then-slot-lt192-clause-bits : goal.returns-then-slot-lt192-clause-bits
returns-then-slot-lt192-clause-bits c = λ j low.
    let a = c.args in
    c.fill_bits-then-slot-lt192.ensures.bits j (omega (arith, low)) ∙ column_bit a.p.now a.q.now a.r.now a.s.now j a.slot 2 (get_or a.r.now j 0) (omega arith) refl

pub returns-clause-bits : goal.returns-clause-bits
returns-clause-bits c = λ j low.
    let a = c.args in
    c.fill_bits-2.ensures.bits j (omega (arith, low)) ∙ column_bit a.p.now a.q.now a.r.now a.s.now j a.slot 3 (get_or a.s.now j 0) (omega arith) refl
