use Rattle.std.proofs.Common.{ℕ, ◌≡◌, ◌==◌, ◌&&◌, ◌||◌, ◌++◌, ◌∙◌, ap, arith, drop, length, sym, take}
use Rattle.std.proofs.Math.Seq.{take-append_seam}
use Rattle.bitmap.specs.Slots.{has_bit}
use Rattle.lane_kernels.specs.Rows.{row_at}
use Rattle.span.specs.Classes.{number_of}
use Rattle.span.specs.declared.entry.Entry.{Entry}
use Rattle.mesh_graph.proofs.OfClass.{HaveFirst-all, HaveFirst-more, HaveFirst-none}
use Rattle.mesh_graph.proofs.by_class.mask_words.Goals as goal

pub loop-j-init : goal.loop-j-init
loop-j-init c =
    record { size = omega (arith, c.in_ok-words.ensures.len); bits = rw (c.in_ok-words.ensures.items_if_clones_equal (λ y e. e)) (HaveFirst-none c.args.width _ c.args.owned.now) }

pub loop-j-preserved : goal.loop-j-preserved
loop-j-preserved c =
    let words = c.set_bit.new.words in
    let before = c.loop-j.words.items in
    let y = c.index-owned-j.result in
    let rest = drop (length words) before in
    let long : c.loop-j.words.len ≡ length words = omega (arith, c.set_bit.ensures.len, c.deref_mut.ensures.len) in
    let back : take c.loop-j.words.len (words ++ rest) ≡ words = ap (λ n. take n (words ++ rest)) long ∙ take-append_seam words rest in
    let number : c.number.result ≡ number_of y.class = c.number.ensures.number ∙ ap (λ (z : Entry). number_of z.class) (sym c.index-owned-j.is) in
    let lent = c.deref_mut.ensures.value in
    let bits : (m q : ℕ) → has_bit (row_at c.args.width words m) q ≡ ((m == number_of y.class && q == c.loop-j.j) || has_bit (row_at c.args.width before m) q) =
    λ m q. c.set_bit.ensures.bits m q ∙ (λ t. (m == number t && q == c.loop-j.j) || has_bit (row_at c.args.width (lent t) m) q) in
    rw back (record {
      size = c.set_bit.ensures.len ∙ ap length lent ∙ c.loop-j.invariant.size;
      bits = HaveFirst-more c.args.width before words c.args.owned.now c.loop-j.j y c.loop-j-test.true c.index-owned-j.is c.loop-j.invariant.bits bits;
    })

pub returns-clause-bits : goal.returns-clause-bits
returns-clause-bits c = HaveFirst-all c.args.width c.loop-j.words.items c.args.owned.now c.loop-j.j c.loop-j-test.false c.loop-j.invariant.bits
