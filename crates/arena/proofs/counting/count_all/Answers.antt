use Rattle.std.proofs.Common.{◌≡◌, ◌<◌, ◌∙◌, inl, inr, ap, sym, refl, rules, arith, length, get_or, ◌++◌, ◌∷◌, []}
use Rattle.std.proofs.Math.Seq.{get_or-append_seam}
use Rattle.std.proofs.lemmas.Bool.{cases_eq}
use Rattle.std.proofs.lemmas.List.{get_or_append_left}
use Rattle.arena.proofs.Linking.{AreCounted-same, AreLinked-same, AreSameSeats-more, AreSameSeats-refl}
use Rattle.arena.proofs.counting.count_all.Goals as goal

pub count_shard-requires-clause-linked : goal.count_shard-requires-clause-linked
count_shard-requires-clause-linked c = AreLinked-same c.args.seats.now c.loop-shard.seats c.loop-shard.invariant.same c.requires.linked

pub returns-in_err-row-clause-same : goal.returns-in_err-row-clause-same
returns-in_err-row-clause-same c = AreSameSeats-more _ _ _ c.loop-shard.invariant.same c.count_shard.ensures.same

pub returns-in_err-row-clause-linked : goal.returns-in_err-row-clause-linked
returns-in_err-row-clause-linked c = AreLinked-same _ _ (AreSameSeats-more _ _ _ c.loop-shard.invariant.same c.count_shard.ensures.same) c.requires.linked

pub returns-clause-linked : goal.returns-clause-linked
returns-clause-linked c = AreLinked-same _ _ c.loop-shard.invariant.same c.requires.linked

pub loop-shard-preserved : goal.loop-shard-preserved
loop-shard-preserved c =
    let inv = c.loop-shard.invariant in
    let a = c.args.seats.now in
    let b = c.loop-shard.seats in
    let e = c.count_shard.new.seats in
    let pushed = c.push_reserved.ensures.items in
    let n = c.loop-shard.shard in
    let rows = c.loop-shard.counts.items in
    let long : length rows ≡ n = omega (arith, inv.len, c.loop-shard.counts.ok.0) in
    record {
      len = search rules;
      room = search rules;
      wide = search rules;
      same = AreSameSeats-more a b e inv.same c.count_shard.ensures.same;
      counted = λ s d h. rw pushed (elim (cases_eq s n) [
        | inl here ↦
            let at : get_or (rows ++ c.in_ok-row.row ∷ []) s d ≡ c.in_ok-row.row = ap (λ k. get_or (rows ++ c.in_ok-row.row ∷ []) k d) (here ∙ sym long)
            ∙ get_or-append_seam rows c.in_ok-row.row [] d in
            rw (at, here) (AreCounted-same a b e e n c.in_ok-row.row.items inv.same refl c.in_ok-row.ensures.counted)
        | inr other ↦
            let below : s < n = omega arith in
            let at : get_or (rows ++ c.in_ok-row.row ∷ []) s d ≡ get_or rows s d = get_or_append_left rows (c.in_ok-row.row ∷ []) d s (omega arith) in
            rw at (AreCounted-same a a b e s (get_or rows s d).items (AreSameSeats-refl a) (c.count_shard.ensures.others s other) (inv.counted s d below))
      ]);
    }
