use Rattle.std.proofs.Common.{◌≡◌, ◌∙◌, ◌++◌, ℕ, zero, suc, List, Some, ap, arith, inl, inr, length, replicate, slice_get, subst, sym, take, ◌≤◌}
use Rattle.std.specs.Bool.{if◌then◌else◌}
use Rattle.std.specs.Prelude.{Err, Ok, Result, is_ok}
use Rattle.std.proofs.lemmas.List.{take_all}
use Rattle.groups.proofs.Lists.{in_either, same_some}
use Rattle.shard.specs.Group.{GroupState}
use Rattle.shard.specs.Least.{IsLeast, KnowsLeast}
use Rattle.shard.proofs.LeastLive.{IsLeast-zero}
use Rattle.shard.proofs.least_live.reserve_bytes.Goals as goal

zero_at : (count at n : ℕ) → slice_get (replicate count 0) at ≡ Some n → 0 ≡ n
zero_at zero at n there = absurd cc
zero_at (suc count) zero n there = same_some there
zero_at (suc count) (suc at) n there = zero_at count at n there

-- bytes that come are 0
resized : {E : Type 0} (done : Result (Unit {0}) E) (bytes after : List ℕ) (n count : ℕ) → length bytes ≤ n
    → after ≡ (if is_ok done then take n bytes ++ replicate count 0 else bytes) → (groups : List GroupState) → KnowsLeast groups bytes → KnowsLeast groups after
resized (Ok u) bytes after n count long is groups known at least group byte there =
    elim (in_either bytes (replicate count 0) at least (ap (λ xs. slice_get xs at) (sym (is ∙ ap (λ xs. xs ++ replicate count 0) (take_all n bytes long))) ∙ byte)) [
      | inl old ↦ known at least group old there
      | inr later ↦ subst (λ k. IsLeast k group) (zero_at count later.0 least later.1) (IsLeast-zero group)
    ]
resized (Err e) bytes after n count long is groups known at least group byte there = known at least group (ap (λ xs. slice_get xs at) (sym is) ∙ byte) there

pub returns-clause-known : goal.returns-clause-known
returns-clause-known g c known had =
    resized c.resize.result c.args.least.now.items c.resize.new.self.items c.in-Some.count _
    (omega (arith, c.if-count-len.false, c.len-2.ensures, c.args.least.now.ok.0)) c.resize.ensures.items known had
