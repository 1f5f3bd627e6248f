use Rattle.std.proofs.Common.{◌≡◌, Some, ap, arith, inl, inr, length, refl, slice_get, subst, sym}
use Rattle.std.proofs.lemmas.Bool.{cases_lt}
use Rattle.std.proofs.lemmas.Option.{slice_get_read}
use Rattle.groups.specs.Least.{least_of}
use Rattle.shard.specs.State.{ShardState}
use Rattle.shard.proofs.shard.Shard.least_live.Goals as goal

pub returns : goal.returns
returns g c group here =
    let there = subst (λ (s : ShardState). slice_get s.groups c.args.index ≡ Some group) (sym c.self.view_is) here in
    let many = ap (λ (s : ShardState). length s.groups) c.self.view_is in
    let byte : slice_get c.self.inside.least.items c.args.index ≡ Some c.index.result.now =
    slice_get_read c.self.inside.least.items _ c.args.index c.index.result.now refl
    (omega (arith, c.requires, many, c.self.invariant.room_for_bytes, c.self.inside.least.ok.0)) c.index.ensures in
    elim (cases_lt 0 c.index.result.now) [
      | inl some ↦ omega (arith, c.least_of.ensures, (c.self.invariant.least_known c.args.index c.index.result.now group byte there some).1)
      | inr none ↦ let zero_is : c.index.result.now ≡ 0 = omega (arith, none) in omega (arith, c.least_of.ensures, ap least_of zero_is)
    ]
