use Rattle.std.proofs.Common.{◌≡◌, ◌<◌, ℕ, Some, slice_get}
use Rattle.std.specs.Prelude.{vec_len}
use Rattle.shard.proofs.least_live.clear_bytes.Given as goal

abbrev pub invariant-loop-index : goal.invariant-loop-index
invariant-loop-index l = (vec_len l.least ≡ vec_len l.fn.least) × ((at byte : ℕ) → at < l.index → slice_get l.least.items at ≡ Some byte → byte ≡ 0)
