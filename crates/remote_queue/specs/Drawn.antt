-- Keys that a taker's end has drawn from its ring and not taken yet.
use Rattle.std.specs.Prelude.{ℕ, ◌-◌, List, drop, length, take}

-- all but the last n
abbrev pub without_last : {T : Type 0} → ℕ → List T → List T
without_last n items = take (length items - n) items

-- those from one place of a block to another
abbrev pub drawn_keys : {T : Type 0} → ℕ → ℕ → List T → List T
drawn_keys next end block = take (end - next) (drop next block)
