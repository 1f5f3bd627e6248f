-- The objects that lines put and set: each counts up from its base.
use Rattle.std.specs.Prelude.{ℕ, ◌+◌, ◌-◌, List}
use Rattle.std.specs.List.{range_with_len}
use Rattle.span.specs.Classes.{width_of}
use Rattle.span.specs.declared.class.Class.{Class}

-- the words of the object of that class and base: the base, and each further one is one more than
-- the one before it
abbrev pub counted_from : Class → ℕ → List ℕ
counted_from class base = range_with_len base (width_of class)

-- the last of them
abbrev pub last_word : Class → ℕ → ℕ
last_word class base = base + width_of class - 1
