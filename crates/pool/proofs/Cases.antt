-- What follows from what is said where a test holds, or where it fails.
use Rattle.std.proofs.Common.{Bool, true, false}
use Rattle.std.specs.Bool.{OnFalse, OnTrue}

pub on_true : {X Y : Type 0} (b : Bool) → (X → Y) → OnTrue b X → OnTrue b Y
on_true true f x = f x
on_true false f x = x

pub on_false : {X Y : Type 0} (b : Bool) → (X → Y) → OnFalse b X → OnFalse b Y
on_false true f x = x
on_false false f x = f x
