use Rattle.std.proofs.Common.{◌≡◌, ◌≤◌, Bool, cond, rules}
use Rattle.std.specs.Int.{from_bool}
use Rattle.certificate.proofs.Places.{count-more}
use Rattle.certificate.proofs.place_set.PlaceSet.count_below.Goals as goal

byte : (b : Bool) → from_bool b ≡ cond b 1 0
byte b = search rules

few : (b : Bool) → cond b 1 0 ≤ 1
few b = search rules

pub loop-place-preserved : goal.loop-place-preserved
loop-place-preserved c = search (rules, byte, count-more, few)
