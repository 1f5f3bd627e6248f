use Rattle.certificate.proofs.Places.{has_bit-none}
use Rattle.certificate.proofs.place_set.PlaceSet.empty.Goals as goal

pub returns : goal.returns
returns c = λ place. has_bit-none c.zeros.result 64 place c.zeros.ensures
