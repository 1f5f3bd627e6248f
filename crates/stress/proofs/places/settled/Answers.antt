use Rattle.stress.proofs.places.settled.Goals as goal

pub spread-requires : goal.spread-requires
spread-requires g c = rw c.as_mut_slice-all.ensures.value c.in-Ok.ensures.seats
