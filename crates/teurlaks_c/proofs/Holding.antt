-- A seat that keeps its shard from now on, or no more.
use mathlib.Core.Logic.{inl, inr}
use Rattle.std.proofs.Common.{◌≡◌, refl, subst, sym}
use Rattle.std.specs.Prelude.{Some}
use Rattle.teurlaks_c.specs.declared.share.Share.{Share}
use Rattle.teurlaks_c.specs.declared.share.Share.TheVariants.{Seat, Session}
use Rattle.teurlaks_c.specs.declared.share.SharedSeat.{SharedSeat}
use Rattle.teurlaks_c.specs.declared.share.SharedSession.{SharedSession}
use Rattle.teurlaks_c.specs.SeatCalls.{GivesShard, HoldsShard}
use Rattle.teurlaks_c.specs.Status.{busy, done}

pub HoldsShard-begun : (share : Share) (before : SharedSeat) (after : SharedSession) → share ≡ Seat before
    → after.session.arena ≡ before.arena → after.session.seat ≡ before.seat
    → HoldsShard (Some share) done (Some (Session after))
HoldsShard-begun share before after is arena seat =
    subst (λ share. HoldsShard (Some share) done (Some (Session after))) (sym is) (inr (inl (refl, (after, refl, arena, seat))))

pub HoldsShard-busy : (share : Share) (before after : SharedSeat) → share ≡ Seat before → after.arena ≡ before.arena → after.seat ≡ before.seat
    → HoldsShard (Some share) busy (Some (Seat after))
HoldsShard-busy share before after is arena seat =
    subst (λ share. HoldsShard (Some share) busy (Some (Seat after))) (sym is) (inr (inr (inl (refl, (after, refl, arena, seat)))))

pub GivesShard-given : (share : Share) (before : SharedSession) (after : SharedSeat) → share ≡ Session before
    → after.arena ≡ before.session.arena → after.seat ≡ before.session.seat
    → GivesShard (Some share) done (Some (Seat after))
GivesShard-given share before after is arena seat =
    subst (λ share. GivesShard (Some share) done (Some (Seat after))) (sym is) ((after, refl, arena, seat), inr (λ none. none, refl))
