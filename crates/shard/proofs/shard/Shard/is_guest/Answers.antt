use Rattle.std.proofs.Common.{◌≡◌, ◌∙◌, Some, slice_get, arith, refl, subst, sym}
use Rattle.std.proofs.lemmas.Option.{slice_get_read}
use Rattle.span.proofs.Ids.{same_id_from_test}
use Rattle.shard.specs.State.{ShardState}
use Rattle.groups.proofs.KnownGuests.{Somewhere}
use Rattle.shard.proofs.shard.Shard.is_guest.Goals as goal

pub returns : goal.returns
returns g c is =
    let here : slice_get c.self.inside.groups.items c.args.index ≡ Some c.index-group.result.now =
    slice_get_read c.self.inside.groups.items _ c.args.index c.index-group.result.now refl (omega (arith, c.if-index-len.false, c.len.ensures)) c.index-group.ensures in
    subst (λ (s : ShardState). Somewhere s.groups c.args.guest c.args.index c.args.place) c.self.view_is (
      c.index-group.result.now,
      c.span_at.result.now,
      record {
        group_is = here;
        span_is = c.span_at.ensures;
        id_is = sym c.id.ensures ∙ same_id_from_test c.id.result c.args.guest (sym c.eq.ensures ∙ is);
      },
    )
