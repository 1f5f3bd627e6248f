use Rattle.std.proofs.Common.{List, ap, refl, subst, sym}
use Rattle.groups.specs.Group.{HasNoHead, IsElsewhere}
use Rattle.groups.proofs.KnownGuests.{IsElsewhere-guest, Somewhere, Somewhere-guest}
use Rattle.shard.specs.Group.{GroupState}
use Rattle.shard.specs.State.{ShardState}
use Rattle.shard.proofs.HeadsHere.{IsHeadAt}
use Rattle.shard.proofs.shard.Shard.search.Goals as goal

pub returns-in-Some-find_head-clause-here : goal.returns-in-Some-find_head-clause-here
returns-in-Some-find_head-clause-here g c low =
    let at : IsHeadAt c.self.inside.groups.items c.in-Some.at.head c.in-Some-find_head.index = subst
    (λ (s : ShardState). IsHeadAt s.groups c.in-Some.at.head c.in-Some-find_head.index) (sym c.self.view_is) c.in-Some-find_head.ensures.head in
    subst (λ (s : ShardState). Somewhere s.groups c.args.id c.in-Some-find_head.index c.in-Some.at.place) c.self.view_is
    (Somewhere-guest c.self.inside.groups.items c.self.inside.guests.directory.entries c.self.invariant.guests_known c.args.id c.place_of.result c.place_of.ensures
    c.in-Some.at (rw c.in-Some.is refl) c.self.invariant.sound.ascending c.in-Some-find_head.index at.0 at.1)

pub returns-in-None-clause-elsewhere : goal.returns-in-None-clause-elsewhere
returns-in-None-clause-elsewhere g c past =
    subst (λ (s : ShardState). IsElsewhere s.groups c.args.id) c.self.view_is
    (IsElsewhere-guest c.self.inside.groups.items c.self.inside.guests.directory.entries c.self.invariant.guests_known c.args.id c.place_of.result c.place_of.ensures
    c.in-Some.at (rw c.in-Some.is refl)
    (subst (λ (s : ShardState). HasNoHead s.groups c.in-Some.at.head) (sym c.self.view_is) c.in-None.ensures.head))

-- it is no guest

pub returns-in-Some-head_index-clause-here : goal.returns-in-Some-head_index-clause-here
returns-in-Some-head_index-clause-here g c low =
    let at : IsHeadAt c.args.self.now.groups c.args.id c.in-Some-head_index.index = subst
    (λ (groups : List GroupState). IsHeadAt groups c.args.id c.in-Some-head_index.index)
    (ap (λ (s : ShardState). s.groups) c.self.view_is) c.in-Some-head_index.ensures.head in
    (at.0, at.0.head, record { group_is = at.1.here; span_is = refl; id_is = at.1.head_is })

pub returns-in-None-head_index-clause-elsewhere : goal.returns-in-None-head_index-clause-elsewhere
returns-in-None-head_index-clause-elsewhere g c past =
    subst (λ (s : ShardState). IsElsewhere s.groups c.args.id) c.self.view_is
    (IsElsewhere-guest c.self.inside.groups.items c.self.inside.guests.directory.entries c.self.invariant.guests_known c.args.id c.place_of.result c.place_of.ensures
    (record { head = c.args.id; place = 0 }) (rw c.in_default.is refl)
    c.in-None-head_index.ensures.head)
