use Rattle.std.proofs.Common.{◌<◌, length, Bool, true, false, sym, refl, subst, suc, set, rules}
use Rattle.std.specs.Bool.{OnTrue}
use Rattle.std.proofs.lemmas.Option.{slice_get_read}
use Rattle.groups.specs.Spans.{SpansState}
use Rattle.groups.proofs.Lists.{same_some}
use Rattle.groups.proofs.SetGroups.{IsKept-set}
use Rattle.groups.proofs.spans.Spans.set_in_guest.Goals as goal

map_true : (b : Bool) {P Q : Type 0} → (P → Q) → OnTrue b P → OnTrue b Q
map_true true f p = f p
map_true false f p = tt

pub invariant_of-self-2 : goal.invariant_of-self-2
invariant_of-self-2 g c =
    let inside = c.self.inside in
    let done = c.in_ok-done.ensures in
    let here = slice_get_read inside.guests.items _ c.args.at c.index_mut.result.now refl
    (subst (λ (g : SpansState). c.args.at < length g.guests) (sym c.self.view_is) c.requires) c.index_mut.ensures.value in
    IsKept-set (record { head = inside.head; guests = inside.guests.items }) inside.occupied c.self.invariant c.index_mut.result.now
    c.args.slot c.args.generation c.args.words.now (suc c.args.at) here c.in_ok-done.done c.set_held.new.self done.found done.set
    done.unknown

pub returns-clause-found : goal.returns-clause-found
returns-clause-found g c span at = search (rules, slice_get_read, same_some)

pub returns-clause-set : goal.returns-clause-set
returns-clause-set g c span at = search (rules, slice_get_read, same_some, map_true)
