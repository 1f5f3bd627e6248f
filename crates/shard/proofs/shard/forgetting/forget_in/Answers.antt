use Rattle.std.proofs.Common.{◌≡◌, ◌∙◌, List, ap, arith, drop, refl, slice_get, subst, sym}
use Rattle.span.specs.State.{SpanState}
use Rattle.groups.specs.Dead.{dead_among, is_live, live_among}
use Rattle.groups.specs.Directory.{DirectoryState, Entries, entered, struck}
use Rattle.groups.specs.Spans.{SpansState}
use Rattle.shard.proofs.Sparse.{before-filter}
use Rattle.shard.specs.Group.{GroupState}
use Rattle.shard.specs.Guests.{GuestsState}
use Rattle.shard.specs.Heads.{IsNoted, KnowsNoHeads}
use Rattle.shard.proofs.shard.forgetting.forget_in.Goals as goal

pub returns-clause-noted : goal.returns-clause-noted
returns-clause-noted c groups knows =
    let entries = c.args.guests.now.directory.entries in
    let dead = dead_among c.args.group.now.guests in
    let guests : c.guests-2.result.now ≡ c.args.group.now.guests = c.guests-2.ensures ∙ ap (λ (s : SpansState). s.guests) c.spans-2.ensures in
    let left : c.strike_dead.new.self.directory.entries ≡ struck entries dead = ap (λ (d : DirectoryState). d.entries) c.strike_dead.ensures.directory
    ∙ ap (λ (spans : List SpanState). struck entries (dead_among spans)) (c.guests.ensures ∙ ap (λ (s : SpansState). s.guests) c.spans.ensures) in
    let live : c.guests-3.result.now ≡ c.guests-4.result.now = c.guests-3.ensures ∙ ap (λ (s : SpansState). s.guests) c.spans-3.ensures
    ∙ sym (c.guests-4.ensures ∙ ap (λ (s : SpansState). s.guests) c.spans-4.ensures) in
    let heads : c.head_id.result ≡ c.head_id-2.result = c.head_id.ensures ∙ sym c.head_id-2.ensures in
    let after : c.move_all.new.self.directory.entries ≡ entered (struck entries dead) c.guests-4.result.now c.head_id-2.result 1 = ap (λ (late : GuestsState). late.directory.entries) c.move_all.ensures
    ∙ rw (left, live, heads) refl in
    let known = subst (λ (spans : List SpanState). KnowsNoHeads c.args.number groups (struck entries (dead_among spans)) c.strike_dead_guests.new.self) guests
    (c.strike_dead_guests.ensures.known groups entries knows) in
    subst (λ (es : Entries). KnowsNoHeads c.args.number groups es c.note_guests.new.self) (sym after)
    (c.note_guests.ensures.known groups (struck entries dead) known)

pub returns-clause-heads : goal.returns-clause-heads
returns-clause-heads c groups knows apart =
    let live : c.guests-4.result.now ≡ live_among c.args.group.now.guests = c.guests-4.ensures ∙ ap (λ (s : SpansState). s.guests) c.spans-4.ensures
    ∙ ap (λ (g : GroupState). g.guests) c.forget_guests.ensures in
    let guests : c.guests-2.result.now ≡ c.args.group.now.guests = c.guests-2.ensures ∙ ap (λ (s : SpansState). s.guests) c.spans-2.ensures in
    c.note_guests.ensures.heads groups
    (c.strike_dead_guests.ensures.heads groups knows (λ place guest there from. apart place guest (ap (λ (spans : List SpanState). slice_get spans place) (sym guests) ∙ there)))
    (λ place guest there behind.
    let was = before-filter is_live c.args.group.now.guests place guest (ap (λ (spans : List SpanState). slice_get spans place) (sym live) ∙ there) in
    apart was.0 guest was.1)

pub note_guests-requires-clause-room : goal.note_guests-requires-clause-room
note_guests-requires-clause-room c place guest there behind own =
    let live : c.guests-4.result.now ≡ live_among c.args.group.now.guests = c.guests-4.ensures ∙ ap (λ (s : SpansState). s.guests) c.spans-4.ensures
    ∙ ap (λ (g : GroupState). g.guests) c.forget_guests.ensures in
    let low = c.requires.fit place guest (ap (λ (spans : List SpanState). slice_get spans place) (sym live) ∙ there) behind
    (subst (λ b. IsNoted c.args.number b guest.id) c.strike_dead_guests.ensures.base own) in
    omega (arith, low, c.strike_dead_guests.ensures.end)
