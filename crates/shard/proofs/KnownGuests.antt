-- What a shard's directory says of its guests after a change that a shard alone makes.
use Rattle.std.proofs.Common.{suc, ◌≡◌, ℕ, ◌≤◌, List, [], ◌++◌, length, drop, insert, set, map as map_list, Some, slice_get, ◌∙◌, ap, sym, refl, subst, rules}
use Rattle.std.specs.Prelude.{count_by, ◌+◌}
use Rattle.std.proofs.Math.Seq.{drop-append_seam}
use Rattle.span.specs.Ids.{same_span}
use Rattle.span.specs.State.{SpanState}
use Rattle.span.specs.declared.id.SpanId.{SpanId}
use Rattle.groups.specs.Group.{IsElsewhere}
use Rattle.groups.specs.Directory.{Entries, KnowsGuests, entered}
use Rattle.shard.specs.Group.{GroupState}
use Rattle.page.specs.Words.{Words}
use Rattle.shard.specs.Moves.{with_guests}
use Rattle.groups.proofs.FoundGuests.{IsDirectory-joined}
use Rattle.groups.proofs.GuestDirectory.{IsDirectory-insert}
use Rattle.groups.proofs.KnownGuests.{guests_in, head_in}
use Rattle.groups.proofs.Standing.{head_id}
use Rattle.shard.proofs.AlikeGroups.{alike, bare}

-- the guests from the place on are those that came
pub entered-behind : (entries : Entries) (group : GroupState) (more : List SpanState) (head : SpanId) (first : ℕ) (guests : List SpanState)
    → guests ≡ group.guests ++ more → first ≡ length group.guests → group.head.id ≡ head
    → entered entries (drop first guests) head (first + 1) ≡ entered entries more group.head.id (suc (length group.guests))
entered-behind entries group more head first guests all is head_is = search (rules, drop-append_seam)

module _ (groups : List GroupState) (entries : Entries) (knows : KnowsGuests groups entries) where
  -- a change of pages and flags
  pub KnowsGuests-alike : (after : List GroupState) → map_list bare after ≡ map_list bare groups → KnowsGuests after entries
  KnowsGuests-alike after same = record {
    known = λ index place group guest here there.
        let was = (alike groups after same).stood index group here in
        knows.known index place was.0 guest was.1 (ap (λ (g : GroupState). slice_get g.guests place) (sym was.2) ∙ there)
        ∙ ap (λ (g : GroupState). Some (record { head = g.head.id; place = suc place })) (sym was.2);
    only = λ number at found.
        let was = knows.only number at found in
        let now = (alike groups after same).stands was.index was.group was.group_is in
        record {
          index = was.index;
          place = was.place;
          group = now.0;
          guest = was.guest;
          group_is = now.1;
          guest_is = ap (λ (g : GroupState). slice_get g.guests was.place) now.2 ∙ was.guest_is;
          rank_is = was.rank_is;
          head_is = was.head_is ∙ ap (λ (g : GroupState). g.head.id) (sym now.2);
          place_is = was.place_is;
        };
  }

  -- a group with no guest that comes
  pub KnowsGuests-alone : (index : ℕ) (group : GroupState) → index ≤ length groups → group.guests ≡ [] → KnowsGuests (insert groups index group) entries
  KnowsGuests-alone index group within none =
      subst (λ guests. KnowsGuests (insert groups index group) (entered entries guests group.head.id 1)) none
      (IsDirectory-insert head_id guests_in groups entries knows index group within
      (λ low high a b less at_low at_high same. nobody low a (ap (λ guests. slice_get guests low) (sym none) ∙ at_low))
      (λ place guest there. absurd (nobody place guest (ap (λ guests. slice_get guests place) (sym none) ∙ there))))
    where
      nobody : (place : ℕ) (guest : SpanState) → slice_get [] place ≡ Some guest → ⊥
      nobody place guest there = cc

  -- spans that become the last guests of a group
  pub KnowsGuests-guests : (index : ℕ) (group : GroupState) (more : List SpanState) (words : Words) → slice_get groups index ≡ Some group
      → ((id : SpanId) → count_by (λ (s : SpanState). same_span s.id id) more ≤ 1)
      → ((place : ℕ) (span : SpanState) → slice_get more place ≡ Some span → IsElsewhere groups span.id)
      → KnowsGuests (set groups index (with_guests group more words)) (entered entries more group.head.id (suc (length group.guests)))
  KnowsGuests-guests index group more words here = IsDirectory-joined head_in guests_in groups entries knows index group (with_guests group more words) more here refl refl
