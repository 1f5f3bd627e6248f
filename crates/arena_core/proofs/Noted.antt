-- What the core keeps of the whereabouts where a shard gets or loses spans.
use Rattle.std.proofs.Common.{◌≡◌, ◌≢◌, ◌⊎◌, ◌+◌, ◌<◌, ◌≤◌, ◌++◌, ◌∷◌, [], ℕ, zero, suc, Bool, true, false, List, Option, None, Some, inl, inr, refl, sym, ap, subst, ◌∙◌, arith, eqb, is_some, length, map, set, slice_get, count_by, find}
use Rattle.std.proofs.lemmas.Bool.{cases_eq, cases_lt, ne_eqb}
use Rattle.std.proofs.lemmas.Option.{slice_get_within}
use Rattle.span.specs.declared.id.SpanId.{SpanId}
use Rattle.span.specs.State.{SpanState}
use Rattle.span.proofs.Ids.{same_id_from_test}
use Rattle.groups.specs.Group.{Ascend, HasNoHead, HasNoMember, IsHeadOf, IsMemberAt, spans_in, spans_of}
use Rattle.shard.specs.Group.{GroupState}
use Rattle.groups.specs.Spans.{IsSpanAt}
use Rattle.shard.specs.Moves.{IsBriefHere, with_guests, with_room}
use Rattle.groups.specs.Whole.{WholeState, spans_moved}
use Rattle.groups.specs.Shown.{span_named}
use Rattle.shard.specs.State.{ShardState}
use Rattle.groups.specs.declared.brief.Brief.{Brief}
use Rattle.shard.proofs.HeadsHere.{same_group}
use Rattle.groups.proofs.Lists.{cases-set, found_at, get-insert, get-set, same_some}
use Rattle.pool.specs.Calls.{Adopts}
use Rattle.pool.specs.State.{PoolState}
use Rattle.fold.specs.Folds.{Folds, Steps}
use Rattle.fold.specs.declared.step.Step.{Step as Outcome}
use Rattle.fold.specs.declared.step.Step.TheVariants.{Absent, Clash, Emptied, Folded}
use Rattle.fold.proofs.Sums.{sum_by-Folds_shard}
use Rattle.arena_core.specs.Made.{all_shards}
use Rattle.arena_core.specs.Moved.{Entries, HasAtMost, KnowsMoved, Notes, StandsIn, WhereaboutsState, named, taken_by, with_taken}
use Rattle.arena_core.specs.Sound.{HasSoundGroups}
use Rattle.arena_core.specs.State.{CoreState, has_span, opened_by, opened_of}
use Rattle.arena_core.proofs.Changes.{opened-somewhere}
use Rattle.marks.proofs.Flagged.{map_back, spans_in-flagged, with_flags}
use Rattle.marks.specs.Numbers.{Limits}
use Rattle.arena_core.proofs.Made.{unmade-new}
use Rattle.arena_core.proofs.Groups.{IsCall, own, same_number, sum_in-TakesIn}
use Rattle.arena_core.proofs.Lists.{find-counted, not_below}
use Rattle.marks.proofs.Lists.{slice_get-set_other, slice_get-set_same}
use Rattle.arena_core.proofs.Entries.{named-with_taken, named-with_taken_here, taken_by-abroad}
use Rattle.arena_core.proofs.Spans.{has_span-counted, is_named, named as count_named, shard_with-here, times-parts, times_in, times_in-found, times_in-le}
use Rattle.arena_core.proofs.Retired.{IsPartOf}
use Rattle.shard.specs.Sound.{IsSound as IsSoundShard}
use Rattle.arena_core.proofs.Steps.{has_span-elsewhere, has_span-here, has_span-not, owned-once}

-- the spans of a group, noted one after another

-- the entries after the spans of the head's group at these places were noted
pub record NotesBelow (old new : Entries) (groups : List GroupState) (head : SpanId) (first past number : ℕ) : Type 0 where
  pub noted : (place : ℕ) (id : SpanId) → first ≤ place → place < past → IsMemberAt groups head place id → named new id ≡ taken_by number id
  pub others : (id : SpanId) → (named new id ≡ named old id) ⊎ ((named new id ≡ taken_by number id) × (place : ℕ) × IsMemberAt groups head place id)

-- the same, with the room that is left
pub record IsNoting (old new : WhereaboutsState) (groups : List GroupState) (head : SpanId) (first past number : ℕ) : Type 0 where
  pub notes : NotesBelow old.entries new.entries groups head first past number
  pub room : old.room + first ≤ new.room + past

module _ (groups : List GroupState) (ascend : Ascend groups) (head : SpanId) where
  -- one span stands at a place
  same_member : (place : ℕ) (a b : SpanId) → IsMemberAt groups head place a → IsMemberAt groups head place b → a ≡ b
  same_member place a b (i, group, here, (span, at, is)) (j, other, there, (span_too, at_too, is_too)) =
      let one : group ≡ other = same_group groups ascend head i j group other here there in
      let same : span ≡ span_too = same_some (sym at ∙ ap (λ (g : GroupState). slice_get (spans_of g) place) one ∙ at_too) in
      sym is ∙ ap (λ (s : SpanState). s.id) same ∙ is_too

  no_member : (place : ℕ) (id : SpanId) → HasNoMember groups head place → IsMemberAt groups head place id → ⊥
  no_member place id past (index, group, here, (span, at, is)) = omega (arith, past index group here, slice_get_within (spans_of group) place span at)

  pub IsNoting-none : (old : WhereaboutsState) (first number : ℕ) → IsNoting old old groups head first first number
  IsNoting-none old first number = record {
    notes = record { noted = λ place id from below member. absurd (omega arith); others = λ id. inl refl };
    room = omega arith;
  }

  NotesBelow-taken : (old now new : Entries) (first past number : ℕ) (id : SpanId) → IsMemberAt groups head past id → new ≡ with_taken now id number
      → NotesBelow old now groups head first past number → NotesBelow old new groups head first (past + 1) number
  NotesBelow-taken old now new first past number id member is before = record {
    noted = λ place other from below its. by_order place other from below its (cases_lt place past);
    others = λ other. elim (named-with_taken now id other number) [
      | inl same ↦ elim (before.others other) [
        | inl still ↦ inl (ap (λ xs. named xs other) is ∙ same ∙ still)
        | inr noted ↦ inr (ap (λ xs. named xs other) is ∙ same ∙ noted.0, noted.1, noted.2)
      ]
      | inr here ↦ inr (ap (λ xs. named xs other) is ∙ here.0, past, subst (IsMemberAt groups head past) (sym here.1) member)
    ];
  }
    where
      by_order : (place : ℕ) (other : SpanId) → first ≤ place → place < past + 1 → IsMemberAt groups head place other → (place < past) ⊎ (past ≤ place) → named new other ≡ taken_by number other
      by_order place other from below its (inl earlier) = elim (named-with_taken now id other number) [
        | inl same ↦ ap (λ xs. named xs other) is ∙ same ∙ before.noted place other from earlier its
        | inr here ↦ ap (λ xs. named xs other) is ∙ here.0
      ]
      by_order place other from below its (inr last) =
          let at : place ≡ past = omega arith in
          let one : other ≡ id = same_member past other id (subst (λ k. IsMemberAt groups head k other) at its) member in
          ap (λ xs. named xs other) is ∙ subst (λ (i : SpanId). named (with_taken now id number) i ≡ taken_by number i) (sym one) (named-with_taken_here now id number)

  NotesBelow-past : (old now : Entries) (first past number : ℕ) → HasNoMember groups head past → NotesBelow old now groups head first past number
      → NotesBelow old now groups head first (past + 1) number
  NotesBelow-past old now first past number none before = record {
    noted = λ place other from below its. by_order place other from below its (cases_lt place past);
    others = before.others;
  }
    where
      by_order : (place : ℕ) (other : SpanId) → first ≤ place → place < past + 1 → IsMemberAt groups head place other → (place < past) ⊎ (past ≤ place) → named now other ≡ taken_by number other
      by_order place other from below its (inl earlier) = before.noted place other from earlier its
      by_order place other from below its (inr last) =
          let at : place ≡ past = omega arith in
          absurd (no_member past other none (subst (λ k. IsMemberAt groups head k other) at its))

  pub IsNoting-taken : (old now new : WhereaboutsState) (first past number : ℕ) (id : SpanId) → IsMemberAt groups head past id
      → new.entries ≡ with_taken now.entries id number → now.room ≤ new.room + 1
      → IsNoting old now groups head first past number → IsNoting old new groups head first (past + 1) number
  IsNoting-taken old now new first past number id member is room before = record {
    notes = NotesBelow-taken old.entries now.entries new.entries first past number id member is before.notes;
    room = omega (arith, room, before.room);
  }

  pub IsNoting-past : (old now : WhereaboutsState) (first past number : ℕ) → HasNoMember groups head past → IsNoting old now groups head first past number
      → IsNoting old now groups head first (past + 1) number
  IsNoting-past old now first past number none before = record {
    notes = NotesBelow-past old.entries now.entries first past number none before.notes;
    room = omega (arith, before.room);
  }

  -- while a span is left to note, there is room for it
  pub IsNoting-room : (old now : WhereaboutsState) (first past number : ℕ) (brief : Brief) → IsBriefHere groups head brief
      → HasAtMost groups head first old.room → past < brief.spans → IsNoting old now groups head first past number → 1 ≤ now.room
  IsNoting-room old now first past number brief (index, group, here, told) most below noting = omega (arith, below, most index group here, told.spans_is, noting.room)

  pub Notes-all : (old new : Entries) (first past number : ℕ) (brief : Brief) → IsBriefHere groups head brief → brief.spans ≤ past
      → NotesBelow old new groups head first past number → Notes old new groups head first number
  Notes-all old new first past number brief (index, group, here, told) all below = record {
    noted = λ place id from member. below.noted place id from (last place id member) member;
    others = below.others;
  }
    where
      last : (place : ℕ) (id : SpanId) → IsMemberAt groups head place id → place < past
      last place id (other, its, there, (span, at, is)) =
          let one : its ≡ group = same_group groups ascend head other index its group there here in
          omega (arith, told.spans_is, ap (λ (g : GroupState). length (spans_of g)) one, slice_get_within (spans_of its) place span at)

pub Notes-nowhere : (entries : Entries) (groups : List GroupState) (head : SpanId) (first number : ℕ) → HasNoHead groups head → Notes entries entries groups head first number
Notes-nowhere entries groups head first number none = record {
  noted = λ place id from member. let (index, group, here, its) = member in absurd (none index group here);
  others = λ id. inl refl;
}

-- a shard changes

module _ (shards : List ShardState) (entries : Entries) (knows : KnowsMoved shards entries) where
  -- it gets no span that it did not open
  pub KnowsMoved-set : (number : ℕ) (before after : ShardState) → slice_get shards number ≡ Some before
      → ((id : SpanId) → number ≢ id.shard → has_span id after ≡ true → has_span id before ≡ true) → KnowsMoved (set shards number after) entries
  KnowsMoved-set number before after here kept id k foreign (shard, at, has) = elim (cases-set shards number after k shard at) [
    | inl same ↦
        let was = kept id (λ e. foreign (same.0 ∙ e)) (ap (has_span id) same.1 ∙ has) in
        subst (λ n. named entries id ≡ Some n) (sym same.0) (knows id number (λ e. foreign (same.0 ∙ e)) (before, here, was))
    | inr old ↦ knows id k foreign (shard, old.1, has)
  ]

  -- each shard has spans that it had
  pub KnowsMoved-map : (change : ShardState → ShardState) → ((shard : ShardState) (id : SpanId) → has_span id (change shard) ≡ true → has_span id shard ≡ true) → KnowsMoved (map change shards) entries
  KnowsMoved-map change kept id k foreign (shard, at, has) =
      let (was, there, is) = map_back change shards k shard at in
      knows id k foreign (was, there, kept was id (ap (has_span id) is ∙ has))

pub has_span-flagged : (closed : GroupState → Bool) (shard : ShardState) (id : SpanId) → has_span id (with_flags closed shard) ≡ true → has_span id shard ≡ true
has_span-flagged closed shard id has = ap (λ spans. is_some (span_named spans id)) (sym (spans_in-flagged closed shard.groups)) ∙ has

-- a put or a free

pub kept-IsCall : (before after : ShardState) (number : ℕ) → before.number ≡ number → IsCall before after → (id : SpanId) → number ≢ id.shard → has_span id after ≡ true → has_span id before ≡ true
kept-IsCall before after number number_is call id foreign has =
    let not_before : eqb id.shard before.number ≡ false = ne_eqb id.shard before.number (λ e. foreign (sym number_is ∙ sym e)) in
    let not_after : eqb id.shard after.number ≡ false = ne_eqb id.shard after.number (λ e. foreign (sym number_is ∙ sym (same_number call) ∙ sym e)) in
    let none_before : own id before ≡ 0 = rw not_before refl in
    let none_after : own id after ≡ 0 = rw not_after refl in
    has_span-counted id before (omega (arith, times_in-found id after has, call.spans id, none_before, none_after))

-- groups that go

pub kept-part : (before after : ShardState) → IsSoundShard before → IsSoundShard after → IsPartOf after.groups before.groups → (id : SpanId) → has_span id after ≡ true → has_span id before ≡ true
kept-part before after sound sound_after part id has =
    has_span-elsewhere before id sound (λ away. let none : false ≡ true = sym (has_span-not after id sound_after (λ index group at place its.
    let (was, there) = part index group at in
    away was group there place its)) ∙ has in cc)

-- an end

pub kept-emptied : (before after : ShardState) → after.groups ≡ [] → (id : SpanId) → has_span id after ≡ true → has_span id before ≡ true
kept-emptied before after none id has = absurd (let never : false ≡ true = sym (ap (λ groups. is_some (span_named (spans_in groups) id)) none) ∙ has in cc)

-- spans that come in

-- where one is counted, it stands somewhere
counted_at : (id : SpanId) (spans : List SpanState) → 1 ≤ count_by (is_named id) spans → (place : ℕ) × IsSpanAt spans id place
counted_at id spans some = by_find (find (is_named id) spans) refl
  where
    by_find : (o : Option SpanState) → find (is_named id) spans ≡ o → (place : ℕ) × IsSpanAt spans id place
    by_find None e = absurd (let never : true ≡ false = sym (find-counted (is_named id) spans some) ∙ ap is_some e in cc)
    by_find (Some span) e =
        let there = found_at (is_named id) spans span e in
        (there.0.0, (span, there.0.1, same_id_from_test span.id id there.1))

-- each span that the shard has now it had before, or it stands at a place of the head's group from the first on
abbrev pub Comes : ShardState → ShardState → SpanId → ℕ → Type 0
Comes before after head first = (id : SpanId) → has_span id after ≡ true → (has_span id before ≡ true) ⊎ ((place : ℕ) × (first ≤ place) × IsMemberAt after.groups head place id)

came_or_was : (id : SpanId) (before after : ShardState) (spans : List SpanState) → times_in id after ≡ times_in id before + count_by (is_named id) spans → has_span id after ≡ true
    → (has_span id before ≡ true) ⊎ ((place : ℕ) × IsSpanAt spans id place)
came_or_was id before after spans came has = by_count (times_in id before) refl
  where
    by_count : (n : ℕ) → times_in id before ≡ n → (has_span id before ≡ true) ⊎ ((place : ℕ) × IsSpanAt spans id place)
    by_count zero e = inr (counted_at id spans (omega (arith, times_in-found id after has)))
    by_count (suc n) e = inl (has_span-counted id before (omega arith))

-- the group that an adoption brings
abbrev pub adopted : WholeState → GroupState
adopted whole = record { head = whole.head; guests = whole.guests; page = whole.words; closed = false }

pub adopted-here : (before after : ShardState) (pool_before pool_after : PoolState) (head : SpanId) (adopts : Adopts pool_before before head pool_after after)
    → IsHeadOf after.groups head adopts.takes_in.index (adopted adopts.whole)
adopted-here before after pool_before pool_after head adopts = record {
  here = ap (λ (s : ShardState). slice_get s.groups adopts.takes_in.index) adopts.takes_in.after ∙ get-insert before.groups adopts.takes_in.index (adopted adopts.whole) adopts.takes_in.place.within;
  head_is = let (index, group, head_of, whole_is, after_is) = adopts.lifts in ap (λ (m : WholeState). m.head.id) whole_is ∙ head_of.head_is;
}

pub Comes-Adopts : (before after : ShardState) (pool_before pool_after : PoolState) (head : SpanId) → Adopts pool_before before head pool_after after → Comes before after head 0
Comes-Adopts before after pool_before pool_after head adopts id has = elim (came_or_was id before after (spans_moved adopts.whole) came has) [
  | inl was ↦ inl was
  | inr new ↦ inr (new.0, omega arith, (adopts.takes_in.index, adopted adopts.whole, adopted-here before after pool_before pool_after head adopts, new.1))
]
  where
    came : times_in id after ≡ times_in id before + count_by (is_named id) (spans_moved adopts.whole)
    came = sum_in-TakesIn (count_named id) (with_room before None (length (spans_moved adopts.whole))) after adopts.whole adopts.takes_in

-- a place of the second list in both
in_second : {X : Type 0} (xs ys : List X) (at : ℕ) (y : X) → slice_get ys at ≡ Some y → (there : ℕ) × (length xs ≤ there) × (slice_get (xs ++ ys) there ≡ Some y)
in_second [] ys at y here = (at, omega arith, here)
in_second (x ∷ xs) ys at y here = let (there, past, is) = in_second xs ys at y here in (suc there, omega arith, is)

-- the group that a fold brings spans to
pub grafted-here : (pool : PoolState) (before : ShardState) (a b : SpanId) (pool_after : PoolState) (after : ShardState) (folds : Folds pool before a b pool_after after)
    → IsHeadOf after.groups b folds.grafts.index (with_guests folds.grafts.group (spans_moved folds.whole) folds.grafts.words)
grafted-here pool before a b pool_after after folds = record {
  here = ap (λ (s : ShardState). slice_get s.groups folds.grafts.index) folds.grafts.after
      ∙ get-set before.groups folds.grafts.index folds.grafts.group
      (with_guests folds.grafts.group (spans_moved folds.whole) folds.grafts.words) folds.grafts.here.here;
  head_is = folds.grafts.here.head_is;
}

pub Comes-Folds : (pool : PoolState) (before : ShardState) (a b : SpanId) (pool_after : PoolState) (after : ShardState) (first : ℕ) → Folds pool before a b pool_after after
    → ((index : ℕ) (group : GroupState) → IsHeadOf before.groups b index group → first ≡ length (spans_of group)) → Comes before after b first
Comes-Folds pool before a b pool_after after first folds count id has = elim
    (came_or_was id before after (spans_moved folds.whole) (sum_by-Folds_shard pool before a b pool_after after folds (count_named id)) has) [
      | inl was ↦ inl was
      | inr new ↦
          let (place, (span, at, is)) = new in
          let (there, past, stands) = in_second folds.grafts.group.guests (spans_moved folds.whole) place span at in
          inr (
            suc there,
            omega (
              arith,
              count folds.grafts.index folds.grafts.group
                  (record { here = folds.grafts.here.here; head_is = folds.grafts.here.head_is }),
            ),
            (
              folds.grafts.index,
              with_guests folds.grafts.group (spans_moved folds.whole) folds.grafts.words,
              grafted-here pool before a b pool_after after folds,
              (span, stands, is),
            ),
          )
    ]

pub Comes-Steps : (pool : PoolState) (before : ShardState) (a b : SpanId) (pool_after : PoolState) (after : ShardState) (first : ℕ) (step : Outcome) → Steps pool before a b step pool_after after
    → ((index : ℕ) (group : GroupState) → IsHeadOf before.groups b index group → first ≡ length (spans_of group)) → Comes before after b first
Comes-Steps pool before a b pool_after after first Absent steps count id has = inl (ap (has_span id) (sym steps.2) ∙ has)
Comes-Steps pool before a b pool_after after first Emptied steps count id has = inl (ap (has_span id) (sym steps.2) ∙ has)
Comes-Steps pool before a b pool_after after first Clash steps count id has = inl (ap (has_span id) (sym steps.2) ∙ has)
Comes-Steps pool before a b pool_after after first Folded steps count id has = Comes-Folds pool before a b pool_after after first steps.1 count id has

-- the shard of this number gets spans, which are noted

-- a span that stands in a shard was opened by one of the core's that was made
pub home-made : (limits : Limits) (made : List ShardState) (core : CoreState) → HasSoundGroups core → core.shards ≡ all_shards limits made → (id : SpanId) (number : ℕ)
    → StandsIn core.shards id number → id.shard < length made
home-made limits made core sound are id number (shard, at, has) = not_below (length made) (suc id.shard) (λ past.
    omega (arith, opened, ap (λ xs. opened_by xs id.shard) are, none_opened (slice_get (all_shards limits made) id.shard) refl (omega arith)))
  where
    opened : id.serial < opened_by core.shards id.shard
    opened = opened-somewhere core sound id (omega (arith, times_in-found id shard has, times_in-le id core.shards number shard at, times-parts id core))

    -- a shard that was not made has opened none
    none_opened : (o : Option ShardState) → slice_get (all_shards limits made) id.shard ≡ o → length made ≤ id.shard → opened_of o ≡ 0
    none_opened None is past = refl
    none_opened (Some home) is past = ap (λ (s : ShardState). s.opened) (sym (unmade-new limits made id.shard home past is))

module _ (core : CoreState) (sound : HasSoundGroups core) where
  -- a span stands in one shard
  one_shard : (id : SpanId) (number other : ℕ) → StandsIn core.shards id number → StandsIn core.shards id other → number ≡ other
  one_shard id number other (shard, at, has) (shard_too, at_too, has_too) =
      let once = owned-once core sound id in
      let same : shard ≡ shard_too = same_some (sym (shard_with-here id core.shards number shard at has once) ∙ shard_with-here id core.shards other shard_too at_too has_too once) in
      sym (sound.shards number shard at).number_is ∙ ap (λ (s : ShardState). s.number) same ∙ (sound.shards other shard_too at_too).number_is

  standing_member : (id head : SpanId) (number place : ℕ) (shard : ShardState) → slice_get core.shards number ≡ Some shard → IsMemberAt shard.groups head place id → StandsIn core.shards id number
  standing_member id head number place shard at (index, group, here, (span, there, is)) =
      (shard, at, has_span-here shard id index place group span (sound.shards number shard at).sound (record { group_is = here.here; span_is = there; id_is = is }))

pub KnowsMoved-noted : (old core : CoreState) → HasSoundGroups core → (number : ℕ) (before after : ShardState) → slice_get old.shards number ≡ Some before → core.shards ≡ set old.shards number after
    → (entries noted : Entries) (head : SpanId) (first : ℕ) → KnowsMoved old.shards entries → Comes before after head first
    → Notes entries noted after.groups head first number → KnowsMoved core.shards noted
KnowsMoved-noted old core sound number before after here shards_are entries noted head first knows comes notes id k foreign stands = by_number (cases_eq k number)
  where
    there : slice_get core.shards number ≡ Some after
    there = ap (λ shards. slice_get shards number) shards_are ∙ slice_get-set_same old.shards number before after here

    -- what was named before is named still
    still : number ≢ id.shard → named entries id ≡ Some number → named noted id ≡ Some number
    still abroad was = elim (notes.others id) [
      | inl same ↦ same ∙ was
      | inr new ↦ new.0 ∙ taken_by-abroad number id abroad
    ]

    by_number : (k ≡ number) ⊎ (k ≢ number) → named noted id ≡ Some k
    by_number (inl same) =
        let (shard, at, has) = stands in
        let is : after ≡ shard = same_some (sym there ∙ ap (slice_get core.shards) (sym same) ∙ at) in
        let abroad : number ≢ id.shard = λ e. foreign (same ∙ e) in
        subst (λ n. named noted id ≡ Some n) (sym same) (elim (comes id (ap (has_span id) is ∙ has)) [
          | inl was ↦ still abroad (knows id number abroad (before, here, was))
          | inr new ↦ notes.noted new.0 id new.1 new.2 ∙ taken_by-abroad number id abroad
        ])
    by_number (inr other) =
        let (shard, at, has) = stands in
        let at_before : slice_get old.shards k ≡ Some shard = sym (ap (λ shards. slice_get shards k) shards_are ∙ slice_get-set_other old.shards number k after other) ∙ at in
        elim (notes.others id) [
          | inl same ↦ same ∙ knows id k foreign (shard, at_before, has)
          | inr new ↦ absurd (other (one_shard core sound id k number stands (standing_member core sound id head number new.1 after there new.2)))
        ]
