-- What a call of a shard or of the pool does to the sums over its spans.
use Rattle.std.proofs.Common.{Option, ◌≡◌, ℕ, zero, suc, ◌+◌, ◌≤◌, true, false, cond, eqb, ltb, ◌&&◌, List, [], ◌∷◌, inl, inr, refl, sym, ap, ◌∙◌, arith, Some, set, slice_get, eq-eqb, eqb-true, map, length, None, sum_by}
use Rattle.std.specs.List.{flat_map}
use Rattle.std.proofs.lemmas.Bool.Decides.{nat_tests}
use Rattle.std.proofs.lemmas.List.Sums.{sum_by-append, sum_by-cons}
use Rattle.span.specs.declared.id.SpanId.{SpanId}
use Rattle.span.specs.declared.key.Key.{Key}
use Rattle.span.specs.Ids.{same_span}
use Rattle.span.specs.Classes.{class_of}
use Rattle.span.specs.Log.{Value}
use Rattle.span.specs.State.{SpanState}
use Rattle.shard.specs.Calls.{Puts, new_group}
use Rattle.groups.specs.Spans.{new_span, with_put}
use Rattle.shard.specs.Group.{GroupState}
use Rattle.groups.specs.Group.{spans_of, with_span}
use Rattle.page.specs.Words.{Words}
use Rattle.groups.specs.Pages.{with_object}
use Rattle.shard.specs.Moves.{TakesIn, with_room}
use Rattle.groups.specs.Whole.{WholeState, spans_moved, whole_of}
use Rattle.shard.specs.Sound.{IsSound as IsSoundShard}
use Rattle.shard.specs.State.{ShardState}
use Rattle.groups.proofs.Standing.{spans_of-with_span}
use Rattle.pool.specs.Calls.{Adopts, Receives, TakesAll, TakesIn as TakesInPool, with_rooms}
use Rattle.pool.specs.State.{PoolState, PooledState}
use Rattle.fold.proofs.Sums.{sum_by-Lifts}
use Rattle.marks.specs.Numbers.{Limits}
use Rattle.arena_core.specs.Sound.{IsSoundAt}
use Rattle.arena_core.proofs.Lists.{flat-insert, flat-set, sum_by-set_at}
use Rattle.arena_core.proofs.OneSpan.{ChangesPooled, ChangesSpan}
use Rattle.arena_core.proofs.Spans.{named, sum_in, sum_pooled, times_in, times_pooled}
use Rattle.std.proofs.lemmas.Bool.{true_from_ne_false}

-- whether the shard has opened the span, as a count
abbrev pub own : SpanId → ShardState → ℕ
own id shard = cond {A = ℕ} (eqb id.shard shard.number && ltb id.serial shard.opened) 1 0

-- whether the span has another greatest generation, as a count
abbrev pub strays : ℕ → SpanState → ℕ
strays gens span = cond {A = ℕ} (eqb span.gens gens) 0 1

pub strays-none : (gens : ℕ) (spans : List SpanState) → ((place : ℕ) (span : SpanState) → slice_get spans place ≡ Some span → span.gens ≡ gens) → sum_by (strays gens) spans ≡ 0
strays-none gens [] each = refl
strays-none gens (span ∷ spans) each =
    let same : eqb span.gens gens ≡ true = eq-eqb span.gens gens (each 0 span refl) in
    omega (arith, sum_by-cons (strays gens) span spans, ap (λ b. cond {A = ℕ} b 0 1) same, strays-none gens spans (λ place other here. each (suc place) other here))

pub strays-each : (gens : ℕ) (spans : List SpanState) → sum_by (strays gens) spans ≡ 0 → (place : ℕ) (span : SpanState) → slice_get spans place ≡ Some span → span.gens ≡ gens
strays-each gens [] none place span here = absurd cc
strays-each gens (first ∷ spans) none zero span here =
    let same : first ≡ span = cc in
    ap (λ (s : SpanState). s.gens) (sym same)
    ∙ eqb-true first.gens gens (true_from_ne_false (eqb first.gens gens) (λ e. omega (arith, sum_by-cons (strays gens) first spans, ap (λ b. cond {A = ℕ} b 0 1) e)))
strays-each gens (first ∷ spans) none (suc place) span here = strays-each gens spans (omega (arith, sum_by-cons (strays gens) first spans)) place span here

-- the numbers of a shard, which stay for its life
pub record Numbers : Type 0 where
  pub number : ℕ
  pub page_limit : ℕ
  pub span_limit : ℕ
  pub slot_limit : ℕ
  pub gens : ℕ

abbrev pub numbers_of : ShardState → Numbers
numbers_of shard = record { number = shard.number; page_limit = shard.page_limit; span_limit = shard.span_limit; slot_limit = shard.slot_limit; gens = shard.gens }

-- what is sound of these numbers is sound at the same place
pub IsSoundAt-same : (limits : Limits) (number : ℕ) (before after : ShardState) → numbers_of after ≡ numbers_of before → IsSoundAt limits number before → IsSoundShard after
    → IsSoundAt limits number after
IsSoundAt-same limits number before after same was sound = record {
  number_is = ap (λ (n : Numbers). n.number) same ∙ was.number_is;
  page_limit_is = ap (λ (n : Numbers). n.page_limit) same ∙ was.page_limit_is;
  span_limit_is = ap (λ (n : Numbers). n.span_limit) same ∙ was.span_limit_is;
  slot_limit_is = ap (λ (n : Numbers). n.slot_limit) same ∙ was.slot_limit_is;
  gens_is = ap (λ (n : Numbers). n.gens) same ∙ was.gens_is;
  sound = sound;
}

-- the shard has the spans of before and those that it has opened since, each once more, and no span has another greatest generation
pub record IsCall (before after : ShardState) : Type 0 where
  pub numbers_are : numbers_of after ≡ numbers_of before
  pub opened_more : before.opened ≤ after.opened
  pub spans : (id : SpanId) → times_in id after + own id before ≡ times_in id before + own id after
  pub strays_are : sum_in (strays before.gens) after ≡ sum_in (strays before.gens) before
  pub none_lost : (id : SpanId) → times_in id before ≤ times_in id after

-- the call of a shard keeps its number
pub same_number : {before after : ShardState} → IsCall before after → after.number ≡ before.number
same_number call = ap (λ (n : Numbers). n.number) call.numbers_are

-- the pool has the spans of before
pub record IsPoolCall (before after : PoolState) : Type 0 where
  pub spans : (id : SpanId) → times_pooled id after ≡ times_pooled id before
  pub strays_are : (gens : ℕ) → sum_pooled (strays gens) after ≡ sum_pooled (strays gens) before

module _ (w : SpanState → ℕ) where
  -- the head of a group gives way to a span of the same weight
  sum_in-with_head : (before after : ShardState) (index : ℕ) (group : GroupState) (head : SpanState) → (page : Option Words)
      → slice_get before.groups index ≡ Some group → w head ≡ w group.head → after.groups ≡ set before.groups index (record group { head = head; page = page })
      → sum_in w after ≡ sum_in w before
  sum_in-with_head before after index group head page here same is =
      omega (
        arith,
        ap (λ gs. sum_by w (flat_map spans_of gs)) is,
        flat-set w spans_of before.groups index group (record group { head = head; page = page }) here,
        sum_by-cons w head group.guests,
        sum_by-cons w group.head group.guests,
      )

  -- a span of a group gives way to one of the same weight
  sum_in-with_span : (before after : ShardState) (index place : ℕ) (group : GroupState) (span changed : SpanState) (page : Option Words)
      → slice_get before.groups index ≡ Some group → slice_get (spans_of group) place ≡ Some span → w changed ≡ w span
      → after.groups ≡ set before.groups index (record (with_span group place changed) { page = page }) → sum_in w after ≡ sum_in w before
  sum_in-with_span before after index place group span changed page here there same is =
      omega (
        arith,
        ap (λ gs. sum_by w (flat_map spans_of gs)) is,
        flat-set w spans_of before.groups index group (record (with_span group place changed) { page = page }) here,
        ap (sum_by w) (spans_of-with_span group place changed),
        sum_by-set_at w (spans_of group) place span changed there,
      )

  sum_pooled-with_span : (before after : PoolState) (index place : ℕ) (group : PooledState) (span changed : SpanState) (other : PooledState)
      → slice_get before.groups index ≡ Some group → slice_get (spans_of group) place ≡ Some span → w changed ≡ w span
      → spans_of other ≡ set (spans_of group) place changed → after.groups ≡ set before.groups index other → sum_pooled w after ≡ sum_pooled w before
  sum_pooled-with_span before after index place group span changed other here there same spans is =
      omega (
        arith,
        ap (λ gs. sum_by w (flat_map spans_of gs)) is,
        flat-set w spans_of before.groups index group other here,
        ap (sum_by w) spans,
        sum_by-set_at w (spans_of group) place span changed there,
      )

own-more : (a s n o : ℕ) → cond {A = ℕ} (eqb a n && ltb s (o + 1)) 1 0 ≡ cond {A = ℕ} (eqb a n && ltb s o) 1 0 + cond {A = ℕ} (eqb n a && eqb o s) 1 0
own-more a s n o = grind (arith, nat_tests)

pub IsCall-Puts : (before after : ShardState) (value : Value) (key : Key) (at : ℕ) → Puts before (class_of value) value key at after → IsCall before after
IsCall-Puts before after value key at (running, inl (index, group, room, span_is, generation_is, at_is, after_is)) =
    let kept : (w : SpanState → ℕ) → w (with_put group.head key.slot value) ≡ w group.head → sum_in w after ≡ sum_in w before =
    λ w same. sum_in-with_head w before after index group (with_put group.head key.slot value) (with_object group.page (class_of value) key.slot value)
    room.here same (ap (λ (s : ShardState). s.groups) after_is) in
    record {
      numbers_are = ap numbers_of after_is;
      opened_more = omega (arith, ap (λ (s : ShardState). s.opened) after_is);
      spans = λ id. omega (arith, ap (own id) after_is, kept (named id) refl);
      strays_are = kept (strays before.gens) refl;
      none_lost = λ id. omega (arith, kept (named id) refl);
    }
IsCall-Puts before after value key at (running, inr (full, pages, spans, (shard_is, serial_is, slot_is, generation_is, at_is, (index, place, after_is)))) = record {
  numbers_are = ap numbers_of after_is;
  opened_more = omega (arith, ap (λ (s : ShardState). s.opened) after_is);
  spans = λ id.
      let one : sum_by (named id) (spans_of opened) ≡ cond {A = ℕ} (eqb before.number id.shard && eqb before.opened id.serial) 1 0 =
      sum_by-cons (named id) opened.head [] ∙ rw (shard_is, serial_is) (omega arith) in
      omega (
        arith,
        ap (λ (s : ShardState). sum_in (named id) s) after_is,
        ap (own id) after_is,
        flat-insert (named id) spans_of before.groups index opened,
        one,
        own-more id.shard id.serial before.number before.opened,
      );
  strays_are =
      let none : sum_by (strays before.gens) (spans_of opened) ≡ 0 = strays-none before.gens (spans_of opened) alone in
      omega (arith, ap (λ (s : ShardState). sum_in (strays before.gens) s) after_is, flat-insert (strays before.gens) spans_of before.groups index opened, none);
  none_lost = λ id. omega (arith, ap (λ (s : ShardState). sum_in (named id) s) after_is, flat-insert (named id) spans_of before.groups index opened);
}
  where
    opened : GroupState
    opened = new_group key.span (class_of value) before.gens value

    alone : (place : ℕ) (span : SpanState) → slice_get (spans_of (new_group key.span (class_of value) before.gens value)) place ≡ Some span → span.gens ≡ before.gens
    alone zero span here = let same : with_put (new_span key.span (class_of value) before.gens) 0 value ≡ span = cc in ap (λ (s : SpanState). s.gens) (sym same)
    alone (suc place) span here = absurd cc

-- a span that changes is still there
pub IsCall-ChangesSpan : (before after : ShardState) → ChangesSpan before after → IsCall before after
IsCall-ChangesSpan before after changes = record {
  numbers_are = ap numbers_of changes.after_is;
  opened_more = omega (arith, ap (λ (s : ShardState). s.opened) changes.after_is);
  spans = λ id. omega (arith, ap (own id) changes.after_is, named_still id);
  strays_are = kept (strays before.gens) (ap (λ n. cond {A = ℕ} (eqb n before.gens) 0 1) changes.same.gens_is);
  none_lost = λ id. omega (arith, named_still id);
}
  where
    kept : (w : SpanState → ℕ) → w changes.now ≡ w changes.span → sum_in w after ≡ sum_in w before
    kept w same = sum_in-with_span w before after changes.index changes.place changes.group changes.span changes.now changes.page changes.group_is
        changes.span_is same (ap (λ (s : ShardState). s.groups) changes.after_is)

    named_still : (id : SpanId) → times_in id after ≡ times_in id before
    named_still id = kept (named id) (ap (λ i. cond {A = ℕ} (same_span i id) 1 0) changes.same.id_is)

pub IsPoolCall-ChangesPooled : (before after : PoolState) → ChangesPooled before after → IsPoolCall before after
IsPoolCall-ChangesPooled before after changes = record {
  spans = λ id. kept (named id) (ap (λ i. cond {A = ℕ} (same_span i id) 1 0) changes.same.id_is);
  strays_are = λ gens. kept (strays gens) (ap (λ n. cond {A = ℕ} (eqb n gens) 0 1) changes.same.gens_is);
}
  where
    kept : (w : SpanState → ℕ) → w changes.now ≡ w changes.span → sum_pooled w after ≡ sum_pooled w before
    kept w same = sum_pooled-with_span w before after changes.index changes.place changes.group changes.span changes.now changes.group_now changes.group_is
        changes.span_is same changes.spans_are changes.groups_are

-- groups that move

-- a sum over the spans of the group that moves
abbrev pub sum_moved : (SpanState → ℕ) → WholeState → ℕ
sum_moved w whole = sum_by w (spans_moved whole)

pub sum_in-TakesIn : (w : SpanState → ℕ) (old new : ShardState) (whole : WholeState) → TakesIn old whole new → sum_in w new ≡ sum_in w old + sum_moved w whole
sum_in-TakesIn w old new whole takes =
    ap (λ (s : ShardState). sum_in w s) takes.after
    ∙ flat-insert w spans_of old.groups takes.index (record { head = whole.head; guests = whole.guests; page = whole.words; closed = false })

pub sum_pooled-TakesIn : (w : SpanState → ℕ) (old new : PoolState) (whole : WholeState) → TakesInPool old whole new → sum_pooled w new ≡ sum_pooled w old + sum_moved w whole
sum_pooled-TakesIn w old new whole takes =
    ap (λ (p : PoolState). sum_pooled w p) takes.after ∙ flat-insert w spans_of old.groups takes.index (record { head = whole.head; guests = whole.guests; page = takes.page; closed = tt })

pub sum_pooled-TakesAll : (w : SpanState → ℕ) (wholes : List WholeState) (old new : PoolState) → TakesAll old wholes new → sum_pooled w new ≡ sum_pooled w old + sum_by (sum_moved w) wholes
sum_pooled-TakesAll w [] old new same = omega (arith, ap (λ (p : PoolState). sum_pooled w p) same)
sum_pooled-TakesAll w (whole ∷ wholes) old new (mid, rest, first) =
    omega (arith, sum_pooled-TakesIn w mid new whole first, sum_pooled-TakesAll w wholes old mid rest, sum_by-cons (sum_moved w) whole wholes)

sum_by-whole_of : (w : SpanState → ℕ) (groups : List GroupState) → sum_by (sum_moved w) (map whole_of groups) ≡ sum_by w (flat_map spans_of groups)
sum_by-whole_of w [] = refl
sum_by-whole_of w (group ∷ groups) =
    omega (arith, sum_by-cons (sum_moved w) (whole_of group) (map whole_of groups), sum_by-whole_of w groups, sum_by-append w (spans_of group) (flat_map spans_of groups))

-- spans move between one shard and the pool, which have as many together as before
pub record IsMove (before after : ShardState) (pool_before pool_after : PoolState) : Type 0 where
  pub numbers_are : numbers_of after ≡ numbers_of before
  pub opened_is : after.opened ≡ before.opened
  pub running : before.ended ≡ false
  pub sums : (w : SpanState → ℕ) → sum_in w after + sum_pooled w pool_after ≡ sum_in w before + sum_pooled w pool_before

pub IsMove-Receives : (before after : ShardState) (pool_before pool_after : PoolState) → Receives pool_before before pool_after after → IsMove before after pool_before pool_after
IsMove-Receives before after pool_before pool_after receives = record {
  numbers_are = ap numbers_of receives.after;
  opened_is = ap (λ (s : ShardState). s.opened) receives.after;
  running = receives.running;
  sums = λ w.
      let all = sum_pooled-TakesAll w (map whole_of before.groups) (with_rooms pool_before receives.group_room receives.span_room) pool_after receives.moved in
      omega (arith, all, sum_by-whole_of w before.groups, ap (λ (s : ShardState). sum_in w s) receives.after);
}

pub IsMove-Adopts : (before after : ShardState) (pool_before pool_after : PoolState) (head : SpanId) → before.ended ≡ false
    → Adopts pool_before before head pool_after after → IsMove before after pool_before pool_after
IsMove-Adopts before after pool_before pool_after head running adopts = record {
  numbers_are = ap numbers_of adopts.takes_in.after;
  opened_is = ap (λ (s : ShardState). s.opened) adopts.takes_in.after;
  running = running;
  sums = λ w. omega (arith, came w, sum_by-Lifts w pool_before pool_after head adopts.whole adopts.lifts);
}
  where
    came : (w : SpanState → ℕ) → sum_in w after ≡ sum_in w before + sum_moved w adopts.whole
    came w = sum_in-TakesIn w (with_room before None (length (spans_moved adopts.whole))) after adopts.whole adopts.takes_in
