use Rattle.std.proofs.Common.{◌≡◌, ◌∙◌, List, ap, arith, length, refl, sym, ◌+◌, ◌-◌}
use Rattle.groups.specs.Directory.{DirectoryState}
use Rattle.groups.specs.Group.{spans_in}
use Rattle.pool.specs.Forgets.{gone_from, left_in}
use Rattle.pool.specs.Groups.{GroupsState}
use Rattle.pool.specs.StockKept.{state_of}
use Rattle.pool.specs.State.{PoolState, PooledState}
use Rattle.pool.proofs.ForgottenPool.{HaveGuestsOnce-sound, IsSound-left, length-left, value_of-left}
use Rattle.pool.proofs.stock.forgetting.Stock+Counted.forget.Goals as goal

pub forget-requires-clause-once : goal.forget-requires-clause-once
forget-requires-clause-once c = HaveGuestsOnce-sound c.self.inside.groups.groups c.self.invariant.sound.once

pub invariant_of-self : goal.invariant_of-self
invariant_of-self c = record {
  sound = rw c.forget.ensures.groups (IsSound-left (state_of c.self.inside) c.self.invariant.sound);
  room_for_groups = omega (arith, c.self.invariant.room_for_groups, ap (λ (s : GroupsState). s.room) c.forget.ensures.groups);
  guests_known = rw c.give_back.ensures c.forget.ensures.known;
  room_for_entries = omega (arith, c.self.invariant.room_for_entries, c.forget.ensures.room, ap (λ (d : DirectoryState). d.room) c.give_back.ensures);
}

-- how many spans there are before and after
counts : (c : goal.After-span_count) → c.span_count.result + length (gone_from c.self.inside.groups.groups) ≡ c.span_count-before.result
counts c =
    let now : c.span_count.result ≡ length (spans_in (left_in c.self.inside.groups.groups)) = c.span_count.ensures.count
    ∙ ap (λ (groups : List PooledState). length (spans_in groups)) (ap (λ (s : GroupsState). s.groups) c.forget.ensures.groups) in
    let before : c.span_count-before.result ≡ length (spans_in c.self.inside.groups.groups) = c.span_count-before.ensures.count
    ∙ ap (λ (s : PoolState). length (spans_in s.groups)) (sym c.self.view_is) in
    omega (arith, now, before, length-left c.self.inside.groups.groups)

pub overflow_sub-result : goal.overflow_sub-result
overflow_sub-result c = omega (arith, counts c)

pub returns-clause-forgets : goal.returns-clause-forgets
returns-clause-forgets c = record {
  after = rw (← c.self.view_is, c.forget.ensures.groups) refl;
  count_is =
      let gone : c.span_count-before.result - c.span_count.result ≡ length (gone_from c.self.inside.groups.groups) = omega (arith, counts c) in
      gone ∙ ap (λ (s : PoolState). length (gone_from s.groups)) c.self.view_is;
}

pub returns-clause-value : goal.returns-clause-value
returns-clause-value c key = rw (← c.self.view_is, c.forget.ensures.groups) (value_of-left (state_of c.self.inside) c.self.invariant.sound key)

pub returns-clause-sound : goal.returns-clause-sound
returns-clause-sound c = rw c.forget.ensures.groups (IsSound-left (state_of c.self.inside) c.self.invariant.sound)
