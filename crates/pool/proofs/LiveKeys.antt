-- Keys are live in groups that have a page alone.
use Rattle.std.proofs.Common.{suc, ◌≡◌, ◌+◌, Bool, true, false, cond, List, [], ◌∷◌, ◌++◌, Option, Some, None, MatchOption, is_some, ap, sym, ◌∙◌, refl, arith, filter}
use Rattle.std.specs.FinSet as set
use Rattle.std.specs.Ordering.{nat_cmp}
use Rattle.page.specs.Words.{Words}
use Rattle.groups.specs.Spans.{union_of, live_count}
use Rattle.groups.proofs.LiveCounts.{len-union_of}
use Rattle.groups.specs.Sound.{AreSoundGroups, AreStored, IsSoundGroup}
use Rattle.pool.specs.State.{PooledState}
use Rattle.groups.specs.Group.{spans_in, spans_of}
use Rattle.pool.proofs.Walked.{count-append, paged}

none-live : (group : PooledState) → IsSoundGroup group → paged group ≡ false → live_count (spans_of group) ≡ 0
none-live group sound off = sym (len-union_of (spans_of group) sound.apart) ∙ ap (λ s. set.len s) (empty group.page off sound.page) ∙ set.len-empty nat_cmp
  where
    empty : (page : Option Words) → is_some page ≡ false → MatchOption page (union_of (spans_of group) ≡ set.empty) (AreStored (spans_of group)) → union_of (spans_of group) ≡ set.empty
    empty None is m = m
    empty (Some p) is m = absurd cc

pub live_count-paged : (groups : List PooledState) → AreSoundGroups groups → live_count (spans_in (filter paged groups)) ≡ live_count (spans_in groups)
live_count-paged [] sound = refl
live_count-paged (group ∷ groups) sound = by_test (paged group) refl (live_count-paged groups (λ index g there. sound (suc index) g there))
  where
    by_test : (b : Bool) → paged group ≡ b → live_count (spans_in (filter paged groups)) ≡ live_count (spans_in groups)
        → live_count (spans_in (cond b (group ∷ filter paged groups) (filter paged groups))) ≡ live_count (spans_of group ++ spans_in groups)
    by_test true on rest = count-append (spans_of group) (spans_in (filter paged groups)) ∙ ap (λ n. live_count (spans_of group) + n) rest ∙ sym (count-append (spans_of group) (spans_in groups))
    by_test false off rest = omega (arith, rest, count-append (spans_of group) (spans_in groups), none-live group (sound 0 group refl) off)
