-- The groups of a shard that has ended stand in the pool whole, and so do those that were there before.
use Rattle.std.proofs.Common.{zero, suc, ◌≡◌, ℕ, ◌+◌, List, [], ◌∷◌, length, Some, None, map, slice_get, ap, sym, subst, ◌∙◌, refl, arith, rules, is_some, option_map}
use Rattle.std.specs.FinSet as set
use Rattle.std.proofs.lemmas.List.{length-map}
use Rattle.std.proofs.lemmas.List.Edits.{length-insert}
use Rattle.std.proofs.lemmas.Option.{slice_get-map}
use Rattle.groups.specs.Group.{spans_of}
use Rattle.groups.specs.Spans.{union_of}
use Rattle.groups.specs.Whole.{WholeState, whole_of}
use Rattle.groups.proofs.Lists.{after-insert, get-insert, same_some}
use Rattle.shard.specs.State.{ShardState}
use Rattle.pool.specs.Calls.{HasReceived, IsPooled, TakesAll, TakesIn, with_rooms}
use Rattle.pool.specs.Sound.{IsSound}
use Rattle.pool.specs.State.{PoolState, PooledState}
use Rattle.pool.proofs.TakenIn.{groups-TakesIn, pooled}
use Rattle.std.proofs.option.Match.{None-if_not_some}
use Rattle.std.proofs.lemmas.Bool.{false_from_ne_true}

-- one group more

module _ (old new : PoolState) (whole : WholeState) (takes : TakesIn old whole new) where
  pub IsPooled-TakesIn : IsPooled new whole
  IsPooled-TakesIn = record {
    index = takes.index;
    group = pooled whole takes.page;
    here = ap (λ groups. slice_get groups takes.index) (groups-TakesIn old new whole takes) ∙ get-insert old.groups takes.index (pooled whole takes.page) takes.place.within;
    head = refl;
    guests = refl;
    words = takes.live;
    unpaged = takes.emptied;
  }

  pub IsPooled-stays : (other : WholeState) → IsPooled old other → IsPooled new other
  IsPooled-stays other was =
      let now = after-insert old.groups takes.index (pooled whole takes.page) was.index was.group was.here in
      record {
        index = now.0;
        group = was.group;
        here = ap (λ groups. slice_get groups now.0) (groups-TakesIn old new whole takes) ∙ now.1;
        head = was.head;
        guests = was.guests;
        words = was.words;
        unpaged = was.unpaged;
      }

  pub length-TakesIn : length new.groups ≡ length old.groups + 1
  length-TakesIn = ap length (groups-TakesIn old new whole takes) ∙ length-insert old.groups takes.index (pooled whole takes.page) takes.place.within

-- several groups, one after another

record HaveCome (old : PoolState) (wholes : List WholeState) (new : PoolState) : Type 0 where
  pub each : (at : ℕ) (whole : WholeState) → slice_get wholes at ≡ Some whole → IsPooled new whole
  pub earlier : (other : WholeState) → IsPooled old other → IsPooled new other
  pub count : length new.groups ≡ length old.groups + length wholes

HaveCome-TakesAll : (wholes : List WholeState) (old new : PoolState) → TakesAll old wholes new → HaveCome old wholes new
HaveCome-TakesAll [] old new same = record {
  each = λ at whole there. absurd cc;
  earlier = λ other was. subst (λ (p : PoolState). IsPooled p other) (sym same) was;
  count = ap (λ (p : PoolState). length p.groups) same ∙ omega arith;
}
HaveCome-TakesAll (whole ∷ wholes) old new (mid, rest, takes) =
    let most = HaveCome-TakesAll wholes old mid rest in
    record {
      each = λ at other there. by_place at other there (λ later there. IsPooled-stays mid new whole takes other (most.each later other there));
      earlier = λ other was. IsPooled-stays mid new whole takes other (most.earlier other was);
      count = omega (arith, most.count, length-TakesIn mid new whole takes);
    }
  where
    by_place : (at : ℕ) (other : WholeState) → slice_get (whole ∷ wholes) at ≡ Some other → ((later : ℕ) → slice_get wholes later ≡ Some other → IsPooled new other) → IsPooled new other
    by_place zero other there later = subst (IsPooled new) (same_some there) (IsPooled-TakesIn mid new whole takes)
    by_place (suc at) other there later = later at there

-- a group of a sound pool has a page exactly where a slot is live
unpaged-sound : (pool : PoolState) → IsSound pool → (index : ℕ) (group : PooledState) → slice_get pool.groups index ≡ Some group → union_of (spans_of group) ≡ set.empty → group.page ≡ None
unpaged-sound pool sound index group here none = None-if_not_some group.page (false_from_ne_true (is_some group.page) (λ some. sound.in_use index group here some none))

-- a group of a sound pool stands there whole
pub IsPooled-here : (pool : PoolState) → IsSound pool → (index : ℕ) (group : PooledState) → slice_get pool.groups index ≡ Some group → IsPooled pool (whole_of group)
IsPooled-here pool sound index group there = search (rules, unpaged-sound)

pub HasReceived-TakesAll : (old new : PoolState) (shard : ShardState) (groups spans : ℕ) → IsSound (with_rooms old groups spans)
    → TakesAll (with_rooms old groups spans) (map whole_of shard.groups) new → HasReceived old shard new
HasReceived-TakesAll old new shard groups spans sound all =
    let come = HaveCome-TakesAll (map whole_of shard.groups) (with_rooms old groups spans) new all in
    record {
      came = λ index group there. come.each index (whole_of group) (slice_get-map whole_of shard.groups index ∙ ap (option_map whole_of) there);
      stays = λ index group there. come.earlier (whole_of group) (IsPooled-here (with_rooms old groups spans) sound index group there);
      no_other = come.count ∙ ap (λ n. length old.groups + n) (length-map shard.groups whole_of);
    }
