-- What calls on a key do in the shard or the pool that is lent.
use Rattle.std.proofs.Common.{◌≡◌, ℕ, Bool, true, Option, None, subst, rules}
use Rattle.std.proofs.lemmas.Option.{none-some}
use Rattle.std.specs.Prelude.{IfOk, OnErr, Result}
use Rattle.std.specs.Result.{result_transpose}
use Rattle.std.specs.declared.alloc.AllocError.{AllocError}
use Rattle.groups.specs.Group.{IsElsewhere}
use Rattle.span.specs.Log.{Value}
use Rattle.span.specs.PlainMap as plain
use Rattle.span.specs.declared.key.Key.{Key}
use Rattle.shard.specs.Calls.{Sets}
use Rattle.shard.specs.Shown.{shown}
use Rattle.shard.specs.State.{ShardState}
use Rattle.shard.specs.declared.shard.replacing.Replaced.{Replaced}
use Rattle.pool.specs.Calls.{Sets as SetsPooled}
use Rattle.pool.specs.Shown.{shown as shown_by_pool}
use Rattle.pool.specs.State.{PoolState}
use Rattle.arena.specs.KeyCalls.{SetsIn, SetsInPool}
use Rattle.arena.specs.KeyAnswers.{set_answer}

-- what a set in a shard answers is that of the shard's own
pub SetsIn-set : (old new : ShardState) (key : Key) (words : Value) (set : Result (Option (Key × Bool × ℕ)) AllocError)
    → IfOk set (λ set. (what : Replaced) × Sets old key words what new × (set ≡ set_answer key what))
    → OnErr set (plain.may_set (shown old) key words ≡ true) → OnErr set (new ≡ old) → SetsIn key words old (result_transpose set) new
SetsIn-set old new key words set made refused same = search (rules, none-some)

pub SetsInPool-set : (old new : PoolState) (key : Key) (words : Value) (set : Result (Option (Key × Bool × ℕ)) AllocError)
    → IfOk set (λ set. (what : Replaced) × SetsPooled old key words what new × (set ≡ set_answer key what))
    → OnErr set (plain.may_set (shown_by_pool old) key words ≡ true) → OnErr set (new ≡ old) → SetsInPool key words old (result_transpose set) new
SetsInPool-set old new key words set made refused same = search (rules, none-some)

-- a set of which nothing is answered found the span elsewhere
pub SetsIn-elsewhere : (old new : ShardState) (key : Key) (words : Value) (answer : Option (Result (Key × Bool × ℕ) AllocError))
    → SetsIn key words old answer new → answer ≡ None → IsElsewhere old.groups key.span
SetsIn-elsewhere old new key words answer sets none = (subst (λ answer. SetsIn key words old answer new) none sets).0

pub SetsInPool-elsewhere : (old new : PoolState) (key : Key) (words : Value) (answer : Option (Result (Key × Bool × ℕ) AllocError))
    → SetsInPool key words old answer new → answer ≡ None → IsElsewhere old.groups key.span
SetsInPool-elsewhere old new key words answer sets none = (subst (λ answer. SetsInPool key words old answer new) none sets).0
