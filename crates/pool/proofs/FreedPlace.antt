-- A group after a free in one of its spans: its head, and its page.
use Rattle.std.proofs.Common.{zero, suc, ◌≡◌, ℕ, Bool, true, false, Some, slice_get, ap, refl, rules, IsSome}
use Rattle.std.specs.Bool.{OnFalse, OnTrue}
use Rattle.std.proofs.lemmas.Bool.{false≢true}
use Rattle.span.specs.State.{SpanState}
use Rattle.groups.specs.Group.{spans_of, with_span}
use Rattle.groups.proofs.EmptySets.{empty_or_not}
use Rattle.groups.proofs.ReplacedGroups.{head-alike}
use Rattle.pool.specs.Calls.{GivesUp}
use Rattle.pool.specs.State.{PooledState}
use Rattle.pool.proofs.Released.{AreAlike-GivesUp}

-- the head's id after a free, done or not
pub head-free : (b : Bool) (group now : PooledState) (place : ℕ) (span changed : SpanState) → slice_get (spans_of group) place ≡ Some span → changed.id ≡ span.id
    → OnTrue b (GivesUp (with_span group place changed) now) → OnFalse b (now ≡ group) → now.head.id ≡ group.head.id
head-free false group now place span changed here same gives stays = ap (λ (g : PooledState). g.head.id) stays
head-free true group now place span changed here same gives stays = head-alike group now (AreAlike-GivesUp group now place span changed here same gives)

page-with_span : (group : PooledState) (place : ℕ) (changed : SpanState) → (with_span group place changed).page ≡ group.page
page-with_span group zero changed = refl
page-with_span group (suc place) changed = refl

-- it has a page only where it had one
pub paged-free : (b : Bool) (group now : PooledState) (place : ℕ) (changed : SpanState) → OnTrue b (GivesUp (with_span group place changed) now)
    → OnFalse b (now ≡ group) → IsSome now.page → IsSome group.page
paged-free b group now place changed gives stays paged = search (rules, empty_or_not, false≢true, page-with_span)
