-- What a trim of a shard leaves: the same spans, and closed groups as they were.
use Rattle.std.proofs.Common.{inl, inr, length, ◌⊎◌, ◌≡◌, ℕ, Bool, true, false, not, cond, ◌&&◌, nat_eq, is_some, Option, None, slice_get, ◌∙◌, ap, sym, refl, arith, sum_by}
use Rattle.span.specs.Ids.{same_span}
use Rattle.span.specs.State.{SpanState}
use Rattle.span.specs.declared.id.SpanId.{SpanId}
use Rattle.shard.specs.Group.{GroupState}
use Rattle.shard.specs.State.{ShardState}
use Rattle.shard.specs.Trims.{Trims, changed_from, is_idle, trimmed}
use Rattle.shard.proofs.AlikeGroups.{alike}
use Rattle.shard.proofs.ChangedBelow.{changed_below-all}
use Rattle.shard.proofs.ChangedFrom.{stands, stood}
use Rattle.shard.proofs.Trimmed.{map_bare-trimmed}
use Rattle.groups.specs.Group.{spans_of}
use Rattle.groups.specs.Spans.{live_count}
use Rattle.marks.specs.Plans.{AreClosedAsPlanned, OpenPlan, is_planned}
use Rattle.arena_core.proofs.Groups.{IsCall, numbers_of, own, strays}
use Rattle.arena_core.proofs.PlanKept.{IsFewer-same, KeepsClosed}
use Rattle.arena_core.proofs.Spans.{sum_in, times_in}

-- what does not ask for the page stays
trimmed-field : {X : Type 0} (f : GroupState → X) (group : GroupState) → f (record group { page = None }) ≡ f group → f (trimmed group) ≡ f group
trimmed-field f group same = by_test (is_idle group)
  where
    by_test : (b : Bool) → f (cond b (record group { page = None }) group) ≡ f group
    by_test true = same
    by_test false = refl

trimmed-closed : (group : GroupState) → group.closed ≡ true → trimmed group ≡ group
trimmed-closed group closed = by_page (is_some group.page)
  where
    by_page : (b : Bool) → cond (b && (not group.closed && nat_eq (live_count (spans_of group)) 0)) (record group { page = None }) group ≡ group
    by_page true = rw closed refl
    by_page false = refl

-- a trim of all groups is one from the first on
pub all_trimmed : (before after : ShardState) (count : ℕ) → Trims before count after → after ≡ record before { groups = changed_from trimmed 0 (length before.groups) before.groups }
all_trimmed before after count trims =
    trims.after ∙ ap (λ groups. record before { groups = groups }) (sym (changed_below-all trimmed (length before.groups) before.groups (omega arith)))

module _ (before after : ShardState) (from count : ℕ) (is : after ≡ record before { groups = changed_from trimmed from count before.groups }) where
  sum_in-trimmed : (w : SpanState → ℕ) → sum_in w after ≡ sum_in w before
  sum_in-trimmed w =
      ap (λ (s : ShardState). sum_in w s) is ∙ ap (sum_by w) (alike before.groups (changed_from trimmed from count before.groups) (map_bare-trimmed from count before.groups)).spans

  named_still : (id : SpanId) → times_in id after ≡ times_in id before
  named_still id = sum_in-trimmed (λ (s : SpanState). cond {A = ℕ} (same_span s.id id) 1 0)

  pub IsCall-trimmed : IsCall before after
  IsCall-trimmed = record {
    numbers_are = ap numbers_of is;
    opened_more = omega (arith, ap (λ (s : ShardState). s.opened) is);
    spans = λ id. omega (arith, ap (own id) is, named_still id);
    strays_are = sum_in-trimmed (strays before.gens);
    none_lost = λ id. omega (arith, named_still id);
  }

  -- closed groups are as they were, and of the others which are closed

  pub KeepsClosed-trimmed : KeepsClosed before.groups after.groups
  KeepsClosed-trimmed index group here closed =
      (index, group, ap (λ (s : ShardState). slice_get s.groups index) is ∙ stands trimmed from count before.groups index group (trimmed-closed group closed) here, IsFewer-same group)

  pub AreClosedAsPlanned-trimmed : (plan : Option OpenPlan) → AreClosedAsPlanned plan before.groups → AreClosedAsPlanned plan after.groups
  AreClosedAsPlanned-trimmed plan all index now there =
      let was = stood trimmed from count before.groups index now (ap (λ (s : ShardState). slice_get s.groups index) (sym is) ∙ there) in
      by_case was.0 (all index was.0 was.1) was.2
    where
      by_case : (was : GroupState) → was.closed ≡ is_planned plan was.head.id → (now ≡ was) ⊎ (now ≡ trimmed was) → now.closed ≡ is_planned plan now.head.id
      by_case was planned (inl same) = rw same planned
      by_case was planned (inr changed) = rw changed (trimmed-field (λ (g : GroupState). g.closed) was refl ∙ planned ∙ ap (is_planned plan) (sym (trimmed-field (λ (g : GroupState). g.head.id) was refl)))
