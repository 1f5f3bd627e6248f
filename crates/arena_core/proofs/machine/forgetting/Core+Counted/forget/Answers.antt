use Rattle.std.proofs.Common.{◌≡◌, ◌∙◌, ◌++◌, None, ap, arith, length, refl, sym, length-append}
use Rattle.std.proofs.option.Match.{None-if_not_some}
use Rattle.span.specs.declared.log.Counted.{Counted}
use Rattle.pool.specs.Forgets.{gone_from}
use Rattle.arena_core.specs.Forgets.{dead_owned, dead_spans, with_forgotten}
use Rattle.arena_core.specs.Kept.{IsKept, shards_of, state_of}
use Rattle.arena_core.specs.Moved.{KeepsStanding}
use Rattle.arena_core.specs.State.{CoreState, shown}
use Rattle.arena_core.specs.declared.machine.Core.TheInside.{Inside}
use Rattle.arena_core.proofs.ForgottenSpans.{IsKept-forgotten, dead_owned-all, shown-forgotten, state_of-forgotten}
use Rattle.arena_core.proofs.Made.{made-few}
use Rattle.arena_core.proofs.machine.forgetting.Core+Counted.forget.Goals as goal

pub forget_guests-owned-requires : goal.forget_guests-owned-requires
forget_guests-owned-requires c =
    omega (arith, c.self.invariant.sound.groups.within.shards.1, made-few c.self.inside.limits c.self.inside.shards.items c.self.invariant.sound.groups.count)

-- the fields then
abbrev fields : goal.After-forget → Inside Counted
fields c = record c.self.inside { shards = c.forget_guests-owned.new.shards; pool = c.forget-pooled.new.self; whereabouts = c.forget.new.self; forgotten = c.appended.result }

gone : (c : goal.After-forget) → c.appended.result.items ≡ c.self.inside.forgotten.items ++ dead_spans c.self.inside.shards.items c.self.inside.pool
gone c = c.appended.ensures ∙ ap (λ spans. c.self.inside.forgotten.items ++ spans) c.of.ensures

none : (c : goal.After-forget) → c.self.inside.plan ≡ None
none c = None-if_not_some c.self.inside.plan (sym c.is_open.ensures ∙ c.if-is_open.false)

keeps : (c : goal.After-forget) → KeepsStanding c.forget_guests-owned.new.shards.items c.self.inside.whereabouts.entries c.forget.new.self.entries
keeps c = c.forget.ensures

kept : (c : goal.After-forget) → IsKept (fields c)
kept c = IsKept-forgotten c.self.inside (fields c) c.self.invariant refl c.forget-pooled.ensures.forgets.after refl
    (keeps c) refl c.forget_guests-owned.ensures.items (gone c) (none c)

are : (c : goal.After-forget) → state_of (fields c) ≡ with_forgotten (state_of c.self.inside)
are c = state_of-forgotten c.self.inside (fields c) c.self.invariant refl c.forget-pooled.ensures.forgets.after refl
    (keeps c) refl c.forget_guests-owned.ensures.items (gone c)

pub invariant_of-self : goal.invariant_of-self
invariant_of-self c = kept c

pub returns-clause-exact : goal.returns-clause-exact
returns-clause-exact c = record {
  no_plan = ap (λ (s : CoreState). s.plan) (sym c.self.view_is) ∙ none c;
  after = are c ∙ ap with_forgotten c.self.view_is;
  count_is =
      omega (
        arith,
        c.forget_guests-owned.ensures.count,
        c.forget-pooled.ensures.forgets.count_is,
        length-append (dead_owned (shards_of c.self.inside)) (gone_from c.self.inside.pool.groups),
        ap length (dead_owned-all c.self.inside),
      )
      ∙ ap (λ (s : CoreState). length (dead_spans s.shards s.pool)) c.self.view_is;
}

pub returns-clause-same : goal.returns-clause-same
returns-clause-same c = ap shown (are c) ∙ shown-forgotten (state_of c.self.inside) c.self.invariant.sound ∙ ap shown c.self.view_is

pub returns-clause-sound : goal.returns-clause-sound
returns-clause-sound c = (kept c).sound
