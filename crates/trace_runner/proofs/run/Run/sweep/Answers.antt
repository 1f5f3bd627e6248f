use Rattle.trace_runner.proofs.Names.{◌+◌, ◌-◌, ◌≡◌, ◌∙◌, ◌∷◌, [], List, ap, map, subst, sym, arith, ℕ, range_with_len, map-range_with_len_more, FindsOne, kept_in, Asked, Did, key_at, on_key, KeepsAll, MakesAt, lines_in}
use Rattle.arena_core.specs.declared.event.Event.TheVariants as event
use Rattle.trace_runner.proofs.Making.{Makes-append}
use Rattle.trace_runner.proofs.Shards.{KeepsPlan-trans}
use Rattle.trace_runner.proofs.run.Run.sweep.Goals as goal

module _ (c : goal.In_ok-free) where
  -- the event that the sweep asks for at a place
  asked : List Did → List ℕ → ℕ → Asked
  asked done name place = on_key event.Free (key_at (lines_in c.args.self.now) done name place)

  freed : (done : List Did) (name : List ℕ) → KeepsAll c.args.self.now done c.args.first name c.args.from c.args.to
      → MakesAt c.args.number (asked done name c.loop-place.place ∷ []) c.loop-place.self c.free.new.self
  unfolding asked
  freed done name finds =
      let found : FindsOne (lines_in c.args.self.now) done c.loop-place.self.replies.keys.items c.args.first name c.loop-place.place =
      rw c.loop-place.invariant.keys (finds c.loop-place.place (omega arith) (omega arith)) in
      rw (← c.key-key.ensures.found _ found) c.in_ok-free.ensures.made

pub loop-place-preserved : goal.loop-place-preserved
unfolding asked
loop-place-preserved c = record {
  made = λ done name finds.
      let more = map-range_with_len_more (asked c done name) c.args.from (c.loop-place.place - c.args.from) c.loop-place.place (omega arith) in
      let next : c.loop-place.place + 1 - c.args.from ≡ c.loop-place.place - c.args.from + 1 = omega arith in
      subst (λ (events : List Asked). MakesAt c.args.number events c.args.self.now c.free.new.self) (sym (ap (λ n. map (asked c done name) (range_with_len c.args.from n)) next ∙ more))
      (Makes-append c.args.number (map (asked c done name) (range_with_len c.args.from (c.loop-place.place - c.args.from)))
      (asked c done name c.loop-place.place ∷ []) c.args.self.now.core c.loop-place.self.core c.free.new.self.core
      (kept_in c.args.self.now.replies) (kept_in c.loop-place.self.replies) (kept_in c.free.new.self.replies) (c.loop-place.invariant.made done name finds) (freed c done name finds));
  bound = omega arith;
  keys = c.free.ensures.keys ∙ c.loop-place.invariant.keys;
  trace = c.free.ensures.trace ∙ c.loop-place.invariant.trace;
  leaving = c.free.ensures.leaving ∙ c.loop-place.invariant.leaving;
  shards = KeepsPlan-trans _ _ _ c.loop-place.invariant.shards c.free.ensures.shards;
  plans = c.free.ensures.plans ∙ c.loop-place.invariant.plans;
}

pub returns-clause-made : goal.returns-clause-made
returns-clause-made c done name finds =
    let all : c.loop-place.place - c.args.from ≡ c.args.to - c.args.from = omega arith in
    rw (← all) (c.loop-place.invariant.made done name finds)
