use Rattle.trace_runner.proofs.Names.{◌+◌, ◌∙◌, ◌∷◌, [], List, map, subst, sym, ℕ, zero-add, range_with_len, map-range_with_len_more, kept_in, Asked, Calls, counted_from, MakesAt}
use Rattle.trace_text.proofs.Bases.{last_word-each}
use Rattle.arena_core.specs.declared.event.Event.TheVariants as event
use Rattle.trace_runner.proofs.Making.{Makes-append}
use Rattle.trace_runner.proofs.Shards.{IsOpen-kept, KeepsPlan-trans}
use Rattle.trace_runner.proofs.run.Run.fill.Goals as goal

pub loop-i-preserved : goal.loop-i-preserved
loop-i-preserved c =
    let put : ℕ → Asked = λ k. Calls (event.Put c.args.thread (counted_from c.args.class (c.args.value + k))) in
    let more = map-range_with_len_more put 0 c.loop-i.i c.loop-i.i (zero-add c.loop-i.i) in
    record {
      made = subst (λ (asked : List Asked). MakesAt c.args.number asked c.args.self.now c.put.new.self) (sym more)
          (Makes-append c.args.number (map put (range_with_len 0 c.loop-i.i)) (put c.loop-i.i ∷ []) c.args.self.now.core c.loop-i.self.core c.put.new.self.core
          (kept_in c.args.self.now.replies) (kept_in c.loop-i.self.replies) (kept_in c.put.new.self.replies) c.loop-i.invariant.made
          (rw (← c.from.ensures) c.in_ok-put.ensures.made));
      trace = c.put.ensures.trace ∙ c.loop-i.invariant.trace;
      leaving = c.put.ensures.leaving ∙ c.loop-i.invariant.leaving;
      shards = KeepsPlan-trans _ _ _ c.loop-i.invariant.shards c.put.ensures.shards;
      plans = c.put.ensures.plans ∙ c.loop-i.invariant.plans;
    }

pub put-requires-clause-running : goal.put-requires-clause-running
put-requires-clause-running c = IsOpen-kept _ _ c.args.thread c.loop-i.invariant.shards.shards c.requires.running

pub put-requires-clause-within : goal.put-requires-clause-within
put-requires-clause-within c = rw c.from.ensures (last_word-each c.args.class c.args.value c.args.count c.loop-i.i c.loop-i-test.true c.requires.within)
