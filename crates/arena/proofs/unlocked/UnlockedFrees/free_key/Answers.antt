use Rattle.std.proofs.Common.{◌≡◌, ◌∙◌, ap, arith, drop, length, sym}
use Rattle.arena.specs.SpanCounts.{spans_of_all}
use Rattle.arena.proofs.Ended.{written_back}
use Rattle.arena.proofs.unlocked.UnlockedFrees.free_key.Goals as goal

pub invariant_of-self-2-clause-room : goal.invariant_of-self-2-clause-room
invariant_of-self-2-clause-room c =
    let value = c.as_mut_slice.ensures.value in
    let long : c.args.self.now.shards.len ≡ length c.free_among.new.shards = c.args.self.now.shards.ok.0 ∙ ap length (sym value) ∙ sym c.free_among.ensures.len in
    let back = written_back c.args.self.now.shards.len c.free_among.new.shards (drop (length c.free_among.new.shards) c.args.self.now.shards.items) long in
    omega (arith, c.args.self.now.room, c.free_pooled.ensures.spans, c.free_among.ensures.spans, ap spans_of_all value, ap spans_of_all back)
