use Rattle.std.proofs.Common.{◌≡◌, ◌≤◌}
use Rattle.std.specs.Prelude.{vec_capacity, vec_len}
use Rattle.arena.proofs.hints.Hints.new.Given as goal

abbrev pub invariant-loop : goal.invariant-loop
invariant-loop l = record {
  opened : vec_len l.opened ≡ l.counter;
  opened_room : l.shards ≤ vec_capacity l.opened;
  words : vec_len l.words ≡ l.counter;
  words_room : l.shards ≤ vec_capacity l.words;
}
