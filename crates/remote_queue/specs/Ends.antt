-- What contracts see of the ends of a ring of `rtrb`.
use Rattle.rtrb.specs.Ring.{sent, received, known_free, known_items}
use Rattle.std.specs.Prelude.{ℕ, ◌-◌, ◌++◌, List, length}
use Rattle.std.specs.declared.alloc.Global.{Global}
use Rattle.rtrb.specs.declared.producer.Producer.{Producer}
use Rattle.rtrb.specs.declared.consumer.Consumer.{Consumer}
use Rattle.span.specs.declared.key.Key.{Key}
use Rattle.remote_queue.specs.declared.ends.KeysInRange.{KeysInRange}
use Rattle.remote_queue.specs.Drawn.{drawn_keys, without_last}
use Rattle.remote_queue.specs.Rings.{Sending, Taking}

-- the sender's end of a ring, with the keys that wait to be handed over
abbrev pub sending : Producer Key Global KeysInRange → List Key → Sending
sending producer waiting = record {
  ring =
      record {
        capacity = producer.capacity;
        words = producer.end.words;
        slots = producer.end.slots;
        names = producer.end.names;
        heap = producer.end.heap;
      };
  sent = sent producer ++ waiting;
  free = known_free producer - length waiting;
  waiting = length waiting;
}

-- the taker's end of a ring, with the block of keys that it drew last, of which those from one
-- place to another are not taken yet
abbrev pub taking : Consumer Key Global KeysInRange → List Key → ℕ → ℕ → Taking
taking consumer block next end = record {
  ring =
      record {
        capacity = consumer.capacity;
        words = consumer.end.words;
        slots = consumer.end.slots;
        names = consumer.end.names;
        heap = consumer.end.heap;
      };
  taken = without_last (end - next) (received consumer);
  known = drawn_keys next end block ++ known_items consumer;
  drawn = end - next;
}
