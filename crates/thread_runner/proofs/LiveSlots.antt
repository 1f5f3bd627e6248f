-- What a set does to the live slots, whatever came before it.
use Rattle.thread_runner.proofs.Names.{◌≡◌, ◌∙◌, ◌++◌, ◌∷◌, [], ℕ, List, ap, sym, from_list, insert, Contents, Value, live_slots-put}
use Rattle.std.specs.FinMap as map
use Rattle.span.specs.Log.{live_slots}
use Rattle.span.specs.declared.change.Change.{Change}
use Rattle.span.specs.declared.change.Change.TheVariants.{Put, Set}
use Rattle.span.proofs.Changes.{replay-push}

-- a set leaves the slot live, as a put would
pub live_slots-set : (log : List Change) (slot generation : ℕ) (value : Value) → live_slots (log ++ Set slot generation value ∷ []) ≡ insert (live_slots log) slot
unfolding live_slots
live_slots-set log slot generation value =
    ap (λ (held : Contents). from_list (map.keys held)) (replay-push log (Set slot generation value) ∙ sym (replay-push log (Put slot generation value)))
    ∙ live_slots-put log slot generation value
