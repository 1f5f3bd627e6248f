-- Where each thread's lines stand. No public clause cites this module.
use Rattle.std.specs.Prelude.{◌≡◌, ℕ, ◌==◌, List, [], ◌∷◌, ◌++◌, Some, slice_get, take, if◌then◌else◌}
use Rattle.trace_text.specs.Causes.{keys_in}
use Rattle.trace_text.specs.declared.line.Line.{Line}
use Rattle.thread_runner.specs.Asked.{places_of}
use Rattle.thread_runner.specs.declared.layout.LineFirst.{LineFirst}

-- of each thread that has a list, it has the places of the thread's lines
abbrev pub AreLaid : List Line → List (List ℕ) → Type 0
AreLaid lines places = (thread : ℕ) (listed : List ℕ) → slice_get places thread ≡ Some listed
    → listed ≡ places_of thread lines

-- the place was added to the thread's list, where it has one, and no other list changed
abbrev pub AddsAt : (thread place : ℕ) → (old new : List (List ℕ)) → Type 0
AddsAt thread place old new = (at : ℕ) (listed : List ℕ) → slice_get new at ≡ Some listed
    → (before : List ℕ) × (slice_get old at ≡ Some before)
    × (listed ≡ before ++ (if thread == at then place ∷ [] else []))

-- each number is that of the keys which the lines above that place bind
abbrev pub AreFirsts : List Line → List LineFirst → Type 0
AreFirsts lines firsts = (index : ℕ) (one : LineFirst) → slice_get firsts index ≡ Some one
    → one.first ≡ keys_in (take one.place lines)
