-- What is known of the keys that puts gave, while a run goes on. No public clause cites this
-- module.
use Rattle.std.specs.Prelude.{◌≡◌, ◌+◌, ◌-◌, ◌<◌, ◌≤◌, ◌&&◌, ℕ, List, [], ◌∷◌, Option, Some, None, if◌then◌else◌, nat_le, nat_lt}
use Rattle.std.specs.Coded.{le_prop, ×_prop}
use Rattle.std.specs.List.{AllByRecursion}
use Rattle.span.specs.declared.key.Key.{Key}
use Rattle.thread_runner.specs.Asked.{GivenKeys}
use Rattle.thread_runner.specs.declared.keys.Given.{Given}

-- the key of the slot so far above that of the key; none where there is none
abbrev pub key_from : Option Key → ℕ → Option Key
key_from None by = None
key_from (Some key) by = Some (record key { slot = key.slot + by })

-- what these puts gave is what was given
abbrev pub IsGiven : GivenKeys → Given → Type 0
IsGiven given one = (by : ℕ) → by < one.times → given (one.place + by) ≡ key_from one.key by

-- what a thread's puts gave in the section at hand is what was given
abbrev pub AreFresh : List Given → GivenKeys → Type 0
AreFresh fresh given = AllByRecursion (IsGiven given) fresh

-- what is kept of the puts of earlier sections is what was given
abbrev pub AreKept : List Given → GivenKeys → Type 0
AreKept kept given = AllByRecursion (IsGiven given) kept

-- both are what was given
abbrev pub AreKnown : List Given → List Given → GivenKeys → Type 0
AreKnown kept fresh given = AreKept kept given × AreFresh fresh given

-- the keys stand by place, from that one on, each at one alone, above the end
abbrev pub AreApart : ℕ → List Given → ℕ → Type 0
AreApart from [] end = from ≤ end
AreApart from (one ∷ more) end = (from ≤ one.place) × AreApart (one.place + one.times) more end

pub AreApart-prop : (from : ℕ) (kept : List Given) (end : ℕ) → IsProp (AreApart from kept end)
AreApart-prop from [] end = le_prop
AreApart-prop from (one ∷ more) end = ×_prop le_prop
    (AreApart-prop (one.place + one.times) more end)

-- what is kept, as what was given
abbrev pub given_by : List Given → GivenKeys
given_by [] place = None
given_by (one ∷ more) place = if nat_le one.place place
    && nat_lt place (one.place + one.times) then key_from one.key (place - one.place) else
    given_by more place
