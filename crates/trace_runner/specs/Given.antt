-- What puts gave, as it is kept. No public clause cites this module.
use Rattle.std.specs.Prelude.{◌≡◌, ◌+◌, ◌<◌, ◌≤◌, ◌^◌, ◌++◌, ℕ, List, [], ◌∷◌, Option, Some, None, drop, get_or, length, map, replicate, slice_get, take}
use Rattle.std.specs.List.{flat_map}
use Rattle.span.specs.declared.key.Key.{Key}
use Rattle.trace_runner.specs.declared.key_list.Stretch.{Stretch}
use Rattle.trace_runner.specs.declared.key_list.TheConstants.{MOST_REFUSED}

-- of each put, in order, the key that it gave out
pub record AllGiven : Type 0 where
  pub items : List (Option Key)

-- of each put of a stretch, in order, the key that it gave out, where the keys of all puts are
-- these
abbrev pub given_in : List Key → Stretch → List (Option Key)
given_in keys stretch = map Some (take stretch.given (drop stretch.above keys))
    ++ replicate stretch.refused None

-- of each put, where these stretches are followed by the last one, above which so many keys were
-- given out and of which so many puts were refused
abbrev pub all_given : List Key → List Stretch → (above refused : ℕ) → AllGiven
all_given keys closed above refused =
    record {
      items = flat_map (given_in keys) closed ++ (map Some (drop above keys)
          ++ replicate refused None);
    }

-- the key that the put at that place gave out, if it is of these stretches
abbrev pub given_above : List Key → List Stretch → (place : ℕ) → Option Key
given_above keys closed place = get_or (flat_map (given_in keys) closed) place None

-- the key that the put at that place gave out, of all puts
abbrev pub given_at : List Key → List Stretch → (above refused place : ℕ) → Option Key
given_at keys closed above refused place = get_or (all_given keys closed above refused).items place
    None

-- where the last stretch begins at that place: no more keys stand above it than there are, and a
-- number counts all puts
abbrev pub AreCountable : List Key → (place above refused : ℕ) → Type 0
AreCountable keys place above refused = (above ≤ length keys)
    × (place + refused ≤ above + MOST_REFUSED) × (length keys < 2 ^ 63)

-- the stretches stand one after another, from that place on and below that many keys, up to such a
-- place and that many keys
abbrev pub AreInRow : (place above : ℕ) → List Stretch → (end last : ℕ) → Type 0
AreInRow place above [] end last = (place ≡ end) × (above ≡ last)
AreInRow place above (stretch ∷ more) end last =
    (stretch.place ≡ place) × ((stretch.above ≡ above)
    × AreInRow (place + (stretch.given + stretch.refused)) (above + stretch.given) more end
    last)

-- the key at that index, if there is one
abbrev pub key_at : List Key → Option ℕ → Option Key
key_at keys None = None
key_at keys (Some index) = slice_get keys index
