-- The numbers of keys as C has them.
use Rattle.std.specs.Prelude.{◌≡◌, ◌⊎◌, ℕ}
use Rattle.span.specs.declared.key.Key.{Key}
use Rattle.key_bits.specs.declared.layout.KeyBits.{KeyBits}
use Rattle.key_bits.specs.declared.layout.LayoutError.{LayoutError}
use Rattle.key_bits.specs.Numbers.{Fits, HasBits, IsLayoutFor, IsNumberOf, IsTooWide}
use Rattle.teurlaks_c.specs.declared.key_numbers.KeyBitsReply.{KeyBitsReply}
use Rattle.teurlaks_c.specs.declared.key_numbers.KeyReply.{KeyReply}
use Rattle.teurlaks_c.specs.declared.key_numbers.NumberReply.{NumberReply}
use Rattle.teurlaks_c.specs.declared.key_numbers.RawKeyBits.{RawKeyBits}
use Rattle.teurlaks_c.specs.declared.replies.RawKey.{RawKey}
use Rattle.teurlaks_c.specs.Keys.{IsKeyOf}
use Rattle.teurlaks_c.specs.Status.{config, done, none}

-- the layout has these bits, and zeros stand in the byte that has none
pub record IsLayoutOf (raw : RawKeyBits) (bits : KeyBits) : Type 0 where
  pub bits_are : HasBits bits raw.shard raw.serial raw.generation
  pub reserved : raw.reserved ≡ 0

-- no layout has these bits
abbrev pub IsNoLayoutOf : RawKeyBits → Type 0
IsNoLayoutOf raw = (bits : KeyBits) → IsLayoutOf raw bits → ⊥

-- the bits are those of the layout with the fewest for the limits; or the limits take too many
abbrev pub SaysLayout : (shards spans generations : ℕ) → KeyBitsReply → Type 0
SaysLayout shards spans generations says =
    ((says.status ≡ done)
    × (bits : KeyBits) × IsLayoutOf says.bits bits × IsLayoutFor shards spans generations bits)
    ⊎ ((says.status ≡ config) × (error : LayoutError) × IsTooWide shards spans generations error)

-- the number is that of the key in the layout; or it is 0, and no key of these numbers fits
abbrev pub SaysNumber : RawKeyBits → RawKey → NumberReply → Type 0
SaysNumber raw key says =
    ((says.status ≡ done)
    × (bits : KeyBits) × (k : Key) × IsLayoutOf raw bits × IsKeyOf key k
    × IsNumberOf bits k says.number)
    ⊎ (((says.status ≡ none) × (says.number ≡ 0)
    × (bits : KeyBits) × IsLayoutOf raw bits × ((k : Key) → IsKeyOf key k → Fits bits k → ⊥))
    ⊎ ((says.status ≡ config) × (says.number ≡ 0) × IsNoLayoutOf raw))

-- the key is that of the number in the layout; or no key has the number
abbrev pub SaysKey : RawKeyBits → (number : ℕ) → KeyReply → Type 0
SaysKey raw number says =
    ((says.status ≡ done)
    × (bits : KeyBits) × (k : Key) × IsLayoutOf raw bits × IsKeyOf says.key k
    × IsNumberOf bits k number)
    ⊎ (((says.status ≡ none)
    × (bits : KeyBits) × IsLayoutOf raw bits × ((k : Key) → IsNumberOf bits k number → ⊥))
    ⊎ ((says.status ≡ config) × IsNoLayoutOf raw))
