-- The numbers of keys in a layout.
use Rattle.std.specs.Prelude.{◌≡◌, ◌<◌, ◌≤◌, ◌⊎◌, ◌+◌, ◌*◌, ◌^◌, ℕ}
use Rattle.span.specs.declared.key.Key.{Key}
use Rattle.key_bits.specs.declared.layout.KeyBits.{KeyBits}
use Rattle.key_bits.specs.declared.layout.LayoutError.{LayoutError}
use Rattle.key_bits.specs.declared.layout.LayoutError.TheVariants.{PartTooWide, TooManyBits}

-- ---- numbers

-- each part is below what its bits can say
pub record HaveRoom (bits : KeyBits) (generation shard serial slot : ℕ) : Type 0 where
  pub generation_fits : generation < 2 ^ bits.generation
  pub shard_fits : shard < 2 ^ bits.shard
  pub serial_fits : serial < 2 ^ bits.serial
  pub slot_fits : slot < 2 ^ 8

-- each part of the key is below what its bits can say
abbrev pub Fits : KeyBits → Key → Type 0
Fits bits key = HaveRoom bits key.generation key.span.shard key.span.serial key.slot

-- the number whose bits are those of the generation, the shard, the serial and the slot, in order
abbrev pub number_of_parts : KeyBits → (generation shard serial slot : ℕ) → ℕ
number_of_parts bits generation shard serial slot =
    ((generation * 2 ^ bits.shard + shard) * 2 ^ bits.serial + serial) * 2 ^ 8 + slot

-- the number of a key
abbrev pub number_of : KeyBits → Key → ℕ
number_of bits key = number_of_parts bits key.generation key.span.shard key.span.serial key.slot

-- the key has a number in the layout, and it is this one
pub record IsNumberOf (bits : KeyBits) (key : Key) (number : ℕ) : Type 0 where
  pub fits : Fits bits key
  pub is : number ≡ number_of bits key

-- the key has these parts
pub record HasParts (generation shard serial slot : ℕ) (key : Key) : Type 0 where
  pub generation_is : key.generation ≡ generation
  pub shard_is : key.span.shard ≡ shard
  pub serial_is : key.span.serial ≡ serial
  pub slot_is : key.slot ≡ slot

-- ---- layouts

-- the parts take so many bits
pub record HasBits (layout : KeyBits) (shard serial generation : ℕ) : Type 0 where
  pub shard_is : layout.shard ≡ shard
  pub serial_is : layout.serial ≡ serial
  pub generation_is : layout.generation ≡ generation

-- so many bits tell so many numbers apart, and fewer do not
pub record IsLeastWidth (count width : ℕ) : Type 0 where
  pub enough : count ≤ 2 ^ width
  pub least : (fewer : ℕ) → fewer < width → 2 ^ fewer < count

-- the layout has the fewest bits for so many shards, spans and generations, which count from 1
pub record IsLayoutFor (shards spans generations : ℕ) (layout : KeyBits) : Type 0 where
  pub shard : IsLeastWidth shards layout.shard
  pub serial : IsLeastWidth spans layout.serial
  pub generation : IsLeastWidth (generations + 1) layout.generation

-- so many bits are wanted, and a number has fewer
abbrev pub TakesBits : ℕ → LayoutError → Type 0
TakesBits wanted PartTooWide = ⊥
TakesBits wanted (TooManyBits bits) = (bits ≡ wanted) × (64 < bits)

-- a part takes more than 32 bits; or none does, and all take more than 64 with the slot's
abbrev pub IsNoLayout : (shard serial generation : ℕ) → LayoutError → Type 0
IsNoLayout shard serial generation PartTooWide = (32 < shard) ⊎ ((32 < serial) ⊎ (32 < generation))
IsNoLayout shard serial generation (TooManyBits bits) =
    (shard ≤ 32) × (serial ≤ 32) × (generation ≤ 32)
    × (bits ≡ generation + shard + serial + 8) × (64 < bits)

-- the fewest bits for these limits, with the slot's, are too many
pub record IsTooWide (shards spans generations : ℕ) (error : LayoutError) : Type 0 where
  pub shard : ℕ
  pub serial : ℕ
  pub generation : ℕ
  pub shard_is : IsLeastWidth shards shard
  pub serial_is : IsLeastWidth spans serial
  pub generation_is : IsLeastWidth (generations + 1) generation
  pub takes : TakesBits (generation + shard + serial + 8) error

-- each key within the limits fits
abbrev pub AllFit : (shards spans generations : ℕ) → KeyBits → Type 0
AllFit shards spans generations layout =
    (key : Key) → key.span.shard < shards → key.span.serial < spans → key.slot < 256
    → key.generation ≤ generations → Fits layout key
