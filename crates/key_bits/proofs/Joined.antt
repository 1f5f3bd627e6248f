-- The parts of a number: they fit, and no others make the number.
use Rattle.std.proofs.Common.{ℕ, ◌+◌, ◌*◌, ◌/◌, ◌%◌, ◌^◌, ◌<◌, ◌≤◌, ◌≡◌, Option, Some, None, sym, subst, ◌∙◌, ap, arith, rules}
use Rattle.std.specs.Prelude.{IfNone}
use Rattle.std.proofs.lemmas.Nat.{div-add-mod', div-mul-add, mod-mul-add, mul-add-lt, pow-add}
use Rattle.std.proofs.Math.Pow.{pow_mono}
use Rattle.span.specs.declared.key.Key.{Key}
use Rattle.span.proofs.Ids.{same_id}
use Rattle.span.proofs.Next.{same_key-parts}
use Rattle.key_bits.specs.declared.layout.KeyBits.{KeyBits}
use Rattle.key_bits.specs.Numbers.{HasParts, HaveRoom, IsNumberOf, number_of_parts}

-- the number of a part behind others takes the bits of all
pub appended-below : (number part front width : ℕ) → number < 2 ^ front → part < 2 ^ width → number * 2 ^ width + part < 2 ^ (front + width)
appended-below number part front width few low = search (rules, mul-add-lt, pow-add)

-- a number of few bits is one of 64
pub few-bits : (number width : ℕ) → number < 2 ^ width → width ≤ 64 → number < 2 ^ 64
few-bits number width below few = let most : 2 ^ width ≤ 2 ^ 64 = pow_mono few in omega (arith, below, most)

module _ (bits : KeyBits) (generation shard serial slot : ℕ) (room : HaveRoom bits generation shard serial slot) where
  pub front-below : generation * 2 ^ bits.shard + shard < 2 ^ (bits.generation + bits.shard)
  front-below = appended-below generation shard bits.generation bits.shard room.generation_fits room.shard_fits

  pub span-below : (generation * 2 ^ bits.shard + shard) * 2 ^ bits.serial + serial < 2 ^ (bits.generation + bits.shard + bits.serial)
  span-below = appended-below _ serial (bits.generation + bits.shard) bits.serial front-below room.serial_fits

  pub number-below : number_of_parts bits generation shard serial slot < 2 ^ (bits.generation + bits.shard + bits.serial + 8)
  number-below = appended-below _ slot (bits.generation + bits.shard + bits.serial) 8 span-below room.slot_fits

-- the last bits and those in front of them are the number's own
front-alone : (a b c d width : ℕ) → b < 2 ^ width → d < 2 ^ width → a * 2 ^ width + b ≡ c * 2 ^ width + d → a ≡ c
front-alone a b c d width low other same = sym (div-mul-add a (2 ^ width) b low) ∙ ap (λ n. n / 2 ^ width) same ∙ div-mul-add c (2 ^ width) d other

last-alone : (a b c d width : ℕ) → b < 2 ^ width → d < 2 ^ width → a * 2 ^ width + b ≡ c * 2 ^ width + d → b ≡ d
last-alone a b c d width low other same = sym (mod-mul-add a (2 ^ width) b low) ∙ ap (λ n. n % 2 ^ width) same ∙ mod-mul-add c (2 ^ width) d other

-- two lists of parts that make one number
pub record AreSame (generation shard serial slot generation2 shard2 serial2 slot2 : ℕ) : Type 0 where
  pub generations : generation ≡ generation2
  pub shards : shard ≡ shard2
  pub serials : serial ≡ serial2
  pub slots : slot ≡ slot2

pub number_of_parts-alone : (bits : KeyBits) (generation shard serial slot generation2 shard2 serial2 slot2 : ℕ)
    → shard < 2 ^ bits.shard → serial < 2 ^ bits.serial → slot < 2 ^ 8
    → shard2 < 2 ^ bits.shard → serial2 < 2 ^ bits.serial → slot2 < 2 ^ 8
    → number_of_parts bits generation shard serial slot ≡ number_of_parts bits generation2 shard2 serial2 slot2
    → AreSame generation shard serial slot generation2 shard2 serial2 slot2
number_of_parts-alone bits generation shard serial slot generation2 shard2 serial2 slot2 low_a low_b low_c low_d low_e low_f same =
    let spans = front-alone _ slot _ slot2 8 low_c low_f same in
    let fronts = front-alone _ serial _ serial2 bits.serial low_b low_e spans in
    record {
      generations = front-alone _ shard _ shard2 bits.shard low_a low_d fronts;
      shards = last-alone generation shard generation2 shard2 bits.shard low_a low_d fronts;
      serials = last-alone _ serial _ serial2 bits.serial low_b low_e spans;
      slots = last-alone _ slot _ slot2 8 low_c low_f same;
    }

-- the parts of a number make it
pub number_of_parts-parted : (bits : KeyBits) (number : ℕ)
    → number ≡ number_of_parts bits (number / 2 ^ 8 / 2 ^ bits.serial / 2 ^ bits.shard) (number / 2 ^ 8 / 2 ^ bits.serial % 2 ^ bits.shard) (number / 2 ^ 8 % 2 ^ bits.serial) (number % 2 ^ 8)
number_of_parts-parted bits number = search (rules, div-add-mod')

-- no other key has the number
pub IsNumberOf-alone : (bits : KeyBits) (key other : Key) (number : ℕ) → IsNumberOf bits key number → IsNumberOf bits other number → other ≡ key
IsNumberOf-alone bits key other number is is_other =
    let same = number_of_parts-alone bits other.generation other.span.shard other.span.serial other.slot key.generation key.span.shard key.span.serial key.slot
    is_other.fits.shard_fits is_other.fits.serial_fits is_other.fits.slot_fits is.fits.shard_fits is.fits.serial_fits is.fits.slot_fits (sym is_other.is ∙ is.is) in
    same_key-parts other key (same_id other.span key.span same.shards same.serials) same.slots same.generations

-- a key with the number has the parts of the number
pub HasParts-number : (bits : KeyBits) (key : Key) (number generation shard serial slot : ℕ) → number ≡ number_of_parts bits generation shard serial slot
    → shard < 2 ^ bits.shard → serial < 2 ^ bits.serial → slot < 2 ^ 8 → IsNumberOf bits key number → HasParts generation shard serial slot key
HasParts-number bits key number generation shard serial slot parted low_a low_b low_c is =
    let same = number_of_parts-alone bits key.generation key.span.shard key.span.serial key.slot generation shard serial slot
    is.fits.shard_fits is.fits.serial_fits is.fits.slot_fits low_a low_b low_c (sym is.is ∙ parted) in
    record { generation_is = same.generations; shard_is = same.shards; serial_is = same.serials; slot_is = same.slots }

-- and these parts fit, as the key's do
pub HaveRoom-number : (bits : KeyBits) (key : Key) (number generation shard serial slot : ℕ) → number ≡ number_of_parts bits generation shard serial slot
    → shard < 2 ^ bits.shard → serial < 2 ^ bits.serial → slot < 2 ^ 8 → IsNumberOf bits key number → HaveRoom bits generation shard serial slot
HaveRoom-number bits key number generation shard serial slot parted low_a low_b low_c is =
    let has = HasParts-number bits key number generation shard serial slot parted low_a low_b low_c is in
    record {
      generation_fits = subst (λ n. n < 2 ^ bits.generation) has.generation_is is.fits.generation_fits;
      shard_fits = low_a;
      serial_fits = low_b;
      slot_fits = low_c;
    }

-- what follows from a fact on an answer of none
pub if_none : {X P Q : Type 0} (answer : Option X) → (P → Q) → IfNone answer P → IfNone answer Q
if_none None next fact = next fact
if_none (Some x) next fact = tt
