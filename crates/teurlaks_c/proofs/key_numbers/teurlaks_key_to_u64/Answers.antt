use Rattle.std.proofs.Common.{◌∙◌, inl, inr, refl, subst, sym}
use Rattle.key_bits.specs.Numbers.{Fits}
use Rattle.span.proofs.Ids.{same_id}
use Rattle.span.proofs.Next.{same_key-parts}
use Rattle.teurlaks_c.proofs.key_numbers.teurlaks_key_to_u64.Goals as goal

pub returns-in_default-key_of : goal.returns-in_default-key_of
returns-in_default-key_of c =
    inr (inl (
      c.no_number-in_default-key_of.ensures.status,
      c.no_number-in_default-key_of.ensures.number,
      c.in-Some.bits,
      c.in-Some.ensures,
      λ k is fits. c.in_default-key_of.ensures k is,
    ))

pub returns-in-Some-to_number : goal.returns-in-Some-to_number
returns-in-Some-to_number c = inl (refl, c.in-Some.bits, c.in-Some-key_of.key, c.in-Some.ensures, c.in-Some-key_of.ensures, c.in-Some-to_number.ensures.number)

pub returns-in-None : goal.returns-in-None
returns-in-None c =
    let key = c.in-Some-key_of.key in
    let named = c.in-Some-key_of.ensures in
    inr (inl (
      c.no_number-in-None.ensures.status,
      c.no_number-in-None.ensures.number,
      c.in-Some.bits,
      c.in-Some.ensures,
      λ k is fits. c.in-None.ensures.none (subst (Fits c.in-Some.bits)
          (same_key-parts k key (same_id k.span key.span (is.shard ∙ sym named.shard) (is.serial ∙ sym named.serial)) (is.slot ∙ sym named.slot) (is.generation ∙ sym named.generation)) fits),
    ))
