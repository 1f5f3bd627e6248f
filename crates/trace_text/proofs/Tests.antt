-- What a test that was made tells.
use Rattle.trace_text.proofs.Names.{◌≡◌, ◌⊎◌, Bool, true, false, cond, refl, inl, inr}

-- which way a test went
pub chosen : {X : Type 0} (b : Bool) (x y z : X) → cond b x y ≡ z → ((b ≡ true) × (x ≡ z)) ⊎ ((b ≡ false) × (y ≡ z))
chosen true x y z e = inl (refl, e)
chosen false x y z e = inr (refl, e)
