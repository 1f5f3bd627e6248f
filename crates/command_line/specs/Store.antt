-- What becomes of the file that is named for a certificate.
use Rattle.std.specs.Prelude.{◌≡◌, ◌≢◌, ℕ, List, [], ◌∷◌, Option, Some, None, ⊤}

-- if a file's bytes are told, they are these
abbrev pub Tells : Option (List ℕ) → List ℕ → Type 0
Tells None bytes = ⊤
Tells (Some told) bytes = told ≡ bytes

-- all files but that of the path hold what they held
abbrev pub KeepsOthers : {D : Type 0} → (held : D → List ℕ → Option (List ℕ)) → (path : List ℕ)
    → (old new : D) → Type 0
KeepsOthers held path old new = (other : List ℕ) → other ≢ path → held new other ≡ held old other

-- the named file holds the certificate and nothing else, and the others what they held; where none
-- is named, or there is no certificate, no file was written
abbrev pub IsSaved : {D : Type 0} → (held : D → List ℕ → Option (List ℕ)) → (path : Option (List ℕ))
    → (certificate : List ℕ) → (old new : D) → Type 0
IsSaved held None certificate old new = new ≡ old
IsSaved held (Some path) [] old new = new ≡ old
IsSaved held (Some path) (byte ∷ bytes) old new = Tells (held new path) (byte ∷ bytes)
    × KeepsOthers held path old new

-- there was a certificate to write and a file named for it, of which nothing is known now; the
-- others hold what they held
abbrev pub IsUnsaved : {D : Type 0} → (held : D → List ℕ → Option (List ℕ))
    → (path : Option (List ℕ)) → (certificate : List ℕ) → (old new : D) → Type 0
IsUnsaved held (Some path) (byte ∷ bytes) old new = KeepsOthers held path old new
IsUnsaved held _ _ old new = ⊥
