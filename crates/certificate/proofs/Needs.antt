-- Whether version 2 has no text for a certificate, by its lists.
use Rattle.std.proofs.Common.{◌≡◌, ◌||◌, Bool, List, [], ◌∷◌, map, refl, ap, rules}
use Rattle.std.specs.List.{list_any}
use Rattle.certificate.specs.declared.certificate.Certificate.{Certificate}
use Rattle.certificate.specs.Grammar.{entry_parts, id_parts, is_beyond_version_two, is_large, needs_version_three, outline_of}

pub list_any-map : {X Y : Type 0} (f : X → Y) (test : Y → Bool) (xs : List X) → list_any test (map f xs) ≡ list_any (λ x. test (f x)) xs
list_any-map f test [] = refl
list_any-map f test (x ∷ xs) = ap (λ b. test (f x) || b) (list_any-map f test xs)

pub needs_version_three-outline_of : (c : Certificate) (abandoned owned folds short : Bool)
    → abandoned ≡ list_any (λ x. is_beyond_version_two (entry_parts x)) c.snapshot.abandoned → owned ≡ list_any (λ x. is_beyond_version_two (entry_parts x)) c.snapshot.owned
    → folds ≡ list_any (λ p. is_large (id_parts p.0) || is_large (id_parts p.1)) c.plan → short ≡ list_any (λ id. is_large (id_parts id)) c.short
    → (abandoned || (owned || (folds || short))) ≡ needs_version_three (outline_of c)
needs_version_three-outline_of c abandoned owned folds short a o f s = search (rules, list_any-map)
