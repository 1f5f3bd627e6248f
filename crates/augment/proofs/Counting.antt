-- The listed pairs and the listed short set: no member twice, and how many there are
use Rattle.std.proofs.Common.{ℕ, ◌+◌, ◌<◌, ◌≡◌, ◌≢◌, Bool, true, false, List, [], ◌∷◌, length, map, Option, Some, None, refl, ◌∙◌, ap, inl, inr, arith, get_or, cond, zero, suc, rules}
use Rattle.std.specs.List.{AllByRecursion, IsDistinct, filter}
use Rattle.std.proofs.lemmas.Bool.{cases_Bool, or_left, or_right}
use Rattle.std.proofs.lemmas.List.{get_or_default}
use Rattle.certificate.specs.Sides.{among}
use Rattle.augment.specs.Mates.{mate}
use Rattle.augment.specs.Walks.{is_passed}
use Rattle.augment.specs.Listed.{pairs_of, is_short, short_of}
use Rattle.certificate.proofs.Members.{Tells, all_among}
use Rattle.augment.proofs.Listing.{apart_at}

pub each_left : {K : Type 0} (P : K → Type 0) (right left : List K) (ms : List (Option ℕ)) → AllByRecursion P left → AllByRecursion P (map (λ p. p.0) (pairs_of right left ms))
each_left P right (a ∷ left) (None ∷ ms) h = each_left P right left ms h.1
each_left P right (a ∷ left) (Some j ∷ ms) h = (h.0, each_left P right left ms h.1)
each_left P right left ms h = tt

pub left_distinct : {K : Type 0} (same : K → K → Bool) (right left : List K) (ms : List (Option ℕ)) → IsDistinct same left → IsDistinct same (map (λ p. p.0) (pairs_of right left ms))
unfolding IsDistinct
left_distinct same right [] ms d = tt
left_distinct same right (a ∷ left) [] d = tt
left_distinct same right (a ∷ left) (None ∷ ms) d = left_distinct same right left ms d.1
left_distinct same right (a ∷ left) (Some j ∷ ms) d = (each_left (λ y. same a y ≡ false) right left ms d.0, left_distinct same right left ms d.1)

each_kept : {K : Type 0} (P : K → Type 0) (reached : List Bool) (left : List K) (ms : List (Option ℕ)) → AllByRecursion P left → AllByRecursion P (short_of reached left ms)
each_kept P reached (a ∷ left) (m ∷ ms) h =
    let rest : AllByRecursion P (short_of reached left ms) = each_kept P reached left ms h.1 in
    elim (cases_Bool (is_short reached m)) [ inl e ↦ rw e (h.0, rest) | inr e ↦ rw e rest ]
each_kept P reached left ms h = tt

pub short_distinct : {K : Type 0} (same : K → K → Bool) (reached : List Bool) (left : List K) (ms : List (Option ℕ)) → IsDistinct same left → IsDistinct same (short_of reached left ms)
unfolding IsDistinct
short_distinct same reached [] ms d = tt
short_distinct same reached (a ∷ left) [] d = tt
short_distinct same reached (a ∷ left) (m ∷ ms) d =
    let rest : IsDistinct same (short_of reached left ms) = short_distinct same reached left ms d.1 in
    elim (cases_Bool (is_short reached m)) [ inl e ↦ rw e (each_kept (λ y. same a y ≡ false) reached left ms d.0, rest) | inr e ↦ rw e rest ]

each_filtered : {K : Type 0} (P : K → Type 0) (test : K → Bool) (ys : List K) → AllByRecursion P ys → AllByRecursion P (filter test ys)
each_filtered P test [] h = tt
each_filtered P test (y ∷ ys) h =
    let rest : AllByRecursion P (filter test ys) = each_filtered P test ys h.1 in
    elim (cases_Bool (test y)) [ inl e ↦ rw e (h.0, rest) | inr e ↦ rw e rest ]

pub filter_distinct : {K : Type 0} (same : K → K → Bool) (test : K → Bool) (ys : List K) → IsDistinct same ys → IsDistinct same (filter test ys)
unfolding IsDistinct
filter_distinct same test [] d = tt
filter_distinct same test (y ∷ ys) d =
    let rest : IsDistinct same (filter test ys) = filter_distinct same test ys d.1 in
    elim (cases_Bool (test y)) [ inl e ↦ rw e (each_filtered (λ z. same y z ≡ false) test ys d.0, rest) | inr e ↦ rw e rest ]

-- members that pass have what each passing member has
each_passing : {K : Type 0} (same : K → K → Bool) (P : K → Type 0) (test : K → Bool) (zs ys : List K) → ((b : K) → among same b zs ≡ true → test b ≡ true → P b)
    → AllByRecursion (λ b. among same b zs ≡ true) ys → AllByRecursion P (filter test ys)
each_passing same P test zs [] h k = tt
each_passing same P test zs (y ∷ ys) h k =
    let rest : AllByRecursion P (filter test ys) = each_passing same P test zs ys h k.1 in
    elim (cases_Bool (test y)) [ inl e ↦ rw e (h y k.0 e, rest) | inr e ↦ rw e rest ]

pub each_in_filter : {K : Type 0} (same : K → K → Bool) → Tells same → (P : K → Type 0) (test : K → Bool) (ys : List K)
    → ((b : K) → among same b ys ≡ true → test b ≡ true → P b) → AllByRecursion P (filter test ys)
each_in_filter same t P test ys h = each_passing same P test ys ys h (all_among same t ys)

-- no owned place has two mates
pub each_second : {K : Type 0} (P : K → Type 0) (right left : List K) (ms : List (Option ℕ)) → ((i j : ℕ) (d : K) → mate ms i ≡ Some j → P (get_or right j d))
    → AllByRecursion P (map (λ p. p.1) (pairs_of right left ms))
each_second P right (a ∷ left) (None ∷ ms) h = each_second P right left ms (λ i j d m. h (suc i) j d m)
each_second P right (a ∷ left) (Some j ∷ ms) h = (h 0 j a refl, each_second P right left ms (λ i j d m. h (suc i) j d m))
each_second P right left ms h = tt

pub right_distinct : {K : Type 0} (same : K → K → Bool) → Tells same → (right left : List K) (ms : List (Option ℕ)) → IsDistinct same right
    → ((i j : ℕ) → mate ms i ≡ Some j → j < length right) → ((i a j : ℕ) → mate ms i ≡ Some j → mate ms a ≡ Some j → i ≡ a)
    → IsDistinct same (map (λ p. p.1) (pairs_of right left ms))
unfolding IsDistinct
right_distinct same t right [] ms u k once = tt
right_distinct same t right (a ∷ left) [] u k once = tt
right_distinct same t right (a ∷ left) (None ∷ ms) u k once = right_distinct same t right left ms u (λ i j m. k (suc i) j m)
    (λ i b j m n. let e : suc i ≡ suc b = once (suc i) (suc b) j m n in omega arith)
right_distinct same t right (a ∷ left) (Some q ∷ ms) u k once =
    let q_in : q < length right = k 0 q refl in (
      each_second (λ y. same (get_or right q a) y ≡ false) right left ms
          (λ i j d m.
          let j_in : j < length right = k (suc i) j m in
          let qj : q ≢ j = λ e. let z : 0 ≡ suc i = once 0 (suc i) j (ap (λ x. Some x) e) m in omega arith in
          ap (λ y. same y (get_or right j d)) (get_or_default right q a d q_in) ∙ apart_at same t right q j d u q_in j_in qj),
      right_distinct same t right left ms u (λ i j m. k (suc i) j m) (λ i b j m n. let e : suc i ≡ suc b = once (suc i) (suc b) j m n in omega arith),
    )

-- the passed ids of the right side that have a mate
abbrev pub passed_of : {K : Type 0} → List Bool → List K → List K → List (Option ℕ) → List K
passed_of reached right (a ∷ left) (None ∷ ms) = passed_of reached right left ms
passed_of reached right (a ∷ left) (Some j ∷ ms) = cond (is_passed reached j) (get_or right j a ∷ passed_of reached right left ms) (passed_of reached right left ms)
passed_of reached right other other_2 = []

pub passed_at : {K : Type 0} (same : K → K → Bool) → Tells same → (reached : List Bool) (right left : List K) (ms : List (Option ℕ)) (i j : ℕ) (d : K)
    → length ms ≡ length left → mate ms i ≡ Some j → j < length right → is_passed reached j ≡ true
    → among same (get_or right j d) (passed_of reached right left ms) ≡ true
passed_at same t reached right [] (x ∷ ms) i j d n m j_in e = absurd (omega arith)
passed_at same t reached right (a ∷ left) [] i j d n m j_in e = absurd (omega arith)
passed_at same t reached right (a ∷ left) (None ∷ ms) (suc i) j d n m j_in e = passed_at same t reached right left ms i j d (omega arith) m j_in e
passed_at same t reached right (a ∷ left) (Some q ∷ ms) zero j d n m j_in e = search (rules, get_or_default, or_left)
passed_at same t reached right (a ∷ left) (Some q ∷ ms) (suc i) j d n m j_in e =
    let rest : among same (get_or right j d) (passed_of reached right left ms) ≡ true = passed_at same t reached right left ms i j d (omega arith) m j_in e in
    elim (cases_Bool (is_passed reached q)) [
      | inl f ↦ rw f (or_right (same (get_or right j d) (get_or right q a)) _ rest)
      | inr f ↦ rw f rest
    ]
passed_at same t reached right left ms i j d n m j_in e = let no : None ≡ Some j = m in cc

-- each place is left out, or has a mate that was passed, or one that is not
pub counted : {K : Type 0} (reached : List Bool) (right left : List K) (ms : List (Option ℕ)) → length ms ≡ length left
    → length (pairs_of right left ms) + length (short_of reached left ms) ≡ length left + length (passed_of reached right left ms)
counted reached right [] [] n = refl
counted reached right (a ∷ left) (None ∷ ms) n =
    let rest : length (pairs_of right left ms) + length (short_of reached left ms) ≡ length left + length (passed_of reached right left ms) = counted reached right left ms (omega arith) in
    omega arith
counted reached right (a ∷ left) (Some j ∷ ms) n =
    let rest : length (pairs_of right left ms) + length (short_of reached left ms) ≡ length left + length (passed_of reached right left ms) = counted reached right left ms (omega arith) in
    elim (cases_Bool (is_passed reached j)) [ inl e ↦ rw e (omega arith) | inr e ↦ rw e (omega arith) ]
counted reached right left ms n = absurd (omega arith)
