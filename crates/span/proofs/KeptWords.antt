-- A log's lists of words and of bases: what is added leaves the earlier changes as they were.
use Rattle.std.proofs.Common.{zero, suc, ◌≡◌, ℕ, ◌+◌, ◌-◌, ◌*◌, ◌/◌, ◌<◌, ◌≤◌, List, [], ◌∷◌, ◌++◌, get_or, length, length-append, length-take, take, Some, slice_get, ap, sym, subst, ◌∙◌, refl, inl, inr, arith, rules}
use Rattle.std.proofs.lemmas.Bool.{cases_lt}
use Rattle.std.proofs.lemmas.List.{append-nil, drop-append-le, get_or_append_left, take-append-le, length-drop}
use Rattle.std.proofs.Math.Seq.{drop-append_seam, get_or-append_seam, take-length}
use Rattle.std.proofs.lemmas.Option.{same_Some, slice_get_read, slice_get_within}
use Rattle.span.specs.Stored.{AreBlocks, AreWithin, base_of, change_in, change_of, changes_in, first_of, run_from, width_in}
use Rattle.span.proofs.Changes.{slice_get-push}
use Rattle.span.proofs.Widths.{width_of-most}
use Rattle.span.specs.declared.stored.Kind.{Kind}
use Rattle.span.specs.declared.stored.Kind.TheVariants.{Put, Set, Free}
use Rattle.span.specs.declared.stored.Stored.{Stored}
use Rattle.span.specs.declared.stored.TheConstants.{BLOCK}

pub run_from-more : (words more : List ℕ) (first width : ℕ) → first + width ≤ length words → run_from (words ++ more) first width ≡ run_from words first width
run_from-more words more first width within = search (rules, drop-append-le, take-append-le, length-drop)

pub run_from-last : (words more : List ℕ) (width : ℕ) → length more ≡ width → run_from (words ++ more) (length words) width ≡ more
run_from-last words more width long = ap (take width) (drop-append_seam words more) ∙ ap (λ n. take n more) (sym long) ∙ take-length more

-- no object has more than 16 words
width_low : (kind : Kind) → width_in kind ≤ 16
width_low (Put class) = width_of-most class
width_low (Set class) = width_of-most class
width_low Free = omega arith

-- more bases leave those that are noted as they were
base_of-more : (bases more : List ℕ) (block : ℕ) → block ≤ length bases → base_of (bases ++ more) block ≡ base_of bases block
base_of-more bases more zero low = refl
base_of-more bases more (suc block) low = get_or_append_left bases more 0 block (omega arith)

base_of-last : (bases : List ℕ) (first block : ℕ) → block ≡ length bases + 1 → base_of (bases ++ first ∷ []) block ≡ first
base_of-last bases first zero last = absurd (omega (arith, last))
base_of-last bases first (suc block) last =
    let same : block ≡ length bases = omega (arith, last) in
    ap (λ n. get_or (bases ++ first ∷ []) n 0) same ∙ get_or-append_seam bases first [] 0

module _ (words more bases more_bases : List ℕ) where
  change_in-more : (place : ℕ) (stored : Stored) → place / BLOCK ≤ length bases → first_of bases place stored + width_in stored.kind ≤ length words
      → change_in (words ++ more) (bases ++ more_bases) place stored ≡ change_in words bases place stored
  change_in-more place stored low within = search (rules, base_of-more, run_from-more)

  changes_in-more : (place : ℕ) (changes : List Stored) → place + length changes ≤ BLOCK * (length bases + 1)
      → ((at : ℕ) (stored : Stored) → slice_get changes at ≡ Some stored → first_of bases (place + at) stored + width_in stored.kind ≤ length words)
      → changes_in (words ++ more) (bases ++ more_bases) place changes ≡ changes_in words bases place changes
  changes_in-more place [] low within = refl
  changes_in-more place (stored ∷ changes) low within =
      let here : place + 0 ≡ place = omega arith in
      let inside : first_of bases place stored + width_in stored.kind ≤ length words =
      subst (λ n. first_of bases n stored + width_in stored.kind ≤ length words) here (within 0 stored refl) in
      λ i. change_in-more place stored (omega (arith, low)) inside i
      ∷ changes_in-more (place + 1) changes (omega (arith, low))
      (λ at other is. let next : place + suc at ≡ (place + 1) + at = omega arith in
      subst (λ n. first_of bases n other + width_in other.kind ≤ length words) next (within (suc at) other is)) i

changes_in-push : (words bases : List ℕ) (place : ℕ) (changes : List Stored) (stored : Stored)
    → changes_in words bases place (changes ++ stored ∷ []) ≡ changes_in words bases place changes ++ change_in words bases (place + length changes) stored ∷ []
changes_in-push words bases place [] stored = let here : place ≡ place + 0 = omega arith in ap (λ n. change_in words bases n stored ∷ []) here
changes_in-push words bases place (first ∷ changes) stored = search (rules, (changes_in-push words bases (place + 1) changes stored))

pub length-changes_in : (words bases : List ℕ) (place : ℕ) (changes : List Stored) → length (changes_in words bases place changes) ≡ length changes
length-changes_in words bases place [] = refl
length-changes_in words bases place (stored ∷ changes) = ap suc (length-changes_in words bases (place + 1) changes)

slice_get-from : (words bases : List ℕ) (place : ℕ) (changes : List Stored) (at : ℕ) (stored : Stored) → slice_get changes at ≡ Some stored
    → slice_get (changes_in words bases place changes) at ≡ Some (change_in words bases (place + at) stored)
slice_get-from words bases place [] at stored is = absurd cc
slice_get-from words bases place (first ∷ changes) zero stored is = search (rules, same_Some)
slice_get-from words bases place (first ∷ changes) (suc at) stored is = search (rules, (slice_get-from words bases (place + 1) changes at stored is))

-- the change at a place is the one that is stored there
pub slice_get-changes_in : (words bases : List ℕ) (changes : List Stored) (place : ℕ) (stored : Stored) → slice_get changes place ≡ Some stored
    → slice_get (changes_in words bases 0 changes) place ≡ Some (change_in words bases place stored)
slice_get-changes_in words bases changes place stored is =
    let here : 0 + place ≡ place = omega arith in
    slice_get-from words bases 0 changes place stored is ∙ ap (λ n. Some (change_in words bases n stored)) here

-- the change that is read at a place
pub stored_at : (words bases : List ℕ) (changes : List Stored) (place : ℕ) (stored : Stored) → place < length (changes_in words bases 0 changes)
    → stored ≡ get_or changes place stored → slice_get changes place ≡ Some stored
stored_at words bases changes place stored inside is = search (rules, slice_get_read, length-changes_in)

-- the bases once the next change's block has one, as it is noted where it is new
record HasBase (len : ℕ) (bases after : List ℕ) (changes : ℕ) : Type 0 where
  pub more : List ℕ
  pub items : after ≡ bases ++ more
  pub count : length after ≡ changes / BLOCK
  pub begun : base_of after (changes / BLOCK) ≤ len
  pub short : len ≤ base_of after (changes / BLOCK) + 16 * (changes - BLOCK * (changes / BLOCK))

HasBase-begun : (len : ℕ) (bases after : List ℕ) (changes block : ℕ) → block ≡ changes / BLOCK → AreBlocks len bases changes
    → (block ≤ length bases → after ≡ bases) → (length bases < block → after ≡ bases ++ len ∷ []) → HasBase len bases after changes
HasBase-begun len bases after changes block is blocks noted new = search (rules, cases_lt, base_of-last, length-append, append-nil)

-- one more change, whose words stand last, behind its block's base
module _ (words object bases after : List ℕ) (changes : List Stored) (kind : Kind) (slot generation offset : ℕ)
    (within : AreWithin (length words) bases changes) (blocks : AreBlocks (length words) bases (length changes))
    (has : HasBase (length words) bases after (length changes)) (long : length object ≡ width_in kind)
    (is : base_of after (length changes / BLOCK) + offset ≡ length words) where
  abbrev stored : Stored
  stored = record { kind = kind; slot = slot; offset = offset; generation = generation }

  earlier : (at : ℕ) (other : Stored) → slice_get changes at ≡ Some other → first_of after at other ≡ first_of bases at other
  earlier at other there = search (rules, slice_get_within, base_of-more)

  within-push : AreWithin (length (words ++ object)) after (changes ++ stored ∷ [])
  within-push at other there = elim (slice_get-push changes stored other at there) [
    | inl w ↦ omega (arith, within at other w.0, earlier at other w.0, length-append words object)
    | inr w ↦
        let all = length-append changes (stored ∷ []) in
        let inside = slice_get_within (changes ++ stored ∷ []) at other there in
        let last : at ≡ length changes = omega (arith, inside, all, ap length w.1, length-take at (changes ++ stored ∷ [])) in
        rw (← w.0) (omega (arith, ap (λ n. base_of after (n / BLOCK)) last, is, long, length-append words object))
  ]

  blocks-push : AreBlocks (length (words ++ object)) after (length (changes ++ stored ∷ []))
  blocks-push = search (rules, length-append, width_low)

  changes_in-kept : changes_in (words ++ object) after 0 (changes ++ stored ∷ [])
      ≡ changes_in words bases 0 changes ++ change_of kind slot generation object ∷ []
  changes_in-kept = search (rules, changes_in-push, changes_in-more, run_from-last)

-- what a log's lists are once a change was added
pub record IsPushed (words object bases after : List ℕ) (changes : List Stored) (stored : Stored) : Type 0 where
  pub within : AreWithin (length (words ++ object)) after (changes ++ stored ∷ [])
  pub blocks : AreBlocks (length (words ++ object)) after (length (changes ++ stored ∷ []))
  pub changes_are : changes_in (words ++ object) after 0 (changes ++ stored ∷ [])
      ≡ changes_in words bases 0 changes ++ change_of stored.kind stored.slot stored.generation object ∷ []

-- a change is added after its block has its base, which was read from these bases
pub is_pushed : (words object bases after read : List ℕ) (changes : List Stored) (kind : Kind) (slot generation first count base : ℕ)
    → AreWithin (length words) bases changes → AreBlocks (length words) bases (length changes)
    → first ≡ length words → count ≡ length changes
    → (count / BLOCK ≤ length bases → after ≡ bases) → (length bases < count / BLOCK → after ≡ bases ++ first ∷ [])
    → read ≡ after → base ≡ base_of read (count / BLOCK) → length object ≡ width_in kind
    → IsPushed words object bases after changes (record { kind = kind; slot = slot; offset = first - base; generation = generation })
is_pushed words object bases after read changes kind slot generation first count base within blocks first_is count_is noted new read_is base_is long =
    let has : HasBase (length words) bases after (length changes) =
    HasBase-begun (length words) bases after (length changes) (count / BLOCK) (ap (λ n. n / BLOCK) count_is) blocks noted
    (λ next. new next ∙ ap (λ n. bases ++ n ∷ []) first_is) in
    let same : base ≡ base_of after (length changes / BLOCK) = base_is ∙ (λ i. base_of (read_is i) (count_is i / BLOCK)) in
    let is : base_of after (length changes / BLOCK) + (first - base) ≡ length words = omega (arith, same, has.begun, first_is) in
    record {
      within = within-push words object bases after changes kind slot generation (first - base) within blocks has long is;
      blocks = blocks-push words object bases after changes kind slot generation (first - base) within blocks has long is;
      changes_are = changes_in-kept words object bases after changes kind slot generation (first - base) within blocks has long is;
    }
