-- Pages of zeros, or none, and a page that is merged into another.
use Rattle.std.proofs.Common.{◌≡◌, ℕ, ◌/◌, ◌<◌, ◌≤◌, ◌⊎◌, Bool, true, false, cond, Option, None, Some, List, length, get_or, sym, ◌∙◌, refl, inl, inr, arith}
use Rattle.std.specs.Prelude.{IsSome, unwrap_or}
use Rattle.std.specs.FinSet.{contains}
use Rattle.std.proofs.lemmas.Bool.{cases_lt, false≢true}
use Rattle.std.proofs.lemmas.List.{get_or_past}
use Rattle.std.proofs.lemmas.List.FromFn.{fill_by_all}
use Rattle.bitmap.specs.Slots.{SlotSet}
use Rattle.bitmap.specs.declared.bits.TheConstants.{SLOTS}
use Rattle.span.specs.Classes.{width_of}
use Rattle.span.specs.declared.class.Class.{Class}
use Rattle.page.specs.Blocks.{IsMerged}
use Rattle.page.specs.Words.{Words, blank_page, copied, padded, page_of, same_words}
use Rattle.page.proofs.Copied.{same_both}
use Rattle.page.proofs.Padded.{get_or-padded}

-- the words before the place are merged, and the others are as they were
pub record IsMerging (class : Class) (slots : SlotSet) (before others now : List ℕ) (place : ℕ) : Type 0 where
  pub long : length now ≡ length before
  pub done : (k : ℕ) → k < place → get_or now k 0 ≡ cond (contains slots (k / width_of class)) (get_or before k 0) (get_or others k 0)
  pub left : (k : ℕ) → place ≤ k → get_or now k 0 ≡ get_or before k 0

-- a longer list with the words of a shorter one outside of the slots is that one's page with the
-- objects of the longer
pub IsMerged-copied : (class : Class) (slots : SlotSet) (before others now : List ℕ) → IsMerged class slots before others now → length now ≡ length before
    → length others ≤ length before → padded now ≡ copied (padded others) class slots (padded before)
unfolding copied
IsMerged-copied class slots before others now merged long short = same_words _ _
    (fill_by_all (λ j. cond (contains slots (j / width_of class)) (get_or (padded before).items j 0) (get_or (padded others).items j 0)) (padded now).items SLOTS 0 (padded now).whole
    (λ k low. get_or-padded now k low ∙ each k (cases_lt k (length before))
    ∙ (λ i. cond (contains slots (k / width_of class)) (sym (get_or-padded before k low) i) (sym (get_or-padded others k low) i))))
  where
    each : (k : ℕ) → (k < length before) ⊎ (length before ≤ k) → get_or now k 0 ≡ cond (contains slots (k / width_of class)) (get_or before k 0) (get_or others k 0)
    each k (inl here) = merged k here
    each k (inr past) =
        rw (get_or_past now k 0 (omega (arith, long, past)), get_or_past before k 0 past, get_or_past others k 0 (omega (arith, short, past)))
        (sym (same_both (contains slots (k / width_of class)) 0))

-- what a group has of a page, as its words: zeros if it has none
pub words_of-page_of : (is_paged : Bool) (words : Words) → (is_paged ≡ false → words ≡ blank_page) → unwrap_or (page_of is_paged words) blank_page ≡ words
words_of-page_of true words none = refl
words_of-page_of false words none = sym (none refl)

pub page_of-there : (is_paged : Bool) (words : Words) → IsSome (page_of is_paged words) → is_paged ≡ true
page_of-there true words there = refl
page_of-there false words there = absurd (false≢true there)

pub page_there : (page : Option Words) → IsSome page → page ≡ Some (unwrap_or page blank_page)
page_there (Some words) there = refl
page_there None there = absurd (false≢true there)
