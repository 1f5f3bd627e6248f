use lib.ListN.{get_or}
use Rattle.std.proofs.Common.{◌≡◌, ◌∷◌, ◌≤◌, ◌<◌, [], List, arith, length, refl, subst}
use Rattle.teurlaks_c.specs.declared.replies.RawWord.{RawWord}
use Rattle.teurlaks_c.specs.SeatCalls.{SetsBy}
use Rattle.teurlaks_c.specs.Words.{word_of, words_of}
use Rattle.teurlaks_c.proofs.seats.set.Goals as goal

-- a list of one word is that word
one_word : (words : List RawWord) (other : RawWord) → 1 ≤ length words → length words < 2 → word_of (get_or words 0 other) ∷ [] ≡ words_of words
one_word [] other some few = absurd (omega (arith, some))
one_word (word ∷ []) other some few = refl
one_word (word ∷ next ∷ words) other some few = absurd (omega (arith, few))

pub returns-in-len1 : goal.returns-in-len1
returns-in-len1 c =
    subst (λ words. SetsBy c.args.handle.now.share c.args.key words c.set_one.result c.set_one.new.handle.share)
    (one_word c.args.words.now (record { low = 0; high = 0 }) c.in-len1.len_at_least c.in-len1.len_below) c.set_one.ensures
