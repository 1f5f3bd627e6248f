use Rattle.std.proofs.Common.{ℕ, ◌+◌, ◌*◌, ◌/◌, ◌%◌, ◌^◌, ◌<◌, ◌≡◌, ◌∙◌, List, bit_and, get_or, length, refl, arith, true, w64, sym, inl, inr}
use Rattle.std.proofs.lemmas.Bool.{cases_lt}
use Rattle.std.specs.Int.{trailing_zeros}
use Rattle.std.proofs.Math.Nat.{div-le_self}
use Rattle.bitmap.specs.Slots.{has_bit}
use Rattle.mesh_graph.proofs.Bits.{IsClear, both, both-fits, both-word, clear-first, clear-run, clear-word, first-least, first-set, has_bit-past, in-among, in-words, left-least, left-set, length-both, not-in-words}
use Rattle.mesh_graph.proofs.graph.next_shared_bit.Goals as goal

-- the first of the words that are looked at
module _ (words among : List ℕ) (from : ℕ) (same : length among ≡ length words) (fits : get_or words (from / 64) 0 < 2 ^ 64) where
  abbrev word : ℕ
  word = bit_and (get_or words (from / 64) 0) (get_or among (from / 64) 0)

  abbrev left : ℕ
  left = word / 2 ^ (from % 64)

  small : left < 2 ^ 64
  small = omega (arith, div-le_self word (2 ^ (from % 64)), both-fits (get_or words (from / 64) 0) (get_or among (from / 64) 0) fits)

  found : 0 < left → has_bit (both words among) (from + trailing_zeros w64 left) ≡ true
  found some = left-set (both words among) from word left (both-word words among (from / 64) same) (both-fits (get_or words (from / 64) 0) (get_or among (from / 64) 0) fits) refl some small

  least : 0 < left → IsClear (both words among) from (from + trailing_zeros w64 left)
  least some = left-least (both words among) from word left (both-word words among (from / 64) same) (both-fits (get_or words (from / 64) 0) (get_or among (from / 64) 0) fits) refl some small

pub returns-then-left-ne0-clause-set : goal.returns-then-left-ne0-clause-set
returns-then-left-ne0-clause-set c =
    let a = c.args in
    in-words a.words.now a.among.now c.requires.same _ (found a.words.now a.among.now a.from c.requires.same (c.type_inv.words (a.from / 64)).fits (omega (arith, c.if-left-ne0.true)))

pub returns-then-left-ne0-clause-among : goal.returns-then-left-ne0-clause-among
returns-then-left-ne0-clause-among c =
    let a = c.args in
    in-among a.words.now a.among.now c.requires.same _ (found a.words.now a.among.now a.from c.requires.same (c.type_inv.words (a.from / 64)).fits (omega (arith, c.if-left-ne0.true)))

pub returns-then-left-ne0-clause-least : goal.returns-then-left-ne0-clause-least
returns-then-left-ne0-clause-least c = λ k late less there.
    let a = c.args in
    not-in-words a.words.now a.among.now c.requires.same k
    (least a.words.now a.among.now a.from c.requires.same (c.type_inv.words (a.from / 64)).fits (omega (arith, c.if-left-ne0.true)) k late less) there

pub loop-k-init : goal.loop-k-init
loop-k-init c =
    let a = c.args in
    let first : ℕ = get_or a.words.now (a.from / 64) 0 in
    let other : ℕ = get_or a.among.now (a.from / 64) 0 in
    clear-run (both a.words.now a.among.now) a.from (a.from / 64 + 1) c.past_apart-k.result
    (clear-first (both a.words.now a.among.now) a.from (bit_and first other) (bit_and first other / 2 ^ (a.from % 64))
    (both-word a.words.now a.among.now (a.from / 64) c.requires.same)
    (both-fits first other (c.type_inv.words (a.from / 64)).fits) refl c.if-left-ne0.false)
    (λ q late less. sym (both-word a.words.now a.among.now q c.requires.same) ∙ c.past_apart-k.ensures.apart q late less)

-- a later word
module _ (words among : List ℕ) (from k : ℕ) (same : length among ≡ length words) (fits : get_or words k 0 < 2 ^ 64)
    (clear : IsClear (both words among) from (64 * k)) (some : 0 < bit_and (get_or words k 0) (get_or among k 0)) where
  abbrev later : ℕ
  later = bit_and (get_or words k 0) (get_or among k 0)

  later-found : has_bit (both words among) (64 * k + trailing_zeros w64 later) ≡ true
  later-found = first-set (both words among) from k clear later (both-word words among k same) some (both-fits (get_or words k 0) (get_or among k 0) fits)

  later-least : IsClear (both words among) from (64 * k + trailing_zeros w64 later)
  later-least = first-least (both words among) from k clear later (both-word words among k same) some (both-fits (get_or words k 0) (get_or among k 0) fits)

pub returns-then-word-ne0-clause-set : goal.returns-then-word-ne0-clause-set
returns-then-word-ne0-clause-set c =
    let a = c.args in
    in-words a.words.now a.among.now c.requires.same _
    (later-found a.words.now a.among.now a.from c.loop-k.k c.requires.same (c.type_inv.words c.loop-k.k).fits c.loop-k.invariant
    (omega (arith, c.if-word-ne0.true)))

pub returns-then-word-ne0-clause-among : goal.returns-then-word-ne0-clause-among
returns-then-word-ne0-clause-among c =
    let a = c.args in
    in-among a.words.now a.among.now c.requires.same _
    (later-found a.words.now a.among.now a.from c.loop-k.k c.requires.same (c.type_inv.words c.loop-k.k).fits c.loop-k.invariant
    (omega (arith, c.if-word-ne0.true)))

pub returns-then-word-ne0-clause-least : goal.returns-then-word-ne0-clause-least
returns-then-word-ne0-clause-least c = λ k late less there.
    let a = c.args in
    not-in-words a.words.now a.among.now c.requires.same k
    (later-least a.words.now a.among.now a.from c.loop-k.k c.requires.same (c.type_inv.words c.loop-k.k).fits c.loop-k.invariant
    (omega (arith, c.if-word-ne0.true)) k late less) there

pub loop-k-preserved : goal.loop-k-preserved
loop-k-preserved c =
    let a = c.args in
    clear-word (both a.words.now a.among.now) a.from c.loop-k.k c.loop-k.invariant (sym (both-word a.words.now a.among.now c.loop-k.k c.requires.same) ∙ c.if-word-ne0.false)

pub returns-clause-none : goal.returns-clause-none
returns-clause-none c = λ k late there.
    let a = c.args in
    let long = length-both a.words.now a.among.now c.requires.same in
    not-in-words a.words.now a.among.now c.requires.same k (elim (cases_lt k (64 * c.loop-k.k)) [
      | inl low ↦ c.loop-k.invariant k late low
      | inr high ↦ has_bit-past (both a.words.now a.among.now) k (omega (arith, c.loop-k-test.false))
    ]) there
