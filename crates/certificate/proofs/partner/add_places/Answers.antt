use Rattle.std.proofs.Common.{◌≡◌, ◌∙◌, ◌&&◌, ◌||◌, ap, arith, eqb, false, sym, true, rules}
use Rattle.bitmap.specs.Slots.{has_bit}
use Rattle.certificate.specs.Chosen.{fits_among, is_of_class}
use Rattle.certificate.proofs.Places.{HasAdded-more, HasAdded-skip}
use Rattle.certificate.proofs.PartnersFilter.{fits-other_class, row-fits, row-within, rows_before}
use Rattle.certificate.proofs.partner.add_places.Goals as goal
use Rattle.certificate.proofs.partner.add_places.Goals.{else-is_of, then-is_of}

pub add_by_row-requires-clause-within : goal.add_by_row-requires-clause-within
add_by_row-requires-clause-within c = search (rules, row-within)

pub loop-place-preserved : goal.loop-place-preserved
loop-place-preserved c =
    let a = c.args in
    let place = c.loop-place.place in
    let y = c.index-owned-place.result in
    let is = c.index-owned-place.is in
    let low = c.loop-place-test.true in
    let have = c.loop-place.invariant in
    elim c.if-is_of.branch [
      | then-is_of w ↦
          let own : is_of_class a.number y ≡ true = sym c.is_of.ensures ∙ w.if-is_of.true in
          rw (w.fitting-is, w.row-is) (record {
            before = sym (rows_before a.number a.owned.now place c.loop-place.row y true low is own have.before);
            few = omega (arith, have.few);
            added = HasAdded-more (fits_among a.number a.sets.now) a.owned.now a.fitting.now.words place c.loop-place.fitting.words w.add_by_row.new.fitting.words y have.added low is
                (λ q. w.add_by_row.ensures.bits q
                ∙ ap (λ b. has_bit c.loop-place.fitting.words q || (eqb q place && b))
                (row-fits a.sets.now a.number a.owned.now a.rows.now place y c.requires.rows low is own c.row_words-words.result c.loop-place.row c.row_words-words.ensures have.before
                w.add_by_row.ensures.words));
          })
      | else-is_of w ↦
          let other = sym c.is_of.ensures ∙ w.if-is_of.false in
          rw (w.fitting-is, w.row-is) (record {
            before = let count = rows_before a.number a.owned.now place c.loop-place.row y false low is other have.before in omega (arith, count);
            few = omega (arith, have.few);
            added = HasAdded-skip (fits_among a.number a.sets.now) a.owned.now a.fitting.now.words place c.loop-place.fitting.words y have.added low is (fits-other_class a.sets.now a.number y other);
          })
    ]
