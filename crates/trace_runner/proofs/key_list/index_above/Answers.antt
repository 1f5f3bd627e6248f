use Rattle.trace_runner.proofs.Names.{◌≡◌, ◌∙◌, ◌-◌, Some, arith, get_or, slice_get, slice_get-get_or, Stretch}
use Rattle.trace_runner.proofs.Giving.{get_or-found, get_or-given, get_or-refused, row_begins, row_last}
use Rattle.trace_runner.proofs.key_list.index_above.Goals as goal

pub returns-then-count-eq0 : goal.returns-then-count-eq0
returns-then-count-eq0 c keys end last row less few = absurd
    (row_begins c.args.closed.now end last c.args.place row less
    (λ other one from there. c.count_to-count.ensures.others other one (omega (arith, from, c.if-count-eq0.true)) there))

pub overflow_sub-below : goal.overflow_sub-below
overflow_sub-below c =
    c.count_to-count.ensures.above (c.count_to-count.result - 1) _ (omega (arith, c.if-count-eq0.false))
    (slice_get-get_or c.args.closed.now (c.count_to-count.result - 1) _ (omega (arith, c.count_to-count.ensures.within, c.if-count-eq0.false)))

pub overflow_add-result : goal.overflow_add-result
overflow_add-result c =
    let index = c.count_to-count.result - 1 in
    let stretch : Stretch = get_or c.args.closed.now index (record { place = 0; above = 0; given = 0; refused = 0 }) in
    let here : slice_get c.args.closed.now index
    ≡ Some stretch = slice_get-get_or c.args.closed.now index (record { place = 0; above = 0; given = 0; refused = 0 })
    (omega (arith, c.count_to-count.ensures.within, c.if-count-eq0.false)) in
    omega (arith, row_last c.args.closed.now 0 0 c.requires.0 c.requires.1 index stretch c.requires.2 here, c.requires.4, c.if-below-stretch.false)

pub returns-then-below-stretch : goal.returns-then-below-stretch
returns-then-below-stretch c keys end last row less few =
    let index = c.count_to-count.result - 1 in
    let stretch : Stretch = get_or c.args.closed.now index (record { place = 0; above = 0; given = 0; refused = 0 }) in
    let here : slice_get c.args.closed.now index
    ≡ Some stretch = slice_get-get_or c.args.closed.now index (record { place = 0; above = 0; given = 0; refused = 0 })
    (omega (arith, c.count_to-count.ensures.within, c.if-count-eq0.false)) in
    let found = get_or-found keys c.args.closed.now end last c.count_to-count.result c.args.place stretch row less few here
    (omega (arith, c.if-count-eq0.false)) c.count_to-count.ensures.above c.count_to-count.ensures.others in
    found.1.1 ∙ get_or-refused keys stretch (c.args.place - stretch.place) c.if-below-stretch.true

pub returns : goal.returns
returns c keys end last row less few =
    let index = c.count_to-count.result - 1 in
    let stretch : Stretch = get_or c.args.closed.now index (record { place = 0; above = 0; given = 0; refused = 0 }) in
    let here : slice_get c.args.closed.now index
    ≡ Some stretch = slice_get-get_or c.args.closed.now index (record { place = 0; above = 0; given = 0; refused = 0 })
    (omega (arith, c.count_to-count.ensures.within, c.if-count-eq0.false)) in
    let found = get_or-found keys c.args.closed.now end last c.count_to-count.result c.args.place stretch row less few here
    (omega (arith, c.if-count-eq0.false)) c.count_to-count.ensures.above c.count_to-count.ensures.others in
    found.1.1 ∙ get_or-given keys stretch (c.args.place - stretch.place) found.1.0 c.if-below-stretch.false
