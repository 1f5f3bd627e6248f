use Rattle.std.proofs.Common.{◌∙◌, ap, refl, rules, arith, get_or, ◌++◌, ◌∷◌, []}
use Rattle.lane_kernels.specs.Planes.{sets_of}
use Rattle.lane_kernels.proofs.Columns.{pushed, union_of_more}
use Rattle.lane_kernels.proofs.planes.Planes.push.Goals as goal

pub invariant_of-self-inside-2 : goal.invariant_of-self-inside-2
invariant_of-self-inside-2 c =
    let rows = c.self.inside in
    let more =
    pushed rows.first.items rows.second.items rows.third.items rows.fourth.items _ _ _ _ c.words-words.result c.args.set.now
    (sets_of rows.first.items rows.second.items rows.third.items rows.fourth.items)
    (omega (arith, rows.second_is_as_long, rows.first.ok.0, rows.second.ok.0)) (omega (arith, rows.third_is_as_long, rows.first.ok.0, rows.third.ok.0))
    (omega (arith, rows.fourth_is_as_long, rows.first.ok.0, rows.fourth.ok.0))
    c.words-words.ensures.words.four c.words-words.ensures.slots refl
    (c.push_reserved.ensures.items ∙ ap (λ l. l ++ get_or c.words-words.result 0 0 ∷ []) c.reserve.ensures.items)
    (c.push_reserved-2.ensures.items ∙ ap (λ l. l ++ get_or c.words-words.result 1 0 ∷ []) c.reserve-2.ensures.items)
    (c.push_reserved-3.ensures.items ∙ ap (λ l. l ++ get_or c.words-words.result 2 0 ∷ []) c.reserve-3.ensures.items)
    (c.push_reserved-4.ensures.items ∙ ap (λ l. l ++ get_or c.words-words.result 3 0 ∷ []) c.reserve-4.ensures.items) in
    (search rules, (search rules, (search rules, (rw (more, c.union-self-inside.ensures) (union_of_more rows.all c.args.set.now _ rows.all_is), tt))))

pub returns-clause-ok : goal.returns-clause-ok
returns-clause-ok c =
    let rows = c.self.inside in
    pushed rows.first.items rows.second.items rows.third.items rows.fourth.items _ _ _ _ c.words-words.result c.args.set.now c.args.self.now
    (omega (arith, rows.second_is_as_long, rows.first.ok.0, rows.second.ok.0)) (omega (arith, rows.third_is_as_long, rows.first.ok.0, rows.third.ok.0))
    (omega (arith, rows.fourth_is_as_long, rows.first.ok.0, rows.fourth.ok.0))
    c.words-words.ensures.words.four c.words-words.ensures.slots c.self.view_is
    (c.push_reserved.ensures.items ∙ ap (λ l. l ++ get_or c.words-words.result 0 0 ∷ []) c.reserve.ensures.items)
    (c.push_reserved-2.ensures.items ∙ ap (λ l. l ++ get_or c.words-words.result 1 0 ∷ []) c.reserve-2.ensures.items)
    (c.push_reserved-3.ensures.items ∙ ap (λ l. l ++ get_or c.words-words.result 2 0 ∷ []) c.reserve-3.ensures.items)
    (c.push_reserved-4.ensures.items ∙ ap (λ l. l ++ get_or c.words-words.result 3 0 ∷ []) c.reserve-4.ensures.items)
