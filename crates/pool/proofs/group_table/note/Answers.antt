use Rattle.std.proofs.Common.{◌∙◌, ◌∷◌, ap, arith, subst, sym}
use Rattle.std.specs.List.{Contains}
use Rattle.std.proofs.lemmas.Bool.{false≢true}
use Rattle.std.proofs.lemmas.List.Sorted.{length_permutation}
use Rattle.span.specs.Ids.{rank}
use Rattle.pool.proofs.NotedRanks.{Contains-more, Contains-put}
use Rattle.pool.proofs.group_table.note.Goals as goal

pub returns-then-is_paged-clause-noted : goal.returns-then-is_paged-clause-noted
returns-then-is_paged-clause-noted g c paged = subst (Contains c.put.new.self.ranks) (c.rank.ensures.value ∙ ap rank c.head_id.ensures)
    (Contains-put c.args.paged.now.ranks c.put.new.self.ranks c.rank.result c.put.ensures.more)

pub returns-then-is_paged-clause-more : goal.returns-then-is_paged-clause-more
returns-then-is_paged-clause-more g c number among = Contains-more c.args.paged.now.ranks c.put.new.self.ranks c.rank.result number c.put.ensures.more among

pub returns-then-is_paged-clause-few : goal.returns-then-is_paged-clause-few
returns-then-is_paged-clause-few g c = omega (arith, length_permutation (c.rank.result ∷ c.args.paged.now.ranks) c.put.new.self.ranks c.put.ensures.more)

pub returns-else-is_paged-clause-noted : goal.returns-else-is_paged-clause-noted
returns-else-is_paged-clause-noted g c paged = absurd (false≢true (sym (sym c.is_paged.ensures ∙ c.if-is_paged.false) ∙ paged))
