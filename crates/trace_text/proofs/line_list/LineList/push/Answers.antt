use Rattle.trace_text.proofs.Names.{refl, arith, length-map-range_with_len, line_kept}
use Rattle.trace_text.specs.declared.line.Line.TheVariants.{Silent}
use Rattle.trace_text.proofs.Keeping.{AreInOrder-more, AreInOrder-push, map-kept-more, map-kept-push}
use Rattle.trace_text.proofs.line_list.LineList.push.Goals as goal

pub invariant_of-self : goal.invariant_of-self
invariant_of-self c =
    let room = rw (← c.self.view_is) at c.requires.room in (
      AreInOrder-more c.self.inside.kept.items c.self.inside.count c.self.invariant.0,
      omega (arith, room, length-map-range_with_len (line_kept c.self.inside.kept.items) 0 c.self.inside.count),
      c.self.invariant.2,
    )

pub returns-in-Silent-clause-lines : goal.returns-in-Silent-clause-lines
returns-in-Silent-clause-lines c = rw (c.in-Silent.is, ← c.self.view_is) (map-kept-more Silent (λ k. k.line) c.self.inside.kept.items c.self.inside.count c.self.invariant.0)

pub returns-in-Silent-clause-places : goal.returns-in-Silent-clause-places
returns-in-Silent-clause-places c =
    let silent = rw (c.in-Silent.is) at c.requires.silent in
    rw (silent refl, ← c.self.view_is) (map-kept-more 0 (λ k. k.reads) c.self.inside.kept.items c.self.inside.count c.self.invariant.0)

pub invariant_of-self-2 : goal.invariant_of-self-2
invariant_of-self-2 c =
    let room = rw (← c.self.view_is) at c.requires.room in (
      rw (c.in_ok-push.ensures.items) (AreInOrder-push c.self.inside.kept.items c.self.inside.count _ refl c.self.invariant.0),
      omega (arith, room, length-map-range_with_len (line_kept c.self.inside.kept.items) 0 c.self.inside.count),
      c.self.invariant.2,
    )

pub returns-clause-lines : goal.returns-clause-lines
returns-clause-lines c = rw (c.in_ok-push.ensures.items, ← c.self.view_is) (map-kept-push Silent (λ k. k.line) c.self.inside.kept.items c.self.inside.count _ refl c.self.invariant.0)

pub returns-clause-places : goal.returns-clause-places
returns-clause-places c = rw (c.in_ok-push.ensures.items, ← c.self.view_is) (map-kept-push 0 (λ k. k.reads) c.self.inside.kept.items c.self.inside.count _ refl c.self.invariant.0)
