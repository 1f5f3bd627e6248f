use Rattle.trace_text.proofs.Names.{◌∙◌, Some, ap, sym, None}
use Rattle.trace_text.specs.declared.line.Line.TheVariants.{Silent}
use Rattle.trace_text.proofs.Keeping.{kept_at}
use Rattle.trace_text.proofs.line_list.LineList.line_at.Goals as goal

pub returns-in-Some : goal.returns-in-Some
returns-in-Some c = rw (← c.self.view_is)
    (kept_at Silent (λ k. k.line) c.self.inside.kept.items c.self.inside.count c.args.place (Some c.in-Some.one.now) (rw (← c.self.view_is) at c.requires) (sym (rw (c.as_slice.ensures.value) at c.in-Some.ensures)))

pub returns-in-None : goal.returns-in-None
returns-in-None c = rw (← c.self.view_is)
    (kept_at Silent (λ k. k.line) c.self.inside.kept.items c.self.inside.count c.args.place None (rw (← c.self.view_is) at c.requires)
    (sym (rw (c.as_slice.ensures.value) at c.in-None.ensures)) ∙ ap Some (sym c.self.invariant.2))
