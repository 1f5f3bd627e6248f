use Rattle.trace_text.proofs.Names.{◌||◌, is_some, ap, refl, sym, ◌∙◌, class_filled}
use Rattle.trace_text.proofs.Verbs.{is_binding_verb-named}
use Rattle.trace_text.proofs.header.binds_any_class.Goals as goal

pub returns-then-is_some : goal.returns-then-is_some
returns-then-is_some c = c.if-is_some.true
    ∙ sym (is_binding_verb-named c.args.verb.now c.class_put.result (class_filled c.args.verb.now) (sym c.class_put.ensures) refl
    ∙ ap (λ b. b || is_some (class_filled c.args.verb.now)) (sym c.if-is_some.ensures))

pub returns-else-is_some : goal.returns-else-is_some
returns-else-is_some c = c.is_some-else-is_some.ensures
    ∙ sym (is_binding_verb-named c.args.verb.now c.class_put.result c.class_filled.result (sym c.class_put.ensures) (sym c.class_filled.ensures)
    ∙ ap (λ b. b || is_some c.class_filled.result) (sym c.if-is_some.ensures))
