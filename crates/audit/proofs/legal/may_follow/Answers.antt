use Rattle.std.proofs.Common.{◌≡◌, ◌∙◌, None, length, option_map, get_or, ap, sym, subst, arith}
use Rattle.std.specs.FinMap as map
use Rattle.span.specs.Classes.{width_of}
use Rattle.span.specs.Log.{IsChangeOf, IsLegalAfter, replay}
use Rattle.span.specs.Views.{viewed}
use Rattle.span.specs.declared.view.ChangeView.{ChangeView}
use Rattle.audit.specs.Changes.{slot_of, generation_of}
use Rattle.audit.proofs.Legality.{set_legal}
use Rattle.audit.proofs.legal.may_follow.Goals as goal

pub returns-in-Set : goal.returns-in-Set
returns-in-Set c class before of_class is after issued =
    let slot : c.from.result ≡ c.in-Set.slot = c.from.ensures ∙ c.slot_of.ensures ∙ ap (λ (v : ChangeView). slot_of (viewed v)) c.in-Set.is in
    let here : get_or c.args.held.now c.from.result None ≡ option_map generation_of (map.get (replay before) c.in-Set.slot) =
    after c.from.result (omega (arith, c.from.ensures, c.slot_of.type_inv)) ∙ ap (λ s. option_map generation_of (map.get (replay before) s)) slot in
    let wide : length c.in-Set.words.now ≡ width_of class = (subst (λ (v : ChangeView). IsChangeOf class (viewed v)) c.in-Set.is is).1 in
    let legal = set_legal c.args.gens class before c.in-Set.slot c.in-Set.generation c.in-Set.words.now (get_or c.args.held.now c.from.result None) of_class wide here in (
      λ same. subst (λ (v : ChangeView). IsLegalAfter c.args.gens before (viewed v)) (sym c.in-Set.is) (legal.0 (c.is_of.ensures.0 same)),
      λ follows. c.is_of.ensures.1 (legal.1 (subst (λ (v : ChangeView). IsLegalAfter c.args.gens before (viewed v)) c.in-Set.is follows)),
    )
