use Rattle.std.proofs.Common.{◌<◌, ◌∙◌, ap, arith, get_or, length, sym}
use Rattle.std.proofs.lemmas.List.{get_or-map, length-map}
use Rattle.span.specs.declared.id.SpanId.{SpanId}
use Rattle.certificate.specs.Chosen.{ids_in}
use Rattle.certificate.specs.declared.distinct.IdList.{IdList}
use Rattle.certificate.proofs.distinct.IdList.at.Goals as goal

pub returns-in-Abandoned : goal.returns-in-Abandoned
returns-in-Abandoned c = λ d.
    let pairs = c.in-Abandoned.pairs.now in
    let within : c.args.k < length pairs = omega (arith, c.requires, ap (λ (list : IdList). length (ids_in list)) c.in-Abandoned.is, length-map pairs (λ (p : SpanId × SpanId). p.0)) in
    ap (λ (p : SpanId × SpanId). p.0) (c.pair_at.ensures (d, d))
    ∙ sym (ap (λ (list : IdList). get_or (ids_in list) c.args.k d) c.in-Abandoned.is ∙ get_or-map (λ (p : SpanId × SpanId). p.0) pairs c.args.k (d, d) d within)

pub returns-in-Owned : goal.returns-in-Owned
returns-in-Owned c = λ d.
    let pairs = c.in-Owned.pairs.now in
    let within : c.args.k < length pairs = omega (arith, c.requires, ap (λ (list : IdList). length (ids_in list)) c.in-Owned.is, length-map pairs (λ (p : SpanId × SpanId). p.1)) in
    ap (λ (p : SpanId × SpanId). p.1) (c.pair_at-in-Owned.ensures (d, d))
    ∙ sym (ap (λ (list : IdList). get_or (ids_in list) c.args.k d) c.in-Owned.is ∙ get_or-map (λ (p : SpanId × SpanId). p.1) pairs c.args.k (d, d) d within)
