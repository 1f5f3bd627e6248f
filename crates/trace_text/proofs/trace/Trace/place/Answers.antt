use Rattle.trace_text.proofs.Names.{◌≡◌, ◌∙◌, [], Some, slice_get, take, sym, ap, place_at}
use Rattle.trace_text.proofs.Placing.{slice_get-places}
use Rattle.trace_text.proofs.trace.Trace.place.Goals as goal

pub returns : goal.returns
returns c there here =
    let is : slice_get c.args.self.now.lines.places c.args.line ≡ Some (place_at (take c.args.line c.args.self.now.lines.items) there) =
    ap (λ ps. slice_get ps c.args.line) c.args.self.now.placed ∙ slice_get-places [] c.args.self.now.lines.items c.args.line there here in
    let same : Some c.place_read.result ≡ Some (place_at (take c.args.line c.args.self.now.lines.items) there) = sym c.place_read.ensures ∙ is in cc
