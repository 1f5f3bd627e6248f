use Rattle.std.proofs.Common.{◌≡◌, ℕ, ◌∙◌, List, Some, ap, arith, get_or, set, slice_get, sym}
use Rattle.std.proofs.lemmas.Option.{slice_get-get_or}
use Rattle.shard.specs.Heads.{raised}
use Rattle.shard.proofs.ChangedBelow.{changed_below-all, changed_below-next}
use Rattle.shard.proofs.head_indexes.raise_each.Goals as goal

pub loop-entry-preserved : goal.loop-entry-preserved
loop-entry-preserved c =
    let now = c.loop-entry.entries in
    let at = c.loop-entry.entry-index in
    let entry = get_or now at 0 in
    let here : slice_get now at ≡ Some entry = slice_get-get_or now at 0 (omega (arith, c.loop-entry-test.true, c.loop-entry.auto.entries)) in
    ap (set now at) c.raised.ensures ∙ ap (λ (entries : List ℕ). set entries at (raised c.args.from entry)) c.loop-entry.invariant
    ∙ changed_below-next (raised c.args.from) at c.args.entries.now entry (ap (λ (entries : List ℕ). slice_get entries at) (sym c.loop-entry.invariant) ∙ here)

pub returns : goal.returns
returns c =
    c.loop-entry.invariant
    ∙ changed_below-all (raised c.args.from) c.loop-entry.entry-index c.args.entries.now (omega (arith, c.loop-entry-test.false, c.loop-entry.auto.entries))
