use Rattle.trace_runner.proofs.Names.{◌∙◌, arith, sym}
use Rattle.trace_runner.proofs.key_list.KeyList.key.Goals as goal

pub returns : goal.returns
returns c =
    let keys = c.self.inside.keys in
    let index = rw (c.as_slice.ensures.value) at c.index_of-index.ensures in
    let at = rw (c.as_slice-2.ensures.value) at c.key_at.ensures in
    rw (← c.self.view_is) (at ∙ sym (index keys.items c.self.inside.refused (c.self.invariant.1, c.self.invariant.2, omega (arith, keys.ok.0, keys.ok.1, keys.small))))
