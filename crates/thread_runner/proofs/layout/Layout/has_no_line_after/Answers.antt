use Rattle.thread_runner.proofs.Names.{◌≤◌, ap, arith, length, rules, sym, ltb-true}
use Rattle.thread_runner.proofs.Places.{slice_get-items}
use Rattle.thread_runner.proofs.layout.Layout.has_no_line_after.Goals as goal

pub returns-in-Some : goal.returns-in-Some
returns-in-Some c lines laid none =
    let found = rw c.deref.ensures.value at c.in-Some.ensures.lookup in
    let here = slice_get-items c.args.self.now.places.items c.args.thread c.in-Some.places.now (ltb-true _ _ (sym found.0)) found.1 in
    let listed = ap length (laid c.args.thread c.in-Some.places.now.items here) in
    let few : c.len.result ≤ c.args.done = search rules in
    omega (arith, few, listed, c.len.ensures, c.in-Some.places.now.ok.0)
