use Rattle.thread_runner.proofs.Names.{◌∙◌, subst, sym, AreDiaries}
use Rattle.thread_runner.proofs.Counting.{AreBelow-sound, AreDiaries-counted}
use Rattle.thread_runner.proofs.Voices.{AreVoices-diaries}
use Rattle.thread_runner.proofs.replay.replay_at.Goals as goal

pub audited-requires-clause-voices : goal.audited-requires-clause-voices
audited-requires-clause-voices g c κs within =
    let seats = c.in_ok-seats.field-0.seats.items in
    let diaries = c.in_ok-seats.field-0.told.diaries.items in
    let (given, all) = c.in_ok-seats.ensures.diaries in
    let are = subst (λ ls. AreDiaries ls c.args.shown given c.args.trace.now.header.shards seats diaries) (sym c.requires.lines)
    (subst (λ b. AreDiaries g.J.Reading.lines b given c.args.trace.now.header.shards seats diaries) (sym c.requires.shown) all) in
    AreVoices-diaries c.args.trace.now c.args.shown given seats diaries are c.in_ok-logs.ensures

pub audited-requires-clause-calls : goal.audited-requires-clause-calls
audited-requires-clause-calls g c κs within =
    let seats = c.in_ok-seats.field-0.seats.items in
    let diaries = c.in_ok-seats.field-0.told.diaries.items in
    let trace = c.args.trace.now in
    let (given, all) = c.in_ok-seats.ensures.diaries in
    let are = subst (λ ls. AreDiaries ls g.J.Reading.shown given trace.header.shards seats diaries) (sym c.requires.lines) all in
    (rw c.as_slice-2.ensures.value at c.in_ok-calls_of.ensures) ∙ AreDiaries-counted trace.lines.items g.J.Reading.shown given trace.header.shards seats diaries
    (AreBelow-sound trace.header trace.lines.items trace.sound) are
