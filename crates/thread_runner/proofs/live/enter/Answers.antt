use Rattle.thread_runner.proofs.Names.{◌∙◌, ◌++◌, ◌∷◌, [], ap, sym, live_slots, viewed, live_slots-free, live_slots-put}
use Rattle.std.specs.FinSet as set
use Rattle.thread_runner.proofs.LiveSlots.{live_slots-set}
use Rattle.thread_runner.proofs.live.enter.Goals as goal

pub returns-in-Put : goal.returns-in-Put
returns-in-Put c before live =
    let put = c.in-Put in
    c.insert.ensures ∙ ap (λ s. set.insert s put.slot) live ∙ sym (live_slots-put before put.slot put.generation put.words.now) ∙ ap (λ change. live_slots (before ++ viewed change ∷ [])) (sym put.is)

pub returns-in-Set : goal.returns-in-Set
returns-in-Set c before live =
    let put = c.in-Set in
    c.insert-in-Set.ensures ∙ ap (λ s. set.insert s put.slot) live ∙ sym (live_slots-set before put.slot put.generation put.words.now)
    ∙ ap (λ change. live_slots (before ++ viewed change ∷ [])) (sym put.is)

pub returns-in-Free : goal.returns-in-Free
returns-in-Free c before live =
    let freed = c.in-Free in
    c.remove.ensures ∙ ap (λ s. set.remove s freed.slot) live ∙ sym (live_slots-free before freed.slot freed.generation) ∙ ap (λ change. live_slots (before ++ viewed change ∷ [])) (sym freed.is)
