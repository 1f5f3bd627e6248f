use Rattle.std.proofs.Common.{◌≡◌, ◌∷◌, [], arith, get_or, length, subst, sym, take}
use Rattle.std.proofs.lemmas.Option.{slice_get-get_or}
use Rattle.arena_core.specs.declared.event.Event.TheVariants.{Put}
use Rattle.arena_core.specs.declared.reply.Reply.TheVariants.{Issued, Refused}
use Rattle.teurlaks_c.specs.declared.replies.RawWord.{RawWord}
use Rattle.teurlaks_c.specs.Calls.{Replies}
use Rattle.teurlaks_c.specs.Many.{PutsMany, objects_of}
use Rattle.teurlaks_c.specs.Status.{done}
use Rattle.teurlaks_c.proofs.ManyCalls.{HasPut-next, IsAtEnd, IsAtEnd-min, PutsMany-all, PutsMany-refused, below_both}
use Rattle.teurlaks_c.proofs.many.put_all.Goals as goal

pub returns-in-Err : goal.returns-in-Err
returns-in-Err c =
    let word : RawWord = get_or c.args.words.now c.loop-place.place (record { low = 0; high = 0 }) in
    let below = below_both c.loop-place.place c.min-count.result (length c.args.words.now) (length c.args.keys.now) c.min-count.ensures c.loop-place-test.true in
    let told = c.in-Err.ensures {u = tt} in
    PutsMany-refused c.args.core.now c.args.shard c.args.words.now c.args.keys.now c.loop-place.place c.loop-place.keys c.loop-place.core c.loop-place.invariant
    word c.in-Err.refusal c.status_of.result c.put_words.new.self (slice_get-get_or c.args.words.now c.loop-place.place _ below.0) below.1
    (subst (λ value. Replies c.loop-place.core (Put c.args.shard (value ∷ [])) (Refused c.in-Err.refusal) c.put_words.new.self) c.value_of.ensures
    (record { exact = told.exact; plain = told.plain; sound = told.sound })) c.status_of.ensures

pub loop-place-preserved : goal.loop-place-preserved
loop-place-preserved c =
    let word : RawWord = get_or c.args.words.now c.loop-place.place (record { low = 0; high = 0 }) in
    let below = below_both c.loop-place.place c.min-count.result (length c.args.words.now) (length c.args.keys.now) c.min-count.ensures c.loop-place-test.true in
    let told = c.in-Ok.ensures {u = tt} in
    HasPut-next c.args.core.now c.args.shard c.args.words.now c.args.keys.now c.loop-place.place c.loop-place.keys c.loop-place.core c.loop-place.invariant
    word c.in-Ok.key c.raw_of.result c.put_words.new.self (slice_get-get_or c.args.words.now c.loop-place.place _ below.0)
    (omega (arith, below.1, c.loop-place.invariant.long))
    (subst (λ value. Replies c.loop-place.core (Put c.args.shard (value ∷ [])) (Issued c.in-Ok.key) c.put_words.new.self) c.value_of.ensures
    (record { exact = told.exact; plain = told.plain; sound = told.sound })) c.raw_of.ensures

pub returns : goal.returns
returns c =
    let same : c.loop-place.place ≡ c.min-count.result = omega (arith, c.loop-place-test.false, c.loop-place.auto.place-end) in
    let end : IsAtEnd c.loop-place.place (length c.args.words.now) (length c.args.keys.now) =
    subst (λ n. IsAtEnd n (length c.args.words.now) (length c.args.keys.now)) (sym same)
    (IsAtEnd-min c.min-count.result (length c.args.words.now) (length c.args.keys.now) c.min-count.ensures) in
    subst (λ n. PutsMany c.args.core.now c.args.shard (take (length c.args.keys.now) (objects_of c.args.words.now)) c.args.keys.now (record { status = done; count = n })
    c.loop-place.keys c.loop-place.core) same
    (PutsMany-all c.args.core.now c.args.shard c.args.words.now c.args.keys.now c.loop-place.place c.loop-place.keys c.loop-place.core c.loop-place.invariant
    end.in_first end.in_second end.last)
