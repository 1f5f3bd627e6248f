-- A run goes on by one step.
use Rattle.std.proofs.Common.{◌≡◌, ℕ, ◌+◌, ◌<◌, Bool, true, false, cond, List, [], ◌∷◌, ◌++◌, length, take, get_or, refl, sym, subst, ap, ◌∙◌, append_assoc, append-nil, arith}
use Rattle.std.proofs.lemmas.List.{length_push, take_more}
use Rattle.span.specs.PlainMap.{PlainMap}
use Rattle.arena_core.specs.declared.event.Event.{Event}
use Rattle.arena_core.specs.declared.event.Event.TheVariants.{Put, Get, Set, Free, Later, Settle, End, Begin, Retire, Trim, Adopt, Mark, MarkSome, Step, Close}
use Rattle.arena_core.specs.declared.reply.Reply.{Reply}
use Rattle.arena_core.specs.Plain.{ErasedStep, PlainRun, PlainStep, erased, is_plain}
use Rattle.arena_core.specs.Sound.{IsSound}
use Rattle.arena_core.specs.State.{CoreState, shown}
use Rattle.marks.specs.Numbers.{Limits}
use Rattle.arena_core.specs.Step.{Answers, CoreRun, CoreStep}
use Rattle.arena_core.proofs.Limits.{limits-CoreRun}

PlainRun-push : (limits : Limits) (old mid new : PlainMap) (steps : List (Event × Reply)) (event : Event) (reply : Reply) → PlainRun limits old steps mid
    → PlainStep limits mid event reply new → PlainRun limits old (steps ++ (event, reply) ∷ []) new
PlainRun-push limits old mid new [] event reply run step = (new, subst (λ m. PlainStep limits m event reply new) run step, refl)
PlainRun-push limits old mid new (s ∷ steps) event reply (next, first, rest) step = (next, first, PlainRun-push limits next mid new steps event reply rest step)

-- what one more step adds to an erased run
abbrev added : Event → Reply → List (Event × Reply)
added event reply = cond (is_plain event) ((event, reply) ∷ []) []

PlainRun-stay : (limits : Limits) (old mid new : PlainMap) (steps : List (Event × Reply)) → PlainRun limits old steps mid → new ≡ mid → PlainRun limits old (steps ++ []) new
PlainRun-stay limits old mid new steps run same = subst (λ s. PlainRun limits old s new) (sym (append-nil steps)) (subst (PlainRun limits old steps) (sym same) run)

PlainRun-added : (limits : Limits) (old mid new : PlainMap) (steps : List (Event × Reply)) (event : Event) (reply : Reply) → PlainRun limits old steps mid
    → ErasedStep limits mid event reply new → PlainRun limits old (steps ++ added event reply) new
PlainRun-added limits old mid new steps (Put shard value) reply run step = PlainRun-push limits old mid new steps (Put shard value) reply run step
PlainRun-added limits old mid new steps (Get key) reply run step = PlainRun-push limits old mid new steps (Get key) reply run step
PlainRun-added limits old mid new steps (Set key value) reply run step = PlainRun-push limits old mid new steps (Set key value) reply run step
PlainRun-added limits old mid new steps (Free key) reply run step = PlainRun-push limits old mid new steps (Free key) reply run step
PlainRun-added limits old mid new steps (Later worker key) reply run step = PlainRun-push limits old mid new steps (Later worker key) reply run step
PlainRun-added limits old mid new steps (Settle worker shard) reply run step = PlainRun-push limits old mid new steps (Settle worker shard) reply run step
PlainRun-added limits old mid new steps (End shard) reply run step = PlainRun-stay limits old mid new steps run step
PlainRun-added limits old mid new steps (Begin shard) reply run step = PlainRun-stay limits old mid new steps run step
PlainRun-added limits old mid new steps (Retire shard most) reply run step = PlainRun-stay limits old mid new steps run step
PlainRun-added limits old mid new steps (Trim shard) reply run step = PlainRun-stay limits old mid new steps run step
PlainRun-added limits old mid new steps (Adopt shard) reply run step = PlainRun-stay limits old mid new steps run step
PlainRun-added limits old mid new steps Mark reply run step = PlainRun-stay limits old mid new steps run step
PlainRun-added limits old mid new steps MarkSome reply run step = PlainRun-stay limits old mid new steps run step
PlainRun-added limits old mid new steps Step reply run step = PlainRun-stay limits old mid new steps run step
PlainRun-added limits old mid new steps Close reply run step = PlainRun-stay limits old mid new steps run step

erased-push : (events : List Event) (replies : List Reply) (event : Event) (reply : Reply) → length replies ≡ length events
    → erased (events ++ event ∷ []) (replies ++ reply ∷ []) ≡ erased events replies ++ added event reply
erased-push [] [] event reply each = refl
erased-push [] (r ∷ replies) event reply each = absurd (omega arith)
erased-push (e ∷ events) [] event reply each = absurd (omega arith)
erased-push (e ∷ events) (r ∷ replies) event reply each = by_test (is_plain e) (erased-push events replies event reply (omega arith))
  where
    by_test : (b : Bool) → erased (events ++ event ∷ []) (replies ++ reply ∷ []) ≡ erased events replies ++ added event reply
        → cond b ((e, r) ∷ erased (events ++ event ∷ []) (replies ++ reply ∷ [])) (erased (events ++ event ∷ []) (replies ++ reply ∷ []))
        ≡ cond b ((e, r) ∷ erased events replies) (erased events replies) ++ added event reply
    by_test true rest = ap (λ s. (e, r) ∷ s) rest
    by_test false rest = rest

CoreRun-push : (old mid new : CoreState) (events : List Event) (replies : List Reply) (event : Event) (reply : Reply) → CoreRun old events replies mid → CoreStep mid event reply new → IsSound new
    → CoreRun old (events ++ event ∷ []) (replies ++ reply ∷ []) new
CoreRun-push old mid new [] [] event reply run step sound = (new, subst (λ m. CoreStep m event reply new) run step, sound, refl)
CoreRun-push old mid new (e ∷ events) (r ∷ replies) event reply (next, first, fine, rest) step sound = (next, first, fine, CoreRun-push next mid new events replies event reply rest step sound)
CoreRun-push old mid new [] (r ∷ replies) event reply run step sound = absurd run
CoreRun-push old mid new (e ∷ events) [] event reply run step sound = absurd run

pub Answers-push : (old mid new : CoreState) (events : List Event) (index : ℕ) (event : Event) (reply : Reply) (before replies pushed : List Reply)
    → index < length events → event ≡ get_or events index event → Answers old (take index events) before replies mid
    → CoreStep mid event reply new → ErasedStep mid.limits (shown mid) event reply (shown new) → IsSound new → pushed ≡ replies ++ reply ∷ []
    → Answers old (take (index + 1) events) before pushed new
Answers-push old mid new events index event reply before replies pushed within read run step plain sound pushed_is =
    subst (λ es. Answers old es before pushed new) (sym (take_more events index event within ∙ ap (λ e. take index events ++ e ∷ []) (sym read)))
    (record {
      answers = run.answers ++ reply ∷ [];
      appended = pushed_is ∙ ap (λ l. l ++ reply ∷ []) run.appended ∙ append_assoc before run.answers (reply ∷ []);
      each = omega (arith, length_push run.answers reply, length_push (take index events) event, run.each);
      steps = CoreRun-push old mid new (take index events) run.answers event reply run.steps step sound;
      plain =
          subst (λ steps. PlainRun old.limits (shown old) steps (shown new)) (sym (erased-push (take index events) run.answers event reply run.each))
          (PlainRun-added old.limits (shown old) (shown mid) (shown new) (erased (take index events) run.answers) event reply run.plain
          (subst (λ limits. ErasedStep limits (shown mid) event reply (shown new)) (limits-CoreRun old mid (take index events) run.answers run.steps) plain));
    })
