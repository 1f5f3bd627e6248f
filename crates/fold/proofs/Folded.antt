-- A fold that may be: what the shard asks of it, and that all keys keep their values.
use Rattle.std.proofs.Common.{◌≡◌, ℕ, ◌≤◌, ◌++◌, Option, None, Some, is_some, length, slice_get, ◌∙◌, ap, sym, subst, refl, inl, inr, arith}
use Rattle.std.specs.FinSet.{intersection}
use Rattle.std.specs.Option.{IsSome}
use Rattle.std.proofs.lemmas.Bool.{cases_lt}
use Rattle.bitmap.specs.Slots.{AreDisjoint}
use Rattle.span.specs.declared.id.SpanId.{SpanId}
use Rattle.page.specs.Words.{Words}
use Rattle.shard.specs.Group.{GroupState}
use Rattle.groups.specs.Group.{IsHeadOf, occupied, spans_of}
use Rattle.groups.specs.Spans.{union_of}
use Rattle.shard.specs.Moves.{Grafts, MayGraft, head_among, with_room}
use Rattle.groups.specs.Whole.{WholeState, spans_moved, whole_of}
use Rattle.shard.specs.Shown.{shown as shown_by_shard}
use Rattle.shard.specs.Sound.{IsSound as IsSoundShard}
use Rattle.shard.specs.State.{ShardState}
use Rattle.groups.proofs.GroupSpans.{times}
use Rattle.shard.proofs.Classes.{cases_class}
use Rattle.shard.proofs.HeadsHere.{head_among-here}
use Rattle.groups.proofs.Logged.{logged, nothing_pending}
use Rattle.shard.proofs.ShownLogs.{shown-logged as shown-logged_shard}
use Rattle.shard.proofs.Grafted.{spans_in-Grafts}
use Rattle.pool.specs.Calls.{Lifts}
use Rattle.pool.specs.Shown.{shown, together}
use Rattle.pool.specs.Sound.{IsSound}
use Rattle.pool.specs.State.{PoolState, PooledState}
use Rattle.pool.proofs.Adopted.{one_head}
use Rattle.pool.proofs.ShownLogs.{shown-logged}
use Rattle.groups.proofs.EmptySets.{empty_or_not}
use Rattle.pool.proofs.Together.{spans_in-Lifts, together-moved}
use Rattle.fold.specs.Folds.{Folds, MayFold}
use Rattle.fold.proofs.Heads.{none_or_head}

module _ (pool : PoolState) (sound : IsSound pool) (shard : ShardState) (a b : SpanId) (may : MayFold pool shard a b) where
  -- the group of the shard
  onto : (place : ℕ) × (group : GroupState) × IsHeadOf shard.groups b place group
  onto = elim (none_or_head shard.groups b) [
    | inl none ↦ absurd (may.present (inr (inl none)))
    | inr here ↦ here
  ]

  module _ (index : ℕ) (group : PooledState) (from : IsHeadOf pool.groups a index group) where
    page_is : (words : Words) × (group.page ≡ Some words)
    page_is = by_page group.page refl
      where
        by_page : (o : Option Words) → group.page ≡ o → (words : Words) × (group.page ≡ Some words)
        by_page None e = absurd (may.paged (may.present, (index, group, from, e)))
        by_page (Some words) e = (words, e)

    same_class : onto.1.head.class ≡ group.head.class
    same_class = elim (cases_class onto.1.head.class group.head.class) [
      | inl same ↦ same
      | inr differ ↦ absurd (may.apart (may.present, may.paged, (index, onto.0, group, onto.1, from, onto.2, inl differ)))
    ]

    apart : AreDisjoint (occupied onto.1) (union_of (spans_of group))
    apart = elim (empty_or_not (intersection (occupied onto.1) (union_of (spans_of group)))) [
      | inl none ↦ none
      | inr some ↦ absurd (may.apart (may.present, may.paged, (index, onto.0, group, onto.1, from, onto.2, inr some)))
    ]

  -- the room that is made is for the spans that come
  module _ (whole : WholeState) (pool_new : PoolState) (lifts : Lifts pool a (Some whole) pool_new) (index : ℕ) (group : PooledState)
      (from : IsHeadOf pool.groups a index group) (spans : ℕ) (spans_is : spans ≡ length (spans_of group)) (room : ShardState)
      (room_is : room ≡ with_room shard (head_among shard.groups (Some b)) spans) where
    whole_is : whole ≡ whole_of group
    whole_is = lifts.3 ∙ ap whole_of (one_head pool sound lifts.0 index lifts.1 group lifts.2.here from.here (lifts.2.head_is ∙ sym from.head_is))

    spans_are : spans_moved whole ≡ spans_of group
    spans_are = ap spans_moved whole_is

    room_for : room ≡ with_room shard (Some b) (length (spans_moved whole))
    room_for =
        room_is ∙ ap (λ (o : Option SpanId). with_room shard o spans) (head_among-here shard.groups b onto.0 onto.1 onto.2)
        ∙ ap (with_room shard (Some b)) (spans_is ∙ ap length (sym spans_are))

    pub MayGraft-room : MayGraft room b whole
    MayGraft-room = subst (λ (s : ShardState). MayGraft s b whole) (sym room_for) (record {
      paged = subst (λ (w : WholeState). IsSome w.words) (sym whole_is) (ap is_some (page_is index group from).1);
      elsewhere = λ at span there other g here place found.
          may.present (inr (inr (index, group, from, (at, span, ap (λ xs. slice_get xs at) (sym spans_are) ∙ there, inr (λ away. away other g here place found)))));
      opened = λ at span there mine. elim (cases_lt span.id.serial shard.opened) [
        | inl below ↦ below
        | inr past ↦ absurd (may.present (inr (inr (index, group, from, (at, span, ap (λ xs. slice_get xs at) (sym spans_are) ∙ there, inl (mine, past))))))
      ];
      apart = (
        onto.0,
        onto.1,
        onto.2,
        same_class index group from ∙ ap (λ (w : WholeState). w.head.class) (sym whole_is),
        subst (λ xs. AreDisjoint (occupied onto.1) (union_of xs)) (sym spans_are) (apart index group from),
      );
      onto = refl;
      span_room = omega arith;
    })

    pub Folds-grafted : (shard_new : ShardState) → Grafts room b whole shard_new → Folds pool shard a b pool_new shard_new
    Folds-grafted shard_new grafts = record { whole = whole; lifts = lifts; grafts = subst (λ (s : ShardState). Grafts s b whole shard_new) room_for grafts }

-- pool and shard show together what they showed
pub together-Folds : (pool : PoolState) (shard : ShardState) (a b : SpanId) (pool_new : PoolState) (shard_new : ShardState) → IsSound pool → IsSoundShard shard
    → IsSound pool_new → IsSoundShard shard_new → Folds pool shard a b pool_new shard_new
    → together (shown pool_new) (shown_by_shard shard_new) ≡ together (shown pool) (shown_by_shard shard)
together-Folds pool shard a b pool_new shard_new sound sound_shard sound_new sound_shard_new folds =
    let whole = folds.whole in
    let out = spans_in-Lifts pool pool_new a whole folds.lifts in
    let into = spans_in-Grafts (with_room shard (Some b) (length (spans_moved whole))) shard_new b whole folds.grafts in
    let here : (id : SpanId) → times id (out.0 ++ (spans_moved whole ++ out.1)) ≤ 1 = λ id. subst (λ xs. times id xs ≤ 1) out.2 (sound.once id) in
    let there : (id : SpanId) → times id (into.left ++ (spans_moved whole ++ into.right)) ≤ 1 = λ id. subst (λ xs. times id xs ≤ 1) into.with_is (sound_shard_new.once id) in
    ap (λ m. together m (shown_by_shard shard_new)) (shown-logged pool_new sound_new ∙ ap (λ xs. logged xs nothing_pending) out.3)
    ∙ ap (together (logged (out.0 ++ out.1) nothing_pending)) (shown-logged_shard shard_new sound_shard_new ∙ ap (λ xs. logged xs nothing_pending) into.with_is)
    ∙ together-moved out.0 (spans_moved whole) out.1 into.left into.right here there
    ∙ sym (ap (λ m. together m (shown_by_shard shard)) (shown-logged pool sound ∙ ap (λ xs. logged xs nothing_pending) out.2)
    ∙ ap (together (logged (out.0 ++ (spans_moved whole ++ out.1)) nothing_pending)) (shown-logged_shard shard sound_shard ∙ ap (λ xs. logged xs nothing_pending) into.without_is))
