-- A key that is sent, and one that is settled, as steps of the core and of the plain map.
use Rattle.std.proofs.Common.{◌≡◌, ℕ, ◌<◌, Bool, List, [], ◌∷◌, ◌++◌, length, refl, sym, ap, subst, ◌∙◌, arith, Option, None, Some, Ok, Err, Result, MatchResult}
use Rattle.std.proofs.lemmas.List.{length_push}
use Rattle.span.specs.declared.key.Key.{Key}
use Rattle.span.specs.PlainMap.{with_pending}
use Rattle.arena_core.specs.declared.event.Event.TheVariants.{Free, Later, Settle}
use Rattle.arena_core.specs.declared.reply.Refusal.{Refusal}
use Rattle.arena_core.specs.declared.reply.Refusal.TheVariants.{Config, OutOfMemory, RingFull}
use Rattle.arena_core.specs.declared.reply.Reply.TheVariants as reply
use Rattle.arena_core.specs.Calls.{CoreCall, ShownCall, ShownStep, TakeCall}
use Rattle.arena_core.specs.Plain.{Loses}
use Rattle.arena_core.specs.Rings.{CannotSend, RingState, Sends, Takes, keys_of, ring_at, with_keys, with_ring_at}
use Rattle.arena_core.specs.Sound.{IsSound}
use Rattle.arena_core.specs.State.{CoreState, shown, with_rings}
use Rattle.arena_core.proofs.RingsKept.{AreRings-with, IsOutside-none, IsSound-with_rings, shown-with_ring}

-- what a core keeps that was asked to free a key later, and how this is a step
pub record IsSent (old : CoreState) (worker : ℕ) (key : Key) (answer : Result (Unit {0}) Refusal) (new : CoreState) : Type 0 where
  pub kept : IsSound new
  pub exact : CoreCall old (Later worker key) (λ _. reply.Sent) answer new
  pub plain : ShownCall old (Later worker key) (λ _. reply.Sent) answer new

module _ (old : CoreState) (sound : IsSound old) (worker : ℕ) (key : Key) where
  sent : (rings : List (List RingState)) (done : Unit {0}) → Sends old.rings worker key rings → IsSent old worker key (Ok done) (with_rings old rings)
  sent rings done sends =
      let ring = sends.ring in
      let now = with_keys ring (ring.keys ++ key ∷ []) in
      let fine = sound.rings.each worker key.span.shard ring sends.here in
      let room : length ring.keys < old.limits.ring_capacity = omega (arith, sends.room, fine.0) in
      subst (λ r. IsSent old worker key (Ok done) (with_rings old r)) (sym sends.after)
      (record {
        kept = IsSound-with_rings old (with_ring_at old.rings worker key.span.shard now) sound
            (AreRings-with old.rings worker key.span.shard ring now sends.here old.limits sound.rings refl (omega (arith, room, length_push ring.keys key)));
        exact = record { ring = ring; here = sends.here; room = room; rest = refl };
        plain = (
          subst (λ keys. length keys < old.limits.ring_capacity) (sym (ap keys_of sends.here)) room,
          shown-with_ring old worker key.span.shard ring now sends.here
              ∙ ap (λ keys. with_pending (shown old) worker key.span.shard (keys ++ key ∷ [])) (sym (ap keys_of sends.here)),
        );
      })

  unsent : (refusal : Refusal) → CannotSend refusal old.rings worker key.span.shard → IsSent old worker key (Err refusal) old
  unsent RingFull (ring, here, full) =
      let fine = sound.rings.each worker key.span.shard ring here in
      record {
        kept = sound;
        exact = ((ring, here, full ∙ fine.0), refl);
        plain = (ap length (ap keys_of here) ∙ full ∙ fine.0, refl);
      }
  unsent OutOfMemory (ring, here, room) =
      let fine = sound.rings.each worker key.span.shard ring here in
      record {
        kept = sound;
        exact = ((ring, here, omega (arith, room, fine.0)), refl);
        plain = (omega (arith, room, fine.0, ap length (ap keys_of here)), refl);
      }
  unsent Config none =
      let outside = IsOutside-none old.limits old.rings worker key.span.shard sound.rings none in
      record { kept = sound; exact = (outside, refl); plain = (outside, refl) }
  unsent refusal (ring, here, never) = absurd never

  pub IsSent-later : (answer : Result (Unit {0}) Refusal) (rings : List (List RingState))
      → MatchResult answer (λ done. Sends old.rings worker key rings) (λ refusal. CannotSend refusal old.rings worker key.span.shard × (rings ≡ old.rings))
      → IsSent old worker key answer (with_rings old rings)
  IsSent-later (Ok done) rings sends = sent rings done sends
  IsSent-later (Err refusal) rings (cannot, same) = subst (IsSent old worker key (Err refusal)) (sym (ap (with_rings old) same)) (unsent refusal cannot)

-- what a core keeps of which the oldest key of a ring was taken
pub record IsTaken (old : CoreState) (worker shard : ℕ) (answer : Result (Option Key) Refusal) (new : CoreState) : Type 0 where
  pub kept : IsSound new
  pub taken : TakeCall old worker shard answer new

module _ (old : CoreState) (sound : IsSound old) (worker shard : ℕ) where
  Takes-kept : (found : Option Key) (rings : List (List RingState)) → Takes old.rings worker shard found rings → IsSound (with_rings old rings)
  Takes-kept None rings (ring, here, empty, same) = subst IsSound (sym (ap (with_rings old) same)) sound
  Takes-kept (Some key) rings (ring, left, here, oldest, after) =
      subst (λ r. IsSound (with_rings old r)) (sym after)
      (IsSound-with_rings old (with_ring_at old.rings worker shard (with_keys ring left)) sound
      (AreRings-with old.rings worker shard ring (with_keys ring left) here old.limits sound.rings refl (omega (arith, (sound.rings.each worker shard ring here).1, ap length oldest))))

  pub IsTaken-take : (answer : Result (Option Key) Refusal) (rings : List (List RingState))
      → MatchResult answer (λ found. Takes old.rings worker shard found rings)
      (λ refusal. (refusal ≡ Config) × (ring_at old.rings worker shard ≡ None) × (rings ≡ old.rings))
      → IsTaken old worker shard answer (with_rings old rings)
  IsTaken-take (Ok found) rings takes = record { kept = Takes-kept found rings takes; taken = takes }
  IsTaken-take (Err refusal) rings (is, none, same) = record {
    kept = subst IsSound (sym (ap (with_rings old) same)) sound;
    taken = (is, IsOutside-none old.limits old.rings worker shard sound.rings none, ap (with_rings old) same);
  }

-- the key that was taken is freed
pub ShownStep-settled : (old mid new : CoreState) (worker shard : ℕ) (key : Key) (freed : Bool) → Takes old.rings worker shard (Some key) mid.rings
    → mid ≡ with_rings old mid.rings → ShownStep mid (Free key) (reply.Freed freed) new → ShownStep old (Settle worker shard) (reply.Settled (Some key)) new
ShownStep-settled old mid new worker shard key freed (ring, left, here, oldest, after) is plain =
    let mid_is : mid ≡ with_rings old (with_ring_at old.rings worker shard (with_keys ring left)) = is ∙ ap (with_rings old) after in (
      left,
      freed,
      ap keys_of here ∙ oldest,
      subst (λ m. Loses m key freed (shown new)) (ap shown mid_is ∙ shown-with_ring old worker shard ring (with_keys ring left) here) plain,
    )
