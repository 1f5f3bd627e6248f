-- What is done to one ring is done to its row, and what is done to a row to all rings.
use Rattle.std.proofs.Common.{◌≡◌, ◌⊎◌, inl, inr, ℕ, ◌<◌, ◌≤◌, List, [], ◌∷◌, ◌++◌, arith, length, refl, replicate, sym, ap, subst, ◌∙◌, Option, None, Some, Ok, Err, Result, set, slice_get, MatchOption, MatchResult}
use Rattle.std.proofs.lemmas.Bool.{cases_lt}
use Rattle.std.proofs.lemmas.Option.{get_or_from_slice_get}
use Rattle.span.specs.declared.key.Key.{Key}
use Rattle.groups.proofs.Lists.{set-same}
use Rattle.arena_core.specs.declared.reply.Refusal.{Refusal}
use Rattle.arena_core.specs.declared.reply.Refusal.TheVariants.{Config, OutOfMemory, RingFull}
use Rattle.arena_core.specs.Filled.{CannotReach, CannotSendIn, SendsIn, TakesIn, filled}
use Rattle.arena_core.specs.Rings.{CannotEnter, CannotSend, RingState, Sends, Takes, new_ring, new_rings, ring_at, ring_in, with_keys, with_ring_at}
use Rattle.arena_core.proofs.FilledLists.{filled-empty, filled-none, filled-past}

-- one ring of a row

module _ (row : List RingState) (worker : ℕ) (ring : RingState) (there : slice_get row worker ≡ Some ring) where
  cannot-enter : (refusal : Refusal) → CannotEnter refusal ring → CannotSendIn refusal row worker
  cannot-enter OutOfMemory enters = (ring, there, enters)
  cannot-enter RingFull enters = (ring, there, enters)
  cannot-enter refusal enters = absurd enters

  set-unchanged : (now : RingState) → now ≡ ring → set row worker now ≡ row
  set-unchanged now same = ap (set row worker) same ∙ set-same row worker ring there

  pub SendsIn-ring : (now : RingState) (key : Key) (answer : Result (Unit {0}) Refusal)
      → MatchResult answer (λ sent. (length ring.keys < ring.capacity) × (now ≡ record ring { keys = ring.keys ++ key ∷ [] })) (λ refusal. CannotEnter refusal ring × (now ≡ ring))
      → MatchResult answer (λ sent. SendsIn row worker key (set row worker now)) (λ refusal. CannotSendIn refusal row worker × (set row worker now ≡ row))
  SendsIn-ring now key (Ok sent) (room, is) = (ring, there, room, ap (set row worker) is)
  SendsIn-ring now key (Err refusal) (enters, same) = (cannot-enter refusal enters, set-unchanged now same)

  pub TakesIn-ring : (now : RingState) (found : Option Key)
      → MatchOption found ((ring.keys ≡ []) × (now ≡ ring)) (λ key. ring ≡ record now { keys = key ∷ now.keys })
      → TakesIn row worker found (set row worker now)
  TakesIn-ring now None (empty, same) = (ring, there, empty, set-unchanged now same)
  TakesIn-ring now (Some key) taken = (
    ring,
    now.keys,
    there,
    ap (λ (r : RingState). r.keys) taken,
    ap (λ (r : RingState). set row worker (record r { keys = now.keys })) (sym taken),
  )

-- one row of all rings

module _ (rings : List (List RingState)) (worker shard : ℕ) (row : List RingState) (here : slice_get rings shard ≡ Some row) where
  ring_at-row : ring_at rings worker shard ≡ slice_get row worker
  ring_at-row = ap (λ o. ring_in o worker) here

  pub ring_at-none : slice_get row worker ≡ None → ring_at rings worker shard ≡ None
  ring_at-none none = ring_at-row ∙ none

  cannot-send : (refusal : Refusal) → CannotSendIn refusal row worker → CannotSend refusal rings worker shard
  cannot-send Config none = ring_at-none none
  cannot-send refusal (ring, there, enters) = (ring, ring_at-row ∙ there, enters)

  pub row-unchanged : (now : List RingState) → now ≡ row → set rings shard now ≡ rings
  row-unchanged now same = ap (set rings shard) same ∙ set-same rings shard row here

  set-with_ring_at : (other : RingState) → set rings shard (set row worker other) ≡ with_ring_at rings worker shard other
  set-with_ring_at other = ap (λ r. set rings shard (set r worker other)) (sym (get_or_from_slice_get rings shard row [] here))

  pub Takes-row : (now : List RingState) (found : Option Key) → TakesIn row worker found now → Takes rings worker shard found (set rings shard now)
  Takes-row now None (ring, there, empty, same) = (ring, ring_at-row ∙ there, empty, row-unchanged now same)
  Takes-row now (Some key) (ring, rest, there, oldest, is) = (
    ring,
    rest,
    ring_at-row ∙ there,
    oldest,
    ap (set rings shard) is ∙ set-with_ring_at (with_keys ring rest),
  )

  pub Sends-row : (now : List RingState) (key : Key) (answer : Result (Unit {0}) Refusal) → key.span.shard ≡ shard
      → MatchResult answer (λ sent. SendsIn row worker key now) (λ refusal. CannotSendIn refusal row worker × (now ≡ row))
      → MatchResult answer (λ sent. Sends rings worker key (set rings shard now)) (λ refusal. CannotSend refusal rings worker shard × (set rings shard now ≡ rings))
  Sends-row now key (Ok sent) to (ring, there, room, is) = record {
    ring = ring;
    here = ap (ring_at rings worker) to ∙ ring_at-row ∙ there;
    room = room;
    after = ap (set rings shard) is ∙ set-with_ring_at (with_keys ring (ring.keys ++ key ∷ []))
        ∙ ap (λ s. with_ring_at rings worker s (with_keys ring (ring.keys ++ key ∷ []))) (sym to);
  }
  Sends-row now key (Err refusal) to (cannot, same) = (cannot-send refusal cannot, row-unchanged now same)

  pub Takes-answer : (now : List RingState) (answer : Result (Option Key) Refusal)
      → MatchResult answer (λ found. TakesIn row worker found now) (λ refusal. (refusal ≡ Config) × (slice_get row worker ≡ None) × (now ≡ row))
      → MatchResult answer (λ found. Takes rings worker shard found (set rings shard now))
      (λ refusal. (refusal ≡ Config) × (ring_at rings worker shard ≡ None) × (set rings shard now ≡ rings))
  Takes-answer now (Ok found) takes = Takes-row now found takes
  Takes-answer now (Err refusal) (is, none, same) = (is, ring_at-none none, row-unchanged now same)

-- a row that does not go as far

module _ (workers capacity : ℕ) (some : 1 ≤ capacity) (rings : List RingState) (worker : ℕ) (past : length rings ≤ worker) where
  pub SendsIn-unreached : (refusal : Refusal) → CannotReach refusal workers worker worker → CannotSendIn refusal (filled workers (new_ring capacity) rings) worker
  SendsIn-unreached Config (inl outside) = filled-none workers (new_ring capacity) rings worker outside
  SendsIn-unreached Config (inr outside) = filled-none workers (new_ring capacity) rings worker outside
  SendsIn-unreached OutOfMemory (within, again) = (new_ring capacity, filled-past workers (new_ring capacity) rings worker past within, omega arith)
  SendsIn-unreached refusal never = absurd never

-- rows that do not go as far

module _ (shards capacity : ℕ) (rows : List (List RingState)) (worker shard : ℕ) (past : length rows ≤ shard) where
  abbrev new_row : List RingState
  new_row = replicate shards (new_ring capacity)

  abbrev all : List (List RingState)
  all = filled shards new_row rows

  ring_at-new_row : shard < shards → ring_at all worker shard ≡ slice_get new_row worker
  ring_at-new_row within = ap (λ o. ring_in o worker) (filled-past shards new_row rows shard past within)

  unreached : worker < shards → shard < shards → ring_at all worker shard ≡ Some (new_ring capacity)
  unreached there within = ring_at-new_row within ∙ ap (λ row. slice_get row worker) (sym (filled-empty shards (new_ring capacity)))
      ∙ filled-past shards (new_ring capacity) [] worker (omega arith) there

  outside-none : (shards ≤ worker) ⊎ (shards ≤ shard) → ring_at all worker shard ≡ None
  outside-none (inr outside) = ap (λ o. ring_in o worker) (filled-none shards new_row rows shard outside)
  outside-none (inl outside) = by_shard (cases_lt shard shards)
    where
      by_shard : (shard < shards) ⊎ (shards ≤ shard) → ring_at all worker shard ≡ None
      by_shard (inr beyond) = ap (λ o. ring_in o worker) (filled-none shards new_row rows shard beyond)
      by_shard (inl within) = ring_at-new_row within ∙ ap (λ row. slice_get row worker) (sym (filled-empty shards (new_ring capacity)))
          ∙ filled-none shards (new_ring capacity) [] worker outside

  pub Sends-unreached : 1 ≤ capacity → (refusal : Refusal) → CannotReach refusal shards worker shard → CannotSend refusal all worker shard
  Sends-unreached some Config outside = outside-none outside
  Sends-unreached some OutOfMemory (there, within) = (new_ring capacity, unreached there within, omega arith)
  Sends-unreached some refusal never = absurd never

  pub Takes-unreached : (answer : Result (Option Key) Refusal)
      → MatchResult answer (λ found. (found ≡ None) × (worker < shards) × (shard < shards)) (λ refusal. (refusal ≡ Config) × ((shards ≤ worker) ⊎ (shards ≤ shard)))
      → MatchResult answer (λ found. Takes all worker shard found all) (λ refusal. (refusal ≡ Config) × (ring_at all worker shard ≡ None) × (all ≡ all))
  Takes-unreached (Ok found) (none, there, within) =
      subst (λ o. Takes all worker shard o all) (sym none) (new_ring capacity, unreached there within, refl, refl)
  Takes-unreached (Err refusal) (is, outside) = (is, outside-none outside, refl)

-- rings of which none is made

-- rings of which none is made
pub Takes-unmade : (shards capacity worker shard : ℕ) (answer : Result (Option Key) Refusal)
    → MatchResult answer (λ found. (found ≡ None) × (worker < shards) × (shard < shards)) (λ refusal. (refusal ≡ Config) × ((shards ≤ worker) ⊎ (shards ≤ shard)))
    → (let all = new_rings shards capacity in
    MatchResult answer (λ found. Takes all worker shard found all) (λ refusal. (refusal ≡ Config) × (ring_at all worker shard ≡ None) × (all ≡ all)))
Takes-unmade shards capacity worker shard answer told =
    subst (λ (all : List (List RingState)). MatchResult answer (λ found. Takes all worker shard found all) (λ refusal. (refusal ≡ Config) × (ring_at all worker shard ≡ None) × (all ≡ all)))
    (filled-empty shards (replicate shards (new_ring capacity))) (Takes-unreached shards capacity [] worker shard (omega arith) answer told)
