-- What the verdicts on all lists say of the whole agreement.
use Rattle.std.proofs.Common.{◌≡◌, ℕ, ◌<◌, List, [], length, map, flat_map, get_or, Option, Some, None, IfSome, MatchOption, subst, refl, arith, rules}
use Rattle.std.proofs.lemmas.List.{length-map}
use Rattle.span.specs.declared.receipt.Receipt.{Receipt}
use Rattle.span.specs.declared.span_log.SpanLog.{SpanLog}
use Rattle.audit.specs.declared.fault.AuditCause.{AuditCause}
use Rattle.audit.specs.declared.fault.AuditCause.TheVariants as Cause
use Rattle.audit.specs.declared.verdict.Verdict.{Verdict}
use Rattle.audit.specs.declared.verdict.Verdict.TheVariants as verdict
use Rattle.audit.specs.Agreement.{Agreement, ChangesHaveReceipts, IsInOrder, LogsAreLegal, RepliesAreRight}
use Rattle.audit.specs.Faults.{FailsFirst}
use Rattle.audit.specs.Judged.{AreVerdicts, HasVerdict, IsFirstCause, IsRightList, IsVerdict, StandBetween}
use Rattle.audit.specs.Tables.{AreEntered, AreFull}
use Rattle.audit.proofs.Between.{between_all, sections_all}
use Rattle.audit.proofs.Lists.{lists_all}

-- what a clause on an option says where there is something
pub if_some : {X : Type 0} (P : X → Type 0) (found : Option X) (x : X) → found ≡ Some x → IfSome found P → P x
if_some P found x is holds = subst (λ o. IfSome o P) is holds

-- what a verdict says that is none of some
right_of : (logs : List SpanLog) (rows : List (List (Option ℕ))) (list : List Receipt) (v : Verdict) → IsVerdict logs rows list v
    → (v ≡ verdict.OutOfMemory → ⊥) → (v ≡ verdict.Reply → ⊥) → IsRightList logs list
right_of logs rows list verdict.Reply is no_memory no_reply = absurd (no_reply refl)
right_of logs rows list verdict.OutOfMemory is no_memory no_reply = absurd (no_memory refl)
right_of logs rows list v is no_memory no_reply = is.0

order_of : (logs : List SpanLog) (rows : List (List (Option ℕ))) (list : List Receipt) (v : Verdict) → IsVerdict logs rows list v → (v ≡ verdict.OutOfMemory → ⊥) → (v ≡ verdict.Reply → ⊥)
    → (v ≡ verdict.Order → ⊥) → IsInOrder list
order_of logs rows list verdict.Reply is no_memory no_reply no_order = absurd (no_reply refl)
order_of logs rows list verdict.Order is no_memory no_reply no_order = absurd (no_order refl)
order_of logs rows list verdict.OutOfMemory is no_memory no_reply no_order = absurd (no_memory refl)
order_of logs rows list v is no_memory no_reply no_order = is.1

between_of : (logs : List SpanLog) (rows : List (List (Option ℕ))) (list : List Receipt) (v : Verdict) → IsVerdict logs rows list v → (v ≡ verdict.OutOfMemory → ⊥) → (v ≡ verdict.Reply → ⊥)
    → (v ≡ verdict.Order → ⊥) → (v ≡ verdict.Barrier → ⊥) → StandBetween logs rows list
between_of logs rows list verdict.Passed is no_memory no_reply no_order no_barrier = is.2
between_of logs rows list verdict.Reply is no_memory no_reply no_order no_barrier = absurd (no_reply refl)
between_of logs rows list verdict.Order is no_memory no_reply no_order no_barrier = absurd (no_order refl)
between_of logs rows list verdict.Barrier is no_memory no_reply no_order no_barrier = absurd (no_barrier refl)
between_of logs rows list verdict.OutOfMemory is no_memory no_reply no_order no_barrier = absurd (no_memory refl)

-- a verdict for each place below the number of lists, read from the lists themselves
pub AreVerdicts-each : {X : Type 0} (f : X → List Receipt) (xs : List X) (logs : List SpanLog) (rows : List (List (Option ℕ))) (verdicts : List Verdict) → length verdicts ≡ length xs
    → ((w : ℕ) → w < length xs → IsVerdict logs rows (get_or (map f xs) w []) (get_or verdicts w verdict.OutOfMemory)) → AreVerdicts logs rows (map f xs) verdicts
AreVerdicts-each f xs logs rows verdicts long each = search (rules, length-map)

module _ {X : Type 0} (f : X → List Receipt) (xs : List X) (logs : List SpanLog) (rows : List (List (Option ℕ))) (verdicts : List Verdict)
    (are : AreVerdicts logs rows (map f xs) verdicts) where
  -- what holds of each list that has a verdict holds of each list
  all_of : (P : List Receipt → Type 0) → P [] → ((w : ℕ) → w < length verdicts → P (get_or (map f xs) w [])) → (w : ℕ) → P (get_or (map f xs) w [])
  all_of P none each = lists_all f P xs (length xs) (λ w less. each w (let same = length-map xs f in let long = are.len in omega arith)) (omega arith) none

  at : (w : ℕ) → w < length verdicts → IsVerdict logs rows (get_or (map f xs) w []) (get_or verdicts w verdict.OutOfMemory)
  at w less = are.each w (let long = are.len in omega arith)

  -- one verdict of a kind
  at_some : (v : Verdict) (has : HasVerdict verdicts v) → IsVerdict logs rows (get_or (map f xs) has.0 []) v
  at_some v has = subst (IsVerdict logs rows (get_or (map f xs) has.0 [])) has.2 (at has.0 has.1)

  module _ (no_memory : HasVerdict verdicts verdict.OutOfMemory → ⊥) (no_reply : HasVerdict verdicts verdict.Reply → ⊥) where
    all_right : RepliesAreRight logs (map f xs)
    all_right = all_of (IsRightList logs) (λ i r at. absurd cc)
        (λ w less. right_of logs rows (get_or (map f xs) w []) (get_or verdicts w verdict.OutOfMemory) (at w less) (λ e. no_memory (w, less, e)) (λ e. no_reply (w, less, e)))

    module _ (no_order : HasVerdict verdicts verdict.Order → ⊥) where
      all_in_order : (w : ℕ) → IsInOrder (get_or (map f xs) w [])
      all_in_order = all_of IsInOrder (λ i j a b at_i at_j less. absurd cc)
          (λ w less. order_of logs rows (get_or (map f xs) w []) (get_or verdicts w verdict.OutOfMemory) (at w less) (λ e. no_memory (w, less, e))
          (λ e. no_reply (w, less, e)) (λ e. no_order (w, less, e)))

      all_between : (HasVerdict verdicts verdict.Barrier → ⊥) → (w : ℕ) → StandBetween logs rows (get_or (map f xs) w [])
      all_between no_barrier = all_of (StandBetween logs rows) (λ i r at. absurd cc)
          (λ w less. between_of logs rows (get_or (map f xs) w []) (get_or verdicts w verdict.OutOfMemory) (at w less) (λ e. no_memory (w, less, e))
          (λ e. no_reply (w, less, e)) (λ e. no_order (w, less, e)) (λ e. no_barrier (w, less, e)))

  -- the first part that fails in any list is the first that fails in all
  pub judged : LogsAreLegal logs → ChangesHaveReceipts logs (map f xs) → AreEntered logs (flat_map f xs) rows → AreFull rows → (cause : Option AuditCause) → IsFirstCause verdicts cause
      → MatchOption cause (Agreement logs (map f xs)) (FailsFirst logs (map f xs))
  judged legal changes entered full None none = search (rules, all_right, all_in_order, sections_all, all_between)
  judged legal changes entered full (Some Cause.Reply) has = (legal, changes, λ right. at_some verdict.Reply has (right has.0))
  judged legal changes entered full (Some Cause.Order) is = (legal, changes, all_right is.1 is.2, λ order. (at_some verdict.Order is.0).1 (order is.0.0))
  judged legal changes entered full (Some Cause.Barrier) is =
      (legal, changes, all_right is.1 is.2, all_in_order is.1 is.2 is.3, λ order. (at_some verdict.Barrier is.0).2 (between_all f xs logs rows entered full order is.0.0))
  judged legal changes entered full cause is = absurd is
