-- The changes of many logs, put in order.
use Rattle.std.proofs.Common.{◌≡◌, ℕ, ◌<◌, List, length, map, get_or, Some, option_map, slice_get, sym, subst, ap, ◌∙◌, inl, inr, arith}
use Rattle.std.proofs.lemmas.List.{length-map}
use Rattle.std.proofs.lemmas.Option.{same_Some, slice_get_cases, slice_get_within, slice_get-map, slice_get-get_or, get_or_from_slice_get}
use Rattle.span.specs.KeptLogs.{kept_changes}
use Rattle.span.specs.declared.span_log.SpanLog.{SpanLog}
use Rattle.audit.specs.declared.slot.SlotChange.{SlotChange}
use Rattle.audit.specs.Slots.{AreBySlot, HaveChanges, IsBySlot, IsSortedFrom}
use Rattle.audit.proofs.BySlot.{HasChanges-moved}

-- lists of changes that are put in order, one by one
pub AreBySlot-sorted : {V : Type 0} (f : V → List SlotChange) (logs : List SpanLog) (old new : List V) → length new ≡ length old → HaveChanges logs (map f old)
    → ((j : ℕ) (d : V) → j < length old → IsSortedFrom (f (get_or old j d)) (f (get_or new j d))) → AreBySlot logs (map f new)
AreBySlot-sorted f logs old new long have sorted j log found at_log at_found = elim (slice_get_cases new j).1 [
  | inl there ↦
      let x = there.0 in
      let inside : j < length old = let e = there.1 in omega arith in
      let is_found : f x ≡ found = same_Some (f x) found (sym (slice_get-map f new j ∙ ap (option_map f) there.2) ∙ at_found) in
      let is_new : get_or new j x ≡ x = get_or_from_slice_get new j x x there.2 in
      let at_old : slice_get (map f old) j ≡ Some (f (get_or old j x)) = slice_get-map f old j ∙ ap (option_map f) (slice_get-get_or old j x inside) in
      let by = sorted j x inside in
      subst (λ l. IsBySlot (kept_changes log.log) l) (ap f is_new ∙ is_found)
      (record { has = HasChanges-moved (kept_changes log.log) (f (get_or old j x)) (f (get_or new j x)) by.permutation (have j log (f (get_or old j x)) at_log at_old); sorted = by.sorted })
  | inr past ↦ absurd (let within = slice_get_within (map f new) j found at_found in let same = length-map new f in omega (arith, past.0))
]
