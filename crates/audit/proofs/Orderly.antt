-- A table of spans beside the calls that were passed: for each span the most changes that one of them left.
use Rattle.std.proofs.Common.{◌≡◌, ℕ, ◌+◌, ◌-◌, ◌<◌, ◌≤◌, cond, List, [], length, set, get_or, Some, slice_get, sym, ap, subst, ◌∙◌, inl, inr, arith, get_or-set_same, get_or-set_other, rules}
use Rattle.std.proofs.lemmas.Bool.{cases_Bool, cases_lt, cases_eq}
use Rattle.std.proofs.lemmas.Option.{same_Some, slice_get_cases, slice_get_within}
use Rattle.span.specs.declared.receipt.Receipt.{Receipt}
use Rattle.span.specs.declared.span_log.SpanLog.{SpanLog}
use Rattle.audit.proofs.LogTable.{log_of-past, place_in-le, place_in-same}
use Rattle.audit.specs.Receipts.{changes_after, log_of, makes_change}
use Rattle.audit.specs.Agreement.{ChangesHaveReceipts, IsInOrder, IsRightReply, RepliesAreRight}
use Rattle.audit.specs.Order.{GoesBack, IsClear, IsLeftBelow, IsLeftFrom, LeaveNothing}
use Rattle.audit.specs.Tables.{IsKnown, place_in}

-- the calls before an index are in order
abbrev pub IsInOrderBelow : List Receipt → ℕ → Type 0
IsInOrderBelow list n = (i j : ℕ) (a b : Receipt) → slice_get list i ≡ Some a → slice_get list j ≡ Some b → i < j → j < n →
    (a.section ≤ b.section) × (a.key.span ≡ b.key.span → changes_after a ≤ b.at)

pub changes_after-low : (r : Receipt) → r.at ≤ changes_after r
changes_after-low r = search (rules)

-- two calls that the table has at one place are on one span: those on spans without a log leave nothing
pub too_early : (logs : List SpanLog) (list : List Receipt) (n : ℕ) (left : List ℕ) (r : Receipt) → LeaveNothing logs list → IsLeftBelow logs list n left → slice_get list n ≡ Some r
    → r.at < get_or left (place_in logs r.key.span) 0 → IsInOrder list → ⊥
too_early logs list n left r nothing is_left at early order = search (rules, cases_lt, place_in-same, place_in-le, log_of-past)

-- a call that was answered right, and that makes the change of its place if it makes one, leaves nothing where there are no changes
pub LeaveNothing-from : (logs : List SpanLog) (list : List Receipt) → ((i : ℕ) (r : Receipt) → slice_get list i ≡ Some r → IsRightReply logs r)
    → ((i : ℕ) (r : Receipt) → slice_get list i ≡ Some r → IsKnown logs r) → LeaveNothing logs list
LeaveNothing-from logs list right known i r at none = elim (cases_Bool (makes_change r)) [
  | inl makes ↦
      let made = known i r at makes in
      let within = slice_get_within (log_of logs r.key.span) r.at made.0 made.1 in
      let empty : length (log_of logs r.key.span) ≡ 0 = ap length none in
      absurd (omega arith)
  | inr quiet ↦
      let low = (right i r at).0 in
      let empty : length (log_of logs r.key.span) ≡ 0 = ap length none in
      let first : r.at ≡ 0 = omega arith in
      ap (λ b. cond b (r.at + 1) r.at) quiet ∙ first
]

-- the same of the calls of each worker
pub LeaveNothing-all : (logs : List SpanLog) (lists : List (List Receipt)) → ChangesHaveReceipts logs lists → RepliesAreRight logs lists → (w : ℕ) → LeaveNothing logs (get_or lists w [])
LeaveNothing-all logs lists changes replies w = LeaveNothing-from logs (get_or lists w []) (λ i r at. replies w i r at) (λ i r at makes. changes.known w i r at makes)

module _ (logs : List SpanLog) (list : List Receipt) (n : ℕ) (left : List ℕ) (r : Receipt) (is_left : IsLeftBelow logs list n left) (at : slice_get list n ≡ Some r)
    (late : get_or left (place_in logs r.key.span) 0 ≤ r.at) where
  pub IsInOrderBelow-more : IsInOrderBelow list n → (GoesBack list n → ⊥) → IsInOrderBelow list (n + 1)
  IsInOrderBelow-more below forward i j a b at_i at_j less fits = elim (cases_lt j n) [
    | inl before ↦ below i j a b at_i at_j less before
    | inr high ↦
        let last : j ≡ n = omega arith in
        let same : r ≡ b = same_Some r b (sym at ∙ sym (ap (λ k. slice_get list k) last) ∙ at_j) in
        let most = is_left.most i a (omega arith) at_i in
        let previous : (k : ℕ) (p : Receipt) → k + 1 ≡ n → slice_get list k ≡ Some p → p.section ≤ r.section = λ k p next at_k.
        let no : r.section < p.section → ⊥ = λ back. forward (k, p, r, next, at_k, at, back) in
        omega arith in
        let sections : a.section ≤ r.section = elim (cases_eq (i + 1) n) [
          | inl next ↦ previous i a next at_i
          | inr farther ↦ before_previous i a at_i (omega arith) below previous
        ] in
        subst (λ (c : Receipt). (a.section ≤ c.section) × (a.key.span ≡ c.key.span → changes_after a ≤ c.at)) same
        (sections, λ spans. omega (arith, most, ap (place_in logs) spans, ap (λ s. get_or left (place_in logs s) 0) spans))
  ]
    where
      before_previous : (i : ℕ) (a : Receipt) → slice_get list i ≡ Some a → i + 1 < n → IsInOrderBelow list n
          → ((k : ℕ) (p : Receipt) → k + 1 ≡ n → slice_get list k ≡ Some p → p.section ≤ r.section) → a.section ≤ r.section
      before_previous i a at_i less below previous = elim (slice_get_cases list (n - 1)).1 [
        | inl there ↦
            let p = (below i (n - 1) a there.0 at_i there.2 (omega arith) (omega arith)).0 in
            let q = previous (n - 1) there.0 (omega arith) there.2 in
            omega arith
        | inr past ↦ absurd (let within = slice_get_within list n r at in omega (arith, past.0))
      ]

module _ (logs : List SpanLog) (list : List Receipt) (n : ℕ) (left : List ℕ) (r : Receipt) (is_left : IsLeftBelow logs list n left) (at : slice_get list n ≡ Some r) where
  pub IsLeftBelow-more : place_in logs r.key.span < length left → (after : ℕ) → after ≡ changes_after r → get_or left (place_in logs r.key.span) 0 ≤ after
      → IsLeftBelow logs list (n + 1) (set left (place_in logs r.key.span) after)
  IsLeftBelow-more inside after is rises = record {
    most = λ k a fits at_k. elim (cases_lt k n) [
      | inl before ↦ elim (cases_eq (place_in logs a.key.span) (place_in logs r.key.span)) [
        | inl same ↦
            let old = is_left.most k a before at_k in
            let new : get_or (set left (place_in logs r.key.span) after) (place_in logs a.key.span) 0 ≡ after = rw same (get_or-set_same left (place_in logs r.key.span) after 0 inside) in
            let there : get_or left (place_in logs a.key.span) 0 ≡ get_or left (place_in logs r.key.span) 0 = ap (λ q. get_or left q 0) same in
            omega arith
        | inr other ↦
            let old = is_left.most k a before at_k in
            let new : get_or (set left (place_in logs r.key.span) after) (place_in logs a.key.span) 0 ≡ get_or left (place_in logs a.key.span) 0 =
            get_or-set_other left (place_in logs r.key.span) (place_in logs a.key.span) after 0 other in
            omega arith
      ]
      | inr high ↦
          let last : k ≡ n = omega arith in
          let same : r ≡ a = same_Some r a (sym at ∙ sym (ap (λ k. slice_get list k) last) ∙ at_k) in
          subst (λ (c : Receipt). changes_after c ≤ get_or (set left (place_in logs r.key.span) after) (place_in logs c.key.span) 0) same
          (let new = get_or-set_same left (place_in logs r.key.span) after 0 inside in omega arith)
    ];
    from = λ q. elim (cases_eq q (place_in logs r.key.span)) [
      | inl same ↦ inr (
        n,
        r,
        omega arith,
        at,
        sym same,
        sym is ∙ sym (ap (λ p. get_or (set left (place_in logs r.key.span) after) p 0) same ∙ get_or-set_same left (place_in logs r.key.span) after 0 inside),
      )
      | inr other ↦
          let new : get_or (set left (place_in logs r.key.span) after) q 0 ≡ get_or left q 0 = get_or-set_other left (place_in logs r.key.span) q after 0 other in
          elim (is_left.from q) [
            | inl none ↦ inl (new ∙ none)
            | inr w ↦ inr (w.0, w.1, omega (arith, w.2), w.3, w.4, w.5 ∙ sym new)
          ]
    ];
  }

-- what the calls left is taken out of the table, call by call
pub IsLeftFrom-all : (logs : List SpanLog) (list : List Receipt) (n : ℕ) (left : List ℕ) → IsLeftBelow logs list n left → IsLeftFrom logs list 0 left
IsLeftFrom-all logs list n left is q = elim (is.from q) [
  | inl none ↦ inl none
  | inr w ↦ inr (w.0, w.1, omega arith, w.3, w.4)
]

pub IsLeftFrom-more : (logs : List SpanLog) (list : List Receipt) (n : ℕ) (left : List ℕ) (r : Receipt) → IsLeftFrom logs list n left
    → slice_get list n ≡ Some r → place_in logs r.key.span < length left
    → IsLeftFrom logs list (n + 1) (set left (place_in logs r.key.span) 0)
IsLeftFrom-more logs list n left r is at inside q = elim (cases_eq q (place_in logs r.key.span)) [
  | inl same ↦ inl (ap (λ p. get_or (set left (place_in logs r.key.span) 0) p 0) same ∙ get_or-set_same left (place_in logs r.key.span) 0 0 inside)
  | inr other ↦
      let stays : get_or (set left (place_in logs r.key.span) 0) q 0 ≡ get_or left q 0 = get_or-set_other left (place_in logs r.key.span) q 0 0 other in
      elim (is q) [
        | inl none ↦ inl (stays ∙ none)
        | inr w ↦ elim (cases_eq w.0 n) [
          | inl last ↦
              let same : r ≡ w.1 = same_Some r w.1 (sym at ∙ sym (ap (λ k. slice_get list k) last) ∙ w.3) in
              absurd (other (sym w.4 ∙ sym (ap (λ (x : Receipt). place_in logs x.key.span) same)))
          | inr later ↦ inr (w.0, w.1, omega (arith, w.2), w.3, w.4)
        ]
      ]
]

pub IsClear-all : (logs : List SpanLog) (list : List Receipt) (n : ℕ) (left : List ℕ) → IsLeftFrom logs list n left → length list ≤ n → IsClear left
IsClear-all logs list n left is past q = search (rules, slice_get_within)

pub all_passed : (list : List Receipt) (n : ℕ) → IsInOrderBelow list n → length list ≤ n → IsInOrder list
all_passed list n below past i j a b at_i at_j less = below i j a b at_i at_j less (let within = slice_get_within list j b at_j in omega arith)

-- the section of a call, and that of the call before it
pub sections-GoesBack : (list : List Receipt) (i : ℕ) (b a : Receipt) → 1 ≤ i → slice_get list i ≡ Some b → slice_get list (i - 1) ≡ Some a → GoesBack list i → b.section < a.section
sections-GoesBack list i b a some at_b at_a back = search (rules, same_Some)
