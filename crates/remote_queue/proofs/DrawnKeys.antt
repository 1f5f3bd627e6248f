-- Keys that were drawn in one block, and of which the first are taken.
use Rattle.std.proofs.Common.{◌≡◌, ℕ, ◌+◌, ◌-◌, ◌≤◌, List, ◌++◌, length, take, drop, ap, sym, subst, ◌∙◌, arith, length-append, length-drop, length-take-le, append_assoc, rules}
use Rattle.std.proofs.lemmas.List.{drop-drop, drop-take, take-append-drop, take-append-le}
use Rattle.std.proofs.Math.Seq.{take-append-add}
use Rattle.remote_queue.specs.Drawn.{drawn_keys, without_last}

module _ {T : Type 0} where
  pub length-drawn_keys : (next end : ℕ) (block : List T) → end ≤ length block → length (drawn_keys next end block) ≡ end - next
  length-drawn_keys next end block fits = length-take-le (end - next) (drop next block) (omega (arith, length-drop next block))

  -- those that are left behind the first
  pub drawn_keys-drop : (next end count : ℕ) (block : List T) → next + count ≤ end → drawn_keys (next + count) end block ≡ drop count (drawn_keys next end block)
  drawn_keys-drop next end count block fits =
      let parts : end - next ≡ count + (end - (next + count)) = omega arith in
      sym (rw parts (drop-take count (end - (next + count)) (drop next block)) ∙ ap (take (end - (next + count))) (drop-drop count next block))

  -- what is drawn and not taken comes last, so that what was taken goes on by the first of it
  pub without_last-take : (received drawn : List T) (n count : ℕ) → received ≡ without_last n received ++ drawn → length drawn ≡ n → count ≤ n
      → without_last (n - count) received ≡ without_last n received ++ take count drawn
  without_last-take received drawn n count is long fits =
      let before = without_last n received in
      let at : length received - (n - count) ≡ length before + count = omega (arith, ap length is, length-append before drawn, long) in
      rw at (subst (λ r. take (length before + count) r ≡ before ++ take count drawn) (sym is) (take-append-add before drawn count))

  pub without_last-rest : (received drawn : List T) (n count : ℕ) → received ≡ without_last n received ++ drawn → length drawn ≡ n → count ≤ n
      → received ≡ without_last (n - count) received ++ drop count drawn
  without_last-rest received drawn n count is long fits =
      let before = without_last n received in
      is ∙ ap (λ l. before ++ l) (sym (take-append-drop count drawn)) ∙ sym (append_assoc before (take count drawn) (drop count drawn))
      ∙ ap (λ l. l ++ drop count drawn) (sym (without_last-take received drawn n count is long fits))

  pub rest_of_drawn : (received block : List T) (next end count : ℕ) → received ≡ without_last (end - next) received ++ drawn_keys next end block
      → length (drawn_keys next end block) ≡ end - next → next + count ≤ end
      → received ≡ without_last (end - (next + count)) received ++ drawn_keys (next + count) end block
  rest_of_drawn received block next end count is long within =
      let fewer : end - (next + count) ≡ (end - next) - count = omega arith in
      subst (λ k. received ≡ without_last k received ++ drawn_keys (next + count) end block) (sym fewer)
      (without_last-rest received (drawn_keys next end block) (end - next) count is long (omega arith)
      ∙ ap (λ l. without_last ((end - next) - count) received ++ l) (sym (drawn_keys-drop next end count block within)))

  pub taken_of_drawn : (received block known : List T) (next end count : ℕ) → received ≡ without_last (end - next) received ++ drawn_keys next end block
      → length (drawn_keys next end block) ≡ end - next → next + count ≤ end
      → without_last (end - (next + count)) received ≡ without_last (end - next) received ++ take count (drawn_keys next end block ++ known)
  taken_of_drawn received block known next end count is long within = search (rules, without_last-take, take-append-le)
