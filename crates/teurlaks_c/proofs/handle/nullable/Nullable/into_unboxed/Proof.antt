-- `into_unboxed` tests the pointer, which is null if there is no box, and else moves it, and what the nullable owns goes with it.
use Rattle.teurlaks_c.proofs.Steps.{◌≡◌, ℕ, List, [], ◌∷◌, ◌++◌, refl, sym, subst, lit<, Some, None, P, D, R, τ, Bx, Fits, box_in, box_owns, box_typed, handle_tells, after, Ura, Fn, inst_fn, bare, Val, vcons, vnil, SProp, ent, sep, id⊢, never, fst∗, fsep, ftrue, tables, WpFn, Logic, sem, ‵, raw, ◌⊛◌, given, at_ret, ◌$◌, ◌∵◌, !, qed, by, move, keep, drop, use0, use1, join, split, fsplit, fjoin, learn, suffices, done, agg, sub, whole, and_then, bin, branches, enter, exec, first, fld, lit, no_more, of_opd, returns, stop, alloc_all, env, free_all, get, get_in, look_at, pass_all, sets, sets_last, Ptr, Testable, block_ptr, in_a_block, null_ptr, tests_null, layout, Laws, RattleType, no, yes, nothing, alive, plain, type_at, proved_at, Goes-dropped, Stays, ends_at, says, stay_dropped, walk_of}
use prog.Wp.{Tables}
use prog.Memory.{Memory}
use prog.Routine.{Routine}
use contract.Monad.{Fun}
use contract.Running.{tables_of}
use types.Match.{live}
use denote.Triple.Clauses.{Ended, Clauses}
use Rattle.core.proofs.cell.Inside.{Good}
use Rattle.core.proofs.option.Made.{Some-of, none_of}
use Rattle.std_alloc.proofs.ResultValues.{and_tt}
use Rattle.std_alloc.proofs.BoxSteps.Form.{word as box_word}
use Rattle.std_heap.specs.contracts.Global as Heap
use Rattle.teurlaks_c.specs.Owned.{right}
use Rattle.teurlaks_c.specs.contracts.handle.nullable.Nullable as Nullable
use Rattle.teurlaks_c.proofs.AsBox.{OfUnboxed, at_content, boxed, held_or_null, tested, word, word_fits, word_out}
use Rattle.teurlaks_c.specs.contracts.handle.nullable.Nullable.into_unboxed as F
use Rattle.teurlaks_c.specs.contracts.handle.nullable.Nullable.into_unboxed.Key.{name as #self}
use Rattle.teurlaks_c.proofs.handle.nullable.Nullable.into_unboxed.Statement.{statement}
use Rattle.teurlaks_c.proofs.handle.nullable.Nullable.into_unboxed.Code as code

-- at any content
module _ (X : RattleType) (L : Laws X) where
  abbrev E : Bx
  E = boxed X L

  abbrev fn : Fn
  fn = inst_fn (at_content X) code.function

  abbrev From : RattleType
  From = Nullable.the_row (R E)

  abbrev ended : Ended
  ended = F.ended X

  abbrev stayed : Stays ended.signature.params ended.kept
  stayed = (stay_dropped (plain (λ _. From)) no, (stay_dropped (plain (λ _. Heap.the_row)) yes, tt))

  module _ {M : Type 1} {𝓤 : Ura M} (𝓛 : Logic 𝓤) (at_mem : Memory → SProp 𝓤) (run : Routine → Fun 𝓤) (𝓣 : Tables 𝓤 𝓛.H) where
    open 𝓛 use {H}

    abbrev clauses : Clauses 𝓤 ended
    clauses = F.clauses X 𝓛 at_mem run

    abbrev Bound : Type 0
    Bound = (walk_of 𝓛 ended stayed clauses).Ghost

    abbrev Post : Bound → Val → SProp 𝓤
    Post z = (walk_of 𝓛 ended stayed clauses).post z

    abbrev Alive : Bound → SProp 𝓤
    Alive z = alive 𝓛 ended.signature z.0.0 z.0.1

    -- of no box
    from_null : (z : Bound) (hv : Val) → Fits E.al hv → z.0.3.0.value ≡ None → ent 𝓤 (Alive z) (WpFn 𝓤 H 𝓣.C 𝓣.Λ fn (word null_ptr ∷ hv ∷ []) (Post z))
    from_null z hv fa none =
        let To = type_at ended.signature.result z.0.0 in
        qed 𝓛 (raw (Alive z) ∷ []) ∵ enter ! 𝓣.C 𝓣.Λ fn (word null_ptr ∷ hv ∷ []) _ $ alloc_all ! (λ ls. pass_all ! refl (word_fits null_ptr, (fa, tt)) $
        let Ev = env fn.locals ls in
        sets ! (of_opd ! (get_in ! (fld ! refl (stop !)) (sub ! 0 refl (whole !)))) refl (tt, record { fits = lit< tt }) $
        sets ! (bin ! (get ! refl) (lit ! tt) tt) refl (tt, tt) $ first ! $ branches ! (get ! refl)
        (λ _. sets_last ! (agg ! (and_then ! (lit ! tt) (no_more !))) refl (tt, (record { fits = lit< tt }, tt)) $
        exec ! 𝓣.C 𝓣.Λ Ev (after 3 fn.body) (at_ret Ev (Post z)) $
        sets ! (of_opd ! (get ! refl)) refl (tt, (record { fits = lit< tt }, tt)) $ returns ! (look_at ! 0 refl) $ free_all ! refl $
        use0 𝓛 (‵ (To.own_val None (live 0 vnil ∷ []))) (none_of 𝓛 (OfUnboxed (R E))) $
        suffices ! _ (ends_at 𝓛 ended stayed clauses z (live 0 vnil) None (tt, (tt, tt)) (tt, (tt, tt))) $ says ! none $
        nothing ! $ nothing ! $ fjoin ! $ nothing ! $ fjoin ! $ join ! $ move ! (1 ∷ 0 ∷ []) $ join ! $ done !)
        (λ wrong. absurd wrong))

    -- of a box
    from_box : (z : Bound) (held : X.Denot) (hv : Val) (b o : ℕ) → Fits E.al hv → Testable (block_ptr b o) → z.0.3.0.value ≡ Some held
        → ent 𝓤 (sep 𝓤 (sem 𝓛 (box_owns right (R E) (block_ptr b o) held)) (sep 𝓤 (sem 𝓛 ((P E).own_val z.0.3.1.0 (hv ∷ []))) (Alive z)))
        (WpFn 𝓤 H 𝓣.C 𝓣.Λ fn (word (block_ptr b o) ∷ hv ∷ []) (Post z))
    from_box z held hv b o fa may same =
        let a = z.0.3.1.0 in let To = type_at ended.signature.result z.0.0 in let Unboxed = OfUnboxed (R E) in
        let made : Unboxed.Denot = record { at = block_ptr b o; alloc = a; value = held } in
        let some : Val = live 1 (vcons (box_word E hv b o) vnil) in
        let typed = box_typed E hv b o fa in
        let good : Good (layout To) some = (and_tt _ typed.0, (record { fits = lit< tt }, (typed.1, tt))) in
        qed 𝓛 (‵ (box_owns right (R E) (block_ptr b o) held) ∷ ‵ ((P E).own_val a (hv ∷ [])) ∷ raw (Alive z) ∷ []) ∵
        fsplit ! $ box_in E ! (record { ptr = block_ptr b o; alloc = a; value = held }) b o held refl refl $
        use1 𝓛 (‵ (Unboxed.own_val made (box_word E hv b o ∷ []))) (id⊢ 𝓤 _) $ use1 𝓛 (‵ (To.own_val (Some made) (some ∷ []))) (Some-of 𝓛 Unboxed made (box_word E hv b o)) $
        enter ! 𝓣.C 𝓣.Λ fn (word (block_ptr b o) ∷ hv ∷ []) _ $ alloc_all ! (λ ls. pass_all ! refl (word_fits (block_ptr b o), (fa, tt)) $
        let Ev = env fn.locals ls in
        sets ! (of_opd ! (get_in ! (fld ! refl (stop !)) (sub ! 0 refl (whole !)))) refl (tt, tt) $
        sets ! (bin ! (get ! refl) (lit ! tt) (tests_null (block_ptr b o) may)) refl (tt, tt) $ first ! $ branches ! (get ! refl)
        (λ wrong. absurd wrong)
        (λ _. sets ! (agg ! (and_then ! (get ! refl) (and_then ! (get ! refl) (no_more !)))) refl typed $
        sets_last ! (agg ! (and_then ! (lit ! tt) (and_then ! (get ! refl) (no_more !)))) refl good $
        exec ! 𝓣.C 𝓣.Λ Ev (after 3 fn.body) (at_ret Ev (Post z)) $ sets ! (of_opd ! (get ! refl)) refl good $ returns ! (look_at ! 0 refl) $ free_all ! refl $
        suffices ! _ (ends_at 𝓛 ended stayed clauses z some (Some made) (tt, (tt, tt)) (tt, (tt, tt))) $ says ! same $
        nothing ! $ nothing ! $ fjoin ! $ nothing ! $ fjoin ! $ join ! $ move ! (1 ∷ 0 ∷ []) $ join ! $ done !))

    walk : (z : Bound) → ent 𝓤 ((walk_of 𝓛 ended stayed clauses).pre z) (WpFn 𝓤 H 𝓣.C 𝓣.Λ fn (z.0.4.0 ++ (z.0.4.1.0 ++ [])) (Post z))
    walk z =
        let n = z.0.3.0 in let a = z.0.3.1.0 in
        let Goes : List Val → SProp 𝓤 = λ us. WpFn 𝓤 H 𝓣.C 𝓣.Λ fn us (Post z) in
        qed 𝓛 ((raw (Alive z) ⊛ ‵ (fsep (From.own_val n z.0.4.0) (fsep ((P E).own_val a z.0.4.1.0) ftrue))) ∷ raw ((clauses z.0.0 z.0.3).requires z.1) ∷ []) ∵
        split ! $ move ! (1 ∷ []) $ fsplit ! $ move ! (1 ∷ []) $ fsplit ! $ handle_tells E.al ! a z.0.4.1.0 (λ hv ea fa. move ! (2 ∷ []) $
        -- [the nullable; the allocator; nothing; the token; the bound]
        word_out ! (R E) n.at n.value z.0.4.0 (λ en.
        let passed : (p : Ptr) → n.at ≡ p → z.0.4.0 ++ (z.0.4.1.0 ++ []) ≡ word p ∷ hv ∷ [] = λ p e.
        subst (λ (q : Ptr). z.0.4.0 ++ (z.0.4.1.0 ++ []) ≡ word q ∷ hv ∷ []) e (λ i. en i ++ (ea i ++ [])) in
        held_or_null ! (R E) n.at n.value
        (λ none null. keep ! (2 ∷ []) $ by ! (subst (λ (us : List Val). ent 𝓤 (Alive z) (Goes us)) (sym (passed null_ptr null)) (from_null z hv fa none)))
        (λ held same. in_a_block ! n.at (λ p. box_owns right (R E) p held) (fst∗ 𝓤 (never 𝓤) (sem 𝓛 (right (bare (τ E)) null_ptr))) (λ b o e. keep ! (0 ∷ 1 ∷ 3 ∷ []) $
        use1 𝓛 (given (Testable (block_ptr b o)) (‵ (box_owns right (R E) (block_ptr b o) held))) (tested 𝓛 (R E) (block_ptr b o) held) $ learn ! (λ may.
        by ! (subst (λ (us : List Val). ent 𝓤 (sep 𝓤 (sem 𝓛 (box_owns right (R E) (block_ptr b o) held)) (sep 𝓤 (sem 𝓛 ((P E).own_val a (hv ∷ []))) (Alive z))) (Goes us))
        (sym (passed (block_ptr b o) e)) (from_box z held hv b o fa may same)))))))

pub into_unboxed_spec : {M : Type 1} → statement M
unfolding tables_of
into_unboxed_spec 𝓤 𝓛 𝓜 𝓡 wired X L =
    let 𝓣 : Tables 𝓤 𝓛.H = tables_of 𝓤 𝓛.H 𝓜 (tables 𝓤 𝓛.H 𝓜 𝓡 𝓡.env) in
    proved_at 𝓛 (ended X L) (stayed X L) (clauses X L 𝓛 𝓜.mem 𝓡.returns 𝓣) 𝓜 𝓡
    (Goes-dropped 𝓛 1 (plain (λ _. From X L)) no (λ κs x f. refl), (Goes-dropped 𝓛 1 (plain (λ _. Heap.the_row)) yes (λ κs x f. refl), tt))
    (#self (at_content X)) (fn X L) (code.unfolded 𝓤 𝓛.H 𝓜 𝓡 wired (X, tt)) (λ z are. walk X L 𝓛 𝓜.mem 𝓡.returns 𝓣 z)
