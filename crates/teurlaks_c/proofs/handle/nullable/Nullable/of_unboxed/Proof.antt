-- `of_unboxed` moves the pointer, and what the unboxed value owned goes with it.
use Rattle.teurlaks_c.proofs.Steps.{List, [], ◌∷◌, ◌++◌, refl, Some, B, D, R, box_out, box_typed, Val, inst_fn, SProp, fsep, ftrue, id⊢, tables, WpFn, ‵, raw, ◌⊛◌, prop, ◌$◌, ◌∵◌, !, qed, move, keep, use1, split, join, fsplit, fjoin, regoal, suffices, done, agg, sub, whole, and_then, enter, fld, no_more, of_opd, returns, stop, alloc_all, free_all, get, get_in, look_at, pass_all, sets, block_ptr, nothing, no, alive, plain, proved_at, Goes-dropped, Stays, ends_at, says, stay_dropped, walk_of}
use Rattle.std_alloc.proofs.BoxSteps.Form.{word as box_word}
use Rattle.teurlaks_c.specs.Owned.{owns_box}
use Rattle.teurlaks_c.proofs.AsBox.{OfUnboxed, at_content, boxed, word, word_in}
use Rattle.teurlaks_c.specs.contracts.handle.nullable.Nullable.of_unboxed as F
use Rattle.teurlaks_c.specs.contracts.handle.nullable.Nullable.of_unboxed.Key.{name as #self}
use Rattle.teurlaks_c.proofs.handle.nullable.Nullable.of_unboxed.Statement.{statement}
use Rattle.teurlaks_c.proofs.handle.nullable.Nullable.of_unboxed.Code as code

pub of_unboxed_spec : {M : Type 1} → statement M
of_unboxed_spec 𝓤 𝓛 𝓜 𝓡 wired X L =
    let 𝓣 = tables 𝓤 𝓛.H 𝓜 𝓡 𝓡.env in let T = F.ended X in let c = F.clauses X 𝓛 𝓜.mem 𝓡.returns in let fn = inst_fn (at_content X) code.function in
    let E = boxed X L in let From = OfUnboxed (R E) in
    let stayed : Stays T.signature.params T.kept = (stay_dropped (plain (λ _. From)) no, tt) in
    proved_at 𝓛 T stayed c 𝓜 𝓡 (Goes-dropped 𝓛 1 (plain (λ _. From)) no (λ κs x f. refl), tt) (#self (at_content X)) fn (code.unfolded 𝓤 𝓛.H 𝓜 𝓡 wired (X, tt)) (λ z are.
    let Post : Val → SProp 𝓤 = (walk_of 𝓛 T stayed c).post z in
    let v : D E = record { ptr = z.0.3.0.at; alloc = z.0.3.0.alloc; value = z.0.3.0.value } in
    qed 𝓛 ((raw (alive 𝓛 T.signature z.0.0 z.0.1) ⊛ ‵ (fsep ((B E).own_val v z.0.4.0) ftrue)) ∷ raw ((c z.0.0 z.0.3).requires z.1) ∷ []) ∵
    split ! $ move ! (1 ∷ []) $ fsplit ! $ box_out E ! v z.0.4.0 (λ b o hv e ws fits.
    -- [the value in memory; the right to free it; the allocator; nothing; the token; the bound]
    fjoin ! $ use1 𝓛 (‵ (owns_box (R E) (block_ptr b o) (Some v.value))) (id⊢ 𝓤 _) $ word_in ! (R E) (block_ptr b o) (Some v.value) $ keep ! (0 ∷ 3 ∷ []) $
    regoal ! (λ (us : List Val). prop (WpFn 𝓤 𝓛.H 𝓣.C 𝓣.Λ fn (us ++ []) Post)) ws refl $
    enter ! 𝓣.C 𝓣.Λ fn (box_word E hv b o ∷ []) _ $ alloc_all ! (λ ls. pass_all ! refl (box_typed E hv b o fits, tt) $
    sets ! (of_opd ! (get_in ! (fld ! refl (stop !)) (sub ! 0 refl (whole !)))) refl (tt, tt) $
    sets ! (agg ! (and_then ! (get ! refl) (no_more !))) refl (tt, (tt, tt)) $ returns ! (look_at ! 0 refl) $ free_all ! refl $
    suffices ! _ (ends_at 𝓛 T stayed c z (word (block_ptr b o)) (record { at = block_ptr b o; value = Some v.value }) (tt, tt) (tt, tt)) $ says ! refl $
    nothing ! $ nothing ! $ fjoin ! $ join ! $ move ! (1 ∷ 0 ∷ []) $ join ! $ done !)))
