-- `from_box` takes the box's pointer and allocator out, and what the box owned is the unboxed value's.
use Rattle.teurlaks_c.proofs.Steps.{◌≡◌, refl, ap, ◌∙◌, List, [], ◌∷◌, ◌++◌, Ura, Fn, Args, a_type, dcons, dnil, inst_fn, bare, Val, vstruct, of_list, SProp, ent, id⊢, never, fst∗, ftrue, fsep, flft, fact, tables, WpFn, Logic, sem, Item, ‵, raw, ◌⊛◌, some, later, prop, ◌$◌, ◌∵◌, !, qed, move, drop, use1, join, split, split3, pick, rewrite, regoal, fsplit, fjoin, fpick, feq_l, suffices, await, done, whole, sub, agg, stop, fld, no_more, and_then, of_opd, returns, enter, alloc_all, pass_all, free_all, look_at, get, get_in, sets, lands_as, no, bounded, Ptr, RawPtr, block_ptr, null_ptr, ptr_val, in_a_block, RattleType, plain, heard, nothing, only, triple_of, says, Stays, stay_dropped, walk_of, ends_at, token, handle_tells, Goes-blank, box_owns, Bx, τ, R, P, B, box_typed, box_out, box_in}
use mir.Syntax.{Dict}
use contract.BorrowLft.{◌⊑◌}
use contract.Monad.{Fun}
use contract.Running.{tables_of}
use prog.Memory.{Memory}
use prog.Routine.{Routine}
use prog.Wp.{Tables}
use sound.WpLaws.{fm_of, WpFn-mono}
use denote.Struct.Tuple.{Tuple}
use denote.Triple.Call.{calls_at}
use denote.Triple.Clauses.{Ended, Clauses}
use denote.Triple.Statement.{Triple, Contract}
use denote.Triple.Table.{entered}
use denote.Triple.Walked.{walk_Meets}
use Rattle.std_alloc.proofs.BoxSteps.Form.{word}
use Rattle.std_alloc.specs.contracts.boxed.Box.into_raw_with_allocator as Callee
use Rattle.std_alloc.proofs.boxed.Box.into_raw_with_allocator.Symbol as callee
use Rattle.std_alloc.proofs.boxed.Box.into_raw_with_allocator.Met.{met}
use Rattle.teurlaks_c.specs.contracts.handle.unboxed.Unboxed as Unboxed
use Rattle.teurlaks_c.specs.contracts.handle.unboxed.Unboxed.from_box as F
use Rattle.teurlaks_c.specs.contracts.handle.unboxed.Unboxed.from_box.Key.{name as #self}
use Rattle.teurlaks_c.proofs.handle.unboxed.Unboxed.from_box.Statement.{statement}
use Rattle.teurlaks_c.proofs.handle.unboxed.Unboxed.from_box.Code as code

-- at any element and allocator, and any way to drop the element
module _ (E : Bx) (glue : Dict) where
  abbrev given : Args
  given = bounded (a_type ∷ a_type ∷ []) (E.row, (E.al.row, tt)) (dcons E.al.d (dcons E.al.drops (dcons glue dnil)))

  abbrev body : Fn
  body = inst_fn given code.function

  abbrev ended : Ended
  ended = F.ended E.row E.al.row E.al.g E.al.d E.al.drops glue

  abbrev stays : Stays ended.signature.params ended.kept
  stays = (stay_dropped (plain (λ _. B E)) no, tt)

  abbrev Result : RattleType
  Result = Unboxed.the_row (R E) (P E) E.al.g

  module _ {M : Type 1} {𝓤 : Ura M} (𝓛 : Logic 𝓤) (at_mem : Memory → SProp 𝓤) (run : Routine → Fun 𝓤) (𝓣 : Tables 𝓤 𝓛.H) where
    open 𝓛 use {H}

    abbrev clauses : Clauses 𝓤 ended
    clauses = F.clauses E.row E.al.row E.al.g E.al.d E.al.drops glue 𝓛 at_mem run

    abbrev Takes : Contract 𝓤
    Takes = triple_of 𝓛 (Callee.signature E.row E.al.row E.al.g E.al.d E.al.drops glue) (Callee.spec E.row E.al.row E.al.g E.al.d E.al.drops glue 𝓛 at_mem run)

    walk : Triple 𝓤 (𝓣.C (callee.name given)) Takes
        → (z : (walk_of 𝓛 ended stays clauses).Ghost) → ent 𝓤 ((walk_of 𝓛 ended stays clauses).pre z) (WpFn 𝓤 H 𝓣.C 𝓣.Λ body (z.0.4.0 ++ []) ((walk_of 𝓛 ended stays clauses).post z))
    walk takes z =
        let Post = (walk_of 𝓛 ended stays clauses).post z in
        let held = z.0.3.0 in
        let tokens : Item 𝓤 = ‵ (flft z.0.0.0 z.0.1.0) ⊛ ‵ (flft z.0.0.1.0 z.0.1.1.0) ⊛ ‵ ftrue in
        let live : Item 𝓤 = raw (fact 𝓤 (z.0.0.0 ⊑ E.row.lives)) ⊛ raw (fact 𝓤 (z.0.0.1.0 ⊑ E.al.row.lives)) ⊛ ‵ ftrue in
        qed 𝓛 ((tokens ⊛ ‵ (fsep ((B E).own_val held z.0.4.0) ftrue)) ∷ live ∷ []) ∵
        split ! $ move ! (1 ∷ []) $ fsplit ! $
        -- the box is one machine value
        box_out E ! held z.0.4.0 (λ b o hv at is fits. box_in E ! held b o held.value at refl $
        regoal ! (λ (us : List Val). prop (WpFn 𝓤 H 𝓣.C 𝓣.Λ body (us ++ []) Post)) is refl $
        enter ! 𝓣.C 𝓣.Λ body (word E hv b o ∷ []) _ $ alloc_all ! (λ ls. pass_all ! refl (box_typed E hv b o fits, tt) $
        sets ! (of_opd ! (get ! refl)) refl (box_typed E hv b o fits) $
        -- [the box; nothing more; the tokens; the lifetimes' bounds]
        let y : Takes.Ghost = ((z.0.0, z.0.1, tt, (held, tt), (word E hv b o ∷ [], tt)), tt) in
        fjoin ! $ move ! (1 ∷ 0 ∷ []) $ join ! $ join ! $ use1 𝓛 (raw (Takes.pre y)) (id⊢ 𝓤 _) $
        calls_at ! (fm_of 𝓤 H 𝓛.laws 𝓣) Takes takes y (and_then ! (get ! refl) (no_more !)) (λ u.
        use1 𝓛 (later (some (λ (r : Ptr × E.al.row.Denot). (tokens ⊛ ‵ ((Tuple (RawPtr ∷ P E ∷ [])).own_val r (u ∷ []))) ⊛
        some (λ (_ : (Unit {0} × (Unit {0} × Unit {0})) × Unit {0}). ‵ (fsep (fsep ftrue (fsep ftrue ftrue)) ftrue) ⊛
        (raw (fact 𝓤 (r.1 ≡ held.alloc)) ⊛ ‵ (box_owns (token E.al held.alloc) (R E) r.0 held.value)))))) (id⊢ 𝓤 _) $
        await ! tt $ pick ! (λ r. split ! $ move ! (1 ∷ []) $ pick ! (λ _. split3 ! $ drop ! $ heard ! (r.1 ≡ held.alloc) (λ same.
        in_a_block ! r.0 (λ p. box_owns (token E.al held.alloc) (R E) p held.value) (fst∗ 𝓤 (never 𝓤) (sem 𝓛 (token E.al held.alloc (bare (τ E)) null_ptr))) (λ b' o' at'.
        -- the pair that came back is one machine value too
        move ! (1 ∷ []) $ split ! $ move ! (1 ∷ []) $ fpick ! (λ us. fsplit ! $ feq_l ! (λ pair. fsplit ! $ feq_l ! (λ first. fsplit ! $
        rewrite ! 0 (λ (a : E.al.row.Denot). ‵ (E.al.row.own_val a us.1.0)) same refl $ handle_tells E.al ! held.alloc us.1.0 (λ hv' second fits'.
        lands_as ! (ap only (pair ∙ (λ j. vstruct (of_list ((first ∙ ap (λ (p : Ptr). ptr_val p ∷ []) at') j ++ (second j ++ []))) ∷ []))) refl (box_typed E hv' b' o' fits') $
        sets ! (of_opd ! (get_in ! (fld ! refl (stop !)) (sub ! 0 refl (whole !)))) refl (tt, tt) $
        sets ! (of_opd ! (get_in ! (fld ! refl (stop !)) (sub ! 1 refl (whole !)))) refl fits' $
        sets ! (of_opd ! (get ! refl)) refl fits' $
        sets ! (agg ! (and_then ! (get ! refl) (and_then ! (get ! refl) (no_more !)))) refl (box_typed E hv' b' o' fits') $
        returns ! (look_at ! 0 refl) $ free_all ! refl $
        -- [the allocator; nothing more; the tokens; the value in memory with the right to free it; the lifetimes' bounds]
        let made : Result.Denot = record { at = block_ptr b' o'; alloc = held.alloc; value = held.value } in
        move ! (3 ∷ []) $ fsplit ! $ box_in E ! (record { ptr = block_ptr b' o'; alloc = held.alloc; value = held.value }) b' o' held.value refl refl $
        use1 𝓛 (‵ (Result.own_val made (word E hv' b' o' ∷ []))) (id⊢ 𝓤 _) $ move ! (1 ∷ []) $ drop ! $
        suffices ! _ (ends_at 𝓛 ended stays clauses z (word E hv' b' o') made ((tt, (tt, tt)), tt) (tt, tt)) $ says ! refl $
        nothing ! $ nothing ! $ fjoin ! $ join ! $ move ! (1 ∷ 0 ∷ []) $ join ! $ done !)))))))))))

pub from_box_spec : {M : Type 1} → statement M
unfolding tables_of
from_box_spec 𝓤 𝓛 𝓜 𝓡 wired X Z LX LZ g d dd glue allocator drops element =
    let E : Bx = record { row = X; laws = LX; al = record { row = Z; laws = LZ; g = g; d = d; drops = dd } } in
    let 𝓣 : Tables 𝓤 𝓛.H = tables_of 𝓤 𝓛.H 𝓜 (tables 𝓤 𝓛.H 𝓜 𝓡 𝓡.env) in
    let fn = body E glue in
    entered 𝓤 𝓛.H (triple_of 𝓛 (ended E glue).signature (F.spec X Z g d dd glue 𝓛 𝓜.mem 𝓡.returns)) 𝓣.C 𝓣.Λ (#self (given E glue)) fn (code.unfolded 𝓤 𝓛.H 𝓜 𝓡 wired (X, (Z, tt)) d dd glue)
    (walk_Meets 𝓛 (ended E glue) (stays E glue) (Goes-blank 𝓛 2 (plain (λ _. B E)) no (λ κs x f. tt), tt) (clauses E glue 𝓛 𝓜.mem 𝓡.returns 𝓣) (WpFn 𝓤 𝓛.H 𝓣.C 𝓣.Λ fn) (WpFn-mono 𝓤 𝓛.H 𝓛.laws 𝓣 fn)
    (walk E glue 𝓛 𝓜.mem 𝓡.returns 𝓣 (met 𝓤 𝓛 𝓜 𝓡 (code.calls-std_alloc::boxed::Box::into_raw_with_allocator 𝓡.env wired) X Z LX LZ g d dd glue allocator drops element)))
