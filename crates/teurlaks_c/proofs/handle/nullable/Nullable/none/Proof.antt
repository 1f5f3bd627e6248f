-- `none` makes a null pointer, of no box.
use Rattle.teurlaks_c.proofs.Steps.{[], ◌∷◌, refl, None, inst_fn, ftrue, tables, ‵, raw, ◌⊛◌, ◌$◌, ◌∵◌, !, qed, move, keep, split, join, feq_i, suffices, done, agg, and_then, enter, lit, no_more, returns, alloc_all, free_all, look_at, pass_all, sets, Ptr, null_ptr, nothing, alive, proved, ends_at, says, walk_of}
use Rattle.teurlaks_c.proofs.AsBox.{at_content, word, word_fits, word_in}
use Rattle.teurlaks_c.specs.contracts.handle.nullable.Nullable.none as F
use Rattle.teurlaks_c.specs.contracts.handle.nullable.Nullable.none.Key.{name as #self}
use Rattle.teurlaks_c.proofs.handle.nullable.Nullable.none.Statement.{statement}
use Rattle.teurlaks_c.proofs.handle.nullable.Nullable.none.Code as code

pub none_spec : {M : Type 1} → statement M
none_spec 𝓤 𝓛 𝓜 𝓡 wired X L =
    let 𝓣 = tables 𝓤 𝓛.H 𝓜 𝓡 𝓡.env in let T = F.ended X in let c = F.clauses X 𝓛 𝓜.mem 𝓡.returns in let fn = inst_fn (at_content X) code.function in
    proved 𝓛 T tt c 𝓜 𝓡 tt (#self (at_content X)) fn (code.unfolded 𝓤 𝓛.H 𝓜 𝓡 wired (X, tt)) (λ κs. tt) (λ κs. tt) (λ κs qs bounds a gh are.
    let y : (walk_of 𝓛 T tt c).Ghost = ((κs, qs, bounds, a, tt), gh) in
    qed 𝓛 ((raw (alive 𝓛 T.signature κs qs) ⊛ ‵ ftrue) ∷ raw ((c κs a).requires gh) ∷ []) ∵ split ! $ keep ! (0 ∷ []) $
    enter ! 𝓣.C 𝓣.Λ fn [] _ $ alloc_all ! (λ ls. pass_all ! refl tt $
    sets ! (agg ! (and_then ! (lit ! tt) (no_more !))) refl (word_fits null_ptr) $ returns ! (look_at ! 0 refl) $ free_all ! refl $
    feq_i ! Ptr null_ptr null_ptr refl $ word_in ! X null_ptr None $
    suffices ! _ (ends_at 𝓛 T tt c y (word null_ptr) (record { at = null_ptr; value = None }) tt tt) $ says ! refl $
    nothing ! $ join ! $ move ! (1 ∷ 0 ∷ []) $ join ! $ done !))
