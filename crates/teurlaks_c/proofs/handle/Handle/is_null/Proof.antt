-- `is_null` reads the pointer, which is null where the handle holds nothing, and leaves the handle as it was.
use Rattle.teurlaks_c.proofs.Steps.{List, [], ◌∷◌, refl, sym, named, Val, ptr_same, vnull, full_share, ftrue, flft, emp, tables, ‵, raw, given, ◌⊛◌, ◌$◌, ◌∵◌, !, qed, move, keep, learn, use1, join, split, fsplit, fsplit3, fjoin, feq_i, rewrite, suffices, frame, group, done, look_in, sub, whole, bin, enter, fld, lit, load, of_opd, returns, stop, alloc_all, free_all, get, look_at, pass_all, sets, through, shows, cell_at, ptr_val, MutRef, mut_Tells, mut_vals, plain, closes, nothing, opens, peeks, proved, Goes-ref, Stays, ends_at, says, stay_ref, walk_of}
use mir.Val.{vbool}
use Rattle.teurlaks_c.specs.contracts.held.Held as Content
use Rattle.teurlaks_c.specs.contracts.handle.Handle as Row
use Rattle.teurlaks_c.specs.Owned.{owns_held}
use Rattle.teurlaks_c.proofs.AsBox.{Tells, ptr_fits, tells}
use Rattle.teurlaks_c.proofs.handle.Handle.TheLaws.{lowers}
use Rattle.teurlaks_c.specs.contracts.handle.Handle.is_null as F
use Rattle.teurlaks_c.specs.contracts.handle.Handle.is_null.Key.{name as #self}
use Rattle.teurlaks_c.proofs.handle.Handle.is_null.Statement.{statement}
use Rattle.teurlaks_c.proofs.handle.Handle.is_null.Code as code

abbrev stayed : Stays F.ended.signature.params F.ended.kept
stayed = (stay_ref (0 ∷ []) tt (plain (λ _. Row.the_row)), tt)

pub is_null_spec : {M : Type 1} → statement M
is_null_spec 𝓤 𝓛 𝓜 𝓡 wired =
    let 𝓣 = tables 𝓤 𝓛.H 𝓜 𝓡 𝓡.env in let c = F.clauses 𝓛 𝓜.mem 𝓡.returns in
    proved 𝓛 F.ended stayed c 𝓜 𝓡 (Goes-ref 𝓛 1 0 tt (plain (λ _. Row.the_row)), tt)
    #self code.function (code.unfolded 𝓤 𝓛.H 𝓜 𝓡 wired)
    (λ κs. (mut_vals, tt)) (λ κs. (mut_Tells (named 0) κs.0 Row.the_row, tt)) (λ κs qs bounds a gh are.
    let b = a.0.ref_ptr.0 in let o = a.0.ref_ptr.1 in let h = a.0.now in let vs = mut_vals a.0 in
    let y : (walk_of 𝓛 F.ended stayed c).Ghost = ((κs, qs, bounds, a, (vs, tt)), gh) in
    let r = ptr_same (ptr_val h.at) vnull in
    qed 𝓛 (((‵ (flft κs.0 qs.0) ⊛ ‵ ftrue) ⊛ ‵ ((MutRef (named 0) κs.0 Row.the_row).own_val a.0 vs) ⊛ ‵ ftrue) ∷ raw (emp 𝓤) ∷ []) ∵
    split ! $ split ! $ move ! (2 ∷ []) $ split ! $ keep ! (0 ∷ 2 ∷ []) $
    enter ! _ _ _ _ _ $ alloc_all ! (λ l. pass_all ! refl ((tt, tt), tt) $
    fsplit3 ! $ move ! (1 ∷ 2 ∷ 3 ∷ []) $ opens ! tt Row.the_row b o (λ us.
    move ! (1 ∷ []) $ peeks ! Row.the_row _ (shows 𝓛 Row.the_row) h us (λ is. fsplit ! $ move ! (1 ∷ []) $
    use1 𝓛 (given (Tells Content.the_row h.at h.held) (‵ (owns_held h.at h.held))) (tells 𝓛 Content.the_row h.at h.held) $ learn ! (λ told.
    let one = lowers.val_is h us is in
    let Cell = λ (ws : List Val). ‵ (cell_at full_share Row.the_row.mir ws b o) in
    rewrite ! 2 Cell one refl $
    -- [what is held; what the field owns; the struct's cell; the open borrow, in three entries]
    sets ! (of_opd ! (load ! (through ! refl (fld ! refl (stop !))) (look_in ! 2 (sub ! 0 refl (whole !))))) refl (ptr_fits h.at) $
    sets ! (bin ! (get ! refl) (lit ! tt) told.0) refl (tt, tt) $
    rewrite ! 2 Cell (sym one) refl $
    move ! (1 ∷ []) $ fjoin ! $ move ! (1 ∷ []) $ closes ! tt Row.the_row h us b o $
    returns ! (look_at ! 0 refl) $ free_all ! refl $ move ! (3 ∷ []) $
    suffices ! _ (ends_at 𝓛 F.ended stayed c y (vbool r) r (h, tt) (tt, tt)) $ says ! (refl, told.1) $
    group ! 3 $ nothing ! $ move ! (1 ∷ 0 ∷ []) $ join ! $ nothing ! $ move ! (2 ∷ 0 ∷ []) $ join ! $ frame ! $ frame ! $
    feq_i ! (List Val) (vbool r ∷ []) (vbool r ∷ []) refl $ done !)))))
