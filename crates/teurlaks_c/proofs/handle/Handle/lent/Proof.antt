-- `lent` lends what is held, and the handle follows it.
use Rattle.teurlaks_c.proofs.Steps.{◌≡◌, ℕ, List, [], ◌∷◌, refl, sym, subst, ap, ◌∙◌, IsSome, Some, box_owns, after, Ura, bare, named, Val, vptr, full_share, Fml, flft, fsep, ftrue, SProp, ent, fst∗, id⊢, never, sep, fact, tables, Logic, sem, ‵, raw, at_ret, ◌⊛◌, some, later, ◌$◌, ◌∵◌, !, qed, move, keep, drop, use1, join, split, split3, pick, fsplit, fsplit3, fjoin, fpack, rewrite, suffices, frame, group, await, done, look_in, sub, whole, addr, blocks, enter, exec, first, fld, load, of_opd, returns, stop, alloc_all, env, free_all, get, look_at, pass_all, sets, sets_last, through, no, shows, cell_at, lone, mem, owns, Ptr, block_ptr, in_a_block, null_ptr, MutRef, mut_Tells, mut_vals, mut_ref_to, plain, types_at, heard, nothing, opens, peeks, proved, Goes-spent_ref, Stays, ends_at, says, stay_dropped, walk_of}
use base.Fml.{GName}
use denote.Follow.{follows, Part, lends_Part}
use denote.Memory.{part_at, part_of}
use Rattle.std.proofs.lemmas.Bool.{false≢true}
use Rattle.teurlaks_c.specs.declared.handle.Handle.{Handle}
use Rattle.teurlaks_c.specs.declared.held.Held.{Held}
use Rattle.teurlaks_c.specs.contracts.held.Held as Content
use Rattle.teurlaks_c.specs.contracts.handle.Handle as Row
use Rattle.teurlaks_c.specs.Lending.{with_held}
use Rattle.teurlaks_c.specs.Owned.{owns_held, right}
use Rattle.teurlaks_c.proofs.AsBox.{held_or_null, word, word_in}
use Rattle.teurlaks_c.proofs.handle.Handle.TheLaws.{lowers}
use Rattle.teurlaks_c.specs.contracts.handle.Handle.lent as F
use Rattle.teurlaks_c.specs.contracts.handle.Handle.lent.Key.{name as #self}
use Rattle.teurlaks_c.proofs.handle.Handle.lent.Statement.{statement}
use Rattle.teurlaks_c.proofs.handle.Handle.lent.Code as code

abbrev stayed : Stays F.ended.signature.params F.ended.kept
stayed = (stay_dropped (mut_ref_to (0 ∷ []) tt (plain (λ _. Row.the_row))) no, tt)

-- all of a handle but what it holds
abbrev Rest : ℕ → ℕ → ℕ → ℕ → Fml
Rest rb ro b o = fsep (right (bare (lone Content.the_row.mir)) (block_ptr b o)) (cell_at full_share Row.the_row.mir (word (block_ptr b o) ∷ []) rb ro)

module _ {M : Type 1} {𝓤 : Ura M} (𝓛 : Logic 𝓤) where
  back : (rb ro b o : ℕ) (h : Handle) → h.at ≡ block_ptr b o → (w : Held)
      → ent 𝓤 (sep 𝓤 (sem 𝓛 ((mem Content.the_row).own_at w b o)) (sem 𝓛 (Rest rb ro b o))) (sem 𝓛 ((mem Row.the_row).own_at (with_held h w) rb ro))
  unfolding part_of
  back rb ro b o h e w =
      qed 𝓛 (‵ (part_at Content.the_row full_share w b o) ∷ ‵ (Rest rb ro b o) ∷ []) ∵ move ! (1 ∷ []) $ fsplit ! $ move ! (2 ∷ 0 ∷ []) $ fjoin ! $
      use1 𝓛 (‵ (owns_held (block_ptr b o) (Some w))) (id⊢ 𝓤 _) $ word_in ! Content.the_row (block_ptr b o) (Some w) $
      rewrite ! 0 (λ (p : Ptr). ‵ (Row.the_row.own_val (record { at = p; held = Some w }) (word (block_ptr b o) ∷ []))) (sym e) refl $
      move ! (1 ∷ 0 ∷ []) $ fjoin ! $
      fpack ! (List Val) (λ us. fsep (cell_at full_share Row.the_row.mir us rb ro) (Row.the_row.own_val (with_held h w) us)) (word (block_ptr b o) ∷ []) $ done !

pub lent_spec : {M : Type 1} → statement M
lent_spec 𝓤 𝓛 𝓜 𝓡 wired =
    let 𝓣 = tables 𝓤 𝓛.H 𝓜 𝓡 𝓡.env in let c = F.clauses 𝓛 𝓜.mem 𝓡.returns in
    proved 𝓛 F.ended stayed c 𝓜 𝓡 (Goes-spent_ref 𝓛 1 (0 ∷ []) tt (plain (λ _. Row.the_row)), tt)
    #self code.function (code.unfolded 𝓤 𝓛.H 𝓜 𝓡 wired)
    (λ κs. (mut_vals, tt)) (λ κs. (mut_Tells (named 0) κs.0 Row.the_row, tt)) (λ κs qs bounds a gh are.
    let rb = a.0.ref_ptr.0 in let ro = a.0.ref_ptr.1 in let γ = a.0.ghost_name in let κ = κs.0 in let h = a.0.now in
    let y : (walk_of 𝓛 F.ended stayed c).Ghost = ((κs, qs, bounds, a, (vptr rb ro ∷ [], tt)), gh) in
    let Post = (walk_of 𝓛 F.ended stayed c).post y in
    qed 𝓛 (((‵ (flft κ qs.0) ⊛ ‵ ftrue) ⊛ ‵ (owns (types_at F.ended.signature.params κs) a y.0.4)) ∷ raw (fact 𝓤 (IsSome h.held)) ∷ []) ∵
    split ! $ split ! $ move ! (2 ∷ 3 ∷ []) $ fsplit ! $ fsplit3 ! $ keep ! (4 ∷ 1 ∷ 2 ∷ 5 ∷ []) $ heard ! (IsSome h.held) (λ live.
    enter ! 𝓣.C 𝓣.Λ code.function (vptr rb ro ∷ []) Post $ alloc_all ! (λ l. pass_all ! refl ((tt, tt), tt) $ let En = env code.function.locals l in
    opens ! tt Row.the_row rb ro (λ us. move ! (1 ∷ []) $ peeks ! Row.the_row _ (shows 𝓛 Row.the_row) h us (λ is. fsplit ! $ drop ! $
    held_or_null ! Content.the_row h.at h.held (λ none null. absurd (false≢true (subst IsSome none live))) (λ held same.
    in_a_block ! h.at (λ p. box_owns right Content.the_row p held) (fst∗ 𝓤 (never 𝓤) (sem 𝓛 (right (bare (lone Content.the_row.mir)) null_ptr))) (λ b o e.
    fsplit ! $
    let ws : us ≡ word (block_ptr b o) ∷ [] = lowers.val_is h us is ∙ ap (λ (p : Ptr). word p ∷ []) e in
    rewrite ! 2 (λ (vs : List Val). ‵ (cell_at full_share Row.the_row.mir vs rb ro)) ws refl $
    first ! $ blocks ! $
    sets ! (of_opd ! (load ! (through ! refl (fld ! refl (stop !))) (look_in ! 2 (sub ! 0 refl (whole !))))) refl (tt, tt) $
    sets ! (of_opd ! (get ! refl)) refl (tt, tt) $
    sets_last ! (addr ! (through ! refl (stop !))) refl (tt, tt) $
    exec ! 𝓣.C 𝓣.Λ En (after 1 code.function.body) (at_ret En Post) $
    sets ! (of_opd ! (get ! refl)) refl (tt, tt) $
    move ! (1 ∷ 2 ∷ []) $ fjoin ! $ move ! (2 ∷ 3 ∷ 4 ∷ 1 ∷ 0 ∷ []) $ group ! 5 $
    let Lent : GName → SProp 𝓤 = Part 𝓛 Row.the_row Content.the_row (with_held h) (named 0) κ qs.0 rb ro b o γ (sem 𝓛 (Rest rb ro b o)) (back 𝓛 rb ro b o h e) held in
    use1 𝓛 (later (some (λ (γ' : GName). raw (Lent γ'))))
    (lends_Part 𝓛 Row.the_row Content.the_row (with_held h) (named 0) κ qs.0 rb ro b o γ (sem 𝓛 (Rest rb ro b o)) (back 𝓛 rb ro b o h e) (Row.the_row.coded.code h) (Row.the_row.coded.code h) held) $ await ! tt $ pick ! (λ γ'.
    returns ! (look_at ! 0 refl) $ free_all ! refl $ keep ! (0 ∷ []) $
    use1 𝓛 (‵ ((MutRef (named 0) κ Content.the_row).own_val (record { ref_ptr = (b, o); ghost_name = γ'; now = held }) (vptr b o ∷ [])) ⊛ ‵ (flft κ qs.0) ⊛ ‵ (follows Row.the_row Content.the_row γ γ' (with_held h))) (id⊢ 𝓤 _) $ split3 ! $
    suffices ! _ (ends_at 𝓛 F.ended stayed c y (vptr b o) (record { ref_ptr = (b, o); ghost_name = γ'; now = held }) (tt, tt) (tt, tt)) $
    nothing ! $ nothing ! $ fjoin ! $ join ! $ nothing ! $ move ! (2 ∷ 0 ∷ []) $ join ! $ join ! $ frame ! $ says ! same $ done !))))))))
