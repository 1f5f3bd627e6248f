-- What a nullable, a handle and an unboxed value own is what a box of the same owns. Assumes `Logic`.
use Rattle.teurlaks_c.proofs.Steps.{◌≡◌, T, List, [], ◌∷◌, ◌++◌, refl, sym, subst, ap, ◌∙◌, lit<, IsSome, MatchBool, Option, Some, None, Bx, box_owns, dict, ghosts, Ura, bare, Args, a_type, dnil, ty_ptr, ty_struct, tcons, tnil, Val, WT, has_ty, of_list, ptr_eq_ok, ptr_same, vcons, vnil, vnull, vstruct, Fml, SProp, emp, ent, fst∗, guard, guard_i, never, snd∗, via, full_share, fact, fact_i, fact_use, Goal, Item, Seq, Step, step, ‵, raw, given, ◌$◌, ◌∵◌, !, qed, drop, learn, use0, use1, fsplit, fjoin, fpick, fpack, feq_i, feq_l, done, Logic, sem, RawPtr, lone, bounded, Laws, RattleType, Valss, Ptr, Testable, block_ptr, in_a_block, lies_at, null_ptr, ptr_val, tests_null, nothing}
use mir.Syntax.{impl}
use base.Fml.{feq}
use base.Shift.{Keyless}
use denote.Param.Send.{IsSend}
use denote.Struct.Owning.{shape}
use denote.Struct.Struct.{within}
use Rattle.std.proofs.Crossing.{frees}
use Rattle.std.proofs.GlobalToken.{dealloc_token-Testable}
use Rattle.std_alloc.proofs.SendSync.{lies}
use Rattle.std_heap.specs.contracts.Global as Heap
use Rattle.std_heap.proofs.Global.TheLaws as heap
use Rattle.teurlaks_c.specs.contracts.handle.nullable.Nullable as Nullable
use Rattle.teurlaks_c.specs.contracts.handle.unboxed.Unboxed as Unboxed
use Rattle.teurlaks_c.specs.Owned.{owns_box, right, system}

-- a box of the system's allocator, with any content
abbrev pub boxed : (X : RattleType) → Laws X → Bx
boxed X L = record { row = X; laws = L; al = record { row = Heap.the_row; laws = heap.the_row_laws; g = ghosts; d = dict; drops = impl [] tnil dnil } }

-- what a call of a function over the content passes for it
abbrev pub at_content : RattleType → Args
at_content X = bounded (a_type ∷ []) (X, tt) dnil

abbrev pub OfUnboxed : RattleType → RattleType
OfUnboxed X = Unboxed.the_row X Heap.the_row ghosts

abbrev pub word : Ptr → Val
word at = vstruct (vcons (ptr_val at) vnil)

-- a pointer is a machine value of its type
pub ptr_fits : (p : Ptr) → T (has_ty ty_ptr (ptr_val p)) × WT (ptr_val p)
ptr_fits (block_ptr b o) = (tt, tt)
ptr_fits null_ptr = (tt, record { fits = lit< tt })

-- and so is a struct of one pointer
pub word_fits : (p : Ptr) → T (has_ty (ty_struct [] (tcons ty_ptr tnil)) (word p)) × WT (word p)
word_fits (block_ptr b o) = (tt, (tt, tt))
word_fits null_ptr = (tt, (record { fits = lit< tt }, tt))

-- what a nullable, and a handle too, owns at its machine values
abbrev pub Owns : (X : RattleType) → Ptr → Option X.Denot → List Val → Fml
Owns X at found = (Nullable.the_row X).own_val (record { at = at; value = found })

-- what may go to another thread may go there in its box
pub keyless : (X : RattleType) → IsSend X → (at : Ptr) (found : Option X.Denot) → Keyless (owns_box X at found)
keyless X content at (Some found) = (lies X content at found, frees.frees system (bare (lone X.mir)) at)
keyless X content at None = tt

-- the test of the pointer tells whether there is something
abbrev pub Tells : (X : RattleType) → Ptr → Option X.Denot → Type 0
Tells X at found = T (ptr_eq_ok (ptr_val at) vnull) × MatchBool (ptr_same (ptr_val at) vnull) (found ≡ None) (IsSome found)

module _ {M : Type 1} {𝓤 : Ura M} (𝓛 : Logic 𝓤) (X : RattleType) where
  -- the pointer to what the system's allocator may free can be compared with null
  pub tested : (at : Ptr) (held : X.Denot) → ent 𝓤 (sem 𝓛 (box_owns right X at held)) (guard 𝓤 (Testable at) (sem 𝓛 (box_owns right X at held)))
  tested at held =
      let memory = lone X.mir in
      let owned : SProp 𝓤 = sem 𝓛 (box_owns right X at held) in
      fact_use 𝓤 (Testable at) (via 𝓤 (sem 𝓛 (right (bare memory) at))
      (snd∗ 𝓤 (sem 𝓛 (lies_at X full_share at held)) (sem 𝓛 (right (bare memory) at))) (dealloc_token-Testable 𝓛 system (bare memory) at))
      (guard_i 𝓤 (Testable at) owned)

  telling : (at : Ptr) (found : Option X.Denot) → ent 𝓤 (sem 𝓛 (owns_box X at found)) (fact 𝓤 (Tells X at found))
  telling at None =
      qed 𝓛 (‵ (feq Ptr at null_ptr) ∷ []) ∵ feq_l ! (λ null.
      use0 𝓛 (raw (fact 𝓤 (Tells X at None))) (fact_i 𝓤 (Tells X at None) (emp 𝓤) (subst (λ p. Tells X p None) (sym null) (tt, refl))) $ done !)
  telling at (Some held) =
      qed 𝓛 (‵ (box_owns right X at held) ∷ []) ∵
      in_a_block ! at (λ p. box_owns right X p held) (fst∗ 𝓤 (never 𝓤) (sem 𝓛 (right (bare (lone X.mir)) null_ptr))) (λ b o e.
      use1 𝓛 (given (Testable (block_ptr b o)) (‵ (box_owns right X (block_ptr b o) held))) (tested (block_ptr b o) held) $ learn ! (λ may. drop ! $
      use0 𝓛 (raw (fact 𝓤 (Tells X at (Some held)))) (fact_i 𝓤 (Tells X at (Some held)) (emp 𝓤) (subst (λ p. Tells X p (Some held)) (sym e) (tests_null (block_ptr b o) may, refl))) $ done !))

  pub tells : (at : Ptr) (found : Option X.Denot) → ent 𝓤 (sem 𝓛 (owns_box X at found)) (guard 𝓤 (Tells X at found) (sem 𝓛 (owns_box X at found)))
  tells at found = fact_use 𝓤 (Tells X at found) (telling at found) (guard_i 𝓤 (Tells X at found) (sem 𝓛 (owns_box X at found)))

module _ {M : Type 1} {𝓤 : Ura M} {𝓛 : Logic 𝓤} {K : Type 0} {Γ : List (Item 𝓤)} {G : Goal 𝓤 𝓛.H} where
  -- a nullable is one machine value
  pub word_out : K → (X : RattleType) (at : Ptr) (found : Option X.Denot) (vs : List Val) → (vs ≡ word at ∷ [] → Seq K 𝓛 (‵ (owns_box X at found) ∷ Γ) G)
      → Seq K 𝓛 (‵ (Owns X at found vs) ∷ Γ) G
  word_out t X at found vs k =
      fsplit t $ fpick t (λ vss. fsplit t $ feq_l t (λ ev. fsplit t $ feq_l t (λ ep. drop t $
      k (ev ∙ ap (λ (us : List Val). vstruct (of_list (us ++ [])) ∷ []) ep))))

  -- what it owns makes it again
  pub word_in : K → (X : RattleType) (at : Ptr) (found : Option X.Denot)
      → Step K 𝓛 (‵ (Owns X at found (word at ∷ [])) ∷ Γ) G (‵ (owns_box X at found) ∷ Γ) G
  word_in t X at found = step (λ s.
      nothing t $ feq_i t (List Val) (ptr_val at ∷ []) (ptr_val at ∷ []) refl $ fjoin t $ feq_i t (List Val) (word at ∷ []) (word at ∷ []) refl $ fjoin t $
      fpack t (Valss (RawPtr ∷ [])) (within (shape (Nullable.the_type X)) (at, tt) (word at ∷ [])) (ptr_val at ∷ [], tt) $ fjoin t $ s)

  -- it is null and of nothing, or owns what it is of
  pub held_or_null : K → (X : RattleType) (at : Ptr) (found : Option X.Denot) → (found ≡ None → at ≡ null_ptr → Seq K 𝓛 Γ G)
      → ((held : X.Denot) → found ≡ Some held → Seq K 𝓛 (‵ (box_owns right X at held) ∷ Γ) G) → Seq K 𝓛 (‵ (owns_box X at found) ∷ Γ) G
  held_or_null t X at None none some = feq_l t (none refl)
  held_or_null t X at (Some held) none some = some held refl
