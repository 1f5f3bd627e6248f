-- `of_nullable` moves the pointer, and what the nullable owned goes with it.
use Rattle.teurlaks_c.proofs.Steps.{List, [], ◌∷◌, ◌++◌, refl, Val, SProp, fsep, ftrue, emp, id⊢, tables, WpFn, ‵, raw, ◌⊛◌, prop, ◌$◌, ◌∵◌, !, qed, move, keep, use1, split, join, fsplit, fjoin, regoal, suffices, done, agg, sub, whole, and_then, enter, fld, no_more, of_opd, returns, stop, alloc_all, free_all, get, get_in, look_at, pass_all, sets, RattleType, nothing, yes, plain, proved_at, Goes-dropped, Stays, ends_at, says, stay_dropped, walk_of}
use Rattle.teurlaks_c.specs.contracts.held.Held as Content
use Rattle.teurlaks_c.specs.contracts.handle.nullable.Nullable as Nullable
use Rattle.teurlaks_c.specs.contracts.handle.Handle as Handle
use Rattle.teurlaks_c.proofs.AsBox.{ptr_fits, word, word_fits, word_in, word_out}
use Rattle.teurlaks_c.specs.contracts.handle.Handle.of_nullable as F
use Rattle.teurlaks_c.specs.contracts.handle.Handle.of_nullable.Key.{name as #self}
use Rattle.teurlaks_c.proofs.handle.Handle.of_nullable.Statement.{statement}
use Rattle.teurlaks_c.proofs.handle.Handle.of_nullable.Code as code

abbrev From : RattleType
From = Nullable.the_row Content.the_row

abbrev To : RattleType
To = Handle.the_row

abbrev stayed : Stays F.ended.signature.params F.ended.kept
stayed = (stay_dropped (plain (λ _. From)) yes, tt)

pub of_nullable_spec : {M : Type 1} → statement M
of_nullable_spec 𝓤 𝓛 𝓜 𝓡 wired =
    let 𝓣 = tables 𝓤 𝓛.H 𝓜 𝓡 𝓡.env in let c = F.clauses 𝓛 𝓜.mem 𝓡.returns in
    proved_at 𝓛 F.ended stayed c 𝓜 𝓡 (Goes-dropped 𝓛 0 (plain (λ _. From)) yes (λ κs x f. refl), tt) #self code.function (code.unfolded 𝓤 𝓛.H 𝓜 𝓡 wired) (λ z are.
    let h = z.0.3.0 in let Post : Val → SProp 𝓤 = (walk_of 𝓛 F.ended stayed c).post z in
    qed 𝓛 ((‵ ftrue ⊛ ‵ (fsep (From.own_val h z.0.4.0) ftrue)) ∷ raw (emp 𝓤) ∷ []) ∵
    split ! $ move ! (1 ∷ []) $ fsplit ! $ word_out ! Content.the_row h.at h.value z.0.4.0 (λ is. word_in ! Content.the_row h.at h.value $ keep ! (0 ∷ []) $
    regoal ! (λ (us : List Val). prop (WpFn 𝓤 𝓛.H 𝓣.C 𝓣.Λ code.function (us ++ []) Post)) is refl $
    enter ! 𝓣.C 𝓣.Λ code.function (word h.at ∷ []) _ $ alloc_all ! (λ ls. pass_all ! refl (word_fits h.at, tt) $
    sets ! (of_opd ! (get_in ! (fld ! refl (stop !)) (sub ! 0 refl (whole !)))) refl (ptr_fits h.at) $
    sets ! (of_opd ! (get ! refl)) refl (ptr_fits h.at) $
    sets ! (agg ! (and_then ! (get ! refl) (no_more !))) refl (word_fits h.at) $ returns ! (look_at ! 0 refl) $ free_all ! refl $
    use1 𝓛 (‵ (To.own_val (record { at = h.at; held = h.value }) (word h.at ∷ []))) (id⊢ 𝓤 _) $
    suffices ! _ (ends_at 𝓛 F.ended stayed c z (word h.at) (record { at = h.at; held = h.value }) (tt, tt) (tt, tt)) $ says ! refl $
    nothing ! $ nothing ! $ fjoin ! $ join ! $ nothing ! $ join ! $ done !)))
