-- The function ends at once; the items of its result are chosen here, since no memory holds them.
use mathlib.Core.Path.{refl}
use mathlib.Core.List.{[], ◌∷◌}
use seplogic.Ra.Ura.{Ura}
use mir.Syntax.{Fn, a_type}
use mir.Val.{Val, vstruct, vcons, vnil}
use mir.MapTy.{inst_fn}
use base.Logic.{SProp, ent, via, fst∗}
use base.Fml.{Fml}
use prog.Memory.{Memory}
use prog.Routine.{Routine}
use prog.Wp.{Calls, Loops, WpFn, Tables}
use types.Logic.{Logic}
use contract.Monad.{Fun}
use contract.Running.{tables, tables_of}
use sound.WpLaws.{WpFn-mono}
use types.Kit.{‵, raw, ◌$◌, ◌∵◌, !, qed, move, use0, suffices, done}
use types.Run.{no_more, and_then, returns, enter}
use types.Part.{agg}
use types.ByLocal.{alloc_all, pass_all, free_all, look_at, get, sets}
use denote.RattleType.{RattleType, owns}
use denote.Param.{layouts}
use denote.Shadow.{makes_shadow}
use denote.Triple.Clauses.{Clauses, closing}
use denote.Triple.Entry.{on_entry, alive}
use denote.Triple.Spec.{Meets, triple_of}
use denote.Triple.Table.{entered}
use denote.Triple.Walked.{says, Stays, walk_of, Walks, ends_at, walked, walk_Meets}
use Rattle.span.specs.contracts.ghost_list.GhostList.named.{ended, clauses}
use Rattle.span.specs.contracts.ghost_list.GhostList.named.Key.{name as key}
use Rattle.span.specs.contracts.ghost_list.GhostList.{the_row}
use Rattle.span.proofs.ghost_list.GhostList.named.Statement as stated
use Rattle.span.proofs.ghost_list.GhostList.named.Code as code

module _ (Y : RattleType) where
  abbrev function : Fn
  function = inst_fn (layouts (a_type ∷ []) (Y, tt)) code.function

  abbrev stayed : Stays (ended Y).signature.params (ended Y).kept
  stayed = tt

module _ (Y : RattleType) {M : Type 1} {𝓤 : Ura M} (𝓛 : Logic 𝓤) (mem : Memory → SProp 𝓤) (run : Routine → Fun 𝓤) where
  open 𝓛 use {H}

  abbrev held : Clauses 𝓤 (ended Y)
  held = clauses Y 𝓛 mem run

  module _ (C : Calls 𝓤 H) (Λ : Loops 𝓤 H) where
    walk : (z : (walk_of 𝓛 (ended Y) (stayed Y) held).Ghost)
        → ent 𝓤 (on_entry 𝓛 (ended Y).signature z.0.0 z.0.1 tt tt) (WpFn 𝓤 H C Λ (function Y) [] ((walk_of 𝓛 (ended Y) (stayed Y) held).post z))
    walk z =
        let v : Val = vstruct (vcons (vstruct vnil) vnil) in let O : Fml = (the_row Y).own_val (record { marker = record {}; items = z.1 }) (v ∷ []) in
        qed 𝓛 (raw (alive 𝓛 (ended Y).signature z.0.0 z.0.1) ∷ ‵ (owns [] tt tt) ∷ []) ∵ enter ! C Λ (function Y) [] _ $
        alloc_all ! (λ l. pass_all ! refl tt $ sets ! (agg ! (no_more !)) refl (tt, tt) $
        sets ! (agg ! (and_then ! (get ! refl) (no_more !))) refl (tt, (tt, tt)) $
        returns ! (look_at ! 0 refl) $ free_all ! refl $
        use0 𝓛 (‵ O) (makes_shadow 𝓛 O ((λ vss. (tt, ((λ uss. (tt, tt)), tt))), tt) (((vstruct vnil ∷ [], tt), (refl, ((tt, (refl, tt)), tt))), tt)) $
        suffices ! _ (ends_at 𝓛 (ended Y) (stayed Y) held z v (record { marker = record {}; items = z.1 }) tt tt) $ says ! refl $
        move ! (1 ∷ 2 ∷ 0 ∷ []) $ done !)

    walks : Walks 𝓛 (ended Y) (stayed Y) (WpFn 𝓤 H C Λ (function Y)) held
    walks =
        walked 𝓛 (ended Y) (stayed Y) held (WpFn 𝓤 H C Λ (function Y)) (λ κs. tt) (λ κs. tt)
        (λ κs qs bounds a g are. via 𝓤 _ (fst∗ 𝓤 _ ((held κs a).requires g)) (walk ((κs, qs, bounds, a, tt), g)))

  meets : (𝓣 : Tables 𝓤 H) → Meets 𝓛 (ended Y).signature (WpFn 𝓤 H 𝓣.C 𝓣.Λ (function Y)) (closing 𝓛 (ended Y) held)
  meets 𝓣 =
      walk_Meets 𝓛 (ended Y) (stayed Y) tt held (WpFn 𝓤 H 𝓣.C 𝓣.Λ (function Y))
      (WpFn-mono 𝓤 H 𝓛.laws 𝓣 (function Y)) (walks 𝓣.C 𝓣.Λ)

pub named_spec : {M : Type 1} → stated.statement M
unfolding tables_of
named_spec 𝓤 𝓛 𝓜 𝓡 wired Y laws =
    let 𝓣 : Tables 𝓤 𝓛.H = tables_of 𝓤 𝓛.H 𝓜 (tables 𝓤 𝓛.H 𝓜 𝓡 𝓡.env) in
    entered 𝓤 𝓛.H (triple_of 𝓛 (ended Y).signature (closing 𝓛 (ended Y) (clauses Y 𝓛 𝓜.mem 𝓡.returns))) 𝓣.C 𝓣.Λ
    (key (layouts (a_type ∷ []) (Y, tt))) (function Y) (code.unfolded 𝓤 𝓛.H 𝓜 𝓡 wired (Y, tt)) (meets Y 𝓛 𝓜.mem 𝓡.returns 𝓣)
