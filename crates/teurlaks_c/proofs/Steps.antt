-- The names that the walks of this crate cite, passed on.
pub use Rattle.std.proofs.Common.{◌≡◌, ℕ, T, List, [], ◌∷◌, ◌++◌, refl, sym, subst, ap, ◌∙◌, lit<}
pub use Rattle.std.proofs.VecSteps.Shapes.{after}
pub use Rattle.std.proofs.raw_atomic.Walks.{proved, proved_at}
pub use Rattle.std.specs.Box.Ownership.{box_owns}
pub use Rattle.std.specs.Prelude.{IsSome, MatchBool, Option, Some, None}
pub use Rattle.core.proofs.alloc.Calls.{Fits, Goes-blank, handle_tells, token}
pub use Rattle.std_alloc.proofs.BoxSteps.Form.{Bx, B, D, P, R, τ, box_typed}
pub use Rattle.std_alloc.proofs.BoxSteps.Steps.{box_in, box_out}
pub use Rattle.std_heap.specs.contracts.GlobalAllocator.TheImpl.{dict, ghosts}
pub use seplogic.Ra.Ura.{Ura}
pub use mir.MapTy.{inst_fn}
pub use mir.Raw.{raw as bare}
pub use mir.Syntax.{Args, Fn, a_type, dcons, dnil, named, ty_ptr, ty_struct, tcons, tnil}
pub use mir.Val.{Val, WT, has_ty, of_list, ptr_eq_ok, ptr_same, vcons, vnil, vnull, vptr, vstruct}
pub use base.Fml.{Fml, flft, fsep, ftrue}
pub use base.Fraction.{full_share}
pub use base.Logic.{SProp, emp, ent, fst∗, guard, guard_i, id⊢, never, sep, snd∗, via}
pub use contract.Monad.{fact, fact_i, fact_use}
pub use contract.Running.{tables}
pub use prog.Wp.{WpFn}
pub use types.ByLocal.{alloc_all, env, free_all, get, get_in, lands_as, lands_last, look_at, pass_all, sets, sets_last, through}
pub use types.Kit.{Goal, Item, Seq, Step, step, ‵, raw, given, at_ret, ◌⊛◌, some, later, prop, ◌$◌, ◌∵◌, !, qed, by, move, keep, drop, use0, use1, join, split, split3, pick, learn, fsplit, fsplit3, fjoin, fpick, fpack, feq_i, feq_l, frame, group, regoal, rewrite, suffices, await, done}
pub use types.Logic.{Logic, sem}
pub use types.Part.{agg, look_in, sub, whole}
pub use types.Run.{addr, and_then, bin, blocks, branches, enter, exec, first, fld, lit, load, no_more, of_opd, returns, stop}
pub use denote.Builtin.{RawPtr}
pub use denote.Exit.{no, yes}
pub use denote.Laws.{shows}
pub use denote.Memory.{cell_at, lone, mem}
pub use denote.Param.{bounded, layout}
pub use denote.Param.Laws.{Laws}
pub use denote.RattleType.{RattleType, Valss, owns}
pub use denote.RawPtr.{Ptr, Testable, block_ptr, in_a_block, lies_at, null_ptr, ptr_val, tests_null}
pub use denote.Ref.{MutRef, mut_Tells, mut_vals}
pub use denote.Signature.{Slot, mut_ref_to, plain, type_at, types_at}
pub use denote.Steps.{closes, heard, nothing, only, opens, peeks}
pub use denote.Triple.Entry.{alive}
pub use denote.Triple.Spec.{triple_of}
pub use denote.Triple.Walked.{Goes-dropped, Goes-ref, Goes-spent_ref, Stays, ends_at, says, stay_dropped, stay_ref, walk_of}
