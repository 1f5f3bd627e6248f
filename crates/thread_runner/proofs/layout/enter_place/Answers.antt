use Rattle.thread_runner.proofs.Names.{◌≡◌, ◌++◌, ◌∷◌, [], ℕ, List, false, inl, inr, map, refl, subst, sym, vec_items, ◌⊎◌, on_ok_weaker, Line, is_line_of, AreLaid}
use Rattle.trace_text.specs.declared.line.Line.TheVariants as line
use Rattle.thread_runner.proofs.Places.{AreLaid-other, AreLaid-own}
use Rattle.thread_runner.proofs.layout.enter_place.Goals as goal

pub returns-in-Call : goal.returns-in-Call
returns-in-Call c above long laid =
    on_ok_weaker c.push_at.result
    (λ adds. rw c.in-Call.is (AreLaid-own above c.args.place c.in-Call.thread (line.Call c.in-Call.thread c.in-Call.call) (map vec_items c.args.places.now)
    (map vec_items c.push_at.new.lists) (λ at. refl) long laid adds))
    c.push_at.ensures

pub returns-in-Adopt : goal.returns-in-Adopt
returns-in-Adopt c above long laid =
    on_ok_weaker c.push_at-in-Adopt.result
    (λ adds. rw c.in-Adopt.is (AreLaid-own above c.args.place c.in-Adopt.shard (line.Adopt c.in-Adopt.shard) (map vec_items c.args.places.now)
    (map vec_items c.push_at-in-Adopt.new.lists) (λ at. refl) long laid adds))
    c.push_at-in-Adopt.ensures

-- a line that is nobody's
nobody : (above : List Line) (l : Line) (places : List (List ℕ)) → (l ≡ line.Silent) ⊎ (l ≡ line.Mark) → AreLaid above places → AreLaid (above ++ l ∷ []) places
nobody above l places (inl is) laid = AreLaid-other above l places (λ thread. subst (λ m. is_line_of thread m ≡ false) (sym is) refl) laid
nobody above l places (inr is) laid = AreLaid-other above l places (λ thread. subst (λ m. is_line_of thread m ≡ false) (sym is) refl) laid

pub returns-in-Silent : goal.returns-in-Silent
returns-in-Silent c above long laid = nobody above c.args.line.now (map vec_items c.args.places.now) c.in-Silent.is laid

pub returns-in-Silent-2 : goal.returns-in-Silent-2
returns-in-Silent-2 c above long laid = nobody above c.args.line.now (map vec_items c.args.places.now) c.in-Silent.is laid
