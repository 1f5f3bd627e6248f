use Rattle.thread_runner.proofs.Names.{◌≡◌, ◌+◌, ◌++◌, ◌∷◌, [], rules, subst, sym, AreApart, AreKept, IsGiven, each-parts}
use Rattle.thread_runner.proofs.Keeping.{AreApart-push}
use Rattle.thread_runner.proofs.keys.Keys.with_one.Goals as goal

pub invariant_of-result : goal.invariant_of-result
invariant_of-result c =
    let end : c.in_ok-end.end ≡ c.args.one.place + c.args.one.times = search rules in
    record {
      apart = rw (c.in_ok-push.ensures.items)
          (subst (λ n. AreApart 0 (c.args.self.kept.items ++ c.args.one ∷ []) n) (sym end)
          (AreApart-push 0 c.args.self.kept.items c.args.self.end c.args.one c.args.self.apart c.if-one-end.false));
    }

pub returns-clause-before : goal.returns-clause-before
returns-clause-before c given are = (each-parts (IsGiven given) c.args.self.kept.items (c.args.one ∷ []) (subst (λ k. AreKept k given) c.in_ok-push.ensures.items are)).0

pub returns-clause-kept : goal.returns-clause-kept
returns-clause-kept c given are = (each-parts (IsGiven given) c.args.self.kept.items (c.args.one ∷ []) (subst (λ k. AreKept k given) c.in_ok-push.ensures.items are)).1.0
