-- What is told, one line more.
use Rattle.trace_runner.proofs.Names.{◌≡◌, ℕ, ◌+◌, Bool, List, [], ◌∷◌, ◌++◌, length, refl, sym, ap, ◌∙◌, arith, add-zero, fold, CalledEvent, Did, Made, News, news_from, news_of, no_news, with_all_made, with_called, with_line, with_made, rules}

-- whether replies are asked for stays
replies-called : (n : News) (called : CalledEvent) → (with_called n called).replies ≡ n.replies
replies-called n called = search rules

replies-all_called : (n : News) (called : List CalledEvent) → (fold with_called n called).replies ≡ n.replies
replies-all_called n [] = refl
replies-all_called n (c ∷ called) = replies-all_called (with_called n c) called ∙ replies-called n c

pub replies-all_made : (n : News) (made : List Made) → (with_all_made n made).replies ≡ n.replies
replies-all_made n [] = refl
replies-all_made n (m ∷ made) = replies-all_made (with_made n m) made ∙ replies-all_called n m.called

news_from-push : (number : ℕ) (n : News) (done : List Did) (did : Did) → news_from number n (done ++ did ∷ []) ≡ with_line (number + length done) (news_from number n done) did
news_from-push number n [] did = ap (λ k. with_line k n did) (sym (add-zero number))
news_from-push number n (d ∷ done) did =
    let same : number + 1 + length done ≡ number + length (d ∷ done) = omega arith in
    news_from-push (number + 1) (with_line number n d) done did ∙ ap (λ k. with_line k (news_from (number + 1) (with_line number n d) done) did) same

pub news_of-push : (replies : Bool) (done : List Did) (did : Did) → news_of replies (done ++ did ∷ []) ≡ with_line (6 + length done) (news_of replies done) did
news_of-push replies done did = news_from-push 6 (no_news replies) done did
