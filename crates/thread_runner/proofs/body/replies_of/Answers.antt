use Rattle.thread_runner.proofs.Names.{◌∙◌, ◌++◌, List, ap, map, of_calls, rules, sym, flat_map, IsNonDecreasingBy-from_sort_by_key, LineAnswer, told_replies, diary_lines, voice_of}
use Rattle.std.proofs.lemmas.Fn.{always_returns_same}
use Rattle.thread_runner.proofs.Voices.{AreByLine-sorted, flat_map-voices}
use Rattle.thread_runner.proofs.body.replies_of.Goals as goal

pub returns : goal.returns
returns c shown =
    let told = c.in_ok-push_all.ensures ∙ ap (λ (r : List LineAnswer). r ++ flat_map diary_lines c.args.diaries.now) c.new-replies.ensures.items ∙ sym (flat_map-voices c.args.diaries.now) in
    AreByLine-sorted (told_replies (map voice_of c.args.diaries.now)) _ c.sort_by_key.new.self.items (sym told) c.sort_by_key.ensures.permutation
    (IsNonDecreasingBy-from_sort_by_key (λ (r : LineAnswer). r.line) _ c.in_ok-sort_by_key.ensures.sorted (λ a r q k. search rules))
    (c.in_ok-sort_by_key.ensures.stable (λ (r : LineAnswer). r.line) (always_returns_same _ _ _ (λ a r f k. search (rules, of_calls))))
