use Rattle.std.proofs.Common.{rules, ◌≡◌, inr, sym, subst, ◌∙◌}
use Rattle.groups.proofs.FilledBy.{taken-put}
use Rattle.groups.proofs.Maps.{at_err}
use Rattle.groups.specs.Spans.{HasAllIn, SpansState, taken}
use Rattle.page.specs.Words.{page_of}
use Rattle.shard.specs.Group.{GroupState, HasNoRoomIn, group_of}
use Rattle.shard.proofs.GroupWords.{full_word}
use Rattle.shard.proofs.ZeroPages.{not_full}
use Rattle.shard.proofs.group.Group.put.Goals as goal

pub returns-in_err-make_room-clause-room : goal.returns-in_err-make_room-clause-room
returns-in_err-make_room-clause-room g c =
    let same : c.class.result ≡ c.args.class = search rules in
    at_err c.from_residual.result (subst (λ (group : GroupState). HasNoRoomIn c.args.slot_limit c.args.class group c.args.word → ⊥) c.self.view_is
    (λ none. not_full c.args.slot_limit c.self.inside.spans c.args.word c.in-Some.found c.in-Some.ensures
    (full_word c.args.slot_limit c.args.class (group_of c.self.inside.spans (page_of c.self.inside.is_paged c.self.inside.words.words) c.self.inside.closed) c.args.word c.if-self.false (sym c.class.ensures ∙ same) none)))

pub returns-in_err-key-clause-room : goal.returns-in_err-key-clause-room
returns-in_err-key-clause-room g c =
    let same : c.class.result ≡ c.args.class = search rules in
    at_err c.from_residual-in_err-key.result (subst (λ (group : GroupState). HasNoRoomIn c.args.slot_limit c.args.class group c.args.word → ⊥) c.self.view_is
    (λ none. not_full c.args.slot_limit c.self.inside.spans c.args.word c.in-Some.found c.in-Some.ensures
    (full_word c.args.slot_limit c.args.class (group_of c.self.inside.spans (page_of c.self.inside.is_paged c.self.inside.words.words) c.self.inside.closed) c.args.word c.if-self.false (sym c.class.ensures ∙ same) none)))

-- the last slot of the word is taken now
pub returns-clause-full : goal.returns-clause-full
returns-clause-full g c full =
    inr (inr (subst (λ (s : SpansState). HasAllIn c.args.slot_limit s.head.class (taken s) c.args.word) (sym c.in_ok-key.ensures.ok)
    (λ q at low. taken-put c.self.inside.spans c.in-Some.found.slot c.args.words.now q (c.in-Some.ensures.2 full q at))))
