use Rattle.std.proofs.Common.{subst, sym, ◌∙◌, take, ◌++◌, ◌∷◌, []}
use Rattle.std.specs.Prelude.{MatchOption}
use Rattle.span.specs.Ids.{rank}
use Rattle.groups.specs.FirstLive.{HasNoneIn, IsFirstAmong, IsSooner, rank_or_end}
use Rattle.groups.specs.Spans.{all_spans}
use Rattle.groups.proofs.FirstLive.{IsFirstAmong-found, IsFirstAmong-passed, take-more}
use Rattle.groups.proofs.NoneLive.{IsFirstAmong-none}
use Rattle.groups.proofs.spans.Spans.first_live.Goals as goal
use Rattle.groups.proofs.spans.Spans.first_live.Goals.{in-Some, in_default}

pub loop-place-preserved : goal.loop-place-preserved
loop-place-preserved g c =
    let spans = all_spans c.args.self.now in
    let low = rank c.args.from in
    let span = c.span_at.result.now in
    let before = c.loop-place.first in
    let more = sym (take-more spans c.loop-place.place span c.span_at.ensures) in
    let its : MatchOption c.sooner.result (HasNoneIn low (rank_or_end before) span) (IsSooner low (rank_or_end before) span) =
    subst (λ n. MatchOption c.sooner.result (HasNoneIn n (rank_or_end before) span) (IsSooner n (rank_or_end before) span)) c.rank-low.ensures.value c.sooner.ensures in
    elim c.match-sooner.branch [
      | in-Some w ↦ subst (λ xs. IsFirstAmong xs low c.match-sooner.first) more
          (subst (IsFirstAmong (take c.loop-place.place spans ++ span ∷ []) low) (sym w.first-is)
          (IsFirstAmong-found (take c.loop-place.place spans) low before span c.loop-place.invariant w.in-Some.key
          (subst (λ o. MatchOption o (HasNoneIn low (rank_or_end before) span) (IsSooner low (rank_or_end before) span)) w.in-Some.is its)))
      | in_default w ↦ subst (λ xs. IsFirstAmong xs low c.match-sooner.first) more
          (subst (IsFirstAmong (take c.loop-place.place spans ++ span ∷ []) low) (sym w.first-is)
          (IsFirstAmong-passed (take c.loop-place.place spans) low before span c.loop-place.invariant
          (subst (λ o. MatchOption o (HasNoneIn low (rank_or_end before) span) (IsSooner low (rank_or_end before) span)) w.in_default.is its)))
    ]

pub returns-then-live-eq0 : goal.returns-then-live-eq0
returns-then-live-eq0 g c = IsFirstAmong-none (all_spans c.args.self.now) (rank c.args.from) (sym c.live.ensures.live ∙ c.if-live-eq0.true)
