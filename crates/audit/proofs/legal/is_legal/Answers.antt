use Rattle.std.proofs.Common.{List, take, sym, subst, rules}
use Rattle.span.specs.KeptLogs.{kept_changes}
use Rattle.span.specs.declared.change.Change.{Change}
use Rattle.span.specs.Log.{IsLegal, IsOfClass}
use Rattle.span.specs.Views.{viewed}
use Rattle.span.proofs.Changes.{IsLegal-push}
use Rattle.span.proofs.LegalLogs.{IsLegal-empty}
use Rattle.span.proofs.OfClass.{IsOfClass-push}
use Rattle.audit.specs.Changes.{AreAfter, AreIssued}
use Rattle.audit.proofs.Legality.{IsOfClass-at, legal_at}
use Rattle.audit.proofs.Replies.{take_more}
use Rattle.audit.proofs.legal.is_legal.Goals as goal

pub loop-i-init : goal.loop-i-init
loop-i-init c = record { legal = IsLegal-empty c.args.gens; of_class = tt; held = c.no_contents-held.ensures; issued = c.none_issued-issued.ensures }

pub returns-then-not-is_of_class : goal.returns-then-not-is_of_class
returns-then-not-is_of_class c = search (rules, IsOfClass-at)

pub returns-then-not-may_follow : goal.returns-then-not-may_follow
returns-then-not-may_follow c = search (rules, legal_at)

pub loop-i-preserved : goal.loop-i-preserved
loop-i-preserved c =
    let changes = kept_changes c.args.log.now in
    let before = take c.loop-i.i changes in
    let change = viewed c.view-change.result in
    let of_class = c.is_of_class.ensures.0 c.if-not-is_of_class.false in
    let fits = (c.may_follow.ensures c.args.class before c.loop-i.invariant.of_class of_class c.loop-i.invariant.held c.loop-i.invariant.issued).0 c.if-not-may_follow.false in
    let more = sym (take_more changes c.loop-i.i change c.view-change.ensures) in
    record {
      legal = subst (λ (l : List Change). IsLegal c.args.gens l) more (IsLegal-push c.args.gens before change c.loop-i.invariant.legal fits);
      of_class = subst (λ (l : List Change). IsOfClass c.args.class l) more (IsOfClass-push c.args.class before change c.loop-i.invariant.of_class of_class);
      held = subst (λ (l : List Change). AreAfter l c.enter.new.held) more (c.enter.ensures.held before c.loop-i.invariant.held);
      issued = subst (λ (l : List Change). AreIssued l c.enter.new.issued) more (c.enter.ensures.issued before c.args.gens c.loop-i.invariant.issued fits);
    }
