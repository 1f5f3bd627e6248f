use Rattle.std.proofs.Common.{arith}
use Rattle.bitmap.proofs.InParts.{contains-past}
use Rattle.bitmap.proofs.MovedParts.{all_spread-above, all_spread-below, all_spread-this, new_past, old_past}
use Rattle.bitmap.proofs.parts.spread_all.Goals as goal

pub returns-then-from-len-clause-before : goal.returns-then-from-len-clause-before
returns-then-from-len-clause-before c n large = contains-past c.args.parts.now.items n (omega (arith, large, c.len-then-from-len.ensures, c.args.parts.now.ok.0))

pub returns-then-from-len-clause-after : goal.returns-then-from-len-clause-after
returns-then-from-len-clause-after c n large = contains-past c.args.parts.now.items n (omega (arith, large, c.len-then-from-len.ensures, c.args.parts.now.ok.0))

pub returns-clause-below : goal.returns-clause-below
returns-clause-below c =
    all_spread-below c.args.parts.now.items c.args.limit (omega (arith, c.if-from-len.false, c.len.ensures, c.args.parts.now.ok.0)) c.requires.aligned c.args.before c.index.result.now c.spread.result c.raise_from.new.parts.items
    c.index.ensures c.spread.ensures.below c.spread.ensures.this c.spread.ensures.above c.raise_from.ensures.below
    c.end_of.result c.min-end.result c.end_of.ensures.none c.end_of.ensures.order (omega (arith, c.min-end.ensures, c.len-2.ensures, c.args.parts.now.ok.0))
    c.raise_from.ensures.first c.raise_from.ensures.above c.raise_from.ensures.rest (omega (arith, c.raise_from.ensures.len, c.args.parts.now.ok.0, c.raise_from.new.parts.ok.0))

pub returns-clause-this : goal.returns-clause-this
returns-clause-this c slot small fits =
    all_spread-this c.args.parts.now.items c.args.limit (omega (arith, c.if-from-len.false, c.len.ensures, c.args.parts.now.ok.0)) c.requires.aligned c.args.before c.index.result.now c.spread.result c.raise_from.new.parts.items
    c.index.ensures c.spread.ensures.below c.spread.ensures.this c.spread.ensures.above c.raise_from.ensures.below
    c.end_of.result c.min-end.result c.end_of.ensures.none c.end_of.ensures.order (omega (arith, c.min-end.ensures, c.len-2.ensures, c.args.parts.now.ok.0))
    c.raise_from.ensures.first c.raise_from.ensures.above c.raise_from.ensures.rest (omega (arith, c.raise_from.ensures.len, c.args.parts.now.ok.0, c.raise_from.new.parts.ok.0)) slot small

pub returns-clause-above : goal.returns-clause-above
returns-clause-above c q large fits =
    all_spread-above c.args.parts.now.items c.args.limit (omega (arith, c.if-from-len.false, c.len.ensures, c.args.parts.now.ok.0)) c.requires.aligned c.args.before c.index.result.now c.spread.result c.raise_from.new.parts.items
    c.index.ensures c.spread.ensures.below c.spread.ensures.this c.spread.ensures.above c.raise_from.ensures.below
    c.end_of.result c.min-end.result c.end_of.ensures.none c.end_of.ensures.order (omega (arith, c.min-end.ensures, c.len-2.ensures, c.args.parts.now.ok.0))
    c.raise_from.ensures.first c.raise_from.ensures.above c.raise_from.ensures.rest (omega (arith, c.raise_from.ensures.len, c.args.parts.now.ok.0, c.raise_from.new.parts.ok.0)) q large (omega (arith, fits, c.args.parts.now.ok.0))

pub returns-clause-before : goal.returns-clause-before
returns-clause-before c =
    old_past c.args.parts.now.items c.args.limit (omega (arith, c.if-from-len.false, c.len.ensures, c.args.parts.now.ok.0)) c.requires.aligned c.args.before c.index.result.now c.spread.result c.raise_from.new.parts.items
    c.index.ensures c.spread.ensures.below c.spread.ensures.this c.spread.ensures.above c.raise_from.ensures.below
    c.end_of.result c.min-end.result c.end_of.ensures.none c.end_of.ensures.order (omega (arith, c.min-end.ensures, c.len-2.ensures, c.args.parts.now.ok.0))
    c.raise_from.ensures.first c.raise_from.ensures.above c.raise_from.ensures.rest (omega (arith, c.raise_from.ensures.len, c.args.parts.now.ok.0, c.raise_from.new.parts.ok.0))

pub returns-clause-after : goal.returns-clause-after
returns-clause-after c =
    new_past c.args.parts.now.items c.args.limit (omega (arith, c.if-from-len.false, c.len.ensures, c.args.parts.now.ok.0)) c.requires.aligned c.args.before c.index.result.now c.spread.result c.raise_from.new.parts.items
    c.index.ensures c.spread.ensures.below c.spread.ensures.this c.spread.ensures.above c.raise_from.ensures.below
    c.end_of.result c.min-end.result c.end_of.ensures.none c.end_of.ensures.order (omega (arith, c.min-end.ensures, c.len-2.ensures, c.args.parts.now.ok.0))
    c.raise_from.ensures.first c.raise_from.ensures.above c.raise_from.ensures.rest (omega (arith, c.raise_from.ensures.len, c.args.parts.now.ok.0, c.raise_from.new.parts.ok.0))
