use Rattle.std.proofs.Common.{◌∙◌, sym, refl, true, false}
use Rattle.certificate.proofs.Needs.{needs_version_three-outline_of}
use Rattle.certificate.proofs.text.version.needs_version_three.Goals as goal

pub returns-then-has_group_beyond_version_two : goal.returns-then-has_group_beyond_version_two
returns-then-has_group_beyond_version_two c =
    needs_version_three-outline_of c.args.certificate.now true _ _ _
    (sym c.if-has_group_beyond_version_two.true ∙ (rw c.abandoned.ensures.entries at c.has_group_beyond_version_two.ensures)) refl refl refl

pub returns-then-has_group_beyond_version_two-2 : goal.returns-then-has_group_beyond_version_two-2
returns-then-has_group_beyond_version_two-2 c =
    needs_version_three-outline_of c.args.certificate.now false true _ _
    (sym c.if-has_group_beyond_version_two.false ∙ (rw c.abandoned.ensures.entries at c.has_group_beyond_version_two.ensures))
    (sym c.if-has_group_beyond_version_two-2.true ∙ (rw c.owned.ensures.entries at c.has_group_beyond_version_two-2.ensures)) refl refl

pub returns-then-has_large_pair : goal.returns-then-has_large_pair
returns-then-has_large_pair c =
    needs_version_three-outline_of c.args.certificate.now false false true _
    (sym c.if-has_group_beyond_version_two.false ∙ (rw c.abandoned.ensures.entries at c.has_group_beyond_version_two.ensures))
    (sym c.if-has_group_beyond_version_two-2.false ∙ (rw c.owned.ensures.entries at c.has_group_beyond_version_two-2.ensures))
    (sym c.if-has_large_pair.true ∙ (rw c.pairs.ensures at c.has_large_pair.ensures)) refl

pub returns : goal.returns
returns c =
    needs_version_three-outline_of c.args.certificate.now false false false _
    (sym c.if-has_group_beyond_version_two.false ∙ (rw c.abandoned.ensures.entries at c.has_group_beyond_version_two.ensures))
    (sym c.if-has_group_beyond_version_two-2.false ∙ (rw c.owned.ensures.entries at c.has_group_beyond_version_two-2.ensures))
    (sym c.if-has_large_pair.false ∙ (rw c.pairs.ensures at c.has_large_pair.ensures))
    (rw c.ids.ensures at c.has_large_id.ensures)
