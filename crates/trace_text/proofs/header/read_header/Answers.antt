use Rattle.trace_text.proofs.Names.{[], ◌∷◌, codes, refl, rules, err_from_is_err_and, Opening, Size, number_of, lines_of, MOST_RING_KEYS, MOST_SHARDS}
use Rattle.trace_text.specs.declared.header.TheConstants.{TRACE_PAGES}
use Rattle.trace_text.proofs.Heads.{FailsHeader-below, size_range}
use Rattle.trace_text.proofs.header.read_header.Goals as goal

pub returns-in_err-version-clause-err : goal.returns-in_err-version-clause-err
returns-in_err-version-clause-err c = let p = err_from_is_err_and c.from_residual.result c.from_residual.ensures.1 in
    rw (p.1, p.2) (FailsHeader-below ([]) _ _ ([]) 1 (lines_of c.args.text.now) (lines_of c.args.text.now) _ refl refl refl c.in_err-version.ensures.err)

pub returns-in_err-shards-clause-err : goal.returns-in_err-shards-clause-err
returns-in_err-shards-clause-err c = let p = err_from_is_err_and c.from_residual-in_err-shards.result c.from_residual-in_err-shards.ensures.1 in
    rw (p.1, p.2) (FailsHeader-below (Opening ∷ []) _ _ (number_of c.in_ok-version.version ∷ []) 2 (lines_of c.args.text.now)
    (lines_of c.in_ok-version.below.now) _ refl refl (search rules) c.in_err-shards.ensures.err)

pub returns-in_err-pages-clause-err : goal.returns-in_err-pages-clause-err
returns-in_err-pages-clause-err c = let p = err_from_is_err_and c.from_residual-in_err-pages.result c.from_residual-in_err-pages.ensures.1 in
    rw (p.1, p.2) (FailsHeader-below (Opening ∷ Size (codes "shards") MOST_SHARDS ∷ []) _ _ (number_of c.in_ok-version.version ∷ c.in_ok-shards.shards ∷ []) 3
    (lines_of c.args.text.now) (lines_of c.in_ok-shards.below.now) _ refl refl (search rules) c.in_err-pages.ensures.err)

pub returns-in_err-ring-clause-err : goal.returns-in_err-ring-clause-err
returns-in_err-ring-clause-err c = let p = err_from_is_err_and c.from_residual-in_err-ring.result c.from_residual-in_err-ring.ensures.1 in
    rw (p.1, p.2) (FailsHeader-below (Opening ∷ Size (codes "shards") MOST_SHARDS ∷ Size (codes "pages") TRACE_PAGES ∷ []) _ _
    (number_of c.in_ok-version.version ∷ c.in_ok-shards.shards ∷ c.in_ok-pages.pages ∷ []) 4 (lines_of c.args.text.now)
    (lines_of c.in_ok-pages.below.now) _ refl refl (search rules) c.in_err-ring.ensures.err)

pub returns-in_err-gens-clause-err : goal.returns-in_err-gens-clause-err
returns-in_err-gens-clause-err c = let p = err_from_is_err_and c.from_residual-in_err-gens.result c.from_residual-in_err-gens.ensures.1 in
    rw (p.1, p.2) (FailsHeader-below
    (Opening ∷ Size (codes "shards") MOST_SHARDS ∷ Size (codes "pages") TRACE_PAGES ∷ Size (codes "ring") MOST_RING_KEYS ∷ []) _ _
    (number_of c.in_ok-version.version ∷ c.in_ok-shards.shards ∷ c.in_ok-pages.pages ∷ c.in_ok-ring.ring ∷ []) 5 (lines_of c.args.text.now)
    (lines_of c.in_ok-ring.below.now) _ refl refl (search rules) c.in_err-gens.ensures.err)

pub returns-clause-within : goal.returns-clause-within
returns-clause-within c = record {
  shards = size_range _ MOST_SHARDS _ (lines_of c.in_ok-version.below.now) (lines_of c.in_ok-shards.below.now) c.in_ok-shards.ensures.ok;
  pages = size_range _ TRACE_PAGES _ (lines_of c.in_ok-shards.below.now) (lines_of c.in_ok-pages.below.now) c.in_ok-pages.ensures.ok;
  ring = size_range _ MOST_RING_KEYS _ (lines_of c.in_ok-pages.below.now) (lines_of c.in_ok-ring.below.now) c.in_ok-ring.ensures.ok;
  gens = size_range _ 4294967295 _ (lines_of c.in_ok-ring.below.now) (lines_of c.in_ok-gens.below.now) c.in_ok-gens.ensures.ok;
}
