use Rattle.std.proofs.Common.{◌≡◌, ◌∙◌, [], ap, subst, sym}
use Rattle.clap.specs.Walk.{texts}
use Rattle.clap.specs.Words.{HasKind}
use Rattle.clap.specs.Faults.{fault_of, is_simple_and_free}
use Rattle.command_line.specs.Job.{IsJob, kinds_of}
use Rattle.command_line.proofs.Entered.{entered}
use Rattle.command_line.proofs.Refused.{refused}
use Rattle.command_line.proofs.job.Job.from_words.Goals as goal

pub job_of-requires : goal.job_of-requires
job_of-requires c =
    let words = texts c.args.words.now in
    let program = c.in_ok-program.ensures in
    let m = c.in_ok-matches.matches in
    let parsed = c.in_ok-matches.ensures.parsed in
    let fault : kinds_of words ≡ [] = sym (ap (λ a. fault_of a words) program.0) ∙ c.in_ok-matches.ensures.kinds (ap is_simple_and_free program.0) in
    (entered c.in_ok-program.program parsed.built words m program parsed.from parsed.parsed c.in_ok-matches.ensures.matches fault).1

pub returns-in_err-matches-clause-refused : goal.returns-in_err-matches-clause-refused
returns-in_err-matches-clause-refused c =
    let words = texts c.args.words.now in
    let error = c.in_err-matches.field-0.0 in
    let program = c.in_ok-program.ensures.0 in
    let kinds : HasKind (kinds_of words) error = subst (λ a. HasKind (fault_of a words) error) program (c.in_err-matches.ensures.kinds (ap is_simple_and_free program)) in
    refused words error _ kinds c.from_residual-in_err-matches.ensures.1

pub returns-clause-named : goal.returns-clause-named
returns-clause-named c =
    let words = texts c.args.words.now in
    let program = c.in_ok-program.ensures in
    let m = c.in_ok-matches.matches in
    let parsed = c.in_ok-matches.ensures.parsed in
    let fault : kinds_of words ≡ [] = sym (ap (λ a. fault_of a words) program.0) ∙ c.in_ok-matches.ensures.kinds (ap is_simple_and_free program.0) in
    subst (λ entered. IsJob entered c.job_of.result) (entered c.in_ok-program.program parsed.built words m program parsed.from parsed.parsed c.in_ok-matches.ensures.matches fault).0 c.job_of.ensures

pub returns-clause-accepted : goal.returns-clause-accepted
returns-clause-accepted c =
    let words = texts c.args.words.now in
    let program = c.in_ok-program.ensures.0 in
    sym (ap (λ a. fault_of a words) program) ∙ c.in_ok-matches.ensures.kinds (ap is_simple_and_free program)
