use Rattle.std.proofs.Common.{◌∙◌, codes}
use Rattle.clap.specs.Words.{found_of}
use Rattle.clap.proofs.WalkLemmas.{first_value-rows, one_text-rows}
use Rattle.command_line.proofs.job.run_job.Goals as goal

pub returns : goal.returns
returns c =
    let found = found_of c.args.run.now in (
      c.get_str.ensures ∙ first_value-rows found (codes "TRACE"),
      record {
        absent = λ e. c.get_flag.ensures.none (one_text-rows found (codes "serial") ∙ e);
        yes = λ e. c.get_flag.ensures.value (one_text-rows found (codes "serial") ∙ e);
        no = λ e. c.get_flag.ensures.other (one_text-rows found (codes "serial") ∙ e);
      },
      record {
        absent = λ e. c.get_flag-2.ensures.none (one_text-rows found (codes "replies") ∙ e);
        yes = λ e. c.get_flag-2.ensures.value (one_text-rows found (codes "replies") ∙ e);
        no = λ e. c.get_flag-2.ensures.other (one_text-rows found (codes "replies") ∙ e);
      },
      c.get_str-2.ensures ∙ first_value-rows found (codes "certificate"),
    )
