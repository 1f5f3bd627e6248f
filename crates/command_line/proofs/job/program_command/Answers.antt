use Rattle.std.proofs.Common.{rules, ◌∙◌, ap, ap₂}
use Rattle.clap.specs.Words.{with_subcommand}
use Rattle.command_line.proofs.job.program_command.Goals as goal

pub returns : goal.returns
returns c = (
  c.in_ok-program.ensures.shape c.in_ok-check.ensures.1
      ∙ ap₂ with_subcommand (c.in_ok-subcommand.ensures.shape c.in_ok-run.ensures.1
      ∙ ap₂ with_subcommand c.in_ok-bare.ensures.0 (ap (λ a. a.top) c.in_ok-run.ensures.0)) (ap (λ a. a.top) c.in_ok-check.ensures.0),
  search rules,
)
