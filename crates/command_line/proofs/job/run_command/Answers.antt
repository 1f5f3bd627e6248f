use Rattle.std.proofs.Common.{ap₂, ◌∙◌, ◌||◌}
use Rattle.clap.specs.Words.{with_rule}
use Rattle.command_line.proofs.job.run_command.Goals as goal

pub returns : goal.returns
returns c = (
  c.in_ok-run.ensures.shape c.certificate_arg.ensures.1
      ∙ ap₂ with_rule (c.in_ok-arg-3.ensures.shape c.flag-replies.ensures.1
      ∙ ap₂ with_rule (c.in_ok-arg-2.ensures.shape c.flag-serial.ensures.1
      ∙ ap₂ with_rule (c.in_ok-arg.ensures.shape c.trace_arg.ensures.1
      ∙ ap₂ with_rule c.bare_command.ensures.0 c.trace_arg.ensures.0) c.flag-serial.ensures.0) c.flag-replies.ensures.0) c.certificate_arg.ensures.0,
  c.in_ok-run.ensures.globals
      ∙ ap₂ ◌||◌ (c.in_ok-arg-3.ensures.globals
      ∙ ap₂ ◌||◌ (c.in_ok-arg-2.ensures.globals
      ∙ ap₂ ◌||◌ (c.in_ok-arg.ensures.globals
      ∙ ap₂ ◌||◌ c.bare_command.ensures.1 c.trace_arg.ensures.1) c.flag-serial.ensures.1) c.flag-replies.ensures.1) c.certificate_arg.ensures.1,
)
