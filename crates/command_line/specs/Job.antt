-- The commands of the program, and the job that words name.
use Rattle.std.specs.Prelude.{◌≡◌, ◌⊎◌, ℕ, Bool, true, false, List, Option, Some, None, is_some, option_map, codes, if◌then◌else◌, ⊤}
use Rattle.std.specs.Borrow.{Bor}
use Rattle.clap.specs.Words.{App, IsAmong, Kinds, Row, Rule, Text, app_of, fault_of, first_of, kind_of, one_of, new_app, new_rule, rule_of, subcommand_of, with_rule, with_subcommand}
use Rattle.clap.specs.declared.builder.Arg.{Arg}
use Rattle.clap.specs.declared.builder.Command.{Command}
use Rattle.clap.specs.declared.builder.command.Command.TheViews.{out-Command as fields_of}
use Rattle.clap.specs.declared.builder.ArgAction.TheVariants.{SetTrue}
use Rattle.clap.specs.declared.error.Error.{Error}
use Rattle.clap.specs.declared.error.kind.ErrorKind.{ErrorKind}
use Rattle.clap.specs.declared.error.kind.ErrorKind.TheVariants as kind
use Rattle.command_line.specs.declared.job.Job.{Job}
use Rattle.command_line.specs.declared.job.Job.TheVariants.{Run, Check}
use Rattle.command_line.specs.declared.job.JobError.{JobError}
use Rattle.command_line.specs.declared.job.JobError.TheVariants.{OutOfMemory, Words}

-- `NAME`
abbrev pub positional : Text → Rule
positional name = new_rule name

-- `NAME`, which has to be given
abbrev pub needed : Text → Rule
needed name = record (new_rule name) { required = true }

-- `--NAME`
abbrev pub flag : Text → Rule
flag name = record (new_rule name) { long = Some name; action = Some SetTrue }

-- `--NAME VALUE`
abbrev pub valued : Text → Rule
valued name = record (new_rule name) { long = Some name; value_names = 1 }

-- `run [TRACE] [--serial] [--replies] [--certificate FILE]`
abbrev pub run_app : App
run_app = with_rule (with_rule (with_rule (with_rule (new_app (codes "run"))
    (positional (codes "TRACE"))) (flag (codes "serial"))) (flag (codes "replies")))
    (valued (codes "certificate"))

-- `check FILE`
abbrev pub check_app : App
check_app = with_rule (new_app (codes "check")) (needed (codes "FILE"))

-- a command is required, there is a version, and the words have no name of the program before them
abbrev pub bare_program : App
bare_program = let a = new_app (codes "meshrun") in record a {
  top = record a.top { no_binary_name = true; has_version = true; subcommand_required = true };
}

-- the program's commands are `run` and `check`, beside the parser's own `help`
abbrev pub program_app : App
program_app = with_subcommand (with_subcommand bare_program run_app.top) check_app.top

-- the argument is this one, and does not go down to subcommands
abbrev pub IsArg : Rule → Arg → Type 0
IsArg rule arg = (rule_of arg ≡ rule) × (arg.global ≡ false)

-- the command is this one, and has no argument that goes down to subcommands
abbrev pub IsApp : App → Command → Type 0
IsApp app command = (app_of command ≡ app) × ((fields_of command).has_globals ≡ false)

-- a flag is on where its text is `true`, and off where it has none or `false`
pub record IsFlag (text : Option Text) (on : Bool) : Type 0 where
  pub absent : text ≡ None → on ≡ false
  pub yes : text ≡ Some (codes "true") → on ≡ true
  pub no : text ≡ Some (codes "false") → on ≡ false

-- the bytes of a text, where there is one
abbrev pub bytes_of : Option (Bor (List ℕ)) → Option Text
bytes_of text = option_map (λ t. t.now) text

-- the job is `run` with these values of its arguments
abbrev pub IsRunJob : List Row → Job → Type 0
IsRunJob rows (Run trace serial replies certificate) =
    (bytes_of trace ≡ first_of (codes "TRACE") rows) × IsFlag (one_of (codes "serial") rows) serial
    × IsFlag (one_of (codes "replies") rows) replies
    × (bytes_of certificate ≡ first_of (codes "certificate") rows)
IsRunJob rows (Check file) = ⊥

-- the job is `check` with this value of its argument
abbrev pub IsCheckJob : List Row → Job → Type 0
IsCheckJob rows (Run trace serial replies certificate) = ⊥
IsCheckJob rows (Check file) = first_of (codes "FILE") rows ≡ Some file.now

-- the job is the command that was entered, with its values
abbrev pub IsJob : Option (Text × List Row) → Job → Type 0
IsJob entered job = (rows : List Row) × (((entered ≡ Some (codes "run", rows)) × IsRunJob rows job)
    ⊎ ((entered ≡ Some (codes "check", rows)) × IsCheckJob rows job))

-- a command was entered, and `check` has its file
abbrev pub NamesJob : Option (Text × List Row) → Type 0
NamesJob entered = (rows : List Row) × ((entered ≡ Some (codes "run", rows))
    ⊎ ((entered ≡ Some (codes "check", rows)) × (is_some (first_of (codes "FILE") rows) ≡ true)))

-- the words name the job: they enter its command, with its values
abbrev pub IsJobOf : List Text → Job → Type 0
IsJobOf words job = IsJob (subcommand_of program_app words) job

-- what is wrong with the words: nothing, or the kinds of which the fault has one
abbrev pub kinds_of : List Text → Kinds
kinds_of words = fault_of program_app words

-- memory ran out
abbrev pub is_memory : ErrorKind → Bool
is_memory kind.OutOfMemory = true
is_memory _ = false

-- what an error of the parser of words becomes
abbrev pub fault_from : Error → JobError
fault_from error = if is_memory (kind_of error) then OutOfMemory else Words error

-- memory ran out, or the error is of a kind that the words have
abbrev pub IsFaultIn : List Text → JobError → Type 0
IsFaultIn words OutOfMemory = ⊤
IsFaultIn words (Words error) = (is_memory (kind_of error) ≡ false)
    × IsAmong (kind_of error) (kinds_of words)
