-- The subcommand that a parse entered, and its file.
use Rattle.std.proofs.Common.{◌≡◌, ◌&&◌, ◌||◌, not, ℕ, List, [], ◌∷◌, Bool, true, false, true≢false, cond, Option, Some, None, is_some, option_map, option_and_then, refl, sym, subst, inl, inr, arith, codes, ◌∙◌, ap, ap₂}
use Rattle.std.specs.Prelude.{fold, slice_index}
use Rattle.std.specs.List.{find}
use Rattle.std.specs.Option.{option_map_or}
use Rattle.std.specs.Str.{bytes_eq}
use Rattle.std.proofs.lemmas.Slice.Eq.{bytes_eq-Decides}
use Rattle.clap.specs.Kinds.{check_kinds}
use Rattle.clap.specs.Faults.{check_fault, defaults_fault, entered_fault, level_fault, settle_fault, walk_fault}
use Rattle.clap.specs.Words.{App, BuildsTo, HasMatchesOf, IsParsed, Row, Text, app_of, found_of, has_subcommand, subcommand_of, subcommand_rows_of, subcommand_name_of}
use Rattle.clap.specs.Walk.{Rule, answers_to, finished, first_of, nothing_held, rows_after, settled, stop_after, walk, walk_from, with_default, without}
use Rattle.clap.specs.Simple.{Shape, argument_words, built, built_leaf, filled, help_rule, help_shape, inherited, is_simple, label_of, names_of, rows_at, with_index}
use Rattle.clap.specs.Takes.{is_given}
use Rattle.clap.specs.declared.parser.matches.ValueSource.TheVariants.{CommandLine}
use Rattle.clap.specs.declared.parser.matches.ArgMatches.{ArgMatches}
use Rattle.clap.specs.declared.parser.matches.ArgMatches.TheViews.{out-ArgMatches}
use Rattle.clap.specs.declared.builder.command.Command.{Command}
use Rattle.clap.specs.declared.builder.command.Command.TheViews.{out-Command as fields_of}
use Rattle.command_line.specs.Job.{IsApp, NamesJob, bare_program, check_app, kinds_of, needed, program_app, run_app}
use Rattle.command_line.proofs.Stopped.{IsNotHelp, walk_stops}
use Rattle.command_line.proofs.Given.{AreFilling, Filled, Filled-given, Filled-settled, Filled-walk, Filled-with_values, Filled-without, IsFilling, split}

-- the parts of an option's pair
pub joined : {A B : Type 0} (o : Option (A × B)) (a : A) (b : B) → option_map (λ p. p.0) o ≡ Some a → option_map (λ p. p.1) o ≡ Some b → o ≡ Some (a, b)
joined None a b first second = cc
joined (Some p) a b first second = let e : p.0 ≡ a = cc in let f : p.1 ≡ b = cc in ap₂ (λ x y. Some (x, y)) e f

option_map-compose : {A B C : Type 0} (f : A → B) (g : B → C) (o : Option A) → option_map (λ x. g (f x)) o ≡ option_map g (option_map f o)
option_map-compose f g None = refl
option_map-compose f g (Some x) = refl

pub subcommand_name_of-rows : (m : ArgMatches) → subcommand_name_of m ≡ option_map (λ (p : Text × List Row). p.0) (subcommand_rows_of m)
subcommand_name_of-rows m = option_map-compose _ (λ (p : Text × List Row). p.0) (out-ArgMatches m).subcommand

is_some-option_map : {A B : Type 0} (f : A → B) (o : Option A) → is_some (option_map f o) ≡ is_some o
is_some-option_map f None = refl
is_some-option_map f (Some x) = refl

pub is_some-rows : (m : ArgMatches) → is_some (subcommand_rows_of m) ≡ has_subcommand m
is_some-rows m = is_some-option_map _ (out-ArgMatches m).subcommand

-- the rule of the file as it is built, and that of `--help`
abbrev file_rule : Rule
file_rule = with_index 1 (filled (needed (codes "FILE")))

abbrev help_flag : Rule
help_flag = with_index 2 (filled help_rule)

-- a use of the file has a value
file_filling : IsFilling (codes "FILE") file_rule
file_filling again [] rows e filled = cc
file_filling again (v ∷ vs) rows e filled = Filled-with_values (codes "FILE") (codes "FILE") _ CommandLine (v ∷ vs) (without (codes "FILE") rows) (λ none. cc)
    (Filled-without (codes "FILE") (codes "FILE") rows filled)

-- a request for help leaves the rows as they are
help_filling : IsFilling (codes "FILE") help_flag
help_filling again values rows e filled = filled

-- the commands as they are built
abbrev built_run : Shape
built_run = built_leaf (inherited bare_program.top run_app.top)

abbrev built_check : Shape
built_check = built_leaf (inherited bare_program.top check_app.top)

abbrev built_help : Shape
built_help = built_leaf help_shape

check_rules : (p : Rule → Bool) → AreFilling (codes "FILE") (find p built_check.rules)
check_rules p = go (p file_rule) (p help_flag)
  where
    go : (a b : Bool) → AreFilling (codes "FILE") (cond a (Some file_rule) (cond b (Some help_flag) None))
    go true b = file_filling
    go false true = help_filling
    go false false = tt

-- where the words after `check` have no fault, the file is given
file_given : (words : List Text) → level_fault built_check [] nothing_held words false [] ≡ [] → is_some (first_of (codes "FILE") (rows_after built_check.rules [] words)) ≡ true
file_given words e =
    let end = (walk built_check.rules [] nothing_held words).held in
    let rows = finished built_check.rules end in
    let walked = split (walk_fault built_check [] (walk_from nothing_held) words) _ e in
    let settles = split (settle_fault built_check.rules built_check.args_override_self end) _ walked.1 in
    let checks = split (defaults_fault (settled built_check.rules end).rows built_check.rules) (check_fault built_check rows false) settles.1 in
    let filled : Filled (codes "FILE") (settled built_check.rules end).rows =
    Filled-settled (codes "FILE") built_check check_rules end settles.0 (Filled-walk (codes "FILE") built_check check_rules [] (walk_from nothing_held) words walked.0 tt) in
    Filled-given (codes "FILE") rows (finishes (settled built_check.rules end).rows filled) (is_given_of (is_given (codes "FILE") rows) checks.1)
  where
    same : (rows : List Row) (b : Bool) → Filled (codes "FILE") rows → Filled (codes "FILE") (cond b rows rows)
    same rows true h = h
    same rows false h = h

    finishes : (rows : List Row) → Filled (codes "FILE") rows → Filled (codes "FILE") (fold with_default rows built_check.rules)
    finishes rows h = same (with_default rows file_rule) _ (same rows _ h)

    is_given_of : (b : Bool) → check_kinds false false ((true && not b) || false) ≡ [] → b ≡ true
    is_given_of true e = refl
    is_given_of false e = cc

-- a name that `help` answers to is `help`
answers : (name : Text) → bytes_eq name (codes "help") ≡ false → answers_to name (label_of built_help) ≡ true → ⊥
answers name other e = go (bytes_eq (codes "help") name) refl e
  where
    go : (b : Bool) → bytes_eq (codes "help") name ≡ b → (b || false) ≡ true → ⊥
    go true same e = absurd (true≢false (sym (subst (λ (t : Text). bytes_eq t (codes "help") ≡ true) ((bytes_eq-Decides (codes "help") name).0 same) refl) ∙ other))
    go false same e = absurd (true≢false (sym e))

-- the words enter `run`, or `check` with its file, where they enter a command that is not `help` and have no fault
enters : (stop : Option (Text × List Text)) → IsNotHelp stop
    → option_map_or (λ p. option_map_or (λ s. level_fault s [] nothing_held p.1 false []) (find (λ s. answers_to p.0 (label_of s)) (built_run ∷ built_check ∷ built_help ∷ [])) []) stop [] ≡ []
    → is_some (option_and_then (λ p. option_map (λ s. rows_at s p.1) (find (λ s. answers_to p.0 (label_of s)) (built_run ∷ built_check ∷ built_help ∷ []))) stop) ≡ true
    → NamesJob (option_and_then (λ p. option_map (λ s. rows_at s p.1) (find (λ s. answers_to p.0 (label_of s)) (built_run ∷ built_check ∷ built_help ∷ []))) stop)
enters None other fault e = absurd (true≢false (sym e))
enters (Some p) other fault e = go (answers_to p.0 (label_of built_run)) (answers_to p.0 (label_of built_check)) (answers_to p.0 (label_of built_help)) (answers p.0 other) fault e
  where
    go : (a b c : Bool) → (c ≡ true → ⊥) → option_map_or (λ s. level_fault s [] nothing_held p.1 false []) (cond a (Some built_run) (cond b (Some built_check) (cond c (Some built_help) None))) [] ≡ []
        → is_some (option_map (λ s. rows_at s p.1) (cond a (Some built_run) (cond b (Some built_check) (cond c (Some built_help) None)))) ≡ true
        → NamesJob (option_map (λ s. rows_at s p.1) (cond a (Some built_run) (cond b (Some built_check) (cond c (Some built_help) None))))
    go true b c never fault e = (rows_after built_run.rules [] p.1, inl refl)
    go false true c never fault e = (rows_after built_check.rules [] p.1, inr (refl, file_given p.1 fault))
    go false false true never fault e = absurd (never refl)
    go false false false never fault e = absurd (true≢false (sym e))

-- words that enter a command and have no fault name a job
pub names_job : (words : List Text) → kinds_of words ≡ [] → is_some (subcommand_of program_app words) ≡ true → NamesJob (subcommand_of program_app words)
names_job words fault e =
    let stop = stop_after (built program_app).top.rules (names_of (built program_app)) (argument_words program_app words) in
    let walked = split (walk_fault (built program_app).top (names_of (built program_app)) (walk_from nothing_held) (argument_words program_app words)) _ fault in
    enters stop (walk_stops (built program_app).top refl (names_of (built program_app)) (walk_from nothing_held) (argument_words program_app words) walked.0 tt)
    (split (entered_fault (built program_app) stop) _ walked.1).0 e

-- a parse by the program's command names a job, and enters what the words say
pub entered : (program built : Command) (words : List Text) (m : ArgMatches) → IsApp program_app program → BuildsTo program built
    → ((fields_of built).has_globals ≡ false → IsParsed built (found_of m) (has_subcommand m)) → HasMatchesOf (app_of program) words m
    → kinds_of words ≡ [] → (subcommand_rows_of m ≡ subcommand_of program_app words) × NamesJob (subcommand_rows_of m)
entered program built words m app builds parsed has fault =
    let same : subcommand_rows_of m ≡ subcommand_of program_app words = (has (ap is_simple app.0)).1 ∙ ap (λ a. subcommand_of a words) app.0 in
    let required : (fields_of built).subcommand_required ≡ true = builds.needs_subcommand ∙ ap (λ (a : App). a.top.subcommand_required) app.0 in
    let used : has_subcommand m ≡ true = (parsed (builds.globals ∙ app.1)).checked.subcommand required in
    (same, subst NamesJob (sym same) (names_job words fault (sym (ap is_some same) ∙ is_some-rows m ∙ used)))

-- where the command is `check`, it was entered with these rows
pub check_entered : (m : ArgMatches) (rows : List Row) → subcommand_name_of m ≡ Some (codes "check") → option_map (λ p. p.1) (subcommand_rows_of m) ≡ Some rows
    → subcommand_rows_of m ≡ Some (codes "check", rows)
check_entered m rows name inner = joined (subcommand_rows_of m) (codes "check") rows (sym (subcommand_name_of-rows m) ∙ name) inner

-- the first letter of a command's name
abbrev letter : Option (Text × List Row) → ℕ
letter None = 0
letter (Some p) = slice_index p.0 0

-- and these have the file
pub file_there : (entered : Option (Text × List Row)) (rows : List Row) → entered ≡ Some (codes "check", rows) → NamesJob entered → is_some (first_of (codes "FILE") rows) ≡ true
file_there stop rows e (there, inl run) =
    absurd (differ (letter (Some (codes "run", there))) (letter (Some (codes "check", rows))) refl refl (ap letter (sym run ∙ e)))
  where
    differ : (a b : ℕ) → a ≡ 114 → b ≡ 99 → a ≡ b → ⊥
    differ a b is_r is_c same = absurd (omega arith)
file_there stop rows e (there, inr check) =
    let same : there ≡ rows = ap (λ (o : Option (Text × List Row)). option_map_or (λ p. p.1) o []) (sym check.0 ∙ e) in
    ap (λ x. is_some (first_of (codes "FILE") x)) (sym same) ∙ check.1
