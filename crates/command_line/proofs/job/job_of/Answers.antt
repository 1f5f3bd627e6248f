use Rattle.std.proofs.Common.{◌≡◌, ◌∙◌, ap, codes, inr, is_some, option_map, subst, sym, Some}
use Rattle.std.specs.Prelude.{IfSome}
use Rattle.clap.specs.Words.{first_value, found_of, rows_of, subcommand_name_of, subcommand_rows_of}
use Rattle.clap.proofs.CallerLemmas.{some_of_text}
use Rattle.clap.proofs.WalkLemmas.{first_value-rows}
use Rattle.command_line.proofs.Entered.{check_entered, file_there}
use Rattle.command_line.proofs.job.job_of.Goals as goal

pub unwrap-file-requires : goal.unwrap-file-requires
unwrap-file-requires c =
    let m = c.args.matches.now in
    let found = found_of c.unwrap-check.result.now in
    let name : subcommand_name_of m ≡ Some (codes "check") = c.subcommand_matches-2.ensures.found.0 (ap is_some c.unwrap-check.ensures) in
    let rows : option_map (λ p. p.1) (subcommand_rows_of m)
    ≡ Some (rows_of found) = subst (λ o. IfSome o (λ inner. option_map (λ p. p.1) (subcommand_rows_of m) ≡ Some (rows_of (found_of inner.now))))
    c.unwrap-check.ensures c.subcommand_matches-2.ensures.rows in
    let there = file_there (subcommand_rows_of m) (rows_of found) (check_entered m (rows_of found) name rows) c.requires in
    some_of_text _ c.get_str.result (first_value found (codes "FILE")) c.get_str.ensures (ap is_some (first_value-rows found (codes "FILE")) ∙ there)

pub returns : goal.returns
returns c =
    let m = c.args.matches.now in
    let found = found_of c.unwrap-check.result.now in
    let name : subcommand_name_of m ≡ Some (codes "check") = c.subcommand_matches-2.ensures.found.0 (ap is_some c.unwrap-check.ensures) in
    let rows : option_map (λ p. p.1) (subcommand_rows_of m)
    ≡ Some (rows_of found) = subst (λ o. IfSome o (λ inner. option_map (λ p. p.1) (subcommand_rows_of m) ≡ Some (rows_of (found_of inner.now))))
    c.unwrap-check.ensures c.subcommand_matches-2.ensures.rows in
    let file : option_map (λ s. s.now) c.get_str.result ≡ Some c.unwrap-file.result.now = ap (option_map (λ s. s.now)) c.unwrap-file.ensures in
    (rows_of found, inr (check_entered m (rows_of found) name rows, sym (first_value-rows found (codes "FILE")) ∙ sym c.get_str.ensures ∙ file))
