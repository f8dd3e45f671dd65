-- The subcommand that `clap` found, by its name and the rows of its values.
use Rattle.std.proofs.Common.{◌≡◌, ap, sym, ◌∙◌, List, Option, Some, option_map}
use Rattle.std.specs.Box.{box_value}
use Rattle.clap.specs.Walk.{Row, Text}
use Rattle.clap.specs.Words.{found_of, rows_of, subcommand_rows_of}
use Rattle.clap.specs.declared.parser.matches.ArgMatches.{ArgMatches}
use Rattle.clap.specs.declared.parser.matches.ArgMatches.TheViews.{out-ArgMatches, out-SubCommand}
use Rattle.command_words.proofs.Found.{met}
use Rattle.station_words.specs.Wanted.{Wanted, named_in, station_found}

-- What is asked, where the subcommand has this name and these rows.
pub asked_by : (matches : ArgMatches) (name other : Text) (rows : List Row) (asked : Option Wanted)
    → Some name ≡ option_map (λ b. (out-SubCommand (box_value b)).name.now) (out-ArgMatches matches).subcommand
    → Some rows ≡ option_map (λ (p : Text × List Row). p.1) (subcommand_rows_of matches) → name ≡ other
    → asked ≡ named_in other rows → asked ≡ station_found (subcommand_rows_of matches)
asked_by matches name other rows asked is has same named =
    named ∙ sym (ap station_found (met (λ b. (out-SubCommand (box_value b)).name.now)
    (λ b. rows_of (found_of (out-SubCommand (box_value b)).matches)) (out-ArgMatches matches).subcommand name rows
    is has) ∙ ap (λ (n : Text). named_in n rows) same)
