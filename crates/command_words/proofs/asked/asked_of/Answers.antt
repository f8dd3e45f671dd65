-- The name and the rows of the subcommand are those of the definition, and so is the choice by the name.
use Rattle.std.proofs.Common.{◌≡◌, codes, refl, sym, Option, None, Result, Ok, Err, option_map}
use Rattle.std.specs.Result.{IfOk}
use Rattle.std.specs.declared.alloc.AllocError.{AllocError}
use Rattle.clap.specs.Walk.{Text}
use Rattle.clap.specs.Words.{found_of, rows_of, subcommand_rows_of}
use Rattle.command_words.specs.declared.asked.Asked.{Asked}
use Rattle.command_words.specs.Wanted.{Wanted, asked_in, command_in, merge_in, wanted}
use Rattle.command_words.proofs.Found.{asked_by, other_name, unmet}
use Rattle.command_words.proofs.asked.asked_of.Goals.{In-Some}
use Rattle.command_words.proofs.asked.asked_of.Goals as goal

-- what is asked, where the subcommand that was found has this name
named : (c : In-Some) (name : Text) (asked : Option Wanted) → c.in-Some.name.now ≡ name →
    asked ≡ command_in name (rows_of (found_of c.in-Some.found.now)) →
    asked ≡ asked_in (subcommand_rows_of c.args.matches.now)
named c name asked = asked_by c.args.matches.now _ name _ asked c.in-Some.ensures.name c.in-Some.ensures.rows

pub returns-in_default : goal.returns-in_default
returns-in_default c =
    let none : subcommand_rows_of c.args.matches.now ≡ None = unmet _ c.in_default.ensures.rows in
    rw none refl

pub returns-in-play : goal.returns-in-play
returns-in-play c = named (goal.at.returns-in-play c).In-Some (codes "play") _ c.in-play.is c.play.ensures

pub returns-in-run : goal.returns-in-run
returns-in-run c = named (goal.at.returns-in-run c).In-Some (codes "run") _ c.in-run.is c.run.ensures

pub returns-in-replay : goal.returns-in-replay
returns-in-replay c =
    named (goal.at.returns-in-replay c).In-Some (codes "replay") _ c.in-replay.is c.replay.ensures

pub returns-in-make : goal.returns-in-make
returns-in-make c = named (goal.at.returns-in-make c).In-Some (codes "make") _ c.in-make.is c.make.ensures

pub returns-in-keys : goal.returns-in-keys
returns-in-keys c = named (goal.at.returns-in-keys c).In-Some (codes "keys") _ c.in-keys.is c.keys.ensures

pub returns-in-key : goal.returns-in-key
returns-in-key c = named (goal.at.returns-in-key c).In-Some (codes "key") _ c.in-key.is c.key.ensures

pub returns-in-verify : goal.returns-in-verify
returns-in-verify c =
    named (goal.at.returns-in-verify c).In-Some (codes "verify") _ c.in-verify.is c.verify.ensures

pub returns-in-parts : goal.returns-in-parts
returns-in-parts c = named (goal.at.returns-in-parts c).In-Some (codes "parts") _ c.in-parts.is c.parts.ensures

pub returns-in-rebuild : goal.returns-in-rebuild
returns-in-rebuild c =
    named (goal.at.returns-in-rebuild c).In-Some (codes "rebuild") _ c.in-rebuild.is c.rebuild.ensures

pub returns-in-blame : goal.returns-in-blame
returns-in-blame c = named (goal.at.returns-in-blame c).In-Some (codes "blame") _ c.in-blame.is c.blame.ensures

pub returns-in-trend : goal.returns-in-trend
returns-in-trend c = named (goal.at.returns-in-trend c).In-Some (codes "trend") _ c.in-trend.is c.trend.ensures

pub returns-in-delays : goal.returns-in-delays
returns-in-delays c =
    named (goal.at.returns-in-delays c).In-Some (codes "delays") _ c.in-delays.is c.delays.ensures

pub returns-in-page : goal.returns-in-page
returns-in-page c =
    named (goal.at.returns-in-page c).In-Some (codes "page") _ c.in-page.is c.page.ensures

pub returns-in-picture : goal.returns-in-picture
returns-in-picture c =
    named (goal.at.returns-in-picture c).In-Some (codes "picture") _ c.in-picture.is c.picture.ensures

pub returns-in-plot : goal.returns-in-plot
returns-in-plot c =
    named (goal.at.returns-in-plot c).In-Some (codes "plot") _ c.in-plot.is c.plot.ensures

pub returns-in-chart : goal.returns-in-chart
returns-in-chart c =
    named (goal.at.returns-in-chart c).In-Some (codes "chart") _ c.in-chart.is c.chart.ensures

pub returns-in-merge : goal.returns-in-merge
returns-in-merge c = merged c.merge.result c.merge.ensures
  where
    merged : (r : Result (Option Asked) AllocError)
        → IfOk r (λ asked. option_map wanted asked ≡ merge_in (rows_of (found_of c.in-Some.found.now)))
        → IfOk r (λ asked. option_map wanted asked ≡ asked_in (subcommand_rows_of c.args.matches.now))
    merged (Ok asked) is = named (goal.at.returns-in-merge c).In-Some (codes "merge") _ c.in-merge.is is
    merged (Err e) is = tt

pub returns-in_default-name : goal.returns-in_default-name
returns-in_default-name c =
    let other : command_in c.in-Some.name.now (rows_of (found_of c.in-Some.found.now)) ≡ None =
    rw (
      other_name _ _ c.in_default-name.not-play,
      other_name _ _ c.in_default-name.not-run,
      other_name _ _ c.in_default-name.not-replay,
      other_name _ _ c.in_default-name.not-make,
      other_name _ _ c.in_default-name.not-keys,
      other_name _ _ c.in_default-name.not-key,
      other_name _ _ c.in_default-name.not-verify,
      other_name _ _ c.in_default-name.not-parts,
      other_name _ _ c.in_default-name.not-rebuild,
      other_name _ _ c.in_default-name.not-blame,
      other_name _ _ c.in_default-name.not-trend,
      other_name _ _ c.in_default-name.not-delays,
      other_name _ _ c.in_default-name.not-page,
      other_name _ _ c.in_default-name.not-picture,
      other_name _ _ c.in_default-name.not-plot,
      other_name _ _ c.in_default-name.not-chart,
      other_name _ _ c.in_default-name.not-merge,
    ) refl in
    named (goal.at.returns-in_default-name c).In-Some c.in-Some.name.now _ refl (sym other)
