-- What holds of the lines of printed runs. (This project's own.)
use Rattle.std.specs.Prelude.{◌≡◌, ℕ, ◌<◌, ◌^◌, codes, Bool, List, ◌++◌, Ok, length, map}
use Rattle.std.specs.List.{All, flat_map}
use Rattle.scenario_file.specs.declared.actors.Cast.{Cast}
use Rattle.scenario_file.specs.Actors.{actors_of}
use Rattle.history_rules.specs.Events.{Entry}
use Rattle.run_lines.specs.Texts.{count_text, entry_text}
use Rattle.run_lines.specs.Runs.{run_in}
use Rattle.printed_laws.specs.Lines.{line_read, IsPrintable, IsPassed}

-- Behind a title and lines that are passed over, a number of entries with so many entries' lines reads as what each
-- line says.
-- Of each entry it is told whether its frame is named by where it was said.
abbrev pub PrintedLinesReadBack : Type 0
PrintedLinesReadBack =
    (cast : Cast) (heads : List ℕ) (told : Entry → Bool) (entries : List Entry) → actors_of cast < 2 ^ 64 →
    IsPassed heads → length entries < 2 ^ 32
    → All (λ e. IsPrintable cast (told e) e) entries
    → run_in cast (codes "spire 1\n" ++ heads ++ count_text (length entries)
    ++ flat_map (λ e. entry_text cast (told e) e) entries)
    ≡ Ok (map (λ e. line_read (told e) e) entries)
