-- The name that is found at the file's place is copied; past the last there is none, which stands as the empty name.
use Rattle.std.proofs.Common.{refl}
use Rattle.run_commands.proofs.Merging.{name-there, none-there}
use Rattle.run_program.proofs.Merging.{name_told, none_told}
use Rattle.run_program.proofs.merged.name_of.Goals as goal

pub returns-in-Some : goal.returns-in-Some
returns-in-Some c =
    name_told _ c.args.file c.in-Some.name.now.now c.from_str.result
    (name-there (λ name. name.now) c.args.names.now c.args.file c.args.file c.in-Some.name.now refl
    c.in-Some.ensures.lookup.0 c.in-Some.ensures.lookup.1)
    c.from_str.ensures

pub returns-in-None : goal.returns-in-None
returns-in-None c =
    none_told _ c.args.file c.from_str-in-None.result
    (none-there (λ name. name.now) c.args.names.now c.args.file c.args.file refl c.in-None.ensures.lookup.3)
    c.from_str-in-None.ensures
