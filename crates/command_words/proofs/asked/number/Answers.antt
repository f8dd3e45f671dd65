-- A number is what is read of the text that stands for its name.
use Rattle.std.proofs.Common.{◌∙◌, ap}
use Rattle.std.specs.Prelude.{option_and_then}
use Rattle.std.specs.Str.Parse.{ExplainsUnsignedError, HasUnsignedDigitsIfOk, ParsesUnsigned}
use Rattle.clap.specs.Words.{found_of, one_text}
use Rattle.clap.proofs.WalkLemmas.{one_text-rows}
use Rattle.command_words.specs.Wanted.{number_in}
use Rattle.command_words.proofs.Found.{number_found}
use Rattle.command_words.proofs.asked.number.Goals as goal

pub returns : goal.returns
returns c =
    let found = found_of c.args.found.now in
    number_found _ (λ bs r. ParsesUnsigned 32 10 bs r × ExplainsUnsignedError 10 bs r × HasUnsignedDigitsIfOk bs r)
    (one_text found c.args.id.now) c.get_one.result (λ u x g. g.0) c.get_one.ensures.none c.get_one.ensures.value
    ∙ ap (option_and_then number_in) (one_text-rows found c.args.id.now)
