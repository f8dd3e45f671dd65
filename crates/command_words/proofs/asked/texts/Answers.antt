-- The kit's call speaks of its entries, and the definition of the rows.
use Rattle.std.proofs.Common.{◌∙◌, Some, map, ap}
use Rattle.clap.specs.Words.{found_of}
use Rattle.clap.proofs.WalkLemmas.{raw_values-rows}
use Rattle.command_words.proofs.asked.texts.Goals as goal

pub returns-in_ok-from_slice-in-Some : goal.returns-in_ok-from_slice-in-Some
returns-in_ok-from_slice-in-Some c =
    ap (λ xs. Some (map (λ s. s.now) xs)) c.in_ok-from_slice-in-Some.ensures.items ∙ c.in-Some.ensures
    ∙ raw_values-rows (found_of c.args.found.now) c.args.id.now

pub returns-in-None : goal.returns-in-None
returns-in-None c = c.in-None.ensures ∙ raw_values-rows (found_of c.args.found.now) c.args.id.now
