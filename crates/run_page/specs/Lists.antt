-- Lists inside words, as the details of a run tell them. (This project's own.)
use Rattle.std.specs.Prelude.{ℕ, List, ◌++◌, codes, decimal}
use Rattle.std.specs.List.{flat_map}
use Rattle.message_types.specs.declared.signed.Signed.{Signed}
use Rattle.message_types.specs.declared.preordering.PoSummary.{PoSummary}
use Rattle.message_types.specs.declared.ordering.Certificate.{Certificate}
use Rattle.scenario_file.specs.declared.actors.Cast.{Cast}
use Rattle.scenario_file.specs.Actors.{actor_name}

-- a number behind a mark
abbrev pub number_text : List ℕ → ℕ → List ℕ
number_text mark x = mark ++ decimal x

-- a row of an offer: who signed the summary, and its numbers
unfoldable pub row_text : Cast → Signed PoSummary → List ℕ
row_text cast frame = codes " " ++ actor_name cast frame.signer ++ flat_map (number_text (codes ":")) frame.body.numbers

abbrev pub signer_text : Cast → ℕ → List ℕ
signer_text cast signer = codes " " ++ actor_name cast signer

-- a certificate by its number and its view
abbrev pub certificate_text : Certificate → List ℕ
certificate_text c = codes " " ++ decimal c.s ++ codes ":" ++ decimal c.v
