-- A history in which words are forged: no master is intruded, and yet correct masters disagree. Masters 2 and 3 take
-- frames in the names of masters that said nothing: a certificate each, of one request with two updates, and one order.
use Rattle.std.specs.Prelude.{List, [], ◌∷◌, false}
use Rattle.message_types.specs.declared.body.Body.TheVariants as body
use Rattle.protocol_rules.specs.Group.{Group}
use Rattle.history_rules.specs.Events.{Entry}
use Rattle.history_rules.specs.Setup.{Setup}
use Rattle.history_examples.specs.Signing.{four_masters, setup_of, commands, takes}
use Rattle.history_examples.specs.Words.{update, ack, certificate, other_update, other_ack, other_certificate, order}

abbrev pub group : Group
group = four_masters 2

abbrev pub setup : Setup
setup = setup_of group (λ m. false)

abbrev pub history : List Entry
history =
    commands 0 4 update
    ∷ commands 1 5 other_update
    ∷ takes 2 2 0 0 certificate (body.PoAck ack ∷ [])
    ∷ takes 3 2 0 0 order []
    ∷ takes 4 3 0 0 other_certificate (body.PoAck other_ack ∷ [])
    ∷ takes 5 3 0 0 order []
    ∷ []
