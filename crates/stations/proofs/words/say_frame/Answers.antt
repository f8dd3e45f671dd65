-- A frame that stands goes to actors that are there.
use Rattle.std.proofs.Common.{sym, subst}
use Rattle.message_types.specs.declared.signed.Signed.{Signed}
use Rattle.message_types.specs.declared.body.Body.{Body}
use Rattle.printed_history.specs.Reading.{contents_in}
use Rattle.world_history.specs.Addressing.{IsClientFew}
use Rattle.world_history.proofs.Addressed.{client_few}
use Rattle.stations.proofs.words.say_frame.Goals as goal

pub put_word-requires-clause-client : goal.put_word-requires-clause-client
put_word-requires-clause-client c =
    subst (λ (f : Signed Body). IsClientFew f.body) (sym c.frame.ensures.frame)
    (client_few (contents_in c.args.so_far.now) c.args.frame.now c.requires.at_hand.scenario c.requires.stand)
