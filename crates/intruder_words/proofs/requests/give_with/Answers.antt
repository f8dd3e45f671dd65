-- Where no known request has the update's digest there is no gift; else the first one, with a quorum of its
-- acknowledgements, is the gift of the definition.
use Rattle.protocol_rules.specs.Group.{group_of}
use Rattle.intruder_words.proofs.Giving.{gift-missing, gift-made}
use Rattle.intruder_words.proofs.requests.give_with.Goals as goal

pub returns-in_default : goal.returns-in_default
returns-in_default c = gift-missing (group_of c.args.sizes.now 0) c.args.known.now c.args.j c.args.k c.args.update.now
    c.update_digest-digest.result c.requires c.update_digest-digest.ensures
    c.in_ok-request.request c.in_ok-request.ensures c.in_default.is

pub returns : goal.returns
returns c = gift-made (group_of c.args.sizes.now 0) c.args.known.now c.args.j c.args.k c.args.update.now
    c.update_digest-digest.result c.requires c.update_digest-digest.ensures
    c.in_ok-request.request c.in_ok-request.ensures _ c.in-Some.is _ c.in_ok-acks.ensures
