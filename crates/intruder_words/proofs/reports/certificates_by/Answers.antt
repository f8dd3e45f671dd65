-- The order is told what is alike, for this question, to all facts of the frames known: so its certificates are
-- those known by these facts.
use Rattle.std.proofs.Common.{[], ◌∙◌, subst}
use Rattle.protocol_rules.specs.Group.{group_of}
use Rattle.protocol_rules.specs.Facts.{facts_of}
use Rattle.intruder_words.specs.declared.asked.Asked.{Asked}
use Rattle.intruder_words.specs.Telling.{IsAlike}
use Rattle.intruder_words.proofs.Alike.{certificates-same}
use Rattle.intruder_words.proofs.Shortening.{ok-weaker}
use Rattle.intruder_words.proofs.reports.certificates_by.Goals as goal

pub returns : goal.returns
returns c = ok-weaker c.certificates_in.result (λ certificates known.
    let t = c.in_ok-tell_all.ensures in
    known (group_of c.args.sizes.now 0) t.told [] t.is
    ∙ certificates-same (group_of c.args.sizes.now 0) c.args.items.now t.told
    (facts_of (group_of c.args.sizes.now 0) c.args.known.now)
    (subst (λ (q : Asked). IsAlike q c.in_ok-tell_all.ensures.told
    (facts_of (group_of c.args.sizes.now 0) c.args.known.now)) c.requires.question t.alike))
    c.certificates_in.ensures
