-- A commit and a mark tell how far their signer has come, and are all that a word of theirs tells; other words tell nothing
-- of it.
use Rattle.std.proofs.Common.{◌++◌, refl, sym, subst}
use Rattle.message_types.specs.declared.body.Body.{Body}
use Rattle.protocol_rules.specs.Facts.{tells}
use Rattle.lacking.specs.Come.{IsFurthestOf}
use Rattle.master_knowledge.proofs.HowFar.{come_alike, tells_nobody}
use Rattle.master_knowledge.proofs.order_words.take_furthest_part.Goals as goal

pub returns-in-Commit : goal.returns-in-Commit
returns-in-Commit c g facts is =
    subst (λ (w : Body). IsFurthestOf g c.take.new.self
    (facts ++ tells g record { signer = c.args.part.now.signer; body = w; sig = c.args.part.now.sig }))
    (sym c.in-Commit.is)
    (c.take.ensures.commit record { signer = c.args.part.now.signer; body = c.in-Commit.commit; sig = c.args.part.now.sig }
    refl refl g facts is)

pub returns-in-Mark : goal.returns-in-Mark
returns-in-Mark c g facts is =
    subst (λ (w : Body). IsFurthestOf g c.take-in-Mark.new.self
    (facts ++ tells g record { signer = c.args.part.now.signer; body = w; sig = c.args.part.now.sig }))
    (sym c.in-Mark.is)
    (c.take-in-Mark.ensures.mark record { signer = c.args.part.now.signer; body = c.in-Mark.mark; sig = c.args.part.now.sig }
    refl refl g facts is)

pub returns-in_default : goal.returns-in_default
returns-in_default c g facts is = come_alike g c.args.furthest.now facts (tells g c.args.part.now)
    (tells_nobody g c.args.part.now.signer c.args.part.now.body c.args.part.now.sig c.in_default.not-Commit
    c.in_default.not-Mark) is
