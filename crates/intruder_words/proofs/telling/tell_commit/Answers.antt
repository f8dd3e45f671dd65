-- A commit that the question goes by is told as it is; one that it does not go by tells nothing.
use Rattle.std.proofs.Common.{ap, sym, ◌∙◌}
use Rattle.protocol_rules.specs.declared.facts.OrderFact.TheVariants as fact
use Rattle.intruder_words.proofs.Alike.{asked-commit, unasked-commit}
use Rattle.intruder_words.proofs.Heard.{none-told, vote-told}
use Rattle.intruder_words.proofs.telling.tell_commit.Goals as goal

pub returns : goal.returns
returns c = vote-told c.args.question.now c.args.order.now _
    (fact.Commit record { signer = c.args.signer; body = c.args.commit.now; sig = c.in_ok-copy.field-0 })
    (fact.Commit record { signer = c.args.signer; body = c.args.commit.now; sig = c.args.sig.now })
    c.in_ok-take_commit.ensures.taken
    (ap (λ sig. fact.Commit record { signer = c.args.signer; body = c.args.commit.now; sig = sig })
    c.in_ok-copy.ensures) (asked-commit c.args.question.now record {
      signer = c.args.signer;
      body =
          c.args.commit.now;
      sig = c.args.sig.now;
    })

pub returns-then-not-is_commit_asked : goal.returns-then-not-is_commit_asked
returns-then-not-is_commit_asked c =
    none-told c.args.question.now c.args.order.now _
    (unasked-commit c.args.question.now record {
      signer = c.args.signer;
      body = c.args.commit.now;
      sig =
          c.args.sig.now;
    } (sym c.is_commit_asked.ensures ∙ c.if-not-is_commit_asked.true))
