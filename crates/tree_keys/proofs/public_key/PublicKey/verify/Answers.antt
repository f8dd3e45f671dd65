-- A signature without its parts is none; else it is one just where they lead to the root.
use Rattle.tree_keys.proofs.public_key.PublicKey.verify.Goals as goal

pub returns-in-None : goal.returns-in-None
returns-in-None c = ((λ no. cc), (λ signed. absurd (c.in-None.ensures c.args.message.now signed)))

pub returns-in-Some : goal.returns-in-Some
returns-in-Some c =
    let leads = c.in-Some.ensures.leads c.args.message.now in (
      (λ yes. leads.1 (c.leads_to_root.ensures.0 yes)),
      (λ signed. c.leads_to_root.ensures.1 (leads.0 signed)),
    )
