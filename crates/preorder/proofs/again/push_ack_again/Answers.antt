-- Where no first request is held, or none was acknowledged, no acknowledgement was said; else the one held is what was said.
use Rattle.std.proofs.Common.{◌++◌, Some, None, refl, sym, ◌∙◌, ap}
use Rattle.std.specs.Option.{option_to_list}
use Rattle.std.proofs.lemmas.List.{append-nil}
use Rattle.preorder.proofs.Repeats.{again-none}
use Rattle.preorder.proofs.again.push_ack_again.Goals as goal

pub returns-then-not-first : goal.returns-then-not-first
returns-then-not-first c = λ g known said has told.
    sym (ap (λ o. c.args.bodies.now.items ++ option_to_list o)
    (again-none g known said c.args.firsts.now.entries c.args.j c.args.k (Some c.in-Some.first.now)
    c.in-Some.ensures.value c.if-not-first.true has) ∙ append-nil _)

pub returns-in-None : goal.returns-in-None
returns-in-None c = λ g known said has told.
    sym (ap (λ o. c.args.bodies.now.items ++ option_to_list o)
    (again-none g known said c.args.firsts.now.entries c.args.j c.args.k None
    c.in-None.ensures.value refl has) ∙ append-nil _)
