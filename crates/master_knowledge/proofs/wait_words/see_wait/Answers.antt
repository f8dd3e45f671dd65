-- Under the rules that stay alive the wait is told of the event; under those first specified nothing is claimed of it.
use Rattle.std.proofs.Common.{true≢false, refl, sym, ◌∙◌}
use Rattle.std.proofs.lemmas.Result.{on_ok_weaker}
use Rattle.protocol_rules.specs.Group.{Group}
use Rattle.quorum_sets.specs.declared.sizes.Rules.{Rules}
use Rattle.master_knowledge.proofs.wait_words.see_wait.Goals as goal

-- some group that goes by these rules
abbrev by_these : Rules → Group
by_these rules = record { n = 0; f = 0; k = 0; q = 0; clients = 0; rules = rules }

pub see-requires : goal.see-requires
see-requires c tick = c.requires (by_these c.args.rules) refl
    (sym (c.are_live.ensures (by_these c.args.rules) refl) ∙ c.if-are_live.true) tick

pub returns-then-are_live : goal.returns-then-are_live
returns-then-are_live c = on_ok_weaker c.see.result (λ told g same live. told) c.see.ensures.told

pub returns : goal.returns
returns c g same live =
    absurd (true≢false (sym live ∙ sym (c.are_live.ensures g same) ∙ c.if-are_live.false))
