-- The requests lacking up to where the master wants them are, as things wanted, those that the rules name; and however far
-- it wants them, they are requests.
use Rattle.std.proofs.Common.{ℕ, get_or, refl, sym, ◌∙◌, ap}
use Rattle.std.specs.List.{list_all, flat_map}
use Rattle.std.proofs.lemmas.Result.{IfOk-weaker}
use Rattle.quorum_sets.specs.Masters.{numbers_below}
use Rattle.protocol_rules.specs.Group.{Group}
use Rattle.protocol_rules.specs.Facts.{facts_of}
use Rattle.protocol_rules.specs.Lacking.{requests_wanted_to}
use Rattle.master_answers.specs.Asked.{is_request}
use Rattle.master_answers.proofs.Lacked.{uncertified, of_masters, all_requests}
use Rattle.master_answers.proofs.lacking_words.lacking_requests.Goals as goal

pub requests_lacking-requires : goal.requests_lacking-requires
requests_lacking-requires c = c.requires.knows.masters ∙ sym (ap (λ (h : Group). h.n) c.requires.knows.preorder.group)

pub returns-clause-requests : goal.returns-clause-requests
returns-clause-requests c = IfOk-weaker c.requests_lacking.result _ _
    (λ list told.
    let k = c.requires in
    let to : ℕ → ℕ = λ j. get_or c.requests_wanted-reach.result.numbers j 0 in
    ap (list_all is_request) (told k.group k.own k.taken k.known k.said k.knows.preorder to (λ j lt. refl)
    ∙ of_masters k.group k.known to (numbers_below k.group.n))
    ∙ all_requests (flat_map (uncertified k.group k.known to) (numbers_below k.group.n))) c.requests_lacking.ensures

pub returns-clause-lacking : goal.returns-clause-lacking
returns-clause-lacking c = IfOk-weaker c.requests_lacking.result _ _
    (λ list told g me taken known past said k caught at.
    let to : ℕ → ℕ = requests_wanted_to g (facts_of g known) past.moments c.args.now in
    told g me taken known said k.preorder to (c.requests_wanted-reach.ensures g me taken known past said k caught at)
    ∙ of_masters g known to (numbers_below g.n)) c.requests_lacking.ensures
