-- The requests so far are those newly eligible of the masters below; each turn adds the next master's, which
-- lie between what was reached and what is reached now.
use Rattle.std.proofs.Common.{◌≡◌, ◌++◌, ℕ, [], get_or, map, sym, ◌∙◌, ap}
use Rattle.protocol_rules.specs.Execution.{requests_between}
use Rattle.execution.specs.Ran.{request_of}
use Rattle.execution.proofs.EligibleRequests.{flat_map_start, flat_map_more}
use Rattle.execution.proofs.requests.newly_eligible.Goals as goal

pub loop-master-init : goal.loop-master-init
loop-master-init c = ap (map request_of) c.new-fresh.ensures.items
    ∙ sym (flat_map_start (λ j. requests_between j (get_or c.args.reached.now.numbers j 0)
    (get_or c.args.now.now.numbers j 0)))

pub loop-master-preserved : goal.loop-master-preserved
loop-master-preserved c =
    c.in_ok-push_requests.ensures
    ∙ ap (λ xs. xs ++ requests_between c.loop-master.master (get_or c.args.reached.now.numbers c.loop-master.master 0)
    (get_or c.args.now.now.numbers c.loop-master.master 0)) c.loop-master.invariant
    ∙ sym (flat_map_more (λ j. requests_between j (get_or c.args.reached.now.numbers j 0)
    (get_or c.args.now.now.numbers j 0)) c.loop-master.master)
