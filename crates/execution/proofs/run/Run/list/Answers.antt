-- All requests before the run's place are done and the one at it isn't certified: so the updates kept are all
-- that the definition executes.
use Rattle.std.proofs.Common.{◌≡◌, ◌++◌, ℕ, List, Option, map, take, drop, sym, ◌∙◌, ap}
use Rattle.std.proofs.lemmas.List.{map-append, take-append-drop}
use Rattle.message_types.specs.declared.updates.Update.{Update}
use Rattle.protocol_rules.specs.Execution.{Request}
use Rattle.execution.specs.Ran.{Ran, request_of, certificate}
use Rattle.execution.proofs.Progressing.{executed-is}
use Rattle.execution.proofs.run.Run.list.Goals as goal

pub returns : goal.returns
returns c g certified runs is =
    let done : List Request = map request_of (take c.self.inside.at c.self.inside.requests.items) in
    let rest : List Request = map request_of (drop c.self.inside.at c.self.inside.requests.items) in
    c.as_slice.ensures.value
    ∙ executed-is g runs (certificate c.self.inside.certificates.entries) certified done rest
    c.self.inside.executed.items c.self.inside.counts c.self.invariant.done c.self.invariant.stopped
    (sym (map-append request_of (take c.self.inside.at c.self.inside.requests.items)
    (drop c.self.inside.at c.self.inside.requests.items))
    ∙ ap (map request_of) (take-append-drop c.self.inside.at c.self.inside.requests.items)
    ∙ ap (λ (m : Ran). m.requests) c.self.view_is ∙ is.requests)
    (λ r. ap (λ (m : Ran). certificate m.certificates r) c.self.view_is ∙ is.certificates r)
