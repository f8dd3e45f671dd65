-- The counts are those of the updates kept, which are all that the definition executes: all requests before the run's
-- place are done, and the one at it isn't certified.
use Rattle.std.proofs.Common.{List, map, take, drop, sym, ◌∙◌, ap}
use Rattle.std.proofs.lemmas.List.{map-append, take-append-drop}
use Rattle.protocol_rules.specs.Execution.{Request, updates_of}
use Rattle.execution.specs.Ran.{Ran, request_of, certificate}
use Rattle.execution.proofs.Progressing.{executed-is}
use Rattle.execution.proofs.run.Run.counts.Goals as goal

pub returns : goal.returns
returns c g certified runs is = λ client below.
    let done : List Request = map request_of (take c.self.inside.at c.self.inside.requests.items) in
    let rest : List Request = map request_of (drop c.self.inside.at c.self.inside.requests.items) in
    c.self.invariant.done.counted client below
    ∙ ap (updates_of client) (executed-is g runs (certificate c.self.inside.certificates.entries) certified done rest
    c.self.inside.executed.items c.self.inside.counts c.self.invariant.done c.self.invariant.stopped
    (sym (map-append request_of (take c.self.inside.at c.self.inside.requests.items)
    (drop c.self.inside.at c.self.inside.requests.items))
    ∙ ap (map request_of) (take-append-drop c.self.inside.at c.self.inside.requests.items)
    ∙ ap (λ (m : Ran). m.requests) c.self.view_is ∙ is.requests)
    (λ r. ap (λ (m : Ran). certificate m.certificates r) c.self.view_is ∙ is.certificates r))
