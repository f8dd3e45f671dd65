-- The requests left over begin with one that isn't certified: so that one is what the order waits for, and
-- where none is left it waits for nothing.
use Rattle.std.proofs.Common.{◌≡◌, ◌≤◌, ◌<◌, ◌++◌, ℕ, List, Option, Some, None, map, take, drop, length, sym, ◌∙◌, ap}
use Rattle.std.proofs.Common.{arith}
use Rattle.std.proofs.lemmas.List.{map-append, take-append-drop}
use Rattle.message_types.specs.declared.updates.Update.{Update}
use Rattle.protocol_rules.specs.Group.{Group}
use Rattle.protocol_rules.specs.Words.{first_of_list}
use Rattle.protocol_rules.specs.Execution.{Request, waiting_of}
use Rattle.execution.specs.Ran.{Ran, IsRunOf, request_of, certificate}
use Rattle.execution.specs.Ready.{IsReady, ran_of}
use Rattle.execution.specs.declared.run.Run.TheInside.{Inside}
use Rattle.execution.proofs.Progressing.{waiting-is, first-here, first-none}
use Rattle.execution.proofs.run.Run.waiting_for.Goals as goal

first_left : (a : Inside) (m : Ran) (g : Group) (certified : Request → Option Update) (runs : List (List (List ℕ))) →
    ran_of a ≡ m → IsReady a → IsRunOf g m certified runs →
    first_of_list (map request_of (drop a.at a.requests.items)) ≡ waiting_of g certified runs
first_left a m g certified runs view ready is =
    waiting-is g runs (certificate a.certificates.entries) certified (map request_of (take a.at a.requests.items))
    (map request_of (drop a.at a.requests.items)) a.executed.items a.counts ready.done ready.stopped
    (sym (map-append request_of (take a.at a.requests.items) (drop a.at a.requests.items))
    ∙ ap (map request_of) (take-append-drop a.at a.requests.items)
    ∙ ap (λ (m : Ran). m.requests) view ∙ is.requests)
    (λ r. ap (λ (m : Ran). certificate m.certificates r) view ∙ is.certificates r)

pub returns-then-self-len : goal.returns-then-self-len
returns-then-self-len c g certified runs is =
    first-here c.self.inside.requests.items c.self.inside.at c.index.result.now
    (omega (arith, c.len.ensures)) c.index.ensures
    ∙ first_left c.self.inside c.args.self.now g certified runs c.self.view_is c.self.invariant is

pub returns-else-self-len : goal.returns-else-self-len
returns-else-self-len c g certified runs is =
    first-none c.self.inside.requests.items c.self.inside.at (omega (arith, c.len.ensures))
    ∙ first_left c.self.inside c.args.self.now g certified runs c.self.view_is c.self.invariant is
