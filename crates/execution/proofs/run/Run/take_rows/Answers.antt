-- The requests newly eligible go behind those before, and the reach rises as the definition's does. Room for
-- all updates is there before anything changes, so that want of memory leaves the run as it was.
use Rattle.std.proofs.Common.{◌≡◌, ◌≤◌, ◌<◌, ◌+◌, ◌-◌, ◌++◌, ◌∷◌, ℕ, List, [], Option, map, length, get_or, refl, sym}
use Rattle.std.proofs.Common.{◌∙◌, ap, subst, arith, length-append, rules}
use Rattle.std.proofs.lemmas.List.{map-append}
use Rattle.protocol_rules.specs.Group.{Group, group_of, most_number}
use Rattle.protocol_rules.specs.Matrix.{eligible, reach}
use Rattle.protocol_rules.specs.Execution.{Request, eligible_requests, newly_eligible}
use Rattle.summary_matrix.specs.Held.{TellsEach}
use Rattle.protocol_rules.proofs.LimitValues.{most_number-is}
use Rattle.execution.specs.Ran.{Ran, request_of, certificate}
use Rattle.execution.specs.Progress.{requests_from}
use Rattle.execution.proofs.EligibleRequests.{newly-is, requests-push, reached-push}
use Rattle.quorum_sets.proofs.Numbered.{masters_few}
use Rattle.execution.proofs.run.Run.take_rows.Goals as goal

pub overflow_add-self : goal.overflow_add-self
overflow_add-self c =
    let same : c.self.inside.numbers ≡ c.args.self.now.numbers = ap (λ (m : Ran). m.numbers) c.self.view_is in
    let below : c.args.self.now.numbers < most_number = c.requires.number in
    let limit : most_number ≡ 4096 = most_number-is in
    let small : c.self.inside.numbers + 1 < 18446744073709551616 = omega arith in
    search rules

pub returns-clause-ok : goal.returns-clause-ok
returns-clause-ok c g certified runs is =
    let group : group_of c.self.inside.sizes c.self.inside.clients ≡ g =
    ap (λ (m : Ran). m.group) c.self.view_is ∙ is.group in
    let masters : c.self.inside.sizes.n ≡ g.n = ap (λ (h : Group). h.n) group in
    let few : c.self.inside.sizes.n ≤ 14 = masters_few c.self.inside.sizes in
    let before : TellsEach c.self.inside.reach.numbers (reach g runs) =
    λ j lt. ap (λ (m : Ran). get_or m.reach j 0) c.self.view_is ∙ is.reached j lt in
    let here : TellsEach c.eligible-now.result.numbers (eligible g c.args.rows.now) =
    subst (λ (h : Group). TellsEach c.eligible-now.result.numbers (eligible h c.args.rows.now)) group
    (c.eligible-now.ensures c.self.inside.clients) in
    let numbers : c.self.inside.numbers ≡ length runs = ap (λ (m : Ran). m.numbers) c.self.view_is ∙ is.numbers in
    let old : map request_of c.self.inside.requests.items ≡ eligible_requests g [] runs =
    ap (λ (m : Ran). m.requests) c.self.view_is ∙ is.requests in
    let fresh : map request_of c.deref.result.now ≡ newly_eligible g runs c.args.rows.now =
    ap (map request_of) c.deref.ensures.value ∙ c.in_ok-fresh.ensures
    ∙ ap (λ n. requests_from n c.self.inside.reach.numbers c.eligible-now.result.numbers) masters
    ∙ newly-is g runs c.args.rows.now c.self.inside.reach.numbers c.eligible-now.result.numbers
    (omega arith) before here in
    let longer : length (runs ++ c.args.rows.now ∷ []) ≡ length runs + 1 = length-append runs (c.args.rows.now ∷ []) in
    record {
      group = group;
      numbers = omega arith;
      reached = reached-push g runs c.args.rows.now c.self.inside.reach.numbers c.eligible-now.result.numbers
          c.raise.new.self.numbers before here c.raise.ensures;
      requests = ap (map request_of) c.in_ok-extend_from_slice.ensures.items
          ∙ map-append request_of c.self.inside.requests.items c.deref.result.now
          ∙ ap (λ rs. rs ++ map request_of c.deref.result.now) old ∙ ap (λ rs. eligible_requests g [] runs ++ rs)
          fresh ∙ sym (requests-push g runs c.args.rows.now);
      certificates = λ r. ap (λ (m : Ran). certificate m.certificates r) c.self.view_is ∙ is.certificates r;
    }
