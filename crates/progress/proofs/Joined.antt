-- Pre-ordering in rounds, put together: what a connected master requested is eligible at each of them four rounds later.
use Rattle.std.proofs.Common.{◌≡◌, ◌+◌, ◌*◌, ◌≤◌, List, ◌++◌, arith}
use Rattle.protocol_rules.specs.Group.{Group}
use Rattle.history_rules.specs.Events.{Entry}
use Rattle.history_rules.specs.Legal.{IsLegal}
use Rattle.agreement.specs.Laws.{HasSizes}
use Rattle.agreement.proofs.Places.{legal_before, unforged_before}
use Rattle.progress.specs.Laws.{EligibleInFourRounds}
use Rattle.progress.proofs.Certifying.{below_group}
use Rattle.progress.proofs.Reaching.{left_before, request_number, reached_in_two_rounds}
use Rattle.progress.proofs.Eligible.{eligible_in_two_rounds}

some_quorum : (g : Group) → HasSizes g → 1 ≤ g.q
some_quorum g sizes = let all : g.q ≡ 2 * g.f + g.k + 1 = sizes.quorum in omega arith

pub eligible_in_four_rounds : EligibleInFourRounds
eligible_in_four_rounds w connected beginning first second third fourth live legal sizes unforged are fair left j r is_j said =
    let two : List Entry = (beginning ++ first) ++ second in
    let three : List Entry = two ++ third in
    let legal_three : IsLegal w three = legal_before w three fourth legal in
    let legal_two : IsLegal w two = legal_before w two third legal_three in
    let legal_one : IsLegal w (beginning ++ first) = legal_before w (beginning ++ first) second legal_two in
    let number = request_number w beginning j r live (legal_before w beginning first legal_one) (are.correct j is_j) said in
    eligible_in_two_rounds w connected two third fourth live legal unforged are fair.1.1.0 fair.1.1.1.0 left
    (some_quorum w.group sizes) j r.k (below_group w j (are.correct j is_j)) number.0
    (λ m is_m. reached_in_two_rounds w connected beginning first second live legal_two
    (unforged_before w two third (unforged_before w three fourth unforged)) are fair.0 fair.1.0
    (λ i is_i. left_before w two third i (left_before w three fourth i (left i is_i))) j r is_j said m is_m)
