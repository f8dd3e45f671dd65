-- A summary replaces its signer's latest where it tells more, and else it is passed over. In both cases each
-- place holds the one that tells most of the words known.
use Rattle.std.proofs.Common.{◌≡◌, ◌<◌, ◌≤◌, ℕ, true, false, Some, None, length, get_or, set, sym, ◌∙◌, ap, subst}
use Rattle.std.proofs.Common.{arith}
use Rattle.std.specs.List.{sum}
use Rattle.message_types.specs.declared.signed.Signed.{Signed}
use Rattle.message_types.specs.declared.preordering.PoSummary.{PoSummary}
use Rattle.summary_matrix.specs.Held.{Summaries, held, takes_over, row_of}
use Rattle.summary_matrix.proofs.Latest.{in_place-signer, in_place-sum, matrix-passed, matrix-taken, takes_over-read}
use Rattle.summary_matrix.proofs.Latest.{sums_small}
use Rattle.quorum_sets.proofs.Numbered.{masters_few}
use Rattle.summary_matrix.proofs.matrix.Matrix.take.Goals as goal

pub replaces-requires-clause-new : goal.replaces-requires-clause-new
replaces-requires-clause-new c =
    let n : c.self.inside.sizes.n ≡ c.args.self.now.group.n = ap (λ (m : Summaries). m.group.n) c.self.view_is in
    let few : c.self.inside.sizes.n ≤ 14 = masters_few c.self.inside.sizes in
    in_place-sum c.args.self.now.group c.args.frame.now c.requires (omega arith)

pub returns-then-not-replaces-clause-ok : goal.returns-then-not-replaces-clause-ok
returns-then-not-replaces-clause-ok c g known is =
    let n : c.self.inside.sizes.n ≡ c.args.self.now.group.n = ap (λ (m : Summaries). m.group.n) c.self.view_is in
    let few : c.self.inside.sizes.n ≤ 14 = masters_few c.self.inside.sizes in
    let below : c.args.frame.now.signer < c.args.self.now.group.n =
    in_place-signer c.args.self.now.group c.args.frame.now c.requires in
    let masters : c.args.self.now.group.n ≡ g.n = is.masters in
    let fails : takes_over c.args.frame.now (held c.args.self.now c.args.frame.now.signer) ≡ false =
    takes_over-read c.args.self.now c.self.inside.latest c.args.frame.now c.index-self-place.result
    (ap (λ (m : Summaries). m.latest) c.self.view_is) (omega arith)
    ∙ sym c.replaces.ensures ∙ c.if-not-replaces.true in
    matrix-passed g c.args.self.now known c.args.frame.now (omega arith) fails is

pub invariant_of-self : goal.invariant_of-self
invariant_of-self c =
    let n : c.self.inside.sizes.n ≡ c.args.self.now.group.n = ap (λ (m : Summaries). m.group.n) c.self.view_is in
    let few : c.self.inside.sizes.n ≤ 14 = masters_few c.self.inside.sizes in
    let below : c.args.frame.now.signer < c.args.self.now.group.n =
    in_place-signer c.args.self.now.group c.args.frame.now c.requires in
    let small = in_place-sum c.args.self.now.group c.args.frame.now c.requires (omega arith) in (
      subst (λ (f : Signed PoSummary). (j : ℕ) →
          sum (row_of (get_or (set c.self.inside.latest c.args.frame.now.signer (Some f)) j None)) ≤ 57344)
          (sym c.in_ok-copy.ensures)
          (sums_small c.self.inside.latest c.args.frame.now.signer c.args.frame.now (omega arith) small c.self.invariant.0),
      c.reach_of-self-inside.ensures,
      c.reach_of-self-inside-2.ensures,
    )

pub returns-clause-ok : goal.returns-clause-ok
returns-clause-ok c g known is =
    let n : c.self.inside.sizes.n ≡ c.args.self.now.group.n = ap (λ (m : Summaries). m.group.n) c.self.view_is in
    let few : c.self.inside.sizes.n ≤ 14 = masters_few c.self.inside.sizes in
    let below : c.args.frame.now.signer < c.args.self.now.group.n =
    in_place-signer c.args.self.now.group c.args.frame.now c.requires in
    let masters : c.args.self.now.group.n ≡ g.n = is.masters in
    let latest : c.self.inside.latest ≡ c.args.self.now.latest = ap (λ (m : Summaries). m.latest) c.self.view_is in
    let many : length c.self.inside.latest ≡ length c.args.self.now.latest = ap length latest in
    let takes : takes_over c.args.frame.now (held c.args.self.now c.args.frame.now.signer) ≡ true =
    takes_over-read c.args.self.now c.self.inside.latest c.args.frame.now c.index-self-place.result latest (omega arith)
    ∙ sym c.replaces.ensures ∙ c.if-not-replaces.false in
    matrix-taken g c.args.self.now _ known c.args.frame.now (omega arith) (omega arith) takes
    (ap (λ (m : Summaries). m.group) c.self.view_is)
    (ap (λ xs. set xs c.args.frame.now.signer (Some c.in_ok-copy.copy)) latest
    ∙ ap (λ f. set c.args.self.now.latest c.args.frame.now.signer (Some f)) c.in_ok-copy.ensures) is
