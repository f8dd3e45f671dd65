-- Master by master, what is lacking of each.
use Rattle.std.proofs.Common.{◌≡◌, ℕ, get_or, ◌∙◌, ap, arith}
use Rattle.std.specs.List.{flat_map}
use Rattle.quorum_sets.specs.Masters.{numbers_below}
use Rattle.protocol_rules.specs.Group.{Group}
use Rattle.reconcile.specs.Lacked.{lacking_of}
use Rattle.reconcile.proofs.Gathered.{pushed_master, no_master}
use Rattle.reconcile.proofs.lacking.requests_lacking.Goals as goal

pub loop-j-init : goal.loop-j-init
loop-j-init c g me taken known said is to told = c.new-lacking.ensures.items ∙ no_master g known to

pub loop-j-preserved : goal.loop-j-preserved
loop-j-preserved c g me taken known said is to told =
    let n : c.args.preorder.now.group.n ≡ g.n = ap (λ (h : Group). h.n) is.group in
    let own : c.args.sizes.now.n ≡ c.args.preorder.now.group.n = c.requires in
    pushed_master g known to c.loop-j.j c.loop-j.lacking.items c.push_lacking.new.lacking.items
    (lacking_of g known (λ i. get_or c.args.wanted_to.now c.loop-j.j 0) c.loop-j.j)
    (c.loop-j.invariant g me taken known said is to told)
    (ap (λ (w : ℕ). lacking_of g known (λ i. w) c.loop-j.j) (told c.loop-j.j (omega arith)))
    (c.in_ok-push_lacking.ensures g me taken known said is)

pub returns : goal.returns
returns c g me taken known said is to told =
    let n : c.args.preorder.now.group.n ≡ g.n = ap (λ (h : Group). h.n) is.group in
    let own : c.args.sizes.now.n ≡ c.args.preorder.now.group.n = c.requires in
    let ended : c.loop-j.j ≡ g.n = omega arith in
    c.loop-j.invariant g me taken known said is to told
    ∙ ap (λ (m : ℕ). flat_map (lacking_of g known to) (numbers_below m)) ended
