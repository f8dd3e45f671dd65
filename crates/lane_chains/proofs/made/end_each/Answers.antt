use Rattle.std.proofs.Common.{◌∙◌, ◌-◌, ◌≡◌, ap, arith, slice_index}
use Rattle.sha2.specs.Sha256.{digest_bytes}
use Rattle.lane_chains.specs.Chains.{chain}
use Rattle.lane_chains.proofs.made.end_each.Goals as goal

pub returns : goal.returns
returns c = λ j lt.
    let id = digest_bytes c.args.id.now 4 in
    let q = slice_index c.args.q j in
    let all : c.args.top - 0 ≡ c.args.top = omega arith in
    rw all at (c.run_each.ensures j lt) ∙ ap (chain id q c.args.i 0 c.args.top) (c.run_each-start.ensures j lt)
