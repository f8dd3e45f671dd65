-- Each element is where its chain stands after as many steps as the digit of the hash tells. Digits are at most
-- the top one, so the steps are allowed, and the ends are joined in order.
use Rattle.std.proofs.Common.{◌≡◌, ◌*◌, ◌∙◌, ◌++◌, ap, arith, length, refl, sym, take}
use Rattle.std.specs.Prelude.{replicate}
use Rattle.std.proofs.lemmas.List.{length-take-le}
use Rattle.lane_chains.specs.Chains.{end_of}
use Rattle.lane_chains.proofs.ChainsGrow.{joined-cong}
use Rattle.ots_keys.specs.Parameters.{chains}
use Rattle.ots_keys.specs.Keys.{signed_element}
use Rattle.ots_keys.proofs.Widths.{top_is}
use Rattle.ots_keys.proofs.StepLaws.{are_steps, chains_are, count_is, same_at, signed_is}
use Rattle.ots_keys.proofs.keys.put_elements.Goals as goal

pub run_chains-requires-clause-steps : goal.run_chains-requires-clause-steps
run_chains-requires-clause-steps c =
    let ots = c.args.ots in
    let few = (chains_are ots).1 in
    let top_fits = top_is ots in
    let digits = c.digits_of-to.result in
    let len : length digits ≡ 265 = omega arith in
    let count : c.from-count.result ≡ chains ots = omega arith in
    rw count (are_steps ots (replicate 265 0) digits refl len
    (λ i lt. rw (same_at 0 i (omega arith)) (omega arith))
    (λ i lt. let top = c.digits_of-to.ensures.top i lt in omega arith))

pub slice_bounds-ends-end : goal.slice_bounds-ends-end
slice_bounds-ends-end c =
    let few = (chains_are c.args.ots).1 in
    let count : c.from-count.result ≡ chains c.args.ots = omega arith in
    omega arith

pub slice_bounds-put_bytes-end : goal.slice_bounds-put_bytes-end
slice_bounds-put_bytes-end c =
    let few = (chains_are c.args.ots).1 in
    let count : c.from-count.result ≡ chains c.args.ots = omega arith in
    sym (length-take-le (32 * c.from-count.result) c.run_chains.new.ends (omega arith))

pub returns : goal.returns
returns c =
    let ots = c.args.ots in
    let id = c.args.id.now in
    let q = c.args.q in
    let seed = c.args.seed.now in
    let hash = c.args.hash.now in
    let n = chains ots in
    let few = (chains_are ots).1 in
    let digits = c.digits_of-to.result in
    let starts = c.secrets-starts.result in
    let count : c.from-count.result ≡ n = omega arith in
    let len = count_is n 0 few in
    let ends = end_of id q (take n (replicate 265 0)) (take n digits) starts in
    let whole = rw (count, len) at c.run_chains.ensures.joined in
    let put = rw count at c.in_ok-put_bytes.ensures.ok in
    put ∙ ap (λ x. c.args.sig.now.items ++ x) (whole ∙ joined-cong ends (signed_element ots id q seed hash) n (λ i lt.
    signed_is ots id q seed hash starts digits n i lt few (c.digits_of-to.ensures.value i lt)
    (c.secrets-starts.ensures i lt)))
