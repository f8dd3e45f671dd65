-- In turn stand the digits of the three hashes and the values of the three signatures. Each key ends where its own
-- chains do, as they would alone.
use Rattle.std.proofs.Common.{◌≡◌, ◌<◌, ◌≤◌, ◌-◌, ◌*◌, ◌%◌, ◌/◌, ◌∙◌, ℕ, List, ap, arith, drop, length, refl, slice_index, take}
use Rattle.std.specs.Prelude.{replicate}
use Rattle.std.proofs.lemmas.List.{length-drop, take_all}
use Rattle.lane_chains.specs.Three.{of_three}
use Rattle.ots_keys.specs.Parameters.{chains, top_digit}
use Rattle.ots_keys.specs.Digits.{digit}
use Rattle.ots_keys.specs.Keys.{candidate}
use Rattle.ots_keys.proofs.Widths.{top_is}
use Rattle.ots_keys.proofs.StepLaws.{chains_are, same_at}
use Rattle.ots_keys.proofs.TogetherLaws.{below_three, each_of_three, steps_to, together_is}
use Rattle.ots_keys.proofs.together.keys_together.Goals as goal

pub three_keys-requires-clause-steps : goal.three_keys-requires-clause-steps
three_keys-requires-clause-steps c =
    let ots = c.args.ots in
    let some = (chains_are ots).0 in
    let top_fits = top_is ots in
    let top = c.from-top.result in
    let top_same : top ≡ top_digit ots = omega arith in
    let count : c.chains-count.result ≡ chains ots = c.chains-count.ensures in
    let x = c.digits_of-x.result in
    let y = c.digits_of-y.result in
    let z = c.digits_of-z.result in
    let from = c.digits_in_turn-from.result in
    let all = 3 * c.from-all.result in
    let size : all ≡ 3 * chains ots = omega (arith, c.from-all.ensures, count) in
    let few = c.requires.few in
    let below : (i k : ℕ) → i < chains ots → slice_index (of_three x y z k) i ≤ top_digit ots =
    λ i k lt. each_of_three (λ (t : List ℕ). slice_index t i ≤ top_digit ots) x y z (c.digits_of-x.ensures.top i lt)
    (c.digits_of-y.ensures.top i lt) (c.digits_of-z.ensures.top i lt) k in
    let len : length from ≡ 265 = omega arith in
    steps_to all from (replicate 265 top) (omega arith) (omega arith) len refl
    (λ n lt.
    let digit_top = below (n / 3) (n % 3) (omega arith) in
    let same = c.digits_in_turn-from.ensures n (omega arith) in
    rw (same_at top n (omega arith)) (omega (arith, digit_top, same)))
    (λ n lt. rw (same_at top n (omega arith)) (omega arith))

pub returns : goal.returns
unfolding candidate
returns c =
    let ots = c.args.ots in
    let a = c.args.a.now in
    let b = c.args.b.now in
    let d = c.args.c.now in
    let top_fits = top_is ots in
    let top = c.from-top.result in
    let top_same : top ≡ top_digit ots = omega arith in
    let count = c.chains-count.result in
    let all = 3 * c.from-all.result in
    let size : all ≡ 3 * count = omega (arith, c.from-all.ensures) in
    let few : 3 * count ≤ 265 = omega (arith, c.requires.few, c.chains-count.ensures) in
    let x = c.digits_of-x.result in
    let y = c.digits_of-y.result in
    let z = c.digits_of-z.result in
    let u = take (length a.sig.now - 36) (drop 36 a.sig.now) in
    let v = take (length b.sig.now - 36) (drop 36 b.sig.now) in
    let w = take (length d.sig.now - 36) (drop 36 d.sig.now) in
    let rest_a : u ≡ drop 36 a.sig.now =
    take_all (length a.sig.now - 36) (drop 36 a.sig.now) (omega (arith, length-drop 36 a.sig.now)) in
    let rest_b : v ≡ drop 36 b.sig.now =
    take_all (length b.sig.now - 36) (drop 36 b.sig.now) (omega (arith, length-drop 36 b.sig.now)) in
    let rest_d : w ≡ drop 36 d.sig.now =
    take_all (length d.sig.now - 36) (drop 36 d.sig.now) (omega (arith, length-drop 36 d.sig.now)) in
    let from = c.digits_in_turn-from.result in
    let to = replicate 265 top in
    let starts = c.values_in_turn-starts.result in
    let e_from : (n : ℕ) → n < all → slice_index from n ≡ slice_index (of_three x y z (n % 3)) (n / 3) =
    λ n lt. c.digits_in_turn-from.ensures n (omega arith) in
    let e_to : (n : ℕ) → n < all → slice_index to n ≡ top = λ n lt. same_at top n (omega arith) in
    let inside : (i : ℕ) → i < count → i < chains ots = λ i lt. omega (arith, c.chains-count.ensures) in
    below_three _
    (c.three_keys.ensures 0 (omega arith)
    ∙ together_is ots a.key b.key d.key x y z u v w from to starts _ a.sig.now 0 all count top (omega arith) size
    c.chains-count.ensures top_same e_from e_to (λ n lt. c.values_in_turn-starts.ensures n (omega arith))
    (λ i lt. c.digits_of-x.ensures.value i (inside i lt) ∙ ap (λ (h : List ℕ). digit ots h i) c.signed_hash.ensures) rest_a)
    (c.three_keys.ensures 1 (omega arith)
    ∙ together_is ots a.key b.key d.key x y z u v w from to starts _ b.sig.now 1 all count top (omega arith) size
    c.chains-count.ensures top_same e_from e_to (λ n lt. c.values_in_turn-starts.ensures n (omega arith))
    (λ i lt. c.digits_of-y.ensures.value i (inside i lt) ∙ ap (λ (h : List ℕ). digit ots h i) c.signed_hash-2.ensures) rest_b)
    (c.three_keys.ensures 2 (omega arith)
    ∙ together_is ots a.key b.key d.key x y z u v w from to starts _ d.sig.now 2 all count top (omega arith) size
    c.chains-count.ensures top_same e_from e_to (λ n lt. c.values_in_turn-starts.ensures n (omega arith))
    (λ i lt. c.digits_of-z.ensures.value i (inside i lt) ∙ ap (λ (h : List ℕ). digit ots h i) c.signed_hash-3.ensures) rest_d)
