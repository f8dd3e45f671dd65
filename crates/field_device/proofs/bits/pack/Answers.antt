-- The bytes so far are the packed ones of as many eights of bits; at the last they are all, and 2000 bits make
-- at most 250 of them.
use Rattle.std.proofs.Common.{arith, ap, ◌∙◌, ◌≡◌, ◌++◌, ◌∷◌, [], length}
use Rattle.field_device.specs.Packing.{packed, byte_count}
use Rattle.field_device.proofs.PackingLaws.{bytes_so_far, length-bytes_so_far, packed_more}
use Rattle.field_device.proofs.bits.pack.Goals as goal

pub loop-k-preserved : goal.loop-k-preserved
loop-k-preserved c =
    c.in_ok-push.ensures.items
    ∙ ap (λ front. front ++ c.byte_number.result ∷ []) c.loop-k.invariant
    ∙ ap (λ byte. bytes_so_far c.args.bits.now c.loop-k.k ++ byte ∷ []) c.byte_number.ensures
    ∙ packed_more c.args.bits.now c.loop-k.k

pub returns-clause-bytes : goal.returns-clause-bytes
unfolding packed
returns-clause-bytes c =
    let all : c.loop-k.k ≡ byte_count (length c.args.bits.now) = omega arith in
    c.loop-k.invariant ∙ ap (bytes_so_far c.args.bits.now) all

pub returns-clause-few : goal.returns-clause-few
returns-clause-few c =
    let size : length c.loop-k.bytes.items ≡ c.loop-k.k = ap length c.loop-k.invariant
    ∙ length-bytes_so_far c.args.bits.now c.loop-k.k in
    omega (arith, size, c.requires)
