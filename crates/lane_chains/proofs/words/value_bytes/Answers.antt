-- The bytes written so far are those of the words gone over, in order; each turn writes the next word's four.
use Rattle.std.proofs.Common.{rules, ◌≡◌, ◌∙◌, arith, sym}
use Rattle.std.proofs.lemmas.List.{take_all}
use Rattle.std.proofs.lemmas.Slice.{overwrites}
use Rattle.sha2.specs.Sha256.{digest_bytes}
use Rattle.sha2.proofs.Absorbing256.{digest_more}
use Rattle.lane_chains.proofs.words.value_bytes.Goals as goal

pub bytes-init : goal.bytes-init
unfolding digest_bytes
bytes-init c = search rules

pub bytes-preserved : goal.bytes-preserved
bytes-preserved c = (
  search (rules, overwrites),
  digest_more c.bytes.out c.args.words _ c.bytes.i _ c.bytes.invariant.1 (omega arith)
      (c.copy_from_slice.ensures.after ∙ c.to_be_bytes.ensures),
)

pub returns : goal.returns
returns c =
    let done : c.bytes.i ≡ 8 = omega arith in
    let words = rw done at c.bytes.invariant.1 in
    sym (take_all 32 c.bytes.out (omega arith)) ∙ words
