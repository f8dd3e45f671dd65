-- Place, count and path are read where the definition reads them: so the root that the path leads to is the
-- definition's, and so is the message that the signature is tried on.
use Rattle.std.proofs.Common.{◌≡◌, ◌*◌, ◌∙◌, sym, ap, take, drop, Some}
use Rattle.byteorder.specs.Endian.{big_number}
use Rattle.checked_frames.specs.Groups.{leaf_hash, led_to, most_levels}
use Rattle.checked_frames.proofs.SigningLaws.{group_verifies-is}
use Rattle.checked_frames.proofs.signing.group_verifies.Goals as goal

pub returns-in-Some : goal.returns-in-Some
unfolding most_levels
returns-in-Some g c =
    let hashes = c.number_at-hashes.result in
    let behind = c.split_at.ensures.back in
    let leads : led_to 5 c.number_at-count.result c.number_at-place.result (leaf_hash c.args.text.now)
    c.split_at-2.result.0.now ≡ Some c.in-Some.root =
    cc (c.led_to.ensures, c.in-Some.is, c.from.ensures, c.from-2.ensures, c.leaf_hash.ensures) in
    group_verifies-is c.args.public.now c.args.text.now c.args.sig.now c.number_at-place.result
    c.number_at-count.result hashes
    c.split_at-2.result.0.now c.split_at-2.result.1.now c.in-Some.root c.batch_text.result c.hss_verifies.result
    (sym c.number_at-place.ensures) (sym c.number_at-count.ensures) (sym c.number_at-hashes.ensures)
    (sym (c.split_at-2.ensures.front ∙ ap (take (32 * hashes)) behind))
    (sym (c.split_at-2.ensures.back ∙ ap (drop (32 * hashes)) behind)) leads
    c.batch_text.ensures c.hss_verifies.ensures
