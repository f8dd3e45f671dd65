-- A preprepare that is spelled holds spelled summaries, so the rows made of them are spelled and have a digest.
use Rattle.std.proofs.Common.{◌≡◌, true, refl, ◌∙◌, ap, subst}
use Rattle.message_types.specs.declared.body.Body.{Body}
use Rattle.message_types.specs.Spelling.{body_fits, rows_fit}
use Rattle.quorum_sets.proofs.Numbered.{masters_few}
use Rattle.protocol_rules.specs.Group.{group_of}
use Rattle.protocol_rules.specs.Matrix.{rows_of_frames}
use Rattle.intruder_words.proofs.Fits.{proposal-fits}
use Rattle.intruder_words.proofs.digests.digest_in.Goals as goal

pub rows_digest-requires : goal.rows_digest-requires
rows_digest-requires c =
    ap rows_fit (c.in_ok-rows-in-PrePrepare.ensures (group_of c.args.sizes.now 0) refl
    ∙ ap (rows_of_frames (group_of c.args.sizes.now 0)) c.as_slice.ensures)
    ∙ proposal-fits (group_of c.args.sizes.now 0) c.in-PrePrepare.proposal.frames (masters_few c.args.sizes.now)
    (subst (λ (b : Body). body_fits b ≡ true) c.in-PrePrepare.is c.requires)
