-- A preprepare tells the rows of its summaries: the order takes these rows alone in place of the proposal, as
-- the question goes by votes and by rows.
use Rattle.std.proofs.Common.{ℕ, List, ◌∷◌, [], refl, ◌∙◌, ap, subst}
use Rattle.message_types.specs.Spelling.{rows_fit}
use Rattle.quorum_sets.proofs.Numbered.{masters_few}
use Rattle.protocol_rules.specs.declared.facts.OrderFact.TheVariants as fact
use Rattle.protocol_rules.specs.Group.{group_of}
use Rattle.protocol_rules.specs.Matrix.{rows_of_frames}
use Rattle.global_order.specs.OrderState.{Learns}
use Rattle.intruder_words.proofs.Alike.{told-proposal}
use Rattle.intruder_words.proofs.Fits.{proposal-fits}
use Rattle.intruder_words.proofs.telling.tell_proposal.Goals as goal

pub take_rows-requires : goal.take_rows-requires
take_rows-requires c =
    ap rows_fit (c.in_ok-rows.ensures (group_of c.args.sizes.now 0) refl
    ∙ ap (rows_of_frames (group_of c.args.sizes.now 0)) c.as_slice.ensures)
    ∙ proposal-fits (group_of c.args.sizes.now 0) c.args.proposal.now.frames (masters_few c.args.sizes.now) c.requires

pub returns : goal.returns
returns c = λ question. (
  fact.Rows (rows_of_frames (group_of c.args.sizes.now 0) c.args.proposal.now.frames) ∷ [],
  subst (λ (rows : List (List ℕ)). Learns c.args.order.now c.take_rows.new.self (fact.Rows rows ∷ []))
      (c.in_ok-rows.ensures (group_of c.args.sizes.now 0) refl ∙ ap (rows_of_frames (group_of c.args.sizes.now 0))
      c.as_slice.ensures) c.in_ok-take_rows.ensures.taken,
  told-proposal question c.args.proposal.now.v c.args.proposal.now.s
      (rows_of_frames (group_of c.args.sizes.now 0) c.args.proposal.now.frames),
)
