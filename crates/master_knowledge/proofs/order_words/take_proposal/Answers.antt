-- The rows made of the summaries are those of the rules, and they have a text because each summary fits.
use Rattle.std.proofs.Common.{ℕ, List, [], ◌∷◌, refl, ◌∙◌, ap, subst}
use Rattle.std.proofs.lemmas.Result.{on_ok_weaker}
use Rattle.message_types.specs.Spelling.{rows_fit}
use Rattle.quorum_sets.proofs.Numbered.{masters_few}
use Rattle.protocol_rules.specs.declared.facts.OrderFact.TheVariants as fact
use Rattle.protocol_rules.specs.Group.{group_of}
use Rattle.protocol_rules.specs.Matrix.{rows_of_frames}
use Rattle.protocol_rules.proofs.SummaryRows.{rows_of_frames_fit}
use Rattle.global_order.specs.OrderState.{Learns}
use Rattle.master_knowledge.proofs.order_words.take_proposal.Goals as goal

pub take_preprepare-requires : goal.take_preprepare-requires
take_preprepare-requires c =
    ap rows_fit (c.in_ok-rows.ensures (group_of c.args.sizes.now 0) refl
    ∙ ap (rows_of_frames (group_of c.args.sizes.now 0)) c.as_slice.ensures)
    ∙ rows_of_frames_fit (group_of c.args.sizes.now 0) c.args.proposal.now.frames
    (masters_few c.args.sizes.now) c.requires

pub returns : goal.returns
returns c = on_ok_weaker c.take_preprepare.result (λ took g masters.
    subst (λ (rows : List (List ℕ)). Learns c.args.order.now c.take_preprepare.new.self
    (fact.Proposal c.args.proposal.now.v c.args.proposal.now.s rows ∷ []))
    (c.in_ok-rows.ensures g masters ∙ ap (rows_of_frames g) c.as_slice.ensures) took) c.take_preprepare.ensures.taken
