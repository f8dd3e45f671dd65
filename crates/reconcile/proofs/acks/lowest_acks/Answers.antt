-- The acknowledgements so far are those of the masters below, by rising master; all of them, cut to a quorum,
-- are the lowest masters'.
use Rattle.std.proofs.Common.{◌≡◌, ◌++◌, sym, ◌∙◌, ap, arith, take}
use Rattle.std.specs.List.{filter_map}
use Rattle.std.specs.Option.{option_to_list}
use Rattle.quorum_sets.specs.Masters.{numbers_below}
use Rattle.reconcile.specs.GiftState.{ack_among}
use Rattle.quorum_sets.proofs.Numbered.{filter_map_more, filter_map_start}
use Rattle.reconcile.proofs.acks.lowest_acks.Goals as goal

pub loop-master-init : goal.loop-master-init
loop-master-init c = c.new-frames.ensures.items
    ∙ sym (filter_map_start (ack_among c.args.acks.now.entries c.args.j c.args.k c.args.digest))

pub loop-master-preserved : goal.loop-master-preserved
loop-master-preserved c =
    c.in_ok-push_ack.ensures
    ∙ ap (λ xs. xs ++ option_to_list
    (ack_among c.args.acks.now.entries c.args.j c.args.k c.args.digest c.loop-master.master))
    c.loop-master.invariant
    ∙ sym (filter_map_more (ack_among c.args.acks.now.entries c.args.j c.args.k c.args.digest) c.loop-master.master)

pub returns : goal.returns
returns c =
    let ended : c.loop-master.master ≡ c.args.sizes.now.n = omega arith in
    c.from_vec.ensures ∙ c.truncate.ensures.items
    ∙ ap (take c.args.sizes.now.q)
    (c.loop-master.invariant ∙ ap
    (λ n. filter_map (ack_among c.args.acks.now.entries c.args.j c.args.k c.args.digest) (numbers_below n)) ended)
