-- The marks so far are the first ones of the masters below, by rising master; a master that made none adds
-- none.
use Rattle.std.proofs.Common.{◌≡◌, ◌++◌, sym, ◌∙◌, ap, arith}
use Rattle.std.specs.List.{filter_map}
use Rattle.std.specs.Option.{option_to_list}
use Rattle.quorum_sets.specs.Masters.{numbers_below}
use Rattle.protocol_rules.specs.Words.{first_of_list}
use Rattle.intruder_words.specs.Marking.{mark_of}
use Rattle.quorum_sets.proofs.Numbered.{filter_map_more, filter_map_start}
use Rattle.intruder_words.proofs.marks.first_marks.Goals as goal

pub loop-master-init : goal.loop-master-init
loop-master-init c = c.new-marks.ensures.items
    ∙ sym (filter_map_start (λ m. first_of_list (filter_map (mark_of c.args.s m) c.args.known.now)))

pub loop-master-preserved : goal.loop-master-preserved
loop-master-preserved c =
    c.in_ok-extend_option.ensures.ok
    ∙ ap (λ o. c.loop-master.marks.items ++ option_to_list o) c.in_ok-mark.ensures
    ∙ ap (λ xs. xs ++ option_to_list
    (first_of_list (filter_map (mark_of c.args.s c.loop-master.master) c.args.known.now))) c.loop-master.invariant
    ∙ sym (filter_map_more (λ m. first_of_list (filter_map (mark_of c.args.s m) c.args.known.now)) c.loop-master.master)

pub returns : goal.returns
returns c =
    let ended : c.loop-master.master ≡ c.args.sizes.now.n = omega arith in
    c.loop-master.invariant ∙ ap
    (λ n. filter_map (λ m. first_of_list (filter_map (mark_of c.args.s m) c.args.known.now)) (numbers_below n))
    ended
