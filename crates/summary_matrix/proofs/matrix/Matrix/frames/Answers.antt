-- Each turn adds the next master's latest summary if it has one, so the frames are those of all masters in
-- order with the missing ones left out.
use Rattle.std.proofs.Common.{◌≡◌, ◌≤◌, ◌++◌, None, get_or, sym, ◌∙◌, ap, arith}
use Rattle.std.specs.Option.{option_to_list}
use Rattle.std.proofs.lemmas.List.{get_or_default}
use Rattle.summary_matrix.specs.Held.{frames_at}
use Rattle.quorum_sets.proofs.Numbered.{masters_few, filter_map_start, filter_map_more}
use Rattle.summary_matrix.proofs.matrix.Matrix.frames.Goals as goal

pub loop-master-init : goal.loop-master-init
loop-master-init c = c.new-frames.ensures ∙ sym (filter_map_start (λ j. get_or c.self.inside.latest j None))

pub loop-master-preserved : goal.loop-master-preserved
loop-master-preserved c =
    let few : c.self.inside.sizes.n ≤ 14 = masters_few c.self.inside.sizes in
    let there : get_or c.self.inside.latest c.loop-master.master c.index-self-master.result ≡ get_or
    c.self.inside.latest c.loop-master.master None =
    get_or_default c.self.inside.latest c.loop-master.master c.index-self-master.result None (omega arith) in
    c.in_ok-push_copy.ensures
    ∙ ap (λ frames. frames ++ option_to_list
    (get_or c.self.inside.latest c.loop-master.master c.index-self-master.result)) c.loop-master.invariant
    ∙ ap (λ held. frames_at c.loop-master.master c.self.inside.latest ++ option_to_list held) there
    ∙ sym (filter_map_more (λ j. get_or c.self.inside.latest j None) c.loop-master.master)
