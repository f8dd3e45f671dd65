-- At a beat those of all masters are added, else none.
use Rattle.std.proofs.Common.{◌++◌, ◌+◌, [], cond, ◌∙◌, ap, sym}
use Rattle.std.specs.List.{find, flat_map}
use Rattle.std.specs.Option.{option_to_list}
use Rattle.std.proofs.lemmas.Result.{on_ok_weaker}
use Rattle.quorum_sets.specs.Masters.{numbers_below}
use Rattle.protocol_rules.specs.Preorder.{acks, vector}
use Rattle.preorder.proofs.again.push_acks_again.Goals as goal

pub returns-then-is_beat : goal.returns-then-is_beat
returns-then-is_beat c = λ g known said has told reached. on_ok_weaker c.push_each_again.result (λ added.
    added ∙ ap (λ b. c.args.bodies.now.items
    ++ cond b (flat_map (λ j. option_to_list (find (acks j (vector g known j + 1)) said))
    (numbers_below c.args.masters)) []) (sym c.if-is_beat.true))
    (c.push_each_again.ensures g known said has told reached)
