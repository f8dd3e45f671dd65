-- Name by name, each behind a comma.
use Rattle.std.proofs.Common.{◌++◌, List, ℕ, sym, ◌∙◌, ap}
use Rattle.std.specs.Prelude.{string_bytes}
use Rattle.std.specs.List.{flat_map}
use Rattle.plain_lists.proofs.Lists.{take_whole}
use Rattle.stations.proofs.Naming.{behind_comma, more_flat}
use Rattle.stations.proofs.words.put_more.Goals as goal

pub returns : goal.returns
returns c =
    c.loop-actor.invariant
    ∙ ap (λ (bs : List ℕ). string_bytes c.args.text.now ++ bs)
    (ap (flat_map (behind_comma c.args.cast))
    (take_whole c.args.actors.now c.loop-actor.actor-index c.loop-actor-test.false)
    ∙ sym (more_flat c.args.cast c.args.actors.now))
