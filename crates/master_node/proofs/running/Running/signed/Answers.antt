use Rattle.std.proofs.Common.{List, [], ◌∷◌, ◌++◌, sym, subst}
use Rattle.message_types.specs.declared.signed.Signed.{Signed}
use Rattle.message_types.specs.declared.body.Body.{Body}
use Rattle.master_node.specs.Running.{IsRunning}
use Rattle.master_node.proofs.Steps.{handed_so}
use Rattle.master_node.proofs.running.Running.signed.Goals as goal

pub returns : goal.returns
returns c charge before took at_tick spoken own =
    subst (λ (frames : List (Signed Body)). IsRunning charge (record c.args.self.now { unheard = frames })
    (before ++ record { took = took; is_tick = at_tick; said = c.args.frames.now } ∷ []))
    (sym c.in_ok-self.ensures) (handed_so charge c.args.self.now before took at_tick c.args.frames.now spoken own)
