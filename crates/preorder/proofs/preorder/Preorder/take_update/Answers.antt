-- Only the map of updates goes by the frames taken as frames of their own, so the rest stays as it is.
use Rattle.std.proofs.Common.{◌∙◌}
use Rattle.std.proofs.lemmas.Result.{on_ok_weaker, on_err_weaker}
use Rattle.message_types.specs.declared.body.Body.TheVariants as body
use Rattle.message_types.specs.Parts.{as_frame}
use Rattle.preorder.specs.contracts.preorder.Preorder.{the_view}
use Rattle.preorder.proofs.Holding.{own-taken}
use Rattle.preorder.proofs.Viewed.{viewed, same-updates, on_ok_both}
use Rattle.preorder.proofs.preorder.Preorder.take_update.Goals as goal

pub returns-clause-taken : goal.returns-clause-taken
returns-clause-taken c = on_ok_weaker c.note_update.result (λ noted g me taken known said is.
    let old = viewed g me (the_view c.self.inside) c.args.self.now taken known said c.self.view_is is in
    record {
      group = old.group;
      own = old.own;
      updates = noted.0 taken old.updates;
      numbers = noted.1 old.numbers;
      firsts = old.firsts;
      ballots = old.ballots;
      certified = old.certified;
      reach = old.reach;
      pending = old.pending;
      counted = old.counted;
      lanes = old.lanes;
      introduced = old.introduced;
      requested = λ live. own-taken taken (as_frame body.Update c.args.frame.now) _ _ said _ old.updates
          (noted.0 taken old.updates) (old.requested live);
      acknowledged = old.acknowledged;
    }) (on_ok_both _ _ c.note_update.result c.note_update.ensures.noted c.note_update.ensures.numbers)

pub returns-clause-refused : goal.returns-clause-refused
returns-clause-refused c =
    on_err_weaker c.note_update.result
    (λ unchanged. same-updates (the_view c.self.inside) c.note_update.new.updates.entries unchanged ∙ c.self.view_is)
    c.note_update.ensures.refused
