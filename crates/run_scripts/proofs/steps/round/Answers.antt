-- All that waits is taken out of the mail first, so what is posted meanwhile waits for the next round. What was
-- taken out is due, and is delivered in its order.
use Rattle.std.proofs.Common.{◌≡◌, refl, sym, [], ◌∙◌, ap}
use Rattle.std.specs.declared.vec.Vec.{Vec}
use Rattle.std.specs.declared.alloc.Global.{Global}
use Rattle.run_scripts.specs.declared.mail.Delivery.{Delivery}
use Rattle.run_scripts.specs.Playing.{given_in}
use Rattle.run_scripts.proofs.DueStays.{emptied_play, waiting_due, round_goes}
use Rattle.run_scripts.proofs.steps.round.Goals as goal

pub deliver_all-requires-clause-playing : goal.deliver_all-requires-clause-playing
deliver_all-requires-clause-playing c = record {
  making = record c.requires.playing.making { waiting = [] };
  is = emptied_play (given_in c.args.world.now) c.requires.playing.making c.args.playing.now _ c.requires.playing.is
      refl refl refl (ap (λ (v : Vec Delivery Global). v.items) c.replace-waiting.ensures.after
      ∙ c.new-none.ensures.items) refl refl;
}

pub deliver_all-requires-clause-due : goal.deliver_all-requires-clause-due
deliver_all-requires-clause-due c = waiting_due (given_in c.args.world.now) c.args.playing.now _ c.deref.result.now
    c.requires.playing (c.deref.ensures.value ∙ ap (λ (v : Vec Delivery Global). v.items)
    c.replace-waiting.ensures.value) refl

pub returns : goal.returns
returns c = λ m is.
    round_goes (given_in c.args.world.now) c.deliver_all.result m c.args.playing.now c.deliver_all.new.playing
    c.deref.result.now is (c.deref.ensures.value ∙ ap (λ (v : Vec Delivery Global). v.items)
    c.replace-waiting.ensures.value)
    (c.deliver_all.ensures (record m { waiting = [] })
    (emptied_play (given_in c.args.world.now) m c.args.playing.now _ is refl refl refl
    (ap (λ (v : Vec Delivery Global). v.items) c.replace-waiting.ensures.after ∙ c.new-none.ensures.items)
    refl refl))
