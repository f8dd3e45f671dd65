-- View, waiting, and what is eligible and shown are those of the words known, as the execution is caught up. So measures,
-- wait and what was shown before are told of the event just what the rules tell of it, at a tick as at any other.
use Rattle.std.proofs.Common.{◌≡◌, ◌+◌, cond, [], ◌∷◌, ◌++◌, refl, sym, ◌∙◌, ap, subst}
use Rattle.std.proofs.lemmas.Result.{on_ok_weaker}
use Rattle.protocol_rules.specs.Measures.{Told}
use Rattle.protocol_rules.specs.Views.{view}
use Rattle.protocol_rules.specs.Master.{waits, moment}
use Rattle.suspect_leader.specs.MeasureState.{IsMeasureOf}
use Rattle.master_knowledge.specs.Knows.{ordered_reach}
use Rattle.master_knowledge.proofs.Rules.{live_alike}
use Rattle.master_knowledge.proofs.Events.{told-push, moments-push, told_event, same_event, few_ticks}
use Rattle.master_knowledge.proofs.knowledge.Knowledge.tell.Goals as goal

pub see_wait-requires : goal.see_wait-requires
see_wait-requires c g same live at_tick =
    let k = c.requires.known.knows in
    few_ticks c.requires.known.group c.args.self.now.wait (ordered_reach c.requires.known.group c.requires.known.known)
    c.requires.known.past.moments c.args.self.now.measure.ticks k.ticks (c.requires.ticks at_tick)
    (k.wait (live_alike c.requires.known.group g (sym k.rules ∙ same) ∙ live))

pub returns-clause-told : goal.returns-clause-told
returns-clause-told c = on_ok_weaker c.see_wait.result (λ seen g me taken known past said k caught.
    let view_is : c.view-view.result ≡ view g known = c.view-view.ensures g me known said k.views in
    let waits_is : c.waits-waits.result ≡ waits g known = c.waits-waits.ensures g me taken known past said k caught in
    let ticks_now = c.in_ok-tell_measure.ensures.ticks
    ∙ ap (λ n. n + cond c.args.at_tick 1 0) k.ticks ∙ sym (moments-push past.moments (moment g known c.args.at_tick)) in
    record {
      masters = k.masters;
      quorum = k.quorum;
      rules = k.rules;
      whole = k.whole;
      preorder = k.preorder;
      matrix = k.matrix;
      order = k.order;
      run = k.run;
      views = k.views;
      ticks_told = c.in_ok-tell_measure.ensures.ticks ∙ ap (λ n. n + cond c.args.at_tick 1 0) k.ticks_told
          ∙ sym (told-push past.told (told_event c.args.at_tick (view g known) (waits g known)));
      ticks = ticks_now;
      measure = λ first. subst (λ (e : Told). IsMeasureOf g me c.tell_measure.new.measure (past.told ++ e ∷ []) known said)
          (same_event c.args.at_tick _ _ _ _ view_is waits_is)
          (c.in_ok-tell_measure.ensures.told g me past.told known said (k.measure first));
      patience = k.patience;
      wait = λ live. seen g k.rules live g (ordered_reach g known) past.moments (moment g known c.args.at_tick)
          (record { tick = refl; of_view = sym view_is; as_much = c.eligible-eligible.ensures.now g known k.matrix })
          (k.wait live);
      furthest = k.furthest;
      earlier = c.see.ensures g past.moments (moment g known c.args.at_tick) (sym (c.ticks.ensures ∙ ticks_now)) refl
          (c.shown-shown.ensures g known k.matrix) k.earlier;
      asks = k.asks;
      gifts = k.gifts;
    }) c.see_wait.ensures
