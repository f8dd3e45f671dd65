-- A view begins where it is later than the latest so far, and then is the latest.
use Rattle.std.proofs.Common.{◌≡◌, ◌∙◌, ◌++◌, ◌∷◌, [], List, ap, refl}
use Rattle.delay_times.specs.declared.reigns.Begun.{Begun}
use Rattle.delay_times.proofs.ViewsInTurn.{begun_first, begun_more, latest_more}
use Rattle.delay_times.proofs.reigns.views_begun.Goals as goal

pub loop-happening-init : goal.loop-happening-init
loop-happening-init c = (
  begun_first c.args.happenings.now (record { view = 0; stamp = 0 }) _
      (c.in_ok-push.ensures.items
      ∙ ap (λ (bs : List Begun). bs ++ record { view = 0; stamp = 0 } ∷ []) c.new-begun.ensures.items),
  refl,
)

pub loop-happening-preserved : goal.loop-happening-preserved
loop-happening-preserved c = (
  begun_more c.args.happenings.now c.loop-happening.happening-index _ c.loop-happening.latest
      c.begun_after-next.result (record { view = 0; stamp = 0 }) c.loop-happening.begun.items _
      c.loop-happening-test.true c.loop-happening.invariant.1 c.begun_after-next.ensures
      c.loop-happening.invariant.0 c.in_ok-extend_option.ensures.ok,
  latest_more c.args.happenings.now c.loop-happening.happening-index _ c.loop-happening.latest
      c.latest_after-latest.result c.begun_after-next.result c.loop-happening-test.true
      c.loop-happening.invariant.1 c.begun_after-next.ensures c.latest_after-latest.ensures,
)
