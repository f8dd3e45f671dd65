use Rattle.std.proofs.Common.{refl, sym, ◌∙◌, ap, subst}
use Rattle.summary_matrix.specs.declared.reach.Reach.{Reach}
use Rattle.lacking.specs.Earlier.{EarlierState, IsShownOf}
use Rattle.lacking.proofs.Fourths.{shown_told, numbers_kept}
use Rattle.lacking.proofs.shown.ShownBefore.see.Goals as goal

pub returns : goal.returns
returns c g moments m ticks tick same is =
    shown_told g _ _ c.args.now c.args.at_tick c.args.shown.now.numbers moments m refl
    (ap (λ (r : Reach). r.numbers) c.kept_at-self-inside.ensures ∙ numbers_kept _ c.args.shown.now c.self.inside.latest) ticks tick same
    (subst (λ (old : EarlierState). IsShownOf g old moments) (sym c.self.view_is) is)
