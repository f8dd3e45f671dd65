use Rattle.std.proofs.Common.{◌%◌, sym, ◌∙◌, ap}
use Rattle.point_table.proofs.PointLaws.{mul-rem}
use Rattle.point_table.proofs.point.raw_away.Goals as goal

pub returns-then-away-scale-ne0-clause-none : goal.returns-then-away-scale-ne0-clause-none
returns-then-away-scale-ne0-clause-none c =
    λ raw low e. absurd (c.if-away-scale-ne0.true (ap (λ x. x % c.args.scale) (sym e)
    ∙ mul-rem raw c.args.scale c.requires))
