use Rattle.std.proofs.Common.{ℕ, Option, max, ◌∙◌, ap}
use Rattle.std.specs.Option.{unwrap_or}
use Rattle.suspect_leader.proofs.Told.{greatest_kept}
use Rattle.suspect_leader.proofs.tables.keep_greatest.Goals as goal

pub returns-clause-ok : goal.returns-clause-ok
returns-clause-ok c = λ w j. greatest_kept c.args.table.now c.insert.new.self c.args.v c.args.master c.args.ticks _ w
    j (c.max.ensures ∙ ap (λ (x : ℕ). max x c.args.ticks)
    (c.unwrap_or-before.ensures ∙ ap (λ (o : Option ℕ). unwrap_or o 0) c.told.ensures)) c.in_ok-insert.ensures.updates
