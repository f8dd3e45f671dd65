use Rattle.std.proofs.Common.{◌≡◌, ◌++◌, List, ℕ, subst}
use Rattle.std.specs.Result.{OnOk}
use Rattle.history_audit.proofs.Steps.{low_bytes}
use Rattle.history_audit.proofs.rows.put_length.Goals as goal

pub returns : goal.returns
returns c = subst (λ (bytes : List ℕ). OnOk c.put_u16.result (c.put_u16.new.out.items ≡ c.args.out.now.items
    ++ bytes)) (low_bytes c.args.length) c.put_u16.ensures.ok
