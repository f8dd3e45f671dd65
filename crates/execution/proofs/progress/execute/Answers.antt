-- The counts tell how many updates of each client were executed: so an update is kept just where it is its
-- client's next one, and its count goes up with it.
use Rattle.std.proofs.Common.{◌≡◌, ◌<◌, ◌+◌, ◌-◌, ℕ, length, get_or, sym, ◌∙◌, ap, arith}
use Rattle.protocol_rules.specs.Execution.{updates_of}
use Rattle.execution.proofs.Progressing.{kept-taken, kept-passed, counts-taken}
use Rattle.execution.proofs.progress.execute.Goals as goal
use Rattle.execution.proofs.progress.execute.Goals.{then-update-eq0-via-then-update-eq0}
use Rattle.execution.proofs.progress.execute.Goals.{then-update-eq0-via-else-update-eq0+then-update-counts}

pub returns-then-update-eq0-clause-kept : goal.returns-then-update-eq0-clause-kept
returns-then-update-eq0-clause-kept c has =
    let count : get_or c.args.counts.now c.args.update.now.client 0 ≡ updates_of c.args.update.now.client
    c.args.executed.now.items = has c.args.update.now.client c.requires.client in
    elim c.then-update-eq0.branch [
      | then-update-eq0-via-then-update-eq0 w ↦ kept-passed c.args.executed.now.items c.args.update.now
          (λ (turn : c.args.update.now.t ≡ updates_of c.args.update.now.client c.args.executed.now.items + 1). let
          zero : c.args.update.now.t ≡ 0 = w.if-update-eq0.true in omega arith)
      | then-update-eq0-via-else-update-eq0+then-update-counts w ↦ kept-passed c.args.executed.now.items
          c.args.update.now (λ (turn : c.args.update.now.t ≡ updates_of c.args.update.now.client
          c.args.executed.now.items + 1). w.if-update-counts.true (omega arith))
    ]

pub returns-clause-kept : goal.returns-clause-kept
returns-clause-kept c has =
    let count : get_or c.args.counts.now c.args.update.now.client 0 ≡ updates_of c.args.update.now.client
    c.args.executed.now.items = has c.args.update.now.client c.requires.client in
    let put = rw c.unwrap.ensures at c.push.ensures.items in
    let turn : c.args.update.now.t ≡ updates_of c.args.update.now.client c.args.executed.now.items + 1 = omega arith in
    put ∙ kept-taken c.args.executed.now.items c.args.update.now turn

pub returns-clause-counted : goal.returns-clause-counted
returns-clause-counted c has client lt =
    let count : get_or c.args.counts.now c.args.update.now.client 0 ≡ updates_of c.args.update.now.client
    c.args.executed.now.items = has c.args.update.now.client c.requires.client in
    let put = rw c.unwrap.ensures at c.push.ensures.items in
    let turn : c.args.update.now.t ≡ updates_of c.args.update.now.client c.args.executed.now.items + 1 = omega arith in
    counts-taken c.args.executed.now.items c.args.update.now c.args.counts.now c.told-counts c.requires.client turn
    has client lt ∙ ap (updates_of client) (sym put)
