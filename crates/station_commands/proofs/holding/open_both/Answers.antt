-- The ring's file comes first, and leaves the own key's as it was.
use Rattle.std.proofs.Common.{inl, inr}
use Rattle.station_commands.proofs.Holdings.{key_moves, no_key_moves}
use Rattle.station_commands.proofs.holding.open_both.Goals as goal

pub returns-in-Err : goal.returns-in-Err
returns-in-Err g c = inl c.in-Err.ensures.cause

pub returns-in-Ok-open_own_key : goal.returns-in-Ok-open_own_key
returns-in-Ok-open_own_key g c = (
  c.in-Ok.ensures.cause,
  key_moves c.args.actor.now (g.F.Files.held c.args.files.now c.args.named.key.now)
      (g.F.Files.held c.open_ring.new.files c.args.named.key.now) c.in-Ok-open_own_key.own.seed
      c.in-Ok-open_own_key.own.identifier (c.open_ring.ensures.kept c.args.named.key.now)
      c.in-Ok-open_own_key.ensures,
)

pub returns-in-Err-open_own_key : goal.returns-in-Err-open_own_key
returns-in-Err-open_own_key g c =
    inr
    (no_key_moves c.args.actor.now (g.F.Files.held c.args.files.now c.args.named.key.now)
    (g.F.Files.held c.open_ring.new.files c.args.named.key.now)
    (g.F.Files.faults c.args.files.now c.args.named.key.now)
    (g.F.Files.faults c.open_ring.new.files c.args.named.key.now)
    (g.F.Files.faults c.open_own_key.new.files c.args.named.key.now) c.args.named.key.now
    c.in-Err-open_own_key.refusal (c.open_ring.ensures.kept c.args.named.key.now)
    (c.in-Ok.ensures.counted c.args.named.key.now) c.in-Err-open_own_key.ensures)
