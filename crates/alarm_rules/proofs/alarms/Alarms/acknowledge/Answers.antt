use Rattle.std.proofs.Common.{◌≡◌, ◌<◌, true, ap, arith, length}
use Rattle.alarm_rules.specs.Board.{Board, is_raised_at}
use Rattle.alarm_rules.proofs.AlarmLaws.{raised_within}
use Rattle.alarm_rules.proofs.alarms.Alarms.acknowledge.Goals as goal

pub index_mut-requires : goal.index_mut-requires
index_mut-requires c =
    let on : is_raised_at c.args.self.now.states c.args.alarm ≡ true = cc in
    let there : c.args.alarm < length c.args.self.now.states = raised_within _ _ on in
    let same : length c.self.inside.states.items ≡ length c.args.self.now.states =
    ap (λ (b : Board). length b.states) c.self.view_is in
    omega (arith, c.self.inside.states.ok)
