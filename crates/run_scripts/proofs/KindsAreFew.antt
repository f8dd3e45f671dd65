-- Each kind of words has a number below 22.
use Rattle.std.proofs.Common.{◌<◌}
use Rattle.std.proofs.Common.{arith}
use Rattle.message_types.specs.declared.body.Body.{Body}
use Rattle.message_types.specs.declared.body.Body.TheVariants as body
use Rattle.message_types.specs.Kinds.{kind_number}

pub kinds_are_few : (word : Body) → kind_number word < 22
kinds_are_few (body.Update b) = omega arith
kinds_are_few (body.PoRequest b) = omega arith
kinds_are_few (body.PoAck b) = omega arith
kinds_are_few (body.PoSummary b) = omega arith
kinds_are_few (body.PrePrepare b) = omega arith
kinds_are_few (body.Prepare b) = omega arith
kinds_are_few (body.Commit b) = omega arith
kinds_are_few (body.Ping b) = omega arith
kinds_are_few (body.Pong b) = omega arith
kinds_are_few (body.Rtt b) = omega arith
kinds_are_few (body.TatReport b) = omega arith
kinds_are_few (body.TatBound b) = omega arith
kinds_are_few (body.Suspect b) = omega arith
kinds_are_few (body.Report b) = omega arith
kinds_are_few (body.NewView b) = omega arith
kinds_are_few (body.AskUpdate b) = omega arith
kinds_are_few (body.Give b) = omega arith
kinds_are_few (body.AskOrder b) = omega arith
kinds_are_few (body.GiveOrdered b) = omega arith
kinds_are_few (body.Voucher b) = omega arith
kinds_are_few (body.Mark b) = omega arith
