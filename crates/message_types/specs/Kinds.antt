-- The number of each kind of word, which stands first in its text. (This project's own numbers.)
use Rattle.std.specs.Prelude.{ℕ}
use Rattle.message_types.specs.declared.body.Body.{Body}
use Rattle.message_types.specs.declared.body.Body.TheVariants as body

abbrev pub kind_number : Body → ℕ
kind_number (body.Update b) = 1
kind_number (body.PoRequest b) = 2
kind_number (body.PoAck b) = 3
kind_number (body.PoSummary b) = 4
kind_number (body.PrePrepare b) = 5
kind_number (body.Prepare b) = 6
kind_number (body.Commit b) = 7
kind_number (body.Ping b) = 8
kind_number (body.Pong b) = 9
kind_number (body.Rtt b) = 10
kind_number (body.TatReport b) = 11
kind_number (body.TatBound b) = 12
kind_number (body.Suspect b) = 13
kind_number (body.Report b) = 14
kind_number (body.NewView b) = 15
kind_number (body.AskUpdate b) = 16
kind_number (body.Give b) = 17
kind_number (body.AskOrder b) = 18
kind_number (body.GiveOrdered b) = 19
kind_number (body.Voucher b) = 20
kind_number (body.Mark b) = 21
