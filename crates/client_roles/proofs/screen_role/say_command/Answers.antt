use Rattle.std.proofs.Common.{arith}
use Rattle.client_roles.proofs.screen_role.say_command.Goals as goal

-- a vector made for one word has room for it
pub returns-in_err-push-clause-err : goal.returns-in_err-push-clause-err
returns-in_err-push-clause-err c =
    let full = c.in_err-push.ensures.full in
    let capacity = c.in_ok-said.ensures.exact in
    let empty = c.in_ok-said.ensures.len in
    absurd (omega arith)
