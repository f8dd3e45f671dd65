-- When a body's addressees can be told.
use Rattle.std.specs.Prelude.{◌<◌}
use Rattle.message_types.specs.declared.body.Body.{Body}
use Rattle.message_types.specs.declared.body.Body.TheVariants as body
use Rattle.quorum_sets.specs.declared.limits.TheConstants.{MOST_CLIENTS}

-- the client that the body names is one of a plant's
abbrev pub IsClientFew : Body → Type 0
IsClientFew word = elim word [
  | body.Update b ↦ b.client < MOST_CLIENTS
  | body.Voucher b ↦ b.client < MOST_CLIENTS
  | _ ↦ Unit {0}
]
