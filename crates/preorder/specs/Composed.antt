-- Which words pre-ordering goes by.
use Rattle.std.specs.Prelude.{Bool, true, false}
use Rattle.message_types.specs.declared.signed.Signed.{Signed}
use Rattle.message_types.specs.declared.body.Body.{Body}
use Rattle.message_types.specs.declared.body.Body.TheVariants as body

-- a request or an acknowledgement
abbrev pub is_preordering_word : Body → Bool
is_preordering_word word = elim word [ body.PoRequest b ↦ true | body.PoAck b ↦ true | _ ↦ false ]

abbrev pub is_preordering : Signed Body → Bool
is_preordering f = is_preordering_word f.body

abbrev pub is_update : Signed Body → Bool
is_update f = elim f.body [ body.Update b ↦ true | _ ↦ false ]
