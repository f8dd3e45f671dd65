-- The lines of a printed run. Each ends with a line feed, and one space stands between its words. (This project's own.)
use Rattle.std.specs.Prelude.{ℕ, ◌+◌, Bool, true, false, List, [], ◌∷◌, ◌++◌, Option, Some, None, length, codes}
use Rattle.std.specs.Prelude.{decimal}
use Rattle.std.specs.List.{flat_map}
use Rattle.std.specs.Fmt.{signed_decimal}
use Rattle.hex.specs.Hex.{encode_lower}
use Rattle.message_types.specs.declared.signed.Signed.{Signed}
use Rattle.message_types.specs.declared.body.Body.{Body}
use Rattle.message_types.specs.declared.updates.Op.{Op}
use Rattle.message_types.specs.declared.updates.Op.TheVariants as op
use Rattle.message_types.specs.declared.updates.Update.{Update}
use Rattle.message_types.specs.declared.vouchers.Notice.{Notice}
use Rattle.message_types.specs.declared.vouchers.NoticeKind.{NoticeKind}
use Rattle.message_types.specs.declared.vouchers.NoticeKind.TheVariants as notice
use Rattle.message_types.specs.Texts.{frame_text}
use Rattle.point_table.specs.declared.point.Area.{Area}
use Rattle.field_proxy.specs.declared.writes.Write.{Write}
use Rattle.scenario_file.specs.declared.actors.Cast.{Cast}
use Rattle.scenario_file.specs.Actors.{actor_name}
use Rattle.script_grammar.specs.Kinds.{kind_name}
use Rattle.history_rules.specs.Events.{Event, Took, Tick, Command, Field, Poll, Cry, Skip, Restart, Entry}
use Rattle.run_lines.specs.Names.{area_name, notice_name, kind_of}

-- two digits a byte, and a dash for no bytes
abbrev pub hex_text : List ℕ → List ℕ
hex_text [] = codes "-"
hex_text (byte ∷ bytes) = encode_lower (byte ∷ bytes)

unfoldable pub op_text : Op → List ℕ
op_text (op.Reading point value) = codes "reading " ++ decimal point ++ codes " " ++ signed_decimal value
op_text (op.Set point value) = codes "set " ++ decimal point ++ codes " " ++ signed_decimal value
op_text (op.Ack alarm) = codes "ack " ++ decimal alarm

-- An actor whose keeper failed is halted.
abbrev pub halted_text : Bool → List ℕ
halted_text true = codes " halted"
halted_text false = []

-- lines for things numbered from 1
abbrev pub numbered_lines : {X : Type 0} → (ℕ → X → List ℕ) → ℕ → List X → List ℕ
numbered_lines text number [] = []
numbered_lines text number (x ∷ rest) = text number x ++ numbered_lines text (number + 1) rest

-- an update that a master executed; clients come after the masters
unfoldable pub execution_text : Cast → ℕ → Update → List ℕ
execution_text cast number u =
    decimal number ++ codes " " ++ actor_name cast (cast.masters + u.client) ++ codes " " ++ decimal u.t ++ codes " "
    ++ op_text u.op ++ codes "\n"

unfoldable pub intruded_text : Cast → ℕ → List ℕ
intruded_text cast master = codes "master " ++ actor_name cast master ++ codes " intruded\n"

unfoldable pub executions_text : Cast → List Update → Bool → List ℕ
executions_text cast executions is_halted =
    codes " executed " ++ decimal (length executions) ++ halted_text is_halted ++ codes "\n"
    ++ numbered_lines (execution_text cast) 1 executions

unfoldable pub master_text : Cast → ℕ → ℕ → List Update → Bool → List ℕ
master_text cast master view executions is_halted =
    codes "master " ++ actor_name cast master ++ codes " view " ++ decimal view
    ++ executions_text cast executions is_halted

-- how the device answered a write
abbrev pub exception_text : Option ℕ → List ℕ
exception_text None = codes " ok\n"
exception_text (Some code) = codes " exception " ++ decimal code ++ codes "\n"

unfoldable pub write_text : Write → List ℕ
write_text x = decimal x.number ++ codes " " ++ decimal x.point ++ codes " " ++ decimal x.raw
    ++ exception_text x.exception

unfoldable pub proxy_text : Cast → ℕ → List Write → Bool → List ℕ
proxy_text cast proxy writes is_halted =
    codes "proxy " ++ actor_name cast proxy ++ codes " writes " ++ decimal (length writes)
    ++ halted_text is_halted ++ codes "\n" ++ flat_map write_text writes

-- A notice of a command names it by its number; one that is about a point, an alarm or an interlock names that.
abbrev pub command_text : Notice → List ℕ
command_text x = codes " " ++ decimal x.t

abbrev pub about_text : Notice → List ℕ
about_text x = codes " " ++ decimal x.number

abbrev pub details_text : NoticeKind → Notice → List ℕ
details_text notice.Done x = command_text x
details_text notice.WrongPart x = command_text x
details_text notice.Raised x = about_text x
details_text notice.Cleared x = about_text x
details_text other x = command_text x ++ about_text x

unfoldable pub notice_text : ℕ → Notice → List ℕ
notice_text number x = decimal number ++ codes " " ++ notice_name x.what ++ details_text x.what x ++ codes "\n"

unfoldable pub screen_text : Cast → ℕ → List Notice → Bool → List ℕ
screen_text cast screen notices is_halted =
    codes "screen " ++ actor_name cast screen ++ codes " notices " ++ decimal (length notices)
    ++ halted_text is_halted ++ codes "\n" ++ numbered_lines notice_text 1 notices

unfoldable pub intrusion_text : ℕ → ℕ → List ℕ
intrusion_text intruded limit = codes " intruded " ++ decimal intruded ++ codes " limit " ++ decimal limit ++ codes "\n"

unfoldable pub forgery_text : ℕ → ℕ → List ℕ
forgery_text forged alike = codes "audit forged " ++ decimal forged ++ codes " alike " ++ decimal alike

abbrev pub audit_text : ℕ → ℕ → ℕ → ℕ → List ℕ
audit_text forged alike intruded limit = forgery_text forged alike ++ intrusion_text intruded limit

abbrev pub agree_text : Bool → List ℕ
agree_text true = codes "agree yes\n"
agree_text false = codes "agree no\n"

unfoldable pub count_text : ℕ → List ℕ
count_text count = codes "history " ++ decimal count ++ codes "\n"

-- A frame is named by where it was said, where it was said there, else it is told by its bytes.
abbrev pub took_text : Bool → ℕ → ℕ → Signed Body → List ℕ
took_text true stamp place frame = codes "took " ++ decimal stamp ++ codes "." ++ decimal place
took_text false stamp place frame = codes "took frame " ++ hex_text (frame_text frame)

unfoldable pub event_text : Bool → Event → List ℕ
event_text is_said (Took stamp place frame) = took_text is_said stamp place frame
event_text is_said Tick = codes "tick"
event_text is_said (Command o) = codes "command " ++ op_text o
event_text is_said (Field a place value) = codes "field " ++ area_name a ++ codes " " ++ decimal place
    ++ codes " " ++ decimal value
event_text is_said Poll = codes "poll"
event_text is_said (Cry bytes) = codes "cry " ++ hex_text bytes
event_text is_said Skip = codes "skip"
event_text is_said Restart = codes "restart"

abbrev pub kind_text : Body → List ℕ
kind_text b = codes " " ++ kind_name (kind_of b)

-- the kinds of what was said, where anything was
abbrev pub said_text : List Body → List ℕ
said_text [] = []
said_text (b ∷ bodies) = codes " says" ++ flat_map kind_text (b ∷ bodies)

-- An entry, of whose frame it is known whether it was said where the event tells.
unfoldable pub entry_text : Cast → Bool → Entry → List ℕ
entry_text cast is_said e =
    decimal e.stamp ++ codes " " ++ actor_name cast e.actor ++ codes " " ++ event_text is_said e.event
    ++ said_text e.said ++ codes "\n"
