-- The lines of a script. (This project's own.)
use Rattle.std.specs.Prelude.{ℕ, nat_lt, codes, Bool, true, false, if◌then◌else◌, List, [], ◌∷◌, Option, Some, None}
use Rattle.std.specs.Prelude.{ℤ, Result, Ok, Err}
use Rattle.std.specs.Str.{bytes_eq}
use Rattle.message_types.specs.declared.updates.Op.{Op}
use Rattle.message_types.specs.declared.updates.Op.TheVariants as op
use Rattle.play_words.specs.declared.words.Ref.{Ref}
use Rattle.point_table.specs.declared.point.Area.{Area}
use Rattle.point_table.specs.declared.point.Area.TheVariants as area
use Rattle.point_table.specs.declared.point.DeviceSizes.{DeviceSizes}
use Rattle.scenario_file.specs.PlantRows.{area_of}
use Rattle.script_grammar.specs.declared.fault.LineRefusal.{LineRefusal}
use Rattle.script_grammar.specs.declared.frames.Allowed.TheVariants as allowed
use Rattle.script_grammar.specs.Faults.{Answer, bad, or_bad, said, both}
use Rattle.script_grammar.specs.Frames.{frame_in}
use Rattle.script_grammar.specs.Names.{Who, device_of, actor_in, intruded_in, correct_in, proxy_in, screen_in}
use Rattle.script_grammar.specs.Numbers.{number_in, narrow_in, short_in, signed_in}
use Rattle.script_lines.specs.declared.step.Change.{Change}
use Rattle.script_lines.specs.declared.step.Step.{Step}
use Rattle.script_lines.specs.declared.step.Step.TheVariants as step
use Rattle.script_lines.specs.declared.step.Ticking.{Ticking}
use Rattle.script_lines.specs.declared.step.Ticking.TheVariants as ticking

-- how often a line's step is done: 1 to 1,000 times, once where nothing is said of it
abbrev pub times_in : List (List ℕ) → Answer ℕ
times_in [] = Ok 1
times_in (times ∷ []) = number_in 1 1000 times
times_in (times ∷ other ∷ more) = bad

abbrev pub ticking_in : Who → List ℕ → Answer Ticking
ticking_in who name =
    if bytes_eq name (codes "masters") then Ok ticking.Masters
    else (if bytes_eq name (codes "all") then Ok ticking.All
    else said ticking.Actor (actor_in who.cast name))

abbrev pub tick_in : Who → List (List ℕ) → Answer Step
tick_in who [] = bad
tick_in who (name ∷ times) = said (λ (p : Ticking × ℕ). step.Tick p.0 p.1) (both (ticking_in who name) (times_in times))

abbrev pub flow_in : List (List ℕ) → Answer Step
flow_in rounds = said step.Flow (times_in rounds)

abbrev pub one_actor_in : Who → List (List ℕ) → Answer ℕ
one_actor_in who (name ∷ []) = actor_in who.cast name
one_actor_in who _ = bad

abbrev pub drop_in : List (List ℕ) → Answer Step
drop_in [] = Ok step.Drop
drop_in (word ∷ more) = bad

abbrev pub take_in : Who → List (List ℕ) → Answer Step
take_in who (name ∷ frame ∷ []) =
    said (λ (p : ℕ × Ref). step.Take p.0 p.1) (both (actor_in who.cast name) (frame_in who.cast allowed.Any frame))
take_in who _ = bad

-- a point is set to a value, or an alarm acknowledged
abbrev pub set_in : List (List ℕ) → Answer Op
set_in (point ∷ value ∷ []) = said (λ (p : ℕ × ℤ). op.Set p.0 p.1) (both (narrow_in point) (signed_in value))
set_in _ = bad

abbrev pub ack_in : List (List ℕ) → Answer Op
ack_in (alarm ∷ []) = said op.Ack (narrow_in alarm)
ack_in _ = bad

abbrev pub op_in : List (List ℕ) → Answer Op
op_in [] = bad
op_in (what ∷ fields) = if bytes_eq what (codes "set") then set_in fields else
    (if bytes_eq what (codes "ack") then ack_in fields else bad)

abbrev pub command_in : Who → List (List ℕ) → Answer Step
command_in who [] = bad
command_in who (name ∷ fields) = said (λ (p : ℕ × Op). step.Command p.0 p.1) (both (screen_in who name) (op_in fields))

-- a place of an area that holds a value from now on
abbrev pub change_of : Area × (ℕ × ℕ) → Change
change_of p = record { area = p.0; place = p.1.0; value = p.1.1 }

abbrev pub change_in : List (List ℕ) → Answer Change
change_in (name ∷ place ∷ value ∷ []) =
    said change_of (both (or_bad (area_of name)) (both (short_in place) (short_in value)))
change_in _ = bad

-- how many places of an area a device has
abbrev pub places_of : DeviceSizes → Area → ℕ
places_of device area.Coil = device.coils
places_of device area.Discrete = device.discrete
places_of device area.Holding = device.holding
places_of device area.Input = device.input

abbrev pub has_place : Option DeviceSizes → Area → ℕ → Bool
has_place None area place = false
has_place (Some device) area place = nat_lt place (places_of device area)

-- the device behind the proxy has the place
abbrev pub in_place : Who → Result (ℕ × Change) LineRefusal → Answer Step
in_place who (Ok p) =
    if has_place (device_of who p.0) p.1.area p.1.place
    then Ok (step.Field p.0 p.1.area p.1.place p.1.value) else bad
in_place who (Err e) = Err e

abbrev pub field_in : Who → List (List ℕ) → Answer Step
field_in who [] = bad
field_in who (name ∷ change) = in_place who (both (proxy_in who name) (change_in change))

abbrev pub poll_in : Who → List (List ℕ) → Answer Step
poll_in who (name ∷ []) = said step.Poll (proxy_in who name)
poll_in who _ = bad

abbrev pub cry_in : Who → List (List ℕ) → Answer Step
cry_in who [] = bad
cry_in who (name ∷ times) = said (λ (p : ℕ × ℕ). step.Cry p.0 p.1) (both (intruded_in who name) (times_in times))

abbrev pub restart_in : Who → List (List ℕ) → Answer Step
restart_in who (name ∷ []) = said step.Restart (correct_in who name)
restart_in who _ = bad

-- what a line says, by its first word
abbrev pub step_of : Who → List ℕ → List (List ℕ) → Answer Step
step_of who what fields =
    if bytes_eq what (codes "tick") then tick_in who fields
    else (if bytes_eq what (codes "flow") then flow_in fields
    else (if bytes_eq what (codes "lose") then said step.Lose (one_actor_in who fields)
    else (if bytes_eq what (codes "heal") then said step.Heal (one_actor_in who fields)
    else (if bytes_eq what (codes "drop") then drop_in fields
    else (if bytes_eq what (codes "take") then take_in who fields
    else (if bytes_eq what (codes "command") then command_in who fields
    else (if bytes_eq what (codes "field") then field_in who fields
    else (if bytes_eq what (codes "poll") then poll_in who fields
    else (if bytes_eq what (codes "cry") then cry_in who fields
    else (if bytes_eq what (codes "restart") then restart_in who fields
    else bad))))))))))

unfoldable pub step_in : Who → List (List ℕ) → Answer Step
step_in who [] = bad
step_in who (what ∷ fields) = step_of who what fields
