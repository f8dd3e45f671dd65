-- The text of a run: what each of its actors came to, the audit of its history, and the history. (This project's own.)
use Rattle.std.specs.Prelude.{◌≡◌, ℕ, ◌-◌, Bool, false, if◌then◌else◌, List, ◌++◌, Option, Some, None, length, codes}
use Rattle.std.specs.Prelude.{nat_lt, slice_get}
use Rattle.std.specs.List.{flat_map}
use Rattle.message_types.specs.declared.signed.Signed.{Signed}
use Rattle.message_types.specs.declared.body.Body.{Body}
use Rattle.message_types.specs.declared.vouchers.Notice.{Notice}
use Rattle.field_proxy.specs.declared.writes.Write.{Write}
use Rattle.quorum_sets.specs.Masters.{numbers_below, has_master}
use Rattle.scenario_file.specs.declared.actors.Cast.{Cast}
use Rattle.scenario_file.specs.Reading.{Contents, cast_of}
use Rattle.history_rules.specs.Events.{Event, Took, Entry}
use Rattle.history_rules.specs.Setup.{Setup, own}
use Rattle.history_rules.specs.Keeping.{is_halted}
use Rattle.history_rules.specs.Legal.{executions_in, view_in}
use Rattle.history_rules.specs.Counts.{forged, alike, intruded_masters}
use Rattle.history_rules.specs.Sameness.{is_same_signed, is_same_body}
use Rattle.world_rules.specs.Clients.{front_of, desk_of, board_of}
use Rattle.world_rules.specs.Frames.{frames_at_stamp}
use Rattle.world_rules.specs.Headline.{agrees}
use Rattle.world_rules.specs.Scenarios.{setup_of, masters_in, proxies_in, actors_in}
use Rattle.world_history.specs.State.{BenchState}
use Rattle.run_lines.specs.Texts.{intruded_text, master_text, proxy_text, screen_text, audit_text, agree_text}
use Rattle.run_lines.specs.Texts.{count_text, entry_text}

abbrev pub cast_in : Contents → Cast
cast_in c = cast_of c.settings c.plant

-- what a proxy wrote, and what a screen shows, by their own lists
abbrev pub writes_of : Contents → ℕ → List Entry → List Write
writes_of c client own = (front_of (masters_in c) c.settings.f c.plant client own).writes

abbrev pub notices_of : Contents → ℕ → List Entry → List Notice
notices_of c client own = board_of (desk_of (masters_in c) c.settings.f client own)

unfoldable pub master_lines : Contents → ℕ → List Entry → List ℕ
master_lines c master own =
    if has_master c.settings.intruded master then intruded_text (cast_in c) master
    else master_text (cast_in c) master (view_in (setup_of c) master own) (executions_in (setup_of c) master own)
    (is_halted (setup_of c) master own)

unfoldable pub client_lines : Contents → ℕ → List Entry → List ℕ
client_lines c actor own =
    let client = actor - masters_in c in
    if nat_lt client (proxies_in c)
    then proxy_text (cast_in c) actor (writes_of c client own) (is_halted (setup_of c) actor own)
    else screen_text (cast_in c) actor (notices_of c client own) (is_halted (setup_of c) actor own)

-- what an actor came to by its own list
abbrev pub actor_lines : Contents → ℕ → List Entry → List ℕ
actor_lines c actor own = if nat_lt actor (masters_in c) then master_lines c actor own else client_lines c actor own

abbrev pub is_frame : Signed Body → Option (Signed Body) → Bool
is_frame frame None = false
is_frame frame (Some said) = is_same_signed is_same_body said frame

-- whether the frame that an event takes is the one that was said where the event tells
abbrev pub is_said : Setup → List Entry → Event → Bool
is_said w history (Took stamp place frame) = is_frame frame (slice_get (frames_at_stamp w history stamp) place)
is_said w history _ = false

abbrev pub entry_line : Contents → List Entry → Entry → List ℕ
entry_line c history e = entry_text (cast_in c) (is_said (setup_of c) history e.event) e

abbrev pub actors_text : Contents → List Entry → List ℕ
actors_text c history = flat_map (λ actor. actor_lines c actor (own history actor)) (numbers_below (actors_in c))

abbrev pub totals_text : Setup → List Entry → List ℕ
totals_text w history =
    audit_text (forged w history) (alike w.group history) (intruded_masters w) w.group.f
    ++ agree_text (agrees w history)

-- the whole text
unfoldable pub text_of : Contents → List Entry → List ℕ
text_of c history =
    codes "spire 1\n" ++ actors_text c history ++ totals_text (setup_of c) history
    ++ count_text (length history) ++ flat_map (entry_line c history) history

-- what the actor of a bench came to
abbrev pub bench_lines : Contents → BenchState → List ℕ
bench_lines c b = actor_lines c b.actor b.list

-- a bench of the scenario under which memory never ran out
abbrev pub IsOf : Contents → BenchState → Type 0
IsOf c b = (b.world ≡ c) × (b.is_spent ≡ false)
