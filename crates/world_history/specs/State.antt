-- What contracts see of a bench: one actor of a scenario with all that it did. (This project's own.)
use Rattle.std.specs.Prelude.{ℕ, ◌+◌, ◌-◌, Bool, false, ◌&&◌, ◌||◌, not, if◌then◌else◌, List, [], ◌∷◌, ◌++◌, Option}
use Rattle.std.specs.Prelude.{Some, None, nat_lt, nat_eq}
use Rattle.std.specs.Option.{option_map}
use Rattle.message_types.specs.declared.signed.Signed.{Signed}
use Rattle.message_types.specs.declared.body.Body.{Body}
use Rattle.message_types.specs.declared.updates.Update.{Update}
use Rattle.message_types.specs.declared.vouchers.Notice.{Notice}
use Rattle.message_types.specs.Texts.{frame_text}
use Rattle.field_proxy.specs.declared.writes.Write.{Write}
use Rattle.play_words.specs.declared.words.Word.{Word}
use Rattle.play_words.specs.declared.words.Word.TheVariants as word
use Rattle.protocol_rules.specs.Preorder.{certified}
use Rattle.scenario_file.specs.Reading.{Contents}
use Rattle.history_rules.specs.Events.{Event, Entry}
use Rattle.history_rules.specs.Setup.{Setup, is_correct_master, leaves_used}
use Rattle.history_rules.specs.Legal.{says_in, executions_in, view_in, heard_in, known_of}
use Rattle.world_rules.specs.Clients.{front_of, desk_of, board_of}
use Rattle.world_rules.specs.Frames.{overheard}
use Rattle.world_rules.specs.Scenarios.{setup_of, masters_in, proxies_in}
use Rattle.intruder_words.specs.Speaking.{body_of}
use Rattle.bench_rules.specs.Lists.{frames_after}

-- Its scenario, its actor, its entries, how many words an intruded master signed, and whether memory ran out under it.
pub record BenchState : Type 0 where
  pub world : Contents
  pub actor : ℕ
  pub list : List Entry
  pub signed : ℕ
  pub is_spent : Bool

abbrev pub setup_in : BenchState → Setup
setup_in b = setup_of b.world

-- the entry that an event at a stamp makes
unfoldable pub entry_at : BenchState → ℕ → Event → Entry
entry_at b stamp event = record {
  stamp = stamp;
  actor = b.actor;
  event = event;
  said =
      says_in (setup_in b) b.actor b.list event;
}

abbrev pub with_entry : BenchState → ℕ → Event → BenchState
with_entry b stamp event = record b { list = b.list ++ entry_at b stamp event ∷ [] }

-- the frames of what is said at an event
abbrev pub frames_said : BenchState → ℕ → Event → List (Signed Body)
frames_said b stamp event = frames_after (setup_in b) b.actor b.list (entry_at b stamp event)

-- what a correct master has executed, and the view that it is in; of others nothing
abbrev pub executions_shown : BenchState → List Update
executions_shown b = if is_correct_master (setup_in b) b.actor then executions_in (setup_in b) b.actor b.list else []

-- the same as an audit asks for it: nothing of a bench that is spent, nor of one that isn't a correct master's
abbrev pub executed_if : BenchState → Option (List Update)
executed_if b = if b.is_spent || not (is_correct_master (setup_in b) b.actor) then None else Some
    (executions_in (setup_in b) b.actor b.list)

abbrev pub view_shown : BenchState → ℕ
view_shown b = if is_correct_master (setup_in b) b.actor then view_in (setup_in b) b.actor b.list else 0

-- the update that is certified at a correct master as request k of master j
abbrev pub certified_shown : BenchState → ℕ → ℕ → Option Update
certified_shown b j k = if is_correct_master (setup_in b) b.actor then certified (setup_in b).group
    (known_of (heard_in (setup_in b) b.actor b.list)) j k else None

-- the actor is a proxy, or a screen
abbrev pub is_proxy : Contents → ℕ → Bool
is_proxy c actor = if nat_lt actor (masters_in c) then false else nat_lt (actor - masters_in c) (proxies_in c)

abbrev pub is_screen : Contents → ℕ → Bool
is_screen c actor = if nat_lt actor (masters_in c) then false else not (nat_lt (actor - masters_in c) (proxies_in c))

-- what a proxy wrote; of others nothing
abbrev pub writes_shown : BenchState → List Write
writes_shown b =
    if is_proxy b.world b.actor then
    (front_of (masters_in b.world) b.world.settings.f b.world.plant (b.actor - masters_in b.world) b.list).writes
    else []

-- what a screen shows; of others nothing
abbrev pub board_shown : BenchState → List Notice
board_shown b =
    if is_screen b.world b.actor then board_of
    (desk_of (masters_in b.world) b.world.settings.f (b.actor - masters_in b.world) b.list) else []

-- the leaves that the actor has left
abbrev pub leaves_left : BenchState → ℕ
leaves_left b = (setup_in b).leaves - (leaves_used (setup_in b) b.list + b.signed)

-- the actor is an intruded master
abbrev pub is_intruded_master : BenchState → Bool
is_intruded_master b = nat_lt b.actor (masters_in b.world) && (setup_in b).intruded b.actor

-- the body that a word is, by what the actor knows: none for a raw word, where the actor knows too little for the body,
-- and where it has no leaf left to sign it with
abbrev pub word_body : BenchState → Word → Option Body
word_body b w = if nat_eq (leaves_left b) 0 then None else body_of (setup_in b).group (overheard b.list) w

-- the frame of a body that an intruded master signs with its next leaf
abbrev pub word_frame : BenchState → Body → Signed Body
word_frame b said = record {
  signer = b.actor;
  body = said;
  sig = (setup_in b).signature b.actor (leaves_used (setup_in b) b.list + b.signed) (said ∷ []) 0;
}

-- the bytes that a word comes to: raw ones as they stand, else the frame of the body that it is
unfoldable pub spoken : BenchState → Word → Option (List ℕ)
spoken b (word.Raw bytes) = Some bytes
spoken b other = option_map (λ said. frame_text (word_frame b said)) (word_body b other)

-- one word more is signed
abbrev pub with_word : BenchState → BenchState
with_word b = record b { signed = b.signed + 1 }

-- A word that is a body uses a leaf.
abbrev pub after_word : BenchState → Word → BenchState
after_word b w = elim (word_body b w) [ None ↦ b | Some said ↦ with_word b ]
