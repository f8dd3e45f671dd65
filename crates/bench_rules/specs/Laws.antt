-- What a correct master hears and says along its own list of entries, as statements.
use Rattle.std.specs.Prelude.{◌≡◌, ℕ, ◌^◌, ◌<◌, ◌≤◌, true, false, List, [], ◌∷◌, ◌++◌, length}
use Rattle.std.specs.List.{list_all}
use Rattle.message_types.specs.Spelling.{body_fits}
use Rattle.history_rules.specs.Events.{Entry, frame_taken, is_tick, is_silent}
use Rattle.history_rules.specs.Setup.{Setup, is_correct_master, stands}
use Rattle.history_rules.specs.Legal.{heard_in}
use Rattle.agreement.specs.Laws.{HasSizes}
use Rattle.words_in_place.specs.Laws.{ticks_heard}
use Rattle.words_in_place.specs.Signing.{SignsWell}
use Rattle.history_laws.specs.BenchLists.{AddsEntry, IsBenchList}
use Rattle.bench_rules.specs.Lists.{frames_after}

-- A correct master has no more ticks than entries.
abbrev pub FewTicks : Type 0
FewTicks = (w : Setup) (master : ℕ) (list : List Entry) → ticks_heard (heard_in w master list) ≤ length list

-- What a correct master says after a list of fewer than 2^32 entries fits its spelling, and its frames stand.
abbrev pub MasterFramesStand : Type 0
MasterFramesStand =
    (w : Setup) (master : ℕ) (list : List Entry) (e : Entry) → HasSizes w.group → SignsWell w master →
    is_correct_master w master ≡ true
    → IsBenchList w master list → AddsEntry w master list e → length list < 2 ^ 32 →
    list_all (stands w) (frames_after w master list e) ≡ true

abbrev pub MasterWordsFit : Type 0
MasterWordsFit =
    (w : Setup) (master : ℕ) (list : List Entry) (e : Entry) → HasSizes w.group → SignsWell w master →
    is_correct_master w master ≡ true
    → IsBenchList w master list → AddsEntry w master list e → length list < 2 ^ 32 → list_all body_fits e.said ≡ true

-- At a silent event it says nothing.
abbrev pub SilentSaysNothing : Type 0
SilentSaysNothing =
    (w : Setup) (master : ℕ) (list : List Entry) (e : Entry) → is_correct_master w master ≡ true →
    AddsEntry w master list e → is_silent e.event ≡ true → e.said ≡ []

-- An entry that isn't silent adds one event to what its master heard, a silent one none.
abbrev pub HeardNext : Type 0
HeardNext =
    (w : Setup) (master : ℕ) (list : List Entry) (e : Entry) → is_silent e.event ≡ false
    → heard_in w master (list ++ e ∷ [])
    ≡ heard_in w master list ++ record {
      took = frame_taken e.event;
      is_tick = is_tick e.event;
      said =
          frames_after w master list e;
    } ∷ []

abbrev pub HeardSame : Type 0
HeardSame = (w : Setup) (master : ℕ) (list : List Entry) (e : Entry) → is_silent e.event ≡ true →
    heard_in w master (list ++ e ∷ []) ≡ heard_in w master list
