-- The benches of a play as those of its history: what they merge to, and that each stamp is there once.
use Rattle.std.proofs.Common.{◌≡◌, ℕ, ◌+◌, ◌<◌, ◌≤◌, ◌^◌, List, [], ◌∷◌, Result, length, map, refl, sym}
use Rattle.std.proofs.Common.{◌∙◌, ap, subst, arith}
use Rattle.std.proofs.lemmas.Result.{IfOk-weaker}
use Rattle.std.specs.Result.{IfOk}
use Rattle.std.specs.declared.vec.Vec.{Vec}
use Rattle.std.specs.declared.alloc.Global.{Global}
use Rattle.plain_lists.specs.declared.want.Want.{Want}
use Rattle.quorum_sets.specs.Masters.{numbers_below}
use Rattle.scenario_file.specs.Reading.{Contents}
use Rattle.history_rules.specs.Events.{Entry}
use Rattle.history_rules.specs.Setup.{own}
use Rattle.history_rules.specs.Legal.{IsLegal}
use Rattle.history_rules.specs.Counts.{merged}
use Rattle.history_laws.specs.Own.{HasEachStampOnce}
use Rattle.history_laws.proofs.Merged.{merged_whole}
use Rattle.protocol_rules.specs.Group.{Group}
use Rattle.world_rules.specs.Scenarios.{setup_of, actors_in}
use Rattle.world_rules.proofs.Fields.{group_is}
use Rattle.world_history.specs.State.{BenchState}
use Rattle.world_history.specs.Benches.{bench_in, unsigned, AreBenches, AreOfAll, lists_of}
use Rattle.world_history.specs.KeptState.{KeptState}
use Rattle.script_lines.specs.declared.saying.Saying.{Saying}
use Rattle.run_scripts.specs.Making.{bench_at, most_entries}
use Rattle.run_scripts.specs.Playing.{ArePlayed}
use Rattle.run_scripts.specs.Laws.{IsPlayed}
use Rattle.run_program.specs.Whole.{AreAfter, CanBePrinted, IsTextOf}
use Rattle.run_program.proofs.Stamps.{each_stamp_once}
use Rattle.plain_lists.proofs.Lists.{map_map}

-- words that were signed change no list
lists_unsigned : (benches : List BenchState) → lists_of benches ≡ lists_of (map unsigned benches)
lists_unsigned [] = refl
lists_unsigned (b ∷ benches) = ap (λ (ls : List (List Entry)). b.list ∷ ls) (lists_unsigned benches)

own_lists : (c : Contents) (history : List Entry) (benches : List BenchState) → AreBenches c history benches →
    lists_of benches ≡ map (own history) (numbers_below (actors_in c))
own_lists c history benches are =
    lists_unsigned benches ∙ ap lists_of are ∙ map_map (λ (b : BenchState). b.list) (bench_in c history)
    (numbers_below (actors_in c))

-- the same, as many as the setup's group has
lists_by_setup : (c : Contents) (history : List Entry) (benches : List BenchState) → AreBenches c history benches
    → lists_of benches ≡ map (own history) (numbers_below ((setup_of c).group.n + (setup_of c).group.clients))
lists_by_setup c history benches are =
    own_lists c history benches are ∙ ap (λ (g : Group). map (own history) (numbers_below (g.n + g.clients)))
    (sym (group_is c))

pub stamped_once : (c : Contents) (history : List Entry) (benches : List BenchState) → AreAfter c history benches →
    HasEachStampOnce (lists_of benches)
stamped_once c history benches after =
    subst HasEachStampOnce (sym (lists_by_setup c history benches after.are_benches))
    (each_stamp_once (setup_of c) history after.legal)

pub merged_after : (c : Contents) (history : List Entry) (benches : List BenchState) → AreAfter c history benches →
    merged (lists_of benches) ≡ history
merged_after c history benches after =
    ap merged (lists_by_setup c history benches after.are_benches) ∙ merged_whole (setup_of c) history after.legal

-- what was merged is the history
merged_is : (c : Contents) (history made : List Entry) (benches : List BenchState) → AreAfter c history benches →
    made ≡ merged (lists_of benches) → made ≡ history
merged_is c history made benches after is = is ∙ merged_after c history benches after

legal_merged : (c : Contents) (history made : List Entry) → made ≡ history → IsLegal (setup_of c) history →
    IsLegal (setup_of c) made
legal_merged c history made same legal = subst (IsLegal (setup_of c)) (sym same) legal

benches_merged : (c : Contents) (history made : List Entry) (benches : List BenchState) → made ≡ history →
    AreBenches c history benches → AreBenches c made benches
benches_merged c history made benches same are = subst (λ (h : List Entry). AreBenches c h benches) (sym same) are

-- an actor's bench after a play, but for the words that it signed
bench_unsigned : (c : Contents) (sayings : List Saying) (history : List Entry) (actor : ℕ)
    → unsigned (bench_at (record { scenario = c; sayings = sayings }) history actor) ≡ bench_in c history actor
unfolding bench_at
bench_unsigned c sayings history actor = refl

each_unsigned : (c : Contents) (sayings : List Saying) (history : List Entry) (actors : List ℕ)
    → map unsigned (map (bench_at (record { scenario = c; sayings = sayings }) history) actors) ≡ map
    (bench_in c history) actors
each_unsigned c sayings history [] = refl
each_unsigned c sayings history (a ∷ actors) =
    λ i. bench_unsigned c sayings history a i ∷ each_unsigned c sayings history actors i

few : (n : ℕ) → n ≤ most_entries → n < 2 ^ 32
unfolding most_entries
few n least = omega arith

-- The actors of a play are those after its history.
pub are_after : (c : Contents) (sayings : List Saying) (history : List Entry) (kept : List KeptState) →
    IsPlayed (record { scenario = c; sayings = sayings }) history
    → ArePlayed (record { scenario = c; sayings = sayings }) history kept → AreAfter c history (map (λ k. k.bench) kept)
are_after c sayings history kept is are = record {
  legal = is.legal;
  short = few (length history) is.short;
  are_benches = ap (map unsigned) are.0 ∙ each_unsigned c sayings history (numbers_below (actors_in c));
}

short_merged : (history made : List Entry) → made ≡ history → length history < 2 ^ 32 → length made < 2 ^ 32
short_merged history made same few = subst (λ (h : List Entry). length h < 2 ^ 32) (sym same) few

abbrev IsTextAfter : Contents → List BenchState → Vec ℕ Global → Type 0
IsTextAfter c benches text = (history : List Entry) → AreAfter c history benches → IsTextOf c history text.items

-- The text of what the benches merge to is that of their history.
pub text_after : (c : Contents) (benches now : List BenchState) (result : Result (Vec ℕ Global) Want) → now ≡ benches
    → IfOk result (λ text. IsTextOf c (merged (lists_of now)) text.items) → IfOk result (IsTextAfter c benches)
text_after c benches now result same told =
    IfOk-weaker result (λ text. IsTextOf c (merged (lists_of now)) text.items) (IsTextAfter c benches)
    (λ text is history after. subst (λ (h : List Entry). IsTextOf c h text.items)
    (ap (λ (bs : List BenchState). merged (lists_of bs)) same ∙ merged_after c history benches after) is) told

-- benches after a history can be printed, in other words too
pub prints_after : (c : Contents) (history : List Entry) (benches now : List BenchState) → now ≡ benches →
    AreAfter c history benches → CanBePrinted c now
prints_after c history benches now same after =
    CanBePrinted.after history (subst (AreAfter c history) (sym same) after)

-- ---- Benches whose history can be printed.

pub printed_once : (c : Contents) (benches : List BenchState) → CanBePrinted c benches →
    HasEachStampOnce (lists_of benches)
printed_once c benches (CanBePrinted.after history after) = stamped_once c history benches after
printed_once c benches (CanBePrinted.alone all once short) = once

-- what they merge to is a legal history, and they are its benches
pub printed_after : (c : Contents) (made : List Entry) (benches : List BenchState) → made ≡ merged (lists_of benches)
    → (AreOfAll c benches → IsLegal (setup_of c) made × AreBenches c made benches) → CanBePrinted c benches →
    AreAfter c made benches
printed_after c made benches is joined (CanBePrinted.after history after) =
    let same : made ≡ history = merged_is c history made benches after is in
    record {
      legal = legal_merged c history made same after.legal;
      short = short_merged history made same after.short;
      are_benches = benches_merged c history made benches same after.are_benches;
    }
printed_after c made benches is joined (CanBePrinted.alone all once short) = record {
  legal = (joined all).0;
  short = short_merged (merged (lists_of benches)) made is short;
  are_benches = (joined all).1;
}

-- and their text is that of the history
pub merged_text : (c : Contents) (made : List Entry) (benches : List BenchState)
    (result : Result (Vec ℕ Global) Want) → made ≡ merged (lists_of benches)
    → IfOk result (λ text. IsTextOf c made text.items) →
    IfOk result (λ text. IsTextOf c (merged (lists_of benches)) text.items)
merged_text c made benches result is told =
    subst (λ (h : List Entry). IfOk result (λ text. IsTextOf c h text.items)) is told
