-- Skips of a turn.
use Rattle.std.proofs.Common.{◌≡◌, ℕ, suc, ◌+◌, ◌<◌, ◌^◌, true, false, ◌&&◌, List, [], ◌∷◌}
use Rattle.std.proofs.Common.{◌++◌, Option, length, refl, sym, ◌∙◌, ap, arith}
use Rattle.std.proofs.Common.{append-nil, append_assoc, inl, inr}
use Rattle.std.specs.Prelude.{All}
use Rattle.std.specs.List.{list_all}
use Rattle.std.proofs.lemmas.Bool.{and_from}
use Rattle.std.proofs.lemmas.List.{length-append, length_push}
use Rattle.std.proofs.lemmas.List.Folds.{list_all-append}
use Rattle.history_rules.specs.Events.{Skip, Entry}
use Rattle.stamps.specs.Seats.{Drawer}
use Rattle.world_history.specs.State.{BenchState, entry_at, with_entry}
use Rattle.world_history.specs.KeptState.{KeptState, halted_in}
use Rattle.station_turns.specs.declared.held.Held.{Held}
use Rattle.station_turns.specs.Pace.{is_skip, is_outside, turns_made, inputs_used, AreFewSkips}
use Rattle.station_turns.specs.Turns.{Stationed, CanAdd, IsAlive, is_early, with_skips, drew, AreSkips}
use Rattle.station_turns.specs.Turns.{HasSkipped, Draws}
use Rattle.station_turns.proofs.CountsGrow.{turn_same, input_same, signed_same}
use Rattle.station_turns.proofs.InputGiven.{skip_fits}
use Rattle.station_turns.proofs.StateInOrder.{steady_more, drawn_can}
use Rattle.world_history.proofs.KeptGrows.{event_at}

-- the entries of skips
abbrev pub skip_entries : BenchState → List ℕ → List Entry
skip_entries b [] = []
skip_entries b (stamp ∷ rest) = entry_at b stamp Skip ∷ skip_entries (with_entry b stamp Skip) rest

pub skips_push : (b : BenchState) (skips : List ℕ) (stamp : ℕ) →
    with_skips b (skips ++ stamp ∷ []) ≡ with_entry (with_skips b skips) stamp Skip
skips_push b [] stamp = refl
skips_push b (s ∷ rest) stamp = skips_push (with_entry b s Skip) rest stamp

pub skips_list : (b : BenchState) (skips : List ℕ) → (with_skips b skips).list ≡ b.list ++ skip_entries b skips
skips_list b [] = sym (append-nil b.list)
skips_list b (s ∷ rest) =
    skips_list (with_entry b s Skip) rest
    ∙ append_assoc b.list (entry_at b s Skip ∷ []) (skip_entries (with_entry b s Skip) rest)

pub skips_length : (b : BenchState) (skips : List ℕ) → length (skip_entries b skips) ≡ length skips
skips_length b [] = refl
skips_length b (s ∷ rest) = ap suc (skips_length (with_entry b s Skip) rest)

pub skips_all : (b : BenchState) (skips : List ℕ) →
    list_all (λ (e : Entry). is_skip e.event) (skip_entries b skips) ≡ true
skips_all b [] = refl
skips_all b (s ∷ rest) =
    and_from (is_skip (entry_at b s Skip).event)
    (list_all (λ (e : Entry). is_skip e.event) (skip_entries (with_entry b s Skip) rest))
    (ap is_skip (event_at b s Skip)) (skips_all (with_entry b s Skip) rest)

pub skips_few : (b : BenchState) (held : Option Held) (skips : List ℕ) → AreSkips held skips →
    AreFewSkips (skip_entries b skips)
skips_few b held skips are =
    record { all = skips_all b skips; few = let few = are.few in omega (arith, skips_length b skips) }

pub skips_world : (b : BenchState) (skips : List ℕ) → ((with_skips b skips).world ≡ b.world)
    × ((with_skips b skips).actor ≡ b.actor)
skips_world b [] = (refl, refl)
skips_world b (s ∷ rest) = skips_world (with_entry b s Skip) rest

pub skips_turns : (b : BenchState) (skips : List ℕ) → turns_made (with_skips b skips).list ≡ turns_made b.list
skips_turns b [] = refl
skips_turns b (s ∷ rest) = skips_turns (with_entry b s Skip) rest ∙ turn_same b.list (entry_at b s Skip)
    (ap is_skip (event_at b s Skip))

pub skips_inputs : (b : BenchState) (skips : List ℕ) → inputs_used (with_skips b skips).list ≡ inputs_used b.list
skips_inputs b [] = refl
skips_inputs b (s ∷ rest) = skips_inputs (with_entry b s Skip) rest ∙ input_same b.list (entry_at b s Skip)
    (ap is_outside (event_at b s Skip))

-- a stamp was drawn after some skips
pub one_drawn : (old s new : Stationed) (held : Option Held) (skips : List ℕ) (stamp : ℕ) →
    HasSkipped old held skips [] s → halted_in s.kept.bench ≡ false
    → length s.kept.bench.list < 2 ^ 32 → new.kept ≡ s.kept →
    new.seat ≡ record s.seat { drawn = s.seat.drawn ++ stamp ∷ [] } → new.inputs ≡ s.inputs → new.turns ≡ s.turns
    → All (λ x. x < stamp) s.seat.drawn → HasSkipped old held skips (stamp ∷ []) new × CanAdd new stamp
one_drawn old s new held skips stamp has running short kept seat inputs turns above =
    let can = drawn_can s new stamp has.steady running short kept seat inputs above in (
      record {
        are = has.are;
        bench = ap (λ (k : KeptState). k.bench) kept ∙ has.bench;
        seat = seat ∙ ap (λ (d : Drawer). record d { drawn = d.drawn ++ stamp ∷ [] }) has.seat
            ∙ again old.seat skips stamp;
        inputs = inputs ∙ has.inputs;
        turns = turns ∙ has.turns;
        steady = can.steady;
      },
      can,
    )
  where
    again : (d : Drawer) (skips : List ℕ) (stamp : ℕ) →
        record d { drawn = (d.drawn ++ (skips ++ [])) ++ stamp ∷ [] } ≡ drew d (skips ++ stamp ∷ [])
    again d skips stamp = ap (λ (xs : List ℕ). record d { drawn = xs })
        (ap (λ (xs : List ℕ). (d.drawn ++ xs) ++ stamp ∷ []) (append-nil skips)
        ∙ append_assoc d.drawn skips (stamp ∷ []))

skips_more : (held : Option Held) (skips : List ℕ) (stamp : ℕ) → AreSkips held skips → is_early held stamp ≡ true →
    length skips < 16 → AreSkips held (skips ++ stamp ∷ [])
skips_more held skips stamp are early few = record {
  early = list_all-append (is_early held) skips (stamp ∷ []) ∙ and_from (list_all (is_early held) skips)
      (is_early held stamp && true) are.early (and_from (is_early held stamp) true early refl);
  few = omega (arith, length_push skips stamp);
}

-- the stamp was made a skip
pub one_skipped : (old s new : Stationed) (held : Option Held) (skips : List ℕ) (stamp : ℕ) →
    HasSkipped old held skips (stamp ∷ []) s → CanAdd s stamp → is_early held stamp ≡ true → length skips < 16
    → new.kept.bench ≡ with_entry s.kept.bench stamp Skip → new.kept.is_spent ≡ false → new.seat ≡ s.seat →
    new.inputs ≡ s.inputs → new.turns ≡ s.turns
    → HasSkipped old held (skips ++ stamp ∷ []) [] new
one_skipped old s new held skips stamp has can early few added works seat inputs turns =
    let b = s.kept.bench in
    record {
      are = skips_more held skips stamp has.are early few;
      bench = added ∙ ap (λ (x : BenchState). with_entry x stamp Skip) has.bench
          ∙ sym (skips_push old.kept.bench skips stamp);
      seat = seat ∙ has.seat ∙ ap (λ (xs : List ℕ). drew old.seat xs) (sym (append-nil (skips ++ stamp ∷ [])));
      inputs = inputs ∙ has.inputs;
      turns = turns ∙ has.turns;
      steady = steady_more s new stamp Skip b.signed can (skip_fits b) tt added
          (can.steady.signed ∙ sym (signed_same s.inputs b.list (b.list ++ entry_at b stamp Skip ∷ [])
          (input_same b.list (entry_at b stamp Skip) (ap is_outside (event_at b stamp Skip)))))
          works seat inputs;
    }

-- What holds before each draw of a turn: so many skips were made.
pub record Skips (old : Stationed) (held : Option Held) (made : ℕ) (s : Stationed) : Type 0 where
  pub skips : List ℕ
  pub has : HasSkipped old held skips [] s
  pub many : length skips ≡ made
  pub running : halted_in s.kept.bench ≡ false

-- how long the list is then
pub skipped_short : (old s : Stationed) (held : Option Held) (made used count : ℕ) → IsAlive old used count →
    halted_in old.kept.bench ≡ false → Skips old held made s → length s.kept.bench.list < 2 ^ 32
skipped_short old s held made used count alive running k =
    let long : length s.kept.bench.list ≡ length (old.kept.bench.list ++ skip_entries old.kept.bench k.skips) =
    ap (λ (b : BenchState). length b.list) k.has.bench ∙ ap length (skips_list old.kept.bench k.skips) in
    let few = k.has.are.few in
    let short = alive.short running in
    let made_few = alive.made in
    let most = alive.most in
    omega (
      arith,
      length-append old.kept.bench.list (skip_entries old.kept.bench k.skips),
      skips_length old.kept.bench k.skips,
    )

-- the ways in which the draws of a turn end
pub ends_late : (old s new : Stationed) (held : Option Held) (made stamp used count : ℕ) → IsAlive old used count →
    halted_in old.kept.bench ≡ false → Skips old held made s
    → new.kept ≡ s.kept → new.seat ≡ record s.seat { drawn = s.seat.drawn ++ stamp ∷ [] } → new.inputs ≡ s.inputs →
    new.turns ≡ s.turns → All (λ x. x < stamp) s.seat.drawn
    → (is_early held stamp ≡ true → made ≡ 16) → Draws old held stamp new
ends_late old s new held made stamp used count alive running k kept seat inputs turns above late =
    let drawn = one_drawn old s new held k.skips stamp k.has k.running
    (skipped_short old s held made used count alive running k) kept seat inputs turns above in
    inr (record { skips = k.skips; skipped = drawn.0; late = λ early. k.many ∙ late early; can = drawn.1 })

-- the stamp that was drawn, as one that can be made a skip
pub record Drawn (old : Stationed) (held : Option Held) (made stamp : ℕ) (s : Stationed) : Type 0 where
  pub skips : List ℕ
  pub has : HasSkipped old held skips (stamp ∷ []) s
  pub many : length skips ≡ made
  pub can : CanAdd s stamp

pub drawn_more : (old s new : Stationed) (held : Option Held) (made stamp used count : ℕ) → IsAlive old used count →
    halted_in old.kept.bench ≡ false → Skips old held made s
    → new.kept ≡ s.kept → new.seat ≡ record s.seat { drawn = s.seat.drawn ++ stamp ∷ [] } → new.inputs ≡ s.inputs →
    new.turns ≡ s.turns → All (λ x. x < stamp) s.seat.drawn
    → Drawn old held made stamp new
drawn_more old s new held made stamp used count alive running k kept seat inputs turns above =
    let drawn = one_drawn old s new held k.skips stamp k.has k.running
    (skipped_short old s held made used count alive running k) kept seat inputs turns above in
    record { skips = k.skips; has = drawn.0; many = k.many; can = drawn.1 }

pub drawn_world : (old s : Stationed) (held : Option Held) (made stamp : ℕ) → Drawn old held made stamp s →
    s.kept.bench.world ≡ old.kept.bench.world
drawn_world old s held made stamp d = ap (λ (b : BenchState). b.world) d.has.bench
    ∙ (skips_world old.kept.bench d.skips).0

-- after the skip the actor is halted, and the turn ends
pub ends_cut : (old s new : Stationed) (held : Option Held) (made stamp : ℕ) → Drawn old held made stamp s →
    is_early held stamp ≡ true → made < 16
    → new.kept.bench ≡ with_entry s.kept.bench stamp Skip → new.kept.is_spent ≡ false → new.seat ≡ s.seat →
    new.inputs ≡ s.inputs → new.turns ≡ s.turns
    → halted_in new.kept.bench ≡ true → Draws old held stamp new
ends_cut old s new held made stamp d early few added works seat inputs turns halted =
    let many = d.many in
    inl (record {
      skips = d.skips;
      skipped = one_skipped old s new held d.skips stamp d.has d.can early (omega arith)
          added works seat inputs turns;
      halted = halted;
    })

-- or it isn't, and another stamp is drawn
pub skips_on : (old s new : Stationed) (held : Option Held) (made stamp : ℕ) → Drawn old held made stamp s →
    is_early held stamp ≡ true → made < 16
    → new.kept.bench ≡ with_entry s.kept.bench stamp Skip → new.kept.is_spent ≡ false → new.seat ≡ s.seat →
    new.inputs ≡ s.inputs → new.turns ≡ s.turns
    → halted_in new.kept.bench ≡ false → Skips old held (made + 1) new
skips_on old s new held made stamp d early few added works seat inputs turns running =
    let many = d.many in
    record {
      skips = d.skips ++ stamp ∷ [];
      has = one_skipped old s new held d.skips stamp d.has d.can early (omega arith) added works seat inputs turns;
      many = omega (arith, length_push d.skips stamp);
      running = running;
    }

-- the actor's state with another seat, or after an act
abbrev pub seated_so : Stationed → Drawer → Stationed
seated_so s seat = record s { seat = seat }

abbrev pub kept_so : Stationed → KeptState → Stationed
kept_so s kept = record s { kept = kept }
