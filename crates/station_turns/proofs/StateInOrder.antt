-- An entry more of an actor whose state is in order.
use Rattle.std.proofs.Common.{◌≡◌, ℕ, suc, ◌+◌, ◌<◌, ◌^◌, Bool, true, false, List, [], ◌∷◌, ◌++◌, length}
use Rattle.std.proofs.Common.{map, nat_lt, refl, sym, ◌∙◌, ap, subst, arith, append-nil}
use Rattle.std.specs.List.{list_all}
use Rattle.std.specs.Prelude.{All}
use Rattle.std.proofs.lemmas.Bool.{and_from, lt-ltb}
use Rattle.std.proofs.lemmas.List.{map-append, length-append}
use Rattle.play_words.specs.declared.input.Input.{Input}
use Rattle.history_rules.specs.Events.{Event, Entry}
use Rattle.history_rules.specs.Legal.{TakesWell, says_in}
use Rattle.history_laws.specs.Own.{IsOwnHistory}
use Rattle.history_laws.proofs.EntryByEntry.{one_more_is_own}
use Rattle.world_rules.specs.Scenarios.{actors_in}
use Rattle.stamps.specs.Seats.{Drawer}
use Rattle.world_history.specs.State.{BenchState, setup_in, entry_at, with_entry}
use Rattle.world_history.specs.KeptState.{KeptState, halted_in}
use Rattle.station_turns.specs.Pace.{fit_inputs, words_signed, bench_after}
use Rattle.station_turns.specs.Turns.{Stationed, IsSteady, CanAdd}
use Rattle.world_history.proofs.KeptGrows.{stamp_at}
use Rattle.world_history.proofs.WordsSigned.{signed_so}

pub entry_so : (b : BenchState) (n stamp : ℕ) (event : Event) →
    entry_at (signed_so b n) stamp event ≡ entry_at b stamp event
unfolding entry_at
entry_so b n stamp event = refl

-- the actor could add it
pub own_more : (b : BenchState) (stamp : ℕ) (event : Event) → IsOwnHistory (setup_in b) b.actor b.list →
    halted_in b ≡ false → (setup_in b).fits b.actor event ≡ true
    → list_all (λ (e : Entry). nat_lt e.stamp stamp) b.list ≡ true → TakesWell (setup_in b) stamp event
    → IsOwnHistory (setup_in b) b.actor (b.list ++ entry_at b stamp event ∷ [])
unfolding entry_at
own_more b stamp event own running fits later taken =
    one_more_is_own (setup_in b) b.actor b.list
    (record { stamp = stamp; actor = b.actor; event = event; said = says_in (setup_in b) b.actor b.list event }) own
    (record { by = refl; later = later; running = running; role = fits; taken = taken; said = refl })

stamps_more : (list : List Entry) (e : Entry) (stamp : ℕ) → e.stamp ≡ stamp → map (λ (x : Entry). x.stamp) list
    ++ stamp ∷ [] ≡ map (λ (x : Entry). x.stamp) (list ++ e ∷ []) ++ []
stamps_more list e stamp is =
    ap (λ (n : ℕ). map (λ (x : Entry). x.stamp) list ++ n ∷ []) (sym is)
    ∙ sym (map-append (λ (x : Entry). x.stamp) list (e ∷ []))
    ∙ sym (append-nil (map (λ (x : Entry). x.stamp) (list ++ e ∷ [])))

-- The state is in order after the entry, where the number of words signed is.
pub steady_more : (s new : Stationed) (stamp : ℕ) (event : Event) (n : ℕ) → CanAdd s stamp →
    (setup_in s.kept.bench).fits s.kept.bench.actor event ≡ true
    → TakesWell (setup_in s.kept.bench) stamp event → new.kept.bench ≡ with_entry (signed_so s.kept.bench n) stamp event
    → n ≡ words_signed s.inputs (s.kept.bench.list ++ entry_at s.kept.bench stamp event ∷ []) →
    new.kept.is_spent ≡ false → new.seat ≡ s.seat → new.inputs ≡ s.inputs
    → IsSteady new []
steady_more s new stamp event n can fits taken added signed works seat inputs =
    let b = s.kept.bench in
    let e : Entry = entry_at b stamp event in
    let list : new.kept.bench.list ≡ b.list ++ e ∷ [] = ap (λ (x : BenchState). x.list) added
    ∙ ap (λ (x : Entry). b.list ++ x ∷ []) (entry_so b n stamp event) in
    record {
      works = works;
      unspent = ap (λ (x : BenchState). x.is_spent) added ∙ can.steady.unspent;
      signed = ap (λ (x : BenchState). x.signed) added ∙ signed ∙ ap (λ (l : List Entry). words_signed s.inputs l)
          (sym list) ∙ ap (λ (i : List Input). words_signed i new.kept.bench.list) (sym inputs);
      there = subst (λ (x : BenchState). x.actor < actors_in x.world) (sym added) can.steady.there;
      number = ap (λ (d : Drawer). d.number) seat ∙ can.steady.number
          ∙ sym (ap (λ (x : BenchState). x.actor + 1) added);
      alone = subst (λ (d : Drawer). d.numbers ≡ d.number ∷ []) (sym seat) can.steady.alone;
      stamps = ap (λ (d : Drawer). d.drawn) seat ∙ can.steady.stamps
          ∙ stamps_more b.list e stamp (stamp_at b stamp event)
          ∙ ap (λ (l : List Entry). map (λ (x : Entry). x.stamp) l ++ []) (sym list);
      own = subst (λ (x : BenchState). IsOwnHistory (setup_in x) x.actor x.list) (sym added)
          (subst (λ (x : Entry). IsOwnHistory (setup_in b) b.actor (b.list ++ x ∷ []))
          (sym (entry_so b n stamp event))
          (own_more b stamp event can.steady.own can.running fits can.later taken));
      inputs = subst (λ (x : BenchState). fit_inputs x.world x.actor new.inputs ≡ true) (sym added)
          (subst (λ (i : List Input). fit_inputs b.world b.actor i ≡ true) (sym inputs) can.steady.inputs);
    }

-- the actor is the one that its list makes it
pub bench_is : (b : BenchState) (inputs : List Input) → b.signed ≡ words_signed inputs b.list → b.is_spent ≡ false →
    b ≡ bench_after b.world b.actor inputs b.list
bench_is b inputs signed unspent =
    ap (λ (n : ℕ). record { world = b.world; actor = b.actor; list = b.list; signed = n; is_spent = b.is_spent }) signed
    ∙ ap (λ (x : Bool). record {
      world = b.world;
      actor = b.actor;
      list = b.list;
      signed = words_signed inputs b.list;
      is_spent = x;
    }) unspent

pub steady_bench : (s : Stationed) (more : List ℕ) → IsSteady s more →
    s.kept.bench ≡ bench_after s.kept.bench.world s.kept.bench.actor s.inputs s.kept.bench.list
steady_bench s more steady = bench_is s.kept.bench s.inputs steady.signed steady.unspent

-- the same after an entry, whatever is said of the actor's words
pub entered_bench : (s new : Stationed) (stamp : ℕ) (event : Event) (n : ℕ) → IsSteady new [] →
    new.kept.bench ≡ with_entry (signed_so s.kept.bench n) stamp event → new.inputs ≡ s.inputs
    → new.kept.bench ≡ bench_after s.kept.bench.world s.kept.bench.actor s.inputs
    (s.kept.bench.list ++ entry_at s.kept.bench stamp event ∷ [])
entered_bench s new stamp event n steady added inputs =
    let b = s.kept.bench in
    steady_bench new [] steady
    ∙ ap (λ (x : BenchState). bench_after x.world x.actor new.inputs x.list) added
    ∙ ap (λ (x : Entry). bench_after b.world b.actor new.inputs (b.list ++ x ∷ [])) (entry_so b n stamp event)
    ∙ ap (λ (i : List Input). bench_after b.world b.actor i (b.list ++ entry_at b stamp event ∷ [])) inputs

-- what the list's stamps are below is above each of its entries
pub later_all : (list : List Entry) (stamp : ℕ) → All (λ x. x < stamp) (map (λ (e : Entry). e.stamp) list) →
    list_all (λ (e : Entry). nat_lt e.stamp stamp) list ≡ true
later_all list stamp all = by list all
  where
    by : (l : List Entry) → All (λ x. x < stamp) (map (λ (e : Entry). e.stamp) l) →
        list_all (λ (e : Entry). nat_lt e.stamp stamp) l ≡ true
    by [] each = refl
    by (e ∷ rest) each =
        and_from (nat_lt e.stamp stamp) (list_all (λ (x : Entry). nat_lt x.stamp stamp) rest)
        (lt-ltb e.stamp stamp (each 0 0 (omega arith)))
        (by rest (λ k d below. each (suc k) d (omega arith)))

-- how many stamps a seat has drawn
pub drawn_few : (s : Stationed) → IsSteady s [] → length s.kept.bench.list < 2 ^ 32 → length s.seat.drawn < 2 ^ 32
drawn_few s steady short =
    omega (
      arith,
      ap length steady.stamps,
      length-append (map (λ (e : Entry). e.stamp) s.kept.bench.list) [],
      length_map s.kept.bench.list,
    )
  where
    length_map : (l : List Entry) → length (map (λ (e : Entry). e.stamp) l) ≡ length l
    length_map [] = refl
    length_map (e ∷ rest) = ap suc (length_map rest)

-- A stamp that is drawn above all that the seat drew before can be an entry's.
pub drawn_can : (s new : Stationed) (stamp : ℕ) → IsSteady s [] → halted_in s.kept.bench ≡ false →
    length s.kept.bench.list < 2 ^ 32 → new.kept ≡ s.kept
    → new.seat ≡ record s.seat { drawn = s.seat.drawn ++ stamp ∷ [] } → new.inputs ≡ s.inputs →
    All (λ x. x < stamp) s.seat.drawn → CanAdd new stamp
drawn_can s new stamp steady running short kept seat inputs above =
    let b = s.kept.bench in
    let drawn : s.seat.drawn ≡ map (λ (e : Entry). e.stamp) b.list =
    steady.stamps ∙ append-nil (map (λ (e : Entry). e.stamp) b.list) in
    let later : list_all (λ (e : Entry). nat_lt e.stamp stamp) b.list ≡ true =
    later_all b.list stamp (subst (λ (xs : List ℕ). All (λ x. x < stamp) xs) drawn above) in
    record {
      steady = record {
        works = ap (λ (k : KeptState). k.is_spent) kept ∙ steady.works;
        unspent = ap (λ (k : KeptState). k.bench.is_spent) kept ∙ steady.unspent;
        signed = ap (λ (k : KeptState). k.bench.signed) kept ∙ steady.signed
            ∙ ap (λ (k : KeptState). words_signed s.inputs k.bench.list) (sym kept)
            ∙ ap (λ (i : List Input). words_signed i new.kept.bench.list) (sym inputs);
        there = subst (λ (k : KeptState). k.bench.actor < actors_in k.bench.world) (sym kept) steady.there;
        number = ap (λ (d : Drawer). d.number) seat ∙ steady.number
            ∙ sym (ap (λ (k : KeptState). k.bench.actor + 1) kept);
        alone = subst (λ (d : Drawer). d.numbers ≡ d.number ∷ []) (sym seat) steady.alone;
        stamps = ap (λ (d : Drawer). d.drawn) seat ∙ ap (λ (xs : List ℕ). xs ++ stamp ∷ []) drawn
            ∙ ap (λ (k : KeptState). map (λ (e : Entry). e.stamp) k.bench.list ++ stamp ∷ []) (sym kept);
        own = subst (λ (k : KeptState). IsOwnHistory (setup_in k.bench) k.bench.actor k.bench.list)
            (sym kept) steady.own;
        inputs = subst (λ (k : KeptState). fit_inputs k.bench.world k.bench.actor new.inputs ≡ true) (sym kept)
            (subst (λ (i : List Input). fit_inputs b.world b.actor i ≡ true) (sym inputs) steady.inputs);
      };
      later = subst (λ (k : KeptState). list_all (λ (e : Entry). nat_lt e.stamp stamp) k.bench.list ≡ true)
          (sym kept) later;
      running = subst (λ (k : KeptState). halted_in k.bench ≡ false) (sym kept) running;
      short = subst (λ (k : KeptState). length k.bench.list < 2 ^ 32) (sym kept) short;
    }
