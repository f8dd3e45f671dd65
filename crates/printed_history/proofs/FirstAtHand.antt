-- What is at hand before the first entry.
use Rattle.std.proofs.Common.{false, ◌≡◌, ℕ, zero, suc, List, [], ◌∷◌, ◌++◌, Option, Some, length, map, replicate}
use Rattle.std.proofs.Common.{refl, sym, ◌∙◌, ap, subst, arith}
use Rattle.std.proofs.lemmas.List.{map-append}
use Rattle.std.specs.List.{list_all}
use Rattle.std.specs.Prelude.{slice_get}
use Rattle.quorum_sets.specs.Masters.{numbers_below}
use Rattle.scenario_file.specs.declared.actors.Cast.{Cast}
use Rattle.scenario_file.specs.Actors.{actors_of}
use Rattle.scenario_file.specs.Reading.{Contents, cast_of}
use Rattle.scenario_file.specs.Valid.{IsScenario}
use Rattle.agreement.proofs.KnownAsItGrows.{own_none}
use Rattle.history_rules.specs.Events.{Entry}
use Rattle.history_rules.specs.Keeping.{keeper_calls}
use Rattle.history_rules.specs.Legal.{IsLegal}
use Rattle.message_types.specs.declared.signed.Signed.{Signed}
use Rattle.message_types.specs.declared.body.Body.{Body}
use Rattle.world_history.specs.Signed.{ring_in}
use Rattle.history_laws.proofs.EntryByEntry.{none_is_legal}
use Rattle.world_rules.specs.Frames.{frames_at_stamp}
use Rattle.world_rules.specs.Scenarios.{setup_of, actors_in}
use Rattle.world_history.specs.State.{BenchState}
use Rattle.world_history.specs.Benches.{bench_in}
use Rattle.world_history.proofs.HistoryReplays.{bench_with}
use Rattle.printed_history.specs.declared.reading.SoFar.{SoFar}
use Rattle.printed_history.specs.Reading.{calls_by, standing_frame, frame_in, contents_in, is_among, those_of, IsAtHand}
use Rattle.printed_history.specs.Reading.{IsBegun}

zero_last : (n : ℕ) → ◌++◌ {A = ℕ} (replicate n 0) (0 ∷ []) ≡ replicate (suc n) 0
zero_last zero = refl
zero_last (suc n) = ap (λ (xs : List ℕ). 0 ∷ xs) (zero_last n)

zeros : (f : ℕ → ℕ) (n : ℕ) → ((k : ℕ) → f k ≡ 0) → replicate n 0 ≡ map f (numbers_below n)
unfolding numbers_below
zeros f zero none = refl
zeros f (suc n) none =
    sym (zero_last n)
    ∙ (λ i. zeros f n none i ++ sym (none n) i ∷ [])
    ∙ sym (map-append f (numbers_below n) (n ∷ []))

-- no keeper was called
none_called : (c : Contents) (actors : ℕ) (calls : List ℕ) → actors ≡ actors_in c → calls ≡ replicate actors 0 →
    calls ≡ map (calls_by []) (numbers_below (actors_in c))
none_called c actors calls all is =
    is ∙ ap (λ (n : ℕ). replicate n 0) all
    ∙ zeros (calls_by []) (actors_in c) (λ k. ap (λ (es : List Entry). length (keeper_calls es)) (own_none k))

-- so many are all actors
pub all_counted : (c : Contents) (cast : Cast) (actors : ℕ) → cast ≡ cast_of c.settings c.plant →
    actors ≡ actors_of cast → actors ≡ actors_in c
all_counted c cast actors is all =
    let many : actors ≡ actors_of (cast_of c.settings c.plant) = all ∙ ap actors_of is in
    omega arith

-- the bench of one actor before its first event
pub one_begun : (c : Contents) (actor : ℕ) (benches : List BenchState) (b : BenchState) →
    b ≡ record { world = c; actor = actor; list = []; signed = 0; is_spent = false } → benches ≡ b ∷ [] →
    benches ≡ map (bench_in c []) (those_of c (Some actor))
one_begun c actor benches b is are =
    are ∙ ap (λ (x : BenchState). x ∷ []) (is ∙ ap (bench_with c actor) (sym (own_none actor)))

-- no frame was said
pub none_posted : (c : Contents) (s p : ℕ) →
    frame_in [] s p ≡ standing_frame (setup_of c) (slice_get (frames_at_stamp (setup_of c) [] s) p)
unfolding frames_at_stamp
none_posted c s p = refl

-- all that is at hand before the first entry
pub begins : (c : Contents) (r : SoFar) (only : Option ℕ) (actors : ℕ) → IsScenario c → contents_in r ≡ c →
    r.only ≡ only → r.ring ≡ ring_in c → r.benches.items ≡ map (bench_in c []) (those_of c only) → actors ≡ actors_in c →
    r.calls.items ≡ replicate actors 0 → r.posted ≡ [] → r.history ≡ [] → IsBegun c only r
begins c r only actors scenario same at_hand ring benches all calls posted history = record {
  is_so_far = subst (λ (x : Contents). IsAtHand x r) (sym same) hand;
  same = same;
  at_hand = at_hand;
  none = history;
}
  where
    hand : IsAtHand c r
    hand = record {
      scenario = scenario;
      is_legal = subst (IsLegal (setup_of c)) (sym history) (none_is_legal (setup_of c));
      are_theirs = ap (list_all (λ (e : Entry). is_among r.only e.actor)) history;
      is_ring = ring;
      are_benches = benches ∙ (λ i. map (bench_in c (sym history i)) (those_of c (sym at_hand i)));
      are_calls = none_called c actors r.calls.items all calls
          ∙ ap (λ (es : List Entry). map (calls_by es) (numbers_below (actors_in c))) (sym history);
      as_many = ap length posted ∙ sym (ap length history);
      are_frames = λ s p.
          ap (λ (ps : List (List (Signed Body))). frame_in ps s p) posted ∙ none_posted c s p
          ∙ ap (λ (es : List Entry). standing_frame (setup_of c) (slice_get (frames_at_stamp (setup_of c) es s) p))
          (sym history);
    }
