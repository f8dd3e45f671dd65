-- What a correct actor says at an entry of its list stands, and is all that the entry says.
use Rattle.std.proofs.Common.{◌≡◌, ℕ, ◌+◌, ◌-◌, ◌<◌, ◌≤◌, ◌^◌, Bool, true, false, not, ◌&&◌, List, [], ◌∷◌, ◌++◌}
use Rattle.std.proofs.Common.{Option, Some, None, length, map, nat_lt, nat_eq, append_assoc, append-nil, refl, sym, ◌∙◌, ap}
use Rattle.std.proofs.Common.{subst, arith}
use Rattle.std.proofs.lemmas.Bool.{ltb-true, and_from, and_parts}
use Rattle.std.proofs.lemmas.List.{length-append, length-map}
use Rattle.std.specs.Borrow.{Bor}
use Rattle.std.specs.List.{list_all, flat_map}
use Rattle.std.specs.Option.{option_map}
use Rattle.std.specs.Prelude.{slice_get}
use Rattle.agreement.proofs.Places.{stands_on}
use Rattle.bench_rules.specs.Lists.{frames_after}
use Rattle.bench_rules.proofs.FramesStand.{master_frames_stand}
use Rattle.client_roles.specs.Roles.{carries_well}
use Rattle.history_laws.specs.BenchLists.{IsBenchList}
use Rattle.history_laws.specs.Own.{IsOwnHistory}
use Rattle.history_laws.proofs.BenchLists.{own_history_is_bench_list}
use Rattle.history_laws.proofs.OwnEntries.{own_of_legal}
use Rattle.history_rules.specs.Events.{Event, Took, Tick, Command, Field, Poll, Cry, Skip, Restart, Entry}
use Rattle.history_rules.specs.Setup.{Setup, is_correct_master, own, stands}
use Rattle.history_rules.specs.Legal.{Stands, IsLegal}
use Rattle.joint_lists.specs.Stations.{IsStation, acts_alone}
use Rattle.joint_lists.proofs.Alone.{own_alone}
use Rattle.message_types.specs.declared.signed.Signed.{Signed}
use Rattle.message_types.specs.declared.body.Body.{Body}
use Rattle.protocol_rules.specs.Group.{Group}
use Rattle.quorum_sets.specs.Masters.{has_master}
use Rattle.scenario_file.specs.Reading.{Contents}
use Rattle.scenario_file.specs.Valid.{IsScenario}
use Rattle.world_entries.specs.declared.entry.Entry.{Entry as KeptEntry}
use Rattle.world_entries.specs.Entries.{entry_of}
use Rattle.world_history.specs.Benches.{bench_in}
use Rattle.world_history.specs.Roles.{Comes}
use Rattle.world_history.specs.Seats.{frames_of_each}
use Rattle.world_history.specs.State.{BenchState, setup_in}
use Rattle.world_history.proofs.ClientEntry.{client_stands}
use Rattle.world_history.proofs.IntrudedEntry.{who_cries}
use Rattle.world_rules.specs.Frames.{cried, frames_of}
use Rattle.world_rules.specs.Scenarios.{HasKey, setup_of, group_in, masters_in, actors_in, fits_in}
use Rattle.world_rules.proofs.Fields.{setup_goes_by, group_is, sizes_of_group}
use Rattle.world_rules.proofs.Signed.{signatures_sign}
use Rattle.station_lives.specs.Saying.{word_line, word_lines}

-- an entry of a station's list, as one that its actor comes to
comes_so : (c : Contents) (actor : ℕ) (list before : List Entry) (e : Entry) → IsScenario c → IsStation c actor list →
    actor < actors_in c → HasKey c actor → Stands list before e → length before < 2 ^ 32 →
    carries_well e.event ≡ true → Comes c actor before e
comes_so c actor list before e valid is there key at short carried = record {
  scenario = valid;
  there = there;
  key = key;
  list = before_it;
  adds = bench.entries before e at;
  short = short;
  carried = carried;
}
  where
    bench : IsBenchList (setup_of c) actor list
    bench = own_history_is_bench_list (setup_of c) actor list
        (subst (IsOwnHistory (setup_of c) actor) (own_alone actor list is.alone)
        (own_of_legal (setup_of c) list actor is.legal))

    before_it : IsBenchList (setup_of c) actor before
    before_it = record {
      entries = λ first x s.
          bench.entries first x (subst (λ (es : List Entry). Stands es first x) (sym at.whole) (stands_on (e ∷ at.after) s));
    }

-- a correct master, or a client
pub said_stand : (c : Contents) (actor : ℕ) (list before : List Entry) (e : Entry) → IsScenario c →
    IsStation c actor list → actor < actors_in c → HasKey c actor → not (has_master c.settings.intruded actor) ≡ true →
    Stands list before e → length before < 2 ^ 32 → carries_well e.event ≡ true →
    list_all (stands (setup_of c)) (frames_after (setup_of c) actor before e) ≡ true
said_stand c actor list before e valid is there key correct at short carried = by (nat_lt actor (masters_in c)) refl
  where
    comes : Comes c actor before e
    comes = comes_so c actor list before e valid is there key at short carried

    by : (b : Bool) → nat_lt actor (masters_in c) ≡ b →
        list_all (stands (setup_of c)) (frames_after (setup_of c) actor before e) ≡ true
    by true low =
        master_frames_stand (setup_of c) actor before e (sizes_of_group c valid)
        (signatures_sign c actor valid key)
        (and_from (nat_lt actor (setup_of c).group.n) (not ((setup_of c).intruded actor))
        (ap (λ (g : Group). nat_lt actor g.n) (group_is c) ∙ low)
        (ap not ((setup_goes_by c).intruded actor) ∙ correct))
        comes.list comes.adds comes.short
    by false high =
        let low : masters_in c ≤ actor = grind (arith, high) in
        let is_client : actor ≡ masters_in c + (actor - masters_in c) = omega arith in
        client_stands c actor (actor - masters_in c) before e comes is_client

-- it cries nothing
no_cry : (c : Contents) (actor : ℕ) (event : Event) → not (has_master c.settings.intruded actor) ≡ true →
    (setup_of c).fits actor event ≡ true → cried event ≡ []
no_cry c actor (Cry bytes) correct fits =
    let who = who_cries c actor bytes (sym ((setup_goes_by c).fits actor (Cry bytes)) ∙ fits) in
    absurd (both (sym (ap not who.1) ∙ correct))
  where
    both : false ≡ true → ⊥
    both e = cc
no_cry c actor (Took s p f) correct fits = refl
no_cry c actor Tick correct fits = refl
no_cry c actor (Command op) correct fits = refl
no_cry c actor (Field area place value) correct fits = refl
no_cry c actor Poll correct fits = refl
no_cry c actor Skip correct fits = refl
no_cry c actor Restart correct fits = refl

-- the entry is the actor's
pub its_actor : (c : Contents) (actor : ℕ) (list before : List Entry) (e : Entry) → IsStation c actor list →
    Stands list before e → e.actor ≡ actor
its_actor c actor list before e is at =
    ((own_of_legal (setup_of c) list actor is.legal).entries before e
    (subst (λ (es : List Entry). Stands es before e) (sym (own_alone actor list is.alone)) at)).by

-- so its words are what it said
pub words_are : (c : Contents) (actor : ℕ) (list before : List Entry) (e : Entry) → IsStation c actor list →
    not (has_master c.settings.intruded actor) ≡ true → Stands list before e →
    flat_map (word_line c actor) (frames_after (setup_of c) actor before e) ≡ word_lines c before e
words_are c actor list before e is correct at =
    (λ i. flat_map (word_line c (sym same i)) (frames_after (setup_of c) (sym same i) before e))
    ∙ ap (flat_map (word_line c e.actor))
    (sym (append-nil (frames_after (setup_of c) e.actor before e))
    ∙ ap (λ (fs : List (Signed Body)). frames_after (setup_of c) e.actor before e ++ fs) (sym silent))
  where
    same : e.actor ≡ actor
    same = its_actor c actor list before e is at

    silent : cried e.event ≡ []
    silent = no_cry c actor e.event correct
        (subst (λ (a : ℕ). (setup_of c).fits a e.event ≡ true) same (is.legal.entries before e at).role)

-- the frames at a place
frames_at : (w : Setup) (actor : ℕ) (front before after : List Entry) (e : Entry) →
    slice_get (frames_of_each w actor front (before ++ e ∷ after)) (length before) ≡ Some
    (frames_after w actor (front ++ before) e)
frames_at w actor front [] after e = ap (λ (es : List Entry). Some (frames_after w actor es e)) (sym (append-nil front))
frames_at w actor front (x ∷ before) after e =
    frames_at w actor (front ++ x ∷ []) before after e
    ∙ ap (λ (es : List Entry). Some (frames_after w actor es e)) (append_assoc front (x ∷ []) before)

-- and those that a bench shows
pub shown_at : (c : Contents) (actor : ℕ) (list before after : List Entry) (e : Entry) (b : BenchState) (place : ℕ)
    (o : Option (Bor (List (Signed Body)))) → acts_alone actor list ≡ true → b ≡ bench_in c list actor →
    list ≡ before ++ e ∷ after → length before ≡ place →
    option_map (λ frames. frames.now) o ≡ slice_get (frames_of_each (setup_in b) b.actor [] b.list) place →
    option_map (λ frames. frames.now) o ≡ Some (frames_after (setup_of c) actor before e)
shown_at c actor list before after e b place o alone is whole here told =
    told ∙ ap (λ (x : BenchState). slice_get (frames_of_each (setup_in x) x.actor [] x.list) place) is
    ∙ (λ i. slice_get (frames_of_each (setup_of c) actor [] ((own_alone actor list alone ∙ whole) i)) (sym here i))
    ∙ frames_at (setup_of c) actor [] before after e
