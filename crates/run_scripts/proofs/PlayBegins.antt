-- A play at its beginning.
use Rattle.std.proofs.Common.{◌≡◌, ℕ, ◌<◌, false, not, List, [], ◌∷◌, length, map, filter}
use Rattle.std.proofs.Common.{take, drop, get_or, refl, sym, ◌∙◌, ap, arith, replicate}
use Rattle.std.proofs.lemmas.List.{length-map, length-replicate, get_or-map, get_or-replicate}
use Rattle.quorum_sets.specs.Masters.{numbers_below}
use Rattle.scenario_file.specs.Reading.{Contents}
use Rattle.history_rules.specs.Setup.{own}
use Rattle.world_history.specs.Lists.{replayed}
use Rattle.world_history.specs.KeptState.{KeptState, first_state}
use Rattle.script_lines.specs.declared.saying.Saying.{Saying}
use Rattle.script_lines.specs.Given.{own_words}
use Rattle.world_rules.specs.Scenarios.{actors_in}
use Rattle.run_scripts.specs.declared.playing.Playing.{Playing}
use Rattle.play_words.specs.Accepted.{is_raw}
use Rattle.run_scripts.specs.Making.{Given, bench_at, beginning}
use Rattle.run_scripts.specs.Playing.{IsMaking, IsMail, IsKeptAt, IsSaidTo}
use Rattle.run_scripts.proofs.PlayKeeps.{beginning_sound}
use Rattle.quorum_sets.proofs.Numbered.{length-numbers_below}
use Rattle.world_history.proofs.Lists.{number_at}

take_none : {X : Type 0} (xs : List X) → take 0 xs ≡ []
take_none [] = refl
take_none (x ∷ xs) = refl

drop_none : {X : Type 0} (xs : List X) → drop 0 xs ≡ xs
drop_none [] = refl
drop_none (x ∷ xs) = refl

-- an actor before its first event
first_bench : (g : Given) (actor : ℕ) → replayed g.scenario actor [] ≡ bench_at g [] actor
unfolding bench_at own
first_bench g actor =
    ap (λ (n : ℕ). record { world = g.scenario; actor = actor; list = []; signed = n; is_spent = false })
    (sym (ap (λ (ws : List Saying). length (filter (λ (s : Saying). not (is_raw s.word)) ws))
    (take_none (own_words actor g.sayings))))

first_kept : (g : Given) (kept : List KeptState) (actor : ℕ) (k : KeptState) →
    kept ≡ map (first_state g.scenario) (numbers_below (actors_in g.scenario)) → actor < actors_in g.scenario
    → k ≡ get_or kept actor k → IsKeptAt g [] actor k
first_kept g kept actor k are below at =
    let same : k ≡ first_state g.scenario actor =
    at ∙ ap (λ (ks : List KeptState). get_or ks actor k) are
    ∙ get_or-map (first_state g.scenario) (numbers_below (actors_in g.scenario)) actor 0 k
    (let long = length-numbers_below (actors_in g.scenario) in omega arith)
    ∙ ap (first_state g.scenario) (number_at (actors_in g.scenario) actor 0 below) in
    record {
      bench = ap (λ (x : KeptState). x.bench) same ∙ first_bench g actor;
      works =
          ap (λ (x : KeptState). x.is_spent) same;
    }

none_said_to : (g : Given) (said : List ℕ) (actor : ℕ) → said ≡ replicate (actors_in g.scenario) 0 →
    actor < actors_in g.scenario → IsSaidTo g [] actor (get_or said actor 0)
unfolding own
none_said_to g said actor are below =
    ap (λ (n : ℕ). own_words actor (drop n g.sayings)) (ap (λ (ns : List ℕ). get_or ns actor 0) are
    ∙ get_or-replicate (actors_in g.scenario) actor 0 0 below)
    ∙ ap (own_words actor) (drop_none g.sayings) ∙ sym (drop_none (own_words actor g.sayings))

pub begun : (c : Contents) (sayings : List Saying) (p : Playing) →
    p.kept.items ≡ map (first_state c) (numbers_below (actors_in c)) → p.entries ≡ 0
    → IsMail (actors_in c) [] [] p.mail → p.lost.items ≡ [] → p.said.items ≡ replicate (actors_in c) 0
    → IsMaking (record { scenario = c; sayings = sayings }) beginning p
begun c sayings p kept entries mail lost said =
    let g : Given = record { scenario = c; sayings = sayings } in
    record {
      sound = beginning_sound c;
      many = ap length kept ∙ length-map (numbers_below (actors_in c)) (first_state c)
          ∙ length-numbers_below (actors_in c);
      kept = λ actor k below at. first_kept g p.kept.items actor k kept below at;
      entries = entries;
      mail = mail;
      lost = lost;
      speakers = ap length said ∙ length-replicate (actors_in c) 0;
      said = λ actor below. none_said_to g p.said.items actor said below;
    }
