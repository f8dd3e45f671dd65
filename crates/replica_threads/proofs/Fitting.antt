-- What a script and words give an actor is what it can be given.
use Rattle.std.proofs.Common.{◌≡◌, ℕ, zero, suc, ◌+◌, ◌<◌, Bool, true, false, cond, ◌&&◌, List, [], ◌∷◌, ◌++◌, length}
use Rattle.std.proofs.Common.{map, filter, take, drop, get_or, nat_eq, refl, sym, ◌∙◌, ap, subst, arith}
use Rattle.std.specs.List.{list_all, slice_index_or}
use Rattle.std.proofs.lemmas.Bool.{and_parts, and_from, eqb-true}
use Rattle.std.proofs.lemmas.List.{length-map, get_or-map}
use Rattle.quorum_sets.specs.Masters.{numbers_below}
use Rattle.play_words.specs.declared.input.Input.{Input}
use Rattle.play_words.specs.declared.input.Input.TheVariants as input
use Rattle.play_words.specs.Accepted.{is_accepted}
use Rattle.scenario_file.specs.Reading.{Contents, cast_of}
use Rattle.scenario_file.specs.Actors.{actors_of}
use Rattle.history_rules.specs.Events.{Event, Command, Field, Poll, Restart}
use Rattle.world_rules.specs.Scenarios.{fits_in, actors_in}
use Rattle.script_lines.specs.declared.saying.Saying.{Saying}
use Rattle.script_lines.specs.declared.script.Line.{Line}
use Rattle.script_lines.specs.declared.step.Step.{Step}
use Rattle.script_lines.specs.declared.step.Step.TheVariants as step
use Rattle.script_lines.specs.Given.{own_words, say, where_same, plain_at, given_at, left_after, given, inputs_of}
use Rattle.script_laws.specs.Accepted.{is_there, may_do, is_intruded, is_step_of, are_lines_of}
use Rattle.script_laws.specs.Accepted.{is_saying_of, are_sayings_of}
use Rattle.world_history.proofs.Lists.{all_join}
use Rattle.world_history.proofs.Lists.{number_at}
use Rattle.station_turns.specs.Pace.{fits_input, fit_inputs}
use Rattle.replica_threads.specs.Courses.{AreFit, inputs_given}
use Rattle.quorum_sets.proofs.Numbered.{length-numbers_below}
use Rattle.plain_lists.proofs.Lists.{all_filter}

-- some of what passes a test does so

module _ {X : Type 0} (f : X → Bool) where
  some_taken : (n : ℕ) (xs : List X) → list_all f xs ≡ true → list_all f (take n xs) ≡ true
  some_taken zero [] all = refl
  some_taken zero (x ∷ xs) all = refl
  some_taken (suc n) [] all = refl
  some_taken (suc n) (x ∷ xs) all = let parts = and_parts (f x) (list_all f xs) all in
      and_from (f x) (list_all f (take n xs)) parts.0 (some_taken n xs parts.1)

  some_left : (n : ℕ) (xs : List X) → list_all f xs ≡ true → list_all f (drop n xs) ≡ true
  some_left zero [] all = refl
  some_left zero (x ∷ xs) all = all
  some_left (suc n) [] all = refl
  some_left (suc n) (x ∷ xs) all = let parts = and_parts (f x) (list_all f xs) all in some_left n xs parts.1

-- what an event of another actor gives nobody, and one of its own its actor
same_fits : (c : Contents) (a b : ℕ) (i : Input) → fits_input c a i ≡ true → fit_inputs c b (where_same a b i) ≡ true
same_fits c a b i fits = by (nat_eq a b) refl
  where
    by : (x : Bool) → nat_eq a b ≡ x → fit_inputs c b (cond x (i ∷ []) []) ≡ true
    by true same = and_from (fits_input c b i) true
        (subst (λ (n : ℕ). fits_input c n i ≡ true) (eqb-true a b same) fits) refl
    by false other = refl

words_fit : (c : Contents) (actor : ℕ) (sayings : List Saying) → is_intruded c actor ≡ true →
    are_sayings_of c sayings ≡ true → fit_inputs c actor (map say sayings) ≡ true
unfolding is_saying_of
words_fit c actor [] intruded all = refl
words_fit c actor (s ∷ sayings) intruded all =
    let parts = and_parts (is_accepted s.word && list_all (is_there c) s.to) (are_sayings_of c sayings) all in
    let word = and_parts (is_accepted s.word) (list_all (is_there c) s.to) parts.0 in
    and_from (is_intruded c actor && is_accepted s.word && list_all (is_there c) s.to)
    (fit_inputs c actor (map say sayings))
    (and_from (is_intruded c actor && is_accepted s.word) (list_all (is_there c) s.to)
    (and_from (is_intruded c actor) (is_accepted s.word) intruded word.0) word.1)
    (words_fit c actor sayings intruded parts.1)

step_fits : (c : Contents) (actor : ℕ) (st : Step) (left : List Saying) → is_step_of c st ≡ true →
    are_sayings_of c left ≡ true → fit_inputs c actor (given_at actor st left) ≡ true
unfolding is_step_of
step_fits c actor (step.Command screen op) left is all =
    same_fits c screen actor (input.Command op) (and_parts (is_there c screen) (fits_in c screen (Command op)) is).1
step_fits c actor (step.Field proxy area place value) left is all =
    same_fits c proxy actor (input.Field area place value)
    (and_parts (is_there c proxy) (fits_in c proxy (Field area place value)) is).1
step_fits c actor (step.Poll proxy) left is all =
    same_fits c proxy actor input.Poll (and_parts (is_there c proxy) (fits_in c proxy Poll) is).1
step_fits c actor (step.Restart other) left is all =
    same_fits c other actor input.Restart (and_parts (is_there c other) (fits_in c other Restart) is).1
step_fits c actor (step.Cry master times) left is all = by (nat_eq master actor) refl
  where
    by : (x : Bool) → nat_eq master actor ≡ x → fit_inputs c actor (cond x (map say (take times left)) []) ≡ true
    by true same = words_fit c actor (take times left)
        (subst (λ (n : ℕ). is_intruded c n ≡ true) (eqb-true master actor same) is)
        (some_taken (is_saying_of c) times left all)
    by false other = refl
step_fits c actor (step.Tick who times) left is all = refl
step_fits c actor (step.Flow rounds) left is all = refl
step_fits c actor (step.Lose other) left is all = refl
step_fits c actor (step.Heal other) left is all = refl
step_fits c actor step.Drop left is all = refl
step_fits c actor (step.Take other frame) left is all = refl

left_fits : (c : Contents) (actor : ℕ) (st : Step) (left : List Saying) → are_sayings_of c left ≡ true →
    are_sayings_of c (left_after actor st left) ≡ true
left_fits c actor (step.Cry master times) left all = by (nat_eq master actor)
  where
    by : (x : Bool) → are_sayings_of c (cond x (drop times left) left) ≡ true
    by true = some_left (is_saying_of c) times left all
    by false = all
left_fits c actor (step.Tick who times) left all = all
left_fits c actor (step.Flow rounds) left all = all
left_fits c actor (step.Lose other) left all = all
left_fits c actor (step.Heal other) left all = all
left_fits c actor step.Drop left all = all
left_fits c actor (step.Take other frame) left all = all
left_fits c actor (step.Command screen op) left all = all
left_fits c actor (step.Field proxy area place value) left all = all
left_fits c actor (step.Poll proxy) left all = all
left_fits c actor (step.Restart other) left all = all

given_fits : (c : Contents) (actor : ℕ) (lines : List Line) (left : List Saying) → are_lines_of c lines ≡ true →
    are_sayings_of c left ≡ true → fit_inputs c actor (given actor lines left) ≡ true
given_fits c actor [] left lines_are all = refl
given_fits c actor (line ∷ lines) left lines_are all =
    let parts = and_parts (is_step_of c line.step) (are_lines_of c lines) lines_are in
    all_join (fits_input c actor) (given_at actor line.step left) (given actor lines (left_after actor line.step left))
    (step_fits c actor line.step left parts.0 all)
    (given_fits c actor lines (left_after actor line.step left) parts.1 (left_fits c actor line.step left all))

as_many : (c : Contents) → actors_of (cast_of c.settings c.plant) ≡ actors_in c
as_many c = omega arith

pub given_are_fit : (c : Contents) (lines : List Line) (sayings : List Saying) → are_lines_of c lines ≡ true →
    are_sayings_of c sayings ≡ true → AreFit c (inputs_given c lines sayings)
unfolding inputs_of
given_are_fit c lines sayings lines_are sayings_are =
    let n : ℕ = actors_of (cast_of c.settings c.plant) in
    let to : ℕ → List Input = λ a. given a lines (own_words a sayings) in record {
      all = length-map (numbers_below n) to ∙ length-numbers_below n ∙ as_many c;
      each = λ actor below.
          (let inside : actor < n = omega (arith, below, as_many c) in
          let at : slice_index_or (map to (numbers_below n)) actor [] ≡ to actor =
          get_or-map to (numbers_below n) actor 0 [] (let long = length-numbers_below n in
          omega (arith, inside, long)) ∙ ap to (number_at n actor 0 inside) in
          subst (λ (inputs : List Input). fit_inputs c actor inputs ≡ true) (sym at)
          (given_fits c actor lines (own_words actor sayings) lines_are
          (all_filter (is_saying_of c) (λ s. nat_eq s.speaker actor) sayings sayings_are)));
    }
