-- A correct actor that was read by its name is there.
use Rattle.std.proofs.Common.{◌≡◌, ℕ, ◌+◌, ◌<◌, true, List, Result, Ok, Err, nat_lt, IfOk, arith}
use Rattle.std.proofs.lemmas.Bool.{and_parts, ltb-true}
use Rattle.scenario_file.specs.Reading.{Contents}
use Rattle.script_grammar.specs.declared.fault.LineRefusal.{LineRefusal}
use Rattle.script_grammar.specs.Faults.{Answers}
use Rattle.script_grammar.specs.Names.{correct_in, is_correct, who_of}
use Rattle.script_laws.proofs.Actors.{correct_there}
use Rattle.script_laws.proofs.Fitting.{is_there}
use Rattle.world_rules.specs.Scenarios.{actors_in}

pub named_there : (c : Contents) (name : List ℕ) (r : Result ℕ LineRefusal) →
    Answers r (correct_in (who_of c) name) → IfOk r (λ actor. actor < actors_in c)
named_there c name (Err e) is = tt
named_there c name (Ok actor) is =
    let both = and_parts (is_there (who_of c) actor) (is_correct (who_of c) actor)
    (correct_there (who_of c) name actor is) in
    let low = ltb-true actor _ both.0 in
    omega arith

pub named_correct : (c : Contents) (name : List ℕ) (r : Result ℕ LineRefusal) →
    Answers r (correct_in (who_of c) name) → IfOk r (λ actor. is_correct (who_of c) actor ≡ true)
named_correct c name (Err e) is = tt
named_correct c name (Ok actor) is =
    (and_parts (is_there (who_of c) actor) (is_correct (who_of c) actor)
    (correct_there (who_of c) name actor is)).1
