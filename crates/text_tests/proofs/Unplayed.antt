-- Nothing is played, so all that is keeps to the rules.
use Rattle.std.proofs.Common.{◌≡◌, List, [], ◌∷◌, ◌++◌, Result, Ok, Err, refl, sym, ◌∙◌}
use Rattle.run_commands.specs.Readers.{KeepsRules}
use Rattle.text_tests.specs.Unplayed.{unplayed}

none : {A E B : Type 0} (e : E) (x : A) → (let answer : Result A E = Err e in answer ≡ Ok x) → B
none e x is = absurd (cc)

-- in no history does an entry stand
nothing : {X : Type 0} (before after : List X) (x : X) → [] ≡ before ++ x ∷ after → ⊥
nothing [] after x is = cc
nothing (y ∷ before) after x is = cc

pub unplayed_keeps : KeepsRules unplayed
unplayed_keeps = record {
  played_legal = λ c lines sayings history valid script words is. none _ history is;
  played_unforged = λ c lines sayings history valid script words is raw. none _ history is;
  played_told = λ c lines sayings history valid script words is. none _ history is;
  run_legal = λ c lines sayings turns history run.
      record { entries = λ before e stands. absurd (nothing before stands.after e (sym run ∙ stands.whole)) };
  run_there = λ c lines sayings turns valid script words. ([], refl);
  merged_legal = λ c kept history joins. absurd joins;
  read_legal = λ c text history valid is. none _ history is;
}
