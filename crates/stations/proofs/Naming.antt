-- Names behind commas, and the line of a word.
use Rattle.std.proofs.Common.{◌≡◌, ℕ, List, [], ◌∷◌, ◌++◌, codes, append_assoc, refl, sym, ◌∙◌, ap}
use Rattle.std.specs.List.{flat_map}
use Rattle.message_types.specs.declared.signed.Signed.{Signed}
use Rattle.message_types.specs.declared.body.Body.{Body}
use Rattle.message_types.specs.Texts.{frame_text}
use Rattle.protocol_rules.specs.Group.{Group}
use Rattle.run_lines.specs.Texts.{hex_text}
use Rattle.scenario_file.specs.declared.actors.Cast.{Cast}
use Rattle.scenario_file.specs.Actors.{actor_name}
use Rattle.scenario_file.specs.Reading.{Contents, cast_of}
use Rattle.world_rules.specs.Frames.{addressees}
use Rattle.world_rules.specs.Scenarios.{group_in}
use Rattle.station_lives.specs.Saying.{names, more_names, word_line}

abbrev pub behind_comma : Cast → ℕ → List ℕ
behind_comma cast a = codes "," ++ actor_name cast a

pub more_flat : (cast : Cast) (xs : List ℕ) → more_names cast xs ≡ flat_map (behind_comma cast) xs
more_flat cast [] = refl
more_flat cast (x ∷ xs) = ap (λ (bs : List ℕ). (codes "," ++ actor_name cast x) ++ bs) (more_flat cast xs)

-- the line as it is put together
pub word_put : (c : Contents) (actor : ℕ) (frame : Signed Body) (cast : Cast) (to text say named space hexed line : List ℕ)
    (bytes : List ℕ) → cast ≡ cast_of c.settings c.plant → to ≡ addressees (group_in c) actor frame.body →
    bytes ≡ frame_text frame → say ≡ text ++ codes "say " → named ≡ say ++ names cast to → space ≡ named ++ codes " " →
    hexed ≡ space ++ hex_text bytes → line ≡ hexed ++ codes "\n" → line ≡ text ++ word_line c actor frame
word_put c actor frame cast to text say named space hexed line bytes same goes are first second third fourth last =
    last
    ∙ ap (λ (bs : List ℕ). bs ++ codes "\n")
    (fourth ∙ ap (λ (bs : List ℕ). bs ++ hex_text bytes)
    (third ∙ ap (λ (bs : List ℕ). bs ++ codes " ")
    (second ∙ ap (λ (bs : List ℕ). bs ++ names cast to) first)))
    ∙ joined text (codes "say ") (names cast to) (codes " ") (hex_text bytes) (codes "\n")
    ∙ (λ i. text ++ ((((codes "say " ++ names (same i) (goes i)) ++ codes " ") ++ hex_text (are i)) ++ codes "\n"))
  where
    joined : (a b d e f g : List ℕ) → ((((a ++ b) ++ d) ++ e) ++ f) ++ g ≡ a ++ ((((b ++ d) ++ e) ++ f) ++ g)
    joined a b d e f g =
        ap (λ (z : List ℕ). z ++ g)
        (ap (λ (z : List ℕ). z ++ f)
        (ap (λ (z : List ℕ). z ++ e) (append_assoc a b d) ∙ append_assoc a (b ++ d) e)
        ∙ append_assoc a ((b ++ d) ++ e) f)
        ∙ append_assoc a (((b ++ d) ++ e) ++ f) g
