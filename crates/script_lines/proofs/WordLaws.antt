-- Fields of words at their edges: fewer than two certificates rise, and a text without `@` is no digest.
use Rattle.std.proofs.Common.{◌≡◌, ◌≢◌, ◌<◌, ◌==◌, ℕ, Bool, true, false, if◌then◌else◌, List, [], ◌∷◌, length, map}
use Rattle.std.proofs.Common.{refl, sym, ap, arith}
use Rattle.message_types.specs.Spelling.{is_rising}
use Rattle.play_words.specs.declared.words.Item.{Item}
use Rattle.scenario_file.specs.declared.actors.Cast.{Cast}
use Rattle.script_grammar.specs.declared.frames.Allowed.TheVariants as allowed
use Rattle.script_grammar.specs.Faults.{bad}
use Rattle.script_grammar.specs.Frames.{frame_in}
use Rattle.script_lines.specs.WordFields.{digest_in}

pub few_rise : (items : List Item) → length items < 2 → true ≡ is_rising (map (λ item. item.s) items)
few_rise [] few = refl
few_rise (a ∷ []) few = refl
few_rise (a ∷ b ∷ more) few = absurd (omega arith)

pub no_digest : (cast : Cast) (text : List ℕ) → ((rest : List ℕ) → text ≢ 64 ∷ rest) → digest_in cast text ≡ bad
unfolding digest_in
no_digest cast [] none = refl
no_digest cast (c ∷ cs) none = by (c == 64) refl
  where
    by : (b : Bool) → (c == 64) ≡ b → (if b then frame_in cast allowed.Digested cs else bad) ≡ bad
    by true is = let same : c ≡ 64 = grind arith in absurd (none cs (ap (λ d. d ∷ cs) same))
    by false is = refl
