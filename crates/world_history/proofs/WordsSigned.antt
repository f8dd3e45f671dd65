-- Raw words are no bodies, and what a word leaves of a bench.
use Rattle.std.proofs.Common.{◌≡◌, ℕ, Bool, true, false, cond, List, Option, None, nat_eq, refl, ◌+◌, Some}
use Rattle.message_types.specs.declared.body.Body.{Body}
use Rattle.intruder_words.specs.Speaking.{body_of}
use Rattle.world_history.specs.State.{BenchState, word_body, leaves_left, with_word}
use Rattle.play_words.specs.declared.words.Word.TheVariants as word

-- a raw word is no body
pub never_signs : (b : BenchState) (bytes : List ℕ) → word_body b (word.Raw bytes) ≡ None
unfolding body_of
never_signs b bytes = at (nat_eq (leaves_left b) 0)
  where
    at : (spent : Bool) → ◌≡◌ {A = Option Body} (cond spent None None) None
    at true = refl
    at false = refl

abbrev pub signed_so : BenchState → ℕ → BenchState
signed_so b n = record b { signed = n }

-- a word leaves all of a bench but the number of its words that are signed
pub after_some : (P : BenchState → Type 0) (b : BenchState) (o : Option Body) → ((n : ℕ) → P (signed_so b n)) →
    P (elim o [ None ↦ b | Some said ↦ with_word b ])
after_some P b None all = all b.signed
after_some P b (Some x) all = all (b.signed + 1)
