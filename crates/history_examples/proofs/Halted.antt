-- The history with a halted actor, computed: it is sound, master 3 has no entry more, and master 1 has executed.
use Rattle.std.proofs.Common.{◌≡◌, true, refl, sym, ◌∙◌, ap, arith}
use Rattle.std.proofs.lemmas.Bool.{false≢true}
use Rattle.history_rules.specs.Events.{Entry}
use Rattle.history_rules.specs.Setup.{own}
use Rattle.history_rules.specs.Keeping.{is_halted}
use Rattle.history_rules.specs.Legal.{IsLegalEntry}
use Rattle.history_examples.specs.Halted as it
use Rattle.history_examples.specs.Examples.{ExecutedWithoutHalted}
use Rattle.history_examples.proofs.Computing.{computing, IsComputed, is_sound, four_have_sizes}

computed : IsComputed it.setup it.history 1 0
unfolding computing
computed = record { come = refl; say = refl; intruded = refl; forged = refl; alike = refl }

is_halted_after : is_halted it.setup 3 (own it.history 3) ≡ true
unfolding computing
is_halted_after = refl

no_more : (e : Entry) → e.actor ≡ 3 → IsLegalEntry it.setup it.history e → ⊥
no_more e by may =
    false≢true (sym may.running ∙ ap (λ a. is_halted it.setup a (own it.history a)) by ∙ is_halted_after)

pub executed_without_halted : ExecutedWithoutHalted
unfolding computing
executed_without_halted = record {
  sound = is_sound it.setup it.history 1 (four_have_sizes 1) (omega arith) computed;
  correct = refl;
  runs = refl;
  halted = is_halted_after;
  ends = no_more;
  executed = refl;
}
