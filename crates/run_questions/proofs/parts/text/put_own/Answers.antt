use Rattle.std.proofs.Common.{◌≤◌, ◌∙◌, ℕ, List, length, sym, subst, arith}
use Rattle.message_forms.proofs.Lengths.{update_within}
use Rattle.run_questions.proofs.parts.text.put_own.Goals as goal

pub part_of-requires-clause-room : goal.part_of-requires-clause-room
part_of-requires-clause-room c =
    let within = update_within c.args.update.now in
    subst (λ (text : List ℕ). length text ≤ 65536) (sym (c.deref.ensures.value ∙ c.in_ok-words.ensures))
    (omega (arith, within))
