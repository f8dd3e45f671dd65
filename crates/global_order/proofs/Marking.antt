-- Which marks are due.
use Rattle.std.proofs.Common.{◌≡◌, ℕ, ◌<◌, ◌%◌, cond, ◌&&◌, not, List, [], ◌∷◌, ◌++◌, sym, ◌∙◌, ap, arith}
use Rattle.std.specs.List.{list_any}
use Rattle.std.proofs.lemmas.Bool.{eq-eqb, ne_eqb, lt-leb}
use Rattle.std.proofs.lemmas.List.{append-nil}
use Rattle.message_types.specs.declared.body.Body.{Body}
use Rattle.message_types.specs.declared.body.Body.TheVariants as body
use Rattle.protocol_rules.specs.Group.{mark_step}
use Rattle.protocol_rules.specs.Order.{mark_due, marks_said}
use Rattle.global_order.specs.Saying.{HasMarked}

pub mark-none : (said bodies : List Body) (s : ℕ) → (s % 8 ≡ 0 → ⊥) → bodies ≡ bodies ++ mark_due said s
unfolding mark_step
mark-none said bodies s ne =
    sym (ap (λ b. bodies ++ cond (b && not (list_any (marks_said s) said)) (body.Mark record { s = s } ∷ []) [])
    (ne_eqb (s % 8) 0 ne) ∙ append-nil bodies)

pub mark-one : (said bodies : List Body) (marked s : ℕ) → s % 8 ≡ 0 → marked < s → HasMarked said marked →
    bodies ++ body.Mark record { s = s } ∷ [] ≡ bodies ++ mark_due said s
unfolding mark_step
mark-one said bodies marked s multiple above has =
    sym (ap (λ b. bodies ++ cond (b && not (list_any (marks_said s) said)) (body.Mark record { s = s } ∷ []) [])
    (eq-eqb (s % 8) 0 multiple)
    ∙ ap (λ b. bodies ++ cond (not b) (body.Mark record { s = s } ∷ []) [])
    (has s (omega arith) multiple ∙ lt-leb s marked above))
