-- The frame is tested as part 0 and the frames inside it from part 1 on, which are all its parts. So a refusal
-- is the first fault of the frame, and one without a fault stands.
use Rattle.std.proofs.Common.{◌≡◌, ◌∷◌, ◌++◌, refl, sym, ap, ◌∙◌, subst, arith}
use Rattle.std.proofs.lemmas.Result.{err_from_is_err_and}
use Rattle.message_types.specs.Parts.{inside}
use Rattle.checked_frames.specs.Standing.{part_fault, first_fault, IsFault}
use Rattle.checked_frames.proofs.InsideLaws.{AreFew, inside_few, spelled_body}
use Rattle.checked_frames.proofs.StandingLaws.{IsFault-within, fault_of_frame, fault_inside, faultless_stands}
use Rattle.checked_frames.proofs.checked.check_with.Goals as goal

pub check_part-requires : goal.check_part-requires
check_part-requires c = spelled_body c.args.frame c.requires

pub returns-in_err-check_part-clause-fault : goal.returns-in_err-check_part-clause-fault
returns-in_err-check_part-clause-fault c =
    let p = err_from_is_err_and c.from_residual.result c.from_residual.ensures.1 in
    rw (p.1, p.2)
    (IsFault-within c.in_err-check_part.field-0.0 (part_fault c.args.ring.now 0 c.args.frame)
    (first_fault c.args.ring.now c.args.frame)
    (fault_of_frame c.args.ring.now c.args.frame) c.in_err-check_part.ensures.fault)

pub check_inner-requires : goal.check_inner-requires
check_inner-requires c =
    let inner : c.deref.result.now ≡ inside c.args.frame.body =
    c.deref.ensures.value ∙ c.in_ok-put_inside.ensures ∙ ap (λ xs. xs ++ inside c.args.frame.body)
    c.new-inner.ensures.items in
    let all : AreFew 3346 c.deref.result.now =
    subst (AreFew 3346) (sym inner) (inside_few c.args.frame.body (spelled_body c.args.frame c.requires)) in
    let most = all.few in
    record { spelled = all.each; few = omega arith }

pub returns-in_err-check_inner-clause-fault : goal.returns-in_err-check_inner-clause-fault
returns-in_err-check_inner-clause-fault c =
    let p = err_from_is_err_and c.from_residual-in_err-check_inner.result
    c.from_residual-in_err-check_inner.ensures.1 in
    let inner = c.deref.ensures.value ∙ c.in_ok-put_inside.ensures ∙ ap (λ xs. xs ++ inside c.args.frame.body)
    c.new-inner.ensures.items in
    let whole = fault_inside c.args.ring.now c.args.frame c.deref.result.now
    (ap (λ xs. c.args.frame ∷ xs) (sym inner)) (c.in_ok-check_part.ensures.none refl) in
    rw (p.1, p.2) (subst (IsFault c.in_err-check_inner.field-0.0) (sym whole) c.in_err-check_inner.ensures.fault)

pub returns-clause-stands : goal.returns-clause-stands
returns-clause-stands c =
    let inner = c.deref.ensures.value ∙ c.in_ok-put_inside.ensures ∙ ap (λ xs. xs ++ inside c.args.frame.body)
    c.new-inner.ensures.items in
    let whole = fault_inside c.args.ring.now c.args.frame c.deref.result.now
    (ap (λ xs. c.args.frame ∷ xs) (sym inner)) (c.in_ok-check_part.ensures.none refl) in
    λ _. faultless_stands c.args.ring.now c.args.frame c.requires (whole ∙ c.in_ok-check_inner.ensures.none refl)

pub from_standing-requires : goal.from_standing-requires
from_standing-requires c =
    let inner = c.deref.ensures.value ∙ c.in_ok-put_inside.ensures ∙ ap (λ xs. xs ++ inside c.args.frame.body)
    c.new-inner.ensures.items in
    let whole = fault_inside c.args.ring.now c.args.frame c.deref.result.now
    (ap (λ xs. c.args.frame ∷ xs) (sym inner)) (c.in_ok-check_part.ensures.none refl) in
    record {
      ring = c.args.ring.now;
      is_standing = faultless_stands c.args.ring.now c.args.frame c.requires
          (whole ∙ c.in_ok-check_inner.ensures.none refl);
    }
