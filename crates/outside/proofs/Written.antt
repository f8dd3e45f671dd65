-- What writers took, where they tell their bytes.
use Rattle.std.proofs.Common.{◌≡◌, ℕ, List, ◌++◌, Option, length, take, drop, sym, ap, subst, ◌∙◌, append_assoc}
use Rattle.std.proofs.KnownBytes.{Appends-trans}
use Rattle.std.proofs.lemmas.List.{take-append-drop}
use Rattle.std.proofs.Math.Seq.{take-append_seam}
use Rattle.std.specs.Io.KnownBytes.{Appends}

-- what was written so far is a beginning of the piece
pub written-beginning : (before after : Option (List ℕ)) (piece done rest : List ℕ) → piece ≡ done ++ rest →
    Appends before after done
    → (count : ℕ) × Appends before after (take count piece)
written-beginning before after piece done rest whole written = (
  length done,
  subst (Appends before after) (sym (ap (take (length done)) whole ∙ take-append_seam done rest))
      written,
)

-- and so is that with what was then taken of the rest
pub written-more : (before between after : Option (List ℕ)) (piece done rest : List ℕ) (taken : ℕ) →
    piece ≡ done ++ rest
    → Appends before between done → Appends between after (take taken rest) →
    (count : ℕ) × Appends before after (take count piece)
written-more before between after piece done rest taken whole first second =
    let cut : piece ≡ (done ++ take taken rest) ++ drop taken rest =
    whole ∙ ap (λ more. done ++ more) (sym (take-append-drop taken rest))
    ∙ sym (append_assoc done (take taken rest) (drop taken rest)) in
    written-beginning before after piece (done ++ take taken rest) (drop taken rest) cut
    (Appends-trans before between after done (take taken rest) first second)
