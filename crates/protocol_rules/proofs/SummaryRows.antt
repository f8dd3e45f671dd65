-- Rows made of summaries: the first of each master, and that they have a spelling where the summaries have one.
use Rattle.std.proofs.Common.{◌≡◌, ℕ, ◌≤◌, Bool, true, false, cond, List, [], ◌∷◌, Option, Some, None, length, map}
use Rattle.std.proofs.Common.{nat_eq, nat_le, refl, ◌∙◌, ap, arith}
use Rattle.std.specs.List.{list_all, find}
use Rattle.std.proofs.lemmas.Bool.{and_from, and_parts, le-leb}
use Rattle.std.proofs.lemmas.List.Folds.{list_all-map}
use Rattle.message_types.specs.declared.signed.Signed.{Signed}
use Rattle.message_types.specs.declared.preordering.PoSummary.{PoSummary}
use Rattle.message_types.specs.Spelling.{row_fits, rows_fit, summary_fits}
use Rattle.quorum_sets.specs.Masters.{numbers_below}
use Rattle.quorum_sets.proofs.Numbered.{length-numbered, all_numbered}
use Rattle.protocol_rules.specs.Group.{Group}
use Rattle.protocol_rules.specs.Matrix.{row_of, rows_of_frames}

-- a row is that of the first summary found
pub row-found : (frames : List (Signed PoSummary)) (master : ℕ) (f : Signed PoSummary) →
    Some f ≡ find (λ f. nat_eq f.signer master) frames → f.body.numbers ≡ row_of frames master
row-found frames master f is = ap (λ (o : Option (Signed PoSummary)). elim o [ None ↦ [] | Some f ↦ f.body.numbers ]) is

pub row-missing : (frames : List (Signed PoSummary)) (master : ℕ) → None ≡ find (λ f. nat_eq f.signer master) frames →
    [] ≡ row_of frames master
row-missing frames master is = ap (λ (o : Option (Signed PoSummary)). elim o [ None ↦ [] | Some f ↦ f.body.numbers ]) is

-- as many rows as masters, each within its limit
pub rows_made_fit : (n : ℕ) (row : ℕ → List ℕ) → n ≤ 14 → ((m : ℕ) → row_fits (row m) ≡ true) →
    rows_fit (map row (numbers_below n)) ≡ true
rows_made_fit n row few each =
    let len : length (map row (numbers_below n)) ≡ n = length-numbered row n in
    and_from (nat_le (length (map row (numbers_below n))) 14) (list_all row_fits (map row (numbers_below n)))
    (le-leb (length (map row (numbers_below n))) 14 (omega arith))
    (list_all-map row_fits row (numbers_below n) ∙ all_numbered (λ m. row_fits (row m)) n (λ m below. each m))

row_of_fits : (frames : List (Signed PoSummary)) (master : ℕ) → list_all (λ f. summary_fits f.body) frames ≡ true →
    row_fits (row_of frames master) ≡ true
row_of_fits [] master spelled = refl
row_of_fits (f ∷ frames) master spelled =
    let both = and_parts (summary_fits f.body) (list_all (λ (x : Signed PoSummary). summary_fits x.body) frames)
    spelled in
    by (nat_eq f.signer master) both.0 (row_of_fits frames master both.1)
  where
    by : (b : Bool) → summary_fits f.body ≡ true → row_fits (row_of frames master) ≡ true
        → row_fits (elim (cond b (Some f) (find (λ x. nat_eq x.signer master) frames))
        [ None ↦ [] | Some x ↦ x.body.numbers ]) ≡ true
    by true fits rest = fits
    by false fits rest = rest

pub rows_of_frames_fit : (g : Group) (frames : List (Signed PoSummary)) → g.n ≤ 14 →
    list_all (λ f. summary_fits f.body) frames ≡ true → rows_fit (rows_of_frames g frames) ≡ true
unfolding rows_of_frames
rows_of_frames_fit g frames few spelled = rows_made_fit g.n (row_of frames) few (λ m. row_of_fits frames m spelled)
