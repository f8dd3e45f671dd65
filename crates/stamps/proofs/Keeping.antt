-- Each step keeps the rule of the word.
use Rattle.std.proofs.Common.{◌≡◌, ◌≢◌, ℕ, ◌+◌, ◌*◌, ◌%◌, ◌^◌, ◌<◌, ◌≤◌, List, [], ◌∷◌, ◌++◌, length, set, sum_by}
use Rattle.std.proofs.Common.{All, slice_index, ⊎_elim, refl, sym, ap, ◌∙◌, mod-eq_of_lt, length-append, length-set}
use Rattle.std.proofs.Common.{arith}
use Rattle.std.proofs.lemmas.List.Sums.{sum_by_push}
use Rattle.atomic_table.specs.Table.{State, Me, Allows, Splits, Joins, keeps}
use Rattle.atomic_table.proofs.Lists.{at_set}
use Rattle.stamps.specs.declared.rule.Known.{Known}
use Rattle.stamps.specs.Seats.{times, once_below}
use Rattle.stamps.specs.Steps.{known, made_at, IsKept, Drew, one_more, newcomer, together, spent}
use Rattle.stamps.proofs.Sums.{at_length, sum_changed, part_of_sum, sum_bounded}
use Rattle.stamps.proofs.Counts.{times_none, times-append, times_there, once_none, once_more, once_inside}
use Rattle.stamps.proofs.Places.{each_changed, each_more, each_of_one, first_place, later_place, none_later}
use mathlib.Core.Option.{some}
use lib.ListN.{get_elem?}

-- how many seats were made, as the view at its place knows it
abbrev MadeAt : ℕ → ℕ → Known → Type 0
MadeAt count place v = v.made ≡ made_at count place

abbrev Few : ℕ → Known → Type 0
Few place v = length v.drawn ≤ 2 ^ 32 * length v.numbers

pub begins : (seats : ℕ) → 0 < seats → IsKept seats (0 ∷ []) (known 1 (0 ∷ []) [] ∷ [])
begins seats some_seat = record {
  word = 0;
  count = 1;
  word_is = refl;
  within = omega (arith, some_seat);
  draws = λ x. omega (arith, times_none x, once_none x);
  all_draws = refl;
  numbers = λ x. omega (arith, once_none x, once_more 0 x);
  all_numbers = refl;
  made = each_of_one (MadeAt 1) (known 1 (0 ∷ []) []) refl;
  few = each_of_one Few (known 1 (0 ∷ []) []) (omega arith);
}

-- a seat that draws has room, and the word is far from its end
word_fits : (seats : ℕ) (words : List ℕ) (views : List Known) → (h : IsKept seats words views) →
    seats ≤ 65536 → h.word + 1 < 2 ^ 64
word_fits seats words views h bound =
    let most = sum_bounded (λ v. length v.drawn) (λ v. length v.numbers) views h.few in
    omega (arith, most, h.all_draws, h.all_numbers, h.within, bound)

draw_keeps : (seats : ℕ) (words : List ℕ) (views : List Known) (id : ℕ) (v : Known) (found : ℕ) →
    (h : IsKept seats words views) → seats ≤ 65536 → get_elem? views id ≡ some v
    → length v.drawn < 2 ^ 32 → length v.numbers ≡ 1 → found ≡ h.word →
    IsKept seats (set words 0 ((found + 1) % 2 ^ 64))
    (set views id (known v.made v.numbers (v.drawn ++ found ∷ [])))
draw_keeps seats words views id v found h bound at room alone is =
    let w : Known = known v.made v.numbers (v.drawn ++ found ∷ []) in
    let fits : found + 1 < 2 ^ 64 = omega (arith, word_fits seats words views h bound, is) in record {
      word = found + 1;
      count = h.count;
      word_is = ap (λ (ws : List ℕ). set ws 0 ((found + 1) % 2 ^ 64)) h.word_is
          ∙ ap (λ (n : ℕ). n ∷ []) (mod-eq_of_lt fits);
      within = h.within;
      draws = λ x. omega (
        arith,
        sum_changed (λ u. times x u.drawn) views id v w at,
        h.draws x,
        times-append x v.drawn (found ∷ []),
        once_more found x,
        ap (λ (n : ℕ). once_below n x) is,
      );
      all_draws = omega (
        arith,
        sum_changed (λ u. length u.drawn) views id v w at,
        h.all_draws,
        length-append v.drawn (found ∷ []),
        is,
      );
      numbers = λ x. omega (arith, sum_changed (λ u. times x u.numbers) views id v w at, h.numbers x);
      all_numbers = omega (arith, sum_changed (λ u. length u.numbers) views id v w at, h.all_numbers);
      made = each_changed (MadeAt h.count) views id w (λ j u apart there. h.made j u there) (h.made id v at);
      few = each_changed Few views id w (λ j u apart there. h.few j u there)
          (omega (arith, length-append v.drawn (found ∷ []), room, alone));
    }

-- what was drawn is below the word
pub drawn_below : (seats : ℕ) (words : List ℕ) (views : List Known) (id : ℕ) (v : Known) →
    (h : IsKept seats words views) → get_elem? views id ≡ some v → All (λ x. x < h.word) v.drawn
drawn_below seats words views id v h at k d inside =
    let x : ℕ = lib.ListN.get_or v.drawn k d in
    let here : 0 < times x v.drawn = times_there x v.drawn k d inside refl in
    let part : times x v.drawn ≤ sum_by (λ u. times x u.drawn) views =
    part_of_sum (λ u. times x u.drawn) views id v at in
    once_inside h.word x (omega (arith, here, part, h.draws x))

pub draws : (seats slots id : ℕ) (me : Me ℕ Known) → seats ≤ 65536 → length me.0.drawn < 2 ^ 32 →
    length me.0.numbers ≡ 1
    → Allows (λ (s : State ℕ Known). IsKept seats s.words s.views) slots id me 0 (λ n. (n + 1) % 2 ^ 64)
    (λ found after. Drew me found after)
draws seats slots id me bound room alone s h homes at fits =
    let found : ℕ = slice_index s.words 0 in
    let is : found ≡ h.word = ap (λ (ws : List ℕ). slice_index ws 0) h.word_is in (
      known me.0.made me.0.numbers (me.0.drawn ++ found ∷ []),
      keeps,
      tt,
      draw_keeps seats s.words s.views id me.0 found h bound at room alone is,
      (refl, λ k d inside. omega (arith, drawn_below seats s.words s.views id me.0 h at k d inside, is)),
    )

pub splits : (seats id : ℕ) (v : Known) → 0 < v.made → v.made < seats →
    Splits (λ (s : State ℕ Known). IsKept seats s.words s.views) id v (one_more v) (newcomer v)
splits seats id v first room s h at =
    let views : List Known = s.views in
    let w : Known = one_more v in
    let u : Known = newcomer v in
    let is : (id ≡ 0) × (v.made ≡ h.count) = first_place h.count v.made id (h.made id v at) first in
    let some_view : 0 < length (set views id w) = omega (arith, length-set views id w, at_length views id v at) in
    record {
      word = h.word;
      count = h.count + 1;
      word_is = h.word_is;
      within = omega (arith, room, is.1);
      draws = λ x. omega (
        arith,
        sum_changed (λ y. times x y.drawn) views id v w at,
        sum_by_push (λ (y : Known). times x y.drawn) (set views id w) u,
        h.draws x,
        times_none x,
      );
      all_draws = omega (
        arith,
        sum_changed (λ y. length y.drawn) views id v w at,
        sum_by_push (λ (y : Known). length y.drawn) (set views id w) u,
        h.all_draws,
      );
      numbers = λ x. omega (
        arith,
        sum_changed (λ y. times x y.numbers) views id v w at,
        sum_by_push (λ (y : Known). times x y.numbers) (set views id w) u,
        h.numbers x,
        once_more h.count x,
        ap (λ (n : ℕ). times x (n ∷ [])) is.1,
      );
      all_numbers = omega (
        arith,
        sum_changed (λ y. length y.numbers) views id v w at,
        sum_by_push (λ (y : Known). length y.numbers) (set views id w) u,
        h.all_numbers,
      );
      made = each_more (MadeAt (h.count + 1)) (set views id w) u
          (each_changed (MadeAt (h.count + 1)) views id w (λ j y apart there. h.made j y there
          ∙ later_place h.count (h.count + 1) j (λ e. apart (e ∙ sym is.0)))
          (ap (λ (n : ℕ). n + 1) is.1 ∙ ap (made_at (h.count + 1)) (sym is.0)))
          (none_later (h.count + 1) (length (set views id w)) some_view);
      few = each_more Few (set views id w) u (each_changed Few views id w (λ j y apart there. h.few j y there)
          (h.few id v at)) (omega arith);
    }

pub joins : (seats id other : ℕ) (v w : Known) → w.made ≡ 0 →
    Joins (λ (s : State ℕ Known). IsKept seats s.words s.views) id v other w (together v w) spent
joins seats id other v w later s h at apart then =
    let views : List Known = s.views in
    let b : Known = together v w in
    let there : get_elem? views other ≡ some w =
    ⊎_elim (λ (t : (other ≡ id) × (b ≡ w)). absurd (apart t.0))
    (λ (t : (other ≢ id) × (get_elem? views other ≡ some w)). t.1) (at_set views id other b w then) in record {
      word = h.word;
      count = h.count;
      word_is = h.word_is;
      within = h.within;
      draws = λ x. omega (
        arith,
        sum_changed (λ y. times x y.drawn) views id v b at,
        sum_changed (λ y. times x y.drawn) (set views id b) other w spent then,
        h.draws x,
        times_none x,
        times-append x v.drawn w.drawn,
      );
      all_draws = omega (
        arith,
        sum_changed (λ y. length y.drawn) views id v b at,
        sum_changed (λ y. length y.drawn) (set views id b) other w spent then,
        h.all_draws,
        length-append v.drawn w.drawn,
      );
      numbers = λ x. omega (
        arith,
        sum_changed (λ y. times x y.numbers) views id v b at,
        sum_changed (λ y. times x y.numbers) (set views id b) other w spent then,
        h.numbers x,
        times_none x,
        times-append x v.numbers w.numbers,
      );
      all_numbers = omega (
        arith,
        sum_changed (λ y. length y.numbers) views id v b at,
        sum_changed (λ y. length y.numbers) (set views id b) other w spent then,
        h.all_numbers,
        length-append v.numbers w.numbers,
      );
      made = each_changed (MadeAt h.count) (set views id b) other spent
          (λ j y _ found. each_changed (MadeAt h.count) views id b (λ k z _ stands. h.made k z stands)
          (h.made id v at) j y found)
          (sym later ∙ h.made other w there);
      few = each_changed Few (set views id b) other spent
          (λ j y _ found. each_changed Few views id b (λ k z _ stands. h.few k z stands)
          (omega (
            arith,
            h.few id v at,
            h.few other w there,
            length-append v.drawn w.drawn,
            length-append v.numbers w.numbers,
          )) j y found)
          (omega arith);
    }
