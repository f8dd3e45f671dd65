-- What the last state of the word says of a seat.
use Rattle.std.proofs.Common.{◌≡◌, ℕ, ◌<◌, List, [], ◌∷◌, length, sum_by, All, sym, ap, ◌∙◌, arith}
use Rattle.atomic_table.specs.Table.{State, Final, Seen}
use Rattle.stamps.specs.declared.rule.Known.{Known}
use Rattle.stamps.specs.Seats.{times, once_below, IsEachOnce}
use Rattle.stamps.specs.Steps.{IsKept}
use Rattle.stamps.proofs.Sums.{sum_of_one}
use Rattle.stamps.proofs.Counts.{times-le-length}
use Rattle.stamps.proofs.Places.{first_place}
use Rattle.stamps.proofs.Keeping.{drawn_below}
use mathlib.Core.Option.{some, some-injective}
use lib.ListN.{get_elem?}

word_found : (words : List ℕ) (word found : ℕ) → words ≡ word ∷ [] → get_elem? words 0 ≡ some found → word ≡ found
word_found words word found is at = some-injective word found (sym (ap (λ (ws : List ℕ). get_elem? ws 0) is) ∙ at)

module _ (seats id found : ℕ) (v : Known) (words : List ℕ) (xs : List ℕ)
    (last : Final (Seen (λ (s : State ℕ Known). IsKept seats s.words s.views) id v) words xs)
    (at : get_elem? words 0 ≡ some found) where
  abbrev s : State ℕ Known
  s = last.0

  abbrev h : IsKept seats s.words s.views
  h = last.1.0

  seen : get_elem? s.views id ≡ some v
  seen = last.1.1

  is : h.word ≡ found
  is = word_found words h.word found (sym last.2 ∙ h.word_is) at

  pub closes_below : All (λ x. x < found) v.drawn
  closes_below k d inside = omega (arith, drawn_below seats s.words s.views id v h seen k d inside, is)

  module _ (whole : length v.numbers ≡ v.made) (first : 0 < v.made) where
    counted : v.made ≡ h.count
    counted = (first_place h.count v.made id (h.made id v seen) first).1

    alone : sum_by (λ u. length u.numbers) s.views ≡ length v.numbers
    alone = h.all_numbers ∙ sym counted ∙ sym whole

    pub closes_draws : IsEachOnce found v.drawn
    closes_draws = record {
      once = λ x. sym (sum_of_one (λ u. times x u.drawn) (λ u. length u.numbers) s.views id v seen alone
          (λ j u there none. omega (arith, times-le-length x u.drawn, h.few j u there, none))) ∙ h.draws x
          ∙ ap (λ (n : ℕ). once_below n x) is;
      count = sym (sum_of_one (λ u. length u.drawn) (λ u. length u.numbers) s.views id v seen alone
          (λ j u there none. omega (arith, h.few j u there, none))) ∙ h.all_draws ∙ is;
    }

    pub closes_numbers : IsEachOnce v.made v.numbers
    closes_numbers = record {
      once = λ x. sym (sum_of_one (λ u. times x u.numbers) (λ u. length u.numbers) s.views id v seen alone
          (λ j u there none. omega (arith, times-le-length x u.numbers, none))) ∙ h.numbers x
          ∙ ap (λ (n : ℕ). once_below n x) (sym counted);
      count = whole;
    }
