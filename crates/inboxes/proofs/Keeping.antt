-- Each step keeps the rule of an inbox.
use Rattle.std.proofs.Common.{◌≡◌, ◌≢◌, ℕ, ◌+◌, ◌-◌, ◌<◌, ◌≤◌, true, true≢false, List, [], ◌∷◌, ◌++◌, length, set}
use Rattle.std.proofs.Common.{sum_by, nat_lt, if◌then◌else◌, ⊎_elim, refl, sym, ap, ◌∙◌, subst, append_assoc}
use Rattle.std.proofs.Common.{length-append, arith}
use Rattle.std.proofs.lemmas.Bool.Decides.{nat_tests}
use Rattle.std.proofs.lemmas.List.Sums.{sum_by_push}
use Rattle.crossbeam_queue.specs.Fifo.{Pushes, Pops, Forks, Merges, Learns}
use Rattle.crossbeam_queue.proofs.Lists.{at_set}
use Rattle.stamps.specs.Seats.{times, once_below}
use Rattle.stamps.proofs.Sums.{sum_changed, part_of_sum, sum_of_one}
use Rattle.stamps.proofs.Counts.{times_none, once_none, once_more}
use Rattle.stamps.proofs.Places.{each_changed, each_more, each_of_one}
use Rattle.inboxes.specs.declared.rule.Known.{Known}
use Rattle.inboxes.specs.Steps.{all_parts, known_as, first_known, spent, one_less, newcomer, together, places, Stand}
use Rattle.inboxes.specs.Steps.{IsKept, IsWhole, Seen, Saw, Took, Posted}
use Rattle.inboxes.proofs.Standing.{stand_longer, stand_both, stand_last, each_last, times_both, times_last}
use Rattle.inboxes.proofs.Standing.{length_places}
use mathlib.Core.Option.{some}
use lib.ListN.{get_elem?}

some_parts : 0 < all_parts
unfolding all_parts
some_parts = omega arith

-- what a split leaves and gives is no more than there was; where it is as much, both have a part
parted : (p : ℕ) → (p - 1) + (if nat_lt 1 p then 1 else 0) ≤ p
parted p = grind (arith, nat_tests)

part_left : (p : ℕ) → 0 < p → (p - 1) + (if nat_lt 1 p then 1 else 0) ≡ p → 0 < p - 1
part_left p some_part same = grind (arith, nat_tests)

part_given : (p : ℕ) → 0 < p → (p - 1) + (if nat_lt 1 p then 1 else 0) ≡ p → 0 < (if nat_lt 1 p then 1 else 0)
part_given p some_part same = grind (arith, nat_tests)

module _ {T : Type 0} (Fits : T → Type 0) where
  abbrev Standing : List T → List T → ℕ → Known T → Type 0
  Standing taken items place v = Stand taken v.took × Stand (taken ++ items) v.posted

  abbrev Idle : ℕ → Known T → Type 0
  Idle place v = v.parts ≡ 0 → v ≡ spent

  in_use : (v : Known T) → v.live ≡ true → v ≡ spent → ⊥
  in_use v live is = true≢false (sym live ∙ ap (λ (u : Known T). u.live) is)

  pub begins : IsKept Fits [] (first_known ∷ [])
  begins = record {
    fit = tt;
    taken = [];
    took = λ x. omega (arith, times_none x, once_none x);
    all_took = refl;
    posted = λ x. omega (arith, times_none x, once_none x);
    all_posted = refl;
    stand = each_of_one (Standing [] []) first_known (tt, tt);
    within = omega arith;
    idle = λ _. each_of_one Idle first_known (λ none. absurd (omega (arith, none, some_parts)));
  }

  -- what the rule says to one pass
  module _ (items : List T) (views : List (Known T)) (port : ℕ) (v : Known T) (h : IsKept Fits items views)
      (at : get_elem? views port ≡ some v) where
    full : IsWhole v → sum_by (λ u. u.parts) views ≡ v.parts
    full whole = omega (arith, part_of_sum (λ (u : Known T). u.parts) views port v at, h.within, whole)

    alone : IsWhole v → (f : Known T → ℕ) → f spent ≡ 0 → sum_by f views ≡ f v
    alone whole f nothing =
        sum_of_one f (λ u. u.parts) views port v at (full whole)
        (λ j u there none. ap f (h.idle (full whole ∙ whole) j u there none) ∙ nothing)

    pub seen : Seen h.taken items v
    seen = record {
      took = (h.stand port v at).0;
      posted = (h.stand port v at).1;
      each_took = λ whole. record {
        once = λ x. sym (alone whole (λ u. times x (places u.took)) (times_none x)) ∙ h.took x;
        count = length_places v.took ∙ sym (alone whole (λ u. length u.took) refl) ∙ h.all_took;
      };
      each_posted = λ whole. record {
        once = λ x. sym (alone whole (λ u. times x (places u.posted)) (times_none x)) ∙ h.posted x;
        count = length_places v.posted ∙ sym (alone whole (λ u. length u.posted) refl) ∙ h.all_posted;
      };
    }

  pub sees : (port : ℕ) (v : Known T) → Learns (IsKept Fits) port v (Saw v)
  sees port v items views h at = (h.taken, seen items views port v h at)

  pub posts : (n port : ℕ) (v : Known T) (x : T) → v.live ≡ true → Fits x → Pushes (IsKept Fits) n port v x (Posted v x)
  posts n port v x live fits items views room h at =
      let all : List T = h.taken ++ items in
      let w : Known T = known_as v.live v.parts v.took (v.posted ++ (length all, x) ∷ []) in
      let longer : all ++ x ∷ [] ≡ h.taken ++ (items ++ x ∷ []) = append_assoc h.taken items (x ∷ []) in
      let count : length (h.taken ++ (items ++ x ∷ [])) ≡ length all + 1 = sym (ap length longer)
      ∙ length-append all (x ∷ []) in
      let stands = h.stand port v at in
      let parts = sum_changed (λ (u : Known T). u.parts) views port v w at in (
        w,
        record {
          fit = each_last Fits items x h.fit fits;
          taken = h.taken;
          took = λ y. omega (arith, sum_changed (λ (u : Known T). times y (places u.took)) views port v w at, h.took y);
          all_took = omega (arith, sum_changed (λ (u : Known T). length u.took) views port v w at, h.all_took);
          posted = λ y. omega (
            arith,
            sum_changed (λ (u : Known T). times y (places u.posted)) views port v w at,
            h.posted y,
            times_last y v.posted (length all) x,
            once_more (length all) y,
            ap (λ (m : ℕ). once_below m y) count,
          );
          all_posted = omega (
            arith,
            sum_changed (λ (u : Known T). length u.posted) views port v w at,
            h.all_posted,
            length-append v.posted ((length all, x) ∷ []),
            count,
          );
          stand = each_changed (Standing h.taken (items ++ x ∷ [])) views port w
              (λ j u apart there. (
                (h.stand j u there).0,
                subst (λ (zs : List T). Stand zs u.posted) longer
                    (stand_longer all (x ∷ []) u.posted (h.stand j u there).1),
              ))
              (stands.0, subst (λ (zs : List T). Stand zs w.posted) longer (stand_last all x v.posted stands.1));
          within = omega (arith, parts, h.within);
          idle = λ whole. each_changed Idle views port w
              (λ j u apart there. h.idle (omega (arith, parts, whole)) j u there)
              (λ none. absurd (in_use v live (h.idle (omega (arith, parts, whole)) port v at none)));
        },
        (h.taken, items, seen items views port v h at, refl),
      )

  pub takes : (port : ℕ) (v : Known T) → v.live ≡ true → Pops (IsKept Fits) port v (Took Fits v)
  takes port v live x items views h at =
      let w : Known T = known_as v.live v.parts (v.took ++ (length h.taken, x) ∷ []) v.posted in
      let same : (h.taken ++ x ∷ []) ++ items ≡ h.taken ++ x ∷ items = append_assoc h.taken (x ∷ []) items in
      let count : length (h.taken ++ x ∷ []) ≡ length h.taken + 1 = length-append h.taken (x ∷ []) in
      let stands = h.stand port v at in
      let parts = sum_changed (λ (u : Known T). u.parts) views port v w at in (
        w,
        record {
          fit = h.fit.1;
          taken = h.taken ++ x ∷ [];
          took = λ y. omega (
            arith,
            sum_changed (λ (u : Known T). times y (places u.took)) views port v w at,
            h.took y,
            times_last y v.took (length h.taken) x,
            once_more (length h.taken) y,
            ap (λ (m : ℕ). once_below m y) count,
          );
          all_took = omega (
            arith,
            sum_changed (λ (u : Known T). length u.took) views port v w at,
            h.all_took,
            length-append v.took ((length h.taken, x) ∷ []),
            count,
          );
          posted = λ y. omega (
            arith,
            sum_changed (λ (u : Known T). times y (places u.posted)) views port v w at,
            h.posted y,
            ap (λ (zs : List T). once_below (length zs) y) same,
          );
          all_posted = omega (
            arith,
            sum_changed (λ (u : Known T). length u.posted) views port v w at,
            h.all_posted,
            ap length same,
          );
          stand = each_changed (Standing (h.taken ++ x ∷ []) items) views port w
              (λ j u apart there. (
                stand_longer h.taken (x ∷ []) u.took (h.stand j u there).0,
                subst (λ (zs : List T). Stand zs u.posted) (sym same) (h.stand j u there).1,
              ))
              (stand_last h.taken x v.took stands.0, subst (λ (zs : List T). Stand zs v.posted) (sym same) stands.1);
          within = omega (arith, parts, h.within);
          idle = λ whole. each_changed Idle views port w
              (λ j u apart there. h.idle (omega (arith, parts, whole)) j u there)
              (λ none. absurd (in_use v live (h.idle (omega (arith, parts, whole)) port v at none)));
        },
        (h.fit.0, h.taken, items, seen (x ∷ items) views port v h at, refl),
      )

  pub splits : (port : ℕ) (v : Known T) → v.live ≡ true → Forks (IsKept Fits) port v (one_less v) (newcomer v)
  splits port v live items views h at =
      let w : Known T = one_less v in
      let u : Known T = newcomer v in
      let parts = sum_changed (λ (y : Known T). y.parts) views port v w at in
      let pushed = sum_by_push (λ (y : Known T). y.parts) (set views port w) u in
      let before : sum_by (λ (y : Known T). y.parts) (set views port w ++ u ∷ []) ≡ all_parts →
      (sum_by (λ (y : Known T). y.parts) views ≡ all_parts) × (w.parts + u.parts ≡ v.parts) =
      (λ whole. (
        omega (arith, parts, pushed, h.within, parted v.parts, whole),
        omega (arith, parts, pushed, h.within, parted v.parts, whole),
      )) in
      let some_part : sum_by (λ (y : Known T). y.parts) views ≡ all_parts → v.parts ≢ 0 =
      (λ whole none. in_use v live (h.idle whole port v at none)) in record {
        fit = h.fit;
        taken = h.taken;
        took = λ x. omega (
          arith,
          sum_changed (λ (y : Known T). times x (places y.took)) views port v w at,
          sum_by_push (λ (y : Known T). times x (places y.took)) (set views port w) u,
          h.took x,
          times_none x,
        );
        all_took = omega (
          arith,
          sum_changed (λ (y : Known T). length y.took) views port v w at,
          sum_by_push (λ (y : Known T). length y.took) (set views port w) u,
          h.all_took,
        );
        posted = λ x. omega (
          arith,
          sum_changed (λ (y : Known T). times x (places y.posted)) views port v w at,
          sum_by_push (λ (y : Known T). times x (places y.posted)) (set views port w) u,
          h.posted x,
          times_none x,
        );
        all_posted = omega (
          arith,
          sum_changed (λ (y : Known T). length y.posted) views port v w at,
          sum_by_push (λ (y : Known T). length y.posted) (set views port w) u,
          h.all_posted,
        );
        stand = each_more (Standing h.taken items) (set views port w) u
            (each_changed (Standing h.taken items) views port w (λ j y apart there. h.stand j y there)
            (h.stand port v at)) (tt, tt);
        within = omega (arith, parts, pushed, h.within, parted v.parts);
        idle = λ whole. each_more Idle (set views port w) u
            (each_changed Idle views port w
            (λ j y apart there. h.idle (before whole).0 j y there)
            (λ none. absurd (omega (
              arith,
              none,
              part_left v.parts (omega (arith, some_part (before whole).0)) (before whole).1,
            ))))
            (λ none. absurd (omega (
              arith,
              none,
              part_given v.parts (omega (arith, some_part (before whole).0)) (before whole).1,
            )));
      }

  pub joins : (port other : ℕ) (v w : Known T) → v.live ≡ true →
      Merges (IsKept Fits) port v other w (together v w) spent
  joins port other v w live items views h at apart stays =
      let b : Known T = together v w in
      let there : get_elem? views other ≡ some w =
      ⊎_elim (λ (t : (other ≡ port) × (b ≡ w)). absurd (apart t.0))
      (λ (t : (other ≢ port) × (get_elem? views other ≡ some w)). t.1) (at_set views port other b w stays) in
      let one = sum_changed (λ (y : Known T). y.parts) views port v b at in
      let two = sum_changed (λ (y : Known T). y.parts) (set views port b) other w spent stays in record {
        fit = h.fit;
        taken = h.taken;
        took = λ x. omega (
          arith,
          sum_changed (λ (y : Known T). times x (places y.took)) views port v b at,
          sum_changed (λ (y : Known T). times x (places y.took)) (set views port b) other w spent stays,
          h.took x,
          times_none x,
          times_both x v.took w.took,
        );
        all_took = omega (
          arith,
          sum_changed (λ (y : Known T). length y.took) views port v b at,
          sum_changed (λ (y : Known T). length y.took) (set views port b) other w spent stays,
          h.all_took,
          length-append v.took w.took,
        );
        posted = λ x. omega (
          arith,
          sum_changed (λ (y : Known T). times x (places y.posted)) views port v b at,
          sum_changed (λ (y : Known T). times x (places y.posted)) (set views port b) other w spent stays,
          h.posted x,
          times_none x,
          times_both x v.posted w.posted,
        );
        all_posted = omega (
          arith,
          sum_changed (λ (y : Known T). length y.posted) views port v b at,
          sum_changed (λ (y : Known T). length y.posted) (set views port b) other w spent stays,
          h.all_posted,
          length-append v.posted w.posted,
        );
        stand = each_changed (Standing h.taken items) (set views port b) other spent
            (λ j y _ found. each_changed (Standing h.taken items) views port b (λ k z _ stands. h.stand k z stands) (
              stand_both h.taken v.took w.took (h.stand port v at).0 (h.stand other w there).0,
              stand_both (h.taken ++ items) v.posted w.posted (h.stand port v at).1 (h.stand other w there).1,
            )
            j y found)
            (tt, tt);
        within = omega (arith, one, two, h.within);
        idle = λ whole. each_changed Idle (set views port b) other spent
            (λ j y _ found. each_changed Idle views port b
            (λ k z _ stands. h.idle (omega (arith, one, two, whole)) k z stands)
            (λ none. absurd (in_use v live (h.idle (omega (arith, one, two, whole)) port v at (omega (arith, none)))))
            j y found)
            (λ _. refl);
      }
