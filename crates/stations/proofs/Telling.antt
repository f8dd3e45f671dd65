-- What is told one after another is told together.
use Rattle.std.proofs.Common.{◌≡◌, ℕ, ◌<◌, ◌≤◌, ◌+◌, Bool, true, false, List, [], ◌∷◌, ◌++◌, take, length, get_or}
use Rattle.std.proofs.Common.{append_assoc, append-nil, refl, sym, ◌∙◌, ap, subst}
use Rattle.std.proofs.lemmas.List.{take_more}
use Rattle.std.proofs.lemmas.List.Concat.{flat_map-append}
use Rattle.std.specs.List.{flat_map}
use Rattle.plain_lists.proofs.Lists.{take_whole}
use Rattle.scenario_file.specs.Reading.{Contents}
use Rattle.station_files.specs.Batch.{Waiting}
use Rattle.station_lives.specs.Saying.{SaidBy, nothing}
use Rattle.station_lives.proofs.Saying.{said_after}
use Rattle.stations.specs.Telling.{Tells}

pub tells_none : (c : Contents) (w : Waiting) → Tells c [] w w
tells_none c w = record { lines = refl; out = sym (append-nil w.out); notes = λ quiet. (quiet, nothing) }

pub tells_both : (c : Contents) (first second : List ℕ) (x y z : Waiting) → Tells c first x y → Tells c second y z →
    Tells c (first ++ second) x z
tells_both c first second x y z a b = record {
  lines = b.lines ∙ a.lines;
  out = b.out ∙ ap (λ (bs : List ℕ). bs ++ second) a.out ∙ append_assoc x.out first second;
  notes = λ quiet.
      let later = b.notes quiet in
      let sooner = a.notes later.0 in
      (sooner.0, said_after first sooner.1 later.1);
}

-- words, so that it isn't quiet
pub tells_word : (c : Contents) (word : List ℕ) (x y : Waiting) →
    y ≡ record { lines = x.lines; out = x.out ++ word; has_words = true } → Tells c word x y
tells_word c word x y is = record {
  lines = ap (λ (w : Waiting). w.lines) is;
  out = ap (λ (w : Waiting). w.out) is;
  notes = λ quiet. absurd (loud (sym quiet ∙ ap (λ (w : Waiting). w.has_words) is));
}
  where
    loud : false ≡ true → ⊥
    loud e = cc

-- word by word
pub words_first : {X : Type 0} (c : Contents) (f : X → List ℕ) (xs : List X) (w : Waiting) →
    Tells c (flat_map f (take 0 xs)) w w
words_first c f xs w = tells_none c w

pub words_more : {X : Type 0} (c : Contents) (f : X → List ℕ) (xs : List X) (i : ℕ) (x : X) (first old new : Waiting) →
    i < length xs → x ≡ get_or xs i x → Tells c (flat_map f (take i xs)) first old → Tells c (f x) old new →
    Tells c (flat_map f (take (i + 1) xs)) first new
words_more {X} c f xs i x first old new below is so_far next =
    subst (λ (bs : List ℕ). Tells c bs first new)
    (sym
    (ap (flat_map f) (take_more xs i x below) ∙ flat_map-append f (take i xs) (get_or xs i x ∷ [])
    ∙ ap (λ (z : X). flat_map f (take i xs) ++ (f z ++ [])) (sym is)
    ∙ ap (λ (ys : List ℕ). flat_map f (take i xs) ++ ys) (append-nil (f x))))
    (tells_both c (flat_map f (take i xs)) (f x) first old new so_far next)

pub words_all : {X : Type 0} (c : Contents) (f : X → List ℕ) (xs : List X) (i : ℕ) (first now : Waiting) →
    length xs ≤ i → Tells c (flat_map f (take i xs)) first now → Tells c (flat_map f xs) first now
words_all {X} c f xs i first now end so_far =
    subst (λ (ys : List X). Tells c (flat_map f ys) first now) (take_whole xs i end) so_far
