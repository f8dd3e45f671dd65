-- A play that goes through a list of things to do: what is done so far, with what is left, is the whole.
use Rattle.std.proofs.Common.{◌≡◌, ℕ, zero, suc, ◌+◌, ◌-◌, ◌<◌, ◌≤◌, List, [], ◌∷◌, Result, Ok, Err, length, drop}
use Rattle.std.proofs.Common.{get_or, refl, sym, ◌∙◌, ap, subst, arith}
use Rattle.std.proofs.lemmas.List.{drop_all}
use Rattle.run_scripts.specs.declared.answer.StepRefusal.{StepRefusal}
use Rattle.run_scripts.specs.declared.answer.StepRefusal.TheVariants as stop
use Rattle.run_scripts.specs.declared.playing.Playing.{Playing}
use Rattle.run_scripts.specs.Making.{Given, Making, Going, then_goes, times_over}
use Rattle.run_scripts.specs.Playing.{IsMaking, IsPlaying, Goes}
use Rattle.plain_lists.proofs.Lists.{left_more}

-- a play has come to where the rest leads to the whole
pub record Reached (g : Given) (rest : Making → Going) (whole : Going) (p : Playing) : Type 0 where
  pub making : Making
  pub is : IsMaking g making p
  pub same : rest making ≡ whole

-- it has done so, from wherever it began
pub record Underway (g : Given) (rest all : Making → Going) (began p : Playing) : Type 0 where
  pub playing : IsPlaying g p
  pub reached : (m : Making) → IsMaking g m began → Reached g rest (all m) p

pub starts : (g : Given) (all : Making → Going) (p : Playing) → IsPlaying g p → Underway g all all p p
starts g all p playing = record { playing = playing; reached = λ m is. record { making = m; is = is; same = refl } }

-- the same rest in other words
pub restated : {g : Given} {rest all : Making → Going} {began p : Playing} (other : Making → Going) →
    ((m : Making) → other m ≡ rest m)
    → Underway g rest all began p → Underway g other all began p
restated {g} {rest} {all} {began} {p} other same way = record {
  playing = way.playing;
  reached = λ m is. let at = way.reached m is in
      record { making = at.making; is = at.is; same = same at.making ∙ at.same };
}

went : {g : Given} {done : Unit {0}} {going : Going} {p : Playing} (rest : Making → Going) (whole : Going) →
    then_goes going rest ≡ whole
    → Goes g (Ok done) going p → Reached g rest whole p
went rest whole same goes =
    record { making = goes.0; is = goes.2; same = sym (ap (λ r. then_goes r rest) goes.1) ∙ same }

-- a step more
pub steps_on : {g : Given} {done : Unit {0}} {all : Making → Going} {began p q : Playing} (step rest : Making → Going)
    → Underway g (λ m. then_goes (step m) rest) all began p →
    ((m : Making) → IsMaking g m p → Goes g (Ok done) (step m) q) → Underway g rest all began q
steps_on {g} {done} {all} {began} {p} {q} step rest way does = record {
  playing = let first = does way.playing.making way.playing.is in record { making = first.0; is = first.2 };
  reached = λ m is. let at = way.reached m is in went rest (all m) at.same (does at.making at.is);
}

stopped : (A B : Type 0) (g : Given) (why : StepRefusal) (going whole : Going) (p : Playing) (rest : Making → Going) →
    then_goes going rest ≡ whole
    → Goes {A = A} g (Err why) going p → Goes {A = B} g (Err why) whole p
stopped A B g stop.NoFrame going whole p rest same goes = sym same ∙ ap (λ r. then_goes r rest) goes
stopped A B g stop.TooMany going whole p rest same goes = sym same ∙ ap (λ r. then_goes r rest) goes
stopped A B g stop.Want going whole p rest same goes = tt

-- where a step stops, the whole does
pub stops : (A B : Type 0) {g : Given} {all : Making → Going} {began p : Playing} (q : Playing) (why : StepRefusal)
    (step rest : Making → Going)
    → Underway g (λ m. then_goes (step m) rest) all began p →
    ((m : Making) → IsMaking g m p → Goes {A = A} g (Err why) (step m) q)
    → (m : Making) → IsMaking g m began → Goes {A = B} g (Err why) (all m) q
stops A B {g} {all} {began} {p} q why step rest way does m is =
    let at = way.reached m is in stopped A B g why (step at.making) (all m) q rest at.same (does at.making at.is)

-- where nothing is left, the whole is done
pub ends : {g : Given} {done : Unit {0}} {rest all : Making → Going} {began p : Playing} →
    ((m : Making) → rest m ≡ Ok m) → Underway g rest all began p
    → (m : Making) → IsMaking g m began → Goes g (Ok done) (all m) p
ends none way m is = let at = way.reached m is in (at.making, sym at.same ∙ none at.making, at.is)

-- one of a list more
pub list_step : {X : Type 0} (F : List X → Making → Going) (step : X → Making → Going) →
    ((x : X) (xs : List X) (m : Making) → F (x ∷ xs) m ≡ then_goes (step x m) (F xs))
    → (xs : List X) (i : ℕ) (x : X) → i < length xs → x ≡ get_or xs i x → (m : Making) →
    then_goes (step x m) (F (drop (i + 1) xs)) ≡ F (drop i xs) m
list_step F step law xs i x below is m = sym (law x (drop (i + 1) xs) m)
    ∙ ap (λ ys. F ys m) (sym (left_more xs i x below is))

-- the last of a list is done
pub list_end : {X : Type 0} (F : List X → Making → Going) → ((m : Making) → F [] m ≡ Ok m) → (xs : List X) (i : ℕ) →
    length xs ≤ i → (m : Making) → F (drop i xs) m ≡ Ok m
list_end F none xs i past m = ap (λ ys. F ys m) (drop_all i xs past) ∙ none m

-- one of so many times more
times_more : (n : ℕ) (f : Making → Going) (m : Making) → times_over (suc n) f m ≡ then_goes (f m) (times_over n f)
unfolding times_over
times_more n f m = refl

pub times_step : (f : Making → Going) (n i : ℕ) → i < n → (m : Making) →
    then_goes (f m) (times_over (n - (i + 1)) f) ≡ times_over (n - i) f m
times_step f n i below m =
    let one : suc (n - (i + 1)) ≡ n - i = omega arith in
    sym (times_more (n - (i + 1)) f m) ∙ ap (λ k. times_over k f m) one

pub times_end : (f : Making → Going) (n i : ℕ) → n ≤ i → (m : Making) → times_over (n - i) f m ≡ Ok m
unfolding times_over
times_end f n i past m = let none : n - i ≡ 0 = omega arith in ap (λ k. times_over k f m) none

-- what a list's next one does, in the three cases of a loop over it
pub list_on : {X : Type 0} {g : Given} {done : Unit {0}} {all : Making → Going} {began p q : Playing}
    (F : List X → Making → Going) (step : X → Making → Going)
    → ((x : X) (xs : List X) (m : Making) → F (x ∷ xs) m ≡ then_goes (step x m) (F xs)) →
    (xs : List X) (i : ℕ) (x : X) → i < length xs → x ≡ get_or xs i x
    → Underway g (F (drop i xs)) all began p → ((m : Making) → IsMaking g m p → Goes g (Ok done) (step x m) q) →
    Underway g (F (drop (i + 1) xs)) all began q
list_on F step law xs i x below is way does =
    steps_on (step x) (F (drop (i + 1) xs))
    (restated (λ m. then_goes (step x m) (F (drop (i + 1) xs))) (list_step F step law xs i x below is) way) does

pub list_stops : {X A : Type 0} {g : Given} {all : Making → Going} {began p : Playing} (q : Playing)
    (F : List X → Making → Going) (step : X → Making → Going)
    → ((x : X) (xs : List X) (m : Making) → F (x ∷ xs) m ≡ then_goes (step x m) (F xs)) →
    (xs : List X) (i : ℕ) (x : X) → i < length xs → x ≡ get_or xs i x
    → (r : Result A StepRefusal) (why y : StepRefusal) → r ≡ Err y → y ≡ why
    → Underway g (F (drop i xs)) all began p →
    ((m : Making) → IsMaking g m p → Goes {A = Unit {0}} g (Err why) (step x m) q) → (m : Making) →
    IsMaking g m began → Goes g r (all m) q
list_stops {X} {A} {g} {all} {began} {p} q F step law xs i x below is r why y one two way does m making =
    subst (λ (z : Result A StepRefusal). Goes g z (all m) q) (sym (one ∙ ap Err two))
    (stops (Unit {0}) A q why (step x) (F (drop (i + 1) xs))
    (restated (λ n. then_goes (step x n) (F (drop (i + 1) xs))) (list_step F step law xs i x below is) way)
    does m making)

pub list_ends : {X : Type 0} {g : Given} {done : Unit {0}} {all : Making → Going} {began p : Playing}
    (F : List X → Making → Going) → ((m : Making) → F [] m ≡ Ok m)
    → (xs : List X) (i : ℕ) → length xs ≤ i → Underway g (F (drop i xs)) all began p → (m : Making) →
    IsMaking g m began → Goes g (Ok done) (all m) p
list_ends F none xs i past way = ends (list_end F none xs i past) way

-- the same of what is done so many times
pub times_on : {g : Given} {done : Unit {0}} {all : Making → Going} {began p q : Playing}
    (f : Making → Going) (n i : ℕ) → i < n
    → Underway g (times_over (n - i) f) all began p → ((m : Making) → IsMaking g m p → Goes g (Ok done) (f m) q) →
    Underway g (times_over (n - (i + 1)) f) all began q
times_on f n i below way does =
    steps_on f (times_over (n - (i + 1)) f)
    (restated (λ m. then_goes (f m) (times_over (n - (i + 1)) f)) (times_step f n i below) way) does

pub times_stops : {A : Type 0} {g : Given} {all : Making → Going} {began p : Playing} (q : Playing)
    (f : Making → Going) (n i : ℕ) → i < n
    → (r : Result A StepRefusal) (why y : StepRefusal) → r ≡ Err y → y ≡ why
    → Underway g (times_over (n - i) f) all began p →
    ((m : Making) → IsMaking g m p → Goes {A = Unit {0}} g (Err why) (f m) q) → (m : Making) →
    IsMaking g m began → Goes g r (all m) q
times_stops {A} {g} {all} {began} {p} q f n i below r why y one two way does m making =
    subst (λ (z : Result A StepRefusal). Goes g z (all m) q) (sym (one ∙ ap Err two))
    (stops (Unit {0}) A q why f (times_over (n - (i + 1)) f)
    (restated (λ k. then_goes (f k) (times_over (n - (i + 1)) f)) (times_step f n i below) way) does m making)

pub times_ends : {g : Given} {done : Unit {0}} {all : Making → Going} {began p : Playing}
    (f : Making → Going) (n i : ℕ) → n ≤ i
    → Underway g (times_over (n - i) f) all began p → (m : Making) → IsMaking g m began → Goes g (Ok done) (all m) p
times_ends f n i past way = ends (times_end f n i past) way

-- want of memory says nothing
pub wants : {A : Type 0} (g : Given) (r : Result A StepRefusal) (y : StepRefusal) (going : Going) (p : Playing) →
    r ≡ Err y → y ≡ stop.Want → Goes g r going p
wants {A} g r y going p one two = subst (λ (z : Result A StepRefusal). Goes g z going p) (sym (one ∙ ap Err two)) tt

pub times_starts : (g : Given) (f : Making → Going) (n : ℕ) (p : Playing) → IsPlaying g p →
    Underway g (times_over (n - 0) f) (times_over n f) p p
times_starts g f n p playing =
    let same : n - 0 ≡ n = omega arith in
    restated (times_over (n - 0) f) (λ m. ap (λ (k : ℕ). times_over k f m) same) (starts g (times_over n f) p playing)
