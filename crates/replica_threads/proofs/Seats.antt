-- The stations of a run, as they are made one after the other.
use Rattle.std.proofs.Common.{◌≡◌, ℕ, suc, ◌+◌, ◌<◌, true, List, [], ◌∷◌, ◌++◌, length, map, drop, All, sym, ◌∙◌, ap}
use Rattle.std.proofs.Common.{subst, arith}
use Rattle.std.specs.List.{slice_index_or}
use Rattle.std.specs.declared.vec.Vec.{Vec}
use Rattle.std.specs.declared.alloc.Global.{Global}
use Rattle.std.proofs.lemmas.List.{length-map}
use Rattle.std.proofs.lemmas.List.Elements.{All-same, All-nil, All-push}
use Rattle.play_words.specs.declared.input.Input.{Input}
use Rattle.scenario_file.specs.Reading.{Contents}
use Rattle.world_rules.specs.Scenarios.{actors_in}
use Rattle.stamps.specs.Seats.{Source, Drawer, new_seat}
use Rattle.station_turns.specs.Pace.{fit_inputs}
use Rattle.station_turns.specs.Naming.{RunName}
use Rattle.replica_threads.specs.declared.course.Course.{Course}
use Rattle.replica_threads.specs.declared.place.Place.{Place}
use Rattle.replica_threads.specs.Courses.{AreFit, IsCourse, IsPlace, seats_made}
use Rattle.replica_threads.proofs.Numbers.{drop_none, drop_next}

abbrev pub lists : List (Vec Input Global) → List (List Input)
lists inputs = map (λ list. list.items) inputs

-- So many actors have their seats, and the inputs of the others are left.
pub record AreSeated (name : RunName) (source : Source) (first : Drawer) (made : ℕ)
    (rest : List (Vec Input Global)) : Type 0 where
  pub first_is : first ≡ seats_made source made
  pub rest_is : drop made name.inputs ≡ lists rest
  pub all : made + length rest ≡ actors_in name.scenario

pub none_seated : (name : RunName) (source : Source) (first : Drawer) (made : ℕ)
    (inputs rest : List (Vec Input Global)) → made ≡ 0 → rest ≡ inputs → first ≡ seats_made source 0
    → lists inputs ≡ name.inputs → AreFit name.scenario name.inputs → AreSeated name source first made rest
none_seated name source first made inputs rest none same is are fit = record {
  first_is = is ∙ ap (seats_made source) (sym none);
  rest_is = ap (λ (k : ℕ). drop k name.inputs) none ∙ drop_none name.inputs ∙ sym are ∙ ap lists (sym same);
  all = omega (
    arith,
    none,
    ap length same,
    length-map inputs (λ (list : Vec Input Global). list.items),
    ap length are,
    fit.all,
  );
}

module _ (name : RunName) (source : Source) (first : Drawer) (made : ℕ) (list : Vec Input Global)
    (was rest : List (Vec Input Global)) (next : was ≡ list ∷ rest)
    (so : AreSeated name source first made was) where
  dropped : drop made name.inputs ≡ list.items ∷ lists rest
  dropped = so.rest_is ∙ ap lists next

  pub next_there : made < actors_in name.scenario
  next_there = omega (arith, so.all, ap length next)

  pub next_inputs : list.items ≡ slice_index_or name.inputs made []
  next_inputs = sym (drop_next made name.inputs (lists rest) list.items [] dropped).0

  pub next_fit : AreFit name.scenario name.inputs → fit_inputs name.scenario made list.items ≡ true
  next_fit fit = subst (λ (inputs : List Input). fit_inputs name.scenario made inputs ≡ true) (sym next_inputs)
      (fit.each made next_there)

  pub one_seated : (new : Drawer) (now : ℕ) → new ≡ seats_made source (made + 1) → now ≡ made + 1 →
      AreSeated name source new now rest
  one_seated new now is more = record {
    first_is = is ∙ ap (seats_made source) (sym more);
    rest_is = (let one : now ≡ suc made = omega (arith, more) in ap (λ (k : ℕ). drop k name.inputs) one
        ∙ (drop_next made name.inputs (lists rest) list.items [] dropped).1);
    all = omega (arith, more, so.all, ap length next);
  }

pub all_seated : (name : RunName) (source : Source) (first : Drawer) (made : ℕ) (rest : List (Vec Input Global)) →
    length rest ≡ 0 → AreSeated name source first made rest
    → (made ≡ actors_in name.scenario) × (first ≡ seats_made source (actors_in name.scenario))
all_seated name source first made rest none so =
    let all : made ≡ actors_in name.scenario = omega (arith, none, so.all) in
    (all, so.first_is ∙ ap (seats_made source) all)

-- a seat that was split off from the first one
pub seat_split : (source : Source) (first seat : Drawer) (actor : ℕ) → first ≡ seats_made source actor →
    seat ≡ new_seat source first.made
    → (seat.number ≡ actor + 1) × (seat.numbers ≡ seat.number ∷ []) × (seat.drawn ≡ [])
seat_split source first seat actor is split =
    let made : first.made ≡ actor + 1 = ap (λ (d : Drawer). d.made) is in
    let number : seat.number ≡ first.made = ap (λ (d : Drawer). d.number) split in (
      number ∙ made,
      ap (λ (d : Drawer). d.numbers) split ∙ ap (λ (n : ℕ). n ∷ []) (sym number),
      ap (λ (d : Drawer). d.drawn) split,
    )

-- the first seat then counts one more
pub first_after : (source : Source) (first new : Drawer) (actor : ℕ) → first ≡ seats_made source actor →
    new ≡ record first { made = first.made + 1 } → new ≡ seats_made source (actor + 1)
first_after source first new actor is counted = counted ∙ ap (λ (d : Drawer). record d { made = d.made + 1 }) is

-- the places so far

pub no_places : (name : RunName) (places : List Place) → places ≡ [] → All (IsPlace name) places
no_places name places none = All-same (IsPlace name) places [] none (All-nil (IsPlace name))

pub one_place : (name : RunName) (places more : List Place) (place : Place) → All (IsPlace name) places →
    IsPlace name place → more ≡ places ++ place ∷ [] → All (IsPlace name) more
one_place name places more place each is grown = All-same (IsPlace name) more (places ++ place ∷ []) grown
    (All-push (IsPlace name) places place each is)

pub can_make : (name : RunName) (course : Course) (places : List Place) → IsCourse name course →
    All (IsPlace name) places
    → (i : ℕ) (x : Place) → i < length places → x ≡ slice_index_or places i x → IsCourse name course × IsPlace name x
can_make name course places is each i x inside at = (is, subst (IsPlace name) (sym at) (each i x inside))
