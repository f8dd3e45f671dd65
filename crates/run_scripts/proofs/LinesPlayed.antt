-- A play line by line: what is played so far, with the lines that are left, is the whole.
use Rattle.std.proofs.Common.{◌≡◌, ℕ, zero, suc, ◌+◌, ◌<◌, ◌≤◌, Bool, true, false, not, List, [], ◌∷◌, Result, Ok}
use Rattle.std.proofs.Common.{Err, length, map, drop, get_or, refl, sym, ◌∙◌, ap, subst, arith}
use Rattle.std.specs.List.{list_all}
use Rattle.std.proofs.lemmas.Bool.{and_from}
use Rattle.std.proofs.lemmas.List.{drop_all, length-map, get_or-map, same_lists}
use Rattle.quorum_sets.specs.Masters.{numbers_below}
use Rattle.history_rules.specs.Events.{Entry}
use Rattle.world_history.specs.State.{BenchState}
use Rattle.world_history.specs.KeptState.{KeptState}
use Rattle.scenario_file.specs.Reading.{Contents}
use Rattle.script_lines.specs.declared.saying.Saying.{Saying}
use Rattle.script_lines.specs.declared.script.Line.{Line}
use Rattle.script_laws.specs.Accepted.{is_step_of, are_lines_of}
use Rattle.world_rules.specs.Scenarios.{actors_in}
use Rattle.run_scripts.specs.declared.answer.PlayAnswer.{PlayAnswer}
use Rattle.run_scripts.specs.declared.answer.PlayAnswer.TheVariants as answer
use Rattle.run_scripts.specs.declared.answer.StepRefusal.{StepRefusal}
use Rattle.run_scripts.specs.declared.answer.StepRefusal.TheVariants as stop
use Rattle.run_scripts.specs.declared.playing.Playing.{Playing}
use Rattle.run_scripts.specs.Making.{Given, Making, Going, bench_at, goes, then_plays, played_from, played}
use Rattle.run_scripts.specs.Making.{beginning}
use Rattle.run_scripts.specs.Playing.{IsMaking, IsPlaying, IsKeptAt, Goes, GoesAt, Plays, PlaysTo, ArePlayed}
use Rattle.run_scripts.specs.Playing.{answer_at}
use Rattle.world_history.proofs.Lists.{number_at}
use Rattle.quorum_sets.proofs.Numbered.{length-numbers_below}
use Rattle.plain_lists.proofs.Lists.{left_more, all_at}

abbrev pub Told : Type 0
Told = Result (List Entry) (ℕ × StepRefusal)

-- a play has come to where the lines left lead to the whole
pub record Come (g : Given) (rest : Making → Told) (whole : Told) (p : Playing) : Type 0 where
  pub making : Making
  pub is : IsMaking g making p
  pub same : rest making ≡ whole

-- it has done so, from wherever it began
pub record OnTheWay (g : Given) (rest all : Making → Told) (began p : Playing) : Type 0 where
  pub playing : IsPlaying g p
  pub come : (m : Making) → IsMaking g m began → Come g rest (all m) p

pub sets_out : (g : Given) (lines : List Line) (p : Playing) → IsPlaying g p →
    OnTheWay g (played_from g lines) (played_from g lines) p p
sets_out g lines p playing = record { playing = playing; come = λ m is. record { making = m; is = is; same = refl } }

line_more : (g : Given) (line : Line) (rest : List Line) (m : Making) →
    played_from g (line ∷ rest) m ≡ then_plays line.number (goes g line.step m) (played_from g rest)
unfolding played_from
line_more g line rest m = refl

lines_end : (g : Given) (m : Making) → played_from g [] m ≡ Ok m.history
unfolding played_from
lines_end g m = refl

line_next : (g : Given) (lines : List Line) (i : ℕ) (line : Line) (m : Making) → i < length lines →
    line ≡ get_or lines i line
    → played_from g (drop i lines) m ≡ then_plays line.number (goes g line.step m) (played_from g (drop (i + 1) lines))
line_next g lines i line m below at = ap (λ (ls : List Line). played_from g ls m) (left_more lines i line below at)
    ∙ line_more g line (drop (i + 1) lines) m

pub line_accepted : (c : Contents) (lines : List Line) (i : ℕ) (line : Line) → are_lines_of c lines ≡ true →
    i < length lines → line ≡ get_or lines i line → is_step_of c line.step ≡ true
line_accepted c lines i line accepted below at =
    all_at (λ (l : Line). is_step_of c l.step) lines i line accepted below at

-- a line more
pub plays_line : {g : Given} {done : Unit {0}} {all : Making → Told} {began p q : Playing} (lines : List Line) (i : ℕ)
    (line : Line) → i < length lines → line ≡ get_or lines i line
    → OnTheWay g (played_from g (drop i lines)) all began p →
    ((m : Making) → IsMaking g m p → Goes g (Ok done) (goes g line.step m) q)
    → OnTheWay g (played_from g (drop (i + 1) lines)) all began q
plays_line {g} {done} {all} {began} {p} {q} lines i line below at way does = record {
  playing = let first = does way.playing.making way.playing.is in record { making = first.0; is = first.2 };
  come = λ m is.
      let before = way.come m is in
      let next = does before.making before.is in
      record {
        making = next.0;
        is = next.2;
        same = sym (line_next g lines i line before.making below at
            ∙ ap (λ (r : Going). then_plays line.number r (played_from g (drop (i + 1) lines))) next.1) ∙ before.same;
      };
}

stopped_at : {B : Type 0} (Shows : B → List Entry → Type 0) (g : Given) (why : StepRefusal) (number : ℕ)
    (going : Going) (rest : Making → Told) (whole : Told) (p : Playing)
    → then_plays number going rest ≡ whole → Goes {A = Unit {0}} g (Err why) going p →
    Plays Shows (Err (answer_at number why)) whole
stopped_at Shows g stop.NoFrame number going rest whole p same goes =
    sym same ∙ ap (λ (r : Going). then_plays number r rest) goes
stopped_at Shows g stop.TooMany number going rest whole p same goes =
    sym same ∙ ap (λ (r : Going). then_plays number r rest) goes
stopped_at Shows g stop.Want number going rest whole p same goes = tt

-- where a line stops, the play does
pub stops_at_line : {B : Type 0} (Shows : B → List Entry → Type 0) {g : Given} {all : Making → Told}
    {began p : Playing} (q : Playing) (lines : List Line) (i : ℕ) (line : Line)
    (r : Result B PlayAnswer) (answered y : PlayAnswer) → r ≡ Err y → y ≡ answered → i < length lines →
    line ≡ get_or lines i line
    → OnTheWay g (played_from g (drop i lines)) all began p →
    ((m : Making) → IsMaking g m p → GoesAt g line.number (Err answered) (goes g line.step m) q)
    → (m : Making) → IsMaking g m began → Plays Shows r (all m)
stops_at_line {B} Shows {g} {all} {began} {p} q lines i line r answered y one two below at way does m is =
    let before = way.come m is in
    let stop = does before.making before.is in
    subst (λ (z : Result B PlayAnswer). Plays Shows z (all m)) (sym (one ∙ ap Err (two ∙ stop.1)))
    (stopped_at Shows g stop.0 line.number (goes g line.step before.making)
    (played_from g (drop (i + 1) lines)) (all m) q
    (sym (line_next g lines i line before.making below at) ∙ before.same) stop.2)

-- where no line is left, the play is done
pub plays_out : {g : Given} {done : Unit {0}} {all : Making → Told} {began p : Playing} (lines : List Line) (i : ℕ) →
    length lines ≤ i
    → OnTheWay g (played_from g (drop i lines)) all began p → (m : Making) → IsMaking g m began →
    Plays (PlaysTo g p) (Ok done) (all m)
plays_out {g} {done} {all} {began} {p} lines i past way m is =
    let at = way.come m is in (
      at.making.history,
      sym at.same ∙ ap (λ (ls : List Line). played_from g ls at.making) (drop_all i lines past) ∙ lines_end g at.making,
      (at.making, refl, at.is),
    )

-- an answer that stops a play stops what calls it
pub stops_too : {A B : Type 0} (Shows : A → List Entry → Type 0) (Others : B → List Entry → Type 0)
    (r : Result B PlayAnswer) (why y : PlayAnswer) (told : Told) → r ≡ Err y → y ≡ why
    → Plays Shows (Err why) told → Plays Others r told
stops_too {A} {B} Shows Others r why y told one two stop =
    subst (λ (z : Result B PlayAnswer). Plays Others z told) (sym (one ∙ ap Err two)) (by why stop)
  where
    by : (why : PlayAnswer) → Plays Shows (Err why) told → Plays Others (Err why) told
    by (answer.NoFrame line) h = h
    by (answer.TooMany line) h = h
    by answer.Want h = tt

pub plays_wants : {A : Type 0} (Shows : A → List Entry → Type 0) (r : Result A PlayAnswer) (y : PlayAnswer)
    (told : Told) → r ≡ Err y → y ≡ answer.Want → Plays Shows r told
plays_wants {A} Shows r y told one two =
    subst (λ (z : Result A PlayAnswer). Plays Shows z told) (sym (one ∙ ap Err two)) tt

-- a list has an element at each of its places
kept_at : (kept : List KeptState) (i : ℕ) → i < length kept → (k : KeptState) × (k ≡ get_or kept i k)
kept_at [] i below = absurd (omega arith)
kept_at (k ∷ rest) zero below = (k, refl)
kept_at (k ∷ rest) (suc i) below = kept_at rest i (omega arith)

all_by_places : (f : KeptState → Bool) (kept : List KeptState) →
    ((i : ℕ) (k : KeptState) → i < length kept → k ≡ get_or kept i k → f k ≡ true) → list_all f kept ≡ true
all_by_places f [] each = refl
all_by_places f (k ∷ rest) each =
    and_from (f k) (list_all f rest) (each 0 k (omega arith) refl)
    (all_by_places f rest (λ i x below at. each (suc i) x (omega arith) at))

are_played : (g : Given) (m : Making) (p : Playing) → IsMaking g m p → ArePlayed g m.history p.kept.items
are_played g m p is = (
  same_lists (map (λ (k : KeptState). k.bench) p.kept.items)
      (map (bench_at g m.history) (numbers_below (actors_in g.scenario)))
      (length-map p.kept.items (λ (k : KeptState). k.bench) ∙ is.many
      ∙ sym (length-map (numbers_below (actors_in g.scenario)) (bench_at g m.history)
      ∙ length-numbers_below (actors_in g.scenario)))
      (λ i d below. each i d (let many = is.many in let long = length-map p.kept.items (λ (k : KeptState). k.bench) in
      omega arith)),
  all_by_places (λ (k : KeptState). not k.is_spent) p.kept.items
      (λ i k below at. ap not (is.kept i k (let many = is.many in omega arith) at).works),
)
  where
    each : (i : ℕ) (d : BenchState) → i < actors_in g.scenario
        → get_or (map (λ (k : KeptState). k.bench) p.kept.items) i d ≡ get_or
        (map (bench_at g m.history) (numbers_below (actors_in g.scenario))) i d
    each i d below =
        let there : i < length p.kept.items = (let many = is.many in omega arith) in
        let one = kept_at p.kept.items i there in
        get_or-map (λ (k : KeptState). k.bench) p.kept.items i one.0 d there
        ∙ ap (λ (k : KeptState). k.bench) (sym one.1) ∙ (is.kept i one.0 below one.1).bench
        ∙ ap (bench_at g m.history) (sym (number_at (actors_in g.scenario) i 0 below))
        ∙ sym (get_or-map (bench_at g m.history) (numbers_below (actors_in g.scenario)) i 0 d
        (let long = length-numbers_below (actors_in g.scenario) in omega arith))

pub play_done : (g h : Given) (p : Playing) (kept : List KeptState) (told : Told) → g ≡ h → kept ≡ p.kept.items →
    Plays (PlaysTo g p) (Ok tt) told
    → (history : List Entry) × (told ≡ Ok history) × ArePlayed h history kept
play_done g h p kept told same are plays =
    let m = plays.2.0 in (
      plays.0,
      plays.1,
      subst (λ (ks : List KeptState). ArePlayed h plays.0 ks) (sym are)
          (subst (λ (x : Given). ArePlayed x plays.0 p.kept.items) same
          (subst (λ (hs : List Entry). ArePlayed g hs p.kept.items) plays.2.1 (are_played g m p plays.2.2))),
    )

-- what a play goes by, in other words
given_of : Contents → List Saying → Given
given_of c sayings = record { scenario = c; sayings = sayings }

pub given_same : (g : Given) (c : Contents) (said words : List Saying) →
    ◌≡◌ {A = Given} g (record { scenario = c; sayings = said }) → said ≡ words
    → ◌≡◌ {A = Given} g (record { scenario = c; sayings = words })
unfolding given_of
given_same g c said words is same = is ∙ ap (given_of c) same

pub begins : (g h : Given) (p : Playing) → g ≡ h → IsMaking h beginning p → IsMaking g beginning p
begins g h p same is = subst (λ (x : Given). IsMaking x beginning p) (sym same) is

pub begins_playing : (g h : Given) (p : Playing) → g ≡ h → IsMaking h beginning p → IsPlaying g p
begins_playing g h p same is = record { making = beginning; is = begins g h p same is }

pub lines_accepted : (g h : Given) (lines script : List Line) → g ≡ h → lines ≡ script →
    are_lines_of h.scenario script ≡ true → are_lines_of g.scenario lines ≡ true
lines_accepted g h lines script same are accepted = ap (λ (x : Given). are_lines_of x.scenario lines) same
    ∙ ap (are_lines_of h.scenario) are ∙ accepted

pub play_told : (g h : Given) (lines script : List Line) → g ≡ h → lines ≡ script →
    played_from g lines beginning ≡ played h script
unfolding played
play_told g h lines script same are = ap (λ (x : Given). played_from x lines beginning) same
    ∙ ap (λ (ls : List Line). played_from h ls beginning) are

pub told_as : {A : Type 0} (Shows : A → List Entry → Type 0) (r : Result A PlayAnswer) (told other : Told) →
    told ≡ other → Plays Shows r told → Plays Shows r other
told_as Shows r told other same plays = subst (λ (t : Told). Plays Shows r t) same plays
