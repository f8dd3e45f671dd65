-- A wait, by the master's own moments: it is as long as from any moment of its view on at which something was eligible that
-- isn't ordered yet, and where it isn't 0 it is just so long from one of them on. And what such a moment is in a history: the
-- end of one of its beginnings.
use Rattle.std.proofs.Common.{◌≡◌, ℕ, ◌+◌, ◌≤◌, suc, Bool, true, false, cond, ◌&&◌, List, [], ◌∷◌, ◌++◌, filter, length}
use Rattle.std.proofs.Common.{map, reverse, nat_eq, nat_lt, refl, sym, ◌∙◌, ap, subst, inl, inr, ◌⊎◌, arith, append_assoc, append-nil}
use Rattle.std.proofs.Common.{length-append}
use Rattle.std.proofs.lemmas.Bool.{false≢true, cases_eq, cases_Bool, eq-eqb, ne_eqb}
use Rattle.std.proofs.lemmas.List.{reverse-append, reverse-reverse}
use Rattle.std.proofs.lemmas.List.Elements.{filter-append}
use Rattle.std.specs.Prelude.{slice_index}
use Rattle.plain_lists.specs.Lists.{IsIn, here, there}
use Rattle.plain_lists.proofs.Members.{none_in, in_right, in_cons_cases, in_reverse, any_from, any_in}
use Rattle.quorum_sets.specs.Masters.{numbers_below}
use Rattle.message_types.specs.declared.signed.Signed.{Signed}
use Rattle.message_types.specs.declared.body.Body.{Body}
use Rattle.protocol_rules.specs.Group.{Group}
use Rattle.protocol_rules.specs.Matrix.{eligible, exceeds}
use Rattle.protocol_rules.specs.Measures.{ticks_of}
use Rattle.protocol_rules.specs.Patience.{Moment, ticks_in, while_such, from_first, stretch, lacks, wait}
use Rattle.protocol_rules.specs.Views.{view}
use Rattle.protocol_rules.specs.Master.{Heard, known_at, told_of, latest_rows, moment, moments_of}
use Rattle.history_rules.specs.Events.{Event, Tick, Entry, is_tick, is_silent}
use Rattle.history_rules.specs.Setup.{Setup}
use Rattle.history_rules.specs.Legal.{heard, known_of}
use Rattle.agreement.proofs.Places.{by_growth, heads_same, tails_same}
use Rattle.agreement.proofs.KnownAsItGrows.{hears, heard_last, heard_other, heard_silent}
use Rattle.agreement.proofs.LearnedWasSaid.{heard_none}
use Rattle.agreement.proofs.QuorumsMeet.{below_from}
use Rattle.agreement.proofs.QuorumsStay.{view_more}
use Rattle.agreement.proofs.VouchedIsOrdered.{known_of_last, known_of_grows}
use Rattle.progress.specs.Serving.{ticks_among}
use Rattle.progress.proofs.Arriving.{in_more}
use Rattle.progress.proofs.Summing.{numbers_at}
use Rattle.progress.proofs.InOrder.{nil_place, append_place}

-- ticks of events
abbrev pub ticks_heard : List Heard → ℕ
ticks_heard events = length (filter (λ e. e.is_tick) events)

pub ticks_joined : (xs ys : List Heard) → ticks_heard (xs ++ ys) ≡ ticks_heard xs + ticks_heard ys
ticks_joined xs ys = ap length (filter-append (λ e. e.is_tick) xs ys)
    ∙ length-append (filter (λ e. e.is_tick) xs) (filter (λ e. e.is_tick) ys)

pub among_joined : (xs ys : List Entry) (m : ℕ) → ticks_among (xs ++ ys) m ≡ ticks_among xs m + ticks_among ys m
among_joined xs ys m = ap length (filter-append (λ e. nat_eq e.actor m && is_tick e.event) xs ys)
    ∙ length-append (filter (λ e. nat_eq e.actor m && is_tick e.event) xs)
    (filter (λ e. nat_eq e.actor m && is_tick e.event) ys)

moment_ticks_joined : (xs ys : List Moment) → ticks_in (xs ++ ys) ≡ ticks_in xs + ticks_in ys
moment_ticks_joined xs ys = ap length (filter-append (λ m. m.is_tick) xs ys)
    ∙ length-append (filter (λ m. m.is_tick) xs) (filter (λ m. m.is_tick) ys)

pub counted_alike : {X Y : Type 0} (b : Bool) (x : X) (y : Y) (xs : List X) (ys : List Y) → length xs ≡ length ys →
    length {A = X} (cond b (x ∷ xs) xs) ≡ length {A = Y} (cond b (y ∷ ys) ys)
counted_alike true x y xs ys e = ap suc e
counted_alike false x y xs ys e = e

pub ticks_of_moments : (g : Group) (before events : List Heard) → ticks_in (moments_of g before events) ≡ ticks_heard events
ticks_of_moments g before [] = refl
ticks_of_moments g before (e ∷ rest) = counted_alike e.is_tick (moment g (known_at before e.took) e.is_tick) e
    (filter (λ m. m.is_tick) (moments_of g (before ++ e ∷ []) rest)) (filter (λ h. h.is_tick) rest)
    (ticks_of_moments g (before ++ e ∷ []) rest)

pub ticks_of_told : (g : Group) (before events : List Heard) → ticks_of (told_of g before events) ≡ ticks_heard events
ticks_of_told g before [] = refl
ticks_of_told g before (e ∷ rest) = counted_alike e.is_tick _ e
    (filter (λ t. t.is_tick) (told_of g (before ++ e ∷ []) rest)) (filter (λ h. h.is_tick) rest)
    (ticks_of_told g (before ++ e ∷ []) rest)

silent_is_no_tick : (event : Event) → is_silent event ≡ true → is_tick event ≡ false
silent_is_no_tick Tick e = absurd (false≢true e)
silent_is_no_tick _ e = refl

-- a master's ticks among the entries are those of what it heard
pub ticks_of_entries : (w : Setup) (m : ℕ) (history : List Entry) → ticks_heard (heard w history m) ≡ ticks_among history m
ticks_of_entries w m history = by_growth (λ (xs : List Entry). ticks_heard (heard w xs m) ≡ ticks_among xs m)
    (ap ticks_heard (heard_none w m)) one_more history
  where
    no_tick : (before : List Entry) (e : Entry) → heard w (before ++ e ∷ []) m ≡ heard w before m →
        (nat_eq e.actor m && is_tick e.event) ≡ false → ticks_heard (heard w before m) ≡ ticks_among before m
        → ticks_heard (heard w (before ++ e ∷ []) m) ≡ ticks_among (before ++ e ∷ []) m
    no_tick before e same none so_far =
        let joined : ticks_among (before ++ e ∷ []) m ≡ ticks_among before m + ticks_among (e ∷ []) m =
        among_joined before (e ∷ []) m in
        let last : ticks_among (e ∷ []) m ≡ 0 = ap (λ (b : Bool). length {A = Entry} (cond b (e ∷ []) [])) none in
        let first : ticks_heard (heard w (before ++ e ∷ []) m) ≡ ticks_heard (heard w before m) = ap ticks_heard same in
        omega (arith, joined, last, first, so_far)

    one_more : (before : List Entry) (e : Entry) → ticks_heard (heard w before m) ≡ ticks_among before m →
        ticks_heard (heard w (before ++ e ∷ []) m) ≡ ticks_among (before ++ e ∷ []) m
    one_more before e so_far = elim (cases_eq e.actor m) [
      | inr other ↦ no_tick before e (heard_other w before e m other)
          (ap (λ (b : Bool). b && is_tick e.event) (ne_eqb e.actor m other)) so_far
      | inl by ↦ elim (cases_Bool (is_silent e.event)) [
        | inl silent ↦ no_tick before e (heard_silent w before e m by silent)
            (ap (λ (b : Bool). b && is_tick e.event) (eq-eqb e.actor m by) ∙ silent_is_no_tick e.event silent) so_far
        | inr loud ↦
            let at = heard_last w before e m by loud in
            let event : Heard = hears w m at.0 e in
            let joined : ticks_among (before ++ e ∷ []) m ≡ ticks_among before m + ticks_among (e ∷ []) m =
            among_joined before (e ∷ []) m in
            let first : ticks_heard (heard w (before ++ e ∷ []) m) ≡ ticks_heard (heard w before m)
            + ticks_heard (hears w m at.0 e ∷ []) = ap ticks_heard at.1 ∙ ticks_joined (heard w before m) (event ∷ []) in
            let last : ticks_among (e ∷ []) m ≡ ticks_heard (hears w m at.0 e ∷ []) =
            ap (λ (b : Bool). length {A = Entry} (cond (b && is_tick e.event) (e ∷ []) [])) (eq-eqb e.actor m by)
            ∙ counted_alike (is_tick e.event) e event [] [] refl in
            omega (arith, joined, last, first, so_far)
      ]
    ]

-- the moments of events joined
pub moments_joined : (g : Group) (before xs ys : List Heard) → moments_of g before (xs ++ ys)
    ≡ moments_of g before xs ++ moments_of g (before ++ xs) ys
moments_joined g before [] ys = ap (λ (hs : List Heard). moments_of g hs ys) (sym (append-nil before))
moments_joined g before (x ∷ xs) ys = ap (λ (ms : List Moment). moment g (known_at before x.took) x.is_tick ∷ ms)
    (moments_joined g (before ++ x ∷ []) xs ys
    ∙ ap (λ (hs : List Heard). moments_of g (before ++ x ∷ []) xs ++ moments_of g hs ys) (append_assoc before (x ∷ []) xs))

-- one of them is of one event
pub moment_from : (g : Group) (before events : List Heard) (x : Moment) → IsIn x (moments_of g before events)
    → (first : List Heard) × (h : Heard) × (rest : List Heard) × (events ≡ first ++ h ∷ rest)
    × (x ≡ moment g (known_at (before ++ first) h.took) h.is_tick)
moment_from g before [] x k = absurd (none_in k)
moment_from g before (e ∷ events) x k = elim (in_cons_cases k) [
  | inl same ↦ (
    [],
    e,
    events,
    refl,
    same ∙ ap (λ (hs : List Heard). moment g (known_at hs e.took) e.is_tick) (sym (append-nil before)),
  )
  | inr later ↦
      let found = moment_from g (before ++ e ∷ []) events x later in (
        e ∷ found.0,
        found.1,
        found.2,
        ap (λ (hs : List Heard). e ∷ hs) found.3,
        found.4 ∙ ap (λ (hs : List Heard). moment g (known_at hs found.1.took) found.1.is_tick)
            (append_assoc before (e ∷ []) found.0),
      )
]

-- and with it the events fall into those before it and behind it
pub moments_split : (g : Group) (before events : List Heard) (first : List Moment) (x : Moment) (rest : List Moment)
    → moments_of g before events ≡ first ++ x ∷ rest
    → (f : List Heard) × (h : Heard) × (r : List Heard) × (events ≡ f ++ h ∷ r)
    × (x ≡ moment g (known_at (before ++ f) h.took) h.is_tick) × (rest ≡ moments_of g ((before ++ f) ++ h ∷ []) r)
moments_split g before [] first x rest e = absurd (nil_place first x rest e)
moments_split g before (h ∷ events) [] x rest e = (
  [],
  h,
  events,
  refl,
  sym (heads_same e) ∙ ap (λ (hs : List Heard). moment g (known_at hs h.took) h.is_tick) (sym (append-nil before)),
  sym (tails_same e) ∙ ap (λ (hs : List Heard). moments_of g (hs ++ h ∷ []) events) (sym (append-nil before)),
)
moments_split g before (h ∷ events) (y ∷ first) x rest e =
    let found = moments_split g (before ++ h ∷ []) events first x rest (tails_same e) in (
      h ∷ found.0,
      found.1,
      found.2,
      ap (λ (hs : List Heard). h ∷ hs) found.3,
      found.4 ∙ ap (λ (hs : List Heard). moment g (known_at hs found.1.took) found.1.is_tick)
          (append_assoc before (h ∷ []) found.0),
      found.5 ∙ ap (λ (hs : List Heard). moments_of g (hs ++ found.1 ∷ []) found.2) (append_assoc before (h ∷ []) found.0),
    )

-- what is heard only grows, and so does the view
pub view_grows : (g : Group) (xs ys : List Heard) → view g (known_of xs) ≤ view g (known_of (xs ++ ys))
view_grows g xs ys = view_more g (known_of xs) (known_of (xs ++ ys)) (λ p h. in_more (known_of_grows xs ys) h)

-- between two times at which it is in one view a master is in it
pub moments_in_view : (g : Group) (before events : List Heard) (v : ℕ) → view g (known_of before) ≡ v →
    view g (known_of (before ++ events)) ≡ v → (x : Moment) → IsIn x (moments_of g before events) → nat_eq x.view v ≡ true
moments_in_view g before events v came stayed x k =
    let found = moment_from g before events x k in
    let f : List Heard = found.0 in
    let h : Heard = found.1 in
    let r : List Heard = found.2 in
    let at : known_of ((before ++ found.0) ++ found.1 ∷ []) ≡ known_at (before ++ found.0) found.1.took =
    known_of_last (before ++ f) h in
    let low : view g (known_of before) ≤ view g (known_of ((before ++ found.0) ++ found.1 ∷ [])) =
    subst (λ (hs : List Heard). view g (known_of before) ≤ view g (known_of hs)) (sym (append_assoc before f (h ∷ [])))
    (view_grows g before (f ++ h ∷ [])) in
    let whole : before ++ events ≡ ((before ++ found.0) ++ found.1 ∷ []) ++ found.2 =
    ap (λ (hs : List Heard). before ++ hs) found.3 ∙ sym (append_assoc before f (h ∷ r))
    ∙ sym (append_assoc (before ++ f) (h ∷ []) r) in
    let high : view g (known_of ((before ++ found.0) ++ found.1 ∷ [])) ≤ view g (known_of (before ++ events)) =
    subst (λ (hs : List Heard). view g (known_of ((before ++ f) ++ h ∷ [])) ≤ view g (known_of hs)) (sym whole)
    (view_grows g ((before ++ f) ++ h ∷ []) r) in
    let is : x.view ≡ view g (known_of ((before ++ found.0) ++ found.1 ∷ [])) =
    ap (λ (y : Moment). y.view) found.4 ∙ ap (view g) (sym at) in
    eq-eqb x.view v (omega (arith, low, high, is, came, stayed))

-- the elements as long as they pass
while_all : {X : Type 0} (t : X → Bool) (xs ys : List X) → ((x : X) → IsIn x xs → t x ≡ true) →
    while_such t (xs ++ ys) ≡ xs ++ while_such t ys
while_all t [] ys h = refl
while_all {X} t (x ∷ xs) ys h = ap (λ (b : Bool). cond b (x ∷ while_such t (xs ++ ys)) []) (h x (here xs))
    ∙ ap (λ (zs : List X). x ∷ zs) (while_all t xs ys (λ y k. h y (there x xs k)))

while_is : {X : Type 0} (t : X → Bool) (xs : List X) → (rest : List X) × (xs ≡ while_such t xs ++ rest)
    × ((x : X) → IsIn x (while_such t xs) → t x ≡ true)
while_is t [] = ([], refl, λ x k. absurd (none_in k))
while_is {X} t (x ∷ xs) = by (t x) refl (while_is t xs)
  where
    by : (b : Bool) → t x ≡ b → (rest : List X) × (xs ≡ while_such t xs ++ rest)
        × ((y : X) → IsIn y (while_such t xs) → t y ≡ true)
        → (rest : List X) × (x ∷ xs ≡ cond b (x ∷ while_such t xs) [] ++ rest)
        × ((y : X) → IsIn y (cond b (x ∷ while_such t xs) []) → t y ≡ true)
    by true is deeper = (
      deeper.0,
      ap (λ (zs : List X). x ∷ zs) deeper.1,
      λ y k. elim (in_cons_cases k) [ inl same ↦ ap t same ∙ is | inr later ↦ deeper.2 y later ],
    )
    by false is deeper = (x ∷ xs, refl, λ y k. absurd (none_in k))

abbrev in_view : ℕ → Moment → Bool
in_view v m = nat_eq m.view v

-- the last moments of a view
stretch_ends : (v : ℕ) (xs zs : List Moment) → ((x : Moment) → IsIn x zs → nat_eq x.view v ≡ true) → (us : List Moment)
    × (stretch v (xs ++ zs) ≡ us ++ zs)
stretch_ends v xs zs all = (
  reverse (while_such (in_view v) (reverse xs)),
  ap (λ (ms : List Moment). reverse (while_such (in_view v) ms)) (reverse-append xs zs)
      ∙ ap reverse (while_all (in_view v) (reverse zs) (reverse xs) (λ x k. all x (in_reverse zs k)))
      ∙ reverse-append (reverse zs) (while_such (in_view v) (reverse xs))
      ∙ ap (λ (ms : List Moment). reverse (while_such (in_view v) (reverse xs)) ++ ms) (reverse-reverse zs),
)

stretch_is : (v : ℕ) (moments : List Moment) → (us : List Moment) × (moments ≡ us ++ stretch v moments)
    × ((x : Moment) → IsIn x (stretch v moments) → nat_eq x.view v ≡ true)
stretch_is v moments =
    let found = while_is (in_view v) (reverse moments) in (
      reverse found.0,
      sym (reverse-reverse moments) ∙ ap reverse found.1
          ∙ reverse-append (while_such (in_view v) (reverse moments)) found.0,
      λ x k. found.2 x (in_reverse (while_such (in_view v) (reverse moments)) k),
    )

-- from the first that passes on
from_ends : {X : Type 0} (t : X → Bool) (us : List X) (y : X) (ys : List X) → t y ≡ true → (zs : List X)
    × (from_first t (us ++ y ∷ ys) ≡ zs ++ y ∷ ys)
from_ends {X} t [] y ys is = ([], ap (λ (b : Bool). cond b (y ∷ ys) (from_first t ys)) is)
from_ends {X} t (u ∷ us) y ys is = by (t u) (from_ends t us y ys is)
  where
    by : (b : Bool) → (zs : List X) × (from_first t (us ++ y ∷ ys) ≡ zs ++ y ∷ ys) → (zs : List X)
        × (cond b (u ∷ us ++ y ∷ ys) (from_first t (us ++ y ∷ ys)) ≡ zs ++ y ∷ ys)
    by true deeper = (u ∷ us, refl)
    by false deeper = deeper

-- there is none, or it begins with one that passes
abbrev FirstOf : {X : Type 0} → (X → Bool) → List X → List X → Type 0
FirstOf {X} t xs found = (found ≡ []) ⊎ ((us : List X) × (y : X) × (ys : List X) × (xs ≡ us ++ y ∷ ys) × (t y ≡ true)
    × (found ≡ y ∷ ys))

from_is : {X : Type 0} (t : X → Bool) (xs : List X) → FirstOf t xs (from_first t xs)
from_is t [] = inl refl
from_is {X} t (x ∷ xs) = by (t x) refl (from_is t xs)
  where
    by : (b : Bool) → t x ≡ b → FirstOf t xs (from_first t xs) → FirstOf t (x ∷ xs) (cond b (x ∷ xs) (from_first t xs))
    by true is deeper = inr ([], x, xs, refl, is, refl)
    by false is (inl none) = inl none
    by false is (inr found) = inr (
      x ∷ found.0,
      found.1,
      found.2,
      ap (λ (zs : List X). x ∷ zs) found.3,
      found.4,
      found.5,
    )

-- A wait is as long as from any moment on at which something was eligible that isn't ordered yet.
pub wait_at_least : (g : Group) (v : ℕ) (ordered : ℕ → ℕ) (xs : List Moment) (y : Moment) (ys : List Moment)
    → ((x : Moment) → IsIn x (y ∷ ys) → nat_eq x.view v ≡ true) → lacks g ordered y ≡ true
    → ticks_in (y ∷ ys) ≤ wait g v ordered (xs ++ y ∷ ys)
unfolding wait
wait_at_least g v ordered xs y ys all lacking =
    let one = stretch_ends v xs (y ∷ ys) all in
    let two = from_ends (lacks g ordered) one.0 y ys lacking in
    let is : ticks_in (from_first (lacks g ordered) (stretch v (xs ++ y ∷ ys))) ≡ ticks_in two.0 + ticks_in (y ∷ ys) =
    ap (λ (ms : List Moment). ticks_in (from_first (lacks g ordered) ms)) one.1 ∙ ap ticks_in two.1
    ∙ moment_ticks_joined two.0 (y ∷ ys) in
    omega (arith, is)

-- And where it isn't 0 it is from one such moment on.
pub wait_from : (g : Group) (v : ℕ) (ordered : ℕ → ℕ) (moments : List Moment) → (wait g v ordered moments ≡ 0)
    ⊎ ((us : List Moment) × (y : Moment) × (ys : List Moment) × (moments ≡ us ++ y ∷ ys)
    × ((x : Moment) → IsIn x (y ∷ ys) → nat_eq x.view v ≡ true) × (lacks g ordered y ≡ true)
    × (wait g v ordered moments ≡ ticks_in (y ∷ ys)))
unfolding wait
wait_from g v ordered moments =
    let part = stretch_is v moments in
    elim (from_is (lacks g ordered) (stretch v moments)) [
      | inl none ↦ inl (ap ticks_in none)
      | inr found ↦ inr (
        part.0 ++ found.0,
        found.1,
        found.2,
        part.1 ∙ ap (λ (ms : List Moment). part.0 ++ ms) found.3 ∙ sym (append_assoc part.0 found.0 (found.1 ∷ found.2)),
        λ x k. part.2 x (subst (λ (ms : List Moment). IsIn x ms) (sym found.3) (in_right found.0 k)),
        found.4,
        ap ticks_in found.5,
      )
    ]

-- what a moment lacks is what its rows make eligible beyond what is ordered
pub lacks_from : (g : Group) (known : List (Signed Body)) (tick : Bool) (ordered : ℕ → ℕ) →
    lacks g ordered (moment g known tick) ≡ true → exceeds g (latest_rows g known) ordered ≡ true
lacks_from g known tick ordered e =
    let found = any_from (λ j. nat_lt (ordered j) (slice_index (map (eligible g (latest_rows g known)) (numbers_below g.n)) j))
    (numbers_below g.n) e in
    let at : slice_index (map (eligible g (latest_rows g known)) (numbers_below g.n)) found.0 ≡
    eligible g (latest_rows g known) found.0 = numbers_at (eligible g (latest_rows g known)) g.n found.0
    (below_from g.n found.0 found.1) in
    any_in (λ j. nat_lt (ordered j) (eligible g (latest_rows g known) j)) found.1
    (ap (nat_lt (ordered found.0)) (sym at) ∙ found.2)

pub lacks_where : (g : Group) (known : List (Signed Body)) (tick : Bool) (ordered : ℕ → ℕ) →
    exceeds g (latest_rows g known) ordered ≡ true → lacks g ordered (moment g known tick) ≡ true
lacks_where g known tick ordered e =
    let found = any_from (λ j. nat_lt (ordered j) (eligible g (latest_rows g known) j)) (numbers_below g.n) e in
    let at : slice_index (map (eligible g (latest_rows g known)) (numbers_below g.n)) found.0 ≡
    eligible g (latest_rows g known) found.0 = numbers_at (eligible g (latest_rows g known)) g.n found.0
    (below_from g.n found.0 found.1) in
    any_in (λ j. nat_lt (ordered j) (slice_index (map (eligible g (latest_rows g known)) (numbers_below g.n)) j)) found.1
    (ap (nat_lt (ordered found.0)) at ∙ found.2)

one_place : {X : Type 0} (x h : X) (more r : List X) → x ∷ [] ≡ more ++ h ∷ r → r ≡ []
one_place x h [] r e = sym (tails_same e)
one_place x h (z ∷ more) r e = absurd (nil_place more h r (tails_same e))

-- of each event heard, the beginning of the history up to it
abbrev SplitAt : Setup → ℕ → List Entry → Type 0
SplitAt w m xs = (f : List Heard) (h : Heard) (r : List Heard) → heard w xs m ≡ f ++ h ∷ r → (first : List Entry)
    × (rest : List Entry) × (xs ≡ first ++ rest) × (heard w first m ≡ f ++ h ∷ [])

module _ (w : Setup) (m : ℕ) where
  earlier : (before : List Entry) (e : Entry) → SplitAt w m before → (f : List Heard) (h : Heard) (r : List Heard) →
      heard w before m ≡ f ++ h ∷ r → (first : List Entry) × (rest : List Entry) × (before ++ e ∷ [] ≡ first ++ rest)
      × (heard w first m ≡ f ++ h ∷ [])
  earlier before e so_far f h r is =
      let found = so_far f h r is in (
        found.0,
        found.1 ++ e ∷ [],
        ap (λ (xs : List Entry). xs ++ e ∷ []) found.2 ∙ append_assoc found.0 found.1 (e ∷ []),
        found.3,
      )

  one_more : (before : List Entry) (e : Entry) → SplitAt w m before → SplitAt w m (before ++ e ∷ [])
  one_more before e so_far f h r is = elim (cases_eq e.actor m) [
    | inr other ↦ earlier before e so_far f h r (sym (heard_other w before e m other) ∙ is)
    | inl by ↦ elim (cases_Bool (is_silent e.event)) [
      | inl silent ↦ earlier before e so_far f h r (sym (heard_silent w before e m by silent) ∙ is)
      | inr loud ↦
          let at = heard_last w before e m by loud in
          elim (append_place (heard w before m) (hears w m at.0 e ∷ []) f r h (sym at.1 ∙ is)) [
            | inl within ↦ earlier before e so_far f h within.0 within.1
            | inr behind ↦ (
              before ++ e ∷ [],
              [],
              sym (append-nil (before ++ e ∷ [])),
              is ∙ ap (λ (rest : List Heard). f ++ h ∷ rest) (one_place (hears w m at.0 e) h behind.0 r behind.2),
            )
          ]
    ]
  ]

  pub heard_split : (history : List Entry) → SplitAt w m history
  heard_split history = by_growth (SplitAt w m) (λ f h r e. absurd (nil_place f h r (sym (heard_none w m) ∙ e))) one_more history
