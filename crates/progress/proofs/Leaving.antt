-- What more than f + k connected masters voted against all vote against a round later, since each goes by how far so many voted;
-- and what all voted against each leaves a round later, since it knows a quorum's votes.
use Rattle.std.proofs.Common.{◌≡◌, ℕ, ◌+◌, ◌<◌, ◌≤◌, zero, suc, Bool, true, false, cond, ◌&&◌, not, List, [], ◌∷◌, ◌++◌}
use Rattle.std.proofs.Common.{Some, None, filter, length, map, min, reverse, nat_eq, nat_lt, nat_le, refl, sym, ◌∙◌, ap}
use Rattle.std.proofs.Common.{subst, inl, inr, ◌⊎◌, arith, eqb-true, length-append}
use Rattle.std.proofs.lemmas.Bool.{false≢true, and_from, or_left, cases_lt, cases_eq, cases_Bool, not_from_false, ne_eqb, eq-eqb, le-leb, leb-true}
use Rattle.std.proofs.lemmas.List.{reverse-append}
use Rattle.std.proofs.lemmas.List.Elements.{filter-append}
use Rattle.std.specs.Prelude.{slice_index}
use Rattle.std.specs.List.{list_any, filter_map}
use Rattle.plain_lists.specs.Lists.{IsIn, here, there, Each}
use Rattle.plain_lists.proofs.Members.{none_in, in_cons_cases, in_cases, in_reverse, in_map, in_filter, in_filter_from, in_filter_map, any_from, any_in}
use Rattle.quorum_sets.specs.Masters.{numbers_below, voters}
use Rattle.message_types.specs.declared.signed.Signed.{Signed}
use Rattle.message_types.specs.declared.measures.Suspect.{Suspect}
use Rattle.message_types.specs.declared.body.Body.{Body}
use Rattle.message_types.specs.declared.body.Body.TheVariants as body
use Rattle.protocol_rules.specs.Words.{put_in_order, in_order}
use Rattle.protocol_rules.specs.Group.{Group, most_view}
use Rattle.protocol_rules.specs.Measures.{suspects_said}
use Rattle.protocol_rules.specs.Patience.{patience, vote_of, voted_to, voted_by_more, votes_to, is_vote_due, votes_due}
use Rattle.protocol_rules.specs.Views.{view, view_shown, is_suspect, is_suspected}
use Rattle.protocol_rules.specs.Master.{said_before}
use Rattle.protocol_rules.proofs.Numbers.{from_in}
use Rattle.history_rules.specs.Events.{Entry}
use Rattle.history_rules.specs.Legal.{IsLegal, heard}
use Rattle.history_rules.specs.Audit.{HasSaid}
use Rattle.agreement.specs.Laws.{known_by}
use Rattle.agreement.proofs.Places.{said_whole, legal_before}
use Rattle.agreement.proofs.KnownAsItGrows.{known_then, heard_at, hears}
use Rattle.agreement.proofs.LearnedWasSaid.{FirstSaid, first_said_before}
use Rattle.agreement.proofs.QuorumsStay.{filter_more, quorum_more}
use Rattle.agreement.proofs.PlannedRows.{greatest_above}
use Rattle.words_by_part.specs.Kinds.{is_of, measuring}
use Rattle.progress.specs.Rounds.{HasTick, goes_to}
use Rattle.progress.specs.Laws.{KnowsWord}
use Rattle.progress.specs.Leaving.{VotesSpread, VotedIsLeft}
use Rattle.progress.proofs.Arriving.{stands_in_round, tick_loud, words_arrive}
use Rattle.progress.proofs.Saying.{SaidByPart, LastEvent, last_event, known_last, all_is_said, said_by_part}
use Rattle.progress.proofs.Certifying.{enough}
use Rattle.progress.proofs.Eligible.{count_mapped}
use Rattle.progress.proofs.InOrder.{nil_place}

-- how many of the numbers are at least x
abbrev count_from : ℕ → List ℕ → ℕ
count_from x ys = length (filter (nat_le x) ys)

count_cons : (x y : ℕ) (ys : List ℕ) → count_from x (y ∷ ys) ≡ length (filter (nat_le x) (y ∷ [])) + count_from x ys
count_cons x y ys = by (nat_le x y)
  where
    by : (b : Bool) → length (cond b (y ∷ filter (nat_le x) ys) (filter (nat_le x) ys))
        ≡ length {A = ℕ} (cond b (y ∷ []) []) + length (filter (nat_le x) ys)
    by true = omega arith
    by false = omega arith

count_put : (x y : ℕ) (ys : List ℕ) → count_from x (put_in_order y ys) ≡ count_from x (y ∷ ys)
count_put x y [] = refl
count_put x y (z ∷ ys) = by (nat_le y z) (count_put x y ys)
  where
    by : (b : Bool) → count_from x (put_in_order y ys) ≡ count_from x (y ∷ ys)
        → count_from x (cond b (y ∷ z ∷ ys) (z ∷ put_in_order y ys)) ≡ count_from x (y ∷ z ∷ ys)
    by true deeper = refl
    by false deeper =
        let one : count_from x (z ∷ put_in_order y ys) ≡ length (filter (nat_le x) (z ∷ [])) + count_from x (put_in_order y ys) =
        count_cons x z (put_in_order y ys) in
        let two : count_from x (y ∷ ys) ≡ length (filter (nat_le x) (y ∷ [])) + count_from x ys = count_cons x y ys in
        let three : count_from x (y ∷ z ∷ ys) ≡ length (filter (nat_le x) (y ∷ [])) + count_from x (z ∷ ys) =
        count_cons x y (z ∷ ys) in
        let four : count_from x (z ∷ ys) ≡ length (filter (nat_le x) (z ∷ [])) + count_from x ys = count_cons x z ys in
        let same : count_from x (put_in_order y ys) ≡ count_from x (y ∷ ys) = deeper in
        omega (arith, one, two, three, four, same)

count_ordered : (x : ℕ) (ys : List ℕ) → count_from x (in_order ys) ≡ count_from x ys
unfolding in_order
count_ordered x [] = refl
count_ordered x (y ∷ ys) =
    let put : count_from x (put_in_order y (in_order ys)) ≡ count_from x (y ∷ in_order ys) = count_put x y (in_order ys) in
    let one : count_from x (y ∷ in_order ys) ≡ length (filter (nat_le x) (y ∷ [])) + count_from x (in_order ys) =
    count_cons x y (in_order ys) in
    let two : count_from x (y ∷ ys) ≡ length (filter (nat_le x) (y ∷ [])) + count_from x ys = count_cons x y ys in
    let deeper : count_from x (in_order ys) ≡ count_from x ys = count_ordered x ys in
    omega (arith, put, one, two, deeper)

count_reversed : (x : ℕ) (ys : List ℕ) → count_from x (reverse ys) ≡ count_from x ys
count_reversed x [] = refl
count_reversed x (y ∷ ys) =
    let split : count_from x (reverse (y ∷ ys)) ≡ length (filter (nat_le x) (reverse ys) ++ filter (nat_le x) (y ∷ [])) =
    ap (count_from x) (reverse-append (y ∷ []) ys) ∙ ap length (filter-append (nat_le x) (reverse ys) (y ∷ [])) in
    let sum : length (filter (nat_le x) (reverse ys) ++ filter (nat_le x) (y ∷ [])) ≡ count_from x (reverse ys)
    + length (filter (nat_le x) (y ∷ [])) = length-append (filter (nat_le x) (reverse ys)) (filter (nat_le x) (y ∷ [])) in
    let one : count_from x (y ∷ ys) ≡ length (filter (nat_le x) (y ∷ [])) + count_from x ys = count_cons x y ys in
    let deeper : count_from x (reverse ys) ≡ count_from x ys = count_reversed x ys in
    omega (arith, split, sum, one, deeper)

-- each number is at most those behind it, and at least those behind it
abbrev Rises : List ℕ → Type 0
Rises [] = Unit {0}
Rises (x ∷ xs) = Each (λ y. x ≤ y) xs × Rises xs

abbrev Falls : List ℕ → Type 0
Falls [] = Unit {0}
Falls (x ∷ xs) = Each (λ y. y ≤ x) xs × Falls xs

in_put : (x y : ℕ) (ys : List ℕ) → IsIn x (put_in_order y ys) → (x ≡ y) ⊎ IsIn x ys
in_put x y [] h = in_cons_cases h
in_put x y (z ∷ ys) h = by (nat_le y z) h (in_put x y ys)
  where
    by : (b : Bool) → IsIn x (cond b (y ∷ z ∷ ys) (z ∷ put_in_order y ys)) → (IsIn x (put_in_order y ys) → (x ≡ y) ⊎ IsIn x ys)
        → (x ≡ y) ⊎ IsIn x (z ∷ ys)
    by true h later = in_cons_cases h
    by false h later = elim (in_cons_cases h) [
      | inl same ↦ inr (subst (λ (v : ℕ). IsIn v (z ∷ ys)) (sym same) (here ys))
      | inr k ↦ elim (later k) [ inl is ↦ inl is | inr i ↦ inr (there z ys i) ]
    ]

rises_put : (y : ℕ) (ys : List ℕ) → Rises ys → Rises (put_in_order y ys)
rises_put y [] h = ((λ x k. absurd (none_in k)), tt)
rises_put y (z ∷ ys) h = by (nat_le y z) refl (rises_put y ys h.1)
  where
    by : (b : Bool) → nat_le y z ≡ b → Rises (put_in_order y ys) → Rises (cond b (y ∷ z ∷ ys) (z ∷ put_in_order y ys))
    by true low later =
        let le : y ≤ z = leb-true y z low in (
          (λ x k. elim (in_cons_cases k) [
            | inl same ↦ let at : x ≡ z = same in omega (arith, le, at)
            | inr i ↦ let above : z ≤ x = h.0 x i in omega (arith, le, above)
          ]),
          h,
        )
    by false low later = (
      (λ x k. elim (in_put x y ys k) [
        | inl same ↦ elim (cases_lt z y) [
          | inl less ↦ let at : x ≡ y = same in omega (arith, less, at)
          | inr le ↦ absurd (false≢true (sym low ∙ le-leb y z le))
        ]
        | inr i ↦ h.0 x i
      ]),
      later,
    )

rises_ordered : (ys : List ℕ) → Rises (in_order ys)
unfolding in_order
rises_ordered [] = tt
rises_ordered (y ∷ ys) = rises_put y (in_order ys) (rises_ordered ys)

falls_snoc : (xs : List ℕ) (y : ℕ) → Falls xs → Each (λ x. y ≤ x) xs → Falls (xs ++ y ∷ [])
falls_snoc [] y h low = ((λ x k. absurd (none_in k)), tt)
falls_snoc (x ∷ xs) y h low = (
  (λ z k. elim (in_cases xs k) [
    | inl i ↦ h.0 z i
    | inr last ↦ elim (in_cons_cases last) [
      | inl same ↦
          let at : z ≡ y = same in
          let le : y ≤ x = low x (here xs) in
          omega (arith, at, le)
      | inr none ↦ absurd (none_in none)
    ]
  ]),
  falls_snoc xs y h.1 (λ z i. low z (there x xs i)),
)

falls_reversed : (ys : List ℕ) → Rises ys → Falls (reverse ys)
falls_reversed [] h = tt
falls_reversed (y ∷ ys) h = subst (λ (zs : List ℕ). Falls zs) (sym (reverse-append (y ∷ []) ys))
    (falls_snoc (reverse ys) y (falls_reversed ys h.1) (λ x i. h.0 x (in_reverse ys i)))

none_from : (x z : ℕ) (zs : List ℕ) → z < x → Each (λ y. y ≤ z) zs → count_from x zs ≡ 0
none_from x z [] less below = refl
none_from x z (y ∷ zs) less below =
    let low : y ≤ z = below y (here zs) in
    let deeper : count_from x zs ≡ 0 = none_from x z zs less (λ v i. below v (there y zs i)) in
    by (nat_le x y) refl low deeper
  where
    by : (b : Bool) → nat_le x y ≡ b → y ≤ z → count_from x zs ≡ 0 →
        length (cond b (y ∷ filter (nat_le x) zs) (filter (nat_le x) zs)) ≡ 0
    by true is low deeper = let le : x ≤ y = leb-true x y is in absurd (omega (arith, le, low, less))
    by false is low deeper = deeper

-- of falling numbers as many are at least x as their count says
falls_at : (x i : ℕ) (zs : List ℕ) → Falls zs → i < count_from x zs → x ≤ slice_index zs i
falls_at x i [] h less = absurd (omega arith)
falls_at x i (z ∷ zs) h less = elim (cases_lt z x) [
  | inl low ↦
      let none : count_from x zs ≡ 0 = none_from x z zs low h.0 in
      let cons : count_from x (z ∷ zs) ≡ length (filter (nat_le x) (z ∷ [])) + count_from x zs = count_cons x z zs in
      let own : length (filter (nat_le x) (z ∷ [])) ≡ 0 = not_counted (nat_le x z) refl low in
      absurd (omega (arith, less, none, cons, own))
  | inr high ↦ by i less high (λ k low. falls_at x k zs h.1 low)
]
  where
    not_counted : (b : Bool) → nat_le x z ≡ b → z < x → length {A = ℕ} (cond b (z ∷ []) []) ≡ 0
    not_counted true is low = let le : x ≤ z = leb-true x z is in absurd (omega (arith, le, low))
    not_counted false is low = refl

    most_one : (b : Bool) → length {A = ℕ} (cond b (z ∷ []) []) ≤ 1
    most_one true = omega arith
    most_one false = omega arith

    by : (i : ℕ) → i < count_from x (z ∷ zs) → x ≤ z → ((k : ℕ) → k < count_from x zs → x ≤ slice_index zs k)
        → x ≤ slice_index (z ∷ zs) i
    by zero less high deeper = high
    by (suc i) less high deeper =
        let cons : count_from x (z ∷ zs) ≡ length (filter (nat_le x) (z ∷ [])) + count_from x zs = count_cons x z zs in
        let one : length (filter (nat_le x) (z ∷ [])) ≤ 1 = most_one (nat_le x z) in
        deeper i (omega (arith, less, cons, one))

-- and as many are, as a number that is at least x has places up to it
falls_upto : (x i : ℕ) (zs : List ℕ) → Falls zs → 1 ≤ x → x ≤ slice_index zs i → i < count_from x zs
falls_upto x zero [] h one le = absurd (omega (arith, one, le))
falls_upto x (suc i) [] h one le = absurd (omega (arith, one, le))
falls_upto x zero (z ∷ zs) h one le =
    let cons : count_from x (z ∷ zs) ≡ length (filter (nat_le x) (z ∷ [])) + count_from x zs = count_cons x z zs in
    let own : length (filter (nat_le x) (z ∷ [])) ≡ 1 = ap (λ (b : Bool). length {A = ℕ} (cond b (z ∷ []) []))
    (le-leb x z le) in
    omega (arith, cons, own)
falls_upto x (suc i) (z ∷ zs) h one le =
    let deeper : i < count_from x zs = falls_upto x i zs h.1 one le in
    elim (cases_lt z x) [
      | inl low ↦ let none : count_from x zs ≡ 0 = none_from x z zs low h.0 in absurd (omega (arith, none, deeper))
      | inr high ↦
          let cons : count_from x (z ∷ zs) ≡ length (filter (nat_le x) (z ∷ [])) + count_from x zs = count_cons x z zs in
          let own : length (filter (nat_le x) (z ∷ [])) ≡ 1 = ap (λ (b : Bool). length {A = ℕ} (cond b (z ∷ []) []))
          (le-leb x z high) in
          omega (arith, cons, own, deeper)
    ]

-- where more than so many voted so far, that is reached
voted_far : (g : Group) (known : List (Signed Body)) (count x : ℕ) (voting : ℕ → Bool) → count < length (voters voting g.n) →
    ((m : ℕ) → voting m ≡ true → x ≤ voted_to known m) → x ≤ voted_by_more g known count
voted_far g known count x voting many far =
    let ends : List ℕ = map (voted_to known) (numbers_below g.n) in
    let more : length (voters voting g.n) ≤ length (filter (λ m. nat_le x (voted_to known m)) (numbers_below g.n)) =
    filter_more voting (λ m. nat_le x (voted_to known m)) (λ m v. le-leb x (voted_to known m) (far m v)) (numbers_below g.n) in
    let mapped : count_from x (map (voted_to known) (numbers_below g.n)) ≡ length (filter (λ m. nat_le x (voted_to known m))
    (numbers_below g.n)) = count_mapped (voted_to known) (nat_le x) (numbers_below g.n) in
    let turned : count_from x (reverse (in_order (map (voted_to known) (numbers_below g.n)))) ≡ count_from x
    (in_order (map (voted_to known) (numbers_below g.n))) = count_reversed x (in_order ends) in
    let sorted : count_from x (in_order (map (voted_to known) (numbers_below g.n))) ≡ count_from x
    (map (voted_to known) (numbers_below g.n)) = count_ordered x ends in
    falls_at x count (reverse (in_order ends)) (falls_reversed (in_order ends) (rises_ordered ends))
    (omega (arith, many, more, mapped, turned, sorted))

-- and where it is reached more than so many voted so far
pub voted_many : (g : Group) (known : List (Signed Body)) (count x : ℕ) → 1 ≤ x → x ≤ voted_by_more g known count →
    count < length (voters (λ m. nat_le x (voted_to known m)) g.n)
voted_many g known count x one far =
    let ends : List ℕ = map (voted_to known) (numbers_below g.n) in
    let mapped : count_from x (map (voted_to known) (numbers_below g.n)) ≡ length (filter (λ m. nat_le x (voted_to known m))
    (numbers_below g.n)) = count_mapped (voted_to known) (nat_le x) (numbers_below g.n) in
    let turned : count_from x (reverse (in_order (map (voted_to known) (numbers_below g.n)))) ≡ count_from x
    (in_order (map (voted_to known) (numbers_below g.n))) = count_reversed x (in_order ends) in
    let sorted : count_from x (in_order (map (voted_to known) (numbers_below g.n))) ≡ count_from x
    (map (voted_to known) (numbers_below g.n)) = count_ordered x ends in
    let many : count < count_from x (reverse (in_order (map (voted_to known) (numbers_below g.n)))) =
    falls_upto x count (reverse (in_order ends)) (falls_reversed (in_order ends) (rises_ordered ends)) one far in
    omega (arith, mapped, turned, sorted, many)

-- a vote that is known
vote_known : (i v signer : ℕ) (word : Body) (sig : List ℕ) → signer ≡ i → word ≡ body.Suspect record { v = v } →
    vote_of i record { signer = signer; body = word; sig = sig } ≡ Some (v + 1)
vote_known i v signer word sig by is =
    subst (λ (b : Body). vote_of i record { signer = signer; body = b; sig = sig } ≡ Some (v + 1)) (sym is)
    (ap (λ (c : Bool). cond c (Some (v + 1)) None) (eq-eqb signer i by))

vote_sent : (g : Group) (m i : ℕ) (b : Suspect) → (m ≡ i) ⊎ (goes_to g i (body.Suspect b) m ≡ true)
vote_sent g m i b = elim (cases_eq m i) [
  | inl same ↦ inl same
  | inr apart ↦ inr (not_from_false (nat_eq m i) (ne_eqb m i apart))
]

pub suspect_from : (v : ℕ) (b : Body) → suspects_said v b ≡ true → b ≡ body.Suspect record { v = v }
suspect_from v (body.Suspect b) e = let is : b.v ≡ v = eqb-true b.v v e in λ i. body.Suspect record { v = is i }
suspect_from v _ e = absurd (false≢true e)

-- a vote against a view so far is due, where none was said
vote_is_due : (g : Group) (known : List (Signed Body)) (said : List Body) (now_in waiting now v : ℕ) (at_tick : Bool) →
    v < most_view → v + 1 ≤ voted_by_more g known (g.f + g.k) → list_any (suspects_said v) said ≡ false
    → IsIn (body.Suspect record { v = v }) (votes_due g known said now_in waiting now at_tick)
vote_is_due g known said now_in waiting now v at_tick low far none =
    let impatient : Bool = at_tick && nat_lt (patience g now_in now) waiting in
    in_map (λ (w : ℕ). body.Suspect record { v = w }) (in_filter (is_vote_due said now now_in impatient)
    (from_in 0 (min (votes_to g known now_in impatient) most_view) v (omega arith) (reached impatient))
    (or_left (not (list_any (suspects_said v) said)) _ (not_from_false (list_any (suspects_said v) said) none)))
  where
    reached : (b : Bool) → v < 0 + min (votes_to g known now_in b) most_view
    reached b = omega (arith, low, far)

pub votes_spread : VotesSpread
votes_spread w connected beginning round live legal are fair left v low voting many votes m is_m =
    elim (last_event w m whole) [
      | inl none ↦ absurd (nothing none)
      | inr last ↦ at_last last
    ]
  where
    whole : List Entry
    whole = beginning ++ round

    word : Body
    word = body.Suspect record { v = v }

    far : v + 1 ≤ voted_by_more w.group (known_by w (beginning ++ round) m) (w.group.f + w.group.k)
    far = voted_far w.group (known_by w (beginning ++ round) m) (w.group.f + w.group.k) (v + 1) voting many (λ i votes_i.
        let knows : KnowsWord (known_by w (beginning ++ round) m) i (body.Suspect record { v = v }) = words_arrive w connected
        beginning round legal are fair i m (votes i votes_i).0 is_m (body.Suspect record { v = v }) (votes i votes_i).1
        (vote_sent w.group m i record { v = v }) in
        greatest_above (v + 1) (filter_map (vote_of i) (known_by w (beginning ++ round) m)) (in_filter_map (vote_of i) knows.among
        (vote_known i v knows.part.signer knows.part.body knows.part.sig knows.by knows.word)))

    nothing : heard w (beginning ++ round) m ≡ [] → ⊥
    nothing none =
        let t : HasTick round m = fair.ticks m is_m in
        let place = stands_in_round beginning t.place in
        let at = heard_at w (beginning ++ t.before) place.after t.entry m t.by (tick_loud t.entry.event t.tick) in
        nil_place (heard w (beginning ++ t.before) m) (hears w m at.0 t.entry) at.1
        (sym none ∙ ap (λ (xs : List Entry). heard w xs m) place.whole ∙ at.2)

    at_last : LastEvent w (beginning ++ round) m → HasSaid (beginning ++ round) m (body.Suspect record { v = v })
    at_last last =
        let known : List (Signed Body) = known_then w last.before m last.entry in
        let said : List Body = said_before (heard w last.before m) in
        elim (cases_Bool (list_any (suspects_said v) said)) [
          | inl was ↦
              let found = any_from (suspects_said v) said was in
              let legal_then : IsLegal w last.before = legal_before w last.before (last.entry ∷ last.place.after)
              (subst (λ (xs : List Entry). IsLegal w xs) last.place.whole legal) in
              let earlier : FirstSaid w last.before m (body.Suspect record { v = v }) = first_said_before w m
              (body.Suspect record { v = v }) (are.correct m is_m) last.before legal_then
              (subst (λ (b : Body). IsIn b said) (suspect_from v found.0 found.2) found.1) in
              said_whole last.place earlier.said
          | inr wasn't ↦
              let parts : SaidByPart w last.before m last.entry = said_by_part w last.before m last.entry live
              (all_is_said w (beginning ++ round) last.before last.entry m legal (are.correct m is_m) (left m is_m) last.place
              last.by last.loud) in
              record {
                before = last.before;
                entry = last.entry;
                place = last.place;
                by = last.by;
                among = (in_filter_from (is_of measuring) last.entry.said
                    (subst (λ (bs : List Body). IsIn (body.Suspect record { v = v }) bs) (sym parts.votes)
                    (vote_is_due w.group known said (view w.group known) _ _ v _ low
                    (subst (λ (ps : List (Signed Body)). v + 1 ≤ voted_by_more w.group ps (w.group.f + w.group.k))
                    (known_last w (beginning ++ round) m last) far) wasn't))).0;
              }
        ]

suspect_is : (i v signer : ℕ) (word : Body) (sig : List ℕ) → signer ≡ i → word ≡ body.Suspect record { v = v } →
    is_suspect v i record { signer = signer; body = word; sig = sig } ≡ true
suspect_is i v signer word sig by is =
    subst (λ (b : Body). is_suspect v i record { signer = signer; body = b; sig = sig } ≡ true) (sym is)
    (and_from (nat_eq signer i) (nat_eq v v) (eq-eqb signer i by) (eq-eqb v v refl))

shown_by : (g : Group) (known : List (Signed Body)) (v signer : ℕ) (word : Body) (sig : List ℕ) → is_suspected g known v ≡ true →
    word ≡ body.Suspect record { v = v } → view_shown g known record { signer = signer; body = word; sig = sig } ≡ Some (v + 1)
shown_by g known v signer word sig suspected is =
    subst (λ (b : Body). view_shown g known record { signer = signer; body = b; sig = sig } ≡ Some (v + 1)) (sym is)
    (ap (λ (c : Bool). cond c (Some (v + 1)) None) suspected)

view_above : (g : Group) (known : List (Signed Body)) (p : Signed Body) (x : ℕ) → IsIn p known → view_shown g known p ≡ Some x →
    x ≤ view g known
unfolding view
view_above g known p x h e = greatest_above x (filter_map (view_shown g known) known) (in_filter_map (view_shown g known) h e)

pub voted_is_left : VotedIsLeft
voted_is_left w connected beginning round legal are fair v votes m is_m =
    let known : List (Signed Body) = known_by w (beginning ++ round) m in
    let knows : (i : ℕ) → connected i ≡ true → KnowsWord (known_by w (beginning ++ round) m) i (body.Suspect record { v = v }) =
    λ i is_i. words_arrive w connected beginning round legal are fair i m is_i is_m (body.Suspect record { v = v }) (votes i is_i)
    (vote_sent w.group m i record { v = v }) in
    let suspected : is_suspected w.group (known_by w (beginning ++ round) m) v ≡ true = quorum_more w.group.n w.group.q connected
    (λ i. list_any (is_suspect v i) known) (λ i is_i. any_in (is_suspect v i) (knows i is_i).among (suspect_is i v
    (knows i is_i).part.signer (knows i is_i).part.body (knows i is_i).part.sig (knows i is_i).by (knows i is_i).word))
    (enough w.group.n w.group.q connected are.enough) in
    let own : KnowsWord (known_by w (beginning ++ round) m) m (body.Suspect record { v = v }) = knows m is_m in
    let above : v + 1 ≤ view w.group (known_by w (beginning ++ round) m) = view_above w.group known own.part (v + 1) own.among
    (shown_by w.group known v own.part.signer own.part.body own.part.sig suspected own.word) in
    (omega (arith, above), suspected)
