-- Where each connected master told that it has certified requests up to a number, the latest summaries that any of them
-- knows make these eligible: a quorum's rows reach so far, since of a correct master the summary that tells most tells no
-- less of any master than another one.
use Rattle.std.proofs.Common.{◌≡◌, ℕ, ◌+◌, ◌<◌, ◌≤◌, suc, Bool, true, false, cond, List, [], ◌∷◌, ◌++◌}
use Rattle.std.proofs.Common.{Option, Some, None, filter, map, nat_eq, nat_le, length, refl, sym, ◌∙◌, ap, subst}
use Rattle.std.proofs.Common.{inl, inr, ◌⊎◌, arith, eqb-true}
use Rattle.std.proofs.lemmas.Bool.{false≢true, cases_lt, cases_eq, not_from_false, ne_eqb, ltb-true, ltb-false, eq-eqb}
use Rattle.std.proofs.lemmas.Bool.{le-leb, leb-true}
use Rattle.std.proofs.lemmas.List.Sums.{sum_by-cons}
use Rattle.std.specs.Prelude.{slice_index}
use Rattle.std.specs.List.{filter_map, sum}
use Rattle.plain_lists.specs.Lists.{IsIn, here, there, Begins}
use Rattle.plain_lists.proofs.Members.{none_in, in_cons_cases, in_filter, in_filter_map, in_filter_map_from, some_same, none_some}
use Rattle.quorum_sets.specs.Masters.{numbers_below, voters}
use Rattle.message_types.specs.declared.signed.Signed.{Signed}
use Rattle.message_types.specs.declared.preordering.PoSummary.{PoSummary}
use Rattle.message_types.specs.declared.body.Body.{Body}
use Rattle.message_types.specs.declared.body.Body.TheVariants as body
use Rattle.protocol_rules.specs.Words.{best_by, best_from, greatest_of}
use Rattle.protocol_rules.specs.Group.{Group}
use Rattle.protocol_rules.specs.Preorder.{vector}
use Rattle.protocol_rules.specs.Matrix.{summary_of, tells_more, latest, column, eligible}
use Rattle.protocol_rules.specs.Master.{latest_rows}
use Rattle.history_rules.specs.Events.{Entry}
use Rattle.history_rules.specs.Setup.{Setup, is_correct, is_correct_master}
use Rattle.history_rules.specs.Legal.{Stands, IsLegal, heard}
use Rattle.history_rules.specs.Audit.{HasSaid, NothingForged}
use Rattle.agreement.specs.Laws.{known_by}
use Rattle.agreement.proofs.Places.{stands_cases, legal_before}
use Rattle.agreement.proofs.KnownAsItGrows.{known_then, known_of_within}
use Rattle.agreement.proofs.SpokenByKind.{if_some}
use Rattle.agreement.proofs.FramesInside.{best_in, best_there}
use Rattle.agreement.proofs.QuorumsStay.{filter_more}
use Rattle.agreement.proofs.PlannedRows.{greatest_above}
use Rattle.agreement.proofs.CommittedStays.{in_below}
use Rattle.agreement.proofs.LearnedWasSaid.{FirstSaid, first_said, due_first, learned_said}
use Rattle.progress.specs.Rounds.{goes_to}
use Rattle.progress.specs.Laws.{KnowsWord, EligibleInTwoRounds}
use Rattle.progress.proofs.Arriving.{known_from, known_grows, known_upto, words_arrive}
use Rattle.progress.proofs.Certifying.{correct_too}
use Rattle.progress.proofs.Reaching.{left_before}
use Rattle.progress.proofs.Summing.{vector_more, numbers_at, summed_up}

-- sums of values of which each of one is at most that of the other
sum_below : (f h : ℕ → ℕ) (xs : List ℕ) → ((x : ℕ) → f x ≤ h x) → sum (map f xs) ≤ sum (map h xs)
sum_below f h [] less = omega arith
sum_below f h (x ∷ xs) less =
    let first : f x ≤ h x = less x in
    let rest : sum (map f xs) ≤ sum (map h xs) = sum_below f h xs less in
    let one : sum (f x ∷ map f xs) ≡ f x + sum (map f xs) = sum_by-cons (λ y. y) (f x) (map f xs) in
    let other : sum (h x ∷ map h xs) ≡ h x + sum (map h xs) = sum_by-cons (λ y. y) (h x) (map h xs) in
    omega arith

-- and where the sum of the lesser is no less, none is less
sum_same : (f h : ℕ → ℕ) (xs : List ℕ) → ((x : ℕ) → f x ≤ h x) → sum (map h xs) ≤ sum (map f xs) → (x : ℕ) → IsIn x xs →
    h x ≤ f x
sum_same f h [] less sums x k = absurd (none_in k)
sum_same f h (y ∷ ys) less sums x k =
    let first : f y ≤ h y = less y in
    let rest : sum (map f ys) ≤ sum (map h ys) = sum_below f h ys less in
    let one : sum (f y ∷ map f ys) ≡ f y + sum (map f ys) = sum_by-cons (λ z. z) (f y) (map f ys) in
    let other : sum (h y ∷ map h ys) ≡ h y + sum (map h ys) = sum_by-cons (λ z. z) (h y) (map h ys) in
    elim (in_cons_cases k) [
      | inl same ↦ subst (λ (z : ℕ). h z ≤ f z) (sym same) (omega arith)
      | inr later ↦ sum_same f h ys less (omega arith) x later
    ]

-- the summary that tells most has no lesser sum than any
best_most : (best : Signed PoSummary) (xs : List (Signed PoSummary)) →
    (sum best.body.numbers ≤ sum (best_from tells_more best xs).body.numbers)
    × ((c : Signed PoSummary) → IsIn c xs → sum c.body.numbers ≤ sum (best_from tells_more best xs).body.numbers)
best_most best [] = (omega arith, λ c h. absurd (none_in h))
best_most best (x ∷ xs) = by_test (tells_more x best) refl (best_most x xs) (best_most best xs)
  where
    by_test : (b : Bool) → tells_more x best ≡ b
        → (sum x.body.numbers ≤ sum (best_from tells_more x xs).body.numbers)
        × ((c : Signed PoSummary) → IsIn c xs → sum c.body.numbers ≤ sum (best_from tells_more x xs).body.numbers)
        → (sum best.body.numbers ≤ sum (best_from tells_more best xs).body.numbers)
        × ((c : Signed PoSummary) → IsIn c xs → sum c.body.numbers ≤ sum (best_from tells_more best xs).body.numbers)
        → (sum best.body.numbers ≤ sum (best_from tells_more (cond b x best) xs).body.numbers)
        × ((c : Signed PoSummary) → IsIn c (x ∷ xs) →
        sum c.body.numbers ≤ sum (best_from tells_more (cond b x best) xs).body.numbers)
    by_test true is one other =
        let more : sum best.body.numbers < sum x.body.numbers = ltb-true (sum best.body.numbers) (sum x.body.numbers) is in
        let rest : sum x.body.numbers ≤ sum (best_from tells_more x xs).body.numbers = one.0 in (
          omega arith,
          λ c h. elim (in_cons_cases h) [
            | inl same ↦ subst (λ (z : Signed PoSummary). sum z.body.numbers ≤
                sum (best_from tells_more x xs).body.numbers) (sym same) one.0
            | inr later ↦ one.1 c later
          ],
        )
    by_test false is one other =
        let less : sum x.body.numbers ≤ sum best.body.numbers = ltb-false (sum best.body.numbers) (sum x.body.numbers) is in
        let rest : sum best.body.numbers ≤ sum (best_from tells_more best xs).body.numbers = other.0 in (
          omega arith,
          λ c h. elim (in_cons_cases h) [
            | inl same ↦ subst (λ (z : Signed PoSummary). sum z.body.numbers ≤
                sum (best_from tells_more best xs).body.numbers) (sym same) (omega arith)
            | inr later ↦ other.1 c later
          ],
        )

best_tells_most : (xs : List (Signed PoSummary)) (b c : Signed PoSummary) → best_by tells_more xs ≡ Some b → IsIn c xs →
    sum c.body.numbers ≤ sum b.body.numbers
unfolding best_by
best_tells_most [] b c e h = absurd (none_in h)
best_tells_most (x ∷ xs) b c e h = subst (λ (z : Signed PoSummary). sum c.body.numbers ≤ sum z.body.numbers) (some_same e)
    (elim (in_cons_cases h) [
      | inl same ↦ subst (λ (z : Signed PoSummary). sum z.body.numbers ≤ sum (best_from tells_more x xs).body.numbers)
          (sym same) (best_most x xs).0
      | inr later ↦ (best_most x xs).1 c later
    ])

-- of two summaries of a correct master, as vectors, one is at most the other
pub record Told (g : Group) (s : PoSummary) : Type 0 where
  pub vector_then : ℕ → ℕ
  pub is : s.numbers ≡ map vector_then (numbers_below g.n)

module _ (w : Setup) (history : List Entry) (i : ℕ) (legal : IsLegal w history) (correct : is_correct_master w i ≡ true) where
  known_there : (s : PoSummary) → FirstSaid w history i (body.PoSummary s) → List (Signed Body)
  known_there s first = known_then w first.said.before i first.said.entry

  abbrev numbers_then : (s : PoSummary) → FirstSaid w history i (body.PoSummary s) → ℕ → ℕ
  numbers_then s first = vector w.group (known_then w first.said.before i first.said.entry)

  told : (s : PoSummary) (first : FirstSaid w history i (body.PoSummary s)) →
      s.numbers ≡ map (numbers_then s first) (numbers_below w.group.n)
  told s first = (due_first w history i (body.PoSummary s) first).1

  later_more : (s t : PoSummary) (first : FirstSaid w history i (body.PoSummary s))
      (second : FirstSaid w history i (body.PoSummary t)) → Stands second.said.before first.said.before first.said.entry
      → (x : ℕ) → numbers_then s first x ≤ numbers_then t second x
  later_more s t first second earlier x =
      let one : numbers_then s first x ≤ vector w.group (known_by w second.said.before i) x = vector_more w.group
      (known_then w first.said.before i first.said.entry) (known_by w second.said.before i) x
      (known_from w i earlier first.said.by first.loud) in
      let other : vector w.group (known_by w second.said.before i) x ≤ numbers_then t second x = vector_more w.group
      (known_by w second.said.before i) (known_then w second.said.before i second.said.entry) x
      (subst (λ (ps : List (Signed Body)). Begins (known_by w second.said.before i) ps)
      (known_upto w second.said.before second.said.entry i second.said.by second.loud)
      (known_grows w (second.said.before ++ second.said.entry ∷ []) second.said.before i
      record { rest = second.said.entry ∷ []; same = refl })) in
      omega arith

  -- the one with the greater sum tells no less of anyone
  pub tells_all : (s t : PoSummary) → HasSaid history i (body.PoSummary s) → HasSaid history i (body.PoSummary t) →
      sum s.numbers ≤ sum t.numbers → (j : ℕ) → j < w.group.n → slice_index s.numbers j ≤ slice_index t.numbers j
  tells_all s t one other sums j low =
      let first : FirstSaid w history i (body.PoSummary s) = first_said w i (body.PoSummary s) correct history legal one in
      let second : FirstSaid w history i (body.PoSummary t) =
      first_said w i (body.PoSummary t) correct history legal other in
      let f = numbers_then s first in
      let h = numbers_then t second in
      let at_s : slice_index s.numbers j ≡ f j = ap (λ (xs : List ℕ). slice_index xs j) (told s first)
      ∙ numbers_at f w.group.n j low in
      let at_t : slice_index t.numbers j ≡ h j = ap (λ (xs : List ℕ). slice_index xs j) (told t second)
      ∙ numbers_at h w.group.n j low in
      let less : f j ≤ h j = elim (stands_cases first.said.place second.said.place) [
        | inl alike ↦
            let same : known_then w first.said.before i first.said.entry ≡ known_then w second.said.before i second.said.entry
            = ap (λ (xs : List Entry). known_then w xs i first.said.entry) alike.0
            ∙ ap (known_then w second.said.before i) alike.1 in
            let equal : f j ≡ h j = ap (λ (ps : List (Signed Body)). vector w.group ps j) same in
            omega arith
        | inr apart ↦ elim apart [
          | inl earlier ↦ later_more s t first second earlier j
          | inr later ↦ sum_same h f (numbers_below w.group.n) (λ x. later_more t s second first later x)
              (subst (λ (xs : List ℕ). sum xs ≤ sum (map h (numbers_below w.group.n))) (told s first)
              (subst (λ (xs : List ℕ). sum s.numbers ≤ sum xs) (told t second) sums)) j (in_below w.group.n j low)
        ]
      ] in
      omega arith

pub summary_from : (i signer : ℕ) (word : Body) (sig : List ℕ) (f : Signed PoSummary) →
    summary_of i record { signer = signer; body = word; sig = sig } ≡ Some f → (signer ≡ i) × (word ≡ body.PoSummary f.body)
summary_from i signer (body.PoSummary b) sig f e =
    let is = if_some (nat_eq signer i) e in
    (eqb-true signer i is.0, ap (λ (x : Signed PoSummary). body.PoSummary x.body) is.1)
summary_from i signer _ sig f e = absurd (none_some e)

summary_is : (i signer : ℕ) (word : Body) (sig : List ℕ) (s : PoSummary) → signer ≡ i → word ≡ body.PoSummary s →
    summary_of i record { signer = signer; body = word; sig = sig } ≡ Some record { signer = signer; body = s; sig = sig }
summary_is i signer word sig s by is =
    subst (λ (b : Body). summary_of i record { signer = signer; body = b; sig = sig } ≡ Some record {
      signer = signer;
      body =
          s;
      sig = sig;
    }) (sym is)
    (ap (λ (c : Bool). cond c (Some (the_frame signer s sig)) None) (eq-eqb signer i by))
  where
    the_frame : ℕ → PoSummary → List ℕ → Signed PoSummary
    the_frame signer s sig = record { signer = signer; body = s; sig = sig }

abbrev pub numbers_of : Option (Signed PoSummary) → List ℕ
numbers_of o = elim o [ None ↦ [] | Some f ↦ f.body.numbers ]

-- The latest summary of a correct master tells no less than any that is known of it.
pub latest_tells : (w : Setup) (history : List Entry) (m i j : ℕ) (s : PoSummary) → IsLegal w history →
    NothingForged w history → is_correct_master w m ≡ true → is_correct_master w i ≡ true → j < w.group.n →
    KnowsWord (known_by w history m) i (body.PoSummary s)
    → slice_index s.numbers j ≤ slice_index (numbers_of (latest (known_by w history m) i)) j
unfolding latest
latest_tells w history m i j s legal unforged correct right low knows =
    let known : List (Signed Body) = known_by w history m in
    let frame : Signed PoSummary = record { signer = knows.part.signer; body = s; sig = knows.part.sig } in
    let among : IsIn frame (filter_map (summary_of i) known) = in_filter_map (summary_of i) knows.among
    (summary_is i knows.part.signer knows.part.body knows.part.sig s knows.by knows.word) in
    let best = best_there tells_more among in
    let found = in_filter_map_from (summary_of i) known (best_in tells_more (filter_map (summary_of i) known) best.1) in
    let is = summary_from i found.0.signer found.0.body found.0.sig best.0 found.2 in
    let said_of : (p : Signed Body) (b : Body) → IsIn p known → p.signer ≡ i → p.body ≡ b → HasSaid history i b =
    λ p b h by word. subst (λ (x : Body). HasSaid history i x) word (subst (λ (x : ℕ). HasSaid history x p.body) by
    (learned_said w m history legal unforged correct p (known_of_within (heard w history m) p h)
    (subst (λ (x : ℕ). is_correct w x ≡ true) (sym by) (correct_too w i right)))) in
    subst (λ (o : Option (Signed PoSummary)). slice_index s.numbers j ≤ slice_index (numbers_of o) j) (sym best.1)
    (tells_all w history i legal right s best.0.body
    (said_of knows.part (body.PoSummary s) knows.among knows.by knows.word)
    (said_of found.0 (body.PoSummary best.0.body) found.1 is.0 is.1)
    (best_tells_most (filter_map (summary_of i) known) best.0 frame best.1 among) j low)

pub count_mapped : {X : Type 0} (f : X → ℕ) (t : ℕ → Bool) (xs : List X) →
    length (filter t (map f xs)) ≡ length (filter (λ x. t (f x)) xs)
count_mapped f t [] = refl
count_mapped {X} f t (x ∷ xs) = by (t (f x)) (count_mapped f t xs)
  where
    by : (b : Bool) → length (filter t (map f xs)) ≡ length (filter (λ x. t (f x)) xs) →
        length (cond b (f x ∷ filter t (map f xs)) (filter t (map f xs)))
        ≡ length (cond b (x ∷ filter (λ x. t (f x)) xs) (filter (λ x. t (f x)) xs))
    by true e = ap suc e
    by false e = e

-- the least of those that are at least k
least_above : (k : ℕ) (ys : List ℕ) → 1 ≤ length (filter (nat_le k) ys) →
    (x : ℕ) × IsIn x ys × (k ≤ x) × ((y : ℕ) → IsIn y ys → k ≤ y → x ≤ y)
least_above k [] h = absurd (omega arith)
least_above k (y ∷ ys) h = elim (cases_lt y k) [
  | inl less ↦
      let rest = least_above k ys (without (nat_le k y) refl h less) in (
        rest.0,
        there y ys rest.1,
        rest.2,
        λ z i low. elim (in_cons_cases i) [
          | inl same ↦ absurd (omega arith)
          | inr later ↦ rest.3 z later low
        ],
      )
  | inr fits ↦ elim (cases_lt 0 (length (filter (nat_le k) ys))) [
    | inl some ↦
        let rest = least_above k ys some in
        elim (cases_lt y rest.0) [
          | inl lower ↦ (
            y,
            here ys,
            fits,
            λ z i low. elim (in_cons_cases i) [
              | inl same ↦ omega arith
              | inr later ↦ let above : rest.0 ≤ z = rest.3 z later low in omega arith
            ],
          )
          | inr higher ↦ (
            rest.0,
            there y ys rest.1,
            rest.2,
            λ z i low. elim (in_cons_cases i) [ inl same ↦ omega arith | inr later ↦ rest.3 z later low ],
          )
        ]
    | inr none ↦ (
      y,
      here ys,
      fits,
      λ z i low. elim (in_cons_cases i) [
        | inl same ↦ omega arith
        | inr later ↦
            let one : 1 ≤ length (filter (nat_le k) ys) = some_in (in_filter (nat_le k) later (le-leb k z low)) in
            absurd (omega arith)
      ],
    )
  ]
]
  where
    some_in : {X : Type 0} {x : X} {xs : List X} → IsIn x xs → 1 ≤ length xs
    some_in (here rest) = omega arith
    some_in (there y rest h) = omega arith

    without : (b : Bool) → nat_le k y ≡ b → 1 ≤ length (cond b (y ∷ filter (nat_le k) ys) (filter (nat_le k) ys)) → y < k →
        1 ≤ length (filter (nat_le k) ys)
    without true is h less = let low : k ≤ y = leb-true k y is in absurd (omega arith)
    without false is h less = h

-- tests of which one passes wherever the other does
filter_within : (s t : ℕ → Bool) (xs : List ℕ) → ((x : ℕ) → IsIn x xs → s x ≡ true → t x ≡ true) →
    length (filter s xs) ≤ length (filter t xs)
filter_within s t [] h = omega arith
filter_within s t (x ∷ xs) h = by_test (s x) (t x) refl refl (filter_within s t xs (λ y k. h y (there x xs k)))
  where
    by_test : (a b : Bool) → s x ≡ a → t x ≡ b → length (filter s xs) ≤ length (filter t xs) →
        length {A = ℕ} (cond a (x ∷ filter s xs) (filter s xs)) ≤ length {A = ℕ} (cond b (x ∷ filter t xs) (filter t xs))
    by_test true true p q less = omega arith
    by_test true false p q less = absurd (false≢true (sym q ∙ h x (here xs) p))
    by_test false true p q less = omega arith
    by_test false false p q less = less

-- Where a quorum's rows reach a number, it is eligible.
reached_is_eligible : (q k : ℕ) (ys : List ℕ) → 1 ≤ q → q ≤ length (filter (nat_le k) ys) →
    k ≤ greatest_of (filter (λ x. nat_le q (length (filter (λ y. nat_le x y) ys))) ys)
reached_is_eligible q k ys one enough =
    let least = least_above k ys (omega arith) in
    let more : length (filter (nat_le k) ys) ≤ length (filter (nat_le least.0) ys) =
    filter_within (nat_le k) (nat_le least.0) ys (λ y h low. le-leb least.0 y (least.3 y h (leb-true k y low))) in
    let passes : nat_le q (length (filter (nat_le least.0) ys)) ≡ true =
    le-leb q (length (filter (nat_le least.0) ys)) (omega arith) in
    let among : least.0 ≤ greatest_of (filter (λ x. nat_le q (length (filter (λ y. nat_le x y) ys))) ys) =
    greatest_above least.0 (filter (λ x. nat_le q (length (filter (λ y. nat_le x y) ys))) ys)
    (in_filter (λ x. nat_le q (length (filter (λ y. nat_le x y) ys))) least.1 passes) in
    let above : k ≤ least.0 = least.2 in
    omega arith

summary_sent : (g : Group) (m i : ℕ) (s : PoSummary) → (m ≡ i) ⊎ (goes_to g i (body.PoSummary s) m ≡ true)
summary_sent g m i s = elim (cases_eq m i) [
  | inl same ↦ inl same
  | inr apart ↦ inr (not_from_false (nat_eq m i) (ne_eqb m i apart))
]

-- the column of a master in the latest rows
pub column_of_latest : (g : Group) (known : List (Signed Body)) (j : ℕ) → column (latest_rows g known) j
    ≡ map (λ i. slice_index (numbers_of (latest known i)) j) (numbers_below g.n)
column_of_latest g known j = twice (numbers_below g.n)
  where
    twice : (xs : List ℕ) → map (λ row. slice_index row j) (map (λ i. numbers_of (latest known i)) xs)
        ≡ map (λ i. slice_index (numbers_of (latest known i)) j) xs
    twice [] = refl
    twice (x ∷ xs) = ap (λ (ys : List ℕ). slice_index (numbers_of (latest known x)) j ∷ ys) (twice xs)

pub eligible_in_two_rounds : EligibleInTwoRounds
unfolding eligible
eligible_in_two_rounds w connected beginning first second live legal unforged are fair next left sized j k low one reaches m is_m =
    let middle : List Entry = beginning ++ first in
    let known : List (Signed Body) = known_by w (middle ++ second) m in
    let row : (i : ℕ) → connected i ≡ true → nat_le k (slice_index (numbers_of (latest known i)) j) ≡ true = λ i is_i.
    let sum_up = summed_up w beginning first i j k live (legal_before w middle second legal) (are.correct i is_i)
    (left_before w middle second i (left i is_i)) (fair.ticks i is_i) low one (reaches i is_i) in
    let knows : KnowsWord known i (body.PoSummary sum_up.0) = words_arrive w connected middle second legal are next i m
    is_i is_m (body.PoSummary sum_up.0) sum_up.1 (summary_sent w.group m i sum_up.0) in
    let more : slice_index sum_up.0.numbers j ≤ slice_index (numbers_of (latest known i)) j = latest_tells w
    (middle ++ second) m i j sum_up.0 legal unforged (are.correct m is_m) (are.correct i is_i) low knows in
    let told : k ≤ slice_index sum_up.0.numbers j = sum_up.2 in
    le-leb k (slice_index (numbers_of (latest known i)) j) (omega arith) in
    let value : ℕ → ℕ = λ i. slice_index (numbers_of (latest known i)) j in
    let some : length (voters connected w.group.n) ≤ length (filter (λ i. nat_le k (value i)) (numbers_below w.group.n)) =
    filter_more connected (λ i. nat_le k (value i)) row (numbers_below w.group.n) in
    let count : length (filter (nat_le k) (map value (numbers_below w.group.n))) ≡ length
    (filter (λ i. nat_le k (value i)) (numbers_below w.group.n)) = count_mapped value (nat_le k) (numbers_below w.group.n) in
    let enough : w.group.q ≤ length (voters connected w.group.n) = are.enough in
    subst (λ (ys : List ℕ). k ≤ greatest_of (filter (λ x. nat_le w.group.q (length (filter (λ y. nat_le x y) ys))) ys))
    (sym (column_of_latest w.group known j))
    (reached_is_eligible w.group.q k (map value (numbers_below w.group.n)) sized (omega arith))
