-- What the masters of a history have certified, by their benches.
use Rattle.std.proofs.Common.{◌≡◌, ◌⊎◌, ℕ, zero, suc, ◌+◌, ◌<◌, ◌≤◌, true, false, nat_lt, List, [], ◌∷◌, ◌++◌, Option}
use Rattle.std.proofs.Common.{Some, None, length, map, get_or, inl, inr, refl, sym, ◌∙◌, ap, subst, arith}
use Rattle.std.specs.Prelude.{slice_get}
use Rattle.std.specs.List.{filter_map, cons_option}
use Rattle.std.specs.Option.{option_map}
use Rattle.std.proofs.lemmas.Bool.{cases_lt, lt-ltb, ltb-true, true≢false}
use Rattle.std.proofs.lemmas.List.{length-map}
use Rattle.std.proofs.lemmas.List.Elements.{filter_map-append}
use Rattle.std.proofs.lemmas.Option.{slice_get-get_or, slice_get-map}
use Rattle.plain_lists.proofs.Members.{some_same}
use Rattle.message_types.specs.declared.updates.Update.{Update}
use Rattle.quorum_sets.specs.Masters.{numbers_below}
use Rattle.protocol_rules.specs.Words.{first_of_list}
use Rattle.scenario_file.specs.Reading.{Contents}
use Rattle.history_rules.specs.Events.{Entry}
use Rattle.world_rules.specs.Scenarios.{masters_in, setup_of, actors_in}
use Rattle.world_history.specs.State.{BenchState, certified_shown}
use Rattle.world_history.specs.Benches.{bench_in, unsigned, AreBenches}
use Rattle.run_questions.specs.PartsText.{certified_by, first_certified}
use Rattle.quorum_sets.proofs.Numbered.{numbered_at, length-numbered}

-- each master has a bench
bench_of : (c : Contents) (history : List Entry) (benches : List BenchState) (actor : ℕ) (b : BenchState) →
    AreBenches c history benches → actor < actors_in c
    → slice_get benches actor ≡ Some b → unsigned b ≡ bench_in c history actor
bench_of c history benches actor b are low is =
    let numbered : List BenchState = map (bench_in c history) (numbers_below (actors_in c)) in
    let inside : actor < length numbered =
    subst (λ (n : ℕ). actor < n) (sym (length-numbered (bench_in c history) (actors_in c))) low in
    some_same (sym (slice_get-map unsigned benches actor ∙ ap (option_map unsigned) is)
    ∙ ap (λ (bs : List BenchState). slice_get bs actor) are
    ∙ slice_get-get_or numbered actor (unsigned b) inside
    ∙ ap (λ (x : BenchState). Some x) (numbered_at (bench_in c history) (actors_in c) actor (unsigned b) low))

pub certified_there : (c : Contents) (history : List Entry) (benches : List BenchState) (master j k : ℕ)
    (b : BenchState) (shown : Option Update)
    → AreBenches c history benches → master < masters_in c → true ≡ nat_lt master (length benches) →
    b ≡ get_or benches master b
    → (b.is_spent ≡ false → shown ≡ certified_shown b j k) → shown ≡ certified_by (setup_of c) history j k master
certified_there c history benches master j k b shown are low inside is tells =
    let here : slice_get benches master ≡ Some b =
    slice_get-get_or benches master b (ltb-true master (length benches) (sym inside))
    ∙ ap (λ (x : BenchState). Some x) (sym is) in
    let same : unsigned b ≡ bench_in c history master = bench_of c history benches master b are (omega arith) here in
    tells (ap (λ (x : BenchState). x.is_spent) same)
    ∙ ap (λ (x : BenchState). certified_shown x j k) same

pub none_missing : (c : Contents) (history : List Entry) (benches : List BenchState) (master : ℕ)
    (shown right : Option Update)
    → AreBenches c history benches → master < masters_in c → false ≡ nat_lt master (length benches) → shown ≡ right
none_missing c history benches master shown right are low beyond =
    let long : length benches ≡ actors_in c = sym (length-map benches unsigned) ∙ ap length are
    ∙ length-numbered (bench_in c history) (actors_in c) in
    absurd (true≢false (sym (lt-ltb master (length benches) (omega (arith, long))) ∙ sym beyond))

-- ---- The first of the masters that has one.

-- none of the masters so far has the request certified
none_passed : (g : ℕ → Option Update) (m : ℕ) → ((x : ℕ) → x < m → g x ≡ None) → filter_map g (numbers_below m) ≡ []
unfolding numbers_below
none_passed g zero none = refl
none_passed g (suc m) none =
    filter_map-append g (numbers_below m) (m ∷ [])
    ∙ (λ i. none_passed g m (λ x low. none x (omega arith)) i ++ cons_option (none m (omega arith) i) [])

front_first : (xs ys : List Update) (u : Update) → first_of_list xs ≡ Some u → first_of_list (xs ++ ys) ≡ Some u
front_first [] ys u is = absurd (cc)
front_first (x ∷ xs) ys u is = is

first_at : (g : ℕ → Option Update) (n m : ℕ) (u : Update) → m < n → ((x : ℕ) → x < m → g x ≡ None) → g m ≡ Some u
    → first_of_list (filter_map g (numbers_below n)) ≡ Some u
unfolding numbers_below
first_at g zero m u low none is = absurd (omega arith)
first_at g (suc n) m u low none is =
    ap first_of_list (filter_map-append g (numbers_below n) (n ∷ [])) ∙ by (cases_lt m n) (first_at g n m u)
  where
    by : (m < n) ⊎ (n ≤ m) → (m < n → ((x : ℕ) → x < m → g x ≡ None) → g m ≡ Some u →
        first_of_list (filter_map g (numbers_below n)) ≡ Some u)
        → first_of_list (filter_map g (numbers_below n) ++ filter_map g (n ∷ [])) ≡ Some u
    by (inl less) deeper = front_first (filter_map g (numbers_below n)) (filter_map g (n ∷ [])) u (deeper less none is)
    by (inr last) deeper =
        let here : n ≡ m = omega arith in
        ap (λ (xs : List Update). first_of_list (xs ++ filter_map g (n ∷ [])))
        (none_passed g n (λ x less. none x (omega arith)))
        ∙ ap (λ (x : ℕ). first_of_list (cons_option (g x) [])) here
        ∙ ap (λ (o : Option Update). first_of_list (cons_option o [])) is

pub first_found : (c : Contents) (history : List Entry) (j k n m : ℕ) (u : Update) → n ≡ masters_in c →
    (setup_of c).group.n ≡ masters_in c → m < n
    → ((x : ℕ) → x < m → certified_by (setup_of c) history j k x ≡ None) →
    certified_by (setup_of c) history j k m ≡ Some u
    → Some u ≡ first_certified (setup_of c) history j k
first_found c history j k n m u all size low none is =
    sym (ap (λ (x : ℕ). first_of_list (filter_map (certified_by (setup_of c) history j k) (numbers_below x)))
    (size ∙ sym all)
    ∙ first_at (certified_by (setup_of c) history j k) n m u low none is)

pub none_found : (c : Contents) (history : List Entry) (j k n : ℕ) → n ≡ masters_in c →
    (setup_of c).group.n ≡ masters_in c
    → ((x : ℕ) → x < n → certified_by (setup_of c) history j k x ≡ None) →
    None ≡ first_certified (setup_of c) history j k
none_found c history j k n all size none =
    sym (ap (λ (x : ℕ). first_of_list (filter_map (certified_by (setup_of c) history j k) (numbers_below x)))
    (size ∙ sym all)
    ∙ ap first_of_list (none_passed (certified_by (setup_of c) history j k) n none))
