-- What holds of the failing calls, of the intruded masters as a set, and of the seed.
use Rattle.std.proofs.Common.{◌≡◌, ℕ, zero, suc, ◌+◌, ◌*◌, ◌/◌, ◌%◌, ◌<◌, ◌≤◌, nat_le, nat_lt, ◌==◌, Bool, true}
use Rattle.std.proofs.Common.{false, not, ◌&&◌, ◌||◌, List, [], ◌∷◌, ◌++◌, length, map, get_or, refl, sym, ◌∙◌, ap}
use Rattle.std.proofs.Common.{subst, arith, inl, inr, ◌⊎◌, Result, Ok, Err, Option, Some, None}
use Rattle.std.specs.Prelude.{codes, AllPairs, IsTrue, if◌then◌else◌}
use Rattle.std.specs.List.{AllByRecursion, list_all, list_any}
use Rattle.std.specs.List.Sorted.{IsStrictlyIncreasing}
use Rattle.std.proofs.Math.ListN.{get_or-append}
use Rattle.std.proofs.Math.Seq.{get_or-append_seam}
use Rattle.std.proofs.lemmas.Bool.{and_parts, false≢true, cases_lt, ltb-true, not-true, eqb-true}
use Rattle.std.proofs.lemmas.Bool.Decides.{nat_tests}
use Rattle.std.proofs.lemmas.List.{length-map, map-append}
use Rattle.std.proofs.lemmas.List.Quantifiers.{all_pairs_push}
use Rattle.std.proofs.lemmas.List.Kept.{IsStrictlyIncreasing-filter}
use Rattle.hex.specs.Hex.{decode_pairs, decode_sized, pair_value, ◌>>=◌}
use Rattle.hex.specs.declared.error.FromHexError.{FromHexError}
use Rattle.hex.specs.declared.error.FromHexError.TheVariants as hex_fault
use Rattle.quorum_sets.specs.Masters.{has_master, numbers_below, voters}
use Rattle.quorum_sets.proofs.MastersLemmas.{numbers_below-suc}
use Rattle.toml.specs.Data.{Data, Members}
use Rattle.scenario_file.specs.declared.refusal.ScenarioRefusal.{ScenarioRefusal}
use Rattle.scenario_file.specs.declared.keepers.Failing.{Failing}
use Rattle.scenario_file.specs.declared.actors.Cast.{Cast}
use Rattle.scenario_file.specs.Answers.{or_bad}
use Rattle.scenario_file.specs.Values.{text_at, needed, bytes_at, decoded}
use Rattle.scenario_file.specs.Lists.{list_in, number_after, numbers_in}
use Rattle.scenario_file.specs.Actors.{actor_named}
use Rattle.scenario_file.specs.Settings.{set_of}
use Rattle.scenario_file.specs.Keepers.{is_new_actor, actor_in, is_next_call, calls_in, keeper_in, keepers_of}
use Rattle.scenario_file.specs.Keepers.{calls_of}
use Rattle.scenario_file.specs.Valid.{IsFailing}
use Rattle.scenario_file.proofs.Steps.{step, ok-same, kept-ok}
use Rattle.scenario_file.proofs.RowLaws.{all-at, gathered-length, gathered-all, gathered-keeps, list_in-ok, at-most}
use Rattle.scenario_file.proofs.RowLaws.{rows_of-all}
use Rattle.scenario_file.proofs.SettingsLaws.{number_after-ok}
use Rattle.quorum_sets.proofs.Numbered.{length-numbers_below}

-- Rising lists

all-below : (n : ℕ) (xs : List ℕ) → list_all (λ b. nat_lt b n) xs ≡ true → AllByRecursion (λ b. b < n) xs
all-below n [] h = tt
all-below n (x ∷ xs) h = let both = and_parts (nat_lt x n) (list_all (λ b. nat_lt b n) xs) h in
    (ltb-true x n both.0, all-below n xs both.1)

abbrev Rise : List ℕ → Type 0
Rise xs = AllPairs (λ a b. a < b) xs

rise-push : (xs : List ℕ) (n : ℕ) → Rise xs → AllByRecursion (λ b. b < n) xs → Rise (xs ++ n ∷ [])
rise-push xs n so_far all =
    all_pairs_push (λ a b. a < b) xs n so_far (λ k d inside. all-at (λ b. b < n) xs all k d inside)

none-rise : Rise []
none-rise = λ i j d less inside. absurd (omega arith)

increasing : (xs : List ℕ) → Rise xs → IsStrictlyIncreasing xs
increasing xs rise = λ k inside. rise k (k + 1) 0 (omega arith) inside

wider : (n : ℕ) (xs : List ℕ) → AllByRecursion (λ m. m < n) xs → AllByRecursion (λ m. m < suc n) xs
wider n [] all = tt
wider n (x ∷ xs) all = let here = all.0 in (omega arith, wider n xs all.1)

all-push : (P : ℕ → Type 0) (xs : List ℕ) (x : ℕ) → AllByRecursion P xs → P x → AllByRecursion P (xs ++ x ∷ [])
all-push P [] x all one = (one, tt)
all-push P (y ∷ ys) x all one = (all.0, all-push P ys x all.1 one)

numbers-all : (n : ℕ) → AllByRecursion (λ m. m < n) (numbers_below n)
unfolding numbers_below
numbers-all zero = tt
numbers-all (suc n) = all-push (λ m. m < suc n) (numbers_below n) n (wider n (numbers_below n) (numbers-all n))
    (omega arith)

numbers-rise : (n : ℕ) → Rise (numbers_below n)
unfolding numbers_below
numbers-rise zero = none-rise
numbers-rise (suc n) = rise-push (numbers_below n) n (numbers-rise n) (numbers-all n)

-- a set of masters is a rising list
pub set_of-rises : (masters : List ℕ) → IsStrictlyIncreasing (set_of masters)
set_of-rises masters = IsStrictlyIncreasing-filter (has_master masters) (numbers_below 14)
    (increasing (numbers_below 14) (numbers-rise 14))

-- Failing calls

in-order : (before : List ℕ) (call : ℕ) → is_next_call before call ≡ true → (1 ≤ call) × (call ≤ 50000)
    × (list_all (λ b. nat_lt b call) before ≡ true)
in-order before call h =
    let both = and_parts (nat_le 1 call && nat_le call 50000) (list_all (λ b. nat_lt b call) before) h in
    let range = and_parts (nat_le 1 call) (nat_le call 50000) both.0 in
    (at-most-of 1 call range.0, at-most-of call 50000 range.1, both.1)
  where
    at-most-of : (a b : ℕ) → nat_le a b ≡ true → a ≤ b
    at-most-of a b le = grind (arith, nat_tests)

calls_in-failing : (at : List ℕ) (t : Members) (calls : List ℕ) → calls_in at t ≡ Ok calls → IsFailing calls
unfolding calls_in
calls_in-failing at t calls h =
    step (needed at (codes "failing") t) _ calls h (λ d there h1.
    step (list_in (at ++ codes "failing") 1 (Some 16) d) _ calls h1 (λ ds listed read.
    let few = at-most 16 (length ds) (list_in-ok (at ++ codes "failing") 1 (Some 16) d ds listed).1 in
    let as_many = gathered-length (number_after (at ++ codes "failing") is_next_call) [] ds calls read in
    let next = λ (before : List ℕ) (e : Data) (n : ℕ)
    (one : number_after (at ++ codes "failing") is_next_call before e ≡ Ok n). in-order before n
    (number_after-ok (at ++ codes "failing") is_next_call before e n one) in
    record {
      at_most_sixteen = omega arith;
      from_one = all-at (λ call. 1 ≤ call) calls
          (gathered-all (λ call. 1 ≤ call) (number_after (at ++ codes "failing") is_next_call)
          (λ before e n one. (next before e n one).0) [] ds calls tt read);
      at_most_fifty_thousand = all-at (λ call. call ≤ 50000) calls
          (gathered-all (λ call. call ≤ 50000) (number_after (at ++ codes "failing") is_next_call)
          (λ before e n one. (next before e n one).1) [] ds calls tt read);
      rising = increasing calls (gathered-keeps Rise (number_after (at ++ codes "failing") is_next_call)
          (λ before e n so_far one. rise-push before n so_far (all-below n before (next before e n one).2))
          [] ds calls none-rise read);
    }))

-- an actor's row names a correct actor, and failing calls
pub record IsKeeper (intruded : List ℕ) (k : Failing) : Type 0 where
  pub correct : has_master intruded k.actor ≡ false
  pub failing : IsFailing k.calls

actor_in-correct : (cast : Cast) (intruded : List ℕ) (before : List Failing) (at : List ℕ) (t : Members) (a : ℕ) →
    actor_in cast intruded before at t ≡ Ok a → has_master intruded a ≡ false
unfolding actor_in
actor_in-correct cast intruded before at t a h =
    step (text_at at (codes "actor") t) _ a h (λ name read h1.
    step (or_bad (at ++ codes "actor") (actor_named cast name)) _ a h1 (λ b named h2.
    let (passed, same) = kept-ok (at ++ codes "actor") (is_new_actor intruded before b) b a h2 in
    subst (λ (c : ℕ). has_master intruded c ≡ false) same
    (not-true (has_master intruded b)
    (and_parts (not (has_master intruded b)) (not (list_any (λ k. k.actor == b) before)) passed).0)))

keeper_in-ok : (cast : Cast) (intruded : List ℕ) (before : List Failing) (at : List ℕ) (t : Members) (k : Failing) →
    keeper_in cast intruded before at t ≡ Ok k → IsKeeper intruded k
unfolding keeper_in
keeper_in-ok cast intruded before at t k h =
    step (actor_in cast intruded before at t) _ k h (λ actor named h1.
    step (calls_in at t) _ k h1 (λ calls read h2.
    let made : Failing = record { actor = actor; calls = calls } in
    let holds : IsKeeper intruded made = record {
      correct = actor_in-correct cast intruded before at t actor named;
      failing = calls_in-failing at t calls read;
    } in
    subst (IsKeeper intruded) (ok-same made k h2) holds))

pub keepers_of-ok : (cast : Cast) (intruded : List ℕ) (doc : Members) (ks : List Failing) →
    keepers_of cast intruded doc ≡ Ok ks → AllByRecursion (IsKeeper intruded) ks
unfolding keepers_of
keepers_of-ok cast intruded doc ks h = rows_of-all (IsKeeper intruded) (keeper_in cast intruded) (codes "keeper")
    None doc ks (keeper_in-ok cast intruded) h

none-failing : IsFailing []
none-failing = record {
  at_most_sixteen = omega arith;
  from_one = λ k d inside. absurd (omega arith);
  at_most_fifty_thousand = λ k d inside. absurd (omega arith);
  rising = λ k inside. absurd (omega arith);
}

-- an actor's failing calls are in order
pub calls_of-failing : (intruded : List ℕ) (ks : List Failing) (a : ℕ) → AllByRecursion (IsKeeper intruded) ks →
    IsFailing (calls_of ks a)
calls_of-failing intruded [] a all = none-failing
calls_of-failing intruded (k ∷ ks) a all = by (k.actor == a) (calls_of-failing intruded ks a all.1)
  where
    by : (b : Bool) → IsFailing (calls_of ks a) → IsFailing (if b then k.calls else calls_of ks a)
    by true rest = all.0.failing
    by false rest = rest

-- none fails for an intruded master
pub calls_of-intruded : (intruded : List ℕ) (ks : List Failing) (a : ℕ) → AllByRecursion (IsKeeper intruded) ks →
    has_master intruded a ≡ true → calls_of ks a ≡ []
calls_of-intruded intruded [] a all is = refl
calls_of-intruded intruded (k ∷ ks) a all is = by (k.actor == a) refl (calls_of-intruded intruded ks a all.1 is)
  where
    by : (b : Bool) → (k.actor == a) ≡ b → calls_of ks a ≡ [] → (if b then k.calls else calls_of ks a) ≡ []
    by true here rest = absurd
        (false≢true (sym all.0.correct ∙ ap (has_master intruded) (eqb-true k.actor a here) ∙ is))
    by false here rest = rest

pub all-map : {A B : Type 0} (P : B → Type 0) (f : A → B) (xs : List A) → ((x : A) → P (f x)) →
    AllByRecursion P (map f xs)
all-map P f [] good = tt
all-map P f (x ∷ xs) good = (good x, all-map P f xs good)

-- a place in a list of what each number ltb-true n has
map-at : (f : ℕ → List ℕ) (n m : ℕ) → m < n → get_or (map f (numbers_below n)) m [] ≡ f m
map-at f zero m lt = absurd (omega arith)
map-at f (suc n) m lt = by (cases_lt m n) (λ before. map-at f n m before)
  where
    size : length (map f (numbers_below n)) ≡ n
    size = length-map (numbers_below n) f ∙ length-numbers_below n

    whole : map f (numbers_below (suc n)) ≡ map f (numbers_below n) ++ f n ∷ []
    whole = ap (map f) (numbers_below-suc n) ∙ map-append f (numbers_below n) (n ∷ [])

    by : (m < n) ⊎ (n ≤ m) → (m < n → get_or (map f (numbers_below n)) m [] ≡ f m) →
        get_or (map f (numbers_below (suc n))) m [] ≡ f m
    by (inl before) rest =
        let inside : m < length (map f (numbers_below n)) = omega (arith, size) in
        ap (λ (xs : List (List ℕ)). get_or xs m []) whole ∙ get_or-append (map f (numbers_below n))
        (f n ∷ []) [] m inside ∙ rest before
    by (inr le) rest =
        let last : m ≡ length (map f (numbers_below n)) = omega (arith, size) in
        let is : m ≡ n = omega arith in
        ap (λ (xs : List (List ℕ)). get_or xs m []) whole
        ∙ ap (λ (k : ℕ). get_or (map f (numbers_below n) ++ f n ∷ []) k []) last
        ∙ get_or-append_seam (map f (numbers_below n)) (f n) [] [] ∙ ap f (sym is)

past-end : (xs : List (List ℕ)) (m : ℕ) → length xs ≤ m → get_or xs m [] ≡ []
past-end [] m le = refl
past-end (x ∷ xs) zero le = absurd (omega arith)
past-end (x ∷ xs) (suc m) le = past-end xs m (omega arith)

-- what holds of no list and of a number's list holds at its place
pub map-empty : (f : ℕ → List ℕ) (n m : ℕ) → f m ≡ [] → get_or (map f (numbers_below n)) m [] ≡ []
map-empty f n m none = by (cases_lt m n)
  where
    by : (m < n) ⊎ (n ≤ m) → get_or (map f (numbers_below n)) m [] ≡ []
    by (inl lt) = map-at f n m lt ∙ none
    by (inr le) = past-end (map f (numbers_below n)) m
        (omega (arith, length-map (numbers_below n) f, length-numbers_below n))

-- The seed

abbrev HexAnswer : Type 0
HexAnswer = Result (List ℕ) FromHexError

pairs-length : (i : ℕ) (text bytes : List ℕ) → decode_pairs i text ≡ Ok bytes → length text ≡ 2 * length bytes
unfolding decode_pairs
pairs-length i [] bytes h = let none : [] ≡ bytes = cc in let size = ap length none in omega arith
pairs-length i (digit ∷ []) bytes h = absurd (cc)
pairs-length i (high ∷ low ∷ rest) bytes h = by (pair_value high low i) (decode_pairs (i + 2) rest) h
    (λ more is. pairs-length (i + 2) rest more is)
  where
    by : (pair : Result ℕ FromHexError) (later : HexAnswer) →
        (pair >>= (λ byte. later >>= (λ more. Ok (byte ∷ more)))) ≡ Ok bytes
        → ((more : List ℕ) → later ≡ Ok more → length rest ≡ 2 * length more) →
        suc (suc (length rest)) ≡ 2 * length bytes
    by (Ok byte) (Ok more) is shorter =
        let same : byte ∷ more ≡ bytes = cc in let size = ap length same in let half = shorter more refl in omega arith
    by (Ok byte) (Err e) is shorter = absurd (cc)
    by (Err e) later is shorter = absurd (cc)

sized-length : (text bytes : List ℕ) (n : ℕ) → decode_sized text n ≡ Ok bytes → length bytes ≡ n
sized-length text bytes n h = by (length text % 2 == 1) (length text / 2 == n) refl h
  where
    by : (odd long : Bool) → (length text / 2 == n) ≡ long →
        (if odd then Err hex_fault.OddLength else if long then decode_pairs 0 text else Err
        hex_fault.InvalidStringLength) ≡ Ok bytes → length bytes ≡ n
    by true long is read = absurd (cc)
    by false false is read = absurd (cc)
    by false true is read = let half = eqb-true (length text / 2) n is in let pairs =
        pairs-length 0 text bytes read in omega arith

decoded-ok : (name : List ℕ) (r : HexAnswer) (bytes : List ℕ) → decoded name r ≡ Ok bytes → r ≡ Ok bytes
decoded-ok name (Ok read) bytes h = let same : read ≡ bytes = cc in
    ap (λ (b : List ℕ). let r : HexAnswer = Ok b in r) same
decoded-ok name (Err e) bytes h = absurd (cc)

-- as many bytes are read as the key wants
pub bytes_at-size : (at key : List ℕ) (size : ℕ) (t : Members) (bytes : List ℕ) → bytes_at at key size t ≡ Ok bytes →
    length bytes ≡ size
unfolding bytes_at
bytes_at-size at key size t bytes h =
    step (text_at at key t) _ bytes h
    (λ text there h1. sized-length text bytes size (decoded-ok (at ++ key) (decode_sized text size) bytes h1))
