-- Names of actors, of kinds of bodies and of areas that are written and read again.
use Rattle.std.proofs.Common.{◌≡◌, ℕ, zero, suc, ◌+◌, ◌-◌, ◌<◌, ◌≤◌, ◌^◌, Bool, true, false, cond, List, [], ◌∷◌}
use Rattle.std.proofs.Common.{Some, Ok, map, refl, sym, ◌∙◌, ap, arith}
use Rattle.std.specs.Prelude.{decimal}
use Rattle.std.specs.Str.{bytes_eq}
use Rattle.std.proofs.lemmas.Bool.{false≢true}
use Rattle.std.proofs.lemmas.Fmt.{decimal_injective}
use Rattle.std.proofs.lemmas.Slice.Eq.{bytes_eq-Decides}
use Rattle.message_types.specs.declared.body.Body.{Body}
use Rattle.point_table.specs.declared.point.Area.{Area}
use Rattle.point_table.specs.declared.point.Area.TheVariants as area
use Rattle.point_table.specs.Point.{first_that}
use Rattle.scenario_file.specs.declared.actors.Cast.{Cast}
use Rattle.scenario_file.specs.Actors.{actors_of, actor_name, actor_named}
use Rattle.script_grammar.specs.declared.kinds.Kind.{Kind}
use Rattle.script_grammar.specs.declared.kinds.Kind.TheVariants as kind
use Rattle.script_grammar.specs.Faults.{bad, said, both, each}
use Rattle.script_grammar.specs.Kinds.{kind_name, kind_named}
use Rattle.script_grammar.specs.Names.{is_name, there, actor_in}
use Rattle.run_lines.specs.Names.{kind_of, area_name, area_named}
use Rattle.run_lines.specs.Reading.{kind_in}
use Rattle.script_grammar.proofs.NamedParts.{Part, master, proxy, screen, part_of}
use Rattle.script_grammar.proofs.Worded.{is_one}

kind_back : (k : Kind) → kind_in (kind_name k) ≡ Ok k
unfolding kind_named
kind_back kind.Update = refl
kind_back kind.PoRequest = refl
kind_back kind.PoAck = refl
kind_back kind.PoSummary = refl
kind_back kind.PrePrepare = refl
kind_back kind.Prepare = refl
kind_back kind.Commit = refl
kind_back kind.Ping = refl
kind_back kind.Pong = refl
kind_back kind.Rtt = refl
kind_back kind.TatReport = refl
kind_back kind.TatBound = refl
kind_back kind.Suspect = refl
kind_back kind.Report = refl
kind_back kind.NewView = refl
kind_back kind.AskUpdate = refl
kind_back kind.Give = refl
kind_back kind.AskOrder = refl
kind_back kind.GiveOrdered = refl
kind_back kind.Voucher = refl
kind_back kind.Mark = refl

pub kinds_back : (bodies : List Body) → each kind_in (map (λ b. kind_name (kind_of b)) bodies) ≡ Ok (map kind_of bodies)
kinds_back [] = refl
kinds_back (b ∷ bodies) =
    λ i. said (λ (p : Kind × List Kind). p.0 ∷ p.1) (both (kind_back (kind_of b) i) (kinds_back bodies i))

pub area_back : (a : Area) → area_named (area_name a) ≡ Some a
unfolding area_named
area_back area.Coil = refl
area_back area.Discrete = refl
area_back area.Holding = refl
area_back area.Input = refl

head_of : List ℕ → ℕ
head_of [] = 0
head_of (x ∷ xs) = x

tail_of : List ℕ → List ℕ
tail_of [] = []
tail_of (x ∷ xs) = xs

digits_same : (a b m n : ℕ) → m < 2 ^ 64 → n < 2 ^ 64 → a ∷ decimal m ≡ b ∷ decimal n → m ≡ n
unfolding tail_of
digits_same a b m n few many same = decimal_injective m n few many (ap tail_of same)

names_apart : (cast : Cast) (a b : ℕ) → a < 2 ^ 64 → b < 2 ^ 64 → Part cast a → Part cast b →
    actor_name cast a ≡ actor_name cast b → a ≡ b
unfolding head_of
names_apart cast a b few many (master low named) (master below called) same =
    digits_same 109 109 a b few many (sym named ∙ same ∙ called)
names_apart cast a b few many (master low named) (proxy over below called) same = let apart : ◌≡◌ {A = ℕ} 109 112 =
    ap head_of (sym named ∙ same ∙ called) in omega (arith, apart)
names_apart cast a b few many (master low named) (screen over called) same = let apart : ◌≡◌ {A = ℕ} 109 115 =
    ap head_of (sym named ∙ same ∙ called) in omega (arith, apart)
names_apart cast a b few many (proxy above low named) (master below called) same = let apart : ◌≡◌ {A = ℕ} 112 109 =
    ap head_of (sym named ∙ same ∙ called) in omega (arith, apart)
names_apart cast a b few many (proxy above low named) (proxy over below called) same =
    let is : a - cast.masters ≡ b - cast.masters = digits_same 112 112 (a - cast.masters) (b - cast.masters)
    (omega arith) (omega arith) (sym named ∙ same ∙ called) in omega arith
names_apart cast a b few many (proxy above low named) (screen over called) same = let apart : ◌≡◌ {A = ℕ} 112 115 =
    ap head_of (sym named ∙ same ∙ called) in omega (arith, apart)
names_apart cast a b few many (screen above named) (master below called) same = let apart : ◌≡◌ {A = ℕ} 115 109 =
    ap head_of (sym named ∙ same ∙ called) in omega (arith, apart)
names_apart cast a b few many (screen above named) (proxy over below called) same = let apart : ◌≡◌ {A = ℕ} 115 112 =
    ap head_of (sym named ∙ same ∙ called) in omega (arith, apart)
names_apart cast a b few many (screen above named) (screen over called) same =
    let is : a - (cast.masters + cast.proxies) ≡ b - (cast.masters + cast.proxies) =
    digits_same 115 115 (a - (cast.masters + cast.proxies)) (b - (cast.masters + cast.proxies)) (omega arith)
    (omega arith) (sym named ∙ same ∙ called) in
    omega arith

above : (m k : ℕ) → m ≤ k → (m ≡ k → ⊥) → suc m ≤ k
above m k least apart = grind (arith, apart)

first_step : (p : ℕ → Bool) (first n a : ℕ) → first ≤ a → a < first + suc n → p a ≡ true →
    ((x : ℕ) → p x ≡ true → x < first + suc n → x ≡ a)
    → (suc first ≤ a → first_that p (suc first) n ≡ Some a) → first_that p first (suc n) ≡ Some a
first_step p first n a low high is only later = by (p first) refl
  where
    by : (b : Bool) → p first ≡ b → first_that p first (suc n) ≡ Some a
    by true here = ap (λ b. cond b (Some first) (first_that p (suc first) n)) here
        ∙ ap (λ (x : ℕ). Some x) (only first here (omega arith))
    by false here =
        ap (λ b. cond b (Some first) (first_that p (suc first) n)) here
        ∙ later (above first a low (λ (same : first ≡ a). false≢true (sym here ∙ ap p same ∙ is)))

-- the first number that passes, where only one does
first_of_one : (p : ℕ → Bool) (first n a : ℕ) → first ≤ a → a < first + n → p a ≡ true →
    ((x : ℕ) → p x ≡ true → x < first + n → x ≡ a) → first_that p first n ≡ Some a
first_of_one p first zero a low high is only = absurd (omega arith)
first_of_one p first (suc n) a low high is only =
    first_step p first n a low high is only
    (λ past. first_of_one p (suc first) n a past (omega arith) is (λ x passes below. only x passes (omega arith)))

named_so : (cast : Cast) (a : ℕ) → a < actors_of cast → actors_of cast < 2 ^ 64 →
    actor_named cast (actor_name cast a) ≡ Some a
unfolding actor_named
named_so cast a below few =
    first_of_one (λ x. bytes_eq (actor_name cast x) (actor_name cast a)) 0 (actors_of cast)
    a (omega arith) (omega arith)
    ((bytes_eq-Decides (actor_name cast a) (actor_name cast a)).1 refl)
    (λ x passes under. names_apart cast x a (omega arith) (omega arith) (part_of cast x) (part_of cast a)
    ((bytes_eq-Decides (actor_name cast x) (actor_name cast a)).0 passes))

is_name_of : (cast : Cast) (a : ℕ) → a < 2 ^ 64 → Part cast a → is_name (actor_name cast a) ≡ true
is_name_of cast a few (master low named) = ap is_name named ∙ is_one a few
is_name_of cast a few (proxy above low named) = ap is_name named ∙ is_one (a - cast.masters) (omega arith)
is_name_of cast a few (screen above named) = ap is_name named ∙ is_one (a - (cast.masters + cast.proxies)) (omega arith)

pub actor_back : (cast : Cast) (a : ℕ) → a < actors_of cast → actors_of cast < 2 ^ 64 →
    actor_in cast (actor_name cast a) ≡ Ok a
unfolding actor_in
actor_back cast a below few =
    ap (λ b. cond b (there (actor_named cast (actor_name cast a))) bad)
    (is_name_of cast a (omega arith) (part_of cast a))
    ∙ ap there (named_so cast a below few)
