-- The last summary said, said again: it is the first that is met from the end of what was said on, and its numbers are
-- the last said.
use Rattle.std.proofs.Common.{◌≡◌, ℕ, zero, suc, ◌<◌, ◌≤◌, Bool, true, false, cond, ◌&&◌, ◌||◌, List, [], ◌∷◌, ◌++◌}
use Rattle.std.proofs.Common.{map, take, reverse, nat_lt, get_or, get_or-take, refl, sym, ◌∙◌, ap, arith, append-nil}
use Rattle.std.specs.List.{filter_map, find, list_any}
use Rattle.std.specs.Option.{option_to_list}
use Rattle.std.proofs.lemmas.Bool.{false≢true, le-ltb}
use Rattle.std.proofs.lemmas.Grind.{reverse_onto}
use Rattle.std.proofs.lemmas.List.{reverse-reverse}
use Rattle.std.proofs.lemmas.List.Elements.{filter_map-append}
use Rattle.message_types.specs.declared.body.Body.{Body}
use Rattle.message_types.specs.declared.body.Body.TheVariants as body
use Rattle.quorum_sets.specs.Masters.{numbers_below}
use Rattle.protocol_rules.specs.declared.facts.OrderFact.{OrderFact}
use Rattle.protocol_rules.specs.Group.{Group}
use Rattle.protocol_rules.specs.Matrix.{reach}
use Rattle.protocol_rules.specs.Order.{ordered_run}
use Rattle.protocol_rules.specs.Turns.{is_slow_beat}
use Rattle.protocol_rules.specs.Master.{is_summary, last_or, summary_again_due, summary_in}
use Rattle.summary_matrix.specs.Held.{TellsEach}
use Rattle.summary_matrix.proofs.Loops.{any_below}
use Rattle.leader_proposals.specs.Saying.{SummedUp, IsSummaryOf}
use Rattle.leader_proposals.proofs.Summing.{last_or-push}

-- the last of these vectors as a summary
abbrev last_word : List (List ℕ) → List Body
last_word [] = []
last_word (x ∷ rest) = body.PoSummary record { numbers = last_or x rest } ∷ []

last_word-push : (xs : List (List ℕ)) (x : List ℕ) →
    last_word (xs ++ x ∷ []) ≡ body.PoSummary record { numbers = x } ∷ []
last_word-push [] x = refl
last_word-push (y ∷ xs) x = ap (λ ns. body.PoSummary record { numbers = ns } ∷ []) (last_or-push y xs x)

found-last : (words : List Body) →
    option_to_list (find is_summary words) ≡ last_word (filter_map summary_in (reverse words))
found-last [] = refl
found-last (b ∷ rest) =
    by b (found-last rest)
    ∙ ap last_word (sym (ap (filter_map summary_in) (reverse_onto rest b [])
    ∙ filter_map-append summary_in (reverse rest) (b ∷ [])))
  where
    by : (w : Body) → option_to_list (find is_summary rest) ≡ last_word (filter_map summary_in (reverse rest)) →
        option_to_list (find is_summary (w ∷ rest))
        ≡ last_word (filter_map summary_in (reverse rest) ++ filter_map summary_in (w ∷ []))
    by (body.PoSummary s) earlier = sym (last_word-push (filter_map summary_in (reverse rest)) s.numbers)
    by _ earlier = earlier ∙ ap last_word (sym (append-nil (filter_map summary_in (reverse rest))))

-- vectors of zeros tell as little as none
zero-at : (xs : List ℕ) (j : ℕ) → ◌≡◌ {A = ℕ} (get_or (map (λ (x : ℕ). 0) xs) j 0) (get_or [] j 0)
zero-at [] j = refl
zero-at (x ∷ xs) zero = refl
zero-at (x ∷ xs) (suc j) = zero-at xs j

zeros-none : (n : ℕ) (vectors : List (List ℕ)) (j : ℕ) →
    get_or (last_or (map (λ j. 0) (numbers_below n)) vectors) j 0 ≡ get_or (last_or [] vectors) j 0
zeros-none n [] j = zero-at (numbers_below n) j
zeros-none n (x ∷ rest) j = refl

none-above : (f : ℕ → ℕ) (js : List ℕ) → list_any (λ j. nat_lt (f j) (get_or [] j 0)) js ≡ false
none-above f [] = refl
none-above f (j ∷ js) = (λ i. le-ltb (f j) 0 (omega arith) i || none-above f js i)

-- where the last vector tells of more, there is one
last-there : (g : Group) (f : ℕ → ℕ) (first numbers : List ℕ) (vectors : List (List ℕ)) →
    numbers ≡ last_or first vectors →
    list_any (λ j. nat_lt (f j) (get_or (last_or [] vectors) j 0)) (numbers_below g.n) ≡ true →
    body.PoSummary record { numbers = numbers } ∷ [] ≡ last_word vectors
last-there g f first numbers [] is more = absurd (false≢true (sym (none-above f (numbers_below g.n)) ∙ more))
last-there g f first numbers (x ∷ rest) is more = ap (λ ns. body.PoSummary record { numbers = ns } ∷ []) is

at-beat : (at_tick beat more : Bool) (one other : List Body) → (more ≡ true → one ≡ other) →
    cond ((at_tick && beat) && more) one [] ≡ cond (at_tick && beat && more) other []
at-beat false beat more one other same = refl
at-beat true false more one other same = refl
at-beat true true false one other same = refl
at-beat true true true one other same = same refl

-- what is due again
pub again-due : (g : Group) (facts : List OrderFact) (said : List Body) (kept : SummedUp) (ordered numbers : List ℕ)
    (n now : ℕ) (at_tick at_beat more : Bool) → IsSummaryOf g kept said → kept.masters ≡ n →
    kept.numbers ≡ take n numbers → n ≤ 14 → TellsEach ordered (reach g (ordered_run g facts)) →
    at_beat ≡ (at_tick && is_slow_beat now) →
    more ≡ list_any (λ j. nat_lt (get_or ordered j 0) (get_or numbers j 0)) (numbers_below n) →
    cond (at_beat && more) (body.PoSummary record { numbers = kept.numbers } ∷ []) []
    ≡ summary_again_due g facts said now at_tick
again-due g facts said kept ordered numbers n now at_tick at_beat more is masters_is numbers_is few told beat more_is =
    (λ i. cond (beat i && more_here i) (body.PoSummary record { numbers = kept.numbers } ∷ []) [])
    ∙ at-beat at_tick (is_slow_beat now) ahead (body.PoSummary record { numbers = kept.numbers } ∷ [])
    (option_to_list (find is_summary (reverse said)))
    (λ there. last-there g (reach g (ordered_run g facts)) (map (λ j. 0) (numbers_below g.n)) kept.numbers
    (filter_map summary_in said) is.last there
    ∙ sym (found-last (reverse said) ∙ ap (λ words. last_word (filter_map summary_in words)) (reverse-reverse said)))
  where
    ahead : Bool
    ahead = list_any (λ j. nat_lt (reach g (ordered_run g facts) j) (get_or (last_or [] (filter_map summary_in said)) j 0))
        (numbers_below g.n)

    sizes : n ≡ g.n
    sizes = sym (is.masters ∙ masters_is)

    told_at : (j : ℕ) → j < g.n → get_or numbers j 0 ≡ get_or (last_or [] (filter_map summary_in said)) j 0
    told_at j lt =
        let same : n ≡ g.n = sizes in
        sym (get_or-take n numbers j 0 (omega arith)) ∙ ap (λ xs. get_or xs j 0) (sym numbers_is ∙ is.last)
        ∙ zeros-none g.n (filter_map summary_in said) j

    more_here : more ≡ ahead
    more_here =
        let same : n ≡ g.n = sizes in
        more_is
        ∙ ap (λ k. list_any (λ j. nat_lt (get_or ordered j 0) (get_or numbers j 0)) (numbers_below k)) sizes
        ∙ any_below (λ j. nat_lt (get_or ordered j 0) (get_or numbers j 0))
        (λ j. nat_lt (reach g (ordered_run g facts) j) (get_or (last_or [] (filter_map summary_in said)) j 0)) g.n
        (λ j lt. (λ i. nat_lt (told j (omega arith) i) (told_at j lt i)))

pub again-none : (g : Group) (facts : List OrderFact) (said : List Body) (now : ℕ) (at_tick at_beat : Bool) →
    at_beat ≡ (at_tick && is_slow_beat now) → at_beat ≡ false → [] ≡ summary_again_due g facts said now at_tick
again-none g facts said now at_tick at_beat beat not_now =
    by at_tick (is_slow_beat now) (sym beat ∙ not_now)
  where
    more : Bool
    more = list_any (λ j. nat_lt (reach g (ordered_run g facts) j) (get_or (last_or [] (filter_map summary_in said)) j 0))
        (numbers_below g.n)

    by : (a b : Bool) → (a && b) ≡ false →
        [] ≡ cond (a && b && more) (option_to_list (find is_summary (reverse said))) []
    by false b e = refl
    by true false e = refl
    by true true e = absurd (false≢true (sym e))
