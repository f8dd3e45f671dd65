-- What a master lacks, collected request by request, and master by master.
use Rattle.std.proofs.Common.{◌≡◌, ℕ, ◌+◌, ◌-◌, ◌≤◌, List, [], ◌∷◌, ◌++◌, sym, ◌∙◌, ap, arith}
use Rattle.std.specs.List.{flat_map}
use Rattle.std.proofs.lemmas.List.{append-nil, append_assoc}
use Rattle.std.proofs.lemmas.Grind.{flat_map-append}
use Rattle.message_types.specs.declared.signed.Signed.{Signed}
use Rattle.message_types.specs.declared.body.Body.{Body}
use Rattle.quorum_sets.specs.Masters.{numbers_below}
use Rattle.quorum_sets.proofs.Numbered.{below_none_at, below_one_more}
use Rattle.protocol_rules.specs.Words.{numbers_from}
use Rattle.protocol_rules.specs.Group.{Group}
use Rattle.protocol_rules.proofs.Numbers.{numbers_from-more, numbers_from-none}
use Rattle.reconcile.specs.declared.wanted.Wanted.{Wanted}
use Rattle.reconcile.specs.Lacked.{lacking_of}

-- lists one after the other, of the numbers after a first one up to k
abbrev pub listed : (ℕ → List Wanted) → ℕ → ℕ → List Wanted
listed f first k = flat_map f (numbers_from (first + 1) (k - first))

pub listed_none : (f : ℕ → List Wanted) (first k : ℕ) → k ≤ first → listed f first k ≡ []
listed_none f first k past =
    let none : k - first ≡ 0 = omega arith in
    ap (λ n. flat_map f (numbers_from (first + 1) n)) none ∙ ap (flat_map f) (numbers_from-none (first + 1))

pub listed_more : (f : ℕ → List Wanted) (first k : ℕ) → first ≤ k →
    listed f first (k + 1) ≡ listed f first k ++ f (k + 1)
listed_more f first k up =
    let count : k + 1 - first ≡ (k - first) + 1 = omega arith in
    let last : first + 1 + (k - first) ≡ k + 1 = omega arith in
    ap (λ n. flat_map f (numbers_from (first + 1) n)) count
    ∙ ap (flat_map f) (numbers_from-more (first + 1) (k - first))
    ∙ flat_map-append f (numbers_from (first + 1) (k - first)) ((first + 1 + (k - first)) ∷ [])
    ∙ ap (λ xs. listed f first k ++ xs) (append-nil (f (first + 1 + (k - first))))
    ∙ ap (λ n. listed f first k ++ f n) last

-- one request more
pub pushed_one : (f : ℕ → List Wanted) (first k : ℕ) (start before now one : List Wanted) → first ≤ k →
    before ≡ start ++ listed f first k → one ≡ f (k + 1) → now ≡ before ++ one → now ≡ start ++ listed f first (k + 1)
pushed_one f first k start before now one up was is pushed =
    pushed ∙ ap (λ xs. xs ++ one) was ∙ ap (λ xs. (start ++ listed f first k) ++ xs) is
    ∙ append_assoc start (listed f first k) (f (k + 1)) ∙ ap (λ xs. start ++ xs) (sym (listed_more f first k up))

-- all up to a number, by a function that gives the same
pub all_listed : (f h : ℕ → List Wanted) (first last to v : ℕ) (start list : List Wanted) →
    list ≡ start ++ listed f first last → last - first ≡ to - first → first ≡ v → ((k : ℕ) → f k ≡ h k) →
    list ≡ start ++ flat_map h (numbers_from (v + 1) (to - v))
all_listed f h first last to v start list is count at same =
    is ∙ ap (λ n. start ++ flat_map f (numbers_from (first + 1) n)) count
    ∙ ap (λ w. start ++ flat_map f (numbers_from (w + 1) (to - w))) at
    ∙ (λ i. start ++ flat_map (λ k. same k i) (numbers_from (v + 1) (to - v)))

-- those of one master more
pub pushed_master : (g : Group) (known : List (Signed Body)) (to : ℕ → ℕ) (j : ℕ) (before now one : List Wanted) →
    before ≡ flat_map (lacking_of g known to) (numbers_below j) → one ≡ lacking_of g known to j → now ≡ before ++ one →
    now ≡ flat_map (lacking_of g known to) (numbers_below (j + 1))
pushed_master g known to j before now one was is pushed =
    pushed ∙ ap (λ xs. xs ++ one) was
    ∙ ap (λ xs. flat_map (lacking_of g known to) (numbers_below j) ++ xs) (is ∙ sym (append-nil (lacking_of g known to j)))
    ∙ sym (ap (flat_map (lacking_of g known to)) (below_one_more j)
    ∙ flat_map-append (lacking_of g known to) (numbers_below j) (j ∷ []))

pub no_master : (g : Group) (known : List (Signed Body)) (to : ℕ → ℕ) →
    [] ≡ flat_map (lacking_of g known to) (numbers_below 0)
no_master g known to = sym (ap (flat_map (lacking_of g known to)) below_none_at)
