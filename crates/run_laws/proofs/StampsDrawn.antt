-- Stamps that are drawn one after another.
use Rattle.std.proofs.Common.{◌≡◌, ℕ, ◌+◌, ◌<◌, List, [], ◌∷◌, ◌++◌, length, map, All, refl, sym, ◌∙◌, ap, subst, arith}
use Rattle.std.proofs.Common.{append-nil, append_assoc}
use Rattle.std.proofs.lemmas.List.{length_push, map-append}
use Rattle.std.proofs.lemmas.List.Elements.{All-push}
use Rattle.history_rules.specs.Events.{Entry}
use Rattle.stamps.specs.Seats.{times, IsEachOnce}
use Rattle.stamps.proofs.Counts.{times_none, times-append, once_none, once_more}
use Rattle.world_history.specs.State.{BenchState}
use Rattle.world_history.specs.Benches.{lists_of}
use Rattle.station_turns.specs.Laws.{stamps_in, stamps_of}

pub none_drawn : IsEachOnce 0 []
none_drawn = record { once = λ x. times_none x ∙ sym (once_none x); count = refl }

-- the next one
pub one_drawn : (n : ℕ) (xs : List ℕ) → IsEachOnce n xs → IsEachOnce (n + 1) (xs ++ n ∷ [])
one_drawn n xs each = record {
  once = λ x. times-append x xs (n ∷ []) ∙ ap (λ (k : ℕ). k + times x (n ∷ [])) (each.once x) ∙ sym (once_more n x);
  count = length_push xs n ∙ ap (λ (k : ℕ). k + 1) each.count;
}

-- those of a list with one entry more
pub stamps_push : (list : List Entry) (e : Entry) (stamp : ℕ) → e.stamp ≡ stamp →
    stamps_in (list ++ e ∷ []) ≡ stamps_in list ++ stamp ∷ []
stamps_push list e stamp is =
    map-append (λ (x : Entry). x.stamp) list (e ∷ []) ∙ ap (λ (n : ℕ). stamps_in list ++ n ∷ []) is

-- all are below the next
pub low_push : (n : ℕ) (xs : List ℕ) → All (λ x. x < n) xs → All (λ x. x < n + 1) (xs ++ n ∷ [])
low_push n xs low =
    All-push (λ x. x < n + 1) xs n (λ k d inside. let less = low k d inside in omega (arith, less)) (omega arith)

-- those of one list more
pub stamps_of_push : (benches : List BenchState) (b : BenchState) →
    stamps_of (lists_of (benches ++ b ∷ [])) ≡ stamps_of (lists_of benches) ++ stamps_in b.list
stamps_of_push [] b = append-nil (stamps_in b.list)
stamps_of_push (x ∷ rest) b =
    ap (λ (xs : List ℕ). stamps_in x.list ++ xs) (stamps_of_push rest b)
    ∙ sym (append_assoc (stamps_in x.list) (stamps_of (lists_of rest)) (stamps_in b.list))
