-- What a vote or rows change of what is held of each key.
use Rattle.std.proofs.Common.{◌≡◌, ℕ, Bool, true, false, cond, ◌&&◌, ◌||◌, List, [], ◌∷◌, ◌++◌, Option, Some, None}
use Rattle.std.proofs.Common.{is_some, refl, sym, ◌∙◌, ap, true≢false}
use Rattle.std.specs.Str.{bytes_eq}
use Rattle.std.proofs.Math.Bool.{or-false}
use Rattle.std.proofs.lemmas.Bool.{or_parts}
use Rattle.message_types.specs.Digests.{digest_of_rows}
use Rattle.protocol_rules.specs.Words.{or_else}
use Rattle.global_order.specs.Choosing.{has_digest, is_known, IsChosen}
use Rattle.global_order.proofs.Booleans.{list_any-push, bytes-same, or_else-none}

left-false : (a b : Bool) → (a || b) ≡ false → a ≡ false
left-false false b e = refl
left-false true b e = e

-- rows that were known, whose digest is d, change nothing
pub chosen-again : {K : Type 0} (rows : List (List (List ℕ))) (r : List (List ℕ)) (backs : K → List ℕ → Bool)
    (first held : K → Option (List ℕ)) (waits : K → List ℕ → Bool) (has_place : K → Bool) →
    is_known rows (digest_of_rows r) ≡ true → IsChosen rows backs first held waits has_place →
    IsChosen (rows ++ r ∷ []) backs
    (λ k. or_else (first k) (cond (backs k (digest_of_rows r)) (Some (digest_of_rows r)) None)) held waits has_place
chosen-again {K} rows r backs first held waits has_place known is = record {
  choice = λ k. is.choice k ∙ same k;
  waiting = λ k d unknown. is.waiting k d
      (left-false (is_known rows d) (has_digest d r) (sym (list_any-push (has_digest d) rows r) ∙ unknown));
  places = is.places;
  closed = λ k d none. ap (λ b. backs k d && b) (list_any-push (has_digest d) rows r) ∙ by_digest k d (has_digest d r)
      refl ∙ is.closed k d (same k ∙ none);
}
  where
    by_first : (k : K) (o : Option (List ℕ)) → first k ≡ o →
        o ≡ or_else o (cond (backs k (digest_of_rows r)) (Some (digest_of_rows r)) None)
    by_first k (Some d) e = refl
    by_first k None e = ap (λ b. cond b (Some (digest_of_rows r)) None)
        (sym (unbacked (backs k (digest_of_rows r)) (is.closed k (digest_of_rows r) e)))
      where
        unbacked : (b : Bool) → (b && is_known rows (digest_of_rows r)) ≡ false → b ≡ false
        unbacked false p = refl
        unbacked true p = absurd (true≢false (sym known ∙ p))

    same : (k : K) → first k ≡ or_else (first k) (cond (backs k (digest_of_rows r)) (Some (digest_of_rows r)) None)
    same k = by_first k (first k) refl

    by_digest : (k : K) (d : List ℕ) (like : Bool) → has_digest d r ≡ like →
        (backs k d && (is_known rows d || like)) ≡ (backs k d && is_known rows d)
    by_digest k d false e = ap (λ b. backs k d && b) (or-false (is_known rows d))
    by_digest k d true e = ap (λ b. backs k d && b) (ap (λ b. b || true) (there) ∙ sym there)
      where
        there : is_known rows d ≡ true
        there = ap (is_known rows) (sym (bytes-same (digest_of_rows r) d e)) ∙ known

-- rows of a digest that was unknown are chosen where their digest waited
pub chosen-rows-new : {K : Type 0} (rows : List (List (List ℕ))) (r : List (List ℕ)) (backs : K → List ℕ → Bool)
    (first held : K → Option (List ℕ)) (waits waits_after : K → List ℕ → Bool) (has_place : K → Bool)
    (after : K → Option (List ℕ)) (has_place_after : K → Bool) → is_known rows (digest_of_rows r) ≡ false →
    ((k : K) (d : List ℕ) → has_digest d r ≡ false → waits_after k d ≡ waits k d) →
    ((k : K) (d : List ℕ) → waits_after k d ≡ true → waits k d ≡ true) →
    ((k : K) → after k ≡ cond (waits k (digest_of_rows r)) (or_else (held k) (Some (digest_of_rows r))) (held k)) →
    ((k : K) → has_place k ≡ true → has_place_after k ≡ true) →
    IsChosen rows backs first held waits has_place →
    IsChosen (rows ++ r ∷ []) backs
    (λ k. or_else (first k) (cond (backs k (digest_of_rows r)) (Some (digest_of_rows r)) None))
    after waits_after has_place_after
chosen-rows-new {K} rows r backs first held waits waits_after has_place after has_place_after unknown left
    fewer takes keeps is = record {
      choice = λ k. takes k ∙ ap (λ b. cond b (or_else (held k) (Some (digest_of_rows r))) (held k))
          (is.waiting k (digest_of_rows r) unknown)
          ∙ ap (λ o. cond (backs k (digest_of_rows r)) (or_else o (Some (digest_of_rows r))) o) (is.choice k)
          ∙ same (backs k (digest_of_rows r)) (first k);
      waiting = λ k d none. let parts =
          or_parts (is_known rows d) (has_digest d r) (sym (list_any-push (has_digest d) rows r) ∙ none) in
          left k d parts.1 ∙ is.waiting k d parts.0;
      places = λ k d waits. keeps k (is.places k d (fewer k d waits));
      closed = λ k d none. ap (λ b. backs k d && b) (list_any-push (has_digest d) rows r)
          ∙ by (backs k d) (is_known rows d) (has_digest d r) (is.closed k d (first-none (first k) _ none))
          (λ like. ap (backs k) (sym (bytes-same (digest_of_rows r) d like))
          ∙ not-backed (first k) (backs k (digest_of_rows r)) none);
    }
  where
    same : (b : Bool) (o : Option (List ℕ)) → cond b (or_else o (Some (digest_of_rows r))) o ≡ or_else o
        (cond b (Some (digest_of_rows r)) None)
    same true o = refl
    same false o = sym (or_else-none o)

    first-none : (o p : Option (List ℕ)) → or_else o p ≡ None → o ≡ None
    first-none None p e = refl
    first-none (Some d) p e = e

    not-backed : (o : Option (List ℕ)) (b : Bool) → or_else o (cond b (Some (digest_of_rows r)) None) ≡ None → b ≡ false
    not-backed (Some d) b e = absurd (true≢false (ap is_some e))
    not-backed None false e = refl
    not-backed None true e = absurd (true≢false (ap is_some e))

    by : (back known like : Bool) → (back && known) ≡ false → (like ≡ true → back ≡ false) →
        (back && (known || like)) ≡ false
    by false known like e never = refl
    by true true like e never = e
    by true false false e never = refl
    by true false true e never = absurd (true≢false (never refl))

-- a digest that gets a quorum is chosen where its rows are known
pub chosen-backed : {K : Type 0} (same : K → K → Bool) (rows : List (List (List ℕ))) (key : K) (d : List ℕ)
    (backs backs_after : K → List ℕ → Bool) (first first_after held : K → Option (List ℕ)) (waits : K → List ℕ → Bool)
    (has_place : K → Bool)
    (after : K → Option (List ℕ)) (has_place_after : K → Bool) → is_known rows d ≡ true →
    ((k : K) (e : List ℕ) → backs_after k e ≡ (backs k e || (same key k && bytes_eq d e))) →
    ((k : K) → first_after k ≡ or_else (first k) (cond (same key k) (Some d) None)) →
    ((k : K) → after k ≡ cond (same key k) (or_else (held k) (Some d)) (held k)) →
    ((k : K) → has_place k ≡ true → has_place_after k ≡ true) →
    IsChosen rows backs first held waits has_place → IsChosen rows backs_after first_after after waits has_place_after
chosen-backed {K} same rows key d backs backs_after first first_after held waits has_place after has_place_after known
    backed firsts takes keeps is = record {
      choice = λ k. takes k ∙ ap (λ o. cond (same key k) (or_else o (Some d)) o) (is.choice k)
          ∙ alike (same key k) (first k) ∙ sym (firsts k);
      waiting = λ k e none. is.waiting k e none
          ∙ sym (backed k e ∙ ap (λ b. backs k e || (same key k && b)) (apart e none) ∙ nothing (backs k e) (same key k));
      places = λ k e waits. keeps k (is.places k e waits);
      closed = λ k e none. ap (λ b. b && is_known rows e) (backed k e) ∙ by (same key k) (backs k e) (bytes_eq d e)
          (is_known rows e) (first k) (sym (firsts k) ∙ none) (is.closed k e);
    }
  where
    alike : (b : Bool) (o : Option (List ℕ)) → cond b (or_else o (Some d)) o ≡ or_else o (cond b (Some d) None)
    alike true o = refl
    alike false o = sym (or_else-none o)

    nothing : (a b : Bool) → (a || (b && false)) ≡ a
    nothing true true = refl
    nothing true false = refl
    nothing false true = refl
    nothing false false = refl

    apart : (e : List ℕ) → is_known rows e ≡ false → bytes_eq d e ≡ false
    apart e none = on (bytes_eq d e) refl
      where
        on : (b : Bool) → bytes_eq d e ≡ b → b ≡ false
        on false is = refl
        on true is = absurd (true≢false (sym known ∙ ap (is_known rows) (bytes-same d e is) ∙ none))

    by : (here back like there : Bool) (o : Option (List ℕ)) → or_else o (cond here (Some d) None) ≡ None →
        (o ≡ None → (back && there) ≡ false) → ((back || (here && like)) && there) ≡ false
    by true back like there None e closed = absurd (true≢false (ap is_some e))
    by true back like there (Some x) e closed = absurd (true≢false (ap is_some e))
    by false back like there o e closed = ap (λ b. b && there) (or-false back) ∙ closed (sym (or_else-none o) ∙ e)

-- and waits where they are not
pub chosen-waits : {K : Type 0} (same : K → K → Bool) (rows : List (List (List ℕ))) (key : K) (d : List ℕ)
    (backs backs_after : K → List ℕ → Bool) (first first_after held : K → Option (List ℕ)) (waits waits_after : K →
    List ℕ → Bool) (has_place : K → Bool)
    (after : K → Option (List ℕ)) (has_place_after : K → Bool) → is_known rows d ≡ false →
    ((k : K) (e : List ℕ) → backs_after k e ≡ (backs k e || (same key k && bytes_eq d e))) →
    ((k : K) → first_after k ≡ first k) → ((k : K) → after k ≡ held k) →
    ((k : K) (e : List ℕ) → waits_after k e ≡ (waits k e || (same key k && bytes_eq d e))) →
    ((k : K) → has_place k ≡ true → has_place_after k ≡ true) →
    ((k : K) → same key k ≡ true → has_place_after k ≡ true) →
    IsChosen rows backs first held waits has_place →
    IsChosen rows backs_after first_after after waits_after has_place_after
chosen-waits {K} same rows key d backs backs_after first first_after held waits waits_after has_place after
    has_place_after unknown backed firsts stays waiting keeps makes is = record {
      choice = λ k. stays k ∙ is.choice k ∙ sym (firsts k);
      waiting = λ k e none. waiting k e ∙ ap (λ b. b || (same key k && bytes_eq d e)) (is.waiting k e none)
          ∙ sym (backed k e);
      places = λ k e w. place k (waits k e) (same key k) (bytes_eq d e) (is.places k e) (makes k) (sym (waiting k e) ∙ w);
      closed = λ k e none. ap (λ b. b && is_known rows e) (backed k e) ∙ by e (backs k e) (same key k) (bytes_eq d e) refl
          (is.closed k e (sym (firsts k) ∙ none));
    }
  where
    place : (k : K) (w here like : Bool) → (w ≡ true → has_place k ≡ true) →
        (here ≡ true → has_place_after k ≡ true) → (w || (here && like)) ≡ true → has_place_after k ≡ true
    place k true here like before new e = keeps k (before refl)
    place k false true like before new e = new refl
    place k false false like before new e = absurd (true≢false (sym e))

    by : (e : List ℕ) (back here like : Bool) → bytes_eq d e ≡ like → (back && is_known rows e) ≡ false →
        ((back || (here && like)) && is_known rows e) ≡ false
    by e true here like is closed = closed
    by e false false like is closed = refl
    by e false true false is closed = refl
    by e false true true is closed = ap (is_known rows) (sym (bytes-same d e is)) ∙ unknown
