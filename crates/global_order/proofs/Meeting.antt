-- The rows of whose digest there first was a quorum, for any kind of quorum: `backs` says which digests have one.
use Rattle.std.proofs.Common.{◌≡◌, ℕ, Bool, true, false, cond, ◌||◌, List, [], ◌∷◌, ◌++◌, Option, Some, None, is_some}
use Rattle.std.proofs.Common.{refl, sym, ◌∙◌, ap, append_assoc, true≢false}
use Rattle.std.specs.List.{find, flat_map}
use Rattle.std.specs.Option.{option_map}
use Rattle.std.specs.Str.{bytes_eq}
use Rattle.std.proofs.lemmas.List.{append-nil}
use Rattle.std.proofs.lemmas.Grind.{flat_map-append}
use Rattle.message_types.specs.Digests.{digest_of_rows}
use Rattle.protocol_rules.specs.declared.facts.OrderFact.{OrderFact}
use Rattle.protocol_rules.specs.Words.{or_else, first_met}
use Rattle.protocol_rules.specs.Facts.{rows_in, rows_known}
use Rattle.global_order.specs.Choosing.{has_digest, is_known}
use Rattle.global_order.proofs.Booleans.{bytes-same, bytes-alike, bytes-swap, or_else-none, option_map-or_else}
use Rattle.global_order.proofs.Booleans.{find-append, find-passes}
use Rattle.protocol_rules.proofs.FirstMet.{first_met-none, first_met-push}

pub rows_known-push : (facts : List OrderFact) (x : OrderFact) →
    rows_known (facts ++ x ∷ []) ≡ rows_known facts ++ rows_in x
unfolding rows_known
rows_known-push facts x = flat_map-append rows_in facts (x ∷ []) ∙ ap (λ rows. flat_map rows_in facts ++ rows)
    (append-nil (rows_in x))

-- of these rows the first whose digest is backed
abbrev pub first_backed : (List ℕ → Bool) → List (List (List ℕ)) → Option (List (List ℕ))
first_backed backs rows = find (λ r. backs (digest_of_rows r)) rows

-- the rows of whose digest there first was a quorum
abbrev pub chosen : (List OrderFact → List ℕ → Bool) → List OrderFact → Option (List (List ℕ))
chosen backs facts = first_met (λ beginning. first_backed (backs beginning) (rows_known beginning)) [] facts

pub chosen-push : (backs : List OrderFact → List ℕ → Bool) (facts : List OrderFact) (x : OrderFact) →
    chosen backs (facts ++ x ∷ []) ≡ or_else (chosen backs facts)
    (first_backed (backs (facts ++ x ∷ [])) (rows_known facts ++ rows_in x))
chosen-push backs facts x =
    first_met-push (λ beginning. first_backed (backs beginning) (rows_known beginning)) [] facts x
    ∙ ap (λ rows. or_else (chosen backs facts) (first_backed (backs (facts ++ x ∷ [])) rows)) (rows_known-push facts x)

pub chosen-none : (backs : List OrderFact → List ℕ → Bool) (facts : List OrderFact) → chosen backs facts ≡ None →
    first_backed (backs facts) (rows_known facts) ≡ None
chosen-none backs facts none =
    first_met-none (λ beginning. first_backed (backs beginning) (rows_known beginning)) [] facts none

-- rows alone make rows chosen whose digest was backed
pub chosen-rows : (backs : List OrderFact → List ℕ → Bool) (facts : List OrderFact) (x : OrderFact) →
    ((d : List ℕ) → backs (facts ++ x ∷ []) d ≡ backs facts d) →
    option_map digest_of_rows (chosen backs (facts ++ x ∷ [])) ≡ or_else
    (option_map digest_of_rows (chosen backs facts))
    (option_map digest_of_rows (first_backed (backs facts) (rows_in x)))
chosen-rows backs facts x same =
    ap (option_map digest_of_rows)
    (chosen-push backs facts x
    ∙ (λ i. or_else (chosen backs facts) (first_backed (λ d. same d i) (rows_known facts ++ rows_in x)))
    ∙ by (chosen backs facts) refl)
    ∙ option_map-or_else digest_of_rows (chosen backs facts) (first_backed (backs facts) (rows_in x))
  where
    by : (o : Option (List (List ℕ))) → chosen backs facts ≡ o →
        or_else o (first_backed (backs facts) (rows_known facts ++ rows_in x)) ≡ or_else o
        (first_backed (backs facts) (rows_in x))
    by (Some rows) e = refl
    by None e = find-append (λ r. backs facts (digest_of_rows r)) (rows_known facts) (rows_in x)
        ∙ ap (λ o. or_else o (first_backed (backs facts) (rows_in x))) (chosen-none backs facts e)

-- where nothing changes, nothing is chosen
pub chosen-same : (backs : List OrderFact → List ℕ → Bool) (facts : List OrderFact) (x : OrderFact) → rows_in x ≡ [] →
    ((d : List ℕ) → backs (facts ++ x ∷ []) d ≡ backs facts d) →
    option_map digest_of_rows (chosen backs (facts ++ x ∷ [])) ≡ option_map digest_of_rows (chosen backs facts)
chosen-same backs facts x none same =
    chosen-rows backs facts x same
    ∙ ap (λ rows. or_else (option_map digest_of_rows (chosen backs facts))
    (option_map digest_of_rows (first_backed (backs facts) rows))) none
    ∙ or_else-none (option_map digest_of_rows (chosen backs facts))

-- where one digest is backed now and nothing was found before, what is found has this digest
newly : (before now : List ℕ → Bool) (d : List ℕ) → now d ≡ true →
    ((e : List ℕ) → bytes_eq d e ≡ false → now e ≡ before e) → (rows : List (List (List ℕ))) →
    first_backed before rows ≡ None →
    option_map digest_of_rows (first_backed now rows) ≡ cond (is_known rows d) (Some d) None
newly before now d back others [] none = refl
newly before now d back others (r ∷ rest) none = by (has_digest d r) refl (before (digest_of_rows r)) refl none
    (newly before now d back others rest)
  where
    by : (is : Bool) → has_digest d r ≡ is → (was : Bool) → before (digest_of_rows r) ≡ was →
        cond was (Some r) (first_backed before rest) ≡ None →
        (first_backed before rest ≡ None → option_map digest_of_rows (first_backed now rest) ≡ cond
        (is_known rest d) (Some d) None) →
        option_map digest_of_rows (cond (now (digest_of_rows r)) (Some r) (first_backed now rest)) ≡ cond
        (is || is_known rest d) (Some d) None
    by is like true e none more = absurd (true≢false (ap is_some none))
    by true like false e none more =
        let same : digest_of_rows r ≡ d = bytes-same (digest_of_rows r) d like in
        ap (λ b. option_map digest_of_rows (cond b (Some r) (first_backed now rest))) (ap now same ∙ back)
        ∙ ap Some same
    by false unlike false e none more =
        ap (λ b. option_map digest_of_rows (cond b (Some r) (first_backed now rest)))
        (others (digest_of_rows r) (bytes-swap d (digest_of_rows r) ∙ unlike) ∙ e) ∙ more none

pub chosen-newly : (backs : List OrderFact → List ℕ → Bool) (facts : List OrderFact) (x : OrderFact) (d : List ℕ) →
    rows_in x ≡ [] → backs (facts ++ x ∷ []) d ≡ true →
    ((e : List ℕ) → bytes_eq d e ≡ false → backs (facts ++ x ∷ []) e ≡ backs facts e) →
    option_map digest_of_rows (chosen backs (facts ++ x ∷ [])) ≡ or_else
    (option_map digest_of_rows (chosen backs facts)) (cond (is_known (rows_known facts) d) (Some d) None)
chosen-newly backs facts x d none back others =
    ap (option_map digest_of_rows)
    (chosen-push backs facts x
    ∙ ap (λ rows. or_else (chosen backs facts)
    (first_backed (backs (facts ++ x ∷ [])) (rows_known facts ++ rows))) none
    ∙ ap (λ rows. or_else (chosen backs facts) (first_backed (backs (facts ++ x ∷ [])) rows))
    (append-nil (rows_known facts)))
    ∙ option_map-or_else digest_of_rows (chosen backs facts) (first_backed (backs (facts ++ x ∷ [])) (rows_known facts))
    ∙ by (chosen backs facts) refl
  where
    by : (o : Option (List (List ℕ))) → chosen backs facts ≡ o →
        or_else (option_map digest_of_rows o)
        (option_map digest_of_rows (first_backed (backs (facts ++ x ∷ [])) (rows_known facts))) ≡ or_else
        (option_map digest_of_rows o) (cond (is_known (rows_known facts) d) (Some d) None)
    by (Some rows) e = refl
    by None e = newly (backs facts) (backs (facts ++ x ∷ [])) d back others (rows_known facts)
        (chosen-none backs facts e)

-- the rows chosen are the first known of their digest
first-of-digest : (backs : List ℕ → Bool) (rows : List (List (List ℕ))) (r : List (List ℕ)) →
    first_backed backs rows ≡ Some r → find (has_digest (digest_of_rows r)) rows ≡ Some r
first-of-digest backs [] r found = absurd (true≢false (sym (ap is_some found)))
first-of-digest backs (x ∷ rest) r found = by (backs (digest_of_rows x)) refl (has_digest (digest_of_rows r) x)
    refl found (first-of-digest backs rest r)
  where
    by : (b : Bool) → backs (digest_of_rows x) ≡ b → (like : Bool) → has_digest (digest_of_rows r) x ≡ like →
        cond b (Some x) (first_backed backs rest) ≡ Some r →
        (first_backed backs rest ≡ Some r → find (has_digest (digest_of_rows r)) rest ≡ Some r) →
        cond like (Some x) (find (has_digest (digest_of_rows r)) rest) ≡ Some r
    by true back true is found more = found
    by true back false is found more =
        let same : x ≡ r = cc in absurd
        (true≢false (sym (bytes-alike (digest_of_rows x) (digest_of_rows r) (ap digest_of_rows same)) ∙ is))
    by false back true is found more =
        absurd (true≢false (sym (find-passes (λ y. backs (digest_of_rows y)) rest r found)
        ∙ ap backs (sym (bytes-same (digest_of_rows x) (digest_of_rows r) is)) ∙ back))
    by false back false is found more = more found

met-at : {F X : Type 0} (met : List F → Option X) (P : List F → X → Type 0) →
    ((all : List F) (x : X) → met all ≡ Some x → P all x) →
    ((all : List F) (y : F) (x : X) → P all x → P (all ++ y ∷ []) x) →
    (seen known : List F) (x : X) → first_met met seen known ≡ Some x → P (seen ++ known) x
unfolding first_met
met-at met P here stays seen [] x found = let all : seen ++ [] ≡ seen = append-nil seen in rw all (here seen x found)
met-at {F} {X} met P here stays seen (y ∷ known) x found =
    by (met seen) refl found (met-at met P here stays (seen ++ y ∷ []) known x)
  where
    on : (all rest : List F) → P all x → P (all ++ rest) x
    on all [] p = let e : all ++ [] ≡ all = append-nil all in rw e p
    on all (z ∷ rest) p = let e : all ++ z ∷ rest ≡ (all ++ z ∷ []) ++ rest = sym (append_assoc all (z ∷ []) rest) in
        rw e (on (all ++ z ∷ []) rest (stays all z x p))

    by : (o : Option X) → met seen ≡ o → or_else o (first_met met (seen ++ y ∷ []) known) ≡ Some x →
        (first_met met (seen ++ y ∷ []) known ≡ Some x → P ((seen ++ y ∷ []) ++ known) x) → P (seen ++ y ∷ known) x
    by None e found more = let all : seen ++ y ∷ known ≡ (seen ++ y ∷ []) ++ known =
        sym (append_assoc seen (y ∷ []) known) in rw all (more found)
    by (Some z) e found more = on seen (y ∷ known) (here seen x (e ∙ found))

pub chosen-known : (backs : List OrderFact → List ℕ → Bool) (facts : List OrderFact) (r : List (List ℕ)) →
    chosen backs facts ≡ Some r → find (has_digest (digest_of_rows r)) (rows_known facts) ≡ Some r
chosen-known backs facts r found =
    met-at (λ beginning. first_backed (backs beginning) (rows_known beginning))
    (λ (all : List OrderFact) (x : List (List ℕ)). find (has_digest (digest_of_rows x)) (rows_known all) ≡ Some x)
    (λ all x e. first-of-digest (backs all) (rows_known all) x e)
    (λ all y x e. ap (find (has_digest (digest_of_rows x))) (rows_known-push all y)
    ∙ find-append (has_digest (digest_of_rows x)) (rows_known all) (rows_in y)
    ∙ ap (λ o. or_else o (find (has_digest (digest_of_rows x)) (rows_in y))) e)
    [] facts r found
