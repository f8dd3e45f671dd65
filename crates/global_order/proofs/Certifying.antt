-- Certificates: the least digest with a quorum, in the highest view that has one.
use Rattle.std.proofs.Common.{◌≡◌, ℕ, suc, ◌+◌, ◌-◌, ◌≤◌, ◌<◌, true, false, cond, ◌&&◌, List, [], ◌∷◌, ◌++◌}
use Rattle.std.proofs.Common.{Option, Some, None, is_some, refl, sym, ◌∙◌, ap, arith, true≢false}
use Rattle.std.specs.Prelude.{Result, Ok, Err, IfOk}
use Rattle.std.specs.List.{find, filter_map, cons_option}
use Rattle.std.specs.Option.{option_map, option_and_then, option_to_list}
use Rattle.std.specs.Str.{bytes_eq}
use Rattle.std.proofs.lemmas.Bool.{ne_eqb}
use Rattle.std.proofs.lemmas.List.Elements.{filter_map-append}
use Rattle.indexmap.specs.IndexMap.{get}
use Rattle.message_types.specs.declared.signed.Signed.{Signed}
use Rattle.message_types.specs.declared.ordering.Prepare.{Prepare}
use Rattle.message_types.specs.declared.ordering.Certificate.{Certificate}
use Rattle.message_types.specs.Digests.{digest_of_rows}
use Rattle.protocol_rules.specs.declared.facts.OrderFact.{OrderFact}
use Rattle.protocol_rules.specs.Words.{or_else, last_below, numbers_from}
use Rattle.protocol_rules.specs.Group.{Group}
use Rattle.protocol_rules.specs.Facts.{rows_known}
use Rattle.protocol_rules.specs.Order.{prepare_by, mark_by, is_voted, marks_for, marks_at, quorum_of, prepared}
use Rattle.protocol_rules.specs.Order.{least_prepared, certificate_of, certificate_at, last_certificate}
use Rattle.global_order.specs.Choosing.{has_digest, is_known, IsLeast}
use Rattle.global_order.specs.Index.{Map, HasRows, given, prepares_in, prepared_in}
use Rattle.global_order.proofs.Booleans.{bytes-same, find-passes, option_map-none}
use Rattle.global_order.proofs.Given.{option-list}
use Rattle.global_order.proofs.Least.{least-rows}
use Rattle.global_order.proofs.Meeting.{chosen-known}
use Rattle.protocol_rules.proofs.Numbers.{numbers_from-suc}

least-is : (g : Group) (facts : List OrderFact) (v s : ℕ) (least : Option (List ℕ)) →
    IsLeast (λ d. prepares_in g facts (v, s) d && is_known (rows_known facts) d) least →
    least_prepared g facts v s ≡ option_and_then (λ d. find (has_digest d) (rows_known facts)) least
least-is g facts v s least is = least-rows (prepares_in g facts (v, s)) (rows_known facts) least is

pub certificate-none : (g : Group) (facts : List OrderFact) (v s : ℕ) (held : Option (List ℕ)) →
    IsLeast (λ d. prepares_in g facts (v, s) d && is_known (rows_known facts) d) held → None ≡ held →
    None ≡ option_map (certificate_of g facts s v) (least_prepared g facts v s)
certificate-none g facts v s held is e =
    sym (ap (option_map (certificate_of g facts s v))
    (least-is g facts v s held is ∙ ap (option_and_then (λ d. find (has_digest d) (rows_known facts))) (sym e)))

-- the rows of the least digest held are those that the least certificate has
pub least-found : (g : Group) (facts : List OrderFact) (v s : ℕ) (d : List ℕ) (held : Option (List ℕ)) →
    IsLeast (λ d. prepares_in g facts (v, s) d && is_known (rows_known facts) d) held → Some d ≡ held →
    find (has_digest d) (rows_known facts) ≡ least_prepared g facts v s
least-found g facts v s d held is e =
    sym (least-is g facts v s held is ∙ ap (option_and_then (λ d. find (has_digest d) (rows_known facts))) (sym e))

-- those of the digest held as the first are those that were prepared first
prepared-known : (g : Group) (facts : List OrderFact) (v s : ℕ) (rows : List (List ℕ)) →
    prepared g facts v s ≡ Some rows → find (has_digest (digest_of_rows rows)) (rows_known facts) ≡ Some rows
unfolding prepared
prepared-known g facts v s rows e = chosen-known (λ beginning d. is_voted g (prepare_by v s d) beginning) facts rows e

pub first-found : (g : Group) (facts : List OrderFact) (v s : ℕ) (d : List ℕ) → Some d ≡ prepared_in g facts (v, s) →
    find (has_digest d) (rows_known facts) ≡ prepared g facts v s
first-found g facts v s d e = by (prepared g facts v s) refl e
  where
    by : (o : Option (List (List ℕ))) → prepared g facts v s ≡ o → Some d ≡ option_map digest_of_rows o →
        find (has_digest d) (rows_known facts) ≡ o
    by None is none = absurd (true≢false (ap is_some none))
    by (Some rows) is some =
        let same : d ≡ digest_of_rows rows = cc in
        ap (λ x. find (has_digest x) (rows_known facts)) same ∙ prepared-known g facts v s rows is

pub first-none : (g : Group) (facts : List OrderFact) (v s : ℕ) → None ≡ prepared_in g facts (v, s) →
    None ≡ certificate_at g facts s v
first-none g facts v s e =
    sym (ap (option_map (certificate_of g facts s v)) (option_map-none digest_of_rows (prepared g facts v s) (sym e)))

-- the certificate of a digest, where its rows aren't known and where they are
pub certificate-lost : (g : Group) (facts : List OrderFact) (v s : ℕ) (d : List ℕ)
    (map : Map (List ℕ) (List (List ℕ))) → HasRows (rows_known facts) map → None ≡ get bytes_eq map d →
    None ≡ option_map (certificate_of g facts s v) (find (has_digest d) (rows_known facts))
certificate-lost g facts v s d map has none =
    sym (ap (option_map (certificate_of g facts s v)) (sym (has d) ∙ sym none))

pub certificate-found : (g : Group) (facts : List OrderFact) (v s : ℕ) (d : List ℕ)
    (map : Map (List ℕ) (List (List ℕ))) (rows : List (List ℕ)) (prepares : List (Signed Prepare)) →
    HasRows (rows_known facts) map → Some rows ≡ get bytes_eq map d → prepares ≡ quorum_of g (prepare_by v s d) facts →
    Some record { s = s; v = v; rows = rows; prepares = prepares } ≡ option_map (certificate_of g facts s v)
    (find (has_digest d) (rows_known facts))
certificate-found g facts v s d map rows prepares has found are =
    let there : find (has_digest d) (rows_known facts) ≡ Some rows = sym (has d) ∙ sym found in
    let same : digest_of_rows rows ≡ d =
    bytes-same (digest_of_rows rows) d (find-passes (has_digest d) (rows_known facts) rows there) in
    (λ i. Some record {
      s = s;
      v = v;
      rows = rows;
      prepares =
          (are ∙ ap (λ (x : List ℕ). quorum_of g (prepare_by v s x) facts) (sym same)) i;
    })
    ∙ sym (ap (option_map (certificate_of g facts s v)) there)

pub last-step : (g : Group) (facts : List OrderFact) (v s : ℕ) (here : Option Certificate) → 0 < v →
    here ≡ option_map (certificate_of g facts s (v - 1)) (least_prepared g facts (v - 1) s) → is_some here ≡ false →
    last_certificate g facts (v - 1) s ≡ last_certificate g facts v s
unfolding last_certificate last_below
last-step g facts v s None positive e none =
    let more : v ≡ suc (v - 1) = omega arith in
    ap (λ o. or_else o (last_below (λ w. option_map (certificate_of g facts s w) (least_prepared g facts w s))
    (v - 1))) e
    ∙ ap (last_below (λ w. option_map (certificate_of g facts s w) (least_prepared g facts w s))) (sym more)
last-step g facts v s (Some c) positive e none = absurd (true≢false none)

pub last-found : (g : Group) (facts : List OrderFact) (v s : ℕ) (here : Option Certificate) → 0 < v →
    here ≡ option_map (certificate_of g facts s (v - 1)) (least_prepared g facts (v - 1) s) → is_some here ≡ true →
    here ≡ last_certificate g facts v s
unfolding last_certificate last_below
last-found g facts v s None positive e there = absurd (true≢false (sym there))
last-found g facts v s (Some c) positive e there =
    let more : v ≡ suc (v - 1) = omega arith in
    ap (λ o. or_else o (last_below (λ w. option_map (certificate_of g facts s w) (least_prepared g facts w s))
    (v - 1))) e
    ∙ ap (last_below (λ w. option_map (certificate_of g facts s w) (least_prepared g facts w s))) (sym more)

pub last-none : (g : Group) (facts : List OrderFact) (s : ℕ) → None ≡ last_certificate g facts 0 s
unfolding last_certificate last_below
last-none g facts s = refl

-- one number more
pub filter_map-more : {X : Type 0} (f : ℕ → Option X) (low at : ℕ) → low ≤ at →
    filter_map f (numbers_from low (at - low)) ++ option_to_list (f at) ≡ filter_map f (numbers_from low (at + 1 - low))
filter_map-more f low at le =
    let one : at + 1 - low ≡ suc (at - low) = omega arith in
    let here : low + (at - low) ≡ at = omega arith in
    sym (ap (λ n. filter_map f (numbers_from low n)) one ∙ ap (filter_map f) (numbers_from-suc low (at - low))
    ∙ filter_map-append f (numbers_from low (at - low)) ((low + (at - low)) ∷ [])
    ∙ ap (λ xs. filter_map f (numbers_from low (at - low)) ++ xs)
    (ap (λ k. cons_option (f k) []) here ∙ sym (option-list (f at))))

pub filter_map-none : {X : Type 0} (f : ℕ → Option X) (low : ℕ) → [] ≡ filter_map f (numbers_from low 0)
unfolding numbers_from
filter_map-none f low = refl

-- the marks that show a base
pub marks-none : (g : Group) (facts : List OrderFact) (s : ℕ) → s ≡ 0 → [] ≡ marks_for g facts s
marks-none g facts s e = sym (ap (marks_for g facts) e)

pub marks-some : (g : Group) (facts : List OrderFact) (s : ℕ) → (s ≡ 0 → ⊥) →
    quorum_of g (mark_by s) facts ≡ marks_for g facts s
marks-some g facts s ne = sym (ap (λ b. cond b [] (quorum_of g (mark_by s) facts)) (ne_eqb s 0 ne))

-- the marks of a given base
pub base-none : (g : Group) (facts : List OrderFact) (s : ℕ) → s ≡ 0 → Some [] ≡ marks_at g facts s
base-none g facts s e = sym (ap (marks_at g facts) e)

pub if_ok : {T E : Type 0} (r : Result T E) (P Q : T → Type 0) → ((x : T) → P x → Q x) → IfOk r P → IfOk r Q
if_ok (Ok x) P Q f p = f x p
if_ok (Err e) P Q f p = tt
