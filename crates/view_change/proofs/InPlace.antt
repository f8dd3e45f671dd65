-- Where words are in their places, their rows have spellings.
use Rattle.std.proofs.Common.{◌≡◌, ℕ, ◌≤◌, Bool, true, ◌&&◌, List, [], ◌∷◌, map, nat_lt, refl, sym, ◌∙◌}
use Rattle.std.specs.List.{list_all, flat_map}
use Rattle.std.proofs.lemmas.Bool.{and_parts, and_from}
use Rattle.std.proofs.lemmas.List.Folds.{list_all-append}
use Rattle.message_types.specs.declared.signed.Signed.{Signed}
use Rattle.message_types.specs.declared.ordering.Certificate.{Certificate}
use Rattle.message_types.specs.declared.views.Report.{Report}
use Rattle.message_types.specs.declared.views.NewView.{NewView}
use Rattle.message_types.specs.declared.body.Body.TheVariants as body
use Rattle.message_types.specs.Parts.{as_frame, parts, inside_report}
use Rattle.protocol_rules.specs.Group.{Group}
use Rattle.protocol_rules.specs.Plans.{certificates_of}
use Rattle.protocol_rules.specs.Places.{in_place, are_rows, certificate_in_place, report_in_place}
use Rattle.view_change.specs.Planning.{is_spelled, are_spelled}
use Rattle.protocol_rules.proofs.PlacedRows.{rows_in_place_fit}

left : (a b : Bool) → (a && b) ≡ true → a ≡ true
left a b h = (and_parts a b h).0

right : (a b : Bool) → (a && b) ≡ true → b ≡ true
right a b h = (and_parts a b h).1

pub certificate-spelled : (g : Group) (base v : ℕ) (c : Certificate) → g.n ≤ 14 →
    certificate_in_place g base v c ≡ true → is_spelled c ≡ true
certificate-spelled g base v c few is =
    rows_in_place_fit g c.rows few (right _ (are_rows g c.rows) (left _ _ (left _ _ is)))

certificates-spelled : (g : Group) (base v : ℕ) (cs : List Certificate) → g.n ≤ 14 →
    list_all (certificate_in_place g base v) cs ≡ true → list_all is_spelled cs ≡ true
certificates-spelled g base v [] few all = refl
certificates-spelled g base v (c ∷ rest) few all =
    let both : (certificate_in_place g base v c ≡ true) × (list_all (certificate_in_place g base v) rest ≡ true) =
    and_parts (certificate_in_place g base v c) (list_all (certificate_in_place g base v) rest) all in
    and_from (is_spelled c) (list_all is_spelled rest) (certificate-spelled g base v c few both.0)
    (certificates-spelled g base v rest few both.1)

report-spelled : (g : Group) (f : Signed Report) → g.n ≤ 14 → in_place g (as_frame body.Report f) ≡ true →
    list_all is_spelled f.body.certificates ≡ true
report-spelled g f few is =
    let placed : report_in_place g f.body ≡ true = right (nat_lt f.signer g.n) (report_in_place g f.body) is in
    certificates-spelled g f.body.base f.body.v f.body.certificates few
    (right _ (list_all (certificate_in_place g f.body.base f.body.v) f.body.certificates) placed)

reports-spelled : (g : Group) (reports : List (Signed Report)) → g.n ≤ 14 →
    list_all (in_place g) (flat_map (λ f. as_frame body.Report f ∷ inside_report f.body) reports) ≡ true →
    are_spelled (map (λ r. r.body) reports) ≡ true
reports-spelled g [] few all = refl
reports-spelled g (f ∷ rest) few all =
    let cut : (list_all (in_place g) (as_frame body.Report f ∷ inside_report f.body)
    && list_all (in_place g) (flat_map (λ f. as_frame body.Report f ∷ inside_report f.body) rest)) ≡ true =
    sym (list_all-append (in_place g) (as_frame body.Report f ∷ inside_report f.body)
    (flat_map (λ f. as_frame body.Report f ∷ inside_report f.body) rest)) ∙ all in
    let both = and_parts (list_all (in_place g) (as_frame body.Report f ∷ inside_report f.body))
    (list_all (in_place g) (flat_map (λ f. as_frame body.Report f ∷ inside_report f.body) rest)) cut in
    let own : in_place g (as_frame body.Report f) ≡ true =
    left (in_place g (as_frame body.Report f)) (list_all (in_place g) (inside_report f.body)) both.0 in
    list_all-append is_spelled f.body.certificates (certificates_of (map (λ r. r.body) rest))
    ∙ and_from (list_all is_spelled f.body.certificates) (are_spelled (map (λ r. r.body) rest))
    (report-spelled g f few own) (reports-spelled g rest few both.1)

pub new_view-spelled : (g : Group) (f : Signed NewView) → g.n ≤ 14 →
    list_all (in_place g) (parts (as_frame body.NewView f)) ≡ true →
    are_spelled (map (λ r. r.body) f.body.reports) ≡ true
new_view-spelled g f few all = reports-spelled g f.body.reports few (right (in_place g (as_frame body.NewView f)) _ all)
