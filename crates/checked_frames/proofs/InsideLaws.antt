-- The frames inside a spelled body have bodies that are spelled, and are few.
use Rattle.std.proofs.Common.{◌≡◌, ◌≤◌, ◌<◌, ◌+◌, ◌*◌, ◌^◌, ℕ, suc, map, Bool, true, false, ◌&&◌, List, [], ◌∷◌, ◌++◌}
use Rattle.std.proofs.Common.{length, refl, sym, ap, ◌∙◌, arith, nat_le, length-append}
use Rattle.std.specs.List.{list_all, flat_map}
use Rattle.std.proofs.lemmas.Bool.{and_from, and_parts, leb-true}
use Rattle.message_types.specs.declared.signed.Signed.{Signed}
use Rattle.message_types.specs.declared.ordering.Certificate.{Certificate}
use Rattle.message_types.specs.declared.views.Report.{Report}
use Rattle.message_types.specs.declared.body.Body.{Body}
use Rattle.message_types.specs.declared.body.Body.TheVariants as body
use Rattle.message_types.specs.Parts.{as_frame, frames_of, inside_report, inside}
use Rattle.message_types.specs.Spelling.{is_rising, signers_of, signature_fits, frames_fit, always_fits, rows_fit}
use Rattle.message_types.specs.Spelling.{request_fits, summary_fits, certificate_fits, report_fits, body_fits}
use Rattle.message_types.specs.Spelling.{has_spelling}

abbrev fits : Signed Body → Bool
fits f = body_fits f.body

pub record AreFew (most : ℕ) (frames : List (Signed Body)) : Type 0 where
  pub each : list_all (λ (f : Signed Body). body_fits f.body) frames ≡ true
  pub few : length frames ≤ most

no_frames : (most : ℕ) → AreFew most []
no_frames most = record { each = refl; few = omega arith }

one_before : (most : ℕ) (f : Signed Body) (frames : List (Signed Body)) → body_fits f.body ≡ true →
    AreFew most frames → AreFew (suc most) (f ∷ frames)
one_before most f frames e rest =
    let few = rest.few in
    record { each = and_from (fits f) (list_all fits frames) e rest.each; few = omega arith }

both_each : (xs ys : List (Signed Body)) → list_all fits xs ≡ true → list_all fits ys ≡ true →
    list_all fits (xs ++ ys) ≡ true
both_each [] ys e f = f
both_each (x ∷ xs) ys e f =
    let parts = and_parts (fits x) (list_all fits xs) e in
    and_from (fits x) (list_all fits (xs ++ ys)) parts.0 (both_each xs ys parts.1 f)

both_few : (n m : ℕ) (xs ys : List (Signed Body)) → AreFew n xs → AreFew m ys → AreFew (n + m) (xs ++ ys)
both_few n m xs ys a b =
    let few_a = a.few in
    let few_b = b.few in
    record { each = both_each xs ys a.each b.each; few = omega (arith, length-append xs ys) }

fewer : (n m : ℕ) (xs : List (Signed Body)) → n ≤ m → AreFew n xs → AreFew m xs
fewer n m xs h a = let few = a.few in record { each = a.each; few = omega arith }

-- the frames of one kind
of_kind : {B : Type 0} (kind : B → Body) (test : B → Bool) (frames : List (Signed B)) →
    ((b : B) → test b ≡ true → body_fits (kind b) ≡ true)
    → list_all (λ f. test f.body && signature_fits f) frames ≡ true → AreFew (length frames) (frames_of kind frames)
of_kind kind test [] same e = no_frames 0
of_kind kind test (f ∷ frames) same e =
    let parts = and_parts (test f.body && signature_fits f)
    (list_all (λ f. test f.body && signature_fits f) frames) e in
    let here = and_parts (test f.body) (signature_fits f) parts.0 in
    one_before (length frames) (as_frame kind f) (frames_of kind frames) (same f.body here.0)
    (of_kind kind test frames same parts.1)

listed : {B : Type 0} (kind : B → Body) (test : B → Bool) (frames : List (Signed B)) →
    ((b : B) → test b ≡ true → body_fits (kind b) ≡ true)
    → frames_fit test frames ≡ true → AreFew 14 (frames_of kind frames)
listed kind test frames same e =
    let parts = and_parts (nat_le (length frames) 14 && is_rising (signers_of frames))
    (list_all (λ f. test f.body && signature_fits f) frames) e in
    let front = and_parts (nat_le (length frames) 14) (is_rising (signers_of frames)) parts.0 in
    fewer (length frames) 14 (frames_of kind frames) (leb-true (length frames) 14 front.0)
    (of_kind kind test frames same parts.1)

-- the frames inside each item of a list
in_items : {X : Type 0} (f : X → List (Signed Body)) (test : X → Bool) (most : ℕ) (items : List X) →
    ((x : X) → test x ≡ true → AreFew most (f x))
    → list_all test items ≡ true → AreFew (length items * most) (flat_map f items)
in_items f test most [] each e = no_frames (0 * most)
in_items f test most (x ∷ items) each e =
    let parts = and_parts (test x) (list_all test items) e in
    fewer (most + length items * most) (length (x ∷ items) * most) (f x ++ flat_map f items) (omega arith)
    (both_few most (length items * most) (f x) (flat_map f items) (each x parts.0)
    (in_items f test most items each parts.1))

in_certificate : (c : Certificate) → certificate_fits c ≡ true → AreFew 14 (frames_of body.Prepare c.prepares)
in_certificate c e = listed body.Prepare always_fits c.prepares (λ b _. refl)
    (and_parts (rows_fit c.rows) (frames_fit always_fits c.prepares) e).1

in_report : (b : Report) → report_fits b ≡ true → AreFew 238 (inside_report b)
in_report b e =
    let marks = frames_fit always_fits b.marks in
    let count = nat_le (length b.certificates) 16 in
    let rising = is_rising (map (λ c. c.s) b.certificates) in
    let all = list_all certificate_fits b.certificates in
    let three = and_parts (marks && count && rising) all e in
    let two = and_parts (marks && count) rising three.0 in
    let one = and_parts marks count two.0 in
    let few = leb-true (length b.certificates) 16 one.1 in
    let certified = in_items (λ c. frames_of body.Prepare c.prepares) certificate_fits 14 b.certificates
    in_certificate three.1 in
    fewer (14 + length b.certificates * 14) 238 (inside_report b) (omega arith)
    (both_few 14 (length b.certificates * 14) (frames_of body.Mark b.marks)
    (flat_map (λ c. frames_of body.Prepare c.prepares) b.certificates)
    (listed body.Mark always_fits b.marks (λ b _. refl) one.0) certified)

in_report_frame : (f : Signed Report) → (report_fits f.body && signature_fits f) ≡ true →
    AreFew 239 (as_frame body.Report f ∷ inside_report f.body)
in_report_frame f e =
    let spelled = (and_parts (report_fits f.body) (signature_fits f) e).0 in
    one_before 238 (as_frame body.Report f) (inside_report f.body) spelled (in_report f.body spelled)

in_reports : (reports : List (Signed Report)) → frames_fit report_fits reports ≡ true
    → AreFew 3346 (flat_map (λ f. as_frame body.Report f ∷ inside_report f.body) reports)
in_reports reports e =
    let parts = and_parts (nat_le (length reports) 14 && is_rising (signers_of reports))
    (list_all (λ f. report_fits f.body && signature_fits f) reports) e in
    let front = and_parts (nat_le (length reports) 14) (is_rising (signers_of reports)) parts.0 in
    let few = leb-true (length reports) 14 front.0 in
    fewer (length reports * 239) 3346 (flat_map (λ f. as_frame body.Report f ∷ inside_report f.body) reports)
    (omega arith)
    (in_items (λ f. as_frame body.Report f ∷ inside_report f.body) (λ f. report_fits f.body && signature_fits f)
    239 reports in_report_frame parts.1)

pub inside_few : (b : Body) → body_fits b ≡ true → AreFew 3346 (inside b)
inside_few (body.PoRequest b) e =
    fewer 1 3346 _ (omega arith) (one_before 0 (as_frame body.Update b.update) [] refl (no_frames 0))
inside_few (body.PrePrepare b) e =
    fewer 14 3346 _ (omega arith) (listed body.PoSummary summary_fits b.frames (λ b h. h) e)
inside_few (body.Report b) e = fewer 238 3346 _ (omega arith) (in_report b e)
inside_few (body.NewView b) e = in_reports b.reports e
inside_few (body.Give b) e =
    let two = and_parts (request_fits b.request.body && signature_fits b.request) (frames_fit always_fits b.acks) e in
    let one = and_parts (request_fits b.request.body) (signature_fits b.request) two.0 in
    fewer (2 + 14) 3346 _ (omega arith)
    (both_few 2 14 (as_frame body.PoRequest b.request ∷ as_frame body.Update b.request.body.update ∷ [])
    (frames_of body.PoAck b.acks)
    (one_before 1 (as_frame body.PoRequest b.request) (as_frame body.Update b.request.body.update ∷ []) one.0
    (one_before 0 (as_frame body.Update b.request.body.update) [] refl (no_frames 0)))
    (listed body.PoAck always_fits b.acks (λ b _. refl) two.1))
inside_few (body.GiveOrdered b) e =
    fewer 14 3346 _ (omega arith)
    (listed body.Commit always_fits b.commits (λ b _. refl)
    (and_parts (rows_fit b.rows) (frames_fit always_fits b.commits) e).1)
inside_few _ e = no_frames 3346

pub spelled_body : (frame : Signed Body) → has_spelling frame ≡ true → body_fits frame.body ≡ true
unfolding has_spelling
spelled_body frame e = (and_parts (body_fits frame.body) (signature_fits frame) e).0
