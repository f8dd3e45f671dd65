-- The rows that frames in their place make known are few.
use Rattle.std.proofs.Common.{◌≡◌, ℕ, ◌+◌, ◌%◌, ◌≤◌, Bool, true, false, cond, ◌&&◌, List, [], ◌∷◌, ◌++◌, Option, Some}
use Rattle.std.proofs.Common.{None, map, filter, length, nat_eq, nat_le, nat_lt, refl, sym, ◌∙◌, ap, arith}
use Rattle.std.specs.List.{list_all, flat_map}
use Rattle.std.specs.Str.{bytes_eq}
use Rattle.std.proofs.lemmas.Bool.{and_parts, and_from, le-leb, eqb-true, false≢true}
use Rattle.std.proofs.lemmas.List.{length-map}
use Rattle.std.proofs.lemmas.List.Folds.{list_all-append}
use Rattle.message_types.specs.declared.signed.Signed.{Signed}
use Rattle.message_types.specs.declared.preordering.PoSummary.{PoSummary}
use Rattle.message_types.specs.declared.ordering.Certificate.{Certificate}
use Rattle.message_types.specs.declared.views.Report.{Report}
use Rattle.message_types.specs.declared.body.Body.{Body}
use Rattle.message_types.specs.declared.body.Body.TheVariants as body
use Rattle.message_types.specs.Digests.{digest_of_rows}
use Rattle.message_types.specs.Parts.{as_frame, frames_of, inside_report, inside, parts}
use Rattle.quorum_sets.specs.Masters.{numbers_below}
use Rattle.protocol_rules.specs.declared.facts.OrderFact.{OrderFact}
use Rattle.protocol_rules.specs.declared.facts.OrderFact.TheVariants as fact
use Rattle.protocol_rules.specs.Words.{best_from, best_by}
use Rattle.protocol_rules.specs.Group.{Group, most_number, window, mark_step}
use Rattle.protocol_rules.specs.Places.{is_number, is_view, is_row, are_rows, certificate_in_place, report_in_place}
use Rattle.protocol_rules.specs.Places.{word_in_place, in_place}
use Rattle.protocol_rules.specs.Matrix.{rows_of_frames}
use Rattle.protocol_rules.specs.Plans.{goes_before, certificates_of, chosen, no_rows, planned, plan_of}
use Rattle.protocol_rules.specs.Facts.{tells, facts_of, rows_in, rows_known}
use Rattle.leader_proposals.specs.Counting.{are_few}
use Rattle.leader_proposals.proofs.Few.{all_few, few-join, few-of, few-none-known}
use Rattle.quorum_sets.proofs.Numbered.{length-numbers_below}
use Rattle.protocol_rules.proofs.Told.{told_more}

-- parts of a conjunction

third : (a b c d e : Bool) → (a && b && c && d && e) ≡ true → c ≡ true
third true true c d e all = by c all
  where
    by : (c : Bool) → (true && true && c && d && e) ≡ true → c ≡ true
    by true all = refl
    by false all = absurd (false≢true all)
third true false c d e all = absurd (false≢true all)
third false b c d e all = absurd (false≢true all)

fifth : (a b c d e f h : Bool) → (a && b && c && d && e && f && h) ≡ true → e ≡ true
fifth true true true true true f h all = refl
fifth true true true true false f h all = absurd (false≢true all)
fifth true true true false e f h all = absurd (false≢true all)
fifth true true false d e f h all = absurd (false≢true all)
fifth true false c d e f h all = absurd (false≢true all)
fifth false b c d e f h all = absurd (false≢true all)

seventh : (a b c d e f h : Bool) → (a && b && c && d && e && f && h) ≡ true → h ≡ true
seventh true true true true true true h all = all
seventh true true true true true false h all = absurd (false≢true all)
seventh true true true true false f h all = absurd (false≢true all)
seventh true true true false e f h all = absurd (false≢true all)
seventh true true false d e f h all = absurd (false≢true all)
seventh true false c d e f h all = absurd (false≢true all)
seventh false b c d e f h all = absurd (false≢true all)

-- rows of one kind and another

placed-few : (g : Group) (rows : List (List ℕ)) → g.n ≤ 14 → are_rows g rows ≡ true → are_few rows ≡ true
placed-few g rows few placed =
    let many : length rows ≡ g.n =
    eqb-true (length rows) g.n (and_parts (nat_eq (length rows) g.n) (list_all (is_row g) rows) placed).0 in
    le-leb (length rows) 14 (omega arith)

made-few : (g : Group) (f : ℕ → List ℕ) → g.n ≤ 14 → are_few (map f (numbers_below g.n)) ≡ true
made-few g f few = let many = length-map (numbers_below g.n) f ∙ length-numbers_below g.n in
    le-leb (length (map f (numbers_below g.n))) 14 (omega (arith, many))

offered-few : (g : Group) (frames : List (Signed PoSummary)) → g.n ≤ 14 → are_few (rows_of_frames g frames) ≡ true
unfolding rows_of_frames
offered-few g frames few = made-few g _ few

certificate-few : (g : Group) (base v : ℕ) (c : Certificate) → g.n ≤ 14 → certificate_in_place g base v c ≡ true →
    are_few c.rows ≡ true
certificate-few g base v c few placed =
    placed-few g c.rows few
    (fifth (nat_lt base c.s) (nat_le c.s (base + window)) (nat_le c.s most_number) (nat_lt c.v v) (are_rows g c.rows)
    (nat_eq (length c.prepares) g.q)
    (list_all (λ p. nat_eq p.body.v c.v && nat_eq p.body.s c.s && bytes_eq p.body.digest (digest_of_rows c.rows))
    c.prepares) placed)

certificates-few : (g : Group) (base v : ℕ) (certificates : List Certificate) → g.n ≤ 14 →
    list_all (certificate_in_place g base v) certificates ≡ true → list_all (λ c. are_few c.rows) certificates ≡ true
certificates-few g base v [] few placed = refl
certificates-few g base v (c ∷ rest) few placed =
    let both = and_parts (certificate_in_place g base v c) (list_all (certificate_in_place g base v) rest) placed in
    and_from (are_few c.rows) (list_all (λ c. are_few c.rows) rest) (certificate-few g base v c few both.0)
    (certificates-few g base v rest few both.1)

report-few : (g : Group) (signer : ℕ) (b : Report) (sig : List ℕ) → g.n ≤ 14 →
    in_place g record { signer = signer; body = body.Report b; sig = sig } ≡ true →
    list_all (λ c. are_few c.rows) b.certificates ≡ true
report-few g signer b sig few placed =
    certificates-few g b.base b.v b.certificates few
    (seventh (nat_le 1 b.v) (is_view b.v) (nat_eq (b.base % mark_step) 0) (nat_le b.base most_number)
    (nat_eq (length b.marks) (cond (nat_eq b.base 0) 0 g.q)) (list_all (λ m. nat_eq m.body.s b.base) b.marks)
    (list_all (certificate_in_place g b.base b.v) b.certificates)
    (and_parts (nat_lt signer g.n) (report_in_place g b) placed).1)

-- what a report tells
told-few : (certificates : List Certificate) → list_all (λ c. are_few c.rows) certificates ≡ true →
    all_few (map (λ c. fact.Rows c.rows) certificates) ≡ true
told-few [] few = few-none-known
told-few (c ∷ rest) few =
    let both = and_parts (are_few c.rows) (list_all (λ c. are_few c.rows) rest) few in
    few-of (fact.Rows c.rows) (map (λ c. fact.Rows c.rows) rest) (and_from (are_few c.rows) true both.0 refl)
    (told-few rest both.1)

-- what a plan takes over

filter-few : (p : Certificate → Bool) (certificates : List Certificate) →
    list_all (λ c. are_few c.rows) certificates ≡ true → list_all (λ c. are_few c.rows) (filter p certificates) ≡ true
filter-few p [] few = refl
filter-few p (c ∷ rest) few = by (p c) (and_parts (are_few c.rows) (list_all (λ c. are_few c.rows) rest) few)
    (filter-few p rest)
  where
    by : (b : Bool) → (are_few c.rows ≡ true) × (list_all (λ c. are_few c.rows) rest ≡ true) →
        (list_all (λ c. are_few c.rows) rest ≡ true → list_all (λ c. are_few c.rows) (filter p rest) ≡ true) →
        list_all (λ c. are_few c.rows) (cond b (c ∷ filter p rest) (filter p rest)) ≡ true
    by true both rest_few = and_from (are_few c.rows) (list_all (λ c. are_few c.rows) (filter p rest))
        both.0 (rest_few both.1)
    by false both rest_few = rest_few both.1

best-few : (best : Certificate) (certificates : List Certificate) → are_few best.rows ≡ true →
    list_all (λ c. are_few c.rows) certificates ≡ true → are_few (best_from goes_before best certificates).rows ≡ true
best-few best [] here few = here
best-few best (c ∷ rest) here few =
    by (goes_before c best) (and_parts (are_few c.rows) (list_all (λ c. are_few c.rows) rest) few)
    (best-few c rest) (best-few best rest)
  where
    by : (b : Bool) → (are_few c.rows ≡ true) × (list_all (λ c. are_few c.rows) rest ≡ true) →
        (are_few c.rows ≡ true → list_all (λ c. are_few c.rows) rest ≡ true →
        are_few (best_from goes_before c rest).rows ≡ true) →
        (are_few best.rows ≡ true → list_all (λ c. are_few c.rows) rest ≡ true →
        are_few (best_from goes_before best rest).rows ≡ true) →
        are_few (best_from goes_before (cond b c best) rest).rows ≡ true
    by true both taken kept = taken both.0 both.1
    by false both taken kept = kept here both.1

rows-of : Group → Option Certificate → List (List ℕ)
rows-of g o = elim o [ Some c ↦ c.rows | None ↦ no_rows g ]

best_by-few : (g : Group) (certificates : List Certificate) → g.n ≤ 14 →
    list_all (λ c. are_few c.rows) certificates ≡ true → are_few (rows-of g (best_by goes_before certificates)) ≡ true
unfolding best_by rows-of
best_by-few g [] few placed = made-few g _ few
best_by-few g (c ∷ rest) few placed = let both = and_parts (are_few c.rows) (list_all (λ c. are_few c.rows) rest)
    placed in best-few c rest both.0 both.1

planned-few : (g : Group) (reports : List Report) (s : ℕ) → g.n ≤ 14 →
    list_all (λ c. are_few c.rows) (certificates_of reports) ≡ true → are_few (planned g reports s) ≡ true
unfolding chosen rows-of
planned-few g reports s few placed = best_by-few g (filter (λ c. nat_eq c.s s) (certificates_of reports)) few
    (filter-few (λ c. nat_eq c.s s) (certificates_of reports) placed)

all-planned : (g : Group) (reports : List Report) (numbers : List ℕ) → g.n ≤ 14 →
    list_all (λ c. are_few c.rows) (certificates_of reports) ≡ true →
    list_all are_few (map (planned g reports) numbers) ≡ true
all-planned g reports [] few placed = refl
all-planned g reports (s ∷ rest) few placed =
    and_from (are_few (planned g reports s)) (list_all are_few (map (planned g reports) rest))
    (planned-few g reports s few placed) (all-planned g reports rest few placed)

plan-few : (g : Group) (reports : List Report) → g.n ≤ 14 →
    list_all (λ c. are_few c.rows) (certificates_of reports) ≡ true → list_all are_few (plan_of g reports).rows ≡ true
unfolding plan_of
plan-few g reports few placed = all-planned g reports _ few placed

-- the reports in a new view are in their place
reports-few : (g : Group) (reports : List (Signed Report)) → g.n ≤ 14 →
    list_all (in_place g) (flat_map (λ f. as_frame body.Report f ∷ inside_report f.body) reports) ≡ true →
    list_all (λ c. are_few c.rows) (certificates_of (map (λ r. r.body) reports)) ≡ true
reports-few g [] few placed = refl
reports-few g (r ∷ rest) few placed =
    let first = and_parts (in_place g (as_frame body.Report r))
    (list_all (in_place g) (inside_report r.body ++ flat_map (λ f. as_frame body.Report f ∷ inside_report f.body)
    rest)) placed in
    let others = and_parts (list_all (in_place g) (inside_report r.body))
    (list_all (in_place g) (flat_map (λ f. as_frame body.Report f ∷ inside_report f.body) rest))
    (sym (list_all-append (in_place g) (inside_report r.body)
    (flat_map (λ f. as_frame body.Report f ∷ inside_report f.body) rest)) ∙ first.1) in
    list_all-append (λ c. are_few c.rows) r.body.certificates (certificates_of (map (λ r. r.body) rest))
    ∙ and_from (list_all (λ c. are_few c.rows) r.body.certificates)
    (list_all (λ c. are_few c.rows) (certificates_of (map (λ r. r.body) rest)))
    (report-few g r.signer r.body r.sig few first.0) (reports-few g rest few others.1)

-- what one frame tells, the frames inside it in their place

alone-few : (x : OrderFact) → list_all are_few (rows_in x) ≡ true → all_few (x ∷ []) ≡ true
alone-few x few = few-of x [] few few-none-known

-- a frame that may stand inside another holds no reports
abbrev plain : Signed Body → Bool
plain f = elim f.body [ body.NewView b ↦ false | _ ↦ true ]

plain-few : (g : Group) (signer : ℕ) (w : Body) (sig : List ℕ) → g.n ≤ 14 →
    plain record { signer = signer; body = w; sig = sig } ≡ true →
    in_place g record { signer = signer; body = w; sig = sig } ≡ true →
    all_few (tells g record { signer = signer; body = w; sig = sig }) ≡ true
plain-few g signer (body.PrePrepare b) sig few is placed =
    alone-few (fact.Proposal b.v b.s (rows_of_frames g b.frames))
    (and_from (are_few (rows_of_frames g b.frames)) true (offered-few g b.frames few) refl)
plain-few g signer (body.Prepare b) sig few is placed =
    alone-few (fact.Prepare record { signer = signer; body = b; sig = sig }) refl
plain-few g signer (body.Commit b) sig few is placed =
    alone-few (fact.Commit record { signer = signer; body = b; sig = sig }) refl
plain-few g signer (body.Mark b) sig few is placed =
    alone-few (fact.Mark record { signer = signer; body = b; sig = sig }) refl
plain-few g signer (body.Report b) sig few is placed = told-few b.certificates (report-few g signer b sig few placed)
plain-few g signer (body.GiveOrdered b) sig few is placed =
    alone-few (fact.Rows b.rows)
    (and_from (are_few b.rows) true
    (placed-few g b.rows few (third (is_number b.s) (is_view b.v) (are_rows g b.rows)
    (nat_eq (length b.commits) g.q)
    (list_all (λ c. nat_eq c.body.v b.v && nat_eq c.body.s b.s && bytes_eq c.body.digest (digest_of_rows b.rows))
    b.commits) (and_parts (nat_lt signer g.n) (word_in_place g signer (body.GiveOrdered b)) placed).1)) refl)
plain-few g signer (body.NewView b) sig few is placed = absurd (false≢true is)
plain-few g signer _ sig few is placed = few-none-known

part-few : (g : Group) (signer : ℕ) (w : Body) (sig : List ℕ) → g.n ≤ 14 →
    in_place g record { signer = signer; body = w; sig = sig } ≡ true → list_all (in_place g) (inside w) ≡ true →
    all_few (tells g record { signer = signer; body = w; sig = sig }) ≡ true
part-few g signer (body.NewView b) sig few placed within =
    alone-few (fact.Plan b.v (plan_of g (map (λ r. r.body) b.reports)))
    (plan-few g (map (λ r. r.body) b.reports) few (reports-few g b.reports few within))
part-few g signer w sig few placed within = plain-few g signer w sig few refl placed

frames-plain : {B : Type 0} (kind : B → Body) →
    ((signer : ℕ) (b : B) (sig : List ℕ) → plain record { signer = signer; body = kind b; sig = sig } ≡ true) →
    (frames : List (Signed B)) → list_all plain (frames_of kind frames) ≡ true
frames-plain kind one [] = refl
frames-plain kind one (f ∷ rest) = and_from (plain (as_frame kind f)) (list_all plain (frames_of kind rest))
    (one f.signer f.body f.sig) (frames-plain kind one rest)

prepares-plain : (certificates : List Certificate) →
    list_all plain (flat_map (λ c. frames_of body.Prepare c.prepares) certificates) ≡ true
prepares-plain [] = refl
prepares-plain (c ∷ rest) =
    list_all-append plain (frames_of body.Prepare c.prepares) (flat_map (λ c. frames_of body.Prepare c.prepares) rest)
    ∙ and_from (list_all plain (frames_of body.Prepare c.prepares))
    (list_all plain (flat_map (λ c. frames_of body.Prepare c.prepares) rest))
    (frames-plain body.Prepare (λ signer b sig. refl) c.prepares) (prepares-plain rest)

report-plain : (b : Report) → list_all plain (inside_report b) ≡ true
report-plain b =
    list_all-append plain (frames_of body.Mark b.marks)
    (flat_map (λ c. frames_of body.Prepare c.prepares) b.certificates)
    ∙ and_from (list_all plain (frames_of body.Mark b.marks))
    (list_all plain (flat_map (λ c. frames_of body.Prepare c.prepares) b.certificates))
    (frames-plain body.Mark (λ signer b sig. refl) b.marks) (prepares-plain b.certificates)

reports-plain : (reports : List (Signed Report)) →
    list_all plain (flat_map (λ f. as_frame body.Report f ∷ inside_report f.body) reports) ≡ true
reports-plain [] = refl
reports-plain (r ∷ rest) =
    list_all-append plain (inside_report r.body) (flat_map (λ f. as_frame body.Report f ∷ inside_report f.body) rest)
    ∙ and_from (list_all plain (inside_report r.body))
    (list_all plain (flat_map (λ f. as_frame body.Report f ∷ inside_report f.body) rest))
    (report-plain r.body) (reports-plain rest)

inside-plain : (w : Body) → list_all plain (inside w) ≡ true
inside-plain (body.PoRequest b) = refl
inside-plain (body.PrePrepare b) = frames-plain body.PoSummary (λ signer b sig. refl) b.frames
inside-plain (body.Report b) = report-plain b
inside-plain (body.NewView b) = reports-plain b.reports
inside-plain (body.Give b) = frames-plain body.PoAck (λ signer b sig. refl) b.acks
inside-plain (body.GiveOrdered b) = frames-plain body.Commit (λ signer b sig. refl) b.commits
inside-plain _ = refl

inner-few : (g : Group) (frames : List (Signed Body)) → g.n ≤ 14 → list_all plain frames ≡ true →
    list_all (in_place g) frames ≡ true → all_few (flat_map (tells g) frames) ≡ true
inner-few g [] few are placed = few-none-known
inner-few g (f ∷ rest) few are placed =
    let kinds = and_parts (plain f) (list_all plain rest) are in
    let places = and_parts (in_place g f) (list_all (in_place g) rest) placed in
    few-join (tells g f) (flat_map (tells g) rest) (plain-few g f.signer f.body f.sig few kinds.0 places.0)
    (inner-few g rest few kinds.1 places.1)

frame-told : (g : Group) (f : Signed Body) → g.n ≤ 14 → list_all (in_place g) (parts f) ≡ true →
    all_few (facts_of g (parts f)) ≡ true
unfolding facts_of
frame-told g f few placed =
    let both = and_parts (in_place g f) (list_all (in_place g) (inside f.body)) placed in
    few-join (tells g f) (flat_map (tells g) (inside f.body)) (part-few g f.signer f.body f.sig few both.0 both.1)
    (inner-few g (inside f.body) few (inside-plain f.body) both.1)

-- what no word tells is few
pub few-start : (g : Group) → list_all are_few (rows_known (facts_of g [])) ≡ true
unfolding facts_of all_few
few-start g = few-none-known

-- after a frame that stands, all rows known are few if they were before
pub frame-few : (g : Group) (known : List (Signed Body)) (f : Signed Body) → g.n ≤ 14 →
    list_all (in_place g) (parts f) ≡ true → list_all are_few (rows_known (facts_of g known)) ≡ true →
    list_all are_few (rows_known (facts_of g (known ++ parts f))) ≡ true
unfolding all_few
frame-few g known f few placed before =
    ap (λ facts. list_all are_few (rows_known facts)) (told_more g known (parts f)) ∙ few-join (facts_of g known)
    (facts_of g (parts f)) before (frame-told g f few placed)
