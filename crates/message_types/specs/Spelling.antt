-- Which frames have a spelling: lists and signatures are within their limits, in each list of frames the
-- signers rise, and in a list of certificates the numbers do. The limits are this project's own. That signers
-- rise is what makes q frames in a list the words of q different masters.
use Rattle.std.specs.Prelude.{ℕ, Bool, true, ◌&&◌, List, [], ◌∷◌, length, map, nat_lt, nat_le}
use Rattle.std.specs.List.{list_all}
use Rattle.message_types.specs.declared.signed.Signed.{Signed}
use Rattle.message_types.specs.declared.preordering.PoRequest.{PoRequest}
use Rattle.message_types.specs.declared.preordering.PoSummary.{PoSummary}
use Rattle.message_types.specs.declared.ordering.Certificate.{Certificate}
use Rattle.message_types.specs.declared.views.Report.{Report}
use Rattle.message_types.specs.declared.body.Body.{Body}
use Rattle.message_types.specs.declared.body.Body.TheVariants as body
use Rattle.message_types.specs.declared.limits.TheConstants.{MOST_LISTED, MOST_CERTIFICATES, MOST_SIGNATURE_BYTES}

-- each number is below the next
abbrev pub is_rising : List ℕ → Bool
is_rising [] = true
is_rising (x ∷ []) = true
is_rising (x ∷ y ∷ rest) = nat_lt x y && is_rising (y ∷ rest)

abbrev pub signers_of : {B : Type 0} → List (Signed B) → List ℕ
signers_of frames = map (λ f. f.signer) frames

-- a signature is within its limit
abbrev pub signature_fits : {B : Type 0} → Signed B → Bool
signature_fits frame = nat_le (length frame.sig) MOST_SIGNATURE_BYTES

-- a list of frames within its limit, each spelled, whose signers rise
abbrev pub frames_fit : {B : Type 0} → (B → Bool) → List (Signed B) → Bool
frames_fit body_fits frames =
    nat_le (length frames) MOST_LISTED && is_rising (signers_of frames)
    && list_all (λ f. body_fits f.body && signature_fits f) frames

abbrev pub always_fits : {B : Type 0} → B → Bool
always_fits b = true

abbrev pub row_fits : List ℕ → Bool
row_fits row = nat_le (length row) MOST_LISTED

abbrev pub rows_fit : List (List ℕ) → Bool
rows_fit rows = nat_le (length rows) MOST_LISTED && list_all row_fits rows

abbrev pub request_fits : PoRequest → Bool
request_fits b = signature_fits b.update

abbrev pub summary_fits : PoSummary → Bool
summary_fits b = row_fits b.numbers

abbrev pub certificate_fits : Certificate → Bool
certificate_fits c = rows_fit c.rows && frames_fit always_fits c.prepares

-- no more certificates than a report may have, of rising numbers
abbrev pub report_fits : Report → Bool
report_fits b =
    frames_fit always_fits b.marks
    && nat_le (length b.certificates) MOST_CERTIFICATES && is_rising (map (λ c. c.s) b.certificates)
    && list_all certificate_fits b.certificates

abbrev pub body_fits : Body → Bool
body_fits (body.PoRequest b) = request_fits b
body_fits (body.PoSummary b) = summary_fits b
body_fits (body.PrePrepare b) = frames_fit summary_fits b.frames
body_fits (body.Report b) = report_fits b
body_fits (body.NewView b) = frames_fit report_fits b.reports
body_fits (body.Give b) = request_fits b.request.body && signature_fits b.request && frames_fit always_fits b.acks
body_fits (body.GiveOrdered b) = rows_fit b.rows && frames_fit always_fits b.commits
body_fits _ = true

-- the frame has a spelling
unfoldable pub has_spelling : Signed Body → Bool
has_spelling frame = body_fits frame.body && signature_fits frame
