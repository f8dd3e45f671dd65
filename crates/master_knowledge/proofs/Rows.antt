-- The rows in a whole part have spellings.
use Rattle.std.proofs.Common.{◌≡◌, ℕ, ◌≤◌, true, ◌&&◌, List, length, nat_eq, nat_le, nat_lt, arith, eqb-true}
use Rattle.std.proofs.lemmas.Bool.{and_parts, le-leb}
use Rattle.std.specs.List.{list_all}
use Rattle.plain_lists.specs.Lists.{there}
use Rattle.plain_lists.proofs.Members.{all_at, in_map}
use Rattle.message_types.specs.declared.signed.Signed.{Signed}
use Rattle.message_types.specs.declared.preordering.PoSummary.{PoSummary}
use Rattle.message_types.specs.declared.views.Report.{Report}
use Rattle.message_types.specs.declared.reconciling.GiveOrdered.{GiveOrdered}
use Rattle.message_types.specs.declared.body.Body.TheVariants as body
use Rattle.message_types.specs.Parts.{as_frame, frames_of}
use Rattle.message_types.specs.Spelling.{rows_fit, summary_fits}
use Rattle.protocol_rules.specs.Group.{most_number}
use Rattle.protocol_rules.specs.Places.{in_place, are_rows, certificate_in_place, report_in_place}
use Rattle.view_change.specs.Planning.{is_spelled}
use Rattle.master_knowledge.specs.Whole.{IsWhole}
use Rattle.protocol_rules.proofs.PlacedRows.{rows_in_place_fit}
use Rattle.history_rules.proofs.Entries.{all_from}
use Rattle.view_change.proofs.InPlace.{certificate-spelled}

-- the summaries in a preprepare
pub summaries_spelled : (masters : ℕ) (signer v s : ℕ) (frames : List (Signed PoSummary)) (sig : List ℕ)
    → IsWhole masters record {
      signer = signer;
      body = body.PrePrepare record { v = v; s = s; frames = frames };
      sig =
          sig;
    } → list_all (λ f. summary_fits f.body) frames ≡ true
summaries_spelled masters signer v s frames sig is = all_from (λ f. summary_fits f.body) frames (λ f h.
    let placed : in_place is.group (as_frame body.PoSummary f) ≡ true =
    all_at (in_place is.group)
    (there record { signer = signer; body = body.PrePrepare record { v = v; s = s; frames = frames }; sig = sig }
    (frames_of body.PoSummary frames) (in_map (as_frame body.PoSummary) h)) is.whole in
    let word = (and_parts (nat_lt f.signer is.group.n) (nat_eq (length f.body.numbers) is.group.n
    && list_all (λ x. nat_le x most_number) f.body.numbers) placed).1 in
    let many : length f.body.numbers ≡ is.group.n =
    eqb-true (length f.body.numbers) is.group.n
    (and_parts (nat_eq (length f.body.numbers) is.group.n) (list_all (λ x. nat_le x most_number) f.body.numbers)
    word).0 in
    let same : is.group.n ≡ masters = is.same in
    let few : masters ≤ 14 = is.few in
    le-leb (length f.body.numbers) 14 (omega arith))

pub certificates_spelled : (masters : ℕ) (signer : ℕ) (b : Report) (sig : List ℕ) →
    IsWhole masters record { signer = signer; body = body.Report b; sig = sig } →
    list_all is_spelled b.certificates ≡ true
certificates_spelled masters signer b sig is =
    let same : is.group.n ≡ masters = is.same in
    let few : masters ≤ 14 = is.few in
    let placed : report_in_place is.group b ≡ true =
    (and_parts (nat_lt signer is.group.n) (report_in_place is.group b)
    (and_parts (in_place is.group record { signer = signer; body = body.Report b; sig = sig }) _ is.whole).0).1 in
    let all = (and_parts _ (list_all (certificate_in_place is.group b.base b.v) b.certificates) placed).1 in
    all_from is_spelled b.certificates
    (λ c h. certificate-spelled is.group b.base b.v c (omega arith)
    (all_at (certificate_in_place is.group b.base b.v) h all))

-- the rows in a given order
pub given_spelled : (masters : ℕ) (signer : ℕ) (b : GiveOrdered) (sig : List ℕ) →
    IsWhole masters record { signer = signer; body = body.GiveOrdered b; sig = sig } → rows_fit b.rows ≡ true
given_spelled masters signer b sig is =
    let same : is.group.n ≡ masters = is.same in
    let few : masters ≤ 14 = is.few in
    let placed = (and_parts (nat_lt signer is.group.n) _
    (and_parts (in_place is.group record { signer = signer; body = body.GiveOrdered b; sig = sig })
    _ is.whole).0).1 in
    rows_in_place_fit is.group b.rows (omega arith)
    (and_parts _ (are_rows is.group b.rows) (and_parts _ _ (and_parts _ _ placed).0).0).1
