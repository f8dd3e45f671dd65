-- What holds of each part of a frame that is taken in a play: its signer said it, where that one is correct; and it
-- fits its fields, so that it stands as it is inside another's word.
use Rattle.std.proofs.Common.{◌≡◌, ℕ, ◌+◌, ◌<◌, ◌≤◌, ◌^◌, true, ◌&&◌, List, [], ◌++◌, length, nat_eq, nat_le, nat_lt}
use Rattle.std.proofs.Common.{arith, inl, inr}
use Rattle.std.specs.List.{list_all, flat_map}
use Rattle.std.proofs.lemmas.Bool.{and_parts, leb-true, ltb-true}
use Rattle.plain_lists.specs.Lists.{IsIn, here, Each}
use Rattle.plain_lists.proofs.Members.{each_none, in_left, in_right, in_cases, none_in, in_map, in_flat_map, all_at}
use Rattle.message_types.specs.declared.signed.Signed.{Signed}
use Rattle.message_types.specs.declared.updates.Op.{Op}
use Rattle.message_types.specs.declared.updates.Op.TheVariants as op
use Rattle.message_types.specs.declared.updates.Update.{Update}
use Rattle.message_types.specs.declared.ordering.Prepare.{Prepare}
use Rattle.message_types.specs.declared.ordering.Mark.{Mark}
use Rattle.message_types.specs.declared.ordering.Certificate.{Certificate}
use Rattle.message_types.specs.declared.views.Report.{Report}
use Rattle.message_types.specs.declared.body.Body.{Body}
use Rattle.message_types.specs.declared.body.Body.TheVariants as body
use Rattle.message_types.specs.Parts.{parts, as_frame, frames_of}
use Rattle.message_types.specs.Spelling.{has_spelling}
use Rattle.message_forms.specs.Widths.{Is32, Is64, IsDigest, FitsRow, FitsRows, FitsOp, FitsPrepare, FitsMark}
use Rattle.message_forms.specs.Widths.{FitsSigner, FitsCertificate, FitsBody}
use Rattle.protocol_rules.specs.Group.{Group, most_number, most_view}
use Rattle.protocol_rules.specs.Places.{in_place, is_number, is_view, certificate_in_place}
use Rattle.protocol_rules.specs.Master.{taken_frames}
use Rattle.history_rules.specs.Events.{Event, Took, Entry, frame_taken}
use Rattle.history_rules.specs.Setup.{Setup, is_correct}
use Rattle.history_rules.specs.Legal.{Stands, TakesWell, IsLegal}
use Rattle.history_rules.specs.Audit.{HasSaid, NothingForged, parts_taken}
use Rattle.agreement.specs.Laws.{HasSizes}
use Rattle.agreement.proofs.Places.{stands_on, said_on, said_whole, legal_before, unforged_before}
use Rattle.agreement.proofs.FramesInside.{Closed, parts_closed}
use Rattle.agreement.proofs.LearnedInPlace.{GoodOp, GoodFrame, GoodCertificate, GoodRows, good_event, number_small}
use Rattle.words_in_place.proofs.Limits.{all_each, number_bounds}
use Rattle.world_history.proofs.StandingFrames.{standing_is_whole}
use Rattle.intruder_words.proofs.Fits.{known-spelled, parts-spelled}
use Rattle.run_scripts.proofs.UnforgedFields.{all_recursively}
use Rattle.run_scripts.proofs.UnforgedKnown.{FitsPart, IsFit}
use Rattle.history_rules.proofs.Frames.{spelled_of_standing}

-- a digest in it has 32 bytes
abbrev pub HasDigest : Body → Type 0
HasDigest (body.PoAck b) = IsDigest b.digest
HasDigest (body.Prepare b) = IsDigest b.digest
HasDigest (body.Commit b) = IsDigest b.digest
HasDigest _ = Unit {0}

pub digest_of_fields : (b : Body) → FitsBody b → HasDigest b
digest_of_fields (body.PoAck b) fits = fits.1.1
digest_of_fields (body.Prepare b) fits = fits.1.1
digest_of_fields (body.Commit b) fits = fits.1.1
digest_of_fields _ fits = tt

-- A part that its signer said in the history, where that one is correct.
pub record IsBorne (w : Setup) (history : List Entry) (p : Signed Body) : Type 0 where
  pub said : is_correct w p.signer ≡ true → HasSaid history p.signer p.body
  pub digest : HasDigest p.body

-- One that fits its fields and has a spelling too, as what an intruded master knows.
pub record IsHeard (w : Setup) (history : List Entry) (p : Signed Body) : Type 0 where
  pub borne : IsBorne w history p
  pub fit : IsFit p
  pub spelled : has_spelling p ≡ true

pub borne_on : {w : Setup} {history : List Entry} {p : Signed Body} (more : List Entry) → IsBorne w history p →
    IsBorne w (history ++ more) p
borne_on more is = record { said = λ right. said_on more (is.said right); digest = is.digest }

pub borne_whole : {w : Setup} {history before : List Entry} {e : Entry} {p : Signed Body} → Stands history before e →
    IsBorne w before p → IsBorne w history p
borne_whole s is = record { said = λ right. said_whole s (is.said right); digest = is.digest }

pub heard_on : {w : Setup} {history : List Entry} {p : Signed Body} (more : List Entry) → IsHeard w history p →
    IsHeard w (history ++ more) p
heard_on more is = record { borne = borne_on more is.borne; fit = is.fit; spelled = is.spelled }

-- A legal history in which nothing is forged, with digests of 32 bytes in all frames taken.
pub record IsHonest (w : Setup) (history : List Entry) : Type 0 where
  pub legal : IsLegal w history
  pub unforged : NothingForged w history
  pub digests : (before : List Entry) (e : Entry) → Stands history before e →
      Each (λ (p : Signed Body). HasDigest p.body) (parts_taken e)

pub honest_before : (w : Setup) (before more : List Entry) → IsHonest w (before ++ more) → IsHonest w before
honest_before w before more is = record {
  legal = legal_before w before more is.legal;
  unforged = unforged_before w before more is.unforged;
  digests = λ b e s. is.digests b e (stands_on more s);
}

-- the parts of the frame that an entry takes
pub taken_borne : (w : Setup) (history before : List Entry) (e : Entry) → IsHonest w history →
    Stands history before e → Each (IsBorne w before) (parts_taken e)
taken_borne w history before e is s p h = record {
  said = λ right. is.unforged.said before e s p h right;
  digest =
      is.digests before e s p h;
}

view_64 : (v : ℕ) → is_view v ≡ true → v < 2 ^ 64
unfolding most_view
view_64 v h = let low = leb-true v 255 h in omega arith

is_number_64 : (x : ℕ) → is_number x ≡ true → x < 2 ^ 64
is_number_64 x h = number_small x (number_bounds x h).1

below_64 : (x y : ℕ) → x < y → y < 2 ^ 64 → x < 2 ^ 64
below_64 x y less low = omega arith

op_fits : (o : Op) → GoodOp o → FitsOp o
op_fits (op.Reading point value) good = good
op_fits (op.Set point value) good = good
op_fits (op.Ack alarm) good = good

module _ (g : Group) (few : g.n + g.clients ≤ 2 ^ 32) (known : List (Signed Body)) (closed : Closed known)
    (good : Each (GoodFrame g) known)
    (placed : Each (λ (p : Signed Body). in_place g p ≡ true) known)
    (digests : Each (λ (p : Signed Body). HasDigest p.body) known) where
  master_32 : (signer : ℕ) → nat_lt signer g.n ≡ true → Is32 signer
  master_32 signer low = let below = ltb-true signer g.n low in omega arith

  update_fits : (signer : ℕ) (b : Update) (sig : List ℕ) →
      IsIn record { signer = signer; body = body.Update b; sig = sig } known → FitsPart signer (body.Update b)
  update_fits signer b sig h =
      let whole = good record { signer = signer; body = body.Update b; sig = sig } h in
      let ops = and_parts _ _ (placed record { signer = signer; body = body.Update b; sig = sig } h) in
      let times = and_parts _ _ ops.0 in
      let own = and_parts _ _ times.0 in
      let small = and_parts _ _ own.0 in
      let client : b.client < g.clients = ltb-true b.client g.clients small.0 in
      let signed : signer ≡ g.n + b.client = whole.0 in
      let low : signer < 2 ^ 32 = omega arith in
      (low, (whole.1.0, (whole.1.1, op_fits b.op whole.1.2)))

  prepare_fits : (signer : ℕ) (b : Prepare) (sig : List ℕ) →
      IsIn record { signer = signer; body = body.Prepare b; sig = sig } known → FitsPart signer (body.Prepare b)
  prepare_fits signer b sig h =
      let both = and_parts (nat_lt signer g.n) (is_view b.v && is_number b.s)
      (placed record { signer = signer; body = body.Prepare b; sig = sig } h) in
      let numbers = and_parts (is_view b.v) (is_number b.s) both.1 in (
        master_32 signer both.0,
        (
          view_64 b.v numbers.0,
          (
            is_number_64 b.s numbers.1,
            digests record { signer = signer; body = body.Prepare b; sig = sig } h,
          ),
        ),
      )

  mark_fits : (signer : ℕ) (b : Mark) (sig : List ℕ) →
      IsIn record { signer = signer; body = body.Mark b; sig = sig } known → FitsPart signer (body.Mark b)
  mark_fits signer b sig h =
      let both = and_parts (nat_lt signer g.n) _ (placed record { signer = signer; body = body.Mark b; sig = sig } h) in
      (master_32 signer both.0, is_number_64 b.s (and_parts (is_number b.s) _ both.1).0)

  rows_fits : (rows : List (List ℕ)) → GoodRows rows → FitsRows rows
  rows_fits rows all = all_recursively FitsRow rows (λ r h. all_recursively Is64 r (all.1 r h).1)

  certificate_number : (base v : ℕ) (c : Certificate) → certificate_in_place g base v c ≡ true → c.s ≤ most_number
  certificate_number base v c h =
      let a = and_parts _ _ h in
      let b = and_parts _ _ a.0 in
      let rows = and_parts _ _ b.0 in
      let lower = and_parts _ _ rows.0 in
      leb-true c.s most_number (and_parts _ _ lower.0).1

  report_fits : (signer : ℕ) (b : Report) (sig : List ℕ) →
      IsIn record { signer = signer; body = body.Report b; sig = sig } known → FitsPart signer (body.Report b)
  report_fits signer b sig h =
      let certificates_good : Each (GoodCertificate g b.v b.base) b.certificates =
      (good record { signer = signer; body = body.Report b; sig = sig } h).1 in
      let both = and_parts (nat_lt signer g.n) _
      (placed record { signer = signer; body = body.Report b; sig = sig } h) in
      let certificates = and_parts _ _ both.1 in
      let marks = and_parts _ _ certificates.0 in
      let count = and_parts _ _ marks.0 in
      let base = and_parts _ _ count.0 in
      let step = and_parts _ _ base.0 in
      let view = and_parts _ _ step.0 in
      let v : b.v < 2 ^ 64 = view_64 b.v view.1 in (
        master_32 signer both.0,
        (
          v,
          (
            number_small b.base (leb-true b.base most_number base.1),
            (
              all_recursively (FitsSigner FitsMark) b.marks (λ m k. mark_fits m.signer m.body m.sig
                  (closed record { signer = signer; body = body.Report b; sig = sig } (as_frame body.Mark m) h
                  (in_left _ (in_map (as_frame body.Mark) k)))),
              all_recursively FitsCertificate b.certificates (λ c k. (
                number_small c.s (certificate_number b.base b.v c
                    (all_at (certificate_in_place g b.base b.v) k certificates.1)),
                (
                  below_64 c.v b.v (certificates_good c k).lower v,
                  (
                    rows_fits c.rows (certificates_good c k).rows,
                    all_recursively (FitsSigner FitsPrepare) c.prepares (λ p l. prepare_fits p.signer p.body p.sig
                        (closed record { signer = signer; body = body.Report b; sig = sig } (as_frame body.Prepare p) h
                        (in_right (frames_of body.Mark b.marks)
                        (in_flat_map (λ (c : Certificate). frames_of body.Prepare c.prepares) k
                        (in_map (as_frame body.Prepare) l))))),
                  ),
                ),
              )),
            ),
          ),
        ),
      )

  part_fits : (signer : ℕ) (b : Body) (sig : List ℕ) → IsIn record { signer = signer; body = b; sig = sig } known →
      FitsPart signer b
  part_fits signer (body.Update b) sig h = update_fits signer b sig h
  part_fits signer (body.PoRequest b) sig h =
      let both = and_parts (nat_lt signer g.n) (is_number b.k)
      (placed record { signer = signer; body = body.PoRequest b; sig = sig } h) in (
        master_32 signer both.0,
        (
          is_number_64 b.k both.1,
          update_fits b.update.signer b.update.body b.update.sig
              (closed record { signer = signer; body = body.PoRequest b; sig = sig }
              (as_frame body.Update b.update) h (here [])),
        ),
      )
  part_fits signer (body.PoAck b) sig h =
      let both = and_parts (nat_lt signer g.n) (nat_lt b.j g.n && is_number b.k)
      (placed record { signer = signer; body = body.PoAck b; sig = sig } h) in
      let numbers = and_parts (nat_lt b.j g.n) (is_number b.k) both.1 in (
        master_32 signer both.0,
        (
          master_32 b.j numbers.0,
          (is_number_64 b.k numbers.1, digests record { signer = signer; body = body.PoAck b; sig = sig } h),
        ),
      )
  part_fits signer (body.PoSummary b) sig h =
      let both = and_parts (nat_lt signer g.n) _
      (placed record { signer = signer; body = body.PoSummary b; sig = sig } h) in
      let numbers = and_parts (nat_eq (length b.numbers) g.n) (list_all (λ x. nat_le x most_number) b.numbers)
      both.1 in (
        master_32 signer both.0,
        all_recursively Is64 b.numbers
            (λ x k. number_small x (leb-true x most_number (all_at (λ x. nat_le x most_number) k numbers.1))),
      )
  part_fits signer (body.Prepare b) sig h = prepare_fits signer b sig h
  part_fits signer (body.Commit b) sig h =
      let both = and_parts (nat_lt signer g.n) (is_view b.v && is_number b.s)
      (placed record { signer = signer; body = body.Commit b; sig = sig } h) in
      let numbers = and_parts (is_view b.v) (is_number b.s) both.1 in (
        master_32 signer both.0,
        (
          view_64 b.v numbers.0,
          (
            is_number_64 b.s numbers.1,
            digests record { signer = signer; body = body.Commit b; sig = sig } h,
          ),
        ),
      )
  part_fits signer (body.Mark b) sig h = mark_fits signer b sig h
  part_fits signer (body.Report b) sig h = report_fits signer b sig h
  part_fits signer _ sig h = tt

  pub placed_fit : Each IsFit known
  placed_fit p h = part_fits p.signer p.body p.sig h

closed_parts_of : (f : Signed Body) → Closed (parts f)
closed_parts_of f p r h k = parts_closed f p r h k

-- What is taken is heard, where its signers said it.
frame_heard : (w : Setup) (history : List Entry) (now stamp place : ℕ) (f : Signed Body) → HasSizes w.group →
    w.group.n + w.group.clients ≤ 2 ^ 32 → TakesWell w now (Took stamp place f)
    → Each (IsBorne w history) (parts f) → Each (IsHeard w history) (parts f)
frame_heard w history now stamp place f sizes few well borne p h =
    let good : Each (GoodFrame w.group) (parts f) =
    (λ q k. good_event w now sizes (Took stamp place f) well q (in_left [] k)) in
    record {
      borne = borne p h;
      fit = placed_fit w.group few (parts f) (closed_parts_of f) good
          (all_each (in_place w.group) (parts f) (standing_is_whole w f well.0)) (λ q k. (borne q k).digest) p h;
      spelled = known-spelled (parts f) (parts-spelled f (spelled_of_standing w f well.0)) p h;
    }

pub taken_heard : (w : Setup) (history : List Entry) (now : ℕ) (event : Event) → HasSizes w.group →
    w.group.n + w.group.clients ≤ 2 ^ 32 → TakesWell w now event
    → Each (IsBorne w history) (flat_map parts (taken_frames (frame_taken event))) →
    Each (IsHeard w history) (flat_map parts (taken_frames (frame_taken event)))
taken_heard w history now (Took stamp place f) sizes few well borne = (λ p h. elim (in_cases (parts f) h) [
  | inl part ↦ frame_heard w history now stamp place f sizes few well (λ q k. borne q (in_left [] k)) p part
  | inr none ↦ absurd (none_in none)
])
taken_heard w history now _ sizes few well borne = each_none _
