-- Whatever a correct master learned is in its place.
use Rattle.std.proofs.Common.{◌≡◌, ℕ, ℤ, ◌+◌, ◌-◌, ◌*◌, ◌^◌, ◌<◌, ◌≤◌, Bool, true, false, cond, ◌&&◌, List}
use Rattle.std.proofs.Common.{[], ◌∷◌, Option, Some, None, take, map, filter, nat_eq, nat_lt, nat_le, length}
use Rattle.std.proofs.Common.{length-take-le, refl, sym, ◌∙◌, ap, subst, inl, inr, arith, eqb-true, FitsSigned}
use Rattle.std.proofs.lemmas.Bool.{false≢true, and_parts, leb-true, ltb-true}
use Rattle.std.proofs.lemmas.List.{length-map}
use Rattle.std.specs.List.{flat_map, filter_map, list_all, find, take-map}
use Rattle.std.specs.Str.{bytes_eq}
use Rattle.std.specs.Int.{w64}
use Rattle.std.specs.Prelude.{pos, negsuc}
use Rattle.plain_lists.specs.Lists.{IsIn, here, Within, Each}
use Rattle.plain_lists.proofs.Members.{none_in, in_cons_cases, in_cases, each_none, each_one, each_append, each_map, each_flat_map, in_map, in_map_from, in_flat_map, in_flat_map_from, in_filter_map_from, in_filter_from, in_take, find_some, all_at}
use Rattle.protocol_rules.proofs.FirstMet.{first_in, first_met_from}
use Rattle.quorum_sets.specs.Masters.{numbers_below}
use Rattle.message_types.specs.declared.signed.Signed.{Signed}
use Rattle.message_types.specs.declared.updates.Op.{Op}
use Rattle.message_types.specs.declared.updates.Op.TheVariants as op
use Rattle.message_types.specs.declared.updates.Update.{Update}
use Rattle.message_types.specs.declared.vouchers.Order.{Order}
use Rattle.message_types.specs.declared.preordering.PoSummary.{PoSummary}
use Rattle.message_types.specs.declared.ordering.Prepare.{Prepare}
use Rattle.message_types.specs.declared.ordering.Certificate.{Certificate}
use Rattle.message_types.specs.declared.views.Report.{Report}
use Rattle.message_types.specs.declared.body.Body.{Body}
use Rattle.message_types.specs.declared.body.Body.TheVariants as body
use Rattle.message_types.specs.Parts.{parts, inside, inside_report, request_parts, as_frame, frames_of}
use Rattle.message_types.specs.Digests.{digest_of_rows}
use Rattle.message_types.specs.Spelling.{has_spelling, body_fits, report_fits, frames_fit, certificate_fits}
use Rattle.message_types.specs.Spelling.{signature_fits, signers_of}
use Rattle.protocol_rules.specs.declared.facts.OrderFact.{OrderFact}
use Rattle.protocol_rules.specs.Words.{first_of_list}
use Rattle.protocol_rules.specs.Group.{Group, most_number, window}
use Rattle.protocol_rules.specs.Places.{in_place, word_in_place, certificate_in_place, are_rows, is_row, op_in_place}
use Rattle.protocol_rules.specs.Places.{in_signed_64_bits}
use Rattle.protocol_rules.specs.Facts.{facts_of, rows_known}
use Rattle.protocol_rules.specs.Plans.{plan_of, planned, chosen, certificates_of, no_rows, goes_before}
use Rattle.protocol_rules.specs.Matrix.{rows_of_frames}
use Rattle.protocol_rules.specs.Preorder.{vector, certified}
use Rattle.protocol_rules.specs.Order.{ordered, is_voted, is_committed, prepare_by, first_votes, least_prepared}
use Rattle.protocol_rules.specs.Order.{certificate_of, stable}
use Rattle.protocol_rules.specs.Views.{view, report_by, first_reports}
use Rattle.protocol_rules.specs.Master.{taken_at, said_before, taken_frames}
use Rattle.history_rules.specs.Events.{Event, Took, Entry, frame_taken}
use Rattle.history_rules.specs.Setup.{Setup, is_correct_master, stands}
use Rattle.history_rules.specs.Legal.{IsLegal, TakesWell, heard}
use Rattle.history_rules.specs.Audit.{rows_held}
use Rattle.agreement.specs.Laws.{HasSizes}
use Rattle.agreement.proofs.QuorumsMeet.{Rising, rising_from, rising_take, rising_by_master}
use Rattle.agreement.proofs.KnownAsItGrows.{learned_by, known_then}
use Rattle.agreement.proofs.SpokenByKind.{Due}
use Rattle.agreement.proofs.FramesInside.{Closed, rows_from, rows_more, best_in, bytes_same, vote_from, prepare_by_from}
use Rattle.agreement.proofs.FramesInside.{certificate_from, report_from}
use Rattle.agreement.proofs.LearnedWasSaid.{learned_all, known_closed}
use Rattle.quorum_sets.proofs.Numbered.{length-numbers_below}
use Rattle.protocol_rules.proofs.Numbers.{length-run_from, from_above}

-- rows that their text tells: short ones, of numbers of 64 bits
abbrev pub GoodRow : List ℕ → Type 0
GoodRow row = (length row < 65536) × Each (λ x. x < 2 ^ 64) row

abbrev pub GoodRows : List (List ℕ) → Type 0
GoodRows rows = (length rows < 65536) × Each GoodRow rows

abbrev pub GoodOp : Op → Type 0
GoodOp (op.Reading point value) = (point < 2 ^ 32) × FitsSigned w64 value
GoodOp (op.Set point value) = (point < 2 ^ 32) × FitsSigned w64 value
GoodOp (op.Ack alarm) = alarm < 2 ^ 32

-- a certificate of a report of view v
pub record GoodCertificate (g : Group) (v base : ℕ) (c : Certificate) : Type 0 where
  pub lower : c.v < v
  pub above : base < c.s
  pub rows : GoodRows c.rows
  pub apart : Rising (signers_of c.prepares)
  pub enough : g.q ≤ length c.prepares
  pub alike : Each (λ p. (p.body.v ≡ c.v) × (p.body.s ≡ c.s) × (p.body.digest ≡ digest_of_rows c.rows)) c.prepares

abbrev pub Good : Group → Body → Type 0
Good g (body.Update b) = (b.client < 2 ^ 32) × (b.t < 2 ^ 64) × GoodOp b.op
Good g (body.PoSummary b) = GoodRow b.numbers
Good g (body.Report b) = Each (GoodCertificate g b.v b.base) b.certificates
Good g (body.NewView b) = (1 ≤ b.v) × Rising (signers_of b.reports) × (g.q ≤ length b.reports)
    × Each (λ r. r.body.v ≡ b.v) b.reports
Good g (body.GiveOrdered b) = GoodRows b.rows
Good g _ = Unit {0}

-- updates are clients', all else is masters'
abbrev pub SignedWell : Group → ℕ → Body → Type 0
SignedWell g signer (body.Update b) = signer ≡ g.n + b.client
SignedWell g signer _ = signer < g.n

abbrev pub GoodFrame : Group → Signed Body → Type 0
GoodFrame g p = SignedWell g p.signer p.body × Good g p.body

-- what a spelling says of the lists in a word
abbrev Spelled : Body → Type 0
Spelled (body.Report b) = report_fits b ≡ true
Spelled (body.NewView b) = frames_fit report_fits b.reports ≡ true
Spelled _ = Unit {0}

spelled_from : (b : Body) → body_fits b ≡ true → Spelled b
spelled_from (body.Report b) h = h
spelled_from (body.NewView b) h = h
spelled_from _ h = tt

plain_frames : {B : Type 0} (kind : B → Body) (fs : List (Signed B)) → ((b : B) → Spelled (kind b)) →
    Each (λ p. Spelled p.body) (frames_of kind fs)
plain_frames kind fs plain = each_map (λ p. Spelled p.body) (as_frame kind) fs (λ f _. plain f.body)

plain_report : (b : Report) → Each (λ p. Spelled p.body) (inside_report b)
plain_report b = each_append _ (frames_of body.Mark b.marks) _ (plain_frames body.Mark b.marks (λ _. tt))
    (each_flat_map _ (λ c. frames_of body.Prepare c.prepares) b.certificates
    (λ c _. plain_frames body.Prepare c.prepares (λ _. tt)))

spelled_inside : (b : Body) → body_fits b ≡ true → Each (λ p. Spelled p.body) (inside b)
spelled_inside (body.PoRequest b) h = each_one _ (as_frame body.Update b.update) tt
spelled_inside (body.PrePrepare b) h = plain_frames body.PoSummary b.frames (λ _. tt)
spelled_inside (body.Report b) h = plain_report b
spelled_inside (body.NewView b) h =
    each_flat_map _ (λ (f : Signed Report). as_frame body.Report f ∷ inside_report f.body) b.reports (λ r k.
    (λ p within. elim (in_cons_cases within) [
      | inl e ↦ subst (λ (z : Signed Body). Spelled z.body) (sym e)
          (and_parts _ _ (all_at (λ f. report_fits f.body && signature_fits f) k (and_parts _ _ h).1)).0
      | inr deeper ↦ plain_report r.body p deeper
    ]))
spelled_inside (body.Give b) h = each_append _ (request_parts b.request) (frames_of body.PoAck b.acks)
    (λ p within. elim (in_cons_cases within) [
      | inl e ↦ subst (λ (z : Signed Body). Spelled z.body) (sym e) tt
      | inr deeper ↦ each_one (λ (z : Signed Body). Spelled z.body)
          (as_frame body.Update b.request.body.update) tt p deeper
    ])
    (plain_frames body.PoAck b.acks (λ _. tt))
spelled_inside (body.GiveOrdered b) h = plain_frames body.Commit b.commits (λ _. tt)
spelled_inside _ h = each_none _

spelled_parts : (f : Signed Body) → has_spelling f ≡ true → Each (λ p. Spelled p.body) (parts f)
unfolding has_spelling
spelled_parts f h p k = elim (in_cons_cases k) [
  | inl e ↦ subst (λ (z : Signed Body). Spelled z.body) (sym e)
      (spelled_from f.body (and_parts (body_fits f.body) (signature_fits f) h).0)
  | inr within ↦ spelled_inside f.body (and_parts (body_fits f.body) (signature_fits f) h).0 p within
]

-- sizes and limits are small
pub number_small : (x : ℕ) → x ≤ most_number → x < 2 ^ 64
unfolding most_number
number_small x h = omega arith

pub masters_few : (g : Group) → HasSizes g → g.n < 65536
masters_few g sizes =
    let all : g.n ≡ 3 * g.f + 2 * g.k + 1 = sizes.all in
    let f_few : g.f ≤ 3 = sizes.group.at_most_three_intruded in
    let k_few : g.k ≤ 2 = sizes.group.at_most_two_away in
    omega arith

in_some : {X : Type 0} {x : X} (xs : List X) → IsIn x xs → length xs ≡ 0 → ⊥
in_some [] h e = none_in h
in_some (y ∷ ys) h e = absurd (omega arith)

good_row : (g : Group) → HasSizes g → (row : List ℕ) → length row ≡ g.n →
    list_all (λ x. nat_le x most_number) row ≡ true → GoodRow row
good_row g sizes row len small =
    let few : g.n < 65536 = masters_few g sizes in
    (omega arith, λ x h. number_small x (leb-true x most_number (all_at (λ x. nat_le x most_number) h small)))

good_empty : (row : List ℕ) → length row ≡ 0 → GoodRow row
good_empty row len = (omega arith, λ x h. absurd (in_some row h len))

row_from : (g : Group) → HasSizes g → (row : List ℕ) → is_row g row ≡ true → GoodRow row
row_from g sizes row h = by_length (nat_eq (length row) 0) refl h
  where
    by_length : (b : Bool) → nat_eq (length row) 0 ≡ b →
        cond b true (nat_eq (length row) g.n && list_all (λ x. nat_le x most_number) row) ≡ true → GoodRow row
    by_length true empty h = good_empty row (eqb-true (length row) 0 empty)
    by_length false some h =
        let both = and_parts (nat_eq (length row) g.n) (list_all (λ x. nat_le x most_number) row) h in
        good_row g sizes row (eqb-true (length row) g.n both.0) both.1

rows_from_place : (g : Group) → HasSizes g → (rows : List (List ℕ)) → are_rows g rows ≡ true → GoodRows rows
rows_from_place g sizes rows h =
    let both = and_parts (nat_eq (length rows) g.n) (list_all (is_row g) rows) h in
    let len : length rows ≡ g.n = eqb-true (length rows) g.n both.0 in
    let few : g.n < 65536 = masters_few g sizes in
    (omega arith, λ row k. row_from g sizes row (all_at (is_row g) k both.1))

count_enough : {X : Type 0} (q : ℕ) (xs : List X) → length xs ≡ q → q ≤ length xs
count_enough q xs e = omega arith

good_certificate : (g : Group) → HasSizes g → (v base : ℕ) (c : Certificate) →
    certificate_in_place g base v c ≡ true → certificate_fits c ≡ true → GoodCertificate g v base c
good_certificate g sizes v base c placed fits =
    let a = and_parts _ _ placed in
    let b = and_parts _ _ a.0 in
    let d = and_parts _ _ b.0 in
    let e = and_parts _ _ d.0 in
    let f = and_parts _ _ e.0 in
    let h = and_parts _ _ f.0 in
    let frames = and_parts _ _ fits in
    let spelled = and_parts _ _ frames.1 in
    let rising = and_parts _ _ spelled.0 in
    let count : length c.prepares ≡ g.q = eqb-true (length c.prepares) g.q b.1 in
    record {
      lower = ltb-true c.v v e.1;
      above = ltb-true base c.s h.0;
      rows = rows_from_place g sizes c.rows d.1;
      apart = rising_from (signers_of c.prepares) rising.1;
      enough = count_enough g.q c.prepares count;
      alike = λ p k.
          let all = all_at (λ p. nat_eq p.body.v c.v && nat_eq p.body.s c.s
          && bytes_eq p.body.digest (digest_of_rows c.rows)) k a.1 in
          let digest = and_parts _ _ all in
          let numbers = and_parts _ _ digest.0 in (
            eqb-true p.body.v c.v numbers.0,
            eqb-true p.body.s c.s numbers.1,
            bytes_same p.body.digest (digest_of_rows c.rows) digest.1,
          );
    }

good_word : (g : Group) → HasSizes g → (signer : ℕ) (b : Body) → word_in_place g signer b ≡ true → Spelled b → Good g b
good_word g sizes signer (body.Update b) placed spelled = absurd (false≢true placed)
good_word g sizes signer (body.PoSummary b) placed spelled =
    let both = and_parts (nat_eq (length b.numbers) g.n) (list_all (λ x. nat_le x most_number) b.numbers) placed in
    good_row g sizes b.numbers (eqb-true (length b.numbers) g.n both.0) both.1
good_word g sizes signer (body.Report b) placed spelled =
    let certificates = and_parts _ _ placed in
    let fits = and_parts _ _ spelled in
    (λ c h. good_certificate g sizes b.v b.base c (all_at (certificate_in_place g b.base b.v) h certificates.1)
    (all_at certificate_fits h fits.1))
good_word g sizes signer (body.NewView b) placed spelled =
    let views = and_parts _ _ placed in
    let count = and_parts _ _ views.0 in
    let leads = and_parts _ _ count.0 in
    let low = and_parts _ _ leads.0 in
    let fits = and_parts _ _ spelled in
    let rising = and_parts _ _ fits.0 in
    let many : length b.reports ≡ g.q = eqb-true (length b.reports) g.q count.1 in (
      leb-true 1 b.v low.0,
      rising_from (signers_of b.reports) rising.1,
      count_enough g.q b.reports many,
      λ r h. eqb-true r.body.v b.v (all_at (λ r. nat_eq r.body.v b.v) h views.1),
    )
good_word g sizes signer (body.GiveOrdered b) placed spelled =
    let commits = and_parts _ _ placed in
    let count = and_parts _ _ commits.0 in
    let rows = and_parts _ _ count.0 in
    rows_from_place g sizes b.rows rows.1
good_word g sizes signer _ placed spelled = tt

good_signed : (z : ℤ) → in_signed_64_bits z ≡ true → FitsSigned w64 z
good_signed (pos a) h = let small : a ≤ 2 ^ 63 - 1 = leb-true a (2 ^ 63 - 1) h in record { sfits = omega arith }
good_signed (negsuc a) h = let small : a ≤ 2 ^ 63 - 1 =
    leb-true a (2 ^ 63 - 1) (and_parts (nat_le a (2 ^ 63 - 1)) true h).0 in record { sfits = omega arith }

good_op : (o : Op) → op_in_place o ≡ true → GoodOp o
good_op (op.Reading point value) h = let both = and_parts _ _ h in
    (ltb-true point (2 ^ 32) both.0, good_signed value both.1)
good_op (op.Set point value) h = let both = and_parts _ _ h in
    (ltb-true point (2 ^ 32) both.0, good_signed value both.1)
good_op (op.Ack alarm) h = ltb-true alarm (2 ^ 32) h

good_body : (g : Group) → HasSizes g → (signer : ℕ) (b : Body) (sig : List ℕ) →
    in_place g record { signer = signer; body = b; sig = sig } ≡ true → Spelled b →
    GoodFrame g record { signer = signer; body = b; sig = sig }
good_body g sizes signer (body.Update b) sig placed spelled =
    let ops = and_parts _ _ placed in
    let times = and_parts _ _ ops.0 in
    let own = and_parts _ _ times.0 in
    let small = and_parts _ _ own.0 in (
      eqb-true signer (g.n + b.client) own.1,
      (ltb-true b.client (2 ^ 32) small.1, ltb-true b.t (2 ^ 64) times.1, good_op b.op ops.1),
    )
good_body g sizes signer b sig placed spelled =
    let both = and_parts (nat_lt signer g.n) (word_in_place g signer b) placed in
    (ltb-true signer g.n both.0, good_word g sizes signer b both.1 spelled)

-- the parts of a frame that stands
pub good_event : (w : Setup) (now : ℕ) → HasSizes w.group → (event : Event) → TakesWell w now event →
    Each (GoodFrame w.group) (flat_map parts (taken_frames (frame_taken event)))
unfolding stands
good_event w now sizes (Took stamp place frame) well = (λ p h. elim (in_cases (parts frame) h) [
  | inl part ↦
      let both = and_parts _ _ well.0 in
      let at = and_parts _ _ (all_at (λ p. nat_lt p.signer (w.group.n + w.group.clients)
      && w.signs p.signer (Rattle.message_types.specs.Texts.body_text p.body) p.sig && in_place w.group p)
      part both.1) in
      good_body w.group sizes p.signer p.body p.sig at.1 (spelled_parts frame both.0 p part)
  | inr none ↦ absurd (none_in none)
])
good_event w now sizes _ well = each_none _

-- what rows are known are good where all words known are
rows_of_found : (g : Group) (frames : List (Signed PoSummary)) (j : ℕ) → Each (λ f. GoodRow f.body.numbers) frames
    → GoodRow (elim (find (λ f. nat_eq f.signer j) frames) [ None ↦ [] | Some f ↦ f.body.numbers ])
rows_of_found g frames j good = by_found (find (λ f. nat_eq f.signer j) frames) refl
  where
    by_found : (o : Option (Signed PoSummary)) → find (λ f. nat_eq f.signer j) frames ≡ o →
        GoodRow (elim o [ None ↦ [] | Some f ↦ f.body.numbers ])
    by_found None e = good_empty [] refl
    by_found (Some f) e = good f (find_some (λ f. nat_eq f.signer j) frames e).0

abbrev row_at : List (Signed PoSummary) → ℕ → List ℕ
row_at frames j = elim (find (λ f. nat_eq f.signer j) frames) [ None ↦ [] | Some f ↦ f.body.numbers ]

good_frames_rows : (g : Group) → HasSizes g → (frames : List (Signed PoSummary)) →
    Each (λ f. GoodRow f.body.numbers) frames → GoodRows (rows_of_frames g frames)
unfolding rows_of_frames
good_frames_rows g sizes frames good =
    let len : length (map (row_at frames) (numbers_below g.n)) ≡ g.n = length-map (numbers_below g.n) (row_at frames)
    ∙ length-numbers_below g.n in
    let few : g.n < 65536 = masters_few g sizes in
    (omega arith, each_map GoodRow (row_at frames) (numbers_below g.n) (λ j _. rows_of_found g frames j good))

good_no_rows : (g : Group) → HasSizes g → GoodRows (no_rows g)
good_no_rows g sizes =
    let len : length (no_rows g) ≡ g.n = length-map (numbers_below g.n) (λ j. []) ∙ length-numbers_below g.n in
    let few : g.n < 65536 = masters_few g sizes in
    (omega arith, each_map GoodRow (λ j. []) (numbers_below g.n) (λ j _. good_empty [] refl))

good_planned : (g : Group) → HasSizes g → (reports : List Report) (s : ℕ) →
    ((c : Certificate) → IsIn c (certificates_of reports) → GoodRows c.rows) → GoodRows (planned g reports s)
unfolding chosen
good_planned g sizes reports s good = by_chosen (chosen reports s) refl
  where
    by_chosen : (o : Option Certificate) → chosen reports s ≡ o →
        GoodRows (elim o [ Some c ↦ c.rows | None ↦ no_rows g ])
    by_chosen None e = good_no_rows g sizes
    by_chosen (Some c) e = good c
        (in_filter_from (λ c. nat_eq c.s s) (certificates_of reports)
        (best_in goes_before (filter (λ c. nat_eq c.s s) (certificates_of reports)) e)).0

good_plan : (g : Group) → HasSizes g → (reports : List Report) →
    ((c : Certificate) → IsIn c (certificates_of reports) → GoodRows c.rows) → Each GoodRows (plan_of g reports).rows
unfolding plan_of
good_plan g sizes reports good = each_map GoodRows (planned g reports) _ (λ s _. good_planned g sizes reports s good)

module _ (g : Group) (sizes : HasSizes g) (known : List (Signed Body)) (closed : Closed known)
    (all_good : Each (GoodFrame g) known) where
  held_in_word : (signer : ℕ) (b : Body) (sig : List ℕ) → IsIn record { signer = signer; body = b; sig = sig } known →
      Each GoodRows (rows_held g b)
  held_in_word signer (body.PrePrepare b) sig h =
      each_one GoodRows (rows_of_frames g b.frames) (good_frames_rows g sizes b.frames (λ f k.
      (all_good (as_frame body.PoSummary f) (closed record { signer = signer; body = body.PrePrepare b; sig = sig }
      (as_frame body.PoSummary f) h (in_map (as_frame body.PoSummary) k))).1))
  held_in_word signer (body.Report b) sig h =
      each_map GoodRows (λ c. c.rows) b.certificates
      (λ c k. ((all_good record { signer = signer; body = body.Report b; sig = sig } h).1 c k).rows)
  held_in_word signer (body.GiveOrdered b) sig h =
      each_one GoodRows b.rows (all_good record { signer = signer; body = body.GiveOrdered b; sig = sig } h).1
  held_in_word signer (body.NewView b) sig h = good_plan g sizes (map (λ r. r.body) b.reports) (λ c k.
      let report = in_flat_map_from (λ (r : Report). r.certificates) (map (λ r. r.body) b.reports) k in
      let frame = in_map_from (λ (r : Signed Report). r.body) b.reports report.1 in
      let known_report : IsIn (as_frame body.Report frame.0) known =
      closed record { signer = signer; body = body.NewView b; sig = sig } (as_frame body.Report frame.0) h
      (in_flat_map (λ (f : Signed Report). as_frame body.Report f ∷ inside_report f.body) frame.1
      (here (inside_report frame.0.body))) in
      ((all_good (as_frame body.Report frame.0) known_report).1 c
      (subst (λ (r : Report). IsIn c r.certificates) frame.2 report.2)).rows)
  held_in_word signer _ sig h = each_none GoodRows

  pub rows_good : Each GoodRows (rows_known (facts_of g known))
  rows_good rows h = let found = rows_from g known rows h in
      held_in_word found.0.signer found.0.body found.0.sig found.1 rows found.2

vector_small : (g : Group) (known : List (Signed Body)) (j : ℕ) → vector g known j ≤ most_number
unfolding vector
vector_small g known j = length-run_from (λ k. certified g known j k) 1 most_number

taken_enough : {X : Type 0} (q : ℕ) (xs : List X) → q ≤ length xs → q ≤ length (take q xs)
taken_enough q xs h = let e : length (take q xs) ≡ q = length-take-le q xs h in omega arith

-- a certificate of a report of one's own
own_certificate : (g : Group) (facts : List OrderFact) → Each GoodRows (rows_known facts) →
    (v base s w : ℕ) (rows : List (List ℕ)) → w < v → base < s → least_prepared g facts w s ≡ Some rows
    → GoodCertificate g v base (certificate_of g facts s w rows)
unfolding is_voted
own_certificate g facts good v base s w rows lower above e =
    let member = in_filter_from (λ rows. is_voted g (prepare_by w s (digest_of_rows rows)) facts) (rows_known facts)
    (best_in (λ a b. Rattle.protocol_rules.specs.Plans.digest_below (digest_of_rows a) (digest_of_rows b))
    (filter (λ rows. is_voted g (prepare_by w s (digest_of_rows rows)) facts) (rows_known facts)) e) in
    let votes : List (Signed Prepare) = first_votes g (prepare_by w s (digest_of_rows rows)) facts in
    let rising = rising_by_master (λ m. first_of_list (filter_map (prepare_by w s (digest_of_rows rows) m) facts))
    (λ m x first.
    let fact_in = in_filter_map_from (prepare_by w s (digest_of_rows rows) m) facts
    (first_in (filter_map (prepare_by w s (digest_of_rows rows) m) facts) first) in
    (prepare_by_from w s (digest_of_rows rows) m fact_in.0 x fact_in.2).1) g.n in
    record {
      lower = lower;
      above = above;
      rows = good rows member.0;
      apart = subst Rising (take-map (λ f. f.signer) g.q votes) (rising_take g.q (signers_of votes) rising.0);
      enough = taken_enough g.q votes (leb-true g.q (length votes) member.1);
      alike = λ p k.
          let vote = vote_from g (prepare_by w s (digest_of_rows rows)) facts p (in_take g.q votes k) in
          let is = prepare_by_from w s (digest_of_rows rows) vote.0 vote.1 p vote.4 in
          (is.2, is.3, is.4);
    }

-- ordered rows are known, and their digest committed where some of the facts are known
pub ordered_from : (g : Group) (facts : List OrderFact) (s : ℕ) (rows : List (List ℕ)) → ordered g facts s ≡ Some rows
    → IsIn rows (rows_known facts)
    × ((beginning : List OrderFact) × Within beginning facts
    × (is_committed g beginning s (digest_of_rows rows) ≡ true))
unfolding ordered
ordered_from g facts s rows e =
    let met = first_met_from (λ beginning. find (λ rows. is_committed g beginning s (digest_of_rows rows))
    (rows_known beginning)) [] facts e in
    let found = find_some (λ rows. is_committed g met.0 s (digest_of_rows rows)) (rows_known met.0) met.2 in
    (rows_more met.0 facts met.1 rows found.0, (met.0, met.1, found.1))

module _ (g : Group) (orders : List Update → ℕ → List Order) (sizes : HasSizes g) (known : List (Signed Body))
    (closed : Closed known) (all_good : Each (GoodFrame g) known) (taken : List (Signed Body)) (said : List Body) where
  good_due : (b : Body) → Due g orders known taken said b → Good g b
  good_due (body.Update b) due = absurd due
  good_due (body.PoSummary b) due =
      let few : g.n < 65536 = masters_few g sizes in
      let len : length b.numbers ≡ g.n = ap length due ∙ length-map (numbers_below g.n) (vector g known)
      ∙ length-numbers_below g.n in (
        omega arith,
        subst (λ (xs : List ℕ). Each (λ x. x < 2 ^ 64) xs) (sym due)
            (each_map (λ x. x < 2 ^ 64) (vector g known) (numbers_below g.n)
            (λ j _. number_small (vector g known j) (vector_small g known j))),
      )
  good_due (body.Report b) due = (λ c h.
      let found = certificate_from g (facts_of g known) (view g known) c
      (subst (λ (cs : List Certificate). IsIn c cs) due.3 h) in
      let above : stable g (facts_of g known) + 1 ≤ found.0 =
      from_above (stable g (facts_of g known) + 1) window found.0 found.3 in
      let at : b.v ≡ view g known = due.0 in
      let based : b.base ≡ stable g (facts_of g known) = due.1 in
      let below : found.1 < view g known = found.4 in
      subst (GoodCertificate g b.v b.base) found.6
      (own_certificate g (facts_of g known) (rows_good g sizes known closed all_good) b.v b.base found.0 found.1
      found.2 (omega arith) (omega arith) found.5))
  good_due (body.NewView b) due =
      let first : List (Signed Report) = first_reports g known b.v in
      let rising = rising_by_master (λ m. first_of_list (filter_map (report_by b.v m) known))
      (λ m x e. (report_from g known b.v m x e).1) g.n in (
        due.0,
        subst (λ (rs : List (Signed Report)). Rising (signers_of rs)) (sym due.1)
            (subst Rising (take-map (λ f. f.signer) g.q first) (rising_take g.q (signers_of first) rising.0)),
        subst (λ (rs : List (Signed Report)). g.q ≤ length rs) (sym due.1) (taken_enough g.q first due.2),
        subst (λ (rs : List (Signed Report)). Each (λ r. r.body.v ≡ b.v) rs) (sym due.1) (λ r h.
            let master = in_filter_map_from (λ m. first_of_list (filter_map (report_by b.v m) known))
            (numbers_below g.n) (in_take g.q first h) in
            (report_from g known b.v master.0 r master.2).2),
      )
  good_due (body.GiveOrdered b) due =
      let met = ordered_from g (facts_of g known) b.s b.rows due.2 in
      rows_good g sizes known closed all_good b.rows met.0
  good_due _ due = tt

  signed_due : (signer : ℕ) (b : Body) → signer < g.n → Due g orders known taken said b → SignedWell g signer b
  signed_due signer (body.Update b) lt due = absurd due
  signed_due signer _ lt due = lt

-- all that a correct master learned is in its place
pub learned_good : (w : Setup) (i : ℕ) (history : List Entry) → IsLegal w history → HasSizes w.group →
    is_correct_master w i ≡ true → Each (GoodFrame w.group) (learned_by w history i)
learned_good w i history legal sizes correct = learned_all w i history (GoodFrame w.group) legal correct
    (λ before e s by. good_event w (length before) sizes e.event (legal.entries before e s).taken)
    (λ before e s by loud good p signer h due.
    let known : List (Signed Body) = known_then w before i e in
    let taken : List (Signed Body) = taken_at (heard w before i) (frame_taken e.event) in
    let below : i < w.group.n = ltb-true i w.group.n (and_parts _ _ correct).0 in
    let at : p.signer ≡ i = signer in (
      signed_due w.group w.orders sizes known (known_closed (heard w before i) (frame_taken e.event)) good taken
          (said_before (heard w before i)) p.signer p.body (omega arith) due,
      good_due w.group w.orders sizes known (known_closed (heard w before i) (frame_taken e.event)) good taken
          (said_before (heard w before i)) p.body due,
    ))
