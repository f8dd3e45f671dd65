-- What a correct master says has a spelling: its lists are of masters one by one, and what is in them was known.
use Rattle.std.proofs.Common.{◌≡◌, ℕ, ◌+◌, ◌*◌, ◌≤◌, zero, suc, Bool, true, false, cond, ◌&&◌, List, [], ◌∷◌, Option}
use Rattle.std.proofs.Common.{Some, None, length, take, map, filter, nat_eq, nat_le, refl, sym, ◌∙◌, ap, subst, inl}
use Rattle.std.proofs.Common.{inr, arith, eqb-true}
use Rattle.std.specs.List.{list_all, flat_map, filter_map, cons_option, take-map}
use Rattle.std.specs.Option.{option_map}
use Rattle.std.proofs.lemmas.Bool.{and_from, and_parts, le-leb, lt-ltb}
use Rattle.std.proofs.lemmas.List.{length-map}
use Rattle.plain_lists.specs.Lists.{IsIn, here, Within, Each}
use Rattle.plain_lists.proofs.Members.{in_filter_from, each_none, each_one, each_append, each_map, each_flat_map, in_cons_cases, in_left, in_right, in_map, in_map_from, in_flat_map, in_flat_map_from, in_filter_map_from, none_some}
use Rattle.protocol_rules.proofs.FirstMet.{first_in}
use Rattle.quorum_sets.specs.Masters.{numbers_below}
use Rattle.message_types.specs.declared.signed.Signed.{Signed}
use Rattle.message_types.specs.declared.updates.Update.{Update}
use Rattle.message_types.specs.declared.vouchers.Order.{Order}
use Rattle.message_types.specs.declared.preordering.PoSummary.{PoSummary}
use Rattle.message_types.specs.declared.preordering.PoAck.{PoAck}
use Rattle.message_types.specs.declared.ordering.Commit.{Commit}
use Rattle.message_types.specs.declared.ordering.Mark.{Mark}
use Rattle.message_types.specs.declared.ordering.Certificate.{Certificate}
use Rattle.message_types.specs.declared.views.Report.{Report}
use Rattle.message_types.specs.declared.views.NewView.{NewView}
use Rattle.message_types.specs.declared.reconciling.Give.{Give}
use Rattle.message_types.specs.declared.reconciling.GiveOrdered.{GiveOrdered}
use Rattle.message_types.specs.declared.body.Body.{Body}
use Rattle.message_types.specs.declared.body.Body.TheVariants as body
use Rattle.message_types.specs.Parts.{parts, inside, inside_report, request_parts, as_frame, frames_of}
use Rattle.message_types.specs.Digests.{digest_of_rows}
use Rattle.message_types.specs.Spelling.{has_spelling, body_fits, report_fits, summary_fits, request_fits}
use Rattle.message_types.specs.Spelling.{certificate_fits, frames_fit, always_fits, signature_fits, signers_of}
use Rattle.message_types.specs.Spelling.{is_rising, rows_fit, row_fits}
use Rattle.protocol_rules.specs.declared.facts.OrderFact.{OrderFact}
use Rattle.protocol_rules.specs.Words.{first_of_list, numbers_from}
use Rattle.protocol_rules.specs.Group.{Group, most_number, window}
use Rattle.protocol_rules.specs.Places.{in_place, is_row}
use Rattle.protocol_rules.specs.Facts.{facts_of, rows_known}
use Rattle.protocol_rules.specs.Plans.{certificates_of, digest_below}
use Rattle.protocol_rules.specs.Preorder.{vector}
use Rattle.protocol_rules.specs.Matrix.{latest, latest_frames, summary_of, tells_more}
use Rattle.protocol_rules.specs.Order.{ordered, is_voted, stable, marks_for, quorum_of, prepare_by, commit_by}
use Rattle.protocol_rules.specs.Order.{mark_by, certificate_of, last_certificate, least_prepared, certificates_below}
use Rattle.protocol_rules.specs.Views.{view, report_by, first_reports}
use Rattle.protocol_rules.specs.Reconcile.{ack_of, quorum_of_acks}
use Rattle.protocol_rules.specs.Master.{Heard, known_at, taken_at, said_before, answers}
use Rattle.agreement.specs.Laws.{HasSizes}
use Rattle.agreement.proofs.QuorumsMeet.{Rising, rising_take, rising_by_master}
use Rattle.agreement.proofs.SpokenByKind.{Due, answers_are_due, if_some}
use Rattle.agreement.proofs.FramesInside.{Closed, due_inside, best_in, prepare_by_from, commit_by_from, certificate_from}
use Rattle.agreement.proofs.FramesInside.{report_from, last_below_from, option_map_from}
use Rattle.agreement.proofs.LearnedWasSaid.{known_closed, taken_known}
use Rattle.agreement.proofs.RequestsAgree.{certified_from, requested_known}
use Rattle.words_in_place.specs.Laws.{IsSaid}
use Rattle.words_in_place.specs.Spellings.{RowsInPlaceFit, NewViewsFit, CertifiedAreInPlace, PartsAreSpelled}
use Rattle.words_in_place.specs.Spellings.{KnowsSpelled, AnswersAreSpelled, OwnPartsAreSpelled}
use Rattle.words_in_place.proofs.Limits.{all_from, all_each}
use Rattle.words_in_place.proofs.Facts.{FactPlaced, AreRows, facts_placed, rows_placed, ordered_placed}
use Rattle.words_in_place.proofs.Ordering.{mark_by_at}
use Rattle.words_in_place.proofs.Requesting.{ack_from_word, first_ack}
use Rattle.words_in_place.proofs.Speaking.{said_frame, said_word}
use Rattle.quorum_sets.proofs.Numbered.{length-numbers_below}
use Rattle.protocol_rules.proofs.Numbers.{length-numbers_from}
use Rattle.plain_lists.proofs.Lists.{found_within, take_few}

few_masters : (g : Group) → HasSizes g → g.n ≤ 14
few_masters g sizes =
    let all : g.n ≡ 3 * g.f + 2 * g.k + 1 = sizes.all in
    let f_few : g.f ≤ 3 = sizes.group.at_most_three_intruded in
    let k_few : g.k ≤ 2 = sizes.group.at_most_two_away in
    omega arith

row_in_place_fits : (g : Group) → g.n ≤ 14 → (row : List ℕ) → is_row g row ≡ true → row_fits row ≡ true
row_in_place_fits g few row h = by_length (nat_eq (length row) 0) refl h
  where
    by_length : (b : Bool) → nat_eq (length row) 0 ≡ b →
        cond b true (nat_eq (length row) g.n && list_all (λ x. nat_le x most_number) row) ≡ true → row_fits row ≡ true
    by_length true empty h = let none : length row ≡ 0 = eqb-true (length row) 0 empty in
        le-leb (length row) 14 (omega arith)
    by_length false some h = let all : length row ≡ g.n = eqb-true (length row) g.n (and_parts _ _ h).0 in
        le-leb (length row) 14 (omega arith)

pub rows_in_place_fit : RowsInPlaceFit
rows_in_place_fit g rows sizes h =
    let few : g.n ≤ 14 = few_masters g sizes in
    let both = and_parts _ _ h in
    let len : length rows ≡ g.n = eqb-true (length rows) g.n both.0 in
    and_from _ _ (le-leb (length rows) 14 (omega arith))
    (all_from row_fits rows (λ row k. row_in_place_fits g few row (all_each (is_row g) rows both.1 row k)))

pub rising_holds : (xs : List ℕ) → Rising xs → is_rising xs ≡ true
rising_holds [] h = refl
rising_holds (x ∷ []) h = refl
rising_holds (x ∷ y ∷ rest) h = and_from _ _ (lt-ltb x y (h.0 y (here rest))) (rising_holds (y ∷ rest) h.1)

frames_fit_from : {B : Type 0} (fits : B → Bool) (frames : List (Signed B)) → length frames ≤ 14 →
    Rising (signers_of frames) → Each (λ f. (fits f.body && signature_fits f) ≡ true) frames
    → frames_fit fits frames ≡ true
frames_fit_from fits frames few rising each =
    and_from _ _ (and_from _ _ (le-leb (length frames) 14 few) (rising_holds (signers_of frames) rising))
    (all_from _ frames each)

-- one frame at most of each master, up to so many
masters_fit : {B : Type 0} (g : Group) → g.n ≤ 14 → (fits : B → Bool) (f : ℕ → Option (Signed B)) (count : ℕ) →
    ((m : ℕ) (x : Signed B) → f m ≡ Some x → x.signer ≡ m)
    → Each (λ x. (fits x.body && signature_fits x) ≡ true) (take count (filter_map f (numbers_below g.n))) →
    frames_fit fits (take count (filter_map f (numbers_below g.n))) ≡ true
masters_fit {B} g few fits f count own each =
    let all : List (Signed B) = filter_map f (numbers_below g.n) in
    let rising = rising_by_master f own g.n in
    let less : length (take count all) ≤ length all = take_few count all in
    let most : length all ≤ length (numbers_below g.n) = found_within f (numbers_below g.n) in
    let len : length (numbers_below g.n) ≡ g.n = length-numbers_below g.n in
    frames_fit_from fits (take count all) (omega arith)
    (subst Rising (take-map (λ f. f.signer) count all) (rising_take count (signers_of all) rising.0)) each

-- a quorum of votes
quorum_fits : {B : Type 0} (g : Group) → g.n ≤ 14 → (vote : ℕ → OrderFact → Option (Signed B)) (facts : List OrderFact)
    → ((m : ℕ) (f : OrderFact) (x : Signed B) → vote m f ≡ Some x → x.signer ≡ m)
    → Each (λ x. signature_fits x ≡ true) (quorum_of g vote facts) →
    frames_fit always_fits (quorum_of g vote facts) ≡ true
quorum_fits g few vote facts own each =
    masters_fit g few always_fits (λ m. first_of_list (filter_map (vote m) facts)) g.q (λ m x e.
    let found = in_filter_map_from (vote m) facts (first_in (filter_map (vote m) facts) e) in
    own m found.0 x found.2) each

marks_fit : (g : Group) → g.n ≤ 14 → (facts : List OrderFact) (base : ℕ) →
    Each (λ x. signature_fits x ≡ true) (marks_for g facts base) →
    frames_fit always_fits (marks_for g facts base) ≡ true
marks_fit g few facts base each = by_base (nat_eq base 0) each
  where
    by_base : (b : Bool) → Each (λ x. signature_fits x ≡ true) (cond b [] (quorum_of g (mark_by base) facts)) →
        frames_fit always_fits (cond b [] (quorum_of g (mark_by base) facts)) ≡ true
    by_base true each = refl
    by_base false each = quorum_fits g few (mark_by base) facts (λ m f x e. (mark_by_at base m f x e).1) each

-- the certificates of a report are of rising numbers
certificate_number : (g : Group) (facts : List OrderFact) (v s : ℕ) (c : Certificate) →
    last_certificate g facts v s ≡ Some c → c.s ≡ s
unfolding last_certificate
certificate_number g facts v s c e =
    let lower = last_below_from (λ w. option_map (certificate_of g facts s w) (least_prepared g facts w s)) v e in
    let made = option_map_from (certificate_of g facts s lower.0) (least_prepared g facts lower.0 s) lower.2 in
    ap (λ (c : Certificate). c.s) (sym made.2)

rising_by_number : (f : ℕ → Option Certificate) → ((s : ℕ) (c : Certificate) → f s ≡ Some c → c.s ≡ s) →
    (start count : ℕ)
    → Rising (map (λ c. c.s) (filter_map f (numbers_from start count)))
    × Each (λ y. start ≤ y) (map (λ c. c.s) (filter_map f (numbers_from start count)))
unfolding numbers_from
rising_by_number f own start zero = (tt, each_none _)
rising_by_number f own start (suc count) = let later = rising_by_number f own (suc start) count in
    by_first (f start) refl later.0 later.1
  where
    rest : List Certificate
    rest = filter_map f (numbers_from (suc start) count)

    by_first : (o : Option Certificate) → f start ≡ o → Rising (map (λ c. c.s) rest) →
        Each (λ y. suc start ≤ y) (map (λ c. c.s) rest)
        → Rising (map (λ c. c.s) (cons_option o rest)) × Each (λ y. start ≤ y) (map (λ c. c.s) (cons_option o rest))
    by_first None e rising above = (rising, λ y k. let more : suc start ≤ y = above y k in omega arith)
    by_first (Some c) e rising above =
        let at : c.s ≡ start = own start c e in (
          ((λ y k. let more : suc start ≤ y = above y k in omega arith), rising),
          λ y k. elim (in_cons_cases k) [
            | inl same ↦ omega arith
            | inr later ↦ let more : suc start ≤ y =
                above y later in omega arith
          ],
        )

certificates_few : (g : Group) (facts : List OrderFact) (v : ℕ) →
    nat_le (length (certificates_below g facts v)) 16 ≡ true
unfolding window
certificates_few g facts v =
    let less : length (filter_map (last_certificate g facts v) (numbers_from (stable g facts + 1) 16)) ≤ length
    (numbers_from (stable g facts + 1) 16) =
    found_within (last_certificate g facts v) (numbers_from (stable g facts + 1) 16) in
    let len : length (numbers_from (stable g facts + 1) 16) ≡ 16 = length-numbers_from (stable g facts + 1) 16 in
    le-leb (length (filter_map (last_certificate g facts v) (numbers_from (stable g facts + 1) 16))) 16 (omega arith)

certificates_rise : (g : Group) (facts : List OrderFact) (v : ℕ) →
    is_rising (map (λ c. c.s) (certificates_below g facts v)) ≡ true
certificates_rise g facts v =
    rising_holds _ (rising_by_number (last_certificate g facts v) (certificate_number g facts v)
    (stable g facts + 1) window).0

-- the rows of a certificate are known
least_rows : (g : Group) (facts : List OrderFact) → Each (FactPlaced g) facts → (v s : ℕ) (rows : List (List ℕ)) →
    least_prepared g facts v s ≡ Some rows → AreRows g rows
least_rows g facts placed v s rows e =
    let quorum : List (List (List ℕ)) = filter (λ rows. is_voted g (prepare_by v s (digest_of_rows rows)) facts)
    (rows_known facts) in
    let member : IsIn rows quorum = best_in (λ a b. digest_below (digest_of_rows a) (digest_of_rows b)) quorum e in
    rows_placed g facts placed rows (in_filter_from (λ rows. is_voted g (prepare_by v s (digest_of_rows rows)) facts)
    (rows_known facts) member).0

-- a summary that is a master's latest is its own
latest_own : (known : List (Signed Body)) (m : ℕ) (x : Signed PoSummary) → latest known m ≡ Some x → x.signer ≡ m
unfolding latest
latest_own known m x e =
    let word = in_filter_map_from (summary_of m) known (best_in tells_more (filter_map (summary_of m) known) e) in
    by_word word.0.signer word.0.body word.0.sig word.2
  where
    by_word : (signer : ℕ) (word : Body) (sig : List ℕ) →
        summary_of m record { signer = signer; body = word; sig = sig } ≡ Some x → x.signer ≡ m
    by_word signer (body.PoSummary b) sig e =
        let held = if_some (nat_eq signer m) e in
        ap (λ (z : Signed PoSummary). z.signer) (sym held.1) ∙ eqb-true signer m held.0
    by_word signer _ sig e = absurd (none_some e)

-- the frames inside a word that fits its spelling have spellings
abbrev Spelled : Signed Body → Type 0
Spelled p = has_spelling p ≡ true

spelled_from : (signer : ℕ) (b : Body) (sig : List ℕ) → (body_fits b && nat_le (length sig) 65536) ≡ true →
    Spelled record { signer = signer; body = b; sig = sig }
unfolding has_spelling
spelled_from signer b sig h = h

spelled_to : (p : Signed Body) → Spelled p → (body_fits p.body && signature_fits p) ≡ true
unfolding has_spelling
spelled_to p h = h

frames_fit_each : {B : Type 0} (fits : B → Bool) (fs : List (Signed B)) → frames_fit fits fs ≡ true →
    Each (λ f. (fits f.body && signature_fits f) ≡ true) fs
frames_fit_each fits fs h = all_each (λ f. fits f.body && signature_fits f) fs
    (and_parts (nat_le (length fs) 14 && is_rising (signers_of fs)) _ h).1

frames_spelled : {B : Type 0} (kind : B → Body) (fs : List (Signed B)) →
    Each (λ f. (body_fits (kind f.body) && signature_fits f) ≡ true) fs → Each Spelled (frames_of kind fs)
frames_spelled kind fs each =
    each_map Spelled (as_frame kind) fs (λ f h. spelled_from f.signer (kind f.body) f.sig (each f h))

report_spelled : (b : Report) → report_fits b ≡ true → Each Spelled (inside_report b)
report_spelled b h =
    let certificates = and_parts _ _ h in
    let marks = (and_parts _ _ (and_parts _ _ certificates.0).0).0 in
    each_append Spelled (frames_of body.Mark b.marks) _
    (frames_spelled body.Mark b.marks (frames_fit_each always_fits b.marks marks))
    (each_flat_map Spelled (λ c. frames_of body.Prepare c.prepares) b.certificates (λ c k.
    frames_spelled body.Prepare c.prepares
    (frames_fit_each always_fits c.prepares
    (and_parts _ _ (all_each certificate_fits b.certificates certificates.1 c k)).1)))

inside_spelled : (b : Body) → body_fits b ≡ true → Each Spelled (inside b)
inside_spelled (body.PoRequest b) h =
    each_one Spelled (as_frame body.Update b.update)
    (spelled_from b.update.signer (body.Update b.update.body) b.update.sig h)
inside_spelled (body.PrePrepare b) h = frames_spelled body.PoSummary b.frames (frames_fit_each summary_fits b.frames h)
inside_spelled (body.Report b) h = report_spelled b h
inside_spelled (body.NewView b) h =
    each_flat_map Spelled (λ (f : Signed Report). as_frame body.Report f ∷ inside_report f.body) b.reports (λ r k.
    let fits = frames_fit_each report_fits b.reports h r k in
    (λ p within. elim (in_cons_cases within) [
      | inl e ↦ subst Spelled (sym e) (spelled_from r.signer (body.Report r.body) r.sig fits)
      | inr deeper ↦ report_spelled r.body (and_parts _ _ fits).0 p deeper
    ]))
inside_spelled (body.Give b) h =
    let acks = and_parts (request_fits b.request.body && signature_fits b.request) (frames_fit always_fits b.acks) h in
    let request = and_parts (request_fits b.request.body) (signature_fits b.request) acks.0 in
    each_append Spelled (request_parts b.request) (frames_of body.PoAck b.acks)
    (λ p within. elim (in_cons_cases within) [
      | inl e ↦ subst Spelled (sym e)
          (spelled_from b.request.signer (body.PoRequest b.request.body) b.request.sig acks.0)
      | inr deeper ↦ each_one Spelled (as_frame body.Update b.request.body.update)
          (spelled_from b.request.body.update.signer (body.Update b.request.body.update.body)
          b.request.body.update.sig request.0) p deeper
    ])
    (frames_spelled body.PoAck b.acks (frames_fit_each always_fits b.acks acks.1))
inside_spelled (body.GiveOrdered b) h =
    frames_spelled body.Commit b.commits (frames_fit_each always_fits b.commits (and_parts (rows_fit b.rows) _ h).1)
inside_spelled _ h = each_none Spelled

part_spelled : (f : Signed Body) → Spelled f → Each Spelled (parts f)
part_spelled f h p k = elim (in_cons_cases k) [
  | inl e ↦ subst Spelled (sym e) h
  | inr within ↦ inside_spelled f.body (and_parts _ _ (spelled_to f h)).0 p within
]

pub parts_are_spelled : PartsAreSpelled
parts_are_spelled frames h =
    all_from has_spelling (flat_map parts frames)
    (each_flat_map Spelled parts frames (λ f k. part_spelled f (all_each has_spelling frames h f k)))

pub new_views_fit : NewViewsFit
new_views_fit b h = all_from _ (certificates_of (map (λ r. r.body) b.reports)) (λ c k.
    let report = in_flat_map_from (λ (r : Report). r.certificates) (map (λ r. r.body) b.reports) k in
    let frame = in_map_from (λ (r : Signed Report). r.body) b.reports report.1 in
    let fits = and_parts _ _ (all_each (λ f. report_fits f.body && signature_fits f) b.reports
    (and_parts _ _ h).1 frame.0 frame.1) in
    let within : IsIn c frame.0.body.certificates = subst (λ (r : Report). IsIn c r.certificates) frame.2 report.2 in
    (and_parts _ _ (all_each certificate_fits frame.0.body.certificates (and_parts _ _ fits.0).1 c within)).0)

pub certified_are_in_place : CertifiedAreInPlace
certified_are_in_place g known well j k u e =
    let from = certified_from g known j k u e in
    let frame = requested_known known from.0 well.0 from.1 j k u from.2 in
    let placed = all_each (in_place g) known well.1 (as_frame body.Update frame.0) frame.1 in
    let ops = and_parts _ _ placed in
    let times = and_parts _ _ ops.0 in
    let own = and_parts _ _ times.0 in
    let signer : frame.0.signer ≡ g.n + frame.0.body.client =
    eqb-true frame.0.signer (g.n + frame.0.body.client) own.1 in
    subst (λ (v : Update). in_place g record { signer = g.n + v.client; body = body.Update v; sig = [] } ≡ true) frame.2
    (subst (λ (x : ℕ). in_place g record { signer = x; body = body.Update frame.0.body; sig = [] } ≡ true)
    signer placed)

-- a word that is due fits its spelling
module _ (g : Group) (orders : List Update → ℕ → List Order) (sizes : HasSizes g) (known taken : List (Signed Body))
    (said : List Body) (within : Within taken known) (closed : Closed known)
    (placed : Each (λ p. in_place g p ≡ true) known) (spelled : Each Spelled known) where
  few : g.n ≤ 14
  few = few_masters g sizes

  facts_in_place : Each (FactPlaced g) (facts_of g known)
  facts_in_place = facts_placed g known closed placed

  -- frames of one kind that are known
  known_fit : {B : Type 0} (kind : B → Body) (fs : List (Signed B)) → Each (λ p. IsIn p known) (frames_of kind fs) →
      Each (λ x. (body_fits (kind x.body) && signature_fits x) ≡ true) fs
  known_fit kind fs among x h =
      spelled_to (as_frame kind x) (spelled (as_frame kind x) (among (as_frame kind x) (in_map (as_frame kind) h)))

  ack_own : (j k : ℕ) (digest : List ℕ) (m : ℕ) (x : Signed PoAck) →
      first_ack known j k digest m ≡ Some x → x.signer ≡ m
  ack_own j k digest m x e =
      let word = in_filter_map_from (ack_of j k digest m) known (first_in (filter_map (ack_of j k digest m) known) e) in
      (ack_from_word j k digest m word.0.signer word.0.body word.0.sig x word.2).0

  summaries_fit : Each (λ x. (summary_fits x.body && signature_fits x) ≡ true) (latest_frames g known) →
      frames_fit summary_fits (latest_frames g known) ≡ true
  summaries_fit each =
      let rising = rising_by_master (latest known) (latest_own known) g.n in
      let most : length (latest_frames g known) ≤ length (numbers_below g.n) =
      found_within (latest known) (numbers_below g.n) in
      let len : length (numbers_below g.n) ≡ g.n = length-numbers_below g.n in
      let small : g.n ≤ 14 = few in
      frames_fit_from summary_fits (latest_frames g known) (omega arith) rising.0 each

  certificate_spelled : (v : ℕ) (c : Certificate) → IsIn c (certificates_below g (facts_of g known) v) →
      Each (λ x. signature_fits x ≡ true) c.prepares → certificate_fits c ≡ true
  certificate_spelled v c h =
      let found = certificate_from g (facts_of g known) v c h in
      let s : ℕ = found.0 in
      let w : ℕ = found.1 in
      let rows : List (List ℕ) = found.2 in
      subst (λ (d : Certificate). Each (λ x. signature_fits x ≡ true) d.prepares → certificate_fits d ≡ true) found.6
      (λ each. and_from _ _ (rows_in_place_fit g rows sizes
      (least_rows g (facts_of g known) facts_in_place w s rows found.5))
      (quorum_fits g few (prepare_by w s (digest_of_rows rows)) (facts_of g known)
      (λ m f x e. (prepare_by_from w s (digest_of_rows rows) m f x e).1) each))

  report_due_fits : (b : Report) → Each (λ p. IsIn p known) (inside_report b) →
      b.marks ≡ marks_for g (facts_of g known) (stable g (facts_of g known))
      → b.certificates ≡ certificates_below g (facts_of g known) (view g known) → report_fits b ≡ true
  report_due_fits b among marks certificates =
      let mine : Each (λ x. signature_fits x ≡ true) b.marks =
      known_fit body.Mark b.marks (λ p h. among p (in_left _ h)) in
      let own : Each (λ c. Each (λ x. signature_fits x ≡ true) c.prepares) b.certificates =
      (λ c h. known_fit body.Prepare c.prepares (λ p k.
      among p (in_right (frames_of body.Mark b.marks)
      (in_flat_map (λ (c : Certificate). frames_of body.Prepare c.prepares) h k)))) in
      and_from _ _ (and_from _ _ (and_from _ _
      (subst (λ (ms : List (Signed Mark)). Each (λ x. signature_fits x ≡ true) ms → frames_fit always_fits ms ≡ true)
      (sym marks) (marks_fit g few (facts_of g known) (stable g (facts_of g known))) mine)
      (subst (λ (cs : List Certificate). nat_le (length cs) 16 ≡ true) (sym certificates)
      (certificates_few g (facts_of g known) (view g known))))
      (subst (λ (cs : List Certificate). is_rising (map (λ c. c.s) cs) ≡ true) (sym certificates)
      (certificates_rise g (facts_of g known) (view g known))))
      (all_from certificate_fits b.certificates (λ c h.
      certificate_spelled (view g known) c (subst (λ (cs : List Certificate). IsIn c cs) certificates h) (own c h)))

  new_view_fits : (b : NewView) → Each (λ p. IsIn p known) (inside (body.NewView b)) →
      b.reports ≡ take g.q (first_reports g known b.v) → frames_fit report_fits b.reports ≡ true
  new_view_fits b among same =
      let each : Each (λ x. (report_fits x.body && signature_fits x) ≡ true) b.reports = (λ r h.
      spelled_to (as_frame body.Report r) (spelled (as_frame body.Report r) (among (as_frame body.Report r)
      (in_flat_map (λ (f : Signed Report). as_frame body.Report f ∷ inside_report f.body) h
      (here (inside_report r.body)))))) in
      subst (λ (rs : List (Signed Report)). Each (λ x. (report_fits x.body && signature_fits x) ≡ true) rs →
      frames_fit report_fits rs ≡ true) (sym same)
      (masters_fit g few report_fits (λ m. first_of_list (filter_map (report_by b.v m) known)) g.q
      (λ m x e. (report_from g known b.v m x e).1)) each

  give_fits : (b : Give) (j k : ℕ) (digest : List ℕ) → Each (λ p. IsIn p known) (inside (body.Give b)) →
      b.acks ≡ quorum_of_acks g known j k digest → body_fits (body.Give b) ≡ true
  give_fits b j k digest among same =
      let request = spelled_to (as_frame body.PoRequest b.request)
      (spelled (as_frame body.PoRequest b.request) (among (as_frame body.PoRequest b.request) (here _))) in
      let each : Each (λ x. signature_fits x ≡ true) b.acks =
      known_fit body.PoAck b.acks (λ p h. among p (in_right (request_parts b.request) h)) in
      and_from _ _ request (subst (λ (fs : List (Signed PoAck)). Each (λ x. signature_fits x ≡ true) fs →
      frames_fit always_fits fs ≡ true) (sym same)
      (masters_fit g few always_fits (first_ack known j k digest) g.q (ack_own j k digest)) each)

  given_fits : (b : GiveOrdered) (v : ℕ) (digest : List ℕ) →
      Each (λ p. IsIn p known) (frames_of body.Commit b.commits) → ordered g (facts_of g known) b.s ≡ Some b.rows
      → b.commits ≡ quorum_of g (commit_by v b.s digest) (facts_of g known) → body_fits (body.GiveOrdered b) ≡ true
  given_fits b v digest among rows same =
      and_from _ _ (rows_in_place_fit g b.rows sizes
      (ordered_placed g (facts_of g known) facts_in_place b.s b.rows rows))
      (subst (λ (fs : List (Signed Commit)). Each (λ x. signature_fits x ≡ true) fs →
      frames_fit always_fits fs ≡ true) (sym same)
      (quorum_fits g few (commit_by v b.s digest) (facts_of g known)
      (λ m f x e. (commit_by_from v b.s digest m f x e).1)) (known_fit body.Commit b.commits among))

  vector_fits : (numbers : List ℕ) → numbers ≡ map (vector g known) (numbers_below g.n) → row_fits numbers ≡ true
  vector_fits numbers same =
      let len : length numbers ≡ g.n = ap length same ∙ length-map (numbers_below g.n) (vector g known)
      ∙ length-numbers_below g.n in
      let small : g.n ≤ 14 = few in
      le-leb (length numbers) 14 (omega arith)

  by_kind : (b : Body) → Due g orders known taken said b → Each (λ p. IsIn p known) (inside b) → body_fits b ≡ true
  by_kind (body.PoRequest b) due among =
      spelled_to (as_frame body.Update b.update)
      (spelled (as_frame body.Update b.update) (among (as_frame body.Update b.update) (here [])))
  by_kind (body.PoSummary b) due among = vector_fits b.numbers due
  by_kind (body.PrePrepare b) due among =
      subst (λ (fs : List (Signed PoSummary)). Each (λ x. (summary_fits x.body && signature_fits x) ≡ true) fs →
      frames_fit summary_fits fs ≡ true) (sym due.0) summaries_fit (known_fit body.PoSummary b.frames among)
  by_kind (body.Report b) due among = report_due_fits b among due.2 due.3
  by_kind (body.NewView b) due among = new_view_fits b among due.1
  by_kind (body.Give b) due among = give_fits b due.0 due.1 due.2 among due.4
  by_kind (body.GiveOrdered b) due among = given_fits b due.0 due.1 among due.2 due.3
  by_kind _ due among = refl

  due_fits : (b : Body) → Due g orders known taken said b → body_fits b ≡ true
  due_fits b due = by_kind b due (due_inside g orders known taken said within closed b due)

module _ (g : Group) (orders : List Update → ℕ → List Order) (me : ℕ) (before : List Heard)
    (took : Option (Signed Body)) (at_tick : Bool) (knows : KnowsSpelled g before took) where
  words_fit : Each (λ b. body_fits b ≡ true) (answers g orders me before took at_tick)
  words_fit b h = elim (answers_are_due g orders me before took at_tick b h) [
    | inl due ↦ due_fits g orders knows.sizes (known_at before took) (taken_at before took) (said_before before)
        (taken_known before took) (known_closed before took)
        (all_each (in_place g) (known_at before took) knows.placed)
        (all_each has_spelling (known_at before took) knows.spelled) b due
    | inr again ↦
        let frame = said_frame before took b again.0 in
        subst (λ (w : Body). body_fits w ≡ true) (sym frame.2) (and_parts _ _ (spelled_to frame.0
        (all_each has_spelling (known_at before took) knows.spelled frame.0 frame.1))).0
  ]

  pub own_spelled : (count : ℕ) (frames : List (Signed Body)) → IsSaid g orders me before took at_tick count frames →
      list_all (λ f. signature_fits f) frames ≡ true → Each Spelled frames
  own_spelled count frames is signed f h = spelled_from f.signer f.body f.sig (and_from _ _
      (words_fit f.body (said_word g orders me before took at_tick count frames is f h).1)
      (all_each (λ f. signature_fits f) frames signed f h))

pub answers_are_spelled : AnswersAreSpelled
answers_are_spelled g orders me before took at_tick knows =
    all_from body_fits (answers g orders me before took at_tick) (words_fit g orders me before took at_tick knows)

pub own_parts_are_spelled : OwnPartsAreSpelled
own_parts_are_spelled g orders me before took at_tick knows count frames is signed =
    parts_are_spelled frames (all_from has_spelling frames
    (own_spelled g orders me before took at_tick knows count frames is signed))
