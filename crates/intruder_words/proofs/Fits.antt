-- What is made of frames that have a spelling fits one.
use Rattle.std.proofs.Common.{◌≡◌, ℕ, ◌≤◌, true, ◌&&◌, List, [], ◌∷◌, ◌++◌, Option, Some, length, take, map, refl}
use Rattle.std.proofs.Common.{sym, ◌∙◌, ap, subst, inl, inr, arith, append-nil}
use Rattle.std.specs.List.{list_all, find, filter_map, take-map}
use Rattle.std.proofs.lemmas.Bool.{and_parts, and_from, le-leb}
use Rattle.plain_lists.specs.Lists.{IsIn}
use Rattle.plain_lists.proofs.Members.{none_in, in_cons_cases, in_map_from, in_filter_map_from, in_take, find_some, all_at}
use Rattle.protocol_rules.proofs.FirstMet.{first_in, first_met_from}
use Rattle.message_types.specs.declared.signed.Signed.{Signed}
use Rattle.message_types.specs.declared.preordering.PoSummary.{PoSummary}
use Rattle.message_types.specs.declared.ordering.Certificate.{Certificate}
use Rattle.message_types.specs.declared.views.Report.{Report}
use Rattle.message_types.specs.declared.body.Body.{Body}
use Rattle.message_types.specs.declared.body.Body.TheVariants as body
use Rattle.message_types.specs.Parts.{as_frame, parts}
use Rattle.message_types.specs.Digests.{digest_of_rows}
use Rattle.message_types.specs.Spelling.{rows_fit, summary_fits, certificate_fits, report_fits, body_fits}
use Rattle.message_types.specs.Spelling.{signature_fits, always_fits, frames_fit, has_spelling, signers_of}
use Rattle.quorum_sets.specs.Masters.{numbers_below}
use Rattle.protocol_rules.specs.declared.facts.OrderFact.{OrderFact}
use Rattle.protocol_rules.specs.declared.facts.OrderFact.TheVariants as fact
use Rattle.protocol_rules.specs.Words.{first_of_list}
use Rattle.protocol_rules.specs.Group.{Group}
use Rattle.protocol_rules.specs.Matrix.{rows_of_frames}
use Rattle.protocol_rules.specs.Facts.{facts_of, rows_known}
use Rattle.protocol_rules.specs.Order.{prepare_by, commit_by, mark_by, is_voted, quorum_of, prepared, ordered}
use Rattle.history_rules.specs.Audit.{rows_held}
use Rattle.agreement.proofs.QuorumsMeet.{Rising, rising_take, rising_by_master}
use Rattle.agreement.proofs.FramesInside.{fact_from, rows_from, rows_more, prepare_by_from, commit_by_from}
use Rattle.agreement.proofs.LearnedInPlace.{ordered_from}
use Rattle.view_change.specs.Planning.{is_spelled}
use Rattle.words_in_place.proofs.Limits.{all_from}
use Rattle.words_in_place.proofs.Ordering.{mark_by_at}
use Rattle.words_in_place.proofs.Spelled.{parts_are_spelled, new_views_fit, rising_holds}
use Rattle.intruder_words.specs.Speaking.{are_spelled}
use Rattle.quorum_sets.proofs.Numbered.{length-numbers_below}
use Rattle.plain_lists.proofs.Lists.{all_weaker, found_within, take_few}
use Rattle.protocol_rules.proofs.SummaryRows.{rows_of_frames_fit}
use Rattle.words_in_place.proofs.PlanRows.{plan_fits}

-- frames known and their parts

pub body-of-spelled : (f : Signed Body) → has_spelling f ≡ true → body_fits f.body ≡ true
unfolding has_spelling
body-of-spelled f spelled = (and_parts (body_fits f.body) (signature_fits f) spelled).0

pub signature-of-spelled : (f : Signed Body) → has_spelling f ≡ true → signature_fits f ≡ true
unfolding has_spelling
signature-of-spelled f spelled = (and_parts (body_fits f.body) (signature_fits f) spelled).1

pub both-of-spelled : (f : Signed Body) → has_spelling f ≡ true → (body_fits f.body && signature_fits f) ≡ true
unfolding has_spelling
both-of-spelled f spelled = spelled

pub known-spelled : (known : List (Signed Body)) → are_spelled known ≡ true → (f : Signed Body) →
    IsIn f known → has_spelling f ≡ true
known-spelled known spelled f within = all_at has_spelling within spelled

pub parts-spelled : (f : Signed Body) → has_spelling f ≡ true → are_spelled (parts f) ≡ true
parts-spelled f spelled = ap (list_all has_spelling) (sym (append-nil (parts f)))
    ∙ parts_are_spelled (f ∷ []) (and_from (has_spelling f) true spelled refl)

pub spelled-join : (known more : List (Signed Body)) → are_spelled known ≡ true → are_spelled more ≡ true →
    are_spelled (known ++ more) ≡ true
spelled-join [] more first second = second
spelled-join (f ∷ known) more first second =
    let both = and_parts (has_spelling f) (are_spelled known) first in
    and_from (has_spelling f) (are_spelled (known ++ more)) both.0 (spelled-join known more both.1 second)

pub spelled-more : (known : List (Signed Body)) (f : Signed Body) (now : List (Signed Body)) →
    are_spelled known ≡ true → has_spelling f ≡ true → now ≡ known ++ parts f → are_spelled now ≡ true
spelled-more known f now first second is =
    ap are_spelled is ∙ spelled-join known (parts f) first (parts-spelled f second)

-- rows

-- the rows of a preprepare
pub proposal-fits : (g : Group) (frames : List (Signed PoSummary)) → g.n ≤ 14 →
    frames_fit summary_fits frames ≡ true → rows_fit (rows_of_frames g frames) ≡ true
proposal-fits g frames few fit =
    rows_of_frames_fit g frames few
    (all_weaker (λ f. summary_fits f.body && signature_fits f) (λ f. summary_fits f.body) frames
    (λ f both. (and_parts (summary_fits f.body) (signature_fits f) both).0) (and_parts _ _ fit).1)

-- the certificates of a report
pub certificates-fit : (b : Report) → report_fits b ≡ true → list_all is_spelled b.certificates ≡ true
certificates-fit b fit = all_from is_spelled b.certificates
    (λ c h. (and_parts _ _ (all_at certificate_fits h (and_parts _ _ fit).1)).0)

one-fits : (rows x : List (List ℕ)) → IsIn rows (x ∷ []) → rows_fit x ≡ true → rows_fit rows ≡ true
one-fits rows x within fits =
    elim (in_cons_cases within) [ inl e ↦ ap rows_fit e ∙ fits | inr deeper ↦ absurd (none_in deeper) ]

held-fit : (g : Group) → g.n ≤ 14 → (b : Body) → body_fits b ≡ true → (rows : List (List ℕ)) →
    IsIn rows (rows_held g b) → rows_fit rows ≡ true
held-fit g few (body.PrePrepare b) fit rows h =
    one-fits rows (rows_of_frames g b.frames) h (proposal-fits g b.frames few fit)
held-fit g few (body.Report b) fit rows h =
    let found = in_map_from (λ (c : Certificate). c.rows) b.certificates h in ap rows_fit found.2
    ∙ all_at is_spelled found.1 (certificates-fit b fit)
held-fit g few (body.GiveOrdered b) fit rows h = one-fits rows b.rows h (and_parts (rows_fit b.rows) _ fit).0
held-fit g few (body.NewView b) fit rows h =
    all_at rows_fit h (plan_fits g (map (λ r. r.body) b.reports) few (new_views_fit b fit))
held-fit g few _ fit rows h = absurd (none_in h)

pub known-rows-fit : (g : Group) → g.n ≤ 14 → (known : List (Signed Body)) → are_spelled known ≡ true →
    (rows : List (List ℕ)) → IsIn rows (rows_known (facts_of g known)) → rows_fit rows ≡ true
known-rows-fit g few known spelled rows h =
    let word = rows_from g known rows h in
    held-fit g few word.0.body (body-of-spelled word.0 (known-spelled known spelled word.0 word.1)) rows word.2

-- one frame of each master, by rising master

pub masters-fit : {B : Type 0} (g : Group) → g.n ≤ 14 → (f : ℕ → Option (Signed B)) →
    ((m : ℕ) (x : Signed B) → f m ≡ Some x → (x.signer ≡ m) × (signature_fits x ≡ true))
    → frames_fit always_fits (take g.q (filter_map f (numbers_below g.n))) ≡ true
masters-fit {B} g few f own =
    let all : List (Signed B) = filter_map f (numbers_below g.n) in
    let rising = rising_by_master f (λ m x e. (own m x e).0) g.n in
    let less : length (take g.q all) ≤ length all = take_few g.q all in
    let most : length all ≤ length (numbers_below g.n) = found_within f (numbers_below g.n) in
    let len : length (numbers_below g.n) ≡ g.n = length-numbers_below g.n in
    and_from _ _ (and_from _ _ (le-leb (length (take g.q all)) 14 (omega arith))
    (rising_holds (signers_of (take g.q all))
    (subst Rising (take-map (λ f. f.signer) g.q all) (rising_take g.q (signers_of all) rising.0))))
    (all_from (λ x. always_fits x.body && signature_fits x) (take g.q all) (λ x h. let found =
    in_filter_map_from f (numbers_below g.n) (in_take g.q all h) in (own found.0 x found.2).1))

pub first-from : {X Y : Type 0} (vote : ℕ → X → Option Y) (xs : List X) (m : ℕ) (y : Y) →
    first_of_list (filter_map (vote m) xs) ≡ Some y → (x : X) × IsIn x xs × (vote m x ≡ Some y)
first-from vote xs m y e = in_filter_map_from (vote m) xs (first_in (filter_map (vote m) xs) e)

-- A quorum's votes fit, where each is a frame known.
votes-fit : {B : Type 0} (g : Group) → g.n ≤ 14 → (facts : List OrderFact) (vote : ℕ → OrderFact → Option (Signed B))
    → ((m : ℕ) (f : OrderFact) (x : Signed B) → IsIn f facts → vote m f ≡ Some x →
    (x.signer ≡ m) × (signature_fits x ≡ true)) → frames_fit always_fits (quorum_of g vote facts) ≡ true
votes-fit g few facts vote own = masters-fit g few (λ m. first_of_list (filter_map (vote m) facts))
    (λ m x e. let found = first-from vote facts m x e in own m found.0 x found.1 found.2)

told-signature : {B : Type 0} (known : List (Signed Body)) → are_spelled known ≡ true →
    (kind : B → Body) (x : Signed B) (p : Signed Body) → IsIn p known → p ≡ as_frame kind x → signature_fits x ≡ true
told-signature known spelled kind x p within same =
    signature-of-spelled (as_frame kind x) (ap has_spelling (sym same) ∙ known-spelled known spelled p within)

pub prepares-fit : (g : Group) → g.n ≤ 14 → (known : List (Signed Body)) → are_spelled known ≡ true →
    (v s : ℕ) (digest : List ℕ) → frames_fit always_fits (quorum_of g (prepare_by v s digest) (facts_of g known)) ≡ true
prepares-fit g few known spelled v s digest = votes-fit g few (facts_of g known) (prepare_by v s digest) (λ m f x h e.
    let is = prepare_by_from v s digest m f x e in
    let from = fact_from g known (fact.Prepare x) (subst (λ (z : OrderFact). IsIn z (facts_of g known)) is.0 h) in
    (is.1, told-signature known spelled body.Prepare x from.0 from.1 from.2))

pub commits-fit : (g : Group) → g.n ≤ 14 → (known : List (Signed Body)) → are_spelled known ≡ true →
    (v s : ℕ) (digest : List ℕ) → frames_fit always_fits (quorum_of g (commit_by v s digest) (facts_of g known)) ≡ true
commits-fit g few known spelled v s digest = votes-fit g few (facts_of g known) (commit_by v s digest) (λ m f x h e.
    let is = commit_by_from v s digest m f x e in
    let from = fact_from g known (fact.Commit x) (subst (λ (z : OrderFact). IsIn z (facts_of g known)) is.0 h) in
    (is.1, told-signature known spelled body.Commit x from.0 from.1 from.2))

pub marks-fit : (g : Group) → g.n ≤ 14 → (known : List (Signed Body)) → are_spelled known ≡ true → (s : ℕ) →
    frames_fit always_fits (quorum_of g (mark_by s) (facts_of g known)) ≡ true
marks-fit g few known spelled s = votes-fit g few (facts_of g known) (mark_by s) (λ m f x h e.
    let is = mark_by_at s m f x e in
    let from = fact_from g known (fact.Mark x) (subst (λ (z : OrderFact). IsIn z (facts_of g known)) is.0 h) in
    (is.1, told-signature known spelled body.Mark x from.0 from.1 from.2))

-- rows prepared and rows ordered are known

prepared-known : (g : Group) (facts : List OrderFact) (v s : ℕ) (rows : List (List ℕ)) →
    prepared g facts v s ≡ Some rows → (beginning : List OrderFact)
    × ((x : OrderFact) → IsIn x beginning → IsIn x facts) × IsIn rows (rows_known beginning)
unfolding prepared
prepared-known g facts v s rows e =
    let met = first_met_from (λ beginning. find (λ rows. is_voted g (prepare_by v s (digest_of_rows rows)) beginning)
    (rows_known beginning)) [] facts e in (
      met.0,
      met.1,
      (find_some (λ rows. is_voted g (prepare_by v s (digest_of_rows rows)) met.0)
          (rows_known met.0) met.2).0,
    )

pub prepared-fits : (g : Group) → g.n ≤ 14 → (known : List (Signed Body)) → are_spelled known ≡ true →
    (v s : ℕ) (rows : List (List ℕ)) → prepared g (facts_of g known) v s ≡ Some rows → rows_fit rows ≡ true
prepared-fits g few known spelled v s rows e =
    let from = prepared-known g (facts_of g known) v s rows e in
    known-rows-fit g few known spelled rows (rows_more from.0 (facts_of g known) from.1 rows from.2)

pub ordered-fits : (g : Group) → g.n ≤ 14 → (known : List (Signed Body)) → are_spelled known ≡ true →
    (s : ℕ) (rows : List (List ℕ)) → ordered g (facts_of g known) s ≡ Some rows → rows_fit rows ≡ true
ordered-fits g few known spelled s rows e =
    known-rows-fit g few known spelled rows (ordered_from g (facts_of g known) s rows e).0
