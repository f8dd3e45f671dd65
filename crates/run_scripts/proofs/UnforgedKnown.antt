-- Frames inside what a word is: each is one that its speaker knows.
use Rattle.std.proofs.Common.{◌≡◌, ℕ, ◌≤◌, Bool, true, false, cond, ◌||◌, List, [], ◌∷◌, Option, Some, None, map}
use Rattle.std.proofs.Common.{nat_eq, refl, sym, subst, inl, inr}
use Rattle.std.specs.List.{find, filter_map}
use Rattle.std.specs.Option.{option_and_then}
use Rattle.plain_lists.specs.Lists.{IsIn, Each}
use Rattle.plain_lists.proofs.Members.{each_none, in_cons_cases, in_filter_map_from, in_take, find_some, some_same, none_some}
use Rattle.protocol_rules.proofs.FirstMet.{first_in, first_met_from}
use Rattle.sha2.proofs.Facts256.{length-sha256}
use Rattle.quorum_sets.specs.Masters.{numbers_below}
use Rattle.message_types.specs.declared.signed.Signed.{Signed}
use Rattle.message_types.specs.declared.updates.Update.{Update}
use Rattle.message_types.specs.declared.preordering.PoRequest.{PoRequest}
use Rattle.message_types.specs.declared.preordering.PoSummary.{PoSummary}
use Rattle.message_types.specs.declared.ordering.Mark.{Mark}
use Rattle.message_types.specs.declared.ordering.Certificate.{Certificate}
use Rattle.message_types.specs.declared.views.Report.{Report}
use Rattle.message_types.specs.declared.body.Body.{Body}
use Rattle.message_types.specs.declared.body.Body.TheVariants as body
use Rattle.message_types.specs.Parts.{as_frame}
use Rattle.message_types.specs.Texts.{update_text, rows_text}
use Rattle.message_types.specs.Digests.{digest_of_update, digest_of_rows}
use Rattle.message_forms.specs.Widths.{Is32, Is64, IsDigest, FitsUpdate, FitsRequest, FitsAck, FitsSummary}
use Rattle.message_forms.specs.Widths.{FitsPrepare, FitsCommit, FitsMark, FitsReport, FitsBody}
use Rattle.protocol_rules.specs.declared.facts.OrderFact.{OrderFact}
use Rattle.protocol_rules.specs.declared.facts.OrderFact.TheVariants as fact
use Rattle.protocol_rules.specs.Words.{first_of_list}
use Rattle.protocol_rules.specs.Group.{Group}
use Rattle.protocol_rules.specs.Facts.{facts_of, rows_known}
use Rattle.protocol_rules.specs.Matrix.{rows_of_frames}
use Rattle.protocol_rules.specs.Order.{prepare_by, commit_by, mark_by, first_votes, quorum_of, is_voted, prepared}
use Rattle.protocol_rules.specs.Order.{certificate_of, marks_at}
use Rattle.protocol_rules.specs.Reconcile.{request_of, ack_of, quorum_of_acks}
use Rattle.agreement.proofs.SpokenByKind.{if_some}
use Rattle.agreement.proofs.FramesInside.{fact_from, vote_from, prepare_by_from, commit_by_from, mark_by_from}
use Rattle.agreement.proofs.FramesInside.{option_map_from}
use Rattle.play_words.specs.declared.words.Item.{Item}
use Rattle.play_words.specs.declared.words.Ref.{Ref}
use Rattle.intruder_words.specs.Naming.{named}
use Rattle.intruder_words.specs.Speaking.{all_of, as_update, as_summary, as_report, digest_in, certificate_known}
use Rattle.intruder_words.proofs.Whole.{named-from, ack-from, report-from, request-from, step-from, summary-from}
use Rattle.intruder_words.proofs.Whole.{update-from}
use Rattle.words_in_place.proofs.Ordering.{voted_one}

-- A part that can stand inside a word fits its fields.
abbrev pub FitsPart : ℕ → Body → Type 0
FitsPart signer (body.Update b) = Is32 signer × FitsUpdate b
FitsPart signer (body.PoRequest b) = Is32 signer × FitsRequest b
FitsPart signer (body.PoAck b) = Is32 signer × FitsAck b
FitsPart signer (body.PoSummary b) = Is32 signer × FitsSummary b
FitsPart signer (body.Prepare b) = Is32 signer × FitsPrepare b
FitsPart signer (body.Commit b) = Is32 signer × FitsCommit b
FitsPart signer (body.Mark b) = Is32 signer × FitsMark b
FitsPart signer (body.Report b) = Is32 signer × FitsReport b
FitsPart signer _ = Unit {0}

abbrev pub IsFit : Signed Body → Type 0
IsFit p = FitsPart p.signer p.body

pub fits_part : (signer : ℕ) (b : Body) → Is32 signer → FitsBody b → FitsPart signer b
fits_part signer (body.Update b) low fits = (low, fits)
fits_part signer (body.PoRequest b) low fits = (low, fits)
fits_part signer (body.PoAck b) low fits = (low, fits)
fits_part signer (body.PoSummary b) low fits = (low, fits)
fits_part signer (body.Prepare b) low fits = (low, fits)
fits_part signer (body.Commit b) low fits = (low, fits)
fits_part signer (body.Mark b) low fits = (low, fits)
fits_part signer (body.Report b) low fits = (low, fits)
fits_part signer _ low fits = tt

-- frames of a kind that are known
abbrev pub AreKnown : {B : Type 0} → (B → Body) → List (Signed Body) → List (Signed B) → Type 0
AreKnown kind known fs = Each (λ f. IsIn (as_frame kind f) known) fs

named_known : {B : Type 0} (known : List (Signed Body)) (kind : B → Body) (read : Signed Body → Option (Signed B)) →
    ((f : Signed Body) (x : Signed B) → read f ≡ Some x → f ≡ as_frame kind x)
    → (r : Ref) (x : Signed B) → option_and_then read (named known r) ≡ Some x → IsIn (as_frame kind x) known
named_known known kind read from r x e =
    let step = step-from read (named known r) x e in
    subst (λ (f : Signed Body). IsIn f known) (from step.0 x step.2) (named-from known r step.0 step.1).0

pub update_known : (known : List (Signed Body)) (r : Ref) (x : Signed Update) →
    option_and_then as_update (named known r) ≡ Some x → IsIn (as_frame body.Update x) known
update_known known = named_known known body.Update as_update (λ f x e. update-from f.signer f.body f.sig x e)

pub summary_known : (known : List (Signed Body)) (r : Ref) (x : Signed PoSummary) →
    option_and_then as_summary (named known r) ≡ Some x → IsIn (as_frame body.PoSummary x) known
summary_known known = named_known known body.PoSummary as_summary (λ f x e. summary-from f.signer f.body f.sig x e)

pub report_known : (known : List (Signed Body)) (r : Ref) (x : Signed Report) →
    option_and_then as_report (named known r) ≡ Some x → IsIn (as_frame body.Report x) known
report_known known = named_known known body.Report as_report (λ f x e. report-from f.signer f.body f.sig x e)

-- all of several
pub each_gathered : {X Y : Type 0} (P : Y → Type 0) (name : X → Option Y) →
    ((x : X) (y : Y) → name x ≡ Some y → P y) → (xs : List X) (ys : List Y) → all_of (map name xs) ≡ Some ys → Each P ys
each_gathered {X} {Y} P name each [] ys e = subst (λ (zs : List Y). Each P zs) (some_same e) (each_none P)
each_gathered {X} {Y} P name each (x ∷ xs) ys e = by (name x) refl e (λ zs is. each_gathered P name each xs zs is)
  where
    by : (o : Option Y) → name x ≡ o → all_of (o ∷ map name xs) ≡ Some ys →
        ((zs : List Y) → all_of (map name xs) ≡ Some zs → Each P zs) → Each P ys
    by None is none later = absurd (none_some none)
    by (Some y) is some later =
        let rest = option_map_from (λ zs. y ∷ zs) (all_of (map name xs)) some in
        subst (λ (zs : List Y). Each P zs) rest.2 (λ z h. elim (in_cons_cases h) [
          | inl same ↦ subst P (sym same) (each x y is)
          | inr deeper ↦ later rest.0 rest.1 z deeper
        ])

-- a digest has 32 bytes
pub update_digest_size : (u : Update) → IsDigest (digest_of_update u)
unfolding digest_of_update
update_digest_size u = length-sha256 (update_text u)

pub rows_digest_size : (rows : List (List ℕ)) → IsDigest (digest_of_rows rows)
unfolding digest_of_rows
rows_digest_size rows = length-sha256 (rows_text rows)

digest_of_body : (g : Group) (signer : ℕ) (b : Body) (sig digest : List ℕ) →
    digest_in g record { signer = signer; body = b; sig = sig } ≡ Some digest → IsDigest digest
digest_of_body g signer (body.PoRequest b) sig digest e =
    subst IsDigest (some_same e) (update_digest_size b.update.body)
digest_of_body g signer (body.PrePrepare b) sig digest e =
    subst IsDigest (some_same e) (rows_digest_size (rows_of_frames g b.frames))
digest_of_body g signer _ sig digest e = absurd (none_some e)

pub named_digest_size : (g : Group) (known : List (Signed Body)) (r : Ref) (digest : List ℕ) →
    option_and_then (digest_in g) (named known r) ≡ Some digest → IsDigest digest
named_digest_size g known r digest e =
    let step = step-from (digest_in g) (named known r) digest e in
    digest_of_body g step.0.signer step.0.body step.0.sig digest step.2

-- the votes of a quorum
pub prepares_known : (g : Group) (known : List (Signed Body)) (v s : ℕ) (digest : List ℕ) →
    AreKnown body.Prepare known (quorum_of g (prepare_by v s digest) (facts_of g known))
prepares_known g known v s digest f h =
    let vote = vote_from g (prepare_by v s digest) (facts_of g known) f
    (in_take g.q (first_votes g (prepare_by v s digest) (facts_of g known)) h) in
    let is = prepare_by_from v s digest vote.0 vote.1 f vote.4 in
    let word = fact_from g known (fact.Prepare f) (subst (λ (x : OrderFact). IsIn x (facts_of g known)) is.0 vote.3) in
    subst (λ (p : Signed Body). IsIn p known) word.2 word.1

pub commits_known : (g : Group) (known : List (Signed Body)) (v s : ℕ) (digest : List ℕ) →
    AreKnown body.Commit known (quorum_of g (commit_by v s digest) (facts_of g known))
commits_known g known v s digest f h =
    let vote = vote_from g (commit_by v s digest) (facts_of g known) f
    (in_take g.q (first_votes g (commit_by v s digest) (facts_of g known)) h) in
    let is = commit_by_from v s digest vote.0 vote.1 f vote.4 in
    let word = fact_from g known (fact.Commit f) (subst (λ (x : OrderFact). IsIn x (facts_of g known)) is.0 vote.3) in
    subst (λ (p : Signed Body). IsIn p known) word.2 word.1

marks_voted : (g : Group) (known : List (Signed Body)) (s : ℕ) →
    AreKnown body.Mark known (quorum_of g (mark_by s) (facts_of g known))
marks_voted g known s f h =
    let vote = vote_from g (mark_by s) (facts_of g known) f
    (in_take g.q (first_votes g (mark_by s) (facts_of g known)) h) in
    let is = mark_by_from s vote.0 vote.1 f vote.4 in
    let word = fact_from g known (fact.Mark f) (subst (λ (x : OrderFact). IsIn x (facts_of g known)) is vote.3) in
    subst (λ (p : Signed Body). IsIn p known) word.2 word.1

pub marks_known : (g : Group) (known : List (Signed Body)) (s : ℕ) (marks : List (Signed Mark)) →
    marks_at g (facts_of g known) s ≡ Some marks → AreKnown body.Mark known marks
marks_known g known s marks e =
    subst (λ (ms : List (Signed Mark)). AreKnown body.Mark known ms)
    (if_some (nat_eq s 0 || is_voted g (mark_by s) (facts_of g known)) e).1 (by_base (nat_eq s 0))
  where
    by_base : (b : Bool) → AreKnown body.Mark known (cond b [] (quorum_of g (mark_by s) (facts_of g known)))
    by_base true = each_none _
    by_base false = marks_voted g known s

-- a certified request and its acknowledgements
word_known : (known : List (Signed Body)) (p q : Signed Body) → p ≡ q → IsIn p known → IsIn q known
word_known known p q same h = subst (λ (x : Signed Body). IsIn x known) same h

pub request_known : (known : List (Signed Body)) (j k : ℕ) (u : Update) (x : Signed PoRequest) →
    first_of_list (filter_map (request_of j k u) known) ≡ Some x → IsIn (as_frame body.PoRequest x) known
request_known known j k u x e =
    let word = in_filter_map_from (request_of j k u) known (first_in (filter_map (request_of j k u) known) e) in
    word_known known word.0 (as_frame body.PoRequest x)
    (request-from j k u word.0.signer word.0.body word.0.sig x word.2) word.1

pub acks_known : (g : Group) (known : List (Signed Body)) (j k : ℕ) (digest : List ℕ) →
    AreKnown body.PoAck known (quorum_of_acks g known j k digest)
acks_known g known j k digest f h =
    let master = in_filter_map_from (λ m. first_of_list (filter_map (ack_of j k digest m) known))
    (numbers_below g.n) (in_take g.q _ h) in
    let word = in_filter_map_from (ack_of j k digest master.0) known
    (first_in (filter_map (ack_of j k digest master.0) known) master.2) in
    word_known known word.0 (as_frame body.PoAck f)
    (ack-from j k digest master.0 word.0.signer word.0.body word.0.sig f word.2) word.1

prepared_small : (g : Group) → 1 ≤ g.q → (known : List (Signed Body)) → Each IsFit known →
    (v s : ℕ) (rows : List (List ℕ)) → prepared g (facts_of g known) v s ≡ Some rows → Is64 s
unfolding prepared
prepared_small g some known fit v s rows e =
    let met = first_met_from (λ beginning. find (λ rows. is_voted g (prepare_by v s (digest_of_rows rows)) beginning)
    (rows_known beginning)) [] (facts_of g known) e in
    let found = find_some (λ rows. is_voted g (prepare_by v s (digest_of_rows rows)) met.0) (rows_known met.0) met.2 in
    let one = voted_one g (prepare_by v s (digest_of_rows rows)) met.0 some found.1 in
    let vote = vote_from g (prepare_by v s (digest_of_rows rows)) met.0 one.0 one.1 in
    let is = prepare_by_from v s (digest_of_rows rows) vote.0 vote.1 one.0 vote.4 in
    let word = fact_from g known (fact.Prepare one.0)
    (subst (λ (x : OrderFact). IsIn x (facts_of g known)) is.0 (met.1 vote.1 vote.3)) in
    let part = fit (as_frame body.Prepare one.0)
    (word_known known word.0 (as_frame body.Prepare one.0) word.2 word.1) in
    subst Is64 is.3 part.1.1.0

-- its number is within its field, and its prepares are known
abbrev pub IsCertificate : List (Signed Body) → Certificate → Type 0
IsCertificate known c = Is64 c.s × AreKnown body.Prepare known c.prepares

pub certificate_is : (g : Group) → 1 ≤ g.q → (known : List (Signed Body)) → Each IsFit known →
    (item : Item) (c : Certificate) → certificate_known g (facts_of g known) item ≡ Some c → IsCertificate known c
certificate_is g some known fit item c e =
    let made = option_map_from (certificate_of g (facts_of g known) item.s item.v)
    (prepared g (facts_of g known) item.v item.s) e in
    subst (λ (d : Certificate). IsCertificate known d) made.2 (
      prepared_small g some known fit item.v item.s made.0 made.1,
      prepares_known g known item.v item.s (digest_of_rows made.0),
    )
