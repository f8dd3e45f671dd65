-- The body that an accepted word is fits its spelling, where all frames known have one.
use Rattle.std.proofs.Common.{◌++◌, ◌≡◌, ℕ, ◌≤◌, Bool, true, false, cond, ◌&&◌, ◌||◌, List, [], ◌∷◌, Option, Some}
use Rattle.std.proofs.Common.{None, length, map, filter, ◌-◌, nat_eq, nat_le, refl, sym, ◌∙◌, ap, subst, inl, inr}
use Rattle.std.proofs.Common.{eqb-true}
use Rattle.std.specs.Prelude.{slice_get}
use Rattle.std.specs.List.{list_all, list_any, filter_map}
use Rattle.std.specs.Option.{option_map, option_and_then, IfSome}
use Rattle.std.proofs.lemmas.Bool.{and_parts, and_from}
use Rattle.std.proofs.lemmas.List.{length-map}
use Rattle.plain_lists.specs.Lists.{IsIn, here, there}
use Rattle.plain_lists.proofs.Members.{in_filter_map_from, in_filter_from, in_cons_cases, none_some, some_same}
use Rattle.protocol_rules.proofs.FirstMet.{first_in}
use Rattle.message_types.specs.declared.signed.Signed.{Signed}
use Rattle.message_types.specs.declared.updates.Update.{Update}
use Rattle.message_types.specs.declared.preordering.PoRequest.{PoRequest}
use Rattle.message_types.specs.declared.preordering.PoSummary.{PoSummary}
use Rattle.message_types.specs.declared.preordering.PoAck.{PoAck}
use Rattle.message_types.specs.declared.ordering.Mark.{Mark}
use Rattle.message_types.specs.declared.ordering.Certificate.{Certificate}
use Rattle.message_types.specs.declared.views.Report.{Report}
use Rattle.message_types.specs.declared.reconciling.Give.{Give}
use Rattle.message_types.specs.declared.reconciling.GiveOrdered.{GiveOrdered}
use Rattle.message_types.specs.declared.body.Body.{Body}
use Rattle.message_types.specs.declared.body.Body.TheVariants as body
use Rattle.message_types.specs.Parts.{as_frame}
use Rattle.message_types.specs.Digests.{digest_of_update, digest_of_rows}
use Rattle.message_types.specs.Spelling.{summary_fits, certificate_fits, report_fits, body_fits, signature_fits}
use Rattle.message_types.specs.Spelling.{always_fits, frames_fit, has_spelling, is_rising}
use Rattle.protocol_rules.specs.Words.{first_of_list}
use Rattle.protocol_rules.specs.Group.{Group}
use Rattle.protocol_rules.specs.Facts.{facts_of}
use Rattle.protocol_rules.specs.Preorder.{certified}
use Rattle.protocol_rules.specs.Order.{prepared, ordered, certificate_of, is_voted, mark_by, quorum_of, marks_at}
use Rattle.protocol_rules.specs.Reconcile.{request_of, ack_of, quorum_of_acks}
use Rattle.global_order.specs.Giving.{whole_order, given_order, last_view}
use Rattle.history_rules.specs.Sameness.{is_same_body}
use Rattle.agreement.proofs.SpokenByKind.{if_some}
use Rattle.agreement.proofs.FramesInside.{option_map_from}
use Rattle.words_in_place.proofs.Limits.{slice_in}
use Rattle.words_in_place.proofs.Requesting.{ack_from_word}
use Rattle.play_words.specs.declared.words.Item.{Item}
use Rattle.play_words.specs.declared.words.Ref.{Ref}
use Rattle.play_words.specs.declared.words.Word.{Word}
use Rattle.play_words.specs.declared.words.Word.TheVariants as word
use Rattle.play_words.specs.Accepted.{is_accepted, are_refs, is_of, are_items}
use Rattle.intruder_words.specs.Naming.{bears, distinct_after, named}
use Rattle.intruder_words.specs.Speaking.{are_spelled, all_of, as_update, as_summary, as_report, update_named}
use Rattle.intruder_words.specs.Speaking.{summary_named, report_named, certificate_known, certificates_known}
use Rattle.intruder_words.specs.Speaking.{report_with, report_of, base_or_stable, give_with, give_of, body_of}
use Rattle.intruder_words.proofs.Fits.{known-spelled, both-of-spelled, signature-of-spelled, masters-fit, first-from}
use Rattle.intruder_words.proofs.Fits.{prepares-fit, commits-fit, marks-fit, prepared-fits, ordered-fits}

-- what a map or a step of options came from
pub step-from : {X Y : Type 0} (f : X → Option Y) (o : Option X) (y : Y) → option_and_then f o ≡ Some y →
    (x : X) × (o ≡ Some x) × (f x ≡ Some y)
step-from f None y e = absurd (none_some e)
step-from f (Some x) y e = (x, refl, e)

-- the frame meant is known and bears what was asked

distinct-in : (earlier xs : List (Signed Body)) (f : Signed Body) → IsIn f (distinct_after earlier xs) → IsIn f xs
distinct-in earlier [] f h = h
distinct-in earlier (x ∷ xs) f h = by (list_any (λ e. is_same_body e.body x.body) earlier) h
    (distinct-in (earlier ++ x ∷ []) xs f)
  where
    by : (b : Bool) → IsIn f (cond b (distinct_after (earlier ++ x ∷ []) xs)
        (x ∷ distinct_after (earlier ++ x ∷ []) xs)) → (IsIn f (distinct_after (earlier ++ x ∷ []) xs) → IsIn f xs) →
        IsIn f (x ∷ xs)
    by true k rest = there x xs (rest k)
    by false k rest = elim (in_cons_cases k) [
      | inl e ↦ subst (λ (z : Signed Body). IsIn z (x ∷ xs)) (sym e) (here xs)
      | inr later ↦ there x xs (rest later)
    ]

pub named-from : (known : List (Signed Body)) (r : Ref) (f : Signed Body) → named known r ≡ Some f →
    IsIn f known × (f.signer ≡ r.actor)
unfolding named
named-from known r f e = by (nat_eq r.number 0) e
  where
    by : (b : Bool) → cond b None (slice_get (distinct_after [] (filter (bears r) known)) (r.number - 1)) ≡ Some f →
        IsIn f known × (f.signer ≡ r.actor)
    by true none = absurd (none_some none)
    by false some =
        let found = in_filter_from (bears r) known
        (distinct-in [] (filter (bears r) known) f
        (slice_in (distinct_after [] (filter (bears r) known)) (r.number - 1) some)) in
        (found.0, eqb-true f.signer r.actor (and_parts (nat_eq f.signer r.actor) _ found.1).0)

-- a frame as one of its kind

pub update-from : (signer : ℕ) (b : Body) (sig : List ℕ) (u : Signed Update) →
    as_update record { signer = signer; body = b; sig = sig } ≡ Some u →
    record { signer = signer; body = b; sig = sig } ≡ as_frame body.Update u
update-from signer (body.Update b) sig u e = ap (as_frame body.Update) (some_same e)
update-from signer _ sig u e = absurd (none_some e)

pub summary-from : (signer : ℕ) (b : Body) (sig : List ℕ) (u : Signed PoSummary) →
    as_summary record { signer = signer; body = b; sig = sig } ≡ Some u →
    record { signer = signer; body = b; sig = sig } ≡ as_frame body.PoSummary u
summary-from signer (body.PoSummary b) sig u e = ap (as_frame body.PoSummary) (some_same e)
summary-from signer _ sig u e = absurd (none_some e)

pub report-from : (signer : ℕ) (b : Body) (sig : List ℕ) (u : Signed Report) →
    as_report record { signer = signer; body = b; sig = sig } ≡ Some u →
    record { signer = signer; body = b; sig = sig } ≡ as_frame body.Report u
report-from signer (body.Report b) sig u e = ap (as_frame body.Report) (some_same e)
report-from signer _ sig u e = absurd (none_some e)

kind-named : {B : Type 0} (known : List (Signed Body)) → are_spelled known ≡ true →
    (kind : B → Body) (read : Signed Body → Option (Signed B))
    → ((f : Signed Body) (x : Signed B) → read f ≡ Some x → f ≡ as_frame kind x) → (r : Ref) (x : Signed B) →
    option_and_then read (named known r) ≡ Some x → (x.signer ≡ r.actor) × (has_spelling (as_frame kind x) ≡ true)
kind-named known spelled kind read from r x e =
    let step = step-from read (named known r) x e in
    let meant = named-from known r step.0 step.1 in
    let same = from step.0 x step.2 in (
      ap (λ (f : Signed Body). f.signer) (sym same) ∙ meant.1,
      ap has_spelling (sym same)
          ∙ known-spelled known spelled step.0 meant.0,
    )

summary-named : (known : List (Signed Body)) → are_spelled known ≡ true → (r : Ref) (x : Signed PoSummary) →
    summary_named known r ≡ Some x → (x.signer ≡ r.actor) × (has_spelling (as_frame body.PoSummary x) ≡ true)
summary-named known spelled = kind-named known spelled body.PoSummary as_summary
    (λ f x e. summary-from f.signer f.body f.sig x e)

report-named : (known : List (Signed Body)) → are_spelled known ≡ true → (r : Ref) (x : Signed Report) →
    report_named known r ≡ Some x → (x.signer ≡ r.actor) × (has_spelling (as_frame body.Report x) ≡ true)
report-named known spelled =
    kind-named known spelled body.Report as_report (λ f x e. report-from f.signer f.body f.sig x e)

-- all of several, one by one
all-gathered : {X Y Z : Type 0} (name : X → Option Y) (key : Y → Z) (from : X → Z) (test : Y → Bool) →
    ((x : X) (y : Y) → name x ≡ Some y → (key y ≡ from x) × (test y ≡ true))
    → (xs : List X) (ys : List Y) → all_of (map name xs) ≡ Some ys →
    (map key ys ≡ map from xs) × (list_all test ys ≡ true)
all-gathered {X} {Y} {Z} name key from test each [] ys e =
    subst (λ (zs : List Y). (map key zs ≡ []) × (list_all test zs ≡ true)) (some_same e) (refl, refl)
all-gathered {X} {Y} {Z} name key from test each (x ∷ xs) ys e =
    by (name x) refl e (λ zs is. all-gathered name key from test each xs zs is)
  where
    by : (o : Option Y) → name x ≡ o → all_of (o ∷ map name xs) ≡ Some ys →
        ((zs : List Y) → all_of (map name xs) ≡ Some zs → (map key zs ≡ map from xs) × (list_all test zs ≡ true))
        → (map key ys ≡ from x ∷ map from xs) × (list_all test ys ≡ true)
    by None is none later = absurd (none_some none)
    by (Some y) is some later =
        let rest = option_map_from (λ zs. y ∷ zs) (all_of (map name xs)) some in
        let first = each x y is in
        let others = later rest.0 rest.1 in
        subst (λ (zs : List Y). (map key zs ≡ from x ∷ map from xs) × (list_all test zs ≡ true)) rest.2 (
          ap (λ z. z ∷ map key rest.0) first.0 ∙ ap (λ zs. from x ∷ zs) others.0,
          and_from (test y) (list_all test rest.0) first.1 others.1,
        )

same-length : {X Y Z : Type 0} (key : Y → Z) (from : X → Z) (xs : List X) (ys : List Y) → map key ys ≡ map from xs →
    length ys ≡ length xs
same-length key from xs ys same = sym (length-map ys key) ∙ ap length same ∙ length-map xs from

refs-fit : {B : Type 0} (kind : B → Body) (fits : B → Bool) (name : Ref → Option (Signed B)) →
    ((x : Signed B) → has_spelling (as_frame kind x) ≡ true → (fits x.body && signature_fits x) ≡ true)
    → ((r : Ref) (x : Signed B) → name r ≡ Some x → (x.signer ≡ r.actor) × (has_spelling (as_frame kind x) ≡ true)) →
    (number : ℕ) (refs : List Ref) (frames : List (Signed B))
    → are_refs number refs ≡ true → all_of (map name refs) ≡ Some frames → frames_fit fits frames ≡ true
refs-fit {B} kind fits name spells each number refs frames accepted e =
    let all = all-gathered name (λ (f : Signed B). f.signer) (λ (r : Ref). r.actor)
    (λ f. fits f.body && signature_fits f) (λ r x is. ((each r x is).0, spells x (each r x is).1)) refs frames e in
    let limits = and_parts (nat_le (length refs) 14 && is_rising (map (λ r. r.actor) refs))
    (list_all (is_of number) refs) accepted in
    let few = and_parts (nat_le (length refs) 14) (is_rising (map (λ r. r.actor) refs)) limits.0 in
    and_from _ _ (and_from _ _
    (ap (λ n. nat_le n 14) (same-length (λ (f : Signed B). f.signer) (λ (r : Ref). r.actor) refs frames all.0) ∙ few.0)
    (ap is_rising all.0 ∙ few.1))
    all.1

-- certificates

certificate-fits : (g : Group) → g.n ≤ 14 → (known : List (Signed Body)) → are_spelled known ≡ true →
    (item : Item) (c : Certificate) → certificate_known g (facts_of g known) item ≡ Some c →
    (c.s ≡ item.s) × (certificate_fits c ≡ true)
certificate-fits g few known spelled item c e =
    let made = option_map_from (certificate_of g (facts_of g known) item.s item.v)
    (prepared g (facts_of g known) item.v item.s) e in
    subst (λ (d : Certificate). (d.s ≡ item.s) × (certificate_fits d ≡ true)) made.2 (
      refl,
      and_from _ _ (prepared-fits g few known spelled item.v item.s made.0 made.1)
          (prepares-fit g few known spelled item.v item.s (digest_of_rows made.0)),
    )

shown-fit : (g : Group) → g.n ≤ 14 → (known : List (Signed Body)) → are_spelled known ≡ true →
    (base : ℕ) (marks : List (Signed Mark)) → marks_at g (facts_of g known) base ≡ Some marks →
    frames_fit always_fits marks ≡ true
shown-fit g few known spelled base marks e =
    subst (λ (ms : List (Signed Mark)). frames_fit always_fits ms ≡ true)
    (if_some (nat_eq base 0 || is_voted g (mark_by base) (facts_of g known)) e).1 (by (nat_eq base 0))
  where
    by : (b : Bool) → frames_fit always_fits (cond b [] (quorum_of g (mark_by base) (facts_of g known))) ≡ true
    by true = refl
    by false = marks-fit g few known spelled base

report-fits : (g : Group) → g.n ≤ 14 → (known : List (Signed Body)) → are_spelled known ≡ true →
    (v base : ℕ) (items : List Item) (r : Report) → are_items items ≡ true →
    report_of g (facts_of g known) v base items ≡ Some r → report_fits r ≡ true
report-fits g few known spelled v base items r accepted e =
    let shown = step-from (λ marks. option_map (report_with v base marks)
    (certificates_known g (facts_of g known) items)) (marks_at g (facts_of g known) base) r e in
    let made = option_map_from (report_with v base shown.0) (certificates_known g (facts_of g known) items) shown.2 in
    let all = all-gathered (certificate_known g (facts_of g known)) (λ (c : Certificate). c.s)
    (λ (item : Item). item.s) certificate_fits (certificate-fits g few known spelled) items made.0 made.1 in
    let limits = and_parts (nat_le (length items) 16) (is_rising (map (λ item. item.s) items)) accepted in
    subst (λ (b : Report). report_fits b ≡ true) made.2
    (and_from _ _ (and_from _ _ (and_from _ _ (shown-fit g few known spelled base shown.0 shown.1)
    (ap (λ n. nat_le n 16) (same-length (λ (c : Certificate). c.s) (λ (item : Item). item.s) items made.0 all.0)
    ∙ limits.0))
    (ap is_rising all.0 ∙ limits.1))
    all.1)

-- gifts

pub request-from : (j k : ℕ) (u : Update) (signer : ℕ) (b : Body) (sig : List ℕ) (x : Signed PoRequest) →
    request_of j k u record { signer = signer; body = b; sig = sig } ≡ Some x →
    record { signer = signer; body = b; sig = sig } ≡ as_frame body.PoRequest x
request-from j k u signer (body.PoRequest b) sig x e = ap (as_frame body.PoRequest) (if_some _ e).1
request-from j k u signer _ sig x e = absurd (none_some e)

pub ack-from : (j k : ℕ) (digest : List ℕ) (m signer : ℕ) (b : Body) (sig : List ℕ) (x : Signed PoAck) →
    ack_of j k digest m record { signer = signer; body = b; sig = sig } ≡ Some x →
    record { signer = signer; body = b; sig = sig } ≡ as_frame body.PoAck x
ack-from j k digest m signer (body.PoAck b) sig x e = ap (as_frame body.PoAck) (if_some _ e).1
ack-from j k digest m signer _ sig x e = absurd (none_some e)

acks-fit : (g : Group) → g.n ≤ 14 → (known : List (Signed Body)) → are_spelled known ≡ true →
    (j k : ℕ) (digest : List ℕ) → frames_fit always_fits (quorum_of_acks g known j k digest) ≡ true
acks-fit g few known spelled j k digest =
    masters-fit g few (λ m. first_of_list (filter_map (ack_of j k digest m) known)) (λ m x e.
    let found = first-from (ack_of j k digest) known m x e in
    let same = ack-from j k digest m found.0.signer found.0.body found.0.sig x found.2 in (
      (ack_from_word j k digest m found.0.signer found.0.body found.0.sig x found.2).0,
      signature-of-spelled (as_frame body.PoAck x)
          (ap has_spelling (sym same) ∙ known-spelled known spelled found.0 found.1),
    ))

gift-with : List (Signed PoAck) → Signed PoRequest → Give
gift-with acks request = record { request = request; acks = acks }

gift-fits : (g : Group) → g.n ≤ 14 → (known : List (Signed Body)) → are_spelled known ≡ true →
    (j k : ℕ) (gift : Give) → give_of g known j k ≡ Some gift → body_fits (body.Give gift) ≡ true
unfolding gift-with
gift-fits g few known spelled j k gift e =
    let update = step-from (give_with g known j k) (certified g known j k) gift e in
    let made = option_map_from (gift-with (quorum_of_acks g known j k (digest_of_update update.0)))
    (first_of_list (filter_map (request_of j k update.0) known)) update.2 in
    let found = in_filter_map_from (request_of j k update.0) known
    (first_in (filter_map (request_of j k update.0) known) made.1) in
    let same = request-from j k update.0 found.0.signer found.0.body found.0.sig made.0 found.2 in
    subst (λ (b : Give). body_fits (body.Give b) ≡ true) made.2
    (and_from _ _ (both-of-spelled (as_frame body.PoRequest made.0)
    (ap has_spelling (sym same) ∙ known-spelled known spelled found.0 found.1))
    (acks-fit g few known spelled j k (digest_of_update update.0)))

order-fits : (g : Group) → g.n ≤ 14 → (known : List (Signed Body)) → are_spelled known ≡ true →
    (s : ℕ) (gift : GiveOrdered) → given_order g (facts_of g known) s ≡ Some gift →
    body_fits (body.GiveOrdered gift) ≡ true
order-fits g few known spelled s gift e =
    let made = option_map_from (whole_order g (facts_of g known) s) (ordered g (facts_of g known) s) e in
    subst (λ (b : GiveOrdered). body_fits (body.GiveOrdered b) ≡ true) made.2
    (and_from _ _ (ordered-fits g few known spelled s made.0 made.1)
    (commits-fit g few known spelled (last_view g (facts_of g known) s (digest_of_rows made.0))
    s (digest_of_rows made.0)))

-- all kinds

plain-fits : (b c : Body) → Some b ≡ Some c → body_fits b ≡ true → body_fits c ≡ true
plain-fits b c e fits = subst (λ (z : Body). body_fits z ≡ true) (some_same e) fits

mapped-fits : {X : Type 0} (kind : X → Body) (o : Option X) (b : Body) → option_map kind o ≡ Some b →
    ((x : X) → o ≡ Some x → body_fits (kind x) ≡ true) → body_fits b ≡ true
mapped-fits kind o b e each = let made = option_map_from kind o e in
    subst (λ (z : Body). body_fits z ≡ true) made.2 (each made.0 made.1)

word-fits : (g : Group) → g.n ≤ 14 → (known : List (Signed Body)) → are_spelled known ≡ true → (w : Word) →
    is_accepted w ≡ true → (b : Body) → body_of g known w ≡ Some b → body_fits b ≡ true
unfolding body_of is_accepted
word-fits g few known spelled (word.Raw bytes) accepted b e = absurd (none_some e)
word-fits g few known spelled (word.PoRequest k update) accepted b e =
    mapped-fits (λ u. body.PoRequest record { k = k; update = u }) (update_named known update) b e (λ u is.
    signature-of-spelled (as_frame body.Update u)
    (kind-named known spelled body.Update as_update (λ f x e. update-from f.signer f.body f.sig x e) update u is).1)
word-fits g few known spelled (word.PoAck j k digest) accepted b e = mapped-fits _ _ b e (λ d is. refl)
word-fits g few known spelled (word.PoSummary numbers) accepted b e = plain-fits _ b e accepted
word-fits g few known spelled (word.PrePrepare v s frames) accepted b e =
    mapped-fits _ (all_of (map (summary_named known) frames)) b e (λ fs is.
    refs-fit body.PoSummary summary_fits (summary_named known) (λ x h. both-of-spelled (as_frame body.PoSummary x) h)
    (summary-named known spelled) 4 frames fs accepted is)
word-fits g few known spelled (word.Prepare v s digest) accepted b e = mapped-fits _ _ b e (λ d is. refl)
word-fits g few known spelled (word.Commit v s digest) accepted b e = mapped-fits _ _ b e (λ d is. refl)
word-fits g few known spelled (word.Ping number) accepted b e = plain-fits _ b e refl
word-fits g few known spelled (word.Pong to number) accepted b e = plain-fits _ b e refl
word-fits g few known spelled (word.Rtt to number ticks) accepted b e = plain-fits _ b e refl
word-fits g few known spelled (word.TatReport v ticks) accepted b e = plain-fits _ b e refl
word-fits g few known spelled (word.TatBound v ticks) accepted b e = plain-fits _ b e refl
word-fits g few known spelled (word.Suspect v) accepted b e = plain-fits _ b e refl
word-fits g few known spelled (word.Report v base items) accepted b e =
    mapped-fits _ (report_of g (facts_of g known) v (base_or_stable g (facts_of g known) base) items) b e
    (λ r is. report-fits g few known spelled v (base_or_stable g (facts_of g known) base) items r accepted is)
word-fits g few known spelled (word.NewView v reports) accepted b e =
    mapped-fits _ (all_of (map (report_named known) reports)) b e (λ rs is.
    refs-fit body.Report report_fits (report_named known) (λ x h. both-of-spelled (as_frame body.Report x) h)
    (report-named known spelled) 14 reports rs accepted is)
word-fits g few known spelled (word.AskUpdate j k) accepted b e = plain-fits _ b e refl
word-fits g few known spelled (word.Give j k) accepted b e =
    mapped-fits _ (give_of g known j k) b e (λ gift is. gift-fits g few known spelled j k gift is)
word-fits g few known spelled (word.AskOrder s) accepted b e = plain-fits _ b e refl
word-fits g few known spelled (word.GiveOrdered s) accepted b e = mapped-fits _ (given_order g (facts_of g known) s)
    b e (λ gift is. order-fits g few known spelled s gift is)
word-fits g few known spelled (word.Voucher client number order) accepted b e = plain-fits _ b e refl
word-fits g few known spelled (word.Mark s) accepted b e = plain-fits _ b e refl

pub fits-some : (g : Group) → g.n ≤ 14 → (known : List (Signed Body)) → are_spelled known ≡ true →
    (w : Word) (o : Option Body) → o ≡ body_of g known w → is_accepted w ≡ true → IfSome o (λ b. body_fits b ≡ true)
fits-some g few known spelled w None is accepted = tt
fits-some g few known spelled w (Some b) is accepted = word-fits g few known spelled w accepted b (sym is)
