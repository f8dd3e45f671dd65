-- The acknowledgements of one master's requests for one client are no more than the client's updates: the updates that these
-- requests bear have rising numbers, and each was said by the client.
use Rattle.std.proofs.Common.{◌≡◌, ℕ, zero, suc, ◌+◌, ◌-◌, ◌<◌, ◌≤◌, Bool, true, false, cond, ◌&&◌, List, [], ◌∷◌, ◌++◌, Option, Some}
use Rattle.std.proofs.Common.{None, max, length, filter, nat_eq, refl, sym, ◌∙◌, ap, subst, arith, eqb-true}
use Rattle.std.proofs.lemmas.Bool.{false≢true, and_parts, eq-eqb}
use Rattle.std.proofs.lemmas.List.Elements.{filter_map-append}
use Rattle.std.specs.Prelude.{is_some}
use Rattle.std.specs.List.{list_any, filter_map, cons_option}
use Rattle.plain_lists.specs.Lists.{here, there, Each, Begins}
use Rattle.plain_lists.proofs.Members.{in_filter_map_from, none_some, some_same}
use Rattle.message_types.specs.declared.signed.Signed.{Signed}
use Rattle.message_types.specs.declared.updates.Update.{Update}
use Rattle.message_types.specs.declared.body.Body.{Body}
use Rattle.message_types.specs.declared.body.Body.TheVariants as body
use Rattle.message_types.specs.Parts.{as_frame}
use Rattle.protocol_rules.specs.Words.{greatest_of, numbers_from}
use Rattle.protocol_rules.specs.Group.{Group, most_number}
use Rattle.protocol_rules.specs.Preorder.{acks, updates_requested}
use Rattle.protocol_rules.specs.Turns.{first_requested, number_for}
use Rattle.protocol_rules.proofs.FirstMet.{first_in}
use Rattle.protocol_rules.proofs.Greatest.{greatest_of-append}
use Rattle.protocol_rules.proofs.Numbers.{numbers_from-suc, numbers_from-none}
use Rattle.history_rules.specs.Audit.{HasSaid}
use Rattle.agreement.specs.Laws.{known_by}
use Rattle.agreement.proofs.KnownAsItGrows.{learned_by}
use Rattle.agreement.proofs.LearnedWasSaid.{learned_closed, learned_said}
use Rattle.agreement.proofs.LearnedInPlace.{learned_good}
use Rattle.agreement.proofs.RequestsAgree.{requested_known, known_in}
use Rattle.agreement.proofs.UpdatesAreTaken.{client_correct}
use Rattle.progress_bounds.specs.Bounds.{AcksForUpdates, words_by}
use Rattle.progress_bounds.proofs.Counting.{one, count-append, count-cons}
use Rattle.progress_bounds.proofs.InTurn.{Turned, acked_turned}

-- the number that is made of an update requested first
abbrev number_of : ℕ → Option Update → Option ℕ
number_of c o = elim o [ None ↦ None | Some u ↦ cond (nat_eq u.client c) (Some u.t) None ]

-- what a request is for, by its first update
for_client : (c : ℕ) (u : Update) → is_some (number_of c (Some u)) ≡ true → (u.client ≡ c) × (number_of c (Some u) ≡ Some u.t)
for_client c u e = by (nat_eq u.client c) refl e
  where
    by : (b : Bool) → nat_eq u.client c ≡ b → is_some (cond b (Some u.t) None) ≡ true →
        (u.client ≡ c) × (cond (nat_eq u.client c) (Some u.t) None ≡ Some u.t)
    by true is e = (eqb-true u.client c is, ap (λ t. cond t (Some u.t) None) is)
    by false is e = absurd (false≢true e)

module _ (g : Group) (known : List (Signed Body)) (said : List Body) (j c : ℕ)
    (turned : (k : ℕ) → list_any (acks j k) said ≡ true → Turned g known j k) where
  abbrev counts : ℕ → Bool
  counts k = list_any (acks j k) said && is_some (number_for known c j k)

  -- up to each number there are no more than the highest update
  up_to : (most : ℕ) → length (filter counts (numbers_from 1 most))
      ≤ greatest_of (filter_map (number_for known c j) (numbers_from 1 most))
  up_to zero = subst (λ (ks : List ℕ). length (filter counts ks) ≤ greatest_of (filter_map (number_for known c j) ks))
      (sym (numbers_from-none 1)) (omega arith)
  up_to (suc most) =
      let deeper = up_to most in
      subst (λ (ks : List ℕ). length (filter counts ks) ≤ greatest_of (filter_map (number_for known c j) ks))
      (sym (numbers_from-suc 1 most)) (one_more (counts (1 + most)) refl deeper)
    where
      one_more : (b : Bool) → counts (1 + most) ≡ b
          → length (filter counts (numbers_from 1 most)) ≤ greatest_of (filter_map (number_for known c j) (numbers_from 1 most))
          → length (filter counts (numbers_from 1 most ++ (1 + most) ∷ []))
          ≤ greatest_of (filter_map (number_for known c j) (numbers_from 1 most ++ (1 + most) ∷ []))
      one_more b e deeper =
          let all = count-append counts (numbers_from 1 most) ((1 + most) ∷ []) in
          let last = count-cons counts (1 + most) [] in
          let now : one (counts (1 + most)) ≡ one b = ap one e in
          let greatest : greatest_of (filter_map (number_for known c j) (numbers_from 1 most ++ (1 + most) ∷ [])) ≡ max
          (greatest_of (filter_map (number_for known c j) (numbers_from 1 most)))
          (greatest_of (cons_option (number_for known c j (1 + most)) [])) =
          ap greatest_of (filter_map-append (number_for known c j) (numbers_from 1 most) ((1 + most) ∷ []))
          ∙ greatest_of-append (filter_map (number_for known c j) (numbers_from 1 most))
          (cons_option (number_for known c j (1 + most)) []) in
          let more = raised b e in
          omega arith
        where
          raised : (b : Bool) → counts (1 + most) ≡ b → greatest_of (filter_map (number_for known c j) (numbers_from 1 most)) + one b
              ≤ max (greatest_of (filter_map (number_for known c j) (numbers_from 1 most)))
              (greatest_of (cons_option (number_for known c j (1 + most)) []))
          raised false e = omega arith
          raised true e =
              let both = and_parts (list_any (acks j (1 + most)) said) (is_some (number_for known c j (1 + most))) e in
              let t = turned (1 + most) both.0 in
              let is : is_some (number_of c (Some t.update)) ≡ true = ap (λ o. is_some (number_of c o)) (sym t.first) ∙ both.1 in
              let for_c = for_client c t.update is in
              let number : number_for known c j (1 + most) ≡ Some t.update.t = ap (number_of c) t.first ∙ for_c.1 in
              let newest : greatest_of (cons_option (number_for known c j (1 + most)) []) ≡ max t.update.t 0 =
              ap (λ o. greatest_of (cons_option o [])) number in
              let less : (1 + most) - 1 ≡ most = omega arith in
              let below : greatest_of (filter_map (number_for known t.update.client j) (numbers_from 1 ((1 + most) - 1)))
              < t.update.t = t.rises in
              let below_c : greatest_of (filter_map (number_for known c j) (numbers_from 1 most)) < t.update.t =
              subst (λ (x : ℕ). greatest_of (filter_map (number_for known x j) (numbers_from 1 most)) < t.update.t) for_c.0
              (subst (λ (x : ℕ). greatest_of (filter_map (number_for known t.update.client j) (numbers_from 1 x))
              < t.update.t) less below) in
              omega arith

greatest_low : (most : ℕ) (xs : List ℕ) → Each (λ x. x ≤ most) xs → greatest_of xs ≤ most
greatest_low most [] each = omega arith
greatest_low most (x ∷ xs) each =
    let first = each x (here xs) in
    let rest = greatest_low most xs (λ y h. each y (there x xs h)) in
    omega arith

pub acks_for_updates : AcksForUpdates
acks_for_updates w history m j bound sizes unforged = (
  λ k acked.
      let t = turned k acked in
      record {
        client = t.update.client;
        counted = t.client;
        serves = t.serves;
        update = ap (λ o. is_some (number_of t.update.client o)) t.first
            ∙ ap (λ b. is_some (cond b (Some t.update.t) None)) (eq-eqb t.update.client t.update.client refl);
      },
  λ c highest low.
      let few = up_to w.group known (words_by w history m) j c turned most_number in
      let most = greatest_low highest (filter_map (number_for known c j) (numbers_from 1 most_number)) (λ t h.
      let at = in_filter_map_from (number_for known c j) (numbers_from 1 most_number) h in
      said_low c highest low at.0 t at.2) in
      omega arith,
)
  where
    known : List (Signed Body)
    known = known_by w history m

    turned : (k : ℕ) → list_any (acks j k) (words_by w history m) ≡ true → Turned w.group (known_by w history m) j k
    turned k acked = acked_turned w m bound.live bound.correct history bound.legal j k acked

    -- the client said each update that is requested
    said_low : (c highest : ℕ)
        → ((u : Update) → u.client ≡ c → HasSaid history (w.group.n + c) (body.Update u) → u.t ≤ highest)
        → (k t : ℕ) → number_for (known_by w history m) c j k ≡ Some t → t ≤ highest
    said_low c highest low k t e = by (first_requested (known_by w history m) j k) refl e
      where
        by : (o : Option Update) → first_requested (known_by w history m) j k ≡ o → number_of c o ≡ Some t → t ≤ highest
        by None is e = absurd (none_some e)
        by (Some u) is e =
            let some : is_some (number_of c (Some u)) ≡ true = ap is_some e in
            let for_c = for_client c u some in
            let same : u.t ≡ t = some_same (sym for_c.1 ∙ e) in
            let begins : Begins history history = record {
              rest = [];
              same = sym (Rattle.std.proofs.lemmas.List.append-nil history);
            } in
            let frame = requested_known (learned_by w history m) (known_by w history m) (learned_closed w history m)
            (known_in w history history m begins) j k u (first_in (updates_requested (known_by w history m) j k) is) in
            let part : Signed Body = as_frame body.Update frame.0 in
            let good = learned_good w m history bound.legal sizes bound.correct part frame.1 in
            let signer : frame.0.signer ≡ w.group.n + frame.0.body.client = good.0 in
            let said : HasSaid history frame.0.signer (body.Update frame.0.body) = learned_said w m history bound.legal unforged
            bound.correct part frame.1 (client_correct w frame.0.signer frame.0.body.client signer) in
            let client : frame.0.body.client ≡ c = ap (λ (x : Update). x.client) frame.2 ∙ for_c.0 in
            let number : frame.0.body.t ≡ u.t = ap (λ (x : Update). x.t) frame.2 in
            let at : HasSaid history (w.group.n + c) (body.Update frame.0.body) =
            subst (λ (x : ℕ). HasSaid history x (body.Update frame.0.body)) (signer ∙ ap (λ x. w.group.n + x) client) said in
            let least = low frame.0.body client at in
            omega arith
