-- What a client has done was vouched for.
use Rattle.std.proofs.Common.{◌≡◌, ℕ, ◌+◌, ◌-◌, ◌<◌, zero, suc, Bool, true, false, cond, ◌&&◌, List, []}
use Rattle.std.proofs.Common.{◌∷◌, ◌++◌, Option, Some, None, length, nat_eq, nat_lt, refl, sym, ◌∙◌, ap}
use Rattle.std.proofs.Common.{subst, inl, inr, arith, eqb-true}
use Rattle.std.proofs.lemmas.Bool.{false≢true, and_parts, ltb-true}
use Rattle.std.specs.Prelude.{slice_get}
use Rattle.std.specs.List.{flat_map, list_any}
use Rattle.plain_lists.specs.Lists.{IsIn, Within}
use Rattle.plain_lists.proofs.Members.{none_in, in_left, in_cons_cases, in_flat_map_from, in_filter_from, any_from, none_some}
use Rattle.quorum_sets.specs.Masters.{voters}
use Rattle.message_types.specs.Texts.{notice_number}
use Rattle.message_types.specs.declared.signed.Signed.{Signed}
use Rattle.message_types.specs.declared.vouchers.Notice.{Notice}
use Rattle.message_types.specs.declared.vouchers.NoticeKind.{NoticeKind}
use Rattle.message_types.specs.declared.vouchers.NoticeKind.TheVariants as notice
use Rattle.message_types.specs.declared.vouchers.Order.{Order}
use Rattle.message_types.specs.declared.vouchers.Order.TheVariants as order
use Rattle.message_types.specs.declared.vouchers.Voucher.{Voucher}
use Rattle.message_types.specs.declared.body.Body.{Body}
use Rattle.message_types.specs.declared.body.Body.TheVariants as body
use Rattle.vouched_orders.specs.declared.vote.Vote.{Vote}
use Rattle.vouched_orders.specs.Vouching.{same_order, is_for, supporters, settled_by, chosen_after, chosen, or_else}
use Rattle.vouched_orders.specs.Vouching.{done, run_from, counts, counted, votes_in, orders_done, greatest_number}
use Rattle.history_rules.specs.Events.{Entry}
use Rattle.history_rules.specs.Setup.{Setup, own}
use Rattle.history_rules.specs.Legal.{Stands}
use Rattle.history_rules.specs.Audit.{parts_taken}
use Rattle.agreement.specs.Laws.{IsSound, IsTaken, IsVouched, DoneBegins, votes_taken}
use Rattle.agreement.proofs.SpokenByKind.{if_some}
use Rattle.agreement.proofs.VouchedIsOrdered.{vouched_begin}

abbrev kind_of_number : ℕ → NoticeKind
kind_of_number x =
    cond (nat_eq x 1) notice.Done
    (cond (nat_eq x 2) notice.Denied (cond (nat_eq x 3) notice.NoPoint (cond (nat_eq x 4) notice.OutOfRange
    (cond (nat_eq x 5) notice.NotWritable
    (cond (nat_eq x 6) notice.NoAlarm
    (cond (nat_eq x 7) notice.Raised (cond (nat_eq x 8) notice.Cleared notice.WrongPart)))))))

kind_back : (k : NoticeKind) → kind_of_number (notice_number k) ≡ k
kind_back notice.Done = refl
kind_back notice.Denied = refl
kind_back notice.NoPoint = refl
kind_back notice.OutOfRange = refl
kind_back notice.NotWritable = refl
kind_back notice.NoAlarm = refl
kind_back notice.Raised = refl
kind_back notice.Cleared = refl
kind_back notice.WrongPart = refl

notice_same : (m n : Notice) → m.what ≡ n.what → m.t ≡ n.t → m.number ≡ n.number → order.Notice m ≡ order.Notice n
notice_same m n a b c = λ x. order.Notice record { what = a x; t = b x; number = c x }

order_same : (a b : Order) → same_order a b ≡ true → a ≡ b
order_same (order.Write p r) (order.Write q s) e =
    let both = and_parts (nat_eq p q) (nat_eq r s) e in
    ap (λ z. order.Write z r) (eqb-true p q both.0) ∙ ap (λ z. order.Write q z) (eqb-true r s both.1)
order_same (order.Write p r) (order.Notice n) e = absurd (false≢true e)
order_same (order.Notice m) (order.Write q s) e = absurd (false≢true e)
order_same (order.Notice m) (order.Notice n) e =
    let numbers = and_parts _ _ e in
    let kinds = and_parts _ _ numbers.0 in
    notice_same m n (sym (kind_back m.what)
    ∙ ap kind_of_number (eqb-true (notice_number m.what) (notice_number n.what) kinds.0) ∙ kind_back n.what)
    (eqb-true m.t n.t kinds.1) (eqb-true m.number n.number numbers.1)

-- a place in a run
run_at : (f : ℕ → Option Order) (start most x : ℕ) (o : Order) → slice_get (run_from f start most) x ≡ Some o →
    f (start + x) ≡ Some o
unfolding run_from
run_at f start zero x o e = absurd (none_some e)
run_at f start (suc most) x o e = by_first (f start) refl x e (λ y later. run_at f (suc start) most y o later)
  where
    by_first : (p : Option Order) → f start ≡ p → (x : ℕ) →
        slice_get {X = Order} (elim p [ None ↦ [] | Some z ↦ z ∷ run_from f (suc start) most ]) x ≡ Some o
        → ((y : ℕ) → slice_get (run_from f (suc start) most) y ≡ Some o → f (suc start + y) ≡ Some o) →
        f (start + x) ≡ Some o
    by_first None is x e later = absurd (none_some e)
    by_first (Some z) is zero e later = let same : start + 0 ≡ start = omega arith in ap f same ∙ is ∙ e
    by_first (Some z) is (suc y) e later = let same : start + suc y ≡ suc start + y =
        omega arith in ap f same ∙ later y e

-- an order chosen has more than f supporters among the votes
chosen_from : (n f : ℕ) (seen rest : List Vote) (x : ℕ) (o : Order) → chosen_after n f seen rest x ≡ Some o
    → (votes : List Vote) × Within votes (seen ++ rest) × (f < length (supporters n votes x o))
unfolding chosen_after
chosen_from n f seen [] x o e = absurd (none_some e)
chosen_from n f seen (vote ∷ rest) x o e = by_first (settled_by n f (seen ++ vote ∷ []) vote x) refl e
    (λ later. chosen_from n f (seen ++ vote ∷ []) rest x o later)
  where
    by_first : (p : Option Order) → settled_by n f (seen ++ vote ∷ []) vote x ≡ p →
        or_else p (chosen_after n f (seen ++ vote ∷ []) rest x) ≡ Some o
        → (chosen_after n f (seen ++ vote ∷ []) rest x ≡ Some o → (votes : List Vote)
        × Within votes ((seen ++ vote ∷ []) ++ rest) × (f < length (supporters n votes x o)))
        → (votes : List Vote) × Within votes (seen ++ vote ∷ rest) × (f < length (supporters n votes x o))
    by_first None is e later =
        let found = later e in (
          found.0,
          (λ z h. subst (λ (zs : List Vote). IsIn z zs)
              (Rattle.std.proofs.Common.append_assoc seen (vote ∷ []) rest) (found.1 z h)),
          found.2,
        )
    by_first (Some p) is e later =
        let held = if_some (nat_eq vote.voucher.number x
        && nat_lt f (length (supporters n (seen ++ vote ∷ []) x vote.voucher.order))) (is ∙ e) in
        let many : f < length (supporters n (seen ++ vote ∷ []) x vote.voucher.order) =
        ltb-true f (length (supporters n (seen ++ vote ∷ []) x vote.voucher.order)) (and_parts _ _ held.0).1 in (
          seen ++ vote ∷ [],
          (λ z h. subst (λ (zs : List Vote). IsIn z zs) (Rattle.std.proofs.Common.append_assoc seen (vote ∷ []) rest)
              (in_left rest h)),
          subst (λ (q : Order). f < length (supporters n (seen ++ vote ∷ []) x q)) held.1 many,
        )

vote_of : (signer : ℕ) (word : Body) (sig : List ℕ) (vote : Vote) →
    IsIn vote (votes_in (record { signer = signer; body = word; sig = sig } ∷ [])) → (vote.signer ≡ signer)
    × (word ≡ body.Voucher vote.voucher)
unfolding votes_in
vote_of signer (body.Voucher v) sig vote h = elim (in_cons_cases h) [
  | inl e ↦ (ap (λ (z : Vote). z.signer) e, ap (λ (z : Vote). body.Voucher z.voucher) (sym e))
  | inr none ↦ absurd (none_in none)
]
vote_of signer _ sig vote h = absurd (none_in h)

votes_from : (frames : List (Signed Body)) (vote : Vote) → IsIn vote (votes_in frames) →
    (p : Signed Body) × IsIn p frames × IsIn vote (votes_in (p ∷ []))
unfolding votes_in
votes_from frames vote h =
    let found = in_flat_map_from
    (λ (frame : Signed Body). elim frame.body as (λ _. List Vote)
    [ body.Voucher v ↦ record { signer = frame.signer; voucher = v } ∷ [] | _ ↦ [] ]) frames h in
    (found.0, found.1, in_left [] found.2)

entry_stands : (history : List Entry) {e : Entry} → IsIn e history → (before : List Entry) × Stands history before e
entry_stands [] h = absurd (none_in h)
entry_stands (d ∷ rest) {e} h = elim (in_cons_cases h) [
  | inl same ↦ ([], record { after = rest; whole = ap (λ (z : Entry). z ∷ rest) (sym same) })
  | inr later ↦ let found = entry_stands rest later in
      (d ∷ found.0, record { after = found.1.after; whole = ap (λ (zs : List Entry). d ∷ zs) found.1.whole })
]

-- an entry of one's own stands in the history
own_stands : (history : List Entry) (actor : ℕ) (e : Entry) → IsIn e (own history actor) →
    (before : List Entry) × Stands history before e
unfolding own
own_stands history actor e h = entry_stands history (in_filter_from (λ e. nat_eq e.actor actor) history h).0

supported : (votes : List Vote) (x : ℕ) (o : Order) (m : ℕ) →
    list_any (λ vote. nat_eq vote.signer m && is_for x o vote) votes ≡ true
    → (vote : Vote) × IsIn vote votes × (vote.signer ≡ m) × (vote.voucher.number ≡ x) × (vote.voucher.order ≡ o)
supported votes x o m e =
    let found = any_from (λ vote. nat_eq vote.signer m && is_for x o vote) votes e in
    let both = and_parts _ _ found.2 in
    let ballot = and_parts _ _ both.1 in (
      found.0,
      found.1,
      eqb-true found.0.signer m both.0,
      eqb-true found.0.voucher.number x ballot.0,
      order_same found.0.voucher.order o ballot.1,
    )

voucher_same : (v : Voucher) (client number : ℕ) (o : Order) → v.client ≡ client → v.number ≡ number → v.order ≡ o →
    body.Voucher v ≡ body.Voucher record { client = client; number = number; order = o }
voucher_same v client number o a b c = λ x. body.Voucher record { client = a x; number = b x; order = c x }

many_supporters : (n : ℕ) (votes : List Vote) (x f : ℕ) (o : Order) → f < length (supporters n votes x o) →
    f < length (voters (λ m. list_any (λ vote. nat_eq vote.signer m && is_for x o vote) votes) n)
unfolding supporters
many_supporters n votes x f o h = h

module _ (w : Setup) (history : List Entry) (client : ℕ) (can_act : Order → Bool) (sound : IsSound w history) where
  -- the votes taken by the client that count
  abbrev votes_counted : List Vote
  votes_counted = counted can_act client (votes_taken history (w.group.n + client))

  -- a vote that counts was in a frame taken
  vote_taken : (vote : Vote) → IsIn vote votes_counted
      → (vote.voucher.client ≡ client) × IsTaken history vote.signer (body.Voucher vote.voucher)
  vote_taken vote h =
      let kept = in_filter_from (counts can_act client) (votes_taken history (w.group.n + client)) h in
      let frame = votes_from (flat_map parts_taken (own history (w.group.n + client))) vote kept.0 in
      let entry = in_flat_map_from parts_taken (own history (w.group.n + client)) frame.1 in
      let place = own_stands history (w.group.n + client) entry.0 entry.1 in
      let is = vote_of frame.0.signer frame.0.body frame.0.sig vote frame.2 in (
        eqb-true vote.voucher.client client (and_parts _ _ kept.1).0,
        record {
          before = place.0;
          entry = entry.0;
          place = place.1;
          part = frame.0;
          among = entry.2;
          by = sym is.0;
          word = is.1;
        },
      )

  done_vouched : (x : ℕ) (o : Order) →
      slice_get (orders_done can_act client w.group.n w.group.f (votes_taken history (w.group.n + client))) x ≡ Some o
      → IsVouched w history client (x + 1) o
  unfolding done
  done_vouched x o e =
      let at : chosen w.group.n w.group.f votes_counted
      (1 + x) ≡ Some o =
      run_at (chosen w.group.n w.group.f votes_counted) 1
      (greatest_number votes_counted) x o e in
      let from = chosen_from w.group.n w.group.f []
      votes_counted (1 + x) o at in
      record {
        masters = λ m. list_any (λ vote. nat_eq vote.signer m && is_for (1 + x) o vote) from.0;
        enough = many_supporters w.group.n from.0 (1 + x) w.group.f o from.2;
        taken = λ m lt has.
            let vote = supported from.0 (1 + x) o m has in
            let took = vote_taken vote.0 (from.1 vote.0 vote.1) in
            let number : vote.0.voucher.number ≡ x + 1 = vote.3 ∙ omega arith in
            subst (λ (b : Body). IsTaken history m b)
            (voucher_same vote.0.voucher client (x + 1) o took.0 number vote.4)
            (subst (λ (s : ℕ). IsTaken history s (body.Voucher vote.0.voucher)) vote.2 took.1);
      }

pub done_begins : DoneBegins
done_begins w history client can_act sound appends =
    vouched_begin w history client sound appends
    (orders_done can_act client w.group.n w.group.f (votes_taken history (w.group.n + client)))
    (done_vouched w history client can_act sound)
