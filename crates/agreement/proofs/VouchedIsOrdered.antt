-- What a master executed only grows, and orders that enough masters vouch for are a correct master's.
use Rattle.std.proofs.Common.{◌≡◌, ℕ, ◌+◌, ◌*◌, ◌<◌, ◌≤◌, zero, suc, true, List, [], ◌∷◌, ◌++◌, Some, length}
use Rattle.std.proofs.Common.{refl, sym, ◌∙◌, ap, subst, inl, inr, arith, append_assoc, append-nil}
use Rattle.std.proofs.lemmas.Grind.{flat_map-append}
use Rattle.std.specs.Prelude.{slice_get}
use Rattle.std.specs.List.{flat_map, find}
use Rattle.plain_lists.specs.Lists.{Begins}
use Rattle.protocol_rules.proofs.FirstMet.{first_met-more}
use Rattle.plain_lists.proofs.Members.{slice_get-more, slice_get-next, some_same, none_some}
use Rattle.quorum_sets.specs.Masters.{voters}
use Rattle.quorum_sets.proofs.MastersLemmas.{length-voters-suc, voters-zero}
use Rattle.message_types.specs.declared.signed.Signed.{Signed}
use Rattle.message_types.specs.declared.updates.Update.{Update}
use Rattle.message_types.specs.declared.vouchers.Order.{Order}
use Rattle.message_types.specs.declared.body.Body.{Body}
use Rattle.message_types.specs.declared.body.Body.TheVariants as body
use Rattle.message_types.specs.Parts.{parts}
use Rattle.message_types.specs.Digests.{digest_of_update, digest_of_rows}
use Rattle.protocol_rules.specs.Group.{Group, most_number}
use Rattle.protocol_rules.specs.Facts.{facts_of, tells, rows_known}
use Rattle.protocol_rules.specs.Preorder.{certified, is_acked, updates_requested}
use Rattle.protocol_rules.specs.Order.{ordered, ordered_run, is_committed}
use Rattle.protocol_rules.specs.Master.{Heard, learned, taken_frames, known_at, executed, certified_requests}
use Rattle.history_rules.specs.Events.{Entry}
use Rattle.history_rules.specs.Setup.{Setup, is_correct, is_correct_master}
use Rattle.history_rules.specs.Legal.{heard, known_of, executions}
use Rattle.history_rules.specs.Audit.{HasSaid}
use Rattle.agreement.specs.Laws.{IsSound, known_by, IsVouched, ExecutionsGrow, VouchedBegin}
use Rattle.agreement.proofs.QuorumsMeet.{voter_beyond}
use Rattle.agreement.proofs.Places.{by_growth, said_whole, whole_upto}
use Rattle.agreement.proofs.KnownAsItGrows.{heard_more, heard_last, hears, known_then}
use Rattle.agreement.proofs.LearnedWasSaid.{FirstSaid, first_said, due_first}
use Rattle.agreement.proofs.SaidOnce.{correct_master, correct_actor}
use Rattle.agreement.proofs.ExecutedInTurn.{executed_grow, runs_grow}
use Rattle.agreement.proofs.ExecutionsAgree.{executions_agree}
use Rattle.agreement.proofs.SpokenByKind.{less_one}

-- what the last event of a list knows
pub known_of_last : (hs : List Heard) (h : Heard) → known_of (hs ++ h ∷ []) ≡ known_at hs h.took
unfolding known_of known_at
known_of_last [] h = refl
known_of_last (e ∷ []) h = ap (λ (ps : List (Signed Body)). ps ++ flat_map parts (taken_frames h.took))
    (sym (append-nil (learned e)))
known_of_last (e ∷ f ∷ rest) h =
    ap (λ (ps : List (Signed Body)). learned e ++ ps) (known_of_last (f ∷ rest) h)
    ∙ sym (append_assoc (learned e) (flat_map learned (f ∷ rest)) (flat_map parts (taken_frames h.took)))

-- what is known at an event begins what is known at a later one
pub known_of_grows : (hs more : List Heard) → Begins (known_of hs) (known_of (hs ++ more))
unfolding known_of
known_of_grows [] more = record { rest = known_of more; same = refl }
known_of_grows (e ∷ []) [] = record { rest = []; same = sym (append-nil (flat_map parts (taken_frames e.took))) }
known_of_grows (e ∷ []) (f ∷ more) = record {
  rest = flat_map parts e.said ++ known_of (f ∷ more);
  same = append_assoc (flat_map parts (taken_frames e.took)) (flat_map parts e.said) (known_of (f ∷ more));
}
known_of_grows (e ∷ f ∷ rest) more =
    let b = known_of_grows (f ∷ rest) more in
    record {
      rest = b.rest;
      same = ap (λ (ps : List (Signed Body)). learned e ++ ps) b.same
          ∙ sym (append_assoc (learned e) (known_of (f ∷ rest)) b.rest);
    }

known_grown : (w : Setup) (history first : List Entry) (i : ℕ) → Begins first history →
    Begins (known_by w first i) (known_by w history i)
known_grown w history first i b =
    let more = heard_more w first b.rest i in
    subst (λ (xs : List Entry). Begins (known_by w first i) (known_by w xs i)) (sym b.same)
    (subst (λ (hs : List Heard). Begins (known_by w first i) (known_of hs)) (sym more.1)
    (known_of_grows (heard w first i) more.0))

pub certified_stays : (g : Group) (known more : List (Signed Body)) (x k : ℕ) (u : Update) →
    certified g known x k ≡ Some u → certified g (known ++ more) x k ≡ Some u
unfolding certified
certified_stays g known more x k u e =
    first_met-more (λ beginning. find (λ u. is_acked g beginning x k (digest_of_update u))
    (updates_requested beginning x k)) [] known more e

pub ordered_stays : (g : Group) (known more : List (Signed Body)) (s : ℕ) (rows : List (List ℕ)) →
    ordered g (facts_of g known) s ≡ Some rows → ordered g (facts_of g (known ++ more)) s ≡ Some rows
unfolding ordered facts_of
ordered_stays g known more s rows e =
    ap (λ facts. ordered g facts s) (flat_map-append (tells g) known more)
    ∙ first_met-more (λ beginning. find (λ rows. is_committed g beginning s (digest_of_rows rows))
    (rows_known beginning)) [] (flat_map (tells g) known) (flat_map (tells g) more) e

pub executed_more : (g : Group) (known more : List (Signed Body)) →
    Begins (executed g known) (executed g (known ++ more))
unfolding executed ordered_run
executed_more g known more = executed_grow g (certified_requests g known) (certified_requests g (known ++ more))
    (λ r u e. certified_stays g known more r.j r.k u e)
    (ordered_run g (facts_of g known)) (ordered_run g (facts_of g (known ++ more)))
    (runs_grow (ordered g (facts_of g known)) (ordered g (facts_of g (known ++ more)))
    (λ s rows e. ordered_stays g known more s rows e) 1 most_number)

pub executions_grow : ExecutionsGrow
executions_grow w history first i b =
    let grown = known_grown w history first i b in
    subst (λ (ps : List (Signed Body)). Begins (executions w first i) (executed w.group ps)) (sym grown.same)
    (executed_more w.group (known_by w first i) grown.rest)

voters_all : (n : ℕ) → length (voters (λ _. true) n) ≡ n
voters_all zero = ap length (voters-zero (λ _. true))
voters_all (suc n) = let less : length (voters (λ _. true) n) ≡ n = voters_all n in
    length-voters-suc (λ _. true) n ∙ omega arith

begins_whole : {X : Type 0} (xs ys zs : List X) → Begins xs ys → Begins ys zs → Begins xs zs
begins_whole {X} xs ys zs a b =
    record {
      rest = a.rest ++ b.rest;
      same = b.same ∙ ap (λ (vs : List X). vs ++ b.rest) a.same
          ∙ append_assoc xs a.rest b.rest;
    }

first_of_rest : {X : Type 0} (xs rest : List X) (x : X) → slice_get rest 0 ≡ Some x → Begins (xs ++ x ∷ []) (xs ++ rest)
first_of_rest xs [] x e = absurd (none_some e)
first_of_rest {X} xs (y ∷ rest) x e =
    record { rest = rest; same = ap (λ (z : X). xs ++ z ∷ rest) (some_same e) ∙ sym (append_assoc xs (x ∷ []) rest) }

begins_next : {X : Type 0} (xs ys : List X) (x : X) → Begins xs ys → slice_get ys (length xs) ≡ Some x →
    Begins (xs ++ x ∷ []) ys
begins_next {X} xs ys x b e = subst (λ (zs : List X). Begins (xs ++ x ∷ []) zs) (sym b.same)
    (first_of_rest xs b.rest x
    (sym (slice_get-next xs b.rest) ∙ ap (λ (zs : List X). slice_get zs (length xs)) (sym b.same) ∙ e))

begins_slice : {X : Type 0} (xs ys : List X) (k : ℕ) (x : X) → Begins xs ys → slice_get xs k ≡ Some x →
    slice_get ys k ≡ Some x
begins_slice {X} xs ys k x b e = ap (λ (zs : List X). slice_get zs k) b.same ∙ slice_get-more xs b.rest k e

module _ (w : Setup) (history : List Entry) (client : ℕ) (sound : IsSound w history)
    (appends : (xs ys : List Update) → Begins xs ys → Begins (w.orders xs client) (w.orders ys client)) where
  -- the voucher for an order at a place of the client's orders
  abbrev voucher_of : ℕ → Order → Body
  voucher_of x order = body.Voucher record { client = client; number = x + 1; order = order }

  -- what a correct master vouched for is an order of its executions
  voucher_holds : (i x : ℕ) (order : Order) → is_correct_master w i ≡ true →
      HasSaid history i (voucher_of x order)
      → slice_get (w.orders (executions w history i) client) x ≡ Some order
  voucher_holds i x order correct was_said =
      let first : FirstSaid w history i (voucher_of x order) =
      first_said w i (voucher_of x order) correct history sound.legal was_said in
      let said : HasSaid history i (voucher_of x order) = first.said in
      let due = due_first w history i (voucher_of x order) first in
      let upto : List Entry = said.before ++ said.entry ∷ [] in
      let last = heard_last w said.before said.entry i said.by due.0 in
      let known : known_by w (said.before ++ said.entry ∷ []) i ≡ known_then w said.before i said.entry =
      ap known_of last.1 ∙ known_of_last (heard w said.before i) (hears w i last.0 said.entry) in
      let at : slice_get (w.orders (executions w (said.before ++ said.entry ∷ []) i) client) x ≡ Some order =
      ap (λ (ps : List (Signed Body)). slice_get (w.orders (executed w.group ps) client) x) known
      ∙ ap (slice_get (w.orders (executed w.group (known_then w said.before i said.entry)) client)) (sym (less_one x))
      ∙ due.1.1 in
      let grown = executions_grow w history (said.before ++ said.entry ∷ []) i record {
        rest = said.place.after;
        same = whole_upto said.place;
      } in
      begins_slice (w.orders (executions w (said.before ++ said.entry ∷ []) i) client)
      (w.orders (executions w history i) client) x order
      (appends (executions w (said.before ++ said.entry ∷ []) i) (executions w history i) grown) at

  -- an order that is vouched for is one of a correct master
  vouched_by : (x : ℕ) (order : Order) → IsVouched w history client (x + 1) order
      → (i : ℕ) × (is_correct_master w i ≡ true) × (slice_get (w.orders (executions w history i) client) x ≡ Some order)
  vouched_by x order v =
      let few : length (voters w.intruded w.group.n) ≤ w.group.f = sound.few.few in
      let many : w.group.f < length (voters v.masters w.group.n) = v.enough in
      let found = voter_beyond v.masters w.intruded w.group.n (omega arith) in
      let taken = v.taken found.0 found.1 found.2 in
      let said = said_whole taken.place (sound.unforged.said taken.before taken.entry taken.place taken.part taken.among
      (subst (λ (m : ℕ). is_correct w m ≡ true) (sym taken.by) (correct_actor w found.0 found.3))) in
      let as_said : HasSaid history found.0 (voucher_of x order) =
      subst (λ (m : ℕ). HasSaid history m (voucher_of x order))
      taken.by
      (subst (λ (b : Body). HasSaid history taken.part.signer b) taken.word said) in (
        found.0,
        correct_master w found.0 found.1 found.3,
        voucher_holds found.0 x order (correct_master w found.0 found.1 found.3) as_said,
      )

  some_master : (orders : List Order) → orders ≡ [] → (i : ℕ) × (is_correct_master w i ≡ true)
      × Begins orders (w.orders (executions w history i) client)
  some_master orders none =
      let few : length (voters w.intruded w.group.n) ≤ w.group.f = sound.few.few in
      let all : length (voters (λ _. true) w.group.n) ≡ w.group.n = voters_all w.group.n in
      let size : w.group.n ≡ 3 * w.group.f + 2 * w.group.k + 1 = sound.sizes.all in
      let found = voter_beyond (λ _. true) w.intruded w.group.n (omega arith) in (
        found.0,
        correct_master w found.0 found.1 found.3,
        subst (λ (zs : List Order). Begins zs (w.orders (executions w history found.0) client)) (sym none)
            record { rest = w.orders (executions w history found.0) client; same = refl },
      )

  -- one order more
  one_more : (orders : List Order) (order : Order)
      → (((x : ℕ) (o : Order) → slice_get orders x ≡ Some o → IsVouched w history client (x + 1) o) →
      (i : ℕ) × (is_correct_master w i ≡ true) × Begins orders (w.orders (executions w history i) client))
      → ((x : ℕ) (o : Order) → slice_get (orders ++ order ∷ []) x ≡ Some o → IsVouched w history client (x + 1) o)
      → (i : ℕ) × (is_correct_master w i ≡ true) × Begins (orders ++ order ∷ [])
      (w.orders (executions w history i) client)
  one_more orders order so_far vouched =
      let earlier = so_far (λ x o e. vouched x o (slice_get-more orders (order ∷ []) x e)) in
      let next = vouched_by (length orders) order
      (vouched (length orders) order (slice_get-next orders (order ∷ []))) in
      elim (executions_agree w history history history earlier.0 next.0 sound record {
        rest = [];
        same =
            sym (append-nil history);
      } record { rest = []; same = sym (append-nil history) } earlier.1 next.1) [
        | inl shorter ↦ (
          next.0,
          next.1,
          begins_next orders (w.orders (executions w history next.0) client) order
              (begins_whole orders (w.orders (executions w history earlier.0) client)
              (w.orders (executions w history next.0) client) earlier.2
              (appends (executions w history earlier.0) (executions w history next.0) shorter)) next.2,
        )
        | inr longer ↦ (
          earlier.0,
          earlier.1,
          begins_next orders (w.orders (executions w history earlier.0) client) order earlier.2
              (begins_slice (w.orders (executions w history next.0) client)
              (w.orders (executions w history earlier.0) client) (length orders) order
              (appends (executions w history next.0) (executions w history earlier.0) longer) next.2),
        )
      ]

  orders_begin : (orders : List Order) →
      ((x : ℕ) (o : Order) → slice_get orders x ≡ Some o → IsVouched w history client (x + 1) o)
      → (i : ℕ) × (is_correct_master w i ≡ true) × Begins orders (w.orders (executions w history i) client)
  orders_begin = by_growth (λ (orders : List Order). ((x : ℕ) (o : Order) → slice_get orders x ≡ Some o →
      IsVouched w history client (x + 1) o)
      → (i : ℕ) × (is_correct_master w i ≡ true) × Begins orders (w.orders (executions w history i) client))
      (λ _. some_master [] refl) one_more

pub vouched_begin : VouchedBegin
vouched_begin w history client sound appends orders vouched = orders_begin w history client sound appends orders vouched
