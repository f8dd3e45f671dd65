-- What is in its place with all that is inside it.
use Rattle.std.proofs.Common.{◌≡◌, ℕ, ◌≤◌, ◌<◌, true, ◌&&◌, List, [], ◌∷◌, ◌++◌, nat_eq, nat_le, nat_lt, length, zero}
use Rattle.std.proofs.Common.{suc, take, get_or, sym, ◌∙◌, ap, inl, inr, arith}
use Rattle.std.proofs.lemmas.Bool.{and_parts, leb-true, ltb-true}
use Rattle.std.specs.List.{list_all}
use Rattle.plain_lists.specs.Lists.{IsIn}
use Rattle.plain_lists.proofs.Members.{in_cons_cases, all_at}
use Rattle.message_types.specs.declared.signed.Signed.{Signed}
use Rattle.message_types.specs.declared.updates.Update.{Update}
use Rattle.message_types.specs.declared.preordering.PoSummary.{PoSummary}
use Rattle.message_types.specs.declared.ordering.Mark.{Mark}
use Rattle.message_types.specs.declared.measures.Suspect.{Suspect}
use Rattle.message_types.specs.declared.views.NewView.{NewView}
use Rattle.message_types.specs.declared.body.Body.{Body}
use Rattle.message_types.specs.declared.body.Body.TheVariants as body
use Rattle.message_types.specs.Parts.{parts, inside, as_frame}
use Rattle.protocol_rules.specs.declared.limits.TheConstants.{MOST_VIEW}
use Rattle.protocol_rules.specs.Group.{Group, most_number, most_view}
use Rattle.protocol_rules.specs.Places.{in_place, word_in_place}
use Rattle.suspect_leader.specs.Sayings.{ticks_of_round_trip}
use Rattle.leader_patience.specs.PatienceState.{view_of_vote}
use Rattle.agreement.proofs.FramesInside.{parts_closed}
use Rattle.master_knowledge.specs.Whole.{is_whole, IsWhole}
use Rattle.history_rules.proofs.Entries.{all_from}

pub first_in_place : (g : Group) (f : Signed Body) → is_whole g f ≡ true → in_place g f ≡ true
first_in_place g f whole = (and_parts (in_place g f) (list_all (in_place g) (inside f.body)) whole).0

-- each part of a part that is whole is whole
pub part_whole : (g : Group) (f p : Signed Body) → is_whole g f ≡ true → IsIn p (parts f) → is_whole g p ≡ true
part_whole g f p whole h = all_from (in_place g) (parts p) (λ r k. elim (in_cons_cases k) [
  | inl same ↦ ap (in_place g) same ∙ all_at (in_place g) h whole
  | inr within ↦ all_at (in_place g) (parts_closed f p r h within) whole
])

pub parts_whole : (g : Group) (f : Signed Body) → is_whole g f ≡ true → list_all (is_whole g) (parts f) ≡ true
parts_whole g f whole = all_from (is_whole g) (parts f) (λ p h. part_whole g f p whole h)

pub whole_of : (g : Group) (masters : ℕ) (f : Signed Body) → g.n ≡ masters → masters ≤ 14 →
    is_whole g f ≡ true → IsWhole masters f
whole_of g masters f same few whole = record { group = g; same = same; few = few; whole = whole }

-- the client of an update in its place is there
pub client_there : (g : Group) (s : Signed Update) → in_place g (as_frame body.Update s) ≡ true →
    s.body.client < g.clients
client_there g s placed =
    let times = and_parts _ _ placed in
    let own = and_parts _ _ times.0 in
    let signed = and_parts _ _ own.0 in
    let small = and_parts _ _ signed.0 in
    ltb-true s.body.client g.clients small.0

-- the numbers of a mark, a suspicion and a new view in their places are within their limits
pub mark_low : (g : Group) (f : Signed Mark) → in_place g (as_frame body.Mark f) ≡ true → f.body.s ≤ most_number
mark_low g f placed =
    let word = (and_parts (nat_lt f.signer g.n) (word_in_place g f.signer (body.Mark f.body)) placed).1 in
    leb-true f.body.s most_number (and_parts _ _ (and_parts _ _ word).0).1

pub suspect_low : (g : Group) (f : Signed Suspect) → in_place g (as_frame body.Suspect f) ≡ true → f.body.v < most_view
suspect_low g f placed = ltb-true f.body.v most_view
    (and_parts (nat_lt f.signer g.n) (nat_lt f.body.v most_view) placed).1

pub new_view_low : (g : Group) (f : Signed NewView) → in_place g (as_frame body.NewView f) ≡ true → f.body.v ≤ most_view
new_view_low g f placed =
    let word = (and_parts (nat_lt f.signer g.n) (word_in_place g f.signer (body.NewView f.body)) placed).1 in
    leb-true f.body.v most_view (and_parts _ _ (and_parts _ _ (and_parts _ _ (and_parts _ _ word).0).0).0).1

-- so are those of one that is whole
pub mark_within : (g : Group) (f : Signed Mark) → is_whole g (as_frame body.Mark f) ≡ true → f.body.s ≤ most_number
mark_within g f whole = mark_low g f (first_in_place g (as_frame body.Mark f) whole)

pub suspect_within : (g : Group) (f : Signed Suspect) → is_whole g (as_frame body.Suspect f) ≡ true →
    f.body.v < most_view
suspect_within g f whole = suspect_low g f (first_in_place g (as_frame body.Suspect f) whole)

pub new_view_within : (g : Group) (f : Signed NewView) → is_whole g (as_frame body.NewView f) ≡ true →
    f.body.v ≤ most_view
new_view_within g f whole = new_view_low g f (first_in_place g (as_frame body.NewView f) whole)

-- the ticks of a round trip and the view of a vote, of any word that is whole
pub trip_within : (g : Group) (f : Signed Body) → is_whole g f ≡ true → ticks_of_round_trip f.body ≤ 4294967296
trip_within g f whole = by f.signer f.body f.sig (first_in_place g f whole)
  where
    by : (signer : ℕ) (word : Body) (sig : List ℕ) → in_place g record { signer = signer; body = word; sig = sig } ≡ true →
        ticks_of_round_trip word ≤ 4294967296
    by signer (body.Rtt b) sig placed = leb-true b.ticks 4294967296
        (and_parts (nat_lt b.to g.n) (nat_le b.ticks 4294967296)
        (and_parts (nat_lt signer g.n) (word_in_place g signer (body.Rtt b)) placed).1).1
    by signer _ sig placed = omega arith

pub vote_within : (g : Group) (f : Signed Body) → is_whole g f ≡ true → view_of_vote f.body ≤ MOST_VIEW
unfolding most_view
vote_within g f whole = by f.signer f.body f.sig (first_in_place g f whole)
  where
    by : (signer : ℕ) (word : Body) (sig : List ℕ) → in_place g record { signer = signer; body = word; sig = sig } ≡ true →
        view_of_vote word ≤ MOST_VIEW
    by signer (body.Suspect b) sig placed =
        let low : b.v < most_view = suspect_low g record { signer = signer; body = b; sig = sig } placed in
        omega arith
    by signer _ sig placed = omega arith

-- a summary's place goes by the number of masters alone
pub summary_placed : (g h : Group) (signer : ℕ) (word : PoSummary) (sig : List ℕ) → g.n ≡ h.n →
    in_place g record { signer = signer; body = body.PoSummary word; sig = sig } ≡ true
    → in_place h record { signer = signer; body = body.PoSummary word; sig = sig } ≡ true
summary_placed g h signer word sig same placed =
    ap (λ n. nat_lt signer n && (nat_eq (length word.numbers) n && list_all (λ x. nat_le x most_number) word.numbers))
    (sym same) ∙ placed

pub take_next : {X : Type 0} (xs : List X) (i : ℕ) (x : X) → i < length xs → x ≡ get_or xs i x →
    take i xs ++ x ∷ [] ≡ take (suc i) xs
take_next [] i x below is = absurd (omega arith)
take_next {X} (y ∷ xs) zero x below is = ap (λ (z : X). z ∷ []) is
take_next {X} (y ∷ xs) (suc i) x below is = ap (λ (zs : List X). y ∷ zs) (take_next xs i x (omega arith) is)
