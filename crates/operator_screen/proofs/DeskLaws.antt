-- The desks of a screen's state: a vote that doesn't count, one that does, and one for which memory was wanting.
use Rattle.std.proofs.Common.{◌≡◌, ℕ, Bool, true, false, ◌&&◌, List, [], ◌∷◌, ◌++◌, nat_eq, refl, sym, ap, ◌∙◌, subst}
use Rattle.std.proofs.Common.{if◌then◌else◌}
use Rattle.std.proofs.lemmas.List.{append-nil}
use Rattle.std.proofs.lemmas.List.Concat.{flat_map-append}
use Rattle.message_types.specs.declared.vouchers.Notice.{Notice}
use Rattle.message_types.specs.declared.vouchers.Order.{Order}
use Rattle.vouched_orders.specs.declared.vote.Vote.{Vote}
use Rattle.vouched_orders.specs.Vouching.{counts, counted, done}
use Rattle.vouched_orders.specs.Tally.{Tally, IsTallyOf, MakesDone, TakesVote, TalliesAlike}
use Rattle.operator_screen.specs.Board.{ScreenState, Desk, IsDeskOf, desk_with, is_notice, notice_in, notices}

pub desk_seen : (p q : ScreenState) (s : Desk) → p ≡ q → IsDeskOf q s → IsDeskOf p s
desk_seen p q s same is = subst (λ (x : ScreenState). IsDeskOf x s) (sym same) is

-- the desk with these votes more
abbrev pub voted : Desk → List Vote → Desk
voted s more = record s { votes = s.votes ++ more }

-- a vote that doesn't count
pub desk_ignored : (p : ScreenState) (s : Desk) (vote : Vote) → IsDeskOf p s →
    counts is_notice p.client vote ≡ false → IsDeskOf p (voted s (counted is_notice s.client (vote ∷ [])))
desk_ignored p s vote is no_count =
    let none : counted is_notice s.client (vote ∷ []) ≡ [] =
    ap (λ (t : Desk). counted is_notice t.client (vote ∷ [])) is.same
    ∙ ap (λ (b : Bool). if b then vote ∷ [] else []) no_count in
    let stays : s.votes ++ counted is_notice s.client (vote ∷ []) ≡ s.votes =
    ap (λ (more : List Vote). s.votes ++ more) none ∙ append-nil s.votes in
    subst (λ (votes : List Vote). IsDeskOf p (record s { votes = votes })) (sym stays) is

-- a vote that counts: its orders' notices are shown
pub desk_voted : (p q : ScreenState) (s : Desk) (vote : Vote) (orders : List Order) (board : List Notice)
    → IsDeskOf p s → counts is_notice p.client vote ≡ true → MakesDone p.tally vote orders →
    TakesVote p.tally vote q.tally
    → q ≡ record p { tally = q.tally; board = board } → board ≡ p.board ++ notices orders
    → IsDeskOf q (voted s (counted is_notice s.client (vote ∷ [])))
desk_voted p q s vote orders board is it_counts makes takes now shown =
    let one : counted is_notice s.client (vote ∷ []) ≡ vote ∷ [] =
    ap (λ (t : Desk). counted is_notice t.client (vote ∷ [])) is.same
    ∙ ap (λ (b : Bool). if b then vote ∷ [] else []) it_counts in
    let more : done p.n p.f (s.votes ++ vote ∷ []) ≡ done p.n p.f s.votes ++ orders = makes p.n p.f s.votes is.tally in
    let state : ScreenState = record p { tally = q.tally; board = board } in
    let desk : IsDeskOf state (voted s (vote ∷ [])) = record {
      same = ap (λ (t : Desk). record t { votes = s.votes ++ vote ∷ [] }) is.same;
      tally = takes p.n p.f s.votes is.tally;
      board = shown ∙ ap (λ (before : List Notice). before ++ notices orders) is.board
          ∙ sym (ap notices more ∙ flat_map-append notice_in (done p.n p.f s.votes) orders);
    } in
    subst (λ (x : ScreenState). IsDeskOf x (voted s (counted is_notice s.client (vote ∷ [])))) (sym now)
    (subst (λ (votes : List Vote). IsDeskOf state (voted s votes)) (sym one) desk)

-- a vote for which memory was wanting
pub desk_refused : (p q : ScreenState) (s : Desk) (board : List Notice) → IsDeskOf p s → TalliesAlike p.tally q.tally
    → q ≡ record p { tally = q.tally; board = board } → board ≡ p.board → IsDeskOf q s
desk_refused p q s board is alike now stays =
    let state : ScreenState = record p { tally = q.tally } in
    let desk : IsDeskOf state s = record { same = is.same; tally = alike p.n p.f s.votes is.tally; board = is.board } in
    subst (λ (x : ScreenState). IsDeskOf x s)
    (sym (now ∙ ap (λ (b : List Notice). record p { tally = q.tally; board = b }) stays)) desk

-- what is shown is what the desk's votes make done
pub desk_shown : (p : ScreenState) (s : Desk) → IsDeskOf p s → p.board ≡ notices (done s.n s.f s.votes)
desk_shown p s is = is.board ∙ ap (λ (t : Desk). notices (done t.n t.f s.votes)) (sym is.same)
