-- The writes after any list of happenings.
use Rattle.std.proofs.Common.{◌≡◌, ◌<◌, ◌≤◌, ◌+◌, ℕ, suc, zero, Bool, true, false, List, [], ◌∷◌, ◌++◌, length, refl}
use Rattle.std.proofs.Common.{sym, ap, ◌∙◌, arith, append_assoc, subst, inl, inr}
use Rattle.std.specs.Prelude.{◌⊎◌, IsSome, is_some, ◌&&◌, map, filter, slice_get, nat_le, if◌then◌else◌}
use Rattle.std.specs.List.{list_all}
use Rattle.std.proofs.lemmas.Bool.{and_parts, false≢true}
use Rattle.std.proofs.lemmas.List.{append-nil}
use Rattle.std.proofs.lemmas.Bool.Decides.{leb_tells}
use Rattle.message_types.specs.declared.vouchers.Order.{Order}
use Rattle.point_table.specs.declared.point.Point.{Point}
use Rattle.point_table.specs.declared.point.DeviceSizes.{DeviceSizes}
use Rattle.vouched_orders.specs.declared.vote.Vote.{Vote}
use Rattle.vouched_orders.specs.Vouching.{settled_by, chosen, counts, counted, done, orders_done}
use Rattle.vouched_orders.proofs.VouchingLaws.{chosen-push, done-each, done-end, done-none, some_at}
use Rattle.field_proxy.specs.Writes.{can_write, order_of}
use Rattle.field_proxy.specs.Front.{Front, fresh, votes_with, after_vote}
use Rattle.field_proxy.specs.Happenings.{Happening, Changed, Polled, Vouched, front_with, front_after, votes_of}
use Rattle.field_proxy.proofs.FrontLaws.{vote_ignored, vote_counted, writes_are_done, all_pass_push}
use Rattle.vouched_orders.proofs.TallyLaws.{or_else-kept}

-- the orders done only grow

begins : (first all : List Order) → ((i : ℕ) → i < length first → slice_get all i ≡ slice_get first i) →
    (added : List Order) × (all ≡ first ++ added)
begins [] all each = (all, refl)
begins (o ∷ first) [] each = absurd (let none = each 0 (omega arith) in cc)
begins (o ∷ first) (p ∷ all) each =
    let rest = begins first all (λ i less. each (suc i) (omega arith)) in
    let same : p ≡ o = let e = each 0 (omega arith) in cc in
    (rest.0, ap (λ q. q ∷ all) same ∙ ap (λ l. o ∷ l) rest.1)

module _ (n f : ℕ) (votes : List Vote) (vote : Vote) where
  stays_some : (x : ℕ) → IsSome (chosen n f votes x) → chosen n f (votes ++ vote ∷ []) x ≡ chosen n f votes x
  stays_some x some = chosen-push n f votes vote x ∙ or_else-kept (chosen n f votes x)
      (settled_by n f (votes ++ vote ∷ []) vote x) some

  has_one : (i : ℕ) → i < length (done n f votes) → IsSome (chosen n f votes (1 + i))
  has_one i less = ap is_some (sym (done-each n f votes i less)) ∙ some_at (done n f votes) i less

  no_shorter : length (done n f votes) ≤ length (done n f (votes ++ vote ∷ []))
  no_shorter = by (leb_tells (length (done n f votes)) (length (done n f (votes ++ vote ∷ [])))) where
    by : ((nat_le (length (done n f votes)) (length (done n f (votes ++ vote ∷ []))) ≡ true)
        × (length (done n f votes) ≤ length (done n f (votes ++ vote ∷ []))))
        ⊎ ((nat_le (length (done n f votes)) (length (done n f (votes ++ vote ∷ []))) ≡ false)
        × (length (done n f (votes ++ vote ∷ [])) < length (done n f votes)))
        → length (done n f votes) ≤ length (done n f (votes ++ vote ∷ []))
    by (inl le) = le.1
    by (inr less) =
        let end = length (done n f (votes ++ vote ∷ [])) in
        let some = has_one end less.1 in
        absurd (false≢true (sym (ap is_some (sym (stays_some (1 + end) some) ∙ done-end n f (votes ++ vote ∷ [])))
        ∙ some))

  pub done_grows : (added : List Order) × (done n f (votes ++ vote ∷ []) ≡ done n f votes ++ added)
  done_grows =
      let longer = no_shorter in
      begins (done n f votes) (done n f (votes ++ vote ∷ []))
      (λ i less. done-each n f (votes ++ vote ∷ []) i (omega arith) ∙ stays_some (1 + i) (has_one i less)
      ∙ sym (done-each n f votes i less))

-- what every state keeps to
record Sound (s : Front) : Type 0 where
  pub are : map order_of s.writes ≡ done s.n s.f s.votes
  pub pass : list_all (λ (vote : Vote). can_write s.points s.client vote.voucher.order) s.votes ≡ true

vote_sound : (s : Front) (vote : Vote) (b : Bool) → counts (can_write s.points s.client) s.client vote ≡ b →
    Sound s → Sound (after_vote s vote)
vote_sound s vote false is sound = subst Sound (sym (vote_ignored s vote sound.are is)) sound
vote_sound s vote true is sound =
    let more = done_grows s.n s.f s.votes vote in
    let can = (and_parts _ _ is).1 in
    subst Sound (sym (vote_counted s vote more.0 sound.are is more.1)) (record {
      are = writes_are_done s.points s.client s.n s.f s.votes vote more.0 s.places s.writes
          sound.pass can sound.are more.1;
      pass = all_pass_push s.points s.client s.votes vote sound.pass can;
    })

one_more : (can : Order → Bool) (client : ℕ) (vote : Vote) (rest : List Vote)
    → counted can client (vote ∷ []) ++ counted can client rest ≡ counted can client (vote ∷ rest)
one_more can client vote rest = by (counts can client vote) where
  by : (b : Bool) → (if b then vote ∷ [] else [])
      ++ counted can client rest ≡ (if b then vote ∷ counted can client rest else counted can client rest)
  by true = refl
  by false = refl

record After (s t : Front) (votes : List Vote) : Type 0 where
  pub sound : Sound t
  pub n_is : t.n ≡ s.n
  pub f_is : t.f ≡ s.f
  pub votes_are : t.votes ≡ s.votes ++ counted (can_write s.points s.client) s.client votes

after_all : (s : Front) (happenings : List Happening) → Sound s →
    After s (front_after s happenings) (votes_of happenings)
after_all s [] sound = record { sound = sound; n_is = refl; f_is = refl; votes_are = sym (append-nil s.votes) }
after_all s (Changed area place value ∷ rest) sound =
    let r = after_all (front_with s (Changed area place value)) rest (record { are = sound.are; pass = sound.pass }) in
    record { sound = r.sound; n_is = r.n_is; f_is = r.f_is; votes_are = r.votes_are }
after_all s (Polled room ∷ rest) sound =
    let r = after_all (front_with s (Polled room)) rest (record { are = sound.are; pass = sound.pass }) in
    record { sound = r.sound; n_is = r.n_is; f_is = r.f_is; votes_are = r.votes_are }
after_all s (Vouched vote ∷ rest) sound =
    let can = can_write s.points s.client in
    let r = after_all (after_vote s vote) rest (vote_sound s vote (counts can s.client vote) refl sound) in
    record {
      sound = r.sound;
      n_is = r.n_is;
      f_is = r.f_is;
      votes_are = r.votes_are ∙ append_assoc s.votes (counted can s.client (vote ∷ []))
          (counted can s.client (votes_of rest))
          ∙ ap (λ v. s.votes ++ v) (one_more can s.client vote (votes_of rest));
    }

pub after_happenings : (client n f : ℕ) (points : List Point) (sizes : DeviceSizes) (happenings : List Happening)
    → map order_of (front_after (fresh client n f points sizes) happenings).writes ≡ orders_done
    (can_write points client) client n f (votes_of happenings)
after_happenings client n f points sizes happenings =
    let r = after_all (fresh client n f points sizes) happenings (record { are = sym (done-none n f); pass = refl }) in
    let votes = (front_after (fresh client n f points sizes) happenings).votes in
    r.sound.are ∙ ap (λ m. done m (front_after (fresh client n f points sizes) happenings).f votes) r.n_is
    ∙ ap (λ m. done n m votes) r.f_is ∙ ap (done n f) r.votes_are
