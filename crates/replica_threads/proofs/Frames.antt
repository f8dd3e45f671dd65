-- A frame of a turn, and to whom it goes.
use Rattle.std.proofs.Common.{◌≡◌, ℕ, ◌<◌, ◌^◌, Bool, true, false, cond, List, [], ◌∷◌, Option, Some, length, map}
use Rattle.std.proofs.Common.{get_or, nat_lt, refl, sym, ◌∙◌, ap, subst}
use Rattle.std.specs.Prelude.{Result, Ok, Err, IfOk, OnOk, slice_get}
use Rattle.plain_lists.specs.declared.want.Want.{Want}
use Rattle.std.specs.List.{list_all}
use Rattle.message_types.specs.declared.signed.Signed.{Signed}
use Rattle.message_types.specs.declared.body.Body.{Body}
use Rattle.message_types.specs.Spelling.{has_spelling}
use Rattle.scenario_file.specs.Reading.{Contents}
use Rattle.history_rules.specs.Setup.{stands}
use Rattle.world_rules.specs.Scenarios.{setup_of, actors_in}
use Rattle.world_rules.specs.Frames.{addressees}
use Rattle.script_laws.specs.Accepted.{is_there}
use Rattle.world_history.proofs.Addressed.{addressees_there}
use Rattle.station_turns.specs.declared.held.Turned.{Turned}
use Rattle.inboxes.specs.declared.pass.InboxPass.{InboxPass}
use Rattle.replica_threads.specs.declared.posted.Posted.{Posted}
use Rattle.replica_threads.specs.Letters.{most_frames, goes_to, letters_of, HaveSent, CanGo, IsWellTurned}
use Rattle.replica_threads.proofs.Lists.{get_read}
use Rattle.plain_lists.proofs.Lists.{all_at_place}

pub most_is : most_frames ≡ 2 ^ 32
unfolding most_frames
most_is = refl

some_one : {X : Type 0} (x y : X) → ◌≡◌ {A = Option X} (Some x) (Some y) → x ≡ y
some_one x y is = cc

-- a frame of a turn can be handed on
pub can_go : (c : Contents) (t : Turned) (i : ℕ) (f : Signed Body) → IsWellTurned c t → i < length t.frames.items →
    f ≡ get_or t.frames.items i f → CanGo c t f
can_go c t i f well below at =
    let here = get_read t.frames.items i f below at in
    record {
      spelled = all_at_place has_spelling t.frames.items i f well.spelled here;
      stand = λ none. all_at_place (stands (setup_of c)) t.frames.items i f (well.stand none) here;
      there = well.there;
    }

-- where it goes there is an inbox
pub inboxes_there : (c : Contents) (count : ℕ) (to slice : List ℕ) → count ≡ actors_in c → slice ≡ to →
    list_all (is_there c) to ≡ true → list_all (λ a. nat_lt a count) slice ≡ true
inboxes_there c count to slice all same there = subst (λ (n : ℕ). list_all (λ a. nat_lt a n) slice ≡ true) (sym all)
    (ap (list_all (is_there c)) same ∙ there)

-- where a word's cry goes, and where another frame does

goes_when : (b : Bool) (to others all : List ℕ) → b ≡ true → all ≡ to → all ≡ cond b to others
goes_when b to others all is same = same ∙ ap (λ (x : Bool). cond x to others) (sym is)

goes_else : (b : Bool) (to others all : List ℕ) → b ≡ false → all ≡ others → all ≡ cond b to others
goes_else b to others all isnt same = same ∙ ap (λ (x : Bool). cond x to others) (sym isnt)

pub named_goes : (r : Result (List ℕ) Want) (c : Contents) (actor : ℕ) (t : Turned) (f : Signed Body) →
    t.cried ≡ true → IfOk r (λ to. to ≡ t.to) → IfOk r (λ to. to ≡ goes_to c actor t f)
named_goes (Ok to) c actor t f cried is =
    goes_when t.cried t.to (addressees (setup_of c).group actor f.body) to cried is
named_goes (Err e) c actor t f cried is = is

pub named_there : (r : Result (List ℕ) Want) (c : Contents) (t : Turned) → list_all (is_there c) t.to ≡ true →
    IfOk r (λ to. to ≡ t.to) → IfOk r (λ to. list_all (is_there c) to ≡ true)
named_there (Ok to) c t there is = ap (list_all (is_there c)) is ∙ there
named_there (Err e) c t there is = is

pub body_goes : (r : Result (List ℕ) Want) (c : Contents) (actor : ℕ) (t : Turned) (f : Signed Body) (all : List ℕ) →
    t.cried ≡ false → all ≡ addressees (setup_of c).group actor f.body → IfOk r (λ to. to ≡ all)
    → IfOk r (λ to. to ≡ goes_to c actor t f)
body_goes (Ok to) c actor t f all silent others is =
    goes_else t.cried t.to (addressees (setup_of c).group actor f.body) to silent (is ∙ others)
body_goes (Err e) c actor t f all silent others is = is

pub body_there : (r : Result (List ℕ) Want) (c : Contents) (actor : ℕ) (f : Signed Body) (all : List ℕ) →
    stands (setup_of c) f ≡ true → all ≡ addressees (setup_of c).group actor f.body → IfOk r (λ to. to ≡ all)
    → IfOk r (λ to. list_all (is_there c) to ≡ true)
body_there (Ok to) c actor f all stand others is = ap (list_all (is_there c)) (is ∙ others)
    ∙ addressees_there c actor f stand
body_there (Err e) c actor f all stand others is = is

-- what was posted to all of them is the frame's letters
pub frame_sent : (c : Contents) (actor : ℕ) (t : Turned) (i : ℕ) (f copy g : Signed Body) (to : List ℕ)
    (a b : List (InboxPass Posted)) → i < length t.frames.items → f ≡ get_or t.frames.items i f → copy ≡ f
    → to ≡ goes_to c actor t f → HaveSent a (map (λ n. (n, record { stamp = t.stamp; place = i; frame = copy })) to)
    b → slice_get t.frames.items i ≡ Some g
    → HaveSent a (letters_of c actor t (record { stamp = t.stamp; place = i; frame = g })) b
frame_sent c actor t i f copy g to a b below at same goes sent here =
    let whole : f ≡ g = some_one f g (sym (get_read t.frames.items i f below at) ∙ here) in
    subst (λ (h : Signed Body). HaveSent a (letters_of c actor t (record { stamp = t.stamp; place = i; frame = h }))
    b) whole
    (subst (λ (ns : List ℕ). HaveSent a (map (λ (n : ℕ). (n, record { stamp = t.stamp; place = i; frame = f })) ns) b)
    goes
    (subst (λ (h : Signed Body). HaveSent a
    (map (λ (n : ℕ). (n, record { stamp = t.stamp; place = i; frame = h })) to) b) same sent))

pub frame_told : (r : Result (Unit {0}) Want) (c : Contents) (actor : ℕ) (t : Turned) (i : ℕ) (f copy : Signed Body)
    (to all : List ℕ) (a b : List (InboxPass Posted)) → i < length t.frames.items
    → f ≡ get_or t.frames.items i f → copy ≡ f → all ≡ to → to ≡ goes_to c actor t f →
    OnOk r (HaveSent a (map (λ n. (n, record { stamp = t.stamp; place = i; frame = copy })) all) b)
    → OnOk r ((g : Signed Body) → slice_get t.frames.items i ≡ Some g →
    HaveSent a (letters_of c actor t (record { stamp = t.stamp; place = i; frame = g })) b)
frame_told (Ok u) c actor t i f copy to all a b below at same slice goes sent =
    λ g here. frame_sent c actor t i f copy g all a b below at same (slice ∙ goes) sent here
frame_told (Err e) c actor t i f copy to all a b below at same slice goes sent = sent
