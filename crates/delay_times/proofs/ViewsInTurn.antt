-- The views that began, happening by happening.
use Rattle.std.proofs.Common.{◌≡◌, ℕ, ◌+◌, ◌<◌, Bool, true, false, cond, List, [], ◌∷◌, ◌++◌, Option, Some, None}
use Rattle.std.proofs.Common.{length, take, get_or, max, nat_lt, refl, sym, ◌∙◌, ap, arith}
use Rattle.std.specs.Prelude.{slice_get}
use Rattle.std.specs.List.{filter_map}
use Rattle.std.specs.Option.{option_to_list}
use Rattle.std.proofs.lemmas.Bool.{ltb-true, ltb-false}
use Rattle.std.proofs.lemmas.List.{take_more}
use Rattle.std.proofs.lemmas.Option.{slice_get-get_or}
use Rattle.quorum_sets.specs.Masters.{numbers_below}
use Rattle.quorum_sets.proofs.Numbered.{filter_map_more, filter_map_start}
use Rattle.protocol_rules.proofs.Greatest.{greatest-push, or_zero}
use Rattle.delay_times.specs.declared.happening.Happening.{Happening}
use Rattle.delay_times.specs.declared.reigns.Begun.{Begun}
use Rattle.delay_times.specs.Reigns.{begun_after, begun_at, begun_from, begun_if, entered, latest_after, latest_view}

later : (latest stamp : ℕ) (o : Option ℕ) → latest_after latest (begun_if latest stamp o) ≡ max latest (or_zero o)
later latest stamp None = omega arith
later latest stamp (Some view) = by (nat_lt latest view) refl
  where
    by : (b : Bool) → nat_lt latest view ≡ b
        → latest_after latest (cond b (Some (record { view = view; stamp = stamp })) None) ≡ max latest view
    by true e = omega (arith, ltb-true latest view e)
    by false e = omega (arith, ltb-false latest view e)

pub latest_more : (hs : List Happening) (i : ℕ) (d : Happening) (latest next : ℕ) (found : Option Begun) → i < length hs
    → latest ≡ latest_view (take i hs) → found ≡ begun_after latest (get_or hs i d) → next ≡ latest_after latest found
    → next ≡ latest_view (take (i + 1) hs)
latest_more hs i d latest next found below so_far same is =
    let h : Happening = get_or hs i d in
    is ∙ ap (latest_after latest) same ∙ later latest h.stamp (entered h.what)
    ∙ ap (λ (n : ℕ). max n (or_zero (entered h.what))) so_far
    ∙ sym (greatest-push (λ (x : Happening). entered x.what) (take i hs) h)
    ∙ ap latest_view (sym (take_more hs i d below))

pub begun_more : (hs : List Happening) (i : ℕ) (d : Happening) (latest : ℕ) (found : Option Begun)
    (first : Begun) (old new : List Begun) → i < length hs → latest ≡ latest_view (take i hs)
    → found ≡ begun_after latest (get_or hs i d) → old ≡ first ∷ filter_map (begun_at hs) (numbers_below i)
    → new ≡ old ++ option_to_list found → new ≡ first ∷ filter_map (begun_at hs) (numbers_below (i + 1))
begun_more hs i d latest found first old new below so_far same are put =
    let at : begun_at hs i ≡ found =
    ap (begun_from (latest_view (take i hs))) (slice_get-get_or hs i d below)
    ∙ ap (λ (n : ℕ). begun_after n (get_or hs i d)) (sym so_far) ∙ sym same in
    put ∙ ap (λ (bs : List Begun). bs ++ option_to_list found) are
    ∙ ap (λ (bs : List Begun). first ∷ bs) (ap (λ (o : Option Begun). filter_map (begun_at hs) (numbers_below i)
    ++ option_to_list o) (sym at) ∙ sym (filter_map_more (begun_at hs) i))

pub begun_first : (hs : List Happening) (first : Begun) (begun : List Begun) → begun ≡ first ∷ []
    → begun ≡ first ∷ filter_map (begun_at hs) (numbers_below 0)
begun_first hs first begun one =
    one ∙ ap (λ (bs : List Begun). first ∷ bs) (sym (filter_map_start (begun_at hs)))
