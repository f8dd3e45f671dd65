-- Frames and facts, one after another.
use Rattle.std.proofs.Common.{◌≡◌, ℕ, ◌+◌, ◌<◌, ◌≤◌, Bool, cond, List, [], ◌∷◌, ◌++◌, length, take, filter, map}
use Rattle.std.proofs.Common.{get_or, refl, sym, ◌∙◌, ap, subst, append-nil}
use Rattle.std.specs.List.{flat_map}
use Rattle.std.proofs.lemmas.Grind.{flat_map-append}
use Rattle.std.proofs.lemmas.List.{map-append, take_all}
use Rattle.std.proofs.lemmas.List.Elements.{filter-append}
use Rattle.message_types.specs.declared.signed.Signed.{Signed}
use Rattle.message_types.specs.declared.ordering.PrePrepare.{PrePrepare}
use Rattle.message_types.specs.declared.ordering.Prepare.{Prepare}
use Rattle.message_types.specs.declared.ordering.Commit.{Commit}
use Rattle.message_types.specs.declared.views.Report.{Report}
use Rattle.message_types.specs.declared.views.NewView.{NewView}
use Rattle.message_types.specs.declared.reconciling.GiveOrdered.{GiveOrdered}
use Rattle.message_types.specs.declared.body.Body.{Body}
use Rattle.message_types.specs.declared.body.Body.TheVariants as body
use Rattle.protocol_rules.specs.declared.facts.OrderFact.{OrderFact}
use Rattle.protocol_rules.specs.Group.{Group}
use Rattle.protocol_rules.specs.Facts.{tells, facts_of, rows_known}
use Rattle.global_order.specs.OrderState.{OrderState, IsOrderOf, Learns}
use Rattle.global_order.proofs.Learning.{learns-nothing}
use Rattle.intruder_words.specs.declared.asked.Asked.{Asked}
use Rattle.intruder_words.specs.Telling.{IsTold, IsToldFor, IsAlike, KnowsAlike}
use Rattle.intruder_words.proofs.Walks.{take-next}
use Rattle.intruder_words.proofs.Alike.{alike-none, alike-more, tells-block, told-nothing}

pub filter-next : {X : Type 0} (p : X → Bool) (xs : List X) (i : ℕ) (x : X) → i < length xs → x ≡ get_or xs i x →
    filter p (take (i + 1) xs) ≡ filter p (take i xs) ++ cond (p x) (x ∷ []) []
filter-next p xs i x below is = ap (filter p) (take-next xs i x below is) ∙ filter-append p (take i xs) (x ∷ [])

facts-next : (g : Group) (known : List (Signed Body)) (i : ℕ) (f : Signed Body) → i < length known →
    f ≡ get_or known i f → facts_of g (take (i + 1) known) ≡ facts_of g (take i known) ++ tells g f
unfolding facts_of
facts-next g known i f below is =
    ap (flat_map (tells g)) (take-next known i f below is) ∙ flat_map-append (tells g) (take i known) (f ∷ [])
    ∙ ap (λ fs. flat_map (tells g) (take i known) ++ fs) (append-nil (tells g f))

pub told-none : (q : Asked) (g : Group) (t : OrderState) (known : List (Signed Body)) → IsOrderOf g t [] [] →
    KnowsAlike q g t (facts_of g (take 0 known))
told-none q g t known is = record { told = []; is = is; alike = alike-none q g }

pub told-next : (q : Asked) (g : Group) (before after : OrderState) (known : List (Signed Body)) (i : ℕ)
    (f : Signed Body) → i < length known → f ≡ get_or known i f
    → KnowsAlike q g before (facts_of g (take i known)) → IsTold q before after (tells g f) →
    KnowsAlike q g after (facts_of g (take (i + 1) known))
told-next q g before after known i f below is so_far told = record {
  told = so_far.told ++ told.0;
  is = told.1 g so_far.told [] so_far.is;
  alike = subst (λ (fs : List OrderFact). IsAlike q (so_far.told ++ told.0) fs) (sym (facts-next g known i f below is))
      (alike-more q so_far.told (facts_of g (take i known)) told.0 (tells g f) so_far.alike told.2 (tells-block q g f));
}

pub told-all : (q : Asked) (g : Group) (t : OrderState) (known : List (Signed Body)) (i : ℕ) → length known ≤ i →
    KnowsAlike q g t (facts_of g (take i known)) → KnowsAlike q g t (facts_of g known)
told-all q g t known i over so_far = subst (λ (fs : List (Signed Body)). KnowsAlike q g t (facts_of g fs))
    (take_all i known over) so_far

-- what a frame tells goes by its body
pub tells-as : (q : Asked) (g : Group) (before after : OrderState) (f : Signed Body) (b : Body) → f.body ≡ b →
    IsTold q before after (tells g record { signer = f.signer; body = b; sig = f.sig }) →
    IsTold q before after (tells g f)
tells-as q g before after f b e told =
    subst (λ (word : Body). IsTold q before after (tells g record { signer = f.signer; body = word; sig = f.sig }))
    (sym e) told

pub none-told : (q : Asked) (t : OrderState) (facts : List OrderFact) → IsToldFor q [] facts → IsTold q t t facts
none-told q t facts told = ([], learns-nothing t [] refl, told)

-- the other kinds tell nothing that is asked for
pub others-told : (q : Asked) (g : Group) (signer : ℕ) (b : Body) (sig : List ℕ)
    → ((x : PrePrepare) → b ≡ body.PrePrepare x → ⊥) → ((x : Prepare) → b ≡ body.Prepare x → ⊥) →
    ((x : Commit) → b ≡ body.Commit x → ⊥) → ((x : Report) → b ≡ body.Report x → ⊥)
    → ((x : GiveOrdered) → b ≡ body.GiveOrdered x → ⊥) → ((x : NewView) → b ≡ body.NewView x → ⊥) →
    IsToldFor q [] (tells g record { signer = signer; body = b; sig = sig })
unfolding rows_known
others-told q g signer (body.PrePrepare x) sig a b c d e f = absurd (a x refl)
others-told q g signer (body.Prepare x) sig a b c d e f = absurd (b x refl)
others-told q g signer (body.Commit x) sig a b c d e f = absurd (c x refl)
others-told q g signer (body.Report x) sig a b c d e f = absurd (d x refl)
others-told q g signer (body.GiveOrdered x) sig a b c d e f = absurd (e x refl)
others-told q g signer (body.NewView x) sig a b c d e f = absurd (f x refl)
others-told q g signer (body.Mark x) sig a b c d e f = told-nothing q _ refl refl
others-told q g signer _ sig a b c d e f = told-nothing q [] refl refl

-- a vote told as it is
pub vote-told : (q : Asked) (before after : OrderState) (x y : OrderFact) → Learns before after (x ∷ []) → x ≡ y →
    IsToldFor q (y ∷ []) (y ∷ []) → IsTold q before after (y ∷ [])
vote-told q before after x y told same block =
    (y ∷ [], subst (λ (z : OrderFact). Learns before after (z ∷ [])) same told, block)
