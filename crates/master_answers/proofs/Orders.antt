-- How prepares, commits and marks count as said.
use Rattle.std.proofs.Common.{◌≡◌, ℕ, Bool, false, List, ◌++◌, filter, true≢false, refl, sym, ◌∙◌, ap}
use Rattle.std.specs.List.{list_any}
use Rattle.message_types.specs.declared.body.Body.{Body}
use Rattle.message_types.specs.declared.body.Body.TheVariants as body
use Rattle.protocol_rules.specs.declared.facts.OrderFact.{OrderFact}
use Rattle.protocol_rules.specs.Group.{Group}
use Rattle.protocol_rules.specs.Order.{prepares_said, commits_said, marks_said}
use Rattle.global_order.specs.OrderState.{OrderState, IsOrderOf}
use Rattle.words_by_part.specs.Kinds.{is_of, ordering}
use Rattle.master_answers.proofs.Alike.{kept_alike, any_own}

prepares_passed : (v s : ℕ) (w : Body) → is_of ordering w ≡ false → prepares_said v s w ≡ false
prepares_passed v s (body.Prepare b) e = absurd (true≢false e)
prepares_passed v s _ e = refl

commits_passed : (v s : ℕ) (w : Body) → is_of ordering w ≡ false → commits_said v s w ≡ false
commits_passed v s (body.Commit b) e = absurd (true≢false e)
commits_passed v s _ e = refl

marks_passed : (s : ℕ) (w : Body) → is_of ordering w ≡ false → marks_said s w ≡ false
marks_passed s (body.Mark b) e = absurd (true≢false e)
marks_passed s _ e = refl

-- a test that passes these words alone answers alike where these are the same
alike : (t : Body → Bool) → ((w : Body) → is_of ordering w ≡ false → t w ≡ false) → (said other : List Body) →
    filter (is_of ordering) other ≡ filter (is_of ordering) said → list_any t other ≡ list_any t said
alike t passes said other same = sym (any_own t (is_of ordering) passes other) ∙ ap (list_any t) same
    ∙ any_own t (is_of ordering) passes said

-- of what was said only these words count
pub said_alike : (g : Group) (o : OrderState) (facts : List OrderFact) (said other : List Body) →
    filter (is_of ordering) other ≡ filter (is_of ordering) said → IsOrderOf g o facts said → IsOrderOf g o facts other
said_alike g o facts said other same is = record {
  sizes = is.sizes;
  prepares = is.prepares;
  commits = is.commits;
  marks = is.marks;
  choices = is.choices;
  views = is.views;
  offers = is.offers;
  prepares_said = λ v s. is.prepares_said v s ∙ sym (alike (prepares_said v s) (prepares_passed v s) said other same);
  commits_said = λ v s. is.commits_said v s ∙ sym (alike (commits_said v s) (commits_passed v s) said other same);
  marked = λ s low multiple. alike (marks_said s) (marks_passed s) said other same ∙ is.marked s low multiple;
  stable = is.stable;
  prepares_pending = is.prepares_pending;
  commits_pending = is.commits_pending;
}

-- so whatever else is said with them
pub words_said : (g : Group) (o : OrderState) (facts : List OrderFact) (said all words : List Body) →
    filter (is_of ordering) all ≡ words → IsOrderOf g o facts (said ++ words) → IsOrderOf g o facts (said ++ all)
words_said g o facts said all words own is = said_alike g o facts (said ++ words) (said ++ all)
    (kept_alike (is_of ordering) (is_of ordering) said all words (λ w. refl) own) is
