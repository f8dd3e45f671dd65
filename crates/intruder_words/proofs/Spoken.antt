-- The body that a word is, kind by kind.
use Rattle.std.proofs.Common.{◌≡◌, ℕ, List, Option, Result, refl, sym, subst, map}
use Rattle.std.specs.Result.{IfOk}
use Rattle.std.specs.Option.{option_map}
use Rattle.message_types.specs.declared.signed.Signed.{Signed}
use Rattle.message_types.specs.declared.body.Body.{Body}
use Rattle.message_types.specs.declared.body.Body.TheVariants as body
use Rattle.protocol_rules.specs.Group.{Group}
use Rattle.plain_lists.specs.declared.want.Want.{Want}
use Rattle.play_words.specs.declared.words.Item.{Item}
use Rattle.play_words.specs.declared.words.Ref.{Ref}
use Rattle.play_words.specs.declared.words.Word.{Word}
use Rattle.play_words.specs.declared.words.Word.TheVariants as word
use Rattle.intruder_words.specs.Speaking.{all_of, summary_named, report_named, plain_body, body_of}

-- equal words are one body
pub as-word : (g : Group) (known : List (Signed Body)) (v w : Word) → v ≡ w → (r : Result (Option Body) Want) →
    IfOk r (λ b. b ≡ body_of g known w) → IfOk r (λ b. b ≡ body_of g known v)
as-word g known v w same r is = subst (λ (x : Word). IfOk r (λ b. b ≡ body_of g known x)) (sym same) is

-- so are equal lists of names
pub proposal-of : (known : List (Signed Body)) (v s : ℕ) (r : Result (Option Body) Want) (names others : List Ref) →
    names ≡ others
    → IfOk r (λ b. b ≡ option_map (λ fs. body.PrePrepare record { v = v; s = s; frames = fs })
    (all_of (map (summary_named known) names)))
    → IfOk r (λ b. b ≡ option_map (λ fs. body.PrePrepare record { v = v; s = s; frames = fs })
    (all_of (map (summary_named known) others)))
proposal-of known v s r names others same is =
    subst (λ (xs : List Ref). IfOk r (λ b. b ≡ option_map (λ fs. body.PrePrepare record { v = v; s = s; frames = fs })
    (all_of (map (summary_named known) xs)))) same is

pub new-view-of : (known : List (Signed Body)) (v : ℕ) (r : Result (Option Body) Want) (names others : List Ref) →
    names ≡ others
    → IfOk r (λ b. b ≡ option_map (λ rs. body.NewView record { v = v; reports = rs })
    (all_of (map (report_named known) names)))
    → IfOk r (λ b. b ≡ option_map (λ rs. body.NewView record { v = v; reports = rs })
    (all_of (map (report_named known) others)))
new-view-of known v r names others same is =
    subst (λ (xs : List Ref). IfOk r (λ b. b ≡ option_map (λ rs. body.NewView record { v = v; reports = rs })
    (all_of (map (report_named known) xs)))) same is

-- the kinds beside these nine need no frame
pub others-plain : (g : Group) (known : List (Signed Body)) (w : Word)
    → ((k : ℕ) (update : Ref) → w ≡ word.PoRequest k update → ⊥) →
    ((j k : ℕ) (digest : Ref) → w ≡ word.PoAck j k digest → ⊥)
    → ((v s : ℕ) (frames : List Ref) → w ≡ word.PrePrepare v s frames → ⊥) →
    ((v s : ℕ) (digest : Ref) → w ≡ word.Prepare v s digest → ⊥)
    → ((v s : ℕ) (digest : Ref) → w ≡ word.Commit v s digest → ⊥) →
    ((v : ℕ) (base : Option ℕ) (items : List Item) → w ≡ word.Report v base items → ⊥)
    → ((v : ℕ) (reports : List Ref) → w ≡ word.NewView v reports → ⊥) → ((j k : ℕ) → w ≡ word.Give j k → ⊥) →
    ((s : ℕ) → w ≡ word.GiveOrdered s → ⊥)
    → plain_body w ≡ body_of g known w
unfolding body_of
others-plain g known (word.PoRequest k update) a b c d e f h i j = absurd (a k update refl)
others-plain g known (word.PoAck x k digest) a b c d e f h i j = absurd (b x k digest refl)
others-plain g known (word.PrePrepare v s frames) a b c d e f h i j = absurd (c v s frames refl)
others-plain g known (word.Prepare v s digest) a b c d e f h i j = absurd (d v s digest refl)
others-plain g known (word.Commit v s digest) a b c d e f h i j = absurd (e v s digest refl)
others-plain g known (word.Report v base items) a b c d e f h i j = absurd (f v base items refl)
others-plain g known (word.NewView v reports) a b c d e f h i j = absurd (h v reports refl)
others-plain g known (word.Give x k) a b c d e f h i j = absurd (i x k refl)
others-plain g known (word.GiveOrdered s) a b c d e f h i j = absurd (j s refl)
others-plain g known _ a b c d e f h i j = refl
