-- What an entry more counts for: turns made, inputs used, words signed.
use Rattle.std.proofs.Common.{◌≡◌, ℕ, suc, ◌+◌, ◌<◌, Bool, true, false, cond, not, List, [], ◌∷◌, ◌++◌, Option, Some}
use Rattle.std.proofs.Common.{None, length, filter, take, refl, sym, ◌∙◌, ap, arith}
use Rattle.std.proofs.lemmas.List.{length-append}
use Rattle.std.proofs.lemmas.List.Elements.{filter-append}
use Rattle.play_words.specs.declared.input.Input.{Input}
use Rattle.history_rules.specs.Events.{Event, Entry}
use Rattle.station_turns.specs.Pace.{is_skip, is_outside, turns_made, inputs_used, next_input, signs_word}
use Rattle.station_turns.specs.Pace.{words_signed}
use Rattle.plain_lists.proofs.Lists.{take_suc}

count_one : {X : Type 0} (f : X → Bool) (x : X) (b : Bool) → f x ≡ b → length (filter f (x ∷ [])) ≡ cond b 1 0
count_one f x b is = ap (λ (c : Bool). length (cond c (x ∷ []) [])) is ∙ by b
  where
    by : (c : Bool) → length (cond c (x ∷ []) []) ≡ cond c 1 0
    by true = refl
    by false = refl

count_push : {X : Type 0} (f : X → Bool) (xs : List X) (x : X) (b : Bool) → f x ≡ b →
    length (filter f (xs ++ x ∷ [])) ≡ length (filter f xs) + cond b 1 0
count_push f xs x b is =
    ap length (filter-append f xs (x ∷ []))
    ∙ length-append (filter f xs) (filter f (x ∷ []))
    ∙ ap (λ (n : ℕ). length (filter f xs) + n) (count_one f x b is)

pub turn_more : (list : List Entry) (e : Entry) → is_skip e.event ≡ false →
    turns_made (list ++ e ∷ []) ≡ turns_made list + 1
unfolding turns_made
turn_more list e other = count_push (λ (x : Entry). not (is_skip x.event)) list e true (ap not other)

pub turn_same : (list : List Entry) (e : Entry) → is_skip e.event ≡ true → turns_made (list ++ e ∷ []) ≡ turns_made list
unfolding turns_made
turn_same list e skip = count_push (λ (x : Entry). not (is_skip x.event)) list e false (ap not skip) ∙ omega arith

pub input_more : (list : List Entry) (e : Entry) → is_outside e.event ≡ true →
    inputs_used (list ++ e ∷ []) ≡ inputs_used list + 1
unfolding inputs_used
input_more list e outside = count_push (λ (x : Entry). is_outside x.event) list e true outside

pub input_same : (list : List Entry) (e : Entry) → is_outside e.event ≡ false →
    inputs_used (list ++ e ∷ []) ≡ inputs_used list
unfolding inputs_used
input_same list e inside = count_push (λ (x : Entry). is_outside x.event) list e false inside ∙ omega arith

pub no_turns : turns_made [] ≡ 0
unfolding turns_made
no_turns = refl

pub no_inputs : inputs_used [] ≡ 0
unfolding inputs_used
no_inputs = refl

pub no_words : (inputs : List Input) → words_signed inputs [] ≡ 0
unfolding words_signed inputs_used
no_words inputs = refl

pub signed_same : (inputs : List Input) (list more : List Entry) → inputs_used more ≡ inputs_used list →
    words_signed inputs more ≡ words_signed inputs list
unfolding words_signed
signed_same inputs list more same = ap (λ (n : ℕ). length (filter signs_word (take n inputs))) same

pub signed_more : (inputs : List Input) (list more : List Entry) (x : Input) → next_input inputs list ≡ Some x →
    inputs_used more ≡ inputs_used list + 1
    → words_signed inputs more ≡ words_signed inputs list + cond (signs_word x) 1 0
unfolding words_signed
signed_more inputs list more x next used =
    let one : inputs_used list + 1 ≡ suc (inputs_used list) = omega arith in
    ap (λ (n : ℕ). length (filter signs_word (take n inputs))) (used ∙ one)
    ∙ ap (λ (xs : List Input). length (filter signs_word xs)) (take_suc inputs (inputs_used list) x next)
    ∙ count_push signs_word (take (inputs_used list) inputs) x (signs_word x) refl
