-- A loop that reads items keeps: those read so far, with what stands there, are the whole list.
use Rattle.std.proofs.Common.{◌≡◌, ◌<◌, ◌+◌, ◌-◌, ℕ, suc, List, [], ◌∷◌, ◌++◌, refl, sym, ap, ◌∙◌, arith}
use Rattle.std.proofs.Common.{append_assoc}
use Rattle.std.specs.Prelude.{Option, Result, Ok, Err}
use Rattle.wire_parts.specs.View.{View}
use Rattle.message_forms.specs.declared.refusal.FormRefusal.{FormRefusal}
use Rattle.message_forms.specs.declared.refusal.FormRefusal.TheVariants as fault
use Rattle.message_forms.specs.Grammar.{Reading, ◌>>=◌, items_at}
use Rattle.message_forms.specs.Gives.{Fails}

abbrev pub with_front : {X : Type 0} → List X → Reading (List X) → Reading (List X)
with_front front read = read >>= λ xs. Ok (front ++ xs.0, xs.1)

-- what fails, fails with what it stands in
pub Fails-within : {X Y : Type 0} (e : FormRefusal) (inner : Result X FormRefusal) (outer : Result Y FormRefusal)
    → ((f : FormRefusal) → inner ≡ Err f → outer ≡ Err f) → Fails e inner → Fails e outer
Fails-within fault.Want inner outer same h = tt
Fails-within (fault.Short p) inner outer same h = same _ h
Fails-within (fault.Trailing p) inner outer same h = same _ h
Fails-within (fault.UnknownKind p) inner outer same h = same _ h
Fails-within (fault.TooMany p) inner outer same h = same _ h
Fails-within (fault.BadOrder p) inner outer same h = same _ h
Fails-within (fault.TooLong p) inner outer same h = same _ h

module _ {X : Type 0} (item : Option ℕ → View → Reading X) (key : X → Option ℕ) where
  regrouped : (front : List X) (x : X) (rest : Reading (List X))
      → with_front front (rest >>= λ xs. Ok (x ∷ xs.0, xs.1)) ≡ with_front (front ++ x ∷ []) rest
  regrouped front x (Ok xs) = ap (λ all. Ok (all, xs.1)) (sym (append_assoc front (x ∷ []) xs.0))
  regrouped front x (Err e) = refl

  one_more : (front : List X) (n : ℕ) (before : Option ℕ) (v w : View) (x : X) → item before v ≡ Ok (x, w)
      → with_front front (items_at item key (suc n) before v) ≡ with_front (front ++ x ∷ [])
      (items_at item key n (key x) w)
  one_more front n before v w x is =
      ap (λ read. with_front front (read >>= λ y. items_at item key n (key y.0) y.1 >>= λ xs. Ok (y.0 ∷ xs.0, xs.1))) is
      ∙ regrouped front x (items_at item key n (key x) w)

  stops : (front : List X) (n : ℕ) (before : Option ℕ) (v : View) (e : FormRefusal) → item before v ≡ Err e
      → with_front front (items_at item key (suc n) before v) ≡ Err e
  stops front n before v e is =
      ap (λ read. with_front front (read >>= λ y. items_at item key n (key y.0) y.1 >>= λ xs. Ok (y.0 ∷ xs.0, xs.1))) is

  pub keeps : (front : List X) (count i : ℕ) (before : Option ℕ) (v w : View) (x : X) (whole : Reading (List X)) →
      i < count
      → item before v ≡ Ok (x, w)
      → with_front front (items_at item key (count - i) before v) ≡ whole
      → with_front (front ++ x ∷ []) (items_at item key (count - (i + 1)) (key x) w) ≡ whole
  keeps front count i before v w x whole less is kept =
      let more : count - i ≡ suc (count - (i + 1)) = omega arith in
      sym (one_more front (count - (i + 1)) before v w x is)
      ∙ ap (λ n. with_front front (items_at item key n before v)) (sym more) ∙ kept

  pub fails : (front : List X) (count i : ℕ) (before : Option ℕ) (v : View) (whole : Reading (List X)) (e : FormRefusal)
      → i < count → with_front front (items_at item key (count - i) before v) ≡ whole →
      Fails e (item before v) → Fails e whole
  fails front count i before v whole e less kept h =
      Fails-within e (item before v) whole
      (λ f is. let more : count - i ≡ suc (count - (i + 1)) = omega arith in
      sym kept ∙ ap (λ n. with_front front (items_at item key n before v)) more
      ∙ stops front (count - (i + 1)) before v f is) h
