-- What holds where there is a value, from what holds of it.
use Rattle.std.proofs.Common.{Result, Ok, Err, IfOk, OnOk}

pub if_ok : {A E : Type 0} {P Q : A → Type 0} (r : Result A E) → IfOk r P → ((x : A) → P x → Q x) → IfOk r Q
if_ok (Ok x) p f = f x p
if_ok (Err e) p f = tt

pub on_ok : {A E P Q : Type 0} (r : Result A E) → OnOk r P → (P → Q) → OnOk r Q
on_ok (Ok x) p f = f p
on_ok (Err e) p f = tt

pub both_on_ok : {A E R : Type 0} {P Q : A → Type 0} (r : Result A E) → IfOk r P → IfOk r Q →
    ((x : A) → P x → Q x → R) → OnOk r R
both_on_ok (Ok x) p q f = f x p q
both_on_ok (Err e) p q f = tt
