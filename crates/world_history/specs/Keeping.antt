-- What an actor's keeper has had and has. (This project's own: each entry is kept before its words are posted, and the
-- first call that fails is the last.)
use Rattle.std.specs.Prelude.{◌≡◌, ℕ, zero, suc, Bool, true, false, ◌&&◌, List, length, nat_le, if◌then◌else◌, Ok}
use Rattle.std.specs.Prelude.{Err}
use Rattle.std.specs.List.{list_any}
use Rattle.outside.specs.declared.keepers.KeepAnswer.TheVariants as answer
use Rattle.outside.specs.Keepers.{Binder, BinderAppends, call_fails, after_call, after_fault}
use Rattle.history_rules.specs.Events.{Entry}
use Rattle.history_rules.specs.Setup.{Setup}
use Rattle.history_rules.specs.Keeping.{keeper_calls, is_halted}
use Rattle.world_history.specs.Lists.{before_last, texts_of}

-- one of the first so many calls fails
abbrev pub fails_within : List ℕ → ℕ → Bool
fails_within failing many = list_any (λ x. nat_le 1 x && nat_le x many) failing

-- how many of so many calls are made: those up to the first that fails, and this one
abbrev pub calls_made : List ℕ → ℕ → ℕ
calls_made failing zero = zero
calls_made failing (suc many) = if fails_within failing many then calls_made failing many else suc many

-- the entries that the keeper has: all but one that halted the actor
abbrev pub entries_kept : Setup → ℕ → List Entry → List Entry
entries_kept w actor list = if is_halted w actor list then before_last list else list

-- The keeper was made with the actor's failing calls, had just the calls that its entries make, up to the first that
-- fails, and has the bytes of its entries, without one that halted the actor.
pub record GoesWith (w : Setup) (actor : ℕ) (list : List Entry) (k : Binder) : Type 0 where
  pub failing : k.failing ≡ w.failing actor
  pub calls : k.calls ≡ calls_made (w.failing actor) (length (keeper_calls list))
  pub entries : k.entries ≡ texts_of (entries_kept w actor list)

-- An append that kept its entry, or failed and kept nothing.
abbrev pub Appended : Binder → List ℕ → Bool → Binder → Type 0
Appended before text true after = BinderAppends before text (Ok tt) after
Appended before text false after = BinderAppends before text (Err answer.Failed) after

-- A reading that gave the entries, or failed. It leaves them as they are.
abbrev pub HasRead : Binder → Bool → Binder → Type 0
HasRead before true after = (call_fails before ≡ false) × (after ≡ after_call before)
HasRead before false after = (call_fails before ≡ true) × (after ≡ after_fault before)
